-- A frame that isn't left stands, on the frames below it.
use Rattle.std.proofs.Common.{◌≡◌, ℕ, ◌<◌, List, [], ◌∷◌, ◌++◌, length, refl, sym, ap, subst, arith, ◌∙◌}
use Rattle.std.specs.List.{AllByRecursion}
use Rattle.th_base.specs.declared.class.ClassInfo.{ClassInfo}
use Rattle.th_ir.specs.declared.program.RegProgram.{RegProgram}
use Rattle.th_ir.specs.Machine.{RegFrame, RegState}
use Rattle.th_ir.specs.Nesting.{StandsOn}
use Rattle.th_ir.specs.Step.{RegStep, RegRun}
use Rattle.th_ir.specs.Unchanged.{IsWithinCall, last_of}
use Rattle.th_ir.proofs.Nests.{FramesStep, kept, pushed, popped, emptied, frames_step, head_is, tail_is}
use Rattle.th_mod.specs.Kept.{KeepsFrame}

next_stands : (h : List ClassInfo) (p : RegProgram) (s u : RegState) (upper : List RegFrame) (f : RegFrame) (lower : List RegFrame) → s.frames ≡ upper ++ f ∷ lower
    → length lower < length u.frames → FramesStep h p s u → StandsOn lower f.method u
next_stands h p s u [] f lower e deep (kept g k below is next same) =
    let first = head_is g f below lower (sym is ∙ e) in let rest = tail_is g f below lower (sym is ∙ e) in
    record { upper = []; frame = k; frames = next ∙ ap (λ (l : List RegFrame). k ∷ l) rest; method = same ∙ ap (λ (x : RegFrame). x.method) first }
next_stands h p s u (x ∷ upper) f lower e deep (kept g k below is next same) =
    let rest = tail_is g x below (upper ++ f ∷ lower) (sym is ∙ e) in
    record { upper = k ∷ upper; frame = f; frames = next ∙ ap (λ (l : List RegFrame). k ∷ l) rest; method = refl }
next_stands h p s u upper f lower e deep (pushed k outer is next entered) =
    record { upper = k ∷ upper; frame = f; frames = next ∙ ap (λ (l : List RegFrame). k ∷ l) (sym is ∙ e); method = refl }
next_stands h p s u [] f lower e deep (popped g outer k below is next same) =
    let rest = ap length (tail_is g f (outer ∷ below) lower (sym is ∙ e)) in let now = ap length next in
    absurd (omega (arith, deep, rest, now))
next_stands h p s u (x ∷ []) f lower e deep (popped g outer k below is next same) =
    let rest = tail_is g x (outer ∷ below) (f ∷ lower) (sym is ∙ e) in
    record {
      upper = [];
      frame = k;
      frames = next ∙ ap (λ (l : List RegFrame). k ∷ l) (tail_is outer f below lower rest);
      method = same ∙ ap (λ (y : RegFrame). y.method) (head_is outer f below lower rest);
    }
next_stands h p s u (x ∷ y ∷ upper) f lower e deep (popped g outer k below is next same) =
    let rest = tail_is g x (outer ∷ below) (y ∷ upper ++ f ∷ lower) (sym is ∙ e) in
    record { upper = k ∷ upper; frame = f; frames = next ∙ ap (λ (l : List RegFrame). k ∷ l) (tail_is outer y below (upper ++ f ∷ lower) rest); method = refl }
next_stands h p s u upper f lower e deep (emptied g is next) = let now = ap length next in absurd (omega (arith, deep, now))

stands_on : (h : List ClassInfo) (p : RegProgram) (s u : RegState) (lower : List RegFrame) (m : ℕ) → RegStep h p s u → length lower < length u.frames → StandsOn lower m s → StandsOn lower m u
stands_on h p s u lower m step deep on =
    subst (λ (k : ℕ). StandsOn lower k u) on.method (next_stands h p s u on.upper on.frame lower on.frames deep (frames_step h p s u step))

all_stand : (h : List ClassInfo) (p : RegProgram) (since : List RegState) (first : RegState) (earlier : List RegState) (lower : List RegFrame) (m : ℕ) → RegRun h p (since ++ first ∷ earlier)
    → StandsOn lower m first → AllByRecursion (λ s. length lower < length s.frames) since → AllByRecursion (StandsOn lower m) since × StandsOn lower m (last_of since first)
all_stand h p [] first earlier lower m run on deep = (tt, on)
all_stand h p (u ∷ []) first earlier lower m run on deep = let now = stands_on h p first u lower m run.0 deep.0 on in ((now, tt), now)
all_stand h p (u ∷ s ∷ since) first earlier lower m run on deep =
    let before = all_stand h p (s ∷ since) first earlier lower m run.1 on deep.1 in
    let now = stands_on h p s u lower m run.0 deep.0 before.1 in
    ((now, before.0), now)

pub kept_stands : (h : List ClassInfo) (p : RegProgram) (since : List RegState) (first : RegState) (earlier : List RegState) (lower : List RegFrame) (m : ℕ)
    → KeepsFrame h p since first earlier lower m → IsWithinCall h p since first earlier lower m × StandsOn lower m (last_of since first)
kept_stands h p since first earlier lower m is =
    let on : StandsOn lower m first = record { upper = []; frame = is.frame; frames = is.begins; method = is.method } in
    let stand = all_stand h p since first earlier lower m is.run on is.deep in
    (record { run = is.run; frame = is.frame; begins = is.begins; method = is.method; stand = stand.0 }, stand.1)
