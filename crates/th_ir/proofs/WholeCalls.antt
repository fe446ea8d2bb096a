-- From the entry of a method on, as long as its frame stands, nothing changes but what its summary says.
use Rattle.std.proofs.Common.{◌≡◌, ℕ, true, List, [], ◌∷◌, ◌++◌, length, Some, refl, sym, ap, subst, arith, length-append, ◌∙◌}
use Rattle.std.specs.List.{AllByRecursion}
use Rattle.th_base.specs.declared.class.ClassInfo.{ClassInfo}
use Rattle.th_ir.specs.declared.program.RegProgram.{RegProgram}
use Rattle.th_ir.specs.declared.program.Node.{Node}
use Rattle.th_ir.specs.Program.{node_at}
use Rattle.th_ir.specs.Machine.{RegFrame, RegState}
use Rattle.th_ir.specs.Effects.{Change, Enters, Effect}
use Rattle.th_ir.specs.Step.{StepFrom, RegStep, RegRun}
use Rattle.th_ir.specs.FactSets.{FactSets}
use Rattle.th_ir.specs.Rules.{HoldsRules}
use Rattle.th_ir.specs.Summaries.{ModSets, IsPart, Sums, HoldsSums}
use Rattle.th_ir.specs.WellFormed.{IsWellFormed}
use Rattle.th_ir.specs.Good.{IsFrame, AreStacked, IsGood}
use Rattle.th_ir.specs.Nesting.{HasEntered, StandsOn}
use Rattle.th_ir.specs.Unchanged.{IsUnchanged, IsWithinCall, IsPassed, last_of}
use Rattle.th_ir.proofs.Changes.{AtNode, node_within, Allowed}
use Rattle.th_ir.proofs.Allowed.{allowed}
use Rattle.th_ir.proofs.Runs.{reachable_good}
use Rattle.th_ir.proofs.Nests.{FramesStep, kept, pushed, popped, emptied, nested, frames_step, head_is, tail_is, not_empty}
use Rattle.th_ir.proofs.Touches.{Touches, touches, same_data, step_unchanged, widened, joined}

-- ---- parts of a summary

part_of : (mods : ModSets) (a b c : ℕ) → IsPart mods a b → IsPart mods b c → IsPart mods a c
part_of mods a b c left right = record {
  fields = λ x e. right.fields x (left.fields x e);
  statics = λ x e. right.statics x (left.statics x e);
  elements = λ e. right.elements (left.elements e);
  sites = λ x e. right.sites x (left.sites x e);
}

itself : (mods : ModSets) (m : ℕ) → IsPart mods m m
itself mods m = record { fields = λ x e. e; statics = λ x e. e; elements = λ e. e; sites = λ x e. e }

-- the frames above these are of methods whose summaries are parts of the method's
pub record IsInside (mods : ModSets) (m : ℕ) (lower : List RegFrame) (u : RegState) : Type 0 where
  pub upper : List RegFrame
  pub frames : u.frames ≡ upper ++ lower
  pub parts : AllByRecursion (λ (x : RegFrame). IsPart mods x.method m) upper

-- ---- one step

-- a list isn't its own proper end
longer : (xs : List RegFrame) (f : RegFrame) (ys : List RegFrame) → ys ≡ xs ++ f ∷ ys → ⊥
longer xs f ys e = let same : length ys ≡ length (xs ++ f ∷ ys) = ap length e in omega (arith, length-append xs (f ∷ ys))

two_longer : (xs : List RegFrame) (f g k : RegFrame) (ys : List RegFrame) → (let l : List RegFrame = k ∷ ys in l) ≡ xs ++ f ∷ g ∷ ys → ⊥
two_longer xs f g k ys e = let same : length (let l : List RegFrame = k ∷ ys in l) ≡ length (xs ++ f ∷ g ∷ ys) = ap length e in omega (arith, length-append xs (f ∷ g ∷ ys))

-- what the statement at the innermost frame's node does is within the summary of the frame's method
touched : (h : List ClassInfo) (p : RegProgram) (t : FactSets) (mods : ModSets) (u : RegState) (x : RegFrame) (below : List RegFrame) (node : Node) (c : Change) → IsWellFormed h p → HoldsRules h p t → HoldsSums h p t mods → IsGood h p t u
    → u.frames ≡ x ∷ below → node_at p x.node ≡ Some node → Effect h p u x.regs node.stmt c → Touches mods x.method c
touched h p t mods u x below node c wf rules sums good is stands effect =
    let all : AllByRecursion (IsFrame p t u.heap u.launched) (x ∷ below) = subst (AllByRecursion (IsFrame p t u.heap u.launched)) is good.frames in
    let at : AtNode h p t u x below node = record { good = good; frames = all; stack = subst (AreStacked h p t) is good.stack; stands = stands } in
    let inside = node_within p t u.heap u.launched x node all.0 stands in
    let may : Allowed h p t u x node c = allowed h p t u x below node c wf rules at effect in
    touches h p t mods u x.regs x.method x.node node.stmt c (subst (λ (k : ℕ). Sums h t mods k x.node node.stmt) inside (sums x.node node stands))
    (λ to arguments e. (subst (Allowed h p t u x node) e may).waits) effect

frames_inside : (h : List ClassInfo) (p : RegProgram) (mods : ModSets) (m : ℕ) (lower : List RegFrame) (u v : RegState) (x : RegFrame) (upper : List RegFrame) → u.frames ≡ x ∷ upper ++ lower → IsPart mods x.method m
    → AllByRecursion (λ (y : RegFrame). IsPart mods y.method m) upper → ((node : Node) (c : Change) → node_at p x.node ≡ Some node → Effect h p u x.regs node.stmt c → Touches mods x.method c) → StandsOn lower m v → FramesStep h p u v → IsInside mods m lower v
frames_inside h p mods m lower u v x upper e part parts touch on (kept f k below is next same) =
    let f_is = head_is f x below (upper ++ lower) (sym is ∙ e) in
    record {
      upper = k ∷ upper;
      frames = next ∙ ap (λ (l : List RegFrame). k ∷ l) (tail_is f x below (upper ++ lower) (sym is ∙ e));
      parts = (subst (λ (j : ℕ). IsPart mods j m) (sym (same ∙ ap (λ (y : RegFrame). y.method) f_is)) part, parts);
    }
frames_inside h p mods m lower u v x upper e part parts touch on (pushed k outer is next entered) =
    let outer_is : outer ≡ x ∷ upper ++ lower = sym is ∙ e in
    let from : HasEntered h p u (x ∷ upper ++ lower) k.method v = subst (λ (l : List RegFrame). HasEntered h p u l k.method v) outer_is entered in
    let inner : IsPart mods k.method x.method = touch from.node (Enters k.method from.arguments) from.stands from.effect in
    record { upper = k ∷ x ∷ upper; frames = next ∙ ap (λ (l : List RegFrame). k ∷ l) outer_is; parts = (part_of mods k.method x.method m inner part, (part, parts)) }
frames_inside h p mods m lower u v x [] e part parts touch on (popped f g k below is next same) =
    let lower_is : (let l : List RegFrame = g ∷ below in l) ≡ lower = tail_is f x (g ∷ below) lower (sym is ∙ e) in
    absurd (two_longer on.upper on.frame g k below (sym next ∙ on.frames ∙ ap (λ (l : List RegFrame). on.upper ++ on.frame ∷ l) (sym lower_is)))
frames_inside h p mods m lower u v x (y ∷ upper) e part parts touch on (popped f g k below is next same) =
    let rest : (let l : List RegFrame = g ∷ below in l) ≡ y ∷ upper ++ lower = tail_is f x (g ∷ below) (y ∷ upper ++ lower) (sym is ∙ e) in
    record {
      upper = k ∷ upper;
      frames = next ∙ ap (λ (l : List RegFrame). k ∷ l) (tail_is g y below (upper ++ lower) rest);
      parts = (subst (λ (j : ℕ). IsPart mods j m) (sym (same ∙ ap (λ (z : RegFrame). z.method) (head_is g y below (upper ++ lower) rest))) parts.0, parts.1);
    }
frames_inside h p mods m lower u v x upper e part parts touch on (emptied f is next) = absurd (not_empty on.upper on.frame lower (sym next ∙ on.frames))

-- a step within the call
one_more : (h : List ClassInfo) (p : RegProgram) (t : FactSets) (mods : ModSets) (m : ℕ) (lower : List RegFrame) (u v : RegState) (upper : List RegFrame) → IsWellFormed h p → HoldsRules h p t → HoldsSums h p t mods → IsGood h p t u
    → u.frames ≡ upper ++ lower → AllByRecursion (λ (x : RegFrame). IsPart mods x.method m) upper → StandsOn lower m u → StandsOn lower m v → RegStep h p u v → IsInside mods m lower v × IsUnchanged mods m u v
one_more h p t mods m lower u v [] wf rules sums good e parts here on step = absurd (longer here.upper here.frame lower (sym e ∙ here.frames))
one_more h p t mods m lower u v (x ∷ upper) wf rules sums good e parts here on step =
    let touch = touched h p t mods u x (upper ++ lower) in
    let s : StepFrom h p u (x ∷ upper ++ lower) v = subst (λ (l : List RegFrame). StepFrom h p u l v) e step in (
      frames_inside h p mods m lower u v x upper e parts.0 parts.1 (λ node c stands effect. touch node c wf rules sums good e stands effect) on (frames_step h p u v step),
      widened mods x.method m u v parts.0 (step_unchanged p mods x.method u v x (upper ++ lower) s.node s.change (touch s.node s.change wf rules sums good e s.stands s.effect) s.happens),
    )

-- ---- all steps

whole : (h : List ClassInfo) (p : RegProgram) (t : FactSets) (mods : ModSets) (m : ℕ) (lower : List RegFrame) (first : RegState) (earlier : List RegState) (f : RegFrame) → IsWellFormed h p → HoldsRules h p t → HoldsSums h p t mods → first.frames ≡ f ∷ lower → f.method ≡ m
    → (since : List RegState) → RegRun h p (since ++ first ∷ earlier) → AllByRecursion (StandsOn lower m) since → IsInside mods m lower (last_of since first) × IsUnchanged mods m first (last_of since first)
whole h p t mods m lower first earlier f wf rules sums begins method [] run stand =
    (record { upper = f ∷ []; frames = begins; parts = (subst (λ (k : ℕ). IsPart mods k m) (sym method) (itself mods m), tt) }, same_data mods m first first refl (λ k. refl))
whole h p t mods m lower first earlier f wf rules sums begins method (v ∷ []) run stand =
    let on : StandsOn lower m first = record { upper = []; frame = f; frames = begins; method = method } in
    one_more h p t mods m lower first v (f ∷ []) wf rules sums (reachable_good h p t wf rules first (earlier, run.1)) begins (subst (λ (k : ℕ). IsPart mods k m) (sym method) (itself mods m), tt) on stand.0 run.0
whole h p t mods m lower first earlier f wf rules sums begins method (v ∷ u ∷ since) run stand =
    let old = whole h p t mods m lower first earlier f wf rules sums begins method (u ∷ since) run.1 stand.1 in
    let next = one_more h p t mods m lower u v old.0.upper wf rules sums (reachable_good h p t wf rules u (since ++ first ∷ earlier, run.1)) old.0.frames old.0.parts stand.1.0 stand.0 run.0 in
    (next.0, joined mods m first u v old.1 next.1)

pub whole_call : (h : List ClassInfo) (p : RegProgram) (t : FactSets) (mods : ModSets) (m : ℕ) (since : List RegState) (first : RegState) (earlier : List RegState) (lower : List RegFrame) → IsWellFormed h p → HoldsRules h p t → HoldsSums h p t mods
    → IsWithinCall h p since first earlier lower m → IsUnchanged mods m first (last_of since first)
whole_call h p t mods m since first earlier lower wf rules sums call =
    (whole h p t mods m lower first earlier call.frame wf rules sums call.begins call.method since call.run call.stand).1

-- ---- from the state before a call

entered_frame : (h : List ClassInfo) (p : RegProgram) (mods : ModSets) (m : ℕ) (outer first : RegState) (lower : List RegFrame) → HasEntered h p outer lower m first → IsUnchanged mods m outer first × ((f : RegFrame) × (first.frames ≡ f ∷ lower) × (f.method ≡ m))
entered_frame h p mods m outer first [] entered =
    let after = entered.begins.after in
    (same_data mods m outer first (ap (λ (x : RegState). x.heap) after) (λ k. ap (λ (x : RegState). x.statics k) after), (_, ap (λ (x : RegState). x.frames) after, refl))
entered_frame h p mods m outer first (g ∷ below) entered =
    let after = entered.begins.after in
    (same_data mods m outer first (ap (λ (x : RegState). x.heap) after) (λ k. ap (λ (x : RegState). x.statics k) after), (_, ap (λ (x : RegState). x.frames) after, refl))

last_is : (since : List RegState) (first s : RegState) (earlier before : List RegState) → (let l : List RegState = s ∷ before in l) ≡ since ++ first ∷ earlier → last_of since first ≡ s
last_is [] first s earlier before e = sym cc
last_is (u ∷ since) first s earlier before e = sym cc

pub passed : (h : List ClassInfo) (p : RegProgram) (t : FactSets) (mods : ModSets) (m : ℕ) (s : RegState) (before : List RegState) (lower : List RegFrame) → IsWellFormed h p → HoldsRules h p t → HoldsSums h p t mods → RegRun h p (s ∷ before) → StandsOn lower m s
    → IsPassed h p mods (s ∷ before) lower m s
passed h p t mods m s before lower wf rules sums run on =
    let nest = nested h p before s run lower m on in
    let first = entered_frame h p mods m nest.outer nest.first lower nest.entered in
    let call : IsWithinCall h p nest.since nest.first (nest.outer ∷ nest.earlier) lower m =
    record { run = subst (RegRun h p) nest.parts run; frame = first.1.0; begins = first.1.1; method = first.1.2; stand = nest.stand } in
    let since = whole_call h p t mods m nest.since nest.first (nest.outer ∷ nest.earlier) lower wf rules sums call in
    record { nest = nest; unchanged = subst (IsUnchanged mods m nest.outer) (last_is nest.since nest.first s (nest.outer ∷ nest.earlier) before nest.parts) (joined mods m nest.outer nest.first (last_of nest.since nest.first) first.0 since) }
