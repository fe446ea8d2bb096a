-- Calls nest: how frames lie before and after a step, and from where a frame comes.
use Rattle.std.proofs.Common.{◌≡◌, ℕ, ◌⊎◌, inl, inr, List, [], ◌∷◌, ◌++◌, Option, Some, refl, sym, ap, subst, ◌∙◌}
use Rattle.std.specs.Option.{option_map}
use Rattle.th_base.specs.declared.class.ClassInfo.{ClassInfo}
use Rattle.th_ir.specs.declared.program.RegProgram.{RegProgram}
use Rattle.th_ir.specs.declared.program.Node.{Node}
use Rattle.th_ir.specs.declared.stmt.Stmt.{Stmt}
use Rattle.th_ir.specs.declared.stmt.Stmt.TheVariants.{Call, Init}
use Rattle.th_ir.specs.Program.{node_at}
use Rattle.th_ir.specs.Machine.{RegValue, RegObject, RegFrame, RegState}
use Rattle.th_ir.specs.Effects.{Change, Sets, SetsStatic, SetsField, SetsElement, Makes, Enters, Leaves, Effect}
use Rattle.th_ir.specs.Step.{moved, GoesOn, Resumes, Returns, Happens, StepFrom, RegStep, RegRun}
use Rattle.th_ir.specs.Nesting.{HasEntered, StandsOn, IsNest}

-- ---- one step

-- how the frames of a state and of the next one lie
pub data FramesStep (h : List ClassInfo) (p : RegProgram) (s u : RegState) : Type 0 where
  kept : (f k : RegFrame) (below : List RegFrame) → s.frames ≡ f ∷ below → u.frames ≡ k ∷ below → k.method ≡ f.method → FramesStep h p s u
  pushed : (k : RegFrame) (lower : List RegFrame) → s.frames ≡ lower → u.frames ≡ k ∷ lower → HasEntered h p s lower k.method u → FramesStep h p s u
  popped : (f g k : RegFrame) (below : List RegFrame) → s.frames ≡ f ∷ g ∷ below → u.frames ≡ k ∷ below → k.method ≡ g.method → FramesStep h p s u
  emptied : (f : RegFrame) → s.frames ≡ f ∷ [] → u.frames ≡ [] → FramesStep h p s u

pub same_frames : (u t : RegState) → u ≡ t → u.frames ≡ t.frames
same_frames u t e = ap (λ (s : RegState). s.frames) e

kept_by : (h : List ClassInfo) (p : RegProgram) (s u : RegState) (f : RegFrame) (below : List RegFrame) (node : Node) (regs : ℕ → RegValue) (heap : List RegObject) (statics : ℕ → RegValue) → s.frames ≡ f ∷ below
    → GoesOn s f below node regs heap statics u → FramesStep h p s u
kept_by h p s u f below node regs heap statics is step =
    kept f (moved f step.next.0 regs) below is (same_frames u (record { heap = heap; statics = statics; frames = moved f step.next.0 regs ∷ below; launched = s.launched }) step.after) refl

popped_by : (h : List ClassInfo) (p : RegProgram) (s u : RegState) (f g : RegFrame) (below : List RegFrame) (v : Option RegValue) (node : Node) (stmt : Stmt) → s.frames ≡ f ∷ g ∷ below → Resumes s v g below node stmt u → FramesStep h p s u
popped_by h p s u f g below v node (Call dst kind m args) is step = popped f g _ below is (same_frames u _ step.after) refl
popped_by h p s u f g below v node (Init k) is step = popped f g g below is (same_frames u (record s { frames = g ∷ below }) step) refl
popped_by h p s u f g below v node stmt is step = absurd step

left_by : (h : List ClassInfo) (p : RegProgram) (s u : RegState) (f : RegFrame) (below : List RegFrame) (v : Option RegValue) → s.frames ≡ f ∷ below → Returns p s f below v u → FramesStep h p s u
left_by h p s u f [] v is step = emptied f is (same_frames u _ step)
left_by h p s u f (g ∷ below) v is step = popped_by h p s u f g below v step.0 step.0.stmt is step.2

changed_by : (h : List ClassInfo) (p : RegProgram) (s u : RegState) (f : RegFrame) (below : List RegFrame) (node : Node) (c : Change) → s.frames ≡ f ∷ below → node_at p f.node ≡ Some node → Effect h p s f.regs node.stmt c
    → Happens p s f below node c u → FramesStep h p s u
changed_by h p s u f below node (Sets ws) is stands effect step = kept_by h p s u f below node _ _ _ is step
changed_by h p s u f below node (SetsStatic g v) is stands effect step = kept_by h p s u f below node _ _ _ is step
changed_by h p s u f below node (SetsField a g v) is stands effect step = kept_by h p s u f below node _ _ _ is step
changed_by h p s u f below node (SetsElement a k v) is stands effect step = kept_by h p s u f below node _ _ _ is step
changed_by h p s u f below node (Makes dst o) is stands effect step = kept_by h p s u f below node _ _ _ is step
changed_by h p s u f below node (Enters m arguments) is stands effect step =
    pushed _ (f ∷ below) is (same_frames u _ step.after) record { node = node; stands = stands; arguments = arguments; effect = effect; begins = step }
changed_by h p s u f below node (Leaves src) is stands effect step = left_by h p s u f below (option_map f.regs src) is step

stepped : (h : List ClassInfo) (p : RegProgram) (s u : RegState) (frames : List RegFrame) → s.frames ≡ frames → StepFrom h p s frames u → FramesStep h p s u
stepped h p s u [] is step = pushed _ [] is (same_frames u _ step.begins.after) record { method = step.method; listed = step.listed; number = refl; begins = step.begins }
stepped h p s u (f ∷ below) is step = changed_by h p s u f below step.node step.change is step.stands step.effect step.happens

pub frames_step : (h : List ClassInfo) (p : RegProgram) (s u : RegState) → RegStep h p s u → FramesStep h p s u
frames_step h p s u step = stepped h p s u s.frames refl step

-- ---- where a frame comes from

pub head_is : {A : Type 0} (x y : A) (xs ys : List A) → (let l : List A = x ∷ xs in l) ≡ y ∷ ys → x ≡ y
head_is x y xs ys e = cc

pub tail_is : {A : Type 0} (x y : A) (xs ys : List A) → (let l : List A = x ∷ xs in l) ≡ y ∷ ys → xs ≡ ys
tail_is x y xs ys e = cc

pub not_empty : (upper : List RegFrame) (f : RegFrame) (lower : List RegFrame) → (let l : List RegFrame = [] in l) ≡ upper ++ f ∷ lower → ⊥
not_empty [] f lower e = cc
not_empty (x ∷ upper) f lower e = cc

-- the frame began with this step, or stood there before it
abbrev pub CameFrom : List ClassInfo → RegProgram → RegState → RegState → List RegFrame → ℕ → Type 0
CameFrom h p s u lower m = ((s.frames ≡ lower) × HasEntered h p s lower m u) ⊎ StandsOn lower m s

came_from : (h : List ClassInfo) (p : RegProgram) (s u : RegState) (upper : List RegFrame) (f : RegFrame) (lower : List RegFrame) → u.frames ≡ upper ++ f ∷ lower → FramesStep h p s u → CameFrom h p s u lower f.method
came_from h p s u [] f lower e (kept g k below is next same) =
    let k_is = head_is k f below lower (sym next ∙ e) in let below_is = tail_is k f below lower (sym next ∙ e) in
    inr record { upper = []; frame = g; frames = is ∙ ap (λ (l : List RegFrame). g ∷ l) below_is; method = sym same ∙ ap (λ (x : RegFrame). x.method) k_is }
came_from h p s u (x ∷ upper) f lower e (kept g k below is next same) =
    let below_is = tail_is k x below (upper ++ f ∷ lower) (sym next ∙ e) in
    inr record { upper = g ∷ upper; frame = f; frames = is ∙ ap (λ (l : List RegFrame). g ∷ l) below_is; method = refl }
came_from h p s u [] f lower e (pushed k outer is next entered) =
    let k_is = head_is k f outer lower (sym next ∙ e) in let outer_is = tail_is k f outer lower (sym next ∙ e) in
    inl (is ∙ outer_is, subst (λ (x : RegFrame). HasEntered h p s lower x.method u) k_is (subst (λ (l : List RegFrame). HasEntered h p s l k.method u) outer_is entered))
came_from h p s u (x ∷ upper) f lower e (pushed k outer is next entered) =
    let outer_is = tail_is k x outer (upper ++ f ∷ lower) (sym next ∙ e) in
    inr record { upper = upper; frame = f; frames = is ∙ outer_is; method = refl }
came_from h p s u [] f lower e (popped g outer k below is next same) =
    let k_is = head_is k f below lower (sym next ∙ e) in let below_is = tail_is k f below lower (sym next ∙ e) in
    inr record { upper = g ∷ []; frame = outer; frames = is ∙ ap (λ (l : List RegFrame). g ∷ outer ∷ l) below_is; method = sym same ∙ ap (λ (x : RegFrame). x.method) k_is }
came_from h p s u (x ∷ upper) f lower e (popped g outer k below is next same) =
    let below_is = tail_is k x below (upper ++ f ∷ lower) (sym next ∙ e) in
    inr record { upper = g ∷ outer ∷ upper; frame = f; frames = is ∙ ap (λ (l : List RegFrame). g ∷ outer ∷ l) below_is; method = refl }
came_from h p s u upper f lower e (emptied g is next) = absurd (not_empty upper f lower (sym next ∙ e))

pub nested : (h : List ClassInfo) (p : RegProgram) (before : List RegState) (s : RegState) → RegRun h p (s ∷ before) → (lower : List RegFrame) (m : ℕ) → StandsOn lower m s → IsNest h p (s ∷ before) lower m
nested h p [] s run lower m on = absurd (not_empty on.upper on.frame lower (sym (ap (λ (x : RegState). x.frames) run) ∙ on.frames))
nested h p (r ∷ before) s run lower m on =
    let from : CameFrom h p r s lower m = subst (CameFrom h p r s lower) on.method (came_from h p r s on.upper on.frame lower on.frames (frames_step h p r s run.0)) in
    elim from [
      | inl began ↦ record { since = []; first = s; outer = r; earlier = before; parts = refl; outer_run = run.1; outer_frames = began.0; entered = began.1; stand = tt }
      | inr stood ↦
          let nest = nested h p before r run.1 lower m stood in
          record {
            since = s ∷ nest.since;
            first = nest.first;
            outer = nest.outer;
            earlier = nest.earlier;
            parts = ap (λ (l : List RegState). s ∷ l) nest.parts;
            outer_run = nest.outer_run;
            outer_frames = nest.outer_frames;
            entered = nest.entered;
            stand = (on, nest.stand);
          }
    ]
