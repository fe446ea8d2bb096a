-- A step is one of the code frame on top, as the effect of its instruction, or a change where no code
-- frame is on top.
use Rattle.std.proofs.Common.{◌≡◌, ℕ, ◌⊎◌, inl, inr, ◌&&◌, not, Bool, true, false, List, [], ◌∷◌, None, Some, refl, subst, if◌then◌else◌}
use Rattle.th_base.specs.declared.lifecycle.Lifecycle.{Lifecycle}
use Rattle.th_base.specs.declared.number.MethodId.{MethodId}
use Rattle.th_syntax.specs.declared.class_file.ClassFile.{ClassFile}
use Rattle.th_syntax.specs.declared.event.Event.{Event}
use Rattle.th_syntax.specs.declared.instr.Instr.{Instr}
use Rattle.th_syntax.specs.declared.machine.Slot.{Slot}
use Rattle.th_syntax.specs.declared.machine.Frame.{Frame}
use Rattle.th_syntax.specs.declared.machine.Frame.TheVariants.{Code as CodeFrame, Init as InitFrame, Launch as LaunchFrame}
use Rattle.th_syntax.specs.declared.machine.State.{State}
use Rattle.th_syntax.specs.Program.{instr_at}
use Rattle.th_syntax.specs.Effects.{after}
use Rattle.th_syntax.specs.Step.{effect, step_frames}
use Rattle.th_syntax.specs.Harness.{is_idle, happened}
use Rattle.th_syntax.specs.Changes.{top_at, HasNoWaiting, IsChange}
use Rattle.th_syntax.specs.Run.{Follows}
use Rattle.th_syntax.proofs.Inverting.{and_then_some}
use Rattle.th_syntax.proofs.Changing.{changed}

-- a step of the code frame on top
pub record IsCodeStep (files : List ClassFile) (s w : State) : Type 0 where
  pub method : MethodId
  pub offset : ℕ
  pub locals : List Slot
  pub stack : List Slot
  pub below : List Frame
  pub runs : s.frames ≡ CodeFrame method offset locals stack ∷ below
  pub i : Instr
  pub stands : instr_at files method.0 offset ≡ Some i
  pub gives : after files (top_at s method offset locals stack below) (effect files (top_at s method offset locals stack below) i) ≡ Some w

by_frames : (files : List ClassFile) (s w : State) (frames : List Frame) → s.frames ≡ frames → step_frames files s frames ≡ Some w → IsCodeStep files s w ⊎ HasNoWaiting frames
by_frames files s w [] is e = inr tt
by_frames files s w (CodeFrame method offset locals stack ∷ below) is e =
    let i = and_then_some (λ (i : Instr). after files (top_at s method offset locals stack below) (effect files (top_at s method offset locals stack below) i)) (instr_at files method.0 offset) w e in
    inl (record { method = method; offset = offset; locals = locals; stack = stack; below = below; runs = is; i = i.0; stands = i.1; gives = i.2 })
by_frames files s w (InitFrame c stage ∷ below) is e = inr tt
by_frames files s w (LaunchFrame c stage ∷ below) is e = inr tt

by_end : (files : List ClassFile) (s w : State) (ended : Bool) → (if ended then None else step_frames files s s.frames) ≡ Some w → IsCodeStep files s w ⊎ HasNoWaiting s.frames
by_end files s w true e = absurd cc
by_end files s w false e = by_frames files s w s.frames refl e

no_waiting : (frames : List Frame) → is_idle frames ≡ true → HasNoWaiting frames
no_waiting [] e = tt
no_waiting (f ∷ fs) e = absurd cc

by_event : (lifecycle : Lifecycle) (files : List ClassFile) (s w : State) (e : Event) (ended idle : Bool) → is_idle s.frames ≡ idle → (if not ended && idle then happened lifecycle files s e else None) ≡ Some w → HasNoWaiting s.frames
by_event lifecycle files s w e true idle is h = absurd cc
by_event lifecycle files s w e false true is h = no_waiting s.frames is
by_event lifecycle files s w e false false is h = absurd cc

-- a step or an event
pub stepped : (lifecycle : Lifecycle) (files : List ClassFile) (s w : State) → Follows lifecycle files s w → IsCodeStep files s w ⊎ (HasNoWaiting s.frames × IsChange lifecycle files s w)
stepped lifecycle files s w (inl e) =
    elim (by_end files s w s.ended e) [ inl code ↦ inl code | inr none ↦ inr (none, changed lifecycle files s w (inl e)) ]
stepped lifecycle files s w (inr h) = inr (by_event lifecycle files s w h.0 s.ended (is_idle s.frames) refl h.1, changed lifecycle files s w (inr h))

-- a code frame on top is none
pub no_code : {A : Type 0} (s : State) (frames : List Frame) → HasNoWaiting s.frames → s.frames ≡ frames → (HasNoWaiting frames → ⊥) → A
no_code s frames none is apart = absurd (apart (subst HasNoWaiting is none))
