-- An ended state is the last of its run, and the end changes the mark alone.
use Rattle.std.proofs.Common.{◌≡◌, inl, inr, ◌&&◌, not, Bool, true, false, List, None, Some, refl, if◌then◌else◌}
use Rattle.th_base.specs.declared.lifecycle.Lifecycle.{Lifecycle}
use Rattle.th_syntax.specs.declared.class_file.ClassFile.{ClassFile}
use Rattle.th_syntax.specs.declared.event.Event.{Event}
use Rattle.th_syntax.specs.declared.machine.State.{State}
use Rattle.th_syntax.specs.Step.{step_frames}
use Rattle.th_syntax.specs.Harness.{is_idle, happened}
use Rattle.th_syntax.specs.Run.{Follows}
use Rattle.th_syntax.specs.Changes.{IsChange, ends_run, moves, sets_a_static, sets_an_object, makes_an_instance, makes_an_array, opens_class, calls_method, returns_to, returns_off, finds_superclass, opens_superclass, calls_initialiser, calls_none, initialised_class, finds_class, opens_launched, makes_launched, launches_object, begins_launch, begins_handler}
use Rattle.th_syntax.proofs.Changing.{changed}

step_goes : (files : List ClassFile) (s w : State) (ended : Bool) → (if ended then None else step_frames files s s.frames) ≡ Some w → ended ≡ false
step_goes files s w true e = absurd cc
step_goes files s w false e = refl

event_goes : (lifecycle : Lifecycle) (files : List ClassFile) (s w : State) (e : Event) (ended idle : Bool) → (if not ended && idle then happened lifecycle files s e else None) ≡ Some w → ended ≡ false
event_goes lifecycle files s w e true idle h = absurd cc
event_goes lifecycle files s w e false idle h = refl

pub not_ended : (lifecycle : Lifecycle) (files : List ClassFile) (s t : State) → Follows lifecycle files s t → s.ended ≡ false
not_ended lifecycle files s t (inl e) = step_goes files s t s.ended e
not_ended lifecycle files s t (inr h) = event_goes lifecycle files s t h.0 s.ended (is_idle s.frames) h.1

clash : (b : Bool) → b ≡ false → b ≡ true → ⊥
clash true e f = absurd cc
clash false e f = absurd cc

module _ (lifecycle : Lifecycle) (files : List ClassFile) where
  marked : (s w : State) → IsChange lifecycle files s w → s.ended ≡ false → w.ended ≡ true → w ≡ record s { ended = true }
  marked s _ ends_run going over = refl
  marked s _ (moves method offset next locals stack locals_after stack_after below is edge) going over = absurd (clash s.ended going over)
  marked s _ (sets_a_static method offset next locals stack stack_after below v r f is edge at resolves ready) going over = absurd (clash s.ended going over)
  marked s _ (sets_an_object method offset next locals stack stack_after below b old new is edge at same) going over = absurd (clash s.ended going over)
  marked s _ (makes_an_instance method offset next locals stack stack_after below name c is edge at named ready) going over = absurd (clash s.ended going over)
  marked s _ (makes_an_array method offset next locals stack stack_after below component count is edge) going over = absurd (clash s.ended going over)
  marked s _ (opens_class c method offset locals stack below is untouched) going over = absurd (clash s.ended going over)
  marked s _ (calls_method method offset taken locals stack stack_after arguments below i code is at takes has_code) going over = absurd (clash s.ended going over)
  marked s _ (returns_to method caller offset waiting next locals stack results locals_below stack_below below is goes) going over = absurd (clash s.ended going over)
  marked s _ (returns_off method offset locals stack below is none) going over = absurd (clash s.ended going over)
  marked s _ (finds_superclass c below is ready) going over = absurd (clash s.ended going over)
  marked s _ (opens_superclass c k below is above untouched) going over = absurd (clash s.ended going over)
  marked s _ (calls_initialiser c below m code is declared has_code) going over = absurd (clash s.ended going over)
  marked s _ (calls_none c below is) going over = absurd (clash s.ended going over)
  marked s _ (initialised_class c below is) going over = absurd (clash s.ended going over)
  marked s _ (finds_class c below is ready) going over = absurd (clash s.ended going over)
  marked s _ (opens_launched c below is untouched) going over = absurd (clash s.ended going over)
  marked s _ (makes_launched c below m code is declared has_code) going over = absurd (clash s.ended going over)
  marked s _ (launches_object c object below is) going over = absurd (clash s.ended going over)
  marked s _ (begins_launch c is launchable) going over = absurd (clash s.ended going over)
  marked s _ (begins_handler place number stage method l h fresh code is at listed allows selected has_code) going over = absurd (clash s.ended going over)

pub marks_alone : (lifecycle : Lifecycle) (files : List ClassFile) (s t : State) → Follows lifecycle files s t → t.ended ≡ true → t ≡ record s { ended = true }
marks_alone lifecycle files s t follows over = marked lifecycle files s t (changed lifecycle files s t follows) (not_ended lifecycle files s t follows) over
