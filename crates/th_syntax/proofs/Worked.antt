-- The runs of the small programs, computed step by step.
use Rattle.std.proofs.Common.{◌≡◌, ℕ, zero, suc, false, List, [], ◌∷◌, Option, None, Some, refl, sym, subst, inl, inr, ◌∙◌}
use Rattle.th_base.specs.declared.lifecycle.Lifecycle.{Lifecycle}
use Rattle.th_base.specs.declared.lifecycle.Lifecycle.TheVariants.{Any, Chart}
use Rattle.th_syntax.specs.declared.class_file.ClassFile.{ClassFile}
use Rattle.th_syntax.specs.Machine.{Value, NullValue, Address, Object, Instance, State, class_id}
use Rattle.th_syntax.specs.Descriptors.{method_type_of, method_at, types_at, type_at, element_at, name_before, base_type, result_at}
use Rattle.th_syntax.specs.Effects.{needs, or_ends, ends_unless, either_of, initialised}
use Rattle.th_syntax.specs.Initial.{initial}
use Rattle.th_syntax.specs.Step.{step}
use Rattle.th_syntax.specs.Harness.{event}
use Rattle.th_syntax.specs.declared.event.Event.{Event}
use Rattle.th_syntax.specs.declared.event.Event.TheVariants.{Launch, Handler}
use Rattle.th_syntax.specs.Run.{IsReachable}
use Rattle.th_syntax.specs.Joined.{IsJoined, Leads, here, through}
use Rattle.th_syntax.specs.Worked.{plain_program, storing_program, clearing_program, steps, one_launched, last_field}

-- a step, or an event, of a reachable state leads to one
stepped : (lifecycle : Lifecycle) (files : List ClassFile) (s t : State) → IsReachable lifecycle files s → step files s ≡ Some t → IsReachable lifecycle files t
stepped lifecycle files s t run e = (s ∷ run.0, (inl e, run.1))

no_steps : (files : List ClassFile) (n : ℕ) → steps files n None ≡ None
no_steps files zero = refl
no_steps files (suc n) = no_steps files n

stepped_by : (lifecycle : Lifecycle) (files : List ClassFile) (s t : State) (n : ℕ) (next : Option State) → IsReachable lifecycle files s → step files s ≡ next → steps files n next ≡ Some t
    → ((u : State) → IsReachable lifecycle files u → steps files n (Some u) ≡ Some t → IsReachable lifecycle files t) → IsReachable lifecycle files t
stepped_by lifecycle files s t n None run is e rest = absurd (let h : (let o : Option State = None in o) ≡ Some t = sym (no_steps files n) ∙ e in cc)
stepped_by lifecycle files s t n (Some u) run is e rest = rest u (stepped lifecycle files s u run is) e

after_steps : (lifecycle : Lifecycle) (files : List ClassFile) (n : ℕ) (s t : State) → IsReachable lifecycle files s → steps files n (Some s) ≡ Some t → IsReachable lifecycle files t
after_steps lifecycle files zero s t run e = subst (IsReachable lifecycle files) (let same : s ≡ t = cc in same) run
after_steps lifecycle files (suc n) s t run e = stepped_by lifecycle files s t n (step files s) run refl e (λ u. after_steps lifecycle files n u t)

-- so many steps after an event
after_event : (lifecycle : Lifecycle) (files : List ClassFile) (s : State) (e : Event) (n : ℕ) (next : Option State) (t : State) → IsReachable lifecycle files s → event lifecycle files s e ≡ next → steps files n next ≡ Some t → IsReachable lifecycle files t
after_event lifecycle files s e n None t run is h = absurd (let g : (let o : Option State = None in o) ≡ Some t = sym (no_steps files n) ∙ h in cc)
after_event lifecycle files s e n (Some u) t run is h = after_steps lifecycle files n u t (s ∷ run.0, (inr (e, is), run.1)) h

begun : (lifecycle : Lifecycle) (files : List ClassFile) → IsReachable lifecycle files (initial files)
begun lifecycle files = ([], refl)

-- ---- states computed

-- a launch takes ten steps: two of the launch frame and three of the initialisation, three
-- instructions of the constructor and one of the superclass's, and the end of the launch
pub plain_launched : IsReachable Any plain_program (one_launched [] 0)
unfolding needs or_ends ends_unless either_of initialised method_type_of method_at types_at type_at element_at name_before base_type result_at
plain_launched = after_event Any plain_program (initial plain_program) (Launch (class_id 11)) 10 _ (one_launched [] 0) (begun Any plain_program) refl refl

launched : (lifecycle : Lifecycle) → IsReachable lifecycle storing_program (one_launched (NullValue ∷ []) 0)
unfolding needs or_ends ends_unless either_of initialised method_type_of method_at types_at type_at element_at name_before base_type result_at
launched lifecycle = after_event lifecycle storing_program (initial storing_program) (Launch (class_id 11)) 10 _ (one_launched (NullValue ∷ []) 0) (begun lifecycle storing_program) refl refl

pub created : IsReachable Any storing_program (one_launched (Address 0 ∷ []) 0)
unfolding needs or_ends ends_unless either_of initialised method_type_of method_at types_at type_at element_at name_before base_type result_at
created = after_event Any storing_program (one_launched (NullValue ∷ []) 0) (Handler 1 0 false) 3 _ (one_launched (Address 0 ∷ []) 0) (launched Any) refl refl

-- under the chart the object's stage is then 1
pub created_at_stage : IsReachable Chart storing_program (one_launched (Address 0 ∷ []) 1)
unfolding needs or_ends ends_unless either_of initialised method_type_of method_at types_at type_at element_at name_before base_type result_at
created_at_stage = after_event Chart storing_program (one_launched (NullValue ∷ []) 0) (Handler 1 0 false) 3 _ (one_launched (Address 0 ∷ []) 1) (launched Chart) refl refl

pub stored : IsJoined storing_program (one_launched (Address 0 ∷ []) 0) 0 11
stored = record {
  holds = record {
    is_field = record { declared = record { owner = 11; member = last_field }; numbered = refl; static_one = refl; reference = refl };
    value = Address 0;
    held = refl;
    address = 0;
    leads = here;
    object = Instance (class_id 11) [];
    stands = refl;
    exactly = refl;
  };
  is_activity_class = refl;
}

-- the chart has no resumption of an object that is only launched, and no launch of a built-in class
pub not_resumed : event Chart storing_program (one_launched (NullValue ∷ []) 0) (Handler 1 3 false) ≡ None
not_resumed = refl

pub not_launched : event Any storing_program (initial storing_program) (Launch (class_id 10)) ≡ None
not_launched = refl

-- a destroyed object of the program that clears the field is joined with nothing
clearing_launched : IsReachable Any clearing_program (one_launched (NullValue ∷ []) 0)
unfolding needs or_ends ends_unless either_of initialised method_type_of method_at types_at type_at element_at name_before base_type result_at
clearing_launched = after_event Any clearing_program (initial clearing_program) (Launch (class_id 11)) 10 _ (one_launched (NullValue ∷ []) 0) (begun Any clearing_program) refl refl

pub kept : IsReachable Any clearing_program (one_launched (Address 0 ∷ []) 0)
unfolding needs or_ends ends_unless either_of initialised method_type_of method_at types_at type_at element_at name_before base_type result_at
kept = after_event Any clearing_program (one_launched (NullValue ∷ []) 0) (Handler 1 0 false) 3 _ (one_launched (Address 0 ∷ []) 0) clearing_launched refl refl

pub cleared : IsReachable Any clearing_program (one_launched (NullValue ∷ []) 0)
unfolding needs or_ends ends_unless either_of initialised method_type_of method_at types_at type_at element_at name_before base_type result_at
cleared = after_event Any clearing_program (one_launched (Address 0 ∷ []) 0) (Handler 1 6 false) 3 _ (one_launched (NullValue ∷ []) 0) kept refl refl

pub joined_before : IsJoined clearing_program (one_launched (Address 0 ∷ []) 0) 0 11
joined_before = record {
  holds = record {
    is_field = record { declared = record { owner = 11; member = last_field }; numbered = refl; static_one = refl; reference = refl };
    value = Address 0;
    held = refl;
    address = 0;
    leads = here;
    object = Instance (class_id 11) [];
    stands = refl;
    exactly = refl;
  };
  is_activity_class = refl;
}

null_leads : {heap : List Object} {to : ℕ} {v : Value} → Leads heap to v → v ≡ NullValue → ⊥
null_leads here e = cc
null_leads (through o stands part leads) e = cc

pub apart_after : (class : ℕ) → IsJoined clearing_program (one_launched (NullValue ∷ []) 0) 0 class → ⊥
apart_after class joined = null_leads joined.holds.leads (let held : (let o : Option Value = Some NullValue in o) ≡ Some joined.holds.value = joined.holds.held in let same : joined.holds.value ≡ NullValue = cc in same)
