-- The method that a call takes is the one that is named, or one of its name and descriptor in a class above
-- the receiver's; and what holds upwards holds of the class that declares it.
use Rattle.std.proofs.Common.{◌≡◌, ℕ, suc, ◌+◌, ◌<◌, Bool, true, false, List, [], ◌∷◌, length, Some, refl, sym, ap, subst, ◌∙◌, arith, if◌then◌else◌}
use Rattle.std.specs.Prelude.{slice_get}
use Rattle.std.specs.Option.{option_and_then, option_map}
use Rattle.std.specs.Str.{bytes_eq}
use Rattle.std.proofs.lemmas.Option.{slice_get_within}
use Rattle.th_base.specs.declared.class.FieldInfo.{FieldInfo}
use Rattle.th_base.specs.declared.class.MethodInfo.{MethodInfo}
use Rattle.th_base.specs.declared.number.MethodId.{MethodId}
use Rattle.th_base.specs.Hierarchy.{superclass_of, direct_supertypes, supertypes_of, resolved_method, resolved_field, selected_method}
use Rattle.th_base.specs.IdSet.{has}
use Rattle.th_base.proofs.Enough.{superclass_is_direct}
use Rattle.th_base.proofs.Orders.{selected_stands_above}
use Rattle.th_base.proofs.Resolved.{method_above, field_above}
use Rattle.th_syntax.specs.declared.class_file.ClassFile.{ClassFile}
use Rattle.th_syntax.specs.declared.instr.Instr.{Instr}
use Rattle.th_syntax.specs.declared.instr.MemberRef.{MemberRef}
use Rattle.th_syntax.specs.declared.machine.Value.{Value}
use Rattle.th_syntax.specs.Machine.{class_at}
use Rattle.th_syntax.specs.Program.{Owned, all_classes, methods_of, class_infos, hierarchy_of, number_named}
use Rattle.th_syntax.specs.Effects.{Top}
use Rattle.th_syntax.specs.Fields.{field_resolved}
use Rattle.th_syntax.specs.Calls.{argument_slots, Invoked, invoked_in, invoked, selected_for, goes_to_superclass, special_in, special_method}
use Rattle.th_syntax.specs.Changes.{IsInitialised, Takes, by_virtual, by_special, by_interface, by_static}
use Rattle.th_syntax.specs.LinkChecks.{use_of}
use Rattle.th_syntax.specs.Linking.{IsLinked, IsMethodFound, Stands}
use Rattle.th_syntax.proofs.Inverting.{some_is, and_then_some, map_some}
use Rattle.th_runs.proofs.Addressed.{at_position}
use Rattle.th_runs.proofs.Declaring.{IsMethodHere, IsFieldHere, method_here, field_here}
use Rattle.th_runs.proofs.Above.{above_all, along_line}

-- ---- what is named

pub infos_length : (all : List ClassFile) (f m : ℕ) (cs : List ClassFile) → length (class_infos all f m cs) ≡ length cs
infos_length all f m [] = refl
infos_length all f m (c ∷ cs) = ap suc (infos_length all (f + length c.fields) (m + length c.methods) cs)

pub class_named : (files : List ClassFile) (name : List ℕ) (k : ℕ) → number_named files name ≡ Some k → (c : ClassFile) × (slice_get (all_classes files) k ≡ Some c)
class_named files name k e =
    let found = at_position (λ (c : ClassFile). bytes_eq c.name name) 0 k (all_classes files) e in
    let level : found.0 ≡ k = let zeroed = found.1 in omega (arith, zeroed) in
    (found.2, ap (slice_get (all_classes files)) (sym level) ∙ found.3)

pub number_within : (files : List ClassFile) (name : List ℕ) (k : ℕ) → number_named files name ≡ Some k → k < length (hierarchy_of files)
number_within files name k e =
    let class = class_named files name k e in
    subst (λ n. k < n) (sym (infos_length files 0 0 (all_classes files))) (slice_get_within (all_classes files) k class.0 class.1)

-- what a reference to a method names
pub record IsInvoked (files : List ClassFile) (r : MemberRef) (m : Invoked) : Type 0 where
  pub named : number_named files r.owner ≡ Some m.named
  pub resolved : resolved_method (hierarchy_of files) m.named r.name r.descriptor ≡ Some (m.declaring, m.method)
  pub slots : argument_slots r.descriptor ≡ Some m.slots

pub invoked_is : (files : List ClassFile) (r : MemberRef) (m : Invoked) → invoked files r ≡ Some m → IsInvoked files r m
invoked_is files r m e =
    let slots = and_then_some (λ (slots : ℕ). option_and_then (invoked_in files r slots) (number_named files r.owner)) (argument_slots r.descriptor) m e in
    let owner = and_then_some (invoked_in files r slots.0) (number_named files r.owner) m slots.2 in
    let found = map_some (λ (x : ℕ × MethodInfo). let i : Invoked = record { named = owner.0; declaring = x.0; method = x.1; slots = slots.0 } in i) (resolved_method (hierarchy_of files) owner.0 r.name r.descriptor) m owner.2 in
    subst (IsInvoked files r) found.2 (record { named = owner.1; resolved = found.1; slots = slots.1 })

-- a method of the program, by what the hierarchy knows of it, with a descriptor
pub record IsMethodOf (files : List ClassFile) (owner : ℕ) (m : MethodInfo) (name descriptor : List ℕ) : Type 0 where
  pub here : IsMethodHere files owner m
  pub name_is : m.name ≡ name
  pub descriptor_is : m.descriptor ≡ descriptor

module _ (files : List ClassFile) (linked : IsLinked files) where
  pub resolved_is : (r : MemberRef) (m : Invoked) → IsInvoked files r m → IsMethodOf files m.declaring m.method r.name r.descriptor × (has (supertypes_of (hierarchy_of files) m.named) m.declaring ≡ true)
  resolved_is r m is =
      let above = method_above (hierarchy_of files) m.named r.name r.descriptor (m.declaring, m.method) linked.ordered.acyclic (number_within files r.owner m.named is.named) is.resolved in
      (record { here = method_here files m.declaring above.info m.method above.stands above.declared; name_is = above.name_is; descriptor_is = above.descriptor_is }, above.above)

  -- it is static or not, as linking found
  pub as_found : (static_one of_interface : Bool) (r : MemberRef) (m : Invoked) → IsInvoked files r m → IsMethodFound files static_one of_interface r → m.method.is_static ≡ static_one
  as_found static_one of_interface r m is found =
      let same : m.named ≡ found.owner = some_is m.named found.owner (sym is.named ∙ found.owner_named) in
      let two : resolved_method (hierarchy_of files) m.named r.name r.descriptor ≡ Some found.found = ap (λ k. resolved_method (hierarchy_of files) k r.name r.descriptor) same ∙ found.resolved in
      let pair : (let p : ℕ × MethodInfo = (m.declaring, m.method) in p) ≡ found.found = some_is _ found.found (sym is.resolved ∙ two) in
      ap (λ (p : ℕ × MethodInfo). p.1.is_static) pair ∙ found.static_or_not

  -- a field that a reference resolves to
  pub field_is : (r : MemberRef) (f : ℕ × FieldInfo) → field_resolved files r ≡ Some f → IsFieldHere files f.0 f.1 × (f.1.descriptor ≡ r.descriptor)
  field_is r f e =
      let owner = and_then_some (λ (c : ℕ). resolved_field (hierarchy_of files) c r.name r.descriptor) (number_named files r.owner) f e in
      let above = field_above (hierarchy_of files) owner.0 r.name r.descriptor f owner.2 in
      (field_here files f.0 above.info f.1 above.stands above.declared, above.descriptor_is)

  -- ---- what is taken

  module _ (T : ℕ → Type 0) (up : (c d : ℕ) → T c → has (direct_supertypes (hierarchy_of files) c) d ≡ true → T d) where
    -- a method that a call takes by its descriptor, of a class of which this holds
    pub record IsTaken (descriptor : List ℕ) (static_one : Bool) (method : ℕ) : Type 0 where
      pub owner : ℕ
      pub info : MethodInfo
      pub here : IsMethodHere files owner info
      pub number : info.id.0 ≡ method
      pub descriptor_is : info.descriptor ≡ descriptor
      pub static_is : info.is_static ≡ static_one
      pub holds : T owner

    super_up : (c d : ℕ) → T c → superclass_of (hierarchy_of files) c ≡ Some d → T d
    super_up c d here e = up c d here (superclass_is_direct (hierarchy_of files) c d e)

    -- one that is selected in a class
    pub selected_is : (c : ℕ) (name descriptor : List ℕ) (method : ℕ) → T c → option_map (λ (id : MethodId). id.0) (selected_method (hierarchy_of files) c name descriptor) ≡ Some method → IsTaken descriptor false method
    selected_is c name descriptor method here e =
        let id = map_some (λ (i : MethodId). i.0) (selected_method (hierarchy_of files) c name descriptor) method e in
        let s = selected_stands_above (hierarchy_of files) c name descriptor id.0 id.1 in
        record {
          owner = s.class;
          info = s.method;
          here = method_here files s.class s.info s.method s.stands s.declared;
          number = ap (λ (i : MethodId). i.0) s.number ∙ id.2;
          descriptor_is = s.descriptor_is;
          static_is = s.instance;
          holds = along_line (hierarchy_of files) T super_up c s.class here s.above;
        }

    module _ (r : MemberRef) (m : Invoked) (is : IsInvoked files r m) (class : ℕ) (holds : T class) (fits : has (supertypes_of (hierarchy_of files) class) m.declaring ≡ true) where
      -- the one that is named
      named_is : (static_one : Bool) → m.method.is_static ≡ static_one → IsTaken r.descriptor static_one m.method.id.0
      named_is static_one static_is =
          let known = resolved_is r m is in
          record {
            owner = m.declaring;
            info = m.method;
            here = known.0.here;
            number = refl;
            descriptor_is = known.0.descriptor_is;
            static_is = static_is;
            holds = above_all (hierarchy_of files) T up class m.declaring holds fits;
          }

      by_selection : (b : Bool) (method : ℕ) → m.method.is_static ≡ false → (if b then Some m.method.id.0 else option_map (λ (id : MethodId). id.0) (selected_method (hierarchy_of files) class m.method.name m.method.descriptor)) ≡ Some method
          → IsTaken r.descriptor false method
      by_selection true method instance e = subst (IsTaken r.descriptor false) (some_is m.method.id.0 method e) (named_is false instance)
      by_selection false method instance e =
          subst (λ d. IsTaken d false method) (resolved_is r m is).0.descriptor_is (selected_is class m.method.name m.method.descriptor method holds e)

      pub selected_for_is : (method : ℕ) → m.method.is_static ≡ false → selected_for (hierarchy_of files) m.method class ≡ Some method → IsTaken r.descriptor false method
      selected_for_is method instance e = by_selection m.method.is_private method instance e

      by_superclass : (b : Bool) (current method : ℕ) → T current → m.method.is_static ≡ false
          → (if b then option_and_then (λ (c : ℕ). option_map (λ (id : MethodId). id.0) (selected_method (hierarchy_of files) c m.method.name m.method.descriptor)) (superclass_of (hierarchy_of files) current) else Some m.method.id.0) ≡ Some method
          → IsTaken r.descriptor false method
      by_superclass true current method own instance e =
          let c = and_then_some (λ (c : ℕ). option_map (λ (id : MethodId). id.0) (selected_method (hierarchy_of files) c m.method.name m.method.descriptor)) (superclass_of (hierarchy_of files) current) method e in
          subst (λ d. IsTaken d false method) (resolved_is r m is).0.descriptor_is (selected_is c.0 m.method.name m.method.descriptor method (super_up current c.0 own c.1) c.2)
      by_superclass false current method own instance e = subst (IsTaken r.descriptor false) (some_is m.method.id.0 method e) (named_is false instance)

      pub special_is : (caller method : ℕ) → ((o : Owned) → slice_get (methods_of files) caller ≡ Some o → T o.owner) → m.method.is_static ≡ false → special_method files caller m ≡ Some method → IsTaken r.descriptor false method
      special_is caller method own instance e =
          let o = and_then_some (λ (o : Owned). special_in (hierarchy_of files) m.named m.method o.owner) (slice_get (methods_of files) caller) method e in
          by_superclass (goes_to_superclass (hierarchy_of files) o.0.owner m.named m.method) o.0.owner method (own o.0 o.1) instance o.2

    -- of each call
    module _ (t : Top) (receivers : (v : Value) (c : ℕ) → class_at t.state.heap v ≡ Some c → T c) (own : (o : Owned) → slice_get (methods_of files) t.method ≡ Some o → T o.owner) (ready : (c : ℕ) → IsInitialised t.state c → T c) where
      pub taken_is : (i : Instr) (method : ℕ) → Takes files t i method → Stands files (use_of i) → (descriptor : List ℕ) × (static_one : Bool) × (taken : IsTaken descriptor static_one method) × (static_one ≡ true → IsInitialised t.state taken.owner)
      taken_is _ method (by_virtual r m e on) found =
          let is = invoked_is files r m e in
          (r.descriptor, false, selected_for_is r m is on.class (receivers on.receiver on.class on.at) on.fits method (as_found false false r m is found) on.takes, λ h. absurd cc)
      taken_is _ method (by_special r m e on) found =
          let is = invoked_is files r m e in
          (r.descriptor, false, special_is r m is on.class (receivers on.receiver on.class on.at) on.fits t.method method own (as_found false false r m is found) on.takes, λ h. absurd cc)
      taken_is _ method (by_interface r m e on) found =
          let is = invoked_is files r m e in
          (r.descriptor, false, selected_for_is r m is on.class (receivers on.receiver on.class on.at) on.fits method (as_found false true r m is found) on.takes, λ h. absurd cc)
      taken_is _ _ (by_static r m e begun) found =
          let is = invoked_is files r m e in
          let known = resolved_is r m is in (
            r.descriptor,
            true,
            record {
              owner = m.declaring;
              info = m.method;
              here = known.0.here;
              number = refl;
              descriptor_is = known.0.descriptor_is;
              static_is = as_found true false r m is found;
              holds = ready m.declaring begun;
            },
            λ h. begun,
          )
