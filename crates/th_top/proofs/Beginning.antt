-- In the initial state no field holds an object.
use Rattle.std.proofs.Common.{◌≡◌, ℕ, Bool, true, false, cond, List, pos, Option, None, Some, slice_get, sym, subst, ◌∙◌}
use Rattle.std.specs.Option.{option_map}
use Rattle.std.proofs.lemmas.Option.{slice_get-map}
use Rattle.th_base.specs.ValueKinds.{is_reference, is_long}
use Rattle.th_syntax.specs.declared.class_file.ClassFile.{ClassFile}
use Rattle.th_syntax.specs.Initial.{default_value, initial}
use Rattle.th_syntax.specs.Joined.{Leads, here, through, IsJoined}
use Rattle.th_syntax.specs.declared.machine.Object.{Object}
use Rattle.th_syntax.specs.declared.machine.Value.{Value}
use Rattle.th_syntax.specs.declared.machine.Value.TheVariants.{Int as IntValue, Long as LongValue, Null as NullValue, Address}
use Rattle.th_syntax.specs.Program.{Owned, fields_of}

abbrev IsAddress : Value → Type 0
IsAddress (IntValue n) = ⊥
IsAddress (LongValue n) = ⊥
IsAddress NullValue = ⊥
IsAddress (Address a) = Unit {0}

from_address : {heap : List Object} {to : ℕ} {v : Value} → Leads heap to v → IsAddress v
from_address here = tt
from_address (through o stands has leads) = tt

no_address : (reference long : Bool) → IsAddress (cond reference NullValue (cond long (LongValue (pos 0)) (IntValue (pos 0)))) → ⊥
no_address true long is = is
no_address false true is = is
no_address false false is = is

none_held : (o : Option Owned) (v : Value) → option_map (λ f. default_value f.member.descriptor) o ≡ Some v → IsAddress v → ⊥
none_held None v e is = absurd (let h : ⊥ = cc e in h)
none_held (Some f) v e is =
    let same : default_value f.member.descriptor ≡ v = cc e in
    no_address (is_reference f.member.descriptor) (is_long f.member.descriptor) (subst IsAddress (sym same) is)

pub nothing_joined : (files : List ClassFile) (field class : ℕ) → IsJoined files (initial files) field class → ⊥
nothing_joined files field class joined =
    let holds = joined.holds in
    none_held (slice_get (fields_of files) field) holds.value (sym (slice_get-map (λ (f : Owned). default_value f.member.descriptor) (fields_of files) field) ∙ holds.held)
    (from_address holds.leads)
