-- Which object a value leads to.
use Rattle.std.proofs.Common.{◌≡◌, ℕ, List, Option, None, Some, slice_get, sym, ap, ◌∙◌}
use Rattle.std.specs.Option.{option_and_then}
use Rattle.th_syntax.specs.declared.machine.Value.{Value}
use Rattle.th_syntax.specs.declared.machine.Value.TheVariants.{Int as IntValue, Long as LongValue, Null as NullValue, Address}
use Rattle.th_syntax.specs.declared.machine.Object.{Object}
use Rattle.th_syntax.specs.declared.machine.Object.TheVariants.{Instance, Array}
use Rattle.th_syntax.specs.Machine.{InstanceAt, as_instance, instance_at, ArrayAt, as_array, array_at}
use Rattle.th_syntax.proofs.Inverting.{some_is}

instance_in : (o : Option Object) (a : ℕ) (x : InstanceAt) → option_and_then (as_instance a) o ≡ Some x → (o ≡ Some (Instance x.class x.fields)) × (a ≡ x.address)
instance_in None a x e = absurd cc
instance_in (Some (Instance class fields)) a x e =
    let same : (let y : InstanceAt = record { address = a; class = class; fields = fields } in y) ≡ x = some_is _ x e in
    (ap (λ (y : InstanceAt). let o : Option Object = Some (Instance y.class y.fields) in o) same, ap (λ (y : InstanceAt). y.address) same)
instance_in (Some (Array descriptor elements)) a x e = absurd cc

pub instance_stands : (heap : List Object) (v : Value) (x : InstanceAt) → instance_at heap v ≡ Some x → slice_get heap x.address ≡ Some (Instance x.class x.fields)
instance_stands heap (IntValue n) x e = absurd cc
instance_stands heap (LongValue n) x e = absurd cc
instance_stands heap NullValue x e = absurd cc
instance_stands heap (Address a) x e = let at = instance_in (slice_get heap a) a x e in ap (slice_get heap) (sym at.1) ∙ at.0

array_in : (o : Option Object) (a : ℕ) (x : ArrayAt) → option_and_then (as_array a) o ≡ Some x → (o ≡ Some (Array x.descriptor x.elements)) × (a ≡ x.address)
array_in None a x e = absurd cc
array_in (Some (Instance class fields)) a x e = absurd cc
array_in (Some (Array descriptor elements)) a x e =
    let same : (let y : ArrayAt = record { address = a; descriptor = descriptor; elements = elements } in y) ≡ x = some_is _ x e in
    (ap (λ (y : ArrayAt). let o : Option Object = Some (Array y.descriptor y.elements) in o) same, ap (λ (y : ArrayAt). y.address) same)

pub array_stands : (heap : List Object) (v : Value) (x : ArrayAt) → array_at heap v ≡ Some x → slice_get heap x.address ≡ Some (Array x.descriptor x.elements)
array_stands heap (IntValue n) x e = absurd cc
array_stands heap (LongValue n) x e = absurd cc
array_stands heap NullValue x e = absurd cc
array_stands heap (Address a) x e = let at = array_in (slice_get heap a) a x e in ap (slice_get heap) (sym at.1) ∙ at.0
