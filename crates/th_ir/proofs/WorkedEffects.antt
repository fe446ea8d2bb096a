-- What single statements do on a small state.
use Rattle.std.proofs.Common.{◌≡◌, ℕ, ℤ, pos, negsuc, true, false, inl, inr, [], ◌∷◌, codes, Some, None, slice_get, refl, sym, ap, ◌∙◌}
use Rattle.th_base.specs.declared.operation.Elem.TheVariants.{Ref as RefElem}
use Rattle.th_base.specs.declared.operation.ArithOp.TheVariants.{Sub}
use Rattle.th_base.specs.declared.operation.NarrowOp.TheVariants.{Char as ToChar}
use Rattle.th_base.specs.declared.operation.Relation.TheVariants.{Lt, Gt}
use Rattle.th_ir.specs.declared.stmt.Condition.TheVariants.{Ints, NoKey}
use Rattle.th_ir.specs.declared.stmt.Stmt.TheVariants.{Arith, Neg, AddConst, Narrow, Assume, GetElem, PutElem, Length, NewArray, Cast, InstanceOf}
use Rattle.th_ir.specs.Machine.{RegValue, IntValue, NullValue, Address, RegObject, length_of}
use Rattle.th_ir.specs.Effects.{Change, goes_on, sets, arithmetic_of, narrowed, is_storable}
use Rattle.th_ir.specs.Worked.{reg}
use Rattle.th_ir.specs.WorkedEffects.{MakesOnly, MakesNone, MayMake, effect_array, effect_state}
use Rattle.th_ir.specs.WorkedReceivers.{receivers_classes, receivers_program}
use Rattle.th_wrap.specs.Arithmetic.{negation_of, sum_of}
use Rattle.th_wrap.specs.TwosComplement.{low_bits, signed_value, wrapped_value}
use Rattle.th_ir.proofs.Plain.{some_is}

int_is : (m n : ℤ) → IntValue m ≡ IntValue n → n ≡ m
int_is m n e = cc

-- ---- ints

abbrev set_to : ℤ → Change
set_to n = sets (reg 9) (IntValue n)

difference_only : (c : Change) → MayMake (Arith (reg 9) Sub (reg 1) (reg 2)) c → c ≡ set_to (pos 10)
unfolding low_bits signed_value wrapped_value
difference_only c e =
    let left : e.0 ≡ pos 7 = int_is (pos 7) e.0 e.3 in
    let right : e.1 ≡ negsuc 2 = int_is (negsuc 2) e.1 e.4 in
    let found : Some (pos 10) ≡ Some e.2 = ap (λ x. arithmetic_of Sub x (negsuc 2)) (sym left) ∙ ap (arithmetic_of Sub e.0) (sym right) ∙ e.5 in
    e.6 ∙ ap set_to (sym (some_is (pos 10) e.2 found))

pub operation : MakesOnly (Arith (reg 9) Sub (reg 1) (reg 2)) (set_to (pos 10))
unfolding low_bits signed_value wrapped_value
operation = ((pos 7, negsuc 2, pos 10, refl, refl, refl, refl), difference_only)

pub negation : MakesOnly (Neg (reg 9) (reg 2)) (set_to (pos 3))
unfolding low_bits signed_value wrapped_value
negation = ((negsuc 2, refl, refl), λ c e. e.2 ∙ ap (λ n. set_to (negation_of 32 n)) (int_is (negsuc 2) e.0 e.1))

pub constant : MakesOnly (AddConst (reg 9) (reg 1) (negsuc 0)) (set_to (pos 6))
unfolding low_bits signed_value wrapped_value
constant = ((pos 7, refl, refl), λ c e. e.2 ∙ ap (λ n. set_to (sum_of 32 n (negsuc 0))) (int_is (pos 7) e.0 e.1))

pub narrowing : MakesOnly (Narrow (reg 9) ToChar (reg 2)) (set_to (pos 65533))
unfolding low_bits signed_value wrapped_value
narrowing = ((negsuc 2, refl, refl), λ c e. e.2 ∙ ap (λ n. set_to (narrowed ToChar n)) (int_is (negsuc 2) e.0 e.1))

-- ---- elements

pub first : MayMake (GetElem (reg 9) (reg 4) RefElem) (sets (reg 9) NullValue)
first = (record { at = record { address = 0; object = _; value = refl; stands = refl }; kind_is = refl; place = 0; value = NullValue; stands = refl }, refl)

pub second : MayMake (GetElem (reg 9) (reg 4) RefElem) (sets (reg 9) (Address 0))
second = (record { at = record { address = 0; object = _; value = refl; stands = refl }; kind_is = refl; place = 1; value = Address 0; stands = refl }, refl)

address_is : (a b : ℕ) → Address a ≡ Address b → b ≡ a
address_is a b e = cc

length_only : (c : Change) → MayMake (Length (reg 9) (reg 4)) c → c ≡ set_to (pos 2)
length_only c e =
    let address : e.0.address ≡ 0 = address_is 0 e.0.address e.0.value in
    let object : Some effect_array ≡ Some e.0.object = ap (slice_get effect_state.heap) (sym address) ∙ e.0.stands in
    let found : Some 2 ≡ Some e.1 = ap (λ (o : RegObject). length_of o.contents) (some_is effect_array e.0.object object) ∙ e.2 in
    e.3 ∙ ap (λ n. set_to (pos n)) (sym (some_is 2 e.1 found))

pub length_read : MakesOnly (Length (reg 9) (reg 4)) (set_to (pos 2))
length_read = ((record { address = 0; object = _; value = refl; stands = refl }, 2, refl, refl), length_only)

-- ---- types

not_null : Address 0 ≡ NullValue → ⊥
not_null e = cc

not_so : false ≡ true → ⊥
not_so e = cc

not_negative : (n : ℕ) → IntValue (negsuc 2) ≡ IntValue (pos n) → ⊥
not_negative n e = cc

pub cast_passes : MakesOnly (Cast (reg 9) (reg 4) (codes "[LA;")) (sets (reg 9) (Address 0))
cast_passes = ((inr refl, refl), λ c e. e.1)

pub null_passes : MakesOnly (Cast (reg 9) (reg 3) (codes "[LB;")) (sets (reg 9) NullValue)
null_passes = ((inl refl, refl), λ c e. e.1)

pub cast_stops : MakesNone (Cast (reg 9) (reg 4) (codes "[LB;"))
cast_stops c e = elim e.0 [ inl null ↦ not_null null | inr so ↦ not_so so ]

pub instance_found : MakesOnly (InstanceOf (reg 9) (reg 4) (codes "java/lang/Object")) (set_to (pos 1))
instance_found = (refl, λ c e. e)

pub no_instance_found : MakesOnly (InstanceOf (reg 9) (reg 4) (codes "[LB;")) (set_to (pos 0))
no_instance_found = (refl, λ c e. e)

pub null_is_none : MakesOnly (InstanceOf (reg 9) (reg 3) (codes "java/lang/Object")) (set_to (pos 0))
null_is_none = (refl, λ c e. e)

pub store_stops : MakesNone (PutElem (reg 4) (reg 4))
store_stops c e =
    let address : e.0.at.address ≡ 0 = address_is 0 e.0.at.address e.0.at.value in
    let object : Some effect_array ≡ Some e.0.at.object = ap (slice_get effect_state.heap) (sym address) ∙ e.0.at.stands in
    let site : 2 ≡ e.0.at.object.site = ap (λ (o : RegObject). o.site) (some_is effect_array e.0.at.object object) in
    not_so (ap (λ n. is_storable receivers_classes receivers_program effect_state.heap n (Address 0)) site ∙ e.1)

pub length_stops : MakesNone (NewArray (reg 9) record { 0 = 2 } (reg 2))
length_stops c e = not_negative e.0 e.1

-- ---- conditions

pub related : MayMake (Assume (Ints Gt (reg 1) (Some (reg 2)))) goes_on
related = ((pos 7, negsuc 2, refl, refl, refl), refl)

pub related_to_zero : MayMake (Assume (Ints Lt (reg 2) None)) goes_on
related_to_zero = ((negsuc 2, pos 0, refl, refl, refl), refl)

pub no_key : MayMake (Assume (NoKey (reg 1) (pos 6 ∷ pos 8 ∷ []))) goes_on
no_key = ((pos 7, refl, ((λ e. cc), ((λ e. cc), tt))), refl)
