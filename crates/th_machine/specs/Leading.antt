-- Private to the search for what static fields lead to: the addresses that it has found.
use Rattle.std.specs.Prelude.{ℕ, ◌≡◌, ◌<◌, ◌||◌, ◌↔◌, ◌++◌, Bool, true, List, [], length, filter_map, nat_eq}
use Rattle.std.specs.Prelude.{slice_get, slice_index, Option, None, Some}
use Rattle.std.specs.List.{list_any}
use Rattle.std.specs.Option.{option_and_then, option_map_or}
use Rattle.th_syntax.specs.declared.machine.Object.{Object}
use Rattle.th_syntax.specs.declared.machine.Value.{Value}
use Rattle.th_syntax.specs.declared.machine.Value.TheVariants.{Int as IntValue, Long as LongValue, Null as NullValue, Address}
use Rattle.th_syntax.specs.Joined.{Leads, IsOfClass}
use Rattle.th_syntax.specs.Machine.{class_of, parts_of}

-- the address that a value is
abbrev pub address_in : Value → Option ℕ
address_in (IntValue n) = None
address_in (LongValue n) = None
address_in NullValue = None
address_in (Address a) = Some a

abbrev pub is_among : List ℕ → ℕ → Bool
is_among xs x = list_any (nat_eq x) xs

-- the addresses among values
abbrev pub addresses_in : List Value → List ℕ
addresses_in values = filter_map address_in values

-- the addresses among the parts of the object at an address; none where no object stands
abbrev pub next_from : List Object → ℕ → List ℕ
next_from heap address = option_map_or (λ o. addresses_in (parts_of o)) (slice_get heap address) []

-- addresses are added behind those that are there, where they are new
pub record Joins (old new more : List ℕ) : Type 0 where
  pub rest : List ℕ
  pub front : new ≡ old ++ rest
  pub members : (x : ℕ) → is_among new x ≡ (is_among old x || is_among more x)

-- all that is found is led to, and the parts of the first ones are found
pub record IsSearch (heap : List Object) (value : Value) (at : ℕ) (found : List ℕ) : Type 0 where
  pub begun : (a : ℕ) → value ≡ Address a → is_among found a ≡ true
  pub led : (x : ℕ) → is_among found x ≡ true → Leads heap x value
  pub closed : (k : ℕ) → k < at → k < length found → (x : ℕ) → is_among (next_from heap (slice_index found k)) x ≡ true
      → is_among found x ≡ true

-- exactly the addresses to which a value leads
abbrev pub AreLed : List Object → Value → List ℕ → Type 0
AreLed heap value found = (x : ℕ) → (is_among found x ≡ true) ↔ Leads heap x value

-- the class of the instance at an address
abbrev pub class_in : List Object → ℕ → Option ℕ
class_in heap address = option_and_then class_of (slice_get heap address)

-- a value leads to an object whose class is exactly this one
pub record LeadsToClass (heap : List Object) (value : Value) (class : ℕ) : Type 0 where
  pub address : ℕ
  pub leads : Leads heap address value
  pub object : Object
  pub stands : slice_get heap address ≡ Some object
  pub exactly : IsOfClass object class

-- exactly the classes to whose objects a value leads
abbrev pub AreClassesLed : List Object → Value → List ℕ → Type 0
AreClassesLed heap value classes = (c : ℕ) → (is_among classes c ≡ true) ↔ LeadsToClass heap value c
