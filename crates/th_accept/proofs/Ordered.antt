-- Of answers in order: where none is an error all are values, and else the first one is that of its item.
use Rattle.std.proofs.Common.{◌≡◌, ℕ, zero, suc, ◌<◌, List, [], ◌∷◌, ◌++◌, length, take, drop, get_or, Option, None, Some, Result, Ok, Err, refl, ap, subst, arith}
use Rattle.std.specs.List.{AllByRecursion, AllZip}
use Rattle.th_base.specs.declared.fail.Fail.{Fail}
use Rattle.th_base.specs.declared.fail.Fail.TheVariants.{Refused}
use Rattle.th_accept.specs.Answers.{first_error, values_before}

pub record IsFirst {X Y R : Type 0} (Good : X → Y → Type 0) (Bad : X → R → Type 0) (items : List X) (reason : R) : Type 0 where
  pub before : List X
  pub item : X
  pub behind : List X
  pub items_are : items ≡ before ++ item ∷ behind
  pub values : List Y
  pub good : AllZip Good before values
  pub bad : Bad item reason

module _ {X Y R : Type 0} (Answers : X → Result Y (Fail R) → Type 0) where
  pub all_good : (items : List X) (answers : List (Result Y (Fail R))) → AllZip Answers items answers → first_error answers ≡ None → AllZip (λ x y. Answers x (Ok y)) items (values_before answers)
  all_good [] [] each none = tt
  all_good (x ∷ items) (Ok y ∷ answers) each none = (each.0, all_good items answers each.1 none)
  all_good (x ∷ items) (Err e ∷ answers) each none = absurd cc
  all_good [] (a ∷ answers) each none = absurd each
  all_good (x ∷ items) [] each none = absurd each

  bad_is : (x : X) (e : Fail R) (reason : R) → (let o : Option (Fail R) = Some e in o) ≡ Some (Refused reason) → Answers x (Err e) → Answers x (Err (Refused reason))
  bad_is x e reason same holds = let is : e ≡ Refused reason = cc in subst (λ f. Answers x (Err f)) is holds

  pub first_bad : (items : List X) (answers : List (Result Y (Fail R))) (reason : R) → AllZip Answers items answers → first_error answers ≡ Some (Refused reason)
      → IsFirst (λ x y. Answers x (Ok y)) (λ x r. Answers x (Err (Refused r))) items reason
  first_bad [] [] reason each some = absurd cc
  first_bad (x ∷ items) (Ok y ∷ answers) reason each some =
      let more = first_bad items answers reason each.1 some in
      record { before = x ∷ more.before; item = more.item; behind = more.behind; items_are = ap (λ xs. x ∷ xs) more.items_are; values = y ∷ more.values; good = (each.0, more.good); bad = more.bad }
  first_bad (x ∷ items) (Err e ∷ answers) reason each some =
      record { before = []; item = x; behind = items; items_are = refl; values = []; good = tt; bad = bad_is x e reason some each.0 }
  first_bad [] (a ∷ answers) reason each some = absurd each
  first_bad (x ∷ items) [] reason each some = absurd each

-- what holds of each pair by its first alone holds of all
pub all_of : {X Y : Type 0} (P : X → Type 0) (xs : List X) (ys : List Y) → AllZip (λ x y. P x) xs ys → AllByRecursion P xs
all_of P [] ys each = tt
all_of P (x ∷ xs) [] each = absurd each
all_of P (x ∷ xs) (y ∷ ys) each = (each.0, all_of P xs ys each.1)

-- what stands before an item, the item, and what stands behind it
pub cut_at : {X : Type 0} (xs : List X) (i : ℕ) (d : X) → i < length xs → xs ≡ take i xs ++ get_or xs i d ∷ drop (suc i) xs
cut_at [] i d within = absurd (let h : ⊥ = omega arith in h)
cut_at (x ∷ xs) zero d within = refl
cut_at (x ∷ xs) (suc i) d within = ap (λ ys. x ∷ ys) (cut_at xs i d (omega arith))
