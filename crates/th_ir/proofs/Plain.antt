-- Plain facts on options, tests and lists that the proofs here share.
use Rattle.std.proofs.Common.{◌≡◌, ℕ, zero, suc, ◌==◌, ◌<◌, Bool, true, false, List, [], ◌∷◌, ◌++◌, length, Option, None, Some, slice_get, slice_set, refl, sym, ap, subst, arith, ◌∙◌, if◌then◌else◌}
use Rattle.std.specs.Prelude.{replicate, ◌&&◌, ◌||◌}
use Rattle.std.specs.List.{AllByRecursion}
use Rattle.std.proofs.lemmas.Bool.{eqb-true, eq-eqb, ne_eqb}
use Rattle.th_base.specs.IdSet.{has}
use Rattle.th_ir.specs.Program.{AreDistinct}

-- ---- options and tests

pub some_is : {A : Type 0} (x y : A) → (let o : Option A = Some x in o) ≡ Some y → x ≡ y
some_is x y e = cc

pub not_both : (b : Bool) → b ≡ true → b ≡ false → ⊥
not_both b one other = cc

-- two look-ups of one place find the same
pub same_found : {A : Type 0} (o : Option A) (x y : A) → o ≡ Some x → o ≡ Some y → x ≡ y
same_found o x y one other = some_is x y (sym one ∙ other)

pub same_test : (b c : Bool) → (b ≡ true → c ≡ true) → (c ≡ true → b ≡ true) → b ≡ c
same_test true c there back = sym (there refl)
same_test false true there back = back refl
same_test false false there back = refl

pub and_parts : (b c : Bool) → (b && c) ≡ true → (b ≡ true) × (c ≡ true)
and_parts true c e = (refl, e)
and_parts false c e = absurd cc

pub and_both : (b c : Bool) → b ≡ true → c ≡ true → (b && c) ≡ true
and_both true c one two = two
and_both false c one two = absurd cc

pub or_true : (b : Bool) → (b || true) ≡ true
or_true true = refl
or_true false = refl

or_parts : (b c : Bool) → (b || c) ≡ false → (b ≡ false) × (c ≡ false)
or_parts true c e = absurd cc
or_parts false c e = (refl, e)

or_false : (b c d : Bool) → (c ≡ false → d ≡ false) → (b || c) ≡ false → (b || d) ≡ false
or_false true c d more e = e
or_false false c d more e = more e

-- what holds of a chosen value, where the choice is whether two numbers are the same
by_number : {A : Type 0} (P : ℕ → A → Type 0) (r q : ℕ) (v w : A) (b : Bool) → (r == q) ≡ b → P q v → P r w → P r (if b then v else w)
by_number P r q v w true e new old = subst (λ (k : ℕ). P k v) (sym (eqb-true r q e)) new
by_number P r q v w false e new old = old

pub changed_number : {A : Type 0} (P : ℕ → A → Type 0) (r q : ℕ) (v w : A) → P q v → P r w → P r (if r == q then v else w)
changed_number P r q v w new old = by_number P r q v w (r == q) refl new old

pub kept_number : {A : Type 0} (k g : ℕ) (v w : A) (b : Bool) → (k == g) ≡ b → (k ≡ g → ⊥) → (if b then v else w) ≡ w
kept_number k g v w true is apart = absurd (apart (eqb-true k g is))
kept_number k g v w false is apart = refl

-- ---- lists

pub all_map : {A : Type 0} (P Q : A → Type 0) → ((x : A) → P x → Q x) → (xs : List A) → AllByRecursion P xs → AllByRecursion Q xs
all_map P Q f [] all = tt
all_map P Q f (x ∷ xs) all = (f x all.0, all_map P Q f xs all.1)

pub all_at : {A : Type 0} (P : A → Type 0) (xs : List A) (k : ℕ) (x : A) → AllByRecursion P xs → slice_get xs k ≡ Some x → P x
all_at P [] k x all e = absurd cc
all_at P (y ∷ xs) zero x all e = subst P (some_is y x e) all.0
all_at P (y ∷ xs) (suc k) x all e = all_at P xs k x all.1 e

pub all_append : {A : Type 0} (P : A → Type 0) (xs ys : List A) → AllByRecursion P xs → AllByRecursion P ys → AllByRecursion P (xs ++ ys)
all_append P [] ys left right = right
all_append P (x ∷ xs) ys left right = (left.0, all_append P xs ys left.1 right)

pub all_both : {A : Type 0} (P Q : A → Type 0) (xs : List A) → AllByRecursion P xs → AllByRecursion Q xs → AllByRecursion (λ x. P x × Q x) xs
all_both P Q [] left right = tt
all_both P Q (x ∷ xs) left right = ((left.0, right.0), all_both P Q xs left.1 right.1)

pub all_set : {A : Type 0} (P : A → Type 0) (xs : List A) (k : ℕ) (v : A) → AllByRecursion P xs → P v → AllByRecursion P (slice_set xs k v)
all_set P [] k v all new = tt
all_set P (x ∷ xs) zero v all new = (new, all.1)
all_set P (x ∷ xs) (suc k) v all new = (all.0, all_set P xs k v all.1 new)

pub length_set : {A : Type 0} (xs : List A) (k : ℕ) (v : A) → length (slice_set xs k v) ≡ length xs
length_set [] k v = refl
length_set (x ∷ xs) zero v = refl
length_set (x ∷ xs) (suc k) v = ap suc (length_set xs k v)

pub all_replicate : {A : Type 0} (P : A → Type 0) (n : ℕ) (v : A) → P v → AllByRecursion P (replicate n v)
all_replicate P zero v new = tt
all_replicate P (suc n) v new = (new, all_replicate P n v new)

pub get_within : {A : Type 0} (xs : List A) (k : ℕ) → k < length xs → (x : A) × (slice_get xs k ≡ Some x)
get_within [] k less = absurd (omega arith)
get_within (x ∷ xs) zero less = (x, refl)
get_within (x ∷ xs) (suc k) less = get_within xs k (omega arith)

-- ---- numbers in lists

pub has_at : (xs : List ℕ) (k a : ℕ) → slice_get xs k ≡ Some a → has xs a ≡ true
has_at [] k a e = absurd cc
has_at (x ∷ xs) zero a e = rw (eq-eqb x a (some_is x a e)) refl
has_at (x ∷ xs) (suc k) a e = rw (has_at xs k a e) (or_true (x == a))

pub absent_left : (xs ys : List ℕ) (a : ℕ) → has (xs ++ ys) a ≡ false → has xs a ≡ false
absent_left [] ys a e = refl
absent_left (x ∷ xs) ys a e = or_false (x == a) (has (xs ++ ys) a) (has xs a) (absent_left xs ys a) e

absent_last : (xs : List ℕ) (a x : ℕ) → has xs x ≡ false → (a == x) ≡ false → has (xs ++ a ∷ []) x ≡ false
absent_last [] a x out apart = rw apart refl
absent_last (y ∷ xs) a x out apart = or_false (y == x) (has xs x) (has (xs ++ a ∷ []) x) (λ more. absent_last xs a x more apart) out

not_equal : (x a : ℕ) → (x == a) ≡ false → (a == x) ≡ false
not_equal x a e = ne_eqb a x (λ (same : a ≡ x). let equal : (x == a) ≡ true = eq-eqb x a (sym same) in cc)

pub distinct_last : (xs : List ℕ) (a : ℕ) → AreDistinct xs → has xs a ≡ false → AreDistinct (xs ++ a ∷ [])
distinct_last [] a all out = (refl, tt)
distinct_last (x ∷ xs) a all out =
    let parts = or_parts (x == a) (has xs a) out in
    (absent_last xs a x all.0 (not_equal x a parts.0), distinct_last xs a all.1 parts.1)
