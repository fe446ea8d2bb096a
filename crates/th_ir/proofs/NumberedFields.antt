-- Where fields are numbered in order, the first field of a number stands at the place of this number.
use Rattle.std.proofs.Common.{◌≡◌, ℕ, ◌+◌, ◌<◌, ◌==◌, zero, suc, Bool, true, false, cond, List, [], ◌∷◌, ◌++◌, length, map, Option, None, Some, is_some, slice_get, refl, sym, ap, subst, arith, ◌∙◌, if◌then◌else◌}
use Rattle.std.specs.Prelude.{nat_lt, ◌&&◌, ◌||◌}
use Rattle.std.specs.List.{find}
use Rattle.std.specs.Option.{option_map, option_or, option_and_then, option_map_or}
use Rattle.std.proofs.lemmas.Bool.{eq-eqb, ne_eqb}
use Rattle.std.proofs.lemmas.List.Folds.{find-append}
use Rattle.th_base.specs.declared.class.ClassInfo.{ClassInfo}
use Rattle.th_base.specs.declared.class.FieldInfo.{FieldInfo}
use Rattle.th_base.specs.Hierarchy.{is_subclass, numbered_from, numbered_field}
use Rattle.th_base.specs.Launchable.{is_launchable}
use Rattle.th_ir.specs.declared.field.FieldKind.TheVariants.{Int}
use Rattle.th_ir.specs.Fields.{length_field, stage_field, owned_fields_from, owned_fields, field_at, field_known, kind_of, field_kind, is_kept_instance, class_has}
use Rattle.th_ir.specs.WellFormed.{AreNumbered}
use Rattle.th_ir.proofs.Plain.{some_is}

-- ---- the first field of a number, among all fields in order

abbrev has_number : ℕ → ℕ × FieldInfo → Bool
has_number n d = d.1.id.0 == n

abbrev owned_by : ℕ → FieldInfo → ℕ × FieldInfo
owned_by c f = (c, f)

mapped : (c : ℕ) (b : Bool) (f : FieldInfo) (o : Option FieldInfo) (q : Option (ℕ × FieldInfo)) → option_map (owned_by c) o ≡ q
    → option_map (owned_by c) (cond b (Some f) o) ≡ cond b (Some (c, f)) q
mapped c true f o q e = refl
mapped c false f o q e = e

found_owned : (c n : ℕ) (fs : List FieldInfo) → option_map (owned_by c) (find (λ x. x.id.0 == n) fs) ≡ find (has_number n) (map (owned_by c) fs)
found_owned c n [] = refl
found_owned c n (f ∷ fs) = mapped c (f.id.0 == n) f (find (λ x. x.id.0 == n) fs) (find (has_number n) (map (owned_by c) fs)) (found_owned c n fs)

numbered_owned : (c n : ℕ) (ks : List ClassInfo) → numbered_from (λ k. k.fields) (λ f. f.id.0) c ks n ≡ find (has_number n) (owned_fields_from c ks)
numbered_owned c n [] = refl
numbered_owned c n (k ∷ ks) =
    ap (λ o. option_or o (numbered_from (λ x. x.fields) (λ f. f.id.0) (c + 1) ks n)) (found_owned c n k.fields)
    ∙ ap (option_or (find (has_number n) (map (owned_by c) k.fields))) (numbered_owned (c + 1) n ks)
    ∙ sym (find-append (has_number n) (map (owned_by c) k.fields) (owned_fields_from (c + 1) ks))

-- ---- at its place

-- numbers count on from b
abbrev CountFrom : ℕ → List (ℕ × FieldInfo) → Type 0
CountFrom b xs = (k : ℕ) (d : ℕ × FieldInfo) → slice_get xs k ≡ Some d → d.1.id.0 ≡ b + k

at_place : (b n : ℕ) (xs : List (ℕ × FieldInfo)) → CountFrom b xs → find (has_number (b + n)) xs ≡ slice_get xs n
at_place b n [] count = refl
at_place b zero (x ∷ xs) count = ap (λ t. cond t (Some x) (find (has_number (b + 0)) xs)) (eq-eqb x.1.id.0 (b + 0) (count 0 x refl))
at_place b (suc n) (x ∷ xs) count =
    let first : x.1.id.0 ≡ b + 0 = count 0 x refl in
    let apart : (x.1.id.0 == b + suc n) ≡ false = ne_eqb x.1.id.0 (b + suc n) (λ (e : x.1.id.0 ≡ b + suc n). let no : ⊥ = omega arith in no) in
    let moved : b + suc n ≡ (b + 1) + n = omega arith in
    let later : CountFrom (b + 1) xs = λ k d e. (let is = count (suc k) d e in omega arith) in
    ap (λ t. cond t (Some x) (find (has_number (b + suc n)) xs)) apart
    ∙ ap (λ m. find (has_number m) xs) moved ∙ at_place (b + 1) n xs later

pub numbered : (h : List ClassInfo) (f : ℕ) → AreNumbered h → numbered_field h f ≡ field_at h f
numbered h f are =
    let none_before : f ≡ 0 + f = omega arith in
    let count : CountFrom 0 (owned_fields h) = λ k d e. (let is = are.fields k d e in omega arith) in
    numbered_owned 0 f h ∙ ap (λ m. find (has_number m) (owned_fields h)) none_before ∙ at_place 0 f (owned_fields h) count

known_at : {A : Type 0} (xs : List A) (n : ℕ) → is_some (slice_get xs n) ≡ nat_lt n (length xs)
known_at [] n = let past : nat_lt n 0 ≡ false = grind arith in sym past
known_at (x ∷ xs) zero = let within : nat_lt 0 (length (x ∷ xs)) ≡ true = grind arith in sym within
known_at (x ∷ xs) (suc n) =
    let less : nat_lt n (length xs) ≡ nat_lt (suc n) (length (x ∷ xs)) = grind arith in
    known_at xs n ∙ less

-- ---- what a field is, by what is found

by_none : (f : ℕ) → (f == stage_field) ≡ false → (f == length_field) ≡ false → (f == stage_field || f == length_field) ≡ false
by_none f stage other = rw (stage, other) refl

pub known_by : (h : List ClassInfo) (f : ℕ) (o : Option (ℕ × FieldInfo)) → AreNumbered h → numbered_field h f ≡ o
    → (is_some o || (f == stage_field || f == length_field)) ≡ field_known h f
known_by h f o are found =
    ap (λ b. b || (f == stage_field || f == length_field)) (ap is_some (sym found ∙ numbered h f are) ∙ known_at (owned_fields h) f)

pub kind_by : (h : List ClassInfo) (f : ℕ) (o : Option (ℕ × FieldInfo)) → AreNumbered h → numbered_field h f ≡ o
    → (f == stage_field) ≡ false → (f == length_field) ≡ false → option_and_then (λ d. kind_of d.1.descriptor) o ≡ field_kind h f
kind_by h f o are found stage other =
    sym (ap (λ b. if b then Some Int else option_and_then (λ d. kind_of d.1.descriptor) (field_at h f)) (by_none f stage other)
    ∙ ap (option_and_then (λ d. kind_of d.1.descriptor)) (sym (numbered h f are) ∙ found))

pub had_by : (h : List ClassInfo) (c f : ℕ) (o : Option (ℕ × FieldInfo)) → AreNumbered h → numbered_field h f ≡ o
    → (f == stage_field) ≡ false → option_map_or (λ d. is_kept_instance d.1 && is_subclass h c d.0) o false ≡ class_has h c f
had_by h c f o are found stage =
    sym (ap (λ b. if b then is_launchable h c else option_map_or (λ d. is_kept_instance d.1 && is_subclass h c d.0) (field_at h f) false) stage
    ∙ ap (λ x. option_map_or (λ d. is_kept_instance d.1 && is_subclass h c d.0) x false) (sym (numbered h f are) ∙ found))

-- ---- the class that declares it

owner_by : (c m : ℕ) (o : Option FieldInfo) (more : Option (ℕ × FieldInfo)) (d : ℕ × FieldInfo) → (more ≡ Some d → d.0 < (c + 1) + m)
    → option_or (option_map (owned_by c) o) more ≡ Some d → d.0 < c + suc m
owner_by c m None more d rest e = let within = rest e in omega arith
owner_by c m (Some f) more d rest e = subst (λ (x : ℕ). x < c + suc m) (ap (λ (x : ℕ × FieldInfo). x.0) (some_is (c, f) d e)) (omega arith)

owner_from : (c n : ℕ) (ks : List ClassInfo) (d : ℕ × FieldInfo) → numbered_from (λ k. k.fields) (λ f. f.id.0) c ks n ≡ Some d → d.0 < c + length ks
owner_from c n [] d e = absurd cc
owner_from c n (k ∷ ks) d e =
    owner_by c (length ks) (find (λ x. x.id.0 == n) k.fields) (numbered_from (λ x. x.fields) (λ f. f.id.0) (c + 1) ks n) d (owner_from (c + 1) n ks d) e

pub owner_within : (h : List ClassInfo) (n : ℕ) (d : ℕ × FieldInfo) → numbered_field h n ≡ Some d → d.0 < length h
owner_within h n d e = let within = owner_from 0 n h d e in omega arith
