-- Where methods are numbered in order, the first method of a number stands at the place of this number.
use Rattle.std.proofs.Common.{◌≡◌, ℕ, ◌+◌, ◌<◌, ◌==◌, zero, suc, Bool, true, false, cond, List, [], ◌∷◌, length, map, Option, None, Some, slice_get, refl, sym, ap, subst, arith, ◌∙◌, if◌then◌else◌}
use Rattle.std.specs.List.{find}
use Rattle.std.specs.Option.{option_map, option_or, option_and_then}
use Rattle.std.proofs.lemmas.Bool.{eq-eqb, ne_eqb}
use Rattle.std.proofs.lemmas.List.Folds.{find-append}
use Rattle.th_base.specs.declared.class.ClassInfo.{ClassInfo}
use Rattle.th_base.specs.declared.class.MethodInfo.{MethodInfo}
use Rattle.th_base.specs.Hierarchy.{supertypes_of, numbered_from, numbered_method}
use Rattle.th_base.specs.IdSet.{has}
use Rattle.th_ir.specs.declared.program.RegProgram.{RegProgram}
use Rattle.th_ir.specs.declared.stmt.CallKind.{CallKind}
use Rattle.th_ir.specs.Calls.{owned_methods_from, owned_methods, declared_at, with_code, target_by, class_target, site_target, static_target}
use Rattle.th_ir.specs.Sites.{site_class}
use Rattle.th_ir.specs.WellFormed.{AreNumbered}
use Rattle.th_ir.proofs.Plain.{some_is}

-- ---- the first method of a number, among all methods in order

abbrev has_number : ℕ → ℕ × MethodInfo → Bool
has_number n d = d.1.id.0 == n

abbrev owned_by : ℕ → MethodInfo → ℕ × MethodInfo
owned_by c f = (c, f)

mapped : (c : ℕ) (b : Bool) (f : MethodInfo) (o : Option MethodInfo) (q : Option (ℕ × MethodInfo)) → option_map (owned_by c) o ≡ q
    → option_map (owned_by c) (cond b (Some f) o) ≡ cond b (Some (c, f)) q
mapped c true f o q e = refl
mapped c false f o q e = e

found_owned : (c n : ℕ) (fs : List MethodInfo) → option_map (owned_by c) (find (λ x. x.id.0 == n) fs) ≡ find (has_number n) (map (owned_by c) fs)
found_owned c n [] = refl
found_owned c n (f ∷ fs) = mapped c (f.id.0 == n) f (find (λ x. x.id.0 == n) fs) (find (has_number n) (map (owned_by c) fs)) (found_owned c n fs)

numbered_owned : (c n : ℕ) (ks : List ClassInfo) → numbered_from (λ k. k.methods) (λ f. f.id.0) c ks n ≡ find (has_number n) (owned_methods_from c ks)
numbered_owned c n [] = refl
numbered_owned c n (k ∷ ks) =
    ap (λ o. option_or o (numbered_from (λ x. x.methods) (λ f. f.id.0) (c + 1) ks n)) (found_owned c n k.methods)
    ∙ ap (option_or (find (has_number n) (map (owned_by c) k.methods))) (numbered_owned (c + 1) n ks)
    ∙ sym (find-append (has_number n) (map (owned_by c) k.methods) (owned_methods_from (c + 1) ks))

-- ---- at its place

-- numbers count on from b
abbrev CountFrom : ℕ → List (ℕ × MethodInfo) → Type 0
CountFrom b xs = (k : ℕ) (d : ℕ × MethodInfo) → slice_get xs k ≡ Some d → d.1.id.0 ≡ b + k

at_place : (b n : ℕ) (xs : List (ℕ × MethodInfo)) → CountFrom b xs → find (has_number (b + n)) xs ≡ slice_get xs n
at_place b n [] count = refl
at_place b zero (x ∷ xs) count = ap (λ t. cond t (Some x) (find (has_number (b + 0)) xs)) (eq-eqb x.1.id.0 (b + 0) (count 0 x refl))
at_place b (suc n) (x ∷ xs) count =
    let first : x.1.id.0 ≡ b + 0 = count 0 x refl in
    let apart : (x.1.id.0 == b + suc n) ≡ false = ne_eqb x.1.id.0 (b + suc n) (λ (e : x.1.id.0 ≡ b + suc n). let no : ⊥ = omega arith in no) in
    let moved : b + suc n ≡ (b + 1) + n = omega arith in
    let later : CountFrom (b + 1) xs = λ k d e. (let is = count (suc k) d e in omega arith) in
    ap (λ t. cond t (Some x) (find (has_number (b + suc n)) xs)) apart
    ∙ ap (λ m. find (has_number m) xs) moved ∙ at_place (b + 1) n xs later

pub numbered : (h : List ClassInfo) (f : ℕ) → AreNumbered h → numbered_method h f ≡ declared_at h f
numbered h f are =
    let none_before : f ≡ 0 + f = omega arith in
    let count : CountFrom 0 (owned_methods h) = λ k d e. (let is = are.methods k d e in omega arith) in
    numbered_owned 0 f h ∙ ap (λ m. find (has_number m) (owned_methods h)) none_before ∙ at_place 0 f (owned_methods h) count

-- ---- the class that declares it

owner_by : (c m : ℕ) (o : Option MethodInfo) (more : Option (ℕ × MethodInfo)) (d : ℕ × MethodInfo) → (more ≡ Some d → d.0 < (c + 1) + m)
    → option_or (option_map (owned_by c) o) more ≡ Some d → d.0 < c + suc m
owner_by c m None more d rest e = let within = rest e in omega arith
owner_by c m (Some f) more d rest e = subst (λ (x : ℕ). x < c + suc m) (ap (λ (x : ℕ × MethodInfo). x.0) (some_is (c, f) d e)) (omega arith)

owner_from : (c n : ℕ) (ks : List ClassInfo) (d : ℕ × MethodInfo) → numbered_from (λ k. k.methods) (λ f. f.id.0) c ks n ≡ Some d → d.0 < c + length ks
owner_from c n [] d e = absurd cc
owner_from c n (k ∷ ks) d e =
    owner_by c (length ks) (find (λ x. x.id.0 == n) k.methods) (numbered_from (λ x. x.methods) (λ f. f.id.0) (c + 1) ks n) d (owner_from (c + 1) n ks d) e

pub owner_within : (h : List ClassInfo) (n : ℕ) (d : ℕ × MethodInfo) → numbered_method h n ≡ Some d → d.0 < length h
owner_within h n d e = let within = owner_from 0 n h d e in omega arith

-- ---- the method that a call takes, by what is found

pub target_unknown : (h : List ClassInfo) (p : RegProgram) (kind : CallKind) (m s k : ℕ) → AreNumbered h → site_class h p s ≡ Some k → numbered_method h m ≡ None
    → None ≡ site_target h p kind m s
target_unknown h p kind m s k are class none =
    sym (ap (option_and_then (class_target h kind m)) class
    ∙ ap (option_and_then (λ (d : ℕ × MethodInfo). if has (supertypes_of h k) d.0 then target_by h kind m d.1 k else None)) (sym (numbered h m are) ∙ none))

by_subtype : (b c : Bool) (x : Option ℕ) → b ≡ c → (if b then x else None) ≡ (if c then x else None)
by_subtype b c x e = ap (λ (d : Bool). if d then x else None) e

pub target_apart : (h : List ClassInfo) (p : RegProgram) (kind : CallKind) (m s k : ℕ) (d : ℕ × MethodInfo) → AreNumbered h → site_class h p s ≡ Some k → numbered_method h m ≡ Some d
    → has (supertypes_of h k) d.0 ≡ false → None ≡ site_target h p kind m s
target_apart h p kind m s k d are class found apart =
    sym (ap (option_and_then (class_target h kind m)) class
    ∙ ap (option_and_then (λ (d : ℕ × MethodInfo). if has (supertypes_of h k) d.0 then target_by h kind m d.1 k else None)) (sym (numbered h m are) ∙ found)
    ∙ by_subtype (has (supertypes_of h k) d.0) false (target_by h kind m d.1 k) apart)

pub target_found : (h : List ClassInfo) (p : RegProgram) (kind : CallKind) (m s k : ℕ) (d : ℕ × MethodInfo) → AreNumbered h → site_class h p s ≡ Some k → numbered_method h m ≡ Some d
    → has (supertypes_of h k) d.0 ≡ true → target_by h kind m d.1 k ≡ site_target h p kind m s
target_found h p kind m s k d are class found below =
    sym (ap (option_and_then (class_target h kind m)) class
    ∙ ap (option_and_then (λ (d : ℕ × MethodInfo). if has (supertypes_of h k) d.0 then target_by h kind m d.1 k else None)) (sym (numbered h m are) ∙ found)
    ∙ by_subtype (has (supertypes_of h k) d.0) true (target_by h kind m d.1 k) below)

pub static_unknown : (h : List ClassInfo) (m : ℕ) → AreNumbered h → numbered_method h m ≡ None → None ≡ static_target h m
static_unknown h m are none = sym (ap (option_and_then (λ (d : ℕ × MethodInfo). with_code m d.1)) (sym (numbered h m are) ∙ none))

pub static_found : (h : List ClassInfo) (m : ℕ) (d : ℕ × MethodInfo) → AreNumbered h → numbered_method h m ≡ Some d → with_code m d.1 ≡ static_target h m
static_found h m d are found = sym (ap (option_and_then (λ (d : ℕ × MethodInfo). with_code m d.1)) (sym (numbered h m are) ∙ found))
