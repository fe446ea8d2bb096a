-- The static fields of the classes of files: which they are, and that they ascend.
use Rattle.std.proofs.Common.{◌≡◌, ℕ, zero, suc, ◌+◌, Bool, true, false, List, [], ◌∷◌, ◌++◌, length, map, filter, Option, None, Some, slice_get, refl, sym, ap, subst, arith, ◌∙◌, if◌then◌else◌}
use Rattle.std.specs.Prelude.{◌&&◌, ◌↔◌, nat_le}
use Rattle.std.specs.Option.{option_map_or}
use Rattle.th_base.specs.declared.built_in.TheConstants.{BUILT_IN_COUNT}
use Rattle.th_base.specs.declared.class.ClassInfo.{ClassInfo}
use Rattle.th_base.specs.declared.class.FieldInfo.{FieldInfo}
use Rattle.th_base.specs.declared.number.FieldId.{FieldId}
use Rattle.th_base.specs.IdSet.{has, IsAscending}
use Rattle.th_ir.specs.Fields.{owned_fields_from, owned_fields, is_file_static}
use Rattle.th_ir.specs.WellFormed.{places_from}
use Rattle.th_flow.proofs.Rows.{place_passes, passing, places_ascend}
use Rattle.th_graph.specs.Graphs.{AreFieldsNumbered}
use Rattle.th_graph.specs.Tables.{declared_statics, own_statics, file_statics_from}

abbrev pub numbers_of : List FieldId → List ℕ
numbers_of fields = map (λ f. f.0) fields

-- the field is static, and its class is of a file
abbrev is_static_one : ℕ × FieldInfo → Bool
is_static_one d = d.1.is_static && nat_le BUILT_IN_COUNT d.0

-- ---- lists of numbered items

numbers_append : (xs ys : List FieldId) → numbers_of (xs ++ ys) ≡ numbers_of xs ++ numbers_of ys
numbers_append [] ys = refl
numbers_append (x ∷ xs) ys = ap (λ l. x.0 ∷ l) (numbers_append xs ys)

places_append : {A : Type 0} (meets : A → Bool) (n : ℕ) (xs ys : List A) → places_from meets n (xs ++ ys) ≡ places_from meets n xs ++ places_from meets (n + length xs) ys
places_append meets n [] ys = ap (λ k. places_from meets k ys) (omega arith)
places_append meets n (x ∷ xs) ys = by_test (meets x) (places_append meets (n + 1) xs ys ∙ ap (λ k. places_from meets (n + 1) xs ++ places_from meets k ys) (omega arith))
  where
    by_test : (b : Bool) → places_from meets (n + 1) (xs ++ ys) ≡ places_from meets (n + 1) xs ++ places_from meets (n + suc (length xs)) ys
        → (if b then n ∷ places_from meets (n + 1) (xs ++ ys) else places_from meets (n + 1) (xs ++ ys))
        ≡ (if b then n ∷ places_from meets (n + 1) xs else places_from meets (n + 1) xs) ++ places_from meets (n + suc (length xs)) ys
    by_test true more = ap (λ l. n ∷ l) more
    by_test false more = more

-- the items of a list are numbered from here on
abbrev AreNumberedFrom : ℕ → List (ℕ × FieldInfo) → Type 0
AreNumberedFrom n ds = (k : ℕ) (d : ℕ × FieldInfo) → slice_get ds k ≡ Some d → d.1.id.0 ≡ n + k

numbered_first : (n : ℕ) (xs ys : List (ℕ × FieldInfo)) → AreNumberedFrom n (xs ++ ys) → AreNumberedFrom n xs
numbered_first n xs ys all k d e = all k d (left xs k e)
  where
    left : (xs : List (ℕ × FieldInfo)) (k : ℕ) → slice_get xs k ≡ Some d → slice_get (xs ++ ys) k ≡ Some d
    left [] k e = absurd cc
    left (x ∷ xs) zero e = e
    left (x ∷ xs) (suc k) e = left xs k e

numbered_rest : (n : ℕ) (xs ys : List (ℕ × FieldInfo)) → AreNumberedFrom n (xs ++ ys) → AreNumberedFrom (n + length xs) ys
numbered_rest n xs ys all k d e = let at = all (length xs + k) d (right xs) in omega (arith, at)
  where
    right : (xs : List (ℕ × FieldInfo)) → slice_get (xs ++ ys) (length xs + k) ≡ Some d
    right [] = let at : 0 + k ≡ k = omega arith in ap (λ i. slice_get ys i) at ∙ e
    right (x ∷ xs) = let at : suc (length xs) + k ≡ suc (length xs + k) = omega arith in ap (λ i. slice_get (x ∷ (xs ++ ys)) i) at ∙ right xs

-- ---- one class, and all

-- one field more of a class
one_field : (n : ℕ) (f : FieldInfo) (fs : List FieldInfo) (rest : List ℕ) (b s : Bool) → f.id.0 ≡ n + 0 → numbers_of (if b then declared_statics fs else []) ≡ rest
    → numbers_of (if b then map (λ g. g.id) (if s then f ∷ filter (λ g. g.is_static) fs else filter (λ g. g.is_static) fs) else []) ≡ (if s && b then n ∷ rest else rest)
one_field n f fs rest true true at same = let number : f.id.0 ≡ n = omega (arith, at) in ap (λ l. f.id.0 ∷ l) same ∙ ap (λ k. k ∷ rest) number
one_field n f fs rest true false at same = same
one_field n f fs rest false true at same = same
one_field n f fs rest false false at same = same

no_field : (b : Bool) → numbers_of (if b then declared_statics [] else []) ≡ []
no_field true = refl
no_field false = refl

own_places : (n c : ℕ) (fs : List FieldInfo) → AreNumberedFrom n (map (λ (f : FieldInfo). (c, f)) fs)
    → numbers_of (if nat_le BUILT_IN_COUNT c then declared_statics fs else []) ≡ places_from is_static_one n (map (λ (f : FieldInfo). (c, f)) fs)
own_places n c [] all = no_field (nat_le BUILT_IN_COUNT c)
own_places n c (f ∷ fs) all =
    one_field n f fs (places_from is_static_one (n + 1) (map (λ (g : FieldInfo). (c, g)) fs)) (nat_le BUILT_IN_COUNT c) f.is_static (all 0 (c, f) refl)
    (own_places (n + 1) c fs (λ k d e. let at = all (suc k) d e in omega (arith, at)))

statics_places : (n c : ℕ) (ks : List ClassInfo) → AreNumberedFrom n (owned_fields_from c ks) → numbers_of (file_statics_from c ks) ≡ places_from is_static_one n (owned_fields_from c ks)
statics_places n c [] all = refl
statics_places n c (k ∷ ks) all =
    let own : List (ℕ × FieldInfo) = map (λ (f : FieldInfo). (c, f)) k.fields in
    numbers_append (own_statics c k) (file_statics_from (c + 1) ks)
    ∙ ap (λ l. l ++ numbers_of (file_statics_from (c + 1) ks)) (own_places n c k.fields (numbered_first n own (owned_fields_from (c + 1) ks) all))
    ∙ ap (λ l. places_from is_static_one n own ++ l) (statics_places (n + length own) (c + 1) ks (numbered_rest n own (owned_fields_from (c + 1) ks) all))
    ∙ sym (places_append is_static_one n own (owned_fields_from (c + 1) ks))

numbered : (h : List ClassInfo) → AreFieldsNumbered h → AreNumberedFrom 0 (owned_fields h)
numbered h all k d e = let at = all k d e in omega (arith, at)

pub statics_ascend : (h : List ClassInfo) → AreFieldsNumbered h → IsAscending (numbers_of (file_statics_from 0 h))
statics_ascend h all = subst IsAscending (sym (statics_places 0 0 h (numbered h all))) (places_ascend is_static_one 0 (owned_fields h))

file_static_by : (o : Option (ℕ × FieldInfo)) (d : ℕ × FieldInfo) → o ≡ Some d → option_map_or (λ (d : ℕ × FieldInfo). d.1.is_static && nat_le BUILT_IN_COUNT d.0) o false ≡ is_static_one d
file_static_by o d e = ap (λ z. option_map_or (λ (d : ℕ × FieldInfo). d.1.is_static && nat_le BUILT_IN_COUNT d.0) z false) e

pub statics_are : (h : List ClassInfo) (f : ℕ) → AreFieldsNumbered h → (has (numbers_of (file_statics_from 0 h)) f ≡ true) ↔ (is_file_static h f ≡ true)
statics_are h f all = subst (λ (l : List ℕ). (has l f ≡ true) ↔ (is_file_static h f ≡ true)) (sym (statics_places 0 0 h (numbered h all))) (
  λ e.
      let q = place_passes is_static_one 0 (owned_fields h) f e in
      let number = q.number in
      let at : q.at ≡ f = omega (arith, number) in
      file_static_by (slice_get (owned_fields h) f) q.item (subst (λ k. slice_get (owned_fields h) k ≡ Some q.item) at q.stands) ∙ q.passes,
  λ e. by_field (slice_get (owned_fields h) f) refl e,
)
  where
    by_field : (o : Option (ℕ × FieldInfo)) → slice_get (owned_fields h) f ≡ o → option_map_or (λ (d : ℕ × FieldInfo). d.1.is_static && nat_le BUILT_IN_COUNT d.0) o false ≡ true
        → has (places_from is_static_one 0 (owned_fields h)) f ≡ true
    by_field None is e = absurd cc
    by_field (Some d) is e = passing is_static_one (owned_fields h) f d is e

-- ---- one class more

pub statics_push : (c : ℕ) (ks : List ClassInfo) (k : ClassInfo) → file_statics_from c (ks ++ k ∷ []) ≡ file_statics_from c ks ++ own_statics (c + length ks) k
statics_push c [] k = by_number (own_statics c k) ∙ ap (λ n. own_statics n k) (omega arith)
  where
    by_number : (l : List FieldId) → l ++ [] ≡ l
    by_number [] = refl
    by_number (x ∷ l) = ap (λ r. x ∷ r) (by_number l)
statics_push c (j ∷ ks) k =
    ap (λ l. own_statics c j ++ l) (statics_push (c + 1) ks k ∙ ap (λ n. file_statics_from (c + 1) ks ++ own_statics n k) (omega arith))
    ∙ assoc (own_statics c j)
  where
    assoc : (l : List FieldId) → l ++ (file_statics_from (c + 1) ks ++ own_statics (c + suc (length ks)) k) ≡ (l ++ file_statics_from (c + 1) ks) ++ own_statics (c + suc (length ks)) k
    assoc [] = refl
    assoc (x ∷ l) = ap (λ r. x ∷ r) (assoc l)
