-- A table that is filled class by class finds the first class of each name.
use Rattle.std.proofs.Common.{◌≡◌, ℕ, ◌+◌, ◌<◌, Bool, true, false, cond, List, [], ◌∷◌, ◌++◌, Option, Some, None, is_some, Vec, Global, length, take, get_or, refl, sym, ap, ◌∙◌, inl, inr, arith}
use Rattle.std.specs.List.{position_from}
use Rattle.std.specs.Map.{lookup}
use Rattle.std.specs.Option.{option_or}
use Rattle.std.specs.Ordering.{nat_cmp, is_eq, match_ordering}
use Rattle.std.specs.declared.cmp.Ordering.{Ordering}
use Rattle.std.specs.declared.cmp.Ordering.TheVariants.{Less, Equal, Greater}
use Rattle.std.specs.Str.{bytes_eq}
use Rattle.std.specs.Cmp.Lexicographic.{slice_cmp}
use Rattle.std.specs.BTreeMap.{insert_entry}
use Rattle.std.proofs.lemmas.Bool.{cases_Bool, both_ways}
use Rattle.std.proofs.lemmas.List.{length-take-le, take_more}
use Rattle.std.proofs.lemmas.Map.Text.{is_eq-slice_cmp}
use Rattle.std.proofs.lemmas.Slice.Eq.{bytes_eq-Decides}
use Rattle.th_base.specs.declared.class.ClassInfo.{ClassInfo}
use Rattle.th_base.specs.Subtype.{class_named}

-- ---- a look-up by bytes after an insertion

abbrev Key : Type 0
Key = Vec ℕ Global

abbrev by_bytes : List ℕ → Key → Bool
by_bytes name k = is_eq (slice_cmp nat_cmp name k.items)

abbrev by_keys : Key → Key → Ordering
by_keys a b = slice_cmp nat_cmp a.items b.items

same_bytes : (a b : List ℕ) → is_eq (slice_cmp nat_cmp a b) ≡ true → a ≡ b
same_bytes a b h = (bytes_eq-Decides a b).0 (sym (is_eq-slice_cmp a b) ∙ h)

equal_bytes : (a b : List ℕ) → a ≡ b → is_eq (slice_cmp nat_cmp a b) ≡ true
equal_bytes a b e = is_eq-slice_cmp a b ∙ (bytes_eq-Decides a b).1 e

lookup_inserted_at : (es : List (Key × ℕ)) (e : Key × ℕ) (k : Key) (v : ℕ) (name : List ℕ) (o : Ordering) → by_keys k e.0 ≡ o
    → lookup (by_bytes name) (insert_entry by_keys es k v) ≡ cond (by_bytes name k) (Some v) (lookup (by_bytes name) es)
    → lookup (by_bytes name) (match_ordering o ((k, v) ∷ e ∷ es) ((e.0, v) ∷ es) (e ∷ insert_entry by_keys es k v))
    ≡ cond (by_bytes name k) (Some v) (lookup (by_bytes name) (e ∷ es))
lookup_inserted_at es e k v name Less c rest = refl
lookup_inserted_at es e k v name Equal c rest =
    let same : k.items ≡ e.0.items = same_bytes k.items e.0.items (ap is_eq c) in
    let test : by_bytes name k ≡ by_bytes name e.0 = ap (λ l. is_eq (slice_cmp nat_cmp name l)) same in
    elim (cases_Bool (by_bytes name e.0)) [
      | inl found ↦ rw (test, found) refl
      | inr other ↦ rw (test, other) refl
    ]
lookup_inserted_at es e k v name Greater c rest =
    elim (cases_Bool (by_bytes name e.0)) [
      | inr other ↦ rw other rest
      | inl found ↦ elim (cases_Bool (by_bytes name k)) [
        | inr apart ↦ rw (found, apart) refl
        | inl both ↦
            let same : k.items ≡ e.0.items = sym (same_bytes name k.items both) ∙ same_bytes name e.0.items found in
            absurd (both_ways _ (ap is_eq c) (equal_bytes k.items e.0.items same))
      ]
    ]

pub lookup_inserted : (es : List (Key × ℕ)) (k : Key) (v : ℕ) (name : List ℕ)
    → lookup (by_bytes name) (insert_entry by_keys es k v) ≡ cond (by_bytes name k) (Some v) (lookup (by_bytes name) es)
lookup_inserted [] k v name = refl
lookup_inserted (e ∷ es) k v name = lookup_inserted_at es e k v name (by_keys k e.0) refl (lookup_inserted es k v name)

-- ---- one class more

or_none : (o : Option ℕ) → option_or o None ≡ o
or_none None = refl
or_none (Some x) = refl

cond_or : (b : Bool) (i : ℕ) (o r : Option ℕ) → option_or (cond b (Some i) o) r ≡ cond b (Some i) (option_or o r)
cond_or true i o r = refl
cond_or false i o r = refl

pub position_from-push : {X : Type 0} (p : X → Bool) (j : ℕ) (xs : List X) (x : X)
    → position_from p j (xs ++ x ∷ []) ≡ option_or (position_from p j xs) (cond (p x) (Some (j + length xs)) None)
position_from-push p j [] x = let e : j + 0 ≡ j = omega arith in rw e refl
position_from-push p j (y ∷ ys) x =
    let e : (j + 1) + length ys ≡ j + length (y ∷ ys) = omega arith in
    rw (position_from-push p (j + 1) ys x, e) (sym (cond_or (p y) j (position_from p (j + 1) ys) _))

class_named-more : (cs : List ClassInfo) (i : ℕ) (c : ClassInfo) (name : List ℕ) → i < length cs → c ≡ get_or cs i c
    → class_named (take (i + 1) cs) name ≡ option_or (class_named (take i cs) name) (cond (bytes_eq c.name name) (Some i) None)
class_named-more cs i c name h e =
    let len : 0 + length (take i cs) ≡ i = omega (arith, length-take-le i cs) in
    rw (take_more cs i c h, ← e) (position_from-push (λ k. bytes_eq k.name name) 0 (take i cs) c ∙ rw len refl)

same_test : (a b : List ℕ) → bytes_eq a b ≡ bytes_eq b a
same_test a b =
    elim (cases_Bool (bytes_eq a b)) [
      | inl same ↦ same ∙ sym ((bytes_eq-Decides b a).1 (sym ((bytes_eq-Decides a b).0 same)))
      | inr other ↦ other ∙ sym (flipped other (bytes_eq b a) refl)
    ]
  where
    flipped : bytes_eq a b ≡ false → (t : Bool) → bytes_eq b a ≡ t → bytes_eq b a ≡ false
    flipped other false f = f
    flipped other true f = absurd (both_ways _ other ((bytes_eq-Decides a b).1 (sym ((bytes_eq-Decides b a).0 f))))

-- a class with a new name is added under its number
pub named_added : (cs : List ClassInfo) (i : ℕ) (c : ClassInfo) (old new : List ℕ → Option ℕ) → i < length cs → c ≡ get_or cs i c
    → ((n : List ℕ) → old n ≡ class_named (take i cs) n) → old c.name ≡ None
    → ((n : List ℕ) → new n ≡ cond (bytes_eq n c.name) (Some i) (old n))
    → (n : List ℕ) → new n ≡ class_named (take (i + 1) cs) n
named_added cs i c old new h e before none put n =
    put n
    ∙ by (bytes_eq n c.name) (bytes_eq-Decides n c.name).0
    ∙ ap (λ b. option_or (class_named (take i cs) n) (cond b (Some i) None)) (same_test n c.name)
    ∙ sym (class_named-more cs i c n h e)
  where
    by : (b : Bool) → (b ≡ true → n ≡ c.name) → cond b (Some i) (old n) ≡ option_or (class_named (take i cs) n) (cond b (Some i) None)
    by true p = sym (ap (λ o. option_or o (Some i)) (sym (before n) ∙ ap old (p refl) ∙ none))
    by false p = before n ∙ sym (or_none (class_named (take i cs) n))

-- a class whose name is there already changes nothing
pub named_kept : (cs : List ClassInfo) (i : ℕ) (c : ClassInfo) (old : List ℕ → Option ℕ) → i < length cs → c ≡ get_or cs i c
    → ((n : List ℕ) → old n ≡ class_named (take i cs) n) → is_some (old c.name) ≡ true
    → (n : List ℕ) → old n ≡ class_named (take (i + 1) cs) n
named_kept cs i c old h e before some n =
    before n
    ∙ by (bytes_eq c.name n) (bytes_eq-Decides c.name n).0
    ∙ sym (class_named-more cs i c n h e)
  where
    keeps : (o : Option ℕ) → is_some o ≡ true → o ≡ option_or o (Some i)
    keeps (Some x) g = refl
    keeps None g = cc

    by : (b : Bool) → (b ≡ true → c.name ≡ n) → class_named (take i cs) n ≡ option_or (class_named (take i cs) n) (cond b (Some i) None)
    by true p = keeps (class_named (take i cs) n) (ap is_some (sym (before n) ∙ ap old (sym (p refl))) ∙ some)
    by false p = sym (or_none (class_named (take i cs) n))

-- the table after an insertion, by the names that it finds
pub named_put : (old new : List (Key × ℕ)) (k : Key) (v : ℕ) (name : List ℕ) → new ≡ insert_entry by_keys old k v → k.items ≡ name
    → (n : List ℕ) → lookup (by_bytes n) new ≡ cond (bytes_eq n name) (Some v) (lookup (by_bytes n) old)
named_put old new k v name e g n =
    ap (lookup (by_bytes n)) e ∙ lookup_inserted old k v n
    ∙ ap (λ b. cond b (Some v) (lookup (by_bytes n) old)) (is_eq-slice_cmp n k.items ∙ ap (bytes_eq n) g)

pub none_from_is_some : (o : Option ℕ) → is_some o ≡ false → o ≡ None
none_from_is_some None h = refl
none_from_is_some (Some x) h = cc
