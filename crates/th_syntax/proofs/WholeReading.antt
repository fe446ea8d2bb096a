-- Reading whole bytes gives the class file that they stand for, or their first flaw.
use Rattle.std.proofs.Common.{◌≡◌, ◌⊎◌, ℕ, zero, suc, ◌<◌, ◌&&◌, Bool, true, false, cond, eqb, ltb, List, [], ◌∷◌, ◌++◌, length, take, drop, Option, Some, None, Result, Ok, Err, refl, sym, ap, subst, ◌∙◌, arith, inl, inr}
use Rattle.std.specs.Prelude.{IsTrue, ◌↔◌}
use Rattle.std.specs.List.{All, AllByRecursion, list_all}
use Rattle.std.specs.Str.{bytes_eq}
use Rattle.std.proofs.lemmas.Bool.{eqb-true, ltb-true}
use Rattle.std.proofs.lemmas.List.Elements.{All-from_recursion}
use Rattle.std.proofs.lemmas.List.{take-append-drop, nil_from_length}
use Rattle.std.proofs.lemmas.Slice.Eq.{bytes_eq-Decides}
use Rattle.th_syntax.specs.declared.class_file.ClassFile.{ClassFile}
use Rattle.th_syntax.specs.declared.refusal.Flaw.{Flaw}
use Rattle.th_syntax.specs.declared.cause.TheConstants as cause
use Rattle.th_syntax.specs.Flaws.{flaw_at, IsFirst, first_of}
use Rattle.th_syntax.specs.Forms.{Form, Stands, Found, read}
use Rattle.th_syntax.specs.ClassBytes.{RawClass, class_file, magic}
use Rattle.th_syntax.specs.Checks.{second_pass, third_pass, fourth_pass}
use Rattle.th_syntax.specs.ClassGrammar.{are_bytes, class_file_of, IsWhole, IsClassFile}
use Rattle.th_syntax.specs.FirstFlaw.{FirstFlaw, no_magic, items, trailing, indices, names, content}
use Rattle.th_syntax.specs.Reader.{unless_flawed, valued, checked_class, behind_items, reading}
use Rattle.th_syntax.proofs.Inverting.{both}
use Rattle.th_syntax.proofs.Reading.{stands_read, read_stands, flawed_read, read_flawed}
use Rattle.th_syntax.proofs.FirstFlaws.{first_none, first_some, first_is}
use Rattle.th_syntax.proofs.Complete.{complete}

-- ---- answers

abbrev Answer : Type 0
Answer = Result ClassFile Flaw

ok_is : (v w : ClassFile) → (let r : Answer = Ok v in r) ≡ Ok w → v ≡ w
ok_is v w e = cc

err_is : (f g : Flaw) → (let r : Answer = Err f in r) ≡ Err g → f ≡ g
err_is f g e = cc

err_ok : (f : Flaw) (v : ClassFile) → (let r : Answer = Err f in r) ≡ Ok v → ⊥
err_ok f v e = cc

as_err : (f g : Flaw) → f ≡ g → (let r : Answer = Err f in r) ≡ Err g
as_err f g e = ap (λ (x : Flaw). let r : Answer = Err x in r) e

-- ---- the magic number

-- the front of the bytes is the magic number, or isn't
magic_is : (bytes : List ℕ) → bytes_eq (take 4 bytes) magic ≡ true → bytes ≡ magic ++ drop 4 bytes
magic_is bytes e = sym (take-append-drop 4 bytes) ∙ ap (λ (front : List ℕ). front ++ drop 4 bytes) ((bytes_eq-Decides (take 4 bytes) magic).0 e)

reading_with : (bytes others : List ℕ) → bytes ≡ magic ++ others → reading bytes ≡ behind_items (read class_file 4 others)
unfolding reading
reading_with bytes others begins = ap reading begins

-- ---- the passes

-- no flaw in three passes, and the value that is left
passed : (a b c : Option Flaw) (value : Option ClassFile) (v : ClassFile) → unless_flawed a (unless_flawed b (unless_flawed c (valued value))) ≡ Ok v → (a ≡ None) × (b ≡ None) × (c ≡ None) × (value ≡ Some v)
passed (Some f) b c value v e = absurd (err_ok f v e)
passed None (Some f) c value v e = absurd (err_ok f v e)
passed None None (Some f) value v e = absurd (err_ok f v e)
passed None None None None v e = absurd (err_ok (flaw_at cause.NOT_CLASS 0) v e)
passed None None None (Some w) v e = (refl, refl, refl, ap (λ (x : ClassFile). let o : Option ClassFile = Some x in o) (ok_is w v e))

passes_value : (c : RawClass) (v : ClassFile) → checked_class c ≡ Ok v → (second_pass c ≡ []) × (third_pass c ≡ []) × (fourth_pass c ≡ []) × (class_file_of c ≡ Some v)
passes_value c v e =
    let p = passed (first_of (second_pass c)) (first_of (third_pass c)) (first_of (fourth_pass c)) (class_file_of c) v e in
    (first_none (second_pass c) p.0, first_none (third_pass c) p.1, first_none (fourth_pass c) p.2, p.3)

-- the flaws of a pass have a first one, or there are none
first_or_none : (flaws : List Flaw) → (first_of flaws ≡ None) ⊎ ((f : Flaw) × (first_of flaws ≡ Some f))
first_or_none [] = inl refl
first_or_none (f ∷ flaws) = inr (_, refl)

passes_flaw : (bytes : List ℕ) (c : RawClass) (flaw : Flaw) → IsWhole bytes c → checked_class c ≡ Err flaw → FirstFlaw bytes flaw
passes_flaw bytes c flaw whole e = in_second (first_of (second_pass c)) refl e
  where
    in_value : (value : Option ClassFile) → class_file_of c ≡ value → second_pass c ≡ [] → third_pass c ≡ [] → fourth_pass c ≡ [] → valued value ≡ Err flaw → FirstFlaw bytes flaw
    in_value (Some w) is a b d e = absurd cc
    in_value None is a b d e = absurd (complete c a b d is)

    in_fourth : (found : Option Flaw) → first_of (fourth_pass c) ≡ found → second_pass c ≡ [] → third_pass c ≡ [] → unless_flawed found (valued (class_file_of c)) ≡ Err flaw → FirstFlaw bytes flaw
    in_fourth (Some f) is a b e = content c whole a b (subst (IsFirst (fourth_pass c)) (err_is f flaw e) (first_some (fourth_pass c) f is))
    in_fourth None is a b e = in_value (class_file_of c) refl a b (first_none (fourth_pass c) is) e

    in_third : (found : Option Flaw) → first_of (third_pass c) ≡ found → second_pass c ≡ [] → unless_flawed found (unless_flawed (first_of (fourth_pass c)) (valued (class_file_of c))) ≡ Err flaw → FirstFlaw bytes flaw
    in_third (Some f) is a e = names c whole a (subst (IsFirst (third_pass c)) (err_is f flaw e) (first_some (third_pass c) f is))
    in_third None is a e = in_fourth (first_of (fourth_pass c)) refl a (first_none (third_pass c) is) e

    in_second : (found : Option Flaw) → first_of (second_pass c) ≡ found → unless_flawed found (unless_flawed (first_of (third_pass c)) (unless_flawed (first_of (fourth_pass c)) (valued (class_file_of c)))) ≡ Err flaw → FirstFlaw bytes flaw
    in_second (Some f) is e = indices c whole (subst (IsFirst (second_pass c)) (err_is f flaw e) (first_some (second_pass c) f is))
    in_second None is e = in_third (first_of (third_pass c)) refl (first_none (second_pass c) is) e

-- ---- what is read

-- what follows the magic number was read whole, and this is left to check
whole_value : (bytes others : List ℕ) (result : Result (Found RawClass) Flaw) (v : ClassFile) → bytes ≡ magic ++ others → read class_file 4 others ≡ result → IsTrue (are_bytes bytes) → behind_items result ≡ Ok v → IsClassFile bytes v
whole_value bytes others (Err flaw) v begins is are e = absurd (err_ok flaw v e)
whole_value bytes others (Ok found) v begins is are e = by_rest (eqb (length found.2) 0) refl e
  where
    by_rest : (t : Bool) → eqb (length found.2) 0 ≡ t → cond t (checked_class found.0) (Err (flaw_at cause.TRAILING found.1)) ≡ Ok v → IsClassFile bytes v
    by_rest false none e = absurd (err_ok (flaw_at cause.TRAILING found.1) v e)
    by_rest true none e =
        let stands : Stands class_file 4 others found.0 found.1 found.2 = read_stands class_file 4 others found is in
        let end : found.2 ≡ [] = nil_from_length found.2 (eqb-true (length found.2) 0 none) in
        let p = passes_value found.0 v e in
        record {
          class = found.0;
          bytes_are = are;
          whole = record { others = others; behind = found.1; begins = begins; items = subst (λ (rest : List ℕ). Stands class_file 4 others found.0 found.1 rest) end stands };
          indices = p.0;
          names = p.1;
          content = p.2;
          stands_for = p.3;
        }

-- more than none isn't none
not_none : (n : ℕ) → eqb (suc n) 0 ≡ false
not_none n = go (eqb (suc n) 0) refl
  where
    go : (t : Bool) → eqb (suc n) 0 ≡ t → eqb (suc n) 0 ≡ false
    go false is = is
    go true is = absurd (let k : suc n ≡ 0 = eqb-true (suc n) 0 is in omega arith)

whole_flaw : (bytes others : List ℕ) (result : Result (Found RawClass) Flaw) (flaw : Flaw) → bytes ≡ magic ++ others → read class_file 4 others ≡ result → behind_items result ≡ Err flaw → FirstFlaw bytes flaw
whole_flaw bytes others (Err f) flaw begins is e = items others begins (read_flawed class_file 4 others flaw (is ∙ ap (λ (x : Flaw). let r : Result (Found RawClass) Flaw = Err x in r) (err_is f flaw e)))
whole_flaw bytes others (Ok found) flaw begins is e = by_rest found.2 refl e
  where
    stands : Stands class_file 4 others found.0 found.1 found.2
    stands = read_stands class_file 4 others found is

    by_rest : (rest : List ℕ) → found.2 ≡ rest → cond (eqb (length rest) 0) (checked_class found.0) (Err (flaw_at cause.TRAILING found.1)) ≡ Err flaw → FirstFlaw bytes flaw
    by_rest [] none e =
        passes_flaw bytes found.0 flaw
        (record { others = others; behind = found.1; begins = begins; items = subst (λ (rest : List ℕ). Stands class_file 4 others found.0 found.1 rest) none stands }) e
    by_rest (b ∷ rest) some e =
        trailing others found.0 found.1 found.2 begins stands (omega (arith, ap length some))
        (sym (err_is (flaw_at cause.TRAILING found.1) flaw (rw (not_none (length rest)) at e)))

-- ---- both ways

not_magic : (bytes : List ℕ) → bytes_eq (take 4 bytes) magic ≡ false → (others : List ℕ) → bytes ≡ magic ++ others → ⊥
not_magic bytes e others begins =
    let front : take 4 bytes ≡ magic = ap (take 4) begins in
    let test : bytes_eq magic magic ≡ false = subst (λ (f : List ℕ). bytes_eq f magic ≡ false) front e in
    absurd cc

read_value : (bytes : List ℕ) (v : ClassFile) → IsTrue (are_bytes bytes) → reading bytes ≡ Ok v → IsClassFile bytes v
unfolding reading
read_value bytes v are e = go (bytes_eq (take 4 bytes) magic) refl e
  where
    go : (t : Bool) → bytes_eq (take 4 bytes) magic ≡ t → cond t (behind_items (read class_file 4 (drop 4 bytes))) (Err (flaw_at cause.NOT_CLASS 0)) ≡ Ok v → IsClassFile bytes v
    go true is e = whole_value bytes (drop 4 bytes) (read class_file 4 (drop 4 bytes)) v (magic_is bytes is) refl are e
    go false is e = absurd (err_ok (flaw_at cause.NOT_CLASS 0) v e)

read_flaw : (bytes : List ℕ) (flaw : Flaw) → reading bytes ≡ Err flaw → FirstFlaw bytes flaw
unfolding reading
read_flaw bytes flaw e = go (bytes_eq (take 4 bytes) magic) refl e
  where
    go : (t : Bool) → bytes_eq (take 4 bytes) magic ≡ t → cond t (behind_items (read class_file 4 (drop 4 bytes))) (Err (flaw_at cause.NOT_CLASS 0)) ≡ Err flaw → FirstFlaw bytes flaw
    go true is e = whole_flaw bytes (drop 4 bytes) (read class_file 4 (drop 4 bytes)) flaw (magic_is bytes is) refl e
    go false is e = no_magic (not_magic bytes is) (sym (err_is (flaw_at cause.NOT_CLASS 0) flaw e))

-- the items of a whole class are read, and its passes are left
whole_read : (bytes : List ℕ) (c : RawClass) → IsWhole bytes c → reading bytes ≡ checked_class c
whole_read bytes c whole = reading_with bytes whole.others whole.begins ∙ ap behind_items (stands_read class_file 4 whole.others c whole.behind [] whole.items)

value_read : (bytes : List ℕ) (v : ClassFile) → IsClassFile bytes v → reading bytes ≡ Ok v
value_read bytes v f =
    whole_read bytes f.class f.whole ∙ rw (ap first_of f.indices, ap first_of f.names, ap first_of f.content, f.stands_for) refl

flaw_read : (bytes : List ℕ) (flaw : Flaw) → FirstFlaw bytes flaw → reading bytes ≡ Err flaw
unfolding reading
flaw_read bytes flaw (no_magic none flaw_is) = go (bytes_eq (take 4 bytes) magic) refl
  where
    go : (t : Bool) → bytes_eq (take 4 bytes) magic ≡ t → cond t (behind_items (read class_file 4 (drop 4 bytes))) (Err (flaw_at cause.NOT_CLASS 0)) ≡ Err flaw
    go true is = absurd (none (drop 4 bytes) (magic_is bytes is))
    go false is = as_err (flaw_at cause.NOT_CLASS 0) flaw (sym flaw_is)
flaw_read bytes flaw (items others begins flawed) = reading_with bytes others begins ∙ ap behind_items (flawed_read class_file 4 others flaw flawed)
flaw_read bytes flaw (trailing others class behind more begins stands some flaw_is) =
    reading_with bytes others begins ∙ ap behind_items (stands_read class_file 4 others class behind more stands) ∙ go more some
  where
    go : (rest : List ℕ) → 0 < length rest → cond (eqb (length rest) 0) (checked_class class) (Err (flaw_at cause.TRAILING behind)) ≡ Err flaw
    go [] lower = absurd (omega arith)
    go (b ∷ rest) lower = rw (not_none (length rest)) (as_err (flaw_at cause.TRAILING behind) flaw (sym flaw_is))
flaw_read bytes flaw (indices class whole first) = whole_read bytes class whole ∙ rw (first_is (second_pass class) flaw first) refl
flaw_read bytes flaw (names class whole none first) = whole_read bytes class whole ∙ rw (ap first_of none, first_is (third_pass class) flaw first) refl
flaw_read bytes flaw (content class whole none no_names first) = whole_read bytes class whole ∙ rw (ap first_of none, ap first_of no_names, first_is (fourth_pass class) flaw first) refl

pub reading_value : (bytes : List ℕ) (v : ClassFile) → IsTrue (are_bytes bytes) → (reading bytes ≡ Ok v) ↔ IsClassFile bytes v
reading_value bytes v are = (read_value bytes v are, value_read bytes v)

pub reading_flaw : (bytes : List ℕ) (flaw : Flaw) → (reading bytes ≡ Err flaw) ↔ FirstFlaw bytes flaw
reading_flaw bytes flaw = (read_flaw bytes flaw, flaw_read bytes flaw)

-- ---- what follows

pub one_value : (bytes : List ℕ) (v w : ClassFile) → IsClassFile bytes v → IsClassFile bytes w → v ≡ w
one_value bytes v w f g = ok_is v w (sym (value_read bytes v f) ∙ value_read bytes w g)

pub one_flaw : (bytes : List ℕ) (flaw other : Flaw) → FirstFlaw bytes flaw → FirstFlaw bytes other → flaw ≡ other
one_flaw bytes flaw other f g = err_is flaw other (sym (flaw_read bytes flaw f) ∙ flaw_read bytes other g)

pub flawed_none : (bytes : List ℕ) (flaw : Flaw) (v : ClassFile) → FirstFlaw bytes flaw → IsClassFile bytes v → ⊥
flawed_none bytes flaw v f g = err_ok flaw v (sym (flaw_read bytes flaw f) ∙ value_read bytes v g)

pub either : (bytes : List ℕ) → IsTrue (are_bytes bytes) → ((v : ClassFile) × IsClassFile bytes v) ⊎ ((flaw : Flaw) × FirstFlaw bytes flaw)
either bytes are = go (reading bytes) refl
  where
    go : (r : Answer) → reading bytes ≡ r → ((v : ClassFile) × IsClassFile bytes v) ⊎ ((flaw : Flaw) × FirstFlaw bytes flaw)
    go (Ok v) is = inl (v, read_value bytes v are is)
    go (Err flaw) is = inr (flaw, read_flaw bytes flaw is)

pub all_bytes : (bytes : List ℕ) (v : ClassFile) → IsClassFile bytes v → All (λ b. b < 256) bytes
all_bytes bytes v f = All-from_recursion (λ b. b < 256) bytes (go bytes f.bytes_are)
  where
    go : (bs : List ℕ) → list_all (λ b. ltb b 256) bs ≡ true → AllByRecursion (λ b. b < 256) bs
    go [] e = tt
    go (b ∷ bs) e = let two = both (ltb b 256) (list_all (λ c. ltb c 256) bs) e in (ltb-true b 256 two.0, go bs two.1)
