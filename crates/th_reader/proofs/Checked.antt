-- The passes of a class, one after the other, and the whole file.
use Rattle.std.proofs.Common.{◌≡◌, ℕ, suc, ◌<◌, ◌≤◌, Bool, true, false, eqb, ltb, List, [], ◌∷◌, ◌++◌, length, take, drop, get_or, Result, Ok, Err, refl, sym, ap, subst, ◌∙◌, arith}
use Rattle.std.specs.Prelude.{Some, None}
use Rattle.std.specs.List.{list_all}
use Rattle.std.specs.Str.{bytes_eq}
use Rattle.std.proofs.lemmas.Bool.{lt-ltb, eqb-true}
use Rattle.std.proofs.lemmas.List.{take-append-drop, nil_from_length}
use Rattle.std.proofs.lemmas.Slice.Eq.{bytes_eq-Decides}
use Rattle.th_base.specs.declared.fail.Fail.{Fail}
use Rattle.th_base.specs.declared.fail.Fail.TheVariants.{Refused, NoMemory}
use Rattle.th_syntax.specs.declared.cause.TheConstants as cause
use Rattle.th_syntax.specs.declared.class_file.ClassFile.{ClassFile}
use Rattle.th_syntax.specs.declared.refusal.Flaw.{Flaw}
use Rattle.th_syntax.specs.Flaws.{Ascend, flaw_at, first_of}
use Rattle.th_syntax.specs.Forms.{Found, Stands, read}
use Rattle.th_syntax.specs.ClassBytes.{RawClass, class_file, magic}
use Rattle.th_syntax.specs.Checks.{second_pass, third_pass, fourth_pass}
use Rattle.th_syntax.specs.ClassGrammar.{IsWhole, class_file_of}
use Rattle.th_syntax.specs.Reader.{checked_class, reading}
use Rattle.th_pool.specs.Gives.{Answers}
use Rattle.th_reader.specs.Passes.{Makes, front_flaw}
use Rattle.th_reader.proofs.Stopping.{Stops}
use Rattle.th_reader.proofs.Walking.{first_front}

-- ---- the passes

pub indices_stop : (c : RawClass) (flaw : Flaw) → Ascend (second_pass c) → Some flaw ≡ front_flaw (second_pass c) → checked_class c ≡ Err flaw
indices_stop c flaw up e = rw (first_front (second_pass c) up ∙ sym e) refl

pub names_stop : (c : RawClass) (flaw : Flaw) → Ascend (second_pass c) → Ascend (third_pass c) → None ≡ front_flaw (second_pass c) → Some flaw ≡ front_flaw (third_pass c) → checked_class c ≡ Err flaw
names_stop c flaw up up_too none e = rw (first_front (second_pass c) up ∙ sym none, first_front (third_pass c) up_too ∙ sym e) refl

content_is : (c : RawClass) → Ascend (second_pass c) → Ascend (third_pass c) → None ≡ front_flaw (second_pass c) → None ≡ front_flaw (third_pass c) → (r : Result ClassFile (Fail Flaw)) → Ascend (fourth_pass c) → Makes (fourth_pass c) (class_file_of c) r → Answers {X = ClassFile} (λ value. value) r (checked_class c)
content_is c up up_too none none_too (Ok value) last e =
    rw (first_front (second_pass c) up ∙ sym none, first_front (third_pass c) up_too ∙ sym none_too, ap first_of e.0, e.1) refl
content_is c up up_too none none_too (Err (Refused flaw)) last e =
    rw (first_front (second_pass c) up ∙ sym none, first_front (third_pass c) up_too ∙ sym none_too, first_front (fourth_pass c) last ∙ e) refl
content_is c up up_too none none_too (Err NoMemory) last e = tt

pub content_answers : (c : RawClass) (r : Result ClassFile (Fail Flaw)) → Ascend (second_pass c) → Ascend (third_pass c) → Ascend (fourth_pass c) → None ≡ front_flaw (second_pass c) → None ≡ front_flaw (third_pass c) → Makes (fourth_pass c) (class_file_of c) r
    → Answers {X = ClassFile} (λ value. value) r (checked_class c)
content_answers c r up up_too last none none_too e = content_is c up up_too none none_too r last e

-- ---- the magic number

pub magic_front : (bytes : List ℕ) → bytes_eq (take 4 bytes) magic ≡ true → bytes ≡ magic ++ drop 4 bytes
magic_front bytes e = sym (take-append-drop 4 bytes) ∙ ap (λ (front : List ℕ). front ++ drop 4 bytes) ((bytes_eq-Decides (take 4 bytes) magic).0 e)

pub magic_long : (bytes : List ℕ) → bytes_eq (take 4 bytes) magic ≡ true → 4 ≤ length bytes
magic_long bytes e = go bytes ((bytes_eq-Decides (take 4 bytes) magic).0 e)
  where
    go : (bs : List ℕ) → take 4 bs ≡ magic → 4 ≤ length bs
    go [] e = absurd cc
    go (a ∷ []) e = absurd cc
    go (a ∷ b ∷ []) e = absurd cc
    go (a ∷ b ∷ c ∷ []) e = absurd cc
    go (a ∷ b ∷ c ∷ d ∷ bs) e = omega arith

pub not_magic : (bytes : List ℕ) → bytes_eq (take 4 bytes) magic ≡ false → reading bytes ≡ Err (flaw_at cause.NOT_CLASS 0)
unfolding reading
not_magic bytes e = rw e refl

pub short_magic : (bytes : List ℕ) → length bytes < 4 → bytes_eq (take 4 bytes) magic ≡ false
short_magic bytes short = go (bytes_eq (take 4 bytes) magic) refl
  where
    go : (t : Bool) → bytes_eq (take 4 bytes) magic ≡ t → bytes_eq (take 4 bytes) magic ≡ false
    go false e = e
    go true e = absurd (let long : 4 ≤ length bytes = magic_long bytes e in omega arith)

-- ---- the file

pub items_stop : {X : Type 0} (view : X → Found RawClass) (bytes : List ℕ) (fail : Fail Flaw) → bytes_eq (take 4 bytes) magic ≡ true → Answers {X = X} view (Err fail) (read class_file 4 (drop 4 bytes)) → Stops fail (reading bytes)
unfolding reading
items_stop view bytes (Refused flaw) e stops = rw (e, stops) refl
items_stop view bytes NoMemory e stops = tt

more_than_none : (rest : List ℕ) → (rest ≡ [] → ⊥) → eqb (length rest) 0 ≡ false
more_than_none [] some = absurd (some refl)
more_than_none (b ∷ rest) some = go (eqb (length (b ∷ rest)) 0) refl
  where
    go : (t : Bool) → eqb (length (b ∷ rest)) 0 ≡ t → eqb (length (b ∷ rest)) 0 ≡ false
    go false is = is
    go true is = absurd (let k : length (b ∷ rest) ≡ 0 = eqb-true _ _ is in omega arith)

pub trailing_stop : (bytes : List ℕ) (c : RawClass) (at : ℕ) (rest : List ℕ) → bytes_eq (take 4 bytes) magic ≡ true → read class_file 4 (drop 4 bytes) ≡ Ok (c, at, rest) → (rest ≡ [] → ⊥) → reading bytes ≡ Err (flaw_at cause.TRAILING at)
unfolding reading
trailing_stop bytes c at rest e items some = rw (e, items, more_than_none rest some) refl

pub items_read : (bytes : List ℕ) (c : RawClass) (at : ℕ) (rest : List ℕ) → bytes_eq (take 4 bytes) magic ≡ true → read class_file 4 (drop 4 bytes) ≡ Ok (c, at, rest) → rest ≡ [] → reading bytes ≡ checked_class c
unfolding reading
items_read bytes c at rest e items none = rw (e, items, none) refl

-- what was read is the whole file
pub is_whole : (bytes : List ℕ) (c : RawClass) (at : ℕ) (rest : List ℕ) → bytes_eq (take 4 bytes) magic ≡ true → Stands class_file 4 (drop 4 bytes) c at rest → rest ≡ [] → IsWhole bytes c
is_whole bytes c at rest e stands none = record { others = drop 4 bytes; behind = at; begins = magic_front bytes e; items = subst (λ (r : List ℕ). Stands class_file 4 (drop 4 bytes) c at r) none stands }

-- ---- bytes

pub all_bytes : (xs : List ℕ) → ((i : ℕ) → get_or xs i 0 < 256) → list_all (λ b. ltb b 256) xs ≡ true
all_bytes [] h = refl
all_bytes (x ∷ xs) h = let first : ltb x 256 ≡ true = lt-ltb x 256 (h 0) in rw first (all_bytes xs (λ i. h (suc i)))

-- ---- what a test of emptiness says

pub empty_is : (rest : List ℕ) (t : Bool) → t ≡ eqb (length rest) 0 → t ≡ true → rest ≡ []
empty_is rest t is e = nil_from_length rest (eqb-true (length rest) 0 (sym is ∙ e))

pub not_empty : (rest : List ℕ) (t : Bool) → t ≡ eqb (length rest) 0 → t ≡ false → rest ≡ [] → ⊥
not_empty rest t is e none = absurd (let never : true ≡ false = ap (λ (r : List ℕ). eqb (length r) 0) (sym none) ∙ sym is ∙ e in cc)
