-- A class of linked class files is the first, so the one, of its name.
use Rattle.std.proofs.Common.{◌≡◌, ℕ, zero, suc, ◌+◌, ◌<◌, ◌≤◌, ◌||◌, ◌⊎◌, inl, inr, not, Bool, true, false, cond, List, [], ◌∷◌, ◌++◌, map, length, take, Option, Some, refl, sym, ap, ◌∙◌, arith, append_assoc, append-nil}
use Rattle.std.specs.Prelude.{slice_get}
use Rattle.std.specs.List.{list_any, position_from}
use Rattle.std.specs.Option.{option_map_or}
use Rattle.std.specs.Str.{bytes_eq}
use Rattle.std.specs.Bool.{one_answer}
use Rattle.std.proofs.lemmas.List.Folds.{list_any-append}
use Rattle.std.proofs.lemmas.List.{take-append-le}
use Rattle.std.proofs.lemmas.Option.{slice_get_within}
use Rattle.std.proofs.lemmas.Slice.Eq.{bytes_eq-Decides}
use Rattle.th_base.specs.BuiltIn.{is_built_in}
use Rattle.th_syntax.specs.declared.class_file.ClassFile.{ClassFile}
use Rattle.th_syntax.specs.LinkChecks.{found_along, class_name_refusals}
use Rattle.th_syntax.specs.Linking.{IsLinked}
use Rattle.th_syntax.specs.Program.{built_in_classes, all_classes, number_named}
use Rattle.th_syntax.proofs.Inverting.{some_is}
use Rattle.th_syntax.proofs.Ranked.{all_below, at_below}
use Rattle.th_syntax.proofs.Standing.{nil_left, nil_right, unless_nil}

-- a class has this name
abbrev has_name : List ℕ → ClassFile → Bool
has_name name c = bytes_eq c.name name

not_true : (b : Bool) → not b ≡ true → b ≡ false
not_true true e = absurd cc
not_true false e = refl

neither_left : (a b : Bool) → (a || b) ≡ false → a ≡ false
neither_left true b e = absurd cc
neither_left false b e = refl

neither_right : (a b : Bool) → (a || b) ≡ false → b ≡ false
neither_right true b e = absurd cc
neither_right false b e = e

same_name : (a b : List ℕ) → bytes_eq a b ≡ bytes_eq b a
same_name a b = one_answer {P = a ≡ b} _ _ (bytes_eq-Decides a b) ((λ e. sym ((bytes_eq-Decides b a).0 e)), (λ e. (bytes_eq-Decides b a).1 (sym e)))

-- ---- the files' classes have names of their own

apart_along : (before xs : List ClassFile) → found_along class_name_refusals before xs ≡ [] → (n : ℕ) (x : ClassFile) → slice_get xs n ≡ Some x
    → (list_any (has_name x.name) (before ++ take n xs) ≡ false) × (is_built_in x.name ≡ false)
apart_along before [] e n x s = absurd cc
apart_along before (y ∷ ys) e zero x s =
    let own : class_name_refusals before y ≡ [] = nil_left (class_name_refusals before y) (found_along class_name_refusals (before ++ y ∷ []) ys) e in
    let first = not_true (list_any (has_name y.name) before) (unless_nil _ _ (nil_left _ _ own)) in
    let built = not_true (is_built_in y.name) (unless_nil _ _ (nil_right _ _ own)) in
    let same : y ≡ x = some_is y x s in (
      ap (λ (c : ClassFile). list_any (has_name c.name) (before ++ [])) (sym same) ∙ ap (list_any (has_name y.name)) (append-nil before) ∙ first,
      ap (λ (c : ClassFile). is_built_in c.name) (sym same) ∙ built,
    )
apart_along before (y ∷ ys) e (suc n) x s =
    let rest = apart_along (before ++ y ∷ []) ys (nil_right (class_name_refusals before y) (found_along class_name_refusals (before ++ y ∷ []) ys) e) n x s in
    (ap (list_any (has_name x.name)) (sym (append_assoc before (y ∷ []) (take n ys))) ∙ rest.0, rest.1)

-- ---- the first of a name

first_at : (p : ClassFile → Bool) (xs : List ClassFile) (m n : ℕ) (x : ClassFile) → slice_get xs n ≡ Some x → p x ≡ true → list_any p (take n xs) ≡ false → position_from p m xs ≡ Some (m + n)
first_at p [] m n x s here none = absurd cc
first_at p (y ∷ ys) m zero x s here none =
    let now : p y ≡ true = ap p (some_is y x s) ∙ here in
    let level : m + 0 ≡ m = omega arith in
    rw (now, level) refl
first_at p (y ∷ ys) m (suc n) x s here none =
    let not_now : p y ≡ false = neither_left (p y) (list_any p (take n ys)) none in
    let level : (m + 1) + n ≡ m + suc n = omega arith in
    ap (λ b. cond b (Some m) (position_from p (m + 1) ys)) not_now
    ∙ first_at p ys (m + 1) n x s here (neither_right (p y) (list_any p (take n ys)) none)
    ∙ ap (λ k. let o : Option ℕ = Some k in o) level

either_part : (xs ys : List ClassFile) (n : ℕ) (x : ClassFile) → slice_get (xs ++ ys) n ≡ Some x
    → (slice_get xs n ≡ Some x) ⊎ ((j : ℕ) × (n ≡ length xs + j) × (slice_get ys j ≡ Some x))
either_part [] ys n x s = inr (n, (let level : n ≡ 0 + n = omega arith in level), s)
either_part (y ∷ xs) ys zero x s = inl s
either_part (y ∷ xs) ys (suc n) x s =
    elim (either_part xs ys n x s) [
      | inl front ↦ inl front
      | inr behind ↦ inr (behind.0, (let e = behind.1 in omega (arith, e)), behind.2)
    ]

take_both : (xs ys : List ClassFile) (j : ℕ) → take (length xs + j) (xs ++ ys) ≡ xs ++ take j ys
take_both [] ys j = let e : 0 + j ≡ j = omega arith in rw e refl
take_both (x ∷ xs) ys j = let e : length (x ∷ xs) + j ≡ suc (length xs + j) = omega arith in rw e (ap (λ l. x ∷ l) (take_both xs ys j))

any_name : (name : List ℕ) (cs : List ClassFile) → list_any (has_name name) cs ≡ list_any (bytes_eq name) (map (λ (c : ClassFile). c.name) cs)
any_name name [] = refl
any_name name (c ∷ cs) =
    ap (λ b. b || list_any (has_name name) cs) (same_name c.name name) ∙ ap (λ b. bytes_eq name c.name || b) (any_name name cs)

-- ---- the built-in classes have names of their own

built_in_name : ℕ → List ℕ
built_in_name n = option_map_or (λ (c : ClassFile). c.name) (slice_get built_in_classes n) []

is_new_name : ℕ → Bool
is_new_name n = not (list_any (has_name (built_in_name n)) (take n built_in_classes))

new_names : all_below 11 is_new_name ≡ true
unfolding built_in_name is_new_name
new_names = refl

built_in_first : (n : ℕ) (c : ClassFile) → slice_get built_in_classes n ≡ Some c → list_any (has_name c.name) (take n built_in_classes) ≡ false
unfolding built_in_name is_new_name
built_in_first n c s =
    let inside : n < 11 = slice_get_within built_in_classes n c s in
    let name_is : built_in_name n ≡ c.name = ap (λ (o : Option ClassFile). option_map_or (λ (d : ClassFile). d.name) o []) s in
    ap (λ name. list_any (has_name name) (take n built_in_classes)) (sym name_is) ∙ not_true _ (at_below 11 n is_new_name new_names inside)

pub own_number : (files : List ClassFile) (n : ℕ) (c : ClassFile) → IsLinked files → slice_get (all_classes files) n ≡ Some c → number_named files c.name ≡ Some n
own_number files n c linked s =
    let here : bytes_eq c.name c.name ≡ true = (bytes_eq-Decides c.name c.name).1 refl in
    let level : 0 + n ≡ n = omega arith in
    first_at (has_name c.name) (all_classes files) 0 n c s here
    (elim (either_part built_in_classes files n c s) [
      | inl front ↦
          let inside : n < 11 = slice_get_within built_in_classes n c front in
          ap (list_any (has_name c.name)) (take-append-le n built_in_classes files (let h : n ≤ 11 = omega arith in h)) ∙ built_in_first n c front
      | inr behind ↦
          let apart = apart_along [] files linked.ordered.names behind.0 c behind.2 in
          ap (λ k. list_any (has_name c.name) (take k (all_classes files))) behind.1
          ∙ ap (list_any (has_name c.name)) (take_both built_in_classes files behind.0)
          ∙ list_any-append (has_name c.name) built_in_classes (take behind.0 files)
          ∙ ap (λ b. b || list_any (has_name c.name) (take behind.0 files)) (any_name c.name built_in_classes ∙ apart.1)
          ∙ apart.0
    ])
    ∙ ap (λ k. let o : Option ℕ = Some k in o) level
