-- The text of each `ldc` that is reached is among the String constants of the program.
use Rattle.std.proofs.Common.{◌≡◌, ℕ, zero, suc, ◌+◌, ◌==◌, Bool, true, false, cond, List, [], ◌∷◌, Option, None, Some, refl, sym, ap, subst, ◌∙◌}
use Rattle.std.specs.Prelude.{filter_map, flat_map}
use Rattle.std.specs.List.{position_from, cons_option}
use Rattle.std.specs.Option.{option_map_or}
use Rattle.std.specs.Ordering.{nat_cmp}
use Rattle.std.specs.declared.cmp.Ordering.{Ordering}
use Rattle.std.specs.declared.cmp.Ordering.TheVariants.{Less, Equal, Greater}
use Rattle.std.specs.Cmp.Lexicographic.{slice_cmp}
use Rattle.std.specs.Str.{bytes_eq}
use Rattle.std.proofs.lemmas.Map.Lookups.{exact_bytes}
use Rattle.std.proofs.lemmas.Slice.Eq.{bytes_eq-Decides}
use Rattle.th_base.specs.IdSet.{has}
use Rattle.th_syntax.specs.declared.class_file.ClassFile.{ClassFile}
use Rattle.th_syntax.specs.declared.class_file.Code.{Code}
use Rattle.th_syntax.specs.declared.class_file.Member.{Member}
use Rattle.th_syntax.specs.declared.instr.Instr.{Instr}
use Rattle.th_syntax.specs.declared.instr.Instr.TheVariants.{Str}
use Rattle.th_syntax.specs.Flow.{IsReached, instr_in, reached_offsets, reached_code}
use Rattle.th_syntax.specs.Strings.{loaded_text, texts_of_field, texts_of_method, texts_of_class, placed_by, with_text, ascending_texts, string_constants, string_number_of}
use Rattle.th_syntax.proofs.Visiting.{placed_of, found_from_path}
use Rattle.th_runs.proofs.Declaring.{found_at}
use Rattle.th_runs.proofs.Shaping.{IsIn, in_right, in_flat_map, in_filter}

-- ---- ascending texts

text_same : (t u : List ℕ) → slice_cmp nat_cmp t u ≡ Equal → t ≡ u
text_same t u e = exact_bytes t u e

kept_by : (t u x : List ℕ) (us behind : List (List ℕ)) (o : Ordering) → IsIn (u ∷ us) x → (IsIn us x → IsIn behind x) → IsIn (placed_by o t u us behind) x
kept_by t u x us behind Less is rest = (suc is.0, is.1)
kept_by t u x us behind Equal is rest = is
kept_by t u x us behind Greater (zero, e) rest = (zero, e)
kept_by t u x us behind Greater (suc j, e) rest = let more = rest (j, e) in (suc more.0, more.1)

with_kept : (t : List ℕ) (us : List (List ℕ)) (x : List ℕ) → IsIn us x → IsIn (with_text t us) x
with_kept t [] x (j, e) = absurd cc
with_kept t (u ∷ us) x is = kept_by t u x us (with_text t us) (slice_cmp nat_cmp t u) is (with_kept t us x)

new_by : (t u : List ℕ) (us behind : List (List ℕ)) (o : Ordering) → slice_cmp nat_cmp t u ≡ o → IsIn behind t → IsIn (placed_by o t u us behind) t
new_by t u us behind Less e rest = (zero, refl)
new_by t u us behind Equal e rest = (zero, ap (λ (x : List ℕ). Some x) (sym (text_same t u e)))
new_by t u us behind Greater e rest = (suc rest.0, rest.1)

with_new : (t : List ℕ) (us : List (List ℕ)) → IsIn (with_text t us) t
with_new t [] = (zero, refl)
with_new t (u ∷ us) = new_by t u us (with_text t us) (slice_cmp nat_cmp t u) refl (with_new t us)

ascending_in : (ts : List (List ℕ)) (x : List ℕ) → IsIn ts x → IsIn (ascending_texts ts) x
ascending_in [] x (j, e) = absurd cc
ascending_in (t ∷ ts) x (zero, e) = subst (IsIn (with_text t (ascending_texts ts))) (let same : t ≡ x = head_is t x e in same) (with_new t (ascending_texts ts))
  where
    head_is : (t x : List ℕ) → (let o : Option (List ℕ) = Some t in o) ≡ Some x → t ≡ x
    head_is t x e = cc
ascending_in (t ∷ ts) x (suc j, e) = with_kept t (ascending_texts ts) x (ascending_in ts x (j, e))

position_by : (text x : List ℕ) (n : ℕ) (xs : List (List ℕ)) (b : Bool) → (b ≡ false → (a : ℕ) × (position_from (bytes_eq text) (n + 1) xs ≡ Some a)) → (a : ℕ) × (cond b (Some n) (position_from (bytes_eq text) (n + 1) xs) ≡ Some a)
position_by text x n xs true rest = (n, refl)
position_by text x n xs false rest = rest refl

position_of : (text : List ℕ) (n : ℕ) (xs : List (List ℕ)) → IsIn xs text → (a : ℕ) × (position_from (bytes_eq text) n xs ≡ Some a)
position_of text n [] (j, e) = absurd cc
position_of text n (x ∷ xs) (zero, e) =
    let here : bytes_eq text x ≡ true = (bytes_eq-Decides text x).1 (let same : x ≡ text = cc in sym same) in
    (n, ap (λ b. cond b (Some n) (position_from (bytes_eq text) (n + 1) xs)) here)
position_of text n (x ∷ xs) (suc j, e) = position_by text x n xs (bytes_eq text x) (λ other. position_of text (n + 1) xs (j, e))

-- ---- reached instructions

in_filter_map : {A B : Type 0} (f : A → Option B) (xs : List A) (x : A) (y : B) → IsIn xs x → f x ≡ Some y → IsIn (filter_map f xs) y
in_filter_map f [] x y (j, e) is = absurd cc
in_filter_map {B = B} f (z ∷ xs) x y (zero, e) is = first_by (f z) (ap f (let same : z ≡ x = cc in same) ∙ is)
  where
    first_by : (o : Option B) → o ≡ Some y → IsIn (cons_option o (filter_map f xs)) y
    first_by None h = absurd cc
    first_by (Some w) h = (zero, h)
in_filter_map {B = B} f (z ∷ xs) x y (suc j, e) is = later_by (f z) (in_filter_map f xs x y (j, e) is)
  where
    later_by : (o : Option B) → IsIn (filter_map f xs) y → IsIn (cons_option o (filter_map f xs)) y
    later_by None more = more
    later_by (Some w) more = (suc more.0, more.1)

reached_text : (code : Code) (offset : ℕ) (text : List ℕ) → instr_in code.instrs offset ≡ Some (Str text) → IsReached code.instrs offset → IsIn (filter_map (λ (i : ℕ × Instr). loaded_text i.1) (reached_code code.instrs)) text
reached_text code offset text at reached =
    let placed = placed_of code.instrs offset (Str text) at in
    let there = found_at (λ (i : ℕ × Instr). i.0 == offset) code.instrs (offset, Str text) placed in
    in_filter_map (λ (i : ℕ × Instr). loaded_text i.1) (reached_code code.instrs) (offset, Str text) text
    (in_filter (λ (i : ℕ × Instr). has (reached_offsets code.instrs) i.0) code.instrs (offset, Str text) (there.0, there.1) (found_from_path code.instrs offset reached)) refl

-- a text that a method of the files loads is a String constant
pub text_there : (files : List ClassFile) (c : ClassFile) (m : Member) (code : Code) (offset : ℕ) (text : List ℕ) → IsIn files c → IsIn c.methods m → m.code ≡ Some code → instr_in code.instrs offset ≡ Some (Str text) → IsReached code.instrs offset
    → (a : ℕ) × (string_number_of files text ≡ Some a)
text_there files c m code offset text file method is at reached =
    let texts : List (List ℕ) = filter_map (λ (i : ℕ × Instr). loaded_text i.1) (reached_code code.instrs) in
    let here : IsIn (texts_of_method m) text =
    subst (λ (o : Option Code). IsIn (option_map_or (λ (k : Code). filter_map (λ (i : ℕ × Instr). loaded_text i.1) (reached_code k.instrs)) o []) text) (sym is) (reached_text code offset text at reached) in
    let of_class : IsIn (texts_of_class c) text = in_right (flat_map texts_of_field c.fields) (flat_map texts_of_method c.methods) text (in_flat_map texts_of_method c.methods m text method here) in
    position_of text 0 (string_constants files) (ascending_in (flat_map texts_of_class files) text (in_flat_map texts_of_class files c text file of_class))
