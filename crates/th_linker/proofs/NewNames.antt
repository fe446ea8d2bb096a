-- A set that the names of classes are put into one by one has the names of the classes so far.
use Rattle.std.proofs.Common.{◌≡◌, ℕ, ◌+◌, ◌<◌, Bool, true, false, not, cond, ◌||◌, List, [], ◌∷◌, ◌++◌, length, take, get_or, refl, sym, ap, subst, ◌∙◌}
use Rattle.std.specs.List.{list_any}
use Rattle.std.specs.Str.{bytes_eq}
use Rattle.std.proofs.lemmas.List.Folds.{list_any-append}
use Rattle.th_base.specs.BuiltIn.{is_built_in}
use Rattle.th_syntax.specs.declared.cause.TheConstants as cause
use Rattle.th_syntax.specs.declared.class_file.ClassFile.{ClassFile}
use Rattle.th_syntax.specs.declared.refusal.Refusal.{Refusal}
use Rattle.th_syntax.specs.Flaws.{unless}
use Rattle.th_syntax.specs.LinkChecks.{class_name_refusals, refusal_at}
use Rattle.th_linker.proofs.InOrder.{one_more}

abbrev has_name : List ℕ → ClassFile → Bool
has_name name d = bytes_eq d.name name

or_last : (a b : Bool) → cond b true a ≡ (a || (b || false))
or_last true true = refl
or_last true false = refl
or_last false true = refl
or_last false false = refl

pub names_more : (files : List ClassFile) (i : ℕ) (x : ClassFile) (old new : List ℕ → Bool) → i < length files → x ≡ get_or files i x
    → ((n : List ℕ) → old n ≡ list_any (has_name n) (take i files)) → ((n : List ℕ) → new n ≡ cond (bytes_eq x.name n) true (old n))
    → (n : List ℕ) → new n ≡ list_any (has_name n) (take (i + 1) files)
names_more files i x old new h e known put n =
    put n ∙ ap (cond (bytes_eq x.name n) true) (known n) ∙ or_last (list_any (has_name n) (take i files)) (bytes_eq x.name n)
    ∙ sym (ap (list_any (has_name n)) (one_more files i x h e) ∙ list_any-append (has_name n) (take i files) (x ∷ []))

-- what is refused of a class by its name, where it is known whether the name is new
pub own_refusals : (before : List ClassFile) (x : ClassFile) (is_new : Bool) → is_new ≡ not (list_any (has_name x.name) before)
    → unless is_new (refusal_at cause.DUPLICATE x []) ++ unless (not (is_built_in x.name)) (refusal_at cause.BUILT_IN x []) ≡ class_name_refusals before x
own_refusals before x is_new e = ap (λ b. unless b (refusal_at cause.DUPLICATE x []) ++ unless (not (is_built_in x.name)) (refusal_at cause.BUILT_IN x [])) e
