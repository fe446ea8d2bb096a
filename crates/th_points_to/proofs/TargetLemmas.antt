-- The class of a site, by the table of classes.
use Rattle.std.proofs.Common.{◌≡◌, ℕ, ◌<◌, ◌≤◌, ◌+◌, zero, suc, List, [], ◌∷◌, ◌++◌, length, get_or, take, Bool, true, false, Option, None, Some, slice_get, refl, sym, ap, subst, arith, ◌∙◌, if◌then◌else◌}
use Rattle.std.specs.Option.{option_map, option_and_then}
use Rattle.std.specs.List.{slice_index_or}
use Rattle.th_base.specs.declared.class.ClassInfo.{ClassInfo}
use Rattle.th_base.specs.declared.number.ClassId.{ClassId}
use Rattle.th_base.specs.Subtype.{class_named}
use Rattle.th_base.proofs.Looked.{class_named_inside}
use Rattle.th_ir.specs.declared.program.RegProgram.{RegProgram}
use Rattle.th_ir.specs.declared.program.Site.{Site}
use Rattle.th_ir.specs.Sites.{is_array_text, site_class}
use Rattle.th_ir.proofs.Plain.{some_is}
use Rattle.std.proofs.lemmas.List.{take_more}
use Rattle.th_points_to.specs.Tables.{AreClasses, class_of}

past : (classes : List (Option ClassId)) (s : ℕ) → length classes ≤ s → get_or classes s None ≡ None
past [] s h = refl
past (x ∷ classes) zero h = absurd (omega arith)
past (x ∷ classes) (suc s) h = past classes s (omega arith)

pub found_or : (classes : List (Option ClassId)) (s : ℕ) (class : Option ClassId) → slice_get classes s ≡ Some class → get_or classes s None ≡ class
found_or [] s class e = absurd cc
found_or (x ∷ classes) zero class e = one_is x class e
  where
    one_is : (a b : Option ClassId) → (let o : Option (Option ClassId) = Some a in o) ≡ Some b → a ≡ b
    one_is a b e = cc
found_or (x ∷ classes) (suc s) class e = found_or classes s class e

pub none_or : (classes : List (Option ClassId)) (s : ℕ) → slice_get classes s ≡ None → get_or classes s None ≡ None
none_or [] s e = refl
none_or (x ∷ classes) zero e = absurd cc
none_or (x ∷ classes) (suc s) e = none_or classes s e

no_site : (sites : List Site) (s : ℕ) → slice_get sites s ≡ None → length sites ≤ s
no_site [] s e = omega arith
no_site (x ∷ sites) zero e = absurd cc
no_site (x ∷ sites) (suc s) e = let rest = no_site sites s e in omega arith

pub class_found : (h : List ClassInfo) (p : RegProgram) (classes : List (Option ClassId)) (s : ℕ) → AreClasses h p.sites classes
    → option_map {U = ℕ} (λ (class : ClassId). class.0) (slice_index_or classes s None) ≡ site_class h p s
class_found h p classes s are = by (slice_get p.sites s) refl
  where
    by : (o : Option Site) → slice_get p.sites s ≡ o → option_map {U = ℕ} (λ (class : ClassId). class.0) (slice_index_or classes s None) ≡ site_class h p s
    by None e =
        ap (option_map {U = ℕ} (λ (class : ClassId). class.0)) (past classes s (let few = no_site p.sites s e in omega (arith, few, are.len)))
        ∙ sym (ap (option_and_then (λ (site : Site). if is_array_text site.class then None else class_named h site.class)) e)
    by (Some site) e = are.each s site e ∙ sym (ap (option_and_then (λ (site : Site). if is_array_text site.class then None else class_named h site.class)) e)

text_inside : (h : List ClassInfo) (site : Site) (k : ℕ) → class_of h site ≡ Some k → k < length h
text_inside h site k e = by (is_array_text site.class) e
  where
    by : (b : Bool) → (if b then None else class_named h site.class) ≡ Some k → k < length h
    by true is = absurd cc
    by false is = class_named_inside h site.class k is

pub site_class_inside : (h : List ClassInfo) (p : RegProgram) (s k : ℕ) → site_class h p s ≡ Some k → k < length h
site_class_inside h p s k e = by (slice_get p.sites s) e
  where
    by : (o : Option Site) → option_and_then (λ (site : Site). if is_array_text site.class then None else class_named h site.class) o ≡ Some k → k < length h
    by None is = absurd cc
    by (Some site) is = text_inside h site k is

-- ---- one site more

each_place : (P : ℕ → Type 0) → P 0 → ((s : ℕ) → P (suc s)) → (s : ℕ) → P s
each_place P first rest zero = first
each_place P first rest (suc s) = rest s

abbrev IsClassAt : List ClassInfo → List Site → List (Option ClassId) → ℕ → Type 0
IsClassAt h sites classes s = (site : Site) → slice_get sites s ≡ Some site → option_map {U = ℕ} (λ (class : ClassId). class.0) (slice_index_or classes s None) ≡ class_of h site

classes_push : (h : List ClassInfo) (sites : List Site) (site : Site) (class : Option ClassId) (classes : List (Option ClassId))
    → option_map {U = ℕ} (λ (k : ClassId). k.0) class ≡ class_of h site → AreClasses h sites classes → AreClasses h (sites ++ site ∷ []) (classes ++ class ∷ [])
classes_push h [] site class [] is are = record {
  len = refl;
  each = each_place (IsClassAt h (site ∷ []) (class ∷ [])) (λ other e. is ∙ ap (class_of h) (some_is site other e)) (λ s other e. absurd cc);
}
classes_push h [] site class (k ∷ classes) is are = absurd (omega (arith, are.len))
classes_push h (x ∷ sites) site class [] is are = absurd (omega (arith, are.len))
classes_push h (x ∷ sites) site class (k ∷ classes) is are =
    let rest : AreClasses h sites classes = record { len = omega (arith, are.len); each = λ s other e. are.each (suc s) other e } in
    let more = classes_push h sites site class classes is rest in
    record {
      len = ap suc more.len;
      each = each_place (IsClassAt h (x ∷ sites ++ site ∷ []) (k ∷ classes ++ class ∷ [])) (λ other e. are.each 0 other e) (λ s other e. more.each s other e);
    }

pub classes_next : (h : List ClassInfo) (sites : List Site) (i : ℕ) (site : Site) (class : Option ClassId) (classes classes' : List (Option ClassId)) → i < length sites
    → site ≡ get_or sites i site → option_map {U = ℕ} (λ (k : ClassId). k.0) class ≡ class_of h site → classes' ≡ classes ++ class ∷ [] → AreClasses h (take i sites) classes
    → AreClasses h (take (i + 1) sites) classes'
classes_next h sites i site class classes classes' less is tells more are =
    subst (AreClasses h (take (i + 1) sites)) (sym more)
    (subst (λ (l : List Site). AreClasses h l (classes ++ class ∷ [])) (sym (take_more sites i site less))
    (classes_push h (take i sites) (get_or sites i site) class classes (tells ∙ ap (class_of h) is) are))
