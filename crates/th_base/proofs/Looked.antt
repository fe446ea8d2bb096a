-- A look-up along what is listed for a class is the rule's look-up.
use Rattle.std.proofs.Common.{◌≡◌, ℕ, ◌+◌, ◌-◌, ◌<◌, zero, suc, Bool, true, false, cond, eqb, List, [], ◌∷◌, ◌++◌, Option, Some, None, length, take, get_or, refl, sym, ap, ◌∙◌, subst, inl, inr, arith}
use Rattle.std.proofs.Math.Seq.{get_or-append_seam}
use Rattle.std.specs.List.{position_from}
use Rattle.std.specs.Option.{option_or, option_map, option_and_then, option_map_or}
use Rattle.std.specs.Str.{bytes_eq}
use Rattle.std.proofs.lemmas.Bool.{cases_Bool, or_cases, eqb-true, eq-eqb, ne_eqb, both_ways}
use Rattle.std.proofs.lemmas.List.{length-append}
use Rattle.std.specs.Prelude.{codes}
use Rattle.th_base.specs.declared.class.ClassInfo.{ClassInfo}
use Rattle.th_base.specs.declared.class.FieldInfo.{FieldInfo}
use Rattle.th_base.specs.declared.class.MethodInfo.{MethodInfo}
use Rattle.th_base.specs.declared.ancestors.Ancestors.{Ancestors}
use Rattle.th_base.specs.Ancestors.{FindAlike, AreAncestors}
use Rattle.th_base.specs.Hierarchy.{IsAcyclic, superclass_of, lineage_within, lineage_of, supertypes_of, superinterfaces_of, is_subclass, first_field, first_method, resolved_field, resolved_method, concrete_number, declared_field, declared_method}
use Rattle.th_base.specs.IdSet.{has}
use Rattle.th_base.specs.Subtype.{class_named}
use Rattle.th_base.proofs.Ascending.{has_at}
use Rattle.th_base.proofs.Enough.{lineage_of_is}
use Rattle.th_base.proofs.Rows.{row_supertypes, row_superinterfaces, row_line, row_all}
use Rattle.th_base.proofs.Upward.{first_some-append, first_some_alike, superclass_inside}

abbrev field_step : List ClassInfo → List ℕ → List ℕ → ℕ → Option (ℕ × FieldInfo)
field_step classes name descriptor k = option_map (λ f. (k, f)) (declared_field classes name descriptor k)

abbrev method_step : List ClassInfo → List ℕ → List ℕ → ℕ → Option (ℕ × MethodInfo)
method_step classes name descriptor k = option_map (λ m. (k, m)) (declared_method classes name descriptor k)

-- a list that serves for another, of classes of the list
pub record Serves (classes : List ClassInfo) (list whole : List ℕ) : Type 0 where
  pub alike : FindAlike list whole
  pub inside : (x : ℕ) → has list x ≡ true → x < length classes

-- the list of a row serves for the rule's
pub supertypes_serve : (classes : List ClassInfo) (rows : List Ancestors) (a : ℕ) (r : Ancestors) (list : List ℕ)
    → AreAncestors classes rows → a < length classes → r ≡ get_or rows a r → list ≡ r.supertypes → Serves classes list (supertypes_of classes a)
supertypes_serve classes rows a r list h inside e g =
    let within : a < length rows = omega (arith, h.rows_are) in
    let same = ap (λ q. q.supertypes) e in
    let listed = g ∙ same ∙ sym (row_supertypes rows a r within) in
    record {
      alike = subst (λ l. FindAlike l (supertypes_of classes a)) (sym listed) (h.above a inside).supertypes;
      inside = λ x k. h.in_range.supertypes a x (ap (λ l. has l x) (sym listed) ∙ k);
    }

pub superinterfaces_serve : (classes : List ClassInfo) (rows : List Ancestors) (a : ℕ) (r : Ancestors) (list : List ℕ)
    → AreAncestors classes rows → a < length classes → r ≡ get_or rows a r → list ≡ r.superinterfaces → Serves classes list (superinterfaces_of classes a)
superinterfaces_serve classes rows a r list h inside e g =
    let within : a < length rows = omega (arith, h.rows_are) in
    let same = ap (λ q. q.superinterfaces) e in
    let listed = g ∙ same ∙ sym (row_superinterfaces rows a r within) in
    record {
      alike = subst (λ l. FindAlike l (superinterfaces_of classes a)) (sym listed) (h.above a inside).superinterfaces;
      inside = λ x k. h.in_range.superinterfaces a x (ap (λ l. has l x) (sym listed) ∙ k);
    }

pub line_is : (classes : List ClassInfo) (rows : List Ancestors) (a : ℕ) (r : Ancestors) (list : List ℕ)
    → AreAncestors classes rows → a < length classes → r ≡ get_or rows a r → list ≡ r.line → list ≡ lineage_of classes a
line_is classes rows a r list h inside e g =
    let within : a < length rows = omega (arith, h.rows_are) in
    g ∙ ap (λ q. q.line) e ∙ sym (row_line rows a r within) ∙ (h.above a inside).line

pub set_is : (classes : List ClassInfo) (rows : List Ancestors) (a : ℕ) (r : Ancestors) (set : List ℕ)
    → AreAncestors classes rows → a < length classes → r ≡ get_or rows a r → set ≡ r.all → (x : ℕ) → has set x ≡ has (supertypes_of classes a) x
set_is classes rows a r set h inside e g x =
    let within : a < length rows = omega (arith, h.rows_are) in
    ap (λ l. has l x) (g ∙ ap (λ q. q.all) e ∙ sym (row_all rows a r within)) ∙ (h.above a inside).all x

pub field_served : (classes : List ClassInfo) (a : ℕ) (list name descriptor : List ℕ) → Serves classes list (supertypes_of classes a)
    → first_field classes name descriptor list ≡ resolved_field classes a name descriptor
field_served classes a list name descriptor s = first_some_alike (field_step classes name descriptor) list (supertypes_of classes a) s.alike

-- ---- methods: upwards first, then the superinterfaces

pub resolved_upwards : (classes : List ClassInfo) (a : ℕ) (name descriptor : List ℕ) → bytes_eq name (codes "<init>") ≡ false
    → resolved_method classes a name descriptor
    ≡ option_or (first_method classes name descriptor (lineage_of classes a)) (first_method classes name descriptor (superinterfaces_of classes a))
resolved_upwards classes a name descriptor other =
    ap (λ b. first_method classes name descriptor (cond b (a ∷ []) (lineage_of classes a ++ superinterfaces_of classes a))) other
    ∙ first_some-append (method_step classes name descriptor) (lineage_of classes a) (superinterfaces_of classes a)

pub resolved_here : (classes : List ClassInfo) (a : ℕ) (name descriptor : List ℕ) → bytes_eq name (codes "<init>") ≡ true
    → resolved_method classes a name descriptor ≡ first_method classes name descriptor (a ∷ [])
resolved_here classes a name descriptor is = ap (λ b. first_method classes name descriptor (cond b (a ∷ []) (lineage_of classes a ++ superinterfaces_of classes a))) is

pub method_served : (classes : List ClassInfo) (a : ℕ) (list name descriptor : List ℕ) → Serves classes list (superinterfaces_of classes a)
    → first_method classes name descriptor list ≡ first_method classes name descriptor (superinterfaces_of classes a)
method_served classes a list name descriptor s = first_some_alike (method_step classes name descriptor) list (superinterfaces_of classes a) s.alike

-- the method that is selected, by the first that could be
pub selected_by : (o : Option (ℕ × MethodInfo)) (r : Option MethodInfo) → r ≡ option_map (λ f. f.1) o
    → concrete_number o ≡ option_and_then (λ m. cond m.is_abstract None (Some m.id)) r
selected_by o r e = by_result o ∙ ap (option_and_then (λ m. cond m.is_abstract None (Some m.id))) (sym e)
  where
    by_result : (o : Option (ℕ × MethodInfo)) → concrete_number o ≡ option_and_then (λ m. cond m.is_abstract None (Some m.id)) (option_map (λ f. f.1) o)
    by_result None = refl
    by_result (Some m) = refl

-- ---- lines of superclasses

superclass_in_range : (classes : List ClassInfo) (n x : ℕ) → (o : Option ℕ) → ((s : ℕ) → o ≡ Some s → has (lineage_within classes n s) x ≡ true → x < length classes)
    → has (option_map_or (lineage_within classes n) o []) x ≡ true → x < length classes
superclass_in_range classes n x None up h = absurd (both_ways _ refl h)
superclass_in_range classes n x (Some s) up h = up s refl h

lineage_in_range : (classes : List ClassInfo) (n c x : ℕ) → IsAcyclic classes → c < length classes → has (lineage_within classes n c) x ≡ true → x < length classes
lineage_in_range classes zero c x acyclic inside h = absurd (both_ways _ refl h)
lineage_in_range classes (suc n) c x acyclic inside h =
    elim (or_cases (eqb c x) (has (option_map_or (lineage_within classes n) (superclass_of classes c) []) x) h) [
      | inl same ↦ subst (λ y. y < length classes) (eqb-true c x same) inside
      | inr above ↦ superclass_in_range classes n x (superclass_of classes c)
          (λ s e g. lineage_in_range classes n s x acyclic (superclass_inside classes c s acyclic e) g) above
    ]

pub line_inside : (classes : List ClassInfo) (c : ℕ) (line : List ℕ) → IsAcyclic classes → c < length classes → line ≡ lineage_of classes c → (x : ℕ) → has line x ≡ true → x < length classes
line_inside classes c line acyclic inside e x h = lineage_in_range classes (length classes) c x acyclic inside (ap (λ l. has l x) (sym e) ∙ h)

pub line_first : (classes : List ClassInfo) (c : ℕ) (line : List ℕ) → IsAcyclic classes → c < length classes → line ≡ lineage_of classes c → 0 < length line
line_first classes c line acyclic inside e = omega (arith, ap length (e ∙ lineage_of_is classes c acyclic inside))

pub line_take : (classes : List ClassInfo) (c : ℕ) (line : List ℕ) → IsAcyclic classes → c < length classes → line ≡ lineage_of classes c → take 1 line ≡ c ∷ []
line_take classes c line acyclic inside e = ap (take 1) (e ∙ lineage_of_is classes c acyclic inside)

-- the line of a superclass is the end of the line
abbrev EndsWith : List ClassInfo → ℕ → ℕ → Type 0
EndsWith classes a b = (front : List ℕ) × (lineage_of classes a ≡ front ++ lineage_of classes b)

line_ends_above : (classes : List ClassInfo) (n a b : ℕ) → IsAcyclic classes → a < length classes → (o : Option ℕ) → superclass_of classes a ≡ o
    → has (option_map_or (lineage_within classes n) o []) b ≡ true → ((s : ℕ) → s < length classes → has (lineage_within classes n s) b ≡ true → EndsWith classes s b) → EndsWith classes a b
line_ends_above classes n a b acyclic inside None e h up = absurd (both_ways _ refl h)
line_ends_above classes n a b acyclic inside (Some s) e h up =
    let p = up s (superclass_inside classes a s acyclic e) h in
    (a ∷ p.0, lineage_of_is classes a acyclic inside ∙ ap (λ o. a ∷ option_map_or (lineage_of classes) o []) e ∙ ap (λ l. a ∷ l) p.1)

line_ends : (classes : List ClassInfo) (n a b : ℕ) → IsAcyclic classes → a < length classes → has (lineage_within classes n a) b ≡ true → EndsWith classes a b
line_ends classes zero a b acyclic inside h = absurd (both_ways _ refl h)
line_ends classes (suc n) a b acyclic inside h =
    elim (or_cases (eqb a b) (has (option_map_or (lineage_within classes n) (superclass_of classes a) []) b) h) [
      | inl same ↦ ([], ap (lineage_of classes) (eqb-true a b same))
      | inr above ↦ line_ends_above classes n a b acyclic inside (superclass_of classes a) refl above (λ s k g. line_ends classes n s b acyclic k g)
    ]

-- a superclass stands where its own line begins
pub subclass_at : (classes : List ClassInfo) (a b : ℕ) (line rest : List ℕ) → IsAcyclic classes → a < length classes → b < length classes
    → line ≡ lineage_of classes a → rest ≡ lineage_of classes b → eqb (get_or line (length line - length rest) 0) b ≡ is_subclass classes a b
subclass_at classes a b line rest acyclic in_a in_b e g =
    elim (cases_Bool (is_subclass classes a b)) [
      | inl below ↦
          let p = line_ends classes (length classes) a b acyclic in_a below in
          let own = lineage_of_is classes b acyclic in_b in
          let whole : line ≡ p.0 ++ lineage_of classes b = e ∙ p.1 in
          let place : length line - length rest ≡ length p.0 = omega (arith, ap length whole, length-append p.0 (lineage_of classes b), ap length g) in
          let value : get_or line (length line - length rest) 0 ≡ b =
          ap (λ k. get_or line k 0) place ∙ ap (λ l. get_or l (length p.0) 0) (whole ∙ ap (λ l. p.0 ++ l) own) ∙ get_or-append_seam p.0 b _ 0 in
          eq-eqb _ b value ∙ sym below
      | inr apart ↦
          let some : 0 < length rest = line_first classes b rest acyclic in_b g in
          let more : 0 < length line = line_first classes a line acyclic in_a e in
          let place : length line - length rest < length line = omega arith in
          ne_eqb _ b (λ same. both_ways _ apart (ap (λ l. has l b) (sym e) ∙ has_at line b (length line - length rest) place same)) ∙ sym apart
    ]

-- a class with a longer line is no superclass
pub no_subclass : (classes : List ClassInfo) (a b : ℕ) (line rest : List ℕ) → IsAcyclic classes → a < length classes
    → line ≡ lineage_of classes a → rest ≡ lineage_of classes b → length line < length rest → false ≡ is_subclass classes a b
no_subclass classes a b line rest acyclic in_a e g longer =
    elim (cases_Bool (is_subclass classes a b)) [
      | inl below ↦
          let p = line_ends classes (length classes) a b acyclic in_a below in
          absurd (omega (arith, ap length e, ap length p.1, length-append p.0 (lineage_of classes b), ap length g))
      | inr apart ↦ sym apart
    ]

-- ---- membership

position_from_inside : {X : Type 0} (p : X → Bool) (j i : ℕ) (xs : List X) → position_from p j xs ≡ Some i → i < j + length xs
position_from_inside p j i [] e = cc
position_from_inside p j i (x ∷ xs) e = at (p x) refl (position_from_inside p (j + 1) i xs)
  where
    at : (b : Bool) → p x ≡ b → (position_from p (j + 1) xs ≡ Some i → i < (j + 1) + length xs) → i < j + length (x ∷ xs)
    at true f rest = let same : Some j ≡ Some i = ap (λ b. cond b (Some j) (position_from p (j + 1) xs)) (sym f) ∙ e in let here : j ≡ i = cc in omega arith
    at false f rest = let later = rest (ap (λ b. cond b (Some j) (position_from p (j + 1) xs)) (sym f) ∙ e) in omega arith

pub class_named_inside : (classes : List ClassInfo) (name : List ℕ) (i : ℕ) → class_named classes name ≡ Some i → i < length classes
class_named_inside classes name i e = let h = position_from_inside (λ k. bytes_eq k.name name) 0 i classes e in omega arith
