-- A walk up the superclasses of a class.
use Rattle.std.proofs.Common.{◌≡◌, ℕ, zero, suc, ◌+◌, ◌<◌, ◌≤◌, Bool, List, [], ◌∷◌, ◌++◌, length, Option, Some, None, slice_get, get_or, refl, sym, ap, subst, arith, ◌∙◌, append_assoc}
use Rattle.std.specs.Prelude.{codes, option_to_list, Contains, find, ◌&&◌}
use Rattle.std.specs.Str.{bytes_eq}
use Rattle.std.proofs.lemmas.Option.{get_or_from_slice_get}
use Rattle.std.proofs.lemmas.List.Elements.{Contains-push}
use Rattle.std.specs.Option.{option_map, option_map_or, option_and_then}
use Rattle.th_base.specs.declared.class.ClassInfo.{ClassInfo}
use Rattle.th_base.specs.declared.number.ClassId.{ClassId}
use Rattle.th_base.specs.declared.class.MethodInfo.{MethodInfo}
use Rattle.th_ir.specs.declared.stmt.Stmt.{Stmt}
use Rattle.th_ir.specs.declared.stmt.Stmt.TheVariants.{Init}
use Rattle.th_ir.proofs.Plain.{get_within}
use Rattle.th_base.specs.Hierarchy.{lineage_of, lineage_within, superclass_of, interfaces_of, declared_method, IsAcyclic}
use Rattle.th_flow.specs.Inverted.{initialisers_along, initialisers_of, entered_by}

get_past : {A : Type 0} (xs : List A) (k : ℕ) → length xs ≤ k → slice_get xs k ≡ None
get_past [] k past = refl
get_past (x ∷ xs) zero past = absurd (omega arith)
get_past (x ∷ xs) (suc k) past = get_past xs k (omega arith)

-- the line of a class, if there is one
abbrev pub line_from : List ClassInfo → Option ClassId → List ℕ
line_from h None = []
line_from h (Some c) = lineage_of h c.0

abbrev pub IsClass : List ClassInfo → Option ClassId → Type 0
IsClass h None = Unit {0}
IsClass h (Some c) = c.0 < length h

-- the superclass of a class is a class
pub super_is_class : (h : List ClassInfo) (c : ℕ) (info : ClassInfo) → IsAcyclic h → slice_get h c ≡ Some info → IsClass h info.super_id
super_is_class h c info acyclic stands = by_super info.super_id refl
  where
    by_super : (o : Option ClassId) → info.super_id ≡ o → IsClass h o
    by_super None is = tt
    by_super (Some s) is =
        let up : superclass_of h c ≡ Some s.0 =
        ap (λ o. option_and_then (λ k. option_map (λ s. s.0) k.super_id) o) stands ∙ ap (λ o. option_map (λ s. s.0) o) is in
        acyclic.in_range c s.0 (subst (λ (o : Option ℕ). Contains (interfaces_of h c ++ option_to_list o) s.0) (sym up) (Contains-push (interfaces_of h c) s.0))

-- the line of a class: the class, and the line of its superclass
pub line_up : (h : List ClassInfo) (c : ClassId) (info : ClassInfo) → lineage_of h c.0 ≡ c.0 ∷ option_map_or (lineage_of h) (superclass_of h c.0) []
    → slice_get h c.0 ≡ Some info → lineage_of h c.0 ≡ c.0 ∷ line_from h info.super_id
line_up h c info up stands =
    up ∙ ap (λ o. c.0 ∷ option_map_or (lineage_of h) (option_and_then (λ k. option_map (λ s. s.0) k.super_id) o) []) stands ∙ ap (λ l. c.0 ∷ l) (by_super info.super_id)
  where
    by_super : (o : Option ClassId) → option_map_or (lineage_of h) (option_map (λ s. s.0) o) [] ≡ line_from h o
    by_super None = refl
    by_super (Some s) = refl

-- the walk's next class and the line above it
pub walk : (h : List ClassInfo) (at : ClassId) (info : ClassInfo) (next above : Option ClassId) → lineage_of h at.0 ≡ at.0 ∷ option_map_or (lineage_of h) (superclass_of h at.0) []
    → slice_get h at.0 ≡ Some info → next ≡ Some at → above ≡ info.super_id → line_from h next ≡ at.0 ∷ line_from h above
walk h at info next above up stands is same = ap (line_from h) is ∙ line_up h at info up stands ∙ ap (λ o. at.0 ∷ line_from h o) (sym same)

-- what is read at a place of the list
pub standing : (h list : List ClassInfo) (k : ℕ) (info : ClassInfo) → list ≡ h → info ≡ get_or list k info → k < length h → slice_get h k ≡ Some info
standing h list k info same read less =
    let found = get_within h k less in
    found.1 ∙ ap Some (sym (get_or_from_slice_get h k found.0 info found.1) ∙ ap (λ (l : List ClassInfo). get_or l k info) (sym same) ∙ sym read)

-- past the list of classes there is no initialiser
pub none_past : (h : List ClassInfo) (c : ℕ) → length h ≤ c → initialisers_of h c ≡ []
none_past h c past = by_length (length h)
  where
    none : slice_get h c ≡ None
    none = get_past h c past

    by_length : (n : ℕ) → initialisers_along h (lineage_within h n c) ≡ []
    by_length zero = refl
    by_length (suc n) =
        ap (λ o. initialisers_along h (c ∷ option_map_or (lineage_within h n) (option_and_then (λ k. option_map (λ s. s.0) k.super_id) o) [])) none
        ∙ ap (λ o. option_to_list (option_map (λ (i : MethodInfo). i.id.0) (option_and_then (λ k. find (λ m. bytes_eq m.name (codes "<clinit>") && bytes_eq m.descriptor (codes "()V")) k.methods) o)) ++ []) none

-- what initialises no class enters nothing
pub no_init : (h : List ClassInfo) (stmt : Stmt) → ((k : ClassId) → stmt ≡ Init k → ⊥) → entered_by h stmt ≡ []
no_init h (Init k) none = absurd (none k refl)
no_init h stmt none = refl
