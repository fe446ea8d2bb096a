-- An edge that a covered state realises is among the facts.
use Rattle.std.proofs.Common.{◌≡◌, ◌⊎◌, inl, inr, ℕ, ◌+◌, ◌≤◌, zero, suc, Bool, true, false, List, [], ◌∷◌, ◌++◌, map, Option, None, Some, slice_get, refl, sym, ap, subst, arith, ◌∙◌}
use Rattle.std.specs.Prelude.{nat_le, ◌&&◌}
use Rattle.std.specs.Option.{option_map_or}
use Rattle.th_base.specs.declared.built_in.TheConstants.{BUILT_IN_COUNT}
use Rattle.th_base.specs.declared.class.ClassInfo.{ClassInfo}
use Rattle.th_base.specs.declared.class.FieldInfo.{FieldInfo}
use Rattle.th_base.specs.BuiltIn.{built_in_classes}
use Rattle.th_ir.specs.declared.graph.Edge.{Edge}
use Rattle.th_ir.specs.declared.graph.Edge.TheVariants.{Static, Field, Element}
use Rattle.th_ir.specs.declared.program.RegProgram.{RegProgram}
use Rattle.th_ir.specs.Fields.{owned_fields_from, owned_fields, field_at, is_kept, is_static_field, is_file_static, is_ref_field}
use Rattle.th_ir.specs.Machine.{RegValue, IntValue, NullValue, Address, RegObject, RegState, PointsTo, first_value}
use Rattle.th_ir.specs.FactSets.{FactSets}
use Rattle.th_ir.specs.WellFormed.{AreNumbered, IsWellFormed}
use Rattle.th_ir.specs.Good.{IsGood}
use Rattle.th_ir.specs.Covered.{HasSite, Covers}
use Rattle.th_ir.specs.Graph.{IsOfSite, Realises, HasEdge}
use Rattle.th_ir.proofs.Plain.{some_is, same_found, and_parts}
use Rattle.th_ir.proofs.Covering.{good_covered}

-- ---- static fields are of classes of files

mapped_owner : (c : ℕ) (fs : List FieldInfo) (rest : List (ℕ × FieldInfo)) (f : ℕ) (d : ℕ × FieldInfo) → slice_get (map (λ i. (c, i)) fs ++ rest) f ≡ Some d → (c ≡ d.0) ⊎ ((k : ℕ) × (slice_get rest k ≡ Some d))
mapped_owner c [] rest f d e = inr (f, e)
mapped_owner c (i ∷ fs) rest zero d e = inl (ap (λ (x : ℕ × FieldInfo). x.0) (some_is (c, i) d e))
mapped_owner c (i ∷ fs) rest (suc f) d e = mapped_owner c fs rest f d e

owner_from : (c : ℕ) (ks : List ClassInfo) (f : ℕ) (d : ℕ × FieldInfo) → slice_get (owned_fields_from c ks) f ≡ Some d → c ≤ d.0
owner_from c [] f d e = absurd cc
owner_from c (k ∷ ks) f d e = elim (mapped_owner c k.fields (owned_fields_from (c + 1) ks) f d e) [
  | inl here ↦ subst (λ (x : ℕ). c ≤ x) here (omega arith)
  | inr more ↦ (let above = owner_from (c + 1) ks more.0 d more.1 in omega arith)
]

of_file : (h : List ClassInfo) (f : ℕ) (d : ℕ × FieldInfo) → AreNumbered h → field_at h f ≡ Some d → BUILT_IN_COUNT ≤ d.0
of_file h f d numbered e = owner_from BUILT_IN_COUNT numbered.files f d (ap (λ (x : List ClassInfo). slice_get (owned_fields x) f) (sym numbered.built_in) ∙ e)

static_by : (h : List ClassInfo) (f : ℕ) (o : Option (ℕ × FieldInfo)) → field_at h f ≡ o → AreNumbered h → option_map_or (λ (d : ℕ × FieldInfo). d.1.is_static && is_kept d.1.descriptor) o false ≡ true
    → option_map_or (λ (d : ℕ × FieldInfo). d.1.is_static && nat_le BUILT_IN_COUNT d.0) o false ≡ true
static_by h f None is numbered e = absurd cc
static_by h f (Some d) is numbered e =
    let static = and_parts d.1.is_static (is_kept d.1.descriptor) e in
    let above = of_file h f d numbered is in
    let le : nat_le BUILT_IN_COUNT d.0 ≡ true = grind arith in
    rw static.0 le

pub file_static : (h : List ClassInfo) (f : ℕ) → AreNumbered h → is_static_field h f ≡ true → is_file_static h f ≡ true
file_static h f numbered e = static_by h f (field_at h f) refl numbered e

-- ---- what a static field holds

not_first : (ref : Bool) (a : ℕ) → Address a ≡ first_value ref → ⊥
not_first true a e = cc
not_first false a e = cc

-- what holds an address is a static field
static_holds : (h : List ClassInfo) (p : RegProgram) (t : FactSets) (s : RegState) (f : ℕ) (b : Bool) → is_static_field h f ≡ b → IsGood h p t s → PointsTo s.heap (s.statics f) → is_static_field h f ≡ true
static_holds h p t s f true is good at = is
static_holds h p t s f false is good at = absurd (not_first (is_ref_field h f) at.address (sym at.value ∙ (good.statics f).others is))

-- ---- edges

in_set : (s : RegState) (set : ℕ → Bool) (v : RegValue) (x : ℕ) → HasSite s.heap set v → IsOfSite s v x → set x ≡ true
in_set s set v x has_it is =
    let here : HasSite s.heap set (Address is.at.address) = subst (HasSite s.heap set) is.at.value has_it in
    let same : here.0 ≡ is.at.object = same_found (slice_get s.heap is.at.address) here.0 is.at.object here.1 is.at.stands in
    subst (λ (k : ℕ). set k ≡ true) (ap (λ (o : RegObject). o.site) same ∙ is.made) here.2

edge_had : (h : List ClassInfo) (p : RegProgram) (t : FactSets) (s : RegState) (e : Edge) → IsWellFormed h p → IsGood h p t s → Covers h p t s → Realises s e → HasEdge h t e
edge_had h p t s (Static f x) wf good covered is = (
  file_static h f.0 wf.numbers (static_holds h p t s f.0 (is_static_field h f.0) refl good is.at),
  in_set s (t.static f.0) (s.statics f.0) x.0 (covered.statics f.0) is,
)
edge_had h p t s (Field x g y) wf good covered is =
    subst (λ (k : ℕ). t.cell k g.0 y.0 ≡ true) is.0.made
    (in_set s (t.cell is.0.object.site g.0) is.1 y.0 (covered.fields is.0.address is.0.object g.0 is.1 is.0.stands is.2).site is.3)
edge_had h p t s (Element x y) wf good covered is =
    subst (λ (k : ℕ). t.elem k y.0 ≡ true) is.0.made
    (in_set s (t.elem is.0.object.site) is.2 y.0 (covered.elements is.0.address is.0.object is.1 is.2 is.0.stands is.3).site is.4)

pub realised_had : (h : List ClassInfo) (p : RegProgram) (t : FactSets) (s : RegState) (e : Edge) → IsWellFormed h p → IsGood h p t s → Realises s e → HasEdge h t e
realised_had h p t s e wf good is = edge_had h p t s e wf good (good_covered h p t s wf good) is
