-- Heaps that grow: each object stays at its address and keeps its site, and what is held stays held.
use Rattle.std.proofs.Common.{◌≡◌, ℕ, zero, suc, ◌==◌, ◌<◌, ◌⊎◌, inl, inr, Bool, true, false, List, [], ◌∷◌, ◌++◌, length, Option, None, Some, slice_get, refl, sym, ap, subst, arith, ◌∙◌, if◌then◌else◌}
use Rattle.std.specs.Prelude.{◌^◌}
use Rattle.std.specs.List.{AllByRecursion}
use Rattle.std.proofs.lemmas.Bool.{eqb-true, ne_eqb}
use Rattle.std.proofs.lemmas.Option.{slice_get_within}
use Rattle.th_base.specs.declared.class.ClassInfo.{ClassInfo}
use Rattle.th_base.specs.IdSet.{has}
use Rattle.th_ir.specs.declared.program.RegProgram.{RegProgram}
use Rattle.th_ir.specs.Program.{is_ref}
use Rattle.th_ir.specs.Fields.{stage_field, is_ref_field, class_has}
use Rattle.th_ir.specs.Sites.{site_class, is_ref_array, launch_class}
use Rattle.th_ir.specs.Machine.{RegValue, IntValue, NullValue, Address, Contents, Instance, Array, RegObject, RegFrame, RegState, PointsTo, field_value, element_value, written, with_field, with_element, changed_at}
use Rattle.th_ir.specs.FactSets.{FactSets, IsWithin}
use Rattle.th_ir.specs.Good.{IsHeld, IsFieldHeld, IsContents, IsStaticValue, IsLaunchObject, IsLaunchValue, IsReg, IsFrame}
use Rattle.th_ir.proofs.Plain.{some_is, same_found, changed_number, all_map, all_at, all_set, length_set}

-- ---- heaps

-- each object of the first heap stands in the second at its address, of the same site
abbrev pub IsExtended : List RegObject → List RegObject → Type 0
IsExtended heap more = (a : ℕ) (o : RegObject) → slice_get heap a ≡ Some o → (n : RegObject) × (slice_get more a ≡ Some n) × (n.site ≡ o.site)

pub same_heap : (heap : List RegObject) → IsExtended heap heap
same_heap heap a o e = (o, e, refl)

pub get_more : (heap : List RegObject) (o : RegObject) (a : ℕ) (w : RegObject) → slice_get heap a ≡ Some w → slice_get (heap ++ o ∷ []) a ≡ Some w
get_more [] o a w e = absurd cc
get_more (x ∷ heap) o zero w e = e
get_more (x ∷ heap) o (suc a) w e = get_more heap o a w e

pub get_new : (heap : List RegObject) (o : RegObject) → slice_get (heap ++ o ∷ []) (length heap) ≡ Some o
get_new [] o = refl
get_new (x ∷ heap) o = get_new heap o

pub grown : (heap : List RegObject) (o : RegObject) → IsExtended heap (heap ++ o ∷ [])
grown heap o a w e = (w, get_more heap o a w e, refl)

-- an object of a grown heap was there, or is the new one
pub grown_cases : (heap : List RegObject) (o : RegObject) (a : ℕ) (w : RegObject) → slice_get (heap ++ o ∷ []) a ≡ Some w → (slice_get heap a ≡ Some w) ⊎ ((o ≡ w) × (a ≡ length heap))
grown_cases [] o zero w e = inr (some_is o w e, refl)
grown_cases [] o (suc a) w e = absurd cc
grown_cases (x ∷ heap) o zero w e = inl e
grown_cases (x ∷ heap) o (suc a) w e = elim (grown_cases heap o a w e) [ inl old ↦ inl old | inr new ↦ inr (new.0, ap suc new.1) ]

pub changed : (heap : List RegObject) (b : ℕ) (g : Contents → Contents) → IsExtended heap (changed_at b g heap)
changed [] b g a o e = absurd cc
changed (x ∷ heap) zero g zero o e = (record x { contents = g x.contents }, refl, ap (λ (w : RegObject). w.site) (some_is x o e))
changed (x ∷ heap) zero g (suc a) o e = (o, e, refl)
changed (x ∷ heap) (suc b) g zero o e = (o, e, refl)
changed (x ∷ heap) (suc b) g (suc a) o e = changed heap b g a o e

abbrev pub with_contents : RegObject → (Contents → Contents) → RegObject
with_contents o g = record { site = o.site; contents = g o.contents }

-- an object of a changed heap was there, or is the changed one
pub changed_cases : (heap : List RegObject) (b : ℕ) (g : Contents → Contents) (a : ℕ) (w : RegObject) → slice_get (changed_at b g heap) a ≡ Some w
    → (slice_get heap a ≡ Some w) ⊎ ((o : RegObject) × (slice_get heap b ≡ Some o) × (a ≡ b) × (with_contents o g ≡ w))
changed_cases [] b g a w e = absurd cc
changed_cases (x ∷ heap) zero g zero w e = inr (x, refl, refl, some_is (with_contents x g) w e)
changed_cases (x ∷ heap) zero g (suc a) w e = inl e
changed_cases (x ∷ heap) (suc b) g zero w e = inl e
changed_cases (x ∷ heap) (suc b) g (suc a) w e =
    elim (changed_cases heap b g a w e) [ inl old ↦ inl old | inr new ↦ inr (new.0, new.1, ap suc new.2, new.3) ]

-- ---- what is held

pub held_on : (heap more : List RegObject) → IsExtended heap more → (set : ℕ → Bool) (ref : Bool) (v : RegValue) → IsHeld heap set ref v → IsHeld more set ref v
held_on heap more ext set ref (IntValue n) held = held
held_on heap more ext set ref NullValue held = held
held_on heap more ext set ref (Address a) held =
    let new = ext a held.1.0 held.1.1 in (held.0, (new.0, new.1, subst (λ (s : ℕ). set s ≡ true) (sym new.2) held.1.2))

pub held_more : (heap : List RegObject) (xs ys : ℕ → Bool) (ref to : Bool) (v : RegValue) → IsWithin xs ys → to ≡ ref → IsHeld heap xs ref v → IsHeld heap ys to v
held_more heap xs ys ref to (IntValue n) within same held = (same ∙ held.0, held.1)
held_more heap xs ys ref to NullValue within same held = same ∙ held
held_more heap xs ys ref to (Address a) within same held = (same ∙ held.0, (held.1.0, held.1.1, within held.1.0.site held.1.2))

-- the site of the object that a place holds is in its set
pub held_site : (heap : List RegObject) (set : ℕ → Bool) (ref : Bool) (v : RegValue) → IsHeld heap set ref v → (at : PointsTo heap v) → set at.object.site ≡ true
held_site heap set ref v held at =
    let here : IsHeld heap set ref (Address at.address) = subst (IsHeld heap set ref) at.value held in
    subst (λ (o : RegObject). set o.site ≡ true) (same_found (slice_get heap at.address) here.1.0 at.object here.1.1 at.stands) here.1.2

field_on : (h : List ClassInfo) (heap more : List RegObject) → IsExtended heap more → (set : ℕ → Bool) (c f : ℕ) (v : Option RegValue) → IsFieldHeld h heap set c f v → IsFieldHeld h more set c f v
field_on h heap more ext set c f None held = held
field_on h heap more ext set c f (Some v) held = (held.0, held_on heap more ext set (is_ref_field h f) v held.1)

pub contents_on : (h : List ClassInfo) (p : RegProgram) (t : FactSets) (heap more : List RegObject) → IsExtended heap more → (s : ℕ) (b : Contents) → IsContents h p t heap s b → IsContents h p t more s b
contents_on h p t heap more ext s (Instance fields) is = (is.0, is.1, λ f. field_on h heap more ext (t.cell s f) is.0 f (fields f) (is.2 f))
contents_on h p t heap more ext s (Array elements) is =
    (is.0, is.1, all_map (IsHeld heap (t.elem s) (is_ref_array p s)) (IsHeld more (t.elem s) (is_ref_array p s)) (held_on heap more ext (t.elem s) (is_ref_array p s)) elements is.2)

pub static_on : (h : List ClassInfo) (t : FactSets) (heap more : List RegObject) → IsExtended heap more → (f : ℕ) (v : RegValue) → IsStaticValue h t heap f v → IsStaticValue h t more f v
static_on h t heap more ext f v is = record { held = held_on heap more ext (t.static f) (is_ref_field h f) v is.held; others = is.others }

pub launched_on : (p : RegProgram) (heap more : List RegObject) → IsExtended heap more → (a : ℕ) → IsLaunchObject p heap a → IsLaunchObject p more a
launched_on p heap more ext a is =
    let new = ext a is.object is.stands in
    record { object = new.0; stands = new.1; class = is.class; launch = ap (launch_class p) new.2 ∙ is.launch }

launch_value_on : (p : RegProgram) (heap more : List RegObject) → IsExtended heap more → (launched : List ℕ) (v : RegValue) → IsLaunchValue p heap launched v → IsLaunchValue p more launched v
launch_value_on p heap more ext launched (IntValue n) is = is
launch_value_on p heap more ext launched NullValue is = is
launch_value_on p heap more ext launched (Address a) is = (launched_on p heap more ext a is.0, is.1)

pub reg_on : (p : RegProgram) (t : FactSets) (heap more : List RegObject) → IsExtended heap more → (launched : List ℕ) (m r : ℕ) (v : RegValue) → IsReg p t heap launched m r v → IsReg p t more launched m r v
reg_on p t heap more ext launched m r v reg = record {
  held = held_on heap more ext (t.reg r) (is_ref p r) v reg.held;
  launch = λ e. launch_value_on p heap more ext launched v (reg.launch e);
  pick = reg.pick;
}

pub frame_on : (p : RegProgram) (t : FactSets) (heap more : List RegObject) → IsExtended heap more → (launched : List ℕ) (f : RegFrame) → IsFrame p t heap launched f → IsFrame p t more launched f
frame_on p t heap more ext launched f frame = record {
  node = frame.node;
  stands = frame.stands;
  within = frame.within;
  reached = frame.reached;
  regs = λ r. reg_on p t heap more ext launched f.method r (f.regs r) (frame.regs r);
}

-- ---- what is read and written

pub written_all : (P : ℕ → RegValue → Type 0) (ws : List (ℕ × RegValue)) (regs : ℕ → RegValue) → AllByRecursion (λ w. P w.0 w.1) ws → ((r : ℕ) → P r (regs r)) → (r : ℕ) → P r (written ws regs r)
written_all P [] regs new old r = old r
written_all P (w ∷ ws) regs new old r = changed_number P r w.0 w.1 (written ws regs r) new.0 (written_all P ws regs new.1 old r)

-- a field that an object has, and what it holds
pub field_held : (h : List ClassInfo) (p : RegProgram) (t : FactSets) (heap : List RegObject) (s f : ℕ) (b : Contents) (v : RegValue) → IsContents h p t heap s b → field_value f b ≡ Some v
    → ((c : ℕ) × (site_class h p s ≡ Some c) × (class_has h c f ≡ true)) × IsHeld heap (t.cell s f) (is_ref_field h f) v
field_held h p t heap s f (Instance fields) v is e =
    let held : IsFieldHeld h heap (t.cell s f) is.0 f (Some v) = subst (IsFieldHeld h heap (t.cell s f) is.0 f) e (is.2 f) in
    ((is.0, is.1, held.0), held.1)
field_held h p t heap s f (Array elements) v is e = absurd cc

pub element_held : (h : List ClassInfo) (p : RegProgram) (t : FactSets) (heap : List RegObject) (s k : ℕ) (b : Contents) (v : RegValue) → IsContents h p t heap s b → element_value k b ≡ Some v
    → IsHeld heap (t.elem s) (is_ref_array p s) v
element_held h p t heap s k (Instance fields) v is e = absurd cc
element_held h p t heap s k (Array elements) v is e = all_at (IsHeld heap (t.elem s) (is_ref_array p s)) elements k v is.2 e

pub field_put : (h : List ClassInfo) (p : RegProgram) (t : FactSets) (heap : List RegObject) (s f : ℕ) (v : RegValue) (b : Contents) → IsContents h p t heap s b → (c : ℕ) → site_class h p s ≡ Some c → class_has h c f ≡ true
    → IsHeld heap (t.cell s f) (is_ref_field h f) v → IsContents h p t heap s (with_field f v b)
field_put h p t heap s f v (Instance fields) is c class has_it held =
    let here : class_has h is.0 f ≡ true = ap (λ (k : ℕ). class_has h k f) (same_found (site_class h p s) is.0 c is.1 class) ∙ has_it in
    (is.0, is.1, λ g. changed_number (λ (k : ℕ) (w : Option RegValue). IsFieldHeld h heap (t.cell s k) is.0 k w) g f (Some v) (fields g) (here, held) (is.2 g))
field_put h p t heap s f v (Array elements) is c class has_it held = is

pub element_put : (h : List ClassInfo) (p : RegProgram) (t : FactSets) (heap : List RegObject) (s k : ℕ) (v : RegValue) (b : Contents) → IsContents h p t heap s b
    → IsHeld heap (t.elem s) (is_ref_array p s) v → IsContents h p t heap s (with_element k v b)
element_put h p t heap s k v (Instance fields) is held = is
element_put h p t heap s k v (Array elements) is held =
    (is.0, subst (λ (n : ℕ). n < 2 ^ 31) (sym (length_set elements k v)) is.1, all_set (IsHeld heap (t.elem s) (is_ref_array p s)) elements k v is.2 held)

-- ---- stages

by_stage : (fields : ℕ → Option RegValue) (g : ℕ) (v w : RegValue) (b : Bool) → (g ≡ stage_field → ⊥) → (stage_field == g) ≡ b → (if b then Some v else fields stage_field) ≡ Some w → fields stage_field ≡ Some w
by_stage fields g v w true apart same e = absurd (apart (sym (eqb-true stage_field g same)))
by_stage fields g v w false apart same e = e

pub field_stage : (g : ℕ) (v w : RegValue) (b : Contents) → (g ≡ stage_field → ⊥) → field_value stage_field (with_field g v b) ≡ Some w → field_value stage_field b ≡ Some w
field_stage g v w (Instance fields) apart e = by_stage fields g v w (stage_field == g) apart refl e
field_stage g v w (Array elements) apart e = e

pub element_stage : (k : ℕ) (v w : RegValue) (b : Contents) → field_value stage_field (with_element k v b) ≡ Some w → field_value stage_field b ≡ Some w
element_stage k v w (Instance fields) e = e
element_stage k v w (Array elements) e = e

-- what is launched is in the heap, so the next address isn't launched
pub next_not_launched : (p : RegProgram) (heap : List RegObject) (launched : List ℕ) → AllByRecursion (IsLaunchObject p heap) launched → has launched (length heap) ≡ false
next_not_launched p heap [] all = refl
next_not_launched p heap (a ∷ launched) all =
    let less = slice_get_within heap a all.0.object all.0.stands in
    let apart : (a == length heap) ≡ false = ne_eqb a (length heap) (λ (e : a ≡ length heap). omega (arith, e)) in
    rw apart (next_not_launched p heap launched all.1)
