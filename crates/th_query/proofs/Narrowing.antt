-- The greatest from-sets: the sites of the objects that meet a query are sets that meet the rules.
use Rattle.std.proofs.Common.{◌≡◌, inl, inr, ℕ, ◌+◌, zero, suc, ◌==◌, Bool, true, false, cond, ℤ, pos, List, [], ◌∷◌, length, map, Option, None, Some, slice_get, refl, sym, ap, subst, ◌∙◌, arith}
use Rattle.std.specs.Prelude.{◌&&◌}
use Rattle.std.specs.Option.{option_map, option_map_or}
use Rattle.std.proofs.lemmas.Bool.{eqb-true, eq-eqb, and_from, and_parts, both_ways, not-true}
use Rattle.th_base.specs.declared.class.ClassInfo.{ClassInfo}
use Rattle.th_base.specs.declared.number.FieldId.{FieldId}
use Rattle.th_base.specs.IdSet.{has}
use Rattle.th_base.proofs.Ascending.{has-filter}
use Rattle.th_ir.specs.declared.program.RegProgram.{RegProgram}
use Rattle.th_ir.specs.Program.{Among}
use Rattle.th_ir.specs.Fields.{length_field, class_has, is_ref_field}
use Rattle.th_ir.specs.Sites.{site_class, is_ref_array, is_array_site}
use Rattle.th_ir.specs.FactSets.{FactSets}
use Rattle.th_ir.specs.Good.{IsHeld, IsFieldHeld, IsContents, IsFrame, IsGood}
use Rattle.th_ir.specs.Machine.{RegValue, IntValue, NullValue, Address, Contents, Instance, Array, RegObject, RegState, PointsTo, field_value, length_of}
use Rattle.th_ir.proofs.Plain.{same_found, some_is, all_at}
use Rattle.th_query.specs.declared.query.Element.{Element}
use Rattle.th_query.specs.declared.query.Link.{Link}
use Rattle.th_query.specs.declared.query.Slot.{Slot}
use Rattle.th_query.specs.declared.query.Slot.TheVariants.{Field, Elements}
use Rattle.th_query.specs.declared.query.Sym.{Sym}
use Rattle.th_query.specs.declared.query.Sym.TheVariants.{Ref, Int, Carry}
use Rattle.th_query.specs.declared.query.Query.{Query}
use Rattle.th_query.specs.Symbols.{cell_link, element_link, links, is_named, is_sure, is_number_symbol, is_ref_symbol, sites_in, sites_of, symbol_at}
use Rattle.th_query.specs.Meets.{Allows, HoldsIn, Meets}
use Rattle.th_query.specs.Narrowed.{has_slot, slot_has, MeetsRules, AreGreatest, kept_sites, kept_symbols}
use Rattle.th_query.specs.WellFormed.{IsRef}
use Rattle.th_query.proofs.InLists.{among_unmap, among_either}
use Rattle.th_query.proofs.Naming.{base_named, value_named}
use Rattle.th_query.proofs.Formed.{AreThere}
use Rattle.th_query.proofs.SameValues.{frame_met, one_address, one_object}

-- ---- the sites of objects

abbrev pub is_from : List RegObject → RegValue → ℕ → Bool
is_from heap (IntValue z) a = false
is_from heap NullValue a = false
is_from heap (Address o) a = option_map_or (λ (x : RegObject). x.site == a) (slice_get heap o) false

-- for each symbol the site of its object, where it is given
abbrev pub singles : RegState → Query → (ℕ → RegValue) → ℕ → ℕ → Bool
singles s q v n a = has (sites_of q n) a && is_from s.heap (v n) a

-- the object of a value
pub record ObjectAt (heap : List RegObject) (w : RegValue) (a : ℕ) : Type 0 where
  pub at : PointsTo heap w
  pub site : at.object.site ≡ a

found_from : (heap : List RegObject) (o a : ℕ) (found : Option RegObject) → slice_get heap o ≡ found → option_map_or (λ (x : RegObject). x.site == a) found false ≡ true → ObjectAt heap (Address o) a
found_from heap o a None is h = absurd (both_ways _ refl h)
found_from heap o a (Some x) is h = record { at = record { address = o; object = x; value = refl; stands = is }; site = eqb-true x.site a h }

object_from : (heap : List RegObject) (w : RegValue) (a : ℕ) → is_from heap w a ≡ true → ObjectAt heap w a
object_from heap (IntValue z) a h = absurd (both_ways _ refl h)
object_from heap NullValue a h = absurd (both_ways _ refl h)
object_from heap (Address o) a h = found_from heap o a (slice_get heap o) refl h

from_object : (heap : List RegObject) (w : RegValue) (o : PointsTo heap w) → is_from heap w o.object.site ≡ true
from_object heap w o =
    subst (λ u. is_from heap u o.object.site ≡ true) (sym o.value)
    (subst (λ found. option_map_or (λ (x : RegObject). x.site == o.object.site) found false ≡ true) (sym o.stands) (eq-eqb o.object.site o.object.site refl))

-- what a place holds is of a site of the place's set
held_in : (heap : List RegObject) (set : ℕ → Bool) (ref : Bool) (w : RegValue) → IsHeld heap set ref w → (o : PointsTo heap w) → set o.object.site ≡ true
held_in heap set ref (IntValue n) h o = let e : IntValue n ≡ Address o.address = o.value in absurd cc
held_in heap set ref NullValue h o = let e : NullValue ≡ Address o.address = o.value in absurd cc
held_in heap set ref (Address a) h o =
    let same : a ≡ o.address = one_address a o.address o.value in
    subst (λ (x : RegObject). set x.site ≡ true) (same_found (slice_get heap a) h.1.0 o.object h.1.1 (ap (slice_get heap) same ∙ o.stands)) h.1.2

held_ref : (heap : List RegObject) (set : ℕ → Bool) (ref : Bool) (w : RegValue) → IsHeld heap set ref w → ((z : ℤ) → w ≡ IntValue z → ⊥) → ref ≡ true
held_ref heap set ref (IntValue n) h f = absurd (f n refl)
held_ref heap set ref NullValue h f = h
held_ref heap set ref (Address a) h f = h.0

-- ---- what an object holds in a slot

pub record SlotHeld (h : List ClassInfo) (p : RegProgram) (t : FactSets) (heap : List RegObject) (site : ℕ) (slot : Slot) (w : RegValue) : Type 0 where
  pub owner : has_slot h p site slot ≡ true
  pub member : (o : PointsTo heap w) → slot_has t site slot o.object.site ≡ true

length_held : (h : List ClassInfo) (p : RegProgram) (t : FactSets) (heap : List RegObject) (site : ℕ) (f : FieldId) (contents : Contents) (w : RegValue) → IsContents h p t heap site contents
    → (f.0 == length_field) ≡ true → option_map (λ n. IntValue (pos n)) (length_of contents) ≡ Some w → SlotHeld h p t heap site (Field f) w
length_held h p t heap site f (Instance fields) w c is e = absurd cc
length_held h p t heap site f (Array elements) w c is e = record {
  owner = subst (λ b. cond b (is_array_site p site) (option_map_or (λ k. class_has h k f.0) (site_class h p site) false) ≡ true) (sym is) c.0;
  member = λ o. let one : IntValue (pos (length elements)) ≡ w = some_is (IntValue (pos (length elements))) w e in let two = o.value in let both : IntValue (pos (length elements)) ≡ Address o.address = one ∙ two in absurd cc;
}

field_held : (h : List ClassInfo) (p : RegProgram) (t : FactSets) (heap : List RegObject) (site : ℕ) (f : FieldId) (contents : Contents) (w : RegValue) → IsContents h p t heap site contents
    → (f.0 == length_field) ≡ false → field_value f.0 contents ≡ Some w → SlotHeld h p t heap site (Field f) w
field_held h p t heap site f (Instance fields) w (c, class, held) is e =
    let here : (class_has h c f.0 ≡ true) × IsHeld heap (t.cell site f.0) (is_ref_field h f.0) w = subst (IsFieldHeld h heap (t.cell site f.0) c f.0) e (held f.0) in
    record {
      owner =
          subst (λ b. cond b (is_array_site p site) (option_map_or (λ k. class_has h k f.0) (site_class h p site) false) ≡ true) (sym is)
          (subst (λ k. option_map_or (λ k. class_has h k f.0) k false ≡ true) (sym class) here.0);
      member = held_in heap (t.cell site f.0) (is_ref_field h f.0) w here.1;
    }
field_held h p t heap site f (Array elements) w c is e = absurd cc

pub slot_held : (h : List ClassInfo) (p : RegProgram) (t : FactSets) (heap : List RegObject) (site : ℕ) (slot : Slot) (contents : Contents) (w : RegValue) → IsContents h p t heap site contents
    → (slot ≡ Elements → (z : ℤ) → w ≡ IntValue z → ⊥) → HoldsIn slot contents w → SlotHeld h p t heap site slot w
slot_held h p t heap site (Field f) contents w c ref e = go (f.0 == length_field) refl e
  where
    go : (b : Bool) → (f.0 == length_field) ≡ b → cond b (option_map (λ n. IntValue (pos n)) (length_of contents)) (field_value f.0 contents) ≡ Some w → SlotHeld h p t heap site (Field f) w
    go true is k = length_held h p t heap site f contents w c is k
    go false is k = field_held h p t heap site f contents w c is k
slot_held h p t heap site Elements (Instance fields) w c ref (k, e) = absurd cc
slot_held h p t heap site Elements (Array elements) w c ref (k, e) =
    let here = all_at (IsHeld heap (t.elem site) (is_ref_array p site)) elements k w c.2 e in
    record {
      owner = held_ref heap (t.elem site) (is_ref_array p site) w here (ref refl);
      member = held_in heap (t.elem site) (is_ref_array p site) w here;
    }

-- ---- symbols

allowed_in : (heap : List RegObject) (o : Option Sym) (x : Sym) (w : RegValue) → o ≡ Some x → Allows heap x w → (p : PointsTo heap w) → has (sites_in o) p.object.site ≡ true
allowed_in heap o x w is a p = go x is (subst (Allows heap x) p.value a)
  where
    go : (x : Sym) → o ≡ Some x → Allows heap x (Address p.address) → has (sites_in o) p.object.site ≡ true
    go (Ref null sites) e (y, there, h) =
        subst (λ (z : RegObject). has (sites_in o) z.site ≡ true) (same_found (slice_get heap p.address) y p.object there p.stands) (subst (λ z. has (sites_in z) y.site ≡ true) (sym e) h)
    go Int e b = absurd b
    go Carry e b = absurd b

-- a named symbol's object is from one of its sites
named_in : (s : RegState) (q : Query) (v : ℕ → RegValue) → AreThere q → Meets s q v → (n : ℕ) → is_named q n ≡ true → (p : PointsTo s.heap (v n)) → singles s q v n p.object.site ≡ true
named_in s q v there m n named p =
    let x = there n named in
    and_from _ _ (allowed_in s.heap (symbol_at q n) x.0 (v n) x.1 (m.named n x.0 named x.1) p) (from_object s.heap (v n) p)

-- a reference that can't be null is an object
surely_at : (heap : List RegObject) (o : Option Sym) (x : Sym) (w : RegValue) → o ≡ Some x → is_sure o ≡ true → Allows heap x w → PointsTo heap w
surely_at heap o x w is sure a = go x w (subst (λ z. is_sure z ≡ true) is sure) a
  where
    go : (x : Sym) (w : RegValue) → is_sure (Some x) ≡ true → Allows heap x w → PointsTo heap w
    go (Ref null sites) (IntValue z) h b = absurd b
    go (Ref null sites) NullValue h b = absurd (both_ways _ (not-true null h) b)
    go (Ref null sites) (Address a) h (y, there, k) = record { address = a; object = y; value = refl; stands = there }
    go Int w h b = absurd (both_ways _ refl h)
    go Carry w h b = absurd (both_ways _ refl h)

no_int : (heap : List RegObject) (o : Option Sym) (x : Sym) (w : RegValue) → o ≡ Some x → is_ref_symbol o ≡ true → Allows heap x w → (z : ℤ) → w ≡ IntValue z → ⊥
no_int heap o x w is ref a z e = go x (subst (λ k. is_ref_symbol k ≡ true) is ref) (subst (Allows heap x) e a)
  where
    go : (x : Sym) → is_ref_symbol (Some x) ≡ true → Allows heap x (IntValue z) → ⊥
    go (Ref null sites) h b = b
    go Int h b = both_ways _ refl h
    go Carry h b = both_ways _ refl h

abbrev pub AreReferences : Query → Type 0
AreReferences q = (e : Element) → Among q.elems e → IsRef q e.value

element_value_ref : (q : Query) (k : Link) → AreReferences q → Among (links q) k → k.slot ≡ Elements → IsRef q k.value
element_value_ref q k refs a is = elim (among_either k (map cell_link q.cells) (map element_link q.elems) a) [
  | inl left ↦ let c = among_unmap cell_link k q.cells left in let both : Field c.0.field ≡ Elements = sym (ap (λ (j : Link). j.slot) c.2) ∙ is in absurd cc
  | inr right ↦ let e = among_unmap element_link k q.elems right in subst (λ (j : Link). IsRef q j.value) (sym e.2) (refs e.0 e.1)
]

-- ---- the rules

-- what a link says, and what the facts say of it
link_held : (h : List ClassInfo) (p : RegProgram) (t : FactSets) (s : RegState) (q : Query) (v : ℕ → RegValue) → IsGood h p t s → AreThere q → AreReferences q → Meets s q v → (k : Link) → Among (links q) k
    → (o : PointsTo s.heap (v k.base)) × SlotHeld h p t s.heap o.object.site k.slot (v k.value)
link_held h p t s q v good there refs m k a =
    let l = m.links k a in
    let o = l.0 in
    let x = there k.value (value_named q k a) in (
      o,
      slot_held h p t s.heap o.object.site k.slot o.object.contents (v k.value) (good.heap o.address o.object o.stands)
          (λ is. no_int s.heap (symbol_at q k.value) x.0 (v k.value) x.1 (element_value_ref q k refs a is) (m.named k.value x.0 (value_named q k a) x.1)) l.1,
    )

pub singles_meet : (h : List ClassInfo) (p : RegProgram) (t : FactSets) (s : RegState) (q : Query) (v : ℕ → RegValue) → IsGood h p t s → AreThere q → AreReferences q → Meets s q v → MeetsRules h p t q (singles s q v)
singles_meet h p t s q v good there refs m = record {
  given = λ n a e. (and_parts _ _ e).0;
  registers = λ f x a b c e.
      let o = object_from s.heap (v x.1) a (and_parts _ _ e).1 in
      let g = frame_met v s.frames q.frames f m.frames b in
      let held = ((all_at (IsFrame p t s.heap s.launched) s.frames g.1.0 g.0 good.frames g.1.1).regs x.0.0).held in
      subst (λ b. t.reg x.0.0 b ≡ true) o.site (held_in s.heap (t.reg x.0.0) _ (v x.1) (subst (IsHeld s.heap (t.reg x.0.0) _) (g.2 x c) held) o.at);
  statics = λ x a b e.
      let o = object_from s.heap (v x.1) a (and_parts _ _ e).1 in
      subst (λ b. t.static x.0.0 b ≡ true) o.site (held_in s.heap (t.static x.0.0) _ (v x.1) (subst (IsHeld s.heap (t.static x.0.0) _) (m.statics x b) (good.statics x.0.0).held) o.at);
  values = λ k b a e.
      let o = object_from s.heap (v k.value) b (and_parts _ _ e).1 in
      let l = link_held h p t s q v good there refs m k a in
      (l.0.object.site, named_in s q v there m k.base (base_named q k a) l.0, subst (λ c. slot_has t l.0.object.site k.slot c ≡ true) o.site (l.1.member o.at));
  owners = λ k a b e.
      let o = object_from s.heap (v k.base) a (and_parts _ _ e).1 in
      let l = link_held h p t s q v good there refs m k b in
      subst (λ c. has_slot h p c k.slot ≡ true) (ap (λ (x : RegObject). x.site) (one_object s.heap (v k.base) (v k.base) l.0 o.at refl) ∙ o.site) l.1.owner;
  bases = λ k a b sure e.
      let o = object_from s.heap (v k.base) a (and_parts _ _ e).1 in
      let l = link_held h p t s q v good there refs m k b in
      let x = there k.value (value_named q k b) in
      let w = surely_at s.heap (symbol_at q k.value) x.0 (v k.value) x.1 sure (m.named k.value x.0 (value_named q k b) x.1) in (
        w.object.site,
        named_in s q v there m k.value (value_named q k b) w,
        subst (λ c. slot_has t c k.slot w.object.site ≡ true) (ap (λ (x : RegObject). x.site) (one_object s.heap (v k.base) (v k.base) l.0 o.at refl) ∙ o.site) (l.1.member w),
      );
}

-- ---- the query with other sets

pub kept_at : (sets : ℕ → ℕ → Bool) (k : ℕ) (xs : List Sym) (n : ℕ) (x : Sym) → slice_get (kept_symbols sets k xs) n ≡ Some x → (y : Sym) × (slice_get xs n ≡ Some y) × (x ≡ kept_sites (sets (k + n)) y)
kept_at sets k [] n x e = absurd cc
kept_at sets k (y ∷ ys) zero x e = (y, refl, sym (some_is _ x e) ∙ ap (λ i. kept_sites (sets i) y) (omega arith))
kept_at sets k (y ∷ ys) (suc n) x e = let r = kept_at sets (k + 1) ys n x e in (r.0, r.1, r.2 ∙ ap (λ i. kept_sites (sets i) r.0) (omega arith))

pub kept_there : (sets : ℕ → ℕ → Bool) (k : ℕ) (xs : List Sym) (n : ℕ) (y : Sym) → slice_get xs n ≡ Some y → slice_get (kept_symbols sets k xs) n ≡ Some (kept_sites (sets (k + n)) y)
kept_there sets k [] n y e = absurd cc
kept_there sets k (z ∷ zs) zero y e = ap (λ w. Some w) (ap (kept_sites (sets k)) (some_is z y e) ∙ ap (λ i. kept_sites (sets i) y) (omega arith))
kept_there sets k (z ∷ zs) (suc n) y e = kept_there sets (k + 1) zs n y e ∙ ap (λ i. Some (kept_sites (sets i) y)) (omega arith)

other_allows : (heap : List RegObject) (stays : ℕ → Bool) (y : Sym) (w : RegValue) → Allows heap y w → ((o : PointsTo heap w) → stays o.object.site ≡ true) → Allows heap (kept_sites stays y) w
other_allows heap stays (Ref null sites) (IntValue z) a f = a
other_allows heap stays (Ref null sites) NullValue a f = a
other_allows heap stays (Ref null sites) (Address o) (x, there, h) f =
    (x, there, has-filter stays sites x.site ∙ and_from _ _ (f record { address = o; object = x; value = refl; stands = there }) h)
other_allows heap stays Int w a f = a
other_allows heap stays Carry w a f = a

number_kept : (stays : ℕ → Bool) (y : Sym) → is_number_symbol (Some (kept_sites stays y)) ≡ true → (is_number_symbol (Some y) ≡ true) × (kept_sites stays y ≡ y)
number_kept stays (Ref null sites) h = absurd (both_ways _ refl h)
number_kept stays Int h = (refl, refl)
number_kept stays Carry h = (refl, refl)

abbrev pub narrowed_by : (ℕ → ℕ → Bool) → Query → Query
narrowed_by sets q = record q { syms = kept_symbols sets 0 q.syms }

pub narrowed_met : (h : List ClassInfo) (p : RegProgram) (t : FactSets) (s : RegState) (q : Query) (sets : ℕ → ℕ → Bool) (v : ℕ → RegValue) → IsGood h p t s → AreThere q → AreReferences q → AreGreatest h p t q sets
    → Meets s q v → Meets s (narrowed_by sets q) v
narrowed_met h p t s q sets v good there refs g m =
    let first : (n : ℕ) → 0 + n ≡ n = λ n. omega arith in
    record {
      idle = m.idle;
      frames = m.frames;
      statics = m.statics;
      links = m.links;
      named = λ n x k e.
          let y = kept_at sets 0 q.syms n x e in
          subst (λ z. Allows s.heap z (v n)) (sym (y.2 ∙ ap (λ i. kept_sites (sets i) y.0) (first n)))
          (other_allows s.heap (sets n) y.0 (v n) (m.named n y.0 k y.1) (λ o. g.greatest (singles s q v) (singles_meet h p t s q v good there refs m) n o.object.site (named_in s q v there m n k o)));
      numbers = λ n x k e.
          let y = kept_at sets 0 q.syms n x e in
          let same = number_kept (sets (0 + n)) y.0 (subst (λ z. is_number_symbol (Some z) ≡ true) y.2 k) in
          subst (λ z. Allows s.heap z (v n)) (sym (y.2 ∙ same.1)) (m.numbers n y.0 same.0 y.1);
      diffs = m.diffs;
      facts = m.facts;
    }
