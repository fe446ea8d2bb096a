-- The values that meet a query are one thing at symbols that are one.
use Rattle.std.proofs.Common.{◌≡◌, inl, inr, ℕ, List, [], ◌∷◌, slice_get, refl, sym, ap, subst, ◌∙◌}
use Rattle.th_base.specs.declared.number.FieldId.{FieldId}
use Rattle.th_base.specs.declared.number.Reg.{Reg}
use Rattle.th_ir.specs.Program.{Among}
use Rattle.th_ir.specs.Machine.{RegValue, Address, RegObject, RegFrame, RegState, PointsTo}
use Rattle.th_ir.proofs.Plain.{same_found}
use Rattle.th_query.specs.declared.query.Frame.{Frame}
use Rattle.th_query.specs.declared.query.Cell.{Cell}
use Rattle.th_query.specs.declared.query.Slot.TheVariants.{Field}
use Rattle.th_query.specs.declared.query.Query.{Query}
use Rattle.th_query.specs.Symbols.{cell_link}
use Rattle.th_query.specs.Meets.{MeetFrames, HoldsAt, field_read, Meets}
use Rattle.th_query.proofs.InLists.{In, in_from, in_to, among_map, among_left}
use Rattle.th_query.proofs.Ones.{Respects}

-- a frame of the query is met by some frame of the state
pub frame_met : (v : ℕ → RegValue) (ss : List RegFrame) (gs : List Frame) (g : Frame) → MeetFrames v ss gs → Among gs g
    → (f : RegFrame) × Among ss f × ((x : Reg × ℕ) → Among g.regs x → f.regs x.0.0 ≡ v x.1)
frame_met v ss gs g m a = let r = go ss gs m (in_from g gs a) in (r.0, in_to r.0 ss r.1, r.2)
  where
    go : (fs : List RegFrame) (hs : List Frame) → MeetFrames v fs hs → In g hs → (f : RegFrame) × In f fs × ((x : Reg × ℕ) → Among g.regs x → f.regs x.0.0 ≡ v x.1)
    go fs [] m b = absurd b
    go [] (h ∷ hs) m b = absurd m
    go (f ∷ fs) (h ∷ hs) m (inl e) = (f, inl refl, λ x c. m.1 x (subst (λ (k : Frame). Among k.regs x) e c))
    go (f ∷ fs) (h ∷ hs) m (inr b) = let r = go fs hs m.2 b in (r.0, inr r.1, r.2)

pub one_address : (a b : ℕ) → Address a ≡ Address b → a ≡ b
one_address a b e = cc

-- a value is the address of one object
pub one_object : (heap : List RegObject) (v w : RegValue) (o : PointsTo heap v) (p : PointsTo heap w) → v ≡ w → o.object ≡ p.object
one_object heap v w o p e =
    let same : o.address ≡ p.address = one_address o.address p.address (sym o.value ∙ e ∙ p.value) in
    same_found (slice_get heap p.address) o.object p.object (ap (slice_get heap) (sym same) ∙ o.stands) p.stands

-- a field of one object has one value
one_held : (heap : List RegObject) (f : FieldId) (u v x y : RegValue) → u ≡ v → HoldsAt heap (Field f) u x → HoldsAt heap (Field f) v y → x ≡ y
one_held heap f u v x y e a b =
    let same = one_object heap u v a.0 b.0 e in
    same_found (field_read f.0 b.0.object.contents) x y (ap (λ (o : RegObject). field_read f.0 o.contents) (sym same) ∙ a.1) b.1

pub cell_met : (s : RegState) (q : Query) (v : ℕ → RegValue) → Meets s q v → (c : Cell) → Among q.cells c → HoldsAt s.heap (Field c.field) (v c.base) (v c.value)
cell_met s q v m c a = m.links (cell_link c) (among_left (cell_link c) _ _ (among_map cell_link c q.cells a))

pub values_respect : (s : RegState) (q : Query) (v : ℕ → RegValue) → Meets s q v → Respects q v
values_respect s q v m = record {
  registers = λ f r x y a b c. let g = frame_met v s.frames q.frames f m.frames a in sym (g.2 (r, x) b) ∙ g.2 (r, y) c;
  statics = λ f x y a b. sym (m.statics (f, x) a) ∙ m.statics (f, y) b;
  cells = λ c d a b e o.
      let first : HoldsAt s.heap (Field d.field) (v c.base) (v c.value) = subst (λ f. HoldsAt s.heap (Field f) (v c.base) (v c.value)) e (cell_met s q v m c a) in
      one_held s.heap d.field (v c.base) (v d.base) (v c.value) (v d.value) o first (cell_met s q v m d b);
}
