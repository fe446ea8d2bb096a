-- Facts cover a state that keeps the invariant.
use Rattle.std.proofs.Common.{◌≡◌, ℕ, Bool, true, false, List, [], ◌∷◌, Some}
use Rattle.std.specs.List.{AllByRecursion}
use Rattle.th_base.specs.declared.class.ClassInfo.{ClassInfo}
use Rattle.th_ir.specs.declared.program.RegProgram.{RegProgram}
use Rattle.th_ir.specs.Program.{Among, is_ref}
use Rattle.th_ir.specs.Fields.{is_ref_field}
use Rattle.th_ir.specs.Sites.{is_array_site, is_ref_array}
use Rattle.th_ir.specs.Machine.{RegValue, IntValue, NullValue, Address, Contents, Instance, Array, RegObject, RegFrame, RegState, element_value}
use Rattle.th_ir.specs.FactSets.{FactSets}
use Rattle.th_ir.specs.WellFormed.{IsWellFormed}
use Rattle.th_ir.specs.Good.{IsHeld, IsContents, IsFrame, IsGood}
use Rattle.th_ir.specs.Covered.{HasSite, Covers}
use Rattle.th_ir.proofs.Plain.{all_at}
use Rattle.th_ir.proofs.Heaps.{field_held, element_held}
use Rattle.th_ir.proofs.Slots.{has_slot}

has_site : (heap : List RegObject) (set : ℕ → Bool) (ref : Bool) (v : RegValue) → IsHeld heap set ref v → HasSite heap set v
has_site heap set ref (IntValue n) held = tt
has_site heap set ref NullValue held = tt
has_site heap set ref (Address a) held = held.1

frame_among : (p : RegProgram) (t : FactSets) (s : RegState) (f : RegFrame) → AllByRecursion (IsFrame p t s.heap s.launched) s.frames → Among s.frames f → IsFrame p t s.heap s.launched f
frame_among p t s f all among = all_at (IsFrame p t s.heap s.launched) s.frames among.0 f all among.1

array_of : (h : List ClassInfo) (p : RegProgram) (t : FactSets) (heap : List RegObject) (s k : ℕ) (b : Contents) (v : RegValue) → IsContents h p t heap s b → element_value k b ≡ Some v → is_array_site p s ≡ true
array_of h p t heap s k (Instance fields) v is e = absurd cc
array_of h p t heap s k (Array elements) v is e = is.0

pub good_covered : (h : List ClassInfo) (p : RegProgram) (t : FactSets) (s : RegState) → IsWellFormed h p → IsGood h p t s → Covers h p t s
good_covered h p t s wf good = record {
  regs = λ f among r. has_site s.heap (t.reg r) (is_ref p r) (f.regs r) ((frame_among p t s f good.frames among).regs r).held;
  statics = λ g. has_site s.heap (t.static g) (is_ref_field h g) (s.statics g) (good.statics g).held;
  fields = λ a o g v e is.
      let held = field_held h p t s.heap o.site g o.contents v (good.heap a o e) is in
      record { has_slot = has_slot h p o.site g wf.numbers held.0; site = has_site s.heap (t.cell o.site g) (is_ref_field h g) v held.1 };
  elements = λ a o k v e is. record {
    has_slot = array_of h p t s.heap o.site k o.contents v (good.heap a o e) is;
    site = has_site s.heap (t.elem o.site) (is_ref_array p o.site) v (element_held h p t s.heap o.site k o.contents v (good.heap a o e) is);
  };
  methods = λ f among. (frame_among p t s f good.frames among).reached;
}
