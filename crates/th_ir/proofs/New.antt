-- All that a good state holds is in its heap, so the next address is held nowhere.
use Rattle.std.proofs.Common.{◌≡◌, ℕ, zero, suc, ◌==◌, inl, inr, Bool, true, false, List, [], ◌∷◌, ◌++◌, length, Some, slice_get, refl, sym, ap, subst, arith, ◌∙◌, if◌then◌else◌}
use Rattle.std.specs.List.{AllByRecursion}
use Rattle.std.proofs.lemmas.Bool.{eqb-true}
use Rattle.std.proofs.lemmas.Option.{slice_get_within}
use Rattle.th_base.specs.declared.class.ClassInfo.{ClassInfo}
use Rattle.th_ir.specs.declared.program.RegProgram.{RegProgram}
use Rattle.th_ir.specs.Program.{is_ref}
use Rattle.th_ir.specs.Fields.{is_ref_field}
use Rattle.th_ir.specs.Sites.{is_ref_array}
use Rattle.th_ir.specs.Machine.{RegValue, Address, RegObject, RegFrame, RegState, field_value, element_value, written}
use Rattle.th_ir.specs.Effects.{Makes}
use Rattle.th_ir.specs.Step.{moved}
use Rattle.th_ir.specs.FactSets.{FactSets}
use Rattle.th_ir.specs.Rules.{HoldsRules}
use Rattle.th_ir.specs.WellFormed.{IsWellFormed}
use Rattle.th_ir.specs.Good.{IsHeld, IsContents, IsFrame, AreStacked, IsGood}
use Rattle.th_ir.specs.Fresh.{IsMaking, IsFresh}
use Rattle.th_ir.proofs.Plain.{some_is, all_at}
use Rattle.th_ir.proofs.Heaps.{grown_cases, field_held, element_held, next_not_launched}
use Rattle.th_ir.proofs.Changes.{AtNode, Allowed}
use Rattle.th_ir.proofs.Allowed.{allowed}

not_new : (heap : List RegObject) (set : ℕ → Bool) (ref : Bool) (v : RegValue) → IsHeld heap set ref v → v ≡ Address (length heap) → ⊥
not_new heap set ref v held e =
    let here : IsHeld heap set ref (Address (length heap)) = subst (IsHeld heap set ref) e held in
    let less = slice_get_within heap (length heap) here.1.0 here.1.1 in omega arith

contents_not_new : (h : List ClassInfo) (p : RegProgram) (t : FactSets) (heap : List RegObject) (o : RegObject) → IsContents h p t heap o.site o.contents
    → ((g : ℕ) → field_value g o.contents ≡ Some (Address (length heap)) → ⊥) × ((k : ℕ) → element_value k o.contents ≡ Some (Address (length heap)) → ⊥)
contents_not_new h p t heap o is = (
  λ g e. not_new heap (t.cell o.site g) (is_ref_field h g) (Address (length heap)) (field_held h p t heap o.site g o.contents (Address (length heap)) is e).1 refl,
  λ k e. not_new heap (t.elem o.site) (is_ref_array p o.site) (Address (length heap)) (element_held h p t heap o.site k o.contents (Address (length heap)) is e) refl,
)

new_register : (r dst : ℕ) (v w : RegValue) (b : Bool) → (r == dst) ≡ b → (if b then v else w) ≡ v → (w ≡ v → ⊥) → r ≡ dst
new_register r dst v w true is e apart = eqb-true r dst is
new_register r dst v w false is e apart = absurd (apart e)

regs_fresh : (p : RegProgram) (t : FactSets) (s : RegState) (f : RegFrame) (below : List RegFrame) (dst next : ℕ) → AllByRecursion (IsFrame p t s.heap s.launched) (f ∷ below)
    → (k : ℕ) (g : RegFrame) (r : ℕ) → slice_get (moved f next (written ((dst, Address (length s.heap)) ∷ []) f.regs) ∷ below) k ≡ Some g → g.regs r ≡ Address (length s.heap) → (k ≡ 0) × (r ≡ dst)
regs_fresh p t s f below dst next all zero g r is e =
    let here = ap (λ (x : RegFrame). x.regs r) (some_is (moved f next (written ((dst, Address (length s.heap)) ∷ []) f.regs)) g is) ∙ e in
    (refl, new_register r dst (Address (length s.heap)) (f.regs r) (r == dst) refl here (not_new s.heap (t.reg r) (is_ref p r) (f.regs r) (all.0.regs r).held))
regs_fresh p t s f below dst next all (suc k) g r is e =
    let frame = all_at (IsFrame p t s.heap s.launched) below k g all.1 is in absurd (not_new s.heap (t.reg r) (is_ref p r) (g.regs r) (frame.regs r).held e)

pub fresh_made : (h : List ClassInfo) (p : RegProgram) (t : FactSets) (s u : RegState) (dst : ℕ) → IsWellFormed h p → HoldsRules h p t → IsGood h p t s → IsMaking h p s u dst → IsFresh (length s.heap) dst u
fresh_made h p t s u dst wf rules good is =
    let f = is.frame in let node = is.node in let o = is.object in
    let all : AllByRecursion (IsFrame p t s.heap s.launched) (f ∷ is.below) = subst (AllByRecursion (IsFrame p t s.heap s.launched)) is.frames good.frames in
    let at : AtNode h p t s f is.below node = record { good = good; frames = all; stack = subst (AreStacked h p t) is.frames good.stack; stands = is.stands } in
    let may : Allowed h p t s f node (Makes dst o) = allowed h p t s f is.below node (Makes dst o) wf rules at is.effect in
    let contents : (b : ℕ) (w : RegObject) → slice_get (s.heap ++ o ∷ []) b ≡ Some w → IsContents h p t s.heap w.site w.contents =
    λ b w e. elim (grown_cases s.heap o b w e) [ inl old ↦ good.heap b w old | inr new ↦ subst (λ (x : RegObject). IsContents h p t s.heap x.site x.contents) new.0 may.contents ] in
    subst (IsFresh (length s.heap) dst) (sym is.happens.after) record {
      regs = regs_fresh p t s f is.below dst is.happens.next.0 all;
      statics = λ g e. not_new s.heap (t.static g) (is_ref_field h g) (s.statics g) (good.statics g).held e;
      fields = λ b w g e v. (contents_not_new h p t s.heap w (contents b w e)).0 g v;
      elements = λ b w k e v. (contents_not_new h p t s.heap w (contents b w e)).1 k v;
      launched = next_not_launched p s.heap s.launched good.launched;
    }
