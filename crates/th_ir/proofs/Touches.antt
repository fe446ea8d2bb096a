-- A step changes nothing but what it touches, and what it touches is in its method's summary.
use Rattle.std.proofs.Common.{◌≡◌, ℕ, zero, suc, ◌==◌, ◌⊎◌, inl, inr, Bool, true, false, List, [], ◌∷◌, ◌++◌, Option, None, Some, slice_get, refl, sym, ap, subst, ◌∙◌}
use Rattle.std.specs.Option.{option_map}
use Rattle.th_base.specs.declared.class.ClassInfo.{ClassInfo}
use Rattle.th_base.specs.declared.operation.Elem.{Elem}
use Rattle.th_base.specs.declared.operation.Elem.TheVariants.{Int as IntElem, Ref as RefElem, Byte as ByteElem, Char as CharElem, Short as ShortElem}
use Rattle.th_base.specs.declared.number.Reg.{Reg}
use Rattle.th_ir.specs.declared.program.RegProgram.{RegProgram}
use Rattle.th_ir.specs.declared.program.Node.{Node}
use Rattle.th_ir.specs.declared.stmt.CallKind.TheVariants.{Virtual, Special, Static}
use Rattle.th_ir.specs.declared.stmt.Stmt.{Stmt}
use Rattle.th_ir.specs.declared.stmt.Stmt.TheVariants.{Nop, Const, Null, Str, Copy, Arith, Neg, AddConst, Narrow, AnyInt, Assume, GetStatic, PutStatic, GetField, PutField, GetElem, PutElem, Length, New, NewArray, Cast, InstanceOf, Call, Init, Return, Pick, NonNull, Halt}
use Rattle.th_ir.specs.Machine.{RegValue, Contents, Instance, Array, RegObject, RegFrame, RegState, with_field, with_element, changed_at}
use Rattle.th_ir.specs.Effects.{ReadsElement, Change, Sets, SetsStatic, SetsField, SetsElement, Makes, Enters, Leaves, Effect}
use Rattle.th_ir.specs.Step.{Resumes, Returns, Happens}
use Rattle.th_ir.specs.FactSets.{FactSets, IsWithin}
use Rattle.th_ir.specs.Summaries.{ModSets, IsPart, Sums}
use Rattle.th_ir.specs.Good.{Waits}
use Rattle.th_ir.specs.Unchanged.{SameContents, IsKept, IsUnchanged}
use Rattle.th_ir.proofs.Plain.{some_is, same_found, not_both, kept_number, length_set}
use Rattle.th_ir.proofs.Heaps.{get_more, grown_cases, changed_cases, with_contents}

-- ---- what a change touches

abbrev pub Touches : ModSets → ℕ → Change → Type 0
Touches mods m (Sets ws) = Unit {0}
Touches mods m (SetsStatic g v) = mods.statics m g ≡ true
Touches mods m (SetsField a g v) = mods.fields m g ≡ true
Touches mods m (SetsElement a k v) = mods.elements m ≡ true
Touches mods m (Makes dst o) = mods.sites m o.site ≡ true
Touches mods m (Enters to arguments) = IsPart mods to m
Touches mods m (Leaves src) = Unit {0}

reads_touch : (mods : ModSets) (m : ℕ) (dst : Reg) (kind : Elem) (v : RegValue) (c : Change) → ReadsElement dst kind v c → Touches mods m c
reads_touch mods m dst RefElem v c e = subst (Touches mods m) (sym e) tt
reads_touch mods m dst IntElem v c e = subst (Touches mods m) (sym e.2) tt
reads_touch mods m dst ByteElem v c e = subst (Touches mods m) (sym e.2) tt
reads_touch mods m dst CharElem v c e = subst (Touches mods m) (sym e.2) tt
reads_touch mods m dst ShortElem v c e = subst (Touches mods m) (sym e.2) tt

-- one clause a statement; that a Call and an Init wait for what they enter comes from the invariant
pub touches : (h : List ClassInfo) (p : RegProgram) (t : FactSets) (mods : ModSets) (s : RegState) (regs : ℕ → RegValue) (m n : ℕ) (stmt : Stmt) (c : Change) → Sums h t mods m n stmt
    → ((to : ℕ) (arguments : List RegValue) → c ≡ Enters to arguments → Waits h p t n stmt to) → Effect h p s regs stmt c → Touches mods m c
touches h p t mods s regs m n Nop c sums waits e = subst (Touches mods m) (sym e) tt
touches h p t mods s regs m n (Const dst k) c sums waits e = subst (Touches mods m) (sym e) tt
touches h p t mods s regs m n (Null dst) c sums waits e = subst (Touches mods m) (sym e) tt
touches h p t mods s regs m n (Str dst site) c sums waits e = subst (Touches mods m) (sym e) tt
touches h p t mods s regs m n (Copy pairs) c sums waits e = subst (Touches mods m) (sym e) tt
touches h p t mods s regs m n (Arith dst op a b) c sums waits e = subst (Touches mods m) (sym e.6) tt
touches h p t mods s regs m n (Neg dst a) c sums waits e = subst (Touches mods m) (sym e.2) tt
touches h p t mods s regs m n (AddConst dst a k) c sums waits e = subst (Touches mods m) (sym e.2) tt
touches h p t mods s regs m n (Narrow dst op a) c sums waits e = subst (Touches mods m) (sym e.2) tt
touches h p t mods s regs m n (AnyInt dst) c sums waits e = subst (Touches mods m) (sym e.2) tt
touches h p t mods s regs m n (Assume condition) c sums waits e = subst (Touches mods m) (sym e.1) tt
touches h p t mods s regs m n (GetStatic dst f) c sums waits e = subst (Touches mods m) (sym e) tt
touches h p t mods s regs m n (PutStatic f src) c sums waits e = subst (Touches mods m) (sym e) sums
touches h p t mods s regs m n (GetField dst base f) c sums waits e = subst (Touches mods m) (sym e.3) tt
touches h p t mods s regs m n (PutField base f src) c sums waits e = subst (Touches mods m) (sym e.3) sums
touches h p t mods s regs m n (GetElem dst array kind) c sums waits e = reads_touch mods m dst kind e.0.value c e.1
touches h p t mods s regs m n (PutElem array src) c sums waits e = subst (Touches mods m) (sym e.2) sums
touches h p t mods s regs m n (Length dst array) c sums waits e = subst (Touches mods m) (sym e.3) tt
touches h p t mods s regs m n (New dst site) c sums waits e = subst (Touches mods m) (sym e.2) sums
touches h p t mods s regs m n (NewArray dst site count) c sums waits e = subst (Touches mods m) (sym e.2) sums
touches h p t mods s regs m n (Cast dst src text) c sums waits e = subst (Touches mods m) (sym e.1) tt
touches h p t mods s regs m n (InstanceOf dst src text) c sums waits e = subst (Touches mods m) (sym e) tt
touches h p t mods s regs m n (Call dst Virtual k args) c sums waits e = subst (Touches mods m) (sym e.change) (sums e.to (waits e.to _ e.change).0)
touches h p t mods s regs m n (Call dst (Special j) k args) c sums waits e = subst (Touches mods m) (sym e.change) (sums e.to (waits e.to _ e.change).0)
touches h p t mods s regs m n (Call dst Static k args) c sums waits e = subst (Touches mods m) (sym e.2) (sums e.0 (waits e.0 _ e.2).0)
touches h p t mods s regs m n (Init k) c sums waits e =
    elim e [ inl passes ↦ subst (Touches mods m) (sym passes) tt | inr calls ↦ subst (Touches mods m) (sym calls.2) (sums calls.0 calls.1) ]
touches h p t mods s regs m n (Return src) c sums waits e = subst (Touches mods m) (sym e) tt
touches h p t mods s regs m n (Pick dst k) c sums waits e = subst (Touches mods m) (sym e.5) tt
touches h p t mods s regs m n (NonNull src) c sums waits e = subst (Touches mods m) (sym e.2) tt
touches h p t mods s regs m n Halt c sums waits e = absurd e

-- ---- states that differ by what is touched

same_contents : (mods : ModSets) (m : ℕ) (b : Contents) → SameContents mods m b b
same_contents mods m b = record { fields = λ f e. refl; elements = λ e k. refl; length = refl }

kept_object : (mods : ModSets) (m : ℕ) (o : RegObject) (a : ℕ) (u : RegState) → slice_get u.heap a ≡ Some o → IsKept mods m o a u
kept_object mods m o a u e = record { now = o; stands = e; site = refl; contents = same_contents mods m o.contents }

get_in : (heap more : List RegObject) (a : ℕ) (o : RegObject) → more ≡ heap → slice_get heap a ≡ Some o → slice_get more a ≡ Some o
get_in heap more a o same e = ap (λ (l : List RegObject). slice_get l a) same ∙ e

none_made : (mods : ModSets) (m : ℕ) (heap : List RegObject) (a : ℕ) (o : RegObject) → slice_get heap a ≡ Some o → slice_get heap a ≡ None → mods.sites m o.site ≡ true
none_made mods m heap a o some none = let both = sym none ∙ some in absurd cc

-- heap and static fields are as before
pub same_data : (mods : ModSets) (m : ℕ) (s u : RegState) → u.heap ≡ s.heap → ((f : ℕ) → u.statics f ≡ s.statics f) → IsUnchanged mods m s u
same_data mods m s u heap statics = record {
  statics = λ f e. statics f;
  objects = λ a o e. kept_object mods m o a u (get_in s.heap u.heap a o heap e);
  made = λ a o e none. none_made mods m s.heap a o (get_in u.heap s.heap a o (sym heap) e) none;
}

field_touched : (mods : ModSets) (m g : ℕ) (v : RegValue) (b : Contents) → mods.fields m g ≡ true → SameContents mods m b (with_field g v b)
field_touched mods m g v (Instance fields) is = record {
  fields = λ f e. kept_number f g (Some v) (fields f) (f == g) refl (λ same. not_both (mods.fields m f) (ap (mods.fields m) same ∙ is) e);
  elements = λ e k. refl;
  length = refl;
}
field_touched mods m g v (Array elements) is = same_contents mods m (Array elements)

element_touched : (mods : ModSets) (m k : ℕ) (v : RegValue) (b : Contents) → mods.elements m ≡ true → SameContents mods m b (with_element k v b)
element_touched mods m k v (Instance fields) is = same_contents mods m (Instance fields)
element_touched mods m k v (Array elements) is = record {
  fields = λ f e. refl;
  elements = λ e j. absurd (not_both (mods.elements m) is e);
  length = ap (λ (n : ℕ). let some : Option ℕ = Some n in some) (length_set elements k v);
}

changed_get : (heap : List RegObject) (b : ℕ) (g : Contents → Contents) (a : ℕ) (o : RegObject) → slice_get heap a ≡ Some o
    → (slice_get (changed_at b g heap) a ≡ Some o) ⊎ (slice_get (changed_at b g heap) a ≡ Some (with_contents o g))
changed_get [] b g a o e = absurd cc
changed_get (x ∷ heap) zero g zero o e = inr (ap (λ (y : RegObject). let some : Option RegObject = Some (with_contents y g) in some) (some_is x o e))
changed_get (x ∷ heap) zero g (suc a) o e = inl e
changed_get (x ∷ heap) (suc b) g zero o e = inl e
changed_get (x ∷ heap) (suc b) g (suc a) o e = changed_get heap b g a o e

heap_changed : (mods : ModSets) (m : ℕ) (s u : RegState) (b : ℕ) (g : Contents → Contents) → u.heap ≡ changed_at b g s.heap → ((f : ℕ) → u.statics f ≡ s.statics f) → ((x : Contents) → SameContents mods m x (g x)) → IsUnchanged mods m s u
heap_changed mods m s u b g heap statics same = record {
  statics = λ f e. statics f;
  objects = λ a o e. elim (changed_get s.heap b g a o e) [
    | inl old ↦ kept_object mods m o a u (get_in (changed_at b g s.heap) u.heap a o heap old)
    | inr new ↦ record { now = with_contents o g; stands = get_in (changed_at b g s.heap) u.heap a (with_contents o g) heap new; site = refl; contents = same o.contents }
  ];
  made = λ a o e none. elim (changed_cases s.heap b g a o (get_in u.heap (changed_at b g s.heap) a o (sym heap) e)) [
    | inl old ↦ none_made mods m s.heap a o old none
    | inr new ↦ (let both = sym none ∙ ap (slice_get s.heap) new.2 ∙ new.1 in absurd cc)
  ];
}

object_made : (mods : ModSets) (m : ℕ) (s u : RegState) (o : RegObject) → u.heap ≡ s.heap ++ o ∷ [] → ((f : ℕ) → u.statics f ≡ s.statics f) → mods.sites m o.site ≡ true → IsUnchanged mods m s u
object_made mods m s u o heap statics is = record {
  statics = λ f e. statics f;
  objects = λ a w e. kept_object mods m w a u (get_in (s.heap ++ o ∷ []) u.heap a w heap (get_more s.heap o a w e));
  made = λ a w e none. elim (grown_cases s.heap o a w (get_in u.heap (s.heap ++ o ∷ []) a w (sym heap) e)) [
    | inl old ↦ none_made mods m s.heap a w old none
    | inr new ↦ subst (λ (x : RegObject). mods.sites m x.site ≡ true) new.0 is
  ];
}

resume_same : (mods : ModSets) (m : ℕ) (s u : RegState) (v : Option RegValue) (g : RegFrame) (below : List RegFrame) (node : Node) (stmt : Stmt) → Resumes s v g below node stmt u → IsUnchanged mods m s u
resume_same mods m s u v g below node (Call dst kind k args) step = same_data mods m s u (ap (λ (x : RegState). x.heap) step.after) (λ f. ap (λ (x : RegState). x.statics f) step.after)
resume_same mods m s u v g below node (Init k) step = same_data mods m s u (ap (λ (x : RegState). x.heap) step) (λ f. ap (λ (x : RegState). x.statics f) step)
resume_same mods m s u v g below node stmt step = absurd step

return_same : (p : RegProgram) (mods : ModSets) (m : ℕ) (s u : RegState) (f : RegFrame) (below : List RegFrame) (v : Option RegValue) → Returns p s f below v u → IsUnchanged mods m s u
return_same p mods m s u f [] v step = same_data mods m s u (ap (λ (x : RegState). x.heap) step) (λ k. ap (λ (x : RegState). x.statics k) step)
return_same p mods m s u f (g ∷ below) v step = resume_same mods m s u v g below step.0 step.0.stmt step.2

-- one clause a kind of change
pub step_unchanged : (p : RegProgram) (mods : ModSets) (m : ℕ) (s u : RegState) (f : RegFrame) (below : List RegFrame) (node : Node) (c : Change) → Touches mods m c → Happens p s f below node c u → IsUnchanged mods m s u
step_unchanged p mods m s u f below node (Sets ws) touch step = same_data mods m s u (ap (λ (x : RegState). x.heap) step.after) (λ k. ap (λ (x : RegState). x.statics k) step.after)
step_unchanged p mods m s u f below node (SetsStatic g v) touch step = record {
  statics = λ k e. ap (λ (x : RegState). x.statics k) step.after ∙ kept_number k g v (s.statics k) (k == g) refl (λ same. not_both (mods.statics m k) (ap (mods.statics m) same ∙ touch) e);
  objects = λ a o e. kept_object mods m o a u (ap (λ (x : RegState). slice_get x.heap a) step.after ∙ e);
  made = λ a o e none. none_made mods m s.heap a o (ap (λ (x : RegState). slice_get x.heap a) (sym step.after) ∙ e) none;
}
step_unchanged p mods m s u f below node (SetsField a g v) touch step =
    heap_changed mods m s u a (with_field g v) (ap (λ (x : RegState). x.heap) step.after) (λ k. ap (λ (x : RegState). x.statics k) step.after) (λ b. field_touched mods m g v b touch)
step_unchanged p mods m s u f below node (SetsElement a k v) touch step =
    heap_changed mods m s u a (with_element k v) (ap (λ (x : RegState). x.heap) step.after) (λ j. ap (λ (x : RegState). x.statics j) step.after) (λ b. element_touched mods m k v b touch)
step_unchanged p mods m s u f below node (Makes dst o) touch step = object_made mods m s u o (ap (λ (x : RegState). x.heap) step.after) (λ k. ap (λ (x : RegState). x.statics k) step.after) touch
step_unchanged p mods m s u f below node (Enters to arguments) touch step = same_data mods m s u (ap (λ (x : RegState). x.heap) step.after) (λ k. ap (λ (x : RegState). x.statics k) step.after)
step_unchanged p mods m s u f below node (Leaves src) touch step = return_same p mods m s u f below (option_map f.regs src) step

-- ---- more steps

outside : (xs ys : ℕ → Bool) (a : ℕ) → IsWithin xs ys → ys a ≡ false → xs a ≡ false
outside xs ys a within out = by_value (xs a) refl
  where
    by_value : (b : Bool) → xs a ≡ b → xs a ≡ false
    by_value true is = absurd (not_both (ys a) (within a is) out)
    by_value false is = is

outside_one : (b c : Bool) → (b ≡ true → c ≡ true) → c ≡ false → b ≡ false
outside_one true c more out = absurd (not_both c (more refl) out)
outside_one false c more out = refl

-- what is within a summary is within a wider one
pub widened : (mods : ModSets) (m k : ℕ) (s u : RegState) → IsPart mods m k → IsUnchanged mods m s u → IsUnchanged mods k s u
widened mods m k s u part same = record {
  statics = λ f e. same.statics f (outside (mods.statics m) (mods.statics k) f part.statics e);
  objects = λ a o e. let n = same.objects a o e in record {
    now = n.now;
    stands = n.stands;
    site = n.site;
    contents = record {
      fields = λ f out. n.contents.fields f (outside (mods.fields m) (mods.fields k) f part.fields out);
      elements = λ out. n.contents.elements (outside_one (mods.elements m) (mods.elements k) part.elements out);
      length = n.contents.length;
    };
  };
  made = λ a o e none. part.sites o.site (same.made a o e none);
}

made_by : (mods : ModSets) (m : ℕ) (s u v : RegState) (a : ℕ) (n : RegObject) (o : Option RegObject) → slice_get u.heap a ≡ o → IsUnchanged mods m s u → IsUnchanged mods m u v → slice_get v.heap a ≡ Some n → slice_get s.heap a ≡ None → mods.sites m n.site ≡ true
made_by mods m s u v a n None is first second e none = second.made a n e is
made_by mods m s u v a n (Some k) is first second e none =
    let now = second.objects a k is in
    let same : now.now ≡ n = same_found (slice_get v.heap a) now.now n now.stands e in
    subst (λ (x : ℕ). mods.sites m x ≡ true) (sym now.site ∙ ap (λ (x : RegObject). x.site) same) (first.made a k is none)

pub joined : (mods : ModSets) (m : ℕ) (s u v : RegState) → IsUnchanged mods m s u → IsUnchanged mods m u v → IsUnchanged mods m s v
joined mods m s u v first second = record {
  statics = λ f e. second.statics f e ∙ first.statics f e;
  objects = λ a o e. let n = first.objects a o e in let w = second.objects a n.now n.stands in record {
    now = w.now;
    stands = w.stands;
    site = w.site ∙ n.site;
    contents = record {
      fields = λ f out. w.contents.fields f out ∙ n.contents.fields f out;
      elements = λ out k. w.contents.elements out k ∙ n.contents.elements out k;
      length = w.contents.length ∙ n.contents.length;
    };
  };
  made = λ a n e none. made_by mods m s u v a n (slice_get u.heap a) refl first second e none;
}
