-- The values that meet a query meet it without what goes in the steps 3, 4 and 5.
use Rattle.std.proofs.Common.{◌≡◌, ◌⊎◌, inl, inr, ℕ, ◌-◌, ◌++◌, Bool, true, false, cond, ℤ, List, [], ◌∷◌, length, map, refl, sym, ap, subst}
use Rattle.std.specs.Prelude.{◌&&◌}
use Rattle.std.proofs.lemmas.Bool.{and_parts}
use Rattle.th_base.specs.declared.number.Reg.{Reg}
use Rattle.th_linear.specs.Forms.{Form, Holds}
use Rattle.th_linear.specs.Normal.{HoldsNormal}
use Rattle.th_linear.specs.Divided.{normal_of}
use Rattle.th_linear.specs.Laws.{DivisionKeeps}
use Rattle.th_linear.specs.declared.division.NormalForm.{NormalForm}
use Rattle.th_linear.specs.declared.division.NormalForm.TheVariants.{True, False, Fact}
use Rattle.th_pure.specs.Elimination.{has_fact, put_after, without_repeats}
use Rattle.th_ir.specs.Program.{Among}
use Rattle.th_ir.specs.Machine.{RegValue, RegFrame, RegState}
use Rattle.th_query.specs.declared.query.TheConstants.{MOST_REGISTERS, MOST_STATICS, MOST_LINKS, MOST_DIFFERENCES, MOST_FACTS}
use Rattle.th_query.specs.declared.query.Frame.{Frame}
use Rattle.th_query.specs.declared.query.Link.{Link}
use Rattle.th_query.specs.declared.query.Query.{Query}
use Rattle.th_query.specs.Symbols.{cell_link, element_link, links, is_named}
use Rattle.th_query.specs.Meets.{number_of, MeetFrames, Meets}
use Rattle.th_query.specs.Settled.{pruned, settled_fact, settled_facts, one_difference, settled, cut_frames, cut, limited}
use Rattle.th_query.proofs.InLists.{In, in_from, in_to, in_either, among_map, among_unmap, among_left, among_right, among_either, among_filter, among_firsts, among_take}
use Rattle.th_query.proofs.Naming.{Names, by_register, by_static, by_base, by_value, names_of, register_named, static_named, base_named, value_named}
use Rattle.th_query.proofs.Formed.{AreFacts}

-- ---- step 3

pub pruned_met : (s : RegState) (q : Query) (v : ℕ → RegValue) → Meets s q v → Meets s (pruned q) v
pruned_met s q v m = record {
  idle = m.idle;
  frames = m.frames;
  statics = m.statics;
  links = m.links;
  named = m.named;
  numbers = m.numbers;
  diffs = λ d a. m.diffs d (among_filter (λ (d : ℕ × ℕ). is_named q d.0 && is_named q d.1) d q.diffs a).0;
  facts = m.facts;
}

-- the differences that are left are of named symbols
pub pruned_named : (q : Query) (d : ℕ × ℕ) → Among (pruned q).diffs d → (is_named q d.0 ≡ true) × (is_named q d.1 ≡ true)
pruned_named q d a = and_parts _ _ (among_filter (λ (d : ℕ × ℕ). is_named q d.0 && is_named q d.1) d q.diffs a).1

-- ---- step 4

in_put_after : (f : Form) (kept fs : List Form) → In f (put_after kept fs) → In f kept ⊎ In f fs
in_put_after f kept [] m = inl m
in_put_after f kept (g ∷ gs) m = go (has_fact g kept) m (λ more n. in_put_after f more gs n)
  where
    go : (b : Bool) → In f (put_after (cond b kept (kept ++ g ∷ [])) gs) → ((more : List Form) → In f (put_after more gs) → In f more ⊎ In f gs) → In f kept ⊎ In f (g ∷ gs)
    go true n h = elim (h kept n) [ inl l ↦ inl l | inr r ↦ inr (inr r) ]
    go false n h = elim (h (kept ++ g ∷ []) n) [
      | inl l ↦ elim (in_either f kept (g ∷ []) l) [ inl old ↦ inl old | inr new ↦ elim new [ inl e ↦ inr (inl e) | inr none ↦ absurd none ] ]
      | inr r ↦ inr (inr r)
    ]

pub among_without : (f : Form) (fs : List Form) → Among (without_repeats fs) f → Among fs f
among_without f fs m = elim (in_put_after f [] fs (in_from f (without_repeats fs) m)) [ inl none ↦ absurd none | inr r ↦ in_to f fs r ]

in_settled : (f : Form) (fs : List Form) → In f (settled_facts fs) → (g : Form) × In g fs × In f (settled_fact (normal_of g))
in_settled f [] m = absurd m
in_settled f (g ∷ gs) m = elim (in_either f (settled_fact (normal_of g)) (settled_facts gs) m) [
  | inl here ↦ (g, inl refl, here)
  | inr later ↦ let r = in_settled f gs later in (r.0, inr r.1, r.2)
]

-- a fact that is left is what is left of one of the facts
pub settled_from : (f : Form) (fs : List Form) → Among (without_repeats (settled_facts fs)) f → (g : Form) × Among fs g × In f (settled_fact (normal_of g))
settled_from f fs m = let r = in_settled f fs (in_from f (settled_facts fs) (among_without f (settled_facts fs) m)) in (r.0, in_to r.0 fs r.1, r.2)

settled_holds : (n : NormalForm) (f : Form) (s : ℕ → ℤ) → In f (settled_fact n) → HoldsNormal n s → Holds f s
settled_holds True f s m h = absurd m
settled_holds False f s m h = absurd h
settled_holds (Fact g) f s (inl e) h = subst (λ k. Holds k s) (sym e) h
settled_holds (Fact g) f s (inr none) h = absurd none

pub settled_met : (l : DivisionKeeps) (s : RegState) (q : Query) (v : ℕ → RegValue) → AreFacts q → Meets s q v → Meets s (settled q) v
settled_met l s q v facts m = record {
  idle = m.idle;
  frames = m.frames;
  statics = m.statics;
  links = m.links;
  named = m.named;
  numbers = m.numbers;
  diffs = λ d a. m.diffs d (among_firsts one_difference d q.diffs a);
  facts = λ f a.
      let g = settled_from f q.facts a in
      settled_holds (normal_of g.0) f (λ n. number_of (v n)) g.2 (((l g.0 (facts g.0 g.1)).1 (λ n. number_of (v n))).0 (m.facts g.0 g.1));
}

-- ---- step 5

in_cut_frames : (n : ℕ) (fs : List Frame) (f : Frame) → In f (cut_frames n fs) → (g : Frame) × In g fs × (f.node ≡ g.node) × ((x : Reg × ℕ) → Among f.regs x → Among g.regs x)
in_cut_frames n [] f m = absurd m
in_cut_frames n (g ∷ gs) f (inl e) = (g, inl refl, ap (λ (k : Frame). k.node) e, λ x a. among_take n g.regs x (subst (λ (k : Frame). Among k.regs x) e a))
in_cut_frames n (g ∷ gs) f (inr m) = let r = in_cut_frames (n - length g.regs) gs f m in (r.0, inr r.1, r.2, r.3)

pub cut_frame_from : (n : ℕ) (fs : List Frame) (f : Frame) → Among (cut_frames n fs) f → (g : Frame) × Among fs g × (f.node ≡ g.node) × ((x : Reg × ℕ) → Among f.regs x → Among g.regs x)
cut_frame_from n fs f m = let r = in_cut_frames n fs f (in_from f (cut_frames n fs) m) in (r.0, in_to r.0 fs r.1, r.2, r.3)

pub cut_link_from : (q : Query) (k : Link) → Among (links (cut q)) k → Among (links q) k
cut_link_from q k m = elim (among_either k (map cell_link (cut q).cells) (map element_link (cut q).elems) m) [
  | inl left ↦
      let c = among_unmap cell_link k (cut q).cells left in
      subst (λ j. Among (links q) j) (sym c.2) (among_left (cell_link c.0) _ _ (among_map cell_link c.0 q.cells (among_take MOST_LINKS q.cells c.0 c.1)))
  | inr right ↦
      let e = among_unmap element_link k (cut q).elems right in
      subst (λ j. Among (links q) j) (sym e.2) (among_right (element_link e.0) _ _ (among_map element_link e.0 q.elems (among_take (MOST_LINKS - length q.cells) q.elems e.0 e.1)))
]

pub cut_named : (q : Query) (n : ℕ) → is_named (cut q) n ≡ true → is_named q n ≡ true
cut_named q n h = go n (names_of (cut q) n h)
  where
    go : (n : ℕ) → Names (cut q) n → is_named q n ≡ true
    go _ (by_register f x a b) = let g = cut_frame_from MOST_REGISTERS q.frames f a in register_named q g.0 x g.1 (g.3 x b)
    go _ (by_static x a) = static_named q x (among_take MOST_STATICS q.statics x a)
    go _ (by_base k a) = base_named q k (cut_link_from q k a)
    go _ (by_value k a) = value_named q k (cut_link_from q k a)

frames_cut : (n : ℕ) (v : ℕ → RegValue) (ss : List RegFrame) (gs : List Frame) → MeetFrames v ss gs → MeetFrames v ss (cut_frames n gs)
frames_cut n v ss [] m = tt
frames_cut n v [] (g ∷ gs) m = absurd m
frames_cut n v (f ∷ fs) (g ∷ gs) m = (m.0, (λ x a. m.1 x (among_take n g.regs x a)), frames_cut (n - length g.regs) v fs gs m.2)

none_cut : (n : ℕ) (fs : List Frame) → cut_frames n fs ≡ [] → fs ≡ []
none_cut n [] e = refl
none_cut n (f ∷ fs) e = absurd cc

pub cut_met : (s : RegState) (q : Query) (v : ℕ → RegValue) → Meets s q v → Meets s (cut q) v
cut_met s q v m = record {
  idle = λ e. m.idle (none_cut MOST_REGISTERS q.frames e);
  frames = frames_cut MOST_REGISTERS v s.frames q.frames m.frames;
  statics = λ x a. m.statics x (among_take MOST_STATICS q.statics x a);
  links = λ k a. m.links k (cut_link_from q k a);
  named = λ n x h. m.named n x (cut_named q n h);
  numbers = m.numbers;
  diffs = λ d a h k. m.diffs d (among_take MOST_DIFFERENCES q.diffs d a) (cut_named q d.0 h) (cut_named q d.1 k);
  facts = λ f a. m.facts f (among_take MOST_FACTS q.facts f a);
}

pub limited_met : (s : RegState) (q : Query) (v : ℕ → RegValue) → Meets s q v → Meets s (limited q) v
limited_met s q v m = pruned_met s (cut q) v (cut_met s q v m)
