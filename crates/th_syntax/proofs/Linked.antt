-- Linked class files: one first refusal at most, and what their reachable instructions name stands.
use Rattle.std.proofs.Common.{◌≡◌, ℕ, List, [], None, Some, sym, ap, subst, ◌∙◌}
use Rattle.std.specs.Prelude.{slice_get}
use Rattle.th_base.specs.Cycles.{IsFirstCycle}
use Rattle.th_syntax.specs.declared.class_file.ClassFile.{ClassFile}
use Rattle.th_syntax.specs.declared.refusal.Refusal.{Refusal}
use Rattle.th_syntax.specs.LinkChecks.{cycle_refusal}
use Rattle.th_syntax.specs.Linking.{AreOrdered, IsLinked, IsFirstRefusal, by_name, by_supertype, by_cycle, by_member, by_use, by_methods}
use Rattle.th_syntax.specs.Program.{hierarchy_of}
use Rattle.th_syntax.proofs.Inverting.{some_is}

-- ---- one first refusal

-- a pass that finds nothing has no first refusal
nothing_first : (found : List Refusal) (r : Refusal) → found ≡ [] → slice_get found 0 ≡ Some r → ⊥
nothing_first found r none first = absurd (let e : slice_get found 0 ≡ None = ap (λ xs. slice_get xs 0) none in cc)

first_is_one : (found : List Refusal) (r s : Refusal) → slice_get found 0 ≡ Some r → slice_get found 0 ≡ Some s → r ≡ s
first_is_one found r s one other = some_is r s (sym one ∙ other)

no_cycle : (files : List ClassFile) (c s : ℕ) → AreOrdered files → IsFirstCycle (hierarchy_of files) c s → ⊥
no_cycle files c s o cycle = o.acyclic.not_above_itself c cycle.on_cycle

-- what a refusal of each kind says that none of an earlier kind is there
module _ (files : List ClassFile) where
  named_cycle : ((c d s t : ℕ) → IsFirstCycle (hierarchy_of files) c s → IsFirstCycle (hierarchy_of files) d t → c ≡ d)
      → ((c s t : ℕ) → IsFirstCycle (hierarchy_of files) c s → IsFirstCycle (hierarchy_of files) c t → s ≡ t)
      → (c d s t : ℕ) → IsFirstCycle (hierarchy_of files) c s → IsFirstCycle (hierarchy_of files) d t → cycle_refusal files c s ≡ cycle_refusal files d t
  named_cycle class supertype c d s t one other =
      let same : c ≡ d = class c d s t one other in
      let moved : IsFirstCycle (hierarchy_of files) d s = subst (λ e. IsFirstCycle (hierarchy_of files) e s) same one in
      let above : s ≡ t = supertype d s t moved other in
      ap (λ e. cycle_refusal files e s) same ∙ ap (cycle_refusal files d) above

  -- the first refusals, where the kind of the first isn't behind that of the second
  in_order : ((c d s t : ℕ) → IsFirstCycle (hierarchy_of files) c s → IsFirstCycle (hierarchy_of files) d t → cycle_refusal files c s ≡ cycle_refusal files d t)
      → (r q : Refusal) → IsFirstRefusal files r → IsFirstRefusal files q → r ≡ q
  in_order cycles r q (by_name e) (by_name f) = first_is_one _ r q e f
  in_order cycles r q (by_name e) (by_supertype n f) = absurd (nothing_first _ r n e)
  in_order cycles r q (by_name e) (by_cycle n m c s f g) = absurd (nothing_first _ r n e)
  in_order cycles r q (by_name e) (by_member o f) = absurd (nothing_first _ r o.names e)
  in_order cycles r q (by_name e) (by_use o m f) = absurd (nothing_first _ r o.names e)
  in_order cycles r q (by_name e) (by_methods o m u k f) = absurd (nothing_first _ r o.names e)
  in_order cycles r q (by_supertype n e) (by_name f) = absurd (nothing_first _ q n f)
  in_order cycles r q (by_supertype n e) (by_supertype m f) = first_is_one _ r q e f
  in_order cycles r q (by_supertype n e) (by_cycle m p c s f g) = absurd (nothing_first _ r p e)
  in_order cycles r q (by_supertype n e) (by_member o f) = absurd (nothing_first _ r o.supertypes e)
  in_order cycles r q (by_supertype n e) (by_use o m f) = absurd (nothing_first _ r o.supertypes e)
  in_order cycles r q (by_supertype n e) (by_methods o m u k f) = absurd (nothing_first _ r o.supertypes e)
  in_order cycles r q (by_cycle n m c s e g) (by_name f) = absurd (nothing_first _ q n f)
  in_order cycles r q (by_cycle n m c s e g) (by_supertype p f) = absurd (nothing_first _ q m f)
  in_order cycles r q (by_cycle n m c s e g) (by_cycle p k d t f h) = g ∙ cycles c d s t e f ∙ sym h
  in_order cycles r q (by_cycle n m c s e g) (by_member o f) = absurd (no_cycle files c s o e)
  in_order cycles r q (by_cycle n m c s e g) (by_use o p f) = absurd (no_cycle files c s o e)
  in_order cycles r q (by_cycle n m c s e g) (by_methods o p u k f) = absurd (no_cycle files c s o e)
  in_order cycles r q (by_member o e) (by_name f) = absurd (nothing_first _ q o.names f)
  in_order cycles r q (by_member o e) (by_supertype n f) = absurd (nothing_first _ q o.supertypes f)
  in_order cycles r q (by_member o e) (by_cycle n m c s f g) = absurd (no_cycle files c s o f)
  in_order cycles r q (by_member o e) (by_member p f) = first_is_one _ r q e f
  in_order cycles r q (by_member o e) (by_use p m f) = absurd (nothing_first _ r m e)
  in_order cycles r q (by_member o e) (by_methods p m u k f) = absurd (nothing_first _ r m e)
  in_order cycles r q (by_use o m e) (by_name f) = absurd (nothing_first _ q o.names f)
  in_order cycles r q (by_use o m e) (by_supertype n f) = absurd (nothing_first _ q o.supertypes f)
  in_order cycles r q (by_use o m e) (by_cycle n p c s f g) = absurd (no_cycle files c s o f)
  in_order cycles r q (by_use o m e) (by_member p f) = absurd (nothing_first _ q m f)
  in_order cycles r q (by_use o m e) (by_use p n f) = first_is_one _ r q e f
  in_order cycles r q (by_use o m e) (by_methods p n u k f) = absurd (nothing_first _ r u e)
  in_order cycles r q (by_methods o m u k e) (by_name f) = absurd (nothing_first _ q o.names f)
  in_order cycles r q (by_methods o m u k e) (by_supertype n f) = absurd (nothing_first _ q o.supertypes f)
  in_order cycles r q (by_methods o m u k e) (by_cycle n p c s f g) = absurd (no_cycle files c s o f)
  in_order cycles r q (by_methods o m u k e) (by_member p f) = absurd (nothing_first _ q m f)
  in_order cycles r q (by_methods o m u k e) (by_use p n f) = absurd (nothing_first _ q u f)
  in_order cycles r q (by_methods o m u k e) (by_methods p n v l f) = e ∙ sym f

  pub one_first : ((c d s t : ℕ) → IsFirstCycle (hierarchy_of files) c s → IsFirstCycle (hierarchy_of files) d t → c ≡ d)
      → ((c s t : ℕ) → IsFirstCycle (hierarchy_of files) c s → IsFirstCycle (hierarchy_of files) c t → s ≡ t)
      → (r q : Refusal) → IsFirstRefusal files r → IsFirstRefusal files q → r ≡ q
  one_first class supertype = in_order (named_cycle class supertype)

  pub linked_not_refused : (r : Refusal) → IsLinked files → IsFirstRefusal files r → ⊥
  linked_not_refused r l (by_name e) = nothing_first _ r l.ordered.names e
  linked_not_refused r l (by_supertype n e) = nothing_first _ r l.ordered.supertypes e
  linked_not_refused r l (by_cycle n m c s e g) = no_cycle files c s l.ordered e
  linked_not_refused r l (by_member o e) = nothing_first _ r l.members e
  linked_not_refused r l (by_use o m e) = nothing_first _ r l.uses e
  linked_not_refused r l (by_methods o m u k e) = let few = l.few in cc
