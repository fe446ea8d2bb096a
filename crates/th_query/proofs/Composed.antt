-- The six steps one after the other.
use Rattle.std.proofs.Common.{◌≡◌, ℕ, true, List, sym, subst}
use Rattle.th_base.specs.declared.class.ClassInfo.{ClassInfo}
use Rattle.th_linear.specs.Laws.{RenamingComposes, DivisionKeeps}
use Rattle.th_ir.specs.declared.program.RegProgram.{RegProgram}
use Rattle.th_ir.specs.Program.{Among}
use Rattle.th_ir.specs.FactSets.{FactSets}
use Rattle.th_ir.specs.Good.{IsGood}
use Rattle.th_ir.specs.Machine.{RegValue, RegState}
use Rattle.th_query.specs.declared.query.Query.{Query}
use Rattle.th_query.specs.Symbols.{is_named}
use Rattle.th_query.specs.Meets.{Meets, MeetsQuery}
use Rattle.th_query.specs.Settled.{pruned, settled, cut, limited}
use Rattle.th_query.specs.Numbered.{sorted_query}
use Rattle.th_query.specs.Canonical.{IsMadeCanonical}
use Rattle.th_query.specs.WellFormed.{IsQueryOf}
use Rattle.th_query.proofs.Formed.{are_there, are_facts}
use Rattle.th_query.proofs.Unifying.{unified_met}
use Rattle.th_query.proofs.Narrowing.{narrowed_met}
use Rattle.th_query.proofs.Settling.{pruned_met, pruned_named, settled_met, limited_met}
use Rattle.th_query.proofs.Numbering.{named_sorted, sorted_met, AreNumbers, renumbered, old_of, renumbered_met}
use Rattle.th_query.proofs.Possible.{Satisfies, numbered_satisfied}
use Rattle.th_query.proofs.Forming.{unified_formed, narrowed_formed, pruned_formed, settled_formed, cut_formed, sorted_formed, renumbered_formed}

-- the well-formed query that is numbered in the end
pub record IsBefore (h : List ClassInfo) (p : RegProgram) (t : FactSets) (q r before : Query) : Type 0 where
  pub is : r ≡ renumbered before
  pub formed : IsQueryOf h p t before
  pub named : (d : ℕ × ℕ) → Among before.diffs d → (is_named before d.0 ≡ true) × (is_named before d.1 ≡ true)
  pub met : (s : RegState) (v : ℕ → RegValue) → IsGood h p t s → Meets s q v → Meets s before v

pub before_numbering : (l : RenamingComposes) (d : DivisionKeeps) (h : List ClassInfo) (p : RegProgram) (t : FactSets) (q r : Query) → IsQueryOf h p t q → (c : IsMadeCanonical h p t q r)
    → IsBefore h p t q r (sorted_query (limited (settled (pruned c.narrowed))))
before_numbering l d h p t q r w c =
    let names = c.first.names in
    let sets = c.second.sets in
    let first : IsQueryOf h p t c.unified = subst (IsQueryOf h p t) (sym c.first.is) (unified_formed l h p t q names c.first.least w) in
    let second : IsQueryOf h p t c.narrowed = subst (IsQueryOf h p t) (sym c.second.is) (narrowed_formed h p t c.unified sets first) in
    let third = pruned_formed h p t c.narrowed second in
    let fourth = settled_formed d h p t (pruned c.narrowed) third in
    let fifth = pruned_formed h p t (cut (settled (pruned c.narrowed))) (cut_formed h p t (settled (pruned c.narrowed)) fourth) in
    let left = limited (settled (pruned c.narrowed)) in
    record {
      is = c.is;
      formed = sorted_formed h p t left fifth;
      named = λ e a.
          let n = pruned_named (cut (settled (pruned c.narrowed))) e a in
          (named_sorted left e.0 n.0, named_sorted left e.1 n.1);
      met = λ s v good m.
          let one : Meets s c.unified v = subst (λ x. Meets s x v) (sym c.first.is) (unified_met l s q names v (are_there h p t q w) (are_facts h p t q w) c.first.least m) in
          let two : Meets s c.narrowed v = subst (λ x. Meets s x v) (sym c.second.is) (narrowed_met h p t s c.unified sets v good (are_there h p t c.unified first) first.elements c.second.greatest one) in
          sorted_met s left v (limited_met s (settled (pruned c.narrowed)) v (settled_met d s (pruned c.narrowed) v (are_facts h p t (pruned c.narrowed) third) (pruned_met s c.narrowed v two)));
    }

pub canonical_met : (l : RenamingComposes) (d : DivisionKeeps) (h : List ClassInfo) (p : RegProgram) (t : FactSets) (s : RegState) (q r : Query) → IsGood h p t s → IsQueryOf h p t q → IsMadeCanonical h p t q r
    → MeetsQuery s q → MeetsQuery s r
canonical_met l d h p t s q r good w c (v, m) =
    let before = sorted_query (limited (settled (pruned c.narrowed))) in
    let b = before_numbering l d h p t q r w c in
    let numbers : AreNumbers before = λ f a u i. (b.formed.facts f a).numbers u i in (
      (λ n. v (old_of before n)),
      subst (λ x. Meets s x (λ n. v (old_of before n))) (sym b.is)
          (renumbered_met l s before v (are_there h p t before b.formed) (are_facts h p t before b.formed) numbers b.named (b.met s v good m)),
    )

pub canonical_formed : (l : RenamingComposes) (d : DivisionKeeps) (h : List ClassInfo) (p : RegProgram) (t : FactSets) (q r : Query) → IsQueryOf h p t q → IsMadeCanonical h p t q r → IsQueryOf h p t r
canonical_formed l d h p t q r w c =
    let b = before_numbering l d h p t q r w c in
    subst (IsQueryOf h p t) (sym b.is) (renumbered_formed l h p t (sorted_query (limited (settled (pruned c.narrowed)))) b.named b.formed)

-- what meets a canonical form satisfies it
pub canonical_satisfied : (l : RenamingComposes) (d : DivisionKeeps) (h : List ClassInfo) (p : RegProgram) (t : FactSets) (s : RegState) (q r : Query) (w : ℕ → RegValue) → IsQueryOf h p t q → IsMadeCanonical h p t q r → Meets s r w → Satisfies s.heap r w
canonical_satisfied l d h p t s q r w f c m =
    let before = sorted_query (limited (settled (pruned c.narrowed))) in
    let b = before_numbering l d h p t q r f c in
    subst (λ x. Satisfies s.heap x w) (sym b.is)
    (numbered_satisfied before s w (are_there h p t before b.formed) (are_facts h p t (renumbered before) (renumbered_formed l h p t before b.named b.formed)) b.named (subst (λ x. Meets s x w) b.is m))
