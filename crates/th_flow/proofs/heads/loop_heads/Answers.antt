use Rattle.std.proofs.Common.{◌≡◌, ◌∙◌, ℕ, List, true, sym, subst, ap}
use Rattle.std.specs.Prelude.{◌↔◌}
use Rattle.th_base.specs.IdSet.{has, IsAscending}
use Rattle.th_ir.specs.WellFormed.{places_from}
use Rattle.th_flow.specs.Flows.{IsMarked}
use Rattle.th_ir.specs.declared.program.RegProgram.{RegProgram}
use Rattle.th_flow.proofs.Rows.{places_ascend}
use Rattle.th_flow.proofs.Listed.{heads_are, marked_are}
use Rattle.th_flow.proofs.heads.loop_heads.Goals as goal

pub from_ascending-requires : goal.from_ascending-requires
from_ascending-requires c =
    subst (λ (l : List ℕ). IsAscending l) (sym c.in_ok-marked.ensures)
    (subst (λ l. IsAscending (places_from (λ n. n.loop_head) 0 l)) (sym c.as_slice.ensures) (places_ascend (λ n. n.loop_head) 0 c.args.program.now.nodes))

marked : (l : List ℕ) (p : RegProgram) → l ≡ places_from (λ n. n.loop_head) 0 p.nodes → (n : ℕ) → (has l n ≡ true) ↔ IsMarked p n
marked l p is n = subst (λ (x : List ℕ). (has x n ≡ true) ↔ IsMarked p n) (sym is) (marked_are p n)

pub returns : goal.returns
returns c =
    let is = c.from_ascending.ensures ∙ c.in_ok-marked.ensures ∙ ap (λ l. places_from (λ n. n.loop_head) 0 l) c.as_slice.ensures in
    let all = marked c.from_ascending.result c.args.program.now is in
    record {
      marked = all;
      heads = λ marks n.
          let same = heads_are c.args.program.now n marks in
          let one = all n in
          (λ e. same.0 (one.0 e), λ head. one.1 (same.1 head));
    }
