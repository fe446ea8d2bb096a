use Rattle.std.proofs.Common.{◌+◌, ℕ, List, sym, ap, subst, ◌∙◌}
use Rattle.th_base.specs.IdSet.{has, IsAscending}
use Rattle.th_incl.specs.Least.{set_at}
use Rattle.th_points_to.specs.Listing.{AreListedCalls, AreListedCells}
use Rattle.th_points_to.proofs.listing.list.Goals as goal

pub parts_of-requires-clause-laid : goal.parts_of-requires-clause-laid
parts_of-requires-clause-laid c = c.requires.laid

pub parts_of-requires-clause-least : goal.parts_of-requires-clause-least
parts_of-requires-clause-least c = c.requires.least

pub parts_of-requires-clause-few : goal.parts_of-requires-clause-few
parts_of-requires-clause-few c = c.requires.few

pub returns : goal.returns
returns c =
    let l = c.args.layout in
    let g = c.args.found in
    let parts = c.in_ok-parts.ensures in
    let facts = c.facts_of.ensures in
    record {
      regs = facts.regs ∙ parts.regs;
      statics = facts.statics ∙ parts.statics;
      elems = facts.elems ∙ parts.elems;
      cells = subst (AreListedCells g.cells.keys (λ place. set_at g.solver.sets (l.first_cell + place))) (sym facts.cells) parts.cells;
      calls = subst (AreListedCalls g.calls.keys) (sym facts.calls) c.in_ok-calls.ensures;
      reached = λ x. ap (λ (s : List ℕ). has s x) facts.reached ∙ c.in_ok-reached.ensures.same x;
      reached_ascends = subst IsAscending (sym facts.reached) c.in_ok-reached.ensures.ascends;
    }
