use Rattle.std.proofs.Common.{◌≡◌, ◌++◌, List, ℕ, map, filter, sym, ap, subst, ◌∙◌}
use Rattle.th_ir.specs.declared.graph.Producer.{Producer}
use Rattle.th_ir.specs.FactSets.{sets_of}
use Rattle.th_ir.specs.Graph.{AreProducers}
use Rattle.th_graph.specs.Stores.{stores_test, store_at, constants_at}
use Rattle.th_graph.proofs.Producing.{listed, listed_producers}
use Rattle.th_graph.proofs.store_index.StoreIndex.producers_of.Goals as goal

pub returns : goal.returns
returns c = λ numbered.
    let h = c.args.plan.now.hierarchy in
    let p = c.args.plan.now.program in
    let t = sets_of c.args.plan.now.facts in
    let e = c.args.edge in
    let index = c.args.self.now in
    let constants : List Producer = constants_at index p e in
    let all : c.from_vec.result ≡ listed h p t index e =
    c.from_vec.ensures ∙ c.in_ok-add_stores.ensures numbered
    ∙ ap (λ (l : List Producer). l ++ map store_at (filter (λ n. stores_test h p t n e) c.candidates.result.now)) (c.in_ok-add_constant.ensures ∙ ap (λ (l : List Producer). l ++ constants) c.new-list.ensures.items)
    ∙ ap (λ (r : List ℕ). constants ++ map store_at (filter (λ n. stores_test h p t n e) r)) c.candidates.ensures in
    subst (AreProducers h p t e) (sym all) (listed_producers h p t index e c.requires)
