use Rattle.std.proofs.Common.{◌≡◌, ◌++◌, map, filter, take}
use Rattle.th_ir.specs.FactSets.{sets_of}
use Rattle.th_ir.specs.WellFormed.{AreNumbered}
use Rattle.th_graph.specs.Stores.{store_at, stores_test}
use Rattle.th_graph.proofs.store_index.add_stores.Given as goal

abbrev pub invariant-loop-node : goal.invariant-loop-node
invariant-loop-node l = AreNumbered l.plan.hierarchy → l.list.items
    ≡ l.fn.list.items ++ map store_at (filter (λ n. stores_test l.plan.hierarchy l.plan.program (sets_of l.plan.facts) n l.edge) (take l.node-index l.row))
