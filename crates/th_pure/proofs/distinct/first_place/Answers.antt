use Rattle.std.proofs.Common.{ltb, arith, rules, tests}
use Rattle.std.proofs.lemmas.Bool.{ltb-true, ltb-false}
use Rattle.std.proofs.lemmas.List.Sorted.{IsPartitionPoint-from_clause, IsPartitionedBy-ltb}
use Rattle.th_pure.specs.declared.distinct.Entry.{Entry}
use Rattle.th_pure.proofs.distinct.first_place.Goals as goal

pub returns-clause-below : goal.returns-clause-below
returns-clause-below c = λ j e lt.
    let split = IsPartitionPoint-from_clause (λ (u : Entry). ltb u.key c.args.key) c.args.entries.now c.partition_point.result c.partition_point.ensures.partitioned
    (IsPartitionedBy-ltb (λ (u : Entry). u.key) c.args.entries.now c.args.key c.requires) (λ a r q k. search (rules, tests)) in
    ltb-true _ c.args.key (split.0 j e (omega arith) lt)

pub returns-clause-above : goal.returns-clause-above
returns-clause-above c = λ j e le lt.
    let split = IsPartitionPoint-from_clause (λ (u : Entry). ltb u.key c.args.key) c.args.entries.now c.partition_point.result c.partition_point.ensures.partitioned
    (IsPartitionedBy-ltb (λ (u : Entry). u.key) c.args.entries.now c.args.key c.requires) (λ a r q k. search (rules, tests)) in
    ltb-false _ c.args.key (split.1 j e le lt)
