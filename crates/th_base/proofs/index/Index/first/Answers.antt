use Rattle.std.proofs.Common.{rules, find, sym, ap, subst, ◌∙◌}
use Rattle.std.specs.List.Sorted.{IsSortedByKey}
use Rattle.std.specs.Option.{option_map}
use Rattle.std.specs.Ordering.{is_eq}
use Rattle.std.proofs.lemmas.List.Sorted.{IsPartitionPoint-from_clause}
use Rattle.th_base.specs.declared.index.Entry.{Entry}
use Rattle.th_base.specs.MemberIndex.{is_of, key_cmp, key_of}
use Rattle.th_base.proofs.MemberPlaces.{is_below, below_first, search_found, search_missed, search_past}
use Rattle.th_base.proofs.index.Index.first.Goals as goal

pub returns-in_err-entry : goal.returns-in_err-entry
returns-in_err-entry c =
    let ys = c.as_slice-entries.result.now in
    let name = c.args.name.now in
    let descriptor = c.args.descriptor.now in
    let at = c.partition_point-at.result in
    let up : IsSortedByKey key_of key_cmp ys = subst (IsSortedByKey key_of key_cmp) (sym c.as_slice-entries.ensures.value) c.requires in
    let split = IsPartitionPoint-from_clause (is_below name descriptor) ys at c.partition_point-at.ensures.partitioned (below_first ys name descriptor up) (λ a r q k. search rules) in
    let whole = ap (λ l. option_map (λ (e : Entry). e.place) (find (is_of name descriptor) l)) c.as_slice-entries.ensures.value in
    c.from_residual.ensures ∙ sym (ap (option_map (λ (e : Entry). e.place)) (search_past ys name descriptor at up split c.in_err-entry.ensures.lookup.3)) ∙ whole

pub returns-then-is_eq : goal.returns-then-is_eq
returns-then-is_eq c =
    let ys = c.as_slice-entries.result.now in
    let name = c.args.name.now in
    let descriptor = c.args.descriptor.now in
    let at = c.partition_point-at.result in
    let up : IsSortedByKey key_of key_cmp ys = subst (IsSortedByKey key_of key_cmp) (sym c.as_slice-entries.ensures.value) c.requires in
    let split = IsPartitionPoint-from_clause (is_below name descriptor) ys at c.partition_point-at.ensures.partitioned (below_first ys name descriptor up) (λ a r q k. search rules) in
    let whole = ap (λ l. option_map (λ (e : Entry). e.place) (find (is_of name descriptor) l)) c.as_slice-entries.ensures.value in
    let e = c.in_ok-entry.entry.now in
    let same = ap (λ r. is_eq r) (sym c.compare.ensures) ∙ sym c.is_eq.ensures ∙ c.if-is_eq.true in
    sym (ap (option_map (λ (e : Entry). e.place)) (search_found ys name descriptor at up split e c.in_ok-entry.ensures.lookup.3.0 c.in_ok-entry.ensures.lookup.1 same)) ∙ whole

pub returns : goal.returns
returns c =
    let ys = c.as_slice-entries.result.now in
    let name = c.args.name.now in
    let descriptor = c.args.descriptor.now in
    let at = c.partition_point-at.result in
    let up : IsSortedByKey key_of key_cmp ys = subst (IsSortedByKey key_of key_cmp) (sym c.as_slice-entries.ensures.value) c.requires in
    let split = IsPartitionPoint-from_clause (is_below name descriptor) ys at c.partition_point-at.ensures.partitioned (below_first ys name descriptor up) (λ a r q k. search rules) in
    let whole = ap (λ l. option_map (λ (e : Entry). e.place) (find (is_of name descriptor) l)) c.as_slice-entries.ensures.value in
    let e = c.in_ok-entry.entry.now in
    let other = ap (λ r. is_eq r) (sym c.compare.ensures) ∙ sym c.is_eq.ensures ∙ c.if-is_eq.false in
    sym (ap (option_map (λ (e : Entry). e.place)) (search_missed ys name descriptor at up split e c.in_ok-entry.ensures.lookup.3.0 c.in_ok-entry.ensures.lookup.1 other)) ∙ whole
