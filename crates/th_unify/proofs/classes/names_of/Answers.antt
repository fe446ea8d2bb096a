use Rattle.std.proofs.Common.{◌≡◌, ◌∙◌, subst, sym, ap, length}
use Rattle.std.proofs.lemmas.List.{with_items_is}
use Rattle.th_query.specs.Unified.{AreLeast}
use Rattle.th_query.proofs.Below.{length_upto}
use Rattle.th_unify.specs.Classes.{AreNamedBelow}
use Rattle.th_unify.proofs.Tables.{first_table}
use Rattle.th_unify.proofs.classes.names_of.Goals as goal

pub join_all-requires-clause-table : goal.join_all-requires-clause-table
join_all-requires-clause-table c = first_table c.args.query.now c.len.result c.as_mut_slice.result.now (c.as_mut_slice.ensures.value ∙ c.in_ok-names.ensures)

pub join_all-requires-clause-named : goal.join_all-requires-clause-named
join_all-requires-clause-named c =
    let long : length c.as_mut_slice.result.now ≡ length c.args.query.now.syms = ap length (c.as_mut_slice.ensures.value ∙ c.in_ok-names.ensures) ∙ length_upto c.len.result ∙ c.len.ensures in
    subst (AreNamedBelow c.args.query.now) (sym long) c.requires.named

pub join_all-requires-clause-count : goal.join_all-requires-clause-count
join_all-requires-clause-count c = ap length (c.as_mut_slice.ensures.value ∙ c.in_ok-names.ensures) ∙ length_upto c.len.result ∙ c.len.ensures

pub returns : goal.returns
returns c = subst (AreLeast c.args.query.now) (sym (with_items_is c.in_ok-names.names c.join_all.new.names (c.join_all.auto.names ∙ c.as_mut_slice.ensures.len))) c.join_all.ensures
