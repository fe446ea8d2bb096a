use Rattle.std.proofs.Common.{◌≡◌, List, length, Some, slice_get, refl, ap, sym, subst, arith}
use Rattle.std.proofs.lemmas.Option.{slice_get_read}
use Rattle.th_ir.specs.declared.program.Site.{Site}
use Rattle.th_points_to.specs.Storing.{IsMade}
use Rattle.th_points_to.proofs.StoringLemmas.{are_filters, no_numbers, numbers_next}
use Rattle.th_points_to.proofs.filters.filters_of.Goals as goal

pub loop-site-init : goal.loop-site-init
loop-site-init c = record {
  made = subst (λ (l : List Site). IsMade c.args.hierarchy.now l c.in_ok-filters.filters) c.as_slice-sites.ensures (c.in_ok-filters.ensures c.args.hierarchy.now);
  numbers = rw c.new-numbers.ensures.items (no_numbers c.in_ok-filters.filters c.args.program.now.sites);
}

pub filter_at-requires-clause-few : goal.filter_at-requires-clause-few
filter_at-requires-clause-few c = omega (arith, ap length c.as_slice-sites.ensures, c.requires)

pub filter_at-requires-clause-made : goal.filter_at-requires-clause-made
filter_at-requires-clause-made c = subst (λ (l : List Site). IsMade c.args.hierarchy.now l c.loop-site.filters) (sym c.as_slice-sites.ensures) c.loop-site.invariant.made

pub loop-site-preserved : goal.loop-site-preserved
loop-site-preserved c =
    let h = c.args.hierarchy.now in
    let sites = c.args.program.now.sites in
    let i = c.loop-site.site-index in
    let site : Site = c.site-item.result in
    let at : slice_get sites i ≡ Some site = subst (λ (l : List Site). slice_get l i ≡ Some site) c.as_slice-sites.ensures
    (slice_get_read c.as_slice-sites.result.now _ i site refl c.loop-site-test.true c.site-item.is) in
    record {
      made = subst (λ (l : List Site). IsMade h l c.filter_at.new.filters) c.as_slice-sites.ensures c.in_ok-number.ensures.made;
      numbers = numbers_next h c.loop-site.filters c.filter_at.new.filters sites i c.in_ok-number.number site c.loop-site.numbers.items c.push.new.self.items c.in_ok-push.ensures.items
          c.in_ok-number.ensures.keeps c.loop-site.invariant.numbers at c.in_ok-number.ensures.number;
    }

pub returns-clause-filters : goal.returns-clause-filters
returns-clause-filters c =
    are_filters c.args.hierarchy.now c.args.program.now c.loop-site.filters c.loop-site.site-index c.loop-site.numbers.items
    (omega (arith, c.loop-site-test.false, ap length c.as_slice-sites.ensures)) (omega (arith, ap length c.as_slice-sites.ensures)) c.loop-site.invariant.made c.loop-site.invariant.numbers

pub returns-clause-some : goal.returns-clause-some
returns-clause-some c = omega (arith, c.loop-site.invariant.made.len)

pub returns-clause-every : goal.returns-clause-every
returns-clause-every c = c.loop-site.invariant.made.every
