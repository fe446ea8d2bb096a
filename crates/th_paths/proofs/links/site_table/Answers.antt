use Rattle.std.proofs.Common.{◌∙◌, ap, eqb, Some, None, if◌then◌else◌}
use Rattle.std.specs.Option.{option_or}
use Rattle.th_paths.specs.Links.{first_in}
use Rattle.th_paths.proofs.Places.{no_edge}
use Rattle.th_paths.proofs.Tables.{site_more}
use Rattle.th_paths.proofs.links.site_table.Goals as goal

pub loop-number-preserved : goal.loop-number-preserved
loop-number-preserved c = λ x.
    site_more c.args.edges.now c.loop-number.number x no_edge (first_in c.loop-number.sites x) (first_in c.add_site.new.sites x) c.loop-number-test.true
    (c.loop-number.invariant x) (c.in_ok-add_site.ensures x ∙ ap (λ k. option_or (first_in c.loop-number.sites x) (if eqb k x then Some c.loop-number.number else None)) c.end_of.ensures)
