use Rattle.std.proofs.Common.{[], List, Option, ℕ, sym, subst, length, replicate, None, ap, ◌∙◌}
use Rattle.th_paths.specs.declared.search.Step.{Step}
use Rattle.th_paths.specs.Search.{IsBegun}
use Rattle.th_paths.proofs.Stages.{begun_start}
use Rattle.th_paths.proofs.search.begin.Goals as goal

pub loop-k-init : goal.loop-k-init
loop-k-init c =
    let links = c.args.links.now in
    let edges = links.edges in
    subst (λ (s : List Step). IsBegun edges links.firsts.items c.args.field c.args.cut.now s c.in_ok-search.search.places.items 0) (sym c.in_ok-search.ensures.steps)
    (subst (λ (p : List (Option ℕ)). IsBegun edges links.firsts.items c.args.field c.args.cut.now [] p 0)
    (sym (c.in_ok-search.ensures.places ∙ ap (λ n. replicate n None) (ap (λ l. length l) c.as_slice-edges.ensures)))
    (begun_start edges links.firsts.items c.args.field c.args.cut.now))
