use Rattle.std.proofs.Common.{◌∙◌, [], ap}
use Rattle.std.specs.List.{filter}
use Rattle.th_narrow.specs.Put.{put_at}
use Rattle.th_narrow.specs.Rounds.{owns}
use Rattle.th_narrow.proofs.Members.{put_filtered, put_twice}
use Rattle.th_narrow.proofs.narrowing.keep_owned.Goals as goal

pub returns : goal.returns
returns c numbers =
    let p = owns c.args.plan.now.hierarchy c.args.plan.now.program c.args.slot in
    let xs = c.args.syms.now in
    let s = c.args.symbol in
    c.put_sites.ensures ∙ ap (put_at s c.owned-kept.result) c.in_ok-sites.ensures.rest ∙ put_twice s c.owned-kept.result [] xs
    ∙ ap (λ ys. put_at s ys xs) (c.owned-kept.ensures numbers ∙ ap (filter p) c.in_ok-sites.ensures.sites) ∙ put_filtered s p xs
