use Rattle.std.proofs.Common.{rules}
use Rattle.th_base.proofs.MemberPlaces.{sorted_index}
use Rattle.th_base.proofs.index.Index.new.Goals as goal

pub returns : goal.returns
returns c = sorted_index c.args.entries.items c.sort_by.new.self.items c.in_ok-sort_by.ensures.sorted c.in_ok-sort_by.ensures.stable (λ a r f' k. search rules)
