use Rattle.std.proofs.Common.{◌≡◌, ◌∙◌, ap}
use Rattle.std.specs.Prelude.{is_some}
use Rattle.th_syntax.specs.ClassBytes.{Pool}
use Rattle.th_syntax.specs.PoolChecks.{tagged_member_of}
use Rattle.th_pool.specs.PoolView.{slots_view}
use Rattle.th_syntax.proofs.Referring.{member_there}
use Rattle.th_pool.proofs.Sound.{is_some-member}
use Rattle.th_pool.proofs.pool.Pool.member.Goals as goal

pub returns-clause-there : goal.returns-clause-there
returns-clause-there c =
    let pool_is : slots_view c.as_slice.result.now ≡ c.args.self.now = ap slots_view c.as_slice.ensures.value ∙ c.self.view_is in
    is_some-member c.member_of.result ∙ ap is_some c.member_of.ensures ∙ ap (λ (p : Pool). is_some (tagged_member_of p c.args.index)) pool_is ∙ member_there c.args.self.now c.args.index c.requires
