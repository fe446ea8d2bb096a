use Rattle.std.proofs.Common.{◌≡◌, ◌++◌, map, subst}
use Rattle.std.specs.Prelude.{OnOk}
use Rattle.std.proofs.lemmas.List.Elements.{filter_agree}
use Rattle.th_base.specs.IdSet.{has}
use Rattle.th_syntax.specs.Flow.{reached_offsets}
use Rattle.th_coarse.proofs.reached.add_of_code.Goals as goal

pub returns : goal.returns
returns c =
    subst (λ xs. OnOk c.add_reached.result (map (λ i. i.now) c.add_reached.new.instrs.items ≡ map (λ i. i.now) c.args.instrs.now.items ++ map (λ i. i.1) xs))
    (filter_agree (λ i. has c.in_ok-reached.reached i.0) (λ i. has (reached_offsets c.args.code.now) i.0) (λ i. c.in_ok-reached.ensures i.0) c.args.code.now)
    c.add_reached.ensures
