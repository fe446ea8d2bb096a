use Rattle.std.proofs.Common.{◌≡◌, ◌++◌, ◌∙◌, [], map, sym, ap, subst}
use Rattle.std.specs.Prelude.{OnOk}
use Rattle.std.specs.Option.{option_map_or}
use Rattle.th_syntax.specs.Flow.{reached_code}
use Rattle.th_coarse.proofs.reached.add_of_method.Goals as goal

pub returns-in-Some : goal.returns-in-Some
returns-in-Some c =
    subst (λ ys. OnOk c.add_of_code.result (map (λ i. i.now) c.add_of_code.new.instrs.items ≡ map (λ i. i.now) c.args.instrs.now.items ++ ys))
    (ap (λ is. map (λ i. i.1) (reached_code is)) c.as_slice.ensures ∙ sym (ap (λ o. option_map_or (λ code. map (λ i. i.1) (reached_code code.instrs)) o []) c.in-Some.is))
    c.add_of_code.ensures
