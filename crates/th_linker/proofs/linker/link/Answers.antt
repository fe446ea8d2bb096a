use Rattle.std.proofs.Common.{◌≡◌, true, false, sym, subst, ap, ◌∙◌}
use Rattle.std.specs.Prelude.{[]}
use Rattle.std.proofs.lemmas.Result.{err_from_is_err_and}
use Rattle.th_syntax.specs.LinkChecks.{member_refusals, use_refusals, are_few}
use Rattle.th_syntax.specs.Linking.{by_methods}
use Rattle.th_linker.specs.Checking.{Refuses}
use Rattle.th_linker.proofs.Numbers.{numbers_fit}
use Rattle.th_linker.proofs.Ordered.{members_refuse, uses_refuse}
use Rattle.th_linker.proofs.linker.link.Goals as goal

pub ordered-requires : goal.ordered-requires
ordered-requires c = numbers_fit c.args.files.items c.requires

pub returns-in_err-check_members-clause-refused : goal.returns-in_err-check_members-clause-refused
returns-in_err-check_members-clause-refused c =
    let p = err_from_is_err_and c.from_residual-in_err-check_members.result c.from_residual-in_err-check_members.ensures.1 in
    let found = subst (λ fs. Refuses c.in_err-check_members.field-0.0 (member_refusals fs)) c.in_ok-program.ensures.ok.0 c.in_err-check_members.ensures in
    rw (p.1, p.2) (members_refuse c.args.files.items c.in_err-check_members.field-0.0 c.in_ok-program.ensures.ok.1 found)

pub returns-in_err-check_uses-clause-refused : goal.returns-in_err-check_uses-clause-refused
returns-in_err-check_uses-clause-refused c =
    let p = err_from_is_err_and c.from_residual-in_err-check_uses.result c.from_residual-in_err-check_uses.ensures.1 in
    let members = ap member_refusals (sym c.in_ok-program.ensures.ok.0) ∙ c.in_ok-check_members.ensures in
    let found = subst (λ fs. Refuses c.in_err-check_uses.field-0.0 (use_refusals fs)) c.in_ok-program.ensures.ok.0 c.in_err-check_uses.ensures in
    rw (p.1, p.2) (uses_refuse c.args.files.items c.in_err-check_uses.field-0.0 c.in_ok-program.ensures.ok.1 members found)
