use Rattle.std.proofs.Common.{◌≡◌, ℕ, [], subst}
use Rattle.std.proofs.lemmas.Result.{err_from_is_err_and}
use Rattle.th_base.specs.Cycles.{IsFirstCycle}
use Rattle.th_syntax.specs.LinkChecks.{supertype_refusals, cycle_refusal}
use Rattle.th_syntax.specs.Program.{hierarchy_of}
use Rattle.th_linker.specs.Checking.{Refuses, IfRefused}
use Rattle.th_linker.proofs.Ordered.{names_refuse, supertypes_refuse, hierarchy_refused}
use Rattle.th_linker.proofs.linker.ordered_hierarchy.Goals as goal

pub returns-in_err-check_names-clause-refused : goal.returns-in_err-check_names-clause-refused
returns-in_err-check_names-clause-refused c =
    let p = err_from_is_err_and c.from_residual.result c.from_residual.ensures.1 in
    rw (p.1, p.2) (names_refuse c.args.files.now c.in_err-check_names.field-0.0 c.in_err-check_names.ensures)

pub returns-in_err-check_supertypes-clause-refused : goal.returns-in_err-check_supertypes-clause-refused
returns-in_err-check_supertypes-clause-refused c =
    let p = err_from_is_err_and c.from_residual-in_err-check_supertypes.result c.from_residual-in_err-check_supertypes.ensures.1 in
    let found = subst (λ fs. Refuses c.in_err-check_supertypes.field-0.0 (supertype_refusals fs)) c.in_ok-classes.ensures c.in_err-check_supertypes.ensures in
    rw (p.1, p.2) (supertypes_refuse c.args.files.now c.in_err-check_supertypes.field-0.0 c.in_ok-check_names.ensures found)

pub returns-clause-refused : goal.returns-clause-refused
returns-clause-refused c =
    let none = subst (λ fs. supertype_refusals fs ≡ []) c.in_ok-classes.ensures c.in_ok-check_supertypes.ensures in
    let told = subst (λ fs. IfRefused c.hierarchy_of.result (λ q. (k s : ℕ) × IsFirstCycle (hierarchy_of fs) k s × (q ≡ cycle_refusal fs k s))) c.in_ok-classes.ensures c.hierarchy_of.ensures.refused in
    hierarchy_refused c.args.files.now c.hierarchy_of.result c.in_ok-check_names.ensures none told
