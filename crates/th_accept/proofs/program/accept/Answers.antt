use Rattle.std.proofs.Common.{List, rules, subst, sym}
use Rattle.th_syntax.specs.declared.class_file.ClassFile.{ClassFile}
use Rattle.th_syntax.specs.Linking.{IsLinked}
use Rattle.th_accept.specs.Accepted.{StandFor, AreKindsRefused, IsRefused, by_file, by_linking, by_kinds}
use Rattle.th_accept.proofs.Joining.{can_link, all_flow, handed_on, linking_handed_on, refused_then}
use Rattle.th_accept.proofs.program.accept.Goals as goal

pub link-requires : goal.link-requires
link-requires g c = can_link c.args.files.now c.in_ok-classes.classes.items c.in_ok-classes.ensures.stand c.requires.few c.members_are_few.ensures.fields c.members_are_few.ensures.methods

pub check_kinds-requires : goal.check_kinds-requires
check_kinds-requires g c =
    let stand = subst (StandFor c.args.files.now) (sym c.in_ok-program.ensures.linked.0) c.in_ok-classes.ensures.stand in
    (c.type_bounds.sync-T, rw c.files.ensures (all_flow c.class_files_flow_well.ensures.read c.args.files.now c.in_ok-program.program stand))

pub returns-in_err-classes-clause-refused : goal.returns-in_err-classes-clause-refused
returns-in_err-classes-clause-refused g c =
    handed_on c.read_all.result c.from_residual.result c.in_err-classes.field-0.0 c.in_err-classes.was (search rules) c.read_all.ensures.refused (λ refusal is. by_file is)

pub returns-in_err-program-clause-refused : goal.returns-in_err-program-clause-refused
returns-in_err-program-clause-refused g c =
    linking_handed_on c.link.result c.from_residual-in_err-program.result c.in_err-program.field-0.0 c.in_err-program.was (search rules) c.link.ensures.refused
    (λ refusal is. by_linking c.in_ok-classes.classes.items c.in_ok-classes.ensures.stand is)

pub returns-in-Err-clause-refused : goal.returns-in-Err-clause-refused
returns-in-Err-clause-refused g c =
    let linked = c.in_ok-program.ensures.linked in
    let same = sym linked.0 in
    refused_then (Unit {0}) (List ClassFile) (AreKindsRefused c.in_ok-program.program) (IsRefused c.args.files.now) c.in-Err.fail (rw c.files.ensures at c.in-Err.ensures.refused)
    (λ refusal is. by_kinds c.in_ok-program.program (subst (StandFor c.args.files.now) same c.in_ok-classes.ensures.stand) (subst IsLinked same linked.1) is)
