use Rattle.th_unify.proofs.Tables.{frames_unequal, statics_unequal, found_or_agree}
use Rattle.th_unify.proofs.classes.clash.Goals as goal

pub returns-in-Some : goal.returns-in-Some
returns-in-Some c = frames_unequal c.args.query.now c.args.names.now _ _ (rw c.as_slice.ensures at c.in-Some.ensures)

pub returns-in-Some-clash_in : goal.returns-in-Some-clash_in
returns-in-Some-clash_in c = statics_unequal c.args.query.now c.args.names.now _ _ (rw c.as_slice-2.ensures at c.in-Some-clash_in.ensures)

pub returns : goal.returns
returns c =
    found_or_agree c.args.query.now c.args.names.now c.clash_in_cells.result c.requires (rw c.as_slice.ensures at c.in_default.ensures) (rw c.as_slice-2.ensures at c.in_default-clash_in.ensures)
    (rw c.as_slice-3.ensures at c.clash_in_cells.ensures)
