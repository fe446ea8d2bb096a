use Rattle.std.proofs.Common.{◌<◌, length, sym, subst, ◌∙◌}
use Rattle.std.specs.Prelude.{⊤}
use Rattle.th_points_to.proofs.Adding.{no_program, adds_as, adds_after, copy_asks}
use Rattle.th_points_to.proofs.found.include_through.Goals as goal

pub returns-in-None : goal.returns-in-None
returns-in-None c = λ p.
    let none = rw c.in-None.is at c.in_ok-from.ensures.set in
    adds_as c.args.layout p c.args.found.now c.set_of.new.found (λ t. ⊤) _ (λ t is. tt) (λ t range is there to_there x one pass. absurd (none there)) (c.in_ok-from.ensures.adds p)

pub set_of-requires-2 : goal.set_of-requires-2
set_of-requires-2 c = (c.in_ok-from.ensures.adds no_program).laid

pub returns-in-None-2 : goal.returns-in-None-2
returns-in-None-2 c = λ p.
    let none = rw c.in-None-2.is at c.in_ok-to.ensures.set in
    adds_as c.args.layout p c.args.found.now c.set_of-2.new.found (λ t. ⊤) _ (λ t is. tt) (λ t range is there to_there x one pass. absurd (none to_there))
    (adds_after c.args.layout p c.args.found.now c.set_of.new.found c.set_of-2.new.found (λ t. ⊤) (c.in_ok-from.ensures.adds p) (c.in_ok-to.ensures.adds p))

pub add_copy-requires-clause-from : goal.add_copy-requires-clause-from
add_copy-requires-clause-from c =
    let set = rw c.in-Some.is at c.in_ok-from.ensures.set in
    ((c.in_ok-to.ensures.adds no_program).stays c.in-Some.from set.inside).0

pub add_copy-requires-clause-to : goal.add_copy-requires-clause-to
add_copy-requires-clause-to c = let set = rw c.in-Some-2.is at c.in_ok-to.ensures.set in set.inside

pub add_copy-requires-clause-filter : goal.add_copy-requires-clause-filter
add_copy-requires-clause-filter c =
    subst (λ fs. c.args.filter < length fs) (sym ((c.in_ok-to.ensures.adds no_program).filters ∙ (c.in_ok-from.ensures.adds no_program).filters)) c.requires.filter

pub returns : goal.returns
returns c = λ p.
    let from = rw c.in-Some.is at c.in_ok-from.ensures.set in
    let to = rw c.in-Some-2.is at c.in_ok-to.ensures.set in
    copy_asks c.args.layout p c.args.found.now c.set_of.new.found c.set_of-2.new.found c.add_copy.new.self c.args.from c.args.to c.in-Some.from c.in-Some-2.to c.args.filter
    (c.in_ok-from.ensures.adds p) from (c.in_ok-to.ensures.adds p) to c.requires.filter c.in_ok-add_copy.ensures
