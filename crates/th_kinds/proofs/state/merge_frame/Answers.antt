use Rattle.std.proofs.Common.{◌≡◌, ◌^◌, arith, ap, rules, length, reverse}
use Rattle.th_syntax.specs.Kinds.{OfKinds}
use Rattle.th_kinds.specs.States.{seen_state, state_room}
use Rattle.th_kinds.proofs.Fronts.{frames_merged, room_most}
use Rattle.th_kinds.proofs.state.merge_frame.Goals as goal

pub returns-in_ok-copied-in-NoKinds-clause-most : goal.returns-in_ok-copied-in-NoKinds-clause-most
returns-in_ok-copied-in-NoKinds-clause-most c =
    let locals = room_most c.in_ok-copied-in-NoKinds.field-0.locals.items in
    let stack = room_most c.in_ok-copied-in-NoKinds.field-0.stack.items in
    let room : state_room c.args.known.now ≡ 2 ^ 67 = ap state_room c.in-NoKinds.is in
    rw room (omega arith)

pub returns-in_ok-copied-in-NoKinds-clause-less : goal.returns-in_ok-copied-in-NoKinds-clause-less
returns-in_ok-copied-in-NoKinds-clause-less c e =
    let locals = room_most c.in_ok-copied-in-NoKinds.field-0.locals.items in
    let stack = room_most c.in_ok-copied-in-NoKinds.field-0.stack.items in
    let room : state_room c.args.known.now ≡ 2 ^ 67 = ap state_room c.in-NoKinds.is in
    rw room (omega arith)

pub returns-then-len-clause-merged : goal.returns-then-len-clause-merged
returns-then-len-clause-merged c =
    let deep : length c.in-OfKinds.own.stack.items ≡ length c.args.frame.now.stack.items = search rules in
    let known : seen_state c.args.known.now ≡ OfKinds c.in-OfKinds.own.locals.items (reverse c.in-OfKinds.own.stack.items) = ap seen_state c.in-OfKinds.is in
    let locals = c.merge_frames.ensures.locals in
    let stack = c.merge_frames.ensures.stack in
    let merged = frames_merged c.args.frame.now.locals.items c.args.frame.now.stack.items c.in-OfKinds.own.locals.items c.in-OfKinds.own.stack.items deep in
    rw (known, locals, stack) merged
