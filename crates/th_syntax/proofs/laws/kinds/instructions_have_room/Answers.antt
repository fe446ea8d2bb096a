use Rattle.th_syntax.proofs.WorkedKinds.{room_constants, room_arrays, room_moves, room_arithmetic, room_branches, room_members, full_constants, full_moves}
use Rattle.th_syntax.proofs.laws.kinds.instructions_have_room.Goals as goal

pub returns : goal.returns
returns c = record { constants = room_constants; arrays = room_arrays; moves = room_moves; arithmetic = room_arithmetic; branches = room_branches; members = room_members; full = full_constants; full_moves = full_moves }
