use Rattle.std.proofs.Common.{◌≡◌, take, map}
use Rattle.std.specs.Prelude.{filter_map}
use Rattle.th_coarse.specs.Coarse.{stored_field}
use Rattle.th_coarse.proofs.fields.stored_fields.Given as goal

-- the fields into which the instructions so far store are found
abbrev pub invariant-loop-instr : goal.invariant-loop-instr
invariant-loop-instr l = l.numbers.items ≡ filter_map (stored_field l.program) (map (λ i. i.now) (take l.instr-index l.instrs))
