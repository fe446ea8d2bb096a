use Rattle.std.proofs.Common.{◌≡◌, take, map}
use Rattle.std.specs.Prelude.{filter_map}
use Rattle.th_coarse.specs.Coarse.{created_class}
use Rattle.th_coarse.proofs.made.created_classes.Given as goal

-- the classes of which the instructions so far make objects are found
abbrev pub invariant-loop-instr : goal.invariant-loop-instr
invariant-loop-instr l = l.numbers.items ≡ filter_map (created_class l.program) (map (λ i. i.now) (take l.instr-index l.instrs))
