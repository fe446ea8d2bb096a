use Rattle.std.proofs.Common.{◌≡◌, map}
use Rattle.th_syntax.specs.ClassBytes as file
use Rattle.th_syntax.specs.CodeBytes as spelling
use Rattle.th_code.specs.Judged.{operand}
use Rattle.th_code.specs.Switches.{mapped, with_front}
use Rattle.th_code.proofs.switch.targets.Given as goal

abbrev pub invariant-loop-left : goal.invariant-loop-left
invariant-loop-left l =
    with_front l.targets.items (mapped (map (spelling.target l.pc)) (operand (file.times l.left spelling.i4) l.place.at l.place.rest.now))
    ≡ mapped (map (spelling.target l.fn.pc)) (operand (file.times l.fn.count spelling.i4) l.fn.from.at l.fn.from.rest.now)

abbrev pub decreases-loop-left : goal.decreases-loop-left
decreases-loop-left l = l.left
