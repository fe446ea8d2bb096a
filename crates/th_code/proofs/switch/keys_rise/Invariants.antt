use Rattle.std.proofs.Common.{◌≡◌, drop, None}
use Rattle.th_code.specs.Switches.{rising_after}
use Rattle.th_code.proofs.switch.keys_rise.Given as goal

abbrev pub invariant-loop-pair : goal.invariant-loop-pair
invariant-loop-pair l = rising_after l.before (drop l.pair-index l.pairs) ≡ rising_after None l.pairs
