use Rattle.std.proofs.Common.{◌≡◌, replicate}
use Rattle.th_machine.proofs.objects.new_array.Given as goal

abbrev pub invariant-loop-place : goal.invariant-loop-place
invariant-loop-place l = l.elements.items ≡ replicate l._place l.fill
