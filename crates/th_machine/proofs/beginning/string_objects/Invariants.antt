use Rattle.std.proofs.Common.{◌≡◌, replicate}
use Rattle.th_base.specs.declared.built_in.TheConstants.{STRING_NUMBER}
use Rattle.th_syntax.specs.Initial.{new_object}
use Rattle.th_machine.proofs.beginning.string_objects.Given as goal

abbrev pub invariant-loop-place : goal.invariant-loop-place
invariant-loop-place l = l.objects.items ≡ replicate l._place (new_object l.program STRING_NUMBER)
