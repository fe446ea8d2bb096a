use Rattle.std.proofs.Common.{◌≡◌, [], take}
use Rattle.std.specs.List.{flat_map}
use Rattle.th_syntax.specs.declared.class_file.ClassFile.{ClassFile}
use Rattle.th_syntax.specs.LinkChecks.{code_refusals}
use Rattle.th_linker.proofs.uses.check_uses.Given as goal

abbrev pub invariant-loop-class : goal.invariant-loop-class
invariant-loop-class l = flat_map (λ (c : ClassFile). flat_map (code_refusals l.program c) c.methods) (take l.class-index l.class-items) ≡ []
