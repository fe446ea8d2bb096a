use Rattle.std.proofs.Common.{◌≡◌, [], ◌++◌, take}
use Rattle.std.specs.List.{flat_map}
use Rattle.th_syntax.specs.declared.class_file.ClassFile.{ClassFile}
use Rattle.th_syntax.specs.LinkChecks.{superclass_refusals, interface_refusals}
use Rattle.th_linker.proofs.supertypes.check_supertypes.Given as goal

-- the classes so far have their supertypes
abbrev pub invariant-loop-class : goal.invariant-loop-class
invariant-loop-class l = flat_map (λ (c : ClassFile). superclass_refusals l.classes c ++ interface_refusals l.classes c) (take l.class-index l.class-items) ≡ []
