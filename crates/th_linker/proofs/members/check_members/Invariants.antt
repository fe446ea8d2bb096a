use Rattle.std.proofs.Common.{◌≡◌, [], ◌++◌, take}
use Rattle.std.specs.List.{flat_map}
use Rattle.th_syntax.specs.declared.class_file.ClassFile.{ClassFile}
use Rattle.th_syntax.specs.LinkChecks.{found_along, field_refusals, method_refusals}
use Rattle.th_linker.proofs.members.check_members.Given as goal

-- the members of the classes so far are in order
abbrev pub invariant-loop-at : goal.invariant-loop-at
invariant-loop-at l = flat_map (λ (c : ClassFile). found_along (field_refusals c) [] c.fields ++ found_along (method_refusals c) [] c.methods) (take l.at l.class-items) ≡ []
