use Rattle.std.proofs.Common.{◌≡◌, length, take, sum_by}
use Rattle.th_syntax.specs.declared.class_file.ClassFile.{ClassFile}
use Rattle.th_syntax.specs.Program.{class_infos}
use Rattle.th_linker.proofs.infos.class_infos.Given as goal

-- the classes so far are known, and the next numbers are those behind their members
abbrev pub invariant-loop-class : goal.invariant-loop-class
invariant-loop-class l = record {
  made : l.infos.items ≡ class_infos l.classes 0 0 (take l.class-index l.class-items);
  fields : l.field ≡ sum_by (λ (c : ClassFile). length c.fields) (take l.class-index l.class-items);
  methods : l.method ≡ sum_by (λ (c : ClassFile). length c.methods) (take l.class-index l.class-items);
}
