-- The class file that a written class stands for.
use Rattle.std.specs.Prelude.{List, [], ◌∷◌, map, Option, Some, None}
use Rattle.th_syntax.specs.declared.class_file.ClassFile.{ClassFile}
use Rattle.th_syntax.specs.declared.class_file.Member.{Member}
use Rattle.th_syntax.specs.declared.class_file.Code.{Code}
use Rattle.th_syntax.specs.declared.instr.Instr.{Instr}
use Rattle.th_gen.specs.declared.item.PoolItem.{PoolItem}
use Rattle.th_gen.specs.declared.draft.ClassWriter.{ClassWriter}
use Rattle.th_gen.specs.declared.draft.DraftField.{DraftField}
use Rattle.th_gen.specs.declared.draft.DraftMethod.{DraftMethod}
use Rattle.th_gen.specs.Items.{pool_of}
use Rattle.th_gen.specs.Placing.{starts_of, placed_by}
use Rattle.th_gen.specs.ClassText.{class_access, class_major}

abbrev pub field_member : DraftField → Member
field_member f = record { access = f.access; name = f.name; descriptor = f.descriptor; constant = None; code = None }

-- a method's code, where it has instructions: each at its offset, with offsets as targets
abbrev pub code_with : List PoolItem → DraftMethod → List Instr → Option Code
code_with pool m [] = None
code_with pool m (i ∷ instrs) =
    Some record { max_stack = m.max_stack; max_locals = m.max_locals; instrs = placed_by (starts_of pool m.instrs) m.instrs; handlers = 0 }

abbrev pub method_member : List PoolItem → DraftMethod → Member
method_member pool m = record { access = m.access; name = m.name; descriptor = m.descriptor; constant = None; code = code_with pool m m.instrs }

-- the class with these members and instructions, in order
unfoldable pub class_of : ClassWriter → ClassFile
class_of w = record {
  major = class_major;
  access = class_access;
  name = w.name;
  super_name = Some w.super_name;
  interfaces = [];
  fields = map field_member w.fields;
  methods = map (method_member (pool_of w)) w.methods;
}
