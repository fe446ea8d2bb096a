-- Access flags (Java specification, tables 4.1-A, 4.5-A and 4.6-A).
use Rattle.std.specs.Prelude.{ℕ, ◌==◌, Bool, not, bit_and}
use Rattle.th_syntax.specs.declared.class_file.ClassFile.{ClassFile}
use Rattle.th_syntax.specs.declared.class_file.Member.{Member}
use Rattle.th_syntax.specs.declared.flags.TheConstants.{ACC_STATIC, ACC_INTERFACE, ACC_ABSTRACT}

-- the access flags have this one
abbrev pub has_flag : ℕ → ℕ → Bool
has_flag access flag = not (bit_and access flag == 0)

abbrev pub is_static : Member → Bool
is_static m = has_flag m.access ACC_STATIC

abbrev pub is_abstract_method : Member → Bool
is_abstract_method m = has_flag m.access ACC_ABSTRACT

abbrev pub is_interface : ClassFile → Bool
is_interface class = has_flag class.access ACC_INTERFACE

abbrev pub is_abstract_class : ClassFile → Bool
is_abstract_class class = has_flag class.access ACC_ABSTRACT
