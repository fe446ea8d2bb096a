-- Where the names and instructions of a class pass the checks of class files (Java specification 4.2,
-- 4.3, 4.6 and 4.9.1).
use Rattle.std.specs.Prelude.{◌≡◌, ℕ, ◌+◌, ◌^◌, ◌<◌, ◌≤◌, ◌&&◌, nat_lt, int_le, List, [], ◌∷◌, length, map, Bool, true, false, pos, ◌+ℤ◌, FitsSigned}
use Rattle.std.specs.List.{list_all, AllByRecursion}
use Rattle.std.specs.Int.{w16, w32, w64}
use Rattle.th_syntax.specs.declared.flags.TheConstants.{ACC_NATIVE}
use Rattle.th_syntax.specs.declared.instr.Instr.{Instr}
use Rattle.th_syntax.specs.declared.instr.Instr.TheVariants.{Int, Long, Inc, TableSwitch, LookupSwitch, GetStatic, PutStatic, GetField, PutField, InvokeVirtual, InvokeSpecial, InvokeInterface, InvokeStatic, New, ANewArray, CheckCast, InstanceOf}
use Rattle.th_syntax.specs.Flags.{has_flag}
use Rattle.th_syntax.specs.Flow.{leads_to}
use Rattle.th_syntax.specs.WellFormed.{is_class_name, is_field_name, is_method_name}
use Rattle.th_syntax.specs.Descriptors.{field_type_of, method_type_of}
use Rattle.th_syntax.specs.CodeBytes.{type_numbers, method_type_numbers, class_name_numbers, class_or_array_numbers, field_numbers, method_numbers, keys_ascend}
use Rattle.th_syntax.specs.Decoding.{locals_named}
use Rattle.th_gen.specs.declared.draft.ClassWriter.{ClassWriter}
use Rattle.th_gen.specs.declared.draft.DraftField.{DraftField}
use Rattle.th_gen.specs.declared.draft.DraftMethod.{DraftMethod}

-- ---- instructions

-- the numbers of the checks that the names of an instruction fail
abbrev pub name_numbers : Instr → List ℕ
name_numbers (GetStatic f) = field_numbers f
name_numbers (PutStatic f) = field_numbers f
name_numbers (GetField f) = field_numbers f
name_numbers (PutField f) = field_numbers f
name_numbers (InvokeVirtual m) = method_numbers false m
name_numbers (InvokeSpecial m) = method_numbers true m
name_numbers (InvokeInterface m) = method_numbers false m
name_numbers (InvokeStatic m) = method_numbers false m
name_numbers (New name) = class_name_numbers name
name_numbers (ANewArray name) = class_or_array_numbers name
name_numbers (CheckCast name) = class_or_array_numbers name
name_numbers (InstanceOf name) = class_or_array_numbers name
name_numbers other = []

-- a tableswitch has a target and its last key is an int, and the keys of a lookupswitch ascend
abbrev pub switches_well : Instr → Bool
switches_well (TableSwitch low places other) = nat_lt 0 (length places) && int_le (low +ℤ pos (length places)) (pos (2 ^ 31))
switches_well (LookupSwitch pairs other) = keys_ascend (map (λ pair. (pair.0, pos pair.1)) pairs)
switches_well other = true

-- an instruction's names, local variables and keys pass
pub record InstrPasses (max_locals : ℕ) (i : Instr) : Type 0 where
  pub names : name_numbers i ≡ []
  pub locals : locals_named i ≤ max_locals
  pub keys : switches_well i ≡ true

-- each instruction, the first of which has this place, leads to instructions alone: to places below the
-- count, and not on past the last
abbrev pub leads_on : ℕ → ℕ → List Instr → Bool
leads_on count place [] = true
leads_on count place (i ∷ instrs) = list_all (λ to. nat_lt to count) (leads_to ((place + 1) ∷ []) i) && leads_on count (place + 1) instrs

-- ---- numbers of the width that their places have

abbrev pub NumberFits : Instr → Type 0
NumberFits (Int value) = FitsSigned w32 value
NumberFits (Long value) = FitsSigned w64 value
NumberFits (Inc index by) = FitsSigned w16 by
NumberFits (TableSwitch low places other) = FitsSigned w32 low
NumberFits (LookupSwitch pairs other) = AllByRecursion (λ pair. FitsSigned w32 pair.0) pairs
NumberFits other = Unit {0}

-- ---- members

pub record FieldPasses (f : DraftField) : Type 0 where
  pub access : f.access < 2 ^ 16
  pub name : is_field_name f.name ≡ true
  pub type : type_numbers (field_type_of f.descriptor) ≡ []

pub record MethodPasses (m : DraftMethod) : Type 0 where
  pub access : m.access < 2 ^ 16
  pub stack : m.max_stack < 2 ^ 16
  pub locals : m.max_locals < 2 ^ 16
  pub name : is_method_name m.name ≡ true
  pub type : method_type_numbers (method_type_of m.descriptor) ≡ []
  -- no method is native
  pub kind : has_flag m.access ACC_NATIVE ≡ false
  pub instrs : AllByRecursion (InstrPasses m.max_locals) m.instrs
  pub numbers : AllByRecursion NumberFits m.instrs
  pub flow : leads_on (length m.instrs) 0 m.instrs ≡ true

-- The names, members and instructions of a class pass the checks of class files.
pub record Passes (w : ClassWriter) : Type 0 where
  pub name : is_class_name w.name ≡ true
  pub super_name : is_class_name w.super_name ≡ true
  pub fields : AllByRecursion FieldPasses w.fields
  pub methods : AllByRecursion MethodPasses w.methods
