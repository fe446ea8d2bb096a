-- The String constants of a program (Java specification 5.1). That each is one object which exists
-- from the start is this project's own.
use Rattle.std.specs.Prelude.{ℕ, List, [], ◌∷◌, ◌++◌, flat_map, filter_map, Option, None, Some, option_to_list, if◌then◌else◌}
use Rattle.std.specs.List.{position_from}
use Rattle.std.specs.Option.{option_and_then, option_map_or}
use Rattle.std.specs.Ordering.{nat_cmp}
use Rattle.std.specs.declared.cmp.Ordering.{Ordering}
use Rattle.std.specs.declared.cmp.Ordering.TheVariants.{Less, Equal, Greater}
use Rattle.std.specs.Cmp.Lexicographic.{slice_cmp}
use Rattle.std.specs.Str.{bytes_eq}
use Rattle.th_syntax.specs.declared.class_file.ClassFile.{ClassFile}
use Rattle.th_syntax.specs.declared.class_file.Member.{Member}
use Rattle.th_syntax.specs.declared.class_file.Constant.{Constant}
use Rattle.th_syntax.specs.declared.class_file.Constant.TheVariants.{Int, Long, Str}
use Rattle.th_syntax.specs.declared.instr.Instr.{Instr}
use Rattle.th_syntax.specs.declared.instr.Instr.TheVariants.{Nop, Null, Int as LoadInt, Long as LoadLong, Str as LoadStr, ILoad, LLoad, ALoad, IStore, LStore, AStore, ArrayLoad, LArrayLoad, ArrayStore, LArrayStore, Stack, Arith, LArith, Neg, LNeg, Inc, Narrow, I2L, L2I, LCmp, IfZero, IfInts, IfSame, IfOther, IfNull, IfNotNull, Goto, TableSwitch, LookupSwitch, IReturn, LReturn, AReturn, Return, GetStatic, PutStatic, GetField, PutField, InvokeVirtual, InvokeSpecial, InvokeInterface, InvokeStatic, New, NewArray, ANewArray, ArrayLength, Throw, CheckCast, InstanceOf, MonitorEnter, MonitorExit}
use Rattle.th_syntax.specs.Flags.{is_static}
use Rattle.th_syntax.specs.Flow.{reached_code}

abbrev pub text_of : Constant → Option (List ℕ)
text_of (Str text) = Some text
text_of (Int n) = None
text_of (Long n) = None

-- the text that `ldc` loads
abbrev pub loaded_text : Instr → Option (List ℕ)
loaded_text Nop = None
loaded_text Null = None
loaded_text (LoadInt n) = None
loaded_text (LoadLong n) = None
loaded_text (LoadStr text) = Some text
loaded_text (ILoad local) = None
loaded_text (LLoad local) = None
loaded_text (ALoad local) = None
loaded_text (IStore local) = None
loaded_text (LStore local) = None
loaded_text (AStore local) = None
loaded_text (ArrayLoad elem) = None
loaded_text LArrayLoad = None
loaded_text (ArrayStore elem) = None
loaded_text LArrayStore = None
loaded_text (Stack op) = None
loaded_text (Arith op) = None
loaded_text (LArith op) = None
loaded_text Neg = None
loaded_text LNeg = None
loaded_text (Inc local by) = None
loaded_text (Narrow op) = None
loaded_text I2L = None
loaded_text L2I = None
loaded_text LCmp = None
loaded_text (IfZero relation target) = None
loaded_text (IfInts relation target) = None
loaded_text (IfSame target) = None
loaded_text (IfOther target) = None
loaded_text (IfNull target) = None
loaded_text (IfNotNull target) = None
loaded_text (Goto target) = None
loaded_text (TableSwitch low targets other) = None
loaded_text (LookupSwitch pairs other) = None
loaded_text IReturn = None
loaded_text LReturn = None
loaded_text AReturn = None
loaded_text Return = None
loaded_text (GetStatic r) = None
loaded_text (PutStatic r) = None
loaded_text (GetField r) = None
loaded_text (PutField r) = None
loaded_text (InvokeVirtual r) = None
loaded_text (InvokeSpecial r) = None
loaded_text (InvokeInterface r) = None
loaded_text (InvokeStatic r) = None
loaded_text (New name) = None
loaded_text (NewArray elem) = None
loaded_text (ANewArray name) = None
loaded_text ArrayLength = None
loaded_text Throw = None
loaded_text (CheckCast name) = None
loaded_text (InstanceOf name) = None
loaded_text MonitorEnter = None
loaded_text MonitorExit = None

-- of a static field's ConstantValue
abbrev pub texts_of_field : Member → List (List ℕ)
texts_of_field m = if is_static m then option_to_list (option_and_then text_of m.constant) else []

-- of the instructions that are reached
abbrev pub texts_of_method : Member → List (List ℕ)
texts_of_method m = option_map_or (λ code. filter_map (λ i. loaded_text i.1) (reached_code code.instrs)) m.code []

abbrev pub texts_of_class : ClassFile → List (List ℕ)
texts_of_class c = flat_map texts_of_field c.fields ++ flat_map texts_of_method c.methods

-- a text before the first of a list, in its place, or behind it, by how the two compare
abbrev pub placed_by : Ordering → List ℕ → List ℕ → List (List ℕ) → List (List ℕ) → List (List ℕ)
placed_by Less t u us behind = t ∷ u ∷ us
placed_by Equal t u us behind = u ∷ us
placed_by Greater t u us behind = u ∷ behind

-- an ascending list of texts, by their bytes, with one more
abbrev pub with_text : List ℕ → List (List ℕ) → List (List ℕ)
with_text t [] = t ∷ []
with_text t (u ∷ us) = placed_by (slice_cmp nat_cmp t u) t u us (with_text t us)

-- these texts ascending by their bytes, each once
abbrev pub ascending_texts : List (List ℕ) → List (List ℕ)
ascending_texts [] = []
ascending_texts (t ∷ ts) = with_text t (ascending_texts ts)

-- the String constants of a program, ascending by their bytes: those of reached `ldc` instructions
-- and of static fields' ConstantValues, each once
abbrev pub string_constants : List ClassFile → List (List ℕ)
string_constants files = ascending_texts (flat_map texts_of_class files)

-- the number of a String constant, which is also the address of its object
abbrev pub string_number_of : List ClassFile → List ℕ → Option ℕ
string_number_of files text = position_from (bytes_eq text) 0 (string_constants files)
