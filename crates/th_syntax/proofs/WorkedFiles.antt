-- Bytes that are worked out in full, computed.
use Rattle.std.proofs.Common.{◌≡◌, ℕ, Bool, false, List, [], ◌∷◌, ◌++◌, map, take, Result, Ok, Err, Option, Some, refl}
use Rattle.std.specs.Prelude.{is_some, slice_set}
use Rattle.std.specs.Option.{option_map_or}
use Rattle.th_syntax.specs.declared.cause.TheConstants as cause
use Rattle.th_syntax.specs.declared.class_file.ClassFile.{ClassFile}
use Rattle.th_syntax.specs.declared.refusal.Flaw.{Flaw}
use Rattle.th_syntax.specs.Flaws.{flaw_at, first_of}
use Rattle.th_syntax.specs.Forms.{◌>>=◌, read}
use Rattle.th_syntax.specs.ClassBytes.{number, run, demand, times, counted, two_indices, two_words, text, handle, content, entry, slot, slots, pool, attribute, member, class_file, code}
use Rattle.th_syntax.specs.WellFormed.{is_class_name, is_field_name, is_method_name}
use Rattle.th_syntax.specs.PoolChecks.{tag_at, refers_well, entry_flaws}
use Rattle.th_syntax.specs.Descriptors.{is_floating, is_floating_method, base_type, name_before, element_at, type_at, field_type_of, types_at, result_at, method_at, method_type_of}
use Rattle.th_syntax.specs.CodeBytes.{instruction}
use Rattle.th_syntax.specs.Decoding.{decoded, instrs_in, flow_flaws, flaws_in, code_flaws}
use Rattle.th_syntax.specs.Checks.{second_pass, third_pass, raw_code, fourth_pass}
use Rattle.th_syntax.specs.ClassGrammar.{class_file_of}
use Rattle.th_syntax.specs.Reader.{reading}
use Rattle.th_syntax.specs.WorkedCode.{worked_pool_bytes, worked_pool, worked_tags, worked_references, worked_instrs, placed_from, worked_code, refused_codes, branch_opcodes, into_operand, taken_codes, code_of_length, code_lengths}
use Rattle.th_syntax.specs.WorkedNames.{worked_names, worked_fields, worked_methods}
use Rattle.th_syntax.specs.WorkedFiles.{activity_bytes, activity_value, edits, taken_edits, fronts, interfaces_bytes, interfaces_value, interface_edits, constants_bytes, constant_fields, constants_value, refused_fields}

pub pool_entries : read pool 8 worked_pool_bytes ≡ Ok (worked_pool, 231, [])
unfolding ◌>>=◌ read number run demand times counted two_indices two_words text handle content entry slot slots pool attribute member class_file code instruction decoded instrs_in flow_flaws flaws_in code_flaws entry_flaws second_pass third_pass fourth_pass raw_code class_file_of reading base_type name_before element_at type_at field_type_of types_at result_at method_at method_type_of
pool_entries = refl

pub pool_flawless : entry_flaws worked_pool ≡ []
unfolding ◌>>=◌ read number run demand times counted two_indices two_words text handle content entry slot slots pool attribute member class_file code instruction decoded instrs_in flow_flaws flaws_in code_flaws entry_flaws second_pass third_pass fourth_pass raw_code class_file_of reading base_type name_before element_at type_at field_type_of types_at result_at method_at method_type_of
pool_flawless = refl

pub pool_tags : map (λ one. tag_at worked_pool one.0) worked_tags ≡ map (λ one. one.1) worked_tags
unfolding ◌>>=◌ read number run demand times counted two_indices two_words text handle content entry slot slots pool attribute member class_file code instruction decoded instrs_in flow_flaws flaws_in code_flaws entry_flaws second_pass third_pass fourth_pass raw_code class_file_of reading base_type name_before element_at type_at field_type_of types_at result_at method_at method_type_of
pool_tags = refl

pub references : map (λ one. refers_well worked_pool one.0) worked_references ≡ map (λ one. one.1) worked_references
unfolding ◌>>=◌ read number run demand times counted two_indices two_words text handle content entry slot slots pool attribute member class_file code instruction decoded instrs_in flow_flaws flaws_in code_flaws entry_flaws second_pass third_pass fourth_pass raw_code class_file_of reading base_type name_before element_at type_at field_type_of types_at result_at method_at method_type_of
references = refl

-- ---- names and descriptors

pub class_names : map (λ one. is_class_name one.0) worked_names ≡ map (λ one. one.1) worked_names
unfolding ◌>>=◌ read number run demand times counted two_indices two_words text handle content entry slot slots pool attribute member class_file code instruction decoded instrs_in flow_flaws flaws_in code_flaws entry_flaws second_pass third_pass fourth_pass raw_code class_file_of reading base_type name_before element_at type_at field_type_of types_at result_at method_at method_type_of
class_names = refl

pub field_names : map (λ one. is_field_name one.0) worked_names ≡ map (λ one. one.2) worked_names
unfolding ◌>>=◌ read number run demand times counted two_indices two_words text handle content entry slot slots pool attribute member class_file code instruction decoded instrs_in flow_flaws flaws_in code_flaws entry_flaws second_pass third_pass fourth_pass raw_code class_file_of reading base_type name_before element_at type_at field_type_of types_at result_at method_at method_type_of
field_names = refl

pub method_names : map (λ one. is_method_name one.0) worked_names ≡ map (λ one. one.3) worked_names
unfolding ◌>>=◌ read number run demand times counted two_indices two_words text handle content entry slot slots pool attribute member class_file code instruction decoded instrs_in flow_flaws flaws_in code_flaws entry_flaws second_pass third_pass fourth_pass raw_code class_file_of reading base_type name_before element_at type_at field_type_of types_at result_at method_at method_type_of
method_names = refl

pub field_types : map (λ one. is_some (field_type_of one.0)) worked_fields ≡ map (λ one. one.1) worked_fields
unfolding ◌>>=◌ read number run demand times counted two_indices two_words text handle content entry slot slots pool attribute member class_file code instruction decoded instrs_in flow_flaws flaws_in code_flaws entry_flaws second_pass third_pass fourth_pass raw_code class_file_of reading base_type name_before element_at type_at field_type_of types_at result_at method_at method_type_of
field_types = refl

pub floating_types : map (λ one. option_map_or is_floating (field_type_of one.0) false) worked_fields ≡ map (λ one. one.2) worked_fields
unfolding ◌>>=◌ read number run demand times counted two_indices two_words text handle content entry slot slots pool attribute member class_file code instruction decoded instrs_in flow_flaws flaws_in code_flaws entry_flaws second_pass third_pass fourth_pass raw_code class_file_of reading base_type name_before element_at type_at field_type_of types_at result_at method_at method_type_of
floating_types = refl

pub method_types : map (λ one. is_some (method_type_of one.0)) worked_methods ≡ map (λ one. one.1) worked_methods
unfolding ◌>>=◌ read number run demand times counted two_indices two_words text handle content entry slot slots pool attribute member class_file code instruction decoded instrs_in flow_flaws flaws_in code_flaws entry_flaws second_pass third_pass fourth_pass raw_code class_file_of reading base_type name_before element_at type_at field_type_of types_at result_at method_at method_type_of
method_types = refl

pub floating_methods : map (λ one. option_map_or is_floating_method (method_type_of one.0) false) worked_methods ≡ map (λ one. one.2) worked_methods
unfolding ◌>>=◌ read number run demand times counted two_indices two_words text handle content entry slot slots pool attribute member class_file code instruction decoded instrs_in flow_flaws flaws_in code_flaws entry_flaws second_pass third_pass fourth_pass raw_code class_file_of reading base_type name_before element_at type_at field_type_of types_at result_at method_at method_type_of
floating_methods = refl

-- ---- code

pub instrs_are : instrs_in worked_pool worked_code ≡ placed_from 0 worked_instrs
unfolding ◌>>=◌ read number run demand times counted two_indices two_words text handle content entry slot slots pool attribute member class_file code instruction decoded instrs_in flow_flaws flaws_in code_flaws entry_flaws second_pass third_pass fourth_pass raw_code class_file_of reading base_type name_before element_at type_at field_type_of types_at result_at method_at method_type_of
instrs_are = refl

pub instrs_flawless : flaws_in worked_pool 260 0 worked_code ≡ []
unfolding ◌>>=◌ read number run demand times counted two_indices two_words text handle content entry slot slots pool attribute member class_file code instruction decoded instrs_in flow_flaws flaws_in code_flaws entry_flaws second_pass third_pass fourth_pass raw_code class_file_of reading base_type name_before element_at type_at field_type_of types_at result_at method_at method_type_of
instrs_flawless = refl

pub instrs_locals : first_of (flaws_in worked_pool 259 0 worked_code) ≡ Some (flaw_at cause.CODE_SHAPE 300)
unfolding ◌>>=◌ read number run demand times counted two_indices two_words text handle content entry slot slots pool attribute member class_file code instruction decoded instrs_in flow_flaws flaws_in code_flaws entry_flaws second_pass third_pass fourth_pass raw_code class_file_of reading base_type name_before element_at type_at field_type_of types_at result_at method_at method_type_of
instrs_locals = refl

pub codes_refused : map (λ one. first_of (flaws_in worked_pool 2 100 one.0)) refused_codes ≡ map (λ one. Some one.1) refused_codes
unfolding ◌>>=◌ read number run demand times counted two_indices two_words text handle content entry slot slots pool attribute member class_file code instruction decoded instrs_in flow_flaws flaws_in code_flaws entry_flaws second_pass third_pass fourth_pass raw_code class_file_of reading base_type name_before element_at type_at field_type_of types_at result_at method_at method_type_of
codes_refused = refl

pub branches_refused : map (λ code. first_of (flaws_in worked_pool 2 100 (into_operand code))) branch_opcodes ≡ map (λ code. Some (flaw_at cause.CODE_SHAPE 100)) branch_opcodes
unfolding ◌>>=◌ read number run demand times counted two_indices two_words text handle content entry slot slots pool attribute member class_file code instruction decoded instrs_in flow_flaws flaws_in code_flaws entry_flaws second_pass third_pass fourth_pass raw_code class_file_of reading base_type name_before element_at type_at field_type_of types_at result_at method_at method_type_of
branches_refused = refl

pub codes_taken : map (flaws_in worked_pool 2 100) taken_codes ≡ map (λ code. []) taken_codes
unfolding ◌>>=◌ read number run demand times counted two_indices two_words text handle content entry slot slots pool attribute member class_file code instruction decoded instrs_in flow_flaws flaws_in code_flaws entry_flaws second_pass third_pass fourth_pass raw_code class_file_of reading base_type name_before element_at type_at field_type_of types_at result_at method_at method_type_of
codes_taken = refl

pub lengths_checked : map (λ one. code_flaws worked_pool (code_of_length one.0)) code_lengths ≡ map (λ one. one.1) code_lengths
unfolding ◌>>=◌ read number run demand times counted two_indices two_words text handle content entry slot slots pool attribute member class_file code instruction decoded instrs_in flow_flaws flaws_in code_flaws entry_flaws second_pass third_pass fourth_pass raw_code class_file_of reading base_type name_before element_at type_at field_type_of types_at result_at method_at method_type_of
lengths_checked = refl

-- ---- files

pub activity_read : reading activity_bytes ≡ Ok activity_value
unfolding ◌>>=◌ read number run demand times counted two_indices two_words text handle content entry slot slots pool attribute member class_file code instruction decoded instrs_in flow_flaws flaws_in code_flaws entry_flaws second_pass third_pass fourth_pass raw_code class_file_of reading base_type name_before element_at type_at field_type_of types_at result_at method_at method_type_of
activity_read = refl

pub activity_trailing : reading (activity_bytes ++ 0 ∷ []) ≡ Err (flaw_at cause.TRAILING 122)
unfolding ◌>>=◌ read number run demand times counted two_indices two_words text handle content entry slot slots pool attribute member class_file code instruction decoded instrs_in flow_flaws flaws_in code_flaws entry_flaws second_pass third_pass fourth_pass raw_code class_file_of reading base_type name_before element_at type_at field_type_of types_at result_at method_at method_type_of
activity_trailing = refl

pub edits_refused : map (λ e. reading (slice_set activity_bytes e.at e.byte)) edits ≡ map (λ e. Err e.flaw) edits
unfolding ◌>>=◌ read number run demand times counted two_indices two_words text handle content entry slot slots pool attribute member class_file code instruction decoded instrs_in flow_flaws flaws_in code_flaws entry_flaws second_pass third_pass fourth_pass raw_code class_file_of reading base_type name_before element_at type_at field_type_of types_at result_at method_at method_type_of
edits_refused = refl

pub edits_taken : map (λ e. reading (slice_set activity_bytes e.0 e.1)) taken_edits ≡ map (λ e. Ok e.2) taken_edits
unfolding ◌>>=◌ read number run demand times counted two_indices two_words text handle content entry slot slots pool attribute member class_file code instruction decoded instrs_in flow_flaws flaws_in code_flaws entry_flaws second_pass third_pass fourth_pass raw_code class_file_of reading base_type name_before element_at type_at field_type_of types_at result_at method_at method_type_of
edits_taken = refl

pub fronts_refused : map (λ one. reading (take one.0 activity_bytes)) fronts ≡ map (λ one. Err (flaw_at cause.TRUNCATED one.1)) fronts
unfolding ◌>>=◌ read number run demand times counted two_indices two_words text handle content entry slot slots pool attribute member class_file code instruction decoded instrs_in flow_flaws flaws_in code_flaws entry_flaws second_pass third_pass fourth_pass raw_code class_file_of reading base_type name_before element_at type_at field_type_of types_at result_at method_at method_type_of
fronts_refused = refl

pub interfaces_read : reading interfaces_bytes ≡ Ok interfaces_value
unfolding ◌>>=◌ read number run demand times counted two_indices two_words text handle content entry slot slots pool attribute member class_file code instruction decoded instrs_in flow_flaws flaws_in code_flaws entry_flaws second_pass third_pass fourth_pass raw_code class_file_of reading base_type name_before element_at type_at field_type_of types_at result_at method_at method_type_of
interfaces_read = refl

pub interface_edits_refused : map (λ e. reading (slice_set interfaces_bytes e.at e.byte)) interface_edits ≡ map (λ e. Err e.flaw) interface_edits
unfolding ◌>>=◌ read number run demand times counted two_indices two_words text handle content entry slot slots pool attribute member class_file code instruction decoded instrs_in flow_flaws flaws_in code_flaws entry_flaws second_pass third_pass fourth_pass raw_code class_file_of reading base_type name_before element_at type_at field_type_of types_at result_at method_at method_type_of
interface_edits_refused = refl

pub constants_read : reading (constants_bytes constant_fields) ≡ Ok constants_value
unfolding ◌>>=◌ read number run demand times counted two_indices two_words text handle content entry slot slots pool attribute member class_file code instruction decoded instrs_in flow_flaws flaws_in code_flaws entry_flaws second_pass third_pass fourth_pass raw_code class_file_of reading base_type name_before element_at type_at field_type_of types_at result_at method_at method_type_of
constants_read = refl

pub fields_refused : map (λ one. reading (constants_bytes (one.0 ∷ []))) refused_fields ≡ map (λ one. Err one.1) refused_fields
unfolding ◌>>=◌ read number run demand times counted two_indices two_words text handle content entry slot slots pool attribute member class_file code instruction decoded instrs_in flow_flaws flaws_in code_flaws entry_flaws second_pass third_pass fourth_pass raw_code class_file_of reading base_type name_before element_at type_at field_type_of types_at result_at method_at method_type_of
fields_refused = refl
