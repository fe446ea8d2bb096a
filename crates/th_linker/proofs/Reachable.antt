-- What is refused at the instructions that are reached.
use Rattle.std.proofs.Common.{◌≡◌, ℕ, List, [], filter, cond}
use Rattle.std.specs.List.{flat_map}
use Rattle.th_base.specs.IdSet.{has}
use Rattle.th_syntax.specs.declared.class_file.ClassFile.{ClassFile}
use Rattle.th_syntax.specs.declared.instr.Instr.{Instr}
use Rattle.th_syntax.specs.declared.refusal.Refusal.{Refusal}
use Rattle.th_syntax.specs.Flow.{is_reached, reached_offsets, reached_code}
use Rattle.th_syntax.specs.LinkChecks.{instr_refusals}
use Rattle.th_linker.proofs.InOrder.{filtered}

abbrev pub reached_refusals : List ClassFile → ClassFile → List (ℕ × Instr) → ℕ × Instr → List Refusal
reached_refusals files c instrs i = cond (is_reached instrs i.0) (instr_refusals files c i) []

pub reached_is : (files : List ClassFile) (c : ClassFile) (instrs : List (ℕ × Instr)) → flat_map (instr_refusals files c) (reached_code instrs) ≡ flat_map (reached_refusals files c instrs) instrs
reached_is files c instrs = filtered (instr_refusals files c) (λ i. has (reached_offsets instrs) i.0) instrs
