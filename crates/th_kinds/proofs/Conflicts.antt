-- Whether the kinds before an instruction are a conflict.
use Rattle.std.proofs.Common.{◌≡◌, ◌||◌, not, ℕ, Bool, true, false, List, reverse, length, take, sym, ap, ◌∙◌}
use Rattle.std.specs.Option.{option_map_or}
use Rattle.th_syntax.specs.declared.class_file.Member.{Member}
use Rattle.th_syntax.specs.declared.instr.Instr.{Instr}
use Rattle.th_syntax.specs.declared.kind.SlotKind.{SlotKind}
use Rattle.th_syntax.specs.Kinds.{are_same_kinds}
use Rattle.th_syntax.specs.KindRows.{KindRow, row_of, result_slots, are_other_operands, is_misfit}
use Rattle.th_syntax.specs.KindTable.{returned_slots, is_other_return}
use Rattle.th_kinds.proofs.SameKinds.{same_reversed}

or_no : (a b r : Bool) → a ≡ false → r ≡ b → r ≡ (a || b)
or_no true b r e is = absurd cc
or_no false b r e is = is

pub no_misfit : (max : ℕ) (row : KindRow) (locals stack gives : List SlotKind) (m : Member) (i : Instr) (x r : Bool) → row ≡ row_of i → result_slots m.descriptor ≡ gives → x ≡ is_misfit max row locals stack → x ≡ false
    → r ≡ option_map_or (λ slots. not (are_same_kinds slots gives)) (returned_slots i) false → r ≡ (is_misfit max (row_of i) locals stack || is_other_return m i)
no_misfit max row locals stack gives m i x r same given fits free is =
    or_no (is_misfit max (row_of i) locals stack) (is_other_return m i) r (ap (λ (k : KindRow). is_misfit max k locals stack) (sym same) ∙ sym fits ∙ free)
    (is ∙ ap (λ (ks : List SlotKind). option_map_or (λ slots. not (are_same_kinds slots ks)) (returned_slots i) false) (sym given))

pub other_operands : (top slots stack : List SlotKind) → reverse top ≡ take (length slots) stack → not (are_same_kinds top slots) ≡ are_other_operands slots stack
other_operands top slots stack e = ap not (sym (same_reversed top slots) ∙ ap (λ (ks : List SlotKind). are_same_kinds ks (reverse slots)) e)
