-- Of which classes methods may be.
use Rattle.std.specs.Prelude.{ℕ, List, ◌++◌, Bool}
use Rattle.th_syntax.specs.declared.cause.TheConstants as cause
use Rattle.th_syntax.specs.declared.instr.MemberRef.{MemberRef}
use Rattle.th_syntax.specs.Flaws.{unless}
use Rattle.th_syntax.specs.CodeBytes.{of_classes, of_interfaces, of_either, method_numbers}
use Rattle.th_code.specs.declared.member.MethodKind.{MethodKind}
use Rattle.th_code.specs.declared.member.MethodKind.TheVariants.{OfClass, OfInterface, OfEither}

-- the tags of the entries that lead to such methods
abbrev pub kind_tags : MethodKind → List ℕ
kind_tags OfClass = of_classes
kind_tags OfInterface = of_interfaces
kind_tags OfEither = of_either

-- the numbers of the checks that a call fails, where all else of the instruction is sound or not
unfoldable pub call_numbers : Bool → Bool → MemberRef → List ℕ
call_numbers special sound m = method_numbers special m ++ unless sound cause.CODE_SHAPE
