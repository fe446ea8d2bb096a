-- Words of the table as numbers.
use Rattle.std.specs.Prelude.{ℕ, ◌+◌, ◌*◌, ◌/◌, ◌%◌, ◌==◌, cond}
use Rattle.th_edge_table.specs.declared.encoding.TheConstants.{FREE, CLAIMED, REFUTED, WITNESSED, OUT_OF_BUDGET, KIND_UNIT}
use Rattle.th_edge_table.specs.declared.word.Kind.{Kind}
use Rattle.th_edge_table.specs.declared.word.Kind.TheVariants.{Refuted, Witnessed, OutOfBudget}
use Rattle.th_edge_table.specs.declared.word.Verdict.{Verdict}
use Rattle.th_edge_table.specs.declared.word.Word.{Word}
use Rattle.th_edge_table.specs.declared.word.Word.TheVariants.{Free, Claimed, Decided}

-- a kind as a number
abbrev pub kind_number_of : Kind → ℕ
kind_number_of Refuted = REFUTED
kind_number_of Witnessed = WITNESSED
kind_number_of OutOfBudget = OUT_OF_BUDGET

-- the kind of a number
abbrev pub kind_of : ℕ → Kind
kind_of k = cond (k == REFUTED) Refuted (cond (k == WITNESSED) Witnessed OutOfBudget)

-- a verdict as a number: the kind above the steps
abbrev pub number_of : Verdict → ℕ
number_of d = kind_number_of d.kind * KIND_UNIT + d.steps

-- the verdict of a number
abbrev pub verdict_of : ℕ → Verdict
verdict_of n = record { kind = kind_of (n / KIND_UNIT); steps = n % KIND_UNIT }

-- the word of a number
abbrev pub word_of : ℕ → Word
word_of n = cond (n == FREE) Free (cond (n == CLAIMED) Claimed (Decided (verdict_of n)))
