use Rattle.std.specs.Prelude.{ℕ, ◌≡◌, List, Some}
use Rattle.th_syntax.specs.Descriptors.{FieldType, type_bytes, field_type_of}
use Rattle.th_runs.proofs.Sounding.{sound_of, interfaces_are_plain}
use Rattle.th_runs.proofs.laws.verified_programs_are_sound.Goals as goal

spelled : goal.After-field_descriptors → (d : List ℕ) (type : FieldType) → field_type_of d ≡ Some type → d ≡ type_bytes type
spelled c d type e = ((c.field_descriptors.ensures d type).0 e).0

pub returns-clause-sound : goal.returns-clause-sound
returns-clause-sound c = λ files verified. sound_of files verified (λ i. c.what_is_named_stands.ensures files i verified.linked) (spelled c)

pub returns-clause-interfaces : goal.returns-clause-interfaces
returns-clause-interfaces c = λ files verified. interfaces_are_plain files verified (λ i. c.what_is_named_stands.ensures files i verified.linked) (spelled c)
