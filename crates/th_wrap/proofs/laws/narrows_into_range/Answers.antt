use Rattle.th_wrap.proofs.Range.{byte_in_range, short_in_range, char_in_range, low_bits-congruent}
use Rattle.th_wrap.proofs.laws.narrows_into_range.Goals as goal

pub returns : goal.returns
returns c = record { byte = byte_in_range; short = short_in_range; char = char_in_range; char_bits = low_bits-congruent 16 }
