use Rattle.std.proofs.Common.{◌≡◌, map, string_bytes, drop, false}
use Rattle.th_words.proofs.WellFormed.{passes}
use Rattle.th_words.proofs.word_shape.is_well_formed.Given as goal

abbrev pub invariant-loop-i : goal.invariant-loop-i
invariant-loop-i l = passes (map (λ n. n.now) l.names) false (map string_bytes l.words) ≡ passes (map (λ n. n.now) l.names) l.waits (map string_bytes (drop l.i l.words))
