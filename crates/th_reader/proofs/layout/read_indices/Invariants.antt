use Rattle.std.proofs.Common.{◌≡◌, ◌-◌, map}
use Rattle.th_syntax.specs.Forms.{read}
use Rattle.th_syntax.specs.ClassBytes as file
use Rattle.th_reader.specs.RawView.{index_view}
use Rattle.th_reader.proofs.Counted.{in_front}
use Rattle.th_reader.proofs.layout.read_indices.Given as goal

abbrev pub invariant-loop : goal.invariant-loop
invariant-loop l = in_front (map index_view l.indices.items) (read (file.times (l.count - l.counter) file.u2) l.place.at l.place.rest.now) ≡ read (file.counted file.u2) l.fn.from.at l.fn.from.rest.now
