use Rattle.std.proofs.Common.{◌≡◌, ◌-◌, map}
use Rattle.th_syntax.specs.Forms.{read}
use Rattle.th_syntax.specs.ClassBytes as file
use Rattle.th_reader.specs.RawView.{attribute_view}
use Rattle.th_reader.proofs.Counted.{in_front}
use Rattle.th_reader.proofs.layout.read_attributes.Given as goal

abbrev pub invariant-loop : goal.invariant-loop
invariant-loop l = in_front (map attribute_view l.attributes.items) (read (file.times (l.count - l.counter) file.attribute) l.place.at l.place.rest.now) ≡ read (file.counted file.attribute) l.fn.from.at l.fn.from.rest.now
