use Rattle.std.proofs.Common.{◌≡◌, ◌-◌, map}
use Rattle.th_syntax.specs.Forms.{read}
use Rattle.th_syntax.specs.ClassBytes as file
use Rattle.th_reader.specs.RawView.{member_view}
use Rattle.th_reader.proofs.Counted.{in_front}
use Rattle.th_reader.proofs.layout.read_members.Given as goal

abbrev pub invariant-loop : goal.invariant-loop
invariant-loop l = in_front (map member_view l.members.items) (read (file.times (l.count - l.counter) file.member) l.place.at l.place.rest.now) ≡ read (file.counted file.member) l.fn.from.at l.fn.from.rest.now
