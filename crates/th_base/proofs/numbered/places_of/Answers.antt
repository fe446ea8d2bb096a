use Rattle.std.proofs.Common.{ap, ◌∙◌}
use Rattle.std.specs.Option.{option_or}
use Rattle.th_base.specs.Numbered.{place_in, own_place}
use Rattle.th_base.proofs.MemberNumbers.{class_added}
use Rattle.th_base.proofs.numbered.places_of.Goals as goal

pub loop-class-preserved : goal.loop-class-preserved
loop-class-preserved c = λ n.
    let own = c.index-numbers-class.result in
    class_added c.args.numbers.now c.loop-class.class n own (place_in c.loop-class.places n) (place_in c.add_class.new.places n)
    c.loop-class-test.true c.index-numbers-class.is (c.loop-class.invariant n)
    (c.in_ok-add_class.ensures n ∙ ap (λ l. option_or (place_in c.loop-class.places n) (own_place c.loop-class.class l n)) c.as_slice.ensures)
