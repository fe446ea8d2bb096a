use Rattle.th_base.specs.Numbered.{place_in}
use Rattle.th_base.proofs.MemberNumbers.{member_added}
use Rattle.th_base.proofs.numbered.add_class.Goals as goal

pub loop-at-preserved : goal.loop-at-preserved
loop-at-preserved c = λ n.
    member_added c.args.class c.args.numbers.now c.loop-at.at n (place_in c.args.places.now n) (place_in c.loop-at.places n) (place_in c.add_place.new.places n)
    c.loop-at-test.true (c.loop-at.invariant n) (c.in_ok-add_place.ensures n)
