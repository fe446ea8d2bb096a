use Rattle.std.proofs.Common.{refl, sym, ◌∙◌, ap, arith, ◌≡◌, length}
use Rattle.std.specs.List.{filter, range_with_len}
use Rattle.th_base.specs.Launchable.{is_launchable}
use Rattle.th_harness.proofs.Ranges.{passes, passed_over}
use Rattle.th_harness.proofs.launches.launchable_in.Goals as goal
use Rattle.th_harness.proofs.launches.launchable_in.Goals.{then-is_launchable+in_ok-push, else-is_launchable}

pub loop-number-preserved : goal.loop-number-preserved
loop-number-preserved c =
    let p = is_launchable c.args.hierarchy.now in
    elim c.if-is_launchable.branch [
      | then-is_launchable+in_ok-push w ↦ rw w.found-is
          (passes p c.loop-number.number c.loop-number.found.items w.push.new.self.items (record { 0 = c.loop-number.number }) refl (sym c.is_launchable.ensures ∙ w.if-is_launchable.true)
          c.loop-number.invariant w.in_ok-push.ensures.items)
      | else-is_launchable w ↦ rw w.found-is
          (passed_over p c.loop-number.number c.loop-number.found.items (sym c.is_launchable.ensures ∙ w.if-is_launchable.false) c.loop-number.invariant)
    ]

pub returns : goal.returns
returns c =
    let size = ap length c.classes-count.ensures.value in
    let all : c.loop-number.number ≡ length c.args.hierarchy.now = omega (arith, size) in
    c.loop-number.invariant ∙ ap (λ n. filter (is_launchable c.args.hierarchy.now) (range_with_len 0 n)) all
