use Rattle.std.proofs.Common.{refl, sym, ◌∙◌, ap, arith, ◌≡◌, ◌&&◌, ◌||◌, ℕ, Bool, length}
use Rattle.std.specs.BTreeSet.{contains}
use Rattle.std.specs.List.{filter, range_with_len}
use Rattle.std.specs.Ordering.{nat_cmp}
use Rattle.th_base.specs.Launchable.{is_activity, is_launchable}
use Rattle.th_harness.proofs.Ranges.{passes, passed_over}
use Rattle.th_coarse.proofs.made.classes_in.Goals as goal
use Rattle.th_coarse.proofs.made.classes_in.Goals.{then-is_made+in_ok-push, else-is_made}

pub loop-number-preserved : goal.loop-number-preserved
loop-number-preserved c =
    let p : ℕ → Bool = λ k. is_activity c.args.hierarchy.now k && (is_launchable c.args.hierarchy.now k || contains nat_cmp c.args.created.now k) in
    elim c.if-is_made.branch [
      | then-is_made+in_ok-push w ↦ rw w.found-is
          (passes p c.loop-number.number c.loop-number.found.items w.push.new.self.items (record { 0 = c.loop-number.number }) refl (sym c.is_made.ensures ∙ w.if-is_made.true)
          c.loop-number.invariant w.in_ok-push.ensures.items)
      | else-is_made w ↦ rw w.found-is
          (passed_over p c.loop-number.number c.loop-number.found.items (sym c.is_made.ensures ∙ w.if-is_made.false) c.loop-number.invariant)
    ]

pub returns : goal.returns
returns c =
    let p : ℕ → Bool = λ k. is_activity c.args.hierarchy.now k && (is_launchable c.args.hierarchy.now k || contains nat_cmp c.args.created.now k) in
    let size = ap length c.classes-count.ensures.value in
    let all : c.loop-number.number ≡ length c.args.hierarchy.now = omega (arith, size) in
    c.loop-number.invariant ∙ ap (λ n. filter p (range_with_len 0 n)) all
