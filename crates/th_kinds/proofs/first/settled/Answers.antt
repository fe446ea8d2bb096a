use Rattle.std.proofs.Common.{List, Option, length, sym, ap, subst, arith}
use Rattle.th_kinds.specs.declared.state.State.{State}
use Rattle.th_kinds.specs.States.{seen_state}
use Rattle.th_kinds.specs.Kept.{seen_kept, IsSettled}
use Rattle.th_kinds.proofs.Marks.{written_back}
use Rattle.th_kinds.proofs.first.settled.Goals as goal

pub returns-clause-settled : goal.returns-clause-settled
returns-clause-settled c =
    subst (λ (ks : List (Option State)). IsSettled (seen_state c.args.entry.now) c.args.code.now.instrs.now c.args.code.now.offsets.items (seen_kept ks))
    (sym (written_back c.fill.new.kept c.in_ok-kept.kept.items c.in_ok-kept.kept.len (let long = c.in_ok-fill.ensures.length in let same = ap length c.as_mut_slice.ensures.value in omega arith) (let ok = c.in_ok-kept.kept.ok in omega arith)))
    c.in_ok-fill.ensures.settled
