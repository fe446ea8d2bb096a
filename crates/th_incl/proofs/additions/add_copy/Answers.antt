use Rattle.std.proofs.Common.{◌≡◌, ◌∙◌, sym, subst, arith}
use Rattle.std.specs.Vec.{with_items}
use Rattle.std.proofs.lemmas.List.{with_items_is}
use Rattle.th_incl.specs.Least.{set_at}
use Rattle.th_incl.specs.Parts.{missing}
use Rattle.th_incl.specs.Run.{Tables, Receives}
use Rattle.th_incl.specs.Kept.{constraints_of, Kept}
use Rattle.th_incl.specs.declared.work.Work.{Work}
use Rattle.th_incl.proofs.Through.{read_at}
use Rattle.th_incl.proofs.Added.{more_copy, copy_inv, copy_tables, received_in_queue}
use Rattle.th_incl.proofs.additions.add_copy.Goals as goal

pub returns-clause-kept : goal.returns-clause-kept
returns-clause-kept c =
    let s = c.args.system.now in
    let w = c.args.work.now in
    let v = c.requires.kept.consistent in
    let j = c.args.inclusion in
    let from = c.ids.ensures.value ∙ read_at w.sets.items j.from c.index.result.now c.index.ensures (omega (arith, c.requires.from, v.inv.sets_len)) in
    let r1 = subst (λ l. Receives j.to (missing c.ids.result.now (set_at l j.filter) (set_at c.as_slice-2.result.now j.to)) c.as_mut_slice.result.now w.queue.items c.deliver.new.news c.deliver.new.queue.items) c.as_slice.ensures c.in_ok-deliver.ensures in
    let r2 = subst (λ l. Receives j.to (missing c.ids.result.now (set_at s.filters j.filter) (set_at l j.to)) c.as_mut_slice.result.now w.queue.items c.deliver.new.news c.deliver.new.queue.items) c.as_slice-2.ensures.value r1 in
    let r3 = subst (λ l. Receives j.to (missing l (set_at s.filters j.filter) (set_at w.sets.items j.to)) c.as_mut_slice.result.now w.queue.items c.deliver.new.news c.deliver.new.queue.items) from r2 in
    let ids = missing (set_at w.sets.items j.from) (set_at s.filters j.filter) (set_at w.sets.items j.to) in
    let r4 = subst (λ l. Receives j.to ids l w.queue.items c.deliver.new.news c.deliver.new.queue.items) c.as_mut_slice.ensures.value r3 in
    let news_are : (with_items w.news c.deliver.new.news).items ≡ c.deliver.new.news = with_items_is w.news c.deliver.new.news (r4.news_len ∙ sym w.news.ok.0) in
    let r = subst (λ l. Receives j.to ids w.news.items w.queue.items l c.deliver.new.queue.items) (sym news_are) r4 in
    let after : Work = record w { news = with_items w.news c.deliver.new.news; queue = c.deliver.new.queue } in
    subst (λ b. Kept record s { copies = b; out = c.put_out.new.out } after) (sym c.in_ok-push.ensures.ok) record {
      consistent = record {
        tables = subst (λ o. Tables (more_copy (constraints_of s) j) o) (sym c.in_ok-put_out.ensures) (copy_tables (constraints_of s) j s.out.items c.requires.from c.requires.to c.requires.filter v.tables);
        inv = copy_inv (constraints_of s) j w.sets.items w.news.items after.news.items w.queue.items after.queue.items r v.inv;
        pairs = v.pairs;
      };
      queued = received_in_queue s.sets j.to ids w.news.items after.news.items w.queue.items after.queue.items c.requires.to r c.requires.kept.queued;
    }
