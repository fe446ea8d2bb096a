use Rattle.std.proofs.Common.{◌≡◌, [], ◌∷◌, ◌∙◌, sym, subst}
use Rattle.std.specs.Vec.{with_items}
use Rattle.std.proofs.lemmas.List.{with_items_is}
use Rattle.th_incl.specs.Least.{set_at}
use Rattle.th_incl.specs.Parts.{lacking}
use Rattle.th_incl.specs.Run.{Receives}
use Rattle.th_incl.specs.Kept.{constraints_of, Kept}
use Rattle.th_incl.specs.declared.work.Work.{Work}
use Rattle.th_incl.proofs.Added.{base_inv, base_tables, received_in_queue}
use Rattle.th_incl.proofs.additions.add_base.Goals as goal

pub returns-clause-kept : goal.returns-clause-kept
returns-clause-kept c =
    let s = c.args.system.now in
    let w = c.args.work.now in
    let v = c.requires.kept.consistent in
    let i = c.args.set in
    let x = c.args.id in
    let r1 = subst (λ l. Receives i (lacking (x ∷ []) (set_at l i)) c.as_mut_slice.result.now w.queue.items c.receive.new.news c.receive.new.queue.items) c.as_slice.ensures.value c.in_ok-receive.ensures in
    let r2 = subst (λ l. Receives i (lacking (x ∷ []) (set_at w.sets.items i)) l w.queue.items c.receive.new.news c.receive.new.queue.items) c.as_mut_slice.ensures.value r1 in
    let news_are : (with_items w.news c.receive.new.news).items ≡ c.receive.new.news = with_items_is w.news c.receive.new.news (r2.news_len ∙ sym w.news.ok.0) in
    let r = subst (λ l. Receives i (lacking (x ∷ []) (set_at w.sets.items i)) w.news.items w.queue.items l c.receive.new.queue.items) (sym news_are) r2 in
    let after : Work = record w { news = with_items w.news c.receive.new.news; queue = c.receive.new.queue } in
    subst (λ b. Kept record s { base = b } after) (sym c.in_ok-push.ensures.ok) record {
      consistent = record {
        tables = base_tables (constraints_of s) i x s.out.items c.requires.inside v.tables;
        inv = base_inv (constraints_of s) i x w.sets.items w.news.items after.news.items w.queue.items after.queue.items r v.inv;
        pairs = v.pairs;
      };
      queued = received_in_queue s.sets i (lacking (x ∷ []) (set_at w.sets.items i)) w.news.items after.news.items w.queue.items after.queue.items c.requires.inside r c.requires.kept.queued;
    }
