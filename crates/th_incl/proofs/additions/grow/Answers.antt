use Rattle.std.proofs.Common.{◌≡◌, ◌+◌, ◌∙◌, length, sym, ap, subst, arith}
use Rattle.th_incl.specs.Kept.{constraints_of, Kept}
use Rattle.th_incl.proofs.Added.{grown_inv, grown_tables, grown_queued, grown_pairs, grown_length}
use Rattle.th_incl.proofs.additions.grow.Goals as goal

pub returns-clause-kept : goal.returns-clause-kept
returns-clause-kept c =
    let s = c.args.system.now in
    let w = c.args.work.now in
    let n = c.args.sets in
    let v = c.requires.consistent in
    let e = c.in_ok-add_rows.ensures in
    let after = c.add_rows.new in
    let count : c.len-system.result ≡ s.sets + n = omega (arith, c.len-system.ensures, after.sets.ok.0, ap length e.sets, grown_length w.sets.items n, v.inv.sets_len) in
    subst (λ g. Kept record s { sets = c.len-system.result; out = after.out } record w { sets = after.sets; news = after.news; grown = g }) (sym c.in_ok-make_room.ensures)
    (subst (λ m. Kept record s { sets = m; out = after.out } record w { sets = after.sets; news = after.news }) (sym count) record {
      consistent = record {
        tables = rw e.out (grown_tables (constraints_of s) n s.out.items v.tables);
        inv = rw (e.sets, e.news) (grown_inv (constraints_of s) n w.sets.items w.news.items v.inv);
        pairs = rw e.sets (v.pairs ∙ sym (grown_pairs w.sets.items n));
      };
      queued = rw e.news (grown_queued s.sets n w.news.items w.queue.items c.requires.queued);
    })
