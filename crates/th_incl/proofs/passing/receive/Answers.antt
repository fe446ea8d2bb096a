use Rattle.std.proofs.Common.{◌≡◌, false, sym, ap, ◌∙◌, inl}
use Rattle.std.proofs.lemmas.Bool.{iff_false}
use Rattle.th_base.specs.IdSet.{has}
use Rattle.th_incl.specs.Least.{set_at}
use Rattle.th_incl.proofs.Through.{read_at, some_member}
use Rattle.th_incl.proofs.passing.receive.Goals as goal

pub returns : goal.returns
returns c =
    let s = read_at c.args.sets.now c.args.set c.index-sets-set.result c.index-sets-set.is c.requires.sets in
    let n = read_at c.args.news.now c.args.set c.index-news-set.result c.index-news-set.is c.requires.news in
    let absent : has (set_at c.args.sets.now c.args.set) c.args.id ≡ false = ap (λ l. has l c.args.id) (sym s) ∙ sym c.contains.ensures ∙ c.if-contains.false in
    rw absent record {
      news_len = c.add_to.ensures.len;
      here = c.in_ok-add_to.ensures.here;
      others = c.in_ok-add_to.ensures.others;
      queue_stays = λ k e. e;
      queued = λ x e. inl (some_member (set_at c.args.news.now c.args.set) (λ o. iff_false c.is_empty-had_none.ensures c.if-had_none.false (sym c.index-news-set.is ∙ n ∙ o)));
      inside = λ k e. inl e;
    }
