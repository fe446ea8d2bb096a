use Rattle.std.proofs.Common.{◌≡◌, ◌<◌, [], length, sym, ap, ◌∙◌, inl, inr, arith}
use Rattle.std.proofs.lemmas.Bool.{both_ways, iff_false}
use Rattle.th_base.specs.IdSet.{has}
use Rattle.th_base.proofs.Membership.{has_append_left, has_push, has_push_cases}
use Rattle.th_incl.specs.Least.{set_at}
use Rattle.th_incl.proofs.Through.{read_at, some_member}
use Rattle.th_incl.proofs.passing.deliver.Goals as goal
use Rattle.th_incl.proofs.passing.deliver.Goals.{else-had_none-via-then-had_none+else-not-is_empty, else-had_none-via-else-had_none}

pub returns-then-not-is_empty : goal.returns-then-not-is_empty
returns-then-not-is_empty c =
    let j = c.args.inclusion in
    let f = read_at c.args.filters.now j.filter c.index-filters-inclusion.result c.index-filters-inclusion.is c.requires.filter in
    let s = read_at c.args.sets.now j.to c.index-sets-to.result c.index-sets-to.is c.requires.sets in
    rw c.in_ok-push.ensures.items record {
      news_len = c.pass_to.ensures.len;
      here = rw (← f, ← s) c.in_ok-pass_to.ensures.here;
      others = c.in_ok-pass_to.ensures.others;
      queue_stays = λ k e. has_append_left c.args.queue.now.items _ k e;
      queued = λ x e. inr (has_push c.args.queue.now.items j.to);
      inside = has_push_cases c.args.queue.now.items j.to;
    }

pub returns : goal.returns
returns c =
    let j = c.args.inclusion in
    let f = read_at c.args.filters.now j.filter c.index-filters-inclusion.result c.index-filters-inclusion.is c.requires.filter in
    let s = read_at c.args.sets.now j.to c.index-sets-to.result c.index-sets-to.is c.requires.sets in
    record {
      news_len = c.pass_to.ensures.len;
      here = rw (← f, ← s) c.in_ok-pass_to.ensures.here;
      others = c.in_ok-pass_to.ensures.others;
      queue_stays = λ k e. e;
      queued = λ x e. elim c.else-had_none.branch [
        | else-had_none-via-then-had_none+else-not-is_empty w ↦
            let there : j.to < length c.pass_to.new.news = omega (arith, c.requires.news, c.pass_to.ensures.len) in
            let r = read_at c.pass_to.new.news j.to w.index-news-to-then-had_none.result w.index-news-to-then-had_none.is there in
            let none : set_at c.pass_to.new.news j.to ≡ [] = sym r ∙ w.index-news-to-then-had_none.is ∙ w.is_empty.ensures.0 w.if-not-is_empty.false in
            absurd (both_ways _ (ap (λ l. has l x) none) e)
        | else-had_none-via-else-had_none w ↦
            let r = read_at c.args.news.now j.to c.index-news-to.result c.index-news-to.is c.requires.news in
            inl (some_member (set_at c.args.news.now j.to) (λ n. iff_false c.is_empty-had_none.ensures w.if-had_none.false (sym c.index-news-to.is ∙ r ∙ n)))
      ];
      inside = λ k e. inl e;
    }
