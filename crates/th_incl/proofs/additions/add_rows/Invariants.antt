use Rattle.std.proofs.Common.{◌≡◌, ◌++◌, [], replicate}
use Rattle.th_incl.proofs.additions.add_rows.Given as goal

abbrev pub invariant-loop : goal.invariant-loop
invariant-loop l = record {
  sets_are : l.sets.items ≡ l.fn.sets.items ++ replicate l.counter [];
  news_are : l.news.items ≡ l.fn.news.items ++ replicate l.counter [];
  out_are : l.out.items ≡ l.fn.out.items ++ replicate l.counter [];
}
