use Rattle.std.proofs.Common.{◌≡◌, take}
use Rattle.th_linear.specs.Gathered.{AreSmall, renamed_terms}
use Rattle.th_linear.proofs.gathering.rename.Given as goal

-- the terms so far are renamed
abbrev pub invariant-loop-term : goal.invariant-loop-term
invariant-loop-term l = record {
  renamed : l.renamed.items ≡ renamed_terms l.names (take l.term-index l.terms);
  small : AreSmall l.renamed.items;
}
