use Rattle.std.proofs.Common.{◌≡◌, ◌++◌, drop, map}
use Rattle.th_linear.specs.Gathered.{renamed_form}
use Rattle.th_query.specs.Unified.{present}
use Rattle.th_steps.proofs.renaming.rename_facts.Given as goal

-- what is left comes after
abbrev pub invariant-loop-fact : goal.invariant-loop-fact
invariant-loop-fact l = l.kept.items ++ present (map (renamed_form l.names) (drop l.fact-index l.facts)) ≡ present (map (renamed_form l.names) l.facts)
