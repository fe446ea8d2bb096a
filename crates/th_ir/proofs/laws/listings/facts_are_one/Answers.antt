use Rattle.th_ir.proofs.Listings.{one_facts, one_summaries}
use Rattle.th_ir.proofs.laws.listings.facts_are_one.Goals as goal

pub returns-clause-facts : goal.returns-clause-facts
returns-clause-facts c = λ h p a b one two. one_facts h p a b one two

pub returns-clause-mods : goal.returns-clause-mods
returns-clause-mods c = λ h p facts a b one two. one_summaries h p facts a b one two
