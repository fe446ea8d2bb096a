use Rattle.std.proofs.Common.{sym, ◌∙◌, refl}
use Rattle.th_words.proofs.WalkedWords.{no_pieces}
use Rattle.th_words.proofs.given.given.Goals as goal

pub returns-then-not-is_well_formed-clause-refused : goal.returns-then-not-is_well_formed-clause-refused
returns-then-not-is_well_formed-clause-refused c = (no_pieces _ (sym c.is_well_formed.ensures ∙ c.if-not-is_well_formed.true), refl)
