use Rattle.std.proofs.Common.{◌≡◌, map, take}
use Rattle.clap.specs.Words.{app_of}
use Rattle.th_words.specs.Told.{option_rule, app_with}
use Rattle.th_words.proofs.given.told.Given as goal

abbrev pub invariant-loop-name : goal.invariant-loop-name
invariant-loop-name l = app_of l.command ≡ app_with (map option_rule (map (λ n. n.now) (take l.name-index l.names)))
