-- The command that words ask for.
use Rattle.std.specs.Prelude.{List, map, string_bytes, Result}
use Rattle.std.specs.declared.string.String.{String}
use Rattle.std.specs.declared.alloc.Global.{Global}
use Rattle.th_base.specs.declared.lifecycle.Lifecycle.{Lifecycle}
use Rattle.th_words.specs.Reading.{command_of}
use Rattle.th_words.specs.declared.command.Command.{Command}
use Rattle.th_words.specs.declared.command.Command.TheVariants.{Check, Run}
use Rattle.th_words.specs.declared.command.UsageFault.{UsageFault}

-- the command that the words ask for, or what is wrong with them
abbrev pub asked : List (String Global) → Result Command UsageFault
asked words = command_of (map string_bytes words)

-- the order in which the handlers of an Activity may be called
abbrev pub lifecycle_in : Command → Lifecycle
lifecycle_in (Check budget workers list lifecycle files) = lifecycle
lifecycle_in (Run script fuel lifecycle files) = lifecycle
