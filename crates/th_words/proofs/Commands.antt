-- What may be wrong with words that begin with a command's name.
use Rattle.std.proofs.Common.{◌≡◌, true, List, ◌∷◌, map, Option, Some, None, Err, ap, sym, ◌∙◌}
use Rattle.std.specs.Prelude.{find}
use Rattle.std.specs.Option.{ok_or, option_map_or}
use Rattle.std.specs.Str.{bytes_eq}
use Rattle.th_words.specs.Pieces.{Word}
use Rattle.th_words.specs.Table.{CommandRow, table}
use Rattle.th_words.specs.Reading.{command_in, command_of}
use Rattle.th_words.specs.declared.command.Command.{Command}
use Rattle.th_words.specs.declared.command.UsageFault.{UsageFault}
use Rattle.th_words.specs.declared.command.UsageFault.TheVariants.{UnknownCommand, BadWords}
use Rattle.th_words.proofs.Arguments.{equal_texts}

only_bad : (asked : Option Command) (fault : UsageFault) → ok_or asked BadWords ≡ Err fault → fault ≡ BadWords
only_bad None fault e = cc
only_bad (Some command) fault e = cc

-- words that begin with the name of a row have no other fault, where the table has the row under its name
pub known_fault : {S : Type 0} (t : S → Word) (words : List S) (word : S) (rest : List S) (text : Word) (row : CommandRow) (fault : UsageFault)
    → words ≡ word ∷ rest → text ≡ t word → bytes_eq text row.name ≡ true → find (λ r. bytes_eq r.name row.name) table ≡ Some row
    → command_of (map t words) ≡ Err fault → fault ≡ BadWords
known_fault t words word rest text row fault first is named has e =
    let same = sym is ∙ equal_texts text row.name named in
    let found = ap (λ x. find (λ r. bytes_eq r.name x) table) same ∙ has in
    only_bad (command_in row (map t rest)) fault
    (sym (ap (λ o. option_map_or (λ r. ok_or (command_in r (map t rest)) BadWords) o (Err UnknownCommand)) found) ∙ sym (ap (λ l. command_of (map t l)) first) ∙ e)
