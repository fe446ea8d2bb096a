use Rattle.std.proofs.Common.{◌≡◌, filter_map, take}
use Rattle.th_syntax.specs.Program.{id_named}
use Rattle.th_linker.proofs.infos.ids_of.Given as goal

abbrev pub invariant-loop-name : goal.invariant-loop-name
invariant-loop-name l = l.ids ≡ filter_map (id_named l.classes) (take l.name-index l.names)
