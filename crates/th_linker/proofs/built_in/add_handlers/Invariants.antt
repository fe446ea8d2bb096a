use Rattle.std.proofs.Common.{◌≡◌, ◌++◌, map, take}
use Rattle.th_base.specs.Handlers.{Handler}
use Rattle.th_syntax.specs.Program.{empty_handler}
use Rattle.th_linker.proofs.Handled.{handler_of}
use Rattle.th_linker.proofs.built_in.add_handlers.Given as goal

abbrev pub invariant-loop-name : goal.invariant-loop-name
invariant-loop-name l = l.methods ≡ l.initial.methods ++ map (λ h. empty_handler (handler_of h)) (take l.name-index l.name-items)
