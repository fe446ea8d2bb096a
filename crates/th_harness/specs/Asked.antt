-- Private to the reader of scripts: what a line asks for, as the reader holds it.
use Rattle.th_harness.specs.declared.line.Order as held
use Rattle.th_harness.specs.declared.line.Order.TheVariants as held_as
use Rattle.th_harness.specs.Script.{Order, launches, calls}

-- an order as the definitions have it
abbrev pub asked : held.Order → Order
asked (held_as.Launch name) = launches name.now
asked (held_as.Call event) = calls event
