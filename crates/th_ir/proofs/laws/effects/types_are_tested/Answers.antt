use Rattle.th_ir.proofs.WorkedEffects.{cast_passes, null_passes, cast_stops, instance_found, no_instance_found, null_is_none, store_stops, length_stops}
use Rattle.th_ir.proofs.laws.effects.types_are_tested.Goals as goal

pub returns : goal.returns
returns c = record { cast = cast_passes; cast_of_null = null_passes; no_cast = cast_stops; instance = instance_found; no_instance = no_instance_found; null = null_is_none; no_store = store_stops; no_length = length_stops }
