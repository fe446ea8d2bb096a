use Rattle.std.proofs.Common.{◌≡◌, true, ◌++◌, take}
use Rattle.std.specs.List.{flat_map, list_all}
use Rattle.th_gen.specs.ClassText as text
use Rattle.th_gen.proofs.finish.put_methods.Given as goal

-- those before this one were written, and had room
abbrev pub invariant-loop-method : goal.invariant-loop-method
invariant-loop-method l =
    (l.out.items ≡ l.initial.out.items ++ flat_map (text.method_bytes l.pool.items.keys) (take l.method-index l.methods))
    × (list_all (text.fits_method l.pool.items.keys) (take l.method-index l.methods) ≡ true)
