use Rattle.std.proofs.Common.{◌≡◌, ◌++◌, drop}
use Rattle.std.specs.List.{flat_map}
use Rattle.th_gen.specs.ClassText as text
use Rattle.th_gen.proofs.write.put_pool.Given as goal

-- with the entries that are left, all are written
abbrev pub invariant-loop-place : goal.invariant-loop-place
invariant-loop-place l =
    l.out.items ++ flat_map (text.entry_bytes l.pool.items.keys) (drop l.place l.pool.items.keys) ≡ l.initial.out.items ++ flat_map (text.entry_bytes l.pool.items.keys) l.pool.items.keys
