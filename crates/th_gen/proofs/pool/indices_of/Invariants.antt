use Rattle.std.proofs.Common.{◌≡◌, ◌≤◌, ◌++◌, drop}
use Rattle.std.specs.List.{list_all}
use Rattle.th_gen.specs.Items.{indices_from, index_behind}
use Rattle.th_gen.specs.ClassText.{fits_item}
use Rattle.th_gen.proofs.pool.indices_of.Given as goal

-- with those of the entries that are left, the indices and the count are those of all
abbrev pub invariant-loop-place : goal.invariant-loop-place
invariant-loop-place l =
    (l.indices.items ++ indices_from l.count (drop l.place l.items.keys) ≡ indices_from 1 l.items.keys)
    × (index_behind l.count (drop l.place l.items.keys) ≡ index_behind 1 l.items.keys)
    × (list_all fits_item (drop l.place l.items.keys) ≡ list_all fits_item l.items.keys)
    × (l.count ≤ 65535)
