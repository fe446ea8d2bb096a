use Rattle.std.proofs.Common.{◌≡◌, ◌++◌, map, take}
use Rattle.th_narrow.specs.Rounds.{sure_cell, sure_element}
use Rattle.th_narrow.proofs.narrowing.all_links.Given as goal

-- the cells so far
abbrev pub invariant-loop-cell : goal.invariant-loop-cell
invariant-loop-cell l = l.all.items ≡ map (sure_cell l.syms) (take l.cell-index l.cell-items)

-- all cells, and the elements so far
abbrev pub invariant-loop-element : goal.invariant-loop-element
invariant-loop-element l = l.all.items ≡ map (sure_cell l.syms) l.query.cells ++ map (sure_element l.syms) (take l.element-index l.element-items)
