use Rattle.std.proofs.Common.{◌≡◌, ◌++◌, flat_map, take}
use Rattle.th_top.specs.RunText.{joined_line}
use Rattle.th_top.proofs.run_text.write_all_joined.Given as goal

-- the lines so far are written
abbrev pub invariant-loop-pair : goal.invariant-loop-pair
invariant-loop-pair l = l.text.items ≡ l.initial.text.items ++ flat_map (joined_line l.program) (take l.pair-index l.pairs)
