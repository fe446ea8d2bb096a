use Rattle.std.proofs.Common.{◌≡◌, ◌≤◌, [], take, drop}
use Rattle.th_query.specs.Unified.{put_new}
use Rattle.th_steps.proofs.firsts.move_firsts.Given as goal

-- those that are kept, and what is left
abbrev pub invariant-loop-i : goal.invariant-loop-i
invariant-loop-i g l = (l.kept ≤ l.i) × (put_new g.A.Alike.alike (take l.kept l.items) (drop l.i l.items) ≡ put_new g.A.Alike.alike [] l.fn.items)
