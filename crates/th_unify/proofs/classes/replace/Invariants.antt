use Rattle.std.proofs.Common.{◌≡◌, ◌++◌, map, take, drop}
use Rattle.th_unify.specs.Classes.{put_for}
use Rattle.th_unify.proofs.classes.replace.Given as goal

-- the numbers before this place were replaced
abbrev pub invariant-loop-name : goal.invariant-loop-name
invariant-loop-name l = l.names ≡ map (put_for l.old l.new) (take l.name-index l.fn.names) ++ drop l.name-index l.fn.names
