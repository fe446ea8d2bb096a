use Rattle.std.proofs.Common.{◌≡◌, ◌++◌, drop}
use Rattle.th_gen.specs.ClassText as text
use Rattle.th_gen.proofs.code.put_code.Given as goal

-- with the instructions that are left, all are written
abbrev pub invariant-loop-place : goal.invariant-loop-place
invariant-loop-place l =
    l.out.items ++ text.code_from l.pool.items.keys l.starts (drop l.place l.starts) (drop l.place l.instrs) ≡ l.initial.out.items ++ text.code_from l.pool.items.keys l.starts l.starts l.instrs
