use Rattle.std.proofs.Common.{◌≡◌, ◌<◌, ◌≤◌, ◌-◌, vec_len}
use Rattle.th_outside.specs.Store.{Lacks}
use Rattle.th_input.specs.Fetching.{IsFrontSoFar}
use Rattle.th_input.proofs.fetching.read_file.Given as goal

-- a front of the file was read, and nothing failed
abbrev pub invariant-loop-files : goal.invariant-loop-files
invariant-loop-files g l =
    let told = g.F.Files.told in
    record {
      bound : vec_len l.bytes ≤ 16777217;
      front : IsFrontSoFar (told l.fn.files) l.name l.bytes.items;
      there : 0 < vec_len l.bytes → Lacks (told l.fn.files) l.name → ⊥;
      count : g.F.Files.faults l.files ≡ g.F.Files.faults l.fn.files;
      failed : g.F.Files.failed l.files ≡ g.F.Files.failed l.fn.files;
      same_steady : g.F.Files.steady l.files ≡ g.F.Files.steady l.fn.files;
      same_files : told l.files ≡ told l.fn.files;
    }

abbrev pub decreases-loop-files : goal.decreases-loop-files
decreases-loop-files g l = 16777217 - vec_len l.bytes
