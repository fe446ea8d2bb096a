use Rattle.std.proofs.Common.{◌≡◌, map, take}
use Rattle.th_input.specs.Input.{AreRead, total}
use Rattle.th_input.proofs.class_files.fetch_all.Given as goal

-- the files of the names so far were read, and nothing failed
abbrev pub invariant-loop-name : goal.invariant-loop-name
invariant-loop-name g l =
    let told = g.F.Files.told in
    record {
      read : AreRead (told l.fn.files) (map (λ n. n.now) (take l.name-index l.names)) l.contents;
      sum : l.total ≡ total l.contents;
      count : g.F.Files.faults l.files ≡ g.F.Files.faults l.fn.files;
      failed : g.F.Files.failed l.files ≡ g.F.Files.failed l.fn.files;
      same_steady : g.F.Files.steady l.files ≡ g.F.Files.steady l.fn.files;
      same_files : told l.files ≡ told l.fn.files;
    }
