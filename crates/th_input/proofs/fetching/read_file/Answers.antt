use Rattle.std.proofs.Common.{rules, vec_len}
use Rattle.std.proofs.lemmas.Grind.{common_steps}
use Rattle.th_input.specs.Fetching.{IsFrontSoFar, EndsAt}
use Rattle.th_input.proofs.Fronts.{front_full, front_whole}
use Rattle.th_input.proofs.fetching.read_file.Goals as goal

-- nothing more came: what was read is the whole file
pub returns-then-branch-eq0-clause-front : goal.returns-then-branch-eq0-clause-front
returns-then-branch-eq0-clause-front g c =
    let told = g.F.Files.told in
    let name = c.args.name.now in
    let same = c.loop-files.invariant.same_files in
    let had : IsFrontSoFar (told c.loop-files.files) name c.loop-files.bytes.items = rw same c.loop-files.invariant.front in
    let front : IsFrontSoFar (told c.args.files.now) name c.read_more.new.bytes.items = rw (← same) (c.in_ok-read_more.ensures.front had) in
    let end : EndsAt (told c.args.files.now) name (vec_len c.loop-files.bytes) = rw (← same) (c.in_ok-read_more.ensures.end c.if-branch-eq0.true) in
    front_whole (told c.args.files.now) name c.read_more.new.bytes.items (vec_len c.loop-files.bytes) (grind (rules, common_steps)) (search rules) front end

-- as much was read as may be
pub returns-clause-front : goal.returns-clause-front
returns-clause-front g c =
    front_full (g.F.Files.told c.args.files.now) c.args.name.now c.loop-files.bytes.items (grind (rules, common_steps)) c.loop-files.invariant.front
