use Rattle.th_syntax.specs.Program.{id_named}
use Rattle.th_linker.proofs.Known.{id_pushed, no_id_pushed}
use Rattle.th_linker.proofs.infos.ids_of.Goals as goal
use Rattle.th_linker.proofs.infos.ids_of.Goals.{in-Some+in_ok-push-in-Some, in-None}

pub loop-name-preserved : goal.loop-name-preserved
loop-name-preserved c =
    let names = c.args.names.now in
    let i = c.loop-name.name-index in
    let x = c.name-item.result in
    elim c.match-id.branch [
      | in-Some+in_ok-push-in-Some w ↦ rw w.ids-is (id_pushed (id_named c.args.classes.now) names i x w.in-Some.id c.loop-name.ids w.push.new.self c.loop-name-test.true c.name-item.is w.in-Some.ensures c.loop-name.invariant w.in_ok-push-in-Some.ensures.ok)
      | in-None w ↦ rw w.ids-is (no_id_pushed (id_named c.args.classes.now) names i x c.loop-name.ids c.loop-name-test.true c.name-item.is w.in-None.ensures c.loop-name.invariant)
    ]
