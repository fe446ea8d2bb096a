use Rattle.th_gen.proofs.Generating.{one_made, one_more}
use Rattle.th_gen.proofs.generator.generate.Goals as goal

pub loop-number-init : goal.loop-number-init
loop-number-init c = one_made _ _ c.new-files.result.items c.push.new.self.items c.in_ok-vector.vector c.new-files.ensures.items c.in_ok-push.ensures.items c.in_ok-vector.ensures

pub loop-number-preserved : goal.loop-number-preserved
loop-number-preserved c = one_more _ _ c.loop-number.files.items c.push-in-loop-number.new.self.items c.in_ok-file.file c.loop-number.number c.in_ok-push-2.ensures.items c.in_ok-file.ensures c.loop-number.invariant
