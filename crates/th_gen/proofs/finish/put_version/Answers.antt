use Rattle.th_syntax.specs.ClassBytes.{magic}
use Rattle.th_gen.specs.ClassText.{u2}
use Rattle.th_gen.proofs.Joined.{three_joined}
use Rattle.th_gen.proofs.finish.put_version.Goals as goal

pub returns : goal.returns
returns c =
    three_joined c.args.out.now.items c.extend_from_slice.new.self.items c.put_u2.new.out.items c.put_u2-2.new.out.items magic (u2 0) (u2 52) c.in_ok-extend_from_slice.ensures.items c.in_ok-put_u2.ensures c.in_ok-put_u2-2.ensures
