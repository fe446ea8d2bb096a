use Rattle.th_linker.proofs.BuiltIns.{joined}
use Rattle.th_linker.proofs.built_in.with_built_in.Goals as goal

pub returns : goal.returns
returns c =
    joined c.in_ok-classes.classes.items c.in_ok-exceptions.exceptions.items c.in_ok-interfaces.interfaces.items c.in_ok-platform.platform.items c.args.files.items c.add_all.new.classes.items c.add_all-2.new.classes.items c.add_all-3.new.classes.items c.add_all-4.new.classes.items
    c.in_ok-classes.ensures c.in_ok-exceptions.ensures c.in_ok-interfaces.ensures c.in_ok-platform.ensures c.in_ok-add_all.ensures c.in_ok-add_all-2.ensures c.in_ok-add_all-3.ensures c.in_ok-add_all-4.ensures
