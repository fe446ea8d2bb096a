use Rattle.std.proofs.Common.{◌≡◌, ◌+◌, ◌<◌, ◌∙◌, ap, length, arith}
use Rattle.th_linker.proofs.Known.{few_files, files_length}
use Rattle.th_linker.proofs.Ordered.{file_at}
use Rattle.th_linker.proofs.program.class_at.Goals as goal

pub overflow_add-number : goal.overflow_add-number
overflow_add-number c =
    let few = few_files c.args.program.now c.hierarchy.result.now c.hierarchy.ensures c.classes-classes.ensures.few in
    omega (arith, few)

pub prove-unreachable-requires : goal.prove-unreachable-requires
prove-unreachable-requires c =
    let same = files_length c.args.program.now c.classes-classes.result.now (c.classes-classes.ensures.value ∙ c.hierarchy.ensures) in
    omega (arith, same)

pub returns : goal.returns
returns c = file_at c.args.program.now c.args.at
