use Rattle.std.proofs.Common.{◌≡◌, ◌+◌, ◌<◌, ◌≤◌, ◌^◌, length, take, sum_by, ap, sym, subst, ◌∙◌, arith}
use Rattle.th_syntax.specs.declared.class_file.ClassFile.{ClassFile}
use Rattle.th_syntax.specs.Program.{class_infos}
use Rattle.th_linker.proofs.Known.{within_all, counted_more, classes_pushed}
use Rattle.th_linker.proofs.infos.class_infos.Goals as goal

pub class_info-requires-clause-fields : goal.class_info-requires-clause-fields
class_info-requires-clause-fields c =
    let f : ClassFile → _ = λ k. length k.fields in
    let room = within_all f c.all-class-items.result.now c.loop-class.class-index c.class-item.result c.loop-class-test.true c.class-item.is in
    let whole = ap (sum_by f) c.all-class-items.ensures in
    let few = c.requires.fields in
    let so_far = c.loop-class.invariant.fields in
    omega (arith, room, whole, few, so_far)

pub class_info-requires-clause-methods : goal.class_info-requires-clause-methods
class_info-requires-clause-methods c =
    let f : ClassFile → _ = λ k. length k.methods in
    let room = within_all f c.all-class-items.result.now c.loop-class.class-index c.class-item.result c.loop-class-test.true c.class-item.is in
    let whole = ap (sum_by f) c.all-class-items.ensures in
    let few = c.requires.methods in
    let so_far = c.loop-class.invariant.methods in
    omega (arith, room, whole, few, so_far)

pub loop-class-preserved : goal.loop-class-preserved
loop-class-preserved c =
    let i = c.loop-class.class-index in
    let x = c.class-item.result in
    let more_fields = counted_more (λ (k : ClassFile). length k.fields) c.all-class-items.result.now i x c.loop-class-test.true c.class-item.is in
    let more_methods = counted_more (λ (k : ClassFile). length k.methods) c.all-class-items.result.now i x c.loop-class-test.true c.class-item.is in
    record {
      made = classes_pushed c.args.classes.now c.all-class-items.result.now i c.loop-class.field c.loop-class.method x c.loop-class.infos.items c.push.new.self.items c.in_ok-info.info c.loop-class-test.true c.class-item.is
          c.loop-class.invariant.made c.loop-class.invariant.fields c.loop-class.invariant.methods c.in_ok-info.ensures c.in_ok-push.ensures.items;
      fields = omega (arith, more_fields, c.loop-class.invariant.fields);
      methods = omega (arith, more_methods, c.loop-class.invariant.methods);
    }

pub overflow_add-field : goal.overflow_add-field
overflow_add-field c =
    let f : ClassFile → _ = λ k. length k.fields in
    let room = within_all f c.all-class-items.result.now c.loop-class.class-index c.class-item.result c.loop-class-test.true c.class-item.is in
    let whole = ap (sum_by f) c.all-class-items.ensures in
    let few = c.requires.fields in
    let so_far = c.loop-class.invariant.fields in
    omega (arith, room, whole, few, so_far)

pub overflow_add-method : goal.overflow_add-method
overflow_add-method c =
    let f : ClassFile → _ = λ k. length k.methods in
    let room = within_all f c.all-class-items.result.now c.loop-class.class-index c.class-item.result c.loop-class-test.true c.class-item.is in
    let whole = ap (sum_by f) c.all-class-items.ensures in
    let few = c.requires.methods in
    let so_far = c.loop-class.invariant.methods in
    omega (arith, room, whole, few, so_far)
