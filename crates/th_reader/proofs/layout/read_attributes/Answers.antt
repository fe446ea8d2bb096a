use Rattle.std.proofs.Common.{map}
use Rattle.std.proofs.lemmas.List.{map-append}
use Rattle.std.proofs.lemmas.Result.{err_from_is_err_and}
use Rattle.th_syntax.specs.Forms.{read}
use Rattle.th_syntax.specs.ClassBytes as file
use Rattle.th_reader.specs.RawView.{attribute_view}
use Rattle.th_reader.specs.Reads.{found}
use Rattle.th_reader.proofs.Counted.{goes_on, ends_so, is_done, begins, no_count}
use Rattle.th_reader.proofs.layout.read_attributes.Goals as goal

pub returns-in-Err : goal.returns-in-Err
returns-in-Err c = no_count file.attribute c.args.from.at c.args.from.rest.now c.in-Err.flaw c.in-Err.ensures

pub loop-init : goal.loop-init
loop-init c =
    rw c.new-attributes.ensures.items
    (begins file.attribute c.args.from.at c.in-Ok.found.0 c.args.from.at c.in-Ok.found.1.at c.args.from.rest.now c.in-Ok.found.1.rest.now c.in-Ok.ensures)

pub returns-in_err-attribute : goal.returns-in_err-attribute
returns-in_err-attribute c =
    let p = err_from_is_err_and c.from_residual.result c.from_residual.ensures.1 in
    rw (p.1, p.2)
    (ends_so (found attribute_view) file.attribute c.in_err-attribute.field-0.0 (map attribute_view c.loop.attributes.items) c.in-Ok.found.0 c.loop.counter c.loop.place.at c.loop.place.rest.now (read (file.counted file.attribute) c.args.from.at c.args.from.rest.now) c.loop-test.true c.in_err-attribute.ensures c.loop.invariant)

pub loop-preserved : goal.loop-preserved
loop-preserved c =
    rw (c.in_ok-push.ensures.items, map-append)
    (goes_on file.attribute (map attribute_view c.loop.attributes.items) c.in-Ok.found.0 c.loop.counter c.loop.place.at c.loop.place.rest.now (attribute_view c.in_ok-attribute.attribute) c.in_ok-attribute.after.at c.in_ok-attribute.after.rest.now (read (file.counted file.attribute) c.args.from.at c.args.from.rest.now) c.loop-test.true c.in_ok-attribute.ensures c.loop.invariant)

pub returns : goal.returns
returns c = is_done file.attribute (map attribute_view c.loop.attributes.items) c.in-Ok.found.0 c.loop.counter c.loop.place.at c.loop.place.rest.now (read (file.counted file.attribute) c.args.from.at c.args.from.rest.now) c.loop-test.false c.loop.invariant
