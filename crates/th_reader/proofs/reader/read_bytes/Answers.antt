use Rattle.std.proofs.Common.{◌∙◌, drop, sym, subst, Result}
use Rattle.std.proofs.lemmas.Result.{err_from_is_err_and}
use Rattle.th_syntax.specs.declared.class_file.ClassFile.{ClassFile}
use Rattle.th_syntax.specs.declared.refusal.Flaw.{Flaw}
use Rattle.th_syntax.specs.ClassBytes.{class_file}
use Rattle.th_pool.specs.Gives.{Answers}
use Rattle.th_reader.specs.RawView.{class_view}
use Rattle.th_reader.specs.Reads.{found}
use Rattle.th_reader.proofs.Checked.{magic_long, not_magic, items_stop, trailing_stop, items_read, is_whole, empty_is, not_empty}
use Rattle.th_reader.proofs.reader.read_bytes.Goals as goal

pub returns-then-not-has_magic : goal.returns-then-not-has_magic
returns-then-not-has_magic c = not_magic c.args.bytes.now (sym c.has_magic.ensures ∙ cc)

pub class_items-requires-clause-long : goal.class_items-requires-clause-long
class_items-requires-clause-long c = magic_long c.args.bytes.now (sym c.has_magic.ensures ∙ cc)

pub returns-in_err-class : goal.returns-in_err-class
returns-in_err-class c =
    let p = err_from_is_err_and c.from_residual.result c.from_residual.ensures.1 in
    rw (p.1, p.2) (items_stop (found class_view) c.args.bytes.now c.in_err-class.field-0.0 (sym c.has_magic.ensures ∙ cc) c.in_err-class.ensures)

pub returns-then-not-is_empty : goal.returns-then-not-is_empty
returns-then-not-is_empty c = trailing_stop c.args.bytes.now (class_view c.in_ok-class.class) c.in_ok-class.behind.at c.in_ok-class.behind.rest.now (sym c.has_magic.ensures ∙ cc) c.in_ok-class.ensures (not_empty c.in_ok-class.behind.rest.now c.is_empty.result c.is_empty.ensures cc)

pub read_checked-requires-clause-indices : goal.read_checked-requires-clause-indices
read_checked-requires-clause-indices c =
    let none = empty_is c.in_ok-class.behind.rest.now c.is_empty.result c.is_empty.ensures cc in
    c.flaws_ascend.ensures.indices c.args.bytes.now (class_view c.in_ok-class.class) (is_whole c.args.bytes.now (class_view c.in_ok-class.class) c.in_ok-class.behind.at c.in_ok-class.behind.rest.now (sym c.has_magic.ensures ∙ cc) ((c.class_reading.ensures.value class_file 4 (drop 4 c.args.bytes.now) (class_view c.in_ok-class.class) c.in_ok-class.behind.at c.in_ok-class.behind.rest.now).0 c.in_ok-class.ensures) none)

pub read_checked-requires-clause-names : goal.read_checked-requires-clause-names
read_checked-requires-clause-names c =
    let none = empty_is c.in_ok-class.behind.rest.now c.is_empty.result c.is_empty.ensures cc in
    c.flaws_ascend.ensures.names c.args.bytes.now (class_view c.in_ok-class.class) (is_whole c.args.bytes.now (class_view c.in_ok-class.class) c.in_ok-class.behind.at c.in_ok-class.behind.rest.now (sym c.has_magic.ensures ∙ cc) ((c.class_reading.ensures.value class_file 4 (drop 4 c.args.bytes.now) (class_view c.in_ok-class.class) c.in_ok-class.behind.at c.in_ok-class.behind.rest.now).0 c.in_ok-class.ensures) none)

pub read_checked-requires-clause-content : goal.read_checked-requires-clause-content
read_checked-requires-clause-content c =
    let none = empty_is c.in_ok-class.behind.rest.now c.is_empty.result c.is_empty.ensures cc in
    c.flaws_ascend.ensures.content c.args.bytes.now (class_view c.in_ok-class.class) (is_whole c.args.bytes.now (class_view c.in_ok-class.class) c.in_ok-class.behind.at c.in_ok-class.behind.rest.now (sym c.has_magic.ensures ∙ cc) ((c.class_reading.ensures.value class_file 4 (drop 4 c.args.bytes.now) (class_view c.in_ok-class.class) c.in_ok-class.behind.at c.in_ok-class.behind.rest.now).0 c.in_ok-class.ensures) none)

pub returns : goal.returns
returns c =
    let none = empty_is c.in_ok-class.behind.rest.now c.is_empty.result c.is_empty.ensures cc in
    let same = items_read c.args.bytes.now (class_view c.in_ok-class.class) c.in_ok-class.behind.at c.in_ok-class.behind.rest.now (sym c.has_magic.ensures ∙ cc) c.in_ok-class.ensures none in
    subst (λ (r : Result ClassFile Flaw). Answers {X = ClassFile} (λ value. value) c.read_checked.result r) (sym same) c.read_checked.ensures
