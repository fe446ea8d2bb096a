use Rattle.std.proofs.Common.{◌∙◌, ap, sym, subst, Result}
use Rattle.std.proofs.lemmas.Result.{err_from_is_err_and}
use Rattle.th_syntax.specs.declared.refusal.Flaw.{Flaw}
use Rattle.th_syntax.specs.Forms.{Found, read}
use Rattle.th_syntax.specs.ClassBytes as file
use Rattle.th_syntax.specs.ClassBytes.{class_file}
use Rattle.th_pool.specs.Gives.{Answers}
use Rattle.th_reader.specs.RawView.{index_view, class_view}
use Rattle.th_reader.specs.Reads.{found}
use Rattle.th_reader.specs.ClassParts.{behind_version}
use Rattle.th_reader.proofs.Stopping.{stops_first, stops_later}
use Rattle.th_reader.proofs.Placing.{place_in_file, class_is, class_unknown}
use Rattle.th_reader.proofs.class_layout.class_items.Goals as goal

pub returns-in_err-_minor : goal.returns-in_err-_minor
unfolding class_file
returns-in_err-_minor c =
    let p = err_from_is_err_and c.from_residual.result c.from_residual.ensures.1 in
    rw (p.1, p.2, ← c.split_at.ensures.back)
    (stops_first (found index_view) c.in_err-_minor.field-0.0 file.u2 _ 4 c.split_at.result.1.now c.in_err-_minor.ensures)

pub returns-in_err-major : goal.returns-in_err-major
unfolding class_file
returns-in_err-major c =
    let p = err_from_is_err_and c.from_residual-in_err-major.result c.from_residual-in_err-major.ensures.1 in
    rw (p.1, p.2, ← c.split_at.ensures.back)
    (stops_later c.in_err-major.field-0.0 file.u2 _ 4 c.split_at.result.1.now (index_view c.in_ok-_minor._minor, c.in_ok-_minor.place.at, c.in_ok-_minor.place.rest.now) c.in_ok-_minor.ensures
    (stops_first (found index_view) c.in_err-major.field-0.0 file.u2 _ c.in_ok-_minor.place.at c.in_ok-_minor.place.rest.now c.in_err-major.ensures))

pub returns-then-not-known : goal.returns-then-not-known
returns-then-not-known c =
    ap (read class_file 4) (sym c.split_at.ensures.back)
    ∙ class_unknown c.split_at.result.1.now (index_view c.in_ok-_minor._minor) (index_view c.in_ok-major.major) c.in_ok-_minor.place.at c.in_ok-major.place.at c.in_ok-_minor.place.rest.now c.in_ok-major.place.rest.now c.in_ok-_minor.ensures c.in_ok-major.ensures (sym c.is_known-known.ensures ∙ cc)

pub class_behind_version-requires-clause-within : goal.class_behind_version-requires-clause-within
class_behind_version-requires-clause-within c =
    let one = place_in_file file.u2 4 c.args.bytes.now c.split_at.result.1.now _ c.requires.long c.split_at.ensures.back c.in_ok-_minor.ensures in
    (place_in_file file.u2 c.in_ok-_minor.place.at c.args.bytes.now c.in_ok-_minor.place.rest.now _ one.0 one.1 c.in_ok-major.ensures).0

pub returns : goal.returns
returns c =
    let one = place_in_file file.u2 4 c.args.bytes.now c.split_at.result.1.now _ c.requires.long c.split_at.ensures.back c.in_ok-_minor.ensures in
    let two = place_in_file file.u2 c.in_ok-_minor.place.at c.args.bytes.now c.in_ok-_minor.place.rest.now _ one.0 one.1 c.in_ok-major.ensures in
    let items = class_is c.split_at.result.1.now (index_view c.in_ok-_minor._minor) (index_view c.in_ok-major.major) c.in_ok-_minor.place.at c.in_ok-major.place.at c.in_ok-_minor.place.rest.now c.in_ok-major.place.rest.now c.in_ok-_minor.ensures c.in_ok-major.ensures (sym c.is_known-known.ensures ∙ cc) in
    let same = ap (read class_file 4) (sym c.split_at.ensures.back) ∙ items ∙ ap (read (behind_version c.in_ok-major.major.value) c.in_ok-major.place.at) two.1 in
    subst (λ (r : Result (Found file.RawClass) Flaw). Answers (found class_view) c.class_behind_version.result r) (sym same) c.class_behind_version.ensures
