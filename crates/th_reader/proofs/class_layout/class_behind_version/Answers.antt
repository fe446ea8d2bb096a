use Rattle.std.proofs.Common.{◌≡◌, ◌∙◌, drop, ap, sym, subst, Result}
use Rattle.std.proofs.lemmas.Result.{err_from_is_err_and}
use Rattle.th_syntax.specs.declared.refusal.Flaw.{Flaw}
use Rattle.th_syntax.specs.Forms.{Found, read}
use Rattle.th_syntax.specs.ClassBytes as file
use Rattle.th_syntax.proofs.ReadingParts.{read_after}
use Rattle.th_pool.specs.Gives.{Answers, end_at}
use Rattle.th_reader.specs.RawView.{class_view}
use Rattle.th_reader.specs.Reads.{found}
use Rattle.th_reader.specs.ClassParts.{behind_pool}
use Rattle.th_reader.proofs.Stopping.{stops_first}
use Rattle.th_reader.proofs.class_layout.class_behind_version.Goals as goal

pub returns-in_err-pool : goal.returns-in_err-pool
returns-in_err-pool c =
    let p = err_from_is_err_and c.from_residual.result c.from_residual.ensures.1 in
    rw (p.1, p.2)
    (stops_first (end_at c.args.bytes.now) c.in_err-pool.field-0.0 file.pool _ c.args.at (drop c.args.at c.args.bytes.now) c.in_err-pool.ensures.exact)

pub returns : goal.returns
returns c =
    let here : read (file.pool) c.args.at (drop c.args.at c.args.bytes.now) ≡ _ = c.in_ok-pool.ensures.exact in
    let later = read_after file.pool (behind_pool c.args.major) c.args.at (drop c.args.at c.args.bytes.now) (c.in_ok-pool.pool, c.in_ok-pool.behind, drop c.in_ok-pool.behind c.args.bytes.now) here in
    let back = ap (read (behind_pool c.args.major c.in_ok-pool.pool) c.in_ok-pool.behind) c.split_at.ensures.back in
    subst (λ (r : Result (Found file.RawClass) Flaw). Answers (found class_view) c.class_behind_pool.result r) (back ∙ sym later) c.class_behind_pool.ensures
