use Rattle.std.proofs.Common.{◌≡◌, ◌<◌, ap, sym, ◌∙◌, subst, length, get_or}
use Rattle.std.proofs.Crossing.{crosses, frees}
use denote.Param.Send.{sendable}
use Rattle.rayon.proofs.ListFacts.{IfOk-then}
use Rattle.rayon.proofs.ToStd.{slice-AllZip}
use Rattle.th_accept.specs.Answers.{AnswersFile, IsShort}
use Rattle.th_accept.proofs.Crossing.{text_sync, class_send, refusal_send}
use Rattle.th_accept.proofs.reading.read_each.Goals as goal

-- a line for each type that crosses to other threads, the allocator, and then the closure's condition at each item
pub collect-requires : goal.collect-requires
collect-requires g c κs =
    let slice : c.map.result.base.slice.now ≡ c.args.files.now = ap (λ it. it.slice.now) c.map.ensures.base ∙ c.par_iter.ensures in (
      search (text_sync, sendable, crosses) depth 40,
      (
        search (class_send, refusal_send, sendable, crosses) depth 40,
        (
          search (class_send, refusal_send, sendable, crosses) depth 40,
          (
            search (sendable, crosses) depth 40,
            (
              search (sendable, crosses) depth 40,
              (
                frees,
                λ k d within x same. (subst IsShort (sym (same ∙ ap (λ xs. get_or xs k d) slice)) (c.requires k d (subst (λ xs. k < length xs) slice within)), λ y p. tt),
              ),
            ),
          ),
        ),
      ),
    )

pub returns : goal.returns
returns g c =
    let slice = ap (λ it. it.slice.now) c.map.ensures.base ∙ c.par_iter.ensures in
    IfOk-then c.collect.result _ _ c.collect.ensures (λ v h.
    let chain = h.1 in
    rw h.2 (slice-AllZip chain.0 c.args.files.now (chain.1 ∙ slice) AnswersFile h.0 chain.2))
