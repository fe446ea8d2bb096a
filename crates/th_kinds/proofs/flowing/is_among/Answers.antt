use Rattle.std.proofs.Common.{◌≡◌, inl, inr, ◌∙◌, get_or, arith}
use Rattle.std.proofs.lemmas.Bool.{cases_lt}
use Rattle.std.proofs.lemmas.List.{get_or_default}
use Rattle.std.proofs.lemmas.List.Sorted.{searched}
use Rattle.th_kinds.proofs.MergedKept.{no_less}
use Rattle.th_kinds.proofs.flowing.is_among.Goals as goal

pub returns-in-Err : goal.returns-in-Err
returns-in-Err c = (
  λ e. absurd cc,
  λ there. absurd (
      let all = searched c.args.offsets.now c.args.offset c.binary_search.result c.binary_search.ensures.position (no_less c.args.offsets.now c.requires) in
      let none = rw c.in-Err.is at all in
      let same : get_or c.args.offsets.now there.0 0 ≡ c.args.offset = get_or_default c.args.offsets.now there.0 0 c.args.offset there.1 ∙ there.2 in
      elim (cases_lt there.0 c.in-Err.field-0) [
        | inl below ↦ let less = none.1 there.0 below in omega arith
        | inr above ↦ let more = none.2 there.0 above there.1 in omega arith
      ]
      ),
)
