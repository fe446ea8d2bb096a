use Rattle.std.proofs.Common.{◌≡◌, ◌∙◌, not, eqb, length, ap, slice_get}
use Rattle.std.specs.List.{filter}
use Rattle.th_ir.specs.FactSets.{sets_of}
use Rattle.th_query.specs.Symbols.{sites_in}
use Rattle.th_query.specs.Narrowed.{slot_has}
use Rattle.th_narrow.specs.Put.{given_back, put_at}
use Rattle.th_narrow.specs.Rounds.{is_base, kept_at}
use Rattle.th_narrow.proofs.Members.{lent_sites, lent_narrowed}
use Rattle.th_narrow.proofs.Stepping.{bases_restricted}
use Rattle.th_narrow.proofs.rounds.narrow_base.Goals as goal

pub returns : goal.returns
returns c =
    let holds = slot_has (sets_of c.args.facts.now) in
    let k = c.args.link in
    let xs = c.args.syms.now in
    let mid = c.lent_sites.new.syms in
    let lent = c.in_ok-values.ensures in
    let p = is_base holds k.slot (sites_in (slice_get xs k.value)) in
    let sites : c.in_ok-bases.bases ≡ sites_in (slice_get xs k.base) = c.in_ok-bases.ensures.sites ∙ lent_sites k.value k.base xs mid c.in_ok-values.values lent in
    let kept : c.holding_bases-kept.result ≡ filter p (sites_in (slice_get xs k.base)) = c.holding_bases-kept.ensures ∙ (λ i. filter (is_base holds k.slot (lent.sites i)) (sites i)) in
    let is : c.give_back.new.syms ≡ kept_at k.base p xs =
    c.give_back.ensures
    ∙ ap (given_back k.value k.base c.in_ok-values.values) (c.put_sites.ensures ∙ ap (put_at k.base c.holding_bases-kept.result) c.in_ok-bases.ensures.rest)
    ∙ lent_narrowed k.value k.base p xs mid c.in_ok-values.values c.holding_bases-kept.result lent kept in
    bases_restricted holds k xs c.give_back.new.syms c.has_changed-changed.result is
    (c.has_changed-changed.ensures ∙ (λ i. not (eqb (length (kept i)) ((c.len-count.ensures ∙ ap length sites) i))))
