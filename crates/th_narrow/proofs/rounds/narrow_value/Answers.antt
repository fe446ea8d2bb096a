use Rattle.std.proofs.Common.{◌≡◌, ◌∙◌, not, eqb, length, ap, slice_get}
use Rattle.std.specs.List.{filter}
use Rattle.th_ir.specs.FactSets.{sets_of}
use Rattle.th_query.specs.Symbols.{sites_in}
use Rattle.th_query.specs.Narrowed.{slot_has}
use Rattle.th_narrow.specs.Put.{given_back, put_at}
use Rattle.th_narrow.specs.Rounds.{is_value, kept_at}
use Rattle.th_narrow.proofs.Members.{lent_sites, lent_narrowed}
use Rattle.th_narrow.proofs.Stepping.{values_restricted}
use Rattle.th_narrow.proofs.rounds.narrow_value.Goals as goal

pub returns : goal.returns
returns c =
    let holds = slot_has (sets_of c.args.facts.now) in
    let k = c.args.link in
    let xs = c.args.syms.now in
    let mid = c.lent_sites.new.syms in
    let lent = c.in_ok-bases.ensures in
    let p = is_value holds k.slot (sites_in (slice_get xs k.base)) in
    let sites : c.in_ok-values.values ≡ sites_in (slice_get xs k.value) = c.in_ok-values.ensures.sites ∙ lent_sites k.base k.value xs mid c.in_ok-bases.bases lent in
    let kept : c.held_values-kept.result ≡ filter p (sites_in (slice_get xs k.value)) = c.held_values-kept.ensures ∙ (λ i. filter (is_value holds k.slot (lent.sites i)) (sites i)) in
    let is : c.give_back.new.syms ≡ kept_at k.value p xs =
    c.give_back.ensures
    ∙ ap (given_back k.base k.value c.in_ok-bases.bases) (c.put_sites.ensures ∙ ap (put_at k.value c.held_values-kept.result) c.in_ok-values.ensures.rest)
    ∙ lent_narrowed k.base k.value p xs mid c.in_ok-bases.bases c.held_values-kept.result lent kept in
    values_restricted holds k xs c.give_back.new.syms c.has_changed-changed.result is
    (c.has_changed-changed.ensures ∙ (λ i. not (eqb (length (kept i)) ((c.len-count.ensures ∙ ap length sites) i))))
