use Rattle.std.proofs.Common.{◌≡◌, ◌+◌, ℕ, List, [], ◌∷◌, ◌++◌, Bool, length, ap, subst, ◌∙◌, if◌then◌else◌}
use Rattle.std.specs.Str.{bytes_eq}
use Rattle.th_points_to.specs.Storing.{storable}
use Rattle.th_points_to.proofs.Adding.{key_is_new}
use Rattle.th_points_to.proofs.StoringLemmas.{made_next}
use Rattle.th_points_to.proofs.filters.filter_of.Goals as goal

pub returns-then-is_new-clause-made : goal.returns-then-is_new-clause-made
returns-then-is_new-clause-made c =
    let old = c.args.filters.now in
    let new = c.insert_full.new.self.keys in
    let len : length new ≡ length old.types.keys + 1 = subst (λ (b : Bool). length new ≡ length old.types.keys + (if b then 1 else 0)) c.if-is_new.true c.in_ok-at.ensures.len in
    made_next c.args.hierarchy.now c.args.sites.now old _ c.args.array.now c.in_ok-set.set c.requires.made
    (key_is_new bytes_eq old.types.keys new c.in_ok-copy.field-0 c.in_ok-at.ensures.keys len ∙ ap (λ (a : List ℕ). old.types.keys ++ a ∷ []) c.in_ok-copy.ensures)
    c.in_ok-push.ensures.items (c.in_ok-set.ensures ∙ ap (λ (a : List ℕ). storable c.args.hierarchy.now a c.args.sites.now) c.as_bytes.ensures)
