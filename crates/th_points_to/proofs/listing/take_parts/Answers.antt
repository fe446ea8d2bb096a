use Rattle.std.proofs.Common.{◌≡◌, ◌+◌, ◌≤◌, ℕ, List, length, take, sym, ap, arith, ◌∙◌}
use Rattle.th_incl.specs.Least.{set_at}
use Rattle.th_points_to.specs.Listing.{elements_from}
use Rattle.th_points_to.proofs.ListingLemmas.{drop_same, drop_none, listed_same}
use Rattle.th_points_to.proofs.listing.take_parts.Goals as goal

pub take_sets-requires : goal.take_sets-requires
take_sets-requires c = omega (arith, c.requires.first, c.requires.within)

pub take_sets-requires-2 : goal.take_sets-requires-2
take_sets-requires-2 c = omega (arith, c.requires.first, c.requires.within, c.in_ok-regs.ensures.len)

pub take_elements-requires-clause-within : goal.take_elements-requires-clause-within
take_elements-requires-clause-within c = omega (arith, c.requires.first, c.requires.within, c.in_ok-regs.ensures.len, c.in_ok-statics.ensures.len)

pub take_elements-requires-clause-few : goal.take_elements-requires-clause-few
take_elements-requires-clause-few c = c.requires.few

pub take_cells-requires : goal.take_cells-requires
take_cells-requires c = omega (arith, c.requires.within, c.in_ok-regs.ensures.len, c.in_ok-statics.ensures.len, c.in_ok-elems.ensures.len)

pub returns : goal.returns
returns c =
    let l = c.args.layout in
    let old : List (List ℕ) = c.args.sets.now in
    let first = c.requires.first in
    let within = c.requires.within in
    let len1 : length old ≡ length c.take_sets.new.sets = sym c.in_ok-regs.ensures.len in
    let len2 : length old ≡ length c.take_sets-2.new.sets = len1 ∙ sym c.in_ok-statics.ensures.len in
    let left2 : (k : ℕ) → l.registers + l.fields ≤ k → set_at c.take_sets-2.new.sets k ≡ set_at old k =
    λ k past. c.in_ok-statics.ensures.left k past ∙ c.in_ok-regs.ensures.left k (omega (arith, past)) in
    let left3 : (k : ℕ) → l.registers + l.fields + l.sites ≤ k → set_at c.take_elements.new.sets k ≡ set_at old k =
    λ k past. c.in_ok-elems.ensures.left k past ∙ left2 k (omega (arith, past)) in
    record {
      regs = c.in_ok-regs.ensures.taken ∙ ap (take l.registers) (drop_none old);
      statics =
          c.in_ok-statics.ensures.taken
          ∙ ap (take l.fields) (drop_same l.registers c.take_sets.new.sets old (omega (arith, first, within, len1)) (sym len1) (λ k past. c.in_ok-regs.ensures.left k (omega (arith, past))));
      elems =
          c.in_ok-elems.ensures.taken
          ∙ ap (λ (ss : List (List ℕ)). elements_from 0 (take l.sites ss)) (drop_same (l.registers + l.fields) c.take_sets-2.new.sets old (omega (arith, first, within, len2)) (sym len2) left2);
      cells = listed_same c.args.cells.now.keys (λ place. set_at c.take_elements.new.sets (l.first_cell + place)) (λ place. set_at old (l.first_cell + place)) c.in_ok-listed.listed
          (λ k. left3 (l.first_cell + k) (omega (arith, first))) c.in_ok-listed.ensures;
    }
