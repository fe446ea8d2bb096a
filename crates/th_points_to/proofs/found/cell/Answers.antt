use Rattle.std.proofs.Common.{◌≡◌, ℕ, ◌+◌, ◌<◌, Bool, true, List, length, Some, slice_get, refl, sym, ap, subst, arith, ◌∙◌, if◌then◌else◌}
use Rattle.std.specs.Prelude.{◌&&◌, ◌==◌}
use Rattle.std.proofs.lemmas.Bool.{eqb-true}
use Rattle.th_ir.proofs.Plain.{and_parts}
use Rattle.th_points_to.proofs.Adding.{adds_cell, adds_same, key_is_new, key_is_old}
use Rattle.th_points_to.proofs.Laying.{cell_is}
use Rattle.th_points_to.proofs.found.cell.Goals as goal

abbrev pair_eq : ℕ × ℕ → ℕ × ℕ → Bool
pair_eq x y = (x.0 == y.0) && (x.1 == y.1)

-- a key that is equal to a cell's is the cell's
stored : (cells : List (ℕ × ℕ)) (at s f : ℕ) (k : ℕ × ℕ) → slice_get cells at ≡ Some k → ((s == k.0) && (f == k.1)) ≡ true → slice_get cells at ≡ Some (s, f)
stored cells at s f k e same =
    let parts = and_parts (s == k.0) (f == k.1) same in
    let one : k.0 ≡ s = sym (eqb-true s k.0 parts.0) in
    let other : k.1 ≡ f = sym (eqb-true f k.1 parts.1) in
    e ∙ ap (λ (n : ℕ). Some (n, k.1)) one ∙ ap (λ (n : ℕ). Some (s, n)) other

pub returns-then-is_new-clause-adds : goal.returns-then-is_new-clause-adds
returns-then-is_new-clause-adds c = λ p.
    let old = c.args.found.now.cells.keys in
    let new = c.insert_full.new.self.keys in
    let len : length new ≡ length old + 1 = subst (λ (b : Bool). length new ≡ length old + (if b then 1 else 0)) c.if-is_new.true c.in_ok-at.ensures.len in
    adds_cell c.args.layout p c.args.found.now _ (c.args.site, c.args.field) c.requires c.in_ok-grow.ensures
    (key_is_new pair_eq old new (c.args.site, c.args.field) c.in_ok-at.ensures.keys len) refl refl

pub returns-then-is_new-clause-set : goal.returns-then-is_new-clause-set
returns-then-is_new-clause-set c =
    let old = c.args.found.now.cells.keys in
    let new = c.insert_full.new.self.keys in
    let len : length new ≡ length old + 1 = subst (λ (b : Bool). length new ≡ length old + (if b then 1 else 0)) c.if-is_new.true c.in_ok-at.ensures.len in
    let within : c.in_ok-at.at < length new = c.in_ok-at.ensures.within in
    let count : c.grow.new.self.constraints.sets ≡ c.args.found.now.solver.constraints.sets + 1 = ap (λ v. v.constraints.sets) c.in_ok-grow.ensures in
    record {
      inside = omega (arith, count, len, within, c.in_ok-set.ensures, c.requires.count);
      same = cell_is c.args.layout new c.in_ok-set.set c.in_ok-at.at c.args.site c.args.field c.requires.first c.in_ok-set.ensures
          (stored new c.in_ok-at.at c.args.site c.args.field c.in_ok-at.ensures.stored.0 c.in_ok-at.ensures.stored.1 c.in_ok-at.ensures.stored.2);
    }

pub returns-clause-adds : goal.returns-clause-adds
returns-clause-adds c = λ p.
    let old = c.args.found.now.cells.keys in
    let new = c.insert_full.new.self.keys in
    let len : length new ≡ length old + 0 = subst (λ (b : Bool). length new ≡ length old + (if b then 1 else 0)) c.if-is_new.false c.in_ok-at.ensures.len in
    adds_same c.args.layout p c.args.found.now _ c.requires refl (key_is_old pair_eq old new (c.args.site, c.args.field) c.in_ok-at.ensures.keys (omega arith)) refl refl

pub returns-clause-set : goal.returns-clause-set
returns-clause-set c =
    let old = c.args.found.now.cells.keys in
    let new = c.insert_full.new.self.keys in
    let len : length new ≡ length old + 0 = subst (λ (b : Bool). length new ≡ length old + (if b then 1 else 0)) c.if-is_new.false c.in_ok-at.ensures.len in
    let within : c.in_ok-at.at < length new = c.in_ok-at.ensures.within in
    record {
      inside = omega (arith, len, within, c.in_ok-set.ensures, c.requires.count);
      same = cell_is c.args.layout new c.in_ok-set.set c.in_ok-at.at c.args.site c.args.field c.requires.first c.in_ok-set.ensures
          (stored new c.in_ok-at.at c.args.site c.args.field c.in_ok-at.ensures.stored.0 c.in_ok-at.ensures.stored.1 c.in_ok-at.ensures.stored.2);
    }
