use Rattle.std.proofs.Common.{◌≡◌, ◌<◌, ◌+◌, ℕ, List, [], ◌∷◌, ◌++◌, length, Option, Some, None, slice_get, refl, sym, ap, subst, arith, ◌∙◌, get_or-set_other}
use Rattle.std.specs.Prelude.{◌==◌, ◌&&◌, position}
use Rattle.std.specs.Option.{option_map_or, IfSome}
use Rattle.std.proofs.lemmas.List.{length-set}
use Rattle.th_base.specs.declared.number.FieldId.{FieldId}
use Rattle.th_base.specs.declared.number.SiteId.{SiteId}
use Rattle.th_incl.specs.Least.{set_at}
use Rattle.th_ir.proofs.Plain.{some_is}
use Rattle.th_points_to.specs.Listing.{with_set}
use Rattle.th_points_to.proofs.ListingLemmas.{found_place}
use Rattle.th_points_to.proofs.listing.take_cell.Goals as goal

append_none : {X : Type 0} (xs : List X) → xs ≡ xs ++ []
append_none [] = refl
append_none (x ∷ xs) = ap (λ l. x ∷ l) (append_none xs)

pub take_set-set-requires : goal.take_set-set-requires
take_set-set-requires c =
    let inside : c.in-Some.place < length c.args.cells.now.keys = subst (λ (o : Option ℕ). IfSome o (λ i. i < length c.args.cells.now.keys)) c.in-Some.is c.get_index_of.ensures.within in
    omega (arith, inside, c.requires)

pub returns-in_ok-push_cell-in-Some-clause-list : goal.returns-in_ok-push_cell-in-Some-clause-list
returns-in_ok-push_cell-in-Some-clause-list c =
    let cell : ℕ × ℕ = c.args.cell in
    let keys : List (ℕ × ℕ) = c.args.cells.now.keys in
    let stands : position (λ e. cell.0 == e.0 && cell.1 == e.1) keys ≡ Some c.in-Some.place = sym c.get_index_of.ensures.index ∙ c.in-Some.is in
    c.in_ok-push_cell-in-Some.ensures
    ∙ ap (λ (xs : List ℕ). c.args.list.now ++ with_set (λ ys. (let s : SiteId = record { 0 = cell.0 } in s, let f : FieldId = record { 0 = cell.1 } in f, ys)) xs)
    (c.take_set-set.ensures.taken ∙ ap (λ (o : Option ℕ). option_map_or (λ (place : ℕ). set_at c.args.sets.now (c.args.first + place)) o []) (sym stands))

pub returns-in_ok-push_cell-in-Some-clause-left : goal.returns-in_ok-push_cell-in-Some-clause-left
returns-in_ok-push_cell-in-Some-clause-left c = λ k d at apart.
    let cell : ℕ × ℕ = c.args.cell in
    let keys : List (ℕ × ℕ) = c.args.cells.now.keys in
    let stands = found_place keys cell c.in-Some.place (sym c.get_index_of.ensures.index ∙ c.in-Some.is) in
    ap (λ (ss : List (List ℕ)). set_at ss (c.args.first + k)) c.take_set-set.ensures.left
    ∙ get_or-set_other c.args.sets.now (c.args.first + c.in-Some.place) (c.args.first + k) [] []
    (λ e. apart (some_is d cell (sym at ∙ ap (slice_get keys) (let same : k ≡ c.in-Some.place = omega (arith, e) in same) ∙ stands)))

pub returns-in_ok-push_cell-in-Some-clause-len : goal.returns-in_ok-push_cell-in-Some-clause-len
returns-in_ok-push_cell-in-Some-clause-len c = ap length c.take_set-set.ensures.left ∙ length-set c.args.sets.now (c.args.first + c.in-Some.place) []

pub returns-in-None-clause-list : goal.returns-in-None-clause-list
returns-in-None-clause-list c =
    let cell : ℕ × ℕ = c.args.cell in
    let keys : List (ℕ × ℕ) = c.args.cells.now.keys in
    let none : position (λ e. cell.0 == e.0 && cell.1 == e.1) keys ≡ None = sym c.get_index_of.ensures.index ∙ c.in-None.is in
    append_none c.args.list.now
    ∙ ap (λ (o : Option ℕ). c.args.list.now ++ with_set (λ ys. (let s : SiteId = record { 0 = cell.0 } in s, let f : FieldId = record { 0 = cell.1 } in f, ys))
    (option_map_or (λ (place : ℕ). set_at c.args.sets.now (c.args.first + place)) o [])) (sym none)
