-- Kinds of instructions and methods that are worked out in full, computed.
use Rattle.std.proofs.Common.{◌≡◌, ◌<◌, ℕ, zero, suc, true, false, not, [], ◌∷◌, map, refl, arith}
use Rattle.th_syntax.specs.Descriptors.{field_type_of, method_type_of, method_at, types_at, type_at, element_at, name_before, base_type, result_at}
use Rattle.th_syntax.specs.Kinds.{OfKinds}
use Rattle.th_syntax.specs.KindRows.{row_of, after}
use Rattle.std.specs.List.{list_all}
use Rattle.th_syntax.specs.Flow.{reached_code}
use Rattle.th_syntax.specs.KindTable.{conflicts_at, HasFirstConflict, AreKinds, shown}
use Rattle.th_syntax.specs.KindRounds.{known_at, after_rounds, offsets_of, is_closed_table}
use Rattle.th_syntax.proofs.LeastKinds.{kinds_in_rounds, rounds_least}
use Rattle.th_syntax.specs.WorkedKinds.{fitting_constants, fitting_arrays, fitting_moves, fitting_arithmetic, fitting_branches, fitting_members, behind_fitting, expected_behind, misfits, unfitting_misfits, unfitting, storing, straight_methods, returning_methods, merging_methods, are_settled, found_conflicts, long_method, long_table, half_popped, constructor, constructor_kinds}

pub fit_constants : behind_fitting fitting_constants ≡ expected_behind fitting_constants
unfolding field_type_of method_type_of method_at types_at type_at element_at name_before base_type result_at
fit_constants = refl

pub fit_arrays : behind_fitting fitting_arrays ≡ expected_behind fitting_arrays
unfolding field_type_of method_type_of method_at types_at type_at element_at name_before base_type result_at
fit_arrays = refl

pub fit_moves : behind_fitting fitting_moves ≡ expected_behind fitting_moves
unfolding field_type_of method_type_of method_at types_at type_at element_at name_before base_type result_at
fit_moves = refl

pub fit_arithmetic : behind_fitting fitting_arithmetic ≡ expected_behind fitting_arithmetic
unfolding field_type_of method_type_of method_at types_at type_at element_at name_before base_type result_at
fit_arithmetic = refl

pub fit_branches : behind_fitting fitting_branches ≡ expected_behind fitting_branches
unfolding field_type_of method_type_of method_at types_at type_at element_at name_before base_type result_at
fit_branches = refl

pub fit_members : behind_fitting fitting_members ≡ expected_behind fitting_members
unfolding field_type_of method_type_of method_at types_at type_at element_at name_before base_type result_at
fit_members = refl

pub are_stored : map (λ one. after (row_of one.0) (OfKinds one.2 one.1)) storing ≡ map (λ one. OfKinds one.3 []) storing
unfolding field_type_of method_type_of method_at types_at type_at element_at name_before base_type result_at
are_stored = refl

pub room_constants : misfits 0 fitting_constants ≡ map (λ f. false) fitting_constants
unfolding field_type_of method_type_of method_at types_at type_at element_at name_before base_type result_at
room_constants = refl

pub room_arrays : misfits 0 fitting_arrays ≡ map (λ f. false) fitting_arrays
unfolding field_type_of method_type_of method_at types_at type_at element_at name_before base_type result_at
room_arrays = refl

pub room_moves : misfits 0 fitting_moves ≡ map (λ f. false) fitting_moves
unfolding field_type_of method_type_of method_at types_at type_at element_at name_before base_type result_at
room_moves = refl

pub room_arithmetic : misfits 0 fitting_arithmetic ≡ map (λ f. false) fitting_arithmetic
unfolding field_type_of method_type_of method_at types_at type_at element_at name_before base_type result_at
room_arithmetic = refl

pub room_branches : misfits 0 fitting_branches ≡ map (λ f. false) fitting_branches
unfolding field_type_of method_type_of method_at types_at type_at element_at name_before base_type result_at
room_branches = refl

pub room_members : misfits 0 fitting_members ≡ map (λ f. false) fitting_members
unfolding field_type_of method_type_of method_at types_at type_at element_at name_before base_type result_at
room_members = refl

pub full_constants : misfits 1 fitting_constants ≡ map (λ f. true) fitting_constants
unfolding field_type_of method_type_of method_at types_at type_at element_at name_before base_type result_at
full_constants = refl

pub full_moves : misfits 1 fitting_moves ≡ map (λ f. true) fitting_moves
unfolding field_type_of method_type_of method_at types_at type_at element_at name_before base_type result_at
full_moves = refl

pub not_fitting : unfitting_misfits ≡ map (λ one. true) unfitting
unfolding field_type_of method_type_of method_at types_at type_at element_at name_before base_type result_at
not_fitting = refl

pub conflicts_straight : found_conflicts straight_methods ≡ map (λ w. w.conflicts) straight_methods
unfolding field_type_of method_type_of method_at types_at type_at element_at name_before base_type result_at
conflicts_straight = refl

pub settled_straight : are_settled straight_methods ≡ map (λ w. true) straight_methods
unfolding field_type_of method_type_of method_at types_at type_at element_at name_before base_type result_at
settled_straight = refl

pub conflicts_returning : found_conflicts returning_methods ≡ map (λ w. w.conflicts) returning_methods
unfolding field_type_of method_type_of method_at types_at type_at element_at name_before base_type result_at
conflicts_returning = refl

pub settled_returning : are_settled returning_methods ≡ map (λ w. true) returning_methods
unfolding field_type_of method_type_of method_at types_at type_at element_at name_before base_type result_at
settled_returning = refl

pub conflicts_merging : found_conflicts merging_methods ≡ map (λ w. w.conflicts) merging_methods
unfolding field_type_of method_type_of method_at types_at type_at element_at name_before base_type result_at
conflicts_merging = refl

pub settled_merging : are_settled merging_methods ≡ map (λ w. true) merging_methods
unfolding field_type_of method_type_of method_at types_at type_at element_at name_before base_type result_at
settled_merging = refl

pub longs_table : after_rounds long_method.member long_method.code long_method.rounds ≡ long_table
unfolding field_type_of method_type_of method_at types_at type_at element_at name_before base_type result_at
longs_table = refl

pub longs_settled : are_settled (long_method ∷ []) ≡ true ∷ []
unfolding field_type_of method_type_of method_at types_at type_at element_at name_before base_type result_at
longs_settled = refl

pub longs_conflicts : found_conflicts (long_method ∷ []) ≡ [] ∷ []
unfolding field_type_of method_type_of method_at types_at type_at element_at name_before base_type result_at
longs_conflicts = refl

-- ---- whole answers

constructor_closed : is_closed_table constructor.member constructor.code (known_at (after_rounds constructor.member constructor.code 1)) ≡ true
unfolding field_type_of method_type_of method_at types_at type_at element_at name_before base_type result_at
constructor_closed = refl

constructor_fits : list_all (λ o. not (conflicts_at constructor.member constructor.code (known_at (after_rounds constructor.member constructor.code 1)) o)) (0 ∷ offsets_of constructor.code.instrs) ≡ true
unfolding field_type_of method_type_of method_at types_at type_at element_at name_before base_type result_at
constructor_fits = refl

constructor_listed : map shown constructor_kinds ≡ map (λ i. (i.0, known_at (after_rounds constructor.member constructor.code 1) i.0)) (reached_code constructor.code.instrs)
unfolding field_type_of method_type_of method_at types_at type_at element_at name_before base_type result_at
constructor_listed = refl

pub constructor_answer : AreKinds constructor.member constructor.code constructor_kinds
constructor_answer = record {
  table = known_at (after_rounds constructor.member constructor.code 1);
  has = kinds_in_rounds constructor.member constructor.code 1 constructor_closed constructor_fits;
  listed = constructor_listed;
}

half_closed : is_closed_table half_popped.member half_popped.code (known_at (after_rounds half_popped.member half_popped.code 1)) ≡ true
unfolding field_type_of method_type_of method_at types_at type_at element_at name_before base_type result_at
half_closed = refl

half_here : conflicts_at half_popped.member half_popped.code (known_at (after_rounds half_popped.member half_popped.code 1)) 1 ≡ true
unfolding field_type_of method_type_of method_at types_at type_at element_at name_before base_type result_at
half_here = refl

half_before : (before : ℕ) → before < 1 → conflicts_at half_popped.member half_popped.code (known_at (after_rounds half_popped.member half_popped.code 1)) before ≡ false
unfolding field_type_of method_type_of method_at types_at type_at element_at name_before base_type result_at
half_before zero below = refl
half_before (suc before) below = absurd (omega arith)

pub half_answer : HasFirstConflict half_popped.member half_popped.code (known_at (after_rounds half_popped.member half_popped.code 1)) 1
half_answer = record {
  least = rounds_least half_popped.member half_popped.code 1 half_closed;
  here = half_here;
  none_before = half_before;
}
