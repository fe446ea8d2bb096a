-- Facts that list what was found have no more pairs than its sets; and where what is asked has more pairs than
-- a limit, so have the least facts.
use Rattle.std.proofs.Common.{◌≡◌, ◌⊎◌, inl, inr, ℕ, ◌<◌, ◌≤◌, ◌+◌, ◌==◌, zero, suc, Bool, true, false, List, [], ◌∷◌, ◌++◌, length, take, drop, Option, Some, None, slice_get, refl, sym, ap, subst, arith, ◌∙◌}
use Rattle.std.specs.Prelude.{◌&&◌, ◌||◌, sum, map, zip, position}
use Rattle.std.specs.List.{AllByRecursion, AllZip, list_any}
use Rattle.std.specs.List.Sorted.{IsStrictlySortedBy}
use Rattle.std.specs.declared.cmp.Ordering.{Ordering}
use Rattle.std.specs.declared.cmp.Ordering.TheVariants.{Less, Equal}
use Rattle.std.specs.Ordering.{ordering_then, nat_cmp}
use Rattle.std.specs.Cmp.Lexicographic.{slice_cmp}
use Rattle.std.specs.Option.{option_map_or}
use Rattle.std.proofs.lemmas.Bool.{or_right, eq-eqb}
use Rattle.std.proofs.lemmas.List.{take-append-drop}
use Rattle.th_base.specs.declared.class.ClassInfo.{ClassInfo}
use Rattle.th_base.specs.declared.number.FieldId.{FieldId}
use Rattle.th_base.specs.declared.number.SiteId.{SiteId}
use Rattle.th_base.specs.IdSet.{has, IsAscending}
use Rattle.th_incl.specs.Least.{set_at, pair_count as set_pairs, IsLeast, HasMoreThan}
use Rattle.th_incl.proofs.Counts.{ascending_at}
use Rattle.th_incl.proofs.Families.{within_closed}
use Rattle.th_ir.specs.declared.facts.Facts.{Facts}
use Rattle.th_ir.specs.declared.program.RegProgram.{RegProgram}
use Rattle.th_ir.specs.Fields.{field_count}
use Rattle.th_ir.specs.FactSets.{sets_of, AscendBy, AreListed, IsListedSet}
use Rattle.th_ir.specs.Plan.{pair_count}
use Rattle.th_ir.specs.Program.{register_count}
use Rattle.th_ir.proofs.Plain.{some_is, all_map, and_both}
use Rattle.th_points_to.specs.declared.found.Found.{Found}
use Rattle.th_points_to.specs.declared.place.Layout.{Layout}
use Rattle.th_points_to.specs.Found.{holds, IsLaid, Holds}
use Rattle.th_points_to.specs.Listing.{AreOnce, with_set, elements_from, cells_of, pair_key, cell_set, IsListed}
use Rattle.th_points_to.proofs.Counting.{Once, sizes_le, sets_le, sum_cons}
use Rattle.th_points_to.proofs.Laying.{register_is, static_is, elements_is, cell_is}
use Rattle.th_points_to.proofs.ListingLemmas.{none_past, fact_is, at_take, length_take, length_drop, at_drop, all_by_at, found_place, taken, dropped}
use Rattle.th_points_to.proofs.Over.{total, total_is, total_append, totals_le, numbers, once_in_numbers, length_numbers, zip_numbers, zip_keys, is_key, once_in_keys}

-- ---- four parts of a row of sets

nothing_dropped : (n : ℕ) → drop n (let none : List (List ℕ) = [] in none) ≡ []
nothing_dropped zero = refl
nothing_dropped (suc n) = refl

drop_twice : (m n : ℕ) (xs : List (List ℕ)) → drop n (drop m xs) ≡ drop (m + n) xs
drop_twice zero n xs = ap (λ (k : ℕ). drop k xs) (let e : n ≡ 0 + n = omega arith in e)
drop_twice (suc m) n [] = ap (drop n) (nothing_dropped (suc m)) ∙ nothing_dropped n ∙ sym (nothing_dropped (suc m + n))
drop_twice (suc m) n (x ∷ xs) = drop_twice m n xs ∙ ap (λ (k : ℕ). drop k (x ∷ xs)) (let e : suc (m + n) ≡ suc m + n = omega arith in e)

total_parts : (n : ℕ) (xs : List (List ℕ)) → total xs ≡ total (take n xs) + total (drop n xs)
total_parts n xs = ap total (sym (take-append-drop n xs)) ∙ total_append (take n xs) (drop n xs)

abbrev parts_total : ℕ → ℕ → ℕ → List (List ℕ) → ℕ
parts_total r f s xs = total (take r xs) + total (take f (drop r xs)) + total (take s (drop (r + f) xs)) + total (drop (r + f + s) xs)

four_parts : (r f s : ℕ) (xs : List (List ℕ)) → total xs ≡ parts_total r f s xs
four_parts r f s xs =
    let one = total_parts r xs in
    let two = total_parts f (drop r xs) ∙ ap (λ ys. total (take f (drop r xs)) + total ys) (drop_twice r f xs) in
    let three = total_parts s (drop (r + f) xs) ∙ ap (λ ys. total (take s (drop (r + f) xs)) + total ys) (drop_twice (r + f) s xs) in
    omega (arith, one, two, three)

-- ---- of facts that list what was found

elements_sum : (n : ℕ) (sets : List (List ℕ)) → sum (map (λ e. length e.1) (elements_from n sets)) ≡ total sets
elements_sum n [] = refl
elements_sum n ([] ∷ sets) = let rest = elements_sum (n + 1) sets in let one = sum_cons 0 (map (λ ys. length ys) sets) in omega (arith, rest, one)
elements_sum n ((y ∷ ys) ∷ sets) =
    let rest = elements_sum (n + 1) sets in
    let one = sum_cons (length (y ∷ ys)) (map (λ zs. length zs) sets) in
    let other = sum_cons (length (y ∷ ys)) (map (λ e. length e.1) (elements_from (n + 1) sets)) in
    omega (arith, rest, one, other)

cells_sum : (set : ℕ × ℕ → List ℕ) (ds : List (ℕ × ℕ)) → sum (map (λ c. length c.2) (cells_of set ds)) ≡ total (map set ds)
cells_sum set [] = refl
cells_sum set (d ∷ ds) = by (set d) (cells_sum set ds)
  where
    by : (ys : List ℕ) → sum (map (λ c. length c.2) (cells_of set ds)) ≡ total (map set ds)
        → sum (map (λ c. length c.2) (with_set {X = SiteId × FieldId × List ℕ} (λ zs. (record { 0 = d.0 }, record { 0 = d.1 }, zs)) ys ++ cells_of set ds)) ≡ total (ys ∷ map set ds)
    by [] rest = let one = sum_cons 0 (map (λ zs. length zs) (map set ds)) in omega (arith, rest, one)
    by (y ∷ ys) rest =
        let one = sum_cons (length (y ∷ ys)) (map (λ zs. length zs) (map set ds)) in
        let other = sum_cons (length (y ∷ ys)) (map (λ c. length c.2) (cells_of set ds)) in
        omega (arith, rest, one, other)

zip_sum : (keys : List (ℕ × ℕ)) (sets : List (List ℕ)) → length keys ≡ length sets → sum (map (λ e. length e.1) (zip keys sets)) ≡ total sets
zip_sum [] [] len = refl
zip_sum [] (x ∷ sets) len = absurd (omega (arith, len))
zip_sum (d ∷ keys) [] len = absurd (omega (arith, len))
zip_sum (d ∷ keys) (x ∷ sets) len =
    let rest = zip_sum keys sets (omega (arith, len)) in
    let one = sum_cons (length x) (map (λ ys. length ys) sets) in
    let other = sum_cons (length x) (map (λ e. length e.1) (zip keys sets)) in
    omega (arith, rest, one, other)

-- what a set has its pair has in the table
in_table : (keys : List (ℕ × ℕ)) (sets : List (List ℕ)) (k x : ℕ) (d : ℕ × ℕ) → slice_get keys k ≡ Some d → has (set_at sets k) x ≡ true
    → list_any (λ e. is_key d e.0 && has e.1 x) (zip keys sets) ≡ true
in_table [] sets k x d at e = absurd cc
in_table (q ∷ keys) [] k x d at e = absurd cc
in_table (q ∷ keys) (s ∷ sets) zero x d at e =
    let same = some_is q d at in
    ap (λ (b : Bool). b || list_any (λ e. is_key d e.0 && has e.1 x) (zip keys sets))
    (and_both (is_key d q) (has s x) (and_both (q.0 == d.0) (q.1 == d.1) (eq-eqb q.0 d.0 (ap (λ (r : ℕ × ℕ). r.0) same)) (eq-eqb q.1 d.1 (ap (λ (r : ℕ × ℕ). r.1) same))) e)
in_table (q ∷ keys) (s ∷ sets) (suc k) x d at e = or_right (is_key d q && has s x) (list_any (λ e. is_key d e.0 && has e.1 x) (zip keys sets)) (in_table keys sets k x d at e)

zip_mapped : (P : ℕ × ℕ → List ℕ → Type 0) (set : ℕ × ℕ → List ℕ) (ds : List (ℕ × ℕ)) → ((d : ℕ × ℕ) → P d (set d)) → AllZip P ds (map set ds)
zip_mapped P set [] each = tt
zip_mapped P set (d ∷ ds) each = (each d, zip_mapped P set ds each)

length_mapped : (set : ℕ × ℕ → List ℕ) (ds : List (ℕ × ℕ)) → length (map set ds) ≡ length ds
length_mapped set [] = refl
length_mapped set (d ∷ ds) = ap suc (length_mapped set ds)

all_mapped : (P : List ℕ → Type 0) (set : ℕ × ℕ → List ℕ) (ds : List (ℕ × ℕ)) → ((d : ℕ × ℕ) → P (set d)) → AllByRecursion P (map set ds)
all_mapped P set [] each = tt
all_mapped P set (d ∷ ds) each = (each d, all_mapped P set ds each)

all_zipped : (keys : List (ℕ × ℕ)) (sets : List (List ℕ)) → AllByRecursion IsAscending sets → AllByRecursion (λ e. IsAscending e.1) (zip keys sets)
all_zipped [] sets all = tt
all_zipped (d ∷ keys) [] all = tt
all_zipped (d ∷ keys) (x ∷ sets) all = (all.0, all_zipped keys sets all.1)

-- ascending pairs stand once
abbrev IsBelow : List ℕ → List ℕ → Type 0
IsBelow a b = slice_cmp nat_cmp a b ≡ Less

not_itself : (d : ℕ × ℕ) → IsBelow (pair_key d) (pair_key d) → ⊥
not_itself d e = (let same : slice_cmp nat_cmp (pair_key d) (pair_key d) ≡ Equal = equal_then (nat_cmp d.0 d.0) (ordering_then (nat_cmp d.1 d.1) Equal) (nat_same d.0) (equal_then (nat_cmp d.1 d.1) Equal (nat_same d.1) refl) in
    clash (slice_cmp nat_cmp (pair_key d) (pair_key d)) same e)
  where
    nat_same : (n : ℕ) → nat_cmp n n ≡ Equal
    nat_same n = grind arith

    equal_then : (o p : Ordering) → o ≡ Equal → p ≡ Equal → ordering_then o p ≡ Equal
    equal_then o p e f = rw (e, f) refl

    clash : (o : Ordering) → o ≡ Equal → o ≡ Less → ⊥
    clash o one other = cc

pub below_at : (k : List ℕ) (ds : List (ℕ × ℕ)) (n : ℕ) (d : ℕ × ℕ) → AllByRecursion (λ e. IsBelow k e) (map pair_key ds) → slice_get ds n ≡ Some d → IsBelow k (pair_key d)
below_at k [] n d all e = absurd cc
below_at k (q ∷ ds) zero d all e = subst (λ (r : ℕ × ℕ). IsBelow k (pair_key r)) (some_is q d e) all.0
below_at k (q ∷ ds) (suc n) d all e = below_at k ds n d all.1 e

pub pairs_once : (ds : List (ℕ × ℕ)) → AscendBy pair_key ds → AreOnce ds
unfolding IsStrictlySortedBy
pairs_once [] ascend i k d one other = absurd cc
pairs_once (q ∷ ds) ascend zero zero d one other = refl
pairs_once (q ∷ ds) ascend zero (suc k) d one other =
    absurd (not_itself d (subst (λ (r : ℕ × ℕ). IsBelow (pair_key r) (pair_key d)) (some_is q d one) (below_at (pair_key q) ds k d ascend.0 other)))
pairs_once (q ∷ ds) ascend (suc i) zero d one other =
    absurd (not_itself d (subst (λ (r : ℕ × ℕ). IsBelow (pair_key r) (pair_key d)) (some_is q d other) (below_at (pair_key q) ds i d ascend.0 one)))
pairs_once (q ∷ ds) ascend (suc i) (suc k) d one other = ap suc (pairs_once ds ascend.1 i k d one other)

all_once : (ds : List (ℕ × ℕ)) (table : List ((ℕ × ℕ) × List ℕ)) → AreOnce ds → AllByRecursion (λ e. Once (λ d y. is_key d y.0) ds e) table
all_once ds [] once = tt
all_once ds (e ∷ table) once = (once_in_keys (λ (y : (ℕ × ℕ) × List ℕ). y.0) ds e once, all_once ds table once)

-- the sets of cells in another order
cells_le : (cells ordered : List (ℕ × ℕ)) (sets : List (List ℕ)) → length cells ≡ length sets → ((k : ℕ) → IsAscending (set_at sets k)) → AscendBy pair_key ordered
    → total (map (cell_set cells (set_at sets)) ordered) ≤ total sets
cells_le cells ordered sets len ascends ascend =
    let set : ℕ × ℕ → List ℕ = cell_set cells (set_at sets) in
    let table : List ((ℕ × ℕ) × List ℕ) = zip cells sets in
    let first = sets_le (λ (d : ℕ × ℕ) (e : (ℕ × ℕ) × List ℕ). is_key d e.0) (λ e. e.1) table ordered (map set ordered) (length_mapped set ordered) (all_zipped cells sets (all_by_at sets ascends))
    (all_mapped IsAscending set ordered (λ d. of_place (position (λ e. d.0 == e.0 && d.1 == e.1) cells)))
    (zip_mapped (λ d xs. (x : ℕ) → has xs x ≡ true → list_any (λ e. is_key d e.0 && has e.1 x) table ≡ true) set ordered
    (λ d x e. told d x (position (λ e. d.0 == e.0 && d.1 == e.1) cells) refl e)) in
    let second = sizes_le (λ (d : ℕ × ℕ) (e : (ℕ × ℕ) × List ℕ). is_key d e.0) (λ e. e.1) ordered table (all_once ordered table (pairs_once ordered ascend)) in
    let third = zip_sum cells sets len in
    omega (arith, first, second, third)
  where
    of_place : (o : Option ℕ) → IsAscending (option_map_or (set_at sets) o [])
    of_place None = tt
    of_place (Some k) = ascends k

    told : (d : ℕ × ℕ) (x : ℕ) (o : Option ℕ) → position (λ e. d.0 == e.0 && d.1 == e.1) cells ≡ o → has (option_map_or (set_at sets) o []) x ≡ true
        → list_any (λ e. is_key d e.0 && has e.1 x) (zip cells sets) ≡ true
    told d x None is e = absurd cc
    told d x (Some k) is e = in_table cells sets k x d (found_place cells d k is) e

-- facts that list sets have no more pairs
pub pairs_within : (l : Layout) (g : Found) (facts : Facts) → IsLaid l g → IsLeast g.solver.constraints g.solver.sets → IsListed l g facts → pair_count facts ≤ set_pairs g.solver.sets
pairs_within l g facts laid least is =
    let sets = g.solver.sets in
    let r = l.registers in
    let f = l.fields in
    let s = l.sites in
    let last : List (List ℕ) = drop (r + f + s) sets in
    let count : length sets ≡ r + f + s + length g.cells.keys = omega (arith, least.count, laid.count, laid.first) in
    let after : length last + (r + f + s) ≡ length sets = length_drop (r + f + s) sets (omega (arith, count)) in
    let cells_are : sum (map (λ c. length c.2) facts.cells) ≡ total (map (cell_set g.cells.keys (set_at last)) is.cells.ordered) =
    ap (λ cs. sum (map (λ c. length c.2) cs)) is.cells.is
    ∙ cells_sum (cell_set g.cells.keys (λ place. set_at sets (l.first_cell + place))) is.cells.ordered
    ∙ ap total (same_mapped is.cells.ordered) in
    let cells = cells_le g.cells.keys is.cells.ordered last (omega (arith, after, count))
    (λ k. subst IsAscending (sym (at_drop (r + f + s) sets k)) (ascending_at sets least.ascending (r + f + s + k))) is.cells.pairs.ascend in
    let regs : sum (map (λ xs. length xs) facts.regs) ≡ total (take r sets) = ap total is.regs in
    let statics : sum (map (λ xs. length xs) facts.statics) ≡ total (take f (drop r sets)) = ap total is.statics in
    let elems : sum (map (λ e. length e.1) facts.elems) ≡ total (take s (drop (r + f) sets)) =
    ap (λ es. sum (map (λ e. length e.1) es)) is.elems ∙ elements_sum 0 (take s (drop (r + f) sets)) in
    let all = four_parts r f s sets in
    let counted = total_is sets in
    omega (arith, cells_are, cells, regs, statics, elems, all, counted)
  where
    same_at : (d : ℕ × ℕ) (o : Option ℕ) → option_map_or (λ (k : ℕ). set_at g.solver.sets (l.first_cell + k)) o [] ≡ option_map_or (set_at (drop (l.registers + l.fields + l.sites) g.solver.sets)) o []
    same_at d None = refl
    same_at d (Some k) =
        ap (λ (n : ℕ). set_at g.solver.sets (n + k)) laid.first ∙ sym (at_drop (l.registers + l.fields + l.sites) g.solver.sets k)

    same_mapped : (ds : List (ℕ × ℕ)) → map (cell_set g.cells.keys (λ place. set_at g.solver.sets (l.first_cell + place))) ds ≡ map (cell_set g.cells.keys (set_at (drop (l.registers + l.fields + l.sites) g.solver.sets))) ds
    same_mapped [] = refl
    same_mapped (d ∷ ds) =
        ap (λ (xs : List ℕ). xs ∷ map (cell_set g.cells.keys (λ place. set_at g.solver.sets (l.first_cell + place))) ds) (same_at d (position (λ e. d.0 == e.0 && d.1 == e.1) g.cells.keys))
        ∙ ap (λ (xs : List (List ℕ)). cell_set g.cells.keys (set_at (drop (l.registers + l.fields + l.sites) g.solver.sets)) d ∷ xs) (same_mapped ds)

-- ---- of all facts that hold what is asked

listed_ascends : (xs : List ℕ) → IsListedSet xs → IsAscending xs
listed_ascends [] is = tt
listed_ascends (x ∷ xs) is = is

all_numbered : (elems : List (SiteId × List ℕ)) (n count : ℕ) → AllByRecursion (λ e. Once (λ k y. y.0.0 == k) (numbers n count) e) elems
all_numbered [] n count = tt
all_numbered (e ∷ elems) n count = (once_in_numbers (λ (y : SiteId × List ℕ). y.0.0) n count e, all_numbered elems n count)

all_keyed : (cells : List (SiteId × FieldId × List ℕ)) (keys : List (ℕ × ℕ)) → AreOnce keys → AllByRecursion (λ c. Once (λ d y. is_key d (y.0.0, y.1.0)) keys c) cells
all_keyed [] keys once = tt
all_keyed (c ∷ cells) keys once = (once_in_keys (λ (y : SiteId × FieldId × List ℕ). (y.0.0, y.1.0)) keys c once, all_keyed cells keys once)

pub pairs_over : (h : List ClassInfo) (l : Layout) (p : RegProgram) (g : Found) (facts : Facts) (limit : ℕ) → l.registers ≡ register_count p → l.fields ≡ field_count h → IsLaid l g
    → AreOnce g.cells.keys → HasMoreThan g.solver.constraints limit → Holds l g (sets_of facts) → AreListed h p facts → limit < pair_count facts
pairs_over h l p g facts limit registers fields laid once more asked listed =
    let u = sets_of facts in
    let cells = g.cells.keys in
    let sets = more.some in
    let r = l.registers in
    let f = l.fields in
    let s = l.sites in
    let count : length sets ≡ r + f + s + length cells = omega (arith, more.count, laid.count, laid.first) in
    let ascends : (k : ℕ) → IsAscending (set_at sets k) = ascending_at sets more.ascending in
    let said : (i x : ℕ) → has (set_at sets i) x ≡ true → holds l cells u i x ≡ true = λ i x e. within_closed g.solver.constraints (holds l cells u) asked.sets i x (more.reach i x e) in
    let one : List (List ℕ) = take r sets in
    let two : List (List ℕ) = take f (drop r sets) in
    let three : List (List ℕ) = take s (drop (r + f) sets) in
    let four : List (List ℕ) = drop (r + f + s) sets in
    let after_one = length_drop r sets (omega (arith, count)) in
    let after_two = length_drop (r + f) sets (omega (arith, count)) in
    let after_three = length_drop (r + f + s) sets (omega (arith, count)) in
    let long_one : length one ≡ r = length_take r sets (omega (arith, count)) in
    let long_two : length two ≡ f = length_take f (drop r sets) (omega (arith, count, after_one)) in
    let long_three : length three ≡ s = length_take s (drop (r + f) sets) (omega (arith, count, after_two)) in
    let long_four : length four ≡ length cells = omega (arith, count, after_three) in
    let regs = totals_le one facts.regs (omega (arith, long_one, registers, listed.regs)) (all_by_at one (taken r sets ascends)) listed.regs_ascend
    (λ k x e.
    (let less : k < r = inside one k x e long_one in
    sym (fact_is facts.regs k x) ∙ sym (register_is l cells k k (omega arith) less u x) ∙ said k x (sym (ap (λ (xs : List ℕ). has xs x) (at_take r sets k less)) ∙ e))) in
    let statics = totals_le two facts.statics (omega (arith, long_two, fields, listed.statics)) (all_by_at two (taken f (drop r sets) (dropped r sets ascends))) listed.statics_ascend
    (λ k x e.
    (let less : k < f = inside two k x e long_two in
    sym (fact_is facts.statics k x) ∙ sym (static_is l cells (r + k) k refl less u x)
    ∙ said (r + k) x (sym (ap (λ (xs : List ℕ). has xs x) (at_take f (drop r sets) k less ∙ at_drop r sets k)) ∙ e))) in
    let elems = sets_le (λ (k : ℕ) (e : SiteId × List ℕ). e.0.0 == k) (λ e. e.1) facts.elems (numbers 0 (length three)) three (sym (length_numbers 0 (length three)))
    (all_map _ (λ e. IsAscending e.1) (λ e is. listed_ascends e.1 is) facts.elems listed.elems) (all_by_at three (taken s (drop (r + f) sets) (dropped (r + f) sets ascends)))
    (zip_numbers (λ k xs. (x : ℕ) → has xs x ≡ true → list_any (λ e. (e.0.0 == k) && has e.1 x) facts.elems ≡ true) three 0
    (λ k within x e.
    (let less : k < s = omega (arith, within, long_three) in
    subst (λ (n : ℕ). u.elem n x ≡ true) (let same : k ≡ 0 + k = omega arith in same)
    (sym (elements_is l cells (r + f + k) k laid.first refl less u x)
    ∙ said (r + f + k) x (sym (ap (λ (xs : List ℕ). has xs x) (at_take s (drop (r + f) sets) k less ∙ at_drop (r + f) sets k)) ∙ e))))) in
    let elems_once = sizes_le (λ (k : ℕ) (e : SiteId × List ℕ). e.0.0 == k) (λ e. e.1) (numbers 0 (length three)) facts.elems (all_numbered facts.elems 0 (length three)) in
    let in_cells = sets_le (λ (d : ℕ × ℕ) (c : SiteId × FieldId × List ℕ). is_key d (c.0.0, c.1.0)) (λ c. c.2) facts.cells cells four long_four
    (all_map _ (λ c. IsAscending c.2) (λ c is. listed_ascends c.2 is) facts.cells listed.cells) (all_by_at four (dropped (r + f + s) sets ascends))
    (zip_keys (λ d xs. (x : ℕ) → has xs x ≡ true → list_any (λ c. is_key d (c.0.0, c.1.0) && has c.2 x) facts.cells ≡ true) cells four long_four
    (λ k d at x e.
    sym (cell_is l cells (l.first_cell + k) k d.0 d.1 laid.first refl at u x)
    ∙ said (l.first_cell + k) x (ap (λ (n : ℕ). has (set_at sets (n + k)) x) laid.first ∙ sym (ap (λ (xs : List ℕ). has xs x) (at_drop (r + f + s) sets k)) ∙ e))) in
    let cells_once = sizes_le (λ (d : ℕ × ℕ) (c : SiteId × FieldId × List ℕ). is_key d (c.0.0, c.1.0)) (λ c. c.2) cells facts.cells (all_keyed facts.cells cells once) in
    let all = four_parts r f s sets in
    let counted = total_is sets in
    let over = more.over in
    let elems_are : total three ≤ sum (map (λ e. length e.1) facts.elems) = omega (arith, elems, elems_once) in
    let cells_are : total four ≤ sum (map (λ c. length c.2) facts.cells) = omega (arith, in_cells, cells_once) in
    omega (arith, regs, statics, elems_are, cells_are, all, counted, over)
  where
    less_or : (a b : ℕ) → (a < b) ⊎ (b ≤ a)
    less_or a b = grind arith

    inside : (sets : List (List ℕ)) (k x : ℕ) {n : ℕ} → has (set_at sets k) x ≡ true → length sets ≡ n → k < n
    inside sets k x e len = elim (less_or k (length sets)) [
      | inl less ↦ omega (arith, less, len)
      | inr past ↦ absurd (nothing (sym (ap (λ (xs : List ℕ). has xs x) (none_past sets k past)) ∙ e))
    ]
      where
        nothing : false ≡ true → ⊥
        nothing e = cc
