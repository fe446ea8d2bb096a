-- What the numbering of a query needs, and what it gives: the order of first mention has no more numbers
-- than there are symbols, and none twice.
use Rattle.std.proofs.Common.{◌≡◌, inl, inr, ℕ, ◌<◌, ◌≤◌, eqb, true, false, List, [], ◌∷◌, length, map, slice_get, ◌^◌, refl, sym, ap, subst, ◌∙◌, arith}
use Rattle.std.specs.List.{list_any, AllByRecursion, IsDistinct}
use Rattle.std.proofs.lemmas.Bool.{both_ways, eqb-true, or_cases, cases_Bool}
use Rattle.std.proofs.lemmas.Option.{slice_get-get_or, slice_get_within}
use Rattle.std.proofs.lemmas.Map.Steps.{length-le_from_distinct_below}
use Rattle.th_base.specs.declared.number.FieldId.{FieldId}
use Rattle.th_linear.specs.Forms.{Form}
use Rattle.th_linear.specs.Gathered.{renamed_form}
use Rattle.th_query.specs.declared.query.Cell.{Cell}
use Rattle.th_query.specs.declared.query.Element.{Element}
use Rattle.th_query.specs.declared.query.Frame.{Frame}
use Rattle.th_query.specs.declared.query.Query.{Query}
use Rattle.th_query.specs.declared.query.Sym.{Sym}
use Rattle.th_query.specs.declared.query.Sym.TheVariants.{Int}
use Rattle.th_query.specs.Unified.{present, renamed, renamed_cell, renamed_element}
use Rattle.th_query.specs.Symbols.{is_named}
use Rattle.th_query.specs.Numbered.{sorted_by, order_of, sorted_query, numbers_by, numbered_frame, numbered_pair, numbered_by, numbered}
use Rattle.th_query.proofs.InLists.{In}
use Rattle.th_query.proofs.Formed.{AreThere}
use Rattle.th_query.proofs.Mentioning.{AreOnce, order_once}
use Rattle.th_query.proofs.Numbering.{sorted_named, ordered_there}
use Rattle.th_steps.specs.Once.{IsOnce}
use Rattle.th_steps.proofs.Taking.{once_from}

none_like : (x : ℕ) (xs : List ℕ) → (In x xs → ⊥) → AllByRecursion (λ y. eqb x y ≡ false) xs
none_like x [] n = tt
none_like x (y ∷ ys) n = (elim (cases_Bool (eqb x y)) [ inl e ↦ absurd (n (inl (eqb-true x y e))) | inr e ↦ e ], none_like x ys (λ m. n (inr m)))

distinct : (xs : List ℕ) → AreOnce xs → IsDistinct eqb xs
unfolding IsDistinct
distinct [] a = tt
distinct (x ∷ xs) a = (none_like x xs a.0, distinct xs a.1)

in_any : (s : ℕ) (xs : List ℕ) → list_any (eqb s) xs ≡ true → In s xs
in_any s [] e = absurd (both_ways _ refl e)
in_any s (x ∷ xs) e = elim (or_cases (eqb s x) (list_any (eqb s) xs) e) [ inl here ↦ inl (eqb-true s x here) | inr later ↦ inr (in_any s xs later) ]

few_mentioned : (q : Query) → ((s : ℕ) → is_named q s ≡ true → s < length q.syms) → length (order_of (sorted_query q)) ≤ length q.syms
few_mentioned q named =
    let r = sorted_query q in
    let there : AreThere r = λ s n. (_, slice_get-get_or r.syms s Int (named s (sorted_named q s n))) in
    length-le_from_distinct_below (order_of r) (length q.syms) (distinct (order_of r) (order_once r))
    (λ s e. let x = ordered_there r there s (in_any s (order_of r) e) in slice_get_within r.syms s x.0 x.1)

-- ---- of the query that is sorted

pub few_sorted : (q r : Query) → r ≡ sorted_query q → length q.syms < 2 ^ 31 → length r.syms < 2 ^ 31
few_sorted q r is few = subst (λ (z : Query). length z.syms < 2 ^ 31) (sym is) few

pub few_numbered : (q r : Query) (order : List ℕ) → r ≡ sorted_query q → order ≡ order_of r → ((s : ℕ) → is_named q s ≡ true → s < length q.syms) → length q.syms < 2 ^ 31 → length order < 2 ^ 32
few_numbered q r order is ordered named few =
    let least = few_mentioned q named in
    let same : length order ≡ length (order_of (sorted_query q)) = ap length (ordered ∙ ap order_of is) in
    omega (arith, least, same, few)

pub once_numbered : (r : Query) (order : List ℕ) → order ≡ order_of r → IsOnce order
once_numbered r order ordered = subst IsOnce (sym ordered) (once_from (order_of r) (order_once r))

pub whole : (q r made : Query) (order names : List ℕ) → r ≡ sorted_query q → order ≡ order_of r → names ≡ numbers_by order (length r.syms) → made ≡ numbered_by order names r → made ≡ numbered q
whole q r made order names is ordered named e =
    e
    ∙ ap (λ ns. numbered_by order ns r) named
    ∙ ap (λ o. numbered_by o (numbers_by o (length r.syms)) r) ordered
    ∙ ap (λ (z : Query). numbered_by (order_of z) (numbers_by (order_of z) (length z.syms)) z) is

-- part by part
pub numbered_parts : (order names : List ℕ) (q : Query) (frames : List Frame) (statics : List (FieldId × ℕ)) (cells turned : List Cell) (elems : List Element) (syms : List Sym) (diffs : List (ℕ × ℕ)) (facts : List Form)
    → frames ≡ map (numbered_frame names) q.frames → statics ≡ map (renamed names) q.statics → turned ≡ map (renamed_cell names) q.cells → cells ≡ sorted_by (λ c. c.base) turned → elems ≡ map (renamed_element names) q.elems
    → syms ≡ present (map (slice_get q.syms) order) → diffs ≡ map (numbered_pair names) q.diffs → facts ≡ present (map (renamed_form names) q.facts)
    → record { frames = frames; statics = statics; cells = cells; elems = elems; syms = syms; diffs = diffs; facts = facts } ≡ numbered_by order names q
numbered_parts order names q frames statics cells turned elems syms diffs facts f s t c e y d l =
    let by_base : cells ≡ sorted_by (λ x. x.base) (map (renamed_cell names) q.cells) = c ∙ ap (sorted_by (λ (x : Cell). x.base)) t in
    λ i. record { frames = f i; statics = s i; cells = by_base i; elems = e i; syms = y i; diffs = d i; facts = l i }
