-- Flaws that ascend between two offsets, and values that stand one behind the other between two offsets.
use Rattle.std.proofs.Common.{◌≡◌, ℕ, zero, suc, ◌+◌, ◌<◌, ◌≤◌, Bool, true, false, cond, List, [], ◌∷◌, ◌++◌, map, length, Option, Some, None, Result, Ok, Err, refl, sym, ap, subst, ◌∙◌, arith, inl, inr}
use Rattle.std.specs.List.{AllByRecursion, flat_map, filter, filter_map, cons_option}
use Rattle.th_syntax.specs.declared.refusal.Flaw.{Flaw}
use Rattle.th_syntax.specs.Flaws.{NotBehind, Ascend, unless}
use Rattle.th_syntax.specs.Forms.{Form, ◌>>=◌, whole, Placed, Found, read}
use Rattle.th_syntax.specs.ClassBytes.{u2, times, counted}
use Rattle.th_syntax.proofs.Inverting.{all_append}
use Rattle.th_syntax.proofs.ReadingParts.{read_split, whole_found, number_place}

-- ---- flaws

-- the flaws ascend, each of them from the offset `low` on and below `high`
pub record Within (low high : ℕ) (flaws : List Flaw) : Type 0 where
  pub order : Ascend flaws
  pub from : AllByRecursion (λ f. low ≤ f.offset) flaws
  pub below : AllByRecursion (λ f. f.offset < high) flaws

pub none_within : (low high : ℕ) → Within low high []
none_within low high = record { order = tt; from = tt; below = tt }

pub one_within : (low high : ℕ) (f : Flaw) → low ≤ f.offset → f.offset < high → Within low high (f ∷ [])
one_within low high f from below = record { order = (tt, tt); from = (from, tt); below = (below, tt) }

pub unless_within : (low high : ℕ) (test : Bool) (f : Flaw) → low ≤ f.offset → f.offset < high → Within low high (unless test f)
unless_within low high true f from below = none_within low high
unless_within low high false f from below = one_within low high f from below

all_from : (low lower : ℕ) (flaws : List Flaw) → lower ≤ low → AllByRecursion (λ f. low ≤ f.offset) flaws → AllByRecursion (λ f. lower ≤ f.offset) flaws
all_from low lower [] le all = tt
all_from low lower (f ∷ flaws) le all = ((let h : low ≤ f.offset = all.0 in omega arith), all_from low lower flaws le all.1)

all_below : (high higher : ℕ) (flaws : List Flaw) → high ≤ higher → AllByRecursion (λ f. f.offset < high) flaws → AllByRecursion (λ f. f.offset < higher) flaws
all_below high higher [] le all = tt
all_below high higher (f ∷ flaws) le all = ((let h : f.offset < high = all.0 in omega arith), all_below high higher flaws le all.1)

pub wider : (lower low high higher : ℕ) (flaws : List Flaw) → lower ≤ low → high ≤ higher → Within low high flaws → Within lower higher flaws
wider lower low high higher flaws le less w = record { order = w.order; from = all_from low lower flaws le w.from; below = all_below high higher flaws less w.below }

-- a flaw below an offset isn't behind the flaws from it on
before_all : (middle : ℕ) (f : Flaw) (ys : List Flaw) → f.offset < middle → AllByRecursion (λ g. middle ≤ g.offset) ys → AllByRecursion (NotBehind f) ys
before_all middle f [] lower all = tt
before_all middle f (g ∷ ys) lower all = (inl (let h : middle ≤ g.offset = all.0 in omega arith), before_all middle f ys lower all.1)

ascend_both : (middle : ℕ) (xs ys : List Flaw) → Ascend xs → Ascend ys → AllByRecursion (λ f. f.offset < middle) xs → AllByRecursion (λ f. middle ≤ f.offset) ys → Ascend (xs ++ ys)
ascend_both middle [] ys up too below from = too
ascend_both middle (x ∷ xs) ys up too below from =
    (all_append (NotBehind x) xs ys up.0 (before_all middle x ys below.0 from), ascend_both middle xs ys up.1 too below.1 from)

pub both_within : (low middle high : ℕ) (xs ys : List Flaw) → low ≤ middle → middle ≤ high → Within low middle xs → Within middle high ys → Within low high (xs ++ ys)
both_within low middle high xs ys le less v w = record {
  order = ascend_both middle xs ys v.order w.order v.below w.from;
  from = all_append (λ f. low ≤ f.offset) xs ys v.from (all_from middle low ys le w.from);
  below = all_append (λ f. f.offset < high) xs ys (all_below middle high xs less v.below) w.below;
}

-- ---- values in a row

-- The values stand one behind the other from the offset `low` on, and end at `high` or before. `P` says
-- where one of them stands.
abbrev pub Row : {A : Type 0} → (A → ℕ → ℕ → Type 0) → ℕ → ℕ → List A → Type 0
Row P low high [] = low ≤ high
Row P low high (x ∷ xs) = (middle : ℕ) × (low ≤ middle) × P x low middle × Row P middle high xs

pub row_end : {A : Type 0} (P : A → ℕ → ℕ → Type 0) (low high : ℕ) (xs : List A) → Row P low high xs → low ≤ high
row_end P low high [] row = row
row_end P low high (x ∷ xs) row = let le : row.0 ≤ high = row_end P row.0 high xs row.3 in let h : low ≤ row.0 = row.1 in omega arith

-- the flaws of each, one behind the other
pub row_within : {A : Type 0} (P : A → ℕ → ℕ → Type 0) (f : A → List Flaw) (low high : ℕ) (xs : List A) → ((x : A) (l h : ℕ) → P x l h → Within l h (f x)) → Row P low high xs → Within low high (flat_map f xs)
row_within P f low high [] each row = none_within low high
row_within P f low high (x ∷ xs) each row = both_within low row.0 high (f x) (flat_map f xs) row.1 (row_end P row.0 high xs row.3) (each x low row.0 row.2) (row_within P f row.0 high xs each row.3)

-- the same of those that have one
one_more : (low middle high : ℕ) (o : Option Flaw) (flaws : List Flaw) → low ≤ middle → middle ≤ high → ((f : Flaw) → o ≡ Some f → (low ≤ f.offset) × (f.offset < middle)) → Within middle high flaws → Within low high (cons_option o flaws)
one_more low middle high None flaws le less each w = wider low middle high high flaws le (omega arith) w
one_more low middle high (Some f) flaws le less each w = let at = each f refl in both_within low middle high (f ∷ []) flaws le less (one_within low middle f at.0 at.1) w

pub row_some : {A : Type 0} (P : A → ℕ → ℕ → Type 0) (h : A → Option Flaw) (low high : ℕ) (xs : List A) → ((x : A) (l m : ℕ) (f : Flaw) → P x l m → h x ≡ Some f → (l ≤ f.offset) × (f.offset < m)) → Row P low high xs → Within low high (filter_map h xs)
row_some P h low high [] each row = none_within low high
row_some P h low high (x ∷ xs) each row =
    one_more low row.0 high (h x) (filter_map h xs) row.1 (row_end P row.0 high xs row.3) (λ f is. each x low row.0 f row.2 is) (row_some P h row.0 high xs each row.3)

-- a row that begins earlier
pub row_earlier : {A : Type 0} (P : A → ℕ → ℕ → Type 0) (lower low high : ℕ) (xs : List A) → ((x : A) (k l h : ℕ) → k ≤ l → P x l h → P x k h) → lower ≤ low → Row P low high xs → Row P lower high xs
row_earlier P lower low high [] down le row = let h : low ≤ high = row in omega arith
row_earlier P lower low high (x ∷ xs) down le row = (row.0, (let h : low ≤ row.0 = row.1 in omega arith), down x lower low row.0 le row.2, row.3)

-- those of a row that pass a test
kept : {A : Type 0} (P : A → ℕ → ℕ → Type 0) (t : Bool) (x : A) (low middle high : ℕ) (xs : List A) → ((y : A) (k l h : ℕ) → k ≤ l → P y l h → P y k h) → low ≤ middle → P x low middle → Row P middle high xs → Row P low high (cond t (x ∷ xs) xs)
kept P true x low middle high xs down le here row = (middle, le, here, row)
kept P false x low middle high xs down le here row = row_earlier P low middle high xs down le row

pub row_kept : {A : Type 0} (P : A → ℕ → ℕ → Type 0) (test : A → Bool) (low high : ℕ) (xs : List A) → ((y : A) (k l h : ℕ) → k ≤ l → P y l h → P y k h) → Row P low high xs → Row P low high (filter test xs)
row_kept P test low high [] down row = row
row_kept P test low high (x ∷ xs) down row = kept P (test x) x low row.0 high (filter test xs) down row.1 row.2 (row_kept P test row.0 high xs down row.3)

-- ---- rows that are read

pub times_row : {A : Type 0} (P : A → ℕ → ℕ → Type 0) (form : Form A) (n at : ℕ) (bytes : List ℕ) (found : Found (List A)) → ((at : ℕ) (bytes : List ℕ) (found : Found A) → read form at bytes ≡ Ok found → (at ≤ found.1) × P found.0 at found.1)
    → read (times n form) at bytes ≡ Ok found → Row P at found.1 found.0
unfolding times
times_row P form zero at bytes found each e = let w = whole_found [] at bytes found e in rw w.0 (let end : found.1 ≡ at = w.1 in omega arith)
times_row {A = A} P form (suc n) at bytes found each e =
    let one = read_split form _ at bytes found e in
    let here = each at bytes one.0 one.1 in
    let two = read_split (times n form) (λ others. whole (one.0.0 ∷ others)) one.0.1 one.0.2 found one.2 in
    let rest = times_row P form n one.0.1 one.0.2 two.0 each two.1 in
    let w = whole_found (one.0.0 ∷ two.0.0) two.0.1 two.0.2 found two.2 in
    let behind : Row P one.0.1 found.1 two.0.0 = subst (λ (k : ℕ). Row P one.0.1 k two.0.0) (sym w.1) rest in
    subst (λ (xs : List A). Row P at found.1 xs) (sym w.0) (one.0.1, here.0, here.1, behind)

pub counted_row : {A : Type 0} (P : A → ℕ → ℕ → Type 0) (form : Form A) (at : ℕ) (bytes : List ℕ) (found : Found (List A)) → ((at : ℕ) (bytes : List ℕ) (found : Found A) → read form at bytes ≡ Ok found → (at ≤ found.1) × P found.0 at found.1)
    → read (counted form) at bytes ≡ Ok found → Row P (at + 2) found.1 found.0
unfolding counted
counted_row P form at bytes found each e =
    let one = read_split u2 (λ count. times count.value form) at bytes found e in
    let begin : one.0.1 ≡ at + 2 = (number_place 2 at bytes one.0 one.1).1 in
    subst (λ (k : ℕ). Row P k found.1 found.0) begin (times_row P form one.0.0.value one.0.1 one.0.2 found each one.2)
