-- Instructions are listed with their offsets and rows.
use Rattle.std.proofs.Common.{◌≡◌, ℕ, zero, suc, ◌+◌, ◌<◌, List, [], ◌∷◌, ◌++◌, length, map, take, get_or, All, Contains, refl, sym, ap, ◌∙◌, add-one, arith}
use Rattle.std.proofs.lemmas.List.{get_or-map, get_or_default, length-map}
use Rattle.th_syntax.specs.declared.instr.Instr.{Instr}
use Rattle.th_syntax.specs.declared.instr.Instr.TheVariants.{Nop}
use Rattle.th_syntax.specs.KindRows.{KindRow, row_of}
use Rattle.th_kinds.specs.declared.row.Row.{Row}
use Rattle.th_kinds.specs.Rows.{seen_row}
use Rattle.th_kinds.specs.Flowing.{FlowsWell, line, jumps}
use Rattle.th_kinds.specs.Kept.{Ascend}
use Rattle.th_kinds.specs.Listings.{seen_rows}

seen_append : (xs ys : List Row) → seen_rows (xs ++ ys) ≡ seen_rows xs ++ seen_rows ys
seen_append [] ys = refl
seen_append (x ∷ xs) ys = ap (λ (rest : List KindRow). seen_row x ∷ rest) (seen_append xs ys)

length-seen_rows : (rows : List Row) → length (seen_rows rows) ≡ length rows
length-seen_rows [] = refl
length-seen_rows (row ∷ rows) = ap suc (length-seen_rows rows)

seen_at : (rows : List Row) (k : ℕ) (d : Row) (e : KindRow) → k < length rows → get_or (seen_rows rows) k e ≡ seen_row (get_or rows k d)
seen_at [] k d e inside = absurd (omega arith)
seen_at (row ∷ rows) zero d e inside = refl
seen_at (row ∷ rows) (suc k) d e inside = seen_at rows k d e (omega arith)

pub rows_as_many : (instrs : List (ℕ × Instr)) (rows : List Row) → seen_rows rows ≡ map (λ (i : ℕ × Instr). row_of i.1) instrs → length rows ≡ length instrs
rows_as_many instrs rows same = sym (length-seen_rows rows) ∙ ap length same ∙ length-map instrs (λ (i : ℕ × Instr). row_of i.1)

pub row_there : (instrs : List (ℕ × Instr)) (rows : List Row) (k : ℕ) (d : Row) → seen_rows rows ≡ map (λ (i : ℕ × Instr). row_of i.1) instrs → k < length instrs → seen_row (get_or rows k d) ≡ row_of (line instrs k).1
row_there instrs rows k d same inside =
    let long : length rows ≡ length instrs = rows_as_many instrs rows same in
    sym (seen_at rows k d (row_of Nop) (omega arith)) ∙ ap (λ (xs : List KindRow). get_or xs k (row_of Nop)) same ∙ get_or-map (λ (i : ℕ × Instr). row_of i.1) instrs k (0, Nop) (row_of Nop) inside

pub offset_there : (instrs : List (ℕ × Instr)) (offsets : List ℕ) (k : ℕ) → offsets ≡ map (λ (i : ℕ × Instr). i.0) instrs → k < length instrs → get_or offsets k 0 ≡ (line instrs k).0
offset_there instrs offsets k same inside = ap (λ (xs : List ℕ). get_or xs k 0) same ∙ get_or-map (λ (i : ℕ × Instr). i.0) instrs k (0, Nop) 0 inside

pub as_many : (instrs : List (ℕ × Instr)) (offsets : List ℕ) → offsets ≡ map (λ (i : ℕ × Instr). i.0) instrs → length offsets ≡ length instrs
as_many instrs offsets same = ap length same ∙ length-map instrs (λ (i : ℕ × Instr). i.0)

pub offsets_ascend : (instrs : List (ℕ × Instr)) (offsets : List ℕ) → FlowsWell instrs → offsets ≡ map (λ (i : ℕ × Instr). i.0) instrs → Ascend offsets
offsets_ascend instrs offsets well same i j below inside =
    let long = as_many instrs offsets same in
    let one = offset_there instrs offsets i same (omega arith) in
    let two = offset_there instrs offsets j same (omega arith) in
    let less = well.ascending i j below (omega arith) in omega arith

targets_there : (instrs : List (ℕ × Instr)) (offsets : List ℕ) → FlowsWell instrs → offsets ≡ map (λ (i : ℕ × Instr). i.0) instrs → (k to : ℕ) → k < length instrs → Contains (jumps (line instrs k).1) to → Contains offsets to
targets_there instrs offsets well same k to inside jump =
    let long = as_many instrs offsets same in
    let place = well.jumps_in k to inside jump in
    let found : get_or offsets place.0 to ≡ to = get_or_default offsets place.0 to 0 (let there = place.1 in omega arith) ∙ offset_there instrs offsets place.0 same place.1 ∙ place.2 in
    (place.0, (let there = place.1 in omega arith), found)

pub all_there : (instrs : List (ℕ × Instr)) (offsets : List ℕ) → FlowsWell instrs → offsets ≡ map (λ (i : ℕ × Instr). i.0) instrs → (k : ℕ) → k < length instrs → All (λ target. Contains offsets target) (jumps (line instrs k).1)
all_there instrs offsets well same k inside i d below =
    targets_there instrs offsets well same k (get_or (jumps (line instrs k).1) i d) inside
    (i, below, get_or_default (jumps (line instrs k).1) i (get_or (jumps (line instrs k).1) i d) d below)

-- ---- one row more

rows_front : (instrs : List (ℕ × Instr)) (i : ℕ) (d : ℕ × Instr) → i < length instrs
    → map (λ (x : ℕ × Instr). row_of x.1) (take (suc i) instrs) ≡ map (λ (x : ℕ × Instr). row_of x.1) (take i instrs) ++ row_of (get_or instrs i d).1 ∷ []
rows_front [] i d inside = absurd (omega arith)
rows_front (x ∷ instrs) zero d inside = refl
rows_front (x ∷ instrs) (suc i) d inside = ap (λ (rest : List KindRow). row_of x.1 ∷ rest) (rows_front instrs i d (omega arith))

pub rows_more : (instrs : List (ℕ × Instr)) (rows : List Row) (i : ℕ) (row : Row) (d : ℕ × Instr) → seen_rows rows ≡ map (λ (x : ℕ × Instr). row_of x.1) (take i instrs) → i < length instrs
    → seen_row row ≡ row_of (get_or instrs i d).1 → seen_rows (rows ++ row ∷ []) ≡ map (λ (x : ℕ × Instr). row_of x.1) (take (i + 1) instrs)
rows_more instrs rows i row d same inside is =
    seen_append rows (row ∷ []) ∙ ap (λ (front : List KindRow). front ++ seen_row row ∷ []) same
    ∙ ap (λ (k : KindRow). map (λ (x : ℕ × Instr). row_of x.1) (take i instrs) ++ k ∷ []) is ∙ sym (rows_front instrs i d inside)
    ∙ ap (λ (n : ℕ). map (λ (x : ℕ × Instr). row_of x.1) (take n instrs)) (sym (add-one i))
