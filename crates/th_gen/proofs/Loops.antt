-- One step of a loop over a list: what was gathered of the items before one, and of it.
use Rattle.std.proofs.Common.{◌≡◌, ℕ, zero, suc, ◌≤◌, Some, slice_get, add-one, drop-cons, ◌+◌, ◌<◌, Bool, true, false, ◌&&◌, List, [], ◌∷◌, ◌++◌, length, take, drop, get_or, refl, sym, ap, ◌∙◌, arith, append_assoc}
use Rattle.std.specs.Prelude.{min, nat_le}
use Rattle.std.proofs.lemmas.Bool.{lt-leb, le-leb}
use Rattle.std.specs.List.{flat_map, list_all}
use Rattle.std.proofs.lemmas.List.{take_more, append-nil}
use Rattle.th_gen.specs.declared.item.PoolItem.{PoolItem}
use Rattle.th_syntax.specs.declared.instr.Instr.{Instr}
use Rattle.th_gen.specs.Items.{with_items, width, indices_from, index_behind, pool_count}
use Rattle.th_gen.specs.Placing.{reaches, all_reach, size_by, size_of, starts_from, code_end}
use Rattle.th_gen.specs.declared.spelling.Spelling.{Spelling}
use Rattle.th_gen.specs.Spellings.{spelling_of}
use Rattle.th_gen.specs.ClassText as text
use Rattle.th_gen.proofs.CodeSpelled.{room_of}
use Rattle.th_gen.proofs.Interning.{with_append}

both : (a b : Bool) → (a && b) ≡ true → (a ≡ true) × (b ≡ true)
both true b e = (refl, e)
both false b e = absurd cc

flat-append : {X Y : Type 0} (f : X → List Y) (xs ys : List X) → flat_map f (xs ++ ys) ≡ flat_map f xs ++ flat_map f ys
flat-append f [] ys = refl
flat-append f (x ∷ xs) ys = ap (λ r. f x ++ r) (flat-append f xs ys) ∙ sym (append_assoc (f x) (flat_map f xs) (flat_map f ys))

flat_more : {X Y : Type 0} (f : X → List Y) (xs : List X) (i : ℕ) (x : X) → i < length xs → x ≡ get_or xs i x → flat_map f (take (i + 1) xs) ≡ flat_map f (take i xs) ++ f x
flat_more f xs i x lt is =
    ap (flat_map f) (take_more xs i x lt) ∙ ap (λ y. flat_map f (take i xs ++ y ∷ [])) (sym is) ∙ flat-append f (take i xs) (x ∷ []) ∙ ap (λ r. flat_map f (take i xs) ++ r) (append-nil (f x))

-- entries of one item more
pub pool_more : {X : Type 0} (f : X → List PoolItem) (xs : List X) (i : ℕ) (x : X) (first before after : List PoolItem) → i < length xs → x ≡ get_or xs i x → before ≡ with_items first (flat_map f (take i xs)) → after ≡ with_items before (f x)
    → after ≡ with_items first (flat_map f (take (i + 1) xs))
pool_more f xs i x first before after lt is e g =
    g ∙ ap (λ (p : List PoolItem). with_items p (f x)) e ∙ sym (with_append (flat_map f (take i xs)) (f x) first) ∙ ap (with_items first) (sym (flat_more f xs i x lt is))

-- bytes of one item more
pub bytes_more : {X : Type 0} (f : X → List ℕ) (xs : List X) (i : ℕ) (x : X) (first before after : List ℕ) → i < length xs → x ≡ get_or xs i x → before ≡ first ++ flat_map f (take i xs) → after ≡ before ++ f x
    → after ≡ first ++ flat_map f (take (i + 1) xs)
bytes_more f xs i x first before after lt is e g =
    g ∙ ap (λ (p : List ℕ). p ++ f x) e ∙ append_assoc first (flat_map f (take i xs)) (f x) ∙ ap (λ (p : List ℕ). first ++ p) (sym (flat_more f xs i x lt is))

-- the same of a number or a pair, under any default
pub bytes_more_at : {X : Type 0} (f : X → List ℕ) (xs : List X) (i : ℕ) (d : X) (first before after : List ℕ) → i < length xs → before ≡ first ++ flat_map f (take i xs) → after ≡ before ++ f (get_or xs i d)
    → after ≡ first ++ flat_map f (take (i + 1) xs)
bytes_more_at f xs i d first before after lt e g =
    g ∙ ap (λ (p : List ℕ). p ++ f (get_or xs i d)) e ∙ append_assoc first (flat_map f (take i xs)) (f (get_or xs i d))
    ∙ ap (λ (p : List ℕ). first ++ p) (sym (ap (flat_map f) (take_more xs i d lt) ∙ flat-append f (take i xs) (get_or xs i d ∷ []) ∙ ap (λ r. flat_map f (take i xs) ++ r) (append-nil (f (get_or xs i d)))))

-- what is left of a list
drop_all : {X : Type 0} (xs : List X) (i : ℕ) → length xs ≤ i → drop i xs ≡ []
drop_all [] zero le = refl
drop_all [] (suc i) le = refl
drop_all (x ∷ xs) zero le = absurd (omega arith)
drop_all (x ∷ xs) (suc i) le = drop_all xs i (omega arith)

left_more : {X : Type 0} (xs : List X) (i : ℕ) (x : X) → i < length xs → x ≡ get_or xs i x → drop i xs ≡ x ∷ drop (i + 1) xs
left_more xs i x lt is = drop-cons xs i x lt ∙ ap (λ y. y ∷ drop (suc i) xs) (sym is) ∙ ap (λ (k : ℕ). x ∷ drop k xs) (sym (add-one i))

number_left : (xs : List ℕ) (i : ℕ) → i < length xs → drop i xs ≡ get_or xs i 0 ∷ drop (i + 1) xs
number_left xs i lt = drop-cons xs i 0 lt ∙ ap (λ (k : ℕ). get_or xs i 0 ∷ drop k xs) (sym (add-one i))

pub reach_more : (all pcs : List ℕ) (instrs : List Instr) (i : ℕ) (x : Instr) → i < length pcs → i < length instrs → x ≡ get_or instrs i x
    → all_reach all (drop i pcs) (drop i instrs) ≡ (reaches all (get_or pcs i 0) x && all_reach all (drop (i + 1) pcs) (drop (i + 1) instrs))
reach_more all pcs instrs i x lp lt is = rw (number_left pcs i lp, left_more instrs i x lt is) refl

pub code_more : (pool : List PoolItem) (all pcs : List ℕ) (instrs : List Instr) (i : ℕ) (x : Instr) → i < length pcs → i < length instrs → x ≡ get_or instrs i x
    → text.code_from pool all (drop i pcs) (drop i instrs) ≡ text.instr_bytes pool all (get_or pcs i 0) x ++ text.code_from pool all (drop (i + 1) pcs) (drop (i + 1) instrs)
code_more pool all pcs instrs i x lp lt is = rw (number_left pcs i lp, left_more instrs i x lt is) refl

pub starts_more : (pool : List PoolItem) (pc : ℕ) (instrs : List Instr) (i : ℕ) (x : Instr) → i < length instrs → x ≡ get_or instrs i x
    → starts_from pool pc (drop i instrs) ≡ pc ∷ starts_from pool (pc + size_of pool pc x) (drop (i + 1) instrs)
starts_more pool pc instrs i x lt is = rw (left_more instrs i x lt is) refl

pub end_more : (pool : List PoolItem) (pc : ℕ) (instrs : List Instr) (i : ℕ) (x : Instr) → i < length instrs → x ≡ get_or instrs i x
    → code_end pool pc (drop i instrs) ≡ code_end pool (pc + size_of pool pc x) (drop (i + 1) instrs)
end_more pool pc instrs i x lt is = rw (left_more instrs i x lt is) refl

pub end_least : (pool : List PoolItem) (pc : ℕ) (instrs : List Instr) → pc ≤ code_end pool pc instrs
end_least pool pc [] = omega arith
end_least pool pc (i ∷ instrs) = let rest = end_least pool (pc + size_of pool pc i) instrs in omega arith

-- a code that is too long at an instruction is too long
pub too_long : (pool : List PoolItem) (pc m total : ℕ) (instrs : List Instr) (i : ℕ) (x : Instr) → i < length instrs → x ≡ get_or instrs i x → code_end pool pc (drop i instrs) ≡ total
    → m ≡ min (size_of pool pc x) 65536 → 65535 < pc + m → 65535 < total
too_long pool pc m total instrs i x lt is all size long =
    let on = end_more pool pc instrs i x lt is in
    let least = end_least pool (pc + size_of pool pc x) (drop (i + 1) instrs) in omega arith

-- the next offset
pub next_start : (pool : List PoolItem) (pc m : ℕ) (instrs : List Instr) (i : ℕ) (x : Instr) (offsets starts : List ℕ) (total : ℕ) → i < length instrs → x ≡ get_or instrs i x
    → offsets ++ starts_from pool pc (drop i instrs) ≡ starts → code_end pool pc (drop i instrs) ≡ total → m ≡ min (size_of pool pc x) 65536 → pc + m ≤ 65535
    → ((offsets ++ pc ∷ []) ++ starts_from pool (pc + m) (drop (i + 1) instrs) ≡ starts) × (code_end pool (pc + m) (drop (i + 1) instrs) ≡ total)
next_start pool pc m instrs i x offsets starts total lt is all end_is size short =
    let same : m ≡ size_of pool pc x = omega arith in
    rw same (
      append_assoc offsets (pc ∷ []) (starts_from pool (pc + size_of pool pc x) (drop (i + 1) instrs)) ∙ ap (λ (r : List ℕ). offsets ++ r) (sym (starts_more pool pc instrs i x lt is)) ∙ all,
      sym (end_more pool pc instrs i x lt is) ∙ end_is,
    )

pub all_started : (pool : List PoolItem) (pc : ℕ) (instrs : List Instr) (offsets starts : List ℕ) (total i : ℕ) → length instrs ≤ i → offsets ++ starts_from pool pc (drop i instrs) ≡ starts → code_end pool pc (drop i instrs) ≡ total
    → (offsets ≡ starts) × (pc ≡ total)
all_started pool pc instrs offsets starts total i past all end_is =
    let none : drop i instrs ≡ [] = drop_all instrs i past in
    (sym (append-nil offsets) ∙ ap (λ (r : List Instr). offsets ++ starts_from pool pc r) (sym none) ∙ all, ap (code_end pool pc) (sym none) ∙ end_is)

-- ---- the pool, place by place

item_left : {X : Type 0} (xs : List X) (i : ℕ) (x : X) → slice_get xs i ≡ Some x → drop i xs ≡ x ∷ drop (i + 1) xs
item_left [] i x is = absurd cc
item_left (y ∷ ys) zero x is = let same : y ≡ x = cc in ap (λ z. z ∷ ys) same
item_left (y ∷ ys) (suc i) x is = item_left ys i x is ∙ (let e : (suc i) + 1 ≡ suc (i + 1) = omega arith in ap (λ (k : ℕ). x ∷ drop k (y ∷ ys)) (sym e))

pub indices_more : (n : ℕ) (xs : List PoolItem) (i : ℕ) (x : PoolItem) → slice_get xs i ≡ Some x → indices_from n (drop i xs) ≡ n ∷ indices_from (n + width x) (drop (i + 1) xs)
indices_more n xs i x is = rw (item_left xs i x is) refl

pub behind_more : (n : ℕ) (xs : List PoolItem) (i : ℕ) (x : PoolItem) → slice_get xs i ≡ Some x → index_behind n (drop i xs) ≡ index_behind (n + width x) (drop (i + 1) xs)
behind_more n xs i x is = rw (item_left xs i x is) refl

pub behind_least : (n : ℕ) (xs : List PoolItem) → n ≤ index_behind n xs
behind_least n [] = omega arith
behind_least n (x ∷ xs) = let rest = behind_least (n + width x) xs in omega arith

pub fits_more : (xs : List PoolItem) (i : ℕ) (x : PoolItem) → slice_get xs i ≡ Some x → list_all text.fits_item (drop i xs) ≡ (text.fits_item x && list_all text.fits_item (drop (i + 1) xs))
fits_more xs i x is = rw (item_left xs i x is) refl

-- the entry at a place has room, where all have
pub fits_at : (xs : List PoolItem) (i : ℕ) (x : PoolItem) → slice_get xs i ≡ Some x → list_all text.fits_item xs ≡ true → text.fits_item x ≡ true
fits_at [] i x is all = absurd cc
fits_at (y ∷ ys) zero x is all = let same : y ≡ x = cc in ap text.fits_item (sym same) ∙ (both (text.fits_item y) (list_all text.fits_item ys) all).0
fits_at (y ∷ ys) (suc i) x is all = fits_at ys i x is (both (text.fits_item y) (list_all text.fits_item ys) all).1

-- the bytes of entries, place by place
pub entries_more : (f : PoolItem → List ℕ) (xs : List PoolItem) (i : ℕ) (x : PoolItem) → slice_get xs i ≡ Some x → flat_map f (drop i xs) ≡ f x ++ flat_map f (drop (i + 1) xs)
entries_more f xs i x is = rw (item_left xs i x is) refl

pub sized : (pool : List PoolItem) (pc : ℕ) (x : Instr) (s : Spelling) (m : ℕ) → s ≡ spelling_of pool x → m ≡ min (size_by pc x s) 65536 → m ≡ min (size_of pool pc x) 65536
unfolding size_of
sized pool pc x s m is e = e ∙ ap (λ (t : Spelling). min (size_by pc x t) 65536) is

-- the next instruction's bytes
pub code_step : (pool : List PoolItem) (all pcs : List ℕ) (instrs : List Instr) (i : ℕ) (x : Instr) (s : Spelling) (pc : ℕ) (out after whole : List ℕ) → i < length pcs → i < length instrs → x ≡ get_or instrs i x → pc ≡ get_or pcs i 0
    → s ≡ spelling_of pool x → out ++ text.code_from pool all (drop i pcs) (drop i instrs) ≡ whole → after ≡ out ++ text.spelled_by all pc x s
    → after ++ text.code_from pool all (drop (i + 1) pcs) (drop (i + 1) instrs) ≡ whole
unfolding text.instr_bytes
code_step pool all pcs instrs i x s pc out after whole lp lt is at spelled all_is e =
    let rest : List ℕ = text.code_from pool all (drop (i + 1) pcs) (drop (i + 1) instrs) in
    let here : text.spelled_by all pc x s ≡ text.spelled_by all (get_or pcs i 0) x (spelling_of pool x) = rw (at, spelled) refl in
    ap (λ (r : List ℕ). r ++ rest) (e ∙ ap (λ (r : List ℕ). out ++ r) here) ∙ append_assoc out (text.spelled_by all (get_or pcs i 0) x (spelling_of pool x)) rest
    ∙ ap (λ (r : List ℕ). out ++ r) (sym (code_more pool all pcs instrs i x lp lt is)) ∙ all_is

pub code_all : (pool : List PoolItem) (all pcs : List ℕ) (instrs : List Instr) (i : ℕ) (out whole : List ℕ) → length instrs ≤ i → length pcs ≡ length instrs → out ++ text.code_from pool all (drop i pcs) (drop i instrs) ≡ whole → out ≡ whole
code_all pool all pcs instrs i out whole past same is =
    let none : drop i instrs ≡ [] = drop_all instrs i past in
    let no_pcs : drop i pcs ≡ [] = drop_all pcs i (omega arith) in
    sym (append-nil out) ∙ ap (λ (r : List ℕ). out ++ text.code_from pool all r (drop i instrs)) (sym no_pcs) ∙ is

-- the next entry's bytes
pub entry_step : (f : PoolItem → List ℕ) (xs : List PoolItem) (i : ℕ) (x : PoolItem) (out after whole : List ℕ) → slice_get xs i ≡ Some x → out ++ flat_map f (drop i xs) ≡ whole → after ≡ out ++ f x → after ++ flat_map f (drop (i + 1) xs) ≡ whole
entry_step f xs i x out after whole is all e =
    ap (λ (r : List ℕ). r ++ flat_map f (drop (i + 1) xs)) e ∙ append_assoc out (f x) (flat_map f (drop (i + 1) xs)) ∙ ap (λ (r : List ℕ). out ++ r) (sym (entries_more f xs i x is)) ∙ all

pub entries_all : (f : PoolItem → List ℕ) (xs : List PoolItem) (i : ℕ) (out whole : List ℕ) → length xs ≤ i → out ++ flat_map f (drop i xs) ≡ whole → out ≡ whole
entries_all f xs i out whole past is = sym (append-nil out) ∙ ap (λ (r : List PoolItem). out ++ flat_map f r) (sym (drop_all xs i past)) ∙ is

-- a switch of a code that fits has few targets
pub all_room : (pool : List PoolItem) (pc : ℕ) (instrs : List Instr) → code_end pool pc instrs ≤ 65535 → list_all text.switch_fits instrs ≡ true
all_room pool pc [] le = refl
all_room pool pc (i ∷ instrs) le =
    let behind = end_least pool (pc + size_of pool pc i) instrs in
    rw (room_of pool pc i (omega arith)) (all_room pool (pc + size_of pool pc i) instrs le)

pub room_at : (instrs : List Instr) (i : ℕ) (x : Instr) → i < length instrs → x ≡ get_or instrs i x → list_all text.switch_fits instrs ≡ true → text.switch_fits x ≡ true
room_at [] i x lt is all = absurd (omega arith)
room_at (y ∷ ys) zero x lt is all = ap text.switch_fits is ∙ (both (text.switch_fits y) (list_all text.switch_fits ys) all).0
room_at (y ∷ ys) (suc i) x lt is all = room_at ys i x (omega arith) is (both (text.switch_fits y) (list_all text.switch_fits ys) all).1

pub starts_length : (pool : List PoolItem) (pc : ℕ) (instrs : List Instr) → length (starts_from pool pc instrs) ≡ length instrs
starts_length pool pc [] = refl
starts_length pool pc (i ∷ instrs) = let rest = starts_length pool (pc + size_of pool pc i) instrs in omega arith

-- one entry more
pub indices_step : (keys : List PoolItem) (i n w : ℕ) (x : PoolItem) (indices after : List ℕ) → slice_get keys i ≡ Some x → w ≡ width x → text.fits_item x ≡ true → after ≡ indices ++ n ∷ []
    → (indices ++ indices_from n (drop i keys) ≡ indices_from 1 keys) → (index_behind n (drop i keys) ≡ index_behind 1 keys) → (list_all text.fits_item (drop i keys) ≡ list_all text.fits_item keys)
    → (after ++ indices_from (n + w) (drop (i + 1) keys) ≡ indices_from 1 keys) × (index_behind (n + w) (drop (i + 1) keys) ≡ index_behind 1 keys) × (list_all text.fits_item (drop (i + 1) keys) ≡ list_all text.fits_item keys)
indices_step keys i n w x indices after is wide fit e a b c =
    let rest : List ℕ = indices_from (n + width x) (drop (i + 1) keys) in
    let first : after ++ rest ≡ indices_from 1 keys =
    ap (λ (r : List ℕ). r ++ rest) e ∙ append_assoc indices (n ∷ []) rest ∙ ap (λ (r : List ℕ). indices ++ r) (sym (indices_more n keys i x is)) ∙ a in
    let second : index_behind (n + width x) (drop (i + 1) keys) ≡ index_behind 1 keys = sym (behind_more n keys i x is) ∙ b in
    let third : list_all text.fits_item (drop (i + 1) keys) ≡ list_all text.fits_item keys = sym (fits_more keys i x is ∙ ap (λ (t : Bool). t && list_all text.fits_item (drop (i + 1) keys)) fit) ∙ c in
    rw wide (first, second, third)

pub text_too_long : (keys : List PoolItem) (i : ℕ) (x : PoolItem) → slice_get keys i ≡ Some x → text.fits_item x ≡ false → list_all text.fits_item (drop i keys) ≡ list_all text.fits_item keys → text.fits_pool keys ≡ false
unfolding text.fits_pool
text_too_long keys i x is not c =
    let all : list_all text.fits_item keys ≡ false = sym c ∙ fits_more keys i x is ∙ ap (λ (t : Bool). t && list_all text.fits_item (drop (i + 1) keys)) not in
    rw all (and_none (nat_le (pool_count keys) 65535))
  where
    and_none : (b : Bool) → (b && false) ≡ false
    and_none true = refl
    and_none false = refl

pub count_too_high : (keys : List PoolItem) (i n w : ℕ) (x : PoolItem) → slice_get keys i ≡ Some x → w ≡ width x → 65535 < n + w → index_behind n (drop i keys) ≡ index_behind 1 keys → text.fits_pool keys ≡ false
unfolding text.fits_pool pool_count
count_too_high keys i n w x is wide high b =
    let least = behind_least (n + width x) (drop (i + 1) keys) in
    let on = behind_more n keys i x is in
    let over : 65535 < index_behind 1 keys = omega arith in
    rw (lt-leb (index_behind 1 keys) 65535 over) refl

pub indices_done : (keys : List PoolItem) (i n : ℕ) (indices : List ℕ) → length keys ≤ i
    → (indices ++ indices_from n (drop i keys) ≡ indices_from 1 keys) → (index_behind n (drop i keys) ≡ index_behind 1 keys) → (list_all text.fits_item (drop i keys) ≡ list_all text.fits_item keys) → n ≤ 65535
    → (indices ≡ indices_from 1 keys) × (n ≡ pool_count keys) × (text.fits_pool keys ≡ true)
unfolding text.fits_pool pool_count
indices_done keys i n indices past a b c le =
    let none : drop i keys ≡ [] = drop_all keys i past in
    let count : n ≡ index_behind 1 keys = ap (index_behind n) (sym none) ∙ b in
    let all : list_all text.fits_item keys ≡ true = sym c ∙ ap (list_all text.fits_item) none in
    let room : nat_le (index_behind 1 keys) 65535 ≡ true = le-leb (index_behind 1 keys) 65535 (omega arith) in
    (sym (append-nil indices) ∙ ap (λ (r : List PoolItem). indices ++ indices_from n r) (sym none) ∙ a, count, rw (room, all) refl)

pub pool_item_fits : (keys : List PoolItem) (i : ℕ) (x : PoolItem) → slice_get keys i ≡ Some x → text.fits_pool keys ≡ true → text.fits_item x ≡ true
unfolding text.fits_pool
pool_item_fits keys i x is e = fits_at keys i x is (both (nat_le (pool_count keys) 65535) (list_all text.fits_item keys) e).1
