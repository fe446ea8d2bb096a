-- A class of few and short parts has room.
use Rattle.std.proofs.Common.{◌≡◌, ℕ, zero, suc, ◌+◌, ◌*◌, ◌≤◌, Bool, true, false, ◌&&◌, cond, List, [], ◌∷◌, ◌++◌, length, refl, arith}
use Rattle.std.specs.Prelude.{nat_le, slice_index}
use Rattle.std.specs.List.{list_all, list_any, AllByRecursion}
use Rattle.std.proofs.lemmas.Bool.{leb-true, le-leb}
use Rattle.std.proofs.lemmas.List.{length-append}
use Rattle.th_syntax.specs.declared.instr.Instr.{Instr}
use Rattle.th_syntax.specs.declared.instr.Instr.TheVariants.{IfZero, IfInts, IfSame, IfOther, IfNull, IfNotNull, Goto, TableSwitch, LookupSwitch}
use Rattle.th_syntax.specs.declared.limit.TheConstants.{MOST_CODE_BYTES}
use Rattle.th_gen.specs.declared.item.PoolItem.{PoolItem}
use Rattle.th_gen.specs.declared.item.PoolItem.TheVariants.{Utf8, Integer, LongInteger, ClassName, StringText, NameAndType, FieldRef, MethodRef, InterfaceMethodRef}
use Rattle.th_gen.specs.declared.draft.ClassWriter.{ClassWriter}
use Rattle.th_gen.specs.declared.draft.DraftMethod.{DraftMethod}
use Rattle.th_gen.specs.declared.spelling.Spelling.{Spelling}
use Rattle.th_gen.specs.declared.spelling.Spelling.TheVariants.{Bare, Byte, Short, Wide, Increment, WideIncrement, Branch, Interface, Switch}
use Rattle.th_gen.specs.Items.{is_same_item, with_item, with_items, width, index_behind, pool_count, items_of, pool_of}
use Rattle.th_gen.specs.Spellings.{spelling_of}
use Rattle.th_gen.specs.Placing.{start_at, switch_size, size_by, size_of, starts_from, code_end, starts_of, code_length, is_near, reaches, all_reach}
use Rattle.th_gen.specs.ClassText as text
use Rattle.th_gen.proofs.Closed.{all_of}

-- ---- the pool

with_length : (item : PoolItem) (pool : List PoolItem) → length (with_item pool item) ≤ length pool + 1
with_length item pool = go (list_any (is_same_item item) pool)
  where
    go : (b : Bool) → length (cond b pool (pool ++ item ∷ [])) ≤ length pool + 1
    go true = omega arith
    go false = omega (arith, length-append pool (item ∷ []))

all_length : (items pool : List PoolItem) → length (with_items pool items) ≤ length pool + length items
all_length [] pool = omega arith
all_length (x ∷ xs) pool = let rest = all_length xs (with_item pool x) in let one = with_length x pool in omega arith

width_most : (x : PoolItem) → width x ≤ 2
width_most (Utf8 a) = omega arith
width_most (Integer a) = omega arith
width_most (LongInteger a) = omega arith
width_most (ClassName a) = omega arith
width_most (StringText a) = omega arith
width_most (NameAndType a b) = omega arith
width_most (FieldRef m) = omega arith
width_most (MethodRef m) = omega arith
width_most (InterfaceMethodRef m) = omega arith

behind_most : (n : ℕ) (xs : List PoolItem) → index_behind n xs ≤ n + 2 * length xs
behind_most n [] = omega arith
behind_most n (x ∷ xs) = let rest = behind_most (n + width x) xs in let one = width_most x in omega arith

to_all : (xs : List PoolItem) → list_all text.fits_item xs ≡ true → AllByRecursion (λ x. text.fits_item x ≡ true) xs
to_all [] e = tt
to_all (x ∷ xs) e = let two = both (text.fits_item x) (list_all text.fits_item xs) e in (two.0, to_all xs two.1)
  where
    both : (a b : Bool) → (a && b) ≡ true → (a ≡ true) × (b ≡ true)
    both true b e = (refl, e)
    both false b e = absurd cc

from_all : (xs : List PoolItem) → AllByRecursion (λ x. text.fits_item x ≡ true) xs → list_all text.fits_item xs ≡ true
from_all [] all = refl
from_all (x ∷ xs) all = rw all.0 (from_all xs all.1)

pool_small : (w : ClassWriter) → length (items_of w) ≤ 30000 → list_all text.fits_item (items_of w) ≡ true → text.fits_pool (pool_of w) ≡ true
unfolding text.fits_pool pool_count pool_of
pool_small w few fits =
    let most = behind_most 1 (with_items [] (items_of w)) in
    let long = all_length (items_of w) [] in
    let count : nat_le (index_behind 1 (with_items [] (items_of w))) 65535 ≡ true = le-leb (index_behind 1 (with_items [] (items_of w))) 65535 (omega arith) in
    rw (count, from_all (with_items [] (items_of w)) (all_of (λ x. text.fits_item x ≡ true) (items_of w) [] tt (to_all (items_of w) fits))) refl

-- ---- the code

-- an instruction that is no switch
abbrev pub is_short_instr : Instr → Bool
is_short_instr (TableSwitch low places other) = false
is_short_instr (LookupSwitch pairs other) = false
is_short_instr other = true

short_switch : (pc : ℕ) (i : Instr) → is_short_instr i ≡ true → switch_size pc i ≤ 6
short_switch pc (TableSwitch low places other) e = absurd cc
short_switch pc (LookupSwitch pairs other) e = absurd cc
short_switch pc other e = omega arith

size_short : (pc : ℕ) (i : Instr) (s : Spelling) → is_short_instr i ≡ true → size_by pc i s ≤ 6
size_short pc i (Bare code) e = omega arith
size_short pc i (Byte code operand) e = omega arith
size_short pc i (Short code operand) e = omega arith
size_short pc i (Wide code index) e = omega arith
size_short pc i (Increment index by) e = omega arith
size_short pc i (WideIncrement index by) e = omega arith
size_short pc i (Branch code place) e = omega arith
size_short pc i (Interface index) e = omega arith
size_short pc i (Switch code) e = short_switch pc i e

of_short : (pool : List PoolItem) (pc : ℕ) (i : Instr) → is_short_instr i ≡ true → size_of pool pc i ≤ 6
unfolding size_of
of_short pool pc i e = size_short pc i (spelling_of pool i) e

both_true : (a b : Bool) → (a && b) ≡ true → (a ≡ true) × (b ≡ true)
both_true true b e = (refl, e)
both_true false b e = absurd cc

end_most : (pool : List PoolItem) (pc : ℕ) (instrs : List Instr) → list_all is_short_instr instrs ≡ true → code_end pool pc instrs ≤ pc + 6 * length instrs
end_most pool pc [] e = omega arith
end_most pool pc (i ∷ instrs) e =
    let two = both_true (is_short_instr i) (list_all is_short_instr instrs) e in
    let rest = end_most pool (pc + size_of pool pc i) instrs two.1 in
    let one = of_short pool pc i two.0 in omega arith

end_after : (pool : List PoolItem) (pc : ℕ) (instrs : List Instr) → pc ≤ code_end pool pc instrs
end_after pool pc [] = omega arith
end_after pool pc (i ∷ instrs) = let rest = end_after pool (pc + size_of pool pc i) instrs in omega arith

start_most : (pool : List PoolItem) (pc : ℕ) (instrs : List Instr) (place : ℕ) → slice_index (starts_from pool pc instrs) place ≤ code_end pool pc instrs
start_most pool pc [] place = omega arith
start_most pool pc (i ∷ instrs) zero = end_after pool pc (i ∷ instrs)
start_most pool pc (i ∷ instrs) (suc place) = start_most pool (pc + size_of pool pc i) instrs place

near_most : (pc to : ℕ) → pc ≤ 32767 → to ≤ 32767 → is_near pc to ≡ true
near_most pc to lp lt = rw (le-leb to (pc + 32767) (omega arith), le-leb pc (to + 32768) (omega arith)) refl

reaches_most : (starts : List ℕ) (most : (place : ℕ) → start_at starts place ≤ 32767) (pc : ℕ) (i : Instr) → pc ≤ 32767 → reaches starts pc i ≡ true
reaches_most starts most pc (IfZero relation place) le = near_most pc (start_at starts place) le (most place)
reaches_most starts most pc (IfInts relation place) le = near_most pc (start_at starts place) le (most place)
reaches_most starts most pc (IfSame place) le = near_most pc (start_at starts place) le (most place)
reaches_most starts most pc (IfOther place) le = near_most pc (start_at starts place) le (most place)
reaches_most starts most pc (IfNull place) le = near_most pc (start_at starts place) le (most place)
reaches_most starts most pc (IfNotNull place) le = near_most pc (start_at starts place) le (most place)
reaches_most starts most pc (Goto place) le = near_most pc (start_at starts place) le (most place)
reaches_most starts most pc other le = refl

all_near : (pool : List PoolItem) (starts : List ℕ) (most : (place : ℕ) → start_at starts place ≤ 32767) (pc : ℕ) (instrs : List Instr) → code_end pool pc instrs ≤ 32767 → all_reach starts (starts_from pool pc instrs) instrs ≡ true
all_near pool starts most pc [] le = refl
all_near pool starts most pc (i ∷ instrs) le =
    let behind = end_after pool (pc + size_of pool pc i) instrs in
    rw (reaches_most starts most pc i (omega arith)) (all_near pool starts most (pc + size_of pool pc i) instrs le)

-- a method of few instructions, none of them a switch
abbrev pub is_small_method : DraftMethod → Bool
is_small_method m = nat_le (length m.instrs) 5000 && list_all is_short_instr m.instrs

method_small : (pool : List PoolItem) (m : DraftMethod) → is_small_method m ≡ true → text.fits_method pool m ≡ true
unfolding text.fits_method code_length starts_of
method_small pool m e =
    let two = both_true (nat_le (length m.instrs) 5000) (list_all is_short_instr m.instrs) e in
    let few : length m.instrs ≤ 5000 = leb-true (length m.instrs) 5000 two.0 in
    let most = end_most pool 0 m.instrs two.1 in
    let low : (place : ℕ) → start_at (starts_from pool 0 m.instrs) place ≤ 32767 = λ place. (let le = start_most pool 0 m.instrs place in omega arith) in
    rw (le-leb (code_end pool 0 m.instrs) MOST_CODE_BYTES (omega arith), all_near pool (starts_from pool 0 m.instrs) low 0 m.instrs (omega arith)) refl

methods_small : (pool : List PoolItem) (methods : List DraftMethod) → list_all is_small_method methods ≡ true → list_all (text.fits_method pool) methods ≡ true
methods_small pool [] e = refl
methods_small pool (m ∷ methods) e = let two = both_true (is_small_method m) (list_all is_small_method methods) e in rw (method_small pool m two.0) (methods_small pool methods two.1)

pub class_small : (w : ClassWriter) → length (items_of w) ≤ 30000 → list_all text.fits_item (items_of w) ≡ true → length w.fields ≤ 65535 → length w.methods ≤ 65535 → list_all is_small_method w.methods ≡ true → text.fits w ≡ true
unfolding text.fits
class_small w few texts fields methods small =
    rw (pool_small w few texts, le-leb (length w.fields) 65535 fields, le-leb (length w.methods) 65535 methods, methods_small (pool_of w) w.methods small) refl
