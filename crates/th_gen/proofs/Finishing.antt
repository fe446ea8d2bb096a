-- The bytes of a class, part by part.
use Rattle.std.proofs.Common.{◌≡◌, ℕ, zero, suc, ◌+◌, ◌<◌, ◌≤◌, Bool, true, false, ◌&&◌, List, [], ◌∷◌, ◌++◌, length, take, get_or, refl, sym, ap, ◌∙◌, arith, append_assoc}
use Rattle.std.specs.Prelude.{codes, nat_le}
use Rattle.th_syntax.specs.declared.instr.Instr.{Instr}
use Rattle.th_gen.specs.declared.item.PoolItem.{PoolItem}
use Rattle.th_gen.specs.declared.item.PoolItem.TheVariants.{Utf8}
use Rattle.th_gen.specs.declared.draft.DraftMethod.{DraftMethod}
use Rattle.th_gen.specs.Items.{index_of}
use Rattle.th_gen.specs.Placing.{code_length}
use Rattle.th_gen.specs.ClassText as text
use Rattle.std.specs.List.{list_all}
use Rattle.std.proofs.lemmas.List.{take_more}
use Rattle.th_base.specs.declared.fail.Fail.{Fail}
use Rattle.th_base.specs.declared.fail.Fail.TheVariants.{Refused, NoMemory}
use Rattle.th_gen.specs.Refusals.{IfRefused}
use Rattle.th_gen.specs.declared.draft.ClassWriter.{ClassWriter}
use Rattle.th_gen.specs.Placing.{starts_of, all_reach}
use Rattle.std.proofs.lemmas.Bool.{lt-ltb, le-leb, lt-leb}
use Rattle.th_syntax.specs.ClassGrammar.{are_bytes}

pub whole_joined : (o1 o2 o3 o4 o5 m a b p c d e f g h z : List ℕ) → o1 ≡ m ++ (a ++ b) → o2 ≡ o1 ++ p → o3 ≡ o2 ++ (c ++ (d ++ (e ++ f))) → o4 ≡ o3 ++ (g ++ h) → o5 ≡ o4 ++ z
    → o5 ≡ m ++ (a ++ (b ++ (p ++ (c ++ (d ++ (e ++ (f ++ (g ++ (h ++ z)))))))))
whole_joined o1 o2 o3 o4 o5 m a b p c d e f g h z e1 e2 e3 e4 e5 = rw (e5, e4, e3, e2, e1) (simp append_assoc)

-- a list of numbers below 256 is one of bytes
pub all_bytes : (xs : List ℕ) → ((i : ℕ) → get_or xs i 0 < 256) → are_bytes xs ≡ true
all_bytes [] small = refl
all_bytes (x ∷ xs) small =
    let first : x < 256 = small 0 in
    rw (lt-ltb x 256 first) (all_bytes xs (λ i. small (suc i)))

pub both_hold : (a b : Bool) → a ≡ true → b ≡ true → (a && b) ≡ true
both_hold a b e f = rw (e, f) refl

pub first_fails : (a b : Bool) → a ≡ false → (a && b) ≡ false
first_fails a b e = rw e refl

pub second_fails : (a b : Bool) → b ≡ false → (a && b) ≡ false
second_fails true b e = e
second_fails false b e = refl

-- the attributes of a method with code
pub coded_attribute : (pool : List PoolItem) (m : DraftMethod) → (m.instrs ≡ [] → ⊥) → text.attribute_bytes pool m m.instrs ≡ text.u2 1 ++ (text.u2 (index_of pool (Utf8 (codes "Code"))) ++ (text.u4 (code_length pool m.instrs + 12) ++ text.code_content pool m))
coded_attribute pool m some = go m.instrs some
  where
    go : (instrs : List Instr) → (instrs ≡ [] → ⊥) → text.attribute_bytes pool m instrs ≡ text.u2 1 ++ (text.u2 (index_of pool (Utf8 (codes "Code"))) ++ (text.u4 (code_length pool m.instrs + 12) ++ text.code_content pool m))
    go [] some = absurd (some refl)
    go (i ∷ instrs) some = refl

-- ---- refusals

pub refused_so : {R : Type 0} (fail : Fail R) (P Q : Type 0) → (P → Q) → IfRefused fail P → IfRefused fail Q
refused_so (Refused reason) P Q so is = so is
refused_so NoMemory P Q so is = tt

-- ---- lists

two_true : (a b : Bool) → (a && b) ≡ true → (a ≡ true) × (b ≡ true)
two_true true b e = (refl, e)
two_true false b e = absurd cc

all_pushed : {X : Type 0} (p : X → Bool) (ys : List X) (x : X) → list_all p ys ≡ true → p x ≡ true → list_all p (ys ++ x ∷ []) ≡ true
all_pushed p [] x e here = rw here refl
all_pushed p (y ∷ ys) x e here = let two = two_true (p y) (list_all p ys) e in rw two.0 (all_pushed p ys x two.1 here)

pub all_more : {X : Type 0} (p : X → Bool) (xs : List X) (i : ℕ) (x : X) → i < length xs → x ≡ get_or xs i x → list_all p (take i xs) ≡ true → p x ≡ true → list_all p (take (i + 1) xs) ≡ true
all_more p xs i x lt is before here = ap (list_all p) (take_more xs i x lt ∙ ap (λ y. take i xs ++ y ∷ []) (sym is)) ∙ all_pushed p (take i xs) x before here

pub one_fails : {X : Type 0} (p : X → Bool) (xs : List X) (i : ℕ) (x : X) → i < length xs → x ≡ get_or xs i x → p x ≡ false → list_all p xs ≡ false
one_fails p [] i x lt is not = absurd (omega arith)
one_fails p (y ∷ ys) zero x lt is not = first_fails (p y) (list_all p ys) (ap p (sym is) ∙ not)
one_fails p (y ∷ ys) (suc i) x lt is not = second_fails (p y) (list_all p ys) (one_fails p ys i x (omega arith) is not)

-- ---- methods and members that have no room, and that have

pub code_too_long : (pool : List PoolItem) (m : DraftMethod) → 65535 < code_length pool m.instrs → text.fits_method pool m ≡ false
unfolding text.fits_method
code_too_long pool m over = first_fails (nat_le (code_length pool m.instrs) 65535) (all_reach (starts_of pool m.instrs) (starts_of pool m.instrs) m.instrs) (lt-leb (code_length pool m.instrs) 65535 over)

pub branch_too_far : (pool : List PoolItem) (m : DraftMethod) → all_reach (starts_of pool m.instrs) (starts_of pool m.instrs) m.instrs ≡ false → text.fits_method pool m ≡ false
unfolding text.fits_method
branch_too_far pool m not = second_fails (nat_le (code_length pool m.instrs) 65535) (all_reach (starts_of pool m.instrs) (starts_of pool m.instrs) m.instrs) not

pub method_fits : (pool : List PoolItem) (m : DraftMethod) → code_length pool m.instrs ≤ 65535 → all_reach (starts_of pool m.instrs) (starts_of pool m.instrs) m.instrs ≡ true → text.fits_method pool m ≡ true
unfolding text.fits_method
method_fits pool m le all = rw (le-leb (code_length pool m.instrs) 65535 le, all) refl

pub fields_too_many : (pool : List PoolItem) (w : ClassWriter) → 65535 < length w.fields → text.fits_members pool w ≡ false
fields_too_many pool w over = rw (lt-leb (length w.fields) 65535 over) refl

pub methods_too_many : (pool : List PoolItem) (w : ClassWriter) → 65535 < length w.methods → text.fits_members pool w ≡ false
methods_too_many pool w over =
    second_fails (nat_le (length w.fields) 65535) (nat_le (length w.methods) 65535 && list_all (text.fits_method pool) w.methods)
    (first_fails (nat_le (length w.methods) 65535) (list_all (text.fits_method pool) w.methods) (lt-leb (length w.methods) 65535 over))

pub method_not_fit : (pool : List PoolItem) (w : ClassWriter) → list_all (text.fits_method pool) w.methods ≡ false → text.fits_members pool w ≡ false
method_not_fit pool w not =
    second_fails (nat_le (length w.fields) 65535) (nat_le (length w.methods) 65535 && list_all (text.fits_method pool) w.methods)
    (second_fails (nat_le (length w.methods) 65535) (list_all (text.fits_method pool) w.methods) not)

pub members_fit : (pool : List PoolItem) (w : ClassWriter) → length w.fields ≤ 65535 → length w.methods ≤ 65535 → list_all (text.fits_method pool) w.methods ≡ true → text.fits_members pool w ≡ true
members_fit pool w lf lm all = rw (le-leb (length w.fields) 65535 lf, le-leb (length w.methods) 65535 lm, all) refl

pub members_joined : (o o1 o2 o3 o4 a f b m : List ℕ) → o1 ≡ o ++ a → o2 ≡ o1 ++ f → o3 ≡ o2 ++ b → o4 ≡ o3 ++ m → o4 ≡ o ++ ((a ++ f) ++ (b ++ m))
members_joined o o1 o2 o3 o4 a f b m e1 e2 e3 e4 = rw (e4, e3, e2, e1) (simp append_assoc)
