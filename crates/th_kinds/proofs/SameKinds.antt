-- Slots are compared from either end.
use Rattle.std.proofs.Common.{◌≡◌, ℕ, zero, suc, ◌+◌, ◌<◌, ◌≤◌, Bool, true, false, cond, List, [], ◌∷◌, length, drop, get_or, reverse, refl, sym, ap, ◌∙◌, arith}
use Rattle.std.proofs.lemmas.Bool.{false≢true}
use Rattle.std.proofs.lemmas.List.{reverse-reverse, drop_more}
use Rattle.th_syntax.specs.declared.kind.SlotKind.TheVariants as kind
use Rattle.th_syntax.specs.declared.kind.SlotKind.{SlotKind}
use Rattle.th_syntax.specs.Kinds.{is_same_kind, are_same_kinds}
use Rattle.th_syntax.proofs.MergingKinds.{same_kind_is}

same_one : (k : SlotKind) → is_same_kind k k ≡ true
same_one kind.Int = refl
same_one kind.Ref = refl
same_one kind.Long = refl
same_one kind.SecondHalf = refl
same_one kind.Unusable = refl

pub same_self : (ks : List SlotKind) → are_same_kinds ks ks ≡ true
same_self [] = refl
same_self (k ∷ ks) = ap (λ b. cond b (are_same_kinds ks ks) false) (same_one k) ∙ same_self ks

same_by : (a b : SlotKind) (ks bs : List SlotKind) (x : Bool) → is_same_kind a b ≡ x → cond x (are_same_kinds ks bs) false ≡ true → (are_same_kinds ks bs ≡ true → ks ≡ bs) → (a ∷ ks) ≡ (b ∷ bs)
same_by a b ks bs true is e rest = let head = same_kind_is a b is in let tail = rest e in cc
same_by a b ks bs false is e rest = absurd cc

pub same_are : (ks bs : List SlotKind) → are_same_kinds ks bs ≡ true → ks ≡ bs
same_are [] [] e = refl
same_are [] (b ∷ bs) e = absurd cc
same_are (a ∷ ks) [] e = absurd cc
same_are (a ∷ ks) (b ∷ bs) e = same_by a b ks bs (is_same_kind a b) refl e (same_are ks bs)

pub same_where : (ks bs : List SlotKind) → ks ≡ bs → are_same_kinds ks bs ≡ true
same_where ks bs e = ap (λ (xs : List SlotKind). are_same_kinds ks xs) (sym e) ∙ same_self ks

not_true : (b : Bool) → (b ≡ true → ⊥) → b ≡ false
not_true true never = absurd (never refl)
not_true false never = refl

drop_beyond : (n : ℕ) (xs : List SlotKind) → length xs ≤ n → drop n xs ≡ []
drop_beyond zero [] e = refl
drop_beyond zero (x ∷ xs) e = absurd (omega arith)
drop_beyond (suc n) [] e = refl
drop_beyond (suc n) (x ∷ xs) e = drop_beyond n xs (omega arith)

reversed_by : (ks bs : List SlotKind) (x y : Bool) → are_same_kinds ks bs ≡ x → are_same_kinds (reverse ks) (reverse bs) ≡ y → y ≡ x
reversed_by ks bs true true is at = refl
reversed_by ks bs false false is at = refl
reversed_by ks bs true false is at = absurd (false≢true (sym at ∙ same_where (reverse ks) (reverse bs) (ap reverse (same_are ks bs is))))
reversed_by ks bs false true is at =
    absurd (false≢true (sym is ∙ same_where ks bs (sym (reverse-reverse ks) ∙ ap reverse (same_are (reverse ks) (reverse bs) at) ∙ reverse-reverse bs)))

pub same_reversed : (ks bs : List SlotKind) → are_same_kinds (reverse ks) (reverse bs) ≡ are_same_kinds ks bs
same_reversed ks bs = reversed_by ks bs (are_same_kinds ks bs) (are_same_kinds (reverse ks) (reverse bs)) refl refl

-- ---- one slot after the other

pub same_next : (ks bs : List SlotKind) (n : ℕ) (d e : SlotKind) → n < length ks → n < length bs
    → are_same_kinds (drop n ks) (drop n bs) ≡ cond (is_same_kind (get_or ks n d) (get_or bs n e)) (are_same_kinds (drop (n + 1) ks) (drop (n + 1) bs)) false
same_next ks bs n d e inside there =
    ap (λ (xs : List SlotKind). are_same_kinds xs (drop n bs)) (drop_more ks n d inside)
    ∙ ap (λ (ys : List SlotKind). are_same_kinds (get_or ks n d ∷ drop (n + 1) ks) ys) (drop_more bs n e there)

pub same_end : (ks bs : List SlotKind) (n : ℕ) → length ks ≤ n → length bs ≤ n → are_same_kinds (drop n ks) (drop n bs) ≡ true
same_end ks bs n k b = ap (λ (xs : List SlotKind). are_same_kinds xs (drop n bs)) (drop_beyond n ks k) ∙ ap (are_same_kinds []) (drop_beyond n bs b)

pub same_long : (ks bs : List SlotKind) → (length ks ≡ length bs → ⊥) → are_same_kinds ks bs ≡ false
same_long ks bs apart = not_true (are_same_kinds ks bs) (λ e. apart (ap length (same_are ks bs e)))
