-- Slots that are merged from the front on, one after the other.
use Rattle.std.proofs.Common.{◌≡◌, ℕ, zero, suc, ◌+◌, ◌*◌, ◌<◌, ◌≤◌, ◌==◌, true, cond, lit<, lit≤, List, [], ◌∷◌, ◌++◌, reverse, length, get_or, set, take, refl, sym, ap, ◌∙◌, add-one, arith}
use Rattle.th_syntax.specs.declared.kind.SlotKind.{SlotKind}
use Rattle.th_syntax.specs.declared.kind.SlotKind.TheVariants as kind
use Rattle.std.proofs.lemmas.Bool.{eq-eqb}
use Rattle.std.proofs.lemmas.List.{length-reverse, reverse-append}
use Rattle.th_syntax.specs.Kinds.{merged, merged_slots, OfKinds, DepthsDiffer, merged_at}
use Rattle.th_kinds.specs.States.{merged_front, slot_room, slots_room}

pub slots_none : (brought : List SlotKind) → merged_slots brought [] ≡ []
slots_none [] = refl
slots_none (b ∷ brought) = refl

merged_unusable : (b : SlotKind) → merged b kind.Unusable ≡ kind.Unusable
merged_unusable kind.Int = refl
merged_unusable kind.Ref = refl
merged_unusable kind.Long = refl
merged_unusable kind.SecondHalf = refl
merged_unusable kind.Unusable = refl

pub length-front : (n : ℕ) (brought known : List SlotKind) → length (merged_front n brought known) ≡ length known
length-front zero brought known = refl
length-front (suc n) brought [] = refl
length-front (suc n) [] (k ∷ known) = refl
length-front (suc n) (b ∷ brought) (k ∷ known) = ap suc (length-front n brought known)

pub get-front : (n : ℕ) (brought known : List SlotKind) (d : SlotKind) → get_or (merged_front n brought known) n d ≡ get_or known n d
get-front zero brought known d = refl
get-front (suc n) brought [] d = refl
get-front (suc n) [] (k ∷ known) d = refl
get-front (suc n) (b ∷ brought) (k ∷ known) d = get-front n brought known d

pub front_step : (n : ℕ) (brought known : List SlotKind) (d e : SlotKind) → n < length known → n < length brought → set (merged_front n brought known) n (merged (get_or brought n d) (get_or known n e)) ≡ merged_front (suc n) brought known
front_step n brought [] d e inside there = absurd (omega arith)
front_step n [] (k ∷ known) d e inside there = absurd (omega arith)
front_step zero (b ∷ brought) (k ∷ known) d e inside there = refl
front_step (suc n) (b ∷ brought) (k ∷ known) d e inside there = ap (λ rest. merged b k ∷ rest) (front_step n brought known d e (omega arith) (omega arith))

-- one slot more
pub front_next : (n : ℕ) (brought old known new : List SlotKind) (d : SlotKind) → known ≡ merged_front n brought old → n < length old → n < length brought
    → new ≡ set known n (merged (get_or brought n d) (get_or known n (get_or brought n d))) → new ≡ merged_front (n + 1) brought old
front_next n brought old known new d front inside there e =
    e ∙ ap (λ ks. set ks n (merged (get_or brought n d) (get_or ks n (get_or brought n d)))) front
    ∙ ap (λ k. set (merged_front n brought old) n (merged (get_or brought n d) k)) (get-front n brought old (get_or brought n d))
    ∙ front_step n brought old d (get_or brought n d) inside there ∙ ap (λ (m : ℕ). merged_front m brought old) (sym (add-one n))

pub front_whole : (brought known : List SlotKind) → length known ≤ length brought → merged_front (length known) brought known ≡ merged_slots brought known
front_whole brought [] fits = sym (slots_none brought)
front_whole [] (k ∷ known) fits = absurd (omega arith)
front_whole (b ∷ brought) (k ∷ known) fits = ap (λ rest. merged b k ∷ rest) (front_whole brought known (omega arith))

-- ---- what may be lost

room_merged : (b k : SlotKind) → (merged b k ≡ k → ⊥) → slot_room (merged b k) < slot_room k
room_merged b kind.Unusable apart = absurd (apart (merged_unusable b))
room_merged kind.Int kind.Int apart = absurd (apart refl)
room_merged kind.Ref kind.Ref apart = absurd (apart refl)
room_merged kind.Long kind.Long apart = absurd (apart refl)
room_merged kind.SecondHalf kind.SecondHalf apart = absurd (apart refl)
room_merged b k apart = lit< tt

pub room_set : (n : ℕ) (slots : List SlotKind) (b d : SlotKind) → n < length slots → (merged b (get_or slots n d) ≡ get_or slots n d → ⊥) → slots_room (set slots n (merged b (get_or slots n d))) < slots_room slots
room_set n [] b d inside apart = absurd (omega arith)
room_set zero (k ∷ slots) b d inside apart = let less = room_merged b k apart in omega arith
room_set (suc n) (k ∷ slots) b d inside apart = let less = room_set n slots b d (omega arith) apart in omega arith

pub cut_merged : (brought known : List SlotKind) → merged_slots brought (take (length brought) known) ≡ merged_slots brought known
cut_merged [] known = refl
cut_merged (b ∷ brought) [] = refl
cut_merged (b ∷ brought) (k ∷ known) = ap (λ rest. merged b k ∷ rest) (cut_merged brought known)

some_room : (k : SlotKind) → 0 < slot_room k
some_room kind.Int = lit< tt
some_room kind.Ref = lit< tt
some_room kind.Long = lit< tt
some_room kind.SecondHalf = lit< tt
some_room kind.Unusable = lit< tt

pub room_cut : (n : ℕ) (slots : List SlotKind) → n < length slots → slots_room (take n slots) < slots_room slots
room_cut n [] inside = absurd (omega arith)
room_cut zero (k ∷ slots) inside = let some = some_room k in omega arith
room_cut (suc n) (k ∷ slots) inside = let less = room_cut n slots (omega arith) in omega arith

two_most : (k : SlotKind) → slot_room k ≤ 2
two_most kind.Int = lit≤ tt
two_most kind.Ref = lit≤ tt
two_most kind.Long = lit≤ tt
two_most kind.SecondHalf = lit≤ tt
two_most kind.Unusable = lit≤ tt

pub room_most : (slots : List SlotKind) → slots_room slots ≤ 2 * length slots
room_most [] = lit≤ tt
room_most (k ∷ slots) = let one = two_most k in let more = room_most slots in omega arith

-- ---- stacks, the top first

slots_append : (xs ys zs ws : List SlotKind) → length xs ≡ length ys → merged_slots (xs ++ zs) (ys ++ ws) ≡ merged_slots xs ys ++ merged_slots zs ws
slots_append [] [] zs ws e = refl
slots_append [] (y ∷ ys) zs ws e = absurd (omega arith)
slots_append (x ∷ xs) [] zs ws e = absurd (omega arith)
slots_append (x ∷ xs) (y ∷ ys) zs ws e = ap (λ rest. merged x y ∷ rest) (slots_append xs ys zs ws (omega arith))

reverse_cons : (x : SlotKind) (xs : List SlotKind) → reverse (x ∷ xs) ≡ reverse xs ++ x ∷ []
reverse_cons x xs = reverse-append (x ∷ []) xs

pub slots_reverse : (xs ys : List SlotKind) → length xs ≡ length ys → merged_slots (reverse xs) (reverse ys) ≡ reverse (merged_slots xs ys)
slots_reverse [] [] e = refl
slots_reverse [] (y ∷ ys) e = absurd (omega arith)
slots_reverse (x ∷ xs) [] e = absurd (omega arith)
slots_reverse (x ∷ xs) (y ∷ ys) e =
    let same : length xs ≡ length ys = omega arith in
    let one : length (reverse xs) ≡ length (reverse ys) = length-reverse xs ∙ same ∙ sym (length-reverse ys) in
    ap (λ front. merged_slots front (reverse (y ∷ ys))) (reverse_cons x xs) ∙ ap (merged_slots (reverse xs ++ x ∷ [])) (reverse_cons y ys)
    ∙ slots_append (reverse xs) (reverse ys) (x ∷ []) (y ∷ []) one ∙ ap (λ front. front ++ merged x y ∷ []) (slots_reverse xs ys same)
    ∙ sym (reverse_cons (merged x y) (merged_slots xs ys))

pub frames_merged : (bl bs kl ks : List SlotKind) → length ks ≡ length bs → OfKinds (merged_slots bl kl) (reverse (merged_slots bs ks)) ≡ merged_at (OfKinds bl (reverse bs)) (OfKinds kl (reverse ks))
frames_merged bl bs kl ks e =
    let deep : (length (reverse bs) == length (reverse ks)) ≡ true = eq-eqb (length (reverse bs)) (length (reverse ks)) (length-reverse bs ∙ sym e ∙ sym (length-reverse ks)) in
    ap (OfKinds (merged_slots bl kl)) (sym (slots_reverse bs ks (sym e)))
    ∙ sym (ap (λ b. cond b (OfKinds (merged_slots bl kl) (merged_slots (reverse bs) (reverse ks))) DepthsDiffer) deep)
