-- A replay event by event: the events so far, the first that is not allowed, and the room that the numbers have.
use Rattle.std.proofs.Common.{◌≡◌, ℕ, zero, suc, ◌+◌, ◌<◌, ◌≤◌, Bool, true, false, List, [], ◌∷◌, ◌++◌, length, set, take, get_or, refl, sym, ap, ◌∙◌, subst, arith, length-append, add-one, Result, Err}
use Rattle.std.proofs.lemmas.List.{length-take, take_all}
use Rattle.th_edge_table.specs.declared.word.Word.{Word}
use Rattle.th_edge_table.specs.declared.word.Word.TheVariants.{Free, Claimed, Decided}
use Rattle.th_base.specs.declared.number.EdgeId.{EdgeId}
use Rattle.th_base.specs.declared.fail.Fail.{Fail}
use Rattle.th_base.specs.declared.fail.Fail.TheVariants.{Refused}
use Rattle.th_edge_table.specs.declared.state.BadEvent.{BadEvent}
use Rattle.th_edge_table.specs.declared.state.CoreSeat.{CoreSeat}
use Rattle.th_edge_table.specs.declared.state.CoreState.{CoreState}
use Rattle.th_edge_table.specs.declared.state.CoreEvent.{CoreEvent}
use Rattle.th_edge_table.specs.declared.state.CoreEvent.TheVariants.{Look, Claim, Publish, Split, Join}
use Rattle.th_edge_table.specs.Core.{newcomer, opening, saw, claimed, published, parted, joined, ended, word_at, seat_at, Allowed, happens, AllAllowed, replayed}
use Rattle.th_edge_table.specs.Facts.{live_part, SixFacts}
use Rattle.th_edge_table.specs.Replay.{IsFirstBad, MakesIfAllowed, HasRoom}
use Rattle.th_edge_table.proofs.Lists.{two_le_sum}
use Rattle.th_edge_table.proofs.Steps.{counts}
use Rattle.th_edge_table.proofs.Opening.{opened}
use Rattle.th_edge_table.proofs.Runs.{there, Good, kept_all, scheduled}

-- one more event, which was made
pub one_made : (c now new : CoreState) (xs : List CoreEvent) (i : ℕ) (d : CoreEvent) (made : Bool) → made ≡ true → i < length xs → AllAllowed c (take i xs) → now ≡ replayed c (take i xs) → MakesIfAllowed (get_or xs i d) now made new
    → AllAllowed c (take (i + 1) xs) × (new ≡ replayed c (take (i + 1) xs))
one_made c now new xs i d made was lt a is h =
    let m = subst (λ b. MakesIfAllowed (get_or xs i d) now b new) was h in
    let P : ℕ → Type 0 = λ k. AllAllowed c (take k xs) × (new ≡ replayed c (take k xs)) in
    subst P (sym (add-one i)) (more c xs i lt a (subst (λ s. Allowed s (get_or xs i d)) is m.0), m.1 ∙ ap (λ s. happens s (get_or xs i d)) is ∙ after c xs i lt)
  where
    more : (c : CoreState) (xs : List CoreEvent) (i : ℕ) → i < length xs → AllAllowed c (take i xs) → Allowed (replayed c (take i xs)) (get_or xs i d) → AllAllowed c (take (suc i) xs)
    more c [] i lt a h = absurd (omega arith)
    more c (y ∷ ys) zero lt a h = (h, tt)
    more c (y ∷ ys) (suc i) lt a h = (a.0, more (happens c y) ys i (omega arith) a.1 h)

    after : (c : CoreState) (xs : List CoreEvent) (i : ℕ) → i < length xs → happens (replayed c (take i xs)) (get_or xs i d) ≡ replayed c (take (suc i) xs)
    after c [] i lt = absurd (omega arith)
    after c (y ∷ ys) zero lt = refl
    after c (y ∷ ys) (suc i) lt = after (happens c y) ys i (omega arith)

-- one more event, which was not made
pub first_bad : (c now new : CoreState) (xs : List CoreEvent) (i : ℕ) (d : CoreEvent) (made : Bool) → made ≡ false → i < length xs → AllAllowed c (take i xs) → now ≡ replayed c (take i xs) → MakesIfAllowed (get_or xs i d) now made new
    → IsFirstBad c xs i
first_bad c now new xs i d made was lt a is h =
    let m = subst (λ b. MakesIfAllowed (get_or xs i d) now b new) was h in
    bad c xs i lt a (λ k. m.0 (subst (λ s. Allowed s (get_or xs i d)) (sym is) k))
  where
    bad : (c : CoreState) (xs : List CoreEvent) (i : ℕ) → i < length xs → AllAllowed c (take i xs) → ¬ Allowed (replayed c (take i xs)) (get_or xs i d) → IsFirstBad c xs i
    bad c [] i lt a h = absurd (omega arith)
    bad c (y ∷ ys) zero lt a h = h
    bad c (y ∷ ys) (suc i) lt a h = (a.0, bad (happens c y) ys i (omega arith) a.1 h)

-- there is one first bad event
pub one_bad : (c : CoreState) (xs : List CoreEvent) (i j : ℕ) → IsFirstBad c xs i → IsFirstBad c xs j → i ≡ j
one_bad c [] i j a b = absurd a
one_bad c (x ∷ xs) zero zero a b = refl
one_bad c (x ∷ xs) zero (suc j) a b = absurd (a b.0)
one_bad c (x ∷ xs) (suc i) zero a b = absurd (b a.0)
one_bad c (x ∷ xs) (suc i) (suc j) a b = ap suc (one_bad (happens c x) xs i j a.1 b.1)

-- and none where each event is allowed
pub none_bad : (c : CoreState) (xs : List CoreEvent) (k : ℕ) → AllAllowed c xs → IsFirstBad c xs k → ⊥
none_bad c [] k a b = b
none_bad c (x ∷ xs) zero a b = b a.0
none_bad c (x ∷ xs) (suc k) a b = none_bad (happens c x) xs k a.1 b.1

-- an answer names the event
pub answer_names : (j k : ℕ) → ◌≡◌ {A = Result CoreState (Fail BadEvent)} (Err (Refused record { event = j })) (Err (Refused record { event = k })) → j ≡ k
answer_names j k e = let q : ◌≡◌ {A = BadEvent} record { event = j } record { event = k } = cc in ap (λ (b : BadEvent). b.event) q

pub answer_is : (j k : ℕ) → j ≡ k → ◌≡◌ {A = Result CoreState (Fail BadEvent)} (Err (Refused record { event = j })) (Err (Refused record { event = k }))
answer_is j k e = λ i. Err (Refused record { event = e i })

-- after the last event
pub at_end : (c now : CoreState) (xs : List CoreEvent) (i : ℕ) → length xs ≤ i → AllAllowed c (take i xs) → now ≡ replayed c (take i xs) → AllAllowed c xs × (now ≡ replayed c xs)
at_end c now xs i done a is = let P : List CoreEvent → Type 0 = λ ys. AllAllowed c ys × (now ≡ replayed c ys) in subst P (take_all i xs done) (a, is)

pub facts_at : (n : ℕ) (xs : List CoreEvent) (now : CoreState) (words : List Word) (seats : List CoreSeat) → AllAllowed (opening n) xs → now ≡ replayed (opening n) xs → words ≡ now.words → seats ≡ now.seats → SixFacts (word_at words) seats
facts_at n xs now words seats a is e f =
    let P : CoreState → Type 0 = λ c. SixFacts (word_at c.words) c.seats in
    let whole : ◌≡◌ {A = CoreState} (replayed (opening n) xs) record { words = words; seats = seats } = sym is ∙ (λ i. record { words = sym e i; seats = sym f i }) in subst P whole (scheduled n xs a)

-- the list `seen` of each seat is no longer than this
abbrev Short : List CoreSeat → ℕ → Type 0
Short seats m = (s : ℕ) → length (seat_at seats s).seen ≤ m

short_set : (seats : List CoreSeat) (s : ℕ) (v : CoreSeat) (m : ℕ) → Short seats m → length v.seen ≤ m → Short (set seats s v) m
short_set [] s v m h l t = h t
short_set (x ∷ xs) zero v m h l zero = l
short_set (x ∷ xs) zero v m h l (suc t) = h (suc t)
short_set (x ∷ xs) (suc s) v m h l zero = h zero
short_set (x ∷ xs) (suc s) v m h l (suc t) = short_set xs s v m (λ r. h (suc r)) l t

short_push : (seats : List CoreSeat) (v : CoreSeat) (m : ℕ) → Short seats m → length v.seen ≤ m → Short (seats ++ v ∷ []) m
short_push [] v m h l zero = l
short_push [] v m h l (suc t) = h (suc t)
short_push (x ∷ xs) v m h l zero = h zero
short_push (x ∷ xs) v m h l (suc t) = short_push xs v m (λ r. h (suc r)) l t

saw_one : (e : EdgeId) (w : Word) (v : CoreSeat) → length (saw e w v).seen ≡ length v.seen + 1
saw_one e w v = length-append v.seen ((e, w) ∷ [])

claimed_one : (e : EdgeId) (w : Word) (v : CoreSeat) → length (claimed e w v).seen ≤ length v.seen + 1
claimed_one e Free v = omega arith
claimed_one e Claimed v = let s = saw_one e Claimed v in omega arith
claimed_one e (Decided d) v = let s = saw_one e (Decided d) v in omega arith

short_more : (c : CoreState) (x : CoreEvent) (m : ℕ) → Short c.seats m → Short (happens c x).seats (m + 1)
short_more c (Look s e) m h = let a = saw_one e (word_at c.words e.0) (seat_at c.seats s) in let b = h s in short_set c.seats s (saw e (word_at c.words e.0) (seat_at c.seats s)) (m + 1) (λ t. let k = h t in omega arith) (omega arith)
short_more c (Claim s e) m h =
    let a = claimed_one e (word_at c.words e.0) (seat_at c.seats s) in let b = h s in short_set c.seats s (claimed e (word_at c.words e.0) (seat_at c.seats s)) (m + 1) (λ t. let k = h t in omega arith) (omega arith)
short_more c (Publish s e d) m h = let b = h s in short_set c.seats s (published e d (seat_at c.seats s)) (m + 1) (λ t. let k = h t in omega arith) (omega arith)
short_more c (Split s) m h =
    let b = h s in short_push (set c.seats s (parted (seat_at c.seats s))) (newcomer 1) (m + 1) (short_set c.seats s (parted (seat_at c.seats s)) (m + 1) (λ t. let k = h t in omega arith) (omega arith)) (omega arith)
short_more c (Join s t) m h =
    let a = h s in let b = h t in
    short_set (set c.seats s (joined (seat_at c.seats s) (seat_at c.seats t))) t (ended (seat_at c.seats t)) (m + 1)
    (short_set c.seats s (joined (seat_at c.seats s) (seat_at c.seats t)) (m + 1) (λ r. let k = h r in omega arith) (omega arith)) (omega arith)

short_all : (c : CoreState) (xs : List CoreEvent) (m : ℕ) → Short c.seats m → Short (replayed c xs).seats (m + length xs)
short_all c [] m h s = let k = h s in omega arith
short_all c (x ∷ xs) m h s = let k = short_all (happens c x) xs (m + 1) (short_more c x m h) s in omega arith

short_opening : (n : ℕ) → Short (opening n).seats 0
short_opening n zero = omega arith
short_opening n (suc s) = omega arith

room : (n : ℕ) (xs : List CoreEvent) → AllAllowed (opening n) xs → length xs < 4294967296 → HasRoom (replayed (opening n) xs)
room n xs a lt = record {
  seen = λ s. let k = short_all (opening n) xs 0 (short_opening n) s in omega arith;
  parts = λ s t q is is'.
      let c = replayed (opening n) xs in
      let g : Good c = kept_all (opening n) xs (opened n) a in
      let v = seat_at c.seats s in let u = seat_at c.seats t in
      let k = two_le_sum live_part c.seats s t v u (there c.seats s is) (there c.seats t is') q in
      let i = counts v.ended v.part is in let j = counts u.ended u.part is' in let p = g.parts in omega arith;
}

-- the numbers of the next event have room
pub has_room : (n i : ℕ) (events : List CoreEvent) (now : CoreState) → AllAllowed (opening n) (take i events) → now ≡ replayed (opening n) (take i events) → length events < 4294967296 → HasRoom now
has_room n i events now a is lt = let l = length-take i events in subst HasRoom (sym is) (room n (take i events) a (omega arith))
