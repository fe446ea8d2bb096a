-- Rounds come to an end, and then the sets are the least.
use Rattle.std.proofs.Common.{◌≡◌, ℕ, ◌<◌, ◌+◌, ◌*◌, zero, suc, min, eqb, true, List, [], ◌∷◌, ◌++◌, inl, inr, length, get_or, take, drop, set, refl, sym, ap, ◌∙◌, subst, arith, get_or-set_other}
use Rattle.std.proofs.lemmas.Bool.{cases_eq, both_ways, or_cases, eqb-true}
use Rattle.std.proofs.lemmas.List.{drop_more, get_or_default, length-set, take-append-drop}
use Rattle.th_base.specs.IdSet.{has, IsAscending}
use Rattle.th_base.proofs.Membership.{has_append_cases, has_append_left, has_append_right}
use Rattle.th_incl.specs.Least.{set_at, In, Reaches, given, passed, IsLeast, HasMoreThan, pair_count}
use Rattle.th_incl.specs.Parts.{SameMembers}
use Rattle.th_incl.specs.Run.{Known, Inv, Queued, Progress, room}
use Rattle.th_incl.specs.Kept.{constraints_of, IsConsistent, Steps, Stops}
use Rattle.th_incl.specs.declared.constraints.Constraints.{Constraints}
use Rattle.th_incl.specs.declared.system.System.{System}
use Rattle.th_incl.specs.declared.work.Work.{Work}
use Rattle.th_incl.proofs.Counts.{over_news}

-- ---- with no news the sets are the least

nothing_queued : (n : ℕ) (news : List (List ℕ)) → Queued n news [] [] → (k x : ℕ) → In news k x → ⊥
nothing_queued n news q k x e = elim (q.all k x e) [ inl h ↦ both_ways _ refl h | inr h ↦ both_ways _ refl h ]

in_its_set : (c : Constraints) (sets news : List (List ℕ)) → Inv c sets news → ((k x : ℕ) → In news k x → ⊥) → (i x : ℕ) → Reaches c i x → In sets i x
in_its_set c sets news v none _ _ (given i x one) = elim (v.base i x one) [ inl e ↦ e | inr n ↦ absurd (none i x n) ]
in_its_set c sets news v none _ _ (passed j x one r f) =
    elim (v.copies j x one (in_its_set c sets news v none j.from x r) f) [ inl e ↦ e | inr n ↦ absurd (none j.to x n) ]

pub least : (c : Constraints) (sets news : List (List ℕ)) → Inv c sets news → Queued c.sets news [] [] → IsLeast c sets
least c sets news v q = record {
  count = v.sets_len;
  ascending = λ k d h. subst (λ l. IsAscending l) (sym (get_or_default sets k d [] h)) (v.ascending k);
  exact = λ i x. (λ e. v.sound i x (inl e), in_its_set c sets news v (nothing_queued c.sets news q) i x);
}

-- ---- the queue through a round

-- the queue is taken for a round, and a new one begun
pub queue_taken : (n : ℕ) (news : List (List ℕ)) (queue front queue' : List ℕ) → Queued n news queue [] → front ≡ queue → queue' ≡ [] → Queued n news queue' front
queue_taken n news queue front queue' q e f = record {
  all = λ k x h. elim (q.all k x h) [ inl a ↦ inr (ap (λ l. has l k) e ∙ a) | inr b ↦ absurd (both_ways _ refl b) ];
  inside = λ k h. absurd (both_ways _ refl (sym (ap (λ l. has l k) f) ∙ h));
}

pub queue_stepped : (s : System) (front : List ℕ) (i : ℕ) (w w' : Work) → i < length front → Queued s.sets w.news.items w.queue.items (drop i front)
    → Steps s (get_or front i 0) w w' → Queued s.sets w'.news.items w'.queue.items (drop (i + 1) front)
queue_stepped s front i w w' lt q t = record {
  all = λ k x h. elim (t.queued k x h) [
    | inl o ↦ elim (q.all k o.0 o.1.0) [
      | inl a ↦ inl (t.queue_stays k a)
      | inr b ↦ elim (or_cases (eqb (get_or front i 0) k) (has (drop (i + 1) front) k) (sym (ap (λ l. has l k) (drop_more front i 0 lt)) ∙ b)) [
        | inl same ↦ absurd (o.1.1 (sym (eqb-true (get_or front i 0) k same)))
        | inr later ↦ inr later
      ]
    ]
    | inr a ↦ inl a
  ];
  inside = λ k h. elim (t.inside k h) [ inl o ↦ q.inside k o | inr l ↦ l ];
}

has_drop : (n : ℕ) (xs : List ℕ) (x : ℕ) → has (drop n xs) x ≡ true → has xs x ≡ true
has_drop n xs x h = ap (λ l. has l x) (sym (take-append-drop n xs)) ∙ has_append_right (take n xs) (drop n xs) x h

-- where the limit stops a round, what was taken goes back
pub queue_back : (n : ℕ) (news news' : List (List ℕ)) (queue front : List ℕ) (i : ℕ) → Queued n news queue (drop i front) → ((k : ℕ) → has front k ≡ true → k < n)
    → ((k : ℕ) → SameMembers (set_at news k) (set_at news' k)) → Queued n news' (queue ++ front) []
queue_back n news news' queue front i q inside same = record {
  all = λ k x h. elim (q.all k x (sym (same k x) ∙ h)) [
    | inl a ↦ inl (has_append_left queue front k a)
    | inr b ↦ inl (has_append_right queue front k (has_drop i front k b))
  ];
  inside = λ k h. elim (has_append_cases queue front k h) [ inl a ↦ q.inside k a | inr b ↦ inside k b ];
}

-- ---- a round that is stopped

stopped_same : (limit i : ℕ) (w w' : Work) → i < length w.news.items → Stops limit i w w' → (k : ℕ) → SameMembers (set_at w.news.items k) (set_at w'.news.items k)
stopped_same limit i w w' lt t k x = elim (cases_eq k i) [
  | inl here ↦ subst (λ n. has (set_at w'.news.items n) x ≡ has (set_at w.news.items n) x) (sym here) (t.same x)
  | inr ne ↦ ap (λ l. has l x) (ap (λ z. set_at z k) t.news ∙ get_or-set_other w.news.items i k (set_at w'.news.items i) [] ne)
]

same_known : (sets news news' : List (List ℕ)) → ((k : ℕ) → SameMembers (set_at news k) (set_at news' k)) → (i x : ℕ) → Known sets news i x → Known sets news' i x
same_known sets news news' same i x (inl e) = inl e
same_known sets news news' same i x (inr e) = inr (same i x ∙ e)

same_inv : (c : Constraints) (sets news news' : List (List ℕ)) → length news' ≡ length news → ((k : ℕ) → SameMembers (set_at news k) (set_at news' k)) → Inv c sets news → Inv c sets news'
same_inv c sets news news' len same v = record {
  sets_len = v.sets_len;
  news_len = len ∙ v.news_len;
  ascending = v.ascending;
  sound = λ i x h. elim h [ inl e ↦ v.sound i x (inl e) | inr e ↦ v.sound i x (inr (sym (same i x) ∙ e)) ];
  apart = λ i x e. v.apart i x (sym (same i x) ∙ e);
  base = λ i x one. same_known sets news news' same i x (v.base i x one);
  copies = λ j x one e f. same_known sets news news' same j.to x (v.copies j x one e f);
}

-- the parts as a stopped step leaves them, with the queue put back
pub kept_stopped : (s : System) (limit i at : ℕ) (w w' : Work) (front queue : List ℕ) → IsConsistent s w → i < s.sets → Stops limit i w w'
    → Queued s.sets w.news.items w.queue.items (drop at front) → ((k : ℕ) → has front k ≡ true → k < s.sets) → queue ≡ w'.queue.items ++ front
    → Inv (constraints_of s) w'.sets.items w'.news.items × (w'.pairs ≡ pair_count w'.sets.items) × Queued s.sets w'.news.items queue []
kept_stopped s limit i at w w' front queue ok lt t q inside e =
    let in_news : i < length w.news.items = omega (arith, lt, ok.inv.news_len) in
    let same = stopped_same limit i w w' in_news t in (
      subst (λ z. Inv (constraints_of s) z w'.news.items) (sym t.sets)
          (same_inv (constraints_of s) w.sets.items w.news.items w'.news.items (ap length t.news ∙ length-set w.news.items i (set_at w'.news.items i)) same ok.inv),
      t.pairs ∙ ok.pairs ∙ ap pair_count (sym t.sets),
      subst (λ z. Queued s.sets w'.news.items z []) (ap (λ z. z ++ front) (sym t.queue) ∙ sym e)
          (queue_back s.sets w.news.items w'.news.items w.queue.items front at q inside same),
    )

pub over_stopped : (s : System) (limit i : ℕ) (w w' : Work) → IsConsistent s w → i < s.sets → Stops limit i w w' → HasMoreThan (constraints_of s) limit
over_stopped s limit i w w' ok lt t =
    over_news (constraints_of s) w.sets.items w.news.items i (set_at w'.news.items i) limit ok.inv (omega (arith, lt, ok.inv.sets_len)) t.same t.ascending
    (omega (arith, t.over, ok.pairs))

-- ---- progress

pub progress_both : (a b d : List (List ℕ)) (p q r : List ℕ) → Progress a b p q → Progress b d q r → Progress a d p r
progress_both a b d p q r f g = elim f [
  | inl x ↦ elim g [ inl y ↦ inl (omega (arith, x, y)) | inr y ↦ inl (omega (arith, x, y.0)) ]
  | inr x ↦ elim g [ inl y ↦ inl (omega (arith, x.0, y)) | inr y ↦ inr (y.0 ∙ x.0, y.1 ∙ x.1) ]
]

-- twice the room, and one where something is queued, falls with each round
pub falls : (a b : List (List ℕ)) (q r : List ℕ) → 0 < length q → Progress a b [] r → 2 * room b + min 1 (length r) < 2 * room a + min 1 (length q)
falls a b q r h p = elim p [
  | inl x ↦ omega (arith, x, h)
  | inr x ↦ let none : length r ≡ 0 = ap length x.1 in omega (arith, x.0, h, none)
]

-- of two writes at one place the second stays
pub set_twice : {X : Type 0} → (xs : List X) (i : ℕ) (x y : X) → set (set xs i x) i y ≡ set xs i y
set_twice [] i x y = refl
set_twice (z ∷ zs) zero x y = refl
set_twice (z ∷ zs) (suc i) x y = ap (λ l. z ∷ l) (set_twice zs i x y)

pub no_length : (xs : List ℕ) → length xs ≡ 0 → xs ≡ []
no_length [] h = refl
no_length (x ∷ xs) h = absurd (omega (arith, h))
