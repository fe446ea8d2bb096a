-- What is fresh goes through one inclusion, and through several.
use Rattle.std.proofs.Common.{◌≡◌, ℕ, ◌<◌, true, List, [], ◌∷◌, ◌++◌, ◌⊎◌, inl, inr, length, get_or, refl, sym, ap, ◌∙◌, subst, arith}
use Rattle.std.specs.List.{Contains}
use Rattle.std.proofs.lemmas.Bool.{cases_eq}
use Rattle.std.proofs.lemmas.List.{get_or_default}
use Rattle.std.proofs.lemmas.List.Elements.{Contains-append_left, Contains-push, Contains-push_cases}
use Rattle.th_base.specs.IdSet.{has}
use Rattle.th_base.proofs.Ascending.{has_first}
use Rattle.th_base.proofs.Membership.{has_append_cases, has_append_left, has_append_right}
use Rattle.th_incl.specs.Least.{set_at, In}
use Rattle.th_incl.specs.Parts.{missing}
use Rattle.th_incl.specs.Run.{Receives, Spreads}
use Rattle.th_incl.specs.declared.constraints.Inclusion.{Inclusion}

-- an element as an index reads it
pub read_at : {X : Type 0} → (xs : List (List X)) (i : ℕ) (r : List X) → r ≡ get_or xs i r → i < length xs → r ≡ get_or xs i []
read_at xs i r e h = e ∙ get_or_default xs i r [] h

pub nothing_in_none : {X : Type 0} → (x : X) → Contains [] x → ⊥
nothing_in_none x c = let h : c.0 < 0 = c.1 in absurd (omega arith)

pub only_one : {X : Type 0} → (y x : X) → Contains (y ∷ []) x → y ≡ x
only_one y x c = elim (Contains-push_cases [] y x c) [ inl none ↦ absurd (nothing_in_none x none) | inr same ↦ same ]

pub some_member : (xs : List ℕ) → (xs ≡ [] → ⊥) → (y : ℕ) × (has xs y ≡ true)
some_member [] h = absurd (h refl)
some_member (x ∷ xs) h = (x, has_first x xs)

-- ---- what a set received

pub received_cases : (to : ℕ) (ids : List ℕ) (news news' : List (List ℕ)) (queue queue' : List ℕ) → Receives to ids news queue news' queue' → (k x : ℕ) → In news' k x
    → In news k x ⊎ ((to ≡ k) × (has ids x ≡ true))
received_cases to ids news news' queue queue' r k x e = elim (cases_eq k to) [
  | inl same ↦ elim (has_append_cases ids (set_at news to) x (sym (r.here x) ∙ subst (λ n. In news' n x) same e)) [
    | inl new ↦ inr (sym same, new)
    | inr old ↦ inl (subst (λ n. In news n x) (sym same) old)
  ]
  | inr ne ↦ inl (sym (ap (λ l. has l x) (r.others k ne)) ∙ e)
]

pub received_stays : (to : ℕ) (ids : List ℕ) (news news' : List (List ℕ)) (queue queue' : List ℕ) → Receives to ids news queue news' queue' → (k x : ℕ) → In news k x → In news' k x
received_stays to ids news news' queue queue' r k x e = elim (cases_eq k to) [
  | inl same ↦ subst (λ n. In news' n x) (sym same) (r.here x ∙ has_append_right ids (set_at news to) x (subst (λ n. In news n x) same e))
  | inr ne ↦ ap (λ l. has l x) (r.others k ne) ∙ e
]

pub received_has : (to : ℕ) (ids : List ℕ) (news news' : List (List ℕ)) (queue queue' : List ℕ) → Receives to ids news queue news' queue' → (x : ℕ) → has ids x ≡ true → In news' to x
received_has to ids news news' queue queue' r x e = r.here x ∙ has_append_left ids (set_at news to) x e

pub received_queued : (to : ℕ) (ids : List ℕ) (news news' : List (List ℕ)) (queue queue' : List ℕ) → Receives to ids news queue news' queue' → (k x : ℕ) → In news' k x
    → ((y : ℕ) × In news k y) ⊎ (has queue' k ≡ true)
received_queued to ids news news' queue queue' r k x e = elim (cases_eq k to) [
  | inl same ↦ elim (r.queued x (subst (λ n. In news' n x) same e)) [
    | inl o ↦ inl (o.0, subst (λ n. In news n o.0) (sym same) o.1)
    | inr q ↦ inr (subst (λ n. has queue' n ≡ true) (sym same) q)
  ]
  | inr ne ↦ inl (x, sym (ap (λ l. has l x) (r.others k ne)) ∙ e)
]

-- ---- inclusions

pub delivers : (sets filters : List (List ℕ)) (j : Inclusion) (fresh : List ℕ) (news news' : List (List ℕ)) (queue queue' : List ℕ) → j.to < length news
    → Receives j.to (missing fresh (set_at filters j.filter) (set_at sets j.to)) news queue news' queue' → Spreads sets filters (j ∷ []) fresh news queue news' queue'
delivers sets filters j fresh news news' queue queue' inside r =
    let ids : List ℕ = missing fresh (set_at filters j.filter) (set_at sets j.to) in
    record {
      news_len = r.news_len;
      stays = received_stays j.to ids news news' queue queue' r;
      only = λ k x e. elim (received_cases j.to ids news news' queue queue' r k x e) [
        | inl old ↦ inl old
        | inr new ↦ inr (j, (Contains-push [] j, new.0, subst (λ n. has (missing fresh (set_at filters j.filter) (set_at sets n)) x ≡ true) new.0 new.1))
      ];
      every = λ i x one p. subst (λ i. has (missing fresh (set_at filters i.filter) (set_at sets i.to)) x ≡ true → In news' i.to x) (only_one j i one)
          (received_has j.to ids news news' queue queue' r x) p;
      queue_stays = r.queue_stays;
      queued = received_queued j.to ids news news' queue queue' r;
      inside = λ k e. elim (r.inside k e) [ inl o ↦ inl o | inr s ↦ inr (subst (λ n. n < length news) s inside) ];
    }

pub spreads_none : (sets filters : List (List ℕ)) (fresh : List ℕ) (news : List (List ℕ)) (queue : List ℕ) → Spreads sets filters [] fresh news queue news queue
spreads_none sets filters fresh news queue = record {
  news_len = refl;
  stays = λ k x e. e;
  only = λ k x e. inl e;
  every = λ j x one p. absurd (nothing_in_none j one);
  queue_stays = λ k e. e;
  queued = λ k x e. inl (x, e);
  inside = λ k e. inl e;
}

pub spreads_more : (sets filters : List (List ℕ)) (out : List Inclusion) (j : Inclusion) (fresh : List ℕ) (a b d : List (List ℕ)) (p q r : List ℕ)
    → Spreads sets filters out fresh a p b q → Spreads sets filters (j ∷ []) fresh b q d r → Spreads sets filters (out ++ j ∷ []) fresh a p d r
spreads_more sets filters out j fresh a b d p q r f g = record {
  news_len = g.news_len ∙ f.news_len;
  stays = λ k x e. g.stays k x (f.stays k x e);
  only = λ k x e. elim (g.only k x e) [
    | inl m ↦ elim (f.only k x m) [
      | inl o ↦ inl o
      | inr w ↦ inr (w.0, (Contains-append_left out (j ∷ []) w.0 w.1.0, w.1.1, w.1.2))
    ]
    | inr w ↦ inr (w.0, (subst (λ i. Contains (out ++ j ∷ []) i) (only_one j w.0 w.1.0) (Contains-push out j), w.1.1, w.1.2))
  ];
  every = λ i x one h. elim (Contains-push_cases out j i one) [
    | inl o ↦ g.stays i.to x (f.every i x o h)
    | inr same ↦ g.every i x (subst (λ z. Contains (j ∷ []) z) same (Contains-push [] j)) h
  ];
  queue_stays = λ k e. g.queue_stays k (f.queue_stays k e);
  queued = λ k x e. elim (g.queued k x e) [
    | inl m ↦ elim (f.queued k m.0 m.1) [ inl o ↦ inl o | inr h ↦ inr (g.queue_stays k h) ]
    | inr h ↦ inr h
  ];
  inside = λ k e. elim (g.inside k e) [ inl m ↦ f.inside k m | inr l ↦ inr (subst (λ n. k < n) f.news_len l) ];
}

-- what an index past the end reads
abbrev pub no_inclusion : Inclusion
no_inclusion = record { from = 0; to = 0; filter = 0 }
