-- A step keeps what holds between steps.
use Rattle.std.proofs.Common.{◌≡◌, ◌≢◌, ℕ, ◌<◌, ◌+◌, ◌&&◌, Bool, true, false, not, List, [], ◌⊎◌, inl, inr, length, set, refl, sym, ap, ◌∙◌, subst, arith, get_or-set_same, get_or-set_other}
use Rattle.std.specs.List.{Contains}
use Rattle.std.proofs.lemmas.Bool.{cases_eq, cases_Bool, both_ways, or_cases, or_left, or_right}
use Rattle.std.proofs.lemmas.List.{length-set}
use Rattle.th_base.specs.IdSet.{has, union_of, IsAscending}
use Rattle.th_base.proofs.Ascending.{has-filter, has-union_of, IsAscending-union_of}
use Rattle.th_incl.specs.Least.{set_at, is_in, In, Reaches, passed, pair_count}
use Rattle.th_incl.specs.Parts.{SameMembers, missing}
use Rattle.th_incl.specs.Run.{Known, Inv, Tables, out_at, Spreads, Progress, room}
use Rattle.th_incl.specs.declared.constraints.Inclusion.{Inclusion}
use Rattle.th_incl.specs.declared.constraints.Constraints.{Constraints}
use Rattle.th_incl.specs.declared.system.System.{System}
use Rattle.th_incl.specs.declared.work.Work.{Work}
use Rattle.th_incl.specs.Kept.{constraints_of, IsConsistent, Settles, Steps}
use Rattle.th_incl.proofs.Members.{length-union_of}
use Rattle.th_incl.proofs.Counts.{pairs_set, room_set}

-- ---- what is missing

and_parts : (a b : Bool) → (a && b) ≡ true → (a ≡ true) × (b ≡ true)
and_parts true true h = (refl, refl)
and_parts true false h = absurd (both_ways _ refl h)
and_parts false b h = absurd (both_ways _ refl h)

not_true : (b : Bool) → not b ≡ true → b ≡ false
not_true true h = absurd (both_ways _ refl h)
not_true false h = refl

pub missing_parts : (fresh passing target : List ℕ) (x : ℕ) → has (missing fresh passing target) x ≡ true → (has fresh x ≡ true) × (has passing x ≡ true) × (has target x ≡ false)
missing_parts fresh passing target x h =
    let p = and_parts _ _ (sym (has-filter (λ x. has passing x && not (has target x)) fresh x) ∙ h) in
    let q = and_parts (has passing x) (not (has target x)) p.0 in
    (p.1, q.0, not_true (has target x) q.1)

pub missing_has : (fresh passing target : List ℕ) (x : ℕ) → has fresh x ≡ true → has passing x ≡ true → has target x ≡ false → has (missing fresh passing target) x ≡ true
missing_has fresh passing target x f p t = has-filter (λ x. has passing x && not (has target x)) fresh x ∙ rw (f, p, t) refl

-- ---- the news of a set go into it

-- the set, its news and what came in
record Settled (sets news sets' mid : List (List ℕ)) (i : ℕ) (fresh : List ℕ) : Type 0 where
  same : SameMembers (set_at news i) fresh
  here : set_at sets' i ≡ union_of (set_at sets i) fresh
  others : (k : ℕ) → k ≢ i → set_at sets' k ≡ set_at sets k
  taken : set_at mid i ≡ []
  other_news : (k : ℕ) → k ≢ i → set_at mid k ≡ set_at news k

settled : (sets news sets' mid : List (List ℕ)) (i : ℕ) (fresh : List ℕ) → i < length sets → i < length news → SameMembers (set_at news i) fresh
    → sets' ≡ set sets i (union_of (set_at sets i) fresh) → mid ≡ set news i [] → Settled sets news sets' mid i fresh
settled sets news sets' mid i fresh l m same e f = record {
  same = same;
  here = ap (λ z. set_at z i) e ∙ get_or-set_same sets i (union_of (set_at sets i) fresh) [] l;
  others = λ k ne. ap (λ z. set_at z k) e ∙ get_or-set_other sets i k (union_of (set_at sets i) fresh) [] ne;
  taken = ap (λ z. set_at z i) f ∙ get_or-set_same news i [] [] m;
  other_news = λ k ne. ap (λ z. set_at z k) f ∙ get_or-set_other news i k [] [] ne;
}

in_settled : (sets news sets' mid : List (List ℕ)) (i : ℕ) (fresh : List ℕ) → Settled sets news sets' mid i fresh → (k x : ℕ) → In sets' k x
    → In sets k x ⊎ ((k ≡ i) × (has fresh x ≡ true))
in_settled sets news sets' mid i fresh s k x e = elim (cases_eq k i) [
  | inl same ↦
      let both : has (union_of (set_at sets i) fresh) x ≡ true = sym (ap (λ l. has l x) s.here) ∙ subst (λ n. In sets' n x) same e in
      elim (or_cases (has (set_at sets i) x) (has fresh x) (sym (has-union_of (set_at sets i) fresh x) ∙ both)) [
        | inl old ↦ inl (subst (λ n. In sets n x) (sym same) old)
        | inr new ↦ inr (same, new)
      ]
  | inr ne ↦ inl (sym (ap (λ l. has l x) (s.others k ne)) ∙ e)
]

settled_stays : (sets news sets' mid : List (List ℕ)) (i : ℕ) (fresh : List ℕ) → Settled sets news sets' mid i fresh → (k x : ℕ) → In sets k x → In sets' k x
settled_stays sets news sets' mid i fresh s k x e = elim (cases_eq k i) [
  | inl same ↦
      subst (λ n. In sets' n x) (sym same)
      (ap (λ l. has l x) s.here ∙ has-union_of (set_at sets i) fresh x ∙ or_left (has (set_at sets i) x) (has fresh x) (subst (λ n. In sets n x) same e))
  | inr ne ↦ ap (λ l. has l x) (s.others k ne) ∙ e
]

settled_takes : (sets news sets' mid : List (List ℕ)) (i : ℕ) (fresh : List ℕ) → Settled sets news sets' mid i fresh → (x : ℕ) → has fresh x ≡ true → In sets' i x
settled_takes sets news sets' mid i fresh s x f = ap (λ l. has l x) s.here ∙ has-union_of (set_at sets i) fresh x ∙ or_right (has (set_at sets i) x) (has fresh x) f

-- what was known is in its set, or still among the news
settled_knows : (sets news sets' mid : List (List ℕ)) (i : ℕ) (fresh : List ℕ) → Settled sets news sets' mid i fresh → (k x : ℕ) → Known sets news k x → Known sets' mid k x
settled_knows sets news sets' mid i fresh s k x (inl e) = inl (settled_stays sets news sets' mid i fresh s k x e)
settled_knows sets news sets' mid i fresh s k x (inr e) = elim (cases_eq k i) [
  | inl same ↦ inl (subst (λ n. In sets' n x) (sym same) (settled_takes sets news sets' mid i fresh s x (s.same x ∙ subst (λ n. In news n x) same e)))
  | inr ne ↦ inr (ap (λ l. has l x) (s.other_news k ne) ∙ e)
]

-- what is left of the news was there
left_of_news : (sets news sets' mid : List (List ℕ)) (i : ℕ) (fresh : List ℕ) → Settled sets news sets' mid i fresh → (k x : ℕ) → In mid k x → In news k x × (k ≢ i)
left_of_news sets news sets' mid i fresh s k x e = elim (cases_eq k i) [
  | inl same ↦ absurd (both_ways _ refl (sym (ap (λ l. has l x) s.taken) ∙ subst (λ n. In mid n x) same e))
  | inr ne ↦ (sym (ap (λ l. has l x) (s.other_news k ne)) ∙ e, ne)
]

-- ---- and are passed on

passed_on : (sets news mid news' : List (List ℕ)) → ((k x : ℕ) → In mid k x → In news' k x) → (k x : ℕ) → Known sets mid k x → Known sets news' k x
passed_on sets news mid news' stays k x (inl e) = inl e
passed_on sets news mid news' stays k x (inr e) = inr (stays k x e)

step_inv : (c : Constraints) (out : List (List Inclusion)) (i : ℕ) (sets news sets' mid news' : List (List ℕ)) (fresh queue queue' : List ℕ)
    → Tables c out → Inv c sets news → length sets' ≡ length sets → length mid ≡ length news → IsAscending (set_at sets' i)
    → Settled sets news sets' mid i fresh → Spreads sets' c.filters (out_at out i) fresh mid queue news' queue' → Inv c sets' news'
step_inv c out i sets news sets' mid news' fresh queue queue' t v len len' asc s p =
    let sound : (k x : ℕ) → In sets' k x → Reaches c k x =
    λ k x e. elim (in_settled sets news sets' mid i fresh s k x e) [
      | inl old ↦ v.sound k x (inl old)
      | inr new ↦ v.sound k x (inr (subst (λ n. In news n x) (sym new.0) (sym (s.same x) ∙ new.1)))
    ] in
    let knows : (k x : ℕ) → Known sets news k x → Known sets' news' k x =
    λ k x h. passed_on sets' news mid news' p.stays k x (settled_knows sets news sets' mid i fresh s k x h) in
    record {
      sets_len = len ∙ v.sets_len;
      news_len = p.news_len ∙ len' ∙ v.news_len;
      ascending = λ k. elim (cases_eq k i) [
        | inl same ↦ subst (λ n. IsAscending (set_at sets' n)) (sym same) asc
        | inr ne ↦ subst (λ l. IsAscending l) (sym (s.others k ne)) (v.ascending k)
      ];
      sound = λ k x h. elim h [
        | inl e ↦ sound k x e
        | inr e ↦ elim (p.only k x e) [
          | inl m ↦ v.sound k x (inr (left_of_news sets news sets' mid i fresh s k x m).0)
          | inr w ↦
              let from = t.only i w.0 w.1.0 in
              let parts = missing_parts fresh (set_at c.filters w.0.filter) (set_at sets' k) x w.1.2 in
              let there : In sets' w.0.from x = subst (λ n. In sets' n x) (sym from.1) (settled_takes sets news sets' mid i fresh s x parts.0) in
              subst (λ n. Reaches c n x) w.1.1 (passed w.0 x from.0 (sound w.0.from x there) parts.1)
        ]
      ];
      apart = λ k x e. elim (p.only k x e) [
        | inl m ↦
            let left = left_of_news sets news sets' mid i fresh s k x m in
            ap (λ l. has l x) (s.others k left.1) ∙ v.apart k x left.0
        | inr w ↦ (missing_parts fresh (set_at c.filters w.0.filter) (set_at sets' k) x w.1.2).2
      ];
      base = λ k x one. knows k x (v.base k x one);
      copies = λ j x one e f. elim (in_settled sets news sets' mid i fresh s j.from x e) [
        | inl old ↦ knows j.to x (v.copies j x one old f)
        | inr new ↦ elim (cases_Bool (is_in sets' j.to x)) [
          | inl there ↦ inl there
          | inr lacks ↦ inr (p.every j x (subst (λ n. Contains (out_at out n) j) new.0 (t.listed j one)) (missing_has fresh (set_at c.filters j.filter) (set_at sets' j.to) x new.1 f lacks))
        ]
      ];
    }

-- ---- the whole of a step

-- nothing was fresh, so nothing is passed on
pub spreads_nothing : (sets filters : List (List ℕ)) (out : List Inclusion) (fresh : List ℕ) (news : List (List ℕ)) (queue : List ℕ) → fresh ≡ [] → Spreads sets filters out fresh news queue news queue
spreads_nothing sets filters out fresh news queue none = subst (λ f. Spreads sets filters out f news queue news queue) (sym none) record {
  news_len = refl;
  stays = λ k x e. e;
  only = λ k x e. inl e;
  every = λ j x one p. absurd (both_ways _ refl p);
  queue_stays = λ k e. e;
  queued = λ k x e. inl (x, e);
  inside = λ k e. inl e;
}

progress_by : (sets sets' : List (List ℕ)) (queue queue' fresh : List ℕ) → room sets' + length fresh ≡ room sets → (length fresh ≡ 0 → queue' ≡ queue) → Progress sets sets' queue queue'
progress_by sets sets' queue queue' fresh e f = elim (cases_eq (length fresh) 0) [
  | inl none ↦ inr (omega (arith, e, none), f none)
  | inr some ↦ inl (omega (arith, e, some))
]

pub steps_by : (s : System) (i : ℕ) (w mid w' : Work) (fresh : List ℕ) → IsConsistent s w → i < s.sets → Settles i w mid fresh
    → w'.sets.items ≡ mid.sets.items
    → w'.pairs ≡ mid.pairs
    → Spreads mid.sets.items s.filters (out_at s.out.items i) fresh mid.news.items mid.queue.items w'.news.items w'.queue.items
    → (length fresh ≡ 0 → w'.queue.items ≡ w.queue.items)
    → Steps s i w w'
steps_by s i w mid w' fresh ok lt t sets_are pairs_are p idle =
    let v : Inv (constraints_of s) w.sets.items w.news.items = ok.inv in
    let in_sets : i < length w.sets.items = omega (arith, lt, v.sets_len) in
    let in_news : i < length w.news.items = omega (arith, lt, v.news_len) in
    let both : List ℕ = union_of (set_at w.sets.items i) fresh in
    let longer : length both ≡ length (set_at w.sets.items i) + length fresh =
    length-union_of (set_at w.sets.items i) fresh t.ascending (λ x h. v.apart i x (sym (t.same x) ∙ h)) in
    let one = settled w.sets.items w.news.items mid.sets.items mid.news.items i fresh in_sets in_news t.same t.sets t.news in
    let rows : length mid.sets.items ≡ length w.sets.items = ap length t.sets ∙ length-set w.sets.items i both in
    let asc : IsAscending (set_at mid.sets.items i) = subst (λ l. IsAscending l) (sym one.here) (IsAscending-union_of (set_at w.sets.items i) fresh (v.ascending i)) in
    let inv : Inv (constraints_of s) mid.sets.items w'.news.items =
    step_inv (constraints_of s) s.out.items i w.sets.items w.news.items mid.sets.items mid.news.items w'.news.items fresh mid.queue.items w'.queue.items
    ok.tables v rows (ap length t.news ∙ length-set w.news.items i []) asc one p in
    let sum : pair_count mid.sets.items ≡ pair_count w.sets.items + length fresh = ap pair_count t.sets ∙ pairs_set w.sets.items i both (length fresh) in_sets longer in
    let left : room mid.sets.items + length fresh ≡ room w.sets.items = ap (λ z. room z + length fresh) t.sets ∙ room_set w.sets.items i both (length fresh) in_sets longer t.fits in
    record {
      consistent = record {
        tables = ok.tables;
        inv = subst (λ z. Inv (constraints_of s) z w'.news.items) (sym sets_are) inv;
        pairs = pairs_are ∙ t.pairs ∙ ap (λ n. n + length fresh) ok.pairs ∙ sym sum ∙ ap pair_count (sym sets_are);
      };
      queue_stays = λ k e. p.queue_stays k (ap (λ q. has q k) t.queue ∙ e);
      queued = λ k x e. elim (p.queued k x e) [
        | inl m ↦ (let left = left_of_news w.sets.items w.news.items mid.sets.items mid.news.items i fresh one k m.0 m.1 in inl (m.0, (left.0, left.1)))
        | inr q ↦ inr q
      ];
      inside = λ k e. elim (p.inside k e) [
        | inl q ↦ inl (sym (ap (λ q. has q k) t.queue) ∙ q)
        | inr l ↦ inr (omega (arith, l, ap length t.news, length-set w.news.items i [], v.news_len))
      ];
      progress = progress_by w.sets.items w'.sets.items w.queue.items w'.queue.items fresh (ap (λ z. room z + length fresh) sets_are ∙ left) idle;
    }
