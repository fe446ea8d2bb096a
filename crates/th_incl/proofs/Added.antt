-- An addition keeps what holds between runs.
use Rattle.std.proofs.Common.{◌≡◌, ◌≢◌, ℕ, ◌<◌, ◌+◌, zero, suc, true, false, List, [], ◌∷◌, ◌++◌, inl, inr, length, get_or, replicate, set, refl, sym, ap, ◌∙◌, subst, arith, get_or-set_other, get_or-set_same}
use Rattle.std.specs.List.{Contains}
use Rattle.std.proofs.lemmas.Bool.{cases_eq, cases_Bool, both_ways, eqb-true, eq-eqb}
use Rattle.std.proofs.lemmas.List.{length-set, length-append, length-replicate}
use Rattle.std.proofs.lemmas.List.Sums.{sum_by-append}
use Rattle.std.proofs.lemmas.List.Folds.{sum_by-replicate}
use Rattle.std.proofs.lemmas.List.Elements.{Contains-append_left, Contains-push, Contains-push_cases}
use Rattle.th_base.specs.IdSet.{has, IsAscending}
use Rattle.th_incl.specs.Least.{set_at, is_in, In, Reaches, given, passed, IsInRange, pair_count}
use Rattle.th_incl.specs.Parts.{missing, lacking}
use Rattle.th_incl.specs.Run.{Known, Inv, Tables, out_at, Queued, Receives}
use Rattle.th_incl.specs.declared.constraints.Inclusion.{Inclusion}
use Rattle.th_incl.specs.declared.constraints.Constraints.{Constraints}
use Rattle.th_incl.proofs.Members.{has_one}
use Rattle.th_incl.proofs.Through.{nothing_in_none, received_cases, received_stays, received_has, received_queued}
use Rattle.th_incl.proofs.Steps.{missing_parts, missing_has}

-- the constraints with one more
abbrev pub more_base : Constraints → ℕ → ℕ → Constraints
more_base c i x = record c { base = c.base ++ (i, x) ∷ [] }

abbrev pub more_copy : Constraints → Inclusion → Constraints
more_copy c j = record c { copies = c.copies ++ j ∷ [] }

abbrev pub more_sets : Constraints → ℕ → Constraints
more_sets c n = record c { sets = c.sets + n }

-- what reaches a set still does with more constraints
reaches_more : (c d : Constraints) → ((p : ℕ × ℕ) → Contains c.base p → Contains d.base p) → ((j : Inclusion) → Contains c.copies j → Contains d.copies j)
    → d.filters ≡ c.filters → (i x : ℕ) → Reaches c i x → Reaches d i x
reaches_more c d b k f _ _ (given i x one) = given i x (b (i, x) one)
reaches_more c d b k f _ _ (passed j x one r p) = passed j x (k j one) (reaches_more c d b k f j.from x r) (subst (λ s. In s j.filter x) (sym f) p)

knows_more : (sets news news' : List (List ℕ)) → ((k x : ℕ) → In news k x → In news' k x) → (k x : ℕ) → Known sets news k x → Known sets news' k x
knows_more sets news news' stays k x (inl e) = inl e
knows_more sets news news' stays k x (inr e) = inr (stays k x e)

-- ---- a base pair

lacking_parts : (y : ℕ) (target : List ℕ) (x : ℕ) → has (lacking (y ∷ []) target) x ≡ true → (y ≡ x) × (has target x ≡ false)
lacking_parts y target x h = elim (cases_Bool (has target y)) [
  | inl there ↦ absurd (both_ways _ refl (rw there at h))
  | inr absent ↦
      let same : y ≡ x = eqb-true y x (sym (has_one y x) ∙ (rw absent at h)) in
      (same, subst (λ z. has target z ≡ false) same absent)
]

lacking_has : (y : ℕ) (target : List ℕ) → has target y ≡ false → has (lacking (y ∷ []) target) y ≡ true
lacking_has y target absent = rw absent (has_one y y ∙ eq-eqb y y refl)

pub base_inv : (c : Constraints) (i x : ℕ) (sets news news' : List (List ℕ)) (queue queue' : List ℕ) → Receives i (lacking (x ∷ []) (set_at sets i)) news queue news' queue'
    → Inv c sets news → Inv (more_base c i x) sets news'
base_inv c i x sets news news' queue queue' r v =
    let ids : List ℕ = lacking (x ∷ []) (set_at sets i) in
    let more : (k y : ℕ) → Reaches c k y → Reaches (more_base c i x) k y =
    reaches_more c (more_base c i x) (λ p one. Contains-append_left c.base ((i, x) ∷ []) p one) (λ j one. one) refl in
    let knows : (k y : ℕ) → Known sets news k y → Known sets news' k y = knows_more sets news news' (received_stays i ids news news' queue queue' r) in
    record {
      sets_len = v.sets_len;
      news_len = r.news_len ∙ v.news_len;
      ascending = v.ascending;
      sound = λ k y h. elim h [
        | inl e ↦ more k y (v.sound k y (inl e))
        | inr e ↦ elim (received_cases i ids news news' queue queue' r k y e) [
          | inl old ↦ more k y (v.sound k y (inr old))
          | inr new ↦
              let parts = lacking_parts x (set_at sets i) y new.1 in
              subst (λ n. Reaches (more_base c i x) n y) new.0 (subst (λ z. Reaches (more_base c i x) i z) parts.0 (given i x (Contains-push c.base (i, x))))
        ]
      ];
      apart = λ k y e. elim (received_cases i ids news news' queue queue' r k y e) [
        | inl old ↦ v.apart k y old
        | inr new ↦ subst (λ n. is_in sets n y ≡ false) new.0 (lacking_parts x (set_at sets i) y new.1).1
      ];
      base = λ k y one. elim (Contains-push_cases c.base (i, x) (k, y) one) [
        | inl old ↦ knows k y (v.base k y old)
        | inr same ↦ subst (λ p. Known sets news' p.0 p.1) same (elim (cases_Bool (is_in sets i x)) [
          | inl there ↦ inl there
          | inr absent ↦ inr (received_has i ids news news' queue queue' r x (lacking_has x (set_at sets i) absent))
        ])
      ];
      copies = λ j y one e f. knows j.to y (v.copies j y one e f);
    }

pub base_range : (c : Constraints) (i x : ℕ) → i < c.sets → IsInRange c → IsInRange (more_base c i x)
base_range c i x lt r = record {
  base = λ k y one. elim (Contains-push_cases c.base (i, x) (k, y) one) [
    | inl old ↦ r.base k y old
    | inr same ↦ subst (λ p. p.0 < c.sets) same lt
  ];
  copies = r.copies;
}

pub base_tables : (c : Constraints) (i x : ℕ) (out : List (List Inclusion)) → i < c.sets → Tables c out → Tables (more_base c i x) out
base_tables c i x out lt t = record {
  out_len = t.out_len;
  listed = t.listed;
  only = t.only;
  range = base_range c i x lt t.range;
}

pub received_in_queue : (n i : ℕ) (ids : List ℕ) (news news' : List (List ℕ)) (queue queue' : List ℕ) → i < n → Receives i ids news queue news' queue'
    → Queued n news queue [] → Queued n news' queue' []
received_in_queue n i ids news news' queue queue' lt r q = record {
  all = λ k x e. elim (received_queued i ids news news' queue queue' r k x e) [
    | inl o ↦ elim (q.all k o.0 o.1) [ inl a ↦ inl (r.queue_stays k a) | inr b ↦ inr b ]
    | inr a ↦ inl a
  ];
  inside = λ k e. elim (r.inside k e) [ inl o ↦ q.inside k o | inr same ↦ subst (λ n'. n' < n) same lt ];
}

-- ---- an inclusion

pub copy_inv : (c : Constraints) (j : Inclusion) (sets news news' : List (List ℕ)) (queue queue' : List ℕ)
    → Receives j.to (missing (set_at sets j.from) (set_at c.filters j.filter) (set_at sets j.to)) news queue news' queue' → Inv c sets news → Inv (more_copy c j) sets news'
copy_inv c j sets news news' queue queue' r v =
    let ids : List ℕ = missing (set_at sets j.from) (set_at c.filters j.filter) (set_at sets j.to) in
    let more : (k y : ℕ) → Reaches c k y → Reaches (more_copy c j) k y =
    reaches_more c (more_copy c j) (λ p one. one) (λ i one. Contains-append_left c.copies (j ∷ []) i one) refl in
    let knows : (k y : ℕ) → Known sets news k y → Known sets news' k y = knows_more sets news news' (received_stays j.to ids news news' queue queue' r) in
    record {
      sets_len = v.sets_len;
      news_len = r.news_len ∙ v.news_len;
      ascending = v.ascending;
      sound = λ k y h. elim h [
        | inl e ↦ more k y (v.sound k y (inl e))
        | inr e ↦ elim (received_cases j.to ids news news' queue queue' r k y e) [
          | inl old ↦ more k y (v.sound k y (inr old))
          | inr new ↦
              let parts = missing_parts (set_at sets j.from) (set_at c.filters j.filter) (set_at sets j.to) y new.1 in
              subst (λ n. Reaches (more_copy c j) n y) new.0 (passed j y (Contains-push c.copies j) (more j.from y (v.sound j.from y (inl parts.0))) parts.1)
        ]
      ];
      apart = λ k y e. elim (received_cases j.to ids news news' queue queue' r k y e) [
        | inl old ↦ v.apart k y old
        | inr new ↦ subst (λ n. is_in sets n y ≡ false) new.0 (missing_parts (set_at sets j.from) (set_at c.filters j.filter) (set_at sets j.to) y new.1).2
      ];
      base = λ k y one. knows k y (v.base k y one);
      copies = λ i y one e f. elim (Contains-push_cases c.copies j i one) [
        | inl old ↦ knows i.to y (v.copies i y old e f)
        | inr same ↦ subst (λ i. In sets i.from y → In c.filters i.filter y → Known sets news' i.to y) same (λ e f. elim (cases_Bool (is_in sets j.to y)) [
          | inl there ↦ inl there
          | inr absent ↦ inr (received_has j.to ids news news' queue queue' r y (missing_has (set_at sets j.from) (set_at c.filters j.filter) (set_at sets j.to) y e f absent))
        ]) e f
      ];
    }

pub copy_range : (c : Constraints) (j : Inclusion) → j.from < c.sets → j.to < c.sets → j.filter < length c.filters → IsInRange c → IsInRange (more_copy c j)
copy_range c j from to filter r = record {
  base = r.base;
  copies = λ i one. elim (Contains-push_cases c.copies j i one) [
    | inl old ↦ r.copies i old
    | inr same ↦ subst (λ i. (i.from < c.sets) × (i.to < c.sets) × (i.filter < length c.filters)) same (from, to, filter)
  ];
}

pub copy_tables : (c : Constraints) (j : Inclusion) (out : List (List Inclusion)) → j.from < c.sets → j.to < c.sets → j.filter < length c.filters → Tables c out
    → Tables (more_copy c j) (set out j.from (out_at out j.from ++ j ∷ []))
copy_tables c j out from to filter t =
    let row : List Inclusion = out_at out j.from ++ j ∷ [] in
    let here : out_at (set out j.from row) j.from ≡ row = get_or-set_same out j.from row [] (omega (arith, from, t.out_len)) in
    let others : (k : ℕ) → k ≢ j.from → out_at (set out j.from row) k ≡ out_at out k = λ k ne. get_or-set_other out j.from k row [] ne in
    record {
      out_len = length-set out j.from row ∙ t.out_len;
      listed = λ i one. elim (Contains-push_cases c.copies j i one) [
        | inl old ↦ elim (cases_eq i.from j.from) [
          | inl same ↦
              subst (λ n. Contains (out_at (set out j.from row) n) i) (sym same)
              (subst (λ l. Contains l i) (sym here) (Contains-append_left (out_at out j.from) (j ∷ []) i (subst (λ n. Contains (out_at out n) i) same (t.listed i old))))
          | inr ne ↦ subst (λ l. Contains l i) (sym (others i.from ne)) (t.listed i old)
        ]
        | inr same ↦ subst (λ i. Contains (out_at (set out j.from row) i.from) i) same (subst (λ l. Contains l j) (sym here) (Contains-push (out_at out j.from) j))
      ];
      only = λ k i one. elim (cases_eq k j.from) [
        | inl same ↦ elim (Contains-push_cases (out_at out j.from) j i (subst (λ l. Contains l i) here (subst (λ n. Contains (out_at (set out j.from row) n) i) same one))) [
          | inl old ↦ (let w = t.only j.from i old in (Contains-append_left c.copies (j ∷ []) i w.0, w.1 ∙ sym same))
          | inr new ↦ (subst (λ z. Contains (c.copies ++ j ∷ []) z) new (Contains-push c.copies j), sym (ap (λ z. z.from) new) ∙ sym same)
        ]
        | inr ne ↦ (let w = t.only k i (subst (λ l. Contains l i) (others k ne) one) in (Contains-append_left c.copies (j ∷ []) i w.0, w.1))
      ];
      range = copy_range c j from to filter t.range;
    }

-- ---- more sets

-- past the end a row is empty, and so are the rows that are new
grown_at : {X : Type 0} → (rows : List (List X)) (n k : ℕ) → get_or (rows ++ replicate n []) k [] ≡ get_or rows k []
grown_at [] zero k = refl
grown_at [] (suc n) zero = refl
grown_at [] (suc n) (suc k) = grown_at [] n k
grown_at (r ∷ rs) n zero = refl
grown_at (r ∷ rs) n (suc k) = grown_at rs n k

pub grown_length : {X : Type 0} → (rows : List (List X)) (n : ℕ) → length (rows ++ replicate n []) ≡ length rows + n
grown_length rows n = length-append rows (replicate n []) ∙ ap (λ m. length rows + m) (length-replicate n [])

grown_in : (rows : List (List ℕ)) (n k x : ℕ) → is_in (rows ++ replicate n []) k x ≡ is_in rows k x
grown_in rows n k x = ap (λ l. has l x) (grown_at rows n k)

grown_known : (sets news : List (List ℕ)) (n k x : ℕ) → Known sets news k x → Known (sets ++ replicate n []) (news ++ replicate n []) k x
grown_known sets news n k x (inl e) = inl (grown_in sets n k x ∙ e)
grown_known sets news n k x (inr e) = inr (grown_in news n k x ∙ e)

pub grown_inv : (c : Constraints) (n : ℕ) (sets news : List (List ℕ)) → Inv c sets news → Inv (more_sets c n) (sets ++ replicate n []) (news ++ replicate n [])
grown_inv c n sets news v =
    let more : (k y : ℕ) → Reaches c k y → Reaches (more_sets c n) k y = reaches_more c (more_sets c n) (λ p one. one) (λ j one. one) refl in
    record {
      sets_len = grown_length sets n ∙ ap (λ m. m + n) v.sets_len;
      news_len = grown_length news n ∙ ap (λ m. m + n) v.news_len;
      ascending = λ k. subst (λ l. IsAscending l) (sym (grown_at sets n k)) (v.ascending k);
      sound = λ k x h. more k x (elim h [
        | inl e ↦ v.sound k x (inl (sym (grown_in sets n k x) ∙ e))
        | inr e ↦ v.sound k x (inr (sym (grown_in news n k x) ∙ e))
      ]);
      apart = λ k x e. grown_in sets n k x ∙ v.apart k x (sym (grown_in news n k x) ∙ e);
      base = λ k x one. grown_known sets news n k x (v.base k x one);
      copies = λ j x one e f. grown_known sets news n j.to x (v.copies j x one (sym (grown_in sets n j.from x) ∙ e) f);
    }

pub grown_tables : (c : Constraints) (n : ℕ) (out : List (List Inclusion)) → Tables c out → Tables (more_sets c n) (out ++ replicate n [])
grown_tables c n out t = record {
  out_len = grown_length out n ∙ ap (λ m. m + n) t.out_len;
  listed = λ j one. subst (λ l. Contains l j) (sym (grown_at out n j.from)) (t.listed j one);
  only = λ i j one. t.only i j (subst (λ l. Contains l j) (grown_at out n i) one);
  range = record {
    base = λ i x one. let lt = t.range.base i x one in omega (arith, lt);
    copies = λ j one. let w = t.range.copies j one in (omega (arith, w.0), omega (arith, w.1), w.2);
  };
}

pub grown_queued : (m n : ℕ) (news : List (List ℕ)) (queue : List ℕ) → Queued m news queue [] → Queued (m + n) (news ++ replicate n []) queue []
grown_queued m n news queue q = record {
  all = λ k x e. q.all k x (sym (grown_in news n k x) ∙ e);
  inside = λ k e. let lt = q.inside k e in omega (arith, lt);
}

pub grown_pairs : (sets : List (List ℕ)) (n : ℕ) → pair_count (sets ++ replicate n []) ≡ pair_count sets
grown_pairs sets n = omega (arith, sum_by-append (length {A = ℕ}) sets (replicate n []), sum_by-replicate (length {A = ℕ}) n [])

-- ---- nothing yet

nothing_known : (i x : ℕ) → Known [] [] i x → ⊥
nothing_known i x (inl e) = both_ways _ refl e
nothing_known i x (inr e) = both_ways _ refl e

pub opening_inv : (filters : List (List ℕ)) → Inv record { sets = 0; base = []; copies = []; filters = filters } [] []
opening_inv filters = record {
  sets_len = refl;
  news_len = refl;
  ascending = λ k. tt;
  sound = λ i x h. absurd (nothing_known i x h);
  apart = λ i x e. refl;
  base = λ i x one. absurd (nothing_in_none (i, x) one);
  copies = λ j x one e f. absurd (nothing_in_none j one);
}

pub opening_tables : (filters : List (List ℕ)) → Tables record { sets = 0; base = []; copies = []; filters = filters } []
opening_tables filters = record {
  out_len = refl;
  listed = λ j one. absurd (nothing_in_none j one);
  only = λ i j one. absurd (nothing_in_none j one);
  range = record {
    base = λ i x one. absurd (nothing_in_none (i, x) one);
    copies = λ j one. absurd (nothing_in_none j one);
  };
}

pub opening_queued : Queued 0 [] [] []
opening_queued = record { all = λ k x e. absurd (both_ways _ refl e); inside = λ k e. absurd (both_ways _ refl e) }
