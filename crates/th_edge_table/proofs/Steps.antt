-- Each kind of event keeps the counted facts.
use Rattle.std.proofs.Common.{◌≡◌, ℕ, suc, ◌+◌, ◌<◌, ◌≤◌, ◌≢◌, ◌==◌, Bool, true, false, cond, List, [], ◌∷◌, ◌++◌, length, set, sym, refl, ap, ◌∙◌, subst, ⊎_elim, arith, length-append, Some, None}
use Rattle.std.proofs.lemmas.List.Sums.{sum_by_push}
use Rattle.std.proofs.lemmas.List.Elements.{Contains-append_cases}
use mathlib.Core.Logic.{dite}
use mathlib.Core.Option.{some}
use native.Mathlib.Decide.{ℕ_discrete}
use lib.ListN.{get_elem?}
use Rattle.atomic_table.proofs.Lists.{at_set, at_snoc, set_else}
use Rattle.th_base.specs.declared.number.EdgeId.{EdgeId}
use Rattle.th_edge_table.specs.declared.word.Verdict.{Verdict}
use Rattle.th_edge_table.specs.declared.word.Word.{Word}
use Rattle.th_edge_table.specs.declared.word.Word.TheVariants.{Free, Claimed, Decided}
use Rattle.th_edge_table.specs.declared.state.CoreSeat.{CoreSeat}
use Rattle.th_edge_table.specs.Core.{newcomer, saw, got, claimed, claim_word, published, parted, joined}
use Rattle.th_edge_table.specs.Facts.{times, Outlives, live_part}
use Rattle.th_edge_table.proofs.Lists.{sum_set, at_le_sum, contains_snoc, times_push, times_append, counts_same, counts_other, one_if}
use Rattle.th_edge_table.proofs.Counts.{flies, flights, dones, claims, decides, Own, Counted}

pub outlives_same : (x : Word) → Outlives x x
outlives_same Free = tt
outlives_same Claimed = λ e. absurd (cc)
outlives_same (Decided d) = refl

pub outlives_more : (x y z : Word) → Outlives x y → Outlives y z → Outlives x z
outlives_more Free y z a b = tt
outlives_more Claimed Free z a b = absurd (a refl)
outlives_more Claimed Claimed z a b = b
outlives_more Claimed (Decided d) z a b = λ e. let q : Decided d ≡ Free = sym b ∙ e in absurd (cc)
outlives_more (Decided d) y z a b = let P : Word → Type 0 = λ u. Outlives u z in subst P a b

-- a seat that has not ended counts
pub counts : (b : Bool) (n : ℕ) → b ≡ false → cond b 0 n ≡ n
counts b n e = ap (λ (x : Bool). cond x 0 n) e

-- and one that has ended does not
gone : (b : Bool) (n : ℕ) → b ≡ true → cond b 0 n ≡ 0
gone b n e = ap (λ (x : Bool). cond x 0 n) e

own_later : (w w' : ℕ → Word) (v : CoreSeat) → ((e : ℕ) → Outlives (w e) (w' e)) → Own w v → Own w' v
own_later w w' v later o = record {
  done = λ e d h. let P : Word → Type 0 = λ u. Outlives u (w' e.0) in subst P (o.done e d h) (later e.0);
  seen = λ e x h. outlives_more x (w e.0) (w' e.0) (o.seen e x h) (later e.0);
  taken = o.taken;
  lengths = o.lengths;
  part = o.part;
}

-- one seat changes, and the words
pub turns : (w w' : ℕ → Word) (m n : ℕ) (seats : List CoreSeat) (i : ℕ) (v v' : CoreSeat) → Counted w m seats → get_elem? seats i ≡ some v → v.ended ≡ false → v'.ended ≡ false
    → ((e : ℕ) → Outlives (w e) (w' e))
    → ((e : EdgeId) → flies e v'.in_flight + claims (w e.0) ≡ flies e v.in_flight + claims (w' e.0))
    → ((e : EdgeId) → times e v'.done + decides (w e.0) ≡ times e v.done + decides (w' e.0))
    → v'.part + m ≡ v.part + n
    → Own w' v'
    → Counted w' n (set seats i v')
turns w w' m n seats i v v' c at is is' later flew did parts mine = record {
  claimed = λ e. let s = sum_set (flights e) seats i v v' at in let a = counts v.ended (flies e v.in_flight) is in let b = counts v'.ended (flies e v'.in_flight) is' in let k = c.claimed e in let f = flew e in omega arith;
  decided = λ e. let s = sum_set (dones e) seats i v v' at in let a = counts v.ended (times e v.done) is in let b = counts v'.ended (times e v'.done) is' in let k = c.decided e in let f = did e in omega arith;
  each = λ j u there. ⊎_elim
      (λ (x : (j ≡ i) × (v' ≡ u)). subst (Own w') x.1 mine)
      (λ (x : (j ≢ i) × (get_elem? seats j ≡ some u)). own_later w w' u later (c.each j u (x.1, there.1)))
      (at_set seats i j v' u there.0);
  parts = let s = sum_set live_part seats i v v' at in let a = counts v.ended v.part is in let b = counts v'.ended v'.part is' in let k = c.parts in omega arith;
}

-- a seat sees the word that is there
own_saw : (w : ℕ → Word) (v : CoreSeat) (e : EdgeId) → Own w v → Own w (saw e (w e.0) v)
own_saw w v e o = record {
  done = o.done;
  seen = λ f x h. ⊎_elim (λ a. o.seen f x a)
      (λ (q : (e, w e.0) ≡ (f, x)). let P : EdgeId × Word → Type 0 = λ y. Outlives y.1 (w y.0.0) in subst P q (outlives_same (w e.0)))
      (contains_snoc v.seen (e, w e.0) (f, x) h);
  taken = o.taken;
  lengths = λ f k h. let a = o.lengths f k h in let b = length-append v.seen ((e, w e.0) ∷ []) in omega arith;
  part = o.part;
}

own_at : (w : ℕ → Word) (m : ℕ) (seats : List CoreSeat) (i : ℕ) (v : CoreSeat) → Counted w m seats → get_elem? seats i ≡ some v → v.ended ≡ false → Own w v
own_at w m seats i v c at is = c.each i v (at, is)

pub looks : (w w' : ℕ → Word) (m : ℕ) (seats : List CoreSeat) (i : ℕ) (v : CoreSeat) (e : EdgeId) → Counted w m seats → get_elem? seats i ≡ some v → v.ended ≡ false
    → ((f : ℕ) → w' f ≡ w f) → Counted w' m (set seats i (saw e (w e.0) v))
looks w w' m seats i v e c at is same =
    let o = own_at w m seats i v c at is in
    let later : (f : ℕ) → Outlives (w f) (w' f) = λ f. subst (Outlives (w f)) (sym (same f)) (outlives_same (w f)) in
    turns w w' m m seats i v (saw e (w e.0) v) c at is is later
    (λ f. ap (λ x. flies f v.in_flight + claims x) (sym (same f.0)))
    (λ f. ap (λ x. times f v.done + decides x) (sym (same f.0)))
    refl
    (own_later w w' (saw e (w e.0) v) later (own_saw w v e o))

later_at : (w w' : ℕ → Word) (e : ℕ) → Outlives (w e) (w' e) → ((f : ℕ) → f ≢ e → w' f ≡ w f) → (f : ℕ) → Outlives (w f) (w' f)
later_at w w' e here else f = dite (ℕ_discrete f e)
    (λ q. let P : ℕ → Type 0 = λ g. Outlives (w g) (w' g) in subst P (sym q) here)
    (λ q. subst (Outlives (w f)) (sym (else f q)) (outlives_same (w f)))

gets : (w w' : ℕ → Word) (m : ℕ) (seats : List CoreSeat) (i : ℕ) (v : CoreSeat) (e : EdgeId) → Counted w m seats → get_elem? seats i ≡ some v → v.ended ≡ false → v.in_flight ≡ None
    → w e.0 ≡ Free → w' e.0 ≡ Claimed → ((f : ℕ) → f ≢ e.0 → w' f ≡ w f) → Counted w' m (set seats i (got e v))
gets w w' m seats i v e c at is none was now else =
    let o = own_at w m seats i v c at is in
    let later = later_at w w' e.0 (let P : Word → Type 0 = λ x. Outlives x (w' e.0) in subst P (sym was) tt) else in
    let none_flies : (f : EdgeId) → flies f v.in_flight ≡ 0 = λ f. ap (flies f) none in
    turns w w' m m seats i v (got e v) c at is is later
    (λ f. let z = none_flies f in dite (ℕ_discrete f.0 e.0)
    (λ q. let a : claims (w f.0) ≡ 0 = ap (λ g. claims (w g)) q ∙ ap claims was in let b : claims (w' f.0) ≡ 1 = ap (λ g. claims (w' g)) q ∙ ap claims now in let k = counts_same e.0 f.0 (sym q) in omega arith)
    (λ q. let a : claims (w' f.0) ≡ claims (w f.0) = ap claims (else f.0 q) in let k = counts_other e.0 f.0 (λ r. q (sym r)) in omega arith))
    (λ f. dite (ℕ_discrete f.0 e.0)
    (λ q. let a : decides (w f.0) ≡ 0 = ap (λ g. decides (w g)) q ∙ ap decides was in let b : decides (w' f.0) ≡ 0 = ap (λ g. decides (w' g)) q ∙ ap decides now in omega arith)
    (λ q. ap (λ x. times f v.done + decides x) (sym (else f.0 q))))
    refl
    record {
      done = λ f d h. let P : Word → Type 0 = λ u. Outlives u (w' f.0) in subst P (o.done f d h) (later f.0);
      seen = λ f x h. outlives_more x (w f.0) (w' f.0) (o.seen f x h) (later f.0);
      taken = λ f. let a = o.taken f in let z = none_flies f in let p = times_push f v.taken e (length v.seen) in omega arith;
      lengths = λ f k h. ⊎_elim (λ a. o.lengths f k a) (λ (q : (e, length v.seen) ≡ (f, k)). let r : length v.seen ≡ k = ap (λ (y : EdgeId × ℕ). y.1) q in omega arith) (contains_snoc v.taken (e, length v.seen) (f, k) h);
      part = o.part;
    }

pub claims_it : (w w' : ℕ → Word) (m : ℕ) (seats : List CoreSeat) (i : ℕ) (v : CoreSeat) (e : EdgeId) → Counted w m seats → get_elem? seats i ≡ some v → v.ended ≡ false → v.in_flight ≡ None
    → (x : Word) → w e.0 ≡ x → w' e.0 ≡ claim_word x → ((f : ℕ) → f ≢ e.0 → w' f ≡ w f) → Counted w' m (set seats i (claimed e x v))
claims_it w w' m seats i v e c at is none Free was now else = gets w w' m seats i v e c at is none was now else
claims_it w w' m seats i v e c at is none Claimed was now else =
    subst (λ x. Counted w' m (set seats i (saw e x v))) was (looks w w' m seats i v e c at is (λ f. dite (ℕ_discrete f e.0) (λ q. ap w' q ∙ now ∙ sym was ∙ ap w (sym q)) (else f)))
claims_it w w' m seats i v e c at is none (Decided d) was now else =
    subst (λ x. Counted w' m (set seats i (saw e x v))) was (looks w w' m seats i v e c at is (λ f. dite (ℕ_discrete f e.0) (λ q. ap w' q ∙ now ∙ sym was ∙ ap w (sym q)) (else f)))

claimed_word : (x : Word) → 0 < claims x → x ≡ Claimed
claimed_word Free h = absurd (omega arith)
claimed_word Claimed h = refl
claimed_word (Decided d) h = absurd (omega arith)

pub flown : (w : ℕ → Word) (m : ℕ) (seats : List CoreSeat) (i : ℕ) (v : CoreSeat) (e : EdgeId) → Counted w m seats → get_elem? seats i ≡ some v → v.ended ≡ false → v.in_flight ≡ Some e → w e.0 ≡ Claimed
flown w m seats i v e c at is flies_e =
    let one : flies e v.in_flight ≡ 1 = ap (flies e) flies_e ∙ counts_same e.0 e.0 refl in
    let a = counts v.ended (flies e v.in_flight) is in
    let s = at_le_sum (flights e) seats i v at in
    let k = c.claimed e in claimed_word (w e.0) (omega arith)

pub publishes : (w w' : ℕ → Word) (m : ℕ) (seats : List CoreSeat) (i : ℕ) (v : CoreSeat) (e : EdgeId) (d : Verdict) → Counted w m seats → get_elem? seats i ≡ some v → v.ended ≡ false → v.in_flight ≡ Some e
    → w' e.0 ≡ Decided d → ((f : ℕ) → f ≢ e.0 → w' f ≡ w f) → Counted w' m (set seats i (published e d v))
publishes w w' m seats i v e d c at is up now else =
    let o = own_at w m seats i v c at is in
    let was = flown w m seats i v e c at is up in
    let here : Outlives (w e.0) (w' e.0) = let P : Word → Type 0 = λ x. Outlives x (w' e.0) in subst P (sym was) (λ z. let q : Decided d ≡ Free = sym now ∙ z in absurd (cc)) in
    let later = later_at w w' e.0 here else in
    let up_flies : (f : EdgeId) → flies f v.in_flight ≡ one_if (e.0 == f.0) = λ f. ap (flies f) up in
    turns w w' m m seats i v (published e d v) c at is is later
    (λ f. let z = up_flies f in dite (ℕ_discrete f.0 e.0)
    (λ q. let a : claims (w f.0) ≡ 1 = ap (λ g. claims (w g)) q ∙ ap claims was in let b : claims (w' f.0) ≡ 0 = ap (λ g. claims (w' g)) q ∙ ap claims now in let k = counts_same e.0 f.0 (sym q) in omega arith)
    (λ q. let a : claims (w' f.0) ≡ claims (w f.0) = ap claims (else f.0 q) in let k = counts_other e.0 f.0 (λ r. q (sym r)) in omega arith))
    (λ f. let p = times_push f v.done e d in dite (ℕ_discrete f.0 e.0)
    (λ q. let a : decides (w f.0) ≡ 0 = ap (λ g. decides (w g)) q ∙ ap decides was in let b : decides (w' f.0) ≡ 1 = ap (λ g. decides (w' g)) q ∙ ap decides now in let k = counts_same e.0 f.0 (sym q) in omega arith)
    (λ q. let a : decides (w' f.0) ≡ decides (w f.0) = ap decides (else f.0 q) in let k = counts_other e.0 f.0 (λ r. q (sym r)) in omega arith))
    refl
    record {
      done = λ f g h. ⊎_elim (λ a. let P : Word → Type 0 = λ u. Outlives u (w' f.0) in subst P (o.done f g a) (later f.0))
          (λ (q : (e, d) ≡ (f, g)). let P : EdgeId × Verdict → Type 0 = λ y. w' y.0.0 ≡ Decided y.1 in subst P q now)
          (contains_snoc v.done (e, d) (f, g) h);
      seen = λ f x h. outlives_more x (w f.0) (w' f.0) (o.seen f x h) (later f.0);
      taken = λ f. let a = o.taken f in let z = up_flies f in let p = times_push f v.done e d in omega arith;
      lengths = o.lengths;
      part = o.part;
    }

own_new : (w : ℕ → Word) → Own w (newcomer 1)
own_new w = record {
  done = λ e d h. absurd (omega (arith, h.1));
  seen = λ e x h. absurd (omega (arith, h.1));
  taken = λ e. omega arith;
  lengths = λ e k h. absurd (omega (arith, h.1));
  part = omega arith;
}

pub splits : (w : ℕ → Word) (m : ℕ) (seats : List CoreSeat) (i : ℕ) (v : CoreSeat) → Counted w (suc m) seats → get_elem? seats i ≡ some v → v.ended ≡ false → 2 ≤ v.part
    → Counted w (suc m) (set seats i (parted v) ++ newcomer 1 ∷ [])
splits w m seats i v c at is two =
    let o = own_at w (suc m) seats i v c at is in
    let t = turns w w (suc m) m seats i v (parted v) c at is is (λ f. outlives_same (w f)) (λ f. refl) (λ f. refl) (omega arith)
    record { done = o.done; seen = o.seen; taken = o.taken; lengths = o.lengths; part = omega arith } in
    let new = newcomer 1 in record {
      claimed = λ e. let s = sum_by_push (flights e) (set seats i (parted v)) new in let k = t.claimed e in omega arith;
      decided = λ e. let s = sum_by_push (dones e) (set seats i (parted v)) new in let k = t.decided e in omega arith;
      each = λ j u there. ⊎_elim (λ a. t.each j u (a, there.1)) (λ (q : new ≡ u). subst (Own w) q (own_new w)) (at_snoc (set seats i (parted v)) new u j there.0);
      parts = let s = sum_by_push live_part (set seats i (parted v)) new in let k = t.parts in omega arith;
    }

own_joined : (w : ℕ → Word) (v u : CoreSeat) → Own w v → Own w u → Own w (joined v u)
own_joined w v u o p = record {
  done = λ e d h. ⊎_elim (λ a. o.done e d a) (λ b. p.done e d b) (Contains-append_cases v.done u.done (e, d) h);
  seen = o.seen;
  taken = λ e. let a = o.taken e in let t = times_append e v.done u.done in omega arith;
  lengths = o.lengths;
  part = let a = o.part in omega arith;
}

-- x is whatever is left of the seat t
pub joins : (w : ℕ → Word) (m : ℕ) (seats : List CoreSeat) (i t : ℕ) (v u x : CoreSeat) → Counted w m seats → get_elem? seats i ≡ some v → v.ended ≡ false
    → t ≢ i → get_elem? seats t ≡ some u → u.ended ≡ false → u.in_flight ≡ None → x.ended ≡ true
    → Counted w m (set (set seats i (joined v u)) t x)
joins w m seats i t v u x c at is apart there is' none dead =
    let both = joined v u in
    let mid = set seats i both in
    let there' : get_elem? mid t ≡ some u = set_else seats i t both apart ∙ there in record {
      claimed = λ e. let s = sum_set (flights e) seats i v both at in let r = sum_set (flights e) mid t u x there' in let a = counts v.ended (flies e v.in_flight) is in
          let b = counts u.ended (flies e u.in_flight) is' in let z : flies e u.in_flight ≡ 0 = ap (flies e) none in let y = gone x.ended (flies e x.in_flight) dead in let k = c.claimed e in omega arith;
      decided = λ e. let s = sum_set (dones e) seats i v both at in let r = sum_set (dones e) mid t u x there' in let a = counts v.ended (times e v.done) is in let a' = counts v.ended (times e (v.done ++ u.done)) is in
          let b = counts u.ended (times e u.done) is' in let p = times_append e v.done u.done in let y = gone x.ended (times e x.done) dead in let k = c.decided e in omega arith;
      each = λ j y alive. ⊎_elim
          (λ (q : (j ≡ t) × (x ≡ y)). let z : true ≡ false = sym dead ∙ ap (λ (n : CoreSeat). n.ended) q.1 ∙ alive.1 in absurd (cc))
          (λ (q : (j ≢ t) × (get_elem? mid j ≡ some y)). ⊎_elim
          (λ (r : (j ≡ i) × (both ≡ y)). subst (Own w) r.1 (own_joined w v u (own_at w m seats i v c at is) (own_at w m seats t u c there is')))
          (λ (r : (j ≢ i) × (get_elem? seats j ≡ some y)). c.each j y (r.1, alive.1))
          (at_set seats i j both y q.1))
          (at_set mid t j x y alive.0);
      parts = let s = sum_set live_part seats i v both at in let r = sum_set live_part mid t u x there' in let a = counts v.ended v.part is in let a' = counts v.ended (v.part + u.part) is in
          let b = counts u.ended u.part is' in let y = gone x.ended x.part dead in let k = c.parts in omega arith;
    }
