-- The counted facts are the six facts.
use Rattle.th_edge_table.specs.declared.state.TheConstants.{PARTS}
use Rattle.std.proofs.Common.{◌≡◌, ℕ, ◌+◌, ◌<◌, ◌≤◌, ◌⊎◌, Bool, true, false, cond, List, sym, refl, ap, ◌∙◌, subst, inl, inr, arith, Option, Some, None}
use Rattle.std.specs.Prelude.{Contains}
use mathlib.Core.Logic.{dite}
use native.Mathlib.Decide.{ℕ_discrete}
use Rattle.th_base.specs.declared.number.EdgeId.{EdgeId}
use Rattle.th_edge_table.specs.declared.word.Verdict.{Verdict}
use Rattle.th_edge_table.specs.declared.word.Word.{Word}
use Rattle.th_edge_table.specs.declared.word.Word.TheVariants.{Free, Claimed, Decided}
use Rattle.th_edge_table.specs.declared.state.CoreSeat.{CoreSeat}
use Rattle.th_edge_table.specs.Facts.{times, Lives, SixFacts}
use Rattle.th_edge_table.proofs.Lists.{at_le_sum, two_le_sum, some_counts, contains_times, times_contains, counts_same, counts_other, edge_is}
use Rattle.th_edge_table.proofs.Counts.{flies, flights, dones, claims, decides, Own, Counted}
use Rattle.th_edge_table.proofs.Steps.{counts, flown}

pub up : (e : EdgeId) (o : Option EdgeId) → 0 < flies e o → o ≡ Some e
up e None h = absurd (omega arith)
up e (Some f) h = dite (ℕ_discrete f.0 e.0) (λ q. ap Some (edge_is f e q)) (λ q. let z = counts_other f.0 e.0 q in absurd (omega arith))

alive : (b : Bool) (n : ℕ) → 0 < cond b 0 n → (b ≡ false) × (0 < n)
alive true n h = absurd (omega arith)
alive false n h = (refl, h)

at_most : (x : Word) → claims x + decides x ≤ 1
at_most Free = omega arith
at_most Claimed = omega arith
at_most (Decided d) = omega arith

module _ (w : ℕ → Word) (seats : List CoreSeat) (c : Counted w PARTS seats) where
  few : (i : ℕ) (v : CoreSeat) (e : EdgeId) → Lives seats i v → flies e v.in_flight + times e v.done ≤ 1
  few i v e h =
      let a = at_le_sum (flights e) seats i v h.0 in let b = at_le_sum (dones e) seats i v h.0 in
      let p = counts v.ended (flies e v.in_flight) h.1 in let q = counts v.ended (times e v.done) h.1 in
      let k = c.claimed e in let l = c.decided e in let m = at_most (w e.0) in omega arith

  flying : (v : CoreSeat) (e : EdgeId) → v.in_flight ≡ Some e → flies e v.in_flight ≡ 1
  flying v e h = ap (flies e) h ∙ counts_same e.0 e.0 refl

  alone_flying : (i : ℕ) (v : CoreSeat) → Lives seats i v → (e : EdgeId) → v.in_flight ≡ Some e → (j : ℕ) (u : CoreSeat) → Lives seats j u → u.in_flight ≡ Some e → j ≡ i
  alone_flying i v h e f j u g k = dite (ℕ_discrete j i) (λ q. q) (λ q.
      let t = two_le_sum (flights e) seats j i u v g.0 h.0 q in
      let a = counts v.ended (flies e v.in_flight) h.1 in let b = counts u.ended (flies e u.in_flight) g.1 in
      let x = flying v e f in let y = flying u e k in let z = c.claimed e in let m = at_most (w e.0) in absurd (omega arith))

  alone_done : (i : ℕ) (v : CoreSeat) → Lives seats i v → (e : EdgeId) → 0 < times e v.done → (j : ℕ) (u : CoreSeat) → Lives seats j u → 0 < times e u.done → j ≡ i
  alone_done i v h e f j u g k = dite (ℕ_discrete j i) (λ q. q) (λ q.
      let t = two_le_sum (dones e) seats j i u v g.0 h.0 q in
      let a = counts v.ended (times e v.done) h.1 in let b = counts u.ended (times e u.done) g.1 in
      let z = c.decided e in let m = at_most (w e.0) in absurd (omega arith))

  claimed_by : (e : EdgeId) → w e.0 ≡ Claimed → (i : ℕ) × (v : CoreSeat) × Lives seats i v × (v.in_flight ≡ Some e)
  claimed_by e h =
      let one : claims (w e.0) ≡ 1 = ap claims h in let k = c.claimed e in
      let s = some_counts (flights e) seats (omega arith) in
      let a = alive s.1.ended (flies e s.1.in_flight) s.3 in (s.0, s.1, (s.2, a.0), up e s.1.in_flight a.1)

  decided_by : (e : EdgeId) (d : Verdict) → w e.0 ≡ Decided d → (i : ℕ) × (v : CoreSeat) × Lives seats i v × Contains v.done (e, d)
  decided_by e d h =
      let one : decides (w e.0) ≡ 1 = ap decides h in let k = c.decided e in
      let s = some_counts (dones e) seats (omega arith) in
      let a = alive s.1.ended (times e s.1.done) s.3 in
      let t = contains_times e s.1.done a.1 in
      let same : Decided t.0 ≡ Decided d = sym ((c.each s.0 s.1 (s.2, a.0)).done e t.0 t.1) ∙ h in
      let q : t.0 ≡ d = cc in
      (s.0, s.1, (s.2, a.0), subst (λ (x : Verdict). Contains s.1.done (e, x)) q t.1)

  taken_is : (v : CoreSeat) → Own w v → (e : EdgeId) (k : ℕ) → Contains v.taken (e, k) → (v.in_flight ≡ Some e) ⊎ ((d : Verdict) × Contains v.done (e, d))
  taken_is v o e k h =
      let p = times_contains e k v.taken h in let t = o.taken e in dite (ℕ_discrete (flies e v.in_flight) 0)
      (λ z. inr (contains_times e v.done (omega arith)))
      (λ z. inl (up e v.in_flight (omega arith)))

  pub six_facts : SixFacts w seats
  six_facts = record {
    claimed = λ e h. let k = claimed_by e h in (k.0, (k.1, k.2, k.3));
    in_flight = λ e i f. flown w PARTS seats i f.0 e c f.1.0 f.1.1 f.2;
    one_flight = λ e i j f g. alone_flying j g.0 g.1 e g.2 i f.0 f.1 f.2;
    decided = λ e d h. let k = decided_by e d h in (k.0, (k.1, k.2, k.3));
    done = λ e d i k. (c.each i k.0 k.1).done e d k.2;
    one_done = λ e d d' i j k m. alone_done j m.0 m.1 e (times_contains e d' m.0.done m.2) i k.0 k.1 (times_contains e d k.0.done k.2);
    done_once = λ i v h e. let q = few i v e h in omega arith;
    apart = λ e d i j k f. let a = (c.each i k.0 k.1).done e d k.2 in let b = flown w PARTS seats j f.0 e c f.1.0 f.1.1 f.2 in let z : Decided d ≡ Claimed = sym a ∙ b in absurd (cc);
    seen = λ i v h e x k. (c.each i v h).seen e x k;
    taken_once = λ i v h e. let t = (c.each i v h).taken e in let q = few i v e h in omega arith;
    taken = λ i v h e k m. taken_is v (c.each i v h) e k m;
    taken_at = λ i v h e k m. (c.each i v h).lengths e k m;
    part = λ i v h. (c.each i v h).part;
    parts = c.parts;
  }
