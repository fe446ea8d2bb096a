-- The six facts are the counted facts.
use Rattle.th_edge_table.specs.declared.state.TheConstants.{PARTS}
use Rattle.std.proofs.Common.{◌≡◌, ℕ, Bool, true, false, cond, List, refl, sym, ap, ◌∙◌, ⊎_elim, arith, Some}
use Rattle.std.specs.Prelude.{Contains, sum_by}
use mathlib.Core.Logic.{dite}
use mathlib.Core.Option.{some}
use native.Mathlib.Decide.{ℕ_discrete}
use lib.ListN.{get_elem?}
use Rattle.th_base.specs.declared.number.EdgeId.{EdgeId}
use Rattle.th_edge_table.specs.declared.word.Verdict.{Verdict}
use Rattle.th_edge_table.specs.declared.word.Word.{Word}
use Rattle.th_edge_table.specs.declared.word.Word.TheVariants.{Free, Claimed, Decided}
use Rattle.th_edge_table.specs.declared.state.CoreSeat.{CoreSeat}
use Rattle.th_edge_table.specs.Facts.{times, Lives, SixFacts}
use Rattle.th_edge_table.proofs.Counts.{flies, flights, dones, claims, decides, Own, Counted}
use Rattle.th_edge_table.proofs.Lists.{contains_times, times_contains, counts_same, sum_none, sum_single}
use Rattle.th_edge_table.proofs.Steps.{counts}
use Rattle.th_edge_table.proofs.FromCounts.{up}

-- a seat counts only where it lives
by_life : (b : Bool) (n : ℕ) → (b ≡ false → n ≡ 0) → cond b 0 n ≡ 0
by_life true n z = refl
by_life false n z = z refl

module _ (w : ℕ → Word) (seats : List CoreSeat) (f : SixFacts w seats) where
  idle : (e : EdgeId) (j : ℕ) (u : CoreSeat) → get_elem? seats j ≡ some u → (u.ended ≡ false → u.in_flight ≡ Some e → ⊥) → flights e u ≡ 0
  idle e j u at never = by_life u.ended (flies e u.in_flight) (λ live. dite (ℕ_discrete (flies e u.in_flight) 0) (λ z. z) (λ z. absurd (never live (up e u.in_flight (omega arith)))))

  bare : (e : EdgeId) (j : ℕ) (u : CoreSeat) → get_elem? seats j ≡ some u → (u.ended ≡ false → (d : Verdict) → Contains u.done (e, d) → ⊥) → dones e u ≡ 0
  bare e j u at never = by_life u.ended (times e u.done) (λ live. dite (ℕ_discrete (times e u.done) 0) (λ z. z) (λ z. let c = contains_times e u.done (omega arith) in absurd (never live c.0 c.1)))

  claimed_is : (e : EdgeId) (x : Word) → w e.0 ≡ x → sum_by (flights e) seats ≡ claims x
  claimed_is e Free h = sum_none (flights e) seats (λ j u at. idle e j u at (λ live fly. let q : Free ≡ Claimed = sym h ∙ f.in_flight e j (u, (at, live), fly) in absurd (cc)))
  claimed_is e (Decided d) h = sum_none (flights e) seats (λ j u at. idle e j u at (λ live fly. let q : Decided d ≡ Claimed = sym h ∙ f.in_flight e j (u, (at, live), fly) in absurd (cc)))
  claimed_is e Claimed h =
      let k = f.claimed e h in
      let v = k.1.0 in
      sum_single (flights e) seats k.0 v k.1.1.0 (λ j u at n. idle e j u at (λ live fly. n (f.one_flight e j k.0 (u, (at, live), fly) k.1)))
      ∙ counts v.ended (flies e v.in_flight) k.1.1.1 ∙ ap (flies e) k.1.2 ∙ counts_same e.0 e.0 refl

  decided_is : (e : EdgeId) (x : Word) → w e.0 ≡ x → sum_by (dones e) seats ≡ decides x
  decided_is e Free h = sum_none (dones e) seats (λ j u at. bare e j u at (λ live d k. let q : Free ≡ Decided d = sym h ∙ f.done e d j (u, (at, live), k) in absurd (cc)))
  decided_is e Claimed h = sum_none (dones e) seats (λ j u at. bare e j u at (λ live d k. let q : Claimed ≡ Decided d = sym h ∙ f.done e d j (u, (at, live), k) in absurd (cc)))
  decided_is e (Decided d) h =
      let k = f.decided e d h in
      let v = k.1.0 in
      let some_done = times_contains e d v.done k.1.2 in let once = f.done_once k.0 v k.1.1 e in let one : times e v.done ≡ 1 = omega arith in
      sum_single (dones e) seats k.0 v k.1.1.0 (λ j u at n. bare e j u at (λ live g m. n (f.one_done e g d j k.0 (u, (at, live), m) k.1)))
      ∙ counts v.ended (times e v.done) k.1.1.1 ∙ one

  own : (i : ℕ) (v : CoreSeat) → Lives seats i v → Own w v
  own i v h = record {
    done = λ e d k. f.done e d i (v, h, k);
    seen = f.seen i v h;
    taken = λ e. let once = f.taken_once i v h e in dite (ℕ_discrete (times e v.taken) 0) (λ z. omega arith) (λ z.
        let c = contains_times e v.taken (omega arith) in
        ⊎_elim
        (λ (q : v.in_flight ≡ Some e). let one : flies e v.in_flight ≡ 1 = ap (flies e) q ∙ counts_same e.0 e.0 refl in omega arith)
        (λ (q : (d : Verdict) × Contains v.done (e, d)). let some_done = times_contains e q.0 v.done q.1 in omega arith)
        (f.taken i v h e c.0 c.1));
    lengths = f.taken_at i v h;
    part = f.part i v h;
  }

  pub counted : Counted w PARTS seats
  counted = record { claimed = λ e. claimed_is e (w e.0) refl; decided = λ e. decided_is e (w e.0) refl; each = own; parts = f.parts }
