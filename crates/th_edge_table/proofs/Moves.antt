-- Each step of the running table is one event of the core, so it keeps the rule.
use Rattle.th_edge_table.specs.declared.state.TheConstants.{PARTS}
use Rattle.std.proofs.Common.{◌≡◌, ℕ, ◌+◌, ◌<◌, ◌≤◌, ◌==◌, false, [], ◌∷◌, ◌++◌, get_or, set, sym, refl, ap, ◌∙◌, subst, arith, Some, None, length-set}
use mathlib.Core.Logic.{dite}
use mathlib.Core.Option as lower
use native.Mathlib.Decide.{ℕ_discrete}
use prog.Atomic.{either}
use Rattle.atomic_table.specs.Table.{State, Me, step, keeps, Allows, Splits, Joins}
use Rattle.atomic_table.proofs.Lists.{set_else}
use Rattle.th_base.specs.declared.number.EdgeId.{EdgeId}
use Rattle.th_edge_table.specs.declared.word.Verdict.{Verdict}
use Rattle.th_edge_table.specs.declared.word.Word.{Word}
use Rattle.th_edge_table.specs.declared.word.Word.TheVariants.{Free, Claimed, Decided}
use Rattle.th_edge_table.specs.declared.state.CoreSeat.{CoreSeat}
use Rattle.th_edge_table.specs.Encoding.{word_of}
use Rattle.th_edge_table.specs.Core.{newcomer, spent, saw, claimed, published, parted, joined}
use Rattle.th_edge_table.specs.Facts.{times, Faithful}
use Rattle.th_edge_table.specs.Running.{word_in, Ruled, looks_once, claims_once, publishes_once}
use Rattle.th_edge_table.proofs.Lists.{contains_times, times_contains, edge_is}
use Rattle.th_edge_table.proofs.Counts.{flies, Own, Counted}
use Rattle.th_edge_table.proofs.Steps as move
use Rattle.th_edge_table.proofs.FromCounts.{up, six_facts}
use Rattle.th_edge_table.proofs.ToCounts.{counted}
use Rattle.th_edge_table.proofs.Numbers.{exchanged, at_edge, elsewhere}

-- the edge of a step's word
same_word : (e f : EdgeId) → e.0 + 1 ≡ f.0 + 1 → e ≡ f
same_word e f q = edge_is e f (omega arith)

faithful : (w : ℕ → Word) (v : CoreSeat) (e : EdgeId) → (v.in_flight ≡ Some e → w e.0 ≡ Claimed) → Own w v → Faithful v e (w e.0)
faithful w v e flown o = record {
  seen = o.seen e;
  taken = λ k h free. let p = times_contains e k v.taken h in let t = o.taken e in dite (ℕ_discrete (flies e v.in_flight) 0)
      (λ z. let d = contains_times e v.done (omega arith) in let q : Free ≡ Decided d.0 = sym free ∙ o.done e d.0 d.1 in absurd (cc))
      (λ z. let q : Free ≡ Claimed = sym free ∙ flown (up e v.in_flight (omega arith)) in absurd (cc));
  in_flight = flown;
  done = o.done e;
}

known : (n : ℕ) (s : State (Unit {0}) CoreSeat) → Ruled n s → Counted (word_in s.words) PARTS s.views
known n s r = counted (word_in s.words) s.views r.facts

module _ (n slots id : ℕ) (e : EdgeId) (me : Me (Unit {0}) CoreSeat) (within : e.0 < n) (live : me.0.ended ≡ false) where
  told : (s : State (Unit {0}) CoreSeat) → Ruled n s → lib.ListN.get_elem? s.views id ≡ lower.some me.0 → Faithful me.0 e (word_in s.words e.0)
  told s r at = faithful (word_in s.words) me.0 e (move.flown (word_in s.words) PARTS s.views id me.0 e (known n s r) at live) ((known n s r).each id me.0 (at, live))

  pub looks : Allows (Ruled n) slots id me (e.0 + 1) (λ x. x) (looks_once (step slots (e.0 + 1) 0 0 lower.none) me)
  looks s r _ at _ =
      let x : ℕ = get_or s.words (e.0 + 1) 0 in
      let w = word_in s.words in
      let words = set s.words (e.0 + 1) x in
      let same : (f : ℕ) → word_in words f ≡ w f = λ f. dite (ℕ_discrete f e.0) (λ q. ap (word_in words) q ∙ at_edge s.words n e.0 x r.wide within ∙ ap w (sym q)) (elsewhere s.words n e.0 x r.wide within f) in (
        saw e (word_of x) me.0,
        keeps,
        tt,
        record { wide = length-set s.words (e.0 + 1) x ∙ r.wide; facts = six_facts (word_in words) (set s.views id (saw e (word_of x) me.0)) (move.looks w (word_in words) PARTS s.views id me.0 e (known n s r) at live same) },
        λ f q. let P : EdgeId → Type 0 = λ g. ◌≡◌ {A = Me (Unit {0}) CoreSeat} (saw e (word_of x) me.0, me.1) (saw g (word_of x) me.0, me.1) × Faithful me.0 g (word_of x) in
            subst P (same_word e f q) (refl, told s r at),
      )

  pub takes : me.0.in_flight ≡ None → Allows (Ruled n) slots id me (e.0 + 1) (λ x. either (x == 0) 1 x) (claims_once (step slots (e.0 + 1) 0 1 lower.none) me)
  takes none s r _ at _ =
      let x : ℕ = get_or s.words (e.0 + 1) 0 in
      let y : ℕ = either (x == 0) 1 x in
      let w = word_in s.words in
      let words = set s.words (e.0 + 1) y in (
        claimed e (word_of x) me.0,
        keeps,
        tt,
        record {
          wide = length-set s.words (e.0 + 1) y ∙ r.wide;
          facts = six_facts (word_in words) (set s.views id (claimed e (word_of x) me.0))
              (move.claims_it w (word_in words) PARTS s.views id me.0 e (known n s r) at live none (word_of x) refl (at_edge s.words n e.0 y r.wide within ∙ exchanged x) (elsewhere s.words n e.0 y r.wide within));
        },
        λ f q. let P : EdgeId → Type 0 = λ g. ◌≡◌ {A = Me (Unit {0}) CoreSeat} (claimed e (word_of x) me.0, me.1) (claimed g (word_of x) me.0, me.1) × Faithful me.0 g (word_of x) in
            subst P (same_word e f q) (refl, told s r at),
      )

  pub publishes : (d : Verdict) (new : ℕ) → me.0.in_flight ≡ Some e → word_of new ≡ Decided d → Allows (Ruled n) slots id me (e.0 + 1) (λ _. new) (λ _. publishes_once (step slots (e.0 + 1) new 0 lower.none) me new)
  publishes d new up is s r _ at _ =
      let w = word_in s.words in
      let words = set s.words (e.0 + 1) new in (
        published e d me.0,
        keeps,
        tt,
        record {
          wide = length-set s.words (e.0 + 1) new ∙ r.wide;
          facts = six_facts (word_in words) (set s.views id (published e d me.0))
              (move.publishes w (word_in words) PARTS s.views id me.0 e d (known n s r) at live up (at_edge s.words n e.0 new r.wide within ∙ is) (elsewhere s.words n e.0 new r.wide within));
        },
        λ f g q h. let z : Decided d ≡ Decided g = sym is ∙ h in let same : d ≡ g = cc in λ i. (published (same_word e f q i) (same i) me.0, me.1),
      )

pub splits : (n id : ℕ) (v : CoreSeat) → v.ended ≡ false → 2 ≤ v.part → Splits (Ruled n) id v (parted v) (newcomer 1)
splits n id v live two s r at = record { wide = r.wide; facts = six_facts (word_in s.words) (set s.views id (parted v) ++ newcomer 1 ∷ []) (move.splits (word_in s.words) 65535 s.views id v (known n s r) at live two) }

pub joins : (n id other : ℕ) (v u : CoreSeat) → v.ended ≡ false → u.ended ≡ false → u.in_flight ≡ None → Joins (Ruled n) id v other u (joined v u) spent
joins n id other v u live live' none s r at apart there =
    record { wide = r.wide; facts = six_facts (word_in s.words) (set (set s.views id (joined v u)) other spent) (move.joins (word_in s.words) PARTS s.views id other v u spent (known n s r) at live apart (sym (set_else s.views id other (joined v u) apart) ∙ there) live' none refl) }

pub claimed_lives : (e : EdgeId) (w : Word) (v : CoreSeat) → (claimed e w v).ended ≡ v.ended
claimed_lives e Free v = refl
claimed_lives e Claimed v = refl
claimed_lives e (Decided d) v = refl

-- an edge whose word can be free was not taken
pub fresh : (v : CoreSeat) (e : EdgeId) (w : Word) → Faithful v e w → w ≡ Free → times e v.taken ≡ 0
fresh v e w f free = dite (ℕ_discrete (times e v.taken) 0) (λ z. z) (λ z. let c = contains_times e v.taken (omega arith) in absurd (f.taken c.0 c.1 free))
