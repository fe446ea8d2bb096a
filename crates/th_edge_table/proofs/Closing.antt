-- The table at its end: the seat with all parts knows all that was decided.
use Rattle.th_edge_table.specs.declared.state.TheConstants.{PARTS}
use Rattle.std.proofs.Common.{◌≡◌, ◌≢◌, ◌⊎◌, ℕ, zero, suc, ◌+◌, ◌<◌, ◌≤◌, false, List, [], ◌∷◌, ◌++◌, length, get_or, refl, sym, ap, ◌∙◌, subst, inl, inr, arith, length-append, add-one, Some, None}
use Rattle.std.specs.Prelude.{Contains, slice_get}
use Rattle.std.proofs.lemmas.List.{get_or_append_left}
use Rattle.std.proofs.Math.Seq.{get_or-append_seam}
use Rattle.std.proofs.lemmas.Option.{slice_get-get_or, slice_get_within}
use mathlib.Core.Logic.{◌↔◌, dite}
use mathlib.Core.Option.{some, some-injective}
use native.Mathlib.Decide.{ℕ_discrete}
use lib.ListN.{get_elem?}
use Rattle.atomic_table.specs.Table.{State}
use Rattle.th_base.specs.declared.number.EdgeId.{EdgeId}
use Rattle.th_edge_table.specs.declared.word.Verdict.{Verdict}
use Rattle.th_edge_table.specs.declared.word.Word.{Word}
use Rattle.th_edge_table.specs.declared.word.Word.TheVariants.{Free, Claimed, Decided}
use Rattle.th_edge_table.specs.declared.state.CoreSeat.{CoreSeat}
use Rattle.th_edge_table.specs.Encoding.{word_of}
use Rattle.th_edge_table.specs.Facts.{times, Lives, live_part, SixFacts}
use Rattle.th_edge_table.specs.Running.{word_in, Ruled, words_from}
use Rattle.th_edge_table.proofs.Lists.{at_read, two_le_sum}
use Rattle.th_edge_table.proofs.Steps.{counts}

pub length-words_from : (row : List ℕ) (n : ℕ) → length (words_from row n) ≡ n
length-words_from row zero = refl
length-words_from row (suc n) = let l = length-words_from row n in let a = length-append (words_from row n) (word_in row n ∷ []) in omega arith

get_from : (row : List ℕ) (n e : ℕ) → e < n → get_or (words_from row n) e Free ≡ word_in row e
get_from row zero e h = absurd (omega arith)
get_from row (suc n) e h =
    let xs = words_from row n in let l = length-words_from row n in dite (ℕ_discrete e n)
    (λ q. ap (λ k. get_or (xs ++ word_in row n ∷ []) k Free) (q ∙ sym l) ∙ get_or-append_seam xs (word_in row n) [] Free ∙ ap (word_in row) (sym q))
    (λ q. let b : e < n = omega arith in get_or_append_left xs (word_in row n ∷ []) Free e (omega arith) ∙ get_from row n e b)

pub word_from : (row : List ℕ) (n e : ℕ) → e < n → slice_get (words_from row n) e ≡ Some (word_in row e)
word_from row n e h = let l = length-words_from row n in slice_get-get_or (words_from row n) e Free (omega arith) ∙ ap Some (get_from row n e h)

-- a word that was read
pub word_read : (row : List ℕ) (e found : ℕ) → get_elem? row (e + 1) ≡ some found → word_of found ≡ word_in row e
word_read row e found h = ap word_of (sym (at_read row (e + 1) found 0 h).1)

pub one_more : (row : List ℕ) (n : ℕ) (ws new : List Word) (w : Word) → ws ≡ words_from row n → w ≡ word_in row n → new ≡ ws ++ w ∷ [] → new ≡ words_from row (n + 1)
one_more row n ws new w a b c = c ∙ (λ i. a i ++ b i ∷ []) ∙ ap (words_from row) (sym (add-one n))

free_past : (row : List ℕ) (n e : ℕ) → length row ≡ n + 1 → (e < n → ⊥) → get_or row (e + 1) 0 ≡ 0
free_past row n e l h = past row (e + 1) (omega arith)
  where
    past : (xs : List ℕ) (k : ℕ) → length xs ≤ k → ◌≡◌ {A = ℕ} (get_or xs k 0) 0
    past [] k h = refl
    past (x ∷ xs) zero h = absurd (omega arith)
    past (x ∷ xs) (suc k) h = past xs k (omega arith)

pub record Closing (ws : List Word) (n : ℕ) (v : CoreSeat) : Type 0 where
  pub len : length ws ≡ n
  pub decided : (e : EdgeId) (d : Verdict) → (slice_get ws e.0 ≡ Some (Decided d)) ↔ Contains v.done (e, d)
  pub free : (e : EdgeId) → e.0 < n → (slice_get ws e.0 ≡ Some Free) ⊎ ((d : Verdict) × Contains v.done (e, d))
  pub once : (e : EdgeId) → times e v.done ≤ 1

module _ (n : ℕ) (s : State (Unit {0}) CoreSeat) (r : Ruled n s) (i : ℕ) (v : CoreSeat) (here : Lives s.views i v) (whole : v.part ≡ PARTS) (none : v.in_flight ≡ None) where
  abbrev w : ℕ → Word
  w = word_in s.words

  abbrev f : SixFacts w s.views
  f = r.facts

  -- there is no other seat
  alone : (j : ℕ) (u : CoreSeat) → Lives s.views j u → j ≡ i
  alone j u g = dite (ℕ_discrete j i) (λ q. q) (λ q.
      let t = two_le_sum live_part s.views j i u v g.0 here.0 q in
      let a = counts u.ended u.part g.1 in let b = counts v.ended v.part here.1 in
      let p = f.part j u g in let k = f.parts in absurd (omega arith))

  same : (j : ℕ) (u : CoreSeat) → Lives s.views j u → u ≡ v
  same j u g = some-injective u v (sym g.0 ∙ ap (get_elem? s.views) (alone j u g) ∙ here.0)

  none_claimed : (e : EdgeId) → w e.0 ≢ Claimed
  none_claimed e h =
      let c = f.claimed e h in let q = same c.0 c.1.0 c.1.1 in
      let z : Some e ≡ None = sym c.1.2 ∙ ap (λ (u : CoreSeat). u.in_flight) q ∙ none in absurd (cc)

  done_by : (e : EdgeId) (d : Verdict) → w e.0 ≡ Decided d → Contains v.done (e, d)
  done_by e d h = let c = f.decided e d h in subst (λ (u : CoreSeat). Contains u.done (e, d)) (same c.0 c.1.0 c.1.1) c.1.2

  below : (e : ℕ) (d : Verdict) → w e ≡ Decided d → Dec (e < n) → e < n
  below e d h (yes p) = p
  below e d h (no p) = let z : Free ≡ Decided d = sym (ap word_of (free_past s.words n e r.wide p)) ∙ h in absurd (cc)

  any : (e : EdgeId) (x : Word) → w e.0 ≡ x → (w e.0 ≡ Free) ⊎ ((d : Verdict) × Contains v.done (e, d))
  any e Free h = inl h
  any e Claimed h = absurd (none_claimed e h)
  any e (Decided d) h = inr (d, done_by e d h)

  closing_at : Closing (words_from s.words n) n v
  closing_at = record {
    len = length-words_from s.words n;
    decided = λ e d. (
      (λ h. let l = slice_get_within (words_from s.words n) e.0 (Decided d) h in let k = length-words_from s.words n in
          let at = word_from s.words n e.0 (omega arith) in let q : Some (w e.0) ≡ Some (Decided d) = sym at ∙ h in let z : w e.0 ≡ Decided d = cc in done_by e d z),
      (λ h. let z = f.done e d i (v, here, h) in word_from s.words n e.0 (below e.0 d z (native.Mathlib.Decide.dec_lt e.0 n)) ∙ ap Some z),
    );
    free = λ e b. let x = any e (w e.0) refl in elim x [ inl q ↦ inl (word_from s.words n e.0 b ∙ ap Some q) | inr q ↦ inr q ];
    once = f.done_once i v here;
  }

-- the same of the words that were read
pub closes : (n m : ℕ) (row : List ℕ) (ws : List Word) (s : State (Unit {0}) CoreSeat) (i : ℕ) (v u : CoreSeat) → Ruled n s → s.words ≡ row → ws ≡ words_from row n → n ≡ m → get_elem? s.views i ≡ some v → v.ended ≡ false
    → v ≡ u → u.part ≡ PARTS → u.in_flight ≡ None → Closing ws m u
closes n m row ws s i v u r is read count at live q whole none =
    let c = closing_at n s r i v (at, live) (ap (λ (x : CoreSeat). x.part) q ∙ whole) (ap (λ (x : CoreSeat). x.in_flight) q ∙ none) in
    let words : words_from s.words n ≡ ws = ap (λ (l : List ℕ). words_from l n) is ∙ sym read in
    let P : List Word × ℕ × CoreSeat → Type 0 = λ x. Closing x.0 x.1 x.2 in
    let e : ◌≡◌ {A = List Word × ℕ × CoreSeat} (words_from s.words n, n, v) (ws, m, u) = λ k. (words k, count k, q k) in subst P e c
