-- Every list of events keeps the counted facts.
use Rattle.th_edge_table.specs.declared.state.TheConstants.{PARTS}
use Rattle.std.proofs.Common.{◌≡◌, ◌-◌, ℕ, zero, suc, false, List, [], ◌∷◌, set, sym, refl, get_or-set_same, get_or-set_other}
use mathlib.Core.Option.{some}
use lib.ListN.{get_elem?}
use Rattle.th_edge_table.specs.declared.word.Word.TheVariants.{Free, Decided}
use Rattle.th_edge_table.specs.declared.state.CoreSeat.{CoreSeat}
use Rattle.th_edge_table.specs.declared.state.CoreState.{CoreState}
use Rattle.th_edge_table.specs.declared.state.CoreEvent.{CoreEvent}
use Rattle.th_edge_table.specs.declared.state.CoreEvent.TheVariants.{Look, Claim, Publish, Split, Join}
use Rattle.th_edge_table.specs.Core.{claim_word, ended, word_at, seat_at, Allowed, happens, AllAllowed, replayed, opening}
use Rattle.th_edge_table.specs.Facts.{SixFacts}
use Rattle.th_edge_table.proofs.Counts.{Counted}
use Rattle.th_edge_table.proofs.Steps.{looks, claims_it, publishes, splits, joins}
use Rattle.th_edge_table.proofs.FromCounts.{six_facts}
use Rattle.th_edge_table.proofs.Opening.{opened}

-- a seat that is there
pub there : (l : List CoreSeat) (s : ℕ) → (seat_at l s).ended ≡ false → get_elem? l s ≡ some (seat_at l s)
there [] s h = absurd (cc)
there (x ∷ xs) zero h = refl
there (x ∷ xs) (suc s) h = there xs s h

abbrev pub Good : CoreState → Type 0
Good c = Counted (word_at c.words) PARTS c.seats

pub kept : (c : CoreState) (x : CoreEvent) → Good c → Allowed c x → Good (happens c x)
kept c (Look s e) g a = looks (word_at c.words) (word_at c.words) PARTS c.seats s (seat_at c.seats s) e g (there c.seats s a.0) a.0 (λ f. refl)
kept c (Claim s e) g a = claims_it (word_at c.words) (word_at (set c.words e.0 (claim_word (word_at c.words e.0)))) PARTS c.seats s (seat_at c.seats s) e g (there c.seats s a.0) a.0 a.2
    (word_at c.words e.0) refl (get_or-set_same c.words e.0 (claim_word (word_at c.words e.0)) Free a.1) (λ f q. get_or-set_other c.words e.0 f (claim_word (word_at c.words e.0)) Free q)
kept c (Publish s e d) g a = publishes (word_at c.words) (word_at (set c.words e.0 (Decided d))) PARTS c.seats s (seat_at c.seats s) e d g (there c.seats s a.0) a.0 a.2
    (get_or-set_same c.words e.0 (Decided d) Free a.1) (λ f q. get_or-set_other c.words e.0 f (Decided d) Free q)
kept c (Split s) g a = splits (word_at c.words) (PARTS - 1) c.seats s (seat_at c.seats s) g (there c.seats s a.0) a.0 a.1
kept c (Join s t) g a = joins (word_at c.words) PARTS c.seats s t (seat_at c.seats s) (seat_at c.seats t) (ended (seat_at c.seats t)) g (there c.seats s a.0) a.0
    (λ q. a.2 (sym q)) (there c.seats t a.1) a.1 a.3 refl

pub kept_all : (c : CoreState) (xs : List CoreEvent) → Good c → AllAllowed c xs → Good (replayed c xs)
kept_all c [] g a = g
kept_all c (x ∷ xs) g a = kept_all (happens c x) xs (kept c x g a.0) a.1

-- the six facts after every list of events from the opening state
pub scheduled : (n : ℕ) (events : List CoreEvent) → AllAllowed (opening n) events → SixFacts (word_at (replayed (opening n) events).words) (replayed (opening n) events).seats
scheduled n events ok = six_facts (word_at (replayed (opening n) events).words) (replayed (opening n) events).seats (kept_all (opening n) events (opened n) ok)
