-- What holds of a solver's parts, and what a step of a run does with them.
use Rattle.std.specs.Prelude.{◌≡◌, ◌≢◌, ℕ, ◌+◌, ◌<◌, ◌^◌, ◌⊎◌, true, List, [], length, slice_set}
use Rattle.th_base.specs.IdSet.{has, union_of, IsAscending}
use Rattle.th_incl.specs.Least.{set_at, In, pair_count}
use Rattle.th_incl.specs.Parts.{SameMembers}
use Rattle.th_incl.specs.Run.{Inv, Tables, Queued, Progress}
use Rattle.th_incl.specs.View.{SolverView}
use Rattle.th_incl.specs.declared.constraints.Constraints.{Constraints}
use Rattle.th_incl.specs.declared.system.System.{System}
use Rattle.th_incl.specs.declared.work.Work.{Work}

abbrev pub constraints_of : System → Constraints
constraints_of s = record { sets = s.sets; base = s.base; copies = s.copies; filters = s.filters }

abbrev pub view_of : System → Work → SolverView
view_of s w = record { constraints = constraints_of s; sets = w.sets.items; grown = w.grown }

-- between two steps of a run
pub record IsConsistent (s : System) (w : Work) : Type 0 where
  pub tables : Tables (constraints_of s) s.out.items
  pub inv : Inv (constraints_of s) w.sets.items w.news.items
  pub pairs : w.pairs ≡ pair_count w.sets.items

-- between two runs
pub record Kept (s : System) (w : Work) : Type 0 where
  pub consistent : IsConsistent s w
  pub queued : Queued s.sets w.news.items w.queue.items []

-- the news of a set, `fresh`, went into it
pub record Settles (i : ℕ) (w w' : Work) (fresh : List ℕ) : Type 0 where
  pub same : SameMembers (set_at w.news.items i) fresh
  pub ascending : IsAscending fresh
  pub sets : w'.sets.items ≡ slice_set w.sets.items i (union_of (set_at w.sets.items i) fresh)
  pub fits : length (union_of (set_at w.sets.items i) fresh) < 2 ^ 64
  pub news : w'.news.items ≡ slice_set w.news.items i []
  pub queue : w'.queue.items ≡ w.queue.items
  pub pairs : w'.pairs ≡ w.pairs + length fresh

-- the news of a set are too many for the limit; they were put in order, and nothing else was done
pub record Stops (limit i : ℕ) (w w' : Work) : Type 0 where
  pub same : SameMembers (set_at w.news.items i) (set_at w'.news.items i)
  pub ascending : IsAscending (set_at w'.news.items i)
  pub over : limit < w.pairs + length (set_at w'.news.items i)
  pub sets : w'.sets.items ≡ w.sets.items
  pub news : w'.news.items ≡ slice_set w.news.items i (set_at w'.news.items i)
  pub queue : w'.queue.items ≡ w.queue.items
  pub pairs : w'.pairs ≡ w.pairs

-- a set's news were taken in and passed on
pub record Steps (s : System) (i : ℕ) (w w' : Work) : Type 0 where
  pub consistent : IsConsistent s w'
  pub queue_stays : (k : ℕ) → has w.queue.items k ≡ true → has w'.queue.items k ≡ true
  pub queued : (k x : ℕ) → In w'.news.items k x → ((y : ℕ) × (In w.news.items k y × (k ≢ i))) ⊎ (has w'.queue.items k ≡ true)
  pub inside : (k : ℕ) → has w'.queue.items k ≡ true → (has w.queue.items k ≡ true) ⊎ (k < s.sets)
  pub progress : Progress w.sets.items w'.sets.items w.queue.items w'.queue.items
