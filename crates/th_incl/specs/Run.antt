-- What holds while a solver is at work, over lists.
use Rattle.std.specs.Prelude.{◌≡◌, ◌≢◌, ℕ, ◌<◌, ◌-◌, ◌^◌, ◌⊎◌, false, true, List, [], ◌++◌, length, Contains, sum_by}
use Rattle.std.specs.List.{slice_index_or}
use Rattle.th_base.specs.IdSet.{has, IsAscending}
use Rattle.th_incl.specs.Least.{set_at, is_in, In, Reaches, IsInRange}
use Rattle.th_incl.specs.Parts.{SameMembers, missing}
use Rattle.th_incl.specs.declared.constraints.Inclusion.{Inclusion}
use Rattle.th_incl.specs.declared.constraints.Constraints.{Constraints}

-- a number is in a set or among its news
abbrev pub Known : List (List ℕ) → List (List ℕ) → ℕ → ℕ → Type 0
Known sets news i x = In sets i x ⊎ In news i x

-- what is known reaches its set, the news of a set aren't in it, each base pair is known, and what is
-- in a set is known behind each inclusion that it passes
pub record Inv (c : Constraints) (sets news : List (List ℕ)) : Type 0 where
  pub sets_len : length sets ≡ c.sets
  pub news_len : length news ≡ c.sets
  pub ascending : (k : ℕ) → IsAscending (set_at sets k)
  pub sound : (i x : ℕ) → Known sets news i x → Reaches c i x
  pub apart : (i x : ℕ) → In news i x → is_in sets i x ≡ false
  pub base : (i x : ℕ) → Contains c.base (i, x) → Known sets news i x
  pub copies : (j : Inclusion) (x : ℕ) → Contains c.copies j → In sets j.from x → In c.filters j.filter x → Known sets news j.to x

-- the inclusions from a set
abbrev pub out_at : List (List Inclusion) → ℕ → List Inclusion
out_at out i = slice_index_or out i []

-- the inclusions are listed by the set that they come from
pub record Tables (c : Constraints) (out : List (List Inclusion)) : Type 0 where
  pub out_len : length out ≡ c.sets
  pub listed : (j : Inclusion) → Contains c.copies j → Contains (out_at out j.from) j
  pub only : (i : ℕ) (j : Inclusion) → Contains (out_at out i) j → Contains c.copies j × (j.from ≡ i)
  pub range : IsInRange c

-- a set with news stands in the queue or in the rest of this round
pub record Queued (sets : ℕ) (news : List (List ℕ)) (queue rest : List ℕ) : Type 0 where
  pub all : (k x : ℕ) → In news k x → (has queue k ≡ true) ⊎ (has rest k ≡ true)
  pub inside : (k : ℕ) → has queue k ≡ true → k < sets

-- how many numbers may still come
abbrev pub room : List (List ℕ) → ℕ
room sets = sum_by (λ s. 2 ^ 64 - length s) sets

-- numbers came into a set, or nothing is left to do
abbrev pub Progress : List (List ℕ) → List (List ℕ) → List ℕ → List ℕ → Type 0
Progress sets sets' queue queue' = (room sets' < room sets) ⊎ ((room sets' ≡ room sets) × (queue' ≡ queue))

-- numbers were put among the news of a set, which is queued where it had none before
pub record Receives (to : ℕ) (ids : List ℕ) (news : List (List ℕ)) (queue : List ℕ) (news' : List (List ℕ)) (queue' : List ℕ) : Type 0 where
  pub news_len : length news' ≡ length news
  pub here : SameMembers (ids ++ set_at news to) (set_at news' to)
  pub others : (k : ℕ) → k ≢ to → set_at news' k ≡ set_at news k
  pub queue_stays : (k : ℕ) → has queue k ≡ true → has queue' k ≡ true
  pub queued : (x : ℕ) → In news' to x → ((y : ℕ) × In news to y) ⊎ (has queue' to ≡ true)
  pub inside : (k : ℕ) → has queue' k ≡ true → (has queue k ≡ true) ⊎ (to ≡ k)

-- what is fresh in a set was put among the news of the sets that inclusions lead to
pub record Spreads (sets filters : List (List ℕ)) (out : List Inclusion) (fresh : List ℕ) (news : List (List ℕ)) (queue : List ℕ)
    (news' : List (List ℕ)) (queue' : List ℕ) : Type 0 where
  pub news_len : length news' ≡ length news
  pub stays : (k x : ℕ) → In news k x → In news' k x
  pub only : (k x : ℕ) → In news' k x
      → In news k x
      ⊎ ((j : Inclusion) × (Contains out j × (j.to ≡ k) × (has (missing fresh (set_at filters j.filter) (set_at sets k)) x ≡ true)))
  pub every : (j : Inclusion) (x : ℕ) → Contains out j → has (missing fresh (set_at filters j.filter) (set_at sets j.to)) x ≡ true
      → In news' j.to x
  pub queue_stays : (k : ℕ) → has queue k ≡ true → has queue' k ≡ true
  pub queued : (k x : ℕ) → In news' k x → ((y : ℕ) × In news k y) ⊎ (has queue' k ≡ true)
  pub inside : (k : ℕ) → has queue' k ≡ true → (has queue k ≡ true) ⊎ (k < length news)
