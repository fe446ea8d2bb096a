-- The table that is walked from what is kept: it is below each closed table where what is kept is, and it
-- is closed where nothing new comes.
use Rattle.std.proofs.Common.{◌≡◌, ℕ, zero, suc, ◌<◌, ◌==◌, ◌||◌, inl, inr, Bool, true, false, cond, List, [], ◌∷◌, length, Option, None, Some, Contains, refl, sym, ap, subst, ◌∙◌, arith}
use Rattle.std.specs.Prelude.{option_to_list}
use Rattle.std.specs.Option.{option_map, option_map_or}
use Rattle.std.proofs.lemmas.Bool.{eqb-true}
use Rattle.th_base.specs.IdSet.{has}
use Rattle.th_base.proofs.Membership.{Contains-from_has, has-from_Contains}
use Rattle.th_syntax.specs.declared.class_file.Member.{Member}
use Rattle.th_syntax.specs.declared.class_file.Code.{Code}
use Rattle.th_syntax.specs.declared.instr.Instr.{Instr}
use Rattle.th_syntax.specs.Flow.{offset_after, leads_to, successors_of}
use Rattle.th_syntax.specs.Kinds.{KindsAt, NoKinds}
use Rattle.th_syntax.specs.KindRows.{row_of, after}
use Rattle.th_syntax.specs.KindTable.{entry_kinds, IsHeld, IsClosedTable}
use Rattle.th_syntax.proofs.MergingKinds.{at_self}
use Rattle.th_syntax.proofs.LeastKinds.{held_along, held_behind}
use Rattle.th_kinds.specs.Walk.{line, place_of, falls, jumps, FlowsWell, kept_at, here, fallen_behind, falls_in, state_at, walked_table, IsQuiet, IsBelow}
use Rattle.th_kinds.proofs.Places.{place_at, offset_behind, stands_at, stands, next_place, next_offset}
use Rattle.th_kinds.proofs.Leading.{jump_leads, falls_lead, leads_cases}

-- ---- below each closed table

pub here_held : (fallen : KindsAt) (kept : Option KindsAt) (u : KindsAt) → IsHeld fallen u → ((known : KindsAt) → kept ≡ Some known → IsHeld known u) → IsHeld (here fallen kept) u
here_held fallen None u falling keeping = falling
here_held fallen (Some known) u falling keeping = keeping known refl

fallen_by : (i : Instr) (s u : KindsAt) (b : Bool) → falls i ≡ b → (falls i ≡ true → IsHeld (after (row_of i) s) u) → IsHeld (cond b (after (row_of i) s) NoKinds) u
fallen_by i s u true is held = held is
fallen_by i s u false is held = refl

module _ (m : Member) (code : Code) (well : FlowsWell code.instrs) (u : ℕ → KindsAt) (closed : IsClosedTable m code u) where
  falling_held : (k : ℕ) (s : KindsAt) → suc k < length code.instrs → IsHeld s (u (line code.instrs k).0) → falls (line code.instrs k).1 ≡ true
      → IsHeld (after (row_of (line code.instrs k).1) s) (u (line code.instrs (suc k)).0)
  falling_held k s inside held falling =
      let i : Instr = (line code.instrs k).1 in
      let here_in : k < length code.instrs = omega arith in
      let behind : offset_after code.instrs (line code.instrs k).0 ≡ Some (line code.instrs (suc k)).0 = offset_behind code.instrs k well.ascending here_in ∙ next_offset code.instrs k inside in
      let leads : has (successors_of code.instrs ((line code.instrs k).0, (line code.instrs k).1)) (line code.instrs (suc k)).0 ≡ true =
      ap (λ o. has (leads_to (option_to_list o) (line code.instrs k).1) (line code.instrs (suc k)).0) behind ∙ falls_lead (line code.instrs (suc k)).0 (line code.instrs k).1 falling in
      held_along (after (row_of (line code.instrs k).1) s) (after (row_of (line code.instrs k).1) (u (line code.instrs k).0)) (u (line code.instrs (suc k)).0)
      (held_behind (row_of (line code.instrs k).1) s (u (line code.instrs k).0) held)
      (closed.flow (line code.instrs k).0 (line code.instrs (suc k)).0 (line code.instrs k).1 (stands_at code.instrs k well.ascending here_in)
      (Contains-from_has (successors_of code.instrs ((line code.instrs k).0, (line code.instrs k).1)) (line code.instrs (suc k)).0 leads))

  pub jumping_held : (k to : ℕ) (s : KindsAt) → k < length code.instrs → IsHeld s (u (line code.instrs k).0) → Contains (jumps (line code.instrs k).1) to → IsHeld (after (row_of (line code.instrs k).1) s) (u to)
  jumping_held k to s inside held jump =
      let leads : has (successors_of code.instrs ((line code.instrs k).0, (line code.instrs k).1)) to ≡ true =
      jump_leads (option_to_list (offset_after code.instrs (line code.instrs k).0)) (line code.instrs k).1 to (has-from_Contains (jumps (line code.instrs k).1) to jump) in
      held_along (after (row_of (line code.instrs k).1) s) (after (row_of (line code.instrs k).1) (u (line code.instrs k).0)) (u to)
      (held_behind (row_of (line code.instrs k).1) s (u (line code.instrs k).0) held)
      (closed.flow (line code.instrs k).0 to (line code.instrs k).1 (stands_at code.instrs k well.ascending inside) (Contains-from_has (successors_of code.instrs ((line code.instrs k).0, (line code.instrs k).1)) to leads))

  pub fallen_held : (k : ℕ) (s : KindsAt) → suc k < length code.instrs → IsHeld s (u (line code.instrs k).0) → IsHeld (fallen_behind (line code.instrs k).1 s) (u (line code.instrs (suc k)).0)
  fallen_held k s inside held =
      fallen_by (line code.instrs k).1 s (u (line code.instrs (suc k)).0) (falls (line code.instrs k).1) refl (falling_held k s inside held)

module _ (m : Member) (code : Code) (well : FlowsWell code.instrs) (kept : List (Option KindsAt)) (u : ℕ → KindsAt) (closed : IsClosedTable m code u) (below : IsBelow code.instrs kept u) where
  falls_in_held : (k : ℕ) → k < length code.instrs → IsHeld (falls_in (entry_kinds m code) code.instrs kept k) (u (line code.instrs k).0)
  unfolding falls_in
  falls_in_held zero inside = subst (λ (n : ℕ). IsHeld (entry_kinds m code) (u n)) (sym well.first) closed.entry
  falls_in_held (suc k) inside =
      let here_in : k < length code.instrs = omega arith in
      fallen_held m code well u closed k (state_at (entry_kinds m code) code.instrs kept k) inside
      (here_held (falls_in (entry_kinds m code) code.instrs kept k) (kept_at kept k) (u (line code.instrs k).0) (falls_in_held k here_in) (λ known stands. below k known here_in stands))

  pub state_held : (k : ℕ) → k < length code.instrs → IsHeld (state_at (entry_kinds m code) code.instrs kept k) (u (line code.instrs k).0)
  state_held k inside =
      here_held (falls_in (entry_kinds m code) code.instrs kept k) (kept_at kept k) (u (line code.instrs k).0) (falls_in_held k inside) (λ known stands. below k known inside stands)

table_by : (s : ℕ → KindsAt) (offset : ℕ) (u : ℕ → KindsAt) (found : Option ℕ) → ((k : ℕ) → found ≡ Some k → IsHeld (s k) (u offset)) → IsHeld (option_map_or s found NoKinds) (u offset)
table_by s offset u None held = refl
table_by s offset u (Some k) held = held k refl

-- a place is that of an instruction at its offset
place_is_by : (i : ℕ × Instr) (instrs : List (ℕ × Instr)) (offset : ℕ) (found : Option ℕ) (b : Bool) (k : ℕ) → (i.0 == offset) ≡ b → cond b (Some 0) (option_map suc found) ≡ Some k
    → ((j : ℕ) → found ≡ Some j → (j < length instrs) × ((line instrs j).0 ≡ offset)) → (k < length (i ∷ instrs)) × ((line (i ∷ instrs) k).0 ≡ offset)
place_is_by i instrs offset found true k is e more = let zero_is : 0 ≡ k = cc in subst (λ (n : ℕ). (n < length (i ∷ instrs)) × ((line (i ∷ instrs) n).0 ≡ offset)) zero_is (omega arith, eqb-true i.0 offset is)
place_is_by i instrs offset None false k is e more = absurd cc
place_is_by i instrs offset (Some j) false k is e more =
    let next : suc j ≡ k = cc in let there = more j refl in
    subst (λ (n : ℕ). (n < length (i ∷ instrs)) × ((line (i ∷ instrs) n).0 ≡ offset)) next (let inside = there.0 in omega arith, there.1)

place_is : (instrs : List (ℕ × Instr)) (offset k : ℕ) → place_of instrs offset ≡ Some k → (k < length instrs) × ((line instrs k).0 ≡ offset)
place_is [] offset k e = absurd cc
place_is (i ∷ instrs) offset k e = place_is_by i instrs offset (place_of instrs offset) (i.0 == offset) k refl e (λ j. place_is instrs offset j)

pub walked_below : (m : Member) (code : Code) → FlowsWell code.instrs → (kept : List (Option KindsAt)) (u : ℕ → KindsAt) → IsClosedTable m code u → IsBelow code.instrs kept u → (offset : ℕ) → IsHeld (walked_table (entry_kinds m code) code.instrs kept offset) (u offset)
walked_below m code well kept u closed below offset =
    table_by (state_at (entry_kinds m code) code.instrs kept) offset u (place_of code.instrs offset)
    (λ k found. let there = place_is code.instrs offset k found in subst (λ (n : ℕ). IsHeld (state_at (entry_kinds m code) code.instrs kept k) (u n)) there.1 (state_held m code well kept u closed below k there.0))

-- ---- closed where nothing new comes

has_one_by : (x to : ℕ) (b : Bool) → (x == to) ≡ b → (b || false) ≡ true → (let o : Option ℕ = Some x in o) ≡ Some to
has_one_by x to true is e = ap (λ (n : ℕ). let o : Option ℕ = Some n in o) (eqb-true x to is)
has_one_by x to false is e = absurd cc

has_one : (o : Option ℕ) (to : ℕ) → has (option_to_list o) to ≡ true → o ≡ Some to
has_one None to e = absurd cc
has_one (Some x) to e = has_one_by x to (x == to) refl e

module _ (m : Member) (code : Code) (well : FlowsWell code.instrs) (kept : List (Option KindsAt)) where
  pub table_at : (k : ℕ) → k < length code.instrs → walked_table (entry_kinds m code) code.instrs kept (line code.instrs k).0 ≡ state_at (entry_kinds m code) code.instrs kept k
  table_at k inside = ap (λ o. option_map_or (state_at (entry_kinds m code) code.instrs kept) o NoKinds) (place_at code.instrs k well.ascending inside)

  pub table_there : (k offset : ℕ) → k < length code.instrs → (line code.instrs k).0 ≡ offset → walked_table (entry_kinds m code) code.instrs kept offset ≡ state_at (entry_kinds m code) code.instrs kept k
  table_there k offset inside is = ap (walked_table (entry_kinds m code) code.instrs kept) (sym is) ∙ table_at k inside

  kept_there : (k : ℕ) (known : KindsAt) → kept_at kept k ≡ Some known → state_at (entry_kinds m code) code.instrs kept k ≡ known
  kept_there k known stands = ap (here (falls_in (entry_kinds m code) code.instrs kept k)) stands

  fallen_into : (k : ℕ) (o : Option KindsAt) → kept_at kept k ≡ o → ((known : KindsAt) → kept_at kept k ≡ Some known → IsHeld (falls_in (entry_kinds m code) code.instrs kept k) known)
      → IsHeld (falls_in (entry_kinds m code) code.instrs kept k) (here (falls_in (entry_kinds m code) code.instrs kept k) o)
  fallen_into k None is falling = at_self (falls_in (entry_kinds m code) code.instrs kept k)
  fallen_into k (Some known) is falling = falling known is

  falls_through : (k : ℕ) → falls (line code.instrs k).1 ≡ true → falls_in (entry_kinds m code) code.instrs kept (suc k) ≡ after (row_of (line code.instrs k).1) (state_at (entry_kinds m code) code.instrs kept k)
  unfolding falls_in
  falls_through k is = ap (λ b. cond b (after (row_of (line code.instrs k).1) (state_at (entry_kinds m code) code.instrs kept k)) NoKinds) is

  jump_flow : (k to : ℕ) → k < length code.instrs → IsQuiet (entry_kinds m code) code.instrs kept k → Contains (jumps (line code.instrs k).1) to
      → IsHeld (after (row_of (line code.instrs k).1) (state_at (entry_kinds m code) code.instrs kept k)) (walked_table (entry_kinds m code) code.instrs kept to)
  jump_flow k to inside quiet jump =
      let target = well.jumps_in k to inside jump in
      let there = quiet.jumping target.0 target.1 (subst (λ (n : ℕ). Contains (jumps (line code.instrs k).1) n) (sym target.2) jump) in
      let known : walked_table (entry_kinds m code) code.instrs kept to ≡ there.known = table_there target.0 to target.1 target.2 ∙ kept_there target.0 there.known there.stands in
      subst (λ (s : KindsAt). IsHeld (after (row_of (line code.instrs k).1) (state_at (entry_kinds m code) code.instrs kept k)) s) (sym known) there.held

  fall_flow : (k to : ℕ) → k < length code.instrs → ((k : ℕ) → k < length code.instrs → IsQuiet (entry_kinds m code) code.instrs kept k) → falls (line code.instrs k).1 ≡ true → offset_after code.instrs (line code.instrs k).0 ≡ Some to
      → IsHeld (after (row_of (line code.instrs k).1) (state_at (entry_kinds m code) code.instrs kept k)) (walked_table (entry_kinds m code) code.instrs kept to)
  fall_flow k to inside quiet falling behind =
      let next = next_place code.instrs k to (sym (offset_behind code.instrs k well.ascending inside) ∙ behind) in
      let table : walked_table (entry_kinds m code) code.instrs kept to ≡ state_at (entry_kinds m code) code.instrs kept (suc k) = table_there (suc k) to next.0 next.1 in
      let held : IsHeld (falls_in (entry_kinds m code) code.instrs kept (suc k)) (state_at (entry_kinds m code) code.instrs kept (suc k)) = fallen_into (suc k) (kept_at kept (suc k)) refl (quiet (suc k) next.0).falling in
      let brought : IsHeld (after (row_of (line code.instrs k).1) (state_at (entry_kinds m code) code.instrs kept k)) (state_at (entry_kinds m code) code.instrs kept (suc k)) =
      subst (λ (s : KindsAt). IsHeld s (state_at (entry_kinds m code) code.instrs kept (suc k))) (falls_through k falling) held in
      subst (λ (s : KindsAt). IsHeld (after (row_of (line code.instrs k).1) (state_at (entry_kinds m code) code.instrs kept k)) s) (sym table) brought

  flow_at : (k to : ℕ) → k < length code.instrs → ((k : ℕ) → k < length code.instrs → IsQuiet (entry_kinds m code) code.instrs kept k) → has (leads_to (option_to_list (offset_after code.instrs (line code.instrs k).0)) (line code.instrs k).1) to ≡ true
      → IsHeld (after (row_of (line code.instrs k).1) (state_at (entry_kinds m code) code.instrs kept k)) (walked_table (entry_kinds m code) code.instrs kept to)
  flow_at k to inside quiet leads =
      elim (leads_cases (option_to_list (offset_after code.instrs (line code.instrs k).0)) (line code.instrs k).1 to leads) [
        | inl jump ↦ jump_flow k to inside (quiet k inside) (Contains-from_has (jumps (line code.instrs k).1) to jump)
        | inr falling ↦ fall_flow k to inside quiet falling.0 (has_one (offset_after code.instrs (line code.instrs k).0) to falling.1)
      ]

  pub walked_closed : ((k : ℕ) → k < length code.instrs → IsQuiet (entry_kinds m code) code.instrs kept k) → IsClosedTable m code (walked_table (entry_kinds m code) code.instrs kept)
  unfolding falls_in
  walked_closed quiet = record {
    entry =
        let known : walked_table (entry_kinds m code) code.instrs kept 0 ≡ state_at (entry_kinds m code) code.instrs kept 0 = table_there 0 0 well.some well.first in
        subst (λ (s : KindsAt). IsHeld (entry_kinds m code) s) (sym known) (fallen_into 0 (kept_at kept 0) refl (quiet 0 well.some).falling);
    flow = λ offset to i there next.
        let s = stands code.instrs offset i there in
        let table : walked_table (entry_kinds m code) code.instrs kept offset ≡ state_at (entry_kinds m code) code.instrs kept s.place = table_there s.place offset s.inside s.offset_is in
        let leads : has (leads_to (option_to_list (offset_after code.instrs offset)) i) to ≡ true = has-from_Contains (successors_of code.instrs (offset, i)) to next in
        let leads_here : has (leads_to (option_to_list (offset_after code.instrs (line code.instrs s.place).0)) (line code.instrs s.place).1) to ≡ true =
        ap (λ (n : ℕ). has (leads_to (option_to_list (offset_after code.instrs n)) (line code.instrs s.place).1) to) s.offset_is ∙ ap (λ (j : Instr). has (leads_to (option_to_list (offset_after code.instrs offset)) j) to) s.instr_is ∙ leads in
        let held = flow_at s.place to s.inside quiet leads_here in
        let held_i : IsHeld (after (row_of i) (state_at (entry_kinds m code) code.instrs kept s.place)) (walked_table (entry_kinds m code) code.instrs kept to) =
        subst (λ (j : Instr). IsHeld (after (row_of j) (state_at (entry_kinds m code) code.instrs kept s.place)) (walked_table (entry_kinds m code) code.instrs kept to)) s.instr_is held in
        subst (λ (t : KindsAt). IsHeld (after (row_of i) t) (walked_table (entry_kinds m code) code.instrs kept to)) (sym table) held_i;
  }
