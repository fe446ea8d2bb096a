-- Code without flaws is closed: an instruction stands at its start, where each leads, and behind each behind
-- which control goes on.
use Rattle.std.proofs.Common.{◌≡◌, ℕ, ◌+◌, ◌<◌, ◌≤◌, ◌==◌, ◌⊎◌, inl, inr, ◌||◌, Bool, true, false, cond, if◌then◌else◌, List, [], ◌∷◌, ◌++◌, Option, None, Some, refl, sym, ap, subst, ◌∙◌, arith}
use Rattle.std.specs.Prelude.{length, map, Contains, option_to_list}
use Rattle.std.specs.List.{AllByRecursion, list_all, list_any}
use Rattle.std.specs.Option.{option_map}
use Rattle.std.proofs.lemmas.Bool.{eqb-true}
use Rattle.th_base.specs.IdSet.{has}
use Rattle.th_base.proofs.Membership.{has_append_cases, has_append_left, has_push, has-from_Contains}
use Rattle.th_base.proofs.Orders.{has-cons_cases}
use Rattle.th_syntax.specs.declared.instr.TheConstants.{OUTSIDE}
use Rattle.th_syntax.specs.declared.instr.Instr.{Instr}
use Rattle.th_syntax.specs.declared.instr.Instr.TheVariants.{Nop, Null, Int, Long, Str, ILoad, LLoad, ALoad, IStore, LStore, AStore, ArrayLoad, LArrayLoad, ArrayStore, LArrayStore, Stack, Arith, LArith, Neg, LNeg, Inc, Narrow, I2L, L2I, LCmp, IfZero, IfInts, IfSame, IfOther, IfNull, IfNotNull, Goto, TableSwitch, LookupSwitch, IReturn, LReturn, AReturn, Return, GetStatic, PutStatic, GetField, PutField, InvokeVirtual, InvokeSpecial, InvokeInterface, InvokeStatic, New, NewArray, ANewArray, ArrayLength, Throw, CheckCast, InstanceOf, MonitorEnter, MonitorExit}
use Rattle.th_syntax.specs.Changes.{FallsThrough}
use Rattle.th_syntax.specs.ClassBytes.{Pool}
use Rattle.th_syntax.specs.CodeBytes.{instr, instruction}
use Rattle.th_syntax.specs.Decoding.{is_start, offset_behind, flows_well, flow_flaws_from, AreSpelled, none, more}
use Rattle.th_syntax.specs.Flow.{placed_at, instr_in, first_offset, offset_after, leads_to, successors_of}
use Rattle.th_syntax.proofs.Inverting.{some_is, both}
use Rattle.th_syntax.proofs.Reading.{stands_read}
use Rattle.th_syntax.proofs.ReadingParts.{read_length}
use Rattle.th_syntax.proofs.Spelling.{instruction_ahead}
use Rattle.th_syntax.proofs.Visiting.{placed_of, IsFound, after_found}
use Rattle.th_runs.specs.Sound.{IsClosed}
use Rattle.th_runs.proofs.Above.{nil_left, nil_right, unless_nil}

-- ---- where an instruction leads: to what is behind it and before that to some offsets, or to these alone

shape : (i : Instr) → ((front : List ℕ) × ((b : List ℕ) → leads_to b i ≡ front ++ b)) ⊎ ((front : List ℕ) × ((b : List ℕ) → leads_to b i ≡ front))
shape Nop = inl ([], λ b. refl)
shape Null = inl ([], λ b. refl)
shape (Int n) = inl ([], λ b. refl)
shape (Long n) = inl ([], λ b. refl)
shape (Str text) = inl ([], λ b. refl)
shape (ILoad n) = inl ([], λ b. refl)
shape (LLoad n) = inl ([], λ b. refl)
shape (ALoad n) = inl ([], λ b. refl)
shape (IStore n) = inl ([], λ b. refl)
shape (LStore n) = inl ([], λ b. refl)
shape (AStore n) = inl ([], λ b. refl)
shape (ArrayLoad e) = inl ([], λ b. refl)
shape LArrayLoad = inl ([], λ b. refl)
shape (ArrayStore e) = inl ([], λ b. refl)
shape LArrayStore = inl ([], λ b. refl)
shape (Stack op) = inl ([], λ b. refl)
shape (Arith op) = inl ([], λ b. refl)
shape (LArith op) = inl ([], λ b. refl)
shape Neg = inl ([], λ b. refl)
shape LNeg = inl ([], λ b. refl)
shape (Inc n by) = inl ([], λ b. refl)
shape (Narrow op) = inl ([], λ b. refl)
shape I2L = inl ([], λ b. refl)
shape L2I = inl ([], λ b. refl)
shape LCmp = inl ([], λ b. refl)
shape (IfZero relation target) = inl (target ∷ [], λ b. refl)
shape (IfInts relation target) = inl (target ∷ [], λ b. refl)
shape (IfSame target) = inl (target ∷ [], λ b. refl)
shape (IfOther target) = inl (target ∷ [], λ b. refl)
shape (IfNull target) = inl (target ∷ [], λ b. refl)
shape (IfNotNull target) = inl (target ∷ [], λ b. refl)
shape (Goto target) = inr (target ∷ [], λ b. refl)
shape (TableSwitch low targets other) = inr (targets ++ other ∷ [], λ b. refl)
shape (LookupSwitch pairs other) = inr (map (λ pair. pair.1) pairs ++ other ∷ [], λ b. refl)
shape IReturn = inr ([], λ b. refl)
shape LReturn = inr ([], λ b. refl)
shape AReturn = inr ([], λ b. refl)
shape Return = inr ([], λ b. refl)
shape (GetStatic r) = inl ([], λ b. refl)
shape (PutStatic r) = inl ([], λ b. refl)
shape (GetField r) = inl ([], λ b. refl)
shape (PutField r) = inl ([], λ b. refl)
shape (InvokeVirtual r) = inl ([], λ b. refl)
shape (InvokeSpecial r) = inl ([], λ b. refl)
shape (InvokeInterface r) = inl ([], λ b. refl)
shape (InvokeStatic r) = inl ([], λ b. refl)
shape (New name) = inl ([], λ b. refl)
shape (NewArray type) = inl ([], λ b. refl)
shape (ANewArray name) = inl ([], λ b. refl)
shape ArrayLength = inl ([], λ b. refl)
shape Throw = inr ([], λ b. refl)
shape (CheckCast name) = inl ([], λ b. refl)
shape (InstanceOf name) = inl ([], λ b. refl)
shape MonitorEnter = inl ([], λ b. refl)
shape MonitorExit = inl ([], λ b. refl)

-- ---- starts

start_by : (x : ℕ × Instr) (xs : List (ℕ × Instr)) (to : ℕ) (b : Bool) → (b || list_any (λ one. one.0 == to) xs) ≡ true → (list_any (λ one. one.0 == to) xs ≡ true → (j : Instr) × (option_map (λ (i : ℕ × Instr). i.1) (placed_at xs to) ≡ Some j))
    → (j : Instr) × (option_map (λ (i : ℕ × Instr). i.1) (cond b (Some x) (placed_at xs to)) ≡ Some j)
start_by x xs to true e rest = (x.1, refl)
start_by x xs to false e rest = rest e

pub start_stands : (xs : List (ℕ × Instr)) (to : ℕ) → is_start xs to ≡ true → (j : Instr) × (instr_in xs to ≡ Some j)
start_stands [] to e = absurd cc
start_stands (x ∷ xs) to e = start_by x xs to (x.0 == to) e (start_stands xs to)

pub all_has : (p : ℕ → Bool) (xs : List ℕ) (x : ℕ) → list_all p xs ≡ true → has xs x ≡ true → p x ≡ true
all_has p [] x all h = absurd cc
all_has p (y ∷ xs) x all h =
    let parts = both (p y) (list_all p xs) all in
    elim (has-cons_cases y xs x h) [ inl same ↦ ap p (sym same) ∙ parts.0 | inr rest ↦ all_has p xs x parts.1 rest ]

found_stands : (xs : List (ℕ × Instr)) (to : ℕ) → IsFound xs to → (j : Instr) × (instr_in xs to ≡ Some j)
found_stands xs to found = (found.at.1, ap (option_map (λ (i : ℕ × Instr). i.1)) found.found)

-- ---- the instructions behind one

record IsPlaced (instrs xs : List (ℕ × Instr)) (offset : ℕ) (i : Instr) : Type 0 where
  more_behind : List (ℕ × Instr)
  flows : flows_well instrs more_behind i ≡ true
  after : offset_after xs offset ≡ first_offset more_behind

placed_by : (instrs : List (ℕ × Instr)) (x : ℕ × Instr) (xs : List (ℕ × Instr)) (offset : ℕ) (i : Instr) (b : Bool) → flows_well instrs xs x.1 ≡ true → (x.0 == offset) ≡ b → cond b (Some x) (placed_at xs offset) ≡ Some (offset, i)
    → (placed_at xs offset ≡ Some (offset, i) → IsPlaced instrs xs offset i) → IsPlaced instrs (x ∷ xs) offset i
placed_by instrs x xs offset i true flows is e rest =
    let same : x ≡ (offset, i) = some_is x (offset, i) e in
    record {
      more_behind = xs;
      flows = ap (λ (y : ℕ × Instr). flows_well instrs xs y.1) (sym same) ∙ flows;
      after = ap (λ b. if b then first_offset xs else offset_after xs offset) is;
    }
placed_by instrs x xs offset i false flows is e rest =
    let more_of = rest e in
    record { more_behind = more_of.more_behind; flows = more_of.flows; after = ap (λ b. if b then first_offset xs else offset_after xs offset) is ∙ more_of.after }

placed_in : (instrs : List (ℕ × Instr)) (start : ℕ) (xs : List (ℕ × Instr)) (offset : ℕ) (i : Instr) → flow_flaws_from instrs start xs ≡ [] → placed_at xs offset ≡ Some (offset, i) → IsPlaced instrs xs offset i
placed_in instrs start [] offset i e at = absurd cc
placed_in instrs start (x ∷ xs) offset i e at =
    placed_by instrs x xs offset i (x.0 == offset) (unless_nil (flows_well instrs xs x.1) _ (nil_left _ (flow_flaws_from instrs start xs) e)) refl at
    (placed_in instrs start xs offset i (nil_right _ (flow_flaws_from instrs start xs) e))

-- ---- offsets lie within the code

pub spelled_within : (pool : Pool) (pc : ℕ) (bytes : List ℕ) (instrs : List (ℕ × Instr)) → AreSpelled pool pc bytes instrs → AllByRecursion (λ (x : ℕ × Instr). x.0 < pc + length bytes) instrs
spelled_within pool pc bytes _ none = tt
spelled_within pool pc bytes _ (more i behind others rest stands later) =
    let found = stands_read (instruction pool) pc bytes (instr i) behind others stands in
    let ahead : pc + 1 ≤ behind = instruction_ahead pool pc bytes (instr i, behind, others) found in
    let sum : behind + length others ≡ pc + length bytes = read_length (instruction pool) pc bytes (instr i, behind, others) found in
    ((let inside : pc < pc + length bytes = omega arith in inside), subst (λ n. AllByRecursion (λ (x : ℕ × Instr). x.0 < n) rest) sum (spelled_within pool behind others rest later))

outside_by : (x : ℕ × Instr) (xs : List (ℕ × Instr)) (to end : ℕ) (b : Bool) → (x.0 == to) ≡ b → x.0 < end → end ≤ to → (b || list_any (λ one. one.0 == to) xs) ≡ true → (list_any (λ one. one.0 == to) xs ≡ true → ⊥) → ⊥
outside_by x xs to end true is less over e rest = let same = eqb-true x.0 to is in omega arith
outside_by x xs to end false is less over e rest = rest e

not_start : (xs : List (ℕ × Instr)) (to end : ℕ) → AllByRecursion (λ (x : ℕ × Instr). x.0 < end) xs → end ≤ to → is_start xs to ≡ true → ⊥
not_start [] to end all over e = absurd cc
not_start (x ∷ xs) to end all over e = outside_by x xs to end (x.0 == to) refl all.0 over e (not_start xs to end all.1 over)

-- ---- closed code

first_starts : (pool : Pool) (bytes : List ℕ) (instrs : List (ℕ × Instr)) → AreSpelled pool 0 bytes instrs → 0 < length bytes → (i : Instr) × (instr_in instrs 0 ≡ Some i)
first_starts pool _ _ none less = absurd (omega arith)
first_starts pool bytes _ (more i behind others rest stands later) less = (i, refl)

in_front : (xs ys : List ℕ) (x : ℕ) → has xs x ≡ true → has (xs ++ ys) x ≡ true
in_front xs ys x h = has_append_left xs ys x h

listed : (o : Option ℕ) (d : ℕ) → has (option_to_list o) d ≡ true → o ≡ Some d
listed None d h = absurd cc
listed (Some k) d h = elim (has-cons_cases k [] d h) [ inl same ↦ ap (λ (n : ℕ). Some n) same | inr nothing ↦ absurd cc ]

-- control goes on to an offset behind an instruction, which the last one has not
next_of : (instrs more_behind : List (ℕ × Instr)) (end : ℕ) → AllByRecursion (λ (x : ℕ × Instr). x.0 < end) instrs → end ≤ OUTSIDE → is_start instrs (offset_behind more_behind) ≡ true → (next : ℕ) × (first_offset more_behind ≡ Some next)
next_of instrs [] end all few e = absurd (not_start instrs OUTSIDE end all few e)
next_of instrs (x ∷ xs) end all few e = (x.0, refl)

module _ (pool : Pool) (bytes : List ℕ) (start : ℕ) (instrs : List (ℕ × Instr)) (spelled : AreSpelled pool 0 bytes instrs) (some : 0 < length bytes) (few : length bytes < OUTSIDE) (flows : flow_flaws_from instrs start instrs ≡ []) where
  front_starts : (offset to : ℕ) (i : Instr) (at : IsPlaced instrs instrs offset i) (front : List ℕ) → ((x : ℕ) → has front x ≡ true → has (leads_to (offset_behind at.more_behind ∷ []) i) x ≡ true) → has front to ≡ true → is_start instrs to ≡ true
  front_starts offset to i at front inside h = all_has (is_start instrs) (leads_to (offset_behind at.more_behind ∷ []) i) to at.flows (inside to h)

  leads_from : (offset to : ℕ) (i : Instr) → IsPlaced instrs instrs offset i → Contains (successors_of instrs (offset, i)) to → (j : Instr) × (instr_in instrs to ≡ Some j)
  leads_from offset to i at leads =
      let h : has (leads_to (option_to_list (offset_after instrs offset)) i) to ≡ true = has-from_Contains (successors_of instrs (offset, i)) to leads in
      elim (shape i) [
        | inl falls ↦
            elim (has_append_cases falls.0 (option_to_list (offset_after instrs offset)) to (ap (λ xs. has xs to) (sym (falls.1 (option_to_list (offset_after instrs offset)))) ∙ h)) [
              | inl front ↦ start_stands instrs to (front_starts offset to i at falls.0 (λ x e. ap (λ xs. has xs x) (falls.1 (offset_behind at.more_behind ∷ [])) ∙ in_front falls.0 (offset_behind at.more_behind ∷ []) x e) front)
              | inr behind ↦ found_stands instrs to (after_found instrs offset to (listed (offset_after instrs offset) to behind))
            ]
        | inr only ↦
            start_stands instrs to (front_starts offset to i at only.0 (λ x e. ap (λ xs. has xs x) (only.1 (offset_behind at.more_behind ∷ [])) ∙ e) (ap (λ xs. has xs to) (sym (only.1 (option_to_list (offset_after instrs offset)))) ∙ h))
      ]

  goes_from : (offset : ℕ) (i : Instr) → IsPlaced instrs instrs offset i → FallsThrough i → (next : ℕ) × (offset_after instrs offset ≡ Some next)
  goes_from offset i at falls =
      let behind : ℕ = offset_behind at.more_behind in
      let inside : has (leads_to (behind ∷ []) i) behind ≡ true = ap (λ xs. has xs behind) (falls.1 (behind ∷ [])) ∙ has_push falls.0 behind in
      let next = next_of instrs at.more_behind (0 + length bytes) (spelled_within pool 0 bytes instrs spelled) (omega arith) (all_has (is_start instrs) (leads_to (behind ∷ []) i) behind at.flows inside) in
      (next.0, at.after ∙ next.1)

  pub closed_code : IsClosed instrs
  closed_code = record {
    begins = first_starts pool bytes instrs spelled some;
    leads = λ offset to i at. leads_from offset to i (placed_in instrs start instrs offset i flows (placed_of instrs offset i at));
    goes_on = λ offset i at. goes_from offset i (placed_in instrs start instrs offset i flows (placed_of instrs offset i at));
  }
