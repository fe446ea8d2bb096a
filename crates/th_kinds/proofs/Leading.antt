-- Where an instruction leads: to its jumps, and behind itself where control falls through it.
use Rattle.std.proofs.Common.{◌≡◌, ℕ, ◌==◌, ◌||◌, ◌⊎◌, inl, inr, Bool, true, false, List, [], ◌∷◌, refl}
use Rattle.std.proofs.lemmas.Bool.{eq-eqb}
use Rattle.th_base.specs.IdSet.{has}
use Rattle.th_syntax.specs.declared.instr.Instr.{Instr}
use Rattle.th_syntax.specs.declared.instr.Instr.TheVariants.{IfZero, IfInts, IfSame, IfOther, IfNull, IfNotNull, Goto, TableSwitch, LookupSwitch, IReturn, LReturn, AReturn, Return, Throw}
use Rattle.th_syntax.specs.Flow.{leads_to}
use Rattle.th_kinds.specs.Walk.{falls, jumps}

or_more : (x y : Bool) → (x || false) ≡ true → (x || y) ≡ true
or_more true y e = refl
or_more false y e = absurd cc

pub jump_leads : (behind : List ℕ) (i : Instr) (to : ℕ) → has (jumps i) to ≡ true → has (leads_to behind i) to ≡ true
jump_leads behind (IfZero relation target) to e = or_more (target == to) (has behind to) e
jump_leads behind (IfInts relation target) to e = or_more (target == to) (has behind to) e
jump_leads behind (IfSame target) to e = or_more (target == to) (has behind to) e
jump_leads behind (IfOther target) to e = or_more (target == to) (has behind to) e
jump_leads behind (IfNull target) to e = or_more (target == to) (has behind to) e
jump_leads behind (IfNotNull target) to e = or_more (target == to) (has behind to) e
jump_leads behind (Goto target) to e = e
jump_leads behind (TableSwitch low targets other) to e = e
jump_leads behind (LookupSwitch pairs other) to e = e
jump_leads behind i to e = absurd cc

or_last : (x y : Bool) → y ≡ true → (x || (y || false)) ≡ true
or_last true y e = refl
or_last false true e = refl
or_last false false e = absurd cc

one_has : (next : ℕ) → (next == next || false) ≡ true
one_has next = or_last false (next == next) (eq-eqb next next refl)

pub falls_lead : (next : ℕ) (i : Instr) → falls i ≡ true → has (leads_to (next ∷ []) i) next ≡ true
falls_lead next (IfZero relation target) e = or_last (target == next) (next == next) (eq-eqb next next refl)
falls_lead next (IfInts relation target) e = or_last (target == next) (next == next) (eq-eqb next next refl)
falls_lead next (IfSame target) e = or_last (target == next) (next == next) (eq-eqb next next refl)
falls_lead next (IfOther target) e = or_last (target == next) (next == next) (eq-eqb next next refl)
falls_lead next (IfNull target) e = or_last (target == next) (next == next) (eq-eqb next next refl)
falls_lead next (IfNotNull target) e = or_last (target == next) (next == next) (eq-eqb next next refl)
falls_lead next (Goto target) e = absurd cc
falls_lead next (TableSwitch low targets other) e = absurd cc
falls_lead next (LookupSwitch pairs other) e = absurd cc
falls_lead next IReturn e = absurd cc
falls_lead next LReturn e = absurd cc
falls_lead next AReturn e = absurd cc
falls_lead next Return e = absurd cc
falls_lead next Throw e = absurd cc
falls_lead next i e = one_has next

or_split : (x y : Bool) → (x || y) ≡ true → ((x || false) ≡ true) ⊎ ((let t : Bool = true in t ≡ true) × (y ≡ true))
or_split true y e = inl refl
or_split false y e = inr (refl, e)

pub leads_cases : (behind : List ℕ) (i : Instr) (to : ℕ) → has (leads_to behind i) to ≡ true → (has (jumps i) to ≡ true) ⊎ ((falls i ≡ true) × (has behind to ≡ true))
leads_cases behind (IfZero relation target) to e = or_split (target == to) (has behind to) e
leads_cases behind (IfInts relation target) to e = or_split (target == to) (has behind to) e
leads_cases behind (IfSame target) to e = or_split (target == to) (has behind to) e
leads_cases behind (IfOther target) to e = or_split (target == to) (has behind to) e
leads_cases behind (IfNull target) to e = or_split (target == to) (has behind to) e
leads_cases behind (IfNotNull target) to e = or_split (target == to) (has behind to) e
leads_cases behind (Goto target) to e = inl e
leads_cases behind (TableSwitch low targets other) to e = inl e
leads_cases behind (LookupSwitch pairs other) to e = inl e
leads_cases behind IReturn to e = absurd cc
leads_cases behind LReturn to e = absurd cc
leads_cases behind AReturn to e = absurd cc
leads_cases behind Return to e = absurd cc
leads_cases behind Throw to e = absurd cc
leads_cases behind i to e = inr (refl, e)
