-- Scripts, event by event.
use Rattle.std.proofs.Common.{◌≡◌, ◌+◌, ◌<◌, ◌≤◌, ◌&&◌, ℕ, Bool, true, false, List, [], ◌∷◌, ◌++◌, length, drop, get_or, append_assoc, add-one, refl, sym, ap, ◌∙◌, subst, arith, Option, Some, None, Result, Ok, Err}
use Rattle.std.specs.Prelude.{not, IsErrAnd}
use Rattle.std.proofs.Math.Seq.{drop-cons}
use Rattle.std.proofs.lemmas.List.{append-nil, drop_all}
use Rattle.th_base.specs.declared.fail.Fail.{Fail}
use Rattle.th_base.specs.declared.fail.Fail.TheVariants.{Refused, NoMemory}
use Rattle.th_base.specs.declared.lifecycle.Lifecycle.{Lifecycle}
use Rattle.th_syntax.specs.declared.class_file.ClassFile.{ClassFile}
use Rattle.th_syntax.specs.declared.event.Event.{Event}
use Rattle.th_syntax.specs.declared.machine.Frame.{Frame}
use Rattle.th_syntax.specs.declared.machine.State.{State}
use Rattle.th_syntax.specs.Harness.{is_idle}
use Rattle.th_machine.specs.declared.outcome.Outcome.{Outcome}
use Rattle.th_machine.specs.declared.outcome.Outcome.TheVariants as outcome
use Rattle.th_machine.specs.declared.report.Report.{Report}
use Rattle.th_machine.specs.declared.report.ScriptFault.{ScriptFault}
use Rattle.th_machine.specs.Running.{Standing, Answers, GoesOn, is_at_rest}
use Rattle.th_machine.specs.Script.{Answered, IsScriptRun, RunsScript, Tells, before, begun}

-- ---- what is so after an event

rests_where : (s : State) → s.ended ≡ false → s.frames ≡ [] → is_at_rest s ≡ true
rests_where s runs idle = ap (λ (a : Bool). not a && is_idle s.frames) runs ∙ ap is_idle idle

run_rests : (files : List ClassFile) (fuel left : ℕ) (s t : State) (o : Outcome) → GoesOn files fuel s left t o → o ≡ outcome.Idle → is_at_rest t ≡ true
run_rests files fuel left s t o (GoesOn.ends n u ended) is = cc
run_rests files fuel left s t o (GoesOn.rests n u runs idle) is = rests_where u runs idle
run_rests files fuel left s t o (GoesOn.stops u runs framed) is = cc
run_rests files fuel left s t o (GoesOn.has_no_room n u next steps full) is = cc
run_rests files fuel left s t o (GoesOn.steps n m u next v p steps room goes) is = run_rests files n m next v p goes is

-- the machine is that of the same program, and at rest where the outcome is Idle
record IsStill (m t : Standing) (o : Option Outcome) : Type 0 where
  files : t.files ≡ m.files
  rests : o ≡ Some outcome.Idle → is_at_rest t.state ≡ true

answer_rests : (m t : Standing) (e : Event) (fuel left : ℕ) (o : Option Outcome) → Answers m e fuel t left o → IsStill m t o
answer_rests m t e fuel left o (Answers.refused none) = record { files = refl; rests = λ is. let never : None ≡ Some outcome.Idle = is in cc }
answer_rests m t e fuel left o (Answers.no_room w is full) =
    record { files = refl; rests = λ idle. let same : Some outcome.Full ≡ Some outcome.Idle = idle in cc }
answer_rests m t e fuel left o (Answers.made w u k p is room goes) = record {
  files = refl;
  rests = λ idle. let same : Some p ≡ Some outcome.Idle = idle in let out : p ≡ outcome.Idle = cc in run_rests m.files fuel k w u p goes out;
}

-- an answer that memory ran out says nothing of the run
pub wants_memory : (IsSo : Result (List Report) ScriptFault → Type 0) (r : Result (List Report) (Fail ScriptFault)) → IsErrAnd r (λ f. f ≡ NoMemory)
    → Answered IsSo r
wants_memory IsSo (Ok reports) none = absurd none
wants_memory IsSo (Err (Refused fault)) is = let never : Refused fault ≡ NoMemory = is in cc
wants_memory IsSo (Err NoMemory) is = tt

-- ---- the reports so far

-- reports before those of the events that follow
abbrev pub all_before : List Report → Result (List Report) ScriptFault → Result (List Report) ScriptFault
all_before reports (Ok more) = Ok (reports ++ more)
all_before reports (Err fault) = Err fault

none_before : (rest : Result (List Report) ScriptFault) → all_before [] rest ≡ rest
none_before (Ok more) = refl
none_before (Err fault) = refl

one_more : (reports now : List Report) (r : Report) (rest : Result (List Report) ScriptFault) → now ≡ reports ++ r ∷ []
    → all_before reports (before r rest) ≡ all_before now rest
one_more reports now r (Ok more) grown =
    let same : (reports ++ r ∷ []) ++ more ≡ reports ++ r ∷ more = append_assoc reports (r ∷ []) more in
    ap (λ (l : List Report). Ok l) (sym same ∙ ap (λ (l : List Report). l ++ more) (sym grown))
one_more reports now r (Err fault) grown = refl

-- so many events have been made: what comes of the others comes of the script, behind these reports
pub record IsMadeSoFar (files : List ClassFile) (lifecycle : Lifecycle) (fuel : ℕ) (events : List Event) (place : ℕ) (now : Standing) (left : ℕ)
    (reports : List Report) : Type 0 where
  pub program : now.files ≡ files
  pub rests : is_at_rest now.state ≡ true
  pub leads : (rest : Result (List Report) ScriptFault) → IsScriptRun now left (place + 1) (drop place events) rest
      → RunsScript files lifecycle fuel events (all_before reports rest)

pub none_made : (files : List ClassFile) (lifecycle : Lifecycle) (fuel : ℕ) (events : List Event)
    → IsMadeSoFar files lifecycle fuel events 0 (begun files lifecycle) fuel []
none_made files lifecycle fuel events = record {
  program = refl;
  rests = refl;
  leads = λ rest runs. subst (λ (r : Result (List Report) ScriptFault). RunsScript files lifecycle fuel events r) (sym (none_before rest)) runs;
}

-- the events from a place on begin with the one there
next_event : (events : List Event) (place : ℕ) (other : Event) → place < length events
    → drop place events ≡ get_or events place other ∷ drop (place + 1) events
next_event events place other within = drop-cons events place other within ∙ rw add-one refl

module _ (files : List ClassFile) (lifecycle : Lifecycle) (fuel : ℕ) (events : List Event) (place : ℕ) (other : Event) (within : place < length events) where
  abbrev e : Event
  e = get_or events place other

  -- an event more
  pub one_made : (now t : Standing) (left rest : ℕ) (reports more : List Report) (r : Report)
      → IsMadeSoFar files lifecycle fuel events place now left reports → Tells now e left t rest (Some r) → r.outcome ≡ outcome.Idle → more ≡ reports ++ r ∷ []
      → IsMadeSoFar files lifecycle fuel events (place + 1) t rest more
  one_made now t left rest reports more r so_far tells idle grown =
      let still = answer_rests now t e left rest (Some r.outcome) tells.0 in
      record {
        program = still.files ∙ so_far.program;
        rests = still.rests (ap (λ (o : Outcome). Some o) idle);
        leads = λ results runs.
            subst (λ (x : Result (List Report) ScriptFault). RunsScript files lifecycle fuel events x) (one_more reports more r results grown)
            (so_far.leads (before r results)
            (subst (λ (es : List Event). IsScriptRun now left (place + 1) es (before r results)) (sym (next_event events place other within))
            (IsScriptRun.goes now t left rest (place + 1) e (drop (place + 1) events) r results tells idle runs)));
      }

  -- an event after which no more is made
  pub last_made : (now t : Standing) (left rest : ℕ) (reports more : List Report) (r : Report)
      → IsMadeSoFar files lifecycle fuel events place now left reports → Tells now e left t rest (Some r) → (r.outcome ≡ outcome.Idle → ⊥) → more ≡ reports ++ r ∷ []
      → RunsScript files lifecycle fuel events (Ok more)
  last_made now t left rest reports more r so_far tells stops grown =
      subst (λ (l : List Report). RunsScript files lifecycle fuel events (Ok l)) (sym grown)
      (so_far.leads (Ok (r ∷ []))
      (subst (λ (es : List Event). IsScriptRun now left (place + 1) es (Ok (r ∷ []))) (sym (next_event events place other within))
      (IsScriptRun.stops now t left rest (place + 1) e (drop (place + 1) events) r tells stops)))

  -- an event that can't happen
  pub none_told : (now t : Standing) (left rest : ℕ) (reports : List Report)
      → IsMadeSoFar files lifecycle fuel events place now left reports → Tells now e left t rest None
      → RunsScript files lifecycle fuel events (Err record { event = place + 1 })
  none_told now t left rest reports so_far tells =
      so_far.leads (Err record { event = place + 1 })
      (subst (λ (es : List Event). IsScriptRun now left (place + 1) es (Err record { event = place + 1 })) (sym (next_event events place other within))
      (IsScriptRun.refused now t left rest (place + 1) e (drop (place + 1) events) tells))

-- all are made
pub all_made : (files : List ClassFile) (lifecycle : Lifecycle) (fuel : ℕ) (events : List Event) (place : ℕ) (now : Standing) (left : ℕ) (reports : List Report)
    → length events ≤ place → IsMadeSoFar files lifecycle fuel events place now left reports → RunsScript files lifecycle fuel events (Ok reports)
all_made files lifecycle fuel events place now left reports past so_far =
    subst (λ (l : List Report). RunsScript files lifecycle fuel events (Ok l)) (append-nil reports)
    (so_far.leads (Ok [])
    (subst (λ (es : List Event). IsScriptRun now left (place + 1) es (Ok [])) (sym (drop_all place events past)) (IsScriptRun.done now left (place + 1))))
