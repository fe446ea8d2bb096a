use Rattle.std.proofs.Common.{refl, arith, codes, inl, inr, ap, ◌∙◌}
use Rattle.th_top.specs.Asked.{lifecycle_in}
use Rattle.th_top.specs.Outcome.{reports, misuses, refuses, lacks}
use Rattle.th_top.specs.Writing.{with_text}
use Rattle.th_top.specs.declared.status.Status.TheVariants.{NoneSurvive, SomeSurvive}
use Rattle.th_top.proofs.Answering as answering
use Rattle.th_top.proofs.top.thresher.Goals as goal

-- ---- the report was written, or nothing was to be written

pub returns-in-Ok-write_text-clause-usage : goal.returns-in-Ok-write_text-clause-usage
returns-in-Ok-write_text-clause-usage g c = λ is. answering.usage_is _ _ _ _ _ c.in-Ok.decided c.in-Ok.ensures.decides is

pub returns-in-Ok-write_text-clause-usage_always : goal.returns-in-Ok-write_text-clause-usage_always
returns-in-Ok-write_text-clause-usage_always g c = λ err. inl (answering.usage_comes _ _ _ _ _ c.in-Ok.decided c.in-Ok.ensures.decides err).0

pub returns-in-Ok-write_text-clause-script_always : goal.returns-in-Ok-write_text-clause-script_always
returns-in-Ok-write_text-clause-script_always g c = λ command store error is tells comes same.
    inl (answering.shown c.one_outcome.ensures _ _ _ _ _ c.in-Ok.decided command store (misuses error) c.in-Ok.ensures.decides is tells comes (λ h. h) same).status_is

pub returns-in-Ok-write_text-clause-refused : goal.returns-in-Ok-write_text-clause-refused
returns-in-Ok-write_text-clause-refused g c = λ is. answering.refused_is _ _ _ _ _ c.in-Ok.decided c.in-Ok.ensures.decides is

pub returns-in-Ok-write_text-clause-refused_always : goal.returns-in-Ok-write_text-clause-refused_always
returns-in-Ok-write_text-clause-refused_always g c = λ command store refusal is tells comes same.
    inl (answering.shown c.one_outcome.ensures _ _ _ _ _ c.in-Ok.decided command store (refuses refusal) c.in-Ok.ensures.decides is tells comes (λ h. h) same).status_is

pub returns-in-Ok-write_text-clause-read_fault : goal.returns-in-Ok-write_text-clause-read_fault
returns-in-Ok-write_text-clause-read_fault g c = λ is. answering.fault_is _ _ _ _ _ c.in-Ok.decided c.in-Ok.ensures.decides is

pub returns-in-Ok-write_text-clause-read_fault_always : goal.returns-in-Ok-write_text-clause-read_fault_always
returns-in-Ok-write_text-clause-read_fault_always g c = λ more. inl (answering.fault_comes _ _ _ _ _ c.in-Ok.decided c.in-Ok.ensures.decides more).0

pub returns-in-Ok-write_text-clause-missing_always : goal.returns-in-Ok-write_text-clause-missing_always
returns-in-Ok-write_text-clause-missing_always g c = λ command store name is tells comes.
    elim (answering.shown_or_fault c.one_outcome.ensures _ _ _ _ _ c.in-Ok.decided command store (lacks name) c.in-Ok.ensures.decides is tells comes (λ h. h)) [
      | inl shows ↦ inl shows.status_is
      | inr fault ↦ inl fault.0
    ]

pub returns-in-Ok-write_text-clause-none : goal.returns-in-Ok-write_text-clause-none
returns-in-Ok-write_text-clause-none g c = λ is.
    answering.writes_is NoneSurvive _ _ _ _ _ c.in-Ok.decided _ _ tt c.in-Ok.ensures.decides is (rw (← c.as_bytes.ensures) c.in-Ok-write_text.ensures.whole)

pub returns-in-Ok-write_text-clause-some : goal.returns-in-Ok-write_text-clause-some
returns-in-Ok-write_text-clause-some g c = λ is.
    answering.writes_is SomeSurvive _ _ _ _ _ c.in-Ok.decided _ _ tt c.in-Ok.ensures.decides is (rw (← c.as_bytes.ensures) c.in-Ok-write_text.ensures.whole)

pub returns-in-Ok-write_text-clause-outcome_always : goal.returns-in-Ok-write_text-clause-outcome_always
returns-in-Ok-write_text-clause-outcome_always g c = λ command store outcome is tells comes fine same out_same.
    let shows = answering.shown c.one_outcome.ensures _ _ _ _ _ c.in-Ok.decided command store outcome c.in-Ok.ensures.decides is tells comes fine same in
    inl (record { status_is = shows.status_is; written = rw (← shows.text_is, ← c.as_bytes.ensures) c.in-Ok-write_text.ensures.whole })

pub returns-in-Ok-write_text-clause-safe : goal.returns-in-Ok-write_text-clause-safe
returns-in-Ok-write_text-clause-safe g c = λ command store classes report is tells comes same out_same.
    let shows = answering.shown c.one_outcome.ensures _ _ _ _ _ c.in-Ok.decided command store (reports classes report) c.in-Ok.ensures.decides is tells comes (λ h. h) same in
    inl (record {
      written = rw (← shows.text_is, ← c.as_bytes.ensures) c.in-Ok-write_text.ensures.whole;
      all_joined = c.all_joined_survive.ensures _ command classes report (lifecycle_in command) comes;
    })

pub returns-in-Ok-write_text-clause-write_fault : goal.returns-in-Ok-write_text-clause-write_fault
returns-in-Ok-write_text-clause-write_fault g c =
    (λ is. absurd (answering.never_written _ _ _ _ _ c.in-Ok.decided c.in-Ok.ensures.decides is), λ more. absurd (let same = c.in-Ok-write_text.ensures.counted in let h : ⊥ = omega (arith, more, same) in h))

pub returns-in-Ok-write_text-clause-part : goal.returns-in-Ok-write_text-clause-part
returns-in-Ok-write_text-clause-part g c = λ is. absurd (answering.never_written _ _ _ _ _ c.in-Ok.decided c.in-Ok.ensures.decides is)

pub returns-in-Ok-write_text-clause-out_kept : goal.returns-in-Ok-write_text-clause-out_kept
returns-in-Ok-write_text-clause-out_kept g c = λ not_none not_some not_fault.
    let nothing = answering.nothing_written _ _ _ _ _ c.in-Ok.decided c.in-Ok.ensures.decides not_none not_some in
    c.in-Ok-write_text.ensures.whole ∙ ap (with_text _) (c.as_bytes.ensures ∙ nothing) ∙ answering.held_as_before _

pub returns-in-Ok-write_text-clause-line : goal.returns-in-Ok-write_text-clause-line
returns-in-Ok-write_text-clause-line g c = record {
  line = c.in-Ok.decided.line;
  must = answering.line_is _ _ _ _ _ c.in-Ok.decided c.in-Ok.ensures.decides;
  has = rw (← c.as_bytes-in-Ok-write_text.ensures) c.say-in-Ok-write_text.ensures;
}

-- ---- a write failed, so something was to be written

pub returns-clause-usage_always : goal.returns-clause-usage_always
returns-clause-usage_always g c = λ err.
    let part = rw c.as_bytes.ensures at c.in-Err.ensures.part in
    answering.nothing_more c.in-Ok.decided.text part.0 part.1 (answering.usage_comes _ _ _ _ _ c.in-Ok.decided c.in-Ok.ensures.decides err).1

pub returns-clause-script_always : goal.returns-clause-script_always
returns-clause-script_always g c = λ command store error is tells comes same.
    let part = rw c.as_bytes.ensures at c.in-Err.ensures.part in
    answering.nothing_more c.in-Ok.decided.text part.0 part.1
    (answering.shown c.one_outcome.ensures _ _ _ _ _ c.in-Ok.decided command store (misuses error) c.in-Ok.ensures.decides is tells comes (λ h. h) same).text_is

pub returns-clause-refused_always : goal.returns-clause-refused_always
returns-clause-refused_always g c = λ command store refusal is tells comes same.
    let part = rw c.as_bytes.ensures at c.in-Err.ensures.part in
    answering.nothing_more c.in-Ok.decided.text part.0 part.1
    (answering.shown c.one_outcome.ensures _ _ _ _ _ c.in-Ok.decided command store (refuses refusal) c.in-Ok.ensures.decides is tells comes (λ h. h) same).text_is

pub returns-clause-read_fault_always : goal.returns-clause-read_fault_always
returns-clause-read_fault_always g c = λ more.
    let part = rw c.as_bytes.ensures at c.in-Err.ensures.part in
    answering.nothing_more c.in-Ok.decided.text part.0 part.1 (answering.fault_comes _ _ _ _ _ c.in-Ok.decided c.in-Ok.ensures.decides more).1

pub returns-clause-missing_always : goal.returns-clause-missing_always
returns-clause-missing_always g c = λ command store name is tells comes.
    let part = rw c.as_bytes.ensures at c.in-Err.ensures.part in
    elim (answering.shown_or_fault c.one_outcome.ensures _ _ _ _ _ c.in-Ok.decided command store (lacks name) c.in-Ok.ensures.decides is tells comes (λ h. h)) [
      | inl shows ↦ answering.nothing_more c.in-Ok.decided.text part.0 part.1 shows.text_is
      | inr fault ↦ answering.nothing_more c.in-Ok.decided.text part.0 part.1 fault.1
    ]

pub returns-clause-part : goal.returns-clause-part
returns-clause-part g c = λ is. answering.stops_is _ _ _ _ _ c.in-Ok.decided _ _ c.in-Ok.ensures.decides (rw c.as_bytes.ensures at c.in-Err.ensures.part)

pub returns-clause-line : goal.returns-clause-line
returns-clause-line g c = record { line = codes "write fault\n"; must = refl; has = c.say-in-Err.ensures }

-- where there is room no write fails
pub returns-clause-room : goal.returns-clause-room
returns-clause-room g c = λ command store outcome is tells comes fine room.
    let part = rw c.as_bytes.ensures at c.in-Err.ensures.part in
    elim (answering.shown_or_fault c.one_outcome.ensures _ _ _ _ _ c.in-Ok.decided command store outcome c.in-Ok.ensures.decides is tells comes fine) [
      | inl shows ↦ absurd (let h : ⊥ = cc (c.in-Err.ensures.room (rw (c.as_bytes.ensures, shows.text_is) room)) in h)
      | inr fault ↦ answering.nothing_more c.in-Ok.decided.text part.0 part.1 fault.1
    ]
