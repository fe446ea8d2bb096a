-- Runs, events and scripts lead to one thing alone.
use Rattle.std.proofs.Common.{◌≡◌, ◌+◌, ℕ, Bool, true, false, List, [], ◌∷◌, refl, sym, ap, ◌∙◌, subst, arith, Option, Some, None, Result, Ok, Err, if◌then◌else◌}
use Rattle.std.proofs.lemmas.Cmp.{nat_list_cmp_total}
use Rattle.std.specs.Cmp.Lexicographic.{slice_cmp}
use Rattle.std.specs.Ordering.{nat_cmp}
use Rattle.th_base.specs.declared.number.ClassId.{ClassId}
use Rattle.th_base.specs.declared.number.FieldId.{FieldId}
use Rattle.th_syntax.specs.declared.class_file.ClassFile.{ClassFile}
use Rattle.th_syntax.specs.declared.event.Event.{Event}
use Rattle.th_syntax.specs.declared.machine.Frame.{Frame}
use Rattle.th_syntax.specs.declared.machine.State.{State}
use Rattle.th_syntax.specs.Harness.{event, is_idle}
use Rattle.th_syntax.specs.Held.{is_full}
use Rattle.th_syntax.specs.Step.{step, step_frames}
use Rattle.th_machine.specs.declared.outcome.Outcome.{Outcome}
use Rattle.th_machine.specs.declared.outcome.Outcome.TheVariants as outcome
use Rattle.th_machine.specs.declared.report.Report.{Report}
use Rattle.th_machine.specs.declared.report.ScriptFault.{ScriptFault}
use Rattle.th_machine.specs.Reached.{AreJoined, pair_key}
use Rattle.th_machine.specs.Running.{Standing, Answers, GoesOn, moved, rest_of}
use Rattle.th_machine.specs.Script.{IsScriptRun, Tells, before}
use Rattle.th_machine.proofs.Ordered.{one_in_order}

-- ---- runs

-- how a run with so much fuel begins
data Begins (files : List ClassFile) (fuel : ℕ) (s : State) (left : ℕ) (t : State) (o : Outcome) : Type 0 where
  rested : rest_of s ≡ Some o → left ≡ fuel → t ≡ s → Begins files fuel s left t o
  spent : rest_of s ≡ None → fuel ≡ 0 → left ≡ 0 → t ≡ s → o ≡ outcome.Fuel → Begins files fuel s left t o
  stuck : (k : ℕ) (next : State) → rest_of s ≡ None → fuel ≡ k + 1 → step files s ≡ Some next → is_full files s next ≡ true → left ≡ fuel → t ≡ s
      → o ≡ outcome.Full → Begins files fuel s left t o
  went : (k : ℕ) (next : State) → rest_of s ≡ None → fuel ≡ k + 1 → step files s ≡ Some next → is_full files s next ≡ false
      → GoesOn files k next left t o → Begins files fuel s left t o

-- a state with a step doesn't rest
restless : (files : List ClassFile) (s next : State) → step files s ≡ Some next → rest_of s ≡ None
restless files s next is = by s.ended s.frames is
  where
    by : (a : Bool) (fs : List Frame) → (if a then None else step_frames files s fs) ≡ Some next
        → (if a then Some outcome.Ended else if is_idle fs then Some outcome.Idle else None) ≡ None
    by true fs e = cc
    by false [] e = cc
    by false (f ∷ fs) e = refl

ended_rests : (s : State) → s.ended ≡ true → rest_of s ≡ Some outcome.Ended
ended_rests s is = ap (λ (a : Bool). if a then Some outcome.Ended else if is_idle s.frames then Some outcome.Idle else None) is

idle_rests : (s : State) → s.ended ≡ false → s.frames ≡ [] → rest_of s ≡ Some outcome.Idle
idle_rests s runs idle =
    ap (λ (a : Bool). if a then Some outcome.Ended else if is_idle s.frames then Some outcome.Idle else None) runs
    ∙ ap (λ (fs : List Frame). if is_idle fs then Some outcome.Idle else None) idle

framed_runs : (s : State) → s.ended ≡ false → (s.frames ≡ [] → ⊥) → rest_of s ≡ None
framed_runs s runs framed = by s.ended s.frames runs framed
  where
    by : (a : Bool) (fs : List Frame) → a ≡ false → (fs ≡ [] → ⊥) → (if a then Some outcome.Ended else if is_idle fs then Some outcome.Idle else None) ≡ None
    by true fs e some = cc
    by false [] e some = absurd (some refl)
    by false (f ∷ fs) e some = refl

begins : (files : List ClassFile) (fuel left : ℕ) (s t : State) (o : Outcome) → GoesOn files fuel s left t o → Begins files fuel s left t o
begins files fuel left s t o (GoesOn.ends n u ended) = rested (ended_rests u ended) refl refl
begins files fuel left s t o (GoesOn.rests n u runs idle) = rested (idle_rests u runs idle) refl refl
begins files fuel left s t o (GoesOn.stops u runs framed) = spent (framed_runs u runs framed) refl refl refl refl
begins files fuel left s t o (GoesOn.has_no_room n u next is full) = stuck n next (restless files u next is) refl is full refl refl refl
begins files fuel left s t o (GoesOn.steps n m u next v p is room on) = went n next (restless files u next is) refl is room on

-- what a run comes to
record IsEnd (left : ℕ) (t : State) (o : Outcome) (rest : ℕ) (u : State) (p : Outcome) : Type 0 where
  same_fuel : left ≡ rest
  same_state : t ≡ u
  same_outcome : o ≡ p

where_rested : (files : List ClassFile) (fuel rest : ℕ) (s u : State) (o p : Outcome) → rest_of s ≡ Some o → Begins files fuel s rest u p → IsEnd fuel s o rest u p
where_rested files fuel rest s u o p is (rested also left same) = record {
  same_fuel = sym left;
  same_state = sym same;
  same_outcome = let e : Some o ≡ Some p = sym is ∙ also in cc;
}
where_rested files fuel rest s u o p is (spent also none left same fuel_out) = let e : Some o ≡ None = sym is ∙ also in cc
where_rested files fuel rest s u o p is (stuck k next also more steps full left same out) = let e : Some o ≡ None = sym is ∙ also in cc
where_rested files fuel rest s u o p is (went k next also more steps room on) = let e : Some o ≡ None = sym is ∙ also in cc

where_spent : (files : List ClassFile) (rest : ℕ) (s u : State) (p : Outcome) → rest_of s ≡ None → Begins files 0 s rest u p → IsEnd 0 s outcome.Fuel rest u p
where_spent files rest s u p is (rested also left same) = let e : Some p ≡ None = sym also ∙ is in cc
where_spent files rest s u p is (spent also none left same out) = record { same_fuel = sym left; same_state = sym same; same_outcome = sym out }
where_spent files rest s u p is (stuck k next also more steps full left same out) = absurd (omega (arith, more))
where_spent files rest s u p is (went k next also more steps room on) = absurd (omega (arith, more))

where_stuck : (files : List ClassFile) (fuel rest : ℕ) (s next u : State) (p : Outcome) → step files s ≡ Some next → is_full files s next ≡ true
    → Begins files (fuel + 1) s rest u p → IsEnd (fuel + 1) s outcome.Full rest u p
where_stuck files fuel rest s next u p is full (rested also left same) = let e : Some p ≡ None = sym also ∙ restless files s next is in cc
where_stuck files fuel rest s next u p is full (spent also none left same out) = absurd (omega (arith, none))
where_stuck files fuel rest s next u p is full (stuck k other also more steps fills left same out) =
    record { same_fuel = sym left; same_state = sym same; same_outcome = sym out }
where_stuck files fuel rest s next u p is full (went k other also more steps room on) =
    let e : Some next ≡ Some other = sym is ∙ steps in
    let one : next ≡ other = cc in
    let never : true ≡ false = sym full ∙ ap (is_full files s) one ∙ room in cc

-- the same step, and the rest of the run
record IsWent (files : List ClassFile) (fuel : ℕ) (next : State) (rest : ℕ) (u : State) (p : Outcome) : Type 0 where
  then_goes : GoesOn files fuel next rest u p

where_went : (files : List ClassFile) (fuel rest : ℕ) (s next u : State) (p : Outcome) → step files s ≡ Some next → is_full files s next ≡ false
    → Begins files (fuel + 1) s rest u p → IsWent files fuel next rest u p
where_went files fuel rest s next u p is room (rested also left same) = let e : Some p ≡ None = sym also ∙ restless files s next is in cc
where_went files fuel rest s next u p is room (spent also none left same out) = absurd (omega (arith, none))
where_went files fuel rest s next u p is room (stuck k other also more steps fills left same out) =
    let e : Some next ≡ Some other = sym is ∙ steps in
    let one : next ≡ other = cc in
    let never : true ≡ false = sym fills ∙ ap (is_full files s) (sym one) ∙ room in cc
where_went files fuel rest s next u p is room (went k other also more steps also_room on) =
    let e : Some next ≡ Some other = sym is ∙ steps in
    let one : other ≡ next = cc in
    let count : k ≡ fuel = omega (arith, more) in
    record { then_goes = subst (λ (n : ℕ). GoesOn files n next rest u p) count (subst (λ (v : State). GoesOn files k v rest u p) one on) }

one_run : (files : List ClassFile) (fuel left rest : ℕ) (s t u : State) (o p : Outcome) → GoesOn files fuel s left t o → GoesOn files fuel s rest u p
    → IsEnd left t o rest u p
one_run files fuel left rest s t u o p (GoesOn.ends n v ended) other =
    where_rested files n rest v u outcome.Ended p (ended_rests v ended) (begins files n rest v u p other)
one_run files fuel left rest s t u o p (GoesOn.rests n v runs idle) other =
    where_rested files n rest v u outcome.Idle p (idle_rests v runs idle) (begins files n rest v u p other)
one_run files fuel left rest s t u o p (GoesOn.stops v runs framed) other =
    where_spent files rest v u p (framed_runs v runs framed) (begins files 0 rest v u p other)
one_run files fuel left rest s t u o p (GoesOn.has_no_room n v next is full) other =
    where_stuck files n rest v next u p is full (begins files (n + 1) rest v u p other)
one_run files fuel left rest s t u o p (GoesOn.steps n m v next w q is room on) other =
    one_run files n m rest next w u q p on (where_went files n rest v next u p is room (begins files (n + 1) rest v u p other)).then_goes

-- ---- events

-- what an event comes to
pub record IsAnswer (t : Standing) (left : ℕ) (o : Option Outcome) (u : Standing) (rest : ℕ) (p : Option Outcome) : Type 0 where
  pub same_machine : t ≡ u
  pub same_fuel : left ≡ rest
  pub same_outcome : o ≡ p

no_event : {A : Type 0} (x : Option State) (w : State) → x ≡ None → x ≡ Some w → A
no_event x w none some = let e : None ≡ Some w = sym none ∙ some in cc

one_event : (x : Option State) (v w : State) → x ≡ Some v → x ≡ Some w → v ≡ w
one_event x v w a b = let e : Some v ≡ Some w = sym a ∙ b in cc

both_fill : {A : Type 0} (files : List ClassFile) (s v w : State) → v ≡ w → is_full files s v ≡ true → is_full files s w ≡ false → A
both_fill files s v w same full room = let e : true ≡ false = sym full ∙ ap (is_full files s) same ∙ room in cc

pub one_answer : (m : Standing) (e : Event) (fuel : ℕ) (t u : Standing) (left rest : ℕ) (o p : Option Outcome) → Answers m e fuel t left o → Answers m e fuel u rest p
    → IsAnswer t left o u rest p
one_answer m e fuel t u left rest o p (Answers.refused none) (Answers.refused also) = record { same_machine = refl; same_fuel = refl; same_outcome = refl }
one_answer m e fuel t u left rest o p (Answers.refused none) (Answers.no_room w is full) = no_event _ w none is
one_answer m e fuel t u left rest o p (Answers.refused none) (Answers.made w v l q is room on) = no_event _ w none is
one_answer m e fuel t u left rest o p (Answers.no_room w is full) (Answers.refused none) = no_event _ w none is
one_answer m e fuel t u left rest o p (Answers.no_room w is full) (Answers.no_room x also fills) = record { same_machine = refl; same_fuel = refl; same_outcome = refl }
one_answer m e fuel t u left rest o p (Answers.no_room w is full) (Answers.made x v l q also room on) =
    both_fill m.files m.state w x (one_event _ w x is also) full room
one_answer m e fuel t u left rest o p (Answers.made w v l q is room on) (Answers.refused none) = no_event _ w none is
one_answer m e fuel t u left rest o p (Answers.made w v l q is room on) (Answers.no_room x also full) =
    both_fill m.files m.state x w (one_event _ x w also is) full room
one_answer m e fuel t u left rest o p (Answers.made w v l q is room on) (Answers.made x y k r also has on_too) =
    let end : IsEnd l v q k y r = one_run m.files fuel l k w v y q r on
    (subst (λ (z : State). GoesOn m.files fuel z k y r) (one_event _ x w also is) on_too) in
    record { same_machine = ap (moved m) end.same_state; same_fuel = end.same_fuel; same_outcome = ap (λ (z : Outcome). Some z) end.same_outcome }

-- ---- what is joined

one_list : (files : List ClassFile) (s : State) (xs ys : List (FieldId × ClassId)) → AreJoined files s xs → AreJoined files s ys → xs ≡ ys
one_list files s xs ys a b =
    one_in_order (slice_cmp nat_cmp) nat_list_cmp_total pair_key xs ys a.ordered b.ordered (λ x one. b.all x (a.found x one)) (λ x one. a.all x (b.found x one))

-- ---- scripts

-- what is told of an event
record IsTold (t : Standing) (left : ℕ) (r : Option Report) (u : Standing) (rest : ℕ) (q : Option Report) : Type 0 where
  same_machine : t ≡ u
  same_fuel : left ≡ rest
  same_report : r ≡ q

one_report : (t u : Standing) (r q : Report) → t ≡ u → r.outcome ≡ q.outcome → AreJoined t.files t.state r.reached → AreJoined u.files u.state q.reached → r ≡ q
one_report t u r q same out a b =
    let joined : r.reached ≡ q.reached = one_list t.files t.state r.reached q.reached a (subst (λ (x : Standing). AreJoined x.files x.state q.reached) (sym same) b) in
    ap (λ (o : Outcome). record { outcome = o; reached = r.reached }) out ∙ ap (λ (l : List (FieldId × ClassId)). record { outcome = q.outcome; reached = l }) joined

one_telling : (m : Standing) (e : Event) (fuel : ℕ) (t u : Standing) (left rest : ℕ) (r q : Option Report) → Tells m e fuel t left r → Tells m e fuel u rest q
    → IsTold t left r u rest q
one_telling m e fuel t u left rest None None a b =
    let one = one_answer m e fuel t u left rest None None a b in record { same_machine = one.same_machine; same_fuel = one.same_fuel; same_report = refl }
one_telling m e fuel t u left rest None (Some q) a b =
    let one = one_answer m e fuel t u left rest None (Some q.outcome) a b.0 in let never : None ≡ Some q.outcome = one.same_outcome in cc
one_telling m e fuel t u left rest (Some r) None a b =
    let one = one_answer m e fuel t u left rest (Some r.outcome) None a.0 b in let never : Some r.outcome ≡ None = one.same_outcome in cc
one_telling m e fuel t u left rest (Some r) (Some q) a b =
    let one = one_answer m e fuel t u left rest (Some r.outcome) (Some q.outcome) a.0 b.0 in
    let out : r.outcome ≡ q.outcome = cc in
    record {
      same_machine = one.same_machine;
      same_fuel = one.same_fuel;
      same_report = ap (λ (x : Report). Some x) (one_report t u r q one.same_machine out a.1 b.1);
    }

-- what follows what is told of an event
data Follows (t : Standing) (left number : ℕ) (es : List Event) (a : Result (List Report) ScriptFault) : Option Report → Type 0 where
  none : a ≡ Err record { event = number } → Follows t left number es a None
  last : (r : Report) → (r.outcome ≡ outcome.Idle → ⊥) → a ≡ Ok (r ∷ []) → Follows t left number es a (Some r)
  more : (r : Report) (rest : Result (List Report) ScriptFault) → r.outcome ≡ outcome.Idle → IsScriptRun t left (number + 1) es rest → a ≡ before r rest
      → Follows t left number es a (Some r)

-- a script with an event
record IsBegun (m : Standing) (fuel number : ℕ) (e : Event) (es : List Event) (a : Result (List Report) ScriptFault) : Type 0 where
  then_stands : Standing
  left : ℕ
  told : Option Report
  tells : Tells m e fuel then_stands left told
  follows : Follows then_stands left number es a told

opens : (m : Standing) (fuel number : ℕ) (e : Event) (es : List Event) (a : Result (List Report) ScriptFault) → IsScriptRun m fuel number (e ∷ es) a
    → IsBegun m fuel number e es a
opens m fuel number e es a (IsScriptRun.refused n t f left k d ds tells) =
    record { then_stands = t; left = left; told = None; tells = tells; follows = none refl }
opens m fuel number e es a (IsScriptRun.stops n t f left k d ds r tells other) =
    record { then_stands = t; left = left; told = Some r; tells = tells; follows = last r other refl }
opens m fuel number e es a (IsScriptRun.goes n t f left k d ds r rest tells idle on) =
    record { then_stands = t; left = left; told = Some r; tells = tells; follows = more r rest idle on refl }

empty : (m : Standing) (fuel number : ℕ) (a : Result (List Report) ScriptFault) → IsScriptRun m fuel number [] a → a ≡ Ok []
empty m fuel number a (IsScriptRun.done n f k) = refl

one_following : (t : Standing) (left number : ℕ) (es : List Event) (a b : Result (List Report) ScriptFault) (r : Option Report)
    → ((x y : Result (List Report) ScriptFault) → IsScriptRun t left (number + 1) es x → IsScriptRun t left (number + 1) es y → x ≡ y)
    → Follows t left number es a r → Follows t left number es b r → a ≡ b
one_following t left number es a b None each (none is) (none also) = is ∙ sym also
one_following t left number es a b (Some r) each (last q other is) (last p further also) = is ∙ sym also
one_following t left number es a b (Some r) each (last q other is) (more p rest idle on also) = absurd (other idle)
one_following t left number es a b (Some r) each (more q rest idle on is) (last p other also) = absurd (other idle)
one_following t left number es a b (Some r) each (more q rest idle on is) (more p next at_rest on_too also) =
    is ∙ ap (before r) (each rest next on on_too) ∙ sym also

pub one_script : (es : List Event) (m : Standing) (fuel number : ℕ) (a b : Result (List Report) ScriptFault) → IsScriptRun m fuel number es a
    → IsScriptRun m fuel number es b → a ≡ b
one_script [] m fuel number a b x y = empty m fuel number a x ∙ sym (empty m fuel number b y)
one_script (e ∷ es) m fuel number a b x y =
    let one = opens m fuel number e es a x in
    let two = opens m fuel number e es b y in
    let same = one_telling m e fuel one.then_stands two.then_stands one.left two.left one.told two.told one.tells two.tells in
    let at : Follows one.then_stands one.left number es b one.told =
    subst (λ (q : Option Report). Follows one.then_stands one.left number es b q) (sym same.same_report)
    (subst (λ (n : ℕ). Follows one.then_stands n number es b two.told) (sym same.same_fuel)
    (subst (λ (t : Standing). Follows t two.left number es b two.told) (sym same.same_machine) two.follows)) in
    one_following one.then_stands one.left number es a b one.told
    (λ u v begins_u begins_v. one_script es one.then_stands one.left (number + 1) u v begins_u begins_v) one.follows at
