-- A code frame whose slots are of the kinds of its instruction has a step, after which all frames are again
-- of the kinds of theirs.
use Rattle.std.proofs.Common.{◌≡◌, ℕ, zero, suc, ◌≤◌, ◌⊎◌, inl, inr, ◌&&◌, ◌==◌, Bool, true, false, if◌then◌else◌, List, [], ◌∷◌, ◌++◌, Option, None, Some, slice_get, slice_set, refl, sym, ap, subst, ◌∙◌, arith}
use Rattle.std.specs.Prelude.{⊤, length, drop, reverse, option_to_list, Contains}
use Rattle.std.specs.List.{AllByRecursion}
use Rattle.std.specs.Option.{option_and_then, option_map, option_map_or}
use Rattle.std.proofs.lemmas.Bool.{eq-eqb, or_left}
use Rattle.std.proofs.lemmas.List.{length-set}
use Rattle.th_base.specs.IdSet.{has}
use Rattle.th_base.specs.declared.number.MethodId.{MethodId}
use Rattle.th_base.proofs.Membership.{has_append_right, Contains-from_has}
use Rattle.th_syntax.specs.declared.class_file.ClassFile.{ClassFile}
use Rattle.th_syntax.specs.declared.class_file.Code.{Code}
use Rattle.th_syntax.specs.declared.class_file.Constant.{Constant}
use Rattle.th_syntax.specs.declared.instr.Instr.{Instr}
use Rattle.th_syntax.specs.declared.machine.Value.{Value}
use Rattle.th_syntax.specs.declared.machine.Value.TheVariants.{Address}
use Rattle.th_syntax.specs.declared.machine.Slot.{Slot}
use Rattle.th_syntax.specs.declared.machine.Slot.TheVariants.{Holds}
use Rattle.th_syntax.specs.declared.machine.Mark.TheVariants.{InProgress}
use Rattle.th_syntax.specs.declared.machine.Frame.{Frame}
use Rattle.th_syntax.specs.declared.machine.Frame.TheVariants.{Code as CodeFrame, Init as InitFrame, Launch as LaunchFrame}
use Rattle.th_syntax.specs.declared.machine.State.{State}
use Rattle.th_syntax.specs.Flags.{is_static}
use Rattle.th_syntax.specs.Flow.{IsReached, start, onward, leads_to, instr_in, offset_after, successors_of}
use Rattle.th_syntax.specs.KindRows.{row_of, result_slots, slots_taken, slots_given, locals_after, stack_after}
use Rattle.th_syntax.specs.KindTable.{argument_slots}
use Rattle.th_syntax.specs.Facts.{IsReachedIn, IsReachedInstr, EveryPathStands}
use Rattle.th_syntax.specs.Machine.{method_id, with_frames, ended_state}
use Rattle.th_syntax.specs.Slots.{locals_with}
use Rattle.th_syntax.specs.Program.{Owned, all_classes, fields_of, methods_of, code_of, instr_at, next_offset}
use Rattle.th_syntax.specs.Initial.{constant_value}
use Rattle.th_syntax.specs.Effects.{Top, Effect, Stuck, Ends, GoesOn, Jumps, SetsStatic, SetsObject, Makes, Opens, Calls, Returns, after, goes_on as goes_behind, returned, opened, opened_statics}
use Rattle.th_syntax.specs.Changes.{FallsThrough, Takes, by_virtual, by_special, by_interface, by_static, IsAllowed, stuck, ends as may_end, goes_on, jumps as may_jump, sets_static as may_set_static, sets_object as may_set_object, makes_instance, makes_array, opens as may_open, calls as may_call, returns, top_at}
use Rattle.th_syntax.specs.Step.{effect}
use Rattle.th_syntax.specs.LinkChecks.{use_of}
use Rattle.th_syntax.specs.Linking.{Stands}
use Rattle.th_syntax.proofs.Inverting.{some_is, all_append}
use Rattle.th_syntax.proofs.Origins.{all_set, opened_from}
use Rattle.th_syntax.proofs.Allowing.{allowed}
use Rattle.th_runs.specs.Fitting.{AreOfKinds, IsOfType, IsOfField, IsShaped}
use Rattle.th_runs.specs.FrameKinds.{IsAtKinds, IsCallingKinds, AreFramesOfKinds, IsOfKinds}
use Rattle.th_runs.specs.Sound.{IsClosed, IsSound}
use Rattle.th_runs.proofs.Fits.{BeginWithKinds, begin_all, all_begun, fits_length, fits_append}
use Rattle.th_runs.proofs.Suiting.{Suits, ends, goes, jumps, sets_static, sets_object, makes, opens, begins, hands_over, HasConstants, suits}
use Rattle.th_runs.proofs.AllLocals.{after_length, all_locals}
use Rattle.th_runs.proofs.Tables.{IsFitted, fitted, along, entered}

-- ---- flow

-- where control goes on, and how
abbrev Flows : Instr → Effect → Type 0
Flows i Stuck = ⊤
Flows i Ends = ⊤
Flows i (GoesOn locals stack) = FallsThrough i
Flows i (Jumps target stack) = (behind : List ℕ) → has (leads_to behind i) target ≡ true
Flows i (SetsStatic field v stack) = FallsThrough i
Flows i (SetsObject a o stack) = FallsThrough i
Flows i (Makes o stack) = FallsThrough i
Flows i (Opens c) = ⊤
Flows i (Calls method locals stack) = FallsThrough i
Flows i (Returns results) = ⊤

call_falls : (files : List ClassFile) {i : Instr} {method : ℕ} {t : Top} → Takes files t i method → FallsThrough i
call_falls files (by_virtual r m e on) = ([], λ b. refl)
call_falls files (by_special r m e on) = ([], λ b. refl)
call_falls files (by_interface r m e on) = ([], λ b. refl)
call_falls files (by_static r m e ready) = ([], λ b. refl)

flows : (files : List ClassFile) (t : Top) (i : Instr) (e : Effect) → IsAllowed files t i e → Flows i e
flows files t i _ stuck = tt
flows files t i _ may_end = tt
flows files t i _ (goes_on falls) = falls
flows files t i _ (may_jump leads) = leads
flows files t i _ (may_set_static r f is resolves ready) = subst FallsThrough (sym is) ([], λ b. refl)
flows files t i _ (may_set_object old falls at same) = falls
flows files t i _ (makes_instance name c is named ready) = subst FallsThrough (sym is) ([], λ b. refl)
flows files t i _ (makes_array component count falls) = falls
flows files t i _ (may_open untouched) = tt
flows files t i _ (may_call code arguments takes has_code) = call_falls files takes
flows files t i _ returns = tt

has_last : (front : List ℕ) (next : ℕ) → has (front ++ next ∷ []) next ≡ true
has_last front next = has_append_right front (next ∷ []) next (or_left (next == next) false (eq-eqb next next refl))

leads_behind : (code : Code) (i : Instr) (offset next : ℕ) → FallsThrough i → offset_after code.instrs offset ≡ Some next → Contains (successors_of code.instrs (offset, i)) next
leads_behind code i offset next falls e =
    let leads : leads_to (option_to_list (offset_after code.instrs offset)) i ≡ falls.0 ++ next ∷ [] =
    falls.1 (option_to_list (offset_after code.instrs offset)) ∙ ap (λ (o : Option ℕ). falls.0 ++ option_to_list o) e in
    Contains-from_has (successors_of code.instrs (offset, i)) next (ap (λ xs. has xs next) leads ∙ has_last falls.0 next)

pub reached_stands : (code : Code) {offset : ℕ} → IsClosed code.instrs → IsReached code.instrs offset → (i : Instr) × (instr_in code.instrs offset ≡ Some i)
reached_stands code closed start = closed.begins
reached_stands code closed (onward {offset} {to} {i} before at leads) = closed.leads offset to i at leads

-- wherever a path leads an instruction of the method stands
pub paths_stand : (files : List ClassFile) → IsSound files → EveryPathStands files
paths_stand files sound = λ method offset path.
    let i = reached_stands path.code (sound.closed method path.code path.is_code) path.reached in
    (i.0, ap (option_and_then (λ (code : Code). instr_in code.instrs offset)) path.is_code ∙ i.1)

-- ---- methods

pub code_is : (files : List ClassFile) (method : ℕ) (owned : Owned) (code : Code) → slice_get (methods_of files) method ≡ Some owned → owned.member.code ≡ Some code → code_of files method ≡ Some code
code_is files method owned code at has_code = ap (option_and_then (λ (o : Owned). o.member.code)) at ∙ has_code

in_method : (files : List ClassFile) (method offset : ℕ) (code : Code) (i : Instr) → code_of files method ≡ Some code → instr_in code.instrs offset ≡ Some i → instr_at files method offset ≡ Some i
in_method files method offset code i is at = ap (option_and_then (λ (c : Code). instr_in c.instrs offset)) is ∙ at

behind_in : (files : List ClassFile) (method offset : ℕ) (code : Code) (next : ℕ) → code_of files method ≡ Some code → offset_after code.instrs offset ≡ Some next → next_offset files method offset ≡ Some next
behind_in files method offset code next is at = ap (option_and_then (λ (c : Code). offset_after c.instrs offset)) is ∙ at

-- ---- constants and opened classes

-- a place of a list after a write holds what was written, or what was there
set_place : {A : Type 0} (xs : List A) (g k : ℕ) (v w : A) → slice_get (slice_set xs g v) k ≡ Some w → ((g ≡ k) × (v ≡ w)) ⊎ (slice_get xs k ≡ Some w)
set_place [] g k v w e = inr e
set_place (x ∷ xs) zero zero v w e = inl (refl, some_is v w e)
set_place (x ∷ xs) zero (suc k) v w e = inr e
set_place (x ∷ xs) (suc g) zero v w e = inr e
set_place (x ∷ xs) (suc g) (suc k) v w e = elim (set_place xs g k v w e) [ inl same ↦ inl (ap suc same.0, same.1) | inr other ↦ inr other ]

abbrev StaticsFit : List ClassFile → List Value → Type 0
StaticsFit files statics = (k : ℕ) (w : Value) → slice_get statics k ≡ Some w → IsOfField files k w

set_fits : (files : List ClassFile) (statics : List Value) (field : ℕ) (v : Value) → IsOfField files field v → StaticsFit files statics → StaticsFit files (slice_set statics field v)
set_fits files statics field v here all k w e =
    elim (set_place statics field k v w e) [ inl same ↦ subst (IsOfField files k) same.1 (subst (λ n. IsOfField files n v) same.0 here) | inr other ↦ all k w other ]

opened_length : (files : List ClassFile) (c : ℕ) (fs : List Owned) (vs : List Value) → length vs ≡ length fs → length (opened_statics files c fs vs) ≡ length fs
opened_length files c [] vs e = refl
opened_length files c (f ∷ fs) [] e = absurd (omega arith)
opened_length files c (f ∷ fs) (v ∷ vs) e = ap suc (opened_length files c fs vs (omega arith))

both_true : (a b : Bool) → (a && b) ≡ true → b ≡ true
both_true true b e = e
both_true false b e = absurd cc

module _ (files : List ClassFile) (sound : IsSound files) where
  opened_by : (k : ℕ) (f : Owned) (v w : Value) (a b : Bool) (constant : Option Constant) → slice_get (fields_of files) k ≡ Some f → is_static f.member ≡ b → f.member.constant ≡ constant
      → w ≡ (if a && b then option_map_or (constant_value files) constant v else v) → IsOfField files k v → IsOfField files k w
  opened_by k f v w true true None at static_one is e old = subst (IsOfField files k) (sym e) old
  opened_by k f v w true true (Some c) at static_one is e old =
      subst (IsOfField files k) (sym e) (λ o there. subst (λ (x : Owned). IsOfType x.member.descriptor (constant_value files c)) (some_is f o (sym at ∙ there)) (sound.constants k f c at static_one is))
  opened_by k f v w true false constant at static_one is e old = subst (IsOfField files k) (sym e) old
  opened_by k f v w false b constant at static_one is e old = subst (IsOfField files k) (sym e) old

  opened_fit : (c : ℕ) (statics : List Value) → StaticsFit files statics → StaticsFit files (opened_statics files c (fields_of files) statics)
  opened_fit c statics all k w e =
      let from = opened_from files c (fields_of files) statics k w e in
      opened_by k from.field from.old w (from.field.owner == c) (is_static from.field.member) from.field.member.constant from.numbered refl refl from.value (all k from.old from.held)

  -- a class is opened
  pub opened_kinds : (s : State) (c : ℕ) → IsOfKinds files s → IsOfKinds files (opened files s c)
  opened_kinds s c good = record {
    frames = good.frames;
    statics = opened_fit c s.statics good.statics;
    statics_count = opened_length files c (fields_of files) s.statics good.statics_count;
    heap = good.heap;
    marks_count = length-set s.marks c InProgress ∙ good.marks_count;
  }

  -- a method begins with arguments of its kinds
  pub begun_kinds : (method : ℕ) (owned : Owned) (code : Code) (arguments : List Slot) → slice_get (methods_of files) method ≡ Some owned → owned.member.code ≡ Some code → AreOfKinds (argument_slots owned.member) arguments
      → IsAtKinds files method 0 (locals_with arguments code.max_locals) []
  begun_kinds method owned code arguments at has_code fit =
      let k = sound.kinds method owned code at has_code in
      let closed = sound.closed method code (code_is files method owned code at has_code) in
      let entry = entered owned.member code k.0 closed.begins.0 arguments k.1 closed.begins.1 fit in
      record {
        runs = record { owned = owned; numbered = at; code = code; has_code = has_code; table = k.0; kinds = k.1 };
        local_kinds = entry.known.local_kinds;
        stack_kinds = entry.known.stack_kinds;
        known = entry.known.is;
        locals_fit = all_begun entry.known.local_kinds (locals_with arguments code.max_locals) entry.locals_fit
            (entry.count ∙ sym (all_locals owned.member code k.0 0 entry.known.local_kinds entry.known.stack_kinds k.1 entry.known.is));
        locals_count = entry.count;
        stack_fits = entry.known.stack_too [] tt;
        room = omega arith;
      }

  -- ---- the frame on top goes on

  module _ (s : State) (method : MethodId) (offset : ℕ) (locals stack : List Slot) (below : List Frame) (good : IsOfKinds files s) (here : IsAtKinds files method.0 offset locals stack) (under : AreFramesOfKinds files (Some method.0) below)
      (i : Instr) (at : instr_in here.runs.code.instrs offset ≡ Some i) where
    runs_code : code_of files method.0 ≡ Some here.runs.code
    runs_code = code_is files method.0 here.runs.owned here.runs.code here.runs.numbered here.runs.has_code

    closed : IsClosed here.runs.code.instrs
    closed = sound.closed method.0 here.runs.code runs_code

    fit : IsFitted here.runs.owned.member here.runs.code i here.local_kinds here.stack_kinds
    fit = fitted here.runs.owned.member here.runs.code here.runs.table offset i here.local_kinds here.stack_kinds here.runs.kinds at here.known

    -- at the next instruction
    moved : (next : ℕ) (locals_after_it stack_after_it : List Slot) → Contains (successors_of here.runs.code.instrs (offset, i)) next → BeginWithKinds (locals_after (row_of i) here.local_kinds) locals_after_it → length locals_after_it ≡ length locals
        → AreOfKinds (stack_after (row_of i) here.stack_kinds) stack_after_it → IsAtKinds files method.0 next locals_after_it stack_after_it
    moved next locals_after_it stack_after_it leads locals_fit count stack_fits =
        let j = closed.leads offset next i at leads in
        let known = along here.runs.owned.member here.runs.code here.runs.table offset next i j.0 here.local_kinds here.stack_kinds here.runs.kinds at here.known leads j.1 in
        record {
          runs = here.runs;
          local_kinds = known.local_kinds;
          stack_kinds = known.stack_kinds;
          known = known.is;
          locals_fit = all_begun known.local_kinds locals_after_it (known.locals_too locals_after_it locals_fit)
              (count ∙ here.locals_count ∙ sym (all_locals here.runs.owned.member here.runs.code here.runs.table next known.local_kinds known.stack_kinds here.runs.kinds known.is));
          locals_count = count ∙ here.locals_count;
          stack_fits = known.stack_too stack_after_it stack_fits;
          room = subst (λ n. n ≤ here.runs.code.max_stack) (sym (fits_length (stack_after (row_of i) here.stack_kinds) stack_after_it stack_fits)) fit.room;
        }

    t : Top
    t = top_at s method offset locals stack below

    Goes : Effect → Type 0
    Goes e = (w : State) × (after files (top_at s method offset locals stack below) e ≡ Some w) × IsOfKinds files w

    -- behind the instruction, in a state with other statics and another heap
    behind : FallsThrough i → (u : State) (locals_after_it stack_after_it : List Slot) → BeginWithKinds (locals_after (row_of i) here.local_kinds) locals_after_it → length locals_after_it ≡ length locals
        → AreOfKinds (stack_after (row_of i) here.stack_kinds) stack_after_it → StaticsFit files u.statics → length u.statics ≡ length (fields_of files) → AllByRecursion (IsShaped files) u.heap → length u.marks ≡ length (all_classes files)
        → (w : State) × (goes_behind files (top_at s method offset locals stack below) u locals_after_it stack_after_it ≡ Some w) × IsOfKinds files w
    behind falls u locals_after_it stack_after_it locals_fit count stack_fits statics statics_count heap marks_count =
        let next = closed.goes_on offset i at falls in
        let leads = leads_behind here.runs.code i offset next.0 falls next.1 in (
          with_frames u (CodeFrame method next.0 locals_after_it stack_after_it ∷ below),
          ap (option_map (λ (n : ℕ). with_frames u (CodeFrame method n locals_after_it stack_after_it ∷ below))) (behind_in files method.0 offset here.runs.code next.0 runs_code next.1),
          record {
            frames = (moved next.0 locals_after_it stack_after_it leads locals_fit count stack_fits, under);
            statics = statics;
            statics_count = statics_count;
            heap = heap;
            marks_count = marks_count;
          },
        )

    -- a return
    handed_by : (results : List Slot) (frames : List Frame) → AreOfKinds (reverse (result_slots here.runs.owned.member.descriptor)) results → AreFramesOfKinds files (Some method.0) frames
        → (rest : List Frame) × (returned files results frames ≡ Some rest) × AreFramesOfKinds files None rest
    handed_by results [] results_fit all = ([], refl, tt)
    handed_by results (CodeFrame caller waiting locals_below stack_below ∷ frames) results_fit all =
        let waits : IsCallingKinds files method.0 caller.0 waiting locals_below stack_below = all.0 in
        let its_code = code_is files caller.0 waits.runs.owned waits.runs.code waits.runs.numbered waits.runs.has_code in
        let its = sound.closed caller.0 waits.runs.code its_code in
        let next = its.goes_on waiting waits.i waits.stands waits.falls in
        let leads = leads_behind waits.runs.code waits.i waiting next.0 waits.falls next.1 in
        let j = its.leads waiting next.0 waits.i waits.stands leads in
        let known = along waits.runs.owned.member waits.runs.code waits.runs.table waiting next.0 waits.i j.0 waits.local_kinds waits.stack_kinds waits.runs.kinds waits.stands waits.known leads j.1 in
        let its_fit = fitted waits.runs.owned.member waits.runs.code waits.runs.table waiting waits.i waits.local_kinds waits.stack_kinds waits.runs.kinds waits.stands waits.known in
        let same : here.runs.owned ≡ waits.callee = some_is here.runs.owned waits.callee (sym here.runs.numbered ∙ waits.callee_numbered) in
        let given : AreOfKinds (slots_given (row_of waits.i) waits.stack_kinds) results =
        subst (λ ks. AreOfKinds ks results) (sym waits.result) (subst (λ (o : Owned). AreOfKinds (reverse (result_slots o.member.descriptor)) results) same results_fit) in
        let whole : AreOfKinds (stack_after (row_of waits.i) waits.stack_kinds) (results ++ stack_below) =
        fits_append (slots_given (row_of waits.i) waits.stack_kinds) results (drop (slots_taken (row_of waits.i)) waits.stack_kinds) stack_below given waits.stack_fits in (
          CodeFrame caller next.0 locals_below (results ++ stack_below) ∷ frames,
          ap (option_map (λ (n : ℕ). CodeFrame caller n locals_below (results ++ stack_below) ∷ frames)) (behind_in files caller.0 waiting waits.runs.code next.0 its_code next.1),
          (
            record {
              runs = waits.runs;
              local_kinds = known.local_kinds;
              stack_kinds = known.stack_kinds;
              known = known.is;
              locals_fit = all_begun known.local_kinds locals_below (known.locals_too locals_below (begin_all (locals_after (row_of waits.i) waits.local_kinds) locals_below waits.locals_fit))
                  (waits.locals_count ∙ sym (all_locals waits.runs.owned.member waits.runs.code waits.runs.table next.0 known.local_kinds known.stack_kinds waits.runs.kinds known.is));
              locals_count = waits.locals_count;
              stack_fits = known.stack_too (results ++ stack_below) whole;
              room = subst (λ n. n ≤ waits.runs.code.max_stack) (sym (fits_length (stack_after (row_of waits.i) waits.stack_kinds) (results ++ stack_below) whole)) its_fit.room;
            },
            all.1,
          ),
        )
    handed_by results (InitFrame c stage ∷ frames) results_fit all = (InitFrame c stage ∷ frames, refl, all)
    handed_by results (LaunchFrame c stage ∷ frames) results_fit all = (LaunchFrame c stage ∷ frames, refl, all)

    abbrev IsSuited : Effect → Type 0
    IsSuited e = Suits files sound.linked (top_at s method offset locals stack below) here.runs.owned.member here.local_kinds here.stack_kinds (begin_all here.local_kinds locals here.locals_fit) here.stack_fits good.statics good.statics_count good.heap good.marks_count (row_of i) e

    goes_to : (e : Effect) → IsSuited e → Flows i e → (w : State) × (after files (top_at s method offset locals stack below) e ≡ Some w) × IsOfKinds files w
    goes_to _ ends flow = (ended_state s, refl, record { frames = good.frames; statics = good.statics; statics_count = good.statics_count; heap = good.heap; marks_count = good.marks_count })
    goes_to _ (goes {locals = locals_after_it} {stack = stack_after_it} locals_fit count stack_fits) falls =
        behind falls s locals_after_it stack_after_it locals_fit count stack_fits good.statics good.statics_count good.heap good.marks_count
    goes_to _ (jumps {target} {stack = stack_after_it} locals_fit stack_fits) leads = (
      with_frames s (CodeFrame method target locals stack_after_it ∷ below),
      refl,
      record {
        frames = (moved target locals stack_after_it (Contains-from_has (successors_of here.runs.code.instrs (offset, i)) target (leads (option_to_list (offset_after here.runs.code.instrs offset)))) locals_fit refl stack_fits, under);
        statics = good.statics;
        statics_count = good.statics_count;
        heap = good.heap;
        marks_count = good.marks_count;
      },
    )
    goes_to _ (sets_static {field} {v} {stack = stack_after_it} typed locals_fit stack_fits) falls =
        behind falls (record s { statics = slice_set s.statics field v }) locals stack_after_it locals_fit refl stack_fits
        (set_fits files s.statics field v typed good.statics) (length-set s.statics field v ∙ good.statics_count) good.heap good.marks_count
    goes_to _ (sets_object {a} {o} {stack = stack_after_it} shaped locals_fit stack_fits) falls =
        behind falls (record s { heap = slice_set s.heap a o }) locals stack_after_it locals_fit refl stack_fits good.statics good.statics_count (all_set (IsShaped files) s.heap a o good.heap shaped) good.marks_count
    goes_to _ (makes {o} {stack = stack_after_it} shaped locals_fit stack_fits) falls =
        behind falls (record s { heap = s.heap ++ o ∷ [] }) locals (Holds (Address (length s.heap)) ∷ stack_after_it) locals_fit refl stack_fits good.statics good.statics_count
        (all_append (IsShaped files) s.heap (o ∷ []) good.heap (shaped, tt)) good.marks_count
    goes_to _ (opens {c}) flow = (opened files s c, refl, opened_kinds s c good)
    goes_to _ (begins {method = taken} {locals = locals_in} {stack = stack_after_it} begun locals_fit) falls = (
      with_frames s (CodeFrame (method_id taken) 0 locals_in [] ∷ CodeFrame method offset locals stack_after_it ∷ below),
      refl,
      record {
        frames = (
          subst (λ l. IsAtKinds files taken 0 l []) (sym begun.locals_are) (begun_kinds taken begun.owned begun.code begun.arguments begun.numbered begun.has_code begun.arguments_fit),
          (
            record {
              runs = here.runs;
              local_kinds = here.local_kinds;
              stack_kinds = here.stack_kinds;
              known = here.known;
              i = i;
              stands = at;
              falls = falls;
              locals_fit = all_begun (locals_after (row_of i) here.local_kinds) locals locals_fit
                  (here.locals_count
                  ∙ sym (after_length (row_of i) here.local_kinds
                  ∙ all_locals here.runs.owned.member here.runs.code here.runs.table offset here.local_kinds here.stack_kinds here.runs.kinds here.known));
              locals_count = here.locals_count;
              stack_fits = begun.stack_fits;
              callee = begun.owned;
              callee_numbered = begun.numbered;
              result = begun.result;
            },
            under,
          ),
        );
        statics = good.statics;
        statics_count = good.statics_count;
        heap = good.heap;
        marks_count = good.marks_count;
      },
    )
    goes_to _ (hands_over {results} results_fit) flow =
        let rest = handed_by results below results_fit under in (
          with_frames s rest.0,
          ap (option_map (with_frames s)) rest.1,
          record { frames = rest.2; statics = good.statics; statics_count = good.statics_count; heap = good.heap; marks_count = good.marks_count },
        )

  -- a code frame on top has a step
  pub record HasCodeStep (s : State) (method : MethodId) (offset : ℕ) (locals stack : List Slot) (below : List Frame) : Type 0 where
    pub i : Instr
    pub stands : instr_at files method.0 offset ≡ Some i
    pub next : State
    pub gives : after files (top_at s method offset locals stack below) (effect files (top_at s method offset locals stack below) i) ≡ Some next
    pub kinds : IsOfKinds files next

  pub code_goes : (named : (i : Instr) → IsReachedInstr files i → Stands files (use_of i)) (s : State) (method : MethodId) (offset : ℕ) (locals stack : List Slot) (below : List Frame) → IsOfKinds files s
      → s.frames ≡ CodeFrame method offset locals stack ∷ below → IsReachedIn files method.0 offset → HasCodeStep s method offset locals stack below
  code_goes named s method offset locals stack below good is path =
      let frames = subst (AreFramesOfKinds files None) is good.frames in
      let here : IsAtKinds files method.0 offset locals stack = frames.0 in
      let its_code = code_is files method.0 here.runs.owned here.runs.code here.runs.numbered here.runs.has_code in
      let same : path.code ≡ here.runs.code = some_is path.code here.runs.code (sym path.is_code ∙ its_code) in
      let i = reached_stands here.runs.code (sound.closed method.0 here.runs.code its_code) (subst (λ (c : Code). IsReached c.instrs offset) same path.reached) in
      let at = in_method files method.0 offset here.runs.code i.0 its_code i.1 in
      let reached : IsReachedInstr files i.0 = record { method = method.0; offset = offset; stands = at; reached = path } in
      let t = top_at s method offset locals stack below in
      let f = fitted here.runs.owned.member here.runs.code here.runs.table offset i.0 here.local_kinds here.stack_kinds here.runs.kinds i.1 here.known in
      let constants : HasConstants files sound.linked t here.runs.owned.member here.local_kinds here.stack_kinds (begin_all here.local_kinds locals here.locals_fit) here.stack_fits good.statics good.statics_count good.heap good.marks_count i.0 =
      record {
        strings = λ text e. sound.strings text (subst (IsReachedInstr files) e reached);
        news = λ name e. sound.news name (subst (IsReachedInstr files) e reached);
      } in
      let suited = suits files sound.linked t here.runs.owned.member here.local_kinds here.stack_kinds (begin_all here.local_kinds locals here.locals_fit) here.stack_fits good.statics good.statics_count good.heap good.marks_count
      i.0 f.enough f.right f.other (named i.0 reached) (sound.described i.0 reached) constants in
      let w = goes_to s method offset locals stack below good here frames.1 i.0 i.1 (effect files t i.0) suited (flows files t i.0 (effect files t i.0) (allowed files t i.0)) in
      record { i = i.0; stands = at; next = w.0; gives = w.1; kinds = w.2 }
