use Rattle.std.proofs.Common.{◌≡◌, ℕ, List, Option, None, Some, length, sym, ap, subst, ◌∙◌, arith}
use Rattle.std.proofs.lemmas.List.{get_or_default}
use Rattle.th_syntax.specs.declared.refusal.Refusal.{Refusal}
use Rattle.th_syntax.specs.KindTable.{entry_kinds, HasFirstConflict}
use Rattle.th_kinds.specs.declared.state.State.{State}
use Rattle.th_kinds.specs.States.{seen_state}
use Rattle.th_kinds.specs.Kept.{seen_kept}
use Rattle.th_kinds.specs.Walk.{line, walked_table, state_at}
use Rattle.th_kinds.specs.Places.{IsFirstPlace}
use Rattle.th_kinds.proofs.Placing.{as_many, offset_there}
use Rattle.th_kinds.proofs.Results.{entry_is, is_short, is_long, kinds_found, conflict_found, short_found}
use Rattle.th_kinds.proofs.inference.infer_code.Goals as goal

pub returns-then-is_short-clause-refused : goal.returns-then-is_short-clause-refused
returns-then-is_short-clause-refused c =
    let entry = entry_is c.args.method.now c.args.code.now c.in_ok-arguments.arguments.items (seen_state c.in_ok-entry.entry) c.in_ok-arguments.ensures c.in_ok-entry.ensures in
    let long : c.len.result ≡ length c.in_ok-arguments.arguments.items = let ok = c.in_ok-arguments.arguments.ok in let len = c.len.ensures in omega arith in
    let short = is_short c.args.method.now c.args.code.now c.len.result (long ∙ ap length c.in_ok-arguments.ensures) c.if-is_short.true in
    let first = short_found c.args.method.now c.args.code.now c.requires.flows (seen_state c.in_ok-entry.entry) entry c.in_ok-listing.listing.instrs.now (c.in_ok-listing.ensures.instrs ∙ c.as_slice-2.ensures)
    c.in_ok-listing.listing.offsets.items c.in_ok-listing.ensures.ready.offsets (seen_kept c.in_ok-kept.kept.items) c.in_ok-kept.ensures.settled short in
    record {
      code = c.args.code.now;
      coded = c.requires.coded;
      table = walked_table (entry_kinds c.args.method.now c.args.code.now) c.args.code.now.instrs (seen_kept c.in_ok-kept.kept.items);
      conflict =
          subst (λ (n : ℕ). HasFirstConflict c.args.method.now c.args.code.now (walked_table (entry_kinds c.args.method.now c.args.code.now) c.args.code.now.instrs (seen_kept c.in_ok-kept.kept.items)) n)
          (sym (ap (λ (r : Refusal). r.offset) c.in_ok-refusal_of.ensures)) first;
      number = ap (λ (r : Refusal). r.number) c.in_ok-refusal_of.ensures;
      class_name = ap (λ (r : Refusal). r.class) c.in_ok-refusal_of.ensures;
      member = ap (λ (r : Refusal). r.member) c.in_ok-refusal_of.ensures;
    }

pub returns-in-Some-clause-refused : goal.returns-in-Some-clause-refused
returns-in-Some-clause-refused c =
    let entry = entry_is c.args.method.now c.args.code.now c.in_ok-arguments.arguments.items (seen_state c.in_ok-entry.entry) c.in_ok-arguments.ensures c.in_ok-entry.ensures in
    let count : c.len.result ≡ length c.in_ok-arguments.arguments.items = let ok = c.in_ok-arguments.arguments.ok in let len = c.len.ensures in omega arith in
    let long = is_long c.args.method.now c.args.code.now c.len.result (count ∙ ap length c.in_ok-arguments.ensures) c.if-is_short.false in
    let found =
    subst (λ (ks : List (Option State)). IsFirstPlace c.args.method.now c.args.code.now c.in_ok-listing.listing.instrs.now (state_at (seen_state c.in_ok-entry.entry) c.in_ok-listing.listing.instrs.now (seen_kept ks)) (Some c.in-Some.place)) c.as_slice-3.ensures.value
    (subst (λ (o : Option ℕ). IsFirstPlace c.args.method.now c.args.code.now c.in_ok-listing.listing.instrs.now (state_at (seen_state c.in_ok-entry.entry) c.in_ok-listing.listing.instrs.now (seen_kept c.as_slice-3.result.now)) o) c.in-Some.is
    (c.in_ok-found.ensures c.args.method.now (sym c.in_ok-slots.ensures.gives))) in
    let offset : c.in_ok-refusal_of-in-Some.field-0.offset ≡ (line c.in_ok-listing.listing.instrs.now c.in-Some.place).0 =
    ap (λ (r : Refusal). r.offset) c.in_ok-refusal_of-in-Some.ensures ∙ c.index-offset.ensures
    ∙ get_or_default c.in_ok-listing.listing.offsets.items c.in-Some.place c.index-offset.result.now 0
    (let same = as_many c.in_ok-listing.listing.instrs.now c.in_ok-listing.listing.offsets.items c.in_ok-listing.ensures.ready.offsets in let inside = found.inside in omega arith)
    ∙ offset_there c.in_ok-listing.listing.instrs.now c.in_ok-listing.listing.offsets.items c.in-Some.place c.in_ok-listing.ensures.ready.offsets found.inside in
    record {
      code = c.args.code.now;
      coded = c.requires.coded;
      table = walked_table (entry_kinds c.args.method.now c.args.code.now) c.args.code.now.instrs (seen_kept c.in_ok-kept.kept.items);
      conflict =
          conflict_found c.args.method.now c.args.code.now c.requires.flows (seen_state c.in_ok-entry.entry) entry c.in_ok-listing.listing.instrs.now (c.in_ok-listing.ensures.instrs ∙ c.as_slice-2.ensures)
          c.in_ok-listing.listing.offsets.items c.in_ok-listing.ensures.ready.offsets (seen_kept c.in_ok-kept.kept.items) c.in_ok-kept.ensures.settled c.in-Some.place c.in_ok-refusal_of-in-Some.field-0.offset long found offset;
      number = ap (λ (r : Refusal). r.number) c.in_ok-refusal_of-in-Some.ensures;
      class_name = ap (λ (r : Refusal). r.class) c.in_ok-refusal_of-in-Some.ensures;
      member = ap (λ (r : Refusal). r.member) c.in_ok-refusal_of-in-Some.ensures;
    }

pub returns-clause-kinds : goal.returns-clause-kinds
returns-clause-kinds c =
    let entry = entry_is c.args.method.now c.args.code.now c.in_ok-arguments.arguments.items (seen_state c.in_ok-entry.entry) c.in_ok-arguments.ensures c.in_ok-entry.ensures in
    let count : c.len.result ≡ length c.in_ok-arguments.arguments.items = let ok = c.in_ok-arguments.arguments.ok in let len = c.len.ensures in omega arith in
    let long = is_long c.args.method.now c.args.code.now c.len.result (count ∙ ap length c.in_ok-arguments.ensures) c.if-is_short.false in
    let fit =
    subst (λ (ks : List (Option State)). IsFirstPlace c.args.method.now c.args.code.now c.in_ok-listing.listing.instrs.now (state_at (seen_state c.in_ok-entry.entry) c.in_ok-listing.listing.instrs.now (seen_kept ks)) None) c.as_slice-3.ensures.value
    (subst (λ (o : Option ℕ). IsFirstPlace c.args.method.now c.args.code.now c.in_ok-listing.listing.instrs.now (state_at (seen_state c.in_ok-entry.entry) c.in_ok-listing.listing.instrs.now (seen_kept c.as_slice-3.result.now)) o) c.in-None.is
    (c.in_ok-found.ensures c.args.method.now (sym c.in_ok-slots.ensures.gives))) in
    kinds_found c.args.method.now c.args.code.now c.requires.flows (seen_state c.in_ok-entry.entry) entry c.in_ok-listing.listing.instrs.now (c.in_ok-listing.ensures.instrs ∙ c.as_slice-2.ensures)
    c.in_ok-listing.listing.offsets.items c.in_ok-listing.ensures.ready.offsets (seen_kept c.in_ok-kept.kept.items) c.in_ok-kept.ensures.settled long fit
