use Rattle.std.proofs.Common.{rules, ap, ◌∙◌, subst, inl, arith}
use Rattle.th_edge_table.specs.Core.{opening}
use Rattle.th_edge_table.specs.declared.state.CoreState.{CoreState}
use Rattle.th_edge_table.specs.Replay.{IsFirstBad}
use Rattle.th_edge_table.proofs.Replays.{one_made, first_bad, answer_names, answer_is, one_bad, none_bad, at_end, facts_at, has_room}
use Rattle.th_edge_table.proofs.events.replay.Goals as goal

pub make-requires : goal.make-requires
make-requires c = let i = c.loop-index.invariant in has_room c.args.n c.loop-index.index c.args.events.now c.loop-index.core i.0 i.1 (omega arith)

pub loop-index-preserved : goal.loop-index-preserved
loop-index-preserved c =
    let i = c.loop-index.invariant in
    one_made (opening c.args.n) c.loop-index.core c.make.new.self c.args.events.now c.loop-index.index _ c.in_ok-made.made c.if-not-made.false c.loop-index-test.true i.0 i.1 c.in_ok-made.ensures

pub returns-then-not-made : goal.returns-then-not-made
returns-then-not-made c =
    let events = c.args.events.now in
    let here = c.loop-index.index in
    let i = c.loop-index.invariant in
    let bad = first_bad (opening c.args.n) c.loop-index.core c.make.new.self events here _ c.in_ok-made.made c.if-not-made.true c.loop-index-test.true i.0 i.1 c.in_ok-made.ensures in record {
      allowed = search rules;
      state = search rules;
      facts = search rules;
      bad = λ k e. subst (IsFirstBad (opening c.args.n) events) (answer_names here k e) bad;
      where_allowed = λ a. absurd (none_bad (opening c.args.n) events here a bad);
      where_bad = λ k b. inl (answer_is here k (one_bad (opening c.args.n) events here k bad b));
    }

pub returns-clause-facts : goal.returns-clause-facts
returns-clause-facts c =
    let i = c.loop-index.invariant in
    let e = at_end (opening c.args.n) c.loop-index.core c.args.events.now c.loop-index.index c.loop-index-test.false i.0 i.1 in
    facts_at c.args.n c.args.events.now c.loop-index.core c.from_vec.result c.from_vec-2.result e.0 e.1
    (c.from_vec.ensures ∙ ap (λ (s : CoreState). s.words) c.core-2.view_is)
    (c.from_vec-2.ensures ∙ ap (λ (s : CoreState). s.seats) c.core-2.view_is)

pub returns-clause-where_bad : goal.returns-clause-where_bad
returns-clause-where_bad c = λ k b.
    let i = c.loop-index.invariant in
    let e = at_end (opening c.args.n) c.loop-index.core c.args.events.now c.loop-index.index c.loop-index-test.false i.0 i.1 in
    absurd (none_bad (opening c.args.n) c.args.events.now k e.0 b)
