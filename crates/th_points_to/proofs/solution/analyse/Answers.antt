use Rattle.std.proofs.Common.{◌≡◌, ◌≤◌, List, ap, subst, arith, ◌∙◌}
use Rattle.th_base.specs.declared.class.ClassInfo.{ClassInfo}
use Rattle.th_ir.specs.declared.facts.Facts.{Facts}
use Rattle.th_ir.specs.Fields.{field_count}
use Rattle.th_ir.specs.Plan.{pair_count}
use Rattle.th_ir.specs.Rules.{LeastFacts}
use Rattle.th_points_to.specs.declared.solution.Analysis.{Analysis}
use Rattle.th_points_to.specs.declared.solution.Analysis.TheVariants.{Least}
use Rattle.th_points_to.proofs.Analysing.{are_once, facts_found, over_found}
use Rattle.th_points_to.proofs.PairSums.{pairs_within}
use Rattle.th_points_to.proofs.solution.analyse.Goals as goal

same_facts : (a b : Facts) → (let x : Analysis = Least a in x) ≡ Least b → a ≡ b
same_facts a b e = cc

pub begin-requires-clause-first : goal.begin-requires-clause-first
begin-requires-clause-first c = c.in_ok-layout.ensures.first

pub begin-requires-clause-filters : goal.begin-requires-clause-filters
begin-requires-clause-filters c = c.in_ok-filters.ensures.some

pub begin-requires-clause-every : goal.begin-requires-clause-every
begin-requires-clause-every c = λ x less.
    c.in_ok-filters.ensures.every x (omega (arith, less, c.in_ok-layout.ensures.sites, c.in_ok-sites.ensures.same, c.len-2.ensures))

pub rounds-requires-clause-state : goal.rounds-requires-clause-state
rounds-requires-clause-state c = c.in_ok-state.ensures.state c.args.hierarchy.now c.in_ok-tables.tables (c.in_ok-tables.ensures c.in_ok-filters.filters.items c.in_ok-filters.ensures.filters)

pub rounds-requires-clause-few : goal.rounds-requires-clause-few
rounds-requires-clause-few c = omega (arith, c.in_ok-state.ensures.none)

pub rounds-requires-clause-grown : goal.rounds-requires-clause-grown
rounds-requires-clause-grown c = c.in_ok-state.ensures.grown

pub list-requires-clause-laid : goal.list-requires-clause-laid
list-requires-clause-laid c = c.in_ok-done.ensures.state.laid

pub list-requires-clause-least : goal.list-requires-clause-least
list-requires-clause-least c = c.in_ok-done.ensures.least c.if-not-done.false

pub list-requires-clause-few : goal.list-requires-clause-few
list-requires-clause-few c = omega (arith, c.in_ok-layout.ensures.sites, c.in_ok-sites.ensures.same, c.in_ok-sites.ensures.few)

pub returns-then-not-done-clause-over : goal.returns-then-not-done-clause-over
returns-then-not-done-clause-over c = λ wf e facts least.
    let h = c.args.hierarchy.now in
    let p = c.args.program.now in
    let l = c.in_ok-layout.layout in
    let s = c.rounds.new.state in
    over_found h l p c.in_ok-tables.tables s _ facts (c.in_ok-layout.ensures.registers ∙ c.in_ok-registers.ensures.count)
    (c.in_ok-layout.ensures.fields ∙ ap (λ (cs : List ClassInfo). field_count cs) c.classes.ensures.value)
    c.in_ok-done.ensures.state (are_once s.found.cells.keys c.len-cells.ensures.unique) (c.in_ok-done.ensures.more c.if-not-done.true)
    (c.in_ok-done.ensures.sound wf.numbers (c.in_ok-state.ensures.round h)) least

pub returns-clause-facts : goal.returns-clause-facts
returns-clause-facts c = λ wf facts e.
    let h = c.args.hierarchy.now in
    let p = c.args.program.now in
    let l = c.in_ok-layout.layout in
    let s = c.rounds.new.state in
    let done = c.if-not-done.false in
    subst (λ (f : Facts). LeastFacts h p f) (same_facts c.in_ok-facts.facts facts e)
    (facts_found h l p c.in_ok-tables.tables s c.in_ok-facts.facts wf (c.in_ok-layout.ensures.registers ∙ c.in_ok-registers.ensures.count)
    (c.in_ok-layout.ensures.fields ∙ ap (λ (cs : List ClassInfo). field_count cs) c.classes.ensures.value) (c.in_ok-layout.ensures.sites ∙ c.in_ok-sites.ensures.same ∙ c.len-2.ensures)
    c.in_ok-done.ensures.state (c.in_ok-done.ensures.round wf.numbers (c.in_ok-state.ensures.round h) done) (c.in_ok-done.ensures.opened done) (c.in_ok-done.ensures.least done)
    (are_once s.found.cells.keys c.len-cells.ensures.unique) c.in_ok-facts.ensures)

pub returns-clause-within : goal.returns-clause-within
returns-clause-within c = λ wf facts e.
    let l = c.in_ok-layout.layout in
    let s = c.rounds.new.state in
    let done = c.if-not-done.false in
    let count = pairs_within l s.found c.in_ok-facts.facts c.in_ok-done.ensures.state.laid (c.in_ok-done.ensures.least done) c.in_ok-facts.ensures in
    let few = c.in_ok-done.ensures.few done in
    subst (λ (f : Facts). pair_count f ≤ 100000000) (same_facts c.in_ok-facts.facts facts e) (omega (arith, count, few))
