use Rattle.std.proofs.Common.{◌≡◌, ℕ, ◌≤◌, zero, suc, List, [], ◌∷◌, length, Some, None, refl, sym, ap, subst, arith, ◌∙◌}
use Rattle.th_base.specs.declared.number.Reg.{Reg}
use Rattle.th_incl.specs.Least.{set_at}
use Rattle.th_incl.proofs.Through.{read_at}
use Rattle.th_ir.proofs.Plain.{same_found}
use Rattle.th_points_to.specs.Asked.{Asks, base_of}
use Rattle.th_points_to.specs.Opening.{AsksOnAll, Opens}
use Rattle.th_points_to.specs.Tables.{AreTables}
use Rattle.th_points_to.proofs.Adding.{adds_as, adds_both, keeps_both}
use Rattle.th_points_to.proofs.Initialising.{inits_kept}
use Rattle.th_points_to.proofs.opening.open_node.Goals as goal

past : (sets : List (List ℕ)) (k : ℕ) → length sets ≤ k → set_at sets k ≡ []
past [] k h = refl
past (x ∷ xs) zero h = absurd (omega arith)
past (x ∷ xs) (suc k) h = past xs k (omega arith)

pub returns-then-at-handled-clause-keeps : goal.returns-then-at-handled-clause-keeps
returns-then-at-handled-clause-keeps c = c.in_ok-ask.ensures.keeps

pub returns-then-at-handled-clause-adds : goal.returns-then-at-handled-clause-adds
returns-then-at-handled-clause-adds c = λ are go inits.
    let h = c.args.hierarchy.now in
    let l = c.args.layout in
    let p = c.args.program.now in
    let n = c.args.number in
    let stmt = c.args.node.now.stmt in
    let base : Reg = c.in-Some.base in
    let is : base_of stmt ≡ Some base = sym c.base_of.ensures ∙ c.in-Some.is in
    adds_as l p c.args.found.now c.ask.new.found (λ t. Asks h l p t n stmt) (λ t. Opens h l p c.args.handled.now t n stmt)
    (λ t opens. opens.asks)
    (λ t range asks. record {
      asks = asks;
      on = λ r e.
          (let same : base ≡ r = same_found (base_of stmt) base r is e in
          let none : set_at c.args.handled.now r.0 ≡ [] = ap (λ (q : Reg). set_at c.args.handled.now q.0) (sym same) ∙ past c.args.handled.now base.0 c.if-at-handled.true in
          subst (AsksOnAll h l p t n stmt) (sym none) tt);
    })
    (c.in_ok-ask.ensures.adds are go inits)

pub ask_sites-requires-clause-laid : goal.ask_sites-requires-clause-laid
ask_sites-requires-clause-laid c = c.in_ok-ask.ensures.keeps.laid

pub ask_sites-requires-clause-tables : goal.ask_sites-requires-clause-tables
ask_sites-requires-clause-tables c =
    subst (λ (fs : List (List ℕ)). AreTables c.args.hierarchy.now c.args.layout c.args.program.now fs c.args.tables.now) (sym c.in_ok-ask.ensures.keeps.filters) c.requires.tables

pub ask_sites-requires-clause-node : goal.ask_sites-requires-clause-node
ask_sites-requires-clause-node c = c.requires.node

pub returns-in_ok-ask_sites-in-Some-clause-keeps : goal.returns-in_ok-ask_sites-in-Some-clause-keeps
returns-in_ok-ask_sites-in-Some-clause-keeps c =
    keeps_both c.args.layout c.args.found.now c.ask.new.found c.ask_sites.new.found c.in_ok-ask.ensures.keeps c.in_ok-ask_sites-in-Some.ensures.keeps

pub returns-in_ok-ask_sites-in-Some-clause-adds : goal.returns-in_ok-ask_sites-in-Some-clause-adds
returns-in_ok-ask_sites-in-Some-clause-adds c = λ are go inits.
    let h = c.args.hierarchy.now in
    let l = c.args.layout in
    let p = c.args.program.now in
    let n = c.args.number in
    let stmt = c.args.node.now.stmt in
    let base : Reg = c.in-Some.base in
    let is : base_of stmt ≡ Some base = sym c.base_of.ensures ∙ c.in-Some.is in
    let sites : c.ids-sites.result.now ≡ set_at c.args.handled.now base.0 =
    c.ids-sites.ensures.value ∙ read_at c.args.handled.now base.0 c.index-handled-at.result c.index-handled-at.is (omega (arith, c.if-at-handled.false)) in
    let first = c.in_ok-ask.ensures.adds are go inits in
    adds_as l p c.args.found.now c.ask_sites.new.found (λ t. Asks h l p t n stmt × AsksOnAll h l p t n stmt c.ids-sites.result.now) (λ t. Opens h l p c.args.handled.now t n stmt)
    (λ t opens. (opens.asks, subst (AsksOnAll h l p t n stmt) (sym sites) (opens.on base is)))
    (λ t range both. record {
      asks = both.0;
      on = λ r e. subst (λ (q : Reg). AsksOnAll h l p t n stmt (set_at c.args.handled.now q.0)) (same_found (base_of stmt) base r is e) (subst (AsksOnAll h l p t n stmt) sites both.1);
    })
    (adds_both l p c.args.found.now c.ask.new.found c.ask_sites.new.found (λ t. Asks h l p t n stmt) (λ t. AsksOnAll h l p t n stmt c.ids-sites.result.now)
    first (c.in_ok-ask_sites-in-Some.ensures.adds are (first.go go)))

pub returns-in-None-clause-keeps : goal.returns-in-None-clause-keeps
returns-in-None-clause-keeps c = c.in_ok-ask.ensures.keeps

pub returns-in-None-clause-adds : goal.returns-in-None-clause-adds
returns-in-None-clause-adds c = λ are go inits.
    let h = c.args.hierarchy.now in
    let l = c.args.layout in
    let p = c.args.program.now in
    let n = c.args.number in
    let stmt = c.args.node.now.stmt in
    let is : base_of stmt ≡ None = sym c.base_of.ensures ∙ c.in-None.is in
    adds_as l p c.args.found.now c.ask.new.found (λ t. Asks h l p t n stmt) (λ t. Opens h l p c.args.handled.now t n stmt)
    (λ t opens. opens.asks)
    (λ t range asks. record { asks = asks; on = λ r e. absurd cc })
    (c.in_ok-ask.ensures.adds are go inits)

pub returns-in_ok-ask_sites-in-Some-clause-inits : goal.returns-in_ok-ask_sites-in-Some-clause-inits
returns-in_ok-ask_sites-in-Some-clause-inits c = λ are go inits.
    let first = c.in_ok-ask.ensures.adds are go inits in
    inits_kept c.args.hierarchy.now c.args.layout c.args.program.now c.ask.new.found c.ask_sites.new.found _ c.ask.new.met.keys (c.in_ok-ask_sites-in-Some.ensures.adds are (first.go go))
    (c.in_ok-ask.ensures.inits are go inits)

pub returns-in-None-clause-inits : goal.returns-in-None-clause-inits
returns-in-None-clause-inits c = λ are go inits. c.in_ok-ask.ensures.inits are go inits

pub returns-then-at-handled-clause-inits : goal.returns-then-at-handled-clause-inits
returns-then-at-handled-clause-inits c = λ are go inits. c.in_ok-ask.ensures.inits are go inits
