use Rattle.std.proofs.Common.{◌<◌, ◌-◌, ℕ, eqb, length, get_or, refl, ap, ◌∙◌, arith}
use Rattle.th_base.specs.Hierarchy.{is_subclass}
use Rattle.th_base.proofs.Looked.{line_is, line_first, subclass_at, no_subclass}
use Rattle.th_base.proofs.hierarchy.Hierarchy.is_subclass.Goals as goal

pub returns-then-line-rest : goal.returns-then-line-rest
returns-then-line-rest c =
    let classes = c.self.inside.classes in
    let rows = c.self.inside.above.items in
    let in_a : c.args.a.0 < length classes = omega (arith, ap length c.self.view_is, c.requires.a) in
    let in_b : c.args.b.0 < length classes = omega (arith, ap length c.self.view_is, c.requires.b) in
    let line = line_is classes rows c.args.a.0 c.index.result.now c.as_slice-line.result.now c.self.invariant.above in_a c.index.ensures c.as_slice-line.ensures in
    let rest = line_is classes rows c.args.b.0 c.index-2.result.now c.index-2.result.now.line c.self.invariant.above in_b c.index-2.ensures refl in
    no_subclass classes c.args.a.0 c.args.b.0 c.as_slice-line.result.now c.index-2.result.now.line c.self.invariant.acyclic in_a line rest (omega (arith, c.if-line-rest.true, c.len-rest.ensures))
    ∙ ap (λ cs. is_subclass cs c.args.a.0 c.args.b.0) c.self.view_is

pub bounds-line-line : goal.bounds-line-line
bounds-line-line c =
    let classes = c.self.inside.classes in
    let rows = c.self.inside.above.items in
    let in_a : c.args.a.0 < length classes = omega (arith, ap length c.self.view_is, c.requires.a) in
    let in_b : c.args.b.0 < length classes = omega (arith, ap length c.self.view_is, c.requires.b) in
    let line = line_is classes rows c.args.a.0 c.index.result.now c.as_slice-line.result.now c.self.invariant.above in_a c.index.ensures c.as_slice-line.ensures in
    let rest = line_is classes rows c.args.b.0 c.index-2.result.now c.index-2.result.now.line c.self.invariant.above in_b c.index-2.ensures refl in
    let some = line_first classes c.args.b.0 c.index-2.result.now.line c.self.invariant.acyclic in_b rest in
    let more = line_first classes c.args.a.0 c.as_slice-line.result.now c.self.invariant.acyclic in_a line in
    omega (arith, c.len-rest.ensures)

pub returns : goal.returns
returns c =
    let classes = c.self.inside.classes in
    let rows = c.self.inside.above.items in
    let in_a : c.args.a.0 < length classes = omega (arith, ap length c.self.view_is, c.requires.a) in
    let in_b : c.args.b.0 < length classes = omega (arith, ap length c.self.view_is, c.requires.b) in
    let line = line_is classes rows c.args.a.0 c.index.result.now c.as_slice-line.result.now c.self.invariant.above in_a c.index.ensures c.as_slice-line.ensures in
    let rest = line_is classes rows c.args.b.0 c.index-2.result.now c.index-2.result.now.line c.self.invariant.above in_b c.index-2.ensures refl in
    ap (λ (n : ℕ). eqb (get_or c.as_slice-line.result.now (length c.as_slice-line.result.now - n) 0) c.args.b.0) c.len-rest.ensures
    ∙ subclass_at classes c.args.a.0 c.args.b.0 c.as_slice-line.result.now c.index-2.result.now.line c.self.invariant.acyclic in_a in_b line rest
    ∙ ap (λ cs. is_subclass cs c.args.a.0 c.args.b.0) c.self.view_is
