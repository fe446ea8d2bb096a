use Rattle.std.proofs.Common.{◌≡◌, ◌≢◌, rules, inr, true, false, [], refl}
use Rattle.std.specs.Int.{w128}
use Rattle.std.specs.Int.RustNames.{unsigned_abs, FitsSigned}
use Rattle.std.proofs.lemmas.Int.{to_z-of_z}
use Rattle.th_linear.proofs.Rounds.{one_magnitude}
use Rattle.th_linear.proofs.Normals.{undivided}
use Rattle.th_linear.proofs.division.normal_form.Goals as goal

pub divided-requires-clause-content : goal.divided-requires-clause-content
divided-requires-clause-content c =
    let f : FitsSigned w128 c.positive_content-g.result = search rules in
    rw (to_z-of_z w128 c.positive_content-g.result f, ← c.f.view_is) (rw c.as_slice.ensures.value at c.positive_content-g.ensures.content)

pub divided-requires-then-is_multiple-clause-content : goal.divided-requires-then-is_multiple-clause-content
divided-requires-then-is_multiple-clause-content c =
    let f : FitsSigned w128 c.positive_content-g.result = search rules in
    rw (to_z-of_z w128 c.positive_content-g.result f, ← c.f.view_is) (rw c.as_slice.ensures.value at c.positive_content-g.ensures.content)

pub divided-requires-then-is_multiple-2-clause-content : goal.divided-requires-then-is_multiple-2-clause-content
divided-requires-then-is_multiple-2-clause-content c =
    let f : FitsSigned w128 c.positive_content-g.result = search rules in
    rw (to_z-of_z w128 c.positive_content-g.result f, ← c.f.view_is) (rw c.as_slice.ensures.value at c.positive_content-g.ensures.content)

pub divided-requires-then-is_multiple-clause-whole : goal.divided-requires-then-is_multiple-clause-whole
divided-requires-then-is_multiple-clause-whole c =
    let k : FitsSigned w128 c.f.inside.constant = search rules in
    let m = rw (to_z-of_z w128 c.f.inside.constant k) at (c.if-is_multiple.ensures.0 refl) in
    rw (← c.f.view_is, c.in-Eq.is) m

pub divided-requires-then-is_multiple-2-clause-whole : goal.divided-requires-then-is_multiple-2-clause-whole
divided-requires-then-is_multiple-2-clause-whole c =
    let k : FitsSigned w128 c.f.inside.constant = search rules in
    let m = rw (to_z-of_z w128 c.f.inside.constant k) at (c.if-is_multiple-2.ensures.0 refl) in
    rw (← c.f.view_is, c.in-Ne.is) m

pub returns-else-is_multiple : goal.returns-else-is_multiple
returns-else-is_multiple c =
    let g = c.positive_content-g.result in
    let f : FitsSigned w128 g = search rules in
    let k : FitsSigned w128 c.f.inside.constant = search rules in
    let m = rw (to_z-of_z w128 c.f.inside.constant k, to_z-of_z w128 g f) at c.if-is_multiple.ensures.1 in
    let content = rw c.as_slice.ensures.value at c.positive_content-g.ensures.content in
    let some : c.f.inside.coefs.items ≢ [] = search rules in
    rw (← c.f.view_is) (inr (c.in-Eq.is, some, (unsigned_abs g, (content, (λ d. let n : false ≡ true = m d in cc)))))

pub returns-else-is_multiple-2 : goal.returns-else-is_multiple-2
returns-else-is_multiple-2 c =
    let g = c.positive_content-g.result in
    let f : FitsSigned w128 g = search rules in
    let k : FitsSigned w128 c.f.inside.constant = search rules in
    let m = rw (to_z-of_z w128 c.f.inside.constant k, to_z-of_z w128 g f) at c.if-is_multiple-2.ensures.1 in
    let content = rw c.as_slice.ensures.value at c.positive_content-g.ensures.content in
    let some : c.f.inside.coefs.items ≢ [] = search rules in
    rw (← c.f.view_is) (inr (c.in-Ne.is, some, (unsigned_abs g, (content, (λ d. let n : false ≡ true = m d in cc)))))

pub returns-then-g-eq1 : goal.returns-then-g-eq1
returns-then-g-eq1 c =
    let g = c.positive_content-g.result in
    let f : FitsSigned w128 g = search rules in
    let content = rw c.as_slice.ensures.value at c.positive_content-g.ensures.content in
    let some : c.f.inside.coefs.items ≢ [] = search rules in
    rw (← c.f.view_is) (some, (unsigned_abs g, undivided _ (unsigned_abs g) (one_magnitude g f c.positive_content-g.ensures.positive c.if-g-eq1.true) content))
