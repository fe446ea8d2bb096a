use Rattle.std.proofs.Common.{rules, ◌≡◌, ◌<◌, length, get_or, sym, ap, ◌∙◌, arith}
use Rattle.th_base.specs.Hierarchy.{numbered_field}
use Rattle.th_base.proofs.MemberNumbers.{stands, nothing_stands}
use Rattle.th_base.proofs.hierarchy.Hierarchy.field.Goals as goal

pub bounds-as_slice-place : goal.bounds-as_slice-place
bounds-as_slice-place c =
    let place = c.in-Some.place.now in
    let s = stands (λ k. k.fields) (λ m. m.id.0) c.self.inside.classes c.args.id.0 place (sym (c.self.invariant.fields_are c.args.id.0) ∙ sym c.in-Some.ensures.value) in
    omega (arith, s.inside, ap length c.as_slice.ensures)

pub offset_bounds-as_slice-place-in-Some : goal.offset_bounds-as_slice-place-in-Some
offset_bounds-as_slice-place-in-Some c =
    let place = c.in-Some.place.now in
    let s = stands (λ k. k.fields) (λ m. m.id.0) c.self.inside.classes c.args.id.0 place (sym (c.self.invariant.fields_are c.args.id.0) ∙ sym c.in-Some.ensures.value) in
    let k = c.index-as_slice-place.result in
    let k_is : k ≡ get_or c.self.inside.classes place.class k = c.index-as_slice-place.is ∙ ap (λ l. get_or l place.class k) c.as_slice.ensures in
    let inside : place.at < length c.as_slice-in-Some.result.now = omega (arith, s.member_inside k k_is, ap length c.as_slice-in-Some.ensures) in
    search rules

pub bounds-as_slice-place-in-Some : goal.bounds-as_slice-place-in-Some
bounds-as_slice-place-in-Some c =
    let place = c.in-Some.place.now in
    let s = stands (λ k. k.fields) (λ m. m.id.0) c.self.inside.classes c.args.id.0 place (sym (c.self.invariant.fields_are c.args.id.0) ∙ sym c.in-Some.ensures.value) in
    let k = c.index-as_slice-place.result in
    let k_is : k ≡ get_or c.self.inside.classes place.class k = c.index-as_slice-place.is ∙ ap (λ l. get_or l place.class k) c.as_slice.ensures in
    omega (arith, s.member_inside k k_is, ap length c.as_slice-in-Some.ensures)

pub returns-in-Some : goal.returns-in-Some
returns-in-Some c =
    let place = c.in-Some.place.now in
    let s = stands (λ k. k.fields) (λ m. m.id.0) c.self.inside.classes c.args.id.0 place (sym (c.self.invariant.fields_are c.args.id.0) ∙ sym c.in-Some.ensures.value) in
    let k = c.index-as_slice-place.result in
    let k_is : k ≡ get_or c.self.inside.classes place.class k = c.index-as_slice-place.is ∙ ap (λ l. get_or l place.class k) c.as_slice.ensures in
    let x = c.index-as_slice-place-in-Some.result in
    s.is_first k x k_is (c.index-as_slice-place-in-Some.is ∙ ap (λ l. get_or l place.at x) c.as_slice-in-Some.ensures) ∙ ap (λ cs. numbered_field cs c.args.id.0) c.self.view_is

pub returns-in-None : goal.returns-in-None
returns-in-None c =
    nothing_stands (λ k. k.fields) (λ m. m.id.0) c.self.inside.classes c.args.id.0 (sym (c.self.invariant.fields_are c.args.id.0) ∙ sym c.in-None.ensures.value) ∙ ap (λ cs. numbered_field cs c.args.id.0) c.self.view_is
