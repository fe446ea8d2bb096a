use Rattle.std.proofs.Common.{◌≡◌, ◌<◌, length, get_or, sym, ap, ◌∙◌, arith}
use Rattle.std.specs.Option.{option_copied}
use Rattle.th_base.specs.Hierarchy.{declared_method}
use Rattle.th_base.proofs.MemberPlaces.{indexed_at, indexed_length}
use Rattle.th_base.proofs.Upward.{method_here}
use Rattle.th_base.proofs.hierarchy.Hierarchy.declared_method.Goals as goal

pub index-requires : goal.index-requires
index-requires c =
    let classes = c.self.inside.classes in
    let at = c.args.class.0 in
    let inside : at < length classes = omega (arith, ap length c.self.view_is, c.requires) in
    omega (arith, c.self.inside.members.ok.0, indexed_length classes c.self.inside.members.items c.self.invariant.indexed)

pub method_in-requires : goal.method_in-requires
method_in-requires c =
    let classes = c.self.inside.classes in
    let at = c.args.class.0 in
    let inside : at < length classes = omega (arith, ap length c.self.view_is, c.requires) in
    let k = c.index-as_slice-at.result in
    let k_is : k ≡ get_or classes at k = c.index-as_slice-at.is ∙ ap (λ l. get_or l at k) c.as_slice.ensures in
    (indexed_at classes c.self.inside.members.items at k c.index.result.now c.self.invariant.indexed inside k_is c.index.ensures).methods

pub returns : goal.returns
returns c =
    let classes = c.self.inside.classes in
    let at = c.args.class.0 in
    let inside : at < length classes = omega (arith, ap length c.self.view_is, c.requires) in
    let k = c.index-as_slice-at.result in
    let k_is : k ≡ get_or classes at k = c.index-as_slice-at.is ∙ ap (λ l. get_or l at k) c.as_slice.ensures in
    sym (method_here classes c.args.name.now c.args.descriptor.now at k (option_copied c.method_in.result) inside k_is c.method_in.ensures)
    ∙ ap (λ cs. declared_method cs c.args.name.now c.args.descriptor.now at) c.self.view_is
