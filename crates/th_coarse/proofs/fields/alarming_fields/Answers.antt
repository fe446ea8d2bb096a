use Rattle.std.proofs.Common.{◌≡◌, ◌&&◌, ◌∙◌, ap, map, subst}
use Rattle.std.specs.BTreeSet.{contains}
use Rattle.std.specs.Ordering.{nat_cmp}
use Rattle.std.specs.Prelude.{IfOk, filter, filter_map}
use Rattle.std.proofs.lemmas.List.Elements.{filter_agree}
use Rattle.th_base.specs.IdSet.{has}
use Rattle.th_syntax.specs.Program.{hierarchy_of}
use Rattle.th_coarse.specs.Coarse.{stored_field, is_static_reference, declared_fields}
use Rattle.th_coarse.proofs.fields.alarming_fields.Goals as goal

pub returns : goal.returns
returns c =
    let classes = hierarchy_of c.args.program.now in
    let stored = filter_map (stored_field c.args.program.now) (map (λ i. i.now) c.args.instrs.now) in
    subst (λ fs. IfOk c.fields_in.result (λ fields. map (λ f. f.0) fields.items ≡ map (λ f. f.id.0) fs))
    (filter_agree (λ f. is_static_reference f && contains nat_cmp c.in_ok-stored-2.stored f.id.0) (λ f. is_static_reference f && has stored f.id.0)
    (λ f. ap (λ b. is_static_reference f && b) (c.in_ok-stored-2.ensures f.id.0 ∙ ap (λ ns. has ns f.id.0) c.in_ok-stored.ensures)) (declared_fields classes))
    (subst (λ ks. IfOk c.fields_in.result (λ fields. map (λ f. f.0) fields.items ≡ map (λ f. f.id.0) (filter (λ f. is_static_reference f && contains nat_cmp c.in_ok-stored-2.stored f.id.0) (declared_fields ks))))
    (c.classes.ensures.value ∙ c.hierarchy.ensures) c.fields_in.ensures)
