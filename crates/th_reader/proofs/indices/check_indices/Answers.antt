use Rattle.std.proofs.Common.{◌++◌, map, ap, ◌∙◌, List}
use Rattle.std.specs.List.{flat_map}
use Rattle.std.proofs.lemmas.Result.{err_from_is_err_and}
use Rattle.th_syntax.specs.declared.tag.TheConstants as tag
use Rattle.th_syntax.specs.PoolChecks.{entry_flaws}
use Rattle.th_syntax.specs.Checks as checks
use Rattle.th_syntax.specs.Checks.{second_pass, third_pass}
use Rattle.th_reader.specs.declared.layout.Index.{Index}
use Rattle.th_reader.specs.declared.layout.RawAttribute.{RawAttribute}
use Rattle.th_reader.specs.declared.layout.RawMember.{RawMember}
use Rattle.th_reader.specs.Passes.{front_flaw}
use Rattle.th_reader.specs.RawView.{index_view, attribute_view, member_view, class_view, indices_of, attributes_of, members_of}
use Rattle.th_reader.proofs.Walking.{front_on, front_here, ascend_front}
use Rattle.th_reader.proofs.indices.check_indices.Goals as goal

pub check_entries-requires : goal.check_entries-requires
unfolding second_pass
check_entries-requires c = ascend_front (entry_flaws c.args.class.now.pool) _ c.requires

pub returns-in_err-check_entries : goal.returns-in_err-check_entries
unfolding second_pass
returns-in_err-check_entries c =
    let p = err_from_is_err_and c.from_residual.result c.from_residual.ensures.1 in
    rw (p.1, p.2)
    (front_here (entry_flaws c.args.class.now.pool) ((checks.index_flaws c.args.class.now.pool tag.CLASS (index_view c.args.class.now.this_class)) ++ ((checks.super_index_flaws (class_view c.args.class.now)) ++ ((flat_map (checks.index_flaws c.args.class.now.pool tag.CLASS) (indices_of c.args.class.now.interfaces)) ++ ((flat_map (checks.member_index_flaws c.args.class.now.pool) (members_of c.args.class.now.fields)) ++ ((flat_map (checks.member_index_flaws c.args.class.now.pool) (members_of c.args.class.now.methods)) ++ (flat_map (checks.attribute_index_flaws c.args.class.now.pool) (attributes_of c.args.class.now.attributes))))))) c.in_err-check_entries.field-0.0 (c.in_err-check_entries.ensures))

pub returns-in_err-check_index : goal.returns-in_err-check_index
unfolding second_pass
returns-in_err-check_index c =
    let p = err_from_is_err_and c.from_residual-in_err-check_index.result c.from_residual-in_err-check_index.ensures.1 in
    rw (p.1, p.2)
    (front_on (entry_flaws c.args.class.now.pool) ((checks.index_flaws c.args.class.now.pool tag.CLASS (index_view c.args.class.now.this_class)) ++ ((checks.super_index_flaws (class_view c.args.class.now)) ++ ((flat_map (checks.index_flaws c.args.class.now.pool tag.CLASS) (indices_of c.args.class.now.interfaces)) ++ ((flat_map (checks.member_index_flaws c.args.class.now.pool) (members_of c.args.class.now.fields)) ++ ((flat_map (checks.member_index_flaws c.args.class.now.pool) (members_of c.args.class.now.methods)) ++ (flat_map (checks.attribute_index_flaws c.args.class.now.pool) (attributes_of c.args.class.now.attributes))))))) _ (c.in_ok-check_entries.ensures)
    (front_here (checks.index_flaws c.args.class.now.pool tag.CLASS (index_view c.args.class.now.this_class)) ((checks.super_index_flaws (class_view c.args.class.now)) ++ ((flat_map (checks.index_flaws c.args.class.now.pool tag.CLASS) (indices_of c.args.class.now.interfaces)) ++ ((flat_map (checks.member_index_flaws c.args.class.now.pool) (members_of c.args.class.now.fields)) ++ ((flat_map (checks.member_index_flaws c.args.class.now.pool) (members_of c.args.class.now.methods)) ++ (flat_map (checks.attribute_index_flaws c.args.class.now.pool) (attributes_of c.args.class.now.attributes)))))) c.in_err-check_index.field-0.0 (c.in_err-check_index.ensures)))

pub returns-in_err-check_super : goal.returns-in_err-check_super
unfolding second_pass
returns-in_err-check_super c =
    let p = err_from_is_err_and c.from_residual-in_err-check_super.result c.from_residual-in_err-check_super.ensures.1 in
    rw (p.1, p.2)
    (front_on (entry_flaws c.args.class.now.pool) ((checks.index_flaws c.args.class.now.pool tag.CLASS (index_view c.args.class.now.this_class)) ++ ((checks.super_index_flaws (class_view c.args.class.now)) ++ ((flat_map (checks.index_flaws c.args.class.now.pool tag.CLASS) (indices_of c.args.class.now.interfaces)) ++ ((flat_map (checks.member_index_flaws c.args.class.now.pool) (members_of c.args.class.now.fields)) ++ ((flat_map (checks.member_index_flaws c.args.class.now.pool) (members_of c.args.class.now.methods)) ++ (flat_map (checks.attribute_index_flaws c.args.class.now.pool) (attributes_of c.args.class.now.attributes))))))) _ (c.in_ok-check_entries.ensures)
    (front_on (checks.index_flaws c.args.class.now.pool tag.CLASS (index_view c.args.class.now.this_class)) ((checks.super_index_flaws (class_view c.args.class.now)) ++ ((flat_map (checks.index_flaws c.args.class.now.pool tag.CLASS) (indices_of c.args.class.now.interfaces)) ++ ((flat_map (checks.member_index_flaws c.args.class.now.pool) (members_of c.args.class.now.fields)) ++ ((flat_map (checks.member_index_flaws c.args.class.now.pool) (members_of c.args.class.now.methods)) ++ (flat_map (checks.attribute_index_flaws c.args.class.now.pool) (attributes_of c.args.class.now.attributes)))))) _ (c.in_ok-check_index.ensures)
    (front_here (checks.super_index_flaws (class_view c.args.class.now)) ((flat_map (checks.index_flaws c.args.class.now.pool tag.CLASS) (indices_of c.args.class.now.interfaces)) ++ ((flat_map (checks.member_index_flaws c.args.class.now.pool) (members_of c.args.class.now.fields)) ++ ((flat_map (checks.member_index_flaws c.args.class.now.pool) (members_of c.args.class.now.methods)) ++ (flat_map (checks.attribute_index_flaws c.args.class.now.pool) (attributes_of c.args.class.now.attributes))))) c.in_err-check_super.field-0.0 (c.in_err-check_super.ensures))))

pub returns-in_err-check_classes : goal.returns-in_err-check_classes
unfolding second_pass
returns-in_err-check_classes c =
    let p = err_from_is_err_and c.from_residual-in_err-check_classes.result c.from_residual-in_err-check_classes.ensures.1 in
    rw (p.1, p.2)
    (front_on (entry_flaws c.args.class.now.pool) ((checks.index_flaws c.args.class.now.pool tag.CLASS (index_view c.args.class.now.this_class)) ++ ((checks.super_index_flaws (class_view c.args.class.now)) ++ ((flat_map (checks.index_flaws c.args.class.now.pool tag.CLASS) (indices_of c.args.class.now.interfaces)) ++ ((flat_map (checks.member_index_flaws c.args.class.now.pool) (members_of c.args.class.now.fields)) ++ ((flat_map (checks.member_index_flaws c.args.class.now.pool) (members_of c.args.class.now.methods)) ++ (flat_map (checks.attribute_index_flaws c.args.class.now.pool) (attributes_of c.args.class.now.attributes))))))) _ (c.in_ok-check_entries.ensures)
    (front_on (checks.index_flaws c.args.class.now.pool tag.CLASS (index_view c.args.class.now.this_class)) ((checks.super_index_flaws (class_view c.args.class.now)) ++ ((flat_map (checks.index_flaws c.args.class.now.pool tag.CLASS) (indices_of c.args.class.now.interfaces)) ++ ((flat_map (checks.member_index_flaws c.args.class.now.pool) (members_of c.args.class.now.fields)) ++ ((flat_map (checks.member_index_flaws c.args.class.now.pool) (members_of c.args.class.now.methods)) ++ (flat_map (checks.attribute_index_flaws c.args.class.now.pool) (attributes_of c.args.class.now.attributes)))))) _ (c.in_ok-check_index.ensures)
    (front_on (checks.super_index_flaws (class_view c.args.class.now)) ((flat_map (checks.index_flaws c.args.class.now.pool tag.CLASS) (indices_of c.args.class.now.interfaces)) ++ ((flat_map (checks.member_index_flaws c.args.class.now.pool) (members_of c.args.class.now.fields)) ++ ((flat_map (checks.member_index_flaws c.args.class.now.pool) (members_of c.args.class.now.methods)) ++ (flat_map (checks.attribute_index_flaws c.args.class.now.pool) (attributes_of c.args.class.now.attributes))))) _ (c.in_ok-check_super.ensures)
    (front_here (flat_map (checks.index_flaws c.args.class.now.pool tag.CLASS) (indices_of c.args.class.now.interfaces)) ((flat_map (checks.member_index_flaws c.args.class.now.pool) (members_of c.args.class.now.fields)) ++ ((flat_map (checks.member_index_flaws c.args.class.now.pool) (members_of c.args.class.now.methods)) ++ (flat_map (checks.attribute_index_flaws c.args.class.now.pool) (attributes_of c.args.class.now.attributes)))) c.in_err-check_classes.field-0.0 (c.in_err-check_classes.ensures ∙ ap (λ (xs : List Index). front_flaw (flat_map (checks.index_flaws c.args.class.now.pool tag.CLASS) (map index_view xs))) c.as_slice.ensures.value)))))

pub returns-in_err-check_members : goal.returns-in_err-check_members
unfolding second_pass
returns-in_err-check_members c =
    let p = err_from_is_err_and c.from_residual-in_err-check_members.result c.from_residual-in_err-check_members.ensures.1 in
    rw (p.1, p.2)
    (front_on (entry_flaws c.args.class.now.pool) ((checks.index_flaws c.args.class.now.pool tag.CLASS (index_view c.args.class.now.this_class)) ++ ((checks.super_index_flaws (class_view c.args.class.now)) ++ ((flat_map (checks.index_flaws c.args.class.now.pool tag.CLASS) (indices_of c.args.class.now.interfaces)) ++ ((flat_map (checks.member_index_flaws c.args.class.now.pool) (members_of c.args.class.now.fields)) ++ ((flat_map (checks.member_index_flaws c.args.class.now.pool) (members_of c.args.class.now.methods)) ++ (flat_map (checks.attribute_index_flaws c.args.class.now.pool) (attributes_of c.args.class.now.attributes))))))) _ (c.in_ok-check_entries.ensures)
    (front_on (checks.index_flaws c.args.class.now.pool tag.CLASS (index_view c.args.class.now.this_class)) ((checks.super_index_flaws (class_view c.args.class.now)) ++ ((flat_map (checks.index_flaws c.args.class.now.pool tag.CLASS) (indices_of c.args.class.now.interfaces)) ++ ((flat_map (checks.member_index_flaws c.args.class.now.pool) (members_of c.args.class.now.fields)) ++ ((flat_map (checks.member_index_flaws c.args.class.now.pool) (members_of c.args.class.now.methods)) ++ (flat_map (checks.attribute_index_flaws c.args.class.now.pool) (attributes_of c.args.class.now.attributes)))))) _ (c.in_ok-check_index.ensures)
    (front_on (checks.super_index_flaws (class_view c.args.class.now)) ((flat_map (checks.index_flaws c.args.class.now.pool tag.CLASS) (indices_of c.args.class.now.interfaces)) ++ ((flat_map (checks.member_index_flaws c.args.class.now.pool) (members_of c.args.class.now.fields)) ++ ((flat_map (checks.member_index_flaws c.args.class.now.pool) (members_of c.args.class.now.methods)) ++ (flat_map (checks.attribute_index_flaws c.args.class.now.pool) (attributes_of c.args.class.now.attributes))))) _ (c.in_ok-check_super.ensures)
    (front_on (flat_map (checks.index_flaws c.args.class.now.pool tag.CLASS) (indices_of c.args.class.now.interfaces)) ((flat_map (checks.member_index_flaws c.args.class.now.pool) (members_of c.args.class.now.fields)) ++ ((flat_map (checks.member_index_flaws c.args.class.now.pool) (members_of c.args.class.now.methods)) ++ (flat_map (checks.attribute_index_flaws c.args.class.now.pool) (attributes_of c.args.class.now.attributes)))) _ (c.in_ok-check_classes.ensures ∙ ap (λ (xs : List Index). front_flaw (flat_map (checks.index_flaws c.args.class.now.pool tag.CLASS) (map index_view xs))) c.as_slice.ensures.value)
    (front_here (flat_map (checks.member_index_flaws c.args.class.now.pool) (members_of c.args.class.now.fields)) ((flat_map (checks.member_index_flaws c.args.class.now.pool) (members_of c.args.class.now.methods)) ++ (flat_map (checks.attribute_index_flaws c.args.class.now.pool) (attributes_of c.args.class.now.attributes))) c.in_err-check_members.field-0.0 (c.in_err-check_members.ensures ∙ ap (λ (xs : List RawMember). front_flaw (flat_map (checks.member_index_flaws c.args.class.now.pool) (map member_view xs))) c.as_slice-2.ensures.value))))))

pub returns-in_err-check_members-2 : goal.returns-in_err-check_members-2
unfolding second_pass
returns-in_err-check_members-2 c =
    let p = err_from_is_err_and c.from_residual-in_err-check_members-2.result c.from_residual-in_err-check_members-2.ensures.1 in
    rw (p.1, p.2)
    (front_on (entry_flaws c.args.class.now.pool) ((checks.index_flaws c.args.class.now.pool tag.CLASS (index_view c.args.class.now.this_class)) ++ ((checks.super_index_flaws (class_view c.args.class.now)) ++ ((flat_map (checks.index_flaws c.args.class.now.pool tag.CLASS) (indices_of c.args.class.now.interfaces)) ++ ((flat_map (checks.member_index_flaws c.args.class.now.pool) (members_of c.args.class.now.fields)) ++ ((flat_map (checks.member_index_flaws c.args.class.now.pool) (members_of c.args.class.now.methods)) ++ (flat_map (checks.attribute_index_flaws c.args.class.now.pool) (attributes_of c.args.class.now.attributes))))))) _ (c.in_ok-check_entries.ensures)
    (front_on (checks.index_flaws c.args.class.now.pool tag.CLASS (index_view c.args.class.now.this_class)) ((checks.super_index_flaws (class_view c.args.class.now)) ++ ((flat_map (checks.index_flaws c.args.class.now.pool tag.CLASS) (indices_of c.args.class.now.interfaces)) ++ ((flat_map (checks.member_index_flaws c.args.class.now.pool) (members_of c.args.class.now.fields)) ++ ((flat_map (checks.member_index_flaws c.args.class.now.pool) (members_of c.args.class.now.methods)) ++ (flat_map (checks.attribute_index_flaws c.args.class.now.pool) (attributes_of c.args.class.now.attributes)))))) _ (c.in_ok-check_index.ensures)
    (front_on (checks.super_index_flaws (class_view c.args.class.now)) ((flat_map (checks.index_flaws c.args.class.now.pool tag.CLASS) (indices_of c.args.class.now.interfaces)) ++ ((flat_map (checks.member_index_flaws c.args.class.now.pool) (members_of c.args.class.now.fields)) ++ ((flat_map (checks.member_index_flaws c.args.class.now.pool) (members_of c.args.class.now.methods)) ++ (flat_map (checks.attribute_index_flaws c.args.class.now.pool) (attributes_of c.args.class.now.attributes))))) _ (c.in_ok-check_super.ensures)
    (front_on (flat_map (checks.index_flaws c.args.class.now.pool tag.CLASS) (indices_of c.args.class.now.interfaces)) ((flat_map (checks.member_index_flaws c.args.class.now.pool) (members_of c.args.class.now.fields)) ++ ((flat_map (checks.member_index_flaws c.args.class.now.pool) (members_of c.args.class.now.methods)) ++ (flat_map (checks.attribute_index_flaws c.args.class.now.pool) (attributes_of c.args.class.now.attributes)))) _ (c.in_ok-check_classes.ensures ∙ ap (λ (xs : List Index). front_flaw (flat_map (checks.index_flaws c.args.class.now.pool tag.CLASS) (map index_view xs))) c.as_slice.ensures.value)
    (front_on (flat_map (checks.member_index_flaws c.args.class.now.pool) (members_of c.args.class.now.fields)) ((flat_map (checks.member_index_flaws c.args.class.now.pool) (members_of c.args.class.now.methods)) ++ (flat_map (checks.attribute_index_flaws c.args.class.now.pool) (attributes_of c.args.class.now.attributes))) _ (c.in_ok-check_members.ensures ∙ ap (λ (xs : List RawMember). front_flaw (flat_map (checks.member_index_flaws c.args.class.now.pool) (map member_view xs))) c.as_slice-2.ensures.value)
    (front_here (flat_map (checks.member_index_flaws c.args.class.now.pool) (members_of c.args.class.now.methods)) (flat_map (checks.attribute_index_flaws c.args.class.now.pool) (attributes_of c.args.class.now.attributes)) c.in_err-check_members-2.field-0.0 (c.in_err-check_members-2.ensures ∙ ap (λ (xs : List RawMember). front_flaw (flat_map (checks.member_index_flaws c.args.class.now.pool) (map member_view xs))) c.as_slice-3.ensures.value)))))))

pub returns : goal.returns
unfolding second_pass
returns c =
    (front_on (entry_flaws c.args.class.now.pool) ((checks.index_flaws c.args.class.now.pool tag.CLASS (index_view c.args.class.now.this_class)) ++ ((checks.super_index_flaws (class_view c.args.class.now)) ++ ((flat_map (checks.index_flaws c.args.class.now.pool tag.CLASS) (indices_of c.args.class.now.interfaces)) ++ ((flat_map (checks.member_index_flaws c.args.class.now.pool) (members_of c.args.class.now.fields)) ++ ((flat_map (checks.member_index_flaws c.args.class.now.pool) (members_of c.args.class.now.methods)) ++ (flat_map (checks.attribute_index_flaws c.args.class.now.pool) (attributes_of c.args.class.now.attributes))))))) _ (c.in_ok-check_entries.ensures)
    (front_on (checks.index_flaws c.args.class.now.pool tag.CLASS (index_view c.args.class.now.this_class)) ((checks.super_index_flaws (class_view c.args.class.now)) ++ ((flat_map (checks.index_flaws c.args.class.now.pool tag.CLASS) (indices_of c.args.class.now.interfaces)) ++ ((flat_map (checks.member_index_flaws c.args.class.now.pool) (members_of c.args.class.now.fields)) ++ ((flat_map (checks.member_index_flaws c.args.class.now.pool) (members_of c.args.class.now.methods)) ++ (flat_map (checks.attribute_index_flaws c.args.class.now.pool) (attributes_of c.args.class.now.attributes)))))) _ (c.in_ok-check_index.ensures)
    (front_on (checks.super_index_flaws (class_view c.args.class.now)) ((flat_map (checks.index_flaws c.args.class.now.pool tag.CLASS) (indices_of c.args.class.now.interfaces)) ++ ((flat_map (checks.member_index_flaws c.args.class.now.pool) (members_of c.args.class.now.fields)) ++ ((flat_map (checks.member_index_flaws c.args.class.now.pool) (members_of c.args.class.now.methods)) ++ (flat_map (checks.attribute_index_flaws c.args.class.now.pool) (attributes_of c.args.class.now.attributes))))) _ (c.in_ok-check_super.ensures)
    (front_on (flat_map (checks.index_flaws c.args.class.now.pool tag.CLASS) (indices_of c.args.class.now.interfaces)) ((flat_map (checks.member_index_flaws c.args.class.now.pool) (members_of c.args.class.now.fields)) ++ ((flat_map (checks.member_index_flaws c.args.class.now.pool) (members_of c.args.class.now.methods)) ++ (flat_map (checks.attribute_index_flaws c.args.class.now.pool) (attributes_of c.args.class.now.attributes)))) _ (c.in_ok-check_classes.ensures ∙ ap (λ (xs : List Index). front_flaw (flat_map (checks.index_flaws c.args.class.now.pool tag.CLASS) (map index_view xs))) c.as_slice.ensures.value)
    (front_on (flat_map (checks.member_index_flaws c.args.class.now.pool) (members_of c.args.class.now.fields)) ((flat_map (checks.member_index_flaws c.args.class.now.pool) (members_of c.args.class.now.methods)) ++ (flat_map (checks.attribute_index_flaws c.args.class.now.pool) (attributes_of c.args.class.now.attributes))) _ (c.in_ok-check_members.ensures ∙ ap (λ (xs : List RawMember). front_flaw (flat_map (checks.member_index_flaws c.args.class.now.pool) (map member_view xs))) c.as_slice-2.ensures.value)
    (front_on (flat_map (checks.member_index_flaws c.args.class.now.pool) (members_of c.args.class.now.methods)) (flat_map (checks.attribute_index_flaws c.args.class.now.pool) (attributes_of c.args.class.now.attributes)) _ (c.in_ok-check_members-2.ensures ∙ ap (λ (xs : List RawMember). front_flaw (flat_map (checks.member_index_flaws c.args.class.now.pool) (map member_view xs))) c.as_slice-3.ensures.value)
    (c.check_attributes.ensures ∙ ap (λ (xs : List RawAttribute). front_flaw (flat_map (checks.attribute_index_flaws c.args.class.now.pool) (map attribute_view xs))) c.as_slice-4.ensures.value)))))))
