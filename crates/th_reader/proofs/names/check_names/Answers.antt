use Rattle.std.proofs.Common.{◌++◌, map, ap, ◌∙◌, List}
use Rattle.std.specs.List.{flat_map}
use Rattle.std.proofs.lemmas.Result.{err_from_is_err_and}
use Rattle.th_syntax.specs.Checks as checks
use Rattle.th_syntax.specs.Checks.{second_pass, third_pass}
use Rattle.th_reader.specs.declared.layout.Index.{Index}
use Rattle.th_reader.specs.declared.layout.RawMember.{RawMember}
use Rattle.th_reader.specs.Passes.{front_flaw}
use Rattle.th_reader.specs.RawView.{index_view, member_view, indices_of, members_of}
use Rattle.th_reader.proofs.Walking.{front_on, front_here}
use Rattle.th_reader.proofs.names.check_names.Goals as goal

pub returns-in_err-check_class_name : goal.returns-in_err-check_class_name
unfolding third_pass
returns-in_err-check_class_name c =
    let p = err_from_is_err_and c.from_residual.result c.from_residual.ensures.1 in
    rw (p.1, p.2)
    (front_here (checks.class_name_flaws c.args.class.now.pool (index_view c.args.class.now.this_class)) ((checks.class_name_flaws c.args.class.now.pool (index_view c.args.class.now.super_class)) ++ ((flat_map (checks.class_name_flaws c.args.class.now.pool) (indices_of c.args.class.now.interfaces)) ++ ((flat_map (checks.field_name_flaws c.args.class.now.pool) (members_of c.args.class.now.fields)) ++ (flat_map (checks.method_name_flaws c.args.class.now.pool) (members_of c.args.class.now.methods))))) c.in_err-check_class_name.field-0.0 (c.in_err-check_class_name.ensures))

pub returns-in_err-check_class_name-2 : goal.returns-in_err-check_class_name-2
unfolding third_pass
returns-in_err-check_class_name-2 c =
    let p = err_from_is_err_and c.from_residual-in_err-check_class_name-2.result c.from_residual-in_err-check_class_name-2.ensures.1 in
    rw (p.1, p.2)
    (front_on (checks.class_name_flaws c.args.class.now.pool (index_view c.args.class.now.this_class)) ((checks.class_name_flaws c.args.class.now.pool (index_view c.args.class.now.super_class)) ++ ((flat_map (checks.class_name_flaws c.args.class.now.pool) (indices_of c.args.class.now.interfaces)) ++ ((flat_map (checks.field_name_flaws c.args.class.now.pool) (members_of c.args.class.now.fields)) ++ (flat_map (checks.method_name_flaws c.args.class.now.pool) (members_of c.args.class.now.methods))))) _ (c.in_ok-check_class_name.ensures)
    (front_here (checks.class_name_flaws c.args.class.now.pool (index_view c.args.class.now.super_class)) ((flat_map (checks.class_name_flaws c.args.class.now.pool) (indices_of c.args.class.now.interfaces)) ++ ((flat_map (checks.field_name_flaws c.args.class.now.pool) (members_of c.args.class.now.fields)) ++ (flat_map (checks.method_name_flaws c.args.class.now.pool) (members_of c.args.class.now.methods)))) c.in_err-check_class_name-2.field-0.0 (c.in_err-check_class_name-2.ensures)))

pub returns-in_err-check_class_names : goal.returns-in_err-check_class_names
unfolding third_pass
returns-in_err-check_class_names c =
    let p = err_from_is_err_and c.from_residual-in_err-check_class_names.result c.from_residual-in_err-check_class_names.ensures.1 in
    rw (p.1, p.2)
    (front_on (checks.class_name_flaws c.args.class.now.pool (index_view c.args.class.now.this_class)) ((checks.class_name_flaws c.args.class.now.pool (index_view c.args.class.now.super_class)) ++ ((flat_map (checks.class_name_flaws c.args.class.now.pool) (indices_of c.args.class.now.interfaces)) ++ ((flat_map (checks.field_name_flaws c.args.class.now.pool) (members_of c.args.class.now.fields)) ++ (flat_map (checks.method_name_flaws c.args.class.now.pool) (members_of c.args.class.now.methods))))) _ (c.in_ok-check_class_name.ensures)
    (front_on (checks.class_name_flaws c.args.class.now.pool (index_view c.args.class.now.super_class)) ((flat_map (checks.class_name_flaws c.args.class.now.pool) (indices_of c.args.class.now.interfaces)) ++ ((flat_map (checks.field_name_flaws c.args.class.now.pool) (members_of c.args.class.now.fields)) ++ (flat_map (checks.method_name_flaws c.args.class.now.pool) (members_of c.args.class.now.methods)))) _ (c.in_ok-check_class_name-2.ensures)
    (front_here (flat_map (checks.class_name_flaws c.args.class.now.pool) (indices_of c.args.class.now.interfaces)) ((flat_map (checks.field_name_flaws c.args.class.now.pool) (members_of c.args.class.now.fields)) ++ (flat_map (checks.method_name_flaws c.args.class.now.pool) (members_of c.args.class.now.methods))) c.in_err-check_class_names.field-0.0 (c.in_err-check_class_names.ensures ∙ ap (λ (xs : List Index). front_flaw (flat_map (checks.class_name_flaws c.args.class.now.pool) (map index_view xs))) c.as_slice.ensures.value))))

pub returns-in_err-check_fields : goal.returns-in_err-check_fields
unfolding third_pass
returns-in_err-check_fields c =
    let p = err_from_is_err_and c.from_residual-in_err-check_fields.result c.from_residual-in_err-check_fields.ensures.1 in
    rw (p.1, p.2)
    (front_on (checks.class_name_flaws c.args.class.now.pool (index_view c.args.class.now.this_class)) ((checks.class_name_flaws c.args.class.now.pool (index_view c.args.class.now.super_class)) ++ ((flat_map (checks.class_name_flaws c.args.class.now.pool) (indices_of c.args.class.now.interfaces)) ++ ((flat_map (checks.field_name_flaws c.args.class.now.pool) (members_of c.args.class.now.fields)) ++ (flat_map (checks.method_name_flaws c.args.class.now.pool) (members_of c.args.class.now.methods))))) _ (c.in_ok-check_class_name.ensures)
    (front_on (checks.class_name_flaws c.args.class.now.pool (index_view c.args.class.now.super_class)) ((flat_map (checks.class_name_flaws c.args.class.now.pool) (indices_of c.args.class.now.interfaces)) ++ ((flat_map (checks.field_name_flaws c.args.class.now.pool) (members_of c.args.class.now.fields)) ++ (flat_map (checks.method_name_flaws c.args.class.now.pool) (members_of c.args.class.now.methods)))) _ (c.in_ok-check_class_name-2.ensures)
    (front_on (flat_map (checks.class_name_flaws c.args.class.now.pool) (indices_of c.args.class.now.interfaces)) ((flat_map (checks.field_name_flaws c.args.class.now.pool) (members_of c.args.class.now.fields)) ++ (flat_map (checks.method_name_flaws c.args.class.now.pool) (members_of c.args.class.now.methods))) _ (c.in_ok-check_class_names.ensures ∙ ap (λ (xs : List Index). front_flaw (flat_map (checks.class_name_flaws c.args.class.now.pool) (map index_view xs))) c.as_slice.ensures.value)
    (front_here (flat_map (checks.field_name_flaws c.args.class.now.pool) (members_of c.args.class.now.fields)) (flat_map (checks.method_name_flaws c.args.class.now.pool) (members_of c.args.class.now.methods)) c.in_err-check_fields.field-0.0 (c.in_err-check_fields.ensures ∙ ap (λ (xs : List RawMember). front_flaw (flat_map (checks.field_name_flaws c.args.class.now.pool) (map member_view xs))) c.as_slice-2.ensures.value)))))

pub returns : goal.returns
unfolding third_pass
returns c =
    (front_on (checks.class_name_flaws c.args.class.now.pool (index_view c.args.class.now.this_class)) ((checks.class_name_flaws c.args.class.now.pool (index_view c.args.class.now.super_class)) ++ ((flat_map (checks.class_name_flaws c.args.class.now.pool) (indices_of c.args.class.now.interfaces)) ++ ((flat_map (checks.field_name_flaws c.args.class.now.pool) (members_of c.args.class.now.fields)) ++ (flat_map (checks.method_name_flaws c.args.class.now.pool) (members_of c.args.class.now.methods))))) _ (c.in_ok-check_class_name.ensures)
    (front_on (checks.class_name_flaws c.args.class.now.pool (index_view c.args.class.now.super_class)) ((flat_map (checks.class_name_flaws c.args.class.now.pool) (indices_of c.args.class.now.interfaces)) ++ ((flat_map (checks.field_name_flaws c.args.class.now.pool) (members_of c.args.class.now.fields)) ++ (flat_map (checks.method_name_flaws c.args.class.now.pool) (members_of c.args.class.now.methods)))) _ (c.in_ok-check_class_name-2.ensures)
    (front_on (flat_map (checks.class_name_flaws c.args.class.now.pool) (indices_of c.args.class.now.interfaces)) ((flat_map (checks.field_name_flaws c.args.class.now.pool) (members_of c.args.class.now.fields)) ++ (flat_map (checks.method_name_flaws c.args.class.now.pool) (members_of c.args.class.now.methods))) _ (c.in_ok-check_class_names.ensures ∙ ap (λ (xs : List Index). front_flaw (flat_map (checks.class_name_flaws c.args.class.now.pool) (map index_view xs))) c.as_slice.ensures.value)
    (front_on (flat_map (checks.field_name_flaws c.args.class.now.pool) (members_of c.args.class.now.fields)) (flat_map (checks.method_name_flaws c.args.class.now.pool) (members_of c.args.class.now.methods)) _ (c.in_ok-check_fields.ensures ∙ ap (λ (xs : List RawMember). front_flaw (flat_map (checks.field_name_flaws c.args.class.now.pool) (map member_view xs))) c.as_slice-2.ensures.value)
    (c.check_methods.ensures ∙ ap (λ (xs : List RawMember). front_flaw (flat_map (checks.method_name_flaws c.args.class.now.pool) (map member_view xs))) c.as_slice-3.ensures.value)))))
