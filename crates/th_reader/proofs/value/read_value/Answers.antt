use Rattle.std.proofs.Common.{◌∙◌, ℕ, List, Err, map, sym, ap, subst}
use Rattle.std.specs.List.{flat_map}
use Rattle.std.proofs.lemmas.Result.{err_from_is_err_and}
use Rattle.th_syntax.specs.declared.tag.TheConstants as tag
use Rattle.th_syntax.specs.Forms.{Placed}
use Rattle.th_syntax.specs.PoolChecks.{class_of}
use Rattle.th_syntax.specs.Checks as checks
use Rattle.th_syntax.specs.ClassGrammar as grammar
use Rattle.th_reader.specs.declared.layout.Index.{Index}
use Rattle.th_reader.specs.declared.layout.RawMember.{RawMember}
use Rattle.th_reader.specs.RawView.{class_view, index_view, member_view}
use Rattle.th_reader.specs.Passes.{Makes}
use Rattle.th_reader.proofs.Valued.{leads, fields_stop, methods_stop, no_content_flaws, value_is}
use Rattle.th_reader.proofs.value.read_value.Goals as goal

pub read_fields-requires : goal.read_fields-requires
read_fields-requires c = ap (λ (xs : List RawMember). flat_map (checks.member_index_flaws c.args.class.now.pool) (map member_view xs)) c.as_slice.ensures.value ∙ (leads (class_view c.args.class.now) c.requires).fields

pub returns-in_err-fields : goal.returns-in_err-fields
returns-in_err-fields c =
    let p = err_from_is_err_and c.from_residual.result c.from_residual.ensures.1 in
    rw (p.1, p.2)
    (fields_stop (class_view c.args.class.now) (grammar.field_values (class_view c.args.class.now)) c.in_err-fields.field-0.0 (subst (λ (xs : List RawMember). Makes (flat_map (checks.constant_flaws c.args.class.now.pool) (map member_view xs)) (grammar.all_there (map (grammar.field_value c.args.class.now.pool) (map member_view xs))) (Err c.in_err-fields.field-0.0)) c.as_slice.ensures.value c.in_err-fields.ensures))

pub read_methods-requires : goal.read_methods-requires
read_methods-requires c = ap (λ (xs : List RawMember). flat_map (checks.member_index_flaws c.args.class.now.pool) (map member_view xs)) c.as_slice-2.ensures.value ∙ (leads (class_view c.args.class.now) c.requires).methods

pub returns-in_err-methods : goal.returns-in_err-methods
returns-in_err-methods c =
    let p = err_from_is_err_and c.from_residual-in_err-methods.result c.from_residual-in_err-methods.ensures.1 in
    let none = ap (λ (xs : List RawMember). flat_map (checks.constant_flaws c.args.class.now.pool) (map member_view xs)) (sym c.as_slice.ensures.value) ∙ c.in_ok-fields.ensures.0 in
    rw (p.1, p.2)
    (methods_stop (class_view c.args.class.now) (grammar.method_values (class_view c.args.class.now)) c.in_err-methods.field-0.0 none (subst (λ (xs : List RawMember). Makes (flat_map (checks.method_flaws (class_view c.args.class.now)) (map member_view xs)) (grammar.all_there (map (grammar.method_value c.args.class.now.pool) (map member_view xs))) (Err c.in_err-methods.field-0.0)) c.as_slice-2.ensures.value c.in_err-methods.ensures))

pub class_name-requires-clause-entries : goal.class_name-requires-clause-entries
class_name-requires-clause-entries c = (leads (class_view c.args.class.now) c.requires).entries

pub class_name-requires-clause-class : goal.class_name-requires-clause-class
class_name-requires-clause-class c = (leads (class_view c.args.class.now) c.requires).this_class

pub super_name-requires-clause-entries : goal.super_name-requires-clause-entries
super_name-requires-clause-entries c = (leads (class_view c.args.class.now) c.requires).entries

pub super_name-requires-clause-class : goal.super_name-requires-clause-class
super_name-requires-clause-class c = (leads (class_view c.args.class.now) c.requires).super_class

pub class_names-requires-clause-entries : goal.class_names-requires-clause-entries
class_names-requires-clause-entries c = (leads (class_view c.args.class.now) c.requires).entries

pub class_names-requires-clause-classes : goal.class_names-requires-clause-classes
class_names-requires-clause-classes c = ap (λ (xs : List Index). flat_map (checks.index_flaws c.args.class.now.pool tag.CLASS) (map index_view xs)) c.as_slice-3.ensures.value ∙ (leads (class_view c.args.class.now) c.requires).interfaces

pub returns : goal.returns
returns c =
    let fields_none = ap (λ (xs : List RawMember). flat_map (checks.constant_flaws c.args.class.now.pool) (map member_view xs)) (sym c.as_slice.ensures.value) ∙ c.in_ok-fields.ensures.0 in
    let methods_none = ap (λ (xs : List RawMember). flat_map (checks.method_flaws (class_view c.args.class.now)) (map member_view xs)) (sym c.as_slice-2.ensures.value) ∙ c.in_ok-methods.ensures.0 in
    let fields = ap (λ (xs : List RawMember). grammar.all_there (map (grammar.field_value c.args.class.now.pool) (map member_view xs))) (sym c.as_slice.ensures.value) ∙ c.in_ok-fields.ensures.1 in
    let methods = ap (λ (xs : List RawMember). grammar.all_there (map (grammar.method_value c.args.class.now.pool) (map member_view xs))) (sym c.as_slice-2.ensures.value) ∙ c.in_ok-methods.ensures.1 in
    let interfaces = ap (λ (xs : List Index). grammar.all_there (map (λ (i : Placed ℕ). class_of c.args.class.now.pool i.value) (map index_view xs))) (sym c.as_slice-3.ensures.value) ∙ c.in_ok-interfaces.ensures in (
      no_content_flaws (class_view c.args.class.now) fields_none methods_none,
      value_is (class_view c.args.class.now) c.in_ok-name.name c.in_ok-super_name.super_name c.in_ok-interfaces.interfaces c.in_ok-fields.fields c.in_ok-methods.methods c.in_ok-name.ensures c.in_ok-super_name.ensures interfaces fields methods,
    )
