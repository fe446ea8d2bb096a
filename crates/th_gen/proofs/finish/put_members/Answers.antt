use Rattle.std.proofs.Common.{◌<◌, ◌≤◌, List, ◌++◌, length, sym, ap, subst, ◌∙◌}
use Rattle.std.specs.List.{flat_map, list_all}
use Rattle.std.proofs.lemmas.Result.{err_from_is_err_and}
use Rattle.th_gen.specs.declared.draft.DraftField.{DraftField}
use Rattle.th_gen.specs.declared.draft.DraftMethod.{DraftMethod}
use Rattle.th_gen.specs.ClassText as text
use Rattle.th_gen.proofs.Finishing.{refused_so, fields_too_many, methods_too_many, method_not_fit, members_fit, members_joined}
use Rattle.th_gen.proofs.finish.put_members.Goals as goal

pub returns-then-fields-gt65535-clause-too_large : goal.returns-then-fields-gt65535-clause-too_large
returns-then-fields-gt65535-clause-too_large c =
    fields_too_many c.args.pool.now.items.keys c.args.class.now (subst (λ (fs : List DraftField). 65535 < length fs) c.as_slice-fields.ensures c.if-fields-gt65535.true)

pub returns-then-methods-gt65535-clause-too_large : goal.returns-then-methods-gt65535-clause-too_large
returns-then-methods-gt65535-clause-too_large c =
    methods_too_many c.args.pool.now.items.keys c.args.class.now (subst (λ (ms : List DraftMethod). 65535 < length ms) c.as_slice-methods.ensures c.if-methods-gt65535.true)

pub returns-in_err-put_methods-clause-too_large : goal.returns-in_err-put_methods-clause-too_large
returns-in_err-put_methods-clause-too_large c =
    let p = err_from_is_err_and c.from_residual-in_err-put_methods.result c.from_residual-in_err-put_methods.ensures.1 in
    rw (p.1, p.2)
    (refused_so c.in_err-put_methods.field-0.0 _ _ (λ no. method_not_fit c.args.pool.now.items.keys c.args.class.now (ap (list_all (text.fits_method c.args.pool.now.items.keys)) (sym c.as_slice-methods.ensures) ∙ no)) c.in_err-put_methods.ensures.too_large)

pub returns-clause-ok : goal.returns-clause-ok
returns-clause-ok c =
    members_joined c.args.out.now.items c.put_u2.new.out.items c.put_fields.new.out.items c.put_u2-2.new.out.items c.put_methods.new.out.items
    (text.u2 (length c.args.class.now.fields)) (flat_map (text.field_bytes c.args.pool.now.items.keys) c.args.class.now.fields)
    (text.u2 (length c.args.class.now.methods)) (flat_map (text.method_bytes c.args.pool.now.items.keys) c.args.class.now.methods)
    (c.in_ok-put_u2.ensures ∙ ap (λ (fs : List DraftField). c.args.out.now.items ++ text.u2 (length fs)) c.as_slice-fields.ensures)
    (c.in_ok-put_fields.ensures ∙ ap (λ (fs : List DraftField). c.put_u2.new.out.items ++ flat_map (text.field_bytes c.args.pool.now.items.keys) fs) c.as_slice-fields.ensures)
    (c.in_ok-put_u2-2.ensures ∙ ap (λ (ms : List DraftMethod). c.put_fields.new.out.items ++ text.u2 (length ms)) c.as_slice-methods.ensures)
    (c.in_ok-put_methods.ensures.ok ∙ ap (λ (ms : List DraftMethod). c.put_u2-2.new.out.items ++ flat_map (text.method_bytes c.args.pool.now.items.keys) ms) c.as_slice-methods.ensures)

pub returns-clause-fits : goal.returns-clause-fits
returns-clause-fits c =
    let fields : length c.args.class.now.fields ≤ 65535 = subst (λ (fs : List DraftField). length fs ≤ 65535) c.as_slice-fields.ensures c.if-fields-gt65535.false in
    let methods : length c.args.class.now.methods ≤ 65535 = subst (λ (ms : List DraftMethod). length ms ≤ 65535) c.as_slice-methods.ensures c.if-methods-gt65535.false in
    members_fit c.args.pool.now.items.keys c.args.class.now fields methods (ap (list_all (text.fits_method c.args.pool.now.items.keys)) (sym c.as_slice-methods.ensures) ∙ c.in_ok-put_methods.ensures.fits)
