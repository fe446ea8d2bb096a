use Rattle.std.proofs.Common.{sym, ap, ◌∙◌, ◌++◌, map}
use Rattle.std.specs.Prelude.{filter}
use Rattle.std.proofs.lemmas.List.{append-nil, take_all}
use Rattle.th_machine.specs.Reaching.{is_static_reference}
use Rattle.th_machine.proofs.reached.add_references.Goals as goal

pub loop-field-init : goal.loop-field-init
loop-field-init c = sym (append-nil (map (λ f. f.0) c.args.found.now.items))

pub returns : goal.returns
returns c =
    c.loop-field.invariant
    ∙ ap (λ xs. map (λ f. f.0) c.args.found.now.items ++ map (λ f. f.id.0) (filter is_static_reference xs))
    (take_all c.loop-field.field-index c.args.fields.now c.loop-field-test.false)
