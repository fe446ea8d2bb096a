use Rattle.std.proofs.Common.{◌∙◌, ◌∷◌, List, sym, ap}
use Rattle.th_syntax.specs.ClassBytes as file
use Rattle.th_syntax.specs.Checks.{attributes_named}
use Rattle.th_reader.specs.declared.layout.RawAttribute.{RawAttribute}
use Rattle.th_reader.specs.RawView.{attribute_view, attributes_view}
use Rattle.th_reader.proofs.Naming.{named_found}
use Rattle.th_reader.proofs.attributes.next_named.Goals as goal

pub returns-then-is_text : goal.returns-then-is_text
returns-then-is_text c =
    let found = named_found c.args.pool.now c.args.name.now c.args.attributes.now c.loop-i.i c.index-attributes-i.result c.loop-i-test.true c.index-attributes-i.is (sym c.is_text.ensures ∙ c.if-is_text.true) in
    sym c.loop-i.invariant ∙ found
    ∙ ap (λ (xs : List RawAttribute). let all : List file.Attribute = attribute_view c.index-attributes-i.result ∷ attributes_named c.args.pool.now c.args.name.now (attributes_view xs) in all) (sym c.split_at.ensures.back)
