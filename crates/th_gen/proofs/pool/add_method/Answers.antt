use Rattle.std.proofs.Common.{◌≡◌, ℕ, true, false, List, ap, ◌∙◌}
use Rattle.th_gen.specs.declared.item.PoolItem.TheVariants.{Utf8}
use Rattle.th_gen.specs.Items.{with_item, instr_items, with_items}
use Rattle.std.specs.List.{flat_map}
use Rattle.th_syntax.specs.declared.instr.Instr.{Instr}
use Rattle.th_gen.proofs.Interning.{method_added}
use Rattle.th_gen.proofs.pool.add_method.Goals as goal

pub returns : goal.returns
returns c =
    method_added c.args.items.now.keys c.add_header.new.items.keys c.add.new.items.keys c.add_instrs.new.items.keys c.args.method.now (λ none. let never : false ≡ true = c.if-is_empty.ensures.1 none in cc)
    c.in_ok-add_header.ensures
    (c.in_ok-add.ensures ∙ ap (λ (t : List ℕ). with_item c.add_header.new.items.keys (Utf8 t)) c.in_ok-from_slice.ensures)
    (c.in_ok-add_instrs.ensures ∙ ap (λ (is : List Instr). with_items c.add.new.items.keys (flat_map instr_items is)) c.as_slice.ensures)
