use Rattle.std.proofs.Common.{List, ap, ◌∙◌}
use Rattle.std.specs.List.{flat_map}
use Rattle.th_gen.specs.declared.item.PoolItem.{PoolItem}
use Rattle.th_gen.specs.declared.draft.DraftField.{DraftField}
use Rattle.th_gen.specs.declared.draft.DraftMethod.{DraftMethod}
use Rattle.th_gen.specs.Items.{with_items, field_items, method_items, class_items}
use Rattle.th_gen.proofs.Interning.{class_added}
use Rattle.th_gen.proofs.pool.items_of.Goals as goal

pub returns : goal.returns
returns c =
    class_added c.add_class.new.items.keys c.add_class-2.new.items.keys c.add_fields.new.items.keys c.add_methods.new.items.keys c.args.class.now
    (c.in_ok-add_class.ensures ∙ ap (λ (p : List PoolItem). with_items p (class_items c.args.class.now.name)) c.new-items.ensures.empty)
    c.in_ok-add_class-2.ensures
    (c.in_ok-add_fields.ensures ∙ ap (λ (xs : List DraftField). with_items c.add_class-2.new.items.keys (flat_map field_items xs)) c.as_slice.ensures)
    (c.in_ok-add_methods.ensures ∙ ap (λ (xs : List DraftMethod). with_items c.add_fields.new.items.keys (flat_map method_items xs)) c.as_slice-2.ensures)
