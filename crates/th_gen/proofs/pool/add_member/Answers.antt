use Rattle.std.proofs.Common.{ℕ, List, ap, ◌∙◌}
use Rattle.th_gen.specs.declared.item.PoolItem.TheVariants.{NameAndType}
use Rattle.th_gen.specs.Items.{with_item}
use Rattle.th_gen.proofs.Interning.{member_added}
use Rattle.th_gen.proofs.pool.add_member.Goals as goal

pub returns : goal.returns
returns c =
    member_added c.args.items.now.keys c.add_class.new.items.keys c.add_header.new.items.keys c.add.new.items.keys c.add-2.new.items.keys c.args.member.now c.args.item c.in_ok-add_class.ensures c.in_ok-add_header.ensures
    (c.in_ok-add.ensures ∙ ap (λ (n : List ℕ). with_item c.add_header.new.items.keys (NameAndType n c.in_ok-copy-2.field-0)) c.in_ok-copy.ensures ∙ ap (λ (d : List ℕ). with_item c.add_header.new.items.keys (NameAndType c.args.member.now.name d)) c.in_ok-copy-2.ensures)
    c.in_ok-add-2.ensures
