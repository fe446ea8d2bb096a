use Rattle.std.proofs.Common.{◌≡◌, ℕ, ◌+◌, true, false, List, ◌++◌, refl, sym, ap, ◌∙◌}
use Rattle.std.specs.Prelude.{codes}
use Rattle.th_syntax.specs.declared.instr.Instr.{Instr}
use Rattle.th_gen.specs.declared.item.PoolItem.TheVariants.{Utf8}
use Rattle.th_gen.specs.Items.{index_of}
use Rattle.th_gen.specs.Placing.{code_length}
use Rattle.th_gen.specs.ClassText as text
use Rattle.th_gen.proofs.Joined.{four_joined}
use Rattle.th_gen.proofs.Finishing.{coded_attribute}
use Rattle.th_gen.proofs.finish.put_attribute.Goals as goal

pub returns-then-is_empty : goal.returns-then-is_empty
returns-then-is_empty c =
    c.in_ok-put_u2.ensures ∙ ap (λ (is : List Instr). c.args.out.now.items ++ text.attribute_bytes c.args.pool.now.items.keys c.args.method.now is) (sym (c.if-is_empty.ensures.0 refl))

pub returns : goal.returns
returns c =
    four_joined c.args.out.now.items c.put_u2-2.new.out.items c.put_text_index.new.out.items c.put_u4.new.out.items c.put_content.new.out.items
    (text.u2 1) (text.u2 (index_of c.args.pool.now.items.keys (Utf8 (codes "Code")))) (text.u4 (code_length c.args.pool.now.items.keys c.args.method.now.instrs + 12)) (text.code_content c.args.pool.now.items.keys c.args.method.now)
    c.in_ok-put_u2-2.ensures
    (c.in_ok-put_text_index.ensures ∙ ap (λ (t : List ℕ). c.put_u2-2.new.out.items ++ text.u2 (index_of c.args.pool.now.items.keys (Utf8 t))) c.in_ok-name.ensures)
    (c.in_ok-put_u4.ensures ∙ ap (λ (n : ℕ). c.put_text_index.new.out.items ++ text.u4 (n + 12)) (c.from.ensures ∙ c.requires.length))
    c.in_ok-put_content.ensures
    ∙ ap (λ (r : List ℕ). c.args.out.now.items ++ r) (sym (coded_attribute c.args.pool.now.items.keys c.args.method.now (λ none. let never : false ≡ true = c.if-is_empty.ensures.1 none in cc)))
