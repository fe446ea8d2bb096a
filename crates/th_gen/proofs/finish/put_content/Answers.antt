use Rattle.std.proofs.Common.{ℕ, ◌≤◌, List, ◌++◌, length, sym, ap, ◌∙◌, arith}
use Rattle.std.specs.List.{list_all}
use Rattle.th_syntax.specs.declared.instr.Instr.{Instr}
use Rattle.th_gen.specs.Placing.{starts_of, code_length, code_end}
use Rattle.th_gen.specs.ClassText as text
use Rattle.th_gen.proofs.Joined.{six_joined}
use Rattle.th_gen.proofs.Loops.{all_room, starts_length}
use Rattle.th_gen.proofs.finish.put_content.Goals as goal

pub put_code-requires-clause-same : goal.put_code-requires-clause-same
unfolding starts_of
put_code-requires-clause-same c =
    ap length (c.as_slice.ensures.value ∙ c.requires.offsets) ∙ starts_length c.args.pool.now.items.keys 0 c.args.method.now.instrs ∙ ap length (sym c.as_slice-2.ensures)

pub put_code-requires-clause-fits : goal.put_code-requires-clause-fits
unfolding code_length
put_code-requires-clause-fits c =
    let most : code_end c.args.pool.now.items.keys 0 c.args.method.now.instrs ≤ 65535 = (let a = c.requires.length in let b = c.requires.most in omega arith) in
    ap (list_all text.switch_fits) c.as_slice-2.ensures ∙ all_room c.args.pool.now.items.keys 0 c.args.method.now.instrs most

pub returns : goal.returns
unfolding text.code_content text.code_bytes
returns c =
    let pool = c.args.pool.now.items.keys in
    let starts : List ℕ = starts_of c.args.pool.now.items.keys c.args.method.now.instrs in
    six_joined c.args.out.now.items c.put_u2.new.out.items c.put_u2-2.new.out.items c.put_u4.new.out.items c.put_code.new.out.items c.put_u2-3.new.out.items c.put_u2-4.new.out.items
    (text.u2 c.args.method.now.max_stack) (text.u2 c.args.method.now.max_locals) (text.u4 (code_length c.args.pool.now.items.keys c.args.method.now.instrs)) (text.code_from c.args.pool.now.items.keys starts starts c.args.method.now.instrs) (text.u2 0) (text.u2 0)
    c.in_ok-put_u2.ensures c.in_ok-put_u2-2.ensures
    (c.in_ok-put_u4.ensures ∙ ap (λ (n : ℕ). c.put_u2-2.new.out.items ++ text.u4 n) (c.from.ensures ∙ c.requires.length))
    (c.in_ok-put_code.ensures ∙ ap (λ (s : List ℕ). c.put_u4.new.out.items ++ text.code_from c.args.pool.now.items.keys s s c.as_slice-2.result.now) (c.as_slice.ensures.value ∙ c.requires.offsets)
    ∙ ap (λ (is : List Instr). c.put_u4.new.out.items ++ text.code_from c.args.pool.now.items.keys starts starts is) c.as_slice-2.ensures)
    c.in_ok-put_u2-3.ensures c.in_ok-put_u2-4.ensures
