use Rattle.std.proofs.Common.{◌≡◌, ℕ, ◌<◌, ◌≤◌, true, false, List, length, sym, ap, subst, ◌∙◌}
use Rattle.th_syntax.specs.declared.instr.Instr.{Instr}
use Rattle.th_gen.specs.declared.item.PoolItem.TheVariants.{Utf8}
use Rattle.th_gen.specs.Items.{index_of}
use Rattle.th_gen.specs.Placing.{starts_of, code_length, all_reach}
use Rattle.th_gen.specs.ClassText as text
use Rattle.th_gen.proofs.Joined.{header_joined}
use Rattle.th_gen.proofs.Loops.{starts_length}
use Rattle.th_gen.proofs.Finishing.{code_too_long, branch_too_far, method_fits}
use Rattle.th_gen.proofs.finish.put_method.Goals as goal

pub returns-in-None-clause-too_large : goal.returns-in-None-clause-too_large
returns-in-None-clause-too_large c =
    let long = rw c.in-None.is at c.in_ok-starts.ensures in
    code_too_long c.args.pool.now.items.keys c.args.method.now (subst (λ (is : List Instr). 65535 < code_length c.args.pool.now.items.keys is) c.as_slice.ensures long)

pub all_reach-requires : goal.all_reach-requires
unfolding starts_of
all_reach-requires c =
    let known = rw c.in-Some.is at c.in_ok-starts.ensures in
    ap length (c.as_slice-2.ensures.value ∙ known.0) ∙ starts_length c.args.pool.now.items.keys 0 c.as_slice.result.now ∙ ap length (c.as_slice.ensures ∙ sym c.as_slice-3.ensures)

pub returns-then-not-all_reach-clause-too_large : goal.returns-then-not-all_reach-clause-too_large
returns-then-not-all_reach-clause-too_large c =
    let known = rw c.in-Some.is at c.in_ok-starts.ensures in
    let offsets : c.as_slice-2.result.now ≡ starts_of c.args.pool.now.items.keys c.args.method.now.instrs = c.as_slice-2.ensures.value ∙ known.0 ∙ ap (starts_of c.args.pool.now.items.keys) c.as_slice.ensures in
    let not : all_reach c.as_slice-2.result.now c.as_slice-2.result.now c.as_slice-3.result.now ≡ false = cc in
    branch_too_far c.args.pool.now.items.keys c.args.method.now
    (ap (all_reach (starts_of c.args.pool.now.items.keys c.args.method.now.instrs) (starts_of c.args.pool.now.items.keys c.args.method.now.instrs)) (sym c.as_slice-3.ensures) ∙ ap (λ (s : List ℕ). all_reach s s c.as_slice-3.result.now) (sym offsets) ∙ not)

pub put_attribute-requires-clause-offsets : goal.put_attribute-requires-clause-offsets
put_attribute-requires-clause-offsets c = let known = rw c.in-Some.is at c.in_ok-starts.ensures in known.0 ∙ ap (starts_of c.args.pool.now.items.keys) c.as_slice.ensures

pub put_attribute-requires-clause-length : goal.put_attribute-requires-clause-length
put_attribute-requires-clause-length c = let known = rw c.in-Some.is at c.in_ok-starts.ensures in known.1 ∙ ap (code_length c.args.pool.now.items.keys) c.as_slice.ensures

pub put_attribute-requires-clause-most : goal.put_attribute-requires-clause-most
put_attribute-requires-clause-most c = let known = rw c.in-Some.is at c.in_ok-starts.ensures in known.2

pub returns-clause-ok : goal.returns-clause-ok
unfolding text.method_bytes
returns-clause-ok c =
    header_joined c.args.out.now.items c.put_header.new.out.items c.put_attribute.new.out.items (text.u2 c.args.method.now.access) (text.u2 (index_of c.args.pool.now.items.keys (Utf8 c.args.method.now.name)))
    (text.u2 (index_of c.args.pool.now.items.keys (Utf8 c.args.method.now.descriptor))) (text.attribute_bytes c.args.pool.now.items.keys c.args.method.now c.args.method.now.instrs) c.in_ok-put_header.ensures c.in_ok-put_attribute.ensures

pub returns-clause-fits : goal.returns-clause-fits
returns-clause-fits c =
    let known = rw c.in-Some.is at c.in_ok-starts.ensures in
    let offsets : c.as_slice-2.result.now ≡ starts_of c.args.pool.now.items.keys c.args.method.now.instrs = c.as_slice-2.ensures.value ∙ known.0 ∙ ap (starts_of c.args.pool.now.items.keys) c.as_slice.ensures in
    let all : all_reach c.as_slice-2.result.now c.as_slice-2.result.now c.as_slice-3.result.now ≡ true = cc in
    let count : c.in-Some.starts.length ≡ code_length c.args.pool.now.items.keys c.args.method.now.instrs = known.1 ∙ ap (code_length c.args.pool.now.items.keys) c.as_slice.ensures in
    method_fits c.args.pool.now.items.keys c.args.method.now (subst (λ (n : ℕ). n ≤ 65535) count known.2)
    (ap (all_reach (starts_of c.args.pool.now.items.keys c.args.method.now.instrs) (starts_of c.args.pool.now.items.keys c.args.method.now.instrs)) (sym c.as_slice-3.ensures) ∙ ap (λ (s : List ℕ). all_reach s s c.as_slice-3.result.now) (sym offsets) ∙ all)
