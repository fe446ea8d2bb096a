use Rattle.std.proofs.Common.{◌≡◌, ◌<◌, List, length, get_or, subst, sym}
use Rattle.th_syntax.specs.declared.class_file.Member.{Member}
use Rattle.th_accept.proofs.Refusing.{method_refused}
use Rattle.th_accept.proofs.kinds.check_class.Goals as goal

pub infer-requires : goal.infer-requires
infer-requires c =
    let same = c.as_slice-method-items.ensures in
    let within = subst (λ (ms : List Member). c.loop-method.method-index < length ms) same c.loop-method-test.true in
    let is = subst (λ (ms : List Member). c.method-item.result ≡ get_or ms c.loop-method.method-index c.method-item.result) same c.method-item.is in
    λ code coded. c.requires c.method-item.result code (c.loop-method.method-index, within, sym is) coded

pub returns-in-Err : goal.returns-in-Err
returns-in-Err c =
    let same = c.as_slice-method-items.ensures in
    let within = subst (λ (ms : List Member). c.loop-method.method-index < length ms) same c.loop-method-test.true in
    let is = subst (λ (ms : List Member). c.method-item.result ≡ get_or ms c.loop-method.method-index c.method-item.result) same c.method-item.is in
    method_refused c.args.class.now c.in-Err.fail c.loop-method.method-index c.method-item.result within is c.loop-method.invariant c.in-Err.ensures.refused
