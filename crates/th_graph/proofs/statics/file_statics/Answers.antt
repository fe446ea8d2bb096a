use Rattle.std.proofs.Common.{◌≡◌, ◌+◌, ◌++◌, ◌∷◌, [], List, length, take, sym, ap, arith, ◌∙◌}
use Rattle.std.proofs.lemmas.List.{take_more, length-take-le}
use Rattle.th_base.specs.declared.class.ClassInfo.{ClassInfo}
use Rattle.th_base.specs.declared.number.FieldId.{FieldId}
use Rattle.th_graph.specs.Tables.{own_statics, file_statics_from}
use Rattle.th_graph.proofs.FileStatics.{statics_push}
use Rattle.th_graph.proofs.statics.file_statics.Goals as goal

pub loop-number-preserved : goal.loop-number-preserved
loop-number-preserved c =
    let classes : List ClassInfo = c.args.classes.now in
    let n = c.loop-number.number in
    let class : ClassInfo = c.index-classes-number.result in
    let before : List ClassInfo = take n classes in
    let long : 0 + length before ≡ n = let size = length-take-le n classes (omega arith) in omega (arith, size) in
    c.in_ok-add_own.ensures
    ∙ ap (λ (l : List FieldId). l ++ own_statics n class) c.loop-number.invariant
    ∙ ap (λ k. file_statics_from 0 before ++ own_statics k class) (sym long)
    ∙ sym (statics_push 0 before class)
    ∙ ap (λ (k : ClassInfo). file_statics_from 0 (before ++ k ∷ [])) c.index-classes-number.is
    ∙ ap (λ (l : List ClassInfo). file_statics_from 0 l) (sym (take_more classes n class c.loop-number-test.true))
