-- The built-in classes are put together from four parts.
use Rattle.std.proofs.Common.{◌≡◌, List, ◌++◌, take, drop, ap, ◌∙◌}
use Rattle.th_syntax.specs.declared.class_file.ClassFile.{ClassFile}
use Rattle.th_syntax.specs.Program.{built_in_classes, all_classes}

pub joined : (roots exceptions interfaces platform files one two three all : List ClassFile) → roots ≡ take 3 built_in_classes → exceptions ≡ take 3 (drop 3 built_in_classes) → interfaces ≡ take 2 (drop 6 built_in_classes)
    → platform ≡ drop 8 built_in_classes → one ≡ roots ++ exceptions → two ≡ one ++ interfaces → three ≡ two ++ platform → all ≡ three ++ files → all ≡ all_classes files
joined roots exceptions interfaces platform files one two three all r e i p first second third last =
    let six : one ≡ take 6 built_in_classes = first ∙ ap (λ x. x ++ exceptions) r ∙ ap (λ x. take 3 built_in_classes ++ x) e in
    let eight : two ≡ take 8 built_in_classes = second ∙ ap (λ x. x ++ interfaces) six ∙ ap (λ x. take 6 built_in_classes ++ x) i in
    let eleven : three ≡ built_in_classes = third ∙ ap (λ x. x ++ platform) eight ∙ ap (λ x. take 8 built_in_classes ++ x) p in
    last ∙ ap (λ x. x ++ files) eleven
