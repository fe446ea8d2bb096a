-- Files with few members each are few enough for numbers of 32 bits.
use Rattle.std.proofs.Common.{◌≡◌, ℕ, ◌+◌, ◌*◌, ◌<◌, ◌≤◌, ◌^◌, List, ◌++◌, length, take, get_or, refl, subst, ap, ◌∙◌, arith, sum_by, length-append}
use Rattle.std.specs.List.{All}
use Rattle.std.proofs.lemmas.List.{take_all}
use Rattle.std.proofs.lemmas.List.Elements.{All-more}
use Rattle.std.proofs.lemmas.List.Sums.{sum_by-append, sum_by-le}
use Rattle.th_syntax.specs.declared.class_file.ClassFile.{ClassFile}
use Rattle.th_syntax.specs.Program.{built_in_classes, all_classes}
use Rattle.th_linker.specs.Checking.{AreNumbered}
use Rattle.th_linker.specs.Linkable.{CanLink, HasFewMembers}

built_in_fields : sum_by (λ (c : ClassFile). length c.fields) built_in_classes ≡ 0
built_in_fields = refl

built_in_methods : sum_by (λ (c : ClassFile). length c.methods) built_in_classes ≡ 17
built_in_methods = refl

built_in_length : length built_in_classes ≡ 11
built_in_length = refl

pub numbers_fit : (files : List ClassFile) → CanLink files → AreNumbered files
numbers_fit files c =
    let f : ClassFile → ℕ = λ k. length k.fields in
    let m : ClassFile → ℕ = λ k. length k.methods in
    let long = length-append built_in_classes files in
    let all_fields = sum_by-append f built_in_classes files in
    let all_methods = sum_by-append m built_in_classes files in
    let most_fields = sum_by-le f 65535 files (λ k d h. (c.members k d h).fields) in
    let most_methods = sum_by-le m 65535 files (λ k d h. (c.members k d h).methods) in
    let few = c.few in
    record {
      classes = omega (arith, few, long, built_in_length);
      fields = omega (arith, few, all_fields, most_fields, built_in_fields);
      methods = omega (arith, few, all_methods, most_methods, built_in_methods);
    }

-- ---- the condition of linking, class by class

pub more_members : (files : List ClassFile) (i : ℕ) (x : ClassFile) → i < length files → x ≡ get_or files i x → All HasFewMembers (take i files) → HasFewMembers x → All HasFewMembers (take (i + 1) files)
more_members files i x h e all here = All-more HasFewMembers files i x h all (subst HasFewMembers e here)

pub whole_members : (files : List ClassFile) (i : ℕ) → length files ≤ i → All HasFewMembers (take i files) → All HasFewMembers files
whole_members files i h all = subst (All HasFewMembers) (take_all i files h) all
