use Rattle.std.proofs.Common.{◌≡◌, ℕ, ◌+◌, suc, List, [], ◌∷◌, ◌++◌, length, get_or, take, refl, sym, ap, arith, ◌∙◌}
use Rattle.std.specs.Prelude.{map}
use Rattle.std.proofs.lemmas.List.{length-append, take_more}
use Rattle.th_base.specs.declared.class.ClassInfo.{ClassInfo}
use Rattle.th_base.specs.declared.class.FieldInfo.{FieldInfo}
use Rattle.th_ir.specs.Fields.{owned_fields_from}
use Rattle.th_points_to.proofs.Above.{whole_take}
use Rattle.th_points_to.proofs.layout.field_count.Goals as goal

length_map : (c : ℕ) (fs : List FieldInfo) → length (map {B = ℕ × FieldInfo} (λ f. (c, f)) fs) ≡ length fs
length_map c [] = refl
length_map c (f ∷ fs) = ap suc (length_map c fs)

count_from : (c : ℕ) (k : ClassInfo) (ks : List ClassInfo) → length (owned_fields_from c (k ∷ ks)) ≡ length k.fields + length (owned_fields_from (c + 1) ks)
count_from c k ks = omega (arith, length-append (map {B = ℕ × FieldInfo} (λ f. (c, f)) k.fields) (owned_fields_from (c + 1) ks), length_map c k.fields)

more_fields : (c : ℕ) (ks : List ClassInfo) (k : ClassInfo) → length (owned_fields_from c (ks ++ k ∷ [])) ≡ length (owned_fields_from c ks) + length k.fields
more_fields c [] k = let one = count_from c k [] in omega (arith, one)
more_fields c (j ∷ ks) k =
    let front = count_from c j (ks ++ k ∷ []) in
    let before = count_from c j ks in
    let rest = more_fields (c + 1) ks k in
    omega (arith, front, before, rest)

pub loop-class-preserved : goal.loop-class-preserved
loop-class-preserved c =
    let item : ClassInfo = c.class-item.result in
    let more : length (owned_fields_from 0 (take (c.loop-class.class-index + 1) c.args.classes.now)) ≡ length (owned_fields_from 0 (take c.loop-class.class-index c.args.classes.now)) + length item.fields =
    ap (λ (l : List ClassInfo). length (owned_fields_from 0 l)) (take_more c.args.classes.now c.loop-class.class-index item c.loop-class-test.true)
    ∙ more_fields 0 (take c.loop-class.class-index c.args.classes.now) (get_or c.args.classes.now c.loop-class.class-index item)
    ∙ ap (λ (k : ClassInfo). length (owned_fields_from 0 (take c.loop-class.class-index c.args.classes.now)) + length k.fields) (sym c.class-item.is) in
    omega (arith, more, c.in_ok-count.ensures, c.len.ensures, c.loop-class.invariant)

pub returns : goal.returns
returns c =
    c.loop-class.invariant ∙ ap (λ (l : List ClassInfo). length (owned_fields_from 0 l)) (whole_take c.args.classes.now c.loop-class.class-index (omega (arith, c.loop-class-test.false)))
