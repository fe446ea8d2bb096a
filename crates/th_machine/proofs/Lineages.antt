-- The superclasses of a class, found upwards one after the other, and the fields of classes in order.
use Rattle.std.proofs.Common.{◌≡◌, suc, ◌+◌, ◌-◌, ◌<◌, ℕ, List, [], ◌∷◌, ◌++◌, length, take, get_or, map, sym, ap, ◌∙◌, arith, Option, Some, None, append_assoc}
use Rattle.std.specs.Option.{option_map_or}
use Rattle.std.specs.List.{filter, flat_map}
use Rattle.std.specs.Prelude.{not}
use Rattle.std.proofs.lemmas.List.{append-nil, take_more, map-append}
use Rattle.std.proofs.lemmas.List.Concat.{flat_map-append}
use Rattle.std.proofs.lemmas.List.Elements.{filter-append}
use Rattle.th_base.specs.declared.class.ClassInfo.{ClassInfo}
use Rattle.th_base.specs.declared.class.FieldInfo.{FieldInfo}
use Rattle.th_base.specs.declared.number.FieldId.{FieldId}
use Rattle.th_base.specs.Hierarchy.{superclass_of, lineage_within}
use Rattle.th_syntax.specs.declared.machine.Value.{Value}
use Rattle.th_machine.specs.Making.{first_values, declared_fields, fields_along}

-- one class more is found
above_it : (classes : List ClassInfo) (line : List ℕ) (i c : ℕ) → i < length classes
    → line ++ lineage_within classes (length classes - i) c
    ≡ line ++ c ∷ option_map_or (lineage_within classes (length classes - (i + 1))) (superclass_of classes c) []
above_it classes line i c within =
    let less : length classes - i ≡ suc (length classes - (i + 1)) = omega arith in
    ap (λ n. line ++ lineage_within classes n c) less

pub climbs : (classes : List ClassInfo) (all line next : List ℕ) (i c above : ℕ) → i < length classes → next ≡ line ++ c ∷ [] → Some above ≡ superclass_of classes c
    → all ≡ line ++ lineage_within classes (length classes - i) c → all ≡ next ++ lineage_within classes (length classes - (i + 1)) above
climbs classes all line next i c above within longer found so_far =
    let rest : List ℕ = lineage_within classes (length classes - (i + 1)) above in
    so_far ∙ above_it classes line i c within
    ∙ ap (λ (o : Option ℕ). line ++ c ∷ option_map_or (lineage_within classes (length classes - (i + 1))) o []) (sym found)
    ∙ sym (append_assoc line (c ∷ []) rest) ∙ ap (λ us. us ++ rest) (sym longer)

pub tops : (classes : List ClassInfo) (all line next : List ℕ) (i c : ℕ) → i < length classes → next ≡ line ++ c ∷ [] → None ≡ superclass_of classes c
    → all ≡ line ++ lineage_within classes (length classes - i) c → next ≡ all
tops classes all line next i c within longer found so_far =
    longer ∙ sym (so_far ∙ above_it classes line i c within
    ∙ ap (λ (o : Option ℕ). line ++ c ∷ option_map_or (lineage_within classes (length classes - (i + 1))) o []) (sym found))

values_append : (xs ys : List FieldInfo) → first_values (xs ++ ys) ≡ first_values xs ++ first_values ys
values_append xs ys = ap (map _) (filter-append (λ f. not f.is_static) xs ys) ∙ map-append _ (filter (λ f. not f.is_static) xs) (filter (λ f. not f.is_static) ys)

-- the fields of one class more
pub along_more : (classes : List ClassInfo) (numbers : List ℕ) (i n : ℕ) (now next : List (FieldId × Value)) → i < length numbers → n ≡ get_or numbers i n
    → now ≡ fields_along classes (take i numbers) → next ≡ now ++ first_values (declared_fields classes n) → next ≡ fields_along classes (take (i + 1) numbers)
along_more classes numbers i n now next within here so_far grown =
    let before : List FieldInfo = flat_map (declared_fields classes) (take i numbers) in
    let one : flat_map (declared_fields classes) (n ∷ []) ≡ declared_fields classes n = append-nil (declared_fields classes n) in
    let more : fields_along classes (take (i + 1) numbers) ≡ fields_along classes (take i numbers) ++ first_values (declared_fields classes n) =
    ap (fields_along classes) (take_more numbers i n within ∙ ap (λ m. take i numbers ++ m ∷ []) (sym here))
    ∙ ap first_values (flat_map-append (declared_fields classes) (take i numbers) (n ∷ []) ∙ ap (λ fs. before ++ fs) one)
    ∙ values_append before (declared_fields classes n) in
    grown ∙ ap (λ vs. vs ++ first_values (declared_fields classes n)) so_far ∙ sym more
