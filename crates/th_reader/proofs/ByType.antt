-- Which constant a field takes, by the shape of its type.
use Rattle.std.proofs.Common.{◌≡◌, ℕ, Bool, true, false, cond, List, ◌++◌, Result, Ok, refl, sym, ap, ◌∙◌}
use Rattle.std.specs.Prelude.{◌↔◌, Option, Some, None, codes}
use Rattle.std.specs.Option.{option_map}
use Rattle.std.specs.Str.{bytes_eq}
use Rattle.std.proofs.lemmas.Slice.Eq.{bytes_eq-Decides}
use Rattle.th_syntax.specs.declared.class_file.Constant.TheVariants as constant
use Rattle.th_syntax.specs.ClassBytes.{Pool}
use Rattle.th_syntax.specs.Descriptors.{FieldType, byte_type, char_type, double_type, float_type, int_type, long_type, short_type, boolean_type, class_type, array_type, IsFieldDescriptor, field_type_of}
use Rattle.th_syntax.specs.PoolChecks.{string_of}
use Rattle.th_syntax.specs.Checks.{constant_in}
use Rattle.th_pool.specs.declared.shape.FieldShape.{FieldShape}
use Rattle.th_pool.specs.declared.shape.DescriptorFault.{DescriptorFault}
use Rattle.th_pool.specs.declared.shape.Slot.{Slot}
use Rattle.th_pool.specs.declared.shape.Slot.TheVariants.{Int, Long, Ref}
use Rattle.th_pool.specs.Shapes.{field_shape}

-- the law of descriptors
abbrev pub FieldLaw : Type 0
FieldLaw = (bytes : List ℕ) (type : FieldType) → (field_type_of bytes ≡ Some type) ↔ IsFieldDescriptor bytes type

abbrev string_descriptor : List ℕ
string_descriptor = codes "Ljava/lang/String;"

pub string_constant : (law : FieldLaw) (pool : Pool) (bytes : List ℕ) (index : ℕ) → bytes_eq bytes (codes "Ljava/lang/String;") ≡ true → constant_in pool (field_type_of bytes) index ≡ option_map constant.Str (string_of pool index)
string_constant law pool bytes index e =
    let is : bytes ≡ codes "Ljava/lang/String;" = (bytes_eq-Decides bytes (codes "Ljava/lang/String;")).0 e in
    let type : field_type_of bytes ≡ Some (class_type (codes "java/lang/String")) = (law bytes (class_type (codes "java/lang/String"))).1 (is, refl) in
    rw type refl

other_class : (law : FieldLaw) (pool : Pool) (bytes name : List ℕ) (index : ℕ) → field_type_of bytes ≡ Some (class_type name) → bytes_eq bytes (codes "Ljava/lang/String;") ≡ false → constant_in pool (Some (class_type name)) index ≡ None
other_class law pool bytes name index type e = go (bytes_eq name (codes "java/lang/String")) refl
  where
    go : (t : Bool) → bytes_eq name (codes "java/lang/String") ≡ t → cond t (option_map constant.Str (string_of pool index)) None ≡ None
    go false is = refl
    go true is =
        let named : name ≡ codes "java/lang/String" = (bytes_eq-Decides name (codes "java/lang/String")).0 is in
        let spelled : bytes ≡ codes "L" ++ (name ++ codes ";") = ((law bytes (class_type name)).0 type).0 in
        let same : bytes ≡ codes "Ljava/lang/String;" = spelled ∙ ap (λ (n : List ℕ). codes "L" ++ (n ++ codes ";")) named in
        let test : bytes_eq bytes (codes "Ljava/lang/String;") ≡ true = (bytes_eq-Decides bytes (codes "Ljava/lang/String;")).1 same in
        absurd (let never : true ≡ false = sym test ∙ e in cc)

slot_is : (s : Slot) → (let f : FieldShape = record { slot = Ref } in let r : Result FieldShape DescriptorFault = Ok f in r) ≡ (let f : FieldShape = record { slot = s } in Ok f) → Ref ≡ s
slot_is s e =
    let same : (let f : FieldShape = record { slot = Ref } in f) ≡ record { slot = s } = cc in
    ap (λ (f : FieldShape). f.slot) same

not_int : Ref ≡ Int → ⊥
not_int e = absurd cc

not_long : Ref ≡ Long → ⊥
not_long e = absurd cc

pub other_constant : (law : FieldLaw) (pool : Pool) (bytes : List ℕ) (index : ℕ) (o : Option FieldType) → field_type_of bytes ≡ o → (let s : FieldShape = record { slot = Ref } in Ok s) ≡ field_shape o → bytes_eq bytes (codes "Ljava/lang/String;") ≡ false → constant_in pool o index ≡ None
other_constant law pool bytes index None type shape e = refl
other_constant law pool bytes index (Some byte_type) type shape e = absurd (not_int (slot_is Int shape))
other_constant law pool bytes index (Some char_type) type shape e = absurd (not_int (slot_is Int shape))
other_constant law pool bytes index (Some double_type) type shape e = refl
other_constant law pool bytes index (Some float_type) type shape e = refl
other_constant law pool bytes index (Some int_type) type shape e = absurd (not_int (slot_is Int shape))
other_constant law pool bytes index (Some long_type) type shape e = absurd (not_long (slot_is Long shape))
other_constant law pool bytes index (Some short_type) type shape e = absurd (not_int (slot_is Int shape))
other_constant law pool bytes index (Some boolean_type) type shape e = absurd (not_int (slot_is Int shape))
other_constant law pool bytes index (Some (class_type name)) type shape e = other_class law pool bytes name index type e
other_constant law pool bytes index (Some (array_type element)) type shape e = refl
