-- The hierarchy numbers fields and methods one after the other.
use Rattle.std.proofs.Common.{◌≡◌, ℕ, zero, suc, ◌+◌, List, [], ◌∷◌, ◌++◌, map, length, refl, sym, ap, ◌∙◌, arith, length-append}
use Rattle.std.specs.List.{flat_map, range_with_len}
use Rattle.std.proofs.lemmas.List.{map-append, length-map}
use Rattle.th_base.specs.declared.class.ClassInfo.{ClassInfo}
use Rattle.th_base.specs.declared.class.FieldInfo.{FieldInfo}
use Rattle.th_base.specs.declared.class.MethodInfo.{MethodInfo}
use Rattle.th_syntax.specs.declared.class_file.ClassFile.{ClassFile}
use Rattle.th_syntax.specs.declared.class_file.Member.{Member}
use Rattle.th_syntax.specs.Program.{owned_from, field_infos, method_infos, class_infos}

range_append : (a m n : ℕ) → range_with_len a (m + n) ≡ range_with_len a m ++ range_with_len (a + m) n
range_append a zero n = let e : a + 0 ≡ a = omega arith in let z : 0 + n ≡ n = omega arith in rw (e, z) refl
range_append a (suc m) n =
    let e : (a + 1) + m ≡ a + suc m = omega arith in let s : suc m + n ≡ suc (m + n) = omega arith in
    rw (s, range_append (a + 1) m n, e) refl

field_ids : (n : ℕ) (ms : List Member) → map (λ (f : FieldInfo). f.id.0) (field_infos n ms) ≡ range_with_len n (length ms)
field_ids n [] = refl
field_ids n (m ∷ ms) = ap (λ xs. n ∷ xs) (field_ids (n + 1) ms)

method_ids : (n : ℕ) (ms : List Member) → map (λ (m : MethodInfo). m.id.0) (method_infos n ms) ≡ range_with_len n (length ms)
method_ids n [] = refl
method_ids n (m ∷ ms) = ap (λ xs. n ∷ xs) (method_ids (n + 1) ms)

owned_length : (members : ClassFile → List Member) (n : ℕ) (c : ClassFile) (cs : List ClassFile) → length (owned_from members n (c ∷ cs)) ≡ length (members c) + length (owned_from members (n + 1) cs)
owned_length members n c cs = length-append _ _ ∙ ap (λ k. k + length (owned_from members (n + 1) cs)) (length-map (members c) _)

pub fields_numbered : (files : List ClassFile) (f m n : ℕ) (cs : List ClassFile)
    → map (λ (x : FieldInfo). x.id.0) (flat_map (λ (k : ClassInfo). k.fields) (class_infos files f m cs)) ≡ range_with_len f (length (owned_from (λ c. c.fields) n cs))
fields_numbered files f m n [] = refl
fields_numbered files f m n (c ∷ cs) =
    map-append (λ (x : FieldInfo). x.id.0) (field_infos f c.fields) (flat_map (λ (k : ClassInfo). k.fields) (class_infos files (f + length c.fields) (m + length c.methods) cs))
    ∙ ap (λ xs. xs ++ map (λ (x : FieldInfo). x.id.0) (flat_map (λ (k : ClassInfo). k.fields) (class_infos files (f + length c.fields) (m + length c.methods) cs))) (field_ids f c.fields)
    ∙ ap (λ ys. range_with_len f (length c.fields) ++ ys) (fields_numbered files (f + length c.fields) (m + length c.methods) (n + 1) cs)
    ∙ sym (range_append f (length c.fields) (length (owned_from (λ (d : ClassFile). d.fields) (n + 1) cs)))
    ∙ ap (range_with_len f) (sym (owned_length (λ d. d.fields) n c cs))

pub methods_numbered : (files : List ClassFile) (f m n : ℕ) (cs : List ClassFile)
    → map (λ (x : MethodInfo). x.id.0) (flat_map (λ (k : ClassInfo). k.methods) (class_infos files f m cs)) ≡ range_with_len m (length (owned_from (λ c. c.methods) n cs))
methods_numbered files f m n [] = refl
methods_numbered files f m n (c ∷ cs) =
    map-append (λ (x : MethodInfo). x.id.0) (method_infos m c.methods) (flat_map (λ (k : ClassInfo). k.methods) (class_infos files (f + length c.fields) (m + length c.methods) cs))
    ∙ ap (λ xs. xs ++ map (λ (x : MethodInfo). x.id.0) (flat_map (λ (k : ClassInfo). k.methods) (class_infos files (f + length c.fields) (m + length c.methods) cs))) (method_ids m c.methods)
    ∙ ap (λ ys. range_with_len m (length c.methods) ++ ys) (methods_numbered files (f + length c.fields) (m + length c.methods) (n + 1) cs)
    ∙ sym (range_append m (length c.methods) (length (owned_from (λ (d : ClassFile). d.methods) (n + 1) cs)))
    ∙ ap (range_with_len m) (sym (owned_length (λ d. d.methods) n c cs))
