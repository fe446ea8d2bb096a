-- Setting the constants of a class's fields one after the other is what opening the class does to the static fields.
use Rattle.std.proofs.Common.{◌≡◌, zero, suc, ◌+◌, ◌<◌, ◌≤◌, ◌==◌, ◌&&◌, ℕ, Bool, true, false, List, [], ◌∷◌, ◌++◌, length, drop, map, refl, sym, ap, ◌∙◌, arith, Option, Some, None, append_assoc, if◌then◌else◌, get_or}
use Rattle.std.proofs.lemmas.Bool.{eq-eqb, ne_eqb}
use Rattle.std.proofs.lemmas.List.{length-append}
use Rattle.std.specs.Prelude.{slice_get, slice_set}
use Rattle.std.specs.Option.{option_map, option_map_or, option_and_then}
use Rattle.th_base.specs.declared.class.ClassInfo.{ClassInfo}
use Rattle.th_syntax.specs.declared.class_file.ClassFile.{ClassFile}
use Rattle.th_syntax.specs.declared.class_file.Constant.{Constant}
use Rattle.th_syntax.specs.declared.class_file.Member.{Member}
use Rattle.th_syntax.specs.Effects.{opened_value, opened_statics}
use Rattle.th_syntax.specs.Flags.{is_static}
use Rattle.th_syntax.specs.Initial.{constant_value}
use Rattle.th_syntax.specs.declared.machine.Value.{Value}
use Rattle.th_syntax.specs.Program.{Owned, owned_from, fields_of, built_in_classes, hierarchy_of, class_infos, field_infos}
use Rattle.th_machine.specs.Opening.{constant_set, field_set, fields_set, first_field}

abbrev own : ℕ → Member → Owned
own c m = record { owner = c; member = m }

-- the fields of the classes before one
abbrev fields_before : List ClassFile → ℕ → ℕ
fields_before [] j = 0
fields_before (f ∷ fs) zero = 0
fields_before (f ∷ fs) (suc j) = length f.fields + fields_before fs j

-- the number of the first of these fields, if there is one
abbrev first_of : ℕ → List Member → Option ℕ
first_of n [] = None
first_of n (m ∷ ms) = Some n

set_behind : {X : Type 0} (pre : List X) (x y : X) (post : List X) → slice_set (pre ++ x ∷ post) (length pre) y ≡ pre ++ y ∷ post
set_behind [] x y post = refl
set_behind (p ∷ pre) x y post = ap (λ zs. p ∷ zs) (set_behind pre x y post)

by_static : (files : List ClassFile) (b : Bool) (o : Option Constant) (pre : List Value) (v : Value) (vs : List Value)
    → (if b then constant_set files (length pre) o (pre ++ v ∷ vs) else (pre ++ v ∷ vs)) ≡ pre ++ (if true && b then option_map_or (constant_value files) o v else v) ∷ vs
by_static files false o pre v vs = refl
by_static files true None pre v vs = refl
by_static files true (Some k) pre v vs = set_behind pre v (constant_value files k) vs

itself : (c : ℕ) → (c == c) ≡ true
itself c = eq-eqb c c refl

-- a field's constant is set where its value stands
field_behind : (files : List ClassFile) (c : ℕ) (m : Member) (pre : List Value) (v : Value) (vs : List Value)
    → field_set files (length pre) m (pre ++ v ∷ vs) ≡ pre ++ opened_value files c (own c m) v ∷ vs
field_behind files c m pre v vs =
    by_static files (is_static m) m.constant pre v vs
    ∙ ap (λ (t : Bool). pre ++ (if t && is_static m then option_map_or (constant_value files) m.constant v else v) ∷ vs) (sym (itself c))

-- a field of another class stays
other_value : (files : List ClassFile) (k c : ℕ) (m : Member) (v : Value) → (k == c) ≡ false → opened_value files c (own k m) v ≡ v
other_value files k c m v other = ap (λ (t : Bool). if t && is_static m then option_map_or (constant_value files) m.constant v else v) other

-- the values of fields that stay, and of what follows them
skipped : (files : List ClassFile) (k c : ℕ) (ms : List Member) (rest : List Owned) (vs : List Value) → (k == c) ≡ false → length vs ≡ length (map (own k) ms ++ rest)
    → ((us : List Value) → length us ≡ length rest → opened_statics files c rest us ≡ us) → opened_statics files c (map (own k) ms ++ rest) vs ≡ vs
skipped files k c [] rest vs other size next = next vs size
skipped files k c (m ∷ ms) rest [] other size next = absurd (omega arith)
skipped files k c (m ∷ ms) rest (v ∷ vs) other size next =
    let less : length vs ≡ length (map (own k) ms ++ rest) = omega arith in
    ap (λ u. u ∷ opened_statics files c (map (own k) ms ++ rest) vs) (other_value files k c m v other) ∙ ap (λ us. v ∷ us) (skipped files k c ms rest vs other less next)

-- the fields of classes with greater numbers stay, and those of classes with lower ones
above_same : (files : List ClassFile) (k c : ℕ) (fs : List ClassFile) (vs : List Value) → c < k → length vs ≡ length (owned_from (λ f. f.fields) k fs)
    → opened_statics files c (owned_from (λ f. f.fields) k fs) vs ≡ vs
above_same files k c [] [] less size = refl
above_same files k c [] (v ∷ vs) less size = absurd (omega arith)
above_same files k c (f ∷ fs) vs less size =
    let other : (k == c) ≡ false = ne_eqb k c (λ same. absurd (omega arith)) in
    skipped files k c f.fields (owned_from (λ g. g.fields) (k + 1) fs) vs other size (λ us e. above_same files (k + 1) c fs us (omega arith) e)

pub below_same : (files : List ClassFile) (k c : ℕ) (fs : List ClassFile) (vs : List Value) → k + length fs ≤ c → length vs ≡ length (owned_from (λ f. f.fields) k fs)
    → opened_statics files c (owned_from (λ f. f.fields) k fs) vs ≡ vs
below_same files k c [] [] less size = refl
below_same files k c [] (v ∷ vs) less size = absurd (omega arith)
below_same files k c (f ∷ fs) vs less size =
    let other : (k == c) ≡ false = ne_eqb k c (λ same. absurd (omega arith)) in
    skipped files k c f.fields (owned_from (λ g. g.fields) (k + 1) fs) vs other size (λ us e. below_same files (k + 1) c fs us (omega arith) e)

-- the fields of this class are set one after the other
here : (files : List ClassFile) (c : ℕ) (ms : List Member) (rest : List Owned) (pre vs : List Value) → length vs ≡ length (map (own c) ms ++ rest)
    → ((us : List Value) → length us ≡ length rest → opened_statics files c rest us ≡ us)
    → fields_set files (length pre) ms (pre ++ vs) ≡ pre ++ opened_statics files c (map (own c) ms ++ rest) vs
here files c [] rest pre vs size next = ap (λ us. pre ++ us) (sym (next vs size))
here files c (m ∷ ms) rest pre [] size next = absurd (omega arith)
here files c (m ∷ ms) rest pre (v ∷ vs) size next =
    let less : length vs ≡ length (map (own c) ms ++ rest) = omega arith in
    let w : Value = opened_value files c (own c m) v in
    let longer : length pre + 1 ≡ length (pre ++ w ∷ []) = omega (arith, length-append pre (w ∷ [])) in
    let apart : pre ++ w ∷ vs ≡ (pre ++ w ∷ []) ++ vs = sym (append_assoc pre (w ∷ []) vs) in
    ap (λ us. fields_set files (length pre + 1) ms us) (field_behind files c m pre v vs ∙ apart)
    ∙ ap (λ n. fields_set files n ms ((pre ++ w ∷ []) ++ vs)) longer
    ∙ here files c ms rest (pre ++ w ∷ []) vs less next
    ∙ append_assoc pre (w ∷ []) (opened_statics files c (map (own c) ms ++ rest) vs)

-- past the fields of another class
past : (files : List ClassFile) (change : List Value → List Value) (k c : ℕ) (ms : List Member) (rest : List Owned) (pre vs : List Value) → (k == c) ≡ false
    → length vs ≡ length (map (own k) ms ++ rest)
    → ((qs us : List Value) → length qs ≡ length pre + length ms → length us ≡ length rest → change (qs ++ us) ≡ qs ++ opened_statics files c rest us)
    → change (pre ++ vs) ≡ pre ++ opened_statics files c (map (own k) ms ++ rest) vs
past files change k c [] rest pre vs other size next = next pre vs (omega arith) size
past files change k c (m ∷ ms) rest pre [] other size next = absurd (omega arith)
past files change k c (m ∷ ms) rest pre (v ∷ vs) other size next =
    let less : length vs ≡ length (map (own k) ms ++ rest) = omega arith in
    let longer : length (pre ++ v ∷ []) ≡ length pre + 1 = omega (arith, length-append pre (v ∷ [])) in
    ap change (sym (append_assoc pre (v ∷ []) vs))
    ∙ past files change k c ms rest (pre ++ v ∷ []) vs other less (λ qs us more same. next qs us (omega arith) same)
    ∙ append_assoc pre (v ∷ []) (opened_statics files c (map (own k) ms ++ rest) vs)
    ∙ ap (λ u. pre ++ u ∷ opened_statics files c (map (own k) ms ++ rest) vs) (sym (other_value files k c m v other))

-- the fields of the class at a place are set
set_at : (files : List ClassFile) (k c n j : ℕ) (fs : List ClassFile) (file : ClassFile) (pre vs : List Value) → c ≡ k + j → slice_get fs j ≡ Some file
    → n ≡ length pre + fields_before fs j → length vs ≡ length (owned_from (λ f. f.fields) k fs)
    → fields_set files n file.fields (pre ++ vs) ≡ pre ++ opened_statics files c (owned_from (λ f. f.fields) k fs) vs
set_at files k c n j [] file pre vs is found first size = cc
set_at files k c n zero (f ∷ fs) file pre vs is found first size =
    let same : file ≡ f = cc in
    let number : k ≡ c = omega arith in
    let start : n ≡ length pre = omega arith in
    let sized : length vs ≡ length (map (own c) f.fields ++ owned_from (λ g. g.fields) (k + 1) fs) = size ∙ ap (λ i. length (map (own i) f.fields ++ owned_from (λ g. g.fields) (k + 1) fs)) number in
    ap (λ i. fields_set files i file.fields (pre ++ vs)) start
    ∙ ap (λ (g : ClassFile). fields_set files (length pre) g.fields (pre ++ vs)) same
    ∙ here files c f.fields (owned_from (λ g. g.fields) (k + 1) fs) pre vs sized (λ us e. above_same files (k + 1) c fs us (omega arith) e)
    ∙ ap (λ i. pre ++ opened_statics files c (map (own i) f.fields ++ owned_from (λ g. g.fields) (k + 1) fs) vs) (sym number)
set_at files k c n (suc j) (f ∷ fs) file pre vs is found first size =
    let other : (k == c) ≡ false = ne_eqb k c (λ same. absurd (omega arith)) in
    past files (fields_set files n file.fields) k c f.fields (owned_from (λ g. g.fields) (k + 1) fs) pre vs other size
    (λ qs us more same. set_at files (k + 1) c n j fs file qs us (omega arith) found (omega arith) same)

-- ---- the number of a class's first field

behind : {X : Type 0} (xs ys : List X) (j : ℕ) → slice_get (xs ++ ys) (length xs + j) ≡ slice_get ys j
behind [] ys j = let same : 0 + j ≡ j = omega arith in ap (slice_get ys) same
behind (x ∷ xs) ys j =
    let same : suc (length xs) + j ≡ suc (length xs + j) = omega arith in
    ap (slice_get (x ∷ xs ++ ys)) same ∙ behind xs ys j

infos_behind : (files : List ClassFile) → hierarchy_of files ≡ class_infos files 0 0 built_in_classes ++ class_infos files 0 17 files
infos_behind files = refl

fields_behind : (files : List ClassFile) → fields_of files ≡ owned_from (λ f. f.fields) 11 files
fields_behind files = refl

abbrev first_in : Option ClassInfo → Option ℕ
first_in i = option_and_then (λ k. option_map (λ f. f.id.0) (slice_get k.fields 0)) i

first_info : (n : ℕ) (ms : List Member) → option_map (λ f. f.id.0) (slice_get (field_infos n ms) 0) ≡ first_of n ms
first_info n [] = refl
first_info n (m ∷ ms) = refl

info_at : (files : List ClassFile) (field method j : ℕ) (fs : List ClassFile) (file : ClassFile) → slice_get fs j ≡ Some file
    → first_in (slice_get (class_infos files field method fs) j) ≡ first_of (field + fields_before fs j) file.fields
info_at files field method j [] file found = cc
info_at files field method zero (f ∷ fs) file found =
    let same : f ≡ file = cc in
    let number : field ≡ field + 0 = omega arith in
    first_info field f.fields ∙ ap (λ n. first_of n f.fields) number ∙ ap (λ (g : ClassFile). first_of (field + 0) g.fields) same
info_at files field method (suc j) (f ∷ fs) file found =
    let number : (field + length f.fields) + fields_before fs j ≡ field + (length f.fields + fields_before fs j) = omega arith in
    info_at files (field + length f.fields) (method + length f.methods) j fs file found ∙ ap (λ n. first_of n file.fields) number

-- the first field of the class of a file has the number of the fields before it
first_is : (files : List ClassFile) (j : ℕ) (file : ClassFile) → slice_get files j ≡ Some file → first_field files (11 + j) ≡ first_of (fields_before files j) file.fields
first_is files j file found =
    let number : 0 + fields_before files j ≡ fields_before files j = omega arith in
    ap first_in (behind (class_infos files 0 0 built_in_classes) (class_infos files 0 17 files) j)
    ∙ info_at files 0 17 j files file found ∙ ap (λ n. first_of n file.fields) number

-- ---- the three cases of a class

-- a built-in class has no fields
pub built_in_same : (files : List ClassFile) (c : ℕ) (vs : List Value) → c < 11 → length vs ≡ length (fields_of files) → vs ≡ opened_statics files c (fields_of files) vs
built_in_same files c vs less size = sym (above_same files 11 c files vs less size)

-- nor has a class that isn't there
pub absent_same : (files : List ClassFile) (c : ℕ) (vs : List Value) → 11 + length files ≤ c → length vs ≡ length (fields_of files) → vs ≡ opened_statics files c (fields_of files) vs
absent_same files c vs less size = sym (below_same files 11 c files vs less size)

none_before : (n : ℕ) (ms : List Member) → first_of n ms ≡ None → ms ≡ []
none_before n [] e = refl
none_before n (m ∷ ms) e = cc

some_before : (n k : ℕ) (ms : List Member) → first_of n ms ≡ Some k → n ≡ k
some_before n k [] e = cc
some_before n k (m ∷ ms) e = cc

-- the class of a file without fields
pub no_fields_same : (files : List ClassFile) (c j : ℕ) (file : ClassFile) (vs : List Value) → c ≡ 11 + j → slice_get files j ≡ Some file → None ≡ first_field files c
    → length vs ≡ length (fields_of files) → vs ≡ opened_statics files c (fields_of files) vs
no_fields_same files c j file vs is found none size =
    let empty : file.fields ≡ [] = none_before (fields_before files j) file.fields (sym (first_is files j file found) ∙ ap (first_field files) (sym is) ∙ sym none) in
    ap (λ ms. fields_set files (fields_before files j) ms vs) (sym empty)
    ∙ set_at files 11 c (fields_before files j) j files file [] vs is found (omega arith) size

-- the class of a file with fields
pub fields_same : (files : List ClassFile) (c j first : ℕ) (file : ClassFile) (vs : List Value) → c ≡ 11 + j → slice_get files j ≡ Some file → Some first ≡ first_field files c
    → length vs ≡ length (fields_of files) → fields_set files first file.fields vs ≡ opened_statics files c (fields_of files) vs
fields_same files c j first file vs is found some size =
    let number : fields_before files j ≡ first = some_before (fields_before files j) first file.fields (sym (first_is files j file found) ∙ ap (first_field files) (sym is) ∙ sym some) in
    set_at files 11 c first j files file [] vs is found (omega arith) size

-- ---- field after field

drop_here : {X : Type 0} (xs : List X) (i : ℕ) (x : X) → i < length xs → x ≡ get_or xs i x → drop i xs ≡ x ∷ drop (i + 1) xs
drop_here xs i x within here =
    let next : suc i ≡ i + 1 = omega arith in
    from xs i x within here ∙ ap (λ n. x ∷ drop n xs) next
  where
    from : {X : Type 0} (xs : List X) (i : ℕ) (x : X) → i < length xs → x ≡ get_or xs i x → drop i xs ≡ x ∷ drop (suc i) xs
    from [] i x within here = absurd (omega arith)
    from (y ∷ ys) zero x within here = ap (λ z. z ∷ ys) (sym here)
    from (y ∷ ys) (suc i) x within here = from ys i x (omega arith) here

drop_end : {X : Type 0} (xs : List X) (i : ℕ) → length xs ≤ i → drop i xs ≡ []
drop_end [] zero e = refl
drop_end [] (suc i) e = refl
drop_end (x ∷ xs) zero e = absurd (omega arith)
drop_end (x ∷ xs) (suc i) e = drop_end xs i (omega arith)

-- one field more is set
pub fields_more : (files : List ClassFile) (at i : ℕ) (members : List Member) (m : Member) (now next all : List Value) → i < length members → m ≡ get_or members i m
    → next ≡ field_set files at m now → fields_set files at (drop i members) now ≡ all → fields_set files (at + 1) (drop (i + 1) members) next ≡ all
fields_more files at i members m now next all within here set so_far =
    ap (λ vs. fields_set files (at + 1) (drop (i + 1) members) vs) set
    ∙ ap (λ ms. fields_set files at ms now) (sym (drop_here members i m within here)) ∙ so_far

-- all are set
pub fields_done : (files : List ClassFile) (at i : ℕ) (members : List Member) (now all : List Value) → length members ≤ i
    → fields_set files at (drop i members) now ≡ all → now ≡ all
fields_done files at i members now all over so_far = ap (λ ms. fields_set files at ms now) (sym (drop_end members i over)) ∙ so_far
