-- Look-ups along a list of classes, or a line of superclasses, find what the rules find.
use Rattle.std.proofs.Common.{◌≡◌, ℕ, ◌+◌, ◌<◌, ◌≤◌, zero, suc, false, cond, not, ◌&&◌, Bor, List, [], ◌∷◌, ◌++◌, Option, Some, None, is_some, length, take, get_or, refl, sym, ap, ◌∙◌, arith}
use Rattle.std.specs.List.{find, slice_get}
use Rattle.std.specs.Option.{option_or, option_map, option_and_then, option_copied}
use Rattle.std.specs.Str.{bytes_eq}
use Rattle.std.proofs.lemmas.List.{take_more, take_all}
use Rattle.std.proofs.lemmas.Option.{slice_get-get_or}
use Rattle.th_base.specs.declared.class.ClassInfo.{ClassInfo}
use Rattle.th_base.specs.Ancestors.{FindAlike}
use Rattle.th_base.specs.Hierarchy.{superclass_of, direct_supertypes, IsAcyclic, first_some, first_field, first_method, overriding_along, declared_field, declared_method, overriding_method}
use Rattle.th_base.specs.declared.class.FieldInfo.{FieldInfo}
use Rattle.th_base.specs.declared.class.MethodInfo.{MethodInfo}
use Rattle.th_base.proofs.Enough.{superclass_is_direct}
use Rattle.th_base.proofs.Membership.{Contains-from_has}

-- ---- the first answer along a list

option_or_assoc : {X : Type 0} (a b c : Option X) → option_or a (option_or b c) ≡ option_or (option_or a b) c
option_or_assoc None b c = refl
option_or_assoc (Some x) b c = refl

pub first_some-append : {Y : Type 0} (f : ℕ → Option Y) (xs ys : List ℕ) → first_some f (xs ++ ys) ≡ option_or (first_some f xs) (first_some f ys)
first_some-append f [] ys = refl
first_some-append f (x ∷ xs) ys = ap (option_or (f x)) (first_some-append f xs ys) ∙ option_or_assoc (f x) (first_some f xs) (first_some f ys)

first_some_step : {Y : Type 0} (f : ℕ → Option Y) (x : ℕ) (xs : List ℕ) → first_some f xs ≡ option_and_then f (find (λ y. is_some (f y)) xs)
    → (o : Option Y) → f x ≡ o → option_or o (first_some f xs) ≡ option_and_then f (cond (is_some o) (Some x) (find (λ y. is_some (f y)) xs))
first_some_step f x xs rest None e = rest
first_some_step f x xs rest (Some y) e = sym e

first_some_is : {Y : Type 0} (f : ℕ → Option Y) (xs : List ℕ) → first_some f xs ≡ option_and_then f (find (λ x. is_some (f x)) xs)
first_some_is f [] = refl
first_some_is f (x ∷ xs) = first_some_step f x xs (first_some_is f xs) (f x) refl

-- alike lists give one answer
pub first_some_alike : {Y : Type 0} (f : ℕ → Option Y) (xs ys : List ℕ) → FindAlike xs ys → first_some f xs ≡ first_some f ys
first_some_alike f xs ys a = first_some_is f xs ∙ ap (option_and_then f) (a (λ x. is_some (f x))) ∙ sym (first_some_is f ys)

none_first : {X : Type 0} (o r : Option X) → o ≡ None → option_or o r ≡ r
none_first None r e = refl
none_first (Some x) r e = cc

-- the next class of the list gives no answer
pub along_more : {Y : Type 0} (f : ℕ → Option Y) (xs : List ℕ) (i : ℕ) → i < length xs → first_some f (take i xs) ≡ None → f (get_or xs i 0) ≡ None
    → first_some f (take (i + 1) xs) ≡ None
along_more f xs i h before here =
    ap (first_some f) (take_more xs i 0 h) ∙ first_some-append f (take i xs) (get_or xs i 0 ∷ [])
    ∙ none_first (first_some f (take i xs)) (first_some f (get_or xs i 0 ∷ [])) before ∙ none_first (f (get_or xs i 0)) None here

found_later : {Y : Type 0} (f : ℕ → Option Y) (x : ℕ) (xs : List ℕ) (i : ℕ) (y : Y) (o : Option Y) → f x ≡ o
    → option_or (f x) (first_some f (take i xs)) ≡ None → (first_some f (take i xs) ≡ None → first_some f xs ≡ Some y) → option_or (f x) (first_some f xs) ≡ Some y
found_later f x xs i y None e before rest =
    none_first (f x) (first_some f xs) e ∙ rest (sym (none_first (f x) (first_some f (take i xs)) e) ∙ before)
found_later f x xs i y (Some z) e before rest =
    let first : option_or (f x) (first_some f (take i xs)) ≡ Some z = ap (λ o. option_or o (first_some f (take i xs))) e in cc

-- the next class of the list gives the answer
pub along_found : {Y : Type 0} (f : ℕ → Option Y) (xs : List ℕ) (i : ℕ) (y : Y) → i < length xs → first_some f (take i xs) ≡ None → f (get_or xs i 0) ≡ Some y
    → first_some f xs ≡ Some y
along_found f [] zero y h before here = absurd (omega arith)
along_found f (x ∷ xs) zero y h before here = ap (λ o. option_or o (first_some f xs)) here
along_found f [] (suc i) y h before here = absurd (omega arith)
along_found f (x ∷ xs) (suc i) y h before here =
    found_later f x xs i y (f x) refl before (λ e. along_found f xs i y (omega arith) e here)

pub along_none : {Y : Type 0} (f : ℕ → Option Y) (xs : List ℕ) (i : ℕ) → length xs ≤ i → first_some f (take i xs) ≡ None → first_some f xs ≡ None
along_none f xs i h e = ap (first_some f) (sym (take_all i xs h)) ∙ e

-- ---- a class of the list

pub class_at : (classes : List ClassInfo) (c : ℕ) (k : ClassInfo) → c < length classes → k ≡ get_or classes c k → slice_get classes c ≡ Some k
class_at classes c k h e = slice_get-get_or classes c k h ∙ ap (λ q. Some q) (sym e)

pub superclass_at : (classes : List ClassInfo) (c : ℕ) (k : ClassInfo) → slice_get classes c ≡ Some k → superclass_of classes c ≡ option_map (λ s. s.0) k.super_id
superclass_at classes c k e = ap (λ o. option_and_then (λ q. option_map (λ s. s.0) q.super_id) o) e

pub superclass_inside : (classes : List ClassInfo) (c s : ℕ) → IsAcyclic classes → superclass_of classes c ≡ Some s → s < length classes
superclass_inside classes c s a e = a.in_range c s (Contains-from_has (direct_supertypes classes c) s (superclass_is_direct classes c s e))

-- ---- what one class declares, as the look-ups read it

option_map_none : {X Y : Type 0} (f : X → Y) (o : Option X) → o ≡ None → option_map f o ≡ None
option_map_none f None e = refl
option_map_none f (Some x) e = cc

-- the class at a place of a list declares the field, or doesn't
pub field_here : (classes : List ClassInfo) (name descriptor : List ℕ) (c : ℕ) (k : ClassInfo) (found : Option FieldInfo) → c < length classes → k ≡ get_or classes c k
    → found ≡ find (λ f. bytes_eq f.name name && bytes_eq f.descriptor descriptor) k.fields → declared_field classes name descriptor c ≡ found
field_here classes name descriptor c k found h e g =
    ap (λ o. option_and_then (λ q. find (λ f. bytes_eq f.name name && bytes_eq f.descriptor descriptor) q.fields) o) (class_at classes c k h e) ∙ sym g

pub method_here : (classes : List ClassInfo) (name descriptor : List ℕ) (c : ℕ) (k : ClassInfo) (found : Option MethodInfo) → c < length classes → k ≡ get_or classes c k
    → found ≡ find (λ m. bytes_eq m.name name && bytes_eq m.descriptor descriptor) k.methods → declared_method classes name descriptor c ≡ found
method_here classes name descriptor c k found h e g =
    ap (λ o. option_and_then (λ q. find (λ m. bytes_eq m.name name && bytes_eq m.descriptor descriptor) q.methods) o) (class_at classes c k h e) ∙ sym g

pub overriding_here : (classes : List ClassInfo) (name descriptor : List ℕ) (c : ℕ) (k : ClassInfo) (found : Option MethodInfo) → c < length classes → k ≡ get_or classes c k
    → found ≡ find (λ m. (bytes_eq m.name name && bytes_eq m.descriptor descriptor) && (not m.is_static && not m.is_private)) k.methods
    → overriding_method classes name descriptor c ≡ found
overriding_here classes name descriptor c k found h e g =
    ap (λ o. option_and_then (λ q. find (λ m. (bytes_eq m.name name && bytes_eq m.descriptor descriptor) && (not m.is_static && not m.is_private)) q.methods) o) (class_at classes c k h e) ∙ sym g

-- ---- what a reference that was found refers to

pub copied_none : {X : Type 0} (o : Option (Bor X)) → is_some o ≡ false → option_copied o ≡ None
copied_none None e = refl
copied_none (Some x) e = cc

-- ---- a look-up along a list, one class further

abbrev field_step : List ClassInfo → List ℕ → List ℕ → ℕ → Option (ℕ × FieldInfo)
field_step classes name descriptor k = option_map (λ m. (k, m)) (declared_field classes name descriptor k)

pub field_found : (classes : List ClassInfo) (name descriptor order : List ℕ) (i : ℕ) (k : ClassInfo) (found : FieldInfo) → i < length order
    → first_field classes name descriptor (take i order) ≡ None → get_or order i 0 < length classes → k ≡ get_or classes (get_or order i 0) k
    → Some found ≡ find (λ f. bytes_eq f.name name && bytes_eq f.descriptor descriptor) k.fields → Some (get_or order i 0, found) ≡ first_field classes name descriptor order
field_found classes name descriptor order i k found h before inside e g =
    let c = get_or order i 0 in
    let here : field_step classes name descriptor c ≡ Some (c, found) = ap (option_map (λ m. (c, m))) (field_here classes name descriptor c k (Some found) inside e g) in
    sym (along_found (field_step classes name descriptor) order i (c, found) h before here)

pub field_missed : (classes : List ClassInfo) (name descriptor order : List ℕ) (i : ℕ) (k : ClassInfo) → i < length order
    → first_field classes name descriptor (take i order) ≡ None → get_or order i 0 < length classes → k ≡ get_or classes (get_or order i 0) k
    → None ≡ find (λ f. bytes_eq f.name name && bytes_eq f.descriptor descriptor) k.fields → first_field classes name descriptor (take (i + 1) order) ≡ None
field_missed classes name descriptor order i k h before inside e g =
    let c = get_or order i 0 in
    let here : field_step classes name descriptor c ≡ None = ap (option_map (λ m. (c, m))) (field_here classes name descriptor c k None inside e g) in
    along_more (field_step classes name descriptor) order i h before here

abbrev method_step : List ClassInfo → List ℕ → List ℕ → ℕ → Option (ℕ × MethodInfo)
method_step classes name descriptor k = option_map (λ m. (k, m)) (declared_method classes name descriptor k)

pub method_found : (classes : List ClassInfo) (name descriptor order : List ℕ) (i : ℕ) (k : ClassInfo) (found : MethodInfo) → i < length order
    → first_method classes name descriptor (take i order) ≡ None → get_or order i 0 < length classes → k ≡ get_or classes (get_or order i 0) k
    → Some found ≡ find (λ m. bytes_eq m.name name && bytes_eq m.descriptor descriptor) k.methods → Some (get_or order i 0, found) ≡ first_method classes name descriptor order
method_found classes name descriptor order i k found h before inside e g =
    let c = get_or order i 0 in
    let here : method_step classes name descriptor c ≡ Some (c, found) = ap (option_map (λ m. (c, m))) (method_here classes name descriptor c k (Some found) inside e g) in
    sym (along_found (method_step classes name descriptor) order i (c, found) h before here)

pub method_missed : (classes : List ClassInfo) (name descriptor order : List ℕ) (i : ℕ) (k : ClassInfo) → i < length order
    → first_method classes name descriptor (take i order) ≡ None → get_or order i 0 < length classes → k ≡ get_or classes (get_or order i 0) k
    → None ≡ find (λ m. bytes_eq m.name name && bytes_eq m.descriptor descriptor) k.methods → first_method classes name descriptor (take (i + 1) order) ≡ None
method_missed classes name descriptor order i k h before inside e g =
    let c = get_or order i 0 in
    let here : method_step classes name descriptor c ≡ None = ap (option_map (λ m. (c, m))) (method_here classes name descriptor c k None inside e g) in
    along_more (method_step classes name descriptor) order i h before here

abbrev overriding_step : List ClassInfo → List ℕ → List ℕ → ℕ → Option (ℕ × MethodInfo)
overriding_step classes name descriptor k = option_map (λ m. (k, m)) (overriding_method classes name descriptor k)

pub overriding_found : (classes : List ClassInfo) (name descriptor order : List ℕ) (i : ℕ) (k : ClassInfo) (found : MethodInfo) → i < length order
    → overriding_along classes name descriptor (take i order) ≡ None → get_or order i 0 < length classes → k ≡ get_or classes (get_or order i 0) k
    → Some found ≡ find (λ m. (bytes_eq m.name name && bytes_eq m.descriptor descriptor) && (not m.is_static && not m.is_private)) k.methods
    → Some (get_or order i 0, found) ≡ overriding_along classes name descriptor order
overriding_found classes name descriptor order i k found h before inside e g =
    let c = get_or order i 0 in
    let here : overriding_step classes name descriptor c ≡ Some (c, found) = ap (option_map (λ m. (c, m))) (overriding_here classes name descriptor c k (Some found) inside e g) in
    sym (along_found (overriding_step classes name descriptor) order i (c, found) h before here)

pub overriding_missed : (classes : List ClassInfo) (name descriptor order : List ℕ) (i : ℕ) (k : ClassInfo) → i < length order
    → overriding_along classes name descriptor (take i order) ≡ None → get_or order i 0 < length classes → k ≡ get_or classes (get_or order i 0) k
    → None ≡ find (λ m. (bytes_eq m.name name && bytes_eq m.descriptor descriptor) && (not m.is_static && not m.is_private)) k.methods
    → overriding_along classes name descriptor (take (i + 1) order) ≡ None
overriding_missed classes name descriptor order i k h before inside e g =
    let c = get_or order i 0 in
    let here : overriding_step classes name descriptor c ≡ None = ap (option_map (λ m. (c, m))) (overriding_here classes name descriptor c k None inside e g) in
    along_more (overriding_step classes name descriptor) order i h before here
