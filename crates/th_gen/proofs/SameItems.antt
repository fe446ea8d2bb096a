-- Entries that stand for the same are equal, and an entry stands for the same as itself.
use Rattle.std.proofs.Common.{◌≡◌, Bool, true, false, ◌&&◌, List, ℕ, refl, ap}
use Rattle.std.specs.Str.{bytes_eq}
use Rattle.std.proofs.lemmas.Slice.Eq.{bytes_eq-Decides}
use Rattle.std.specs.Cmp.{signed_Decides}
use Rattle.th_syntax.specs.declared.instr.MemberRef.{MemberRef}
use Rattle.th_syntax.specs.Refs.{is_same_ref}
use Rattle.th_gen.specs.declared.item.PoolItem.{PoolItem}
use Rattle.th_gen.specs.declared.item.PoolItem.TheVariants.{Utf8, Integer, LongInteger, ClassName, StringText, NameAndType, FieldRef, MethodRef, InterfaceMethodRef}
use Rattle.th_gen.specs.Items.{is_same_item}

both : (a b : Bool) → (a && b) ≡ true → (a ≡ true) × (b ≡ true)
both true b e = (refl, e)
both false b e = absurd cc

same_text : (a b : List ℕ) → bytes_eq a b ≡ true → a ≡ b
same_text a b e = (bytes_eq-Decides a b).0 e

text_itself : (a : List ℕ) → bytes_eq a a ≡ true
text_itself a = (bytes_eq-Decides a a).1 refl

ref_from : (o o2 n n2 d d2 : List ℕ) → o ≡ o2 → n ≡ n2 → d ≡ d2 → (let m : MemberRef = record { owner = o; name = n; descriptor = d } in m) ≡ record { owner = o2; name = n2; descriptor = d2 }
ref_from o o2 n n2 d d2 e f g = rw (e, f, g) refl

same_ref : (a b : MemberRef) → is_same_ref a b ≡ true → a ≡ b
same_ref a b e =
    let one = both (bytes_eq a.owner b.owner) (bytes_eq a.name b.name && bytes_eq a.descriptor b.descriptor) e in
    let two = both (bytes_eq a.name b.name) (bytes_eq a.descriptor b.descriptor) one.1 in
    ref_from a.owner b.owner a.name b.name a.descriptor b.descriptor (same_text a.owner b.owner one.0) (same_text a.name b.name two.0) (same_text a.descriptor b.descriptor two.1)

ref_itself : (a : MemberRef) → is_same_ref a a ≡ true
ref_itself a = rw (text_itself a.owner, text_itself a.name, text_itself a.descriptor) refl

pub same_item : (a b : PoolItem) → is_same_item a b ≡ true → a ≡ b
same_item (Utf8 a) (Utf8 b) e = ap Utf8 (same_text a b e)
same_item (Utf8 a) other e = absurd cc
same_item (Integer a) (Integer b) e = ap Integer ((signed_Decides a b).0 e)
same_item (Integer a) other e = absurd cc
same_item (LongInteger a) (LongInteger b) e = ap LongInteger ((signed_Decides a b).0 e)
same_item (LongInteger a) other e = absurd cc
same_item (ClassName a) (ClassName b) e = ap ClassName (same_text a b e)
same_item (ClassName a) other e = absurd cc
same_item (StringText a) (StringText b) e = ap StringText (same_text a b e)
same_item (StringText a) other e = absurd cc
same_item (NameAndType a c) (NameAndType b d) e =
    let two = both (bytes_eq a b) (bytes_eq c d) e in
    rw (same_text a b two.0, same_text c d two.1) refl
same_item (NameAndType a c) other e = absurd cc
same_item (FieldRef a) (FieldRef b) e = ap FieldRef (same_ref a b e)
same_item (FieldRef a) other e = absurd cc
same_item (MethodRef a) (MethodRef b) e = ap MethodRef (same_ref a b e)
same_item (MethodRef a) other e = absurd cc
same_item (InterfaceMethodRef a) (InterfaceMethodRef b) e = ap InterfaceMethodRef (same_ref a b e)
same_item (InterfaceMethodRef a) other e = absurd cc

pub item_itself : (a : PoolItem) → is_same_item a a ≡ true
item_itself (Utf8 a) = text_itself a
item_itself (Integer a) = (signed_Decides a a).1 refl
item_itself (LongInteger a) = (signed_Decides a a).1 refl
item_itself (ClassName a) = text_itself a
item_itself (StringText a) = text_itself a
item_itself (NameAndType a b) = rw (text_itself a, text_itself b) refl
item_itself (FieldRef a) = ref_itself a
item_itself (MethodRef a) = ref_itself a
item_itself (InterfaceMethodRef a) = ref_itself a
