-- Files are accepted as one program or have one first refusal, and not both.
use Rattle.std.proofs.Common.{◌≡◌, ℕ, List, [], ◌∷◌, ◌++◌, Option, Some, refl, ap, ap₂, sym, ◌∙◌, subst}
use Rattle.std.specs.List.{AllByRecursion}
use Rattle.th_syntax.specs.declared.class_file.ClassFile.{ClassFile}
use Rattle.th_syntax.specs.declared.class_file.Code.{Code}
use Rattle.th_syntax.specs.declared.class_file.Member.{Member}
use Rattle.th_syntax.specs.declared.refusal.Flaw.{Flaw}
use Rattle.th_syntax.specs.declared.refusal.Refusal.{Refusal}
use Rattle.th_syntax.specs.ClassGrammar.{IsClassFile}
use Rattle.th_syntax.specs.FirstFlaw.{FirstFlaw}
use Rattle.th_syntax.specs.Kinds.{KindsAt}
use Rattle.th_syntax.specs.KindTable.{HasKinds, HasFirstConflict, AreKinds}
use Rattle.th_syntax.specs.Linking.{IsLinked, IsFirstRefusal}
use Rattle.th_reader.specs.Answer.{IsRefusal}
use Rattle.th_kinds.specs.Inferred.{AreKindsOf, IsConflict}
use Rattle.th_accept.specs.Accepted.{File, StandFor, HasKindsOf, HasAllKinds, IsAccepted, IsFileRefused, IsMethodRefused, AreKindsRefused, IsRefused, by_file, by_linking, by_kinds}

-- ---- the first bad item

head_is : {X : Type 0} (x y : X) (xs ys : List X) → x ∷ xs ≡ y ∷ ys → x ≡ y
head_is x y xs ys e = cc

tail_is : {X : Type 0} (x y : X) (xs ys : List X) → x ∷ xs ≡ y ∷ ys → xs ≡ ys
tail_is x y xs ys e = cc

module _ {X : Type 0} (Good Bad : X → Type 0) (apart : (x : X) → Good x → Bad x → ⊥) where
  -- the first bad item is one
  first_is : (before others : List X) (x y : X) (behind rest : List X) → AllByRecursion Good before → AllByRecursion Good others → Bad x → Bad y
      → before ++ x ∷ behind ≡ others ++ y ∷ rest → x ≡ y
  first_is [] [] x y behind rest good fine bad worse e = head_is x y behind rest e
  first_is [] (o ∷ others) x y behind rest good fine bad worse e = absurd (apart o fine.0 (subst Bad (head_is x o behind (others ++ y ∷ rest) e) bad))
  first_is (b ∷ before) [] x y behind rest good fine bad worse e = absurd (apart b good.0 (subst Bad (sym (head_is b y (before ++ x ∷ behind) rest e)) worse))
  first_is (b ∷ before) (o ∷ others) x y behind rest good fine bad worse e =
      first_is before others x y behind rest good.1 fine.1 bad worse (tail_is b o (before ++ x ∷ behind) (others ++ y ∷ rest) e)

  -- where one is bad, not all are good
  not_all_good : (before : List X) (x : X) (behind : List X) → AllByRecursion Good (before ++ x ∷ behind) → Bad x → ⊥
  not_all_good [] x behind all bad = apart x all.0 bad
  not_all_good (b ∷ before) x behind all bad = not_all_good before x behind all.1 bad

-- ---- what holds of files, of linking and of kinds

pub record Laws : Type 0 where
  pub one_value : (bytes : List ℕ) (v w : ClassFile) → IsClassFile bytes v → IsClassFile bytes w → v ≡ w
  pub one_flaw : (bytes : List ℕ) (flaw other : Flaw) → FirstFlaw bytes flaw → FirstFlaw bytes other → flaw ≡ other
  pub value_or_flaw : (bytes : List ℕ) (flaw : Flaw) (v : ClassFile) → FirstFlaw bytes flaw → IsClassFile bytes v → ⊥
  pub one_linking : (classes : List ClassFile) (refusal other : Refusal) → IsFirstRefusal classes refusal → IsFirstRefusal classes other → refusal ≡ other
  pub linked_or_refused : (classes : List ClassFile) (refusal : Refusal) → IsLinked classes → IsFirstRefusal classes refusal → ⊥
  pub kinds_or_conflict : (m : Member) (code : Code) (t u : ℕ → KindsAt) (offset : ℕ) → HasKinds m code t → HasFirstConflict m code u offset → ⊥
  pub one_conflict : (m : Member) (code : Code) (t u : ℕ → KindsAt) (offset other : ℕ) → HasFirstConflict m code t offset → HasFirstConflict m code u other → offset ≡ other

module _ (laws : Laws) where
  -- ---- files

  abbrev Stands : File → Type 0
  Stands f = (class : ClassFile) × IsClassFile f.1 class

  abbrev IsFlawed : File → Type 0
  IsFlawed f = (flaw : Flaw) × FirstFlaw f.1 flaw

  file_apart : (f : File) → Stands f → IsFlawed f → ⊥
  file_apart f stands flawed = laws.value_or_flaw f.1 flawed.0 stands.0 flawed.1 stands.1

  each_stands : (files : List File) (classes : List ClassFile) → StandFor files classes → AllByRecursion Stands files
  each_stands [] [] stand = tt
  each_stands (f ∷ files) (c ∷ classes) stand = ((c, stand.0), each_stands files classes stand.1)
  each_stands [] (c ∷ classes) stand = absurd stand
  each_stands (f ∷ files) [] stand = absurd stand

  same_classes : (files : List File) (classes others : List ClassFile) → StandFor files classes → StandFor files others → classes ≡ others
  same_classes [] [] [] stand too = refl
  same_classes (f ∷ files) (c ∷ classes) (o ∷ others) stand too =
      ap₂ (λ (x : ClassFile) (xs : List ClassFile). x ∷ xs) (laws.one_value f.1 c o stand.0 too.0) (same_classes files classes others stand.1 too.1)
  same_classes [] (c ∷ classes) others stand too = absurd stand
  same_classes [] [] (o ∷ others) stand too = absurd too
  same_classes (f ∷ files) [] others stand too = absurd stand
  same_classes (f ∷ files) (c ∷ classes) [] stand too = absurd too

  abbrev refusal_for : List ℕ → Flaw → Refusal
  refusal_for name flaw = record { number = flaw.number; class = name; member = []; offset = flaw.offset }

  same_flaw : (f : File) (flaw other : Flaw) (refusal answer : Refusal) → FirstFlaw f.1 flaw → FirstFlaw f.1 other → IsRefusal f.0 flaw refusal → IsRefusal f.0 other answer → refusal ≡ answer
  same_flaw f flaw other refusal answer first too is also =
      let same : flaw ≡ other = laws.one_flaw f.1 flaw other first too in
      is ∙ ap (refusal_for f.0) same ∙ sym also

  one_file : (files : List File) (refusal other : Refusal) → IsFileRefused files refusal → IsFileRefused files other → refusal ≡ other
  one_file files refusal other a b =
      let same : a.file ≡ b.file = first_is Stands IsFlawed file_apart a.before b.before a.file b.file a.behind b.behind (each_stands a.before a.classes a.stand) (each_stands b.before b.classes b.stand)
      (a.flaw, a.first) (b.flaw, b.first) (sym a.files_are ∙ b.files_are) in
      same_flaw b.file a.flaw b.flaw refusal other (subst (λ (f : File). FirstFlaw f.1 a.flaw) same a.first) b.first (subst (λ (f : File). IsRefusal f.0 a.flaw refusal) same a.refusal_is) b.refusal_is

  files_or_refused : (files : List File) (classes : List ClassFile) (refusal : Refusal) → StandFor files classes → IsFileRefused files refusal → ⊥
  files_or_refused files classes refusal stand a =
      not_all_good Stands IsFlawed file_apart a.before a.file a.behind (subst (AllByRecursion Stands) a.files_are (each_stands files classes stand)) (a.flaw, a.first)

  -- ---- kinds

  abbrev Conflicts : ClassFile → Member → Type 0
  Conflicts class m = (refusal : Refusal) × IsConflict class.name m refusal

  method_apart : (class : ClassFile) (m : Member) → HasKindsOf m → Conflicts class m → ⊥
  method_apart class m has conflicts =
      let conflict = conflicts.1 in
      let are : AreKinds m conflict.code has.0 = subst (λ (o : Option Code). AreKindsOf m o has.0) conflict.coded has.1 in
      laws.kinds_or_conflict m conflict.code are.table conflict.table conflicts.0.offset are.has conflict.conflict

  same_some : {X : Type 0} (x y : X) (o : Option X) → o ≡ Some x → o ≡ Some y → x ≡ y
  same_some x y o e f = cc

  same_conflict : (class : List ℕ) (m : Member) (refusal other : Refusal) → IsConflict class m refusal → IsConflict class m other → refusal ≡ other
  same_conflict class m refusal other a b =
      let same : a.code ≡ b.code = same_some a.code b.code m.code a.coded b.coded in
      let at : refusal.offset ≡ other.offset = laws.one_conflict m b.code a.table b.table refusal.offset other.offset (subst (λ (c : Code). HasFirstConflict m c a.table refusal.offset) same a.conflict) b.conflict in
      let number : refusal.number ≡ other.number = a.number ∙ sym b.number in
      let name : refusal.class ≡ other.class = a.class_name ∙ sym b.class_name in
      let member : refusal.member ≡ other.member = a.member ∙ sym b.member in
      λ i. record { number = number i; class = name i; member = member i; offset = at i }

  one_method : (class : ClassFile) (refusal other : Refusal) → IsMethodRefused class refusal → IsMethodRefused class other → refusal ≡ other
  one_method class refusal other a b =
      let same : a.method ≡ b.method = first_is HasKindsOf (Conflicts class) (method_apart class) a.before b.before a.method b.method a.behind b.behind a.fine b.fine
      (refusal, a.conflict) (other, b.conflict) (sym a.methods_are ∙ b.methods_are) in
      same_conflict class.name b.method refusal other (subst (λ (m : Member). IsConflict class.name m refusal) same a.conflict) b.conflict

  abbrev IsBad : ClassFile → Type 0
  IsBad class = (refusal : Refusal) × IsMethodRefused class refusal

  class_apart : (class : ClassFile) → HasAllKinds class → IsBad class → ⊥
  class_apart class has bad =
      let a = bad.1 in
      not_all_good HasKindsOf (Conflicts class) (method_apart class) a.before a.method a.behind (subst (AllByRecursion HasKindsOf) a.methods_are has) (bad.0, a.conflict)

  one_of_kinds : (classes : List ClassFile) (refusal other : Refusal) → AreKindsRefused classes refusal → AreKindsRefused classes other → refusal ≡ other
  one_of_kinds classes refusal other a b =
      let same : a.class ≡ b.class = first_is HasAllKinds IsBad class_apart a.before b.before a.class b.class a.behind b.behind a.fine b.fine (refusal, a.method) (other, b.method) (sym a.classes_are ∙ b.classes_are) in
      one_method b.class refusal other (subst (λ (c : ClassFile). IsMethodRefused c refusal) same a.method) b.method

  kinds_or_refused : (classes : List ClassFile) (refusal : Refusal) → AllByRecursion HasAllKinds classes → AreKindsRefused classes refusal → ⊥
  kinds_or_refused classes refusal has a =
      not_all_good HasAllKinds IsBad class_apart a.before a.class a.behind (subst (AllByRecursion HasAllKinds) a.classes_are has) (refusal, a.method)

  -- ---- the law

  pub one_program : (files : List File) (classes others : List ClassFile) → IsAccepted files classes → IsAccepted files others → classes ≡ others
  one_program files classes others a b = same_classes files classes others a.stand b.stand

  pub one_refusal : (files : List File) (refusal other : Refusal) → IsRefused files refusal → IsRefused files other → refusal ≡ other
  one_refusal files refusal other (by_file a) (by_file b) = one_file files refusal other a b
  one_refusal files refusal other (by_file a) (by_linking others too last) = absurd (files_or_refused files others refusal too a)
  one_refusal files refusal other (by_file a) (by_kinds others too linked last) = absurd (files_or_refused files others refusal too a)
  one_refusal files refusal other (by_linking classes stand first) (by_file b) = absurd (files_or_refused files classes other stand b)
  one_refusal files refusal other (by_linking classes stand first) (by_linking others too last) =
      laws.one_linking others refusal other (subst (λ (c : List ClassFile). IsFirstRefusal c refusal) (same_classes files classes others stand too) first) last
  one_refusal files refusal other (by_linking classes stand first) (by_kinds others too linked last) =
      absurd (laws.linked_or_refused others refusal linked (subst (λ (c : List ClassFile). IsFirstRefusal c refusal) (same_classes files classes others stand too) first))
  one_refusal files refusal other (by_kinds classes stand linked first) (by_file b) = absurd (files_or_refused files classes other stand b)
  one_refusal files refusal other (by_kinds classes stand linked first) (by_linking others too last) =
      absurd (laws.linked_or_refused classes other linked (subst (λ (c : List ClassFile). IsFirstRefusal c other) (same_classes files others classes too stand) last))
  one_refusal files refusal other (by_kinds classes stand linked first) (by_kinds others too also last) =
      one_of_kinds others refusal other (subst (λ (c : List ClassFile). AreKindsRefused c refusal) (same_classes files classes others stand too) first) last

  pub not_both : (files : List File) (classes : List ClassFile) (refusal : Refusal) → IsAccepted files classes → IsRefused files refusal → ⊥
  not_both files classes refusal accepted (by_file a) = files_or_refused files classes refusal accepted.stand a
  not_both files classes refusal accepted (by_linking others too first) =
      laws.linked_or_refused classes refusal accepted.linked (subst (λ (c : List ClassFile). IsFirstRefusal c refusal) (same_classes files others classes too accepted.stand) first)
  not_both files classes refusal accepted (by_kinds others too linked first) =
      kinds_or_refused classes refusal accepted.kinds (subst (λ (c : List ClassFile). AreKindsRefused c refusal) (same_classes files others classes too accepted.stand) first)
