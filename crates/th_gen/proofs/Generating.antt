-- The files of a generated program, class by class.
use Rattle.std.proofs.Common.{◌≡◌, ℕ, zero, suc, ◌+◌, List, [], ◌∷◌, ◌++◌, map, refl, sym, ap, subst, ◌∙◌, add-one, arith}
use Rattle.th_syntax.specs.ClassGrammar.{IsClassFile}
use Rattle.th_gen.specs.declared.draft.ClassWriter.{ClassWriter}
use Rattle.th_gen.specs.ClassText.{class_bytes}
use Rattle.th_gen.specs.ClassValue.{class_of}
use Rattle.th_gen.specs.Program.{IsFileOf, StandFor}
use Rattle.th_gen.specs.Generated.{vec_class, class_numbered, classes_from, generated_classes}

map_more : {X Y : Type 0} (f : X → Y) (xs : List X) (x : X) → map f (xs ++ x ∷ []) ≡ map f xs ++ f x ∷ []
map_more f [] x = refl
map_more f (y ∷ ys) x = ap (λ r. f y ∷ r) (map_more f ys x)

classes_more : (first count : ℕ) → classes_from first (suc count) ≡ classes_from first count ++ class_numbered (first + count) ∷ []
classes_more first zero = let e : first ≡ first + 0 = omega arith in ap (λ (k : ℕ). class_numbered k ∷ []) e
classes_more first (suc count) =
    let e : (first + 1) + count ≡ first + suc count = omega arith in
    ap (λ (r : List ClassWriter). class_numbered first ∷ r) (classes_more (first + 1) count ∙ ap (λ (k : ℕ). classes_from (first + 1) count ++ class_numbered k ∷ []) e)

program_more : (count : ℕ) → generated_classes (count + 1) ≡ generated_classes count ++ class_numbered count ∷ []
program_more count =
    let e : 0 + count ≡ count = omega arith in
    ap generated_classes (add-one count) ∙ ap (λ (r : List ClassWriter). vec_class ∷ r) (classes_more 0 count ∙ ap (λ (k : ℕ). classes_from 0 count ++ class_numbered k ∷ []) e)

stand_more : (files : List (List ℕ)) (classes : List ClassWriter) (bytes : List ℕ) (class : ClassWriter) → StandFor files classes → IsClassFile bytes (class_of class) → StandFor (files ++ bytes ∷ []) (classes ++ class ∷ [])
stand_more [] [] bytes class all here = (here, tt)
stand_more [] (w ∷ ws) bytes class all here = absurd all
stand_more (b ∷ bs) [] bytes class all here = absurd all
stand_more (b ∷ bs) (w ∷ ws) bytes class all here = (all.0, stand_more bs ws bytes class all.1 here)

-- the files of the vector and of so many Activity classes
pub record AreMade {X : Type 0} (name bytes : X → List ℕ) (files : List X) (count : ℕ) : Type 0 where
  pub names : map name files ≡ map (λ class. class.name) (generated_classes count)
  pub contents : map bytes files ≡ map class_bytes (generated_classes count)
  pub stand : StandFor (map bytes files) (generated_classes count)

pub one_made : {X : Type 0} (name bytes : X → List ℕ) (before after : List X) (file : X) → before ≡ [] → after ≡ before ++ file ∷ [] → IsFileOf (name file) (bytes file) vec_class → AreMade name bytes after 0
one_made name bytes before after file none pushed made = rw (pushed, none) record {
  names = ap (λ (n : List ℕ). n ∷ []) made.named;
  contents = ap (λ (b : List ℕ). b ∷ []) made.written;
  stand = (made.stands, tt);
}

more_alike : {X Y : Type 0} (f : X → Y) (g : ClassWriter → Y) (before : List X) (file : X) (classes all : List ClassWriter) (class : ClassWriter) → map f before ≡ map g classes → f file ≡ g class → all ≡ classes ++ class ∷ [] → map f (before ++ file ∷ []) ≡ map g all
more_alike {X} {Y} f g before file classes all class same here is =
    map_more f before file
    ∙ ap (λ (ys : List Y). ys ++ f file ∷ []) same
    ∙ ap (λ (y : Y). map g classes ++ y ∷ []) here
    ∙ sym (map_more g classes class)
    ∙ ap (map g) (sym is)

pub one_more : {X : Type 0} (name bytes : X → List ℕ) (before after : List X) (file : X) (count : ℕ) → after ≡ before ++ file ∷ [] → IsFileOf (name file) (bytes file) (class_numbered count) → AreMade name bytes before count → AreMade name bytes after (count + 1)
one_more {X} name bytes before after file count pushed here made = subst (λ (files : List X). AreMade name bytes files (count + 1)) (sym pushed) record {
  names = more_alike name (λ class. class.name) before file (generated_classes count) (generated_classes (count + 1)) (class_numbered count) made.names here.named (program_more count);
  contents = more_alike bytes class_bytes before file (generated_classes count) (generated_classes (count + 1)) (class_numbered count) made.contents here.written (program_more count);
  stand =
      subst (λ (classes : List ClassWriter). StandFor (map bytes (before ++ file ∷ [])) classes) (sym (program_more count))
      (subst (λ (contents : List (List ℕ)). StandFor contents (generated_classes count ++ class_numbered count ∷ [])) (sym (map_more bytes before file))
      (stand_more (map bytes before) (generated_classes count) (bytes file) (class_numbered count) made.stand here.stands));
}
