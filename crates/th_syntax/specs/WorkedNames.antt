-- Names and descriptors that are told apart, worked out in full.
use Rattle.std.specs.Prelude.{ℕ, List, [], ◌∷◌, ◌++◌, codes, replicate, Bool, true, false}
use Rattle.std.specs.List.{concat}

-- names, and whether each of them is that of a class, of a field, and of a method
abbrev pub worked_names : List (List ℕ × Bool × Bool × Bool)
worked_names =
    (codes "a", true, true, true)
    ∷ (codes "a/b", true, false, false)
    ∷ (codes "a/b/c", true, false, false)
    ∷ (codes "", false, false, false)
    ∷ (codes "/a", false, false, false)
    ∷ (codes "a/", false, false, false)
    ∷ (codes "a//b", false, false, false)
    ∷ (codes "a.b", false, false, false)
    ∷ (codes "a;b", false, false, false)
    ∷ (codes "a[b", false, false, false)
    ∷ (codes "a<b", true, true, false)
    ∷ (codes "a>b", true, true, false)
    ∷ (codes "<init>", true, true, true)
    ∷ (codes "<clinit>", true, true, true)
    ∷ (codes "<other>", true, true, false)
    ∷ (codes "()", true, true, true)
    ∷ []

-- so many times the same bytes
abbrev pub repeated : ℕ → List ℕ → List ℕ
repeated n bytes = concat (replicate n bytes)

-- descriptors, and whether each of them is a field's without float and double, and one with them
abbrev pub worked_fields : List (List ℕ × Bool × Bool)
worked_fields =
    (codes "B", true, false)
    ∷ (codes "C", true, false)
    ∷ (codes "D", true, true)
    ∷ (codes "F", true, true)
    ∷ (codes "I", true, false)
    ∷ (codes "J", true, false)
    ∷ (codes "S", true, false)
    ∷ (codes "Z", true, false)
    ∷ (codes "La/b;", true, false)
    ∷ (codes "[[D", true, true)
    ∷ (codes "[La;", true, false)
    ∷ (repeated 255 (codes "[") ++ codes "I", true, false)
    ∷ (repeated 256 (codes "[") ++ codes "I", false, false)
    ∷ (codes "", false, false)
    ∷ (codes "V", false, false)
    ∷ (codes "[", false, false)
    ∷ (codes "II", false, false)
    ∷ (codes "L;", false, false)
    ∷ (codes "La", false, false)
    ∷ (codes "La.b;", false, false)
    ∷ (codes "[L/;", false, false)
    ∷ []

-- the same for methods
abbrev pub worked_methods : List (List ℕ × Bool × Bool)
worked_methods =
    (codes "()V", true, false)
    ∷ (codes "(I[JLa;)La;", true, false)
    ∷ (codes "(ID)V", true, true)
    ∷ (codes "()[F", true, true)
    ∷ (codes "(" ++ (repeated 255 (codes "I") ++ codes ")V"), true, false)
    ∷ (codes "(" ++ (repeated 256 (codes "I") ++ codes ")V"), false, false)
    ∷ (codes "(" ++ (repeated 127 (codes "J") ++ codes "I)V"), true, false)
    ∷ (codes "(" ++ (repeated 128 (codes "J") ++ codes ")V"), false, false)
    ∷ (codes "(" ++ (repeated 127 (codes "D") ++ codes "I)V"), true, true)
    ∷ (codes "(" ++ (repeated 128 (codes "D") ++ codes ")V"), false, false)
    ∷ (codes "", false, false)
    ∷ (codes "I", false, false)
    ∷ (codes "()", false, false)
    ∷ (codes "()VV", false, false)
    ∷ (codes "(V)V", false, false)
    ∷ (codes "(I", false, false)
    ∷ (codes "(L;)V", false, false)
    ∷ (codes "()L;", false, false)
    ∷ []
