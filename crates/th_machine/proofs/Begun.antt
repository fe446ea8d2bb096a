-- The parts of the initial state, made one after the other.
use Rattle.std.proofs.Common.{◌≡◌, suc, ◌+◌, ◌<◌, false, ℕ, List, [], ◌∷◌, ◌++◌, length, take, get_or, map, refl, sym, ap, ◌∙◌, arith}
use Rattle.std.specs.Prelude.{replicate, sum_by}
use Rattle.std.proofs.lemmas.List.{append-nil, map-append, take_more}
use Rattle.std.proofs.lemmas.List.Concat.{flat_map-append}
use Rattle.th_base.specs.declared.built_in.TheConstants.{STRING_NUMBER}
use Rattle.th_syntax.specs.declared.machine.Frame.{Frame}
use Rattle.th_syntax.specs.declared.machine.Launched.{Launched}
use Rattle.th_syntax.specs.declared.machine.Object.{Object}
use Rattle.th_syntax.specs.declared.machine.State.{State}
use Rattle.th_syntax.specs.Held.{object_size, frame_size, values_held}
use Rattle.th_syntax.specs.Strings.{string_constants}
use Rattle.th_syntax.specs.declared.class_file.ClassFile.{ClassFile}
use Rattle.th_syntax.specs.declared.class_file.Member.{Member}
use Rattle.th_syntax.specs.declared.machine.Value.{Value}
use Rattle.th_syntax.specs.declared.machine.Mark.{Mark}
use Rattle.th_syntax.specs.declared.machine.Mark.TheVariants.{Done, Untouched}
use Rattle.th_syntax.specs.Initial.{default_value, initial, new_object}
use Rattle.th_syntax.specs.Program.{Owned, owned_from, fields_of}
use Rattle.th_machine.specs.Beginning.{first_statics, values_of_fields}

abbrev first_of_owned : Owned → Value
first_of_owned o = default_value o.member.descriptor

own_values : (owner : ℕ) (ms : List Member) → map first_of_owned (map (λ m. record { owner = owner; member = m }) ms) ≡ values_of_fields ms
own_values owner [] = refl
own_values owner (m ∷ ms) = ap (λ vs. default_value m.descriptor ∷ vs) (own_values owner ms)

statics_from : (k : ℕ) (files : List ClassFile) → map first_of_owned (owned_from (λ f. f.fields) k files) ≡ first_statics files
statics_from k [] = refl
statics_from k (f ∷ fs) =
    map-append first_of_owned (map (λ m. record { owner = k; member = m }) f.fields) (owned_from (λ g. g.fields) (k + 1) fs)
    ∙ ap (λ vs. vs ++ map first_of_owned (owned_from (λ g. g.fields) (k + 1) fs)) (own_values k f.fields)
    ∙ ap (λ vs. values_of_fields f.fields ++ vs) (statics_from (k + 1) fs)

pub statics_begin : (files : List ClassFile) → first_statics files ≡ map (λ (f : Owned). default_value f.member.descriptor) (fields_of files)
statics_begin files = sym (statics_from 11 files)

pub all_the_same : {X Y : Type 0} (y : Y) (xs : List X) → replicate (length xs) y ≡ map (λ x. y) xs
all_the_same y [] = refl
all_the_same y (x ∷ xs) = ap (λ ys. y ∷ ys) (all_the_same y xs)

pub as_many : {X Y : Type 0} (f : X → Y) (xs : List X) → length (map f xs) ≡ length xs
as_many f [] = refl
as_many f (x ∷ xs) = ap suc (as_many f xs)

-- the values of one class's fields more
pub statics_more : (files : List ClassFile) (i : ℕ) (f : ClassFile) (members : List Member) (now next : List Value) → i < length files → f ≡ get_or files i f → members ≡ f.fields
    → now ≡ first_statics (take i files) → next ≡ now ++ values_of_fields members → next ≡ first_statics (take (i + 1) files)
statics_more files i f members now next within here all so_far grown =
    let more : first_statics (take (i + 1) files) ≡ first_statics (take i files) ++ values_of_fields f.fields =
    ap first_statics (take_more files i f within ∙ ap (λ g. take i files ++ g ∷ []) (sym here))
    ∙ flat_map-append (λ g. values_of_fields g.fields) (take i files) (f ∷ [])
    ∙ ap (λ vs. first_statics (take i files) ++ vs) (append-nil (values_of_fields f.fields)) in
    grown ∙ ap (λ ms. now ++ values_of_fields ms) all ∙ ap (λ vs. vs ++ values_of_fields f.fields) so_far ∙ sym more

-- the parts of the initial state
pub begins : (files : List ClassFile) (heap : List Object) (statics : List Value) (marks : List Mark) (frames : List Frame) (launched : List Launched)
    → frames ≡ [] → launched ≡ [] → heap ≡ replicate (length (string_constants files)) (new_object files STRING_NUMBER) → statics ≡ first_statics files
    → marks ≡ replicate 11 Done ++ replicate (length files) Untouched
    → record { heap = heap; statics = statics; marks = marks; frames = frames; launched = launched; ended = false } ≡ initial files
begins files heap statics marks frames launched idle none heaped first marked =
    let of : List Object → List Value → List Mark → State = λ h v m. record { heap = h; statics = v; marks = m; frames = []; launched = []; ended = false } in
    ap (λ (fs : List Frame). record { heap = heap; statics = statics; marks = marks; frames = fs; launched = launched; ended = false }) idle
    ∙ ap (λ (ls : List Launched). record { heap = heap; statics = statics; marks = marks; frames = []; launched = ls; ended = false }) none
    ∙ ap (λ h. of h statics marks) (heaped ∙ all_the_same (new_object files STRING_NUMBER) (string_constants files))
    ∙ ap (λ v. of (map (λ text. new_object files STRING_NUMBER) (string_constants files)) v marks) (first ∙ statics_begin files)
    ∙ ap (λ m. of (map (λ text. new_object files STRING_NUMBER) (string_constants files)) (map (λ (f : Owned). default_value f.member.descriptor) (fields_of files)) m)
    (marked ∙ ap (λ ms. replicate 11 Done ++ ms) (all_the_same Untouched files))

-- each field has a value in it
pub begins_sized : (files : List ClassFile) (s : State) → s ≡ initial files → length s.statics ≡ length (fields_of files)
begins_sized files s is = ap (λ (t : State). length t.statics) is ∙ as_many (λ (f : Owned). default_value f.member.descriptor) (fields_of files)

-- and no frame is there
pub begins_held : (files : List ClassFile) (s : State) (held : ℕ) → s ≡ initial files → held ≡ sum_by object_size s.heap → held ≡ values_held files s
begins_held files s held is counted =
    let none : s.frames ≡ [] = ap (λ (t : State). t.frames) is in
    let plain : sum_by object_size s.heap ≡ sum_by object_size s.heap + 0 = omega arith in
    counted ∙ plain ∙ ap (λ (fs : List Frame). sum_by object_size s.heap + sum_by (frame_size files) fs) (sym none)
