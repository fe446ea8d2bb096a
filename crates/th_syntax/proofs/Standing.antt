-- What a reachable instruction of linked class files names stands in the program.
use Rattle.std.proofs.Common.{◌≡◌, ℕ, suc, ◌+◌, ◌==◌, Bool, true, false, cond, List, [], ◌∷◌, ◌++◌, map, Option, None, Some, refl, sym, ap, ◌∙◌, arith}
use Rattle.std.specs.Prelude.{slice_get, filter, is_some, if◌then◌else◌}
use Rattle.std.specs.List.{AllByRecursion, flat_map, list_all, position_from}
use Rattle.std.specs.Option.{option_and_then, option_map_or}
use Rattle.std.specs.Str.{bytes_eq}
use Rattle.th_base.specs.Hierarchy.{resolved_field, resolved_method}
use Rattle.th_base.specs.IdSet.{has}
use Rattle.th_syntax.specs.declared.class_file.ClassFile.{ClassFile}
use Rattle.th_syntax.specs.declared.class_file.Member.{Member}
use Rattle.th_syntax.specs.declared.class_file.Code.{Code}
use Rattle.th_syntax.specs.declared.instr.Instr.{Instr}
use Rattle.th_syntax.specs.declared.instr.MemberRef.{MemberRef}
use Rattle.th_syntax.specs.Arrays.{begins_array}
use Rattle.th_syntax.specs.Facts.{IsReachedInstr}
use Rattle.th_syntax.specs.Flags.{is_interface}
use Rattle.th_syntax.specs.Flaws.{unless}
use Rattle.th_syntax.specs.Flow.{placed_at, instr_in, IsReached, reached_offsets, reached_code}
use Rattle.th_syntax.specs.LinkChecks.{Use, nothing, class_use, field_use, method_use, use_of, Fault, class_faults, type_faults, agrees, field_faults_in, method_faults_in, owner_faults, use_faults, instr_refusals, code_refusals}
use Rattle.th_syntax.specs.Linking.{IsLinked, IsClassThere, IsFieldFound, IsMethodFound, Stands}
use Rattle.th_syntax.specs.Program.{built_in_classes, all_classes, Owned, owned_from, methods_of, hierarchy_of, number_named}
use Rattle.th_syntax.proofs.Inverting.{both, and_then_some, some_is, all_append, all_at}
use Rattle.th_syntax.proofs.Visiting.{found_from_path, placed_of}

-- ---- lists that are empty

pub nil_left : {A : Type 0} (xs ys : List A) → xs ++ ys ≡ [] → xs ≡ []
nil_left [] ys e = refl
nil_left (x ∷ xs) ys e = absurd cc

pub nil_right : {A : Type 0} (xs ys : List A) → xs ++ ys ≡ [] → ys ≡ []
nil_right [] ys e = e
nil_right (x ∷ xs) ys e = absurd cc

map_nil : {A B : Type 0} (f : A → B) (xs : List A) → map f xs ≡ [] → xs ≡ []
map_nil f [] e = refl
map_nil f (x ∷ xs) e = absurd cc

pub unless_nil : {A : Type 0} (b : Bool) (x : A) → unless b x ≡ [] → b ≡ true
unless_nil true x e = refl
unless_nil false x e = absurd cc

some_found : {A B : Type 0} (f : A → List B) (o : Option A) (x : B) → option_map_or f o (x ∷ []) ≡ [] → (a : A) × (o ≡ Some a) × (f a ≡ [])
some_found f None x e = absurd cc
some_found f (Some a) x e = (a, refl, e)

some_of : {A : Type 0} (o : Option A) → is_some o ≡ true → (a : A) × (o ≡ Some a)
some_of None e = absurd cc
some_of (Some a) e = (a, refl)

agreed : (wanted is : Bool) → agrees wanted is ≡ true → is ≡ wanted
agreed true is e = e
agreed false true e = absurd cc
agreed false false e = refl

-- ---- a use without faults stands

class_there : (files : List ClassFile) (name : List ℕ) → class_faults files name ≡ [] → IsClassThere files name
class_there files name e =
    let found = some_of (number_named files name) (unless_nil (is_some (number_named files name)) _ e) in
    record { number = found.0; named = found.1 }

field_stands : (files : List ClassFile) (static_one : Bool) (r : MemberRef) → use_faults files (field_use static_one r) ≡ [] → IsFieldFound files static_one r
field_stands files static_one r e =
    let owner = some_found (field_faults_in files static_one r) (number_named files r.owner) _ e in
    let field = some_found _ (resolved_field (hierarchy_of files) owner.0 r.name r.descriptor) _ owner.2 in
    record {
      found = field.0;
      resolved = ap (option_and_then (λ c. resolved_field (hierarchy_of files) c r.name r.descriptor)) owner.1 ∙ field.1;
      static_or_not = agreed static_one field.0.1.is_static (unless_nil _ _ field.2);
    }

-- a number that a name has is that of a class
class_at_by : (p : ClassFile → Bool) (n k : ℕ) (c : ClassFile) (cs : List ClassFile) (b : Bool) → cond b (Some n) (position_from p (n + 1) cs) ≡ Some k → (position_from p (n + 1) cs ≡ Some k → (j : ℕ) × (k ≡ (n + 1) + j) × (d : ClassFile) × (slice_get cs j ≡ Some d))
    → (j : ℕ) × (k ≡ n + j) × (d : ClassFile) × (slice_get (c ∷ cs) j ≡ Some d)
class_at_by p n k c cs true e rest = (0, (let same : n ≡ k = some_is n k e in omega arith), c, refl)
class_at_by p n k c cs false e rest = let found = rest e in (suc found.0, (let same = found.1 in omega (arith, same)), found.2, found.3)

class_at : (p : ClassFile → Bool) (n k : ℕ) (cs : List ClassFile) → position_from p n cs ≡ Some k → (j : ℕ) × (k ≡ n + j) × (c : ClassFile) × (slice_get cs j ≡ Some c)
class_at p n k [] e = absurd cc
class_at p n k (c ∷ cs) e = class_at_by p n k c cs (p c) e (class_at p (n + 1) k cs)

pub class_numbered : (files : List ClassFile) (name : List ℕ) (k : ℕ) → number_named files name ≡ Some k → (c : ClassFile) × (slice_get (all_classes files) k ≡ Some c)
class_numbered files name k e =
    let found = class_at (λ c. bytes_eq c.name name) 0 k (all_classes files) e in
    let same : found.0 ≡ k = let level = found.1 in omega (arith, level) in
    (found.2, ap (slice_get (all_classes files)) (sym same) ∙ found.3)

interface_of : (o : Option ClassFile) (c : ClassFile) (wanted : Bool) → o ≡ Some c → agrees wanted (option_map_or is_interface o false) ≡ true → is_interface c ≡ wanted
interface_of o c wanted is e = agreed wanted (is_interface c) (ap (λ (x : Option ClassFile). agrees wanted (option_map_or is_interface x false)) (sym is) ∙ e)

method_in_class : (files : List ClassFile) (static_one of_interface : Bool) (r : MemberRef) → owner_faults files r.owner (method_faults_in files static_one of_interface r) ≡ [] → IsMethodFound files static_one of_interface r
method_in_class files static_one of_interface r e =
    let owner = some_found (method_faults_in files static_one of_interface r) (number_named files r.owner) _ e in
    let method = some_found _ (resolved_method (hierarchy_of files) owner.0 r.name r.descriptor) _ owner.2 in
    let class = class_numbered files r.owner owner.0 owner.1 in
    let tests = both (agrees static_one method.0.1.is_static) _ (unless_nil _ _ method.2) in
    record {
      owner = owner.0;
      owner_named = owner.1;
      class = class.0;
      owner_stands = class.1;
      interface_or_not = interface_of (slice_get (all_classes files) owner.0) class.0 of_interface class.1 tests.1;
      found = method.0;
      resolved = method.1;
      static_or_not = agreed static_one method.0.1.is_static tests.0;
    }

method_stands : (files : List ClassFile) (static_one of_interface : Bool) (r : MemberRef) (b : Bool) (x : Fault)
    → (if b then type_faults files r.owner ++ x ∷ [] else owner_faults files r.owner (method_faults_in files static_one of_interface r)) ≡ []
    → IsMethodFound files static_one of_interface r
method_stands files static_one of_interface r true x e = absurd (let none = nil_right (type_faults files r.owner) (x ∷ []) e in cc)
method_stands files static_one of_interface r false x e = method_in_class files static_one of_interface r e

faultless_stands : (files : List ClassFile) (u : Use) → use_faults files u ≡ [] → Stands files u
faultless_stands files nothing e = tt
faultless_stands files (class_use name) e = λ class is. class_there files class (ap (λ (o : Option (List ℕ)). option_map_or (class_faults files) o []) (sym is) ∙ e)
faultless_stands files (field_use static_one r) e = field_stands files static_one r e
faultless_stands files (method_use static_one of_interface r) e = method_stands files static_one of_interface r (begins_array r.owner) _ e

-- ---- each reached instruction has no faults

here_or_on : {B : Type 0} (f : ℕ × Instr → List B) (p : ℕ × Instr → Bool) (offset : ℕ) (x j : ℕ × Instr) (xs : List (ℕ × Instr)) (b c : Bool) → p x ≡ c
    → flat_map f (cond c (x ∷ filter p xs) (filter p xs)) ≡ [] → cond b (Some x) (placed_at xs offset) ≡ Some j → p j ≡ true
    → (flat_map f (filter p xs) ≡ [] → placed_at xs offset ≡ Some j → f j ≡ []) → f j ≡ []
here_or_on f p offset x j xs true true is e h t rest = ap f (sym (some_is x j h)) ∙ nil_left (f x) (flat_map f (filter p xs)) e
here_or_on f p offset x j xs true false is e h t rest = absurd (let other : p x ≡ true = ap p (some_is x j h) ∙ t in cc)
here_or_on f p offset x j xs false true is e h t rest = rest (nil_right (f x) (flat_map f (filter p xs)) e) h
here_or_on f p offset x j xs false false is e h t rest = rest e h

kept_empty : {B : Type 0} (f : ℕ × Instr → List B) (p : ℕ × Instr → Bool) (offset : ℕ) (xs : List (ℕ × Instr)) (j : ℕ × Instr) → flat_map f (filter p xs) ≡ [] → placed_at xs offset ≡ Some j → p j ≡ true → f j ≡ []
kept_empty f p offset [] j e h t = absurd cc
kept_empty f p offset (x ∷ xs) j e h t =
    here_or_on f p offset x j xs (x.0 == offset) (p x) refl e h t (λ more next. kept_empty f p offset xs j more next t)

-- what the code of a method names stands wherever a path leads
abbrev CodeStands : List ClassFile → Member → Type 0
CodeStands files m = (code : Code) (offset : ℕ) (i : Instr) → m.code ≡ Some code → instr_in code.instrs offset ≡ Some i → IsReached code.instrs offset → Stands files (use_of i)

code_stands : (files : List ClassFile) (c : ClassFile) (m : Member) → code_refusals files c m ≡ [] → CodeStands files m
code_stands files c m e code offset i is stands reached =
    let refused : flat_map (instr_refusals files c) (reached_code code.instrs) ≡ [] =
    ap (λ (o : Option Code). option_map_or (λ k. flat_map (instr_refusals files c) (reached_code k.instrs)) o []) (sym is) ∙ e in
    let none = kept_empty (instr_refusals files c) (λ x. has (reached_offsets code.instrs) x.0) offset code.instrs (offset, i) refused (placed_of code.instrs offset i stands) (found_from_path code.instrs offset reached) in
    faultless_stands files (use_of i) (map_nil _ (use_faults files (use_of i)) none)

methods_stand : (files : List ClassFile) (c : ClassFile) (ms : List Member) → flat_map (code_refusals files c) ms ≡ [] → AllByRecursion (CodeStands files) ms
methods_stand files c [] e = tt
methods_stand files c (m ∷ ms) e =
    (code_stands files c m (nil_left (code_refusals files c m) (flat_map (code_refusals files c) ms) e), methods_stand files c ms (nil_right (code_refusals files c m) (flat_map (code_refusals files c) ms) e))

abbrev AllStand : List ClassFile → ClassFile → Type 0
AllStand files c = AllByRecursion (CodeStands files) c.methods

classes_stand : (files cs : List ClassFile) → flat_map (λ c. flat_map (code_refusals files c) c.methods) cs ≡ [] → AllByRecursion (AllStand files) cs
classes_stand files [] e = tt
classes_stand files (c ∷ cs) e =
    let here = nil_left (flat_map (code_refusals files c) c.methods) (flat_map (λ d. flat_map (code_refusals files d) d.methods) cs) e in
    let rest = nil_right (flat_map (code_refusals files c) c.methods) (flat_map (λ d. flat_map (code_refusals files d) d.methods) cs) e in
    (methods_stand files c c.methods here, classes_stand files cs rest)

-- ---- the built-in classes name nothing

abbrev is_nothing : Use → Bool
is_nothing nothing = true
is_nothing (class_use name) = false
is_nothing (field_use static_one r) = false
is_nothing (method_use static_one of_interface r) = false

abbrev names_nothing : Member → Bool
names_nothing m = option_map_or (λ code. list_all (λ i. is_nothing (use_of i.1)) code.instrs) m.code true

nothing_stands : (files : List ClassFile) (u : Use) → is_nothing u ≡ true → Stands files u
nothing_stands files nothing e = tt
nothing_stands files (class_use name) e = absurd cc
nothing_stands files (field_use static_one r) e = absurd cc
nothing_stands files (method_use static_one of_interface r) e = absurd cc

placed_by : (p : ℕ × Instr → Bool) (x j : ℕ × Instr) (found : Option (ℕ × Instr)) (b : Bool) → p x ≡ true → cond b (Some x) found ≡ Some j → (found ≡ Some j → p j ≡ true) → p j ≡ true
placed_by p x j found true here e rest = ap p (sym (some_is x j e)) ∙ here
placed_by p x j found false here e rest = rest e

placed_passes : (p : ℕ × Instr → Bool) (offset : ℕ) (xs : List (ℕ × Instr)) (j : ℕ × Instr) → list_all p xs ≡ true → placed_at xs offset ≡ Some j → p j ≡ true
placed_passes p offset [] j e h = absurd cc
placed_passes p offset (x ∷ xs) j e h =
    let parts = both (p x) (list_all p xs) e in placed_by p x j (placed_at xs offset) (x.0 == offset) parts.0 h (placed_passes p offset xs j parts.1)

silent_stands : (files : List ClassFile) (m : Member) → names_nothing m ≡ true → CodeStands files m
silent_stands files m e code offset i is stands reached =
    let silent : list_all (λ (x : ℕ × Instr). is_nothing (use_of x.1)) code.instrs ≡ true =
    ap (λ (o : Option Code). option_map_or (λ k. list_all (λ (x : ℕ × Instr). is_nothing (use_of x.1)) k.instrs) o true) (sym is) ∙ e in
    nothing_stands files (use_of i) (placed_passes (λ x. is_nothing (use_of x.1)) offset code.instrs (offset, i) silent (placed_of code.instrs offset i stands))

silent_methods : (files : List ClassFile) (ms : List Member) → list_all names_nothing ms ≡ true → AllByRecursion (CodeStands files) ms
silent_methods files [] e = tt
silent_methods files (m ∷ ms) e = let parts = both (names_nothing m) (list_all names_nothing ms) e in (silent_stands files m parts.0, silent_methods files ms parts.1)

silent_classes : (files cs : List ClassFile) → list_all (λ c. list_all names_nothing c.methods) cs ≡ true → AllByRecursion (AllStand files) cs
silent_classes files [] e = tt
silent_classes files (c ∷ cs) e =
    let parts = both (list_all names_nothing c.methods) (list_all (λ d. list_all names_nothing d.methods) cs) e in
    (silent_methods files c.methods parts.0, silent_classes files cs parts.1)

-- ---- all methods of a program

owned_methods : (files : List ClassFile) (n : ℕ) (ms : List Member) → AllByRecursion (CodeStands files) ms → AllByRecursion (λ (o : Owned). CodeStands files o.member) (map (λ m. record { owner = n; member = m }) ms)
owned_methods files n [] all = tt
owned_methods files n (m ∷ ms) all = (all.0, owned_methods files n ms all.1)

owned_stand : (files : List ClassFile) (n : ℕ) (cs : List ClassFile) → AllByRecursion (AllStand files) cs → AllByRecursion (λ (o : Owned). CodeStands files o.member) (owned_from (λ c. c.methods) n cs)
owned_stand files n [] all = tt
owned_stand files n (c ∷ cs) all =
    all_append (λ (o : Owned). CodeStands files o.member) (map (λ m. record { owner = n; member = m }) c.methods) (owned_from (λ d. d.methods) (n + 1) cs)
    (owned_methods files n c.methods all.0) (owned_stand files (n + 1) cs all.1)

pub named_stands : (files : List ClassFile) (i : Instr) → IsLinked files → IsReachedInstr files i → Stands files (use_of i)
named_stands files i linked at =
    let path = at.reached in
    let method = and_then_some (λ (m : Owned). m.member.code) (slice_get (methods_of files) at.method) path.code path.is_code in
    let stands : instr_in path.code.instrs at.offset ≡ Some i =
    ap (option_and_then (λ (k : Code). instr_in k.instrs at.offset)) (sym path.is_code) ∙ at.stands in
    let all = owned_stand files 0 (all_classes files)
    (all_append (AllStand files) built_in_classes files (silent_classes files built_in_classes refl) (classes_stand files files linked.uses)) in
    all_at (λ (o : Owned). CodeStands files o.member) (methods_of files) at.method method.0 all method.1 path.code at.offset i method.2 stands path.reached
