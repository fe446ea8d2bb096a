-- A class in which no pass finds a flaw stands for a value.
use Rattle.std.proofs.Common.{◌≡◌, ℕ, Bool, true, false, cond, ◌&&◌, eqb, List, [], ◌∷◌, ◌++◌, map, Option, Some, None, refl, sym, ap, ◌∙◌}
use Rattle.std.specs.Prelude.{is_some}
use Rattle.std.specs.List.{flat_map, AllByRecursion}
use Rattle.std.specs.Option.{option_map, option_and_then}
use Rattle.th_syntax.specs.declared.cause.TheConstants as cause
use Rattle.th_syntax.specs.declared.flags.TheConstants.{ACC_STATIC}
use Rattle.th_syntax.specs.declared.tag.TheConstants as tag
use Rattle.th_syntax.specs.declared.class_file.ClassFile.{ClassFile}
use Rattle.th_syntax.specs.declared.class_file.Code.{Code}
use Rattle.th_syntax.specs.declared.class_file.Constant.{Constant}
use Rattle.th_syntax.specs.declared.class_file.Member.{Member}
use Rattle.th_syntax.specs.declared.refusal.Flaw.{Flaw}
use Rattle.th_syntax.specs.Flags.{has_flag}
use Rattle.th_syntax.specs.Flaws.{flaw_at, unless}
use Rattle.th_syntax.specs.Forms.{Placed}
use Rattle.th_syntax.specs.ClassBytes.{Pool, Attribute, RawMember, RawClass, RawCode}
use Rattle.th_syntax.specs.PoolChecks.{has_tag, utf8_of, class_of, entry_flaws}
use Rattle.th_syntax.specs.Checks.{index_flaws, super_index_flaws, member_index_flaws, attribute_index_flaws, second_pass, third_pass, constant_values, codes_of, constant_of, again_flaws, constant_flaws_of, constant_flaws, raw_code, raw_code_flaws, method_code_flaws, native_flaws, interface_code_flaws, method_flaws, fourth_pass}
use Rattle.th_syntax.specs.ClassGrammar.{all_there, code_value, code_among, constant_among, constant_of_field, named, field_value, method_value, super_value, interface_values, field_values, method_values, class_file_of}
use Rattle.th_syntax.proofs.Referring.{utf8_there, class_there}

-- ---- lists without elements

both_empty : {A : Type 0} (xs ys : List A) → xs ++ ys ≡ [] → (xs ≡ []) × (ys ≡ [])
both_empty [] ys e = (refl, e)
both_empty (x ∷ xs) ys e = absurd cc

all_empty : {A B : Type 0} (f : A → List B) (xs : List A) → flat_map f xs ≡ [] → AllByRecursion (λ x. f x ≡ []) xs
all_empty f [] e = tt
all_empty f (x ∷ xs) e = let two = both_empty (f x) (flat_map f xs) e in (two.0, all_empty f xs two.1)

unless_empty : {A : Type 0} (test : Bool) (x : A) → unless test x ≡ [] → test ≡ true
unless_empty true x e = refl
unless_empty false x e = absurd cc

-- ---- options that are there

then_there : {A B : Type 0} (f : A → Option B) (o : Option A) → is_some o ≡ true → ((x : A) → is_some (f x) ≡ true) → is_some (option_and_then f o) ≡ true
then_there f None e g = absurd cc
then_there f (Some x) e g = g x

map_there : {A B : Type 0} (f : A → B) (o : Option A) → is_some o ≡ true → is_some (option_map f o) ≡ true
map_there f None e = absurd cc
map_there f (Some x) e = refl

one_more : {B : Type 0} (o : Option B) (others : List (Option B)) → is_some o ≡ true → is_some (all_there others) ≡ true → is_some (all_there (o ∷ others)) ≡ true
one_more None others e f = absurd cc
one_more (Some y) others e f = map_there (λ ys. y ∷ ys) (all_there others) f

list_there : {A B : Type 0} (f : A → Option B) (xs : List A) → AllByRecursion (λ x. is_some (f x) ≡ true) xs → is_some (all_there (map f xs)) ≡ true
list_there f [] all = refl
list_there f (x ∷ xs) all = one_more (f x) (map f xs) all.0 (list_there f xs all.1)

-- what follows from one fact of each element, or from two
each : {A : Type 0} (P Q : A → Type 0) (xs : List A) → ((x : A) → P x → Q x) → AllByRecursion P xs → AllByRecursion Q xs
each P Q [] step all = tt
each P Q (x ∷ xs) step all = (step x all.0, each P Q xs step all.1)

each_of_two : {A : Type 0} (P Q R : A → Type 0) (xs : List A) → ((x : A) → P x → Q x → R x) → AllByRecursion P xs → AllByRecursion Q xs → AllByRecursion R xs
each_of_two P Q R [] step all too = tt
each_of_two P Q R (x ∷ xs) step all too = (step x all.0 too.0, each_of_two P Q R xs step all.1 too.1)

-- ---- indices that lead to what they name

class_at : (pool : Pool) (i : Placed ℕ) → entry_flaws pool ≡ [] → index_flaws pool tag.CLASS i ≡ [] → is_some (class_of pool i.value) ≡ true
class_at pool i none e = class_there pool i.value none ∙ unless_empty (has_tag pool i.value tag.CLASS) (flaw_at cause.POOL i.at) e

text_at : (pool : Pool) (i : Placed ℕ) → index_flaws pool tag.UTF8 i ≡ [] → is_some (utf8_of pool i.value) ≡ true
text_at pool i e = utf8_there pool i.value ∙ unless_empty (has_tag pool i.value tag.UTF8) (flaw_at cause.POOL i.at) e

super_there : (pool : Pool) (i : Placed ℕ) (t : Bool) → entry_flaws pool ≡ [] → cond t [] (index_flaws pool tag.CLASS i) ≡ []
    → is_some (cond t (let none : Option (Option (List ℕ)) = Some None in none) (option_map (λ name. Some name) (class_of pool i.value))) ≡ true
super_there pool i true none e = refl
super_there pool i false none e = map_there (λ name. Some name) (class_of pool i.value) (class_at pool i none e)

-- ---- members

named_there : (pool : Pool) (m : RawMember) (constant : Option Constant) (code : Option Code) → member_index_flaws pool m ≡ [] → is_some (named pool m constant code) ≡ true
named_there pool m constant code e =
    let name = both_empty (index_flaws pool tag.UTF8 m.name) (index_flaws pool tag.UTF8 m.descriptor ++ flat_map (attribute_index_flaws pool) m.attributes) e in
    let descriptor = both_empty (index_flaws pool tag.UTF8 m.descriptor) (flat_map (attribute_index_flaws pool) m.attributes) name.1 in
    then_there _ (utf8_of pool m.name.value) (text_at pool m.name name.0) (λ n. map_there _ (utf8_of pool m.descriptor.value) (text_at pool m.descriptor descriptor.0))

constant_there : (pool : Pool) (f : RawMember) (values : List Attribute) → constant_flaws_of pool f values ≡ [] → is_some (constant_among pool f values) ≡ true
constant_there pool f [] e = refl
constant_there pool f (first ∷ others) e =
    let two = both_empty (unless (is_some (constant_of pool f first)) (flaw_at cause.ATTRIBUTE first.name.at)) (again_flaws others) e in
    map_there (λ constant. Some constant) (constant_of pool f first) (unless_empty (is_some (constant_of pool f first)) (flaw_at cause.ATTRIBUTE first.name.at) two.0)

static_there : (pool : Pool) (f : RawMember) (t : Bool) → cond t (constant_flaws_of pool f (constant_values pool f)) [] ≡ []
    → is_some (cond t (constant_among pool f (constant_values pool f)) (let none : Option (Option Constant) = Some None in none)) ≡ true
static_there pool f true e = constant_there pool f (constant_values pool f) e
static_there pool f false e = refl

field_there : (pool : Pool) (f : RawMember) → member_index_flaws pool f ≡ [] → constant_flaws pool f ≡ [] → is_some (field_value pool f) ≡ true
field_there pool f indices content =
    then_there _ (constant_of_field pool f) (static_there pool f (has_flag f.access.value ACC_STATIC) content) (λ constant. named_there pool f constant None indices)

raw_there : (pool : Pool) (name_at : ℕ) (raw : Option RawCode) → raw_code_flaws pool name_at raw ≡ [] → is_some raw ≡ true
raw_there pool name_at None e = absurd cc
raw_there pool name_at (Some raw) e = refl

code_there : (pool : Pool) (attributes : List Attribute) → method_code_flaws pool attributes ≡ [] → is_some (code_among pool attributes) ≡ true
code_there pool [] e = refl
code_there pool (first ∷ others) e =
    let two = both_empty (raw_code_flaws pool first.name.at (raw_code first)) (again_flaws others) e in
    map_there (λ raw. Some (code_value pool raw)) (raw_code first) (raw_there pool first.name.at (raw_code first) two.0)

method_there : (c : RawClass) (m : RawMember) → member_index_flaws c.pool m ≡ [] → method_flaws c m ≡ [] → is_some (method_value c.pool m) ≡ true
method_there c m indices content =
    let native = both_empty (native_flaws m) (interface_code_flaws c m ++ method_code_flaws c.pool (codes_of c.pool m)) content in
    let interface = both_empty (interface_code_flaws c m) (method_code_flaws c.pool (codes_of c.pool m)) native.1 in
    then_there _ (code_among c.pool (codes_of c.pool m)) (code_there c.pool (codes_of c.pool m) interface.1) (λ code. named_there c.pool m None code indices)

-- ---- the class

class_value : (c : RawClass) → second_pass c ≡ [] → fourth_pass c ≡ [] → is_some (class_file_of c) ≡ true
unfolding second_pass fourth_pass class_file_of
class_value c indices content =
    let methods_too : List Flaw = flat_map (member_index_flaws c.pool) c.methods ++ flat_map (attribute_index_flaws c.pool) c.attributes in
    let fields_too : List Flaw = flat_map (member_index_flaws c.pool) c.fields ++ methods_too in
    let interfaces_too : List Flaw = flat_map (index_flaws c.pool tag.CLASS) c.interfaces ++ fields_too in
    let super_too : List Flaw = super_index_flaws c ++ interfaces_too in
    let entries = both_empty (entry_flaws c.pool) (index_flaws c.pool tag.CLASS c.this_class ++ super_too) indices in
    let this_one = both_empty (index_flaws c.pool tag.CLASS c.this_class) super_too entries.1 in
    let super_one = both_empty (super_index_flaws c) interfaces_too this_one.1 in
    let interfaces = both_empty (flat_map (index_flaws c.pool tag.CLASS) c.interfaces) fields_too super_one.1 in
    let fields = both_empty (flat_map (member_index_flaws c.pool) c.fields) methods_too interfaces.1 in
    let methods = both_empty (flat_map (member_index_flaws c.pool) c.methods) (flat_map (attribute_index_flaws c.pool) c.attributes) fields.1 in
    let held = both_empty (flat_map (constant_flaws c.pool) c.fields) (flat_map (method_flaws c) c.methods) content in
    then_there _ (class_of c.pool c.this_class.value) (class_at c.pool c.this_class entries.0 this_one.0) (λ name.
    then_there _ (super_value c) (super_there c.pool c.super_class (eqb c.super_class.value 0) entries.0 super_one.0) (λ super_name.
    then_there _ (interface_values c)
    (list_there (λ (i : Placed ℕ). class_of c.pool i.value) c.interfaces
    (each (λ i. index_flaws c.pool tag.CLASS i ≡ []) (λ i. is_some (class_of c.pool i.value) ≡ true) c.interfaces (λ i. class_at c.pool i entries.0) (all_empty (index_flaws c.pool tag.CLASS) c.interfaces interfaces.0))) (λ names.
    then_there _ (field_values c)
    (list_there (field_value c.pool) c.fields
    (each_of_two (λ f. member_index_flaws c.pool f ≡ []) (λ f. constant_flaws c.pool f ≡ []) (λ f. is_some (field_value c.pool f) ≡ true) c.fields (field_there c.pool)
    (all_empty (member_index_flaws c.pool) c.fields fields.0) (all_empty (constant_flaws c.pool) c.fields held.0))) (λ field_list.
    map_there _ (method_values c)
    (list_there (method_value c.pool) c.methods
    (each_of_two (λ m. member_index_flaws c.pool m ≡ []) (λ m. method_flaws c m ≡ []) (λ m. is_some (method_value c.pool m) ≡ true) c.methods (method_there c)
    (all_empty (member_index_flaws c.pool) c.methods methods.0) (all_empty (method_flaws c) c.methods held.1)))))))

not_there : {A : Type 0} (o : Option A) → is_some o ≡ true → o ≡ None → ⊥
not_there None e none = absurd cc
not_there (Some x) e none = absurd cc

pub complete : (c : RawClass) → second_pass c ≡ [] → third_pass c ≡ [] → fourth_pass c ≡ [] → class_file_of c ≡ None → ⊥
complete c indices names content none = not_there (class_file_of c) (class_value c indices content) none
