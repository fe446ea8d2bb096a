-- A class file has no more fields, and no more methods, than a count of two bytes can say.
use Rattle.std.proofs.Common.{◌≡◌, ℕ, zero, suc, ◌+◌, ◌*◌, ◌<◌, ◌&&◌, nat_lt, Bool, true, false, List, [], ◌∷◌, ◌++◌, length, map, Option, Some, None, refl, ap, sym, ◌∙◌, arith, subst}
use Rattle.std.specs.Prelude.{⊤, option_map}
use Rattle.std.specs.Option.{option_and_then}
use Rattle.std.specs.List.{concat, AllByRecursion}
use Rattle.std.proofs.lemmas.List.{append-nil}
use Rattle.std.proofs.lemmas.List.Folds.{list_all-append}
use Rattle.th_syntax.specs.declared.class_file.ClassFile.{ClassFile}
use Rattle.th_syntax.specs.declared.class_file.Member.{Member}
use Rattle.th_syntax.specs.Forms.{Form, whole, item, wrong, ◌>>=◌, Placed, Begins, number_of}
use Rattle.th_syntax.specs.ClassBytes.{number, u2, times, counted, member, attribute, pool, RawMember, RawClass, class_file, magic}
use Rattle.th_syntax.specs.PoolChecks.{class_of}
use Rattle.th_syntax.specs.ClassGrammar.{all_there, IsClassFile, are_bytes, class_file_of, super_value, interface_values, field_value, method_value, field_values, method_values}

-- each item is of bytes
abbrev AreBytes : List (List ℕ) → Type 0
AreBytes items = AllByRecursion (λ (i : List ℕ). are_bytes i ≡ true) items

-- what stands by a form is so
abbrev Gives : {A : Type 0} → (A → Type 0) → Form A → ℕ → Type 0
Gives {A = A} P form at = (items : List (List ℕ)) (x : A) → Begins form at items (whole x) → AreBytes items → P x

whole_is : {A : Type 0} (x y : A) → whole x ≡ whole y → x ≡ y
whole_is x y e = cc

not_item : {A : Type 0} (n : ℕ) (next : ℕ → List ℕ → Form A) (y : A) → item n next ≡ whole y → ⊥
not_item n next y e = cc

not_wrong : {A : Type 0} (place number : ℕ) (y : A) → wrong place number ≡ whole y → ⊥
not_wrong place number y e = cc

gives_then : {A B : Type 0} {P : A → Type 0} {Q : B → Type 0} (form : Form A) (f : A → Form B) (at : ℕ) → Gives P form at → ((x : A) (behind : ℕ) → P x → Gives Q (f x) behind) → Gives Q (form >>= f) at
unfolding ◌>>=◌
gives_then (whole x) f at first next items y is bytes = next x at (first [] x refl tt) items y is bytes
gives_then (wrong place number) f at first next [] y is bytes = absurd (not_wrong place number y is)
gives_then (wrong place number) f at first next (i ∷ items) y is bytes = absurd is
gives_then (item n more) f at first next [] y is bytes = absurd (not_item n _ y is)
gives_then {Q = Q} (item n more) f at first next (i ∷ items) y is bytes =
    gives_then {Q = Q} (more at i) f (at + n) (λ others x begins all. first (i ∷ others) x (is.0, begins) (bytes.0, all)) next items y is.1 bytes.1

any : {A : Type 0} (form : Form A) (at : ℕ) → Gives (λ (x : A). ⊤) form at
any form at items x is bytes = tt

gives_whole : {A : Type 0} (P : A → Type 0) (x : A) (at : ℕ) → P x → Gives P (whole x) at
gives_whole P x at holds [] y is bytes = subst P (whole_is x y is) holds
gives_whole P x at holds (i ∷ items) y is bytes = absurd is

-- ---- a count of two bytes

two_and : (a b : Bool) → (a && b) ≡ true → (a ≡ true) × (b ≡ true)
two_and true b e = (refl, e)
two_and false b e = absurd cc

below : (a n : ℕ) → nat_lt a n ≡ true → a < n
below a n e = search arith

small_number : (bytes : List ℕ) → length bytes ≡ 2 → are_bytes bytes ≡ true → number_of bytes < 65536
small_number [] len all = absurd (let h : 0 ≡ 2 = len in cc)
small_number (a ∷ []) len all = absurd (let h : 1 ≡ 2 = len in cc)
small_number (a ∷ b ∷ []) len all =
    let first = two_and (nat_lt a 256) _ all in
    let second = two_and (nat_lt b 256) _ first.1 in
    let low : a < 256 = below a 256 first.0 in
    let high : b < 256 = below b 256 second.0 in
    let h : a * 256 + (b * 1 + 0) < 65536 = omega arith in h
small_number (a ∷ b ∷ c ∷ more) len all = absurd (let h : ⊥ = omega (arith, len) in h)

small_count : (at : ℕ) → Gives (λ (p : Placed ℕ). p.value < 65536) u2 at
unfolding number
small_count at [] x is bytes = absurd (not_item 2 _ x is)
small_count at (i ∷ []) x is bytes = subst (λ (p : Placed ℕ). p.value < 65536) (whole_is _ x is.1) (small_number i is.0 bytes.0)
small_count at (i ∷ j ∷ items) x is bytes = absurd is.1

so_many : {A : Type 0} (n : ℕ) (form : Form A) (at : ℕ) → Gives (λ (xs : List A). length xs ≡ n) (times n form) at
unfolding times
so_many zero form at = gives_whole (λ (xs : List _). length xs ≡ 0) [] at refl
so_many {A = A} (suc n) form at =
    gives_then {P = λ (x : A). ⊤} {Q = λ (xs : List A). length xs ≡ suc n} form _ at (any form at) (λ x behind _.
    gives_then {P = λ (xs : List A). length xs ≡ n} {Q = λ (xs : List A). length xs ≡ suc n} (times n form) _ behind (so_many n form behind) (λ xs after len.
    gives_whole (λ (ys : List A). length ys ≡ suc n) (x ∷ xs) after (ap (λ k. suc k) len)))

few_counted : {A : Type 0} (form : Form A) (at : ℕ) → Gives (λ (xs : List A). length xs < 65536) (counted form) at
unfolding counted
few_counted {A = A} form at =
    gives_then {P = λ (p : Placed ℕ). p.value < 65536} {Q = λ (xs : List A). length xs < 65536} u2 _ at (small_count at) (λ count behind small items xs is bytes.
    let len = so_many count.value form behind items xs is bytes in subst (λ (n : ℕ). n < 65536) (sym len) small)

pub record HasFew (c : RawClass) : Type 0 where
  pub fields : length c.fields < 65536
  pub methods : length c.methods < 65536

few_members : (at : ℕ) → Gives HasFew class_file at
unfolding class_file
few_members at =
    gives_then {P = λ _. ⊤} {Q = HasFew} u2 _ at (any u2 at) (λ minor at1 _.
    gives_then {P = λ _. ⊤} {Q = HasFew} u2 _ at1 (any u2 at1) (λ major at2 _.
    gives_then {P = λ _. ⊤} {Q = HasFew} _ _ at2 (any _ at2) (λ known at3 _.
    gives_then {P = λ _. ⊤} {Q = HasFew} pool _ at3 (any pool at3) (λ entries at4 _.
    gives_then {P = λ _. ⊤} {Q = HasFew} u2 _ at4 (any u2 at4) (λ access at5 _.
    gives_then {P = λ _. ⊤} {Q = HasFew} u2 _ at5 (any u2 at5) (λ this_class at6 _.
    gives_then {P = λ _. ⊤} {Q = HasFew} u2 _ at6 (any u2 at6) (λ super_class at7 _.
    gives_then {P = λ _. ⊤} {Q = HasFew} (counted u2) _ at7 (any (counted u2) at7) (λ interfaces at8 _.
    gives_then {P = λ (xs : List RawMember). length xs < 65536} {Q = HasFew} (counted member) _ at8 (few_counted member at8) (λ fields at9 some.
    gives_then {P = λ (xs : List RawMember). length xs < 65536} {Q = HasFew} (counted member) _ at9 (few_counted member at9) (λ methods at10 other.
    gives_then {P = λ _. ⊤} {Q = HasFew} (counted attribute) _ at10 (any (counted attribute) at10) (λ attributes at11 _.
    gives_whole HasFew _ at11 (record { fields = some; methods = other }))))))))))))

-- ---- the value has as many members as the items

map_is : {A B : Type 0} (f : A → B) (o : Option A) (y : B) → option_map f o ≡ Some y → (x : A) × (o ≡ Some x) × (f x ≡ y)
map_is f None y e = absurd cc
map_is f (Some x) y e = (x, refl, cc)

one_count : {A B : Type 0} (f : A → Option B) (xs : List A) (o : Option B) (ys : List B) → all_there (o ∷ map f xs) ≡ Some ys → ((zs : List B) → all_there (map f xs) ≡ Some zs → length zs ≡ length xs) → length ys ≡ suc (length xs)
one_count f xs None ys e more = absurd cc
one_count f xs (Some y) ys e more =
    let rest = map_is (λ (zs : List _). y ∷ zs) (all_there (map f xs)) ys e in
    ap length (sym rest.2) ∙ ap (λ k. suc k) (more rest.0 rest.1)

all_count : {A B : Type 0} (f : A → Option B) (xs : List A) (ys : List B) → all_there (map f xs) ≡ Some ys → length ys ≡ length xs
all_count f [] ys e = let h : [] ≡ ys = cc in ap length (sym h)
all_count f (x ∷ xs) ys e = one_count f xs (f x) ys e (all_count f xs)

abbrev made : ℕ → ℕ → Option (List ℕ) → Option (Option (List ℕ)) → Option (List (List ℕ)) → Option (List Member) → Option (List Member) → Option ClassFile
made major access name super interfaces fields methods =
    option_and_then (λ n. option_and_then (λ s. option_and_then (λ i. option_and_then (λ f. option_map (λ m.
    let c : ClassFile = record { major = major; access = access; name = n; super_name = s; interfaces = i; fields = f; methods = m } in c)
    methods) fields) interfaces) super) name

record HasMembers (fields methods : Option (List Member)) (v : ClassFile) : Type 0 where
  has_fields : fields ≡ Some v.fields
  has_methods : methods ≡ Some v.methods

members_of : (major access : ℕ) (name : Option (List ℕ)) (super : Option (Option (List ℕ))) (interfaces : Option (List (List ℕ))) (fields methods : Option (List Member)) (v : ClassFile)
    → made major access name super interfaces fields methods ≡ Some v → HasMembers fields methods v
members_of major access None super interfaces fields methods v e = absurd cc
members_of major access (Some n) None interfaces fields methods v e = absurd cc
members_of major access (Some n) (Some s) None fields methods v e = absurd cc
members_of major access (Some n) (Some s) (Some i) None methods v e = absurd cc
members_of major access (Some n) (Some s) (Some i) (Some f) None v e = absurd cc
members_of major access (Some n) (Some s) (Some i) (Some f) (Some m) v e =
    let c : ClassFile = record { major = major; access = access; name = n; super_name = s; interfaces = i; fields = f; methods = m } in
    let same : c ≡ v = cc in
    subst (HasMembers (Some f) (Some m)) same (record { has_fields = refl; has_methods = refl })

value_has : (c : RawClass) (v : ClassFile) → class_file_of c ≡ Some v → (length v.fields ≡ length c.fields) × (length v.methods ≡ length c.methods)
unfolding class_file_of
value_has c v e =
    let has = members_of c.major c.access.value (class_of c.pool c.this_class.value) (super_value c) (interface_values c) (field_values c) (method_values c) v e in
    (all_count (field_value c.pool) c.fields v.fields has.has_fields, all_count (method_value c.pool) c.methods v.methods has.has_methods)

-- ---- a class file

cut_bytes : (items : List (List ℕ)) → are_bytes (concat items) ≡ true → AreBytes items
cut_bytes [] all = tt
cut_bytes (i ∷ items) all =
    let parts = two_and (are_bytes i) (are_bytes (concat items)) (sym (list_all-append (λ b. nat_lt b 256) i (concat items)) ∙ all) in
    (parts.0, cut_bytes items parts.1)

behind_magic : (others : List ℕ) → are_bytes (magic ++ others) ≡ true → are_bytes others ≡ true
behind_magic others all = (two_and (are_bytes magic) (are_bytes others) (sym (list_all-append (λ b. nat_lt b 256) magic others) ∙ all)).1

pub has_few : (bytes : List ℕ) (v : ClassFile) → IsClassFile bytes v → (length v.fields < 65536) × (length v.methods < 65536)
has_few bytes v is =
    let same = is.whole.begins in
    let all : are_bytes (magic ++ is.whole.others) ≡ true = subst (λ (bs : List ℕ). are_bytes bs ≡ true) same is.bytes_are in
    let rest : are_bytes (concat is.whole.items.items) ≡ true =
    subst (λ (bs : List ℕ). are_bytes bs ≡ true) (is.whole.items.front ∙ append-nil (concat is.whole.items.items)) (behind_magic is.whole.others all) in
    let few = few_members 4 is.whole.items.items is.class is.whole.items.begins (cut_bytes is.whole.items.items rest) in
    let has = value_has is.class v is.stands_for in
    (subst (λ (n : ℕ). n < 65536) (sym has.0) few.fields, subst (λ (n : ℕ). n < 65536) (sym has.1) few.methods)
