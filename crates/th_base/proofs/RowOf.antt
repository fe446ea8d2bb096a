-- The row of a class is made of the rows of its direct supertypes, each interface taken once.
use Rattle.std.proofs.Common.{◌≡◌, ℕ, ◌+◌, ◌<◌, ◌≤◌, Bool, true, false, ◌||◌, eqb, List, [], ◌∷◌, ◌++◌, length, map, take, get_or, refl, sym, ap, ◌∙◌, arith}
use Rattle.std.specs.List.{find, flat_map}
use Rattle.std.specs.Option.{option_or}
use Rattle.std.proofs.lemmas.List.{take_all}
use Rattle.std.proofs.lemmas.List.Concat.{flat_map-append}
use Rattle.th_base.specs.declared.class.ClassInfo.{ClassInfo}
use Rattle.th_base.specs.declared.ancestors.Ancestors.{Ancestors}
use Rattle.th_base.specs.declared.ancestors.Listing.{Listing}
use Rattle.th_base.specs.Ancestors.{FindAlike, Adds, IsTaken, supertypes_listed, superclass_in, with_superinterfaces, superinterfaces_by, superinterfaces_listed, all_listed}
use Rattle.th_base.specs.Hierarchy.{first_some}
use Rattle.th_base.specs.IdSet.{has, inserted}
use Rattle.th_base.specs.Order.{supertypes_in}
use Rattle.th_base.proofs.Alike.{find-append, alike_append, alike_any, alike_cons, alike_from_empty}
use Rattle.th_base.proofs.Ascending.{has-append, has-inserted}
use Rattle.th_base.proofs.Rows.{interface_named, flat_more}
use Rattle.th_base.proofs.Upward.{first_some_alike}

find_flat_map : (p : ℕ → Bool) (f : ℕ → List ℕ) (xs : List ℕ) → find p (flat_map f xs) ≡ first_some (λ x. find p (f x)) xs
find_flat_map p f [] = refl
find_flat_map p f (x ∷ xs) = find-append p (f x) (flat_map f xs) ∙ ap (option_or (find p (f x))) (find_flat_map p f xs)

-- what alike lists lead to is alike
pub alike_flat : (f : ℕ → List ℕ) (xs ys : List ℕ) → FindAlike xs ys → FindAlike (flat_map f xs) (flat_map f ys)
alike_flat f xs ys a p = find_flat_map p f xs ∙ first_some_alike (λ x. find p (f x)) xs ys a ∙ sym (find_flat_map p f ys)

abbrev interfaces_in : ClassInfo → List ℕ
interfaces_in k = map (λ i. i.0) k.interfaces

alike_direct : (f : ℕ → List ℕ) (k : ClassInfo) (list : List ℕ) → FindAlike list (interfaces_in k)
    → FindAlike (flat_map f list ++ flat_map f (superclass_in k)) (flat_map f (supertypes_in k))
alike_direct f k list a p =
    alike_append (flat_map f list) (flat_map f (interfaces_in k)) (flat_map f (superclass_in k)) (flat_map f (superclass_in k)) (alike_flat f list (interfaces_in k) a) (λ q. refl) p
    ∙ ap (find p) (sym (flat_map-append f (interfaces_in k) (superclass_in k)))

-- a list that has been made from nothing
made : (a b : Listing) (more list : List ℕ) → Adds a b more → a.items.items ≡ [] → list ≡ b.items.items → FindAlike list more
made a b more list f e g p = ap (find p) g ∙ alike_from_empty a b more f e p

pub supertypes_made : (a b : Listing) (k : ClassInfo) (rows : List Ancestors) (number : ℕ) (list row : List ℕ)
    → Adds a b (number ∷ (flat_map (supertypes_listed rows) list ++ flat_map (supertypes_listed rows) (superclass_in k))) → a.items.items ≡ [] → row ≡ b.items.items
    → FindAlike list (interfaces_in k) → FindAlike row (number ∷ flat_map (supertypes_listed rows) (supertypes_in k))
supertypes_made a b k rows number list row f e g alike p =
    made a b _ row f e g p
    ∙ alike_cons number (flat_map (supertypes_listed rows) list ++ flat_map (supertypes_listed rows) (superclass_in k)) (flat_map (supertypes_listed rows) (supertypes_in k))
    (alike_direct (supertypes_listed rows) k list alike) p

pub superinterfaces_made : (a b : Listing) (k : ClassInfo) (rows : List Ancestors) (list row : List ℕ)
    → Adds a b (flat_map (with_superinterfaces rows) list ++ flat_map (superinterfaces_listed rows) (superclass_in k)) → a.items.items ≡ [] → row ≡ b.items.items
    → FindAlike list (interfaces_in k) → FindAlike row (superinterfaces_by rows k)
superinterfaces_made a b k rows list row f e g alike p =
    made a b _ row f e g p
    ∙ alike_append (flat_map (with_superinterfaces rows) list) (flat_map (with_superinterfaces rows) (interfaces_in k)) (flat_map (superinterfaces_listed rows) (superclass_in k))
    (flat_map (superinterfaces_listed rows) (superclass_in k)) (alike_flat (with_superinterfaces rows) list (interfaces_in k) alike) (λ q. refl) p

pub all_made : (k : ClassInfo) (rows : List Ancestors) (number : ℕ) (list all : List ℕ)
    → ((x : ℕ) → has all x ≡ has (number ∷ (flat_map (all_listed rows) list ++ flat_map (all_listed rows) (superclass_in k))) x)
    → FindAlike list (interfaces_in k) → (x : ℕ) → has all x ≡ has (number ∷ flat_map (all_listed rows) (supertypes_in k)) x
all_made k rows number list all e alike x = e x ∙ ap (λ b. eqb number x || b) (alike_any (λ y. eqb y x) _ _ (alike_direct (all_listed rows) k list alike))

pub inside_of : (a b : Listing) (list more : List ℕ) (n : ℕ) → Adds a b more → list ≡ b.items.items → length a.seen.items ≡ n → (x : ℕ) → has list x ≡ true → x < n
inside_of a b list more n f g e x h = let within = f.listing.inside x (ap (λ l. has l x) (sym g) ∙ h) in omega (arith, f.room)

-- the interfaces that are taken have rows
pub interfaces_taken : (k : ClassInfo) (rows : List Ancestors) (n : ℕ) (list : List ℕ) → IsTaken k rows n → FindAlike list (interfaces_in k)
    → (x : ℕ) → has list x ≡ true → x < length rows
interfaces_taken k rows n list taken alike x h = taken.rows_are x (interface_named k x (sym (alike_any (λ y. eqb y x) list (interfaces_in k) alike) ∙ h))

-- ---- the set, interface by interface

-- one interface more
pub set_more : (f : ℕ → List ℕ) (last : List ℕ) (xs : List ℕ) (i : ℕ) (own old new : List ℕ) → i < length xs → own ≡ f (get_or xs i 0)
    → ((x : ℕ) → has old x ≡ has (flat_map f (take i xs) ++ last) x) → ((x : ℕ) → has new x ≡ (has old x || has own x))
    → (x : ℕ) → has new x ≡ has (flat_map f (take (i + 1) xs) ++ last) x
set_more f last xs i own old new h e before union x =
    union x ∙ ap (λ b. b || has own x) (before x ∙ has-append (flat_map f (take i xs)) last x)
    ∙ ap (λ l. (has (flat_map f (take i xs)) x || has last x) || has l x) e
    ∙ turned (has (flat_map f (take i xs)) x) (has last x) (has (f (get_or xs i 0)) x)
    ∙ ap (λ b. b || has last x) (sym (has-append (flat_map f (take i xs)) (f (get_or xs i 0)) x))
    ∙ sym (has-append (flat_map f (take i xs) ++ f (get_or xs i 0)) last x)
    ∙ ap (λ l. has (l ++ last) x) (sym (flat_more f xs i h))
  where
    turned : (a b c : Bool) → ((a || b) || c) ≡ ((a || c) || b)
    turned true b c = refl
    turned false true true = refl
    turned false true false = refl
    turned false false true = refl
    turned false false false = refl

-- all interfaces, and the class itself
pub set_whole : (f : ℕ → List ℕ) (last : List ℕ) (xs : List ℕ) (i number : ℕ) (old new : List ℕ) → length xs ≤ i
    → ((x : ℕ) → has old x ≡ has (flat_map f (take i xs) ++ last) x) → new ≡ inserted number old
    → (x : ℕ) → has new x ≡ has (number ∷ (flat_map f xs ++ last)) x
set_whole f last xs i number old new h before put x =
    ap (λ l. has l x) put ∙ has-inserted number old x ∙ ap (λ b. eqb number x || b) (before x ∙ ap (λ l. has (flat_map f l ++ last) x) (take_all i xs h))
