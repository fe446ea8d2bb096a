-- A row that is made of its supertypes' rows serves for the rules.
use Rattle.std.proofs.Common.{◌≡◌, ℕ, ◌+◌, ◌<◌, ◌≤◌, true, ◌||◌, eqb, List, [], ◌∷◌, ◌++◌, Some, map, length, take, set, get_or, refl, sym, ap, ◌∙◌, subst, inl, inr, arith}
use Rattle.std.specs.List.{find, flat_map, slice_get}
use Rattle.std.specs.Option.{option_map, option_map_or, option_and_then, option_to_list}
use Rattle.std.proofs.lemmas.Bool.{cases_eq, or_right}
use Rattle.std.proofs.lemmas.List.{take_more, take_all, length-set}
use Rattle.std.proofs.lemmas.Option.{slice_get-get_or}
use Rattle.th_base.specs.declared.class.ClassInfo.{ClassInfo}
use Rattle.th_base.specs.declared.ancestors.Ancestors.{Ancestors}
use Rattle.th_base.specs.Ancestors.{FindAlike, supertypes_listed, superinterfaces_listed, line_listed, all_listed, superclass_in, with_superinterfaces, superinterfaces_by, ListsClasses, ListsAbove, AreAncestors, IsRowOf}
use Rattle.th_base.specs.Hierarchy.{superclass_of, interfaces_of, lineage_of, supertypes_of, superinterfaces_of}
use Rattle.th_base.specs.IdSet.{has}
use Rattle.th_base.specs.Order.{IsOrder, supertypes_in}
use Rattle.th_base.proofs.Alike.{alike_append, alike_cons, alike_flat_map, at_most_one}
use Rattle.th_base.proofs.Ascending.{has_at, has_first, has-append}
use Rattle.th_base.proofs.Enough.{lineage_of_is, supertypes_of_is, superinterfaces_of_is}
use Rattle.th_base.proofs.Membership.{has_push_cases, has_take}
use Rattle.th_base.proofs.Ordered.{IsAcyclic-from_order}
use Rattle.th_base.proofs.Rows.{interface_named, superclass_named, lists_classes_set, lists_above_set_same, lists_above_set_other}
use Rattle.th_base.proofs.DepthFirst.{supertypes_at}

-- what is known of the class at a place of the order
pub record IsNext (classes : List ClassInfo) (order : List ℕ) (i : ℕ) (info : ClassInfo) : Type 0 where
  pub inside : get_or order i 0 < length classes
  pub info_is : info ≡ get_or classes (get_or order i 0) info
  pub earlier : (s : ℕ) → has (supertypes_in info) s ≡ true → has (take i order) s ≡ true
  pub in_range : (s : ℕ) → has (supertypes_in info) s ≡ true → s < length classes

pub order_inside : (classes : List ClassInfo) (order : List ℕ) (i : ℕ) → IsOrder classes order → i < length order → get_or order i 0 < length classes
order_inside classes order i o h = o.in_range (get_or order i 0) (has_at order (get_or order i 0) i h refl)

pub next_of : (classes : List ClassInfo) (order : List ℕ) (i : ℕ) (info : ClassInfo) → IsOrder classes order → i < length order
    → info ≡ get_or classes (get_or order i 0) info → IsNext classes order i info
next_of classes order i info o h e =
    let inside = order_inside classes order i o h in
    let same = supertypes_at classes (get_or order i 0) info inside e in
    let earlier : (s : ℕ) → has (supertypes_in info) s ≡ true → has (take i order) s ≡ true = λ s g. o.after i s h (ap (λ l. has l s) same ∙ g) in
    record { inside = inside; info_is = e; earlier = earlier; in_range = λ s g. o.in_range s (has_take i order s (earlier s g)) }

flat_map_same : (f g : ℕ → List ℕ) (xs : List ℕ) → ((x : ℕ) → has xs x ≡ true → f x ≡ g x) → flat_map f xs ≡ flat_map g xs
flat_map_same f g [] h = refl
flat_map_same f g (x ∷ xs) h =
    ap (λ l. l ++ flat_map f xs) (h x (has_first x xs)) ∙ ap (λ l. g x ++ l) (flat_map_same f g xs (λ y k. h y (or_right (eqb x y) (has xs y) k)))

has_flat_map_same : (f g : ℕ → List ℕ) (xs : List ℕ) → ((s : ℕ) → has xs s ≡ true → (x : ℕ) → has (f s) x ≡ has (g s) x) → (x : ℕ) → has (flat_map f xs) x ≡ has (flat_map g xs) x
has_flat_map_same f g [] h x = refl
has_flat_map_same f g (s ∷ xs) h x =
    has-append (f s) (flat_map f xs) x
    ∙ ap (λ b. b || has (flat_map f xs) x) (h s (has_first s xs) x)
    ∙ ap (λ b. has (g s) x || b) (has_flat_map_same f g xs (λ y k. h y (or_right (eqb s y) (has xs y) k)) x)
    ∙ sym (has-append (g s) (flat_map g xs) x)

pub built_line : (classes : List ClassInfo) (order : List ℕ) (rows : List Ancestors) (i : ℕ) (info : ClassInfo) (list : List ℕ)
    → IsOrder classes order → IsNext classes order i info → ((d : ℕ) → has (take i order) d ≡ true → ListsAbove classes rows d)
    → list ≡ get_or order i 0 ∷ flat_map (line_listed rows) (superclass_in info) → list ≡ lineage_of classes (get_or order i 0)
built_line classes order rows i info list o n old e =
    let c = get_or order i 0 in
    let here : slice_get classes c ≡ Some info = slice_get-get_or classes c info n.inside ∙ ap (λ k. Some k) (sym n.info_is) in
    let superclass : superclass_of classes c ≡ option_map (λ s. s.0) info.super_id = ap (λ o. option_and_then (λ k. option_map (λ s. s.0) k.super_id) o) here in
    e ∙ ap (λ l. c ∷ l) (flat_map_same (line_listed rows) (lineage_of classes) (superclass_in info) (λ s g. (old s (n.earlier s (superclass_named info s g))).line)
    ∙ ap (λ s. flat_map (lineage_of classes) (option_to_list s)) (sym superclass)
    ∙ sym (at_most_one (lineage_of classes) (superclass_of classes c)))
    ∙ sym (lineage_of_is classes c (IsAcyclic-from_order classes order o) n.inside)

pub built_set : (classes : List ClassInfo) (order : List ℕ) (rows : List Ancestors) (i : ℕ) (info : ClassInfo) (list : List ℕ)
    → IsOrder classes order → IsNext classes order i info → ((d : ℕ) → has (take i order) d ≡ true → ListsAbove classes rows d)
    → ((x : ℕ) → has list x ≡ has (get_or order i 0 ∷ flat_map (all_listed rows) (supertypes_in info)) x) → (x : ℕ) → has list x ≡ has (supertypes_of classes (get_or order i 0)) x
built_set classes order rows i info list o n old e x =
    let c = get_or order i 0 in
    e x
    ∙ ap (λ b. eqb c x || b) (has_flat_map_same (all_listed rows) (supertypes_of classes) (supertypes_in info) (λ s g. (old s (n.earlier s g)).all) x)
    ∙ ap (λ l. has (c ∷ flat_map (supertypes_of classes) l) x) (sym (supertypes_at classes c info n.inside n.info_is))
    ∙ ap (λ l. has l x) (sym (supertypes_of_is classes c (IsAcyclic-from_order classes order o) n.inside))

pub built_supertypes : (classes : List ClassInfo) (order : List ℕ) (rows : List Ancestors) (i : ℕ) (info : ClassInfo) (list : List ℕ)
    → IsOrder classes order → IsNext classes order i info → ((d : ℕ) → has (take i order) d ≡ true → ListsAbove classes rows d)
    → FindAlike list (get_or order i 0 ∷ flat_map (supertypes_listed rows) (supertypes_in info)) → FindAlike list (supertypes_of classes (get_or order i 0))
built_supertypes classes order rows i info list o n old alike p =
    let c = get_or order i 0 in
    let parts = alike_flat_map (supertypes_listed rows) (supertypes_of classes) (supertypes_in info) (λ s g. (old s (n.earlier s g)).supertypes) in
    alike p ∙ alike_cons c (flat_map (supertypes_listed rows) (supertypes_in info)) (flat_map (supertypes_of classes) (supertypes_in info)) parts p
    ∙ ap (λ l. find p (c ∷ flat_map (supertypes_of classes) l)) (sym (supertypes_at classes c info n.inside n.info_is))
    ∙ ap (find p) (sym (supertypes_of_is classes c (IsAcyclic-from_order classes order o) n.inside))

pub built_superinterfaces : (classes : List ClassInfo) (order : List ℕ) (rows : List Ancestors) (i : ℕ) (info : ClassInfo) (list : List ℕ)
    → IsOrder classes order → IsNext classes order i info → ((d : ℕ) → has (take i order) d ≡ true → ListsAbove classes rows d)
    → FindAlike list (superinterfaces_by rows info) → FindAlike list (superinterfaces_of classes (get_or order i 0))
built_superinterfaces classes order rows i info list o n old alike p =
    let c = get_or order i 0 in
    let here : slice_get classes c ≡ Some info = slice_get-get_or classes c info n.inside ∙ ap (λ k. Some k) (sym n.info_is) in
    let own = alike_flat_map (with_superinterfaces rows) (λ j. j ∷ superinterfaces_of classes j) (map (λ j. j.0) info.interfaces)
    (λ s g. alike_cons s (superinterfaces_listed rows s) (superinterfaces_of classes s) (old s (n.earlier s (interface_named info s g))).superinterfaces) in
    let above = alike_flat_map (superinterfaces_listed rows) (superinterfaces_of classes) (superclass_in info)
    (λ s g. (old s (n.earlier s (superclass_named info s g))).superinterfaces) in
    let interfaces : interfaces_of classes c ≡ map (λ j. j.0) info.interfaces = ap (λ o. option_map_or (λ k. map (λ j. j.0) k.interfaces) o []) here in
    let superclass : superclass_of classes c ≡ option_map (λ s. s.0) info.super_id = ap (λ o. option_and_then (λ k. option_map (λ s. s.0) k.super_id) o) here in
    alike p
    ∙ alike_append (flat_map (with_superinterfaces rows) (map (λ j. j.0) info.interfaces)) (flat_map (λ j. j ∷ superinterfaces_of classes j) (map (λ j. j.0) info.interfaces))
    (flat_map (superinterfaces_listed rows) (superclass_in info)) (flat_map (superinterfaces_of classes) (superclass_in info)) own above p
    ∙ ap (λ l. find p (flat_map (λ j. j ∷ superinterfaces_of classes j) l ++ flat_map (superinterfaces_of classes) (superclass_in info))) (sym interfaces)
    ∙ ap (λ s. find p (flat_map (λ j. j ∷ superinterfaces_of classes j) (interfaces_of classes c) ++ flat_map (superinterfaces_of classes) (option_to_list s))) (sym superclass)
    ∙ ap (λ l. find p (flat_map (λ j. j ∷ superinterfaces_of classes j) (interfaces_of classes c) ++ l)) (sym (at_most_one (superinterfaces_of classes) (superclass_of classes c)))
    ∙ ap (find p) (sym (superinterfaces_of_is classes c (IsAcyclic-from_order classes order o) n.inside))

-- one class further along the order
pub take_cases : (order : List ℕ) (i d : ℕ) → i < length order → has (take (i + 1) order) d ≡ true → (d ≡ get_or order i 0 → ⊥) → has (take i order) d ≡ true
take_cases order i d h g ne =
    elim (has_push_cases (take i order) (get_or order i 0) d (ap (λ l. has l d) (sym (take_more order i 0 h)) ∙ g)) [
      | inl old ↦ old
      | inr same ↦ absurd (ne (sym same))
    ]

-- rows of which one more serves for the rules
pub record AreBuilt (classes : List ClassInfo) (order : List ℕ) (rows : List Ancestors) (i : ℕ) : Type 0 where
  pub rows_are : length rows ≡ length classes
  pub in_range : ListsClasses rows (length classes)
  pub above : (d : ℕ) → has (take i order) d ≡ true → ListsAbove classes rows d

pub built_more : (classes : List ClassInfo) (order : List ℕ) (rows : List Ancestors) (i : ℕ) (info : ClassInfo) (r : Ancestors)
    → IsOrder classes order → i < length order → IsNext classes order i info → AreBuilt classes order rows i → IsRowOf info rows (get_or order i 0) (length rows) r
    → AreBuilt classes order (set rows (get_or order i 0) r) (i + 1)
built_more classes order rows i info r o h n old row =
    let c = get_or order i 0 in
    let inside : c < length rows = omega (arith, n.inside, old.rows_are) in
    let within : (x : ℕ) → x < length rows → x < length classes = λ x k. omega (arith, old.rows_are) in
    record {
      rows_are = length-set rows c r ∙ old.rows_are;
      in_range = lists_classes_set rows (length classes) c r inside old.in_range (λ x g. within x (row.supertypes_inside x g)) (λ x g. within x (row.superinterfaces_inside x g));
      above = λ d g. elim (cases_eq d c) [
        | inl same ↦ subst (λ e. ListsAbove classes (set rows c r) e) (sym same)
            (lists_above_set_same classes rows c r inside record {
              supertypes = built_supertypes classes order rows i info r.supertypes o n old.above row.supertypes;
              superinterfaces = built_superinterfaces classes order rows i info r.superinterfaces o n old.above row.superinterfaces;
              line = built_line classes order rows i info r.line o n old.above row.line;
              all = built_set classes order rows i info r.all o n old.above row.all;
            })
        | inr other ↦ lists_above_set_other classes rows c d r other (old.above d (take_cases order i d h g other))
      ];
    }

-- at the end of the order the rows of all classes serve
pub built_all : (classes : List ClassInfo) (order : List ℕ) (rows : List Ancestors) (i : ℕ) → IsOrder classes order → length order ≤ i → AreBuilt classes order rows i → AreAncestors classes rows
built_all classes order rows i o h b = record {
  rows_are = b.rows_are;
  in_range = b.in_range;
  above = λ c g. b.above c (ap (λ l. has l c) (take_all i order h) ∙ o.covers c g);
}
