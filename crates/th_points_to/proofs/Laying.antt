-- The sets of places.
use Rattle.std.proofs.Common.{◌≡◌, ℕ, ◌<◌, ◌≤◌, ◌+◌, ◌-◌, zero, suc, Bool, true, false, List, [], ◌∷◌, ◌++◌, length, Option, Some, slice_get, refl, sym, ap, subst, arith, ◌∙◌, if◌then◌else◌}
use Rattle.std.specs.Prelude.{nat_lt}
use Rattle.std.specs.Option.{option_map_or}
use Rattle.th_ir.specs.FactSets.{FactSets}
use Rattle.th_points_to.specs.declared.place.Layout.{Layout}
use Rattle.th_points_to.specs.Found.{holds}

less_true : (a b : ℕ) → a < b → nat_lt a b ≡ true
less_true a b h = grind arith

less_false : (a b : ℕ) → b ≤ a → nat_lt a b ≡ false
less_false a b h = grind arith

-- of a chain of choices
first_of_four : (a b d : Bool) (u v w x : Bool) → a ≡ true → (if a then u else if b then v else if d then w else x) ≡ u
first_of_four a b d u v w x e = rw e refl

second_of_four : (a b d : Bool) (u v w x : Bool) → a ≡ false → b ≡ true → (if a then u else if b then v else if d then w else x) ≡ v
second_of_four a b d u v w x e f = rw (e, f) refl

third_of_four : (a b d : Bool) (u v w x : Bool) → a ≡ false → b ≡ false → d ≡ true → (if a then u else if b then v else if d then w else x) ≡ w
third_of_four a b d u v w x e f g = rw (e, f, g) refl

last_of_four : (a b d : Bool) (u v w x : Bool) → a ≡ false → b ≡ false → d ≡ false → (if a then u else if b then v else if d then w else x) ≡ x
last_of_four a b d u v w x e f g = rw (e, f, g) refl

last_changes : (a b d : Bool) (u v w x y : Bool) → (d ≡ false → x ≡ y)
    → (if a then u else if b then v else if d then w else x) ≡ (if a then u else if b then v else if d then w else y)
last_changes true b d u v w x y e = refl
last_changes false true d u v w x y e = refl
last_changes false false true u v w x y e = refl
last_changes false false false u v w x y e = e refl

pub register_is : (l : Layout) (cells : List (ℕ × ℕ)) (i r : ℕ) → i ≡ 0 + r → r < l.registers → (t : FactSets) (x : ℕ) → holds l cells t i x ≡ t.reg r x
register_is l cells i r e h t x =
    let same : i ≡ r = omega arith in
    subst (λ (k : ℕ). holds l cells t k x ≡ t.reg r x) (sym same)
    (first_of_four (nat_lt r l.registers) (nat_lt r (l.registers + l.fields)) (nat_lt r l.first_cell) _ _ _ _ (less_true r l.registers h))

pub static_is : (l : Layout) (cells : List (ℕ × ℕ)) (i f : ℕ) → i ≡ l.registers + f → f < l.fields → (t : FactSets) (x : ℕ) → holds l cells t i x ≡ t.static f x
static_is l cells i f e h t x =
    let back : i - l.registers ≡ f = omega arith in
    second_of_four (nat_lt i l.registers) (nat_lt i (l.registers + l.fields)) (nat_lt i l.first_cell) _ _ _ _
    (less_false i l.registers (omega arith)) (less_true i (l.registers + l.fields) (omega arith)) ∙ ap (λ (k : ℕ). t.static k x) back

pub elements_is : (l : Layout) (cells : List (ℕ × ℕ)) (i s : ℕ) → l.first_cell ≡ l.registers + l.fields + l.sites → i ≡ l.registers + l.fields + s → s < l.sites
    → (t : FactSets) (x : ℕ) → holds l cells t i x ≡ t.elem s x
elements_is l cells i s first e h t x =
    let back : i - (l.registers + l.fields) ≡ s = omega arith in
    third_of_four (nat_lt i l.registers) (nat_lt i (l.registers + l.fields)) (nat_lt i l.first_cell) _ _ _ _
    (less_false i l.registers (omega arith)) (less_false i (l.registers + l.fields) (omega arith)) (less_true i l.first_cell (omega arith))
    ∙ ap (λ (k : ℕ). t.elem k x) back

pub cell_is : (l : Layout) (cells : List (ℕ × ℕ)) (i k s f : ℕ) → l.first_cell ≡ l.registers + l.fields + l.sites → i ≡ l.first_cell + k → slice_get cells k ≡ Some (s, f)
    → (t : FactSets) (x : ℕ) → holds l cells t i x ≡ t.cell s f x
cell_is l cells i k s f first e at t x =
    let back : i - l.first_cell ≡ k = omega arith in
    last_of_four (nat_lt i l.registers) (nat_lt i (l.registers + l.fields)) (nat_lt i l.first_cell) _ _ _ _
    (less_false i l.registers (omega arith)) (less_false i (l.registers + l.fields) (omega arith)) (less_false i l.first_cell (omega arith))
    ∙ ap (λ (n : ℕ). option_map_or (λ (d : ℕ × ℕ). t.cell d.0 d.1 x) (slice_get cells n) false) back
    ∙ ap (λ (o : Option (ℕ × ℕ)). option_map_or (λ (d : ℕ × ℕ). t.cell d.0 d.1 x) o false) at

-- ---- more cells

pub get_left : {A : Type 0} (xs ys : List A) (k : ℕ) → k < length xs → slice_get (xs ++ ys) k ≡ slice_get xs k
get_left [] ys k h = absurd (omega arith)
get_left (x ∷ xs) ys zero h = refl
get_left (x ∷ xs) ys (suc k) h = get_left xs ys k (omega arith)

pub holds_more : (l : Layout) (cells more : List (ℕ × ℕ)) (t : FactSets) (i x : ℕ) → i < l.first_cell + length cells → holds l (cells ++ more) t i x ≡ holds l cells t i x
holds_more l cells more t i x h =
    last_changes (nat_lt i l.registers) (nat_lt i (l.registers + l.fields)) (nat_lt i l.first_cell) _ _ _ _ _
    (λ e.
    let past : l.first_cell ≤ i = grind arith in
    ap (λ (o : Option (ℕ × ℕ)). option_map_or (λ (d : ℕ × ℕ). t.cell d.0 d.1 x) o false) (get_left cells more (i - l.first_cell) (omega arith)))
