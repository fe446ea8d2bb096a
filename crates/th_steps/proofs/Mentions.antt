-- What parts of a query name, part by part.
use Rattle.std.proofs.Common.{◌≡◌, ℕ, ◌==◌, ◌++◌, Bool, true, false, List, [], ◌∷◌, map, refl, sym, ap, ◌∙◌}
use Rattle.std.proofs.lemmas.Bool.{or_left}
use Rattle.std.specs.Prelude.{◌||◌, flat_map}
use Rattle.std.specs.List.{list_any}
use Rattle.th_base.specs.IdSet.{has}
use Rattle.th_base.proofs.Ascending.{has-append}
use Rattle.th_base.specs.declared.number.FieldId.{FieldId}
use Rattle.th_base.specs.declared.number.Reg.{Reg}
use Rattle.th_query.specs.declared.query.Cell.{Cell}
use Rattle.th_query.specs.declared.query.Element.{Element}
use Rattle.th_query.specs.declared.query.Frame.{Frame}
use Rattle.th_query.specs.declared.query.Link.{Link}
use Rattle.th_query.specs.Symbols.{cell_link, element_link}
use Rattle.th_steps.specs.Named.{named_in}

has_by : {X : Type 0} (f : X → ℕ) (xs : List X) (s : ℕ) → has (map f xs) s ≡ list_any (λ x. f x == s) xs
has_by f [] s = refl
has_by f (x ∷ xs) s = ap (λ b. (f x == s) || b) (has_by f xs s)

has_each : {X : Type 0} (f : X → List ℕ) (xs : List X) (s : ℕ) → has (flat_map f xs) s ≡ list_any (λ x. has (f x) s) xs
has_each f [] s = refl
has_each f (x ∷ xs) s = has-append (f x) (flat_map f xs) s ∙ ap (λ b. has (f x) s || b) (has_each f xs s)

or_three : (a b c : Bool) → a || (b || c) ≡ (a || b) || c
or_three true b c = refl
or_three false b c = refl

links_each : (ks : List Link) (s : ℕ) → has (flat_map (λ k. k.base ∷ k.value ∷ []) ks) s ≡ list_any (λ k. (k.base == s) || (k.value == s)) ks
links_each [] s = refl
links_each (k ∷ ks) s = or_three (k.base == s) (k.value == s) (has (flat_map (λ k. k.base ∷ k.value ∷ []) ks) s) ∙ ap (λ b. ((k.base == s) || (k.value == s)) || b) (links_each ks s)

any_in_two : (p : Link → Bool) (ks js : List Link) → list_any p (ks ++ js) ≡ (list_any p ks || list_any p js)
any_in_two p [] js = refl
any_in_two p (k ∷ ks) js = ap (λ b. p k || b) (any_in_two p ks js) ∙ or_three (p k) (list_any p ks) (list_any p js)

any_of_map : {X : Type 0} (p : Link → Bool) (f : X → Link) (xs : List X) → list_any p (map f xs) ≡ list_any (λ x. p (f x)) xs
any_of_map p f [] = refl
any_of_map p f (x ∷ xs) = ap (λ b. p (f x) || b) (any_of_map p f xs)

links_name : (cs : List Cell) (es : List Element) (s : ℕ) → has (flat_map (λ k. k.base ∷ k.value ∷ []) (map cell_link cs ++ map element_link es)) s
    ≡ (list_any (λ c. (c.base == s) || (c.value == s)) cs || list_any (λ e. (e.array == s) || (e.value == s)) es)
links_name cs es s =
    let p : Link → Bool = λ k. (k.base == s) || (k.value == s) in
    links_each (map cell_link cs ++ map element_link es) s
    ∙ any_in_two p (map cell_link cs) (map element_link es)
    ∙ ap (λ b. b || list_any p (map element_link es)) (any_of_map p cell_link cs)
    ∙ ap (λ b. list_any (λ (c : Cell). (c.base == s) || (c.value == s)) cs || b) (any_of_map p element_link es)

frames_name : (fs : List Frame) (s : ℕ) → has (flat_map (λ f. map (λ x. x.1) f.regs) fs) s ≡ list_any (λ f. list_any (λ x. x.1 == s) f.regs) fs
frames_name fs s =
    has_each (λ (f : Frame). map (λ (x : Reg × ℕ). x.1) f.regs) fs s
    ∙ ap (λ (p : Frame → Bool). list_any p fs) (λ i f. has_by (λ (x : Reg × ℕ). x.1) f.regs s i)

-- by kinds of facts
pub named_by : (fs : List Frame) (ss : List (FieldId × ℕ)) (cs : List Cell) (es : List Element) (s : ℕ) → named_in fs ss cs es s
    ≡ ((list_any (λ f. list_any (λ x. x.1 == s) f.regs) fs || list_any (λ x. x.1 == s) ss)
    || (list_any (λ c. (c.base == s) || (c.value == s)) cs || list_any (λ e. (e.array == s) || (e.value == s)) es))
named_by fs ss cs es s =
    let a = frames_name fs s in
    let b = has_by (λ (x : FieldId × ℕ). x.1) ss s in
    let c = links_name cs es s in
    (λ i. a i || (b i || c i))
    ∙ or_three (list_any (λ f. list_any (λ (x : Reg × ℕ). x.1 == s) f.regs) fs) (list_any (λ x. x.1 == s) ss) (list_any (λ (x : Cell). (x.base == s) || (x.value == s)) cs || list_any (λ (x : Element). (x.array == s) || (x.value == s)) es)

-- where a place names it, and where none does
pub named_first : (fs : List Frame) (ss : List (FieldId × ℕ)) (cs : List Cell) (es : List Element) (s : ℕ) (b : Bool) → b ≡ (list_any (λ f. list_any (λ x. x.1 == s) f.regs) fs || list_any (λ x. x.1 == s) ss)
    → b ≡ true → b ≡ named_in fs ss cs es s
named_first fs ss cs es s b e h = h ∙ sym (named_by fs ss cs es s ∙ or_left _ _ (sym e ∙ h))

pub named_second : (fs : List Frame) (ss : List (FieldId × ℕ)) (cs : List Cell) (es : List Element) (s : ℕ) (b d : Bool) → b ≡ (list_any (λ f. list_any (λ x. x.1 == s) f.regs) fs || list_any (λ x. x.1 == s) ss)
    → b ≡ false → d ≡ (list_any (λ c. (c.base == s) || (c.value == s)) cs || list_any (λ e. (e.array == s) || (e.value == s)) es) → d ≡ named_in fs ss cs es s
named_second fs ss cs es s b d e h is = is ∙ sym (named_by fs ss cs es s ∙ ap (λ z. z || (list_any (λ (c : Cell). (c.base == s) || (c.value == s)) cs || list_any (λ (x : Element). (x.array == s) || (x.value == s)) es)) (sym e ∙ h))
