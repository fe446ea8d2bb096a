-- From-sets narrowed step by step: what a step may do, and the rules one by one.
use Rattle.std.specs.Prelude.{ℕ, zero, suc, ⊤, ◌≡◌, ◌+◌, ◌<◌, Bool, true, false, List, [], ◌∷◌, length, map, Some, slice_get}
use Rattle.std.specs.List.{list_any}
use Rattle.th_base.specs.declared.class.ClassInfo.{ClassInfo}
use Rattle.th_base.specs.declared.number.FieldId.{FieldId}
use Rattle.th_base.specs.declared.number.Reg.{Reg}
use Rattle.th_base.specs.IdSet.{has}
use Rattle.th_ir.specs.FactSets.{FactSets, set_at}
use Rattle.th_ir.specs.declared.program.RegProgram.{RegProgram}
use Rattle.th_ir.specs.Program.{Among}
use Rattle.th_query.specs.declared.query.Cell.{Cell}
use Rattle.th_query.specs.declared.query.Element.{Element}
use Rattle.th_query.specs.declared.query.Frame.{Frame}
use Rattle.th_query.specs.declared.query.Link.{Link}
use Rattle.th_query.specs.declared.query.Slot.{Slot}
use Rattle.th_query.specs.declared.query.Sym.{Sym}
use Rattle.th_query.specs.Symbols.{cell_link, element_link, sites_in, is_sure}
use Rattle.th_query.specs.Narrowed.{has_slot, slot_has, kept_sites}

-- ---- sets of symbols

-- the sites of symbols, as a test of symbol and site
abbrev pub family : List Sym → ℕ → ℕ → Bool
family syms s a = has (sites_in (slice_get syms s)) a

abbrev pub IsPart : (ℕ → ℕ → Bool) → (ℕ → ℕ → Bool) → Type 0
IsPart F G = (s a : ℕ) → F s a ≡ true → G s a ≡ true

-- how many sites the symbols have together
abbrev pub size : List Sym → ℕ
size [] = 0
size (x ∷ xs) = length (sites_in (Some x)) + size xs

-- the symbol with the sites that pass; nothing past the list
abbrev pub kept_at : ℕ → (ℕ → Bool) → List Sym → List Sym
kept_at zero p [] = []
kept_at (suc s) p [] = []
kept_at zero p (x ∷ xs) = kept_sites p x ∷ xs
kept_at (suc s) p (x ∷ xs) = x ∷ kept_at s p xs

-- each symbol lost sites at most
abbrev pub AreKept : List Sym → List Sym → Type 0
AreKept [] [] = ⊤
AreKept [] (y ∷ ys) = ⊥
AreKept (x ∷ xs) [] = ⊥
AreKept (x ∷ xs) (y ∷ ys) = ((p : ℕ → Bool) × (y ≡ kept_sites p x)) × AreKept xs ys

-- ---- steps

-- symbols lose sites, but none that sets with the property have
pub record Narrows (P : (ℕ → ℕ → Bool) → Type 0) (old new : List Sym) : Type 0 where
  pub kept : AreKept old new
  pub keeps : (F : ℕ → ℕ → Bool) → P F → IsPart F (family old) → IsPart F (family new)

-- and then they have the property
pub record Enforces (P : (ℕ → ℕ → Bool) → Type 0) (old new : List Sym) : Type 0 where
  pub narrows : Narrows P old new
  pub holds : P (family new)

-- a step that says whether it changed something; where it did not, the sets have the property
pub record Steps (P : (ℕ → ℕ → Bool) → Type 0) (old new : List Sym) (changed : Bool) : Type 0 where
  pub narrows : Narrows P old new
  pub same : changed ≡ false → (new ≡ old) × P (family new)
  pub less : changed ≡ true → size new < size old

-- ---- rules

-- each of the symbol's sites passes
abbrev pub Passes : ℕ → (ℕ → Bool) → (ℕ → ℕ → Bool) → Type 0
Passes s p F = (a : ℕ) → F s a ≡ true → p a ≡ true

-- the set of a register, and of a static field
abbrev pub register_set : List (List ℕ) → Reg → ℕ → Bool
register_set sets r = set_at sets r.0

abbrev pub static_set : List (List ℕ) → FieldId → ℕ → Bool
static_set sets f = set_at sets f.0

-- each symbol has only sites in the set of its place
abbrev pub Bounds : {K : Type 0} → (K → ℕ → Bool) → List (K × ℕ) → (ℕ → ℕ → Bool) → Type 0
Bounds {K = K} sets xs F = (x : K × ℕ) → Among xs x → Passes x.1 (sets x.0) F

abbrev pub FrameBounds : (Reg → ℕ → Bool) → List Frame → (ℕ → ℕ → Bool) → Type 0
FrameBounds sets fs F = (f : Frame) → Among fs f → Bounds sets f.regs F

-- each base has only sites that have the slot
abbrev pub Owners : (ℕ → Slot → Bool) → List (Link × Bool) → (ℕ → ℕ → Bool) → Type 0
Owners owns ks F = (x : Link × Bool) → Among ks x → Passes x.0.base (λ a. owns a x.0.slot) F

-- the objects of the site have the slot
abbrev pub owns : List ClassInfo → RegProgram → Slot → ℕ → Bool
owns h p slot a = has_slot h p a slot

-- each value is held by an object of some site of the base
abbrev pub HasValues : (ℕ → Slot → ℕ → Bool) → Link → (ℕ → ℕ → Bool) → Type 0
HasValues holds k F = (b : ℕ) → F k.value b ≡ true → (a : ℕ) × (F k.base a ≡ true) × (holds a k.slot b ≡ true)

-- an object of each site of the base may hold some value
abbrev pub HasBases : (ℕ → Slot → ℕ → Bool) → Link → (ℕ → ℕ → Bool) → Type 0
HasBases holds k F = (a : ℕ) → F k.base a ≡ true → (b : ℕ) × (F k.value b ≡ true) × (holds a k.slot b ≡ true)

-- the two rules at a link; the second where the flag says that the value can't be null
pub record RulesAt (holds : ℕ → Slot → ℕ → Bool) (x : Link × Bool) (F : ℕ → ℕ → Bool) : Type 0 where
  pub values : HasValues holds x.0 F
  pub bases : x.1 ≡ true → HasBases holds x.0 F

abbrev pub Rules : (ℕ → Slot → ℕ → Bool) → List (Link × Bool) → (ℕ → ℕ → Bool) → Type 0
Rules holds ks F = (x : Link × Bool) → Among ks x → RulesAt holds x F

-- links, each with whether its value is a reference that can't be null
abbrev pub sure_links : List Sym → List Link → List (Link × Bool)
sure_links syms ks = map (λ k. (k, is_sure (slice_get syms k.value))) ks

-- the link of a cell, and of an element, with that flag
abbrev pub sure_cell : List Sym → Cell → Link × Bool
sure_cell syms c = (cell_link c, is_sure (slice_get syms c.value))

abbrev pub sure_element : List Sym → Element → Link × Bool
sure_element syms e = (element_link e, is_sure (slice_get syms e.value))

-- a value is held by an object of one of the sites
abbrev pub is_value : (ℕ → Slot → ℕ → Bool) → Slot → List ℕ → ℕ → Bool
is_value holds slot bases b = list_any (λ a. holds a slot b) bases

-- an object of the site may hold one of the values
abbrev pub is_base : (ℕ → Slot → ℕ → Bool) → Slot → List ℕ → ℕ → Bool
is_base holds slot values a = list_any (λ b. holds a slot b) values

-- all rules together
pub record AllRules (h : List ClassInfo) (p : RegProgram) (t : FactSets) (fs : List Frame) (ss : List (FieldId × ℕ)) (ks : List (Link × Bool)) (F : ℕ → ℕ → Bool) : Type 0 where
  pub frames : FrameBounds (λ r. t.reg r.0) fs F
  pub statics : Bounds (λ f. t.static f.0) ss F
  pub owners : Owners (has_slot h p) ks F
  pub rules : Rules (slot_has t) ks F
