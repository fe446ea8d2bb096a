-- Step 2 of the canonical form: from-sets become the greatest within the given ones that meet two rules.
use Rattle.std.specs.Prelude.{ℕ, ◌≡◌, ◌+◌, Bool, true, List, [], ◌∷◌}
use Rattle.std.specs.List.{filter}
use Rattle.th_base.specs.declared.class.ClassInfo.{ClassInfo}
use Rattle.th_base.specs.declared.number.FieldId.{FieldId}
use Rattle.th_base.specs.declared.number.Reg.{Reg}
use Rattle.th_base.specs.IdSet.{has}
use Rattle.th_ir.specs.declared.program.RegProgram.{RegProgram}
use Rattle.th_ir.specs.Program.{Among}
use Rattle.th_ir.specs.Fields.{has_field}
use Rattle.th_ir.specs.Sites.{is_ref_array}
use Rattle.th_ir.specs.FactSets.{FactSets}
use Rattle.th_query.specs.declared.query.Frame.{Frame}
use Rattle.th_query.specs.declared.query.Link.{Link}
use Rattle.th_query.specs.declared.query.Slot.{Slot}
use Rattle.th_query.specs.declared.query.Slot.TheVariants.{Field, Elements}
use Rattle.th_query.specs.declared.query.Sym.{Sym}
use Rattle.th_query.specs.declared.query.Sym.TheVariants.{Ref, Int, Carry}
use Rattle.th_query.specs.declared.query.Query.{Query}
use Rattle.th_query.specs.Symbols.{links, symbol_at, sites_of, is_sure}

-- the objects of the site have the slot: the field (of arrays LENGTH), or elements that are references
abbrev pub has_slot : List ClassInfo → RegProgram → ℕ → Slot → Bool
has_slot h p a (Field f) = has_field h p a f.0
has_slot h p a Elements = is_ref_array p a

-- the facts have the second site in the slot of the first
abbrev pub slot_has : FactSets → ℕ → Slot → ℕ → Bool
slot_has t a (Field f) b = t.cell a f.0 b
slot_has t a Elements b = t.elem a b

-- sets of sites, a test of symbol and site, lie within the given ones and meet the rules
pub record MeetsRules (h : List ClassInfo) (p : RegProgram) (t : FactSets) (q : Query) (sets : ℕ → ℕ → Bool) : Type 0 where
  pub given : (s a : ℕ) → sets s a ≡ true → has (sites_of q s) a ≡ true
  -- a symbol has only sites in the points-to set of its place; for a link that is the union over the
  -- base's sites
  pub registers : (f : Frame) (x : Reg × ℕ) (a : ℕ) → Among q.frames f → Among f.regs x → sets x.1 a ≡ true → t.reg x.0.0 a ≡ true
  pub statics : (x : FieldId × ℕ) (a : ℕ) → Among q.statics x → sets x.1 a ≡ true → t.static x.0.0 a ≡ true
  pub values : (k : Link) (b : ℕ) → Among (links q) k → sets k.value b ≡ true
      → (a : ℕ) × (sets k.base a ≡ true) × (slot_has t a k.slot b ≡ true)
  -- a base has only sites that have the slot and, where the value is a reference that can't be null,
  -- may hold one of the value's sites there
  pub owners : (k : Link) (a : ℕ) → Among (links q) k → sets k.base a ≡ true → has_slot h p a k.slot ≡ true
  pub bases : (k : Link) (a : ℕ) → Among (links q) k → is_sure (symbol_at q k.value) ≡ true → sets k.base a ≡ true
      → (b : ℕ) × (sets k.value b ≡ true) × (slot_has t a k.slot b ≡ true)

-- the greatest such sets: all others lie within them
pub record AreGreatest (h : List ClassInfo) (p : RegProgram) (t : FactSets) (q : Query) (sets : ℕ → ℕ → Bool) : Type 0 where
  pub meet : MeetsRules h p t q sets
  pub greatest : (others : ℕ → ℕ → Bool) → MeetsRules h p t q others → (s a : ℕ) → others s a ≡ true → sets s a ≡ true

-- the symbol with the sites that pass
abbrev pub kept_sites : (ℕ → Bool) → Sym → Sym
kept_sites stays (Ref null sites) = Ref null (filter stays sites)
kept_sites stays Int = Int
kept_sites stays Carry = Carry

abbrev pub kept_symbols : (ℕ → ℕ → Bool) → ℕ → List Sym → List Sym
kept_symbols sets s [] = []
kept_symbols sets s (x ∷ xs) = kept_sites (sets s) x ∷ kept_symbols sets (s + 1) xs

-- r is q with the greatest sets
pub record IsNarrowed (h : List ClassInfo) (p : RegProgram) (t : FactSets) (q r : Query) : Type 0 where
  pub sets : ℕ → ℕ → Bool
  pub greatest : AreGreatest h p t q sets
  pub is : r ≡ record q { syms = kept_symbols sets 0 q.syms }
