-- What a method writes and makes, with all that it may call and initialise: as least sets, and how
-- the lists of `Mods` say it.
use Rattle.std.specs.Prelude.{ℕ, ◌≡◌, ⊤, Bool, true, false, List, [], ◌∷◌, length, Some, slice_get}
use Rattle.std.specs.List.{AllByRecursion}
use Rattle.std.specs.Option.{option_map_or}
use Rattle.th_base.specs.declared.class.ClassInfo.{ClassInfo}
use Rattle.th_base.specs.IdSet.{has, IsAscending}
use Rattle.th_ir.specs.declared.facts.Facts.{Facts}
use Rattle.th_ir.specs.declared.facts.Mods.{Mods}
use Rattle.th_ir.specs.declared.program.RegProgram.{RegProgram}
use Rattle.th_ir.specs.declared.program.Node.{Node}
use Rattle.th_ir.specs.declared.stmt.Stmt.{Stmt}
use Rattle.th_ir.specs.declared.stmt.Stmt.TheVariants.{Nop, Const, Null, Str, Copy, Arith, Neg, AddConst, Narrow, AnyInt, Assume, GetStatic, PutStatic, GetField, PutField, GetElem, PutElem, Length, New, NewArray, Cast, InstanceOf, Call, Init, Return, Pick, NonNull, Halt}
use Rattle.th_ir.specs.Program.{node_at}
use Rattle.th_ir.specs.Calls.{IsInitialiser}
use Rattle.th_ir.specs.FactSets.{FactSets, IsWithin, sets_of}

-- for each method the fields and static fields that it may write, whether it may write elements, and
-- the sites of what it may make
pub record ModSets : Type 0 where
  pub fields : ℕ → ℕ → Bool
  pub statics : ℕ → ℕ → Bool
  pub elements : ℕ → Bool
  pub sites : ℕ → ℕ → Bool

-- the summary of one method is part of another's
pub record IsPart (s : ModSets) (part whole : ℕ) : Type 0 where
  pub fields : IsWithin (s.fields part) (s.fields whole)
  pub statics : IsWithin (s.statics part) (s.statics whole)
  pub elements : s.elements part ≡ true → s.elements whole ≡ true
  pub sites : IsWithin (s.sites part) (s.sites whole)

-- what a statement at a node puts into its method's summary
abbrev pub Sums : List ClassInfo → FactSets → ModSets → ℕ → ℕ → Stmt → Type 0
Sums h t s m n Nop = ⊤
Sums h t s m n (Const dst k) = ⊤
Sums h t s m n (Null dst) = ⊤
Sums h t s m n (Str dst site) = ⊤
Sums h t s m n (Copy pairs) = ⊤
Sums h t s m n (Arith dst op a b) = ⊤
Sums h t s m n (Neg dst a) = ⊤
Sums h t s m n (AddConst dst a k) = ⊤
Sums h t s m n (Narrow dst op a) = ⊤
Sums h t s m n (AnyInt dst) = ⊤
Sums h t s m n (Assume condition) = ⊤
Sums h t s m n (GetStatic dst f) = ⊤
Sums h t s m n (PutStatic f src) = s.statics m f.0 ≡ true
Sums h t s m n (GetField dst base f) = ⊤
Sums h t s m n (PutField base f src) = s.fields m f.0 ≡ true
Sums h t s m n (GetElem dst array kind) = ⊤
Sums h t s m n (PutElem array src) = s.elements m ≡ true
Sums h t s m n (Length dst array) = ⊤
Sums h t s m n (New dst site) = s.sites m site.0 ≡ true
Sums h t s m n (NewArray dst site count) = s.sites m site.0 ≡ true
Sums h t s m n (Cast dst src text) = ⊤
Sums h t s m n (InstanceOf dst src text) = ⊤
Sums h t s m n (Call dst kind k args) = (to : ℕ) → t.call n to ≡ true → IsPart s to m
Sums h t s m n (Init k) = (to : ℕ) → IsInitialiser h k.0 to → IsPart s to m
Sums h t s m n (Return src) = ⊤
Sums h t s m n (Pick dst k) = ⊤
Sums h t s m n (NonNull src) = ⊤
Sums h t s m n Halt = ⊤

-- the summaries have what each node writes and makes, and the summaries of what it calls and initialises
abbrev pub HoldsSums : List ClassInfo → RegProgram → FactSets → ModSets → Type 0
HoldsSums h p t s = (n : ℕ) (node : Node) → node_at p n ≡ Some node → Sums h t s node.method.0 n node.stmt

-- the first summaries say no more than the second
pub record SumsWithin (s u : ModSets) : Type 0 where
  pub fields : (m : ℕ) → IsWithin (s.fields m) (u.fields m)
  pub statics : (m : ℕ) → IsWithin (s.statics m) (u.statics m)
  pub elements : IsWithin s.elements u.elements
  pub sites : (m : ℕ) → IsWithin (s.sites m) (u.sites m)

-- the least summaries
pub record AreLeastSums (h : List ClassInfo) (p : RegProgram) (t : FactSets) (s : ModSets) : Type 0 where
  pub holds : HoldsSums h p t s
  pub least : (u : ModSets) → HoldsSums h p t u → SumsWithin s u

-- ---- lists

-- what a list of summaries says, one a method
abbrev pub sums_of : List Mods → ModSets
sums_of mods = record {
  fields = λ m x. option_map_or (λ k. has k.fields x) (slice_get mods m) false;
  statics = λ m x. option_map_or (λ k. has k.statics x) (slice_get mods m) false;
  elements = λ m. option_map_or (λ k. k.elements) (slice_get mods m) false;
  sites = λ m x. option_map_or (λ k. has k.sites x) (slice_get mods m) false;
}

pub record IsListedMods (k : Mods) : Type 0 where
  pub fields : IsAscending k.fields
  pub statics : IsAscending k.statics
  pub sites : IsAscending k.sites

-- the summaries of a program, listed: one for each method
pub record LeastMods (h : List ClassInfo) (p : RegProgram) (facts : Facts) (mods : List Mods) : Type 0 where
  pub least : AreLeastSums h p (sets_of facts) (sums_of mods)
  pub count : length mods ≡ length p.methods
  pub listed : AllByRecursion IsListedMods mods
