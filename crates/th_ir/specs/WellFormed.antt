-- Programs in register form that belong to a class hierarchy: what the register form of every
-- program gives, and all that the layers above ask of it.
use Rattle.std.specs.Prelude.{ℕ, ◌+◌, ◌<◌, ◌≡◌, ◌==◌, ◌&&◌, ◌↔◌, ⊤, Bool, true, false, List, [], ◌∷◌, ◌++◌, length, map, Option, None, Some, slice_get, if◌then◌else◌}
use Rattle.std.specs.List.{AllByRecursion, list_any}
use Rattle.std.specs.Option.{option_map}
use Rattle.std.specs.Str.{bytes_eq}
use Rattle.th_base.specs.declared.built_in.TheConstants.{STRING_NUMBER, BUNDLE_NUMBER}
use Rattle.th_base.specs.declared.class.ClassInfo.{ClassInfo}
use Rattle.th_base.specs.declared.class.FieldInfo.{FieldInfo}
use Rattle.th_base.specs.declared.class.MethodInfo.{MethodInfo}
use Rattle.th_base.specs.declared.lifecycle.Lifecycle.{Lifecycle}
use Rattle.th_base.specs.declared.number.FieldId.{FieldId}
use Rattle.th_base.specs.declared.number.NodeId.{NodeId}
use Rattle.th_base.specs.BuiltIn.{built_in_classes}
use Rattle.th_base.specs.Launchable.{is_launchable}
use Rattle.th_ir.specs.declared.program.RegProgram.{RegProgram}
use Rattle.th_ir.specs.declared.program.Method.{Method}
use Rattle.th_ir.specs.declared.program.Node.{Node}
use Rattle.th_ir.specs.declared.program.Site.{Site}
use Rattle.th_ir.specs.declared.program.Place.{Place}
use Rattle.th_ir.specs.declared.program.Place.TheVariants.{Str, Launch, Event, Code}
use Rattle.th_ir.specs.declared.stmt.Stmt.{Stmt}
use Rattle.th_ir.specs.declared.stmt.Stmt.TheVariants.{Return, Halt}
use Rattle.th_ir.specs.Program.{Among, AreDistinct, method_at, node_at, site_at, is_harness, registers_of}
use Rattle.th_ir.specs.Fields.{stage_field, field_at, field_count, is_ref_field, is_static_field}
use Rattle.th_ir.specs.Sites.{site_class, is_string_place, is_string_site, launch_class}
use Rattle.th_ir.specs.Calls.{owned_methods, declared_at}
use Rattle.th_ir.specs.Effects.{IsInt}
use Rattle.th_ir.specs.Flow.{IsLoopHead}
use Rattle.th_ir.specs.Harness.{IsEventSite, HasHarness}
use Rattle.th_ir.specs.Statements.{HasEntry, IsProper, SetsNoOperand, IsOrdinary}

-- ---- classes and their numbers

-- no two texts are the same
abbrev pub AreDistinctTexts : List (List ℕ) → Type 0
AreDistinctTexts [] = ⊤
AreDistinctTexts (x ∷ xs) = (list_any (bytes_eq x) xs ≡ false) × AreDistinctTexts xs

-- the built-in classes come first; names are distinct; methods and fields are numbered in order; and
-- there are fewer fields than the number of the stage
pub record AreNumbered (h : List ClassInfo) : Type 0 where
  pub files : List ClassInfo
  pub built_in : h ≡ built_in_classes ++ files
  pub names : AreDistinctTexts (map (λ c. c.name) h)
  pub methods : (m : ℕ) (d : ℕ × MethodInfo) → declared_at h m ≡ Some d → d.1.id.0 ≡ m
  pub fields : (f : ℕ) (d : ℕ × FieldInfo) → field_at h f ≡ Some d → d.1.id.0 ≡ f
  pub few_fields : field_count h < stage_field

-- ---- methods

abbrev pub is_return : Stmt → Bool
is_return (Return src) = true
is_return _ = false

-- the places of what meets a test in a list, counted from a number on
abbrev pub places_from : {X : Type 0} → (X → Bool) → ℕ → List X → List ℕ
places_from meets n [] = []
places_from meets n (x ∷ xs) = if meets x then n ∷ places_from meets (n + 1) xs else places_from meets (n + 1) xs

-- the nodes of a method that return
abbrev pub return_nodes : RegProgram → ℕ → List ℕ
return_nodes p m = places_from (λ n. n.method.0 == m && is_return n.stmt) 0 p.nodes

pub record HasOwner (p : RegProgram) (m c : ℕ) : Type 0 where
  pub method : Method
  pub stands : method_at p m ≡ Some method
  pub owner : option_map (λ k. k.0) method.owner ≡ Some c

-- the methods of the classes in order, each with its class, then those of the harness; parameters are
-- distinct registers; `returns` lists the nodes that return
pub record AreMethods (h : List ClassInfo) (p : RegProgram) : Type 0 where
  pub count : length p.methods ≡ length (owned_methods h) + length p.harness
  pub owners : (m : ℕ) (d : ℕ × MethodInfo) → declared_at h m ≡ Some d → HasOwner p m d.0
  pub params : (m : ℕ) (method : Method) → method_at p m ≡ Some method → AreDistinct (map (λ r. r.0) method.params)
  pub returns : (m : ℕ) (method : Method) → method_at p m ≡ Some method → map (λ n. n.0) method.returns ≡ return_nodes p m

-- ---- nodes

-- the node is one of the method
pub record IsNodeOf (p : RegProgram) (m n : ℕ) : Type 0 where
  pub node : Node
  pub stands : node_at p n ≡ Some node
  pub within : node.method.0 ≡ m

-- each node is of a method whose entry is one of its nodes, and so are its successors; statements use
-- what they name as it is meant; loop heads are marked, and nothing else is
pub record AreNodes (h : List ClassInfo) (p : RegProgram) : Type 0 where
  pub entries : (n : ℕ) (node : Node) → node_at p n ≡ Some node → HasEntry p node.method.0
  pub successors : (n : ℕ) (node : Node) (next : NodeId) → node_at p n ≡ Some node → Among node.next next → IsNodeOf p node.method.0 next.0
  pub statements : (n : ℕ) (node : Node) → node_at p n ≡ Some node → IsProper h p node.stmt
  pub operands : (n : ℕ) (node : Node) → node_at p n ≡ Some node → SetsNoOperand node.stmt
  pub loop_heads : (n : ℕ) (node : Node) → node_at p n ≡ Some node → (node.loop_head ≡ true) ↔ IsLoopHead p n

-- ---- registers

-- a method uses a register: as a parameter, or in a statement
pub data Uses (p : RegProgram) (m r : ℕ) : Type 0 where
  as_parameter : (method : Method) → method_at p m ≡ Some method → Among (map (λ x. x.0) method.params) r → Uses p m r
  in_statement : (n : ℕ) (node : Node) → node_at p n ≡ Some node → node.method.0 ≡ m
      → Among (map (λ x. x.0) (registers_of node)) r → Uses p m r

-- each register is used in one method alone
abbrev pub AreApart : RegProgram → Type 0
AreApart p = (m k r : ℕ) → Uses p m r → Uses p k r → m ≡ k

-- ---- sites

-- a site makes what belongs to its place
abbrev pub IsPlaced : List ClassInfo → RegProgram → ℕ → Place → Type 0
IsPlaced h p s (Str text) = site_class h p s ≡ Some STRING_NUMBER
IsPlaced h p s (Launch c) = (is_launchable h c.0 ≡ true) × (site_class h p s ≡ Some c.0)
IsPlaced h p s Event = site_class h p s ≡ Some BUNDLE_NUMBER
IsPlaced h p s (Code m offset) = (d : ℕ × MethodInfo) × (declared_at h m.0 ≡ Some d)

-- the sites of String constants come before all others
abbrev pub StringsFirst : List Site → Type 0
StringsFirst [] = ⊤
StringsFirst (site ∷ sites) =
    (is_string_place site.place ≡ true → StringsFirst sites)
    × (is_string_place site.place ≡ false → AllByRecursion (λ other. is_string_place other.place ≡ false) sites)

-- sites belong to their places, no place has two; String constants come first; each launchable class
-- has a site of launches, and the Bundle has one
pub record AreSites (h : List ClassInfo) (p : RegProgram) : Type 0 where
  pub placed : (s : ℕ) (site : Site) → site_at p s ≡ Some site → IsPlaced h p s site.place
  pub once : (s k : ℕ) (site other : Site) → site_at p s ≡ Some site → site_at p k ≡ Some other → site.place ≡ other.place → s ≡ k
  pub strings_first : StringsFirst p.sites
  pub launches : (c : ℕ) → is_launchable h c ≡ true → (s : ℕ) × (launch_class p s ≡ Some c)
  pub event : (s : ℕ) × IsEventSite h p s

-- ---- constants of static fields

-- the field is static, and holds references or ints
abbrev pub IsConstantField : List ClassInfo → FieldId → Bool → Type 0
IsConstantField h f ref = (is_static_field h f.0 ≡ true) × (is_ref_field h f.0 ≡ ref)

-- static fields of ints hold ints, static fields of references String constants, each field once
pub record AreConstants (h : List ClassInfo) (p : RegProgram) : Type 0 where
  pub ints : AllByRecursion (λ i. IsConstantField h i.0 false × IsInt i.1) p.ints
  pub ints_once : AreDistinct (map (λ i. i.0.0) p.ints)
  pub strings : AllByRecursion (λ i. IsConstantField h i.0 true × (is_string_site p i.1.0 ≡ true)) p.strings
  pub strings_once : AreDistinct (map (λ i. i.0.0) p.strings)

-- ---- the harness

-- the methods of the harness are those of a lifecycle, and only they do what is theirs
pub record IsHarnessed (h : List ClassInfo) (p : RegProgram) : Type 0 where
  pub lifecycle : Lifecycle
  pub methods : HasHarness h lifecycle p
  pub others : (n : ℕ) (node : Node) → node_at p n ≡ Some node → is_harness p node.method.0 ≡ false → IsOrdinary p node.stmt

-- ---- all of it

pub record IsWellFormed (h : List ClassInfo) (p : RegProgram) : Type 0 where
  pub numbers : AreNumbered h
  pub methods : AreMethods h p
  pub nodes : AreNodes h p
  pub registers : AreApart p
  pub sites : AreSites h p
  pub constants : AreConstants h p
  pub harness : IsHarnessed h p
