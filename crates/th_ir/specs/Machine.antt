-- The states of the register machine.
use Rattle.std.specs.Prelude.{ℕ, ℤ, pos, zero, suc, ◌+◌, ◌==◌, Bool, true, false, List, [], ◌∷◌, Option, None, Some, slice_get, slice_set, length, ◌≡◌, if◌then◌else◌}
use Rattle.th_base.specs.declared.built_in.TheConstants.{STRING_NUMBER}
use Rattle.th_base.specs.declared.class.ClassInfo.{ClassInfo}
use Rattle.th_ir.specs.declared.program.RegProgram.{RegProgram}
use Rattle.th_ir.specs.declared.program.Site.{Site}
use Rattle.th_ir.specs.Fields.{is_ref_field, class_has}
use Rattle.th_ir.specs.Sites.{is_string_place}

-- a value: an int, null, or the address of an object
pub data RegValue : Type 0 where
  IntValue : ℤ → RegValue
  NullValue : RegValue
  Address : ℕ → RegValue

-- what an object holds: a value for each field that its class has, or the elements of an array. The
-- length of an array is how many elements it has.
pub data Contents : Type 0 where
  Instance : (fields : ℕ → Option RegValue) → Contents
  Array : (elements : List RegValue) → Contents

-- an object or array, with the site at which it was made
pub record RegObject : Type 0 where
  pub site : ℕ
  pub contents : Contents

-- a frame: its method, its node (the next to run or, below another frame, the Call or Init in
-- progress), and its registers
pub record RegFrame : Type 0 where
  pub method : ℕ
  pub node : ℕ
  pub regs : ℕ → RegValue

-- a state: the objects in order, where an object's address is its place; the static fields; the
-- frames, the innermost first; and the addresses of the launched objects in order. A state without
-- frames is idle.
pub record RegState : Type 0 where
  pub heap : List RegObject
  pub statics : ℕ → RegValue
  pub frames : List RegFrame
  pub launched : List ℕ

-- ---- what is read

abbrev pub field_value : ℕ → Contents → Option RegValue
field_value f (Instance fields) = fields f
field_value f (Array elements) = None

abbrev pub element_value : ℕ → Contents → Option RegValue
element_value k (Instance fields) = None
element_value k (Array elements) = slice_get elements k

abbrev pub length_of : Contents → Option ℕ
length_of (Instance fields) = None
length_of (Array elements) = Some (length elements)

-- the value is the address of an object of the heap
pub record PointsTo (heap : List RegObject) (v : RegValue) : Type 0 where
  pub address : ℕ
  pub object : RegObject
  pub value : v ≡ Address address
  pub stands : slice_get heap address ≡ Some object

-- ---- what is written

-- what a place of references, or of ints, holds before anything is stored into it (Java specification 2.3, 2.4)
abbrev pub first_value : Bool → RegValue
first_value true = NullValue
first_value false = IntValue (pos 0)

-- registers after these writes; of several to one register the first counts
abbrev pub written : List (ℕ × RegValue) → (ℕ → RegValue) → ℕ → RegValue
written [] regs r = regs r
written (w ∷ ws) regs r = if r == w.0 then w.1 else written ws regs r

-- static fields after a write
abbrev pub static_written : ℕ → RegValue → (ℕ → RegValue) → ℕ → RegValue
static_written f v statics g = if g == f then v else statics g

abbrev pub with_field : ℕ → RegValue → Contents → Contents
with_field f v (Instance fields) = Instance (λ g. if g == f then Some v else fields g)
with_field f v (Array elements) = Array elements

abbrev pub with_element : ℕ → RegValue → Contents → Contents
with_element k v (Instance fields) = Instance fields
with_element k v (Array elements) = Array (slice_set elements k v)

-- the heap with the contents of the object at an address changed
abbrev pub changed_at : ℕ → (Contents → Contents) → List RegObject → List RegObject
changed_at a change [] = []
changed_at zero change (o ∷ os) = record o { contents = change o.contents } ∷ os
changed_at (suc a) change (o ∷ os) = o ∷ changed_at a change os

-- ---- new objects, and the initial state

-- the fields of a new object of a class (Java specification 6.5, new)
abbrev pub new_field : List ClassInfo → ℕ → ℕ → Option RegValue
new_field h c f = if class_has h c f then Some (first_value (is_ref_field h f)) else None

-- a new object of a class, made at a site
abbrev pub new_object : List ClassInfo → ℕ → ℕ → RegObject
new_object h c s = record { site = s; contents = Instance (new_field h c) }

-- the String constants, whose sites come before all others: from the site with this number on
abbrev pub strings_from : List ClassInfo → ℕ → List Site → List RegObject
strings_from h s [] = []
strings_from h s (site ∷ sites) =
    if is_string_place site.place then new_object h STRING_NUMBER s ∷ strings_from h (s + 1) sites else []

abbrev pub value_or : RegValue → Option RegValue → RegValue
value_or other None = other
value_or other (Some v) = v

-- the first value that a list of constants gives, or another
abbrev pub constant_in : {X : Type 0} → (X → Option RegValue) → RegValue → List X → RegValue
constant_in f other [] = other
constant_in f other (x ∷ xs) = value_or (constant_in f other xs) (f x)

-- what a static field holds at first: its constant, else 0 or null
abbrev pub initial_static : List ClassInfo → RegProgram → ℕ → RegValue
initial_static h p f =
    constant_in (λ i. if i.0.0 == f then Some (IntValue i.1) else None)
    (constant_in (λ i. if i.0.0 == f then Some (Address i.1.0) else None) (first_value (is_ref_field h f)) p.strings)
    p.ints

-- the String constants are there, static fields hold their constants, and nothing runs or is launched
abbrev pub initial_state : List ClassInfo → RegProgram → RegState
initial_state h p = record { heap = strings_from h 0 p.sites; statics = initial_static h p; frames = []; launched = [] }
