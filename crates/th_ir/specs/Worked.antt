-- The parts of which the small programs of the worked laws are made, all written by hand.
use Rattle.std.specs.Prelude.{ℕ, Bool, true, false, List, [], ◌∷◌, ◌++◌, codes, Option, None, Some}
use Rattle.th_base.specs.declared.class.ClassInfo.{ClassInfo}
use Rattle.th_base.specs.declared.class.FieldInfo.{FieldInfo}
use Rattle.th_base.specs.declared.class.MethodInfo.{MethodInfo}
use Rattle.th_base.specs.declared.number.MethodId.{MethodId}
use Rattle.th_base.specs.declared.number.NodeId.{NodeId}
use Rattle.th_base.specs.declared.number.Reg.{Reg}
use Rattle.th_base.specs.BuiltIn.{built_in_method}
use Rattle.th_ir.specs.declared.program.Method.{Method}
use Rattle.th_ir.specs.declared.program.Node.{Node}
use Rattle.th_ir.specs.declared.program.Place.{Place}
use Rattle.th_ir.specs.declared.program.Site.{Site}
use Rattle.th_ir.specs.declared.stmt.CallKind.TheVariants.{Virtual, Special}
use Rattle.th_ir.specs.declared.stmt.Stmt.{Stmt}
use Rattle.th_ir.specs.declared.stmt.Stmt.TheVariants.{Null, New, Call, Init, Return, Pick}
use Rattle.th_ir.specs.Harness.{to}

-- ---- classes

abbrev pub method_info : ℕ → List ℕ → List ℕ → MethodInfo
method_info n name descriptor = built_in_method n name descriptor

abbrev pub static_method_info : ℕ → List ℕ → List ℕ → MethodInfo
static_method_info n name descriptor = record (built_in_method n name descriptor) { is_static = true }

abbrev pub field_info : ℕ → Bool → List ℕ → List ℕ → FieldInfo
field_info n is_static name descriptor = record { id = record { 0 = n }; name = name; descriptor = descriptor; is_static = is_static }

abbrev pub class_info : List ℕ → ℕ → List FieldInfo → List MethodInfo → ClassInfo
class_info name super fields methods = record {
  name = name;
  super_id = Some record { 0 = super };
  interfaces = [];
  is_interface = false;
  is_abstract = false;
  fields = fields;
  methods = methods;
}

-- ---- methods and nodes

abbrev pub reg : ℕ → Reg
reg n = record { 0 = n }

abbrev pub site : List ℕ → Place → Site
site class place = record { class = class; place = place }

-- a node of a method that is no loop head
abbrev pub node : ℕ → ℕ → Stmt → List NodeId → Node
node m offset stmt next = record { method = record { 0 = m }; offset = offset; stmt = stmt; next = next; loop_head = false }

-- a method of a class, with its entry, its parameters and its one node that returns
abbrev pub own : ℕ → ℕ → List Reg → ℕ → Method
own owner entry params last =
    record { owner = Some record { 0 = owner }; entry = record { 0 = entry }; params = params; returns = to last }

-- a method of the harness
abbrev pub harness_method : ℕ → ℕ → Method
harness_method entry last = record { owner = None; entry = record { 0 = entry }; params = []; returns = to last }

-- a call of a method that is itself taken
abbrev pub call_special : ℕ → List Reg → Stmt
call_special m args = Call None (Special (Some record { 0 = m })) record { 0 = m } args

-- ---- what every program begins with

-- the methods of the built-in classes
abbrev pub built_in_methods : List Method
built_in_methods =
    own 0 0 (reg 0 ∷ []) 0
    ∷ own 1 1 (reg 1 ∷ []) 1
    ∷ own 2 2 (reg 2 ∷ []) 2
    ∷ own 3 3 (reg 3 ∷ []) 3
    ∷ own 4 4 (reg 4 ∷ []) 4
    ∷ own 5 5 (reg 5 ∷ []) 5
    ∷ own 8 6 (reg 6 ∷ []) 6
    ∷ own 9 7 (reg 7 ∷ []) 7
    ∷ own 10 8 (reg 8 ∷ []) 8
    ∷ own 10 9 (reg 9 ∷ reg 10 ∷ []) 9
    ∷ own 10 10 (reg 11 ∷ []) 10
    ∷ own 10 11 (reg 12 ∷ []) 11
    ∷ own 10 12 (reg 13 ∷ []) 12
    ∷ own 10 13 (reg 14 ∷ []) 13
    ∷ own 10 14 (reg 15 ∷ []) 14
    ∷ own 10 15 (reg 16 ∷ []) 15
    ∷ own 10 16 (reg 17 ∷ reg 18 ∷ []) 16
    ∷ []

-- their nodes: each returns
abbrev pub built_in_nodes : List Node
built_in_nodes =
    node 0 0 (Return None) []
    ∷ node 1 0 (Return None) []
    ∷ node 2 0 (Return None) []
    ∷ node 3 0 (Return None) []
    ∷ node 4 0 (Return None) []
    ∷ node 5 0 (Return None) []
    ∷ node 6 0 (Return None) []
    ∷ node 7 0 (Return None) []
    ∷ node 8 0 (Return None) []
    ∷ node 9 0 (Return None) []
    ∷ node 10 0 (Return None) []
    ∷ node 11 0 (Return None) []
    ∷ node 12 0 (Return None) []
    ∷ node 13 0 (Return None) []
    ∷ node 14 0 (Return None) []
    ∷ node 15 0 (Return None) []
    ∷ node 16 0 (Return None) []
    ∷ []

-- the registers of their parameters hold references
abbrev pub built_in_refs : List ℕ
built_in_refs = 0 ∷ 1 ∷ 2 ∷ 3 ∷ 4 ∷ 5 ∷ 6 ∷ 7 ∷ 8 ∷ 9 ∷ 10 ∷ 11 ∷ 12 ∷ 13 ∷ 14 ∷ 15 ∷ 16 ∷ 17 ∷ 18 ∷ []

-- ---- facts

abbrev pub no_sites : List ℕ
no_sites = []

-- the node may call the method
abbrev pub call_of : ℕ → ℕ → NodeId × MethodId
call_of n m = (record { 0 = n }, record { 0 = m })
