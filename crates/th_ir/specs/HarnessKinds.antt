-- What a method of the harness does, as callers of `harness_kind` see it.
use Rattle.std.specs.Prelude.{ℕ, ◌-◌, ◌≡◌, ◌&&◌, nat_le, nat_lt, List, [], ◌∷◌, drop, Option, None, Some, is_some, slice_get, if◌then◌else◌}
use Rattle.std.specs.Option.{option_map, option_and_then}
use Rattle.th_base.specs.declared.class.ClassInfo.{ClassInfo}
use Rattle.th_base.specs.declared.lifecycle.Lifecycle.{Lifecycle}
use Rattle.th_base.specs.declared.number.ClassId.{ClassId}
use Rattle.th_base.specs.declared.number.MethodId.{MethodId}
use Rattle.th_base.specs.Handlers.{Handler, handlers}
use Rattle.th_base.specs.Hierarchy.{first_some}
use Rattle.th_ir.specs.declared.harness.HarnessKind.{HarnessKind}
use Rattle.th_ir.specs.declared.harness.HarnessKind.TheVariants.{Launch, Handler as Handle}
use Rattle.th_ir.specs.declared.harness.TheConstants.{FIRST_HANDLER, HANDLER_COUNT}
use Rattle.th_ir.specs.declared.program.RegProgram.{RegProgram}
use Rattle.th_ir.specs.declared.program.Method.{Method}
use Rattle.th_ir.specs.declared.program.Node.{Node}
use Rattle.th_ir.specs.declared.stmt.Stmt.{Stmt}
use Rattle.th_ir.specs.declared.stmt.Stmt.TheVariants.{Nop, Call, Init, Pick}
use Rattle.th_ir.specs.Program.{method_at}
use Rattle.th_ir.specs.Harness.{HarnessMethod, Launches, Handles, HandlesAt, harness_methods, HasHarness}

-- ---- what is said

-- the kind of a call of a handler on objects of a class: the handler by its place among the handlers
pub record IsHandled (c : ℕ) (handler : Handler) (kind : HarnessKind) : Type 0 where
  pub place : ℕ
  pub stands : slice_get handlers place ≡ Some handler
  pub kind_is : kind ≡ Handle record { 0 = c } place

-- the kind says what a method of the harness does; of a row of the chart it says the handler alone
abbrev pub Says : HarnessMethod → HarnessKind → Type 0
Says (Launches c) kind = kind ≡ Launch record { 0 = c }
Says (Handles c handler) kind = IsHandled c handler kind
Says (HandlesAt c row) kind = IsHandled c row.handler kind

-- under some lifecycle the program has its harness, and the kind says what the method with this
-- number does in it
pub record IsHarnessKind (h : List ClassInfo) (p : RegProgram) (m : ℕ) (kind : HarnessKind) : Type 0 where
  pub lifecycle : Lifecycle
  pub harness : HasHarness h lifecycle p
  pub place : ℕ
  pub number : MethodId
  pub does : HarnessMethod
  pub listed : slice_get p.harness place ≡ Some number
  pub stands : slice_get (harness_methods h lifecycle) place ≡ Some does
  pub is : number.0 ≡ m
  pub says : Says does kind

-- ---- where it is found

-- the method that a call names
abbrev pub called_in : Stmt → Option MethodId
called_in (Call dst kind m args) = Some m
called_in _ = None

abbrev pub called_by : Node → Option MethodId
called_by node = called_in node.stmt

-- the handler for which Activity has the method, by its place
abbrev pub handler_of : MethodId → Option ℕ
handler_of m = if nat_lt m.0 FIRST_HANDLER then None else if nat_lt (m.0 - FIRST_HANDLER) HANDLER_COUNT then Some (m.0 - FIRST_HANDLER) else None

-- by the first statement, and the nodes after it
abbrev pub kind_by : Stmt → List Node → Option HarnessKind
kind_by (Init c) nodes = Some (Launch c)
kind_by (Pick dst c) nodes = option_map (λ place. Handle c place) (option_and_then handler_of (first_some called_by nodes))
kind_by _ nodes = None

abbrev pub kind_from : List Node → Option HarnessKind
kind_from [] = None
kind_from (node ∷ nodes) = kind_by node.stmt nodes

-- by the method's number
abbrev pub kind_found : RegProgram → ℕ → Option HarnessKind
kind_found p m = option_and_then (λ (x : Method). if is_some x.owner then None else kind_from (drop x.entry.0 p.nodes)) (method_at p m)
