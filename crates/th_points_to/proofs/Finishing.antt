-- Where nothing is new any more, facts that hold what is asked, and say no more of registers, calls and methods
-- than was found, hold the rules.
use Rattle.std.proofs.Common.{◌≡◌, inl, inr, ℕ, ◌<◌, ◌≤◌, zero, suc, true, List, [], ◌∷◌, length, get_or, Some, slice_get, sym, ap, subst, arith}
use Rattle.std.specs.List.{Contains}
use Rattle.std.proofs.lemmas.Option.{slice_get_within}
use Rattle.th_base.specs.declared.class.ClassInfo.{ClassInfo}
use Rattle.th_base.specs.declared.number.Reg.{Reg}
use Rattle.th_base.specs.declared.operation.Elem.{Elem}
use Rattle.th_base.specs.declared.operation.Elem.TheVariants.{Int as IntElem, Ref as RefElem, Byte as ByteElem, Char as CharElem, Short as ShortElem}
use Rattle.th_base.specs.IdSet.{has}
use Rattle.th_incl.specs.Least.{set_at, In}
use Rattle.th_ir.specs.declared.program.Node.{Node}
use Rattle.th_ir.specs.declared.program.RegProgram.{RegProgram}
use Rattle.th_ir.specs.declared.stmt.CallKind.{CallKind}
use Rattle.th_ir.specs.declared.stmt.CallKind.TheVariants.{Virtual, Special, Static as StaticCall}
use Rattle.th_ir.specs.declared.stmt.Stmt.{Stmt}
use Rattle.th_ir.specs.declared.stmt.Stmt.TheVariants.{GetField, PutField, GetElem, PutElem, Cast, Call}
use Rattle.th_ir.specs.FactSets.{FactSets}
use Rattle.th_ir.specs.Program.{node_at, registers_read}
use Rattle.th_ir.specs.Rules.{Obeys}
use Rattle.th_ir.specs.WellFormed.{IsWellFormed}
use Rattle.th_ir.proofs.Plain.{some_is}
use Rattle.th_points_to.specs.declared.place.Layout.{Layout}
use Rattle.th_points_to.specs.declared.rounds.State.{State}
use Rattle.th_points_to.specs.declared.tables.Tables.{Tables}
use Rattle.th_points_to.specs.Asked.{AsksOn, base_of, receiver_of}
use Rattle.th_points_to.specs.Found.{Holds}
use Rattle.th_points_to.specs.Places.{AreInRange}
use Rattle.th_points_to.specs.Rounds.{IsRoundOf, IsState}
use Rattle.th_points_to.proofs.Obeying.{AreRegisters, HasRegisters, HaveMethods, IsLayout, obeys_of}
use Rattle.th_points_to.proofs.Pairs.{all_has}

pub have_methods : (h : List ClassInfo) (p : RegProgram) → IsWellFormed h p → HaveMethods p
have_methods h p wf n node at = let entry = wf.nodes.entries n node at in slice_get_within p.methods node.method.0 entry.method entry.stands

-- ---- the base of a node is a register that there is

first_inside : (l : Layout) (rs : List Reg) (r : Reg) → AreRegisters l rs → slice_get rs 0 ≡ Some r → r.0 < l.registers
first_inside l [] r all e = absurd cc
first_inside l (x ∷ rs) r all e = subst (λ (y : Reg). y.0 < l.registers) (some_is x r e) all.0

receiver_inside : (l : Layout) (kind : CallKind) (args : List Reg) (r : Reg) → AreRegisters l args → receiver_of kind args ≡ Some r → r.0 < l.registers
receiver_inside l Virtual args r all e = first_inside l args r all e
receiver_inside l (Special k) args r all e = first_inside l args r all e
receiver_inside l StaticCall args r all e = absurd cc

array_inside : (l : Layout) (kind : Elem) (dst array r : Reg) → array.0 < l.registers → base_of (GetElem dst array kind) ≡ Some r → r.0 < l.registers
array_inside l RefElem dst array r inside e = subst (λ (y : Reg). y.0 < l.registers) (some_is array r e) inside
array_inside l IntElem dst array r inside e = absurd cc
array_inside l ByteElem dst array r inside e = absurd cc
array_inside l CharElem dst array r inside e = absurd cc
array_inside l ShortElem dst array r inside e = absurd cc

base_inside : (stmt : Stmt) (l : Layout) (r : Reg) → AreRegisters l (registers_read stmt) → base_of stmt ≡ Some r → r.0 < l.registers
base_inside (GetField dst base f) l r all e = subst (λ (y : Reg). y.0 < l.registers) (some_is base r e) all.0
base_inside (PutField base f src) l r all e = subst (λ (y : Reg). y.0 < l.registers) (some_is base r e) all.0
base_inside (GetElem dst array kind) l r all e = array_inside l kind dst array r all.0 e
base_inside (PutElem array src) l r all e = subst (λ (y : Reg). y.0 < l.registers) (some_is array r e) all.0
base_inside (Cast dst src text) l r all e = subst (λ (y : Reg). y.0 < l.registers) (some_is src r e) all.0
base_inside (Call dst kind m args) l r all e = receiver_inside l kind args r all e
base_inside _ l r all e = absurd cc

-- ---- the rules

place_of : (xs : List ℕ) (k x : ℕ) → k < length xs → get_or xs k x ≡ x → slice_get xs k ≡ Some x
place_of [] k x less e = absurd (omega arith)
place_of (y ∷ xs) zero x less e = ap (λ (z : ℕ). Some z) e
place_of (y ∷ xs) (suc k) x less e = place_of xs k x (omega arith) e

pub obeyed_at_end : (h : List ClassInfo) (l : Layout) (p : RegProgram) (ts : Tables) (s : State) → IsWellFormed h p → IsLayout h p l → HasRegisters l p → IsState h l p ts s
    → IsRoundOf h l p [] s → length s.found.reached.keys ≤ s.opened → (t : FactSets) → AreInRange l t → Holds l s.found t
    → ((r a : ℕ) → r < l.registers → t.reg r a ≡ true → In s.found.solver.sets r a) → ((m : ℕ) → t.reached m ≡ true → Contains s.found.reached.keys m)
    → ((n m : ℕ) → t.call n m ≡ true → Contains s.found.calls.keys (n, m))
    → (n : ℕ) (node : Node) → node_at p n ≡ Some node → t.reached node.method.0 ≡ true → Obeys h p t n node.stmt
obeyed_at_end h l p ts s wf layout regs state is all t range holds sets methods calls n node at reached =
    let have = have_methods h p wf in
    let m = node.method.0 in
    let one = methods m reached in
    let stands : slice_get s.found.reached.keys one.0 ≡ Some m = place_of s.found.reached.keys one.0 m one.1 one.2 in
    let opens = is.round.done t range holds n node at (state.opened_are one.0 m (omega (arith, one.1, all)) stands (have n node at)) in
    let read = regs.read n node at in
    obeys_of node.stmt h l p t n layout regs have range (regs.set n node at) read (wf.nodes.statements n node at) opens.asks
    (λ r a e there.
    (let inside = base_inside node.stmt l r read e in
    let handled : set_at s.handled.items r.0 ≡ set_at s.found.solver.sets r.0 = elim (is.round.seen r.0 inside) [ inl none ↦ absurd cc | inr same ↦ same ] in
    all_has (λ (x : ℕ). AsksOn h l p t n node.stmt record { 0 = x }) (set_at s.handled.items r.0) a.0 (opens.on r e)
    (subst (λ (xs : List ℕ). has xs a.0 ≡ true) (sym handled) (sets r.0 a.0 inside there))))
    (λ to call. is.round.go t range holds n to (calls n to call) node at)
