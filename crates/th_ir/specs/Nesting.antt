-- How calls nest in a run: where a frame began, and that it and the frames below it stand since.
use Rattle.std.specs.Prelude.{ℕ, ◌≡◌, List, [], ◌∷◌, ◌++◌, Some}
use Rattle.std.specs.List.{AllByRecursion}
use Rattle.th_base.specs.declared.class.ClassInfo.{ClassInfo}
use Rattle.th_base.specs.declared.number.MethodId.{MethodId}
use Rattle.th_ir.specs.declared.program.RegProgram.{RegProgram}
use Rattle.th_ir.specs.declared.program.Node.{Node}
use Rattle.th_ir.specs.Program.{Among, node_at}
use Rattle.th_ir.specs.Machine.{RegValue, RegFrame, RegState}
use Rattle.th_ir.specs.Effects.{Enters, Effect}
use Rattle.th_ir.specs.Step.{Begins, RegRun}

-- the Call or Init at which the innermost frame g stands enters the method
pub record EntersFrom (h : List ClassInfo) (p : RegProgram) (outer : RegState) (g : RegFrame) (below : List RegFrame) (m : ℕ)
    (first : RegState) : Type 0 where
  pub node : Node
  pub stands : node_at p g.node ≡ Some node
  pub arguments : List RegValue
  pub effect : Effect h p outer g.regs node.stmt (Enters m arguments)
  pub begins : Begins p outer (g ∷ below) m arguments first

-- the harness starts the method in an idle state
pub record StartsIdle (p : RegProgram) (outer : RegState) (m : ℕ) (first : RegState) : Type 0 where
  pub method : MethodId
  pub listed : Among p.harness method
  pub number : method.0 ≡ m
  pub begins : Begins p outer [] m [] first

-- a state with these frames enters a method, and is then at its entry
abbrev pub HasEntered : List ClassInfo → RegProgram → RegState → List RegFrame → ℕ → RegState → Type 0
HasEntered h p outer [] m first = StartsIdle p outer m first
HasEntered h p outer (g ∷ below) m first = EntersFrom h p outer g below m first

-- the state has these frames at the bottom, and directly above them one of the method
pub record StandsOn (lower : List RegFrame) (m : ℕ) (s : RegState) : Type 0 where
  pub upper : List RegFrame
  pub frame : RegFrame
  pub frames : s.frames ≡ upper ++ frame ∷ lower
  pub method : frame.method ≡ m

-- a run, its last state first, with a frame of the method above these frames: `outer` is the last
-- state whose frames are these alone, `first` comes next and is at the method's entry, and in all
-- states since, the frame and those below it stand
pub record IsNest (h : List ClassInfo) (p : RegProgram) (run : List RegState) (lower : List RegFrame) (m : ℕ) : Type 0 where
  pub since : List RegState
  pub first : RegState
  pub outer : RegState
  pub earlier : List RegState
  pub parts : run ≡ since ++ first ∷ outer ∷ earlier
  pub outer_run : RegRun h p (outer ∷ earlier)
  pub outer_frames : outer.frames ≡ lower
  pub entered : HasEntered h p outer lower m first
  pub stand : AllByRecursion (StandsOn lower m) since
