-- A method's frame that is kept, and what is then as it was.
use Rattle.std.specs.Prelude.{ℕ, ◌≡◌, ◌<◌, List, ◌∷◌, ◌++◌, length}
use Rattle.std.specs.List.{AllByRecursion}
use Rattle.th_base.specs.declared.class.ClassInfo.{ClassInfo}
use Rattle.th_ir.specs.declared.program.RegProgram.{RegProgram}
use Rattle.th_ir.specs.Machine.{RegFrame, RegState}
use Rattle.th_ir.specs.Nesting.{StandsOn}
use Rattle.th_ir.specs.Step.{RegRun}
use Rattle.th_ir.specs.Summaries.{ModSets}
use Rattle.th_ir.specs.Unchanged.{IsUnchanged}

-- a part of a run, its last state first: in `first` the innermost frame is one of the method, and no state
-- since has as few frames as were below it
pub record KeepsFrame (h : List ClassInfo) (p : RegProgram) (since : List RegState) (first : RegState) (earlier : List RegState)
    (lower : List RegFrame) (m : ℕ) : Type 0 where
  pub run : RegRun h p (since ++ first ∷ earlier)
  pub frame : RegFrame
  pub begins : first.frames ≡ frame ∷ lower
  pub method : frame.method ≡ m
  pub deep : AllByRecursion (λ s. length lower < length s.frames) since

-- the frames below are as they were, with one of the method on them, and nothing else changed but what the
-- method's summary writes and makes
pub record IsAsBefore (mods : ModSets) (lower : List RegFrame) (m : ℕ) (first last : RegState) : Type 0 where
  pub stands : StandsOn lower m last
  pub unchanged : IsUnchanged mods m first last
