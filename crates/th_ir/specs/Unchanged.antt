-- What a method leaves as it was, with all that it calls and initialises.
use Rattle.std.specs.Prelude.{ℕ, ◌≡◌, true, false, List, [], ◌∷◌, ◌++◌, None, Some, slice_get}
use Rattle.std.specs.List.{AllByRecursion}
use Rattle.th_base.specs.declared.class.ClassInfo.{ClassInfo}
use Rattle.th_ir.specs.declared.program.RegProgram.{RegProgram}
use Rattle.th_ir.specs.Machine.{Contents, RegObject, RegFrame, RegState, field_value, element_value, length_of}
use Rattle.th_ir.specs.Step.{RegRun}
use Rattle.th_ir.specs.Nesting.{StandsOn, IsNest}
use Rattle.th_ir.specs.Summaries.{ModSets}

-- the contents are the same but for what the method's summary writes
pub record SameContents (mods : ModSets) (m : ℕ) (before after : Contents) : Type 0 where
  pub fields : (f : ℕ) → mods.fields m f ≡ false → field_value f after ≡ field_value f before
  pub elements : mods.elements m ≡ false → (k : ℕ) → element_value k after ≡ element_value k before
  pub length : length_of after ≡ length_of before

-- the object at the address is still there, of the same site, with the same contents but for those
pub record IsKept (mods : ModSets) (m : ℕ) (o : RegObject) (a : ℕ) (after : RegState) : Type 0 where
  pub now : RegObject
  pub stands : slice_get after.heap a ≡ Some now
  pub site : now.site ≡ o.site
  pub contents : SameContents mods m o.contents now.contents

-- the second state is the first, but for what the method's summary writes and makes
pub record IsUnchanged (mods : ModSets) (m : ℕ) (before after : RegState) : Type 0 where
  pub statics : (f : ℕ) → mods.statics m f ≡ false → after.statics f ≡ before.statics f
  pub objects : (a : ℕ) (o : RegObject) → slice_get before.heap a ≡ Some o → IsKept mods m o a after
  pub made : (a : ℕ) (o : RegObject) → slice_get after.heap a ≡ Some o → slice_get before.heap a ≡ None → mods.sites m o.site ≡ true

-- a part of a run, its last state first: `first` is at the entry of the method, whose frame, above
-- these frames, stands in all states since
pub record IsWithinCall (h : List ClassInfo) (p : RegProgram) (since : List RegState) (first : RegState) (earlier : List RegState)
    (lower : List RegFrame) (m : ℕ) : Type 0 where
  pub run : RegRun h p (since ++ first ∷ earlier)
  pub frame : RegFrame
  pub begins : first.frames ≡ frame ∷ lower
  pub method : frame.method ≡ m
  pub stand : AllByRecursion (StandsOn lower m) since

-- the last state of such a part
abbrev pub last_of : List RegState → RegState → RegState
last_of [] first = first
last_of (u ∷ since) first = u

-- the last state of a run has a frame of the method above these frames: the run has a last state
-- without it, and but for what the summary writes and makes that state is the same
pub record IsPassed (h : List ClassInfo) (p : RegProgram) (mods : ModSets) (run : List RegState) (lower : List RegFrame) (m : ℕ)
    (last : RegState) : Type 0 where
  pub nest : IsNest h p run lower m
  pub unchanged : IsUnchanged mods m nest.outer last
