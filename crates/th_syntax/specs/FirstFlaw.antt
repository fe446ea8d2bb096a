-- The first flaw of bytes that are no class file: that of the first pass that finds one, at the least
-- offset, and there with the least number.
use Rattle.std.specs.Prelude.{◌≡◌, ℕ, ◌<◌, List, [], ◌++◌, length}
use Rattle.th_syntax.specs.declared.cause.TheConstants as cause
use Rattle.th_syntax.specs.declared.refusal.Flaw.{Flaw}
use Rattle.th_syntax.specs.Flaws.{flaw_at, IsFirst}
use Rattle.th_syntax.specs.Forms.{Stands, IsFlawed}
use Rattle.th_syntax.specs.ClassBytes.{RawClass, class_file, magic}
use Rattle.th_syntax.specs.Checks.{second_pass, third_pass, fourth_pass}
use Rattle.th_syntax.specs.ClassGrammar.{IsWhole}

pub data FirstFlaw (bytes : List ℕ) (flaw : Flaw) : Type 0 where
  -- the first four bytes are missing or are not the magic number
  no_magic : ((others : List ℕ) → bytes ≡ magic ++ others → ⊥) → flaw ≡ flaw_at cause.NOT_CLASS 0 → FirstFlaw bytes flaw
  -- the items that lie within the bytes end before one that goes past the end, or where nothing may follow
  items : (others : List ℕ) → bytes ≡ magic ++ others → IsFlawed class_file 4 others flaw → FirstFlaw bytes flaw
  -- bytes follow the last item
  trailing : (others : List ℕ) (class : RawClass) (behind : ℕ) (more : List ℕ) → bytes ≡ magic ++ others
      → Stands class_file 4 others class behind more → 0 < length more → flaw ≡ flaw_at cause.TRAILING behind → FirstFlaw bytes flaw
  -- the items are whole, and a pass finds flaws where those before it find none
  indices : (class : RawClass) → IsWhole bytes class → IsFirst (second_pass class) flaw → FirstFlaw bytes flaw
  names : (class : RawClass) → IsWhole bytes class → second_pass class ≡ [] → IsFirst (third_pass class) flaw → FirstFlaw bytes flaw
  content : (class : RawClass) → IsWhole bytes class → second_pass class ≡ [] → third_pass class ≡ [] → IsFirst (fourth_pass class) flaw
      → FirstFlaw bytes flaw
