-- Steps 3, 4 and 5 of the canonical form: what nothing names goes, linear facts are divided, repeats
-- go, and so do the facts past the limits.
use Rattle.std.specs.Prelude.{ℕ, ◌==◌, ◌&&◌, ◌||◌, ◌-◌, Bool, pos, List, [], ◌∷◌, ◌++◌, length, take}
use Rattle.std.specs.List.{filter}
use Rattle.th_linear.specs.Forms.{Form}
use Rattle.th_linear.specs.Divided.{normal_of}
use Rattle.th_linear.specs.declared.fact.Rel.TheVariants.{Eq}
use Rattle.th_linear.specs.declared.division.NormalForm.{NormalForm}
use Rattle.th_linear.specs.declared.division.NormalForm.TheVariants.{True, False, Fact}
use Rattle.th_pure.specs.Elimination.{without_repeats}
use Rattle.th_query.specs.declared.query.TheConstants.{MOST_REGISTERS, MOST_STATICS, MOST_LINKS, MOST_DIFFERENCES, MOST_FACTS}
use Rattle.th_query.specs.declared.query.Frame.{Frame}
use Rattle.th_query.specs.declared.query.Query.{Query}
use Rattle.th_query.specs.Symbols.{is_named}
use Rattle.th_query.specs.Unified.{firsts}

-- ---- step 3

-- the differences of symbols that are both named. The symbols that nothing names go when symbols are
-- numbered anew; until then they say nothing
abbrev pub pruned : Query → Query
pruned q = record q { diffs = filter (λ d. is_named q d.0 && is_named q d.1) q.diffs }

-- ---- step 4

-- 1 = 0: the linear fact that stands for every false one
abbrev pub false_fact : Form
false_fact = record { coefs = []; constant = pos 1; rel = Eq }

abbrev pub settled_fact : NormalForm → List Form
settled_fact True = []
settled_fact False = false_fact ∷ []
settled_fact (Fact f) = f ∷ []

-- the facts divided, without those that are always true
abbrev pub settled_facts : List Form → List Form
settled_facts [] = []
settled_facts (f ∷ fs) = settled_fact (normal_of f) ++ settled_facts fs

-- the differences are of the same two symbols, in either order
abbrev pub one_difference : ℕ × ℕ → ℕ × ℕ → Bool
one_difference d e = ((d.0 == e.0) && (d.1 == e.1)) || ((d.0 == e.1) && (d.1 == e.0))

abbrev pub settled : Query → Query
settled q = record q { diffs = firsts one_difference q.diffs; facts = without_repeats (settled_facts q.facts) }

-- ---- step 5

-- no more than n register facts, innermost frames first
abbrev pub cut_frames : ℕ → List Frame → List Frame
cut_frames n [] = []
cut_frames n (f ∷ fs) = record { node = f.node; regs = take n f.regs } ∷ cut_frames (n - length f.regs) fs

-- the facts past the limits go; of links cells come before elements
abbrev pub cut : Query → Query
cut q = record q {
  frames = cut_frames MOST_REGISTERS q.frames;
  statics = take MOST_STATICS q.statics;
  cells = take MOST_LINKS q.cells;
  elems = take (MOST_LINKS - length q.cells) q.elems;
  diffs = take MOST_DIFFERENCES q.diffs;
  facts = take MOST_FACTS q.facts;
}

-- the query within its limits: the later facts go, and then what nothing names
abbrev pub limited : Query → Query
limited q = pruned (cut q)
