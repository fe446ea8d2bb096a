-- Whole plans: all that is in a plan is what its program and hierarchy give.
use Rattle.std.specs.Prelude.{ℕ, ◌+◌, ◌≤◌, List, length, sum, map}
use Rattle.th_ir.specs.declared.facts.Facts.{Facts}
use Rattle.th_ir.specs.declared.plan.Plan.{Plan}
use Rattle.th_ir.specs.declared.plan.TheConstants.{MOST_NODES, MOST_REGISTERS, MOST_SITES, MOST_PAIRS, MOST_EDGES, MOST_ALARMS}
use Rattle.th_ir.specs.Program.{register_count}
use Rattle.th_ir.specs.FactSets.{sets_of}
use Rattle.th_ir.specs.Graph.{IsGraph, AreAlarms}
use Rattle.th_ir.specs.Rules.{LeastFacts}
use Rattle.th_ir.specs.Summaries.{LeastMods}
use Rattle.th_ir.specs.WellFormed.{IsWellFormed}

-- how many sites all sets together have
abbrev pub pair_count : Facts → ℕ
pair_count facts =
    sum (map (λ xs. length xs) facts.regs) + sum (map (λ xs. length xs) facts.statics) + sum (map (λ c. length c.2) facts.cells)
    + sum (map (λ e. length e.1) facts.elems)

-- no quantity is past its limit
pub record IsWithinLimits (plan : Plan) : Type 0 where
  pub nodes : length plan.program.nodes ≤ MOST_NODES
  pub registers : register_count plan.program ≤ MOST_REGISTERS
  pub sites : length plan.program.sites ≤ MOST_SITES
  pub pairs : pair_count plan.facts ≤ MOST_PAIRS
  pub edges : length plan.graph.edges ≤ MOST_EDGES
  pub alarms : length plan.alarms ≤ MOST_ALARMS

-- the program is well formed; facts, summaries, graph and alarms are its own; limits hold
pub record IsWhole (plan : Plan) : Type 0 where
  pub formed : IsWellFormed plan.hierarchy plan.program
  pub facts : LeastFacts plan.hierarchy plan.program plan.facts
  pub mods : LeastMods plan.hierarchy plan.program plan.facts plan.mods
  pub graph : IsGraph plan.hierarchy (sets_of plan.facts) plan.graph.edges
  pub alarms : AreAlarms plan.hierarchy plan.program plan.graph.edges plan.alarms
  pub limits : IsWithinLimits plan
