use Rattle.std.proofs.Common.{◌≡◌, ℕ, List, [], length, sym, ap, subst, arith}
use Rattle.std.specs.List.{Contains}
use Rattle.th_incl.proofs.Through.{nothing_in_none}
use Rattle.th_incl.specs.View.{SolverView}
use Rattle.th_points_to.specs.Found.{IsLaid, Holds}
use Rattle.th_points_to.proofs.begin.nothing.Goals as goal

pub returns-clause-laid : goal.returns-clause-laid
returns-clause-laid c =
    let none : c.new-2.result.keys ≡ [] = c.new-2.ensures.empty in
    subst (λ (v : SolverView). IsLaid c.args.layout record { solver = v; cells = c.new-2.result; calls = c.new-3.result; reached = c.new-4.result }) (sym c.in_ok-new.ensures) record {
      first = c.requires.first;
      count = omega (arith, ap length none);
      range = record { base = λ i x one. absurd (nothing_in_none (i, x) one); copies = λ j one. absurd (nothing_in_none j one) };
      sites = λ i x one. absurd (nothing_in_none (i, x) one);
      filters = c.requires.filters;
      every = c.requires.every;
    }

pub returns-clause-holds : goal.returns-clause-holds
returns-clause-holds c = λ t.
    let no_calls : c.new-3.result.keys ≡ [] = c.new-3.ensures.empty in
    let no_methods : c.new-4.result.keys ≡ [] = c.new-4.ensures.empty in
    subst (λ (v : SolverView). Holds c.args.layout record { solver = v; cells = c.new-2.result; calls = c.new-3.result; reached = c.new-4.result } t) (sym c.in_ok-new.ensures) record {
      sets = record { base = λ i x one. absurd (nothing_in_none (i, x) one); copies = λ j x one. absurd (nothing_in_none j one) };
      calls = λ n m one. absurd (nothing_in_none (n, m) (subst (λ (ks : List (ℕ × ℕ)). Contains ks (n, m)) no_calls one));
      reached = λ m one. absurd (nothing_in_none m (subst (λ (ks : List ℕ). Contains ks m) no_methods one));
    }
