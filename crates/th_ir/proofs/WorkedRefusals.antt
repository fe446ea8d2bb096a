-- Steps that are not there.
use Rattle.std.proofs.Common.{◌≡◌, ℕ, zero, suc, pos, List, [], ◌∷◌, Some, slice_get, refl, subst, ap, sym, ◌∙◌}
use Rattle.th_ir.specs.declared.program.Node.{Node}
use Rattle.th_ir.specs.Machine.{RegValue, IntValue, Address, RegObject, RegFrame, RegState, new_object}
use Rattle.th_ir.specs.Effects.{Change, Sets, Effect}
use Rattle.th_ir.specs.Sites.{site_class}
use Rattle.th_ir.specs.Step.{RegReachable, RegStep}
use Rattle.th_ir.specs.WorkedStoring.{storing_classes, storing_program, of_a_bundle, picks}
use Rattle.th_ir.specs.WorkedCharted.{charted_program, charted_9, refused_1, refused_2, refused_3}
use Rattle.th_ir.proofs.Applied.{chosen, begun}
use Rattle.th_ir.proofs.Plain.{some_is}
use Rattle.th_ir.proofs.WorkedChartedRun.{run_9}

-- ---- a handler that the stage does not allow

refused_run_1 : RegReachable storing_classes charted_program refused_1
refused_run_1 = begun storing_classes charted_program charted_9 refused_1 record { 0 = 21 } run_9 refl (2, refl) refl

refused_run_2 : RegReachable storing_classes charted_program refused_2
refused_run_2 = chosen storing_classes charted_program refused_1 refused_2 refused_run_1 record {
  frame = _;
  below = _;
  frames = refl;
  node = _;
  stands = refl;
  change = Sets ((27, Address 0) ∷ []);
  effect = (0, _, (0, refl), refl, refl, refl);
  successor = 0;
  next = refl;
}

pub refused_run : RegReachable storing_classes charted_program refused_3
refused_run = chosen storing_classes charted_program refused_2 refused_3 refused_run_2 record {
  frame = _;
  below = _;
  frames = refl;
  node = _;
  stands = refl;
  change = Sets ((28, IntValue (pos 0)) ∷ []);
  effect = (record { address = 0; object = _; value = refl; stands = refl }, IntValue (pos 0), refl, refl);
  successor = 0;
  next = refl;
}

abbrev pub innermost_regs : List RegFrame → ℕ → RegValue
innermost_regs [] r = IntValue (pos 0)
innermost_regs (f ∷ frames) r = f.regs r

pub start_refused : (u : RegState) → RegStep storing_classes charted_program refused_3 u → ⊥
start_refused u step =
    let holds = subst (λ (n : Node). Effect storing_classes charted_program refused_3 (innermost_regs refused_3.frames) n.stmt step.change) (some_is step.node _ (sym step.stands)) step.effect in
    cc

-- ---- no object of another class is picked

picked_by : (regs : ℕ → RegValue) (c : Change) (a : ℕ) (o : RegObject) (k : ℕ) → slice_get of_a_bundle.launched k ≡ Some a → slice_get of_a_bundle.heap a ≡ Some o
    → site_class storing_classes storing_program o.site ≡ Some 11 → ⊥
picked_by regs c zero o zero is stands class =
    let site : site_class storing_classes storing_program 1 ≡ Some 11 = ap (λ (x : RegObject). site_class storing_classes storing_program x.site) (some_is (new_object storing_classes 8 1) o stands) ∙ class in cc
picked_by regs c (suc a) o zero is stands class = absurd cc
picked_by regs c a o (suc k) is stands class = absurd cc

pub nothing_picked : (regs : ℕ → RegValue) (c : Change) → Effect storing_classes storing_program of_a_bundle regs picks c → ⊥
nothing_picked regs c e = picked_by regs c e.0 e.1 e.2.0 e.2.1 e.3 e.4
