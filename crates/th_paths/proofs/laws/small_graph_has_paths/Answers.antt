use Rattle.std.proofs.Common.{◌≡◌, ℕ, zero, suc, List, ◌∷◌, [], Some, slice_get, refl, sym, ap, inl, inr, arith, ◌∙◌}
use Rattle.th_base.specs.declared.number.EdgeId.{EdgeId}
use Rattle.th_ir.specs.declared.graph.Edge.{Edge}
use Rattle.th_ir.specs.declared.graph.Edge.TheVariants.{Static, Field, Element}
use Rattle.th_paths.specs.Paths.{IsPath, begins, goes_on, end_of, start_of}
use Rattle.th_paths.specs.Worked.{worked_field, worked_edges}
use Rattle.th_paths.proofs.Places.{some_is}
use Rattle.th_paths.proofs.laws.small_graph_has_paths.Goals as goal

-- no edge but one of another static field ends at site 4
ends : (k : ℕ) (edge : Edge) → slice_get worked_edges k ≡ Some edge → end_of edge ≡ 4 → edge ≡ Static record { 0 = 8 } record { 0 = 4 }
ends zero edge e at = absurd (let no : 1 ≡ 4 = ap end_of (some_is (Static record { 0 = 7 } record { 0 = 1 }) edge e) ∙ at in omega (arith, no))
ends (suc zero) edge e at = absurd (let no : 2 ≡ 4 = ap end_of (some_is (Static record { 0 = 7 } record { 0 = 2 }) edge e) ∙ at in omega (arith, no))
ends (suc (suc zero)) edge e at =
    absurd (let no : 1 ≡ 4 = ap end_of (some_is (Field record { 0 = 2 } record { 0 = 3 } record { 0 = 1 }) edge e) ∙ at in omega (arith, no))
ends (suc (suc (suc zero))) edge e at = absurd (let no : 2 ≡ 4 = ap end_of (some_is (Element record { 0 = 1 } record { 0 = 2 }) edge e) ∙ at in omega (arith, no))
ends (suc (suc (suc (suc zero)))) edge e at = sym (some_is (Static record { 0 = 8 } record { 0 = 4 }) edge e)
ends (suc (suc (suc (suc (suc k))))) edge e at = absurd cc

abbrev field_number : Edge → ℕ
field_number (Static f x) = f.0
field_number (Field x f y) = f.0
field_number (Element x y) = 0

nowhere : (path : List EdgeId) (x : ℕ) → IsPath worked_edges worked_field path x → x ≡ 4 → ⊥
nowhere path x (begins e s stands) at =
    let no : 7 ≡ 8 = ap field_number (ends e.0 (Static worked_field s) stands at) in absurd (omega (arith, no))
nowhere path x (goes_on before y e edge to stands start) at =
    absurd (let no : start_of (Static record { 0 = 8 } record { 0 = 4 }) ≡ Some y = ap start_of (sym (ends e.0 edge stands at)) ∙ start in cc)

pub returns : goal.returns
returns c = record {
  one = begins record { 0 = 0 } record { 0 = 1 } refl;
  two = goes_on (record { 0 = 1 } ∷ []) 2 record { 0 = 2 } (Field record { 0 = 2 } record { 0 = 3 } record { 0 = 1 }) (begins record { 0 = 1 } record { 0 = 2 } refl) refl refl;
  before = inl (omega arith);
  along = inr (refl, inl (omega arith));
  avoided = (refl, (refl, tt));
  met = λ h. absurd (let no = h.0 in cc);
  none = λ path to. nowhere path 4 to refl;
}
