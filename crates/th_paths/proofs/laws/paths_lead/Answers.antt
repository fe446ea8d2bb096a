use Rattle.std.proofs.Common.{◌≡◌, ℕ, List, ◌∷◌, ◌++◌, [], Some, slice_get, refl, sym, subst}
use Rattle.th_base.specs.declared.number.EdgeId.{EdgeId}
use Rattle.th_base.specs.declared.number.FieldId.{FieldId}
use Rattle.th_base.specs.declared.number.SiteId.{SiteId}
use Rattle.th_ir.specs.declared.graph.Edge.{Edge}
use Rattle.th_ir.specs.declared.graph.Edge.TheVariants.{Static, Field, Element}
use Rattle.th_ir.specs.Graph.{LeadsTo, begins, by_field, by_element}
use Rattle.th_paths.specs.Paths.{IsPath, end_of, start_of, begins as starts_with, goes_on}
use Rattle.th_paths.proofs.Places.{some_is}
use Rattle.th_paths.proofs.laws.paths_lead.Goals as goal

path : (edges : List Edge) (f : FieldId) (x : SiteId) → LeadsTo edges f x → (path : List EdgeId) × IsPath edges f path x.0
path edges f x (begins {x = s} among) = let e : EdgeId = record { 0 = among.0 } in (e ∷ [], starts_with e s among.1)
path edges f x (by_field {x = s} {y = y} g to among) =
    let before = path edges f s to in let e : EdgeId = record { 0 = among.0 } in (before.0 ++ e ∷ [], goes_on before.0 s.0 e (Field s g y) before.1 among.1 refl)
path edges f x (by_element {x = s} {y = y} to among) =
    let before = path edges f s to in let e : EdgeId = record { 0 = among.0 } in (before.0 ++ e ∷ [], goes_on before.0 s.0 e (Element s y) before.1 among.1 refl)

abbrev site : ℕ → SiteId
site x = record { 0 = x }

one_more : (edges : List Edge) (f : FieldId) (x k : ℕ) (edge : Edge) → LeadsTo edges f (site x) → slice_get edges k ≡ Some edge → start_of edge ≡ Some x → LeadsTo edges f (site (end_of edge))
one_more edges f x k (Static g y) to stands start = absurd cc
one_more edges f x k (Field s g y) to stands start = by_field g (subst (λ n. LeadsTo edges f (site n)) (sym (some_is s.0 x start)) to) (k, stands)
one_more edges f x k (Element s y) to stands start = by_element (subst (λ n. LeadsTo edges f (site n)) (sym (some_is s.0 x start)) to) (k, stands)

leads : (edges : List Edge) (f : FieldId) (path : List EdgeId) (x : ℕ) → IsPath edges f path x → LeadsTo edges f (site x)
leads edges f path x (starts_with e s stands) = begins (e.0, stands)
leads edges f path x (goes_on before y e edge to stands start) = one_more edges f y e.0 edge (leads edges f before y to) stands start

pub returns : goal.returns
returns c = record { path = path; leads = λ edges f x p to. leads edges f p x.0 to }
