-- From the initial state on: what a run realises, it stored, or the initial state holds as a constant.
use Rattle.std.proofs.Common.{◌≡◌, ℕ, ℤ, zero, suc, ◌+◌, ◌==◌, ◌⊎◌, inl, inr, Bool, true, false, List, [], ◌∷◌, Option, None, Some, slice_get, refl, sym, ap, subst, ◌∙◌, if◌then◌else◌}
use Rattle.std.proofs.lemmas.Bool.{eqb-true}
use Rattle.th_base.specs.declared.built_in.TheConstants.{STRING_NUMBER}
use Rattle.th_base.specs.declared.class.ClassInfo.{ClassInfo}
use Rattle.th_base.specs.declared.number.FieldId.{FieldId}
use Rattle.th_base.specs.declared.number.SiteId.{SiteId}
use Rattle.th_ir.specs.declared.graph.Edge.{Edge}
use Rattle.th_ir.specs.declared.graph.Edge.TheVariants.{Static, Field, Element}
use Rattle.th_ir.specs.declared.graph.Producer.TheVariants.{Node as StoreAt, Constant}
use Rattle.th_ir.specs.declared.program.RegProgram.{RegProgram}
use Rattle.th_ir.specs.declared.program.Site.{Site}
use Rattle.th_ir.specs.Program.{Among}
use Rattle.th_ir.specs.Fields.{is_ref_field}
use Rattle.th_ir.specs.Sites.{is_string_place, is_string_site}
use Rattle.th_ir.specs.Machine.{RegValue, IntValue, Address, RegObject, RegState, first_value, new_object, strings_from, value_or, constant_in, initial_static, initial_state}
use Rattle.th_ir.specs.FactSets.{FactSets}
use Rattle.th_ir.specs.Covered.{Covers}
use Rattle.th_ir.specs.Good.{IsGood}
use Rattle.th_ir.specs.Graph.{IsOfSite, Realises}
use Rattle.th_ir.specs.Step.{RegRun, RegReachable}
use Rattle.th_ir.specs.WellFormed.{IsConstantField, IsWellFormed}
use Rattle.th_ir.proofs.Plain.{some_is, same_found, all_at}
use Rattle.th_graph.specs.Produced.{IsProduced}
use Rattle.th_graph.proofs.Stores.{HoldsNothing, object_is_empty, first_is_no_address}
use Rattle.th_graph.proofs.Written.{step_looks}

-- ---- the initial state

-- a String constant holds no address
string_is_empty : (h : List ClassInfo) (sites : List Site) (s a : ℕ) (o : RegObject) → slice_get (strings_from h s sites) a ≡ Some o → HoldsNothing o
string_is_empty h [] s a o e = absurd cc
string_is_empty h (site ∷ sites) s a o e = by_place (is_string_place site.place) a (λ k is. string_is_empty h sites (s + 1) k o is) e
  where
    by_place : (b : Bool) (k : ℕ) → ((j : ℕ) → slice_get (strings_from h (s + 1) sites) j ≡ Some o → HoldsNothing o) → slice_get (if b then new_object h STRING_NUMBER s ∷ strings_from h (s + 1) sites else []) k ≡ Some o → HoldsNothing o
    by_place true zero more is = subst HoldsNothing (some_is (new_object h STRING_NUMBER s) o is) (object_is_empty h STRING_NUMBER s)
    by_place true (suc k) more is = more k is
    by_place false k more is = absurd cc

-- the first constant in a list, or the value that comes after it
constant_from : {X : Type 0} (f : X → Option RegValue) (other v : RegValue) (xs : List X) → constant_in f other xs ≡ v → (other ≡ v) ⊎ ((x : X) × Among xs x × (f x ≡ Some v))
constant_from f other v [] e = inl e
constant_from {X} f other v (x ∷ xs) e = by_first (f x) refl (λ same. constant_from f other v xs same) e
  where
    by_first : (o : Option RegValue) → f x ≡ o → (constant_in f other xs ≡ v → (other ≡ v) ⊎ ((y : X) × Among xs y × (f y ≡ Some v))) → value_or (constant_in f other xs) o ≡ v → (other ≡ v) ⊎ ((y : X) × Among (x ∷ xs) y × (f y ≡ Some v))
    by_first None is more same = elim (more same) [ inl rest ↦ inl rest | inr found ↦ inr (found.0, (suc found.1.0, found.1.1), found.2) ]
    by_first (Some w) is more same = inr (x, (0, refl), is ∙ ap Some same)

no_int : (b : Bool) (n : ℤ) (a : ℕ) → (if b then Some (IntValue n) else None) ≡ Some (Address a) → ⊥
no_int true n a e = cc
no_int false n a e = cc

the_string : (k f b a : ℕ) (same : Bool) → (k == f) ≡ same → (if same then Some (Address b) else None) ≡ Some (Address a) → (k ≡ f) × (b ≡ a)
the_string k f b a true is e = (eqb-true k f is, cc)
the_string k f b a false is e = absurd cc

-- the String constant that a static field holds at first
first_constant : (h : List ClassInfo) (p : RegProgram) (f a : ℕ) → initial_static h p f ≡ Address a → (i : FieldId × SiteId) × Among p.strings i × (i.0.0 ≡ f) × (i.1.0 ≡ a)
first_constant h p f a e =
    elim (constant_from (λ (i : FieldId × ℤ). if i.0.0 == f then Some (IntValue i.1) else None)
    (constant_in (λ (i : FieldId × SiteId). if i.0.0 == f then Some (Address i.1.0) else None) (first_value (is_ref_field h f)) p.strings) (Address a) p.ints e) [
      | inr int ↦ absurd (no_int (int.0.0.0 == f) int.0.1 a int.2)
      | inl strings ↦
          elim (constant_from (λ (i : FieldId × SiteId). if i.0.0 == f then Some (Address i.1.0) else None) (first_value (is_ref_field h f)) (Address a) p.strings strings) [
            | inl none ↦ absurd (first_is_no_address (is_ref_field h f) a none)
            | inr string ↦ (let is = the_string string.0.0.0 f string.0.1.0 a (string.0.0.0 == f) refl string.2 in (string.0, string.1, is.0, is.1))
          ]
    ]

-- the place of the site in the constants, where the static field holds its String at first
constant_held : (h : List ClassInfo) (p : RegProgram) (t : FactSets) (s : RegState) (f : FieldId) (x : SiteId) → IsWellFormed h p → IsGood h p t s → s ≡ initial_state h p → IsOfSite s (s.statics f.0) x.0 → Among p.strings (f, x)
constant_held h p t s f x wf good initial is =
    let field : ℕ → FieldId = λ n. record { 0 = n } in
    let site : ℕ → SiteId = λ n. record { 0 = n } in
    let first = first_constant h p f.0 is.at.address (sym (ap (λ (y : RegState). y.statics f.0) initial) ∙ is.at.value) in
    let i : FieldId × SiteId = first.0 in
    let strings = all_at (λ (k : FieldId × SiteId). IsConstantField h k.0 true × (is_string_site p k.1.0 ≡ true)) p.strings first.1.0 i wf.constants.strings first.1.1 in
    let object = good.strings i.1.0 strings.1 in
    let same : object.0 ≡ is.at.object = same_found (slice_get s.heap is.at.address) object.0 is.at.object (ap (slice_get s.heap) (sym first.3) ∙ object.1) is.at.stands in
    let at : i.1.0 ≡ x.0 = sym object.2 ∙ ap (λ (o : RegObject). o.site) same ∙ is.made in
    let pair : i ≡ (f, x) = ap (λ (k : FieldId). let both : FieldId × SiteId = (k, i.1) in both) (ap field first.2) ∙ ap (λ (y : SiteId). let both : FieldId × SiteId = (f, y) in both) (ap site at) in
    (first.1.0, first.1.1 ∙ ap Some pair)

produced_first : (h : List ClassInfo) (p : RegProgram) (t : FactSets) (s : RegState) (e : Edge) → IsWellFormed h p → IsGood h p t s → s ≡ initial_state h p → Realises s e → IsProduced h p t (s ∷ []) e
produced_first h p t s (Static f x) wf good initial is = record {
  producer = Constant f;
  produces = (refl, constant_held h p t s f x wf good initial is);
  since = [];
  state = s;
  earlier = [];
  parts = refl;
  run_before = initial;
  at = record { none = refl; initial = initial; realises = is };
}
produced_first h p t s (Field x f y) wf good initial is =
    let nothing = string_is_empty h p.sites 0 is.0.address is.0.object (ap (λ (u : RegState). slice_get u.heap is.0.address) (sym initial) ∙ is.0.stands) in
    absurd (nothing.fields f.0 is.3.at.address (is.2 ∙ ap Some is.3.at.value))
produced_first h p t s (Element x y) wf good initial is =
    let nothing = string_is_empty h p.sites 0 is.0.address is.0.object (ap (λ (u : RegState). slice_get u.heap is.0.address) (sym initial) ∙ is.0.stands) in
    absurd (nothing.elements is.1 is.4.at.address (is.3 ∙ ap Some is.4.at.value))

-- ---- every run

pub produced : (h : List ClassInfo) (p : RegProgram) (t : FactSets) → IsWellFormed h p → ((s : RegState) → RegReachable h p s → Covers h p t s) → ((s : RegState) → RegReachable h p s → IsGood h p t s)
    → (before : List RegState) (s : RegState) (e : Edge) → RegRun h p (s ∷ before) → Realises s e → IsProduced h p t (s ∷ before) e
produced h p t wf covers good [] s e run is = produced_first h p t s e wf (good s ([], run)) run is
produced h p t wf covers good (r ∷ before) s e run is =
    elim (step_looks h p t r s e (covers r (before, run.1)) (good r (before, run.1)) run.0 is) [
      | inl earlier ↦
          let m = produced h p t wf covers good before r e run.1 earlier in
          record {
            producer = m.producer;
            produces = m.produces;
            since = s ∷ m.since;
            state = m.state;
            earlier = m.earlier;
            parts = ap (λ (l : List RegState). s ∷ l) m.parts;
            run_before = m.run_before;
            at = m.at;
          }
      | inr now ↦ record {
        producer = StoreAt now.node;
        produces = now.produces;
        since = s ∷ [];
        state = r;
        earlier = before;
        parts = refl;
        run_before = run.1;
        at = now.at;
      }
    ]
