-- Every state of every run keeps the invariant: it holds at first, and each step keeps it.
use Rattle.std.proofs.Common.{◌≡◌, ℕ, zero, suc, ◌+◌, ◌==◌, Bool, true, false, List, [], ◌∷◌, Option, None, Some, slice_get, refl, sym, ap, subst, arith, ◌∙◌, if◌then◌else◌}
use Rattle.std.specs.List.{AllByRecursion}
use Rattle.std.specs.Option.{option_map_or}
use Rattle.std.proofs.lemmas.Bool.{eqb-true}
use Rattle.th_base.specs.declared.built_in.TheConstants.{STRING_NUMBER}
use Rattle.th_base.specs.declared.class.ClassInfo.{ClassInfo}
use Rattle.th_base.specs.declared.number.FieldId.{FieldId}
use Rattle.th_base.specs.declared.number.SiteId.{SiteId}
use Rattle.th_ir.specs.declared.program.RegProgram.{RegProgram}
use Rattle.th_ir.specs.declared.program.Place.{Place}
use Rattle.th_ir.specs.declared.program.Place.TheVariants.{Str as AtString, Launch as AtLaunch, Event as AtEvent, Code as AtCode}
use Rattle.th_ir.specs.declared.program.Site.{Site}
use Rattle.th_ir.specs.Program.{site_at}
use Rattle.th_ir.specs.Fields.{stage_field, is_ref_field, is_static_field, class_has}
use Rattle.th_ir.specs.Sites.{site_class, is_string_place, is_string_site}
use Rattle.th_ir.specs.Machine.{RegValue, IntValue, Address, RegObject, RegFrame, RegState, field_value, new_field, new_object, strings_from, value_or, constant_in, initial_state}
use Rattle.th_ir.specs.Step.{StepFrom, RegRun, RegReachable}
use Rattle.th_ir.specs.Effects.{IsInt}
use Rattle.th_ir.specs.FactSets.{FactSets}
use Rattle.th_ir.specs.Rules.{HoldsRules}
use Rattle.th_ir.specs.WellFormed.{IsPlaced, StringsFirst, IsConstantField, IsWellFormed}
use Rattle.th_ir.specs.Good.{IsHeld, IsContents, IsStaticValue, IsFrame, AreStacked, IsGood}
use Rattle.th_ir.proofs.Plain.{some_is, not_both, all_at, all_both}
use Rattle.th_ir.proofs.Changes.{AtNode, happens, started, first_held}
use Rattle.th_ir.proofs.Allowed.{allowed, new_field_held, first_stage}

-- ---- steps

step_good : (h : List ClassInfo) (p : RegProgram) (t : FactSets) (s u : RegState) (frames : List RegFrame) → IsWellFormed h p → HoldsRules h p t → IsGood h p t s → AllByRecursion (IsFrame p t s.heap s.launched) frames → AreStacked h p t frames
    → StepFrom h p s frames u → IsGood h p t u
step_good h p t s u [] wf rules good all stack step = started h p t s u step.method wf rules good step.listed step.begins
step_good h p t s u (f ∷ below) wf rules good all stack step =
    let at : AtNode h p t s f below step.node = record { good = good; frames = all; stack = stack; stands = step.stands } in
    happens h p t s u f below step.node step.change wf rules at (allowed h p t s f below step.node step.change wf rules at step.effect) step.happens

run_good : (h : List ClassInfo) (p : RegProgram) (t : FactSets) → IsWellFormed h p → HoldsRules h p t → IsGood h p t (initial_state h p) → (before : List RegState) (s : RegState) → RegRun h p (s ∷ before) → IsGood h p t s
run_good h p t wf rules start [] s run = subst (IsGood h p t) (sym run) start
run_good h p t wf rules start (r ∷ before) s run =
    let good = run_good h p t wf rules start before r run.1 in step_good h p t r s r.frames wf rules good good.frames good.stack run.0

-- ---- the String constants of the initial heap

-- an object of the initial heap is that of a String constant, at its site's number
pub record IsStringAt (h : List ClassInfo) (sites : List Site) (s a : ℕ) (o : RegObject) : Type 0 where
  pub site : Site
  pub stands : slice_get sites a ≡ Some site
  pub string : is_string_place site.place ≡ true
  pub object : o ≡ new_object h STRING_NUMBER (s + a)

string_cons : (h : List ClassInfo) (site : Site) (sites : List Site) (s a : ℕ) (o : RegObject) (b : Bool) → is_string_place site.place ≡ b → slice_get (if b then new_object h STRING_NUMBER s ∷ strings_from h (s + 1) sites else []) a ≡ Some o
    → ((k : ℕ) → slice_get (strings_from h (s + 1) sites) k ≡ Some o → IsStringAt h sites (s + 1) k o) → IsStringAt h (site ∷ sites) s a o
string_cons h site sites s a o false is e more = absurd cc
string_cons h site sites s zero o true is e more =
    let here : s ≡ s + 0 = omega arith in
    record { site = site; stands = refl; string = is; object = sym (some_is (new_object h STRING_NUMBER s) o e) ∙ ap (new_object h STRING_NUMBER) here }
string_cons h site sites s (suc a) o true is e more =
    let m = more a e in
    let here : s + 1 + a ≡ s + suc a = omega arith in
    record { site = m.site; stands = m.stands; string = m.string; object = m.object ∙ ap (new_object h STRING_NUMBER) here }

strings_at : (h : List ClassInfo) (sites : List Site) (s a : ℕ) (o : RegObject) → slice_get (strings_from h s sites) a ≡ Some o → IsStringAt h sites s a o
strings_at h [] s a o e = absurd cc
strings_at h (site ∷ sites) s a o e = string_cons h site sites s a o (is_string_place site.place) refl e (λ k found. strings_at h sites (s + 1) k o found)

not_string : (sites : List Site) (a : ℕ) (site : Site) → AllByRecursion (λ (other : Site). is_string_place other.place ≡ false) sites → slice_get sites a ≡ Some site → is_string_place site.place ≡ true → ⊥
not_string sites a site none e is = let other = all_at (λ (x : Site). is_string_place x.place ≡ false) sites a site none e in cc

strings_more : (h : List ClassInfo) (x : Site) (sites : List Site) (s a : ℕ) (site : Site) (b : Bool) → is_string_place x.place ≡ b → StringsFirst (x ∷ sites) → slice_get sites a ≡ Some site → is_string_place site.place ≡ true
    → (StringsFirst sites → slice_get (strings_from h (s + 1) sites) a ≡ Some (new_object h STRING_NUMBER (s + 1 + a))) → slice_get (if b then new_object h STRING_NUMBER s ∷ strings_from h (s + 1) sites else []) (suc a) ≡ Some (new_object h STRING_NUMBER (s + suc a))
strings_more h x sites s a site true one first e is more =
    let here : s + 1 + a ≡ s + suc a = omega arith in more (first.0 one) ∙ ap (λ (n : ℕ). let o : Option RegObject = Some (new_object h STRING_NUMBER n) in o) here
strings_more h x sites s a site false one first e is more = absurd (not_string sites a site (first.1 one) e is)

strings_all : (h : List ClassInfo) (sites : List Site) (s a : ℕ) (site : Site) → StringsFirst sites → slice_get sites a ≡ Some site → is_string_place site.place ≡ true → slice_get (strings_from h s sites) a ≡ Some (new_object h STRING_NUMBER (s + a))
strings_all h [] s a site first e is = absurd cc
strings_all h (x ∷ sites) s zero site first e is =
    let same : is_string_place x.place ≡ true = ap (λ (y : Site). is_string_place y.place) (some_is x site e) ∙ is in
    let here : s ≡ s + 0 = omega arith in
    ap (λ (b : Bool). slice_get (if b then new_object h STRING_NUMBER s ∷ strings_from h (s + 1) sites else []) zero) same ∙ ap (λ (n : ℕ). let o : Option RegObject = Some (new_object h STRING_NUMBER n) in o) here
strings_all h (x ∷ sites) s (suc a) site first e is = strings_more h x sites s a site (is_string_place x.place) refl first e is (λ more. strings_all h sites (s + 1) a site more e is)

string_site_at : (o : Option Site) → option_map_or (λ (site : Site). is_string_place site.place) o false ≡ true → (site : Site) × (o ≡ Some site) × (is_string_place site.place ≡ true)
string_site_at None e = absurd cc
string_site_at (Some site) e = (site, refl, e)

string_placed : (h : List ClassInfo) (p : RegProgram) (s : ℕ) (place : Place) → IsPlaced h p s place → is_string_place place ≡ true → site_class h p s ≡ Some STRING_NUMBER
string_placed h p s (AtString text) is e = is
string_placed h p s (AtLaunch c) is e = absurd cc
string_placed h p s AtEvent is e = absurd cc
string_placed h p s (AtCode m offset) is e = absurd cc

-- ---- the static fields of the initial state

constant_one : (P : RegValue → Type 0) (o : Option RegValue) (rest : RegValue) → ((v : RegValue) → o ≡ Some v → P v) → P rest → P (value_or rest o)
constant_one P None rest some other = other
constant_one P (Some v) rest some other = some v refl

constant_all : {X : Type 0} (P : RegValue → Type 0) (Q : X → Type 0) (f : X → Option RegValue) (other : RegValue) → ((x : X) (v : RegValue) → Q x → f x ≡ Some v → P v) → (xs : List X) → AllByRecursion Q xs → P other → P (constant_in f other xs)
constant_all P Q f other gives [] all rest = rest
constant_all P Q f other gives (x ∷ xs) all rest = constant_one P (f x) (constant_in f other xs) (λ v e. gives x v all.0 e) (constant_all P Q f other gives xs all.1 rest)

chosen : (P : RegValue → Type 0) (k f : ℕ) (v w : RegValue) (b : Bool) → (k == f) ≡ b → (if b then Some v else None) ≡ Some w → (k ≡ f → P v) → P w
chosen P k f v w true is e gives = subst P (some_is v w e) (gives (eqb-true k f is))
chosen P k f v w false is e gives = absurd cc

-- the constant of a static field
constant_value : (h : List ClassInfo) (t : FactSets) (heap : List RegObject) (k f : ℕ) (v : RegValue) → is_static_field h k ≡ true → k ≡ f → IsHeld heap (t.static f) (is_ref_field h f) v → IsStaticValue h t heap f v
constant_value h t heap k f v static same held = record { held = held; others = λ out. absurd (not_both (is_static_field h f) (ap (is_static_field h) (sym same) ∙ static) out) }

-- ---- the initial state

initial_good : (h : List ClassInfo) (p : RegProgram) (t : FactSets) → IsWellFormed h p → HoldsRules h p t → IsGood h p t (initial_state h p)
initial_good h p t wf rules =
    let heap = strings_from h 0 p.sites in
    let strings : (a : ℕ) → is_string_site p a ≡ true → (o : RegObject) × (slice_get heap a ≡ Some o) × (o.site ≡ a) =
    λ a e. let site = string_site_at (site_at p a) e in (new_object h STRING_NUMBER (0 + a), strings_all h p.sites 0 a site.0 wf.sites.strings_first site.1 site.2, omega arith) in
    record {
      heap = λ a o e.
          let at = strings_at h p.sites 0 a o e in
          let number : 0 + a ≡ a = omega arith in
          let class = string_placed h p a at.site.place (wf.sites.placed a at.site at.stands) at.string in
          let new : IsContents h p t heap a (new_object h STRING_NUMBER a).contents = (STRING_NUMBER, class, λ f. new_field_held h heap (t.cell a f) STRING_NUMBER f (class_has h STRING_NUMBER f) refl) in
          subst (λ (x : RegObject). IsContents h p t heap x.site x.contents) (sym (at.object ∙ ap (new_object h STRING_NUMBER) number)) new;
      strings = strings;
      statics = λ f.
          let P = λ (v : RegValue). IsStaticValue h t heap f v in
          constant_all P (λ (i : FieldId × _). IsConstantField h i.0 false × IsInt i.1) (λ i. if i.0.0 == f then Some (IntValue i.1) else None) _
          (λ i v q e. chosen P i.0.0 f (IntValue i.1) v (i.0.0 == f) refl e (λ same. constant_value h t heap i.0.0 f (IntValue i.1) q.0.0 same (ap (is_ref_field h) (sym same) ∙ q.0.1, q.1))) p.ints wf.constants.ints
          (constant_all P (λ (i : FieldId × SiteId). (IsConstantField h i.0 true × (is_string_site p i.1.0 ≡ true)) × (t.static i.0.0 i.1.0 ≡ true)) (λ i. if i.0.0 == f then Some (Address i.1.0) else None) _
          (λ i v q e. chosen P i.0.0 f (Address i.1.0) v (i.0.0 == f) refl e
          (λ same. let o = strings i.1.0 q.0.1 in
          constant_value h t heap i.0.0 f (Address i.1.0) q.0.0.0 same
          (ap (is_ref_field h) (sym same) ∙ q.0.0.1, (o.0, o.1, subst (λ (x : ℕ). t.static x o.0.site ≡ true) same (subst (λ (x : ℕ). t.static i.0.0 x ≡ true) (sym o.2) q.1)))))
          p.strings (all_both (λ (i : FieldId × SiteId). IsConstantField h i.0 true × (is_string_site p i.1.0 ≡ true)) (λ i. t.static i.0.0 i.1.0 ≡ true) p.strings wf.constants.strings rules.constants) (record { held = first_held heap (t.static f) (is_ref_field h f); others = λ out. refl }));
      launched = tt;
      distinct = tt;
      frames = tt;
      stack = tt;
      staged = λ a o v e is out.
          let at = strings_at h p.sites 0 a o e in
          first_stage (class_has h STRING_NUMBER stage_field) v (ap (λ (x : RegObject). field_value stage_field x.contents) (sym at.object) ∙ is);
    }

pub reachable_good : (h : List ClassInfo) (p : RegProgram) (t : FactSets) → IsWellFormed h p → HoldsRules h p t → (s : RegState) → RegReachable h p s → IsGood h p t s
reachable_good h p t wf rules s run = run_good h p t wf rules (initial_good h p t wf rules) run.0 s run.1
