-- A test that computes, for the alarms of listed edges: where a list of fields and sites has what static
-- edges name, and what an edge adds to it, no other site is led to.
use Rattle.std.proofs.Common.{◌≡◌, ℕ, suc, ◌==◌, Bool, true, false, List, [], ◌∷◌, Some, slice_get, map, refl, ap, subst, ◌∙◌}
use Rattle.std.specs.Prelude.{◌&&◌, ◌||◌, not}
use Rattle.std.specs.List.{list_all, list_any}
use Rattle.std.specs.Option.{option_map_or}
use Rattle.std.proofs.lemmas.Bool.{eqb-true, eq-eqb}
use Rattle.th_base.specs.declared.class.ClassInfo.{ClassInfo}
use Rattle.th_base.specs.declared.number.FieldId.{FieldId}
use Rattle.th_base.specs.declared.number.SiteId.{SiteId}
use Rattle.th_base.specs.Launchable.{is_activity}
use Rattle.th_ir.specs.declared.graph.Alarm.{Alarm}
use Rattle.th_ir.specs.declared.graph.Edge.{Edge}
use Rattle.th_ir.specs.declared.graph.Edge.TheVariants.{Static, Field, Element}
use Rattle.th_ir.specs.declared.program.RegProgram.{RegProgram}
use Rattle.th_ir.specs.Program.{Among}
use Rattle.th_ir.specs.Sites.{site_class}
use Rattle.th_ir.specs.Graph.{LeadsTo, begins, by_field, by_element, IsAlarm, AreAlarms, alarm_key}
use Rattle.th_ir.proofs.TestedStatements.{both_hold, all_tested}
use Rattle.th_ir.proofs.TestedFacts.{order_test, in_order}

-- a field and a site are among these
abbrev pub is_led : List (ℕ × ℕ) → ℕ → ℕ → Bool
is_led led f s = list_any (λ (r : ℕ × ℕ). r.0 == f && r.1 == s) led

-- where the first site of an edge is among them, so is the last
abbrev pub adds_nothing : List (ℕ × ℕ) → ℕ → ℕ → Bool
adds_nothing led s x = list_all (λ (r : ℕ × ℕ). not (r.1 == s) || is_led led r.0 x) led

abbrev pub is_followed : List (ℕ × ℕ) → Edge → Bool
is_followed led (Static f x) = is_led led f.0 x.0
is_followed led (Field s g x) = adds_nothing led s.0 x.0
is_followed led (Element s x) = adds_nothing led s.0 x.0

-- what holds of each pair holds of one that is among them
at_pair : (test : ℕ → ℕ → Bool) (led : List (ℕ × ℕ)) (f s : ℕ) → list_all (λ (r : ℕ × ℕ). test r.0 r.1) led ≡ true → is_led led f s ≡ true → test f s ≡ true
at_pair test [] f s all is = absurd cc
at_pair test (r ∷ led) f s all is =
    let parts = both_hold (test r.0 r.1) (list_all (λ (q : ℕ × ℕ). test q.0 q.1) led) all in
    this_or (r.0 == f) (r.1 == s) refl refl parts.0 is (at_pair test led f s parts.1)
  where
    this_or : (a b : Bool) → (r.0 == f) ≡ a → (r.1 == s) ≡ b → test r.0 r.1 ≡ true → ((a && b) || is_led led f s) ≡ true
        → (is_led led f s ≡ true → test f s ≡ true) → test f s ≡ true
    this_or true true first second here is more =
        subst (λ (n : ℕ). test f n ≡ true) (eqb-true r.1 s second) (subst (λ (n : ℕ). test n r.1 ≡ true) (eqb-true r.0 f first) here)
    this_or true false first second here is more = more is
    this_or false b first second here is more = more is

same_is : (n : ℕ) (b : Bool) → (n == n) ≡ true → (not (n == n) || b) ≡ true → b ≡ true
same_is n b same e = subst (λ (c : Bool). (not c || b) ≡ true) same e

eq_self : (n : ℕ) → (n == n) ≡ true
eq_self n = eq-eqb n n refl

by_edge : (led : List (ℕ × ℕ)) (f s x : ℕ) → adds_nothing led s x ≡ true → is_led led f s ≡ true → is_led led f x ≡ true
by_edge led f s x all is = same_is s (is_led led f x) (eq_self s) (at_pair (λ g k. not (k == s) || is_led led g x) led f s all is)

leads_within : (edges : List Edge) (led : List (ℕ × ℕ)) → list_all (is_followed led) edges ≡ true
    → (f : FieldId) (x : SiteId) → LeadsTo edges f x → is_led led f.0 x.0 ≡ true
leads_within edges led all f x (begins among) = all_tested (is_followed led) edges among.0 (Static f x) all among.1
leads_within edges led all f x (by_field {x = s} g leads among) =
    by_edge led f.0 s.0 x.0 (all_tested (is_followed led) edges among.0 (Field s g x) all among.1) (leads_within edges led all f s leads)
leads_within edges led all f x (by_element {x = s} leads among) =
    by_edge led f.0 s.0 x.0 (all_tested (is_followed led) edges among.0 (Element s x) all among.1) (leads_within edges led all f s leads)

-- ---- alarms

abbrev pub alarm_listed : List Alarm → ℕ → ℕ → Bool
alarm_listed alarms f c = list_any (λ (a : Alarm). a.field.0 == f && a.class.0 == c) alarms

-- where a site is of an Activity's class, the alarm is listed
abbrev pub is_told : List ClassInfo → RegProgram → List Alarm → ℕ → ℕ → Bool
is_told h p alarms f s = option_map_or (λ (c : ℕ). not (is_activity h c) || alarm_listed alarms f c) (site_class h p s) true

alarm_same : (a b : Alarm) → (a.field.0 == b.field.0) ≡ true → (a.class.0 == b.class.0) ≡ true → a ≡ b
alarm_same a b field class =
    let make : ℕ → ℕ → Alarm = λ f c. record { field = record { 0 = f }; class = record { 0 = c } } in
    ap (λ (f : ℕ). make f a.class.0) (eqb-true a.field.0 b.field.0 field) ∙ ap (make b.field.0) (eqb-true a.class.0 b.class.0 class)

among_alarms : (alarms : List Alarm) (a : Alarm) → alarm_listed alarms a.field.0 a.class.0 ≡ true → Among alarms a
among_alarms [] a is = absurd cc
among_alarms (b ∷ alarms) a is = this_or (b.field.0 == a.field.0) (b.class.0 == a.class.0) refl refl is (among_alarms alarms a)
  where
    this_or : (f c : Bool) → (b.field.0 == a.field.0) ≡ f → (b.class.0 == a.class.0) ≡ c → ((f && c) || alarm_listed alarms a.field.0 a.class.0) ≡ true
        → (alarm_listed alarms a.field.0 a.class.0 ≡ true → Among alarms a) → Among (b ∷ alarms) a
    this_or true true field class is more = (0, ap Some (alarm_same b a field class))
    this_or true false field class is more = let found = more is in (suc found.0, found.1)
    this_or false c field class is more = let found = more is in (suc found.0, found.1)

told_is : (h : List ClassInfo) (p : RegProgram) (alarms : List Alarm) (f s c : ℕ) → site_class h p s ≡ Some c → is_activity h c ≡ true
    → is_told h p alarms f s ≡ true → alarm_listed alarms f c ≡ true
told_is h p alarms f s c class activity told =
    let at_class : (not (is_activity h c) || alarm_listed alarms f c) ≡ true =
    subst (λ (o : _). option_map_or (λ (k : ℕ). not (is_activity h k) || alarm_listed alarms f k) o true ≡ true) class told in
    subst (λ (b : Bool). (not b || alarm_listed alarms f c) ≡ true) activity at_class

pub are_alarms : (h : List ClassInfo) (p : RegProgram) (edges : List Edge) (alarms : List Alarm) (led : List (ℕ × ℕ)) → list_all (is_followed led) edges ≡ true
    → list_all (λ (r : ℕ × ℕ). is_told h p alarms r.0 r.1) led ≡ true → ((a : Alarm) (k : ℕ) → slice_get alarms k ≡ Some a → IsAlarm h p edges a)
    → order_test (map alarm_key alarms) ≡ true → AreAlarms h p edges alarms
are_alarms h p edges alarms led followed told given order = record {
  alarms_are = λ a. (
    λ among. given a among.0 among.1,
    λ is. among_alarms alarms a
        (told_is h p alarms a.field.0 is.site.0 a.class.0 is.class is.activity
        (at_pair (is_told h p alarms) led a.field.0 is.site.0 told (leads_within edges led followed a.field is.site is.leads))),
  );
  ascend = in_order (map alarm_key alarms) order;
}
