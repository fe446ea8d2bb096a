-- What a value leads to in a covered state, the edges lead to.
use Rattle.std.proofs.Common.{◌≡◌, ℕ, List, Some, slice_get, refl, sym, ap, subst, ◌∙◌}
use Rattle.th_base.specs.declared.class.ClassInfo.{ClassInfo}
use Rattle.th_base.specs.declared.number.FieldId.{FieldId}
use Rattle.th_base.specs.declared.number.SiteId.{SiteId}
use Rattle.th_ir.specs.declared.graph.Alarm.{Alarm}
use Rattle.th_ir.specs.declared.graph.Edge.{Edge}
use Rattle.th_ir.specs.declared.graph.Edge.TheVariants.{Static, Field, Element}
use Rattle.th_ir.specs.declared.program.RegProgram.{RegProgram}
use Rattle.th_ir.specs.Program.{Among}
use Rattle.th_ir.specs.Sites.{site_class}
use Rattle.th_ir.specs.Machine.{RegValue, Address, RegObject, RegState, field_value, element_value}
use Rattle.th_ir.specs.FactSets.{FactSets}
use Rattle.th_ir.specs.Covered.{HasSite, Covers}
use Rattle.th_ir.specs.Graph.{IsOfSite, Realises, LeadsTo, begins, by_field as edge_by_field, by_element as edge_by_element, AreAlarms}
use Rattle.th_ir.proofs.Plain.{some_is, same_found}
use Rattle.th_graph.specs.Joined.{Leads, here, by_field, by_element, IsJoined}

pub site_id : ℕ → SiteId
site_id n = record { 0 = n }

pub field_id : ℕ → FieldId
field_id n = record { 0 = n }

address_is : (a b : ℕ) → Address a ≡ Address b → a ≡ b
address_is a b e = cc

of_site : (s : RegState) (v : RegValue) (a : ℕ) (o : RegObject) → v ≡ Address a → slice_get s.heap a ≡ Some o → IsOfSite s v o.site
of_site s v a o is stands = record { at = record { address = a; object = o; value = is; stands = stands }; made = refl }

-- the object at an address that a covered place holds
pub held_object : (heap : List RegObject) (set : ℕ → _) (v : RegValue) (a : ℕ) → HasSite heap set v → v ≡ Address a → (o : RegObject) × (slice_get heap a ≡ Some o)
held_object heap set v a has_it is = let there : HasSite heap set (Address a) = subst (HasSite heap set) is has_it in (there.0, there.1)

-- what leads to an object is an address
leads_from : (heap : List RegObject) (to : ℕ) (v : RegValue) → Leads heap to v → (a : ℕ) × (v ≡ Address a)
leads_from heap to v here = (to, refl)
leads_from heap to v (by_field {a = a} o f stands held rest) = (a, refl)
leads_from heap to v (by_element {a = a} o k stands held rest) = (a, refl)

-- edges lead from a static field to the site of the object at an address
record LeadsThere (edges : List Edge) (f : FieldId) (s : RegState) (a : ℕ) : Type 0 where
  object : RegObject
  stands : slice_get s.heap a ≡ Some object
  leads : LeadsTo edges f (site_id object.site)

leads_on : (h : List ClassInfo) (p : RegProgram) (t : FactSets) (edges : List Edge) (f : FieldId) (s : RegState) → Covers h p t s → ((e : Edge) → Realises s e → Among edges e)
    → (to : ℕ) (v : RegValue) → Leads s.heap to v → (a : ℕ) (o : RegObject) → v ≡ Address a → slice_get s.heap a ≡ Some o → LeadsTo edges f (site_id o.site) → LeadsThere edges f s to
unfolding site_id field_id
leads_on h p t edges f s covers all to v here a o is stands leads =
    record { object = o; stands = ap (λ k. slice_get s.heap k) (address_is to a is) ∙ stands; leads = leads }
leads_on h p t edges f s covers all to v (by_field {a = b} {v = w} x g there held rest) a o is stands leads =
    let same : x ≡ o = some_is x o (sym there ∙ ap (λ k. slice_get s.heap k) (address_is b a is) ∙ stands) in
    let value : field_value g o.contents ≡ Some w = ap (λ (y : RegObject). field_value g y.contents) (sym same) ∙ held in
    let next = leads_from s.heap to w rest in
    let at = held_object s.heap (t.cell o.site g) w next.0 (covers.fields a o g w stands value).site next.1 in
    let edge = all (Field (site_id o.site) (field_id g) (site_id at.0.site)) (record { address = a; object = o; stands = stands; made = refl }, w, value, of_site s w next.0 at.0 next.1 at.1) in
    leads_on h p t edges f s covers all to w rest next.0 at.0 next.1 at.1 (edge_by_field (field_id g) leads edge)
leads_on h p t edges f s covers all to v (by_element {a = b} {v = w} x k there held rest) a o is stands leads =
    let same : x ≡ o = some_is x o (sym there ∙ ap (λ k. slice_get s.heap k) (address_is b a is) ∙ stands) in
    let value : element_value k o.contents ≡ Some w = ap (λ (y : RegObject). element_value k y.contents) (sym same) ∙ held in
    let next = leads_from s.heap to w rest in
    let at = held_object s.heap (t.elem o.site) w next.0 (covers.elements a o k w stands value).site next.1 in
    let edge = all (Element (site_id o.site) (site_id at.0.site)) (record { address = a; object = o; stands = stands; made = refl }, k, w, value, of_site s w next.0 at.0 next.1 at.1) in
    leads_on h p t edges f s covers all to w rest next.0 at.0 next.1 at.1 (edge_by_element leads edge)

pub joined_alarm : (h : List ClassInfo) (p : RegProgram) (t : FactSets) (edges : List Edge) (alarms : List Alarm) (s : RegState) (a : Alarm) → Covers h p t s
    → ((e : Edge) → Realises s e → Among edges e) → AreAlarms h p edges alarms → IsJoined h p s a.field.0 a.class.0 → Among alarms a
unfolding site_id
joined_alarm h p t edges alarms s a covers all alarmed joined =
    let first = leads_from s.heap joined.address (s.statics a.field.0) joined.leads in
    let at = held_object s.heap (t.static a.field.0) (s.statics a.field.0) first.0 (covers.statics a.field.0) first.1 in
    let edge = all (Static a.field (site_id at.0.site)) (of_site s (s.statics a.field.0) first.0 at.0 first.1 at.1) in
    let there = leads_on h p t edges a.field s covers all joined.address (s.statics a.field.0) joined.leads first.0 at.0 first.1 at.1 (begins edge) in
    let same : there.object ≡ joined.object = same_found (slice_get s.heap joined.address) there.object joined.object there.stands joined.stands in
    (alarmed.alarms_are a).1 (record {
      static = joined.static;
      reference = joined.reference;
      activity = joined.activity;
      site = site_id there.object.site;
      leads = there.leads;
      class = ap (λ (o : RegObject). site_class h p o.site) same ∙ joined.exactly;
    })
