-- What searches find are the alarms, in order, and a limit is passed exactly where there are more.
use Rattle.std.proofs.Common.{◌≡◌, inl, inr, ℕ, zero, suc, ◌+◌, ◌<◌, ◌≤◌, ◌==◌, true, false, List, [], ◌∷◌, ◌++◌, length, take, Option, None, Some, slice_get, get_or, refl, sym, ap, subst, arith, ◌∙◌, if◌then◌else◌}
use Rattle.std.specs.Prelude.{◌↔◌, is_some, nat_lt}
use Rattle.std.specs.List.{AllByRecursion, list_any}
use Rattle.std.specs.List.Sorted.{IsStrictlySortedBy}
use Rattle.std.specs.declared.cmp.Ordering.TheVariants.{Less}
use Rattle.std.specs.Ordering.{ordering_reverse}
use Rattle.std.proofs.lemmas.Bool.{eqb-true, eq-eqb, or_cases, or_left, or_right}
use Rattle.std.proofs.lemmas.Cmp.{nat_list_cmp_total}
use Rattle.std.proofs.lemmas.Option.{slice_get_within}
use Rattle.th_base.specs.declared.class.ClassInfo.{ClassInfo}
use Rattle.th_base.specs.declared.number.EdgeId.{EdgeId}
use Rattle.th_base.specs.declared.number.FieldId.{FieldId}
use Rattle.th_base.specs.declared.number.SiteId.{SiteId}
use Rattle.th_base.specs.IdSet.{has, IsAscending}
use Rattle.th_ir.specs.declared.graph.Alarm.{Alarm}
use Rattle.th_ir.specs.declared.graph.Edge.{Edge}
use Rattle.th_ir.specs.declared.graph.Edge.TheVariants.{Static}
use Rattle.th_ir.specs.declared.program.RegProgram.{RegProgram}
use Rattle.th_ir.specs.Fields.{is_file_static, is_ref_field}
use Rattle.th_ir.specs.FactSets.{AscendBy}
use Rattle.th_ir.specs.Graph.{LeadsTo, begins, by_field, by_element, alarm_key, IsAlarm, AreAlarms}
use Rattle.th_ir.specs.Program.{Among}
use Rattle.th_ir.proofs.Plain.{some_is, get_within, has_at}
use Rattle.th_base.proofs.Membership.{has_append_left, has_push_cases, has_push}
use Rattle.th_paths.specs.Paths.{IsPath, Avoids, IsWay, TellsLeast, TellEachLeast}
use Rattle.th_graph.specs.Searching.{AreTargetsBelow, alarm_of, hits, Adds, IsSearched, AreAlarmsOf, AreAllOrPass, is_root, is_past}
use Rattle.th_graph.specs.declared.targets.Targets.{Targets}
use Rattle.th_graph.proofs.Orders.{IsBelow, below_first, below_next, among_more, among_cases, among_either, among_left, among_right, has_among, among_has, among_any, all_below, ascend_cons, ascend_none, ascend_append}
use Rattle.th_graph.proofs.TargetRows.{site_class_inside}
use Rattle.th_graph.specs.Graphs.{AreFieldsNumbered}
use Rattle.th_graph.specs.Tables.{file_statics_from}
use Rattle.th_graph.proofs.FileStatics.{numbers_of, statics_are, statics_ascend}

-- ---- an alarm for each class to which there is a path

record IsHit (f : FieldId) (classes : List ℕ) (found : List (Option (List EdgeId))) (a : Alarm) : Type 0 where
  place : ℕ
  class : ℕ
  path : List EdgeId
  class_stands : slice_get classes place ≡ Some class
  path_stands : slice_get found place ≡ Some (Some path)
  is : alarm_of f class ≡ a

hit_of : (f : FieldId) (classes : List ℕ) (found : List (Option (List EdgeId))) (a : Alarm) → Among (hits f classes found) a → IsHit f classes found a
hit_of f [] found a m = let e = m.1 in absurd cc
hit_of f (c ∷ classes) [] a m = let e = m.1 in absurd cc
hit_of f (c ∷ classes) (None ∷ found) a m =
    let h = hit_of f classes found a m in record { place = suc h.place; class = h.class; path = h.path; class_stands = h.class_stands; path_stands = h.path_stands; is = h.is }
hit_of f (c ∷ classes) (Some path ∷ found) a m = elim (among_cases (alarm_of f c) (hits f classes found) a m) [
  | inl here ↦ record { place = 0; class = c; path = path; class_stands = refl; path_stands = refl; is = here }
  | inr more ↦
      let h = hit_of f classes found a more in record { place = suc h.place; class = h.class; path = h.path; class_stands = h.class_stands; path_stands = h.path_stands; is = h.is }
]

of_hit : (f : FieldId) (classes : List ℕ) (found : List (Option (List EdgeId))) (i c : ℕ) (path : List EdgeId) → slice_get classes i ≡ Some c → slice_get found i ≡ Some (Some path) → Among (hits f classes found) (alarm_of f c)
of_hit f [] found i c path one two = absurd cc
of_hit f (d ∷ classes) [] i c path one two = absurd cc
of_hit f (d ∷ classes) (o ∷ found) zero c path one two =
    let is : o ≡ Some path = cc in
    let same : d ≡ c = some_is d c one in
    subst (λ k. Among (if is_some k then alarm_of f d ∷ hits f classes found else hits f classes found) (alarm_of f c)) (sym is) (0, ap (λ k. Some (alarm_of f k)) same)
of_hit f (d ∷ classes) (None ∷ found) (suc i) c path one two = of_hit f classes found i c path one two
of_hit f (d ∷ classes) (Some p ∷ found) (suc i) c path one two = among_more (alarm_of f d) (hits f classes found) (alarm_of f c) (of_hit f classes found i c path one two)

number_all : (n : ℕ) (xs : List ℕ) (k x : ℕ) → AllByRecursion (λ y. n < y) xs → slice_get xs k ≡ Some x → n < x
number_all n [] k x all e = absurd cc
number_all n (y ∷ xs) zero x all e = subst (λ z. n < z) (some_is y x e) all.0
number_all n (y ∷ xs) (suc k) x all e = number_all n xs k x all.1 e

hits_ascend : (f : FieldId) (classes : List ℕ) (found : List (Option (List EdgeId))) → IsAscending classes → AscendBy alarm_key (hits f classes found)
hits_ascend f [] found ascend = ascend_none alarm_key
hits_ascend f (c ∷ classes) [] ascend = ascend_none alarm_key
hits_ascend f (c ∷ classes) (None ∷ found) ascend = hits_ascend f classes found ascend.1
hits_ascend f (c ∷ classes) (Some path ∷ found) ascend =
    ascend_cons alarm_key (alarm_of f c) (hits f classes found)
    (λ a m.
    let h = hit_of f classes found a m in
    subst (λ z. IsBelow (f.0 ∷ c ∷ []) (alarm_key z)) h.is (below_next f.0 (c ∷ []) (h.class ∷ []) (below_first c h.class [] [] (number_all c classes h.place h.class ascend.0 h.class_stands))))
    (hits_ascend f classes found ascend.1)

-- one class more
hits_next : (f : FieldId) (classes : List ℕ) (found : List (Option (List EdgeId))) (n : ℕ) (d : Option (List EdgeId)) → n < length found → length found ≡ length classes
    → hits f (take (suc n) classes) (take (suc n) found) ≡ hits f (take n classes) (take n found) ++ (if is_some (get_or found n d) then alarm_of f (get_or classes n 0) ∷ [] else [])
hits_next f classes [] n d less long = absurd (omega arith)
hits_next f [] (o ∷ found) n d less long = absurd cc
hits_next f (c ∷ classes) (None ∷ found) zero d less long = refl
hits_next f (c ∷ classes) (Some p ∷ found) zero d less long = refl
hits_next f (c ∷ classes) (None ∷ found) (suc n) d less long = hits_next f classes found n d (omega arith) (omega arith)
hits_next f (c ∷ classes) (Some p ∷ found) (suc n) d less long = ap (λ l. alarm_of f c ∷ l) (hits_next f classes found n d (omega arith) (omega arith))

pub hits_more : (f : FieldId) (classes : List ℕ) (found : List (Option (List EdgeId))) (n : ℕ) (d : Option (List EdgeId)) → n < length found → length found ≡ length classes
    → hits f (take (n + 1) classes) (take (n + 1) found) ≡ hits f (take n classes) (take n found) ++ (if is_some (get_or found n d) then alarm_of f (get_or classes n 0) ∷ [] else [])
hits_more f classes found n d less long = let next : n + 1 ≡ suc n = omega arith in ap (λ k. hits f (take k classes) (take k found)) next ∙ hits_next f classes found n d less long

-- ---- the alarms of one static field

avoids_none : (path : List EdgeId) → Avoids [] path
avoids_none [] = tt
avoids_none (e ∷ path) = (refl, avoids_none path)

site_id : ℕ → SiteId
site_id n = record { 0 = n }

has_one : (n k : ℕ) → has (n ∷ []) k ≡ true → n ≡ k
has_one n k e = elim (or_cases (n == k) false e) [ inl here ↦ eqb-true n k here | inr none ↦ absurd cc ]

one_has : (n : ℕ) → has (n ∷ []) n ≡ true
one_has n = among_has (n ∷ []) n (0, refl)

-- a static field leads to a site exactly where there is a path
pub record PathsLead (edges : List Edge) : Type 0 where
  pub path : (f : FieldId) (x : SiteId) → LeadsTo edges f x → (path : List EdgeId) × IsPath edges f path x.0
  pub leads : (f : FieldId) (x : SiteId) (path : List EdgeId) → IsPath edges f path x.0 → LeadsTo edges f x

found_alarm : (h : List ClassInfo) (p : RegProgram) (edges : List Edge) (f : FieldId) (targets : Targets) (found : List (Option (List EdgeId))) (a : Alarm) → PathsLead edges → AreTargetsBelow h p targets (length h)
    → TellEachLeast edges f targets.goals.items [] found → is_file_static h f.0 ≡ true → is_ref_field h f.0 ≡ true → Among (hits f targets.classes.items found) a → IsAlarm h p edges a × (has (f.0 ∷ []) a.field.0 ≡ true)
unfolding site_id
found_alarm h p edges f targets found a lead below tells static reference m =
    let hit = hit_of f targets.classes.items found a m in
    let inside = slice_get_within targets.classes.items hit.place hit.class hit.class_stands in
    let count = below.count in
    let goal = get_within targets.goals.items hit.place (omega (arith, inside, count)) in
    let way = (tells.each hit.place goal.0 (Some hit.path) goal.1 hit.path_stands).way in
    let class = (below.sites hit.place hit.class goal.0 hit.class_stands goal.1 way.site).0 way.arrives in
    let activity = ((below.classes hit.class).0 (has_at targets.classes.items hit.place hit.class hit.class_stands)).0 in
    let alarm : IsAlarm h p edges (alarm_of f hit.class) = record {
      static = static;
      reference = reference;
      activity = activity;
      site = site_id way.site;
      leads = lead.leads f (site_id way.site) hit.path way.leads;
      class = class;
    } in
    (subst (IsAlarm h p edges) hit.is alarm, subst (λ (z : Alarm). has (f.0 ∷ []) z.field.0 ≡ true) hit.is (one_has f.0))

alarm_is : (f : FieldId) (a : Alarm) → f.0 ≡ a.field.0 → alarm_of f a.class.0 ≡ a
alarm_is f a e =
    let make : ℕ → Alarm = λ n. record { field = record { 0 = n }; class = a.class } in
    ap make e

alarm_found : (h : List ClassInfo) (p : RegProgram) (edges : List Edge) (f : FieldId) (targets : Targets) (found : List (Option (List EdgeId))) (a : Alarm) → PathsLead edges → AreTargetsBelow h p targets (length h)
    → TellEachLeast edges f targets.goals.items [] found → IsAlarm h p edges a → f.0 ≡ a.field.0 → Among (hits f targets.classes.items found) a
alarm_found h p edges f targets found a lead below tells alarm same =
    let c = a.class.0 in
    let listed = (below.classes c).1 (alarm.activity, site_class_inside h p alarm.site.0 c alarm.class) in
    let at = has_among targets.classes.items c listed in
    let inside = slice_get_within targets.classes.items at.0 c at.1 in
    let count = below.count in
    let goal = get_within targets.goals.items at.0 (omega (arith, inside, count)) in
    let long = tells.count in
    let answer = get_within found at.0 (omega (arith, inside, count, long)) in
    let field : ℕ → FieldId = λ n. record { 0 = n } in
    let path = lead.path f alarm.site (subst (λ g. LeadsTo edges g alarm.site) (sym (ap field same)) alarm.leads) in
    let way : IsWay edges f goal.0 [] path.0 = record { site = alarm.site.0; leads = path.1; arrives = (below.sites at.0 c goal.0 at.1 goal.1 alarm.site.0).1 alarm.class; avoids = avoids_none path.0 } in
    subst (Among (hits f targets.classes.items found)) (alarm_is f a same) (by_answer at.0 c at.1 answer.0 answer.1 goal.0 path.0 (tells.each at.0 goal.0 answer.0 goal.1 answer.1) way)
  where
    by_answer : (i c : ℕ) → slice_get targets.classes.items i ≡ Some c → (o : Option (List EdgeId)) → slice_get found i ≡ Some o → (goal : List ℕ) (path : List EdgeId) → TellsLeast edges f goal [] o
        → IsWay edges f goal [] path → Among (hits f targets.classes.items found) (alarm_of f c)
    by_answer i c e None d goal path tells way = absurd (tells path way)
    by_answer i c e (Some best) d goal path tells way = of_hit f targets.classes.items found i c best e d

pub searched_alarms : (h : List ClassInfo) (p : RegProgram) (edges : List Edge) (f : FieldId) (targets : Targets) (new : List Alarm) → PathsLead edges → AreTargetsBelow h p targets (length h) → IsSearched edges f targets new
    → is_file_static h f.0 ≡ true → is_ref_field h f.0 ≡ true → AreAlarmsOf h p edges (f.0 ∷ []) new
searched_alarms h p edges f targets new lead below searched static reference =
    subst (AreAlarmsOf h p edges (f.0 ∷ [])) (sym searched.new_are) (record {
      alarms_are = λ a. (
        λ m. found_alarm h p edges f targets searched.found a lead below searched.tells static reference m,
        λ both. alarm_found h p edges f targets searched.found a lead below searched.tells both.0 (has_one f.0 a.field.0 both.1),
      );
      ascend = hits_ascend f targets.classes.items searched.found below.ascend;
    })

-- ---- a static field without alarms

root_of : (edges : List Edge) (f : FieldId) (x : SiteId) → LeadsTo edges f x → list_any (is_root f.0) edges ≡ true
root_of edges f x (begins {x = y} a) = among_any (is_root f.0) edges (Static f y) a (eq-eqb f.0 f.0 refl)
root_of edges f x (by_field {x = y} g rest a) = root_of edges f y rest
root_of edges f x (by_element {x = y} rest a) = root_of edges f y rest

no_alarms : (h : List ClassInfo) (p : RegProgram) (edges : List Edge) (f : FieldId) → ((a : Alarm) → IsAlarm h p edges a → f.0 ≡ a.field.0 → ⊥) → AreAlarmsOf h p edges (f.0 ∷ []) []
no_alarms h p edges f none = record {
  alarms_are = λ a. (λ m. absurd (let e = m.1 in cc), λ both. absurd (none a both.0 (has_one f.0 a.field.0 both.1)));
  ascend = ascend_none alarm_key;
}

pub no_root : (h : List ClassInfo) (p : RegProgram) (edges : List Edge) (f : FieldId) → list_any (is_root f.0) edges ≡ false → AreAlarmsOf h p edges (f.0 ∷ []) []
no_root h p edges f none = no_alarms h p edges f (λ a alarm same.
    let root = root_of edges a.field alarm.site alarm.leads in
    let both : true ≡ false = sym root ∙ ap (λ k. list_any (is_root k) edges) (sym same) ∙ none in cc)

pub no_reference : (h : List ClassInfo) (p : RegProgram) (edges : List Edge) (f : FieldId) → is_ref_field h f.0 ≡ false → AreAlarmsOf h p edges (f.0 ∷ []) []
no_reference h p edges f none = no_alarms h p edges f (λ a alarm same.
    let both : true ≡ false = sym alarm.reference ∙ ap (is_ref_field h) (sym same) ∙ none in cc)

-- ---- several static fields

pub alarms_none : (h : List ClassInfo) (p : RegProgram) (edges : List Edge) → AreAlarmsOf h p edges [] []
alarms_none h p edges = record { alarms_are = λ a. (λ m. absurd (let e = m.1 in cc), λ both. absurd (let e = both.1 in cc)); ascend = ascend_none alarm_key }

pub alarms_more : (h : List ClassInfo) (p : RegProgram) (edges : List Edge) (fields : List ℕ) (f : ℕ) (old more : List Alarm) → AreAlarmsOf h p edges fields old → AreAlarmsOf h p edges (f ∷ []) more
    → ((g : ℕ) → has fields g ≡ true → g < f) → AreAlarmsOf h p edges (fields ++ f ∷ []) (old ++ more)
alarms_more h p edges fields f old more a b below = record {
  alarms_are = λ x. (
    λ m. elim (among_either old more x m) [
      | inl left ↦ (let is = (a.alarms_are x).0 left in (is.0, has_append_left fields (f ∷ []) x.field.0 is.1))
      | inr right ↦ (let is = (b.alarms_are x).0 right in (is.0, subst (λ k. has (fields ++ f ∷ []) k ≡ true) (has_one f x.field.0 is.1) (has_push fields f)))
    ],
    λ both. elim (has_push_cases fields f x.field.0 both.1) [
      | inl found ↦ among_left old more x ((a.alarms_are x).1 (both.0, found))
      | inr same ↦ among_right old more x ((b.alarms_are x).1 (both.0, subst (λ k. has (f ∷ []) k ≡ true) same (one_has f)))
    ],
  );
  ascend = ascend_append alarm_key old more a.ascend b.ascend (λ x y in_old in_more.
      let left = ((a.alarms_are x).0 in_old).1 in
      let right = has_one f y.field.0 ((b.alarms_are y).0 in_more).1 in
      below_first x.field.0 y.field.0 (x.class.0 ∷ []) (y.class.0 ∷ []) (subst (λ k. x.field.0 < k) right (below x.field.0 left)));
}

-- all static fields of the classes of files
pub alarms_all : (h : List ClassInfo) (p : RegProgram) (edges : List Edge) (fields : List ℕ) (alarms : List Alarm) → ((f : ℕ) → (has fields f ≡ true) ↔ (is_file_static h f ≡ true)) → AreAlarmsOf h p edges fields alarms
    → AreAlarms h p edges alarms
alarms_all h p edges fields alarms all of_fields = record {
  alarms_are = λ a. (λ m. ((of_fields.alarms_are a).0 m).0, λ alarm. (of_fields.alarms_are a).1 (alarm, (all a.field.0).1 alarm.static));
  ascend = of_fields.ascend;
}

-- ---- limits

not_both_below : (a b : List ℕ) → IsBelow a b → IsBelow b a → ⊥
not_both_below a b one two = let both : Less ≡ ordering_reverse Less = sym one ∙ nat_list_cmp_total.antisymm a b ∙ ap ordering_reverse two in cc

-- what ascends and is among what ascends is no longer
fewer : {X : Type 0} (key : X → List ℕ) (xs ys : List X) → AscendBy key xs → AscendBy key ys → ((x : X) → Among xs x → Among ys x) → length xs ≤ length ys
unfolding IsStrictlySortedBy
fewer key [] ys a b inside = omega arith
fewer key (x ∷ xs) [] a b inside = absurd (let e = (inside x (0, refl)).1 in cc)
fewer {X} key (x ∷ xs) (y ∷ ys) a b inside = elim (among_cases y ys x (inside x (0, refl))) [
  | inl same ↦
      let rest = fewer key xs ys a.1 b.1 (λ z m. elim (among_cases y ys z (inside z (among_more x xs z m))) [
        | inl again ↦ absurd (let less = all_below key (key x) xs z a.0 m in
            let itself : IsBelow (key z) (key z) = subst (λ w. IsBelow (key w) (key z)) (sym same ∙ again) less in not_both_below (key z) (key z) itself itself)
        | inr more ↦ more
      ]) in omega (arith, rest)
  | inr later ↦
      let rest = fewer key (x ∷ xs) ys a b.1 (λ z m. elim (among_cases y ys z (inside z m)) [
        | inl here ↦ elim (among_cases x xs z m) [
          | inl first ↦ subst (Among ys) first later
          | inr more ↦ absurd (not_both_below (key y) (key x) (all_below key (key y) ys x b.0 later) (subst (λ w. IsBelow (key x) (key w)) (sym here) (all_below key (key x) xs z a.0 more)))
        ]
        | inr more ↦ more
      ]) in omega (arith, rest)
]

pub passed : (h : List ClassInfo) (p : RegProgram) (edges : List Edge) (most : ℕ) (some all : List Alarm) → AreAllOrPass h p edges (Some most) some → AreAlarms h p edges all → (AreAlarms h p edges some → some ≡ all)
    → nat_lt most (length some) ≡ nat_lt most (length all)
passed h p edges most some all (inl whole) alarms one = ap (λ (l : List Alarm). nat_lt most (length l)) (one whole)
passed h p edges most some all (inr pass) alarms one =
    let within = fewer alarm_key some all pass.of_fields.ascend alarms.ascend (λ a m. (alarms.alarms_are a).1 ((pass.of_fields.alarms_are a).0 m).0) in
    let limit : most ≡ pass.limit = some_is most pass.limit pass.given in
    let past = pass.past in
    let less : most < length some = omega (arith, limit, past) in
    let more : most < length all = omega (arith, less, within) in
    let left : nat_lt most (length some) ≡ true = grind arith in
    let right : nat_lt most (length all) ≡ true = grind arith in
    left ∙ sym right

pub no_limit : (h : List ClassInfo) (p : RegProgram) (edges : List Edge) (alarms : List Alarm) → AreAllOrPass h p edges None alarms → AreAlarms h p edges alarms
no_limit h p edges alarms (inl whole) = whole
no_limit h p edges alarms (inr pass) = absurd (let e = pass.given in cc)

-- ---- the walk over the static fields

first_below : (m : ℕ) (fields : List FieldId) (n : ℕ) (d : FieldId) → AllByRecursion (λ y. m < y) (numbers_of fields) → n < length fields → m < (get_or fields n d).0
first_below m [] n d all less = absurd (omega arith)
first_below m (x ∷ fields) zero d all less = all.0
first_below m (x ∷ fields) (suc n) d all less = first_below m fields n d all.1 (omega arith)

fields_below : (fields : List FieldId) (n : ℕ) (d : FieldId) → IsAscending (numbers_of fields) → n < length fields → (g : ℕ) → has (numbers_of (take n fields)) g ≡ true → g < (get_or fields n d).0
fields_below [] n d ascend less g e = absurd (omega arith)
fields_below (x ∷ fields) zero d ascend less g e = absurd cc
fields_below (x ∷ fields) (suc n) d ascend less g e = elim (or_cases (x.0 == g) (has (numbers_of (take n fields)) g) e) [
  | inl here ↦ subst (λ k. k < (get_or fields n d).0) (eqb-true x.0 g here) (first_below x.0 fields n d ascend.0 (omega arith))
  | inr later ↦ fields_below fields n d ascend.1 (omega arith) g later
]

number_in : (fields : List FieldId) (n : ℕ) (d : FieldId) → n < length fields → has (numbers_of fields) (get_or fields n d).0 ≡ true
number_in [] n d less = absurd (omega arith)
number_in (x ∷ fields) zero d less = or_left (x.0 == x.0) (has (numbers_of fields) x.0) (eq-eqb x.0 x.0 refl)
number_in (x ∷ fields) (suc n) d less = or_right (x.0 == (get_or fields n d).0) (has (numbers_of fields) (get_or fields n d).0) (number_in fields n d (omega arith))

numbers_next : (fields : List FieldId) (n : ℕ) (d : FieldId) → n < length fields → numbers_of (take (suc n) fields) ≡ numbers_of (take n fields) ++ (get_or fields n d).0 ∷ []
numbers_next [] n d less = absurd (omega arith)
numbers_next (x ∷ fields) zero d less = refl
numbers_next (x ∷ fields) (suc n) d less = ap (λ l. x.0 ∷ l) (numbers_next fields n d (omega arith))

take_whole : (fields : List FieldId) (n : ℕ) → length fields ≤ n → take n fields ≡ fields
take_whole [] zero less = refl
take_whole [] (suc n) less = refl
take_whole (x ∷ fields) zero less = absurd (omega arith)
take_whole (x ∷ fields) (suc n) less = ap (λ l. x ∷ l) (take_whole fields n (omega arith))

pub alarms_step : (h : List ClassInfo) (p : RegProgram) (edges : List Edge) (fields : List FieldId) (n : ℕ) (d : FieldId) (old new : List Alarm) → AreFieldsNumbered h → fields ≡ file_statics_from 0 h → n < length fields
    → AreAlarmsOf h p edges (numbers_of (take n fields)) old → Adds old new (λ more. is_file_static h (get_or fields n d).0 ≡ true → AreAlarmsOf h p edges ((get_or fields n d).0 ∷ []) more)
    → AreAlarmsOf h p edges (numbers_of (take (n + 1) fields)) new
alarms_step h p edges fields n d old new numbered are less before adds =
    let f = (get_or fields n d).0 in
    let next : n + 1 ≡ suc n = omega arith in
    let ascend : IsAscending (numbers_of fields) = subst (λ l. IsAscending (numbers_of l)) (sym are) (statics_ascend h numbered) in
    let listed : has (numbers_of (file_statics_from 0 h)) f ≡ true = subst (λ l. has (numbers_of l) f ≡ true) are (number_in fields n d less) in
    let static = (statics_are h f numbered).0 listed in
    let all = alarms_more h p edges (numbers_of (take n fields)) f old adds.more before (adds.of_more static) (λ g e. fields_below fields n d ascend less g e) in
    subst (λ (l : List ℕ). AreAlarmsOf h p edges l new) (sym (ap (λ k. numbers_of (take k fields)) next ∙ numbers_next fields n d less)) (subst (AreAlarmsOf h p edges (numbers_of (take n fields) ++ f ∷ [])) (sym adds.is) all)

pub alarms_whole : (h : List ClassInfo) (p : RegProgram) (edges : List Edge) (fields : List FieldId) (n : ℕ) (alarms : List Alarm) → AreFieldsNumbered h → fields ≡ file_statics_from 0 h → length fields ≤ n
    → AreAlarmsOf h p edges (numbers_of (take n fields)) alarms → AreAlarms h p edges alarms
alarms_whole h p edges fields n alarms numbered are past of_fields =
    alarms_all h p edges (numbers_of fields) alarms (λ f. subst (λ (l : List FieldId). (has (numbers_of l) f ≡ true) ↔ (is_file_static h f ≡ true)) (sym are) (statics_are h f numbered))
    (subst (λ (l : List FieldId). AreAlarmsOf h p edges (numbers_of l) alarms) (take_whole fields n past) of_fields)

-- more alarms than the limit
pub alarms_past : (h : List ClassInfo) (p : RegProgram) (edges : List Edge) (fields : List ℕ) (most : Option ℕ) (alarms : List Alarm) → is_past most (length alarms) ≡ true → AreAlarmsOf h p edges fields alarms → AreAllOrPass h p edges most alarms
alarms_past h p edges fields None alarms past of_fields = absurd cc
alarms_past h p edges fields (Some limit) alarms past of_fields =
    let less : limit < length alarms = grind arith in inr (record { limit = limit; given = refl; past = less; fields = fields; of_fields = of_fields })
