-- In a pool whose entries refer well, each entry leads to what it names.
use Rattle.std.proofs.Common.{◌≡◌, ℕ, zero, suc, Bool, true, false, cond, ◌&&◌, ◌||◌, List, [], ◌∷◌, refl, sym, ap, ◌∙◌}
use Rattle.std.specs.Prelude.{Option, Some, None, is_some, slice_get, ◌==◌}
use Rattle.std.specs.List.{filter_map, cons_option}
use Rattle.std.specs.Option.{option_flatten, option_map, option_map_or, option_and_then}
use Rattle.th_syntax.specs.declared.cause.TheConstants as cause
use Rattle.th_syntax.specs.declared.tag.TheConstants as tag
use Rattle.th_syntax.specs.declared.instr.MemberRef.{MemberRef}
use Rattle.th_syntax.specs.declared.refusal.Flaw.{Flaw}
use Rattle.th_syntax.specs.Flaws.{flaw_at}
use Rattle.th_syntax.specs.Forms.{Placed}
use Rattle.th_syntax.specs.ClassBytes.{Entry, utf8, class, string, field, method, interface_method, name_and_type, tag_of, Pool}
use Rattle.th_syntax.specs.PoolChecks.{entry_of, has_tag, utf8_in, utf8_of, class_in, class_of, string_in, string_of, names_in, member_by, member_in, tagged_member_of, refers_well, entry_flaw, entry_flaws}
use Rattle.th_syntax.proofs.Inverting.{both}

-- a test that gives no flaw holds
no_flaw : (b : Bool) (flaw : Flaw) (rest : List Flaw) → cons_option (cond b None (Some flaw)) rest ≡ [] → (b ≡ true) × (rest ≡ [])
no_flaw true flaw rest e = (refl, e)
no_flaw false flaw rest e = absurd cc

slots_sound : (pool slots : Pool) (i : ℕ) (e : Entry) → filter_map (entry_flaw pool) slots ≡ [] → option_map (λ (p : Placed Entry). p.value) (option_flatten (slice_get slots i)) ≡ Some e → refers_well pool e ≡ true
slots_sound pool [] i e none is = absurd cc
slots_sound pool (None ∷ slots) zero e none is = absurd cc
slots_sound pool (None ∷ slots) (suc i) e none is = slots_sound pool slots i e none is
slots_sound pool (Some p ∷ slots) zero e none is =
    let same : p.value ≡ e = cc in
    ap (refers_well pool) (sym same) ∙ (no_flaw (refers_well pool p.value) (flaw_at cause.POOL p.at) (filter_map (entry_flaw pool) slots) none).0
slots_sound pool (Some p ∷ slots) (suc i) e none is =
    slots_sound pool slots i e (no_flaw (refers_well pool p.value) (flaw_at cause.POOL p.at) (filter_map (entry_flaw pool) slots) none).1 is

pub entry_sound : (pool : Pool) (i : ℕ) (e : Entry) → entry_flaws pool ≡ [] → entry_of pool i ≡ Some e → refers_well pool e ≡ true
unfolding entry_flaws
entry_sound pool i e none is = slots_sound pool pool i e none is

-- ---- an entry is there where its tag is

pub utf8_there : (pool : Pool) (i : ℕ) → is_some (utf8_of pool i) ≡ has_tag pool i tag.UTF8
utf8_there pool i = go (entry_of pool i)
  where
    go : (o : Option Entry) → is_some (option_and_then utf8_in o) ≡ option_map_or (λ found. found == tag.UTF8) (option_map tag_of o) false
    go None = refl
    go (Some (utf8 bytes)) = refl
    go (Some other) = refl

pub class_there : (pool : Pool) (i : ℕ) → entry_flaws pool ≡ [] → is_some (class_of pool i) ≡ has_tag pool i tag.CLASS
class_there pool i none = go (entry_of pool i) refl
  where
    go : (o : Option Entry) → entry_of pool i ≡ o → is_some (option_and_then (class_in pool) o) ≡ option_map_or (λ found. found == tag.CLASS) (option_map tag_of o) false
    go None is = refl
    go (Some (class name)) is = utf8_there pool name ∙ entry_sound pool i (class name) none is
    go (Some other) is = refl

pub string_there : (pool : Pool) (i : ℕ) → entry_flaws pool ≡ [] → is_some (string_of pool i) ≡ has_tag pool i tag.STRING
string_there pool i none = go (entry_of pool i) refl
  where
    go : (o : Option Entry) → entry_of pool i ≡ o → is_some (option_and_then (string_in pool) o) ≡ option_map_or (λ found. found == tag.STRING) (option_map tag_of o) false
    go None is = refl
    go (Some (string text)) is = utf8_there pool text ∙ entry_sound pool i (string text) none is
    go (Some other) is = refl

-- two that are there are there together
pairs : {A B : Type 0} (o : Option A) (p : Option B) → is_some o ≡ true → is_some p ≡ true → is_some (option_and_then (λ x. option_map (λ y. (let z : A × B = (x, y) in z)) p) o) ≡ true
pairs None p e f = absurd cc
pairs (Some x) None e f = absurd cc
pairs (Some x) (Some y) e f = refl

names_there : (pool : Pool) (i : ℕ) → entry_flaws pool ≡ [] → has_tag pool i tag.NAME_AND_TYPE ≡ true → is_some (option_and_then (names_in pool) (entry_of pool i)) ≡ true
names_there pool i none tagged = go (entry_of pool i) refl tagged
  where
    go : (o : Option Entry) → entry_of pool i ≡ o → option_map_or (λ found. found == tag.NAME_AND_TYPE) (option_map tag_of o) false ≡ true → is_some (option_and_then (names_in pool) o) ≡ true
    go None is t = absurd cc
    go (Some (name_and_type name descriptor)) is t =
        let good = both (has_tag pool name tag.UTF8) (has_tag pool descriptor tag.UTF8) (entry_sound pool i (name_and_type name descriptor) none is) in
        pairs (utf8_of pool name) (utf8_of pool descriptor) (utf8_there pool name ∙ good.0) (utf8_there pool descriptor ∙ good.1)
    go (Some other) is t = absurd cc

member_made : (t : ℕ) (o : Option (List ℕ)) (p : Option (List ℕ × List ℕ)) → is_some o ≡ true → is_some p ≡ true
    → is_some (option_map (λ m. (let z : ℕ × MemberRef = (t, m) in z)) (option_and_then (λ owner. option_map (λ n. (let m : MemberRef = record { owner = owner; name = n.0; descriptor = n.1 } in m)) p) o)) ≡ true
member_made t None p e f = absurd cc
member_made t (Some x) None e f = absurd cc
member_made t (Some x) (Some y) e f = refl

by_there : (pool : Pool) (t owner named : ℕ) → entry_flaws pool ≡ [] → (has_tag pool owner tag.CLASS && has_tag pool named tag.NAME_AND_TYPE) ≡ true → is_some (option_map (λ m. (let z : ℕ × MemberRef = (t, m) in z)) (member_by pool owner named)) ≡ true
by_there pool t owner named none good =
    let two = both (has_tag pool owner tag.CLASS) (has_tag pool named tag.NAME_AND_TYPE) good in
    member_made t (class_of pool owner) (option_and_then (names_in pool) (entry_of pool named)) (class_there pool owner none ∙ two.0) (names_there pool named none two.1)

abbrev tag_test : Option Entry → ℕ → Bool
tag_test o expected = option_map_or (λ found. found == expected) (option_map tag_of o) false

pub member_there : (pool : Pool) (i : ℕ) → entry_flaws pool ≡ [] → is_some (tagged_member_of pool i) ≡ (has_tag pool i tag.FIELD || has_tag pool i tag.METHOD || has_tag pool i tag.INTERFACE_METHOD)
member_there pool i none = go (entry_of pool i) refl
  where
    go : (o : Option Entry) → entry_of pool i ≡ o → is_some (option_and_then (λ t. option_map (λ m. (let z : ℕ × MemberRef = (t, m) in z)) (option_and_then (member_in pool) o)) (option_map tag_of o)) ≡ (tag_test o tag.FIELD || tag_test o tag.METHOD || tag_test o tag.INTERFACE_METHOD)
    go None is = refl
    go (Some (field owner named)) is = by_there pool tag.FIELD owner named none (entry_sound pool i (field owner named) none is)
    go (Some (method owner named)) is = by_there pool tag.METHOD owner named none (entry_sound pool i (method owner named) none is)
    go (Some (interface_method owner named)) is = by_there pool tag.INTERFACE_METHOD owner named none (entry_sound pool i (interface_method owner named) none is)
    go (Some other) is = refl
