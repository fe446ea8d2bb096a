-- Alarms as pairs of numbers: how many there are, and that they survive.
use Rattle.std.proofs.Common.{◌≡◌, ℕ, ◌+◌, ◌*◌, ◌<◌, List, [], ◌∷◌, ◌++◌, map, length, take, get_or, refl, sym, ap, ◌∙◌, arith, length-append}
use Rattle.std.specs.Prelude.{nat_le}
use Rattle.std.proofs.Math.Nat.{suc-mul}
use Rattle.std.proofs.lemmas.List.{append-nil, length-map, map-append, take_more}
use Rattle.std.proofs.lemmas.List.Concat.{flat_map-append}
use Rattle.th_base.specs.declared.number.ClassId.{ClassId}
use Rattle.th_base.specs.declared.number.FieldId.{FieldId}
use Rattle.th_coarse.specs.declared.alarms.TheConstants.{MOST_ALARMS}
use Rattle.th_coarse.specs.declared.judged.Judged.{Judged}
use Rattle.th_coarse.specs.declared.judged.Mark.TheVariants.{Survives}
use Rattle.th_coarse.specs.Coarse.{pairs_of, are_few}
use Rattle.th_coarse.specs.Report.{all_surviving, survivors}

pub all_survive : (pairs : List (ℕ × ℕ)) → survivors (all_surviving pairs) ≡ pairs
all_survive [] = refl
all_survive (p ∷ pairs) = ap (λ ps. p ∷ ps) (all_survive pairs)

pairs_counted : (fields classes : List ℕ) → length (pairs_of fields classes) ≡ length fields * length classes
pairs_counted [] classes = omega arith
pairs_counted (f ∷ fields) classes =
    length-append (map (λ c. (f, c)) classes) (pairs_of fields classes)
    ∙ ap (λ n. n + length (pairs_of fields classes)) (length-map classes (λ c. let p : ℕ × ℕ = (f, c) in p))
    ∙ ap (λ n. length classes + n) (pairs_counted fields classes)
    ∙ (let more = suc-mul (length fields) (length classes) in omega (arith, more))

pub alarms_counted : (fields : List FieldId) (classes : List ClassId) → nat_le (length fields * length classes) MOST_ALARMS ≡ are_few (pairs_of (map (λ f. f.0) fields) (map (λ c. c.0) classes))
alarms_counted fields classes =
    ap (λ k. nat_le (length fields * k) MOST_ALARMS) (sym (length-map classes (λ (c : ClassId). c.0)))
    ∙ ap (λ k. nat_le (k * length (map (λ (c : ClassId). c.0) classes)) MOST_ALARMS) (sym (length-map fields (λ (f : FieldId). f.0)))
    ∙ ap (λ k. nat_le k MOST_ALARMS) (sym (pairs_counted (map (λ (f : FieldId). f.0) fields) (map (λ (c : ClassId). c.0) classes)))

surviving_behind : (ps qs : List (ℕ × ℕ)) → all_surviving (ps ++ qs) ≡ all_surviving ps ++ all_surviving qs
surviving_behind [] qs = refl
surviving_behind (p ∷ ps) qs = ap (λ js. record { field = record { 0 = p.0 }; class = record { 0 = p.1 }; mark = Survives } ∷ js) (surviving_behind ps qs)

one_field_more : (fields : List FieldId) (classes : List ℕ) (i : ℕ) (d : FieldId) → i < length fields
    → all_surviving (pairs_of (map (λ f. f.0) (take (i + 1) fields)) classes)
    ≡ all_surviving (pairs_of (map (λ f. f.0) (take i fields)) classes) ++ all_surviving (map (λ n. ((get_or fields i d).0, n)) classes)
one_field_more fields classes i d under =
    ap (λ fs. all_surviving (pairs_of (map (λ (f : FieldId). f.0) fs) classes)) (take_more fields i d under)
    ∙ ap (λ ns. all_surviving (pairs_of ns classes)) (map-append (λ (f : FieldId). f.0) (take i fields) (get_or fields i d ∷ []))
    ∙ ap all_surviving (flat_map-append (λ (n : ℕ). map (λ c. (n, c)) classes) (map (λ (f : FieldId). f.0) (take i fields)) ((get_or fields i d).0 ∷ []))
    ∙ surviving_behind (pairs_of (map (λ (f : FieldId). f.0) (take i fields)) classes) (map (λ c. ((get_or fields i d).0, c)) classes ++ [])
    ∙ ap (λ ps. all_surviving (pairs_of (map (λ (f : FieldId). f.0) (take i fields)) classes) ++ all_surviving ps) (append-nil (map (λ c. ((get_or fields i d).0, c)) classes))

-- the alarms of one more field are put behind
pub one_field_on : (fields : List FieldId) (classes : List ℕ) (i : ℕ) (d : FieldId) (now next : List Judged) → i < length fields
    → now ≡ all_surviving (pairs_of (map (λ f. f.0) (take i fields)) classes) → next ≡ now ++ all_surviving (map (λ n. ((get_or fields i d).0, n)) classes)
    → next ≡ all_surviving (pairs_of (map (λ f. f.0) (take (i + 1) fields)) classes)
one_field_on fields classes i d now next under so_far grown =
    grown ∙ ap (λ js. js ++ all_surviving (map (λ n. ((get_or fields i d).0, n)) classes)) so_far ∙ sym (one_field_more fields classes i d under)

-- a text that was written in six parts
pub six_parts : (a b c d e f t u v w x y : List ℕ) → t ≡ a → u ≡ t ++ b → v ≡ u ++ c → w ≡ v ++ d → x ≡ w ++ e → y ≡ x ++ f → y ≡ ((((a ++ b) ++ c) ++ d) ++ e) ++ f
six_parts a b c d e f t u v w x y is_t is_u is_v is_w is_x is_y =
    is_y ∙ ap (λ z. z ++ f) (is_x ∙ ap (λ z. z ++ e) (is_w ∙ ap (λ z. z ++ d) (is_v ∙ ap (λ z. z ++ c) (is_u ∙ ap (λ z. z ++ b) is_t))))
