-- What meets a query meets each one that the first-fit search finds in it.
use Rattle.std.proofs.Common.{◌≡◌, inl, inr, ℕ, ◌==◌, zero, suc, Bool, true, false, cond, ℤ, List, [], ◌∷◌, map, Option, None, Some, slice_get, slice_set, refl, sym, ap, subst, ◌∙◌}
use Rattle.std.specs.Prelude.{◌&&◌}
use Rattle.std.specs.Option.{option_and_then, option_map, option_or}
use Rattle.std.specs.Ordering.{int_eq}
use Rattle.std.proofs.lemmas.Bool.{and_parts, both_ways, eqb-true, cases_eq}
use Rattle.std.proofs.lemmas.Bool.Decides.{Decides-int_eq}
use Rattle.std.proofs.lemmas.Option.{slice_get_within}
use Rattle.th_base.specs.declared.number.FieldId.{FieldId}
use Rattle.th_base.specs.declared.number.Reg.{Reg}
use Rattle.th_base.specs.Hierarchy.{first_some}
use Rattle.th_base.proofs.Alike.{slice_get-set_same, slice_get-set_other}
use Rattle.th_linear.specs.Forms.{Form}
use Rattle.th_linear.specs.declared.fact.Rel.{Rel}
use Rattle.th_linear.specs.declared.fact.Rel.TheVariants.{Eq, Le, Ne}
use Rattle.th_pure.specs.Elimination.{same_relation}
use Rattle.th_ir.proofs.Plain.{some_is}
use Rattle.th_query.specs.declared.query.Frame.{Frame}
use Rattle.th_query.specs.declared.query.Cell.{Cell}
use Rattle.th_query.specs.declared.query.Element.{Element}
use Rattle.th_query.specs.declared.query.Sym.{Sym}
use Rattle.th_query.specs.declared.query.Query.{Query}
use Rattle.th_query.specs.Symbols.{symbol_at}
use Rattle.th_query.specs.Subsumed.{same_kind, matched_by, matched, matched_in_turn, matched_all, matched_register, matched_frames, matched_cell, matched_element, paired, matched_with_fact, matched_fact}
use Rattle.th_query.proofs.InLists.{In}

-- ---- matchings

abbrev pub Matching : Type 0
Matching = List (Option ℕ)

-- s is matched with t
abbrev pub At : Matching → ℕ → ℕ → Type 0
At m s t = slice_get m s ≡ Some (Some t)

-- what is matched stays so
abbrev pub Grows : Matching → Matching → Type 0
Grows m n = (s t : ℕ) → At m s t → At n s t

abbrev pub AreOfKind : Query → Query → Matching → Type 0
AreOfKind q r m = (s t : ℕ) → At m s t → same_kind (symbol_at q t) (symbol_at r s) ≡ true

pub grows_through : (m n o : Matching) → Grows m n → Grows n o → Grows m o
grows_through m n o a b s t at = b s t (a s t at)

cond_some : {A : Type 0} (b : Bool) (x y : A) → cond b (Some x) None ≡ Some y → (b ≡ true) × (x ≡ y)
cond_some true x y e = (refl, some_is x y e)
cond_some false x y e = absurd cc

-- what one match does
pub record Step (q r : Query) (P : Matching → Type 0) (m n : Matching) : Type 0 where
  pub grows : Grows m n
  pub kinds : AreOfKind q r n
  pub holds : P n

matched_step : (q r : Query) (s t : ℕ) (m n : Matching) (o : Option (Option ℕ)) → slice_get m s ≡ o → matched_by q r s t m o ≡ Some n → AreOfKind q r m → Step q r (λ k. At k s t) m n
matched_step q r s t m n None is e k = absurd cc
matched_step q r s t m n (Some None) is e k =
    let c = cond_some (same_kind (symbol_at q t) (symbol_at r s)) (slice_set m s (Some t)) n e in
    let below = slice_get_within m s None is in
    let here : At (slice_set m s (Some t)) s t = slice_get-set_same m s (Some t) below in
    let grows : Grows m (slice_set m s (Some t)) = λ a b at. elim (cases_eq a s) [
      | inl same ↦ absurd (not_free a s b m same is at)
      | inr other ↦ slice_get-set_other m s a (Some t) other ∙ at
    ] in
    let kinds : AreOfKind q r (slice_set m s (Some t)) = λ a b at. elim (cases_eq a s) [
      | inl same ↦
          let value : b ≡ t = one_value b t (slice_set m s (Some t)) s (subst (λ i. At (slice_set m s (Some t)) i b) same at) here in
          subst (λ i. same_kind (symbol_at q b) (symbol_at r i) ≡ true) (sym same) (subst (λ i. same_kind (symbol_at q i) (symbol_at r s) ≡ true) (sym value) c.0)
      | inr other ↦ k a b (sym (slice_get-set_other m s a (Some t) other) ∙ at)
    ] in
    record { grows = subst (Grows m) c.1 grows; kinds = subst (AreOfKind q r) c.1 kinds; holds = subst (λ z. At z s t) c.1 here }
  where
    not_free : (a s b : ℕ) (m : Matching) → a ≡ s → slice_get m s ≡ Some None → At m a b → ⊥
    not_free a s b m same free at = let both : Some None ≡ Some (Some b) = sym free ∙ ap (slice_get m) (sym same) ∙ at in cc

    one_value : (a b : ℕ) (m : Matching) (s : ℕ) → At m s a → At m s b → a ≡ b
    one_value a b m s x y = let both : Some (Some a) ≡ Some (Some b) = sym x ∙ y in cc
matched_step q r s t m n (Some (Some u)) is e k =
    let c = cond_some (u == t) m n e in
    subst (Step q r (λ z. At z s t) m) c.1 record { grows = λ a b at. at; kinds = k; holds = is ∙ ap (λ z. Some (Some z)) (eqb-true u t c.0) }

pub matched_is : (q r : Query) (x : ℕ × ℕ) (m n : Matching) → matched q r x m ≡ Some n → AreOfKind q r m → Step q r (λ k. At k x.0 x.1) m n
matched_is q r x m n e k = matched_step q r x.0 x.1 m n (slice_get m x.0) refl e k

-- matches in turn
pub in_turn : {X : Type 0} (q r : Query) (step : X → Matching → Option Matching) (P : X → Matching → Type 0) → ((x : X) (m n : Matching) → Grows m n → P x m → P x n)
    → ((x : X) (m n : Matching) → step x m ≡ Some n → AreOfKind q r m → Step q r (P x) m n) → (xs : List X) (m n : Matching) → matched_in_turn step xs m ≡ Some n → AreOfKind q r m
    → Step q r (λ k. (x : X) → In x xs → P x k) m n
in_turn q r step P keeps one [] m n e k = let same = some_is m n e in subst (Step q r (λ z. (x : _) → ⊥ → P x z) m) same record { grows = λ a b at. at; kinds = k; holds = λ x none. absurd none }
in_turn {X = X} q r step P keeps one (x ∷ xs) m n e k = go (step x m) refl e (λ o. in_turn q r step P keeps one xs o n)
  where
    go : (o : Option Matching) → step x m ≡ o → option_and_then (matched_in_turn step xs) o ≡ Some n
        → ((o : Matching) → matched_in_turn step xs o ≡ Some n → AreOfKind q r o → Step q r (λ k. (y : X) → In y xs → P y k) o n) → Step q r (λ k. (y : X) → In y (x ∷ xs) → P y k) m n
    go None is h f = absurd cc
    go (Some o) is h f =
        let first = one x m o is k in
        let rest = f o h first.kinds in
        record {
          grows = grows_through m o n first.grows rest.grows;
          kinds = rest.kinds;
          holds = λ y i. at_either y i (keeps x o n rest.grows first.holds) rest.holds;
        }
      where
        at_either : (y : X) → In y (x ∷ xs) → P x n → ((z : X) → In z xs → P z n) → P y n
        at_either y (inl e) here later = subst (λ z. P z n) (sym e) here
        at_either y (inr i) here later = later y i

-- ---- the first that fits

pub first_found : {X Y : Type 0} (f : X → Option Y) (xs : List X) (y : Y) → first_some f xs ≡ Some y → (x : X) × In x xs × (f x ≡ Some y)
first_found f [] y e = absurd cc
first_found {X = X} {Y = Y} f (x ∷ xs) y e = go (f x) refl e (first_found f xs y)
  where
    go : (o : Option Y) → f x ≡ o → option_or o (first_some f xs) ≡ Some y → (first_some f xs ≡ Some y → (z : X) × In z xs × (f z ≡ Some y)) → (z : X) × In z (x ∷ xs) × (f z ≡ Some y)
    go None is h g = let r = g h in (r.0, inr r.1, r.2)
    go (Some z) is h g = (x, inl refl, is ∙ h)

-- ---- facts of registers and static fields

-- the fact has a partner of the same key
pub record HasPartner {K : Type 0} (number : K → ℕ) (facts : List (K × ℕ)) (x : K × ℕ) (m : Matching) : Type 0 where
  pub partner : K × ℕ
  pub among : In partner facts
  pub same : number partner.0 ≡ number x.0
  pub matched : At m x.1 partner.1

pub partner_step : {K : Type 0} (q r : Query) (number : K → ℕ) (facts : List (K × ℕ)) (x : K × ℕ) (m n : Matching)
    → option_and_then (λ y. matched q r (x.1, y) m) (first_some (λ (y : K × ℕ). cond (number y.0 == number x.0) (Some y.1) None) facts) ≡ Some n → AreOfKind q r m
    → Step q r (HasPartner number facts x) m n
partner_step {K = K} q r number facts x m n e k = go (first_some (λ (y : K × ℕ). cond (number y.0 == number x.0) (Some y.1) None) facts) refl e
  where
    go : (o : Option ℕ) → first_some (λ (y : K × ℕ). cond (number y.0 == number x.0) (Some y.1) None) facts ≡ o → option_and_then (λ y. matched q r (x.1, y) m) o ≡ Some n → Step q r (HasPartner number facts x) m n
    go None is h = absurd cc
    go (Some t) is h =
        let f = first_found (λ (y : K × ℕ). cond (number y.0 == number x.0) (Some y.1) None) facts t is in
        let c = cond_some (number f.0.0 == number x.0) f.0.1 t f.2 in
        let step = matched_is q r (x.1, t) m n h k in
        record {
          grows = step.grows;
          kinds = step.kinds;
          holds = record { partner = f.0; among = f.1; same = eqb-true (number f.0.0) (number x.0) c.0; matched = subst (λ u. At n x.1 u) (sym c.1) step.holds };
        }

pub partner_grows : {K : Type 0} (number : K → ℕ) (facts : List (K × ℕ)) (x : K × ℕ) (m n : Matching) → Grows m n → HasPartner number facts x m → HasPartner number facts x n
partner_grows number facts x m n g p = record { partner = p.partner; among = p.among; same = p.same; matched = g x.1 p.partner.1 p.matched }

abbrev pub reg_number : Reg → ℕ
reg_number r = r.0

abbrev pub field_number : FieldId → ℕ
field_number f = f.0

-- the frames of r are matched with those of q, one by one
abbrev pub AreFramesMatched : List Frame → List Frame → Matching → Type 0
AreFramesMatched [] [] m = Unit {0}
AreFramesMatched [] (g ∷ gs) m = ⊥
AreFramesMatched (f ∷ fs) [] m = ⊥
AreFramesMatched (f ∷ fs) (g ∷ gs) m = (f.node.0 ≡ g.node.0) × ((x : Reg × ℕ) → In x g.regs → HasPartner reg_number f.regs x m) × AreFramesMatched fs gs m

pub frames_grow : (fs gs : List Frame) (m n : Matching) → Grows m n → AreFramesMatched fs gs m → AreFramesMatched fs gs n
frames_grow [] [] m n g a = tt
frames_grow [] (x ∷ xs) m n g a = a
frames_grow (f ∷ fs) [] m n g a = a
frames_grow (f ∷ fs) (x ∷ xs) m n g a = (a.0, (λ y i. partner_grows reg_number f.regs y m n g (a.1 y i)), frames_grow fs xs m n g a.2)

pub frames_step : (q r : Query) (fs gs : List Frame) (m n : Matching) → matched_frames q r fs gs m ≡ Some n → AreOfKind q r m → Step q r (AreFramesMatched fs gs) m n
frames_step q r [] [] m n e k = subst (Step q r (AreFramesMatched [] []) m) (some_is m n e) record { grows = λ a b at. at; kinds = k; holds = tt }
frames_step q r [] (g ∷ gs) m n e k = absurd cc
frames_step q r (f ∷ fs) [] m n e k = absurd cc
frames_step q r (f ∷ fs) (g ∷ gs) m n e k = node (f.node.0 == g.node.0) refl e (λ o. frames_step q r fs gs o n)
  where
    rest : (f.node.0 == g.node.0) ≡ true → (o : Option Matching) → matched_in_turn (matched_register q r f.regs) g.regs m ≡ o → option_and_then (matched_frames q r fs gs) o ≡ Some n
        → ((o : Matching) → matched_frames q r fs gs o ≡ Some n → AreOfKind q r o → Step q r (AreFramesMatched fs gs) o n) → Step q r (AreFramesMatched (f ∷ fs) (g ∷ gs)) m n
    rest same None is h go = absurd cc
    rest same (Some o) is h go =
        let first = in_turn q r (matched_register q r f.regs) (HasPartner reg_number f.regs) (partner_grows reg_number f.regs) (λ x a b s t. partner_step q r reg_number f.regs x a b s t) g.regs m o is k in
        let last = go o h first.kinds in
        record {
          grows = grows_through m o n first.grows last.grows;
          kinds = last.kinds;
          holds = (eqb-true f.node.0 g.node.0 same, (λ x i. partner_grows reg_number f.regs x o n last.grows (first.holds x i)), last.holds);
        }

    node : (b : Bool) → (f.node.0 == g.node.0) ≡ b → cond b (option_and_then (matched_frames q r fs gs) (matched_in_turn (matched_register q r f.regs) g.regs m)) None ≡ Some n
        → ((o : Matching) → matched_frames q r fs gs o ≡ Some n → AreOfKind q r o → Step q r (AreFramesMatched fs gs) o n) → Step q r (AreFramesMatched (f ∷ fs) (g ∷ gs)) m n
    node true same h go = rest same (matched_in_turn (matched_register q r f.regs) g.regs m) refl h go
    node false same h go = absurd cc

-- ---- cells and elements

abbrev pub PairsAt : List (ℕ × ℕ) → Matching → Type 0
PairsAt pairs m = (x : ℕ × ℕ) → In x pairs → At m x.0 x.1

pairs_step : (q r : Query) (pairs : List (ℕ × ℕ)) (m n : Matching) → matched_all q r pairs m ≡ Some n → AreOfKind q r m → Step q r (PairsAt pairs) m n
pairs_step q r pairs m n e k = in_turn q r (matched q r) (λ x z. At z x.0 x.1) (λ x a b g at. g x.0 x.1 at) (λ x a b s t. matched_is q r x a b s t) pairs m n e k

pub record HasCell (q : Query) (c : Cell) (m : Matching) : Type 0 where
  pub cell : Cell
  pub among : In cell q.cells
  pub same : cell.field.0 ≡ c.field.0
  pub base : At m c.base cell.base
  pub value : At m c.value cell.value

pub cell_step : (q r : Query) (c : Cell) (m n : Matching) → matched_cell q r c m ≡ Some n → AreOfKind q r m → Step q r (HasCell q c) m n
cell_step q r c m n e k =
    let f = first_found (λ (d : Cell). cond (d.field.0 == c.field.0) (matched_all q r ((c.base, d.base) ∷ (c.value, d.value) ∷ []) m) None) q.cells n e in
    of_cell f.0 f.1 (f.0.field.0 == c.field.0) refl f.2
  where
    of_cell : (d : Cell) → In d q.cells → (b : Bool) → (d.field.0 == c.field.0) ≡ b → cond b (matched_all q r ((c.base, d.base) ∷ (c.value, d.value) ∷ []) m) None ≡ Some n → Step q r (HasCell q c) m n
    of_cell d i true same h =
        let step = pairs_step q r ((c.base, d.base) ∷ (c.value, d.value) ∷ []) m n h k in
        record {
          grows = step.grows;
          kinds = step.kinds;
          holds = record { cell = d; among = i; same = eqb-true d.field.0 c.field.0 same; base = step.holds (c.base, d.base) (inl refl); value = step.holds (c.value, d.value) (inr (inl refl)) };
        }
    of_cell d i false same h = absurd cc

pub record HasElement (q : Query) (c : Element) (m : Matching) : Type 0 where
  pub element : Element
  pub among : In element q.elems
  pub array : At m c.array element.array
  pub value : At m c.value element.value

pub element_step : (q r : Query) (c : Element) (m n : Matching) → matched_element q r c m ≡ Some n → AreOfKind q r m → Step q r (HasElement q c) m n
element_step q r c m n e k =
    let f = first_found (λ (d : Element). matched_all q r ((c.array, d.array) ∷ (c.value, d.value) ∷ []) m) q.elems n e in
    let d = f.0 in
    let step = pairs_step q r ((c.array, d.array) ∷ (c.value, d.value) ∷ []) m n f.2 k in
    record {
      grows = step.grows;
      kinds = step.kinds;
      holds = record { element = d; among = f.1; array = step.holds (c.array, d.array) (inl refl); value = step.holds (c.value, d.value) (inr (inl refl)) };
    }

-- ---- linear facts

-- the same coefficients, with matched variables
abbrev pub ArePaired : List (ℕ × ℤ) → List (ℕ × ℤ) → Matching → Type 0
ArePaired [] [] m = Unit {0}
ArePaired [] (u ∷ us) m = ⊥
ArePaired (t ∷ ts) [] m = ⊥
ArePaired (t ∷ ts) (u ∷ us) m = (t.1 ≡ u.1) × At m t.0 u.0 × ArePaired ts us m

paired_grows : (ts us : List (ℕ × ℤ)) (m n : Matching) → Grows m n → ArePaired ts us m → ArePaired ts us n
paired_grows [] [] m n g a = tt
paired_grows [] (u ∷ us) m n g a = a
paired_grows (t ∷ ts) [] m n g a = a
paired_grows (t ∷ ts) (u ∷ us) m n g a = (a.0, g t.0 u.0 a.1, paired_grows ts us m n g a.2)

paired_is : (ts us : List (ℕ × ℤ)) (pairs : List (ℕ × ℕ)) (m : Matching) → paired ts us ≡ Some pairs → PairsAt pairs m → ArePaired ts us m
paired_is [] [] pairs m e at = tt
paired_is [] (u ∷ us) pairs m e at = absurd cc
paired_is (t ∷ ts) [] pairs m e at = absurd cc
paired_is (t ∷ ts) (u ∷ us) pairs m e at = test (int_eq t.1 u.1) refl e (λ rest i. paired_is ts us rest m i)
  where
    more : t.1 ≡ u.1 → (o : Option (List (ℕ × ℕ))) → paired ts us ≡ o → option_map (λ (ps : List (ℕ × ℕ)). (t.0, u.0) ∷ ps) o ≡ Some pairs → ((rest : List (ℕ × ℕ)) → paired ts us ≡ Some rest → PairsAt rest m → ArePaired ts us m) → ArePaired (t ∷ ts) (u ∷ us) m
    more same None is h go = absurd cc
    more same (Some rest) is h go =
        let all : ((t.0, u.0) ∷ rest) ≡ pairs = some_is ((t.0, u.0) ∷ rest) pairs h in
        let here : PairsAt ((t.0, u.0) ∷ rest) m = subst (λ ps. PairsAt ps m) (sym all) at in
        (same, here (t.0, u.0) (inl refl), go rest is (λ x i. here x (inr i)))

    test : (b : Bool) → int_eq t.1 u.1 ≡ b → cond b (option_map (λ (ps : List (ℕ × ℕ)). (t.0, u.0) ∷ ps) (paired ts us)) None ≡ Some pairs → ((rest : List (ℕ × ℕ)) → paired ts us ≡ Some rest → PairsAt rest m → ArePaired ts us m) → ArePaired (t ∷ ts) (u ∷ us) m
    test true same h go = more ((Decides-int_eq t.1 u.1).0 same) (paired ts us) refl h go
    test false same h go = absurd cc

one_relation : (a b : Rel) → same_relation a b ≡ true → a ≡ b
one_relation Eq Eq h = refl
one_relation Eq Le h = absurd (both_ways _ refl h)
one_relation Eq Ne h = absurd (both_ways _ refl h)
one_relation Le Eq h = absurd (both_ways _ refl h)
one_relation Le Le h = refl
one_relation Le Ne h = absurd (both_ways _ refl h)
one_relation Ne Eq h = absurd (both_ways _ refl h)
one_relation Ne Le h = absurd (both_ways _ refl h)
one_relation Ne Ne h = refl

pub record HasFact (q : Query) (f : Form) (m : Matching) : Type 0 where
  pub fact : Form
  pub among : In fact q.facts
  pub rel : fact.rel ≡ f.rel
  pub constant : fact.constant ≡ f.constant
  pub coefs : ArePaired f.coefs fact.coefs m

pub fact_grows : (q : Query) (f : Form) (m n : Matching) → Grows m n → HasFact q f m → HasFact q f n
fact_grows q f m n g h = record { fact = h.fact; among = h.among; rel = h.rel; constant = h.constant; coefs = paired_grows f.coefs h.fact.coefs m n g h.coefs }

pub fact_step : (q r : Query) (f : Form) (m n : Matching) → matched_fact q r f m ≡ Some n → AreOfKind q r m → Step q r (HasFact q f) m n
fact_step q r f m n e k =
    let x = first_found (λ (g : Form). matched_with_fact q r f g m) q.facts n e in
    test x.0 x.1 (same_relation x.0.rel f.rel && int_eq x.0.constant f.constant) refl x.2
  where
    pairs : (g : Form) → In g q.facts → (same_relation g.rel f.rel && int_eq g.constant f.constant) ≡ true → (o : Option (List (ℕ × ℕ))) → paired f.coefs g.coefs ≡ o → option_and_then (λ ps. matched_all q r ps m) o ≡ Some n → Step q r (HasFact q f) m n
    pairs g i same None is h = absurd cc
    pairs g i same (Some ps) is h =
        let step = pairs_step q r ps m n h k in
        let both = and_parts (same_relation g.rel f.rel) (int_eq g.constant f.constant) same in
        record {
          grows = step.grows;
          kinds = step.kinds;
          holds = record { fact = g; among = i; rel = one_relation g.rel f.rel both.0; constant = (Decides-int_eq g.constant f.constant).0 both.1; coefs = paired_is f.coefs g.coefs ps n is step.holds };
        }

    test : (g : Form) → In g q.facts → (b : Bool) → (same_relation g.rel f.rel && int_eq g.constant f.constant) ≡ b → cond b (option_and_then (λ ps. matched_all q r ps m) (paired f.coefs g.coefs)) None ≡ Some n → Step q r (HasFact q f) m n
    test g i true same h = pairs g i same (paired f.coefs g.coefs) refl h
    test g i false same h = absurd cc

-- ---- the whole matching

pub record IsMatching (q r : Query) (m : Matching) : Type 0 where
  pub kinds : AreOfKind q r m
  pub frames : AreFramesMatched q.frames r.frames m
  pub statics : (x : FieldId × ℕ) → In x r.statics → HasPartner field_number q.statics x m
  pub cells : (c : Cell) → In c r.cells → HasCell q c m
  pub elems : (e : Element) → In e r.elems → HasElement q e m
  pub facts : (f : Form) → In f r.facts → HasFact q f m

pub none_matched : (xs : List Sym) (s : ℕ) (t : ℕ) → slice_get (map (λ (x : Sym). let o : Option ℕ = None in o) xs) s ≡ Some (Some t) → ⊥
none_matched [] s t e = cc
none_matched (x ∷ xs) zero t e = cc
none_matched (x ∷ xs) (suc s) t e = none_matched xs s t e
