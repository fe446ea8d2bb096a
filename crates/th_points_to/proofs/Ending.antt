-- The facts that list what was found at the end are the least ones.
use Rattle.std.proofs.Common.{◌≡◌, ◌⊎◌, inl, inr, ℕ, ◌<◌, ◌≤◌, ◌+◌, ◌-◌, zero, suc, true, List, [], ◌∷◌, length, Some, slice_get, refl, sym, ap, arith, ◌∙◌}
use Rattle.std.specs.List.{AllByRecursion}
use Rattle.th_base.specs.declared.class.ClassInfo.{ClassInfo}
use Rattle.th_base.specs.declared.number.FieldId.{FieldId}
use Rattle.th_base.specs.declared.number.MethodId.{MethodId}
use Rattle.th_base.specs.declared.number.SiteId.{SiteId}
use Rattle.th_base.specs.IdSet.{has}
use Rattle.th_incl.specs.Least.{set_at, is_in, Reaches, given, passed, IsLeast}
use Rattle.th_incl.proofs.Families.{least_is_closed, within_closed}
use Rattle.th_ir.specs.declared.facts.Facts.{Facts}
use Rattle.th_ir.specs.declared.program.RegProgram.{RegProgram}
use Rattle.th_ir.specs.FactSets.{FactSets, sets_of, SaysWithin}
use Rattle.th_ir.specs.Program.{Among}
use Rattle.th_ir.specs.Rules.{LeastFacts}
use Rattle.th_ir.specs.WellFormed.{IsWellFormed}
use Rattle.th_ir.proofs.Plain.{same_test, all_at}
use Rattle.th_points_to.specs.declared.found.Found.{Found}
use Rattle.th_points_to.specs.declared.place.Layout.{Layout}
use Rattle.th_points_to.specs.declared.place.Place.TheVariants.{Register, Static, Elements, Cell}
use Rattle.th_points_to.specs.declared.rounds.State.{State}
use Rattle.th_points_to.specs.declared.tables.Tables.{Tables}
use Rattle.th_points_to.specs.Found.{holds, IsLaid, Holds}
use Rattle.th_points_to.specs.Listing.{AreOnce, IsListing}
use Rattle.th_points_to.specs.Places.{Gives, AreInRange}
use Rattle.th_points_to.specs.Rounds.{IsRoundOf, IsState}
use Rattle.th_points_to.proofs.Laying.{register_is, static_is, elements_is, cell_is}
use Rattle.th_points_to.proofs.Obeying.{HasRegisters, IsLayout}
use Rattle.th_points_to.proofs.Finishing.{obeyed_at_end}

get_inside : {A : Type 0} (xs : List A) (k : ℕ) → k < length xs → (x : A) × (slice_get xs k ≡ Some x)
get_inside [] k less = absurd (omega arith)
get_inside (x ∷ xs) zero less = (x, refl)
get_inside (x ∷ xs) (suc k) less = get_inside xs k (omega arith)

less_or : (a b : ℕ) → (a < b) ⊎ (b ≤ a)
less_or a b = grind arith

-- what facts that list say of each set is what it has
pub says_same : (h : List ClassInfo) (l : Layout) (p : RegProgram) (g : Found) (facts : Facts) → IsLaid l g → AreOnce g.cells.keys → IsListing h l p g facts
    → (i x : ℕ) → i < g.solver.constraints.sets → holds l g.cells.keys (sets_of facts) i x ≡ is_in g.solver.sets i x
says_same h l p g facts laid once lists i x inside =
    let t = sets_of facts in
    elim (less_or i l.registers) [
      | inl r ↦ register_is l g.cells.keys i i (omega arith) r t x ∙ lists.reg i x r
      | inr past_r ↦ elim (less_or i (l.registers + l.fields)) [
        | inl f ↦
            (let at_f : i ≡ l.registers + (i - l.registers) = omega arith in
            static_is l g.cells.keys i (i - l.registers) at_f (omega arith) t x ∙ lists.static (i - l.registers) x (omega arith)
            ∙ ap (λ (n : ℕ). has (set_at g.solver.sets n) x) (sym at_f))
        | inr past_f ↦ elim (less_or i l.first_cell) [
          | inl s ↦
              (let at_s : i ≡ l.registers + l.fields + (i - (l.registers + l.fields)) = omega arith in
              let few : i - (l.registers + l.fields) < l.sites = omega (arith, s, laid.first) in
              elements_is l g.cells.keys i (i - (l.registers + l.fields)) laid.first at_s few t x ∙ lists.elem (i - (l.registers + l.fields)) x few
              ∙ ap (λ (n : ℕ). has (set_at g.solver.sets n) x) (sym at_s))
          | inr past_s ↦
              (let k : ℕ = i - l.first_cell in
              let at_k : i ≡ l.first_cell + k = omega arith in
              let key = get_inside g.cells.keys k (omega (arith, inside, laid.count, past_s)) in
              cell_is l g.cells.keys i k key.0.0 key.0.1 laid.first at_k key.1 t x
              ∙ same_test (t.cell key.0.0 key.0.1 x) (is_in g.solver.sets i x)
              (λ e. (let c = (lists.cell key.0.0 key.0.1 x).0 e in
              let same : c.place ≡ k = once c.place k key.0 c.key key.1 in
              ap (λ (n : ℕ). has (set_at g.solver.sets n) x) (at_k ∙ ap (λ (n : ℕ). l.first_cell + n) (sym same)) ∙ c.member))
              (λ e. (lists.cell key.0.0 key.0.1 x).1 record { place = k; key = key.1; member = ap (λ (n : ℕ). has (set_at g.solver.sets n) x) (sym at_k) ∙ e }))
        ]
      ]
    ]

-- whatever is in a set is a site
site_in : (l : Layout) (g : Found) → IsLaid l g → (i x : ℕ) → Reaches g.solver.constraints i x → x < l.sites
site_in l g laid _ _ (given i x one) = laid.sites i x one
site_in l g laid _ _ (passed j x one r f) = site_in l g laid j.from x r

pub in_range : (h : List ClassInfo) (l : Layout) (p : RegProgram) (g : Found) (facts : Facts) → IsLaid l g → IsLeast g.solver.constraints g.solver.sets → IsListing h l p g facts
    → AreInRange l (sets_of facts)
in_range h l p g facts laid least lists (Register r) x e = elim (less_or r.0 l.registers) [
  | inl inside ↦ site_in l g laid r.0 x ((least.exact r.0 x).0 (sym (lists.reg r.0 x inside) ∙ e))
  | inr past ↦ (let none = lists.no_reg r.0 x past in absurd cc)
]
in_range h l p g facts laid least lists (Static f) x e = elim (less_or f.0 l.fields) [
  | inl inside ↦ site_in l g laid (l.registers + f.0) x ((least.exact (l.registers + f.0) x).0 (sym (lists.static f.0 x inside) ∙ e))
  | inr past ↦ (let none = lists.no_static f.0 x past in absurd cc)
]
in_range h l p g facts laid least lists (Elements s) x e = elim (less_or s.0 l.sites) [
  | inl inside ↦ site_in l g laid (l.registers + l.fields + s.0) x ((least.exact (l.registers + l.fields + s.0) x).0 (sym (lists.elem s.0 x inside) ∙ e))
  | inr past ↦ (let none = lists.no_elem s.0 x past in absurd cc)
]
in_range h l p g facts laid least lists (Cell s f) x e =
    let c = (lists.cell s.0 f.0 x).0 e in
    site_in l g laid (l.first_cell + c.place) x ((least.exact (l.first_cell + c.place) x).0 c.member)

pub holds_found : (h : List ClassInfo) (l : Layout) (p : RegProgram) (g : Found) (facts : Facts) → IsLaid l g → AreOnce g.cells.keys → IsLeast g.solver.constraints g.solver.sets
    → IsListing h l p g facts → Holds l g (sets_of facts)
holds_found h l p g facts laid once least lists =
    let closed = least_is_closed g.solver.constraints g.solver.sets least in
    let same = says_same h l p g facts laid once lists in
    record {
      sets = record {
        base = λ i x one. same i x (laid.range.base i x one) ∙ closed.base i x one;
        copies = λ j x one there pass.
            (let inside = laid.range.copies j one in same j.to x inside.1 ∙ closed.copies j x one (sym (same j.from x inside.0) ∙ there) pass);
      };
      calls = λ n m one. (lists.call n m).1 one;
      reached = λ m one. (lists.reached m).1 one;
    }

-- what is in a set is in all facts that hold what is asked
in_all : (l : Layout) (g : Found) (u : FactSets) → IsLeast g.solver.constraints g.solver.sets → Holds l g u → (i x : ℕ) → has (set_at g.solver.sets i) x ≡ true → holds l g.cells.keys u i x ≡ true
in_all l g u least sound i x e = within_closed g.solver.constraints (holds l g.cells.keys u) sound.sets i x ((least.exact i x).0 e)

pub within_all : (h : List ClassInfo) (l : Layout) (p : RegProgram) (g : Found) (facts : Facts) (u : FactSets) → IsLaid l g → IsLeast g.solver.constraints g.solver.sets
    → IsListing h l p g facts → Holds l g u → SaysWithin (sets_of facts) u
within_all h l p g facts u laid least lists sound = record {
  reg = λ r x e. elim (less_or r l.registers) [
    | inl inside ↦ sym (register_is l g.cells.keys r r (omega arith) inside u x) ∙ in_all l g u least sound r x (sym (lists.reg r x inside) ∙ e)
    | inr past ↦ (let none = lists.no_reg r x past in absurd cc)
  ];
  static = λ f x e. elim (less_or f l.fields) [
    | inl inside ↦ sym (static_is l g.cells.keys (l.registers + f) f refl inside u x) ∙ in_all l g u least sound (l.registers + f) x (sym (lists.static f x inside) ∙ e)
    | inr past ↦ (let none = lists.no_static f x past in absurd cc)
  ];
  cell = λ s f x e.
      (let c = (lists.cell s f x).0 e in
      sym (cell_is l g.cells.keys (l.first_cell + c.place) c.place s f laid.first refl c.key u x) ∙ in_all l g u least sound (l.first_cell + c.place) x c.member);
  elem = λ s x e. elim (less_or s l.sites) [
    | inl inside ↦ sym (elements_is l g.cells.keys (l.registers + l.fields + s) s laid.first refl inside u x)
        ∙ in_all l g u least sound (l.registers + l.fields + s) x (sym (lists.elem s x inside) ∙ e)
    | inr past ↦ (let none = lists.no_elem s x past in absurd cc)
  ];
  call = λ n m e. sound.calls n m ((lists.call n m).0 e);
  reached = λ m e. sound.reached m ((lists.reached m).0 e);
}

all_among : (ms : List MethodId) (t : FactSets) → AllByRecursion (λ m. t.reached m.0 ≡ true) ms → (m : MethodId) → Among ms m → t.reached m.0 ≡ true
all_among ms t all m a = all_at (λ (m : MethodId). t.reached m.0 ≡ true) ms a.0 m all a.1

constants_hold : (h : List ClassInfo) (l : Layout) (p : RegProgram) (t : FactSets) (cs : List (FieldId × SiteId)) → IsLayout h p l
    → AllByRecursion (λ (i : FieldId × SiteId). (i.0.0 < l.fields) × (i.1.0 < l.sites)) cs → AllByRecursion (λ i. Gives l t (Static i.0) i.1.0) cs → AllByRecursion (λ i. t.static i.0.0 i.1.0 ≡ true) cs
constants_hold h l p t [] layout inside gives = tt
constants_hold h l p t (i ∷ cs) layout inside gives = (gives.0 inside.0.1 inside.0.0, constants_hold h l p t cs layout inside.1 gives.1)

pub least_facts : (h : List ClassInfo) (l : Layout) (p : RegProgram) (ts : Tables) (s : State) (facts : Facts) → IsWellFormed h p → IsLayout h p l → HasRegisters l p
    → AllByRecursion (λ (i : FieldId × SiteId). (i.0.0 < l.fields) × (i.1.0 < l.sites)) p.strings
    → IsState h l p ts s → IsRoundOf h l p [] s → length s.found.reached.keys ≤ s.opened → IsLeast s.found.solver.constraints s.found.solver.sets → AreOnce s.found.cells.keys
    → IsListing h l p s.found facts → LeastFacts h p facts
least_facts h l p ts s facts wf layout regs strings state is all least once lists =
    let t = sets_of facts in
    let g = s.found in
    let range = in_range h l p g facts state.laid least lists in
    let holds_t = holds_found h l p g facts state.laid once least lists in
    let begun = is.round.begun t range holds_t in
    record {
      least = record {
        holds = record {
          harness = all_among p.harness t begun.harness;
          constants = constants_hold h l p t p.strings layout strings begun.constants;
          nodes = obeyed_at_end h l p ts s wf layout regs state is all t range holds_t
              (λ r a inside e. sym (lists.reg r a inside) ∙ e) (λ m e. (lists.reached m).0 e) (λ n m e. (lists.call n m).0 e);
        };
        least = λ u rules. within_all h l p g facts u state.laid least lists (is.round.sound u rules);
      };
      listed = lists.listed;
    }
