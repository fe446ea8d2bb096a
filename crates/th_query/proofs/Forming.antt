-- Each step of the canonical form leaves a well-formed query.
use Rattle.std.proofs.Common.{◌≡◌, inl, inr, ℕ, zero, suc, ◌<◌, ◌+◌, ◌-◌, min, max, Bool, true, false, cond, lit<, List, [], ◌∷◌, length, map, Some, slice_get, refl, sym, ap, subst, ◌∙◌, arith}
use Rattle.std.specs.Prelude.{◌&&◌}
use Rattle.std.specs.List.{filter, list_all, AllByRecursion}
use Rattle.std.proofs.lemmas.Bool.{and_parts, cases_lt}
use Rattle.std.proofs.lemmas.Option.{slice_get_within}
use Rattle.th_base.specs.declared.class.ClassInfo.{ClassInfo}
use Rattle.th_base.specs.declared.number.FieldId.{FieldId}
use Rattle.th_base.specs.declared.number.Reg.{Reg}
use Rattle.th_base.specs.IdSet.{has, IsAscending}
use Rattle.th_base.proofs.Ascending.{has-filter}
use Rattle.th_linear.specs.Forms.{Form}
use Rattle.th_linear.specs.Gathered.{name_of, renamed_form}
use Rattle.th_linear.specs.Normal.{LeavesForm}
use Rattle.th_linear.specs.Divided.{normal_of}
use Rattle.th_linear.specs.Laws.{RenamingComposes, DivisionKeeps}
use Rattle.th_linear.specs.declared.division.NormalForm.{NormalForm}
use Rattle.th_linear.specs.declared.division.NormalForm.TheVariants.{True, False, Fact}
use Rattle.th_ir.specs.declared.program.RegProgram.{RegProgram}
use Rattle.th_ir.specs.Program.{Among, is_ref}
use Rattle.th_ir.specs.Fields.{is_ref_field}
use Rattle.th_ir.specs.FactSets.{FactSets}
use Rattle.th_query.specs.declared.query.TheConstants.{MOST_REGISTERS, MOST_STATICS, MOST_LINKS, MOST_DIFFERENCES, MOST_FACTS}
use Rattle.th_query.specs.declared.query.Cell.{Cell}
use Rattle.th_query.specs.declared.query.Frame.{Frame}
use Rattle.th_query.specs.declared.query.Sym.{Sym}
use Rattle.th_query.specs.declared.query.Sym.TheVariants.{Ref, Int, Carry}
use Rattle.th_query.specs.declared.query.Query.{Query}
use Rattle.th_query.specs.Symbols.{is_named, is_left, symbol_at, sites_of}
use Rattle.th_query.specs.Unified.{AreLeast, renamed, renamed_cell, renamed_element, renamed_pair, one_register, one_cell, unified_frame, class_of, common_symbol, common_symbols, unified_by}
use Rattle.th_query.specs.Narrowed.{kept_sites, kept_symbols}
use Rattle.th_query.specs.Settled.{pruned, settled_fact, one_difference, settled, cut_frames, cut}
use Rattle.th_query.specs.Numbered.{sorted_frame, sorted_query, numbered_frame, numbered_pair}
use Rattle.th_query.specs.WellFormed.{IsRef, IsNumber, Fits, IsFactOf, IsSymbolOf, IsQueryOf}
use Rattle.th_query.proofs.InLists.{In, in_from, in_to, among_unmap, among_filter, among_firsts, among_present, among_take}
use Rattle.th_query.proofs.Formed.{are_there}
use Rattle.th_query.proofs.Ones.{Respects, same_of_one}
use Rattle.th_query.proofs.Unifying.{static_from, common_at}
use Rattle.th_query.proofs.Narrowing.{narrowed_by, kept_at}
use Rattle.th_query.proofs.Settling.{settled_from, cut_frame_from}
use Rattle.th_query.proofs.Mentioning.{name_within, present_there}
use Rattle.th_query.proofs.Numbering.{among_sorted, renumbered, new_names, old_of, old_name, named_left, variable_left, left_there, ordered_there, numbered_symbol_at}
use Rattle.th_query.proofs.Variables.{variables, renamed_variable, normal_variables, IsWithinForm}
use Rattle.th_query.proofs.Parts.{kind_of, ref_by_kind, number_by_kind, one_kind, node_of, same_nodes, formed_part}

-- ---- sites

ascending_filter : (p : ℕ → Bool) (xs : List ℕ) → IsAscending xs → IsAscending (filter p xs)
ascending_filter p [] a = tt
ascending_filter p (x ∷ xs) a = elim (p x) as (λ b. IsAscending (cond b (x ∷ filter p xs) (filter p xs))) [ true ↦ (above xs a.0, ascending_filter p xs a.1) | false ↦ ascending_filter p xs a.1 ]
  where
    above : (ys : List ℕ) → AllByRecursion (λ y. x < y) ys → AllByRecursion (λ y. x < y) (filter p ys)
    above [] b = tt
    above (y ∷ ys) b = elim (p y) as (λ c. AllByRecursion (λ y. x < y) (cond c (y ∷ filter p ys) (filter p ys))) [ true ↦ (b.0, above ys b.1) | false ↦ above ys b.1 ]

pub filtered_formed : (p : RegProgram) (test : ℕ → Bool) (sites : List ℕ) → IsAscending sites × ((a : ℕ) → has sites a ≡ true → a < length p.sites) → IsAscending (filter test sites) × ((a : ℕ) → has (filter test sites) a ≡ true → a < length p.sites)
filtered_formed p test sites f = (ascending_filter test sites f.0, λ a h. f.1 a (and_parts _ _ (sym (has-filter test sites a) ∙ h)).1)

-- ---- step 1

common_formed : (p : RegProgram) (names : List ℕ) (q : Query) (n : ℕ) (y : Sym) → IsSymbolOf p y → IsSymbolOf p (common_symbol names q n y)
common_formed p names q n (Ref null sites) f = filtered_formed p (λ a. list_all (λ u. has (sites_of q u) a) (class_of names n)) sites f
common_formed p names q n Int f = tt
common_formed p names q n Carry f = tt

common_kind_of : (names : List ℕ) (q : Query) (n : ℕ) (y : Sym) → kind_of (Some (common_symbol names q n y)) ≡ kind_of (Some y)
common_kind_of names q n (Ref null sites) = refl
common_kind_of names q n Int = refl
common_kind_of names q n Carry = refl

common_kind : (names : List ℕ) (q : Query) (k : ℕ) (xs : List Sym) (n : ℕ) → kind_of (slice_get (common_symbols names q k xs) n) ≡ kind_of (slice_get xs n)
common_kind names q k [] n = refl
common_kind names q k (y ∷ ys) zero = common_kind_of names q k y
common_kind names q k (y ∷ ys) (suc n) = common_kind names q (k + 1) ys n

-- symbols of facts with one key are of one kind
kinds_respect : (h : List ClassInfo) (p : RegProgram) (t : FactSets) (q : Query) → IsQueryOf h p t q → Respects q (λ s. kind_of (symbol_at q s))
kinds_respect h p t q w = record {
  registers = λ f r a b x y z. let g = w.frames f x in one_kind (is_ref p r.0) (symbol_at q a) (symbol_at q b) (g.kinds (r, a) y) (g.kinds (r, b) z);
  statics = λ f a b x y. one_kind (is_ref_field h f.0) (symbol_at q a) (symbol_at q b) (w.statics (f, a) x).kind (w.statics (f, b) y).kind;
  cells = λ c d x y e o.
      one_kind (is_ref_field h c.field.0) (symbol_at q c.value) (symbol_at q d.value) (w.cells c x).kind
      (subst (λ (f : FieldId). Fits q (is_ref_field h f.0) d.value) (sym e) (w.cells d y).kind);
}

pub unified_formed : (l : RenamingComposes) (h : List ClassInfo) (p : RegProgram) (t : FactSets) (q : Query) (names : List ℕ) → AreLeast q names → IsQueryOf h p t q → IsQueryOf h p t (unified_by names q)
unified_formed l h p t q names least w =
    let kinds : (s : ℕ) → kind_of (symbol_at (unified_by names q) (name_of names s)) ≡ kind_of (symbol_at q s) =
    λ s. common_kind names q 0 q.syms (name_of names s) ∙ sym (same_of_one q (λ u. kind_of (symbol_at q u)) (kinds_respect h p t q w) s (name_of names s) (least.one s)) in
    formed_part h p t (name_of names) q (unified_by names q) w record {
      nodes = same_nodes (unified_frame names) (λ f. refl) q.frames;
      frames = λ f a.
          let g = among_unmap (unified_frame names) f q.frames a in
          (g.0, g.1, ap node_of g.2, λ x b. among_unmap (renamed names) x g.0.regs (among_firsts one_register x (map (renamed names) g.0.regs) (subst (λ (k : Frame). Among k.regs x) g.2 b)));
      statics = λ x a. static_from names q x a;
      cells = λ c a. among_unmap (renamed_cell names) c q.cells (among_firsts one_cell c (map (renamed_cell names) q.cells) a);
      elems = λ e a. among_unmap (renamed_element names) e q.elems a;
      kinds = λ s n. kinds s;
      diffs = λ d a.
          let e = among_unmap (renamed_pair names) d q.diffs a in
          let old = w.diffs e.0 e.1 in
          subst (λ (z : ℕ × ℕ). IsRef (unified_by names q) z.0 × IsRef (unified_by names q) z.1) (sym e.2)
          (ref_by_kind _ (symbol_at q e.0.0) (kinds e.0.0) old.0, ref_by_kind _ (symbol_at q e.0.1) (kinds e.0.1) old.1);
      facts = λ g a.
          let f = among_unmap (renamed_form names) (Some g) q.facts (among_present g (map (renamed_form names) q.facts) a) in
          let old = w.facts f.0 f.1 in
          record {
            form = (l names f.0 g old.form (sym f.2)).0;
            numbers = λ u m.
                let v = renamed_variable names f.0 g u (sym f.2) (in_from u (variables g.coefs) m) in
                subst (IsNumber (unified_by names q)) (sym v.2) (number_by_kind _ (symbol_at q v.0) (kinds v.0) (old.numbers v.0 (in_to v.0 (variables f.0.coefs) v.1)));
          };
      symbols = λ s x e.
          let y = common_at names q 0 q.syms s x e in
          subst (IsSymbolOf p) (sym y.2) (common_formed p names q (0 + s) y.0 (w.symbols s y.0 y.1));
    }

-- ---- steps that keep the symbols' numbers

abbrev pub the_same : ℕ → ℕ
the_same s = s

kept_kind_of : (stays : ℕ → Bool) (y : Sym) → kind_of (Some (kept_sites stays y)) ≡ kind_of (Some y)
kept_kind_of stays (Ref null sites) = refl
kept_kind_of stays Int = refl
kept_kind_of stays Carry = refl

kept_kind : (sets : ℕ → ℕ → Bool) (k : ℕ) (xs : List Sym) (n : ℕ) → kind_of (slice_get (kept_symbols sets k xs) n) ≡ kind_of (slice_get xs n)
kept_kind sets k [] n = refl
kept_kind sets k (y ∷ ys) zero = kept_kind_of (sets k) y
kept_kind sets k (y ∷ ys) (suc n) = kept_kind sets (k + 1) ys n

kept_formed : (p : RegProgram) (stays : ℕ → Bool) (y : Sym) → IsSymbolOf p y → IsSymbolOf p (kept_sites stays y)
kept_formed p stays (Ref null sites) f = filtered_formed p stays sites f
kept_formed p stays Int f = tt
kept_formed p stays Carry f = tt

pub narrowed_formed : (h : List ClassInfo) (p : RegProgram) (t : FactSets) (q : Query) (sets : ℕ → ℕ → Bool) → IsQueryOf h p t q → IsQueryOf h p t (narrowed_by sets q)
narrowed_formed h p t q sets w =
    let kinds : (s : ℕ) → kind_of (symbol_at (narrowed_by sets q) s) ≡ kind_of (symbol_at q s) = λ s. kept_kind sets 0 q.syms s in
    formed_part h p t the_same q (narrowed_by sets q) w record {
      nodes = refl;
      frames = λ f a. (f, a, refl, λ x b. (x, b, refl));
      statics = λ x a. (x, a, refl);
      cells = λ c a. (c, a, refl);
      elems = λ e a. (e, a, refl);
      kinds = λ s n. kinds s;
      diffs = λ d a. let old = w.diffs d a in (ref_by_kind _ (symbol_at q d.0) (kinds d.0) old.0, ref_by_kind _ (symbol_at q d.1) (kinds d.1) old.1);
      facts = λ f a. let old = w.facts f a in record { form = old.form; numbers = λ u m. number_by_kind _ (symbol_at q u) (kinds u) (old.numbers u m) };
      symbols = λ s x e. let y = kept_at sets 0 q.syms s x e in subst (IsSymbolOf p) (sym y.2) (kept_formed p (sets (0 + s)) y.0 (w.symbols s y.0 y.1));
    }

pub pruned_formed : (h : List ClassInfo) (p : RegProgram) (t : FactSets) (q : Query) → IsQueryOf h p t q → IsQueryOf h p t (pruned q)
pruned_formed h p t q w = record {
  few = w.few;
  frames = λ f a. let g = w.frames f a in record { node = g.node; stands = g.stands; own = g.own; kinds = g.kinds };
  nested = w.nested;
  statics = λ x a. let y = w.statics x a in record { static = y.static; kind = y.kind };
  cells = λ c a. let d = w.cells c a in record { field = d.field; base = d.base; kind = d.kind };
  arrays = w.arrays;
  elements = w.elements;
  diffs = λ d a. w.diffs d (among_filter (λ (d : ℕ × ℕ). is_named q d.0 && is_named q d.1) d q.diffs a).0;
  facts = λ f a. let g = w.facts f a in record { form = g.form; numbers = g.numbers };
  symbols = w.symbols;
}

divided_formed : (q : Query) (g f : Form) (n : NormalForm) → IsFactOf q g → LeavesForm g n → IsWithinForm g.coefs n → In f (settled_fact n) → IsFactOf q f
divided_formed q g f True old leaves within m = absurd m
divided_formed q g f False old leaves within (inl e) = subst (IsFactOf q) (sym e) record { form = record { terms = tt; small = lit< tt }; numbers = λ u m. absurd (in_from u [] m) }
divided_formed q g f False old leaves within (inr none) = absurd none
divided_formed q g f (Fact r) old leaves within (inl e) =
    subst (IsFactOf q) (sym e) record { form = leaves.0; numbers = λ u m. old.numbers u (in_to u (variables g.coefs) (within u (in_from u (variables r.coefs) m))) }
divided_formed q g f (Fact r) old leaves within (inr none) = absurd none

pub settled_formed : (l : DivisionKeeps) (h : List ClassInfo) (p : RegProgram) (t : FactSets) (q : Query) → IsQueryOf h p t q → IsQueryOf h p t (settled q)
settled_formed l h p t q w = record {
  few = w.few;
  frames = λ f a. let g = w.frames f a in record { node = g.node; stands = g.stands; own = g.own; kinds = g.kinds };
  nested = w.nested;
  statics = λ x a. let y = w.statics x a in record { static = y.static; kind = y.kind };
  cells = λ c a. let d = w.cells c a in record { field = d.field; base = d.base; kind = d.kind };
  arrays = w.arrays;
  elements = w.elements;
  diffs = λ d a. w.diffs d (among_firsts one_difference d q.diffs a);
  facts = λ f a.
      let g = settled_from f q.facts a in
      let old = w.facts g.0 g.1 in
      let new = divided_formed q g.0 f (normal_of g.0) old (l g.0 old.form).0 (normal_variables g.0) g.2 in
      record { form = new.form; numbers = new.numbers };
  symbols = w.symbols;
}

cut_nodes : (n : ℕ) (fs : List Frame) → map node_of (cut_frames n fs) ≡ map node_of fs
cut_nodes n [] = refl
cut_nodes n (f ∷ fs) = ap (λ ns. f.node ∷ ns) (cut_nodes (n - length f.regs) fs)

pub cut_formed : (h : List ClassInfo) (p : RegProgram) (t : FactSets) (q : Query) → IsQueryOf h p t q → IsQueryOf h p t (cut q)
cut_formed h p t q w = formed_part h p t the_same q (cut q) w record {
  nodes = cut_nodes MOST_REGISTERS q.frames;
  frames = λ f a. let g = cut_frame_from MOST_REGISTERS q.frames f a in (g.0, g.1, g.2, λ x b. (x, g.3 x b, refl));
  statics = λ x a. (x, among_take MOST_STATICS q.statics x a, refl);
  cells = λ c a. (c, among_take MOST_LINKS q.cells c a, refl);
  elems = λ e a. (e, among_take (MOST_LINKS - length q.cells) q.elems e a, refl);
  kinds = λ s n. refl;
  diffs = λ d a. w.diffs d (among_take MOST_DIFFERENCES q.diffs d a);
  facts = λ f a. let g = w.facts f (among_take MOST_FACTS q.facts f a) in record { form = g.form; numbers = g.numbers };
  symbols = w.symbols;
}

pub sorted_formed : (h : List ClassInfo) (p : RegProgram) (t : FactSets) (q : Query) → IsQueryOf h p t q → IsQueryOf h p t (sorted_query q)
sorted_formed h p t q w = formed_part h p t the_same q (sorted_query q) w record {
  nodes = same_nodes sorted_frame (λ f. refl) q.frames;
  frames = λ f a.
      let g = among_unmap sorted_frame f q.frames a in
      (g.0, g.1, ap node_of g.2, λ x b. (x, among_sorted (λ (y : Reg × ℕ). y.0.0) x g.0.regs (subst (λ (k : Frame). Among k.regs x) g.2 b), refl));
  statics = λ x a. (x, among_sorted (λ (y : FieldId × ℕ). y.0.0) x q.statics a, refl);
  cells = λ c a. (c, among_sorted (λ (d : Cell). d.field.0) c q.cells a, refl);
  elems = λ e a. (e, a, refl);
  kinds = λ s n. refl;
  diffs = w.diffs;
  facts = λ f a. let g = w.facts f a in record { form = g.form; numbers = g.numbers };
  symbols = w.symbols;
}

-- ---- step 6

pub least_greatest : (P : ℕ → Type 0) (a b : ℕ) → P a → P b → P (min a b) × P (max a b)
least_greatest P a b one other = elim (cases_lt a b) [
  | inl h ↦ let x : min a b ≡ a = omega (arith, h) in let y : max a b ≡ b = omega (arith, h) in (subst P (sym x) one, subst P (sym y) other)
  | inr h ↦ let x : min a b ≡ b = omega (arith, h) in let y : max a b ≡ a = omega (arith, h) in (subst P (sym x) other, subst P (sym y) one)
]

pub renumbered_formed : (l : RenamingComposes) (h : List ClassInfo) (p : RegProgram) (t : FactSets) (q : Query) → ((d : ℕ × ℕ) → Among q.diffs d → (is_named q d.0 ≡ true) × (is_named q d.1 ≡ true)) → IsQueryOf h p t q → IsQueryOf h p t (renumbered q)
renumbered_formed l h p t q named w =
    let there = are_there h p t q w in
    let names = new_names q in
    let numbers : (f : Form) → Among q.facts f → (u : ℕ) → Among (variables f.coefs) u → IsNumber q u = λ f a u m. (w.facts f a).numbers u m in
    let kinds : (s : ℕ) → is_left q s ≡ true → kind_of (symbol_at (renumbered q) (name_of names s)) ≡ kind_of (symbol_at q s) =
    λ s left.
    let x = left_there q s left in
    let back = old_name q s left in
    ap kind_of (present_there q.syms _ (ordered_there q there) (name_of names s) x.0 (name_within q s (slice_get_within q.syms s x.0 x.1) left) (ap (slice_get q.syms) back ∙ x.1) ∙ sym x.1) in
    formed_part h p t (name_of names) q (renumbered q) w record {
      nodes = same_nodes (numbered_frame names) (λ f. refl) q.frames;
      frames = λ f a.
          let g = among_unmap (numbered_frame names) f q.frames a in
          (g.0, g.1, ap node_of g.2, λ x b. among_unmap (renamed names) x g.0.regs (subst (λ (k : Frame). Among k.regs x) g.2 b));
      statics = λ x a. among_unmap (renamed names) x q.statics a;
      cells = λ c a. among_unmap (renamed_cell names) c q.cells (among_sorted (λ (c : Cell). c.base) c (map (renamed_cell names) q.cells) a);
      elems = λ e a. among_unmap (renamed_element names) e q.elems a;
      kinds = λ s n. kinds s (named_left q s there n);
      diffs = λ d a.
          let e = among_unmap (numbered_pair names) d q.diffs a in
          let old = w.diffs e.0 e.1 in
          let ends = named e.0 e.1 in
          subst (λ (z : ℕ × ℕ). IsRef (renumbered q) z.0 × IsRef (renumbered q) z.1) (sym e.2)
          (least_greatest (IsRef (renumbered q)) (name_of names e.0.0) (name_of names e.0.1)
          (ref_by_kind _ (symbol_at q e.0.0) (kinds e.0.0 (named_left q e.0.0 there ends.0)) old.0)
          (ref_by_kind _ (symbol_at q e.0.1) (kinds e.0.1 (named_left q e.0.1 there ends.1)) old.1));
      facts = λ g a.
          let f = among_unmap (renamed_form names) (Some g) q.facts (among_present g (map (renamed_form names) q.facts) a) in
          let old = w.facts f.0 f.1 in
          record {
            form = (l names f.0 g old.form (sym f.2)).0;
            numbers = λ u m.
                let v = renamed_variable names f.0 g u (sym f.2) (in_from u (variables g.coefs) m) in
                let there_v = in_to v.0 (variables f.0.coefs) v.1 in
                subst (IsNumber (renumbered q)) (sym v.2) (number_by_kind _ (symbol_at q v.0) (kinds v.0 (variable_left q numbers f.0 f.1 v.0 there_v)) (old.numbers v.0 there_v));
          };
      symbols = λ s x e. w.symbols (old_of q s) x (numbered_symbol_at q there s x e);
    }
