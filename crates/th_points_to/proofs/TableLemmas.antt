-- Rows of what nodes and sites give are the tables of a program.
use Rattle.std.proofs.Common.{◌≡◌, ◌⊎◌, inl, inr, ℕ, ◌<◌, ◌≤◌, ◌+◌, zero, suc, true, List, [], ◌∷◌, length, Option, Some, None, slice_get, refl, sym, ap, subst, arith, ◌∙◌}
use Rattle.std.specs.Option.{option_map, option_and_then}
use Rattle.th_base.specs.declared.class.ClassInfo.{ClassInfo}
use Rattle.th_base.specs.declared.number.Reg.{Reg}
use Rattle.th_base.specs.IdSet.{has}
use Rattle.th_incl.specs.Least.{set_at}
use Rattle.th_ir.specs.declared.program.Node.{Node}
use Rattle.th_ir.specs.declared.program.RegProgram.{RegProgram}
use Rattle.th_ir.specs.declared.program.Site.{Site}
use Rattle.th_ir.specs.declared.stmt.Stmt.{Stmt}
use Rattle.th_ir.specs.declared.stmt.Stmt.TheVariants.{Return}
use Rattle.th_ir.specs.Program.{site_at}
use Rattle.th_ir.specs.Sites.{launched_at}
use Rattle.th_ir.proofs.Plain.{some_is, same_found}
use Rattle.th_points_to.specs.declared.place.Layout.{Layout}
use Rattle.th_points_to.specs.Asked.{base_of}
use Rattle.th_points_to.specs.Rows.{AreRows, pairs_from, standing, based, result_of, returned_by, launched_by}
use Rattle.th_points_to.specs.Tables.{AreNodesOf, AreBased, AreReturned, AreLaunched}
use Rattle.th_points_to.proofs.RowLemmas.{in_row, to_row}

past : (rows : List (List ℕ)) (k : ℕ) → length rows ≤ k → set_at rows k ≡ []
past [] k h = refl
past (x ∷ xs) zero h = absurd (omega arith)
past (x ∷ xs) (suc k) h = past xs k (omega arith)

-- a number in a row is given by an item
record IsGiven {A : Type 0} (f : ℕ → A → Option (ℕ × ℕ)) (xs : List A) (k x : ℕ) : Type 0 where
  place : ℕ
  item : A
  stands : slice_get xs place ≡ Some item
  gives : f place item ≡ Some (k, x)

given_by : {A : Type 0} (f : ℕ → A → Option (ℕ × ℕ)) (count : ℕ) (xs : List A) (rows : List (List ℕ)) (k x : ℕ) → AreRows count (pairs_from f 0 xs) rows → has (set_at rows k) x ≡ true
    → IsGiven f xs k x
given_by f count xs rows k x are h = elim (split k count) [
  | inl inside ↦
      (let g = in_row f 0 xs k x (ap (λ l. has l x) (sym (are.row k inside)) ∙ h) in
      let same : 0 + g.place ≡ g.place = omega arith in
      record { place = g.place; item = g.item; stands = g.stands; gives = subst (λ (n : ℕ). f n g.item ≡ Some (k, x)) same g.gives })
  | inr outside ↦ absurd (nothing (ap (λ l. has l x) (sym (past rows k (omega (arith, outside, are.len)))) ∙ h))
]
  where
    split : (a b : ℕ) → (a < b) ⊎ (b ≤ a)
    split a b = grind arith

    nothing : has [] x ≡ true → ⊥
    nothing e = cc

has_given : {A : Type 0} (f : ℕ → A → Option (ℕ × ℕ)) (count : ℕ) (xs : List A) (rows : List (List ℕ)) (k x n : ℕ) (y : A) → AreRows count (pairs_from f 0 xs) rows → k < count
    → slice_get xs n ≡ Some y → f n y ≡ Some (k, x) → has (set_at rows k) x ≡ true
has_given f count xs rows k x n y are inside at e =
    let same : n ≡ 0 + n = omega arith in
    ap (λ l. has l x) (are.row k inside) ∙ to_row f 0 xs k x n y at (subst (λ (m : ℕ). f m y ≡ Some (k, x)) same e)

-- of two pairs that are the same
first_same : (a b d e : ℕ) → (let o : Option (ℕ × ℕ) = Some (a, b) in o) ≡ Some (d, e) → a ≡ d
first_same a b d e h = ap (λ (q : ℕ × ℕ). q.0) (some_is (a, b) (d, e) h)

second_same : (a b d e : ℕ) → (let o : Option (ℕ × ℕ) = Some (a, b) in o) ≡ Some (d, e) → b ≡ e
second_same a b d e h = ap (λ (q : ℕ × ℕ). q.1) (some_is (a, b) (d, e) h)

pub nodes_of_rows : (p : RegProgram) (rows : List (List ℕ)) → AreRows (length p.methods) (pairs_from standing 0 p.nodes) rows → AreNodesOf p rows
nodes_of_rows p rows are = record {
  len = are.len;
  all = λ n node at inside. has_given standing (length p.methods) p.nodes rows node.method.0 n n node are inside at refl;
  only = λ m n h node at.
      (let g = given_by standing (length p.methods) p.nodes rows m n are h in
      let place : g.place ≡ n = second_same g.item.method.0 g.place m n g.gives in
      let same : g.item ≡ node = same_found (slice_get p.nodes n) g.item node (subst (λ (k : ℕ). slice_get p.nodes k ≡ Some g.item) place g.stands) at in
      ap (λ (x : Node). x.method.0) (sym same) ∙ first_same g.item.method.0 g.place m n g.gives);
}

base_given : (o : Option Reg) (place r n : ℕ) → option_map {U = ℕ × ℕ} (λ (x : Reg). (x.0, place)) o ≡ Some (r, n) → (o ≡ Some record { 0 = r }) × (place ≡ n)
base_given None place r n e = absurd cc
base_given (Some x) place r n e = (ap (λ (k : ℕ). Some (let y : Reg = record { 0 = k } in y)) (first_same x.0 place r n e), second_same x.0 place r n e)

pub based_of_rows : (l : Layout) (p : RegProgram) (rows : List (List ℕ)) → AreRows l.registers (pairs_from based 0 p.nodes) rows → AreBased l p rows
based_of_rows l p rows are = record {
  len = are.len;
  all = λ n node r at e inside. has_given based l.registers p.nodes rows r.0 n n node are inside at (ap (option_map {U = ℕ × ℕ} (λ (x : Reg). (x.0, n))) e);
  only = λ r n h node at.
      (let g = given_by based l.registers p.nodes rows r n are h in
      let parts = base_given (base_of g.item.stmt) g.place r n g.gives in
      let same : g.item ≡ node = same_found (slice_get p.nodes n) g.item node (subst (λ (k : ℕ). slice_get p.nodes k ≡ Some g.item) parts.1 g.stands) at in
      ap (λ (x : Node). base_of x.stmt) (sym same) ∙ parts.0);
}

result_given : (o : Option ℕ) (m k r : ℕ) → option_map {U = ℕ × ℕ} (λ (x : ℕ). (m, x)) o ≡ Some (k, r) → (o ≡ Some r) × (m ≡ k)
result_given None m k r e = absurd cc
result_given (Some x) m k r e = (ap (λ (y : ℕ). Some y) (second_same m x k r e), first_same m x k r e)

return_is : (stmt : Stmt) (r : ℕ) → result_of stmt ≡ Some r → stmt ≡ Return (Some record { 0 = r })
return_is (Return (Some src)) r e = let same : src.0 ≡ r = cc in ap (λ (k : ℕ). Return (Some record { 0 = k })) same
return_is (Return None) r e = absurd cc
return_is _ r e = absurd cc

pub returned_of_rows : (p : RegProgram) (rows : List (List ℕ)) → AreRows (length p.methods) (pairs_from returned_by 0 p.nodes) rows → AreReturned p rows
returned_of_rows p rows are = record {
  len = are.len;
  all = λ m r inside one.
      has_given returned_by (length p.methods) p.nodes rows m r one.place one.node are inside one.stands
      (ap (λ (st : Stmt). option_map {U = ℕ × ℕ} (λ (x : ℕ). (one.node.method.0, x)) (result_of st)) one.is ∙ ap (λ (k : ℕ). Some (k, r)) one.within);
  only = λ m r h.
      (let g = given_by returned_by (length p.methods) p.nodes rows m r are h in
      let parts = result_given (result_of g.item.stmt) g.item.method.0 m r g.gives in
      record { place = g.place; node = g.item; stands = g.stands; within = parts.1; is = return_is g.item.stmt r parts.0 });
}

launch_given : (o : Option ℕ) (place k s : ℕ) → option_map {U = ℕ × ℕ} (λ (x : ℕ). (x, place)) o ≡ Some (k, s) → (o ≡ Some k) × (place ≡ s)
launch_given None place k s e = absurd cc
launch_given (Some x) place k s e = (ap (λ (y : ℕ). Some y) (first_same x place k s e), second_same x place k s e)

found_site : (f : Site → Option ℕ) (o : Option Site) (k : ℕ) → option_and_then f o ≡ Some k → (site : Site) × (o ≡ Some site) × (f site ≡ Some k)
found_site f None k e = absurd cc
found_site f (Some site) k e = (site, refl, e)

pub launched_of_rows : (h : List ClassInfo) (p : RegProgram) (rows : List (List ℕ)) → AreRows (length h) (pairs_from launched_by 0 p.sites) rows → AreLaunched h p rows
launched_of_rows h p rows are = record {
  len = are.len;
  all = λ k s inside e.
      (let found = found_site (λ site. launched_at site.place) (site_at p s) k e in
      has_given launched_by (length h) p.sites rows k s s found.0 are inside found.1 (ap (option_map {U = ℕ × ℕ} (λ (x : ℕ). (x, s))) found.2));
  only = λ k s e.
      (let g = given_by launched_by (length h) p.sites rows k s are e in
      let parts = launch_given (launched_at g.item.place) g.place k s g.gives in
      ap (option_and_then (λ (site : Site). launched_at site.place)) (subst (λ (n : ℕ). slice_get p.sites n ≡ Some g.item) parts.1 g.stands) ∙ parts.0);
}
