-- Symbols that are one: what is one thing at the symbols of facts with one key is one thing at all
-- symbols that are one.
use Rattle.std.proofs.Common.{◌≡◌, ℕ, ◌≤◌, true, refl, sym, ◌∙◌, ◌↔◌, arith}
use Rattle.th_base.specs.declared.number.FieldId.{FieldId}
use Rattle.th_base.specs.declared.number.Reg.{Reg}
use Rattle.th_ir.specs.Program.{Among}
use Rattle.th_query.specs.declared.query.Cell.{Cell}
use Rattle.th_query.specs.declared.query.Frame.{Frame}
use Rattle.th_query.specs.declared.query.Query.{Query}
use Rattle.th_query.specs.Symbols.{cell_link, is_named}
use Rattle.th_query.specs.Unified.{IsOne, itself, turned, through, by_register, by_static, by_cell}
use Rattle.th_query.proofs.InLists.{among_map, among_left}
use Rattle.th_query.proofs.Naming.{register_named, static_named, value_named}

-- g gives one thing to the symbols of facts with one key
pub record Respects (q : Query) {X : Type 0} (g : ℕ → X) : Type 0 where
  pub registers : (f : Frame) (r : Reg) (s t : ℕ) → Among q.frames f → Among f.regs (r, s) → Among f.regs (r, t) → g s ≡ g t
  pub statics : (f : FieldId) (s t : ℕ) → Among q.statics (f, s) → Among q.statics (f, t) → g s ≡ g t
  pub cells : (c d : Cell) → Among q.cells c → Among q.cells d → c.field ≡ d.field → g c.base ≡ g d.base → g c.value ≡ g d.value

-- the one lemma: of values in a state, and of a table whose search found nothing
pub same_of_one : {X : Type 0} (q : Query) (g : ℕ → X) → Respects q g → (s t : ℕ) → IsOne q s t → g s ≡ g t
same_of_one q g h _ _ (itself s) = refl
same_of_one q g h _ _ (turned s t o) = sym (same_of_one q g h s t o)
same_of_one q g h _ _ (through s t u o p) = same_of_one q g h s t o ∙ same_of_one q g h t u p
same_of_one q g h _ _ (by_register f r s t a b c) = h.registers f r s t a b c
same_of_one q g h _ _ (by_static f s t a b) = h.statics f s t a b
same_of_one q g h _ _ (by_cell c d a b e o) = h.cells c d a b e (same_of_one q g h c.base d.base o)

cell_among : (q : Query) (c : Cell) → Among q.cells c → is_named q c.value ≡ true
cell_among q c a = value_named q (cell_link c) (among_left (cell_link c) _ _ (among_map cell_link c q.cells a))

-- a symbol that is one with a named one is named
pub named_of_one : (q : Query) (s t : ℕ) → IsOne q s t → (is_named q s ≡ true) ↔ (is_named q t ≡ true)
named_of_one q _ _ (itself s) = ((λ n. n), (λ n. n))
named_of_one q _ _ (turned s t o) = let b = named_of_one q s t o in (b.1, b.0)
named_of_one q _ _ (through s t u o p) =
    let a = named_of_one q s t o in
    let b = named_of_one q t u p in
    ((λ n. b.0 (a.0 n)), (λ n. a.1 (b.1 n)))
named_of_one q _ _ (by_register f r s t a b c) = ((λ _. register_named q f (r, t) a c), (λ _. register_named q f (r, s) a b))
named_of_one q _ _ (by_static f s t a b) = ((λ _. static_named q (f, t) b), (λ _. static_named q (f, s) a))
named_of_one q _ _ (by_cell c d a b e o) = ((λ _. cell_among q d b), (λ _. cell_among q c a))

-- names that are sound, never above, and one for facts with one key are the least
pub least_of_names : (q : Query) (rep : ℕ → ℕ) → ((s : ℕ) → IsOne q s (rep s)) → ((s : ℕ) → rep s ≤ s) → Respects q rep → (s t : ℕ) → IsOne q s t → rep s ≤ t
least_of_names q rep sound below respects s t o = let e = same_of_one q rep respects s t o in let b = below t in omega (arith, e, b)

-- what stands for a symbol stands for itself
pub name_of_name : (q : Query) (rep : ℕ → ℕ) → ((s : ℕ) → IsOne q s (rep s)) → ((s t : ℕ) → IsOne q s t → rep s ≤ t) → (s : ℕ) → rep (rep s) ≡ rep s
name_of_name q rep one least s =
    let down = least (rep s) (rep s) (itself (rep s)) in
    let up = least s (rep (rep s)) (through s (rep s) (rep (rep s)) (one s) (one (rep s))) in
    omega (arith, down, up)
