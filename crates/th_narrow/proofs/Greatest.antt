-- The steps on a query's symbols, one after the other, leave the greatest sets.
use Rattle.std.proofs.Common.{◌≡◌, ◌∙◌, ◌++◌, ℕ, Bool, true, List, [], ◌∷◌, map, slice_get, refl, sym, ap, subst}
use Rattle.std.proofs.lemmas.List.{map-append}
use Rattle.th_base.specs.IdSet.{has}
use Rattle.th_base.specs.declared.class.ClassInfo.{ClassInfo}
use Rattle.th_base.specs.declared.number.FieldId.{FieldId}
use Rattle.th_base.specs.declared.number.Reg.{Reg}
use Rattle.th_ir.specs.declared.program.RegProgram.{RegProgram}
use Rattle.th_ir.specs.FactSets.{FactSets}
use Rattle.th_query.specs.declared.query.Frame.{Frame}
use Rattle.th_query.specs.declared.query.Link.{Link}
use Rattle.th_query.specs.declared.query.Sym.{Sym}
use Rattle.th_query.specs.declared.query.Query.{Query}
use Rattle.th_query.specs.Symbols.{cell_link, element_link, links, sites_of, is_sure}
use Rattle.th_query.specs.Narrowed.{has_slot, slot_has, MeetsRules, IsNarrowed}
use Rattle.th_query.proofs.InLists.{among_map, among_unmap}
use Rattle.th_narrow.specs.Rounds.{family, IsPart, Enforces, Bounds, FrameBounds, Owners, RulesAt, Rules, AllRules, sure_cell, sure_element, sure_links}
use Rattle.th_narrow.proofs.Members.{kept_part, as_family}
use Rattle.th_narrow.proofs.Stepping.{enforces_both, bounds_down, frames_down, owners_down}

-- ---- the links of a query, with their flags

abbrev flagged : Query → Link → Link × Bool
flagged q k = (k, is_sure (slice_get q.syms k.value))

map_of_map : {X Y Z : Type 0} (f : X → Y) (g : Y → Z) (xs : List X) → map g (map f xs) ≡ map (λ x. g (f x)) xs
map_of_map f g [] = refl
map_of_map f g (x ∷ xs) = ap (λ ys. g (f x) ∷ ys) (map_of_map f g xs)

pub links_flagged : (q : Query) → map (sure_cell q.syms) q.cells ++ map (sure_element q.syms) q.elems ≡ sure_links q.syms (links q)
links_flagged q = sym (
    map-append (flagged q) (map cell_link q.cells) (map element_link q.elems)
    ∙ (λ i. map_of_map cell_link (flagged q) q.cells i ++ map_of_map element_link (flagged q) q.elems i)
    )

-- ---- all rules together

-- the rules of a query
abbrev pub RulesOf : List ClassInfo → RegProgram → FactSets → Query → (ℕ → ℕ → Bool) → Type 0
RulesOf h p t q F = AllRules h p t q.frames q.statics (sure_links q.syms (links q)) F

-- sets that meet the rules are those that lie within the given ones and meet all of these
to_all : (h : List ClassInfo) (p : RegProgram) (t : FactSets) (q : Query) (F : ℕ → ℕ → Bool) → MeetsRules h p t q F → RulesOf h p t q F
to_all h p t q F m = record {
  frames = λ f y x z a n. m.registers f x a y z n;
  statics = λ x y a n. m.statics x a y n;
  owners = λ x y a n.
      let k = among_unmap (flagged q) x (links q) y in
      let e = ap (λ (z : Link × Bool). z.0) k.2 in
      subst (λ (j : Link). has_slot h p a j.slot ≡ true) (sym e) (m.owners k.0 a k.1 (subst (λ (j : Link). F j.base a ≡ true) e n));
  rules = λ x y.
      let k = among_unmap (flagged q) x (links q) y in
      subst (λ z. RulesAt (slot_has t) z F) (sym k.2) record { values = λ b n. m.values k.0 b k.1 n; bases = λ sure a n. m.bases k.0 a k.1 sure n };
}

from_all : (h : List ClassInfo) (p : RegProgram) (t : FactSets) (q : Query) (F : ℕ → ℕ → Bool) → ((s a : ℕ) → F s a ≡ true → has (sites_of q s) a ≡ true) → RulesOf h p t q F → MeetsRules h p t q F
from_all h p t q F within all = record {
  given = within;
  registers = λ f x a y z n. all.frames f y x z a n;
  statics = λ x a y n. all.statics x y a n;
  values = λ k b x n. (all.rules (flagged q k) (among_map (flagged q) k (links q) x)).values b n;
  owners = λ k a x n. all.owners (flagged q k) (among_map (flagged q) k (links q) x) a n;
  bases = λ k a x sure n. (all.rules (flagged q k) (among_map (flagged q) k (links q) x)).bases sure a n;
}

-- the greatest sets that meet all rules make the narrowed query
pub narrowed_from : (h : List ClassInfo) (p : RegProgram) (t : FactSets) (q : Query) (syms : List Sym) → Enforces (RulesOf h p t q) q.syms syms → IsNarrowed h p t q (record q { syms = syms })
narrowed_from h p t q syms e = record {
  sets = family syms;
  greatest = record {
    meet = from_all h p t q (family syms) (kept_part q.syms syms e.narrows.kept) e.holds;
    greatest = λ F m s x n. e.narrows.keeps F (to_all h p t q F m) m.given s x n;
  };
  is = ap (λ ss. record q { syms = ss }) (as_family q.syms syms e.narrows.kept);
}

pub narrowed_with : (h : List ClassInfo) (p : RegProgram) (t : FactSets) (q : Query) (fs : List Frame) (ss : List (FieldId × ℕ)) (ks : List (Link × Bool)) (old new syms : List Sym)
    → fs ≡ q.frames → ss ≡ q.statics → ks ≡ sure_links q.syms (links q) → old ≡ q.syms → syms ≡ new → Enforces (AllRules h p t fs ss ks) old new → IsNarrowed h p t q (record q { syms = syms })
narrowed_with h p t q fs ss ks old new syms a b c d f e =
    let first : Enforces (AllRules h p t q.frames ss ks) old new = subst (λ xs. Enforces (AllRules h p t xs ss ks) old new) a e in
    let second : Enforces (AllRules h p t q.frames q.statics ks) old new = subst (λ xs. Enforces (AllRules h p t q.frames xs ks) old new) b first in
    let third : Enforces (RulesOf h p t q) old new = subst (λ xs. Enforces (AllRules h p t q.frames q.statics xs) old new) c second in
    let fourth : Enforces (RulesOf h p t q) q.syms new = subst (λ xs. Enforces (RulesOf h p t q) xs new) d third in
    narrowed_from h p t q syms (subst (λ xs. Enforces (RulesOf h p t q) q.syms xs) (sym f) fourth)

-- ---- the rules one after the other

pub all_after : (h : List ClassInfo) (p : RegProgram) (t : FactSets) (fs : List Frame) (ss : List (FieldId × ℕ)) (ks : List (Link × Bool)) (s0 s1 s2 s3 s4 : List Sym)
    → Enforces (FrameBounds (λ r. t.reg r.0) fs) s0 s1 → Enforces (Bounds (λ f. t.static f.0) ss) s1 s2 → Enforces (Owners (has_slot h p) ks) s2 s3 → Enforces (Rules (slot_has t) ks) s3 s4
    → Enforces (AllRules h p t fs ss ks) s0 s4
all_after h p t fs ss ks s0 s1 s2 s3 s4 a b c d =
    let P1 : (ℕ → ℕ → Bool) → Type 0 = FrameBounds (λ (r : Reg). t.reg r.0) fs in
    let P2 : (ℕ → ℕ → Bool) → Type 0 = Bounds (λ (f : FieldId). t.static f.0) ss in
    let P3 : (ℕ → ℕ → Bool) → Type 0 = Owners (has_slot h p) ks in
    let P4 : (ℕ → ℕ → Bool) → Type 0 = Rules (slot_has t) ks in
    let down1 : (F G : ℕ → ℕ → Bool) → P1 G → IsPart F G → P1 F = frames_down (λ (r : Reg). t.reg r.0) fs in
    let down2 : (F G : ℕ → ℕ → Bool) → P2 G → IsPart F G → P2 F = bounds_down (λ (f : FieldId). t.static f.0) ss in
    let down3 : (F G : ℕ → ℕ → Bool) → P3 G → IsPart F G → P3 F = owners_down (has_slot h p) ks in
    let two : Enforces (λ F. P1 F × P2 F) s0 s2 = enforces_both P1 P2 (λ F. P1 F × P2 F) s0 s1 s2 down1 (λ F r. r.0) (λ F r. r.1) (λ F x y. (x, y)) a b in
    let three : Enforces (λ F. P1 F × P2 F × P3 F) s0 s3 =
    enforces_both (λ F. P1 F × P2 F) P3 (λ F. P1 F × P2 F × P3 F) s0 s2 s3 (λ F G g w. (down1 F G g.0 w, down2 F G g.1 w)) (λ F r. (r.0, r.1)) (λ F r. r.2) (λ F x y. (x.0, x.1, y)) two c in
    enforces_both (λ F. P1 F × P2 F × P3 F) P4 (AllRules h p t fs ss ks) s0 s3 s4 (λ F G g w. (down1 F G g.0 w, down2 F G g.1 w, down3 F G g.2 w)) (λ F r. (r.frames, r.statics, r.owners)) (λ F r. r.rules)
    (λ F x y. record { frames = x.0; statics = x.1; owners = x.2; rules = y }) three d
