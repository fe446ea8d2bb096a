-- Steps follow one another, and one that changes nothing leaves the rules true.
use Rattle.std.proofs.Common.{◌≡◌, ◌≢◌, ℕ, ◌+◌, ◌<◌, Bool, true, false, eqb, not, inl, inr, List, [], length, take, get_or, slice_get, refl, sym, ap, ◌∙◌, subst, arith}
use Rattle.std.specs.Prelude.{◌||◌}
use Rattle.std.specs.List.{filter}
use Rattle.std.proofs.lemmas.Bool.{cases_Bool, eqb-true, eq-eqb, and_parts, and_from, both_ways, or_cases, or_parts, not-true, not-false}
use Rattle.th_base.specs.declared.number.Reg.{Reg}
use Rattle.th_query.specs.declared.query.Frame.{Frame}
use Rattle.th_query.specs.declared.query.Link.{Link}
use Rattle.th_query.specs.declared.query.Slot.{Slot}
use Rattle.th_query.specs.declared.query.Sym.{Sym}
use Rattle.th_query.specs.Symbols.{sites_in}
use Rattle.th_query.proofs.InLists.{in_from}
use Rattle.th_narrow.specs.Rounds.{family, IsPart, size, kept_at, Narrows, Enforces, Steps, Passes, Bounds, FrameBounds, Owners, HasValues, HasBases, RulesAt, Rules, is_value, is_base}
use Rattle.th_narrow.proofs.Members.{any_true, any_from, fewer, filter_whole, kept_refl, kept_both, kept_one, kept_part, family_kept, kept_whole, size_less}
use Rattle.th_narrow.proofs.Places.{among_more, take_grows, take_has}

-- ---- one symbol restricted by a test

pub restricted : (P : (ℕ → ℕ → Bool) → Type 0) (old : List Sym) (s : ℕ) (p : ℕ → Bool) (new : List Sym) (changed : Bool)
    → new ≡ kept_at s p old → changed ≡ not (eqb (length (filter p (sites_in (slice_get old s)))) (length (sites_in (slice_get old s))))
    → ((F : ℕ → ℕ → Bool) → P F → IsPart F (family old) → (a : ℕ) → F s a ≡ true → p a ≡ true)
    → (((a : ℕ) → family old s a ≡ true → p a ≡ true) → P (family old)) → Steps P old new changed
restricted P old s p new changed is flag keeps holds =
    let sites = sites_in (slice_get old s) in
    let narrows : Narrows P old (kept_at s p old) = record {
      kept = kept_one s p old;
      keeps = λ F f w u a m. elim (family_kept s p old u a) [
        | inl e ↦ e.1 ∙ and_from (p a) (family old u a) (keeps F f w a (subst (λ k. F k a ≡ true) e.0 m)) (w u a m)
        | inr n ↦ n.1 ∙ w u a m
      ];
    } in
    record {
      narrows = subst (λ xs. Narrows P old xs) (sym is) narrows;
      same = λ e.
          let equal : length (filter p sites) ≡ length sites = eqb-true (length (filter p sites)) (length sites) (not-false _ (sym flag ∙ e)) in
          let whole = filter_whole p sites equal in
          let kept_all : new ≡ old = is ∙ kept_whole s p old whole.0 in
          (kept_all, subst (λ xs. P (family xs)) (sym kept_all) (holds whole.1));
      less = λ e.
          let other : length (filter p sites) ≢ length sites = λ z. both_ways _ (not-true _ (sym flag ∙ e)) (eq-eqb (length (filter p sites)) (length sites) z) in
          subst (λ xs. size xs < size old) (sym is) (size_less s p old (fewer p sites other));
    }

pub values_restricted : (holds : ℕ → Slot → ℕ → Bool) (k : Link) (old new : List Sym) (changed : Bool)
    → new ≡ kept_at k.value (is_value holds k.slot (sites_in (slice_get old k.base))) old
    → changed ≡ not (eqb (length (filter (is_value holds k.slot (sites_in (slice_get old k.base))) (sites_in (slice_get old k.value)))) (length (sites_in (slice_get old k.value))))
    → Steps (HasValues holds k) old new changed
values_restricted holds k old new changed is flag =
    restricted (HasValues holds k) old k.value (is_value holds k.slot (sites_in (slice_get old k.base))) new changed is flag
    (λ F f w b m. let a = f b m in any_from (λ x. holds x k.slot b) (sites_in (slice_get old k.base)) a.0 (w k.base a.0 a.1) a.2)
    (λ all b m. any_true (λ x. holds x k.slot b) (sites_in (slice_get old k.base)) (all b m))

pub bases_restricted : (holds : ℕ → Slot → ℕ → Bool) (k : Link) (old new : List Sym) (changed : Bool)
    → new ≡ kept_at k.base (is_base holds k.slot (sites_in (slice_get old k.value))) old
    → changed ≡ not (eqb (length (filter (is_base holds k.slot (sites_in (slice_get old k.value))) (sites_in (slice_get old k.base)))) (length (sites_in (slice_get old k.base))))
    → Steps (HasBases holds k) old new changed
bases_restricted holds k old new changed is flag =
    restricted (HasBases holds k) old k.base (is_base holds k.slot (sites_in (slice_get old k.value))) new changed is flag
    (λ F f w a m. let b = f a m in any_from (λ y. holds a k.slot y) (sites_in (slice_get old k.value)) b.0 (w k.value b.0 b.1) b.2)
    (λ all a m. any_true (λ y. holds a k.slot y) (sites_in (slice_get old k.value)) (all a m))

-- ---- steps one after the other

pub narrows_none : (P : (ℕ → ℕ → Bool) → Type 0) (old : List Sym) → Narrows P old old
narrows_none P old = record { kept = kept_refl old; keeps = λ F f w. w }

pub narrows_both : (P Q R : (ℕ → ℕ → Bool) → Type 0) (old mid new : List Sym) → ((F : ℕ → ℕ → Bool) → R F → P F) → ((F : ℕ → ℕ → Bool) → R F → Q F)
    → Narrows P old mid → Narrows Q mid new → Narrows R old new
narrows_both P Q R old mid new f g a b = record {
  kept = kept_both old mid new a.kept b.kept;
  keeps = λ F r w. b.keeps F (g F r) (a.keeps F (f F r) w);
}

pub steps_both : (P Q R : (ℕ → ℕ → Bool) → Type 0) (old mid new : List Sym) (c d : Bool) → ((F : ℕ → ℕ → Bool) → R F → P F) → ((F : ℕ → ℕ → Bool) → R F → Q F)
    → ((F : ℕ → ℕ → Bool) → P F → Q F → R F) → Steps P old mid c → Steps Q mid new d → Steps R old new (c || d)
steps_both P Q R old mid new c d f g join a b = record {
  narrows = narrows_both P Q R old mid new f g a.narrows b.narrows;
  same = λ e.
      let parts = or_parts c d e in
      let first = a.same parts.0 in
      let second = b.same parts.1 in
      (second.0 ∙ first.0, join (family new) (subst (λ xs. P (family xs)) (sym second.0) first.1) second.1);
  less = λ e. elim (cases_Bool d) [
    | inl yes_second ↦ elim (cases_Bool c) [
      | inl yes_first ↦ let x = a.less yes_first in let y = b.less yes_second in omega (arith, x, y)
      | inr no_first ↦ subst (λ xs. size new < size xs) (a.same no_first).0 (b.less yes_second)
    ]
    | inr no_second ↦ elim (or_cases c d e) [
      | inl yes_first ↦ subst (λ xs. size xs < size old) (sym (b.same no_second).0) (a.less yes_first)
      | inr yes_second ↦ absurd (both_ways d no_second yes_second)
    ]
  ];
}

-- the rules at no link
pub rules_none : (holds : ℕ → Slot → ℕ → Bool) (ks : List (Link × Bool)) (old : List Sym) → Steps (Rules holds (take 0 ks)) old old false
rules_none holds ks old = record {
  narrows = narrows_none (Rules holds (take 0 ks)) old;
  same = λ e. (refl, λ x m. absurd (in_from x [] m));
  less = λ e. absurd (both_ways _ refl e);
}

-- the rules at one more link
pub rules_more : (holds : ℕ → Slot → ℕ → Bool) (ks : List (Link × Bool)) (i : ℕ) (x : Link × Bool) (old mid new : List Sym) (c d : Bool) → i < length ks
    → Steps (Rules holds (take i ks)) old mid c → Steps (RulesAt holds (get_or ks i x)) mid new d → Steps (Rules holds (take (i + 1) ks)) old new (c || d)
rules_more holds ks i x old mid new c d h a b =
    steps_both (Rules holds (take i ks)) (RulesAt holds (get_or ks i x)) (Rules holds (take (i + 1) ks)) old mid new c d
    (λ F r y m. r y (take_grows y ks i x h m))
    (λ F r. r (get_or ks i x) (take_has ks i x h))
    (λ F p q y m. elim (among_more y ks i x h m) [ inl before ↦ p y before | inr e ↦ subst (λ z. RulesAt holds z F) (sym e) q ])
    a b

pub rules_at_sure : (holds : ℕ → Slot → ℕ → Bool) (k : Link) (sure : Bool) (old mid new : List Sym) (c d : Bool) → Steps (HasValues holds k) old mid c → Steps (HasBases holds k) mid new d
    → sure ≡ true → Steps (RulesAt holds (k, sure)) old new (c || d)
rules_at_sure holds k sure old mid new c d a b e =
    steps_both (HasValues holds k) (HasBases holds k) (RulesAt holds (k, sure)) old mid new c d (λ F r. r.values) (λ F r. r.bases e) (λ F p q. record { values = p; bases = λ _. q }) a b

pub rules_at_unsure : (holds : ℕ → Slot → ℕ → Bool) (k : Link) (sure : Bool) (old new : List Sym) (c : Bool) → Steps (HasValues holds k) old new c → sure ≡ false → Steps (RulesAt holds (k, sure)) old new c
rules_at_unsure holds k sure old new c a e =
    let n = a.narrows in
    record {
      narrows = record { kept = n.kept; keeps = λ F r w. n.keeps F r.values w };
      same = λ f. let s = a.same f in (s.0, record { values = s.1; bases = λ g. absurd (both_ways sure e g) });
      less = a.less;
    }

-- ---- sets narrowed to the greatest that have a property

abbrev pub IsDown : ((ℕ → ℕ → Bool) → Type 0) → Type 0
IsDown P = (F G : ℕ → ℕ → Bool) → P G → IsPart F G → P F

pub enforces_both : (P Q R : (ℕ → ℕ → Bool) → Type 0) (old mid new : List Sym) → IsDown P → ((F : ℕ → ℕ → Bool) → R F → P F) → ((F : ℕ → ℕ → Bool) → R F → Q F)
    → ((F : ℕ → ℕ → Bool) → P F → Q F → R F) → Enforces P old mid → Enforces Q mid new → Enforces R old new
enforces_both P Q R old mid new down f g join a b = record {
  narrows = narrows_both P Q R old mid new f g a.narrows b.narrows;
  holds = join (family new) (down (family new) (family mid) a.holds (kept_part mid new b.narrows.kept)) b.holds;
}

-- one symbol restricted by a test
pub passes_restricted : (old : List Sym) (s : ℕ) (p : ℕ → Bool) (new : List Sym) → new ≡ kept_at s p old → Enforces (Passes s p) old new
passes_restricted old s p new is = record {
  narrows = subst (λ xs. Narrows (Passes s p) old xs) (sym is) record {
    kept = kept_one s p old;
    keeps = λ F f w u a m. elim (family_kept s p old u a) [
      | inl e ↦ e.1 ∙ and_from (p a) (family old u a) (f a (subst (λ k. F k a ≡ true) e.0 m)) (w u a m)
      | inr n ↦ n.1 ∙ w u a m
    ];
  };
  holds = λ a m. elim (family_kept s p old s a) [
    | inl e ↦ (and_parts (p a) (family old s a) (sym e.1 ∙ ap (λ xs. family xs s a) (sym is) ∙ m)).0
    | inr n ↦ absurd (n.0 refl)
  ];
}

pub bounds_down : {K : Type 0} (sets : K → ℕ → Bool) (xs : List (K × ℕ)) → IsDown (Bounds sets xs)
bounds_down sets xs F G g w x y a m = g x y a (w x.1 a m)

pub frames_down : (sets : Reg → ℕ → Bool) (fs : List Frame) → IsDown (FrameBounds sets fs)
frames_down sets fs F G g w f y = bounds_down sets f.regs F G (g f y) w

pub owners_down : (owns : ℕ → Slot → Bool) (ks : List (Link × Bool)) → IsDown (Owners owns ks)
owners_down owns ks F G g w x y a m = g x y a (w x.0.base a m)

pub bounds_none : {K : Type 0} (sets : K → ℕ → Bool) (xs : List (K × ℕ)) (old : List Sym) → Enforces (Bounds sets (take 0 xs)) old old
bounds_none sets xs old = record { narrows = narrows_none (Bounds sets (take 0 xs)) old; holds = λ x m. absurd (in_from x [] m) }

pub frames_none : (sets : Reg → ℕ → Bool) (fs : List Frame) (old : List Sym) → Enforces (FrameBounds sets (take 0 fs)) old old
frames_none sets fs old = record { narrows = narrows_none (FrameBounds sets (take 0 fs)) old; holds = λ f m. absurd (in_from f [] m) }

pub owners_none : (owns : ℕ → Slot → Bool) (ks : List (Link × Bool)) (old : List Sym) → Enforces (Owners owns (take 0 ks)) old old
owners_none owns ks old = record { narrows = narrows_none (Owners owns (take 0 ks)) old; holds = λ x m. absurd (in_from x [] m) }

pub bounds_more : {K : Type 0} (sets : K → ℕ → Bool) (xs : List (K × ℕ)) (i : ℕ) (x : K × ℕ) (old mid new : List Sym) → i < length xs
    → Enforces (Bounds sets (take i xs)) old mid → Enforces (Passes (get_or xs i x).1 (sets (get_or xs i x).0)) mid new → Enforces (Bounds sets (take (i + 1) xs)) old new
bounds_more sets xs i x old mid new h a b =
    enforces_both (Bounds sets (take i xs)) (Passes (get_or xs i x).1 (sets (get_or xs i x).0)) (Bounds sets (take (i + 1) xs)) old mid new (bounds_down sets (take i xs))
    (λ F r y m. r y (take_grows y xs i x h m))
    (λ F r. r (get_or xs i x) (take_has xs i x h))
    (λ F p q y m. elim (among_more y xs i x h m) [ inl before ↦ p y before | inr e ↦ subst (λ z. Passes z.1 (sets z.0) F) (sym e) q ])
    a b

pub frames_more : (sets : Reg → ℕ → Bool) (fs : List Frame) (i : ℕ) (x : Frame) (old mid new : List Sym) → i < length fs
    → Enforces (FrameBounds sets (take i fs)) old mid → Enforces (Bounds sets (get_or fs i x).regs) mid new → Enforces (FrameBounds sets (take (i + 1) fs)) old new
frames_more sets fs i x old mid new h a b =
    enforces_both (FrameBounds sets (take i fs)) (Bounds sets (get_or fs i x).regs) (FrameBounds sets (take (i + 1) fs)) old mid new (frames_down sets (take i fs))
    (λ F r y m. r y (take_grows y fs i x h m))
    (λ F r. r (get_or fs i x) (take_has fs i x h))
    (λ F p q y m. elim (among_more y fs i x h m) [ inl before ↦ p y before | inr e ↦ subst (λ z. Bounds sets z.regs F) (sym e) q ])
    a b

pub owners_more : (owns : ℕ → Slot → Bool) (ks : List (Link × Bool)) (i : ℕ) (x : Link × Bool) (old mid new : List Sym) → i < length ks
    → Enforces (Owners owns (take i ks)) old mid → Enforces (Passes (get_or ks i x).0.base (λ a. owns a (get_or ks i x).0.slot)) mid new → Enforces (Owners owns (take (i + 1) ks)) old new
owners_more owns ks i x old mid new h a b =
    enforces_both (Owners owns (take i ks)) (Passes (get_or ks i x).0.base (λ a. owns a (get_or ks i x).0.slot)) (Owners owns (take (i + 1) ks)) old mid new (owners_down owns (take i ks))
    (λ F r y m. r y (take_grows y ks i x h m))
    (λ F r. r (get_or ks i x) (take_has ks i x h))
    (λ F p q y m. elim (among_more y ks i x h m) [ inl before ↦ p y before | inr e ↦ subst (λ z. Passes z.0.base (λ a. owns a z.0.slot) F) (sym e) q ])
    a b
