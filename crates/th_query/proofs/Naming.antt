-- What names a symbol, by cases.
use Rattle.std.proofs.Common.{◌≡◌, inl, inr, ℕ, true, [], ◌∷◌, map, refl, sym, subst}
use Rattle.std.specs.Prelude.{◌||◌}
use Rattle.std.proofs.lemmas.Bool.{or_cases, or_left, or_right}
use Rattle.th_base.specs.declared.number.FieldId.{FieldId}
use Rattle.th_base.specs.declared.number.Reg.{Reg}
use Rattle.th_base.specs.IdSet.{has}
use Rattle.th_ir.specs.Program.{Among}
use Rattle.th_query.specs.declared.query.Frame.{Frame}
use Rattle.th_query.specs.declared.query.Link.{Link}
use Rattle.th_query.specs.declared.query.Query.{Query}
use Rattle.th_query.specs.Symbols.{links, register_symbols, static_symbols, link_symbols, is_named}
use Rattle.th_query.proofs.InLists.{In, has_in, in_has, has_map, map_has, has_flat_map, flat_map_has}

pub data Names (q : Query) : ℕ → Type 0 where
  by_register : (f : Frame) (x : Reg × ℕ) → Among q.frames f → Among f.regs x → Names q x.1
  by_static : (x : FieldId × ℕ) → Among q.statics x → Names q x.1
  by_base : (k : Link) → Among (links q) k → Names q k.base
  by_value : (k : Link) → Among (links q) k → Names q k.value

register_has : (q : Query) (f : Frame) (x : Reg × ℕ) → Among q.frames f → Among f.regs x → has (register_symbols q) x.1 ≡ true
register_has q f x a b = flat_map_has (λ g. map (λ (y : Reg × ℕ). y.1) g.regs) f q.frames x.1 a (map_has (λ (y : Reg × ℕ). y.1) x f.regs b)

base_has : (q : Query) (k : Link) → Among (links q) k → has (link_symbols q) k.base ≡ true
base_has q k a = flat_map_has (λ (j : Link). j.base ∷ j.value ∷ []) k (links q) k.base a (in_has k.base (k.base ∷ k.value ∷ []) (inl refl))

value_has : (q : Query) (k : Link) → Among (links q) k → has (link_symbols q) k.value ≡ true
value_has q k a = flat_map_has (λ (j : Link). j.base ∷ j.value ∷ []) k (links q) k.value a (in_has k.value (k.base ∷ k.value ∷ []) (inr (inl refl)))

pub named_from : (q : Query) (s : ℕ) → Names q s → is_named q s ≡ true
named_from q _ (by_register f x a b) = or_left (has (register_symbols q) x.1) _ (register_has q f x a b)
named_from q _ (by_static x a) = or_right (has (register_symbols q) x.1) _ (or_left (has (static_symbols q) x.1) _ (map_has (λ (y : FieldId × ℕ). y.1) x q.statics a))
named_from q _ (by_base k a) = or_right (has (register_symbols q) k.base) _ (or_right (has (static_symbols q) k.base) _ (base_has q k a))
named_from q _ (by_value k a) = or_right (has (register_symbols q) k.value) _ (or_right (has (static_symbols q) k.value) _ (value_has q k a))

pub names_of : (q : Query) (s : ℕ) → is_named q s ≡ true → Names q s
names_of q s h = elim (or_cases (has (register_symbols q) s) (has (static_symbols q) s || has (link_symbols q) s) h) [
  | inl in_register ↦
      let f = has_flat_map (λ g. map (λ (y : Reg × ℕ). y.1) g.regs) q.frames s in_register in
      let x = has_map (λ (y : Reg × ℕ). y.1) f.0.regs s f.2 in
      subst (Names q) (sym x.2) (by_register f.0 x.0 f.1 x.1)
  | inr other ↦ elim (or_cases (has (static_symbols q) s) (has (link_symbols q) s) other) [
    | inl in_static ↦
        let x = has_map (λ (y : FieldId × ℕ). y.1) q.statics s in_static in
        subst (Names q) (sym x.2) (by_static x.0 x.1)
    | inr in_link ↦
        let k = has_flat_map (λ (j : Link). j.base ∷ j.value ∷ []) (links q) s in_link in
        of_link k.0 k.1 (has_in s (k.0.base ∷ k.0.value ∷ []) k.2)
  ]
]
  where
    of_link : (k : Link) → Among (links q) k → In s (k.base ∷ k.value ∷ []) → Names q s
    of_link k a (inl e) = subst (Names q) (sym e) (by_base k a)
    of_link k a (inr (inl e)) = subst (Names q) (sym e) (by_value k a)
    of_link k a (inr (inr none)) = absurd none

pub register_named : (q : Query) (f : Frame) (x : Reg × ℕ) → Among q.frames f → Among f.regs x → is_named q x.1 ≡ true
register_named q f x a b = named_from q x.1 (by_register f x a b)

pub static_named : (q : Query) (x : FieldId × ℕ) → Among q.statics x → is_named q x.1 ≡ true
static_named q x a = named_from q x.1 (by_static x a)

pub base_named : (q : Query) (k : Link) → Among (links q) k → is_named q k.base ≡ true
base_named q k a = named_from q k.base (by_base k a)

pub value_named : (q : Query) (k : Link) → Among (links q) k → is_named q k.value ≡ true
value_named q k a = named_from q k.value (by_value k a)
