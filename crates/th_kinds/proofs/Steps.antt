-- A walk through kinds goes on, and passes over what isn't reached.
use Rattle.std.proofs.Common.{◌≡◌, ℕ, suc, ◌+◌, ◌<◌, true, false, List, [], ◌∷◌, ◌++◌, length, drop, Option, Result, Ok, Err, refl, sym, ap, ◌∙◌, add-one}
use Rattle.std.specs.Prelude.{OnErr}
use Rattle.th_syntax.specs.declared.instr.Instr.{Instr}
use Rattle.th_syntax.specs.declared.kind.SlotKind.{SlotKind}
use Rattle.th_syntax.specs.Kinds.{KindsAt, NoKinds, OfKinds, DepthsDiffer}
use Rattle.th_syntax.specs.KindTable.{KindsBefore}
use Rattle.th_kinds.specs.Walk.{line, kept_at, here, fallen_behind}
use Rattle.th_kinds.specs.Listed.{kinds_before, listed, is_there}
use Rattle.th_kinds.proofs.ListedKinds.{listed_step}

none_before : (offset : ℕ) (s : KindsAt) → is_there s ≡ false → kinds_before offset s ≡ []
none_before offset NoKinds e = refl
none_before offset DepthsDiffer e = refl
none_before offset (OfKinds locals stack) e = absurd cc

drop_first : (offset : ℕ) (s : KindsAt) (more : List KindsBefore) → is_there s ≡ true → drop 1 (kinds_before offset s ++ more) ≡ more
drop_first offset NoKinds more e = absurd cc
drop_first offset DepthsDiffer more e = absurd cc
drop_first offset (OfKinds locals stack) more e = refl

module _ (instrs : List (ℕ × Instr)) (kept : List (Option KindsAt)) (fallen : KindsAt) (p : ℕ) (inside : p < length instrs) where
  -- what comes behind the instruction
  behind : (out : KindsAt) → out ≡ fallen_behind (line instrs p).1 (here fallen (kept_at kept p))
      → listed (drop (p + 1) instrs) (drop (p + 1) kept) out ≡ listed (drop (suc p) instrs) (drop (suc p) kept) (fallen_behind (line instrs p).1 (here fallen (kept_at kept p)))
  behind out e =
      ap (listed (drop (p + 1) instrs) (drop (p + 1) kept)) e
      ∙ ap (λ (n : ℕ). listed (drop n instrs) (drop n kept) (fallen_behind (line instrs p).1 (here fallen (kept_at kept p)))) (add-one p)

  pub listed_skip : (out : KindsAt) → is_there (here fallen (kept_at kept p)) ≡ false → out ≡ fallen_behind (line instrs p).1 (here fallen (kept_at kept p))
      → listed (drop (p + 1) instrs) (drop (p + 1) kept) out ≡ listed (drop p instrs) (drop p kept) fallen
  listed_skip out none e =
      behind out e
      ∙ sym (listed_step instrs kept fallen p inside
      ∙ ap (λ (ks : List KindsBefore). ks ++ listed (drop (suc p) instrs) (drop (suc p) kept) (fallen_behind (line instrs p).1 (here fallen (kept_at kept p)))) (none_before (line instrs p).0 (here fallen (kept_at kept p)) none))

  pub listed_next : (out : KindsAt) → is_there (here fallen (kept_at kept p)) ≡ true → out ≡ fallen_behind (line instrs p).1 (here fallen (kept_at kept p))
      → listed (drop (p + 1) instrs) (drop (p + 1) kept) out ≡ drop 1 (listed (drop p instrs) (drop p kept) fallen)
  listed_next out there e =
      behind out e
      ∙ sym (ap (drop 1) (listed_step instrs kept fallen p inside)
      ∙ drop_first (line instrs p).0 (here fallen (kept_at kept p)) (listed (drop (suc p) instrs) (drop (suc p) kept) (fallen_behind (line instrs p).1 (here fallen (kept_at kept p)))) there)

  pub listed_here : (locals stack : List SlotKind) → here fallen (kept_at kept p) ≡ OfKinds locals stack
      → listed (drop p instrs) (drop p kept) fallen
      ≡ (let k : KindsBefore = record { offset = (line instrs p).0; locals = locals; stack = stack } in k) ∷ listed (drop (suc p) instrs) (drop (suc p) kept) (fallen_behind (line instrs p).1 (here fallen (kept_at kept p)))
  listed_here locals stack e =
      listed_step instrs kept fallen p inside
      ∙ ap (λ (s : KindsAt). kinds_before (line instrs p).0 s ++ listed (drop (suc p) instrs) (drop (suc p) kept) (fallen_behind (line instrs p).1 (here fallen (kept_at kept p)))) e

-- ---- rows

pub same_row : (o o' : ℕ) (l l' s s' : List SlotKind) (rest : List KindsBefore) → o ≡ o' → l ≡ l' → s ≡ s'
    → (let k : KindsBefore = record { offset = o; locals = l; stack = s } in k) ∷ rest ≡ (let k : KindsBefore = record { offset = o'; locals = l'; stack = s' } in k) ∷ rest
same_row o o' l l' s s' rest eo el es =
    ap (λ (n : ℕ). (let k : KindsBefore = record { offset = n; locals = l; stack = s } in k) ∷ rest) eo
    ∙ ap (λ (ks : List SlotKind). (let k : KindsBefore = record { offset = o'; locals = ks; stack = s } in k) ∷ rest) el
    ∙ ap (λ (ks : List SlotKind). (let k : KindsBefore = record { offset = o'; locals = l'; stack = ks } in k) ∷ rest) es

pub on_err : {T E : Type 0} (r : Result T E) (P : Type 0) → P → OnErr r P
on_err (Ok x) P p = tt
on_err (Err e) P p = p
