-- From the instructions to the flaws of a code array.
use Rattle.std.proofs.Common.{◌≡◌, ℕ, ◌+◌, ◌<◌, Bool, true, false, ◌&&◌, ◌||◌, cond, List, [], ◌∷◌, ◌++◌, length, Err, refl, sym, ap, subst, ◌∙◌}
use Rattle.std.specs.Prelude.{Option, Some, None, ◌==◌}
use Rattle.std.specs.List.{list_all}
use Rattle.std.proofs.lemmas.Bool.{eq-eqb}
use Rattle.th_syntax.specs.declared.cause.TheConstants as cause
use Rattle.th_syntax.specs.declared.instr.Instr.{Instr}
use Rattle.th_syntax.specs.declared.refusal.Flaw.{Flaw}
use Rattle.th_syntax.specs.Flaws.{flaw_at, unless, Ascend, IsFirst}
use Rattle.th_syntax.specs.Flow.{leads_to}
use Rattle.th_syntax.specs.ClassBytes.{Pool}
use Rattle.th_syntax.specs.Decoding.{instrs_in, is_start, offset_behind, flow_flaws_from, flow_flaws, or_else, flaws_in}
use Rattle.th_base.specs.declared.fail.Fail.{Fail}
use Rattle.th_base.specs.declared.fail.Fail.TheVariants.{Refused, NoMemory}
use Rattle.th_pool.specs.Gives.{IfRefused}
use Rattle.th_code.specs.Starts.{is_marked, first_stray_of}
use Rattle.th_code.specs.Decoded.{IsRead, IsStopped}
use Rattle.th_code.proofs.Passing.{Begins}

alike : (f g : ℕ → Bool) → ((x : ℕ) → f x ≡ g x) → (xs : List ℕ) → list_all f xs ≡ list_all g xs
alike f g same [] = refl
alike f g same (x ∷ xs) = ap (λ (b : Bool). b && list_all f xs) (same x) ∙ ap (λ (b : Bool). g x && b) (alike f g same xs)

-- ---- none strays

none_on : (b : Bool) (one : ℕ) (next : Option ℕ) (flaw : Flaw) (more : List Flaw) → None ≡ cond b next (Some one) → (None ≡ next → more ≡ []) → (unless b flaw ++ more) ≡ []
none_on true one next flaw more e later = later e
none_on false one next flaw more e later = absurd cc

pub none_strays : (test : ℕ → Bool) (instrs : List (ℕ × Instr)) (at : ℕ) → ((x : ℕ) → test x ≡ is_start instrs x) → (xs : List (ℕ × Instr)) → None ≡ first_stray_of test xs → flow_flaws_from instrs at xs ≡ []
none_strays test instrs at same [] e = refl
none_strays test instrs at same (one ∷ more) e =
    let flows = alike test (is_start instrs) same (leads_to (offset_behind more ∷ []) one.1) in
    none_on (list_all (is_start instrs) (leads_to (offset_behind more ∷ []) one.1)) one.0 (first_stray_of test more) (flaw_at cause.CODE_SHAPE (at + one.0)) (flow_flaws_from instrs at more)
    (e ∙ ap (λ (b : Bool). cond b (first_stray_of test more) (Some one.0)) flows) (none_strays test instrs at same more)

-- ---- one strays

some_on : (b : Bool) (one pc at : ℕ) (next : Option ℕ) (more : List Flaw) → Some pc ≡ cond b next (Some one) → (Some pc ≡ next → Begins more (flaw_at cause.CODE_SHAPE (at + pc))) → Begins (unless b (flaw_at cause.CODE_SHAPE (at + one)) ++ more) (flaw_at cause.CODE_SHAPE (at + pc))
some_on true one pc at next more e later = later e
some_on false one pc at next more e later = let same : pc ≡ one = cc in (more, ap (λ (k : ℕ). flaw_at cause.CODE_SHAPE (at + k) ∷ more) (sym same))

pub one_strays : (test : ℕ → Bool) (instrs : List (ℕ × Instr)) (at pc : ℕ) → ((x : ℕ) → test x ≡ is_start instrs x) → (xs : List (ℕ × Instr)) → Some pc ≡ first_stray_of test xs → Begins (flow_flaws_from instrs at xs) (flaw_at cause.CODE_SHAPE (at + pc))
one_strays test instrs at pc same [] e = absurd cc
one_strays test instrs at pc same (one ∷ more) e =
    let flows = alike test (is_start instrs) same (leads_to (offset_behind more ∷ []) one.1) in
    some_on (list_all (is_start instrs) (leads_to (offset_behind more ∷ []) one.1)) one.0 pc at (first_stray_of test more) (flow_flaws_from instrs at more)
    (e ∙ ap (λ (b : Bool). cond b (first_stray_of test more) (Some one.0)) flows) (one_strays test instrs at pc same more)

-- it starts there
starts_on : (b : Bool) (one pc : ℕ) (next : Option ℕ) (rest : Bool) → Some pc ≡ cond b next (Some one) → (Some pc ≡ next → rest ≡ true) → ((one == pc) || rest) ≡ true
starts_on true one pc next rest e later = go (one == pc) (later e)
  where
    go : (a : Bool) → rest ≡ true → (a || rest) ≡ true
    go true h = refl
    go false h = h
starts_on false one pc next rest e later =
    let same : one ≡ pc = cc in
    ap (λ (b : Bool). b || rest) (eq-eqb one pc same)

stray_starts : (test : ℕ → Bool) (pc : ℕ) (xs : List (ℕ × Instr)) → Some pc ≡ first_stray_of test xs → is_start xs pc ≡ true
stray_starts test pc [] e = absurd cc
stray_starts test pc (one ∷ more) e = starts_on (list_all test (leads_to (offset_behind more ∷ []) one.1)) one.0 pc (first_stray_of test more) (is_start more pc) e (stray_starts test pc more)

-- ---- the whole

pub stray_inside : (pool : Pool) (max_locals at : ℕ) (code : List ℕ) (instrs : List (ℕ × Instr)) (starts : List Bool) (pc : ℕ) → IsRead pool max_locals at code instrs starts → Some pc ≡ first_stray_of (is_marked starts) instrs → pc < length code
stray_inside pool max_locals at code instrs starts pc r e = r.inside pc (stray_starts (is_marked starts) pc instrs e)

pub no_flaws : (pool : Pool) (max_locals at : ℕ) (code : List ℕ) (instrs : List (ℕ × Instr)) (starts : List Bool) → IsRead pool max_locals at code instrs starts → None ≡ first_stray_of (is_marked starts) instrs → flaws_in pool max_locals at code ≡ []
unfolding flaws_in flow_flaws
no_flaws pool max_locals at code instrs starts r e =
    ap (λ (flaws : List Flaw). or_else flaws (flow_flaws at (instrs_in pool code))) r.flawless
    ∙ ap (λ (is : List (ℕ × Instr)). flow_flaws_from is at is) (sym r.instrs_are) ∙ none_strays (is_marked starts) instrs at r.marked instrs e

stray_flaw : (pool : Pool) (max_locals at : ℕ) (code : List ℕ) (instrs : List (ℕ × Instr)) (starts : List Bool) (pc : ℕ) → IsRead pool max_locals at code instrs starts → Some pc ≡ first_stray_of (is_marked starts) instrs → Begins (flaws_in pool max_locals at code) (flaw_at cause.CODE_SHAPE (at + pc))
unfolding flaws_in flow_flaws
stray_flaw pool max_locals at code instrs starts pc r e =
    let begins = one_strays (is_marked starts) instrs at pc r.marked instrs e in (
      begins.0,
      ap (λ (flaws : List Flaw). or_else flaws (flow_flaws at (instrs_in pool code))) r.flawless
          ∙ ap (λ (is : List (ℕ × Instr)). flow_flaws_from is at is) (sym r.instrs_are) ∙ begins.1,
    )

stop_flaw : (pool : Pool) (max_locals at : ℕ) (code : List ℕ) (flaw : Flaw) → IsStopped pool max_locals at code flaw → Begins (flaws_in pool max_locals at code) flaw
unfolding flaws_in
stop_flaw pool max_locals at code flaw begins =
    let flow = flow_flaws at (instrs_in pool code) in
    (begins.0, ap (λ (flaws : List Flaw). or_else flaws (flow_flaws at (instrs_in pool code))) begins.1)

-- of flaws that ascend the one at the head is the first
first_by : (flaws : List Flaw) (flaw : Flaw) → Ascend flaws → ((flaw : Flaw) (flaws : List Flaw) → Ascend (flaw ∷ flaws) → IsFirst (flaw ∷ flaws) flaw) → Begins flaws flaw → IsFirst flaws flaw
first_by flaws flaw up first begins = subst (λ (fs : List Flaw). IsFirst fs flaw) (sym begins.1) (first flaw begins.0 (subst Ascend begins.1 up))

pub stray_first : (pool : Pool) (max_locals at : ℕ) (code : List ℕ) (instrs : List (ℕ × Instr)) (starts : List Bool) (pc : ℕ) → Ascend (flaws_in pool max_locals at code) → ((flaw : Flaw) (flaws : List Flaw) → Ascend (flaw ∷ flaws) → IsFirst (flaw ∷ flaws) flaw)
    → IsRead pool max_locals at code instrs starts → Some pc ≡ first_stray_of (is_marked starts) instrs → IsFirst (flaws_in pool max_locals at code) (flaw_at cause.CODE_SHAPE (at + pc))
stray_first pool max_locals at code instrs starts pc up first r e = first_by (flaws_in pool max_locals at code) (flaw_at cause.CODE_SHAPE (at + pc)) up first (stray_flaw pool max_locals at code instrs starts pc r e)

pub stop_first : (pool : Pool) (max_locals at : ℕ) (code : List ℕ) (flaw : Flaw) → Ascend (flaws_in pool max_locals at code) → ((flaw : Flaw) (flaws : List Flaw) → Ascend (flaw ∷ flaws) → IsFirst (flaw ∷ flaws) flaw)
    → IsStopped pool max_locals at code flaw → IsFirst (flaws_in pool max_locals at code) flaw
stop_first pool max_locals at code flaw up first stopped = first_by (flaws_in pool max_locals at code) flaw up first (stop_flaw pool max_locals at code flaw stopped)

pub fail_first : (X Y : Type 0) (pool : Pool) (max_locals at : ℕ) (code : List ℕ) (fail : Fail Flaw) → Ascend (flaws_in pool max_locals at code) → ((flaw : Flaw) (flaws : List Flaw) → Ascend (flaw ∷ flaws) → IsFirst (flaw ∷ flaws) flaw)
    → IfRefused {X = X} (Err fail) (IsStopped pool max_locals at code) → IfRefused {X = Y} (Err fail) (IsFirst (flaws_in pool max_locals at code))
fail_first X Y pool max_locals at code (Refused flaw) up first stopped = stop_first pool max_locals at code flaw up first stopped
fail_first X Y pool max_locals at code NoMemory up first stopped = tt
