-- What summaries must have for a statement, by the parts of a summary and by what the statement does.
use Rattle.std.proofs.Common.{◌≡◌, ℕ, Bool, true, List, Some, refl, subst}
use Rattle.th_base.specs.declared.class.ClassInfo.{ClassInfo}
use Rattle.th_base.specs.declared.number.ClassId.{ClassId}
use Rattle.th_base.specs.declared.number.FieldId.{FieldId}
use Rattle.th_base.specs.declared.number.SiteId.{SiteId}
use Rattle.th_ir.specs.declared.stmt.Stmt.{Stmt}
use Rattle.th_ir.specs.declared.stmt.Stmt.TheVariants.{PutStatic, PutField, PutElem, New, NewArray, Call, Init}
use Rattle.th_ir.specs.Calls.{IsInitialiser}
use Rattle.th_ir.specs.FactSets.{FactSets}
use Rattle.th_ir.specs.Summaries.{ModSets, IsPart, Sums}
use Rattle.th_mod.specs.declared.effect.Part.{Part}
use Rattle.th_mod.specs.declared.effect.Part.TheVariants.{Fields, Statics, Elements, Sites}
use Rattle.th_mod.specs.declared.effect.Effect.{Effect}
use Rattle.th_mod.specs.declared.effect.Effect.TheVariants.{WritesField, WritesStatic, WritesElement, Makes, Calls, Initialises}
use Rattle.th_mod.specs.Effects.{effect_of, number_of}
use Rattle.th_mod.proofs.Flat.{some_same}

-- one part of the summaries, as a set for each method; elements have any number or none
abbrev pub part_of : Part → ModSets → ℕ → ℕ → Bool
part_of Fields s m x = s.fields m x
part_of Statics s m x = s.statics m x
part_of Elements s m x = s.elements m
part_of Sites s m x = s.sites m x

pub part_within : (part : Part) (s : ModSets) (to m x : ℕ) → IsPart s to m → part_of part s to x ≡ true → part_of part s m x ≡ true
part_within Fields s to m x is e = is.fields x e
part_within Statics s to m x is e = is.statics x e
part_within Elements s to m x is e = is.elements e
part_within Sites s to m x is e = is.sites x e

field_told : (part : Part) (f : FieldId) (s : ModSets) (m x : ℕ) → number_of (WritesField f) part ≡ Some x → s.fields m f.0 ≡ true → part_of part s m x ≡ true
field_told Fields f s m x e is = subst (λ (y : ℕ). s.fields m y ≡ true) (some_same f.0 x e) is
field_told Statics f s m x e is = absurd cc
field_told Elements f s m x e is = absurd cc
field_told Sites f s m x e is = absurd cc

static_told : (part : Part) (f : FieldId) (s : ModSets) (m x : ℕ) → number_of (WritesStatic f) part ≡ Some x → s.statics m f.0 ≡ true → part_of part s m x ≡ true
static_told Statics f s m x e is = subst (λ (y : ℕ). s.statics m y ≡ true) (some_same f.0 x e) is
static_told Fields f s m x e is = absurd cc
static_told Elements f s m x e is = absurd cc
static_told Sites f s m x e is = absurd cc

element_told : (part : Part) (s : ModSets) (m x : ℕ) → number_of WritesElement part ≡ Some x → s.elements m ≡ true → part_of part s m x ≡ true
element_told Elements s m x e is = is
element_told Fields s m x e is = absurd cc
element_told Statics s m x e is = absurd cc
element_told Sites s m x e is = absurd cc

site_told : (part : Part) (site : SiteId) (s : ModSets) (m x : ℕ) → number_of (Makes site) part ≡ Some x → s.sites m site.0 ≡ true → part_of part s m x ≡ true
site_told Sites site s m x e is = subst (λ (y : ℕ). s.sites m y ≡ true) (some_same site.0 x e) is
site_told Fields site s m x e is = absurd cc
site_told Statics site s m x e is = absurd cc
site_told Elements site s m x e is = absurd cc

-- what a statement puts into a part is there
pub told_of_sums : (part : Part) (stmt : Stmt) (h : List ClassInfo) (t : FactSets) (s : ModSets) (m n x : ℕ)
    → number_of (effect_of stmt) part ≡ Some x → Sums h t s m n stmt → part_of part s m x ≡ true
told_of_sums part (PutStatic f src) h t s m n x e is = static_told part f s m x e is
told_of_sums part (PutField base f src) h t s m n x e is = field_told part f s m x e is
told_of_sums part (PutElem array src) h t s m n x e is = element_told part s m x e is
told_of_sums part (New dst site) h t s m n x e is = site_told part site s m x e is
told_of_sums part (NewArray dst site count) h t s m n x e is = site_told part site s m x e is
told_of_sums part _ h t s m n x e is = absurd cc

-- summaries of callees are part of the caller's
pub calls_of_sums : (stmt : Stmt) (h : List ClassInfo) (t : FactSets) (s : ModSets) (m n to : ℕ)
    → effect_of stmt ≡ Calls → Sums h t s m n stmt → t.call n to ≡ true → IsPart s to m
calls_of_sums (Call dst kind k args) h t s m n to e is c = is to c
calls_of_sums _ h t s m n to e is c = absurd cc

-- and those of initialisers
pub inits_of_sums : (stmt : Stmt) (h : List ClassInfo) (t : FactSets) (s : ModSets) (m n to : ℕ) (c : ClassId)
    → effect_of stmt ≡ Initialises c → Sums h t s m n stmt → IsInitialiser h c.0 to → IsPart s to m
inits_of_sums (Init k) h t s m n to c e is i = let same : c ≡ k = cc in is to (subst (λ (d : ClassId). IsInitialiser h d.0 to) same i)
inits_of_sums _ h t s m n to c e is i = absurd cc

-- nothing else is asked
pub record HasAll (h : List ClassInfo) (t : FactSets) (s : ModSets) (m n : ℕ) (effect : Effect) : Type 0 where
  pub told : (part : Part) (x : ℕ) → number_of effect part ≡ Some x → part_of part s m x ≡ true
  pub calls : effect ≡ Calls → (to : ℕ) → t.call n to ≡ true → IsPart s to m
  pub inits : (c : ClassId) → effect ≡ Initialises c → (to : ℕ) → IsInitialiser h c.0 to → IsPart s to m

pub sums_of_all : (stmt : Stmt) (h : List ClassInfo) (t : FactSets) (s : ModSets) (m n : ℕ) → HasAll h t s m n (effect_of stmt) → Sums h t s m n stmt
sums_of_all (PutStatic f src) h t s m n all = all.told Statics f.0 refl
sums_of_all (PutField base f src) h t s m n all = all.told Fields f.0 refl
sums_of_all (PutElem array src) h t s m n all = all.told Elements 0 refl
sums_of_all (New dst site) h t s m n all = all.told Sites site.0 refl
sums_of_all (NewArray dst site count) h t s m n all = all.told Sites site.0 refl
sums_of_all (Call dst kind k args) h t s m n all = all.calls refl
sums_of_all (Init c) h t s m n all = all.inits c refl
sums_of_all _ h t s m n all = tt
