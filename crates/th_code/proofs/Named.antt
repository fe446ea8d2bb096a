-- What the pool gives for the index of a member or a class, and its checks.
use Rattle.std.proofs.Common.{◌≡◌, ◌⊎◌, ℕ, Bool, true, false, cond, List, [], ◌∷◌, Result, Ok, Err, refl, sym, ap, ◌∙◌, inl, inr}
use Rattle.std.specs.Prelude.{Option, Some, None, ◌==◌}
use Rattle.std.specs.List.{list_any}
use Rattle.std.specs.Option.{option_map, option_map_or, option_and_then}
use Rattle.th_syntax.specs.declared.cause.TheConstants as cause
use Rattle.th_syntax.specs.declared.instr.MemberRef.{MemberRef}
use Rattle.th_syntax.specs.ClassBytes.{Pool}
use Rattle.th_syntax.specs.PoolChecks.{tag_at, member_of, tagged_member_of}
use Rattle.th_syntax.specs.CodeBytes.{member_among}
use Rattle.th_code.specs.Judged.{least_of, by_number, named}

-- the tag of an entry with its member
abbrev with_tag : Option ℕ → Option MemberRef → Option (ℕ × MemberRef)
with_tag o p = option_and_then (λ found. option_map (λ m. (found, m)) p) o

abbrev Parts : ℕ → MemberRef → Option ℕ → Option MemberRef → Type 0
Parts t m o p = (o ≡ Some t) × (p ≡ Some m)

parts_of : (t : ℕ) (m : MemberRef) (o : Option ℕ) (p : Option MemberRef) → Some (t, m) ≡ with_tag o p → Parts t m o p
parts_of t m None p e = absurd cc
parts_of t m (Some u) None e = absurd cc
parts_of t m (Some u) (Some n) e =
    let pair : (let x : ℕ × MemberRef = (t, m) in x) ≡ (u, n) = cc in
    (ap (λ (x : ℕ × MemberRef). (let o : Option ℕ = Some x.0 in o)) (sym pair), ap (λ (x : ℕ × MemberRef). (let o : Option MemberRef = Some x.1 in o)) (sym pair))

none_of : (o : Option ℕ) (p : Option MemberRef) → None ≡ with_tag o p → (o ≡ None) ⊎ (p ≡ None)
none_of None p e = inl refl
none_of (Some u) None e = inr refl
none_of (Some u) (Some n) e = absurd cc

-- the member under an entry of one of these tags
abbrev among_by : Option ℕ → Option MemberRef → List ℕ → Option MemberRef
among_by o p tags = cond (list_any (λ x. option_map_or (λ found. found == x) o false) tags) p None

no_tag : (tags : List ℕ) → list_any (λ x. option_map_or (λ (found : ℕ). found == x) None false) tags ≡ false
no_tag [] = refl
no_tag (t ∷ tags) = no_tag tags

either_none : (b : Bool) → cond b (let p : Option MemberRef = None in p) None ≡ None
either_none true = refl
either_none false = refl

missing : (tags : List ℕ) (o : Option ℕ) (p : Option MemberRef) → (o ≡ None) ⊎ (p ≡ None) → among_by o p tags ≡ None
missing tags o p (inl e) = rw (e, no_tag tags) refl
missing tags o p (inr e) = rw e (either_none (list_any (λ x. option_map_or (λ found. found == x) o false) tags))

pub member_missing : (pool : Pool) (tags : List ℕ) (index : ℕ) (numbers : MemberRef → List ℕ) → None ≡ tagged_member_of pool index → named numbers (member_among pool tags index) ≡ Err cause.CODE_SHAPE
member_missing pool tags index numbers e = ap (named numbers) (missing tags (tag_at pool index) (member_of pool index) (none_of (tag_at pool index) (member_of pool index) e))

not_there : (tags : List ℕ) (t : ℕ) (p : Option MemberRef) → list_any (λ x. t == x) tags ≡ false → among_by (Some t) p tags ≡ None
not_there tags t p other = rw other refl

pub member_other : (pool : Pool) (tags : List ℕ) (index t : ℕ) (m : MemberRef) (numbers : MemberRef → List ℕ) → Some (t, m) ≡ tagged_member_of pool index → list_any (λ x. t == x) tags ≡ false → named numbers (member_among pool tags index) ≡ Err cause.CODE_SHAPE
member_other pool tags index t m numbers e other =
    let parts = parts_of t m (tag_at pool index) (member_of pool index) e in
    ap (named numbers) (ap (λ (o : Option ℕ). among_by o (member_of pool index) tags) parts.0 ∙ not_there tags t (member_of pool index) other)

there : (pool : Pool) (tags : List ℕ) (index t : ℕ) (m : MemberRef) → Some (t, m) ≡ tagged_member_of pool index → list_any (λ x. t == x) tags ≡ true → member_among pool tags index ≡ Some m
there pool tags index t m e is =
    let parts = parts_of t m (tag_at pool index) (member_of pool index) e in
    ap (λ (o : Option ℕ). among_by o (member_of pool index) tags) parts.0 ∙ rw is parts.1

pub member_flawed : (pool : Pool) (tags : List ℕ) (index t : ℕ) (m : MemberRef) (numbers : MemberRef → List ℕ) (n : ℕ) → Some (t, m) ≡ tagged_member_of pool index → list_any (λ x. t == x) tags ≡ true → Some n ≡ least_of (numbers m) → named numbers (member_among pool tags index) ≡ Err n
member_flawed pool tags index t m numbers n e is flaw = ap (named numbers) (there pool tags index t m e is) ∙ ap (by_number m) (sym flaw)

pub member_fine : (pool : Pool) (tags : List ℕ) (index t : ℕ) (m copy : MemberRef) (numbers : MemberRef → List ℕ) → Some (t, m) ≡ tagged_member_of pool index → list_any (λ x. t == x) tags ≡ true → None ≡ least_of (numbers m) → copy ≡ m → named numbers (member_among pool tags index) ≡ Ok copy
member_fine pool tags index t m copy numbers e is flaw same = ap (named numbers) (there pool tags index t m e is) ∙ ap (by_number m) (sym flaw) ∙ ap (λ (x : MemberRef). (let r : Result MemberRef ℕ = Ok x in r)) (sym same)

pub ruleset members = (member_missing, member_other, member_flawed, member_fine)

-- ---- classes

pub class_missing : (numbers : List ℕ → List ℕ) (o : Option (List ℕ)) → None ≡ o → named numbers o ≡ Err cause.CODE_SHAPE
class_missing numbers o e = ap (named numbers) (sym e)

pub class_flawed : (numbers : List ℕ → List ℕ) (o : Option (List ℕ)) (name : List ℕ) (n : ℕ) → Some name ≡ o → Some n ≡ least_of (numbers name) → named numbers o ≡ Err n
class_flawed numbers o name n e flaw = ap (named numbers) (sym e) ∙ ap (by_number name) (sym flaw)

pub class_fine : (numbers : List ℕ → List ℕ) (o : Option (List ℕ)) (name copy : List ℕ) → Some name ≡ o → None ≡ least_of (numbers name) → copy ≡ name → named numbers o ≡ Ok copy
class_fine numbers o name copy e flaw same = ap (named numbers) (sym e) ∙ ap (by_number name) (sym flaw) ∙ ap (λ (x : List ℕ). (let r : Result (List ℕ) ℕ = Ok x in r)) (sym same)

pub ruleset classes = (class_missing, class_flawed, class_fine)
