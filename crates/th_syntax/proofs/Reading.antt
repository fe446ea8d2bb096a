-- Reading a form gives what stands at the front of the bytes by it, and nothing else.
use Rattle.std.proofs.Common.{◌≡◌, ◌⊎◌, ℕ, ◌+◌, ◌≤◌, Bool, true, false, cond, ltb, List, [], ◌∷◌, ◌++◌, length, take, drop, Result, Ok, Err, refl, sym, ap, subst, ◌∙◌, append_assoc, add-zero, arith, inl, inr}
use Rattle.std.specs.List.{concat}
use Rattle.std.proofs.lemmas.Bool.{ltb-false, ltb-true, le-ltb, lt-ltb}
use Rattle.std.proofs.lemmas.List.{take_at, drop_at, take-append-drop, length-append, length-take}
use Rattle.th_syntax.specs.declared.refusal.Flaw.{Flaw}
use Rattle.th_syntax.specs.Forms.{Form, whole, item, wrong, Begins, Stands, IsTruncated, IsWrong, IsFlawed, Found, read}

-- a test that did not fail, and one that did
guard_ok : {A : Type 0} (b : Bool) (d : Flaw) (r : Result A Flaw) (y : A) → cond b (Err d) r ≡ Ok y → (b ≡ false) × (r ≡ Ok y)
guard_ok true d r y e = absurd cc
guard_ok false d r y e = (refl, e)

guard_err : {A : Type 0} (b : Bool) (d flaw : Flaw) (r : Result A Flaw) → cond b (Err d) r ≡ Err flaw → ((b ≡ true) × (d ≡ flaw)) ⊎ ((b ≡ false) × (r ≡ Err flaw))
guard_err true d flaw r e = inl (refl, cc)
guard_err false d flaw r e = inr (refl, e)

-- items that begin a form are read one after the other
pub read_items : {A : Type 0} (f : Form A) (at : ℕ) (items : List (List ℕ)) (others : List ℕ) (g : Form A) → Begins f at items g → read f at (concat items ++ others) ≡ read g (at + length (concat items)) others
unfolding read
read_items f at [] others g is = rw (is, add-zero) refl
read_items (whole x) at (first ∷ items) others g is = absurd is
read_items (wrong place number) at (first ∷ items) others g is = absurd is
read_items (item n next) at (first ∷ items) others g is =
    let len : length first ≡ n = is.0 in
    let regrouped : (first ++ concat items) ++ others ≡ first ++ (concat items ++ others) = append_assoc first (concat items) others in
    let long : ltb (length (first ++ (concat items ++ others))) n ≡ false = le-ltb _ _ (omega (arith, length-append first (concat items ++ others))) in
    let rest = read_items (next at first) (at + n) items others g is.1 in
    let behind : (at + n) + length (concat items) ≡ at + length (first ++ concat items) = omega (arith, length-append first (concat items)) in
    ap (read (item n next) at) regrouped
    ∙ rw (long, take_at first (concat items ++ others) n len, drop_at first (concat items ++ others) n len) (rest ∙ ap (λ (k : ℕ). read g k others) behind)

-- what stands at the front is read
pub stands_read : {A : Type 0} (f : Form A) (at : ℕ) (bytes : List ℕ) (x : A) (behind : ℕ) (others : List ℕ) → Stands f at bytes x behind others → read f at bytes ≡ Ok (x, behind, others)
unfolding read
stands_read {A = A} f at bytes x behind others s =
    ap (read f at) s.front ∙ read_items f at s.items others (whole x) s.begins ∙ ap (λ (k : ℕ). let r : Result (Found A) Flaw = Ok (x, k, others) in r) (sym s.behind_is)

-- what is read stands at the front
pub read_stands : {A : Type 0} (f : Form A) (at : ℕ) (bytes : List ℕ) (found : Found A) → read f at bytes ≡ Ok found → Stands f at bytes found.0 found.1 found.2
unfolding read
read_stands {A = A} (whole y) at bytes found e =
    let made : Found A = (y, at, bytes) in
    let same : made ≡ found = cc in
    subst (λ (z : Found A). Stands (whole y) at bytes z.0 z.1 z.2) same (record { items = []; front = refl; begins = refl; behind_is = sym (add-zero at) })
read_stands (wrong place number) at bytes found e = absurd cc
read_stands {A = A} (item n next) at bytes found e =
    let g = guard_ok (ltb (length bytes) n) (record { number = 2; offset = at }) (read (next at (take n bytes)) (at + n) (drop n bytes)) found e in
    let long : n ≤ length bytes = ltb-false _ _ g.0 in
    let len : length (take n bytes) ≡ n = omega (arith, length-take n bytes) in
    let s = read_stands (next at (take n bytes)) (at + n) (drop n bytes) found g.1 in
    record {
      items = take n bytes ∷ s.items;
      front = sym (take-append-drop n bytes) ∙ ap (λ (r : List ℕ). take n bytes ++ r) s.front ∙ sym (append_assoc (take n bytes) (concat s.items) found.2);
      begins = (len, s.begins);
      behind_is = s.behind_is ∙ omega (arith, length-append (take n bytes) (concat s.items), len);
    }

-- what is wrong is read as wrong
pub flawed_read : {A : Type 0} (f : Form A) (at : ℕ) (bytes : List ℕ) (flaw : Flaw) → IsFlawed f at bytes flaw → read f at bytes ≡ Err flaw
unfolding read
flawed_read {A = A} f at bytes flaw (inl t) =
    let short : ltb (length t.others) t.size ≡ true = lt-ltb _ _ t.short in
    let one : read (item t.size t.next) (at + length (concat t.items)) t.others ≡ Err (record { number = 2; offset = at + length (concat t.items) }) = rw short refl in
    ap (read f at) t.front ∙ read_items f at t.items t.others (item t.size t.next) t.begins ∙ one ∙ ap (λ (d : Flaw). let r : Result (Found A) Flaw = Err d in r) (sym t.flaw_is)
flawed_read {A = A} f at bytes flaw (inr t) =
    ap (read f at) t.front ∙ read_items f at t.items t.others (wrong t.place t.number) t.begins ∙ ap (λ (d : Flaw). let r : Result (Found A) Flaw = Err d in r) (sym t.flaw_is)

-- one item more in front
truncated_behind : {A : Type 0} (n : ℕ) (next : ℕ → List ℕ → Form A) (at : ℕ) (bytes : List ℕ) (flaw : Flaw) → n ≤ length bytes → IsTruncated (next at (take n bytes)) (at + n) (drop n bytes) flaw → IsTruncated (item n next) at bytes flaw
truncated_behind n next at bytes flaw long t =
    let len : length (take n bytes) ≡ n = omega (arith, length-take n bytes) in
    let behind : (at + n) + length (concat t.items) ≡ at + length (take n bytes ++ concat t.items) = omega (arith, length-append (take n bytes) (concat t.items), len) in
    record {
      items = take n bytes ∷ t.items;
      others = t.others;
      size = t.size;
      next = t.next;
      front = sym (take-append-drop n bytes) ∙ ap (λ (r : List ℕ). take n bytes ++ r) t.front ∙ sym (append_assoc (take n bytes) (concat t.items) t.others);
      begins = (len, t.begins);
      short = t.short;
      flaw_is = t.flaw_is ∙ ap (λ (k : ℕ). let d : Flaw = record { number = 2; offset = k } in d) behind;
    }

wrong_behind : {A : Type 0} (n : ℕ) (next : ℕ → List ℕ → Form A) (at : ℕ) (bytes : List ℕ) (flaw : Flaw) → n ≤ length bytes → IsWrong (next at (take n bytes)) (at + n) (drop n bytes) flaw → IsWrong (item n next) at bytes flaw
wrong_behind n next at bytes flaw long t =
    let len : length (take n bytes) ≡ n = omega (arith, length-take n bytes) in
    record {
      items = take n bytes ∷ t.items;
      others = t.others;
      place = t.place;
      number = t.number;
      front = sym (take-append-drop n bytes) ∙ ap (λ (r : List ℕ). take n bytes ++ r) t.front ∙ sym (append_assoc (take n bytes) (concat t.items) t.others);
      begins = (len, t.begins);
      flaw_is = t.flaw_is;
    }

flawed_behind : {A : Type 0} (n : ℕ) (next : ℕ → List ℕ → Form A) (at : ℕ) (bytes : List ℕ) (flaw : Flaw) → n ≤ length bytes → IsFlawed (next at (take n bytes)) (at + n) (drop n bytes) flaw → IsFlawed (item n next) at bytes flaw
flawed_behind n next at bytes flaw long (inl t) = inl (truncated_behind n next at bytes flaw long t)
flawed_behind n next at bytes flaw long (inr t) = inr (wrong_behind n next at bytes flaw long t)

-- what is read as wrong is wrong
pub read_flawed : {A : Type 0} (f : Form A) (at : ℕ) (bytes : List ℕ) (flaw : Flaw) → read f at bytes ≡ Err flaw → IsFlawed f at bytes flaw
unfolding read
read_flawed (whole y) at bytes flaw e = absurd cc
read_flawed (wrong place number) at bytes flaw e = inr (record { items = []; others = bytes; place = place; number = number; front = refl; begins = refl; flaw_is = cc })
read_flawed (item n next) at bytes flaw e =
    elim (guard_err (ltb (length bytes) n) (record { number = 2; offset = at }) flaw (read (next at (take n bytes)) (at + n) (drop n bytes)) e) [
      | inl g ↦ inl (record { items = []; others = bytes; size = n; next = next; front = refl; begins = refl; short = ltb-true _ _ g.0; flaw_is = sym g.1 ∙ ap (λ (k : ℕ). let d : Flaw = record { number = 2; offset = k } in d) (sym (add-zero at)) })
      | inr g ↦ flawed_behind n next at bytes flaw (ltb-false _ _ g.0) (read_flawed (next at (take n bytes)) (at + n) (drop n bytes) flaw g.1)
    ]
