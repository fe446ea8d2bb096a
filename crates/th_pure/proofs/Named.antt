-- The variables of facts ascend, and are those that stand in them.
use Rattle.std.proofs.Common.{◌≡◌, ◌↔◌, ◌⊎◌, ℕ, ◌+◌, ◌≤◌, ℤ, List, [], ◌∷◌, arith, ◌∙◌, inl, inr}
use Rattle.std.proofs.lemmas.Bool.{cases_order, lt-ltb, le-ltb, eq-eqb, ne_eqb}
use Rattle.th_linear.specs.Forms.{Form}
use Rattle.th_pure.specs.Bounds.{with_variable, with_terms, with_facts}
use Rattle.th_pure.specs.Laws.{IsAmong, StandsIn, StandsInFact, AreAscending, VariablesStand}

raise : (low high : ℕ) (vs : List ℕ) → high ≤ low → AreAscending low vs → AreAscending high vs
raise low high [] le h = tt
raise low high (v ∷ vs) le h = (omega (arith, le, h.0), h.1)

with_ascends : (v low : ℕ) (ws : List ℕ) → low ≤ v → AreAscending low ws → AreAscending low (with_variable v ws)
with_ascends v low [] le h = (le, tt)
with_ascends v low (w ∷ ws) le h = elim (cases_order v w) [
  | inl e ↦ rw (le-ltb v w (omega (arith, e)), eq-eqb v w e) h
  | inr apart ↦ elim apart [
    | inl less ↦ let next : v + 1 ≤ w = omega (arith, less) in rw (lt-ltb v w less) (le, (next, h.1))
    | inr more ↦
        let next : w + 1 ≤ v = omega (arith, more) in
        rw (le-ltb v w (omega (arith, more)), ne_eqb v w (λ e. absurd (omega (arith, more, e)))) (h.0, with_ascends v (w + 1) ws next h.1)
  ]
]

among_with : (u v : ℕ) (ws : List ℕ) → IsAmong u (with_variable v ws) ↔ ((u ≡ v) ⊎ IsAmong u ws)
among_with u v [] = ((λ h. h), (λ h. h))
among_with u v (w ∷ ws) = elim (cases_order v w) [
  | inl e ↦ rw (le-ltb v w (omega (arith, e)), eq-eqb v w e) ((λ h. inr h), (λ h. elim h [ inl k ↦ inl (k ∙ e) | inr k ↦ k ]))
  | inr apart ↦ elim apart [
    | inl less ↦ rw (lt-ltb v w less) ((λ h. h), (λ h. h))
    | inr more ↦
        let rest = among_with u v ws in
        rw (le-ltb v w (omega (arith, more)), ne_eqb v w (λ e. absurd (omega (arith, more, e)))) (
          (λ h. elim h [ inl k ↦ inr (inl k) | inr k ↦ elim (rest.0 k) [ inl j ↦ inl j | inr j ↦ inr (inr j) ] ]),
          (λ h. elim h [ inl k ↦ inr (rest.1 (inl k)) | inr k ↦ elim k [ inl j ↦ inl j | inr j ↦ inr (rest.1 (inr j)) ] ]),
        )
  ]
]

terms_ascend : (vs : List ℕ) (ts : List (ℕ × ℤ)) → AreAscending 0 vs → AreAscending 0 (with_terms vs ts)
terms_ascend vs [] h = h
terms_ascend vs (t ∷ ts) h = terms_ascend (with_variable t.0 vs) ts (with_ascends t.0 0 vs (omega arith) h)

among_terms : (u : ℕ) (vs : List ℕ) (ts : List (ℕ × ℤ)) → IsAmong u (with_terms vs ts) ↔ (IsAmong u vs ⊎ StandsIn u ts)
among_terms u vs [] = ((λ h. inl h), (λ h. elim h [ inl k ↦ k | inr k ↦ absurd k ]))
among_terms u vs (t ∷ ts) =
    let rest = among_terms u (with_variable t.0 vs) ts in
    let one = among_with u t.0 vs in (
      (λ h. elim (rest.0 h) [ inl k ↦ elim (one.0 k) [ inl j ↦ inr (inl j) | inr j ↦ inl j ] | inr k ↦ inr (inr k) ]),
      (λ h. rest.1 (elim h [ inl k ↦ inl (one.1 (inr k)) | inr k ↦ elim k [ inl j ↦ inl (one.1 (inl j)) | inr j ↦ inr j ] ])),
    )

facts_ascend : (vs : List ℕ) (fs : List Form) → AreAscending 0 vs → AreAscending 0 (with_facts vs fs)
facts_ascend vs [] h = h
facts_ascend vs (f ∷ fs) h = facts_ascend (with_terms vs f.coefs) fs (terms_ascend vs f.coefs h)

among_facts : (u : ℕ) (vs : List ℕ) (fs : List Form) → IsAmong u (with_facts vs fs) ↔ (IsAmong u vs ⊎ StandsInFact u fs)
among_facts u vs [] = ((λ h. inl h), (λ h. elim h [ inl k ↦ k | inr k ↦ absurd k ]))
among_facts u vs (f ∷ fs) =
    let rest = among_facts u (with_terms vs f.coefs) fs in
    let one = among_terms u vs f.coefs in (
      (λ h. elim (rest.0 h) [ inl k ↦ elim (one.0 k) [ inl j ↦ inl j | inr j ↦ inr (inl j) ] | inr k ↦ inr (inr k) ]),
      (λ h. rest.1 (elim h [ inl k ↦ inl (one.1 (inl k)) | inr k ↦ elim k [ inl j ↦ inl (one.1 (inr j)) | inr j ↦ inr j ] ])),
    )

pub variables_stand : VariablesStand
variables_stand fs = (
  facts_ascend [] fs tt,
  (λ v.
      let all = among_facts v [] fs in
      ((λ h. elim (all.0 h) [ inl k ↦ absurd k | inr k ↦ k ]), (λ h. all.1 (inr h)))),
)
