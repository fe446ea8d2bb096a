-- Bytes that were appended one after the other.
use Rattle.std.proofs.Common.{◌≡◌, ℕ, List, ◌++◌, ap, ◌∙◌, append_assoc}

pub two_joined : (o o1 o2 p q : List ℕ) → o1 ≡ o ++ p → o2 ≡ o1 ++ q → o2 ≡ o ++ (p ++ q)
two_joined o o1 o2 p q a b = b ∙ ap (λ (r : List ℕ). r ++ q) a ∙ append_assoc o p q

pub three_joined : (o o1 o2 o3 p q r : List ℕ) → o1 ≡ o ++ p → o2 ≡ o1 ++ q → o3 ≡ o2 ++ r → o3 ≡ o ++ (p ++ (q ++ r))
three_joined o o1 o2 o3 p q r a b c = two_joined o o1 o3 p (q ++ r) a (two_joined o1 o2 o3 q r b c)

pub four_joined : (o o1 o2 o3 o4 p q r s : List ℕ) → o1 ≡ o ++ p → o2 ≡ o1 ++ q → o3 ≡ o2 ++ r → o4 ≡ o3 ++ s → o4 ≡ o ++ (p ++ (q ++ (r ++ s)))
four_joined o o1 o2 o3 o4 p q r s a b c d = two_joined o o1 o4 p (q ++ (r ++ s)) a (three_joined o1 o2 o3 o4 q r s b c d)

pub five_joined : (o o1 o2 o3 o4 o5 p q r s t : List ℕ) → o1 ≡ o ++ p → o2 ≡ o1 ++ q → o3 ≡ o2 ++ r → o4 ≡ o3 ++ s → o5 ≡ o4 ++ t → o5 ≡ o ++ (p ++ (q ++ (r ++ (s ++ t))))
five_joined o o1 o2 o3 o4 o5 p q r s t a b c d e = two_joined o o1 o5 p (q ++ (r ++ (s ++ t))) a (four_joined o1 o2 o3 o4 o5 q r s t b c d e)

pub six_joined : (o o1 o2 o3 o4 o5 o6 p q r s t u : List ℕ) → o1 ≡ o ++ p → o2 ≡ o1 ++ q → o3 ≡ o2 ++ r → o4 ≡ o3 ++ s → o5 ≡ o4 ++ t → o6 ≡ o5 ++ u → o6 ≡ o ++ (p ++ (q ++ (r ++ (s ++ (t ++ u)))))
six_joined o o1 o2 o3 o4 o5 o6 p q r s t u a b c d e f = two_joined o o1 o6 p (q ++ (r ++ (s ++ (t ++ u)))) a (five_joined o1 o2 o3 o4 o5 o6 q r s t u b c d e f)

-- a member's header, and what follows it
pub header_joined : (o o1 o2 a b c d : List ℕ) → o1 ≡ o ++ (a ++ (b ++ c)) → o2 ≡ o1 ++ d → o2 ≡ o ++ (a ++ (b ++ (c ++ d)))
header_joined o o1 o2 a b c d e f =
    two_joined o o1 o2 (a ++ (b ++ c)) d e f ∙ ap (λ (r : List ℕ). o ++ r) (append_assoc a (b ++ c) d ∙ ap (λ (r : List ℕ). a ++ r) (append_assoc b c d))
