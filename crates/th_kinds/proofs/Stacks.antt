-- The top of a stack that is kept with its top last.
use Rattle.std.proofs.Common.{◌≡◌, ℕ, ◌-◌, ◌≤◌, List, ◌++◌, reverse, length, take, drop, sym, ap, ◌∙◌, arith}
use Rattle.std.proofs.lemmas.List.{length-reverse, length-drop, reverse-append, take-append-drop}
use Rattle.std.proofs.Math.Seq.{drop-append_seam}
use Rattle.th_syntax.specs.declared.kind.SlotKind.{SlotKind}

pub reverse_take : (stack : List SlotKind) (n : ℕ) → n ≤ length stack → reverse (take (length stack - n) stack) ≡ drop n (reverse stack)
reverse_take stack n fits =
    let m : ℕ = length stack - n in
    let parts : reverse stack ≡ reverse (drop (length stack - n) stack) ++ reverse (take (length stack - n) stack) =
    ap reverse (sym (take-append-drop (length stack - n) stack)) ∙ reverse-append (take (length stack - n) stack) (drop (length stack - n) stack) in
    let size : n ≡ length (reverse (drop (length stack - n) stack)) = omega (arith, length-reverse (drop (length stack - n) stack), length-drop (length stack - n) stack) in
    sym (ap (drop n) parts ∙ ap (λ (k : ℕ). drop k (reverse (drop (length stack - n) stack) ++ reverse (take (length stack - n) stack))) size
    ∙ drop-append_seam (reverse (drop (length stack - n) stack)) (reverse (take (length stack - n) stack)))

pub top_replaced : (stack gives : List SlotKind) (n : ℕ) → n ≤ length stack → reverse (take (length stack - n) stack ++ gives) ≡ reverse gives ++ drop n (reverse stack)
top_replaced stack gives n fits = reverse-append (take (length stack - n) stack) gives ∙ ap (λ rest. reverse gives ++ rest) (reverse_take stack n fits)
