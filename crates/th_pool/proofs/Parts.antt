-- Two items in a row.
use Rattle.std.proofs.Common.{◌≡◌, ℕ, List, Ok, Err, ◌∙◌}
use Rattle.th_syntax.specs.declared.refusal.Flaw.{Flaw}
use Rattle.th_syntax.specs.Forms.{Form, whole, ◌>>=◌, Placed, Found, read}
use Rattle.th_syntax.specs.ClassBytes.{u1, u2, u4, run, text, handle, two_indices, two_words}
use Rattle.th_syntax.proofs.ReadingParts.{read_after, read_stops, read_whole}

two_parts : {A B C : Type 0} (f : Form A) (g : Form B) (make : A → B → C) (at : ℕ) (bytes : List ℕ) (x : Found A) (y : Found B) → read f at bytes ≡ Ok x → read g x.1 x.2 ≡ Ok y → read (f >>= λ a. g >>= λ b. whole (make a b)) at bytes ≡ Ok (make x.0 y.0, y.1, y.2)
two_parts f g make at bytes x y first second =
    read_after f (λ a. g >>= λ b. whole (make a b)) at bytes x first ∙ read_after g (λ b. whole (make x.0 b)) x.1 x.2 y second ∙ read_whole (make x.0 y.0) y.1 y.2

pub text_read : (at : ℕ) (bytes : List ℕ) (place n : ℕ) (x : Placed (List ℕ)) (b c : ℕ) (u v : List ℕ) → read u2 at bytes ≡ Ok (record { at = place; value = n }, b, u) → read (run n) b u ≡ Ok (x, c, v) → read text at bytes ≡ Ok (x.value, c, v)
unfolding text
text_read at bytes place n x b c u v first second =
    read_after u2 (λ (n : Placed ℕ). run n.value >>= λ (a : Placed (List ℕ)). whole a.value) at bytes (record { at = place; value = n }, b, u) first
    ∙ read_after (run n) (λ (a : Placed (List ℕ)). whole a.value) b u (x, c, v) second ∙ read_whole x.value c v

pub text_stops : (at : ℕ) (bytes : List ℕ) (flaw : Flaw) → read u2 at bytes ≡ Err flaw → read text at bytes ≡ Err flaw
unfolding text
text_stops at bytes flaw e = read_stops u2 (λ (n : Placed ℕ). run n.value >>= λ (a : Placed (List ℕ)). whole a.value) at bytes flaw e

pub text_stops_later : (at : ℕ) (bytes : List ℕ) (place n : ℕ) (b : ℕ) (u : List ℕ) (flaw : Flaw) → read u2 at bytes ≡ Ok (record { at = place; value = n }, b, u) → read (run n) b u ≡ Err flaw → read text at bytes ≡ Err flaw
unfolding text
text_stops_later at bytes place n b u flaw first e =
    read_after u2 (λ (n : Placed ℕ). run n.value >>= λ (a : Placed (List ℕ)). whole a.value) at bytes (record { at = place; value = n }, b, u) first ∙ read_stops (run n) (λ (a : Placed (List ℕ)). whole a.value) b u flaw e

pub handle_read : (at : ℕ) (bytes : List ℕ) (x y : Placed ℕ) (b c : ℕ) (u v : List ℕ) → read u1 at bytes ≡ Ok (x, b, u) → read u2 b u ≡ Ok (y, c, v) → read handle at bytes ≡ Ok ((x.value, y.value), c, v)
unfolding handle
handle_read at bytes x y b c u v first second =
    let make = λ (m n : Placed ℕ). (let p : ℕ × ℕ = (m.value, n.value) in p) in
    two_parts u1 u2 make at bytes (x, b, u) (y, c, v) first second

pub handle_stop : (at : ℕ) (bytes : List ℕ) (flaw : Flaw) → read u1 at bytes ≡ Err flaw → read handle at bytes ≡ Err flaw
unfolding handle
handle_stop at bytes flaw e = read_stops u1 (λ (a : Placed ℕ). u2 >>= λ (b : Placed ℕ). whole (a.value, b.value)) at bytes flaw e

pub handle_stop_later : (at : ℕ) (bytes : List ℕ) (x : Placed ℕ) (b : ℕ) (u : List ℕ) (flaw : Flaw) → read u1 at bytes ≡ Ok (x, b, u) → read u2 b u ≡ Err flaw → read handle at bytes ≡ Err flaw
unfolding handle
handle_stop_later at bytes x b u flaw first e =
    read_after u1 (λ (a : Placed ℕ). u2 >>= λ (b : Placed ℕ). whole (a.value, b.value)) at bytes (x, b, u) first ∙ read_stops u2 (λ (b : Placed ℕ). whole (x.value, b.value)) b u flaw e

pub indices_read : (at : ℕ) (bytes : List ℕ) (x y : Placed ℕ) (b c : ℕ) (u v : List ℕ) → read u2 at bytes ≡ Ok (x, b, u) → read u2 b u ≡ Ok (y, c, v) → read two_indices at bytes ≡ Ok ((x.value, y.value), c, v)
unfolding two_indices
indices_read at bytes x y b c u v first second =
    let make = λ (m n : Placed ℕ). (let p : ℕ × ℕ = (m.value, n.value) in p) in
    two_parts u2 u2 make at bytes (x, b, u) (y, c, v) first second

pub indices_stop : (at : ℕ) (bytes : List ℕ) (flaw : Flaw) → read u2 at bytes ≡ Err flaw → read two_indices at bytes ≡ Err flaw
unfolding two_indices
indices_stop at bytes flaw e = read_stops u2 (λ (a : Placed ℕ). u2 >>= λ (b : Placed ℕ). whole (a.value, b.value)) at bytes flaw e

pub indices_stop_later : (at : ℕ) (bytes : List ℕ) (x : Placed ℕ) (b : ℕ) (u : List ℕ) (flaw : Flaw) → read u2 at bytes ≡ Ok (x, b, u) → read u2 b u ≡ Err flaw → read two_indices at bytes ≡ Err flaw
unfolding two_indices
indices_stop_later at bytes x b u flaw first e =
    read_after u2 (λ (a : Placed ℕ). u2 >>= λ (b : Placed ℕ). whole (a.value, b.value)) at bytes (x, b, u) first ∙ read_stops u2 (λ (b : Placed ℕ). whole (x.value, b.value)) b u flaw e

pub words_read : (at : ℕ) (bytes : List ℕ) (x y : Placed ℕ) (b c : ℕ) (u v : List ℕ) → read u4 at bytes ≡ Ok (x, b, u) → read u4 b u ≡ Ok (y, c, v) → read two_words at bytes ≡ Ok ((x.value, y.value), c, v)
unfolding two_words
words_read at bytes x y b c u v first second =
    let make = λ (m n : Placed ℕ). (let p : ℕ × ℕ = (m.value, n.value) in p) in
    two_parts u4 u4 make at bytes (x, b, u) (y, c, v) first second

pub words_stop : (at : ℕ) (bytes : List ℕ) (flaw : Flaw) → read u4 at bytes ≡ Err flaw → read two_words at bytes ≡ Err flaw
unfolding two_words
words_stop at bytes flaw e = read_stops u4 (λ (a : Placed ℕ). u4 >>= λ (b : Placed ℕ). whole (a.value, b.value)) at bytes flaw e

pub words_stop_later : (at : ℕ) (bytes : List ℕ) (x : Placed ℕ) (b : ℕ) (u : List ℕ) (flaw : Flaw) → read u4 at bytes ≡ Ok (x, b, u) → read u4 b u ≡ Err flaw → read two_words at bytes ≡ Err flaw
unfolding two_words
words_stop_later at bytes x b u flaw first e =
    read_after u4 (λ (a : Placed ℕ). u4 >>= λ (b : Placed ℕ). whole (a.value, b.value)) at bytes (x, b, u) first ∙ read_stops u4 (λ (b : Placed ℕ). whole (x.value, b.value)) b u flaw e

pub ruleset parts = (text_read, text_stops, text_stops_later, handle_read, handle_stop, handle_stop_later, indices_read, indices_stop, indices_stop_later, words_read, words_stop, words_stop_later)
