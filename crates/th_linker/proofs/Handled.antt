-- A handler by its pair of texts.
use Rattle.std.proofs.Common.{List, ℕ, Bor}
use Rattle.th_base.specs.Handlers.{Handler}

abbrev pub handler_of : Bor (List ℕ) × Bor (List ℕ) → Handler
handler_of h = record { name = h.0.now; descriptor = h.1.now }
