-- The handlers and the rows of the chart by their places.
use Rattle.std.proofs.Common.{ℕ, List, [], ◌∷◌, Option, None, Some, slice_get}
use Rattle.th_base.specs.Handlers.{Handler, ChartRow, handlers, chart, without_bundle, row}

abbrev pub handler_or : Option Handler → Handler
handler_or None = without_bundle []
handler_or (Some k) = k

abbrev pub handler_at : ℕ → Handler
handler_at k = handler_or (slice_get handlers k)

abbrev pub row_or : Option ChartRow → ChartRow
row_or None = row (without_bundle []) 0 0
row_or (Some r) = r

abbrev pub row_at : ℕ → ChartRow
row_at k = row_or (slice_get chart k)
