-- What pruning makes of a query.
use Rattle.std.proofs.Common.{◌≡◌, ℕ, List, ap, ◌∙◌}
use Rattle.std.specs.Prelude.{◌&&◌}
use Rattle.std.specs.List.{filter}
use Rattle.th_base.specs.declared.number.FieldId.{FieldId}
use Rattle.th_query.specs.declared.query.Cell.{Cell}
use Rattle.th_query.specs.declared.query.Element.{Element}
use Rattle.th_query.specs.declared.query.Frame.{Frame}
use Rattle.th_query.specs.declared.query.Query.{Query}
use Rattle.th_query.specs.Symbols.{is_named}
use Rattle.th_query.specs.Settled.{pruned}
use Rattle.th_steps.specs.Named.{named_in}

pub pruned_whole : (q : Query) (frames : List Frame) (statics : List (FieldId × ℕ)) (cells : List Cell) (elems : List Element) (pairs kept diffs : List (ℕ × ℕ)) → frames ≡ q.frames → statics ≡ q.statics → cells ≡ q.cells
    → elems ≡ q.elems → pairs ≡ q.diffs → kept ≡ filter (λ d. named_in frames statics cells elems d.0 && named_in frames statics cells elems d.1) pairs → diffs ≡ kept → record q { diffs = diffs } ≡ pruned q
pruned_whole q frames statics cells elems pairs kept diffs f s c e p k d =
    let all : diffs ≡ filter (λ x. is_named q x.0 && is_named q x.1) q.diffs =
    d ∙ k ∙ (λ i. filter (λ x. named_in (f i) (s i) (c i) (e i) x.0 && named_in (f i) (s i) (c i) (e i) x.1) (p i)) in
    ap (λ ds. record q { diffs = ds }) all
