use Rattle.std.proofs.Common.{◌∙◌, sym}
use Rattle.th_pool.proofs.Methods.{result_some}
use Rattle.th_pool.proofs.parse.result_at.Goals as goal

pub returns : goal.returns
returns c =
    sym (result_some c.args.bytes.now c.in_ok-letter.letter c.in_ok-letter.rest.now c.in_ok-found.found c.in_ok-letter.ensures (sym c.is_void.ensures ∙ c.if-is_void.false) c.in_ok-found.ensures)
