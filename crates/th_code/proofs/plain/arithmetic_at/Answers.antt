use Rattle.std.proofs.Common.{rules}
use Rattle.th_code.proofs.Rows.{bare_read}
use Rattle.th_code.proofs.Arithmetic.{others}
use Rattle.th_code.proofs.plain.arithmetic_at.Goals as goal

pub returns-in_default-code : goal.returns-in_default-code
returns-in_default-code c = search (rules, others)

pub returns-in-Some-arithmetic : goal.returns-in-Some-arithmetic
returns-in-Some-arithmetic c = bare_read c.args.pool.now c.args.code c.args.pc c.args.place.at c.args.place.rest.now _ (c.in-Some-arithmetic.ensures.some c.args.pool.now c.args.pc)

pub returns-in-Some-conversion : goal.returns-in-Some-conversion
returns-in-Some-conversion c = bare_read c.args.pool.now c.args.code c.args.pc c.args.place.at c.args.place.rest.now _ (c.in-Some-conversion.ensures.some c.args.pool.now c.args.pc)
