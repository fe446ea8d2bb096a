use Rattle.std.proofs.Common.{rules}
use Rattle.th_code.proofs.Objects.{others, row_new, row_anewarray, row_checkcast, row_instanceof}
use Rattle.th_code.proofs.object.object.Goals as goal

pub returns-in_default : goal.returns-in_default
returns-in_default c = search (rules, others)

pub returns-in_ok-name-in-187 : goal.returns-in_ok-name-in-187
returns-in_ok-name-in-187 c = rw c.in-187.is (row_new c.args.pool.now c.args.pc c.args.place.at c.args.place.rest.now _ _ _ _ _ c.in_ok-index-in-187.ensures c.in_ok-name-in-187.ensures)

pub returns-in_ok-name-in-189 : goal.returns-in_ok-name-in-189
returns-in_ok-name-in-189 c = rw c.in-189.is (row_anewarray c.args.pool.now c.args.pc c.args.place.at c.args.place.rest.now _ _ _ _ _ c.in_ok-index-in-189.ensures c.in_ok-name-in-189.ensures)

pub returns-in_ok-name-in-192 : goal.returns-in_ok-name-in-192
returns-in_ok-name-in-192 c = rw c.in-192.is (row_checkcast c.args.pool.now c.args.pc c.args.place.at c.args.place.rest.now _ _ _ _ _ c.in_ok-index-in-192.ensures c.in_ok-name-in-192.ensures)

pub returns-in_ok-name-in-193 : goal.returns-in_ok-name-in-193
returns-in_ok-name-in-193 c = rw c.in-193.is (row_instanceof c.args.pool.now c.args.pc c.args.place.at c.args.place.rest.now _ _ _ _ _ c.in_ok-index-in-193.ensures c.in_ok-name-in-193.ensures)
