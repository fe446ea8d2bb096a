use Rattle.std.proofs.Common.{◌≡◌, ◌+◌, ◌<◌, ◌≤◌, true, false, length, arith}
use Rattle.th_gen.specs.Items.{width}
use Rattle.th_gen.specs.ClassText.{fits_item}
use Rattle.th_gen.proofs.Loops.{indices_step, text_too_long, count_too_high, indices_done}
use Rattle.th_gen.proofs.pool.indices_of.Goals as goal
use Rattle.th_gen.proofs.pool.indices_of.Goals.{then-not-fits-via-then-not-fits, then-not-fits-via-else-not-fits+then-count-width}

pub returns-then-not-fits-clause-too_large : goal.returns-then-not-fits-clause-too_large
returns-then-not-fits-clause-too_large c =
    elim c.then-not-fits.branch [
      | then-not-fits-via-then-not-fits w ↦
          let not : fits_item c.item_at-item.result.now ≡ false = cc in
          text_too_long c.args.items.now.keys c.loop-place.place c.item_at-item.result.now c.item_at-item.ensures not c.loop-place.invariant.2
      | then-not-fits-via-else-not-fits+then-count-width w ↦
          let wide : w.width.result ≡ width c.item_at-item.result.now = w.width.ensures.value in
          let most : w.width.result ≤ 2 = w.width.ensures.most in
          let high : 65535 < c.loop-place.count + w.width.result = (let t = w.if-count-width.true in omega arith) in
          count_too_high c.args.items.now.keys c.loop-place.place c.loop-place.count w.width.result c.item_at-item.result.now c.item_at-item.ensures wide high c.loop-place.invariant.1
    ]

pub overflow_add-count : goal.overflow_add-count
overflow_add-count c =
    let one : c.width.result ≡ width c.item_at-item.result.now = c.width.ensures.value in
    let two : c.width-count.result ≡ width c.item_at-item.result.now = c.width-count.ensures.value in
    let most : c.width.result ≤ 2 = c.width.ensures.most in
    omega arith

pub loop-place-preserved : goal.loop-place-preserved
loop-place-preserved c =
    let one : c.width.result ≡ width c.item_at-item.result.now = c.width.ensures.value in
    let two : c.width-count.result ≡ width c.item_at-item.result.now = c.width-count.ensures.value in
    let most : c.width.result ≤ 2 = c.width.ensures.most in
    let fit : fits_item c.item_at-item.result.now ≡ true = cc in
    let next = indices_step c.args.items.now.keys c.loop-place.place c.loop-place.count c.width-count.result c.item_at-item.result.now c.loop-place.indices.items c.push.new.self.items c.item_at-item.ensures two fit c.in_ok-push.ensures.items
    c.loop-place.invariant.0 c.loop-place.invariant.1 c.loop-place.invariant.2 in
    (next.0, next.1, next.2, omega arith)

pub returns-clause-indices : goal.returns-clause-indices
returns-clause-indices c =
    let past : length c.args.items.now.keys ≤ c.loop-place.place = (let t = c.loop-place-test.false in let n = c.len-place-end.ensures.len in omega arith) in
    (indices_done c.args.items.now.keys c.loop-place.place c.loop-place.count c.loop-place.indices.items past c.loop-place.invariant.0 c.loop-place.invariant.1 c.loop-place.invariant.2 c.loop-place.invariant.3).0

pub returns-clause-count : goal.returns-clause-count
returns-clause-count c =
    let past : length c.args.items.now.keys ≤ c.loop-place.place = (let t = c.loop-place-test.false in let n = c.len-place-end.ensures.len in omega arith) in
    (indices_done c.args.items.now.keys c.loop-place.place c.loop-place.count c.loop-place.indices.items past c.loop-place.invariant.0 c.loop-place.invariant.1 c.loop-place.invariant.2 c.loop-place.invariant.3).1

pub returns-clause-fits : goal.returns-clause-fits
returns-clause-fits c =
    let past : length c.args.items.now.keys ≤ c.loop-place.place = (let t = c.loop-place-test.false in let n = c.len-place-end.ensures.len in omega arith) in
    (indices_done c.args.items.now.keys c.loop-place.place c.loop-place.count c.loop-place.indices.items past c.loop-place.invariant.0 c.loop-place.invariant.1 c.loop-place.invariant.2 c.loop-place.invariant.3).2
