use Rattle.std.proofs.Common.{◌≡◌, ◌<◌, ◌∙◌, ap, length, get_or, arith}
use Rattle.th_gen.proofs.Interning.{index_found, index_missing, indices_length}
use Rattle.th_gen.proofs.pool.Pool.index.Goals as goal

pub index-requires : goal.index-requires
index-requires c =
    let within : c.in-Some.place < length c.args.self.now.items.keys = c.in-Some.ensures.within in
    let len : length c.args.self.now.indices.items ≡ length c.args.self.now.items.keys = ap length c.args.self.now.indexed ∙ indices_length 1 c.args.self.now.items.keys in
    omega arith

pub returns-in-Some : goal.returns-in-Some
returns-in-Some c =
    c.index.ensures ∙ ap (λ xs. get_or xs c.in-Some.place c.index.result.now) c.args.self.now.indexed
    ∙ index_found c.args.self.now.items.keys c.args.item.now c.in-Some.place c.index.result.now c.in-Some.ensures.index c.in-Some.ensures.within

pub returns-in-None : goal.returns-in-None
returns-in-None c = index_missing c.args.self.now.items.keys c.args.item.now c.in-None.ensures.index
