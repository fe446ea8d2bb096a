use Rattle.std.proofs.Common.{ℕ, List, [], ◌∷◌, ◌++◌, take, length}
use Rattle.std.specs.Prelude.{ℤ}
use Rattle.std.specs.Int.{w32, cast_unsigned}
use Rattle.std.specs.List.{flat_map}
use Rattle.th_gen.specs.ClassText as text
use Rattle.th_gen.specs.Placing.{padding_size, start_at}
use Rattle.th_gen.proofs.Joined.{four_joined}
use Rattle.th_gen.proofs.code.put_lookup.Goals as goal

pub returns : goal.returns
returns c =
    let zeros : List ℕ = take (padding_size c.args.pc) (0 ∷ 0 ∷ 0 ∷ []) in
    four_joined c.args.out.now.items c.put_padding.new.out.items c.put_far.new.out.items c.put_u4.new.out.items c.put_pairs.new.out.items
    zeros (text.far c.args.pc (start_at c.args.starts.now c.args.other)) (text.u4 (length c.args.pairs.now)) (flat_map (λ (pair : ℤ × ℕ). text.u4 (cast_unsigned w32 pair.0) ++ text.far c.args.pc (start_at c.args.starts.now pair.1)) c.args.pairs.now)
    c.in_ok-put_padding.ensures c.in_ok-put_far.ensures c.in_ok-put_u4.ensures c.in_ok-put_pairs.ensures
