use Rattle.std.proofs.Common.{◌≡◌, ℕ, ◌+◌, ◌-◌, ◌%◌, ◌^◌, List, [], ◌∷◌, ◌++◌, take, length, ap, ◌∙◌}
use Rattle.std.specs.Int.{w32, cast_unsigned}
use Rattle.std.specs.List.{flat_map}
use Rattle.std.proofs.lemmas.Int.{to_z-of_z}
use Rattle.th_gen.specs.ClassText as text
use Rattle.th_gen.specs.Placing.{padding_size, start_at}
use Rattle.th_gen.proofs.Joined.{five_joined}
use Rattle.th_gen.proofs.code.put_table.Goals as goal

pub returns : goal.returns
returns c =
    let zeros : List ℕ = take (padding_size c.args.pc) (0 ∷ 0 ∷ 0 ∷ []) in
    let first : ℕ = cast_unsigned w32 c.args.low in
    let more : ℕ = length c.args.places.now - 1 in
    let first_is : c.cast_unsigned-first.result ≡ first = c.cast_unsigned-first.ensures ∙ ap (cast_unsigned w32) (to_z-of_z w32 c.args.low c.ranges.low) in
    let more_is : c.saturating_sub-more.result ≡ more = c.saturating_sub-more.ensures in
    five_joined c.args.out.now.items c.put_padding.new.out.items c.put_far.new.out.items c.put_u4.new.out.items c.put_u4-2.new.out.items c.put_targets.new.out.items
    zeros (text.far c.args.pc (start_at c.args.starts.now c.args.other)) (text.u4 first) (text.u4 ((first + more) % 2 ^ 32)) (flat_map (λ place. text.far c.args.pc (start_at c.args.starts.now place)) c.args.places.now)
    c.in_ok-put_padding.ensures c.in_ok-put_far.ensures
    (c.in_ok-put_u4.ensures ∙ ap (λ (n : ℕ). c.put_far.new.out.items ++ text.u4 n) first_is)
    (c.in_ok-put_u4-2.ensures ∙ ap (λ (n : ℕ). c.put_u4.new.out.items ++ text.u4 ((n + c.saturating_sub-more.result) % 2 ^ 32)) first_is ∙ ap (λ (m : ℕ). c.put_u4.new.out.items ++ text.u4 ((first + m) % 2 ^ 32)) more_is)
    c.in_ok-put_targets.ensures
