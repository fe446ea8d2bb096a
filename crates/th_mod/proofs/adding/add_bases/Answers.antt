use Rattle.std.proofs.Common.{ℕ, ◌<◌, length, get_or, sym, ap, subst, arith}
use Rattle.std.proofs.lemmas.List.Elements.{Contains-get_or}
use Rattle.th_mod.proofs.adding.add_bases.Goals as goal

pub add_base-requires : goal.add_base-requires
add_base-requires c =
    let inside : c.loop-at.at < length c.args.base.now = omega arith in
    let p : ℕ × ℕ = get_or c.args.base.now c.loop-at.at (0, 0) in
    let known = c.requires.range p.0 p.1 (Contains-get_or c.args.base.now c.loop-at.at (0, 0) inside) in
    subst (λ n. p.0 < n) (sym (ap (λ s. s.sets) c.loop-at.invariant)) known
