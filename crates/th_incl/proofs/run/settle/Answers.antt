use Rattle.std.proofs.Common.{◌≡◌, ◌⊎◌, inl, inr, ◌<◌, ℕ, false, List, [], length, set, sym, ap, ◌∙◌, subst, arith, get_or-set_same, get_or-set_other, refl}
use Rattle.std.proofs.lemmas.Bool.{cases_eq}
use Rattle.th_base.specs.IdSet.{has, union_of, IsAscending}
use Rattle.th_incl.specs.Least.{set_at}
use Rattle.th_incl.proofs.Rounds.{set_twice, no_length}
use Rattle.th_incl.proofs.Members.{apart_by}
use Rattle.th_incl.proofs.run.settle.Goals as goal

pub absorb-requires-clause-apart : goal.absorb-requires-clause-apart
absorb-requires-clause-apart c =
    apart_by (set_at c.args.work.now.sets.items c.args.set) c.in_ok-fresh.fresh
    (λ x e. c.requires.apart x (ap (λ l. has l x) (sym c.take_news.ensures.value) ∙ sym (c.in_ok-fresh.ensures.members x) ∙ e))

pub returns-then-count-limit-clause-settles : goal.returns-then-count-limit-clause-settles
returns-then-count-limit-clause-settles c =
    let w = c.args.work.now in
    let i = c.args.set in
    let fresh = c.in_ok-fresh.fresh in
    let back : c.put_news.new.news.items ≡ set w.news.items i fresh =
    c.put_news.ensures ∙ ap (λ l. set l i c.from_set.result) c.take_news.ensures.rest ∙ set_twice w.news.items i _ c.from_set.result ∙ ap (λ l. set w.news.items i l) c.from_set.ensures in
    let here : set_at c.put_news.new.news.items i ≡ fresh = ap (λ l. set_at l i) back ∙ get_or-set_same w.news.items i fresh _ c.requires.news in
    record {
      same = λ x. ap (λ l. has l x) here ∙ c.in_ok-fresh.ensures.members x ∙ ap (λ l. has l x) c.take_news.ensures.value;
      ascending = subst (λ l. IsAscending l) (sym here) c.in_ok-fresh.ensures.ascending;
      over = omega (arith, ap length here, c.if-count-limit.true, c.len-count.ensures, c.requires.within);
      sets = refl;
      news = back ∙ ap (λ l. set w.news.items i l) (sym here);
      queue = refl;
      pairs = refl;
    }

-- a set into which nothing came is as it was
pub returns-clause-grows : goal.returns-clause-grows
returns-clause-grows c =
    let w = c.args.work.now in
    let i = c.args.set in
    let fresh = c.in_ok-fresh.fresh in
    let old : List ℕ = set_at w.sets.items i in
    let sets : c.absorb.new.sets.items ≡ set w.sets.items i (union_of old fresh) = c.in_ok-absorb.ensures.sets in
    record {
      stays = c.in_ok-mark.ensures.stays;
      others = λ k e. elim (cases_eq k i) [
        | inl same ↦
            (let none : c.len-count.result ≡ 0 = elim (cases_eq c.len-count.result 0) [
              | inl is ↦ is
              | inr apart ↦ absurd (let there = c.in_ok-mark.ensures.here (omega (arith, apart)) in let gone = subst (λ (n : ℕ). has c.mark.new.self n ≡ false) same e in cc)
            ] in
            let empty : fresh ≡ [] = no_length fresh (omega (arith, none, c.len-count.ensures)) in
            subst (λ (n : ℕ). set_at c.absorb.new.sets.items n ≡ set_at w.sets.items n) (sym same)
            (ap (λ (ss : List (List ℕ)). set_at ss i) sets ∙ get_or-set_same w.sets.items i (union_of old fresh) [] c.requires.sets ∙ ap (union_of old) empty))
        | inr apart ↦ ap (λ (ss : List (List ℕ)). set_at ss k) sets ∙ get_or-set_other w.sets.items i k (union_of old fresh) [] apart
      ];
    }
