use Rattle.std.proofs.Common.{ℕ, List, ◌≡◌, is_some, Option, sym, ap, ◌∙◌}
use Rattle.std.specs.BTreeMap.{get_by}
use Rattle.std.specs.Cmp.Lexicographic.{slice_cmp}
use Rattle.std.specs.Ordering.{nat_cmp}
use Rattle.th_base.proofs.Named.{named_put, none_from_is_some, named_added, named_kept}
use Rattle.th_base.proofs.names.names_of.Goals as goal
use Rattle.th_base.proofs.names.names_of.Goals.{then-not-contains_key+in_ok-from_slice+in_ok-insert, else-not-contains_key}

pub loop-number-preserved : goal.loop-number-preserved
loop-number-preserved c =
    let classes = c.args.classes.now in
    let info = c.index-classes-number.result in
    let old : List ℕ → Option ℕ = λ n. get_by (λ k. slice_cmp nat_cmp n k.items) c.loop-number.names in
    let there : c.contains_key.result ≡ is_some (old info.name) = c.contains_key.ensures ∙ ap (λ n. is_some (old n)) c.as_bytes-name.ensures in
    elim c.if-not-contains_key.branch [
      | then-not-contains_key+in_ok-from_slice+in_ok-insert w ↦
          rw w.names-is (named_added classes c.loop-number.number info old (λ n. get_by (λ k. slice_cmp nat_cmp n k.items) w.insert.new.self) c.loop-number-test.true c.index-classes-number.is
          c.loop-number.invariant (none_from_is_some (old info.name) (sym there ∙ w.if-not-contains_key.true))
          (named_put c.loop-number.names.entries w.insert.new.self.entries w.in_ok-from_slice.field-0 c.loop-number.number info.name w.in_ok-insert.ensures.entries (w.in_ok-from_slice.ensures.items ∙ c.as_bytes-name.ensures)))
      | else-not-contains_key w ↦
          rw w.names-is (named_kept classes c.loop-number.number info old c.loop-number-test.true c.index-classes-number.is c.loop-number.invariant (sym there ∙ w.if-not-contains_key.false))
    ]
