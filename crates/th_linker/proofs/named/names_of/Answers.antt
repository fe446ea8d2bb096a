use Rattle.std.proofs.Common.{◌≡◌, List, ℕ, Bor, true}
use Rattle.std.specs.Str.{bytes_eq}
use Rattle.std.proofs.lemmas.Slice.Eq.{bytes_eq-Decides}
use Rattle.indexmap.specs.IndexMap.{get_by}
use Rattle.th_base.specs.declared.text.Text.{Text}
use Rattle.th_syntax.specs.declared.class_file.ClassFile.{ClassFile}
use Rattle.th_reach.proofs.FirstPlaces.{added, kept, none_of, some_of}
use Rattle.th_linker.proofs.named.names_of.Goals as goal
use Rattle.th_linker.proofs.named.names_of.Goals.{then-is_none+in_ok-insert, else-is_none}

named : (n : List ℕ) (c : ClassFile) → bytes_eq c.name n ≡ true → c.name ≡ n
named n c e = (bytes_eq-Decides c.name n).0 e

pub loop-number-preserved : goal.loop-number-preserved
loop-number-preserved c =
    let classes = c.args.classes.now in
    let class = c.index-classes-number.result in
    let old : List ℕ → _ = λ n. get_by (λ (k : Bor (List ℕ)). bytes_eq n k.now) c.loop-number.names in
    elim c.if-is_none.branch [
      | then-is_none+in_ok-insert w ↦ rw w.names-is
          (added (λ n (x : ClassFile). bytes_eq x.name n) (λ x. x.name) named classes c.loop-number.number class old
          (λ n. get_by (λ (k : Bor (List ℕ)). bytes_eq n k.now) w.insert.new.self)
          c.loop-number-test.true c.index-classes-number.is c.loop-number.invariant
          (none_of c.get.result _ c.get.ensures.value w.if-is_none.ensures)
          (λ n. w.in_ok-insert.ensures.updates.0 (record { ref_ptr = c.args.classes.ref_ptr; now = n })))
      | else-is_none w ↦
          let there = some_of c.get.result _ c.get.ensures.value w.if-is_none.ensures in
          rw w.names-is
          (kept (λ n (x : ClassFile). bytes_eq x.name n) (λ x. x.name) named classes c.loop-number.number class old there.0
          c.loop-number-test.true c.index-classes-number.is c.loop-number.invariant there.1)
    ]
