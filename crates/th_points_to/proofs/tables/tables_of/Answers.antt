use Rattle.std.proofs.Common.{◌≡◌, ℕ, List, length, Option, refl, ap, subst}
use Rattle.th_ir.specs.declared.program.Site.{Site}
use Rattle.th_points_to.specs.Rows.{AreRows, based, launched_by, pairs_from, returned_by, standing}
use Rattle.th_points_to.specs.Tables.{AreClasses}
use Rattle.th_points_to.proofs.TableLemmas.{nodes_of_rows, based_of_rows, returned_of_rows, launched_of_rows}
use Rattle.th_points_to.proofs.tables.tables_of.Goals as goal

rows_as : {X : Type 0} (f : ℕ → X → Option (ℕ × ℕ)) (count count' : ℕ) (xs ys : List X) (rows : List (List ℕ)) → count ≡ count' → xs ≡ ys → AreRows count (pairs_from f 0 xs) rows
    → AreRows count' (pairs_from f 0 ys) rows
rows_as {X} f count count' xs ys rows same alike are =
    subst (λ (n : ℕ). AreRows n (pairs_from f 0 ys) rows) same (subst (λ (l : List X). AreRows count (pairs_from f 0 l) rows) alike are)

pub returns : goal.returns
returns c = λ fs are.
    let h = c.args.hierarchy.now in
    let p = c.args.program.now in
    let nodes = c.as_slice-program_nodes.ensures in
    let sites = c.as_slice-sites.ensures in
    let methods = c.len-methods.ensures in
    record {
      nodes = nodes_of_rows p c.in_ok-nodes.nodes.items (rows_as standing c.len-methods.result (length p.methods) c.as_slice-program_nodes.result.now p.nodes c.in_ok-nodes.nodes.items methods nodes c.in_ok-nodes.ensures);
      based = based_of_rows c.args.layout p c.in_ok-based.based.items
          (rows_as based c.args.layout.registers c.args.layout.registers c.as_slice-program_nodes.result.now p.nodes c.in_ok-based.based.items refl nodes c.in_ok-based.ensures);
      returned = returned_of_rows p c.in_ok-returned.returned.items
          (rows_as returned_by c.len-methods.result (length p.methods) c.as_slice-program_nodes.result.now p.nodes c.in_ok-returned.returned.items methods nodes c.in_ok-returned.ensures);
      launched = launched_of_rows h p c.in_ok-launched.launched.items
          (rows_as launched_by (length c.classes-classes.result.now) (length h) c.as_slice-sites.result.now p.sites c.in_ok-launched.launched.items (ap length c.classes-classes.ensures.value) sites c.in_ok-launched.ensures);
      classes = subst (λ (l : List Site). AreClasses h l c.in_ok-classes.classes.items) sites c.in_ok-classes.ensures;
      filters = are;
    }
