use Rattle.std.proofs.Common.{◌≡◌, ℕ, List, [], ◌∷◌, ◌++◌, Bool, not, take, subst, sym, ap, ◌∙◌, Bor}
use Rattle.std.specs.List.{list_any}
use Rattle.std.specs.Str.{bytes_eq}
use Rattle.std.proofs.lemmas.Result.{err_from_is_err_and}
use Rattle.indexmap.specs.IndexSet.{contains_by}
use Rattle.th_base.specs.BuiltIn.{is_built_in}
use Rattle.th_syntax.specs.declared.cause.TheConstants as cause
use Rattle.th_syntax.specs.declared.class_file.ClassFile.{ClassFile}
use Rattle.th_syntax.specs.Flaws.{unless}
use Rattle.th_syntax.specs.LinkChecks.{found_along, class_name_refusals, refusal_at}
use Rattle.th_linker.specs.Checking.{Refuses}
use Rattle.th_linker.proofs.InOrder.{along_more, along_stops, along_found}
use Rattle.th_linker.proofs.NewNames.{names_more, own_refusals}
use Rattle.th_linker.proofs.names.check_names.Goals as goal

pub returns-in_err-check_own_name : goal.returns-in_err-check_own_name
returns-in_err-check_own_name c =
    let p = err_from_is_err_and c.from_residual-in_err-check_own_name.result c.from_residual-in_err-check_own_name.ensures.1 in
    let files = c.args.files.now in
    let x = c.class-item.result in
    let fail = c.in_err-check_own_name.field-0.0 in
    let is_new = c.in_ok-is_new.ensures.added ∙ ap not (c.loop-class.invariant.known x.name) in
    rw (p.1, p.2)
    (along_stops class_name_refusals fail files c.loop-class.class-index x c.loop-class-test.true c.class-item.is c.loop-class.invariant.none
    (subst (Refuses fail) (own_refusals (take c.loop-class.class-index files) x c.in_ok-is_new.is_new is_new) c.in_err-check_own_name.ensures))

pub loop-class-preserved : goal.loop-class-preserved
loop-class-preserved c =
    let files = c.args.files.now in
    let x = c.class-item.result in
    let is_new = c.in_ok-is_new.ensures.added ∙ ap not (c.loop-class.invariant.known x.name) in
    record {
      none = along_more class_name_refusals files c.loop-class.class-index x c.loop-class-test.true c.class-item.is c.loop-class.invariant.none
          (sym (own_refusals (take c.loop-class.class-index files) x c.in_ok-is_new.is_new is_new) ∙ c.in_ok-check_own_name.ensures);
      known = names_more files c.loop-class.class-index x (λ name. contains_by (λ (k : Bor (List ℕ)). bytes_eq name k.now) c.loop-class.names)
          (λ name. contains_by (λ (k : Bor (List ℕ)). bytes_eq name k.now) c.insert.new.self) c.loop-class-test.true c.class-item.is c.loop-class.invariant.known
          (λ name. c.in_ok-is_new.ensures.updates.0 (record { ref_ptr = c.args.files.ref_ptr; now = name }));
    }

pub returns : goal.returns
returns c = along_found class_name_refusals c.args.files.now c.loop-class.class-index c.loop-class-test.false c.loop-class.invariant.none
