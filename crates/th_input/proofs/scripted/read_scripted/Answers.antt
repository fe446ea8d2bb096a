use Rattle.std.proofs.Common.{◌≡◌, ◌≤◌, length, map, subst, ap, ◌∙◌, rules, arith, Bor, List, ℕ}
use Rattle.std.proofs.lemmas.List.{append-nil}
use Rattle.th_input.specs.Input.{EndsWithin}
use Rattle.th_input.specs.Scripted.{at_script, behind_script}
use Rattle.th_input.specs.declared.limit.TheConstants.{MOST_CLASS_FILES}
use Rattle.th_input.proofs.Reading.{handed_on}
use Rattle.th_input.proofs.scripted.read_scripted.Goals as goal

pub returns-in_err-script-clause-unread : goal.returns-in_err-script-clause-unread
returns-in_err-script-clause-unread g c =
    let few : length c.args.operands.now ≤ MOST_CLASS_FILES = omega (arith, c.if-operands-gt-MOST_CLASS_FILES.false) in
    handed_on c.fetch.result c.from_residual-in_err-script.result c.in_err-script.field-0.0 c.in_err-script.was (search rules) c.fetch.ensures.unread
    (λ u is. at_script few (rw c.as_str.ensures at is))

pub returns-in_err-contents-clause-unread : goal.returns-in_err-contents-clause-unread
returns-in_err-contents-clause-unread g c =
    let few : length c.args.operands.now ≤ MOST_CLASS_FILES = omega (arith, c.if-operands-gt-MOST_CLASS_FILES.false) in
    let given : List (List ℕ) = map (λ (n : Bor (List ℕ)). n.now) c.as_slice.result.now in
    let names : given ≡ c.args.operands.now =
    ap (map (λ (n : Bor (List ℕ)). n.now)) c.as_slice.ensures.value ∙ c.in_ok-names.ensures ∙ append-nil c.args.operands.now in
    handed_on c.fetch_all.result c.from_residual-in_err-contents.result c.in_err-contents.field-0.0 c.in_err-contents.was (search rules) c.fetch_all.ensures.unread
    (λ u ends. behind_script few c.in_ok-script.script (record { held = rw c.as_str.ensures at c.in_ok-script.ensures.held; short = c.in_ok-script.ensures.short })
    (subst (λ ns. EndsWithin (g.F.Files.told c.args.files.now) ns u) names (subst (λ t. EndsWithin t given u) c.fetch.ensures.same_files ends)))
