use Rattle.std.proofs.Common.{◌≡◌, ◌≤◌, ◌+◌, length, ◌∙◌, ap, rules, arith, subst, Bor, get_or, List, ℕ, []}
use Rattle.std.proofs.lemmas.List.{map_more}
use Rattle.th_input.specs.Input.{IsUnread, MayHold, file_unread, too_many, total}
use Rattle.th_input.specs.declared.limit.TheConstants.{MOST_BYTES}
use Rattle.th_input.specs.declared.unread.Unread.TheVariants.{TooManyBytes}
use Rattle.th_input.proofs.Growing.{cut_at}
use Rattle.th_input.proofs.Reading.{ends_here, handed_on, read_more, total_more}
use Rattle.th_input.proofs.class_files.fetch_all.Goals as goal

pub returns-in_err-bytes-clause-unread : goal.returns-in_err-bytes-clause-unread
returns-in_err-bytes-clause-unread g c =
    let none : Bor (List ℕ) = record { ref_ptr = (0, 0); now = [] } in
    let name : List ℕ = (get_or c.args.names.now c.loop-name.name-index none).now in
    let cut = cut_at (λ (n : Bor (List ℕ)). n.now) c.args.names.now c.loop-name.name-index none c.loop-name-test.true in
    handed_on c.fetch.result c.from_residual.result c.in_err-bytes.field-0.0 c.in_err-bytes.was (search rules) c.fetch.ensures.unread
    (λ u is. ends_here _ _ _ _ _ _ u c.loop-name.invariant.read cut (file_unread (subst (λ t. IsUnread t name u) c.loop-name.invariant.same_files is)))

pub returns-then-total-gt-MOST_BYTES-clause-unread : goal.returns-then-total-gt-MOST_BYTES-clause-unread
returns-then-total-gt-MOST_BYTES-clause-unread g c =
    let none : Bor (List ℕ) = record { ref_ptr = (0, 0); now = [] } in
    let name : List ℕ = (get_or c.args.names.now c.loop-name.name-index none).now in
    let cut = cut_at (λ (n : Bor (List ℕ)). n.now) c.args.names.now c.loop-name.name-index none c.loop-name-test.true in
    ends_here _ _ _ _ _ _ _ c.loop-name.invariant.read cut
    (too_many c.in_ok-bytes.bytes (subst (λ t. MayHold t name c.in_ok-bytes.bytes) c.loop-name.invariant.same_files c.in_ok-bytes.ensures.held) c.in_ok-bytes.ensures.short
    (omega (arith, c.loop-name.invariant.sum, c.len.ensures, c.if-total-gt-MOST_BYTES.true)) (ap (λ n. TooManyBytes n) c.in_ok-from_str.ensures))

pub loop-name-preserved : goal.loop-name-preserved
loop-name-preserved g c =
    let told = g.F.Files.told in
    let pushed = c.in_ok-push.ensures.ok in
    let none : Bor (List ℕ) = record { ref_ptr = (0, 0); now = [] } in
    let name : List ℕ = (get_or c.args.names.now c.loop-name.name-index none).now in
    let more = map_more (λ (n : Bor (List ℕ)). n.now) c.args.names.now c.loop-name.name-index none c.loop-name-test.true in
    let text : c.in_ok-from_slice.field-0 ≡ name = cc (c.in_ok-from_slice.ensures, c.as_bytes.ensures.value) in
    let held = subst (λ t. MayHold t name c.in_ok-bytes.bytes) c.loop-name.invariant.same_files c.in_ok-bytes.ensures.held in
    let few : total c.loop-name.contents + length c.in_ok-bytes.bytes ≤ MOST_BYTES = omega (arith, c.loop-name.invariant.sum, c.len.ensures, c.if-total-gt-MOST_BYTES.false) in
    record {
      read = rw (more, pushed, text) (read_more (told c.args.files.now) _ c.loop-name.contents name c.in_ok-bytes.bytes c.loop-name.invariant.read held c.in_ok-bytes.ensures.short few);
      sum = rw (pushed, total_more c.loop-name.contents c.in_ok-from_slice.field-0 c.in_ok-bytes.bytes) (omega (arith, c.loop-name.invariant.sum, c.len.ensures));
      count = c.in_ok-bytes.ensures.counted ∙ c.loop-name.invariant.count;
      failed = c.in_ok-bytes.ensures.failed ∙ c.loop-name.invariant.failed;
      same_steady = c.fetch.ensures.same_steady ∙ c.loop-name.invariant.same_steady;
      same_files = c.fetch.ensures.same_files ∙ c.loop-name.invariant.same_files;
    }
