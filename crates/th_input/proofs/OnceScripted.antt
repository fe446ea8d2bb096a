-- A store that tells what it holds has one input of a script and class files, and one end of their reading where
-- no call fails.
use Rattle.std.proofs.Common.{◌≡◌, ◌≤◌, ◌<◌, ℕ, List, Some, length, sym, ◌∙◌, arith}
use Rattle.std.proofs.lemmas.Bool.{cases_order}
use Rattle.th_outside.specs.Store.{NamedFile, content}
use Rattle.th_input.specs.declared.limit.TheConstants.{MOST_CLASS_FILES}
use Rattle.th_input.specs.declared.unread.Unread.{Unread}
use Rattle.th_input.specs.Input.{IsFault, EndsWithin}
use Rattle.th_input.specs.Scripted.{IsScripted, EndsScripted, many_operands, at_script, behind_script}
use Rattle.th_input.proofs.Once.{same_some, same_read, same_unread, whole_or_unread, within_read, ends_once}

few_and_many : {A : Type 0} (operands : List (List ℕ)) → length operands ≤ MOST_CLASS_FILES → MOST_CLASS_FILES < length operands → A
few_and_many operands few many = absurd (let h : ⊥ = omega (arith, few, many) in h)

same_within : (files : List NamedFile) (names : List (List ℕ)) (unread end : Unread) → EndsWithin (Some files) names unread → EndsWithin (Some files) names end → (IsFault unread → ⊥)
    → (IsFault end → ⊥) → unread ≡ end
same_within files names unread end a b ok fine =
    ends_once files a.before b.before a.name b.name a.behind b.behind unread end a.held b.held a.short b.short (sym a.names_are ∙ b.names_are) a.ends b.ends ok fine
    (cases_order (length a.before) (length b.before))

pub one_script : (files : List NamedFile) (script : List ℕ) (operands : List (List ℕ)) (bytes others : List ℕ) (read other : List NamedFile)
    → IsScripted (Some files) script operands bytes read → IsScripted (Some files) script operands others other → bytes ≡ others
one_script files script operands bytes others read other a b = same_some bytes others (content files script) a.is_script.held b.is_script.held

pub one : (files : List NamedFile) (script : List ℕ) (operands : List (List ℕ)) (bytes others : List ℕ) (read other : List NamedFile)
    → IsScripted (Some files) script operands bytes read → IsScripted (Some files) script operands others other → read ≡ other
one files script operands bytes others read other a b = same_read files read other a.read.held b.read.held (a.read.named ∙ sym b.read.named)

pub not_both : (files : List NamedFile) (script : List ℕ) (operands : List (List ℕ)) (bytes : List ℕ) (read : List NamedFile) (unread : Unread)
    → IsScripted (Some files) script operands bytes read → EndsScripted (Some files) script operands unread → IsFault unread
not_both files script operands bytes read unread input (many_operands many e) = few_and_many operands input.few many
not_both files script operands bytes read unread input (at_script few is) = whole_or_unread files script bytes unread input.is_script.held input.is_script.short is
not_both files script operands bytes read unread input (behind_script few others is ends) = within_read files operands read unread input.read ends

pub one_end : (files : List NamedFile) (script : List ℕ) (operands : List (List ℕ)) (unread end : Unread) → EndsScripted (Some files) script operands unread
    → EndsScripted (Some files) script operands end → (IsFault unread → ⊥) → (IsFault end → ⊥) → unread ≡ end
one_end files script operands unread end (many_operands many e) (many_operands more f) ok fine = e ∙ sym f
one_end files script operands unread end (many_operands many e) (at_script few b) ok fine = few_and_many operands few many
one_end files script operands unread end (many_operands many e) (behind_script few bytes is b) ok fine = few_and_many operands few many
one_end files script operands unread end (at_script few a) (many_operands many f) ok fine = few_and_many operands few many
one_end files script operands unread end (behind_script few bytes is a) (many_operands many f) ok fine = few_and_many operands few many
one_end files script operands unread end (at_script few a) (at_script too b) ok fine = same_unread files script unread end a b ok fine
one_end files script operands unread end (at_script few a) (behind_script too bytes is b) ok fine = absurd (ok (whole_or_unread files script bytes unread is.held is.short a))
one_end files script operands unread end (behind_script few bytes is a) (at_script too b) ok fine = absurd (fine (whole_or_unread files script bytes end is.held is.short b))
one_end files script operands unread end (behind_script few bytes is a) (behind_script too others it b) ok fine = same_within files operands unread end a b ok fine
