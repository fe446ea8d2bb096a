-- Behind each tag stands what its row says.
use Rattle.std.proofs.Common.{◌≡◌, ◌≢◌, ℕ, true, false, eqb, arith, ◌≤◌, ◌+◌, ◌*◌, ◌^◌, List, Ok, Err, refl, ◌∙◌}
use Rattle.std.specs.Int.{w32, w64, cast_signed}
use Rattle.std.proofs.lemmas.Bool.{ne_eqb}
use Rattle.std.proofs.lemmas.Bool.Decides.{nat_tests}
use Rattle.th_syntax.specs.declared.tag.TheConstants as tags
use Rattle.th_syntax.specs.declared.refusal.Flaw.{Flaw}
use Rattle.th_syntax.specs.Forms.{Form, whole, ◌>>=◌, Placed, Found, read}
use Rattle.th_syntax.specs.ClassBytes.{utf8, integer, float, long, double, class, string, field, method, interface_method, name_and_type, method_handle, method_type, invoke_dynamic, u2, u4, text, handle, two_indices, two_words, content, is_tag}
use Rattle.th_syntax.proofs.ReadingParts.{read_after, read_stops, read_whole}

-- one part, and the entry that it makes
one_part : {A B : Type 0} (f : Form A) (make : A → B) (at : ℕ) (bytes : List ℕ) (found : Found A) → read f at bytes ≡ Ok found → read (f >>= λ x. whole (make x)) at bytes ≡ Ok (make found.0, found.1, found.2)
one_part f make at bytes found e = read_after f (λ x. whole (make x)) at bytes found e ∙ read_whole (make found.0) found.1 found.2

pub integer_read : (at : ℕ) (bytes : List ℕ) (x : Placed ℕ) (behind : ℕ) (others : List ℕ) → read u4 at bytes ≡ Ok (x, behind, others) → read (content tags.INTEGER) at bytes ≡ Ok (integer (cast_signed w32 x.value), behind, others)
unfolding content
integer_read at bytes x behind others e = let make = λ (x : Placed ℕ). integer (cast_signed w32 x.value) in one_part u4 make at bytes (x, behind, others) e

pub integer_stops : (at : ℕ) (bytes : List ℕ) (flaw : Flaw) → read u4 at bytes ≡ Err flaw → read (content tags.INTEGER) at bytes ≡ Err flaw
unfolding content
integer_stops at bytes flaw e = let make = λ (x : Placed ℕ). integer (cast_signed w32 x.value) in read_stops u4 (λ x. whole (make x)) at bytes flaw e

pub float_read : (at : ℕ) (bytes : List ℕ) (x : Placed ℕ) (behind : ℕ) (others : List ℕ) → read u4 at bytes ≡ Ok (x, behind, others) → read (content tags.FLOAT) at bytes ≡ Ok (float, behind, others)
unfolding content
float_read at bytes x behind others e = let make = λ (x : Placed ℕ). float in one_part u4 make at bytes (x, behind, others) e

pub float_stops : (at : ℕ) (bytes : List ℕ) (flaw : Flaw) → read u4 at bytes ≡ Err flaw → read (content tags.FLOAT) at bytes ≡ Err flaw
unfolding content
float_stops at bytes flaw e = let make = λ (x : Placed ℕ). float in read_stops u4 (λ x. whole (make x)) at bytes flaw e

pub long_read : (at : ℕ) (bytes : List ℕ) (x : ℕ × ℕ) (behind : ℕ) (others : List ℕ) → read two_words at bytes ≡ Ok (x, behind, others) → read (content tags.LONG) at bytes ≡ Ok (long (cast_signed w64 (x.0 * 2 ^ 32 + x.1)), behind, others)
unfolding content
long_read at bytes x behind others e = let make = λ (x : ℕ × ℕ). long (cast_signed w64 (x.0 * 2 ^ 32 + x.1)) in one_part two_words make at bytes (x, behind, others) e

pub long_stops : (at : ℕ) (bytes : List ℕ) (flaw : Flaw) → read two_words at bytes ≡ Err flaw → read (content tags.LONG) at bytes ≡ Err flaw
unfolding content
long_stops at bytes flaw e = let make = λ (x : ℕ × ℕ). long (cast_signed w64 (x.0 * 2 ^ 32 + x.1)) in read_stops two_words (λ x. whole (make x)) at bytes flaw e

pub double_read : (at : ℕ) (bytes : List ℕ) (x : ℕ × ℕ) (behind : ℕ) (others : List ℕ) → read two_words at bytes ≡ Ok (x, behind, others) → read (content tags.DOUBLE) at bytes ≡ Ok (double, behind, others)
unfolding content
double_read at bytes x behind others e = let make = λ (x : ℕ × ℕ). double in one_part two_words make at bytes (x, behind, others) e

pub double_stops : (at : ℕ) (bytes : List ℕ) (flaw : Flaw) → read two_words at bytes ≡ Err flaw → read (content tags.DOUBLE) at bytes ≡ Err flaw
unfolding content
double_stops at bytes flaw e = let make = λ (x : ℕ × ℕ). double in read_stops two_words (λ x. whole (make x)) at bytes flaw e

pub class_read : (at : ℕ) (bytes : List ℕ) (x : Placed ℕ) (behind : ℕ) (others : List ℕ) → read u2 at bytes ≡ Ok (x, behind, others) → read (content tags.CLASS) at bytes ≡ Ok (class x.value, behind, others)
unfolding content
class_read at bytes x behind others e = let make = λ (x : Placed ℕ). class x.value in one_part u2 make at bytes (x, behind, others) e

pub class_stops : (at : ℕ) (bytes : List ℕ) (flaw : Flaw) → read u2 at bytes ≡ Err flaw → read (content tags.CLASS) at bytes ≡ Err flaw
unfolding content
class_stops at bytes flaw e = let make = λ (x : Placed ℕ). class x.value in read_stops u2 (λ x. whole (make x)) at bytes flaw e

pub string_read : (at : ℕ) (bytes : List ℕ) (x : Placed ℕ) (behind : ℕ) (others : List ℕ) → read u2 at bytes ≡ Ok (x, behind, others) → read (content tags.STRING) at bytes ≡ Ok (string x.value, behind, others)
unfolding content
string_read at bytes x behind others e = let make = λ (x : Placed ℕ). string x.value in one_part u2 make at bytes (x, behind, others) e

pub string_stops : (at : ℕ) (bytes : List ℕ) (flaw : Flaw) → read u2 at bytes ≡ Err flaw → read (content tags.STRING) at bytes ≡ Err flaw
unfolding content
string_stops at bytes flaw e = let make = λ (x : Placed ℕ). string x.value in read_stops u2 (λ x. whole (make x)) at bytes flaw e

pub field_read : (at : ℕ) (bytes : List ℕ) (x : ℕ × ℕ) (behind : ℕ) (others : List ℕ) → read two_indices at bytes ≡ Ok (x, behind, others) → read (content tags.FIELD) at bytes ≡ Ok (field x.0 x.1, behind, others)
unfolding content
field_read at bytes x behind others e = let make = λ (x : ℕ × ℕ). field x.0 x.1 in one_part two_indices make at bytes (x, behind, others) e

pub field_stops : (at : ℕ) (bytes : List ℕ) (flaw : Flaw) → read two_indices at bytes ≡ Err flaw → read (content tags.FIELD) at bytes ≡ Err flaw
unfolding content
field_stops at bytes flaw e = let make = λ (x : ℕ × ℕ). field x.0 x.1 in read_stops two_indices (λ x. whole (make x)) at bytes flaw e

pub method_read : (at : ℕ) (bytes : List ℕ) (x : ℕ × ℕ) (behind : ℕ) (others : List ℕ) → read two_indices at bytes ≡ Ok (x, behind, others) → read (content tags.METHOD) at bytes ≡ Ok (method x.0 x.1, behind, others)
unfolding content
method_read at bytes x behind others e = let make = λ (x : ℕ × ℕ). method x.0 x.1 in one_part two_indices make at bytes (x, behind, others) e

pub method_stops : (at : ℕ) (bytes : List ℕ) (flaw : Flaw) → read two_indices at bytes ≡ Err flaw → read (content tags.METHOD) at bytes ≡ Err flaw
unfolding content
method_stops at bytes flaw e = let make = λ (x : ℕ × ℕ). method x.0 x.1 in read_stops two_indices (λ x. whole (make x)) at bytes flaw e

pub interface_method_read : (at : ℕ) (bytes : List ℕ) (x : ℕ × ℕ) (behind : ℕ) (others : List ℕ) → read two_indices at bytes ≡ Ok (x, behind, others) → read (content tags.INTERFACE_METHOD) at bytes ≡ Ok (interface_method x.0 x.1, behind, others)
unfolding content
interface_method_read at bytes x behind others e = let make = λ (x : ℕ × ℕ). interface_method x.0 x.1 in one_part two_indices make at bytes (x, behind, others) e

pub interface_method_stops : (at : ℕ) (bytes : List ℕ) (flaw : Flaw) → read two_indices at bytes ≡ Err flaw → read (content tags.INTERFACE_METHOD) at bytes ≡ Err flaw
unfolding content
interface_method_stops at bytes flaw e = let make = λ (x : ℕ × ℕ). interface_method x.0 x.1 in read_stops two_indices (λ x. whole (make x)) at bytes flaw e

pub name_and_type_read : (at : ℕ) (bytes : List ℕ) (x : ℕ × ℕ) (behind : ℕ) (others : List ℕ) → read two_indices at bytes ≡ Ok (x, behind, others) → read (content tags.NAME_AND_TYPE) at bytes ≡ Ok (name_and_type x.0 x.1, behind, others)
unfolding content
name_and_type_read at bytes x behind others e = let make = λ (x : ℕ × ℕ). name_and_type x.0 x.1 in one_part two_indices make at bytes (x, behind, others) e

pub name_and_type_stops : (at : ℕ) (bytes : List ℕ) (flaw : Flaw) → read two_indices at bytes ≡ Err flaw → read (content tags.NAME_AND_TYPE) at bytes ≡ Err flaw
unfolding content
name_and_type_stops at bytes flaw e = let make = λ (x : ℕ × ℕ). name_and_type x.0 x.1 in read_stops two_indices (λ x. whole (make x)) at bytes flaw e

pub method_handle_read : (at : ℕ) (bytes : List ℕ) (x : ℕ × ℕ) (behind : ℕ) (others : List ℕ) → read handle at bytes ≡ Ok (x, behind, others) → read (content tags.METHOD_HANDLE) at bytes ≡ Ok (method_handle, behind, others)
unfolding content
method_handle_read at bytes x behind others e = let make = λ (x : ℕ × ℕ). method_handle in one_part handle make at bytes (x, behind, others) e

pub method_handle_stops : (at : ℕ) (bytes : List ℕ) (flaw : Flaw) → read handle at bytes ≡ Err flaw → read (content tags.METHOD_HANDLE) at bytes ≡ Err flaw
unfolding content
method_handle_stops at bytes flaw e = let make = λ (x : ℕ × ℕ). method_handle in read_stops handle (λ x. whole (make x)) at bytes flaw e

pub method_type_read : (at : ℕ) (bytes : List ℕ) (x : Placed ℕ) (behind : ℕ) (others : List ℕ) → read u2 at bytes ≡ Ok (x, behind, others) → read (content tags.METHOD_TYPE) at bytes ≡ Ok (method_type, behind, others)
unfolding content
method_type_read at bytes x behind others e = let make = λ (x : Placed ℕ). method_type in one_part u2 make at bytes (x, behind, others) e

pub method_type_stops : (at : ℕ) (bytes : List ℕ) (flaw : Flaw) → read u2 at bytes ≡ Err flaw → read (content tags.METHOD_TYPE) at bytes ≡ Err flaw
unfolding content
method_type_stops at bytes flaw e = let make = λ (x : Placed ℕ). method_type in read_stops u2 (λ x. whole (make x)) at bytes flaw e

pub invoke_dynamic_read : (at : ℕ) (bytes : List ℕ) (x : ℕ × ℕ) (behind : ℕ) (others : List ℕ) → read two_indices at bytes ≡ Ok (x, behind, others) → read (content tags.INVOKE_DYNAMIC) at bytes ≡ Ok (invoke_dynamic, behind, others)
unfolding content
invoke_dynamic_read at bytes x behind others e = let make = λ (x : ℕ × ℕ). invoke_dynamic in one_part two_indices make at bytes (x, behind, others) e

pub invoke_dynamic_stops : (at : ℕ) (bytes : List ℕ) (flaw : Flaw) → read two_indices at bytes ≡ Err flaw → read (content tags.INVOKE_DYNAMIC) at bytes ≡ Err flaw
unfolding content
invoke_dynamic_stops at bytes flaw e = let make = λ (x : ℕ × ℕ). invoke_dynamic in read_stops two_indices (λ x. whole (make x)) at bytes flaw e

pub utf8_read : (at : ℕ) (bytes : List ℕ) (x : List ℕ) (behind : ℕ) (others : List ℕ) → read text at bytes ≡ Ok (x, behind, others) → read (content tags.UTF8) at bytes ≡ Ok (utf8 x, behind, others)
unfolding content
utf8_read at bytes x behind others e = let make = λ (x : List ℕ). utf8 x in one_part text make at bytes (x, behind, others) e

pub utf8_stops : (at : ℕ) (bytes : List ℕ) (flaw : Flaw) → read text at bytes ≡ Err flaw → read (content tags.UTF8) at bytes ≡ Err flaw
unfolding content
utf8_stops at bytes flaw e = let make = λ (x : List ℕ). utf8 x in read_stops text (λ x. whole (make x)) at bytes flaw e

-- a tag above those of the other rows
pub last_is : (tag : ℕ) → tags.CLASS ≤ tag → tag ≢ tags.CLASS → tag ≢ tags.STRING → tag ≢ tags.FIELD → tag ≢ tags.METHOD → tag ≢ tags.INTERFACE_METHOD → tag ≢ tags.NAME_AND_TYPE → tag ≢ tags.METHOD_HANDLE → tag ≢ tags.METHOD_TYPE → content tag ≡ content tags.INVOKE_DYNAMIC
unfolding content
last_is tag high not_class not_string not_field not_method not_interface_method not_name_and_type not_method_handle not_method_type =
    let no_utf8 : eqb tag tags.UTF8 ≡ false = ne_eqb _ _ (omega arith) in
    let no_integer : eqb tag tags.INTEGER ≡ false = ne_eqb _ _ (omega arith) in
    let no_float : eqb tag tags.FLOAT ≡ false = ne_eqb _ _ (omega arith) in
    let no_long : eqb tag tags.LONG ≡ false = ne_eqb _ _ (omega arith) in
    let no_double : eqb tag tags.DOUBLE ≡ false = ne_eqb _ _ (omega arith) in
    rw (no_utf8, no_integer, no_float, no_long, no_double, ne_eqb _ _ not_class, ne_eqb _ _ not_string, ne_eqb _ _ not_field, ne_eqb _ _ not_method, ne_eqb _ _ not_interface_method, ne_eqb _ _ not_name_and_type, ne_eqb _ _ not_method_handle, ne_eqb _ _ not_method_type) refl

pub other_read : (tag at : ℕ) (bytes : List ℕ) (x : ℕ × ℕ) (behind : ℕ) (others : List ℕ) → tags.CLASS ≤ tag → tag ≢ tags.CLASS → tag ≢ tags.STRING → tag ≢ tags.FIELD → tag ≢ tags.METHOD → tag ≢ tags.INTERFACE_METHOD → tag ≢ tags.NAME_AND_TYPE → tag ≢ tags.METHOD_HANDLE → tag ≢ tags.METHOD_TYPE → read two_indices at bytes ≡ Ok (x, behind, others) → read (content tag) at bytes ≡ Ok (invoke_dynamic, behind, others)
other_read tag at bytes x behind others high not_class not_string not_field not_method not_interface_method not_name_and_type not_method_handle not_method_type e = rw (last_is tag high not_class not_string not_field not_method not_interface_method not_name_and_type not_method_handle not_method_type) (invoke_dynamic_read at bytes x behind others e)

pub other_stops : (tag at : ℕ) (bytes : List ℕ) (flaw : Flaw) → tags.CLASS ≤ tag → tag ≢ tags.CLASS → tag ≢ tags.STRING → tag ≢ tags.FIELD → tag ≢ tags.METHOD → tag ≢ tags.INTERFACE_METHOD → tag ≢ tags.NAME_AND_TYPE → tag ≢ tags.METHOD_HANDLE → tag ≢ tags.METHOD_TYPE → read two_indices at bytes ≡ Err flaw → read (content tag) at bytes ≡ Err flaw
other_stops tag at bytes flaw high not_class not_string not_field not_method not_interface_method not_name_and_type not_method_handle not_method_type e = rw (last_is tag high not_class not_string not_field not_method not_interface_method not_name_and_type not_method_handle not_method_type) (invoke_dynamic_stops at bytes flaw e)

-- a tag of an entry that refers to others
pub is_high : (tag : ℕ) → is_tag tag ≡ true → tag ≢ tags.UTF8 → tag ≢ tags.INTEGER → tag ≢ tags.FLOAT → tag ≢ tags.LONG → tag ≢ tags.DOUBLE → tags.CLASS ≤ tag
is_high tag known not_utf8 not_integer not_float not_long not_double = grind (arith, nat_tests)

pub ruleset references = (class_read, class_stops, string_read, string_stops, field_read, field_stops, method_read, method_stops, interface_method_read, interface_method_stops, name_and_type_read, name_and_type_stops, method_handle_read, method_handle_stops, method_type_read, method_type_stops, other_read, other_stops)

pub ruleset values = (utf8_read, utf8_stops, integer_read, integer_stops, float_read, float_stops, long_read, long_stops, double_read, double_stops)
