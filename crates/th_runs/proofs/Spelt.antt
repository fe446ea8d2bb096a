-- The instructions that the bytes of code spell name members by descriptors of the profile, and `new` a class.
use Rattle.std.proofs.Common.{◌≡◌, ℕ, ◌+◌, ◌-◌, ◌==◌, ◌&&◌, Bool, true, false, if◌then◌else◌, List, [], ◌∷◌, ◌++◌, Option, None, Some, refl, subst}
use Rattle.std.specs.Prelude.{⊤, nat_le, nat_lt, length, take, drop, Result, Ok, Err}
use Rattle.std.specs.List.{AllByRecursion}
use Rattle.th_syntax.specs.declared.cause.TheConstants as cause
use Rattle.th_syntax.specs.declared.tag.TheConstants as tag
use Rattle.th_syntax.specs.declared.instr.Instr.{Instr}
use Rattle.th_syntax.specs.declared.instr.Instr.TheVariants.{GetStatic, PutStatic, GetField, PutField, InvokeVirtual, InvokeSpecial, InvokeInterface, InvokeStatic, New, ANewArray, CheckCast, InstanceOf}
use Rattle.th_syntax.specs.declared.instr.MemberRef.{MemberRef}
use Rattle.th_syntax.specs.declared.refusal.Flaw.{Flaw}
use Rattle.th_syntax.specs.Forms.{Form, whole, item, wrong, ◌>>=◌, Found, read}
use Rattle.th_syntax.specs.ClassBytes.{Entry, integer, float, long, double, string, number, u1, u2, u4, demand, times, Pool}
use Rattle.th_syntax.specs.PoolChecks.{entry_of, utf8_of, class_of}
use Rattle.th_syntax.specs.Descriptors.{field_type_of, method_type_of}
use Rattle.th_syntax.specs.Flaws.{unless}
use Rattle.th_syntax.specs.WellFormed.{is_field_name, is_method_name}
use Rattle.th_syntax.specs.CodeBytes.{Spelled, instr, flawed, checked, type_numbers, method_type_numbers, class_name_numbers, class_or_array_numbers, field_numbers, is_callable, method_numbers, given, loaded, load, loaded_wide, load_wide, member_among, access, call, of_classes, of_interfaces, of_either, of_class, element_of, padding, i4, count_between, table_switch, match_pair, lookup_switch, keys_ascend, Row, among, constant_rows, variable_rows, arithmetic_rows, control_rows, interface_call, object_rows, wide_rows, wide_row, rows, instruction}
use Rattle.th_syntax.specs.Decoding.{AreSpelled, none, more}
use Rattle.th_syntax.proofs.Inverting.{all_append}
use Rattle.th_syntax.proofs.Reading.{stands_read}
use Rattle.th_runs.proofs.Above.{nil_left, nil_right}

-- ---- all values that bytes of a form may stand for

pub ok_is : {A : Type 0} (x y : A) → (let r : Result A Flaw = Ok x in r) ≡ Ok y → x ≡ y
ok_is x y e = cc

module _ {A : Type 0} (P : A → Type 0) where
  unfoldable Yields : Form A → Type 0
  Yields (whole x) = P x
  Yields (item n next) = (at : ℕ) (bytes : List ℕ) → Yields (next at bytes)
  Yields (wrong place number) = ⊤

  yields_any : {B : Type 0} (f : Form B) (g : B → Form A) → ((x : B) → Yields (g x)) → Yields (f >>= g)
  unfolding ◌>>=◌ Yields
  yields_any (whole x) g all = all x
  yields_any (item n next) g all = λ at bytes. yields_any (next at bytes) g all
  yields_any (wrong place number) g all = tt

  read_by : (n at : ℕ) (bytes : List ℕ) (b : Bool) (flaw : Flaw) (longer : Result (Found A) Flaw) (found : Found A) → (if b then Err flaw else longer) ≡ Ok found → longer ≡ Ok found
  read_by n at bytes true flaw longer found e = absurd cc
  read_by n at bytes false flaw longer found e = e

  yields_read : (f : Form A) (at : ℕ) (bytes : List ℕ) (found : Found A) → Yields f → read f at bytes ≡ Ok found → P found.0
  unfolding read Yields
  yields_read (whole x) at bytes found all e = subst (λ (r : Found A). P r.0) (let same : (x, at, bytes) ≡ found = ok_is (x, at, bytes) found e in same) all
  yields_read (item n next) at bytes found all e =
      yields_read (next at (take n bytes)) (at + n) (drop n bytes) found (all at (take n bytes)) (read_by n at bytes (nat_lt (length bytes) n) _ _ found e)
  yields_read (wrong place number) at bytes found all e = absurd cc

-- ---- instructions that name what they may

-- the checks that names and descriptors of an instruction pass
abbrev pub IsWellNamed : Instr → Type 0
IsWellNamed (GetStatic r) = type_numbers (field_type_of r.descriptor) ≡ []
IsWellNamed (PutStatic r) = type_numbers (field_type_of r.descriptor) ≡ []
IsWellNamed (GetField r) = type_numbers (field_type_of r.descriptor) ≡ []
IsWellNamed (PutField r) = type_numbers (field_type_of r.descriptor) ≡ []
IsWellNamed (InvokeVirtual r) = method_type_numbers (method_type_of r.descriptor) ≡ []
IsWellNamed (InvokeSpecial r) = method_type_numbers (method_type_of r.descriptor) ≡ []
IsWellNamed (InvokeInterface r) = method_type_numbers (method_type_of r.descriptor) ≡ []
IsWellNamed (InvokeStatic r) = method_type_numbers (method_type_of r.descriptor) ≡ []
IsWellNamed (New name) = class_name_numbers name ≡ []
IsWellNamed other = ⊤

abbrev IsFine : Spelled → Type 0
IsFine (instr i) = IsWellNamed i
IsFine (flawed number numbers) = ⊤

abbrev Fine : Form Spelled → Type 0
Fine form = Yields IsFine form

abbrev AreFine : List Row → Type 0
AreFine rs = AllByRecursion (λ (r : Row). (k pc : ℕ) → Fine (r.operands k pc)) rs

-- ---- operands

checked_fine : (i : Instr) (numbers : List ℕ) → (numbers ≡ [] → IsWellNamed i) → Fine (checked i numbers)
unfolding Yields
checked_fine i [] fine = fine refl
checked_fine i (number ∷ numbers) fine = tt

given_fine : {A : Type 0} (number : ℕ) (o : Option A) (make : A → Form Spelled) → ((x : A) → o ≡ Some x → Fine (make x)) → Fine (given number o make)
unfolding Yields
given_fine number None make fine = tt
given_fine number (Some x) make fine = fine x refl

loaded_fine : (pool : Pool) (e : Entry) → Fine (loaded pool e)
unfolding Yields
loaded_fine pool (integer value) = tt
loaded_fine pool (string text) = given_fine cause.OPCODE (utf8_of pool text) _ (λ bytes is. tt)
loaded_fine pool float = tt
loaded_fine pool other = tt

load_fine : (pool : Pool) (index : ℕ) → Fine (load pool index)
load_fine pool index = given_fine cause.OPCODE (entry_of pool index) (loaded pool) (λ e is. loaded_fine pool e)

loaded_wide_fine : (e : Entry) → Fine (loaded_wide e)
unfolding Yields
loaded_wide_fine (long value) = tt
loaded_wide_fine double = tt
loaded_wide_fine other = tt

load_wide_fine : (pool : Pool) (index : ℕ) → Fine (load_wide pool index)
load_wide_fine pool index = given_fine cause.OPCODE (entry_of pool index) loaded_wide (λ e is. loaded_wide_fine e)

access_fine : (pool : Pool) (make : MemberRef → Instr) → ((f : MemberRef) → type_numbers (field_type_of f.descriptor) ≡ [] → IsWellNamed (make f)) → Fine (access pool make)
access_fine pool make fine =
    yields_any IsFine u2 _ (λ index. given_fine cause.CODE_SHAPE (member_among pool (tag.FIELD ∷ []) index.value) _ (λ f is. checked_fine (make f) (field_numbers f)
    (λ e. fine f (nil_right (unless (is_field_name f.name) cause.NAME) (type_numbers (field_type_of f.descriptor)) (nil_right (class_name_numbers f.owner) _ e)))))

call_fine : (pool : Pool) (tags : List ℕ) (special : Bool) (make : MemberRef → Instr) (index : ℕ) (numbers : List ℕ) → ((m : MemberRef) → method_type_numbers (method_type_of m.descriptor) ≡ [] → IsWellNamed (make m)) → Fine (call pool tags special make index numbers)
call_fine pool tags special make index numbers fine =
    given_fine cause.CODE_SHAPE (member_among pool tags index) _ (λ m is. checked_fine (make m) (method_numbers special m ++ numbers)
    (λ e. fine m (nil_left (method_type_numbers (method_type_of m.descriptor)) (unless (is_callable special m.name) cause.CODE_SHAPE)
    (nil_right (unless (is_method_name m.name) cause.NAME) _ (nil_right (class_or_array_numbers m.owner) _ (nil_left (method_numbers special m) numbers e))))))

interface_fine : (pool : Pool) → Fine (interface_call pool)
interface_fine pool =
    yields_any IsFine u2 _ (λ index. yields_any IsFine u1 _ (λ count. yields_any IsFine u1 _ (λ zero_byte. call_fine pool of_interfaces false InvokeInterface index.value (unless (zero_byte.value == 0) cause.CODE_SHAPE) (λ m e. e))))

class_fine : (pool : Pool) (numbers : List ℕ → List ℕ) (make : List ℕ → Instr) → ((name : List ℕ) → numbers name ≡ [] → IsWellNamed (make name)) → Fine (of_class pool numbers make)
class_fine pool numbers make fine = yields_any IsFine u2 _ (λ index. given_fine cause.CODE_SHAPE (class_of pool index.value) _ (λ name is. checked_fine (make name) (numbers name) (fine name)))

table_fine : (pc : ℕ) → Fine (table_switch pc)
unfolding Yields
table_fine pc =
    yields_any IsFine (padding pc) _ (λ skipped. yields_any IsFine i4 _ (λ other. yields_any IsFine i4 _ (λ low. yields_any IsFine i4 _ (λ high.
    yields_any IsFine (demand _ pc cause.CODE_SHAPE) _ (λ ordered. yields_any IsFine (times (count_between low high) i4) _ (λ targets. tt))))))

lookup_fine : (pc : ℕ) → Fine (lookup_switch pc)
unfolding Yields
lookup_fine pc =
    yields_any IsFine (padding pc) _ (λ skipped. yields_any IsFine i4 _ (λ other. yields_any IsFine u4 _ (λ count.
    yields_any IsFine (demand _ pc cause.CODE_SHAPE) _ (λ natural. yields_any IsFine (times count.value match_pair) _ (λ pairs. checked_fine _ (unless (keys_ascend pairs) cause.CODE_SHAPE) (λ e. tt))))))

among_by : (one : Row) (k pc : ℕ) (b : Bool) (others : Form Spelled) → Fine (one.operands k pc) → Fine others → Fine (if b then one.operands k pc else others)
among_by one k pc true others here rest = here
among_by one k pc false others here rest = rest

among_fine : (rs : List Row) (code pc at : ℕ) → AreFine rs → Fine (among rs code pc at)
unfolding Yields
among_fine [] code pc at all = tt
among_fine (one ∷ rs) code pc at all = among_by one (code - one.first) pc (nat_le one.first code && nat_le code one.last) (among rs code pc at) (all.0 (code - one.first) pc) (among_fine rs code pc at all.1)

-- ---- the rows

constant_rows_fine : (pool : Pool) → AreFine (constant_rows pool)
unfolding Yields
constant_rows_fine pool = (
  λ k pc. tt,
  (
    λ k pc. tt,
    (
      λ k pc. tt,
      (
        λ k pc. tt,
        (
          λ k pc. yields_any IsFine u1 _ (λ value. tt),
          (
            λ k pc. yields_any IsFine u2 _ (λ value. tt),
            (
              λ k pc. yields_any IsFine u1 _ (λ index. load_fine pool index.value),
              (
                λ k pc. yields_any IsFine u2 _ (λ index. load_fine pool index.value),
                (
                  λ k pc. yields_any IsFine u2 _ (λ index. load_wide_fine pool index.value),
                  tt,
                ),
              ),
            ),
          ),
        ),
      ),
    ),
  ),
)

variable_rows_fine : AreFine variable_rows
unfolding Yields
variable_rows_fine = (
  λ k pc. yields_any IsFine u1 _ (λ index. tt),
  (
    λ k pc. yields_any IsFine u1 _ (λ index. tt),
    (
      λ k pc. yields_any IsFine u1 _ (λ index. tt),
      (
        λ k pc. tt,
        (
          λ k pc. tt,
          (
            λ k pc. tt,
            (
              λ k pc. tt,
              (
                λ k pc. tt,
                (
                  λ k pc. tt,
                  (
                    λ k pc. tt,
                    (
                      λ k pc. tt,
                      (
                        λ k pc. tt,
                        (
                          λ k pc. yields_any IsFine u1 _ (λ index. tt),
                          (
                            λ k pc. yields_any IsFine u1 _ (λ index. tt),
                            (
                              λ k pc. yields_any IsFine u1 _ (λ index. tt),
                              (
                                λ k pc. tt,
                                (
                                  λ k pc. tt,
                                  (
                                    λ k pc. tt,
                                    (
                                      λ k pc. tt,
                                      (
                                        λ k pc. tt,
                                        (
                                          λ k pc. tt,
                                          (
                                            λ k pc. tt,
                                            (
                                              λ k pc. tt,
                                              (
                                                λ k pc. tt,
                                                tt,
                                              ),
                                            ),
                                          ),
                                        ),
                                      ),
                                    ),
                                  ),
                                ),
                              ),
                            ),
                          ),
                        ),
                      ),
                    ),
                  ),
                ),
              ),
            ),
          ),
        ),
      ),
    ),
  ),
)

arithmetic_rows_fine : AreFine arithmetic_rows
unfolding Yields
arithmetic_rows_fine = (
  λ k pc. tt,
  (
    λ k pc. tt,
    (
      λ k pc. tt,
      (
        λ k pc. tt,
        (
          λ k pc. tt,
          (
            λ k pc. tt,
            (
              λ k pc. tt,
              (
                λ k pc. tt,
                (
                  λ k pc. tt,
                  (
                    λ k pc. tt,
                    (
                      λ k pc. tt,
                      (
                        λ k pc. tt,
                        (
                          λ k pc. tt,
                          (
                            λ k pc. tt,
                            (
                              λ k pc. tt,
                              (
                                λ k pc. tt,
                                (
                                  λ k pc. tt,
                                  (
                                    λ k pc. tt,
                                    (
                                      λ k pc. tt,
                                      (
                                        λ k pc. tt,
                                        (
                                          λ k pc. tt,
                                          (
                                            λ k pc. tt,
                                            (
                                              λ k pc. tt,
                                              (
                                                λ k pc. tt,
                                                (
                                                  λ k pc. tt,
                                                  (
                                                    λ k pc. tt,
                                                    (
                                                      λ k pc. tt,
                                                      (
                                                        λ k pc. tt,
                                                        (
                                                          λ k pc. tt,
                                                          (
                                                            λ k pc. tt,
                                                            (
                                                              λ k pc. tt,
                                                              (
                                                                λ k pc. tt,
                                                                (
                                                                  λ k pc. tt,
                                                                  (
                                                                    λ k pc. yields_any IsFine u1 _ (λ index. yields_any IsFine u1 _ (λ by. tt)),
                                                                    (
                                                                      λ k pc. tt,
                                                                      (
                                                                        λ k pc. tt,
                                                                        (
                                                                          λ k pc. tt,
                                                                          (
                                                                            λ k pc. tt,
                                                                            (
                                                                              λ k pc. tt,
                                                                              (
                                                                                λ k pc. tt,
                                                                                tt,
                                                                              ),
                                                                            ),
                                                                          ),
                                                                        ),
                                                                      ),
                                                                    ),
                                                                  ),
                                                                ),
                                                              ),
                                                            ),
                                                          ),
                                                        ),
                                                      ),
                                                    ),
                                                  ),
                                                ),
                                              ),
                                            ),
                                          ),
                                        ),
                                      ),
                                    ),
                                  ),
                                ),
                              ),
                            ),
                          ),
                        ),
                      ),
                    ),
                  ),
                ),
              ),
            ),
          ),
        ),
      ),
    ),
  ),
)

control_rows_fine : AreFine control_rows
unfolding Yields
control_rows_fine = (
  λ k pc. yields_any IsFine u2 _ (λ by. tt),
  (
    λ k pc. yields_any IsFine u2 _ (λ by. tt),
    (
      λ k pc. yields_any IsFine u2 _ (λ by. tt),
      (
        λ k pc. yields_any IsFine u2 _ (λ by. tt),
        (
          λ k pc. yields_any IsFine u2 _ (λ by. tt),
          (
            λ k pc. yields_any IsFine u2 _ (λ by. tt),
            (
              λ k pc. yields_any IsFine u2 _ (λ by. tt),
              (
                λ k pc. yields_any IsFine u2 _ (λ by. tt),
                (
                  λ k pc. yields_any IsFine u2 _ (λ by. tt),
                  (
                    λ k pc. yields_any IsFine u2 _ (λ by. tt),
                    (
                      λ k pc. yields_any IsFine u2 _ (λ by. tt),
                      (
                        λ k pc. yields_any IsFine u2 _ (λ by. tt),
                        (
                          λ k pc. yields_any IsFine u2 _ (λ by. tt),
                          (
                            λ k pc. yields_any IsFine u2 _ (λ by. tt),
                            (
                              λ k pc. yields_any IsFine u2 _ (λ by. tt),
                              (
                                λ k pc. table_fine pc,
                                (
                                  λ k pc. lookup_fine pc,
                                  (
                                    λ k pc. tt,
                                    (
                                      λ k pc. tt,
                                      (
                                        λ k pc. tt,
                                        (
                                          λ k pc. tt,
                                          (
                                            λ k pc. yields_any IsFine u2 _ (λ by. tt),
                                            (
                                              λ k pc. yields_any IsFine u2 _ (λ by. tt),
                                              (
                                                λ k pc. yields_any IsFine u4 _ (λ by. tt),
                                                tt,
                                              ),
                                            ),
                                          ),
                                        ),
                                      ),
                                    ),
                                  ),
                                ),
                              ),
                            ),
                          ),
                        ),
                      ),
                    ),
                  ),
                ),
              ),
            ),
          ),
        ),
      ),
    ),
  ),
)

object_rows_fine : (pool : Pool) → AreFine (object_rows pool)
unfolding Yields
object_rows_fine pool = (
  λ k pc. access_fine pool GetStatic (λ f e. e),
  (
    λ k pc. access_fine pool PutStatic (λ f e. e),
    (
      λ k pc. access_fine pool GetField (λ f e. e),
      (
        λ k pc. access_fine pool PutField (λ f e. e),
        (
          λ k pc. yields_any IsFine u2 _ (λ index. call_fine pool of_classes false InvokeVirtual index.value [] (λ m e. e)),
          (
            λ k pc. yields_any IsFine u2 _ (λ index. call_fine pool of_either true InvokeSpecial index.value [] (λ m e. e)),
            (
              λ k pc. yields_any IsFine u2 _ (λ index. call_fine pool of_either false InvokeStatic index.value [] (λ m e. e)),
              (
                λ k pc. interface_fine pool,
                (
                  λ k pc. class_fine pool class_name_numbers New (λ name e. e),
                  (
                    λ k pc. yields_any IsFine u1 _ (λ code. given_fine cause.CODE_SHAPE (element_of code.value) _ (λ element is. tt)),
                    (
                      λ k pc. class_fine pool class_or_array_numbers ANewArray (λ name e. tt),
                      (
                        λ k pc. tt,
                        (
                          λ k pc. tt,
                          (
                            λ k pc. class_fine pool class_or_array_numbers CheckCast (λ name e. tt),
                            (
                              λ k pc. class_fine pool class_or_array_numbers InstanceOf (λ name e. tt),
                              (
                                λ k pc. tt,
                                (
                                  λ k pc. tt,
                                  tt,
                                ),
                              ),
                            ),
                          ),
                        ),
                      ),
                    ),
                  ),
                ),
              ),
            ),
          ),
        ),
      ),
    ),
  ),
)

wide_rows_fine : AreFine wide_rows
unfolding Yields
wide_rows_fine = (
  λ k pc. yields_any IsFine u2 _ (λ index. tt),
  (
    λ k pc. yields_any IsFine u2 _ (λ index. tt),
    (
      λ k pc. yields_any IsFine u2 _ (λ index. tt),
      (
        λ k pc. yields_any IsFine u2 _ (λ index. tt),
        (
          λ k pc. yields_any IsFine u2 _ (λ index. tt),
          (
            λ k pc. yields_any IsFine u2 _ (λ index. tt),
            (
              λ k pc. yields_any IsFine u2 _ (λ index. yields_any IsFine u2 _ (λ by. tt)),
              tt,
            ),
          ),
        ),
      ),
    ),
  ),
)

wide_fine : (k pc : ℕ) → Fine (wide_row.operands k pc)
wide_fine k pc = yields_any IsFine u1 _ (λ code. among_fine wide_rows code.value pc pc wide_rows_fine)

joined : (rs others : List Row) → AreFine rs → AreFine others → AreFine (rs ++ others)
joined rs others all too = all_append (λ (r : Row). (k pc : ℕ) → Fine (r.operands k pc)) rs others all too

all_rows_fine : (pool : Pool) → AreFine (rows pool)
all_rows_fine pool =
    let last : List Row = object_rows pool ++ wide_row ∷ [] in
    let control : List Row = control_rows ++ last in
    let arithmetic : List Row = arithmetic_rows ++ control in
    joined (constant_rows pool) (variable_rows ++ arithmetic) (constant_rows_fine pool)
    (joined variable_rows arithmetic variable_rows_fine
    (joined arithmetic_rows control arithmetic_rows_fine
    (joined control_rows last control_rows_fine
    (joined (object_rows pool) (wide_row ∷ []) (object_rows_fine pool) (wide_fine, tt)))))

instruction_fine : (pool : Pool) → Fine (instruction pool)
unfolding instruction
instruction_fine pool = yields_any IsFine u1 _ (λ code. among_fine (rows pool) code.value code.at code.at (all_rows_fine pool))

-- ---- the instructions of code

pub spelled_fine : (pool : Pool) (pc : ℕ) (bytes : List ℕ) (instrs : List (ℕ × Instr)) → AreSpelled pool pc bytes instrs → AllByRecursion (λ (i : ℕ × Instr). IsWellNamed i.1) instrs
spelled_fine pool pc bytes _ none = tt
spelled_fine pool pc bytes _ (more i behind others rest stands later) =
    (yields_read IsFine (instruction pool) pc bytes (instr i, behind, others) (instruction_fine pool) (stands_read (instruction pool) pc bytes (instr i) behind others stands), spelled_fine pool behind others rest later)
