-- What contracts see of the entries that are kept.
use Rattle.std.specs.Prelude.{ℕ, List, map, Option}
use Rattle.std.specs.Option.{option_map}
use Rattle.std.specs.Borrow.{Bor}
use Rattle.th_syntax.specs.declared.instr.MemberRef.{MemberRef}
use Rattle.th_syntax.specs.Forms as forms
use Rattle.th_syntax.specs.ClassBytes as file
use Rattle.th_pool.specs.declared.entry.Entry.{Entry}
use Rattle.th_pool.specs.declared.entry.Entry.TheVariants.{Utf8, Integer, Float, Long, Double, Class, String, Field, Method, InterfaceMethod, NameAndType, MethodHandle, MethodType, InvokeDynamic}
use Rattle.th_pool.specs.declared.entry.PlacedEntry.{PlacedEntry}

abbrev pub entry_view : Entry → file.Entry
entry_view (Utf8 bytes) = file.utf8 bytes.now
entry_view (Integer value) = file.integer value
entry_view Float = file.float
entry_view (Long value) = file.long value
entry_view Double = file.double
entry_view (Class name) = file.class name
entry_view (String text) = file.string text
entry_view (Field owner member) = file.field owner member
entry_view (Method owner member) = file.method owner member
entry_view (InterfaceMethod owner member) = file.interface_method owner member
entry_view (NameAndType name descriptor) = file.name_and_type name descriptor
entry_view MethodHandle = file.method_handle
entry_view MethodType = file.method_type
entry_view InvokeDynamic = file.invoke_dynamic

abbrev pub placed_view : PlacedEntry → forms.Placed file.Entry
placed_view e = record { at = e.at; value = entry_view e.entry }

abbrev pub slots_view : List (Option PlacedEntry) → file.Pool
slots_view slots = map (option_map placed_view) slots

-- the name and the descriptor behind references
abbrev pub names_view : Option (Bor (List ℕ) × Bor (List ℕ)) → Option (List ℕ × List ℕ)
names_view names = option_map (λ x. (x.0.now, x.1.now)) names

-- a member behind references, with the tag of its entry
abbrev pub member_view : Option (ℕ × Bor (List ℕ) × Bor (List ℕ) × Bor (List ℕ)) → Option (ℕ × MemberRef)
member_view member = option_map (λ x. (x.0, record { owner = x.1.now; name = x.2.now; descriptor = x.3.now })) member
