-- What is kept of the texts of a pool.
use Rattle.std.specs.Prelude.{◌≡◌, ℕ, ◌==◌, List, [], ◌∷◌, map, Bool, false, Option, Some, None}
use Rattle.std.specs.List.{list_any}
use Rattle.std.specs.Option.{option_map, option_and_then}
use Rattle.std.specs.Str.{byte}
use Rattle.th_syntax.specs.declared.cause.TheConstants as cause
use Rattle.th_syntax.specs.Forms.{Placed}
use Rattle.th_syntax.specs.ClassBytes.{Entry, Pool}
use Rattle.th_syntax.specs.PoolChecks.{utf8_in}
use Rattle.th_syntax.specs.WellFormed.{is_class_name, is_field_name, is_method_name}
use Rattle.th_syntax.specs.Descriptors.{field_type_of, method_type_of}
use Rattle.th_syntax.specs.CodeBytes.{type_numbers, method_type_numbers}
use Rattle.th_pool.specs.declared.pool_text.TextFacts.{TextFacts}
use Rattle.th_pool.specs.declared.shape.DescriptorFault.{DescriptorFault}
use Rattle.th_pool.specs.declared.shape.DescriptorFault.TheVariants.{Form, FloatType}

-- the numbers of the checks that a descriptor with this fault fails
abbrev pub fault_numbers : Option DescriptorFault → List ℕ
fault_numbers None = []
fault_numbers (Some Form) = cause.NAME ∷ []
fault_numbers (Some FloatType) = cause.FLOAT_TYPE ∷ []

-- whether bytes begin with this one
abbrev pub has_front : ℕ → List ℕ → Bool
has_front front [] = false
has_front front (b ∷ bytes) = b == front

-- what is kept of a text is so
pub record AreFacts (text : List ℕ) (facts : TextFacts) : Type 0 where
  pub class_name : facts.class_name ≡ is_class_name text
  pub field_name : facts.field_name ≡ is_field_name text
  pub method_name : facts.method_name ≡ is_method_name text
  pub angled : facts.angled ≡ list_any (λ b. b == byte "<") text
  pub field_fault : fault_numbers facts.field_fault ≡ type_numbers (field_type_of text)
  pub method_fault : fault_numbers facts.method_fault ≡ method_type_numbers (method_type_of text)

-- the text of a Utf8 entry
abbrev pub slot_text : Option (Placed Entry) → Option (List ℕ)
slot_text slot = option_and_then utf8_in (option_map (λ e. e.value) slot)

-- the texts of a pool, each where its entry stands
abbrev pub texts_in : Pool → List (Option (List ℕ))
texts_in pool = map slot_text pool
