-- The built-in classes and the lifecycle in plain lists, and a small program with launchable classes.
use Rattle.std.specs.Prelude.{ℕ, Bool, true, false, List, [], ◌∷◌, ◌++◌, map, codes, Option, Some, slice_get}
use Rattle.std.specs.List.{range_with_len}
use Rattle.std.specs.Option.{option_map_or}
use Rattle.th_base.specs.declared.class.ClassInfo.{ClassInfo}
use Rattle.th_base.specs.declared.class.MethodInfo.{MethodInfo}
use Rattle.th_base.specs.declared.lifecycle.Lifecycle.TheVariants.{Chart}
use Rattle.th_base.specs.Hierarchy.{direct_supertypes}
use Rattle.th_base.specs.BuiltIn.{built_in_classes, built_in_class, built_in_method, constructor_info}
use Rattle.th_base.specs.Handlers.{handlers, stage_after}

-- the names of the direct supertypes of each built-in class
abbrev pub supertype_names : List (List (List ℕ))
supertype_names =
    map (λ c. map (λ s. option_map_or (λ k. k.name) (slice_get built_in_classes s) []) (direct_supertypes built_in_classes c)) (range_with_len 0 11)

-- the number, the name and the descriptor of each method of the built-in classes
abbrev pub method_rows : List (List (ℕ × List ℕ × List ℕ))
method_rows = map (λ k. map (λ m. (m.id.0, m.name, m.descriptor)) k.methods) built_in_classes

-- for each stage from 0 to 7 the stage after each handler under the chart
abbrev pub stage_table : List (List (Option ℕ))
stage_table = map (λ stage. map (λ h. stage_after Chart h stage) handlers) (range_with_len 0 8)

-- a class named by a letter, a subclass of the class of this number
abbrev pub sample_class : List ℕ → Bool → ℕ → List MethodInfo → ClassInfo
sample_class name is_abstract super methods = built_in_class name is_abstract (Some super) [] methods

-- classes 11 to 19 of a program: two Activities, one by way of the other; one that is abstract; an
-- interface; one without a constructor; one whose constructor is static, and one whose is abstract;
-- one with another constructor and another method; and a class that is no Activity
abbrev pub sample_classes : List ClassInfo
sample_classes =
    built_in_classes
    ++ (sample_class (codes "A") false 10 (constructor_info 17 ∷ [])
    ∷ sample_class (codes "B") false 11 (constructor_info 18 ∷ [])
    ∷ sample_class (codes "C") true 10 (constructor_info 19 ∷ [])
    ∷ record (sample_class (codes "D") false 10 (constructor_info 20 ∷ [])) { is_interface = true }
    ∷ sample_class (codes "E") false 10 []
    ∷ sample_class (codes "F") false 10 (record (constructor_info 21) { is_static = true } ∷ [])
    ∷ sample_class (codes "G") false 10 (record (constructor_info 22) { is_abstract = true } ∷ [])
    ∷ sample_class (codes "H") false 10 (built_in_method 23 (codes "<init>") (codes "(I)V") ∷ built_in_method 24 (codes "onStart") (codes "()V") ∷ [])
    ∷ sample_class (codes "I") false 0 (constructor_info 25 ∷ [])
    ∷ [])
