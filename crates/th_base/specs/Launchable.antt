-- The classes of a program whose objects the harness launches. The built-in classes stand before the
-- others. All of it is this project's own.
use Rattle.std.specs.Prelude.{ℕ, ◌&&◌, nat_le, Bool, false, not, List, length, filter, slice_get}
use Rattle.std.specs.List.{list_any, range_with_len}
use Rattle.std.specs.Option.{option_map_or}
use Rattle.std.specs.Str.{bytes_eq}
use Rattle.th_base.specs.declared.built_in.TheConstants.{CONSTRUCTOR, BUILT_IN_COUNT, ACTIVITY_NUMBER}
use Rattle.th_base.specs.declared.handler.TheConstants.{TAKES_NOTHING}
use Rattle.th_base.specs.declared.class.ClassInfo.{ClassInfo}
use Rattle.th_base.specs.declared.class.MethodInfo.{MethodInfo}
use Rattle.th_base.specs.Hierarchy.{is_subclass}

-- the class is `android/app/Activity` or a subclass of it
abbrev pub is_activity : List ClassInfo → ℕ → Bool
is_activity classes c = is_subclass classes c ACTIVITY_NUMBER

-- a constructor without parameters that a launch can call
abbrev pub is_launch_constructor : MethodInfo → Bool
is_launch_constructor m =
    bytes_eq m.name CONSTRUCTOR.now && (bytes_eq m.descriptor TAKES_NOTHING.now && (not m.is_static && not m.is_abstract))

-- a class of which there are objects, and that declares such a constructor
abbrev pub can_be_made : ClassInfo → Bool
can_be_made k = not k.is_abstract && (not k.is_interface && list_any is_launch_constructor k.methods)

-- the harness launches objects of a class: it comes from a file, is a subclass of Activity, and can be made
abbrev pub is_launchable : List ClassInfo → ℕ → Bool
is_launchable classes c =
    nat_le BUILT_IN_COUNT c && (is_activity classes c && option_map_or can_be_made (slice_get classes c) false)

-- the launchable classes, in order
abbrev pub launchable : List ClassInfo → List ℕ
launchable classes = filter (is_launchable classes) (range_with_len 0 (length classes))
