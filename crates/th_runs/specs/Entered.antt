-- The classes whose code runs are no untouched ones.
use Rattle.std.specs.Prelude.{ℕ, ◌≡◌, true, List, Some, slice_get, ⊤}
use Rattle.th_syntax.specs.declared.class_file.ClassFile.{ClassFile}
use Rattle.th_syntax.specs.declared.class_file.Code.{Code}
use Rattle.th_syntax.specs.Flags.{is_interface, is_static}
use Rattle.th_syntax.specs.declared.machine.Mark.{Mark}
use Rattle.th_syntax.specs.declared.machine.Frame.{Frame}
use Rattle.th_syntax.specs.declared.machine.Frame.TheVariants.{Code as CodeFrame, Init as InitFrame, Launch as LaunchFrame}
use Rattle.th_syntax.specs.Program.{Owned, all_classes, methods_of}
use Rattle.th_syntax.specs.Kept.{IsTouched}

-- a method of an interface that has code is static: it is `<clinit>`, in each class file of the grammar
-- that is linked
abbrev pub InterfacesRunNoInstance : List ClassFile → Type 0
InterfacesRunNoInstance files =
    (method : ℕ) (o : Owned) (class : ClassFile) (code : Code) → slice_get (methods_of files) method ≡ Some o
    → slice_get (all_classes files) o.owner ≡ Some class → is_interface class ≡ true → o.member.code ≡ Some code
    → is_static o.member ≡ true

-- the class that declares the method of a code frame isn't untouched
abbrev pub IsEntered : List ClassFile → List Mark → Frame → Type 0
IsEntered files marks (CodeFrame method offset locals stack) = (o : Owned) → slice_get (methods_of files) method.0 ≡ Some o → IsTouched marks o.owner
IsEntered files marks (InitFrame class stage) = ⊤
IsEntered files marks (LaunchFrame class stage) = ⊤
