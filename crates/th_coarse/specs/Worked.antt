-- A small program, and what is reported of it.
use Rattle.std.specs.Prelude.{ℕ, List, [], ◌∷◌, codes, Some}
use Rattle.th_base.specs.declared.built_in.TheConstants.{ACTIVITY, OBJECT}
use Rattle.th_syntax.specs.declared.class_file.ClassFile.{ClassFile}
use Rattle.th_syntax.specs.declared.class_file.Member.{Member}
use Rattle.th_syntax.specs.declared.instr.Instr.TheVariants.{ALoad, PutStatic, Return, New}
use Rattle.th_syntax.specs.WorkedLinking.{class_with, member_with, ref_of, returning}
use Rattle.th_coarse.specs.declared.judged.Judged.{Judged}
use Rattle.th_coarse.specs.declared.judged.Mark.{Mark}
use Rattle.th_coarse.specs.declared.judged.Mark.TheVariants.{Filtered, Survives}

-- Stores into a field of its class, into one of the superinterface, into one of type int and into one that
-- isn't static, and names an abstract Activity and a class that is no Activity. What stands behind its
-- return isn't reached.
abbrev pub storing_code : Member
storing_code = record (member_with 1 (codes "onCreate") (codes "(Landroid/os/Bundle;)V")) {
  code = Some record {
    max_stack = 1;
    max_locals = 2;
    instrs =
        (0, ALoad 0)
        ∷ (1, PutStatic (ref_of (codes "Act") (codes "kept") (codes "LAct;")))
        ∷ (4, PutStatic (ref_of (codes "Act") (codes "shared") (codes "[LAct;")))
        ∷ (7, PutStatic (ref_of (codes "Act") (codes "count") (codes "I")))
        ∷ (10, PutStatic (ref_of (codes "Act") (codes "own") (codes "LAct;")))
        ∷ (13, New (codes "Base"))
        ∷ (16, New (codes "Other"))
        ∷ (19, Return)
        ∷ (20, PutStatic (ref_of (codes "Act") (codes "lost") (codes "LAct;")))
        ∷ (23, New (codes "Never"))
        ∷ (26, Return)
        ∷ [];
    handlers = 2;
  };
}

-- An Activity that can be launched; the interface that it implements, which has a field of its own; an
-- abstract Activity; an Activity whose constructor has a parameter; and a class that is no Activity.
abbrev pub small_files : List ClassFile
small_files =
    class_with 33 (codes "Act") (Some ACTIVITY.now) (codes "Shared" ∷ []) (
    member_with 8 (codes "kept") (codes "LAct;") ∷ member_with 8 (codes "count") (codes "I") ∷ member_with 8 (codes "lost") (codes "LAct;")
    ∷ member_with 0 (codes "own") (codes "LAct;") ∷ []) (returning 1 (codes "<init>") (codes "()V") ∷ storing_code ∷ [])
    ∷ class_with 1537 (codes "Shared") (Some OBJECT.now) [] (member_with 25 (codes "shared") (codes "[LAct;") ∷ []) []
    ∷ class_with 1057 (codes "Base") (Some ACTIVITY.now) [] [] (returning 1 (codes "<init>") (codes "()V") ∷ [])
    ∷ class_with 33 (codes "Never") (Some ACTIVITY.now) [] [] (returning 1 (codes "<init>") (codes "(I)V") ∷ [])
    ∷ class_with 33 (codes "Other") (Some OBJECT.now) [] [] (returning 1 (codes "<init>") (codes "()V") ∷ [])
    ∷ []

abbrev pub judged_as : Mark → ℕ → ℕ → Judged
judged_as mark field class = record { field = record { 0 = field }; class = record { 0 = class }; mark = mark }

-- one alarm of each mark, and one of numbers that the program hasn't
abbrev pub judged_alarms : List Judged
judged_alarms = judged_as Filtered 0 11 ∷ judged_as Survives 4 13 ∷ judged_as Filtered 99 99 ∷ []
