-- The condition of linking.
use Rattle.std.specs.Prelude.{◌≤◌, List, length}
use Rattle.std.specs.List.{All}
use Rattle.th_syntax.specs.declared.class_file.ClassFile.{ClassFile}
use Rattle.th_linker.specs.declared.linkable.TheConstants.{MOST_FILES, MOST_MEMBERS}

-- a class has at most as many fields, and as many methods, as the counts of its file can say
-- (Java specification 4.1)
pub record HasFewMembers (c : ClassFile) : Type 0 where
  pub fields : length c.fields ≤ MOST_MEMBERS
  pub methods : length c.methods ≤ MOST_MEMBERS

-- the class files are not too many, and neither are their members
pub record CanLink (files : List ClassFile) : Type 0 where
  pub few : length files ≤ MOST_FILES
  pub members : All HasFewMembers files
