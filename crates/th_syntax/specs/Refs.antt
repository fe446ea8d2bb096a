-- Symbolic references to members (Java specification 4.4.2).
use Rattle.std.specs.Prelude.{◌&&◌, Bool}
use Rattle.std.specs.Str.{bytes_eq}
use Rattle.th_syntax.specs.declared.instr.MemberRef.{MemberRef}

-- two references name the same owner, name and descriptor
abbrev pub is_same_ref : MemberRef → MemberRef → Bool
is_same_ref a b = bytes_eq a.owner b.owner && (bytes_eq a.name b.name && bytes_eq a.descriptor b.descriptor)
