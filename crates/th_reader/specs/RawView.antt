-- What contracts see of the items of a class file that are kept.
use Rattle.std.specs.Prelude.{ℕ, List, map, Vec}
use Rattle.std.specs.declared.alloc.Global.{Global}
use Rattle.th_syntax.specs.Forms.{Placed}
use Rattle.th_syntax.specs.ClassBytes as file
use Rattle.th_pool.specs.declared.place.Place.{Place}
use Rattle.th_reader.specs.declared.layout.Index.{Index}
use Rattle.th_reader.specs.declared.layout.Word.{Word}
use Rattle.th_reader.specs.declared.layout.RawAttribute.{RawAttribute}
use Rattle.th_reader.specs.declared.layout.RawMember.{RawMember}
use Rattle.th_reader.specs.declared.layout.RawClass.{RawClass}
use Rattle.th_reader.specs.declared.code_layout.RawCode.{RawCode}

abbrev pub index_view : Index → Placed ℕ
index_view i = record { at = i.at; value = i.value }

abbrev pub word_view : Word → Placed ℕ
word_view w = record { at = w.at; value = w.value }

-- bytes that stand at a place
abbrev pub bytes_view : Place → Placed (List ℕ)
bytes_view p = record { at = p.at; value = p.rest.now }

abbrev pub attribute_view : RawAttribute → file.Attribute
attribute_view a = record { name = index_view a.name; content = bytes_view a.content }

abbrev pub attributes_view : List RawAttribute → List file.Attribute
attributes_view attributes = map attribute_view attributes

-- numbers and attributes, as they are kept
abbrev pub indices_of : Vec Index Global → List (Placed ℕ)
indices_of v = map index_view v.items

abbrev pub attributes_of : Vec RawAttribute Global → List file.Attribute
attributes_of v = attributes_view v.items

abbrev pub member_view : RawMember → file.RawMember
member_view m = record {
  access = index_view m.access;
  name = index_view m.name;
  descriptor = index_view m.descriptor;
  attributes = attributes_of m.attributes;
}

abbrev pub members_of : Vec RawMember Global → List file.RawMember
members_of v = map member_view v.items

abbrev pub class_view : RawClass → file.RawClass
class_view c = record {
  major = c.major;
  pool = c.pool;
  access = index_view c.access;
  this_class = index_view c.this_class;
  super_class = index_view c.super_class;
  interfaces = indices_of c.interfaces;
  fields = members_of c.fields;
  methods = members_of c.methods;
  attributes = attributes_of c.attributes;
}

abbrev pub code_view : RawCode → file.RawCode
code_view c = record {
  max_stack = c.max_stack;
  max_locals = c.max_locals;
  length = word_view c.length;
  bytes = bytes_view c.bytes;
  handlers = c.handlers;
}
