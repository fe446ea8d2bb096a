-- The form of a class file, cut where its reader is cut.
use Rattle.std.specs.Prelude.{ℕ}
use Rattle.th_syntax.specs.Forms.{Form, whole, ◌>>=◌}
use Rattle.th_syntax.specs.ClassBytes.{Pool, RawClass, u2, counted, member, attribute, pool}

-- what follows the pool
abbrev pub behind_pool : ℕ → Pool → Form RawClass
behind_pool major entries = do
  access ← u2
  this_class ← u2
  super_class ← u2
  interfaces ← counted u2
  fields ← counted member
  methods ← counted member
  attributes ← counted attribute
  whole (record {
    major = major;
    pool = entries;
    access = access;
    this_class = this_class;
    super_class = super_class;
    interfaces = interfaces;
    fields = fields;
    methods = methods;
    attributes = attributes;
  })

-- what follows the version
abbrev pub behind_version : ℕ → Form RawClass
behind_version major = do
  entries ← pool
  behind_pool major entries
