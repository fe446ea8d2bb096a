use Rattle.th_reader.specs.RawView.{index_view}
use Rattle.th_reader.proofs.Making.{class_there_too}
use Rattle.th_reader.proofs.value.class_name.Goals as goal

pub unwrap-requires : goal.unwrap-requires
unwrap-requires c = class_there_too c.args.pool.now (index_view c.args.index) c.class_text.result c.class_text.ensures c.requires.entries c.requires.class
