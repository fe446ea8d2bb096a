use Rattle.th_reader.specs.RawView.{class_view}
use Rattle.th_reader.proofs.Checked.{indices_stop, names_stop, content_answers}
use Rattle.th_reader.proofs.reader.read_checked.Goals as goal

pub returns-in-Err : goal.returns-in-Err
returns-in-Err c = indices_stop (class_view c.args.class.now) c.in-Err.flaw c.requires.indices c.in-Err.ensures

pub returns-in-Err-check_names : goal.returns-in-Err-check_names
returns-in-Err-check_names c = names_stop (class_view c.args.class.now) c.in-Err-check_names.flaw c.requires.indices c.requires.names c.in-Ok.ensures c.in-Err-check_names.ensures

pub returns : goal.returns
returns c = content_answers (class_view c.args.class.now) c.read_value.result c.requires.indices c.requires.names c.requires.content c.in-Ok.ensures c.in-Ok-check_names.ensures c.read_value.ensures
