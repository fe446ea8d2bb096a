use Rattle.th_kinds.proofs.ClassFlows.{flows_in, class_flows, built_in_flow}
use Rattle.th_kinds.proofs.laws.class_files_flow_well.Goals as goal

pub returns : goal.returns
returns c = record {
  read = λ bytes class m code is there coded. flows_in class.methods (class_flows bytes class is) m there code coded;
  built_in = λ class m code is there coded. flows_in class.methods (built_in_flow class is) m there code coded;
}
