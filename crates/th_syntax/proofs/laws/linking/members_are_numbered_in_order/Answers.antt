use Rattle.th_syntax.specs.Program.{all_classes}
use Rattle.th_syntax.proofs.Numbering.{fields_numbered, methods_numbered}
use Rattle.th_syntax.proofs.laws.linking.members_are_numbered_in_order.Goals as goal

pub returns : goal.returns
returns c = record { fields = λ files. fields_numbered files 0 0 0 (all_classes files); methods = λ files. methods_numbered files 0 0 0 (all_classes files) }
