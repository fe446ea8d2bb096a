use Rattle.std.proofs.Common.{◌≡◌, ap, sym, ◌∙◌}
use Rattle.std.specs.Str.{bytes_eq}
use Rattle.th_syntax.specs.declared.class_file.ClassFile.{ClassFile}
use Rattle.th_syntax.specs.Program.{all_classes}
use Rattle.th_linker.proofs.Finding.{item_found, found_nowhere}
use Rattle.th_linker.proofs.classes.Classes.class.Goals as goal

pub returns-in-Some : goal.returns-in-Some
returns-in-Some c =
    c.at.ensures ∙ sym (item_found (λ (k : ClassFile). bytes_eq k.name c.args.name.now) c.in-Some.number (all_classes c.args.self.now) (sym c.in-Some.ensures))

pub returns-in-None : goal.returns-in-None
returns-in-None c = sym (found_nowhere (λ (k : ClassFile). bytes_eq k.name c.args.name.now) 0 (all_classes c.args.self.now) (sym c.in-None.ensures))
