-- What is refused at an instruction.
use Rattle.std.specs.Prelude.{List, map}
use Rattle.th_syntax.specs.declared.refusal.Refusal.{Refusal}
use Rattle.th_syntax.specs.LinkChecks.{Fault, refusal_of}
use Rattle.th_linker.specs.declared.site.Site.{Site}

-- the class is refused for each fault at the instruction
abbrev pub refusals_at : Site → List Fault → List Refusal
refusals_at site faults = map (λ f. refusal_of f.number site.class.now f.member site.offset) faults
