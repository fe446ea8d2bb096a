-- What a refusal says.
use Rattle.th_base.specs.declared.fail.Fail.{Fail}
use Rattle.th_base.specs.declared.fail.Fail.TheVariants.{Refused, NoMemory}

-- where it is no want of memory
abbrev pub IfRefused : {R : Type 0} → Fail R → Type 0 → Type 0
IfRefused (Refused reason) P = P
IfRefused NoMemory P = Unit {0}
