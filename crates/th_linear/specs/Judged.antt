-- What a sum of two inequalities says by itself.
use Rattle.std.specs.Prelude.{Option, Some, None}
use Rattle.th_linear.specs.Forms.{Form}
use Rattle.th_linear.specs.Divided.{normal_of}
use Rattle.th_linear.specs.declared.division.NormalForm.{NormalForm}
use Rattle.th_linear.specs.declared.division.NormalForm.TheVariants as normal
use Rattle.th_linear.specs.declared.mixture.Judgement.{Judgement}
use Rattle.th_linear.specs.declared.mixture.Judgement.TheVariants.{TooLarge, False, Possible}

-- what a fact says once it is divided
abbrev pub judged_as : NormalForm → Judgement
judged_as normal.True = Possible
judged_as normal.False = False
judged_as (normal.Fact r) = Possible

-- what a sum says, if there is one
abbrev pub judgement_of : Option Form → Judgement
judgement_of None = TooLarge
judgement_of (Some f) = judged_as (normal_of f)
