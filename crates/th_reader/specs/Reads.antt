-- What a reader of items answers is what stands at a place by a form.
use Rattle.std.specs.Prelude.{Result}
use Rattle.th_base.specs.declared.fail.Fail.{Fail}
use Rattle.th_syntax.specs.declared.refusal.Flaw.{Flaw}
use Rattle.th_syntax.specs.Forms.{Form, Found, read}
use Rattle.th_pool.specs.declared.place.Place.{Place}
use Rattle.th_pool.specs.Gives.{Answers}

-- what was read, seen by `view`, and the place behind it
abbrev pub found : {X A : Type 0} → (X → A) → X × Place → Found A
found view x = (view x.0, x.1.at, x.1.rest.now)

-- the answer is what reading the form at the place gives, or memory ran out
abbrev pub Reads : {X A : Type 0} → (X → A) → Result (X × Place) (Fail Flaw) → Form A → Place → Type 0
Reads view result form place = Answers (found view) result (read form place.at place.rest.now)
