-- What a statement itself does that a summary tells of.
use Rattle.std.specs.Prelude.{ℕ, Option, None, Some}
use Rattle.th_ir.specs.declared.stmt.Stmt.{Stmt}
use Rattle.th_ir.specs.declared.stmt.Stmt.TheVariants.{Nop, Const, Null, Str, Copy, Arith, Neg, AddConst, Narrow, AnyInt, Assume, GetStatic, PutStatic, GetField, PutField, GetElem, PutElem, Length, New, NewArray, Cast, InstanceOf, Call, Init, Return, Pick, NonNull, Halt}
use Rattle.th_mod.specs.declared.effect.Part.{Part}
use Rattle.th_mod.specs.declared.effect.Part.TheVariants.{Fields, Statics, Elements, Sites}
use Rattle.th_mod.specs.declared.effect.Effect.{Effect}
use Rattle.th_mod.specs.declared.effect.Effect.TheVariants.{Nothing, WritesField, WritesStatic, WritesElement, Makes, Calls, Initialises}
use Rattle.th_mod.specs.declared.effect.TheConstants.{ELEMENT}

abbrev pub effect_of : Stmt → Effect
effect_of Nop = Nothing
effect_of (Const dst k) = Nothing
effect_of (Null dst) = Nothing
effect_of (Str dst site) = Nothing
effect_of (Copy pairs) = Nothing
effect_of (Arith dst op a b) = Nothing
effect_of (Neg dst a) = Nothing
effect_of (AddConst dst a k) = Nothing
effect_of (Narrow dst op a) = Nothing
effect_of (AnyInt dst) = Nothing
effect_of (Assume condition) = Nothing
effect_of (GetStatic dst f) = Nothing
effect_of (PutStatic f src) = WritesStatic f
effect_of (GetField dst base f) = Nothing
effect_of (PutField base f src) = WritesField f
effect_of (GetElem dst array kind) = Nothing
effect_of (PutElem array src) = WritesElement
effect_of (Length dst array) = Nothing
effect_of (New dst site) = Makes site
effect_of (NewArray dst site count) = Makes site
effect_of (Cast dst src text) = Nothing
effect_of (InstanceOf dst src text) = Nothing
effect_of (Call dst kind m args) = Calls
effect_of (Init c) = Initialises c
effect_of (Return src) = Nothing
effect_of (Pick dst c) = Nothing
effect_of (NonNull src) = Nothing
effect_of Halt = Nothing

-- the number that an effect puts into a part of a summary
abbrev pub number_of : Effect → Part → Option ℕ
number_of (WritesField f) Fields = Some f.0
number_of (WritesField f) Statics = None
number_of (WritesField f) Elements = None
number_of (WritesField f) Sites = None
number_of (WritesStatic f) Fields = None
number_of (WritesStatic f) Statics = Some f.0
number_of (WritesStatic f) Elements = None
number_of (WritesStatic f) Sites = None
number_of WritesElement Fields = None
number_of WritesElement Statics = None
number_of WritesElement Elements = Some ELEMENT
number_of WritesElement Sites = None
number_of (Makes site) Fields = None
number_of (Makes site) Statics = None
number_of (Makes site) Elements = None
number_of (Makes site) Sites = Some site.0
number_of Nothing part = None
number_of Calls part = None
number_of (Initialises c) part = None
