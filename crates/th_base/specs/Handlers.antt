-- The handlers that the harness calls on launched objects, and the lifecycle's chart. They are this
-- project's own, after the documented lifecycle of an Activity.
use Rattle.std.specs.Prelude.{ℕ, ◌==◌, ◌&&◌, Bool, List, [], ◌∷◌, map, find, Option, Some}
use Rattle.std.specs.Option.{option_map}
use Rattle.std.specs.Str.{bytes_eq}
use Rattle.th_base.specs.declared.handler.TheConstants.{TAKES_BUNDLE, TAKES_NOTHING, HANDLERS, ON_CREATE, ON_START, ON_RESTART, ON_RESUME, ON_PAUSE, ON_STOP, ON_DESTROY, ON_SAVE_INSTANCE_STATE}
use Rattle.th_base.specs.declared.lifecycle.Lifecycle.{Lifecycle}
use Rattle.th_base.specs.declared.lifecycle.Lifecycle.TheVariants.{Any, Chart}

-- a handler, by the name and the descriptor of the method that it selects
pub record Handler : Type 0 where
  pub name : List ℕ
  pub descriptor : List ℕ

-- the handlers, in order
abbrev pub handlers : List Handler
handlers = map (λ h. record { name = h.0.now; descriptor = h.1.now }) HANDLERS

-- a handler that takes a Bundle
abbrev pub with_bundle : List ℕ → Handler
with_bundle name = record { name = name; descriptor = TAKES_BUNDLE.now }

-- a handler that takes nothing
abbrev pub without_bundle : List ℕ → Handler
without_bundle name = record { name = name; descriptor = TAKES_NOTHING.now }

abbrev pub takes_bundle : Handler → Bool
takes_bundle h = bytes_eq h.descriptor TAKES_BUNDLE.now

-- a row of the chart: the handler may be called at one stage, and leads to another
pub record ChartRow : Type 0 where
  pub handler : Handler
  pub before : ℕ
  pub after : ℕ

abbrev pub row : Handler → ℕ → ℕ → ChartRow
row handler before after = record { handler = handler; before = before; after = after }

-- the chart: created, started, resumed, paused, stopped, then restarted or destroyed
abbrev pub chart : List ChartRow
chart =
    row (with_bundle ON_CREATE.now) 0 1
    ∷ row (without_bundle ON_START.now) 1 2 ∷ row (without_bundle ON_START.now) 6 2
    ∷ row (without_bundle ON_RESUME.now) 2 3 ∷ row (without_bundle ON_RESUME.now) 4 3
    ∷ row (without_bundle ON_PAUSE.now) 3 4
    ∷ row (without_bundle ON_STOP.now) 4 5
    ∷ row (without_bundle ON_RESTART.now) 5 6
    ∷ row (without_bundle ON_DESTROY.now) 5 7
    ∷ row (with_bundle ON_SAVE_INSTANCE_STATE.now) 4 4 ∷ row (with_bundle ON_SAVE_INSTANCE_STATE.now) 5 5
    ∷ []

abbrev pub is_row_for : Handler → ℕ → ChartRow → Bool
is_row_for h stage r = bytes_eq r.handler.name h.name && (r.before == stage)

-- the stage after a handler that is called at a stage, where the lifecycle allows the call. Under
-- `Any` every call is allowed, and the stage stays.
abbrev pub stage_after : Lifecycle → Handler → ℕ → Option ℕ
stage_after Any h stage = Some stage
stage_after Chart h stage = option_map (λ r. r.after) (find (is_row_for h stage) chart)
