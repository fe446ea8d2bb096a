-- Lines and scripts that are worked out, and what they ask for.
use Rattle.std.specs.Prelude.{ℕ, true, false, List, [], ◌∷◌, ◌++◌, codes, Option, None, Some, Result, Ok, Err}
use Rattle.th_syntax.specs.declared.event.Event.{Event}
use Rattle.th_syntax.specs.declared.event.Event.TheVariants.{Launch as LaunchEvent, Handler as HandlerEvent}
use Rattle.th_syntax.specs.Machine.{class_id}
use Rattle.th_harness.specs.declared.script_error.ScriptError.{ScriptError}
use Rattle.th_harness.specs.declared.script_error.ScriptError.TheVariants.{Line, Event as BadEvent}
use Rattle.th_harness.specs.Script.{Order, launches, calls}

-- a line, and what it asks for
abbrev pub lines : List (List ℕ × Option Order)
lines =
    (codes "launch Act", Some (launches (codes "Act")))
    ∷ (codes "launch a/B", Some (launches (codes "a/B")))
    ∷ (codes "launch", None)
    ∷ (codes "launch ", None)
    ∷ (codes " launch Act", None)
    ∷ (codes "launch  Act", None)
    ∷ (codes "launch Act ", None)
    ∷ (codes "Launch Act", None)
    ∷ (codes "event 1 onCreate", Some (calls (HandlerEvent 1 0 false)))
    ∷ (codes "event 0 onStart", Some (calls (HandlerEvent 0 1 false)))
    ∷ (codes "event 00012 onRestart", Some (calls (HandlerEvent 12 2 false)))
    ∷ (codes "event 99999 onResume", Some (calls (HandlerEvent 99999 3 false)))
    ∷ (codes "event 2 onPause", Some (calls (HandlerEvent 2 4 false)))
    ∷ (codes "event 3 onStop", Some (calls (HandlerEvent 3 5 false)))
    ∷ (codes "event 4 onDestroy", Some (calls (HandlerEvent 4 6 false)))
    ∷ (codes "event 5 onSaveInstanceState", Some (calls (HandlerEvent 5 7 false)))
    ∷ (codes "event 1 onCreate bundle", Some (calls (HandlerEvent 1 0 true)))
    ∷ (codes "event 6 onSaveInstanceState bundle", Some (calls (HandlerEvent 6 7 true)))
    ∷ (codes "event 1 onStart bundle", None)
    ∷ (codes "event 1 onCreate Bundle", None)
    ∷ (codes "event 1 onCreate bundle ", None)
    ∷ (codes "event 100000 onStart", None)
    ∷ (codes "event -1 onStart", None)
    ∷ (codes "event 1a onStart", None)
    ∷ (codes "event  onStart", None)
    ∷ (codes "event 1", None)
    ∷ (codes "event", None)
    ∷ (codes "event 1 onclick", None)
    ∷ (codes "stop 1 onStart", None)
    ∷ (codes "", None)
    ∷ []

-- lines with the line feed that ends each
abbrev pub script : List (List ℕ) → List ℕ
script [] = []
script (line ∷ more) = line ++ 10 ∷ script more

-- a script for the program of one Activity, and how it is read
abbrev pub scripts : List (List ℕ × Result (List Event) ScriptError)
scripts =
    ([], Ok [])
    ∷ (codes "launch Act", Ok (LaunchEvent (class_id 11) ∷ []))
    ∷ (script (codes "launch Act" ∷ [] ∷ codes "event 1 onCreate" ∷ []), Ok (LaunchEvent (class_id 11) ∷ HandlerEvent 1 0 false ∷ []))
    ∷ (script (codes "launch Act" ∷ [] ∷ codes "launch Gone" ∷ codes "launch Act" ∷ []), Err (BadEvent 2))
    ∷ (script (codes "launch android/app/Activity" ∷ []), Err (BadEvent 1))
    ∷ (script (codes "launch Gone" ∷ [] ∷ codes "start" ∷ codes "stop" ∷ []), Err (Line 3))
    ∷ []
