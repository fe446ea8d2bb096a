use Rattle.std.proofs.Common.{◌∷◌, [], refl, sym, ap, ◌∙◌, Some, None, if◌then◌else◌, Option, Bool, subst}
use Rattle.th_syntax.specs.declared.machine.Frame.TheVariants.{Launch as LaunchFrame}
use Rattle.th_syntax.specs.declared.machine.LaunchStage.TheVariants.{OpenClass}
use Rattle.th_syntax.specs.declared.machine.State.{State}
use Rattle.th_syntax.specs.Machine.{with_frames}
use Rattle.th_machine.specs.declared.happening.Happening.{Happening}
use Rattle.th_machine.specs.declared.happening.Came.TheVariants.{Made}
use Rattle.th_machine.specs.Happening.{IsLed}
use Rattle.th_machine.proofs.Happened.{led_nothing, led_quiet, launch_held}
use Rattle.th_machine.proofs.happening.launch.Goals as goal

pub returns-in_ok-begun : goal.returns-in_ok-begun
returns-in_ok-begun c =
    let files = c.args.resolved.now in
    let t : State = with_frames c.args.state (LaunchFrame c.args.class OpenClass ∷ []) in
    let h : Happening = record { state = c.in_ok-begun.begun; held = c.args.held; came = Made } in
    let led : IsLed files c.args.state (Some t) h =
    led_quiet files c.args.state t h c.args.held c.requires.held (launch_held files c.args.state c.args.class c.args.held c.requires.idle c.requires.held) refl c.in_ok-begun.ensures refl in
    subst (λ (o : Option State). IsLed files c.args.state o h) (ap (λ (b : Bool). if b then Some t else None) (sym c.if-launches.true ∙ c.launches.ensures)) led

pub returns-else-launches : goal.returns-else-launches
returns-else-launches c =
    let files = c.args.resolved.now in
    let t : State = with_frames c.args.state (LaunchFrame c.args.class OpenClass ∷ []) in
    let led : IsLed files c.args.state None c.nothing.result =
    led_nothing files c.args.state c.nothing.result c.args.held c.requires.held c.nothing.ensures.came c.nothing.ensures.state c.nothing.ensures.held in
    subst (λ (o : Option State). IsLed files c.args.state o c.nothing.result) (ap (λ (b : Bool). if b then Some t else None) (sym c.if-launches.false ∙ c.launches.ensures)) led
