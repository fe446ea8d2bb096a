-- What every reachable state keeps, put together.
use Rattle.std.proofs.Common.{List, subst}
use Rattle.th_base.specs.declared.lifecycle.Lifecycle.{Lifecycle}
use Rattle.th_syntax.specs.declared.class_file.ClassFile.{ClassFile}
use Rattle.th_syntax.specs.Machine.{Instance, Frame, State}
use Rattle.th_syntax.specs.Run.{IsReachable}
use Rattle.th_syntax.specs.Kept.{IsKept}
use Rattle.th_syntax.proofs.Inverting.{all_at}
use Rattle.th_syntax.proofs.Origins.{explained, made, on_paths}
use Rattle.th_syntax.proofs.Keeping.{strings_kept}
use Rattle.th_syntax.proofs.Initialising.{IsOfTouched, HasInit, run_marked}
use Rattle.th_syntax.proofs.Writing.{unwritten}

pub kept : (lifecycle : Lifecycle) (files : List ClassFile) (s : State) → IsReachable lifecycle files s → IsKept files s
kept lifecycle files s run =
    let good = run_marked lifecycle files s run.0 run.1 in
    record {
      frames = on_paths lifecycle files s run;
      statics = explained lifecycle files s run;
      activities = λ address class fields. made lifecycle files s address class fields run;
      strings = λ address text. strings_kept lifecycle files s address text run;
      opening = good.opening;
      superclasses = good.above;
      objects = λ address class fields stands. all_at (IsOfTouched s.marks) s.heap address (Instance class fields) good.objects stands;
      unwritten = unwritten lifecycle files s run;
      idle = λ none c e. subst (λ (fs : List Frame). HasInit fs c) none (good.inits c e);
    }
