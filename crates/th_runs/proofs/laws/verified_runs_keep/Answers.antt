use Rattle.th_runs.proofs.Going.{paths_stand}
use Rattle.th_runs.proofs.laws.verified_runs_keep.Goals as goal

pub returns : goal.returns
returns c = λ lifecycle files s verified run.
    let sound = c.verified_programs_are_sound.ensures.sound files verified in
    record {
      kept = c.kept.ensures lifecycle files s run;
      instructions = c.code_frames_stand.ensures lifecycle files s (paths_stand files sound) run;
      addresses = c.addresses_lead_to_objects.ensures lifecycle files s run;
      types = λ cycle t address o follows stands. c.objects_keep_their_types.ensures cycle files s t address o follows stands;
      entered = c.running_classes_are_touched.ensures lifecycle files s verified.linked (c.verified_programs_are_sound.ensures.interfaces files verified) run;
      kinds = c.runs_keep_to_kinds.ensures lifecycle files s sound run;
    }
