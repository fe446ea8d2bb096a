use Rattle.std.proofs.Common.{sym, ◌∙◌, subst}
use Rattle.th_linear.specs.declared.division.NormalForm.{NormalForm}
use Rattle.th_linear.specs.Normal.{IsNormal}
use Rattle.th_linear.proofs.Normals.{only_normal, is_normal}
use Rattle.th_linear.proofs.laws.one_normal_form.Goals as goal

pub returns-clause-exact : goal.returns-clause-exact
returns-clause-exact c = λ f n h.
    ((λ k. only_normal f n h k), (λ e. subst (λ (m : NormalForm). IsNormal f m) (sym e) (is_normal f h)))

pub returns-clause-determined : goal.returns-clause-determined
returns-clause-determined c = λ f m n h j k. only_normal f m h j ∙ sym (only_normal f n h k)
