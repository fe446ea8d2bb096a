use Rattle.th_runs.proofs.laws.worked.frames_are_looked_at.Goals as goal

pub returns-clause-none : goal.returns-clause-none
returns-clause-none c = λ files over. tt

pub returns-clause-top : goal.returns-clause-top
returns-clause-top c = λ files m offset locals stack below. ((λ h. h), (λ h. h))

pub returns-clause-waiting : goal.returns-clause-waiting
returns-clause-waiting c = λ files called m offset locals stack below. ((λ h. h), (λ h. h))

pub returns-clause-under_initialisation : goal.returns-clause-under_initialisation
returns-clause-under_initialisation c = λ files over class stage below. ((λ h. h), (λ h. h))

pub returns-clause-under_launch : goal.returns-clause-under_launch
returns-clause-under_launch c = λ files over class stage below. ((λ h. h), (λ h. h))
