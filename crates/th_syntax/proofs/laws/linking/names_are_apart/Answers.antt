use Rattle.th_syntax.proofs.NamesApart.{own_number}
use Rattle.th_syntax.proofs.laws.linking.names_are_apart.Goals as goal

pub returns : goal.returns
returns c files n class linked stands = own_number files n class linked stands
