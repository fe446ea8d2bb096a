use Rattle.th_base.specs.Subtype.{named_type}
use Rattle.th_base.proofs.Orders.{type_refl, type_trans}
use Rattle.th_base.proofs.laws.subtype_is_an_order.Goals as goal

pub returns : goal.returns
returns c = record {
  reflexive = λ classes a. type_refl classes (named_type a);
  transitive = λ classes x y z acyclic top h g. type_trans classes (named_type x) (named_type y) (named_type z) acyclic top h g;
}
