use Rattle.std.proofs.Common.{◌≡◌}
use Rattle.th_base.specs.IdSet.{IsAscending}
use Rattle.th_base.proofs.Ascending.{IsAscending-union_of}
use Rattle.th_base.proofs.id_set.IdSet.insert_apart.Goals as goal

pub invariant_of-self-2 : goal.invariant_of-self-2
invariant_of-self-2 c =
    let set : c.make_tight_room.new.items.items ≡ c.args.self.now = cc in
    let ascending : IsAscending c.args.self.now = rw (← c.self.view_is) c.self.invariant in
    rw (c.merge_into.ensures, set) (IsAscending-union_of c.args.self.now c.ids.result.now ascending)
