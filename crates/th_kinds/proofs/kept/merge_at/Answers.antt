use Rattle.std.proofs.Common.{◌∙◌, ap, arith}
use Rattle.std.proofs.lemmas.List.{set-get_or}
use Rattle.th_kinds.specs.States.{seen_state}
use Rattle.th_kinds.specs.Kept.{seen_kept, kept_places}
use Rattle.th_kinds.proofs.MergedKept.{merged_some, merged_none, same_some, room_set, places_set}
use Rattle.th_kinds.proofs.kept.merge_at.Goals as goal

pub returns-in-None-clause-merged : goal.returns-in-None-clause-merged
returns-in-None-clause-merged c =
    ap seen_kept (set-get_or c.args.kept.now c.args.place c.index-kept-place.result)
    ∙ merged_none c.args.kept.now c.args.place (seen_state c.args.brought.now) c.index-kept-place.result c.requires c.in-None.is

pub returns-in_ok-merge-in-Some-clause-merged : goal.returns-in_ok-merge-in-Some-clause-merged
returns-in_ok-merge-in-Some-clause-merged c =
    merged_some c.args.kept.now c.args.place c.in-Some.known c.merge.new.known (seen_state c.args.brought.now) c.index-kept-place.result c.requires c.in-Some.is c.in_ok-merge-in-Some.ensures.merged

pub returns-in_ok-merge-in-Some-clause-same : goal.returns-in_ok-merge-in-Some-clause-same
returns-in_ok-merge-in-Some-clause-same c e =
    same_some c.args.kept.now c.args.place c.in-Some.known c.merge.new.known c.index-kept-place.result c.requires c.in-Some.is (c.in_ok-merge-in-Some.ensures.same e)

pub returns-in_ok-merge-in-Some-clause-less : goal.returns-in_ok-merge-in-Some-clause-less
returns-in_ok-merge-in-Some-clause-less c e =
    let room = room_set c.args.kept.now c.args.place c.in-Some.known c.merge.new.known c.index-kept-place.result c.requires c.in-Some.is in
    let less = c.in_ok-merge-in-Some.ensures.less e in omega arith

pub returns-in_ok-merge-in-Some-clause-most : goal.returns-in_ok-merge-in-Some-clause-most
returns-in_ok-merge-in-Some-clause-most c =
    let room = room_set c.args.kept.now c.args.place c.in-Some.known c.merge.new.known c.index-kept-place.result c.requires c.in-Some.is in
    let most = c.in_ok-merge-in-Some.ensures.most in omega arith

pub returns-in_ok-merge-in-Some-clause-places : goal.returns-in_ok-merge-in-Some-clause-places
returns-in_ok-merge-in-Some-clause-places c =
    places_set c.args.kept.now c.args.place c.in-Some.known c.merge.new.known c.index-kept-place.result c.requires c.in-Some.is

pub returns-in-None-clause-places : goal.returns-in-None-clause-places
returns-in-None-clause-places c = ap kept_places (set-get_or c.args.kept.now c.args.place c.index-kept-place.result)
