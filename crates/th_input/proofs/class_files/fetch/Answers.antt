use Rattle.th_input.proofs.Reading.{held_where_short, unread_where_long}
use Rattle.th_input.proofs.class_files.fetch.Goals as goal

pub returns-in-Ok-clause-held : goal.returns-in-Ok-clause-held
returns-in-Ok-clause-held g c = held_where_short c.short.result _ c.args.name.now c.in-Ok.bytes.items c.short.ensures.whole c.short.ensures.short c.in-Ok.ensures.front c.in-Ok.ensures.there

pub returns-in-Ok-clause-unread : goal.returns-in-Ok-clause-unread
returns-in-Ok-clause-unread g c = unread_where_long c.short.result _ c.args.name.now c.in-Ok.bytes.items (rw c.in_ok-named.ensures at c.short.ensures.long) c.in-Ok.ensures.front c.in-Ok.ensures.there
