use Rattle.std.proofs.Common.{◌∙◌, sym, ap}
use Rattle.th_narrow.proofs.Making.{is_references, is_ref_array_by}
use Rattle.th_narrow.proofs.table.is_ref_array.Goals as goal

pub returns-in-References : goal.returns-in-References
returns-in-References c = sym (is_ref_array_by c.args.plan.now c.args.table.now c.args.site c.made_at.result c.requires c.made_at.ensures ∙ ap is_references c.in-References.is)

pub returns-in-Object : goal.returns-in-Object
returns-in-Object c = sym (is_ref_array_by c.args.plan.now c.args.table.now c.args.site c.made_at.result c.requires c.made_at.ensures ∙ ap is_references c.in-Object.is)

pub returns-in-Numbers : goal.returns-in-Numbers
returns-in-Numbers c = sym (is_ref_array_by c.args.plan.now c.args.table.now c.args.site c.made_at.result c.requires c.made_at.ensures ∙ ap is_references c.in-Numbers.is)

pub returns-in-Nothing : goal.returns-in-Nothing
returns-in-Nothing c = sym (is_ref_array_by c.args.plan.now c.args.table.now c.args.site c.made_at.result c.requires c.made_at.ensures ∙ ap is_references c.in-Nothing.is)
