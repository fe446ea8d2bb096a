use Rattle.std.proofs.Common.{refl, sym, ap, ◌∙◌, subst, length}
use Rattle.th_ir.specs.FactSets.{sets_of}
use Rattle.th_ir.specs.Summaries.{LeastMods, sums_of}
use Rattle.th_mod.specs.declared.effect.Part.TheVariants.{Fields, Statics, Elements, Sites}
use Rattle.th_mod.proofs.Least.{AreParts, least_summaries}
use Rattle.th_mod.specs.Told.{gathered}
use Rattle.th_mod.specs.Transitive.{AreTransitive}
use Rattle.th_mod.proofs.Parts.{ok_more}
use Rattle.th_mod.proofs.Permuted.{routes_in_range, routes_told}
use Rattle.th_mod.proofs.Transitive.{summaries_are_transitive}
use Rattle.th_mod.proofs.summary.summaries.Goals as goal

pub told-requires : goal.told-requires
told-requires c = routes_in_range c.args.hierarchy.now c.args.program.now c.args.facts.now Fields _ _ _ _ _ _ c.classes-classes.ensures.acyclic record {
  classes_are = c.classes-classes.ensures.value;
  methods_are = c.as_slice-methods.ensures;
  sets_are = refl;
  base_is = c.in_ok-base.ensures;
  copies_are = c.in_ok-copies.ensures;
} c.in_ok-routes.ensures

pub told-requires-2 : goal.told-requires-2
told-requires-2 c = routes_in_range c.args.hierarchy.now c.args.program.now c.args.facts.now Statics _ _ _ _ _ _ c.classes-classes.ensures.acyclic record {
  classes_are = c.classes-classes.ensures.value;
  methods_are = c.as_slice-methods.ensures;
  sets_are = refl;
  base_is = c.in_ok-base-2.ensures;
  copies_are = c.in_ok-copies.ensures;
} c.in_ok-routes.ensures

pub told-requires-3 : goal.told-requires-3
told-requires-3 c = routes_in_range c.args.hierarchy.now c.args.program.now c.args.facts.now Elements _ _ _ _ _ _ c.classes-classes.ensures.acyclic record {
  classes_are = c.classes-classes.ensures.value;
  methods_are = c.as_slice-methods.ensures;
  sets_are = refl;
  base_is = c.in_ok-base-3.ensures;
  copies_are = c.in_ok-copies.ensures;
} c.in_ok-routes.ensures

pub told-requires-4 : goal.told-requires-4
told-requires-4 c = routes_in_range c.args.hierarchy.now c.args.program.now c.args.facts.now Sites _ _ _ _ _ _ c.classes-classes.ensures.acyclic record {
  classes_are = c.classes-classes.ensures.value;
  methods_are = c.as_slice-methods.ensures;
  sets_are = refl;
  base_is = c.in_ok-base-4.ensures;
  copies_are = c.in_ok-copies.ensures;
} c.in_ok-routes.ensures

pub returns-clause-least : goal.returns-clause-least
returns-clause-least c = λ have.
    let h = c.args.hierarchy.now in
    let p = c.args.program.now in
    let facts = c.args.facts.now in
    let parts : AreParts h p facts c.in_ok-fields.fields.items c.in_ok-statics.statics.items c.in_ok-elements.elements.items c.in_ok-sites.sites.items = record {
      fields_told = routes_told h p facts Fields _ _ _ _ _ _ c.in_ok-fields.fields.items record {
        classes_are = c.classes-classes.ensures.value;
        methods_are = c.as_slice-methods.ensures;
        sets_are = refl;
        base_is = c.in_ok-base.ensures;
        copies_are = c.in_ok-copies.ensures;
      } c.in_ok-routes.ensures c.in_ok-fields.ensures;
      statics_told = routes_told h p facts Statics _ _ _ _ _ _ c.in_ok-statics.statics.items record {
        classes_are = c.classes-classes.ensures.value;
        methods_are = c.as_slice-methods.ensures;
        sets_are = refl;
        base_is = c.in_ok-base-2.ensures;
        copies_are = c.in_ok-copies.ensures;
      } c.in_ok-routes.ensures c.in_ok-statics.ensures;
      elements_told = routes_told h p facts Elements _ _ _ _ _ _ c.in_ok-elements.elements.items record {
        classes_are = c.classes-classes.ensures.value;
        methods_are = c.as_slice-methods.ensures;
        sets_are = refl;
        base_is = c.in_ok-base-3.ensures;
        copies_are = c.in_ok-copies.ensures;
      } c.in_ok-routes.ensures c.in_ok-elements.ensures;
      sites_told = routes_told h p facts Sites _ _ _ _ _ _ c.in_ok-sites.sites.items record {
        classes_are = c.classes-classes.ensures.value;
        methods_are = c.as_slice-methods.ensures;
        sets_are = refl;
        base_is = c.in_ok-base-4.ensures;
        copies_are = c.in_ok-copies.ensures;
      } c.in_ok-routes.ensures c.in_ok-sites.ensures;
    } in
    ok_more c.gather.result _ _
    (λ mods e. subst (λ l. LeastMods h p facts l)
    (sym (e ∙ ap (λ l. gathered (length l) (length c.as_slice-methods.result.now) c.in_ok-fields.fields.items c.in_ok-statics.statics.items c.in_ok-elements.elements.items c.in_ok-sites.sites.items) c.classes-classes.ensures.value
    ∙ ap (λ l. gathered (length h) (length l) c.in_ok-fields.fields.items c.in_ok-statics.statics.items c.in_ok-elements.elements.items c.in_ok-sites.sites.items) c.as_slice-methods.ensures))
    (least_summaries h p facts c.in_ok-fields.fields.items c.in_ok-statics.statics.items c.in_ok-elements.elements.items c.in_ok-sites.sites.items c.classes-classes.ensures.acyclic have parts))
    c.gather.ensures

pub returns-clause-transitive : goal.returns-clause-transitive
returns-clause-transitive c = λ have.
    let h = c.args.hierarchy.now in
    let p = c.args.program.now in
    let facts = c.args.facts.now in
    let parts : AreParts h p facts c.in_ok-fields.fields.items c.in_ok-statics.statics.items c.in_ok-elements.elements.items c.in_ok-sites.sites.items = record {
      fields_told = routes_told h p facts Fields _ _ _ _ _ _ c.in_ok-fields.fields.items record {
        classes_are = c.classes-classes.ensures.value;
        methods_are = c.as_slice-methods.ensures;
        sets_are = refl;
        base_is = c.in_ok-base.ensures;
        copies_are = c.in_ok-copies.ensures;
      } c.in_ok-routes.ensures c.in_ok-fields.ensures;
      statics_told = routes_told h p facts Statics _ _ _ _ _ _ c.in_ok-statics.statics.items record {
        classes_are = c.classes-classes.ensures.value;
        methods_are = c.as_slice-methods.ensures;
        sets_are = refl;
        base_is = c.in_ok-base-2.ensures;
        copies_are = c.in_ok-copies.ensures;
      } c.in_ok-routes.ensures c.in_ok-statics.ensures;
      elements_told = routes_told h p facts Elements _ _ _ _ _ _ c.in_ok-elements.elements.items record {
        classes_are = c.classes-classes.ensures.value;
        methods_are = c.as_slice-methods.ensures;
        sets_are = refl;
        base_is = c.in_ok-base-3.ensures;
        copies_are = c.in_ok-copies.ensures;
      } c.in_ok-routes.ensures c.in_ok-elements.ensures;
      sites_told = routes_told h p facts Sites _ _ _ _ _ _ c.in_ok-sites.sites.items record {
        classes_are = c.classes-classes.ensures.value;
        methods_are = c.as_slice-methods.ensures;
        sets_are = refl;
        base_is = c.in_ok-base-4.ensures;
        copies_are = c.in_ok-copies.ensures;
      } c.in_ok-routes.ensures c.in_ok-sites.ensures;
    } in
    ok_more c.gather.result _ _
    (λ mods e. subst (λ l. AreTransitive h p (sets_of facts) (sums_of l))
    (sym (e ∙ ap (λ l. gathered (length l) (length c.as_slice-methods.result.now) c.in_ok-fields.fields.items c.in_ok-statics.statics.items c.in_ok-elements.elements.items c.in_ok-sites.sites.items) c.classes-classes.ensures.value
    ∙ ap (λ l. gathered (length h) (length l) c.in_ok-fields.fields.items c.in_ok-statics.statics.items c.in_ok-elements.elements.items c.in_ok-sites.sites.items) c.as_slice-methods.ensures))
    (summaries_are_transitive h p facts c.in_ok-fields.fields.items c.in_ok-statics.statics.items c.in_ok-elements.elements.items c.in_ok-sites.sites.items c.classes-classes.ensures.acyclic have parts))
    c.gather.ensures
