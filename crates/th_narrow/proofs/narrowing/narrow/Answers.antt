use Rattle.std.proofs.Common.{◌∙◌, length, refl, ap}
use Rattle.std.proofs.lemmas.List.{with_items_is}
use Rattle.th_ir.specs.FactSets.{sets_of}
use Rattle.th_narrow.proofs.Greatest.{narrowed_with}
use Rattle.th_narrow.proofs.narrowing.narrow.Goals as goal

pub returns : goal.returns
returns c =
    let plan = c.args.plan.now in
    let new = c.narrow_symbols.new.syms in
    let made = c.from_vec.ensures ∙ with_items_is c.into_vec-syms.result new (c.narrow_symbols.auto.syms ∙ c.as_mut_slice.ensures.len) in
    let given = c.as_mut_slice.ensures.value ∙ c.into_vec-syms.ensures in
    record {
      rest = record { rest = refl; count = ap length made ∙ c.narrow_symbols.auto.syms ∙ ap length given };
      narrowed = λ numbers.
          narrowed_with plan.hierarchy plan.program (sets_of plan.facts) c.args.query c.as_slice.result.now c.as_slice-2.result.now c.as_slice-3.result.now c.as_mut_slice.result.now new c.from_vec.result
          c.as_slice.ensures c.as_slice-2.ensures (c.as_slice-3.ensures.value ∙ c.in_ok-links.ensures) given made (c.in_ok-narrow_symbols.ensures numbers);
    }
