use Rattle.std.proofs.Common.{◌≡◌, ◌+◌, ◌≤◌, ℕ, length}
use Rattle.th_incl.specs.Least.{set_at}
use Rattle.th_mod.specs.Told.{gathered}
use Rattle.th_mod.proofs.summary.gather.Given as goal

abbrev pub invariant-loop-method : goal.invariant-loop-method
invariant-loop-method l = record {
  mods : l.mods ≡ gathered l.first l.method l.fn.parts.fields.items l.fn.parts.statics.items l.fn.parts.elements.items l.fn.parts.sites.items;
  fields : (k : ℕ) → l.first + l.method ≤ k → set_at l.parts.fields.items k ≡ set_at l.fn.parts.fields.items k;
  statics : (k : ℕ) → l.first + l.method ≤ k → set_at l.parts.statics.items k ≡ set_at l.fn.parts.statics.items k;
  elements : l.parts.elements.items ≡ l.fn.parts.elements.items;
  sites : (k : ℕ) → l.first + l.method ≤ k → set_at l.parts.sites.items k ≡ set_at l.fn.parts.sites.items k;
  fields_len : length l.parts.fields.items ≡ length l.fn.parts.fields.items;
  statics_len : length l.parts.statics.items ≡ length l.fn.parts.statics.items;
  sites_len : length l.parts.sites.items ≡ length l.fn.parts.sites.items;
}
