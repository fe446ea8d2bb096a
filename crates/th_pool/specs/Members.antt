-- The members that entries of a pool lead to, by their texts.
use Rattle.std.specs.Prelude.{ℕ, List, Option}
use Rattle.std.specs.Option.{option_map}
use Rattle.std.specs.Borrow.{Bor}
use Rattle.th_syntax.specs.declared.instr.MemberRef.{MemberRef}
use Rattle.th_pool.specs.declared.lookup.PoolMember.{PoolMember}

-- a member by its texts, with the tag of its entry
abbrev pub texts_member : Option PoolMember → Option (ℕ × MemberRef)
texts_member member = option_map (λ m. (m.tag, record { owner = m.owner.now; name = m.name.now; descriptor = m.descriptor.now })) member

-- a name and a descriptor
abbrev pub texts_names : Option (Bor (List ℕ) × Bor (List ℕ)) → Option (List ℕ × List ℕ)
texts_names names = option_map (λ x. (x.0.now, x.1.now)) names
