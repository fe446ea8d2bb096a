-- The Activity with a constructor, by itself, is a program that was read, linked and has kinds.
use Rattle.std.proofs.Common.{◌≡◌, ℕ, zero, suc, ◌<◌, ◌&&◌, not, Bool, true, List, [], ◌∷◌, None, Some, refl, subst, arith}
use Rattle.std.specs.Prelude.{get_or, nat_lt, codes, Contains}
use Rattle.std.specs.List.{list_all}
use Rattle.std.proofs.lemmas.Bool.{ltb-true}
use Rattle.th_base.specs.Hierarchy.{direct_supertypes, StandsAbove, directly, higher, IsAcyclic}
use Rattle.th_base.specs.IdSet.{has}
use Rattle.th_base.proofs.Membership.{has-from_Contains}
use Rattle.th_syntax.specs.declared.class_file.ClassFile.{ClassFile}
use Rattle.th_syntax.specs.declared.class_file.Code.{Code}
use Rattle.th_syntax.specs.declared.class_file.Member.{Member}
use Rattle.th_syntax.specs.declared.instr.Instr.TheVariants.{ALoad, InvokeSpecial, Return}
use Rattle.th_syntax.specs.ClassGrammar.{IsClassFile}
use Rattle.th_syntax.specs.Descriptors.{field_type_of, method_type_of, method_at, types_at, type_at, element_at, name_before, base_type, result_at}
use Rattle.th_syntax.specs.Kinds.{KindsAt}
use Rattle.th_syntax.specs.KindTable.{HasKinds, conflicts_at}
use Rattle.th_syntax.specs.KindRounds.{known_at, after_rounds, offsets_of, is_closed_table}
use Rattle.th_syntax.specs.Linking.{IsLinked}
use Rattle.th_syntax.specs.Program.{hierarchy_of}
use Rattle.th_syntax.specs.WorkedFiles.{activity_bytes, activity_value}
use Rattle.th_syntax.proofs.Inverting.{both, some_is}
use Rattle.th_syntax.proofs.LeastKinds.{kinds_in_rounds}
use Rattle.th_runs.specs.Verified.{IsVerified}
use Rattle.th_runs.proofs.Closing.{all_has}

abbrev the_program : List ClassFile
the_program = activity_value ∷ []

-- ---- no class stands above itself

-- how many supertypes stand above each class, at most
abbrev rank : ℕ → ℕ
rank c = get_or (0 ∷ 2 ∷ 2 ∷ 3 ∷ 4 ∷ 3 ∷ 1 ∷ 1 ∷ 1 ∷ 1 ∷ 2 ∷ 3 ∷ []) c 0

abbrev is_lower : ℕ → ℕ → Bool
is_lower c s = nat_lt (rank s) (rank c) && nat_lt s 12

tested : (c s : ℕ) → list_all (is_lower c) (direct_supertypes (hierarchy_of the_program) c) ≡ true → has (direct_supertypes (hierarchy_of the_program) c) s ≡ true → is_lower c s ≡ true
tested c s all h = all_has (is_lower c) (direct_supertypes (hierarchy_of the_program) c) s all h

lower : (c s : ℕ) → has (direct_supertypes (hierarchy_of the_program) c) s ≡ true → is_lower c s ≡ true
lower zero s h = tested 0 s refl h
lower (suc zero) s h = tested 1 s refl h
lower (suc (suc zero)) s h = tested 2 s refl h
lower (suc (suc (suc zero))) s h = tested 3 s refl h
lower (suc (suc (suc (suc zero)))) s h = tested 4 s refl h
lower (suc (suc (suc (suc (suc zero))))) s h = tested 5 s refl h
lower (suc (suc (suc (suc (suc (suc zero)))))) s h = tested 6 s refl h
lower (suc (suc (suc (suc (suc (suc (suc zero))))))) s h = tested 7 s refl h
lower (suc (suc (suc (suc (suc (suc (suc (suc zero)))))))) s h = tested 8 s refl h
lower (suc (suc (suc (suc (suc (suc (suc (suc (suc zero))))))))) s h = tested 9 s refl h
lower (suc (suc (suc (suc (suc (suc (suc (suc (suc (suc zero)))))))))) s h = tested 10 s refl h
lower (suc (suc (suc (suc (suc (suc (suc (suc (suc (suc (suc zero))))))))))) s h = tested 11 s refl h
lower (suc (suc (suc (suc (suc (suc (suc (suc (suc (suc (suc (suc c)))))))))))) s h = absurd cc

direct_lower : (c s : ℕ) → Contains (direct_supertypes (hierarchy_of the_program) c) s → (rank s < rank c) × (s < 12)
direct_lower c s h =
    let parts = both (nat_lt (rank s) (rank c)) (nat_lt s 12) (lower c s (has-from_Contains (direct_supertypes (hierarchy_of the_program) c) s h)) in
    (ltb-true (rank s) (rank c) parts.0, ltb-true s 12 parts.1)

above_lower : (a c : ℕ) → StandsAbove (hierarchy_of the_program) a c → rank a < rank c
above_lower a _ (directly {c} h) = (direct_lower c a h).0
above_lower a _ (higher {c} {d} h more) = let one = (direct_lower c d h).0 in let two = above_lower a d more in omega arith

acyclic : IsAcyclic (hierarchy_of the_program)
acyclic = record {
  in_range = λ c s h. (direct_lower c s h).1;
  not_above_itself = λ c h. let less = above_lower c c h in omega arith;
}

-- ---- linked, with kinds

linked : IsLinked the_program
linked = record {
  ordered = record { names = refl; supertypes = refl; acyclic = acyclic };
  members = refl;
  uses = refl;
  few = refl;
}

abbrev its_code : Code
its_code = record {
  max_stack = 1;
  max_locals = 1;
  instrs = (0, ALoad 0) ∷ (1, InvokeSpecial record { owner = codes "android/app/Activity"; name = codes "<init>"; descriptor = codes "()V" }) ∷ (4, Return) ∷ [];
  handlers = 0;
}

abbrev its_method : Member
its_method = record { access = 1; name = codes "<init>"; descriptor = codes "()V"; constant = None; code = Some its_code }

closed : is_closed_table its_method its_code (known_at (after_rounds its_method its_code 1)) ≡ true
unfolding field_type_of method_type_of method_at types_at type_at element_at name_before base_type result_at
closed = refl

fits : list_all (λ o. not (conflicts_at its_method its_code (known_at (after_rounds its_method its_code 1)) o)) (0 ∷ offsets_of its_code.instrs) ≡ true
unfolding field_type_of method_type_of method_at types_at type_at element_at name_before base_type result_at
fits = refl

kinds : (code : Code) → its_method.code ≡ Some code → (t : ℕ → KindsAt) × HasKinds its_method code t
kinds code e = subst (λ (k : Code). (t : ℕ → KindsAt) × HasKinds its_method k t) (some_is its_code code e) (known_at (after_rounds its_method its_code 1), kinds_in_rounds its_method its_code 1 closed fits)

pub verified : IsClassFile activity_bytes activity_value → IsVerified (activity_value ∷ [])
verified read = record {
  read = ((activity_bytes, read), tt);
  linked = linked;
  kinds = ((kinds, tt), tt);
}
