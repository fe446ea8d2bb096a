-- The generated classes pass the checks of class files and have room.
use Rattle.std.proofs.Common.{◌≡◌, ℕ, zero, suc, ◌≤◌, ◌%◌, true, List, [], length, refl, arith}
use Rattle.std.specs.Prelude.{codes, nat_le}
use Rattle.std.proofs.lemmas.Bool.{le-leb, leb-true}
use Rattle.th_syntax.specs.declared.instr.Instr.{Instr}
use Rattle.th_syntax.specs.Descriptors.{field_type_of, method_type_of, method_at, types_at, type_at, element_at, name_before, base_type, result_at}
use Rattle.th_syntax.specs.WellFormed.{is_class_name}
use Rattle.th_syntax.specs.Decoding.{locals_named}
use Rattle.th_gen.specs.ClassText as text
use Rattle.th_gen.specs.Passing.{name_numbers, switches_well, InstrPasses, FieldPasses, MethodPasses, Passes}
use Rattle.th_gen.specs.Generated.{activity_name, object_type, plain_constructor, vec_constructor, vec_push, vec_initialiser, vec_class, keeping_class, guarded_class, pushing_class, static_field, class_name, class_of_kind, class_numbered}
use Rattle.th_gen.specs.Worked.{abstract_method, varied_method, varied}
use Rattle.th_gen.proofs.Fitting.{class_small}

-- an instruction's checks
ready : (max : ℕ) (i : Instr) → name_numbers i ≡ [] → nat_le (locals_named i) max ≡ true → switches_well i ≡ true → InstrPasses max i
ready max i names locals keys = record { names = names; locals = leb-true (locals_named i) max locals; keys = keys }

-- ---- the vector

vec_constructor_passes : MethodPasses vec_constructor
unfolding field_type_of method_type_of method_at types_at type_at element_at name_before base_type result_at
vec_constructor_passes = record {
  access = omega arith;
  stack = omega arith;
  locals = omega arith;
  name = refl;
  type = refl;
  kind = refl;
  instrs = (
    ready 1 _ refl refl refl,
    (
      ready 1 _ refl refl refl,
      (
        ready 1 _ refl refl refl,
        (
          ready 1 _ refl refl refl,
          (
            ready 1 _ refl refl refl,
            (
              ready 1 _ refl refl refl,
              (ready 1 _ refl refl refl, (ready 1 _ refl refl refl, (ready 1 _ refl refl refl, (ready 1 _ refl refl refl, (ready 1 _ refl refl refl, (ready 1 _ refl refl refl, tt)))))),
            ),
          ),
        ),
      ),
    ),
  );
  numbers = (tt, (tt, (tt, (record { sfits = omega arith }, (tt, (tt, (record { sfits = omega arith }, (tt, (tt, (tt, (tt, (tt, tt))))))))))));
  flow = refl;
}

vec_push_passes : MethodPasses vec_push
unfolding field_type_of method_type_of method_at types_at type_at element_at name_before base_type result_at
vec_push_passes = record {
  access = omega arith;
  stack = omega arith;
  locals = omega arith;
  name = refl;
  type = refl;
  kind = refl;
  instrs = (
    ready 2 _ refl refl refl,
    (
      ready 2 _ refl refl refl,
      (
        ready 2 _ refl refl refl,
        (
          ready 2 _ refl refl refl,
          (
            ready 2 _ refl refl refl,
            (
              ready 2 _ refl refl refl,
              (ready 2 _ refl refl refl, (ready 2 _ refl refl refl, (ready 2 _ refl refl refl, (ready 2 _ refl refl refl, (ready 2 _ refl refl refl, (ready 2 _ refl refl refl, tt)))))),
            ),
          ),
        ),
      ),
    ),
  );
  numbers = (tt, (tt, (tt, (tt, (tt, (tt, (tt, (tt, (tt, (tt, (tt, (tt, tt))))))))))));
  flow = refl;
}

vec_initialiser_passes : MethodPasses vec_initialiser
unfolding field_type_of method_type_of method_at types_at type_at element_at name_before base_type result_at
vec_initialiser_passes = record {
  access = omega arith;
  stack = omega arith;
  locals = omega arith;
  name = refl;
  type = refl;
  kind = refl;
  instrs = (ready 0 _ refl refl refl, (ready 0 _ refl refl refl, (ready 0 _ refl refl refl, (ready 0 _ refl refl refl, tt))));
  numbers = (record { sfits = omega arith }, (tt, (tt, (tt, tt))));
  flow = refl;
}

pub vec_passes : Passes vec_class
unfolding field_type_of type_at element_at name_before base_type
vec_passes = record {
  name = refl;
  super_name = refl;
  fields = (record { access = omega arith; name = refl; type = refl }, (record { access = omega arith; name = refl; type = refl }, (record { access = omega arith; name = refl; type = refl }, (record { access = omega arith; name = refl; type = refl }, tt))));
  methods = (vec_constructor_passes, (vec_push_passes, (vec_initialiser_passes, tt)));
}

pub vec_fits : text.fits vec_class ≡ true
vec_fits = class_small vec_class (omega arith) refl (omega arith) (omega arith) refl

-- ---- the Activity classes

constructor_passes : MethodPasses (plain_constructor activity_name)
unfolding field_type_of method_type_of method_at types_at type_at element_at name_before base_type result_at
constructor_passes = record {
  access = omega arith;
  stack = omega arith;
  locals = omega arith;
  name = refl;
  type = refl;
  kind = refl;
  instrs = (ready 1 _ refl refl refl, (ready 1 _ refl refl refl, (ready 1 _ refl refl refl, tt)));
  numbers = (tt, (tt, (tt, tt)));
  flow = refl;
}

field_passes : FieldPasses (static_field (codes "s") object_type)
unfolding field_type_of type_at element_at name_before base_type
field_passes = record { access = omega arith; name = refl; type = refl }

number_passes : FieldPasses (static_field (codes "n") (codes "I"))
unfolding field_type_of type_at element_at name_before base_type
number_passes = record { access = omega arith; name = refl; type = refl }

module _ (name : List ℕ) (named : is_class_name name ≡ true) (short : length name ≤ 65535) where
  long_enough : nat_le (length name) 65535 ≡ true
  long_enough = le-leb (length name) 65535 short

  pub keeping_passes : Passes (keeping_class name)
  unfolding field_type_of method_type_of method_at types_at type_at element_at name_before base_type result_at
  keeping_passes = record {
    name = named;
    super_name = refl;
    fields = (field_passes, tt);
    methods = (
      constructor_passes,
      (
        record {
          access = omega arith;
          stack = omega arith;
          locals = omega arith;
          name = refl;
          type = refl;
          kind = refl;
          instrs = (ready 2 _ refl refl refl, (ready 2 _ (rw named refl) refl refl, (ready 2 _ refl refl refl, tt)));
          numbers = (tt, (tt, (tt, tt)));
          flow = refl;
        },
        tt,
      ),
    );
  }

  pub guarded_passes : Passes (guarded_class name)
  unfolding field_type_of method_type_of method_at types_at type_at element_at name_before base_type result_at
  guarded_passes = record {
    name = named;
    super_name = refl;
    fields = (field_passes, (number_passes, tt));
    methods = (
      constructor_passes,
      (
        record {
          access = omega arith;
          stack = omega arith;
          locals = omega arith;
          name = refl;
          type = refl;
          kind = refl;
          instrs = (ready 2 _ (rw named refl) refl refl, (ready 2 _ refl refl refl, (ready 2 _ (rw named refl) refl refl, (ready 2 _ refl refl refl, (ready 2 _ refl refl refl, (ready 2 _ (rw named refl) refl refl, (ready 2 _ refl refl refl, tt)))))));
          numbers = (tt, (tt, (tt, (tt, (tt, (tt, (tt, tt)))))));
          flow = refl;
        },
        tt,
      ),
    );
  }

  pub pushing_passes : Passes (pushing_class name)
  unfolding field_type_of method_type_of method_at types_at type_at element_at name_before base_type result_at
  pushing_passes = record {
    name = named;
    super_name = refl;
    fields = (field_passes, tt);
    methods = (
      constructor_passes,
      (
        record {
          access = omega arith;
          stack = omega arith;
          locals = omega arith;
          name = refl;
          type = refl;
          kind = refl;
          instrs = (ready 0 _ refl refl refl, (ready 0 _ refl refl refl, (ready 0 _ refl refl refl, (ready 0 _ (rw named refl) refl refl, (ready 0 _ refl refl refl, tt)))));
          numbers = (tt, (tt, (tt, (tt, (tt, tt)))));
          flow = refl;
        },
        (
          record {
            access = omega arith;
            stack = omega arith;
            locals = omega arith;
            name = refl;
            type = refl;
            kind = refl;
            instrs = (ready 2 _ refl refl refl, (ready 2 _ refl refl refl, (ready 2 _ refl refl refl, (ready 2 _ refl refl refl, (ready 2 _ refl refl refl, (ready 2 _ refl refl refl, tt))))));
            numbers = (tt, (tt, (tt, (tt, (tt, (tt, tt))))));
            flow = refl;
          },
          tt,
        ),
      ),
    );
  }

  pub keeping_fits : text.fits (keeping_class name) ≡ true
  keeping_fits = class_small (keeping_class name) (omega arith) (rw long_enough refl) (omega arith) (omega arith) refl

  pub guarded_fits : text.fits (guarded_class name) ≡ true
  guarded_fits = class_small (guarded_class name) (omega arith) (rw long_enough refl) (omega arith) (omega arith) refl

  pub pushing_fits : text.fits (pushing_class name) ≡ true
  pushing_fits = class_small (pushing_class name) (omega arith) (rw long_enough refl) (omega arith) (omega arith) refl

-- ---- by their numbers

kind_passes : (kind : ℕ) (name : List ℕ) → is_class_name name ≡ true → length name ≤ 65535 → Passes (class_of_kind kind name)
kind_passes zero name named short = keeping_passes name named short
kind_passes (suc zero) name named short = guarded_passes name named short
kind_passes (suc (suc kind)) name named short = pushing_passes name named short

kind_fits : (kind : ℕ) (name : List ℕ) → is_class_name name ≡ true → length name ≤ 65535 → text.fits (class_of_kind kind name) ≡ true
kind_fits zero name named short = keeping_fits name named short
kind_fits (suc zero) name named short = guarded_fits name named short
kind_fits (suc (suc kind)) name named short = pushing_fits name named short

pub numbered_passes : (number : ℕ) → is_class_name (class_name number) ≡ true → length (class_name number) ≤ 65535 → Passes (class_numbered number)
numbered_passes number named short = kind_passes (number % 3) (class_name number) named short

pub numbered_fits : (number : ℕ) → is_class_name (class_name number) ≡ true → length (class_name number) ≤ 65535 → text.fits (class_numbered number) ≡ true
numbered_fits number named short = kind_fits (number % 3) (class_name number) named short

-- ---- a class with operands of each kind

varied_method_passes : MethodPasses varied_method
unfolding field_type_of method_type_of method_at types_at type_at element_at name_before base_type result_at
varied_method_passes = record {
  access = omega arith;
  stack = omega arith;
  locals = omega arith;
  name = refl;
  type = refl;
  kind = refl;
  instrs = (ready 4 _ refl refl refl, (ready 4 _ refl refl refl, (ready 4 _ refl refl refl, (ready 4 _ refl refl refl, (ready 4 _ refl refl refl, (ready 4 _ refl refl refl, (ready 4 _ refl refl refl, (ready 4 _ refl refl refl, (ready 4 _ refl refl refl, (ready 4 _ refl refl refl, (ready 4 _ refl refl refl, (ready 4 _ refl refl refl, (ready 4 _ refl refl refl, (ready 4 _ refl refl refl, (ready 4 _ refl refl refl, (ready 4 _ refl refl refl, (ready 4 _ refl refl refl, (ready 4 _ refl refl refl, (ready 4 _ refl refl refl, (ready 4 _ refl refl refl, (ready 4 _ refl refl refl, tt)))))))))))))))))))));
  numbers = (tt, (record { sfits = omega arith }, ((record { sfits = omega arith }, (record { sfits = omega arith }, tt)), (tt, (tt, (record { sfits = omega arith }, (record { sfits = omega arith }, (record { sfits = omega arith }, (tt, (tt, (tt, (tt, (tt, (tt, (tt, (tt, (tt, (tt, (tt, (tt, (tt, tt)))))))))))))))))))));
  flow = refl;
}

abstract_method_passes : MethodPasses abstract_method
unfolding field_type_of method_type_of method_at types_at type_at element_at name_before base_type result_at
abstract_method_passes = record { access = omega arith; stack = omega arith; locals = omega arith; name = refl; type = refl; kind = refl; instrs = tt; numbers = tt; flow = refl }

pub varied_passes : Passes varied
unfolding field_type_of type_at element_at name_before base_type
varied_passes = record {
  name = refl;
  super_name = refl;
  fields = (record { access = omega arith; name = refl; type = refl }, tt);
  methods = (abstract_method_passes, (varied_method_passes, tt));
}
