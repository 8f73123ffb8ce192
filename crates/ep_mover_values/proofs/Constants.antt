-- Constants of the text are single numbers, on machines and in what is known.
use Rattle.std.proofs.Common.{◌≡◌, ℕ, ℤ, Bool, true, false, ◌||◌, List, [], Option, Some, None, refl, sym, ap, ◌∙◌}
use Rattle.std.proofs.Common.{subst}
use Rattle.std.specs.Option.{option_map}
use Rattle.std.proofs.lemmas.Bool.{and_parts}
use Rattle.ep_int.specs.declared.types.IntType.{IntType}
use Rattle.ep_int.specs.declared.types.Order.{Order}
use Rattle.ep_int.specs.Types.{wrapped}
use Rattle.ep_int.specs.Arith.{is_in_range}
use Rattle.ep_int.specs.Memory.{Memory, int, has}
use Rattle.ep_int.proofs.Arithmetic.{in_range_some_type, in_range_from_true}
use Rattle.ep_int.proofs.Basics.{some-injective}
use Rattle.ep_domain.specs.Domain.{Ops, Lawful, IsSingle}
use Rattle.ep_cells.specs.declared.cell.Value.{Value}
use Rattle.ep_cells.specs.declared.cell.Value.TheVariants.{Num}
use Rattle.ep_cells.specs.States.{Known}
use Rattle.ep_core.specs.Program.{Place, Expr, const, null_value, load, addr_of, binary, convert, compare, ptr_compare}
use Rattle.ep_core.specs.Program.{logical_and, logical_or, logical_not, conditional, ptr_add, cast, Program}
use Rattle.ep_core.specs.Exec.{value, with_number}
use Rattle.ep_core.specs.Runs.{Side}
use Rattle.ep_core.specs.WellFormed.{Sort, is_integer, is_int, has_sort, int_type_of}
use Rattle.ep_core.proofs.Sorts.{int_where}
use Rattle.ep_equalities.specs.declared.pair.Mode.{Mode}
use Rattle.ep_equalities.specs.declared.pair.SideValue.{SideValue}
use Rattle.ep_evaluation.specs.Given.{Given, runs, on, pair_on}
use Rattle.ep_evaluation.specs.Operators.{number_in, constant_form}
use Rattle.ep_evaluation.specs.Evaluation.{same, convert_side, expression}
use Rattle.ep_evaluation.specs.Laws.{sizes_of}
use Rattle.ep_evaluation.proofs.General.{on_running, equal_is}
use Rattle.ep_movers.specs.Forms.{constant}

pub mapped_some : {A B : Type 0} (f : A → B) (o : Option A) (y : B) → option_map f o ≡ Some y
    → (x : A) × (o ≡ Some x) × (f x ≡ y)
mapped_some f None y e = absurd (cc)
mapped_some f (Some x) y e = (x, refl, some-injective e)

pub or_first : (a b : Bool) → a ≡ true → (a || b) ≡ true
or_first true b e = refl
or_first false b e = absurd (cc)

-- ---- on machines

module _ (o : Order) (p : Program) (m : Memory) where
  pub constant_found : (e : Expr) (v : ℤ) → constant e ≡ Some v → value o p e m ≡ has (int v)
  constant_found (const t z) v c = ap (λ z. has (int z)) (some-injective c)
  constant_found (convert t e) v c =
      let q = mapped_some (wrapped t) (constant e) v c in
      ap (λ w. with_number w (λ z. has (int (wrapped t z)))) (constant_found e q.0 q.1)
      ∙ ap (λ z. has (int z)) q.2
  constant_found null_value v c = absurd (cc)
  constant_found (load what a) v c = absurd (cc)
  constant_found (addr_of a) v c = absurd (cc)
  constant_found (binary op t a b) v c = absurd (cc)
  constant_found (compare r t a b) v c = absurd (cc)
  constant_found (ptr_compare r a b) v c = absurd (cc)
  constant_found (logical_and a b) v c = absurd (cc)
  constant_found (logical_or a b) v c = absurd (cc)
  constant_found (logical_not e) v c = absurd (cc)
  constant_found (conditional e a b) v c = absurd (cc)
  constant_found (ptr_add e unit n back) v c = absurd (cc)
  constant_found (cast e) v c = absurd (cc)

-- ---- in what is known

module _ {N : Type 0} (D : Ops N) where
  -- one number, this one
  pub record IsOne (x : SideValue N) (v : ℤ) : Type 0 where
    pub n : N
    pub value : x.value ≡ Some (Num n)
    pub single : IsSingle D n v

  pub record IsConstant (mode : Mode) (x : Given N) (v : ℤ) : Type 0 where
    pub quiet : x.faults ≡ []
    pub equal : x.pair.equal ≡ true
    pub each : (s : Side) → runs mode s ≡ true → IsOne (on x.pair s) v

  one_constant : Lawful D → (t : IntType) (v : ℤ) → is_in_range t v ≡ true
      → IsOne (record { value = Some (Num (D.single v)); form = constant_form t v }) v
  one_constant law t v h = record {
    n = D.single v;
    value = refl;
    single = law.single_range v (in_range_some_type t v (in_range_from_true t v h));
  }

  one_converted : Lawful D → (o : Option IntType) (t : IntType) (x : SideValue N) (z : ℤ) → IsOne x z
      → IsOne (convert_side D o t x) (wrapped t z)
  one_converted law o t x z i = record {
    n = D.convert i.n t;
    value = ap (λ u. option_map (λ n. Num (D.convert n t)) (number_in u)) i.value;
    single = law.convert_single i.n t z i.single;
  }

  module _ (law : Lawful D) (p : Program) (seen : List ℕ) (mode : Mode) (k : Known N) where
    abbrev gives : Expr → Given N
    gives e = (expression D (sizes_of p.blocks) e).gives mode k

    pub constant_given_is : (e : Expr) (v : ℤ) → constant e ≡ Some v → (x : Sort)
        → has_sort p.types p.blocks seen e x ≡ true → IsConstant mode (gives e) v
    constant_given_is (const t z) v c x h =
        let i = and_parts (is_integer x t) (is_in_range t z) h in
        let f : Side → SideValue N = λ s. record { value = Some (Num (D.single z)); form = constant_form t z } in
        record {
          quiet = refl;
          equal = equal_is mode f true;
          each = λ s r. subst (IsOne (on (pair_on mode f true) s)) (some-injective c)
              (subst (λ y. IsOne y z) (sym (on_running mode s f true r)) (one_constant law t z i.1));
        }
    constant_given_is (convert t e) v c x h =
        let q = mapped_some (wrapped t) (constant e) v c in
        let i = and_parts (is_integer x t) (is_int (int_type_of e) (has_sort p.types p.blocks seen e)) h in
        let w = int_where (int_type_of e) (has_sort p.types p.blocks seen e) i.1 in
        let r = constant_given_is e q.0 q.1 _ w.2 in
        let f : Side → SideValue N = λ s. convert_side D (int_type_of e) t (on (gives e).pair s) in
        record {
          quiet = r.quiet;
          equal = equal_is mode f (same D (gives e)) ∙ or_first (gives e).pair.equal _ r.equal;
          each = λ s i. subst (IsOne (on (pair_on mode f (same D (gives e))) s)) q.2
              (subst (λ y. IsOne y (wrapped t q.0)) (sym (on_running mode s f (same D (gives e)) i))
              (one_converted law (int_type_of e) t (on (gives e).pair s) q.0 (r.each s i)));
        }
    constant_given_is null_value v c x h = absurd (cc)
    constant_given_is (load what a) v c x h = absurd (cc)
    constant_given_is (addr_of a) v c x h = absurd (cc)
    constant_given_is (binary op t a b) v c x h = absurd (cc)
    constant_given_is (compare r t a b) v c x h = absurd (cc)
    constant_given_is (ptr_compare r a b) v c x h = absurd (cc)
    constant_given_is (logical_and a b) v c x h = absurd (cc)
    constant_given_is (logical_or a b) v c x h = absurd (cc)
    constant_given_is (logical_not e) v c x h = absurd (cc)
    constant_given_is (conditional e a b) v c x h = absurd (cc)
    constant_given_is (ptr_add e unit n back) v c x h = absurd (cc)
    constant_given_is (cast e) v c x h = absurd (cc)
