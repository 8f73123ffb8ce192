-- What a straight value comes to: both machines find one number, which is the only one known, or 1; or each is
-- undefined.
use Rattle.std.proofs.Common.{◌≡◌, ℕ, true, ◌&&◌, List, refl, sym, ap, subst, Option, option_map, slice_get, inl}
use Rattle.std.proofs.lemmas.Bool.{and_parts}
use Rattle.ep_int.specs.declared.types.IntType.{IntType}
use Rattle.ep_int.specs.declared.types.Order.{Order}
use Rattle.ep_int.specs.declared.types.Scalar.{Scalar}
use Rattle.ep_int.specs.declared.types.Scalar.TheVariants.{Int, Pointer}
use Rattle.ep_int.specs.Types.{InRange, wrapped}
use Rattle.ep_int.specs.Arith.{is_in_range}
use Rattle.ep_int.specs.Memory.{Memory, int, Found, has}
use Rattle.ep_int.proofs.Arithmetic.{in_range_some_type, in_range_from_true}
use Rattle.ep_int.proofs.Wrapping.{wrapped_in_range}
use Rattle.ep_domain.specs.Domain.{Ops, Lawful}
use Rattle.ep_cells.specs.declared.cell.Value.TheVariants.{Num}
use Rattle.ep_cells.specs.States.{Known, AreCells}
use Rattle.ep_core.specs.Program.{Place, block, deref, member, element, Expr, const, null_value, load, addr_of}
use Rattle.ep_core.specs.Program.{binary, convert, compare, ptr_compare, logical_and, logical_or, logical_not}
use Rattle.ep_core.specs.Program.{conditional, ptr_add, cast, Program}
use Rattle.ep_core.specs.Exec.{with_number, value}
use Rattle.ep_core.specs.Runs.{Side, left, right}
use Rattle.ep_core.specs.WellFormed.{integer, has_scalar, is_sort, sort_of, ty_at, is_integer, is_int, int_type_of}
use Rattle.ep_core.specs.WellFormed.{is_named, block_has, place_has, has_sort, holds_scalar, is_well_formed}
use Rattle.ep_core.proofs.Sorts.{same_type, loaded_scalar, int_where, type_where}
use Rattle.ep_equalities.specs.declared.pair.Mode.TheVariants.{Both}
use Rattle.ep_evaluation.specs.Given.{Given}
use Rattle.ep_evaluation.specs.Operators.{number_in}
use Rattle.ep_evaluation.specs.Evaluation.{convert_given}
use Rattle.ep_transfers.specs.Transfers.{gives}
use Rattle.ep_straight_laws.specs.Straight.{is_variable, is_straight_value}
use Rattle.ep_straight_laws.proofs.Loads.{Is, Comes, nothing, found, IsVariable, load_comes, convert_is}

scalar_type : (t u : IntType) → Int t ≡ Int u → t ≡ u
scalar_type t u e = cc

module _ {N : Type 0} (D : Ops N) (law : Lawful D) (p : Program) (formed : is_well_formed p ≡ true) (seen : List ℕ)
    (ord : Side → Order) where
  -- each variable that can be named
  abbrev pub AreVariables : Known N → Memory → Memory → Type 0
  AreVariables k x y = (b : ℕ) (t : IntType) → holds_scalar p.types p.blocks (b, Int t) ≡ true
      → is_named p.types p.blocks seen b ≡ true → IsVariable D ord k x y b t

  -- a place that is a variable, of this type
  pub data IsWhole : Scalar → Place → IntType → Type 0 where
    is_whole : (b : ℕ) (t : IntType) → holds_scalar p.types p.blocks (b, Int t) ≡ true
        → is_named p.types p.blocks seen b ≡ true → IsWhole (Int t) (block b) t

  pub variable_at : (w : Scalar) (a : Place) (t : IntType) (ty : ℕ) → is_variable p w a ≡ true → w ≡ Int t
      → place_has p.types p.blocks seen a ty ≡ true → IsWhole w a t
  variable_at (Int u) (block b) t ty h e q =
      let named = (and_parts (is_named p.types p.blocks seen b) (block_has p.types p.blocks seen
      (slice_get p.blocks b) ty) q).0 in
      subst (λ z. IsWhole (Int u) (block b) z) (scalar_type u t e) (is_whole b u h named)
  variable_at (Int u) (deref d) t ty h e q = absurd (cc)
  variable_at (Int u) (member a o) t ty h e q = absurd (cc)
  variable_at (Int u) (element a n m i) t ty h e q = absurd (cc)
  variable_at Pointer a t ty h e q = absurd (cc)

  module _ (k : Known N) (cells : AreCells k.model k.cells) (told : k.model ≡ p.types.model) (x y : Memory)
      (vars : AreVariables k x y) where
    load_at : (w : Scalar) (a : Place) (t : IntType) → IsWhole w a t
        → Comes D t (gives D p (load w a) Both k) (value (ord left) p (load w a) x) (value (ord right) p (load w a) y)
    load_at _ _ _ (is_whole b t h n) = load_comes D law p formed b t h k cells told ord x y (vars b t h n)

    converted_comes : (own : Option IntType) (t u : IntType) (g : Given N) (v w : Found) → Comes D u g v w
        → Comes D t (convert_given D own t Both g) (with_number v (λ z. has (int (wrapped t z))))
        (with_number w (λ z. has (int (wrapped t z))))
    converted_comes own t u g v w (nothing i j n e f) =
        nothing i j n (ap (λ r. with_number r (λ z. has (int (wrapped t z)))) e)
        (ap (λ r. with_number r (λ z. has (int (wrapped t z)))) f)
    converted_comes own t u g v w (found a b z n same l r e f ranged i j) =
        found (D.convert a t) (D.convert b t) (wrapped t z) n (rw same refl)
        (ap (λ o. option_map (λ n. Num (D.convert n t)) (number_in o)) l)
        (ap (λ o. option_map (λ n. Num (D.convert n t)) (number_in o)) r)
        (ap (λ r. with_number r (λ z. has (int (wrapped t z)))) e)
        (ap (λ r. with_number r (λ z. has (int (wrapped t z)))) f) (wrapped_in_range t z)
        (convert_is D law a t z i) (convert_is D law b t z j)

    pub value_comes : (e : Expr) (t : IntType) → is_straight_value p e ≡ true
        → has_sort p.types p.blocks seen e (integer t) ≡ true
        → Comes D t (gives D p e Both k) (value (ord left) p e x) (value (ord right) p e y)
    value_comes (const u v) t g h =
        let a = and_parts (is_integer (integer t) u) (is_in_range u v) h in
        let same : t ≡ u = same_type t u a.0 in
        let ranged : InRange u v = in_range_from_true u v a.1 in
        let some = in_range_some_type u v ranged in
        let is : Is D (D.single v) v
        = record { held = law.single_holds v some; exact = inl (law.single_range v some) } in
        found (D.single v) (D.single v) v refl refl refl refl refl refl (subst (λ z. InRange z v)
        (sym same) ranged) is is
    value_comes null_value t g h = absurd (cc)
    value_comes (load w a) t g h =
        let q = type_where p.types p.blocks seen (λ u. has_scalar u w && is_sort (sort_of u) (integer t))
        (place_has p.types p.blocks seen a) h in
        load_at w a t (variable_at w a t q.0 g (loaded_scalar (ty_at p.types p.blocks seen q.0) w
        (integer t) q.1) q.2)
    value_comes (addr_of a) t g h = absurd (cc)
    value_comes (binary op u a b) t g h = absurd (cc)
    value_comes (convert u e) t g h =
        let a = and_parts (is_integer (integer t) u) (is_int (int_type_of e) (has_sort p.types p.blocks seen e)) h in
        let same : t ≡ u = same_type t u a.0 in
        let i = int_where (int_type_of e) (has_sort p.types p.blocks seen e) a.1 in
        subst (λ z. Comes D z (gives D p (convert u e) Both k) (value (ord left) p (convert u e) x)
        (value (ord right) p (convert u e) y)) (sym same)
        (converted_comes (int_type_of e) u i.0 (gives D p e Both k) (value (ord left) p e x) (value (ord right) p e y)
        (value_comes e i.0 g i.2))
    value_comes (compare c u a b) t g h = absurd (cc)
    value_comes (ptr_compare c a b) t g h = absurd (cc)
    value_comes (logical_and a b) t g h = absurd (cc)
    value_comes (logical_or a b) t g h = absurd (cc)
    value_comes (logical_not e) t g h = absurd (cc)
    value_comes (conditional e a b) t g h = absurd (cc)
    value_comes (ptr_add e unit n back) t g h = absurd (cc)
    value_comes (cast e) t g h = absurd (cc)
