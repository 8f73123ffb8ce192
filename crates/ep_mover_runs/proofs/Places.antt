-- The places and the constants of movers.
use Rattle.std.proofs.Common.{◌≡◌, ℕ, suc, ◌+◌, ◌*◌, ◌%◌, ◌^◌, ◌<◌, ◌≤◌, ℤ, pos, negsuc, Bool, true, false, ◌&&◌}
use Rattle.std.proofs.Common.{not, nat_eq, nat_lt, nat_le, if◌then◌else◌, List, [], ◌∷◌, slice_get, Option, Some, None}
use Rattle.std.proofs.Common.{Result, Ok, Err}
use Rattle.std.proofs.Common.{refl, sym, ◌∙◌, ap, subst, arith, length}
use Rattle.std.specs.Prelude.{int_le, int_lt}
use Rattle.std.specs.Option.{option_map, option_map_or}
use Rattle.std.proofs.lemmas.Bool.{and_parts, and_from, eqb-true, ltb-true, leb-true, lt-ltb, le-leb}
use Rattle.std.proofs.lemmas.Bool.{false_from_ne_true, both_ways}
use Rattle.std.proofs.lemmas.Int.{ints}
use Rattle.std.proofs.Math.Nat.{mod-eq_of_lt, mul_comm, mul-le-mul_right, mul-mod_right, zero-mod}
use Rattle.ep_int.specs.declared.types.IntType.{IntType}
use Rattle.ep_int.specs.declared.types.IntType.TheVariants.{U32}
use Rattle.ep_int.specs.declared.types.Order.{Order}
use Rattle.ep_int.specs.declared.types.Scalar.TheVariants.{Int as Number}
use Rattle.ep_int.specs.Types.{bytes_of, is_signed, residue, wrapped}
use Rattle.ep_int.specs.Arith.{is_in_range}
use Rattle.ep_int.specs.Memory.{Memory, int, pointer, Kind, bounds, Found, has, faults}
use Rattle.ep_int.proofs.Arithmetic.{le_test, in_range_from_true}
use Rattle.ep_layout.specs.declared.types.Ty.{Ty}
use Rattle.ep_layout.specs.declared.types.Ty.TheVariants.{Void, Int, Ptr, Array, Aggregate}
use Rattle.ep_layout.specs.Layout.{Layout, scalar_layout}
use Rattle.ep_layout.specs.Table.{Table, at_depth, layout_rules, size}
use Rattle.ep_core.specs.Program.{Place, block, deref, member, element, Expr, const, null_value, load, addr_of, binary}
use Rattle.ep_core.specs.Program.{convert, compare, ptr_compare, logical_and, logical_or, logical_not, conditional}
use Rattle.ep_core.specs.Program.{ptr_add, cast, Program}
use Rattle.ep_core.specs.Exec.{greatest_offset, element_at, value, address, frame_of, with_number}
use Rattle.ep_core.specs.WellFormed.{ty_at, is_array_of, has_bound, has_scalar, is_number, is_length, int_type_of}
use Rattle.ep_core.specs.WellFormed.{is_int}
use Rattle.ep_core.specs.WellFormed.{some_type, place_has, has_sort, is_well_formed}
use Rattle.ep_core.proofs.Sorts.{never, three, same_scalar, type_where}
use Rattle.ep_movers.specs.declared.Stop.{Stop}
use Rattle.ep_movers.specs.declared.Stop.TheVariants.{Foreign, Faulty}
use Rattle.ep_movers.specs.Symbols.{goes_on}
use Rattle.ep_movers.specs.Movers.{offset_of, place_of}
use Rattle.ep_movers.specs.Forms.{constant, is_moved_place, is_unsigned, is_moved_type}
use Rattle.ep_mover_runs.proofs.Operators.{below_test}
use Rattle.ep_mover_runs.proofs.Mains.{IsMover, named_moved}

-- ---- types

-- what has this scalar
pub number_type : (u : Option Ty) (t : IntType) → has_scalar u (Number t) ≡ true → u ≡ Some (Int t)
number_type (Some (Int s)) t h =
    let same : Number s ≡ Number t = same_scalar (Number s) (Number t) h in
    let types : s ≡ t = cc in
    ap (λ (k : IntType). Some (Int k)) types
number_type (Some (Ptr e)) t h = never h
number_type (Some Void) t h = never h
number_type (Some (Array e n)) t h = never h
number_type (Some (Aggregate a)) t h = never h
number_type None t h = never h

at_depth_of : (t : Table) (k n : ℕ) (i : IntType) → slice_get t.types n ≡ Some (Int i)
    → at_depth (layout_rules t.model) t (suc k) n ≡ Some (scalar_layout t.model (Number i))
unfolding at_depth
at_depth_of t k n i e = rw e refl

some_types : (ts : List Ty) (n : ℕ) (u : Ty) → slice_get ts n ≡ Some u → (k : ℕ) × (length ts ≡ suc k)
some_types [] n u e = absurd cc
some_types (x ∷ ts) n u e = (length ts, refl)

-- a number has the size of its type
pub number_size : (t : Table) (n : ℕ) (i : IntType) → slice_get t.types n ≡ Some (Int i) → size t n ≡ Some (bytes_of i)
number_size t n i e =
    let k = some_types t.types n (Int i) e in
    let more : length t.types + length t.completed ≡ suc (k.0 + length t.completed) = omega (arith, k.1) in
    ap (option_map (λ (l : Layout). l.size))
    (ap (λ d. at_depth (layout_rules t.model) t d n) more ∙ at_depth_of t (k.0 + length t.completed) n i e)

array_of : (u : Option Ty) (ty bound : ℕ) → (is_array_of u ty && has_bound u bound) ≡ true → u ≡ Some (Array ty bound)
array_of (Some (Array e n)) ty bound h =
    let s = and_parts (nat_eq e ty) (nat_eq n bound) h in
    let first : e ≡ ty = eqb-true e ty s.0 in
    let second : n ≡ bound = eqb-true n bound s.1 in
    ap (λ x. Some (Array x n)) first ∙ ap (λ x. Some (Array ty x)) second
array_of (Some (Int s)) ty bound h = never h
array_of (Some (Ptr e)) ty bound h = never h
array_of (Some Void) ty bound h = never h
array_of (Some (Aggregate a)) ty bound h = never h
array_of None ty bound h = never h

unsigned_of_not : (t : IntType) → not (is_signed t) ≡ true → is_signed t ≡ false
unsigned_of_not t h = split (is_signed t) refl h
  where
    split : (c : Bool) → is_signed t ≡ c → not c ≡ true → c ≡ false
    split true e h = never h
    split false e h = refl

-- ---- constants

module _ (o : Order) (p : Program) (m : Memory) where
  converted_constant : (t : IntType) (e : Expr) (r : Option ℤ) (c : ℤ) → constant e ≡ r
      → ((d : ℤ) → constant e ≡ Some d → value o p e m ≡ has (int d)) → option_map (wrapped t) r ≡ Some c
      → value o p (convert t e) m ≡ has (int c)
  converted_constant t e None c q later h = absurd cc
  converted_constant t e (Some d) c q later h =
      let same : wrapped t d ≡ c = cc in
      ap (λ (v : Found). with_number v (λ z. has (int (wrapped t z)))) (later d q) ∙ ap (λ z. has (int z)) same

  pub constant_value : (e : Expr) (c : ℤ) → constant e ≡ Some c → value o p e m ≡ has (int c)
  constant_value (const t v) c h = let same : v ≡ c = cc in ap (λ z. has (int z)) same
  constant_value (convert t e) c h =
      converted_constant t e (constant e) c refl (λ d q. constant_value e d q) h
  constant_value null_value c h = absurd cc
  constant_value (load what a) c h = absurd cc
  constant_value (addr_of a) c h = absurd cc
  constant_value (binary op t a b) c h = absurd cc
  constant_value (compare k t a b) c h = absurd cc
  constant_value (ptr_compare k a b) c h = absurd cc
  constant_value (logical_and a b) c h = absurd cc
  constant_value (logical_or a b) c h = absurd cc
  constant_value (logical_not e) c h = absurd cc
  constant_value (conditional e a b) c h = absurd cc
  constant_value (ptr_add e unit n back) c h = absurd cc
  constant_value (cast e) c h = absurd cc

-- ---- elements

pub in_u32 : (n : ℕ) → n < 2 ^ 32 → is_in_range U32 (pos n) ≡ true
in_u32 n l =
    and_from (int_le (pos 0) (pos n)) (int_le (pos n) (pos 4294967295)) (le_test (pos 0) (pos n) (omega (arith, ints)))
    (le_test (pos n) (pos 4294967295) (omega (arith, ints)))

pub u32_below : (n : ℕ) → is_in_range U32 (pos n) ≡ true → n < 2 ^ 32
u32_below n h = let r = (in_range_from_true U32 (pos n) h).high in omega (arith, ints, r)

pub no_u32 : (n : ℕ) → is_in_range U32 (negsuc n) ≡ true → ⊥
no_u32 n h = let r = (in_range_from_true U32 (negsuc n) h).low in omega (arith, ints, r)

-- a place of a number of so many bytes, or none
abbrev pub PlaceFollows : (bytes : ℕ) → Result (ℕ × ℕ) Stop → Found → Type 0
PlaceFollows w (Ok a) v = (v ≡ has (pointer a.0 a.1)) × (a.1 % w ≡ 0)
PlaceFollows w (Err Foreign) v = Unit {0}
PlaceFollows w (Err Faulty) v = (k : Kind) × (v ≡ faults k)

module _ (b bound unit : ℕ) (few : bound ≤ 65536) (small : unit ≤ 65536) where
  abbrev placed : ℤ → Bool → Result (ℕ × ℕ) Stop
  placed c t = goes_on (if t then Ok (unit * residue (2 ^ 32) c) else Err Faulty) (λ q. Ok (b, q))

  outside : (c : ℤ) → (int_le (pos 0) c && int_lt c (pos bound)) ≡ false
      → (k : Kind) × (element_at b 0 bound unit c ≡ faults k)
  outside c e = (bounds, rw e refl)

  -- inside
  at_element : (n : ℕ) → n < bound → element_at b 0 bound unit (pos n) ≡ has (pointer b (unit * n))
  at_element n l =
      let first : (int_le (pos 0) (pos n) && int_lt (pos n) (pos bound)) ≡ true
      = and_from (int_le (pos 0) (pos n)) (int_lt (pos n) (pos bound)) (le_test (pos 0) (pos n) (omega (arith, ints)))
      (below_test n bound l) in
      let most = mul-le-mul_right {m = n} {n = 65535} unit (omega arith) in
      let near : nat_le (0 + n * unit) greatest_offset ≡ true =
      le-leb (0 + n * unit) greatest_offset (omega (arith, most, small)) in
      let place : 0 + n * unit ≡ unit * n = let c = mul_comm n unit in omega (arith, c) in
      choose _ _ (has (pointer b (0 + n * unit))) first near ∙ ap (λ q. has (pointer b q)) place
    where
      choose : (s t : Bool) (x : Found) → s ≡ true → t ≡ true → (if s && t then x else faults bounds) ≡ x
      choose true true x e f = refl
      choose true false x e f = never f
      choose false t x e f = never e

  element_follows : (c : ℤ) → PlaceFollows unit (goes_on (offset_of bound unit (Some c)) (λ q. Ok (b, q)))
      (element_at b 0 bound unit c)
  element_follows (pos n) = split (is_in_range U32 (pos n) && nat_lt (n % 2 ^ 32) bound) refl
    where
      split : (t : Bool) → (is_in_range U32 (pos n) && nat_lt (n % 2 ^ 32) bound) ≡ t
          → PlaceFollows unit (placed (pos n) t) (element_at b 0 bound unit (pos n))
      split true e =
          let s = and_parts (is_in_range U32 (pos n)) (nat_lt (n % 2 ^ 32) bound) e in
          let same : n % 2 ^ 32 ≡ n = mod-eq_of_lt (u32_below n s.0) in
          let below : n < bound = let l = ltb-true (n % 2 ^ 32) bound s.1 in omega (arith, same, l) in (
            at_element n below ∙ ap (λ j. has (pointer b (unit * j))) (sym same),
            mul-mod_right unit (n % 2 ^ 32),
          )
      split false e =
          outside (pos n)
          (false_from_ne_true (int_le (pos 0) (pos n) && int_lt (pos n) (pos bound))
          (λ h.
          let l : n < bound
          = (let r = (and_parts (int_le (pos 0) (pos n)) (int_lt (pos n) (pos bound)) h).1 in omega (arith, ints, r)) in
          let same : n % 2 ^ 32 ≡ n = mod-eq_of_lt (omega (arith, few, l)) in
          both_ways (is_in_range U32 (pos n) && nat_lt (n % 2 ^ 32) bound) e
          (and_from (is_in_range U32 (pos n)) (nat_lt (n % 2 ^ 32) bound) (in_u32 n (omega (arith, few, l)))
          (lt-ltb (n % 2 ^ 32) bound (omega (arith, same, l))))))
  element_follows (negsuc n) =
      split (is_in_range U32 (negsuc n) && nat_lt (residue (2 ^ 32) (negsuc n)) bound) refl
    where
      split : (t : Bool) → (is_in_range U32 (negsuc n) && nat_lt (residue (2 ^ 32) (negsuc n)) bound) ≡ t
          → PlaceFollows unit (placed (negsuc n) t) (element_at b 0 bound unit (negsuc n))
      split true e =
          absurd (no_u32 n (and_parts (is_in_range U32 (negsuc n)) (nat_lt (residue (2 ^ 32) (negsuc n)) bound) e).0)
      split false e = outside (negsuc n) refl

-- ---- places

module _ (p : Program) (formed : is_well_formed p ≡ true) (g : IsMover p) where
  abbrev seen : List ℕ
  seen = frame_of g.main

  -- what is known of a place of a number
  pub record IsPlaced (o : Order) (m : Memory) (a : Place) (t : IntType) : Type 0 where
    pub at : PlaceFollows (bytes_of t) (place_of a) (address o p a m)
    pub unsigned : is_signed t ≡ false

  block_unsigned : (u : Option Ty) (t : IntType) → u ≡ Some (Int t)
      → option_map_or (is_moved_type p.types) u false ≡ true → is_signed t ≡ false
  block_unsigned u t e h =
      unsigned_of_not t (subst (λ (x : Option Ty). option_map_or (is_moved_type p.types) x false ≡ true) e h)

  element_unsigned : (u : Option Ty) (ty bound : ℕ) (t : IntType) → u ≡ Some (Array ty bound)
      → slice_get p.types.types ty ≡ Some (Int t) → option_map_or (is_moved_type p.types) u false ≡ true → is_signed t
      ≡ false
  element_unsigned u ty bound t e q h =
      unsigned_of_not t (subst (λ (x : Option Ty). option_map_or is_unsigned x false ≡ true) q
      (subst (λ (x : Option Ty). option_map_or (is_moved_type p.types) x false ≡ true) e h))

  element_of : (o : Order) (m : Memory) (b bound unit : ℕ) (i : Expr) → bound ≤ 65536 → unit ≤ 65536
      → (r : Option ℤ) → constant i ≡ r
      → PlaceFollows unit (goes_on (offset_of bound unit r) (λ q. Ok (b, q)))
      (address o p (element (block b) bound unit i) m)
  element_of o m b bound unit i few small None e = tt
  element_of o m b bound unit i few small (Some c) e =
      subst (PlaceFollows unit (goes_on (offset_of bound unit (Some c)) (λ q. Ok (b, q))))
      (sym (ap (λ (v : Found). with_number v (λ k. element_at b 0 bound unit k)) (constant_value o p m i c e)))
      (element_follows b bound unit few small c)

  length_most : (n : ℕ) → is_length n ≡ true → n ≤ 65536
  length_most n h = leb-true n 65536 (and_parts (nat_le 1 n) (nat_le n 65536) h).1

  unit_of : (t : IntType) (ty unit : ℕ) → slice_get p.types.types ty ≡ Some (Int t)
      → is_number (size p.types ty) unit ≡ true → bytes_of t ≡ unit
  unit_of t ty unit e h =
      eqb-true (bytes_of t) unit (subst (λ (x : Option ℕ). is_number x unit ≡ true) (number_size p.types ty t e) h)

  pub placed_number : (o : Order) (m : Memory) (a : Place) (t : IntType) (ty : ℕ) → is_moved_place a ≡ true
      → place_has p.types p.blocks seen a ty ≡ true → has_scalar (ty_at p.types p.blocks seen ty) (Number t) ≡ true
      → IsPlaced o m a t
  placed_number o m (block b) t ty h i j =
      let type : slice_get p.types.types ty ≡ Some (Int t) = number_type (slice_get p.types.types ty) t j in
      record {
        at = (refl, zero-mod (bytes_of t));
        unsigned = block_unsigned (slice_get p.types.types ty) t type (named_moved p formed g b ty i);
      }
  placed_number o m (element (block b) bound unit k) t ty h i j =
      let type : slice_get p.types.types ty ≡ Some (Int t) = number_type (slice_get p.types.types ty) t j in
      let s = three (is_length bound && is_length unit && is_number (size p.types ty) unit)
      (some_type p.types p.blocks seen (λ u. is_array_of u ty && has_bound u bound)
      (place_has p.types p.blocks seen (block b))) (is_int (int_type_of k) (has_sort p.types p.blocks seen k)) i in
      let q = three (is_length bound) (is_length unit) (is_number (size p.types ty) unit) s.0 in
      let of = type_where p.types p.blocks seen (λ u. is_array_of u ty && has_bound u bound)
      (place_has p.types p.blocks seen (block b)) s.1 in
      let array : slice_get p.types.types of.0 ≡ Some (Array ty bound) =
      array_of (slice_get p.types.types of.0) ty bound of.1 in
      let bytes : bytes_of t ≡ unit = unit_of t ty unit type q.2 in
      record {
        at = subst (λ w. PlaceFollows w (place_of (element (block b) bound unit k))
            (address o p (element (block b) bound unit k) m))
            (sym bytes)
            (element_of o m b bound unit k (length_most bound q.0) (length_most unit q.1) (constant k) refl);
        unsigned = element_unsigned (slice_get p.types.types of.0) ty bound t array type
            (named_moved p formed g b of.0 of.2);
      }
  placed_number o m (deref e) t ty h i j = never h
  placed_number o m (member a offset) t ty h i j = never h
  placed_number o m (element (deref e) bound unit k) t ty h i j = never h
  placed_number o m (element (member a offset) bound unit k) t ty h i j = never h
  placed_number o m (element (element a n u l) bound unit k) t ty h i j = never h
