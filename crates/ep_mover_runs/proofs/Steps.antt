-- Each statement of a mover, by its form.
use Rattle.std.proofs.Common.{◌≡◌, ℕ, suc, ◌+◌, ◌*◌, ◌%◌, ◌^◌, ◌<◌, ◌≤◌, ℤ, pos, negsuc, ◌+ℤ◌, ◌*ℤ◌, neg_ℤ, Bool, true}
use Rattle.std.proofs.Common.{false, ◌&&◌, not, nat_eq, nat_le, if◌then◌else◌, List, [], ◌∷◌, ◌++◌, length, slice_get}
use Rattle.std.proofs.Common.{Option, Some, None, Result}
use Rattle.std.proofs.Common.{Ok, Err, ⊎_elim, refl, sym, ◌∙◌, ap, subst, arith}
use Rattle.std.specs.Prelude.{int_le, is_some}
use Rattle.std.specs.Option.{option_map_or}
use Rattle.std.proofs.lemmas.Bool.{and_parts, and_from, and_left, eqb-true, leb-true, le-leb, false_from_ne_true}
use Rattle.std.proofs.lemmas.Bool.{both_ways, not-true, cases_lt}
use Rattle.std.proofs.lemmas.Int.{ints}
use Rattle.std.proofs.Math.Nat.{mod-eq_of_lt, mul_comm, mul-le-mul_right}
use Rattle.ep_int.specs.declared.types.IntType.{IntType}
use Rattle.ep_int.specs.declared.types.IntType.TheVariants.{U32}
use Rattle.ep_int.specs.declared.types.Order.{Order}
use Rattle.ep_int.specs.declared.types.Scalar.{Scalar}
use Rattle.ep_int.specs.declared.types.Scalar.TheVariants.{Int as Number, Pointer}
use Rattle.ep_int.specs.Types.{bytes_of, is_signed, residue}
use Rattle.ep_int.specs.Arith.{is_in_range}
use Rattle.ep_int.specs.Memory.{Memory, pointer, bounds, Kind, Found, has, faults, range_fault}
use Rattle.ep_int.proofs.Arithmetic.{le_test, le_fact}
use Rattle.ep_layout.specs.declared.types.Ty.{Ty}
use Rattle.ep_layout.specs.declared.types.Ty.TheVariants.{Int}
use Rattle.ep_layout.specs.Table.{size}
use Rattle.ep_core.specs.Program.{Place, block, deref, member, element, Expr, const, null_value, load, addr_of, binary}
use Rattle.ep_core.specs.Program.{convert, compare, ptr_compare, logical_and, logical_or, logical_not, conditional}
use Rattle.ep_core.specs.Program.{ptr_add, cast, Dest, Simple, nothing, eval, assign, clear, copy_aggregate, copy_bytes}
use Rattle.ep_core.specs.Program.{fill, input, output, read_bytes, write_bytes, returns, What, simple, call, if_else}
use Rattle.ep_core.specs.Program.{loop, break_loop, continue_loop, by_order, scope, Stmts, stop, more, Block, Program}
use Rattle.ep_core.specs.Exec.{State, Outcome, leaves, running, no_input, undefined_at, on, uncounted}
use Rattle.ep_core.specs.Exec.{Going, given, at_place, unless, and_then, arm_left, chosen, code_of_way, is_order, with}
use Rattle.ep_core.specs.Exec.{with_number}
use Rattle.ep_core.specs.Exec.{bytewise, bytewise_rest, into, out_of, place_in, size_at, block_size, value, frame_of}
use Rattle.ep_core.specs.Exec.{Output, moved, distance, result_in, exec, exec_all, does as runs}
use Rattle.ep_core.specs.WellFormed.{integer, pointer_to, sort_of, has_scalar, is_number, is_length, is_int}
use Rattle.ep_core.specs.WellFormed.{int_type_of, ty_at}
use Rattle.ep_core.specs.WellFormed.{is_pointer_where, is_address, takes_input, block_has, is_named, place_has}
use Rattle.ep_core.specs.WellFormed.{has_sort, has_type}
use Rattle.ep_core.specs.WellFormed.{simple_fits, what_fits, stmts_fit, is_well_formed}
use Rattle.ep_core.proofs.Sorts.{never, three, type_where, pointer_where, typed_where, number_scalar}
use Rattle.ep_core.proofs.Operands.{sizes}
use Rattle.ep_core.proofs.Typing.{block_small}
use Rattle.ep_movers.specs.declared.Stop.{Stop}
use Rattle.ep_movers.specs.declared.Stop.TheVariants.{Foreign, Faulty}
use Rattle.ep_movers.specs.Symbols.{goes_on}
use Rattle.ep_movers.specs.Movers.{Held, Symbols, Machine, bytes_in, offset_to, block_at, target_of, bytes_taken}
use Rattle.ep_movers.specs.Movers.{bytes_put_out, symbols, moves_what, moves, does}
use Rattle.ep_movers.specs.Forms.{constant, block_of, is_moved_place, is_moving, is_moved_pointer, is_int_type}
use Rattle.ep_movers.specs.Forms.{is_block_of}
use Rattle.ep_movers.specs.Forms.{takes_whole, is_whole, is_moved_assignment, are_assignments, is_moving_simple}
use Rattle.ep_movers.specs.Forms.{is_moving_what}
use Rattle.ep_movers.specs.Forms.{are_moving}
use Rattle.ep_mover_runs.specs.Following.{Follows, taken_by_simple, put_out_by_simple, taken_by, put_out_by}
use Rattle.ep_mover_runs.specs.Following.{IsUndefined, Comes}
use Rattle.ep_mover_runs.specs.Following.{Wants, Wanting, IsStopped, MovesSo, taken_by_all, put_out_by_all}
use Rattle.ep_mover_runs.proofs.Mains.{IsMover}
use Rattle.ep_mover_runs.proofs.Places.{number_type, constant_value, in_u32, u32_below, no_u32, placed_number}
use Rattle.ep_mover_runs.proofs.Expressions.{expression_follows}
use Rattle.ep_mover_runs.proofs.Statements.{same_unsigned, range_fits, range_past, rebased, assign_comes, output_comes}
use Rattle.ep_mover_runs.proofs.Statements.{input_comes}
use Rattle.ep_mover_runs.proofs.Transfers.{rest_same, reads_come, puts_come, put_inside}

-- ---- pointers

abbrev TargetFollows : Result (ℕ × ℕ) Stop → Found → Type 0
TargetFollows (Ok a) v = v ≡ has (pointer a.0 a.1)
TargetFollows (Err Foreign) v = Unit {0}
TargetFollows (Err Faulty) v = (k : Kind) × (v ≡ faults k)

place_fails : (size b : ℕ) (z : ℤ) → (int_le (pos 0) z && int_le z (pos size)) ≡ false
    → (k : Kind) × (place_in size b z ≡ faults k)
place_fails size b z e = (bounds, rw e refl)

below_zero : (n : ℕ) → 0 < n → (w : ℤ) → w ≡ pos 0 +ℤ neg_ℤ (pos n) → int_le (pos 0) w ≡ false
below_zero n l w e = false_from_ne_true (int_le (pos 0) w)
    (λ h. let low = le_fact (pos 0) w h in omega (arith, ints, low, e, l))

module _ (size b unit : ℕ) (some : 1 ≤ unit) (few : size ≤ 65536) where
  at_unit : (n : ℕ) → unit * n ≤ size → place_in size b (pos (0 + n * unit)) ≡ has (pointer b (unit * n))
  at_unit n l =
      let same : 0 + n * unit ≡ unit * n = let c = mul_comm n unit in omega (arith, c) in
      let inside : (int_le (pos 0) (pos (0 + n * unit)) && int_le (pos (0 + n * unit)) (pos size)) ≡ true
      = and_from (int_le (pos 0) (pos (0 + n * unit))) (int_le (pos (0 + n * unit)) (pos size))
      (le_test (pos 0) (pos (0 + n * unit)) (omega (arith, ints)))
      (le_test (pos (0 + n * unit)) (pos size) (omega (arith, ints, same, l))) in
      choose _ inside ∙ ap (λ q. has (pointer b q)) same
    where
      choose : (t : Bool) → t ≡ true → (if t then has (pointer b (0 + n * unit)) else faults bounds)
          ≡ has (pointer b (0 + n * unit))
      choose true e = refl
      choose false e = never e

  target_at : (c : ℤ) → TargetFollows (goes_on (offset_to size unit (Some c)) (λ q. Ok (b, q)))
      (place_in size b (pos 0 +ℤ (c *ℤ pos unit)))
  target_at (pos n) = split (is_in_range U32 (pos n) && nat_le (unit * (n % 2 ^ 32)) size) refl
    where
      split : (t : Bool) → (is_in_range U32 (pos n) && nat_le (unit * (n % 2 ^ 32)) size) ≡ t
          → TargetFollows (goes_on (if t then Ok (unit * (n % 2 ^ 32)) else Err Faulty) (λ q. Ok (b, q)))
          (place_in size b (pos (0 + n * unit)))
      split true e =
          let s = and_parts (is_in_range U32 (pos n)) (nat_le (unit * (n % 2 ^ 32)) size) e in
          let same : n % 2 ^ 32 ≡ n = mod-eq_of_lt (u32_below n s.0) in
          let l = leb-true (unit * (n % 2 ^ 32)) size s.1 in
          at_unit n (subst (λ k. unit * k ≤ size) same l) ∙ ap (λ k. has (pointer b (unit * k))) (sym same)
      split false e =
          place_fails size b (pos (0 + n * unit))
          (false_from_ne_true (int_le (pos 0) (pos (0 + n * unit)) && int_le (pos (0 + n * unit)) (pos size))
          (λ h.
          let high = le_fact (pos (0 + n * unit)) (pos size)
          (and_parts (int_le (pos 0) (pos (0 + n * unit))) (int_le (pos (0 + n * unit)) (pos size)) h).1 in
          let turned = mul_comm n unit in
          let least = mul-le-mul_right {m = 1} {n = unit} n some in
          let inside : unit * n ≤ size = omega (arith, ints, high, turned) in
          let small : n < 2 ^ 32 = omega (arith, least, inside, few) in
          let same : n % 2 ^ 32 ≡ n = mod-eq_of_lt small in
          both_ways (is_in_range U32 (pos n) && nat_le (unit * (n % 2 ^ 32)) size) e
          (and_from (is_in_range U32 (pos n)) (nat_le (unit * (n % 2 ^ 32)) size) (in_u32 n small)
          (le-leb (unit * (n % 2 ^ 32)) size (subst (λ k. unit * k ≤ size) (sym same) inside)))))
  target_at (negsuc n) =
      split (is_in_range U32 (negsuc n) && nat_le (unit * residue (2 ^ 32) (negsuc n)) size) refl
    where
      split : (t : Bool) → (is_in_range U32 (negsuc n) && nat_le (unit * residue (2 ^ 32) (negsuc n)) size) ≡ t
          → TargetFollows (goes_on (if t then Ok (unit * residue (2 ^ 32) (negsuc n)) else Err Faulty) (λ q. Ok (b, q)))
          (place_in size b (pos 0 +ℤ (negsuc n *ℤ pos unit)))
      split true e =
          absurd (no_u32 n (and_parts (is_in_range U32 (negsuc n))
          (nat_le (unit * residue (2 ^ 32) (negsuc n)) size) e).0)
      split false e =
          let most = mul-le-mul_right {m = 1} {n = suc n} unit (omega arith) in
          place_fails size b (pos 0 +ℤ (negsuc n *ℤ pos unit))
          (and_left (int_le (pos 0) (pos 0 +ℤ (negsuc n *ℤ pos unit)))
          (int_le (pos 0 +ℤ (negsuc n *ℤ pos unit)) (pos size))
          (below_zero (suc n * unit) (omega (arith, most, some)) (pos 0 +ℤ (negsuc n *ℤ pos unit)) refl))

module _ (o : Order) (p : Program) where
  block_value : (m : Memory) (e : Expr) (b : ℕ) → block_of e ≡ Some b → value o p e m ≡ has (pointer b 0)
  block_value m (addr_of (block c)) b h = let same : c ≡ b = cc in ap (λ k. has (pointer k 0)) same
  block_value m (addr_of (deref e)) b h = absurd cc
  block_value m (addr_of (member a offset)) b h = absurd cc
  block_value m (addr_of (element a bound unit i)) b h = absurd cc
  block_value m (const t v) b h = absurd cc
  block_value m null_value b h = absurd cc
  block_value m (load what a) b h = absurd cc
  block_value m (binary op t x y) b h = absurd cc
  block_value m (convert t e) b h = absurd cc
  block_value m (compare c t x y) b h = absurd cc
  block_value m (ptr_compare c x y) b h = absurd cc
  block_value m (logical_and x y) b h = absurd cc
  block_value m (logical_or x y) b h = absurd cc
  block_value m (logical_not e) b h = absurd cc
  block_value m (conditional e x y) b h = absurd cc
  block_value m (ptr_add e unit n back) b h = absurd cc
  block_value m (cast e) b h = absurd cc

module _ (p : Program) (formed : is_well_formed p ≡ true) (g : IsMover p) (o : Order) (inputs : List ℕ) where
  abbrev seen : List ℕ
  seen = frame_of g.main

  block_target : (m : Memory) (e : Expr) (r : Option ℕ) → block_of e ≡ r → is_some r ≡ true
      → TargetFollows (goes_on (block_at r) (λ b. Ok (b, 0))) (value o p e m)
  block_target m e None q h = never h
  block_target m e (Some b) q h = block_value o p m e b q

  added : (m : Symbols) (s : Memory) (sized : (b : ℕ) → length (bytes_in m b) ≡ size_at o p b) (e : Expr) (unit : ℕ)
      (n : Expr)
      (back : Bool) → is_length unit ≡ true → (r : Option ℕ) → block_of e ≡ r → (c : Option ℤ) → constant n ≡ c
      → (is_some r && (is_some c && not back)) ≡ true
      → TargetFollows (goes_on (block_at r) (λ b. goes_on (offset_to (length (bytes_in m b)) unit c) (λ q. Ok (b, q))))
      (value o p (ptr_add e unit n back) s)
  added m s sized e unit n back long None q c k h = never h
  added m s sized e unit n back long (Some b) q None k h = never h
  added m s sized e unit n true long (Some b) q (Some c) k h = never h
  added m s sized e unit n false long (Some b) q (Some c) k h =
      let some = leb-true 1 unit (and_parts (nat_le 1 unit) (nat_le unit 65536) long).0 in
      subst (λ size. TargetFollows (goes_on (offset_to size unit (Some c)) (λ q. Ok (b, q)))
      (value o p (ptr_add e unit n false) s))
      (sym (sized b))
      (subst (TargetFollows (goes_on (offset_to (size_at o p b) unit (Some c)) (λ q. Ok (b, q))))
      (sym (ap (λ (v : Found). with v
      (λ v. with_number (value o p n s) (λ k. moved o p (has v) (distance unit k false))))
      (block_value o p s e b q)
      ∙ ap (λ (v : Found). with_number v (λ k. moved o p (has (pointer b 0)) (distance unit k false)))
      (constant_value o p s n c k)))
      (target_at (size_at o p b) b unit some (block_small o p (sizes p formed) b) c))

  target_follows : (m : Symbols) (s : Memory) → ((b : ℕ) → length (bytes_in m b) ≡ size_at o p b) → (e : Expr)
      → is_moved_pointer e ≡ true → is_address p.types p.blocks seen e ≡ true
      → TargetFollows (target_of m e) (value o p e s)
  target_follows m s sized (addr_of a) h i = block_target s (addr_of a) (block_of (addr_of a)) refl h
  target_follows m s sized (ptr_add e unit n back) h i =
      let ty = pointer_where p.types p.blocks seen (has_sort p.types p.blocks seen (ptr_add e unit n back)) i in
      let q = three (is_length unit && is_pointer_where (pointer_to ty.0) (λ u. is_number (size p.types u) unit))
      (has_sort p.types p.blocks seen e (pointer_to ty.0))
      (is_int (int_type_of n) (has_sort p.types p.blocks seen n)) ty.1 in
      let long = (and_parts (is_length unit)
      (is_pointer_where (pointer_to ty.0) (λ u. is_number (size p.types u) unit)) q.0).0 in
      added m s sized e unit n back long (block_of e) refl (constant n) refl h
  target_follows m s sized (const t v) h i = never h
  target_follows m s sized null_value h i = never h
  target_follows m s sized (load what a) h i = never h
  target_follows m s sized (binary op t x y) h i = never h
  target_follows m s sized (convert t e) h i = never h
  target_follows m s sized (compare c t x y) h i = never h
  target_follows m s sized (ptr_compare c x y) h i = never h
  target_follows m s sized (logical_and x y) h i = never h
  target_follows m s sized (logical_or x y) h i = never h
  target_follows m s sized (logical_not e) h i = never h
  target_follows m s sized (conditional e x y) h i = never h
  target_follows m s sized (cast e) h i = never h

  -- ---- statements

  module _ (s : State) (m : Machine) (f : Follows o p inputs s m) (l n : ℕ) where
    -- no inputs are wanted
    always : (j : ℕ) (r : Result Machine Stop) (x : Outcome) → Comes o p inputs n 0 j m r x →
        MovesSo o p inputs n 0 j s m r x
    always j r x h = record { enough = λ e. h; few = λ e. absurd (omega (arith, e, f.enough)) }

    assigning : (t : IntType) (a : Place) (e : Expr) (here : ℕ) (result : Option ℕ)
        → (is_moved_place a && is_moving e) ≡ true → simple_fits p here result (assign (Number t) a e) seen ≡ true
        → Comes o p inputs n 0 0 m (does o (assign (Number t) a e) m)
        (runs o p uncounted None (assign (Number t) a e) l n s)
    assigning t a e here result h i =
        let form = and_parts (is_moved_place a) (is_moving e) h in
        let q = type_where p.types p.blocks seen (λ u. has_scalar u (Number t))
        (λ ty. place_has p.types p.blocks seen a ty && has_type p.types p.blocks seen e ty) i in
        let both = and_parts (place_has p.types p.blocks seen a q.0) (has_type p.types p.blocks seen e q.0) q.2 in
        let typed = typed_where p.types p.blocks seen e q.0 both.1 in
        let type : ty_at p.types p.blocks seen q.0 ≡ Some (Int t) =
        number_type (ty_at p.types p.blocks seen q.0) t q.1 in
        let sort : Some (integer t) ≡ Some typed.0 = sym (ap sort_of type) ∙ typed.1 in
        let same : integer t ≡ typed.0 = cc in
        let placed = placed_number p formed g o s.memory a t q.0 form.0 both.0 q.1 in
        assign_comes o p inputs s m l n f t a e placed.at
        (expression_follows p formed g o inputs s m f e t form.1
        (subst (λ x. has_sort p.types p.blocks seen e x ≡ true) (sym same) typed.2))

    -- ---- an input

    int_block : (x : Option Block) (t k : IntType) (ty : ℕ)
        → option_map_or (λ (d : Block). option_map_or (is_int_type t) (slice_get p.types.types d.ty) false) x false
        ≡ true
        → block_has p.types p.blocks seen x ty ≡ true → slice_get p.types.types ty ≡ Some (Int k)
        → is_int_type t (Int k) ≡ true
    int_block None t k ty h i e = never h
    int_block (Some d) t k ty h i e =
        subst (λ (u : Option Ty). option_map_or (is_int_type t) u false ≡ true) e
        (subst (λ j. option_map_or (is_int_type t) (slice_get p.types.types j) false ≡ true) (eqb-true d.ty ty i) h)

    block_place : (t : IntType) (a : Place) → is_block_of p t a ≡ true
        → (b : ℕ) × (a ≡ block b)
        × (option_map_or (λ (d : Block). option_map_or (is_int_type t) (slice_get p.types.types d.ty) false)
        (slice_get p.blocks b) false ≡ true)
    block_place t (block b) h = (b, refl, h)
    block_place t (deref e) h = never h
    block_place t (member a offset) h = never h
    block_place t (element a bound unit i) h = never h

    wants_from : (before : List Output) (x : Outcome) → Wanting before x → (r : Result Machine Stop) → Wants before r x
    wants_from before x w (Ok r) = w
    wants_from before x w (Err Foreign) = tt
    wants_from before x w (Err Faulty) = subst IsStopped (sym w.is) tt

    input_does : (t : IntType) (d : Dest) → takes_whole p t (Some d) ≡ true
        → takes_input p.types p.blocks seen (Some d) ≡ true
        → MovesSo o p inputs n 1 0 s m (does o (input t (Some d)) m) (runs o p uncounted None (input t (Some d)) l n s)
    input_does t d h i =
        let at = block_place t d.place (and_parts (not d.cast) (is_block_of p t d.place) h).1 in
        let q = type_where p.types p.blocks seen (λ u. has_scalar u d.what && not (has_scalar u Pointer))
        (place_has p.types p.blocks seen d.place) i in
        let k = number_scalar (ty_at p.types p.blocks seen q.0) d.what q.1 in
        let scalar : has_scalar (ty_at p.types p.blocks seen q.0) (Number k.0) ≡ true
        = subst (λ w. has_scalar (ty_at p.types p.blocks seen q.0) w ≡ true) k.1
        (and_parts (has_scalar (ty_at p.types p.blocks seen q.0) d.what)
        (not (has_scalar (ty_at p.types p.blocks seen q.0) Pointer)) q.1).0 in
        let type : slice_get p.types.types q.0 ≡ Some (Int k.0) =
        number_type (slice_get p.types.types q.0) k.0 scalar in
        let there = subst (λ a. place_has p.types p.blocks seen a q.0 ≡ true) at.1 q.2 in
        let typed = (and_parts (is_named p.types p.blocks seen at.0)
        (block_has p.types p.blocks seen (slice_get p.blocks at.0) q.0)
        there).1 in
        let same = and_parts (nat_eq (bytes_of t) (bytes_of k.0)) (not (is_signed t) && not (is_signed k.0))
        (int_block (slice_get p.blocks at.0) t k.0 q.0 at.2 typed type) in
        let signs = and_parts (not (is_signed t)) (not (is_signed k.0)) same.1 in
        let types : t ≡ k.0
        = same_unsigned t k.0 (not-true (is_signed t) signs.0) (not-true (is_signed k.0) signs.1)
        (eqb-true (bytes_of t) (bytes_of k.0) same.0) in
        let c = input_comes o p inputs s m l n f t d.what d.place at.0 (not-true (is_signed t) signs.0)
        (k.1 ∙ ap Number (sym types)) at.1 in
        record {
          enough = c.0;
          few = λ j. wants_from s.outputs (runs o p uncounted None (input t (Some d)) l n s) (c.1 j)
              (does o (input t (Some d)) m);
        }

    -- ---- bytes

    whole_size : (x : Option Block) (k : ℕ) → option_map_or (λ (d : Block). nat_eq d.size k) x false ≡ true
        → block_size o p x ≡ k
    whole_size None k h = never h
    whole_size (Some d) k h = eqb-true d.size k h

    read_does : (e : Expr) (k : ℕ) (r : Option ℕ) → block_of e ≡ r → is_whole p r k ≡ true
        → MovesSo o p inputs n k 0 s m (goes_on (block_at r) (λ b. bytes_taken b 0 k m))
        (runs o p uncounted None (read_bytes e k) l n s)
    read_does e k None q h = never h
    read_does e k (Some b) q h =
        let bytes = whole_size (slice_get p.blocks b) k h in
        let fits : 0 + k ≤ size_at o p b = omega (arith, bytes) in
        let x : runs o p uncounted None (read_bytes e k) l n s ≡ bytewise uncounted (into o p b) k 0 n s
        = ap (λ (v : Found). given v l s (λ w. at_place w l s
        (λ b q. unless (range_fault (size_at o p b) q k) l s (bytewise_rest uncounted (into o p b) k q n s))))
        (block_value o p s.memory e b q)
        ∙ ap (λ z. unless z l s (bytewise_rest uncounted (into o p b) k 0 n s)) (range_fits (size_at o p b) 0 k fits)
        ∙ rest_same (into o p b) k 0 n s in
        let c = reads_come o p inputs b n k 0 s m f fits in
        subst (MovesSo o p inputs n k 0 s m (bytes_taken b 0 k m)) (sym x) (record { enough = c.0; few = c.1 })

    outside_comes : (hs : List Held) (q k : ℕ) → 1 ≤ k → length hs < q + k → (x : Outcome) → IsUndefined x
        → (r : Result Machine Stop) → bytes_put_out hs q k m ≡ r → Comes o p inputs n 0 k m r x
    outside_comes hs q k some far x h (Ok r) e =
        absurd (⊎_elim (λ i. omega (arith, i, some)) (λ i. omega (arith, i, far)) (put_inside hs k q m r e))
    outside_comes hs q k some far x h (Err Foreign) e = tt
    outside_comes hs q k some far x h (Err Faulty) e = h

    abbrev put_from : ℕ → Found → Outcome
    put_from k v = given v l s (λ w. at_place w l s
        (λ b q. unless (range_fault (size_at o p b) q k) l s (bytewise_rest uncounted (out_of o p b l) k q n s)))

    write_at : (k b q : ℕ) → 1 ≤ k → Comes o p inputs n 0 k m (bytes_put_out (bytes_in m.memory b) q k m)
        (put_from k (has (pointer b q)))
    write_at k b q some =
        ⊎_elim
        (λ far.
        let x : put_from k (has (pointer b q)) ≡ undefined_at l bounds s
        = ap (λ z. unless z l s (bytewise_rest uncounted (out_of o p b l) k q n s))
        (range_past (size_at o p b) q k far) in
        outside_comes (bytes_in m.memory b) q k some (omega (arith, f.sizes b, far)) (put_from k (has (pointer b q)))
        (subst IsUndefined (sym x) tt) (bytes_put_out (bytes_in m.memory b) q k m) refl)
        (λ near.
        let x : put_from k (has (pointer b q)) ≡ bytewise uncounted (out_of o p b l) k q n s
        = ap (λ z. unless z l s (bytewise_rest uncounted (out_of o p b l) k q n s))
        (range_fits (size_at o p b) q k near)
        ∙ rest_same (out_of o p b l) k q n s in
        subst (Comes o p inputs n 0 k m (bytes_put_out (bytes_in m.memory b) q k m)) (sym x)
        (puts_come o p inputs b n l k q s m f near))
        (cases_lt (size_at o p b) (q + k))

    write_by : (k : ℕ) → 1 ≤ k → (r : Result (ℕ × ℕ) Stop) (v : Found) → TargetFollows r v
        → Comes o p inputs n 0 k m (goes_on r (λ w. bytes_put_out (bytes_in m.memory w.0) w.1 k m)) (put_from k v)
    write_by k some (Ok w) v h =
        subst (λ (v : Found). Comes o p inputs n 0 k m (bytes_put_out (bytes_in m.memory w.0) w.1 k m) (put_from k v))
        (sym h)
        (write_at k w.0 w.1 some)
    write_by k some (Err Foreign) v h = tt
    write_by k some (Err Faulty) v h = subst (λ (v : Found). IsUndefined (put_from k v)) (sym h.1) tt

    -- ---- each form

    pub simple_does : (w : Simple) (r : Option (ℕ × Scalar)) (here : ℕ) (result : Option ℕ) → is_moving_simple p w
        ≡ true
        → simple_fits p here result w seen ≡ true
        → MovesSo o p inputs n (taken_by_simple w) (put_out_by_simple w) s m (does o w m) (runs o p uncounted r w l n s)
    simple_does nothing r here result h i =
        always 0 (Ok m) (leaves on n s)
        (record { state = s; is = refl; follows = f; taken = omega arith; put = omega arith })
    simple_does (assign (Number t) a e) r here result h i =
        always 0 (does o (assign (Number t) a e) m) (runs o p uncounted r (assign (Number t) a e) l n s)
        (assigning t a e here result h i)
    simple_does (input t (Some d)) r here result h i = input_does t d h i
    simple_does (output t e) r here result h i =
        let q = and_parts (not (is_signed t)) (is_moving e) h in
        always 1 (does o (output t e) m) (runs o p uncounted r (output t e) l n s)
        (output_comes o p inputs s m l n f t (symbols o m.memory e) (value o p e s.memory) (not-true (is_signed t) q.0)
        (expression_follows p formed g o inputs s m f e t q.1 i))
    simple_does (read_bytes e k) r here result h i = read_does e k (block_of e) refl h
    simple_does (write_bytes e k) r here result h i =
        let q = and_parts (is_length k) (is_address p.types p.blocks seen e) i in
        let some = leb-true 1 k (and_parts (nat_le 1 k) (nat_le k 65536) q.0).0 in
        always k (does o (write_bytes e k) m) (runs o p uncounted r (write_bytes e k) l n s)
        (write_by k some (target_of m.memory e) (value o p e s.memory)
        (target_follows m.memory s.memory f.sizes e h q.1))
    simple_does (assign Pointer a e) r here result h i = never h
    simple_does (input t None) r here result h i = never h
    simple_does (eval e) r here result h i = never h
    simple_does (clear a ty) r here result h i = never h
    simple_does (copy_aggregate a b ty) r here result h i = never h
    simple_does (copy_bytes a b k) r here result h i = never h
    simple_does (fill a e k) r here result h i = never h
    simple_does (returns e) r here result h i = never h

  -- ---- one after another

  after_undefined : (x : Outcome) (go : Going) → IsUndefined x → IsUndefined (and_then x go)
  after_undefined (leaves w left s) go h = absurd h
  after_undefined (running s) go h = absurd h
  after_undefined (no_input s) go h = absurd h
  after_undefined (undefined_at l k s) go h = tt

  pub then_comes : (n i j a b : ℕ) (m : Machine) (r : Result Machine Stop) (x : Outcome)
      (go : Machine → Result Machine Stop) (later : Going) → Comes o p inputs n i j m r x
      → ((s : State) (k : Machine) → Follows o p inputs s k → k.inputs ≡ m.inputs + i
      → Comes o p inputs n a b k (go k) (later n s))
      → Comes o p inputs n (i + a) (j + b) m (goes_on r go) (and_then x later)
  then_comes n i j a b m (Ok k) x go later h next =
      subst (λ x. Comes o p inputs n (i + a) (j + b) m (go k) (and_then x later)) (sym h.is)
      (rebased o p inputs n i j a b m k h.taken h.put (go k) (later n h.state) (next h.state k h.follows h.taken))
  then_comes n i j a b m (Err Foreign) x go later h next = tt
  then_comes n i j a b m (Err Faulty) x go later h next = after_undefined x later h

  -- statements of an arm
  record Assigning (w : What) (rest : Stmts) : Type 0 where
    what : Scalar
    to : Place
    from : Expr
    is : simple (assign what to from) ≡ w
    moved : is_moved_assignment what to from ≡ true
    later : are_assignments rest ≡ true

  assigning_first : (l : ℕ) (w : What) (rest : Stmts) → are_assignments (more l w rest) ≡ true → Assigning w rest
  assigning_first l (simple (assign what a e)) rest h =
      let q = and_parts (is_moved_assignment what a e) (are_assignments rest) h in
      record { what = what; to = a; from = e; is = refl; moved = q.0; later = q.1 }
  assigning_first l (simple nothing) rest h = never h
  assigning_first l (simple (eval e)) rest h = never h
  assigning_first l (simple (clear a ty)) rest h = never h
  assigning_first l (simple (copy_aggregate a b ty)) rest h = never h
  assigning_first l (simple (copy_bytes a b k)) rest h = never h
  assigning_first l (simple (fill a e k)) rest h = never h
  assigning_first l (simple (input t d)) rest h = never h
  assigning_first l (simple (output t e)) rest h = never h
  assigning_first l (simple (read_bytes e k)) rest h = never h
  assigning_first l (simple (write_bytes e k)) rest h = never h
  assigning_first l (simple (returns e)) rest h = never h
  assigning_first l (call k es d) rest h = never h
  assigning_first l (if_else e a b) rest h = never h
  assigning_first l (loop first e a b) rest h = never h
  assigning_first l break_loop rest h = never h
  assigning_first l continue_loop rest h = never h
  assigning_first l (by_order named a b) rest h = never h
  assigning_first l (scope bs a) rest h = never h

  module _ (here : ℕ) (result : Option ℕ) (bodies : ℕ → Going) (n : ℕ) where
    first_assigned : (what : Scalar) (a : Place) (e : Expr) (l : ℕ) (s : State) (m : Machine) → Follows o p inputs s m
        → is_moved_assignment what a e ≡ true → what_fits p here result (simple (assign what a e)) seen false ≡ true
        → Comes o p inputs n 0 0 m (moves_what o (simple (assign what a e)) m)
        (exec o p uncounted here bodies (simple (assign what a e)) l n s)
    first_assigned (Number t) a e l s m f h i = assigning s m f l n t a e here result h i
    first_assigned Pointer a e l s m f h i = never h

    assignments_come : (ss : Stmts) → are_assignments ss ≡ true → stmts_fit p here result ss seen false ≡ true
        → (s : State) (m : Machine) → Follows o p inputs s m
        → Comes o p inputs n 0 0 m (moves o ss m) (exec_all o p uncounted here bodies ss n s)
    assignments_come stop h i s m f =
        record { state = s; is = refl; follows = f; taken = omega arith; put = omega arith }
    assignments_come (more l w rest) h i s m f =
        let a = assigning_first l w rest h in
        let fits = and_parts (what_fits p here result w seen false) (stmts_fit p here result rest seen false) i in
        let first : Comes o p inputs n 0 0 m (moves_what o w m) (exec o p uncounted here bodies w l n s)
        = subst (λ w. what_fits p here result w seen false ≡ true
        → Comes o p inputs n 0 0 m (moves_what o w m) (exec o p uncounted here bodies w l n s)) a.is
        (λ i. first_assigned a.what a.to a.from l s m f a.moved i) fits.0 in
        then_comes n 0 0 0 0 m (moves_what o w m) (exec o p uncounted here bodies w l n s) (moves o rest)
        (exec_all o p uncounted here bodies rest) first (λ s k g e. assignments_come rest a.later fits.1 s k g)

    -- an arm lists its way out alone
    arm_comes : (joint : List ℕ) (m : Machine) (r : Result Machine Stop) (x : Outcome) → Comes o p inputs n 0 0 m r x
        → Comes o p inputs n 0 0 m r (arm_left joint x)
    arm_comes joint m (Ok k) x h =
        let g = h.follows in
        let t = h.state in
        record {
          state = record t { tests = t.tests ++ code_of_way on ∷ []; joint_tests = joint ++ code_of_way on ∷ [] };
          is = ap (arm_left joint) h.is;
          follows = record {
            sizes = g.sizes;
            memory = g.memory;
            bytes = g.bytes;
            used = g.used;
            enough = g.enough;
            left = g.left;
            outputs = g.outputs;
            numbers = g.numbers;
          };
          taken = h.taken;
          put = h.put;
        }
    arm_comes joint m (Err Foreign) x h = tt
    arm_comes joint m (Err Faulty) x h = undefined_arm x h
      where
        undefined_arm : (x : Outcome) → IsUndefined x → IsUndefined (arm_left joint x)
        undefined_arm (leaves w left s) h = absurd h
        undefined_arm (running s) h = absurd h
        undefined_arm (no_input s) h = absurd h
        undefined_arm (undefined_at l k s) h = tt

    chosen_comes : (t : Bool) (a b : Stmts) (s : State) (m : Machine)
        → Comes o p inputs n 0 0 m (moves o a m) (exec_all o p uncounted here bodies a n s)
        → Comes o p inputs n 0 0 m (moves o b m) (exec_all o p uncounted here bodies b n s)
        → Comes o p inputs n 0 0 m (if t then moves o a m else moves o b m)
        (arm_left s.joint_tests (chosen t (exec_all o p uncounted here bodies a)
        (exec_all o p uncounted here bodies b) n s))
    chosen_comes true a b s m h i = arm_comes s.joint_tests m (moves o a m) (exec_all o p uncounted here bodies a n s) h
    chosen_comes false a b s m h i =
        arm_comes s.joint_tests m (moves o b m) (exec_all o p uncounted here bodies b n s) i

    pub what_does : (w : What) (l : ℕ) → is_moving_what p w ≡ true → what_fits p here result w seen false ≡ true
        → (s : State) (m : Machine) → Follows o p inputs s m
        → MovesSo o p inputs n (taken_by w) (put_out_by w) s m (moves_what o w m)
        (exec o p uncounted here bodies w l n s)
    what_does (simple w) l h i s m f =
        simple_does s m f l n w (result_in (slice_get p.functions here)) here result h i
    what_does (by_order named a b) l h i s m f =
        let forms = and_parts (are_assignments a) (are_assignments b) h in
        let fits = and_parts (stmts_fit p here result a seen false) (stmts_fit p here result b seen false) i in
        always s m f l n 0 (moves_what o (by_order named a b) m)
        (exec o p uncounted here bodies (by_order named a b) l n s)
        (chosen_comes (is_order o named) a b s m (assignments_come a forms.0 fits.0 s m f)
        (assignments_come b forms.1 fits.1 s m f))
    what_does (call k es d) l h i s m f = never h
    what_does (if_else e a b) l h i s m f = never h
    what_does (loop first e a b) l h i s m f = never h
    what_does break_loop l h i s m f = never h
    what_does continue_loop l h i s m f = never h
    what_does (scope bs a) l h i s m f = never h

    -- one after another, with enough inputs
    pub all_come : (ss : Stmts) → are_moving p ss ≡ true → stmts_fit p here result ss seen false ≡ true
        → (s : State) (m : Machine) → Follows o p inputs s m → m.inputs + taken_by_all ss ≤ length inputs
        → Comes o p inputs n (taken_by_all ss) (put_out_by_all ss) m (moves o ss m)
        (exec_all o p uncounted here bodies ss n s)
    all_come stop h i s m f e = record { state = s; is = refl; follows = f; taken = omega arith; put = omega arith }
    all_come (more l w rest) h i s m f e =
        let forms = and_parts (is_moving_what p w) (are_moving p rest) h in
        let fits = and_parts (what_fits p here result w seen false) (stmts_fit p here result rest seen false) i in
        let first = what_does w l forms.0 fits.0 s m f in
        then_comes n (taken_by w) (put_out_by w) (taken_by_all rest) (put_out_by_all rest) m (moves_what o w m)
        (exec o p uncounted here bodies w l n s) (moves o rest) (exec_all o p uncounted here bodies rest)
        (first.enough (omega (arith, e)))
        (λ s k g q. all_come rest forms.1 fits.1 s k g (omega (arith, e, q)))
