-- The operands in the statements of a well-formed program fit.
use Rattle.std.proofs.Common.{◌≡◌, ℕ, zero, suc, ◌+◌, pos, Bool, true, false, ◌&&◌, not, nat_eq, nat_lt}
use Rattle.std.proofs.Common.{if◌then◌else◌, List, [], ◌∷◌, ◌++◌, slice_get, length, Option, Some, None}
use Rattle.std.proofs.Common.{option_to_list, refl, sym, subst, arith}
use Rattle.std.specs.Prelude.{is_some, option_and_then}
use Rattle.std.specs.List.{list_all, flat_map}
use Rattle.std.proofs.lemmas.Bool.{and_parts}
use Rattle.ep_int.specs.declared.types.IntType.{IntType}
use Rattle.ep_int.specs.declared.types.IntType.TheVariants.{U8, I32}
use Rattle.ep_int.specs.declared.types.Order.{Order}
use Rattle.ep_int.specs.declared.types.Scalar.{Scalar}
use Rattle.ep_int.specs.declared.types.Scalar.TheVariants.{Int as Number, Pointer}
use Rattle.ep_int.specs.Types.{wrapped}
use Rattle.ep_int.specs.Memory.{Memory, Value, int, null, pointer, loaded}
use Rattle.ep_int.proofs.Wrapping.{wrapped_in_range}
use Rattle.ep_layout.specs.declared.types.Ty.{Ty}
use Rattle.ep_layout.specs.declared.types.Ty.TheVariants.{Void, Int, Ptr, Array, Aggregate}
use Rattle.ep_layout.specs.Table.{Table, size}
use Rattle.ep_core.specs.Program.{Expr, Dest, Simple, nothing, eval, assign, clear, copy_aggregate, copy_bytes, fill}
use Rattle.ep_core.specs.Program.{input, output, read_bytes, write_bytes, returns, What, simple, call, if_else, loop}
use Rattle.ep_core.specs.Program.{break_loop, continue_loop, by_order, scope, Stmts, stop, more, Block, Function}
use Rattle.ep_core.specs.Program.{Program}
use Rattle.ep_core.specs.Exec.{converted, frame_of, result_in, callee_of, model, size_at}
use Rattle.ep_core.specs.Runs.{main_function}
use Rattle.ep_core.specs.WellFormed.{integer, pointer_to, has_scalar, is_length, ty_at, place_has, has_sort}
use Rattle.ep_core.specs.WellFormed.{is_address, is_tested, int_type_of, has_type, takes_input, can_take}
use Rattle.ep_core.specs.WellFormed.{takes_result, block_type, result_type, arguments_fit, result_fits, simple_fits}
use Rattle.ep_core.specs.WellFormed.{call_fits, what_fits, stmts_fit, are_plain, blocks_fit, init_fits}
use Rattle.ep_core.specs.WellFormed.{are_different_leaves, are_listed, own_blocks, holds_scalar, function_fits}
use Rattle.ep_core.specs.WellFormed.{functions_fit, is_int_result, is_main, is_well_formed}
use Rattle.ep_core.specs.Typed.{IsAddress, ValueFits, IfHas, MemoryFits, OperandsFit, ValueSatisfies, InputFits, ReturnFits}
use Rattle.ep_core.specs.Typed.{SimpleOperandsFit, ArgumentsFit, result_value, ReceivedFits, CallOperandsFit}
use Rattle.ep_core.specs.Typed.{WhatOperandsFit, AllOperandsFit, MainResultFits, StatementsFit, MainsFit}
use Rattle.ep_core.proofs.Bytes.{loaded_fits}
use Rattle.ep_core.proofs.Sorts.{never, three, same_scalar, sort_scalar, number_scalar, type_where, pointer_where}
use Rattle.ep_core.proofs.Sorts.{tested_where, typed_where}
use Rattle.ep_core.proofs.Typing.{weaker, expr_fits, place_lies}

-- ---- what a place takes

module _ (p : Program) (t : Table) (bs : List Block) (seen : List ℕ) where
  -- no number goes to a pointer
  no_number : (r u : Option Ty) (any same : Bool) (n : IntType) → has_scalar r (Number n) ≡ true
      → has_scalar u Pointer ≡ true → can_take t bs seen any r u same ≡ true → ⊥
  no_number (Some (Int s)) (Some (Int w)) any same n h i k = never i
  no_number (Some (Int s)) (Some (Ptr w)) any same n h i k = never k
  no_number (Some (Int s)) (Some Void) any same n h i k = never i
  no_number (Some (Int s)) (Some (Array w c)) any same n h i k = never i
  no_number (Some (Int s)) (Some (Aggregate a)) any same n h i k = never i
  no_number (Some (Int s)) None any same n h i k = never i
  no_number (Some (Ptr s)) u any same n h i k = never h
  no_number (Some Void) u any same n h i k = never h
  no_number (Some (Array s c)) u any same n h i k = never h
  no_number (Some (Aggregate a)) u any same n h i k = never h
  no_number None u any same n h i k = never h

  -- and no pointer to a number
  no_pointer : (r u : Option Ty) (any same : Bool) (n : IntType) → has_scalar r Pointer ≡ true
      → has_scalar u (Number n) ≡ true → can_take t bs seen any r u same ≡ true → ⊥
  no_pointer (Some (Ptr s)) (Some (Ptr w)) any same n h i k = never i
  no_pointer (Some (Ptr s)) (Some (Int w)) any same n h i k = never k
  no_pointer (Some (Ptr s)) (Some Void) any same n h i k = never i
  no_pointer (Some (Ptr s)) (Some (Array w c)) any same n h i k = never i
  no_pointer (Some (Ptr s)) (Some (Aggregate a)) any same n h i k = never i
  no_pointer (Some (Ptr s)) None any same n h i k = never i
  no_pointer (Some (Int s)) u any same n h i k = never h
  no_pointer (Some Void) u any same n h i k = never h
  no_pointer (Some (Array s c)) u any same n h i k = never h
  no_pointer (Some (Aggregate a)) u any same n h i k = never h
  no_pointer None u any same n h i k = never h

  number_converted : (n u : IntType) (v : Value) → ValueFits p (Number n) v
      → ValueFits p (Number u) (converted (Number u) v)
  number_converted n u (int x) h = wrapped_in_range u x
  number_converted n u null h = absurd h
  number_converted n u (pointer b q) h = absurd h

  converted_fits : (r u : Option Ty) (any same : Bool) (what to : Scalar) → has_scalar r what ≡ true
      → has_scalar u to ≡ true → can_take t bs seen any r u same ≡ true → (v : Value) → ValueFits p what v
      → ValueFits p to (converted to v)
  converted_fits r u any same (Number n) (Number w) h i k v f = number_converted n w v f
  converted_fits r u any same (Number n) Pointer h i k v f = absurd (no_number r u any same n h i k)
  converted_fits r u any same Pointer (Number w) h i k v f = absurd (no_pointer r u any same w h i k)
  converted_fits r u any same Pointer Pointer h i k v f = f

-- ---- what is known of the functions of a program

-- the blocks of its parameters and result hold their scalars
pub record Holds (p : Program) (f : Function) : Type 0 where
  pub params : list_all (holds_scalar p.types p.blocks) f.params ≡ true
  pub result : list_all (holds_scalar p.types p.blocks) (option_to_list f.result) ≡ true

module _ (o : Order) (p : Program) (fit : blocks_fit p.types p.blocks ≡ true) (m : Memory) (bytes : MemoryFits p m) where
  module _ (seen : List ℕ) where
    -- an expression of the type of a scalar
    typed_fits : (e : Expr) (ty : ℕ) (what : Scalar) → has_scalar (ty_at p.types p.blocks seen ty) what ≡ true
        → has_type p.types p.blocks seen e ty ≡ true → ValueSatisfies o p m e (ValueFits p what)
    typed_fits e ty what h i =
        let s = typed_where p.types p.blocks seen e ty i in
        subst (λ w. ValueSatisfies o p m e (ValueFits p w)) (sym (sort_scalar (ty_at p.types p.blocks seen ty) what s.0 h s.1))
        (expr_fits o p fit seen m bytes e s.0 s.2)

    address_fits : (e : Expr) → is_address p.types p.blocks seen e ≡ true → ValueSatisfies o p m e (IsAddress p)
    address_fits e h =
        let s = pointer_where p.types p.blocks seen (has_sort p.types p.blocks seen e) h in
        expr_fits o p fit seen m bytes e (pointer_to s.0) s.1

    pub tested_fits : (e : Expr) → is_tested p.types p.blocks seen e ≡ true → OperandsFit o p m e
    tested_fits e h =
        let s = tested_where p.types p.blocks seen (int_type_of e) (has_sort p.types p.blocks seen e) h in
        (expr_fits o p fit seen m bytes e s.0 s.1).0

    input_fits : (t : IntType) (d : Option Dest) → takes_input p.types p.blocks seen d ≡ true → InputFits o p m t d
    input_fits t None h = tt
    input_fits t (Some d) h =
        let s = type_where p.types p.blocks seen (λ u. has_scalar u d.what && not (has_scalar u Pointer))
        (place_has p.types p.blocks seen d.place) h in
        let n = number_scalar (ty_at p.types p.blocks seen s.0) d.what s.1 in (
          place_lies o p fit seen m bytes d.place s.0 s.2,
          λ v. subst (λ w. ValueFits p w (converted w (int (wrapped t (pos v))))) (sym n.1)
              (wrapped_in_range n.0 (wrapped t (pos v))),
        )

    returned_fits : (b : Option ℕ) (what : Scalar) (e : Option Expr)
        → has_scalar (option_and_then (slice_get p.types.types) b) what ≡ true
        → result_fits p.types p.blocks seen b e ≡ true → (k : ℕ) → ReturnFits o p m (Some (k, what)) e
    returned_fits None what e h i k = never h
    returned_fits (Some ty) what None h i k = never i
    returned_fits (Some ty) what (Some e) h i k = typed_fits e ty what h i

    return_fits : (r : Option (ℕ × Scalar)) (e : Option Expr)
        → list_all (holds_scalar p.types p.blocks) (option_to_list r) ≡ true
        → result_fits p.types p.blocks seen (result_type p.blocks r) e ≡ true → ReturnFits o p m r e
    return_fits None None h i = tt
    return_fits None (Some e) h i = never i
    return_fits (Some r) e h i = returned_fits (block_type (slice_get p.blocks r.0)) r.1 e
        (and_parts (holds_scalar p.types p.blocks r) true h).0 i r.0

    pub simple_operands : (here : ℕ) (r : Option (ℕ × Scalar)) (w : Simple)
        → list_all (holds_scalar p.types p.blocks) (option_to_list r) ≡ true
        → simple_fits p here (result_type p.blocks r) w seen ≡ true → SimpleOperandsFit o p m r w
    simple_operands here r nothing h i = tt
    simple_operands here r (eval e) h i = tested_fits e i
    simple_operands here r (assign what a e) h i =
        let s = type_where p.types p.blocks seen (λ u. has_scalar u what)
        (λ ty. place_has p.types p.blocks seen a ty && has_type p.types p.blocks seen e ty) i in
        let both = and_parts (place_has p.types p.blocks seen a s.0) (has_type p.types p.blocks seen e s.0) s.2 in
        (place_lies o p fit seen m bytes a s.0 both.0, typed_fits e s.0 what s.1 both.1)
    simple_operands here r (clear a ty) h i =
        place_lies o p fit seen m bytes a ty
        (and_parts (place_has p.types p.blocks seen a ty) (is_some (size p.types ty)) i).0
    simple_operands here r (copy_aggregate a b ty) h i =
        let s = three (place_has p.types p.blocks seen a ty) (place_has p.types p.blocks seen b ty)
        (is_some (size p.types ty)) i in
        (place_lies o p fit seen m bytes a ty s.0, place_lies o p fit seen m bytes b ty s.1)
    simple_operands here r (copy_bytes a b n) h i =
        let s = three (is_length n) (is_address p.types p.blocks seen a) (is_address p.types p.blocks seen b) i in
        (address_fits a s.1, address_fits b s.2)
    simple_operands here r (fill a e n) h i =
        let s = three (is_length n) (is_address p.types p.blocks seen a)
        (has_sort p.types p.blocks seen e (integer U8)) i in
        (address_fits a s.1, expr_fits o p fit seen m bytes e (integer U8) s.2)
    simple_operands here r (input t d) h i = input_fits t d i
    simple_operands here r (output t e) h i = expr_fits o p fit seen m bytes e (integer t) i
    simple_operands here r (read_bytes e n) h i = address_fits e
        (and_parts (is_length n) (is_address p.types p.blocks seen e) i).1
    simple_operands here r (write_bytes e n) h i = address_fits e
        (and_parts (is_length n) (is_address p.types p.blocks seen e) i).1
    simple_operands here r (returns e) h i = return_fits r e h i

    -- ---- calls

    arguments : (params : List (ℕ × Scalar)) (es : List Expr) → list_all (holds_scalar p.types p.blocks) params ≡ true
        → arguments_fit p.types p.blocks seen params es ≡ true → ArgumentsFit o p m params es
    arguments [] [] h i = tt
    arguments [] (e ∷ es) h i = never i
    arguments (b ∷ params) [] h i = never i
    arguments (b ∷ params) (e ∷ es) h i =
        let s = and_parts (holds_scalar p.types p.blocks b) (list_all (holds_scalar p.types p.blocks) params) h in
        let q = split (block_type (slice_get p.blocks b.0)) refl s.0 in
        (q.0, arguments params es s.1 q.1)
      where
        split : (ty : Option ℕ) → block_type (slice_get p.blocks b.0) ≡ ty
            → has_scalar (option_and_then (slice_get p.types.types) ty) b.1 ≡ true
            → ValueSatisfies o p m e (ValueFits p b.1) × (arguments_fit p.types p.blocks seen params es ≡ true)
        split None q k = never k
        split (Some ty) q k =
            let s = and_parts (has_type p.types p.blocks seen e ty) (arguments_fit p.types p.blocks seen params es)
            (rw q at i) in
            (typed_fits e ty b.1 k s.0, s.1)

    received_fits : (b : Option ℕ) (r : ℕ × Scalar) (d : Dest)
        → has_scalar (option_and_then (slice_get p.types.types) b) r.1 ≡ true
        → takes_result p.types p.blocks seen b (Some d) ≡ true → ReceivedFits o p m (Some r) (Some d)
    received_fits None r d h i = never h
    received_fits (Some ty) r d h i =
        let s = type_where p.types p.blocks seen (λ u. has_scalar u d.what)
        (λ u. can_take p.types p.blocks seen d.cast (ty_at p.types p.blocks seen ty)
        (ty_at p.types p.blocks seen u) (nat_eq ty u) && place_has p.types p.blocks seen d.place u) i in
        let both = and_parts
        (can_take p.types p.blocks seen d.cast (ty_at p.types p.blocks seen ty) (ty_at p.types p.blocks seen s.0)
        (nat_eq ty s.0)) (place_has p.types p.blocks seen d.place s.0) s.2 in (
          place_lies o p fit seen m bytes d.place s.0 both.1,
          weaker (result_value o p m r) (ValueFits p r.1)
              (λ v. ValueFits p r.1 v × ValueFits p d.what (converted d.what v))
              (λ v f. (
                f,
                converted_fits p p.types p.blocks seen (ty_at p.types p.blocks seen ty)
                    (ty_at p.types p.blocks seen s.0) d.cast (nat_eq ty s.0) r.1 d.what h s.1 both.0 v f,
              ))
              (loaded_fits p o (model o p) (size_at o p r.0) m r.1 r.0 0 bytes),
        )

    receive_fits : (r : Option (ℕ × Scalar)) (d : Option Dest)
        → list_all (holds_scalar p.types p.blocks) (option_to_list r) ≡ true
        → takes_result p.types p.blocks seen (result_type p.blocks r) d ≡ true → ReceivedFits o p m r d
    receive_fits r None h i = tt
    receive_fits None (Some d) h i = never i
    receive_fits (Some r) (Some d) h i = received_fits (block_type (slice_get p.blocks r.0)) r d
        (and_parts (holds_scalar p.types p.blocks r) true h).0 i

    pub call_operands : (here : ℕ) (result : Option ℕ) (f : Option Function) (es : List Expr) (d : Option Dest)
        → ((g : Function) → f ≡ Some g → Holds p g) → call_fits p here result f es d seen ≡ true
        → CallOperandsFit o p m f es d
    call_operands here result None es d known h = never h
    call_operands here result (Some f) es d known h =
        let s = and_parts (arguments_fit p.types p.blocks seen f.params es)
        (takes_result p.types p.blocks seen (result_type p.blocks f.result) d) h in
        let k = known f refl in
        (arguments f.params es k.params s.0, receive_fits f.result d k.result s.1)

-- a callee is the function of its number
pub callee_at : (p : Program) (here k : ℕ) (f : Function) → callee_of p here k ≡ Some f → slice_get p.functions k ≡ Some f
callee_at p here k f h = split (nat_lt k here) h
  where
    split : (t : Bool) → (if t then slice_get p.functions k else None) ≡ Some f → slice_get p.functions k ≡ Some f
    split true e = e
    split false e = absurd (cc)

pub known_callee : (p : Program) (here k : ℕ) → ((j : ℕ) (g : Function) → slice_get p.functions j ≡ Some g → Holds p g)
    → (g : Function) → callee_of p here k ≡ Some g → Holds p g
known_callee p here k known g e = known k g (callee_at p here k g e)

-- ---- statements

module _ (o : Order) (p : Program) (fit : blocks_fit p.types p.blocks ≡ true) (m : Memory) (bytes : MemoryFits p m)
    (here : ℕ) (r : Option (ℕ × Scalar))
    (known : (j : ℕ) (g : Function) → slice_get p.functions j ≡ Some g → Holds p g)
    (holds : list_all (holds_scalar p.types p.blocks) (option_to_list r) ≡ true) where
  mutual
    what_operands : (w : What) (seen : List ℕ) (i : Bool) → what_fits p here (result_type p.blocks r) w seen i ≡ true
        → WhatOperandsFit o p m here r w
    what_operands (simple w) seen i h = simple_operands o p fit m bytes seen here r w holds h
    what_operands (call k es d) seen i h =
        call_operands o p fit m bytes seen here (result_type p.blocks r) (callee_of p here k) es d
        (known_callee p here k known) h
    what_operands (if_else e a b) seen i h =
        let s = three (is_tested p.types p.blocks seen e) (stmts_fit p here (result_type p.blocks r) a seen i)
        (stmts_fit p here (result_type p.blocks r) b seen i) h in
        (tested_fits o p fit m bytes seen e s.0, all_operands a seen i s.1, all_operands b seen i s.2)
    what_operands (loop first e a b) seen i h =
        let s = three (is_tested p.types p.blocks seen e) (stmts_fit p here (result_type p.blocks r) a seen true)
        (are_plain b && stmts_fit p here (result_type p.blocks r) b seen i) h in
        let q = and_parts (are_plain b) (stmts_fit p here (result_type p.blocks r) b seen i) s.2 in
        (tested_fits o p fit m bytes seen e s.0, all_operands a seen true s.1, all_operands b seen i q.1)
    what_operands break_loop seen i h = tt
    what_operands continue_loop seen i h = tt
    what_operands (by_order named a b) seen i h =
        let s = and_parts (stmts_fit p here (result_type p.blocks r) a seen i)
        (stmts_fit p here (result_type p.blocks r) b seen i) h in
        (all_operands a seen i s.0, all_operands b seen i s.1)
    what_operands (scope own a) seen i h = all_operands a (own ++ seen) i h

    pub all_operands : (ss : Stmts) (seen : List ℕ) (i : Bool)
        → stmts_fit p here (result_type p.blocks r) ss seen i ≡ true → AllOperandsFit o p m here r ss
    all_operands stop seen i h = tt
    all_operands (more l w rest) seen i h =
        let s = and_parts (what_fits p here (result_type p.blocks r) w seen i)
        (stmts_fit p here (result_type p.blocks r) rest seen i) h in
        (what_operands w seen i s.0, all_operands rest seen i s.1)

-- ---- programs

function_at : (p : Program) (fs : List Function) (n k : ℕ) (f : Function) → functions_fit p n fs ≡ true
    → slice_get fs k ≡ Some f → function_fits p (n + k) f ≡ true
function_at p [] n k f h e = absurd (cc)
function_at p (g ∷ fs) n zero f h e =
    let same : g ≡ f = cc in
    let here : n ≡ n + 0 = omega arith in
    subst (λ j. function_fits p j f ≡ true) here
    (subst (λ x. function_fits p n x ≡ true) same
    (and_parts (function_fits p n g) (functions_fit p (suc n) fs) h).0)
function_at p (g ∷ fs) n (suc k) f h e =
    let here : suc n + k ≡ n + suc k = omega arith in
    subst (λ j. function_fits p j f ≡ true) here
    (function_at p fs (suc n) k f (and_parts (function_fits p n g) (functions_fit p (suc n) fs) h).1 e)

module _ (p : Program) (formed : is_well_formed p ≡ true) where
  -- its first values and functions fit, and main is one
  pub sizes : blocks_fit p.types p.blocks ≡ true
  sizes =
      let s = and_parts _ (is_main (slice_get p.functions p.main)) formed in
      let q = and_parts _ (functions_fit p 0 p.functions) s.0 in
      let r = and_parts _ (are_listed p.blocks (flat_map own_blocks p.functions)) q.0 in
      (and_parts (blocks_fit p.types p.blocks)
      (list_all (init_fits p.types p.blocks) p.init && are_different_leaves p.init) r.0).0

  parts : (list_all (init_fits p.types p.blocks) p.init ≡ true) × (functions_fit p 0 p.functions ≡ true) × (is_main
      (slice_get p.functions p.main) ≡ true)
  parts =
      let s = and_parts _ (is_main (slice_get p.functions p.main)) formed in
      let q = and_parts _ (functions_fit p 0 p.functions) s.0 in
      let r = and_parts _ (are_listed p.blocks (flat_map own_blocks p.functions)) q.0 in
      let i = and_parts (blocks_fit p.types p.blocks)
      (list_all (init_fits p.types p.blocks) p.init && are_different_leaves p.init) r.0 in
      ((and_parts (list_all (init_fits p.types p.blocks) p.init) (are_different_leaves p.init) i.1).0, q.1, s.1)

  pub first_values_fit : list_all (init_fits p.types p.blocks) p.init ≡ true
  first_values_fit = parts.0

  -- its parameters, its result, its statements
  pub fits_at : (k : ℕ) (f : Function) → slice_get p.functions k ≡ Some f
      → (list_all (holds_scalar p.types p.blocks) f.params ≡ true) × (list_all (holds_scalar p.types p.blocks)
      (option_to_list f.result) ≡ true)
      × (stmts_fit p k (result_type p.blocks f.result) f.body (frame_of f) false ≡ true)
  fits_at k f e =
      let whole : function_fits p k f ≡ true = subst (λ j. function_fits p j f ≡ true) (omega arith)
      (function_at p p.functions 0 k f parts.1 e) in
      three (list_all (holds_scalar p.types p.blocks) f.params)
      (list_all (holds_scalar p.types p.blocks) (option_to_list f.result))
      (stmts_fit p k (result_type p.blocks f.result) f.body (frame_of f) false) whole

  pub holds_at : (k : ℕ) (f : Function) → slice_get p.functions k ≡ Some f → Holds p f
  holds_at k f e = let s = fits_at k f e in record { params = s.0; result = s.1 }

  int_result : (o : Order) (m : Memory) → MemoryFits p m → (r : Option (ℕ × Scalar)) → is_int_result r ≡ true
      → MainResultFits o p m r
  int_result o m bytes None h = never h
  int_result o m bytes (Some r) h =
      subst (λ w. IfHas (loaded o (model o p) (size_at o p r.0) m w r.0 0) (ValueFits p (Number I32)))
      (sym (same_scalar r.1 (Number I32) h))
      (loaded_fits p o (model o p) (size_at o p r.0) m (Number I32) r.0 0 bytes)

  main_result : (o : Order) (m : Memory) → MemoryFits p m → (f : Option Function) → is_main f ≡ true
      → MainResultFits o p m (result_in f)
  main_result o m bytes None h = never h
  main_result o m bytes (Some f) h = int_result o m bytes f.result
      (and_parts (nat_eq (length f.params) 0) (is_int_result f.result) h).1

  pub main_fits : (o : Order) (m : Memory) → MemoryFits p m → MainResultFits o p m (result_in (main_function o p))
  main_fits o m bytes = main_result o m bytes (slice_get p.functions p.main) parts.2

pub statements_fit : StatementsFit
statements_fit p formed o m bytes here f e =
    let s = fits_at p formed here f e in
    all_operands o p (sizes p formed) m bytes here f.result (holds_at p formed) s.1 f.body (frame_of f) false s.2

pub mains_fit : MainsFit
mains_fit p formed o m bytes = main_fits p formed o m bytes
