-- Stores, copies and calls are as their types say.
use Rattle.std.proofs.Common.{◌≡◌, ℕ, ◌<◌, nat_le, nat_eq, Bool, true, false, cond, ◌&&◌, ◌||◌, not, List, [], ◌∷◌}
use Rattle.ep_typing.specs.SameTypes.{int_itself}
use Rattle.ep_typing.specs.SameTypes.{same_types}
use Rattle.std.proofs.lemmas.Bool.{not-false}
use Rattle.std.proofs.lemmas.Bool.{and_from, or_left, or_right}
use Rattle.std.proofs.Common.{length, map, slice_get, Option, Some, None, option_map, option_and_then, unwrap_or}
use Rattle.std.proofs.Common.{is_some, Result, Ok, Err, refl, sym, ap, ◌∙◌, subst, ◌⊎◌, inl, inr, arith, ℤ, pos}
use Rattle.std.proofs.Common.{negsuc, if◌then◌else◌}
use Rattle.std.proofs.lemmas.Bool.Decides.{nat_tests}
use Rattle.std.proofs.lemmas.Bool.{and_parts}
use Rattle.ep_int.specs.declared.types.IntType.{IntType}
use Rattle.ep_int.specs.declared.types.Scalar.TheVariants as scalars
use Rattle.ep_layout.specs.declared.types.Ty.TheVariants as rows
use Rattle.ep_layout.specs.Table.{Table, size}
use Rattle.ep_core.specs.Program as core
use Rattle.ep_core.specs.Program.{Block, Expr, Place}
use Rattle.ep_core.specs.WellFormed as formed
use Rattle.ep_core.specs.WellFormed.{can_take, has_scalar, has_sort, has_type, integer, is_address, is_length}
use Rattle.ep_core.specs.WellFormed.{is_return, is_same_scalar, place_has, pointer_to as pointing}
use Rattle.ep_core.specs.WellFormed.{sort_of, takes_input}
use Rattle.ep_core.proofs.Sorts.{never}
use Rattle.ep_bitfield.specs.Laws.{is_place_of}
use Rattle.ep_typing.specs.declared.types.CType.{CType}
use Rattle.ep_typing.specs.Results.{lowest, needed}
use Rattle.ep_typing.specs.Types.{int_of, int_type, is_aggregate, is_array, is_integer, is_pointer, is_same}
use Rattle.ep_typing.specs.Types.{is_scalar, is_void, known_number, number_in, scalar_of, size_of_type, target}
use Rattle.ep_typing.specs.Types.{void_type}
use Rattle.ep_typing.specs.Env.{Signature}
use Rattle.ep_typing.specs.Constant.{constant_of, count_in, count_of}
use Rattle.ep_typing.specs.Operand.{Operand, Value, are_scalars, fitted, function, is_mixed, place, plain_value}
use Rattle.ep_typing.specs.Operand.{value, value_of}
use Rattle.ep_typing.specs.Operators.{bare, operated}
use Rattle.ep_typing.specs.Calls.{all_passed, as_any_pointer, as_length, of_type, passed, surplus}
use Rattle.ep_typing.specs.Typing.{assignable, assigned, copied, dest, moves_aggregate, not_stored, put, stored}
use Rattle.ep_typing.specs.Typing.{taken, updated}
use Rattle.ep_well_formed_laws.specs.Numbers.{HasNumber, IsMade, IsTable, type_number}
use Rattle.ep_well_formed_laws.specs.Environments.{ArePassed, IsPassed}
use Rattle.ep_well_formed_laws.specs.Operands.{Computes, OperandFits, PlaceFits, ValueFits, ValuesFit}
use Rattle.ep_well_formed_laws.specs.Statements.{ArgumentsFit, SimpleFits, TakesResult, around}
use Rattle.ep_well_formed_laws.proofs.Tables.{number_at, target_number}
use Rattle.ep_well_formed_laws.proofs.Extents.{same_size}
use Rattle.ep_well_formed_laws.proofs.Tests.{after, both_not, either_way, given, if_not, if_so}
use Rattle.ep_well_formed_laws.proofs.Tests.{needed_is, some_type_is, unless}
use Rattle.ep_well_formed_laws.proofs.Values.{bare_is, fitted_fits, null_is, number_below, scalar_is}
use Rattle.ep_well_formed_laws.proofs.Values.{self_may_be, target_made}
use Rattle.ep_well_formed_laws.proofs.Operators.{operated_fits}
use Rattle.ep_well_formed_laws.proofs.Parts.{aggregate_not_void, aggregate_row, integer_row, numbered_if}
use Rattle.ep_well_formed_laws.proofs.Parts.{scalar_not_void, value_fits}

-- ---- arguments without a parameter

abbrev wrong : Bool → Result Expr ℕ
wrong b = if b then Err 32 else Err 39

not_wrong : (b : Bool) (r : Result (List Expr) ℕ) (es : List Expr) → lowest (wrong b) r ≡ Ok es → ⊥
not_wrong true (Ok xs) es e = cc
not_wrong true (Err k) es e = cc
not_wrong false (Ok xs) es e = cc
not_wrong false (Err k) es e = cc

pub no_surplus : (v : Value) (r : Result (List Expr) ℕ) (es : List Expr) → lowest (surplus v) r ≡ Ok es → ⊥
no_surplus v r es e = not_wrong (is_aggregate v.ty) r es e

-- ---- scalars of the table

module _ (t : Table) (bs : List Block) (seen : List ℕ) (table : IsTable t) (some : 0 < length t.types) where
  abbrev S : Expr → formed.Sort → Bool
  S = has_sort t bs seen

  abbrev P : Place → ℕ → Bool
  P = place_has t bs seen

  pub scalar_row : (c : CType) (n : ℕ) → is_scalar c ≡ true → type_number t c ≡ Some n
      → has_scalar (slice_get t.types n) (scalar_of c) ≡ true
  scalar_row c n s h = elim (scalar_is c s) [
    | inl p ↦
        let r = target_number t c n p h in
        let what : scalar_of c ≡ scalars.Pointer = if_so (is_pointer c) scalars.Pointer (scalars.Int (int_of c)) p in
        rw r.2 (ap (is_same_scalar scalars.Pointer) what)
    | inr p ↦
        let what : scalar_of c ≡ scalars.Int (int_of c) = if_not (is_pointer c) scalars.Pointer (scalars.Int (int_of c)) p.0 in
        rw (integer_row t c n p.1 h) (ap (is_same_scalar (scalars.Int (int_of c))) what ∙ int_itself (int_of c))
  ]

  pub has_type_is : (c : CType) (n : ℕ) (e : Expr) → is_scalar c ≡ true → type_number t c ≡ Some n → Computes t bs seen e c
      → has_type t bs seen e n ≡ true
  has_type_is c n e s h f = elim (scalar_is c s) [
    | inl p ↦
        let r = target_number t c n p h in
        let q : sort_of (slice_get t.types n) ≡ Some (pointing r.0) = rw r.2 refl in
        rw q (f.points p r.0 (rw r.1 (self_may_be r.0)))
    | inr p ↦
        let q : sort_of (slice_get t.types n) ≡ Some (integer (int_of c)) = rw (integer_row t c n p.1 h) refl in
        rw q (f.number p.1)
  ]

  -- ---- what takes a value

  -- the types of a place that holds something, and of what it points to, are in the table
  pub place_number : (p : Place) (c : CType) → PlaceFits t bs seen p c → is_void c ≡ false
      → (n : ℕ) × (type_number t c ≡ Some n) × (P p n ≡ true)
  place_number p c h v =
      let n = numbered_if t c h.made v in (n.0, n.1, h.has n.0 (rw n.1 (self_may_be n.0)))

  place_target : (p : Place) (c : CType) → PlaceFits t bs seen p c → is_pointer c ≡ true → IsMade t (target c)
  place_target p c h q = target_made t c (numbered_if t c h.made (rw q refl)) q

  module _ (fs : List Signature) (result : Option ℕ) where
    -- a simple statement that fits, and doesn't return
    abbrev pub IsDone : core.Simple → Type 0
    IsDone w = SimpleFits t bs fs result w seen × (is_return w ≡ false)

    abbrev O : Operand → Type 0
    O = OperandFits t bs fs seen

    stored_place : (p : Place) (c : CType) (v : Value) (w : core.Simple) → PlaceFits t bs seen p c → ValueFits t bs seen v
        → stored (place p c) v ≡ Ok w → IsDone w
    unfolding stored
    stored_place p c v w h f e =
        let x = after (fitted c v) _ w e in
        let same : core.assign (scalar_of c) p x.0 ≡ w = (let q = x.2 in cc) in
        let g = fitted_fits t bs seen some c v x.0 f (place_target p c h) x.1 in
        let n = place_number p c h (scalar_not_void c g.0) in
        subst IsDone same (
          some_type_is t bs seen (λ u. has_scalar u (scalar_of c))
              (λ ty. P p ty && has_type t bs seen x.0 ty) n.0 (number_below t c n.0 n.1) (scalar_row c n.0 g.0 n.1)
              (and_from _ _ n.2 (has_type_is c n.0 x.0 g.0 n.1 g.1)),
          refl,
        )

    not_stored_is : {A : Type 0} (u v : Value) (w : A) → not_stored u v ≡ Ok w → ⊥
    unfolding not_stored
    not_stored_is u v w e =
        let a = unless (not (are_scalars u.ty v.ty)) 32 _ w e in
        let b = unless (is_mixed u.ty v) 34 _ w a.1 in absurd (let q = b.1 in cc)

    pub stored_fits : (x : Operand) (v : Value) (w : core.Simple) → O x → ValueFits t bs seen v → stored x v ≡ Ok w → IsDone w
    unfolding stored
    stored_fits (place p c) v w h f e = stored_place p c v w h f e
    stored_fits (value u) v w h f e = absurd (not_stored_is u v w e)
    stored_fits (function k) v w h f e = absurd cc

    copied_fits : (c : CType) (p q : Place) (w : core.Simple) → PlaceFits t bs seen p c → PlaceFits t bs seen q c
        → is_aggregate c ≡ true → copied t c p q ≡ Ok w → IsDone w
    unfolding copied
    copied_fits c p q w h k a e =
        let x = after (needed 33 (size_of_type t c)) _ w e in
        let z = needed_is 33 (size_of_type t c) x.0 x.1 in
        let n = place_number p c h (aggregate_not_void c a) in
        let m = place_number q c k (aggregate_not_void c a) in
        let r = number_at t table.built n.0 _ (aggregate_row t c n.0 a n.1) in
        let ty : known_number t (rows.Aggregate (number_in c.base)) ≡ n.0 = ap (λ (o : Option ℕ). unwrap_or o 0) r in
        let both : m.0 ≡ n.0 = (let y = sym n.1 ∙ m.1 in cc) in
        let same : core.copy_aggregate p q (known_number t (rows.Aggregate (number_in c.base))) ≡ w = (let y = x.2 in cc) in
        let sized : size t n.0 ≡ Some x.0 = sym (same_size t table.built c n.0 n.1) ∙ z in
        subst IsDone same (
          subst (λ (j : ℕ). (P p j && P q j && is_some (size t j)) ≡ true) (sym ty)
              (and_from _ _ (and_from _ _ n.2 (subst (λ (j : ℕ). P q j ≡ true) both m.2)) (rw sized refl)),
          refl,
        )

    put_fits : (x y : Operand) (v : Value) (w : core.Simple) → O x → O y → ValueFits t bs seen v → put t x y v ≡ Ok w
        → IsDone w
    unfolding put
    put_fits (place p c) (place q d) v w h k f e = by (moves_aggregate c d) refl e
      where
        by : (b : Bool) → moves_aggregate c d ≡ b → cond b (copied t c p q) (stored (place p c) v) ≡ Ok w → IsDone w
        by true m r =
            let s = and_parts (is_aggregate c) (is_same c d) m in
            let same = sym (same_types c d s.1) in
            copied_fits c p q w h (subst (PlaceFits t bs seen q) same k) s.0 r
        by false m r = stored_place p c v w h f r
    put_fits (place p c) (value u) v w h k f e = stored_place p c v w h f e
    put_fits (place p c) (function g) v w h k f e = stored_place p c v w h f e
    put_fits (value u) y v w h k f e = stored_fits (value u) v w h f e
    put_fits (function g) y v w h k f e = stored_fits (function g) v w h f e

    assignable_fits : (x z : Operand) → O x → assignable x ≡ Ok z → O z
    unfolding assignable
    assignable_fits (place p c) z h e =
        let a = unless (is_void c || is_array c) 32 (Ok (place p c)) z e in
        let same : place p c ≡ z = (let q = a.1 in cc) in subst O same h
    assignable_fits (value v) z h e = let same : value v ≡ z = cc in subst O same h
    assignable_fits (function f) z h e = absurd cc

    pub assigned_fits : (x y : Operand) (w : core.Simple) → O x → O y → assigned t x y ≡ Ok w → IsDone w
    unfolding assigned
    assigned_fits x y w h k e =
        let z = after (assignable x) _ w e in
        let v = after (value_of t y) _ w z.2 in
        put_fits z.0 y v.0 w (assignable_fits x z.0 h z.1) k (value_fits t bs fs seen table some y v.0 k v.1) v.2

    pub updated_fits : (m : ℕ) (x old y : Operand) (w : core.Simple) → O x → O old → O y → updated t m x old y ≡ Ok w → IsDone w
    unfolding updated
    updated_fits m x old y w h o k e =
        let u = after (value_of t old) _ w e in
        let v = after (value_of t y) _ w u.2 in
        let s = after (operated t m u.0 v.0) _ w v.2 in
        assigned_fits x (value s.0) w h
        (operated_fits t bs seen table some m u.0 v.0 s.0 (value_fits t bs fs seen table some old u.0 o u.1)
        (value_fits t bs fs seen table some y v.0 k v.1) s.1) s.2

    -- ---- results

    abbrev IsResult : CType → Type 0
    IsResult r = (r ≡ void_type) ⊎ IsPassed t r

    result_scalar : (r : CType) → IsResult r → is_scalar r ≡ true → HasNumber t r
    result_scalar r (inl e) s = never (subst (λ (d : CType). is_scalar d ≡ true) e s)
    result_scalar r (inr p) s = p.1

    -- what a place takes
    record IsTaken (p : Place) (c r : CType) : Type 0 where
      taker : is_scalar c ≡ true
      given : is_scalar r ≡ true
      numbers : is_pointer c ≡ false → is_integer r ≡ true
      pointers : is_pointer c ≡ true → is_pointer r ≡ true

    taken_is : (p : Place) (c r : CType) (e : Expr) → fitted c (plain_value core.null_value r) ≡ Ok e → IsTaken p c r
    unfolding fitted
    taken_is p c r e q =
        let v = plain_value core.null_value r in
        let a = unless (not (are_scalars c r)) 32 _ e q in
        let b = unless (is_mixed c v) 34 _ e a.1 in
        let s = and_parts (is_scalar c) (is_scalar r) (not-false (are_scalars c r) a.0) in
        record {
          taker = s.0;
          given = s.1;
          numbers = λ n. elim (scalar_is r s.1) [
            | inl k ↦ both_not (is_pointer r) k (sym (if_not _ _ _ n) ∙ b.0)
            | inr k ↦ k.1
          ];
          pointers = λ n. elim (scalar_is r s.1) [
            | inl k ↦ k
            | inr k ↦ both_not (is_integer r && true) (and_from _ _ k.1 refl) (sym (if_so _ _ _ n) ∙ b.0)
          ];
        }

    same_eq : (m n : ℕ) → m ≡ n → nat_eq m n ≡ true
    same_eq m n e = grind (arith, nat_tests)

    can_take_is : (c r : CType) (n m : ℕ) → is_scalar c ≡ true → (is_pointer c ≡ false → is_integer r ≡ true)
        → (is_pointer c ≡ true → is_pointer r ≡ true) → type_number t c ≡ Some n → type_number t r ≡ Some m
        → can_take t bs seen (is_pointer c && not (is_same c r)) (slice_get t.types m) (slice_get t.types n) (nat_eq m n) ≡ true
    can_take_is c r n m s f g h k = elim (scalar_is c s) [
      | inl p ↦
          let x = target_number t c n p h in
          let y = target_number t r m (g p) k in
          rw (x.2, y.2) (by (is_same c r) refl p)
      | inr p ↦ rw (integer_row t c n p.1 h, integer_row t r m (f p.0) k) refl
    ]
      where
        by : (b : Bool) → is_same c r ≡ b → is_pointer c ≡ true → ((is_pointer c && not b) || nat_eq m n) ≡ true
        by true q p =
            let same : type_number t c ≡ Some m = subst (λ (d : CType). type_number t d ≡ Some m) (sym (same_types c r q)) k in
            let both : m ≡ n = (let z = sym h ∙ same in cc) in or_right (is_pointer c && not true) (nat_eq m n) (same_eq m n both)
        by false q p = or_left _ _ (and_from _ _ p refl)

    pub taken_fits : (x : Operand) (r : CType) (d : core.Dest) → O x → IsResult r → taken x r ≡ Ok d
        → TakesResult t bs fs result r (Some d) seen
    unfolding taken
    taken_fits (place p c) r d h u e =
        let x = after (fitted c (plain_value core.null_value r)) _ d e in
        let same : dest p c r ≡ d = (let q = x.2 in cc) in
        let k = taken_is p c r x.0 x.1 in
        let m = result_scalar r u k.given in
        let n = place_number p c h (scalar_not_void c k.taker) in
        subst (λ (y : core.Dest). TakesResult t bs fs result r (Some y) seen) same (
          m.0,
          m.1,
          some_type_is t bs seen (λ u. has_scalar u (scalar_of c))
              (λ u. can_take t bs seen (is_pointer c && not (is_same c r)) (slice_get t.types m.0) (slice_get t.types u) (nat_eq m.0 u) && P p u)
              n.0 (number_below t c n.0 n.1) (scalar_row c n.0 k.taker n.1)
              (and_from _ _ (can_take_is c r n.0 m.0 k.taker k.numbers k.pointers n.1 m.1) n.2),
        )
    taken_fits (value v) r d h u e = absurd (not_stored_is v (plain_value core.null_value r) d e)
    taken_fits (function f) r d h u e = absurd cc

    -- an input goes to a number
    pub input_taken : (x : Operand) (i : IntType) (d : core.Dest) → O x → taken x (int_type i) ≡ Ok d
        → takes_input t bs seen (Some d) ≡ true
    unfolding taken
    input_taken (place p c) i d h e =
        let x = after (fitted c (plain_value core.null_value (int_type i))) _ d e in
        let same : dest p c (int_type i) ≡ d = (let q = x.2 in cc) in
        let k = taken_is p c (int_type i) x.0 x.1 in
        let n = place_number p c h (scalar_not_void c k.taker) in
        subst (λ (y : core.Dest). takes_input t bs seen (Some y) ≡ true) same (elim (scalar_is c k.taker) [
          | inl q ↦ never (k.pointers q)
          | inr q ↦ some_type_is t bs seen (λ u. has_scalar u (scalar_of c) && not (has_scalar u scalars.Pointer)) (P p) n.0
              (number_below t c n.0 n.1)
              (and_from _ _ (scalar_row c n.0 k.taker n.1) (rw (integer_row t c n.0 q.1 n.1) refl)) n.2
        ])
    input_taken (value v) i d h e = absurd (not_stored_is v (plain_value core.null_value (int_type i)) d e)
    input_taken (function f) i d h e = absurd cc

    -- a destination is a number
    pub record TakesNumber (d : core.Dest) : Type 0 where
      pub kind : IntType
      pub what : d.what ≡ scalars.Int kind
      pub there : is_place_of (around t bs) seen kind d.place ≡ true

    pub number_taken : (x : Operand) (i : IntType) (d : core.Dest) → O x → taken x (int_type i) ≡ Ok d → TakesNumber d
    unfolding taken
    number_taken (place p c) i d h e =
        let x = after (fitted c (plain_value core.null_value (int_type i))) _ d e in
        let same : dest p c (int_type i) ≡ d = (let q = x.2 in cc) in
        let k = taken_is p c (int_type i) x.0 x.1 in
        let n = place_number p c h (scalar_not_void c k.taker) in
        subst TakesNumber same (elim (scalar_is c k.taker) [
          | inl q ↦ never (k.pointers q)
          | inr q ↦ record {
            kind = int_of c;
            what = if_not (is_pointer c) scalars.Pointer (scalars.Int (int_of c)) q.0;
            there = some_type_is t bs seen (λ u. has_scalar u (scalars.Int (int_of c))) (P p) n.0
                (number_below t c n.0 n.1) (rw (integer_row t c n.0 q.1 n.1) (int_itself (int_of c))) n.2;
          }
        ])
    number_taken (value v) i d h e = absurd (not_stored_is v (plain_value core.null_value (int_type i)) d e)
    number_taken (function f) i d h e = absurd cc

    pub no_void_taken : (x : Operand) (d : core.Dest) → taken x void_type ≡ Ok d → ⊥
    unfolding taken
    no_void_taken (place p c) d e =
        let x = after (fitted c (plain_value core.null_value void_type)) _ d e in
        never (taken_is p c void_type x.0 x.1).given
    no_void_taken (value v) d e = not_stored_is v (plain_value core.null_value void_type) d e
    no_void_taken (function f) d e = absurd cc

    -- ---- arguments

    pub lowest_is : {A : Type 0} (r : Result A ℕ) (rs : Result (List A) ℕ) (ys : List A) → lowest r rs ≡ Ok ys
        → (x : A) × (xs : List A) × (r ≡ Ok x) × (rs ≡ Ok xs) × (x ∷ xs ≡ ys)
    lowest_is (Ok x) (Ok xs) ys h = (x, xs, refl, refl, cc)
    lowest_is (Ok x) (Err k) ys h = absurd cc
    lowest_is (Err j) (Ok xs) ys h = absurd cc
    lowest_is (Err j) (Err k) ys h = absurd cc

    pub arguments_fit : (cs : List CType) (vs : List Value) (es : List Expr) → ArePassed t cs → ValuesFit t bs seen vs
        → all_passed (map of_type cs) vs ≡ Ok es → ArgumentsFit t bs fs result cs es seen
    unfolding all_passed passed
    arguments_fit [] [] es h f e = let same : [] ≡ es = cc in subst (λ xs. ArgumentsFit t bs fs result [] xs seen) same tt
    arguments_fit [] (v ∷ vs) es h f e = absurd (no_surplus v (all_passed [] vs) es e)
    arguments_fit (c ∷ cs) [] es h f e = absurd cc
    arguments_fit (c ∷ cs) (v ∷ vs) es h f e =
        let x = lowest_is (fitted c v) (all_passed (map of_type cs) vs) es e in
        let n = h.0.1 in
        let g = fitted_fits t bs seen some c v x.0 f.0 (target_made t c n) x.2 in
        subst (λ xs. ArgumentsFit t bs fs result (c ∷ cs) xs seen) x.4
        ((n.0, n.1, has_type_is c n.0 x.0 g.0 n.1 g.1), arguments_fit cs vs x.1 h.1 f.1 x.3)

    count_is_length : (v : Value) (n : ℕ) → count_of v ≡ Some n → is_length n ≡ true
    unfolding count_of
    count_is_length v n h = by (constant_of v) h
      where
        by_number : (z : ℤ) → count_in z ≡ Some n → is_length n ≡ true
        by_number (pos k) e = by_test (nat_le 1 k && nat_le k 65536) refl e
          where
            by_test : (b : Bool) → (nat_le 1 k && nat_le k 65536) ≡ b → cond b (Some k) None ≡ Some n → is_length n ≡ true
            by_test true q r = let same : k ≡ n = cc in subst (λ (j : ℕ). is_length j ≡ true) same q
            by_test false q r = absurd cc
        by_number (negsuc k) e = absurd cc

        by : (o : Option ℤ) → option_and_then count_in o ≡ Some n → is_length n ≡ true
        by None e = absurd cc
        by (Some z) e = by_number z e

    pub any_pointer_is : (v : Value) (e : Expr) → ValueFits t bs seen v → as_any_pointer v ≡ Ok e → is_address t bs seen e ≡ true
    any_pointer_is v e f q =
        let a = unless (not (is_scalar v.ty)) 32 _ e q in
        elim (either_way (is_pointer v.ty) (Ok (bare v)) _ (Ok e) a.1) [
          | inl p ↦ let same : bare v ≡ e = (let r = p.1 in cc) in
              subst (λ x. is_address t bs seen x ≡ true) same (bare_is t bs seen some v f (inl p.0))
          | inr p ↦
              let g = given v.is_null core.null_value e 34 p.1 in
              subst (λ x. is_address t bs seen x ≡ true) g.1 (null_is t bs seen some)
        ]

    length_is : (v : Value) (e : Expr) → as_length v ≡ Ok e → (n : ℕ) × (count_of v ≡ Some n)
    length_is v e q =
        let a = unless (not (is_scalar v.ty)) 32 _ e q in
        let b = unless (is_pointer v.ty) 34 _ e a.1 in
        let s = needed_is 42 (option_map (λ (n : ℕ). v.expr) (count_of v)) e b.1 in
        some_count (count_of v) s
      where
        some_count : (o : Option ℕ) → option_map (λ (n : ℕ). v.expr) o ≡ Some e → (n : ℕ) × (o ≡ Some n)
        some_count None r = absurd cc
        some_count (Some n) r = (n, refl)

    pub counted : (v : Value) (e : Expr) → as_length v ≡ Ok e → is_length (unwrap_or (count_of v) 0) ≡ true
    counted v e q = let n = length_is v e q in rw n.1 (count_is_length v n.0 n.1)
