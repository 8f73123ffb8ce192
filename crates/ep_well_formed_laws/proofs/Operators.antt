-- What operators on two values come to computes what its type says.
use Rattle.std.proofs.Common.{◌≡◌, ℕ, ◌<◌, ◌==◌, Bool, true, false, ◌&&◌, not, if◌then◌else◌, List, length, Option}
use Rattle.ep_typing.specs.SameTypes.{int_itself}
use Rattle.ep_int.proofs.Arithmetic.{le_test}
use Rattle.ep_int.proofs.Basics.{zero_in_range}
use Rattle.std.proofs.lemmas.Bool.{not-false}
use Rattle.std.proofs.lemmas.Bool.{and_from}
use Rattle.std.proofs.Common.{Some, Ok, refl, sym, ap, ◌∙◌, subst, inl, inr, ℤ, pos, negsuc}
use Rattle.std.proofs.lemmas.Bool.{and_parts}
use Rattle.ep_int.specs.declared.types.IntType.{IntType}
use Rattle.ep_int.specs.declared.types.IntType.TheVariants.{I32}
use Rattle.ep_int.specs.declared.types.BinOp.{BinOp}
use Rattle.ep_int.specs.declared.types.BinOp.TheVariants.{Add, Sub, Xor, Shl, Shr}
use Rattle.ep_int.specs.declared.types.Cmp.{Cmp}
use Rattle.ep_int.specs.declared.types.Cmp.TheVariants.{Eq, Ne}
use Rattle.ep_int.specs.Arith.{is_in_range}
use Rattle.ep_int.specs.Types.{wrapped}
use Rattle.ep_int.proofs.Wrapping.{wrapped_in_range}
use Rattle.ep_ast.specs.Mark as mark
use Rattle.ep_layout.specs.Table.{Table, size}
use Rattle.ep_core.specs.Program as core
use Rattle.ep_core.specs.Program.{Block, Expr}
use Rattle.ep_core.specs.WellFormed as formed
use Rattle.ep_core.specs.WellFormed.{has_sort, integer, pointer_to as pointing, int_type_of, is_number}
use Rattle.ep_core.specs.WellFormed.{is_length}
use Rattle.ep_typing.specs.declared.types.CType.{CType}
use Rattle.ep_typing.specs.Results.{needed}
use Rattle.ep_typing.specs.Types.{int_of, is_integer, is_pointer, is_same, is_scalar, is_void_pointer, size_of_type}
use Rattle.ep_typing.specs.Types.{target}
use Rattle.ep_typing.specs.Operand.{Value, as_pointer, converted, plain_value, promoted_type, promoted_value}
use Rattle.ep_typing.specs.Operators.{added, are_foreign, are_integers, are_mixed, arithmetic, both, chosen}
use Rattle.ep_typing.specs.Operators.{chosen_type, common_type, compared, complemented, computed, decided, denied}
use Rattle.ep_typing.specs.Operators.{either, equated, is_null_either, kept, moved, negated, numbers_chosen, operated}
use Rattle.ep_typing.specs.Operators.{operated_on_numbers, opposite, ordered, pointers_chosen, pointers_compared}
use Rattle.ep_typing.specs.Operators.{shifted, subtracted, turned, unary_operated, binary_of, decides, ordering_of}
use Rattle.ep_well_formed_laws.specs.Numbers.{IsMade, IsTable, may_be, type_number}
use Rattle.ep_well_formed_laws.specs.Operands.{ValueFits}
use Rattle.ep_well_formed_laws.proofs.Extents.{same_size, size_is_length}
use Rattle.ep_well_formed_laws.proofs.Tests.{after, both_not, either_way, given, if_not, if_so, int_is}
use Rattle.ep_well_formed_laws.proofs.Tests.{needed_is, right_operand_is, unless}
use Rattle.ep_well_formed_laws.proofs.Values.{IsAddress, as_pointer_is, bare_is, converted_is, int_fits, pointer_fits}
use Rattle.ep_well_formed_laws.proofs.Values.{same_number, scalar_is, scalar_tested, self_may_be, unmixed_address}

-- ---- numbers of types

pub wrapped_fits : (i : IntType) (v : ℤ) → is_in_range i (wrapped i v) ≡ true
wrapped_fits i v = let r = wrapped_in_range i v in and_from _ _ (le_test _ _ r.low) (le_test _ _ r.high)

module _ (t : Table) (bs : List Block) (seen : List ℕ) (table : IsTable t) (some : 0 < length t.types) where
  abbrev S : Expr → formed.Sort → Bool
  S = has_sort t bs seen

  abbrev F : Value → Type 0
  F = ValueFits t bs seen

  -- ---- numbers

  pub binary_is : (op : BinOp) (i : IntType) (a b : Expr) → S a (integer i) ≡ true → S b (integer i) ≡ true
      → S (core.binary op i a b) (integer i) ≡ true
  binary_is op i a b h k = and_from _ _ (and_from _ _ (int_itself i) h) (right_operand_is t bs seen op b i k)

  computed_fits : (op : BinOp) (a b : Value) → F a → F b → is_integer a.ty ≡ true → is_integer b.ty ≡ true
      → F (computed op a b)
  computed_fits op a b h k p q =
      let i = common_type a b in
      int_fits t bs seen some (core.binary op i (converted i a) (converted i b)) i
      (binary_is op i (converted i a) (converted i b) (converted_is t bs seen some i a h p) (converted_is t bs seen some i b k q))

  pub arithmetic_fits : (op : BinOp) (a b v : Value) → F a → F b → arithmetic op a b ≡ Ok v → F v
  unfolding arithmetic
  arithmetic_fits op a b v h k e =
      let g = given (are_integers a b) (computed op a b) v 32 e in
      let s = and_parts (is_integer a.ty) (is_integer b.ty) g.0 in
      subst F g.1 (computed_fits op a b h k s.0 s.1)

  promoted_is : (a : Value) → F a → is_integer a.ty ≡ true → S (promoted_value a) (integer (promoted_type a)) ≡ true
  promoted_is a h p = converted_is t bs seen some (promoted_type a) a h p

  shifted_left_is : (i j : IntType) (a b : Expr) → S a (integer i) ≡ true → S b (integer j) ≡ true
      → S (core.binary Shl i a b) (integer i) ≡ true
  shifted_left_is i j a b h k = and_from _ _ (and_from _ _ (int_itself i) h) (int_is t bs seen b j k)

  shifted_right_is : (i j : IntType) (a b : Expr) → S a (integer i) ≡ true → S b (integer j) ≡ true
      → S (core.binary Shr i a b) (integer i) ≡ true
  shifted_right_is i j a b h k = and_from _ _ (and_from _ _ (int_itself i) h) (int_is t bs seen b j k)

  shifted_fits : (op : BinOp)
      → ((i j : IntType) (a b : Expr) → S a (integer i) ≡ true → S b (integer j) ≡ true
      → S (core.binary op i a b) (integer i) ≡ true)
      → (a b v : Value) → F a → F b → shifted op a b ≡ Ok v → F v
  unfolding shifted
  shifted_fits op f a b v h k e =
      let g = given (are_integers a b) _ v 32 e in
      let s = and_parts (is_integer a.ty) (is_integer b.ty) g.0 in
      subst F g.1 (int_fits t bs seen some _ (promoted_type a)
      (f (promoted_type a) (promoted_type b) (promoted_value a) (promoted_value b) (promoted_is a h s.0) (promoted_is b k s.1)))

  -- ---- pointers and numbers

  pub sum_is : (p n : Expr) (unit : ℕ) (back : Bool) (ty : ℕ) (i : IntType) → is_length unit ≡ true
      → is_number (size t ty) unit ≡ true → S p (pointing ty) ≡ true → S n (integer i) ≡ true
      → S (core.ptr_add p unit n back) (pointing ty) ≡ true
  sum_is p n unit back ty i l s h k = and_from _ _ (and_from _ _ (and_from _ _ l s) h) (int_is t bs seen n i k)

  pub number_is : (o : Option ℕ) (n : ℕ) → o ≡ Some n → is_number o n ≡ true
  number_is o n e = rw e (self_may_be n)

  pub moved_fits : (p n : Value) (back : Bool) (v : Value) → F p → F n → is_pointer p.ty ≡ true → is_integer n.ty ≡ true
      → moved t p n back ≡ Ok v → F v × (v.ty ≡ p.ty)
  unfolding moved
  moved_fits p n back v h k q r e =
      let u = after (needed 33 (size_of_type t (target p.ty))) _ v e in
      let unit : size_of_type t (target p.ty) ≡ Some u.0 = needed_is 33 (size_of_type t (target p.ty)) u.0 u.1 in
      let same : plain_value (core.ptr_add p.expr u.0 n.expr back) p.ty ≡ v = cc in
      (subst F same (pointer_fits t bs seen some _ p.ty q (h.made q) (by_made u.0 unit (h.made q))), ap (λ (w : Value). w.ty) (sym same))
    where
      by_made : (unit : ℕ) → size_of_type t (target p.ty) ≡ Some unit → IsMade t (target p.ty) → (ty : ℕ)
          → may_be (type_number t (target p.ty)) ty ≡ true → S (core.ptr_add p.expr unit n.expr back) (pointing ty) ≡ true
      by_made unit z (inl void) ty m =
          let bad = subst (λ (d : CType). size_of_type t d ≡ Some unit) void z in absurd cc
      by_made unit z (inr made) ty m =
          let s : size t made.0 ≡ Some unit = sym (same_size t table.built (target p.ty) made.0 made.1) ∙ z in
          let same : made.0 ≡ ty = same_number made.0 ty (rw made.1 at m) in
          let here : size t ty ≡ Some unit = subst (λ (j : ℕ). size t j ≡ Some unit) same s in
          sum_is p.expr n.expr unit back ty (int_of n.ty) (size_is_length t table made.0 unit s) (number_is (size t ty) unit here)
          (h.points q ty m) (k.number r)

  added_fits : (a b v : Value) → F a → F b → added t a b ≡ Ok v → F v
  unfolding added
  added_fits a b v h k e = elim (either_way (is_pointer a.ty && is_integer b.ty) _ _ (Ok v) e) [
    | inl p ↦ let s = and_parts (is_pointer a.ty) (is_integer b.ty) p.0 in (moved_fits a b false v h k s.0 s.1 p.1).0
    | inr p ↦ elim (either_way (is_integer a.ty && is_pointer b.ty) _ _ (Ok v) p.1) [
      | inl q ↦ let s = and_parts (is_integer a.ty) (is_pointer b.ty) q.0 in (moved_fits b a false v k h s.1 s.0 q.1).0
      | inr q ↦ arithmetic_fits Add a b v h k q.1
    ]
  ]

  subtracted_fits : (a b v : Value) → F a → F b → subtracted t a b ≡ Ok v → F v
  unfolding subtracted
  subtracted_fits a b v h k e = elim (either_way (is_pointer a.ty && is_integer b.ty) _ _ (Ok v) e) [
    | inl p ↦ let s = and_parts (is_pointer a.ty) (is_integer b.ty) p.0 in (moved_fits a b true v h k s.0 s.1 p.1).0
    | inr p ↦ arithmetic_fits Sub a b v h k p.1
  ]

  -- ---- comparisons

  compared_fits : (c : Cmp) (a b : Value) → F a → F b → are_integers a b ≡ true → F (compared c a b)
  compared_fits c a b h k p =
      let s = and_parts (is_integer a.ty) (is_integer b.ty) p in
      let i = common_type a b in
      int_fits t bs seen some _ I32
      (and_from _ _ (and_from _ _ refl (converted_is t bs seen some i a h s.0)) (converted_is t bs seen some i b k s.1))

  pointers_compared_fits : (c : Cmp) (a b : Value) → F a → F b → IsAddress t bs seen some a → IsAddress t bs seen some b
      → F (pointers_compared c a b)
  pointers_compared_fits c a b h k p q =
      int_fits t bs seen some _ I32 (and_from _ _ (and_from _ _ refl (bare_is t bs seen some a h p)) (bare_is t bs seen some b k q))

  -- two scalars that aren't two integers, nor an integer and a pointer, are addresses
  addresses : (a b : Value) → are_integers a b ≡ false → is_scalar a.ty ≡ true → is_scalar b.ty ≡ true
      → are_mixed a b ≡ false → IsAddress t bs seen some a × IsAddress t bs seen some b
  addresses a b n p q m = elim (scalar_is a.ty p) [
    | inl r ↦ (inl r, unmixed_address t bs seen some a.ty b r q (sym (if_so _ _ _ r) ∙ m))
    | inr r ↦ elim (scalar_is b.ty q) [
      | inl s ↦ (unmixed_address t bs seen some b.ty a s p (sym (if_so _ _ _ s) ∙ (sym (if_not _ _ _ r.0) ∙ m)), inl s)
      | inr s ↦ both_not (are_integers a b) (and_from _ _ r.1 s.1) n
    ]
  ]

  ordered_fits : (c : Cmp) (a b v : Value) → F a → F b → ordered c a b ≡ Ok v → F v
  unfolding ordered
  ordered_fits c a b v h k e = elim (either_way (are_integers a b) _ _ (Ok v) e) [
    | inl p ↦ let same : compared c a b ≡ v = (let q = p.1 in cc) in subst F same (compared_fits c a b h k p.0)
    | inr p ↦
        let x = unless (not (is_scalar a.ty && is_scalar b.ty)) 32 _ v p.1 in
        let s = and_parts (is_scalar a.ty) (is_scalar b.ty) (not-false _ x.0) in
        let y = unless (is_null_either a b) 32 _ v x.1 in
        let z = unless (are_mixed a b) 34 _ v y.1 in
        let g = given (is_same a.ty b.ty) (pointers_compared c a b) v 44 z.1 in
        let w = addresses a b p.0 s.0 s.1 z.0 in
        subst F g.1 (pointers_compared_fits c a b h k w.0 w.1)
  ]

  equated_fits : (c : Cmp) (a b v : Value) → F a → F b → equated c a b ≡ Ok v → F v
  unfolding equated
  equated_fits c a b v h k e = elim (either_way (are_integers a b) _ _ (Ok v) e) [
    | inl p ↦ let same : compared c a b ≡ v = (let q = p.1 in cc) in subst F same (compared_fits c a b h k p.0)
    | inr p ↦
        let x = unless (not (is_scalar a.ty && is_scalar b.ty)) 32 _ v p.1 in
        let s = and_parts (is_scalar a.ty) (is_scalar b.ty) (not-false _ x.0) in
        let y = unless (are_mixed a b) 34 _ v x.1 in
        let z = unless (are_foreign a b) 44 _ v y.1 in
        let same : pointers_compared c a b ≡ v = (let q = z.1 in cc) in
        let w = addresses a b p.0 s.0 s.1 y.0 in
        subst F same (pointers_compared_fits c a b h k w.0 w.1)
  ]

  -- ---- truths

  both_fits : (a b v : Value) → F a → F b → both a b ≡ Ok v → F v
  unfolding both
  both_fits a b v h k e =
      let g = given (is_scalar a.ty && is_scalar b.ty) _ v 32 e in
      let s = and_parts (is_scalar a.ty) (is_scalar b.ty) g.0 in
      subst F g.1 (int_fits t bs seen some _ I32
      (and_from _ _ (and_from _ _ refl (scalar_tested t bs seen some a h s.0)) (scalar_tested t bs seen some b k s.1)))

  either_fits : (a b v : Value) → F a → F b → either a b ≡ Ok v → F v
  unfolding either
  either_fits a b v h k e =
      let g = given (is_scalar a.ty && is_scalar b.ty) _ v 32 e in
      let s = and_parts (is_scalar a.ty) (is_scalar b.ty) g.0 in
      subst F g.1 (int_fits t bs seen some _ I32
      (and_from _ _ (and_from _ _ refl (scalar_tested t bs seen some a h s.0)) (scalar_tested t bs seen some b k s.1)))

  -- ---- `? :`

  chosen_sort : (e a b : Expr) (x : formed.Sort) → formed.is_test t bs seen (int_type_of e) (S e) ≡ true → S a x ≡ true
      → S b x ≡ true → S (core.conditional e a b) x ≡ true
  chosen_sort e a b x h p q = and_from _ _ (and_from _ _ h p) q

  numbers_chosen_fits : (e : Expr) (a b : Value) → formed.is_test t bs seen (int_type_of e) (S e) ≡ true → F a → F b
      → are_integers a b ≡ true → F (numbers_chosen e a b)
  numbers_chosen_fits e a b w h k p =
      let s = and_parts (is_integer a.ty) (is_integer b.ty) p in
      let i = common_type a b in
      int_fits t bs seen some _ i (chosen_sort e (converted i a) (converted i b) (integer i) w
      (converted_is t bs seen some i a h s.0) (converted_is t bs seen some i b k s.1))

  -- the type that is chosen is a pointer, and made
  abbrev IsChosen : CType → Type 0
  IsChosen c = (is_pointer c ≡ true) × IsMade t (target c)

  chosen_is : (a b : Value) → F a → F b → IsAddress t bs seen some a → IsAddress t bs seen some b
      → IsChosen (chosen_type a b)
  chosen_is a b h k p q = by a.is_null b.is_null refl refl
    where
      of_pointer : (v : Value) → F v → IsAddress t bs seen some v → v.is_null ≡ false → IsChosen v.ty
      of_pointer v f (inl r) n = (r, f.made r)
      of_pointer v f (inr r) n = both_not v.is_null r n

      by_void : (x : Bool) (c d : CType) → IsChosen c → IsChosen d → IsChosen (if x then c else d)
      by_void true c d y z = y
      by_void false c d y z = z

      by : (x y : Bool) → a.is_null ≡ x → b.is_null ≡ y → IsChosen (chosen_type a b)
      by true true m n = rw (m, n) (refl, inl refl)
      by true false m n = rw (m, n) (of_pointer b k q n)
      by false true m n = rw (m, n) (of_pointer a h p m)
      by false false m n =
          rw (m, n) (by_void (is_void_pointer b.ty) b.ty a.ty (of_pointer b k q n) (of_pointer a h p m))

  pub chosen_fits : (e a b v : Value) → F e → F a → F b → chosen e a b ≡ Ok v → F v
  unfolding chosen
  chosen_fits e a b v f h k r =
      let x = unless (not (is_scalar e.ty && (is_scalar a.ty && is_scalar b.ty))) 32 _ v r in
      let s = and_parts (is_scalar e.ty) (is_scalar a.ty && is_scalar b.ty) (not-false _ x.0) in
      let u = and_parts (is_scalar a.ty) (is_scalar b.ty) s.1 in
      let w = scalar_tested t bs seen some e f s.0 in
      elim (either_way (are_integers a b) _ _ (Ok v) x.1) [
        | inl p ↦ let same : numbers_chosen e.expr a b ≡ v = (let q = p.1 in cc) in
            subst F same (numbers_chosen_fits e.expr a b w h k p.0)
        | inr p ↦
            let y = unless (are_mixed a b) 34 _ v p.1 in
            let z = unless (are_foreign a b) 44 _ v y.1 in
            let same : pointers_chosen e.expr a b ≡ v = (let q = z.1 in cc) in
            let d = addresses a b p.0 u.0 u.1 y.0 in
            let c : CType = chosen_type a b in
            let m = chosen_is a b h k d.0 d.1 in
            subst F same (pointer_fits t bs seen some _ c m.0 m.1
            (λ ty j. chosen_sort e.expr (as_pointer c a) (as_pointer c b) (pointing ty) w
            (as_pointer_is t bs seen some c a h m.0 d.0 ty j) (as_pointer_is t bs seen some c b k m.0 d.1 ty j)))
      ]

  -- ---- one operand

  kept_fits : (a v : Value) → F a → kept a ≡ Ok v → F v
  unfolding kept
  kept_fits a v h e =
      let g = given (is_integer a.ty) _ v 32 e in
      subst F g.1 (int_fits t bs seen some _ (promoted_type a) (promoted_is a h g.0))

  negated_fits : (a v : Value) → F a → negated a ≡ Ok v → F v
  unfolding negated
  negated_fits a v h e =
      let g = given (is_integer a.ty) (opposite a) v 32 e in
      let i = promoted_type a in
      subst F g.1 (int_fits t bs seen some _ i (binary_is Sub i (core.const i (pos 0)) (promoted_value a)
      (and_from _ _ (int_itself i) (zero_in_range i)) (promoted_is a h g.0)))

  complemented_fits : (a v : Value) → F a → complemented a ≡ Ok v → F v
  unfolding complemented
  complemented_fits a v h e =
      let g = given (is_integer a.ty) (turned a) v 32 e in
      let i = promoted_type a in
      subst F g.1 (int_fits t bs seen some _ i
      (binary_is Xor i (promoted_value a) (core.const i (wrapped i (negsuc 0))) (promoted_is a h g.0)
      (and_from _ _ (int_itself i) (wrapped_fits i (negsuc 0)))))

  denied_fits : (a v : Value) → F a → denied a ≡ Ok v → F v
  unfolding denied
  denied_fits a v h e =
      let g = given (is_scalar a.ty) _ v 32 e in
      subst F g.1 (int_fits t bs seen some _ I32 (and_from _ _ refl (scalar_tested t bs seen some a h g.0)))

  pub unary_fits : (m : ℕ) (a v : Value) → F a → unary_operated m a ≡ Ok v → F v
  unfolding unary_operated
  unary_fits m a v h e = elim (either_way (m == mark.plus) _ _ (Ok v) e) [
    | inl p ↦ kept_fits a v h p.1
    | inr p ↦ elim (either_way (m == mark.minus) _ _ (Ok v) p.1) [
      | inl q ↦ negated_fits a v h q.1
      | inr q ↦ elim (either_way (m == mark.tilde) _ _ (Ok v) q.1) [
        | inl r ↦ complemented_fits a v h r.1
        | inr r ↦ denied_fits a v h r.1
      ]
    ]
  ]

  -- ---- by marks

  numbers_fit : (m : ℕ) (a b v : Value) → F a → F b → operated_on_numbers m a b ≡ Ok v → F v
  unfolding operated_on_numbers
  numbers_fit m a b v h k e = elim (either_way (m == mark.left_shift) _ _ (Ok v) e) [
    | inl p ↦ shifted_fits Shl shifted_left_is a b v h k p.1
    | inr p ↦ elim (either_way (m == mark.right_shift) _ _ (Ok v) p.1) [
      | inl q ↦ shifted_fits Shr shifted_right_is a b v h k q.1
      | inr q ↦ arithmetic_fits (binary_of m) a b v h k q.1
    ]
  ]

  decided_fits : (m : ℕ) (a b v : Value) → F a → F b → decided m a b ≡ Ok v → F v
  unfolding decided
  decided_fits m a b v h k e = elim (either_way (m == mark.equal_equal) _ _ (Ok v) e) [
    | inl p ↦ equated_fits Eq a b v h k p.1
    | inr p ↦ elim (either_way (m == mark.not_equal) _ _ (Ok v) p.1) [
      | inl q ↦ equated_fits Ne a b v h k q.1
      | inr q ↦ elim (either_way (m == mark.and_and) _ _ (Ok v) q.1) [
        | inl r ↦ both_fits a b v h k r.1
        | inr r ↦ elim (either_way (m == mark.bar_bar) _ _ (Ok v) r.1) [
          | inl s ↦ either_fits a b v h k s.1
          | inr s ↦ ordered_fits (ordering_of m) a b v h k s.1
        ]
      ]
    ]
  ]

  pub operated_fits : (m : ℕ) (a b v : Value) → F a → F b → operated t m a b ≡ Ok v → F v
  unfolding operated
  operated_fits m a b v h k e = elim (either_way (m == mark.plus) _ _ (Ok v) e) [
    | inl p ↦ added_fits a b v h k p.1
    | inr p ↦ elim (either_way (m == mark.minus) _ _ (Ok v) p.1) [
      | inl q ↦ subtracted_fits a b v h k q.1
      | inr q ↦ elim (either_way (decides m) _ _ (Ok v) q.1) [
        | inl r ↦ decided_fits m a b v h k r.1
        | inr r ↦ numbers_fit m a b v h k r.1
      ]
    ]
  ]
