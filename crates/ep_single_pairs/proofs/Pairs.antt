-- Equal values that can be one alone are known to be equal, and tests of such values go on.
use Rattle.std.proofs.Common.{◌≡◌, ℕ, ℤ, pos, Bool, true, false, ◌&&◌, ◌||◌, not, [], map, Option, Some, None}
use Rattle.std.proofs.lemmas.Bool.{or_left, or_right}
use Rattle.std.proofs.Common.{refl, sym, ap, ◌∙◌, subst}
use Rattle.std.specs.Option.{option_map_or}
use Rattle.std.specs.Ordering.{int_eq}
use Rattle.std.proofs.lemmas.Bool.{eq-eqb}
use Rattle.std.proofs.lemmas.Bool.Decides.{Decides-int_eq}
use Rattle.ep_int.specs.declared.types.Scalar.{Scalar}
use Rattle.ep_int.specs.declared.types.Scalar.TheVariants.{Int, Pointer}
use Rattle.ep_int.specs.Memory.{Value as Datum, int, null, pointer}
use Rattle.ep_domain.specs.Domain.{Ops, Lawful, IsSingle}
use Rattle.ep_pointers.specs.Value.{Pointers, HasOneMember, null_alone, one_target, HoldsPointer, null_pointer}
use Rattle.ep_pointers.specs.Value.{only_null, only_place}
use Rattle.ep_cells.specs.declared.cell.Value.{Value}
use Rattle.ep_cells.specs.declared.cell.Value.TheVariants.{Num, Ptr}
use Rattle.ep_cells.specs.Meaning.{Allows}
use Rattle.ep_cells.specs.Reshare.{are_one_number, is_single}
use Rattle.ep_core.specs.Runs.{Side, left, right}
use Rattle.ep_equalities.specs.declared.pair.Mode.{Mode}
use Rattle.ep_equalities.specs.declared.pair.Mode.TheVariants.{Both, Left, Right}
use Rattle.ep_equalities.specs.declared.pair.PairValue.{PairValue}
use Rattle.ep_equalities.specs.declared.pair.SideValue.{SideValue}
use Rattle.ep_equalities.specs.Same.{is_same, are_one_offset, are_one_place, are_one_pointer}
use Rattle.ep_evaluation.specs.Given.{Given, runs, is_both, on}
use Rattle.ep_evaluation.specs.Evaluation.{tested, told, same, is_none, is_stuck, verdict_by}
use Rattle.ep_pass.specs.Laws.{GoesOn}
use Rattle.ep_singles.specs.Cells.{IsOneValue, one_number, one_pointer}
use Rattle.ep_singles.proofs.Bytes.{held_single}
use Rattle.ep_single_places.proofs.Places.{one_into}

equal_itself : (z : ℤ) → int_eq z z ≡ true
equal_itself z = (Decides-int_eq z z).1 refl

module _ {N : Type 0} (D : Ops N) where
  -- two ranges of one number
  pub one_range : (a b : N) (z : ℤ) → IsSingle D a z → IsSingle D b z
      → (is_single (D.range a) && (is_single (D.range b) && int_eq (D.range a).0 (D.range b).0)) ≡ true
  one_range a b z s r =
      ap (λ (p : ℤ × ℤ). is_single p && (is_single (D.range b) && int_eq p.0 (D.range b).0)) s
      ∙ ap (λ (p : ℤ × ℤ). int_eq z z && (is_single p && int_eq z p.0)) r
      ∙ ap (λ t. t && (t && t)) (equal_itself z)

  -- ---- tests

  valued : (x : SideValue N) → IsOneValue D x.value → is_none D x ≡ false
  valued x i = by x.value i
    where
      by : (o : Option (Value N)) → IsOneValue D o → option_map_or (λ v. false) o true ≡ false
      by None i = elim i [ ]
      by (Some v) i = refl

  not_stuck : (mode : Mode) (p : PairValue N) → ((s : Side) → runs mode s ≡ true → IsOneValue D (on p s).value)
      → is_stuck D mode p ≡ false
  not_stuck Both p h =
      ap (λ t. t || is_none D p.right) (valued p.left (h left refl)) ∙ valued p.right (h right refl)
  not_stuck Left p h = valued p.left (h left refl)
  not_stuck Right p h = valued p.right (h right refl)

  goes_on : (b : Bool) → GoesOn (verdict_by D false b)
  goes_on true = tt
  goes_on false = tt

  pub tests_go_on : (mode : Mode) (x : Given N) → x.faults ≡ []
      → ((s : Side) → runs mode s ≡ true → IsOneValue D (on x.pair s).value)
      → ((tested D mode x).faults ≡ []) × GoesOn (tested D mode x).verdict
  tests_go_on mode x e h = (
    ap (λ fs. map (told D) fs) e,
    subst (λ t. GoesOn (verdict_by D t (same D x || not (is_both mode)))) (sym (not_stuck mode x.pair h))
        (goes_on (same D x || not (is_both mode))),
  )

  -- ---- equal values

  module _ (law : Lawful D) where
    numbers_same : (a b : N) (za zb z : ℤ) → IsSingle D a za → IsSingle D b zb → D.holds a z ≡ true
        → D.holds b z ≡ true → are_one_number D (Some (Num a)) (Some (Num b)) ≡ true
    numbers_same a b za zb z s r h i =
        one_range a b z (subst (IsSingle D a) (sym (held_single D law a za z s h)) s)
        (subst (IsSingle D b) (sym (held_single D law b zb z r i)) r)

    null_is : (p : Pointers N) → HasOneMember D p → HoldsPointer D p null_pointer → p ≡ null_alone
    null_is p (only_null e) h = e
    null_is p (only_place b n v e s) h =
        absurd (let d : false ≡ true = subst (λ (p : Pointers N). HoldsPointer D p null_pointer) e h in cc)

    nulls_same : (p q : Pointers N) → p ≡ null_alone → q ≡ null_alone
        → are_one_pointer D (Some (Ptr p)) (Some (Ptr q)) ≡ true
    nulls_same p q e f = ap (λ p. are_one_place D p q) e ∙ ap (λ q. are_one_place D null_alone q) f

    targets_same : (b : ℕ) (n m : N) (z : ℤ) → IsSingle D n z → IsSingle D m z
        → are_one_place D (one_target b n) (one_target b m) ≡ true
    targets_same b n m z s r =
        ap (λ t. t && are_one_offset D n m) (eq-eqb b b refl) ∙ one_range n m z s r

    places_same : (u v : Option (Value N)) (b q : ℕ) → IsOneValue D u → IsOneValue D v
        → Allows D Pointer u false (Some (pointer b q)) → Allows D Pointer v false (Some (pointer b q))
        → are_one_pointer D u v ≡ true
    places_same u v b q i j a c =
        let x = one_into D law u b q i a in
        let y = one_into D law v b q j c in
        ap (λ o. are_one_pointer D o v) x.is ∙ ap (λ o. are_one_pointer D (Some (Ptr (one_target b x.n))) o) y.is
        ∙ targets_same b x.n y.n (pos q) x.single y.single

    known_same : (w : Scalar) (u v : Option (Value N)) (x : Datum) → IsOneValue D u → IsOneValue D v
        → Allows D w u false (Some x) → Allows D w v false (Some x)
        → (are_one_number D u v || are_one_pointer D u v) ≡ true
    known_same w None v x i j a b = elim i [ ]
    known_same w (Some u) None x i j a b = elim j [ ]
    known_same (Int t) (Some (Num c)) (Some (Num d)) (int z) (one_number _ y e) (one_number _ y' e') a b =
        or_left (are_one_number D (Some (Num c)) (Some (Num d))) (are_one_pointer D (Some (Num c)) (Some (Num d)))
        (numbers_same c d y y' z e e' a.1 b.1)
    known_same (Int t) (Some (Num c)) (Some (Num d)) null i j a b = absurd a
    known_same (Int t) (Some (Num c)) (Some (Num d)) (pointer s o) i j a b = absurd a
    known_same (Int t) (Some (Num c)) (Some (Ptr q)) (int z) i j a b = absurd b
    known_same (Int t) (Some (Num c)) (Some (Ptr q)) null i j a b = absurd a
    known_same (Int t) (Some (Num c)) (Some (Ptr q)) (pointer s o) i j a b = absurd a
    known_same (Int t) (Some (Ptr p)) (Some v) (int z) i j a b = absurd a
    known_same (Int t) (Some (Ptr p)) (Some v) null i j a b = absurd a
    known_same (Int t) (Some (Ptr p)) (Some v) (pointer s o) i j a b = absurd a
    known_same Pointer (Some (Num c)) (Some v) (int z) i j a b = absurd a
    known_same Pointer (Some (Num c)) (Some v) null i j a b = absurd a
    known_same Pointer (Some (Num c)) (Some v) (pointer s o) i j a b = absurd a
    known_same Pointer (Some (Ptr p)) (Some (Num d)) (int z) i j a b = absurd a
    known_same Pointer (Some (Ptr p)) (Some (Num d)) null i j a b = absurd b
    known_same Pointer (Some (Ptr p)) (Some (Num d)) (pointer s o) i j a b = absurd b
    known_same Pointer (Some (Ptr p)) (Some (Ptr q)) (int z) i j a b = absurd a
    known_same Pointer (Some (Ptr p)) (Some (Ptr q)) null (one_pointer _ e) (one_pointer _ f) a b =
        nulls_same p q (null_is p e a) (null_is q f b)
    known_same Pointer (Some (Ptr p)) (Some (Ptr q)) (pointer s o) i j a b =
        places_same (Some (Ptr p)) (Some (Ptr q)) s o i j a b

    pub sames_are_known : (x : PairValue N) (w : Scalar) (v : Datum) → IsOneValue D x.left.value
        → IsOneValue D x.right.value → Allows D w x.left.value false (Some v)
        → Allows D w x.right.value false (Some v) → is_same D x ≡ true
    sames_are_known x w v i j a b =
        or_right x.equal _ (or_right _ (are_one_number D x.left.value x.right.value
        || are_one_pointer D x.left.value x.right.value) (known_same w x.left.value x.right.value v i j a b))
