-- Where a pair of values is written, each at one place, a state stands for one pair of memories still.
use Rattle.std.proofs.Common.{◌≡◌, ℤ, Bool, true, false, ◌&&◌, nat_eq, cond, [], ◌∷◌, Option, Some, None, IfSome}
use Rattle.ep_cell_ranges.proofs.Basics.{same_spot}
use Rattle.std.proofs.Common.{refl, sym, ap, subst}
use Rattle.std.specs.Option.{option_map_or}
use Rattle.std.proofs.lemmas.Bool.{and_parts}
use Rattle.ep_int.specs.declared.types.Scalar.{Scalar}
use Rattle.ep_int.specs.declared.types.Scalar.TheVariants.{Int, Pointer}
use Rattle.ep_int.specs.Memory.{Value as Datum, int, null, pointer}
use Rattle.ep_bitslice.specs.declared.cell.Side.TheVariants as cell_side
use Rattle.ep_domain.specs.Domain.{Ops, Lawful, IsSingle}
use Rattle.ep_cells.specs.declared.cell.Value.{Value}
use Rattle.ep_cells.specs.declared.cell.Value.TheVariants.{Num, Ptr}
use Rattle.ep_cells.specs.Cells.{place_of}
use Rattle.ep_cells.specs.Forms.{have_same_form, common_form}
use Rattle.ep_cells.specs.States.{Known}
use Rattle.ep_cells.specs.Meaning.{Memories, Allows}
use Rattle.ep_cells.proofs.Gathered.{of_writes}
use Rattle.ep_reads.proofs.Splits.{of_splits}
use Rattle.ep_cell_ranges.specs.Ranges.{Form, form_by_replace}
use Rattle.ep_cell_ranges.specs.Spots.{Spot, is_same_spot, all_spots}
use Rattle.ep_cell_ranges.specs.Follow.{FormFits, FormHas}
use Rattle.ep_cell_ranges.specs.Laws.{ReplaceLaws}
use Rattle.ep_cell_ranges.proofs.Overwrites.{of_overwrites}
use Rattle.ep_cell_ranges.proofs.Replaces.{of_replaces}
use Rattle.ep_cell_ranges.proofs.Waits.{of_splits as of_more_splits}
use Rattle.ep_core.specs.Runs.{left, right}
use Rattle.ep_equalities.specs.declared.pair.Mode.{Mode}
use Rattle.ep_equalities.specs.declared.pair.Mode.TheVariants.{Both, Left, Right}
use Rattle.ep_equalities.specs.declared.pair.PairValue.{PairValue}
use Rattle.ep_equalities.specs.Pairs.{runs_left, runs_right}
use Rattle.ep_equalities.specs.Same.{is_same}
use Rattle.ep_transfers.specs.Writes.{item_of, underway, new_cell, write_side, write_sides, value_of_same}
use Rattle.ep_transfers.specs.Writes.{write_shared, write_shared_each, write_both, write_now}
use Rattle.ep_transfers.proofs.Sides.{with_beside, same_allowed, same_sort, same_rising}
use Rattle.ep_singles.specs.Numbers.{KeepsSingles}
use Rattle.ep_singles.specs.Cells.{IsOneValue, one_number, IsOne}
use Rattle.ep_singles.proofs.Bytes.{held_single}
use Rattle.ep_single_stores.specs.Laws.{IsStoredAt, IsOneToStore}
use Rattle.ep_single_stores.proofs.Stores.{stores_keep_one}

either_form : (P : Form → Type 0) (f : Form) (t : Bool) → P f → P None → P (cond t f None)
either_form P f true h i = h
either_form P f false h i = i

module _ {N : Type 0} (D : Ops N) (law : Lawful D) where
  -- ---- the value of both

  met_one : (a b : N) (z : ℤ) (o : Option N) → IfSome o (λ c. IsSingle D c z) → IsSingle D a z
      → IsOneValue D (option_map_or (λ c. Some (Num c)) o (Some (Num a)))
  met_one a b z None h i = one_number a z i
  met_one a b z (Some c) h i = one_number c z h

  same_one : KeepsSingles D → (w : Scalar) (u v : Option (Value N)) (x : Datum) → IsOneValue D u → IsOneValue D v
      → Allows D w u false (Some x) → Allows D w v false (Some x) → IsOneValue D (value_of_same D u v)
  same_one keeps w None v x i j a b = elim i [ ]
  same_one keeps w (Some u) None x i j a b = elim j [ ]
  same_one keeps w (Some (Ptr p)) (Some v) x i j a b = i
  same_one keeps w (Some (Num c)) (Some (Ptr p)) x i j a b = i
  same_one keeps (Int t) (Some (Num c)) (Some (Num d)) (int z) (one_number _ y e) (one_number _ y' e') a b =
      met_one c d z (D.meet c d)
      (keeps.meet c d z (subst (IsSingle D c) (sym (held_single D law c y z e a.1)) e)
      (subst (IsSingle D d) (sym (held_single D law d y' z e' b.1)) e'))
      (subst (IsSingle D c) (sym (held_single D law c y z e a.1)) e)
  same_one keeps (Int t) (Some (Num c)) (Some (Num d)) null i j a b = absurd a
  same_one keeps (Int t) (Some (Num c)) (Some (Num d)) (pointer s o) i j a b = absurd a
  same_one keeps Pointer (Some (Num c)) (Some (Num d)) (int z) i j a b = absurd a
  same_one keeps Pointer (Some (Num c)) (Some (Num d)) null i j a b = absurd a
  same_one keeps Pointer (Some (Num c)) (Some (Num d)) (pointer s o) i j a b = absurd a

  module _ (keeps : KeepsSingles D) (k : Known N) (m n : Memories) (one : IsOne D k m) (w : Scalar) (v : PairValue N)
    where
      -- ---- one cell of both

      both_to_store : (q : Spot) (x : Datum) → IsOneToStore D k m q w v.left.value v.left.form x
          → IsOneToStore D k m q w v.right.value v.right.form x
          → IsOneToStore D k m q w (value_of_same D v.left.value v.right.value) (common_form v.left.form v.right.form) x
      both_to_store q x h i = record {
        one = same_one keeps w v.left.value v.right.value x h.one i.one h.allowed i.allowed;
        sort = same_sort D (of_splits D law) (of_more_splits D law) (of_writes D) law w v.left.value v.right.value h.sort
            i.sort;
        rising = same_rising D (of_splits D law) (of_more_splits D law) (of_writes D) law v.left.value v.right.value
            h.rising i.rising;
        last = h.last;
        allowed = same_allowed D (of_splits D law) (of_more_splits D law) (of_writes D) law w v.left.value v.right.value x
            h.allowed i.allowed;
        form_fits = either_form (FormFits k.cells w) v.left.form (have_same_form v.left.form v.right.form) h.form_fits tt;
        form_has = either_form (FormHas k.orders m w x) v.left.form (have_same_form v.left.form v.right.form) h.form_has
            tt;
      }

      shared_one : (q : Spot) (x : Datum) → IsOneToStore D k m q w v.left.value v.left.form x
          → IsOneToStore D k m q w v.right.value v.right.form x
          → IsStoredAt k.orders.0 k.model w q x true m.left n.left
          → IsStoredAt k.orders.1 k.model w q x true m.right n.right
          → IsOne D (write_shared D w q (underway k (item_of D v))).known n
      shared_one q x h i l r =
          stores_keep_one D law k m n one cell_side.Shared q w (value_of_same D v.left.value v.right.value)
          (common_form v.left.form v.right.form) x (both_to_store q x h i) l r

      -- ---- the left, then the right

      module _ (q r : Spot) (x y : Datum) (h : IsOneToStore D k m q w v.left.value v.left.form x)
          (i : IsOneToStore D k m r w v.right.value v.right.form y)
          (l : IsStoredAt k.orders.0 k.model w q x true m.left n.left)
          (t : IsStoredAt k.orders.1 k.model w r y true m.right n.right) where
        abbrev between : Memories
        between = record { left = n.left; right = m.right }

        abbrev first : Known N
        first = (write_side D left w (q ∷ []) (underway k (item_of D v))).known

        abbrev formed : Form
        formed = form_by_replace D (place_of k.model (new_cell cell_side.Left q w v.left.value false v.left.form)) k
            v.right.form

        replaces : ReplaceLaws D
        replaces = of_replaces D (of_splits D law) (of_more_splits D law) (of_overwrites D)

        left_one : IsOne D first between
        left_one =
            stores_keep_one D law k m between one cell_side.Left q w v.left.value v.left.form x h l
            (record { written = λ e. absurd (let d : false ≡ true = e in cc); stays = λ e b j. refl })

        right_to_store : IsOneToStore D first between r w v.right.value formed y
        right_to_store = record {
          one = i.one;
          sort = i.sort;
          rising = i.rising;
          last = i.last;
          allowed = i.allowed;
          form_fits = replaces.fits k (place_of k.model (new_cell cell_side.Left q w v.left.value false v.left.form))
              (new_cell cell_side.Left q w v.left.value false v.left.form ∷ []) one.cells w v.right.form i.form_fits;
          form_has = replaces.numbers k (place_of k.model (new_cell cell_side.Left q w v.left.value false v.left.form))
              one.cells m between one.holds
              (record {
                left = record {
                  stored = λ e. with_beside k.orders.0 k.model w cell_side.Left q x m.left n.left (l.written refl);
                  stays = λ e. absurd (let d : true ≡ false = e in cc);
                };
                right = record {
                  stored = λ e. absurd (let d : false ≡ true = e in cc);
                  stays = λ e b j. refl;
                };
              }) w y v.right.form i.form_fits i.form_has;
        }

        sides_one :
            IsOne D (write_sides D w (record { left = q ∷ []; right = r ∷ [] }) (underway k (item_of D v))).known n
        sides_one =
            stores_keep_one D law first between n left_one cell_side.Right r w v.right.value formed y right_to_store
            (record { written = λ e. absurd (let d : false ≡ true = e in cc); stays = λ e b j. refl }) t

  pub writes_keep_one : KeepsSingles D → (k : Known N) (m n : Memories) → IsOne D k m → (mode : Mode) (to : Bool)
      (w : Scalar) (q r : Spot) (v : PairValue N) (x y : Datum)
      → (runs_left mode ≡ true → IsOneToStore D k m q w v.left.value v.left.form x)
      → (runs_right mode ≡ true → IsOneToStore D k m r w v.right.value v.right.form y)
      → IsStoredAt k.orders.0 k.model w q x (runs_left mode) m.left n.left
      → IsStoredAt k.orders.1 k.model w r y (runs_right mode) m.right n.right
      → (mode ≡ Both → to ≡ true → is_same D v ≡ true → (q ≡ r) × (x ≡ y))
      → IsOne D (write_now D mode to w (record { left = q ∷ []; right = r ∷ [] }) (item_of D v) k) n
  writes_keep_one keeps k m n one Left to w q r v x y h i l t same =
      stores_keep_one D law k m n one cell_side.Left q w v.left.value v.left.form x (h refl) l
      (record { written = λ e. absurd (let d : false ≡ true = e in cc); stays = t.stays })
  writes_keep_one keeps k m n one Right to w q r v x y h i l t same =
      stores_keep_one D law k m n one cell_side.Right r w v.right.value v.right.form y (i refl)
      (record { written = λ e. absurd (let d : false ≡ true = e in cc); stays = l.stays }) t
  writes_keep_one keeps k m n one Both to w q r v x y h i l t same = by (to && is_same D v) refl
    where
      at_one : q ≡ r → x ≡ y
          → IsOne D (cond (is_same_spot q r) (write_shared D w q (underway k (item_of D v)))
          (write_shared_each D w (all_spots (q ∷ []) (r ∷ [])) (underway k (item_of D v)))).known n
      at_one e f =
          subst (λ b. IsOne D (cond b (write_shared D w q (underway k (item_of D v)))
          (write_shared_each D w (all_spots (q ∷ []) (r ∷ [])) (underway k (item_of D v)))).known n)
          (sym (same_spot q r e))
          (shared_one keeps k m n one w v q x (h refl)
          (subst (λ s. IsOneToStore D k m s w v.right.value v.right.form x) (sym e)
          (subst (λ u. IsOneToStore D k m r w v.right.value v.right.form u) (sym f) (i refl))) l
          (subst (λ s. IsStoredAt k.orders.1 k.model w s x true m.right n.right) (sym e)
          (subst (λ u. IsStoredAt k.orders.1 k.model w r u true m.right n.right) (sym f) t)))

      by : (b : Bool) → (to && is_same D v) ≡ b
          → IsOne D (write_both D b w (record { left = q ∷ []; right = r ∷ [] }) (underway k (item_of D v))).known n
      by true e = let p = and_parts to (is_same D v) e in let s = same refl p.0 p.1 in at_one s.0 s.1
      by false e = sides_one keeps k m n one w v q r x y (h refl) (i refl) l t
