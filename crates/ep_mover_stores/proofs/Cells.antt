-- The cell that is written.
use Rattle.std.proofs.Common.{◌≡◌, ℕ, ◌+◌, ◌^◌, ◌<◌, ◌≤◌, Bool, true, false, ◌&&◌, ◌||◌, not, cond, nat_le, List, [], ◌∷◌, length, Option}
use Rattle.std.proofs.Common.{Some, None, IfSome, refl, sym, ap, ◌∙◌, subst, arith}
use Rattle.std.specs.Prelude.{is_some}
use Rattle.std.proofs.lemmas.Bool.{and_from, le-leb}
use Rattle.ep_int.specs.declared.types.IntType.{IntType}
use Rattle.ep_int.specs.declared.types.Model.{Model}
use Rattle.ep_int.specs.declared.types.Order.{Order}
use Rattle.ep_int.specs.declared.types.Scalar.{Scalar}
use Rattle.ep_int.specs.declared.types.Scalar.TheVariants.{Int}
use Rattle.ep_int.specs.Types.{bytes_of, bits_of, size_of}
use Rattle.ep_bitslice.specs.declared.cell.Side.{Side as CellSide}
use Rattle.ep_bitslice.specs.Segments.{normal}
use Rattle.ep_domain.specs.Domain.{Ops}
use Rattle.ep_cells.specs.declared.cell.Cell.{Cell}
use Rattle.ep_cells.specs.declared.cell.Value.{Value}
use Rattle.ep_cells.specs.declared.cell.Value.TheVariants.{Num}
use Rattle.ep_cells.specs.Cells.{IsIn, first, later, place_of, encloses}
use Rattle.ep_cells.specs.States.{Known, IsOfSort, HasRisingBlocks, IsCell, IsFormOf, HasForm}
use Rattle.ep_reads.specs.Bytes.{own_form, form_or, form_of_cell}
use Rattle.ep_reads.specs.Laws.{IsFormRead}
use Rattle.ep_cell_ranges.specs.Follow.{FormFits}
use Rattle.ep_cell_ranges.specs.Ranges.{Form}
use Rattle.ep_cell_ranges.specs.Sound.{AreNew, IsInside}
use Rattle.ep_cell_ranges.specs.Spots.{Spot}
use Rattle.ep_transfers.specs.Writes.{lacks, form_unless, new_cell}
use Rattle.ep_core.specs.Program.{Program}
use Rattle.ep_core.specs.Runs.{Side, left}
use Rattle.ep_movers.specs.Symbols.{Symbol}
use Rattle.ep_movers.specs.Movers.{Machine}
use Rattle.ep_mover_bits.specs.Laws.{Inputs, bits_of_bytes, HasBytes}
use Rattle.ep_mover_bits.proofs.Forms.{forms_follow}
use Rattle.ep_mover_writes.specs.Laws.{AreTaken, IsNewCell}

-- the one cell of a list
one_in : {N : Type 0} (P : Cell N → Type 0) (c x : Cell N) → IsIn x (c ∷ []) → P c → P x
one_in P c _ (first _) h = h
one_in P c x (later _ _ i) h = elim i [ ]

pub not_lacking : {N : Type 0} (o : Option (Value N)) (n : N) → o ≡ Some (Num n) → lacks false o ≡ false
not_lacking o n e = ap (lacks false) e

module _ {N : Type 0} (k : Known N) (s : CellSide) (q : Spot) (t : IntType) (o : Option (Value N)) (f : Form) where
  abbrev pub stored_cell : Cell N
  stored_cell = new_cell s q (Int t) o false f

  form_by : (b : Bool) → b ≡ false → form_unless b f ≡ f
  form_by false e = refl
  form_by true e = absurd (cc)

  has_form : FormFits k.cells (Int t) f → lacks false o ≡ false → HasForm k.cells stored_cell
  has_form h e = subst (λ g. IfSome g (IsFormOf k.cells stored_cell)) (sym (form_by (lacks false o) e)) (by f h)
    where
      by : (g : Form) → FormFits k.cells (Int t) g → IfSome g (IsFormOf k.cells stored_cell)
      by None h = tt
      by (Some ss) h = record { sure = e; wide = h.wide; form = h.form; mentioned = h.mentioned }

  pub are_new : (n : N) → o ≡ Some (Num n) → FormFits k.cells (Int t) f → q.1 + bytes_of t ≤ 2 ^ 32
      → AreNew k.model (place_of k.model stored_cell) k.cells (stored_cell ∷ [])
  are_new n e h last = record {
    each = λ c i. one_in (IsCell k.model) stored_cell c i (record {
      fits = record {
        sort = subst (IsOfSort (Int t)) (sym e) tt;
        undefined = λ z. absurd (let y : Some (Num n) ≡ None = sym e ∙ z in cc);
        last = last;
      };
      rising = subst HasRisingBlocks (sym e) tt;
    });
    inside = λ c i. one_in (IsInside k.model (place_of k.model stored_cell)) stored_cell c i (record {
      left = λ z. z;
      right = λ z. z;
      block = refl;
      bytes = whole q.1 (bytes_of t);
    });
    apart = (tt, tt);
    forms = λ c i. one_in (HasForm k.cells) stored_cell c i (has_form h (not_lacking o n e));
  }
    where
      whole : (q n : ℕ) → (nat_le q q && nat_le (q + n) (q + n)) ≡ true
      whole q n = and_from (nat_le q q) (nat_le (q + n) (q + n)) (le-leb q q (omega arith))
          (le-leb (q + n) (q + n) (omega arith))

  module _ (D : Ops N) (p : Program) (ord : Side → Order) (base : Inputs) (ms : Side → Machine) (xs : List Symbol) where
    -- of a form with these bytes
    pub formed_cell : (n : N) → o ≡ Some (Num n) → FormFits k.cells (Int t) f → q.1 + bytes_of t ≤ 2 ^ 32
        → HasBytes base f xs → length xs ≡ bytes_of t → AreTaken (ms left).inputs xs
        → IsNewCell D p ord base ms k s q.0 q.1 t xs 0 stored_cell
    formed_cell n e h last has long taken =
        let lack = not_lacking o n e in
        let known : f ≡ Some (normal (bits_of_bytes base xs)) = has.form ∙ (forms_follow base).few xs has.few in
        let is : form_of_cell stored_cell ≡ f
        = ap (λ b. cond b None (form_or (form_unless b f) (own_form stored_cell (Int t)))) lack
        ∙ ap (λ g. form_or g (own_form stored_cell (Int t))) known ∙ sym known in
        record {
          placed = record { side = refl; block = refl; offset = refl; what = refl };
          sure = lack;
          form = subst (λ g. HasBytes base g xs) (sym is) has;
          long = long;
          stored = λ ss z. taken;
          taken = λ j i m z. (let l = taken j i m z in omega (arith, l));
          input = λ i l u. absurd (let z : ⊥ = omega (arith, l, u) in z);
          few = omega arith;
          new = are_new n e h last;
        }
