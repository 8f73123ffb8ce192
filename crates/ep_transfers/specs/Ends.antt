-- The two ends of main: what is known where it begins, and its result compared
-- (this project's rules, after Miné 2006 and
-- Delmas, Ouadjaout and Miné 2021).
use Rattle.std.specs.Prelude.{ℕ, zero, suc, ◌+◌, ℤ, pos, Bool, true, false, ◌&&◌, ◌||◌, nat_eq, if◌then◌else◌, List}
use Rattle.std.specs.Prelude.{[], ◌∷◌, ◌++◌, slice_get, Option, Some, None, unwrap_or}
use Rattle.std.specs.List.{list_all}
use Rattle.ep_int.specs.declared.types.IntType.TheVariants.{U8}
use Rattle.ep_int.specs.declared.types.Order.{Order}
use Rattle.ep_int.specs.declared.types.Scalar.{Scalar}
use Rattle.ep_int.specs.declared.types.Scalar.TheVariants.{Int, Pointer}
use Rattle.ep_layout.specs.declared.types.Leaf.{Leaf}
use Rattle.ep_layout.specs.Table as table
use Rattle.ep_bitslice.specs.declared.cell.Side.TheVariants as cell_side
use Rattle.ep_domain.specs.Domain.{Ops}
use Rattle.ep_pointers.specs.Value.{null_alone}
use Rattle.ep_cells.specs.declared.cell.Cell.{Cell}
use Rattle.ep_cells.specs.declared.cell.Value.TheVariants.{Num, Ptr}
use Rattle.ep_cells.specs.Kill.{leaf_at, is_in_leaf}
use Rattle.ep_cells.specs.States.{Known}
use Rattle.ep_core.specs.Program.{Block, Init, Function, Program}
use Rattle.ep_core.specs.Exec.{result_in}
use Rattle.ep_core.specs.Runs.{Side, left, right, is_result}
use Rattle.ep_equalities.specs.declared.pair.Mode.TheVariants.{Both}
use Rattle.ep_equalities.specs.declared.pair.Fault.{Fault}
use Rattle.ep_equalities.specs.declared.pair.SideValue.{SideValue}
use Rattle.ep_equalities.specs.Same.{is_same}
use Rattle.ep_evaluation.specs.Given.{Given}
use Rattle.ep_evaluation.specs.Operators.{constant_form}
use Rattle.ep_transfers.specs.Places.{has_values}
use Rattle.ep_transfers.specs.Transfers.{differ_faults, entered}
use Rattle.ep_transfers.specs.Calls.{loaded_result}

module _ {N : Type 0} (D : Ops N) (p : Program) where
  -- ---- the two ends of main

  -- the last first value that stands there
  abbrev pub value_in : List Init → (block offset : ℕ) → Option ℤ
  value_in [] b q = None
  value_in (i ∷ is) b q = later (value_in is b q)
    where
      later : Option ℤ → Option ℤ
      later (Some v) = Some v
      later None = if nat_eq i.block b && nat_eq i.offset q then Some i.value else None

  abbrev pub first_value : (block offset : ℕ) → Scalar → SideValue N
  first_value b q (Int t) = record {
    value = Some (Num (D.single (unwrap_or (value_in p.init b q) (pos 0))));
    form = constant_form t (unwrap_or (value_in p.init b q) (pos 0));
  }
  first_value b q Pointer = record { value = Some (Ptr null_alone); form = None }

  abbrev pub first_cell : (block offset : ℕ) → Scalar → Cell N
  first_cell b q w = record {
    side = cell_side.Shared;
    block = b;
    offset = q;
    what = w;
    value = (first_value b q w).value;
    maybe = false;
    form = (first_value b q w).form;
  }

  abbrev pub zero_byte : (block offset : ℕ) → Cell N
  zero_byte b q = record {
    side = cell_side.Shared;
    block = b;
    offset = q;
    what = Int U8;
    value = Some (Num (D.single (pos 0)));
    maybe = false;
    form = constant_form U8 (pos 0);
  }

  abbrev pub first_here : (block offset : ℕ) → Option Scalar → (inside : Bool) → List (Cell N)
  first_here b q (Some w) inside = first_cell b q w ∷ []
  first_here b q None true = []
  first_here b q None false = zero_byte b q ∷ []

  abbrev pub first_from : (block : ℕ) → List Leaf → (offset count : ℕ) → List (Cell N)
  first_from b ls q zero = []
  first_from b ls q (suc n) =
      first_here b q (leaf_at ls q) (is_in_leaf p.types.model ls q) ++ first_from b ls (q + 1) n

  abbrev pub main_result : Option (ℕ × Scalar)
  main_result = result_in (slice_get p.functions p.main)

  abbrev pub first_of_block : (number : ℕ) → Block → List (Cell N)
  first_of_block b x =
      if x.global || is_result main_result b then first_from b (table.leaves p.types x.ty) 0 x.size else []

  abbrev pub first_of_blocks : (number : ℕ) → List Block → List (Cell N)
  first_of_blocks b [] = []
  first_of_blocks b (x ∷ xs) = first_of_block b x ++ first_of_blocks (b + 1) xs

  abbrev pub locals_in : Option Function → List ℕ
  locals_in None = []
  locals_in (Some f) = f.locals

  -- globals and the result of main have their first values, and then main's locals come
  abbrev pub entry_known : (Side → Order) → Known N
  entry_known ord =
      entered D p Both (locals_in (slice_get p.functions p.main))
      (record { orders = (ord left, ord right); model = p.types.model; cells = first_of_blocks 0 p.blocks })

  -- main's result may differ, or may be no value
  abbrev pub is_sure_result : Given N → Bool
  is_sure_result x = is_same D x.pair && (has_values Both x.pair && (list_all (λ (f : Fault). false) x.faults))

  abbrev pub ended_faults : Function → Known N → List Fault
  ended_faults f k = end_of f.result
    where
      end_of : Option (ℕ × Scalar) → List Fault
      end_of None = []
      end_of (Some r) = differ_faults D (is_sure_result (loaded_result D p Both r k)) (loaded_result D p Both r k).pair
