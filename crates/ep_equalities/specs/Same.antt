-- When the values of an expression on the two machines are surely equal (this project's rule).
use Rattle.std.specs.Prelude.{Bool, false, ◌&&◌, ◌||◌, not, nat_eq, List, [], ◌∷◌, Option, Some, None}
use Rattle.std.specs.Ordering.{int_eq}
use Rattle.ep_domain.specs.Domain.{Ops}
use Rattle.ep_pointers.specs.Value.{Pointers, Target}
use Rattle.ep_cells.specs.declared.cell.Value.{Value}
use Rattle.ep_cells.specs.declared.cell.Value.TheVariants.{Num, Ptr}
use Rattle.ep_cells.specs.Forms.{have_same_form}
use Rattle.ep_cells.specs.Reshare.{are_one_number, is_single}
use Rattle.ep_reads.specs.Bytes.{is_null_alone}
use Rattle.ep_equalities.specs.declared.pair.PairValue.{PairValue}

-- the same single offset
abbrev pub are_one_offset : {N : Type 0} → Ops N → N → N → Bool
are_one_offset D a b = is_single (D.range a) && (is_single (D.range b) && int_eq (D.range a).0 (D.range b).0)

-- the same single target
abbrev pub are_one_target : {N : Type 0} → Ops N → List (Target N) → List (Target N) → Bool
are_one_target D [] ts = false
are_one_target D (s ∷ []) [] = false
are_one_target D (s ∷ []) (t ∷ []) = nat_eq s.0 t.0 && are_one_offset D s.1 t.1
are_one_target D (s ∷ []) (t ∷ u ∷ us) = false
are_one_target D (s ∷ r ∷ ss) ts = false

-- both are null alone, or both the same target alone
abbrev pub are_one_place : {N : Type 0} → Ops N → Pointers N → Pointers N → Bool
are_one_place D p q =
    (is_null_alone p && is_null_alone q) || (not p.null && (not q.null && are_one_target D p.targets q.targets))

abbrev pub are_one_pointer : {N : Type 0} → Ops N → Option (Value N) → Option (Value N) → Bool
are_one_pointer D None v = false
are_one_pointer D (Some u) None = false
are_one_pointer D (Some (Ptr p)) (Some (Ptr q)) = are_one_place D p q
are_one_pointer D (Some (Ptr p)) (Some (Num b)) = false
are_one_pointer D (Some (Num a)) (Some v) = false

-- They are known to be equal, have one form, or can only be one number or one pointer.
abbrev pub is_same : {N : Type 0} → Ops N → PairValue N → Bool
is_same D p =
    p.equal || (have_same_form p.left.form p.right.form
    || (are_one_number D p.left.value p.right.value || are_one_pointer D p.left.value p.right.value))
