-- Steps of single cells.
use Rattle.std.proofs.Common.{◌≡◌, Bool, true, false, cond, List, [], ◌∷◌, Some, refl, sym, ◌∙◌, ap}
use Rattle.std.proofs.Common.{subst}
use Rattle.ep_int.specs.declared.types.Model.{Model}
use Rattle.ep_int.specs.declared.types.Scalar.{Scalar}
use Rattle.ep_int.specs.declared.types.Scalar.TheVariants.{Int, Pointer}
use Rattle.ep_bitslice.specs.declared.cell.CellName.{CellName}
use Rattle.ep_bitslice.specs.declared.cell.Side.{Side}
use Rattle.ep_bitslice.specs.declared.cell.Side.TheVariants.{Left, Right, Shared}
use Rattle.ep_domain.specs.Domain.{Ops, Lawful}
use Rattle.ep_cells.specs.declared.cell.Cell.{Cell}
use Rattle.ep_cells.specs.declared.place.ByteRange.{ByteRange}
use Rattle.ep_cells.specs.Cells.{is_same_side, share_memory, side_without, IsIn, parts_on, touches, place_of, place_of_name}
use Rattle.ep_cells.specs.Forms.{reformed}
use Rattle.ep_cells.specs.States.{Known, AreCells}
use Rattle.ep_reads.specs.Bytes.{order_on}
use Rattle.ep_reads.specs.Split.{form_beside, byte_cells, split_cell}
use Rattle.ep_reads.specs.Unify.{crossed_parts, crossed_cell}
use Rattle.ep_reads.proofs.OneSplit.{split_cell_cells}
use Rattle.ep_reads.proofs.Crossed.{crossed_keeps}
use Rattle.ep_scalar_reads.specs.declared.machines.Machines.{Machines}
use Rattle.ep_synthesis.specs.Parts.{known, IsSized}
use Rattle.ep_synthesis.proofs.Sized.{one_sized}
use Rattle.ep_reads.specs.Single.{parts_where, left_where, name_where, fate_where, parted_where, is_kind_of}
use Rattle.ep_reads.proofs.Composed.{same_changes}
use Rattle.ep_reads.proofs.Parting.{where_cells}
use Rattle.ep_reads.proofs.Dropping.{without_cells}
use Rattle.ep_cells.specs.Weaken.{first_part}
use Rattle.ep_cell_rows.specs.Parts.{fate_by_unsharing}
use Rattle.ep_bicells.specs.Steps.{changed_by, left_by_unsharing}
use Rattle.ep_bicells.specs.declared.changes.Step.TheVariants.{Split, Cross, Unshare, Lack}
use Rattle.ep_state_looks.specs.Looks.{met_by}
use Rattle.ep_state_steps.specs.Ones.{parted_at, left_at, machines_of}

-- ---- Shared cells come apart

same_either : {X : Type 0} (b : Bool) (x : X) → cond b x x ≡ x
same_either true x = refl
same_either false x = refl

part_same : {N : Type 0} (d : Model) (p : ByteRange) (x : Cell N) (s : Side)
    → cond (touches p (place_of d x)) (parts_on x s) (x ∷ []) ≡ parts_where (met_by d p) x s
part_same d p x Left = same_either (touches p (place_of d x)) (x ∷ [])
part_same d p x Right = same_either (touches p (place_of d x)) (x ∷ [])
part_same d p x Shared = refl

some_cond : (b : Bool) (u v : CellName) → cond b (Some u) (Some v) ≡ Some (cond b u v)
some_cond true u v = refl
some_cond false u v = refl

on_own_side : (b : Bool) (n : CellName) (s : Side) → n.side ≡ s → cond b (Some (record n { side = s })) (Some n) ≡ Some n
on_own_side true n s e = ap (λ (t : Side). Some (record n { side = t })) (sym e)
on_own_side false n s e = refl

name_same : (d : Model) (p : ByteRange) (n : CellName) (s : Side) → n.side ≡ s
    → cond (touches p (place_of_name n)) (Some (record n { side = first_part s })) (Some n)
    ≡ Some (name_where (met_by d p) n s)
name_same d p n Left e = on_own_side (touches p (place_of_name n)) n Left e
name_same d p n Right e = on_own_side (touches p (place_of_name n)) n Right e
name_same d p n Shared e = some_cond (touches p (place_of_name n)) (record n { side = Left }) n

unshared : {N : Type 0} (D : Ops N) (d : Model) (p : ByteRange) (new cs : List (Cell N)) → new ≡ []
    → changed_by D d (Unshare p) new cs ≡ parted_where (met_by d p) cs
unshared D d p new cs e =
    ap (λ l. changed_by D d (Unshare p) l cs) e
    ∙ same_changes (left_by_unsharing d p) (left_where (met_by d p)) (fate_by_unsharing p) (fate_where (met_by d p)) cs
    (λ x i. part_same d p x x.side)
    (λ x y i j. ap (λ f. reformed f y) (λ m n. name_same d p n n.side refl m))

pub unshared_cells : {N : Type 0} (D : Ops N) (d : Model) (p : ByteRange) (new cs : List (Cell N)) → AreCells d cs
    → new ≡ [] → AreCells d (changed_by D d (Unshare p) new cs)
unshared_cells D d p new cs a e =
    subst (AreCells d) (sym (unshared D d p new cs e)) (where_cells d (met_by d p) cs a)

pub unshared_is : {N : Type 0} (D : Ops N) (k after : Known N) (p : ByteRange) (new : List (Cell N)) → new ≡ []
    → after ≡ record k { cells = changed_by D k.model (Unshare p) new k.cells } → after ≡ parted_at (met_by k.model p) k
unshared_is D k after p new e h = h ∙ ap (λ l. record k { cells = l }) (unshared D k.model p new k.cells e)

-- ---- a cell goes

pub dropped_cells : {N : Type 0} (D : Ops N) (d : Model) (z y : Cell N) (new cs : List (Cell N)) → AreCells d cs → y ≡ z
    → new ≡ [] → AreCells d (changed_by D d (Lack y) new cs)
dropped_cells D d z y new cs a f e =
    subst (λ c. AreCells d (changed_by D d (Lack c) new cs)) (sym f)
    (subst (λ l. AreCells d (changed_by D d (Lack z) l cs)) (sym e) (without_cells d (is_kind_of z) cs a))

pub dropped_is : {N : Type 0} (D : Ops N) (k after : Known N) (z y : Cell N) (new : List (Cell N)) → y ≡ z → new ≡ []
    → after ≡ record k { cells = changed_by D k.model (Lack y) new k.cells } → after ≡ left_at (is_kind_of z) k
dropped_is D k after z y new f e h =
    h
    ∙ ap (λ c. record k { cells = changed_by D k.model (Lack c) new k.cells }) f
    ∙ ap (λ l. record k { cells = changed_by D k.model (Lack z) l k.cells }) e

-- ---- a cell is crossed

parts_other : {N : Type 0} (D : Ops N) (k : Known N) (x : Cell N) (w : Scalar)
    → crossed_parts D (known (machines_of k) []) x w ≡ crossed_parts D k x w
parts_other D k x (Int t) = refl
parts_other D k x Pointer = refl

parts_are : {N : Type 0} (D : Ops N) (k : Known N) (m : Machines) (y : Cell N) (new : List (Cell N)) → m ≡ machines_of k
    → new ≡ crossed_parts D (known m []) y y.what → new ≡ crossed_parts D k y y.what
parts_are D k m y new e h = h ∙ ap (λ z. crossed_parts D (known z []) y y.what) e ∙ parts_other D k y y.what

pub crossed_cells : {N : Type 0} (D : Ops N) → Lawful D → (k : Known N) (m : Machines) (y : Cell N)
    (new : List (Cell N))
    → AreCells k.model k.cells → IsIn y k.cells → m ≡ machines_of k
    → new ≡ crossed_parts D (known m []) y y.what → AreCells k.model (changed_by D k.model (Cross y) new k.cells)
crossed_cells D law k m y new a i e h =
    subst (λ l. AreCells k.model (changed_by D k.model (Cross y) l k.cells)) (sym (parts_are D k m y new e h))
    (crossed_keeps D law k y k.cells a i).cells

pub crossed_is : {N : Type 0} (D : Ops N) (k after : Known N) (m : Machines) (y : Cell N) (new : List (Cell N))
    → m ≡ machines_of k → new ≡ crossed_parts D (known m []) y y.what
    → after ≡ record k { cells = changed_by D k.model (Cross y) new k.cells }
    → after ≡ record k { cells = crossed_cell D k y k.cells }
crossed_is D k after m y new e h f =
    f ∙ ap (λ l. record k { cells = changed_by D k.model (Cross y) l k.cells }) (parts_are D k m y new e h)

-- ---- a cell is split

bytes_are : {N : Type 0} (D : Ops N) (k : Known N) (m : Machines) (s : Side) (y : Cell N) (new : List (Cell N))
    → m ≡ machines_of k
    → new ≡ byte_cells D m.model (order_on s m.orders) s (form_beside y (side_without s y.side)) y
    → new ≡ byte_cells D k.model (order_on s k.orders) s (form_beside y (side_without s y.side)) y
bytes_are D k m s y new e h =
    h ∙ ap (λ (z : Machines). byte_cells D z.model (order_on s z.orders) s (form_beside y (side_without s y.side)) y) e

pub split_cells : {N : Type 0} (D : Ops N) (k : Known N) (m : Machines) (s : Side) (y : Cell N) (new : List (Cell N))
    → AreCells k.model k.cells → IsIn y k.cells → is_same_side s Shared ≡ false → share_memory s y.side ≡ true
    → m ≡ machines_of k → new ≡ byte_cells D m.model (order_on s m.orders) s (form_beside y (side_without s y.side)) y
    → AreCells k.model (changed_by D k.model (Split s y) new k.cells)
split_cells D k m s y new a i o p e h =
    subst (λ l. AreCells k.model (changed_by D k.model (Split s y) l k.cells)) (sym (bytes_are D k m s y new e h))
    (split_cell_cells D k s y k.cells a i o p)

pub split_is : {N : Type 0} (D : Ops N) (k after : Known N) (m : Machines) (s : Side) (y : Cell N) (new : List (Cell N))
    → m ≡ machines_of k → new ≡ byte_cells D m.model (order_on s m.orders) s (form_beside y (side_without s y.side)) y
    → after ≡ record k { cells = changed_by D k.model (Split s y) new k.cells }
    → after ≡ record k { cells = split_cell D k s y k.cells }
split_is D k after m s y new e h f =
    f ∙ ap (λ l. record k { cells = changed_by D k.model (Split s y) l k.cells }) (bytes_are D k m s y new e h)

pub sized_at : {N : Type 0} (k : Known N) (m : Machines) (y : Cell N) → AreCells k.model k.cells → IsIn y k.cells
    → m ≡ machines_of k → IsSized m.model y
sized_at k m y a i e = subst (λ (z : Machines). IsSized z.model y) (sym e) (one_sized k.model k.cells y a i)
