-- The cell that has a byte, and what is read there.
use Rattle.std.proofs.Common.{◌≡◌, ℕ, ◌+◌, ◌-◌, ◌<◌, ◌≤◌, Bool, true, false, ◌&&◌, ◌||◌, nat_eq, nat_le, nat_lt, cond}
use Rattle.std.proofs.Common.{IfSome, List, [], ◌∷◌, Option, Some, None, refl, subst, arith}
use Rattle.std.proofs.lemmas.Bool.{and_parts, eqb-true, leb-true, ltb-true}
use Rattle.ep_int.specs.declared.types.IntType.TheVariants.{U8}
use Rattle.ep_int.specs.declared.types.Order.{Order}
use Rattle.ep_int.specs.declared.types.Model.{Model}
use Rattle.ep_int.specs.declared.types.Scalar.{Scalar}
use Rattle.ep_int.specs.declared.types.Scalar.TheVariants.{Int, Pointer}
use Rattle.ep_int.specs.Types.{size_of}
use Rattle.ep_int.specs.Memory.{Memory}
use Rattle.ep_bitslice.specs.declared.cell.Side.{Side}
use Rattle.ep_bitslice.specs.declared.cell.Side.TheVariants.{Left, Right, Shared}
use Rattle.ep_domain.specs.Domain.{Ops, Lawful}
use Rattle.ep_cells.specs.declared.cell.Cell.{Cell}
use Rattle.ep_cells.specs.Cells.{on_left, on_right, is_same_side, IsIn, first, later}
use Rattle.ep_cells.specs.Look.{covers, cell_at}
use Rattle.ep_cells.specs.States.{Known, AreCells}
use Rattle.ep_cells.specs.Meaning.{Memories, HasBytes, Says, numbers_of, In}
use Rattle.ep_cells.specs.declared.cell.Value.{Value}
use Rattle.ep_cells.specs.declared.cell.Value.TheVariants.{Num, Ptr}
use Rattle.ep_reads.specs.Bytes.{order_on, is_null_alone, byte_of_value}
use Rattle.ep_reads.specs.Read.{byte_read, byte_there, is_zero_value}
use Rattle.ep_reads.specs.Laws.{memory_on, IsFormRead}
use Rattle.ep_reads.proofs.Bytes.{null_read, part_read, cell_form_fits, cell_form_says, byte_fits, IsByte}
use Rattle.ep_reads.proofs.Bytes.{byte_holds}

-- ---- the covering cell

pub record Covering {N : Type 0} (d : Model) (s : Side) (b p : ℕ) (cs : List (Cell N)) (x : Cell N) : Type 0 where
  pub is_in : IsIn x cs
  pub sides : (is_same_side x.side s || is_same_side x.side Shared) ≡ true
  pub in_block : x.block ≡ b
  pub low : x.offset ≤ p
  pub high : p < x.offset + size_of d x.what

covering_is : {N : Type 0} (d : Model) (s : Side) (b p : ℕ) (cs : List (Cell N)) (x : Cell N) → IsIn x cs
    → covers d s b p x ≡ true → Covering d s b p cs x
covering_is d s b p cs x i h =
    let e = and_parts (is_same_side x.side s || is_same_side x.side Shared) (nat_eq x.block b && (nat_le x.offset p &&
    nat_lt p (x.offset + size_of d x.what))) h in
    let f = and_parts (nat_eq x.block b) (nat_le x.offset p && nat_lt p (x.offset + size_of d x.what)) e.1 in
    let g = and_parts (nat_le x.offset p) (nat_lt p (x.offset + size_of d x.what)) f.1 in
    record {
      is_in = i;
      sides = e.0;
      in_block = eqb-true x.block b f.0;
      low = leb-true x.offset p g.0;
      high = ltb-true p (x.offset + size_of d x.what) g.1;
    }

covering_by : {N : Type 0} (d : Model) (s : Side) (b p : ℕ) (c : Cell N) (cs : List (Cell N)) (x : Cell N) (t : Bool)
    → covers d s b p c ≡ t → (cell_at d s b p cs ≡ Some x → Covering d s b p cs x)
    → cond t (Some c) (cell_at d s b p cs) ≡ Some x → Covering d s b p (c ∷ cs) x
covering_by d s b p c cs x true h more e =
    let same : c ≡ x = cc in
    subst (Covering d s b p (c ∷ cs)) same (covering_is d s b p (c ∷ cs) c (first cs) h)
covering_by d s b p c cs x false h more e =
    let r = more e in
    record { is_in = later c cs r.is_in; sides = r.sides; in_block = r.in_block; low = r.low; high = r.high }

pub covering : {N : Type 0} (d : Model) (s : Side) (b p : ℕ) (cs : List (Cell N)) (x : Cell N)
    → cell_at d s b p cs ≡ Some x → Covering d s b p cs x
covering d s b p [] x e = absurd (cc)
covering d s b p (c ∷ cs) x e = covering_by d s b p c cs x (covers d s b p c) refl (λ k. covering d s b p cs x k) e

-- what holds of the memories of a covering cell holds of that of the side
on_side : (P : Order → Memory → Type 0) (os : Order × Order) (m : Memories) (s q : Side)
    → (is_same_side q s || is_same_side q Shared) ≡ true → (on_left q ≡ true → P os.0 m.left)
    → (on_right q ≡ true → P os.1 m.right) → P (order_on s os) (memory_on s m)
on_side P os m Left Left e l r = l refl
on_side P os m Left Right e l r = absurd (let c : false ≡ true = e in cc)
on_side P os m Left Shared e l r = l refl
on_side P os m Right Left e l r = absurd (let c : false ≡ true = e in cc)
on_side P os m Right Right e l r = r refl
on_side P os m Right Shared e l r = r refl
on_side P os m Shared Left e l r = absurd (let c : false ≡ true = e in cc)
on_side P os m Shared Right e l r = absurd (let c : false ≡ true = e in cc)
on_side P os m Shared Shared e l r = l refl

pub stands_there : {N : Type 0} (D : Ops N) (k : Known N) (m : Memories) (s : Side) (x : Cell N)
    → (is_same_side x.side s || is_same_side x.side Shared) ≡ true → (says : Says D k.orders k.model m x)
    → HasBytes (order_on s k.orders) (memory_on s m) (size_of k.model x.what) x.what x.maybe x.block x.offset says.datum
stands_there D k m s x e says =
    on_side (λ o n. HasBytes o n (size_of k.model x.what) x.what x.maybe x.block x.offset says.datum) k.orders m s
    x.side e says.stands.left says.stands.right

-- ---- bytes

there_fits_by : {N : Type 0} (D : Ops N) (k : Known N) (s : Side) (b p : ℕ) (o : Option (Cell N))
    → cell_at k.model s b p k.cells ≡ o → AreCells k.model k.cells
    → IfSome (byte_read D (order_on s k.orders) p o).form (IsFormRead k.cells (Int U8) (byte_read D (order_on s
    k.orders) p o).maybe)
there_fits_by D k s b p None e a = tt
there_fits_by D k s b p (Some x) e a =
    let c = covering k.model s b p k.cells x e in
    byte_fits D k.model (order_on s k.orders) k.cells x x.what x.value (p - x.offset) refl (cell_form_fits k.model
    k.cells x a c.is_in) (omega (arith, c.low, c.high))

pub there_fits : {N : Type 0} (D : Ops N) (k : Known N) (s : Side) (b p : ℕ) → AreCells k.model k.cells
    → IfSome (byte_there D k s b p).form (IsFormRead k.cells (Int U8) (byte_there D k s b p).maybe)
there_fits D k s b p a = there_fits_by D k s b p (cell_at k.model s b p k.cells) refl a

there_holds_by : {N : Type 0} (D : Ops N) → Lawful D → (k : Known N) (m : Memories) (s : Side) (b p : ℕ) (o : Option
    (Cell N)) → cell_at k.model s b p k.cells ≡ o → AreCells k.model k.cells → In D k m
    → (byte_read D (order_on s k.orders) p o).maybe ≡ false → (byte_read D (order_on s k.orders) p o).mixed ≡ false
    → IsByte D (numbers_of k.orders m) (byte_read D (order_on s k.orders) p o) (memory_on s m b p)
there_holds_by D law k m s b p None e a h x y = absurd (let c : true ≡ false = x in cc)
there_holds_by D law k m s b p (Some z) e a h x y =
    let c = covering k.model s b p k.cells z e in
    let says = h.cells z c.is_in in
    let r = byte_read D (order_on s k.orders) p (Some z) in
    let at : z.offset + (p - z.offset) ≡ p = omega (arith, c.low) in
    subst (λ i. IsByte D (numbers_of k.orders m) r (memory_on s m i p)) c.in_block
    (subst (λ i. IsByte D (numbers_of k.orders m) r (memory_on s m z.block i)) at
    (byte_holds D law k.orders k.model m (order_on s k.orders) (memory_on s m) k.cells z.side z.block z.offset z.what
    z.value z.maybe z.form says.datum (p - z.offset) (cell_form_fits k.model k.cells z a c.is_in) (cell_form_says D k m
    z h c.is_in) says.allowed says.stands (stands_there D k m s z c.sides says) (omega (arith, c.low, c.high)) x y))

pub there_holds : {N : Type 0} (D : Ops N) → Lawful D → (k : Known N) (m : Memories) (s : Side) (b p : ℕ)
    → AreCells k.model k.cells → In D k m → (byte_there D k s b p).maybe ≡ false → (byte_there D k s b p).mixed ≡ false
    → IsByte D (numbers_of k.orders m) (byte_there D k s b p) (memory_on s m b p)
there_holds D law k m s b p a h x y = there_holds_by D law k m s b p (cell_at k.model s b p k.cells) refl a h x y

-- ---- zeros

unmixed_pointer : {N : Type 0} (D : Ops N) (maybe t : Bool)
    → is_zero_value D (cond t (null_read D maybe) (part_read maybe)).value ≡ true
    → (cond t (null_read D maybe) (part_read maybe)).mixed ≡ false
unmixed_pointer D maybe true h = refl
unmixed_pointer D maybe false h = absurd (let c : false ≡ true = h in cc)

unmixed_value : {N : Type 0} (D : Ops N) (o : Order) (x : Cell N) (w : Scalar) (v : Option (Value N)) (j : ℕ)
    → is_zero_value D (byte_of_value D o x w v j).value ≡ true → (byte_of_value D o x w v j).mixed ≡ false
unmixed_value D o x (Int t) None j h = refl
unmixed_value D o x Pointer None j h = refl
unmixed_value D o x (Int t) (Some (Num n)) j h = refl
unmixed_value D o x (Int t) (Some (Ptr p)) j h = refl
unmixed_value D o x Pointer (Some (Num n)) j h = refl
unmixed_value D o x Pointer (Some (Ptr p)) j h = unmixed_pointer D x.maybe (is_null_alone p) h

unmixed_by : {N : Type 0} (D : Ops N) (o : Order) (p : ℕ) (c : Option (Cell N)) → (byte_read D o p c).maybe ≡ false
    → is_zero_value D (byte_read D o p c).value ≡ true → (byte_read D o p c).mixed ≡ false
unmixed_by D o p None x h = absurd (let c : true ≡ false = x in cc)
unmixed_by D o p (Some z) x h = unmixed_value D o z z.what z.value (p - z.offset) h

-- a sure zero is no part of a pointer
pub there_unmixed : {N : Type 0} (D : Ops N) (k : Known N) (s : Side) (b p : ℕ)
    → (byte_there D k s b p).maybe ≡ false → is_zero_value D (byte_there D k s b p).value ≡ true
    → (byte_there D k s b p).mixed ≡ false
there_unmixed D k s b p x h = unmixed_by D (order_on s k.orders) p (cell_at k.model s b p k.cells) x h
