-- What is read by a Shared cell of the same place and size is the same on both sides.
use Rattle.std.proofs.Common.{◌≡◌, ℕ, ◌*◌, ◌^◌, ◌<◌, true, false, ◌&&◌, nat_eq, Option, Some, None, refl, sym, ap}
use Rattle.ep_reads.proofs.Wholes.{converted_bytes}
use Rattle.std.proofs.Common.{◌∙◌, subst}
use Rattle.std.proofs.lemmas.Bool.{and_parts, eqb-true}
use Rattle.ep_int.specs.declared.types.Order.{Order}
use Rattle.ep_int.specs.declared.types.Model.{Model}
use Rattle.ep_int.specs.declared.types.Scalar.{Scalar}
use Rattle.ep_int.specs.declared.types.Scalar.TheVariants.{Int, Pointer}
use Rattle.ep_int.specs.Types.{size_of, wrapped}
use Rattle.ep_int.specs.Encoding.{place}
use Rattle.ep_int.specs.Memory.{Memory, number, Value as Datum, int, null, pointer, has, bytes_from, value_of_bytes}
use Rattle.ep_int.proofs.Wrapping.{wrapped_in_range}
use Rattle.ep_bitslice.specs.declared.cell.Side.TheVariants as cell_side
use Rattle.ep_domain.specs.Domain.{Ops, Lawful}
use Rattle.ep_cells.specs.declared.cell.Cell.{Cell}
use Rattle.ep_cells.specs.declared.cell.Value.{Value}
use Rattle.ep_cells.specs.declared.cell.Value.TheVariants.{Num, Ptr}
use Rattle.ep_cells.specs.Cells.{on_left, on_right}
use Rattle.ep_cells.specs.Look.{cell_at}
use Rattle.ep_cells.specs.States.{Known, AreCells}
use Rattle.ep_cells.specs.Meaning.{Memories, Allows, Has, HasBytes, In}
use Rattle.ep_reads.specs.Read.{is_same_sort, is_exact}
use Rattle.ep_reads.proofs.Wholes.{found_of}
use Rattle.ep_reads.proofs.Found.{covering}
use Rattle.ep_cell_ranges.specs.Laws.{SharedLaws}

-- what a scalar of the size is, where this stands
abbrev pub as_read : Scalar → Datum → Datum
as_read (Int r) (int z) = int (wrapped r z)
as_read (Int r) null = null
as_read (Int r) (pointer b q) = pointer b q
as_read Pointer v = v

pub has_one : (u v : Datum) → has u ≡ has v → u ≡ v
has_one u v e = cc

module _ {N : Type 0} (D : Ops N) (law : Lawful D) where
  -- the value that is found there
  pub found_as : (d : Model) (o : Order) (m : Memory) (w u : Scalar) (b q : ℕ) (c : Option (Value N)) (y v : Datum)
      → size_of d u ≡ size_of d w
      → is_same_sort u w ≡ true → Allows D u c false (Some y) → Has o m u b q (size_of d u) y
      → value_of_bytes o w (bytes_from m b q (size_of d w)) ≡ has v → v ≡ as_read w y
  found_as d o m w (Int t) b q None y v e s a h f = absurd (let z : Some y ≡ None = a in cc)
  found_as d o m w Pointer b q None y v e s a h f = absurd (let z : Some y ≡ None = a in cc)
  found_as d o m Pointer (Int t) b q (Some c) y v e s a h f = absurd (let z : false ≡ true = s in cc)
  found_as d o m (Int r) Pointer b q (Some c) y v e s a h f = absurd (let z : false ≡ true = s in cc)
  found_as d o m (Int r) (Int t) b q (Some (Ptr c)) (int z) v e s a h f = absurd a
  found_as d o m (Int r) (Int t) b q (Some (Ptr c)) null v e s a h f = absurd a
  found_as d o m (Int r) (Int t) b q (Some (Ptr c)) (pointer x y) v e s a h f = absurd a
  found_as d o m (Int r) (Int t) b q (Some (Num c)) null v e s a h f = absurd a
  found_as d o m (Int r) (Int t) b q (Some (Num c)) (pointer x y) v e s a h f = absurd a
  found_as d o m (Int r) (Int t) b q (Some (Num c)) (int z) v e s a h f =
      let i = found_of D d o m (Int r) b q (Some (Num (D.top r))) (int (wrapped r z))
      (wrapped_in_range r z, law.top_holds r (wrapped r z) (wrapped_in_range r z))
      (λ j l. h j (subst (λ x. j < x) (sym e) l) ∙ ap number (converted_bytes o t r z j e)) in
      has_one v (int (wrapped r z)) (sym f ∙ i.found)
  found_as d o m Pointer Pointer b q (Some c) y v e s a h f =
      let i = found_of D d o m Pointer b q (Some c) y a h in has_one v y (sym f ∙ i.found)

  pub of_cell : (x : Cell N) → (y : Option Datum) → x.maybe ≡ false → Allows D x.what x.value x.maybe y
      → (x.value ≡ None → x.maybe ≡ true)
      → (z : Datum) × (y ≡ Some z)
  of_cell x (Some z) s a n = (z, refl)
  of_cell x None s a n = absurd (no_value x.what x.value (subst (λ c. Allows D x.what x.value c None) s a) (λ e. sym s
      ∙ n e))
    where
      no_value : (u : Scalar) (c : Option (Value N)) → Allows D u c false None → (c ≡ None → false ≡ true) → ⊥
      no_value u None a n = let z : false ≡ true = n refl in cc
      no_value (Int t) (Some c) a n = let z : false ≡ true = a in cc
      no_value Pointer (Some c) a n = let z : false ≡ true = a in cc

  module _ (k : Known N) (m : Memories) (w : Scalar) (b q : ℕ) where
    pub by_cell : (x : Cell N) → AreCells k.model k.cells → In D k m
        → cell_at k.model cell_side.Left b q k.cells ≡ Some x → is_exact k.model w q x ≡ true
        → x.side ≡ cell_side.Shared
        → x.maybe ≡ false → (u v : Datum)
        → value_of_bytes k.orders.0 w (bytes_from m.left b q (size_of k.model w)) ≡ has u
        → value_of_bytes k.orders.1 w (bytes_from m.right b q (size_of k.model w)) ≡ has v → u ≡ v
    by_cell x cells holds at exact shared sure u v f g =
        let c = covering k.model cell_side.Left b q k.cells x at in
        let says = holds.cells x c.is_in in
        let e1 = and_parts (nat_eq x.offset q) (nat_eq (size_of k.model x.what) (size_of k.model w) && is_same_sort
        x.what w) exact in
        let e2 = and_parts (nat_eq (size_of k.model x.what) (size_of k.model w)) (is_same_sort x.what w) e1.1 in
        let offset = eqb-true x.offset q e1.0 in
        let size = eqb-true (size_of k.model x.what) (size_of k.model w) e2.0 in
        let z = of_cell x says.datum sure says.allowed (cells.each x c.is_in).fits.undefined in
        let a : Allows D x.what x.value false (Some z.0) = subst (λ t. Allows D x.what x.value t (Some z.0)) sure
        (subst (Allows D x.what x.value x.maybe) z.1 says.allowed) in
        let hl = stands k.orders.0 m.left x z.0 says.datum z.1 sure c.in_block offset
        (says.stands.left (ap on_left shared)) in
        let hr = stands k.orders.1 m.right x z.0 says.datum z.1 sure c.in_block offset
        (says.stands.right (ap on_right shared)) in
        found_as k.model k.orders.0 m.left w x.what b q x.value z.0 u size e2.1 a hl f
        ∙ sym (found_as k.model k.orders.1 m.right w x.what b q x.value z.0 v size e2.1 a hr g)
      where
        stands : (o : Order) (n : Memory) (x : Cell N) (z : Datum) (y : Option Datum) → y ≡ Some z → x.maybe ≡ false
            → x.block ≡ b → x.offset ≡ q
            → HasBytes o n (size_of k.model x.what) x.what x.maybe x.block x.offset y
            → Has o n x.what b q (size_of k.model x.what) z
        stands o n x z y e s i j h =
            let h1 = subst (λ t. HasBytes o n (size_of k.model x.what) x.what x.maybe x.block x.offset t) e h in
            let h2 : HasBytes o n (size_of k.model x.what) x.what false x.block x.offset (Some z) = subst
            (λ t. HasBytes o n (size_of k.model x.what) x.what t x.block x.offset (Some z)) s h1 in
            let h3 : Has o n x.what b x.offset (size_of k.model x.what) z = subst
            (λ t. Has o n x.what t x.offset (size_of k.model x.what) z) i h2 in
            subst (λ t. Has o n x.what b t (size_of k.model x.what) z) j h3

  pub of_shared : SharedLaws D
  of_shared = record { same = λ k m w b q x a i at e s n. by_cell k m w b q x a i at e s n }
