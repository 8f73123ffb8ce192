-- The cell of an operand is looked up again in another state.
use Rattle.std.proofs.Common.{◌≡◌, ℕ, Bool, true, false, ◌&&◌, ◌||◌, not, nat_eq, cond, Option, Some, None, IfSome}
use Rattle.ep_cell_ranges.proofs.Shareds.{has_one}
use Rattle.std.proofs.lemmas.Bool.{not-true}
use Rattle.std.proofs.Common.{refl, sym, ap, ◌∙◌, subst}
use Rattle.std.proofs.lemmas.Bool.{and_parts, eqb-true}
use Rattle.ep_int.specs.declared.types.Order.{Order}
use Rattle.ep_int.specs.declared.types.Model.{Model}
use Rattle.ep_int.specs.declared.types.Scalar.{Scalar}
use Rattle.ep_int.specs.Types.{size_of}
use Rattle.ep_int.specs.Memory.{Memory, Value as Datum}
use Rattle.ep_bitslice.specs.declared.cell.Side.{Side as CellSide}
use Rattle.ep_bitslice.specs.declared.cell.Side.TheVariants as cell_side
use Rattle.ep_domain.specs.Domain.{Ops, Lawful}
use Rattle.ep_cells.specs.declared.cell.Cell.{Cell}
use Rattle.ep_cells.specs.declared.cell.Value.{Value}
use Rattle.ep_cells.specs.Cells.{IsIn, is_same_scalar, is_same_side}
use Rattle.ep_cells.specs.Look.{cell_at}
use Rattle.ep_cells.specs.States.{Known}
use Rattle.ep_cells.specs.Meaning.{Memories, Allows, HasBytes, Says}
use Rattle.ep_cells.proofs.Both.{scalar_same}
use Rattle.ep_reads.specs.Bytes.{order_on}
use Rattle.ep_reads.specs.Laws.{memory_on}
use Rattle.ep_reads.proofs.Wholes.{found_of}
use Rattle.ep_reads.proofs.Found.{covering, stands_there}
use Rattle.ep_cell_ranges.proofs.Shareds.{of_cell}
use Rattle.ep_core.specs.Program.{Program}
use Rattle.ep_core.specs.Runs.{Side}
use Rattle.ep_evaluation.specs.Narrowed.{sure_cell, again}
use Rattle.ep_evaluation.specs.Laws.{IsKept, IsOfCell}
use Rattle.ep_evaluation.proofs.Assuming.{CellHas, CellThere}

own_side : (s : CellSide) → (is_same_side s s || is_same_side s cell_side.Shared) ≡ true
own_side cell_side.Left = refl
own_side cell_side.Right = refl
own_side cell_side.Shared = refl

-- the bytes of a place are those of a value, wherever its parts come from
named_so : (n : Memory) (o r : Order) (d e : Model) (w u : Scalar) (t : Bool) (b c q i : ℕ) (y : Option Datum)
    (v : Datum) → o ≡ r → d ≡ e → w ≡ u → t ≡ false → b ≡ c → q ≡ i → y ≡ Some v
    → HasBytes o n (size_of d w) w t b q y → HasBytes r n (size_of e u) u false c i (Some v)
named_so n o r d e w u t b c q i y v eo ed ew et eb eq ey h =
    let h0 = subst (λ y. HasBytes o n (size_of d w) w t b q y) ey h in
    let h1 = subst (λ t. HasBytes o n (size_of d w) w t b q (Some v)) et h0 in
    let h2 = subst (λ o. HasBytes o n (size_of d w) w false b q (Some v)) eo h1 in
    let h3 = subst (λ d. HasBytes r n (size_of d w) w false b q (Some v)) ed h2 in
    let h4 = subst (λ w. HasBytes r n (size_of e w) w false b q (Some v)) ew h3 in
    let h5 = subst (λ b. HasBytes r n (size_of e u) u false b q (Some v)) eb h4 in
    subst (λ q. HasBytes r n (size_of e u) u false c q (Some v)) eq h5

module _ {N : Type 0} (D : Ops N) (law : Lawful D) (p : Program) (ord : Side → Order) where
  -- bytes are those of one value alone
  one_datum : (d : Model) (o : Order) (n : Memory) (w : Scalar) (b q : ℕ) (f g : Option (Value N)) (u v : Datum)
      → Allows D w f false (Some u) → Allows D w g false (Some v)
      → HasBytes o n (size_of d w) w false b q (Some u) → HasBytes o n (size_of d w) w false b q (Some v) → u ≡ v
  one_datum d o n w b q f g u v a c h i =
      let x = found_of D d o n w b q f u a h in
      let y = found_of D d o n w b q g v c i in
      has_one u v (sym x.found ∙ y.found)

  module _ (k j : Known N) (m : Memories) (c : Cell N) (v : Datum) (of : IsOfCell D p ord k m c v)
      (orders : j.orders ≡ k.orders) (model : j.model ≡ k.model) (kept : IsKept D p ord j m) where
    own_says : Says D k.orders k.model m c
    own_says = record {
      datum = Some v;
      allowed = subst (λ t. Allows D c.what c.value t (Some v)) (sym of.sure) of.allowed;
      stands = of.stands;
    }

    stands_again : (x : Cell N) → cell_at j.model c.side c.block c.offset j.cells ≡ Some x → x.offset ≡ c.offset
        → x.what ≡ c.what → x.maybe ≡ false → IsOfCell D p ord j m x v
    unfolding own_says
    stands_again x at offset what sure =
        let r = covering j.model c.side c.block c.offset j.cells x at in
        let says = kept.holds.cells x r.is_in in
        let z = of_cell D law x says.datum sure says.allowed (kept.state.cells.each x r.is_in).fits.undefined in
        let a : Allows D x.what x.value false (Some z.0) = subst (λ t. Allows D x.what x.value t (Some z.0)) sure
        (subst (Allows D x.what x.value x.maybe) z.1 says.allowed) in
        let here = named_so (memory_on c.side m) (order_on c.side j.orders) (order_on c.side k.orders) j.model k.model
        x.what c.what x.maybe x.block c.block x.offset c.offset says.datum z.0 (ap (order_on c.side) orders) model what
        sure r.in_block offset z.1 (stands_there D j m c.side x r.sides says) in
        let own = named_so (memory_on c.side m) (order_on c.side k.orders) (order_on c.side k.orders) k.model k.model
        c.what c.what c.maybe c.block c.block c.offset c.offset (Some v) v refl refl refl of.sure refl refl refl
        (stands_there D k m c.side c (own_side c.side) own_says) in
        let same = one_datum k.model (order_on c.side k.orders) (memory_on c.side m) c.what c.block c.offset x.value
        c.value z.0 v (subst (λ w. Allows D w x.value false (Some z.0)) what a) of.allowed here own in
        record {
          is_in = r.is_in;
          sure = sure;
          stands = record {
            left = λ e. subst (λ y.
                HasBytes j.orders.0 m.left (size_of j.model x.what) x.what x.maybe x.block x.offset y) (z.1
                ∙ ap Some same) (says.stands.left e);
            right = λ e. subst (λ y.
                HasBytes j.orders.1 m.right (size_of j.model x.what) x.what x.maybe x.block x.offset y) (z.1
                ∙ ap Some same) (says.stands.right e);
          };
          allowed = subst (λ y. Allows D x.what x.value false (Some y)) same a;
        }

    has_by : (o : Option (Cell N)) → cell_at j.model c.side c.block c.offset j.cells ≡ o
        → IfSome (sure_cell c.what (c.block, c.offset) o) (λ x. IsOfCell D p ord j m x v)
    has_by None e = tt
    has_by (Some x) e = by_test (nat_eq x.offset c.offset && (is_same_scalar x.what c.what && not x.maybe)) refl
      where
        by_test : (b : Bool) → (nat_eq x.offset c.offset && (is_same_scalar x.what c.what && not x.maybe)) ≡ b
            → IfSome (cond b (Some x) None) (λ x. IsOfCell D p ord j m x v)
        by_test true i =
            let r = and_parts (nat_eq x.offset c.offset) (is_same_scalar x.what c.what && not x.maybe) i in
            let t = and_parts (is_same_scalar x.what c.what) (not x.maybe) r.1 in
            stands_again x e (eqb-true x.offset c.offset r.0) (scalar_same x.what c.what t.0) (not-true x.maybe t.1)
        by_test false i = tt

  -- What stood at its place stands there in each state that holds of the memories.
  pub again_has : (k : Known N) (m : Memories) → IsKept D p ord k m → (o : Option (Cell N)) (v : Datum)
      → IfSome o (λ c. IsOfCell D p ord k m c v) → CellHas D law p ord m (again o) v
  again_has k m kept None v h j i = tt
  again_has k m kept (Some c) v h j i =
      has_by k j m c v h (i.state.orders ∙ sym kept.state.orders) (i.state.model ∙ sym kept.state.model) i
      (cell_at j.model c.side c.block c.offset j.cells) refl

  there_by : (k : Known N) (c : Cell N) (o : Option (Cell N)) → cell_at k.model c.side c.block c.offset k.cells ≡ o
      → IfSome (sure_cell c.what (c.block, c.offset) o) (λ x. IsIn x k.cells)
  there_by k c None e = tt
  there_by k c (Some x) e = by_test (nat_eq x.offset c.offset && (is_same_scalar x.what c.what && not x.maybe))
    where
      by_test : (b : Bool) → IfSome (cond b (Some x) None) (λ x. IsIn x k.cells)
      by_test true = (covering k.model c.side c.block c.offset k.cells x e).is_in
      by_test false = tt

  pub again_there : (o : Option (Cell N)) → CellThere D law p ord (again o)
  again_there None j i = tt
  again_there (Some c) j i = there_by j c (cell_at j.model c.side c.block c.offset j.cells) refl
