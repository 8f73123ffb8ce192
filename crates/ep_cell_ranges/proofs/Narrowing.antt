-- A cell gets another value.
use Rattle.std.proofs.Common.{◌≡◌, Bool, true, false, cond, List, map, Option, Some, None, IfSome, refl, sym, subst}
use Rattle.ep_int.specs.declared.types.Order.{Order}
use Rattle.ep_int.specs.declared.types.Model.{Model}
use Rattle.ep_int.specs.Memory.{Value as Datum}
use Rattle.ep_bitslice.specs.declared.cell.CellName.{CellName}
use Rattle.ep_bitslice.specs.declared.segment.Segment.{Segment}
use Rattle.ep_domain.specs.Domain.{Ops}
use Rattle.ep_cells.specs.declared.cell.Cell.{Cell}
use Rattle.ep_cells.specs.declared.cell.Value.{Value}
use Rattle.ep_cells.specs.Cells.{is_same_cell, IsIn, IsNamed}
use Rattle.ep_cells.specs.States.{Known, IsOfSort, HasRisingBlocks, IsCell, IsThere, IsFormOf, HasForm, AreApart}
use Rattle.ep_cells.specs.States.{AreCells}
use Rattle.ep_cells.specs.Meaning.{Memories, Allows, StandsAt, Says, FormSays, In}
use Rattle.ep_cells.proofs.Lists.{in_map, map_in, pairs_map}
use Rattle.ep_cells.proofs.Both.{alike_same, only_one}
use Rattle.ep_cell_ranges.specs.Narrow.{set_in, with_value}
use Rattle.ep_cell_ranges.specs.Laws.{NarrowLaws}

abbrev with : {N : Type 0} → Cell N → Value N → Cell N
with x v = record x { value = Some v }

-- what holds of both ways holds of a choice
pub either_cell : {N : Type 0} (P : Cell N → Type 0) (x y : Cell N) (b : Bool) → (b ≡ true → P x) → (b ≡ false → P y)
    → P (cond b x y)
either_cell P x y true h i = h refl
either_cell P x y false h i = i refl

-- ---- the cells

apart_set : {N : Type 0} (d : Model) (v : Value N) (x y : Cell N) (a b : Bool) → AreApart d x y
    → AreApart d (cond a (with x v) x) (cond b (with y v) y)
apart_set d v x y true true r = record { ordered = r.ordered; apart = r.apart }
apart_set d v x y true false r = record { ordered = r.ordered; apart = r.apart }
apart_set d v x y false true r = record { ordered = r.ordered; apart = r.apart }
apart_set d v x y false false r = r

there_set : {N : Type 0} (c : Cell N) (v : Value N) (n : CellName) (cs : List (Cell N)) → IsThere n cs
    → IsThere n (map (set_in c v) cs)
there_set {N = N} c v n cs h = record {
  cell = set_in c v h.cell;
  is_in = map_in (set_in c v) h.cell cs h.is_in;
  named = either_cell (λ (z : Cell N). IsNamed n z) (with h.cell v) h.cell (is_same_cell h.cell c)
      (λ _. record { side = h.named.side; block = h.named.block; offset = h.named.offset; what = h.named.what })
      (λ _. h.named);
  sure = either_cell (λ (z : Cell N). z.maybe ≡ false) (with h.cell v) h.cell (is_same_cell h.cell c) (λ _. h.sure)
      (λ _. h.sure);
}

form_set_by : {N : Type 0} (c : Cell N) (v : Value N) (cs : List (Cell N)) (x : Cell N) (o : Option (List Segment))
    → IfSome o (IsFormOf cs x) → IfSome o (IsFormOf (map (set_in c v) cs) x)
form_set_by c v cs x None h = tt
form_set_by c v cs x (Some ss) h = record {
  sure = h.sure;
  wide = h.wide;
  form = h.form;
  mentioned = λ n i. there_set c v n cs (h.mentioned n i);
}

form_with : {N : Type 0} (cs : List (Cell N)) (x : Cell N) (v : Value N) (o : Option (List Segment))
    → IfSome o (IsFormOf cs x)
    → IfSome o (IsFormOf cs (with x v))
form_with cs x v None h = tt
form_with cs x v (Some ss) h = record { sure = h.sure; wide = h.wide; form = h.form; mentioned = h.mentioned }

says_with : {N : Type 0} (os : Order × Order) (m : Memories) (x : Cell N) (v : Value N) (o : Option (List Segment))
    → IfSome o (FormSays os m x) → IfSome o (FormSays os m (with x v))
says_with os m x v None h = tt
says_with os m x v (Some ss) h = h

module _ {N : Type 0} (D : Ops N) where
  pub set_cells : (d : Model) (cs : List (Cell N)) (c : Cell N) (v : Value N) → AreCells d cs → IsIn c cs
      → IsOfSort c.what (Some v) → HasRisingBlocks (Some v) → AreCells d (map (set_in c v) cs)
  set_cells d cs c v a i sort rising = record {
    each = λ y h.
        let t = in_map (set_in c v) y cs h in
        subst (IsCell d) (sym t.is)
        (either_cell (IsCell d) (with t.origin v) t.origin (is_same_cell t.origin c)
        (λ e. record {
          fits = record {
            sort = subst (λ w. IsOfSort w (Some v)) (sym (alike_same t.origin c e).what) sort;
            undefined = λ q. absurd cc;
            last = (a.each t.origin t.is_in).fits.last;
          };
          rising = rising;
        }) (λ _. a.each t.origin t.is_in));
    pairs = pairs_map (AreApart d) (set_in c v) cs a.pairs
        (λ x y r. apart_set d v x y (is_same_cell x c) (is_same_cell y c) r);
    forms = λ y h.
        let t = in_map (set_in c v) y cs h in
        let f = form_set_by c v cs t.origin t.origin.form (a.forms t.origin t.is_in) in
        subst (HasForm (map (set_in c v) cs)) (sym t.is)
        (either_cell (HasForm (map (set_in c v) cs)) (with t.origin v) t.origin (is_same_cell t.origin c)
        (λ _. form_with (map (set_in c v) cs) t.origin v t.origin.form f) (λ _. f));
  }

  says_new : (k : Known N) (m : Memories) (c : Cell N) (u : Datum) (v : Value N) → c.maybe ≡ false
      → StandsAt k.orders k.model m c (Some u) → Allows D c.what (Some v) false (Some u) → (x : Cell N) → x ≡ c
      → Says D k.orders k.model m (with x v)
  says_new k m c u v s h a x e = subst (λ z. Says D k.orders k.model m (with z v)) (sym e) (record {
    datum = Some u;
    allowed = subst (λ b. Allows D c.what (Some v) b (Some u)) (sym s) a;
    stands = record { left = h.left; right = h.right };
  })

  -- where the value is one of what stands there, memories of the state stay in it
  pub set_holds : (k : Known N) (c : Cell N) (v : Value N) → AreCells k.model k.cells → IsIn c k.cells → c.maybe ≡ false
      → (m : Memories) (u : Datum) → In D k m → StandsAt k.orders k.model m c (Some u)
      → Allows D c.what (Some v) false (Some u) → In D (with_value c v k) m
  set_holds k c v cells is_in sure m u holds stands a = record {
    cells = λ y i.
        let t = in_map (set_in c v) y k.cells i in
        subst (Says D k.orders k.model m) (sym t.is)
        (either_cell (Says D k.orders k.model m) (with t.origin v) t.origin (is_same_cell t.origin c)
        (λ e. says_new k m c u v sure stands a t.origin
        (only_one k.model t.origin c k.cells cells.pairs t.is_in is_in (alike_same t.origin c e)))
        (λ _. holds.cells t.origin t.is_in));
    forms = λ y i.
        let t = in_map (set_in c v) y k.cells i in
        let f = holds.forms t.origin t.is_in in
        subst (λ (z : Cell N). IfSome z.form (FormSays k.orders m z)) (sym t.is)
        (either_cell (λ (z : Cell N). IfSome z.form (FormSays k.orders m z)) (with t.origin v) t.origin
        (is_same_cell t.origin c) (λ _. says_with k.orders m t.origin v t.origin.form f) (λ _. f));
  }

  pub of_narrow : NarrowLaws D
  of_narrow = record { cells = set_cells; holds = set_holds }
