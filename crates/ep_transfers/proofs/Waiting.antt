-- Values that wait while blocks come: their forms lose each mention of these blocks, and what is left of them is still
-- said, whatever is done in these blocks.
use Rattle.std.proofs.Common.{◌≡◌, ℕ, ◌+◌, Bool, true, false, ◌||◌, nat_eq, cond, List, [], ◌∷◌, slice_get, Some}
use Rattle.ep_cell_ranges.proofs.Held.{part_in}
use Rattle.std.proofs.lemmas.Bool.{or_parts}
use Rattle.std.proofs.Common.{None, IfSome, refl, sym, ap, ◌∙◌, subst}
use Rattle.ep_int.specs.declared.types.Order.{Order}
use Rattle.ep_int.specs.declared.types.Scalar.{Scalar}
use Rattle.ep_int.specs.declared.types.Scalar.TheVariants.{Int, Pointer}
use Rattle.ep_int.specs.Memory.{Byte, undefined, number as byte_number, fragment, Memory, Value as Datum, int, null}
use Rattle.ep_int.specs.Memory.{pointer, contains, forgotten, number_in}
use Rattle.ep_int.proofs.Encodings.{decoded_same}
use Rattle.ep_bitslice.specs.declared.cell.Side.{Side as CellSide}
use Rattle.ep_bitslice.specs.declared.cell.Side.TheVariants as cell_side
use Rattle.ep_bitslice.specs.declared.cell.CellName.{CellName}
use Rattle.ep_domain.specs.Domain.{Ops}
use Rattle.ep_cells.specs.Forms.{form_after}
use Rattle.ep_cells.specs.Kill.{fate_by_kill}
use Rattle.ep_cells.specs.States.{Known, IsThere}
use Rattle.ep_cells.specs.Meaning.{Memories, number_at, number_on, numbers_of}
use Rattle.ep_cells.specs.Cells.{on_left, on_right}
use Rattle.ep_cells.specs.Meaning.{In}
use Rattle.ep_cells.specs.Laws.{KillLaws}
use Rattle.ep_cell_ranges.proofs.KillHeld.{kill_leads}
use Rattle.ep_core.specs.Program.{Program}
use Rattle.ep_core.specs.Runs.{Side, left, right}
use Rattle.ep_core.specs.WellFormed.{blocks_fit}
use Rattle.ep_equalities.specs.declared.pair.Mode.{Mode}
use Rattle.ep_equalities.specs.declared.pair.SideValue.{SideValue}
use Rattle.ep_equalities.specs.Pairs.{SideIn, HasFormNumber}
use Rattle.ep_evaluation.specs.Given.{Given, on}
use Rattle.ep_cell_ranges.specs.Ranges.{Form}
use Rattle.ep_cell_ranges.specs.Follow.{FormFits, FormHas}
use Rattle.ep_cell_ranges.proofs.Held.{held_fits, held_numbers}
use Rattle.ep_evaluation.specs.Laws.{Machine, memory_of, IsState, SideFits}
use Rattle.ep_evaluation.proofs.General.{reliable_none}
use Rattle.ep_transfers.specs.Writes.{formed_side, formed_pair}
use Rattle.ep_transfers.specs.Transfers.{fate_off_blocks, leaves_in, bytes_in, killed_block, killed_blocks}
use Rattle.ep_transfers.proofs.Assigned.{form_has}
use Rattle.ep_transfers.proofs.Evaluated.{Evaluated}
use Rattle.ep_transfers.proofs.Kills.{AllKilled, AreAllKilled, one_killed, one_is, rest_killed, block_killed}

-- a mention goes on as it is where its block isn't one of these
pub off_by : (t : Bool) (c e : CellName) → cond t None (Some c) ≡ Some e → (t ≡ false) × (c ≡ e)
off_by true c e h = absurd (cc)
off_by false c e h = (refl, let q : c ≡ e = cc in q)

off_is : (frame : List ℕ) (c e : CellName) → fate_off_blocks frame c ≡ Some e → (contains c.block frame ≡ false) × (c ≡ e)
off_is frame c e h = off_by (contains c.block frame) c e h

number_from : (os : Order × Order) (m : Memories) (w : Scalar) (z : Datum) (f : Form) → FormHas os m w z f
    → IfSome f (HasFormNumber (numbers_of os m) w z)
number_from os m w z None h = tt
number_from os m (Int t) (int z) (Some ss) h = h
number_from os m (Int t) null (Some ss) h = absurd h
number_from os m (Int t) (pointer b q) (Some ss) h = absurd h
number_from os m Pointer z (Some ss) h = absurd h

module _ {N : Type 0} (D : Ops N) (p : Program) (ord : Side → Order) (frame : List ℕ) where
  -- From one state and its memories to another, cells of other blocks that may be mentioned stay, and their numbers.
  pub record OthersStay (j k : Known N) (m n : Memories) : Type 0 where
    pub orders : k.orders ≡ j.orders
    pub there : (c : CellName) → contains c.block frame ≡ false → IsThere c j.cells → IsThere c k.cells
    pub numbers : (c : CellName) → contains c.block frame ≡ false
        → numbers_of j.orders n c ≡ numbers_of j.orders m c

  form_fits : (j k : Known N) (m n : Memories) → OthersStay j k m n → (w : Scalar) (f : Form) → FormFits j.cells w f
      → FormFits k.cells w (form_after (fate_off_blocks frame) f)
  form_fits j k m n s w f h =
      held_fits j.cells k.cells (fate_off_blocks frame)
      (λ c e t i.
      let q = off_is frame c e i in
      subst (λ z. IsThere z k.cells) q.1 (s.there c q.0 t)) w f h

  form_says : (j k : Known N) (m n : Memories) → OthersStay j k m n → (w : Scalar) (x : Datum) (f : Form)
      → FormFits j.cells w f → FormHas j.orders m w x f
      → FormHas j.orders n w x (form_after (fate_off_blocks frame) f)
  form_says j k m n s w x f h i =
      held_numbers j.orders m n j.cells (fate_off_blocks frame)
      (λ c e t g.
      let q = off_is frame c e g in
      subst (λ z. numbers_of j.orders n z ≡ numbers_of j.orders m c) q.1 (s.numbers c q.0)) w x f h i

  side_stays : (j k : Known N) (m n : Memories) → OthersStay j k m n → (w : Scalar) (v : SideValue N) (x : Datum)
      → FormFits j.cells w v.form → SideIn D (numbers_of j.orders m) w v x
      → SideIn D (numbers_of k.orders n) w (formed_side (form_after (fate_off_blocks frame)) v) x
  side_stays j k m n s w v x f h = record {
    value = h.value;
    form = subst (λ os. IfSome (form_after (fate_off_blocks frame) v.form) (HasFormNumber (numbers_of os n) w x))
        (sym s.orders)
        (number_from j.orders n w x (form_after (fate_off_blocks frame) v.form)
        (form_says j k m n s w x v.form f (form_has j.orders m w x v.form h.form)));
  }

  -- a value that was found before the blocks came, as it waits
  pub still_evaluated : (j k : Known N) (m n : Memories) → OthersStay j k m n → (mode : Mode) (w : Scalar)
      (f : Side → Machine) (v : Given N) → Evaluated D p ord mode j m w f v → v.faults ≡ []
      → Evaluated D p ord mode k n w (λ s z. f s (memory_of s m))
      (record { pair = formed_pair (form_after (fate_off_blocks frame)) v.pair; faults = [] })
  still_evaluated j k m n s mode w f v a none = record {
    holds = record {
      held = λ r i g x e. held i x (a.fits i).form (a.holds.held (reliable_none mode v.faults none) i g x e);
      found = λ e i g. a.holds.found none i g;
      same = λ b e q x y hx hy. a.holds.same b none q x y hx hy;
    };
    fits = fits;
  }
    where
      held : (i : Side) (x : Datum) → FormFits j.cells w (on v.pair i).form
          → SideIn D (numbers_of j.orders m) w (on v.pair i) x
          → SideIn D (numbers_of k.orders n) w (on (formed_pair (form_after (fate_off_blocks frame)) v.pair) i) x
      held left x f h = side_stays j k m n s w v.pair.left x f h
      held right x f h = side_stays j k m n s w v.pair.right x f h

      fits : (i : Side) → SideFits D p ord k w (on (formed_pair (form_after (fate_off_blocks frame)) v.pair) i)
      fits left = record {
        sort = (a.fits left).sort;
        rising = (a.fits left).rising;
        form = form_fits j k m n s w v.pair.left.form (a.fits left).form;
      }
      fits right = record {
        sort = (a.fits right).sort;
        rising = (a.fits right).rising;
        form = form_fits j k m n s w v.pair.right.form (a.fits right).form;
      }

-- ---- blocks that come

kill_fate : (s : CellSide) (b : ℕ) (c : CellName) → nat_eq c.block b ≡ false → fate_by_kill s b c ≡ Some c
kill_fate s b c e = rw e refl

forgotten_number : (bs : List ℕ) (x : Byte) → number_in (forgotten bs x) ≡ number_in x
forgotten_number bs undefined = refl
forgotten_number bs (byte_number v) = refl
forgotten_number bs (fragment b o k) = part_in (contains b bs) b o k

left_number : (bs : List ℕ) (t : Bool) (x : Byte) → t ≡ false
    → number_in (cond t undefined (forgotten bs x)) ≡ number_in x
left_number bs true x e = absurd (cc)
left_number bs false x e = forgotten_number bs x

at_killed : (o : Order) (bs : List ℕ) (dead : Bool) (m n : Memory) (c : CellName) → AllKilled bs dead m n
    → contains c.block bs ≡ false → number_at o n c ≡ number_at o m c
at_killed o bs true m n c h off =
    decoded_same o c.t (λ q. number_in (n c.block (c.offset + q))) (λ q. number_in (m c.block (c.offset + q)))
    (λ q l. ap number_in (h.gone refl c.block (c.offset + q))
    ∙ left_number bs (contains c.block bs) (m c.block (c.offset + q)) off)
at_killed o bs false m n c h off =
    decoded_same o c.t (λ q. number_in (n c.block (c.offset + q))) (λ q. number_in (m c.block (c.offset + q)))
    (λ q l. ap number_in (h.alive refl c.block (c.offset + q)))

on_killed : (r : CellSide) (os : Order × Order) (s : CellSide) (bs : List ℕ) (m n : Memories) (c : CellName)
    → AreAllKilled s bs m n → contains c.block bs ≡ false → number_on r os n c ≡ number_on r os m c
on_killed cell_side.Left os s bs m n c h off = at_killed os.0 bs (on_left s) m.left n.left c h.left off
on_killed cell_side.Right os s bs m n c h off = at_killed os.1 bs (on_right s) m.right n.right c h.right off
on_killed cell_side.Shared os s bs m n c h off = at_killed os.0 bs (on_left s) m.left n.left c h.left off

module _ {N : Type 0} (D : Ops N) (p : Program) (ord : Side → Order) (fit : blocks_fit p.types p.blocks ≡ true)
    (kill : KillLaws D) where
  killed_there : (s : CellSide) (bs : List ℕ) (k : Known N) (m n : Memories) → IsState D p ord k → In D k m
      → AreAllKilled s bs m n → (c : CellName) → contains c.block bs ≡ false → IsThere c k.cells
      → IsThere c (killed_blocks D p s bs k).cells
  killed_there s [] k m n i h a c off t = t
  killed_there s (b ∷ bs) k m n i h a c off t =
      let o = or_parts (nat_eq c.block b) (contains c.block bs) off in
      let j : Memories = record { left = one_killed (on_left s) b m.left; right = one_killed (on_right s) b m.right } in
      let q = block_killed D p ord fit kill s b k m j i h
      (record { left = one_is (on_left s) b m.left; right = one_is (on_right s) b m.right }) in
      killed_there s bs (killed_block D p s b (slice_get p.blocks b) k) j n q.0 q.1
      (record {
        left = rest_killed (on_left s) b bs m.left n.left a.left;
        right = rest_killed (on_right s) b bs m.right n.right a.right;
      })
      c o.1
      (kill_leads k.model s b (leaves_in D p (slice_get p.blocks b)) (bytes_in D p (slice_get p.blocks b)) k.cells
      i.cells c c t (kill_fate s b c o.0))

  killed_orders : (s : CellSide) (bs : List ℕ) (k : Known N) → (killed_blocks D p s bs k).orders ≡ k.orders
  killed_orders s [] k = refl
  killed_orders s (b ∷ bs) k = killed_orders s bs (killed_block D p s b (slice_get p.blocks b) k)

  -- where blocks come or go, cells of others stay
  pub killed_others : (s : CellSide) (bs : List ℕ) (k : Known N) (m n : Memories) → IsState D p ord k → In D k m
      → AreAllKilled s bs m n → OthersStay D p ord bs k (killed_blocks D p s bs k) m n
  killed_others s bs k m n i h a = record {
    orders = killed_orders s bs k;
    there = λ c off t. killed_there s bs k m n i h a c off t;
    numbers = λ c off. on_killed c.side k.orders s bs m n c a off;
  }
