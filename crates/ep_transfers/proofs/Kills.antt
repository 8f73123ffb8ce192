-- Blocks that come and go.
use Rattle.std.proofs.Common.{◌≡◌, ℕ, zero, suc, ◌+◌, ◌^◌, ◌≤◌, Bool, true, false, ◌||◌, nat_eq, nat_le, cond, List}
use Rattle.ep_core.proofs.Basics.{is_number-size}
use Rattle.ep_int.proofs.Basics.{forgotten-none}
use Rattle.std.proofs.Common.{[], ◌∷◌, sum_by, slice_get, Option, Some, None, refl, sym, ◌∙◌, subst, arith}
use Rattle.std.specs.List.{list_all}
use Rattle.std.proofs.lemmas.List.Sums.{sum_by-cons}
use Rattle.std.proofs.lemmas.Bool.{and_parts, leb-true}
use Rattle.ep_int.specs.declared.types.Model.{Model}
use Rattle.ep_int.specs.declared.types.Order.{Order}
use Rattle.ep_int.specs.Types.{size_of}
use Rattle.ep_int.specs.Memory.{Byte, undefined, number, fragment, Memory, contains, forgotten, killed}
use Rattle.ep_layout.specs.declared.types.Leaf.{Leaf}
use Rattle.ep_layout.specs.Layout.{AreLeavesFrom}
use Rattle.ep_layout.specs.Table as table
use Rattle.ep_layout.proofs.Ordered.{leaves_ordered}
use Rattle.ep_bitslice.specs.declared.cell.Side.{Side as CellSide}
use Rattle.ep_bitslice.specs.declared.cell.Side.TheVariants as cell_side
use Rattle.ep_domain.specs.Domain.{Ops}
use Rattle.ep_cells.specs.Cells.{on_left, on_right}
use Rattle.ep_cells.specs.Kill.{AreLeavesIn}
use Rattle.ep_cells.specs.States.{Known}
use Rattle.ep_cells.specs.Meaning.{Memories, In}
use Rattle.ep_cells.specs.Memories.{IsKilled, AreKilled}
use Rattle.ep_cells.specs.Laws.{KillLaws}
use Rattle.ep_core.specs.Program.{Block, Program}
use Rattle.ep_core.specs.Runs.{Side}
use Rattle.ep_core.specs.WellFormed.{block_fits, blocks_fit, is_number}
use Rattle.ep_equalities.specs.declared.pair.Mode.TheVariants.{Both, Left, Right}
use Rattle.ep_evaluation.specs.Laws.{IsState}
use Rattle.ep_transfers.specs.Transfers.{leaves_in, bytes_in, killed_block, killed_blocks, entered}
use Rattle.ep_transfers.specs.Laws.{memories, StandsFor}
use Rattle.ep_cell_ranges.proofs.Same.{in_same}

-- ---- memories

one_by : (d b : ℕ) (bs : List ℕ) (t : Bool) (x : Byte) → nat_eq d b ≡ t
    → cond (t || contains d bs) undefined x ≡ forgotten bs (cond (t || false) undefined x) → cond
    (nat_eq d b || contains d bs) undefined x ≡ forgotten bs (cond (nat_eq d b || false) undefined x)
one_by d b bs t x e h = subst (λ u. cond (u || contains d bs) undefined x ≡ forgotten bs
    (cond (u || false) undefined x)) (sym e) h

part_step : (d b : ℕ) (bs : List ℕ) (o k : ℕ) (t : Bool) → nat_eq d b ≡ t
    → cond (nat_eq d b || contains d bs) undefined (fragment d o k) ≡ forgotten bs
    (cond (nat_eq d b || false) undefined (fragment d o k))
part_step d b bs o k true e = one_by d b bs true (fragment d o k) e refl
part_step d b bs o k false e = one_by d b bs false (fragment d o k) e refl

byte_step : (b : ℕ) (bs : List ℕ) (x : Byte) → forgotten (b ∷ bs) x ≡ forgotten bs (forgotten (b ∷ []) x)
byte_step b bs undefined = refl
byte_step b bs (number v) = refl
byte_step b bs (fragment d o k) = part_step d b bs o k (nat_eq d b) refl

killed_by : (c b : ℕ) (bs : List ℕ) (x y : Byte) (t u : Bool) → forgotten bs x ≡ y
    → cond (t || u) undefined y ≡ cond u undefined (forgotten bs (cond (t || false) undefined x))
killed_by c b bs x y true true e = refl
killed_by c b bs x y true false e = refl
killed_by c b bs x y false true e = refl
killed_by c b bs x y false false e = sym e

killed_step : (b : ℕ) (bs : List ℕ) (m : Memory) (c q : ℕ) → killed (b ∷ bs) m c q ≡ killed bs (killed (b ∷ []) m) c q
killed_step b bs m c q =
    killed_by c b bs (forgotten (b ∷ []) (m c q)) (forgotten (b ∷ bs) (m c q)) (nat_eq c b) (contains c bs)
    (sym (byte_step b bs (m c q)))

-- where its side is killed
pub record AllKilled (bs : List ℕ) (dead : Bool) (m n : Memory) : Type 0 where
  pub gone : dead ≡ true → (b q : ℕ) → n b q ≡ killed bs m b q
  pub alive : dead ≡ false → (b q : ℕ) → n b q ≡ m b q

pub record AreAllKilled (s : CellSide) (bs : List ℕ) (m n : Memories) : Type 0 where
  pub left : AllKilled bs (on_left s) m.left n.left
  pub right : AllKilled bs (on_right s) m.right n.right

abbrev pub one_killed : Bool → ℕ → Memory → Memory
one_killed true b m = killed (b ∷ []) m
one_killed false b m = m

pub one_is : (t : Bool) (b : ℕ) (m : Memory) → IsKilled b t m (one_killed t b m)
one_is true b m = record { gone = λ e c q. refl; alive = λ e. absurd (cc) }
one_is false b m = record { gone = λ e. absurd (cc); alive = λ e c q. refl }

pub rest_killed : (t : Bool) (b : ℕ) (bs : List ℕ) (m n : Memory) → AllKilled (b ∷ bs) t m n → AllKilled bs t
    (one_killed t b m) n
rest_killed true b bs m n h = record { gone = λ e c q. h.gone e c q ∙ killed_step b bs m c q; alive = λ e. absurd (cc) }
rest_killed false b bs m n h = record { gone = λ e. absurd (cc); alive = h.alive }

none_killed : (t : Bool) (m n : Memory) → AllKilled [] t m n → (b q : ℕ) → n b q ≡ m b q
none_killed true m n h b q = h.gone refl b q ∙ forgotten-none (m b q)
none_killed false m n h b q = h.alive refl b q

-- ---- blocks of a program

pub leaves_rise : (d : Model) (e size : ℕ) (ls : List Leaf) → AreLeavesFrom d e size ls → AreLeavesIn d e size ls
leaves_rise d e size [] h = h
leaves_rise d e size (l ∷ ls) h = (h.0, leaves_rise d (l.offset + size_of d l.what) size ls h.2)

pub in_sum : (bs : List Block) (i : ℕ) (x : Block) → slice_get bs i ≡ Some x → x.size ≤ sum_by (λ (b : Block). b.size)
    bs
in_sum [] i x h = absurd (let q : None ≡ Some x = h in cc)
in_sum (b ∷ bs) zero x h = let q : b ≡ x = (let r : Some b ≡ Some x = h in cc) in subst
    (λ y. y.size ≤ sum_by (λ (b : Block). b.size) (b ∷ bs)) q
    (let e = sum_by-cons (λ (b : Block). b.size) b bs in omega (arith, e))
in_sum (b ∷ bs) (suc i) x h = let q = in_sum bs i x h in let e = sum_by-cons (λ (b : Block). b.size) b bs in omega
    (arith, q, e)

pub all_by : (test : Block → Bool) (bs : List Block) (i : ℕ) (x : Block) → list_all test bs ≡ true → slice_get bs i ≡
    Some x → test x ≡ true
all_by test [] i x h e = absurd (let q : None ≡ Some x = e in cc)
all_by test (b ∷ bs) zero x h e = let q : b ≡ x = (let r : Some b ≡ Some x = e in cc) in subst (λ y. test y ≡ true) q
    (and_parts (test b) (list_all test bs) h).0
all_by test (b ∷ bs) (suc i) x h e = all_by test bs i x (and_parts (test b) (list_all test bs) h).1 e

module _ {N : Type 0} (D : Ops N) (p : Program) (ord : Side → Order) (fit : blocks_fit p.types p.blocks ≡ true) where
  pub record IsRoom (x : Option Block) : Type 0 where
    pub leaves : AreLeavesIn p.types.model 0 (bytes_in D p x) (leaves_in D p x)
    pub small : bytes_in D p x ≤ 2 ^ 32

  pub room : (i : ℕ) (x : Option Block) → slice_get p.blocks i ≡ x → IsRoom x
  room i None e = record { leaves = omega arith; small = omega arith }
  room i (Some x) e =
      let q = and_parts (list_all (block_fits p.types) p.blocks)
      (nat_le (sum_by (λ (b : Block). b.size) p.blocks) 65536) fit in
      let r = and_parts (is_number (table.size p.types x.ty) x.size) (nat_le 1 x.size)
      (all_by (block_fits p.types) p.blocks i x q.0 e) in
      let small = leb-true (sum_by (λ (b : Block). b.size) p.blocks) 65536 q.1 in
      let below = in_sum p.blocks i x e in record {
        leaves = leaves_rise p.types.model 0 x.size (table.leaves p.types x.ty)
            (subst (λ n. AreLeavesFrom p.types.model 0 n (table.leaves p.types x.ty))
            (is_number-size (table.size p.types x.ty) x.size r.0) (leaves_ordered p.types x.ty));
        small = omega (arith, small, below);
      }

  module _ (kill : KillLaws D) where
    pub block_killed : (s : CellSide) (b : ℕ) (k : Known N) (m n : Memories) → IsState D p ord k → In D k m → AreKilled s
        b m n
        → IsState D p ord (killed_block D p s b (slice_get p.blocks b) k) × In D
        (killed_block D p s b (slice_get p.blocks b) k) n
    block_killed s b k m n i h a =
        let r = room b (slice_get p.blocks b) refl in
        let l = subst (λ d. AreLeavesIn d 0 (bytes_in D p (slice_get p.blocks b))
        (leaves_in D p (slice_get p.blocks b))) (sym i.model) r.leaves in (
          record {
            orders = i.orders;
            model = i.model;
            cells = kill.cells k.model s b (leaves_in D p (slice_get p.blocks b)) (bytes_in D p (slice_get p.blocks b))
                k.cells i.cells l r.small;
          },
          kill.holds k s b (leaves_in D p (slice_get p.blocks b)) (bytes_in D p (slice_get p.blocks b)) i.cells l
              r.small m n h a,
        )

    pub all_killed : (s : CellSide) (bs : List ℕ) (k : Known N) (m n : Memories) → IsState D p ord k → In D k m →
        AreAllKilled s bs m n
        → IsState D p ord (killed_blocks D p s bs k) × In D (killed_blocks D p s bs k) n
    all_killed s [] k m n i h a = (
      i,
      in_same D k m n (record {
        left = none_killed (on_left s) m.left n.left a.left;
        right = none_killed
            (on_right s) m.right n.right a.right;
      }) h,
    )
    all_killed s (b ∷ bs) k m n i h a =
        let j : Memories = record {
          left = one_killed (on_left s) b m.left;
          right = one_killed (on_right s) b m.right;
        } in
        let q = block_killed s b k m j i h (record {
          left = one_is (on_left s) b m.left;
          right = one_is (on_right s) b
              m.right;
        }) in
        all_killed s bs (killed_block D p s b (slice_get p.blocks b) k) j n q.0 q.1
        (record {
          left = rest_killed (on_left s) b bs m.left n.left a.left;
          right = rest_killed (on_right s) b bs
              m.right n.right a.right;
        })

    -- ---- blocks are entered, or left

    pub entered_both : (bs : List ℕ) (k : Known N) (m n : Memory) → StandsFor D p ord k m n
        → StandsFor D p ord (entered D p Both bs k) (killed bs m) (killed bs n)
    entered_both bs k m n h =
        let q = all_killed cell_side.Shared bs k (memories m n) (memories (killed bs m) (killed bs n)) h.state h.holds
        (record {
          left = record { gone = λ e b q. refl; alive = λ e. absurd (cc) };
          right = record { gone = λ e b q. refl; alive = λ e. absurd (cc) };
        }) in record { state = q.0; holds = q.1 }

    pub entered_left : (bs : List ℕ) (k : Known N) (m n : Memory) → StandsFor D p ord k m n
        → StandsFor D p ord (entered D p Left bs k) (killed bs m) n
    entered_left bs k m n h =
        let q = all_killed cell_side.Left bs k (memories m n) (memories (killed bs m) n) h.state h.holds (record {
          left = record { gone = λ e b q. refl; alive = λ e. absurd (cc) };
          right = record { gone = λ e. absurd (cc); alive = λ e b q. refl };
        }) in record { state = q.0; holds = q.1 }

    pub entered_right : (bs : List ℕ) (k : Known N) (m n : Memory) → StandsFor D p ord k m n
        → StandsFor D p ord (entered D p Right bs k) m (killed bs n)
    entered_right bs k m n h =
        let q = all_killed cell_side.Right bs k (memories m n) (memories m (killed bs n)) h.state h.holds (record {
          left = record { gone = λ e. absurd (cc); alive = λ e b q. refl };
          right = record { gone = λ e b q. refl; alive = λ e. absurd (cc) };
        }) in record { state = q.0; holds = q.1 }
