-- Main begins: globals and main's result have their first values, main's locals are undefined, and nothing else is told.
use Rattle.std.proofs.Common.{◌≡◌, ℕ, ◌<◌, Bool, true, false, ◌||◌, nat_eq, nat_lt, if◌then◌else◌, slice_get}
use Rattle.std.proofs.Common.{List, Option, Some, None, refl, sym, ap, ◌∙◌, subst, arith}
use Rattle.std.proofs.lemmas.Bool.{and_left, both_ways, eqb-true, or_parts, ltb-true}
use Rattle.ep_int.specs.declared.types.Model.{Model}
use Rattle.ep_int.specs.declared.types.Model.TheVariants.{Ilp32, Lp64}
use Rattle.ep_int.specs.declared.types.Order.{Order}
use Rattle.ep_int.specs.Memory.{Byte, undefined, contains, forgotten, killed}
use Rattle.ep_bitslice.specs.declared.cell.Side.{Side as CellSide}
use Rattle.ep_bitslice.specs.declared.cell.Side.TheVariants as cell_side
use Rattle.ep_domain.specs.Domain.{Ops, Lawful}
use Rattle.ep_cells.specs.Look.{cell_at}
use Rattle.ep_cells.specs.States.{Known}
use Rattle.ep_cell_ranges.specs.Tests.{is_model}
use Rattle.ep_core.specs.Program.{Block, Init, Function, Program}
use Rattle.ep_core.specs.Exec.{result_in}
use Rattle.ep_core.specs.Runs.{Side, left, right, is_global, is_result, blank, main_function, initial}
use Rattle.ep_core.specs.WellFormed.{is_well_formed}
use Rattle.ep_core.proofs.Operands.{sizes, first_values_fit}
use Rattle.ep_equalities.specs.declared.pair.Mode.TheVariants.{Both as PairBoth}
use Rattle.ep_transfers.specs.Cells.{known_or_empty}
use Rattle.ep_transfers.specs.Transfers.{entered}
use Rattle.ep_transfers.specs.Ends.{main_result, first_of_blocks, locals_in, entry_known}
use Rattle.ep_transfers.proofs.Kills.{room}
use Rattle.ep_transfers.proofs.Locals.{not_global, not_result}
use Rattle.ep_transfers.proofs.FirstBytes.{ArePlain, plain_if, forgotten_plain, begun_plain, begun_off, covers}
use Rattle.ep_transfers.proofs.FirstCells.{InitAt, all_off, blank_plain}
use Rattle.ep_singles.proofs.Covers.{not_covering}
use Rattle.ep_single_states.specs.Laws.{ConcretisesOne}
use Rattle.ep_single_states.proofs.Blocks.{blocks_keep_one}
use Rattle.ep_single_restricted.specs.Restricted.{is_inside, restricted}
use Rattle.ep_single_entry.proofs.Covered.{first_covered}
use Rattle.ep_single_entry.proofs.Firsts.{first_cells}

none_if : (t : Bool) (x : Byte) → (t ≡ true → x ≡ undefined) → (if t then x else undefined) ≡ undefined
none_if true x h = h refl
none_if false x h = refl

module _ {N : Type 0} (D : Ops N) (law : Lawful D) (p : Program) (ord : Side → Order)
    (formed : is_well_formed p ≡ true) where
  -- ---- all other blocks are undefined

  none_at : (o : Order) (b q : ℕ) → is_global (slice_get p.blocks b) ≡ false
      → is_result (result_in (main_function o p)) b ≡ false → initial o p b q ≡ undefined
  none_at o b q g r =
      begun_off D p o p.init (blank p.blocks (result_in (main_function o p))) (blank_plain p D o) b q
      (all_off p D o b q off p.init (first_values_fit p formed))
      ∙ rw (g, r) refl
    where
      off : (i : Init) → InitAt p i → covers D p o i b q ≡ false
      off i a = by_test (nat_eq i.block b) refl
        where
          by_test : (t : Bool) → nat_eq i.block b ≡ t → covers D p o i b q ≡ false
          by_test false e = and_left (nat_eq i.block b) _ e
          by_test true e =
              absurd (both_ways (is_global (slice_get p.blocks b)) g
              (ap is_global (ap (slice_get p.blocks) (sym (eqb-true i.block b e)) ∙ a.is) ∙ a.global))

  none_outside : (o : Order) (s : CellSide) (b q : ℕ)
      → cell_at p.types.model s b q (first_of_blocks D p 0 p.blocks) ≡ None
      → restricted p (initial o p) b q ≡ undefined
  none_outside o s b q e = by_block (slice_get p.blocks b) refl
    where
      shown_or_none : (x : Block) → slice_get p.blocks b ≡ Some x → q < x.size → (t : Bool)
          → (x.global || is_result (main_result D p) b) ≡ t → initial o p b q ≡ undefined
      shown_or_none x at l true f =
          let r = room D p ord (sizes p formed) b (Some x) at in
          let c = first_covered D p s b q x at f r.leaves l in
          absurd (let g : true ≡ false =
          sym c.has ∙ not_covering p.types.model s b q (first_of_blocks D p 0 p.blocks) c.cell e c.is_in in cc)
      shown_or_none x at l false f =
          let r = or_parts x.global (is_result (main_result D p) b) f in
          none_at o b q (ap is_global at ∙ r.0) r.1

      by_block : (x : Option Block) → slice_get p.blocks b ≡ x
          → (if is_inside x q then initial o p b q else undefined) ≡ undefined
      by_block None at = refl
      by_block (Some x) at =
          none_if (nat_lt q x.size) (initial o p b q)
          (λ l. shown_or_none x at (ltb-true q x.size l) (x.global || is_result (main_result D p) b) refl)

  -- ---- globals and main's result

  begun : Known N
  begun = record {
    orders = (ord left, ord right);
    model = p.types.model;
    cells = first_of_blocks D p 0 p.blocks;
  }

  begun_one : ConcretisesOne D p ord begun (restricted p (initial (ord left) p)) (restricted p (initial (ord right) p))
  unfolding begun
  begun_one =
      let a = first_cells D law p ord formed 0 p.blocks
      (λ i x e. subst (λ n. slice_get p.blocks n ≡ Some x) (omega arith) e) in
      record {
        state = record { orders = refl; model = refl; cells = a.cells };
        one = record {
          cells = a.cells;
          each = λ c i. (a.each c i).one;
          left_outside = λ b q e. none_outside (ord left) cell_side.Left b q e;
          right_outside = λ b q e. none_outside (ord right) cell_side.Right b q e;
          holds = record { cells = λ c i. (a.each c i).says; forms = λ c i. (a.each c i).form };
        };
      }

  -- ---- main's locals are undefined from the start

  plain_first : (o : Order) → ArePlain (initial o p)
  plain_first o = begun_plain D p o p.init (blank p.blocks (result_in (main_function o p))) (blank_plain p D o)

  local_none : (o : Order) (f : Option Function) → slice_get p.functions p.main ≡ f → (b q : ℕ)
      → contains b (locals_in D p f) ≡ true → initial o p b q ≡ undefined
  local_none o None e b q h = absurd (cc)
  local_none o (Some f) e b q h =
      none_at o b q (not_global p formed p.main f e b h)
      (ap (λ g. is_result (result_in g) b) e ∙ not_result p formed p.main f e b h)

  abbrev locals : List ℕ
  locals = locals_in D p (slice_get p.functions p.main)

  local_byte : (o : Order) (b q : ℕ) (t : Bool) → contains b locals ≡ t
      → (if t then undefined else forgotten locals (restricted p (initial o p) b q)) ≡ restricted p (initial o p) b q
  local_byte o b q true e =
      sym (none_if (is_inside (slice_get p.blocks b) q) (initial o p b q)
      (λ i. local_none o (slice_get p.functions p.main) refl b q e))
  local_byte o b q false e =
      forgotten_plain locals (restricted p (initial o p) b q)
      (plain_if (is_inside (slice_get p.blocks b) q) (initial o p b q) undefined (plain_first o b q) tt)

  locals_gone : (o : Order) → killed locals (restricted p (initial o p)) ≡ restricted p (initial o p)
  locals_gone o = λ i b q. local_byte o b q (contains b locals) refl i

  itself : (d : Model) → is_model d d ≡ true
  itself Ilp32 = refl
  itself Lp64 = refl

  pub entry_is_exact : ConcretisesOne D p ord (entry_known D p ord) (restricted p (initial (ord left) p))
      (restricted p (initial (ord right) p))
  unfolding begun
  entry_is_exact =
      let m = restricted p (initial (ord left) p) in
      let n = restricted p (initial (ord right) p) in
      let h = (blocks_keep_one D law p ord formed).enter_both locals begun m n begun_one in
      let k = entered D p PairBoth locals begun in
      subst (λ z. ConcretisesOne D p ord k m z) (locals_gone (ord right))
      (subst (λ z. ConcretisesOne D p ord k z (killed locals n)) (locals_gone (ord left))
      (subst (λ t. ConcretisesOne D p ord (known_or_empty D p ord t k) (killed locals m) (killed locals n))
      (itself p.types.model) h))
