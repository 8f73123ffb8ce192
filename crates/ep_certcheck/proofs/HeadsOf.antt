-- A head outside of which a state lies has a cell that the state fails.
use Rattle.std.proofs.Common.{◌≡◌, ℕ, ◌<◌, ◌^◌, Bool, true, false, ◌&&◌, List, [], ◌∷◌, zero, suc, length, map, Some}
use Rattle.std.proofs.Common.{slice_get, unwrap_or, refl, sym, ap, ◌∙◌, subst, arith}
use Rattle.std.proofs.lemmas.Bool.{and_parts, and_from}
use Rattle.std.proofs.lemmas.Option.{slice_get-map, slice_get_within}
use Rattle.std.proofs.lemmas.List.{length-map}
use Rattle.std.specs.Option.{option_map}
use Rattle.ep_int.specs.declared.types.Model.{Model}
use Rattle.ep_int.specs.declared.types.Model.TheVariants.{Ilp32, Lp64}
use Rattle.ep_int.specs.declared.types.Order.{Order}
use Rattle.ep_int.specs.declared.types.Order.TheVariants.{Little, Big, SwappedWords}
use Rattle.ep_bitslice.specs.declared.cell.CellName.{CellName}
use Rattle.ep_domain.specs.Domain.{Ops}
use Rattle.ep_cells.specs.declared.cell.Cell.{Cell}
use Rattle.ep_cells.specs.Both.{are_within}
use Rattle.ep_cells.specs.States.{Known, AreCells}
use Rattle.ep_reads.specs.Unify.{unified}
use Rattle.ep_reads.specs.SplitLaws.{UnifyLaws}
use Rattle.ep_cell_ranges.specs.Tests.{are_cells, is_model}
use Rattle.ep_cell_ranges.proofs.Tests.{cells_pass}
use Rattle.ep_core.specs.Exec.{is_order}
use Rattle.ep_core.specs.Program.{Program}
use Rattle.ep_core.specs.Runs.{Side, left, right}
use Rattle.ep_evaluation.specs.Laws.{IsState}
use Rattle.ep_flows.specs.View.{orders}
use Rattle.ep_transfers.specs.Cells.{are_states, cell_ops, is_within, unified_pair, unified_known}
use Rattle.ep_transfers.specs.Guards.{is_state}
use Rattle.ep_transfers.proofs.Tests.{state_by}
use Rattle.ep_certcheck_walk.specs.Found.{IsOutsideOf}
use Rattle.ep_certcheck.specs.Verdict.{IsHeadOf, AreHeadsOf, IsCellOf, first_failed, name_of}
use Rattle.ep_certcheck.proofs.Failing.{failed_below}

-- ---- states of the program

same_order : (a : Order) → is_order a a ≡ true
same_order Little = refl
same_order Big = refl
same_order SwappedWords = refl

same_model : (d : Model) → is_model d d ≡ true
same_model Ilp32 = refl
same_model Lp64 = refl

module _ {N : Type 0} (p : Program) (ord : Side → Order) where
  state_from : (k : Known N) → k.orders ≡ (ord left, ord right) → k.model ≡ p.types.model
      → AreCells k.model k.cells → is_state p ord k ≡ true
  state_from k o m c =
      and_from (is_order k.orders.0 (ord left) && is_order k.orders.1 (ord right))
      (is_model k.model p.types.model && are_cells k.model k.cells)
      (and_from (is_order k.orders.0 (ord left)) (is_order k.orders.1 (ord right))
      (ap (λ (os : Order × Order). is_order os.0 (ord left)) o ∙ same_order (ord left))
      (ap (λ (os : Order × Order). is_order os.1 (ord right)) o ∙ same_order (ord right)))
      (and_from (is_model k.model p.types.model) (are_cells k.model k.cells)
      (ap (λ d. is_model d p.types.model) m ∙ same_model p.types.model) (cells_pass k.model k.cells c))

-- ---- what is left of a state that was brought to one shape with a head

last_false : (a b c : Bool) → ((a && b) && c) ≡ false → a ≡ true → b ≡ true → c ≡ false
last_false true true c h e f = h
last_false true false c h e f = absurd cc
last_false false b c h e f = absurd cc

module _ {N : Type 0} (D : Ops N) (law : UnifyLaws D) (p : Program) (ord : Side → Order) where
  cells_left : (h s : Known N) → IsState D p ord h → IsState D p ord s → AreCells s.model (unified D h s).1
  cells_left h s a b =
      let os : h.orders ≡ s.orders = a.orders ∙ sym b.orders in
      let d : h.model ≡ s.model = a.model ∙ sym b.model in
      let e : ◌≡◌ {A = Known N} (record h { cells = s.cells }) s =
      ap (λ o. record { orders = o; model = h.model; cells = s.cells }) os
      ∙ ap (λ m. record { orders = s.orders; model = m; cells = s.cells }) d in
      subst (λ m. AreCells m (unified D h s).1) d
      (subst (λ k. AreCells h.model (unified D h k).1) e
      (law.right_cells h s.cells a.cells (subst (λ m. AreCells m s.cells) (sym d) b.cells)))

  pair_by : (h s : Known N) (t : Bool) → are_states D p ord h s ≡ t
      → is_state p ord (unified_pair D p ord t h s).1 ≡ true
  pair_by h s true e =
      let q = and_parts (is_state p ord h) (is_state p ord s) e in
      let b = state_by D p ord s q.1 in
      state_from p ord (record s { cells = (unified D h s).1 }) b.orders b.model
      (cells_left h s (state_by D p ord h q.0) b)
  pair_by h s false e =
      and_from (is_order (ord left) (ord left) && is_order (ord right) (ord right))
      (is_model p.types.model p.types.model && true)
      (and_from (is_order (ord left) (ord left)) (is_order (ord right) (ord right)) (same_order (ord left))
      (same_order (ord right))) (and_from (is_model p.types.model p.types.model) true (same_model p.types.model) refl)

  failed_of : (h s : Known N) → is_state p ord h ≡ true
      → is_within D p ord (unified_known D p ord h s).1 h ≡ false
      → first_failed D (unified_known D p ord h s).1 h < length h.cells
  failed_of h s i e =
      let k = (unified_known D p ord h s).1 in
      failed_below D k.cells h.cells
      (last_false (is_state p ord k) (is_state p ord h) (are_within D k.cells h.cells) e
      (pair_by h s (are_states D p ord h s) refl) i)

-- ---- a head that is given

head_at : {N : Type 0} (os : Order × Order) (d : Model) (hs : List (Known N)) (n : ℕ) (h : Known N)
    → AreHeadsOf os d hs → slice_get hs n ≡ Some h → IsHeadOf os d h
head_at os d [] n h a e = absurd cc
head_at os d (x ∷ hs) zero h a e = subst (λ k. IsHeadOf os d k) (ap (λ o. unwrap_or o x) e) a.0
head_at os d (x ∷ hs) (suc n) h a e = head_at os d hs n h a.1 e

module _ {N : Type 0} (D : Ops N) (p : Program) (a b : Order) (hs : List (Known N)) (h n : ℕ)
    (out : IsOutsideOf (cell_ops D p (orders a b)) (first_failed D) hs h n) where
  pub is_there : h < length hs
  is_there = slice_get_within hs h out.head out.is_there

  pub is_small : length hs < 2 ^ 32 → h < 2 ^ 32
  is_small few = let i : h < length hs = is_there in omega (arith, i, few)

  pub has_cell : UnifyLaws D → AreHeadsOf (a, b) p.types.model hs → (head : Known N) → slice_get hs h ≡ Some head
      → AreCells head.model head.cells → n < length head.cells
  has_cell law heads head e cells =
      let is : out.head ≡ head = ap (λ o. unwrap_or o head) (sym out.is_there ∙ e) in
      let one = head_at (a, b) p.types.model hs h head heads e in
      let ord = orders a b in
      let outside : is_within D p ord (unified_known D p ord head out.state).1 head ≡ false =
      subst (λ k. is_within D p ord (unified_known D p ord k out.state).1 k ≡ false) is out.fails in
      let cell : n ≡ first_failed D (unified_known D p ord head out.state).1 head =
      subst (λ k. n ≡ first_failed D (unified_known D p ord k out.state).1 k) is out.cell in
      subst (λ m. m < length head.cells) (sym cell)
      (failed_of D law p ord head out.state (state_from p ord head one.orders one.model cells) outside)

pub cell_of : {N : Type 0} (hs : List (Known N)) (h n : ℕ) (head : Known N) (cells : List (Cell N)) (cell : Cell N)
    (name : CellName) → slice_get hs h ≡ Some head → cells ≡ head.cells → slice_get cells n ≡ Some cell
    → name ≡ name_of cell → IsCellOf hs h n name
cell_of hs h n head cells cell name e f g i = record {
  head = head;
  is_there = e;
  cell = cell;
  stands = sym (ap (λ cs. slice_get cs n) f) ∙ g;
  named = i;
}

pub cell_there : {A B : Type 0} (f : A → B) (xs : List A) (ys : List B) (n : ℕ) → map f xs ≡ ys → n < length ys
    → n < length xs
cell_there f xs ys n e h = subst (λ m. n < m) (sym (ap length e) ∙ length-map xs f) h

pub cell_read : {A B : Type 0} (f : A → B) (xs : List A) (ys : List B) (n : ℕ) (x : A) → map f xs ≡ ys
    → slice_get xs n ≡ Some x → slice_get ys n ≡ Some (f x)
cell_read f xs ys n x e h =
    sym (ap (λ zs. slice_get zs n) e) ∙ slice_get-map f xs n ∙ ap (λ o. option_map f o) h
