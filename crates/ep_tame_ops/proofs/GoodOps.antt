-- The operations on cells keep good states.
use Rattle.std.proofs.Common.{◌≡◌, ℕ, ◌-◌, ◌<◌, ◌≤◌, Bool, true, false, ◌&&◌, ◌||◌, not, List, [], ◌∷◌, ◌++◌, map, length}
use Rattle.std.proofs.Common.{sum_by, slice_get, Option, Some, None, option_map, refl, sym, ap, ◌∙◌, subst, arith}
use Rattle.std.specs.Prelude.{option_and_then, option_to_list}
use Rattle.std.specs.List.{list_all}
use Rattle.std.proofs.lemmas.Bool.{and_parts, or_left}
use Rattle.std.proofs.lemmas.List.{append-nil}
use Rattle.ep_int.specs.declared.types.IntType.{IntType}
use Rattle.ep_int.specs.declared.types.IntType.TheVariants.{I32}
use Rattle.ep_int.specs.declared.types.Order.{Order}
use Rattle.ep_int.specs.declared.types.Scalar.{Scalar}
use Rattle.ep_layout.specs.Table.{IsBuilt}
use Rattle.ep_domain.specs.Domain.{Ops, Lawful}
use Rattle.ep_cells.specs.States.{Known}
use Rattle.ep_cells.specs.Reshare.{reshared}
use Rattle.ep_core.specs.Program.{Expr, const, null_value, load, addr_of, binary, convert, compare, ptr_compare}
use Rattle.ep_core.specs.Program.{logical_and, logical_or, logical_not, conditional, ptr_add, cast}
use Rattle.ep_core.specs.Program.{Simple, nothing, eval, assign, clear, copy_aggregate, copy_bytes, fill, input}
use Rattle.ep_core.specs.Program.{output, read_bytes, write_bytes, returns, Block, Function, Program}
use Rattle.ep_core.specs.Runs.{Side}
use Rattle.ep_core.specs.WellFormed.{integer, result_type, is_tested, is_test, is_int, is_pointer, has_sort}
use Rattle.ep_core.specs.WellFormed.{int_type_of, simple_fits, blocks_fit, is_well_formed, block_type}
use Rattle.ep_core.specs.WellFormed.{is_int_result, is_main, has_scalar, is_same_type, place_has, is_sort, sort_of}
use Rattle.ep_core.specs.WellFormed.{is_length}
use Rattle.ep_core.proofs.Operands.{fits_at}
use Rattle.ep_core.proofs.Sorts.{never, three, same_type, loaded_scalar, type_where, tested_where}
use Rattle.ep_equalities.specs.declared.pair.Mode.TheVariants as pair_mode
use Rattle.ep_equalities.specs.Same.{is_same}
use Rattle.ep_evaluation.specs.Given.{Given, is_both}
use Rattle.ep_evaluation.specs.Evaluation.{expression, told, tested, same, is_stuck, verdict_by}
use Rattle.ep_evaluation.specs.Laws.{sizes_of, IsState}
use Rattle.ep_pass.specs.Honest.{AreOf, Honest}
use Rattle.ep_pass.specs.Places.{expr_may}
use Rattle.ep_pass.specs.States.{Both, Fault as Told, Transfer}
use Rattle.ep_pass.specs.Turns.{last_head}
use Rattle.ep_transfers.specs.Places.{has_values}
use Rattle.ep_transfers.specs.Transfers.{stepped, if_goes_on, simple_step, put_out, differ_faults, differs_if, entered}
use Rattle.ep_transfers.specs.Cells.{cell_ops, is_told_so, told_of, when_known, test_when_known, known_or_empty}
use Rattle.ep_transfers.specs.Cells.{reshared_known}
use Rattle.ep_alarm_laws.specs.Laws.{ProductsKeepStrides}
use Rattle.ep_alarm_laws.proofs.Places.{among}
use Rattle.ep_alarm_laws.proofs.Safe.{plain_honest}
use Rattle.ep_kinds.specs.Tame.{are_tame_types, is_tame_expr, is_tame_simple}
use Rattle.ep_tame_laws.specs.Tamely.{is_undefined, IfReached, AreAmong, HaveNoResult, IsAlike, TransferIsGood}
use Rattle.ep_tame_numbers.specs.Offsets.{KeepsOffsets}
use Rattle.ep_tame_places.specs.Laws.{PlaceLaws}
use Rattle.ep_tame_places.proofs.Blocks.{block_at}
use Rattle.ep_tame_places.proofs.Steps.{place_laws_of}
use Rattle.ep_tame_accesses.proofs.Accesses.{accesses_of}
use Rattle.ep_tame_cells.proofs.Shapes.{shape_laws_of}
use Rattle.ep_tame_cells.proofs.Unparted.{reshared_shared}
use Rattle.ep_tame_states.specs.States.{IsGood}
use Rattle.ep_tame_states.specs.Laws.{StateLaws, widening_of}
use Rattle.ep_tame_states.proofs.Gathered.{state_laws_of}
use Rattle.ep_tame_twins.specs.Twins.{IsTwin, ExprTwin}
use Rattle.ep_tame_twins.specs.Laws.{TwinLaws}
use Rattle.ep_tame_twins.proofs.Alike.{same_of}
use Rattle.ep_tame_twins.proofs.Expressions.{twin_laws_of}
use Rattle.ep_tame_changes.specs.Laws.{BlocksKeepGood}
use Rattle.ep_tame_changes.proofs.Killed.{blocks_keep_good}
use Rattle.ep_tame_ops.specs.Laws.{is_still, rank_of, OpsKeepGood}
use Rattle.ep_tame_ops.proofs.UndefinedKinds.{faults_undefined}
use Rattle.ep_tame_ops.proofs.GuardsPass.{told_pass, joined_is, widened_is, within_is}

-- ---- a program with a main has bytes

module _ (p : Program) (fit : blocks_fit p.types p.blocks ≡ true) where
  bytes_of_block : (b : ℕ) (x : Block) → slice_get p.blocks b ≡ Some x → 0 < sum_by (λ (y : Block). y.size) p.blocks
  bytes_of_block b x e =
      let some = (block_at p fit b x e).some in
      let whole = among p.blocks b (sum_by (λ (y : Block). y.size) p.blocks) x (omega arith) e in
      omega (arith, some, whole)

  bytes_of_result : (b : ℕ) (w : Scalar) → has_scalar (option_and_then (slice_get p.types.types)
      (block_type (slice_get p.blocks b))) w ≡ true → 0 < sum_by (λ (y : Block). y.size) p.blocks
  bytes_of_result b w h = at (slice_get p.blocks b) refl h
    where
      at : (o : Option Block) → slice_get p.blocks b ≡ o
          → has_scalar (option_and_then (slice_get p.types.types) (block_type o)) w ≡ true
          → 0 < sum_by (λ (y : Block). y.size) p.blocks
      at None e h = never h
      at (Some x) e h = bytes_of_block b x e

  bytes_of_main : is_well_formed p ≡ true → (o : Option Function) → slice_get p.functions p.main ≡ o
      → is_main o ≡ true → 0 < sum_by (λ (y : Block). y.size) p.blocks
  bytes_of_main formed None e h = never h
  bytes_of_main formed (Some f) e h =
      at f.result (and_parts _ (is_int_result f.result) h).1 (fits_at p formed p.main f e).1
    where
      at : (r : Option (ℕ × Scalar)) → is_int_result r ≡ true
          → list_all (λ (b : ℕ × Scalar). has_scalar (option_and_then (slice_get p.types.types)
          (block_type (slice_get p.blocks b.0))) b.1) (option_to_list r) ≡ true
          → 0 < sum_by (λ (y : Block). y.size) p.blocks
      at None i s = never i
      at (Some r) i s =
          bytes_of_result r.0 r.1 (and_parts (has_scalar (option_and_then (slice_get p.types.types)
          (block_type (slice_get p.blocks r.0))) r.1) true s).0

-- ---- the type of a number

int_type_is : (p : Program) (seen : List ℕ) (e : Expr) (t : IntType) → has_sort p.types p.blocks seen e (integer t) ≡ true
    → int_type_of e ≡ Some t
int_type_is p seen (const u v) t h = number u t (and_parts (is_same_type t u) _ h).0
  where
    number : (u t : IntType) → is_same_type t u ≡ true → Some u ≡ Some t
    number u t e = ap Some (sym (same_type t u e))
int_type_is p seen null_value t h = never h
int_type_is p seen (load w a) t h =
    let u = type_where p.types p.blocks seen (λ o. has_scalar o w && is_sort (sort_of o) (integer t))
    (place_has p.types p.blocks seen a) h in
    subst (λ w. int_type_of (load w a) ≡ Some t) (sym (loaded_scalar (slice_get p.types.types u.0) w (integer t) u.1)) refl
int_type_is p seen (addr_of a) t h = never h
int_type_is p seen (binary op u a b) t h =
    ap Some (sym (same_type t u (three (is_same_type t u) _ _ h).0))
int_type_is p seen (convert u e) t h = ap Some (sym (same_type t u (and_parts (is_same_type t u) _ h).0))
int_type_is p seen (compare c u a b) t h = ap Some (sym (same_type t I32 (three (is_same_type t I32) _ _ h).0))
int_type_is p seen (ptr_compare c a b) t h = ap Some (sym (same_type t I32 (three (is_same_type t I32) _ _ h).0))
int_type_is p seen (logical_and a b) t h = ap Some (sym (same_type t I32 (three (is_same_type t I32) _ _ h).0))
int_type_is p seen (logical_or a b) t h = ap Some (sym (same_type t I32 (three (is_same_type t I32) _ _ h).0))
int_type_is p seen (logical_not e) t h = ap Some (sym (same_type t I32 (and_parts (is_same_type t I32) _ h).0))
int_type_is p seen (conditional e a b) t h =
    int_type_is p seen a t (three _ (has_sort p.types p.blocks seen a (integer t)) _ h).1
int_type_is p seen (ptr_add e unit n back) t h =
    never (three (is_length unit) false (has_sort p.types p.blocks seen e (integer t)) (and_parts _ _ h).0).1
int_type_is p seen (cast e) t h = never h

module _ {N : Type 0} (D : Ops N) (law : Lawful D) (keeps : KeepsOffsets D) (products : ProductsKeepStrides D)
    (small : D.height < 4294967295) (p : Program) (formed : is_well_formed p ≡ true) (built : IsBuilt p.types)
    (tame : are_tame_types p.types ≡ true) (ord : Side → Order) where
  fit : blocks_fit p.types p.blocks ≡ true
  fit =
      let four = and_parts _ (is_main (slice_get p.functions p.main)) formed in
      let three = and_parts _ _ four.0 in
      let two = and_parts _ _ three.0 in
      (and_parts (blocks_fit p.types p.blocks) _ two.0).0

  places : PlaceLaws D p
  places = place_laws_of D law keeps products p built tame fit

  states : StateLaws D p ord
  states = state_laws_of D law p places ord fit

  twins : TwinLaws D p ord
  twins = twin_laws_of D p ord built tame fit keeps places (accesses_of D p places) states

  changes : BlocksKeepGood D p ord
  changes = blocks_keep_good D law p fit ord

  abbrev Good : Known N → (live res : List ℕ) → Known N → Type 0
  Good h live res k = IsGood D p ord h live res k

  abbrev gives : Expr → Known N → Given N
  gives e k = (expression D (sizes_of p.blocks) e).gives pair_mode.Both k

  -- ---- tests

  tested_twin : (e : Expr) (seen : List ℕ) → is_tested p.types p.blocks seen e ≡ true → is_tame_expr p.types e ≡ true
      → (h s : Known N) (live res : List ℕ) → AreAmong seen live → Good h live res s → IsTwin (gives e s)
  tested_twin e seen typed own h s live res among g =
      let x = tested_where p.types p.blocks seen (int_type_of e) (has_sort p.types p.blocks seen e) typed in
      (twins.expressions seen live res among e x.0 x.1 own h s g).twin

  -- of what is evaluated
  given_undefined : (e : Expr) (seen : List ℕ) → is_tested p.types p.blocks seen e ≡ true → (s : Known N)
      → IsState D p ord s → AreOf is_undefined (map (told D) (gives e s).faults)
  given_undefined e seen typed s state =
      faults_undefined false e (map (told D) (gives e s).faults)
      (subst (λ t. AreOf (λ k. expr_may false k e) (test_when_known t (tested D pair_mode.Both (gives e s))).faults)
      (told_pass D law p ord s state)
      ((plain_honest D law p ord formed built).test Both e seen typed s))

  alike_verdict : (stuck : Bool) (g : Given N) → IsTwin g
      → IsAlike (verdict_by D stuck (same D g || not (is_both pair_mode.Both)))
  alike_verdict true g t = tt
  alike_verdict false g t =
      subst (λ b. IsAlike (verdict_by D false b)) (sym (or_left (same D g) (not (is_both pair_mode.Both)) (same_of D g t)))
      tt

  test_good : (e : Expr) (seen : List ℕ) → is_tested p.types p.blocks seen e ≡ true → is_tame_expr p.types e ≡ true
      → (h s : Known N) (live res : List ℕ) → AreAmong seen live → Good h live res s
      → AreOf is_undefined ((cell_ops D p ord).test Both e s).faults × IsAlike ((cell_ops D p ord).test Both e s).verdict
  test_good e seen typed own h s live res among g =
      subst (λ t. AreOf is_undefined (test_when_known t (tested D pair_mode.Both (gives e s))).faults
      × IsAlike (test_when_known t (tested D pair_mode.Both (gives e s))).verdict) (sym (told_pass D law p ord s g.state)) (
        given_undefined e seen typed s g.state,
        alike_verdict (is_stuck D pair_mode.Both (gives e s).pair) (gives e s)
            (tested_twin e seen typed own h s live res among g),
      )

  -- ---- statements that change no memory

  -- a transfer that has the faults of an expression alone, and goes on in the state itself
  goes_on : (h s : Known N) (live res : List ℕ) (b : Bool) → Good h live res s
      → IfReached (Good h live res) (if_goes_on b s)
  goes_on h s live res true g = g
  goes_on h s live res false g = tt

  int_tested : (e : Expr) (t : IntType) (seen : List ℕ) → has_sort p.types p.blocks seen e (integer t) ≡ true
      → is_tested p.types p.blocks seen e ≡ true
  int_tested e t seen h =
      or_left (is_int (int_type_of e) (has_sort p.types p.blocks seen e))
      (is_pointer p.types p.blocks seen (has_sort p.types p.blocks seen e))
      (ap (λ o. is_int o (has_sort p.types p.blocks seen e)) (int_type_is p seen e t h) ∙ h)

  -- what is put out is the same on both sides
  none_differs : (b : Bool) (g : Given N) → IsTwin g → differs_if D b pair_mode.Both g.pair ≡ []
  none_differs true g t = ap (λ b. differ_faults D b g.pair) (same_of D g t)
  none_differs false g t = refl

  still_good : (here : ℕ) (f : Function) → slice_get p.functions here ≡ Some f → (w : Simple) → is_still w ≡ true
      → (seen : List ℕ) → simple_fits p here (result_type p.blocks f.result) w seen ≡ true
      → is_tame_simple p.types w ≡ true → (h s : Known N) (live res : List ℕ) → AreAmong seen live
      → Good h live res s
      → TransferIsGood (Good h live res) (told_of D (simple_step D p pair_mode.Both f.result w s))
  still_good here f at nothing still seen typed own h s live res among g = record { faults = tt; next = g }
  still_good here f at (eval e) still seen typed own h s live res among g = record {
    faults =
        subst (λ fs. AreOf is_undefined (map (told D) fs)) (sym (append-nil (gives e s).faults))
        (given_undefined e seen typed s g.state);
    next = goes_on h s live res (has_values pair_mode.Both (gives e s).pair) g;
  }
  still_good here f at (output t e) still seen typed own h s live res among g =
      let tested = int_tested e t seen typed in
      let twin = tested_twin e seen tested own h s live res among g in
      record {
        faults =
            subst (λ fs. AreOf is_undefined (map (told D) ((gives e s).faults ++ ([] ++ fs))))
            (sym (none_differs (has_values pair_mode.Both (gives e s).pair) (gives e s) twin))
            (subst (λ fs. AreOf is_undefined (map (told D) fs)) (sym (append-nil (gives e s).faults))
            (given_undefined e seen tested s g.state));
        next = goes_on h s live res (has_values pair_mode.Both (gives e s).pair) g;
      }
  still_good here f at (assign what a e) still seen typed own h s live res among g = never still
  still_good here f at (clear a ty) still seen typed own h s live res among g = never still
  still_good here f at (copy_aggregate a b ty) still seen typed own h s live res among g = never still
  still_good here f at (copy_bytes a b n) still seen typed own h s live res among g = never still
  still_good here f at (fill a e n) still seen typed own h s live res among g = never still
  still_good here f at (input t d) still seen typed own h s live res among g = never still
  still_good here f at (read_bytes e n) still seen typed own h s live res among g = never still
  still_good here f at (write_bytes e n) still seen typed own h s live res among g = never still
  still_good here f at (returns e) still seen typed own h s live res among g = never still

  simple_good : (here : ℕ) (f : Function) → slice_get p.functions here ≡ Some f → (w : Simple) → is_still w ≡ true
      → (seen : List ℕ) → simple_fits p here (result_type p.blocks f.result) w seen ≡ true
      → is_tame_simple p.types w ≡ true → (h s : Known N) (live res : List ℕ) → AreAmong seen live
      → Good h live res s
      → TransferIsGood (Good h live res) ((cell_ops D p ord).simple Both f.result w s)
  simple_good here f at w still seen typed own h s live res among g =
      subst (λ t. TransferIsGood (Good h live res)
      (told_of D (when_known t (simple_step D p pair_mode.Both f.result w s)))) (sym (told_pass D law p ord s g.state))
      (still_good here f at w still seen typed own h s live res among g)

  -- ---- blocks, joins, heads

  enter_good : (bs : List ℕ) → HaveNoResult p bs → (h s : Known N) (live res : List ℕ) → Good h live res s
      → Good h (bs ++ live) res ((cell_ops D p ord).enter Both bs s)
  enter_good bs free h s live res g =
      subst (λ t. Good h (bs ++ live) res (known_or_empty D p ord t (entered D p pair_mode.Both bs s)))
      (sym (told_pass D law p ord s g.state)) (changes.enter bs free h s live res g)

  leave_good : (bs : List ℕ) (h s : Known N) (live res : List ℕ) → Good h (bs ++ live) res s
      → Good h live res ((cell_ops D p ord).leave Both bs s)
  leave_good bs h s live res g =
      subst (λ t. Good h live res (known_or_empty D p ord t (entered D p pair_mode.Both bs s)))
      (sym (told_pass D law p ord s g.state)) (changes.leave bs h s live res g)

  joined_good : (h s t : Known N) (live res : List ℕ) → Good h live res s → Good h live res t
      → Good h live res ((cell_ops D p ord).joined ((cell_ops D p ord).unified s t).0
      ((cell_ops D p ord).unified s t).1)
  joined_good h s t live res g i =
      subst (Good h live res) (sym (joined_is D law p ord s t g.state i.state)) (states.joined h s t live res g i)

  shared_again : (h s : Known N) (live res : List ℕ) → Good h live res s → reshared_known D p ord s ≡ s
  shared_again h s live res g =
      ap (λ cs. record s { cells = cs })
      (reshared_shared D s.cells ((shape_laws_of D).shared p s.cells g.shape).shared)

  reshared_good : (h s : Known N) (live res : List ℕ) → Good h live res s
      → Good h live res (reshared_known D p ord s)
  reshared_good h s live res g = subst (Good h live res) (sym (shared_again h s live res g)) g

  below_good : (h s : Known N) (live res : List ℕ) → Good h live res s → rank_of D p ord s < last_head p D.height - 1
  below_good h s live res g =
      states.below h s live res
      (bytes_of_main p fit formed (slice_get p.functions p.main) refl (and_parts _ _ formed).1) g

  -- the next head
  head_is : (g h t : Known N) (live res : List ℕ) → Good g live res h → Good g live res t
      → reshared_known D p ord ((cell_ops D p ord).widened ((cell_ops D p ord).unified h t).0
      ((cell_ops D p ord).unified h t).1) ≡ widening_of D h t
  head_is g h t live res a b =
      ap (reshared_known D p ord) (widened_is D law p ord h t a.state b.state)
      ∙ shared_again g (widening_of D h t) live res (states.widened g h t live res a b)

  next_good : (g h t : Known N) (live res : List ℕ) → Good g live res h → Good h live res t
      → (cell_ops D p ord).leq ((cell_ops D p ord).unified h t).1 h ≡ false
      → Good g live res ((cell_ops D p ord).reshared ((cell_ops D p ord).widened ((cell_ops D p ord).unified h t).0
      ((cell_ops D p ord).unified h t).1))
      × (rank_of D p ord ((cell_ops D p ord).reshared ((cell_ops D p ord).widened ((cell_ops D p ord).unified h t).0
      ((cell_ops D p ord).unified h t).1)) < rank_of D p ord h)
  next_good g h t live res a b w =
      let old : Good g live res t = states.carried g h t live res a b in
      subst (λ n. Good g live res n × (rank_of D p ord n < rank_of D p ord h)) (sym (head_is g h t live res a old)) (
        states.widened g h t live res a old,
        states.falls g h t live res small a b (within_is D law p ord h t a.state b.state w),
      )

pub ops_keep_good : {N : Type 0} (D : Ops N) → Lawful D → KeepsOffsets D → ProductsKeepStrides D
    → D.height < 4294967295 → (p : Program) → is_well_formed p ≡ true → IsBuilt p.types
    → are_tame_types p.types ≡ true → (ord : Side → Order) → OpsKeepGood D p ord
ops_keep_good D law keeps products small p formed built tame ord = record {
  again = λ h s live res g.
      (states D law keeps products small p formed built tame ord).again h s live res g;
  still = λ here f at w still seen typed own h s live res among g.
      simple_good D law keeps products small p formed built tame ord here f at w still seen typed own h s live res among
      g;
  test = λ e seen typed own h s live res among g.
      test_good D law keeps products small p formed built tame ord e seen typed own h s live res among g;
  assume = λ e seen typed t h s live res g.
      (states D law keeps products small p formed built tame ord).assumed seen e typed t t h s live res g;
  enter = λ bs free h s live res g. enter_good D law keeps products small p formed built tame ord bs free h s live res g;
  leave = λ bs h s live res g. leave_good D law keeps products small p formed built tame ord bs h s live res g;
  joined = λ h s t live res g i. joined_good D law keeps products small p formed built tame ord h s t live res g i;
  reshared = λ h s live res g. reshared_good D law keeps products small p formed built tame ord h s live res g;
  below = λ h s live res g. below_good D law keeps products small p formed built tame ord h s live res g;
  next = λ g h t live res a b w. next_good D law keeps products small p formed built tame ord g h t live res a b w;
}
