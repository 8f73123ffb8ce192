-- Arguments of calls in good states.
use Rattle.std.proofs.Common.{◌≡◌, ℕ, pos, Bool, true, false, ◌&&◌, ◌||◌, List, [], ◌∷◌, ◌++◌, slice_get, Option, Some}
use Rattle.std.proofs.Common.{None, refl, sym, ap, ◌∙◌, subst, nat_eq}
use Rattle.std.specs.Prelude.{option_and_then, option_to_list}
use Rattle.std.specs.Option.{option_map_or}
use Rattle.std.specs.List.{list_all}
use Rattle.std.proofs.lemmas.Bool.{and_parts, or_left, or_right, eq-eqb}
use Rattle.ep_int.specs.declared.types.Model.{Model}
use Rattle.ep_int.specs.declared.types.Order.{Order}
use Rattle.ep_int.specs.declared.types.Scalar.{Scalar}
use Rattle.ep_int.specs.declared.types.Scalar.TheVariants.{Pointer}
use Rattle.ep_int.specs.Types.{size_of}
use Rattle.ep_int.specs.Memory.{contains}
use Rattle.ep_int.proofs.Basics.{contains-left}
use Rattle.ep_layout.specs.Table.{IsBuilt, scalar_of, target_of}
use Rattle.ep_layout.proofs.Sizes.{size_of_scalar}
use Rattle.ep_domain.specs.Domain.{Ops, Lawful}
use Rattle.ep_cells.specs.Forms.{form_after}
use Rattle.ep_cells.specs.States.{Known}
use Rattle.ep_core.specs.Program.{Expr, block, Block, Function, Program}
use Rattle.ep_core.specs.Exec.{first_of, frame_of}
use Rattle.ep_core.specs.Runs.{Side, left, is_global}
use Rattle.ep_core.specs.Typed.{scalar_of as scalar_of_sort}
use Rattle.ep_core.specs.WellFormed.{Sort, integer, pointer_to, is_well_formed, blocks_fit, holds_scalar, has_scalar, block_type}
use Rattle.ep_core.specs.WellFormed.{has_type, has_sort, sort_of, ty_at, arguments_fit, is_named}
use Rattle.ep_core.proofs.Operands.{sizes as blocks_of, fits_at}
use Rattle.ep_core.proofs.Sorts.{never, typed_where, sort_scalar}
use Rattle.ep_equalities.specs.Same.{is_same}
use Rattle.ep_equalities.specs.declared.pair.Mode.TheVariants.{Both}
use Rattle.ep_equalities.specs.declared.pair.PairValue.{PairValue}
use Rattle.ep_equalities.specs.declared.pair.SideValue.{SideValue}
use Rattle.ep_evaluation.specs.Given.{Given}
use Rattle.ep_evaluation.specs.Laws.{IsState, SideFits}
use Rattle.ep_evaluation.proofs.Gathered.{evaluation_laws}
use Rattle.ep_pass.specs.States as states
use Rattle.ep_transfers.specs.Writes.{formed_side, formed_pair}
use Rattle.ep_transfers.specs.Places.{places_of}
use Rattle.ep_transfers.specs.Transfers.{Stepped, stepped, fate_off_blocks, entered, to_block, sizes, gives, assigned}
use Rattle.ep_transfers.specs.Calls.{given_all, bound, waiting, arguments_step}
use Rattle.ep_transfers.specs.Cells.{cell_ops, told_of, when_known}
use Rattle.ep_transfers.specs.WaitingLaws.{OthersThere, WaitingHolds}
use Rattle.ep_transfers.proofs.WaitingStays.{each_waits}
use Rattle.ep_alarm_laws.proofs.Safe.{plain_honest}
use Rattle.ep_kinds.specs.Tame.{are_tame_types, is_tame_expr}
use Rattle.ep_tame_laws.specs.Tamely.{IfReached, AreAmong, result_block, HaveNoResult, TransferIsGood}
use Rattle.ep_tame_laws.proofs.Main.{OwnBlock, own_block}
use Rattle.ep_tame_laws.proofs.Parts.{scalar_size}
use Rattle.ep_tame_places.specs.Laws.{PlaceLaws}
use Rattle.ep_tame_accesses.specs.Laws.{HasObject, EachSpot, AccessesAreOfObjects}
use Rattle.ep_tame_states.specs.States.{ValueHas, IsInBlock, IsGood}
use Rattle.ep_tame_twins.specs.Twins.{ExprTwin}
use Rattle.ep_tame_twins.specs.Laws.{TwinLaws}
use Rattle.ep_tame_twins.proofs.Parts.{scalar_type}
use Rattle.ep_tame_changes.specs.Laws.{BlocksKeepGood}
use Rattle.ep_tame_writes.specs.Laws.{CanGoTo, AssignmentsKeepGood}
use Rattle.ep_tame_ops.proofs.GuardsPass.{told_pass}
use Rattle.ep_tame_calls.proofs.CallKinds.{arguments_undefined}
use Rattle.ep_tame_calls.proofs.Own.{pointer_at, pointer_sorted, own_lies, more_points, points_inside}
use Rattle.ep_tame_calls.proofs.Own.{number_inside}

-- an argument, and those after it
record ArgumentParts (p : Program) (seen : List ℕ) (b : ℕ × Scalar) (bs : List (ℕ × Scalar)) (e : Expr)
    (es : List Expr) : Type 0 where
  own : OwnBlock p b
  typed : has_type p.types p.blocks seen e own.of_block.ty ≡ true
  rest : arguments_fit p.types p.blocks seen bs es ≡ true

argument_parts : (p : Program) (seen : List ℕ) (b : ℕ × Scalar) (bs : List (ℕ × Scalar)) (e : Expr) (es : List Expr)
    → arguments_fit p.types p.blocks seen (b ∷ bs) (e ∷ es) ≡ true → holds_scalar p.types p.blocks b ≡ true
    → ArgumentParts p seen b bs e es
argument_parts p seen b bs e es h holds =
    let o = own_block p b holds in
    let q = and_parts (has_type p.types p.blocks seen e o.of_block.ty) (arguments_fit p.types p.blocks seen bs es)
    (rw o.there at h) in
    record { own = o; typed = q.0; rest = q.1 }

module _ {N : Type 0} (D : Ops N) (law : Lawful D) (p : Program) (formed : is_well_formed p ≡ true)
    (built : IsBuilt p.types) (ord : Side → Order) (places : PlaceLaws D p) (access : AccessesAreOfObjects D p)
    (twins : TwinLaws D p ord) (changes : BlocksKeepGood D p ord) (writes : AssignmentsKeepGood D p ord) where
  fit : blocks_fit p.types p.blocks ≡ true
  fit = blocks_of p formed

  waiting_laws : WaitingHolds D p ord
  waiting_laws = each_waits D law p ord formed

  -- ---- arguments that were evaluated in state j, where a frame has come

  module _ (h j : Known N) (seen live res frame : List ℕ) (among : AreAmong seen live)
      (before : IsGood D p ord h live res j) where
    abbrev Good : Known N → Type 0
    Good k = IsGood D p ord h (frame ++ live) res k

    abbrev value : Expr → Given N
    value e = gives D p e Both j

    abbrev waits : Expr → PairValue N
    waits e = formed_pair (form_after (fate_off_blocks frame)) (value e).pair

    twin : (e : Expr) (x : Sort) → has_sort p.types p.blocks seen e x ≡ true → is_tame_expr p.types e ≡ true
        → ExprTwin D p seen live e j
    twin e x typed own = twins.expressions seen live res among e x typed own h j before

    module _ (b : ℕ × Scalar) (e : Expr) (o : OwnBlock p b) (typed : has_type p.types p.blocks seen e o.of_block.ty ≡ true)
        (own : is_tame_expr p.types e ≡ true) where
      abbrev u : ℕ
      u = o.of_block.ty

      sort : (x : Sort) × (sort_of (ty_at p.types p.blocks seen u) ≡ Some x) × (has_sort p.types p.blocks seen e x ≡ true)
      sort = typed_where p.types p.blocks seen e u typed

      fits_before : SideFits D p ord j b.1 (value e).pair.left
      fits_before =
          subst (λ w. SideFits D p ord j w (value e).pair.left)
          (sym (sort_scalar (slice_get p.types.types u) b.1 sort.0 o.holds sort.1))
          (((evaluation_laws D law).expressions p ord fit seen e sort.0 sort.2).fits j before.state Both left)

      can_go : (k : Known N) → SideFits D p ord k b.1 (waits e).left
          → CanGoTo D p (frame ++ live) k u b.1 (waits e).left
      can_go k f = record {
        sort = f.sort;
        rising = f.rising;
        form = f.form;
        inside = number_inside D p b.1 (value e).pair.left.value f.sort (λ pointer. at_pointer pointer);
        along = λ ty target.
            more_points D p frame live ty (value e).pair.left.value
            ((twin e sort.0 sort.2 own).points ty (pointer_sorted p seen e u ty typed target));
      }
        where
          at_sort : (x : Sort) → has_sort p.types p.blocks seen e x ≡ true → Pointer ≡ scalar_of_sort x
              → ValueHas (IsInBlock D p) (value e).pair.left.value
          at_sort (integer t) s q = absurd cc
          at_sort (pointer_to ty) s q =
              points_inside D p live ty (value e).pair.left.value ((twin e (pointer_to ty) s own).points ty s)

          at_pointer : b.1 ≡ Pointer → ValueHas (IsInBlock D p) (value e).pair.left.value
          at_pointer pointer =
              at_sort sort.0 sort.2
              (sym pointer ∙ sort_scalar (slice_get p.types.types u) b.1 sort.0 o.holds sort.1)

      one_spot : (k : Known N) → k.model ≡ p.types.model → contains b.0 frame ≡ true
          → EachSpot (HasObject p (frame ++ live) u)
          (places_of D (sizes D p) (size_of k.model b.1) (size_of k.model b.1) (to_block D Both b.0)).left
      one_spot k model i =
          access (frame ++ live) (block b.0) u (size_of k.model b.1) (size_of k.model b.1) ((b.0, D.single (pos 0)) ∷ [])
          (scalar_size p.types built u b.1 (scalar_type p.types u b.1 o.holds)
          ∙ ap (λ (d : Model). Some (size_of d b.1)) (sym model))
          (size_of_scalar k.model b.1).0 (
            own_lies D p places (frame ++ live) b.0 o.of_block o.there
                (or_right (is_global (slice_get p.blocks b.0)) (contains b.0 (frame ++ live))
                (contains-left b.0 frame live i)),
            tt,
          )

      one_good : (k : Known N) → contains b.0 frame ≡ true → Good k → SideFits D p ord k b.1 (waits e).left
          → IfReached Good (assigned D (sizes D p) Both b.1 (to_block D Both b.0) (waits e) k).next
      one_good k i g f =
          let t = (twin e sort.0 sort.2 own).twin in
          writes h k (frame ++ live) res u b.1 (to_block D Both b.0) (waits e) g (scalar_type p.types u b.1 o.holds) refl
          refl (ap (formed_side (form_after (fate_off_blocks frame))) t.alike) (or_left (waits e).equal _ t.equal)
          (one_spot k g.state.model i) (can_go k f)

    all_bound : (bs : List (ℕ × Scalar)) (es : List Expr) → ((c : ℕ) → contains c (first_of bs) ≡ true
        → contains c frame ≡ true)
        → arguments_fit p.types p.blocks seen bs es ≡ true → list_all (holds_scalar p.types p.blocks) bs ≡ true
        → list_all (is_tame_expr p.types) es ≡ true → (k : Known N) → Good k → OthersThere frame j k
        → IfReached Good (bound D p Both bs (waiting D p frame (given_all D p es Both j)) k).next
    all_bound [] es framed fits holds own k g others = g
    all_bound (b ∷ bs) [] framed fits holds own k g others = g
    all_bound (b ∷ bs) (e ∷ es) framed fits holds own k g others =
        let q = and_parts (holds_scalar p.types p.blocks b) (list_all (holds_scalar p.types p.blocks) bs) holds in
        let t = and_parts (is_tame_expr p.types e) (list_all (is_tame_expr p.types) es) own in
        let a = argument_parts p seen b bs e es fits q.0 in
        let f = waiting_laws.waits frame j k others b.1 (value e).pair.left (fits_before b e a.own a.typed t.0) in
        let i = framed b.0 (or_left (nat_eq b.0 b.0) (contains b.0 (first_of bs)) (eq-eqb b.0 b.0 refl)) in
        go_on (assigned D (sizes D p) Both b.1 (to_block D Both b.0) (waits e) k).next
        (one_good b e a.own a.typed t.0 k i g f)
        (λ l n. λ c off there. waiting_laws.set frame Both b.1 b.0 (waits e) k l i g.state.cells f n c off
        (others c off there))
        (λ l i o. all_bound bs es (λ c e. framed c (or_right (nat_eq c b.0) (contains c (first_of bs)) e)) a.rest q.1 t.1 l
        i o)
      where
        go_on : (s : Option (Known N)) → IfReached Good s → ((l : Known N) → s ≡ Some l → OthersThere frame j l)
            → ((l : Known N) → Good l → OthersThere frame j l
            → IfReached Good (bound D p Both bs (waiting D p frame (given_all D p es Both j)) l).next)
            → IfReached Good (option_map_or (bound D p Both bs (waiting D p frame (given_all D p es Both j))) s
            (stepped [] None)).next
        go_on None r o go = tt
        go_on (Some l) r o go = go l r (o l refl)

  -- ---- arguments

  pub arguments_good : (k : ℕ) (f : Function) → slice_get p.functions k ≡ Some f → (es : List Expr) (seen : List ℕ)
      → arguments_fit p.types p.blocks seen f.params es ≡ true → list_all (is_tame_expr p.types) es ≡ true
      → HaveNoResult p (frame_of f) → HaveNoResult p (result_block f)
      → (h s : Known N) (live res : List ℕ) → AreAmong seen live → IsGood D p ord h live res s
      → TransferIsGood (IsGood D p ord h (frame_of f ++ live) (result_block f ++ res))
      ((cell_ops D p ord).arguments states.Both f es s)
  arguments_good k f at es seen fits own frame result h s live res among g = record {
    faults =
        arguments_undefined false es ((cell_ops D p ord).arguments states.Both f es s).faults
        ((plain_honest D law p ord formed built).arguments states.Both k f at es seen fits s);
    next =
        (let j = entered D p Both (result_block f) s in
        let there = changes.result_comes (result_block f) result h s live res g in
        subst (λ t. IfReached (IsGood D p ord h (frame_of f ++ live) (result_block f ++ res))
        (told_of D (when_known t (arguments_step D p Both f es s))).next) (sym (told_pass D law p ord s g.state))
        (all_bound h j seen live (result_block f ++ res) (frame_of f) among there f.params es
        (λ c i. contains-left c (first_of f.params) f.locals i) fits (fits_at p formed k f at).0 own
        (entered D p Both (frame_of f) j) (changes.enter (frame_of f) frame h j live (result_block f ++ res) there)
        (waiting_laws.comes Both (frame_of f) j there.state)));
  }
