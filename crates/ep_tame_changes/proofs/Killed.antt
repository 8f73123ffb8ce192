-- Good states after blocks came or went.
use Rattle.std.proofs.Common.{◌≡◌, ℕ, Bool, true, false, ◌||◌, not, cond, ◌⊎◌, inl, inr, ⊎_elim, List, [], ◌∷◌}
use Rattle.std.proofs.lemmas.List.Folds.{list_any-append}
use Rattle.ep_int.proofs.Basics.{contains-right}
use Rattle.std.proofs.Common.{◌++◌, map, slice_get, Option, Some, None, refl, sym, ap, ◌∙◌, subst, nat_eq}
use Rattle.std.specs.List.{filter, list_any}
use Rattle.std.proofs.lemmas.Bool.{or_left, or_right, or_cases, eqb-true, eq-eqb, both_ways, false_from_ne_true}
use Rattle.ep_int.specs.declared.types.Model.{Model}
use Rattle.ep_int.specs.declared.types.Order.{Order}
use Rattle.ep_int.specs.Memory.{contains}
use Rattle.ep_layout.specs.declared.types.Leaf.{Leaf}
use Rattle.ep_layout.specs.Table.{leaves}
use Rattle.ep_bitslice.specs.declared.cell.Side.TheVariants.{Shared}
use Rattle.ep_domain.specs.Domain.{Ops, Lawful}
use Rattle.ep_pointers.specs.Value.{Target, without}
use Rattle.ep_cells.specs.declared.cell.Cell.{Cell}
use Rattle.ep_cells.specs.declared.cell.Value.{Value}
use Rattle.ep_cells.specs.declared.cell.Value.TheVariants.{Num, Ptr}
use Rattle.ep_cells.specs.Cells.{IsIn, first, later, put_all, each_becomes}
use Rattle.ep_cells.specs.Forms.{Fate, reformed}
use Rattle.ep_cells.specs.Kill.{undefined_cell, entry_cells, has_target, value_without, without_target, left_by_kill}
use Rattle.ep_cells.specs.Kill.{fate_by_kill, killed_cells}
use Rattle.ep_cells.specs.States.{Known, AreCells, HaveCellsAlike}
use Rattle.ep_cells.proofs.Gathered.{of_kills}
use Rattle.ep_cells.proofs.Lists.{in_map, in_each, in_put_all}
use Rattle.ep_core.specs.Program.{Block, Program}
use Rattle.ep_core.specs.Runs.{Side, is_global}
use Rattle.ep_core.specs.WellFormed.{is_named, blocks_fit}
use Rattle.ep_equalities.specs.declared.pair.Mode.TheVariants.{Both}
use Rattle.ep_evaluation.specs.Laws.{IsState}
use Rattle.ep_transfers.specs.Transfers.{killed_block, killed_blocks, entered}
use Rattle.ep_transfers.proofs.WaitingStays.{blocks_state}
use Rattle.ep_tame_laws.specs.Tamely.{is_result_of_main, HaveNoResult}
use Rattle.ep_tame_values.specs.Offsets.{EachTarget}
use Rattle.ep_tame_places.specs.Places.{PointsTo}
use Rattle.ep_tame_cells.specs.Shared.{AreHad}
use Rattle.ep_tame_cells.specs.Shape.{IsCovered, HasShape}
use Rattle.ep_tame_cells.specs.Laws.{ShapeLaws}
use Rattle.ep_tame_cells.specs.BlockLaws.{BlockLaws}
use Rattle.ep_tame_cells.proofs.Entered.{new_is, one_in, block_laws_of}
use Rattle.ep_tame_cells.proofs.Over.{same_alike}
use Rattle.ep_tame_cells.proofs.Shapes.{is_like, like_there, shape_laws_of}
use Rattle.ep_tame_states.specs.States.{ValueHas, IsInBlock, CellPoints, IsGood}
use Rattle.ep_tame_states.proofs.Meetings.{form_apart}
use Rattle.ep_tame_changes.specs.Laws.{BlocksKeepGood}

-- ---- lists of blocks

module _ {N : Type 0} where
  -- ---- values that lose a block

  module _ (b : ℕ) (P Q : ℕ → N → Type 0) (go : (c : ℕ) (n : N) → nat_eq c b ≡ false → P c n → Q c n) where
    filtered : (ts : List (Target N)) → EachTarget P ts → EachTarget Q (filter (λ t. not (nat_eq t.0 b)) ts)
    filtered [] h = tt
    filtered (t ∷ ts) h = at (nat_eq t.0 b) refl (filtered ts h.1)
      where
        at : (x : Bool) → nat_eq t.0 b ≡ x → EachTarget Q (filter (λ t. not (nat_eq t.0 b)) ts)
            → EachTarget Q (cond (not x) (t ∷ filter (λ t. not (nat_eq t.0 b)) ts)
            (filter (λ t. not (nat_eq t.0 b)) ts))
        at true e rest = rest
        at false e rest = (go t.0 t.1 e h.0, rest)

    without_has : (v : Option (Value N)) → ValueHas P v → ValueHas Q (value_without b v)
    without_has None h = tt
    without_has (Some (Num n)) h = tt
    without_has (Some (Ptr q)) h =
        at ((without b q).null || list_any (λ t. true) (without b q).targets) (filtered q.targets h)
      where
        at : (x : Bool) → EachTarget Q (without b q).targets → ValueHas Q (cond x (Some (Ptr (without b q))) None)
        at true k = k
        at false k = tt

    untouched : (ts : List (Target N)) → list_any (λ t. nat_eq t.0 b) ts ≡ false → EachTarget P ts → EachTarget Q ts
    untouched [] e h = tt
    untouched (t ∷ ts) e h = at (nat_eq t.0 b) refl e (untouched ts)
      where
        at : (x : Bool) → nat_eq t.0 b ≡ x → (x || list_any (λ t. nat_eq t.0 b) ts) ≡ false
            → (list_any (λ t. nat_eq t.0 b) ts ≡ false → EachTarget P ts → EachTarget Q ts) → EachTarget Q (t ∷ ts)
        at true q e rest = absurd cc
        at false q e rest = (go t.0 t.1 q h.0, rest e h.1)

    still_has : (v : Option (Value N)) → has_target b v ≡ false → ValueHas P v → ValueHas Q v
    still_has None e h = tt
    still_has (Some (Num n)) e h = tt
    still_has (Some (Ptr q)) e h = untouched q.targets e h

  -- ---- cells that stay where no block goes

  kept_alike : (b : ℕ) (f : Fate) (cs : List (Cell N)) → ((c : Cell N) → IsIn c cs → nat_eq c.block b ≡ false)
      → HaveCellsAlike cs (map (reformed f) (each_becomes (left_by_kill Shared b) cs))
  kept_alike b f [] h = tt
  kept_alike b f (c ∷ cs) h =
      by_block (nat_eq c.block b) (h c (first cs)) (kept_alike b f cs (λ x i. h x (later c cs i)))
    where
      by_target : (t : Bool) → HaveCellsAlike cs (map (reformed f) (each_becomes (left_by_kill Shared b) cs))
          → HaveCellsAlike (c ∷ cs) (map (reformed f) (cond t (without_target b c ∷ []) (c ∷ [])
          ++ each_becomes (left_by_kill Shared b) cs))
      by_target true k = (record { side = refl; block = refl; offset = refl; what = refl }, k)
      by_target false k = (record { side = refl; block = refl; offset = refl; what = refl }, k)

      by_block : (t : Bool) → t ≡ false → HaveCellsAlike cs (map (reformed f) (each_becomes (left_by_kill Shared b) cs))
          → HaveCellsAlike (c ∷ cs)
          (map (reformed f) (cond t [] (cond (has_target b c.value) (without_target b c ∷ []) (c ∷ []))
          ++ each_becomes (left_by_kill Shared b) cs))
      by_block true e k = absurd cc
      by_block false e k = by_target (has_target b c.value) k

module _ {N : Type 0} (D : Ops N) (law : Lawful D) (p : Program) (fit : blocks_fit p.types p.blocks ≡ true)
    (ord : Side → Order) where
  shapes : ShapeLaws D
  shapes = shape_laws_of D

  blocks : BlockLaws D
  blocks = block_laws_of D

  -- places of blocks that all are there stay
  pub had_covered : (hs xs ys : List (Cell N)) → HasShape p xs → HasShape p ys
      → ((c : ℕ) → IsCovered p xs c → IsCovered p ys c) → AreHad hs xs → AreHad hs ys
  had_covered hs xs ys a b covers had x i =
      let y = is_like x xs (had x i) in
      let l = a.leaf y.cell y.is_in in
      let z = covers y.cell.block (a.whole y.cell y.is_in) l.of_block l.there y.cell.offset l.inside y.cell.what l.what in
      like_there x ys z.cell z.is_in
      (same_alike z.cell x (record {
        side = (b.leaf z.cell z.is_in).side ∙ sym l.side ∙ y.alike.side;
        block = z.block ∙ y.alike.block;
        offset = z.offset ∙ y.alike.offset;
        what = z.what ∙ y.alike.what;
      }))

  abbrev Names : List ℕ → ℕ → Type 0
  Names live c = is_named p.types p.blocks live c ≡ true

  -- ---- one block

  module _ (h : Known N) (b : ℕ) (own : is_result_of_main p b ≡ false) (live less res : List ℕ)
      (stays : (c : ℕ) → nat_eq c b ≡ false → Names live c → Names less c)
      (before : (c : ℕ) → Names less c → Names live c) where
    still_points : (ty c : ℕ) (n : N) → nat_eq c b ≡ false → PointsTo D p live ty c n → PointsTo D p less ty c n
    still_points ty c n other q = record {
      of_block = q.of_block;
      there = q.there;
      named = stays c other q.named;
      point = q.point;
    }

    left_points : (x y : Cell N) → IsIn y (left_by_kill Shared b x) → CellPoints D p live x → CellPoints D p less y
    left_points x y i g = by_block (nat_eq x.block b) i
      where
        no_number : (n : N) → x.value ≡ Some (Num n) → has_target b x.value ≡ false
        no_number n e = ap (has_target b) e

        lost : has_target b x.value ≡ true → CellPoints D p less (without_target b x)
        lost e = record {
          inside = without_has b (IsInBlock D p) (IsInBlock D p) (λ c n e q. q) x.value g.inside;
          along = λ z there pt ty at target.
              without_has b (PointsTo D p live ty) (PointsTo D p less ty) (still_points ty) x.value
              (g.along z there pt ty at target);
          sure = λ m. (let s = g.sure m in absurd (both_ways (has_target b x.value) (no_number s.number s.value) e));
        }

        kept : has_target b x.value ≡ false → CellPoints D p less x
        kept e = record {
          inside = g.inside;
          along = λ z there pt ty at target.
              still_has b (PointsTo D p live ty) (PointsTo D p less ty) (still_points ty) x.value e
              (g.along z there pt ty at target);
          sure = g.sure;
        }

        by_target : (t : Bool) → has_target b x.value ≡ t → IsIn y (cond t (without_target b x ∷ []) (x ∷ []))
            → CellPoints D p less y
        by_target true e i = subst (CellPoints D p less) (sym (one_in y (without_target b x) i)) (lost e)
        by_target false e i = subst (CellPoints D p less) (sym (one_in y x i)) (kept e)

        by_block : (t : Bool)
            → IsIn y (cond t [] (cond (has_target b x.value) (without_target b x ∷ []) (x ∷ [])))
            → CellPoints D p less y
        by_block true i = elim i [ ]
        by_block false i = by_target (has_target b x.value) refl i

    killed_points : (d : Model) (ls : List Leaf) (size : ℕ) (cs : List (Cell N))
        → ((c : Cell N) → IsIn c cs → CellPoints D p live c) → (c : Cell N)
        → IsIn c (killed_cells d Shared b ls size cs) → CellPoints D p less c
    killed_points d ls size cs g c i =
        let m = in_map (reformed (fate_by_kill Shared b)) c
        (put_all (entry_cells d Shared b ls size) (each_becomes (left_by_kill Shared b) cs)) i in
        subst (CellPoints D p less) (sym m.is)
        (formed m.origin (by_origin m.origin
        (in_put_all (entry_cells d Shared b ls size) m.origin (each_becomes (left_by_kill Shared b) cs) m.is_in)))
      where
        formed : (y : Cell N) → CellPoints D p less y → CellPoints D p less (reformed (fate_by_kill Shared b) y)
        formed y k = record {
          inside = k.inside;
          along = k.along;
          sure = λ m. form_apart y (reformed (fate_by_kill Shared b) y) refl refl (k.sure m);
        }

        by_origin : (y : Cell N)
            → IsIn y (entry_cells d Shared b ls size) ⊎ IsIn y (each_becomes (left_by_kill Shared b) cs)
            → CellPoints D p less y
        by_origin y (inl j) =
            let n = new_is d b ls 0 size y j in
            let undefined : CellPoints D p less (undefined_cell Shared b n.offset n.what) =
            record {
              inside = tt;
              along = λ z there pt ty at target. tt;
              sure = λ m. absurd (both_ways (is_result_of_main p b) own m);
            } in
            subst (CellPoints D p less) (sym n.is) undefined
        by_origin y (inr j) =
            let f = in_each (left_by_kill Shared b) y cs j in
            left_points f.origin y f.becomes (g f.origin f.is_in)

    -- the state after it
    record Killed (j : Known N) (k : Known N) : Type 0 where
      pub good : IsGood D p ord h less res j
      pub covered : IsCovered p j.cells b
      pub keeps : (c : ℕ) → IsCovered p k.cells c → IsCovered p j.cells c

    killed_good : (k : Known N) → IsGood D p ord h live res k
        → Killed (killed_block D p Shared b (slice_get p.blocks b) k) k
    killed_good k g = by_block (slice_get p.blocks b) refl
        (blocks_state D p ord fit (of_kills D law) Shared (b ∷ []) k g.state)
      where
        made : (cs : List (Cell N)) → IsState D p ord (record k { cells = cs }) → HasShape p cs → IsCovered p cs b
            → ((c : ℕ) → IsCovered p k.cells c → IsCovered p cs c)
            → ((c : Cell N) → IsIn c cs → CellPoints D p less c) → Killed (record k { cells = cs }) k
        made cs state shape covered keeps points = record {
          good = record {
            state = state;
            shape = shape;
            named = λ c n. keeps c (g.named c (before c n));
            results = λ c n. keeps c (g.results c n);
            points = points;
            over = had_covered h.cells k.cells cs g.shape shape keeps g.over;
            apart = λ c m. false_from_ne_true (is_named p.types p.blocks less c)
                (λ n. both_ways (is_named p.types p.blocks live c) (g.apart c m) (before c n));
          };
          covered = covered;
          keeps = keeps;
        }

        no_block : {A : Type 0} (x : Block) → None ≡ Some x → A
        no_block x e = absurd cc

        elsewhere : slice_get p.blocks b ≡ None → (c : Cell N) → IsIn c k.cells → nat_eq c.block b ≡ false
        elsewhere none c i = at (nat_eq c.block b) refl
          where
            at : (t : Bool) → nat_eq c.block b ≡ t → t ≡ false
            at false e = refl
            at true e =
                let l = g.shape.leaf c i in
                no_block l.of_block (sym none ∙ ap (slice_get p.blocks) (sym (eqb-true c.block b e)) ∙ l.there)

        by_block : (o : Option Block) → slice_get p.blocks b ≡ o
            → IsState D p ord (killed_block D p Shared b (slice_get p.blocks b) k)
            → Killed (killed_block D p Shared b (slice_get p.blocks b) k) k
        by_block (Some x) e state =
            subst (λ o. Killed (killed_block D p Shared b o k) k) (sym e)
            (let now : IsState D p ord (killed_block D p Shared b (Some x) k) =
            subst (λ o. IsState D p ord (killed_block D p Shared b o k)) e state in
            let m = g.state.model in
            let cs : Model → List (Cell N) = λ d. killed_cells d Shared b (leaves p.types x.ty) x.size k.cells in
            let own : AreCells p.types.model (cs p.types.model) = subst (λ d. AreCells d (cs d)) m now.cells in
            made (cs k.model) now
            (subst (λ d. HasShape p (cs d)) (sym m) (blocks.shape p b x k.cells e g.shape own))
            (subst (λ d. IsCovered p (cs d) b) (sym m) (blocks.covered p b x k.cells e))
            (λ c n. subst (λ d. IsCovered p (cs d) c) (sym m) (blocks.keeps p b x k.cells e g.shape c n))
            (killed_points k.model (leaves p.types x.ty) x.size k.cells g.points))
        by_block None e state =
            subst (λ o. Killed (killed_block D p Shared b o k) k) (sym e)
            (let now : IsState D p ord (killed_block D p Shared b None k) =
            subst (λ o. IsState D p ord (killed_block D p Shared b o k)) e state in
            let cs = killed_cells k.model Shared b [] 0 k.cells in
            let same = kept_alike b (fate_by_kill Shared b) k.cells (elsewhere e) in
            made cs now
            (shapes.alike p k.cells cs g.shape (subst (λ d. AreCells d cs) g.state.model now.cells) same)
            (λ z there. no_block z (sym e ∙ there))
            (λ c n. shapes.alike_covers p k.cells cs c same n)
            (killed_points k.model [] 0 k.cells g.points))

  -- ---- blocks one after the other

  -- more blocks that are all there
  more_named : (h k : Known N) (bs live res : List ℕ) → HaveNoResult p bs → IsGood D p ord h live res k
      → ((c : ℕ) → contains c bs ≡ true → IsCovered p k.cells c) → IsGood D p ord h (bs ++ live) res k
  more_named h k bs live res free g covered = record {
    state = g.state;
    shape = g.shape;
    named = λ c n. by_name c (or_cases (is_global (slice_get p.blocks c)) (contains c (bs ++ live)) n);
    results = g.results;
    points = λ c i. (let q = g.points c i in record {
      inside = q.inside;
      along = λ z there pt ty at target. still_named ty c.value (q.along z there pt ty at target);
      sure = q.sure;
    });
    over = g.over;
    apart = λ c m. false_from_ne_true (is_named p.types p.blocks (bs ++ live) c)
        (λ n. ⊎_elim
        (λ e. both_ways (is_named p.types p.blocks live c) (g.apart c m)
        (or_left (is_global (slice_get p.blocks c)) (contains c live) e))
        (λ e. ⊎_elim (λ s. both_ways (is_result_of_main p c) (free c s) m)
        (λ s. both_ways (is_named p.types p.blocks live c) (g.apart c m)
        (or_right (is_global (slice_get p.blocks c)) (contains c live) s)) (or_cases (contains c bs) (contains c live) (sym (list_any-append (nat_eq c) bs live) ∙ e)))
        (or_cases (is_global (slice_get p.blocks c)) (contains c (bs ++ live)) n));
  }
    where
      by_name : (c : ℕ) → (is_global (slice_get p.blocks c) ≡ true) ⊎ (contains c (bs ++ live) ≡ true)
          → IsCovered p k.cells c
      by_name c (inl e) = g.named c (or_left (is_global (slice_get p.blocks c)) (contains c live) e)
      by_name c (inr e) =
          ⊎_elim (λ s. covered c s)
          (λ s. g.named c (or_right (is_global (slice_get p.blocks c)) (contains c live) s)) (or_cases (contains c bs) (contains c live) (sym (list_any-append (nat_eq c) bs live) ∙ e))

      as_named : (ty c : ℕ) (n : N) → PointsTo D p live ty c n → PointsTo D p (bs ++ live) ty c n
      as_named ty c n q = record {
        of_block = q.of_block;
        there = q.there;
        named =
            ⊎_elim (λ e. or_left (is_global (slice_get p.blocks c)) (contains c (bs ++ live)) e)
            (λ e. or_right (is_global (slice_get p.blocks c)) (contains c (bs ++ live)) (contains-right c bs live e))
            (or_cases (is_global (slice_get p.blocks c)) (contains c live) q.named);
        point = q.point;
      }

      each_named : (ty : ℕ) (ts : List (Target N)) → EachTarget (PointsTo D p live ty) ts
          → EachTarget (PointsTo D p (bs ++ live) ty) ts
      each_named ty [] e = tt
      each_named ty (t ∷ ts) e = (as_named ty t.0 t.1 e.0, each_named ty ts e.1)

      still_named : (ty : ℕ) (v : Option (Value N)) → ValueHas (PointsTo D p live ty) v
          → ValueHas (PointsTo D p (bs ++ live) ty) v
      still_named ty None e = tt
      still_named ty (Some (Num n)) e = tt
      still_named ty (Some (Ptr q)) e = each_named ty q.targets e

  record Gone (h : Known N) (live res : List ℕ) (bs : List ℕ) (k j : Known N) : Type 0 where
    pub good : IsGood D p ord h live res j
    pub covered : (c : ℕ) → contains c bs ≡ true → IsCovered p j.cells c
    pub keeps : (c : ℕ) → IsCovered p k.cells c → IsCovered p j.cells c

  gone : (bs : List ℕ) → HaveNoResult p bs → (h k : Known N) (live res : List ℕ) → IsGood D p ord h live res k
      → Gone h live res bs k (killed_blocks D p Shared bs k)
  gone [] free h k live res g = record { good = g; covered = λ c e. absurd cc; keeps = λ c n. n }
  gone (b ∷ bs) free h k live res g =
      let one = killed_good h b (free b (or_left (nat_eq b b) (contains b bs) (eq-eqb b b refl))) live live res (λ c e n. n) (λ c n. n) k g in
      let rest = gone bs (λ c e. free c (or_right (nat_eq c b) (contains c bs) e)) h (killed_block D p Shared b (slice_get p.blocks b) k) live res one.good in
      record {
        good = rest.good;
        covered = λ c e.
            ⊎_elim (λ s. rest.keeps c (subst (IsCovered p (killed_block D p Shared b (slice_get p.blocks b) k).cells)
            (sym (eqb-true c b s)) one.covered)) (λ s. rest.covered c s) (or_cases (nat_eq c b) (contains c bs) e);
        keeps = λ c n. rest.keeps c (one.keeps c n);
      }

  enter_good : (bs : List ℕ) → HaveNoResult p bs → (h k : Known N) (live res : List ℕ) → IsGood D p ord h live res k
      → IsGood D p ord h (bs ++ live) res (entered D p Both bs k)
  enter_good bs free h k live res g =
      let r = gone bs free h k live res g in
      more_named h (killed_blocks D p Shared bs k) bs live res free r.good r.covered

  leave_good : (bs : List ℕ) (h k : Known N) (live res : List ℕ) → IsGood D p ord h (bs ++ live) res k
      → IsGood D p ord h live res (entered D p Both bs k)
  leave_good [] h k live res g = g
  leave_good (b ∷ bs) h k live res g =
      let one = killed_good h b no_result (b ∷ (bs ++ live)) (bs ++ live) res off on k g in
      leave_good bs h (killed_block D p Shared b (slice_get p.blocks b) k) live res one.good
    where
      no_result : is_result_of_main p b ≡ false
      no_result =
          false_from_ne_true (is_result_of_main p b) (λ m. both_ways (is_named p.types p.blocks (b ∷ (bs ++ live)) b)
          (g.apart b m) (or_right (is_global (slice_get p.blocks b)) (contains b (b ∷ (bs ++ live)))
          (or_left (nat_eq b b) (contains b (bs ++ live)) (eq-eqb b b refl))))

      off : (c : ℕ) → nat_eq c b ≡ false → Names (b ∷ (bs ++ live)) c → Names (bs ++ live) c
      off c e n =
          sym (ap (λ t. is_global (slice_get p.blocks c) || (t || contains c (bs ++ live))) e) ∙ n

      on : (c : ℕ) → Names (bs ++ live) c → Names (b ∷ (bs ++ live)) c
      on c n =
          ⊎_elim (λ s. or_left (is_global (slice_get p.blocks c)) (contains c (b ∷ (bs ++ live))) s)
          (λ s. or_right (is_global (slice_get p.blocks c)) (contains c (b ∷ (bs ++ live)))
          (or_right (nat_eq c b) (contains c (bs ++ live)) s))
          (or_cases (is_global (slice_get p.blocks c)) (contains c (bs ++ live)) n)

  result_comes : (bs : List ℕ) → HaveNoResult p bs → (h k : Known N) (live res : List ℕ) → IsGood D p ord h live res k
      → IsGood D p ord h live (bs ++ res) (entered D p Both bs k)
  result_comes bs free h k live res g =
      let r = gone bs free h k live res g in
      record {
        state = r.good.state;
        shape = r.good.shape;
        named = r.good.named;
        results = λ c e. ⊎_elim (λ s. r.covered c s) (λ s. r.good.results c s) (or_cases (contains c bs) (contains c res) (sym (list_any-append (nat_eq c) bs res) ∙ e));
        points = r.good.points;
        over = r.good.over;
        apart = r.good.apart;
      }

  result_goes : (bs : List ℕ) (h k : Known N) (live res : List ℕ) → IsGood D p ord h live (bs ++ res) k
      → IsGood D p ord h live res k
  result_goes bs h k live res g = record {
    state = g.state;
    shape = g.shape;
    named = g.named;
    results = λ c e. g.results c (contains-right c bs res e);
    points = g.points;
    over = g.over;
    apart = g.apart;
  }

pub blocks_keep_good : {N : Type 0} (D : Ops N) → Lawful D → (p : Program) → blocks_fit p.types p.blocks ≡ true
    → (ord : Side → Order) → BlocksKeepGood D p ord
blocks_keep_good D law p fit ord = record {
  enter = λ bs free h k live res g. enter_good D law p fit ord bs free h k live res g;
  leave = λ bs h k live res g. leave_good D law p fit ord bs h k live res g;
  result_comes = λ bs free h k live res g. result_comes D law p fit ord bs free h k live res g;
  result_goes = λ bs h k live res g. result_goes D law p fit ord bs h k live res g;
}
