-- Writes that are added to a list, and what they do.
use Rattle.std.proofs.Common.{◌≡◌, ℕ, ◌+◌, ◌≤◌, Bool, true, false, ◌&&◌, cond, List, [], ◌∷◌, ◌++◌, None, refl, sym, ap}
use Rattle.std.proofs.Common.{◌∙◌, subst}
use Rattle.ep_int.specs.declared.types.Model.{Model}
use Rattle.ep_int.specs.declared.types.Scalar.{Scalar}
use Rattle.ep_int.specs.Types.{size_of}
use Rattle.ep_domain.specs.Domain.{Ops}
use Rattle.ep_cells.specs.States.{Known, IsOfSort}
use Rattle.ep_cells.proofs.Both.{scalar_same}
use Rattle.ep_core.specs.Runs.{Side, left, right}
use Rattle.ep_equalities.specs.declared.pair.Mode.{Mode}
use Rattle.ep_equalities.specs.declared.pair.Mode.TheVariants.{Both}
use Rattle.ep_evaluation.specs.Given.{alone, cells_of}
use Rattle.ep_transfers.specs.Copies as spec
use Rattle.ep_transfers.specs.Places.{Places, at_side, moved_places, moved_spots}
use Rattle.ep_transfers.specs.Writes.{Item, write_now}
use Rattle.ep_transfer_writes.specs.Waiting.{item_view}
use Rattle.ep_transfer_pieces.specs.declared.puts.Put.{Put}
use Rattle.ep_transfer_pieces.specs.declared.sources.Sources.{Sources}
use Rattle.ep_transfer_pieces.specs.declared.walk.Piece.{Piece}
use Rattle.ep_transfer_pieces.specs.declared.walk.Piece.TheVariants.{Nothing, Whole, Byte}
use Rattle.ep_transfer_pieces.specs.Pieces.{piece_view, CanPut}
use Rattle.ep_transfer_pieces.specs.Puts.{after_put, after_puts, FitsPut, FitPuts, IsPut, alone_item, together_item}
use Rattle.ep_transfer_pieces.specs.Puts.{is_nothing, are_alike, Adds, AreSources}

module _ {N : Type 0} (D : Ops N) (joint : Bool) where
  one_more : (to : Places) (ps : List (Put N)) (p : Put N) (j : Known N)
      → after_puts D joint to (ps ++ p ∷ []) j ≡ after_put D joint to p (after_puts D joint to ps j)
  one_more to [] p j = refl
  one_more to (q ∷ ps) p j = one_more to ps p (after_put D joint to q j)

  fits_more : (d : Model) (n : ℕ) (ps : List (Put N)) (p : Put N) → FitPuts d n ps → FitsPut d n p
      → FitPuts d n (ps ++ p ∷ [])
  fits_more d n [] p h f = (f, tt)
  fits_more d n (q ∷ ps) p h f = (h.0, fits_more d n ps p h.1 f)

  put_is : (m : Mode) (o : ℕ) (w : Scalar) (i : Item N) (p : Put N) → IsPut m o w i p → (to : Places) (j : Known N)
      → after_put D joint to p j ≡ write_now D m joint w (moved_places o to) i j
  put_is m o w i p h to j =
      ap (λ x. write_now D x joint p.what (moved_places p.offset to) (item_view p.item) j) h.mode
      ∙ ap (λ x. write_now D m joint x (moved_places p.offset to) (item_view p.item) j) h.what
      ∙ ap (λ x. write_now D m joint w (moved_places x to) (item_view p.item) j) h.offset
      ∙ ap (λ x. write_now D m joint w (moved_places o to) x j) h.item

  -- what is written has no forms
  pub record FitsItem (w : Scalar) (i : Item N) : Type 0 where
    pub left : IsOfSort w i.pair.left.value
    pub right : IsOfSort w i.pair.right.value
    pub left_form : i.pair.left.form ≡ None
    pub right_form : i.pair.right.form ≡ None

  put_fits : (d : Model) (n : ℕ) (m : Mode) (o : ℕ) (w : Scalar) (i : Item N) (p : Put N) → IsPut m o w i p
      → FitsItem w i → o + size_of d w ≤ n → FitsPut d n p
  put_fits d n m o w i p h f r =
      let g : FitsItem p.what (item_view p.item)
      = subst (λ x. FitsItem x (item_view p.item)) (sym h.what) (subst (FitsItem w) (sym h.item) f) in
      record {
        left = g.left;
        right = g.right;
        left_form = g.left_form;
        right_form = g.right_form;
        room = subst (λ x. x + size_of d p.what ≤ n) (sym h.offset)
            (subst (λ x. o + size_of d x ≤ n) (sym h.what) r);
      }

  module _ (k : Known N) (from : Places) where
    abbrev CanAt : Side → ℕ → spec.Piece D → ℕ → Type 0
    CanAt s o c n = CanPut D k (cells_of s) (at_side from s) n o c

    -- ---- a side alone

    alone_fits : (s : Side) (o n : ℕ) (c : spec.Piece D) → CanAt s o c n
        → FitsItem (spec.scalar_of_piece D c)
        (alone_item D s (spec.sources_of D k (cells_of s) c (moved_spots o (at_side from s))))
    alone_fits left o n c h = record { left = h.sort; right = tt; left_form = refl; right_form = refl }
    alone_fits right o n c h = record { left = tt; right = h.sort; left_form = refl; right_form = refl }

    alone_is : (s : Side) (o : ℕ) (c : Piece) → is_nothing c ≡ false → (to : Places) (j : Known N)
        → write_now D (alone s) joint (spec.scalar_of_piece D (piece_view D c)) (moved_places o to)
        (alone_item D s (spec.sources_of D k (cells_of s) (piece_view D c) (moved_spots o (at_side from s)))) j
        ≡ spec.write_alone D joint k to from [] s o (piece_view D c) j
    alone_is s o Nothing e to j = absurd (let z : true ≡ false = e in cc)
    alone_is left o (Whole w) e to j = refl
    alone_is right o (Whole w) e to j = refl
    alone_is left o Byte e to j = refl
    alone_is right o Byte e to j = refl

    abbrev pub AddsAlone : (old new : List (Put N)) → Side → ℕ → spec.Piece D → Type 0
    AddsAlone old new s o c =
        Adds D joint k.model old new (λ to. spec.write_alone D joint k to from [] s o c) (CanAt s o c)

    pub none_added : (old : List (Put N)) (s : Side) (o : ℕ) (c : Piece) → is_nothing c ≡ true
        → AddsAlone old old s o (piece_view D c)
    none_added old s o Nothing e = record { plans = λ to j. refl; fits = λ n h f. f }
    none_added old s o (Whole w) e = absurd (let z : false ≡ true = e in cc)
    none_added old s o Byte e = absurd (let z : false ≡ true = e in cc)

    pub alone_added : (old : List (Put N)) (s : Side) (o : ℕ) (c : Piece) (p : Put N) → is_nothing c ≡ false
        → IsPut (alone s) o (spec.scalar_of_piece D (piece_view D c))
        (alone_item D s (spec.sources_of D k (cells_of s) (piece_view D c) (moved_spots o (at_side from s)))) p
        → AddsAlone old (old ++ p ∷ []) s o (piece_view D c)
    alone_added old s o c p e h =
        let w = spec.scalar_of_piece D (piece_view D c) in
        let i = alone_item D s (spec.sources_of D k (cells_of s) (piece_view D c) (moved_spots o (at_side from s))) in
        record {
          plans = λ to j. one_more to old p j ∙ put_is (alone s) o w i p h to (after_puts D joint to old j)
              ∙ alone_is s o c e to (after_puts D joint to old j);
          fits = λ n g f. fits_more k.model n old p f
              (put_fits k.model n (alone s) o w i p h (alone_fits s o n (piece_view D c) g) g.room);
        }

    -- ---- both sides together

    abbrev CanBoth : ℕ → spec.Piece D → spec.Piece D → ℕ → Type 0
    CanBoth o c e n = CanAt left o c n × CanAt right o e n

    -- what was read on both sides makes the item of both
    pub put_of_both : (o : ℕ) (c : Piece) (l r : Sources N) (p : Put N) → is_nothing c ≡ false
        → AreSources D k (cells_of left) c (moved_spots o from.left) l
        → AreSources D k (cells_of right) c (moved_spots o from.right) r
        → IsPut Both o (spec.scalar_of_piece D (piece_view D c))
        (spec.piece_item D joint l.reads.items r.reads.items (l.shared && r.shared)) p
        → IsPut Both o (spec.scalar_of_piece D (piece_view D c)) (together_item D joint k from o (piece_view D c)) p
    put_of_both o c l r p e f g h =
        subst
        (λ (i : Item N). IsPut Both o (spec.scalar_of_piece D (piece_view D c)) i p)
        (ap (λ xs. spec.piece_item D joint xs r.reads.items (l.shared && r.shared)) f.reads
        ∙ ap (λ xs. spec.piece_item D joint (spec.sources_on D joint k from from [] left o (piece_view D c)) xs
        (l.shared && r.shared)) g.reads
        ∙ ap (λ b. spec.piece_item D joint (spec.sources_on D joint k from from [] left o (piece_view D c))
        (spec.sources_on D joint k from from [] right o (piece_view D c)) (b && r.shared)) (f.shared e)
        ∙ ap (λ b. spec.piece_item D joint (spec.sources_on D joint k from from [] left o (piece_view D c))
        (spec.sources_on D joint k from from [] right o (piece_view D c))
        (spec.shared_on D joint k from from [] left o (piece_view D c) && b)) (g.shared e))
        h

    abbrev pub AddsTogether : (old new : List (Put N)) → ℕ → spec.Piece D → Type 0
    AddsTogether old new o c =
        Adds D joint k.model old new (λ to. spec.write_together D joint k to from [] o c) (CanBoth o c c)

    pub together_added : (old : List (Put N)) (o : ℕ) (c : spec.Piece D) (p : Put N)
        → IsPut Both o (spec.scalar_of_piece D c) (together_item D joint k from o c) p
        → AddsTogether old (old ++ p ∷ []) o c
    together_added old o c p h = record {
      plans = λ to j. one_more to old p j
          ∙ put_is Both o (spec.scalar_of_piece D c) (together_item D joint k from o c) p h to
          (after_puts D joint to old j);
      fits = λ n g f. fits_more k.model n old p f
          (put_fits k.model n Both o (spec.scalar_of_piece D c) (together_item D joint k from o c) p h
          (record { left = g.0.sort; right = g.1.sort; left_form = refl; right_form = refl }) g.0.room);
    }

    -- ---- the pieces of both sides

    abbrev pub AddsBoth : (old new : List (Put N)) → ℕ → spec.Piece D → spec.Piece D → Type 0
    AddsBoth old new o c e =
        Adds D joint k.model old new (λ to. spec.write_pieces D joint k to from [] o c e) (CanBoth o c e)

    together_is : (o : ℕ) (c e : Piece) → are_alike c e ≡ true → (to : Places) (j : Known N)
        → spec.write_together D joint k to from [] o (piece_view D c) j
        ≡ spec.write_pieces D joint k to from [] o (piece_view D c) (piece_view D e) j
    together_is o Nothing e h to j = absurd (let z : false ≡ true = h in cc)
    together_is o (Whole w) Nothing h to j = absurd (let z : false ≡ true = h in cc)
    together_is o (Whole w) (Whole v) h to j =
        sym (ap (λ t. cond t (spec.write_together D joint k to from [] o (spec.leaf w) j)
        (spec.write_apart D joint k to from [] o (spec.leaf w) (spec.leaf v) j)) h)
    together_is o (Whole w) Byte h to j = absurd (let z : false ≡ true = h in cc)
    together_is o Byte Nothing h to j = absurd (let z : false ≡ true = h in cc)
    together_is o Byte (Whole v) h to j = absurd (let z : false ≡ true = h in cc)
    together_is o Byte Byte h to j = refl

    apart_is : (o : ℕ) (c e : Piece) → are_alike c e ≡ false → (to : Places) (j : Known N)
        → spec.write_apart D joint k to from [] o (piece_view D c) (piece_view D e) j
        ≡ spec.write_pieces D joint k to from [] o (piece_view D c) (piece_view D e) j
    apart_is o Nothing e h to j = refl
    apart_is o (Whole w) Nothing h to j = refl
    apart_is o (Whole w) (Whole v) h to j =
        sym (ap (λ t. cond t (spec.write_together D joint k to from [] o (spec.leaf w) j)
        (spec.write_apart D joint k to from [] o (spec.leaf w) (spec.leaf v) j)) h)
    apart_is o (Whole w) Byte h to j = refl
    apart_is o Byte Nothing h to j = refl
    apart_is o Byte (Whole v) h to j = refl
    apart_is o Byte Byte h to j = absurd (let z : true ≡ false = h in cc)

    alike_same : (c e : Piece) → are_alike c e ≡ true → piece_view D e ≡ piece_view D c
    alike_same Nothing e h = absurd (let z : false ≡ true = h in cc)
    alike_same (Whole w) Nothing h = absurd (let z : false ≡ true = h in cc)
    alike_same (Whole w) (Whole v) h = ap (λ x. spec.leaf x) (sym (scalar_same w v h))
    alike_same (Whole w) Byte h = absurd (let z : false ≡ true = h in cc)
    alike_same Byte Nothing h = absurd (let z : false ≡ true = h in cc)
    alike_same Byte (Whole v) h = absurd (let z : false ≡ true = h in cc)
    alike_same Byte Byte h = refl

    pub alike_added : (old new : List (Put N)) (o : ℕ) (c e : Piece) → are_alike c e ≡ true
        → Adds D joint k.model old new (λ to. spec.write_together D joint k to from [] o (piece_view D c))
        (CanBoth o (piece_view D c) (piece_view D c)) → AddsBoth old new o (piece_view D c) (piece_view D e)
    alike_added old new o c e h a = record {
      plans = λ to j. a.plans to j ∙ together_is o c e h to (after_puts D joint to old j);
      fits = λ n g f. a.fits n (g.0, subst (λ x. CanAt right o x n) (alike_same c e h) g.1) f;
    }

    pub apart_added : (old mid new : List (Put N)) (o : ℕ) (c e : Piece) → are_alike c e ≡ false
        → AddsAlone old mid left o (piece_view D c) → AddsAlone mid new right o (piece_view D e)
        → AddsBoth old new o (piece_view D c) (piece_view D e)
    apart_added old mid new o c e h a b = record {
      plans = λ to j. b.plans to j
          ∙ ap (spec.write_alone D joint k to from [] right o (piece_view D e)) (a.plans to j)
          ∙ apart_is o c e h to (after_puts D joint to old j);
      fits = λ n g f. b.fits n g.1 (a.fits n g.0 f);
    }
