-- Places next to one another as one.
use Rattle.std.proofs.Common.{◌≡◌, ℕ, ◌+◌, ◌≤◌, true, false, ◌&&◌, ◌||◌, not}
use Rattle.std.proofs.Common.{nat_eq, nat_lt, List, [], ◌∷◌, ◌++◌, drop, length, Option, refl, sym, ◌∙◌, ap}
use Rattle.std.proofs.lemmas.Bool.{and_parts, and_from, eqb-true}
use Rattle.std.proofs.lemmas.Bool.{eq-eqb}
use Rattle.std.proofs.lemmas.List.{drop_all}
use Rattle.std.proofs.lemmas.List.Folds.{list_any-append}
use Rattle.ep_int.proofs.Basics.{or-false, or-assoc, size_positive}
use Rattle.ep_int.specs.declared.types.Model.{Model}
use Rattle.ep_int.specs.declared.types.Scalar.{Scalar}
use Rattle.ep_bitslice.specs.declared.cell.Side.{Side}
use Rattle.ep_bitslice.specs.declared.cell.Side.TheVariants.{Left, Right, Shared}
use Rattle.ep_cells.specs.declared.cell.Cell.{Cell}
use Rattle.ep_cells.specs.declared.place.ByteRange.{ByteRange}
use Rattle.ep_cells.specs.Cells.{place_of, touches, meets, is_same_side}
use Rattle.ep_reads.specs.Single.{Spots, shared_at, facing, either}
use Rattle.ep_reads.proofs.Members.{bool_same}
use Rattle.ep_state_looks.specs.Looks.{met_by}
use Rattle.ep_state_steps.specs.Met.{met_by_any, with_last, is_touched, AreOne, IsOneMore}
use Rattle.ep_state_steps.proofs.Loops.{faces_at}

-- ---- several

pub one_more : (ps : List ByteRange) (p : ByteRange) → IsOneMore ps p (ps ++ p ∷ [])
one_more ps p = λ r pos.
    list_any-append (λ (x : ByteRange). touches x r) ps (p ∷ [])
    ∙ ap (λ b. is_touched ps r || b) (or-false (touches p r))

pub last_grown : (ps : List ByteRange) (q p u : ByteRange) → AreOne q p u → IsOneMore (ps ++ q ∷ []) p (ps ++ u ∷ [])
last_grown ps q p u h = λ r pos.
    one_more ps u r pos
    ∙ ap (λ b. is_touched ps r || b) (h r pos)
    ∙ sym (or-assoc (is_touched ps r) (touches q r) (touches p r))
    ∙ ap (λ b. b || touches p r) (sym (one_more ps q r pos))

-- ---- cells

touched_both : (p r : ByteRange) → touches r p ≡ touches p r
touched_both p r =
    bool_same (touches r p) (touches p r) (λ h. touched_back r p h) (λ h. touched_back p r h)
  where
    touched_back : (s t : ByteRange) → touches s t ≡ true → touches t s ≡ true
    touched_back s t h =
        let e = and_parts (nat_eq s.block t.block) (nat_lt s.offset (t.offset + t.bytes) && nat_lt t.offset (s.offset +
        s.bytes)) h in
        let o = and_parts (nat_lt s.offset (t.offset + t.bytes)) (nat_lt t.offset (s.offset + s.bytes)) e.1 in
        and_from (nat_eq t.block s.block) (nat_lt t.offset (s.offset + s.bytes) && nat_lt s.offset (t.offset + t.bytes))
        (eq-eqb t.block s.block (sym (eqb-true s.block t.block e.0)))
        (and_from (nat_lt t.offset (s.offset + s.bytes)) (nat_lt s.offset (t.offset + t.bytes)) o.1 o.0)

-- a Shared cell faces nothing, and one of one side all that its place touches
faces_shared : {N : Type 0} (d : Model) (y : Cell N) (b q : ℕ) (w : Scalar) → is_same_side y.side Shared ≡ true
    → facing d (y ∷ []) b q w ≡ false
faces_shared d y b q w h =
    or-false (faces_at d b q w y) ∙ ap (λ t. not t && meets (shared_at d b q w) (place_of d y)) h

faces_place : {N : Type 0} (d : Model) (y : Cell N) (b q : ℕ) (w : Scalar) → is_same_side y.side Shared ≡ false
    → facing d (y ∷ []) b q w ≡ met_by d (place_of d y) b q w
faces_place {N = N} d y b q w h =
    or-false (faces_at d b q w y)
    ∙ ap (λ t. not t && meets (shared_at d b q w) (place_of d y)) h
    ∙ by y.side h
    ∙ touched_both (place_of d y) (shared_at d b q w)
  where
    by : (s : Side) → is_same_side s Shared ≡ false
        → meets (shared_at d b q w) (record (place_of d y) { side = s }) ≡ touches (shared_at d b q w) (place_of d y)
    by Left e = refl
    by Right e = refl
    by Shared e = absurd (let f : true ≡ false = e in cc)

pub shared_skipped : {N : Type 0} (d : Model) (y : Cell N) (ps : List ByteRange) (o : Option ByteRange)
    → is_same_side y.side Shared ≡ true
    → met_by_any d (with_last ps o) ≡ either (met_by_any d (with_last ps o)) (facing d (y ∷ []))
shared_skipped d y ps o h = λ m b q w. sym (by b q w) m
  where
    by : (b q : ℕ) (w : Scalar) → (met_by_any d (with_last ps o) b q w || facing d (y ∷ []) b q w)
        ≡ met_by_any d (with_last ps o) b q w
    by b q w =
        ap (λ t. met_by_any d (with_last ps o) b q w || t) (faces_shared d y b q w h)
        ∙ or-false (met_by_any d (with_last ps o) b q w)

pub place_added : {N : Type 0} (d : Model) (y : Cell N) (p : ByteRange) (ps qs : List ByteRange)
    → is_same_side y.side Shared ≡ false → p ≡ place_of d y → IsOneMore ps p qs
    → met_by_any d qs ≡ either (met_by_any d ps) (facing d (y ∷ []))
place_added d y p ps qs h e more = λ m b q w. by b q w m
  where
    by : (b q : ℕ) (w : Scalar) → met_by_any d qs b q w ≡ (met_by_any d ps b q w || facing d (y ∷ []) b q w)
    by b q w =
        more (shared_at d b q w) (size_positive d w)
        ∙ ap (λ t. met_by_any d ps b q w || t)
        (ap (λ z. met_by d z b q w) e ∙ sym (faces_place d y b q w h))

-- ---- one cell after the other

-- what is met so far, and what is still to be
abbrev pub all_met : {N : Type 0} → Model → List ByteRange → Option ByteRange → List (Cell N) → Spots
all_met d ps o ys = either (met_by_any d (with_last ps o)) (facing d ys)

either_more : {N : Type 0} (d : Model) (P : Spots) (y : Cell N) (ys : List (Cell N))
    → either (either P (facing d (y ∷ []))) (facing d ys) ≡ either P (facing d (y ∷ ys))
either_more d P y ys = λ m b q w. by b q w m
  where
    by : (b q : ℕ) (w : Scalar)
        → ((P b q w || facing d (y ∷ []) b q w) || facing d ys b q w) ≡ (P b q w || facing d (y ∷ ys) b q w)
    by b q w =
        or-assoc (P b q w) (facing d (y ∷ []) b q w) (facing d ys b q w)
        ∙ ap (λ t. P b q w || (t || facing d ys b q w)) (or-false (faces_at d b q w y))

either_none : (N : Type 0) (d : Model) (P : Spots) → either P (facing {N = N} d []) ≡ P
either_none N d P = λ m b q w. or-false (P b q w) m

pub met_more : {N : Type 0} (d : Model) (y : Cell N) (ys : List (Cell N)) (i : ℕ) (ps qs : List ByteRange)
    (o u : Option ByteRange) → drop i ys ≡ y ∷ drop (i + 1) ys
    → met_by_any d (with_last qs u) ≡ either (met_by_any d (with_last ps o)) (facing d (y ∷ []))
    → all_met d ps o (drop i ys) ≡ facing d ys → all_met d qs u (drop (i + 1) ys) ≡ facing d ys
met_more d y ys i ps qs o u e f h =
    ap (λ P. either P (facing d (drop (i + 1) ys))) f
    ∙ either_more d (met_by_any d (with_last ps o)) y (drop (i + 1) ys)
    ∙ ap (λ l. all_met d ps o l) (sym e)
    ∙ h

pub met_ends : {N : Type 0} (d : Model) (ys : List (Cell N)) (i : ℕ) (ps all : List ByteRange) (o : Option ByteRange)
    → length ys ≤ i → all ≡ with_last ps o → all_met d ps o (drop i ys) ≡ facing d ys
    → met_by_any d all ≡ facing d ys
met_ends {N = N} d ys i ps all o l e h =
    ap (met_by_any d) e
    ∙ sym (either_none N d (met_by_any d (with_last ps o)))
    ∙ ap (λ q. all_met d ps o q) (sym (drop_all i ys l))
    ∙ h
