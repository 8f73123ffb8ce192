-- The pieces of an aggregate in turn, and the writes of a list in turn.
use Rattle.std.proofs.Common.{◌≡◌, ℕ, ◌+◌, ◌-◌, ◌<◌, ◌≤◌, Bool, false, List, [], ◌∷◌, refl, sym, ap, ◌∙◌, subst}
use Rattle.ep_transfer_writes.proofs.Copying.{next_less}
use Rattle.ep_int.proofs.Basics.{minus-zero}
use Rattle.std.proofs.Common.{arith}
use Rattle.ep_int.specs.declared.types.Model.{Model}
use Rattle.ep_layout.specs.declared.types.Leaf.{Leaf}
use Rattle.ep_domain.specs.Domain.{Ops}
use Rattle.ep_cells.specs.Kill.{AreLeavesIn}
use Rattle.ep_cells.specs.States.{Known, AreCells}
use Rattle.ep_core.specs.Runs.{Side, left, right}
use Rattle.ep_equalities.specs.declared.pair.Mode.{Mode}
use Rattle.ep_equalities.specs.declared.pair.Mode.TheVariants.{Both}
use Rattle.ep_evaluation.specs.Given.{alone, cells_of}
use Rattle.ep_reads.specs.Laws.{ReadLaws}
use Rattle.ep_transfers.specs.Copies as spec
use Rattle.ep_transfers.specs.Places.{Places, at_side}
use Rattle.ep_transfer_pieces.specs.declared.puts.Put.{Put}
use Rattle.ep_transfer_pieces.specs.declared.walk.Next.{Next}
use Rattle.ep_transfer_pieces.specs.declared.walk.Walk.{Walk}
use Rattle.ep_transfer_pieces.specs.Pieces.{piece_view, CanPut}
use Rattle.ep_transfer_pieces.specs.Puts.{after_put, after_puts, FitPuts}
use Rattle.ep_transfer_pieces.specs.Walked.{next_piece}
use Rattle.ep_transfer_pieces.proofs.Planning.{AddsAlone, AddsBoth}
use Rattle.ep_transfer_pieces.proofs.Sorts.{can_put}
use Rattle.ep_transfer_pieces.proofs.Walking.{IsAt, Goes, goes}

none_left : (n i : ℕ) → n ≤ i → n - i ≡ 0
none_left n i h = omega (arith, h)

-- ---- writes of a list in turn

pub none_fit : {N : Type 0} → (d : Model) (n : ℕ) (ps : List (Put N)) → ps ≡ [] → FitPuts d n ps
none_fit d n ps e = subst (FitPuts d n) (sym e) tt

pub fit_parts : {N : Type 0} → (d : Model) (n : ℕ) (ps qs : List (Put N)) (p : Put N) → ps ≡ p ∷ qs → FitPuts d n ps
    → FitPuts d n (p ∷ qs)
fit_parts d n ps qs p e h = subst (FitPuts d n) e h

pub put_next : {N : Type 0} → (D : Ops N) (joint : Bool) (to : Places) (ps qs : List (Put N)) (p : Put N)
    (j next last : Known N) → ps ≡ p ∷ qs → next ≡ after_put D joint to p j → after_puts D joint to ps j ≡ last
    → after_puts D joint to qs next ≡ last
put_next D joint to ps qs p j next last e f h =
    ap (after_puts D joint to qs) f ∙ sym (ap (λ xs. after_puts D joint to xs j) e) ∙ h

pub put_last : {N : Type 0} → (D : Ops N) (joint : Bool) (to : Places) (ps : List (Put N)) (j last : Known N)
    → ps ≡ [] → after_puts D joint to ps j ≡ last → j ≡ last
put_last D joint to ps j last e h = sym (ap (λ xs. after_puts D joint to xs j) e) ∙ h

-- ---- pieces in turn

module _ {N : Type 0} (D : Ops N) (k : Known N) (from : Places) (ls : List Leaf) where
  -- What the writes so far have left, and the pieces still to come.
  abbrev pub IsPlan : Bool → Mode → (n o : ℕ) → List (Put N) → Type 0
  IsPlan joint m n o ps =
      (to : Places) (j : Known N) → spec.pieces_from D joint k to from ls m o (n - o) (after_puts D joint to ps j)
      ≡ spec.pieces_from D joint k to from ls m 0 n j

  plan_next : (joint : Bool) (m : Mode) (n o : ℕ) (ps qs : List (Put N)) → o < n → IsPlan joint m n o ps
      → ((to : Places) (j : Known N) → after_puts D joint to qs j
      ≡ spec.pieces_at D joint k to from ls m o (after_puts D joint to ps j)) → IsPlan joint m n (o + 1) qs
  plan_next joint m n o ps qs h p e = λ to j.
      ap (spec.pieces_from D joint k to from ls m (o + 1) (n - (o + 1))) (e to j)
      ∙ sym (ap (λ c. spec.pieces_from D joint k to from ls m o c (after_puts D joint to ps j)) (next_less n o h))
      ∙ p to j

  pub plan_first : (joint : Bool) (m : Mode) (n : ℕ) (ps : List (Put N)) → ps ≡ [] → IsPlan joint m n 0 ps
  plan_first joint m n ps e = λ to j.
      ap (λ c. spec.pieces_from D joint k to from ls m 0 c (after_puts D joint to ps j)) (minus-zero n)
      ∙ ap (λ qs. spec.pieces_from D joint k to from ls m 0 n (after_puts D joint to qs j)) e

  pub plan_last : (joint : Bool) (m : Mode) (n o : ℕ) (ps : List (Put N)) → n ≤ o → IsPlan joint m n o ps
      → (to : Places) (j : Known N) → after_puts D joint to ps j ≡ spec.pieces_from D joint k to from ls m 0 n j
  plan_last joint m n o ps h p = λ to j.
      sym (ap (λ c. spec.pieces_from D joint k to from ls m o c (after_puts D joint to ps j)) (none_left n o h))
      ∙ p to j

  -- ---- the leaves have a part only in which pieces there are

  any_alone : (joint : Bool) (to : Places) (s : Side) (o : ℕ) (c : spec.Piece D) (j : Known N)
      → spec.write_alone D joint k to from [] s o c j ≡ spec.write_alone D joint k to from ls s o c j
  any_alone joint to s o spec.none j = refl
  any_alone joint to left o (spec.leaf w) j = refl
  any_alone joint to right o (spec.leaf w) j = refl
  any_alone joint to left o spec.byte j = refl
  any_alone joint to right o spec.byte j = refl

  any_pieces : (joint : Bool) (to : Places) (o : ℕ) (c e : spec.Piece D) (j : Known N)
      → spec.write_pieces D joint k to from [] o c e j ≡ spec.write_pieces D joint k to from ls o c e j
  any_pieces joint to o spec.none e j = any_alone joint to right o e j
  any_pieces joint to o (spec.leaf w) (spec.leaf v) j = refl
  any_pieces joint to o (spec.leaf w) spec.byte j = refl
  any_pieces joint to o (spec.leaf w) spec.none j = refl
  any_pieces joint to o spec.byte spec.byte j = refl
  any_pieces joint to o spec.byte (spec.leaf v) j = refl
  any_pieces joint to o spec.byte spec.none j = refl

  alone_at : (joint : Bool) (to : Places) (s : Side) (o : ℕ) (j : Known N)
      → spec.write_alone D joint k to from ls s o (spec.piece_on D joint k to from ls s o) j
      ≡ spec.pieces_at D joint k to from ls (alone s) o j
  alone_at joint to left o j = refl
  alone_at joint to right o j = refl

  module _ (reads : ReadLaws D) (cells : AreCells k.model k.cells) (n o : ℕ) (leaves : AreLeavesIn k.model 0 n ls)
      (inside : o < n) where
    abbrev here : Side → spec.Piece D
    here s = spec.piece_at D k (cells_of s) (at_side from s) ls o

    can_here : (s : Side) → CanPut D k (cells_of s) (at_side from s) n o (here s)
    can_here s = can_put D k (cells_of s) cells reads (at_side from s) ls n o leaves inside

    -- ---- a side alone

    pub record AloneNext (s : Side) (r : Walk) (ps : List (Put N)) : Type 0 where
      pub plan : (joint : Bool) → IsPlan joint (alone s) n (o + 1) ps
      pub fits : FitPuts k.model n ps
      pub at : IsAt D k (cells_of s) (at_side from s) ls (o + 1) r

    pub alone_next : (s : Side) (r : Walk) (x : Next) (ps qs : List (Put N))
        → x ≡ next_piece D k (cells_of s) (at_side from s) ls r o → IsAt D k (cells_of s) (at_side from s) ls o r
        → ((joint : Bool) → IsPlan joint (alone s) n o ps) → FitPuts k.model n ps
        → ((joint : Bool) → AddsAlone D joint k from ps qs s o (piece_view D x.piece)) → AloneNext s x.walk qs
    alone_next s r x ps qs e at plan fits added =
        let g : Goes D k (cells_of s) (at_side from s) ls o x
        = subst (Goes D k (cells_of s) (at_side from s) ls o) (sym e) (goes D k (cells_of s) (at_side from s) ls o r at)
        in
        let a : (joint : Bool) → AddsAlone D joint k from ps qs s o (here s)
        = λ joint. subst (AddsAlone D joint k from ps qs s o) g.piece (added joint) in
        record {
          plan = λ joint. plan_next joint (alone s) n o ps qs inside (plan joint)
              (λ to j. (a joint).plans to j ∙ any_alone joint to s o (here s) (after_puts D joint to ps j)
              ∙ alone_at joint to s o (after_puts D joint to ps j));
          fits = (a false).fits n (can_here s) fits;
          at = g.at;
        }

    -- ---- both sides

    pub record BothNext (joint : Bool) (r s : Walk) (ps : List (Put N)) : Type 0 where
      pub plan : IsPlan joint Both n (o + 1) ps
      pub fits : FitPuts k.model n ps
      pub left_at : IsAt D k (cells_of left) from.left ls (o + 1) r
      pub right_at : IsAt D k (cells_of right) from.right ls (o + 1) s

    pub both_next : (joint : Bool) (r s : Walk) (x y : Next) (ps qs : List (Put N))
        → x ≡ next_piece D k (cells_of left) from.left ls r o → y ≡ next_piece D k (cells_of right) from.right ls s o
        → IsAt D k (cells_of left) from.left ls o r → IsAt D k (cells_of right) from.right ls o s
        → IsPlan joint Both n o ps → FitPuts k.model n ps
        → AddsBoth D joint k from ps qs o (piece_view D x.piece) (piece_view D y.piece)
        → BothNext joint x.walk y.walk qs
    both_next joint r s x y ps qs e f at_r at_s plan fits added =
        let g : Goes D k (cells_of left) from.left ls o x
        = subst (Goes D k (cells_of left) from.left ls o) (sym e) (goes D k (cells_of left) from.left ls o r at_r) in
        let h : Goes D k (cells_of right) from.right ls o y
        = subst (Goes D k (cells_of right) from.right ls o) (sym f)
        (goes D k (cells_of right) from.right ls o s at_s) in
        let a : AddsBoth D joint k from ps qs o (here left) (here right)
        = subst (λ c. AddsBoth D joint k from ps qs o c (here right)) g.piece
        (subst (AddsBoth D joint k from ps qs o (piece_view D x.piece)) h.piece added) in
        record {
          plan = plan_next joint Both n o ps qs inside plan
              (λ to j. a.plans to j ∙ any_pieces joint to o (here left) (here right) (after_puts D joint to ps j));
          fits = a.fits n (can_here left, can_here right) fits;
          left_at = g.at;
          right_at = h.at;
        }
