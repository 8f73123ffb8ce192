-- What a look at each place finds, one place after the other.
use Rattle.std.proofs.Common.{◌≡◌, Bool, true, false, ◌&&◌, List, [], ◌∷◌, ◌++◌, append_assoc, append-nil, Option}
use Rattle.std.proofs.Common.{Some, None, is_some, refl, sym, ap, ◌∙◌, subst}
use Rattle.std.specs.Option.{option_map_or}
use Rattle.ep_int.specs.declared.types.Scalar.{Scalar}
use Rattle.ep_int.specs.declared.types.Scalar.TheVariants.{Int}
use Rattle.ep_int.specs.declared.types.IntType.TheVariants.{U8}
use Rattle.ep_int.proofs.Basics.{and-true}
use Rattle.ep_bitslice.specs.declared.cell.Side.{Side as CellSide}
use Rattle.ep_domain.specs.Domain.{Ops}
use Rattle.ep_cells.specs.declared.cell.Cell.{Cell}
use Rattle.ep_cells.specs.Look.{cell_at}
use Rattle.ep_cells.specs.States.{Known}
use Rattle.ep_cells.proofs.Both.{scalar_same}
use Rattle.ep_cell_ranges.specs.Spots.{Spot}
use Rattle.ep_reads.specs.declared.read.ReadValue.{ReadValue}
use Rattle.ep_transfers.specs.Copies as spec
use Rattle.ep_transfer_pieces.specs.declared.sources.Sources.{Sources}
use Rattle.ep_transfer_pieces.specs.declared.walk.Next.{Next}
use Rattle.ep_transfer_pieces.specs.declared.walk.Piece.{Piece}
use Rattle.ep_transfer_pieces.specs.declared.walk.Piece.TheVariants.{Nothing, Whole, Byte}
use Rattle.ep_transfer_pieces.specs.Puts.{is_nothing, are_alike, AreSources}
use Rattle.ep_transfer_pieces.specs.Walked.{all_exact}

added : {X : Type 0} (xs rest all new : List X) (x : X) → new ≡ xs ++ x ∷ [] → xs ++ x ∷ rest ≡ all
    → new ++ rest ≡ all
added xs rest all new x e h = ap (λ ys. ys ++ rest) e ∙ append_assoc xs (x ∷ []) rest ∙ h

tested : (b m r a t : Bool) → t ≡ (b && m) → (b && (m && r)) ≡ a → (t && r) ≡ a
tested true m r a t e h = ap (λ x. x && r) e ∙ h
tested false m r a t e h = ap (λ x. x && r) e ∙ h

module _ {N : Type 0} (D : Ops N) (k : Known N) (s : CellSide) where
  abbrev here : Spot → Option (Cell N)
  here q = cell_at k.model s q.0 q.1 k.cells

  module _ (w : Scalar) (all : List Spot) where
    -- ---- a leaf

    -- Of these places the last ones are left, each one before has a cell of the type, and this was read there.
    pub record WholeLeft (rest : List Spot) (rs : List (ReadValue N)) (b : Bool) : Type 0 where
      pub exact : all_exact D k s w rest ≡ all_exact D k s w all
      pub reads : rs ++ spec.leaf_sources D k s w rest ≡ spec.leaf_sources D k s w all
      pub shared : (b && spec.are_shared_whole D k s w rest) ≡ spec.are_shared_whole D k s w all

    pub whole_first : (rs : List (ReadValue N)) → rs ≡ [] → WholeLeft all rs true
    whole_first rs e = record {
      exact = refl;
      reads = ap (λ ys. ys ++ spec.leaf_sources D k s w all) e;
      shared = refl;
    }

    module _ (xs rest : List Spot) (q : Spot) (x : Option (Cell N)) (e : xs ≡ q ∷ rest) (there : x ≡ here q)
        (rs : List (ReadValue N)) (b : Bool) (h : WholeLeft xs rs b) where
      exact_is : (y : Option (Cell N)) → y ≡ spec.exact_cell D w q.1 x → spec.exact_at D k s w q ≡ y
      exact_is y f = ap (spec.exact_cell D w q.1) (sym there) ∙ sym f

      pub whole_none : None ≡ spec.exact_cell D w q.1 x → false ≡ all_exact D k s w all
      whole_none f =
          sym (ap (λ o. is_some o && all_exact D k s w rest) (exact_is None f)) ∙ sym (ap (all_exact D k s w) e)
          ∙ h.exact

      pub whole_next : (c : Cell N) (r : ReadValue N) (new : List (ReadValue N)) (m t : Bool)
          → Some c ≡ spec.exact_cell D w q.1 x → r ≡ spec.whole_source D c → m ≡ spec.is_shared_whole D k w q x
          → t ≡ (b && m) → new ≡ rs ++ r ∷ [] → WholeLeft rest new t
      whole_next c r new m t f made sh u v =
          let g : spec.exact_at D k s w q ≡ Some c = exact_is (Some c) f in
          let i : r ≡ option_map_or (spec.whole_source D) (spec.exact_at D k s w q) (spec.fragment_source D)
          = made ∙ sym (ap (λ o. option_map_or (spec.whole_source D) o (spec.fragment_source D)) g) in
          record {
            exact = sym (ap (λ o. is_some o && all_exact D k s w rest) g) ∙ sym (ap (all_exact D k s w) e)
                ∙ h.exact;
            reads = added rs (spec.leaf_sources D k s w rest) (spec.leaf_sources D k s w all) new r v
                (ap (λ y. rs ++ y ∷ spec.leaf_sources D k s w rest) i
                ∙ ap (λ ys. rs ++ spec.leaf_sources D k s w ys) (sym e) ∙ h.reads);
            shared = tested b m (spec.are_shared_whole D k s w rest) (spec.are_shared_whole D k s w all) t u
                (ap (λ y. b && (y && spec.are_shared_whole D k s w rest))
                (sh ∙ ap (spec.is_shared_whole D k w q) there)
                ∙ ap (λ ys. b && spec.are_shared_whole D k s w ys) (sym e) ∙ h.shared);
          }

    module _ (rest : List Spot) (rs : List (ReadValue N)) (b : Bool) (e : rest ≡ []) (h : WholeLeft rest rs b) where
      pub whole_all : true ≡ all_exact D k s w all
      whole_all = sym (ap (all_exact D k s w) e) ∙ h.exact

      pub whole_found : (r : Sources N) → r.reads.items ≡ rs → r.shared ≡ b → AreSources D k s (Whole w) all r
      whole_found r f g = record {
        reads = f ∙ sym (append-nil rs) ∙ ap (λ ys. rs ++ spec.leaf_sources D k s w ys) (sym e) ∙ h.reads;
        shared = λ _. g ∙ sym (and-true b) ∙ ap (λ ys. b && spec.are_shared_whole D k s w ys) (sym e) ∙ h.shared;
      }

  -- ---- a byte

  module _ (all : List Spot) where
    pub record ByteLeft (rest : List Spot) (rs : List (ReadValue N)) (b : Bool) : Type 0 where
      pub reads : rs ++ spec.byte_sources D k s rest ≡ spec.byte_sources D k s all
      pub shared : (b && spec.are_shared_whole D k s (Int U8) rest) ≡ spec.are_shared_whole D k s (Int U8) all

    pub byte_first : (rs : List (ReadValue N)) → rs ≡ [] → ByteLeft all rs true
    byte_first rs e = record { reads = ap (λ ys. ys ++ spec.byte_sources D k s all) e; shared = refl }

    pub byte_next : (xs rest : List Spot) (q : Spot) (x : Option (Cell N)) → xs ≡ q ∷ rest → x ≡ here q
        → (rs : List (ReadValue N)) (b : Bool) → ByteLeft xs rs b → (r : ReadValue N) (new : List (ReadValue N))
        (m t : Bool) → r ≡ spec.byte_source D k s q x → m ≡ spec.is_shared_whole D k (Int U8) q x → t ≡ (b && m)
        → new ≡ rs ++ r ∷ [] → ByteLeft rest new t
    byte_next xs rest q x e there rs b h r new m t made sh u v = record {
      reads = added rs (spec.byte_sources D k s rest) (spec.byte_sources D k s all) new r v
          (ap (λ y. rs ++ y ∷ spec.byte_sources D k s rest) (made ∙ ap (spec.byte_source D k s q) there)
          ∙ ap (λ ys. rs ++ spec.byte_sources D k s ys) (sym e) ∙ h.reads);
      shared = tested b m (spec.are_shared_whole D k s (Int U8) rest) (spec.are_shared_whole D k s (Int U8) all) t u
          (ap (λ y. b && (y && spec.are_shared_whole D k s (Int U8) rest))
          (sh ∙ ap (spec.is_shared_whole D k (Int U8) q) there)
          ∙ ap (λ ys. b && spec.are_shared_whole D k s (Int U8) ys) (sym e) ∙ h.shared);
    }

    pub byte_found : (rest : List Spot) (rs : List (ReadValue N)) (b : Bool) → rest ≡ [] → ByteLeft rest rs b
        → (r : Sources N) → r.reads.items ≡ rs → r.shared ≡ b → AreSources D k s Byte all r
    byte_found rest rs b e h r f g = record {
      reads = f ∙ sym (append-nil rs) ∙ ap (λ ys. rs ++ spec.byte_sources D k s ys) (sym e) ∙ h.reads;
      shared = λ _. g ∙ sym (and-true b) ∙ ap (λ ys. b && spec.are_shared_whole D k s (Int U8) ys) (sym e)
          ∙ h.shared;
    }

  -- ---- pieces

  pub nothing_found : (qs : List Spot) (r : Sources N) → r.reads.items ≡ [] → AreSources D k s Nothing qs r
  nothing_found qs r e = record { reads = e; shared = λ h. absurd (let z : true ≡ false = h in cc) }

  pub of_next : (x y : Next) (qs ps : List Spot) (r : Sources N) → x ≡ y → qs ≡ ps → AreSources D k s y.piece qs r
      → AreSources D k s x.piece ps r
  of_next x y qs ps r e f h =
      subst (λ z. AreSources D k s z.piece ps r) (sym e) (subst (λ z. AreSources D k s y.piece z r) f h)

pub alike_is : (c e : Piece) → are_alike c e ≡ true → c ≡ e
alike_is Nothing e h = absurd (let z : false ≡ true = h in cc)
alike_is (Whole w) Nothing h = absurd (let z : false ≡ true = h in cc)
alike_is (Whole w) (Whole v) h = ap (λ x. Whole x) (scalar_same w v h)
alike_is (Whole w) Byte h = absurd (let z : false ≡ true = h in cc)
alike_is Byte Nothing h = absurd (let z : false ≡ true = h in cc)
alike_is Byte (Whole v) h = absurd (let z : false ≡ true = h in cc)
alike_is Byte Byte h = refl

pub alike_some : (c e : Piece) → are_alike c e ≡ true → is_nothing c ≡ false
alike_some Nothing e h = absurd (let z : false ≡ true = h in cc)
alike_some (Whole w) e h = refl
alike_some Byte e h = refl
