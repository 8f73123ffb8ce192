-- A walk over the offsets of an aggregate gives the pieces that a side has.
use Rattle.std.proofs.Common.{◌≡◌, ℕ, zero, suc, ◌+◌, ◌<◌, ◌≤◌, Bool, true, false, ◌&&◌, ◌||◌, nat_eq, nat_lt, nat_le}
use Rattle.ep_int.proofs.Basics.{size_positive as size_positive}
use Rattle.std.proofs.Common.{cond, if◌then◌else◌, List, [], ◌∷◌, Option, Some, None, drop, refl, sym, ap, ◌∙◌, subst}
use Rattle.std.proofs.Common.{arith}
use Rattle.std.proofs.lemmas.Bool.{eqb-true}
use Rattle.std.proofs.lemmas.Bool.Decides.{nat_tests}
use Rattle.std.specs.List.{list_all}
use Rattle.std.specs.Prelude.{is_some, map}
use Rattle.std.specs.Option.{option_map_or}
use Rattle.ep_int.specs.declared.types.Model.{Model}
use Rattle.ep_int.specs.declared.types.Scalar.{Scalar}
use Rattle.ep_int.specs.Types.{size_of}
use Rattle.ep_layout.specs.declared.types.Leaf.{Leaf}
use Rattle.ep_bitslice.specs.declared.cell.Side.{Side as CellSide}
use Rattle.ep_domain.specs.Domain.{Ops}
use Rattle.ep_cells.specs.Kill.{leaf_at, AreLeavesIn}
use Rattle.ep_cells.specs.States.{Known}
use Rattle.ep_cell_ranges.specs.Spots.{Spot}
use Rattle.ep_transfers.specs.Copies as spec
use Rattle.ep_transfers.specs.Places.{moved_spots}
use Rattle.ep_transfer_pieces.specs.declared.walk.Next.{Next}
use Rattle.ep_transfer_pieces.specs.declared.walk.Piece.TheVariants.{Nothing, Byte}
use Rattle.ep_transfer_pieces.specs.declared.walk.Walk.{Walk}
use Rattle.ep_transfer_pieces.specs.Pieces.{piece_view}
use Rattle.ep_transfer_pieces.specs.Walked.{first_leaf, all_exact, next_byte, next_leaf, next_by, next_piece}

-- ---- leaves in rising order

abbrev pub RiseFrom : Model → (least : ℕ) → List Leaf → Type 0
RiseFrom d e [] = Unit {0}
RiseFrom d e (l ∷ ls) = (e ≤ l.offset) × RiseFrom d (l.offset + size_of d l.what) ls

pub rise : (d : Model) (e n : ℕ) (ls : List Leaf) → AreLeavesIn d e n ls → RiseFrom d e ls
rise d e n [] h = tt
rise d e n (l ∷ ls) h = (h.0, rise d (l.offset + size_of d l.what) n ls h.1)

lower : (d : Model) (c e : ℕ) (ls : List Leaf) → c ≤ e → RiseFrom d e ls → RiseFrom d c ls
lower d c e [] h r = tt
lower d c e (l ∷ ls) h r = (omega (arith, h, r.0), r.1)

none_at : (d : Model) (e q : ℕ) (ls : List Leaf) → q < e → RiseFrom d e ls → leaf_at ls q ≡ None
none_at d e q [] h r = refl
none_at d e q (l ∷ ls) h r =
    let f : nat_eq l.offset q ≡ false = grind (arith, nat_tests, h, r.0) in
    rw f (none_at d (l.offset + size_of d l.what) q ls (omega (arith, h, r.0)) r.1)

drop_next : {A : Type 0} → (n : ℕ) (xs ys : List A) (x : A) → drop n xs ≡ x ∷ ys → drop (n + 1) xs ≡ ys
drop_next zero [] ys x h = absurd (let z : [] ≡ x ∷ ys = h in cc)
drop_next zero (y ∷ xs) ys x h = let z : y ∷ xs ≡ x ∷ ys = h in cc
drop_next (suc n) [] ys x h = absurd (let z : [] ≡ x ∷ ys = h in cc)
drop_next (suc n) (y ∷ xs) ys x h =
    let e : suc (n + 1) ≡ suc n + 1 = omega arith in
    subst (λ m. drop m (y ∷ xs) ≡ ys) e (drop_next n xs ys x h)

moved_all : {A B : Type 0} → (f : B → Bool) (g : A → B) (xs : List A)
    → list_all (λ x. f (g x)) xs ≡ list_all f (map g xs)
moved_all f g [] = refl
moved_all f g (x ∷ xs) = ap (λ b. f (g x) && b) (moved_all f g xs)

module _ {N : Type 0} (D : Ops N) (k : Known N) (s : CellSide) (ps : List Spot) where
  exact_is : (o : ℕ) (w : Scalar) → all_exact D k s w (moved_spots o ps) ≡ spec.are_exact D k s o w ps
  exact_is o w = sym (moved_all (λ (q : Spot). is_some (spec.exact_at D k s w q)) (λ (p : Spot). (p.0, p.1 + o)) ps)

  none_whole : (e q : ℕ) (ls : List Leaf) → q < e → RiseFrom k.model e ls → spec.is_in_whole D k s ps q ls ≡ false
  none_whole e q [] h r = refl
  none_whole e q (l ∷ ls) h r =
      let f : nat_le l.offset q ≡ false = grind (arith, nat_tests, h, r.0) in
      rw f (after (spec.has_leaf D k s ps l)
      (none_whole (l.offset + size_of k.model l.what) q ls (omega (arith, h, r.0)) r.1))
    where
      after : (t : Bool) {b : Bool} → b ≡ false → ((t && false) || b) ≡ false
      after true h = h
      after false h = h

  module _ (ls : List Leaf) where
    -- Offsets below this one are passed. These leaves haven't begun, and none that goes as a whole ends after the last
    -- number.
    pub record Passed (o until : ℕ) (rest : List Leaf) : Type 0 where
      pub leaf : (q : ℕ) → o ≤ q → leaf_at ls q ≡ leaf_at rest q
      pub whole : (q : ℕ) → o ≤ q
          → spec.is_in_whole D k s ps q ls ≡ (nat_lt q until || spec.is_in_whole D k s ps q rest)
      pub ahead : RiseFrom k.model o rest
      pub behind : RiseFrom k.model until rest

    abbrev pub IsAt : ℕ → Walk → Type 0
    IsAt o r = Passed o r.until (drop r.begun ls)

    none_below : (q : ℕ) → nat_lt q 0 ≡ false
    none_below q = grind (arith, nat_tests)

    pub at_first : (n : ℕ) (r : Walk) → r.begun ≡ 0 → r.until ≡ 0 → AreLeavesIn k.model 0 n ls → IsAt 0 r
    at_first n r eb eu h =
        subst (λ u. Passed 0 u (drop r.begun ls)) (sym eu)
        (subst (λ b. Passed 0 0 (drop b ls)) (sym eb)
        (record {
          leaf = λ q l. refl;
          whole = λ q l. sym (ap (λ t. t || spec.is_in_whole D k s ps q ls) (none_below q));
          ahead = rise k.model 0 n ls h;
          behind = rise k.model 0 n ls h;
        }))

    -- the piece, by what begins there and whether it lies inside of a leaf that goes as a whole
    abbrev piece_of : ℕ → Option Scalar → Bool → spec.Piece D
    piece_of o x t = spec.piece_by D (option_map_or (λ w. spec.are_exact D k s o w ps) x false) t x

    pub record Goes (o : ℕ) (r : Next) : Type 0 where
      pub piece : piece_view D r.piece ≡ spec.piece_at D k s ps ls o
      pub at : IsAt (o + 1) r.walk

    -- no leaf begins
    byte_is : (o : ℕ) (t : Bool) → piece_view D (if t then Nothing else Byte) ≡ piece_of o None (t || false)
    byte_is o true = refl
    byte_is o false = refl

    byte_goes : (o : ℕ) (r : Walk) → IsAt o r → RiseFrom k.model (suc o) (drop r.begun ls) → Goes o (next_byte r o)
    byte_goes o r i h =
        let rest = drop r.begun ls in
        let x : leaf_at ls o ≡ None = i.leaf o (omega arith) ∙ none_at k.model (suc o) o rest (omega arith) h in
        let t : spec.is_in_whole D k s ps o ls ≡ (nat_lt o r.until || false)
        = i.whole o (omega arith) ∙ ap (λ b. nat_lt o r.until || b) (none_whole (suc o) o rest (omega arith) h) in
        record {
          piece = byte_is o (nat_lt o r.until) ∙ ap (piece_of o None) (sym t)
              ∙ ap (λ y. piece_of o y (spec.is_in_whole D k s ps o ls)) (sym x);
          at = record {
            leaf = λ q l. i.leaf q (omega (arith, l));
            whole = λ q l. i.whole q (omega (arith, l));
            ahead = lower k.model (o + 1) (suc o) rest (omega arith) h;
            behind = i.behind;
          };
        }

    -- one begins
    abbrev leaf_of : ℕ → Scalar → Leaf
    leaf_of o w = record { offset = o; what = w }

    same_test : (o : ℕ) → nat_eq o o ≡ true
    same_test o = grind (arith, nat_tests)

    first_at : (o : ℕ) (w : Scalar) (more : List Leaf) → leaf_at (leaf_of o w ∷ more) o ≡ Some w
    first_at o w more = ap (λ t. cond t (Some w) (leaf_at more o)) (same_test o)

    later_at : (o q : ℕ) (w : Scalar) (more : List Leaf) → o + 1 ≤ q → leaf_at (leaf_of o w ∷ more) q ≡ leaf_at more q
    later_at o q w more l =
        let f : nat_eq o q ≡ false = grind (arith, nat_tests, l) in ap (λ t. cond t (Some w) (leaf_at more q)) f

    some_bytes : (d : Model) (w : Scalar) → 1 ≤ size_of d w
    some_bytes d w = size_positive d w

    -- inside of this one alone
    later_whole : (o q z : ℕ) (b : Bool) → o + 1 ≤ q → (nat_le o q && nat_lt q (o + z)) ≡ nat_lt q (o + z)
    later_whole o q z b l = let f : nat_le o q ≡ true = grind (arith, nat_tests, l) in ap (λ t. t && nat_lt q (o + z)) f

    passed_end : (o q u : ℕ) → o + 1 ≤ q → u ≤ o → nat_lt q u ≡ false
    passed_end o q u l h = grind (arith, nat_tests, l, h)

    at_end : (o u : ℕ) → u ≤ o → nat_lt o u ≡ false
    at_end o u h = grind (arith, nat_tests, h)

    module _ (o u : ℕ) (w : Scalar) (more : List Leaf) (i : Passed o u (leaf_of o w ∷ more)) where
      abbrev z : ℕ
      z = size_of k.model w

      whole_next : (t : Bool) → spec.are_exact D k s o w ps ≡ t → (q : ℕ) → o + 1 ≤ q
          → spec.is_in_whole D k s ps q ls ≡ ((t && nat_lt q (o + z)) || spec.is_in_whole D k s ps q more)
      whole_next t e q l =
          i.whole q (omega (arith, l))
          ∙ ap (λ b. b || spec.is_in_whole D k s ps q (leaf_of o w ∷ more)) (passed_end o q u l i.behind.0)
          ∙ ap (λ b. (b && (nat_le o q && nat_lt q (o + z))) || spec.is_in_whole D k s ps q more) e
          ∙ ap (λ b. (t && b) || spec.is_in_whole D k s ps q more) (later_whole o q z t l)

      leaf_next : (q : ℕ) → o + 1 ≤ q → leaf_at ls q ≡ leaf_at more q
      leaf_next q l = i.leaf q (omega (arith, l)) ∙ later_at o q w more l

      ahead_next : RiseFrom k.model (o + 1) more
      ahead_next = lower k.model (o + 1) (o + z) more (omega (arith, some_bytes k.model w)) i.ahead.1

      begins : leaf_at ls o ≡ Some w
      begins = i.leaf o (omega arith) ∙ first_at o w more

      leaf_goes : (t : Bool) → spec.are_exact D k s o w ps ≡ t → (b : ℕ) → drop (b + 1) ls ≡ more
          → Goes o (next_leaf t (record { begun = b; until = u }) o w z)
      leaf_goes true e b m = record {
        piece = sym (ap (λ y. piece_of o y (spec.is_in_whole D k s ps o ls)) begins
            ∙ ap (λ a. spec.piece_by D a (spec.is_in_whole D k s ps o ls) (Some w)) e);
        at = subst (Passed (o + 1) (o + z)) (sym m) (record {
          leaf = leaf_next;
          whole = whole_next true e;
          ahead = ahead_next;
          behind = i.ahead.1;
        });
      }
      leaf_goes false e b m = record {
        piece = sym (ap (λ y. piece_of o y (spec.is_in_whole D k s ps o ls)) begins
            ∙ ap (λ a. spec.piece_by D a (spec.is_in_whole D k s ps o ls) (Some w)) e
            ∙ ap (λ t. spec.piece_by D false t (Some w)) outside);
        at = subst (Passed (o + 1) u) (sym m) (record {
          leaf = leaf_next;
          whole = λ q l. whole_next false e q l
              ∙ sym (ap (λ t. t || spec.is_in_whole D k s ps q more) (passed_end o q u l i.behind.0));
          ahead = ahead_next;
          behind = lower k.model u (o + z) more (omega (arith, i.behind.0)) i.behind.1;
        });
      }
        where
          outside : spec.is_in_whole D k s ps o ls ≡ false
          outside =
              i.whole o (omega arith)
              ∙ ap (λ t. t || spec.is_in_whole D k s ps o (leaf_of o w ∷ more)) (at_end o u i.behind.0)
              ∙ ap (λ t. (t && (nat_le o o && nat_lt o (o + z))) || spec.is_in_whole D k s ps o more) e
              ∙ none_whole (o + z) o more (omega (arith, some_bytes k.model w)) i.ahead.1

    goes_from : (o : ℕ) (r : Walk) → IsAt o r → (rest : List Leaf) → drop r.begun ls ≡ rest
        → Goes o (next_by D k s ps r o (first_leaf rest o))
    goes_from o r i [] e = byte_goes o r i (subst (RiseFrom k.model (suc o)) (sym e) tt)
    goes_from o r i (l ∷ more) e = by_test (nat_eq l.offset o) refl
      where
        above : RiseFrom k.model o (l ∷ more)
        above = subst (RiseFrom k.model o) e i.ahead

        here : (q : ℕ) → q ≡ o → drop r.begun ls ≡ leaf_of q l.what ∷ more
            → Goes o (next_leaf (all_exact D k s l.what (moved_spots o ps)) r o l.what (size_of k.model l.what))
        here q f g =
            let d : drop r.begun ls ≡ leaf_of o l.what ∷ more = g ∙ ap (λ x. leaf_of x l.what ∷ more) f in
            leaf_goes o r.until l.what more (subst (Passed o r.until) d i)
            (all_exact D k s l.what (moved_spots o ps)) (sym (exact_is o l.what)) r.begun
            (drop_next r.begun ls more (leaf_of o l.what) d)

        by_test : (t : Bool) → nat_eq l.offset o ≡ t → Goes o (next_by D k s ps r o (cond t (Some l.what) None))
        by_test true f = here l.offset (eqb-true l.offset o f) e
        by_test false f =
            let g : suc o ≤ l.offset = grind (arith, nat_tests, f, above.0) in
            byte_goes o r i (subst (RiseFrom k.model (suc o)) (sym e) (g, above.1))

    pub goes : (o : ℕ) (r : Walk) → IsAt o r → Goes o (next_piece D k s ps ls r o)
    goes o r i = goes_from o r i (drop r.begun ls) refl
