-- A value at the start of a block that holds its scalar is inside the block, and aligned.
use Rattle.std.proofs.Common.{◌≡◌, ℕ, zero, suc, ◌+◌, pos, ◌+ℤ◌, true, false, ◌&&◌, ◌||◌, not, nat_eq, int_lt}
use Rattle.ep_int.proofs.Basics.{and-false}
use Rattle.std.proofs.Common.{List, [], ◌∷◌, length, map, slice_get, Option, Some, None, option_map, option_and_then}
use Rattle.std.proofs.Common.{refl, sym, ap, ◌∙◌, subst, arith}
use Rattle.std.specs.List.{list_all}
use Rattle.std.proofs.Math.Nat.{zero-mod}
use Rattle.std.proofs.lemmas.Int.{ints}
use Rattle.std.proofs.lemmas.Bool.{and_parts, eqb-true, false_from_ne_true, ltb-true}
use Rattle.ep_int.specs.declared.types.Scalar.{Scalar}
use Rattle.ep_int.specs.declared.types.Scalar.TheVariants.{Int, Pointer}
use Rattle.ep_int.specs.Arith.{IsOfSomeType}
use Rattle.ep_int.specs.Types.{size_of, residue}
use Rattle.ep_layout.specs.declared.types.Ty.{Ty}
use Rattle.ep_layout.specs.declared.types.Ty.TheVariants as ty
use Rattle.ep_layout.specs.Layout.{Layout, scalar_layout}
use Rattle.ep_layout.specs.Table.{Table, at_type, at_depth, layout_rules, layout_of, size}
use Rattle.ep_domain.specs.Domain.{Ops, Lawful}
use Rattle.ep_cells.specs.States.{Known}
use Rattle.ep_core.specs.Program.{Block, Program}
use Rattle.ep_core.specs.WellFormed.{is_number, block_fits, has_scalar, block_type, holds_scalar, is_well_formed}
use Rattle.ep_core.proofs.Operands.{sizes as blocks_of}
use Rattle.ep_core.proofs.Sorts.{same_scalar, all_at}
use Rattle.ep_equalities.specs.declared.pair.Mode.{Mode}
use Rattle.ep_equalities.specs.declared.pair.Mode.TheVariants.{Both, Left, Right}
use Rattle.ep_evaluation.specs.Accesses.{leaves_block, bounds_of, may_be_odd}
use Rattle.ep_evaluation.specs.Given.{shows_if}
use Rattle.ep_transfers.specs.Places.{aligned_faults}
use Rattle.ep_transfers.specs.Transfers.{sizes, to_block}

-- what is said of parameters and results
abbrev pub HaveOwnPlaces : {N : Type 0} → Ops N → Program → Type 0
HaveOwnPlaces {N = N} D p = (b : ℕ × Scalar) → holds_scalar p.types p.blocks b ≡ true → (m : Mode) (k : Known N)
    → k.model ≡ p.types.model → aligned_faults D (sizes D p) m (size_of k.model b.1) (to_block D m b.0) ≡ []

zero_type : IsOfSomeType (pos 0)
zero_type = record { low = omega (arith, ints); high = omega (arith, ints) }

-- ---- sizes

-- a type's number is below the depth that is looked at
pub depth : (xs : List Ty) (n c : ℕ) (x : Ty) → slice_get xs n ≡ Some x → (k : ℕ) × (length xs + c ≡ suc k)
depth [] n c x h = absurd (let q : None ≡ Some x = h in cc)
depth (y ∷ xs) n c x h = (length xs + c, (let e : length (y ∷ xs) + c ≡ suc (length xs + c) = omega arith in e))

layout_by : (t : Table) (n : ℕ) (x : Ty) (l : Layout) → slice_get t.types n ≡ Some x
    → ((k : ℕ) → at_type (layout_rules t.model) t (at_depth (layout_rules t.model) t k) x ≡ Some l)
    → layout_of t n ≡ Some l
unfolding at_depth
layout_by t n x l h f =
    let d = depth t.types n (length t.completed) x h in
    ap (λ k. at_depth (layout_rules t.model) t k n) d.1
    ∙ ap (option_and_then (at_type (layout_rules t.model) t (at_depth (layout_rules t.model) t d.0))) h ∙ f d.0

scalar_size : (t : Table) (n : ℕ) (o : Option Ty) (w : Scalar) → slice_get t.types n ≡ o → has_scalar o w ≡ true
    → size t n ≡ Some (size_of t.model w)
scalar_size t n (Some (ty.Int i)) w h s =
    ap (option_map (λ (l : Layout). l.size))
    (layout_by t n (ty.Int i) (scalar_layout t.model (Int i)) h (λ k. refl))
    ∙ ap (λ z. Some (size_of t.model z)) (same_scalar (Int i) w s)
scalar_size t n (Some (ty.Ptr e)) w h s =
    ap (option_map (λ (l : Layout). l.size))
    (layout_by t n (ty.Ptr e) (scalar_layout t.model Pointer) h (λ k. refl))
    ∙ ap (λ z. Some (size_of t.model z)) (same_scalar Pointer w s)
scalar_size t n (Some ty.Void) w h s = absurd (cc)
scalar_size t n (Some (ty.Array e c)) w h s = absurd (cc)
scalar_size t n (Some (ty.Aggregate a)) w h s = absurd (cc)
scalar_size t n None w h s = absurd (cc)

pub number_is : (o : Option ℕ) (m n : ℕ) → o ≡ Some m → is_number o n ≡ true → n ≡ m
number_is None m n e h = absurd (cc)
number_is (Some k) m n e h = let q : k ≡ m = cc in sym (eqb-true k n h) ∙ q

pub sized : (bs : List Block) (i : ℕ) (x : Block) → slice_get bs i ≡ Some x
    → slice_get (map (λ (b : Block). b.size) bs) i ≡ Some x.size
sized [] i x h = absurd (let q : None ≡ Some x = h in cc)
sized (b ∷ bs) zero x h = let q : b ≡ x = (let r : Some b ≡ Some x = h in cc) in ap (λ (y : Block). Some y.size) q
sized (b ∷ bs) (suc i) x h = sized bs i x h

module _ (p : Program) (formed : is_well_formed p ≡ true) where
  block_size : (b : ℕ × Scalar) → (o : Option Block) → slice_get p.blocks b.0 ≡ o
      → has_scalar (option_and_then (slice_get p.types.types) (block_type o)) b.1 ≡ true
      → slice_get (map (λ (x : Block). x.size) p.blocks) b.0 ≡ Some (size_of p.types.model b.1)
  block_size b None h s = absurd (cc)
  block_size b (Some x) h s =
      let fit = and_parts (list_all (block_fits p.types) p.blocks) _ (blocks_of p formed) in
      let one = and_parts (is_number (size p.types x.ty) x.size) _
      (all_at (block_fits p.types) p.blocks b.0 x fit.0 h) in
      sized p.blocks b.0 x h
      ∙ ap Some (number_is (size p.types x.ty) (size_of p.types.model b.1) x.size
      (scalar_size p.types x.ty (slice_get p.types.types x.ty) b.1 refl s) one.0)

  -- ---- no fault

  module _ {N : Type 0} (D : Ops N) (law : Lawful D) where
    not_over : (n : ℕ) → int_lt (pos n) (pos 0 +ℤ pos n) ≡ false
    not_over n = false_from_ne_true (int_lt (pos n) (pos (0 + n)))
        (λ e. absurd (let l = ltb-true n (0 + n) e in omega (arith, l)))

    at_start : (blocks : List ℕ) (b n : ℕ) → slice_get blocks b ≡ Some n
        → bounds_of D blocks n ((b, D.single (pos 0)) ∷ []) ≡ None
    at_start blocks b n h =
        let e : (leaves_block (slice_get blocks b) n (D.range (D.single (pos 0))) || false) ≡ false
        = rw (h, law.single_range (pos 0) zero_type, not_over n) refl in
        ap (λ t. shows_if t (D.range (D.single (pos 0)))) e

    even_start : (b n : ℕ) → may_be_odd D n ((b, D.single (pos 0)) ∷ []) ≡ false
    even_start b n =
        let e : (D.holds (D.single (pos 0)) (pos 0) && not (nat_eq (residue n (pos 0)) 0)) ≡ false
        = rw (zero-mod n) (and-false (D.holds (D.single (pos 0)) (pos 0))) in
        rw (law.single_range (pos 0) zero_type, e) refl

    quiet : (blocks : List ℕ) (b n : ℕ) → slice_get blocks b ≡ Some n → (m : Mode)
        → aligned_faults D blocks m n (to_block D m b) ≡ []
    quiet blocks b n h Both = rw (at_start blocks b n h, even_start b n) refl
    quiet blocks b n h Left = rw (at_start blocks b n h, even_start b n) refl
    quiet blocks b n h Right = rw (at_start blocks b n h, even_start b n) refl

    pub own_quiet : HaveOwnPlaces D p
    own_quiet b h m k e =
        subst (λ d. aligned_faults D (sizes D p) m (size_of d b.1) (to_block D m b.0) ≡ []) (sym e)
        (quiet (sizes D p) b.0 (size_of p.types.model b.1)
        (block_size b (slice_get p.blocks b.0) refl h) m)
