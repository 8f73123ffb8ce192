-- The size and the leaf of a block that is one integer.
use Rattle.std.proofs.Common.{◌≡◌, ℕ, true, [], ◌∷◌, length, map, slice_get, Option, Some, None}
use Rattle.ep_alarm_laws.proofs.OwnPlaces.{depth, number_is}
use Rattle.std.proofs.Common.{option_map, option_and_then, unwrap_or, refl, ap, ◌∙◌}
use Rattle.std.specs.List.{list_all}
use Rattle.std.proofs.lemmas.Bool.{and_parts}
use Rattle.ep_int.specs.declared.types.IntType.{IntType}
use Rattle.ep_int.specs.declared.types.Scalar.TheVariants.{Int}
use Rattle.ep_int.specs.Types.{bytes_of}
use Rattle.ep_layout.specs.declared.types.Ty.{Ty}
use Rattle.ep_layout.specs.declared.types.Ty.TheVariants as ty
use Rattle.ep_layout.specs.Layout.{Layout, scalar_layout}
use Rattle.ep_layout.specs.Table.{Table, at_type, at_depth, layout_rules, layout_of, size, leaves}
use Rattle.ep_core.specs.Program.{Block, Program}
use Rattle.ep_core.specs.WellFormed.{is_number, block_fits, has_scalar, block_type, holds_scalar, is_well_formed}
use Rattle.ep_core.proofs.Operands.{sizes as blocks_of}
use Rattle.ep_core.proofs.Sorts.{same_scalar, all_at}
use Rattle.ep_alarm_laws.proofs.OwnPlaces.{sized}

integer_layout : (t : Table) (n : ℕ) (i : IntType) → slice_get t.types n ≡ Some (ty.Int i)
    → layout_of t n ≡ Some (scalar_layout t.model (Int i))
unfolding at_depth
integer_layout t n i h =
    let d = depth t.types n (length t.completed) (ty.Int i) h in
    ap (λ k. at_depth (layout_rules t.model) t k n) d.1
    ∙ ap (option_and_then (at_type (layout_rules t.model) t (at_depth (layout_rules t.model) t d.0))) h

-- a block that is one integer
pub record IsInteger (p : Program) (b : ℕ) (t : IntType) : Type 0 where
  pub object : Block
  pub here : slice_get p.blocks b ≡ Some object
  pub size_is : object.size ≡ bytes_of t
  pub sized : slice_get (map (λ (x : Block). x.size) p.blocks) b ≡ Some (bytes_of t)
  pub leaf : leaves p.types object.ty ≡ record { offset = 0; what = Int t } ∷ []

module _ (p : Program) (formed : is_well_formed p ≡ true) where
  of_type : (b : ℕ) (t : IntType) (x : Block) (o : Option Ty) → slice_get p.blocks b ≡ Some x
      → slice_get p.types.types x.ty ≡ o → has_scalar o (Int t) ≡ true → IsInteger p b t
  of_type b t x (Some (ty.Int i)) h e s =
      let same : Int i ≡ Int t = same_scalar (Int i) (Int t) s in
      let lay : layout_of p.types x.ty ≡ Some (scalar_layout p.types.model (Int t))
      = integer_layout p.types x.ty i e ∙ ap (λ w. Some (scalar_layout p.types.model w)) same in
      let fit = and_parts (list_all (block_fits p.types) p.blocks) _ (blocks_of p formed) in
      let one = and_parts (is_number (size p.types x.ty) x.size) _ (all_at
      (block_fits p.types) p.blocks b x fit.0 h) in
      let n : x.size ≡ bytes_of t
      = number_is (size p.types x.ty) (bytes_of t) x.size (ap (option_map (λ (l : Layout). l.size)) lay) one.0 in
      record {
        object = x;
        here = h;
        size_is = n;
        sized = sized p.blocks b x h ∙ ap Some n;
        leaf = ap (λ o. unwrap_or (option_map (λ (l : Layout). l.leaves) o) []) lay;
      }
  of_type b t x (Some (ty.Ptr d)) h e s = absurd (cc)
  of_type b t x (Some ty.Void) h e s = absurd (cc)
  of_type b t x (Some (ty.Array d c)) h e s = absurd (cc)
  of_type b t x (Some (ty.Aggregate a)) h e s = absurd (cc)
  of_type b t x None h e s = absurd (cc)

  by_block : (b : ℕ) (t : IntType) (o : Option Block) → slice_get p.blocks b ≡ o
      → has_scalar (option_and_then (slice_get p.types.types) (block_type o)) (Int t) ≡ true → IsInteger p b t
  by_block b t None h s = absurd (cc)
  by_block b t (Some x) h s = of_type b t x (slice_get p.types.types x.ty) h refl s

  pub integer_is : (b : ℕ) (t : IntType) → holds_scalar p.types p.blocks (b, Int t) ≡ true → IsInteger p b t
  integer_is b t s = by_block b t (slice_get p.blocks b) refl s
