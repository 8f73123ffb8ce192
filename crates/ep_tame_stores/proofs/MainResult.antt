-- Main's result is a number.
use Rattle.std.proofs.Common.{◌≡◌, true, slice_get, Option, Some, None, refl, sym, ap, ◌∙◌, subst, nat_eq, ℕ}
use Rattle.std.proofs.Common.{length}
use Rattle.std.specs.Prelude.{option_and_then, option_to_list}
use Rattle.std.specs.List.{list_all}
use Rattle.std.proofs.lemmas.Bool.{and_parts, eqb-true}
use Rattle.ep_int.specs.declared.types.IntType.TheVariants.{I32}
use Rattle.ep_int.specs.declared.types.Scalar.{Scalar}
use Rattle.ep_int.specs.declared.types.Scalar.TheVariants.{Int as Number, Pointer}
use Rattle.ep_layout.specs.declared.types.Ty.{Ty}
use Rattle.ep_layout.specs.declared.types.Ty.TheVariants.{Void, Int, Ptr, Array, Aggregate}
use Rattle.ep_core.specs.Program.{Block, Function, Program}
use Rattle.ep_core.specs.Exec.{result_in}
use Rattle.ep_core.specs.Runs.{is_result}
use Rattle.ep_core.specs.WellFormed.{block_type, has_scalar, holds_scalar, is_int_result, is_main, is_well_formed}
use Rattle.ep_core.proofs.Operands.{fits_at}
use Rattle.ep_core.proofs.Sorts.{never, same_scalar}
use Rattle.ep_tame_laws.specs.Tamely.{is_result_of_main}
use Rattle.ep_tame_writes.specs.Stands.{IsNumberType}

one_scalar : (u : Option Ty) (v w : Scalar) → has_scalar u v ≡ true → has_scalar u w ≡ true → v ≡ w
one_scalar None v w h i = never h
one_scalar (Some Void) v w h i = never h
one_scalar (Some (Int t)) v w h i = sym (same_scalar (Number t) v h) ∙ same_scalar (Number t) w i
one_scalar (Some (Ptr e)) v w h i = sym (same_scalar Pointer v h) ∙ same_scalar Pointer w i
one_scalar (Some (Array e m)) v w h i = never h
one_scalar (Some (Aggregate a)) v w h i = never h

module _ (p : Program) (b : ℕ) (x : Block) (there : slice_get p.blocks b ≡ Some x) where
  int_result : (r : Option (ℕ × Scalar)) → is_int_result r ≡ true
      → list_all (holds_scalar p.types p.blocks) (option_to_list r) ≡ true → is_result r b ≡ true
      → has_scalar (slice_get p.types.types x.ty) (Number I32) ≡ true
  int_result None int holds own = never own
  int_result (Some r) int holds own =
      subst (λ o. has_scalar (option_and_then (slice_get p.types.types) (block_type o)) (Number I32) ≡ true)
      (ap (slice_get p.blocks) (eqb-true r.0 b own) ∙ there)
      (subst (λ z. has_scalar (option_and_then (slice_get p.types.types) (block_type (slice_get p.blocks r.0))) z ≡ true)
      (same_scalar r.1 (Number I32) int) (and_parts (holds_scalar p.types p.blocks r) true holds).0)

  -- what its block holds is one
  pub main_number : is_well_formed p ≡ true → (w : Scalar) → has_scalar (slice_get p.types.types x.ty) w ≡ true
      → is_result_of_main p b ≡ true → IsNumberType w
  main_number formed w kind own =
      at (slice_get p.functions p.main) refl (and_parts _ (is_main (slice_get p.functions p.main)) formed).1 own
    where
      at : (o : Option Function) → slice_get p.functions p.main ≡ o → is_main o ≡ true
          → is_result (result_in o) b ≡ true → IsNumberType w
      at None e main own = never own
      at (Some m) e main own =
          let int = (and_parts (nat_eq (length m.params) 0) (is_int_result m.result) main).1 in (
            I32,
            sym (one_scalar (slice_get p.types.types x.ty) (Number I32) w
                (int_result m.result int (fits_at p formed p.main m e).1 own) kind),
          )
