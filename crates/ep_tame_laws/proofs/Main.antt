-- Blocks of parameters and results; and the main of a well-formed program, which has no parameters, and an int as its
-- result.
use Rattle.std.proofs.Common.{◌≡◌, ℕ, zero, suc, true, false, ◌&&◌, nat_eq, List, [], ◌∷◌, length, slice_get, Option, Some}
use Rattle.std.proofs.Common.{None, refl, sym, ap, ◌∙◌, subst}
use Rattle.std.specs.Prelude.{option_and_then, option_to_list}
use Rattle.std.specs.List.{list_all}
use Rattle.std.proofs.lemmas.Bool.{and_parts, eqb-true}
use Rattle.ep_int.specs.declared.types.IntType.TheVariants.{I32}
use Rattle.ep_int.specs.declared.types.Scalar.{Scalar}
use Rattle.ep_int.specs.declared.types.Scalar.TheVariants.{Int}
use Rattle.ep_core.specs.Program.{Block, Function, Program}
use Rattle.ep_core.specs.Exec.{result_in}
use Rattle.ep_core.specs.Runs.{is_result}
use Rattle.ep_core.specs.WellFormed.{is_well_formed, is_main, is_int_result, holds_scalar, has_scalar, block_type}
use Rattle.ep_core.proofs.Operands.{fits_at}
use Rattle.ep_core.proofs.Sorts.{never, same_scalar}
use Rattle.ep_tame_laws.specs.Tamely.{is_result_of_main}

-- the block of a parameter or result, by the scalar that it holds
pub record OwnBlock (p : Program) (b : ℕ × Scalar) : Type 0 where
  pub of_block : Block
  pub there : slice_get p.blocks b.0 ≡ Some of_block
  pub holds : has_scalar (slice_get p.types.types of_block.ty) b.1 ≡ true

pub own_block : (p : Program) (b : ℕ × Scalar) → holds_scalar p.types p.blocks b ≡ true → OwnBlock p b
own_block p b h = at (slice_get p.blocks b.0) refl h
  where
    at : (o : Option Block) → slice_get p.blocks b.0 ≡ o
        → has_scalar (option_and_then (slice_get p.types.types) (block_type o)) b.1 ≡ true → OwnBlock p b
    at None e h = never h
    at (Some x) e h = record { of_block = x; there = e; holds = h }

pub record IsMain (p : Program) (f : Function) : Type 0 where
  pub block : ℕ
  pub result : f.result ≡ Some (block, Int I32)
  pub holds : holds_scalar p.types p.blocks (block, Int I32) ≡ true
  pub no_params : f.params ≡ []

module _ (p : Program) (formed : is_well_formed p ≡ true) where
  pub main_is : (f : Function) → slice_get p.functions p.main ≡ Some f → IsMain p f
  main_is f at =
      let m : is_main (Some f) ≡ true = subst (λ o. is_main o ≡ true) at (and_parts _ (is_main (slice_get p.functions p.main)) formed).1 in
      let q = and_parts (nat_eq (length f.params) 0) (is_int_result f.result) m in
      by_result f.result refl q.1 (fits_at p formed p.main f at).1 (no_length f.params (eqb-true (length f.params) 0 q.0))
    where
      no_length : (bs : List (ℕ × Scalar)) → length bs ≡ 0 → bs ≡ []
      no_length [] e = refl
      no_length (b ∷ bs) e = absurd cc

      by_result : (o : Option (ℕ × Scalar)) → f.result ≡ o → is_int_result o ≡ true
          → list_all (holds_scalar p.types p.blocks) (option_to_list o) ≡ true → f.params ≡ [] → IsMain p f
      by_result None e h i none = never h
      by_result (Some r) e h i none =
          let w = same_scalar r.1 (Int I32) h in
          record {
            block = r.0;
            result = e ∙ ap (λ (s : Scalar). Some (r.0, s)) w;
            holds =
                subst (λ s. holds_scalar p.types p.blocks (r.0, s) ≡ true) w
                (and_parts (holds_scalar p.types p.blocks r) true i).0;
            no_params = none;
          }

  pub is_its_result : (f : Function) → slice_get p.functions p.main ≡ Some f → (m : IsMain p f) (b : ℕ)
      → is_result_of_main p b ≡ nat_eq m.block b
  is_its_result f at m b = ap (λ o. is_result (result_in o) b) at ∙ ap (λ r. is_result r b) m.result

  -- a block that is main's result is one int
  pub result_holds : (b : ℕ) → is_result_of_main p b ≡ true → holds_scalar p.types p.blocks (b, Int I32) ≡ true
  result_holds b h = at (slice_get p.functions p.main) refl
    where
      at : (o : Option Function) → slice_get p.functions p.main ≡ o → holds_scalar p.types p.blocks (b, Int I32) ≡ true
      at None e = never (sym (ap (λ o. is_result (result_in o) b) e) ∙ h)
      at (Some f) e =
          let m = main_is f e in
          subst (λ c. holds_scalar p.types p.blocks (c, Int I32) ≡ true)
          (eqb-true m.block b (sym (is_its_result f e m b) ∙ h)) m.holds
