-- Main begins in a good state.
use Rattle.std.proofs.Common.{◌≡◌, ℕ, Bool, true, false, ◌||◌, nat_eq, List, [], ◌∷◌, ◌++◌, map, slice_get, Option, Some, None}
use Rattle.std.proofs.Common.{◌⊎◌, inl, inr, refl, sym, ap, ◌∙◌, subst, arith}
use Rattle.std.specs.Prelude.{option_to_list}
use Rattle.std.proofs.lemmas.Bool.{and_parts, or_left, or_right, or_cases, eqb-true, eq-eqb}
use Rattle.std.proofs.lemmas.List.{append-nil}
use Rattle.ep_int.specs.declared.types.IntType.TheVariants.{I32}
use Rattle.ep_int.specs.declared.types.Order.{Order}
use Rattle.ep_int.specs.declared.types.Scalar.{Scalar}
use Rattle.ep_int.specs.declared.types.Scalar.TheVariants.{Int}
use Rattle.ep_int.specs.Memory.{contains}
use Rattle.ep_domain.specs.Domain.{Ops, Lawful}
use Rattle.ep_cells.specs.States.{Known}
use Rattle.ep_core.specs.Program.{Block, Function, Program}
use Rattle.ep_core.specs.Exec.{first_of, frame_of, result_in}
use Rattle.ep_core.specs.Runs.{Side, left, right, is_global, is_result}
use Rattle.ep_core.specs.WellFormed.{is_well_formed, is_named}
use Rattle.ep_core.proofs.Sorts.{never}
use Rattle.ep_equalities.specs.declared.pair.Mode.TheVariants.{Both}
use Rattle.ep_transfers.specs.Transfers.{entered}
use Rattle.ep_transfers.specs.Ends.{first_of_blocks, locals_in, entry_known, main_result}
use Rattle.ep_tame_laws.specs.Tamely.{result_block, is_result_of_main, HaveNoResult}
use Rattle.ep_tame_laws.proofs.Listed.{result_local, frame_free}
use Rattle.ep_tame_places.specs.Laws.{PlaceLaws}
use Rattle.ep_tame_cells.specs.Shape.{IsCovered}
use Rattle.ep_tame_states.specs.States.{IsGood}
use Rattle.ep_tame_states.proofs.Meetings.{good_again, had_itself}
use Rattle.ep_tame_changes.specs.Laws.{BlocksKeepGood}
use Rattle.ep_tame_laws.proofs.Main.{IsMain, main_is, is_its_result}
use Rattle.ep_tame_ends.proofs.Firsts.{begun_covers, begun_shape, begun_points}

module _ {N : Type 0} (D : Ops N) (law : Lawful D) (p : Program) (ord : Side → Order)
    (formed : is_well_formed p ≡ true) (places : PlaceLaws D p) (changes : BlocksKeepGood D p ord) (f : Function)
    (at : slice_get p.functions p.main ≡ Some f) where
  -- before main's locals come
  abbrev first_known : Known N
  first_known = record {
    orders = (ord left, ord right);
    model = p.types.model;
    cells = first_of_blocks D p 0 p.blocks;
  }

  main : IsMain p f
  main = main_is p formed f at

  global_covered : (b : ℕ) → is_named p.types p.blocks [] b ≡ true → IsCovered p first_known.cells b
  global_covered b n =
      begun_covers D law p ord formed b
      (λ x there. or_left x.global (is_result (main_result D p) b) (sym (ap is_global there) ∙ global n))
    where
      no_more : (t : Bool) → (t || false) ≡ true → t ≡ true
      no_more true h = refl
      no_more false h = never h

      global : is_named p.types p.blocks [] b ≡ true → is_global (slice_get p.blocks b) ≡ true
      global h = no_more (is_global (slice_get p.blocks b)) h

  result_covered : (b : ℕ) → contains b (result_block f) ≡ true → IsCovered p first_known.cells b
  result_covered b i =
      begun_covers D law p ord formed b
      (λ x there. or_right x.global (is_result (main_result D p) b) (is_its_result p formed f at main b ∙ same))
    where
      own : (t : Bool) → (t || false) ≡ true → t ≡ true
      own true h = refl
      own false h = never h

      in_own : contains b (first_of (option_to_list (Some (main.block, Int I32)))) ≡ true
      in_own =
          subst (λ (r : Option (ℕ × Scalar)). contains b (first_of (option_to_list r)) ≡ true) main.result i

      same : nat_eq main.block b ≡ true
      same =
          (let e = eqb-true b main.block (own (nat_eq b main.block) in_own) in
          subst (λ c. nat_eq main.block c ≡ true) (sym e) (eq_itself main.block))
        where
          eq_itself : (n : ℕ) → nat_eq n n ≡ true
          eq_itself n = eq-eqb n n refl

  begins_good : IsGood D p ord first_known [] (result_block f) first_known
  begins_good = record {
    state = record { orders = refl; model = refl; cells = (begun_shape D law p ord formed).cells };
    shape = begun_shape D law p ord formed;
    named = global_covered;
    results = result_covered;
    points = λ c i. begun_points D law p ord formed c i;
    over = had_itself first_known.cells;
    apart = λ b m. ap (λ t. t || false) (result_local p formed b m);
  }

  frame_is : f.locals ++ [] ≡ frame_of f
  frame_is = append-nil f.locals ∙ sym (ap (λ bs. first_of bs ++ f.locals) main.no_params)

  locals_free : HaveNoResult p f.locals
  locals_free =
      subst (HaveNoResult p) (ap (λ bs. first_of bs ++ f.locals) main.no_params)
      (frame_free p formed p.main f at (omega arith))

  pub entry_good : IsGood D p ord (entry_known D p ord) (frame_of f) (result_block f) (entry_known D p ord)
  entry_good =
      subst (λ (o : Option Function). IsGood D p ord (entered D p Both (locals_in D p o) first_known) (frame_of f)
      (result_block f) (entered D p Both (locals_in D p o) first_known)) (sym at)
      (subst (λ live. IsGood D p ord (entered D p Both f.locals first_known) live (result_block f)
      (entered D p Both f.locals first_known)) frame_is
      (good_again D law p places ord first_known (entered D p Both f.locals first_known) (f.locals ++ [])
      (result_block f) (changes.enter f.locals locals_free first_known first_known [] (result_block f) begins_good)))
