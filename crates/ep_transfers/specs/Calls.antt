-- What calls do to what is known of two memories: arguments and results (this project's rules, after Miné 2006).
use Rattle.std.specs.Prelude.{ℕ, pos, List, [], ◌∷◌, ◌++◌, map, Option, Some, None, option_to_list}
use Rattle.std.specs.Option.{option_map_or}
use Rattle.ep_int.specs.declared.types.Scalar.{Scalar}
use Rattle.ep_int.specs.declared.types.Scalar.TheVariants.{Int, Pointer}
use Rattle.ep_domain.specs.Domain.{Ops}
use Rattle.ep_pointers.specs.Value.{one_target}
use Rattle.ep_cells.specs.Forms.{form_after}
use Rattle.ep_cells.specs.States.{Known}
use Rattle.ep_core.specs.Program.{Expr, Dest}
use Rattle.ep_core.specs.Program.{Function, Program}
use Rattle.ep_core.specs.Exec.{first_of, frame_of}
use Rattle.ep_equalities.specs.declared.pair.Mode.{Mode}
use Rattle.ep_equalities.specs.declared.pair.Fault.{Fault}
use Rattle.ep_equalities.specs.declared.pair.PairValue.{PairValue}
use Rattle.ep_evaluation.specs.Given.{Given}
use Rattle.ep_evaluation.specs.Evaluation.{place, pointer_given, convert_given, load_given}
use Rattle.ep_transfers.specs.Writes.{formed_pair}
use Rattle.ep_transfers.specs.Transfers.{Stepped, stepped, fate_off_blocks, after_faults, to_block, sizes, gives}
use Rattle.ep_transfers.specs.Transfers.{entered, with_two, assigned}

module _ {N : Type 0} (D : Ops N) (p : Program) where
  -- ---- calls

  abbrev pub given_all : List Expr → Mode → Known N → List (Given N)
  given_all [] m k = []
  given_all (e ∷ es) m k = gives D p e m k ∷ given_all es m k

  abbrev pub faults_of_all : List (Given N) → List Fault
  faults_of_all [] = []
  faults_of_all (x ∷ xs) = x.faults ++ faults_of_all xs

  abbrev pub then_step : Stepped N → (Known N → Stepped N) → Stepped N
  then_step s go = after_faults s.faults (option_map_or go s.next (stepped [] None))

  -- the parameters, one after another, each with its argument
  abbrev pub bound : Mode → List (ℕ × Scalar) → List (PairValue N) → Known N → Stepped N
  bound m [] vs k = stepped [] (Some k)
  bound m (b ∷ bs) [] k = stepped [] (Some k)
  bound m (b ∷ bs) (v ∷ vs) k = then_step (assigned D (sizes D p) m b.1 (to_block D m b.0) v k) (bound m bs vs)

  -- What waits while the frame comes can't mention its blocks.
  abbrev pub waiting : List ℕ → List (Given N) → List (PairValue N)
  waiting frame xs = map (λ (x : Given N). formed_pair (form_after (fate_off_blocks frame)) x.pair) xs

  abbrev pub passed : Mode → Function → List (Given N) → Known N → Stepped N
  passed m f xs k =
      after_faults (faults_of_all xs) (bound m f.params (waiting (frame_of f) xs) (entered D p m (frame_of f) k))

  abbrev pub arguments_step : Mode → Function → List Expr → Known N → Stepped N
  arguments_step m f es k = in_call (entered D p m (first_of (option_to_list f.result)) k)
    where
      in_call : Known N → Stepped N
      in_call j = passed m f (given_all es m j) j

  abbrev pub loaded_result : Mode → ℕ × Scalar → Known N → Given N
  loaded_result m r k = load_given D (sizes D p) r.1 m k (pointer_given D (one_target r.0 (D.single (pos 0))) m)

  -- a number is converted to the type of its place
  abbrev pub received_as : (old new : Scalar) → Mode → Given N → Given N
  received_as (Int u) (Int t) m x = convert_given D (Some u) t m x
  received_as Pointer (Int t) m x = convert_given D None t m x
  received_as w Pointer m x = x

  abbrev pub result_step : Mode → Function → Option Dest → Known N → Stepped N
  result_step m f None k = stepped [] (Some k)
  result_step m f (Some d) k = from_result f.result
    where
      from_result : Option (ℕ × Scalar) → Stepped N
      from_result None = stepped [] None
      from_result (Some r) =
          with_two (received_as r.1 d.what m (loaded_result m r k)) (place D (sizes D p) d.place m k)
          (λ v to. assigned D (sizes D p) m d.what to v k)
