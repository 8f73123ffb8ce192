-- Each straight statement but the output of bytes is passed without a fault, and both machines go on alike, or each is
-- undefined.
use Rattle.std.proofs.Common.{◌≡◌, ℕ, ◌+◌, ◌%◌, ◌==◌, inl, Bool, true, false, not, cond, nat_lt, List, [], ◌++◌, map}
use Rattle.ep_cell_ranges.proofs.Basics.{is_model-self}
use Rattle.std.proofs.Common.{refl, sym, ap, ◌∙◌, subst, Option, Some, None, arith}
use Rattle.std.proofs.lemmas.Bool.Decides.{nat_tests}
use Rattle.ep_int.specs.declared.types.IntType.{IntType}
use Rattle.ep_int.specs.declared.types.IntType.TheVariants.{I8, U8, I16, U16, I32, U32, I64, U64}
use Rattle.ep_int.specs.declared.types.Model.{Model}
use Rattle.ep_int.specs.declared.types.Order.{Order}
use Rattle.ep_int.specs.declared.types.Scalar.{Scalar}
use Rattle.ep_int.specs.declared.types.Scalar.TheVariants.{Int}
use Rattle.ep_int.specs.Types.{bytes_of}
use Rattle.ep_int.specs.Memory.{store_fault, bounds, alignment}
use Rattle.ep_domain.specs.Domain.{Ops, Lawful}
use Rattle.ep_cells.specs.States.{Known}
use Rattle.ep_cell_ranges.specs.Tests.{is_model}
use Rattle.ep_core.specs.Program.{Expr, Simple, nothing, eval, output, Program}
use Rattle.ep_core.specs.Exec.{State, Outcome, uncounted, put_out, value, does}
use Rattle.ep_core.specs.Runs.{Side, left, right}
use Rattle.ep_core.specs.WellFormed.{is_well_formed}
use Rattle.ep_equalities.specs.declared.pair.Mode.TheVariants as pair_mode
use Rattle.ep_evaluation.specs.Evaluation.{told}
use Rattle.ep_pass.specs.States.{Both, Transfer}
use Rattle.ep_transfers.specs.Transfers.{Stepped, gives, simple_step}
use Rattle.ep_transfers.specs.Cells.{told_of, when_known, is_told_so, cell_ops}
use Rattle.ep_straight_laws.proofs.Loads.{Comes, nothing as none_found, found}
use Rattle.ep_straight_laws.proofs.Judged.{V, Judged, passes, parts}

pub store_ok : (d : Model) (t : IntType) (size : ℕ) → size ≡ bytes_of t → store_fault d size (Int t) 0 ≡ None
store_ok d t size e =
    by (nat_lt size (0 + bytes_of t)) (aligned t) (grind (arith, nat_tests))
  where
    aligned : (t : IntType) → (0 % bytes_of t == 0) ≡ true
    aligned I8 = refl
    aligned U8 = refl
    aligned I16 = refl
    aligned U16 = refl
    aligned I32 = refl
    aligned U32 = refl
    aligned I64 = refl
    aligned U64 = refl

    by : (x : Bool) → (0 % bytes_of t == 0) ≡ true → x ≡ false
        → cond x (Some bounds) (cond (not (0 % bytes_of t == 0)) (Some alignment) None) ≡ None
    by true h g = absurd (cc)
    by false h g = rw h refl

module _ {N : Type 0} (D : Ops N) (law : Lawful D) (p : Program) (formed : is_well_formed p ≡ true) (ord : Side
    → Order)
    (seen : List ℕ) (r : ℕ) (result : Option (ℕ × Scalar)) where
  abbrev pub step : Simple → Known N → Transfer (Known N)
  step w k = (cell_ops D p ord).simple Both result w k

  abbrev pub plain : Simple → Known N → Stepped N
  plain w k = simple_step D p pair_mode.Both result w k

  pub told_so : (k : Known N) → k.model ≡ p.types.model → is_told_so D p ord k ≡ true
  told_so k e = ap (λ d. is_model d p.types.model) e ∙ is_model-self p.types.model

  pub step_is : (w : Simple) (k : Known N) → k.model ≡ p.types.model → step w k ≡ told_of D (plain w k)
  step_is w k e = ap (λ b. told_of D (when_known b (plain w k))) (told_so k e)

  abbrev pub run : Side → Simple → ℕ → ℕ → State → Outcome
  run s w l n x = does (ord s) p uncounted result w l n x

  abbrev pub Judges : Simple → ℕ → ℕ → ℕ → Known N → State → State → Type 0
  Judges w l n m k x y = Judged D law p formed ord seen r (step w k) n m (run left w l n x) (run right w l m y)

  -- over the step itself
  pub by_plain : (w : Simple) (l n m : ℕ) (k : Known N) (x y : State) → k.model ≡ p.types.model
      → Judged D law p formed ord seen r (told_of D (plain w k)) n m (run left w l n x) (run right w l m y)
      → Judges w l n m k x y
  by_plain w l n m k x y e j =
      subst (λ g. Judged D law p formed ord seen r g n m (run left w l n x) (run right w l m y)) (sym
      (step_is w k e)) j

  pub judged_nothing : (l n m : ℕ) (k : Known N) (x y : State) → V D law p formed ord seen r k x y
      → Judges nothing l n m k x y
  judged_nothing l n m k x y v =
      by_plain nothing l n m k x y v.kept.stands.memories.state.model (passes k x y refl refl refl refl (λ i. v))

  pub judged_eval : (e : Expr) (t : IntType) (l n m : ℕ) (k : Known N) (x y : State)
      → V D law p formed ord seen r k x y
      → Comes D t (gives D p e pair_mode.Both k) (value (ord left) p e x.memory) (value (ord right) p e y.memory)
      → Judges (eval e) l n m k x y
  judged_eval e t l n m k x y v (none_found i j ne a b) =
      by_plain (eval e) l n m k x y v.kept.stands.memories.state.model
      (parts (inl (rw a tt)))
  judged_eval e t l n m k x y v (found c d z q same on_left on_right a b ranged i j) =
      by_plain (eval e) l n m k x y v.kept.stands.memories.state.model
      (passes k x y (ap (λ fs. map (told D) (fs ++ [])) q) (rw (on_left, on_right) refl) (rw a refl) (rw b refl)
      (λ i. v))

  pub judged_output : (u : IntType) (e : Expr) (t : IntType) (l n m : ℕ) (k : Known N) (x y : State)
      → V D law p formed ord seen r k x y
      → Comes D t (gives D p e pair_mode.Both k) (value (ord left) p e x.memory) (value (ord right) p e y.memory)
      → Judges (output u e) l n m k x y
  judged_output u e t l n m k x y v (none_found i j ne a b) =
      by_plain (output u e) l n m k x y v.kept.stands.memories.state.model
      (parts (inl (rw a tt)))
  judged_output u e t l n m k x y v (found c d z q same on_left on_right a b ranged i j) =
      by_plain (output u e) l n m k x y v.kept.stands.memories.state.model
      (passes k (put_out u z x) (put_out u z y)
      (let s : (plain (output u e) k).faults ≡ [] = rw (q, on_left, on_right, same) refl in ap (map (told D)) s)
      (rw (on_left, on_right) refl) (rw a refl) (rw b refl)
      (λ i. record { kept = i; ones = v.ones; vars = v.vars; result = v.result }))
