-- Machines that store one value: what they are left with, and one beside another.
use Rattle.std.proofs.Common.{◌≡◌, ℕ, true, false, refl, ap, ◌∙◌}
use Rattle.ep_int.specs.declared.types.Order.{Order}
use Rattle.ep_int.specs.declared.types.Scalar.{Scalar}
use Rattle.ep_int.specs.Memory.{Memory, Value as Datum, pointer as into_block, Found, has, stored, store_fault}
use Rattle.ep_core.specs.Program.{Program}
use Rattle.ep_core.specs.Exec.{State, Way, leaves, remembers, size_at, given, put_at, put_to}
use Rattle.ep_core.specs.Runs.{Side, left, right}
use Rattle.ep_evaluation.specs.Given.{alone, runs}
use Rattle.ep_evaluation.specs.Laws.{memory_of}
use Rattle.ep_transfers.proofs.Evaluated.{pair_of}
use Rattle.ep_closed_laws.specs.Exactly.{IfLeft}
use Rattle.ep_single_puts.specs.Laws.{IsPutAt}
use Rattle.ep_single_runs.proofs.Steps.{if_given, if_place, if_unless}

-- where a machine is left, its value has gone to its address
module _ (o : Order) (p : Program) (w : Scalar) (way : Way) (l n : ℕ) (x : State) (fa fv : Found) where
  abbrev P : State → Type 0
  P z = IsPutAt p o w fa fv x.memory z.memory

  pub put_there : (b q : ℕ) (v : Datum) → fa ≡ has (into_block b q) → fv ≡ has v
      → IfLeft way P (put_at o p w b q v l x (leaves way n))
  put_there b q v ea ev =
      if_unless way P l x (store_fault p.types.model (size_at o p b) w q)
      (leaves way n (remembers (stored o p.types.model x.memory w b q v) x))
      (λ e. (refl, record { block = b; offset = q; datum = v; at = ea; is = ev; stores = e; after = λ c j. refl }))

  pub puts_so : IfLeft way P (given fa l x (λ u. given fv l x (λ v. put_to o p w u v l x (leaves way n))))
  puts_so =
      if_given way P l x fa (λ u. given fv l x (λ v. put_to o p w u v l x (leaves way n)))
      (λ u eu. if_given way P l x fv (λ v. put_to o p w u v l x (leaves way n))
      (λ v ev. if_place way P l x u (λ b q. put_at o p w b q v l x (leaves way n))
      (λ b q eb. put_there b q v (eu ∙ ap has eb) ev)))

-- ---- one machine beside another

-- what holds of the machine that runs, and of the memory that stays
module _ (P : Side → Memory → Memory → Type 0) (m n y : Memory) where
  pub running_so : (i : Side) → P i m n → (s : Side) → runs (alone i) s ≡ true
      → P s (memory_of s (pair_of i m y)) (memory_of s (pair_of i n y))
  running_so left h left r = h
  running_so left h right r = absurd (let d : false ≡ true = r in cc)
  running_so right h left r = absurd (let d : false ≡ true = r in cc)
  running_so right h right r = h

  pub still_so : (i s : Side) → runs (alone i) s ≡ false → memory_of s (pair_of i n y) ≡ memory_of s (pair_of i m y)
  still_so left left r = absurd (let d : true ≡ false = r in cc)
  still_so left right r = refl
  still_so right left r = refl
  still_so right right r = absurd (let d : true ≡ false = r in cc)
