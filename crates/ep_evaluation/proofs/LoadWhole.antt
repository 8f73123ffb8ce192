-- A load of a sound place is sound.
use Rattle.std.proofs.Common.{◌≡◌, Bool, true, false, IfSome, refl}
use Rattle.ep_evaluation.proofs.Tests.{runs_alone}
use Rattle.ep_int.specs.declared.types.Order.{Order}
use Rattle.ep_int.specs.declared.types.Scalar.{Scalar}
use Rattle.ep_int.specs.Memory.{Value as Datum, pointer, has}
use Rattle.ep_domain.specs.Domain.{Ops, Lawful}
use Rattle.ep_cells.specs.Cells.{IsIn}
use Rattle.ep_cells.specs.States.{Known}
use Rattle.ep_cells.specs.Meaning.{Memories}
use Rattle.ep_reads.specs.Laws.{ReadLaws}
use Rattle.ep_core.specs.Program.{Program}
use Rattle.ep_core.specs.Exec.{size_at}
use Rattle.ep_core.specs.Runs.{Side}
use Rattle.ep_evaluation.specs.Given.{on, alone, are_sure}
use Rattle.ep_evaluation.specs.Narrowed.{cell_of}
use Rattle.ep_evaluation.specs.Evaluation.{Reaches, places_at, load_given, cell_if, load_cell, load_means}
use Rattle.ep_evaluation.specs.Laws.{memory_of, Machine, IsState, IsKept, IsOfCell, Sound, SoundPlace, sizes_of}
use Rattle.ep_evaluation.proofs.Loads.{loads, place_there}
use Rattle.ep_evaluation.proofs.LoadSound.{place_found, loads_at, load_machine, load_holds}
use Rattle.ep_evaluation.proofs.LoadCell.{load_fits, cell_there, cell_is}
use Rattle.ep_evaluation.proofs.Leaves.{any_sound}
use Rattle.ep_evaluation.proofs.Sounds.{reliable_alone}

module _ {N : Type 0} (D : Ops N) (law : Lawful D) (reads : ReadLaws D) (p : Program) (ord : Side → Order) (w : Scalar)
    (f : Side → Machine)
    (a : Reaches N) (sound : SoundPlace D p ord f a) where
  cell_kept : (k : Known N) (m : Memories) → IsKept D p ord k m → (s : Side) (v : Datum)
      → load_machine D law reads p ord w f s (memory_of s m) ≡ has v
      → IfSome (load_cell D (sizes_of p.blocks) w a s k) (λ c. IsOfCell D p ord k m c v)
  cell_kept k m kept s v e = by_sure (are_sure (a (alone s) k).faults) refl
    where
      by_sure : (b : Bool) → are_sure (a (alone s) k).faults ≡ b
          → IfSome (cell_if D (sizes_of p.blocks) b
          (cell_of k s w (places_at D (sizes_of p.blocks) w k (on (a (alone s) k).pair s))))
          (λ c. IsOfCell D p ord k m c v)
      by_sure false i = tt
      by_sure true i =
          let t = place_found (f s (memory_of s m)) (loads_at D law reads p ord w s (memory_of s m)) v e in
          let h = ((sound.gives k m kept (alone s)).held (reliable_alone s (a (alone s) k).faults i) s (runs_alone s)
          (pointer t.0 t.1) t.2).value in
          let l = loads (ord s) p.types.model (size_at (ord s) p t.0) (memory_of s m) w t.0 t.1 v t.3 in
          cell_is D law reads p ord w k m kept s v (t.0, t.1) l
          (places_at D (sizes_of p.blocks) w k (on (a (alone s) k).pair s))
          (place_there D law reads p ord k m kept w s (on (a (alone s) k).pair s) t.0 t.1 v h l)

  there : (k : Known N) → IsState D p ord k → (s : Side)
      → IfSome (load_cell D (sizes_of p.blocks) w a s k) (λ c. IsIn c k.cells)
  there k i s = by_sure (are_sure (a (alone s) k).faults)
    where
      by_sure : (b : Bool) → IfSome
          (cell_if D (sizes_of p.blocks) b
          (cell_of k s w (places_at D (sizes_of p.blocks) w k (on (a (alone s) k).pair s)))) (λ c. IsIn c k.cells)
      by_sure false = tt
      by_sure true = cell_there D law reads p ord w k s
          (places_at D (sizes_of p.blocks) w k (on (a (alone s) k).pair s))

  pub load_sound : Sound D p ord w (load_machine D law reads p ord w f) (load_means D (sizes_of p.blocks) w a)
  load_sound =
      any_sound D law p ord w (load_machine D law reads p ord w f)
      (λ m k. load_given D (sizes_of p.blocks) w m k (a m k)) (load_cell D (sizes_of p.blocks) w a)
      (λ k m kept mode. load_holds D law reads p ord w k m kept f mode (a mode k) (sound.gives k m kept mode))
      (λ k i mode s. load_fits D law reads p ord w k i mode (a mode k) s) cell_kept there
