-- Reads where a mover runs (this project's rules).
use Rattle.std.specs.Prelude.{◌≡◌, ℕ, false, List, Ok}
use Rattle.ep_int.specs.declared.types.IntType.{IntType}
use Rattle.ep_int.specs.declared.types.Order.{Order}
use Rattle.ep_int.specs.declared.types.Scalar.TheVariants.{Int}
use Rattle.ep_int.specs.Types.{bytes_of}
use Rattle.ep_domain.specs.Domain.{Ops}
use Rattle.ep_cells.specs.States.{Known}
use Rattle.ep_reads.specs.declared.read.ReadValue.{ReadValue}
use Rattle.ep_reads.specs.Read.{read}
use Rattle.ep_core.specs.Program.{Program}
use Rattle.ep_core.specs.Runs.{Side}
use Rattle.ep_evaluation.specs.Given.{cells_of}
use Rattle.ep_movers.specs.Symbols.{Symbol}
use Rattle.ep_movers.specs.Movers.{Machine, bytes_in, loaded_bytes}
use Rattle.ep_mover_bits.specs.Laws.{Inputs, HasBytes}
use Rattle.ep_mover_cells.specs.Known.{Moved}

-- what is read is surely a number, with the form of these bytes
pub record IsReadAs {N : Type 0} (base : Inputs) (r : ReadValue N) (xs : List Symbol) : Type 0 where
  pub sure : r.maybe ≡ false
  pub unmixed : r.mixed ≡ false
  pub form : HasBytes base r.form xs

abbrev pub ReadsKnowBytes : {N : Type 0} → Ops N → Type 0
ReadsKnowBytes {N = N} D =
    (p : Program) (ord : Side → Order) (base : Inputs) (ms : Side → Machine) (k : Known N) → Moved D p ord base ms k
    → (s : Side) (b q : ℕ) (t : IntType) (xs : List Symbol)
    → loaded_bytes (ord s) (bytes_in (ms s).memory b) q (bytes_of t) 0 (bytes_of t) ≡ Ok xs
    → IsReadAs base (read D k (cells_of s) b q (Int t)) xs
