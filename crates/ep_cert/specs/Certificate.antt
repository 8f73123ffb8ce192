-- Certificates as bytes: this project's format. Each number has its bytes lowest first.
use Rattle.std.specs.Prelude.{◌≡◌, ℕ, ◌^◌, ◌<◌, ◌≤◌, List, ◌∷◌, ◌++◌, length, codes}
use Rattle.std.specs.List.{flat_map}
use Rattle.ep_int.specs.declared.types.Order.{Order}
use Rattle.ep_int.specs.declared.types.Order.TheVariants.{Little, Big, SwappedWords}
use Rattle.ep_int.specs.declared.types.Model.{Model}
use Rattle.ep_int.specs.declared.types.Model.TheVariants.{Ilp32, Lp64}
use Rattle.ep_cells.specs.declared.cell.Cell.{Cell}
use Rattle.ep_cells.specs.States.{Known, AreCells}
use Rattle.ep_cert_cells.specs.Numbers.{Numbers}
use Rattle.ep_cert_cells.specs.Bytes.{low, cell_bytes, Every, HasRoom, IsValue, HasBytes}
use Rattle.ep_cert.specs.declared.cert.Cert.{Cert}

-- The orders of the left and of the right machine, the model, how many turns of a loop are made one by one, what is
-- known at the heads of loops, in the order in which a pass comes to them, and the source.
pub record Certificate : Type 0 where
  pub orders : Order × Order
  pub model : Model
  pub unroll : ℕ
  pub heads : List (Known Numbers)
  pub source : List ℕ

abbrev pub shown : Cert → Certificate
shown c = record {
  orders = c.orders;
  model = c.model;
  unroll = c.unroll;
  heads = c.heads.items;
  source = c.source.items;
}

abbrev pub certificate_of : Order × Order → Model → ℕ → List (Known Numbers) → List ℕ → Certificate
certificate_of os d n hs bs = record { orders = os; model = d; unroll = n; heads = hs; source = bs }

-- ---- its bytes

abbrev pub order_number : Order → ℕ
order_number Little = 0
order_number Big = 1
order_number SwappedWords = 2

abbrev pub model_number : Model → ℕ
model_number Ilp32 = 0
model_number Lp64 = 1

unfoldable pub head_bytes : List (Cell Numbers) → List ℕ
head_bytes cs = low 4 (length cs) ++ flat_map cell_bytes cs

abbrev pub heads_bytes : List (Known Numbers) → List ℕ
heads_bytes hs = flat_map (λ (h : Known Numbers). head_bytes h.cells) hs

-- the text, the orders, the model, the unroll number and the count of heads
unfoldable pub opening_bytes : Certificate → List ℕ
opening_bytes c =
    codes "ENDCERT1" ++ (order_number c.orders.0 ∷ order_number c.orders.1 ∷ model_number c.model
    ∷ (low 4 c.unroll ++ low 8 (length c.heads)))

unfoldable pub cert_bytes : Certificate → List ℕ
cert_bytes c = opening_bytes c ++ (heads_bytes c.heads ++ (low 4 (length c.source) ++ c.source))

-- ---- what has bytes

pub record IsWritable (h : Known Numbers) : Type 0 where
  pub count : HasRoom (length h.cells)
  pub each : Every HasBytes h.cells

-- what of a cell's bytes isn't sure at every cell of a state
abbrev pub IsBounded : Cell Numbers → Type 0
IsBounded c = HasRoom c.block × IsValue c.value

-- a state of the certificate's machines
pub record IsHead (c : Certificate) (h : Known Numbers) : Type 0 where
  pub orders : h.orders ≡ c.orders
  pub model : h.model ≡ c.model
  pub cells : AreCells c.model h.cells
  pub writable : IsWritable h

abbrev pub greatest_unroll : ℕ
greatest_unroll = 4096

abbrev pub greatest_source : ℕ
greatest_source = 1048576

pub record IsCertificate (c : Certificate) : Type 0 where
  pub orders : c.orders.0 ≡ c.orders.1 → ⊥
  pub unroll : c.unroll ≤ greatest_unroll
  pub count : length c.heads < 2 ^ 64
  pub heads : Every (IsHead c) c.heads
  pub source : length c.source ≤ greatest_source

-- all but the heads is a certificate's
pub record IsWithin (c : Certificate) : Type 0 where
  pub orders : c.orders.0 ≡ c.orders.1 → ⊥
  pub unroll : c.unroll ≤ greatest_unroll
  pub source : length c.source ≤ greatest_source

-- the bytes spell the certificate
pub record CertSpells (bytes : List ℕ) (c : Certificate) : Type 0 where
  pub certificate : IsCertificate c
  pub bytes_are : bytes ≡ cert_bytes c
