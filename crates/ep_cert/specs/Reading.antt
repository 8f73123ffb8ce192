-- Certificates from bytes: what the readers answer.
use Rattle.std.specs.Prelude.{◌≡◌, ℕ, Bool, ◌&&◌, not, ◌↔◌, if◌then◌else◌, nat_eq, nat_le, List}
use Rattle.std.specs.Prelude.{map, length, Option, Some, None, Result, Ok, Err}
use Rattle.std.specs.Option.{option_and_then}
use Rattle.ep_int.specs.declared.types.Order.{Order}
use Rattle.ep_int.specs.declared.types.Order.TheVariants.{Little, Big, SwappedWords}
use Rattle.ep_int.specs.declared.types.Model.{Model}
use Rattle.ep_int.specs.declared.types.Model.TheVariants.{Ilp32, Lp64}
use Rattle.ep_cells.specs.declared.cell.Cell.{Cell}
use Rattle.ep_cells.specs.States.{Known, AreCells}
use Rattle.ep_cert_cells.specs.declared.unread.Unread.{Unread}
use Rattle.ep_cert_cells.specs.declared.unread.Unread.TheVariants as unread
use Rattle.ep_cert_cells.specs.Numbers.{Numbers}
use Rattle.ep_cert_cells.specs.Bytes.{Every}
use Rattle.ep_cert_cells.specs.Reading.{byte_at, low_at, both_at, made_at, list_at, counted_at, cell_at}
use Rattle.ep_cert.specs.declared.cert.Cert.{Cert}
use Rattle.ep_cert.specs.declared.opening.Opening.{Opening}
use Rattle.ep_cert.specs.Certificate.{Certificate, CertSpells, shown, order_number, greatest_unroll, greatest_source}

-- ---- what stands before the heads

-- the text `ENDCERT1` as a number
abbrev pub mark : ℕ
mark = 3554556463336934981

abbrev pub order_of : ℕ → Option Order
order_of n =
    if nat_eq n 0 then Some Little else if nat_eq n 1 then Some Big else if nat_eq n 2 then Some SwappedWords else None

abbrev pub order_at : List ℕ → Option (Order × List ℕ)
order_at xs = made_at order_of byte_at xs

abbrev pub model_of : ℕ → Option Model
model_of n = if nat_eq n 0 then Some Ilp32 else if nat_eq n 1 then Some Lp64 else None

abbrev pub model_at : List ℕ → Option (Model × List ℕ)
model_at xs = made_at model_of byte_at xs

abbrev pub is_same_order : Order → Order → Bool
is_same_order a b = nat_eq (order_number a) (order_number b)

-- the text, two orders that differ, and an unroll number within the limit
abbrev pub is_opening : ℕ → Order → Order → ℕ → Bool
is_opening m a b u = nat_eq m mark && (not (is_same_order a b) && nat_le u greatest_unroll)

abbrev pub opening_from : ℕ × (Order × (Order × (Model × (ℕ × ℕ)))) → Option Opening
opening_from p =
    if is_opening p.0 p.1.0 p.1.1.0 p.1.1.1.1.0 then Some (record {
      orders = (p.1.0, p.1.1.0);
      model = p.1.1.1.0;
      unroll = p.1.1.1.1.0;
      count = p.1.1.1.1.1;
    }) else None

unfoldable pub opening_at : List ℕ → Option (Opening × List ℕ)
opening_at xs =
    made_at opening_from
    (both_at (low_at 8) (both_at order_at (both_at order_at (both_at model_at (both_at (low_at 4) (low_at 8)))))) xs

-- ---- heads and source

-- the cells of a head
unfoldable pub row_at : List ℕ → Option (List (Cell Numbers) × List ℕ)
row_at xs = counted_at (low_at 4) cell_at xs

-- the source, with which the certificate ends
abbrev pub source_of : ℕ × List ℕ → Option (List ℕ)
source_of p = if nat_le p.0 greatest_source && nat_eq (length p.1) p.0 then Some p.1 else None

unfoldable pub source_at : List ℕ → Option (List ℕ)
source_at xs = option_and_then source_of (low_at 4 xs)

pub record IsState (o : Opening) (h : Known Numbers) : Type 0 where
  pub orders : h.orders ≡ o.orders
  pub model : h.model ≡ o.model
  pub cells : AreCells o.model h.cells

abbrev pub cells_of : Known Numbers → List (Cell Numbers)
cells_of h = h.cells

-- the state of these cells, or that they are none of a state
abbrev pub NoState : Opening → List (Cell Numbers) → Unread → Type 0
NoState o cs unread.Memory = Unit {0}
NoState o cs unread.Misspelled = AreCells o.model cs → ⊥

abbrev pub IsStateOf : Opening → List (Cell Numbers) → Result (Known Numbers) Unread → Type 0
IsStateOf o cs (Ok h) = IsState o h × (h.cells ≡ cs)
IsStateOf o cs (Err e) = NoState o cs e

-- a state of the cells that are read, or that what is read, if it is, are no cells of a state
abbrev pub NoHead : Opening → List ℕ → Unread → Type 0
NoHead o xs unread.Memory = Unit {0}
NoHead o xs unread.Misspelled =
    (cs : List (Cell Numbers)) (ys : List ℕ) → row_at xs ≡ Some (cs, ys) → AreCells o.model cs → ⊥

abbrev pub IsHeadAt : {R : Type 0} → Opening → (R → Known Numbers) → (R → List ℕ) → List ℕ → Result R Unread → Type 0
IsHeadAt o f g xs (Ok r) = IsState o (f r) × (row_at xs ≡ Some ((f r).cells, g r))
IsHeadAt o f g xs (Err e) = NoHead o xs e

-- the same of so many
abbrev pub NoHeads : Opening → ℕ → List ℕ → Unread → Type 0
NoHeads o n xs unread.Memory = Unit {0}
NoHeads o n xs unread.Misspelled =
    (rows : List (List (Cell Numbers))) (ys : List ℕ) → list_at row_at n xs ≡ Some (rows, ys)
    → Every (AreCells o.model) rows → ⊥

abbrev pub AreHeadsAt : {R : Type 0} → Opening → (R → List (Known Numbers)) → (R → List ℕ) → ℕ → List ℕ →
    Result R Unread → Type 0
AreHeadsAt o f g n xs (Ok r) = Every (IsState o) (f r) × (list_at row_at n xs ≡ Some (map cells_of (f r), g r))
AreHeadsAt o f g n xs (Err e) = NoHeads o n xs e

abbrev pub NoSource : List ℕ → Unread → Type 0
NoSource xs unread.Memory = Unit {0}
NoSource xs unread.Misspelled = source_at xs ≡ None

abbrev pub IsSourceAt : {R : Type 0} → (R → List ℕ) → List ℕ → Result R Unread → Type 0
IsSourceAt f xs (Ok r) = source_at xs ≡ Some (f r)
IsSourceAt f xs (Err e) = NoSource xs e

-- the one certificate that the bytes spell, or that they spell none
abbrev pub IsCertAt : List ℕ → Result Cert Unread → Type 0
IsCertAt xs (Ok r) = (c : Certificate) → CertSpells xs c ↔ (shown r ≡ c)
IsCertAt xs (Err unread.Memory) = Unit {0}
IsCertAt xs (Err unread.Misspelled) = (c : Certificate) → CertSpells xs c → ⊥
