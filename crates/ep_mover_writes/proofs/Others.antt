-- What is known of bytes says nothing of inputs that weren't taken.
use Rattle.std.proofs.Common.{◌≡◌, ℕ, zero, suc, ◌+◌, ◌*◌, ◌<◌, true, List, [], ◌∷◌, ◌++◌, Ok, refl, sym}
use Rattle.std.proofs.Common.{ap, ◌∙◌, subst, arith}
use Rattle.ep_int.specs.declared.types.Order.{Order}
use Rattle.ep_int.specs.Types.{bytes_of}
use Rattle.ep_int.specs.Encoding.{place}
use Rattle.ep_bitslice.specs.declared.cell.CellName.{CellName}
use Rattle.ep_bitslice.specs.Segments.{run_bits, form_of}
use Rattle.ep_domain.specs.Domain.{Ops}
use Rattle.ep_cells.specs.declared.cell.Cell.{Cell}
use Rattle.ep_cells.specs.Cells.{IsNamed}
use Rattle.ep_cells.specs.States.{Known}
use Rattle.ep_core.specs.Program.{Program}
use Rattle.ep_core.specs.Runs.{Side, left}
use Rattle.ep_evaluation.specs.Operators.{Form}
use Rattle.ep_movers.specs.Symbols.{Symbol, unset, fixed_byte, input_byte}
use Rattle.ep_movers.specs.Movers.{Held, Machine, bytes_in, loaded_bytes}
use Rattle.ep_mover_bits.specs.Laws.{Inputs, bits_of_symbol, bits_of_bytes, HasBytes}
use Rattle.ep_mover_cells.specs.Known.{held_at, symbol_at, SaysBytes, IsSaid, IsInput, Moved}
use Rattle.ep_mover_cells.proofs.Loaded.{ok_same, first_one}
use Rattle.ep_mover_writes.specs.Laws.{OtherInputsDontCount}

module _ (base other : Inputs) (count : ℕ) (agree : (i : ℕ) → i < count → other i ≡ base i) where
  -- a byte of an input that was taken, or of none
  abbrev IsOld : Symbol → Type 0
  IsOld x = (i m : ℕ) → x ≡ input_byte i m → i < count

  same_symbol : (x : Symbol) → IsOld x → bits_of_symbol base x ≡ bits_of_symbol other x
  same_symbol unset f = refl
  same_symbol (fixed_byte v) f = refl
  same_symbol (input_byte i k) f = ap (λ c. run_bits c (8 * k) 8) (sym (agree i (f i k refl)))

  same_bytes : (o : Order) (hs : List Held) (q w k n : ℕ) (xs : List Symbol) → ((r : ℕ) → IsOld (symbol_at hs r))
      → loaded_bytes o hs q w k n ≡ Ok xs → bits_of_bytes base xs ≡ bits_of_bytes other xs
  same_bytes o hs q w k zero xs old e =
      subst (λ ys. bits_of_bytes base ys ≡ bits_of_bytes other ys) (ok_same [] xs e) refl
  same_bytes o hs q w k (suc n) xs old e =
      let a = first_one o hs q w k n xs e in
      subst (λ ys. bits_of_bytes base ys ≡ bits_of_bytes other ys) (sym a.is)
      (ap (λ bs. bs ++ bits_of_bytes base a.rest)
      (same_symbol (symbol_at hs (q + place o w k)) (old (q + place o w k)))
      ∙ ap (λ bs. bits_of_symbol other (symbol_at hs (q + place o w k)) ++ bs)
      (same_bytes o hs q w (suc k) n a.rest old a.loaded))

  has_still : (f : Form) (xs : List Symbol) → bits_of_bytes base xs ≡ bits_of_bytes other xs → HasBytes base f xs
      → HasBytes other f xs
  has_still f xs e h = record { form = h.form ∙ ap form_of e; few = h.few; bytes = h.bytes }

  pub says_still : {N : Type 0} (o : Order) (hs : List Held) (x : Cell N) → ((r : ℕ) → IsOld (symbol_at hs r))
      → SaysBytes base o hs x → SaysBytes other o hs x
  says_still o hs x old s = record {
    t = s.t;
    what = s.what;
    sure = s.sure;
    bytes = s.bytes;
    lie = s.lie;
    form = has_still _ s.bytes
        (same_bytes o hs x.offset (bytes_of s.t) 0 (bytes_of s.t) s.bytes old s.lie) s.form;
  }

  pub input_still : {N : Type 0} (cs : List (Cell N)) (ms : Side → Machine) (i : ℕ) → i < count → IsInput base cs ms i
      → IsInput other cs ms i
  input_still cs ms i l a = record {
    cell = a.cell;
    is_in = a.is_in;
    named = subst (λ n. IsNamed n a.cell) (sym (agree i l)) a.named;
    shared = a.shared;
    formless = a.formless;
    sure = a.sure;
    written = subst (λ (n : CellName). (s : Side) (j : ℕ) → j < bytes_of n.t
        → (held_at (bytes_in (ms s).memory n.block) (n.offset + j)).written ≡ true) (sym (agree i l)) a.written;
  }

pub others_dont_count : {N : Type 0} (D : Ops N) → OtherInputsDontCount D
others_dont_count D p ord base other ms k h agree = record {
  state = h.state;
  said = λ s b q e. (let a = h.said s b q e in record {
    cell = a.cell;
    is_in = a.is_in;
    has = a.has;
    says = says_still base other (ms left).inputs agree (ord s) (bytes_in (ms s).memory b) a.cell
        (λ r i m f. h.taken s b r i m f) a.says;
  });
  whole = h.whole;
  counts = h.counts;
  inputs = λ i l. input_still base other (ms left).inputs agree k.cells ms i l (h.inputs i l);
  own = λ i j l m e. h.own i j l m (sym (agree i l) ∙ e ∙ agree j m);
  taken = h.taken;
}
