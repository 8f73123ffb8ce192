-- What is known holds of memories with the same bytes.
use Rattle.std.proofs.Common.{◌≡◌, ℕ, ◌+◌, ◌*◌, ◌^◌, ◌/◌, List, [], ◌∷◌, Option, Some, None, IfSome, refl, sym, ap}
use Rattle.ep_cell_ranges.proofs.Held.{at_unwritten}
use Rattle.std.proofs.Common.{◌∙◌, subst}
use Rattle.ep_int.specs.declared.types.Order.{Order}
use Rattle.ep_int.specs.declared.types.Scalar.{Scalar}
use Rattle.ep_int.specs.declared.types.Scalar.TheVariants.{Int, Pointer}
use Rattle.ep_int.specs.Types.{bits_of, size_of, residue}
use Rattle.ep_bitslice.specs.declared.cell.Side.{Side}
use Rattle.ep_bitslice.specs.declared.cell.Side.TheVariants.{Left, Right, Shared}
use Rattle.ep_bitslice.specs.declared.cell.CellName.{CellName}
use Rattle.ep_bitslice.specs.declared.segment.Segment.{Segment}
use Rattle.ep_bitslice.specs.declared.segment.Segment.TheVariants.{Bits, Fixed}
use Rattle.ep_bitslice.specs.Bits.{Numbers}
use Rattle.ep_bitslice.specs.Segments.{segment_number, segment_width, number}
use Rattle.ep_domain.specs.Domain.{Ops}
use Rattle.ep_cells.specs.declared.cell.Cell.{Cell}
use Rattle.ep_cells.specs.States.{Known}
use Rattle.ep_cells.specs.Meaning.{Memories, Says, HasNumber, FormSays, number_on, numbers_of, name_of, In}
use Rattle.ep_cells.proofs.Bytes.{bytes_same}

pub record SameMemories (m n : Memories) : Type 0 where
  pub left : (b q : ℕ) → n.left b q ≡ m.left b q
  pub right : (b q : ℕ) → n.right b q ≡ m.right b q

pub on_same : (s : Side) (os : Order × Order) (m n : Memories) (c : CellName) → SameMemories m n
    → number_on s os n c ≡ number_on s os m c
on_same Left os m n c e = at_unwritten os.0 m.left n.left c e.left
on_same Right os m n c e = at_unwritten os.1 m.right n.right c e.right
on_same Shared os m n c e = at_unwritten os.0 m.left n.left c e.left

segment_same : (a b : Numbers) (s : Segment) → ((c : CellName) → a c ≡ b c) → segment_number a s ≡ segment_number b s
segment_same a b (Bits c from to) e = ap (λ z. residue (2 ^ to) z / 2 ^ from) (e c)
segment_same a b (Fixed v w) e = refl

pub number_same : (a b : Numbers) (ss : List Segment) → ((c : CellName) → a c ≡ b c) → number a ss ≡ number b ss
number_same a b [] e = refl
number_same a b (s ∷ ss) e =
    ap (λ (x : ℕ). x + 2 ^ segment_width s * number a ss) (segment_same a b s e)
    ∙ ap (λ (x : ℕ). segment_number b s + 2 ^ segment_width s * x) (number_same a b ss e)

has_same : {N : Type 0} (os : Order × Order) (m n : Memories) (c : Cell N) (w : Scalar) (k : ℕ) → SameMemories m n
    → HasNumber os m c w k
    → HasNumber os n c w k
has_same os m n c (Int t) k e h = ap (λ z. residue (2 ^ bits_of t) z) (on_same c.side os m n (name_of c t) e) ∙ h
has_same os m n c Pointer k e h = absurd h

form_same : {N : Type 0} (os : Order × Order) (m n : Memories) (c : Cell N) (o : Option (List Segment))
    → SameMemories m n
    → IfSome o (FormSays os m c) → IfSome o (FormSays os n c)
form_same os m n c None e h = tt
form_same os m n c (Some ss) e h =
    subst (HasNumber os n c c.what)
    (sym (number_same (numbers_of os n) (numbers_of os m) ss (λ x. on_same x.side os m n x e)))
    (has_same os m n c c.what (number (numbers_of os m) ss) e h)

says_same : {N : Type 0} (D : Ops N) (k : Known N) (m n : Memories) (c : Cell N) → SameMemories m n
    → Says D k.orders k.model m c
    → Says D k.orders k.model n c
says_same D k m n c e h = record {
  datum = h.datum;
  allowed = h.allowed;
  stands = record {
    left = λ r. bytes_same k.orders.0 m.left n.left (size_of k.model c.what) c.what c.maybe c.block c.offset h.datum
        (record { same = λ p l. e.left c.block (c.offset + p) }) (h.stands.left r);
    right = λ r. bytes_same k.orders.1 m.right n.right (size_of k.model c.what) c.what c.maybe c.block c.offset h.datum
        (record { same = λ p l. e.right c.block (c.offset + p) }) (h.stands.right r);
  };
}

pub in_same : {N : Type 0} (D : Ops N) (k : Known N) (m n : Memories) → SameMemories m n → In D k m → In D k n
in_same D k m n e h = record {
  cells = λ c i. says_same D k m n c e (h.cells c i);
  forms = λ c i. form_same k.orders m n c c.form e (h.forms c i);
}
