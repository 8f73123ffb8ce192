-- What a pair of values says of the values on two machines (this project's rules).
use Rattle.std.specs.Prelude.{◌≡◌, ◌%◌, ◌^◌, Bool, true, false, List, Some, IfSome}
use Rattle.ep_int.specs.declared.types.Scalar.{Scalar}
use Rattle.ep_int.specs.declared.types.Scalar.TheVariants.{Int, Pointer}
use Rattle.ep_int.specs.Types.{bits_of, residue}
use Rattle.ep_int.specs.Memory.{Value as Datum, int, null, pointer}
use Rattle.ep_bitslice.specs.declared.segment.Segment.{Segment}
use Rattle.ep_bitslice.specs.Bits.{Numbers}
use Rattle.ep_bitslice.specs.Segments.{number}
use Rattle.ep_domain.specs.Domain.{Ops}
use Rattle.ep_cells.specs.Meaning.{Allows}
use Rattle.ep_equalities.specs.declared.pair.Mode.{Mode}
use Rattle.ep_equalities.specs.declared.pair.Mode.TheVariants.{Both, Left, Right}
use Rattle.ep_equalities.specs.declared.pair.PairValue.{PairValue}
use Rattle.ep_equalities.specs.declared.pair.SideValue.{SideValue}

abbrev pub runs_left : Mode → Bool
runs_left Both = true
runs_left Left = true
runs_left Right = false

abbrev pub runs_right : Mode → Bool
runs_right Both = true
runs_right Left = false
runs_right Right = true

abbrev pub runs_both : Mode → Bool
runs_both Both = true
runs_both Left = false
runs_both Right = false

-- the value is a number that equals that of a form, modulo 2 to the power of its type's width
abbrev pub HasFormNumber : Numbers → Scalar → Datum → List Segment → Type 0
HasFormNumber n (Int t) (int z) ss = residue (2 ^ bits_of t) z ≡ number n ss % 2 ^ bits_of t
HasFormNumber n (Int t) null ss = ⊥
HasFormNumber n (Int t) (pointer b q) ss = ⊥
HasFormNumber n Pointer v ss = ⊥

-- what is known of a value of this type on one machine holds of v, where cells have these numbers
pub record SideIn {N : Type 0} (D : Ops N) (n : Numbers) (w : Scalar) (s : SideValue N) (v : Datum) : Type 0 where
  pub value : Allows D w s.value false (Some v)
  pub form : IfSome s.form (HasFormNumber n w v)

-- What is known of both holds of x and y. A machine that doesn't run is left out.
pub record PairIn {N : Type 0} (D : Ops N) (n : Numbers) (mode : Mode) (w : Scalar) (p : PairValue N) (x y : Datum) :
    Type 0 where
  pub left : runs_left mode ≡ true → SideIn D n w p.left x
  pub right : runs_right mode ≡ true → SideIn D n w p.right y
  pub equal : runs_both mode ≡ true → p.equal ≡ true → x ≡ y

-- where b holds, the values of both machines are equal, whatever they are
abbrev pub AreEqualIf : {N : Type 0} → Bool → Ops N → PairValue N → Type 0
AreEqualIf b D p =
    b ≡ true → (n : Numbers) (w : Scalar) (x y : Datum) → PairIn D n Both w p x y → x ≡ y
