-- The operations on worked states, over any domain.
use Rattle.std.proofs.Common.{◌≡◌, ℕ, true, false, List, [], ◌∷◌, Option, Some, None, refl}
use Rattle.ep_int.specs.declared.types.IntType.TheVariants.{U8, U16}
use Rattle.ep_int.specs.declared.types.Model.TheVariants.{Ilp32, Lp64}
use Rattle.ep_int.specs.declared.types.Scalar.TheVariants.{Int, Pointer}
use Rattle.ep_bitslice.specs.declared.cell.Side.{Side}
use Rattle.ep_bitslice.specs.declared.cell.Side.TheVariants.{Left, Right, Shared}
use Rattle.ep_bitslice.specs.declared.cell.CellName.{CellName}
use Rattle.ep_bitslice.specs.declared.segment.Segment.{Segment}
use Rattle.ep_bitslice.specs.declared.segment.Segment.TheVariants.{Bits}
use Rattle.ep_domain.specs.Domain.{Ops}
use Rattle.ep_pointers.specs.Value.{pointers}
use Rattle.ep_cells.specs.declared.cell.Cell.{Cell}
use Rattle.ep_cells.specs.declared.cell.Value.{Value}
use Rattle.ep_cells.specs.declared.cell.Value.TheVariants.{Num, Ptr}
use Rattle.ep_cells.specs.Look.{cell_at, is_some_partly_in}
use Rattle.ep_cells.specs.Write.{written}
use Rattle.ep_cells.specs.Both.{joined}
use Rattle.ep_cells.specs.Weaken.{weakened}
use Rattle.ep_cells.specs.Kill.{killed_cells}

-- a short of block 0 and its name
abbrev short : {N : Type 0} → Side → N → Option (List Segment) → Cell N
short s a f = record {
  side = s;
  block = 0;
  offset = 0;
  what = Int U16;
  value = Some (Num a);
  maybe = false;
  form = f;
}

abbrev name : Side → CellName
name s = record { side = s; block = 0; offset = 0; t = U16 }

-- a short of block 1 that has a form
abbrev user : {N : Type 0} → N → Option (List Segment) → Cell N
user a f = record {
  side = Shared;
  block = 1;
  offset = 0;
  what = Int U16;
  value = Some (Num a);
  maybe = false;
  form =
      f;
}

abbrev half : {N : Type 0} → Side → (offset : ℕ) → N → Cell N
half s q a = record {
  side = s;
  block = 0;
  offset = q;
  what = Int U8;
  value = Some (Num a);
  maybe = false;
  form =
      None;
}

-- ---- writes

-- a Shared short that is overwritten on the left is one of the right, and mentions follow it
left_write : {N : Type 0} (a b c : N)
    → written Ilp32 (short Left c None) (short Shared a None ∷ user b (Some (Bits (name Shared) 0 16 ∷ [])) ∷ [])
    ≡ (short Left c None ∷ short Right a None ∷ user b (Some (Bits (name Right) 0 16 ∷ [])) ∷ [])
left_write a b c = refl

-- on both sides they go
both_write : {N : Type 0} (a b c : N)
    → written Ilp32 (short Shared c None) (short Shared a None ∷ user b (Some (Bits (name Shared) 0 16 ∷ [])) ∷ [])
    ≡ (short Shared c None ∷ user b None ∷ [])
both_write a b c = refl

-- the new cell's own form that mentions what it overwrites follows it or goes
own_form : {N : Type 0} (a c : N)
    → written Ilp32 (short Left c (Some (Bits (name Shared) 8 16 ∷ Bits (name Shared) 0 8 ∷ []))) (short Shared a
    None ∷ [])
    ≡ (short Left c (Some (Bits (name Right) 8 16 ∷ Bits (name Right) 0 8 ∷ [])) ∷ short Right a None ∷ [])
own_form a c = refl

own_form_gone : {N : Type 0} (a c : N)
    → written Ilp32 (short Left c (Some (Bits (name Left) 0 16 ∷ []))) (short Left a None ∷ [])
    ≡ (short Left c None ∷ [])
own_form_gone a c = refl

-- two bytes under a short
over_bytes : {N : Type 0} (a b c : N)
    → written Lp64 (short Right c None) (half Shared 0 a ∷ half Right 1 b ∷ [])
    ≡ (half Left 0 a ∷ short Right c None ∷ [])
over_bytes a b c = refl

-- ---- weak writes

weak_stays : {N : Type 0} (D : Ops N) (a b c : N)
    → weakened D Ilp32 (short Shared c None) true (short Shared a None ∷ user b (Some (Bits (name Shared) 0 16 ∷ []))
    ∷ [])
    ≡ (short Shared (D.join a c) None ∷ user b None ∷ [])
weak_stays D a b c = refl

weak_parts : {N : Type 0} (D : Ops N) (a c : N)
    → weakened D Ilp32 (short Shared c None) false (short Shared a None ∷ [])
    ≡ (short Left (D.join a c) None ∷ short Right (D.join a c) None ∷ [])
weak_parts D a c = refl

-- on the right alone: the Left part keeps what it had, and mentions are of it
weak_right : {N : Type 0} (D : Ops N) (a b c : N)
    → weakened D Ilp32 (short Right c None) false (short Shared a None ∷ user b (Some (Bits (name Shared) 0 16 ∷ []))
    ∷ [])
    ≡ (short Left a None ∷ short Right (D.join a c) None ∷ user b (Some (Bits (name Left) 0 16 ∷ [])) ∷ [])
weak_right D a b c = refl

-- a cell that isn't the one written
weak_byte : {N : Type 0} (D : Ops N) (a c : N)
    → weakened D Ilp32 (half Left 1 c) false (short Left a None ∷ [])
    ≡ (record {
      side = Left;
      block = 0;
      offset = 0;
      what = Int U16;
      value = Some (Num (D.top U16));
      maybe = true;
      form = None;
    } ∷ [])
weak_byte D a c = refl

-- ---- joins

join_forms : {N : Type 0} (D : Ops N) (a b c e : N)
    → joined D (short Left a None ∷ user c (Some (Bits (name Left) 0 16 ∷ [])) ∷ []) (short Left b None ∷ user e
    (Some (Bits (name Left) 0 16 ∷ [])) ∷ [])
    ≡ (short Left (D.join a b) None ∷ user (D.join c e) (Some (Bits (name Left) 0 16 ∷ [])) ∷ [])
join_forms D a b c e = refl

join_forms_differ : {N : Type 0} (D : Ops N) (c e : N)
    → joined D (user c (Some (Bits (name Left) 0 16 ∷ [])) ∷ []) (user e (Some (Bits (name Right) 0 16 ∷ [])) ∷ [])
    ≡ (user (D.join c e) None ∷ [])
join_forms_differ D c e = refl

-- ---- killing

abbrev pointer_cell : {N : Type 0} → Side → Option (Value N) → (b : ℕ) → Cell N
pointer_cell s v b = record { side = s; block = b; offset = 0; what = Pointer; value = v; maybe = false; form = None }

abbrev lost_cell : {N : Type 0} → Side → Option (Value N) → (b : ℕ) → Cell N
lost_cell s v b = record { side = s; block = b; offset = 0; what = Pointer; value = v; maybe = true; form = None }

-- on the left: what was Shared is of the right, and a pointer into the block is parted
kill_left : {N : Type 0} (a b : N)
    → killed_cells Ilp32 Left 0 (record { offset = 0; what = Int U16 } ∷ []) 3
    (short Shared a None ∷ user a (Some (Bits (name Shared) 0 16 ∷ [])) ∷ pointer_cell Shared (Some (Ptr (pointers
    true ((0, b) ∷ [])))) 2 ∷ [])
    ≡ (record { side = Left; block = 0; offset = 0; what = Int U16; value = None; maybe = true; form = None }
    ∷ short Right a None
    ∷ record { side = Left; block = 0; offset = 2; what = Int U8; value = None; maybe = true; form = None }
    ∷ user a (Some (Bits (name Right) 0 16 ∷ []))
    ∷ lost_cell Left (Some (Ptr (pointers true []))) 2
    ∷ pointer_cell Right (Some (Ptr (pointers true ((0, b) ∷ [])))) 2 ∷ [])
kill_left a b = refl

-- on both sides: a pointer that is left without anything has no value
kill_both : {N : Type 0} (a b : N)
    → killed_cells Ilp32 Shared 0 [] 1 (half Left 0 a ∷ half Right 0 a ∷ pointer_cell Shared (Some (Ptr (pointers
    false ((0, b) ∷ [])))) 2 ∷ [])
    ≡ (record { side = Shared; block = 0; offset = 0; what = Int U8; value = None; maybe = true; form = None } ∷
    lost_cell Shared None 2 ∷ [])
kill_both a b = refl

-- ---- looks

look_right : {N : Type 0} (a b : N)
    → cell_at Ilp32 Right 0 1 (half Left 1 a ∷ half Right 1 b ∷ []) ≡ Some (half Right 1 b)
look_right a b = refl

look_past : {N : Type 0} (a : N) → cell_at Ilp32 Right 0 2 (half Left 1 a ∷ short Shared a None ∷ []) ≡ None
look_past a = refl

partly_byte : {N : Type 0} (a : N)
    → is_some_partly_in Ilp32 (record { side = Left; block = 0; offset = 1; bytes = 1 }) (short Shared a None ∷ []) ≡
    true
partly_byte a = refl

not_partly : {N : Type 0} (a : N)
    → is_some_partly_in Ilp32 (record { side = Left; block = 0; offset = 0; bytes = 4 }) (short Shared a None ∷ []) ≡
    false
not_partly a = refl
