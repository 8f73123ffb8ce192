-- Worked rows: structs that are copied. What each shows is what a second implementation finds of the same program.
use Rattle.std.proofs.Common.{◌≡◌, pos, true, false, List, [], ◌∷◌, Some, None, refl}
use Rattle.ep_int.specs.declared.types.IntType.TheVariants.{U8, U16, I32, U32}
use Rattle.ep_int.specs.declared.types.BinOp.TheVariants.{And}
use Rattle.ep_int.specs.declared.types.Model.TheVariants.{Ilp32}
use Rattle.ep_int.specs.declared.types.Scalar.TheVariants.{Int, Pointer}
use Rattle.ep_layout.specs.declared.types.Ty.TheVariants as ty
use Rattle.ep_layout.specs.Table.{at_depth}
use lib.Count.{count_leading_zeros}
use Rattle.ep_alarms.specs.declared.types.AlarmKind.TheVariants.{U4, E1}
use Rattle.ep_bitslice.specs.declared.cell.Side.TheVariants as side
use Rattle.ep_bitslice.specs.declared.segment.Segment.TheVariants.{Bits, Fixed}
use Rattle.ep_core.specs.Program.{block, deref, member, element, const, load, addr_of, binary, convert, conditional}
use Rattle.ep_core.specs.Program.{assign, copy_aggregate, copy_bytes, input, output, Program}
use Rattle.ep_equalities.specs.declared.pair.Mode.TheVariants.{Both, Left, Right}
use Rattle.ep_transfers.specs.Steps.{nothing_known, between, points, shape, does, Step, run, faults_of}
use Rattle.ep_transfers.specs.Steps.{shapes_of, is_state_after, local, member_of, main_of, to_place, listed}
use Rattle.ep_transfers.specs.Steps.{cell_of}

-- struct item { uint8_t tag; uint32_t *p; } s, d; uint32_t x = 5, y; s.tag = 1; s.p = &x; memcpy(&d, &s,
-- sizeof(struct item)); y = *d.p; ep_out_u32(y);
abbrev fifteen_program : Program
fifteen_program = record {
  types = record {
    model = Ilp32;
    types = (ty.Int U8 ∷ ty.Int U32 ∷ ty.Ptr 1 ∷ ty.Aggregate 0 ∷ ty.Int I32 ∷ ty.Ptr 3
        ∷ []);
    aggregates = (record {
      tag = [];
      is_union = false;
      members = (Some (member_of 0 0 ∷ member_of 2 4 ∷ []));
    } ∷ []);
    completed = (0 ∷ []);
  };
  blocks = (local 4 4 ∷ local 8 3 ∷ local 8 3 ∷ local 4 1 ∷ local 4 1 ∷ []);
  init = [];
  functions = (main_of 0 (1 ∷ 2 ∷ 3 ∷ 4 ∷ []) ∷ []);
  main = 0;
}

abbrev fifteen_steps : List Step
fifteen_steps =
    does Both (assign (Int U32) (block 3) (convert U32 (const I32 (pos 5)))) ∷
    does Both (assign (Int U8) (member (block 1) 0) (convert U8 (const I32 (pos 1)))) ∷
    does Both (assign Pointer (member (block 1) 4) (addr_of (block 3))) ∷
    does Both (copy_bytes (addr_of (block 2)) (addr_of (block 1)) 8) ∷
    does Both (assign (Int U32) (block 4) (load (Int U32) (deref (load Pointer (member (block 2) 4))))) ∷
    does Both (output U32 (load (Int U32) (block 4))) ∷ []

fifteen_faults : faults_of (run fifteen_program fifteen_steps) ≡ []
unfolding at_depth count_leading_zeros
fifteen_faults = refl

fifteen_cells : shapes_of (run fifteen_program fifteen_steps) ≡ Some (
    shape side.Shared 0 0 (Int I32) (between (pos 0) (pos 0)) false (Some (Fixed 0 32 ∷ [])) ∷
    shape side.Shared 1 0 (Int U8) (between (pos 1) (pos 1)) false (Some (Fixed 1 8 ∷ [])) ∷
    shape side.Shared 1 1 (Int U8) nothing_known true None ∷
    shape side.Shared 1 2 (Int U8) nothing_known true None ∷
    shape side.Shared 1 3 (Int U8) nothing_known true None ∷
    shape side.Shared 1 4 Pointer (points false ((3, (pos 0), (pos 0)) ∷ [])) false None ∷
    shape side.Shared 2 0 (Int U8) (between (pos 1) (pos 1)) false (Some (Fixed 1 8 ∷ [])) ∷
    shape side.Shared 2 1 (Int U8) nothing_known true None ∷
    shape side.Shared 2 2 (Int U8) nothing_known true None ∷
    shape side.Shared 2 3 (Int U8) nothing_known true None ∷
    shape side.Shared 2 4 Pointer (points false ((3, (pos 0), (pos 0)) ∷ [])) false None ∷
    shape side.Shared 3 0 (Int U32) (between (pos 5) (pos 5)) false (Some (Fixed 5 32 ∷ [])) ∷
    shape side.Shared 4 0 (Int U32) (between (pos 5) (pos 5)) false (Some (Fixed 5 32 ∷ [])) ∷ [])
unfolding at_depth count_leading_zeros
fifteen_cells = refl

fifteen_state : is_state_after fifteen_program (run fifteen_program fifteen_steps) ≡ true
unfolding at_depth count_leading_zeros
fifteen_state = refl

-- the same with 6 as the length
abbrev fifteen_six_program : Program
fifteen_six_program = record {
  types = record {
    model = Ilp32;
    types = (ty.Int U8 ∷ ty.Int U32 ∷ ty.Ptr 1 ∷ ty.Aggregate 0 ∷ ty.Int I32 ∷ ty.Ptr 3
        ∷ []);
    aggregates = (record {
      tag = [];
      is_union = false;
      members = (Some (member_of 0 0 ∷ member_of 2 4 ∷ []));
    } ∷ []);
    completed = (0 ∷ []);
  };
  blocks = (local 4 4 ∷ local 8 3 ∷ local 8 3 ∷ local 4 1 ∷ local 4 1 ∷ []);
  init = [];
  functions = (main_of 0 (1 ∷ 2 ∷ 3 ∷ 4 ∷ []) ∷ []);
  main = 0;
}

abbrev fifteen_six_steps : List Step
fifteen_six_steps =
    does Both (assign (Int U32) (block 3) (convert U32 (const I32 (pos 5)))) ∷
    does Both (assign (Int U8) (member (block 1) 0) (convert U8 (const I32 (pos 1)))) ∷
    does Both (assign Pointer (member (block 1) 4) (addr_of (block 3))) ∷
    does Both (copy_bytes (addr_of (block 2)) (addr_of (block 1)) 6) ∷
    does Both (assign (Int U32) (block 4) (load (Int U32) (deref (load Pointer (member (block 2) 4))))) ∷
    does Both (output U32 (load (Int U32) (block 4))) ∷ []

fifteen_six_faults : faults_of (run fifteen_six_program fifteen_six_steps) ≡ (listed U4 0 0 0 0 ∷ [])
unfolding at_depth count_leading_zeros
fifteen_six_faults = refl

fifteen_six_cells : shapes_of (run fifteen_six_program fifteen_six_steps) ≡ None
unfolding at_depth count_leading_zeros
fifteen_six_cells = refl

fifteen_six_state : is_state_after fifteen_six_program (run fifteen_six_program fifteen_six_steps) ≡ true
unfolding at_depth count_leading_zeros
fifteen_six_state = refl

-- struct s { uint8_t a; uint16_t b; }; struct s t[2], d; uint8_t i; t[0].a = 1; t[0].b = 2; t[1].a = 3; t[1].b = 4;
-- i = ep_in_u8(); i = i & 1; d = t[i]; ep_out_u16(d.b);
abbrev from_several_program : Program
from_several_program = record {
  types = record {
    model = Ilp32;
    types = (ty.Int U8 ∷ ty.Int U16 ∷ ty.Aggregate 0 ∷ ty.Int I32 ∷ ty.Array 2 2 ∷ []);
    aggregates = (record { tag = []; is_union = false; members = (Some (member_of 0 0 ∷ member_of 1 2 ∷ [])) } ∷
        []);
    completed = (0 ∷ []);
  };
  blocks = (local 4 3 ∷ local 8 4 ∷ local 4 2 ∷ local 1 0 ∷ []);
  init = [];
  functions = (main_of 0 (1 ∷ 2 ∷ 3 ∷ []) ∷ []);
  main = 0;
}

abbrev from_several_steps : List Step
from_several_steps =
    does Both (assign (Int U8) (member (element (block 1) 2 4 (const I32 (pos 0))) 0) (convert U8 (const I32 (pos
    1)))) ∷
    does Both (assign (Int U16) (member (element (block 1) 2 4 (const I32 (pos 0))) 2) (convert U16 (const I32 (pos
    2)))) ∷
    does Both (assign (Int U8) (member (element (block 1) 2 4 (const I32 (pos 1))) 0) (convert U8 (const I32 (pos
    3)))) ∷
    does Both (assign (Int U16) (member (element (block 1) 2 4 (const I32 (pos 1))) 2) (convert U16 (const I32 (pos
    4)))) ∷
    does Both (input U8 (to_place (Int U8) (block 3))) ∷
    does Both (assign (Int U8) (block 3) (convert U8 (binary And I32 (convert I32 (load (Int U8) (block 3))) (const
    I32 (pos 1))))) ∷
    does Both (copy_aggregate (block 2) (element (block 1) 2 4 (load (Int U8) (block 3))) 2) ∷
    does Both (output U16 (load (Int U16) (member (block 2) 2))) ∷ []

from_several_faults : faults_of (run from_several_program from_several_steps)
    ≡ (listed U4 0 0 0 0 ∷ listed E1 0 1028 0 772 ∷ [])
unfolding at_depth count_leading_zeros
from_several_faults = refl

from_several_cells : shapes_of (run from_several_program from_several_steps) ≡ Some (
    shape side.Shared 0 0 (Int I32) (between (pos 0) (pos 0)) false (Some (Fixed 0 32 ∷ [])) ∷
    shape side.Shared 1 0 (Int U8) (between (pos 1) (pos 1)) false (Some (Fixed 1 8 ∷ [])) ∷
    shape side.Shared 1 1 (Int U8) nothing_known true None ∷
    shape side.Shared 1 2 (Int U16) (between (pos 2) (pos 2)) false (Some (Fixed 2 16 ∷ [])) ∷
    shape side.Shared 1 4 (Int U8) (between (pos 3) (pos 3)) false (Some (Fixed 3 8 ∷ [])) ∷
    shape side.Shared 1 5 (Int U8) nothing_known true None ∷
    shape side.Shared 1 6 (Int U16) (between (pos 4) (pos 4)) false (Some (Fixed 4 16 ∷ [])) ∷
    shape side.Left 2 0 (Int U8) (between (pos 0) (pos 3)) true None ∷
    shape side.Right 2 0 (Int U8) (between (pos 0) (pos 3)) true None ∷
    shape side.Left 2 1 (Int U8) (between (pos 0) (pos 3)) true None ∷
    shape side.Right 2 1 (Int U8) (between (pos 0) (pos 3)) true None ∷
    shape side.Left 2 2 (Int U8) (between (pos 0) (pos 4)) true None ∷
    shape side.Right 2 2 (Int U8) (between (pos 0) (pos 3)) true None ∷
    shape side.Left 2 3 (Int U8) (between (pos 0) (pos 4)) true None ∷
    shape side.Right 2 3 (Int U8) (between (pos 0) (pos 4)) true None ∷
    shape side.Shared 3 0 (Int U8) (between (pos 0) (pos 1)) false None ∷ [])
unfolding at_depth count_leading_zeros
from_several_cells = refl

from_several_state : is_state_after from_several_program (run from_several_program from_several_steps) ≡ true
unfolding at_depth count_leading_zeros
from_several_state = refl

-- struct s { uint8_t a; uint16_t b; }; struct s t[2], d; uint8_t i; t[0].a = 1; t[0].b = 2; t[1].a = 3; t[1].b = 4;
-- d.a = 9; d.b = 8; i = ep_in_u8(); i = i & 1; t[i] = d; ep_out_u16(t[1].b);
abbrev to_several_program : Program
to_several_program = record {
  types = record {
    model = Ilp32;
    types = (ty.Int U8 ∷ ty.Int U16 ∷ ty.Aggregate 0 ∷ ty.Int I32 ∷ ty.Array 2 2 ∷ []);
    aggregates = (record { tag = []; is_union = false; members = (Some (member_of 0 0 ∷ member_of 1 2 ∷ [])) } ∷
        []);
    completed = (0 ∷ []);
  };
  blocks = (local 4 3 ∷ local 8 4 ∷ local 4 2 ∷ local 1 0 ∷ []);
  init = [];
  functions = (main_of 0 (1 ∷ 2 ∷ 3 ∷ []) ∷ []);
  main = 0;
}

abbrev to_several_steps : List Step
to_several_steps =
    does Both (assign (Int U8) (member (element (block 1) 2 4 (const I32 (pos 0))) 0) (convert U8 (const I32 (pos
    1)))) ∷
    does Both (assign (Int U16) (member (element (block 1) 2 4 (const I32 (pos 0))) 2) (convert U16 (const I32 (pos
    2)))) ∷
    does Both (assign (Int U8) (member (element (block 1) 2 4 (const I32 (pos 1))) 0) (convert U8 (const I32 (pos
    3)))) ∷
    does Both (assign (Int U16) (member (element (block 1) 2 4 (const I32 (pos 1))) 2) (convert U16 (const I32 (pos
    4)))) ∷
    does Both (assign (Int U8) (member (block 2) 0) (convert U8 (const I32 (pos 9)))) ∷
    does Both (assign (Int U16) (member (block 2) 2) (convert U16 (const I32 (pos 8)))) ∷
    does Both (input U8 (to_place (Int U8) (block 3))) ∷
    does Both (assign (Int U8) (block 3) (convert U8 (binary And I32 (convert I32 (load (Int U8) (block 3))) (const
    I32 (pos 1))))) ∷
    does Both (copy_aggregate (element (block 1) 2 4 (load (Int U8) (block 3))) (block 2) 2) ∷
    does Both (output U16 (load (Int U16) (member (element (block 1) 2 4 (const I32 (pos 1))) 2))) ∷ []

to_several_faults : faults_of (run to_several_program to_several_steps)
    ≡ (listed U4 0 0 0 0 ∷ listed E1 0 65535 0 65535 ∷ [])
unfolding at_depth count_leading_zeros
to_several_faults = refl

to_several_cells : shapes_of (run to_several_program to_several_steps) ≡ Some (
    shape side.Shared 0 0 (Int I32) (between (pos 0) (pos 0)) false (Some (Fixed 0 32 ∷ [])) ∷
    shape side.Shared 1 0 (Int U8) (between (pos 1) (pos 9)) false None ∷
    shape side.Shared 1 1 (Int U8) (between (pos 9) (pos 9)) true None ∷
    shape side.Left 1 2 (Int U16) (between (pos 0) (pos 65535)) true None ∷
    shape side.Right 1 2 (Int U16) (between (pos 0) (pos 65535)) true None ∷
    shape side.Left 1 4 (Int U8) (between (pos 0) (pos 255)) true None ∷
    shape side.Right 1 4 (Int U8) (between (pos 0) (pos 255)) true None ∷
    shape side.Left 1 5 (Int U8) (between (pos 0) (pos 255)) true None ∷
    shape side.Right 1 5 (Int U8) (between (pos 0) (pos 255)) true None ∷
    shape side.Left 1 6 (Int U16) (between (pos 0) (pos 65535)) true None ∷
    shape side.Right 1 6 (Int U16) (between (pos 0) (pos 65535)) true None ∷
    shape side.Shared 2 0 (Int U8) (between (pos 9) (pos 9)) false (Some (Fixed 9 8 ∷ [])) ∷
    shape side.Shared 2 1 (Int U8) nothing_known true None ∷
    shape side.Shared 2 2 (Int U16) (between (pos 8) (pos 8)) false (Some (Fixed 8 16 ∷ [])) ∷
    shape side.Shared 3 0 (Int U8) (between (pos 0) (pos 1)) false None ∷ [])
unfolding at_depth count_leading_zeros
to_several_cells = refl

to_several_state : is_state_after to_several_program (run to_several_program to_several_steps) ≡ true
unfolding at_depth count_leading_zeros
to_several_state = refl

-- struct s { uint8_t a; uint16_t b; }; union u { struct s s; uint8_t b[4]; }; struct s t[2]; union u d; uint8_t i;
-- t[0].a = 1; t[0].b = 2; t[1].a = 3; t[1].b = 4; d.b[0] = 5; d.b[1] = 6; d.b[2] = 7; d.b[3] = 8; i = ep_in_u8(); i
-- = i & 1; t[i] = d.s;
abbrev to_several_bytes_program : Program
to_several_bytes_program = record {
  types = record {
    model = Ilp32;
    types = (ty.Int U8 ∷ ty.Int U16 ∷ ty.Aggregate 0 ∷ ty.Int I32 ∷ ty.Array 0 4 ∷
        ty.Aggregate 1 ∷ ty.Array 2 2 ∷ []);
    aggregates = (record {
      tag = [];
      is_union = false;
      members = (Some
          (member_of 0 0 ∷ member_of 1 2 ∷ []));
    } ∷ record {
      tag = [];
      is_union = true;
      members = (Some (member_of 2 0 ∷
          member_of 4 0 ∷ []));
    } ∷ []);
    completed = (0 ∷ 1 ∷ []);
  };
  blocks = (local 4 3 ∷ local 8 6 ∷ local 4 5 ∷ local 1 0 ∷ []);
  init = [];
  functions = (main_of 0 (1 ∷ 2 ∷ 3 ∷ []) ∷ []);
  main = 0;
}

abbrev to_several_bytes_steps : List Step
to_several_bytes_steps =
    does Both (assign (Int U8) (member (element (block 1) 2 4 (const I32 (pos 0))) 0) (convert U8 (const I32 (pos
    1)))) ∷
    does Both (assign (Int U16) (member (element (block 1) 2 4 (const I32 (pos 0))) 2) (convert U16 (const I32 (pos
    2)))) ∷
    does Both (assign (Int U8) (member (element (block 1) 2 4 (const I32 (pos 1))) 0) (convert U8 (const I32 (pos
    3)))) ∷
    does Both (assign (Int U16) (member (element (block 1) 2 4 (const I32 (pos 1))) 2) (convert U16 (const I32 (pos
    4)))) ∷
    does Both (assign (Int U8) (element (member (block 2) 0) 4 1 (const I32 (pos 0))) (convert U8 (const I32 (pos
    5)))) ∷
    does Both (assign (Int U8) (element (member (block 2) 0) 4 1 (const I32 (pos 1))) (convert U8 (const I32 (pos
    6)))) ∷
    does Both (assign (Int U8) (element (member (block 2) 0) 4 1 (const I32 (pos 2))) (convert U8 (const I32 (pos
    7)))) ∷
    does Both (assign (Int U8) (element (member (block 2) 0) 4 1 (const I32 (pos 3))) (convert U8 (const I32 (pos
    8)))) ∷
    does Both (input U8 (to_place (Int U8) (block 3))) ∷
    does Both (assign (Int U8) (block 3) (convert U8 (binary And I32 (convert I32 (load (Int U8) (block 3))) (const
    I32 (pos 1))))) ∷
    does Both (copy_aggregate (element (block 1) 2 4 (load (Int U8) (block 3))) (member (block 2) 0) 2) ∷ []

to_several_bytes_faults : faults_of (run to_several_bytes_program to_several_bytes_steps) ≡ []
unfolding at_depth count_leading_zeros
to_several_bytes_faults = refl

to_several_bytes_cells : shapes_of (run to_several_bytes_program to_several_bytes_steps) ≡ Some (
    shape side.Shared 0 0 (Int I32) (between (pos 0) (pos 0)) false (Some (Fixed 0 32 ∷ [])) ∷
    shape side.Shared 1 0 (Int U8) (between (pos 1) (pos 5)) false None ∷
    shape side.Shared 1 1 (Int U8) (between (pos 5) (pos 6)) true None ∷
    shape side.Left 1 2 (Int U16) (between (pos 0) (pos 65535)) true None ∷
    shape side.Right 1 2 (Int U16) (between (pos 0) (pos 65535)) true None ∷
    shape side.Shared 1 4 (Int U8) (between (pos 3) (pos 8)) false None ∷
    shape side.Shared 1 5 (Int U8) (between (pos 6) (pos 8)) true None ∷
    shape side.Left 1 6 (Int U16) (between (pos 0) (pos 65535)) true None ∷
    shape side.Right 1 6 (Int U16) (between (pos 0) (pos 65535)) true None ∷
    shape side.Shared 2 0 (Int U8) (between (pos 5) (pos 5)) false (Some (Fixed 5 8 ∷ [])) ∷
    shape side.Shared 2 1 (Int U8) (between (pos 6) (pos 6)) false (Some (Fixed 6 8 ∷ [])) ∷
    shape side.Shared 2 2 (Int U8) (between (pos 7) (pos 7)) false (Some (Fixed 7 8 ∷ [])) ∷
    shape side.Shared 2 3 (Int U8) (between (pos 8) (pos 8)) false (Some (Fixed 8 8 ∷ [])) ∷
    shape side.Shared 3 0 (Int U8) (between (pos 0) (pos 1)) false None ∷ [])
unfolding at_depth count_leading_zeros
to_several_bytes_cells = refl

to_several_bytes_state : is_state_after to_several_bytes_program (run to_several_bytes_program
    to_several_bytes_steps) ≡ true
unfolding at_depth count_leading_zeros
to_several_bytes_state = refl

-- struct s { uint8_t a; uint16_t b; }; union word { uint32_t w; uint8_t b[4]; } u; struct s t[2], d; uint8_t i; u.w
-- = 1; i = u.b[0]; d.a = 1; d.b = ep_in_u16(); t[0] = d; t[i] = d; ep_out_u16(t[0].b);
abbrev sided_struct_program : Program
sided_struct_program = record {
  types = record {
    model = Ilp32;
    types = (ty.Int U8 ∷ ty.Int U16 ∷ ty.Aggregate 0 ∷ ty.Int U32 ∷ ty.Int I32 ∷
        ty.Array 0 4 ∷ ty.Aggregate 1 ∷ ty.Array 2 2 ∷ []);
    aggregates = (record {
      tag = [];
      is_union = false;
      members
          = (Some (member_of 0 0 ∷ member_of 1 2 ∷ []));
    } ∷ record {
      tag = [];
      is_union = true;
      members = (Some
          (member_of 3 0 ∷ member_of 5 0 ∷ []));
    } ∷ []);
    completed = (0 ∷ 1 ∷ []);
  };
  blocks = (local 4 4 ∷ local 8 7 ∷ local 4 2 ∷ local 4 6 ∷ local 1 0 ∷ []);
  init = [];
  functions = (main_of 0 (1 ∷ 2 ∷ 3 ∷ 4 ∷ []) ∷ []);
  main = 0;
}

abbrev sided_struct_steps : List Step
sided_struct_steps =
    does Both (assign (Int U32) (member (block 3) 0) (convert U32 (const I32 (pos 1)))) ∷
    does Both (assign (Int U8) (block 4) (load (Int U8) (element (member (block 3) 0) 4 1 (const I32 (pos 0))))) ∷
    does Both (assign (Int U8) (member (block 2) 0) (convert U8 (const I32 (pos 1)))) ∷
    does Both (input U16 (to_place (Int U16) (member (block 2) 2))) ∷
    does Both (copy_aggregate (element (block 1) 2 4 (const I32 (pos 0))) (block 2) 2) ∷
    does Both (copy_aggregate (element (block 1) 2 4 (load (Int U8) (block 4))) (block 2) 2) ∷
    does Both (output U16 (load (Int U16) (member (element (block 1) 2 4 (const I32 (pos 0))) 2))) ∷ []

sided_struct_faults : faults_of (run sided_struct_program sided_struct_steps) ≡ []
unfolding at_depth count_leading_zeros
sided_struct_faults = refl

sided_struct_cells : shapes_of (run sided_struct_program sided_struct_steps) ≡ Some (
    shape side.Shared 0 0 (Int I32) (between (pos 0) (pos 0)) false (Some (Fixed 0 32 ∷ [])) ∷
    shape side.Left 1 0 (Int U8) (between (pos 1) (pos 1)) false (Some (Fixed 1 8 ∷ [])) ∷
    shape side.Right 1 0 (Int U8) (between (pos 1) (pos 1)) false (Some (Fixed 1 8 ∷ [])) ∷
    shape side.Left 1 1 (Int U8) nothing_known true None ∷
    shape side.Right 1 1 (Int U8) nothing_known true None ∷
    shape side.Left 1 2 (Int U16) (between (pos 0) (pos 65535)) false (Some (Bits (cell_of side.Shared 2 2 U16) 0 16
    ∷ [])) ∷
    shape side.Right 1 2 (Int U16) (between (pos 0) (pos 65535)) false (Some (Bits (cell_of side.Shared 2 2 U16) 0 16
    ∷ [])) ∷
    shape side.Left 1 4 (Int U8) (between (pos 1) (pos 1)) false (Some (Fixed 1 8 ∷ [])) ∷
    shape side.Right 1 4 (Int U8) nothing_known true None ∷
    shape side.Left 1 5 (Int U8) nothing_known true None ∷
    shape side.Right 1 5 (Int U8) nothing_known true None ∷
    shape side.Left 1 6 (Int U16) (between (pos 0) (pos 65535)) false (Some (Bits (cell_of side.Shared 2 2 U16) 0 16
    ∷ [])) ∷
    shape side.Right 1 6 (Int U16) nothing_known true None ∷
    shape side.Shared 2 0 (Int U8) (between (pos 1) (pos 1)) false (Some (Fixed 1 8 ∷ [])) ∷
    shape side.Shared 2 1 (Int U8) nothing_known true None ∷
    shape side.Shared 2 2 (Int U16) (between (pos 0) (pos 65535)) false None ∷
    shape side.Shared 3 0 (Int U32) (between (pos 1) (pos 1)) false (Some (Fixed 1 32 ∷ [])) ∷
    shape side.Left 4 0 (Int U8) (between (pos 1) (pos 1)) false (Some (Fixed 1 8 ∷ [])) ∷
    shape side.Right 4 0 (Int U8) (between (pos 0) (pos 0)) false (Some (Fixed 0 8 ∷ [])) ∷ [])
unfolding at_depth count_leading_zeros
sided_struct_cells = refl

sided_struct_state : is_state_after sided_struct_program (run sided_struct_program sided_struct_steps) ≡ true
unfolding at_depth count_leading_zeros
sided_struct_state = refl

-- struct s { uint8_t c[6]; } w, *t; union { struct s s[2]; uint8_t *p[3]; } u; uint8_t x, i; u.p[1] = &x;
-- ep_in_u8(&i); t = i ? &u.s[0] : &w; u.s[0] = *t;
-- Where t is &u.s[0] nothing changes, and the pointer that lies partly in u.s[0] stays.
abbrev itself_program : Program
itself_program = record {
  types = record {
    model = Ilp32;
    types = (ty.Int U8 ∷ ty.Array 0 6 ∷ ty.Aggregate 0 ∷ ty.Array 2 2 ∷ ty.Ptr 0 ∷ ty.Array 4 3 ∷ ty.Aggregate 1
        ∷ ty.Int I32 ∷ ty.Ptr 2 ∷ []);
    aggregates = (record {
      tag = [];
      is_union = false;
      members = (Some (member_of 1 0 ∷ []));
    } ∷ record {
      tag = [];
      is_union = true;
      members = (Some (member_of 3 0 ∷ member_of 5 0 ∷ []));
    } ∷ []);
    completed = (0 ∷ 1 ∷ []);
  };
  blocks = (local 4 7 ∷ local 12 6 ∷ local 1 0 ∷ local 4 8 ∷ local 1 0 ∷ local 6 2 ∷ []);
  init = [];
  functions = (main_of 0 (1 ∷ 2 ∷ 3 ∷ 4 ∷ 5 ∷ []) ∷ []);
  main = 0;
}

abbrev itself_steps : List Step
itself_steps =
    does Both (assign Pointer (element (member (block 1) 0) 3 4 (const I32 (pos 1))) (addr_of (block 2))) ∷
    does Both (input U8 (to_place (Int U8) (block 4))) ∷
    does Both
    (assign Pointer (block 3)
    (conditional (load (Int U8) (block 4)) (addr_of (element (member (block 1) 0) 2 6 (const I32 (pos 0))))
    (addr_of (block 5)))) ∷
    does Both
    (copy_aggregate (element (member (block 1) 0) 2 6 (const I32 (pos 0))) (deref (load Pointer (block 3))) 2) ∷ []

itself_faults : faults_of (run itself_program itself_steps) ≡ []
unfolding at_depth count_leading_zeros
itself_faults = refl

itself_cells : shapes_of (run itself_program itself_steps) ≡ Some (
    shape side.Shared 0 0 (Int I32) (between (pos 0) (pos 0)) false (Some (Fixed 0 32 ∷ [])) ∷
    shape side.Shared 1 0 (Int U8) nothing_known true None ∷
    shape side.Shared 1 1 (Int U8) nothing_known true None ∷
    shape side.Shared 1 2 (Int U8) nothing_known true None ∷
    shape side.Shared 1 3 (Int U8) nothing_known true None ∷
    shape side.Shared 1 8 (Int U8) nothing_known true None ∷
    shape side.Shared 1 9 (Int U8) nothing_known true None ∷
    shape side.Shared 1 10 (Int U8) nothing_known true None ∷
    shape side.Shared 1 11 (Int U8) nothing_known true None ∷
    shape side.Shared 2 0 (Int U8) nothing_known true None ∷
    shape side.Shared 3 0 Pointer (points false ((1, (pos 0), (pos 0)) ∷ (5, (pos 0), (pos 0)) ∷ [])) false None ∷
    shape side.Shared 4 0 (Int U8) (between (pos 0) (pos 255)) false None ∷
    shape side.Shared 5 0 (Int U8) nothing_known true None ∷
    shape side.Shared 5 1 (Int U8) nothing_known true None ∷
    shape side.Shared 5 2 (Int U8) nothing_known true None ∷
    shape side.Shared 5 3 (Int U8) nothing_known true None ∷
    shape side.Shared 5 4 (Int U8) nothing_known true None ∷
    shape side.Shared 5 5 (Int U8) nothing_known true None ∷ [])
unfolding at_depth count_leading_zeros
itself_cells = refl

itself_state : is_state_after itself_program (run itself_program itself_steps) ≡ true
unfolding at_depth count_leading_zeros
itself_state = refl

-- struct s { uint32_t a; } x, y, d, *p; uint8_t i; where the order is little: ((uint16_t *)&x)[0] = 1;
-- ((uint16_t *)&x)[1] = 2; ((uint16_t *)&y)[0] = 3; ((uint16_t *)&y)[1] = 4; where it is big: x.a = 5; y.a = 6;
-- ep_in_u8(&i); p = i ? &x : &y; d = *p;
-- On the left d has bytes, and on the right its leaf (worked by hand).
abbrev halves_program : Program
halves_program = record {
  types = record {
    model = Ilp32;
    types = (ty.Int U8 ∷ ty.Int U32 ∷ ty.Aggregate 0 ∷ ty.Ptr 2 ∷ ty.Int I32 ∷ ty.Int U16 ∷ []);
    aggregates = (record { tag = []; is_union = false; members = (Some (member_of 1 0 ∷ [])) } ∷ []);
    completed = (0 ∷ []);
  };
  blocks = (local 4 4 ∷ local 4 2 ∷ local 4 2 ∷ local 4 2 ∷ local 4 3 ∷ local 1 0 ∷ []);
  init = [];
  functions = (main_of 0 (1 ∷ 2 ∷ 3 ∷ 4 ∷ 5 ∷ []) ∷ []);
  main = 0;
}

abbrev halves_steps : List Step
halves_steps =
    does Left (assign (Int U16) (element (block 1) 2 2 (const I32 (pos 0))) (convert U16 (const I32 (pos 1)))) ∷
    does Left (assign (Int U16) (element (block 1) 2 2 (const I32 (pos 1))) (convert U16 (const I32 (pos 2)))) ∷
    does Left (assign (Int U16) (element (block 2) 2 2 (const I32 (pos 0))) (convert U16 (const I32 (pos 3)))) ∷
    does Left (assign (Int U16) (element (block 2) 2 2 (const I32 (pos 1))) (convert U16 (const I32 (pos 4)))) ∷
    does Right (assign (Int U32) (member (block 1) 0) (convert U32 (const I32 (pos 5)))) ∷
    does Right (assign (Int U32) (member (block 2) 0) (convert U32 (const I32 (pos 6)))) ∷
    does Both (input U8 (to_place (Int U8) (block 5))) ∷
    does Both
    (assign Pointer (block 4) (conditional (load (Int U8) (block 5)) (addr_of (block 1)) (addr_of (block 2)))) ∷
    does Both (copy_aggregate (block 3) (deref (load Pointer (block 4))) 2) ∷ []

halves_faults : faults_of (run halves_program halves_steps) ≡ []
unfolding at_depth count_leading_zeros
halves_faults = refl

halves_cells : shapes_of (run halves_program halves_steps) ≡ Some (
    shape side.Shared 0 0 (Int I32) (between (pos 0) (pos 0)) false (Some (Fixed 0 32 ∷ [])) ∷
    shape side.Left 1 0 (Int U16) (between (pos 1) (pos 1)) false (Some (Fixed 1 16 ∷ [])) ∷
    shape side.Right 1 0 (Int U32) (between (pos 5) (pos 5)) false (Some (Fixed 5 32 ∷ [])) ∷
    shape side.Left 1 2 (Int U16) (between (pos 2) (pos 2)) false (Some (Fixed 2 16 ∷ [])) ∷
    shape side.Left 2 0 (Int U16) (between (pos 3) (pos 3)) false (Some (Fixed 3 16 ∷ [])) ∷
    shape side.Right 2 0 (Int U32) (between (pos 6) (pos 6)) false (Some (Fixed 6 32 ∷ [])) ∷
    shape side.Left 2 2 (Int U16) (between (pos 4) (pos 4)) false (Some (Fixed 4 16 ∷ [])) ∷
    shape side.Left 3 0 (Int U8) (between (pos 1) (pos 3)) false None ∷
    shape side.Right 3 0 (Int U32) (between (pos 5) (pos 6)) false None ∷
    shape side.Left 3 1 (Int U8) (between (pos 0) (pos 0)) false None ∷
    shape side.Left 3 2 (Int U8) (between (pos 2) (pos 4)) false None ∷
    shape side.Left 3 3 (Int U8) (between (pos 0) (pos 0)) false None ∷
    shape side.Shared 4 0 Pointer (points false ((1, (pos 0), (pos 0)) ∷ (2, (pos 0), (pos 0)) ∷ [])) false None ∷
    shape side.Shared 5 0 (Int U8) (between (pos 0) (pos 255)) false None ∷ [])
unfolding at_depth count_leading_zeros
halves_cells = refl

halves_state : is_state_after halves_program (run halves_program halves_steps) ≡ true
unfolding at_depth count_leading_zeros
halves_state = refl
