-- Worked rows: bytes, fills, clears and copies. What each shows is what a second implementation finds of the same
-- program.
use Rattle.std.proofs.Common.{◌≡◌, pos, true, false, List, [], ◌∷◌, Some, None, refl}
use Rattle.ep_int.specs.declared.types.IntType.TheVariants.{U8, U16, I32, U32}
use Rattle.ep_int.specs.declared.types.BinOp.TheVariants.{And}
use Rattle.ep_int.specs.declared.types.Model.TheVariants.{Ilp32}
use Rattle.ep_int.specs.declared.types.Scalar.TheVariants.{Int, Pointer}
use Rattle.ep_layout.specs.declared.types.Ty.TheVariants as ty
use Rattle.ep_layout.specs.Table.{at_depth}
use lib.Count.{count_leading_zeros}
use Rattle.ep_alarms.specs.declared.types.AlarmKind.TheVariants.{U9, E1}
use Rattle.ep_bitslice.specs.declared.cell.Side.TheVariants as side
use Rattle.ep_bitslice.specs.declared.segment.Segment.TheVariants.{Bits, Fixed}
use Rattle.ep_core.specs.Program.{block, member, element, const, load, addr_of, binary, convert, ptr_add, assign}
use Rattle.ep_core.specs.Program.{clear, copy_bytes, fill, input, output, read_bytes, write_bytes, Program}
use Rattle.ep_equalities.specs.declared.pair.Mode.TheVariants.{Both}
use Rattle.ep_transfers.specs.Steps.{nothing_known, between, points, shape, does, Step, run, faults_of}
use Rattle.ep_transfers.specs.Steps.{shapes_of, is_state_after, local, member_of, main_of, to_place, listed}
use Rattle.ep_transfers.specs.Steps.{cell_of}

-- uint8_t a[3] = {1, 2}; ep_write(a, 3);
abbrev twenty_nine_program : Program
twenty_nine_program = record {
  types = record {
    model = Ilp32;
    types = (ty.Int I32 ∷ ty.Int U8 ∷ ty.Array 1 3 ∷ ty.Ptr 1 ∷ []);
    aggregates = [];
    completed = [];
  };
  blocks = (local 4 0 ∷ local 3 2 ∷ []);
  init = [];
  functions = (main_of 0 (1 ∷ []) ∷ []);
  main = 0;
}

abbrev twenty_nine_steps : List Step
twenty_nine_steps =
    does Both (clear (block 1) 2) ∷
    does Both (assign (Int U8) (element (block 1) 3 1 (const I32 (pos 0))) (convert U8 (const I32 (pos 1)))) ∷
    does Both (assign (Int U8) (element (block 1) 3 1 (const I32 (pos 1))) (convert U8 (const I32 (pos 2)))) ∷
    does Both (write_bytes (addr_of (block 1)) 3) ∷ []

twenty_nine_faults : faults_of (run twenty_nine_program twenty_nine_steps) ≡ []
unfolding at_depth count_leading_zeros
twenty_nine_faults = refl

twenty_nine_cells : shapes_of (run twenty_nine_program twenty_nine_steps) ≡ Some (
    shape side.Shared 0 0 (Int I32) (between (pos 0) (pos 0)) false (Some (Fixed 0 32 ∷ [])) ∷
    shape side.Shared 1 0 (Int U8) (between (pos 1) (pos 1)) false (Some (Fixed 1 8 ∷ [])) ∷
    shape side.Shared 1 1 (Int U8) (between (pos 2) (pos 2)) false (Some (Fixed 2 8 ∷ [])) ∷
    shape side.Shared 1 2 (Int U8) (between (pos 0) (pos 0)) false (Some (Fixed 0 8 ∷ [])) ∷ [])
unfolding at_depth count_leading_zeros
twenty_nine_cells = refl

twenty_nine_state : is_state_after twenty_nine_program (run twenty_nine_program twenty_nine_steps) ≡ true
unfolding at_depth count_leading_zeros
twenty_nine_state = refl

-- uint32_t x; memset(&x, 0, 4); ep_out_u32(x);
abbrev thirty_program : Program
thirty_program = record {
  types = record {
    model = Ilp32;
    types = (ty.Int I32 ∷ ty.Int U32 ∷ ty.Ptr 1 ∷ []);
    aggregates = [];
    completed = [];
  };
  blocks = (local 4 0 ∷ local 4 1 ∷ []);
  init = [];
  functions = (main_of 0 (1 ∷ []) ∷ []);
  main = 0;
}

abbrev thirty_steps : List Step
thirty_steps =
    does Both (fill (addr_of (block 1)) (convert U8 (const I32 (pos 263))) 4) ∷
    does Both (output U32 (load (Int U32) (block 1))) ∷ []

thirty_faults : faults_of (run thirty_program thirty_steps) ≡ []
unfolding at_depth count_leading_zeros
thirty_faults = refl

thirty_cells : shapes_of (run thirty_program thirty_steps) ≡ Some (
    shape side.Shared 0 0 (Int I32) (between (pos 0) (pos 0)) false (Some (Fixed 0 32 ∷ [])) ∷
    shape side.Shared 1 0 (Int U8) (between (pos 7) (pos 7)) false (Some (Fixed 7 8 ∷ [])) ∷
    shape side.Shared 1 1 (Int U8) (between (pos 7) (pos 7)) false (Some (Fixed 7 8 ∷ [])) ∷
    shape side.Shared 1 2 (Int U8) (between (pos 7) (pos 7)) false (Some (Fixed 7 8 ∷ [])) ∷
    shape side.Shared 1 3 (Int U8) (between (pos 7) (pos 7)) false (Some (Fixed 7 8 ∷ [])) ∷ [])
unfolding at_depth count_leading_zeros
thirty_cells = refl

thirty_state : is_state_after thirty_program (run thirty_program thirty_steps) ≡ true
unfolding at_depth count_leading_zeros
thirty_state = refl

-- uint32_t x; memset(&x, 263, 4); ep_out_u32(x);
abbrev thirty_263_program : Program
thirty_263_program = record {
  types = record { model = Ilp32; types = (ty.Int I32 ∷ ty.Int U32 ∷ []); aggregates = []; completed = [] };
  blocks = (local 4 0 ∷ local 4 1 ∷ []);
  init = [];
  functions = (main_of 0 (1 ∷ []) ∷ []);
  main = 0;
}

abbrev thirty_263_steps : List Step
thirty_263_steps =
    does Both (fill (addr_of (block 1)) (convert U8 (const I32 (pos 263))) 4) ∷
    does Both (output U32 (load (Int U32) (block 1))) ∷ []

thirty_263_faults : faults_of (run thirty_263_program thirty_263_steps) ≡ []
unfolding at_depth count_leading_zeros
thirty_263_faults = refl

-- union word { uint32_t w; uint8_t b[4]; }; union word u; u.w = ep_in_u32(); memset(u.b, u.b[1], 4);
-- ep_out_u32(u.w);
abbrev fill_own_program : Program
fill_own_program = record {
  types = record {
    model = Ilp32;
    types = (ty.Int U32 ∷ ty.Int U8 ∷ ty.Int I32 ∷ ty.Array 1 4 ∷ ty.Aggregate 0 ∷
        ty.Ptr 1 ∷ []);
    aggregates = (record {
      tag = [];
      is_union = true;
      members = (Some (member_of 0 0 ∷ member_of 3
          0 ∷ []));
    } ∷ []);
    completed = (0 ∷ []);
  };
  blocks = (local 4 2 ∷ local 4 4 ∷ []);
  init = [];
  functions = (main_of 0 (1 ∷ []) ∷ []);
  main = 0;
}

abbrev fill_own_steps : List Step
fill_own_steps =
    does Both (input U32 (to_place (Int U32) (member (block 1) 0))) ∷
    does Both (fill (addr_of (member (block 1) 0)) (load (Int U8) (element (member (block 1) 0) 4 1 (const I32 (pos
    1)))) 4) ∷
    does Both (output U32 (load (Int U32) (member (block 1) 0))) ∷ []

fill_own_faults : faults_of (run fill_own_program fill_own_steps) ≡ (listed E1 0 4294967295 0 4294967295 ∷ [])
unfolding at_depth count_leading_zeros
fill_own_faults = refl

fill_own_cells : shapes_of (run fill_own_program fill_own_steps) ≡ Some (
    shape side.Shared 0 0 (Int I32) (between (pos 0) (pos 0)) false (Some (Fixed 0 32 ∷ [])) ∷
    shape side.Left 1 0 (Int U8) (between (pos 0) (pos 255)) false None ∷
    shape side.Right 1 0 (Int U8) (between (pos 0) (pos 255)) false None ∷
    shape side.Left 1 1 (Int U8) (between (pos 0) (pos 255)) false None ∷
    shape side.Right 1 1 (Int U8) (between (pos 0) (pos 255)) false None ∷
    shape side.Left 1 2 (Int U8) (between (pos 0) (pos 255)) false None ∷
    shape side.Right 1 2 (Int U8) (between (pos 0) (pos 255)) false None ∷
    shape side.Left 1 3 (Int U8) (between (pos 0) (pos 255)) false None ∷
    shape side.Right 1 3 (Int U8) (between (pos 0) (pos 255)) false None ∷ [])
unfolding at_depth count_leading_zeros
fill_own_cells = refl

fill_own_state : is_state_after fill_own_program (run fill_own_program fill_own_steps) ≡ true
unfolding at_depth count_leading_zeros
fill_own_state = refl

-- uint16_t a[3], x; uint8_t i; a[0] = 1; a[1] = 2; a[2] = 3; x = a[0]; i = ep_in_u8(); i = i & 1; memset(a + i, 7,
-- 3);
abbrev fill_several_program : Program
fill_several_program = record {
  types = record {
    model = Ilp32;
    types = (ty.Int I32 ∷ ty.Int U16 ∷ ty.Array 1 3 ∷ ty.Int U8 ∷ ty.Ptr 1 ∷ []);
    aggregates = [];
    completed = [];
  };
  blocks = (local 4 0 ∷ local 6 2 ∷ local 1 3 ∷ local 2 1 ∷ []);
  init = [];
  functions = (main_of 0 (1 ∷ 2 ∷ 3 ∷ []) ∷ []);
  main = 0;
}

abbrev fill_several_steps : List Step
fill_several_steps =
    does Both (assign (Int U16) (element (block 1) 3 2 (const I32 (pos 0))) (convert U16 (const I32 (pos 1)))) ∷
    does Both (assign (Int U16) (element (block 1) 3 2 (const I32 (pos 1))) (convert U16 (const I32 (pos 2)))) ∷
    does Both (assign (Int U16) (element (block 1) 3 2 (const I32 (pos 2))) (convert U16 (const I32 (pos 3)))) ∷
    does Both (assign (Int U16) (block 3) (load (Int U16) (element (block 1) 3 2 (const I32 (pos 0))))) ∷
    does Both (input U8 (to_place (Int U8) (block 2))) ∷
    does Both (assign (Int U8) (block 2) (convert U8 (binary And I32 (convert I32 (load (Int U8) (block 2))) (const
    I32 (pos 1))))) ∷
    does Both (fill (ptr_add (addr_of (block 1)) 2 (load (Int U8) (block 2)) false) (convert U8 (const I32 (pos 7)))
    3) ∷ []

fill_several_faults : faults_of (run fill_several_program fill_several_steps) ≡ []
unfolding at_depth count_leading_zeros
fill_several_faults = refl

fill_several_cells : shapes_of (run fill_several_program fill_several_steps) ≡ Some (
    shape side.Shared 0 0 (Int I32) (between (pos 0) (pos 0)) false (Some (Fixed 0 32 ∷ [])) ∷
    shape side.Left 1 0 (Int U16) (between (pos 0) (pos 65535)) true None ∷
    shape side.Right 1 0 (Int U16) (between (pos 0) (pos 65535)) true None ∷
    shape side.Left 1 2 (Int U16) (between (pos 0) (pos 65535)) true None ∷
    shape side.Right 1 2 (Int U16) (between (pos 0) (pos 65535)) true None ∷
    shape side.Left 1 4 (Int U16) (between (pos 0) (pos 65535)) true None ∷
    shape side.Right 1 4 (Int U16) (between (pos 0) (pos 65535)) true None ∷
    shape side.Shared 2 0 (Int U8) (between (pos 0) (pos 1)) false None ∷
    shape side.Shared 3 0 (Int U16) (between (pos 1) (pos 1)) false (Some (Fixed 1 16 ∷ [])) ∷ [])
unfolding at_depth count_leading_zeros
fill_several_cells = refl

fill_several_state : is_state_after fill_several_program (run fill_several_program fill_several_steps) ≡ true
unfolding at_depth count_leading_zeros
fill_several_state = refl

-- uint8_t a[3], i, x; a[0] = 1; a[1] = 2; a[2] = 3; x = a[0]; i = ep_in_u8(); i = i & 1; ep_read(a + i, 2);
-- ep_write(a, 3);
abbrev read_several_program : Program
read_several_program = record {
  types = record {
    model = Ilp32;
    types = (ty.Int I32 ∷ ty.Int U8 ∷ ty.Array 1 3 ∷ ty.Ptr 1 ∷ []);
    aggregates = [];
    completed = [];
  };
  blocks = (local 4 0 ∷ local 3 2 ∷ local 1 1 ∷ local 1 1 ∷ []);
  init = [];
  functions = (main_of 0 (1 ∷ 2 ∷ 3 ∷ []) ∷ []);
  main = 0;
}

abbrev read_several_steps : List Step
read_several_steps =
    does Both (assign (Int U8) (element (block 1) 3 1 (const I32 (pos 0))) (convert U8 (const I32 (pos 1)))) ∷
    does Both (assign (Int U8) (element (block 1) 3 1 (const I32 (pos 1))) (convert U8 (const I32 (pos 2)))) ∷
    does Both (assign (Int U8) (element (block 1) 3 1 (const I32 (pos 2))) (convert U8 (const I32 (pos 3)))) ∷
    does Both (assign (Int U8) (block 3) (load (Int U8) (element (block 1) 3 1 (const I32 (pos 0))))) ∷
    does Both (input U8 (to_place (Int U8) (block 2))) ∷
    does Both (assign (Int U8) (block 2) (convert U8 (binary And I32 (convert I32 (load (Int U8) (block 2))) (const
    I32 (pos 1))))) ∷
    does Both (read_bytes (ptr_add (addr_of (block 1)) 1 (load (Int U8) (block 2)) false) 2) ∷
    does Both (write_bytes (addr_of (block 1)) 3) ∷ []

read_several_faults : faults_of (run read_several_program read_several_steps) ≡ []
unfolding at_depth count_leading_zeros
read_several_faults = refl

read_several_cells : shapes_of (run read_several_program read_several_steps) ≡ Some (
    shape side.Shared 0 0 (Int I32) (between (pos 0) (pos 0)) false (Some (Fixed 0 32 ∷ [])) ∷
    shape side.Shared 1 0 (Int U8) (between (pos 0) (pos 255)) false None ∷
    shape side.Shared 1 1 (Int U8) (between (pos 0) (pos 255)) false None ∷
    shape side.Shared 1 2 (Int U8) (between (pos 0) (pos 255)) false None ∷
    shape side.Shared 2 0 (Int U8) (between (pos 0) (pos 1)) false None ∷
    shape side.Shared 3 0 (Int U8) (between (pos 1) (pos 1)) false (Some (Fixed 1 8 ∷ [])) ∷ [])
unfolding at_depth count_leading_zeros
read_several_cells = refl

read_several_state : is_state_after read_several_program (run read_several_program read_several_steps) ≡ true
unfolding at_depth count_leading_zeros
read_several_state = refl

-- struct s { uint8_t a; uint16_t b; uint32_t *p; } d; uint32_t x; x = 1; struct s d = {4, ep_in_u16(), &x};
-- (cleared, then set member by member)
abbrev clears_program : Program
clears_program = record {
  types = record {
    model = Ilp32;
    types = (ty.Int U8 ∷ ty.Int U16 ∷ ty.Int U32 ∷ ty.Ptr 2 ∷ ty.Aggregate 0 ∷ ty.Int
        I32 ∷ []);
    aggregates = (record {
      tag = [];
      is_union = false;
      members = (Some (member_of 0 0 ∷ member_of 1 2 ∷
          member_of 3 4 ∷ []));
    } ∷ []);
    completed = (0 ∷ []);
  };
  blocks = (local 4 5 ∷ local 4 2 ∷ local 8 4 ∷ []);
  init = [];
  functions = (main_of 0 (1 ∷ 2 ∷ []) ∷ []);
  main = 0;
}

abbrev clears_steps : List Step
clears_steps =
    does Both (assign (Int U32) (block 1) (convert U32 (const I32 (pos 1)))) ∷
    does Both (clear (block 2) 4) ∷
    does Both (assign (Int U8) (member (block 2) 0) (convert U8 (const I32 (pos 4)))) ∷
    does Both (assign Pointer (member (block 2) 4) (addr_of (block 1))) ∷
    does Both (input U16 (to_place (Int U16) (member (block 2) 2))) ∷ []

clears_faults : faults_of (run clears_program clears_steps) ≡ []
unfolding at_depth count_leading_zeros
clears_faults = refl

clears_cells : shapes_of (run clears_program clears_steps) ≡ Some (
    shape side.Shared 0 0 (Int I32) (between (pos 0) (pos 0)) false (Some (Fixed 0 32 ∷ [])) ∷
    shape side.Shared 1 0 (Int U32) (between (pos 1) (pos 1)) false (Some (Fixed 1 32 ∷ [])) ∷
    shape side.Shared 2 0 (Int U8) (between (pos 4) (pos 4)) false (Some (Fixed 4 8 ∷ [])) ∷
    shape side.Shared 2 1 (Int U8) nothing_known true None ∷
    shape side.Shared 2 2 (Int U16) (between (pos 0) (pos 65535)) false None ∷
    shape side.Shared 2 4 Pointer (points false ((1, (pos 0), (pos 0)) ∷ [])) false None ∷ [])
unfolding at_depth count_leading_zeros
clears_cells = refl

clears_state : is_state_after clears_program (run clears_program clears_steps) ≡ true
unfolding at_depth count_leading_zeros
clears_state = refl

-- union word { uint32_t w; uint8_t b[4]; }; union word t, u; uint8_t i; uint32_t x; t.w = 1; i = t.b[0]; u.w =
-- ep_in_u32(); u.b[i] = u.b[2]; x = u.b[0]; ep_write(&u, 4);
abbrev waits_program : Program
waits_program = record {
  types = record {
    model = Ilp32;
    types = (ty.Int U32 ∷ ty.Int U8 ∷ ty.Int I32 ∷ ty.Array 1 4 ∷ ty.Aggregate 0 ∷
        ty.Ptr 4 ∷ []);
    aggregates = (record {
      tag = [];
      is_union = true;
      members = (Some (member_of 0 0 ∷ member_of 3
          0 ∷ []));
    } ∷ []);
    completed = (0 ∷ []);
  };
  blocks = (local 4 2 ∷ local 4 4 ∷ local 4 4 ∷ local 1 1 ∷ local 4 0 ∷ []);
  init = [];
  functions = (main_of 0 (1 ∷ 2 ∷ 3 ∷ 4 ∷ []) ∷ []);
  main = 0;
}

abbrev waits_steps : List Step
waits_steps =
    does Both (assign (Int U32) (member (block 1) 0) (convert U32 (const I32 (pos 1)))) ∷
    does Both (assign (Int U8) (block 3) (load (Int U8) (element (member (block 1) 0) 4 1 (const I32 (pos 0))))) ∷
    does Both (input U32 (to_place (Int U32) (member (block 2) 0))) ∷
    does Both (assign (Int U8) (element (member (block 2) 0) 4 1 (load (Int U8) (block 3))) (load (Int U8) (element
    (member (block 2) 0) 4 1 (const I32 (pos 2))))) ∷
    does Both (assign (Int U32) (block 4) (convert U32 (load (Int U8) (element (member (block 2) 0) 4 1 (const I32
    (pos 0)))))) ∷
    does Both (write_bytes (addr_of (block 2)) 4) ∷ []

waits_faults : faults_of (run waits_program waits_steps)
    ≡ (listed E1 0 255 0 255 ∷ listed E1 0 255 0 255 ∷ listed E1 0 255 0 255 ∷ listed E1 0 255 0 255 ∷ [])
unfolding at_depth count_leading_zeros
waits_faults = refl

waits_cells : shapes_of (run waits_program waits_steps) ≡ Some (
    shape side.Shared 0 0 (Int I32) (between (pos 0) (pos 0)) false (Some (Fixed 0 32 ∷ [])) ∷
    shape side.Shared 1 0 (Int U32) (between (pos 1) (pos 1)) false (Some (Fixed 1 32 ∷ [])) ∷
    shape side.Left 2 0 (Int U8) (between (pos 0) (pos 255)) false None ∷
    shape side.Right 2 0 (Int U8) (between (pos 0) (pos 255)) false None ∷
    shape side.Left 2 1 (Int U8) (between (pos 0) (pos 255)) false None ∷
    shape side.Right 2 1 (Int U8) (between (pos 0) (pos 255)) false None ∷
    shape side.Left 2 2 (Int U8) (between (pos 0) (pos 255)) false None ∷
    shape side.Right 2 2 (Int U8) (between (pos 0) (pos 255)) false None ∷
    shape side.Left 2 3 (Int U8) (between (pos 0) (pos 255)) false None ∷
    shape side.Right 2 3 (Int U8) (between (pos 0) (pos 255)) false None ∷
    shape side.Left 3 0 (Int U8) (between (pos 1) (pos 1)) false (Some (Fixed 1 8 ∷ [])) ∷
    shape side.Right 3 0 (Int U8) (between (pos 0) (pos 0)) false (Some (Fixed 0 8 ∷ [])) ∷
    shape side.Left 4 0 (Int U32) (between (pos 0) (pos 255)) false (Some (Bits (cell_of side.Left 2 0 U8) 0 8 ∷
    Fixed 0 24 ∷ [])) ∷
    shape side.Right 4 0 (Int U32) (between (pos 0) (pos 255)) false (Some (Bits (cell_of side.Right 2 0 U8) 0 8 ∷
    Fixed 0 24 ∷ [])) ∷ [])
unfolding at_depth count_leading_zeros
waits_cells = refl

waits_state : is_state_after waits_program (run waits_program waits_steps) ≡ true
unfolding at_depth count_leading_zeros
waits_state = refl

-- union word { uint32_t w; uint8_t b[4]; }; union word u; uint8_t b[4]; uint16_t h; u.w = ep_in_u32(); memcpy(b,
-- u.b + 1, 2); memcpy(u.b + 2, u.b, 2); h = u.b[2]; ep_out_u16(h);
abbrev parts_program : Program
parts_program = record {
  types = record {
    model = Ilp32;
    types = (ty.Int U32 ∷ ty.Int U8 ∷ ty.Int I32 ∷ ty.Array 1 4 ∷ ty.Aggregate 0 ∷
        ty.Int U16 ∷ ty.Ptr 1 ∷ []);
    aggregates = (record {
      tag = [];
      is_union = true;
      members = (Some (member_of 0 0 ∷
          member_of 3 0 ∷ []));
    } ∷ []);
    completed = (0 ∷ []);
  };
  blocks = (local 4 2 ∷ local 4 4 ∷ local 4 3 ∷ local 2 5 ∷ []);
  init = [];
  functions = (main_of 0 (1 ∷ 2 ∷ 3 ∷ []) ∷ []);
  main = 0;
}

abbrev parts_steps : List Step
parts_steps =
    does Both (input U32 (to_place (Int U32) (member (block 1) 0))) ∷
    does Both (copy_bytes (addr_of (block 2)) (ptr_add (addr_of (member (block 1) 0)) 1 (const I32 (pos 1)) false) 2)
    ∷
    does Both (copy_bytes (ptr_add (addr_of (member (block 1) 0)) 1 (const I32 (pos 2)) false) (addr_of (member
    (block 1) 0)) 2) ∷
    does Both (assign (Int U16) (block 3) (convert U16 (load (Int U8) (element (member (block 1) 0) 4 1 (const I32
    (pos 2)))))) ∷
    does Both (output U16 (load (Int U16) (block 3))) ∷ []

parts_faults : faults_of (run parts_program parts_steps) ≡ (listed E1 0 255 0 255 ∷ [])
unfolding at_depth count_leading_zeros
parts_faults = refl

parts_cells : shapes_of (run parts_program parts_steps) ≡ Some (
    shape side.Shared 0 0 (Int I32) (between (pos 0) (pos 0)) false (Some (Fixed 0 32 ∷ [])) ∷
    shape side.Left 1 0 (Int U8) (between (pos 0) (pos 255)) false None ∷
    shape side.Right 1 0 (Int U8) (between (pos 0) (pos 255)) false None ∷
    shape side.Left 1 1 (Int U8) (between (pos 0) (pos 255)) false None ∷
    shape side.Right 1 1 (Int U8) (between (pos 0) (pos 255)) false None ∷
    shape side.Left 1 2 (Int U8) (between (pos 0) (pos 255)) false None ∷
    shape side.Right 1 2 (Int U8) (between (pos 0) (pos 255)) false None ∷
    shape side.Left 1 3 (Int U8) (between (pos 0) (pos 255)) false None ∷
    shape side.Right 1 3 (Int U8) (between (pos 0) (pos 255)) false None ∷
    shape side.Left 2 0 (Int U8) (between (pos 0) (pos 255)) false None ∷
    shape side.Right 2 0 (Int U8) (between (pos 0) (pos 255)) false None ∷
    shape side.Left 2 1 (Int U8) (between (pos 0) (pos 255)) false None ∷
    shape side.Right 2 1 (Int U8) (between (pos 0) (pos 255)) false None ∷
    shape side.Shared 2 2 (Int U8) nothing_known true None ∷
    shape side.Shared 2 3 (Int U8) nothing_known true None ∷
    shape side.Left 3 0 (Int U16) (between (pos 0) (pos 255)) false (Some (Bits (cell_of side.Left 1 2 U8) 0 8 ∷
    Fixed 0 8 ∷ [])) ∷
    shape side.Right 3 0 (Int U16) (between (pos 0) (pos 255)) false (Some (Bits (cell_of side.Right 1 2 U8) 0 8 ∷
    Fixed 0 8 ∷ [])) ∷ [])
unfolding at_depth count_leading_zeros
parts_cells = refl

parts_state : is_state_after parts_program (run parts_program parts_steps) ≡ true
unfolding at_depth count_leading_zeros
parts_state = refl

-- uint8_t a[4], i; a[0] = 1; a[1] = 2; a[2] = 3; a[3] = 4; i = ep_in_u8(); i = i & 1; memcpy(a + 1, a + i, 2);
abbrev overlap_program : Program
overlap_program = record {
  types = record {
    model = Ilp32;
    types = (ty.Int I32 ∷ ty.Int U8 ∷ ty.Array 1 4 ∷ ty.Ptr 1 ∷ []);
    aggregates = [];
    completed = [];
  };
  blocks = (local 4 0 ∷ local 4 2 ∷ local 1 1 ∷ []);
  init = [];
  functions = (main_of 0 (1 ∷ 2 ∷ []) ∷ []);
  main = 0;
}

abbrev overlap_steps : List Step
overlap_steps =
    does Both (assign (Int U8) (element (block 1) 4 1 (const I32 (pos 0))) (convert U8 (const I32 (pos 1)))) ∷
    does Both (assign (Int U8) (element (block 1) 4 1 (const I32 (pos 1))) (convert U8 (const I32 (pos 2)))) ∷
    does Both (assign (Int U8) (element (block 1) 4 1 (const I32 (pos 2))) (convert U8 (const I32 (pos 3)))) ∷
    does Both (assign (Int U8) (element (block 1) 4 1 (const I32 (pos 3))) (convert U8 (const I32 (pos 4)))) ∷
    does Both (input U8 (to_place (Int U8) (block 2))) ∷
    does Both (assign (Int U8) (block 2) (convert U8 (binary And I32 (convert I32 (load (Int U8) (block 2))) (const
    I32 (pos 1))))) ∷
    does Both (copy_bytes (ptr_add (addr_of (block 1)) 1 (const I32 (pos 1)) false) (ptr_add (addr_of (block 1)) 1
    (load (Int U8) (block 2)) false) 2) ∷ []

overlap_faults : faults_of (run overlap_program overlap_steps) ≡ (listed U9 0 0 0 0 ∷ [])
unfolding at_depth count_leading_zeros
overlap_faults = refl

overlap_cells : shapes_of (run overlap_program overlap_steps) ≡ None
unfolding at_depth count_leading_zeros
overlap_cells = refl

overlap_state : is_state_after overlap_program (run overlap_program overlap_steps) ≡ true
unfolding at_depth count_leading_zeros
overlap_state = refl

-- uint16_t a[2], x; uint8_t i; a[0] = 1; a[1] = 2; x = a[0]; i = ep_in_u8(); i = i & 1; memcpy(a + i, &x, 2);
abbrev copy_several_program : Program
copy_several_program = record {
  types = record {
    model = Ilp32;
    types = (ty.Int I32 ∷ ty.Int U16 ∷ ty.Array 1 2 ∷ ty.Int U8 ∷ ty.Ptr 1 ∷ []);
    aggregates = [];
    completed = [];
  };
  blocks = (local 4 0 ∷ local 4 2 ∷ local 1 3 ∷ local 2 1 ∷ []);
  init = [];
  functions = (main_of 0 (1 ∷ 2 ∷ 3 ∷ []) ∷ []);
  main = 0;
}

abbrev copy_several_steps : List Step
copy_several_steps =
    does Both (assign (Int U16) (element (block 1) 2 2 (const I32 (pos 0))) (convert U16 (const I32 (pos 1)))) ∷
    does Both (assign (Int U16) (element (block 1) 2 2 (const I32 (pos 1))) (convert U16 (const I32 (pos 2)))) ∷
    does Both (assign (Int U16) (block 3) (load (Int U16) (element (block 1) 2 2 (const I32 (pos 0))))) ∷
    does Both (input U8 (to_place (Int U8) (block 2))) ∷
    does Both (assign (Int U8) (block 2) (convert U8 (binary And I32 (convert I32 (load (Int U8) (block 2))) (const
    I32 (pos 1))))) ∷
    does Both (copy_bytes (ptr_add (addr_of (block 1)) 2 (load (Int U8) (block 2)) false) (addr_of (block 3)) 2) ∷ []

copy_several_faults : faults_of (run copy_several_program copy_several_steps) ≡ []
unfolding at_depth count_leading_zeros
copy_several_faults = refl

copy_several_cells : shapes_of (run copy_several_program copy_several_steps) ≡ Some (
    shape side.Shared 0 0 (Int I32) (between (pos 0) (pos 0)) false (Some (Fixed 0 32 ∷ [])) ∷
    shape side.Left 1 0 (Int U16) (between (pos 0) (pos 65535)) true None ∷
    shape side.Right 1 0 (Int U16) (between (pos 0) (pos 65535)) true None ∷
    shape side.Left 1 2 (Int U16) (between (pos 0) (pos 65535)) true None ∷
    shape side.Right 1 2 (Int U16) (between (pos 0) (pos 65535)) true None ∷
    shape side.Shared 2 0 (Int U8) (between (pos 0) (pos 1)) false None ∷
    shape side.Shared 3 0 (Int U16) (between (pos 1) (pos 1)) false (Some (Fixed 1 16 ∷ [])) ∷ [])
unfolding at_depth count_leading_zeros
copy_several_cells = refl

copy_several_state : is_state_after copy_several_program (run copy_several_program copy_several_steps) ≡ true
unfolding at_depth count_leading_zeros
copy_several_state = refl

-- union { uint8_t *p; struct { uint8_t c[2]; struct {} e; } s; } u; uint8_t x; u.p = &x; then u.s.e is cleared.
-- It has no bytes, but lies inside of the pointer, of which nothing is then known.
abbrev clears_none_program : Program
clears_none_program = record {
  types = record {
    model = Ilp32;
    types = (ty.Int U8 ∷ ty.Int I32 ∷ ty.Ptr 0 ∷ ty.Aggregate 0 ∷ ty.Array 0 2 ∷ ty.Aggregate 1 ∷ ty.Aggregate 2 ∷ []);
    aggregates = (record {
      tag = [];
      is_union = false;
      members = (Some []);
    } ∷ record {
      tag = [];
      is_union = false;
      members = (Some (member_of 4 0 ∷ member_of 3 2 ∷ []));
    } ∷ record {
      tag = [];
      is_union = true;
      members = (Some (member_of 2 0 ∷ member_of 5 0 ∷ []));
    } ∷ []);
    completed = (0 ∷ 1 ∷ 2 ∷ []);
  };
  blocks = (local 4 1 ∷ local 4 6 ∷ local 1 0 ∷ []);
  init = [];
  functions = (main_of 0 (1 ∷ 2 ∷ []) ∷ []);
  main = 0;
}

abbrev clears_none_steps : List Step
clears_none_steps =
    does Both (assign Pointer (member (block 1) 0) (addr_of (block 2))) ∷
    does Both (clear (member (member (block 1) 0) 2) 3) ∷ []

clears_none_faults : faults_of (run clears_none_program clears_none_steps) ≡ []
unfolding at_depth count_leading_zeros
clears_none_faults = refl

clears_none_cells : shapes_of (run clears_none_program clears_none_steps) ≡ Some (
    shape side.Shared 0 0 (Int I32) (between (pos 0) (pos 0)) false (Some (Fixed 0 32 ∷ [])) ∷
    shape side.Shared 2 0 (Int U8) nothing_known true None ∷ [])
unfolding at_depth count_leading_zeros
clears_none_cells = refl

clears_none_state : is_state_after clears_none_program (run clears_none_program clears_none_steps) ≡ true
unfolding at_depth count_leading_zeros
clears_none_state = refl
