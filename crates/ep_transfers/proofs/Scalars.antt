-- Worked rows: numbers, and what is put out. What each shows is what a second implementation finds of the same program.
use Rattle.std.proofs.Common.{◌≡◌, pos, true, false, List, [], ◌∷◌, Some, None, refl}
use Rattle.ep_int.specs.declared.types.IntType.TheVariants.{U8, U16, I32, U32}
use Rattle.ep_int.specs.declared.types.BinOp.TheVariants.{Add, Div, And, Or, Shl, Shr}
use Rattle.ep_int.specs.declared.types.Model.TheVariants.{Ilp32}
use Rattle.ep_int.specs.declared.types.Scalar.TheVariants.{Int, Pointer}
use Rattle.ep_layout.specs.declared.types.Ty.TheVariants as ty
use Rattle.ep_layout.specs.Table.{at_depth}
use lib.Count.{count_leading_zeros}
use Rattle.ep_alarms.specs.declared.types.AlarmKind.TheVariants.{U1, U2, U4, E1, E2}
use Rattle.ep_bitslice.specs.declared.cell.Side.TheVariants as side
use Rattle.ep_bitslice.specs.declared.segment.Segment.TheVariants.{Bits, Fixed}
use Rattle.ep_core.specs.Program.{block, member, element, const, load, addr_of, binary, convert, assign, input}
use Rattle.ep_core.specs.Program.{output, read_bytes, write_bytes, returns, Program}
use Rattle.ep_equalities.specs.declared.pair.Mode.TheVariants.{Both, Left, Right}
use Rattle.ep_transfers.specs.Steps.{nothing_known, between, points, shape, does, Step, run, faults_of}
use Rattle.ep_transfers.specs.Steps.{shapes_of, is_state_after, local, shared_block, member_of, main_of}
use Rattle.ep_transfers.specs.Steps.{to_place, listed, cell_of}

-- uint32_t x; x = ep_in_u32(); ep_write(&x, 4);
abbrev two_program : Program
two_program = record {
  types = record {
    model = Ilp32;
    types = (ty.Int I32 ∷ ty.Int U32 ∷ ty.Ptr 1 ∷ []);
    aggregates = [];
    completed = [];
  };
  blocks = (local 4 0 ∷ local 4 1 ∷ []);
  init = [];
  functions = (main_of 0 (1 ∷ []) ∷ []);
  main = 0;
}

abbrev two_steps : List Step
two_steps =
    does Both (input U32 (to_place (Int U32) (block 1))) ∷
    does Both (write_bytes (addr_of (block 1)) 4) ∷ []

two_faults : faults_of (run two_program two_steps)
    ≡ (listed E1 0 255 0 255 ∷ listed E1 0 255 0 255 ∷ listed E1 0 255 0 255 ∷ listed E1 0 255 0 255 ∷ [])
unfolding at_depth count_leading_zeros
two_faults = refl

two_cells : shapes_of (run two_program two_steps) ≡ Some (
    shape side.Shared 0 0 (Int I32) (between (pos 0) (pos 0)) false (Some (Fixed 0 32 ∷ [])) ∷
    shape side.Shared 1 0 (Int U32) (between (pos 0) (pos 4294967295)) false None ∷ [])
unfolding at_depth count_leading_zeros
two_cells = refl

two_state : is_state_after two_program (run two_program two_steps) ≡ true
unfolding at_depth count_leading_zeros
two_state = refl

-- uint32_t x; uint8_t b[4]; x = ep_in_u32(); b[0] = x >> 24; b[1] = x >> 16; b[2] = x >> 8; b[3] = x; ep_write(b,
-- 4);
abbrev three_program : Program
three_program = record {
  types = record {
    model = Ilp32;
    types = (ty.Int I32 ∷ ty.Int U32 ∷ ty.Int U8 ∷ ty.Array 2 4 ∷ ty.Ptr 2 ∷ []);
    aggregates = [];
    completed = [];
  };
  blocks = (local 4 0 ∷ local 4 1 ∷ local 4 3 ∷ []);
  init = [];
  functions = (main_of 0 (1 ∷ 2 ∷ []) ∷ []);
  main = 0;
}

abbrev three_steps : List Step
three_steps =
    does Both (input U32 (to_place (Int U32) (block 1))) ∷
    does Both (assign (Int U8) (element (block 2) 4 1 (const I32 (pos 0))) (convert U8 (binary Shr U32 (load (Int
    U32) (block 1)) (const I32 (pos 24))))) ∷
    does Both (assign (Int U8) (element (block 2) 4 1 (const I32 (pos 1))) (convert U8 (binary Shr U32 (load (Int
    U32) (block 1)) (const I32 (pos 16))))) ∷
    does Both (assign (Int U8) (element (block 2) 4 1 (const I32 (pos 2))) (convert U8 (binary Shr U32 (load (Int
    U32) (block 1)) (const I32 (pos 8))))) ∷
    does Both (assign (Int U8) (element (block 2) 4 1 (const I32 (pos 3))) (convert U8 (load (Int U32) (block 1)))) ∷
    does Both (write_bytes (addr_of (block 2)) 4) ∷ []

three_faults : faults_of (run three_program three_steps) ≡ []
unfolding at_depth count_leading_zeros
three_faults = refl

three_cells : shapes_of (run three_program three_steps) ≡ Some (
    shape side.Shared 0 0 (Int I32) (between (pos 0) (pos 0)) false (Some (Fixed 0 32 ∷ [])) ∷
    shape side.Shared 1 0 (Int U32) (between (pos 0) (pos 4294967295)) false None ∷
    shape side.Shared 2 0 (Int U8) (between (pos 0) (pos 255)) false (Some (Bits (cell_of side.Shared 1 0 U32) 24 32
    ∷ [])) ∷
    shape side.Shared 2 1 (Int U8) (between (pos 0) (pos 255)) false (Some (Bits (cell_of side.Shared 1 0 U32) 16 24
    ∷ [])) ∷
    shape side.Shared 2 2 (Int U8) (between (pos 0) (pos 255)) false (Some (Bits (cell_of side.Shared 1 0 U32) 8 16 ∷
    [])) ∷
    shape side.Shared 2 3 (Int U8) (between (pos 0) (pos 255)) false (Some (Bits (cell_of side.Shared 1 0 U32) 0 8 ∷
    [])) ∷ [])
unfolding at_depth count_leading_zeros
three_cells = refl

three_state : is_state_after three_program (run three_program three_steps) ≡ true
unfolding at_depth count_leading_zeros
three_state = refl

-- uint16_t x, y; ep_read(&x, 2); #if little: y = (x >> 8) | (x << 8); #else: y = x; #endif ep_out_u16(y);
abbrev four_program : Program
four_program = record {
  types = record { model = Ilp32; types = (ty.Int I32 ∷ ty.Int U16 ∷ []); aggregates = []; completed = [] };
  blocks = (local 4 0 ∷ local 2 1 ∷ local 2 1 ∷ []);
  init = [];
  functions = (main_of 0 (1 ∷ 2 ∷ []) ∷ []);
  main = 0;
}

abbrev four_steps : List Step
four_steps =
    does Both (read_bytes (addr_of (block 1)) 2) ∷
    does Left (assign (Int U16) (block 2) (convert U16 (binary Or I32 (binary Shr I32 (convert I32 (load (Int U16)
    (block 1))) (const I32 (pos 8))) (binary Shl I32 (convert I32 (load (Int U16) (block 1))) (const I32 (pos
    8)))))) ∷
    does Right (assign (Int U16) (block 2) (load (Int U16) (block 1))) ∷
    does Both (output U16 (load (Int U16) (block 2))) ∷ []

four_faults : faults_of (run four_program four_steps) ≡ []
unfolding at_depth count_leading_zeros
four_faults = refl

-- uint16_t x, t; ep_read(&x, 2); #if little: t = x; x = (t >> 8) | (t << 8); #endif ep_out_u16(x);
abbrev five_program : Program
five_program = record {
  types = record {
    model = Ilp32;
    types = (ty.Int I32 ∷ ty.Int U16 ∷ ty.Ptr 1 ∷ []);
    aggregates = [];
    completed = [];
  };
  blocks = (local 4 0 ∷ local 2 1 ∷ local 2 1 ∷ []);
  init = [];
  functions = (main_of 0 (1 ∷ 2 ∷ []) ∷ []);
  main = 0;
}

abbrev five_steps : List Step
five_steps =
    does Both (read_bytes (addr_of (block 1)) 2) ∷
    does Left (assign (Int U16) (block 2) (load (Int U16) (block 1))) ∷
    does Left (assign (Int U16) (block 1) (convert U16 (binary Or I32 (binary Shr I32 (convert I32 (load (Int U16)
    (block 2))) (const I32 (pos 8))) (binary Shl I32 (convert I32 (load (Int U16) (block 2))) (const I32 (pos
    8)))))) ∷
    does Both (output U16 (load (Int U16) (block 1))) ∷ []

five_faults : faults_of (run five_program five_steps) ≡ []
unfolding at_depth count_leading_zeros
five_faults = refl

five_cells : shapes_of (run five_program five_steps) ≡ Some (
    shape side.Shared 0 0 (Int I32) (between (pos 0) (pos 0)) false (Some (Fixed 0 32 ∷ [])) ∷
    shape side.Left 1 0 (Int U16) (between (pos 0) (pos 65535)) false (Some (Bits (cell_of side.Right 1 1 U8) 0 8 ∷
    Bits (cell_of side.Right 1 0 U8) 0 8 ∷ [])) ∷
    shape side.Right 1 0 (Int U8) (between (pos 0) (pos 255)) false None ∷
    shape side.Right 1 1 (Int U8) (between (pos 0) (pos 255)) false None ∷
    shape side.Left 2 0 (Int U16) (between (pos 0) (pos 65535)) false (Some (Bits (cell_of side.Right 1 0 U8) 0 8 ∷
    Bits (cell_of side.Right 1 1 U8) 0 8 ∷ [])) ∷
    shape side.Right 2 0 (Int U16) nothing_known true None ∷ [])
unfolding at_depth count_leading_zeros
five_cells = refl

five_state : is_state_after five_program (run five_program five_steps) ≡ true
unfolding at_depth count_leading_zeros
five_state = refl

-- uint16_t x, t; ep_read(&x, 2); #if little: t = x; x = (t >> 8) | (t << 8); t = x; x = (t >> 8) | (t << 8); #endif
-- ep_out_u16(x);
abbrev six_program : Program
six_program = record {
  types = record { model = Ilp32; types = (ty.Int I32 ∷ ty.Int U16 ∷ []); aggregates = []; completed = [] };
  blocks = (local 4 0 ∷ local 2 1 ∷ local 2 1 ∷ []);
  init = [];
  functions = (main_of 0 (1 ∷ 2 ∷ []) ∷ []);
  main = 0;
}

abbrev six_steps : List Step
six_steps =
    does Both (read_bytes (addr_of (block 1)) 2) ∷
    does Left (assign (Int U16) (block 2) (load (Int U16) (block 1))) ∷
    does Left (assign (Int U16) (block 1) (convert U16 (binary Or I32 (binary Shr I32 (convert I32 (load (Int U16)
    (block 2))) (const I32 (pos 8))) (binary Shl I32 (convert I32 (load (Int U16) (block 2))) (const I32 (pos
    8)))))) ∷
    does Left (assign (Int U16) (block 2) (load (Int U16) (block 1))) ∷
    does Left (assign (Int U16) (block 1) (convert U16 (binary Or I32 (binary Shr I32 (convert I32 (load (Int U16)
    (block 2))) (const I32 (pos 8))) (binary Shl I32 (convert I32 (load (Int U16) (block 2))) (const I32 (pos
    8)))))) ∷
    does Both (output U16 (load (Int U16) (block 1))) ∷ []

six_faults : faults_of (run six_program six_steps) ≡ listed E1 0 65535 0 65535 ∷ []
unfolding at_depth count_leading_zeros
six_faults = refl

-- union word { uint32_t w; uint8_t b[4]; }; union word u; uint8_t a[2]; uint32_t z; u.w = 1; a[0] = 0; a[1] = 0; z
-- = u.b[0]; a[z] = 7; ep_write(a, 2);
abbrev nine_program : Program
nine_program = record {
  types = record {
    model = Ilp32;
    types = (ty.Int U32 ∷ ty.Int U8 ∷ ty.Int I32 ∷ ty.Array 1 4 ∷ ty.Aggregate 0 ∷
        ty.Array 1 2 ∷ ty.Ptr 1 ∷ []);
    aggregates = (record {
      tag = [];
      is_union = true;
      members = (Some (member_of 0 0
          ∷ member_of 3 0 ∷ []));
    } ∷ []);
    completed = (0 ∷ []);
  };
  blocks = (local 4 2 ∷ local 4 4 ∷ local 2 5 ∷ local 4 0 ∷ []);
  init = [];
  functions = (main_of 0 (1 ∷ 2 ∷ 3 ∷ []) ∷ []);
  main = 0;
}

abbrev nine_steps : List Step
nine_steps =
    does Both (assign (Int U32) (member (block 1) 0) (convert U32 (const I32 (pos 1)))) ∷
    does Both (assign (Int U8) (element (block 2) 2 1 (const I32 (pos 0))) (convert U8 (const I32 (pos 0)))) ∷
    does Both (assign (Int U8) (element (block 2) 2 1 (const I32 (pos 1))) (convert U8 (const I32 (pos 0)))) ∷
    does Both (assign (Int U32) (block 3) (convert U32 (load (Int U8) (element (member (block 1) 0) 4 1 (const I32
    (pos 0)))))) ∷
    does Both (assign (Int U8) (element (block 2) 2 1 (load (Int U32) (block 3))) (convert U8 (const I32 (pos 7)))) ∷
    does Both (write_bytes (addr_of (block 2)) 2) ∷ []

nine_faults : faults_of (run nine_program nine_steps) ≡ (listed E1 0 0 7 7 ∷ listed E1 7 7 0 0 ∷ [])
unfolding at_depth count_leading_zeros
nine_faults = refl

nine_cells : shapes_of (run nine_program nine_steps) ≡ Some (
    shape side.Shared 0 0 (Int I32) (between (pos 0) (pos 0)) false (Some (Fixed 0 32 ∷ [])) ∷
    shape side.Shared 1 0 (Int U32) (between (pos 1) (pos 1)) false (Some (Fixed 1 32 ∷ [])) ∷
    shape side.Left 2 0 (Int U8) (between (pos 0) (pos 0)) false (Some (Fixed 0 8 ∷ [])) ∷
    shape side.Right 2 0 (Int U8) (between (pos 7) (pos 7)) false (Some (Fixed 7 8 ∷ [])) ∷
    shape side.Left 2 1 (Int U8) (between (pos 7) (pos 7)) false (Some (Fixed 7 8 ∷ [])) ∷
    shape side.Right 2 1 (Int U8) (between (pos 0) (pos 0)) false (Some (Fixed 0 8 ∷ [])) ∷
    shape side.Left 3 0 (Int U32) (between (pos 1) (pos 1)) false (Some (Fixed 1 32 ∷ [])) ∷
    shape side.Right 3 0 (Int U32) (between (pos 0) (pos 0)) false (Some (Fixed 0 32 ∷ [])) ∷ [])
unfolding at_depth count_leading_zeros
nine_cells = refl

nine_state : is_state_after nine_program (run nine_program nine_steps) ≡ true
unfolding at_depth count_leading_zeros
nine_state = refl

-- int32_t a = 2147483647; a = a + 1; ep_out_i32(a);
abbrev twelve_program : Program
twelve_program = record {
  types = record { model = Ilp32; types = (ty.Int I32 ∷ ty.Int U32 ∷ []); aggregates = []; completed = [] };
  blocks = (local 4 0 ∷ local 4 0 ∷ []);
  init = [];
  functions = (main_of 0 (1 ∷ []) ∷ []);
  main = 0;
}

abbrev twelve_steps : List Step
twelve_steps =
    does Both (assign (Int I32) (block 1) (const I32 (pos 2147483647))) ∷
    does Both (assign (Int I32) (block 1) (binary Add I32 (load (Int I32) (block 1)) (const I32 (pos 1)))) ∷
    does Both (output I32 (load (Int I32) (block 1))) ∷ []

twelve_faults : faults_of (run twelve_program twelve_steps)
    ≡ listed U1 2147483648 2147483648 2147483648 2147483648 ∷ []
unfolding at_depth count_leading_zeros
twelve_faults = refl

-- uint32_t a = 4294967295u; a = a + 1; ep_out_u32(a);
abbrev twelve_unsigned_program : Program
twelve_unsigned_program = record {
  types = record { model = Ilp32; types = (ty.Int I32 ∷ ty.Int U32 ∷ []); aggregates = []; completed = [] };
  blocks = (local 4 0 ∷ local 4 1 ∷ []);
  init = [];
  functions = (main_of 0 (1 ∷ []) ∷ []);
  main = 0;
}

abbrev twelve_unsigned_steps : List Step
twelve_unsigned_steps =
    does Both (assign (Int U32) (block 1) (const U32 (pos 4294967295))) ∷
    does Both (assign (Int U32) (block 1) (binary Add U32 (load (Int U32) (block 1)) (const U32 (pos 1)))) ∷
    does Both (output U32 (load (Int U32) (block 1))) ∷ []

twelve_unsigned_faults : faults_of (run twelve_unsigned_program twelve_unsigned_steps) ≡ []
unfolding at_depth count_leading_zeros
twelve_unsigned_faults = refl

-- uint32_t x, y; y = ep_in_u32(); y = y & 3; x = 100 / y; ep_out_u32(x);
abbrev thirteen_program : Program
thirteen_program = record {
  types = record { model = Ilp32; types = (ty.Int I32 ∷ ty.Int U32 ∷ []); aggregates = []; completed = [] };
  blocks = (local 4 0 ∷ local 4 1 ∷ local 4 1 ∷ []);
  init = [];
  functions = (main_of 0 (1 ∷ 2 ∷ []) ∷ []);
  main = 0;
}

abbrev thirteen_steps : List Step
thirteen_steps =
    does Both (input U32 (to_place (Int U32) (block 2))) ∷
    does Both (assign (Int U32) (block 2) (binary And U32 (load (Int U32) (block 2)) (const U32 (pos 3)))) ∷
    does Both (assign (Int U32) (block 1) (binary Div U32 (const U32 (pos 100)) (load (Int U32) (block 2)))) ∷
    does Both (output U32 (load (Int U32) (block 1))) ∷ []

thirteen_faults : faults_of (run thirteen_program thirteen_steps) ≡ listed U2 0 3 0 3 ∷ []
unfolding at_depth count_leading_zeros
thirteen_faults = refl

-- union word { uint32_t w; uint8_t b[4]; }; union word u; u.w = 1; return u.b[0];
abbrev twenty_seven_program : Program
twenty_seven_program = record {
  types = record {
    model = Ilp32;
    types = (ty.Int U32 ∷ ty.Int U8 ∷ ty.Int I32 ∷ ty.Array 1 4 ∷ ty.Aggregate 0 ∷ []);
    aggregates = (record { tag = []; is_union = true; members = (Some (member_of 0 0 ∷ member_of 3 0 ∷ [])) } ∷
        []);
    completed = (0 ∷ []);
  };
  blocks = (local 4 2 ∷ local 4 4 ∷ []);
  init = [];
  functions = (main_of 0 (1 ∷ []) ∷ []);
  main = 0;
}

abbrev twenty_seven_steps : List Step
twenty_seven_steps =
    does Both (assign (Int U32) (member (block 1) 0) (convert U32 (const I32 (pos 1)))) ∷
    does Both (returns (Some (convert I32 (load (Int U8) (element (member (block 1) 0) 4 1 (const I32 (pos 0))))))) ∷
    []

twenty_seven_faults : faults_of (run twenty_seven_program twenty_seven_steps) ≡ (listed E1 1 1 0 0 ∷ [])
unfolding at_depth count_leading_zeros
twenty_seven_faults = refl

twenty_seven_cells : shapes_of (run twenty_seven_program twenty_seven_steps) ≡ Some (
    shape side.Left 0 0 (Int I32) (between (pos 1) (pos 1)) false (Some (Fixed 1 32 ∷ [])) ∷
    shape side.Right 0 0 (Int I32) (between (pos 0) (pos 0)) false (Some (Fixed 0 32 ∷ [])) ∷
    shape side.Shared 1 0 (Int U32) (between (pos 1) (pos 1)) false (Some (Fixed 1 32 ∷ [])) ∷ [])
unfolding at_depth count_leading_zeros
twenty_seven_cells = refl

twenty_seven_state : is_state_after twenty_seven_program (run twenty_seven_program twenty_seven_steps) ≡ true
unfolding at_depth count_leading_zeros
twenty_seven_state = refl

-- uint32_t x; ep_out_u32(x);
abbrev twenty_eight_program : Program
twenty_eight_program = record {
  types = record { model = Ilp32; types = (ty.Int I32 ∷ ty.Int U32 ∷ []); aggregates = []; completed = [] };
  blocks = (local 4 0 ∷ local 4 1 ∷ []);
  init = [];
  functions = (main_of 0 (1 ∷ []) ∷ []);
  main = 0;
}

abbrev twenty_eight_steps : List Step
twenty_eight_steps =
    does Both (output U32 (load (Int U32) (block 1))) ∷ []

twenty_eight_faults : faults_of (run twenty_eight_program twenty_eight_steps) ≡ listed U4 0 0 0 0 ∷ []
unfolding at_depth count_leading_zeros
twenty_eight_faults = refl

-- uint16_t g = 3; uint8_t a[3], i, y; uint16_t x; a[0] = 1; a[1] = 2; a[2] = 3; y = a[1]; i = ep_in_u8(); i = i &
-- 1; a[i] = 9; x = a[0] | a[1]; ep_out_u16(x); ep_out_u16(g);
abbrev weak_program : Program
weak_program = record {
  types = record {
    model = Ilp32;
    types = (ty.Int U16 ∷ ty.Int I32 ∷ ty.Int U8 ∷ ty.Array 2 3 ∷ []);
    aggregates = [];
    completed = [];
  };
  blocks = (shared_block 2 0 ∷ local 4 1 ∷ local 3 3 ∷ local 1 2 ∷ local 2 0 ∷ local 1 2 ∷ []);
  init = (record { block = 0; offset = 0; t = U16; value = (pos 3) } ∷ []);
  functions = (main_of 1 (2 ∷ 3 ∷ 4 ∷ 5 ∷ []) ∷ []);
  main = 0;
}

abbrev weak_steps : List Step
weak_steps =
    does Both (assign (Int U8) (element (block 2) 3 1 (const I32 (pos 0))) (convert U8 (const I32 (pos 1)))) ∷
    does Both (assign (Int U8) (element (block 2) 3 1 (const I32 (pos 1))) (convert U8 (const I32 (pos 2)))) ∷
    does Both (assign (Int U8) (element (block 2) 3 1 (const I32 (pos 2))) (convert U8 (const I32 (pos 3)))) ∷
    does Both (assign (Int U8) (block 5) (load (Int U8) (element (block 2) 3 1 (const I32 (pos 1))))) ∷
    does Both (input U8 (to_place (Int U8) (block 3))) ∷
    does Both (assign (Int U8) (block 3) (convert U8 (binary And I32 (convert I32 (load (Int U8) (block 3))) (const
    I32 (pos 1))))) ∷
    does Both (assign (Int U8) (element (block 2) 3 1 (load (Int U8) (block 3))) (convert U8 (const I32 (pos 9)))) ∷
    does Both (assign (Int U16) (block 4) (convert U16 (binary Or I32 (convert I32 (load (Int U8) (element (block 2)
    3 1 (const I32 (pos 0))))) (convert I32 (load (Int U8) (element (block 2) 3 1 (const I32 (pos 1)))))))) ∷
    does Both (output U16 (load (Int U16) (block 4))) ∷
    does Both (output U16 (load (Int U16) (block 0))) ∷ []

weak_faults : faults_of (run weak_program weak_steps) ≡ []
unfolding at_depth count_leading_zeros
weak_faults = refl

weak_cells : shapes_of (run weak_program weak_steps) ≡ Some (
    shape side.Shared 0 0 (Int U16) (between (pos 3) (pos 3)) false (Some (Fixed 3 16 ∷ [])) ∷
    shape side.Shared 1 0 (Int I32) (between (pos 0) (pos 0)) false (Some (Fixed 0 32 ∷ [])) ∷
    shape side.Shared 2 0 (Int U8) (between (pos 1) (pos 9)) false None ∷
    shape side.Shared 2 1 (Int U8) (between (pos 2) (pos 9)) false None ∷
    shape side.Shared 2 2 (Int U8) (between (pos 3) (pos 3)) false (Some (Fixed 3 8 ∷ [])) ∷
    shape side.Shared 3 0 (Int U8) (between (pos 0) (pos 1)) false None ∷
    shape side.Shared 4 0 (Int U16) (between (pos 2) (pos 15)) false None ∷
    shape side.Shared 5 0 (Int U8) (between (pos 2) (pos 2)) false (Some (Fixed 2 8 ∷ [])) ∷ [])
unfolding at_depth count_leading_zeros
weak_cells = refl

weak_state : is_state_after weak_program (run weak_program weak_steps) ≡ true
unfolding at_depth count_leading_zeros
weak_state = refl

-- uint32_t x, y; uint8_t b[4]; x = ep_in_u32(); y = x; #if little: x = 7; b[1] = 1; ep_out_u32(x); #else: y =
-- ep_in_u32(); #endif ep_out_u32(y);
abbrev one_sided_program : Program
one_sided_program = record {
  types = record {
    model = Ilp32;
    types = (ty.Int I32 ∷ ty.Int U32 ∷ ty.Int U8 ∷ ty.Array 2 4 ∷ []);
    aggregates = [];
    completed = [];
  };
  blocks = (local 4 0 ∷ local 4 1 ∷ local 4 1 ∷ local 4 3 ∷ []);
  init = [];
  functions = (main_of 0 (1 ∷ 2 ∷ 3 ∷ []) ∷ []);
  main = 0;
}

abbrev one_sided_steps : List Step
one_sided_steps =
    does Both (input U32 (to_place (Int U32) (block 1))) ∷
    does Both (assign (Int U32) (block 2) (load (Int U32) (block 1))) ∷
    does Left (assign (Int U32) (block 1) (convert U32 (const I32 (pos 7)))) ∷
    does Left (assign (Int U8) (element (block 3) 4 1 (const I32 (pos 1))) (convert U8 (const I32 (pos 1)))) ∷
    does Left (output U32 (load (Int U32) (block 1))) ∷
    does Right (input U32 (to_place (Int U32) (block 2))) ∷
    does Both (output U32 (load (Int U32) (block 2))) ∷ []

one_sided_faults : faults_of (run one_sided_program one_sided_steps)
    ≡ (listed E2 0 0 0 0 ∷ listed E2 0 0 0 0 ∷ listed E1 0 4294967295 0 4294967295 ∷ [])
unfolding at_depth count_leading_zeros
one_sided_faults = refl

one_sided_cells : shapes_of (run one_sided_program one_sided_steps) ≡ Some (
    shape side.Shared 0 0 (Int I32) (between (pos 0) (pos 0)) false (Some (Fixed 0 32 ∷ [])) ∷
    shape side.Left 1 0 (Int U32) (between (pos 7) (pos 7)) false (Some (Fixed 7 32 ∷ [])) ∷
    shape side.Right 1 0 (Int U32) (between (pos 0) (pos 4294967295)) false None ∷
    shape side.Left 2 0 (Int U32) (between (pos 0) (pos 4294967295)) false (Some (Bits (cell_of side.Right 1 0 U32) 0
    32 ∷ [])) ∷
    shape side.Right 2 0 (Int U32) (between (pos 0) (pos 4294967295)) false None ∷
    shape side.Shared 3 0 (Int U8) nothing_known true None ∷
    shape side.Left 3 1 (Int U8) (between (pos 1) (pos 1)) false (Some (Fixed 1 8 ∷ [])) ∷
    shape side.Right 3 1 (Int U8) nothing_known true None ∷
    shape side.Shared 3 2 (Int U8) nothing_known true None ∷
    shape side.Shared 3 3 (Int U8) nothing_known true None ∷ [])
unfolding at_depth count_leading_zeros
one_sided_cells = refl

one_sided_state : is_state_after one_sided_program (run one_sided_program one_sided_steps) ≡ true
unfolding at_depth count_leading_zeros
one_sided_state = refl

-- uint32_t x; #if little: ep_out_u32(x); #endif (x is undefined, and so the path ends there)
abbrev lone_output_program : Program
lone_output_program = record {
  types = record { model = Ilp32; types = (ty.Int I32 ∷ ty.Int U32 ∷ []); aggregates = []; completed = [] };
  blocks = (local 4 0 ∷ local 4 1 ∷ []);
  init = [];
  functions = (main_of 0 (1 ∷ []) ∷ []);
  main = 0;
}

abbrev lone_output_steps : List Step
lone_output_steps =
    does Left (output U32 (load (Int U32) (block 1))) ∷ []

lone_output_faults : faults_of (run lone_output_program lone_output_steps)
    ≡ listed U4 0 0 0 0 ∷ listed E2 0 0 0 0 ∷ []
unfolding at_depth count_leading_zeros
lone_output_faults = refl

-- struct s { uint8_t a; uint16_t b[2]; uint8_t *p; } g = {1, {2, 3}}; uint8_t h[3] = {1, 2}; g.a = h[1];
-- ep_out_u16(g.b[1]); return 3;
abbrev globals_program : Program
globals_program = record {
  types = record {
    model = Ilp32;
    types = (ty.Int U8 ∷ ty.Int U16 ∷ ty.Int I32 ∷ ty.Array 1 2 ∷ ty.Ptr 0 ∷
        ty.Aggregate 0 ∷ ty.Array 0 3 ∷ []);
    aggregates = (record {
      tag = [];
      is_union = false;
      members = (Some
          (member_of 0 0 ∷ member_of 3 2 ∷ member_of 4 8 ∷ []));
    } ∷ []);
    completed = (0 ∷ []);
  };
  blocks = (shared_block 12 5 ∷ shared_block 3 6 ∷ local 4 2 ∷ []);
  init = (record { block = 0; offset = 0; t = U8; value = (pos 1) } ∷ record {
    block = 0;
    offset = 2;
    t = U16;
    value
        = (pos 2);
  } ∷ record { block = 0; offset = 4; t = U16; value = (pos 3) } ∷ record {
    block = 1;
    offset = 0;
    t =
        U8;
    value = (pos 1);
  } ∷ record { block = 1; offset = 1; t = U8; value = (pos 2) } ∷ []);
  functions = (main_of 2 [] ∷ []);
  main = 0;
}

abbrev globals_steps : List Step
globals_steps =
    does Both (assign (Int U8) (member (block 0) 0) (load (Int U8) (element (block 1) 3 1 (const I32 (pos 1))))) ∷
    does Both (output U16 (load (Int U16) (element (member (block 0) 2) 2 2 (const I32 (pos 1))))) ∷
    does Both (returns (Some (const I32 (pos 3)))) ∷ []

globals_faults : faults_of (run globals_program globals_steps) ≡ []
unfolding at_depth count_leading_zeros
globals_faults = refl

globals_cells : shapes_of (run globals_program globals_steps) ≡ Some (
    shape side.Shared 0 0 (Int U8) (between (pos 2) (pos 2)) false (Some (Fixed 2 8 ∷ [])) ∷
    shape side.Shared 0 1 (Int U8) (between (pos 0) (pos 0)) false (Some (Fixed 0 8 ∷ [])) ∷
    shape side.Shared 0 2 (Int U16) (between (pos 2) (pos 2)) false (Some (Fixed 2 16 ∷ [])) ∷
    shape side.Shared 0 4 (Int U16) (between (pos 3) (pos 3)) false (Some (Fixed 3 16 ∷ [])) ∷
    shape side.Shared 0 6 (Int U8) (between (pos 0) (pos 0)) false (Some (Fixed 0 8 ∷ [])) ∷
    shape side.Shared 0 7 (Int U8) (between (pos 0) (pos 0)) false (Some (Fixed 0 8 ∷ [])) ∷
    shape side.Shared 0 8 Pointer (points true []) false None ∷
    shape side.Shared 1 0 (Int U8) (between (pos 1) (pos 1)) false (Some (Fixed 1 8 ∷ [])) ∷
    shape side.Shared 1 1 (Int U8) (between (pos 2) (pos 2)) false (Some (Fixed 2 8 ∷ [])) ∷
    shape side.Shared 1 2 (Int U8) (between (pos 0) (pos 0)) false (Some (Fixed 0 8 ∷ [])) ∷
    shape side.Shared 2 0 (Int I32) (between (pos 3) (pos 3)) false (Some (Fixed 3 32 ∷ [])) ∷ [])
unfolding at_depth count_leading_zeros
globals_cells = refl

globals_state : is_state_after globals_program (run globals_program globals_steps) ≡ true
unfolding at_depth count_leading_zeros
globals_state = refl
