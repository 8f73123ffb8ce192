-- Worked rows: calls, and blocks that come and go. What each shows is what a second implementation finds of the same
-- program.
use Rattle.std.proofs.Common.{◌≡◌, pos, true, false, List, [], ◌∷◌, Some, None, refl}
use Rattle.ep_int.specs.declared.types.IntType.TheVariants.{U8, I16, U16, I32, U32}
use Rattle.ep_int.specs.declared.types.BinOp.TheVariants.{Or, Shl, Shr}
use Rattle.ep_int.specs.declared.types.Model.TheVariants.{Ilp32}
use Rattle.ep_int.specs.declared.types.Scalar.TheVariants.{Int, Pointer}
use Rattle.ep_layout.specs.declared.types.Ty.TheVariants as ty
use Rattle.ep_layout.specs.Table.{at_depth}
use lib.Count.{count_leading_zeros}
use Rattle.ep_alarms.specs.declared.types.AlarmKind.TheVariants.{U4}
use Rattle.ep_bitslice.specs.declared.cell.Side.TheVariants as side
use Rattle.ep_bitslice.specs.declared.segment.Segment.TheVariants.{Bits, Fixed}
use Rattle.ep_core.specs.Program.{block, deref, element, const, load, addr_of, binary, convert, ptr_add, assign}
use Rattle.ep_core.specs.Program.{input, output, read_bytes, write_bytes, returns, stop, Program}
use Rattle.ep_equalities.specs.declared.pair.Mode.TheVariants.{Both, Left, Right}
use Rattle.ep_transfers.specs.Steps.{nothing_known, between, shape, does, comes, goes, passes, does_in, receives}
use Rattle.ep_transfers.specs.Steps.{Step, run, faults_of, shapes_of, is_state_after, local, shared_block}
use Rattle.ep_transfers.specs.Steps.{main_of, to_place, listed, cell_of}

-- #if little: uint16_t swap(uint16_t v) { return (v >> 8) | (v << 8); } #else: uint16_t swap(uint16_t v) { return
-- v; } #endif uint16_t x, y; ep_read(&x, 2); y = swap(x); ep_out_u16(y);
abbrev seven_program : Program
seven_program = record {
  types = record {
    model = Ilp32;
    types = (ty.Int U16 ∷ ty.Int I32 ∷ ty.Ptr 0 ∷ []);
    aggregates = [];
    completed = [];
  };
  blocks = (local 2 0 ∷ local 2 0 ∷ local 4 1 ∷ local 2 0 ∷ local 2 0 ∷ []);
  init = [];
  functions = (record {
    name = [];
    line = 1;
    params = ((1, (Int U16)) ∷ []);
    result = (Some (0, (Int U16)));
    locals =
        [];
    body = stop;
  } ∷ main_of 2 (3 ∷ 4 ∷ []) ∷ []);
  main = 1;
}

abbrev seven_steps : List Step
seven_steps =
    does Both (read_bytes (addr_of (block 3)) 2) ∷
    passes 0 Both ((load (Int U16) (block 3)) ∷ []) ∷
    comes Left [] ∷
    does_in 0 Left (returns (Some (convert U16 (binary Or I32 (binary Shr I32 (convert I32 (load (Int U16) (block
    1))) (const I32 (pos 8))) (binary Shl I32 (convert I32 (load (Int U16) (block 1))) (const I32 (pos 8))))))) ∷
    goes Left [] ∷
    comes Right [] ∷
    does_in 0 Right (returns (Some (load (Int U16) (block 1)))) ∷
    goes Right [] ∷
    goes Both (1 ∷ []) ∷
    receives 0 Both (to_place (Int U16) (block 4)) ∷
    does Both (output U16 (load (Int U16) (block 4))) ∷ []

seven_faults : faults_of (run seven_program seven_steps) ≡ []
unfolding at_depth count_leading_zeros
seven_faults = refl

seven_cells : shapes_of (run seven_program seven_steps) ≡ Some (
    shape side.Left 0 0 (Int U16) (between (pos 0) (pos 65535)) false (Some (Bits (cell_of side.Shared 3 1 U8) 0 8 ∷
    Bits (cell_of side.Shared 3 0 U8) 0 8 ∷ [])) ∷
    shape side.Right 0 0 (Int U16) (between (pos 0) (pos 65535)) false (Some (Bits (cell_of side.Shared 3 1 U8) 0 8 ∷
    Bits (cell_of side.Shared 3 0 U8) 0 8 ∷ [])) ∷
    shape side.Shared 1 0 (Int U16) nothing_known true None ∷
    shape side.Shared 2 0 (Int I32) (between (pos 0) (pos 0)) false (Some (Fixed 0 32 ∷ [])) ∷
    shape side.Shared 3 0 (Int U8) (between (pos 0) (pos 255)) false None ∷
    shape side.Shared 3 1 (Int U8) (between (pos 0) (pos 255)) false None ∷
    shape side.Shared 4 0 (Int U16) (between (pos 0) (pos 65535)) false (Some (Bits (cell_of side.Shared 3 1 U8) 0 8
    ∷ Bits (cell_of side.Shared 3 0 U8) 0 8 ∷ [])) ∷ [])
unfolding at_depth count_leading_zeros
seven_cells = refl

seven_state : is_state_after seven_program (run seven_program seven_steps) ≡ true
unfolding at_depth count_leading_zeros
seven_state = refl

-- uint32_t *g; void keep(void) { uint32_t v = 3; g = &v; } uint32_t y; keep(); y = *g; ep_out_u32(y);
abbrev sixteen_program : Program
sixteen_program = record {
  types = record {
    model = Ilp32;
    types = (ty.Int U32 ∷ ty.Ptr 0 ∷ ty.Void ∷ ty.Int I32 ∷ []);
    aggregates = [];
    completed = [];
  };
  blocks = (shared_block 4 1 ∷ local 4 0 ∷ local 4 3 ∷ local 4 0 ∷ []);
  init = [];
  functions = (record { name = []; line = 1; params = []; result = None; locals = (1 ∷ []); body = stop } ∷ main_of 2
      (3 ∷ []) ∷ []);
  main = 1;
}

abbrev sixteen_steps : List Step
sixteen_steps =
    passes 0 Both [] ∷
    does_in 0 Both (assign (Int U32) (block 1) (convert U32 (const I32 (pos 3)))) ∷
    does_in 0 Both (assign Pointer (block 0) (addr_of (block 1))) ∷
    goes Both (1 ∷ []) ∷
    receives 0 Both None ∷
    does Both (assign (Int U32) (block 3) (load (Int U32) (deref (load Pointer (block 0))))) ∷
    does Both (output U32 (load (Int U32) (block 3))) ∷ []

sixteen_faults : faults_of (run sixteen_program sixteen_steps) ≡ (listed U4 0 0 0 0 ∷ [])
unfolding at_depth count_leading_zeros
sixteen_faults = refl

sixteen_cells : shapes_of (run sixteen_program sixteen_steps) ≡ None
unfolding at_depth count_leading_zeros
sixteen_cells = refl

sixteen_state : is_state_after sixteen_program (run sixteen_program sixteen_steps) ≡ true
unfolding at_depth count_leading_zeros
sixteen_state = refl

-- uint8_t f(uint32_t v, uint8_t *p, int16_t n) { uint8_t t; t = v >> 8; *p = v; return t; } uint32_t x; uint8_t
-- b[2]; uint16_t y; x = ep_in_u32(); y = f(x, b + 1, x); b[0] = y; ep_write(b, 2);
abbrev calls_program : Program
calls_program = record {
  types = record {
    model = Ilp32;
    types = (ty.Int U8 ∷ ty.Int U32 ∷ ty.Ptr 0 ∷ ty.Int I16 ∷ ty.Int I32 ∷ ty.Array 0 2
        ∷ ty.Int U16 ∷ []);
    aggregates = [];
    completed = [];
  };
  blocks = (local 1 0 ∷ local 4 1 ∷ local 4 2 ∷ local 2 3 ∷ local 1 0 ∷ local 4 4 ∷ local 4 1 ∷ local 2 5 ∷ local 2 6
      ∷ []);
  init = [];
  functions = (record {
    name = [];
    line = 1;
    params = ((1, (Int U32)) ∷ (2, Pointer) ∷ (3, (Int I16)) ∷ []);
    result =
        (Some (0, (Int U8)));
    locals = (4 ∷ []);
    body = stop;
  } ∷ main_of 5 (6 ∷ 7 ∷ 8 ∷ []) ∷ []);
  main = 1;
}

abbrev calls_steps : List Step
calls_steps =
    does Both (input U32 (to_place (Int U32) (block 6))) ∷
    passes 0 Both ((load (Int U32) (block 6)) ∷ (ptr_add (addr_of (block 7)) 1 (const I32 (pos 1)) false) ∷ (convert
    I16 (load (Int U32) (block 6))) ∷ []) ∷
    does_in 0 Both (assign (Int U8) (block 4) (convert U8 (binary Shr U32 (load (Int U32) (block 1)) (const I32 (pos
    8))))) ∷
    does_in 0 Both (assign (Int U8) (deref (load Pointer (block 2))) (convert U8 (load (Int U32) (block 1)))) ∷
    does_in 0 Both (returns (Some (load (Int U8) (block 4)))) ∷
    goes Both (1 ∷ 2 ∷ 3 ∷ 4 ∷ []) ∷
    receives 0 Both (to_place (Int U16) (block 8)) ∷
    does Both (assign (Int U8) (element (block 7) 2 1 (const I32 (pos 0))) (convert U8 (load (Int U16) (block 8)))) ∷
    does Both (write_bytes (addr_of (block 7)) 2) ∷ []

calls_faults : faults_of (run calls_program calls_steps) ≡ []
unfolding at_depth count_leading_zeros
calls_faults = refl

calls_cells : shapes_of (run calls_program calls_steps) ≡ Some (
    shape side.Shared 0 0 (Int U8) (between (pos 0) (pos 255)) false (Some (Bits (cell_of side.Shared 6 0 U32) 8 16 ∷
    [])) ∷
    shape side.Shared 1 0 (Int U32) nothing_known true None ∷
    shape side.Shared 2 0 Pointer nothing_known true None ∷
    shape side.Shared 3 0 (Int I16) nothing_known true None ∷
    shape side.Shared 4 0 (Int U8) nothing_known true None ∷
    shape side.Shared 5 0 (Int I32) (between (pos 0) (pos 0)) false (Some (Fixed 0 32 ∷ [])) ∷
    shape side.Shared 6 0 (Int U32) (between (pos 0) (pos 4294967295)) false None ∷
    shape side.Shared 7 0 (Int U8) (between (pos 0) (pos 255)) false (Some (Bits (cell_of side.Shared 6 0 U32) 8 16 ∷
    [])) ∷
    shape side.Shared 7 1 (Int U8) (between (pos 0) (pos 255)) false (Some (Bits (cell_of side.Shared 6 0 U32) 0 8 ∷
    [])) ∷
    shape side.Shared 8 0 (Int U16) (between (pos 0) (pos 255)) false (Some (Bits (cell_of side.Shared 6 0 U32) 8 16
    ∷ Fixed 0 8 ∷ [])) ∷ [])
unfolding at_depth count_leading_zeros
calls_cells = refl

calls_state : is_state_after calls_program (run calls_program calls_steps) ≡ true
unfolding at_depth count_leading_zeros
calls_state = refl

-- uint32_t *p, x; uint8_t y; x = 3; { uint32_t z; z = 4; p = &z; x = *p; } x = 5;
abbrev pointer_kept_program : Program
pointer_kept_program = record {
  types = record {
    model = Ilp32;
    types = (ty.Int I32 ∷ ty.Int U32 ∷ ty.Ptr 1 ∷ ty.Int U8 ∷ []);
    aggregates = [];
    completed = [];
  };
  blocks = (local 4 0 ∷ local 4 2 ∷ local 4 1 ∷ local 1 3 ∷ local 4 1 ∷ []);
  init = [];
  functions = (main_of 0 (1 ∷ 2 ∷ 3 ∷ []) ∷ []);
  main = 0;
}

abbrev pointer_kept_steps : List Step
pointer_kept_steps =
    does Both (assign (Int U32) (block 2) (convert U32 (const I32 (pos 3)))) ∷
    comes Both (4 ∷ []) ∷
    does Both (assign (Int U32) (block 4) (convert U32 (const I32 (pos 4)))) ∷
    does Both (assign Pointer (block 1) (addr_of (block 4))) ∷
    does Both (assign (Int U32) (block 2) (load (Int U32) (deref (load Pointer (block 1))))) ∷
    goes Both (4 ∷ []) ∷
    does Both (assign (Int U32) (block 2) (convert U32 (const I32 (pos 5)))) ∷ []

pointer_kept_faults : faults_of (run pointer_kept_program pointer_kept_steps) ≡ []
unfolding at_depth count_leading_zeros
pointer_kept_faults = refl

pointer_kept_cells : shapes_of (run pointer_kept_program pointer_kept_steps) ≡ Some (
    shape side.Shared 0 0 (Int I32) (between (pos 0) (pos 0)) false (Some (Fixed 0 32 ∷ [])) ∷
    shape side.Shared 1 0 Pointer nothing_known true None ∷
    shape side.Shared 2 0 (Int U32) (between (pos 5) (pos 5)) false (Some (Fixed 5 32 ∷ [])) ∷
    shape side.Shared 3 0 (Int U8) nothing_known true None ∷
    shape side.Shared 4 0 (Int U32) nothing_known true None ∷ [])
unfolding at_depth count_leading_zeros
pointer_kept_cells = refl

pointer_kept_state : is_state_after pointer_kept_program (run pointer_kept_program pointer_kept_steps) ≡ true
unfolding at_depth count_leading_zeros
pointer_kept_state = refl
