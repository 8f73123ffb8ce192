-- A program's names, for the rows.
use Rattle.std.proofs.Common.{ℕ, List, [], ◌∷◌, true, false, Some, None}
use Rattle.std.specs.Prelude.{codes}
use Rattle.ep_int.specs.declared.types.IntType.TheVariants.{I8, U8, I32, U32, I64}
use Rattle.ep_int.specs.declared.types.Model.{Model}
use Rattle.ep_layout.specs.declared.types.Ty.TheVariants.{Void, Int, Ptr, Array, Aggregate}
use Rattle.ep_layout.specs.Table.{Table, MemberRow}
use Rattle.ep_typing.specs.declared.types.Base.TheVariants as bases
use Rattle.ep_typing.specs.declared.types.CType.{CType}
use Rattle.ep_typing.specs.Env.{Env, variable, function, type_name}
use Rattle.ep_typing.specs.Types.{int_type, void_type, void_pointer, whole, pointer_to}

abbrev member : List ℕ → (ty offset : ℕ) → MemberRow
member n ty offset = record { name = n; ty = ty; offset = offset }

-- 0 int, 1 int[3], 2 struct s, 3 struct s *, 4 union u, 5 uint8_t, 6 uint8_t[4], 7 struct o, 8 struct o *, 9 int[4],
-- 10 int[2][3], 11 unsigned, 12 long long, 13 int *, 14 int **, 15 char, 16 char *, 17 void, 18 void *
abbrev pub types : Model → Table
types m = record {
  model = m;
  types = Int I32 ∷ Array 0 3 ∷ Aggregate 0 ∷ Ptr 2 ∷ Aggregate 1 ∷ Int U8 ∷ Array 5 4 ∷ Aggregate 2 ∷ Ptr 7
      ∷ Array 0 4 ∷ Array 1 2 ∷ Int U32 ∷ Int I64 ∷ Ptr 0 ∷ Ptr 13 ∷ Int I8 ∷ Ptr 15 ∷ Void ∷ Ptr 17 ∷ [];
  aggregates = record {
    tag = codes "s";
    is_union = false;
    members = Some (member (codes "a") 0 0 ∷ member (codes "b") 1 4 ∷ member (codes "n") 3 16 ∷ []);
  } ∷ record {
    tag = codes "u";
    is_union = true;
    members = Some (member (codes "i") 0 0 ∷ member (codes "b") 6 0 ∷ []);
  } ∷ record { tag = codes "o"; is_union = false; members = None } ∷ [];
  completed = 0 ∷ 1 ∷ [];
}

abbrev pub int : CType
int = int_type I32

-- struct s { int a; int b[3]; struct s *n; } s, s2; union u { int i; uint8_t b[4]; } u; struct o *o;
-- int x, a[4], m[2][3]; unsigned w; uint8_t c; long long q; int *p, **pp; char *cp; void *vp; struct s *sp;
-- typedef int word; typedef int row[3];
-- int f1(int); void f0(void); int *fp(void); int fa(int *, char *);
abbrev pub around : Model → Env
around model = record {
  types = types model;
  scopes = record {
    names =
        (codes "s", variable 0 (whole (bases.Aggregate 0))) ∷
        (codes "s2", variable 1 (whole (bases.Aggregate 0))) ∷
        (codes "u", variable 2 (whole (bases.Aggregate 1))) ∷
        (codes "o", variable 3 (pointer_to (whole (bases.Aggregate 2)))) ∷
        (codes "x", variable 4 int) ∷
        (codes "a", variable 5 (whole (bases.Array 9))) ∷
        (codes "m", variable 6 (whole (bases.Array 10))) ∷
        (codes "w", variable 7 (int_type U32)) ∷
        (codes "c", variable 8 (int_type U8)) ∷
        (codes "q", variable 9 (int_type I64)) ∷
        (codes "p", variable 10 (pointer_to int)) ∷
        (codes "pp", variable 11 (pointer_to (pointer_to int))) ∷
        (codes "cp", variable 12 (pointer_to (int_type I8))) ∷
        (codes "vp", variable 13 void_pointer) ∷
        (codes "sp", variable 14 (pointer_to (whole (bases.Aggregate 0)))) ∷
        (codes "word", type_name int) ∷
        (codes "row", type_name (whole (bases.Array 1))) ∷
        (codes "f1", function 0) ∷
        (codes "f0", function 1) ∷
        (codes "fp", function 2) ∷
        (codes "fa", function 3) ∷ [];
    tags = (codes "s", 0) ∷ (codes "u", 1) ∷ (codes "o", 2) ∷ [];
  } ∷ [];
  blocks = [];
  fields = [];
  functions =
      record { name = codes "f1"; params = int ∷ []; result = int }
      ∷ record { name = codes "f0"; params = []; result = void_type }
      ∷ record { name = codes "fp"; params = []; result = pointer_to int }
      ∷ record { name = codes "fa"; params = pointer_to int ∷ pointer_to (int_type I8) ∷ []; result = int } ∷ [];
}
