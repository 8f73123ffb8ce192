-- Numbers that are the same whatever the inputs are have the same bytes.
use Rattle.std.proofs.Common.{◌≡◌, ℕ, zero, suc, ◌+◌, ◌≤◌, ℤ, pos, Bool, true, false, ◌&&◌, List, [], ◌∷◌, length}
use Rattle.std.proofs.Common.{slice_get, Option, Some, None, Result, Ok, Err, refl, sym, ap, ◌∙◌, subst, arith}
use Rattle.std.specs.Prelude.{int_le}
use Rattle.std.proofs.lemmas.Int.{ints}
use Rattle.std.proofs.lemmas.Bool.{and_from}
use Rattle.ep_int.specs.declared.types.IntType.{IntType}
use Rattle.ep_int.specs.declared.types.IntType.TheVariants.{I8, U8, I16, U16, I32, U32, I64, U64}
use Rattle.ep_int.specs.declared.types.Order.{Order}
use Rattle.ep_int.specs.declared.types.Scalar.TheVariants.{Int}
use Rattle.ep_int.specs.Types.{InRange, bytes_of, least_of, greatest_of}
use Rattle.ep_int.specs.Arith.{is_in_range}
use Rattle.ep_int.specs.Memory.{Value as Datum, int, Found, has}
use Rattle.ep_int.proofs.Arithmetic.{le_test}
use Rattle.ep_domain.specs.Domain.{Ops, Lawful, Holds, IsSingle}
use Rattle.ep_cells.specs.declared.cell.Value.{Value}
use Rattle.ep_cells.specs.declared.cell.Value.TheVariants.{Num}
use Rattle.ep_cells.specs.States.{Known}
use Rattle.ep_cells.specs.Meaning.{Memories, Allows, numbers_of}
use Rattle.ep_core.specs.Program.{Expr, const, Program}
use Rattle.ep_core.specs.Exec.{value}
use Rattle.ep_core.specs.Runs.{Side, left, right}
use Rattle.ep_core.specs.WellFormed.{integer, is_same_type, has_sort, blocks_fit, is_well_formed}
use Rattle.ep_core.proofs.Operands.{sizes}
use Rattle.ep_equalities.specs.declared.pair.Mode.{Mode}
use Rattle.ep_equalities.specs.declared.pair.Mode.TheVariants.{Both}
use Rattle.ep_equalities.specs.Same.{is_same}
use Rattle.ep_equalities.proofs.Equal.{same_values}
use Rattle.ep_evaluation.specs.Given.{Given, runs, on}
use Rattle.ep_evaluation.specs.Evaluation.{expression}
use Rattle.ep_evaluation.specs.Laws.{memory_of, sizes_of}
use Rattle.ep_evaluation.proofs.General.{reliable_none}
use Rattle.ep_evaluation.proofs.Gathered.{evaluation_laws}
use Rattle.ep_movers.specs.declared.Stop.{Stop}
use Rattle.ep_movers.specs.Symbols.{Symbol, fixed_bytes}
use Rattle.ep_movers.specs.Forms.{is_moving, has_moving_form}
use Rattle.ep_movers.specs.Movers.{Machine, symbols}
use Rattle.ep_mover_runs.specs.Following.{AreBytes, number_in, ValueFollows, blocks_of_main}
use Rattle.ep_mover_runs.proofs.Whole.{expressions_follow}
use Rattle.ep_mover_told.proofs.Telling.{numbers_tell_bytes}
use Rattle.ep_mover_known.specs.Laws.{AreRuns, AreAllRuns, IsTold, InputsTell}
use Rattle.ep_singles.proofs.Bytes.{held_single}

-- ---- inputs, and numbers in range

pub many : ℕ → List ℕ
many zero = []
many (suc n) = 0 ∷ many n

pub length_many : (n : ℕ) → length (many n) ≡ n
unfolding many
length_many zero = refl
length_many (suc n) = ap suc (length_many n)

same_type : (t : IntType) → is_same_type t t ≡ true
same_type I8 = refl
same_type U8 = refl
same_type I16 = refl
same_type U16 = refl
same_type I32 = refl
same_type U32 = refl
same_type I64 = refl
same_type U64 = refl

in_range : (t : IntType) (v : ℤ) → InRange t v → is_in_range t v ≡ true
in_range t v r =
    and_from (int_le (least_of t) v) (int_le v (greatest_of t)) (le_test (least_of t) v r.low)
    (le_test v (greatest_of t) r.high)

pos_same : (a b : ℕ) → pos a ≡ pos b → a ≡ b
pos_same a b e = cc

has_number_same : (a b : ℤ) → has (int a) ≡ has (int b) → a ≡ b
has_number_same a b e = cc

datum_same : (a b : ℕ) → int (pos a) ≡ int (pos b) → a ≡ b
datum_same a b e = cc

module _ {N : Type 0} (D : Ops N) (law : Lawful D) (p : Program) (ord : Side → Order)
    (formed : is_well_formed p ≡ true) (form : has_moving_form p ≡ true) (ms : Side → Machine) (k : Known N)
    (all : AreAllRuns D p ord ms k) where
  abbrev seen : List ℕ
  seen = blocks_of_main (slice_get p.functions p.main)

  fit : blocks_fit p.types p.blocks ≡ true
  fit = sizes p formed

  abbrev gives : Expr → Mode → Given N
  gives e mode = (expression D (sizes_of p.blocks) e).gives mode k

  abbrev count : ℕ
  count = (ms left).inputs

  module _ (e : Expr) (t : IntType) (moving : is_moving e ≡ true)
      (typed : has_sort p.types p.blocks seen e (integer t) ≡ true) where
    -- what a machine finds
    pub record IsFound (inputs : List ℕ) (m : Memories) (s : Side) (xs : List Symbol) : Type 0 where
      pub found : value (ord s) p e (memory_of s m) ≡ has (int (pos (number_in inputs xs)))
      pub range : InRange t (pos (number_in inputs xs))
      pub bytes : AreBytes (bytes_of t) xs

    abbrev pub memories : (inputs : List ℕ) → count ≤ length inputs → Memories
    memories inputs l =
        record { left = ((all inputs l).states left).memory; right = ((all inputs l).states right).memory }

    pub is_found : (inputs : List ℕ) (l : count ≤ length inputs) (s : Side) (xs : List Symbol)
        → symbols (ord s) (ms s).memory e ≡ Ok xs → IsFound inputs (memories inputs l) s xs
    is_found inputs l s xs said =
        let r = all inputs l in
        let f = expressions_follow p formed form (ord s) inputs (r.states s) (ms s) (r.follow s) e t moving typed in
        let v = subst (λ (z : Result (List Symbol) Stop). ValueFollows inputs t z (value (ord s) p e (r.states s).memory))
        said f in
        record { found = at s xs v.0; range = v.1; bytes = v.2 }
      where
        at : (s : Side) (xs : List Symbol)
            → value (ord s) p e ((all inputs l).states s).memory ≡ has (int (pos (number_in inputs xs)))
            → value (ord s) p e (memory_of s (memories inputs l)) ≡ has (int (pos (number_in inputs xs)))
        at left xs f = f
        at right xs f = f

    held : (mode : Mode) → (gives e mode).faults ≡ [] → (s : Side) → runs mode s ≡ true → (xs : List Symbol)
        → symbols (ord s) (ms s).memory e ≡ Ok xs → (n : N) → (on (gives e mode).pair s).value ≡ Some (Num n)
        → (inputs : List ℕ) → count ≤ length inputs → Holds D n (pos (number_in inputs xs))
    held mode quiet s r xs said n is inputs l =
        let sound = (evaluation_laws D law).expressions p ord fit seen e (integer t) typed in
        let f = is_found inputs l s xs said in
        let v = ((sound.gives k (memories inputs l) (all inputs l).kept mode).held
        (reliable_none mode (gives e mode).faults quiet) s r (int (pos (number_in inputs xs))) f.found).value in
        (subst (λ o. Allows D (Int t) o false (Some (int (pos (number_in inputs xs))))) is v).1

    -- of a single number
    single_fixed : (mode : Mode) → (gives e mode).faults ≡ [] → (s : Side) → runs mode s ≡ true → (xs : List Symbol)
        → symbols (ord s) (ms s).memory e ≡ Ok xs → (n : N) (z : ℤ) → (on (gives e mode).pair s).value ≡ Some (Num n)
        → IsSingle D n z → xs ≡ fixed_bytes z 0 (bytes_of t)
    single_fixed mode quiet s r xs said n z is single =
        let some : count ≤ length (many count) = omega (arith, length_many count) in
        let number : (inputs : List ℕ) → count ≤ length inputs → pos (number_in inputs xs) ≡ z
        = λ inputs l. held_single D law n z (pos (number_in inputs xs)) single (held mode quiet s r xs said n is inputs l) in
        let first = is_found (many count) some s xs said in
        let range : InRange t z = subst (InRange t) (number (many count) some) first.range in
        let low : int_le (pos 0) z ≡ true
        = subst (λ v. int_le (pos 0) v ≡ true) (number (many count) some)
        (le_test (pos 0) (pos (number_in (many count) xs)) (omega (arith, ints))) in
        let constant : has_sort p.types p.blocks seen (const t z) (integer t) ≡ true
        = and_from (is_same_type t t) (is_in_range t z) (same_type t) (in_range t z range) in
        let of_constant : (inputs : List ℕ) (l : count ≤ length inputs)
        → ValueFollows inputs t (Ok (fixed_bytes z 0 (bytes_of t))) (has (int z))
        = λ inputs l. expressions_follow p formed form (ord s) inputs ((all inputs l).states s) (ms s)
        ((all inputs l).follow s) (const t z) t low constant in
        numbers_tell_bytes count (bytes_of t) xs (fixed_bytes z 0 (bytes_of t)) first.bytes
        (of_constant (many count) some).2
        (λ inputs l. pos_same (number_in inputs xs) (number_in inputs (fixed_bytes z 0 (bytes_of t)))
        (number inputs l ∙ has_number_same z (pos (number_in inputs (fixed_bytes z 0 (bytes_of t))))
        (of_constant inputs l).0))

    -- of numbers that surely are the same
    same_equal : (gives e Both).faults ≡ [] → is_same D (gives e Both).pair ≡ true → (xs : Side → List Symbol)
        → ((s : Side) → symbols (ord s) (ms s).memory e ≡ Ok (xs s)) → xs left ≡ xs right
    same_equal quiet same xs said =
        let some : count ≤ length (many count) = omega (arith, length_many count) in
        let a = is_found (many count) some left (xs left) (said left) in
        let b = is_found (many count) some right (xs right) (said right) in
        numbers_tell_bytes count (bytes_of t) (xs left) (xs right) a.bytes b.bytes
        (λ inputs l. (let u = is_found inputs l left (xs left) (said left) in
        let v = is_found inputs l right (xs right) (said right) in
        let pair = (evaluation_laws D law).value_pairs p ord fit seen e (integer t) typed k (memories inputs l)
        (all inputs l).kept Both quiet (int (pos (number_in inputs (xs left)))) (int (pos (number_in inputs (xs right))))
        (λ r. u.found) (λ r. v.found) in
        datum_same (number_in inputs (xs left)) (number_in inputs (xs right))
        (same_values D law (gives e Both).pair same (numbers_of k.orders (memories inputs l)) (Int t)
        (int (pos (number_in inputs (xs left)))) (int (pos (number_in inputs (xs right)))) pair)))

pub inputs_tell : {N : Type 0} (D : Ops N) → Lawful D → InputsTell D
inputs_tell D law p ord formed form ms k all = record {
  singles = λ e t moving typed mode quiet s r xs said n z is single.
      single_fixed D law p ord formed form ms k all e t moving typed mode quiet s r xs said n z is single;
  sames = λ e t moving typed quiet same xs said.
      same_equal D law p ord formed form ms k all e t moving typed quiet same xs said;
}
