-- Bytes of an expression are of inputs that were taken.
use Rattle.std.proofs.Common.{◌≡◌, ℕ, zero, suc, ◌+◌, ◌<◌, ℤ, pos, Bool, true, false, cond, nat_eq, List, [], ◌∷◌, ◌++◌}
use Rattle.std.proofs.Common.{length, take, drop, slice_get, Option, Some, None, Result, Ok, Err, refl, sym, ap, ◌∙◌}
use Rattle.std.proofs.Common.{subst, arith}
use Rattle.ep_int.specs.declared.types.IntType.{IntType}
use Rattle.ep_int.specs.declared.types.BinOp.{BinOp}
use Rattle.ep_int.specs.declared.types.BinOp.TheVariants.{Add, Sub, Mul, Div, Rem, And, Or, Xor, Shl, Shr}
use Rattle.ep_int.specs.declared.types.Order.{Order}
use Rattle.ep_int.specs.declared.types.Scalar.TheVariants.{Int, Pointer}
use Rattle.ep_int.specs.Types.{bytes_of}
use Rattle.ep_int.specs.Encoding.{place}
use Rattle.ep_int.proofs.Basics.{some-injective}
use Rattle.ep_core.specs.Program.{Place, Expr, const, null_value, load, addr_of, binary, convert, compare, ptr_compare}
use Rattle.ep_core.specs.Program.{logical_and, logical_or, logical_not, conditional, ptr_add, cast}
use Rattle.ep_movers.specs.declared.Stop.{Stop}
use Rattle.ep_movers.specs.declared.Stop.TheVariants.{Foreign}
use Rattle.ep_movers.specs.Symbols.{Symbol, unset, fixed_byte, input_byte, goes_on, number_byte, fixed_bytes, zeros, is_zero}
use Rattle.ep_movers.specs.Symbols.{merged_byte, merged, masked, moved_up, moved_down, bytes_moved, resized, shifted}
use Rattle.ep_movers.specs.Symbols.{is_mask, masked_by, operated}
use Rattle.ep_movers.specs.Forms.{constant}
use Rattle.ep_movers.specs.Movers.{Symbols, bytes_in, loaded_bytes, place_of, symbols}
use Rattle.ep_mover_cells.specs.Known.{symbol_at}
use Rattle.ep_mover_cells.proofs.Loaded.{ok_same, went_on, first_one}
use Rattle.ep_mover_writes.specs.Laws.{AreTaken}

module _ (n : ℕ) where
  abbrev IsOld : Symbol → Type 0
  IsOld x = (i m : ℕ) → x ≡ input_byte i m → i < n

  abbrev AllOld : List Symbol → Type 0
  AllOld [] = Unit {0}
  AllOld (x ∷ xs) = IsOld x × AllOld xs

  fixed_old : (v : ℕ) → IsOld (fixed_byte v)
  fixed_old v i m e = absurd (cc)

  all_fixed : (v : ℤ) (k c : ℕ) → AllOld (fixed_bytes v k c)
  all_fixed v k zero = tt
  all_fixed v k (suc c) = (fixed_old (number_byte v k), all_fixed v (suc k) c)

  all_append : (xs ys : List Symbol) → AllOld xs → AllOld ys → AllOld (xs ++ ys)
  all_append [] ys a b = b
  all_append (x ∷ xs) ys a b = (a.0, all_append xs ys a.1 b)

  all_take : (c : ℕ) (xs : List Symbol) → AllOld xs → AllOld (take c xs)
  all_take zero xs a = tt
  all_take (suc c) [] a = tt
  all_take (suc c) (x ∷ xs) a = (a.0, all_take c xs a.1)

  all_drop : (c : ℕ) (xs : List Symbol) → AllOld xs → AllOld (drop c xs)
  all_drop zero xs a = a
  all_drop (suc c) [] a = tt
  all_drop (suc c) (x ∷ xs) a = all_drop c xs a.1

  either_old : (b : Bool) (x : Symbol) → IsOld x → IsOld (cond b x (fixed_byte 0))
  either_old true x a = a
  either_old false x a = fixed_old 0

  all_masked : (v : ℤ) (k : ℕ) (xs : List Symbol) → AllOld xs → AllOld (masked v k xs)
  all_masked v k [] a = tt
  all_masked v k (x ∷ xs) a = (either_old (nat_eq (number_byte v k) 255) x a.0, all_masked v (suc k) xs a.1)

  one_merged : (x y z : Symbol) (a b : Bool) → IsOld x → IsOld y
      → ◌≡◌ {A = Result Symbol Stop} (cond a (Ok y) (cond b (Ok x) (Err Foreign))) (Ok z) → IsOld z
  one_merged x y z true b u v e = subst IsOld (ok_same y z e) v
  one_merged x y z false true u v e = subst IsOld (ok_same x z e) u
  one_merged x y z false false u v e = absurd (cc)

  all_merged : (xs ys zs : List Symbol) → AllOld xs → AllOld ys → merged xs ys ≡ Ok zs → AllOld zs
  all_merged [] ys zs a b e = subst AllOld (ok_same [] zs e) tt
  all_merged (x ∷ xs) [] zs a b e = subst AllOld (ok_same [] zs e) tt
  all_merged (x ∷ xs) (y ∷ ys) zs a b e =
      let f = went_on (merged_byte x y) (λ z. goes_on (merged xs ys) (λ zs. Ok (z ∷ zs))) zs e in
      let g = went_on (merged xs ys) (λ zs. Ok (f.0 ∷ zs)) zs f.2 in
      subst AllOld (ok_same (f.0 ∷ g.0) zs g.2)
      (one_merged x y f.0 (is_zero x) (is_zero y) a.0 b.0 f.1, all_merged xs ys g.0 a.1 b.1 g.1)

  all_mask : (v : Option ℤ) (xs zs : List Symbol) → AllOld xs → masked_by v xs ≡ Ok zs → AllOld zs
  all_mask None xs zs a e = absurd (cc)
  all_mask (Some v) xs zs a e = subst AllOld (ok_same (masked v 0 xs) zs e) (all_masked v 0 xs a)

  all_shifted : (go : ℕ → List Symbol → List Symbol) → ((c : ℕ) (xs : List Symbol) → AllOld xs → AllOld (go c xs))
      → (v : Option ℤ) (xs zs : List Symbol) → AllOld xs → shifted go v xs ≡ Ok zs → AllOld zs
  all_shifted go f None xs zs a e = absurd (cc)
  all_shifted go f (Some v) xs zs a e =
      subst AllOld (ok_same (go (bytes_moved v) xs) zs e) (f (bytes_moved v) xs a)

  all_up : (c : ℕ) (xs : List Symbol) → AllOld xs → AllOld (moved_up c xs)
  all_up c xs a = all_take (length xs) (zeros c ++ xs) (all_append (zeros c) xs (all_fixed (pos 0) 0 c) a)

  all_down : (c : ℕ) (xs : List Symbol) → AllOld xs → AllOld (moved_down c xs)
  all_down c xs a =
      all_take (length xs) (drop c xs ++ zeros c)
      (all_append (drop c xs) (zeros c) (all_drop c xs a) (all_fixed (pos 0) 0 c))

  all_resized : (t : IntType) (xs : List Symbol) → AllOld xs → AllOld (resized t xs)
  all_resized t xs a = all_take (bytes_of t) (xs ++ zeros 8) (all_append xs (zeros 8) a (all_fixed (pos 0) 0 8))

  all_operated : (op : BinOp) (u v : Option ℤ) (xs ys zs : List Symbol) → AllOld xs → AllOld ys
      → operated op u v xs ys ≡ Ok zs → AllOld zs
  all_operated Add u v xs ys zs a b e = all_merged xs ys zs a b e
  all_operated Or u v xs ys zs a b e = all_merged xs ys zs a b e
  all_operated Xor u v xs ys zs a b e = all_merged xs ys zs a b e
  all_operated And u v xs ys zs a b e = by (is_mask v) e
    where
      by : (c : Bool) → cond c (masked_by v xs) (masked_by u ys) ≡ Ok zs → AllOld zs
      by true e = all_mask v xs zs a e
      by false e = all_mask u ys zs b e
  all_operated Shl u v xs ys zs a b e = all_shifted moved_up all_up v xs zs a e
  all_operated Shr u v xs ys zs a b e = all_shifted moved_down all_down v xs zs a e
  all_operated Sub u v xs ys zs a b e = absurd (cc)
  all_operated Mul u v xs ys zs a b e = absurd (cc)
  all_operated Div u v xs ys zs a b e = absurd (cc)
  all_operated Rem u v xs ys zs a b e = absurd (cc)

  module _ (o : Order) (m : Symbols) (old : (b r : ℕ) → IsOld (symbol_at (bytes_in m b) r)) where
    all_loaded : (b q w k c : ℕ) (xs : List Symbol) → loaded_bytes o (bytes_in m b) q w k c ≡ Ok xs → AllOld xs
    all_loaded b q w k zero xs e = subst AllOld (ok_same [] xs e) tt
    all_loaded b q w k (suc c) xs e =
        let f = first_one o (bytes_in m b) q w k c xs e in
        subst AllOld (sym f.is) (old b (q + place o w k), all_loaded b q w (suc k) c f.rest f.loaded)

    all_symbols : (e : Expr) (xs : List Symbol) → symbols o m e ≡ Ok xs → AllOld xs
    all_symbols (const t v) xs e = subst AllOld (ok_same (fixed_bytes v 0 (bytes_of t)) xs e) (all_fixed v 0 (bytes_of t))
    all_symbols (load (Int t) a) xs e =
        let w = went_on (place_of a) (λ (w : ℕ × ℕ). loaded_bytes o (bytes_in m w.0) w.1 (bytes_of t) 0 (bytes_of t)) xs e in
        all_loaded w.0.0 w.0.1 (bytes_of t) 0 (bytes_of t) xs w.2
    all_symbols (binary op t a b) xs e =
        let f = went_on (symbols o m a) (λ ys. goes_on (symbols o m b) (operated op (constant a) (constant b) ys)) xs e in
        let g = went_on (symbols o m b) (operated op (constant a) (constant b) f.0) xs f.2 in
        all_operated op (constant a) (constant b) f.0 g.0 xs (all_symbols a f.0 f.1) (all_symbols b g.0 g.1) g.2
    all_symbols (convert t a) xs e =
        let f = went_on (symbols o m a) (λ ys. Ok (resized t ys)) xs e in
        subst AllOld (ok_same (resized t f.0) xs f.2) (all_resized t f.0 (all_symbols a f.0 f.1))
    all_symbols (load Pointer a) xs e = absurd (cc)
    all_symbols null_value xs e = absurd (cc)
    all_symbols (addr_of a) xs e = absurd (cc)
    all_symbols (compare c t a b) xs e = absurd (cc)
    all_symbols (ptr_compare c a b) xs e = absurd (cc)
    all_symbols (logical_and a b) xs e = absurd (cc)
    all_symbols (logical_or a b) xs e = absurd (cc)
    all_symbols (logical_not a) xs e = absurd (cc)
    all_symbols (conditional c a b) xs e = absurd (cc)
    all_symbols (ptr_add a unit c back) xs e = absurd (cc)
    all_symbols (cast a) xs e = absurd (cc)

  old_at : (xs : List Symbol) → AllOld xs → AreTaken n xs
  old_at [] a j i k e = absurd (cc)
  old_at (x ∷ xs) a zero i k e = a.0 i k (some-injective e)
  old_at (x ∷ xs) a (suc j) i k e = old_at xs a.1 j i k e

  pub symbols_taken : (o : Order) (m : Symbols) → ((b r i k : ℕ) → symbol_at (bytes_in m b) r ≡ input_byte i k → i < n)
      → (e : Expr) (xs : List Symbol) → symbols o m e ≡ Ok xs → AreTaken n xs
  symbols_taken o m old e xs said = old_at xs (all_symbols o m (λ b r. old b r) e xs said)
