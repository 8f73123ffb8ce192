-- One byte is written in a block, and all others are as they were.
use Rattle.std.proofs.Common.{◌≡◌, ℕ, zero, suc, ◌+◌, ◌<◌, Bool, true, false, nat_eq, List, [], ◌∷◌, length, slice_get}
use Rattle.std.proofs.Common.{Option, Some, None, Ok, refl, sym, ap, ◌∙◌, subst, arith, option_and_then}
use Rattle.std.proofs.lemmas.Bool.{eqb-true, eq-eqb, both_ways}
use Rattle.std.proofs.lemmas.List.{get_or-set_same, get_or-set_other, length-set}
use Rattle.ep_int.specs.declared.types.Order.{Order}
use Rattle.ep_int.specs.Encoding.{place}
use Rattle.ep_int.proofs.Basics.{some-injective}
use Rattle.ep_int.proofs.Wrapping.{bytes_of_positive}
use Rattle.ep_layout.specs.declared.types.Ty.{Ty}
use Rattle.ep_layout.specs.declared.types.Ty.TheVariants.{Void, Int, Ptr, Array, Aggregate}
use Rattle.ep_core.specs.Program.{Block, Program}
use Rattle.ep_movers.specs.Symbols.{Symbol, unset, input_byte}
use Rattle.ep_movers.specs.Movers.{Held, held, Machine, bytes_in, byte_written, loaded_bytes, remembers}
use Rattle.ep_mover_cells.specs.Known.{held_at, symbol_at, number_bytes, unit_of, unit_in}
use Rattle.ep_mover_cells.proofs.Loaded.{ok_same, first_one}
use Rattle.ep_mover_writes.specs.Laws.{AreTaken}
use Rattle.ep_mover_writes.proofs.Written.{WroteOne, wrote_one}
use Rattle.ep_mover_writes.proofs.Writes.{block_there}

module _ (m : Machine) (b q : ℕ) (x : Symbol) (hs : List Held)
    (e : byte_written (bytes_in m.memory b) q x ≡ Ok hs) where
  abbrev old : ℕ → List Held
  old a = bytes_in m.memory a

  abbrev now : ℕ → List Held
  now a = bytes_in (remembers m b hs).memory a

  one : WroteOne (old b) q x hs
  one = wrote_one (old b) q x hs e

  pub fresh : (held_at (old b) q).written ≡ false
  fresh = one.fresh

  now_here : now b ≡ hs
  now_here = get_or-set_same m.memory b hs [] (block_there m.memory b q one.inside)

  pub there : held_at (now b) q ≡ held x true
  there =
      ap (λ l. held_at l q) (now_here ∙ sym one.is)
      ∙ get_or-set_same (old b) q (held x true) (held unset false) one.inside

  pub elsewhere : (a r : ℕ) → (a ≡ b → r ≡ q → ⊥) → held_at (now a) r ≡ held_at (old a) r
  elsewhere a r n = by (nat_eq a b) refl
    where
      by : (t : Bool) → nat_eq a b ≡ t → held_at (now a) r ≡ held_at (old a) r
      by false t =
          ap (λ l. held_at l r)
          (get_or-set_other m.memory b a hs [] (λ z. both_ways (nat_eq a b) t (eq-eqb a b z)))
      by true t =
          let z = eqb-true a b t in
          ap (λ c. held_at (now c) r) z ∙ ap (λ l. held_at l r) (now_here ∙ sym one.is)
          ∙ get_or-set_other (old b) q r (held x true) (held unset false) (n z)
          ∙ ap (λ c. held_at (old c) r) (sym z)

  pub size_same : (a : ℕ) → length (now a) ≡ length (old a)
  size_same a = by (nat_eq a b) refl
    where
      by : (t : Bool) → nat_eq a b ≡ t → length (now a) ≡ length (old a)
      by false t = ap length (get_or-set_other m.memory b a hs [] (λ z. both_ways (nat_eq a b) t (eq-eqb a b z)))
      by true t =
          let z = eqb-true a b t in
          ap (λ c. length (now c)) z ∙ ap length (now_here ∙ sym one.is) ∙ length-set (old b) q (held x true)
          ∙ ap (λ c. length (old c)) (sym z)

  pub inside : q < length (now b)
  inside = let l = size_same b in let i = one.inside in omega (arith, l, i)

-- what is loaded is of inputs that were taken
pub loaded_taken : (count : ℕ) (o : Order) (hs : List Held) (q w k n : ℕ) (xs : List Symbol)
    → ((r i m : ℕ) → symbol_at hs r ≡ input_byte i m → i < count) → loaded_bytes o hs q w k n ≡ Ok xs
    → AreTaken count xs
loaded_taken count o hs q w k zero xs t e = subst (AreTaken count) (ok_same [] xs e) (λ j i m f. absurd cc)
loaded_taken count o hs q w k (suc n) xs t e =
    let a = first_one o hs q w k n xs e in
    subst (AreTaken count) (sym a.is)
    (by (symbol_at hs (q + place o w k)) (λ i m f. t (q + place o w k) i m f) a.rest
    (loaded_taken count o hs q w (suc k) n a.rest t a.loaded))
  where
    by : (x : Symbol) → ((i m : ℕ) → x ≡ input_byte i m → i < count) → (ys : List Symbol) → AreTaken count ys
        → AreTaken count (x ∷ ys)
    by x f ys g zero i m e = f i m (some-injective e)
    by x f ys g (suc j) i m e = g j i m e

-- ---- numbers of a block have bytes

some_bytes : (o : Option Ty) (u : ℕ) → number_bytes o ≡ Some u → 0 < u
some_bytes (Some (Int t)) u e = subst (λ n. 0 < n) (some-injective e) (bytes_of_positive t)
some_bytes None u e = absurd cc
some_bytes (Some Void) u e = absurd cc
some_bytes (Some (Ptr t)) u e = absurd cc
some_bytes (Some (Array t n)) u e = absurd cc
some_bytes (Some (Aggregate a)) u e = absurd cc

pub some_unit : (p : Program) (b u : ℕ) → unit_in p b ≡ Some u → 0 < u
some_unit p b u e = in_block (slice_get p.blocks b) e
  where
    of_type : (t : Ty) → unit_of p t ≡ Some u → 0 < u
    of_type (Int t) e = some_bytes (Some (Int t)) u e
    of_type (Array t n) e = some_bytes (slice_get p.types.types t) u e
    of_type Void e = absurd cc
    of_type (Ptr t) e = absurd cc
    of_type (Aggregate a) e = absurd cc

    in_type : (o : Option Ty) → option_and_then (unit_of p) o ≡ Some u → 0 < u
    in_type None e = absurd cc
    in_type (Some t) e = of_type t e

    in_block : (o : Option Block)
        → option_and_then (λ (x : Block). option_and_then (unit_of p) (slice_get p.types.types x.ty)) o ≡ Some u
        → 0 < u
    in_block None e = absurd cc
    in_block (Some x) e = in_type (slice_get p.types.types x.ty) e
