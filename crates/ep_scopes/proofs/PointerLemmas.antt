-- Pointers that are in a table need no row.
use Rattle.std.proofs.Common.{◌≡◌, ℕ, zero, suc, ◌+◌, ◌-◌, ◌≤◌, Option, Some, refl, sym, ap, ◌∙◌, arith}
use Rattle.std.specs.Prelude.{unwrap_or}
use Rattle.ep_layout.specs.declared.types.Ty.TheVariants as rows
use Rattle.ep_layout.specs.Table.{Table, number_of, type_added}
use Rattle.ep_layout.specs.Pointers.{row_over}
use Rattle.ep_layout.proofs.Options.{and_then_some}
use Rattle.ep_typing.specs.Types.{known_number, with_pointers, pointer_number}
use Rattle.ep_scopes.proofs.KnownLemmas.{one_pointer, one_star}

there : (t : Table) (n x : ℕ) → number_of t (rows.Ptr n) ≡ Some x → t ≡ type_added t (rows.Ptr n)
there t n x q = rw q refl

known : (t : Table) (n x : ℕ) → number_of t (rows.Ptr n) ≡ Some x → x ≡ known_number t (rows.Ptr n)
known t n x q = sym (ap (λ (o : Option ℕ). unwrap_or o 0) q)

rows_over : (t : Table) (k n m j : ℕ) → row_over t.types n k ≡ Some m → with_pointers t n (k + j) ≡ with_pointers t m j
unfolding row_over
rows_over t zero n m j h =
    let same : n ≡ m = cc in
    let less : 0 + j ≡ j = omega arith in
    ap (with_pointers t n) less ∙ ap (λ (i : ℕ). with_pointers t i j) same
rows_over t (suc k) n m j h =
    let s = and_then_some (λ i. row_over t.types i k) (number_of t (rows.Ptr n)) m h in
    sym (one_pointer t t n s.0 (suc k + j) (k + j) (with_pointers t n (suc k + j)) (omega arith) (there t n s.0 s.1) (known t n s.0 s.1) refl)
    ∙ rows_over t k s.0 m j s.2

numbers_over : (t : Table) (k n m j : ℕ) → row_over t.types n k ≡ Some m → pointer_number t n (k + j) ≡ pointer_number t m j
unfolding row_over
numbers_over t zero n m j h =
    let same : n ≡ m = cc in
    let less : 0 + j ≡ j = omega arith in
    ap (pointer_number t n) less ∙ ap (λ (i : ℕ). pointer_number t i j) same
numbers_over t (suc k) n m j h =
    let s = and_then_some (λ i. row_over t.types i k) (number_of t (rows.Ptr n)) m h in
    sym (one_star t n s.0 (suc k + j) (k + j) (pointer_number t n (suc k + j)) (omega arith) (known t n s.0 s.1) refl)
    ∙ numbers_over t k s.0 m j s.2

pub grown_from : (t : Table) (n m k all : ℕ) → k ≤ all → row_over t.types n k ≡ Some m → with_pointers t n all ≡ with_pointers t m (all - k)
grown_from t n m k all l h =
    let whole : all ≡ k + (all - k) = omega (arith, l) in
    ap (with_pointers t n) whole ∙ rows_over t k n m (all - k) h

pub numbered_from : (t : Table) (n m k all : ℕ) → k ≤ all → row_over t.types n k ≡ Some m → pointer_number t n all ≡ pointer_number t m (all - k)
numbered_from t n m k all l h =
    let whole : all ≡ k + (all - k) = omega (arith, l) in
    ap (pointer_number t n) whole ∙ numbers_over t k n m (all - k) h
