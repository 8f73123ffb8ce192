-- Marks by their first bytes.
use Rattle.std.proofs.Common.{◌≡◌, ℕ, zero, suc, ◌<◌, Bool, true, false, ◌&&◌, List, [], ◌∷◌, length, codes, nat_eq, ◌==◌}
use Rattle.std.proofs.Common.{slice_index_or, refl, sym, arith}
use Rattle.std.proofs.lemmas.Bool.Decides.{nat_tests}
use Rattle.std.specs.List.{starts_with}
use Rattle.ep_ast.specs.Token.{marks}

abbrev pub first_bytes : List ℕ
first_bytes = codes "<>-+-<><>=!&|+-*/%&|^()[]{}.&*+-~!/%<>^|?:;=,"

-- each text has its first byte in the other list
abbrev begin_with : List (List ℕ) → List ℕ → Bool
begin_with [] fs = true
begin_with ([] ∷ ws) fs = false
begin_with ((c ∷ t) ∷ ws) [] = false
begin_with ((c ∷ t) ∷ ws) (f ∷ fs) = nat_eq c f && begin_with ws fs

other : (ws : List (List ℕ)) (fs : List ℕ) → begin_with ws fs ≡ true → (at b : ℕ) (bs : List ℕ) → at < length ws
    → (slice_index_or fs at 0 ≡ b → ⊥) → starts_with nat_eq (b ∷ bs) (slice_index_or ws at []) ≡ false
other [] fs h at b bs lt ne = absurd (omega (arith, lt))
other ([] ∷ ws) fs h at b bs lt ne = absurd cc
other ((c ∷ t) ∷ ws) [] h at b bs lt ne = absurd cc
other ((c ∷ t) ∷ ws) (f ∷ fs) h zero b bs lt ne =
    let e : nat_eq c b ≡ false = grind (arith, h, ne, nat_tests) in
    rw e refl
other ((c ∷ t) ∷ ws) (f ∷ fs) h (suc at) b bs lt ne =
    let rest : begin_with ws fs ≡ true = grind (arith, h) in
    other ws fs rest at b bs (omega (arith, lt)) ne

-- a mark doesn't stand where another byte than its first stands
pub absent : (at : ℕ) (bs : List ℕ) → length bs == 0 ≡ false → at < 45
    → (slice_index_or first_bytes at 0 ≡ slice_index_or bs 0 0 → ⊥)
    → starts_with nat_eq bs (slice_index_or marks at []) ≡ false
absent at [] some lt ne = absurd cc
absent at (b ∷ bs) some lt ne = other marks first_bytes refl at b bs lt ne
