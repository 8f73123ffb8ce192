-- What two values of two domains have in common (this project's rules).
use Rattle.std.specs.Prelude.{ℕ, ◌+◌, ℤ, Bool, ◌&&◌, ◌||◌, Option, int_lt, min}
use Rattle.std.specs.Option.{option_and_then}
use Rattle.std.specs.Int.{int_min, int_max}
use Rattle.ep_int.specs.Arith.{int_eq}
use Rattle.ep_domain.specs.Domain.{Ops}

-- the numbers that two ranges have in common: none where the ends are out of order
abbrev pub common_part : ℤ × ℤ → ℤ × ℤ → ℤ × ℤ
common_part r s = (int_max r.0 s.0, int_min r.1 s.1)

abbrev pub common_range : {A B : Type 0} → Ops A → Ops B → A → B → ℤ × ℤ
common_range d e a b = common_part (d.range a) (e.range b)

-- A range has more than one number, or one alone, which both hold.
abbrev pub is_shared : {A B : Type 0} → Ops A → Ops B → A → B → ℤ × ℤ → Bool
is_shared d e a b r = int_lt r.0 r.1 || (int_eq r.0 r.1 && (d.holds a r.0 && e.holds b r.0))

-- Two values of which the ranges have a number in common can be a pair. Where they have one alone, both have to hold
-- it.
abbrev pub may_pair : {A B : Type 0} → Ops A → Ops B → A → B → Bool
may_pair d e a b = is_shared d e a b (common_range d e a b)

-- the ends of a range, moved to the edges of the left value there and then to those of the right value
abbrev pub edges_between : {A B : Type 0} → Ops A → Ops B → A → B → ℤ × ℤ → Option (ℤ × ℤ)
edges_between d e a b r = option_and_then (λ s. e.edges b s.0 s.1) (d.edges a r.0 r.1)

-- what two values have in common of their ranges, narrowed
abbrev pub common_edges : {A B : Type 0} → Ops A → Ops B → A → B → Option (ℤ × ℤ)
common_edges d e a b = edges_between d e a b (common_range d e a b)

-- a sum of ranks, up to the greatest number of 32 bits
abbrev pub sum_of_ranks : ℕ → ℕ → ℕ
sum_of_ranks a b = min (a + b) 4294967295
