-- How often the analysis goes through bodies of loops at most.
use Rattle.std.specs.Prelude.{ℕ, zero, suc, ◌+◌, ◌*◌, Bool, true, false, nat_eq, sum_by, length, slice_get, Option}
use Rattle.std.specs.Prelude.{Some, None}
use Rattle.ep_int.specs.declared.types.Order.{Order}
use Rattle.ep_core.specs.Program.{What, simple, call, if_else, loop, break_loop, continue_loop, by_order, scope}
use Rattle.ep_core.specs.Program.{Stmts, stop, more, Block, Function, Program}
use Rattle.ep_core.specs.Runs.{Side}

-- ---- the number of the last head

-- how often one cell can change, where pointers have targets in so many blocks and a number widens so often
abbrev pub cell_rank : (blocks height : ℕ) → ℕ
cell_rank b h = 4 + (b + 1) * (h + 1)

-- The head of this number, counted from 1 at each visit of a joint loop, is the empty state. The height is that of the
-- domain of numbers.
abbrev pub last_head : Program → (height : ℕ) → ℕ
last_head p h = 32 * sum_by (λ (b : Block). b.size) p.blocks * cell_rank (length p.blocks) h + 1

-- ---- turns

-- one of two numbers
abbrev pub number_of : Bool → (yes no : ℕ) → ℕ
number_of true n m = n
number_of false n m = m

-- with so many unrolled turns and this last head, on machines of these byte orders
module _ (u limit : ℕ) (ord : Side → Order) (p : Program) where
  -- of one side, where these are the numbers of the functions
  module _ (env : ℕ → ℕ) where
    abbrev mutual
      pub alone_most : What → ℕ
      alone_most (simple w) = 0
      alone_most (call k es d) = env k
      alone_most (if_else e a b) = alone_most_all a + alone_most_all b
      alone_most (loop first e a b) = u * suc (alone_most_all a + alone_most_all b)
      alone_most break_loop = 0
      alone_most continue_loop = 0
      alone_most (by_order named a b) = alone_most_all a + alone_most_all b
      alone_most (scope bs a) = alone_most_all a

      pub alone_most_all : Stmts → ℕ
      alone_most_all stop = 0
      alone_most_all (more l w rest) = alone_most w + alone_most_all rest

    -- of both, where these are the numbers for both
    module _ (env2 : ℕ → ℕ) where
      abbrev mutual
        pub most : What → ℕ
        most (simple w) = 0
        most (call k es d) = env2 k
        most (if_else e a b) = (most_all a + most_all b) + (5 * alone_most_all a + 5 * alone_most_all b)
        most (loop first e a b) =
            (u + (limit + 1)) * suc ((most_all a + most_all b) + 2 * (u * suc (alone_most_all a + alone_most_all b)))
        most break_loop = 0
        most continue_loop = 0
        -- either arm may be that of one side or of both
        most (by_order named a b) = 5 * alone_most_all a + 5 * alone_most_all b
        most (scope bs a) = most_all a

        pub most_all : Stmts → ℕ
        most_all stop = 0
        most_all (more l w rest) = most w + most_all rest

  -- of the body of a function
  abbrev pub alone_most_body : Option Function → (env : ℕ → ℕ) → ℕ
  alone_most_body None env = 0
  alone_most_body (Some f) env = alone_most_all env f.body

  abbrev pub most_body : Option Function → (env env2 : ℕ → ℕ) → ℕ
  most_body None env env2 = 0
  most_body (Some f) env env2 = most_all env env2 f.body

  -- of the bodies of the functions before number n
  abbrev pub alone_most_before : (n : ℕ) → ℕ → ℕ
  alone_most_before zero k = 0
  alone_most_before (suc n) k =
      number_of (nat_eq k n) (alone_most_body (slice_get p.functions n) (alone_most_before n)) (alone_most_before n k)

  abbrev pub most_before : (n : ℕ) → ℕ → ℕ
  most_before zero k = 0
  most_before (suc n) k =
      number_of (nat_eq k n) (most_body (slice_get p.functions n) (alone_most_before n) (most_before n))
      (most_before n k)

  -- of a program
  abbrev pub most_turns : ℕ
  most_turns = most_body (slice_get p.functions p.main) (alone_most_before p.main) (most_before p.main)
