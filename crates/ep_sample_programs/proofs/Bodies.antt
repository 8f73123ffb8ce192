-- The body of `main` in a sample: its fields change nothing of what is declared.
use Rattle.std.proofs.Common.{◌≡◌, ℕ, zero, suc, ◌+◌, Bool, true, false, List, [], ◌∷◌, ◌++◌, Option, Some, None}
use Rattle.ep_sample_trees.proofs.Basics.{four, none_some}
use Rattle.std.proofs.Common.{Result, Ok, Err, refl, subst, ◌*◌, ◌<◌, ◌/◌, ◌%◌, arith}
use Rattle.std.specs.Prelude.{◌==◌, if◌then◌else◌}
use Rattle.std.proofs.Math.Nat.{mod-lt}
use Rattle.ep_int.specs.declared.types.IntType.TheVariants.{I32}
use Rattle.ep_int.specs.declared.types.Model.TheVariants.{Ilp32}
use Rattle.ep_ast.specs.declared.refusals.Refusal.{Refusal}
use Rattle.ep_ast.specs.Statement.{Part, to_parts}
use Rattle.ep_layout.specs.Table.{at_depth}
use Rattle.ep_typing.specs.declared.types.CType.{CType}
use Rattle.ep_typing.specs.Env.{Env, start}
use Rattle.ep_typing.specs.Results.{◌>>=◌, at}
use Rattle.ep_typing.specs.Types.{int_type}
use Rattle.ep_elaboration.specs.Declarations.{Line}
use Rattle.ep_elaboration.specs.Statements.{part, parts, innermost, left}
use Rattle.ep_elaboration.specs.Functions.{headed, function_declared, signature_of, body_env, blocks_if, results}
use Rattle.ep_elaboration.specs.Programs.{Sofar, begun}
use Rattle.ep_elaboration.specs.ProgramSteps.{item}
use Rattle.ep_elaboration.proofs.Opened.{program}
use Rattle.ep_sample.specs.Sample.{next_of, kind_of, shift_of}
use Rattle.ep_sample_trees.specs.Tree.{swaps, main_head, objects, turned_parts, swapped_parts, byte_parts, field_parts}
use Rattle.ep_sample_trees.specs.Tree.{fields_parts, gives, number}

-- ---- where fields stand

abbrev pub sofar_of : Result Sofar Refusal → Sofar
sofar_of (Ok s) = s
sofar_of (Err r) = begun Ilp32

-- with both functions by byte order
unfoldable pub behind_swaps : Sofar
unfolding program at_depth
behind_swaps = sofar_of (item (begun Ilp32) swaps)

abbrev pub env_of : Result Env Refusal → Env
env_of (Ok G) = G
env_of (Err r) = start Ilp32

-- where the body of `main` begins
abbrev entry : Sofar → Result Env Refusal
entry s = do
  r ← headed s.env 2 main_head
  n ← at 8 (function_declared (left r.1) (0 ∷ []) true (signature_of main_head r.0))
  Ok (body_env (blocks_if true n.1 (results r.0 ++ r.0.params)) (innermost r.1))

unfoldable pub in_main : Env
unfolding program at_depth behind_swaps
in_main = env_of (entry behind_swaps)

abbrev pub behind : Result (List Line × Env) Refusal → Option Env
behind (Ok a) = Some a.1
behind (Err r) = None

abbrev env_behind : Result (List Line × Env) Refusal → Env
env_behind (Ok a) = a.1
env_behind (Err r) = start Ilp32

abbrev pub int : CType
int = int_type I32

-- behind its objects
unfoldable pub with_objects : Env
unfolding program at_depth in_main
with_objects = env_behind (parts in_main int false (to_parts objects))

-- ---- lists of parts

pub both : (G H K : Env) (c : CType) (i : Bool) (ps qs : List Part) → behind (parts G c i (to_parts ps)) ≡ Some H
    → behind (parts H c i (to_parts qs)) ≡ Some K → behind (parts G c i (to_parts (ps ++ qs))) ≡ Some K
unfolding parts
both G H K c i [] qs e f = subst (λ F. behind (parts F c i (to_parts qs)) ≡ Some K) (same e) f where
  same : {G H : Env} → ◌≡◌ {A = Option Env} (Some G) (Some H) → H ≡ G
  same e = cc
both G H K c i (p ∷ ps) qs e f = on (part G c i p) e (λ F. both F H K c i ps qs) where
  on : (a : Result (List Line × Env) Refusal)
      → behind (a >>= λ x. parts x.1 c i (to_parts ps) >>= λ y. Ok (x.0 ++ y.0, y.1)) ≡ Some H
      → ((F : Env) → behind (parts F c i (to_parts ps)) ≡ Some H → behind (parts H c i (to_parts qs)) ≡ Some K
      → behind (parts F c i (to_parts (ps ++ qs))) ≡ Some K)
      → behind (a >>= λ x. parts x.1 c i (to_parts (ps ++ qs)) >>= λ y. Ok (x.0 ++ y.0, y.1)) ≡ Some K
  on (Err r) e more = absurd (none_some e)
  on (Ok x) e more = last (parts x.1 c i (to_parts (ps ++ qs))) (more x.1 (front (parts x.1 c i (to_parts ps)) e) f) where
    front : (b : Result (List Line × Env) Refusal) → behind (b >>= λ y. Ok (x.0 ++ y.0, y.1)) ≡ Some H
        → behind b ≡ Some H
    front (Ok y) g = g
    front (Err r) g = absurd (none_some g)

    last : (b : Result (List Line × Env) Refusal) → behind b ≡ Some K
        → behind (b >>= λ y. Ok (x.0 ++ y.0, y.1)) ≡ Some K
    last (Ok y) g = g
    last (Err r) g = absurd (none_some g)

-- ---- fields

abbrev Keeps : List Part → Type 0
Keeps ps = behind (parts with_objects int false (to_parts ps)) ≡ Some with_objects

turned : (l : ℕ) → behind (parts with_objects int false (to_parts (turned_parts l))) ≡ Some with_objects
unfolding program at_depth with_objects
turned l = refl

swapped : (l : ℕ) → behind (parts with_objects int false (to_parts (swapped_parts l))) ≡ Some with_objects
unfolding program at_depth with_objects
swapped l = refl

by_eights : (l q : ℕ) → q < 4
    → behind (parts with_objects int false (to_parts (byte_parts l (8 * q)))) ≡ Some with_objects
unfolding program at_depth with_objects
by_eights l q small =
    four (λ n. behind (parts with_objects int false (to_parts (byte_parts l (8 * n)))) ≡ Some with_objects) q small
    refl refl refl refl

of_kind : (a b : Bool) (t w c : List Part) → Keeps t → Keeps w → Keeps c → Keeps (if a then t else if b then w else c)
of_kind true b t w c p q r = p
of_kind false true t w c p q r = q
of_kind false false t w c p q r = r

field : (s l : ℕ) → Keeps (field_parts s l)
field s l =
    of_kind (kind_of s == 0) (kind_of s == 1) (turned_parts l) (swapped_parts l) (byte_parts l (shift_of s))
    (turned l) (swapped l) (by_eights l (s / 196608 % 4) (mod-lt (s / 196608) (omega arith)))

end : (l : ℕ) → Keeps (gives l (number l 0) ∷ [])
unfolding program at_depth with_objects
end l = refl

fields : (s l n : ℕ) → Keeps (fields_parts s l n)
fields s l zero = end l
fields s l (suc n) =
    both with_objects with_objects with_objects int false (field_parts (next_of s) l)
    (fields_parts (next_of s) (l + 1 + 1 + 1) n) (field (next_of s) l) (fields (next_of s) (l + 1 + 1 + 1) n)

-- ---- the whole body

declared : behind (parts in_main int false (to_parts objects)) ≡ Some with_objects
unfolding program at_depth with_objects
declared = refl

pub body : (start n : ℕ)
    → behind (parts in_main int false (to_parts (objects ++ fields_parts start 13 n))) ≡ Some with_objects
body start n =
    both in_main with_objects with_objects int false objects (fields_parts start 13 n) declared (fields start 13 n)
