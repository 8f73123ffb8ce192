-- What operands have to be where a test has a truth (this project's rules).
use Rattle.std.specs.Prelude.{Bool, true, false, pos, if◌then◌else◌, Option, None, Some}
use Rattle.ep_int.specs.declared.types.Cmp.{Cmp}
use Rattle.ep_int.specs.declared.types.Cmp.TheVariants.{Ne}
use Rattle.ep_domain.specs.Domain.{Ops}
use Rattle.ep_pointers.specs.Value.{Pointers, null_alone}
use Rattle.ep_pointers.specs.Compare.{comparison_of}
use Rattle.ep_reads.specs.Bytes.{is_null_alone}
use Rattle.ep_cells.specs.declared.cell.Cell.{Cell}
use Rattle.ep_cells.specs.declared.cell.Value.{Value}
use Rattle.ep_cells.specs.declared.cell.Value.TheVariants.{Num, Ptr}
use Rattle.ep_cells.specs.States.{Known}
use Rattle.ep_evaluation.specs.Operators.{test_of}
use Rattle.ep_evaluation.specs.Narrowed.{then_with, refined, null_refined, says_alike, answer}
use Rattle.ep_eval_parts.specs.declared.limits.Limit.{Limit}
use Rattle.ep_eval_parts.specs.declared.limits.Limit.TheVariants.{Free, Number, Null}
use Rattle.ep_eval_parts.specs.declared.limits.Limits.{Limits}

module _ {N : Type 0} where
  abbrev pub free : Option (Limits N)
  free = Some (record { first = Free; second = Free })

  abbrev pub is_free : Limit N → Bool
  is_free Free = true
  is_free (Number n) = false
  is_free (Null b) = false

  abbrev pub limits_within : Option (N × N) → Option (Limits N)
  limits_within None = None
  limits_within (Some r) = Some (record { first = Number r.0; second = Number r.1 })

  -- null, or another pointer, where the other operand is null
  abbrev pub null_limit : (other : Pointers N) → Option Bool → Limit N
  null_limit q None = Free
  null_limit q (Some b) = if is_null_alone q then Null b else Free

  -- where something may be undefined, operands may be anything
  abbrev pub limits_if : (sure : Bool) → Option (Limits N) → Option (Limits N)
  limits_if true r = r
  limits_if false r = free

  module _ (D : Ops N) where
    abbrev pub number_limits : Cmp → Option N → Option N → Option (Limits N)
    number_limits c None y = free
    number_limits c (Some x) None = free
    number_limits c (Some x) (Some y) = limits_within (D.filter c x y)

    abbrev pub pointer_limits : Cmp → Bool → Option (Pointers N) → Option (Pointers N) → Option (Limits N)
    pointer_limits c t None q = free
    pointer_limits c t (Some p) None = free
    pointer_limits c t (Some p) (Some q) =
        if answer (comparison_of D c p q) t
        then Some (record { first = null_limit q (says_alike c t); second = null_limit p (says_alike c t) }) else None

    -- of a value and 0 or null
    abbrev pub value_limits : Bool → Option (Value N) → Option (Limits N)
    value_limits t None = free
    value_limits t (Some (Num n)) = number_limits (test_of t) (Some n) (Some (D.single (pos 0)))
    value_limits t (Some (Ptr p)) = pointer_limits Ne t (Some p) (Some null_alone)

    abbrev pub limited : Limit N → Option (Cell N) → Known N → Option (Known N)
    limited Free c k = Some k
    limited (Number n) c k = refined D c n k
    limited (Null b) c k = null_refined c b k

    -- the second cell is looked for in the state that the first leaves
    abbrev pub both_limited : Option (Limits N) → Option (Cell N) → (Known N → Option (Cell N)) → Known N
        → Option (Known N)
    both_limited None c g k = None
    both_limited (Some l) c g k = then_with (limited l.first c k) (λ k. limited l.second (g k) k)
