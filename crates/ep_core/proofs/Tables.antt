-- Tables of types: what they lack, and that they only grow.
use Rattle.std.proofs.Common.{◌≡◌, ℕ, ◌+◌, ◌≤◌, [], length, Option, None, unwrap_or, ap}
use Rattle.std.specs.Option.{option_map}
use Rattle.std.proofs.lemmas.Option.{slice_get_past}
use Rattle.ep_int.proofs.Basics.{length-by_rows}
use Rattle.ep_layout.specs.Layout.{Layout}
use Rattle.ep_layout.specs.Table.{Table, Grows, layout_of, layout_rules, leaves, size}
use Rattle.ep_layout.proofs.Basics.{at_depth-none}

pub no_layout : (t : Table) (n : ℕ) → length t.types ≤ n → layout_of t n ≡ None
no_layout t n h =
    at_depth-none (layout_rules t.model) t (length t.types + length t.completed) n (slice_get_past t.types n h)

pub no_leaves : (t : Table) (n : ℕ) → length t.types ≤ n → leaves t n ≡ []
no_leaves t n h = ap (λ (l : Option Layout). unwrap_or (option_map (λ (l : Layout). l.leaves) l) []) (no_layout t n h)

pub no_size : (t : Table) (n : ℕ) → length t.types ≤ n → unwrap_or (size t n) 0 ≡ 0
no_size t n h = ap (λ (l : Option Layout). unwrap_or (option_map (λ (l : Layout). l.size) l) 0) (no_layout t n h)

pub more_types : (t u : Table) → Grows t u → length t.types ≤ length u.types
more_types t u g = length-by_rows t.types u.types (λ n ty e. (ty, g.types n ty e))

pub more_aggregates : (t u : Table) → Grows t u → length t.aggregates ≤ length u.aggregates
more_aggregates t u g = length-by_rows t.aggregates u.aggregates (λ a x e. let p = g.aggregates a x e in (p.0, p.1))
