-- A type that has a size is in the table, and its leaves lie in its bytes.
use Rattle.std.proofs.Common.{◌≡◌, ℕ, ◌+◌, ◌<◌, true, List, length, slice_get, Option, Some, None, refl}
use Rattle.ep_layout.proofs.Basics.{at_depth-none}
use Rattle.std.proofs.Common.{sym, ap, subst}
use Rattle.std.specs.Prelude.{is_some}
use Rattle.std.specs.Option.{option_map}
use Rattle.std.proofs.lemmas.Option.{slice_get_within}
use Rattle.ep_int.specs.declared.types.Model.{Model}
use Rattle.ep_layout.specs.declared.types.Leaf.{Leaf}
use Rattle.ep_layout.specs.declared.types.Ty.{Ty}
use Rattle.ep_layout.specs.Layout.{Layout, AreLeavesFrom}
use Rattle.ep_layout.specs.Table.{Table, layout_rules, size}
use Rattle.ep_cells.specs.Kill.{AreLeavesIn}
use Rattle.ep_core.proofs.Sorts.{never}
use Rattle.ep_transfers.proofs.Kills.{leaves_rise}

no_size : (t : Table) (n : ℕ) → slice_get t.types n ≡ None → size t n ≡ None
no_size t n e =
    ap (λ (l : Option Layout). option_map (λ (l : Layout). l.size) l)
    (at_depth-none (layout_rules t.model) t (length t.types + length t.completed) n e)

pub is_there : (t : Table) (n : ℕ) → is_some (size t n) ≡ true → n < length t.types
is_there t n h = look (slice_get t.types n) refl
  where
    look : (o : Option Ty) → slice_get t.types n ≡ o → n < length t.types
    look None e = never (subst (λ s. is_some s ≡ true) (no_size t n e) h)
    look (Some x) e = slice_get_within t.types n x e

pub leaves_inside : (d : Model) (n : ℕ) (ls : List Leaf) → AreLeavesFrom d 0 n ls → AreLeavesIn d 0 n ls
leaves_inside d n ls h = leaves_rise d 0 n ls h

-- of what the code has of them
pub inside_as : (d e : Model) (n b : ℕ) (ls ms : List Leaf) → d ≡ e → n ≡ b → ls ≡ ms → AreLeavesIn e 0 b ms
    → AreLeavesIn d 0 n ls
inside_as d e n b ls ms m s l h =
    subst (λ x. AreLeavesIn x 0 n ls) (sym m)
    (subst (λ x. AreLeavesIn e 0 x ls) (sym s) (subst (AreLeavesIn e 0 b) (sym l) h))
