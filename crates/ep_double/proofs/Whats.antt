-- Statements with parts, and lists of them, by their parts.
use Rattle.std.proofs.Common.{◌≡◌, ℕ, Bool, true, false, ◌&&◌, List, [], ◌∷◌, map, refl, sym, ap, ◌∙◌, Option}
use Rattle.std.specs.List.{list_all}
use Rattle.std.specs.Option.{option_map}
use Rattle.std.specs.declared.alloc.Global.{Global}
use Rattle.std.specs.declared.vec.Vec.{Vec}
use Rattle.ep_layout.specs.Table.{Table}
use Rattle.ep_core.specs.declared.tree.Expr as tree
use Rattle.ep_core.specs.declared.tree.Dest as dest
use Rattle.ep_core.specs.declared.tree.Stmt.{Stmt}
use Rattle.ep_core.specs.declared.tree.What.{What}
use Rattle.ep_core.specs.declared.tree.What.TheVariants.{Call, If, Loop, Scope}
use Rattle.ep_core.specs.View.{dest_view, expr_view, what_view, stmts_view}
use Rattle.ep_core.proofs.Views.{if_is, loop_is, scope_is}
use Rattle.ep_kinds.specs.Tame.{is_tame_expr, is_tame_dest, is_tame_what, are_tame}

-- ---- a test and another

pub goes_on : (x y r : Bool) → x ≡ true → r ≡ y → r ≡ (x && y)
goes_on x y r h e = rw h e

pub stops : (x y r : Bool) → r ≡ x → r ≡ false → r ≡ (x && y)
stops x y r e h = rw (← e) (rw h refl)

-- ---- lists

pub all_mapped : {X Y : Type 0} (test : Y → Bool) (f : X → Y) (xs : List X)
    → list_all test (map f xs) ≡ list_all (λ x. test (f x)) xs
all_mapped test f [] = refl
all_mapped test f (x ∷ xs) = ap (λ b. test (f x) && b) (all_mapped test f xs)

module _ (t : Table) where
  abbrev pub list_tame : List Stmt → Bool
  list_tame ss = are_tame t (stmts_view ss)

  -- ---- statements

  pub call_tame : (w : What) (k : ℕ) (es : Vec tree.Expr Global) (d : Option dest.Dest) (xs : List tree.Expr)
      → w ≡ Call k es d → xs ≡ es.items
      → is_tame_what t (what_view w)
      ≡ (list_all (λ e. is_tame_expr t (expr_view e)) xs && is_tame_dest t (option_map dest_view d))
  call_tame w k es d xs h e =
      ap (λ w. is_tame_what t (what_view w)) h
      ∙ ap (λ b. b && is_tame_dest t (option_map dest_view d)) (all_mapped (is_tame_expr t) expr_view es.items)
      ∙ ap (λ xs. list_all (λ e. is_tame_expr t (expr_view e)) xs && is_tame_dest t (option_map dest_view d)) (sym e)

  pub if_tame : (w : What) (e : tree.Expr) (a b : Vec Stmt Global) (xs ys : List Stmt) → w ≡ If e a b → xs ≡ a.items
      → ys ≡ b.items
      → is_tame_what t (what_view w) ≡ (is_tame_expr t (expr_view e) && (list_tame xs && list_tame ys))
  if_tame w e a b xs ys h p q =
      rw (p, q) (ap (λ w. is_tame_what t (what_view w)) h ∙ ap (is_tame_what t) (if_is e a b))

  pub loop_tame : (w : What) (first : Bool) (e : tree.Expr) (a b : Vec Stmt Global) (xs ys : List Stmt)
      → w ≡ Loop first e a b → xs ≡ a.items → ys ≡ b.items
      → is_tame_what t (what_view w) ≡ (is_tame_expr t (expr_view e) && (list_tame xs && list_tame ys))
  loop_tame w first e a b xs ys h p q =
      rw (p, q) (ap (λ w. is_tame_what t (what_view w)) h ∙ ap (is_tame_what t) (loop_is first e a b))

  pub scope_tame : (w : What) (bs : Vec ℕ Global) (a : Vec Stmt Global) (xs : List Stmt) → w ≡ Scope bs a
      → xs ≡ a.items → is_tame_what t (what_view w) ≡ list_tame xs
  scope_tame w bs a xs h p = rw p (ap (λ w. is_tame_what t (what_view w)) h ∙ ap (is_tame_what t) (scope_is bs a))
