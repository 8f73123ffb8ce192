-- Statements of a mover one after another, and parts that call each other.
use Rattle.std.proofs.Common.{◌≡◌, ℕ, suc, ◌+◌, ◌<◌, ◌≤◌, ◌≢◌, Bool, true, false, ◌&&◌, ◌||◌, if◌then◌else◌, List}
use Rattle.std.proofs.Common.{[], ◌∷◌, length, map, drop, get_or, slice_get, option_map, Option, Some, None, Result}
use Rattle.std.proofs.Common.{refl, sym, ap, ◌∙◌, arith}
use Rattle.std.specs.Option.{option_map_or}
use Rattle.std.specs.declared.alloc.Global.{Global}
use Rattle.std.specs.declared.vec.Vec.{Vec}
use Rattle.std.proofs.lemmas.List.{drop_more, drop_all}
use Rattle.std.proofs.lemmas.Option.{slice_get-map, slice_get_read, slice_get_past}
use Rattle.ep_int.specs.declared.types.Order.{Order}
use Rattle.ep_int.specs.declared.types.Scalar.{Scalar}
use Rattle.ep_layout.specs.Table.{Table}
use Rattle.ep_core.specs.declared.program.BlockInfo.{BlockInfo}
use Rattle.ep_core.specs.declared.program.Function as memory
use Rattle.ep_core.specs.declared.tree.Stmt.{Stmt}
use Rattle.ep_core.specs.declared.tree.What as action
use Rattle.ep_core.specs.declared.tree.What.TheVariants.{ByOrder}
use Rattle.ep_core.specs.Exec.{is_order}
use Rattle.ep_core.specs.Program.{Program, Function, Stmts, more}
use Rattle.ep_core.specs.Runs.{is_result}
use Rattle.ep_core.specs.View.{block_view, function_view, stmts_view, what_view}
use Rattle.ep_core.proofs.Views.{by_order_is}
use Rattle.ep_movers.specs.declared.Stop.{Stop}
use Rattle.ep_movers.specs.Forms as form
use Rattle.ep_double.specs.ByteStates.{States, move_what, move_all}

-- ---- main

pub not_alone : (p : Program) (fs : List memory.Function) → length fs ≢ 1
    → false ≡ form.is_moving_main p (map function_view fs)
not_alone p [] h = refl
not_alone p (f ∷ []) h = absurd (h refl)
not_alone p (f ∷ g ∷ fs) h = refl

pub alone : (p : Program) (fs : List memory.Function) (f : memory.Function) → length fs ≡ 1 → f ≡ get_or fs 0 f
    → (form.are_moved_blocks p.types f.result 0 p.blocks && form.are_moving p (function_view f).body)
    ≡ form.is_moving_main p (map function_view fs)
alone p [] f h e = absurd (omega (arith, h))
alone p (g ∷ []) f h e =
    ap (λ (f : memory.Function).
    form.are_moved_blocks p.types f.result 0 p.blocks && form.are_moving p (function_view f).body) e
alone p (g ∷ i ∷ fs) f h e = absurd (omega (arith, h))

pub main_there : (fs : List memory.Function) (k : ℕ) (f : memory.Function) → k < length fs → f ≡ get_or fs k f
    → slice_get (map function_view fs) k ≡ Some (function_view f)
main_there fs k f l e =
    slice_get-map function_view fs k ∙ ap (option_map function_view) (slice_get_read fs (length fs) k f refl l e)

pub no_main : (fs : List memory.Function) (k : ℕ) → length fs ≤ k → slice_get (map function_view fs) k ≡ None
no_main fs k h = slice_get-map function_view fs k ∙ ap (option_map function_view) (slice_get_past fs k h)

-- ---- statements

module _ (o : Order) (m : States) where
  module _ (w : action.What) (n : Order) (a b : Vec Stmt Global) (is : w ≡ ByOrder n a b) (ss : List Stmt) where
    arms : move_what o (what_view w) m
        ≡ (if is_order o n then move_all o (stmts_view a.items) m else move_all o (stmts_view b.items) m)
    arms = ap (λ (w : action.What). move_what o (what_view w) m) is ∙ ap (λ w. move_what o w m) (by_order_is n a b)

    pub first_arm : (r : Result States Stop) → ss ≡ a.items → true ≡ is_order o n → r ≡ move_all o (stmts_view ss) m
        → r ≡ move_what o (what_view w) m
    first_arm r e t h =
        h ∙ (ap (λ l. move_all o (stmts_view l) m) e
        ∙ (ap (λ t. if t then move_all o (stmts_view a.items) m else move_all o (stmts_view b.items) m) t ∙ sym arms))

    pub other_arm : (r : Result States Stop) → ss ≡ b.items → false ≡ is_order o n → r ≡ move_all o (stmts_view ss) m
        → r ≡ move_what o (what_view w) m
    other_arm r e t h =
        h ∙ (ap (λ l. move_all o (stmts_view l) m) e
        ∙ (ap (λ t. if t then move_all o (stmts_view a.items) m else move_all o (stmts_view b.items) m) t ∙ sym arms))

-- ---- tests one after another

pub next_block : (t : Table) (r : Option (ℕ × Scalar)) (n : ℕ) (bs : List BlockInfo) (d : BlockInfo) → n < length bs
    → form.are_moved_blocks t r n (map block_view (drop n bs))
    ≡ ((is_result r n || option_map_or (form.is_moved_type t) (slice_get t.types (get_or bs n d).ty) false)
    && form.are_moved_blocks t r (n + 1) (map block_view (drop (n + 1) bs)))
next_block t r n bs d l =
    ap (λ cs. form.are_moved_blocks t r n (map block_view cs)) (drop_more bs n d l)
    ∙ ap (λ i. (is_result r n || option_map_or (form.is_moved_type t) (slice_get t.types (get_or bs n d).ty) false)
    && form.are_moved_blocks t r i (map block_view (drop (n + 1) bs))) (one_on n)
  where
    one_on : (k : ℕ) → suc k ≡ k + 1
    one_on k = omega arith

pub all_blocks : (t : Table) (r : Option (ℕ × Scalar)) (n : ℕ) (bs : List BlockInfo) (w : Bool) → length bs ≤ n
    → form.are_moved_blocks t r n (map block_view (drop n bs)) ≡ w → true ≡ w
all_blocks t r n bs w past h = sym (ap (λ cs. form.are_moved_blocks t r n (map block_view cs)) (drop_all n bs past)) ∙ h

module _ (ss : List Stmt) (i : ℕ) (s : Stmt) (here : i < length ss) (is : s ≡ get_or ss i s) where
  front : drop i ss ≡ s ∷ drop (i + 1) ss
  front = drop_more ss i s here ∙ ap (λ (x : Stmt). x ∷ drop (i + 1) ss) (sym is)

  pub next_assignment : (t : Bool)
      → ((l : ℕ) (rest : Stmts) → form.are_assignments (more l (what_view s.what) rest)
      ≡ (t && form.are_assignments rest))
      → form.are_assignments (stmts_view (drop i ss)) ≡ (t && form.are_assignments (stmts_view (drop (i + 1) ss)))
  next_assignment t h =
      ap (λ xs. form.are_assignments (stmts_view xs)) front ∙ h s.line (stmts_view (drop (i + 1) ss))
