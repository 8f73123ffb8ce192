-- What forms that are none of others give.
use Rattle.std.proofs.Common.{◌≡◌, ℕ, ℤ, Bool, true, false, List, None, refl, true≢false}
use Rattle.std.specs.Global.{Box}
use Rattle.ep_int.specs.declared.types.Cmp.{Cmp}
use Rattle.ep_int.specs.declared.types.IntType.{IntType}
use Rattle.ep_int.specs.declared.types.Scalar.{Scalar}
use Rattle.ep_core.specs.declared.tree.Expr.{Expr, And, Or, Not, Cond, Compare, PtrCompare, Load, Convert, Const}
use Rattle.ep_core.specs.declared.tree.Expr.{Null, AddrOf, Cast}
use Rattle.ep_core.specs.declared.tree.Place.{Place}
use Rattle.ep_core.specs.declared.tree.Expr.TheVariants as form
use Rattle.ep_core.specs.Runs.{Side}
use Rattle.ep_core.specs.View.{expr_view}
use Rattle.ep_domain.specs.Domain.{Ops}
use Rattle.ep_cells.specs.States.{Known}
use Rattle.ep_evaluation.specs.Evaluation.{expression, test_assumed}
use Rattle.ep_eval.specs.Forms.{is_branching, is_joined, is_of_two}

pub strictly : (e : Expr) → ((x y : Box Expr) → e ≡ And x y → ⊥) → ((x y : Box Expr) → e ≡ Or x y → ⊥)
    → ((x y z : Box Expr) → e ≡ Cond x y z → ⊥) → is_branching (expr_view e) ≡ false
strictly (form.Const t v) a o c = refl
strictly form.Null a o c = refl
strictly (form.Load' w p x) a o c = refl
strictly (form.AddrOf' p x) a o c = refl
strictly (form.Bin' b t p x q y) a o c = refl
strictly (form.Convert' t p x) a o c = refl
strictly (form.Compare' b t p x q y) a o c = refl
strictly (form.PtrCompare' b p x q y) a o c = refl
strictly (form.And' p x q y) a o c = absurd (a _ _ refl)
strictly (form.Or' p x q y) a o c = absurd (o _ _ refl)
strictly (form.Not' p x) a o c = refl
strictly (form.Cond' p x q y r z) a o c = absurd (c _ _ _ refl)
strictly (form.PtrAdd' unit back p x q y) a o c = refl
strictly (form.Cast' p x) a o c = refl

pub of_two : (e : Expr) → is_branching (expr_view e) ≡ false → ((t : IntType) (v : ℤ) → e ≡ Const t v → ⊥)
    → (e ≡ Null → ⊥) → ((w : Scalar) (x : Box Place) → e ≡ Load w x → ⊥) → ((x : Box Place) → e ≡ AddrOf x → ⊥)
    → ((t : IntType) (x : Box Expr) → e ≡ Convert t x → ⊥) → ((x : Box Expr) → e ≡ Not x → ⊥)
    → ((x : Box Expr) → e ≡ Cast x → ⊥) → is_of_two (expr_view e) ≡ true
of_two (form.Const t v) j k n l a c o u = absurd (k _ _ refl)
of_two form.Null j k n l a c o u = absurd (n refl)
of_two (form.Load' w p x) j k n l a c o u = absurd (l _ _ refl)
of_two (form.AddrOf' p x) j k n l a c o u = absurd (a _ refl)
of_two (form.Bin' b t p x q y) j k n l a c o u = refl
of_two (form.Convert' t p x) j k n l a c o u = absurd (c _ _ refl)
of_two (form.Compare' b t p x q y) j k n l a c o u = refl
of_two (form.PtrCompare' b p x q y) j k n l a c o u = refl
of_two (form.And' p x q y) j k n l a c o u = absurd (true≢false j)
of_two (form.Or' p x q y) j k n l a c o u = absurd (true≢false j)
of_two (form.Not' p x) j k n l a c o u = absurd (o _ refl)
of_two (form.Cond' p x q y r z) j k n l a c o u = absurd (true≢false j)
of_two (form.PtrAdd' unit back p x q y) j k n l a c o u = refl
of_two (form.Cast' p x) j k n l a c o u = absurd (u _ refl)

pub single : (e : Expr) → ((x y : Box Expr) → e ≡ And x y → ⊥) → ((x y : Box Expr) → e ≡ Or x y → ⊥)
    → ((x : Box Expr) → e ≡ Not x → ⊥) → is_joined (expr_view e) ≡ false
single (form.Const t v) a o n = refl
single form.Null a o n = refl
single (form.Load' w p x) a o n = refl
single (form.AddrOf' p x) a o n = refl
single (form.Bin' b t p x q y) a o n = refl
single (form.Convert' t p x) a o n = refl
single (form.Compare' b t p x q y) a o n = refl
single (form.PtrCompare' b p x q y) a o n = refl
single (form.And' p x q y) a o n = absurd (a _ _ refl)
single (form.Or' p x q y) a o n = absurd (o _ _ refl)
single (form.Not' p x) a o n = absurd (n _ refl)
single (form.Cond' p x q y r z) a o n = refl
single (form.PtrAdd' unit back p x q y) a o n = refl
single (form.Cast' p x) a o n = refl

module _ {N : Type 0} (D : Ops N) (sizes : List ℕ) (s : Side) (k : Known N) where
  -- a test without a rule of its own
  pub plain_left : (t : Bool) (e : Expr) → is_joined (expr_view e) ≡ false
      → ((c : Cmp) (u : IntType) (x y : Box Expr) → e ≡ Compare c u x y → ⊥)
      → ((c : Cmp) (x y : Box Expr) → e ≡ PtrCompare c x y → ⊥)
      → test_assumed D (expression D sizes (expr_view e)).gives (expression D sizes (expr_view e)).cell s t k
      ≡ (expression D sizes (expr_view e)).assumes s t k
  plain_left t (form.Const u v) j n m = refl
  plain_left t form.Null j n m = refl
  plain_left t (form.Load' w p x) j n m = refl
  plain_left t (form.AddrOf' p x) j n m = refl
  plain_left t (form.Bin' b u p x q y) j n m = refl
  plain_left t (form.Convert' u p x) j n m = refl
  plain_left t (form.Compare' b u p x q y) j n m = absurd (n _ _ _ _ refl)
  plain_left t (form.PtrCompare' b p x q y) j n m = absurd (m _ _ _ refl)
  plain_left t (form.And' p x q y) j n m = absurd (true≢false j)
  plain_left t (form.Or' p x q y) j n m = absurd (true≢false j)
  plain_left t (form.Not' p x) j n m = absurd (true≢false j)
  plain_left t (form.Cond' p x q y r z) j n m = refl
  plain_left t (form.PtrAdd' unit back p x q y) j n m = refl
  plain_left t (form.Cast' p x) j n m = refl

  -- only loads and conversions are of a cell
  pub cell_nowhere : (e : Expr) → ((w : Scalar) (x : Box Place) → e ≡ Load w x → ⊥)
      → ((u : IntType) (x : Box Expr) → e ≡ Convert u x → ⊥) → None ≡ (expression D sizes (expr_view e)).cell s k
  cell_nowhere (form.Const u v) l c = refl
  cell_nowhere form.Null l c = refl
  cell_nowhere (form.Load' w p x) l c = absurd (l _ _ refl)
  cell_nowhere (form.AddrOf' p x) l c = refl
  cell_nowhere (form.Bin' b u p x q y) l c = refl
  cell_nowhere (form.Convert' u p x) l c = absurd (c _ _ refl)
  cell_nowhere (form.Compare' b u p x q y) l c = refl
  cell_nowhere (form.PtrCompare' b p x q y) l c = refl
  cell_nowhere (form.And' p x q y) l c = refl
  cell_nowhere (form.Or' p x q y) l c = refl
  cell_nowhere (form.Not' p x) l c = refl
  cell_nowhere (form.Cond' p x q y r z) l c = refl
  cell_nowhere (form.PtrAdd' unit back p x q y) l c = refl
  cell_nowhere (form.Cast' p x) l c = refl
