-- Machines of both sides by symbols, of which one is changed, and what statements put out.
use Rattle.std.proofs.Common.{◌≡◌, true, List, ◌++◌, length, take, Ok, refl, sym, ◌∙◌, ap}
use Rattle.std.proofs.Math.Seq.{take-append_seam}
use Rattle.ep_int.specs.declared.types.Order.{Order}
use Rattle.ep_int.specs.declared.types.Scalar.{Scalar}
use Rattle.ep_int.specs.declared.types.Scalar.TheVariants.{Int as Number, Pointer}
use Rattle.ep_int.specs.Types.{bytes_of}
use Rattle.ep_core.specs.Program.{Place, Expr, Simple, nothing, eval, assign, clear, copy_aggregate, copy_bytes, fill}
use Rattle.ep_core.specs.Program.{input, output, read_bytes, write_bytes, returns, Program}
use Rattle.ep_core.specs.Exec.{on}
use Rattle.ep_core.specs.Runs.{Side, left, right, Begins}
use Rattle.ep_core.proofs.Sorts.{never}
use Rattle.ep_pass.specs.Pass.{way_of}
use Rattle.ep_movers.specs.Symbols.{goes_on, resized}
use Rattle.ep_movers.specs.Movers.{Machine, bytes_in, place_of, bytes_written, remembers, symbols, writes, does}
use Rattle.ep_movers.specs.Forms.{is_moving_simple}
use Rattle.ep_mover_runs.proofs.Numbers.{ok_parts, same_ok}
use Rattle.ep_mover_laws.specs.Moving.{beside}

-- ---- one side changed

abbrev pub with_side : {A : Type 0} → Side → A → (Side → A) → Side → A
with_side left x f left = x
with_side left x f right = f right
with_side right x f left = f left
with_side right x f right = x

module _ {A : Type 0} where
  pub own_side : (i : Side) (x : A) (f : Side → A) → with_side i x f i ≡ x
  own_side left x f = refl
  own_side right x f = refl

  pub other_side : (i : Side) (x : A) (f : Side → A) → with_side i x f (beside i) ≡ f (beside i)
  other_side left x f = refl
  other_side right x f = refl

  -- of each side, where it is of the changed one and was of each
  pub each_with : (P : Side → A → Type 0) (i : Side) (x : A) (f : Side → A) → P i x → ((j : Side) → P j (f j))
      → (j : Side) → P j (with_side i x f j)
  each_with P left x f h g left = h
  each_with P left x f h g right = g right
  each_with P right x f h g left = g left
  each_with P right x f h g right = h

  -- what was there is put there again
  pub put_again : (i : Side) (x : A) (f : Side → A) → f i ≡ x → (j : Side) → f j ≡ with_side i x f j
  put_again left x f e left = e
  put_again left x f e right = refl
  put_again right x f e left = refl
  put_again right x f e right = e

  pub same_with : (i : Side) (x : A) (f g : Side → A) → f (beside i) ≡ g (beside i) → (j : Side)
      → with_side i x f j ≡ with_side i x g j
  same_with left x f g e left = refl
  same_with left x f g e right = e
  same_with right x f g e left = e
  same_with right x f g e right = refl

-- each side changed by one state of two kinds
pub both_with : {A B : Type 0} (P : Side → A → B → Type 0) (i : Side) (x : A) (y : B) (f : Side → A) (g : Side → B)
    → P i x y → ((j : Side) → P j (f j) (g j)) → (j : Side) → P j (with_side i x f j) (with_side i y g j)
both_with P left x y f g h k left = h
both_with P left x y f g h k right = k right
both_with P right x y f g h k left = k left
both_with P right x y f g h k right = h

-- ---- what is put out

-- beginnings of one list that are as long as one another
pub same_beginning : {A : Type 0} (a b c d : List A) → Begins a c → Begins b d → c ≡ d → length a ≡ length b → a ≡ b
same_beginning a b c d p q e n =
    sym (take-append_seam a p.rest) ∙ ap (take (length a)) (p.is ∙ e ∙ sym q.is)
    ∙ ap (λ k. take k (b ++ q.rest)) n ∙ take-append_seam b q.rest

-- an assignment takes nothing and puts nothing out
pub assigned_so : (o : Order) (what : Scalar) (a : Place) (e : Expr) (m k : Machine) → does o (assign what a e) m ≡ Ok k
    → (k.inputs ≡ m.inputs) × (k.outputs ≡ m.outputs)
assigned_so o (Number t) a e m k r =
    let w = ok_parts (place_of a) (λ w. goes_on (symbols o m.memory e) (λ xs. writes o t m w (resized t xs))) k r in
    let xs = ok_parts (symbols o m.memory e) (λ xs. writes o t m w.0 (resized t xs)) k w.2 in
    let hs = ok_parts (bytes_written o w.0.1 (bytes_of t) 0 (resized t xs.0) (bytes_in m.memory w.0.0))
    (λ hs. Ok (remembers m w.0.0 hs)) k xs.2 in
    let is : remembers m w.0.0 hs.0 ≡ k = same_ok hs.2 in
    (ap (λ (n : Machine). n.inputs) (sym is), ap (λ (n : Machine). n.outputs) (sym is))
assigned_so o Pointer a e m k r = absurd cc

-- a statement of a mover is left at its end
pub way_on : (p : Program) (w : Simple) → is_moving_simple p w ≡ true → way_of w ≡ on
way_on p nothing h = refl
way_on p (eval e) h = refl
way_on p (assign what a e) h = refl
way_on p (clear a ty) h = refl
way_on p (copy_aggregate a b ty) h = refl
way_on p (copy_bytes a b n) h = refl
way_on p (fill a e n) h = refl
way_on p (input t d) h = refl
way_on p (output t e) h = refl
way_on p (read_bytes e n) h = refl
way_on p (write_bytes e n) h = refl
way_on p (returns e) h = never h
