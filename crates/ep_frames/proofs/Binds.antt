-- Arguments and parameters.
use Rattle.std.proofs.Common.{◌≡◌, ℕ, ◌+◌, ◌<◌, ◌≤◌, List, [], ◌∷◌, ◌++◌, length, get_or, drop, map, refl}
use Rattle.ep_int.proofs.Basics.{drop-here}
use Rattle.std.proofs.lemmas.List.{drop_all}
use Rattle.std.proofs.Common.{sym}
use Rattle.std.proofs.Common.{ap, ◌∙◌, subst}
use Rattle.ep_int.specs.declared.types.Order.{Order}
use Rattle.ep_int.specs.declared.types.Scalar.{Scalar}
use Rattle.ep_int.specs.Memory.{Memory, Value, has, faults, Kind}
use Rattle.ep_bytes.specs.declared.types.Datum.{Datum}
use Rattle.ep_bytes.specs.View.{value_in}
use Rattle.ep_core.specs.Program.{Expr, Program}
use Rattle.ep_core.specs.Exec.{State, Outcome, Values, have, stops, bound, first_and, put_at, value, values}
use Rattle.ep_core.specs.Typed.{ValueFits}
use Rattle.ep_frames.specs.Arguments.{AreBound}

-- ---- parameters

module _ (o : Order) (p : Program) where
  no_args : (bs : List (ℕ × Scalar)) (l : ℕ) (s : State) (go : State → Outcome) → bound o p bs [] l s go ≡ go s
  no_args [] l s go = refl
  no_args (b ∷ bs) l s go = refl

  pub bind_ends : (i : ℕ) (bs : List (ℕ × Scalar)) (vs : List Datum) (l : ℕ) (s : State) (go : State → Outcome)
      → length vs ≤ i → bound o p (drop i bs) (map value_in (drop i vs)) l s go ≡ go s
  bind_ends i bs vs l s go h = rw (drop_all i vs h) (no_args (drop i bs) l s go)

  pub bind_done : (i : ℕ) (bs : List (ℕ × Scalar)) (vs : List Datum) (l : ℕ) (s : State) (go : State → Outcome)
      → length bs ≤ i → bound o p (drop i bs) (map value_in (drop i vs)) l s go ≡ go s
  bind_done i bs vs l s go h = rw (drop_all i bs h) refl

  pub bind_next : (i : ℕ) (bs : List (ℕ × Scalar)) (vs : List Datum) (b d : ℕ × Scalar) (v e : Datum) (l : ℕ)
      (s : State) (go : State → Outcome) → i < length bs → b ≡ get_or bs i d → i < length vs → v ≡ get_or vs i e
      → bound o p (drop i bs) (map value_in (drop i vs)) l s go
      ≡ put_at o p b.1 b.0 0 (value_in v) l s
      (λ s. bound o p (drop (i + 1) bs) (map value_in (drop (i + 1) vs)) l s go)
  bind_next i bs vs b d v e l s go hb eb hv ev = rw (drop-here i bs b d hb eb, drop-here i vs v e hv ev) refl

pub bound_here : (p : Program) (i : ℕ) (bs : List (ℕ × Scalar)) (vs : List Datum) (b d : ℕ × Scalar) (v e : Datum)
    → i < length bs → b ≡ get_or bs i d → i < length vs → v ≡ get_or vs i e → AreBound p (drop i bs) (drop i vs)
    → ValueFits p b.1 (value_in v) × AreBound p (drop (i + 1) bs) (drop (i + 1) vs)
bound_here p i bs vs b d v e hb eb hv ev h =
    let split : AreBound p (b ∷ drop (i + 1) bs) (v ∷ drop (i + 1) vs)
    = subst (λ ys. AreBound p (b ∷ drop (i + 1) bs) ys) (drop-here i vs v e hv ev)
    (subst (λ (xs : List (ℕ × Scalar)). AreBound p xs (drop i vs)) (drop-here i bs b d hb eb) h) in
    split

-- ---- arguments

-- these values, and then others
abbrev pub ahead : List Value → Values → Values
ahead vs (have ws) = have (vs ++ ws)
ahead vs (stops k) = stops k

more_ahead : (vs : List Value) (v : Value) (ws : Values) → ahead vs (first_and (has v) ws) ≡ ahead (vs ++ v ∷ []) ws
more_ahead vs v (have ws) = ap have (shift vs)
  where
    shift : (vs : List Value) → vs ++ (v ∷ ws) ≡ (vs ++ v ∷ []) ++ ws
    shift [] = refl
    shift (x ∷ xs) = ap (λ ys. x ∷ ys) (shift xs)
more_ahead vs v (stops k) = refl

map_more : (xs : List Datum) (x : Datum) → map value_in (xs ++ x ∷ []) ≡ map value_in xs ++ value_in x ∷ []
map_more [] x = refl
map_more (y ∷ xs) x = ap (λ ys. value_in y ∷ ys) (map_more xs x)

module _ {X : Type 0} (f : X → Expr) (o : Order) (p : Program) (m : Memory) (es : List X) (i : ℕ) (x d : X) (whole : Values) where
  pub values_next : (all new : List Datum) (v : Datum) → i < length es → x ≡ get_or es i d
      → value o p (f x) m ≡ has (value_in v) → new ≡ all ++ v ∷ []
      → whole ≡ ahead (map value_in all) (values o p (map f (drop i es)) m)
      → whole ≡ ahead (map value_in new) (values o p (map f (drop (i + 1) es)) m)
  values_next all new v h e is en w =
      w ∙ ap (λ xs. ahead (map value_in all) (values o p (map f xs) m)) (drop-here i es x d h e)
      ∙ ap (λ y. ahead (map value_in all) (first_and y (values o p (map f (drop (i + 1) es)) m))) is
      ∙ more_ahead (map value_in all) (value_in v) (values o p (map f (drop (i + 1) es)) m)
      ∙ ap (λ vs. ahead vs (values o p (map f (drop (i + 1) es)) m)) (sym (map_more all v) ∙ ap (map value_in) (sym en))

  pub values_stop : (all : List Datum) (k : Kind) → i < length es → x ≡ get_or es i d → value o p (f x) m ≡ faults k
      → whole ≡ ahead (map value_in all) (values o p (map f (drop i es)) m) → stops k ≡ whole
  values_stop all k h e is w =
      sym (w ∙ ap (λ xs. ahead (map value_in all) (values o p (map f xs) m)) (drop-here i es x d h e)
      ∙ ap (λ y. ahead (map value_in all) (first_and y (values o p (map f (drop (i + 1) es)) m))) is)

pub values_end : {X : Type 0} (f : X → Expr) (o : Order) (p : Program) (m : Memory) (es : List X) (i : ℕ)
    (whole : Values) (all : List Datum) → length es ≤ i
    → whole ≡ ahead (map value_in all) (values o p (map f (drop i es)) m) → have (map value_in all) ≡ whole
values_end f o p m es i whole all h w =
    sym (w ∙ ap (λ xs. ahead (map value_in all) (values o p (map f xs) m)) (drop_all i es h)
    ∙ ap have (nothing (map value_in all)))
  where
    nothing : (vs : List Value) → vs ++ [] ≡ vs
    nothing [] = refl
    nothing (v ∷ vs) = ap (λ ws. v ∷ ws) (nothing vs)
