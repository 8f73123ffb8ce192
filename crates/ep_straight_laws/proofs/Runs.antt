-- Two runs that come apart: one is undefined, or after the same outputs comes another.
use Rattle.std.proofs.Common.{◌≡◌, ◌≢◌, ℕ, zero, suc, ◌≤◌, ◌⊎◌, inl, inr, pos, List, [], ◌∷◌, ◌++◌, length, refl, sym}
use Rattle.std.proofs.Common.{ap, ◌∙◌, subst, Option, Some, None, arith, append_assoc, lit<}
use Rattle.ep_int.specs.declared.types.IntType.TheVariants.{U8}
use Rattle.ep_int.specs.declared.types.Order.{Order}
use Rattle.ep_int.specs.declared.types.Scalar.{Scalar}
use Rattle.ep_int.specs.Memory.{Byte, number, int, null, pointer, Found, has, faults, loaded}
use Rattle.ep_core.specs.Program.{Program}
use Rattle.ep_core.specs.Exec.{Output, State, on, broken, continued, returned, Outcome, leaves, running, no_input}
use Rattle.ep_core.specs.Exec.{undefined_at, uncounted, Going, and_then, byte_out, put_out, model, size_at, result_in}
use Rattle.ep_core.specs.Runs.{run, run_by, result_out, main_function, main_ends, line_of, finished, main_from}
use Rattle.ep_core.specs.Runs.{IsDefined, IsOver, Begins, Agrees, AreInputs, Agree}
use Rattle.ep_core.proofs.Prefixes.{begins_refl, begins_trans}
use Rattle.ep_core.proofs.Grows.{state_in, Growing, grown}
use Rattle.ep_core.proofs.Whole.{steps_reach}
use Rattle.ep_pass.proofs.Runs.{finished_begins}

-- after the same outputs comes another
pub record Diverge (xs ys : List Output) : Type 0 where
  pub front : List Output
  pub u : Output
  pub w : Output
  pub differ : u ≢ w
  pub left : Begins (front ++ u ∷ []) xs
  pub right : Begins (front ++ w ∷ []) ys

abbrev pub IsUndefined : Outcome → Type 0
IsUndefined (leaves w left s) = ⊥
IsUndefined (running s) = ⊥
IsUndefined (no_input s) = ⊥
IsUndefined (undefined_at l k s) = Unit {0}

abbrev pub outputs_in : Outcome → List Output
outputs_in x = (state_in x).outputs

-- the first machine is undefined, or the outputs differ
abbrev pub Apart : Outcome → Outcome → Type 0
Apart x y = IsUndefined x ⊎ Diverge (outputs_in x) (outputs_in y)

pub diverge_more : (xs ys xs' ys' : List Output) → Begins xs xs' → Begins ys ys' → Diverge xs ys → Diverge xs' ys'
diverge_more xs ys xs' ys' p q d = record {
  front = d.front;
  u = d.u;
  w = d.w;
  differ = d.differ;
  left = begins_trans _ _ _ d.left p;
  right = begins_trans _ _ _ d.right q;
}

undefined_then : (x : Outcome) (go : Going) → IsUndefined x → IsUndefined (and_then x go)
undefined_then (leaves w left s) go h = absurd h
undefined_then (running s) go h = absurd h
undefined_then (no_input s) go h = absurd h
undefined_then (undefined_at l k s) go h = tt

-- what comes after a statement only adds outputs
then_begins : (x : Outcome) (go : Going) → Growing go → Begins (outputs_in x) (outputs_in (and_then x go))
then_begins (leaves on left s) go g = (grown s left (go left s) (g left s)).0
then_begins (leaves broken left s) go g = begins_refl _
then_begins (leaves continued left s) go g = begins_refl _
then_begins (leaves returned left s) go g = begins_refl _
then_begins (running s) go g = begins_refl _
then_begins (no_input s) go g = begins_refl _
then_begins (undefined_at l k s) go g = begins_refl _

pub apart_then : (x y : Outcome) (f g : Going) → Growing f → Growing g → Apart x y → Apart (and_then x f)
    (and_then y g)
apart_then x y f g p q (inl h) = inl (undefined_then x f h)
apart_then x y f g p q (inr d) = inr (diverge_more _ _ _ _ (then_begins x f p) (then_begins y g q) d)

-- ---- runs that are over

-- not stopped for want of steps
abbrev pub Stops : Outcome → Type 0
Stops (leaves w left s) = Unit {0}
Stops (running s) = ⊥
Stops (no_input s) = Unit {0}
Stops (undefined_at l k s) = Unit {0}

result_over : (v : Found) (l : ℕ) (s : State) → IsOver (result_out v l s).ending
result_over (has (int v)) l s = tt
result_over (has null) l s = tt
result_over (has (pointer b q)) l s = tt
result_over (faults k) l s = tt

ends_over : (o : Order) (p : Program) (r : Option (ℕ × Scalar)) (l : ℕ) (s : State) → IsOver
    (main_ends o p r l s).ending
ends_over o p None l s = tt
ends_over o p (Some r) l s = result_over (loaded o (model o p) (size_at o p r.0) s.memory r.1 r.0 0) l s

stops_over : (o : Order) (p : Program) (x : Outcome) → Stops x → IsOver (finished o p x).ending
stops_over o p (leaves w left s) h = ends_over o p (result_in (main_function o p)) (line_of o p (main_function o p)) s
stops_over o p (running s) h = absurd h
stops_over o p (no_input s) h = tt
stops_over o p (undefined_at l k s) h = tt

cancel : (xs ys zs : List Output) → xs ++ ys ≡ xs ++ zs → ys ≡ zs
cancel [] ys zs e = e
cancel (x ∷ xs) ys zs e = cancel xs ys zs (let k : xs ++ ys ≡ xs ++ zs = cc in k)

-- two lists that come apart aren't equal
pub not_equal : (xs ys : List Output) (d : Diverge xs ys) → xs ≡ ys → ⊥
not_equal xs ys d e =
    let a = d.left in
    let b = d.right in
    let q : d.front ++ (d.u ∷ a.rest) ≡ d.front ++ (d.w ∷ b.rest)
    = sym (append_assoc d.front (d.u ∷ []) a.rest) ∙ a.is ∙ e ∙ sym b.is ∙ append_assoc d.front (d.w ∷ []) b.rest in
    let k : d.u ∷ a.rest ≡ d.w ∷ b.rest = cancel d.front _ _ q in
    d.differ (let z : d.u ≡ d.w = cc in z)

undefined_ends : (o : Order) (p : Program) (x : Outcome) → IsUndefined x → IsDefined (finished o p x).ending → ⊥
undefined_ends o p (leaves w left s) h d = h
undefined_ends o p (running s) h d = h
undefined_ends o p (no_input s) h d = h
undefined_ends o p (undefined_at l k s) h d = d

module _ (p : Program) (a b : Order) (x y : Outcome) (over_left : Stops x) (over_right : Stops y) where
  disagree : Agrees (finished a p x) (finished b p y) → Apart x y → ⊥
  disagree g (inl h) = undefined_ends a p x h g.left
  disagree g (inr d) =
      not_equal (finished a p x).outputs (finished b p y).outputs
      (diverge_more _ _ _ _ (finished_begins a p x) (finished_begins b p y) d)
      (g.over (stops_over a p x over_left) (stops_over b p y over_right)).1

-- Machines that agree don't come apart, where both stop.
pub never_apart : (p : Program) (a b : Order) → Agree p a b → (inputs : List ℕ) → AreInputs inputs
    → Stops (main_from a p uncounted inputs 0) → Stops (main_from b p uncounted inputs 0)
    → Apart (main_from a p uncounted inputs 0) (main_from b p uncounted inputs 0) → ⊥
never_apart p a b agree inputs are h k d =
    let x = steps_reach p a inputs 0 (stops_over a p (main_from a p uncounted inputs 0) h) in
    let y = steps_reach p b inputs 0 (stops_over b p (main_from b p uncounted inputs 0) k) in
    disagree p a b _ _ h k
    (subst (λ z. Agrees z (run_by uncounted p b inputs 0)) x.1
    (subst (λ z. Agrees (run p a inputs x.0) z) y.1 (agree inputs are x.0 y.0))) d

-- ---- inputs that are all one

abbrev pub ones_of : ℕ → List ℕ
ones_of zero = []
ones_of (suc n) = 1 ∷ ones_of n

pub length-ones : (n : ℕ) → n ≤ length (ones_of n)
length-ones zero = omega arith
length-ones (suc n) = let h = length-ones n in omega (arith, h)

pub are_inputs : (n : ℕ) → AreInputs (ones_of n)
are_inputs zero = tt
are_inputs (suc n) = (lit< tt, are_inputs n)

abbrev pub AreOnes : List ℕ → Type 0
AreOnes [] = Unit {0}
AreOnes (v ∷ vs) = (v ≡ 1) × AreOnes vs

pub are_ones : (n : ℕ) → AreOnes (ones_of n)
are_ones zero = tt
are_ones (suc n) = (refl, are_ones n)

-- ---- bytes that differ

byte_output : (m n : ℕ) → ◌≡◌ {A = Output} (record { t = U8; value = pos m }) (record { t = U8; value = pos n })
    → m ≡ n
byte_output m n e = let k : pos m ≡ pos n = ap (λ (o : Output). o.value) e in cc

-- another byte is put out after the same outputs
pub bytes_diverge : (x y : State) (u w : Byte) (m n l : ℕ) (f g : State → Outcome) → u ≡ number m → w ≡ number n
    → m ≢ n
    → x.outputs ≡ y.outputs
    → ((s : State) → Begins s.outputs (outputs_in (f s))) → ((s : State) → Begins s.outputs (outputs_in (g s)))
    → Diverge (outputs_in (byte_out u l x f)) (outputs_in (byte_out w l y g))
bytes_diverge x y u w m n l f g eu ew ne same p q =
    rw (eu, ew) (record {
      front = x.outputs;
      u = record { t = U8; value = pos m };
      w = record { t = U8; value = pos n };
      differ = λ e. ne (byte_output m n e);
      left = p (put_out U8 (pos m) x);
      right = subst (λ o. Begins (o ++ record { t = U8; value = pos n } ∷ []) (outputs_in (g (put_out U8 (pos n) y))))
          (sym same) (q (put_out U8 (pos n) y));
    })
