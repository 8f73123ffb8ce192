-- Both machines put out one number, and meet again.
use Rattle.std.proofs.Common.{◌≡◌, ℕ, ℤ, false, List, [], ◌∷◌, ◌++◌, Option, Some, None, refl, sym, ap, ◌∙◌, subst}
use Rattle.ep_int.specs.declared.types.IntType.{IntType}
use Rattle.ep_int.specs.declared.types.Order.{Order}
use Rattle.ep_int.specs.declared.types.Scalar.{Scalar}
use Rattle.ep_int.specs.declared.types.Scalar.TheVariants.{Int}
use Rattle.ep_int.specs.Memory.{Value as Datum, int, null, pointer, Found, has}
use Rattle.ep_domain.specs.Domain.{Ops, Lawful}
use Rattle.ep_cells.specs.declared.cell.Value.{Value}
use Rattle.ep_cells.specs.declared.cell.Value.TheVariants.{Num, Ptr}
use Rattle.ep_cells.specs.States.{Known}
use Rattle.ep_cells.specs.Meaning.{Allows}
use Rattle.ep_core.specs.Program.{Expr, output, Program}
use Rattle.ep_core.specs.Exec.{State, Output, on, leaves, uncounted, value, does}
use Rattle.ep_core.specs.Exec.{put_out as put_number}
use Rattle.ep_core.specs.Runs.{Side, left, right}
use Rattle.ep_pass.specs.Laws.{ConcretisesStates, Meets, meet}
use Rattle.ep_equalities.specs.declared.pair.Mode.TheVariants.{Both}
use Rattle.ep_evaluation.specs.Given.{Given}
use Rattle.ep_evaluation.specs.Laws.{Holds}
use Rattle.ep_evaluation.proofs.General.{reliable_none}
use Rattle.ep_transfers.specs.Transfers.{put_out}
use Rattle.ep_transfers.specs.Laws.{memories, StandsFor}
use Rattle.ep_transfers.proofs.Outputs.{goes_on, outputs_alike}

does_output : (o : Order) (p : Program) (r : Option (ℕ × Scalar)) (t : IntType) (e : Expr) (l n : ℕ) (s : State) (z : ℤ)
    → value o p e s.memory ≡ has (int z) → does o p uncounted r (output t e) l n s ≡ leaves on n (put_number t z s)
does_output o p r t e l n s z h = rw h refl

a_number : {N : Type 0} (D : Ops N) (t : IntType) (v : Option (Value N)) (u : Datum) → Allows D (Int t) v false
    (Some u) → (z : ℤ) × (u ≡ int z)
a_number D t None u a = absurd (let q : Some u ≡ None = a in cc)
a_number D t (Some (Num m)) (int z) a = (z, refl)
a_number D t (Some (Num m)) null a = absurd a
a_number D t (Some (Num m)) (pointer b q) a = absurd a
a_number D t (Some (Ptr m)) (int z) a = absurd a
a_number D t (Some (Ptr m)) null a = absurd a
a_number D t (Some (Ptr m)) (pointer b q) a = absurd a

module _ {N : Type 0} (D : Ops N) (law : Lawful D) (p : Program) (ord : Side → Order) (t : IntType) (e : Expr)
    (r : Option (ℕ × Scalar)) (l n m : ℕ)
    (k : Known N) (x y : State) (stands : ConcretisesStates p (StandsFor D p ord) k x y) (fv : Side → Found)
    (value_left : fv left ≡ value (ord left) p e x.memory) (value_right : fv right ≡ value (ord right) p e y.memory)
    (v : Given N)
    (h : Holds D p ord (Int t) fv k (memories x.memory y.memory) Both v) where
  pub output_meets : v.faults ≡ [] → (put_out D Both v.pair k).faults ≡ []
      → Meets p (StandsFor D p ord) on (put_out D Both v.pair k).next n m
      (does (ord left) p uncounted r (output t e) l n x)
      (does (ord right) p uncounted r (output t e) l m y)
  output_meets nv quiet =
      let u = outputs_alike D law p ord (Int t) fv k (memories x.memory y.memory) v h nv quiet in
      let z = a_number D t v.pair.left.value u.0 (h.held (reliable_none Both v.faults nv) left refl u.0 u.1.0).value in
      let fl : value (ord left) p e x.memory ≡ has (int z.0) = sym value_left ∙ u.1.0 ∙ ap has z.1 in
      let fr : value (ord right) p e y.memory ≡ has (int z.0) = sym value_right ∙ u.1.1 ∙ ap has z.1 in
      subst (λ o. Meets p (StandsFor D p ord) on o n m (does (ord left) p uncounted r (output t e) l n x)
      (does (ord right) p uncounted r (output t e) l m y))
      (sym (goes_on D law p ord (Int t) fv k (memories x.memory y.memory) v h nv))
      (rw (does_output (ord left) p r t e l n x z.0 fl, does_output (ord right) p r t e l m y z.0 fr)
      (meet (record {
        memories = stands.memories;
        inputs = stands.inputs;
        outputs = ap (λ (os : List Output). os ++ record { t = t; value = z.0 } ∷ []) stands.outputs;
      })))
