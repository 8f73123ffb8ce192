-- What a statement does, by what the code was given for its operands.
use Rattle.std.proofs.Common.{◌≡◌, ℕ, List, ◌++◌, Option, Some, None, unwrap_or, refl, sym, ap, ◌∙◌, append_assoc}
use Rattle.std.proofs.Common.{subst, Result, IfOk, OnOk}
use Rattle.ep_layout.specs.declared.types.Leaf.{Leaf}
use Rattle.ep_layout.specs.Table as table
use Rattle.ep_int.specs.declared.types.Scalar.{Scalar}
use Rattle.ep_domain.specs.Domain.{Ops}
use Rattle.ep_cells.specs.States.{Known}
use Rattle.ep_core.specs.Program.{Expr, Place, Program, Simple, What, simple, clear, copy_aggregate, copy_bytes}
use Rattle.ep_equalities.specs.declared.pair.Mode.{Mode}
use Rattle.ep_equalities.specs.declared.pair.Fault.{Fault}
use Rattle.ep_equalities.specs.declared.pair.PairValue.{PairValue}
use Rattle.ep_evaluation.specs.Evaluation.{place}
use Rattle.ep_flows.specs.View.{simple_of}
use Rattle.ep_transfers.specs.Copies.{Leaves}
use Rattle.ep_transfers.specs.Transfers.{Stepped, after_faults, sizes, gives, bytes_of_type, cleared, copy, simple_step}

-- after the faults of its operands
after_next : {N : Type 0} (fs : List Fault) (s t : Stepped N) → s ≡ t → (r : Option (Known N)) → r ≡ s.next
    → r ≡ (after_faults fs t).next
after_next fs s t e r h = h ∙ ap (λ (x : Stepped _). x.next) e

after_more : {N : Type 0} (fs : List Fault) (s t : Stepped N) → s ≡ t → (old one two : List Fault) → one ≡ old ++ fs
    → two ≡ one ++ s.faults → two ≡ old ++ (after_faults fs t).faults
after_more fs s t e old one two f h =
    h ∙ ap (λ (x : Stepped _). one ++ x.faults) e ∙ ap (λ gs. gs ++ t.faults) f ∙ append_assoc old fs t.faults

after_two : (old one two a b : List Fault) → one ≡ old ++ a → two ≡ one ++ b → two ≡ old ++ (a ++ b)
after_two old one two a b e f = f ∙ ap (λ gs. gs ++ b) e ∙ append_assoc old a b

module _ {N : Type 0} (D : Ops N) (m : Mode) (k : Known N) (ys zs : List ℕ) (s : ys ≡ zs) (a b : ℕ) (n : a ≡ b) where
  same_clear : (ls js : List Leaf) → ls ≡ js → (u v : PairValue N) → u ≡ v
      → cleared D ys m a ls u k ≡ cleared D zs m b js v k
  same_clear ls js l u v e =
      ap (λ z. cleared D z m a ls u k) s ∙ ap (λ z. cleared D zs m z ls u k) n
      ∙ ap (λ z. cleared D zs m b z u k) l ∙ ap (λ z. cleared D zs m b js z k) e

  same_copy : (ls js : Leaves) → ls ≡ js → (u v x y : PairValue N) → u ≡ v → x ≡ y
      → copy D ys m a ls u x k ≡ copy D zs m b js v y k
  same_copy ls js l u v x y e f =
      ap (λ z. copy D z m a ls u x k) s ∙ ap (λ z. copy D zs m z ls u x k) n
      ∙ ap (λ z. copy D zs m b z u x k) l ∙ ap (λ z. copy D zs m b js z x k) e
      ∙ ap (λ z. copy D zs m b js v z k) f

module _ {N : Type 0} (D : Ops N) (p : Program) (m : Mode) (k : Known N) (zs : List ℕ) (s : zs ≡ sizes D p) where
  -- ---- objects of a type

  module _ (ty n : ℕ) (ls : List Leaf) (bytes : n ≡ unwrap_or (table.size p.types ty) 0)
      (leaves : ls ≡ table.leaves p.types ty) where
    module _ (a : Place) (u : PairValue N) (at : u ≡ (place D (sizes D p) a m k).pair) where
      clears : cleared D zs m n ls u k
          ≡ cleared D (sizes D p) m (bytes_of_type D p ty) (table.leaves p.types ty) (place D (sizes D p) a m k).pair k
      clears = same_clear D m k zs (sizes D p) s n (bytes_of_type D p ty) bytes ls (table.leaves p.types ty) leaves u
          (place D (sizes D p) a m k).pair at

      pub clear_next : (r : Option (Known N)) → r ≡ (cleared D zs m n ls u k).next
          → r ≡ (simple_step D p m None (clear a ty) k).next
      clear_next r h = after_next (place D (sizes D p) a m k).faults _ _ clears r h

      pub clear_faults : (old one two : List Fault) → one ≡ old ++ (place D (sizes D p) a m k).faults
          → two ≡ one ++ (cleared D zs m n ls u k).faults
          → two ≡ old ++ (simple_step D p m None (clear a ty) k).faults
      clear_faults old one two f h = after_more (place D (sizes D p) a m k).faults _ _ clears old one two f h

    module _ (a b : Place) (u v : PairValue N) (to : u ≡ (place D (sizes D p) a m k).pair)
        (from : v ≡ (place D (sizes D p) b m k).pair) where
      copies : copy D zs m n (Some ls) u v k
          ≡ copy D (sizes D p) m (bytes_of_type D p ty) (Some (table.leaves p.types ty))
          (place D (sizes D p) a m k).pair (place D (sizes D p) b m k).pair k
      copies = same_copy D m k zs (sizes D p) s n (bytes_of_type D p ty) bytes (Some ls)
          (Some (table.leaves p.types ty)) (ap Some leaves) u (place D (sizes D p) a m k).pair v
          (place D (sizes D p) b m k).pair to from

      pub aggregate_next : (r : Option (Known N)) → r ≡ (copy D zs m n (Some ls) u v k).next
          → r ≡ (simple_step D p m None (copy_aggregate a b ty) k).next
      aggregate_next r h =
          after_next ((place D (sizes D p) a m k).faults ++ (place D (sizes D p) b m k).faults) _ _ copies r h

      pub aggregate_faults : (old one two all : List Fault) → one ≡ old ++ (place D (sizes D p) a m k).faults
          → two ≡ one ++ (place D (sizes D p) b m k).faults → all ≡ two ++ (copy D zs m n (Some ls) u v k).faults
          → all ≡ old ++ (simple_step D p m None (copy_aggregate a b ty) k).faults
      aggregate_faults old one two all f g h =
          after_more ((place D (sizes D p) a m k).faults ++ (place D (sizes D p) b m k).faults) _ _ copies old two all
          (after_two old one two (place D (sizes D p) a m k).faults (place D (sizes D p) b m k).faults f g) h

  -- ---- bytes at addresses

  module _ (a b : Expr) (n : ℕ) (u v : PairValue N) (to : u ≡ (gives D p a m k).pair)
      (from : v ≡ (gives D p b m k).pair) where
    bytes_copied : copy D zs m n None u v k
        ≡ copy D (sizes D p) m n None (gives D p a m k).pair (gives D p b m k).pair k
    bytes_copied = same_copy D m k zs (sizes D p) s n n refl None None refl u (gives D p a m k).pair v
        (gives D p b m k).pair to from

    pub bytes_next : (r : Option (Known N)) → r ≡ (copy D zs m n None u v k).next
        → r ≡ (simple_step D p m None (copy_bytes a b n) k).next
    bytes_next r h = after_next ((gives D p a m k).faults ++ (gives D p b m k).faults) _ _ bytes_copied r h

    pub bytes_faults : (old one two all : List Fault) → one ≡ old ++ (gives D p a m k).faults
        → two ≡ one ++ (gives D p b m k).faults → all ≡ two ++ (copy D zs m n None u v k).faults
        → all ≡ old ++ (simple_step D p m None (copy_bytes a b n) k).faults
    bytes_faults old one two all f g h =
        after_more ((gives D p a m k).faults ++ (gives D p b m k).faults) _ _ bytes_copied old two all
        (after_two old one two (gives D p a m k).faults (gives D p b m k).faults f g) h

-- ---- what is done by a statement's form is done by the statement

module _ {N : Type 0} (D : Ops N) (p : Program) (m : Mode) (result : Option (ℕ × Scalar)) (k : Known N) (w : What)
    (v : Simple) (e : w ≡ simple v) where
  pub next_by : {E : Type 0} (r : Result (Option (Known N)) E)
      → IfOk r (λ o. o ≡ (simple_step D p m result v k).next)
      → IfOk r (λ o. o ≡ (simple_step D p m result (simple_of w) k).next)
  next_by r h = subst (λ x. IfOk r (λ o. o ≡ (simple_step D p m result (simple_of x) k).next)) (sym e) h

  pub faults_by : {E : Type 0} (r : Result (Option (Known N)) E) (old new : List Fault)
      → OnOk r (new ≡ old ++ (simple_step D p m result v k).faults)
      → OnOk r (new ≡ old ++ (simple_step D p m result (simple_of w) k).faults)
  faults_by r old new h =
      subst (λ x. OnOk r (new ≡ old ++ (simple_step D p m result (simple_of x) k).faults)) (sym e) h
