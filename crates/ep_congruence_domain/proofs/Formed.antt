-- Congruences of classes.
use Rattle.std.specs.Prelude.{◌≡◌, ℕ, ◌<◌, ℤ, pos, Bool, true, false, Option, Some, None, IsSomeAnd, IfSome, refl}
use Rattle.ep_congruence_laws.proofs.Multiples.{zero_eq}
use Rattle.ep_int.proofs.Basics.{is_true-prop}
use Rattle.std.specs.Option.{option_map, option_and_then}
use Rattle.std.proofs.Common.{ap, sym, ◌∙◌, subst}
use Rattle.ep_range_laws.proofs.Options.{then_some, then_if}
use Rattle.ep_congruence_laws.specs.Classes.{Class, class, is_class, reduced}
use Rattle.ep_int.specs.Types.{residue}
use Rattle.ep_congruence_laws.proofs.Classes.{nonzero_test, reduced_zero, reduced_more}
use Rattle.ep_congruence_laws.proofs.Operations.{Is}
use Rattle.ep_congruence_domain.specs.Congruence.{Congruence, class_of, made, formed_at, formed}

pub formed_some : (k : Class) (p : Is k) → formed k ≡ Some (made k p)
formed_some k p = at _ refl
  where
    at : (b : Bool) (e : is_class k.remainder k.modulus ≡ b) → formed_at k b e ≡ Some (made k p)
    at true e = ap (λ (q : is_class k.remainder k.modulus ≡ true). Some (made k q)) (is_true-prop _ e p)
    at false e = absurd cc

pub formed_gives : (P : Class → Type 0) (k : Class) → Is k → P k → IsSomeAnd (formed k) (λ c. P (class_of c))
formed_gives P k p h = subst (λ o. IsSomeAnd o (λ c. P (class_of c))) (sym (formed_some k p)) h

pub formed_keeps : (P : Class → Type 0) (k : Class) → P k → IfSome (formed k) (λ c. P (class_of c))
formed_keeps P k h = at _ refl
  where
    at : (b : Bool) (e : is_class k.remainder k.modulus ≡ b) → IfSome (formed_at k b e) (λ c. P (class_of c))
    at true e = h
    at false e = tt

pub then_formed : (P : Class → Type 0) (o : Option Class) → IsSomeAnd o (λ k. Is k × P k) → IsSomeAnd (option_and_then formed o) (λ c. P (class_of c))
then_formed P o h = then_some (λ k. Is k × P k) (λ c. P (class_of c)) o formed h (λ k i. formed_gives P k i.0 i.1)

pub then_kept : (P : Class → Type 0) (o : Option Class) → IfSome o P → IfSome (option_and_then formed o) (λ c. P (class_of c))
then_kept P o h = then_if P (λ c. P (class_of c)) o formed h (λ k i. formed_keeps P k i)

-- congruences of one class are the same
pub same_class : (a b : Congruence) → class_of a ≡ class_of b → a ≡ b
same_class a b e =
    let f : (k : Class) → class_of a ≡ k → (p : Is k) → made (class_of a) a.valid ≡ made k p = λ k d. subst (λ k. (p : Is k) → made (class_of a) a.valid ≡ made k p) d (λ p. ap (made (class_of a)) (is_true-prop _ a.valid p)) in
    f (class_of b) e b.valid

-- what the code gives as classes
pub formed_is : (o : Option Congruence) (k : Option Class) → option_map class_of o ≡ k → o ≡ option_and_then formed k
formed_is None None e = refl
formed_is None (Some k) e = cc
formed_is (Some c) None e = cc
formed_is (Some c) (Some k) e = sym (ap formed (sym (same c k e)) ∙ formed_some (class_of c) c.valid)
  where
    same : (c : Congruence) (k : Class) → option_map class_of (Some c) ≡ Some k → class_of c ≡ k
    same c k e = cc

pub formed_code : (r s : ℤ) (m : ℕ) (p : is_class s m ≡ true) → s ≡ r → Some (made (class s m) p) ≡ formed (class r m)
formed_code r s m p e = sym (formed_some (class s m) p) ∙ ap (λ z. formed (class z m)) e

-- a class of the same remainder and modulus is as valid
pub same_valid : (r s : ℤ) (m n : ℕ) → r ≡ s → m ≡ n → Is (reduced s n) → Is (reduced r m)
same_valid r s m n e f h = subst (λ x. Is (reduced x m)) (sym e) (subst (λ (k : ℕ). Is (reduced s k)) (sym f) h)

pub same_reduced : (r s : ℤ) (m n : ℕ) → r ≡ s → m ≡ n → reduced r m ≡ reduced s n
same_reduced r s m n e f = ap (λ x. reduced x m) e ∙ ap (λ (k : ℕ). reduced s k) f

pub one_code : (r z : ℤ) (m : ℕ) (o : Option Congruence) → m ≡ 0 → o ≡ formed (class z 0) → z ≡ r → o ≡ formed (reduced r m)
one_code r z m o n e f = e ∙ ap (λ x. formed (class x 0)) f ∙ ap formed (sym (reduced_zero r m (zero_eq m n)))

pub reduced_code : (r z : ℤ) (m : ℕ) (o : Option Congruence) → 0 < m → o ≡ formed (class z m) → z ≡ pos (residue m r) → o ≡ formed (reduced r m)
reduced_code r z m o n e f = e ∙ ap (λ x. formed (class x m)) f ∙ ap formed (sym (reduced_more r m (nonzero_test m n)))
