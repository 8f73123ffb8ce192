-- Values of patterns.
use Rattle.std.specs.Prelude.{◌≡◌, ℤ, Bool, true, false, Option, Some, None, IsSomeAnd, IfSome, IsTrue, refl}
use Rattle.ep_int.proofs.Basics.{is_true-prop}
use Rattle.std.proofs.Common.{ap, sym, subst}
use Rattle.ep_bit_laws.specs.Patterns.{Pattern, Has, is_pattern, IsPattern, closed}
use Rattle.ep_bit_laws.proofs.Patterns.{pattern_from, pattern_test, has_from, has_test, HasBits, closed_has}
use Rattle.ep_bit_laws.proofs.Patterns.{closed_pattern, from_closed}
use Rattle.ep_bit_domain.specs.KnownBits.{KnownBits, pattern_of, IsValid, made, made_if, formed, holds_of}

pub is_pattern_of : (c : KnownBits) → IsPattern (pattern_of c)
is_pattern_of c = pattern_from (pattern_of c) c.valid

pub holds : (c : KnownBits) (z : ℤ) → IsTrue (holds_of c z) → Has (pattern_of c) z
holds c z h = let i = is_pattern_of c in has_from (pattern_of c) z h i.zeros_below i.ones_below

pub held : (c : KnownBits) (z : ℤ) → Has (pattern_of c) z → IsTrue (holds_of c z)
held c z h = let i = is_pattern_of c in has_test (pattern_of c) z i.zeros_below i.ones_below h

-- values of one pattern are the same
pub same_pattern : (a b : KnownBits) → pattern_of a ≡ pattern_of b → a ≡ b
same_pattern a b e =
    let f : (p : Pattern) → pattern_of a ≡ p → (q : IsValid p) → made (pattern_of a) a.valid ≡ made p q = λ p d. subst
    (λ p. (q : IsValid p) → made (pattern_of a) a.valid ≡ made p q) d
    (λ q. ap (made (pattern_of a)) (is_true-prop _ a.valid q)) in
    f (pattern_of b) e b.valid

pub made_some : (p : Pattern) (b : Bool) (e : is_pattern p.zeros p.ones ≡ b) → (q : IsValid p) → made_if p b e ≡ Some
    (made p q)
made_some p true e q = ap (λ (r : IsValid p). Some (made p r)) (is_true-prop _ e q)
made_some p false e q = absurd (clash e q)
  where
    clash : {b : Bool} → b ≡ false → b ≡ true → ⊥
    clash e f = absurd cc

pub formed_some : (p : Pattern) (q : IsValid (closed p)) → formed p ≡ Some (made (closed p) q)
formed_some p q = made_some (closed p) (is_pattern (closed p).zeros (closed p).ones) refl q

-- where some number has the bits, there is a value that has it
pub formed_has : (p : Pattern) (z : ℤ) → HasBits p z → IsSomeAnd (formed p) (λ c. Has (pattern_of c) z)
formed_has p z h =
    subst (λ o. IsSomeAnd o (λ c. Has (pattern_of c) z))
    (sym (formed_some p (pattern_test (closed p) (closed_pattern p z h)))) (closed_has p z h.has)

-- what is formed is the closed pattern
pub formed_is : (p : Pattern) → IfSome (formed p) (λ c. pattern_of c ≡ closed p)
formed_is p = at (is_pattern (closed p).zeros (closed p).ones) refl
  where
    at : (b : Bool) (e : is_pattern (closed p).zeros (closed p).ones ≡ b) → IfSome (made_if (closed p) b e)
        (λ c. pattern_of c ≡ closed p)
    at true e = refl
    at false e = tt

-- and its numbers have the bits
pub formed_inside : (p : Pattern) → IfSome (formed p) (λ c. (z : ℤ) → Has (pattern_of c) z → Has p z)
formed_inside p = at (formed p) (formed_is p)
  where
    at : (o : Option KnownBits) → IfSome o (λ c. pattern_of c ≡ closed p) → IfSome o
        (λ c. (z : ℤ) → Has (pattern_of c) z → Has p z)
    at None h = tt
    at (Some c) h = λ z k. from_closed p z (subst (λ q. Has q z) h k)
