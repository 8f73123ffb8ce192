-- At each place of a row lies such an object.
use Rattle.std.proofs.Common.{◌≡◌, ℕ, suc, ◌+◌, ◌-◌, ◌*◌, ◌/◌, ◌%◌, ◌≤◌, ◌<◌, inl, inr, Some, sym, ap, ◌∙◌, subst}
use Rattle.std.proofs.Common.{arith}
use Rattle.std.proofs.Math.Nat.{mul_assoc, mod-lt, div-add-mod, div-lt_iff_lt-mul, mul-add, mul_comm, mul-suc, mul-zero}
use Rattle.ep_layout.specs.Table.{Table, size, elements_of}
use Rattle.ep_core.specs.Program.{Place}
use Rattle.ep_kinds.specs.Rows.{HasScalar, here, in_member, in_element, IsInChain, itself, of_elements, Row, IsRow}
use Rattle.ep_kinds.specs.Rows.{of_block, of_target, of_member, of_element, AreLaid}

same_place : (f u n q i k : ℕ) → n * q + i ≡ k → f + u * n * q + u * i ≡ f + u * k
same_place f u n q i k e =
    let one : u * n * q ≡ u * (n * q) = mul_assoc u n q in
    let two : u * (n * q + i) ≡ u * (n * q) + u * i = mul-add u (n * q) i in
    let three : u * (n * q + i) ≡ u * k = ap (λ x. u * x) e in
    omega (arith, one, two, three)

below : (n m k : ℕ) → 0 < n → k ≤ n * m + (n - 1) → k / n ≤ m
below n m k some h =
    let two : suc m * n ≡ n * m + n = mul_comm (suc m) n ∙ (mul-suc n m) in
    let three : k / n < suc m = (div-lt_iff_lt-mul some).1 (omega (arith, two, some, h)) in
    omega (arith, three)

-- of an array that lies at each place of a row, the elements
elements_laid : (t : Table) (whole a e n u f m k : ℕ) → ((j : ℕ) → j ≤ m → HasScalar t whole (f + u * n * j) a)
    → elements_of t a ≡ Some (e, n) → size t e ≡ Some u → 0 < n → k ≤ n * m + (n - 1) → HasScalar t whole (f + u * k) e
elements_laid t whole a e n u f m k laid el sz some h =
    subst (λ o. HasScalar t whole o e) (same_place f u n (k / n) (k % n) k (div-add-mod k n))
    (in_element (f + u * n * (k / n)) a e n (k % n) u (laid (k / n) (below n m k some h)) el (mod-lt k some) sz)

times_none : (s k : ℕ) → k ≤ 0 → s * k ≡ 0
times_none s k h = ap (λ x. s * x) (none k h) ∙ mul-zero s
  where
    none : (k : ℕ) → k ≤ 0 → k ≡ 0
    none k h = omega (arith, h)

pub chain_laid : (t : Table) (whole ty s m : ℕ) → IsInChain t whole ty s m → (k : ℕ) → k ≤ m
    → HasScalar t whole (0 + s * k) ty
chain_laid t whole ty s m (itself z) k h =
    subst (λ o. HasScalar t whole o whole) (sym (ap (λ x. 0 + x) (times_none z k h))) here
chain_laid t whole ty s m (of_elements a e n u at c el sz some) k h =
    elements_laid t whole a e n u 0 at k (λ j g. chain_laid t whole a (u * n) at c j g) el sz some h

moved : (f q s k : ℕ) → f + s * k + q ≡ f + q + s * k
moved f q s k = omega arith

first_alone : (f s k : ℕ) → k ≤ 0 → f + s * 0 ≡ f + s * k
first_alone f s k h = ap (λ x. f + x) (mul-zero s ∙ sym (times_none s k h))

other_step : (f s z k : ℕ) → k ≤ 0 → f + s * k ≡ f + z * k
other_step f s z k h = ap (λ x. f + x) (times_none s k h ∙ sym (times_none z k h))

within : (k m : ℕ) → k ≤ m → m ≡ 0 → k ≤ 0
within k m h e = omega (arith, h, e)

-- A place of a tame program is on a row where such objects lie.
pub laid : (t : Table) (b whole bytes : ℕ) (a : Place) (r : Row) → IsRow t b whole bytes a r → AreLaid t whole r
laid t b whole bytes a r of_block k h =
    subst (λ o. HasScalar t whole o whole) (sym (ap (λ x. 0 + x) (times_none bytes k h))) here
laid t b whole bytes a r (of_target e ty n m c) k h = chain_laid t whole ty n m c k h
laid t b whole bytes a r (of_member d z q ty w mem) k h =
    subst (λ o. HasScalar t whole o ty) (moved z.first q z.step k)
    (in_member (z.first + z.step * k) z.ty q ty (laid t b whole bytes d z w k h) mem)
laid t b whole bytes a r (of_element d z e n u i w el sz some (inl one)) k h =
    elements_laid t whole z.ty e n u z.first z.most k
    (λ j g. subst (λ o. HasScalar t whole o z.ty) (other_step z.first z.step (u * n) j (within j z.most g one))
    (laid t b whole bytes d z w j g)) el sz some h
laid t b whole bytes a r (of_element d z e n u i w el sz some (inr same)) k h =
    elements_laid t whole z.ty e n u z.first z.most k
    (λ j g. subst (λ x. HasScalar t whole (z.first + x * j) z.ty) same (laid t b whole bytes d z w j g)) el sz some h
