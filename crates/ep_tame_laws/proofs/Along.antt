-- Addresses of tame programs go along their blocks.
use Rattle.std.proofs.Common.{◌≡◌, ℕ, ◌+◌, ◌-◌, ◌*◌, ◌<◌, false, Some, refl, sym, ap, ◌∙◌, subst}
use Rattle.ep_int.proofs.Basics.{some-injective}
use Rattle.std.proofs.Math.Nat.{mul_comm}
use Rattle.std.specs.Prelude.{option_map}
use Rattle.ep_layout.specs.Layout.{Layout}
use Rattle.ep_layout.specs.Table.{Table, IsBuilt, size, elements_of}
use Rattle.ep_layout.proofs.Sizes.{element_laid}
use Rattle.ep_core.specs.Program.{Place}
use Rattle.ep_kinds.specs.Tame.{through_member}
use Rattle.ep_kinds.specs.Rows.{IsInChain, itself, of_elements, Row, IsRow, of_block, of_target, of_member, of_element}
use Rattle.ep_tame_laws.specs.Laws.{GoesAlong}
use Rattle.ep_tame_laws.proofs.Found.{array_at, array_size}

pub chain_at : (t : Table) (whole ty s m : ℕ) → IsInChain t whole ty s m → (z : ℕ) → size t ty ≡ Some z
    → IsInChain t whole ty z m
chain_at t whole ty s m (itself k) z h = itself z
chain_at t whole ty s m (of_elements a e n u k c el sz some) z h =
    subst (λ x. IsInChain t whole e x (n * k + (n - 1))) (some-injective (sym sz ∙ h)) (of_elements a e n u k c el sz some)

-- the elements of an array that goes along
elements_along : (t : Table) → IsBuilt t → (whole ty s m : ℕ) → IsInChain t whole ty s m → (e n u : ℕ)
    → elements_of t ty ≡ Some (e, n) → size t e ≡ Some u → 0 < n → IsInChain t whole e u (n * m + (n - 1))
elements_along t built whole ty s m c e n u el sz some =
    let whole_size = array_size t built ty e n u (array_at t ty e n el) sz in
    of_elements ty e n u m (chain_at t whole ty s m c (u * n) (whole_size ∙ ap Some (mul_comm n u))) el sz some

row_along : (t : Table) → IsBuilt t → (b whole bytes : ℕ) (a : Place) (r : Row) → IsRow t b whole bytes a r
    → through_member a ≡ false → (r.first ≡ 0) × (s : ℕ) × IsInChain t whole r.ty s r.most
row_along t built b whole bytes a r of_block h = (refl, 0, itself 0)
row_along t built b whole bytes a r (of_target e ty n m c) h = (refl, n, c)
row_along t built b whole bytes a r (of_member d z q ty w mem) h = absurd cc
row_along t built b whole bytes a r (of_element d z e n u i w el sz some even) h =
    let i = row_along t built b whole bytes d z w h in
    (i.0, u, elements_along t built whole z.ty i.1 z.most i.2 e n u el sz some)

pub addresses_along : (t : Table) → IsBuilt t → (b whole bytes : ℕ) (a : Place) (r : Row) → IsRow t b whole bytes a r
    → through_member a ≡ false → (z : ℕ) → size t r.ty ≡ Some z
    → (r.first ≡ 0) × IsInChain t whole r.ty z r.most
    × ((e n : ℕ) → elements_of t r.ty ≡ Some (e, n) → 0 < n → GoesAlong t whole e (n * r.most + (n - 1)))
addresses_along t built b whole bytes a r w h z sz =
    let i = row_along t built b whole bytes a r w h in
    (i.0, chain_at t whole r.ty i.1 r.most i.2 z sz, λ e n el some. elements i.1 i.2 e n el some)
  where
    elements : (s : ℕ) → IsInChain t whole r.ty s r.most → (e n : ℕ) → elements_of t r.ty ≡ Some (e, n) → 0 < n
        → GoesAlong t whole e (n * r.most + (n - 1))
    elements s c e n el some =
        let l = element_laid t built r.ty e n (array_at t r.ty e n el) in
        let size_e : size t e ≡ Some l.0.size = ap (option_map (λ (l : Layout). l.size)) l.1 in
        record {
          step = l.0.size;
          sized = size_e;
          chain = elements_along t built whole r.ty s r.most c e n l.0.size el size_e some;
        }
