-- Pointers that a write cuts.
use Rattle.std.proofs.Common.{◌≡◌, ℕ, ◌+◌, ◌-◌, ◌<◌, ◌≤◌, ⊎_elim, inl, inr, min, false, ◌&&◌, not, nat_lt, nat_le}
use Rattle.std.proofs.Common.{List, refl, ◌∙◌, ap, subst, arith}
use Rattle.std.proofs.lemmas.Bool.{cases_lt, le-ltb, and_left, and_right}
use Rattle.ep_int.specs.declared.types.Model.{Model}
use Rattle.ep_int.specs.declared.types.Model.TheVariants.{Ilp32, Lp64}
use Rattle.ep_int.specs.Types.{pointer_bytes}
use Rattle.ep_int.specs.Memory.{lies_partly}
use Rattle.ep_bytes.specs.declared.types.Byte.{Byte}
use Rattle.ep_bytes.specs.declared.types.Byte.TheVariants.{Undefined, Number, Fragment}
use Rattle.ep_bytes.specs.declared.cells.ByteRange.{ByteRange}
use Rattle.ep_bytes.specs.View.{byte_in}
use Rattle.ep_bytes.specs.Cells.{cell_at, part_of, unbroken, cut_by, IsWritten, IsBroken}

pointer_small : (d : Model) → pointer_bytes d ≤ 8
pointer_small Ilp32 = omega arith
pointer_small Lp64 = omega arith

-- a byte far before a place, or far after it, is no part of a pointer that lies partly in it
far_before : (d : Model) (here n : ℕ) (c : Byte) (p : ℕ) → p + 8 ≤ here → lies_partly d here n (byte_in c) p ≡ false
far_before d here n Undefined p h = refl
far_before d here n (Number v) p h = refl
far_before d here n (Fragment b o k) p h =
    let t : nat_lt (here + k) (p + pointer_bytes d) ≡ false =
    le-ltb (here + k) (p + pointer_bytes d) (omega (arith, pointer_small d)) in
    and_left (nat_lt p (here + n + k) && nat_lt (here + k) (p + pointer_bytes d))
    (not (nat_le (here + k) p && nat_le (p + pointer_bytes d) (here + n + k)))
    (and_right (nat_lt p (here + n + k)) (nat_lt (here + k) (p + pointer_bytes d)) t)

far_after : (d : Model) (here n : ℕ) (c : Byte) (p : ℕ) → here + n + 7 ≤ p → part_of c < 8
    → lies_partly d here n (byte_in c) p ≡ false
far_after d here n Undefined p h l = refl
far_after d here n (Number v) p h l = refl
far_after d here n (Fragment b o k) p h l =
    let t : nat_lt p (here + n + k) ≡ false = le-ltb p (here + n + k) (omega arith) in
    and_left (nat_lt p (here + n + k) && nat_lt (here + k) (p + pointer_bytes d))
    (not (nat_le (here + k) p && nat_le (p + pointer_bytes d) (here + n + k)))
    (and_left (nat_lt p (here + n + k)) (nat_lt (here + k) (p + pointer_bytes d)) t)

stays : (d : Model) (here n : ℕ) (c : Byte) (p : ℕ) → lies_partly d here n (byte_in c) p ≡ false
    → c ≡ unbroken d here n c p
stays d here n c p h = rw h refl

-- each byte at offsets from low on is cut
cut_at : (d : Model) (old new : List Byte) (s : ByteRange) (low n p : ℕ)
    → IsWritten old new (s.start + low) n (cut_by d old s low) → low ≤ p → p < low + n
    → cell_at new (s.start + p) ≡ unbroken d s.here s.count (cell_at old (s.start + p)) p
cut_at d old new s low n p w h l =
    let k = p - low in
    let i : s.start + low + k ≡ s.start + p = omega arith in
    let e : low + k ≡ p = omega arith in
    let there : cell_at new (s.start + p) ≡ unbroken d s.here s.count (cell_at old (s.start + p)) (low + k) =
    subst (λ q. cell_at new q ≡ unbroken d s.here s.count (cell_at old q) (low + k)) i (w.inside k (omega arith)) in
    subst (λ q. cell_at new (s.start + p) ≡ unbroken d s.here s.count (cell_at old (s.start + p)) q) e there

pub broken_beside : (d : Model) (old mid new : List Byte) (s : ByteRange) (size low high : ℕ)
    → ((i : ℕ) → part_of (cell_at old i) < 8) → s.here + s.count ≤ size
    → low ≡ s.here - 7 → high ≡ min (s.here + s.count + 7) size
    → IsWritten old mid (s.start + low) (s.here - low) (cut_by d old s low)
    → IsWritten mid new (s.start + (s.here + s.count)) (high - (s.here + s.count)) (cut_by d mid s (s.here + s.count))
    → IsBroken d old new s size
broken_beside d old mid new s size low high parts fits low_is high_is left right =
    let end = s.here + s.count in
    record {
      same_length = right.same_length ∙ left.same_length;
      inside = λ p h l. right.outside (s.start + p) (inl (omega arith))
          ∙ left.outside (s.start + p) (inr (omega arith));
      beside = λ p h o.
          ⊎_elim
          (λ before. right.outside (s.start + p) (inl (omega arith))
          ∙ ⊎_elim
          (λ far. left.outside (s.start + p) (inl (omega arith))
          ∙ stays d s.here s.count (cell_at old (s.start + p)) p
          (far_before d s.here s.count (cell_at old (s.start + p)) p (omega arith)))
          (λ near. cut_at d old mid s low (s.here - low) p left near (omega arith))
          (cases_lt p low))
          (λ after.
          (let kept : cell_at mid (s.start + p) ≡ cell_at old (s.start + p) =
          left.outside (s.start + p) (inr (omega arith)) in
          ⊎_elim
          (λ near. cut_at d mid new s end (high - end) p right after (omega arith)
          ∙ ap (λ c. unbroken d s.here s.count c p) kept)
          (λ far. right.outside (s.start + p) (inr (omega arith)) ∙ kept
          ∙ stays d s.here s.count (cell_at old (s.start + p)) p
          (far_after d s.here s.count (cell_at old (s.start + p)) p (omega arith) (parts (s.start + p))))
          (cases_lt p high)))
          o;
      outside = λ i o.
          right.outside i (⊎_elim (λ b. inl (omega arith)) (λ b. inr (omega arith)) o)
          ∙ left.outside i (⊎_elim (λ b. inl (omega arith)) (λ b. inr (omega arith)) o);
    }
