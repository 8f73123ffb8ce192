-- Bytes written one by one.
use Rattle.std.proofs.Common.{◌≡◌, ℕ, ◌+◌, ◌<◌, ◌≤◌, ◌≢◌, ⊎_elim, inl, inr, List, length, slice_set, refl, sym, ◌∙◌}
use Rattle.std.proofs.Common.{ap, subst, arith, below_more, length-set, get_or-set_same, get_or-set_other}
use Rattle.ep_bytes.specs.declared.types.Byte.{Byte}
use Rattle.ep_bytes.specs.declared.types.Byte.TheVariants.{Undefined}
use Rattle.std.proofs.lemmas.Bool.{cases_lt}
use Rattle.ep_bytes.specs.Cells.{cell_at, without, IsForgotten, IsWritten}

pub written_none : (cells : List Byte) (at : ℕ) (f : ℕ → Byte) → IsWritten cells cells at 0 f
written_none cells at f = record {
  same_length = refl;
  inside = λ k h. absurd (omega arith);
  outside = λ i h. refl;
}

pub written_more : (old new : List Byte) (at k : ℕ) (f : ℕ → Byte) (x : Byte) → IsWritten old new at k f
    → at + k < length old → x ≡ f k → IsWritten old (slice_set new (at + k) x) at (k + 1) f
written_more old new at k f x w h e =
    let l : at + k < length new = rw w.same_length h in
    record {
      same_length = length-set new (at + k) x ∙ w.same_length;
      inside = below_more (λ j. cell_at (slice_set new (at + k) x) (at + j) ≡ f j) k
          (λ j b.
          (let apart : at + j ≢ at + k = omega arith in
          get_or-set_other new (at + k) (at + j) x Undefined apart ∙ w.inside j b))
          (get_or-set_same new (at + k) x Undefined l ∙ e);
      outside = λ i o.
          (let apart : i ≢ at + k = ⊎_elim (λ b. omega arith) (λ b. omega arith) o in
          get_or-set_other new (at + k) i x Undefined apart
          ∙ w.outside i (⊎_elim (λ b. inl b) (λ b. inr (omega arith)) o));
    }

pub forgotten_none : (block from : ℕ) (cells : List Byte) → IsForgotten block from from cells cells
forgotten_none block from cells = record {
  same_length = refl;
  inside = λ i h l. absurd (omega arith);
  outside = λ i h. refl;
}

pub forgotten_more : (block from i : ℕ) (old new : List Byte) (x : Byte) → IsForgotten block from i old new
    → from ≤ i → i < length old → x ≡ without block (cell_at new i)
    → IsForgotten block from (i + 1) old (slice_set new i x)
forgotten_more block from i old new x w f h e =
    let l : i < length new = rw w.same_length h in
    let here : cell_at new i ≡ cell_at old i = w.outside i (inr (omega arith)) in
    record {
      same_length = length-set new i x ∙ w.same_length;
      inside = λ j a b.
          ⊎_elim
          (λ c. (let apart : j ≢ i = omega arith in get_or-set_other new i j x Undefined apart ∙ w.inside j a c))
          (λ c. (let same : j ≡ i = omega arith in
          subst (λ k. cell_at (slice_set new i x) k ≡ without block (cell_at old k)) (sym same)
          (get_or-set_same new i x Undefined l ∙ e ∙ ap (without block) here)))
          (cases_lt j i);
      outside = λ j o.
          (let apart : j ≢ i = ⊎_elim (λ b. omega arith) (λ b. omega arith) o in
          get_or-set_other new i j x Undefined apart ∙ w.outside j (⊎_elim (λ b. inl b) (λ b. inr (omega arith)) o));
    }
