-- Bytes made undefined page by page.
use Rattle.std.proofs.Common.{◌≡◌, ℕ, ◌+◌, ◌-◌, ◌*◌, ◌/◌, ◌<◌, ◌≤◌, ◌⊎◌, ⊎_elim, inl, inr, min, max, List, refl}
use Rattle.std.proofs.Common.{◌∙◌, subst, arith}
use Rattle.std.proofs.lemmas.Bool.{cases_lt}
use Rattle.ep_bytes.specs.declared.types.Byte.{Byte}
use Rattle.ep_bytes.specs.declared.types.Byte.TheVariants.{Undefined}
use Rattle.ep_bytes.specs.Cells.{cell_at, IsCleared, IsWritten}

pub cleared_already : (from to : ℕ) (cells : List Byte) → ((i : ℕ) → from ≤ i → i < to → cell_at cells i ≡ Undefined)
    → IsCleared from to cells cells
cleared_already from to cells h = record { same_length = refl; inside = h; outside = λ i o. refl }

pub cleared_by_writing : (from to : ℕ) (old new : List Byte) → from ≤ to
    → IsWritten old new from (to - from) (λ k. Undefined) → IsCleared from to old new
cleared_by_writing from to old new h w = record {
  same_length = w.same_length;
  inside = λ i a b.
      (let e : from + (i - from) ≡ i = omega arith in
      subst (λ j. cell_at new j ≡ Undefined) e (w.inside (i - from) (omega arith)));
  outside = λ i o. w.outside i (⊎_elim (λ a. inl a) (λ b. inr (omega arith)) o);
}

pub cleared_none : (at end page : ℕ) (cells : List Byte) → page ≡ at / 1024 → IsCleared at (min end (page * 1024)) cells cells
cleared_none at end page cells e = cleared_already at (min end (page * 1024)) cells (λ i a b. absurd (omega arith))

pub cleared_more : (at end page : ℕ) (old mid new : List Byte) → IsCleared at (min end (page * 1024)) old mid
    → IsCleared (max at (page * 1024)) (min end (page * 1024 + 1024)) mid new
    → IsCleared at (min end ((page + 1) * 1024)) old new
cleared_more at end page old mid new c d = record {
  same_length = d.same_length ∙ c.same_length;
  inside = λ i a b.
      ⊎_elim (λ before. d.outside i (inl (omega arith)) ∙ c.inside i a (omega arith))
      (λ on. d.inside i (omega arith) (omega arith))
      (cases_lt i (page * 1024));
  outside = λ i o.
      ⊎_elim (λ below. d.outside i (inl (omega arith)) ∙ c.outside i (inl below))
      (λ above. d.outside i (inr (omega arith)) ∙ c.outside i (inr (omega arith)))
      o;
}

pub cleared_all : (at count page : ℕ) (old new : List Byte) → IsCleared at (min (at + count) (page * 1024)) old new
    → at + count ≤ page * 1024 → IsWritten old new at count (λ k. Undefined)
cleared_all at count page old new c h = record {
  same_length = c.same_length;
  inside = λ k l. c.inside (at + k) (omega arith) (omega arith);
  outside = λ i o. c.outside i (⊎_elim (λ a. inl a) (λ b. inr (omega arith)) o);
}
