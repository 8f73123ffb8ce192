-- What is noted of bytes beside them: where pointers may be, and which pages were written.
use Rattle.std.proofs.Common.{◌≡◌, ℕ, ◌+◌, ◌*◌, ◌/◌, ◌%◌, ◌<◌, ◌≤◌, ◌≢◌, ◌⊎◌, ⊎_elim, inl, inr, Bool, true, false}
use Rattle.std.proofs.Common.{List, [], ◌∷◌, ◌++◌, length, slice_set, refl, sym, ◌∙◌, ap, subst, arith, get_or-set_same}
use Rattle.std.proofs.Common.{if◌then◌else◌, get_or-set_other, length-append, length-set}
use Rattle.std.specs.Int.{bit_at}
use Rattle.std.specs.Prelude.{slice_index_or}
use Rattle.std.proofs.lemmas.Bool.{cases_eq, cases_lt}
use Rattle.std.proofs.lemmas.List.{get_or_append_left, get_or_past}
use Rattle.std.proofs.Math.Seq.{get_or-append_seam}
use Rattle.ep_bytes.specs.declared.types.Byte.{Byte}
use Rattle.ep_bytes.specs.declared.types.Byte.TheVariants.{Undefined}
use Rattle.ep_bytes.specs.declared.spans.Span.{Span}
use Rattle.ep_bytes.specs.Cells.{cell_at, is_used, nowhere, part_of, points_to, span_of, without}
use Rattle.ep_bytes.specs.Cells.{AreNoted, IsIn}

pub same_or_not : (i j : ℕ) → (i ≡ j) ⊎ (i ≢ j)
same_or_not i j =
    ⊎_elim (λ b. inr (omega arith)) (λ b. ⊎_elim (λ d. inr (omega arith)) (λ d. inl (omega arith)) (cases_lt j i))
    (cases_lt i j)

pub noted_set : (cells : List Byte) (spans wider : List Span) (used more : List Bool) (at : ℕ) (x : Byte)
    → AreNoted cells spans used
    → at < length cells → part_of x < 8 → length wider ≡ length spans
    → ((b : ℕ) → b < length spans → points_to b x ≡ true → IsIn (span_of wider b) at)
    → ((b i : ℕ) → IsIn (span_of spans b) i → IsIn (span_of wider b) i)
    → (is_used more at ≡ false → x ≡ Undefined)
    → ((i : ℕ) → is_used more i ≡ false → is_used used i ≡ false)
    → AreNoted (slice_set cells at x) wider more
noted_set cells spans wider used more at x a l part len own others undefined unused = record {
  parts = λ i.
      ⊎_elim
      (λ e. subst (λ j. part_of (cell_at (slice_set cells at x) j) < 8) (sym e)
      (subst (λ y. part_of y < 8) (sym (get_or-set_same cells at x Undefined l)) part))
      (λ n. subst (λ y. part_of y < 8) (sym (get_or-set_other cells at i x Undefined n)) (a.parts i))
      (same_or_not i at);
  spanned = λ b i h p.
      (let g : b < length spans = omega arith in
      ⊎_elim
      (λ e. subst (λ j. IsIn (span_of wider b) j) (sym e)
      (own b g (ap (points_to b) (sym (get_or-set_same cells at x Undefined l)
      ∙ ap (cell_at (slice_set cells at x)) (sym e)) ∙ p)))
      (λ n. others b i (a.spanned b i g (ap (points_to b) (sym (get_or-set_other cells at i x Undefined n)) ∙ p)))
      (same_or_not i at));
  unused = λ i u.
      ⊎_elim
      (λ e. subst (λ j. cell_at (slice_set cells at x) j ≡ Undefined) (sym e)
      (get_or-set_same cells at x Undefined l ∙ undefined (subst (λ j. is_used more j ≡ false) e u)))
      (λ n. get_or-set_other cells at i x Undefined n ∙ a.unused i (unused i u))
      (same_or_not i at);
}

-- the same bytes, where pages that are no longer used have undefined ones
pub noted_alike : (cells new : List Byte) (spans : List Span) (used more : List Bool) → AreNoted cells spans used
    → ((i : ℕ) → cell_at new i ≡ cell_at cells i)
    → ((i : ℕ) → is_used more i ≡ false → (is_used used i ≡ false) ⊎ (cell_at cells i ≡ Undefined))
    → AreNoted new spans more
noted_alike cells new spans used more a alike unused = record {
  parts = λ i. subst (λ y. part_of y < 8) (sym (alike i)) (a.parts i);
  spanned = λ b i h p. a.spanned b i h (ap (points_to b) (sym (alike i)) ∙ p);
  unused = λ i u. alike i ∙ ⊎_elim (λ old. a.unused i old) (λ e. e) (unused i u);
}

pub one_more_alike : (cells : List Byte) (i : ℕ) → cell_at (cells ++ Undefined ∷ []) i ≡ cell_at cells i
one_more_alike cells i =
    ⊎_elim (λ before. get_or_append_left cells (Undefined ∷ []) Undefined i before)
    (λ from. ⊎_elim
    (λ e. subst (λ j. cell_at (cells ++ Undefined ∷ []) j ≡ cell_at cells j) (sym e)
    (get_or-append_seam cells Undefined [] Undefined ∙ sym (get_or_past cells (length cells) Undefined (omega arith))))
    (λ n. get_or_past (cells ++ Undefined ∷ []) i Undefined (omega (arith, one_longer cells))
    ∙ sym (get_or_past cells i Undefined from))
    (same_or_not i (length cells)))
    (cases_lt i (length cells))
  where
    one_longer : (xs : List Byte) → length (xs ++ Undefined ∷ []) ≡ length xs + 1
    one_longer xs = length-append xs (Undefined ∷ [])

in_or_out : (s : Span) (i : ℕ) → (IsIn s i) ⊎ (¬ (IsIn s i))
in_or_out s i =
    ⊎_elim (λ below. inr (λ is. (let from = is.0 in absurd (omega (arith, from, below)))))
    (λ from. ⊎_elim
    (λ before. ⊎_elim (λ on. inl (from, before, on)) (λ off. inr (λ is. off is.2))
    (cases_eq (bit_at s.pages (i / 1024 % 64)) 1))
    (λ past. inr (λ is. (let to = is.1 in absurd (omega (arith, to, past)))))
    (cases_lt i s.to))
    (cases_lt i s.from)

module _ (cells new : List Byte) (spans : List Span) (used : List Bool) (block : ℕ) (a : AreNoted cells spans used)
    (there : block < length spans)
    (inside : (i : ℕ) → IsIn (span_of spans block) i → cell_at new i ≡ without block (cell_at cells i))
    (outside : (i : ℕ) → ¬ (IsIn (span_of spans block) i) → cell_at new i ≡ cell_at cells i) where
  all_without : (i : ℕ) → cell_at new i ≡ without block (cell_at cells i)
  all_without i =
      ⊎_elim (inside i)
      (λ out. outside i out ∙ still (points_to block (cell_at cells i)) refl out)
      (in_or_out (span_of spans block) i)
    where
      still : (t : Bool) → points_to block (cell_at cells i) ≡ t → ¬ (IsIn (span_of spans block) i)
          → cell_at cells i ≡ (if t then Undefined else cell_at cells i)
      still true e out = absurd (out (a.spanned block i there e))
      still false e out = refl

  part_without : (c : Byte) (t : Bool) → part_of c < 8 → part_of (if t then Undefined else c) < 8
  part_without c true h = omega arith
  part_without c false h = h

  points_without : (b : ℕ) (c : Byte) (t : Bool) → points_to b (if t then Undefined else c) ≡ true → points_to b c ≡ true
  points_without b c true h = (let e : false ≡ true = h in cc)
  points_without b c false h = h

  own_without : (c : Byte) (t : Bool) → points_to block c ≡ t → points_to block (if t then Undefined else c) ≡ true → ⊥
  own_without c true e h = (let f : false ≡ true = h in cc)
  own_without c false e h = (let f : false ≡ true = sym e ∙ h in cc)

  -- once no byte points to a block, nowhere may one
  pub noted_without : AreNoted new (slice_set spans block nowhere) used
  noted_without = record {
    parts = λ i.
        subst (λ y. part_of y < 8) (sym (all_without i))
        (part_without (cell_at cells i) (points_to block (cell_at cells i)) (a.parts i));
    spanned = λ b i h p.
        (let c = cell_at cells i in
        let q : points_to b (without block c) ≡ true = ap (points_to b) (sym (all_without i)) ∙ p in
        ⊎_elim
        (λ e. absurd (own_without c (points_to block c) refl
        (subst (λ k. points_to k (without block c) ≡ true) e q)))
        (λ n. subst (λ s. IsIn s i) (sym (get_or-set_other spans block b nowhere nowhere n))
        (a.spanned b i (omega (arith, h, length-set spans block nowhere)) (points_without b c (points_to block c) q)))
        (same_or_not b block));
    unused = λ i u. all_without i ∙ ap (without block) (a.unused i u);
  }

-- ---- marks of pages

module _ (used : List Bool) where
  pub begun : (count i : ℕ) → count % 1024 ≡ 0 → count / 1024 ≡ length used → is_used (used ++ false ∷ []) i ≡ false
      → (is_used used i ≡ false) ⊎ (count ≤ i)
  begun count i whole end u =
      ⊎_elim (λ before. inl (sym (get_or_append_left used (false ∷ []) true (i / 1024) before) ∙ u))
      (λ from. inr (omega arith))
      (cases_lt (i / 1024) (length used))

  pub marked_own : (page : ℕ) → page < length used → slice_index_or (slice_set used page true) page true ≡ true
  marked_own page l = get_or-set_same used page true true l

  pub marked_others : (page q : ℕ) → page < length used → slice_index_or (slice_set used page true) q true ≡ false
      → slice_index_or used q true ≡ false
  marked_others page q l u =
      ⊎_elim
      (λ e. (let t : true ≡ false = sym (marked_own page l)
      ∙ subst (λ j. slice_index_or (slice_set used page true) j true ≡ false) e u in cc))
      (λ n. sym (get_or-set_other used page q true true n) ∙ u)
      (same_or_not q page)

  pub forgotten_page : (page i : ℕ) → is_used (slice_set used page false) i ≡ false
      → (is_used used i ≡ false) ⊎ ((page * 1024 ≤ i) × (i < page * 1024 + 1024))
  forgotten_page page i u =
      ⊎_elim (λ e. inr (omega arith, omega arith))
      (λ n. inl (sym (get_or-set_other used page (i / 1024) false true n) ∙ u))
      (same_or_not (i / 1024) page)
