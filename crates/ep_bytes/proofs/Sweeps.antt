-- Pointers to a block are forgotten page by page.
use Rattle.std.proofs.Common.{◌≡◌, ℕ, ◌+◌, ◌*◌, ◌/◌, ◌%◌, ◌^◌, ◌<◌, ◌≤◌, ◌⊎◌, ⊎_elim, inl, inr, min, max, List}
use Rattle.std.proofs.Common.{length, refl, sym, ◌∙◌, ap, subst, arith}
use Rattle.std.specs.Int.{bit_at, w64}
use Rattle.std.specs.Int.RustNames.{bit_or}
use Rattle.std.proofs.lemmas.Nat.Bits.{bit_at_set_same, bit_at_set_other}
use Rattle.std.proofs.lemmas.Bool.{cases_eq, cases_lt}
use Rattle.std.proofs.lemmas.List.{get_or_past}
use Rattle.ep_bytes.specs.declared.types.Byte.{Byte}
use Rattle.ep_bytes.specs.declared.types.Byte.TheVariants.{Undefined}
use Rattle.ep_bytes.specs.declared.spans.Span.{Span}
use Rattle.ep_bytes.specs.Cells.{cell_at, without, IsForgotten, IsIn}

-- ---- marks

pub page_marked : (pages k : ℕ) → k < 64 → bit_at (bit_or pages (1 * 2 ^ k % 2 ^ 64)) k ≡ 1
page_marked pages k h = bit_at_set_same w64 pages k h

pub page_kept : (pages k i : ℕ) → k < 64 → bit_at pages i ≡ 1 → bit_at (bit_or pages (1 * 2 ^ k % 2 ^ 64)) i ≡ 1
page_kept pages k i h marked =
    ⊎_elim
    (λ same. subst (λ j. bit_at (bit_or pages (1 * 2 ^ k % 2 ^ 64)) j ≡ 1) (sym same) (page_marked pages k h))
    (λ other. bit_at_set_other w64 pages k h i other ∙ marked)
    (cases_eq i k)

-- ---- page by page

-- on the pages before one no place of the span points to the block, and all other cells are as they were
pub record IsSwept (block : ℕ) (span : Span) (page : ℕ) (old new : List Byte) : Type 0 where
  pub same_length : length new ≡ length old
  pub inside : (i : ℕ) → i < page * 1024 → IsIn span i → cell_at new i ≡ without block (cell_at old i)
  pub outside : (i : ℕ) → (¬ (IsIn span i)) ⊎ (page * 1024 ≤ i) → cell_at new i ≡ cell_at old i

pub swept_none : (block : ℕ) (span : Span) (page : ℕ) (cells : List Byte) → page * 1024 ≤ span.from
    → IsSwept block span page cells cells
swept_none block span page cells h = record {
  same_length = refl;
  inside = λ i l is. (let from = is.0 in absurd (omega arith));
  outside = λ i o. refl;
}

-- the page of a place
on_page : (i page : ℕ) → page * 1024 ≤ i → i < page * 1024 + 1024 → i / 1024 ≡ page
on_page i page h l = omega arith

pub swept_skip : (block : ℕ) (span : Span) (page : ℕ) (old new : List Byte) → IsSwept block span page old new
    → ¬ (bit_at span.pages (page % 64) ≡ 1) → IsSwept block span (page + 1) old new
swept_skip block span page old new w unmarked = record {
  same_length = w.same_length;
  inside = λ i l is.
      ⊎_elim (λ before. w.inside i before is)
      (λ on. absurd (unmarked
      (subst (λ p. bit_at span.pages (p % 64) ≡ 1) (on_page i page on (omega arith)) is.2)))
      (cases_lt i (page * 1024));
  outside = λ i o. w.outside i (⊎_elim (λ n. inl n) (λ past. inr (omega arith)) o);
}

pub swept_more : (block : ℕ) (span : Span) (page low high : ℕ) (old mid new : List Byte)
    → IsSwept block span page old mid
    → bit_at span.pages (page % 64) ≡ 1 → low ≡ max span.from (page * 1024) → high ≡ min span.to (page * 1024 + 1024)
    → IsForgotten block low high mid new → IsSwept block span (page + 1) old new
swept_more block span page low high old mid new w marked low_is high_is f = record {
  same_length = f.same_length ∙ w.same_length;
  inside = λ i l is.
      (let from = is.0 in
      let to = is.1 in
      ⊎_elim (λ before. f.outside i (inl (omega arith)) ∙ w.inside i before is)
      (λ on. f.inside i (omega arith) (omega arith) ∙ ap (without block) (w.outside i (inr on)))
      (cases_lt i (page * 1024)));
  outside = λ i o.
      ⊎_elim
      (λ below. f.outside i (inl below)
      ∙ w.outside i (⊎_elim (λ n. inl n) (λ past. inr (omega arith)) o))
      (λ above. ⊎_elim
      (λ within.
      (let on : i / 1024 ≡ page = on_page i page (omega arith) (omega arith) in
      let bit : bit_at span.pages (i / 1024 % 64) ≡ 1 =
      subst (λ p. bit_at span.pages (p % 64) ≡ 1) (sym on) marked in
      absurd (⊎_elim (λ n. n (omega arith, omega arith, bit)) (λ past. omega arith) o)))
      (λ past. f.outside i (inr past) ∙ w.outside i (⊎_elim (λ n. inl n) (λ p. inr (omega arith)) o))
      (cases_lt i high))
      (cases_lt i low);
}

-- past the end nothing points anywhere
pub swept_all : (block : ℕ) (span : Span) (page : ℕ) (old new : List Byte) → IsSwept block span page old new
    → min span.to (length old) ≤ page * 1024 → (i : ℕ) → IsIn span i → cell_at new i ≡ without block (cell_at old i)
swept_all block span page old new w end i is =
    let to = is.1 in
    ⊎_elim (λ before. w.inside i before is)
    (λ past.
    (let l : length old ≤ i = omega arith in
    let m : length new ≤ i = subst (λ n. n ≤ i) (sym w.same_length) l in
    get_or_past new i Undefined m ∙ ap (without block) (sym (get_or_past old i Undefined l))))
    (cases_lt i (page * 1024))
