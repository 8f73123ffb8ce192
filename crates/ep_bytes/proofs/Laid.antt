-- Blocks that are laid one after another.
use Rattle.std.proofs.Common.{◌≡◌, ℕ, ◌+◌, ◌≤◌, ⊎_elim, false, List, [], ◌∷◌, ◌++◌, length, refl, sym, subst, arith, length-append}
use Rattle.std.proofs.lemmas.Bool.{cases_lt}
use Rattle.std.proofs.lemmas.List.{get_or_append_left, get_or_past}
use Rattle.std.proofs.Math.Seq.{get_or-append_seam}
use Rattle.ep_bytes.specs.declared.store.Block.{Block}
use Rattle.ep_bytes.specs.StoreView.{AreLaid, block_of, no_block}

-- what holds of each block, of a new one and of none, holds of each block then
each_block : (P : Block → Type 0) (blocks : List Block) (x : Block) (b : ℕ) → P (block_of blocks b) → P x → P no_block
    → P (block_of (blocks ++ x ∷ []) b)
each_block P blocks x b old new none =
    ⊎_elim
    (λ before. subst P (sym (get_or_append_left blocks (x ∷ []) no_block b before)) old)
    (λ from. ⊎_elim
    (λ here.
    (let e : length blocks ≡ b = omega arith in
    subst (λ i. P (block_of (blocks ++ x ∷ []) i)) e (subst P (sym (get_or-append_seam blocks x [] no_block)) new)))
    (λ past.
    (let l : length (blocks ++ x ∷ []) ≤ b = omega (arith, length-append blocks (x ∷ [])) in
    subst P (sym (get_or_past (blocks ++ x ∷ []) b no_block l)) none))
    (cases_lt b (length blocks + 1)))
    (cases_lt b (length blocks))

pub laid_more : (blocks : List Block) (x : Block) (n m : ℕ) → AreLaid blocks n → x.start ≡ n → n + x.size ≤ m
    → AreLaid (blocks ++ x ∷ []) m
laid_more blocks x n m laid start fits = record {
  inside = λ b. each_block (λ k. k.start + k.size ≤ m) blocks x b (let a = laid.inside b in omega arith) (omega arith)
      (omega arith);
  apart = λ b c h l.
      (let old : block_of (blocks ++ x ∷ []) b ≡ block_of blocks b =
      get_or_append_left blocks (x ∷ []) no_block b (omega (arith, length-append blocks (x ∷ []))) in
      ⊎_elim
      (λ known.
      (let other : block_of (blocks ++ x ∷ []) c ≡ block_of blocks c =
      get_or_append_left blocks (x ∷ []) no_block c known in
      rw (old, other) (laid.apart b c h known)))
      (λ (new : length blocks ≤ c).
      (let e : length blocks ≡ c = omega (arith, length-append blocks (x ∷ [])) in
      let a = laid.inside b in
      let before : (block_of blocks b).start + (block_of blocks b).size ≤ x.start = omega arith in
      rw old (subst (λ i. (block_of blocks b).start + (block_of blocks b).size ≤
      (block_of (blocks ++ x ∷ []) i).start) e
      (rw (get_or-append_seam blocks x [] no_block) before))))
      (cases_lt c (length blocks)));
}

-- a block that is no more than undefined, behind such
pub plain_more : (blocks : List Block) (x : Block) → ((b : ℕ) → (block_of blocks b).is_zeroed ≡ false) → x.is_zeroed ≡ false
    → (b : ℕ) → (block_of (blocks ++ x ∷ []) b).is_zeroed ≡ false
plain_more blocks x old new b = each_block (λ k. k.is_zeroed ≡ false) blocks x b (old b) new refl
