-- Items that move from one list behind another.
use Rattle.std.proofs.Common.{◌≡◌, List, [], ◌∷◌, ◌++◌, sym, ap, ◌∙◌, append_assoc, append-nil}

module _ {A : Type 0} (now left all : List A) (h : now ++ left ≡ all) where
  pub moved : (next rest : List A) (x : A) → left ≡ x ∷ rest → next ≡ now ++ x ∷ [] → next ++ rest ≡ all
  moved next rest x l n =
      ap (λ (xs : List A). xs ++ rest) n ∙ append_assoc now (x ∷ []) rest ∙ sym (ap (λ (xs : List A). now ++ xs) l) ∙ h

  pub all_moved : left ≡ [] → now ≡ all
  all_moved l = sym (append-nil now) ∙ sym (ap (λ (xs : List A). now ++ xs) l) ∙ h
