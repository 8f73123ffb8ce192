-- The longest end of a text that is one line.
use Rattle.std.proofs.Common.{◌≡◌, ℕ, zero, suc, ◌+◌, ◌-◌, ◌<◌, ◌≤◌, Bool, true, false, ◌&&◌, not, nat_eq, ◌==◌}
use Rattle.std.proofs.Common.{if◌then◌else◌, List, [], ◌∷◌, length, take, drop, get_or, refl, ap, subst, sym, ◌∙◌}
use Rattle.std.proofs.Common.{arith, length-drop}
use Rattle.std.proofs.Math.Seq.{take-length}
use Rattle.ep_sample.specs.Text.{is_one_line, last_line, newline}

to_end : (text : List ℕ) (f : ℕ) → take (length text - f) (drop f text) ≡ drop f text
to_end text f = ap (λ n. take n (drop f text)) (sym (length-drop f text)) ∙ take-length (drop f text)

one_end : (text : List ℕ) (f : ℕ) → length text ≤ suc f → is_one_line (drop f text) ≡ true
one_end [] zero h = refl
one_end [] (suc f) h = refl
one_end (b ∷ []) zero h = refl
one_end (b ∷ c ∷ bs) zero h = absurd (omega arith)
one_end (b ∷ bs) (suc f) h = one_end bs f (omega arith)

pub at_end : (text : List ℕ) (f : ℕ) → f ≡ length text - 1
    → (f ≤ length text - 1) × (is_one_line (drop f text) ≡ true)
at_end text f e = (omega arith, one_end text f (omega arith))

whole : (text : List ℕ) → is_one_line text ≡ true → last_line text ≡ text
whole [] h = refl
whole (b ∷ bs) h = ap (λ z. if z then b ∷ bs else last_line bs) h

several : (text : List ℕ) (f : ℕ) → get_or text f 0 ≡ newline → suc f < length text → is_one_line text ≡ false
several [] f g h = absurd (omega arith)
several (b ∷ []) f g h = absurd (omega arith)
several (b ∷ c ∷ bs) zero g h = ap (λ z. not (z == newline) && is_one_line (c ∷ bs)) g
several (b ∷ c ∷ bs) (suc f) g h = after (not (b == newline)) (several (c ∷ bs) f g (omega arith)) where
  after : {x : Bool} (y : Bool) → x ≡ false → y && x ≡ false
  after true e = e
  after false e = refl

last : (text : List ℕ) (f : ℕ) → get_or text f 0 ≡ newline → suc f < length text
    → is_one_line (drop (suc f) text) ≡ true → last_line text ≡ drop (suc f) text
last [] f g h k = absurd (omega arith)
last (b ∷ bs) zero g h k =
    ap (λ z. if z then b ∷ bs else last_line bs) (several (b ∷ bs) zero g h) ∙ whole bs k
last (b ∷ bs) (suc f) g h k =
    ap (λ z. if z then b ∷ bs else last_line bs) (several (b ∷ bs) (suc f) g h) ∙ last bs f g (omega arith) k

pub behind : (text : List ℕ) (f : ℕ) → 0 < f → f ≤ length text - 1 → get_or text (f - 1) 0 ≡ newline
    → is_one_line (drop f text) ≡ true → take (length text - f) (drop f text) ≡ last_line text
behind text zero p h g k = absurd (omega arith)
behind text (suc f) p h g k =
    let at : get_or text f 0 ≡ newline = subst (λ n. get_or text n 0 ≡ newline) (omega arith) g in
    to_end text (suc f) ∙ sym (last text f at (omega arith) k)

pub all : (text : List ℕ) (f : ℕ) → f ≤ 0 → is_one_line (drop f text) ≡ true
    → take (length text - f) (drop f text) ≡ last_line text
all text zero h k = to_end text zero ∙ sym (whole text k)
all text (suc f) h k = absurd (omega arith)
