-- Bytes that are taken or appended in several calls.
use Rattle.std.proofs.Common.{◌≡◌, ℕ, ◌+◌, List, ◌++◌, Option, Some, None, option_map, take, drop, refl, sym, ap}
use Rattle.std.proofs.Common.{subst, ◌∙◌, append_assoc}
use Rattle.std.proofs.Math.Seq.{take-add}
use Rattle.ep_io.specs.Bytes.{Taken, Appended}

prepend-twice : (xs ys : List ℕ) (known : Option (List ℕ)) → option_map (λ l. xs ++ l) (option_map (λ l. ys ++ l) known) ≡ option_map (λ l. (xs ++ ys) ++ l) known
prepend-twice xs ys None = refl
prepend-twice xs ys (Some zs) = ap Some (sym (append_assoc xs ys zs))

append-twice : (xs ys : List ℕ) (known : Option (List ℕ)) → option_map (λ l. l ++ ys) (option_map (λ l. l ++ xs) known) ≡ option_map (λ l. l ++ (xs ++ ys)) known
append-twice xs ys None = refl
append-twice xs ys (Some zs) = ap Some (append_assoc zs xs ys)

-- bytes that were taken, and then more
pub Taken-more : (a b c : Option (List ℕ)) (xs ys : List ℕ) → Taken a xs b → Taken b ys c → Taken a (xs ++ ys) c
Taken-more a b c xs ys first second =
    first ∙ ap (λ known. option_map (λ l. xs ++ l) known) second ∙ prepend-twice xs ys c

-- bytes that were appended, and then more
pub Appended-more : (a b c : Option (List ℕ)) (xs ys : List ℕ) → Appended a xs b → Appended b ys c → Appended a (xs ++ ys) c
Appended-more a b c xs ys first second =
    second ∙ ap (λ known. option_map (λ l. l ++ ys) known) first ∙ append-twice xs ys a

-- a front of a text that was appended, and then a front of the rest
pub Appended-front : (a b c : Option (List ℕ)) (text : List ℕ) (m n : ℕ) → Appended a (take m text) b → Appended b (take n (drop m text)) c → Appended a (take (m + n) text) c
Appended-front a b c text m n first second =
    subst (λ bytes. Appended a bytes c) (sym (take-add m n text)) (Appended-more a b c (take m text) (take n (drop m text)) first second)

pub Appended-same : (a b : Option (List ℕ)) (xs ys : List ℕ) → xs ≡ ys → Appended a xs b → Appended a ys b
Appended-same a b xs ys same appended = subst (λ bytes. Appended a bytes b) same appended
