-- Certificates as they are written.
use Rattle.std.proofs.Common.{◌≡◌, ℕ, suc, List, [], ◌∷◌, ◌++◌, map, length, codes, refl, ap, sym, ◌∙◌}
use Rattle.std.specs.Prelude.{Result, IfOk}
use Rattle.std.specs.List.{flat_map}
use Rattle.ep_cells.specs.declared.cell.Cell.{Cell}
use Rattle.ep_cells.specs.States.{Known}
use Rattle.ep_cert_cells.specs.Numbers.{Numbers}
use Rattle.ep_cert_cells.specs.Bytes.{low, cell_bytes}
use Rattle.ep_cert_writing.proofs.Written.{behind, at_last, byte_is, low_is}
use Rattle.ep_cert.specs.Certificate.{Certificate, order_number, model_number, head_bytes, opening_bytes}

pub opening_written : {T E : Type 0} (r : Result T E) (c : Certificate) (s : List ℕ) (a b m u k : ℕ)
    (o p q t v w z : List ℕ) → s ≡ codes "ENDCERT1" → a ≡ order_number c.orders.0 → b ≡ order_number c.orders.1
    → m ≡ model_number c.model → u ≡ c.unroll → k ≡ length c.heads → p ≡ o ++ s → q ≡ p ++ a ∷ [] → t ≡ q ++ b ∷ []
    → v ≡ t ++ m ∷ [] → w ≡ v ++ low 4 u → IfOk r (λ _. z ≡ w ++ low 8 k) → IfOk r (λ _. z ≡ o ++ opening_bytes c)
unfolding opening_bytes
opening_written r c s a b m u k o p q t v w z es ea eb em eu ek hp hq ht hv hw h =
    behind r o p z s (codes "ENDCERT1") _ hp es
    (behind r p q z (a ∷ []) (order_number c.orders.0 ∷ []) _ hq (byte_is a (order_number c.orders.0) ea)
    (behind r q t z (b ∷ []) (order_number c.orders.1 ∷ []) _ ht (byte_is b (order_number c.orders.1) eb)
    (behind r t v z (m ∷ []) (model_number c.model ∷ []) _ hv (byte_is m (model_number c.model) em)
    (behind r v w z (low 4 u) (low 4 c.unroll) _ hw (low_is 4 u c.unroll eu)
    (at_last r w z (low 8 k) (low 8 (length c.heads)) h (low_is 8 k (length c.heads) ek))))))

length_of_map : {X Y : Type 0} (f : X → Y) (xs : List X) → length (map f xs) ≡ length xs
length_of_map f [] = refl
length_of_map f (x ∷ xs) = ap suc (length_of_map f xs)

pub head_written : {T E R : Type 0} (r : Result T E) (h : Known Numbers) (now : R → Cell Numbers) (cs ds : List R)
    (k : ℕ) (o p z : List ℕ) → map now cs ≡ h.cells → ds ≡ cs → k ≡ length cs → p ≡ o ++ low 4 k
    → IfOk r (λ _. z ≡ p ++ flat_map cell_bytes (map now ds)) → IfOk r (λ _. z ≡ o ++ head_bytes h.cells)
unfolding head_bytes
head_written r h now cs ds k o p z e d n hp w =
    behind r o p z (low 4 k) (low 4 (length h.cells)) _ hp
    (low_is 4 k (length h.cells) (n ∙ sym (length_of_map now cs) ∙ ap length e))
    (at_last r p z (flat_map cell_bytes (map now ds)) (flat_map cell_bytes h.cells) w
    (ap (flat_map cell_bytes) (ap (map now) d ∙ e)))
