-- Blocks that become undefined, one after another.
use Rattle.std.proofs.Common.{◌≡◌, ℕ, zero, suc, ◌+◌, ◌<◌, ◌≤◌, ◌||◌, Bool, true, false, List, [], ◌∷◌, ◌++◌, length}
use Rattle.ep_int.proofs.Basics.{drop-here, forgotten-none}
use Rattle.std.proofs.lemmas.List.{drop_all}
use Rattle.std.proofs.Common.{nat_eq, nat_lt, get_or, drop}
use Rattle.std.proofs.Common.{refl, sym, ap, ◌∙◌, if◌then◌else◌, arith}
use Rattle.std.specs.List.{list_any}
use Rattle.ep_int.specs.declared.types.Scalar.{Scalar}
use Rattle.ep_core.specs.Exec.{State, first_of, without}
use Rattle.std.proofs.lemmas.Bool.Decides.{nat_tests}
use mathlib.Core.Path.{fun_ext}
use Rattle.ep_int.specs.Memory.{Byte, undefined, number, fragment, Memory, contains, forgotten, killed}
use Rattle.ep_bytes.specs.declared.store.Block.{Block}
use Rattle.ep_bytes.specs.StoreView.{StoreView, block_of, byte_of_block, count_of, memory_in, no_block}
use Rattle.ep_core.specs.Program.{Program}
use Rattle.ep_core.specs.Typed.{ByteFits, MemoryFits}

-- ---- one, and then the others

later_forgotten : (b : ℕ) (bs : List ℕ) (x : Byte) → forgotten bs (forgotten (b ∷ []) x) ≡ forgotten (b ∷ bs) x
later_forgotten b bs undefined = refl
later_forgotten b bs (number v) = refl
later_forgotten b bs (fragment c o k) = by_test (nat_eq c b)
  where
    by_test : (t : Bool) → forgotten bs (if t || false then undefined else fragment c o k)
        ≡ (if t || list_any (nat_eq c) bs then undefined else fragment c o k)
    by_test true = refl
    by_test false = refl

killed_byte : (b : ℕ) (bs : List ℕ) (m : Memory) (c p : ℕ)
    → killed bs (killed (b ∷ []) m) c p ≡ killed (b ∷ bs) m c p
killed_byte b bs m c p = by_test (nat_eq c b) (contains c bs)
  where
    by_test : (t u : Bool) → (if u then undefined
        else forgotten bs (if t || false then undefined else forgotten (b ∷ []) (m c p)))
        ≡ (if t || u then undefined else forgotten (b ∷ bs) (m c p))
    by_test true true = refl
    by_test true false = refl
    by_test false true = refl
    by_test false false = later_forgotten b bs (m c p)

pub killed_more : (b : ℕ) (bs : List ℕ) (m : Memory) → killed bs (killed (b ∷ []) m) ≡ killed (b ∷ bs) m
killed_more b bs m = fun_ext (λ c. fun_ext (λ p. killed_byte b bs m c p))

pub killed_none : (m : Memory) → killed [] m ≡ m
killed_none m = fun_ext (λ c. fun_ext (λ p. forgotten-none (m c p)))

pub killed_append : (xs ys : List ℕ) (m : Memory) → killed ys (killed xs m) ≡ killed (xs ++ ys) m
killed_append [] ys m = ap (killed ys) (killed_none m)
killed_append (x ∷ xs) ys m =
    ap (killed ys) (sym (killed_more x xs m)) ∙ killed_append xs ys (killed (x ∷ []) m) ∙ killed_more x (xs ++ ys) m

-- ---- a block that isn't there

nowhere : (h : StoreView) (b p : ℕ) → count_of h ≤ b → memory_in h b p ≡ undefined
nowhere h b p l =
    let none : nat_lt p 0 ≡ false = grind (arith, nat_tests) in
    ap (λ k. byte_of_block h.cells k p) (past h.blocks b l) ∙ rw none refl
  where
    past : (ks : List Block) (b : ℕ) → length ks ≤ b → block_of ks b ≡ no_block
    past [] b l = refl
    past (k ∷ ks) zero l = absurd (omega arith)
    past (k ∷ ks) (suc b) l = past ks b (omega arith)

kept_byte : (p : Program) (b : ℕ) (x : Byte) → length p.blocks ≤ b → ByteFits p x → forgotten (b ∷ []) x ≡ x
kept_byte p b undefined l h = refl
kept_byte p b (number v) l h = refl
kept_byte p b (fragment c o k) l h =
    let apart : nat_eq c b ≡ false = grind (arith, nat_tests, h.0) in rw apart refl

killed_nowhere : (p : Program) (h : StoreView) (b : ℕ) → count_of h ≡ length p.blocks → length p.blocks ≤ b
    → MemoryFits p (memory_in h) → (c q : ℕ) (t : Bool) → nat_eq c b ≡ t
    → memory_in h c q ≡ (if t || false then undefined else forgotten (b ∷ []) (memory_in h c q))
killed_nowhere p h b e l f c q true s =
    let same : c ≡ b = grind (arith, nat_tests) in nowhere h c q (omega (arith, same, e, l))
killed_nowhere p h b e l f c q false s = sym (kept_byte p b (memory_in h c q) l (f c q))

-- nothing changes where such a block becomes undefined
pub killed_nothing : (p : Program) (h : StoreView) (b : ℕ) → count_of h ≡ length p.blocks → length p.blocks ≤ b
    → MemoryFits p (memory_in h) → memory_in h ≡ killed (b ∷ []) (memory_in h)
killed_nothing p h b e l f = fun_ext (λ c. fun_ext (λ q. killed_nowhere p h b e l f c q (nat_eq c b) refl))

-- ---- block by block

without_more : (b : ℕ) (bs : List ℕ) (s r : State) → r ≡ without (b ∷ []) s → without bs r ≡ without (b ∷ bs) s
without_more b bs s r e = ap (without bs) e ∙ ap (λ m. record s { memory = m }) (killed_more b bs s.memory)

pub killed_next : (i : ℕ) (bs : List ℕ) (b d : ℕ) (s r x : State) → i < length bs → b ≡ get_or bs i d
    → r ≡ without (b ∷ []) s → without (drop i bs) s ≡ x → without (drop (i + 1) bs) r ≡ x
killed_next i bs b d s r x h e k w =
    without_more b (drop (i + 1) bs) s r k ∙ ap (λ ds. without ds s) (sym (drop-here i bs b d h e)) ∙ w

pub killed_end : (i : ℕ) (bs : List ℕ) (s x : State) → length bs ≤ i → without (drop i bs) s ≡ x → s ≡ x
killed_end i bs s x h w =
    ap (λ m. record s { memory = m }) (sym (killed_none s.memory)) ∙ ap (λ ds. without ds s) (sym (drop_all i bs h))
    ∙ w

pub first_killed_next : (i : ℕ) (ps : List (ℕ × Scalar)) (p d : ℕ × Scalar) (s r x : State) → i < length ps
    → p ≡ get_or ps i d → r ≡ without (p.0 ∷ []) s → without (first_of (drop i ps)) s ≡ x
    → without (first_of (drop (i + 1) ps)) r ≡ x
first_killed_next i ps p d s r x h e k w =
    without_more p.0 (first_of (drop (i + 1) ps)) s r k
    ∙ ap (λ (ds : List (ℕ × Scalar)). without (first_of ds) s) (sym (drop-here i ps p d h e)) ∙ w

pub first_killed_end : (i : ℕ) (ps : List (ℕ × Scalar)) (s x : State) → length ps ≤ i
    → without (first_of (drop i ps)) s ≡ x → s ≡ x
first_killed_end i ps s x h w =
    ap (λ m. record s { memory = m }) (sym (killed_none s.memory))
    ∙ ap (λ (ds : List (ℕ × Scalar)). without (first_of ds) s) (sym (drop_all i ps h)) ∙ w
