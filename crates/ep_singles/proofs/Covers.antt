-- Which cells have a byte, and what is undefined where none has it.
use Rattle.std.proofs.Common.{◌≡◌, ℕ, ◌+◌, Bool, true, false, ◌&&◌, ◌||◌, nat_eq, nat_le, nat_lt, cond, List, [], ◌∷◌}
use Rattle.std.proofs.Common.{map, Option, Some, None, refl, sym, ◌∙◌, subst}
use Rattle.std.proofs.lemmas.Bool.{and_parts, and_from}
use Rattle.ep_int.specs.declared.types.Model.{Model}
use Rattle.ep_int.specs.Types.{size_of}
use Rattle.ep_int.specs.Memory.{Memory, undefined}
use Rattle.ep_bitslice.specs.declared.cell.Side.{Side}
use Rattle.ep_bitslice.specs.declared.cell.Side.TheVariants.{Left, Right, Shared}
use Rattle.ep_domain.specs.Domain.{Ops}
use Rattle.ep_cells.specs.declared.cell.Cell.{Cell}
use Rattle.ep_cells.specs.Cells.{IsIn, first, later, is_same_side, share_memory, side_without, on_left, on_right}
use Rattle.ep_cells.specs.Cells.{parts_on, put_all, each_becomes}
use Rattle.ep_cells.specs.Forms.{Fate, reformed}
use Rattle.ep_cells.specs.Look.{covers, cell_at}
use Rattle.ep_cells.proofs.Lists.{each_in, map_in, put_all_keeps}
use Rattle.ep_singles.specs.Cells.{IsOneCell, no_value, one_value}
use Rattle.ep_singles.specs.Laws.{IsMachine}

-- ---- sides

abbrev pub has_side : Side → Side → Bool
has_side q s = is_same_side q s || is_same_side q Shared

pub share_left : (q : Side) → share_memory q Left ≡ on_left q
share_left Left = refl
share_left Right = refl
share_left Shared = refl

pub share_right : (q : Side) → share_memory q Right ≡ on_right q
share_right Left = refl
share_right Right = refl
share_right Shared = refl

-- what is left of a side, where a machine's is not taken
pub keeps_side : (p q s : Side) → IsMachine s → has_side q s ≡ true → share_memory p s ≡ false
    → (r : Side) × (side_without p q ≡ Some r) × (has_side r s ≡ true)
keeps_side Left Left Right i h e = absurd (let d : false ≡ true = h in cc)
keeps_side Left Right Right i h e = (Right, refl, refl)
keeps_side Left Shared Right i h e = (Right, refl, refl)
keeps_side Left q Left i h e = absurd (let d : true ≡ false = e in cc)
keeps_side Left q Shared i h e = absurd i
keeps_side Right Left Left i h e = (Left, refl, refl)
keeps_side Right Right Left i h e = absurd (let d : false ≡ true = h in cc)
keeps_side Right Shared Left i h e = (Left, refl, refl)
keeps_side Right q Right i h e = absurd (let d : true ≡ false = e in cc)
keeps_side Right q Shared i h e = absurd i
keeps_side Shared q Left i h e = absurd (let d : true ≡ false = e in cc)
keeps_side Shared q Right i h e = absurd (let d : true ≡ false = e in cc)
keeps_side Shared q Shared i h e = absurd i

pub share_both : (p q s : Side) → IsMachine s → share_memory p s ≡ true → has_side q s ≡ true
    → share_memory p q ≡ true
share_both Left Left Left i e h = refl
share_both Left Shared Left i e h = refl
share_both Left Right Left i e h = absurd (let d : false ≡ true = h in cc)
share_both Left q Right i e h = absurd (let d : false ≡ true = e in cc)
share_both Left q Shared i e h = absurd i
share_both Right Right Right i e h = refl
share_both Right Shared Right i e h = refl
share_both Right Left Right i e h = absurd (let d : false ≡ true = h in cc)
share_both Right q Left i e h = absurd (let d : false ≡ true = e in cc)
share_both Right q Shared i e h = absurd i
share_both Shared Left s i e h = refl
share_both Shared Right s i e h = refl
share_both Shared Shared s i e h = refl

-- ---- cells that have a byte

first_or : {N : Type 0} (P : Cell N → Type 0) (c x : Cell N) (cs : List (Cell N)) → IsIn x (c ∷ cs) → P c
    → (IsIn x cs → P x) → P x
first_or P c _ cs (first _) h f = h
first_or P c x cs (later _ _ j) h f = f j

pub not_covering : {N : Type 0} (d : Model) (s : Side) (b p : ℕ) (cs : List (Cell N)) (x : Cell N)
    → cell_at d s b p cs ≡ None → IsIn x cs → covers d s b p x ≡ false
not_covering d s b p [] x e i = elim i [ ]
not_covering {N = N} d s b p (c ∷ cs) x e i = by_first (covers d s b p c) refl e (not_covering d s b p cs x)
  where
    by_first : (t : Bool) → covers d s b p c ≡ t → cond t (Some c) (cell_at d s b p cs) ≡ None
        → (cell_at d s b p cs ≡ None → IsIn x cs → covers d s b p x ≡ false) → covers d s b p x ≡ false
    by_first true h k f = absurd (let g : Some c ≡ None = k in cc)
    by_first false h k f = first_or (λ z. covers d s b p z ≡ false) c x cs i h (λ j. f k j)

pub found_covers : {N : Type 0} (d : Model) (s : Side) (b p : ℕ) (cs : List (Cell N)) (x : Cell N)
    → cell_at d s b p cs ≡ Some x → IsIn x cs × (covers d s b p x ≡ true)
found_covers d s b p [] x e = absurd cc
found_covers {N = N} d s b p (c ∷ cs) x e = by_first (covers d s b p c) refl e (found_covers d s b p cs x)
  where
    same : (c x : Cell N) → Some c ≡ Some x → c ≡ x
    same c x e = cc

    by_first : (t : Bool) → covers d s b p c ≡ t → cond t (Some c) (cell_at d s b p cs) ≡ Some x
        → (cell_at d s b p cs ≡ Some x → IsIn x cs × (covers d s b p x ≡ true))
        → IsIn x (c ∷ cs) × (covers d s b p x ≡ true)
    by_first true h k f =
        subst (λ z. IsIn z (c ∷ cs) × (covers d s b p z ≡ true)) (same c x k) (first cs, h)
    by_first false h k f = let r = f k in (later c cs r.0, r.1)

-- the same cell of another side
pub side_covers : {N : Type 0} (d : Model) (s : Side) (b p : ℕ) (x : Cell N) (r : Side) → covers d s b p x ≡ true
    → has_side r s ≡ true → covers d s b p (record x { side = r }) ≡ true
side_covers d s b p x r h e =
    let q = and_parts (has_side x.side s)
    (nat_eq x.block b && (nat_le x.offset p && nat_lt p (x.offset + size_of d x.what))) h in
    and_from (has_side r s) (nat_eq x.block b && (nat_le x.offset p && nat_lt p (x.offset + size_of d x.what))) e q.1

-- one of its parts
pub part_covers : {N : Type 0} (d : Model) (s : Side) (b p : ℕ) (x : Cell N) (q : Side) → IsMachine s
    → covers d s b p x ≡ true → (z : Cell N) × IsIn z (parts_on x q) × (covers d s b p z ≡ true)
part_covers d s b p x Left i h = (x, first [], h)
part_covers d s b p x Right i h = (x, first [], h)
part_covers d Left b p x Shared i h = (record x { side = Left }, first _, side_covers d Left b p x Left h refl)
part_covers d Right b p x Shared i h =
    (record x { side = Right }, later _ _ (first []), side_covers d Right b p x Right h refl)
part_covers d Shared b p x Shared i h = absurd i

-- ---- a change of all cells

-- each cell becomes some, more are put among them, and forms change
abbrev pub changed : {N : Type 0} → Fate → List (Cell N) → (Cell N → List (Cell N)) → List (Cell N) → List (Cell N)
changed g more f cs = map (reformed g) (put_all more (each_becomes f cs))

pub kept_in : {N : Type 0} (g : Fate) (more : List (Cell N)) (f : Cell N → List (Cell N)) (cs : List (Cell N))
    (x y : Cell N) → IsIn x cs → IsIn y (f x) → IsIn (reformed g y) (changed g more f cs)
kept_in g more f cs x y i j =
    map_in (reformed g) y (put_all more (each_becomes f cs))
    (put_all_keeps more y (each_becomes f cs) (each_in f x y cs i j))

-- what becomes of a byte on a side: it is undefined, some new cell has it, or it stays undefined and the cells that
-- had it become some that have it
pub data IsByteAfter {N : Type 0} (d : Model) (s : Side) (old new : List (Cell N)) (m n : Memory) (b q : ℕ) : Type 0
  where
    gone : n b q ≡ undefined → IsByteAfter d s old new m n b q
    covered : (y : Cell N) → IsIn y new → covers d s b q y ≡ true → IsByteAfter d s old new m n b q
    stays : (m b q ≡ undefined → n b q ≡ undefined)
        → ((x : Cell N) → IsIn x old → covers d s b q x ≡ true
        → (y : Cell N) × IsIn y new × (covers d s b q y ≡ true)) → IsByteAfter d s old new m n b q

pub empty_after : {N : Type 0} (d : Model) (s : Side) (old new : List (Cell N)) (m n : Memory)
    → ((b q : ℕ) → cell_at d s b q old ≡ None → m b q ≡ undefined)
    → ((b q : ℕ) → IsByteAfter d s old new m n b q) → (b q : ℕ) → cell_at d s b q new ≡ None → n b q ≡ undefined
empty_after {N = N} d s old new m n before step b q e = by_step (step b q)
  where
    not_both : (t : Bool) → t ≡ true → t ≡ false → ⊥
    not_both t h k = let c : true ≡ false = sym h ∙ k in absurd cc

    by_old : (o : Option (Cell N)) → cell_at d s b q old ≡ o
        → ((x : Cell N) → IsIn x old → covers d s b q x ≡ true
        → (y : Cell N) × IsIn y new × (covers d s b q y ≡ true)) → cell_at d s b q old ≡ None
    by_old None h f = h
    by_old (Some x) h f =
        let c = found_covers d s b q old x h in
        let y = f x c.0 c.1 in
        absurd (not_both (covers d s b q y.0) y.2 (not_covering d s b q new y.0 e y.1))

    by_step : IsByteAfter d s old new m n b q → n b q ≡ undefined
    by_step (gone h) = h
    by_step (covered y i h) = absurd (not_both (covers d s b q y) h (not_covering d s b q new y e i))
    by_step (stays g f) = g (before b q (by_old (cell_at d s b q old) refl f))

-- ---- cells of one value

module _ {N : Type 0} (D : Ops N) where
  pub one_side : (x : Cell N) (r : Side) → IsOneCell D x → IsOneCell D (record x { side = r })
  one_side x r (no_value e) = no_value e
  one_side x r (one_value t v) = one_value t v

  pub one_form : (g : Fate) (x : Cell N) → IsOneCell D x → IsOneCell D (reformed g x)
  one_form g x (no_value e) = no_value e
  one_form g x (one_value t v) = one_value t v
