-- An object without bytes lies at no place inside of a leaf.
use Rattle.std.proofs.Common.{◌≡◌, ℕ, zero, suc, ◌+◌, ◌-◌, ◌*◌, ◌/◌, ◌%◌, ◌<◌, ◌≤◌, ℤ, pos, ◌≤ℤ◌, true, false, ◌⊎◌}
use Rattle.std.proofs.lemmas.Bool.{cases_lt}
use Rattle.ep_tame_values.proofs.Lines.{on_step}
use Rattle.std.proofs.Common.{inl, inr, ⊎_elim, List, [], ◌∷◌, Some, sym, ap, ◌∙◌, subst}
use Rattle.std.proofs.Common.{arith, eq-zero-or-pos}
use Rattle.std.specs.Prelude.{unwrap_or}
use Rattle.std.proofs.Math.Nat.{mod-eq_of_lt, mul-add, mul-zero, mul-suc, zero-mul, div-add-mod}
use Rattle.std.proofs.lemmas.Int.{ints}
use Rattle.ep_int.proofs.Basics.{some-injective}
use Rattle.ep_layout.specs.declared.types.Leaf.{Leaf}
use Rattle.ep_layout.specs.Table.{Table, IsBuilt, size, leaves}
use Rattle.ep_layout.proofs.Ordered.{leaves_ordered}
use Rattle.ep_domain.specs.Domain.{Ops, Holds, Lawful}
use Rattle.ep_core.specs.Program.{Program, Place, Block}
use Rattle.ep_core.specs.WellFormed.{blocks_fit}
use Rattle.ep_kinds.specs.Tame.{are_tame_types}
use Rattle.ep_kinds.specs.Rows.{Row, HasScalar}
use Rattle.ep_tame_laws.proofs.Laid.{laid}
use Rattle.ep_tame_parts.specs.Laws.{cuts_leaf}
use Rattle.ep_tame_parts.proofs.LeafLists.{BeginFrom, ordered_end, none_cut, behind_cut}
use Rattle.ep_tame_parts.proofs.Same.{parts_have_cells}
use Rattle.ep_tame_values.specs.Offsets.{EndsInStep, LieOn}
use Rattle.ep_tame_values.proofs.Alone.{is_stride}
use Rattle.ep_cell_ranges.specs.Spots.{Spot}
use Rattle.ep_tame_accesses.specs.Laws.{HasObject}
use Rattle.ep_tame_places.specs.Places.{LiesAt}
use Rattle.ep_tame_places.proofs.Blocks.{block_at}
use Rattle.ep_tame_clears.proofs.Empty.{IsUncut}

-- ---- offsets of what has no bytes: the block's ends, and the row

abbrev IsEdge : (bytes : ℕ) → Row → ℕ → Type 0
IsEdge bytes r q = (q ≡ 0) ⊎ ((q ≡ bytes) ⊎ ((j : ℕ) × (j ≤ r.most) × (q ≡ r.first + r.step * j)))

-- one before it in the first step is 0
before_row : (f q s : ℕ) → f ≤ s → q < f → q % s ≡ f % s → q ≡ 0
before_row f q s l below same =
    let own : q % s ≡ q = mod-eq_of_lt (omega (arith, l, below)) in
    by_turns (f / s) (div-add-mod f s) own
  where
    by_turns : (t : ℕ) → s * t + f % s ≡ f → q % s ≡ q → q ≡ 0
    by_turns zero e own = let z = mul-zero s in absurd (omega (arith, e, own, z, same, below))
    by_turns (suc t) e own = let z = mul-suc s t in omega (arith, e, own, z, same, l)

none_of : (s m : ℕ) → s ≡ 0 → s * m ≡ 0
none_of s m e = ap (λ x. x * m) e ∙ zero-mul m

module _ {N : Type 0} (D : Ops N) (law : Lawful D) (t : Table) (bytes : ℕ) (r : Row) (n : N) (q : ℕ)
    (h : LieOn D t bytes r n) (sz : size t r.ty ≡ Some 0) (held : Holds D n (pos q)) (inside : q ≤ bytes) where
  begins : (first : ℕ) → pos first ≤ℤ (D.range n).0 → first ≤ q
  begins first i = let k = (law.range_encloses n (pos q) held).low in down first q (D.range n).0 i k
    where
      down : (f q : ℕ) (v : ℤ) → pos f ≤ℤ v → v ≤ℤ pos q → f ≤ q
      down f q v h k = omega (arith, ints)

  ends : (last : ℕ) → (D.range n).1 ≤ℤ pos last → q ≤ last
  ends last i = let k = (law.range_encloses n (pos q) held).high in up last q (D.range n).1 i k
    where
      up : (l q : ℕ) (v : ℤ) → v ≤ℤ pos l → pos q ≤ℤ v → q ≤ l
      up l q v h k = omega (arith, ints)

  -- where the row has steps
  stepped : 0 < r.step → IsEdge bytes r q
  stepped p = by_low (cases_lt q r.first) h.low
    where
      same : q % r.step ≡ r.first % r.step
      same = law.stride_holds n (r.first % r.step) r.step (pos q) (is_stride r.first r.step p h.small) (h.stride p) held

      on_it : r.first ≤ q → q < r.first + r.step * (r.most + 1) → IsEdge bytes r q
      on_it l below =
          inr (inr (on_step r.first q r.step r.most (r.first / r.step) (q / r.step) (r.first % r.step) p l
          (div-add-mod r.first r.step) (subst (λ x. r.step * (q / r.step) + x ≡ q) same (div-add-mod q r.step)) below))

      below_last : (f s m : ℕ) → 0 < s → q ≤ f + s * m → q < f + s * (m + 1)
      below_last f s m some l =
          let e : s * (m + 1) ≡ s * m + s = mul-add s m 1 ∙ ap (λ x. s * m + x) (omega arith) in
          omega (arith, e, l, some)

      by_end : r.first ≤ q → (q < bytes) ⊎ (bytes ≤ q) → bytes ≤ r.first + r.step * (r.most + 1) → IsEdge bytes r q
      by_end l (inl a) e = on_it l (less q bytes (r.first + r.step * (r.most + 1)) a e)
        where
          less : (q b x : ℕ) → q < b → b ≤ x → q < x
          less q b x h k = omega (arith, h, k)
      by_end l (inr a) e = inr (inl (omega (arith, a, inside)))

      by_high : r.first ≤ q
          → ((D.range n).1 ≤ℤ pos (r.first + r.step * r.most)) ⊎ (bytes ≤ r.first + r.step * (r.most + 1))
          → IsEdge bytes r q
      by_high l (inl i) = on_it l (below_last r.first r.step r.most p (ends (r.first + r.step * r.most) i))
      by_high l (inr e) = by_end l (cases_lt q bytes) e

      by_low : (q < r.first) ⊎ (r.first ≤ q) → EndsInStep t r ⊎ (pos r.first ≤ℤ (D.range n).0) → IsEdge bytes r q
      by_low (inr l) low = by_high l h.high
      by_low (inl b) (inl i) =
          let e = i 0 sz in inl (before_row r.first q r.step (omega (arith, e)) b same)
      by_low (inl b) (inr i) = let l = begins r.first i in absurd (omega (arith, b, l))

  -- and where it has none
  still : r.step ≡ 0 → IsEdge bytes r q
  still none = by_ends h.low h.high
    where
      last : r.step * r.most ≡ 0
      last = none_of r.step r.most none

      behind : r.step * (r.most + 1) ≡ 0
      behind = none_of r.step (r.most + 1) none

      one : r.step * 0 ≡ 0
      one = none_of r.step 0 none

      by_ends : EndsInStep t r ⊎ (pos r.first ≤ℤ (D.range n).0)
          → ((D.range n).1 ≤ℤ pos (r.first + r.step * r.most)) ⊎ (bytes ≤ r.first + r.step * (r.most + 1))
          → IsEdge bytes r q
      by_ends (inl i) (inl e) =
          let a = i 0 sz in
          let b = ends (r.first + r.step * r.most) e in
          inl (omega (arith, a, b, last, none))
      by_ends (inl i) (inr e) = let a = i 0 sz in inl (omega (arith, a, e, behind, none, inside))
      by_ends (inr i) (inl e) =
          let a = begins r.first i in
          let b = ends (r.first + r.step * r.most) e in
          inr (inr (0, omega arith, omega (arith, a, b, last, one)))
      by_ends (inr i) (inr e) =
          let a = begins r.first i in inr (inl (omega (arith, a, e, behind, inside)))

  pub edge : IsEdge bytes r q
  edge = ⊎_elim (λ e. still e) (λ p. stepped p) (eq-zero-or-pos r.step)

-- ---- no leaf is cut there

all_begin : (ls : List Leaf) → BeginFrom 0 ls
all_begin [] = tt
all_begin (l ∷ ls) = (omega arith, all_begin ls)

-- where an object begins, whatever its size is
begin_cut : (t : Table) → IsBuilt t → are_tame_types t ≡ true → (w q ty n : ℕ) → HasScalar t w q ty
    → size t ty ≡ Some n → cuts_leaf t.model (leaves t w) q ≡ false
begin_cut t built tame w q ty n at sz =
    let e : q + 0 ≡ q = omega arith in
    subst (λ x. cuts_leaf t.model (leaves t w) x ≡ false) e
    ((parts_have_cells t built tame w q ty n at sz).cut 0 (omega arith)
    ∙ none_cut t.model 0 0 (leaves t ty) (all_begin (leaves t ty)) (omega arith))

pub object_uncut : (p : Program) → IsBuilt p.types → are_tame_types p.types ≡ true → (live : List ℕ) (ty n : ℕ)
    → size p.types ty ≡ Some n → (q : Spot) → (o : HasObject p live ty q)
    → cuts_leaf p.types.model (leaves p.types o.of_block.ty) q.1 ≡ false
object_uncut p built tame live ty n sz q o = begin_cut p.types built tame o.of_block.ty q.1 ty n o.stands sz

module _ {N : Type 0} (D : Ops N) (law : Lawful D) (p : Program) (built : IsBuilt p.types)
    (tame : are_tame_types p.types ≡ true) (fit : blocks_fit p.types p.blocks ≡ true) (live : List ℕ) (a : Place)
    (ty : ℕ) (sz : size p.types ty ≡ Some 0) where
  abbrev Uncut : ℕ → ℕ → Type 0
  Uncut w q = cuts_leaf p.types.model (leaves p.types w) q ≡ false

  begin_uncut : (w q : ℕ) → q ≡ 0 → Uncut w q
  begin_uncut w q e = none_cut p.types.model 0 q (leaves p.types w) (all_begin (leaves p.types w)) (omega (arith, e))

  end_uncut : (w z q : ℕ) → size p.types w ≡ Some z → q ≡ z → Uncut w q
  end_uncut w z q own e =
      let s = ap (λ o. unwrap_or o 0) own in
      behind_cut p.types.model (unwrap_or (size p.types w) 0) q (leaves p.types w)
      (ordered_end p.types.model 0 (unwrap_or (size p.types w) 0) (leaves p.types w) (leaves_ordered p.types w))
      (omega (arith, s, e))

  pub edge_uncut : (b q : ℕ) (n : N) (l : LiesAt D p live a ty b n) → D.holds n (pos q) ≡ true
      → q + 0 ≤ l.of_block.size → IsUncut p (b, q)
  edge_uncut b q n l held inside x there =
      subst (λ (y : Block). Uncut y.ty q) (some-injective (sym l.there ∙ there))
      (by_edge (edge D law p.types l.of_block.size l.row n q l.lies own held (omega (arith, inside))))
    where
      own : size p.types l.row.ty ≡ Some 0
      own = ap (size p.types) l.type ∙ sz

      by_edge : IsEdge l.of_block.size l.row q → Uncut l.of_block.ty q
      by_edge (inl e) = begin_uncut l.of_block.ty q e
      by_edge (inr (inl e)) =
          end_uncut l.of_block.ty l.of_block.size q (block_at p fit b l.of_block l.there).sized e
      by_edge (inr (inr j)) =
          begin_cut p.types built tame l.of_block.ty q ty 0
          (subst (λ y. HasScalar p.types l.of_block.ty q y) l.type
          (subst (λ y. HasScalar p.types l.of_block.ty y l.row.ty) (sym j.2)
          (laid p.types b l.of_block.ty l.of_block.size a l.row l.is_row j.0 j.1))) sz
