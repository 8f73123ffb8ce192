-- Where a block is killed, a state stands for one pair of memories again.
use Rattle.std.proofs.Common.{◌≡◌, ◌⊎◌, inl, inr, ℕ, zero, suc, ◌+◌, ◌^◌, ◌≤◌, Bool, true, false, ◌&&◌, ◌||◌, not}
use Rattle.std.proofs.Common.{nat_eq, nat_le, nat_lt, cond, List, [], ◌∷◌, Option, Some, None, refl, sym, ◌∙◌, ap}
use Rattle.std.proofs.Common.{subst}
use Rattle.std.proofs.lemmas.Bool.{and_parts, eqb-true}
use Rattle.ep_int.specs.declared.types.Model.{Model}
use Rattle.ep_int.specs.declared.types.Scalar.{Scalar}
use Rattle.ep_int.specs.Types.{size_of}
use Rattle.ep_int.specs.Memory.{Memory, undefined, forgotten}
use Rattle.ep_layout.specs.declared.types.Leaf.{Leaf}
use Rattle.ep_bitslice.specs.declared.cell.Side.{Side}
use Rattle.ep_bitslice.specs.declared.cell.Side.TheVariants.{Left, Right}
use Rattle.ep_domain.specs.Domain.{Ops, Lawful}
use Rattle.ep_pointers.specs.Value.{pointers, one_target, only_null, only_place}
use Rattle.ep_cells.specs.declared.cell.Cell.{Cell}
use Rattle.ep_cells.specs.declared.cell.Value.{Value}
use Rattle.ep_cells.specs.declared.cell.Value.TheVariants.{Num, Ptr}
use Rattle.ep_cells.specs.Cells.{IsIn, first, later, share_memory, side_without, on_left, on_right, with_side}
use Rattle.ep_cells.specs.Cells.{parts_of, put_all, each_becomes}
use Rattle.ep_cells.specs.Forms.{reformed}
use Rattle.ep_cells.specs.Kill.{AreLeavesIn, leaf_at, is_in_leaf, cell_here, cells_from, entry_cells, has_target}
use Rattle.ep_cells.specs.Kill.{some_pointer, value_without, without_target, killed_part, killed_pointer}
use Rattle.ep_cells.specs.Kill.{left_by_kill, fate_by_kill, killed_cells}
use Rattle.ep_cells.specs.Look.{covers}
use Rattle.ep_cells.specs.States.{Known}
use Rattle.ep_cells.specs.Meaning.{Memories}
use Rattle.ep_cells.specs.Memories.{IsKilled, AreKilled}
use Rattle.ep_cells.proofs.Gathered.{of_kills}
use Rattle.ep_cells.proofs.Kill.{AfterKill, away, alive, lost, after_kill}
use Rattle.ep_cells.proofs.Lists.{in_append, in_each, in_map, map_in, in_put_all}
use Rattle.ep_singles.specs.Cells.{IsOneValue, one_pointer, IsOneCell, no_value, one_value, IsOne}
use Rattle.ep_singles.specs.Laws.{IsMachine}
use Rattle.ep_singles.proofs.Covers.{has_side, share_left, share_right, keeps_side, side_covers, part_covers}
use Rattle.ep_singles.proofs.Covers.{kept_in, IsByteAfter, gone, stays, empty_after, one_side, one_form}

-- ---- the cells of a block that is entered have no value

here_none : {N : Type 0} (s : Side) (b q : ℕ) (o : Option Scalar) (inside : Bool) (y : Cell N)
    → IsIn y (cell_here s b q o inside) → y.value ≡ None
here_none s b q (Some w) inside _ (first _) = refl
here_none s b q (Some w) inside y (later _ _ h) = elim h [ ]
here_none s b q None true y h = elim h [ ]
here_none s b q None false _ (first _) = refl
here_none s b q None false y (later _ _ h) = elim h [ ]

entry_none : {N : Type 0} (d : Model) (s : Side) (b : ℕ) (leaves : List Leaf) (q n : ℕ) (y : Cell N)
    → IsIn y (cells_from d s b leaves q n) → y.value ≡ None
entry_none d s b leaves q zero y h = elim h [ ]
entry_none d s b leaves q (suc n) y h =
    by_part (in_append y (cell_here s b q (leaf_at leaves q) (is_in_leaf d leaves q)) (cells_from d s b leaves
    (q + 1) n) h)
    (entry_none d s b leaves (q + 1) n y)
  where
    by_part : IsIn y (cell_here s b q (leaf_at leaves q) (is_in_leaf d leaves q)) ⊎ IsIn y (cells_from d s b leaves
        (q + 1) n)
        → (IsIn y (cells_from d s b leaves (q + 1) n) → y.value ≡ None) → y.value ≡ None
    by_part (inl i) f = here_none s b q (leaf_at leaves q) (is_in_leaf d leaves q) y i
    by_part (inr i) f = f i

-- ---- a pointer into the block has no other member

module _ {N : Type 0} (D : Ops N) where
  lost_value : (b : ℕ) (o : Option (Value N)) → IsOneValue D o → has_target b o ≡ true → value_without b o ≡ None
  lost_value b None i h = elim i [ ]
  lost_value b (Some (Num n)) i h = absurd (let d : false ≡ true = h in cc)
  lost_value b (Some (Ptr p)) (one_pointer _ (only_null e)) h =
      absurd (let d : false ≡ true = subst (λ p. has_target b (Some (Ptr p)) ≡ true) e h in cc)
  lost_value b (Some (Ptr p)) (one_pointer _ (only_place c n z e i)) h =
      ap (λ p. value_without b (Some (Ptr p))) e ∙ by_block (nat_eq c b) refl
      (subst (λ p. has_target b (Some (Ptr p)) ≡ true) e h)
    where
      by_block : (t : Bool) → nat_eq c b ≡ t → (t || false) ≡ true
          → value_without b (Some (Ptr (one_target c n))) ≡ None
      by_block true f g = ap (λ t. some_pointer (pointers false (cond (not t) ((c, n) ∷ []) []))) f
      by_block false f g = absurd (let d : false ≡ true = g in cc)

  kill_each : (s : Side) (b : ℕ) (x y : Cell N) → IsOneCell D x → AfterKill s b x y → IsOneCell D y
  kill_each s b x y h (away e f g) = subst (IsOneCell D) (sym e) h
  kill_each s b x y h (alive r e i) = subst (IsOneCell D) (sym e) (one_side D x r h)
  kill_each s b x y h (lost e f l) = subst (IsOneCell D) (sym l.is) (no_value (by_cell h))
    where
      by_cell : IsOneCell D x → value_without b x.value ≡ None
      by_cell (no_value n) = ap (value_without b) n
      by_cell (one_value t v) = lost_value b x.value v f

-- ---- the cells that had a byte

part_same : {N : Type 0} (d : Model) (s q : Side) (b c p : ℕ) (z : Cell N) (t : Bool)
    → covers d s c p z ≡ true → covers d s c p (cond t (without_target b z) z) ≡ true
part_same d s q b c p z true h = h
part_same d s q b c p z false h = h

-- on a machine whose side isn't killed, or of another block
kill_covers : {N : Type 0} (d : Model) (s q : Side) (b c p : ℕ) (x : Cell N) → IsMachine s
    → (share_memory q s ≡ false) ⊎ (nat_eq c b ≡ false) → covers d s c p x ≡ true
    → (y : Cell N) × IsIn y (left_by_kill q b x) × (covers d s c p y ≡ true)
kill_covers {N = N} d s q b c p x i far h = by_block (nat_eq x.block b) refl
  where
    all : (has_side x.side s ≡ true)
        × ((nat_eq x.block c && (nat_le x.offset p && nat_lt p (x.offset + size_of d x.what))) ≡ true)
    all = and_parts (has_side x.side s)
        (nat_eq x.block c && (nat_le x.offset p && nat_lt p (x.offset + size_of d x.what))) h

    in_block : x.block ≡ c
    in_block = eqb-true x.block c
        (and_parts (nat_eq x.block c) (nat_le x.offset p && nat_lt p (x.offset + size_of d x.what)) all.1).0

    by_rest : (o : Option Side) → side_without q x.side ≡ o
        → (r : Side) × (side_without q x.side ≡ Some r) × (has_side r s ≡ true)
        → (y : Cell N) × IsIn y (with_side x o) × (covers d s c p y ≡ true)
    by_rest None e r = absurd (let g : None ≡ Some r.0 = sym e ∙ r.1 in cc)
    by_rest (Some t) e r = (
      record x { side = t },
      first [],
      side_covers d s c p x t h
          (subst (λ t. has_side t s ≡ true) (same r.0 t (sym r.1 ∙ e)) r.2),
    )
      where
        same : (a b : Side) → Some a ≡ Some b → a ≡ b
        same a b g = cc

    by_far : (share_memory q s ≡ false) ⊎ (nat_eq c b ≡ false) → nat_eq x.block b ≡ true
        → (y : Cell N) × IsIn y (with_side x (side_without q x.side)) × (covers d s c p y ≡ true)
    by_far (inl f) e = by_rest (side_without q x.side) refl (keeps_side q x.side s i all.0 f)
    by_far (inr f) e =
        absurd (let g : true ≡ false = sym e ∙ (ap (λ z. nat_eq z b) in_block ∙ f) in cc)

    by_pointer : (o : Option Side) → (y : Cell N) × IsIn y (killed_pointer q b x o) × (covers d s c p y ≡ true)
    by_pointer None = (without_target b x, first [], h)
    by_pointer (Some r) =
        let z = part_covers d s c p x x.side i h in (
          killed_part q b z.0,
          map_in (killed_part q b) z.0 (parts_of x) z.1,
          part_same d s q b c p z.0 (share_memory q z.0.side) z.2,
        )

    by_target : (t : Bool) → (y : Cell N)
        × IsIn y (cond t (killed_pointer q b x (side_without q x.side)) (x ∷ [])) × (covers d s c p y ≡ true)
    by_target true = by_pointer (side_without q x.side)
    by_target false = (x, first [], h)

    by_block : (t : Bool) → nat_eq x.block b ≡ t → (y : Cell N)
        × IsIn y (cond t (with_side x (side_without q x.side)) (cond (has_target b x.value)
        (killed_pointer q b x (side_without q x.side)) (x ∷ []))) × (covers d s c p y ≡ true)
    by_block true e = by_far far e
    by_block false e = by_target (has_target b x.value)

-- ---- what is undefined

module _ {N : Type 0} (d : Model) (s q : Side) (b : ℕ) (leaves : List Leaf) (size : ℕ) (cs : List (Cell N))
    (m n : Memory)
    (i : IsMachine s) (dead : Bool) (same : share_memory q s ≡ dead) (k : IsKilled b dead m n) where
  after_step : (c p : ℕ) → ((share_memory q s ≡ false) ⊎ (nat_eq c b ≡ false)) → (m c p ≡ undefined
      → n c p ≡ undefined)
      → IsByteAfter d s cs (killed_cells d q b leaves size cs) m n c p
  after_step c p far g =
      stays g
      (λ x j h. let y = kill_covers d s q b c p x i far h in
      (_, kept_in (fate_by_kill q b) (entry_cells d q b leaves size) (left_by_kill q b) cs x y.0 j y.1, y.2))

  by_dead : (t : Bool) → dead ≡ t → (c p : ℕ) → IsByteAfter d s cs (killed_cells d q b leaves size cs) m n c p
  by_dead false e c p =
      after_step c p (inl (same ∙ e)) (λ h. k.alive e c p ∙ h)
  by_dead true e c p = by_block (nat_eq c b) refl
    where
      by_block : (t : Bool) → nat_eq c b ≡ t → IsByteAfter d s cs (killed_cells d q b leaves size cs) m n c p
      by_block true f = gone (k.gone e c p ∙ ap (λ t. cond (t || false) undefined (forgotten (b ∷ []) (m c p))) f)
      by_block false f =
          after_step c p (inr f)
          (λ h. k.gone e c p
          ∙ (ap (λ t. cond (t || false) undefined (forgotten (b ∷ []) (m c p))) f
          ∙ ap (forgotten (b ∷ [])) h))

  pub kill_step : (c p : ℕ) → IsByteAfter d s cs (killed_cells d q b leaves size cs) m n c p
  kill_step c p = by_dead dead refl c p

pub kills_keep_one : {N : Type 0} (D : Ops N) → Lawful D → (k : Known N) (m n : Memories) → IsOne D k m → (s : Side)
    (b : ℕ) (leaves : List Leaf) (size : ℕ) → AreLeavesIn k.model 0 size leaves → size ≤ 2 ^ 32 → AreKilled s b m n
    → IsOne D (record k { cells = killed_cells k.model s b leaves size k.cells }) n
kills_keep_one {N = N} D law k m n one s b leaves size lie small dead = record {
  cells = (of_kills D law).cells k.model s b leaves size k.cells one.cells lie small;
  each = λ y i.
      let z = in_map reformed_by y put_list i in
      subst (IsOneCell D) (sym z.is) (one_form D (fate_by_kill s b) z.origin (by_origin z.origin z.is_in));
  left_outside = empty_after k.model Left k.cells (killed_cells k.model s b leaves size k.cells) m.left n.left
      one.left_outside
      (kill_step k.model Left s b leaves size k.cells m.left n.left tt (on_left s) (share_left s) dead.left);
  right_outside = empty_after k.model Right k.cells (killed_cells k.model s b leaves size k.cells) m.right n.right
      one.right_outside
      (kill_step k.model Right s b leaves size k.cells m.right n.right tt (on_right s) (share_right s) dead.right);
  holds = (of_kills D law).holds k s b leaves size one.cells lie small m n one.holds dead;
}
  where
    put_list : List (Cell N)
    put_list = put_all (entry_cells k.model s b leaves size) (each_becomes (left_by_kill s b) k.cells)

    reformed_by : Cell N → Cell N
    reformed_by = reformed (fate_by_kill s b)

    by_origin : (z : Cell N) → IsIn z put_list → IsOneCell D z
    by_origin z j =
        from (in_put_all (entry_cells k.model s b leaves size) z (each_becomes (left_by_kill s b) k.cells) j)
      where
        from : IsIn z (entry_cells k.model s b leaves size) ⊎ IsIn z (each_becomes (left_by_kill s b) k.cells)
            → IsOneCell D z
        from (inl h) = no_value (entry_none k.model s b leaves 0 size z h)
        from (inr h) =
            let x = in_each (left_by_kill s b) z k.cells h in
            kill_each D s b x.origin z (one.each x.origin x.is_in) (after_kill s b x.origin z x.becomes)
