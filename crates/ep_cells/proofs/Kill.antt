-- Killed blocks: what is left of cells, the block's new cells, and that all of it holds.
use Rattle.std.proofs.Common.{◌≡◌, ℕ, ◌+◌, ◌*◌, ◌^◌, ◌≤◌, pos, Bool, true, false, ◌&&◌, ◌||◌, nat_eq, nat_lt, cond}
use Rattle.ep_cells.proofs.Write.{cell_on, own_rest}
use Rattle.ep_cells.proofs.Changes.{form_on}
use Rattle.std.proofs.Common.{List, [], ◌∷◌, map, ⊎_elim, Option, Some, None, IfSome, IsSomeAnd, refl, sym, ◌∙◌, ap}
use Rattle.std.proofs.Common.{subst, arith}
use Rattle.std.specs.List.{list_any}
use Rattle.std.proofs.lemmas.Bool.{and_left, and_right, or_parts, or_left, or_right, eqb-true, eq-eqb, ne_eqb}
use Rattle.std.proofs.lemmas.Bool.{false_from_ne_true, both_ways, cases_Bool}
use Rattle.ep_int.specs.declared.types.Order.{Order}
use Rattle.ep_int.specs.declared.types.Model.{Model}
use Rattle.ep_int.specs.declared.types.IntType.{IntType}
use Rattle.ep_int.specs.declared.types.Scalar.{Scalar}
use Rattle.ep_int.specs.declared.types.Scalar.TheVariants.{Int, Pointer}
use Rattle.ep_int.specs.Types.{size_of}
use Rattle.ep_int.specs.Memory.{undefined, Memory, Value as Datum, int, null, pointer}
use Rattle.ep_layout.specs.declared.types.Leaf.{Leaf}
use Rattle.ep_bitslice.specs.declared.cell.Side.{Side}
use Rattle.ep_bitslice.specs.declared.cell.Side.TheVariants.{Left, Right, Shared}
use Rattle.ep_bitslice.specs.declared.cell.CellName.{CellName}
use Rattle.ep_bitslice.specs.declared.segment.Segment.{Segment}
use Rattle.ep_bitslice.specs.Segments.{number}
use Rattle.ep_domain.specs.Domain.{Ops, Lawful}
use Rattle.ep_domain.specs.Domain.{Holds as HoldsNumber}
use Rattle.ep_pointers.specs.Value.{Target, Pointers, IsRising, offset_at, HoldsPointer, null_pointer, into, without}
use Rattle.ep_pointers.proofs.Gathered.{pointer_laws}
use Rattle.ep_cells.specs.declared.cell.Cell.{Cell}
use Rattle.ep_cells.specs.declared.cell.Value.{Value}
use Rattle.ep_cells.specs.declared.cell.Value.TheVariants.{Num, Ptr}
use Rattle.ep_cells.specs.Cells.{on_left, on_right, share_memory, side_without, place_of, touches, meets, IsNamed}
use Rattle.ep_cells.specs.Cells.{IsIn, first, later, put_all, each_becomes, with_side, parts_on, parts_of}
use Rattle.ep_cells.specs.States.{IsOfSort, HasRisingBlocks, Fits, IsThere, HasForm, EachPair, AreApart}
use Rattle.ep_cells.specs.States.{IsCell, AreCells}
use Rattle.ep_cells.specs.Meaning.{Memories, Allows, HasBytes, IsUndefined, StandsAt, Says, numbers_of, HasNumber}
use Rattle.ep_cells.specs.Meaning.{FormSays, In}
use Rattle.ep_cells.specs.Kill.{undefined_cell, entry_cells, AreLeavesIn, has_target, some_pointer, value_without}
use Rattle.ep_cells.specs.Kill.{without_target, killed_part, killed_pointer, left_by_kill, fate_by_kill, killed_cells}
use Rattle.ep_cells.specs.Memories.{IsKilled, AreKilled}
use Rattle.ep_cells.proofs.Lists.{in_each, each_in, in_map, in_put_all, put_all_keeps, each_at, pairs_each}
use Rattle.ep_cells.proofs.Lists.{pairs_put}
use Rattle.ep_cells.proofs.Bytes.{SameBytes, bytes_same}
use Rattle.ep_cells.proofs.Kept.{bytes_kept, NotInto, bytes_killed, killed_there, part_killed}
use Rattle.ep_cells.proofs.Places.{at, before_from, in_block, Within, within_itself, IsRest, rest_is, IsMadeFrom}
use Rattle.ep_cells.proofs.Places.{apart_made, before_rest, put_before_cell, put_after_cell}
use Rattle.ep_cells.proofs.Changes.{IsKept, kept_says, IsChange, change_cells, change_holds}
use Rattle.ep_cells.proofs.Write.{keeps_kept, numbers_kept, Follows, follows_by}
use Rattle.ep_cells.proofs.Entry.{new_from, new_pairs}
use Rattle.ep_cells.proofs.Both.{bytes_weaker}
use Rattle.ep_cells.proofs.Parts.{rest_of_unshared, IsPart, part_is, none_within}

-- ---- values

no_target : {N : Type 0} (ts : List (Target N)) (b : ℕ) → list_any (λ t. nat_eq t.0 b) ts ≡ false
    → offset_at ts b ≡ None
no_target [] b h = refl
no_target (t ∷ ts) b h =
    let p = or_parts (nat_eq t.0 b) (list_any (λ t. nat_eq t.0 b) ts) h in
    ap (λ z. cond z (Some t.1) (offset_at ts b)) p.0 ∙ no_target ts b p.1

-- a pointer that a value allows is into a block that it has
into_by : {N : Type 0} (D : Ops N) (p : Pointers N) (b c o : ℕ) → HoldsPointer D p (into c o)
    → list_any (λ t. nat_eq t.0 b) p.targets ≡ false → nat_eq c b ≡ false
into_by D p b c o h e =
    false_from_ne_true (nat_eq c b) (λ k.
    let same : c ≡ b = eqb-true c b k in
    let none : offset_at p.targets c ≡ None = ap (offset_at p.targets) same ∙ no_target p.targets b e in
    absurd (subst (λ z. IsSomeAnd z (λ n. HoldsNumber D n (pos o))) none h))

not_into_by : {N : Type 0} (D : Ops N) (w : Scalar) (u : Option (Value N)) (maybe : Bool) (b c o : ℕ)
    → Allows D w u maybe (Some (pointer c o)) → has_target b u ≡ false → nat_eq c b ≡ false
not_into_by D w None maybe b c o a h = absurd (let e : Some (pointer c o) ≡ None = a in cc)
not_into_by D (Int t) (Some (Num n)) maybe b c o a h = absurd a
not_into_by D Pointer (Some (Num n)) maybe b c o a h = absurd a
not_into_by D (Int t) (Some (Ptr p)) maybe b c o a h = absurd a
not_into_by D Pointer (Some (Ptr p)) maybe b c o a h = into_by D p b c o a h

pub not_into : {N : Type 0} (D : Ops N) (w : Scalar) (u : Option (Value N)) (maybe : Bool) (b : ℕ) (v : Option Datum)
    → Allows D w u maybe v → has_target b u ≡ false → NotInto b v
not_into D w u maybe b v a h = record {
  other = λ c o e. not_into_by D w u maybe b c o (subst (Allows D w u maybe) e
      a) h;
}

-- ---- cells that are kept

kept_away : {N : Type 0} (D : Ops N) (os : Order × Order) (d : Model) (m n : Memories) (s : Side) (b : ℕ) (x : Cell
    N) → AreKilled s b m n
    → nat_eq x.block b ≡ false → has_target b x.value ≡ false → IsKept D os d m n x x
kept_away D os d m n s b x k e t = record {
  side = x.side;
  is = refl;
  within = within_itself x.side;
  stands = λ v a h. record {
    left = λ i. bytes_kept os.0 m.left n.left (size_of d x.what) x.what x.maybe x.block x.offset v
        (bytes_killed b x.block x.offset (size_of d x.what) v m.left n.left (on_left s) k.left e (not_into D x.what
        x.value x.maybe b v a t)) (h.left i);
    right = λ i. bytes_kept os.1 m.right n.right (size_of d x.what) x.what x.maybe x.block x.offset v
        (bytes_killed b x.block x.offset (size_of d x.what) v m.right n.right (on_right s) k.right e (not_into D
        x.what x.value x.maybe b v a t)) (h.right i);
  };
}

same_alive : (b : ℕ) (dead : Bool) (m n : Memory) (c q size : ℕ) → IsKilled b dead m n → dead ≡ false
    → SameBytes m n c q size
same_alive b dead m n c q size k e = record { same = λ j l. k.alive e c (q + j) }

kept_alive : {N : Type 0} (D : Ops N) (os : Order × Order) (d : Model) (m n : Memories) (s : Side) (b : ℕ) (x : Cell
    N) (r : Side) → AreKilled s b m n
    → IsRest s x.side r → IsKept D os d m n x (record x { side = r })
kept_alive D os d m n s b x r k i = record {
  side = r;
  is = refl;
  within = i.within;
  stands = λ v a h. record {
    left = λ e. bytes_same os.0 m.left n.left (size_of d x.what) x.what x.maybe x.block x.offset v
        (same_alive b (on_left s) m.left n.left x.block x.offset (size_of d x.what) k.left (i.left e)) (h.left
        (i.within.left e));
    right = λ e. bytes_same os.1 m.right n.right (size_of d x.what) x.what x.maybe x.block x.offset v
        (same_alive b (on_right s) m.right n.right x.block x.offset (size_of d x.what) k.right (i.right e)) (h.right
        (i.within.right e));
  };
}

-- ---- pointer cells that lose the block

sort_by : {N : Type 0} (w : Scalar) (p q : Pointers N) (t : Bool) → IsOfSort w (Some (Ptr p))
    → IsOfSort w (cond t (Some (Ptr q)) None)
sort_by (Int i) p q t h = absurd h
sort_by Pointer p q true h = tt
sort_by Pointer p q false h = tt

sort_without : {N : Type 0} (b : ℕ) (w : Scalar) (u : Option (Value N)) → IsOfSort w u
    → IsOfSort w (value_without b u)
sort_without b w None h = tt
sort_without b w (Some (Num n)) h = h
sort_without b w (Some (Ptr p)) h = sort_by w p (without b p) ((without b p).null || list_any (λ t. true) (without b
    p).targets) h

rising_by : {N : Type 0} (q : Pointers N) (t : Bool) → IsRising q.targets
    → HasRisingBlocks (cond t (Some (Ptr q)) None)
rising_by q true h = h
rising_by q false h = tt

rising_without : {N : Type 0} (D : Ops N) → Lawful D → (b : ℕ) (u : Option (Value N)) → HasRisingBlocks u
    → HasRisingBlocks (value_without b u)
rising_without D law b None h = tt
rising_without D law b (Some (Num n)) h = tt
rising_without D law b (Some (Ptr p)) h =
    rising_by (without b p) ((without b p).null || list_any (λ t. true) (without b p).targets) ((pointer_laws D
    law).without_rises b p h)

-- a value that holds something is there
some_target : {N : Type 0} (D : Ops N) (ts : List (Target N)) (c : ℕ) (P : N → Type 0)
    → IsSomeAnd (offset_at ts c) P → list_any (λ t. true) ts ≡ true
some_target D [] c P h = absurd h
some_target D (t ∷ ts) c P h = refl

null_left : {N : Type 0} (D : Ops N) (p : Pointers N) → HoldsPointer D p null_pointer → some_pointer p ≡ Some (Ptr p)
null_left D p h = ap (λ t. cond t (Some (Ptr p)) None) (or_left p.null (list_any (λ t. true) p.targets) h)

into_left : {N : Type 0} (D : Ops N) (p : Pointers N) (c o : ℕ) → HoldsPointer D p (into c o)
    → some_pointer p ≡ Some (Ptr p)
into_left D p c o h = ap (λ t. cond t (Some (Ptr p)) None) (or_right p.null (list_any (λ t. true) p.targets)
    (some_target D p.targets c (λ n. HoldsNumber D n (pos o)) h))

nothing_allowed : {N : Type 0} (D : Ops N) (w : Scalar) (u : Option (Value N)) → Allows D w u true None
nothing_allowed D w None = refl
nothing_allowed D w (Some u) = refl

-- what is allowed and isn't into the block still is
allowed_without : {N : Type 0} (D : Ops N) → Lawful D
    → (w : Scalar) (u : Option (Value N)) (maybe : Bool) (b : ℕ) (v : Datum) → NotInto b (Some v)
    → Allows D w u maybe (Some v) → Allows D w (value_without b u) true (Some v)
allowed_without D law w None maybe b v i h = absurd (let e : Some v ≡ None = h in cc)
allowed_without D law (Int t) (Some (Num n)) maybe b (int z) i h = h
allowed_without D law (Int t) (Some (Num n)) maybe b null i h = h
allowed_without D law (Int t) (Some (Num n)) maybe b (pointer c q) i h = h
allowed_without D law Pointer (Some (Num n)) maybe b (int z) i h = absurd h
allowed_without D law Pointer (Some (Num n)) maybe b null i h = absurd h
allowed_without D law Pointer (Some (Num n)) maybe b (pointer c q) i h = absurd h
allowed_without D law (Int t) (Some (Ptr p)) maybe b (int z) i h = absurd h
allowed_without D law (Int t) (Some (Ptr p)) maybe b null i h = absurd h
allowed_without D law (Int t) (Some (Ptr p)) maybe b (pointer c q) i h = absurd h
allowed_without D law Pointer (Some (Ptr p)) maybe b (int z) i h = absurd h
allowed_without D law Pointer (Some (Ptr p)) maybe b null i h =
    let k = ((pointer_laws D law).without_loses b p null_pointer).1 (h, λ e. e) in
    subst (λ u. Allows D Pointer u true (Some null)) (sym (null_left D (without b p) k)) k
allowed_without D law Pointer (Some (Ptr p)) maybe b (pointer c q) i h =
    let k = ((pointer_laws D law).without_loses b p (into c q)).1 (
      h,
      λ e. both_ways (nat_eq c b) (i.other c q refl)
          (eq-eqb c b e),
    ) in
    subst (λ u. Allows D Pointer u true (Some (pointer c q))) (sym (into_left D (without b p) c q k)) k

-- the bytes of a pointer into the block are undefined
lost_bytes : (o : Order) (b c p q size : ℕ) (w : Scalar) (maybe : Bool) (m n : Memory) → IsKilled b true m n
    → nat_eq c b ≡ false → w ≡ Pointer
    → HasBytes o m size w maybe c p (Some (pointer b q)) → IsUndefined n c p size
lost_bytes o b c p q size (Int t) maybe m n k e w h = absurd (cc)
lost_bytes o b c p q size Pointer false m n k e w h = λ j l. part_killed b c (p + j) q j m n k e (h j l)
lost_bytes o b c p q size Pointer true m n k e w h =
    ⊎_elim (λ i j l. part_killed b c (p + j) q j m n k e (i j l))
    (λ i. bytes_kept o m n size Pointer true c p None (bytes_killed b c p size None m n true k e (record {
      other = λ
          a f g. absurd (cc);
    })) i) h

-- a cell of which all memories are killed
pub record IsLost {N : Type 0} (s : Side) (b : ℕ) (x y : Cell N) : Type 0 where
  pub side : Side
  pub is : y ≡ record {
    side = side;
    block = x.block;
    offset = x.offset;
    what = x.what;
    value = value_without b
        x.value;
    maybe = true;
    form = None;
  }
  pub within : Within side x.side
  pub dead : Within side s

lost_made : {N : Type 0} (s : Side) (b : ℕ) (x y : Cell N) → IsLost s b x y → IsMadeFrom x y
lost_made s b x y k = record {
  side = k.side;
  value = value_without b x.value;
  maybe = true;
  form = None;
  is = k.is;
  within = k.within;
}

lost_cell : {N : Type 0} (D : Ops N) → Lawful D → (d : Model) (s : Side) (b : ℕ) (x y : Cell N) → IsLost s b x y
    → IsCell d x → IsCell d y
lost_cell {N = N} D law d s b x y k c =
    let z : Cell N = record {
      side = k.side;
      block = x.block;
      offset = x.offset;
      what = x.what;
      value = value_without
          b x.value;
      maybe = true;
      form = None;
    } in
    subst (IsCell d) (sym k.is)
    (let r : IsCell d z = record {
      fits = record { sort = sort_without b x.what x.value c.fits.sort; undefined = λ e. refl; last = c.fits.last };
      rising = rising_without D law b x.value c.rising;
    } in r)

dead_bytes : (o : Order) (b c p size : ℕ) (w : Scalar) (maybe : Bool) (v : Option Datum) (m n : Memory)
    → IsKilled b true m n → nat_eq c b ≡ false → NotInto b v
    → HasBytes o m size w maybe c p v → HasBytes o n size w true c p v
dead_bytes o b c p size w maybe v m n k e i h =
    bytes_weaker o n size w maybe true c p v (λ q. refl) (bytes_kept o m n size w maybe c p v (bytes_killed b c p
    size v m n true k e i) h)

dead_is : (b : ℕ) (dead : Bool) (m n : Memory) → IsKilled b dead m n → dead ≡ true → IsKilled b true m n
dead_is b dead m n k e = subst (λ t. IsKilled b t m n) e k

-- the same still stands there
lost_same : {N : Type 0} (D : Ops N) → Lawful D
    → (os : Order × Order) (d : Model) (m n : Memories) (s : Side) (b : ℕ) (x : Cell N) (t : Side) (v : Datum)
    → AreKilled s b m n
    → nat_eq x.block b ≡ false → Within t x.side → Within t s → NotInto b (Some v) → Allows D x.what x.value x.maybe
    (Some v) → StandsAt os d m x (Some v)
    → Says D os d n (record {
      side = t;
      block = x.block;
      offset = x.offset;
      what = x.what;
      value = value_without b
          x.value;
      maybe = true;
      form = None;
    })
lost_same D law os d m n s b x t v k e w z i a h = record {
  datum = Some v;
  allowed = allowed_without D law x.what x.value x.maybe b v i a;
  stands = record {
    left = λ g. dead_bytes os.0 b x.block x.offset (size_of d x.what) x.what x.maybe (Some v) m.left n.left (dead_is
        b (on_left s) m.left n.left k.left (z.left g)) e i (h.left (w.left g));
    right = λ g. dead_bytes os.1 b x.block x.offset (size_of d x.what) x.what x.maybe (Some v) m.right n.right
        (dead_is b (on_right s) m.right n.right k.right (z.right g)) e i (h.right (w.right g));
  };
}

-- nothing stands there
lost_none : {N : Type 0} (D : Ops N) (os : Order × Order) (d : Model) (m n : Memories) (s : Side) (b : ℕ) (x : Cell
    N) (t : Side) → AreKilled s b m n
    → nat_eq x.block b ≡ false → Within t x.side → Within t s → StandsAt os d m x None
    → Says D os d n (record {
      side = t;
      block = x.block;
      offset = x.offset;
      what = x.what;
      value = value_without b
          x.value;
      maybe = true;
      form = None;
    })
lost_none D os d m n s b x t k e w z h =
    let i : NotInto b None = record { other = λ a f g. absurd (cc) } in
    record {
      datum = None;
      allowed = nothing_allowed D x.what (value_without b x.value);
      stands = record {
        left = λ g. dead_bytes os.0 b x.block x.offset (size_of d x.what) x.what x.maybe None m.left n.left (dead_is
            b (on_left s) m.left n.left k.left (z.left g)) e i (h.left (w.left g));
        right = λ g. dead_bytes os.1 b x.block x.offset (size_of d x.what) x.what x.maybe None m.right n.right
            (dead_is b (on_right s) m.right n.right k.right (z.right g)) e i (h.right (w.right g));
      };
    }

-- the pointer that stood there is gone
lost_into : {N : Type 0} (D : Ops N) (os : Order × Order) (d : Model) (m n : Memories) (s : Side) (b q : ℕ) (x : Cell
    N) (t : Side) → AreKilled s b m n
    → nat_eq x.block b ≡ false → x.what ≡ Pointer → Within t x.side → Within t s → StandsAt os d m x (Some (pointer b
    q))
    → Says D os d n (record {
      side = t;
      block = x.block;
      offset = x.offset;
      what = x.what;
      value = value_without b
          x.value;
      maybe = true;
      form = None;
    })
lost_into D os d m n s b q x t k e p w z h = record {
  datum = None;
  allowed = nothing_allowed D x.what (value_without b x.value);
  stands = record {
    left = λ g. lost_bytes os.0 b x.block x.offset q (size_of d x.what) x.what x.maybe m.left n.left (dead_is b
        (on_left s) m.left n.left k.left (z.left g)) e p (h.left (w.left g));
    right = λ g. lost_bytes os.1 b x.block x.offset q (size_of d x.what) x.what x.maybe m.right n.right (dead_is b
        (on_right s) m.right n.right k.right (z.right g)) e p (h.right (w.right g));
  };
}

pointer_type : {N : Type 0} (b : ℕ) (w : Scalar) (u : Option (Value N)) → has_target b u ≡ true → IsOfSort w u
    → w ≡ Pointer
pointer_type b w None h s = absurd (cc)
pointer_type b w (Some (Num n)) h s = absurd (cc)
pointer_type b (Int t) (Some (Ptr p)) h s = absurd s
pointer_type b Pointer (Some (Ptr p)) h s = refl

lost_by : {N : Type 0} (D : Ops N) → Lawful D
    → (os : Order × Order) (d : Model) (m n : Memories) (s : Side) (b : ℕ) (x : Cell N) (t : Side) (v : Option Datum)
    → AreKilled s b m n
    → nat_eq x.block b ≡ false → x.what ≡ Pointer → Within t x.side → Within t s → Allows D x.what x.value x.maybe v
    → StandsAt os d m x v
    → Says D os d n (record {
      side = t;
      block = x.block;
      offset = x.offset;
      what = x.what;
      value = value_without b
          x.value;
      maybe = true;
      form = None;
    })
lost_by D law os d m n s b x t None k e p w z a h = lost_none D os d m n s b x t k e w z h
lost_by D law os d m n s b x t (Some (int i)) k e p w z a h = lost_same D law os d m n s b x t (int i) k e w z
    (record { other = λ c o g. absurd (cc) }) a h
lost_by D law os d m n s b x t (Some null) k e p w z a h = lost_same D law os d m n s b x t null k e w z (record {
  other = λ c o g. absurd (cc);
}) a h
lost_by D law os d m n s b x t (Some (pointer c q)) k e p w z a h =
    ⊎_elim
    (λ same. lost_into D os d m n s b q x t k e p w z (subst (λ (y : ℕ). StandsAt os d m x (Some (pointer y q)))
    (eqb-true c b same) h))
    (λ far. lost_same D law os d m n s b x t (pointer c q) k e w z
    (record {
      other = λ y o g. let i : c ≡ y = let j : Some (pointer c q) ≡ Some (pointer y o) = g in cc in subst (λ
          (r : ℕ). nat_eq r b ≡ false) i far;
    }) a h)
    (cases_Bool (nat_eq c b))

lost_says : {N : Type 0} (D : Ops N) → Lawful D
    → (os : Order × Order) (d : Model) (m n : Memories) (s : Side) (b : ℕ) (x y : Cell N) → AreKilled s b m n
    → nat_eq x.block b ≡ false → has_target b x.value ≡ true → IsOfSort x.what x.value → IsLost s b x y → Says D os d
    m x → Says D os d n y
lost_says D law os d m n s b x y k e h f l says =
    subst (Says D os d n) (sym l.is) (lost_by D law os d m n s b x l.side says.datum k e (pointer_type b x.what
    x.value h f) l.within l.dead says.allowed says.stands)

-- ---- what becomes of a cell

-- It is kept, or it loses the block.
pub data AfterKill {N : Type 0} (s : Side) (b : ℕ) (x y : Cell N) : Type 0 where
  away : y ≡ x → nat_eq x.block b ≡ false → has_target b x.value ≡ false → AfterKill s b x y
  alive : (r : Side) → y ≡ record x { side = r } → IsRest s x.side r → AfterKill s b x y
  lost : nat_eq x.block b ≡ false → has_target b x.value ≡ true → IsLost s b x y → AfterKill s b x y

-- where a cell of the block is left, it is of the other side
alive_rest : {N : Type 0} (s : Side) (b : ℕ) (x y : Cell N) (o : Option Side) → IfSome o (IsRest s x.side)
    → IsIn y (with_side x o) → AfterKill s b x y
alive_rest s b x y None r h = elim h [ ]
alive_rest s b x _ (Some t) r (first _) = alive t refl r
alive_rest s b x y (Some t) r (later _ _ h) = elim h [ ]

part_by : {N : Type 0} (s : Side) (b : ℕ) (x z : Cell N) (t : Bool) → nat_eq x.block b ≡ false
    → has_target b x.value ≡ true → (p : IsPart x z) → share_memory s p.side ≡ t
    → AfterKill s b x (cond t (without_target b z) z)
part_by s b x z true e h p f = lost e h (record {
  side = p.side;
  is = ap (without_target b) p.is;
  within = p.within;
  dead = p.covered s f;
})
part_by s b x z false e h p f = alive p.side p.is (rest_of_unshared s p.side x.side f p.within)

part_after : {N : Type 0} (s : Side) (b : ℕ) (x z : Cell N) → nat_eq x.block b ≡ false
    → has_target b x.value ≡ true → IsPart x z → AfterKill s b x (killed_part s b z)
part_after s b x z e h p =
    subst (λ (q : Side). AfterKill s b x (cond (share_memory s q) (without_target b z) z)) (sym (ap (λ c. c.side)
    p.is))
    (part_by s b x z (share_memory s p.side) e h p refl)

pointer_after : {N : Type 0} (s : Side) (b : ℕ) (x y : Cell N) (o : Option Side) → side_without s x.side ≡ o
    → nat_eq x.block b ≡ false → has_target b x.value ≡ true
    → IsIn y (killed_pointer s b x o) → AfterKill s b x y
pointer_after s b x _ None f e h (first _) = lost e h (record {
  side = x.side;
  is = refl;
  within = within_itself
      x.side;
  dead = none_within s x.side f;
})
pointer_after s b x y None f e h (later _ _ k) = elim k [ ]
pointer_after s b x y (Some r) f e h k =
    let i = in_map (killed_part s b) y (parts_of x) k in
    subst (AfterKill s b x) (sym i.is) (part_after s b x i.origin e h (part_is x i.origin i.is_in))

target_by : {N : Type 0} (s : Side) (b : ℕ) (x y : Cell N) (t : Bool) → has_target b x.value ≡ t
    → nat_eq x.block b ≡ false
    → IsIn y (cond t (killed_pointer s b x (side_without s x.side)) (x ∷ [])) → AfterKill s b x y
target_by s b x y true h e k = pointer_after s b x y (side_without s x.side) refl e h k
target_by s b x _ false h e (first _) = away refl e h
target_by s b x y false h e (later _ _ k) = elim k [ ]

kill_by : {N : Type 0} (s : Side) (b : ℕ) (x y : Cell N) (t : Bool) → nat_eq x.block b ≡ t
    → IsIn y (cond t (with_side x (side_without s x.side)) (cond (has_target b x.value) (killed_pointer s b x
    (side_without s x.side)) (x ∷ []))) → AfterKill s b x y
kill_by s b x y true e k = alive_rest s b x y (side_without s x.side) (rest_is s x.side) k
kill_by s b x y false e k = target_by s b x y (has_target b x.value) refl e k

pub after_kill : {N : Type 0} (s : Side) (b : ℕ) (x y : Cell N) → IsIn y (left_by_kill s b x) → AfterKill s b x y
after_kill s b x y h = kill_by s b x y (nat_eq x.block b) refl h

after_made : {N : Type 0} (s : Side) (b : ℕ) (x y : Cell N) → AfterKill s b x y → IsMadeFrom x y
after_made s b x y (away e f g) = record {
  side = x.side;
  value = x.value;
  maybe = x.maybe;
  form = x.form;
  is = e;
  within = within_itself x.side;
}
after_made s b x y (alive r e i) = record {
  side = r;
  value = x.value;
  maybe = x.maybe;
  form = x.form;
  is = e;
  within
      = i.within;
}
after_made s b x y (lost e h l) = lost_made s b x y l

after_cell : {N : Type 0} (D : Ops N) → Lawful D → (d : Model) (s : Side) (b : ℕ) (x y : Cell N)
    → AfterKill s b x y → IsCell d x → IsCell d y
after_cell D law d s b x y (away e f g) c = subst (IsCell d) (sym e) c
after_cell D law d s b x y (alive r e i) c = subst (IsCell d) (sym e) (cell_on d x r c)
after_cell D law d s b x y (lost e h l) c = lost_cell D law d s b x y l c

after_form : {N : Type 0} (cs : List (Cell N)) (s : Side) (b : ℕ) (x y : Cell N) → AfterKill s b x y → HasForm cs x
    → HasForm cs y
after_form cs s b x y (away e f g) h = subst (HasForm cs) (sym e) h
after_form cs s b x y (alive r e i) h = subst (HasForm cs) (sym e) (form_on cs x r x.form h)
after_form cs s b x y (lost e k l) h = subst (HasForm cs) (sym l.is) tt

after_says : {N : Type 0} (D : Ops N) → Lawful D
    → (os : Order × Order) (d : Model) (m n : Memories) (s : Side) (b : ℕ) (x y : Cell N) → AreKilled s b m n
    → IsOfSort x.what x.value → AfterKill s b x y → Says D os d m x → Says D os d n y
after_says D law os d m n s b x y k f (away e g h) says =
    subst (Says D os d n) (sym e) (kept_says D os d m n x x (kept_away D os d m n s b x k g h) says)
after_says D law os d m n s b x y k f (alive r e i) says =
    subst (Says D os d n) (sym e) (kept_says D os d m n x (record x { side = r }) (kept_alive D os d m n s b x r k i)
    says)
after_says D law os d m n s b x y k f (lost e h l) says = lost_says D law os d m n s b x y k e h f l says

after_number : {N : Type 0} (D : Ops N) (os : Order × Order) (d : Model) (m n : Memories) (cs : List (Cell N)) (s :
    Side) (b : ℕ) (x y : Cell N) → AreKilled s b m n
    → Fits d x → AfterKill s b x y → Says D os d m x → HasForm cs x → IfSome x.form (FormSays os m x)
    → IfSome y.form (λ ss. HasNumber os n y y.what (number (numbers_of os m) ss))
after_number D os d m n cs s b x y k f (away e g h) says form holds =
    numbers_kept D os d m n cs x y x.side e (subst (IsKept D os d m n x) (sym e) (kept_away D os d m n s b x k g h))
    f says form holds
after_number D os d m n cs s b x y k f (alive r e i) says form holds =
    numbers_kept D os d m n cs x y r e (subst (IsKept D os d m n x) (sym e) (kept_alive D os d m n s b x r k i)) f
    says form holds
after_number D os d m n cs s b x y k f (lost e h l) says form holds =
    subst (λ z. IfSome z.form (λ ss. HasNumber os n z z.what (number (numbers_of os m) ss))) (sym l.is) tt

-- ---- pairs of what one cell leaves

-- the two parts of a Shared cell
pub parts_apart : {N : Type 0} (d : Model) (x : Cell N) (u v : Option (Value N)) (a b : Bool) (f g : Option (List
    Segment))
    → AreApart d (record {
      side = Left;
      block = x.block;
      offset = x.offset;
      what = x.what;
      value = u;
      maybe = a;
      form
          = f;
    })
    (record { side = Right; block = x.block; offset = x.offset; what = x.what; value = v; maybe = b; form = g })
parts_apart d x u v a b f g = record {
  ordered = before_from x.block (3 * x.offset + 0) x.block (3 * x.offset + 1) (in_block refl (omega arith));
  apart = refl;
}

own_parts : {N : Type 0} (d : Model) (s : Side) (b : ℕ) (x : Cell N) (q : Side)
    → EachPair (AreApart d) (map (killed_part s b) (parts_on x q))
own_parts d s b x Left = (tt, tt)
own_parts d s b x Right = (tt, tt)
own_parts d Left b x Shared = (
  (parts_apart d x (value_without b x.value) x.value true x.maybe None x.form, tt),
  (
    tt,
    tt,
  ),
)
own_parts d Right b x Shared = (
  (parts_apart d x x.value (value_without b x.value) x.maybe true x.form None, tt),
  (tt, tt),
)
own_parts d Shared b x Shared = (
  (
    parts_apart d x (value_without b x.value) (value_without b x.value) true true None
        None,
    tt,
  ),
  (tt, tt),
)

own_pointer : {N : Type 0} (d : Model) (s : Side) (b : ℕ) (x : Cell N) (o : Option Side)
    → EachPair (AreApart d) (killed_pointer s b x o)
own_pointer d s b x None = (tt, tt)
own_pointer d s b x (Some r) = own_parts d s b x x.side

own_target : {N : Type 0} (d : Model) (s : Side) (b : ℕ) (x : Cell N) (t : Bool)
    → EachPair (AreApart d) (cond t (killed_pointer s b x (side_without s x.side)) (x ∷ []))
own_target d s b x true = own_pointer d s b x (side_without s x.side)
own_target d s b x false = (tt, tt)

own_by : {N : Type 0} (d : Model) (s : Side) (b : ℕ) (x : Cell N) (t : Bool)
    → EachPair (AreApart d) (cond t (with_side x (side_without s x.side)) (cond (has_target b x.value)
    (killed_pointer s b x (side_without s x.side)) (x ∷ [])))
own_by d s b x true = own_rest d x (side_without s x.side)
own_by d s b x false = own_target d s b x (has_target b x.value)

-- ---- all cells

abbrev rest_of : {N : Type 0} → Side → (b : ℕ) → List (Cell N) → List (Cell N)
rest_of s b cs = each_becomes (left_by_kill s b) cs

own_all : {N : Type 0} (d : Model) (s : Side) (b : ℕ) (x : Cell N) → EachPair (AreApart d) (left_by_kill s b x)
own_all d s b x = own_by d s b x (nat_eq x.block b)

rest_pairs : {N : Type 0} (d : Model) (s : Side) (b : ℕ) (cs : List (Cell N)) → EachPair (AreApart d) cs
    → EachPair (AreApart d) (rest_of s b cs)
rest_pairs d s b cs p =
    pairs_each (AreApart d) (left_by_kill s b) cs p (λ x k. own_all d s b x)
    (λ x y a c r i j. apart_made d x y a c r (after_made s b x a (after_kill s b x a i)) (after_made s b y c
    (after_kill s b y c j)))

-- a new cell doesn't meet what is left
other_block : (s t : Side) (b q n c r k : ℕ) → nat_eq c b ≡ false → meets (at s b q n) (at t c r k) ≡ false
other_block s t b q n c r k e =
    and_right (share_memory s t) (touches (at s b q n) (at t c r k))
    (and_left (nat_eq b c) (nat_lt q (r + k) && nat_lt r (q + n)) (ne_eqb b c (λ f. both_ways (nat_eq c b) e (eq-eqb
    c b (sym f)))))

new_away : {N : Type 0} (d : Model) (s : Side) (b q : ℕ) (w : Scalar) (x y : Cell N) → AfterKill s b x y
    → meets (place_of {N = N} d (undefined_cell s b q w)) (place_of d y) ≡ false
new_away {N = N} d s b q w x y (away e f g) =
    subst (λ z. meets (place_of {N = N} d (undefined_cell s b q w)) (place_of d z) ≡ false) (sym e) (other_block s
    x.side b q (size_of d w) x.block x.offset (size_of d x.what) f)
new_away {N = N} d s b q w x y (alive r e i) =
    subst (λ z. meets (place_of {N = N} d (undefined_cell s b q w)) (place_of d z) ≡ false) (sym e)
    (and_left (share_memory s r) (touches (at s b q (size_of d w)) (at r x.block x.offset (size_of d x.what)))
    i.apart)
new_away {N = N} d s b q w x y (lost e h l) =
    subst (λ z. meets (place_of {N = N} d (undefined_cell s b q w)) (place_of d z) ≡ false) (sym l.is) (other_block s
    l.side b q (size_of d w) x.block x.offset (size_of d x.what) e)

pub pairs_put_all : {N : Type 0} (d : Model) (more rest : List (Cell N)) → EachPair (AreApart d) more
    → EachPair (AreApart d) rest
    → ((c y : Cell N) → IsIn c more → IsIn y rest → meets (place_of d c) (place_of d y) ≡ false) → EachPair (AreApart
    d) (put_all more rest)
pairs_put_all d [] rest p q h = q
pairs_put_all {N = N} d (c ∷ more) rest p q h =
    let far : (y : Cell N) → IsIn y (put_all more rest) → meets (place_of d c) (place_of d y) ≡ false = λ y k.
    ⊎_elim (λ i. (each_at (AreApart d c) y more p.0 i).apart) (λ i. h c y (first more) i) (in_put_all more y rest k)
    in
    pairs_put (AreApart d) c (put_all more rest)
    (pairs_put_all d more rest p.1 q (λ a y i j. h a y (later c more i) j))
    (λ y k e. put_before_cell d c y (far y k) e) (λ y k e. put_after_cell d c y (far y k) e) (λ x y a e. before_rest
    d c x y a e)

-- what all of them have
by_origin : {N : Type 0} (d : Model) (s : Side) (b size : ℕ) (leaves : List Leaf) (cs : List (Cell N)) (P : Cell N
    → Type 0) → AreLeavesIn d 0 size leaves
    → ((q : ℕ) (w : Scalar) → q + size_of d w ≤ size → P (undefined_cell s b q w))
    → ((x y : Cell N) → IsIn x cs → AfterKill s b x y → P y)
    → (y : Cell N) → IsIn y (put_all (entry_cells d s b leaves size) (rest_of s b cs)) → P y
by_origin d s b size leaves cs P a new old y h =
    ⊎_elim
    (λ k. let r = new_from d s b 0 size size leaves y a (omega arith) k in subst P (sym r.is) (new r.offset r.what
    r.high))
    (λ k. let r = in_each (left_by_kill s b) y cs k in old r.origin y r.is_in (after_kill s b r.origin y r.becomes))
    (in_put_all (entry_cells d s b leaves size) y (rest_of s b cs) h)

-- ---- names

no_pointer : {N : Type 0} (b : ℕ) (w : Scalar) (u : Option (Value N)) (t : IntType) → w ≡ Int t → IsOfSort w u
    → has_target b u ≡ false
no_pointer b w None t e h = refl
no_pointer b w (Some (Num n)) t e h = refl
no_pointer b (Int i) (Some (Ptr p)) t e h = absurd h
no_pointer b Pointer (Some (Ptr p)) t e h = absurd (cc)

follows_kill : {N : Type 0} (s : Side) (b : ℕ) (x : Cell N) (c e : CellName) → IsNamed c x
    → IsOfSort x.what x.value → fate_by_kill s b c ≡ Some e → Follows x (left_by_kill s b x) e
follows_kill s b x c e i f h =
    subst (λ t. Follows x (cond (nat_eq x.block b) (with_side x (side_without s x.side)) (cond t (killed_pointer s b
    x (side_without s x.side)) (x ∷ []))) e) (sym (no_pointer b x.what x.value c.t i.what f))
    (subst (λ (k : ℕ). Follows x (cond (nat_eq k b) (with_side x (side_without s x.side)) (x ∷ [])) e) (sym i.block)
    (subst (λ (q : Side). Follows x (cond (nat_eq c.block b) (with_side x (side_without s q)) (x ∷ [])) e) (sym
    i.side)
    (follows_by x c e (side_without s c.side) (nat_eq c.block b) i h)))

there_after : {N : Type 0} (d : Model) (s : Side) (b size : ℕ) (leaves : List Leaf) (cs : List (Cell N)) (a e :
    CellName) → AreCells d cs → IsThere a cs → fate_by_kill s b a ≡ Some e
    → IsThere e (put_all (entry_cells d s b leaves size) (rest_of s b cs))
there_after d s b size leaves cs a e c t h =
    let f = follows_kill s b t.cell a e t.named (c.each t.cell t.is_in).fits.sort h in
    record {
      cell = record t.cell { side = f.side };
      is_in = put_all_keeps (entry_cells d s b leaves size) (record t.cell { side = f.side }) (rest_of s b cs)
          (each_in (left_by_kill s b) t.cell (record t.cell { side = f.side }) cs t.is_in f.is_in);
      named = f.named;
      sure = t.sure;
    }

kept_after : {N : Type 0} (D : Ops N) (os : Order × Order) (d : Model) (m n : Memories) (s : Side) (b : ℕ) (x y :
    Cell N) → AreKilled s b m n → has_target b x.value ≡ false → AfterKill s b x y → IsKept D os d m n x y
kept_after D os d m n s b x y k f (away e g h) = subst (IsKept D os d m n x) (sym e) (kept_away D os d m n s b x k g
    h)
kept_after D os d m n s b x y k f (alive r e i) = subst (IsKept D os d m n x) (sym e) (kept_alive D os d m n s b x r
    k i)
kept_after D os d m n s b x y k f (lost e h l) = absurd (both_ways (has_target b x.value) f h)

kill_keeps : {N : Type 0} (D : Ops N) (os : Order × Order) (d : Model) (m n : Memories) (s : Side) (b : ℕ) (cs : List
    (Cell N)) (a e : CellName) → AreCells d cs
    → ((x : Cell N) → IsIn x cs → Says D os d m x) → AreKilled s b m n → IsThere a cs → fate_by_kill s b a ≡ Some e →
    numbers_of os n e ≡ numbers_of os m a
kill_keeps D os d m n s b cs a e c says k t h =
    let fits = (c.each t.cell t.is_in).fits in
    let f = follows_kill s b t.cell a e t.named fits.sort h in
    let y = record t.cell { side = f.side } in
    keeps_kept D os d m n t.cell y a e
    (kept_after D os d m n s b t.cell y k (no_pointer b t.cell.what t.cell.value a.t t.named.what fits.sort)
    (after_kill s b t.cell y f.is_in))
    fits t.sure (says t.cell t.is_in) refl t.named f.named

-- ---- the law

kill_change : {N : Type 0} (D : Ops N) → Lawful D
    → (d : Model) (s : Side) (b size : ℕ) (leaves : List Leaf) (cs : List (Cell N)) → AreCells d cs
    → AreLeavesIn d 0 size leaves → size ≤ 2 ^ 32
    → IsChange d cs (put_all (entry_cells d s b leaves size) (rest_of s b cs)) (fate_by_kill s b)
kill_change {N = N} D law d s b size leaves cs c a l = record {
  each = by_origin d s b size leaves cs (IsCell d) a
      (λ q w h. let r : IsCell {N = N} d (undefined_cell s b q w) = record {
        fits = record {
          sort = tt;
          undefined = λ
              e. refl;
          last = omega (arith, l, h);
        };
        rising = tt;
      } in r)
      (λ x y i k. after_cell D law d s b x y k (c.each x i));
  pairs = pairs_put_all d (entry_cells d s b leaves size) (rest_of s b cs) (new_pairs N d s b 0 size size leaves a)
      (rest_pairs d s b cs c.pairs)
      (λ y z i j.
      let r = new_from d s b 0 size size leaves y a (omega arith) i in
      let q = in_each (left_by_kill s b) z cs j in
      subst (λ x. meets (place_of d x) (place_of d z) ≡ false) (sym r.is) (new_away d s b r.offset r.what q.origin z
      (after_kill s b q.origin z q.becomes)));
  forms = by_origin d s b size leaves cs (HasForm cs) a (λ q w h. tt) (λ x y i k. after_form cs s b x y k (c.forms x
      i));
  fates = λ x e t h. there_after d s b size leaves cs x e c t h;
}

pub kill_cells : {N : Type 0} (D : Ops N) → Lawful D
    → (d : Model) (s : Side) (b size : ℕ) (leaves : List Leaf) (cs : List (Cell N)) → AreCells d cs
    → AreLeavesIn d 0 size leaves → size ≤ 2 ^ 32
    → AreCells d (killed_cells d s b leaves size cs)
kill_cells D law d s b size leaves cs c a l =
    change_cells d cs (put_all (entry_cells d s b leaves size) (rest_of s b cs)) (fate_by_kill s b) (kill_change D
    law d s b size leaves cs c a l)

new_bytes : (b q j : ℕ) (m n : Memory) (dead : Bool) → IsKilled b dead m n → dead ≡ true → n b (q + j) ≡ undefined
new_bytes b q j m n dead k e = k.gone e b (q + j) ∙ killed_there b b (q + j) m (eq-eqb b b refl)

new_says : (N : Type 0) (D : Ops N) (os : Order × Order) (d : Model) (m n : Memories) (s : Side) (b q : ℕ) (w :
    Scalar) → AreKilled s b m n → Says D os d n (undefined_cell s b q w)
new_says N D os d m n s b q w k = record {
  datum = None;
  allowed = refl;
  stands = record {
    left = λ e j l. new_bytes b q j m.left n.left (on_left s) k.left e;
    right = λ e j l. new_bytes b q j m.right n.right (on_right s) k.right e;
  };
}

pub kill_holds : {N : Type 0} (D : Ops N) → Lawful D
    → (os : Order × Order) (d : Model) (m n : Memories) (s : Side) (b size : ℕ) (leaves : List Leaf) (cs : List (Cell
    N))
    → AreCells d cs → AreLeavesIn d 0 size leaves → size ≤ 2 ^ 32 → In D (record {
      orders = os;
      model = d;
      cells = cs;
    }) m → AreKilled s b m n
    → In D (record { orders = os; model = d; cells = killed_cells d s b leaves size cs }) n
kill_holds {N = N} D law os d m n s b size leaves cs c a l i k =
    change_holds D os d m n cs (put_all (entry_cells d s b leaves size) (rest_of s b cs)) (fate_by_kill s b)
    (kill_change D law d s b size leaves cs c a l)
    (record {
      says = by_origin d s b size leaves cs (Says D os d n) a (λ q w h. new_says N D os d m n s b q w k)
          (λ x y j r. after_says D law os d m n s b x y k (c.each x j).fits.sort r (i.cells x j));
      numbers = by_origin d s b size leaves cs (λ y. IfSome y.form (λ ss. HasNumber os n y y.what (number (numbers_of
          os m) ss))) a (λ q w h. tt)
          (λ x y j r. after_number D os d m n cs s b x y k (c.each x j).fits r (i.cells x j) (c.forms x j) (i.forms x
          j));
      keeps = λ x e t h. kill_keeps D os d m n s b cs x e c i.cells k t h;
    })
