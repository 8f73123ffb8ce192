-- Forms that are held while a block is killed, or drop the mentions of some cells.
use Rattle.std.proofs.Common.{◌≡◌, ℕ, ◌+◌, Bool, true, false, ◌||◌, nat_eq, cond, List, [], ◌∷◌, Option, Some, None}
use Rattle.ep_cell_ranges.proofs.Held.{part_in}
use Rattle.std.proofs.Common.{IfSome, refl, sym, ap, ◌∙◌, subst}
use Rattle.std.specs.Option.{option_map}
use Rattle.ep_int.specs.declared.types.Model.{Model}
use Rattle.ep_int.specs.declared.types.Order.{Order}
use Rattle.ep_int.specs.declared.types.Scalar.{Scalar}
use Rattle.ep_int.specs.declared.types.Scalar.TheVariants.{Int, Pointer}
use Rattle.ep_int.specs.Types.{size_of}
use Rattle.ep_int.specs.Memory.{Byte, undefined, number, fragment, Memory, number_in, contains, forgotten}
use Rattle.ep_int.proofs.Encodings.{decoded_same}
use Rattle.ep_layout.specs.declared.types.Leaf.{Leaf}
use Rattle.ep_bitslice.specs.declared.cell.Side.{Side}
use Rattle.ep_bitslice.specs.declared.cell.Side.TheVariants.{Left, Right, Shared}
use Rattle.ep_bitslice.specs.declared.cell.CellName.{CellName}
use Rattle.ep_domain.specs.Domain.{Ops}
use Rattle.ep_cells.specs.declared.cell.Cell.{Cell}
use Rattle.ep_cells.specs.declared.cell.Value.{Value}
use Rattle.ep_cells.specs.declared.cell.Value.TheVariants.{Num, Ptr}
use Rattle.ep_cells.specs.Cells.{on_left, on_right, side_without, with_side, IsNamed, first, put_all, each_becomes}
use Rattle.ep_cells.specs.Kill.{has_target, entry_cells, killed_pointer, left_by_kill, fate_by_kill, killed_cells}
use Rattle.ep_cells.specs.States.{Known, IsOfSort, IsThere, AreCells}
use Rattle.ep_cells.specs.Meaning.{Memories, Says, number_at, number_on, numbers_of, In}
use Rattle.ep_cells.specs.Memories.{IsKilled, AreKilled}
use Rattle.ep_cells.proofs.Lists.{each_in, put_all_keeps}
use Rattle.ep_cells.proofs.Bytes.{bytes_same}
use Rattle.ep_cells.proofs.Places.{IsRest, rest_is}
use Rattle.ep_cells.proofs.Changes.{IsKept, there_reformed}
use Rattle.ep_cells.proofs.Write.{keeps_kept, Follows, follows_by}
use Rattle.ep_cell_ranges.specs.Laws.{MoreKillLaws, DropLaws}
use Rattle.ep_cell_ranges.proofs.Held.{Leads, KeepsNames, held_fits, held_numbers, at_unwritten}

-- ---- a block is killed

-- an integer cell has no targets
no_target : {N : Type 0} (b : ℕ) (w : Scalar) (c : CellName) (v : Option (Value N)) → w ≡ Int c.t → IsOfSort w v
    → has_target b v ≡ false
no_target b w c None e s = refl
no_target b w c (Some (Num n)) e s = refl
no_target b (Int t) c (Some (Ptr p)) e s = absurd s
no_target b Pointer c (Some (Ptr p)) e s = absurd (cc)

module _ {N : Type 0} where
  kept_by : (s : Side) (b : ℕ) (x : Cell N) (c e : CellName) (t u : Bool) → IsNamed c x → u ≡ false
      → cond t (option_map (λ r. record c { side = r }) (side_without s c.side)) (Some c) ≡ Some e
      → Follows x (cond t (with_side x (side_without s c.side)) (cond u (killed_pointer s b x (side_without s x.side))
      (x ∷ []))) e
  kept_by s b x c e true u i g h = follows_by x c e (side_without s c.side) true i h
  kept_by s b x c e false true i g h = absurd (cc)
  kept_by s b x c e false false i g h =
      let is : c ≡ e = cc in
      record { side = x.side; is_in = first []; named = subst (λ z. IsNamed z x) is i }

  follows_kill : (s : Side) (b : ℕ) (x : Cell N) (c e : CellName) → IsNamed c x → IsOfSort x.what x.value
      → fate_by_kill s b c ≡ Some e → Follows x (left_by_kill s b x) e
  follows_kill s b x c e i f h =
      subst (λ (q : Side). Follows x (cond (nat_eq x.block b) (with_side x (side_without s q))
      (cond (has_target b x.value)
      (killed_pointer s b x (side_without s x.side)) (x ∷ []))) e) (sym i.side)
      (subst (λ (a : ℕ). Follows x (cond (nat_eq a b) (with_side x (side_without s c.side)) (cond (has_target b x.value)
      (killed_pointer s b x (side_without s x.side)) (x ∷ []))) e) (sym i.block)
      (kept_by s b x c e (nat_eq c.block b) (has_target b x.value) i (no_target b x.what c x.value i.what f) h))

  pub kill_leads : (d : Model) (s : Side) (b : ℕ) (leaves : List Leaf) (size : ℕ) (cs : List (Cell N)) → AreCells d cs
      → Leads cs (killed_cells d s b leaves size cs) (fate_by_kill s b)
  kill_leads d s b leaves size cs a = λ c e t h.
      let f = follows_kill s b t.cell c e t.named (a.each t.cell t.is_in).fits.sort h in
      there_reformed (fate_by_kill s b) e (put_all (entry_cells d s b leaves size) (each_becomes (left_by_kill s b) cs))
      (record {
        cell = record t.cell { side = f.side };
        is_in = put_all_keeps (entry_cells d s b leaves size) (record t.cell { side = f.side })
            (each_becomes (left_by_kill s b) cs)
            (each_in (left_by_kill s b) t.cell (record t.cell { side = f.side }) cs t.is_in f.is_in);
        named = f.named;
        sure = t.sure;
      })

-- ---- numbers

byte_forgotten : (b : ℕ) (x : Byte) → number_in (forgotten (b ∷ []) x) ≡ number_in x
byte_forgotten b undefined = refl
byte_forgotten b (number v) = refl
byte_forgotten b (fragment c o k) = part_in (contains c (b ∷ [])) c o k

elsewhere : (t : Bool) (x y : Byte) → t ≡ false → number_in x ≡ number_in y
    → number_in (cond (t || false) undefined x) ≡ number_in y
elsewhere true x y e h = absurd (cc)
elsewhere false x y e h = h

at_killed : (o : Order) (b : ℕ) (dead : Bool) (m n : Memory) (c : CellName) → IsKilled b dead m n
    → nat_eq c.block b ≡ false → number_at o n c ≡ number_at o m c
at_killed o b true m n c k e =
    decoded_same o c.t (λ j. number_in (n c.block (c.offset + j))) (λ j. number_in (m c.block (c.offset + j)))
    (λ j l. ap number_in (k.gone refl c.block (c.offset + j))
    ∙ elsewhere (nat_eq c.block b) (forgotten (b ∷ []) (m c.block (c.offset + j))) (m c.block (c.offset + j)) e
    (byte_forgotten b (m c.block (c.offset + j))))
at_killed o b false m n c k e = at_unwritten o m n c (k.alive refl)

on_killed : (q : Side) (os : Order × Order) (s : Side) (b : ℕ) (m n : Memories) (c : CellName) → AreKilled s b m n
    → nat_eq c.block b ≡ false → number_on q os n c ≡ number_on q os m c
on_killed Left os s b m n c k e = at_killed os.0 b (on_left s) m.left n.left c k.left e
on_killed Right os s b m n c k e = at_killed os.1 b (on_right s) m.right n.right c k.right e
on_killed Shared os s b m n c k e = at_killed os.0 b (on_left s) m.left n.left c k.left e

module _ {N : Type 0} (D : Ops N) where
  -- what is left of a cell on a side that isn't killed
  kept_rest : (os : Order × Order) (d : Model) (m n : Memories) (s r : Side) (b : ℕ) (x : Cell N) → AreKilled s b m n
      → IsRest s x.side r → IsKept D os d m n x (record x { side = r })
  kept_rest os d m n s r b x k i = record {
    side = r;
    is = refl;
    within = i.within;
    stands = λ v a h. record {
      left = λ e. bytes_same os.0 m.left n.left (size_of d x.what) x.what x.maybe x.block x.offset v
          (record { same = λ p l. k.left.alive (i.left e) x.block (x.offset + p) }) (h.left (i.within.left e));
      right = λ e. bytes_same os.1 m.right n.right (size_of d x.what) x.what x.maybe x.block x.offset v
          (record { same = λ p l. k.right.alive (i.right e) x.block (x.offset + p) }) (h.right (i.within.right e));
    };
  }

  rest_by : (os : Order × Order) (d : Model) (m n : Memories) (s : Side) (b : ℕ) (cs : List (Cell N)) (c e : CellName)
      (o : Option Side) → (t : IsThere c cs) → AreCells d cs → Says D os d m t.cell → AreKilled s b m n
      → IfSome o (IsRest s c.side) → option_map (λ r. record c { side = r }) o ≡ Some e
      → numbers_of os n e ≡ numbers_of os m c
  rest_by os d m n s b cs c e None t a says k i h = absurd (cc)
  rest_by os d m n s b cs c e (Some r) t a says k i h =
      let is : record c { side = r } ≡ e = cc in
      let x = t.cell in
      let rest : IsRest s x.side r = subst (λ q. IsRest s q r) (sym t.named.side) i in
      let named : IsNamed e (record x { side = r }) = subst (λ z. IsNamed z (record x { side = r })) is (record {
        side = refl;
        block = t.named.block;
        offset = t.named.offset;
        what = t.named.what;
      }) in
      keeps_kept D os d m n x (record x { side = r }) c e (kept_rest os d m n s r b x k rest) (a.each x t.is_in).fits
      t.sure says refl t.named named

  name_by : (os : Order × Order) (d : Model) (m n : Memories) (s : Side) (b : ℕ) (cs : List (Cell N)) (c e : CellName)
      (t : Bool) → (there : IsThere c cs) → AreCells d cs → Says D os d m there.cell → AreKilled s b m n
      → nat_eq c.block b ≡ t → cond t (option_map (λ r. record c { side = r }) (side_without s c.side))
      (Some c) ≡ Some e
      → numbers_of os n e ≡ numbers_of os m c
  name_by os d m n s b cs c e true there a says k g h =
      rest_by os d m n s b cs c e (side_without s c.side) there a says k (rest_is s c.side) h
  name_by os d m n s b cs c e false there a says k g h =
      let is : c ≡ e = cc in ap (numbers_of os n) (sym is) ∙ on_killed c.side os s b m n c k g

  pub kill_names : (k : Known N) (s : Side) (b : ℕ) (m n : Memories) → AreCells k.model k.cells → In D k m
      → AreKilled s b m n
      → KeepsNames k.orders m n k.cells (fate_by_kill s b)
  kill_names k s b m n a i w = λ c e t h.
      name_by k.orders k.model m n s b k.cells c e (nat_eq c.block b) t a (i.cells t.cell t.is_in) w refl h

  pub of_more_kills : MoreKillLaws D
  of_more_kills = record {
    fits = λ k s b leaves size a w f h.
        held_fits k.cells (killed_cells k.model s b leaves size k.cells) (fate_by_kill s b)
        (kill_leads k.model s b leaves size k.cells a) w f h;
    numbers = λ k s b a m n i w u v f h g.
        held_numbers k.orders m n k.cells (fate_by_kill s b) (kill_names k s b m n a i w) u v f h g;
  }

  -- ---- mentions that are dropped

  pub of_drops : DropLaws N
  of_drops = record {
    fits = λ cs f drops w g h. held_fits cs cs f (λ c e t i. subst (λ z. IsThere z cs) (drops c e i) t) w g h;
    numbers = λ cs f drops os m w v g h s. held_numbers os m m cs f
        (λ c e t i. ap (numbers_of os m) (sym (drops c e i))) w v g h s;
  }
