-- What the edits of a killed block come to.
use Rattle.std.proofs.Common.{◌≡◌, ℕ, zero, suc, ◌+◌, ◌<◌, ◌≤◌, ◌⊎◌, inl, inr, ⊎_elim, Bool, true, false, cond}
use Rattle.std.proofs.Common.{nat_eq, List, [], ◌∷◌, length, set, get_or, Option, Some, None, refl, sym, ◌∙◌, ap}
use Rattle.std.proofs.Common.{subst, arith}
use Rattle.std.specs.Option.{option_map}
use Rattle.std.specs.List.{list_any}
use Rattle.std.proofs.lemmas.Bool.{or_left, or_right, false_from_ne_true, both_ways}
use Rattle.std.proofs.lemmas.Bool.Decides.{nat_tests}
use Rattle.ep_int.specs.declared.types.Model.{Model}
use Rattle.ep_int.specs.declared.types.Scalar.{Scalar}
use Rattle.ep_layout.specs.declared.types.Leaf.{Leaf}
use Rattle.ep_bitslice.specs.declared.cell.Side.{Side}
use Rattle.ep_domain.specs.Domain.{Ops}
use Rattle.ep_cells.specs.declared.cell.Cell.{Cell}
use Rattle.ep_cells.specs.Cells.{IsIn, first, later, side_without, with_side, put, put_all, each_becomes}
use Rattle.ep_cells.specs.Kill.{AreLeavesIn, entry_cells, cell_here, cells_from, leaf_at, is_in_leaf, has_target}
use Rattle.ep_cells.specs.Kill.{killed_pointer, left_by_kill, fate_by_kill}
use Rattle.ep_cells.specs.States.{AreCells}
use Rattle.ep_cells.specs.Laws.{KillLaws}
use Rattle.ep_cells.proofs.Lists.{in_append, in_put, in_put_all}
use Rattle.ep_cells.proofs.Kill.{AfterKill, away, alive, lost, after_kill}
use Rattle.ep_cell_changes.proofs.Together.{killed_is}
use Rattle.ep_bicells.specs.declared.changes.Step.TheVariants.{Kill}
use Rattle.ep_shared_parts.specs.declared.parts.Part.{Part}
use Rattle.ep_shared_parts.specs.declared.parts.Edit.{Edit}
use Rattle.ep_shared_parts.specs.declared.uses.Use.{Use}
use Rattle.ep_shared_parts.specs.Spread.{outlines, all_items, AreSpread, parts_to, installed, AreWithin}
use Rattle.ep_shared_parts.specs.Mentions.{number_at, number_of, AreIndexed}
use Rattle.ep_shared_parts.specs.Plans.{AreEdits, KeepsEdits}
use Rattle.ep_bicells.specs.Steps.{after_step, IsPlan}
use Rattle.ep_shared_parts.proofs.Adding.{set_spread}
use Rattle.ep_shared_parts.proofs.Planning.{Becomes, becomes_items, becomes_spread, edits_within, uncovered}
use Rattle.ep_shared_parts.proofs.Planning.{still_covers}
use Rattle.ep_cell_steps.specs.PartsInvariant.{AreKept}
use Rattle.ep_cell_steps.specs.Killed.{ArePointless, FindsPointers, AreKilled, AreShort}
use Rattle.ep_cell_steps.proofs.Making.{indexed_none, kept_copy}
use Rattle.ep_cell_steps.proofs.Local.{changed, IsLocal, IsBeside, keeps_numbers, goes_apart, in_part, outside_at}
use Rattle.ep_cell_steps.proofs.Local.{short_cell, indexed_reformed, indexed_each, put_in_part, adds_put}
use Rattle.ep_cell_steps.proofs.Writing.{planned_by, short_changed, write_name}

-- ---- what is left of cells

kill_form : {N : Type 0} (s : Side) (b : ℕ) (x y : Cell N) → AfterKill s b x y → (y.form ≡ None) ⊎ (y.form ≡ x.form)
kill_form s b x y (away e h k) = inr (ap (λ z. z.form) e)
kill_form s b x y (alive r e i) = inr (ap (λ z. z.form) e)
kill_form s b x y (lost e h l) = inl (ap (λ z. z.form) l.is)

kill_block : {N : Type 0} (s : Side) (b : ℕ) (x y : Cell N) → AfterKill s b x y → y.block ≡ x.block
kill_block s b x y (away e h k) = ap (λ z. z.block) e
kill_block s b x y (alive r e i) = ap (λ z. z.block) e
kill_block s b x y (lost e h l) = ap (λ z. z.block) l.is

kill_offset : {N : Type 0} (s : Side) (b : ℕ) (x y : Cell N) → AfterKill s b x y → y.offset ≡ x.offset
kill_offset s b x y (away e h k) = ap (λ z. z.offset) e
kill_offset s b x y (alive r e i) = ap (λ z. z.offset) e
kill_offset s b x y (lost e h l) = ap (λ z. z.offset) l.is

pub kill_local : {N : Type 0} (s : Side) (b : ℕ) → IsLocal {N = N} (left_by_kill s b) (fate_by_kill s b)
kill_local s b = record {
  stays = λ x y k. let a = after_kill s b x y k in record { block = kill_block s b x y a; offset = kill_offset s b x y a };
  forms = λ x y k. kill_form s b x y (after_kill s b x y k);
  names = λ n m h. write_name n m (nat_eq n.block b) (side_without s n.side) h;
}

-- what begins outside of a block's numbers is of another block
other_block : (block offset b : ℕ) → offset < 4294967296
    → (number_at b 0 ≤ number_at block offset → number_at block offset ≤ number_at b 4294967295 → ⊥)
    → nat_eq block b ≡ false
other_block block offset b o h = false_from_ne_true (nat_eq block b) (λ e.
    let same : block ≡ b = grind (arith, nat_tests, e) in h (omega (arith, same)) (omega (arith, same, o)))

kill_beside : {N : Type 0} (d : Model) (s : Side) (b : ℕ) (cs : List (Cell N)) → AreCells d cs
    → IsBeside (number_at b 0) (number_at b 4294967295) (fate_by_kill s b) cs
kill_beside d s b cs a n t h =
    let short = short_cell d t.cell (a.each t.cell t.is_in) in
    let o : n.offset < 4294967296 = subst (λ k. k < 4294967296) t.named.offset short in
    ap (λ z. cond z (option_map (λ r. record n { side = r }) (side_without s n.side)) (Some n)) (other_block n.block
    n.offset b o h)

pointless_at : {N : Type 0} (b : ℕ) (x : Cell N) (cs : List (Cell N)) → ArePointless b cs → IsIn x cs
    → has_target b x.value ≡ false
pointless_at b x [] h k = elim k [ ]
pointless_at b _ (x ∷ cs) h (first _) = false_from_ne_true (has_target b x.value) (λ e. both_ways (list_any (λ c.
    has_target b c.value) (x ∷ cs)) h (or_left (has_target b x.value) (list_any (λ c. has_target b c.value) cs) e))
pointless_at b y (x ∷ cs) h (later _ _ k) = pointless_at b y cs (false_from_ne_true (list_any (λ c. has_target b
    c.value) cs) (λ e. both_ways (list_any (λ c. has_target b c.value) (x ∷ cs)) h (or_right (has_target b x.value)
    (list_any (λ c. has_target b c.value) cs) e))) k

pub kill_becomes : {N : Type 0} (D : Ops N) (d : Model) (s : Side) (b : ℕ) (us : List (Part Use)) (ps : List (Part (Cell
    N))) (es : List (Edit (Cell N))) → AreKept d ps us → AreKilled D d s b (all_items us) ps es
    → Becomes (changed (left_by_kill s b) (fate_by_kill s b)) ps (installed es ps)
kill_becomes {N = N} D d s b us ps es k w =
    planned_by d (left_by_kill s b) (fate_by_kill s b) (number_at b 0) (number_at b 4294967295) (all_items us) ps es
    k.cells k.indexed (kill_beside d s b (all_items ps) k.cells) (λ i q l e x j.
    let xs = (get_or ps i q).items.value.items in
    let short = short_cell d x (k.cells.each x (in_part ps i q x l j)) in
    let out = outside_at (number_at b 0) (number_at b 4294967295) x xs (uncovered number_of (number_at b 0) (number_at b
    4294967295) ps es i q w.plan.place l e) j in
    ap (λ z. cond z (with_side x (side_without s x.side)) (cond (has_target b x.value) (killed_pointer s b x
    (side_without s x.side)) (x ∷ []))) (other_block x.block x.offset b short out)
    ∙ ap (λ z. cond z (killed_pointer s b x (side_without s x.side)) (x ∷ [])) (pointless_at b x xs (w.pointers i q l e)
    j)) w.plan

pub kill_items : {N : Type 0} (D : Ops N) (d : Model) (s : Side) (b : ℕ) (us : List (Part Use)) (ps : List (Part (Cell
    N))) (es : List (Edit (Cell N))) → AreKept d ps us → AreKilled D d s b (all_items us) ps es
    → all_items (installed es ps) ≡ changed (left_by_kill s b) (fate_by_kill s b) (all_items ps)
kill_items {N = N} D d s b us ps es k w =
    becomes_items (changed (left_by_kill s b) (fate_by_kill s b)) ps (installed es ps) (goes_apart (left_by_kill s b)
    (fate_by_kill s b)) (kill_becomes D d s b us ps es k w)

pub kill_spread : {N : Type 0} (D : Ops N) (d : Model) (s : Side) (b : ℕ) (us : List (Part Use)) (ps : List (Part (Cell
    N))) (es : List (Edit (Cell N))) → AreKept d ps us → AreKilled D d s b (all_items us) ps es
    → AreSpread (outlines number_of (installed es ps))
kill_spread {N = N} D d s b us ps es k w =
    becomes_spread number_of (changed (left_by_kill s b) (fate_by_kill s b)) ps (installed es ps) (keeps_numbers
    (left_by_kill s b) (fate_by_kill s b) (kill_local s b)) (kill_becomes D d s b us ps es k w) k.spread

pub kill_short : {N : Type 0} (D : Ops N) (d : Model) (s : Side) (b : ℕ) (us : List (Part Use)) (ps : List (Part (Cell
    N))) (es : List (Edit (Cell N))) → AreKept d ps us → AreKilled D d s b (all_items us) ps es
    → AreShort (all_items (installed es ps))
kill_short {N = N} D d s b us ps es k w =
    short_changed d (left_by_kill s b) (fate_by_kill s b) (all_items ps) (all_items (installed es ps)) (kill_local s b)
    k.cells (kill_items D d s b us ps es k w)

-- ---- cells that are put

pub put_short : {N : Type 0} (c : Cell N) (cs ys : List (Cell N)) → ys ≡ put c cs → c.offset < 4294967296 → AreShort cs
    → AreShort ys
put_short c cs ys e o h y k =
    ⊎_elim (λ i. subst (λ z. z < 4294967296) (sym (ap (λ z. z.offset) i)) o) (λ j. h y j) (in_put c y cs (subst (IsIn y)
    e k))

pub put_part : {N : Type 0} (ps : List (Part (Cell N))) (i : ℕ) (p q : Part (Cell N)) (c : Cell N)
    → AreSpread (outlines number_of ps) → AreShort (all_items ps) → c.offset < 4294967296
    → suc i ≡ parts_to (number_of c) (outlines number_of ps) → i < length ps → p ≡ get_or ps i p → q.start ≡ p.start
    → q.items.value.items ≡ put c p.items.value.items
    → (all_items (set ps i q) ≡ put c (all_items ps)) × AreSpread (outlines number_of (set ps i q))
put_part ps i p q c s a o t b e g h = (
  put_in_part ps i p q c s a o t b e h,
  set_spread number_of ps i p q (number_of c) t e g (adds_put c p.items.value.items q.items.value.items h) s,
)

-- ---- the index

here_form : {N : Type 0} (s : Side) (b q : ℕ) (o : Option Scalar) (t : Bool) (y : Cell N) → IsIn y (cell_here s b q o t)
    → y.form ≡ None
here_form s b q (Some w) t _ (first _) = refl
here_form s b q (Some w) t y (later _ _ h) = elim h [ ]
here_form s b q None true y h = elim h [ ]
here_form s b q None false _ (first _) = refl
here_form s b q None false y (later _ _ h) = elim h [ ]

entry_form : {N : Type 0} (d : Model) (s : Side) (b : ℕ) (leaves : List Leaf) (q n : ℕ) (y : Cell N)
    → IsIn y (cells_from d s b leaves q n) → y.form ≡ None
entry_form d s b leaves q zero y h = elim h [ ]
entry_form d s b leaves q (suc n) y h =
    ⊎_elim (λ k. here_form s b q (leaf_at leaves q) (is_in_leaf d leaves q) y k)
    (λ k. entry_form d s b leaves (q + 1) n y k)
    (in_append y (cell_here s b q (leaf_at leaves q) (is_in_leaf d leaves q)) (cells_from d s b leaves (q + 1) n) h)

pub kill_indexed : {N : Type 0} (d : Model) (s : Side) (b : ℕ) (leaves : List Leaf) (size : ℕ) (us : List Use) (cs left
    news ys : List (Cell N)) → AreIndexed us cs → left ≡ changed (left_by_kill s b) (fate_by_kill s b) cs
    → news ≡ cells_from d s b leaves 0 size → ys ≡ put_all news left → AreIndexed us ys
kill_indexed {N = N} d s b leaves size us cs left news ys a el en ey y k =
    let l : IsLocal {N = N} (left_by_kill s b) (fate_by_kill s b) = kill_local s b in
    ⊎_elim
    (λ i. indexed_none us y (entry_form d s b leaves 0 size y (subst (IsIn y) en i)))
    (λ j. indexed_reformed us (fate_by_kill s b) (each_becomes (left_by_kill s b) cs) l.names (indexed_each us
    (left_by_kill s b) (fate_by_kill s b) cs l a) y (subst (IsIn y) el j))
    (in_put_all news y left (subst (IsIn y) ey k))

-- ---- in the code's terms

pub kill_within : {N : Type 0} (D : Ops N) (d : Model) (s : Side) (b : ℕ) (us : List Use) (ps : List (Part (Cell N)))
    (es : List (Edit (Cell N))) → AreKilled D d s b us ps es → AreWithin (length ps) es
kill_within D d s b us ps es w = edits_within (after_step D d (Kill s b)) ps es w.plan.edits

pub record IsLeftByKill {N : Type 0} (s : Side) (b : ℕ) (ps zs : List (Part (Cell N))) : Type 0 where
  pub spread : AreSpread (outlines number_of zs)
  pub items : all_items zs ≡ changed (left_by_kill s b) (fate_by_kill s b) (all_items ps)
  pub short : AreShort (all_items zs)

pub kill_done : {N : Type 0} (D : Ops N) (d : Model) (s : Side) (b : ℕ) (us : List (Part Use)) (ps qs zs : List (Part
    (Cell N))) (es : List (Edit (Cell N))) → AreKept d ps us → outlines number_of qs ≡ outlines number_of ps
    → all_items qs ≡ all_items ps → AreKilled D d s b (all_items us) qs es → zs ≡ installed es qs
    → IsLeftByKill s b ps zs
kill_done {N = N} D d s b us ps qs zs es k o i w e =
    let j : AreKept d qs us = kept_copy d ps qs us us o i refl refl k in
    record {
      spread = subst (λ z. AreSpread (outlines number_of z)) (sym e) (kill_spread D d s b us qs es j w);
      items = ap all_items e ∙ kill_items D d s b us qs es j w ∙ ap (changed (left_by_kill s b) (fate_by_kill s b)) i;
      short = subst (λ z. AreShort (all_items z)) (sym e) (kill_short D d s b us qs es j w);
    }

pub kill_kept : {N : Type 0} (D : Ops N) (d : Model) (s : Side) (b : ℕ) (leaves : List Leaf) (size : ℕ) (us : List (Part
    Use)) (ps zs : List (Part (Cell N))) (left news : List (Cell N)) → KillLaws D → AreKept d ps us
    → AreLeavesIn d 0 size leaves → size < 4294967296
    → left ≡ changed (left_by_kill s b) (fate_by_kill s b) (all_items ps) → news ≡ entry_cells d s b leaves size
    → all_items zs ≡ put_all news left → AreSpread (outlines number_of zs) → AreKept d zs us
kill_kept {N = N} D d s b leaves size us ps zs left news law k l small el en ei t =
    let e = killed_is d s b leaves size (all_items ps) left news (all_items zs) el en ei in
    record {
      spread = t;
      uses = k.uses;
      cells = subst (AreCells d) (sym e) (law.cells d s b leaves size (all_items ps) k.cells l (omega (arith, small)));
      indexed = kill_indexed d s b leaves size (all_items us) (all_items ps) left news (all_items zs) k.indexed el en ei;
    }

pub put_done : {N : Type 0} (c : Cell N) (k i : ℕ) (ps qs rs : List (Part (Cell N))) (p q : Part (Cell N))
    → AreShort (all_items ps) → all_items qs ≡ all_items ps → AreSpread (outlines number_of qs)
    → c.offset < 4294967296 → k ≡ number_of c → rs ≡ qs → suc i ≡ parts_to k (outlines number_of rs) → i < length rs
    → p ≡ get_or qs i p → q.start ≡ p.start → q.items.value.items ≡ put c p.items.value.items
    → (all_items (set qs i q) ≡ put c (all_items ps)) × AreSpread (outlines number_of (set qs i q))
put_done c k i ps qs rs p q a e s o n r t b f g h =
    let t2 = subst (λ z. suc i ≡ parts_to z (outlines number_of qs)) n (subst (λ z. suc i ≡ parts_to k (outlines
    number_of z)) r t) in
    let done = put_part qs i p q c s (subst AreShort (sym e) a) o t2 (subst (λ z. i < length z) r b) f g h in
    (done.0 ∙ ap (put c) e, done.1)

-- more edits, among them those of the parts with pointers into the block
pub killed_from : {N : Type 0} (D : Ops N) (d : Model) (s : Side) (b from last : ℕ) (us : List Use) (ps : List (Part
    (Cell N))) (es fs : List (Edit (Cell N))) → from ≡ number_at b 0 → last ≡ number_at b 4294967295
    → IsPlan (after_step D d (Kill s b)) from last us ps es → AreEdits (after_step D d (Kill s b)) ps fs
    → KeepsEdits es fs → FindsPointers b ps fs → AreKilled D d s b us ps fs
killed_from D d s b from last us ps es fs i j p a k t = record {
  plan = subst (λ z. IsPlan (after_step D d (Kill s b)) (number_at b 0) z us ps fs) j
      (subst (λ z. IsPlan (after_step D d (Kill s b)) z last us ps fs) i (record {
        edits = a;
        place = still_covers number_of from last ps es fs k p.place;
        users = λ u n l m. still_covers number_of u.by u.by ps es fs k (p.users u n l m);
      }));
  pointers = t;
}
