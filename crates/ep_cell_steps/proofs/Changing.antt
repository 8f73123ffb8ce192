-- What a step of cells in parts comes to.
use Rattle.std.proofs.Common.{◌≡◌, ℕ, inl, inr, ⊎_elim, Bool, true, false, ◌&&◌, ◌||◌, not, nat_eq, cond, List, []}
use Rattle.std.proofs.Common.{◌∷◌, map, length, Option, Some, None, refl, sym, ◌∙◌, ap, subst, arith}
use Rattle.std.specs.Option.{option_map}
use Rattle.std.proofs.lemmas.Bool.{and_parts, false_from_ne_true}
use Rattle.std.proofs.lemmas.Bool.Decides.{nat_tests}
use Rattle.ep_int.specs.declared.types.Model.{Model}
use Rattle.ep_int.specs.declared.types.Scalar.TheVariants.{Int}
use Rattle.ep_bitslice.specs.declared.cell.CellName.{CellName}
use Rattle.ep_bitslice.specs.declared.cell.Side.{Side}
use Rattle.ep_bitslice.specs.declared.cell.Side.TheVariants.{Left, Right, Shared}
use Rattle.ep_domain.specs.Domain.{Ops}
use Rattle.ep_cells.specs.declared.cell.Cell.{Cell}
use Rattle.ep_cells.specs.declared.place.ByteRange.{ByteRange}
use Rattle.ep_cells.specs.Cells.{IsIn, first, later, place_of, place_of_name, touches, share_memory, side_without}
use Rattle.ep_cells.specs.Cells.{with_side, parts_of, is_same_cell, is_same_side, is_same_scalar, is_same_place, put}
use Rattle.ep_cells.specs.Cells.{put_all, each_becomes}
use Rattle.ep_cells.specs.Forms.{Fate, reformed}
use Rattle.ep_cells.specs.States.{AreCells}
use Rattle.ep_cells.specs.Write.{left_by_write, fate_by_write}
use Rattle.ep_cells.specs.Weaken.{blurred, with_join, weak_cell, weak_part, left_by_weak_write, first_part}
use Rattle.ep_cells.specs.Weaken.{fate_by_weak_write}
use Rattle.ep_cells.specs.Reshare.{left_by_reshare, fate_by_side, fate_by_reshare}
use Rattle.ep_cells.proofs.Lists.{in_each, in_put_all}
use Rattle.ep_reads.specs.Split.{is_name_of, left_by_split, fate_by_split}
use Rattle.ep_reads.specs.Unify.{is_of_one_side, is_byte, left_by_crossing, fate_by_crossing}
use Rattle.ep_cell_ranges.specs.Ranges.{left_by_blur}
use Rattle.ep_cell_rows.specs.Parts.{fate_by_unsharing}
use Rattle.ep_cell_rows.proofs.Order.{put_reformed}
use Rattle.ep_shared_parts.specs.declared.parts.Part.{Part}
use Rattle.ep_shared_parts.specs.declared.parts.Edit.{Edit}
use Rattle.ep_shared_parts.specs.declared.uses.Use.{Use}
use Rattle.ep_bicells.specs.declared.changes.Step.{Step}
use Rattle.ep_bicells.specs.declared.changes.Step.TheVariants.{Write, WeakWrite, Kill, Blur, Split, Cross, Unshare}
use Rattle.ep_bicells.specs.declared.changes.Step.TheVariants.{Lack, Reshare}
use Rattle.ep_shared_parts.specs.Spread.{outlines, all_items, AreSpread, installed, AreWithin}
use Rattle.ep_shared_parts.specs.Mentions.{number_at, number_of, number_of_name, number_of_use, IsNoted, AreIndexed}
use Rattle.ep_bicells.specs.Steps.{fate_to, left_by_unsharing, left_by_step, fate_of_step, after_step, changed_by}
use Rattle.ep_bicells.specs.Steps.{IsPlan}
use Rattle.ep_bicells.proofs.Looking.{Reaches}
use Rattle.ep_shared_parts.proofs.Planning.{Becomes, edits_within}
use Rattle.ep_cell_steps.specs.PartsInvariant.{AreKept}
use Rattle.ep_cell_steps.specs.Planned.{IsAlone, AreReached, FindsTargets}
use Rattle.ep_cell_steps.proofs.Making.{indexed_more}
use Rattle.ep_cell_steps.proofs.Local.{changed, IsLocal, indexed_reformed, indexed_each}
use Rattle.ep_cell_steps.proofs.Writing.{IsConfined, planned, apart_in, apart_name, write_confined, write_local}
use Rattle.ep_cell_steps.proofs.Writing.{write_name}
use Rattle.ep_cell_steps.proofs.Weakening.{weak_confined, weak_name}
use Rattle.ep_cell_steps.proofs.Killing.{kill_local, kill_becomes}
use Rattle.ep_cell_steps.proofs.Blurring.{Made, made_self, blurred_made, IsPart, parts_are, blur_local, blur_confined}

-- ---- what becomes of a cell begins where it does

weak_cell_made : {N : Type 0} (D : Ops N) (c x y : Cell N) (b : Bool)
    → IsIn y (cond b (with_join D c x ∷ []) (blurred D x x.what)) → Made x y
weak_cell_made D c x _ true (first _) = record { block = refl; offset = refl; form = inl refl }
weak_cell_made D c x y true (later _ _ h) = elim h [ ]
weak_cell_made D c x y false h = blurred_made D x y x.what h

weak_part_made : {N : Type 0} (D : Ops N) (c x y : Cell N) (b : Bool) → IsIn y (cond b (weak_cell D c x) (x ∷ []))
    → Made x y
weak_part_made D c x y true h = weak_cell_made D c x y (is_same_place c x) h
weak_part_made D c x y false h = made_self x y h

of_part : {N : Type 0} (x z y : Cell N) → IsPart x z → Made z y → Made x y
of_part x z y p m = record {
  block = m.block ∙ p.block;
  offset = m.offset ∙ p.offset;
  form = ⊎_elim (λ e. inl e) (λ e. inr (e ∙ p.form)) m.form;
}

part_itself : {N : Type 0} (x y : Cell N) → IsPart x y → Made x y
part_itself x y p = record { block = p.block; offset = p.offset; form = inr p.form }

weak_parts_made : {N : Type 0} (D : Ops N) (c x y : Cell N) (b : Bool)
    → IsIn y (cond b (weak_cell D c x) (each_becomes (weak_part D c) (parts_of x))) → Made x y
weak_parts_made D c x y true h = weak_cell_made D c x y (is_same_place c x) h
weak_parts_made D c x y false h =
    let r = in_each (weak_part D c) y (parts_of x) h in
    of_part x r.origin y (parts_are x r.origin x.side r.is_in) (weak_part_made D c r.origin y (share_memory c.side
    r.origin.side) r.becomes)

weak_made : {N : Type 0} (D : Ops N) (c x y : Cell N) (b s : Bool)
    → IsIn y (cond b (x ∷ []) (cond s (weak_cell D c x) (each_becomes (weak_part D c) (parts_of x)))) → Made x y
weak_made D c x y true s h = made_self x y h
weak_made D c x y false s h = weak_parts_made D c x y s h

side_made : {N : Type 0} (x : Cell N) (b : Bool) (o : Option Side) (y : Cell N)
    → IsIn y (cond b (with_side x o) (x ∷ [])) → Made x y
side_made x true None y h = elim h [ ]
side_made x true (Some s) _ (first _) = record { block = refl; offset = refl; form = inr refl }
side_made x true (Some s) y (later _ _ h) = elim h [ ]
side_made x false o y h = made_self x y h

parted_made : {N : Type 0} (x y : Cell N) (b : Bool) → IsIn y (cond b (parts_of x) (x ∷ [])) → Made x y
parted_made x y true h = part_itself x y (parts_are x y x.side h)
parted_made x y false h = made_self x y h

gone_made : {N : Type 0} (x y : Cell N) (b : Bool) → IsIn y (cond b [] (x ∷ [])) → Made x y
gone_made x y true h = elim h [ ]
gone_made x y false h = made_self x y h

local_by : {N : Type 0} (g : Cell N → List (Cell N)) (f : Fate) → ((x y : Cell N) → IsIn y (g x) → Made x y)
    → ((n m : CellName) → f n ≡ Some m → number_of_name m ≡ number_of_name n) → IsLocal g f
local_by g f h names = record {
  stays = λ x y k. let m = h x y k in record { block = m.block; offset = m.offset };
  forms = λ x y k. (h x y k).form;
  names = names;
}

-- ---- names

abbrev left_name : CellName → CellName
left_name n = record n { side = Left }

byte_name : (n m : CellName) (a b c : Bool) → cond a (cond b (Some (cond c n (left_name n))) None) (Some n) ≡ Some m
    → number_of_name m ≡ number_of_name n
byte_name n m true true true h = let e : m ≡ n = cc in ap number_of_name e
byte_name n m true true false h = let e : m ≡ left_name n = cc in ap number_of_name e
byte_name n m true false c h = absurd (cc)
byte_name n m false b c h = let e : m ≡ n = cc in ap number_of_name e

shared_name : (n m : CellName) (b : Bool) (s : Side) → fate_by_side b n s ≡ Some m → number_of_name m ≡ number_of_name n
shared_name n m b Shared h = let e : m ≡ n = cc in ap number_of_name e
shared_name n m true Left h = absurd (cc)
shared_name n m true Right h = absurd (cc)
shared_name n m false Left h = let e : m ≡ record n { side = Shared } = cc in ap number_of_name e
shared_name n m false Right h = let e : m ≡ record n { side = Shared } = cc in ap number_of_name e

reshared_name : (n m : CellName) (a b : Bool) → cond a (fate_by_side b n n.side) (Some n) ≡ Some m
    → number_of_name m ≡ number_of_name n
reshared_name n m true b h = shared_name n m b n.side h
reshared_name n m false b h = let e : m ≡ n = cc in ap number_of_name e

unshared_name : (n m : CellName) (b : Bool) → cond b (Some (record n { side = first_part n.side })) (Some n) ≡ Some m
    → number_of_name m ≡ number_of_name n
unshared_name n m true h = let e : m ≡ record n { side = first_part n.side } = cc in ap number_of_name e
unshared_name n m false h = let e : m ≡ n = cc in ap number_of_name e

pub step_local : {N : Type 0} (D : Ops N) (d : Model) (step : Step N)
    → IsLocal (left_by_step D d step) (fate_of_step d step)
step_local D d (Write p) = write_local d p
step_local D d (WeakWrite c stays) =
    local_by (left_by_weak_write D d c stays) (fate_by_weak_write (place_of d c))
    (λ x y k. weak_made D c x y (not (touches (place_of d c) (place_of d x))) (stays && is_same_place c x) k)
    (λ n m h. weak_name n m (touches (place_of d c) (place_of_name n)) (share_memory c.side (first_part n.side)) h)
step_local D d (Kill s b) = kill_local s b
step_local D d (Blur p) = blur_local D d p
step_local D d (Split s x) =
    local_by (left_by_split s x) (fate_by_split s x)
    (λ z y k. side_made z (is_same_cell z x) (side_without s z.side) y k)
    (λ n m h. write_name n m (is_name_of n x) (side_without s x.side) h)
step_local D d (Cross x) =
    local_by (left_by_crossing x) (fate_by_crossing x) (λ z y k. gone_made z y (is_same_cell z x) k)
    (λ n m h. byte_name n m (is_name_of n x) (is_byte x.what) (is_of_one_side x) h)
step_local D d (Unshare p) =
    local_by (left_by_unsharing d p) (fate_by_unsharing p) (λ z y k. parted_made z y (touches p (place_of d z)) k)
    (λ n m h. unshared_name n m (touches p (place_of_name n)) h)
step_local D d (Lack x) =
    local_by (left_by_crossing x) (fate_to None x) (λ z y k. gone_made z y (is_same_cell z x) k)
    (λ n m h. write_name n m (is_name_of n x) None h)
step_local D d (Reshare l r) =
    local_by (left_by_reshare l) (fate_by_reshare l r)
    (λ z y k. gone_made z y (nat_eq z.block l.block && nat_eq z.offset l.offset) k)
    (λ n m h. reshared_name n m (nat_eq n.block l.block && nat_eq n.offset l.offset) (l.maybe || r.maybe) h)

-- ---- what begins elsewhere stays

abbrev Elsewhere : {N : Type 0} → Cell N → (block offset : ℕ) → Type 0
Elsewhere x b q = number_at b q ≡ number_of x → ⊥

not_at : {N : Type 0} (x : Cell N) (b q : ℕ) → Elsewhere x b q → (nat_eq b x.block && nat_eq q x.offset) ≡ false
not_at x b q h = false_from_ne_true (nat_eq b x.block && nat_eq q x.offset) (λ e.
    let p = and_parts (nat_eq b x.block) (nat_eq q x.offset) e in
    let block : b ≡ x.block = grind (arith, nat_tests, p.0) in
    let offset : q ≡ x.offset = grind (arith, nat_tests, p.1) in h (omega (arith, block, offset)))

not_it : {N : Type 0} (x : Cell N) (b q : ℕ) (s w : Bool) → Elsewhere x b q
    → (s && (nat_eq b x.block && (nat_eq q x.offset && w))) ≡ false
not_it x b q s w h = false_from_ne_true (s && (nat_eq b x.block && (nat_eq q x.offset && w))) (λ e.
    let p = and_parts s (nat_eq b x.block && (nat_eq q x.offset && w)) e in
    let r = and_parts (nat_eq b x.block) (nat_eq q x.offset && w) p.1 in
    let t = and_parts (nat_eq q x.offset) w r.1 in
    let block : b ≡ x.block = grind (arith, nat_tests, r.0) in
    let offset : q ≡ x.offset = grind (arith, nat_tests, t.0) in h (omega (arith, block, offset)))

confined_to : {N : Type 0} (d : Model) (x : Cell N) (from last : ℕ) (g : Cell N → List (Cell N)) (f : Fate) (cs : List
    (Cell N)) → IsAlone x from last → ((z : Cell N) → Elsewhere x z.block z.offset → g z ≡ z ∷ [])
    → ((n : CellName) → Elsewhere x n.block n.offset → f n ≡ Some n) → IsConfined d from last g f cs
confined_to d x from last g f cs r h k =
    let begins : from ≡ number_of x = r.0 in
    let end : last ≡ number_of x = r.1 in
    record {
      cells = λ z i o. h z (λ e. o (omega (arith, e, begins)) (omega (arith, e, end)));
      names = λ n t o. k n (λ e. o (omega (arith, e, begins)) (omega (arith, e, end)));
    }

other_cell : {N : Type 0} (x z : Cell N) → Elsewhere x z.block z.offset → is_same_cell z x ≡ false
other_cell x z h = not_it x z.block z.offset (is_same_side z.side x.side) (is_same_scalar z.what x.what) h

other_name : {N : Type 0} (x : Cell N) (n : CellName) → Elsewhere x n.block n.offset → is_name_of n x ≡ false
other_name x n h = not_it x n.block n.offset (is_same_side n.side x.side) (is_same_scalar (Int n.t) x.what) h

name_stays : {N : Type 0} (o : Option Side) (x : Cell N) (n : CellName) → Elsewhere x n.block n.offset
    → fate_to o x n ≡ Some n
name_stays o x n h = ap (λ b. cond b (option_map (λ r. record n { side = r }) o) (Some n)) (other_name x n h)

cell_stays : {N : Type 0} (x z : Cell N) (ys : List (Cell N)) → Elsewhere x z.block z.offset
    → cond (is_same_cell z x) ys (z ∷ []) ≡ z ∷ []
cell_stays x z ys h = ap (λ b. cond b ys (z ∷ [])) (other_cell x z h)

crossed_stays : {N : Type 0} (x : Cell N) (n : CellName) → Elsewhere x n.block n.offset
    → fate_by_crossing x n ≡ Some n
crossed_stays x n h =
    ap (λ b. cond b (cond (is_byte x.what) (Some (cond (is_of_one_side x) n (left_name n))) None) (Some n))
    (other_name x n h)

unshared_confined : {N : Type 0} (d : Model) (p : ByteRange) (from last : ℕ) (cs : List (Cell N)) → Reaches p from last
    → AreCells d cs → IsConfined d from last (left_by_unsharing d p) (fate_by_unsharing p) cs
unshared_confined d p from last cs r a = record {
  cells = λ x i h. ap (λ b. cond b (parts_of x) (x ∷ [])) (apart_in d p x from last r i h);
  names = λ n t h. ap (λ b. cond b (Some (record n { side = first_part n.side })) (Some n))
      (apart_name d p n cs from last r a t h);
}

-- ---- what a step leaves

pub step_becomes : {N : Type 0} (D : Ops N) (d : Model) (step : Step N) (from last : ℕ) (us : List (Part Use)) (ps :
    List (Part (Cell N))) (es : List (Edit (Cell N))) → AreKept d ps us → AreReached d step from last
    → IsPlan (after_step D d step) from last (all_items us) ps es → FindsTargets step ps es
    → Becomes (changed (left_by_step D d step) (fate_of_step d step)) ps (installed es ps)
step_becomes D d (Write p) from last us ps es k r w t =
    planned d (left_by_write d p) (fate_by_write p) from last (all_items us) ps es k.cells k.indexed
    (write_confined d p from last (all_items ps) r k.cells) w
step_becomes D d (WeakWrite c stays) from last us ps es k r w t =
    planned d (left_by_weak_write D d c stays) (fate_by_weak_write (place_of d c)) from last (all_items us) ps es k.cells
    k.indexed (weak_confined D d c stays from last (all_items ps) r k.cells) w
step_becomes D d (Kill s b) from last us ps es k r w t =
    kill_becomes D d s b us ps es k (record {
      plan = subst (λ z. IsPlan (after_step D d (Kill s b)) (number_at b 0) z (all_items us) ps es) r.1
          (subst (λ z. IsPlan (after_step D d (Kill s b)) z last (all_items us) ps es) r.0 w);
      pointers = t;
    })
step_becomes D d (Blur p) from last us ps es k r w t =
    planned d (left_by_blur D d p) (fate_by_weak_write p) from last (all_items us) ps es k.cells k.indexed
    (blur_confined D d p from last (all_items ps) r k.cells) w
step_becomes D d (Split s x) from last us ps es k r w t =
    planned d (left_by_split s x) (fate_by_split s x) from last (all_items us) ps es k.cells k.indexed
    (confined_to d x from last (left_by_split s x) (fate_by_split s x) (all_items ps) r
    (λ z h. cell_stays x z (with_side z (side_without s z.side)) h) (λ n h. name_stays (side_without s x.side) x n h)) w
step_becomes D d (Cross x) from last us ps es k r w t =
    planned d (left_by_crossing x) (fate_by_crossing x) from last (all_items us) ps es k.cells k.indexed
    (confined_to d x from last (left_by_crossing x) (fate_by_crossing x) (all_items ps) r
    (λ z h. cell_stays x z [] h) (λ n h. crossed_stays x n h)) w
step_becomes D d (Unshare p) from last us ps es k r w t =
    planned d (left_by_unsharing d p) (fate_by_unsharing p) from last (all_items us) ps es k.cells k.indexed
    (unshared_confined d p from last (all_items ps) r k.cells) w
step_becomes D d (Lack x) from last us ps es k r w t =
    planned d (left_by_crossing x) (fate_to None x) from last (all_items us) ps es k.cells k.indexed
    (confined_to d x from last (left_by_crossing x) (fate_to None x) (all_items ps) r
    (λ z h. cell_stays x z [] h) (λ n h. name_stays None x n h)) w
step_becomes {N = N} D d (Reshare l o) from last us ps es k r w t =
    planned d (left_by_reshare l) (fate_by_reshare l o) from last (all_items us) ps es k.cells k.indexed
    (confined_to d l from last (left_by_reshare l) (fate_by_reshare l o) (all_items ps) r
    (λ z h. ap (λ b. cond b [] (z ∷ [])) (not_at l z.block z.offset h))
    (λ n h. ap (λ b. cond b (fate_by_side (l.maybe || o.maybe) n n.side) (Some n)) (not_at l n.block n.offset h))) w

pub plan_within : {N : Type 0} (h : List (Cell N) → List (Cell N)) (from last : ℕ) (us : List Use) (ps qs : List (Part
    (Cell N))) (es : List (Edit (Cell N))) → ps ≡ qs → IsPlan h from last us ps es → AreWithin (length qs) es
plan_within h from last us ps qs es e w =
    subst (λ z. AreWithin (length z) es) e (edits_within h ps es w.edits)

-- ---- new cells

put_all_reformed : {N : Type 0} (f : Fate) (new cs : List (Cell N))
    → map (reformed f) (put_all new cs) ≡ put_all (map (reformed f) new) (map (reformed f) cs)
put_all_reformed f [] cs = refl
put_all_reformed f (c ∷ new) cs =
    put_reformed f c (put_all new cs) ∙ ap (put (reformed f c)) (put_all_reformed f new cs)

pub changed_items : {N : Type 0} (D : Ops N) (d : Model) (step : Step N) (new made cs left zs : List (Cell N))
    → left ≡ changed (left_by_step D d step) (fate_of_step d step) cs → made ≡ map (reformed (fate_of_step d step)) new
    → zs ≡ put_all made left → zs ≡ changed_by D d step new cs
changed_items D d step new made cs left zs el em ez =
    ez ∙ ap (λ l. put_all l left) em ∙ ap (put_all (map (reformed (fate_of_step d step)) new)) el
    ∙ sym (put_all_reformed (fate_of_step d step) new (each_becomes (left_by_step D d step) cs))

changed_indexed : {N : Type 0} (D : Ops N) (d : Model) (step : Step N) (us vs : List Use) (made cs left zs : List (Cell
    N)) → AreIndexed us cs → ((u : Use) → IsNoted us u → IsNoted vs u) → AreIndexed vs made
    → left ≡ changed (left_by_step D d step) (fate_of_step d step) cs → zs ≡ put_all made left → AreIndexed vs zs
changed_indexed D d step us vs made cs left zs a f n el ez y k =
    let l = step_local D d step in
    ⊎_elim (λ i. n y i)
    (λ j. indexed_more us vs y f (indexed_reformed us (fate_of_step d step) (each_becomes (left_by_step D d step) cs)
    l.names (indexed_each us (left_by_step D d step) (fate_of_step d step) cs l a) y (subst (IsIn y) el j)))
    (in_put_all made y left (subst (IsIn y) ez k))

pub changed_kept : {N : Type 0} (D : Ops N) (d : Model) (step : Step N) (us vs ws : List (Part Use)) (ps zs : List
    (Part (Cell N))) (new made left : List (Cell N)) → AreKept d ps us
    → AreCells d (changed_by D d step new (all_items ps))
    → left ≡ changed (left_by_step D d step) (fate_of_step d step) (all_items ps)
    → made ≡ map (reformed (fate_of_step d step)) new
    → all_items zs ≡ put_all made left → AreSpread (outlines number_of zs)
    → all_items vs ≡ all_items us → ((u : Use) → IsNoted (all_items vs) u → IsNoted (all_items ws) u)
    → AreSpread (outlines number_of_use ws) → AreIndexed (all_items ws) made → AreKept d zs ws
changed_kept D d step us vs ws ps zs new made left k state el em ez t e f s n = record {
  spread = t;
  uses = s;
  cells = subst (AreCells d) (sym (changed_items D d step new made (all_items ps) left (all_items zs) el em ez)) state;
  indexed = changed_indexed D d step (all_items us) (all_items ws) made (all_items ps) left (all_items zs) k.indexed
      (λ u h. f u (subst (λ z. IsNoted z u) (sym e) h)) n el ez;
}

-- the same step with the same cells
pub same_change : {N : Type 0} (D : Ops N) (d : Model) (step other : Step N) (new more cs : List (Cell N)) → step ≡ other
    → new ≡ more → changed_by D d step new cs ≡ changed_by D d other more cs
same_change D d step other new more cs e f =
    ap (λ z. changed_by D d z new cs) e ∙ ap (λ z. changed_by D d other z cs) f
