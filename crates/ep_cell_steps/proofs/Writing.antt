-- What edits of touched parts come to.
use Rattle.std.proofs.Common.{◌≡◌, ℕ, zero, suc, ◌+◌, ◌<◌, ◌≤◌, ◌^◌, inr, Bool, true, false, cond, nat_le, List, []}
use Rattle.ep_int.proofs.Basics.{size_positive}
use Rattle.std.proofs.lemmas.List.{get_or_default}
use Rattle.std.proofs.Common.{◌∷◌, ◌++◌, length, set, get_or, Option, Some, None, refl, sym, ◌∙◌, ap, subst, arith}
use Rattle.std.specs.Option.{option_map}
use Rattle.std.proofs.lemmas.Bool.{false_from_ne_true}
use Rattle.ep_int.specs.declared.types.Model.{Model}
use Rattle.ep_int.specs.Types.{size_of}
use Rattle.ep_bitslice.specs.declared.cell.CellName.{CellName}
use Rattle.ep_bitslice.specs.declared.cell.Side.{Side}
use Rattle.ep_domain.specs.Domain.{Ops}
use Rattle.ep_cells.specs.declared.cell.Cell.{Cell}
use Rattle.ep_cells.specs.declared.place.ByteRange.{ByteRange}
use Rattle.ep_cells.specs.Cells.{IsIn, place_of, place_of_name, touches, side_without, with_side, put, each_becomes}
use Rattle.ep_cells.specs.Forms.{Fate, reformed}
use Rattle.ep_cells.specs.States.{Fits, IsThere, IsCell, AreCells, CanWrite, HasRisingBlocks}
use Rattle.ep_cells.specs.Write.{left_by_write, fate_by_write, written}
use Rattle.ep_cells.proofs.Write.{left_is, place_named, write_cells}
use Rattle.ep_cell_rows.proofs.Order.{put_reformed}
use Rattle.ep_shared_parts.specs.declared.parts.Part.{Part}
use Rattle.ep_shared_parts.specs.declared.parts.Edit.{Edit}
use Rattle.ep_shared_parts.specs.declared.uses.Use.{Use}
use Rattle.ep_bicells.specs.declared.changes.Step.TheVariants.{Write}
use Rattle.ep_shared_parts.specs.Spread.{outlines, all_items, AreSpread, parts_to, installed, AreWithin}
use Rattle.ep_shared_parts.specs.Mentions.{number_at, number_of, number_of_name, number_of_use, IsNoted, AreIndexed}
use Rattle.ep_shared_parts.specs.Plans.{is_edited}
use Rattle.ep_bicells.specs.Steps.{after_step, IsPlan}
use Rattle.ep_shared_parts.proofs.Adding.{set_spread}
use Rattle.ep_bicells.proofs.Looking.{Reaches, touched_number}
use Rattle.ep_shared_parts.proofs.Planning.{IsDone, Becomes, as_many_installed, becomes_items}
use Rattle.ep_shared_parts.proofs.Planning.{becomes_spread, plan_becomes, edits_within, uncovered}
use Rattle.ep_cell_steps.specs.PartsInvariant.{IsIndexed, AreKept}
use Rattle.ep_cell_steps.specs.Killed.{AreShort}
use Rattle.ep_cell_steps.specs.Writes.{AreWritten}
use Rattle.ep_cell_steps.proofs.Making.{indexed_more}
use Rattle.ep_cell_steps.proofs.Local.{changed, IsLocal, comes, keeps_numbers, goes_apart, in_part, IsBeside}
use Rattle.ep_cell_steps.proofs.Local.{unedited, outside_at, indexed_reformed, indexed_each, indexed_put, short_cell}
use Rattle.ep_cell_steps.proofs.Local.{put_in_part, adds_put}

-- ---- edits one after another

pub installed_last : {X : Type 0} (es : List (Edit X)) (e : Edit X) (ps : List (Part X))
    → installed (es ++ e ∷ []) ps ≡ set (installed es ps) e.at e.part
installed_last [] e ps = refl
installed_last (f ∷ es) e ps = installed_last es e (set ps f.at f.part)

pub within_last : {X : Type 0} (n : ℕ) (es : List (Edit X)) (e : Edit X) → AreWithin n es → e.at < n
    → AreWithin n (es ++ e ∷ [])
within_last n [] e h l = (l, tt)
within_last n (f ∷ es) e h l = (h.0, within_last n es e h.1 l)

pub becomes_at : {X : Type 0} (h : List X → List X) (ps qs : List (Part X)) (i : ℕ) (d : Part X) → Becomes h ps qs
    → i < length ps → IsDone h (get_or ps i d) (get_or qs i d)
becomes_at h [] qs i d b l = absurd (omega arith)
becomes_at h (p ∷ ps) [] i d b l = absurd b
becomes_at h (p ∷ ps) (q ∷ qs) zero d b l = b.0
becomes_at h (p ∷ ps) (q ∷ qs) (suc i) d b l = becomes_at h ps qs i d b.1 (omega arith)

pub becomes_starts : {X : Type 0} (number : X → ℕ) (h : List X → List X) (k : ℕ) (ps qs : List (Part X))
    → Becomes h ps qs → parts_to k (outlines number qs) ≡ parts_to k (outlines number ps)
becomes_starts number h k [] [] b = refl
becomes_starts number h k [] (q ∷ qs) b = absurd b
becomes_starts number h k (p ∷ ps) [] b = absurd b
becomes_starts number h k (p ∷ ps) (q ∷ qs) b =
    ap (λ n. cond (nat_le n k) (suc (parts_to k (outlines number qs))) 0) b.0.start
    ∙ ap (λ n. cond (nat_le p.start k) (suc n) 0) (becomes_starts number h k ps qs b.1)

-- ---- one cell more

-- the edits of a change, and a last one that puts a cell
pub record Puts {N : Type 0} (h : List (Cell N) → List (Cell N)) (c : Cell N) (ps : List (Part (Cell N))) (end : Edit
    (Cell N)) : Type 0 where
  pub within : end.at < length ps
  pub there : suc end.at ≡ parts_to (number_of c) (outlines number_of ps)
  pub start : end.part.start ≡ (get_or ps end.at end.part).start
  pub items : end.part.items.value.items ≡ put c (h (get_or ps end.at end.part).items.value.items)

-- the part that takes it, among those that are changed
record Takes {N : Type 0} (c : Cell N) (qs : List (Part (Cell N))) (end : Edit (Cell N)) : Type 0 where
  part : Part (Cell N)
  is : part ≡ get_or qs end.at part
  within : end.at < length qs
  there : suc end.at ≡ parts_to (number_of c) (outlines number_of qs)
  start : end.part.start ≡ part.start
  items : end.part.items.value.items ≡ put c part.items.value.items

takes : {N : Type 0} (h : List (Cell N) → List (Cell N)) (c : Cell N) (ps qs : List (Part (Cell N))) (end : Edit
    (Cell N)) → Puts h c ps end → Becomes h ps qs → length qs ≡ length ps → Takes c qs end
takes h c ps qs end p b l =
    let done = becomes_at h ps qs end.at end.part b p.within in
    let within : end.at < length qs = omega (arith, p.within, l) in
    record {
      part = get_or qs end.at end.part;
      is = get_or_default qs end.at end.part (get_or qs end.at end.part) within;
      within = within;
      there = p.there ∙ sym (becomes_starts number_of h (number_of c) ps qs b);
      start = p.start ∙ sym done.start;
      items = p.items ∙ ap (put c) (sym done.items);
    }

pub put_items : {N : Type 0} (h : List (Cell N) → List (Cell N)) (c : Cell N) (ps qs : List (Part (Cell N))) (end :
    Edit (Cell N)) → Puts h c ps end → Becomes h ps qs → length qs ≡ length ps → AreSpread (outlines number_of qs)
    → AreShort (all_items qs) → c.offset < 4294967296
    → all_items (set qs end.at end.part) ≡ put c (all_items qs)
put_items h c ps qs end p b l s a o =
    let t = takes h c ps qs end p b l in
    put_in_part qs end.at t.part end.part c s a o t.there t.within t.is t.items

pub put_spread : {N : Type 0} (h : List (Cell N) → List (Cell N)) (c : Cell N) (ps qs : List (Part (Cell N))) (end :
    Edit (Cell N)) → Puts h c ps end → Becomes h ps qs → length qs ≡ length ps → AreSpread (outlines number_of qs)
    → AreSpread (outlines number_of (set qs end.at end.part))
put_spread h c ps qs end p b l s =
    let t = takes h c ps qs end p b l in
    set_spread number_of qs end.at t.part end.part (number_of c) t.there t.is t.start (adds_put c
    t.part.items.value.items end.part.items.value.items t.items) s

-- ---- what a plan leaves

-- each cell that isn't in the span stays, and each name there goes on
pub record IsConfined {N : Type 0} (d : Model) (from last : ℕ) (g : Cell N → List (Cell N)) (f : Fate) (cs : List
    (Cell N)) : Type 0 where
  pub cells : (x : Cell N) → IsCell d x → (from ≤ number_of x → number_of x ≤ last → ⊥) → g x ≡ x ∷ []
  pub names : IsBeside from last f cs

pub planned_by : {N : Type 0} (d : Model) (g : Cell N → List (Cell N)) (f : Fate) (from last : ℕ) (us : List Use) (ps :
    List (Part (Cell N))) (es : List (Edit (Cell N)))
    → AreCells d (all_items ps) → AreIndexed us (all_items ps) → IsBeside from last f (all_items ps)
    → ((i : ℕ) (q : Part (Cell N)) → i < length ps → is_edited i es ≡ false → (x : Cell N)
    → IsIn x (get_or ps i q).items.value.items → g x ≡ x ∷ [])
    → IsPlan (changed g f) from last us ps es → Becomes (changed g f) ps (installed es ps)
planned_by d g f from last us ps es a n c h p = plan_becomes (changed g f) ps es p.edits (λ i q b e.
    unedited d g f from last us ps es i q a n c p.users b e (h i q b e))

pub planned : {N : Type 0} (d : Model) (g : Cell N → List (Cell N)) (f : Fate) (from last : ℕ) (us : List Use) (ps :
    List (Part (Cell N))) (es : List (Edit (Cell N)))
    → AreCells d (all_items ps) → AreIndexed us (all_items ps) → IsConfined d from last g f (all_items ps)
    → IsPlan (changed g f) from last us ps es → Becomes (changed g f) ps (installed es ps)
planned d g f from last us ps es a n c p = planned_by d g f from last us ps es a n c.names (λ i q b e x k.
    c.cells x (a.each x (in_part ps i q x b k))
    (outside_at from last x (get_or ps i q).items.value.items (uncovered number_of from last ps es i q p.place b e)
    k)) p

pub short_changed : {N : Type 0} (d : Model) (g : Cell N → List (Cell N)) (f : Fate) (cs ys : List (Cell N))
    → IsLocal g f → AreCells d cs → ys ≡ changed g f cs → AreShort ys
short_changed d g f cs ys l a e y k =
    let r = comes g f cs y l (subst (IsIn y) e k) in
    let o = short_cell d r.origin (a.each r.origin r.is_in) in
    let s = r.stays.offset in omega (arith, o, s)

-- ---- writes

pub apart_in : {N : Type 0} (d : Model) (p : ByteRange) (x : Cell N) (from last : ℕ) → Reaches p from last → IsCell d x
    → (from ≤ number_of x → number_of x ≤ last → ⊥) → touches p (place_of d x) ≡ false
apart_in d p x from last r i h = false_from_ne_true (touches p (place_of d x)) (λ e.
    let n = touched_number d p x from last r i e in h n.0 n.1)

named_number : {N : Type 0} (n : CellName) (cs : List (Cell N)) (t : IsThere n cs)
    → number_of t.cell ≡ number_of_name n
named_number n cs t = ap (λ b. number_at b t.cell.offset) t.named.block ∙ ap (λ q. number_at n.block q) t.named.offset

pub apart_name : {N : Type 0} (d : Model) (p : ByteRange) (n : CellName) (cs : List (Cell N)) (from last : ℕ)
    → Reaches p from last → AreCells d cs → IsThere n cs
    → (from ≤ number_of_name n → number_of_name n ≤ last → ⊥) → touches p (place_of_name n) ≡ false
apart_name d p n cs from last r a t h =
    let e = named_number n cs t in
    sym (ap (touches p) (place_named d n t.cell t.named))
    ∙ apart_in d p t.cell from last r (a.each t.cell t.is_in) (λ l m. h (omega (arith, l, e)) (omega (arith, m, e)))

pub write_confined : {N : Type 0} (d : Model) (p : ByteRange) (from last : ℕ) (cs : List (Cell N)) → Reaches p from last
    → AreCells d cs → IsConfined d from last (left_by_write d p) (fate_by_write p) cs
write_confined d p from last cs r a = record {
  cells = λ x i h. ap (λ b. cond b (with_side x (side_without p.side x.side)) (x ∷ [])) (apart_in d p x from last r i h);
  names = λ n t h. ap (λ b. cond b (option_map (λ s. record n { side = s }) (side_without p.side n.side)) (Some n))
      (apart_name d p n cs from last r a t h);
}

pub write_name : (n m : CellName) (b : Bool) (o : Option Side) → cond b (option_map (λ s. record n { side = s }) o) (Some n)
    ≡ Some m → number_of_name m ≡ number_of_name n
write_name n m true None h = absurd (cc)
write_name n m true (Some s) h = let e : m ≡ record n { side = s } = cc in ap number_of_name e
write_name n m false o h = let e : m ≡ n = cc in ap number_of_name e

pub write_local : {N : Type 0} (d : Model) (p : ByteRange) → IsLocal {N = N} (left_by_write d p) (fate_by_write p)
write_local d p = record {
  stays = λ x y k. let l = left_is d p x y k in record {
    block = ap (λ z. z.block) l.is;
    offset = ap (λ z. z.offset)
        l.is;
  };
  forms = λ x y k. let l = left_is d p x y k in inr (ap (λ z. z.form) l.is);
  names = λ n m h. write_name n m (touches p (place_of_name n)) (side_without p.side n.side) h;
}

short_fits : {N : Type 0} (d : Model) (c : Cell N) → Fits d c → c.offset < 4294967296
short_fits d c f =
    let size = size_positive d c.what in
    let last : c.offset + size_of d c.what ≤ 2 ^ 32 = f.last in
    omega (arith, size, last)

write_puts : {N : Type 0} (D : Ops N) (d : Model) (c : Cell N) (us : List Use) (ps : List (Part (Cell N))) (es : List
    (Edit (Cell N))) (w : AreWritten D d c us ps es)
    → Puts (changed (left_by_write d (place_of d c)) (fate_by_write (place_of d c))) (reformed (fate_by_write (place_of d
    c)) c) ps w.end
write_puts D d c us ps es w = record {
  within = w.within;
  there = w.there;
  start = w.start;
  items = w.items ∙ put_reformed (fate_by_write (place_of d c)) c (each_becomes (left_by_write d (place_of d c))
      (get_or ps w.end.at w.end.part).items.value.items);
}

pub write_done : {N : Type 0} (D : Ops N) (d : Model) (c : Cell N) (us : List (Part Use)) (ps : List (Part (Cell N)))
    (es : List (Edit (Cell N))) → AreKept d ps us → CanWrite d c (all_items ps)
    → AreWritten D d c (all_items us) ps es
    → (all_items (installed es ps) ≡ written d c (all_items ps)) × AreSpread (outlines number_of (installed es ps))
write_done {N = N} D d c us ps es k w a =
    let p = place_of d c in
    let g : Cell N → List (Cell N) = left_by_write d p in
    let f = fate_by_write p in
    let l : IsLocal g f = write_local d p in
    let qs = installed a.before ps in
    let b : Becomes (changed g f) ps qs = planned d g f a.from a.last (all_items us) ps a.before k.cells k.indexed
    (write_confined d p a.from a.last (all_items ps) a.reaches k.cells) a.plan in
    let n = as_many_installed a.before ps in
    let i : all_items qs ≡ changed g f (all_items ps) = becomes_items (changed g f) ps qs (goes_apart g f) b in
    let s = becomes_spread number_of (changed g f) ps qs (keeps_numbers g f l) b k.spread in
    let u = write_puts D d c (all_items us) ps es a in
    let e : installed es ps ≡ set qs a.end.at a.end.part = ap (λ z. installed z ps) a.are ∙ installed_last a.before
    a.end ps in (
      ap all_items e
          ∙ put_items (changed g f) (reformed f c) ps qs a.end u b n s (short_changed d g f (all_items ps) (all_items qs) l
          k.cells i) (short_fits d c w.fits)
          ∙ ap (put (reformed f c)) i
          ∙ sym (put_reformed f c (each_becomes g (all_items ps))),
      subst (λ z. AreSpread (outlines number_of z)) (sym e) (put_spread (changed g f) (reformed f c) ps qs a.end u b n
          s),
    )

pub write_within : {N : Type 0} (D : Ops N) (d : Model) (c : Cell N) (us : List Use) (ps : List (Part (Cell N))) (es :
    List (Edit (Cell N))) → AreWritten D d c us ps es → AreWithin (length ps) es
write_within D d c us ps es a =
    subst (AreWithin (length ps)) (sym a.are) (within_last (length ps) a.before a.end (edits_within (after_step D d
    (Write (place_of d c))) ps a.before a.plan.edits) a.within)

pub write_kept : {N : Type 0} (D : Ops N) (d : Model) (c : Cell N) (us : List (Part Use)) (ps : List (Part (Cell N)))
    (es : List (Edit (Cell N))) → AreKept d ps us → CanWrite d c (all_items ps) → HasRisingBlocks c.value
    → IsIndexed (all_items us) c → AreWritten D d c (all_items us) ps es → AreKept d (installed es ps) us
write_kept {N = N} D d c us ps es k w r n a =
    let p = place_of d c in
    let l : IsLocal {N = N} (left_by_write d p) (fate_by_write p) = write_local d p in
    let done = write_done D d c us ps es k w a in
    record {
      spread = done.1;
      uses = k.uses;
      cells = subst (AreCells d) (sym done.0) (write_cells d c (all_items ps) k.cells w r);
      indexed = subst (AreIndexed (all_items us)) (sym done.0) (indexed_reformed (all_items us) (fate_by_write p) (put c
          (each_becomes (left_by_write d p) (all_items ps))) l.names (indexed_put (all_items us) c (each_becomes
          (left_by_write d p) (all_items ps)) n (indexed_each (all_items us) (left_by_write d p) (fate_by_write p)
          (all_items ps) l k.indexed)));
    }

-- the same cells in other parts, and more in the index
pub kept_grown : {N : Type 0} (d : Model) (ps qs : List (Part (Cell N))) (us vs : List (Part Use)) → AreKept d ps us
    → all_items qs ≡ all_items ps → AreSpread (outlines number_of qs) → AreSpread (outlines number_of_use vs)
    → ((u : Use) → IsNoted (all_items us) u → IsNoted (all_items vs) u) → AreKept d qs vs
kept_grown d ps qs us vs k e s t f = record {
  spread = s;
  uses = t;
  cells = subst (AreCells d) (sym e) k.cells;
  indexed = subst (AreIndexed (all_items vs)) (sym e) (λ c i. indexed_more (all_items us) (all_items vs) c f (k.indexed
      c i));
}

-- ---- in the code's terms

pub written_from : {N : Type 0} (D : Ops N) (d : Model) (c : Cell N) (p : ByteRange) (from last : ℕ) (us : List Use) (ps :
    List (Part (Cell N))) (before es : List (Edit (Cell N))) (i : ℕ) (r q : Part (Cell N)) → p ≡ place_of d c
    → Reaches p from last → IsPlan (after_step D d (Write p)) from last us ps before
    → es ≡ before ++ record { at = i; part = q } ∷ [] → i < length ps
    → suc i ≡ parts_to (number_of c) (outlines number_of ps) → r ≡ get_or ps i r → q.start ≡ r.start
    → q.items.value.items ≡ written d c r.items.value.items → AreWritten D d c us ps es
written_from D d c p from last us ps before es i r q e h l a b t g s w =
    let same : r ≡ get_or ps i q = g ∙ get_or_default ps i r q b in
    record {
      before = before;
      end = record { at = i; part = q };
      are = a;
      from = from;
      last = last;
      reaches = subst (λ z. Reaches z from last) e h;
      plan = subst (λ z. IsPlan (after_step D d (Write z)) from last us ps before) e l;
      within = b;
      there = t;
      start = s ∙ ap (λ z. z.start) same;
      items = w ∙ ap (λ z. written d c z.items.value.items) same;
    }

pub written_of : {N : Type 0} (D : Ops N) (d : Model) (c : Cell N) (us vs : List (Part Use)) (ps qs : List (Part (Cell
    N))) (es : List (Edit (Cell N))) → us ≡ vs → ps ≡ qs → AreWritten D d c (all_items us) ps es
    → AreWritten D d c (all_items vs) qs es
written_of D d c us vs ps qs es e f a =
    subst (λ z. AreWritten D d c (all_items z) qs es) e (subst (λ z. AreWritten D d c (all_items us) z es) f a)
