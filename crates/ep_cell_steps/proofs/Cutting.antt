-- Cells in order that are cut into parts.
use Rattle.std.proofs.Common.{◌≡◌, ℕ, suc, ◌<◌, ◌≤◌, Bool, true, false, nat_lt, List, [], ◌∷◌, ◌++◌, map, refl, sym}
use Rattle.std.proofs.lemmas.List.{append-nil}
use Rattle.ep_int.proofs.Basics.{true_and_false}
use Rattle.std.proofs.Common.{◌∙◌, ap, subst, arith, append_assoc}
use Rattle.std.proofs.lemmas.Bool.Decides.{nat_tests}
use Rattle.ep_int.specs.declared.types.Model.{Model}
use Rattle.ep_cells.specs.declared.cell.Cell.{Cell}
use Rattle.ep_cells.specs.Cells.{IsIn, first, later, comes_before}
use Rattle.ep_cells.specs.States.{Each, EachPair, AreApart, IsCell, AreCells}
use Rattle.ep_shared_parts.specs.declared.parts.Part.{Part}
use Rattle.ep_shared_parts.specs.Spread.{Outline, outlines, all_items, AreFrom, AreBelow, EndsBefore, AreSpread}
use Rattle.ep_shared_parts.specs.Mentions.{number_of}
use Rattle.ep_shared_parts.proofs.Halving.{outlines_append, items_append}
use Rattle.ep_cell_steps.specs.Opened.{IsOpen}
use Rattle.ep_cell_steps.proofs.Local.{number_behind, short_cell}

-- ---- numbers

from_more : (a k : ℕ) (ns : List ℕ) → AreFrom a ns → a ≤ k → AreFrom a (ns ++ k ∷ [])
from_more a k [] h b = (b, tt)
from_more a k (n ∷ ns) h b = (h.0, from_more a k ns h.1 b)

below_more : (a b k : ℕ) (ns : List ℕ) → AreBelow a ns → a ≤ b → k < b → AreBelow b (ns ++ k ∷ [])
below_more a b k [] h le l = (l, tt)
below_more a b k (n ∷ ns) h le l = (omega (arith, h.0, le), below_more a b k ns h.1 le l)

below_from : (a b : ℕ) (ns : List ℕ) → AreBelow a ns → a ≤ b → AreBelow b ns
below_from a b [] h le = tt
below_from a b (n ∷ ns) h le = (omega (arith, h.0, le), below_from a b ns h.1 le)

numbers_more : {N : Type 0} (cs : List (Cell N)) (c : Cell N)
    → map number_of (cs ++ c ∷ []) ≡ map number_of cs ++ number_of c ∷ []
numbers_more [] c = refl
numbers_more (x ∷ cs) c = ap (λ ns. number_of x ∷ ns) (numbers_more cs c)

-- ---- the last part grows, or is closed

abbrev outline_of : ℕ → List ℕ → Outline
outline_of s ns = record { start = s; numbers = ns }

ends_more : (o : Outline) (os : List Outline) (s : ℕ) (ns ms : List ℕ) → EndsBefore o (os ++ outline_of s ns ∷ [])
    → EndsBefore o (os ++ outline_of s ms ∷ [])
ends_more o [] s ns ms h = h
ends_more o (p ∷ os) s ns ms h = h

spread_more : (os : List Outline) (s k : ℕ) (ns : List ℕ) → AreSpread (os ++ outline_of s ns ∷ []) → s ≤ k
    → AreSpread (os ++ outline_of s (ns ++ k ∷ []) ∷ [])
spread_more [] s k ns h b = (from_more s k ns h.0 b, tt, tt)
spread_more (o ∷ os) s k ns h b = (h.0, ends_more o os s ns (ns ++ k ∷ []) h.1, spread_more os s k ns h.2 b)

ends_next : (o p q : Outline) (os : List Outline) → EndsBefore o (os ++ p ∷ [])
    → EndsBefore o ((os ++ p ∷ []) ++ q ∷ [])
ends_next o p q [] h = h
ends_next o p q (r ∷ os) h = h

spread_next : (os : List Outline) (s k : ℕ) (ns : List ℕ) → AreSpread (os ++ outline_of s ns ∷ []) → AreBelow k ns
    → s ≤ k
    → AreSpread ((os ++ outline_of s ns ∷ []) ++ outline_of k [] ∷ [])
spread_next [] s k ns h b le = (h.0, (le, b), (tt, tt, tt))
spread_next (o ∷ os) s k ns h b le =
    (h.0, ends_next o (outline_of s ns) (outline_of k []) os h.1, spread_next os s k ns h.2 b le)

closed_outlines : {N : Type 0} (ps qs : List (Part (Cell N))) (p : Part (Cell N)) (s : ℕ) (cs : List (Cell N))
    → qs ≡ ps ++ p ∷ [] → p.start ≡ s → p.items.value.items ≡ cs
    → outlines number_of qs ≡ outlines number_of ps ++ outline_of s (map number_of cs) ∷ []
closed_outlines ps qs p s cs e f g =
    ap (λ xs. outlines number_of xs) e ∙ outlines_append number_of ps (p ∷ [])
    ∙ ap (λ k. outlines number_of ps ++ outline_of k (map number_of p.items.value.items) ∷ []) f
    ∙ ap (λ xs. outlines number_of ps ++ outline_of s (map number_of xs) ∷ []) g

-- ---- a part that may still grow

pub open_first : {N : Type 0} (ps : List (Part (Cell N))) (cs : List (Cell N)) → ps ≡ [] → cs ≡ [] → IsOpen ps 0 0 cs
open_first {N = N} ps cs e f =
    subst (λ xs. IsOpen xs 0 0 cs) (sym e) (subst (λ xs. IsOpen {N = N} [] 0 0 xs) (sym f) (record {
      spread = (tt, tt, tt);
      rises = omega arith;
      below = tt;
    }))

open_more : {N : Type 0} (ps : List (Part (Cell N))) (from last : ℕ) (cs ds : List (Cell N)) (c : Cell N)
    → IsOpen ps from last cs → last ≤ number_of c → ds ≡ cs ++ c ∷ [] → IsOpen ps from (number_of c) ds
open_more ps from last cs ds c o le e =
    let rises : from ≤ number_of c = omega (arith, o.rises, le) in
    let numbers : map number_of ds ≡ map number_of cs ++ number_of c ∷ [] = ap (λ xs. map number_of xs) e
    ∙ numbers_more cs c in
    record {
      spread = subst (λ ns. AreSpread (outlines number_of ps ++ outline_of from ns ∷ [])) (sym numbers) (spread_more
          (outlines number_of ps) from (number_of c) (map number_of cs) o.spread rises);
      rises = rises;
      below = subst (AreBelow (suc (number_of c))) (sym numbers) (below_more (suc last) (suc (number_of c))
          (number_of c) (map number_of cs) o.below (omega (arith, le)) (omega arith));
    }

pub open_more_at : {N : Type 0} (ps : List (Part (Cell N))) (from last k : ℕ) (cs ds : List (Cell N)) (c : Cell N)
    → IsOpen ps from last cs → last ≤ k → k ≡ number_of c → ds ≡ cs ++ c ∷ [] → IsOpen ps from k ds
open_more_at ps from last k cs ds c o le f e =
    subst (λ n. IsOpen ps from n ds) (sym f) (open_more ps from last cs ds c o (subst (λ n. last ≤ n) f le) e)

pub open_next : {N : Type 0} (ps qs : List (Part (Cell N))) (p : Part (Cell N)) (from last k : ℕ) (cs ds : List
    (Cell N))
    → IsOpen ps from last cs → last < k → qs ≡ ps ++ p ∷ [] → p.start ≡ from → p.items.value.items ≡ cs → ds ≡ []
    → IsOpen qs k k ds
open_next ps qs p from last k cs ds o l e f g h =
    let below : AreBelow k (map number_of cs) = below_from (suc last) k (map number_of cs) o.below (omega (arith, l)) in
    let spread = spread_next (outlines number_of ps) from k (map number_of cs) o.spread below (omega
    (arith, o.rises, l)) in
    subst (λ xs. IsOpen qs k k xs) (sym h) (record {
      spread = subst (λ os. AreSpread (os ++ outline_of k [] ∷ [])) (sym
          (closed_outlines ps qs p from cs e f g)) spread;
      rises = omega arith;
      below = tt;
    })

pub all_closed : {N : Type 0} (ps qs : List (Part (Cell N))) (p : Part (Cell N)) (from last : ℕ) (cs : List (Cell N))
    → IsOpen ps from last cs → qs ≡ ps ++ p ∷ [] → p.start ≡ from → p.items.value.items ≡ cs
    → AreSpread (outlines number_of qs)
all_closed ps qs p from last cs o e f g = subst AreSpread (sym (closed_outlines ps qs p from cs e f g)) o.spread

closed_items : {N : Type 0} (ps qs : List (Part (Cell N))) (p : Part (Cell N)) (cs : List (Cell N))
    → qs ≡ ps ++ p ∷ [] → p.items.value.items ≡ cs → all_items qs ≡ all_items ps ++ cs
closed_items ps qs p cs e g =
    ap all_items e ∙ items_append ps (p ∷ []) ∙ ap (λ xs. all_items ps ++ xs) (append-nil p.items.value.items ∙ g)

pub next_items : {N : Type 0} (ps qs : List (Part (Cell N))) (p : Part (Cell N)) (cs ds : List (Cell N))
    → qs ≡ ps ++ p ∷ [] → p.items.value.items ≡ cs → ds ≡ [] → all_items qs ++ ds ≡ all_items ps ++ cs
next_items ps qs p cs ds e g h =
    ap (λ xs. all_items qs ++ xs) h ∙ append-nil (all_items qs) ∙ closed_items ps qs p cs e g

pub more_items : {N : Type 0} (before xs cs ds : List (Cell N)) (c : Cell N) → xs ++ cs ≡ before → ds ≡ cs ++ c ∷ []
    → xs ++ ds ≡ before ++ c ∷ []
more_items before xs cs ds c e f =
    ap (λ ys. xs ++ ys) f ∙ sym (append_assoc xs cs (c ∷ [])) ∙ ap (λ ys. ys ++ c ∷ []) e

-- ---- cells in order

-- each number is that of the one before it, or greater
abbrev pub AreRising : ℕ → List ℕ → Type 0
AreRising k [] = Unit {0}
AreRising k (n ∷ ns) = (k ≤ n) × AreRising n ns

ordered : {N : Type 0} (d : Model) (c x : Cell N) → IsCell d c → IsCell d x → comes_before c x ≡ true
    → number_of c ≤ number_of x
ordered d c x i j e = by (nat_lt (number_of x) (number_of c)) refl
  where
    by : (b : Bool) → nat_lt (number_of x) (number_of c) ≡ b → number_of c ≤ number_of x
    by true q =
        let no : comes_before c x ≡ false = number_behind c x (short_cell d c i) (short_cell d x j) (grind
        (arith, nat_tests, q)) in
        absurd (true_and_false (comes_before c x) e no)
    by false q = grind (arith, nat_tests, q)

pub rising : {N : Type 0} (d : Model) (k : ℕ) (cs : List (Cell N)) → ((c : Cell N) → IsIn c cs → IsCell d c)
    → EachPair (AreApart d) cs → ((c : Cell N) → IsIn c cs → k ≤ number_of c) → AreRising k (map number_of cs)
rising d k [] h p b = tt
rising {N = N} d k (c ∷ cs) h p b = (
  b c (first cs),
  rising d (number_of c) cs (λ x i. h x (later c cs i)) p.1 (λ x i. ordered d c x (h c
      (first cs)) (h x (later c cs i)) (apart cs x p.0 i)),
)
  where
    apart : (xs : List (Cell N)) (x : Cell N) → Each (AreApart d c) xs → IsIn x xs → comes_before c x ≡ true
    apart [] x e i = elim i [ ]
    apart (_ ∷ xs) _ e (first _) = e.0.ordered
    apart (y ∷ xs) x e (later _ _ i) = apart xs x e.1 i

pub cells_rise : {N : Type 0} (d : Model) (cs : List (Cell N)) → AreCells d cs → AreRising 0 (map number_of cs)
cells_rise d cs a = rising d 0 cs a.each a.pairs (λ c i. omega arith)

-- ---- the cells that are left to come

pub rises_first : {N : Type 0} (k : ℕ) (xs ys : List (Cell N)) (c : Cell N) → xs ≡ c ∷ ys
    → AreRising k (map number_of xs)
    → k ≤ number_of c
rises_first k xs ys c e h = (subst (λ zs. AreRising k (map number_of zs)) e h).0

pub rises_on : {N : Type 0} (k m : ℕ) (xs ys : List (Cell N)) (c : Cell N) → xs ≡ c ∷ ys → m ≡ number_of c
    → AreRising k (map number_of xs) → AreRising m (map number_of ys)
rises_on k m xs ys c e f h =
    subst (λ n. AreRising n (map number_of ys)) (sym f) ((subst (λ zs. AreRising k (map number_of zs)) e h).1)

pub goes_on : {N : Type 0} (all before after xs ys : List (Cell N)) (c : Cell N) → xs ≡ c ∷ ys
    → after ≡ before ++ c ∷ []
    → before ++ xs ≡ all → after ++ ys ≡ all
goes_on all before after xs ys c e f h =
    ap (λ zs. zs ++ ys) f ∙ append_assoc before (c ∷ []) ys ∙ ap (λ zs. before ++ zs) (sym e) ∙ h

pub starts : {N : Type 0} (d : Model) (ps : List (Part (Cell N))) (none xs cs : List (Cell N)) → ps ≡ [] → none ≡ []
    → xs ≡ cs → AreCells d cs
    → IsOpen ps 0 0 none × AreRising 0 (map number_of xs) × ((all_items ps ++ none) ++ xs ≡ cs)
starts d ps none xs cs e f g a = (
  open_first ps none e f,
  subst (λ ys. AreRising 0 (map number_of ys)) (sym g) (cells_rise d cs a),
  ap (λ qs. (all_items qs ++ none) ++ xs) e ∙ ap (λ ys. ys ++ xs) f ∙ g,
)

pub all_there : {N : Type 0} (ps qs : List (Part (Cell N))) (p : Part (Cell N)) (cs xs all : List (Cell N))
    → qs ≡ ps ++ p ∷ [] → p.items.value.items ≡ cs → xs ≡ [] → (all_items ps ++ cs) ++ xs ≡ all → all_items qs ≡ all
all_there ps qs p cs xs all e f g h =
    closed_items ps qs p cs e f ∙ sym (append-nil (all_items ps ++ cs))
    ∙ ap (λ ys. (all_items ps ++ cs) ++ ys) (sym g) ∙ h
