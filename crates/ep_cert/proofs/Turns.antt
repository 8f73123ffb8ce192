-- Heads, read in turn.
use Rattle.std.proofs.Common.{◌≡◌, ℕ, suc, ◌+◌, ◌-◌, ◌<◌, ◌≤◌, List, [], ◌∷◌, ◌++◌, map, arith, refl, ap, sym, ◌∙◌}
use Rattle.std.proofs.Common.{subst}
use Rattle.std.specs.Prelude.{Option, Some, None}
use Rattle.std.proofs.lemmas.Option.{same_Some, none-some}
use Rattle.ep_cells.specs.declared.cell.Cell.{Cell}
use Rattle.ep_int.specs.declared.types.Model.{Model}
use Rattle.ep_cells.specs.Cells.{put_all}
use Rattle.ep_cells.specs.States.{Known, AreCells}
use Rattle.ep_cell_changes.specs.Tests.{AreInOrder}
use Rattle.ep_cell_changes.proofs.Checked.{put_in_order, order_of}
use Rattle.ep_cert_cells.specs.declared.unread.Unread.{Unread}
use Rattle.ep_cert_cells.specs.declared.unread.Unread.TheVariants as unread
use Rattle.ep_cert_cells.specs.Numbers.{Numbers}
use Rattle.ep_cert_cells.specs.Bytes.{Every}
use Rattle.ep_cert_cells.specs.Reading.{then_at, low_at, list_at, cell_at, Fails}
use Rattle.ep_cert_cells.proofs.Readers.{with_all, Left, none_yet, one_more, all_read}
use Rattle.ep_cert.specs.declared.opening.Opening.{Opening}
use Rattle.ep_cert.specs.Reading.{row_at, cells_of, IsState, NoState, NoHead, NoHeads}
use Rattle.ep_cert.proofs.Undoing.{then_parts}

abbrev pub Rows : Type 0
Rows = List (List (Cell Numbers))

-- these heads are read, and so many are left
pub record AreRead (o : Opening) (all : Option (Rows × List ℕ)) (heads : List (Known Numbers)) (n : ℕ) (xs : List ℕ)
    : Type 0 where
  pub states : Every (IsState o) heads
  pub rows : Left row_at all (map cells_of heads) n xs

pub none_read : (o : Opening) (n : ℕ) (xs : List ℕ) → AreRead o (list_at row_at n xs) [] (n - 0) xs
none_read o n xs = record { states = tt; rows = none_yet row_at n xs }

every_more : (o : Opening) (hs : List (Known Numbers)) (h : Known Numbers) → Every (IsState o) hs → IsState o h
    → Every (IsState o) (hs ++ h ∷ [])
every_more o [] h p q = (q, tt)
every_more o (x ∷ hs) h p q = (p.0, every_more o hs h p.1 q)

cells_more : (hs : List (Known Numbers)) (h : Known Numbers) → map cells_of (hs ++ h ∷ []) ≡ map cells_of hs ++ h.cells ∷ []
cells_more [] h = refl
cells_more (x ∷ hs) h = ap (λ (r : Rows). x.cells ∷ r) (cells_more hs h)

pub one_head : (o : Opening) (all : Option (Rows × List ℕ)) (heads new : List (Known Numbers)) (n i : ℕ)
    (xs ys : List ℕ) (h : Known Numbers) → i < n → IsState o h × (row_at xs ≡ Some (h.cells, ys))
    → new ≡ heads ++ h ∷ [] → AreRead o all heads (n - i) xs → AreRead o all new (n - (i + 1)) ys
one_head o all heads new n i xs ys h l p e r = record {
  states = subst (Every (IsState o)) (sym e) (every_more o heads h r.states p.0);
  rows = one_more row_at all (map cells_of heads) (map cells_of new) n i xs ys h.cells l (sym p.1)
      (ap (map cells_of) e ∙ cells_more heads h) r.rows;
}

pub all_heads : (o : Opening) (all : Option (Rows × List ℕ)) (heads : List (Known Numbers)) (n i : ℕ) (xs : List ℕ)
    → n ≤ i → AreRead o all heads (n - i) xs → Every (IsState o) heads × (all ≡ Some (map cells_of heads, xs))
all_heads o all heads n i xs l r = (r.states, all_read row_at all (map cells_of heads) n i xs l r.rows)

behind : (o : Opening) (done : Rows) (cs : List (Cell Numbers)) (more : Rows) → Every (AreCells o.model) (done ++ cs ∷ more)
    → AreCells o.model cs
behind o [] cs more h = h.0
behind o (x ∷ done) cs more h = behind o done cs more h.1

no_rows : (o : Opening) (done : Rows) (k : ℕ) (xs : List ℕ) (rows : Rows) (ys : List ℕ)
    → ((cs : List (Cell Numbers)) (zs : List ℕ) → row_at xs ≡ Some (cs, zs) → AreCells o.model cs → ⊥)
    → then_at (list_at row_at (suc k) xs) (with_all done) ≡ Some (rows, ys) → Every (AreCells o.model) rows → ⊥
unfolding list_at
no_rows o done k xs rows ys f e h =
    let a = then_parts (list_at row_at (suc k) xs) (with_all done) rows ys e in
    let b = then_parts (row_at xs) (λ x us. then_at (list_at row_at k us) (λ more zs. Some (x ∷ more, zs))) a.x a.ys
    a.first in
    let c = then_parts (list_at row_at k b.ys) (λ more zs. Some (b.x ∷ more, zs)) a.x a.ys b.rest in
    let p : a.x ≡ b.x ∷ c.x = sym (ap (λ (z : Rows × List ℕ). z.0) (same_Some _ _ c.rest)) in
    let q : rows ≡ done ++ (b.x ∷ c.x) =
    sym (ap (λ (z : Rows × List ℕ). z.0) (same_Some _ _ a.rest)) ∙ ap (λ (z : Rows). done ++ z) p in
    f b.x b.ys b.first (behind o done b.x c.x (subst (Every (AreCells o.model)) q h))

-- where the next head isn't to be read, no heads are
pub head_stops : (o : Opening) (m : ℕ) (start : List ℕ) (heads : List (Known Numbers)) (i : ℕ) (xs : List ℕ) (e : Unread)
    → i < m → AreRead o (list_at row_at m start) heads (m - i) xs → NoHead o xs e → NoHeads o m start e
head_stops o m start heads i xs unread.Memory l r h = tt
head_stops o m start heads i xs unread.Misspelled l r h = λ rows ys e k.
    let n : m - i ≡ suc (m - (i + 1)) = omega arith in
    let q : then_at (list_at row_at (suc (m - (i + 1))) xs) (with_all (map cells_of heads))
    ≡ then_at (list_at row_at (m - i) xs) (with_all (map cells_of heads)) =
    ap (λ (j : ℕ). then_at (list_at row_at j xs) (with_all (map cells_of heads))) (sym n) in
    no_rows o (map cells_of heads) (m - (i + 1)) xs rows ys h (q ∙ sym r.rows.left ∙ e) k

-- ---- one head

pub state_found : (o : Opening) (cs : List (Cell Numbers)) (h : Known Numbers) → AreInOrder cs
    → h ≡ record { orders = o.orders; model = o.model; cells = put_all cs [] } → AreCells h.model h.cells
    → IsState o h × (h.cells ≡ cs)
state_found o cs h r e k =
    let m : h.model ≡ o.model = ap (λ (x : Known Numbers). x.model) e in (
      record {
        orders = ap (λ (x : Known Numbers). x.orders) e;
        model = m;
        cells = subst (λ (d : Model). AreCells d h.cells) m k;
      },
      ap (λ (x : Known Numbers). x.cells) e ∙ put_in_order cs r,
    )

pub no_state : (o : Opening) (cs : List (Cell Numbers)) → AreInOrder cs → (AreCells o.model (put_all cs []) → ⊥)
    → AreCells o.model cs → ⊥
no_state o cs r f k = f (subst (AreCells o.model) (sym (put_in_order cs r)) k)

pub no_order : (o : Opening) (cs : List (Cell Numbers)) → (AreInOrder cs → ⊥) → AreCells o.model cs → ⊥
no_order o cs f k = f (order_of o.model cs k.pairs)

row_found : (xs : List ℕ) (n : ℕ) (ys : List ℕ) → Some (n, ys) ≡ low_at 4 xs → row_at xs ≡ list_at cell_at n ys
unfolding row_at
row_found xs n ys e = ap (λ (p : Option (ℕ × List ℕ)). then_at p (λ n ys. list_at cell_at n ys)) (sym e)

pub uncounted : (o : Opening) (xs : List ℕ) → None ≡ low_at 4 xs → NoHead o xs unread.Misspelled
unfolding row_at
uncounted o xs e = λ cs ys q k.
    none-some (cs, ys) (ap (λ (p : Option (ℕ × List ℕ)). then_at p (λ n ys. list_at cell_at n ys)) e ∙ q)

pub no_cells : (o : Opening) (xs : List ℕ) (n : ℕ) (ys : List ℕ) (e : Unread) → Some (n, ys) ≡ low_at 4 xs
    → Fails e (list_at cell_at n ys) → NoHead o xs e
no_cells o xs n ys unread.Memory p h = tt
no_cells o xs n ys unread.Misspelled p h = λ cs zs q k. none-some (cs, zs) (sym h ∙ sym (row_found xs n ys p) ∙ q)

pub no_head : (o : Opening) (xs : List ℕ) (n : ℕ) (ys : List ℕ) (cs : List (Cell Numbers)) (zs : List ℕ) (e : Unread)
    → Some (n, ys) ≡ low_at 4 xs → list_at cell_at n ys ≡ Some (cs, zs) → NoState o cs e → NoHead o xs e
no_head o xs n ys cs zs unread.Memory p q h = tt
no_head o xs n ys cs zs unread.Misspelled p q h = λ ds us r k.
    let t = same_Some _ _ (sym q ∙ sym (row_found xs n ys p) ∙ r) in
    h (subst (AreCells o.model) (sym (ap (λ (z : List (Cell Numbers) × List ℕ). z.0) t)) k)

pub head_found : (o : Opening) (xs : List ℕ) (n : ℕ) (ys : List ℕ) (cs : List (Cell Numbers)) (zs : List ℕ)
    (h : Known Numbers) → Some (n, ys) ≡ low_at 4 xs → list_at cell_at n ys ≡ Some (cs, zs)
    → IsState o h × (h.cells ≡ cs) → IsState o h × (row_at xs ≡ Some (h.cells, zs))
head_found o xs n ys cs zs h p q s =
    (s.0, row_found xs n ys p ∙ q ∙ ap (λ (c : List (Cell Numbers)). Some (c, zs)) (sym s.1))
