-- Places of cells and their order: cells that lie where others did lie apart as they did.
use Rattle.std.proofs.Common.{◌≡◌, ℕ, ◌+◌, ◌*◌, ◌<◌, ◌≤◌, Bool, true, false, ◌&&◌, ◌||◌, nat_eq, nat_lt, ⊎_elim}
use Rattle.ep_bitslice.proofs.Joining.{side_back}
use Rattle.ep_int.proofs.Basics.{size_positive}
use Rattle.std.proofs.Common.{Option, IfSome, List, refl, sym, ◌∙◌, subst, arith}
use Rattle.std.proofs.lemmas.Bool.{and_parts, and_cases, and_from, and_left, and_right, or_cases, or_left, or_right}
use Rattle.std.proofs.lemmas.Bool.{ltb-true, eqb-true, eq-eqb, lt-ltb, cases_order, false_from_ne_true, both_ways}
use Rattle.ep_int.specs.declared.types.Model.{Model}
use Rattle.ep_int.specs.Types.{size_of}
use Rattle.ep_bitslice.specs.declared.cell.Side.{Side}
use Rattle.ep_bitslice.specs.declared.cell.Side.TheVariants.{Left, Right, Shared}
use Rattle.ep_bitslice.specs.declared.segment.Segment.{Segment}
use Rattle.ep_bitslice.specs.Bits.{side_number}
use Rattle.ep_cells.specs.declared.cell.Cell.{Cell}
use Rattle.ep_cells.specs.declared.cell.Value.{Value}
use Rattle.ep_cells.specs.declared.place.ByteRange.{ByteRange}
use Rattle.ep_cells.specs.Cells.{on_left, on_right, share_memory, side_without, place_of, touches, meets}
use Rattle.ep_cells.specs.Cells.{comes_before, key_of}
use Rattle.ep_cells.specs.States.{AreApart}

-- ---- sides

-- the memories of the first side are among those of the second
pub record Within (s q : Side) : Type 0 where
  pub left : on_left s ≡ true → on_left q ≡ true
  pub right : on_right s ≡ true → on_right q ≡ true

pub within_itself : (s : Side) → Within s s
within_itself s = record { left = λ e. e; right = λ e. e }

pub within_shared : (s : Side) → Within s Shared
within_shared s = record { left = λ e. refl; right = λ e. refl }

share_within : (s t q r : Side) → Within s q → Within t r → share_memory s t ≡ true → share_memory q r ≡ true
share_within s t q r a b e =
    ⊎_elim
    (λ h. let p = and_parts (on_left s) (on_left t) h in or_left (on_left q && on_left r) (on_right q && on_right r)
    (and_from (on_left q) (on_left r) (a.left p.0) (b.left p.1)))
    (λ h. let p = and_parts (on_right s) (on_right t) h in or_right (on_left q && on_left r) (on_right q && on_right
    r) (and_from (on_right q) (on_right r) (a.right p.0) (b.right p.1)))
    (or_cases (on_left s && on_left t) (on_right s && on_right t) e)

pub apart_within : (s t q r : Side) → Within s q → Within t r → share_memory q r ≡ false → share_memory s t ≡ false
apart_within s t q r a b e = false_from_ne_true (share_memory s t) (λ h. both_ways (share_memory q r) e (share_within
    s t q r a b h))

pub share_sym : (s q : Side) → share_memory s q ≡ share_memory q s
share_sym Left Left = refl
share_sym Left Right = refl
share_sym Left Shared = refl
share_sym Right Left = refl
share_sym Right Right = refl
share_sym Right Shared = refl
share_sym Shared Left = refl
share_sym Shared Right = refl
share_sym Shared Shared = refl

pub share_itself : (s : Side) → share_memory s s ≡ true
share_itself Left = refl
share_itself Right = refl
share_itself Shared = refl

-- the side that is left has no memory of the one that is taken
pub record IsRest (p q s : Side) : Type 0 where
  pub left : on_left s ≡ true → on_left p ≡ false
  pub right : on_right s ≡ true → on_right p ≡ false
  pub within : Within s q
  pub apart : share_memory p s ≡ false

pub rest_is : (p q : Side) → IfSome (side_without p q) (IsRest p q)
rest_is Left Left = tt
rest_is Left Right = record { left = λ e. absurd (cc); right = λ e. refl; within = within_itself Right; apart = refl }
rest_is Left Shared = record {
  left = λ e. absurd (cc);
  right = λ e. refl;
  within = within_shared Right;
  apart = refl;
}
rest_is Right Left = record { left = λ e. refl; right = λ e. absurd (cc); within = within_itself Left; apart = refl }
rest_is Right Right = tt
rest_is Right Shared = record {
  left = λ e. refl;
  right = λ e. absurd (cc);
  within = within_shared Left;
  apart = refl;
}
rest_is Shared q = tt

-- two sides with no memory in common keep their order
sides_ordered : (q r s t : Side) → share_memory q r ≡ false → Within s q → Within t r
    → side_number q < side_number r → side_number s < side_number t
sides_ordered Left Left s t e a b h = absurd (cc)
sides_ordered Left Right Left Right e a b h = omega arith
sides_ordered Left Right Left Left e a b h = absurd (let k : on_left Right ≡ true = b.left refl in cc)
sides_ordered Left Right Left Shared e a b h = absurd (let k : on_left Right ≡ true = b.left refl in cc)
sides_ordered Left Right Right t e a b h = absurd (let k : on_right Left ≡ true = a.right refl in cc)
sides_ordered Left Right Shared t e a b h = absurd (let k : on_right Left ≡ true = a.right refl in cc)
sides_ordered Left Shared s t e a b h = absurd (cc)
sides_ordered Right Left s t e a b h = absurd (omega arith)
sides_ordered Right Right s t e a b h = absurd (cc)
sides_ordered Right Shared s t e a b h = absurd (cc)
sides_ordered Shared r s t e a b h = absurd (let k = e in by r k)
  where
    by : (r : Side) → share_memory Shared r ≡ false → ⊥
    by Left k = cc
    by Right k = cc
    by Shared k = cc

pub side_below : (s : Side) → side_number s ≤ 2
side_below Left = omega arith
side_below Right = omega arith
side_below Shared = omega arith

-- ---- places over plain numbers

abbrev pub at : Side → (block offset bytes : ℕ) → ByteRange
at s b q n = record { side = s; block = b; offset = q; bytes = n }

abbrev pub before_at : (b k c j : ℕ) → Bool
before_at b k c j = nat_lt b c || (nat_eq b c && nat_lt k j)

pub data Before (b k c j : ℕ) : Type 0 where
  in_block : b ≡ c → k < j → Before b k c j
  by_block : b < c → Before b k c j

pub before_true : (b k c j : ℕ) → before_at b k c j ≡ true → Before b k c j
before_true b k c j h =
    ⊎_elim
    (λ e. by_block (ltb-true b c e))
    (λ e. let p = and_parts (nat_eq b c) (nat_lt k j) e in in_block (eqb-true b c p.0) (ltb-true k j p.1))
    (or_cases (nat_lt b c) (nat_eq b c && nat_lt k j) h)

pub before_from : (b k c j : ℕ) → Before b k c j → before_at b k c j ≡ true
before_from b k c j (in_block e l) =
    or_right (nat_lt b c) (nat_eq b c && nat_lt k j) (and_from (nat_eq b c) (nat_lt k j) (eq-eqb b c e) (lt-ltb k j
    l))
before_from b k c j (by_block l) = or_left (nat_lt b c) (nat_eq b c && nat_lt k j) (lt-ltb b c l)

-- one of two comes before the other, or they have one block and key
pub data Tri (b k c j : ℕ) : Type 0 where
  before : Before b k c j → Tri b k c j
  after : Before c j b k → Tri b k c j
  alike : b ≡ c → k ≡ j → Tri b k c j

pub tri : (b k c j : ℕ) → Tri b k c j
tri b k c j =
    ⊎_elim
    (λ e.
    ⊎_elim (λ f. alike e f)
    (λ o. ⊎_elim (λ l. before (in_block e l)) (λ l. after (in_block (sym e) l)) o) (cases_order k j))
    (λ o. ⊎_elim (λ l. before (by_block l)) (λ l. after (by_block l)) o)
    (cases_order b c)

pub before_trans : (b k c j a i : ℕ) → Before b k c j → Before c j a i → Before b k a i
before_trans b k c j a i (in_block e l) (in_block f m) = in_block (e ∙ f) (omega arith)
before_trans b k c j a i (in_block e l) (by_block m) = by_block (omega arith)
before_trans b k c j a i (by_block l) (in_block f m) = by_block (omega arith)
before_trans b k c j a i (by_block l) (by_block m) = by_block (omega arith)

pub not_both : (b k c j : ℕ) → Before b k c j → Before c j b k → ⊥
not_both b k c j (in_block e l) (in_block f m) = omega arith
not_both b k c j (in_block e l) (by_block m) = omega arith
not_both b k c j (by_block l) (in_block f m) = omega arith
not_both b k c j (by_block l) (by_block m) = omega arith

pub touch_here : (b q n k : ℕ) → 0 < n → 0 < k → (nat_eq b b && (nat_lt q (q + k) && nat_lt q (q + n))) ≡ true
touch_here b q n k h l =
    and_from (nat_eq b b) (nat_lt q (q + k) && nat_lt q (q + n)) (eq-eqb b b refl)
    (and_from (nat_lt q (q + k)) (nat_lt q (q + n)) (lt-ltb q (q + k) (omega arith)) (lt-ltb q (q + n) (omega arith)))

-- cells that begin together share no memory where they don't meet
pub no_share : (s t : Side) (b q n k : ℕ) → 0 < n → 0 < k → meets (at s b q n) (at t b q k) ≡ false
    → share_memory s t ≡ false
no_share s t b q n k h l e =
    ⊎_elim (λ f. f) (λ f. absurd (both_ways (touches (at s b q n) (at t b q k)) f (touch_here b q n k h l)))
    (and_cases (share_memory s t) (touches (at s b q n) (at t b q k)) e)

pub record Apart (s t : Side) (b q n c r k : ℕ) : Type 0 where
  pub ordered : before_at b (3 * q + side_number s) c (3 * r + side_number t) ≡ true
  pub apart : meets (at s b q n) (at t c r k) ≡ false

order_within : (s t u v : Side) (b q n c r k : ℕ) → 0 < n → 0 < k → Apart u v b q n c r k → Within s u → Within t v
    → Before b (3 * q + side_number u) c (3 * r + side_number v) → Before b (3 * q + side_number s) c (3 * r +
    side_number t)
order_within s t u v b q n c r k hn hk a w x (by_block l) = by_block l
order_within s t u v b q n c r k hn hk a w x (in_block e l) =
    in_block e
    (⊎_elim
    (λ same.
    let far : meets (at u b q n) (at v b q k) ≡ false = subst (λ z. meets (at u b q n) (at v z q k) ≡ false) (sym e)
    (subst (λ z. meets (at u b q n) (at v c z k) ≡ false) (sym same) a.apart) in
    let o = sides_ordered u v s t (no_share u v b q n k hn hk far) w x (omega arith) in
    omega arith)
    (λ o. ⊎_elim (λ less. omega (arith, side_below s)) (λ more. absurd (omega (arith, side_below v))) o)
    (cases_order q r))

pub apart_at : (s t u v : Side) (b q n c r k : ℕ) → 0 < n → 0 < k → Apart u v b q n c r k → Within s u → Within t v
    → Apart s t b q n c r k
apart_at s t u v b q n c r k hn hk a w x = record {
  ordered = before_from b (3 * q + side_number s) c (3 * r + side_number t)
      (order_within s t u v b q n c r k hn hk a w x (before_true b (3 * q + side_number u) c (3 * r + side_number v)
      a.ordered));
  apart =
      ⊎_elim
      (λ f. and_left (share_memory s t) (touches (at s b q n) (at t c r k)) (apart_within s t u v w x f))
      (λ f. and_right (share_memory s t) (touches (at s b q n) (at t c r k)) f)
      (and_cases (share_memory u v) (touches (at u b q n) (at v c r k)) a.apart);
}

touches_sym : (s t : Side) (b q n c r k : ℕ) → touches (at s b q n) (at t c r k) ≡ true
    → touches (at t c r k) (at s b q n) ≡ true
touches_sym s t b q n c r k h =
    let p = and_parts (nat_eq b c) (nat_lt q (r + k) && nat_lt r (q + n)) h in
    let o = and_parts (nat_lt q (r + k)) (nat_lt r (q + n)) p.1 in
    and_from (nat_eq c b) (nat_lt r (q + n) && nat_lt q (r + k)) (eq-eqb c b (sym (eqb-true b c p.0)))
    (and_from (nat_lt r (q + n)) (nat_lt q (r + k)) o.1 o.0)

pub meets_sym : (s t : Side) (b q n c r k : ℕ) → meets (at s b q n) (at t c r k) ≡ false
    → meets (at t c r k) (at s b q n) ≡ false
meets_sym s t b q n c r k h =
    ⊎_elim
    (λ e. and_left (share_memory t s) (touches (at t c r k) (at s b q n)) (share_sym t s ∙ e))
    (λ e. and_right (share_memory t s) (touches (at t c r k) (at s b q n))
    (false_from_ne_true (touches (at t c r k) (at s b q n)) (λ f. both_ways (touches (at s b q n) (at t c r k)) e
    (touches_sym t s c r k b q n f))))
    (and_cases (share_memory s t) (touches (at s b q n) (at t c r k)) h)

-- where one doesn't come before the other and they don't meet, the other comes before it
pub other_order : (s t : Side) (b q n c r k : ℕ) → 0 < n → 0 < k → meets (at s b q n) (at t c r k) ≡ false
    → before_at b (3 * q + side_number s) c (3 * r + side_number t) ≡ false
    → before_at c (3 * r + side_number t) b (3 * q + side_number s) ≡ true
other_order s t b q n c r k hn hk e h =
    elim (tri b (3 * q + side_number s) c (3 * r + side_number t)) [
      | before p ↦ absurd (both_ways (before_at b (3 * q + side_number s) c (3 * r + side_number t)) h (before_from b
          (3 * q + side_number s) c (3 * r + side_number t) p))
      | after p ↦ before_from c (3 * r + side_number t) b (3 * q + side_number s) p
      | alike f g ↦
          let sides : side_number s ≡ side_number t = omega (arith, side_below s, side_below t) in
          let same : q ≡ r = omega (arith, side_below s, side_below t) in
          let far : meets (at s b q n) (at t b q k) ≡ false = subst (λ z. meets (at s b q n) (at t z q k) ≡ false)
          (sym f) (subst (λ z. meets (at s b q n) (at t c z k) ≡ false) (sym same) e) in
          absurd (both_ways (share_memory s t) (no_share s t b q n k hn hk far) (subst (λ z. share_memory s z ≡ true)
          (side_back s t sides) (share_itself s)))
    ]

-- ---- cells

-- y lies where x does, on x's sides
pub record IsMadeFrom {N : Type 0} (x y : Cell N) : Type 0 where
  pub side : Side
  pub value : Option (Value N)
  pub maybe : Bool
  pub form : Option (List Segment)
  pub is : y ≡ record {
    side = side;
    block = x.block;
    offset = x.offset;
    what = x.what;
    value = value;
    maybe = maybe;
    form = form;
  }
  pub within : Within side x.side

pub apart_of : {N : Type 0} (d : Model) (x y : Cell N) → AreApart d x y
    → Apart x.side y.side x.block x.offset (size_of d x.what) y.block y.offset (size_of d y.what)
apart_of d x y a = record { ordered = a.ordered; apart = a.apart }

pub apart_made : {N : Type 0} (d : Model) (x y a b : Cell N) → AreApart d x y → IsMadeFrom x a → IsMadeFrom y b
    → AreApart d a b
apart_made d x y a b h p q =
    let r = apart_at p.side q.side x.side y.side x.block x.offset (size_of d x.what) y.block y.offset (size_of d
    y.what)
    (size_positive d x.what) (size_positive d y.what) (apart_of d x y h) p.within q.within in
    let s : AreApart d
    (record {
      side = p.side;
      block = x.block;
      offset = x.offset;
      what = x.what;
      value = p.value;
      maybe = p.maybe;
      form = p.form;
    })
    (record {
      side = q.side;
      block = y.block;
      offset = y.offset;
      what = y.what;
      value = q.value;
      maybe = q.maybe;
      form = q.form;
    })
    = record { ordered = r.ordered; apart = r.apart } in
    subst (λ z. AreApart d z b) (sym p.is)
    (subst (λ z. AreApart d (record {
      side = p.side;
      block = x.block;
      offset = x.offset;
      what = x.what;
      value =
          p.value;
      maybe = p.maybe;
      form = p.form;
    }) z) (sym q.is) s)

pub before_rest : {N : Type 0} (d : Model) (c x y : Cell N) → AreApart d x y → comes_before c x ≡ true
    → comes_before c y ≡ true
before_rest d c x y a h =
    before_from c.block (key_of c) y.block (key_of y)
    (before_trans c.block (key_of c) x.block (key_of x) y.block (key_of y)
    (before_true c.block (key_of c) x.block (key_of x) h) (before_true x.block (key_of x) y.block (key_of y)
    a.ordered))

pub put_before_cell : {N : Type 0} (d : Model) (c y : Cell N) → meets (place_of d c) (place_of d y) ≡ false
    → comes_before c y ≡ true → AreApart d c y
put_before_cell d c y m h = record { ordered = h; apart = m }

pub put_after_cell : {N : Type 0} (d : Model) (c y : Cell N) → meets (place_of d c) (place_of d y) ≡ false
    → comes_before c y ≡ false → AreApart d y c
put_after_cell d c y m h = record {
  ordered = other_order c.side y.side c.block c.offset (size_of d c.what) y.block y.offset (size_of d y.what)
      (size_positive d c.what) (size_positive d y.what) m h;
  apart = meets_sym c.side y.side c.block c.offset (size_of d c.what) y.block y.offset (size_of d y.what) m;
}
