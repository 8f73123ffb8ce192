-- Segments joined: their bits, and when they can be.
use Rattle.std.proofs.Common.{◌≡◌, ℕ, zero, suc, ◌+◌, ◌-◌, ◌*◌, ◌/◌, ◌%◌, ◌^◌, ◌<◌, ◌≤◌, Bool, true, false, ◌&&◌}
use Rattle.ep_int.proofs.Basics.{nat_eq-self}
use Rattle.std.proofs.lemmas.Bool.{and_parts}
use Rattle.std.proofs.Common.{nat_eq, cond, ◌∷◌, ◌++◌, length, Some, None, sym, refl, ap, ◌∙◌, subst, arith}
use Rattle.std.proofs.Common.{length-append, eqb-true, zero-add, add-zero}
use Rattle.std.proofs.lemmas.Nat.{pow-add, mul-add-lt}
use Rattle.std.proofs.Math.Nat.{pow-suc}
use Rattle.ep_int.specs.declared.types.IntType.{IntType}
use Rattle.ep_int.specs.declared.types.IntType.TheVariants.{I8, U8, I16, U16, I32, U32, I64, U64}
use Rattle.ep_bitslice.specs.declared.cell.Side.{Side}
use Rattle.ep_bitslice.specs.declared.cell.Side.TheVariants.{Left, Right, Shared}
use Rattle.ep_bitslice.specs.declared.cell.CellName.{CellName}
use Rattle.ep_bitslice.specs.declared.segment.Segment.{Segment}
use Rattle.ep_bitslice.specs.declared.segment.Segment.TheVariants.{Bits, Fixed}
use Rattle.ep_bitslice.specs.Bits.{fixed, cell_bit, is_odd, is_same_cell, side_number, type_number}
use Rattle.ep_bitslice.specs.Segments.{fixed_bits, run_bits, segment_bits, segment_width, joined, IsSegment}

-- ---- names of cells

pub side_back : (a b : Side) → side_number a ≡ side_number b → a ≡ b
side_back Left Left h = refl
side_back Left Right h = absurd (omega arith)
side_back Left Shared h = absurd (omega arith)
side_back Right Left h = absurd (omega arith)
side_back Right Right h = refl
side_back Right Shared h = absurd (omega arith)
side_back Shared Left h = absurd (omega arith)
side_back Shared Right h = absurd (omega arith)
side_back Shared Shared h = refl

abbrev type_at : ℕ → IntType
type_at zero = I8
type_at (suc zero) = U8
type_at (suc (suc zero)) = I16
type_at (suc (suc (suc zero))) = U16
type_at (suc (suc (suc (suc zero)))) = I32
type_at (suc (suc (suc (suc (suc zero))))) = U32
type_at (suc (suc (suc (suc (suc (suc zero)))))) = I64
type_at (suc (suc (suc (suc (suc (suc (suc n))))))) = U64

type_there : (t : IntType) → type_at (type_number t) ≡ t
type_there I8 = refl
type_there U8 = refl
type_there I16 = refl
type_there U16 = refl
type_there I32 = refl
type_there U32 = refl
type_there I64 = refl
type_there U64 = refl

type_back : (a b : IntType) → type_number a ≡ type_number b → a ≡ b
type_back a b h = sym (type_there a) ∙ ap type_at h ∙ type_there b

abbrev pub cell_at : Side → ℕ → ℕ → IntType → CellName
cell_at s b o t = record { side = s; block = b; offset = o; t = t }

pub same_cell : (c d : CellName) → is_same_cell c d ≡ true → c ≡ d
same_cell c d h =
    let p = and_parts _ _ h in
    let q = and_parts _ _ p.0 in
    let r = and_parts _ _ q.1 in
    let s : c.side ≡ d.side = side_back c.side d.side (eqb-true _ _ q.0) in
    let b : c.block ≡ d.block = eqb-true _ _ r.0 in
    let o : c.offset ≡ d.offset = eqb-true _ _ r.1 in
    let t : c.t ≡ d.t = type_back c.t d.t (eqb-true _ _ p.1) in
    ap (λ (x : Side). cell_at x c.block c.offset c.t) s
    ∙ ap (λ (n : ℕ). cell_at d.side n c.offset c.t) b
    ∙ ap (λ (n : ℕ). cell_at d.side d.block n c.t) o
    ∙ ap (λ (x : IntType). cell_at d.side d.block d.offset x) t

pub cell_itself : (c : CellName) → is_same_cell c c ≡ true
cell_itself c = rw (nat_eq-self (side_number c.side), nat_eq-self c.block, nat_eq-self c.offset, nat_eq-self (type_number c.t)) refl

-- ---- which segments join

-- a run goes on where another ends
pub record GoesOn (c : CellName) (t : ℕ) (d : CellName) (g : ℕ) : Type 0 where
  pub cell : c ≡ d
  pub place : t ≡ g

abbrev test : CellName → ℕ → CellName → ℕ → Bool
test c t d g = is_same_cell c d && nat_eq t g

goes_on : (c : CellName) (t : ℕ) (d : CellName) (g : ℕ) → test c t d g ≡ true → GoesOn c t d g
goes_on c t d g h =
    let p = and_parts _ _ h in
    record { cell = same_cell c d p.0; place = eqb-true t g p.1 }

choice : (b : Bool) (s m : Segment) → cond b (Some s) None ≡ Some m → (b ≡ true) × (s ≡ m)
choice true s m h = (refl, cc)
choice false s m h = absurd (cc)

choice_none : (b : Bool) (s : Segment) → cond b (Some s) None ≡ None → b ≡ false
choice_none true s h = absurd (cc)
choice_none false s h = refl

runs_join : (c : CellName) (f t : ℕ) (d : CellName) (g u : ℕ) (m : Segment) → joined (Bits c f t) (Bits d g u) ≡ Some m → GoesOn c t d g × (Bits c f u ≡ m)
runs_join c f t d g u m h =
    let p = choice (test c t d g) (Bits c f u) m h in
    (goes_on c t d g p.0, p.1)

-- Joining is associative.
pub record Both (s tu st u : Segment) : Type 0 where
  pub whole : Segment
  pub low : joined s tu ≡ Some whole
  pub high : joined st u ≡ Some whole

pub joined_both : (s t u st tu : Segment) → joined s t ≡ Some st → joined t u ≡ Some tu → Both s tu st u
joined_both (Fixed v w) (Fixed x y) (Fixed z q) st tu h k =
    let e : Fixed (v + x * 2 ^ w) (w + y) ≡ st = cc in
    let f : Fixed (x + z * 2 ^ y) (y + q) ≡ tu = cc in
    rw (← e, ← f) (record { whole = Fixed (v + (x + z * 2 ^ y) * 2 ^ w) (w + (y + q)); low = refl; high = ap Some (sym (flat v w x y z q)) })
  where
    value : (v w x y z : ℕ) → v + (x + z * 2 ^ y) * 2 ^ w ≡ v + x * 2 ^ w + z * 2 ^ (w + y)
    value v w x y z = rw (pow-add 2 w y) (omega arith)

    flat : (v w x y z q : ℕ) → Fixed (v + (x + z * 2 ^ y) * 2 ^ w) (w + (y + q)) ≡ Fixed (v + x * 2 ^ w + z * 2 ^ (w + y)) (w + y + q)
    flat v w x y z q = let a = value v w x y z in let b : w + (y + q) ≡ w + y + q = omega arith in cc
joined_both (Fixed v w) (Fixed x y) (Bits e h' v') st tu h k = absurd (cc)
joined_both (Fixed v w) (Bits d g u) r st tu h k = absurd (cc)
joined_both (Bits c f t) (Fixed x y) r st tu h k = absurd (cc)
joined_both (Bits c f t) (Bits d g u) (Fixed z q) st tu h k = absurd (cc)
joined_both (Bits c f t) (Bits d g u) (Bits e i v) st tu h k =
    let p = runs_join c f t d g u st h in
    let q = runs_join d g u e i v tu k in
    rw (← p.1, ← q.1) (record { whole = Bits c f v; low = joins c f t d g v p.0; high = joins c f u e i v (record { cell = p.0.cell ∙ q.0.cell; place = q.0.place }) })
  where
    yes : (c : CellName) (t : ℕ) → test c t c t ≡ true
    yes c t = rw (cell_itself c, nat_eq-self t) refl

    yes_if : (c : CellName) (t : ℕ) (d : CellName) (g : ℕ) → GoesOn c t d g → test c t d g ≡ true
    yes_if c t d g h = subst (λ (x : CellName). test c t x g ≡ true) h.cell (subst (λ (n : ℕ). test c t c n ≡ true) h.place (yes c t))

    joins : (c : CellName) (f t : ℕ) (d : CellName) (g u : ℕ) → GoesOn c t d g → joined (Bits c f t) (Bits d g u) ≡ Some (Bits c f u)
    joins c f t d g u p = rw (yes_if c t d g p) refl

-- What doesn't join a segment doesn't join one that ends in it.
pub joined_below : (s t u st : Segment) → joined s t ≡ Some st → joined t u ≡ None → joined st u ≡ None
joined_below (Fixed v w) (Fixed x y) (Fixed z q) st h k = absurd (cc)
joined_below (Fixed v w) (Fixed x y) (Bits e i v') st h k = let e' : Fixed (v + x * 2 ^ w) (w + y) ≡ st = cc in rw (← e') refl
joined_below (Fixed v w) (Bits d g u) r st h k = absurd (cc)
joined_below (Bits c f t) (Fixed x y) r st h k = absurd (cc)
joined_below (Bits c f t) (Bits d g u) (Fixed z q) st h k = let p = runs_join c f t d g u st h in rw (← p.1) refl
joined_below (Bits c f t) (Bits d g u) (Bits e i v) st h k =
    let p = runs_join c f t d g u st h in
    let unlike : test d u e i ≡ false = choice_none (test d u e i) (Bits d g v) k in
    rw (← p.1) (stays c d u e i f v p.0.cell unlike)
  where
    stays : (c d : CellName) (u : ℕ) (e : CellName) (i f v : ℕ) → c ≡ d → test d u e i ≡ false → joined (Bits c f u) (Bits e i v) ≡ None
    stays c d u e i f v h k = let n : test c u e i ≡ false = subst (λ (x : CellName). test x u e i ≡ false) (sym h) k in rw n refl

pub joined_above : (s t u tu : Segment) → joined s t ≡ None → joined t u ≡ Some tu → joined s tu ≡ None
joined_above (Fixed v w) (Fixed x y) r tu h k = absurd (cc)
joined_above (Bits c f t) (Fixed x y) (Fixed z q) tu h k = let e : Fixed (x + z * 2 ^ y) (y + q) ≡ tu = cc in rw (← e) refl
joined_above (Bits c f t) (Fixed x y) (Bits e i v) tu h k = absurd (cc)
joined_above (Fixed v w) (Bits d g u) (Fixed z q) tu h k = absurd (cc)
joined_above (Bits c f t) (Bits d g u) (Fixed z q) tu h k = absurd (cc)
joined_above (Fixed v w) (Bits d g u) (Bits e i v') tu h k = let p = runs_join d g u e i v' tu k in rw (← p.1) refl
joined_above (Bits c f t) (Bits d g u) (Bits e i v) tu h k =
    let p = runs_join d g u e i v tu k in
    let unlike : test c t d g ≡ false = choice_none (test c t d g) (Bits c f u) h in
    rw (← p.1, unlike) refl

-- ---- bits of segments

pub length-fixed_bits : (w v : ℕ) → length (fixed_bits w v) ≡ w
length-fixed_bits zero v = refl
length-fixed_bits (suc w) v = ap suc (length-fixed_bits w (v / 2))

pub length-run_bits : (c : CellName) (k n : ℕ) → length (run_bits c k n) ≡ n
length-run_bits c k zero = refl
length-run_bits c k (suc n) = ap suc (length-run_bits c (k + 1) n)

pub length-segment_bits : (s : Segment) → length (segment_bits s) ≡ segment_width s
length-segment_bits (Bits c f t) = length-run_bits c f (t - f)
length-segment_bits (Fixed v w) = length-fixed_bits w v

pub run_bits-add : (c : CellName) (k m n : ℕ) → run_bits c k (m + n) ≡ run_bits c k m ++ run_bits c (k + m) n
run_bits-add c k zero n = rw (zero-add n, add-zero k) refl
run_bits-add c k (suc m) n =
    let e : suc m + n ≡ suc (m + n) = omega arith in
    let f : k + suc m ≡ k + 1 + m = omega arith in
    rw (e, f) (ap (λ bs. cell_bit c k ∷ bs) (run_bits-add c (k + 1) m n))

half_of : (w v x : ℕ) → (v + x * 2 ^ suc w) / 2 ≡ v / 2 + x * 2 ^ w
half_of w v x =
    let e : v + x * 2 ^ suc w ≡ v + x * 2 ^ w * 2 = rw pow-suc (omega arith) in
    rw e (omega arith)

odd_of : (w v x : ℕ) → (v + x * 2 ^ suc w) % 2 ≡ v % 2
odd_of w v x =
    let e : v + x * 2 ^ suc w ≡ v + x * 2 ^ w * 2 = rw pow-suc (omega arith) in
    rw e (omega arith)

-- the bits of two numbers, the lower one below the other
pub fixed_bits-add : (w y v x : ℕ) → v < 2 ^ w → fixed_bits (w + y) (v + x * 2 ^ w) ≡ fixed_bits w v ++ fixed_bits y x
fixed_bits-add zero y v x h =
    let e : v + x * 2 ^ 0 ≡ x = omega arith in
    rw (zero-add y, e) refl
fixed_bits-add (suc w) y v x h =
    let e : suc w + y ≡ suc (w + y) = omega arith in
    let half : v / 2 < 2 ^ w = omega (arith, pow-suc 2 w) in
    rw (e, odd_of w v x, half_of w v x) (ap (λ bs. fixed (is_odd v) ∷ bs) (fixed_bits-add w y (v / 2) x half))

-- a segment but for the limit on its width
abbrev pub IsShape : Segment → Type 0
IsShape (Bits c f t) = f < t
IsShape (Fixed v w) = v < 2 ^ w

pub shape : (s : Segment) → IsSegment s → IsShape s
shape (Bits c f t) h = h.0
shape (Fixed v w) h = h.2

pub shape-joined : (s t st : Segment) → IsShape s → IsShape t → joined s t ≡ Some st → IsShape st
shape-joined (Fixed v w) (Fixed x y) st p q h =
    let e : Fixed (v + x * 2 ^ w) (w + y) ≡ st = cc in
    rw (← e) (below v w x y p q)
  where
    below : (v w x y : ℕ) → v < 2 ^ w → x < 2 ^ y → v + x * 2 ^ w < 2 ^ (w + y)
    below v w x y p q = rw pow-add (omega (arith, mul-add-lt x (2 ^ w) v (2 ^ y) q p))
shape-joined (Fixed v w) (Bits d g u) st p q h = absurd (cc)
shape-joined (Bits c f t) (Fixed x y) st p q h = absurd (cc)
shape-joined (Bits c f t) (Bits d g u) st p q h =
    let r = runs_join c f t d g u st h in
    let low : f < u = omega (arith, r.0.place) in
    rw (← r.1) low

-- A segment joined of two has the bits of both.
pub bits-joined : (s t st : Segment) → IsShape s → IsShape t → joined s t ≡ Some st → segment_bits st ≡ segment_bits s ++ segment_bits t
bits-joined (Fixed v w) (Fixed x y) st p q h =
    let e : Fixed (v + x * 2 ^ w) (w + y) ≡ st = cc in
    rw (← e) (fixed_bits-add w y v x p)
bits-joined (Fixed v w) (Bits d g u) st p q h = absurd (cc)
bits-joined (Bits c f t) (Fixed x y) st p q h = absurd (cc)
bits-joined (Bits c f t) (Bits d g u) st p q h =
    let r = runs_join c f t d g u st h in
    rw (← r.1) (split c f t d g u r.0 p q)
  where
    along : (c : CellName) (f t u : ℕ) → f < t → t < u → run_bits c f (u - f) ≡ run_bits c f (t - f) ++ run_bits c t (u - t)
    along c f t u a b =
        let e : u - f ≡ t - f + (u - t) = omega arith in
        let k : t ≡ f + (t - f) = omega arith in
        rw e (run_bits-add c f (t - f) (u - t) ∙ ap (λ n. run_bits c f (t - f) ++ run_bits c n (u - t)) (sym k))

    split : (c : CellName) (f t : ℕ) (d : CellName) (g u : ℕ) → GoesOn c t d g → f < t → g < u → run_bits c f (u - f) ≡ run_bits c f (t - f) ++ run_bits d g (u - g)
    split c f t d g u r a b =
        let b' : t < u = subst (λ (n : ℕ). n < u) (sym r.place) b in
        along c f t u a b'
        ∙ ap (λ (x : CellName). run_bits c f (t - f) ++ run_bits x t (u - t)) r.cell
        ∙ ap (λ (n : ℕ). run_bits c f (t - f) ++ run_bits d n (u - n)) r.place

pub width-joined : (s t st : Segment) → IsSegment s → IsSegment t → joined s t ≡ Some st → segment_width st ≡ segment_width s + segment_width t
width-joined s t st p q h =
    sym (length-segment_bits st) ∙ ap length (bits-joined s t st (shape s p) (shape t q) h) ∙ length-append (segment_bits s) (segment_bits t)
    ∙ ap (λ n. n + length (segment_bits t)) (length-segment_bits s) ∙ ap (λ n. segment_width s + n) (length-segment_bits t)

pub segment-joined : (s t st : Segment) → IsSegment s → IsSegment t → segment_width s + segment_width t ≤ 64 → joined s t ≡ Some st → IsSegment st
segment-joined (Fixed v w) (Fixed x y) st p q b h =
    let e : Fixed (v + x * 2 ^ w) (w + y) ≡ st = cc in
    let some : 0 < w + y = omega arith in
    let below : IsShape (Fixed (v + x * 2 ^ w) (w + y)) = shape-joined (Fixed v w) (Fixed x y) _ p.2 q.2 refl in
    rw (← e) (some, b, below)
segment-joined (Fixed v w) (Bits d g u) st p q b h = absurd (cc)
segment-joined (Bits c f t) (Fixed x y) st p q b h = absurd (cc)
segment-joined (Bits c f t) (Bits d g u) st p q b h =
    let r = runs_join c f t d g u st h in
    let low : f < u = omega (arith, r.0.place) in
    rw (← r.1) (low, q.1)
