-- What becomes of forms: the same bits under new names.
use Rattle.std.proofs.Common.{◌≡◌, ℕ, zero, suc, ◌+◌, ◌-◌, ◌/◌, ◌≤◌, Bool, true, List, [], ◌∷◌, ◌++◌, length, ⊎_elim}
use Rattle.std.proofs.Common.{Option, Some, None, refl, sym, ◌∙◌, ap, subst, arith, append_assoc, length-append}
use Rattle.std.specs.Option.{option_map, option_map_or}
use Rattle.std.proofs.lemmas.Bool.{or_cases, or_left, or_right}
use Rattle.ep_bitslice.specs.declared.cell.CellName.{CellName}
use Rattle.ep_bitslice.specs.declared.segment.Segment.{Segment}
use Rattle.ep_bitslice.specs.declared.segment.Segment.TheVariants.{Bits, Fixed}
use Rattle.ep_bitslice.specs.Bits.{Bit, fixed, cell_bit, Numbers, bit_of, digit, number_of_bits, is_odd, is_same_cell}
use Rattle.ep_bitslice.specs.Bits.{is_bit_of, mentions}
use Rattle.ep_bitslice.specs.Segments.{fixed_bits, run_bits, segment_bits, bits, segment_width, width, normal, joined}
use Rattle.ep_bitslice.specs.Segments.{put_before, IsSegment, AreSegments, IsForm}
use Rattle.ep_bitslice.proofs.Joining.{same_cell, cell_itself, length-segment_bits}
use Rattle.ep_bitslice.proofs.NormalForm.{put_after, normal-segment, normal-append, fewer_in_front}
use Rattle.ep_bitslice.proofs.Appending.{length-bits, bits-normal, appended}
use Rattle.ep_cells.specs.Forms.{Fate, bit_after, put_bit, bits_after}

-- ---- bits

-- the bit that goes on, and the bits behind it
pub record Goes (f : Fate) (b : Bit) (bs cs : List Bit) : Type 0 where
  pub head : Bit
  pub tail : List Bit
  pub head_is : bit_after f b ≡ Some head
  pub tail_is : bits_after f bs ≡ Some tail
  pub is : cs ≡ head ∷ tail

goes_by : (f : Fate) (b : Bit) (bs cs : List Bit) (o : Option Bit) (p : Option (List Bit)) → bit_after f b ≡ o
    → bits_after f bs ≡ p
    → put_bit o p ≡ Some cs → Goes f b bs cs
goes_by f b bs cs None p h k e = absurd (cc)
goes_by f b bs cs (Some c) None h k e = absurd (cc)
goes_by f b bs cs (Some c) (Some ds) h k e = record {
  head = c;
  tail = ds;
  head_is = h;
  tail_is = k;
  is = let i : cs
      ≡ c ∷ ds = cc in i;
}

pub goes : (f : Fate) (b : Bit) (bs cs : List Bit) → bits_after f (b ∷ bs) ≡ Some cs → Goes f b bs cs
goes f b bs cs e = goes_by f b bs cs (bit_after f b) (bits_after f bs) refl refl e

-- a bit of a cell goes on as one of the cell's new name
pub record Named (f : Fate) (c : CellName) (k : ℕ) (b : Bit) : Type 0 where
  pub name : CellName
  pub fate : f c ≡ Some name
  pub is : b ≡ cell_bit name k

named_by : (f : Fate) (c : CellName) (k : ℕ) (b : Bit) (o : Option CellName) → f c ≡ o
    → option_map (λ e. cell_bit e k) o ≡ Some b → Named f c k b
named_by f c k b None h e = absurd (cc)
named_by f c k b (Some n) h e = record { name = n; fate = h; is = let i : b ≡ cell_bit n k = cc in i }

pub named : (f : Fate) (c : CellName) (k : ℕ) (b : Bit) → bit_after f (cell_bit c k) ≡ Some b → Named f c k b
named f c k b e = named_by f c k b (f c) refl e

fixed_is : (f : Fate) (v : Bool) (b : Bit) → bit_after f (fixed v) ≡ Some b → b ≡ fixed v
fixed_is f v b e = cc

-- ---- numbers

-- f tells names under which the cells have the same numbers
pub record KeepsNumbers (f : Fate) (n m : Numbers) (bs : List Bit) : Type 0 where
  pub keeps : (c e : CellName) → mentions c bs ≡ true → f c ≡ Some e → m e ≡ n c

digit_after : (f : Fate) (n m : Numbers) (b h : Bit) (bs : List Bit) → KeepsNumbers f n m (b ∷ bs)
    → bit_after f b ≡ Some h → digit m h ≡ digit n b
digit_after f n m (fixed v) h bs k e = ap (digit m) (fixed_is f v h e)
digit_after f n m (cell_bit c i) h bs k e =
    let r = named f c i h e in
    ap (digit m) r.is ∙ ap (λ z. bit_of z i) (k.keeps c r.name (or_left (is_same_cell c c) (mentions c bs)
    (cell_itself c)) r.fate)

pub number_after : (f : Fate) (n m : Numbers) (bs cs : List Bit) → KeepsNumbers f n m bs → bits_after f bs ≡ Some cs
    → number_of_bits m cs ≡ number_of_bits n bs
number_after f n m [] cs k e = let i : cs ≡ [] = cc in ap (number_of_bits m) i
number_after f n m (b ∷ bs) cs k e =
    let r = goes f b bs cs e in
    let more : KeepsNumbers f n m bs = record {
      keeps = λ c e' h. k.keeps c e' (or_right (is_bit_of c b) (mentions c
          bs) h);
    } in
    let low = digit_after f n m b r.head bs k r.head_is in
    let high = number_after f n m bs r.tail more r.tail_is in
    ap (number_of_bits m) r.is ∙ omega (arith, low, high)

-- ---- mentions

-- a mention after a change comes of one before it
pub record Mentioned (f : Fate) (bs : List Bit) (e : CellName) : Type 0 where
  pub name : CellName
  pub mentioned : mentions name bs ≡ true
  pub fate : f name ≡ Some e

pub mentioned_after : (f : Fate) (bs cs : List Bit) (e : CellName) → bits_after f bs ≡ Some cs
    → mentions e cs ≡ true → Mentioned f bs e
mentioned_after f [] cs e h k = let i : cs ≡ [] = cc in absurd (let j : mentions e [] ≡ true = subst (λ x. mentions e
    x ≡ true) i k in cc)
mentioned_after f (b ∷ bs) cs e h k =
    let r = goes f b bs cs h in
    ⊎_elim
    (λ here. by b r.head r.head_is here)
    (λ there.
    let q = mentioned_after f bs r.tail e r.tail_is there in
    record {
      name = q.name;
      mentioned = or_right (is_bit_of q.name b) (mentions q.name bs) q.mentioned;
      fate = q.fate;
    })
    (or_cases (is_bit_of e r.head) (mentions e r.tail) (subst (λ x. mentions e x ≡ true) r.is k))
  where
    by : (b h : Bit) → bit_after f b ≡ Some h → is_bit_of e h ≡ true → Mentioned f (b ∷ bs) e
    by (fixed v) h i j = absurd (let q : is_bit_of e (fixed v) ≡ true = subst (λ x. is_bit_of e x ≡ true) (fixed_is f
        v h i) j in cc)
    by (cell_bit c n) h i j =
        let q = named f c n h i in
        let same : q.name ≡ e = same_cell q.name e (subst (λ x. is_bit_of e x ≡ true) q.is j) in
        record {
          name = c;
          mentioned = or_left (is_same_cell c c) (mentions c bs) (cell_itself c);
          fate = subst (λ x. f c ≡ Some x) same q.fate;
        }

-- ---- the normal form

pub length_after : (f : Fate) (bs cs : List Bit) → bits_after f bs ≡ Some cs → length cs ≡ length bs
length_after f [] cs e = let i : cs ≡ [] = cc in ap length i
length_after f (b ∷ bs) cs e =
    let r = goes f b bs cs e in
    ap length r.is ∙ ap suc (length_after f bs r.tail r.tail_is)

-- these bits are those of as many segments as ss has
pub record Shown (ss : List Segment) (cs : List Bit) : Type 0 where
  pub segments : List Segment
  pub valid : AreSegments segments
  pub bits_are : bits segments ≡ cs
  pub few : length segments ≡ length ss

-- the bits in front and those behind
record Parted (f : Fate) (xs ys cs : List Bit) : Type 0 where
  front : List Bit
  back : List Bit
  front_is : bits_after f xs ≡ Some front
  back_is : bits_after f ys ≡ Some back
  is : cs ≡ front ++ back

parted : (f : Fate) (xs ys cs : List Bit) → bits_after f (xs ++ ys) ≡ Some cs → Parted f xs ys cs
parted f [] ys cs e = record { front = []; back = cs; front_is = refl; back_is = e; is = refl }
parted f (x ∷ xs) ys cs e =
    let r = goes f x (xs ++ ys) cs e in
    let q = parted f xs ys r.tail r.tail_is in
    record {
      front = r.head ∷ q.front;
      back = q.back;
      front_is = rw (r.head_is, q.front_is) refl;
      back_is = q.back_is;
      is = r.is ∙ ap (λ zs. r.head ∷ zs) q.is;
    }

fixed_after : (f : Fate) (w v : ℕ) (cs : List Bit) → bits_after f (fixed_bits w v) ≡ Some cs → cs ≡ fixed_bits w v
fixed_after f zero v cs e = cc
fixed_after f (suc w) v cs e =
    let r = goes f (fixed (is_odd v)) (fixed_bits w (v / 2)) cs e in
    let h = fixed_is f (is_odd v) r.head r.head_is in
    r.is ∙ ap (λ b. b ∷ r.tail) h ∙ ap (λ bs. fixed (is_odd v) ∷ bs) (fixed_after f w (v / 2) r.tail r.tail_is)

-- the run of another cell
record Run (f : Fate) (c : CellName) (k n : ℕ) (cs : List Bit) : Type 0 where
  name : CellName
  fate : f c ≡ Some name
  is : cs ≡ run_bits name k n

runs_are : (f : Fate) (c name : CellName) → f c ≡ Some name → (n j : ℕ) (ds : List Bit)
    → bits_after f (run_bits c j n) ≡ Some ds → ds ≡ run_bits name j n
runs_are f c name g zero j ds h = cc
runs_are f c name g (suc n) j ds h =
    let r = goes f (cell_bit c j) (run_bits c (j + 1) n) ds h in
    let q = named f c j r.head r.head_is in
    let same : q.name ≡ name = let i : Some q.name ≡ Some name = sym q.fate ∙ g in cc in
    r.is ∙ ap (λ b. b ∷ r.tail) (q.is ∙ ap (λ x. cell_bit x j) same) ∙ ap (λ bs. cell_bit name j ∷ bs) (runs_are f c
    name g n (j + 1) r.tail r.tail_is)

run_after : (f : Fate) (c : CellName) (k n : ℕ) (cs : List Bit) → bits_after f (run_bits c k (suc n)) ≡ Some cs
    → Run f c k (suc n) cs
run_after f c k n cs e =
    let r = goes f (cell_bit c k) (run_bits c (k + 1) n) cs e in
    let q = named f c k r.head r.head_is in
    record { name = q.name; fate = q.fate; is = runs_are f c q.name q.fate (suc n) k cs e }

one_run : (f : Fate) (c : CellName) (from to n : ℕ) (ss : List Segment) (cs : List Bit) → to - from ≡ suc n
    → IsSegment (Bits c from to)
    → bits_after f (run_bits c from (to - from)) ≡ Some cs → (s : Segment) × IsSegment s × (segment_bits s ≡ cs)
one_run f c from to n ss cs w i e =
    let r = run_after f c from n cs (subst (λ k. bits_after f (run_bits c from k) ≡ Some cs) w e) in
    (Bits r.name from to, i, ap (run_bits r.name from) w ∙ sym r.is)

one_segment : (f : Fate) (s : Segment) (ss : List Segment) (cs : List Bit) → IsSegment s
    → bits_after f (segment_bits s) ≡ Some cs
    → (t : Segment) × IsSegment t × (segment_bits t ≡ cs)
one_segment f (Fixed v w) ss cs i e = (Fixed v w, i, sym (fixed_after f w v cs e))
one_segment f (Bits c from to) ss cs i e =
    let w : to - from ≡ suc (to - from - 1) = omega (arith, i.0) in
    one_run f c from to (to - from - 1) ss cs w i e

pub shown_after : (f : Fate) (ss : List Segment) (cs : List Bit) → AreSegments ss
    → bits_after f (bits ss) ≡ Some cs → Shown ss cs
shown_after f [] cs a e = record { segments = []; valid = tt; bits_are = let i : cs ≡ [] = cc in sym i; few = refl }
shown_after f (s ∷ ss) cs a e =
    let p = parted f (segment_bits s) (bits ss) cs e in
    let one = one_segment f s ss p.front a.0 p.front_is in
    let more = shown_after f ss p.back a.1 p.back_is in
    record {
      segments = one.0 ∷ more.segments;
      valid = (one.1, more.valid);
      bits_are = ap (λ x. x ++ bits more.segments) one.2 ∙ ap (λ x. p.front ++ x) more.bits_are ∙ sym p.is;
      few = ap suc more.few;
    }

-- no more segments than those that show the bits
put_before_le : (s : Segment) (ss : List Segment) → length (put_before s ss) ≤ suc (length ss)
put_before_le s [] = omega arith
put_before_le s (t ∷ ss) = by (joined s t)
  where
    by : (o : Option Segment) → length (option_map_or (λ m. m ∷ ss) o (s ∷ t ∷ ss)) ≤ suc (suc (length ss))
    by (Some m) = omega arith
    by None = omega arith

normal_le : (ss : List Segment) → AreSegments ss → length (normal (bits ss)) ≤ length ss
normal_le [] a = omega arith
normal_le (s ∷ ss) a =
    rw (normal-segment s (bits ss) a.0) (omega (arith, put_before_le s (normal (bits ss)), normal_le ss a.1))

-- bits that few segments show are those of a form
forms_from : (before : List Bit) (ss : List Segment) → IsForm (normal before) → AreSegments ss
    → length before + width ss ≤ 64
    → length (normal (before ++ bits ss)) ≤ 8 → IsForm (normal (before ++ bits ss))
forms_from before [] f a w l = subst (λ x. IsForm (normal x)) (sym (nothing before)) f
  where
    nothing : (bs : List Bit) → bs ++ [] ≡ bs
    nothing [] = refl
    nothing (b ∷ bs) = ap (λ xs. b ∷ xs) (nothing bs)
forms_from before (s ∷ ss) f a w l =
    let next = before ++ segment_bits s in
    let e : next ++ bits ss ≡ before ++ (segment_bits s ++ bits ss) = append_assoc before (segment_bits s) (bits ss)
    in
    let one : normal next ≡ put_after (normal before) s = normal-append before s a.0 in
    let wide : width (normal before) ≡ length before = sym (length-bits (normal before)) ∙ ap length (bits-normal
    before) in
    let all : length (normal (next ++ bits ss)) ≤ 8 = subst (λ x. length (normal x) ≤ 8) (sym e) l in
    let few : length (put_after (normal before) s) ≤ 8 = subst (λ x. length x ≤ 8) one (omega (
      arith,
      fewer_in_front
          next (bits ss),
      all,
    )) in
    let room : width (normal before) + segment_width s ≤ 64 = omega (arith, wide, w) in
    let g = (appended (normal before) s f a.0 room few).form in
    let long : length next ≡ length before + segment_width s = length-append before (segment_bits s) ∙ ap (λ n.
    length before + n) (length-segment_bits s) in
    subst (λ x. IsForm (normal x)) e
    (forms_from next ss (subst IsForm (sym one) g) a.1 (omega (arith, long, w)) all)

no_form : IsForm []
no_form = record { segments = tt; apart = tt; few = omega arith; short = omega arith }

pub form_after_is : (f : Fate) (ss : List Segment) (cs : List Bit) → IsForm ss → bits_after f (bits ss) ≡ Some cs
    → IsForm (normal cs)
form_after_is f ss cs i e =
    let p = shown_after f ss cs i.segments e in
    let long : length cs ≡ width ss = length_after f (bits ss) cs e ∙ length-bits ss in
    let wide : width p.segments ≡ width ss = sym (length-bits p.segments) ∙ ap length p.bits_are ∙ long in
    subst (λ x. IsForm (normal x)) p.bits_are
    (forms_from [] p.segments no_form p.valid (omega (arith, wide, i.short)) (omega (
      arith,
      normal_le p.segments
          p.valid,
      p.few,
      i.few,
    )))

pub width_after : (f : Fate) (ss : List Segment) (cs : List Bit) → bits_after f (bits ss) ≡ Some cs
    → width (normal cs) ≡ width ss
width_after f ss cs e =
    sym (length-bits (normal cs)) ∙ ap length (bits-normal cs) ∙ length_after f (bits ss) cs e ∙ length-bits ss
