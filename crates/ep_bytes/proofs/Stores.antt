-- The memory of a store after a change of its bytes.
use Rattle.std.proofs.Common.{◌≡◌, ℕ, ◌+◌, ◌-◌, ◌<◌, ◌≤◌, ◌≢◌, ◌⊎◌, ⊎_elim, inl, inr, Bool, true, false, ◌&&◌, ◌||◌}
use Rattle.ep_bytes.proofs.Noted.{same_or_not}
use Rattle.ep_int.proofs.Basics.{or-false}
use Rattle.std.proofs.Common.{nat_eq, nat_lt, nat_le, if◌then◌else◌, List, [], ◌∷◌, length, slice_set, take, drop}
use Rattle.std.proofs.Common.{map, refl, sym, ◌∙◌, ap, subst, arith, get_or-set_same, get_or-set_other}
use Rattle.std.proofs.lemmas.Bool.{cases_lt, le-ltb, lt-ltb, le-leb, lt-leb, eq-eqb, ne_eqb, and_left, and_right}
use Rattle.std.proofs.lemmas.List.{get_or_past}
use mathlib.Core.Path.{fun_ext}
use Rattle.ep_int.specs.declared.types.Model.{Model}
use Rattle.ep_int.specs.Memory.{Byte, undefined, number, fragment, lies_partly, broken, replaced, killed, zeroed}
use Rattle.ep_int.specs.Memory.{forgotten, bytes_from}
use Rattle.ep_bytes.specs.declared.types.Byte.{Byte as Cell}
use Rattle.ep_bytes.specs.declared.types.Byte.TheVariants as cell
use Rattle.ep_bytes.specs.declared.cells.ByteRange.{ByteRange}
use Rattle.ep_bytes.specs.declared.store.Block.{Block}
use Rattle.ep_bytes.specs.View.{byte_in}
use Rattle.ep_bytes.specs.Cells.{cell_at, taken_from, unbroken, without, IsWritten, IsReplaced}
use Rattle.ep_bytes.proofs.Readings.{bytes_from_cells}
use Rattle.ep_bytes.specs.StoreView.{AreLaid, block_of, memory_of, no_block, past_end}

byte_in_unbroken : (d : Model) (here n : ℕ) (c : Cell) (p : ℕ)
    → byte_in (unbroken d here n c p) ≡ (if lies_partly d here n (byte_in c) p then undefined else byte_in c)
byte_in_unbroken d here n c p =
    elim (lies_partly d here n (byte_in c) p) as
    (λ t. byte_in (if t then cell.Undefined else c) ≡ (if t then undefined else byte_in c))
    [ true ↦ refl | false ↦ refl ]

past_whole : (d : Model) (here n : ℕ) (k : Block) (p : ℕ) → lies_partly d here n (past_end k) p ≡ false
past_whole d here n k p =
    elim (k.is_zeroed) as (λ z. lies_partly d here n (if z then number 0 else undefined) p
    ≡ false) [ true ↦ refl | false ↦ refl ]

-- the bytes of another block
other_block : (blocks : List Block) (old new : List Cell) (b c p : ℕ) → AreLaid blocks (length old) → b < length blocks
    → b ≢ c → ((i : ℕ) → (i < (block_of blocks b).start) ⊎ ((block_of blocks b).start + (block_of blocks b).size ≤ i)
    → cell_at new i ≡ cell_at old i)
    → memory_of blocks new c p ≡ memory_of blocks old c p
other_block blocks old new b c p laid there apart outside =
    let k = block_of blocks b in
    let q = block_of blocks c in
    ⊎_elim
    (λ inside.
    (let same : cell_at new (q.start + p) ≡ cell_at old (q.start + p) =
    ⊎_elim
    (λ after. ⊎_elim
    (λ known. (let a = laid.apart b c after known in outside (q.start + p) (inr (omega arith))))
    (λ none.
    (let e : q ≡ no_block = get_or_past blocks c no_block none in
    absurd (omega (arith, ap (λ (x : Block). x.size) e))))
    (cases_lt c (length blocks)))
    (λ before. (let a = laid.apart c b (omega arith) there in outside (q.start + p) (inl (omega arith))))
    (cases_lt b c) in
    ap (λ (x : Cell). if nat_lt p q.size then byte_in x else past_end q) same))
    (λ past. (let t : nat_lt p q.size ≡ false = le-ltb p q.size past in rw t refl))
    (cases_lt p q.size)

replaced_at : (d : Model) (blocks : List Block) (old new : List Cell) (b : ℕ) (s : ByteRange) (f : ℕ → Cell) (g : ℕ → Byte)
    → AreLaid blocks (length old) → b < length blocks → s.start ≡ (block_of blocks b).start
    → s.here + s.count ≤ (block_of blocks b).size → IsReplaced d old new s (block_of blocks b).size f
    → ((k : ℕ) → k < s.count → byte_in (f k) ≡ g k)
    → (c p : ℕ) → memory_of blocks new c p ≡ replaced d (memory_of blocks old) b s.here s.count g c p
replaced_at d blocks old new b s f g laid there start fits w h c p =
    let k = block_of blocks b in
    let here = s.here in
    let n = s.count in
    let m = memory_of blocks old in
    ⊎_elim
    (λ same.
    subst (λ x. memory_of blocks new x p ≡ replaced d m b here n g x p) same
    (let e : nat_eq b b ≡ true = eq-eqb b b refl in
    ⊎_elim
    (λ inside.
    (let t : nat_lt p k.size ≡ true = lt-ltb p k.size inside in
    let beside : (p < here) ⊎ (here + n ≤ p) → (nat_le here p && nat_lt p (here + n)) ≡ false
    → memory_of blocks new b p ≡ replaced d m b here n g b p =
    λ o u. rw (t, e, u) (ap byte_in
    (subst (λ x. cell_at new (x + p) ≡ unbroken d here n (cell_at old (x + p)) p) start (w.beside p inside o))
    ∙ byte_in_unbroken d here n (cell_at old (k.start + p)) p) in
    ⊎_elim
    (λ before. beside (inl before) (and_left (nat_le here p) (nat_lt p (here + n)) (lt-leb here p before)))
    (λ from. ⊎_elim
    (λ covered.
    (let u : nat_le here p ≡ true = le-leb here p from in
    let v : nat_lt p (here + n) ≡ true = lt-ltb p (here + n) covered in
    rw (t, e, u, v) (ap byte_in (subst (λ x. cell_at new (x + p) ≡ f (p - here)) start (w.inside p from covered))
    ∙ h (p - here) (omega arith))))
    (λ after. beside (inr after) (and_right (nat_le here p) (nat_lt p (here + n)) (le-ltb p (here + n) after)))
    (cases_lt p (here + n)))
    (cases_lt p here)))
    (λ past.
    (let t : nat_lt p k.size ≡ false = le-ltb p k.size past in
    let u : (nat_le here p && nat_lt p (here + n)) ≡ false =
    and_right (nat_le here p) (nat_lt p (here + n)) (le-ltb p (here + n) (omega arith)) in
    rw (t, e, u, past_whole d here n k p) refl))
    (cases_lt p k.size)))
    (λ apart.
    (let e : nat_eq b c ≡ false = ne_eqb b c apart in
    rw e (other_block blocks old new b c p laid there apart
    (λ i o. w.outside i (subst (λ x. (i < x) ⊎ (x + k.size ≤ i)) (sym start) o)))))
    (same_or_not b c)

pub replaced_in : (d : Model) (blocks : List Block) (old new : List Cell) (b : ℕ) (s : ByteRange)
    → (f : ℕ → Cell) (g : ℕ → Byte)
    → AreLaid blocks (length old) → b < length blocks → s.start ≡ (block_of blocks b).start
    → s.here + s.count ≤ (block_of blocks b).size → IsReplaced d old new s (block_of blocks b).size f
    → ((k : ℕ) → k < s.count → byte_in (f k) ≡ g k)
    → memory_of blocks new ≡ replaced d (memory_of blocks old) b s.here s.count g
replaced_in d blocks old new b s f g laid there start fits w h =
    fun_ext (λ c. fun_ext (λ p. replaced_at d blocks old new b s f g laid there start fits w h c p))

-- ---- whole blocks

-- a block with the mark that says what its bytes past its end are
abbrev pub marked : Block → Bool → Block
marked k z = record { start = k.start; size = k.size; is_zeroed = z }

pub zeroed_in : (blocks : List Block) (old new : List Cell) (b : ℕ) → AreLaid blocks (length old) → b < length blocks
    → IsWritten old new (block_of blocks b).start (block_of blocks b).size (λ k. cell.Number 0)
    → memory_of (slice_set blocks b (marked (block_of blocks b) true)) new ≡ zeroed (memory_of blocks old) b
zeroed_in blocks old new b laid there w =
    let k = block_of blocks b in
    let now = slice_set blocks b (marked k true) in
    fun_ext (λ c. fun_ext (λ p.
    ⊎_elim
    (λ same.
    subst (λ x. memory_of now new x p ≡ zeroed (memory_of blocks old) b x p) same
    (let e : nat_eq b b ≡ true = eq-eqb b b refl in
    let q : block_of now b ≡ marked k true = get_or-set_same blocks b (marked k true) no_block there in
    ⊎_elim
    (λ inside.
    (let t : nat_lt p k.size ≡ true = lt-ltb p k.size inside in rw (q, e, t) (ap byte_in (w.inside p inside))))
    (λ past. (let t : nat_lt p k.size ≡ false = le-ltb p k.size past in rw (q, e, t) refl))
    (cases_lt p k.size)))
    (λ apart.
    (let e : nat_eq b c ≡ false = ne_eqb b c apart in
    let other : c ≢ b = omega arith in
    let q : block_of now c ≡ block_of blocks c = get_or-set_other blocks b c (marked k true) no_block other in
    rw (q, e) (other_block blocks old new b c p laid there apart w.outside)))
    (same_or_not b c)))

byte_in_without : (b : ℕ) (c : Cell) → byte_in (without b c) ≡ forgotten (b ∷ []) (byte_in c)
byte_in_without b cell.Undefined = refl
byte_in_without b (cell.Number v) = refl
byte_in_without b (cell.Fragment a o k) =
    rw (or-false (nat_eq a b))
    (elim (nat_eq a b) as (λ t. byte_in (if t then cell.Undefined else cell.Fragment a o k)
    ≡ (if t then undefined else fragment a o k))
    [ true ↦ refl | false ↦ refl ])

past_forgotten : (b : ℕ) (k : Block) → past_end k ≡ forgotten (b ∷ []) (past_end k)
past_forgotten b k =
    elim (k.is_zeroed) as
    (λ z. (if z then number 0 else undefined) ≡ forgotten (b ∷ []) (if z then number 0 else undefined))
    [ true ↦ refl | false ↦ refl ]

pub killed_in : (blocks : List Block) (old mid new : List Cell) (b : ℕ) → AreLaid blocks (length old)
    → b < length blocks
    → length mid ≡ length old → ((i : ℕ) → cell_at mid i ≡ without b (cell_at old i))
    → IsWritten mid new (block_of blocks b).start (block_of blocks b).size (λ k. cell.Undefined)
    → memory_of (slice_set blocks b (marked (block_of blocks b) false)) new ≡ killed (b ∷ []) (memory_of blocks old)
killed_in blocks old mid new b laid there long left w =
    let k = block_of blocks b in
    let now = slice_set blocks b (marked k false) in
    let laid_mid : AreLaid blocks (length mid) = rw long laid in
    fun_ext (λ c. fun_ext (λ p.
    ⊎_elim
    (λ same.
    subst (λ x. memory_of now new x p ≡ killed (b ∷ []) (memory_of blocks old) x p) same
    (let e : nat_eq b b ≡ true = eq-eqb b b refl in
    let q : block_of now b ≡ marked k false = get_or-set_same blocks b (marked k false) no_block there in
    ⊎_elim
    (λ inside.
    (let t : nat_lt p k.size ≡ true = lt-ltb p k.size inside in rw (q, e, t) (ap byte_in (w.inside p inside))))
    (λ past. (let t : nat_lt p k.size ≡ false = le-ltb p k.size past in rw (q, e, t) refl))
    (cases_lt p k.size)))
    (λ apart.
    (let other : c ≢ b = omega arith in
    let e : nat_eq c b ≡ false = ne_eqb c b other in
    let q : block_of now c ≡ block_of blocks c = get_or-set_other blocks b c (marked k false) no_block other in
    let z = block_of blocks c in
    rw (q, e) (other_block blocks mid new b c p laid_mid there apart w.outside
    ∙ ⊎_elim
    (λ inside.
    (let t : nat_lt p z.size ≡ true = lt-ltb p z.size inside in
    rw t (ap byte_in (left (z.start + p)) ∙ byte_in_without b (cell_at old (z.start + p)))))
    (λ past. (let t : nat_lt p z.size ≡ false = le-ltb p z.size past in rw t (past_forgotten b z)))
    (cases_lt p z.size))))
    (same_or_not b c)))

-- ---- places

-- places in two blocks have no byte in common
pub blocks_apart : (blocks : List Block) (count b c here there n : ℕ) → AreLaid blocks count → b < length blocks
    → c < length blocks → b ≢ c → here + n ≤ (block_of blocks b).size → there + n ≤ (block_of blocks c).size
    → ((block_of blocks b).start + here + n ≤ (block_of blocks c).start + there)
    ⊎ ((block_of blocks c).start + there + n ≤ (block_of blocks b).start + here)
blocks_apart blocks count b c here there n laid lb lc apart fits other =
    ⊎_elim
    (λ after. (let a = laid.apart b c after lc in inl (omega arith)))
    (λ before. (let a = laid.apart c b (omega arith) lb in inr (omega arith)))
    (cases_lt b c)

-- a byte inside of a block
byte_inside : (blocks : List Block) (cells : List Cell) (b p : ℕ) → p < (block_of blocks b).size
    → memory_of blocks cells b p ≡ byte_in (cell_at cells ((block_of blocks b).start + p))
byte_inside blocks cells b p h =
    let t : nat_lt p (block_of blocks b).size ≡ true = lt-ltb p (block_of blocks b).size h in
    rw t refl

-- what a copy takes is what the definition has
pub taken_is : (d : Model) (blocks : List Block) (cells : List Cell) (c : ℕ) (s : ByteRange) (k : ℕ)
    → s.start ≡ (block_of blocks c).start → s.here + s.count ≤ (block_of blocks c).size → k < s.count
    → byte_in (taken_from d cells s k) ≡ broken d (memory_of blocks cells) c s.here s.count c (s.here + k)
taken_is d blocks cells c s k start fits h =
    let e : nat_eq c c ≡ true = eq-eqb c c refl in
    let q = byte_inside blocks cells c (s.here + k) (omega arith) in
    let i : (block_of blocks c).start + (s.here + k) ≡ s.start + s.here + k = omega arith in
    let r : memory_of blocks cells c (s.here + k) ≡ byte_in (cell_at cells (s.start + s.here + k)) =
    q ∙ ap (λ j. byte_in (cell_at cells j)) i in
    byte_in_unbroken d s.here s.count (cell_at cells (s.start + s.here + k)) (s.here + k)
    ∙ ap (λ x. if lies_partly d s.here s.count x (s.here + k) then undefined else x) (sym r)
    ∙ ap (λ t. if t && lies_partly d s.here s.count (memory_of blocks cells c (s.here + k))
    (s.here + k) then undefined else memory_of blocks cells c (s.here + k)) (sym e)

-- the bytes that a read of a place finds
pub bytes_in_block : (blocks : List Block) (cells : List Cell) (b here n : ℕ) → AreLaid blocks (length cells)
    → here + n ≤ (block_of blocks b).size
    → bytes_from (memory_of blocks cells) b here n
    ≡ map byte_in (take n (drop ((block_of blocks b).start + here) cells))
bytes_in_block blocks cells b here n laid fits =
    let a = laid.inside b in
    let at = (block_of blocks b).start + here in
    bytes_from_cells (memory_of blocks cells) cells b here at n (omega arith)
    (λ k h. (let i : (block_of blocks b).start + (here + k) ≡ at + k = omega arith in
    byte_inside blocks cells b (here + k) (omega arith) ∙ ap (λ j. byte_in (cell_at cells j)) i))
