-- The memory before main.
use Rattle.std.proofs.Common.{◌≡◌, ℕ, zero, suc, ◌+◌, ◌%◌, ◌<◌, ◌≤◌, ◌==◌, ℤ, pos, Bool, true, false, ◌&&◌, ◌||◌, not}
use Rattle.ep_int.proofs.Basics.{slice_get-here}
use Rattle.ep_core.proofs.Basics.{is_number-size}
use Rattle.std.proofs.lemmas.Option.{slice_get-map, slice_get_past}
use Rattle.std.proofs.lemmas.Bool.{or_cases}
use Rattle.std.proofs.lemmas.List.{drop_all, get_or_default}
use Rattle.std.proofs.lemmas.Option.{slice_get_within}
use Rattle.std.proofs.Common.{nat_eq, nat_lt, nat_le, List, [], ◌∷◌, length, map, drop, fold, get_or, slice_get}
use Rattle.std.proofs.Common.{Option, Some, None}
use Rattle.std.proofs.Common.{Result, Ok, Err, OnOk, ◌⊎◌, inl, inr, refl, sym, ap, ◌∙◌, subst, if◌then◌else◌, arith}
use Rattle.std.specs.Prelude.{⊤, option_to_list, slice_index, unsigned_abs}
use Rattle.std.specs.List.{list_all, list_any}
use Rattle.std.proofs.Math.Seq.{drop-cons}
use Rattle.std.proofs.lemmas.Bool.{and_parts}
use Rattle.std.proofs.lemmas.Bool.Decides.{nat_tests}
use mathlib.Core.Path.{fun_ext}
use Rattle.ep_int.specs.declared.types.Model.{Model}
use Rattle.ep_int.specs.declared.types.Scalar.{Scalar}
use Rattle.ep_int.specs.declared.types.Scalar.TheVariants.{Int, Pointer}
use Rattle.ep_int.specs.Types.{size_of}
use Rattle.ep_int.specs.Memory.{Memory, undefined, number, int, zeroed, store_fault, stored}
use Rattle.ep_layout.specs.declared.types.Leaf.{Leaf}
use Rattle.ep_layout.specs.Layout.{AreLeavesFrom}
use Rattle.ep_layout.specs.Table.{Table, leaves, size}
use Rattle.ep_layout.proofs.Ordered.{leaves_ordered}
use Rattle.ep_int.specs.declared.types.Order.{Order}
use Rattle.ep_alarms.specs.declared.types.AlarmKind.{AlarmKind}
use Rattle.ep_bytes.specs.StoreView.{StoreView, count_of, memory_in, size_in}
use Rattle.ep_bytes.specs.View.{fault_at, written_as}
use Rattle.ep_core.specs.Program.{Block, Function, Init, Program}
use Rattle.ep_core.specs.Exec.{block_size, model, result_in, size_at}
use Rattle.ep_core.specs.Runs.{blank, is_global, is_result, main_function}
use Rattle.ep_core.specs.WellFormed.{block_fits, blocks_fit, holds_scalar, init_fits, is_well_formed, is_leaf_at}
use Rattle.ep_core.specs.WellFormed.{is_number, is_same_scalar}
use Rattle.ep_int.specs.Arith.{is_in_range, IsOfSomeType}
use Rattle.ep_int.specs.Types.{InRange}
use Rattle.ep_int.proofs.Arithmetic.{in_range_from_true, in_range_some_type}
use Rattle.std.proofs.Common.{FitsSigned}
use Rattle.std.proofs.lemmas.Int.{ints}
use Rattle.std.specs.Int.{w128}
use Rattle.std.proofs.Math.ListN.{length-map}
use Rattle.std.specs.Option.{option_map}
use Rattle.ep_core.specs.declared.program.InitByte.{InitByte}
use Rattle.ep_core.specs.View.{init_view}
use Rattle.ep_core.proofs.Operands.{first_values_fit, fits_at, sizes}
use Rattle.ep_core.proofs.Sorts.{all_at, never, same_scalar}
use Rattle.ep_bytes.specs.StoreView.{blank as undefined_all}
use Rattle.ep_machine.specs.declared.setting.Setting.{Setting}
use Rattle.ep_machine.specs.Settings.{program_in, IsLaid}
use Rattle.ep_simple_steps.proofs.Clears.{from_below}

-- ---- a leaf lies in its type, at a multiple of its size

record LiesIn (d : Model) (n offset : ℕ) (what : Scalar) : Type 0 where
  inside : offset + size_of d what ≤ n
  aligned : offset % size_of d what ≡ 0

leaf_lies : (d : Model) (e n : ℕ) (fs : List Leaf) (offset : ℕ) (what : Scalar) → AreLeavesFrom d e n fs
    → list_any (is_leaf_at offset what) fs ≡ true → LiesIn d n offset what
leaf_lies d e n [] offset what a h = absurd cc
leaf_lies d e n (f ∷ fs) offset what a h = elim (or_cases (is_leaf_at offset what f) (list_any (is_leaf_at offset what) fs) h) [
  | inl q ↦ here (and_parts (nat_eq f.offset offset) (is_same_scalar f.what what) q)
  | inr q ↦ leaf_lies d (f.offset + size_of d f.what) n fs offset what a.2 q
]
  where
    here : (nat_eq f.offset offset ≡ true) × (is_same_scalar f.what what ≡ true) → LiesIn d n offset what
    here q =
        let at : f.offset ≡ offset = grind (arith, nat_tests, q.0) in
        let so : f.what ≡ what = same_scalar f.what what q.1 in
        record {
          inside = rw (sym at, sym so) (from_below d (f.offset + size_of d f.what) n fs a.2);
          aligned = rw (sym at, sym so) a.1;
        }

no_fault : (d : Model) (n offset : ℕ) (what : Scalar) → LiesIn d n offset what → store_fault d n what offset ≡ None
no_fault d n offset what h =
    let in_block : nat_lt n (offset + size_of d what) ≡ false = grind (arith, nat_tests, h.inside) in
    rw (in_block, h.aligned) refl

-- ---- a first value goes to a block that is slice_get-here, to a place that is in it

pub record GoesIn (p : Program) (i : Init) : Type 0 where
  pub b : Block
  pub is : slice_get p.blocks i.block ≡ Some b
  pub fault : store_fault p.types.model b.size (Int i.t) i.offset ≡ None

goes_in : (p : Program) (i : Init) → blocks_fit p.types p.blocks ≡ true → init_fits p.types p.blocks i ≡ true
    → GoesIn p i
goes_in p i fit h = split (slice_get p.blocks i.block) refl
  where
    split : (o : Option Block) → slice_get p.blocks i.block ≡ o → GoesIn p i
    split None q = never (rw q at h)
    split (Some b) q =
        let g : (b.global && list_any (is_leaf_at i.offset (Int i.t)) (leaves p.types b.ty)) && is_in_range i.t i.value ≡ true
        = rw q at h in
        let parts = and_parts _ (is_in_range i.t i.value) g in
        let leaf = (and_parts b.global (list_any (is_leaf_at i.offset (Int i.t)) (leaves p.types b.ty)) parts.0).1 in
        let block = all_at (block_fits p.types) p.blocks i.block b (and_parts (list_all (block_fits p.types) p.blocks) _ fit).0 q in
        let size = is_number-size (size p.types b.ty) b.size (and_parts (is_number (size p.types b.ty) b.size) (nat_le 1 b.size) block).0 in
        record {
          b = b;
          is = q;
          fault = no_fault p.types.model b.size i.offset (Int i.t)
              (leaf_lies p.types.model 0 b.size (leaves p.types b.ty) i.offset (Int i.t)
              (subst (λ n. AreLeavesFrom p.types.model 0 n (leaves p.types b.ty)) size (leaves_ordered p.types b.ty)) leaf);
        }

-- ---- blocks of zero bytes, so many of them

abbrev pub zeros_to : List Block → Option (ℕ × Scalar) → (count : ℕ) → Memory
zeros_to bs r n c p = if nat_lt c n && (is_global (slice_get bs c) || is_result r c) then number 0 else undefined

zero_byte : (marked : ℕ → Bool) (n c : ℕ) (t u v w : Bool) → nat_eq n c ≡ t → nat_lt c n ≡ u → nat_lt c (n + 1) ≡ v
    → marked n ≡ w
    → (if w then (if t then number 0 else (if u && marked c then number 0 else undefined))
    else (if u && marked c then number 0 else undefined))
    ≡ (if v && marked c then number 0 else undefined)
zero_byte marked n c true u v w et eu ev ew =
    let same : n ≡ c = grind (arith, nat_tests, et) in
    let below : u ≡ false = grind (arith, nat_tests, et, eu) in
    let now : v ≡ true = grind (arith, nat_tests, et, ev) in
    let mark : marked c ≡ w = ap marked (sym same) ∙ ew in
    rw (below, now, mark) (both w)
  where
    both : (w : Bool) → (if w then number 0 else undefined) ≡ (if w then number 0 else undefined)
    both w = refl
zero_byte marked n c false u v w et eu ev ew =
    let same : v ≡ u = grind (arith, nat_tests, et, eu, ev) in
    rw same (either w)
  where
    either : (w : Bool) → (if w then (if u && marked c then number 0 else undefined)
        else (if u && marked c then number 0 else undefined)) ≡ (if u && marked c then number 0 else undefined)
    either true = refl
    either false = refl

pub zeros_none : (bs : List Block) (r : Option (ℕ × Scalar)) (x : Memory) → x ≡ undefined_all → x ≡ zeros_to bs r 0
zeros_none bs r x e = e ∙ fun_ext (λ c. fun_ext (λ p. none c))
  where
    none : (c : ℕ) → undefined ≡ (if nat_lt c 0 && (is_global (slice_get bs c) || is_result r c) then number 0 else undefined)
    none c = let below : nat_lt c 0 ≡ false = grind (arith, nat_tests) in rw below refl

pub zeros_more : (bs : List Block) (r : Option (ℕ × Scalar)) (n : ℕ) (old new : Memory) (w : Bool)
    → w ≡ (is_global (slice_get bs n) || is_result r n) → old ≡ zeros_to bs r n
    → new ≡ (if w then zeroed old n else old) → new ≡ zeros_to bs r (n + 1)
zeros_more bs r n old new w ew eo en = en ∙ fun_ext (λ c. fun_ext (λ p. at c p))
  where
    taken : (w : Bool) (c p : ℕ) → (if w then zeroed (zeros_to bs r n) n else zeros_to bs r n) c p
        ≡ (if w then (if nat_eq n c then number 0 else zeros_to bs r n c p) else zeros_to bs r n c p)
    taken true c p = refl
    taken false c p = refl

    at : (c p : ℕ) → (if w then zeroed old n else old) c p ≡ zeros_to bs r (n + 1) c p
    at c p =
        ap (λ (z : Memory). (if w then zeroed z n else z) c p) eo
        ∙ taken w c p
        ∙ zero_byte (λ c. is_global (slice_get bs c) || is_result r c) n c (nat_eq n c) (nat_lt c n) (nat_lt c (n + 1)) w
        refl refl refl (sym ew)

-- past the last block nothing is marked
pub zeros_all : (bs : List Block) (r : Option (ℕ × Scalar)) → ((c : ℕ) → is_result r c ≡ true → c < length bs)
    → (n : ℕ) → n ≡ length bs → (x : Memory) → x ≡ zeros_to bs r n → x ≡ blank bs r
zeros_all bs r slice_get-here n en x e = e ∙ fun_ext (λ c. fun_ext (λ p. at c (nat_lt c n) refl (is_result r c) refl))
  where
    at : (c : ℕ) (t : Bool) → nat_lt c n ≡ t → (u : Bool) → is_result r c ≡ u
        → (if t && (is_global (slice_get bs c) || u) then number 0 else undefined)
        ≡ (if is_global (slice_get bs c) || u then number 0 else undefined)
    at c true et u eu = refl
    at c false et true eu = let h = slice_get-here c eu in absurd (grind (arith, nat_tests, et, en, h))
    at c false et false eu =
        let past : n ≤ c = grind (arith, nat_tests, et) in
        rw (slice_get_past bs c (omega (arith, past, en))) refl

-- ---- the first values, one after another

map_at : {X Y : Type 0} (g : X → Y) (xs : List X) (i : ℕ) (x : X) → i < length xs → x ≡ get_or xs i x
    → g x ≡ get_or (map g xs) i (g x)
map_at g [] i x h e = absurd (omega arith)
map_at g (y ∷ ys) zero x h e = ap g e
map_at g (y ∷ ys) (suc i) x h e = map_at g ys i x (omega arith) e

map_long : {X Y : Type 0} (g : X → Y) (xs : List X) (i : ℕ) → i < length xs → i < length (map g xs)
map_long g [] i h = absurd (omega arith)
map_long g (y ∷ ys) zero h = omega arith
map_long g (y ∷ ys) (suc i) h = let k = map_long g ys i (omega arith) in omega (arith, k)

pub firsts_next : {X Y : Type 0} (g : X → Y) (f : Memory → Y → Memory) (i : ℕ) (xs : List X) (x : X) (m n y : Memory)
    → i < length xs → x ≡ get_or xs i x → n ≡ f m (g x) → fold f m (drop i (map g xs)) ≡ y
    → fold f n (drop (i + 1) (map g xs)) ≡ y
firsts_next g f i xs x m n y h e en k =
    let s : suc i ≡ i + 1 = omega arith in
    ap (λ z. fold f z (drop (i + 1) (map g xs))) en ∙ ap (λ j. fold f (f m (g x)) (drop j (map g xs))) (sym s)
    ∙ ap (λ z. fold f (f m z) (drop (suc i) (map g xs))) (map_at g xs i x h e)
    ∙ ap (fold f m) (sym (drop-cons (map g xs) i (g x) (map_long g xs i h))) ∙ k

pub firsts_end : {Y : Type 0} (f : Memory → Y → Memory) (i : ℕ) (ys : List Y) (m y : Memory) → length ys ≤ i
    → fold f m (drop i ys) ≡ y → m ≡ y
firsts_end f i ys m y h k = ap (fold f m) (sym (drop_all i ys h)) ∙ k

-- the sizes of blocks, as a store has them
pub sizes_are : (o : Order) (p : Program) (bs : List Block) (b : ℕ)
    → slice_index (map (λ (b : Block). b.size) bs) b ≡ block_size o p (slice_get bs b)
sizes_are o p [] b = refl
sizes_are o p (k ∷ ks) zero = refl
sizes_are o p (k ∷ ks) (suc b) = sizes_are o p ks b

-- ---- main's result has a block

block_there : (p : Program) (r : ℕ × Scalar) → holds_scalar p.types p.blocks r ≡ true → r.0 < length p.blocks
block_there p r h = split (slice_get p.blocks r.0) refl
  where
    split : (o : Option Block) → slice_get p.blocks r.0 ≡ o → r.0 < length p.blocks
    split None q = never (rw q at h)
    split (Some b) q = slice_get_within p.blocks r.0 b q

result_there : (p : Program) (r : Option (ℕ × Scalar)) → list_all (holds_scalar p.types p.blocks) (option_to_list r) ≡ true
    → (c : ℕ) → is_result r c ≡ true → c < length p.blocks
result_there p None h c e = absurd cc
result_there p (Some r) h c e =
    let same : r.0 ≡ c = grind (arith, nat_tests, e) in
    subst (λ n. n < length p.blocks) same
    (block_there p r (and_parts (holds_scalar p.types p.blocks r) true h).0)

pub main_there : (o : Order) (p : Program) → is_well_formed p ≡ true → (c : ℕ)
    → is_result (result_in (main_function o p)) c ≡ true → c < length p.blocks
main_there o p w c h = split (slice_get p.functions p.main) refl h
  where
    split : (f : Option Function) → slice_get p.functions p.main ≡ f → is_result (result_in f) c ≡ true
        → c < length p.blocks
    split None q h = absurd cc
    split (Some f) q h = result_there p f.result (fits_at p w p.main f q).1 c h

-- ---- a first value is stored

pub first_stored : (m : Setting) (h new : StoreView) (i : Init) (a : Result ⊤ AlarmKind) (z : ℤ) → z ≡ pos i.offset
    → IsLaid m h → is_well_formed (program_in m) ≡ true
    → init_fits (program_in m).types (program_in m).blocks i ≡ true
    → a ≡ written_as (fault_at z (store_fault h.model (size_in h i.block) (Int i.t)))
    → OnOk a (memory_in new ≡ stored m.order h.model (memory_in h) (Int i.t) i.block (unsigned_abs z) (int i.value))
    → memory_in new
    ≡ stored m.order (model m.order (program_in m)) (memory_in h) (Int i.t) i.block i.offset (int i.value)
first_stored m h new i a z ez laid w fits answer ok =
    let p = program_in m in
    let g = goes_in p i (sizes p w) fits in
    let size : size_at m.order p i.block ≡ g.b.size = ap (block_size m.order p) g.is in
    let none : fault_at z (store_fault h.model (size_in h i.block) (Int i.t)) ≡ None
    = rw (ez, laid.model, laid.sizes i.block, size) g.fault in
    let done : a ≡ written_as None = answer ∙ ap written_as none in
    let x : stored m.order h.model (memory_in h) (Int i.t) i.block (unsigned_abs z) (int i.value)
    ≡ stored m.order (model m.order p) (memory_in h) (Int i.t) i.block i.offset (int i.value)
    = rw (ez, laid.model) refl in
    let o : OnOk (written_as None) (memory_in new ≡ stored m.order h.model (memory_in h) (Int i.t) i.block (unsigned_abs z) (int i.value))
    = subst (λ (y : Result ⊤ AlarmKind). OnOk y (memory_in new ≡ stored m.order h.model (memory_in h) (Int i.t) i.block (unsigned_abs z) (int i.value))) done ok in
    o ∙ x

pub first_there : (p : Program) (i : Init) → is_well_formed p ≡ true → init_fits p.types p.blocks i ≡ true
    → i.block < length p.blocks
first_there p i w h = let g = goes_in p i (sizes p w) h in slice_get_within p.blocks i.block g.b g.is

-- a first value of the program goes to a leaf
pub first_fits : (p : Program) → is_well_formed p ≡ true → (is : List InitByte) → p.init ≡ map init_view is → (i : ℕ)
    → (x : InitByte) → i < length is → x ≡ get_or is i x → init_fits p.types p.blocks (init_view x) ≡ true
first_fits p w is e i x h k =
    all_at (init_fits p.types p.blocks) p.init i (init_view x) (first_values_fit p w)
    (ap (λ ys. slice_get ys i) e ∙ slice_get-map init_view is i ∙ ap (option_map init_view) (slice_get-here is i x h k))

pub number_fits : (p : Program) (i : Init) → init_fits p.types p.blocks i ≡ true → InRange i.t i.value
number_fits p i h = in_range_from_true i.t i.value (and_parts _ (is_in_range i.t i.value) h).1

-- a new store has the blocks of the program
pub new_laid : (m : Setting) (h : StoreView) (sizes : List ℕ)
    → sizes ≡ map (λ (b : Block). b.size) (program_in m).blocks → h.model ≡ model m.order (program_in m)
    → count_of h ≡ length sizes → ((b : ℕ) → size_in h b ≡ slice_index sizes b) → IsLaid m h
new_laid m h sizes e em ec es = record {
  model = em;
  count = ec ∙ ap length e ∙ length-map (program_in m).blocks (λ (b : Block). b.size);
  sizes = λ b. es b ∙ ap (λ xs. slice_index xs b) e ∙ sizes_are m.order (program_in m) (program_in m).blocks b;
}

-- the number of a first value fits 128 bits
pub number_short : (p : Program) (i : Init) → init_fits p.types p.blocks i ≡ true → FitsSigned w128 i.value
number_short p i h = short i.value (in_range_some_type i.t i.value (number_fits p i h))
  where
    short : (v : ℤ) → IsOfSomeType v → FitsSigned w128 v
    short v q = omega (arith, ints)
