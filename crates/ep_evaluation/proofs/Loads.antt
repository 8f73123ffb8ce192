-- What a load gives on a side is what the machine loads.
use Rattle.std.proofs.Common.{◌≡◌, ℕ, ◌+◌, ◌%◌, ◌<◌, ◌≤◌, ℤ, pos, Bool, true, false, ◌||◌, not, nat_lt, cond, List}
use Rattle.ep_reads.proofs.Gathered.{if_some}
use Rattle.ep_int.proofs.Basics.{size_positive}
use Rattle.ep_cell_ranges.proofs.Shareds.{has_one}
use Rattle.std.proofs.Common.{[], ◌∷◌, slice_get, Option, Some, None, IfSome, IsSomeAnd, refl, sym, ap, ◌∙◌, subst}
use Rattle.std.proofs.Common.{arith}
use Rattle.std.specs.List.{list_any}
use Rattle.std.specs.Option.{option_map}
use Rattle.std.proofs.lemmas.Bool.{eqb-true, ltb-false}
use Rattle.std.proofs.lemmas.Option.{slice_get-map}
use Rattle.ep_int.specs.declared.types.Order.{Order}
use Rattle.ep_int.specs.declared.types.Model.{Model}
use Rattle.ep_int.specs.declared.types.Scalar.{Scalar}
use Rattle.ep_int.specs.declared.types.Scalar.TheVariants.{Int, Pointer}
use Rattle.ep_int.specs.Types.{size_of}
use Rattle.ep_int.specs.Memory.{Memory, Value as Datum, int, null, pointer, Found, has, faults, bounds, alignment}
use Rattle.ep_int.specs.Memory.{uninitialised, bytes_from, is_undefined, value_of_bytes, is_aligned, loaded}
use Rattle.ep_bitslice.specs.declared.cell.CellName.{CellName}
use Rattle.ep_bitslice.specs.declared.segment.Segment.{Segment}
use Rattle.ep_bitslice.specs.Segments.{number}
use Rattle.ep_domain.specs.Domain.{Ops, Lawful, Holds}
use Rattle.ep_pointers.specs.Value.{Pointers, offset_at}
use Rattle.ep_cells.specs.declared.cell.Value.{Value}
use Rattle.ep_cells.specs.declared.cell.Value.TheVariants.{Num, Ptr}
use Rattle.ep_cells.specs.States.{Known}
use Rattle.ep_cells.specs.Meaning.{Memories, Allows, numbers_of}
use Rattle.ep_reads.specs.declared.read.ReadValue.{ReadValue}
use Rattle.ep_reads.specs.Bytes.{order_on}
use Rattle.ep_reads.specs.Read.{read}
use Rattle.ep_reads.specs.Laws.{memory_on, IsNumberOf, ReadLaws}
use Rattle.ep_core.specs.Program.{Block, Program}
use Rattle.ep_core.specs.Exec.{block_size, size_at}
use Rattle.ep_core.specs.Runs.{Side, left, right}
use Rattle.ep_equalities.specs.declared.pair.SideValue.{SideValue}
use Rattle.ep_equalities.specs.Pairs.{SideIn, HasFormNumber}
use Rattle.ep_evaluation.specs.Given.{cells_of}
use Rattle.ep_evaluation.specs.Accesses.{reads_of, form_of_reads, lacks_value, is_unset, is_mixed}
use Rattle.ep_cell_ranges.specs.Spots.{Spot}
use Rattle.ep_evaluation.specs.Evaluation.{places_at, reads_at, load_side}
use Rattle.ep_evaluation.specs.Laws.{memory_of, sizes_of, IsKept}
use Rattle.ep_evaluation.proofs.Spots.{Among, here, behind, spot_there, set_at, pure_at, joined_at}

pub record Loads (o : Order) (d : Model) (size : ℕ) (m : Memory) (w : Scalar) (b q : ℕ) (v : Datum) : Type 0 where
  pub inside : q + size_of d w ≤ size
  pub aligned : q % size_of d w ≡ 0
  pub found : value_of_bytes o w (bytes_from m b q (size_of d w)) ≡ has v

chain : (a b c : Bool) (x : Found) (v : Datum)
    → cond a (faults bounds) (cond (not b) (faults alignment) (cond c (faults uninitialised) x)) ≡ has v
    → (a ≡ false) × (b ≡ true) × (x ≡ has v)
chain true b c x v e = absurd (let q : faults bounds ≡ has v = e in cc)
chain false false c x v e = absurd (let q : faults alignment ≡ has v = e in cc)
chain false true true x v e = absurd (let q : faults uninitialised ≡ has v = e in cc)
chain false true false x v e = (refl, refl, e)

pub loads : (o : Order) (d : Model) (size : ℕ) (m : Memory) (w : Scalar) (b q : ℕ) (v : Datum)
    → loaded o d size m w b q ≡ has v → Loads o d size m w b q v
loads o d size m w b q v e =
    let r = chain (nat_lt size (q + size_of d w)) (is_aligned d w q)
    (list_any is_undefined (bytes_from m b q (size_of d w)))
    (value_of_bytes o w (bytes_from m b q (size_of d w))) v e in
    record { inside = ltb-false size (q + size_of d w) r.0; aligned = eqb-true (q % size_of d w) 0 r.1; found = r.2 }

-- a block that has bytes is there
size_there : (o : Order) (p : Program) (c : Option Block) (n : ℕ) → n ≤ block_size o p c → 0 < n
    → option_map (λ (x : Block). x.size) c ≡ Some (block_size o p c)
size_there o p None n h i = absurd (no_room n h i)
  where
    no_room : (n : ℕ) → n ≤ 0 → 0 < n → ⊥
    no_room n h i = omega (arith, h, i)
size_there o p (Some x) n h i = refl

more : (q n size : ℕ) → q + n ≤ size → n ≤ size
more q n size h = omega (arith, h)

is_number_of : (m : CellName → ℤ) (w : Scalar) (v : Datum) (ss : List Segment) → IsNumberOf w v (number m ss)
    → HasFormNumber m w v ss
is_number_of m (Int t) (int z) ss h = h
is_number_of m (Int t) null ss h = absurd h
is_number_of m (Int t) (pointer b q) ss h = absurd h
is_number_of m Pointer v ss h = absurd h

pub memory_at : (s : Side) (m : Memories) → memory_on (cells_of s) m ≡ memory_of s m
memory_at left m = refl
memory_at right m = refl

pub order_at : (s : Side) (os : Order × Order) (ord : Side → Order) → os ≡ (ord left, ord right)
    → order_on (cells_of s) os ≡ ord s
order_at left os ord e = ap (λ (x : Order × Order). x.0) e
order_at right os ord e = ap (λ (x : Order × Order). x.1) e

pub sure_read : {N : Type 0} (r : ReadValue N) → lacks_value r ≡ false → r.maybe ≡ false
sure_read r e = by_maybe r.maybe _ e
  where
    by_maybe : (a b : Bool) → (a || b) ≡ false → a ≡ false
    by_maybe true b e = absurd cc
    by_maybe false b e = refl

module _ {N : Type 0} (D : Ops N) (law : Lawful D) (reads : ReadLaws D) (p : Program) (ord : Side → Order) where
  pub record IsPtr (o : Option (Value N)) (b q : ℕ) : Type 0 where
    pub value : Pointers N
    pub is : o ≡ Some (Ptr value)
    pub holds : IsSomeAnd (offset_at value.targets b) (λ n. Holds D n (pos q))

  pub is_ptr : (o : Option (Value N)) (b q : ℕ) → Allows D Pointer o false (Some (pointer b q)) → IsPtr o b q
  is_ptr None b q a = absurd (let e : Some (pointer b q) ≡ None = a in cc)
  is_ptr (Some (Num n)) b q a = absurd a
  is_ptr (Some (Ptr x)) b q a = record { value = x; is = refl; holds = a }

  module _ (k : Known N) (m : Memories) (kept : IsKept D p ord k m) (w : Scalar) (s : Side) where
    -- a read that is sure has the value that the machine loads
    read_is : (b q : ℕ) (v : Datum) → Loads (ord s) p.types.model (size_at (ord s) p b) (memory_of s m) w b q v
        → lacks_value (read D k (cells_of s) b q w) ≡ false → (read D k (cells_of s) b q w).mixed ≡ false
        → Allows D w (read D k (cells_of s) b q w).value false (Some v)
        × IfSome (read D k (cells_of s) b q w).form (HasFormNumber (numbers_of k.orders m) w v)
    read_is b q v l set pure =
        let r = reads.holds k (cells_of s) b q w kept.state.cells m kept.holds
        (sure_read (read D k (cells_of s) b q w) set) pure in
        let e : has r.datum ≡ has v =
        sym r.found
        ∙ (ap (λ o. value_of_bytes o w (bytes_from (memory_on (cells_of s) m) b q (size_of k.model w)))
        (order_at s k.orders ord kept.state.orders)
        ∙ (ap (λ c. value_of_bytes (ord s) w (bytes_from c b q (size_of k.model w))) (memory_at s m)
        ∙ (ap (λ d. value_of_bytes (ord s) w (bytes_from (memory_of s m) b q (size_of d w))) kept.state.model
        ∙ l.found))) in
        let same = has_one r.datum v e in (
          subst (λ d. Allows D w (read D k (cells_of s) b q w).value false (Some d)) same r.allowed,
          subst (λ d. IfSome (read D k (cells_of s) b q w).form (HasFormNumber (numbers_of k.orders m) w d)) same
              (if_some (read D k (cells_of s) b q w).form
              (λ ss. IsNumberOf w r.datum (number (numbers_of k.orders m) ss))
              (HasFormNumber (numbers_of k.orders m) w r.datum)
              (λ ss h. is_number_of (numbers_of k.orders m) w r.datum ss h) r.form),
        )

    form_at : (x : Spot) (qs : List Spot) (v : Datum) → Among x qs
        → IfSome (read D k (cells_of s) x.0 x.1 w).form (HasFormNumber (numbers_of k.orders m) w v)
        → IfSome (form_of_reads (reads_of D k (cells_of s) w qs)) (HasFormNumber (numbers_of k.orders m) w v)
    form_at x [] v h e = elim h [ ]
    form_at x (_ ∷ []) v (here _) e = e
    form_at x (y ∷ []) v (behind _ _ h) e = elim h [ ]
    form_at x (y ∷ z ∷ qs) v h e = tt

    pub place_there : (x : SideValue N) (b q : ℕ) (v : Datum) → Allows D Pointer x.value false (Some (pointer b q))
        → Loads (ord s) p.types.model (size_at (ord s) p b) (memory_of s m) w b q v
        → Among (b, q) (places_at D (sizes_of p.blocks) w k x)
    place_there x b q v a l =
        let i = is_ptr x.value b q a in
        let n = size_of k.model w in
        let e : size_of p.types.model w ≡ n = ap (λ d. size_of d w) (sym kept.state.model) in
        let inside : q + n ≤ size_at (ord s) p b = subst (λ n. q + n ≤ size_at (ord s) p b) e l.inside in
        let aligned : q % n ≡ 0 = subst (λ n. q % n ≡ 0) e l.aligned in
        let there = slice_get-map (λ (x : Block). x.size) p.blocks b
        ∙ size_there (ord s) p (slice_get p.blocks b) n (more q n (size_at (ord s) p b) inside)
        (size_positive k.model w) in
        rw i.is (spot_there D (sizes_of p.blocks) n (size_positive k.model w) i.value.targets b q
        (size_at (ord s) p b) i.holds there inside aligned)

    pub load_held : (x : SideValue N) (b q : ℕ) (v : Datum) → Allows D Pointer x.value false (Some (pointer b q))
        → loaded (ord s) p.types.model (size_at (ord s) p b) (memory_of s m) w b q ≡ has v
        → is_unset (reads_at D (sizes_of p.blocks) w k x s) ≡ false
        → is_mixed (reads_at D (sizes_of p.blocks) w k x s) ≡ false
        → SideIn D (numbers_of k.orders m) w (load_side D (sizes_of p.blocks) w k x s) v
    load_held x b q v a e set pure =
        let l = loads (ord s) p.types.model (size_at (ord s) p b) (memory_of s m) w b q v e in
        let qs = places_at D (sizes_of p.blocks) w k x in
        let i = place_there x b q v a l in
        let r = read_is b q v l (set_at D law reads k kept.state.cells (cells_of s) w (b, q) qs i set)
        (pure_at D law reads k kept.state.cells (cells_of s) w (b, q) qs i pure) in
        record {
          value = joined_at D law reads k kept.state.cells (cells_of s) w (b, q) qs v i r.0;
          form = form_at (b, q) qs v i r.1;
        }
