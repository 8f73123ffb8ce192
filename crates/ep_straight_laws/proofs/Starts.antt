-- Where main begins, each variable has its first value, or none.
use Rattle.std.proofs.Common.{◌≡◌, ℕ, ◌+◌, inl, ℤ, pos, ◌≤ℤ◌, Bool, true, false, ◌||◌, List, ◌++◌, refl, sym, ap, ◌∙◌}
use Rattle.std.proofs.Common.{subst, Option, Some, None, unwrap_or, arith, slice_get}
use Rattle.std.proofs.lemmas.Int.{ints}
use Rattle.std.proofs.lemmas.Bool.{eq-eqb}
use Rattle.ep_int.specs.declared.types.IntType.{IntType}
use Rattle.ep_int.specs.declared.types.IntType.TheVariants.{I32}
use Rattle.ep_int.specs.declared.types.Order.{Order}
use Rattle.ep_int.specs.declared.types.Scalar.TheVariants.{Int}
use Rattle.ep_int.specs.Types.{InRange, bytes_of, size_of}
use Rattle.ep_int.specs.Memory.{Memory, Value as Datum, int, null, pointer, contains}
use Rattle.ep_int.proofs.Arithmetic.{in_range_some_type}
use Rattle.ep_layout.specs.declared.types.Leaf.{Leaf}
use Rattle.ep_bitslice.specs.declared.cell.Side.TheVariants.{Shared}
use Rattle.ep_domain.specs.Domain.{Ops, Lawful, IsSingle, Holds as HoldsNumber}
use Rattle.ep_cells.specs.declared.cell.Value.{Value}
use Rattle.ep_cells.specs.declared.cell.Value.TheVariants.{Num}
use Rattle.ep_cells.specs.Cells.{on_left, on_right}
use Rattle.ep_cells.specs.Kill.{leaf_at}
use Rattle.ep_cells.specs.Meaning.{Memories, Allows, HasBytes, In}
use Rattle.ep_cells.specs.States.{Known}
use Rattle.ep_core.specs.Program.{Block, Program}
use Rattle.ep_core.specs.Exec.{result_in, first_of}
use Rattle.ep_core.specs.Runs.{Side, left, right, is_global, is_result, start, initial}
use Rattle.ep_core.specs.WellFormed.{is_named, is_well_formed}
use Rattle.ep_core.proofs.Operands.{sizes, first_values_fit}
use Rattle.ep_pass.specs.Laws.{AreOther}
use Rattle.ep_pass.proofs.Keeping.{start_in}
use Rattle.ep_transfers.specs.Transfers.{killed_blocks}
use Rattle.ep_transfers.specs.Ends.{value_in, main_result, first_cell, first_of_blocks, locals_in, entry_known}
use Rattle.ep_transfers.specs.Cells.{cell_ops}
use Rattle.ep_transfers.specs.Laws.{memories, StandsFor}
use Rattle.ep_transfers.proofs.Locals.{not_result}
use Rattle.ep_transfers.proofs.FirstCells.{leaf_range}
use Rattle.ep_cell_states.proofs.Lawful.{cells_lawful}
use Rattle.ep_straight_laws.specs.Laws.{MeetsKeepSingles}
use Rattle.ep_straight_laws.proofs.Runs.{AreOnes}
use Rattle.ep_straight_laws.proofs.Cells.{IsCellOf}
use Rattle.ep_straight_laws.proofs.Scalars.{IsInteger, integer_is}
use Rattle.ep_straight_laws.proofs.Loads.{IsSet, IsVariable, unset, set}
use Rattle.ep_straight_laws.proofs.Gathered.{Main, seen, Holds}
use Rattle.ep_straight_laws.proofs.Entries.{outside_stays, entered_cell, first_there}

or_first : (x y : Bool) → (x || y) ≡ true → y ≡ false → x ≡ true
or_first true y h e = refl
or_first false true h e = absurd (cc)
or_first false false h e = h

module _ {N : Type 0} (D : Ops N) (law : Lawful D) (ord : Side → Order) (k : Known N) (m : Memories)
    (told : k.orders ≡ (ord left, ord right)) (holds : In D k m) (b : ℕ) (t : IntType) where
  -- what the machines have at a cell of a variable
  record Found (v : Option (Value N)) (maybe : Bool) : Type 0 where
    datum : Option Datum
    allowed : Allows D (Int t) v maybe datum
    on_left : HasBytes (ord left) m.left (bytes_of t) (Int t) maybe b 0 datum
    on_right : HasBytes (ord right) m.right (bytes_of t) (Int t) maybe b 0 datum

  found : (v : Option (Value N)) (maybe : Bool) → IsCellOf k b t v maybe → Found v maybe
  found v maybe c =
      let s = holds.cells c.cell c.is_in in
      let q = c.placed in
      let l : HasBytes k.orders.0 m.left
      (size_of k.model c.cell.what) c.cell.what c.cell.maybe c.cell.block c.cell.offset s.datum
      = s.stands.left (ap on_left q.side) in
      let r : HasBytes k.orders.1 m.right
      (size_of k.model c.cell.what) c.cell.what c.cell.maybe c.cell.block c.cell.offset s.datum
      = s.stands.right (ap on_right q.side) in
      record {
        datum = s.datum;
        allowed = subst (λ z. Allows D (Int t) v z s.datum) c.sure
            (subst (λ z. Allows D (Int t) z c.cell.maybe s.datum) c.value
            (subst (λ z. Allows D z c.cell.value c.cell.maybe s.datum) q.what s.allowed));
        on_left = moved (ord left) k.orders.0 m.left c s.datum (ap (λ (o : Order × Order). o.0) told) l;
        on_right = moved (ord right) k.orders.1 m.right c s.datum (ap (λ (o : Order × Order). o.1) told) r;
      }
    where
      moved : (o p : Order) (n : Memory) (c : IsCellOf k b t v maybe) (d : Option Datum) → p ≡ o
          → HasBytes p n (size_of k.model c.cell.what) c.cell.what c.cell.maybe c.cell.block c.cell.offset d
          → HasBytes o n (bytes_of t) (Int t) maybe b 0 d
      moved o p n c d e h =
          subst (λ z. HasBytes z n (bytes_of t) (Int t) maybe b 0 d) e
          (subst (λ z. HasBytes p n (bytes_of t) (Int t) maybe b z d) c.placed.offset
          (subst (λ z. HasBytes p n (bytes_of t) (Int t) maybe z c.cell.offset d) c.placed.block
          (subst (λ z. HasBytes p n (bytes_of t) (Int t) z c.cell.block c.cell.offset d) c.sure
          (subst (λ z. HasBytes p n (size_of k.model z) z c.cell.maybe c.cell.block c.cell.offset d) c.placed.what h))))

  none_found : Found None true → IsCellOf k b t None true → IsVariable D ord k m.left m.right b t
  none_found f c =
      let n : f.datum ≡ None = f.allowed in
      let l = subst (λ d. HasBytes (ord left) m.left (bytes_of t) (Int t) true b 0 d) n f.on_left in
      let r = subst (λ d. HasBytes (ord right) m.right (bytes_of t) (Int t) true b 0 d) n f.on_right in
      unset c (λ j h. ap (m.left b) (let e : j ≡ 0 + j = omega arith in e) ∙ l j h)
      (λ j h. ap (m.right b) (let e : j ≡ 0 + j = omega arith in e) ∙ r j h)

  set_found : (n : N) (v : ℤ) → IsSingle D n v → IsCellOf k b t (Some (Num n)) false → (d : Option Datum)
      → Allows D (Int t) (Some (Num n)) false d → HasBytes (ord left) m.left (bytes_of t) (Int t) false b 0 d
      → HasBytes (ord right) m.right (bytes_of t) (Int t) false b 0 d → IsSet D ord k m.left m.right b t
  set_found n v s c None a l r = absurd (let e : false ≡ true = a in cc)
  set_found n v s c (Some null) a l r = absurd a
  set_found n v s c (Some (pointer x y)) a l r = absurd a
  set_found n v s c (Some (int z)) a l r = record {
    known = n;
    z = z;
    cell = c;
    ranged = a.0;
    is = record { held = a.1; exact = inl (only n v z s a.1) };
    on_left = λ j h. ap (m.left b) (let e : j ≡ 0 + j = omega arith in e) ∙ l j h;
    on_right = λ j h. ap (m.right b) (let e : j ≡ 0 + j = omega arith in e) ∙ r j h;
  }
    where
      only : (n : N) (v z : ℤ) → IsSingle D n v → HoldsNumber D n z → IsSingle D n z
      only n v z s h =
          let e = law.range_encloses n z h in
          let q : D.range n ≡ (v, v) = s in
          let low : v ≤ℤ z = subst (λ r. r.0 ≤ℤ z) q e.low in
          let high : z ≤ℤ v = subst (λ r. z ≤ℤ r.1) q e.high in
          let same : v ≡ z = omega (arith, ints, low, high) in
          subst (λ u. D.range n ≡ (u, u)) same s

module _ {N : Type 0} (D : Ops N) (law : Lawful D) (meets : MeetsKeepSingles D) (p : Program)
    (formed : is_well_formed p ≡ true) (ord : Side → Order) (main : Main p) (other : AreOther ord) where
  abbrev first_known : Known N
  first_known = record {
    orders =
        (ord left, ord right);
    model = p.types.model;
    cells = first_of_blocks D p 0 p.blocks;
  }

  abbrev begun : Known N
  begun = entry_known D p ord

  begun_is : begun ≡ killed_blocks D p Shared main.f.locals first_known
  begun_is = ap (λ g. killed_blocks D p Shared (locals_in D p g) first_known) main.here

  abbrev begins : Memories
  begins = memories (initial (ord left) p) (initial (ord right) p)

  stands : StandsFor D p ord begun (initial (ord left) p) (initial (ord right) p)
  stands = (cells_lawful D law p ord formed other).entry_in

  first_set : (b : ℕ) (t : IntType) → IsInteger p b t → ((x : Block) → slice_get p.blocks b ≡ Some x
      → (x.global || is_result (main_result D p) b) ≡ true) → contains b main.f.locals ≡ false
      → IsSet D ord begun (initial (ord left) p) (initial (ord right) p) b t
  first_set b t i shown off =
      let v = unwrap_or (value_in D p p.init b 0) (pos 0) in
      let shows = shown i.object i.here in
      let ranged : InRange t v = leaf_range p D (ord left) (sizes p formed) ord
      (first_values_fit p formed) b i.object i.here
      shows 0 t (ap (λ (l : List Leaf). leaf_at l 0) i.leaf) in
      let there : IsCellOf first_known b t (Some (Num (D.single v))) false
      = record {
        cell = first_cell D p b 0 (Int t);
        is_in = first_there D p b t i shows;
        placed = record { side = refl; block = refl; offset = refl; what = refl };
        value = refl;
        sure = refl;
      } in
      let c : IsCellOf begun b t (Some (Num (D.single v))) false
      = subst (λ z. IsCellOf z b t (Some (Num (D.single v))) false) (sym begun_is)
      (outside_stays D p main.f.locals first_known b t (Some (Num (D.single v))) false off tt there) in
      let f = found D law ord begun begins stands.state.orders stands.holds b t (Some (Num (D.single v))) false c in
      set_found D law ord begun begins stands.state.orders stands.holds b t (D.single v) v
      (law.single_range v (in_range_some_type t v ranged)) c f.datum f.allowed f.on_left f.on_right

  local_unset : (b : ℕ) (t : IntType) → IsInteger p b t → contains b main.f.locals ≡ true
      → IsVariable D ord begun (initial (ord left) p) (initial (ord right) p) b t
  local_unset b t i on =
      let c : IsCellOf begun b t None true
      = subst (λ z. IsCellOf z b t None true) (sym begun_is) (entered_cell D p main.f.locals first_known b t i on) in
      none_found D law ord begun begins stands.state.orders stands.holds b t
      (found D law ord begun begins stands.state.orders stands.holds b t None true c) c

  variable : (b : ℕ) (t : IntType) → IsInteger p b t → is_named p.types p.blocks
      (seen D law meets p formed ord main) b ≡ true
      → IsVariable D ord begun (initial (ord left) p) (initial (ord right) p) b t
  variable b t i named = by (contains b main.f.locals) refl
      (subst (λ ps. (is_global (slice_get p.blocks b) || contains b (first_of ps ++ main.f.locals))
      ≡ true) main.no_params named)
    where
      global : (x : Bool) → (is_global (slice_get p.blocks b) || x) ≡ true → x ≡ false
          → (x : Block) → slice_get p.blocks b ≡ Some x → (x.global || is_result (main_result D p) b) ≡ true
      global x h e y at =
          let g : is_global (slice_get p.blocks b) ≡ true = or_first _ x h e in
          let z : y.global ≡ true = sym (ap is_global at) ∙ g in ap (λ u. u || is_result (main_result D p) b) z

      by : (x : Bool) → contains b main.f.locals ≡ x
          → (is_global (slice_get p.blocks b) || contains b main.f.locals) ≡ true
          → IsVariable D ord begun (initial (ord left) p) (initial (ord right) p) b t
      by true e h = local_unset b t i e
      by false e h = set (first_set b t i (global (contains b main.f.locals) h e) e)

  pub starts : (inputs : List ℕ) → AreOnes inputs
      → Holds D law meets p formed ord main (cell_ops D p ord).entry (start (ord left) p inputs) (start
      (ord right) p inputs)
  starts inputs ones = record {
    kept = start_in p formed ord (cell_ops D p ord) (StandsFor D p ord)
        (cells_lawful D law p ord formed other) inputs;
    ones = ones;
    vars = λ b t h named. variable b t (integer_is p formed b t h) named;
    result = first_set main.r I32 (integer_is p formed main.r I32 main.holds)
        (λ x at. right_true x.global (is_result (main_result D p) main.r) result_shown) result_off;
  }
    where
      right_true : (x y : Bool) → y ≡ true → (x || y) ≡ true
      right_true true y e = refl
      right_true false y e = e

      result_shown : is_result (main_result D p) main.r ≡ true
      result_shown =
          ap (λ g. is_result (result_in g) main.r) main.here ∙ ap (λ o. is_result o main.r) main.result
          ∙ eq-eqb main.r main.r refl

      result_off : contains main.r main.f.locals ≡ false
      result_off = by (contains main.r main.f.locals) refl
        where
          by : (x : Bool) → contains main.r main.f.locals ≡ x → contains main.r main.f.locals ≡ false
          by true e =
              absurd (let a : is_result main.f.result main.r
              ≡ false = not_result p formed p.main main.f main.here main.r e in
              let z : true ≡ false
              = sym (ap (λ o. is_result o main.r) main.result ∙ eq-eqb main.r main.r refl) ∙ a in cc)
          by false e = e
