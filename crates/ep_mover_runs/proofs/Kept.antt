-- What statements of movers leave: blocks that they don't name, and what was put out before.
use Rattle.std.proofs.Common.{◌≡◌, ℕ, zero, suc, Bool, true, false, ◌&&◌, not, if◌then◌else◌, List, [], ◌∷◌}
use Rattle.std.proofs.Common.{slice_get, Option, Some, None, Result, Ok, ⊎_elim, refl, ◌∙◌, subst}
use Rattle.std.proofs.lemmas.Bool.{and_parts, or_cases}
use Rattle.ep_int.specs.declared.types.IntType.{IntType}
use Rattle.ep_int.specs.declared.types.Order.{Order}
use Rattle.ep_int.specs.declared.types.Scalar.{Scalar}
use Rattle.ep_int.specs.declared.types.Scalar.TheVariants.{Int as Number, Pointer}
use Rattle.ep_int.specs.Types.{bytes_of}
use Rattle.ep_layout.specs.Table.{size}
use Rattle.ep_core.specs.Program.{Place, block, deref, member, element, Expr, const, null_value, load, addr_of, binary}
use Rattle.ep_core.specs.Program.{convert, compare, ptr_compare, logical_and, logical_or, logical_not, conditional}
use Rattle.ep_core.specs.Program.{ptr_add, cast, Dest, Simple, nothing, eval, assign, clear, copy_aggregate, copy_bytes}
use Rattle.ep_core.specs.Program.{fill, input, output, read_bytes, write_bytes, returns, What, simple, call, if_else}
use Rattle.ep_core.specs.Program.{loop, break_loop, continue_loop, by_order, scope, Stmts, stop, more, Program}
use Rattle.ep_core.specs.Exec.{is_order}
use Rattle.ep_core.specs.Runs.{Begins}
use Rattle.ep_core.specs.WellFormed.{has_scalar, is_length, is_number, is_int, int_type_of, is_array_of, has_bound}
use Rattle.ep_core.specs.WellFormed.{some_type, is_address, takes_input}
use Rattle.ep_core.specs.WellFormed.{block_has, is_named, place_has, has_sort, has_type, simple_fits, what_fits}
use Rattle.ep_core.specs.WellFormed.{stmts_fit}
use Rattle.ep_core.proofs.Prefixes.{begins_refl, begins_trans, begins_more}
use Rattle.ep_core.proofs.Sorts.{never, three, type_where, pointer_where}
use Rattle.ep_movers.specs.declared.Stop.{Stop}
use Rattle.ep_movers.specs.Symbols.{Symbol, input_byte, goes_on, resized}
use Rattle.ep_movers.specs.Movers.{Held, Machine, bytes_in, byte_at, defined, byte_written, bytes_written, remembers}
use Rattle.ep_movers.specs.Movers.{puts_out, taken, input_bytes, offset_of, place_of, block_at, target_of, bytes_taken}
use Rattle.ep_movers.specs.Movers.{bytes_put_out, symbols, writes, does, moves_what, moves}
use Rattle.ep_movers.specs.Forms.{constant, block_of, is_moved_place, is_moving, is_block_of}
use Rattle.ep_movers.specs.Forms.{is_moved_assignment, are_assignments, is_moving_simple, is_moving_what, are_moving}
use Rattle.ep_mover_runs.proofs.Numbers.{ok_parts, same_ok}
use Rattle.ep_mover_runs.proofs.Writes.{bytes_kept}

-- this block, and the outputs so far
pub record Kept (b : ℕ) (m k : Machine) : Type 0 where
  pub block : bytes_in k.memory b ≡ bytes_in m.memory b
  pub outputs : Begins m.outputs k.outputs

kept_so : (b : ℕ) (m k n : Machine) → Kept b m k → ◌≡◌ {A = Result Machine Stop} (Ok k) (Ok n) → Kept b m n
kept_so b m k n h e = subst (Kept b m) (same_ok e) h

kept_itself : (b : ℕ) (m : Machine) → Kept b m m
kept_itself b m = record { block = refl; outputs = begins_refl m.outputs }

pub kept_on : (b : ℕ) (m k n : Machine) → Kept b m k → Kept b k n → Kept b m n
kept_on b m k n h i = record {
  block = i.block ∙ h.block;
  outputs = begins_trans m.outputs k.outputs n.outputs h.outputs i.outputs;
}

another_kept : (b c : ℕ) (m : Machine) (hs : List Held) → (b ≡ c → ⊥) → Kept b m (remembers m c hs)
another_kept b c m hs n = record { block = bytes_kept m.memory c b hs n; outputs = begins_refl m.outputs }

put_kept : (b : ℕ) (m : Machine) (xs : List Symbol) → Kept b m (puts_out m xs)
put_kept b m xs = record { block = refl; outputs = begins_more m.outputs (xs ∷ []) }

took_kept : (b : ℕ) (m k : Machine) → Kept b (taken m 1) k → Kept b m k
took_kept b m k h = record { block = h.block; outputs = h.outputs }

puts_kept : (b : ℕ) (hs : List Held) (n q : ℕ) (m k : Machine) → bytes_put_out hs q n m ≡ Ok k → Kept b m k
puts_kept b hs zero q m k h = kept_so b m m k (kept_itself b m) h
puts_kept b hs (suc n) q m k h =
    let a = ok_parts (byte_at hs q)
    (λ x. goes_on (defined x) (λ x. bytes_put_out hs (suc q) n (puts_out m (x ∷ [])))) k h in
    let c = ok_parts (defined a.0) (λ x. bytes_put_out hs (suc q) n (puts_out m (x ∷ []))) k a.2 in
    kept_on b m (puts_out m (c.0 ∷ [])) k (put_kept b m (c.0 ∷ []))
    (puts_kept b hs n (suc q) (puts_out m (c.0 ∷ [])) k c.2)

reads_kept : (b c : ℕ) → (b ≡ c → ⊥) → (n q : ℕ) (m k : Machine) → bytes_taken c q n m ≡ Ok k → Kept b m k
reads_kept b c i zero q m k h = kept_so b m m k (kept_itself b m) h
reads_kept b c i (suc n) q m k h =
    let a = ok_parts (byte_written (bytes_in m.memory c) q (input_byte m.inputs 0))
    (λ hs. bytes_taken c (suc q) n (taken (remembers m c hs) 1)) k h in
    kept_on b m (remembers m c a.0) k (another_kept b c m a.0 i)
    (took_kept b (remembers m c a.0) k (reads_kept b c i n (suc q) (taken (remembers m c a.0) 1) k a.2))

module _ (p : Program) (seen : List ℕ) where
  abbrev Named : ℕ → Type 0
  Named c = is_named p.types p.blocks seen c ≡ true

  -- ---- what is named

  block_named : (c ty : ℕ) → place_has p.types p.blocks seen (block c) ty ≡ true → Named c
  block_named c ty h =
      (and_parts (is_named p.types p.blocks seen c) (block_has p.types p.blocks seen (slice_get p.blocks c) ty) h).0

  place_named : (a : Place) (ty : ℕ) (w : ℕ × ℕ) → is_moved_place a ≡ true
      → place_has p.types p.blocks seen a ty ≡ true → place_of a ≡ Ok w → Named w.0
  place_named (block c) ty w h i e =
      let same : (c, 0) ≡ w = same_ok e in
      subst (λ (w : ℕ × ℕ). Named w.0) same (block_named c ty i)
  place_named (element (block c) bound unit k) ty w h i e =
      let a = ok_parts (offset_of bound unit (constant k)) (λ q. Ok (c, q)) w e in
      let same : (c, a.0) ≡ w = same_ok a.2 in
      let s = three (is_length bound && is_length unit && is_number (size p.types ty) unit)
      (some_type p.types p.blocks seen (λ u. is_array_of u ty && has_bound u bound)
      (place_has p.types p.blocks seen (block c))) (is_int (int_type_of k) (has_sort p.types p.blocks seen k)) i in
      let of = type_where p.types p.blocks seen (λ u. is_array_of u ty && has_bound u bound)
      (place_has p.types p.blocks seen (block c)) s.1 in
      subst (λ (w : ℕ × ℕ). Named w.0) same (block_named c of.0 of.2)
  place_named (deref e) ty w h i q = never h
  place_named (member a offset) ty w h i q = never h
  place_named (element (deref e) bound unit k) ty w h i q = never h
  place_named (element (member a offset) bound unit k) ty w h i q = never h
  place_named (element (element a n u l) bound unit k) ty w h i q = never h

  moved_block : (t : IntType) (a : Place) → is_block_of p t a ≡ true → is_moved_place a ≡ true
  moved_block t (block c) h = refl
  moved_block t (deref e) h = never h
  moved_block t (member a offset) h = never h
  moved_block t (element a bound unit i) h = never h

  pointed_named : (e : Expr) (c : ℕ) → block_of e ≡ Some c → is_address p.types p.blocks seen e ≡ true → Named c
  pointed_named (addr_of (block d)) c h i =
      let same : d ≡ c = cc in
      let ty = pointer_where p.types p.blocks seen (has_sort p.types p.blocks seen (addr_of (block d))) i in
      subst Named same
      (⊎_elim (λ a. block_named d ty.0 a)
      (λ a. let of = type_where p.types p.blocks seen (λ u. is_array_of u ty.0)
      (place_has p.types p.blocks seen (block d)) a in
      block_named d of.0 of.2)
      (or_cases (place_has p.types p.blocks seen (block d) ty.0)
      (some_type p.types p.blocks seen (λ u. is_array_of u ty.0) (place_has p.types p.blocks seen (block d))) ty.1))
  pointed_named (addr_of (deref e)) c h i = absurd cc
  pointed_named (addr_of (member a offset)) c h i = absurd cc
  pointed_named (addr_of (element a bound unit k)) c h i = absurd cc
  pointed_named (const t v) c h i = absurd cc
  pointed_named null_value c h i = absurd cc
  pointed_named (load what a) c h i = absurd cc
  pointed_named (binary op t x y) c h i = absurd cc
  pointed_named (convert t e) c h i = absurd cc
  pointed_named (compare k t x y) c h i = absurd cc
  pointed_named (ptr_compare k x y) c h i = absurd cc
  pointed_named (logical_and x y) c h i = absurd cc
  pointed_named (logical_or x y) c h i = absurd cc
  pointed_named (logical_not e) c h i = absurd cc
  pointed_named (conditional e x y) c h i = absurd cc
  pointed_named (ptr_add e unit n back) c h i = absurd cc
  pointed_named (cast e) c h i = absurd cc

  module _ (o : Order) (b : ℕ) (outside : (c : ℕ) → Named c → b ≡ c → ⊥) where
    -- ---- simple statements

    written_kept : (t : IntType) (m k : Machine) (w : ℕ × ℕ) (xs : List Symbol) → Named w.0 → writes o t m w xs ≡ Ok k
        → Kept b m k
    written_kept t m k w xs h e =
        let a = ok_parts (bytes_written o w.1 (bytes_of t) 0 xs (bytes_in m.memory w.0))
        (λ hs. Ok (remembers m w.0 hs)) k e in
        kept_so b m (remembers m w.0 a.0) k (another_kept b w.0 m a.0 (outside w.0 h)) a.2

    assigned_kept : (t : IntType) (a : Place) (e : Expr) (here : ℕ) (result : Option ℕ) (m k : Machine)
        → (is_moved_place a && is_moving e) ≡ true → simple_fits p here result (assign (Number t) a e) seen ≡ true
        → does o (assign (Number t) a e) m ≡ Ok k → Kept b m k
    assigned_kept t a e here result m k h i r =
        let q = type_where p.types p.blocks seen (λ u. has_scalar u (Number t))
        (λ ty. place_has p.types p.blocks seen a ty && has_type p.types p.blocks seen e ty) i in
        let both = and_parts (place_has p.types p.blocks seen a q.0) (has_type p.types p.blocks seen e q.0) q.2 in
        let w = ok_parts (place_of a) (λ w. goes_on (symbols o m.memory e) (λ xs. writes o t m w (resized t xs))) k r in
        let xs = ok_parts (symbols o m.memory e) (λ xs. writes o t m w.0 (resized t xs)) k w.2 in
        written_kept t m k w.0 (resized t xs.0)
        (place_named a q.0 w.0 (and_parts (is_moved_place a) (is_moving e) h).0 both.0 w.1) xs.2

    input_kept : (t : IntType) (d : Dest) (m k : Machine) → (not d.cast && is_block_of p t d.place) ≡ true
        → takes_input p.types p.blocks seen (Some d) ≡ true → does o (input t (Some d)) m ≡ Ok k → Kept b m k
    input_kept t d m k h i r =
        let q = type_where p.types p.blocks seen (λ u. has_scalar u d.what && not (has_scalar u Pointer))
        (place_has p.types p.blocks seen d.place) i in
        let w = ok_parts (place_of d.place) (λ w. writes o t (taken m 1) w (input_bytes m.inputs 0 (bytes_of t))) k r in
        took_kept b m k
        (written_kept t (taken m 1) k w.0 (input_bytes m.inputs 0 (bytes_of t))
        (place_named d.place q.0 w.0 (moved_block t d.place
        (and_parts (not d.cast) (is_block_of p t d.place) h).1) q.2 w.1) w.2)

    read_kept : (e : Expr) (n : ℕ) (r : Option ℕ) (m k : Machine) → block_of e ≡ r
        → is_address p.types p.blocks seen e ≡ true → goes_on (block_at r) (λ c. bytes_taken c 0 n m) ≡ Ok k →
        Kept b m k
    read_kept e n None m k q h r = absurd cc
    read_kept e n (Some c) m k q h r = reads_kept b c (outside c (pointed_named e c q h)) n 0 m k r

    simple_kept : (w : Simple) (here : ℕ) (result : Option ℕ) (m k : Machine) → is_moving_simple p w ≡ true
        → simple_fits p here result w seen ≡ true → does o w m ≡ Ok k → Kept b m k
    simple_kept nothing here result m k h i r = kept_so b m m k (kept_itself b m) r
    simple_kept (assign (Number t) a e) here result m k h i r = assigned_kept t a e here result m k h i r
    simple_kept (input t (Some d)) here result m k h i r = input_kept t d m k h i r
    simple_kept (output t e) here result m k h i r =
        let xs = ok_parts (symbols o m.memory e) (λ xs. Ok (puts_out m xs)) k r in
        kept_so b m (puts_out m xs.0) k (put_kept b m xs.0) xs.2
    simple_kept (read_bytes e n) here result m k h i r =
        read_kept e n (block_of e) m k refl (and_parts (is_length n) (is_address p.types p.blocks seen e) i).1 r
    simple_kept (write_bytes e n) here result m k h i r =
        let w = ok_parts (target_of m.memory e) (λ w. bytes_put_out (bytes_in m.memory w.0) w.1 n m) k r in
        puts_kept b (bytes_in m.memory w.0.0) n w.0.1 m k w.2
    simple_kept (assign Pointer a e) here result m k h i r = never h
    simple_kept (input t None) here result m k h i r = never h
    simple_kept (eval e) here result m k h i r = never h
    simple_kept (clear a ty) here result m k h i r = never h
    simple_kept (copy_aggregate a d ty) here result m k h i r = never h
    simple_kept (copy_bytes a d n) here result m k h i r = never h
    simple_kept (fill a e n) here result m k h i r = never h
    simple_kept (returns e) here result m k h i r = never h

    -- ---- one after another

    module _ (here : ℕ) (result : Option ℕ) where
      -- one, and then the rest
      both_kept : (w : What) (rest : Stmts) (m k : Machine) → ((n : Machine) → moves_what o w m ≡ Ok n → Kept b m n)
          → ((n : Machine) → moves o rest n ≡ Ok k → Kept b n k) → goes_on (moves_what o w m) (moves o rest) ≡ Ok k
          → Kept b m k
      both_kept w rest m k first later r =
          let a = ok_parts (moves_what o w m) (moves o rest) k r in
          kept_on b m a.0 k (first a.0 a.1) (later a.0 a.2)

      assignment_kept : (what : Scalar) (a : Place) (e : Expr) (m k : Machine) → is_moved_assignment what a e ≡ true
          → simple_fits p here result (assign what a e) seen ≡ true → does o (assign what a e) m ≡ Ok k → Kept b m k
      assignment_kept (Number t) a e m k h i r = assigned_kept t a e here result m k h i r
      assignment_kept Pointer a e m k h i r = never h

      assignments_kept : (ss : Stmts) (m k : Machine) → are_assignments ss ≡ true
          → stmts_fit p here result ss seen false ≡ true → moves o ss m ≡ Ok k → Kept b m k
      assignments_kept stop m k h i r = kept_so b m m k (kept_itself b m) r
      assignments_kept (more l (simple (assign what a e)) rest) m k h i r =
          let forms = and_parts (is_moved_assignment what a e) (are_assignments rest) h in
          let fits = and_parts (simple_fits p here result (assign what a e) seen)
          (stmts_fit p here result rest seen false) i in
          both_kept (simple (assign what a e)) rest m k
          (λ n q. assignment_kept what a e m n forms.0 fits.0 q)
          (λ n q. assignments_kept rest n k forms.1 fits.1 q) r
      assignments_kept (more l (simple nothing) rest) m k h i r = never h
      assignments_kept (more l (simple (eval e)) rest) m k h i r = never h
      assignments_kept (more l (simple (clear a ty)) rest) m k h i r = never h
      assignments_kept (more l (simple (copy_aggregate a d ty)) rest) m k h i r = never h
      assignments_kept (more l (simple (copy_bytes a d n)) rest) m k h i r = never h
      assignments_kept (more l (simple (fill a e n)) rest) m k h i r = never h
      assignments_kept (more l (simple (input t d)) rest) m k h i r = never h
      assignments_kept (more l (simple (output t e)) rest) m k h i r = never h
      assignments_kept (more l (simple (read_bytes e n)) rest) m k h i r = never h
      assignments_kept (more l (simple (write_bytes e n)) rest) m k h i r = never h
      assignments_kept (more l (simple (returns e)) rest) m k h i r = never h
      assignments_kept (more l (call j es d) rest) m k h i r = never h
      assignments_kept (more l (if_else e x y) rest) m k h i r = never h
      assignments_kept (more l (loop first e x y) rest) m k h i r = never h
      assignments_kept (more l break_loop rest) m k h i r = never h
      assignments_kept (more l continue_loop rest) m k h i r = never h
      assignments_kept (more l (by_order named x y) rest) m k h i r = never h
      assignments_kept (more l (scope bs x) rest) m k h i r = never h

      arm_kept : (t : Bool) (x y : Stmts) (m k : Machine) → (moves o x m ≡ Ok k → Kept b m k)
          → (moves o y m ≡ Ok k → Kept b m k) → (if t then moves o x m else moves o y m) ≡ Ok k → Kept b m k
      arm_kept true x y m k first second r = first r
      arm_kept false x y m k first second r = second r

      pub what_kept : (w : What) (m k : Machine) → is_moving_what p w ≡ true → what_fits p here result w seen false
          ≡ true
          → moves_what o w m ≡ Ok k → Kept b m k
      what_kept (simple w) m k h i r = simple_kept w here result m k h i r
      what_kept (by_order named x y) m k h i r =
          let forms = and_parts (are_assignments x) (are_assignments y) h in
          let fits = and_parts (stmts_fit p here result x seen false) (stmts_fit p here result y seen false) i in
          arm_kept (is_order o named) x y m k (assignments_kept x m k forms.0 fits.0)
          (assignments_kept y m k forms.1 fits.1) r
      what_kept (call j es d) m k h i r = never h
      what_kept (if_else e x y) m k h i r = never h
      what_kept (loop first e x y) m k h i r = never h
      what_kept break_loop m k h i r = never h
      what_kept continue_loop m k h i r = never h
      what_kept (scope bs x) m k h i r = never h

      pub all_kept : (ss : Stmts) (m k : Machine) → are_moving p ss ≡ true → stmts_fit p here result ss seen false
          ≡ true
          → moves o ss m ≡ Ok k → Kept b m k
      all_kept stop m k h i r = kept_so b m m k (kept_itself b m) r
      all_kept (more l w rest) m k h i r =
          let forms = and_parts (is_moving_what p w) (are_moving p rest) h in
          let fits = and_parts (what_fits p here result w seen false) (stmts_fit p here result rest seen false) i in
          both_kept w rest m k (λ n q. what_kept w m n forms.0 fits.0 q) (λ n q. all_kept rest n k forms.1 fits.1 q) r
