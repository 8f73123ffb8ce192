-- Statements fit where the table grows, and blocks and functions come.
use Rattle.std.proofs.Common.{◌≡◌, ℕ, ◌<◌, Bool, true, false, ◌&&◌, not, List, [], ◌∷◌, ◌++◌, length, slice_get}
use Rattle.ep_core.proofs.Tables.{more_types}
use Rattle.std.proofs.lemmas.Bool.{or_cases}
use Rattle.std.proofs.lemmas.Bool.{and_from, or_left, or_right}
use Rattle.std.proofs.Common.{Option, Some, None, is_some, nat_eq, refl, sym, ◌∙◌, inl, inr, arith}
use Rattle.std.proofs.lemmas.Bool.{and_parts}
use Rattle.ep_int.specs.declared.types.IntType.{IntType}
use Rattle.ep_int.specs.declared.types.IntType.TheVariants.{U8}
use Rattle.ep_int.specs.declared.types.Scalar.TheVariants.{Pointer}
use Rattle.ep_layout.specs.declared.types.Ty.{Ty}
use Rattle.ep_layout.specs.declared.types.Ty.TheVariants as rows
use Rattle.ep_layout.specs.Table.{Grows, IsBuilt, Table, size}
use Rattle.ep_core.specs.Program as core
use Rattle.ep_core.specs.Program.{Block, Expr, Place}
use Rattle.ep_core.specs.WellFormed as formed
use Rattle.ep_core.specs.WellFormed.{Sort, can_take, has_scalar, has_sort, has_type, int_type_of, integer, is_address}
use Rattle.ep_core.specs.WellFormed.{is_int, is_tested, place_has, pointer_to as pointing}
use Rattle.ep_core.specs.WellFormed.{result_fits, some_type, takes_input, takes_result}
use Rattle.ep_core.proofs.Sorts.{never}
use Rattle.ep_typing.specs.declared.types.CType.{CType}
use Rattle.ep_typing.specs.Env.{Signature}
use Rattle.ep_elaboration.proofs.Growing.{place_on, size_is, sort_on}
use Rattle.ep_well_formed_laws.specs.Statements.{ArgumentsFit, CallFits, SimpleFits, StmtsFit, TakesResult, WhatFits}
use Rattle.ep_well_formed_laws.proofs.Additions.{type_number_stays}
use Rattle.ep_well_formed_laws.proofs.Tests.{pointer_below, pointer_is, some_type_is}
use Rattle.ep_well_formed_laws.proofs.Tests.{type_below}

module _ (t u : Table) (g : Grows t u) (built : IsBuilt u) (bs more : List Block) where
  sort_stays : (seen : List ℕ) (e : Expr) (x : Sort) → has_sort t bs seen e x ≡ true
      → has_sort u (bs ++ more) seen e x ≡ true
  sort_stays seen = sort_on t u g bs more seen seen (λ b k. k)

  pub place_stays : (seen : List ℕ) (p : Place) (ty : ℕ) → place_has t bs seen p ty ≡ true
      → place_has u (bs ++ more) seen p ty ≡ true
  place_stays seen = place_on t u g bs more seen seen (λ b k. k)

  -- a type of the old table that is of a kind
  some_stays : (seen : List ℕ) (kind : Option Ty → Bool) → kind None ≡ false → (test test' : ℕ → Bool)
      → ((n : ℕ) (r : Ty) → slice_get t.types n ≡ Some r → test n ≡ true → test' n ≡ true)
      → some_type t bs seen kind test ≡ true → some_type u (bs ++ more) seen kind test' ≡ true
  some_stays seen kind none test test' f h =
      let s = type_below t bs seen kind test h in by_row s.0 s.3 s.2 (slice_get t.types s.0) refl s.1
    where
      by_row : (n : ℕ) → n < length t.types → test n ≡ true → (o : Option Ty) → slice_get t.types n ≡ o → kind o ≡ true
          → some_type u (bs ++ more) seen kind test' ≡ true
      by_row n l k None q e = never (sym none ∙ e)
      by_row n l k (Some r) q e =
          some_type_is u (bs ++ more) seen kind test' n (omega (arith, l, more_types t u g)) (rw (g.types n r q) e) (f n r q k)

  address_stays : (seen : List ℕ) (e : Expr) → is_address t bs seen e ≡ true → is_address u (bs ++ more) seen e ≡ true
  address_stays seen e h =
      let s = pointer_below t bs seen (has_sort t bs seen e) h in
      pointer_is u (bs ++ more) seen (has_sort u (bs ++ more) seen e) s.0 (omega (arith, s.2, more_types t u g))
      (sort_stays seen e (pointing s.0) s.1)

  int_stays : (seen : List ℕ) (e : Expr) (own : Option IntType) → is_int own (has_sort t bs seen e) ≡ true
      → is_int own (has_sort u (bs ++ more) seen e) ≡ true
  int_stays seen e None h = h
  int_stays seen e (Some i) h = sort_stays seen e (integer i) h

  pub tested_stays : (seen : List ℕ) (e : Expr) → is_tested t bs seen e ≡ true → is_tested u (bs ++ more) seen e ≡ true
  tested_stays seen e h = elim (or_cases (is_int (int_type_of e) (has_sort t bs seen e)) (is_address t bs seen e) h) [
    | inl a ↦ or_left _ _ (int_stays seen e (int_type_of e) a)
    | inr a ↦ or_right _ _ (address_stays seen e a)
  ]

  type_stays : (seen : List ℕ) (e : Expr) (n : ℕ) → has_type t bs seen e n ≡ true → has_type u (bs ++ more) seen e n ≡ true
  type_stays seen e n h = by_row (slice_get t.types n) refl
    where
      by_row : (o : Option Ty) → slice_get t.types n ≡ o → has_type u (bs ++ more) seen e n ≡ true
      by_row None q = never (rw q at h)
      by_row (Some rows.Void) q = never (rw q at h)
      by_row (Some (rows.Int i)) q = rw (g.types n (rows.Int i) q) (sort_stays seen e (integer i) (rw q at h))
      by_row (Some (rows.Ptr m)) q = rw (g.types n (rows.Ptr m) q) (sort_stays seen e (pointing m) (rw q at h))
      by_row (Some (rows.Array m k)) q = never (rw q at h)
      by_row (Some (rows.Aggregate a)) q = never (rw q at h)

  pub sized_stays : (n : ℕ) → is_some (size t n) ≡ true → is_some (size u n) ≡ true
  sized_stays n h = by (size t n) refl h
    where
      by : (o : Option ℕ) → size t n ≡ o → is_some o ≡ true → is_some (size u n) ≡ true
      by None q e = never e
      by (Some m) q e = rw (size_is t u g n m q) refl

  input_stays : (seen : List ℕ) (d : Option core.Dest) → takes_input t bs seen d ≡ true
      → takes_input u (bs ++ more) seen d ≡ true
  input_stays seen None h = h
  input_stays seen (Some d) h =
      some_stays seen (λ r. has_scalar r d.what && not (has_scalar r Pointer)) refl (place_has t bs seen d.place)
      (place_has u (bs ++ more) seen d.place) (λ n r q k. place_stays seen d.place n k) h

  take_stays : (seen : List ℕ) (cast : Bool) (m n : ℕ) (same : Bool) (r : Ty) → slice_get t.types n ≡ Some r
      → can_take t bs seen cast (slice_get t.types m) (slice_get t.types n) same ≡ true
      → can_take u (bs ++ more) seen cast (slice_get u.types m) (slice_get u.types n) same ≡ true
  take_stays seen cast m n same r q h = by_row (slice_get t.types m) refl (rw q at h)
    where
      by_row : (o : Option Ty) → slice_get t.types m ≡ o → can_take t bs seen cast o (Some r) same ≡ true
          → can_take u (bs ++ more) seen cast (slice_get u.types m) (slice_get u.types n) same ≡ true
      by_row None p e = never e
      by_row (Some s) p e = rw (g.types m s p, g.types n r q) e

  pub result_stays : (seen : List ℕ) (m : ℕ) (d : core.Dest) → takes_result t bs seen (Some m) (Some d) ≡ true
      → takes_result u (bs ++ more) seen (Some m) (Some d) ≡ true
  result_stays seen m d h =
      some_stays seen (λ r. has_scalar r d.what) refl
      (λ n. can_take t bs seen d.cast (slice_get t.types m) (slice_get t.types n) (nat_eq m n) && place_has t bs seen d.place n)
      (λ n. can_take u (bs ++ more) seen d.cast (slice_get u.types m) (slice_get u.types n) (nat_eq m n)
      && place_has u (bs ++ more) seen d.place n)
      (λ n r q k. let p = and_parts _ _ k in
      and_from _ _ (take_stays seen d.cast m n (nat_eq m n) r q p.0) (place_stays seen d.place n p.1)) h

  returned_stays : (seen : List ℕ) (result : Option ℕ) (e : Option Expr) → result_fits t bs seen result e ≡ true
      → result_fits u (bs ++ more) seen result e ≡ true
  returned_stays seen None None h = h
  returned_stays seen None (Some e) h = never h
  returned_stays seen (Some ty) None h = never h
  returned_stays seen (Some ty) (Some e) h = type_stays seen e ty h

  module _ (fs gs : List Signature) (kept : (n : ℕ) (s : Signature) → slice_get fs n ≡ Some s → slice_get gs n ≡ Some s)
      (result : Option ℕ) where
    simple_stays : (w : core.Simple) (seen : List ℕ) → SimpleFits t bs fs result w seen
        → SimpleFits u (bs ++ more) gs result w seen
    simple_stays core.nothing seen h = refl
    simple_stays (core.eval e) seen h = tested_stays seen e h
    simple_stays (core.assign what a e) seen h =
        some_stays seen (λ r. has_scalar r what) refl (λ ty. place_has t bs seen a ty && has_type t bs seen e ty)
        (λ ty. place_has u (bs ++ more) seen a ty && has_type u (bs ++ more) seen e ty)
        (λ n r q k. let p = and_parts _ _ k in and_from _ _ (place_stays seen a n p.0) (type_stays seen e n p.1)) h
    simple_stays (core.clear a ty) seen h =
        let p = and_parts _ _ h in and_from _ _ (place_stays seen a ty p.0) (sized_stays ty p.1)
    simple_stays (core.copy_aggregate a b ty) seen h =
        let p = and_parts (place_has t bs seen a ty && place_has t bs seen b ty) (is_some (size t ty)) h in
        let q = and_parts (place_has t bs seen a ty) (place_has t bs seen b ty) p.0 in
        and_from _ _ (and_from _ _ (place_stays seen a ty q.0) (place_stays seen b ty q.1)) (sized_stays ty p.1)
    simple_stays (core.copy_bytes a b n) seen h =
        let p = and_parts (formed.is_length n && is_address t bs seen a) (is_address t bs seen b) h in
        let q = and_parts (formed.is_length n) (is_address t bs seen a) p.0 in
        and_from _ _ (and_from _ _ q.0 (address_stays seen a q.1)) (address_stays seen b p.1)
    simple_stays (core.fill a e n) seen h =
        let p = and_parts (formed.is_length n && is_address t bs seen a) (has_sort t bs seen e (integer U8)) h in
        let q = and_parts (formed.is_length n) (is_address t bs seen a) p.0 in
        and_from _ _ (and_from _ _ q.0 (address_stays seen a q.1)) (sort_stays seen e (integer U8) p.1)
    simple_stays (core.input i d) seen h = input_stays seen d h
    simple_stays (core.output i e) seen h = sort_stays seen e (integer i) h
    simple_stays (core.read_bytes e n) seen h =
        let p = and_parts (formed.is_length n) (is_address t bs seen e) h in and_from _ _ p.0 (address_stays seen e p.1)
    simple_stays (core.write_bytes e n) seen h =
        let p = and_parts (formed.is_length n) (is_address t bs seen e) h in and_from _ _ p.0 (address_stays seen e p.1)
    simple_stays (core.returns e) seen h = returned_stays seen result e h

    arguments_stay : (cs : List CType) (es : List Expr) (seen : List ℕ) → ArgumentsFit t bs fs result cs es seen
        → ArgumentsFit u (bs ++ more) gs result cs es seen
    arguments_stay [] [] seen h = tt
    arguments_stay [] (e ∷ es) seen h = absurd h
    arguments_stay (c ∷ cs) [] seen h = absurd h
    arguments_stay (c ∷ cs) (e ∷ es) seen h =
        ((h.0.0, type_number_stays t u g built c h.0.0 h.0.1, type_stays seen e h.0.0 h.0.2), arguments_stay cs es seen h.1)

    takes_stays : (r : CType) (d : Option core.Dest) (seen : List ℕ) → TakesResult t bs fs result r d seen
        → TakesResult u (bs ++ more) gs result r d seen
    takes_stays r None seen h = tt
    takes_stays r (Some d) seen h = (h.0, type_number_stays t u g built r h.0 h.1, result_stays seen h.0 d h.2)

    call_stays : (k : ℕ) (es : List Expr) (d : Option core.Dest) (seen : List ℕ) → CallFits t bs fs result k es d seen
        → CallFits u (bs ++ more) gs result k es d seen
    call_stays k es d seen h = record {
      callee = h.callee;
      is = kept k h.callee h.is;
      arguments = arguments_stay h.callee.params es seen h.arguments;
      takes = takes_stays h.callee.result d seen h.takes;
    }

    mutual
      pub what_stays : (w : core.What) (seen : List ℕ) (i : Bool) → WhatFits t bs fs result w seen i
          → WhatFits u (bs ++ more) gs result w seen i
      what_stays (core.simple w) seen i h = simple_stays w seen h
      what_stays (core.call k es d) seen i h = call_stays k es d seen h
      what_stays (core.if_else e a b) seen i h =
          (tested_stays seen e h.0, stmts_stay a seen i h.1, stmts_stay b seen i h.2)
      what_stays (core.loop first e a b) seen i h =
          (tested_stays seen e h.0, stmts_stay a seen true h.1, h.2, stmts_stay b seen i h.3)
      what_stays core.break_loop seen i h = h
      what_stays core.continue_loop seen i h = h
      what_stays (core.by_order o a b) seen i h = (stmts_stay a seen i h.0, stmts_stay b seen i h.1)
      what_stays (core.scope own a) seen i h = stmts_stay a (own ++ seen) i h

      pub stmts_stay : (ss : core.Stmts) (seen : List ℕ) (i : Bool) → StmtsFit t bs fs result ss seen i
          → StmtsFit u (bs ++ more) gs result ss seen i
      stmts_stay core.stop seen i h = tt
      stmts_stay (core.more l w rest) seen i h = (what_stays w seen i h.0, stmts_stay rest seen i h.1)
