-- Functions in their order: each is there, with what its calls ask.
use Rattle.std.proofs.Common.{◌≡◌, ℕ, suc, ◌==◌, nat_eq, Bool, true, false, true≢false, cond, ◌&&◌, List, [], ◌∷◌}
use Rattle.std.proofs.lemmas.Bool.{or_cases}
use Rattle.std.proofs.lemmas.Bool.{and_from, or_left, or_right}
use Rattle.std.proofs.Common.{◌++◌, position, slice_get, Option, Some, None, refl, sym, ap, ◌∙◌, subst, inl, inr}
use Rattle.std.proofs.Common.{arith}
use Rattle.std.proofs.lemmas.Bool.Decides.{nat_tests}
use Rattle.std.proofs.lemmas.Bool.{and_parts, eqb-true}
use Rattle.ep_int.specs.Memory.{contains}
use Rattle.ep_int.specs.declared.types.Scalar.{Scalar}
use Rattle.ep_layout.specs.declared.types.Ty.{Ty}
use Rattle.ep_layout.specs.declared.types.Ty.TheVariants as rows
use Rattle.ep_layout.specs.Table.{Table}
use Rattle.ep_layout.proofs.Options.{same_some}
use Rattle.ep_core.specs.Program as core
use Rattle.ep_core.specs.Program.{Block, Expr}
use Rattle.ep_core.specs.Exec.{callee_of}
use Rattle.ep_core.specs.WellFormed.{are_plain, arguments_fit, block_type, call_fits, can_take, has_scalar, has_type}
use Rattle.ep_core.specs.WellFormed.{is_plain, is_tested, place_has, result_type, scoped, scoped_in, simple_fits}
use Rattle.ep_core.specs.WellFormed.{stmts_fit, takes_result, what_fits}
use Rattle.ep_core.proofs.Sorts.{never}
use Rattle.ep_typing.specs.declared.types.CType.{CType}
use Rattle.ep_typing.specs.Types.{void_type}
use Rattle.ep_typing.specs.Env.{Signature}
use Rattle.ep_elaboration.specs.Functions.{Defined, numbers_of}
use Rattle.ep_elaboration.specs.Programs.{all_in_order, in_order, numbered, place_in, renumbered, renumbered_what}
use Rattle.ep_well_formed_laws.specs.Numbers.{type_number}
use Rattle.ep_well_formed_laws.specs.Statements.{ArgumentsFit, CallFits, StmtsFit, TakesResult, WhatFits, around}
use Rattle.ep_well_formed_laws.proofs.Heads.{void_is}
use Rattle.ep_well_formed_laws.proofs.Tables.{row_at}
use Rattle.ep_well_formed_laws.proofs.Tests.{type_below}
use Rattle.ep_well_formed_laws.proofs.CallNames.{EachCall, EachCallIn}
use Rattle.ep_well_formed_laws.proofs.DefinedFits.{ParamsAre, ResultIs, a_block, no_block}
use Rattle.ep_well_formed_laws.proofs.Places.{place_first, place_later, suc_some}
use Rattle.ep_well_formed_laws.proofs.TextCalls.{EachDefined}

-- ---- functions by their numbers

-- a function with its calls renumbered
abbrev pub placed_as : (to : ℕ → ℕ) → core.Function → core.Function
placed_as to f = record f { body = renumbered to f.body }

-- the function of each number is there
abbrev pub AreThere : List Defined → List ℕ → Type 0
AreThere ds [] = Unit {0}
AreThere ds (n ∷ ns) = ((d : Defined) × (numbered ds n ≡ Some d)) × AreThere ds ns

pub numbered_is : (ds : List Defined) (n : ℕ) (d : Defined) → numbered ds n ≡ Some d → d.number ≡ n
numbered_is [] n d e = absurd cc
numbered_is (x ∷ ds) n d e = by (x.number == n) refl e (numbered_is ds n d)
  where
    by : (b : Bool) → (x.number == n) ≡ b → cond b (Some x) (numbered ds n) ≡ Some d
        → (numbered ds n ≡ Some d → d.number ≡ n) → d.number ≡ n
    by true q r f = let same : x ≡ d = cc in ap (λ (z : Defined). z.number) (sym same) ∙ eqb-true x.number n q
    by false q r f = f r

pub numbered_has : (P : Defined → Type 0) (ds : List Defined) (n : ℕ) (d : Defined) → EachDefined P ds
    → numbered ds n ≡ Some d → P d
numbered_has P [] n d h e = absurd cc
numbered_has P (x ∷ ds) n d h e = by (x.number == n) e (numbered_has P ds n d h.1)
  where
    by : (b : Bool) → cond b (Some x) (numbered ds n) ≡ Some d → (numbered ds n ≡ Some d → P d) → P d
    by true r f = let same : x ≡ d = cc in subst P same h.0
    by false r f = f r

numbered_some : (ds : List Defined) (n : ℕ) → contains n (numbers_of ds) ≡ true
    → (d : Defined) × (numbered ds n ≡ Some d)
numbered_some [] n c = never c
numbered_some (x ∷ ds) n c = by (x.number == n) refl (numbered_some ds n)
  where
    by : (b : Bool) → (x.number == n) ≡ b
        → (contains n (numbers_of ds) ≡ true → (d : Defined) × (numbered ds n ≡ Some d))
        → (d : Defined) × (cond b (Some x) (numbered ds n) ≡ Some d)
    by true q f = (x, refl)
    by false q f = elim (or_cases (nat_eq n x.number) (contains n (numbers_of ds)) c) [
      | inl e ↦ absurd (true≢false (sym (let z : x.number ≡ n = sym (eqb-true n x.number e) in turned z) ∙ q))
      | inr e ↦ f e
    ]
      where
        turned : x.number ≡ n → (x.number == n) ≡ true
        turned z = grind (arith, nat_tests)

pub are_there : (ds : List Defined) (ns : List ℕ)
    → ((g : ℕ) → contains g ns ≡ true → contains g (numbers_of ds) ≡ true) → AreThere ds ns
are_there ds [] f = tt
are_there ds (n ∷ ns) f = (
  numbered_some ds n (f n (or_left (nat_eq n n) (contains n ns) (grind (arith, nat_tests)))),
  are_there ds ns (λ g c. f g (or_right (nat_eq g n) (contains g ns) c)),
)

-- ---- the functions of an order

module _ (order : List ℕ) (ds : List Defined) where
  abbrev to : ℕ → ℕ
  to = place_in order

  pub in_order_cons : (n : ℕ) (ns : List ℕ) (d : Defined) → numbered ds n ≡ Some d
      → all_in_order order ds (n ∷ ns) ≡ placed_as (place_in order) d.function ∷ all_in_order order ds ns
  in_order_cons n ns d e = ap (λ (o : Option Defined). in_order order o ++ all_in_order order ds ns) e

  -- the function at the place of a number
  pub at_place : (ns : List ℕ) (k j : ℕ) → AreThere ds ns → position (λ (g : ℕ). k == g) ns ≡ Some j
      → (d : Defined) × (numbered ds k ≡ Some d)
      × (slice_get (all_in_order order ds ns) j ≡ Some (placed_as (place_in order) d.function))
  at_place [] k j h e = absurd cc
  at_place (n ∷ ns) k j h e = by (k == n) refl (at_place ns k)
    where
      by : (b : Bool) → (k == n) ≡ b
          → ((i : ℕ) → AreThere ds ns → position (λ (g : ℕ). k == g) ns ≡ Some i
          → (d : Defined) × (numbered ds k ≡ Some d)
          × (slice_get (all_in_order order ds ns) i ≡ Some (placed_as (place_in order) d.function)))
          → (d : Defined) × (numbered ds k ≡ Some d)
          × (slice_get (all_in_order order ds (n ∷ ns)) j ≡ Some (placed_as (place_in order) d.function))
      by true q f =
          let z : Some 0 ≡ Some j = sym (place_first (λ (g : ℕ). k == g) n ns q) ∙ e in
          let zero_is : 0 ≡ j = cc in
          let same : n ≡ k = sym (eqb-true k n q) in (
            h.0.0,
            ap (numbered ds) (sym same) ∙ h.0.1,
            subst (λ (i : ℕ). slice_get (all_in_order order ds (n ∷ ns)) i
                ≡ Some (placed_as (place_in order) h.0.0.function)) zero_is
                (ap (λ (fs : List core.Function). slice_get fs 0) (in_order_cons n ns h.0.0 h.0.1)),
          )
      by false q f =
          let s = suc_some (λ (g : ℕ). k == g) (position (λ (g : ℕ). k == g) ns) j
          (sym (place_later (λ (g : ℕ). k == g) n ns q) ∙ e) in
          let r = f s.0 h.1 s.1 in (
            r.0,
            r.1,
            subst (λ (i : ℕ). slice_get (all_in_order order ds (n ∷ ns)) i
                ≡ Some (placed_as (place_in order) r.0.function)) s.2
                (ap (λ (fs : List core.Function). slice_get fs (suc s.0)) (in_order_cons n ns h.0.0 h.0.1) ∙ r.2),
          )

-- ---- statements with other numbers

both : (a b x y : List ℕ) → a ≡ b → x ≡ y → a ++ x ≡ b ++ y
both a b x y p q = ap (λ (xs : List ℕ). xs ++ x) p ∙ ap (λ (xs : List ℕ). b ++ xs) q

mutual
  unfolding renumbered renumbered_what

  pub scoped_in_same : (to : ℕ → ℕ) (w : core.What) → scoped_in (renumbered_what to w) ≡ scoped_in w
  scoped_in_same to (core.simple w) = refl
  scoped_in_same to (core.call k es d) = refl
  scoped_in_same to (core.if_else e a b) = both (scoped (renumbered to a)) (scoped a) (scoped (renumbered to b))
      (scoped b) (scoped_same to a) (scoped_same to b)
  scoped_in_same to (core.loop first e a b) = both (scoped (renumbered to a)) (scoped a) (scoped (renumbered to b))
      (scoped b) (scoped_same to a) (scoped_same to b)
  scoped_in_same to core.break_loop = refl
  scoped_in_same to core.continue_loop = refl
  scoped_in_same to (core.by_order o a b) = both (scoped (renumbered to a)) (scoped a) (scoped (renumbered to b))
      (scoped b) (scoped_same to a) (scoped_same to b)
  scoped_in_same to (core.scope bs a) = ap (λ (xs : List ℕ). bs ++ xs) (scoped_same to a)

  pub scoped_same : (to : ℕ → ℕ) (ss : core.Stmts) → scoped (renumbered to ss) ≡ scoped ss
  scoped_same to core.stop = refl
  scoped_same to (core.more l w rest) =
      both (scoped_in (renumbered_what to w)) (scoped_in w) (scoped (renumbered to rest)) (scoped rest)
      (scoped_in_same to w) (scoped_same to rest)

mutual
  unfolding renumbered renumbered_what

  plain_same_in : (to : ℕ → ℕ) (w : core.What) → is_plain w ≡ true → is_plain (renumbered_what to w) ≡ true
  plain_same_in to (core.simple w) h = h
  plain_same_in to (core.call k es d) h = never h
  plain_same_in to (core.if_else e a b) h =
      let p = and_parts (are_plain a) (are_plain b) h in and_from _ _ (plain_same to a p.0) (plain_same to b p.1)
  plain_same_in to (core.loop first e a b) h = never h
  plain_same_in to core.break_loop h = never h
  plain_same_in to core.continue_loop h = never h
  plain_same_in to (core.by_order o a b) h =
      let p = and_parts (are_plain a) (are_plain b) h in and_from _ _ (plain_same to a p.0) (plain_same to b p.1)
  plain_same_in to (core.scope bs a) h = plain_same to a h

  plain_same : (to : ℕ → ℕ) (ss : core.Stmts) → are_plain ss ≡ true → are_plain (renumbered to ss) ≡ true
  plain_same to core.stop h = refl
  plain_same to (core.more l w rest) h =
      let p = and_parts (is_plain w) (are_plain rest) h in and_from _ _ (plain_same_in to w p.0) (plain_same to rest p.1)

-- ---- calls

module _ (t : Table) (bs : List Block) (fs : List Signature) (result : Option ℕ) where
  pub arguments_are : (ps : List (ℕ × Scalar)) (cs : List CType) (es : List Expr) (seen : List ℕ) → ParamsAre t bs ps cs
      → ArgumentsFit t bs fs result cs es seen → arguments_fit t bs seen ps es ≡ true
  arguments_are [] [] [] seen h k = refl
  arguments_are [] [] (e ∷ es) seen h k = absurd k
  arguments_are [] (c ∷ cs) es seen h k = absurd h
  arguments_are (p ∷ ps) [] es seen h k = absurd h
  arguments_are (p ∷ ps) (c ∷ cs) [] seen h k = absurd k
  arguments_are (p ∷ ps) (c ∷ cs) (e ∷ es) seen h k =
      let n : k.0.0 ≡ h.0.0.ty = same_some k.0.0 h.0.0.ty (type_number t c) k.0.1 h.0.2 in
      let typed : has_type t bs seen e h.0.0.ty ≡ true = subst (λ (j : ℕ). has_type t bs seen e j ≡ true) n k.0.2 in
      let rest = arguments_are ps cs es seen h.1 k.1 in
      rw h.0.1 (and_from (has_type t bs seen e h.0.0.ty) (arguments_fit t bs seen ps es) typed rest)

  -- nothing takes a result of type void
  no_void : (n : ℕ) (d : core.Dest) (seen : List ℕ) → slice_get t.types n ≡ Some rows.Void
      → takes_result t bs seen (Some n) (Some d) ≡ true → ⊥
  no_void n d seen row h =
      let s = type_below t bs seen (λ u. has_scalar u d.what)
      (λ u. can_take t bs seen d.cast (slice_get t.types n) (slice_get t.types u) (nat_eq n u) && place_has t bs
      seen d.place u) h in
      let p = and_parts (can_take t bs seen d.cast (slice_get t.types n) (slice_get t.types s.0) (nat_eq n s.0))
      (place_has t bs seen d.place s.0) s.2 in
      never (subst (λ (o : Option Ty). can_take t bs seen d.cast o (slice_get t.types s.0) (nat_eq n s.0) ≡ true)
      row p.0)

  pub takes_is : (o : Option (ℕ × Scalar)) (c : CType) (d : Option core.Dest) (seen : List ℕ) → ResultIs t bs o c
      → TakesResult t bs fs result c d seen → takes_result t bs seen (result_type bs o) d ≡ true
  takes_is o c None seen r h = refl
  takes_is o c (Some d) seen (no_block v e) h =
      let number : type_number t void_type
      ≡ Some h.0 = subst (λ (x : CType). type_number t x ≡ Some h.0) (void_is c v) h.1 in
      absurd (no_void h.0 d seen (row_at t rows.Void h.0 number) h.2)
  takes_is o c (Some d) seen (a_block b v e k) h =
      let n : h.0 ≡ k.0.ty = same_some h.0 k.0.ty (type_number t c) h.1 k.2 in
      let is : result_type bs o ≡ Some k.0.ty = ap (result_type bs) e ∙ ap block_type k.1 in
      subst (λ (x : Option ℕ). takes_result t bs seen x (Some d) ≡ true) (sym is)
      (subst (λ (j : ℕ). takes_result t bs seen (Some j) (Some d) ≡ true) n h.2)

-- ---- statements

module _ (p : core.Program) (here : ℕ) (result : Option ℕ) (fs : List Signature) (to : ℕ → ℕ) (P : ℕ → Type 0)
    (called : (k : ℕ) (es : List Expr) (d : Option core.Dest) (seen : List ℕ) → P k
    → CallFits p.types p.blocks fs result k es d seen
    → call_fits p here result (callee_of p here (to k)) es d seen ≡ true) where
  simple_is : (w : core.Simple) (seen : List ℕ) → simple_fits (around p.types p.blocks) 0 result w seen ≡ true
      → simple_fits p here result w seen ≡ true
  simple_is core.nothing seen h = h
  simple_is (core.eval e) seen h = h
  simple_is (core.assign what a e) seen h = h
  simple_is (core.clear a ty) seen h = h
  simple_is (core.copy_aggregate a b ty) seen h = h
  simple_is (core.copy_bytes a b n) seen h = h
  simple_is (core.fill a e n) seen h = h
  simple_is (core.input t d) seen h = h
  simple_is (core.output t e) seen h = h
  simple_is (core.read_bytes e n) seen h = h
  simple_is (core.write_bytes e n) seen h = h
  simple_is (core.returns e) seen h = h

  mutual
    unfolding renumbered renumbered_what

    what_is : (w : core.What) (seen : List ℕ) (i : Bool) → WhatFits p.types p.blocks fs result w seen i → EachCallIn P w
        → what_fits p here result (renumbered_what to w) seen i ≡ true
    what_is (core.simple w) seen i h c = simple_is w seen h
    what_is (core.call k es d) seen i h c = called k es d seen c h
    what_is (core.if_else e a b) seen i h c =
        and_from (is_tested p.types p.blocks seen e && stmts_fit p here result (renumbered to a) seen i) _
        (and_from _ _ h.0 (stmts_are a seen i h.1 c.0)) (stmts_are b seen i h.2 c.1)
    what_is (core.loop first e a b) seen i h c =
        and_from (is_tested p.types p.blocks seen e && stmts_fit p here result (renumbered to a) seen true) _
        (and_from _ _ h.0 (stmts_are a seen true h.1 c.0)) (and_from _ _ (plain_same to b h.2) (stmts_are b seen i h.3 c.1))
    what_is core.break_loop seen i h c = h
    what_is core.continue_loop seen i h c = h
    what_is (core.by_order o a b) seen i h c = and_from _ _ (stmts_are a seen i h.0 c.0) (stmts_are b seen i h.1 c.1)
    what_is (core.scope own a) seen i h c = stmts_are a (own ++ seen) i h c

    pub stmts_are : (ss : core.Stmts) (seen : List ℕ) (i : Bool) → StmtsFit p.types p.blocks fs result ss seen i
        → EachCall P ss
        → stmts_fit p here result (renumbered to ss) seen i ≡ true
    stmts_are core.stop seen i h c = refl
    stmts_are (core.more l w rest) seen i h c = and_from _ _ (what_is w seen i h.0 c.0) (stmts_are rest seen i h.1 c.1)
