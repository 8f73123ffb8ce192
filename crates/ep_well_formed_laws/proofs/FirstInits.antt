-- The first values of globals: each of a leaf of its block, behind one another.
use Rattle.std.proofs.Common.{◌≡◌, ℕ, zero, suc, ◌+◌, ◌<◌, ◌≤◌, nat_eq, Bool, true, false, true≢false, not, ◌&&◌}
use Rattle.ep_typing.specs.SameTypes.{int_itself}
use Rattle.ep_typing.specs.SameTypes.{same_types}
use Rattle.ep_layout.proofs.Basics.{grows-trans}
use Rattle.ep_int.proofs.Basics.{slice_get-append}
use Rattle.ep_well_formed_laws.proofs.Leaves.{some_object}
use Rattle.std.proofs.lemmas.Bool.{not-false}
use Rattle.std.proofs.lemmas.Bool.{and_from, or_left}
use Rattle.std.proofs.Common.{◌||◌, if◌then◌else◌, List, [], ◌∷◌, ◌++◌, slice_get, Option, Some, None, option_map}
use Rattle.std.proofs.Common.{unwrap_or, Result, Ok, refl, sym, ap, ◌∙◌, subst, inl, inr, arith, ℤ}
use Rattle.std.specs.List.{list_all, list_any}
use Rattle.std.proofs.lemmas.Bool.Decides.{nat_tests}
use Rattle.std.proofs.lemmas.Bool.{and_parts}
use Rattle.ep_int.specs.declared.types.Scalar.{Scalar}
use Rattle.ep_int.specs.declared.types.Scalar.TheVariants as scalars
use Rattle.ep_int.specs.Types.{wrapped}
use Rattle.ep_int.specs.Arith.{is_in_range}
use Rattle.ep_ast.specs.Expression as source
use Rattle.ep_ast.specs.Mark as mark
use Rattle.ep_ast.specs.Declaration as tree
use Rattle.ep_ast.specs.Declaration.{Values, single, listed}
use Rattle.ep_layout.specs.declared.types.Leaf.{Leaf}
use Rattle.ep_layout.specs.Layout.{Layout, scalar_layout}
use Rattle.ep_layout.specs.Table.{Grows, Table, layout_of, leaves, size}
use Rattle.ep_layout.proofs.Options.{map_some}
use Rattle.ep_layout.proofs.Rows.{leaves_of}
use Rattle.ep_layout.proofs.Sizes.{layout_grows}
use Rattle.ep_layout.proofs.Recursion.{kept_by_itself}
use Rattle.ep_core.specs.Program as core
use Rattle.ep_core.specs.Program.{Block, Init}
use Rattle.ep_core.specs.WellFormed.{are_different_leaves, init_fits, is_leaf_at, is_length, is_same_leaf}
use Rattle.ep_core.proofs.Sorts.{never}
use Rattle.ep_typing.specs.declared.types.CType.{CType}
use Rattle.ep_typing.specs.Types.{int_of, is_aggregate, is_array, is_integer, is_pointer, is_scalar, is_same, is_void}
use Rattle.ep_typing.specs.Constant.{constant_of, has_only_numbers, number_of}
use Rattle.ep_typing.specs.Env.{Env}
use Rattle.ep_typing.specs.Names.{mentioned}
use Rattle.ep_typing.specs.Operand.{Operand, Value, are_scalars, fitted, function, loaded, place, value, value_of}
use Rattle.ep_typing.specs.Typing.{Right, a_result, an_object, assignable, assigned, assigned_from, moves_aggregate}
use Rattle.ep_typing.specs.Typing.{put, stored}
use Rattle.ep_elaboration.specs.Declarators.{Object}
use Rattle.ep_elaboration.specs.Given.{Given, cleared, constant_given, constant_value, first_values, line_of_value}
use Rattle.ep_elaboration.specs.Given.{object_operand, part_at}
use Rattle.ep_elaboration.specs.GivenRules.{MeansAllGiven, MeansFirstValue, MeansGiven, MeansGivenExpression}
use Rattle.ep_elaboration.specs.GivenRules.{is_first_bit_field, is_first_value, is_given_expression, is_listed, is_single}
use Rattle.ep_elaboration.specs.GivenRules.{more_values_given, no_first_value, no_values_given}
use Rattle.ep_well_formed_laws.specs.Numbers.{IsTable}
use Rattle.ep_well_formed_laws.specs.Environments.{IsDeclared}
use Rattle.ep_well_formed_laws.proofs.Extents.{layout_at, size_is_length}
use Rattle.ep_well_formed_laws.proofs.FieldAccesses.{given_is_read}
use Rattle.ep_well_formed_laws.proofs.FirstValues.{all_given_mentions, given_mentions, parts_are}
use Rattle.ep_well_formed_laws.proofs.Mentions.{expression_mentioned}
use Rattle.ep_well_formed_laws.proofs.Operators.{wrapped_fits}
use Rattle.ep_well_formed_laws.proofs.Parts.{integer_row}
use Rattle.ep_well_formed_laws.proofs.Steps.{nothing_more}
use Rattle.ep_well_formed_laws.proofs.Tests.{after, either_way, given, needed_is}
use Rattle.ep_well_formed_laws.proofs.Tests.{unless}
use Rattle.ep_well_formed_laws.proofs.Values.{scalar_is}
use Rattle.ep_well_formed_laws.proofs.Leaves.{InBlock, Spread, has_leaf, in_block_later, spread}

-- ---- first values stay

-- a leaf is one of a type with a layout
leaf_laid : (t u : Table) → Grows t u → (n o : ℕ) (w : Scalar) → list_any (is_leaf_at o w) (leaves t n) ≡ true
    → list_any (is_leaf_at o w) (leaves u n) ≡ true
leaf_laid t u g n o w h = by (layout_of t n) refl h
  where
    by : (q : Option Layout) → layout_of t n ≡ q
        → list_any (is_leaf_at o w) (unwrap_or (option_map (λ (l : Layout). l.leaves) q) []) ≡ true
        → list_any (is_leaf_at o w) (leaves u n) ≡ true
    by None q e = never e
    by (Some l) q e = subst (λ (ls : List Leaf). list_any (is_leaf_at o w) ls ≡ true)
        (sym (leaves_of u n l (layout_grows t u g n l q))) e

pub init_stays : (t u : Table) → Grows t u → (bs more : List Block) (i : Init) → init_fits t bs i ≡ true
    → init_fits u (bs ++ more) i ≡ true
init_stays t u g bs more i h = by (slice_get bs i.block) refl h
  where
    by : (o : Option Block) → slice_get bs i.block ≡ o → init_fits t bs i ≡ true → init_fits u (bs ++ more) i ≡ true
    by None q e = never (rw q at e)
    by (Some b) q e =
        let f : ((b.global && list_any (is_leaf_at i.offset (scalars.Int i.t)) (leaves t b.ty)) && is_in_range i.t
        i.value) ≡ true = (rw q at e) in
        let p = and_parts (b.global && list_any (is_leaf_at i.offset (scalars.Int i.t)) (leaves t b.ty))
        (is_in_range i.t i.value) f in
        let r = and_parts b.global (list_any (is_leaf_at i.offset (scalars.Int i.t)) (leaves t b.ty)) p.0 in
        rw (slice_get-append bs more i.block b q)
        (and_from (b.global && list_any (is_leaf_at i.offset (scalars.Int i.t)) (leaves u b.ty)) (is_in_range i.t i.value)
        (and_from b.global (list_any (is_leaf_at i.offset (scalars.Int i.t)) (leaves u b.ty)) r.0
        (leaf_laid t u g b.ty i.offset (scalars.Int i.t) r.1)) p.1)

-- ---- values behind one another

-- values of a block, each behind the one before
abbrev pub Ascends : Table → List Block → (block lo hi : ℕ) → List Init → Type 0
Ascends t bs b lo hi [] = lo ≤ hi
Ascends t bs b lo hi (i ∷ is) = (i.block ≡ b) × (lo ≤ i.offset) × (init_fits t bs i ≡ true)
    × Ascends t bs b (suc i.offset) hi is

ascends_later : (t u : Table) → Grows t u → (bs : List Block) (b lo hi : ℕ) (is : List Init)
    → Ascends t bs b lo hi is → Ascends u bs b lo hi is
ascends_later t u g bs b lo hi [] h = h
ascends_later t u g bs b lo hi (i ∷ is) h = (
  h.0,
  h.1,
  subst (λ (cs : List Block). init_fits u cs i ≡ true) (sym (nothing_more bs)) (init_stays t u g bs [] i h.2),
  ascends_later t u g bs b (suc i.offset) hi is h.3,
)

ascends_lower : (t : Table) (bs : List Block) (b lo low hi : ℕ) (is : List Init) → low ≤ lo
    → Ascends t bs b lo hi is → Ascends t bs b low hi is
ascends_lower t bs b lo low hi [] l h = omega (arith, l, h)
ascends_lower t bs b lo low hi (i ∷ is) l h = (h.0, (let k = h.1 in omega (arith, l, k)), h.2, h.3)

ascends_upper : (t : Table) (bs : List Block) (b lo hi high : ℕ) (is : List Init) → hi ≤ high
    → Ascends t bs b lo hi is → Ascends t bs b lo high is
ascends_upper t bs b lo hi high [] l h = omega (arith, l, h)
ascends_upper t bs b lo hi high (i ∷ is) l h = (h.0, h.1, h.2, ascends_upper t bs b (suc i.offset) hi high is l h.3)

ascends_on : (t : Table) (bs : List Block) (b lo mid hi : ℕ) (is js : List Init) → Ascends t bs b lo mid is
    → Ascends t bs b mid hi js
    → Ascends t bs b lo hi (is ++ js)
ascends_on t bs b lo mid hi [] js h k = ascends_lower t bs b mid lo hi js h k
ascends_on t bs b lo mid hi (i ∷ is) js h k = (h.0, h.1, h.2, ascends_on t bs b (suc i.offset) mid hi is js h.3 k)

pub ascending_fit : (t : Table) (bs : List Block) (b lo hi : ℕ) (is : List Init) → Ascends t bs b lo hi is
    → list_all (init_fits t bs) is ≡ true
ascending_fit t bs b lo hi [] h = refl
ascending_fit t bs b lo hi (i ∷ is) h = and_from _ _ h.2 (ascending_fit t bs b (suc i.offset) hi is h.3)

behind : (t : Table) (bs : List Block) (b lo hi : ℕ) (i : Init) (is : List Init) → i.offset < lo
    → Ascends t bs b lo hi is
    → list_any (is_same_leaf i) is ≡ false
behind t bs b lo hi i [] l h = refl
behind t bs b lo hi i (j ∷ is) l h =
    let k = h.1 in
    let e : nat_eq i.offset j.offset ≡ false = grind (arith, nat_tests) in
    neither (is_same_leaf i j) (list_any (is_same_leaf i) is)
    (other (nat_eq i.block j.block) (nat_eq i.offset j.offset) e)
    (behind t bs b (suc j.offset) hi i is (omega (arith, l, k)) h.3)
  where
    neither : (a b : Bool) → a ≡ false → b ≡ false → (a || b) ≡ false
    neither a b p q = rw (p, q) refl

    other : (a b : Bool) → b ≡ false → (a && b) ≡ false
    other true b p = p
    other false b p = refl

pub ascending_different : (t : Table) (bs : List Block) (b lo hi : ℕ) (is : List Init) → Ascends t bs b lo hi is
    → are_different_leaves is ≡ true
ascending_different t bs b lo hi [] h = refl
ascending_different t bs b lo hi (i ∷ is) h =
    and_from (not (list_any (is_same_leaf i) is)) (are_different_leaves is)
    (ap not (behind t bs b (suc i.offset) hi i is (omega arith) h.3))
    (ascending_different t bs b (suc i.offset) hi is h.3)

-- ---- one value

-- a constant is no address
no_address : (v : Value) (n : ℤ) (p : core.Place) → v.expr ≡ core.addr_of p → constant_of v ≡ Some n → ⊥
no_address v n p e c = by (is_integer v.ty) (has_only_numbers v.expr) (ap has_only_numbers e) c
  where
    by : (a b : Bool) → b ≡ false → (if a && b then number_of v.expr else None) ≡ Some n → ⊥
    by true true q f = absurd (true≢false q)
    by true false q f = absurd cc
    by false b q f = absurd cc

stored_scalar : (p : core.Place) (c : CType) (v : Value) (w : core.Simple) → stored (place p c) v ≡ Ok w
    → is_scalar c ≡ true
unfolding stored fitted
stored_scalar p c v w e =
    let f = after (fitted c v) _ w e in
    let a = unless (not (are_scalars c v.ty)) 32 _ f.0 f.1 in
    (and_parts (is_scalar c) (is_scalar v.ty) (not-false (are_scalars c v.ty) a.0)).0

put_scalar : (t : Table) (p : core.Place) (c : CType) (y : Operand) (v : Value) (w : core.Simple) (n : ℤ)
    → value_of t y ≡ Ok v
    → put t (place p c) y v ≡ Ok w → constant_of v ≡ Some n → is_scalar c ≡ true
unfolding put value_of
put_scalar t p c (place q d) v w n u e k = elim (either_way (moves_aggregate c d) _ _ (Ok w) e) [
  | inl m ↦
      let s = and_parts (is_aggregate c) (is_same c d) m.0 in
      let same : c ≡ d = same_types c d s.1 in
      let g : is_aggregate d ≡ true = subst (λ (z : CType). is_aggregate z ≡ true) same s.0 in
      let r = unless (is_void d) 33 (Ok (loaded t q d)) v u in
      let is : loaded t q d ≡ v = (let z = r.1 in cc) in
      absurd (no_address v n q (ap (λ (z : Value). z.expr) (sym is) ∙ address t q d g) k)
  | inr m ↦ stored_scalar p c v w m.1
]
  where
    address : (t : Table) (q : core.Place) (d : CType) → is_aggregate d ≡ true → (loaded t q d).expr ≡ core.addr_of q
    address t q d g = by (is_array d) refl
      where
        by : (b : Bool) → is_array d ≡ b → (loaded t q d).expr ≡ core.addr_of q
        by true a = rw a refl
        by false a = rw (a, g) refl
put_scalar t p c (value z) v w n u e k = stored_scalar p c v w e
put_scalar t p c (function f) v w n u e k = stored_scalar p c v w e

assigned_scalar : (t : Table) (p : core.Place) (c : CType) (old y : Operand) (v : Value) (w : core.What) (n : ℤ)
    → value_of t y ≡ Ok v
    → assigned_from t mark.equal (place p c) old (an_object y) ≡ Ok w → constant_of v ≡ Some n → is_scalar c ≡ true
unfolding assigned assignable
assigned_scalar t p c old y v w n u e k =
    let d = after (assigned t (place p c) y) (λ (z : core.Simple). Ok (core.simple z)) w e in
    let a = after (assignable (place p c)) _ d.0 d.1 in
    let b = after (value_of t y) _ d.0 a.2 in
    let q = unless (is_void c || is_array c) 32 (Ok (place p c)) a.0 a.1 in
    let same : place p c ≡ a.0 = (let z = q.1 in cc) in
    let is : b.0 ≡ v = same_ok b.0 v (value_of t y) b.1 u in
    put_scalar t p c y v d.0 n u
    (subst (λ (z : Value). put t (place p c) y z ≡ Ok d.0) is
    (subst (λ (x : Operand). put t x y b.0 ≡ Ok d.0) (sym same) b.2)) k
  where
    same_ok : (a b : Value) (r : Result Value ℕ) → r ≡ Ok a → r ≡ Ok b → a ≡ b
    same_ok a b r p q = let z : Ok a ≡ Ok b = sym p ∙ q in cc

-- an integer that begins a leaf
int_init : (t : Table) (bs : List Block) (x : Object) (l : Layout) (n : ℤ) → IsTable t → InBlock t bs x l
    → is_integer x.ty ≡ true
    → init_fits t bs (record {
      block = x.block;
      offset = x.offset;
      t = int_of x.ty;
      value = wrapped (int_of x.ty) n;
    }) ≡ true
int_init t bs x l n h q i =
    let row = integer_row t x.ty q.number i q.has in
    let laid : Some (scalar_layout t.model (scalars.Int (int_of x.ty)))
    ≡ Some l = sym (layout_at t h.built q.number _ row) ∙ q.laid in
    let same : scalar_layout t.model (scalars.Int (int_of x.ty)) ≡ l = cc in
    let own : has_leaf l.leaves 0 (scalars.Int (int_of x.ty)) ≡ true =
    subst (λ (z : Layout). has_leaf z.leaves 0 (scalars.Int (int_of x.ty)) ≡ true) same
    (or_left (is_leaf_at 0 (scalars.Int (int_of x.ty)) (record { offset = 0; what = scalars.Int (int_of x.ty) }))
    false (int_itself (int_of x.ty))) in
    let e : x.offset + 0 ≡ x.offset = omega arith in
    let there : has_leaf q.whole.leaves x.offset (scalars.Int (int_of x.ty)) ≡ true =
    subst (λ (j : ℕ). has_leaf q.whole.leaves j (scalars.Int (int_of x.ty)) ≡ true) e
    (q.leaves 0 (scalars.Int (int_of x.ty)) own) in
    let in_type : list_any (is_leaf_at x.offset (scalars.Int (int_of x.ty))) (leaves t q.block.ty) ≡ true =
    subst (λ (ls : List Leaf). list_any (is_leaf_at x.offset (scalars.Int (int_of x.ty))) ls ≡ true)
    (sym (leaves_of t q.block.ty q.whole q.whole_laid)) there in
    rw q.here (and_from (q.block.global && list_any (is_leaf_at x.offset (scalars.Int (int_of x.ty)))
    (leaves t q.block.ty)) _
    (and_from q.block.global _ q.is_global in_type) (wrapped_fits (int_of x.ty) n))

some_bytes : (t : Table) (bs : List Block) (x : Object) (l : Layout) → IsTable t → InBlock t bs x l → 1 ≤ l.size
some_bytes t bs x l h q =
    let z : size t q.number ≡ Some l.size = ap (option_map (λ (m : Layout). m.size)) q.laid in
    let k = size_is_length t h q.number l.size z in
    low l.size k
  where
    low : (n : ℕ) → is_length n ≡ true → 1 ≤ n
    low zero k = never k
    low (suc n) k = omega arith

no_value : (t : Table) (bs : List Block) (x : Object) (l : Layout) → IsTable t → InBlock t bs x l
    → Ascends t bs x.block x.offset (x.offset + l.size) []
no_value t bs x l h q = omega arith

constant_inits : (t : Table) (bs : List Block) (x : Object) (l : Layout) (y : Operand) (w : core.What)
    (vs : List Init) → IsTable t → InBlock t bs x l
    → assigned_from t mark.equal (object_operand x) (object_operand x) (an_object y) ≡ Ok w
    → constant_given t x (an_object y) ≡ Ok vs
    → Ascends t bs x.block x.offset (x.offset + l.size) vs
constant_inits t bs x l y w vs h q a e =
    let v = after (value_of t y) (constant_value x) vs e in
    elim (either_way (is_pointer x.ty) _ _ (Ok vs) v.2) [
      | inl p ↦
          let g = given v.0.is_null [] vs 45 p.1 in
          subst (Ascends t bs x.block x.offset (x.offset + l.size)) g.1 (no_value t bs x l h q)
      | inr p ↦
          let o = needed_is 45 _ vs p.1 in
          let m = map_some _ (constant_of v.0) vs o in
          let scalar = assigned_scalar t x.place x.ty (object_operand x) y v.0 w m.0 v.1 a m.1 in
          let some = some_bytes t bs x l h q in
          subst (Ascends t bs x.block x.offset (x.offset + l.size)) m.2
          (refl, omega arith, int_init t bs x l m.0 h q (integer scalar p.0), omega (arith, some))
    ]
  where
    integer : is_scalar x.ty ≡ true → is_pointer x.ty ≡ false → is_integer x.ty ≡ true
    integer s p = elim (scalar_is x.ty s) [ inl k ↦ absurd (true≢false (sym k ∙ p)) | inr k ↦ k.1 ]

first_inits : (t : Table) (bs : List Block) (x : Object) (l : Layout) (y : Right) (w : core.What) (vs : List Init)
    → IsTable t → InBlock t bs x l
    → assigned_from t mark.equal (object_operand x) (object_operand x) y ≡ Ok w → first_values true t x y ≡ Ok vs
    → Ascends t bs x.block x.offset (x.offset + l.size) vs
unfolding first_values
first_inits t bs x l (a_result f) w vs h q a e = absurd cc
first_inits t bs x l (an_object y) w vs h q a e = constant_inits t bs x l y w vs h q a e

-- ---- values of lists

expression_object : (G : Env) (c : Bool) (l : ℕ) (o : Option Object) (e : source.Expr) (g : Given)
    → MeansGivenExpression G true c l o e g
    → (x : Object) × (o ≡ Some x)
expression_object G c l o e g (is_given_expression {x = x} y w vs r a f) = (x, refl)

-- a value is for an object
given_object : (G : Env) (c : Bool) (l : ℕ) (o : Option Object) (v : tree.Value) (g : Given × Env)
    → MeansGiven G true c l o v g
    → (x : Object) × (o ≡ Some x)
given_object G c l o v g (is_single {e = e} d m) = expression_object (mentioned G e) c l o e d m
given_object G c l o v g (is_listed {vs = vs} x d p m) = (x, (parts_are G o vs x p).0)

mutual
  pub given_inits : (G : Env) (bs : List Block) (c : Bool) (l : ℕ) (o : Option Object) (v : tree.Value)
      (g : Given × Env) (x : Object) (k : Layout)
      → IsDeclared G → o ≡ Some x → InBlock G.types bs x k → MeansGiven G true c l o v g
      → Ascends g.1.types bs x.block x.offset (x.offset + k.size) g.0.values
  given_inits G bs c l o v g x k h s q (is_single {e = e} d (is_given_expression {x = z} y w vs r a f)) =
      let p = expression_mentioned G e h in
      let H = mentioned G e in
      let same : z ≡ x = some_object z x s in
      let inside = in_block_later G.types H.types bs x k p.mentions.grows p.mentions.declared.table.built q in
      first_inits H.types bs x k y w vs p.mentions.declared.table inside
      (subst (λ (b : Object). assigned_from H.types mark.equal (object_operand b) (object_operand b) y ≡ Ok w) same a)
      (subst (λ (b : Object). first_values true H.types b y ≡ Ok vs) same f)
  given_inits G bs c l o v g x k h s q (is_listed {vs = vs} z d p m) =
      let r = parts_are G o vs z p in
      let same : z ≡ x = some_object z x (sym r.0 ∙ s) in
      let inside = subst (λ (b : Object). InBlock G.types bs b k) (sym same) q in
      let sp = spread G.types bs z k h.table inside r.1 in
      let begin : z.offset ≤ z.offset + sp.from 0 = omega arith in
      subst (λ (b : Object). Ascends g.1.types bs b.block b.offset (b.offset + k.size) g.0.values) same
      (ascends_lower g.1.types bs z.block (z.offset + sp.from 0) z.offset (z.offset + k.size) g.0.values begin
      (all_inits G.types G bs z k sp 0 vs g h (kept_by_itself G.types) m))

  all_inits : (t : Table) (G : Env) (bs : List Block) (x : Object) (k : Layout) (sp : Spread t bs x k) (i : ℕ)
      (vs : Values) (g : Given × Env)
      → IsDeclared G → Grows t G.types → MeansAllGiven G true x i vs g
      → Ascends g.1.types bs x.block (x.offset + sp.from i) (x.offset + k.size) g.0.values
  all_inits t G bs x k sp i vs g h grows no_values_given = (let f = sp.size i in omega (arith, f))
  all_inits t G bs x k sp i vs g h grows (more_values_given {v = v} {vs = us} a b m n) =
      let y = given_object G false (line_of_value v) (part_at G.types x i) v a m in
      let part = sp.part G.types grows h.table i y.0 y.1 in
      let mention = given_mentions G true false (line_of_value v) (part_at G.types x i) v a h m in
      let late = all_given_mentions a.1 true x (suc i) us b mention.declared n in
      let here = given_inits G bs false (line_of_value v) (part_at G.types x i) v a y.0 part.layout h y.1
      part.inside m in
      let rest = all_inits t a.1 bs x k sp (suc i) us b mention.declared
      (grows-trans t G.types a.1.types grows mention.grows) n in
      let first = ascends_later a.1.types b.1.types late.grows bs y.0.block y.0.offset
      (y.0.offset + part.layout.size) a.0.values here in
      let placed = subst (λ (j : ℕ). Ascends b.1.types bs j y.0.offset (y.0.offset + part.layout.size) a.0.values)
      part.block first in
      ascends_on b.1.types bs x.block (x.offset + sp.from i) (x.offset + sp.from (suc i)) (x.offset + k.size)
      a.0.values b.0.values
      (ascends_upper b.1.types bs x.block (x.offset + sp.from i) (y.0.offset + part.layout.size)
      (x.offset + sp.from (suc i)) a.0.values
      part.ends
      (ascends_lower b.1.types bs x.block y.0.offset (x.offset + sp.from i) (y.0.offset + part.layout.size)
      a.0.values part.begins placed)) rest

-- the first value of a global
pub global_inits : (G : Env) (bs : List Block) (c : Bool) (l : ℕ) (x : Object) (v : Option tree.Value)
    (g : Given × Env) (k : Layout)
    → IsDeclared G → InBlock G.types bs x k → MeansFirstValue G true c l x v g
    → Ascends g.1.types bs x.block x.offset (x.offset + k.size) g.0.values
global_inits G bs c l x v g k h q no_first_value = no_value G.types bs x k h.table q
global_inits G bs c l x v g k h q (is_first_bit_field z w m r) =
    absurd (true≢false (given_is_read true l z (object_operand x) w r).0)
global_inits G bs c l x v g k h q (is_first_value {v = w} d m) =
    subst (Ascends d.1.types bs x.block x.offset (x.offset + k.size)) (sym (same_values d.1.types w d.0))
    (given_inits G bs c l (Some x) w d x k h refl q m)
  where
    same_values : (t : Table) (w : tree.Value) (d : Given) → (cleared t x w d).values ≡ d.values
    same_values t (single e) d = refl
    same_values t (listed j vs) d = refl
