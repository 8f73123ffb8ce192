-- First values of objects, and declarations of variables, come to statements that fit.
use Rattle.std.proofs.Common.{◌≡◌, ℕ, zero, suc, ◌+◌, ◌*◌, ◌<◌, ◌≤◌, nat_lt, nat_le, Bool, true, false, true≢false}
use Rattle.ep_core.proofs.Tables.{more_types}
use Rattle.std.proofs.lemmas.Bool.{or_cases}
use Rattle.std.proofs.lemmas.Bool.{and_from}
use Rattle.std.proofs.Common.{◌&&◌, ◌||◌, not, if◌then◌else◌, List, [], ◌∷◌, ◌++◌, length, map, slice_get, Option, Some, None}
use Rattle.std.proofs.Common.{option_map, unwrap_or, is_some, int_le, Ok, refl, sym, ap, ◌∙◌, subst, inl, inr, arith}
use Rattle.std.proofs.Common.{pos, negsuc}
use Rattle.std.proofs.lemmas.Bool.Decides.{nat_tests}
use Rattle.std.proofs.lemmas.Bool.{and_parts}
use Rattle.std.proofs.lemmas.Int.{ints}
use Rattle.ep_int.specs.declared.types.IntType.TheVariants.{I32}
use Rattle.ep_int.specs.Arith.{is_in_range}
use Rattle.ep_ast.specs.Mark as mark
use Rattle.ep_ast.specs.Expression as source
use Rattle.ep_ast.specs.Declaration as tree
use Rattle.ep_ast.specs.Declaration.{Declaration, Init, Values, listed, single, to_specs}
use Rattle.ep_layout.specs.Layout.{Layout}
use Rattle.ep_layout.specs.Table.{MemberRow, Table, is_union, members_of, size}
use Rattle.ep_layout.proofs.Sizes.{element_laid}
use Rattle.ep_core.specs.Program as core
use Rattle.ep_core.specs.WellFormed.{is_length, place_has}
use Rattle.ep_typing.specs.declared.types.CType.{CType}
use Rattle.ep_typing.specs.Types.{bound_of, element_of, is_aggregate, is_array, number_in, size_of_type, type_of}
use Rattle.ep_typing.specs.Env.{Env}
use Rattle.ep_typing.specs.Names.{mentioned}
use Rattle.ep_elaboration.specs.Declarators.{Object}
use Rattle.ep_elaboration.specs.Declarations.{Line, Made}
use Rattle.ep_elaboration.specs.Given.{Given, cleared, count_listed, element_at, first_member, given_members}
use Rattle.ep_elaboration.specs.Given.{has_fields, is_zero_alone, line_of_value, member_object, object_operand}
use Rattle.ep_elaboration.specs.Given.{part_at, with_list, with_parts}
use Rattle.ep_elaboration.specs.Statements.{to_core}
use Rattle.ep_elaboration.specs.GivenRules.{MeansAllGiven, MeansDeclaration, MeansFirstValue, MeansGiven}
use Rattle.ep_elaboration.specs.GivenRules.{MeansGivenExpression, MeansVariable, MeansVariables, is_declaration}
use Rattle.ep_elaboration.specs.GivenRules.{is_first_bit_field, is_first_value, is_given_expression, is_listed, is_single}
use Rattle.ep_elaboration.specs.GivenRules.{is_variable, more_values_given, more_variables, no_first_value}
use Rattle.ep_elaboration.specs.GivenRules.{no_values_given, no_variables}
use Rattle.ep_well_formed_laws.specs.Numbers.{HasNumber, may_be, type_number}
use Rattle.ep_well_formed_laws.specs.Environments.{Covers, HasScope, IsDeclared, IsEnv}
use Rattle.ep_well_formed_laws.specs.Operands.{PlaceFits}
use Rattle.ep_well_formed_laws.specs.Statements.{StmtsFit, WhatFits}
use Rattle.ep_well_formed_laws.proofs.Extents.{same_size}
use Rattle.ep_well_formed_laws.proofs.Additions.{c_number_is, has_number_stays, type_number_stays}
use Rattle.ep_well_formed_laws.proofs.FieldUses.{field_given_fits}
use Rattle.ep_well_formed_laws.proofs.Mentions.{AreThere, Mentions, covers_mentioned, expression_mentioned}
use Rattle.ep_well_formed_laws.proofs.Mentions.{mentions_none, mentions_on}
use Rattle.ep_well_formed_laws.proofs.Objects.{object_declared_is, scope_stays}
use Rattle.ep_well_formed_laws.proofs.Parts.{IsAmong, array_is_of, element_fits, got_among, member_fits}
use Rattle.ep_well_formed_laws.proofs.Parts.{place_of_number, member_number}
use Rattle.ep_well_formed_laws.proofs.Scopes.{same_names}
use Rattle.ep_well_formed_laws.proofs.Specs.{specified}
use Rattle.ep_well_formed_laws.proofs.StatementGrowth.{place_stays, sized_stays}
use Rattle.ep_well_formed_laws.proofs.Steps.{Follows, NamesGrow, covers_before, follows_declares, follows_itself}
use Rattle.ep_well_formed_laws.proofs.Steps.{follows_mentions, follows_on, names_grow_on, names_stay, stmts_later}
use Rattle.ep_well_formed_laws.proofs.Steps.{what_later}
use Rattle.ep_well_formed_laws.proofs.Tests.{after, either_way, given, unless}
use Rattle.ep_well_formed_laws.proofs.Values.{self_may_be}
use Rattle.ep_well_formed_laws.proofs.WholeStatements.{from_fits, right_fits}

-- ---- objects

-- an object is of its type, which is in the table
abbrev pub ObjectFits : Env → (seen : List ℕ) → Object → Type 0
ObjectFits G seen x = (n : ℕ) × (type_number G.types x.ty ≡ Some n) × (place_has G.types G.blocks seen x.place n ≡ true)

object_later : (G H : Env) (seen : List ℕ) (x : Object) → Follows G H → ObjectFits G seen x → ObjectFits H seen x
object_later G H seen x f h = (
  h.0,
  type_number_stays G.types H.types f.grows f.env.declared.table.built x.ty h.0 h.1,
  subst (λ (bs : List core.Block). place_has H.types bs seen x.place h.0 ≡ true) (sym f.blocks)
      (place_stays G.types H.types f.grows f.env.declared.table.built G.blocks f.more seen x.place h.0 h.2),
)

object_place : (G : Env) (seen : List ℕ) (h : IsEnv G) (some : 0 < length G.types.types) (x : Object) → ObjectFits G seen x
    → PlaceFits G.types G.blocks seen x.place x.ty
object_place G seen h some x o =
    place_of_number G.types G.blocks G.functions seen h.declared.table some x.place x.ty o.0 o.1 o.2

small_index : (i : ℕ) → i ≤ 65536 → is_in_range I32 (pos i) ≡ true
small_index i l = and_from (int_le (negsuc 2147483647) (pos i)) (int_le (pos i) (pos 2147483647)) (grind (arith, ints)) (grind (arith, ints))

-- ---- parts

module _ (G : Env) (seen : List ℕ) (h : IsEnv G) (some : 0 < length G.types.types) where
  abbrev t : Table
  t = G.types

  element_part : (x y : Object) (i : ℕ) → ObjectFits G seen x → is_array x.ty ≡ true → element_at t x i ≡ Some y
      → ObjectFits G seen y
  element_part x y i o a e =
      let r = array_is_of t h.declared.table x.ty o.0 a o.1 in
      let l = element_laid t h.declared.table.built o.0 r.0 r.1 r.2.row in
      let z : size t r.0 ≡ Some l.0.size = ap (option_map (λ (l : Layout). l.size)) l.1 in
      let unit : size_of_type t (element_of t x.ty) ≡ Some l.0.size =
      subst (λ (d : CType). size_of_type t d ≡ Some l.0.size) (sym r.2.element)
      (same_size t h.declared.table.built (type_of t r.0) r.0 r.2.has ∙ z) in
      by l.0.size r.0 r.1 unit (subst (λ (d : CType). type_number t d ≡ Some r.0) (sym r.2.element) r.2.has)
      (ap is_length r.2.bound ∙ h.declared.table.arrays o.0 r.0 r.1 r.2.row)
      (nat_lt i (bound_of t x.ty)) refl e
    where
      within : (i k : ℕ) → nat_lt i k ≡ true → is_length k ≡ true → i ≤ 65536
      within i k p q = let s = (and_parts (nat_le 1 k) (nat_le k 65536) q).1 in grind (arith, nat_tests)

      part_of : ℕ → Object
      part_of unit = record {
        place = core.element x.place (bound_of t x.ty) unit (core.const I32 (pos i));
        block = x.block;
        offset = x.offset + i * unit;
        ty = element_of t x.ty;
      }

      some_part : ℕ → Bool → Option Object
      some_part unit b = if b then Some (part_of unit) else None

      fits : (unit n : ℕ) → size_of_type t (element_of t x.ty) ≡ Some unit → type_number t (element_of t x.ty) ≡ Some n
          → i ≤ 65536 → ObjectFits G seen (part_of unit)
      fits unit n u k w =
          let p = element_fits t G.blocks G.functions seen h.declared.table some x.place x.ty unit (core.const I32 (pos i)) I32
          (object_place G seen h some x o) a u (small_index i w) in
          (n, k, p.has n (subst (λ (q : Option ℕ). may_be q n ≡ true) (sym k) (self_may_be n)))

      by : (unit n k : ℕ) → size_of_type t (element_of t x.ty) ≡ Some unit → type_number t (element_of t x.ty) ≡ Some n
          → is_length (bound_of t x.ty) ≡ true → (b : Bool) → nat_lt i (bound_of t x.ty) ≡ b
          → element_at t x i ≡ Some y → ObjectFits G seen y
      by unit n k u m q b p e =
          let same : element_at t x i ≡ some_part unit b =
          ap (λ (c : Bool). some_part (unwrap_or (size_of_type t (element_of t x.ty)) 0) c) p
          ∙ ap (λ (o : Option ℕ). some_part (unwrap_or o 0) b) u in
          by_test b p (sym same ∙ e)
        where
          by_test : (b : Bool) → nat_lt i (bound_of t x.ty) ≡ b → some_part unit b ≡ Some y → ObjectFits G seen y
          by_test true p f =
              let is : part_of unit ≡ y = cc in
              subst (ObjectFits G seen) is (fits unit n u m (within i (bound_of t x.ty) p q))
          by_test false p f = absurd cc

  first_among : (ms : List MemberRow) (i : ℕ) (m : MemberRow) → slice_get (first_member ms) i ≡ Some m → IsAmong m ms
  first_among [] i m e = absurd cc
  first_among (x ∷ ms) zero m e = inl cc
  first_among (x ∷ ms) (suc i) m e = absurd cc

  given_among : (a i : ℕ) (m : MemberRow) → slice_get (given_members t a) i ≡ Some m → IsAmong m (members_of t a)
  given_among a i m e = by (is_union t a) e
    where
      by : (b : Bool) → slice_get (if b then first_member (members_of t a) else members_of t a) i ≡ Some m
          → IsAmong m (members_of t a)
      by true q = first_among (members_of t a) i m q
      by false q = got_among (members_of t a) i m q

  member_part : (x y : Object) (i : ℕ) → ObjectFits G seen x → is_aggregate x.ty ≡ true
      → option_map (member_object t x) (slice_get (given_members t (number_in x.ty.base)) i) ≡ Some y → ObjectFits G seen y
  member_part x y i o a e = by (slice_get (given_members t (number_in x.ty.base)) i) refl e
    where
      by : (q : Option MemberRow) → slice_get (given_members t (number_in x.ty.base)) i ≡ q
          → option_map (member_object t x) q ≡ Some y → ObjectFits G seen y
      by None q f = absurd cc
      by (Some m) q f =
          let among = given_among (number_in x.ty.base) i m q in
          let n = member_number t h.declared.table (number_in x.ty.base) m among in
          let p = member_fits t G.blocks G.functions seen h.declared.table some x.place x.ty m (object_place G seen h some x o) a among in
          let is : member_object t x m ≡ y = cc in
          subst (ObjectFits G seen) is
          (m.ty, n, p.has m.ty (subst (λ (r : Option ℕ). may_be r m.ty ≡ true) (sym n) (self_may_be m.ty)))

  pub part_fits : (x y : Object) (i : ℕ) → ObjectFits G seen x → (is_array x.ty || is_aggregate x.ty) ≡ true
      → part_at t x i ≡ Some y → ObjectFits G seen y
  part_fits x y i o p e = elim (either_way (is_array x.ty) (element_at t x i) _ (Some y) e) [
    | inl q ↦ element_part x y i o q.0 q.1
    | inr q ↦ elim (or_cases (is_array x.ty) (is_aggregate x.ty) p) [
      | inl r ↦ absurd (true≢false (sym r ∙ q.0))
      | inr r ↦ member_part x y i o r q.1
    ]
  ]

-- ---- values

-- what a list is for has parts
abbrev pub HasParts : Option Object → Object → Type 0
HasParts o x = (o ≡ Some x) × ((is_array x.ty || is_aggregate x.ty) ≡ true)

with_parts_is : (o : Option Object) (x : Object) → with_parts o ≡ Ok x → HasParts o x
with_parts_is None x e = absurd cc
with_parts_is (Some y) x e =
    let g = given (is_array y.ty || is_aggregate y.ty) y x 32 e in
    (ap (λ (z : Object). Some z) g.1, subst (λ (z : Object). (is_array z.ty || is_aggregate z.ty) ≡ true) g.1 g.0)

pub parts_are : (G : Env) (o : Option Object) (vs : Values) (x : Object) → with_list G o vs ≡ Ok x → HasParts o x
unfolding with_list
parts_are G o vs x e =
    let y = after (with_parts o) _ x e in
    let g = unless (has_fields G y.0.ty && not (is_zero_alone vs)) 51 (Ok y.0) x y.2 in
    let same : y.0 ≡ x = (let q = g.1 in cc) in
    subst (HasParts o) same (with_parts_is o y.0 y.1)

module _ (seen : List ℕ) (result : Option ℕ) where
  -- statements that fit, inside of a loop or not
  abbrev pub EachFits : Env → List core.What → Type 0
  EachFits H [] = Unit {0}
  EachFits H (w ∷ ws) = ((i : Bool) → WhatFits H.types H.blocks H.functions result w seen i) × EachFits H ws

  each_later : (G H : Env) → Follows G H → (ws : List core.What) → EachFits G ws → EachFits H ws
  each_later G H f [] h = tt
  each_later G H f (w ∷ ws) h = (λ i. what_later G H f result w seen i (h.0 i), each_later G H f ws h.1)

  each_both : (H : Env) (ws us : List core.What) → EachFits H ws → EachFits H us → EachFits H (ws ++ us)
  each_both H [] us h k = k
  each_both H (w ∷ ws) us h k = (h.0, each_both H ws us h.1 k)

  pub record GivenFits (G H : Env) (g : Given) : Type 0 where
    pub mentions : Mentions G H
    pub fits : EachFits H g.statements

  -- where there is an object, it fits
  abbrev IfObject : Env → Option Object → Type 0
  IfObject G o = (x : Object) → o ≡ Some x → ObjectFits G seen x

  expression_fits : (G : Env) (global c : Bool) (l : ℕ) (o : Option Object) (e : source.Expr) (g : Given)
      → (h : IsEnv G) → Covers seen G → (some : 0 < length G.types.types) → AreThere G e → IfObject G o
      → MeansGivenExpression G global c l o e g → EachFits G g.statements
  expression_fits G global c l o e g h covers some t k (is_given_expression {x = x} y w vs r a f) =
      let p = object_place G seen h some x (k x refl) in (
        (from_fits G seen h covers some result mark.equal (object_operand x) (object_operand x) y w p p
            (right_fits G seen h covers some result c e y t r) a).fits,
        tt,
      )

  mutual
    pub given_fits : (G : Env) (global c : Bool) (l : ℕ) (o : Option Object) (v : tree.Value) (g : Given × Env)
        → (h : IsEnv G) → Covers seen G → (some : 0 < length G.types.types) → IfObject G o
        → MeansGiven G global c l o v g → GivenFits G g.1 g.0
    given_fits G global c l o v g h covers some k (is_single {e = e} d m) =
        let H = mentioned G e in
        let p = expression_mentioned G e h.declared in
        let f = follows_mentions G H h p.mentions in
        record {
          mentions = p.mentions;
          fits = expression_fits H global c l o e d f.env (covers_mentioned seen G H p.mentions covers)
              (omega (arith, some, more_types G.types H.types p.mentions.grows)) p.there
              (λ x q. object_later G H seen x f (k x q)) m;
        }
    given_fits G global c l o v g h covers some k (is_listed {vs = vs} x d p m) =
        let q = parts_are G o vs x p in all_given_fit G global x 0 vs g h covers some (k x q.0) q.1 m

    pub all_given_fit : (G : Env) (global : Bool) (x : Object) (i : ℕ) (vs : Values) (g : Given × Env)
        → (h : IsEnv G) → Covers seen G → (some : 0 < length G.types.types) → ObjectFits G seen x
        → (is_array x.ty || is_aggregate x.ty) ≡ true → MeansAllGiven G global x i vs g → GivenFits G g.1 g.0
    all_given_fit G global x i vs g h covers some k p no_values_given = record { mentions = mentions_none G h.declared; fits = tt }
    all_given_fit G global x i vs g h covers some k p (more_values_given {v = v} {vs = us} a b m n) =
        let c = given_fits G global false (line_of_value v) (part_at G.types x i) v a h covers some
        (λ y q. part_fits G seen h some x y i k p q) m in
        let H = a.1 in
        let f = follows_mentions G H h c.mentions in
        let d = all_given_fit H global x (suc i) us b f.env (covers_mentioned seen G H c.mentions covers)
        (omega (arith, some, more_types G.types H.types c.mentions.grows)) (object_later G H seen x f k) p n in
        record {
          mentions = mentions_on G H b.1 c.mentions d.mentions;
          fits = each_both b.1 a.0.statements b.0.statements
              (each_later H b.1 (follows_mentions H b.1 f.env d.mentions) a.0.statements c.fits) d.fits;
        }

  lines_fit : (H : Env) (l : ℕ) (ws : List core.What) → EachFits H ws → (i : Bool)
      → StmtsFit H.types H.blocks H.functions result (to_core (map (λ w. (l, w)) ws)) seen i
  lines_fit H l [] h i = tt
  lines_fit H l (w ∷ ws) h i = (h.0 i, lines_fit H l ws h.1 i)

  first_value_fits : (G : Env) (global c : Bool) (l : ℕ) (x : Object) (z : ℕ) (v : Option tree.Value) (g : Given × Env)
      → (h : IsEnv G) → Covers seen G → (some : 0 < length G.types.types) → ObjectFits G seen x
      → size_of_type G.types x.ty ≡ Some z → MeansFirstValue G global c l x v g → GivenFits G g.1 g.0
  unfolding object_later
  first_value_fits G global c l x z v g h covers some k e no_first_value = record { mentions = mentions_none G h.declared; fits = tt }
  first_value_fits G global c l x z v g h covers some k e (is_first_bit_field {e = d} u w m q) =
      let H = mentioned G d in
      let p = expression_mentioned G d h.declared in
      let f = follows_mentions G H h p.mentions in
      let more : 0 < length H.types.types = omega (arith, some, more_types G.types H.types p.mentions.grows) in
      let o = object_place H seen f.env more x (object_later G H seen x f k) in
      record {
        mentions = p.mentions;
        fits = (
          field_given_fits H seen f.env (covers_mentioned seen G H p.mentions covers) more result global l d u
              (object_operand x) w p.there m o q,
          tt,
        );
      }
  first_value_fits G global c l x z v g h covers some k e (is_first_value {v = w} d m) =
      let p = given_fits G global c l (Some x) w d h covers some
      (λ y q. (let same : x ≡ y = cc in subst (ObjectFits G seen) same k)) m in
      record { mentions = p.mentions; fits = cleared_fits w d p }
    where
      cleared_fits : (w : tree.Value) (d : Given × Env) → GivenFits G d.1 d.0 → EachFits d.1 (cleared d.1.types x w d.0).statements
      cleared_fits (single a) d p = p.fits
      cleared_fits (listed j vs) d p =
          let f = follows_mentions G d.1 h p.mentions in
          let o = object_later G d.1 seen x f k in
          let sized : size G.types k.0 ≡ Some z = sym (same_size G.types h.declared.table.built x.ty k.0 k.1) ∙ e in
          let there = sized_stays G.types d.1.types f.grows f.env.declared.table.built G.blocks f.more k.0 (rw sized refl) in
          let i = c_number_is d.1.types x.ty k.0 o.1 in (
            (λ j. and_from _ _ (subst (λ (n : ℕ). place_has d.1.types d.1.blocks seen x.place n ≡ true) (sym i) o.2)
                (subst (λ (n : ℕ). is_some (size d.1.types n) ≡ true) (sym i) there)),
            p.fits,
          )

-- what first values mention, whatever can be named
mutual
  pub given_mentions : (G : Env) (global c : Bool) (l : ℕ) (o : Option Object) (v : tree.Value) (g : Given × Env) → IsDeclared G
      → MeansGiven G global c l o v g → Mentions G g.1
  given_mentions G global c l o v g h (is_single {e = e} d m) = (expression_mentioned G e h).mentions
  given_mentions G global c l o v g h (is_listed {vs = vs} x d p m) = all_given_mentions G global x 0 vs g h m

  pub all_given_mentions : (G : Env) (global : Bool) (x : Object) (i : ℕ) (vs : Values) (g : Given × Env) → IsDeclared G
      → MeansAllGiven G global x i vs g → Mentions G g.1
  all_given_mentions G global x i vs g h no_values_given = mentions_none G h
  all_given_mentions G global x i vs g h (more_values_given {v = v} {vs = us} a b m n) =
      let p = given_mentions G global false (line_of_value v) (part_at G.types x i) v a h m in
      mentions_on G a.1 b.1 p (all_given_mentions a.1 global x (suc i) us b p.declared n)

pub first_mentions : (G : Env) (global c : Bool) (l : ℕ) (x : Object) (v : Option tree.Value) (g : Given × Env) → IsDeclared G
    → MeansFirstValue G global c l x v g → Mentions G g.1
first_mentions G global c l x v g h no_first_value = mentions_none G h
first_mentions G global c l x v g h (is_first_bit_field {e = e} z w m q) = (expression_mentioned G e h).mentions
first_mentions G global c l x v g h (is_first_value {v = w} d m) = given_mentions G global c l (Some x) w d h m

-- ---- declarations

-- declarations in a function come to lines that fit
pub record LinesFit (G H : Env) (result : Option ℕ) (ls : List Line) : Type 0 where
  pub follows : Follows G H
  pub names : NamesGrow G.scopes H.scopes
  pub fits : (seen : List ℕ) → Covers seen H → (i : Bool) → StmtsFit H.types H.blocks H.functions result (to_core ls) seen i

pub stmts_both : (H : Env) (result : Option ℕ) (ls ms : List Line) (seen : List ℕ) (i : Bool)
    → StmtsFit H.types H.blocks H.functions result (to_core ls) seen i
    → StmtsFit H.types H.blocks H.functions result (to_core ms) seen i
    → StmtsFit H.types H.blocks H.functions result (to_core (ls ++ ms)) seen i
stmts_both H result [] ms seen i h k = k
stmts_both H result (l ∷ ls) ms seen i h k = (h.0, stmts_both H result ls ms seen i h.1 k)

pub lines_on : (G H I : Env) (result : Option ℕ) (ls ms : List Line) → IsEnv G → LinesFit G H result ls → LinesFit H I result ms
    → LinesFit G I result (ls ++ ms)
lines_on G H I result ls ms h a b = record {
  follows = follows_on G H I a.follows b.follows;
  names = names_grow_on G.scopes H.scopes I.scopes a.names b.names;
  fits = λ seen covers i. stmts_both I result ls ms seen i
      (stmts_later H I b.follows result (to_core ls) seen i
      (a.fits seen (covers_before seen H I a.follows.env b.follows b.names covers) i)) (b.fits seen covers i);
}

pub no_lines : (G : Env) (result : Option ℕ) → IsEnv G → LinesFit G G result []
no_lines G result h = record {
  follows = follows_itself G h;
  names = names_stay G.scopes G.scopes (same_names G.scopes);
  fits = λ seen covers i. tt;
}

variable_fits : (G : Env) (result : Option ℕ) (c : Bool) (t : CType) (i : Init) (m : Made × Env) → IsEnv G → HasScope G
    → 0 < length G.types.types → HasNumber G.types t → MeansVariable G false c t i m → LinesFit G m.1 result m.0.lines
variable_fits G result c t i m h s l k (is_variable o g p q) =
    let d = object_declared_is G false (count_listed i.value) t i.declarator o h k p in
    let H = o.1 in
    let some : 0 < length H.types.types = omega (arith, l, more_types G.types H.types d.follows.grows) in
    let object : (seen : List ℕ) → Covers seen H → ObjectFits H seen o.0 =
    λ seen covers. (
      d.number.0,
      d.number.1,
      (d.fits seen covers (inl s)).has d.number.0
          (subst (λ (x : Option ℕ). may_be x d.number.0 ≡ true) (sym d.number.1) (self_may_be d.number.0)),
    ) in
    let mentions = first_mentions H false c i.declarator.line o.0 i.value g d.follows.env.declared q in
    let f = follows_mentions H g.1 d.follows.env mentions in
    record {
      follows = follows_on G H g.1 d.follows f;
      names = names_grow_on G.scopes H.scopes g.1.scopes d.names (names_stay H.scopes g.1.scopes mentions.names);
      fits = λ seen covers j.
          let before = covers_before seen H g.1 d.follows.env f (names_stay H.scopes g.1.scopes mentions.names) covers in
          lines_fit seen result g.1 i.declarator.line g.0.statements
          (first_value_fits seen result H false c i.declarator.line o.0 d.size i.value g d.follows.env before some
          (object seen before) d.sized q).fits j;
    }

variables_fit : (G : Env) (result : Option ℕ) (c : Bool) (t : CType) (is : List Init) (m : Made × Env) → IsEnv G → HasScope G
    → 0 < length G.types.types → HasNumber G.types t → MeansVariables G false c t is m → LinesFit G m.1 result m.0.lines
variables_fit G result c t is m h s l k no_variables = no_lines G result h
variables_fit G result c t is m h s l k (more_variables {i = i} {vs = vs} a b p q) =
    let x = variable_fits G result c t i a h s l k p in
    let H = a.1 in
    let y = variables_fit H result c t vs b x.follows.env (scope_stays G H x.names s)
    (omega (arith, l, more_types G.types H.types x.follows.grows))
    (has_number_stays G.types H.types x.follows.grows x.follows.env.declared.table.built t k) q in
    lines_on G H b.1 result a.0.lines b.0.lines h x y

pub declaration_fits : (G : Env) (result : Option ℕ) (c : Bool) (d : Declaration) (m : Made × Env) → IsEnv G → HasScope G
    → 0 < length G.types.types → MeansDeclaration G false c d m → LinesFit G m.1 result m.0.lines
declaration_fits G result c d m h s l (is_declaration t n p q) =
    let x = specified G [] [] (to_specs d.specs) t h.declared p in
    let H = t.1 in
    let f = follows_declares G H h x.declares in
    let names = names_stay G.scopes H.scopes x.declares.names in
    let y = variables_fit H result c t.0 d.inits m f.env (scope_stays G H names s)
    (omega (arith, l, more_types G.types H.types f.grows)) x.number q in
    record {
      follows = follows_on G H m.1 f y.follows;
      names = names_grow_on G.scopes H.scopes m.1.scopes names y.names;
      fits = y.fits;
    }
