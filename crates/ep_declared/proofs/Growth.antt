-- Tables grow, and what was known stays known.
use Rattle.std.proofs.Common.{◌≡◌, ℕ, zero, suc, nat_eq, Bool, false, List, [], ◌∷◌, ◌++◌}
use Rattle.ep_core.proofs.Tables.{more_types, more_aggregates}
use Rattle.ep_layout.proofs.Basics.{grows-trans}
use Rattle.std.proofs.Common.{slice_get, is_some, option_and_then, Option, Some, None, Result, Ok, Err, refl}
use Rattle.std.proofs.Common.{ap, subst, arith}
use Rattle.std.specs.Prelude.{OnOk}
use Rattle.ep_ast.specs.declared.refusals.Refusal.{Refusal}
use Rattle.ep_ast.specs.Expression as source
use Rattle.ep_ast.specs.Expression.{TypeWord, TypeName}
use Rattle.ep_ast.specs.Mark.{union_word}
use Rattle.ep_layout.specs.declared.types.Ty.{Ty}
use Rattle.ep_layout.specs.declared.types.Ty.TheVariants as rows
use Rattle.ep_layout.specs.Table.{AggregateRow, Grows, Table, declared, number_of, type_added, with_type}
use Rattle.ep_layout.proofs.Laid.{grows_declared, grows_with_type}
use Rattle.ep_layout.proofs.Recursion.{kept_by_itself}
use Rattle.ep_typing.specs.declared.types.Base.{Base}
use Rattle.ep_typing.specs.declared.types.Base.TheVariants as bases
use Rattle.ep_typing.specs.declared.types.CType.{CType}
use Rattle.ep_typing.specs.Env.{Env, look_up_tag}
use Rattle.ep_typing.specs.Names.{mentioned, mentioned_all, mentioned_name, mentioned_tag, mentioned_word}
use Rattle.ep_typing.specs.Names.{mentioned_words, named_type, with_type_of}
use Rattle.ep_typing.specs.Types.{base_number, known_number, with_base, with_c_type, with_pointers}
use Rattle.ep_scopes.specs.Known.{IsKnown, IsKnownBase, IsKnownEnv}
use Rattle.ep_scopes.proofs.KnownLemmas.{IsGreater, scopes_stay}
use Rattle.ep_declared.specs.Open.{Follows, StaysOpen}

-- ---- growing, one step after another

pub greater : (t u : Table) → Grows t u → IsGreater t u
greater t u g = record { types = more_types t u g; aggregates = more_aggregates t u g }

base_known : (t u : Table) → Grows t u → (b : Base) → IsKnownBase t b → IsKnownBase u b
base_known t u g bases.Void h = tt
base_known t u g (bases.Int i) h = tt
base_known t u g (bases.Array n) h = omega (arith, more_types t u g)
base_known t u g (bases.Aggregate a) h = omega (arith, more_aggregates t u g)

pub type_known : (t u : Table) → Grows t u → (c : CType) → IsKnown t c → IsKnown u c
type_known t u g c h = base_known t u g c.base h

pub table_known : (G : Env) (u : Table) → Grows G.types u → IsKnownEnv G → IsKnownEnv (record G { types = u })
table_known G u g h = scopes_stay G.types u (greater G.types u g) G.scopes h

-- ---- growing where no aggregate is completed

pub record IsMore (t u : Table) : Type 0 where
  pub grows : Grows t u
  pub stay : StaysOpen t u

pub more_itself : (t : Table) → IsMore t t
more_itself t = record { grows = kept_by_itself t; stay = λ a h. h }

pub more_on : (t u v : Table) → IsMore t u → IsMore u v → IsMore t v
more_on t u v g h = record { grows = grows-trans t u v g.grows h.grows; stay = λ a e. h.stay a (g.stay a e) }

added_by : (t u : Table) (ty : Ty) (o : Option ℕ) → number_of t ty ≡ o → type_added t ty ≡ u → IsMore t u
added_by t u ty None e h =
    let same : with_type t ty ≡ u = rw e at h in
    subst (IsMore t) same (record { grows = grows_with_type t ty; stay = λ a k. k })
added_by t u ty (Some n) e h = let same : t ≡ u = rw e at h in subst (IsMore t) same (more_itself t)

pub more_added : (t : Table) (ty : Ty) → IsMore t (type_added t ty)
more_added t ty = added_by t (type_added t ty) ty (number_of t ty) refl refl

base_more : (t : Table) (b : Base) → IsMore t (with_base t b)
base_more t bases.Void = more_added t rows.Void
base_more t (bases.Int i) = more_added t (rows.Int i)
base_more t (bases.Array n) = more_itself t
base_more t (bases.Aggregate a) = more_added t (rows.Aggregate a)

pub pointers_more : (t : Table) (n k : ℕ) → IsMore t (with_pointers t n k)
unfolding with_pointers
pointers_more t n zero = more_itself t
pointers_more t n (suc k) =
    let u : Table = type_added t (rows.Ptr n) in
    more_on t u (with_pointers u (known_number u (rows.Ptr n)) k) (more_added t (rows.Ptr n))
    (pointers_more u (known_number u (rows.Ptr n)) k)

pub type_more : (t : Table) (c : CType) → IsMore t (with_c_type t c)
type_more t c =
    let u : Table = with_base t c.base in
    more_on t u (with_pointers u (base_number u c.base) c.stars) (base_more t c.base) (pointers_more u (base_number u
    c.base) c.stars)

abbrev pub has_members : List AggregateRow → ℕ → Bool
has_members gs a = is_some (option_and_then (λ (g : AggregateRow). g.members) (slice_get gs a))

open_push : (gs : List AggregateRow) (g : AggregateRow) (a : ℕ) → g.members ≡ None → has_members gs a ≡ false
    → has_members (gs ++ g ∷ []) a ≡ false
open_push [] g zero e h = ap is_some e
open_push [] g (suc a) e h = h
open_push (x ∷ gs) g zero e h = h
open_push (x ∷ gs) g (suc a) e h = open_push gs g a e h

pub declared_more : (t : Table) (tag : List ℕ) (u : Bool) → IsMore t (declared t tag u)
declared_more t tag u = record {
  grows = grows_declared t tag u;
  stay = λ a h. open_push t.aggregates (record { tag = tag; is_union = u; members = None }) a refl h;
}

-- ---- what expressions and type names mention

tag_more : (G : Env) (t : List ℕ) (u : Bool) (o : Option ℕ) → IsMore G.types (mentioned_tag G t u o).types
tag_more G t u None = declared_more G.types t u
tag_more G t u (Some a) = more_itself G.types

word_more : (G : Env) (w : TypeWord) → IsMore G.types (mentioned_word G w).types
word_more G (source.word l c) = more_itself G.types
word_more G (source.typedef_name l t) = more_itself G.types
word_more G (source.tagged l c t) = tag_more G t (nat_eq c union_word) (look_up_tag t G.scopes)

pub words_more : (G : Env) (ws : List TypeWord) → IsMore G.types (mentioned_words G ws).types
words_more G [] = more_itself G.types
words_more G (w ∷ ws) =
    let H : Env = mentioned_word G w in
    more_on G.types H.types (mentioned_words H ws).types (word_more G w) (words_more H ws)

named_more : (G : Env) (r : Result CType Refusal) → IsMore G.types (with_type_of G r).types
named_more G (Ok c) = type_more G.types c
named_more G (Err e) = more_itself G.types

name_more : (G : Env) (n : TypeName) → IsMore G.types (mentioned_name G n).types
unfolding mentioned_name
name_more G n =
    let H : Env = mentioned_words G n.words in
    more_on G.types H.types (with_type_of H (named_type H n)).types (words_more G n.words) (named_more H (named_type H
    n))

mutual
  unfolding mentioned mentioned_all

  pub mentioned_more : (G : Env) (e : source.Expr) → IsMore G.types (mentioned G e).types
  mentioned_more G (source.assign l m a b) =
      let H : Env = mentioned G a in
      more_on G.types H.types (mentioned H b).types (mentioned_more G a) (mentioned_more H b)
  mentioned_more G (source.conditional l a b c) =
      let H : Env = mentioned G a in
      let I : Env = mentioned H b in
      more_on G.types H.types (mentioned I c).types (mentioned_more G a)
      (more_on H.types I.types (mentioned I c).types (mentioned_more H b) (mentioned_more I c))
  mentioned_more G (source.binary l m a b) =
      let H : Env = mentioned G a in
      more_on G.types H.types (mentioned H b).types (mentioned_more G a) (mentioned_more H b)
  mentioned_more G (source.cast l n a) =
      let H : Env = mentioned_name G n in
      more_on G.types H.types (mentioned H a).types (name_more G n) (mentioned_more H a)
  mentioned_more G (source.step l m a) = mentioned_more G a
  mentioned_more G (source.unary l m a) = mentioned_more G a
  mentioned_more G (source.sizeof_expr l a) = mentioned_more G a
  mentioned_more G (source.sizeof_type l n) = name_more G n
  mentioned_more G (source.index l a b) =
      let H : Env = mentioned G a in
      more_on G.types H.types (mentioned H b).types (mentioned_more G a) (mentioned_more H b)
  mentioned_more G (source.call l f es) =
      let H : Env = mentioned G f in
      more_on G.types H.types (mentioned_all H es).types (mentioned_more G f) (all_more H es)
  mentioned_more G (source.member l a n) = mentioned_more G a
  mentioned_more G (source.arrow l a n) = mentioned_more G a
  mentioned_more G (source.post_increment l a) = mentioned_more G a
  mentioned_more G (source.post_decrement l a) = mentioned_more G a
  mentioned_more G (source.id l t) = more_itself G.types
  mentioned_more G (source.number l n) = more_itself G.types

  all_more : (G : Env) (es : source.Exprs) → IsMore G.types (mentioned_all G es).types
  all_more G source.no_exprs = more_itself G.types
  all_more G (source.more_exprs e es) =
      let H : Env = mentioned G e in
      more_on G.types H.types (mentioned_all H es).types (mentioned_more G e) (all_more H es)

-- ---- what follows

pub follows_itself : (G : Env) → IsKnownEnv G → Follows G G
follows_itself G k = record { known = k; grown = kept_by_itself G.types; stay = λ a h. h }

pub follows_more : (G H I : Env) → Follows G H → Follows H I → Follows G I
follows_more G H I f g = record {
  known = g.known;
  grown = grows-trans G.types H.types I.types f.grown g.grown;
  stay = λ a h. g.stay a (f.stay a h);
}

-- a table that grew, under the same names
pub follows_table : (G : Env) (u : Table) → IsKnownEnv G → Grows G.types u → StaysOpen G.types u
    → Follows G (record G { types = u })
follows_table G u k g s = record { known = table_known G u g k; grown = g; stay = s }

pub follows_ok : {T E : Type 0} (r : Result T E) (G H : Env) → OnOk r (IsKnownEnv H) → OnOk r (Grows G.types H.types)
    → OnOk r (StaysOpen G.types H.types) → OnOk r (Follows G H)
follows_ok (Ok x) G H k g s = record { known = k; grown = g; stay = s }
follows_ok (Err e) G H k g s = tt
