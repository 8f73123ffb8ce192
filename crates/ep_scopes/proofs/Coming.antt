-- Environments come from others: by types, tags, what is mentioned, scopes, and the members of an aggregate.
use Rattle.std.proofs.Common.{◌≡◌, ℕ, zero, suc, ◌<◌, nat_eq, Bool, true, false, cond, List, [], ◌∷◌, ◌++◌, length}
use Rattle.std.proofs.Common.{slice_get, is_some, option_and_then, get_or, Option, Some, None, Result, Ok, Err, refl}
use Rattle.std.proofs.Common.{sym, ap, ◌∙◌, subst}
use Rattle.std.proofs.lemmas.Bool.{eqb-true}
use Rattle.std.proofs.lemmas.List.{append-nil, append_assoc}
use Rattle.std.proofs.lemmas.Option.{slice_get-get_or}
use Rattle.ep_int.proofs.Basics.{true_and_false}
use Rattle.ep_ast.specs.declared.refusals.Refusal.{Refusal}
use Rattle.ep_ast.specs.Expression as source
use Rattle.ep_ast.specs.Expression.{Expr, TypeName, TypeWord}
use Rattle.ep_ast.specs.Mark.{union_word}
use Rattle.ep_layout.specs.declared.types.Ty.{Ty}
use Rattle.ep_layout.specs.declared.types.Ty.TheVariants as rows
use Rattle.ep_layout.specs.Table.{AggregateRow, Grows, MemberRow, Table, completed_with, declared, is_completed}
use Rattle.ep_layout.specs.Table.{laid_out, number_of, type_added, with_type}
use Rattle.ep_layout.specs.Grown.{GrownFrom}
use Rattle.ep_layout.specs.Grown.GrownFrom.{itself, type_more, aggregate_more, members_more}
use Rattle.ep_layout.proofs.Grown.{grown_grows, grown_on}
use Rattle.ep_layout.proofs.Laid.{completed_is}
use Rattle.ep_layout.proofs.Options.{get_set_same}
use Rattle.ep_typing.specs.declared.types.Base.{Base}
use Rattle.ep_typing.specs.declared.types.Base.TheVariants as bases
use Rattle.ep_typing.specs.declared.types.CType.{CType}
use Rattle.ep_typing.specs.Env.{Env, NamedFields, Scope, look_up_tag, no_names, tag_in, with_tag}
use Rattle.ep_typing.specs.Fields.{fields_of, with_fields_of}
use Rattle.ep_typing.specs.Names.{mentioned, mentioned_all, mentioned_name, mentioned_tag, mentioned_word}
use Rattle.ep_typing.specs.Names.{mentioned_words, named_type, with_type_of}
use Rattle.ep_typing.specs.Types.{base_number, known_number, with_base, with_c_type, with_pointers}
use Rattle.ep_scopes.specs.Comes.{AreCompleted, Begins, Comes, Gains, ScopesCome}
use Rattle.ep_scopes.specs.Comes.ScopesCome.{same, gained, opened}
use Rattle.ep_scopes.specs.View.{outer}

-- ---- tables

added_by : (t u : Table) (ty : Ty) (o : Option ℕ) → number_of t ty ≡ o → type_added t ty ≡ u → GrownFrom t u
added_by t u ty None e h =
    let put : with_type t ty ≡ u = rw e at h in
    subst (GrownFrom t) put (type_more t ty itself)
added_by t u ty (Some n) e h = let there : t ≡ u = rw e at h in subst (GrownFrom t) there itself

pub row_grown : (t : Table) (ty : Ty) → GrownFrom t (type_added t ty)
row_grown t ty = added_by t (type_added t ty) ty (number_of t ty) refl refl

base_grown : (t : Table) (b : Base) → GrownFrom t (with_base t b)
base_grown t bases.Void = row_grown t rows.Void
base_grown t (bases.Int i) = row_grown t (rows.Int i)
base_grown t (bases.Array n) = itself
base_grown t (bases.Aggregate a) = row_grown t (rows.Aggregate a)

pointers_grown : (t : Table) (n k : ℕ) → GrownFrom t (with_pointers t n k)
unfolding with_pointers
pointers_grown t n zero = itself
pointers_grown t n (suc k) =
    let u : Table = type_added t (rows.Ptr n) in
    grown_on t u (with_pointers u (known_number u (rows.Ptr n)) k) (row_grown t (rows.Ptr n))
    (pointers_grown u (known_number u (rows.Ptr n)) k)

pub type_grown : (t : Table) (c : CType) → GrownFrom t (with_c_type t c)
type_grown t c =
    let u : Table = with_base t c.base in
    grown_on t u (with_pointers u (base_number u c.base) c.stars) (base_grown t c.base)
    (pointers_grown u (base_number u c.base) c.stars)

abbrev has_members : Option AggregateRow → Bool
has_members o = is_some (option_and_then (λ (g : AggregateRow). g.members) o)

-- what has no members now had none before
module _ (t u : Table) (g : Grows t u) (a : ℕ) (h : is_completed u a ≡ false) where
  none_before : (r : AggregateRow) → slice_get t.aggregates a ≡ Some r → (ms : Option (List MemberRow)) → r.members ≡ ms
      → is_completed t a ≡ false
  none_before r e None q = ap has_members e ∙ ap is_some q
  none_before r e (Some ms) q =
      let p = g.aggregates a r e in
      let now : is_completed u a ≡ true = ap has_members p.1 ∙ ap is_some (p.3 ms q) in
      absurd (true_and_false (is_completed u a) now h)

  row_before : (o : Option AggregateRow) → slice_get t.aggregates a ≡ o → is_completed t a ≡ false
  row_before None e = ap has_members e
  row_before (Some r) e = none_before r e r.members refl

open_before : (t u : Table) → GrownFrom t u → (a : ℕ) → is_completed u a ≡ false → is_completed t a ≡ false
open_before t u g a h = row_before t u (grown_grows t u g) a h (slice_get t.aggregates a) refl

fields_stay : (t u : Table) (fs : List (ℕ × NamedFields)) → GrownFrom t u → AreCompleted t fs → AreCompleted u fs
fields_stay t u fs g k a h = k a (open_before t u g a h)

-- ---- lists and scopes

begins_itself : {A : Type 0} (xs : List A) → Begins xs xs
begins_itself xs = ([], append-nil xs)

begins_on : {A : Type 0} (xs ys zs : List A) → Begins xs ys → Begins ys zs → Begins xs zs
begins_on xs ys zs b c =
    (b.0 ++ c.0, sym (append_assoc xs b.0 c.0) ∙ ap (λ (l : List _). l ++ c.0) b.1 ∙ c.1)

gains_on : (s u v : Scope) → Gains s u → Gains u v → Gains s v
gains_on s u v g h = record {
  names = begins_on s.names u.names v.names g.names h.names;
  tags = begins_on s.tags u.tags v.tags g.tags h.tags;
}

gained_on : (ss : List Scope) (s u : Scope) (us : List Scope) → ScopesCome ss (s ∷ us) → Gains s u
    → ScopesCome ss (u ∷ us)
gained_on ss s u us (same rs) g = gained s u us g
gained_on ss s u us (gained r v rs f) g = gained r u us (gains_on r s u f g)
gained_on ss s u us (opened rs ws v c) g = opened ss us u c

scopes_on : (ss us vs : List Scope) → ScopesCome ss us → ScopesCome us vs → ScopesCome ss vs
scopes_on ss us vs c (same ws) = c
scopes_on ss us vs c (gained s u ws g) = gained_on ss s u ws c g
scopes_on ss us vs c (opened rs ws u d) = opened ss ws u (scopes_on ss us ws c d)

-- what came inside a scope came in the outer ones
behind : (s : Scope) (ss us : List Scope) → ScopesCome (s ∷ ss) us → ScopesCome ss us
behind s ss us (same ws) = opened ss ss s (same ss)
behind s ss us (gained r u ws g) = opened ss ss u (same ss)
behind s ss us (opened rs ws u d) = opened ss ws u (behind s ss ws d)

left_behind : (s : Scope) (ss us : List Scope) → ScopesCome (s ∷ ss) us → ScopesCome ss (outer us)
left_behind s ss us (same ws) = same ss
left_behind s ss us (gained r u ws g) = same ss
left_behind s ss us (opened rs ws u d) = behind s ss ws d

tag_gained : (ss : List Scope) (t : List ℕ) (a : ℕ) → ScopesCome ss (tag_in ss t a)
tag_gained [] t a = same []
tag_gained (s ∷ ss) t a =
    gained s (record s { tags = s.tags ++ (t, a) ∷ [] }) ss
    (record { names = begins_itself s.names; tags = ((t, a) ∷ [], refl) })

-- ---- environments

pub comes_itself : (G : Env) → Comes G G
comes_itself G = record {
  types = itself;
  fields = λ h. (h, begins_itself G.fields);
  scopes = same G.scopes;
  blocks = refl;
  functions = refl;
}

pub comes_on : (G H I : Env) → Comes G H → Comes H I → Comes G I
comes_on G H I c d = record {
  types = grown_on G.types H.types I.types c.types d.types;
  fields = λ h.
      let p = c.fields h in
      let q = d.fields p.0 in
      (q.0, begins_on G.fields H.fields I.fields p.1 q.1);
  scopes = scopes_on G.scopes H.scopes I.scopes c.scopes d.scopes;
  blocks = d.blocks ∙ c.blocks;
  functions = d.functions ∙ c.functions;
}

pub comes_types : (G : Env) (t : Table) → GrownFrom G.types t → Comes G (record G { types = t })
comes_types G t g = record {
  types = g;
  fields = λ h. (fields_stay G.types t G.fields g h, begins_itself G.fields);
  scopes = same G.scopes;
  blocks = refl;
  functions = refl;
}

pub comes_tag : (G : Env) (t : List ℕ) (u : Bool) → Comes G (with_tag G t u)
comes_tag G t u =
    let g : GrownFrom G.types (declared G.types t u) = aggregate_more G.types t u itself in
    record {
      types = g;
      fields = λ h. (fields_stay G.types (declared G.types t u) G.fields g h, begins_itself G.fields);
      scopes = tag_gained G.scopes t (length G.types.aggregates);
      blocks = refl;
      functions = refl;
    }

pub scope_opened : (G : Env) → Comes G (record G { scopes = no_names ∷ G.scopes })
scope_opened G = record {
  types = itself;
  fields = λ h. (h, begins_itself G.fields);
  scopes = opened G.scopes G.scopes no_names (same G.scopes);
  blocks = refl;
  functions = refl;
}

pub scope_left : (G H : Env) (s : Scope) → Comes (record G { scopes = s ∷ G.scopes }) H
    → Comes G (record H { scopes = outer H.scopes })
scope_left G H s c = record {
  types = c.types;
  fields = c.fields;
  scopes = left_behind s G.scopes H.scopes c.scopes;
  blocks = c.blocks;
  functions = c.functions;
}

-- ---- what expressions and type names mention

tag_comes : (G : Env) (t : List ℕ) (u : Bool) (o : Option ℕ) → Comes G (mentioned_tag G t u o)
tag_comes G t u None = comes_tag G t u
tag_comes G t u (Some a) = comes_itself G

word_comes : (G : Env) (w : TypeWord) → Comes G (mentioned_word G w)
word_comes G (source.word l c) = comes_itself G
word_comes G (source.typedef_name l t) = comes_itself G
word_comes G (source.tagged l c t) = tag_comes G t (nat_eq c union_word) (look_up_tag t G.scopes)

pub words_come : (G : Env) (ws : List TypeWord) → Comes G (mentioned_words G ws)
words_come G [] = comes_itself G
words_come G (w ∷ ws) =
    let H : Env = mentioned_word G w in
    comes_on G H (mentioned_words H ws) (word_comes G w) (words_come H ws)

named_comes : (G : Env) (r : Result CType Refusal) → Comes G (with_type_of G r)
named_comes G (Ok c) = comes_types G (with_c_type G.types c) (type_grown G.types c)
named_comes G (Err e) = comes_itself G

pub name_comes : (G : Env) (n : TypeName) → Comes G (mentioned_name G n)
unfolding mentioned_name
name_comes G n =
    let H : Env = mentioned_words G n.words in
    comes_on G H (with_type_of H (named_type H n)) (words_come G n.words) (named_comes H (named_type H n))

mutual
  unfolding mentioned mentioned_all

  pub mentioned_comes : (G : Env) (e : Expr) → Comes G (mentioned G e)
  mentioned_comes G (source.assign l m a b) =
      let H : Env = mentioned G a in
      comes_on G H (mentioned H b) (mentioned_comes G a) (mentioned_comes H b)
  mentioned_comes G (source.conditional l a b c) =
      let H : Env = mentioned G a in
      let I : Env = mentioned H b in
      comes_on G H (mentioned I c) (mentioned_comes G a)
      (comes_on H I (mentioned I c) (mentioned_comes H b) (mentioned_comes I c))
  mentioned_comes G (source.binary l m a b) =
      let H : Env = mentioned G a in
      comes_on G H (mentioned H b) (mentioned_comes G a) (mentioned_comes H b)
  mentioned_comes G (source.cast l n a) =
      let H : Env = mentioned_name G n in
      comes_on G H (mentioned H a) (name_comes G n) (mentioned_comes H a)
  mentioned_comes G (source.step l m a) = mentioned_comes G a
  mentioned_comes G (source.unary l m a) = mentioned_comes G a
  mentioned_comes G (source.sizeof_expr l a) = mentioned_comes G a
  mentioned_comes G (source.sizeof_type l n) = name_comes G n
  mentioned_comes G (source.index l a b) =
      let H : Env = mentioned G a in
      comes_on G H (mentioned H b) (mentioned_comes G a) (mentioned_comes H b)
  mentioned_comes G (source.call l f es) =
      let H : Env = mentioned G f in
      comes_on G H (mentioned_all H es) (mentioned_comes G f) (all_come H es)
  mentioned_comes G (source.member l a n) = mentioned_comes G a
  mentioned_comes G (source.arrow l a n) = mentioned_comes G a
  mentioned_comes G (source.post_increment l a) = mentioned_comes G a
  mentioned_comes G (source.post_decrement l a) = mentioned_comes G a
  mentioned_comes G (source.id l t) = comes_itself G
  mentioned_comes G (source.number l n) = comes_itself G

  all_come : (G : Env) (es : source.Exprs) → Comes G (mentioned_all G es)
  all_come G source.no_exprs = comes_itself G
  all_come G (source.more_exprs e es) =
      let H : Env = mentioned G e in
      comes_on G H (mentioned_all H es) (mentioned_comes G e) (all_come H es)

-- ---- an aggregate with its members and its bit-fields

not_first : {A : Type 0} (b : Bool) (x : A) (o : Option A) → cond b (Some x) o ≡ None → (b ≡ false) × (o ≡ None)
not_first true x o h = absurd cc
not_first false x o h = (refl, h)

put_by : (b : Bool) (x y : ℕ × NamedFields) (xs ys : List (ℕ × NamedFields)) → b ≡ false → Begins xs ys
    → Begins (x ∷ xs) (cond b (y ∷ xs) (x ∷ ys))
put_by true x y xs ys h c = absurd cc
put_by false x y xs ys h c = (c.0, ap (λ (l : List (ℕ × NamedFields)). x ∷ l) c.1)

-- bit-fields of an aggregate that had none stand behind the others
fields_begin : (fs : List (ℕ × NamedFields)) (a : ℕ) (ns : NamedFields) → fields_of fs a ≡ None
    → Begins fs (with_fields_of fs a ns)
fields_begin [] a ns h = ((a, ns) ∷ [], refl)
fields_begin (x ∷ xs) a ns h =
    let p = not_first (nat_eq x.0 a) x.1 (fields_of xs a) h in
    put_by (nat_eq x.0 a) x (a, ns) xs (with_fields_of xs a ns) p.0 (fields_begin xs a ns p.1)

other_by : (b : Bool) (a c : ℕ) (ns : NamedFields) (x : ℕ × NamedFields) (xs ys : List (ℕ × NamedFields))
    → nat_eq a c ≡ false → nat_eq x.0 c ≡ false → fields_of xs c ≡ None → fields_of ys c ≡ None
    → fields_of (cond b ((a, ns) ∷ xs) (x ∷ ys)) c ≡ None
other_by true a c ns x xs ys d e h k = rw d h
other_by false a c ns x xs ys d e h k = rw e k

others_none : (fs : List (ℕ × NamedFields)) (a c : ℕ) (ns : NamedFields) → nat_eq a c ≡ false → fields_of fs c ≡ None
    → fields_of (with_fields_of fs a ns) c ≡ None
others_none [] a c ns d h = rw d refl
others_none (x ∷ xs) a c ns d h =
    let p = not_first (nat_eq x.0 c) x.1 (fields_of xs c) h in
    other_by (nat_eq x.0 a) a c ns x xs (with_fields_of xs a ns) d p.0 p.1 (others_none xs a c ns d p.1)

now_completed : (t : Table) (a : ℕ) (ms : List (List ℕ × ℕ)) → a < length t.aggregates
    → is_completed (completed_with t a ms) a ≡ true
now_completed t a ms lt =
    let none : AggregateRow = record { tag = []; is_union = false; members = None } in
    let g : AggregateRow = get_or t.aggregates a none in
    let e : slice_get t.aggregates a ≡ Some g = slice_get-get_or t.aggregates a none lt in
    ap (λ (u : Table). is_completed u a) (completed_is t a g ms e)
    ∙ ap has_members (get_set_same t.aggregates a (record g { members = Some (laid_out t g.is_union ms) }) g e)

completed_by : (t : Table) (a : ℕ) (ms : List (List ℕ × ℕ)) (fs : List (ℕ × NamedFields)) (ns : NamedFields) (c : ℕ)
    → is_completed (completed_with t a ms) a ≡ true → is_completed (completed_with t a ms) c ≡ false
    → fields_of fs c ≡ None → (b : Bool) → nat_eq a c ≡ b → fields_of (with_fields_of fs a ns) c ≡ None
completed_by t a ms fs ns c now h k true e =
    let u : Table = completed_with t a ms in
    let there : is_completed u c ≡ true = subst (λ (i : ℕ). is_completed u i ≡ true) (eqb-true a c e) now in
    absurd (true_and_false (is_completed u c) there h)
completed_by t a ms fs ns c now h k false e = others_none fs a c ns e k

pub fields_come : (G : Env) (a : ℕ) (ms : List (List ℕ × ℕ)) (ns : NamedFields) → a < length G.types.aggregates
    → is_completed G.types a ≡ false
    → Comes G (record G { types = completed_with G.types a ms; fields = with_fields_of G.fields a ns })
fields_come G a ms ns lt e =
    let t : Table = G.types in
    let u : Table = completed_with t a ms in
    let g : GrownFrom t u = members_more t a ms itself e in
    record {
      types = g;
      fields = λ k. (
        λ c h.
            let old : fields_of G.fields c ≡ None = k c (open_before t u g c h) in
            completed_by t a ms G.fields ns c (now_completed t a ms lt) h old (nat_eq a c) refl,
        fields_begin G.fields a ns (k a e),
      );
      scopes = same G.scopes;
      blocks = refl;
      functions = refl;
    }
