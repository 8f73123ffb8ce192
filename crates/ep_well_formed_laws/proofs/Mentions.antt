-- Environments stay what they are while expressions declare tags and types, and the types of type names are there.
use Rattle.std.proofs.Common.{◌≡◌, ℕ, zero, suc, ◌<◌, ◌==◌, Bool, true, false, cond, if◌then◌else◌, List, []}
use Rattle.ep_core.proofs.Tables.{more_aggregates}
use Rattle.ep_layout.proofs.Basics.{grows-trans, is_union-stays}
use Rattle.ep_typing.proofs.Order.{at_ok}
use Rattle.std.proofs.lemmas.Bool.{and_from}
use Rattle.std.proofs.Common.{◌∷◌, length, length-append, find, slice_get, Option, Some, None, Result, Ok, Err, refl}
use Rattle.std.proofs.Common.{sym, ap, ◌∙◌, subst, ◌⊎◌, inl, inr, arith}
use Rattle.std.proofs.lemmas.Bool.Decides.{nat_tests}
use Rattle.std.proofs.lemmas.Bool.{and_parts}
use Rattle.ep_int.specs.declared.types.IntType.{IntType}
use Rattle.ep_int.specs.declared.types.Model.{Model}
use Rattle.ep_ast.specs.declared.refusals.Refusal.{Refusal}
use Rattle.ep_ast.specs.Expression as source
use Rattle.ep_ast.specs.Expression.{TypeWord, TypeName}
use Rattle.ep_ast.specs.Mark.{union_word}
use Rattle.ep_layout.specs.declared.types.Ty.TheVariants as rows
use Rattle.ep_layout.specs.SameTypes.{is_same_sign}
use Rattle.ep_layout.specs.Table.{AggregateRow, Grows, IsBuilt, Table, declared, is_union, number_of}
use Rattle.ep_layout.specs.Table.IsBuilt.{aggregate_more}
use Rattle.ep_layout.proofs.Options.{get_front, get_push}
use Rattle.ep_layout.proofs.Laid.{grows_declared}
use Rattle.ep_layout.proofs.Recursion.{kept_by_itself}
use Rattle.ep_layout.proofs.Sizes.{known}
use Rattle.ep_core.specs.Program.{Block}
use Rattle.ep_core.specs.WellFormed.{block_fits}
use Rattle.ep_typing.specs.declared.types.Base.{Base}
use Rattle.ep_typing.specs.declared.types.Base.TheVariants as bases
use Rattle.ep_typing.specs.declared.types.CType.{CType}
use Rattle.ep_typing.specs.Results.{◌>>=◌, at}
use Rattle.ep_typing.specs.Types.{int_type, void_type, whole, with_c_type, with_stars}
use Rattle.ep_typing.specs.Env.{Env, Meaning, Scope, Signature, entry, look_up, look_up_tag, tag_in, variable}
use Rattle.ep_typing.specs.Env.{function, type_name, with_tag}
use Rattle.ep_typing.specs.Names.{built_in_types, integer_of, is_whole, meant_tag, meant_type, mentioned}
use Rattle.ep_typing.specs.Names.{mentioned_all, mentioned_name, mentioned_tag, mentioned_word, mentioned_words}
use Rattle.ep_typing.specs.Names.{named_type, of_whole, with_type_of, words_type}
use Rattle.ep_elaboration.proofs.Growing.{size_on}
use Rattle.ep_well_formed_laws.specs.Numbers.{HasNumber, IsTable, number_behind, number_of_base}
use Rattle.ep_well_formed_laws.specs.Environments.{ArePassed, CanName, Covers, EachMeaning, IsDeclared, IsEnv}
use Rattle.ep_well_formed_laws.specs.Environments.{IsPassed, IsPlaced, IsSignature, IsTyped}
use Rattle.ep_well_formed_laws.proofs.Tables.{behind_none, row_at}
use Rattle.ep_well_formed_laws.proofs.Extents.{array_is}
use Rattle.ep_well_formed_laws.proofs.Additions.{IsKnownBase, has_number_stays, type_comes, type_number_stays}
use Rattle.ep_well_formed_laws.proofs.FieldsFit.{fields_stay}
use Rattle.ep_well_formed_laws.proofs.Scopes.{HaveNames, each_same, looked_up, meaning_more, names_on, names_tagged}
use Rattle.ep_well_formed_laws.proofs.Scopes.{same_meaning, same_names, tag_found, tag_looked_up, tag_more, tag_push}
use Rattle.ep_well_formed_laws.proofs.Scopes.{tag_stays}
use Rattle.ep_well_formed_laws.proofs.Tests.{after}

-- ---- in a table that has grown

module _ (t u : Table) (g : Grows t u) (b : IsBuilt u) where
  typed_stays : (m : Meaning) → IsTyped t m → IsTyped u m
  typed_stays (variable k c) h = has_number_stays t u g b c h
  typed_stays (function n) h = tt
  typed_stays (type_name c) h = has_number_stays t u g b c h

  pub passed_stays : (c : CType) → IsPassed t c → IsPassed u c
  passed_stays c h = (h.0, has_number_stays t u g b c h.1)

  pub all_passed_stay : (cs : List CType) → ArePassed t cs → ArePassed u cs
  all_passed_stay [] h = tt
  all_passed_stay (c ∷ cs) h = (passed_stays c h.0, all_passed_stay cs h.1)

  pub signature_stays : (s : Signature) → IsSignature t s → IsSignature u s
  signature_stays s h = record {
    params = all_passed_stay s.params h.params;
    result = by h.result;
  }
    where
      by : ((s.result ≡ void_type) ⊎ IsPassed t s.result) → (s.result ≡ void_type) ⊎ IsPassed u s.result
      by (inl e) = inl e
      by (inr p) = inr (passed_stays s.result p)

  placed_stays : (bs : List Block) (fs : List Signature) (m : Meaning) → IsPlaced t bs fs m → IsPlaced u bs fs m
  placed_stays bs fs (variable k c) h = (h.0, h.1, type_number_stays t u g b c h.0.ty h.2)
  placed_stays bs fs (function n) h = h
  placed_stays bs fs (type_name c) h = tt

  pub block_stays : (x : Block) → block_fits t x ≡ true → block_fits u x ≡ true
  block_stays x h = let p = and_parts _ _ h in and_from _ _ (size_on t u g x.ty x.size p.0) p.1

-- an environment in a table that has grown
pub with_table : (G : Env) (u : Table) → IsDeclared G → Grows G.types u → IsTable u → IsDeclared (record G { types = u })
with_table G u h g b = record {
  table = b;
  fields = fields_stay G.types u g G.fields h.fields;
  names = meaning_more (IsTyped G.types) (IsTyped u) (typed_stays G.types u g b.built) G.scopes h.names;
  tags = tag_more _ _ (λ a k. omega (arith, more_aggregates G.types u g, k)) G.scopes h.tags;
  functions = λ n s e. signature_stays G.types u g b.built s (h.functions n s e);
}

-- ---- what comes by mentions

-- an aggregate without members so far
abbrev pub IsOpen : Table → ℕ → Type 0
IsOpen t a = (g : AggregateRow) × (slice_get t.aggregates a ≡ Some g) × (g.members ≡ None)

abbrev pub StayOpen : Table → Table → Type 0
StayOpen t u = (a : ℕ) → IsOpen t a → IsOpen u a

pub same_rows_open : (t u : Table) → u.aggregates ≡ t.aggregates → StayOpen t u
same_rows_open t u e a o = (o.0, ap (λ (rs : List AggregateRow). slice_get rs a) e ∙ o.1, o.2)

pub record Mentions (G H : Env) : Type 0 where
  pub declared : IsDeclared H
  pub grows : Grows G.types H.types
  pub names : HaveNames G.scopes H.scopes
  pub tags : (t : List ℕ) (a : ℕ) → look_up_tag t G.scopes ≡ Some a → look_up_tag t H.scopes ≡ Some a
  pub blocks : H.blocks ≡ G.blocks
  pub functions : H.functions ≡ G.functions
  pub open_stay : StayOpen G.types H.types

pub mentions_none : (G : Env) → IsDeclared G → Mentions G G
mentions_none G h = record {
  declared = h;
  grows = kept_by_itself G.types;
  names = same_names G.scopes;
  tags = λ t a e. e;
  blocks = refl;
  functions = refl;
  open_stay = λ a o. o;
}

pub mentions_on : (G H I : Env) → Mentions G H → Mentions H I → Mentions G I
mentions_on G H I g h = record {
  declared = h.declared;
  grows = grows-trans G.types H.types I.types g.grows h.grows;
  names = names_on G.scopes H.scopes I.scopes g.names h.names;
  tags = λ t a e. h.tags t a (g.tags t a e);
  blocks = h.blocks ∙ g.blocks;
  functions = h.functions ∙ g.functions;
  open_stay = λ a o. h.open_stay a (g.open_stay a o);
}

pub table_mentioned : (G : Env) (u : Table) → IsDeclared G → Grows G.types u → IsTable u → StayOpen G.types u
    → Mentions G (record G { types = u })
table_mentioned G u h g b o = record {
  declared = with_table G u h g b;
  grows = g;
  names = same_names G.scopes;
  tags = λ t a e. e;
  blocks = refl;
  functions = refl;
  open_stay = o;
}

-- ---- tags

declared_table : (t : Table) (tag : List ℕ) (u : Bool) → IsTable t → IsTable (declared t tag u)
declared_table t tag u h = record {
  built = aggregate_more t tag u h.built;
  arrays = h.arrays;
  bodies = λ a g ms e m. elim (get_push t.aggregates (record { tag = tag; is_union = u; members = None }) g a e) [
    | inl old ↦ h.bodies a g ms old m
    | inr p ↦ absurd (let bad : None ≡ Some ms = ap (λ (x : AggregateRow). x.members) p.1 ∙ m in cc)
  ];
}

pub table_declared : (G : Env) (tag : List ℕ) (u : Bool) → IsDeclared G
    → Mentions G (record G { types = declared G.types tag u })
table_declared G tag u h =
    table_mentioned G (declared G.types tag u) h (grows_declared G.types tag u) (declared_table G.types tag u h.table)
    (λ a o. (o.0, get_front G.types.aggregates _ o.0 a o.1, o.2))

pub tag_mentioned : (G : Env) (t : List ℕ) (u : Bool) → IsDeclared G → look_up_tag t G.scopes ≡ None
    → Mentions G (with_tag G t u)
tag_mentioned G t u h n =
    let m = table_declared G t u h in
    let a = length G.types.aggregates in
    let l : a < length (declared G.types t u).aggregates =
    omega (arith, length-append G.types.aggregates ((record { tag = t; is_union = u; members = None }) ∷ [])) in
    record {
      declared = record {
        table = m.declared.table;
        fields = m.declared.fields;
        names = each_same (IsTyped (declared G.types t u)) G.scopes (tag_in G.scopes t a) (names_tagged G.scopes t a)
            m.declared.names;
        tags = tag_push (λ k. k < length (declared G.types t u).aggregates) G.scopes t a m.declared.tags l;
        functions = m.declared.functions;
      };
      grows = m.grows;
      names = names_tagged G.scopes t a;
      tags = λ v b e. tag_stays t v a b G.scopes n e;
      blocks = refl;
      functions = refl;
      open_stay = m.open_stay;
    }

-- ---- words

-- a tag is found, or there is no scope
abbrev HasTag : Env → List ℕ → Type 0
HasTag G t = ((a : ℕ) × (look_up_tag t G.scopes ≡ Some a)) ⊎ (G.scopes ≡ [])

-- the tag of a word
abbrev IsTagged : Env → TypeWord → Type 0
IsTagged G (source.word l c) = Unit {0}
IsTagged G (source.typedef_name l t) = Unit {0}
IsTagged G (source.tagged l c t) = HasTag G t

no_scopes : (ss us : List Scope) → HaveNames ss us → ss ≡ [] → us ≡ []
no_scopes [] [] h e = refl
no_scopes [] (u ∷ us) h e = absurd h
no_scopes (s ∷ ss) us h e = absurd cc

tagged_stays : (G H : Env) → Mentions G H → (w : TypeWord) → IsTagged G w → IsTagged H w
tagged_stays G H m (source.word l c) h = tt
tagged_stays G H m (source.typedef_name l t) h = tt
tagged_stays G H m (source.tagged l c t) (inl p) = inl (p.0, m.tags t p.0 p.1)
tagged_stays G H m (source.tagged l c t) (inr e) = inr (no_scopes G.scopes H.scopes m.names e)

pub word_mentioned : (G : Env) (w : TypeWord) → IsDeclared G
    → Mentions G (mentioned_word G w) × IsTagged (mentioned_word G w) w
word_mentioned G (source.word l c) h = (mentions_none G h, tt)
word_mentioned G (source.typedef_name l t) h = (mentions_none G h, tt)
word_mentioned G (source.tagged l c t) h = by (look_up_tag t G.scopes) refl
  where
    by : (o : Option ℕ) → look_up_tag t G.scopes ≡ o
        → Mentions G (mentioned_tag G t (c == union_word) o) × HasTag (mentioned_tag G t (c == union_word) o) t
    by None q = (tag_mentioned G t (c == union_word) h q, found (tag_found t (length G.types.aggregates) G.scopes q))
      where
        found : ((look_up_tag t (tag_in G.scopes t (length G.types.aggregates)) ≡ Some (length G.types.aggregates)) ⊎ (G.scopes ≡ []))
            → HasTag (with_tag G t (c == union_word)) t
        found (inl e) = inl (length G.types.aggregates, e)
        found (inr e) = inr (ap (λ (ss : List Scope). tag_in ss t (length G.types.aggregates)) e)
    by (Some a) q = (mentions_none G h, inl (a, q))

-- the tags of words
abbrev AreTagged : Env → List TypeWord → Type 0
AreTagged G [] = Unit {0}
AreTagged G (w ∷ ws) = IsTagged G w × AreTagged G ws

pub words_mentioned : (G : Env) (ws : List TypeWord) → IsDeclared G
    → Mentions G (mentioned_words G ws) × AreTagged (mentioned_words G ws) ws
words_mentioned G [] h = (mentions_none G h, tt)
words_mentioned G (w ∷ ws) h =
    let a = word_mentioned G w h in
    let H = mentioned_word G w in
    let b = words_mentioned H ws a.0.declared in
    (mentions_on G H (mentioned_words H ws) a.0 b.0, (tagged_stays H (mentioned_words H ws) b.0 w a.1, b.1))

-- ---- the type of words

aggregate_there : (t : Table) → IsBuilt t → (a n : ℕ) → number_of t (rows.Aggregate a) ≡ Some n → a < length t.aggregates
aggregate_there t b a n h =
    let k = known t b n (rows.Aggregate a) (row_at t (rows.Aggregate a) n h) in grind (arith, nat_tests)

pub known_base : (t : Table) (c : CType) → HasNumber t c → IsTable t → IsKnownBase t c.base
known_base t c h b = by c.base (some_base (number_of_base t c.base) refl h.1)
  where
    some_base : (o : Option ℕ) → number_of_base t c.base ≡ o → number_behind t o c.stars ≡ Some h.0
        → (n : ℕ) × (number_of_base t c.base ≡ Some n)
    some_base None q e = absurd (let bad = sym (behind_none t c.stars) ∙ e in cc)
    some_base (Some n) q e = (n, q)

    by : (a : Base) → ((n : ℕ) × (number_of_base t a ≡ Some n)) → IsKnownBase t a
    by bases.Void k = tt
    by (bases.Int i) k = tt
    by (bases.Array n) k =
        let s = array_is n k.0 (slice_get t.types n) k.1 in k.1 ∙ ap (λ (j : ℕ). Some j) (sym s.0)
    by (bases.Aggregate a) k = aggregate_there t b.built a k.0 k.1

meant_known : (G : Env) (c : CType) → IsDeclared G → (o : Option Meaning) (q : Option IntType)
    → ((m : Meaning) → o ≡ Some m → IsTyped G.types m) → meant_type o q ≡ Ok c → IsKnownBase G.types c.base
meant_known G c h (Some (variable b d)) q f e = absurd cc
meant_known G c h (Some (function n)) q f e = absurd cc
meant_known G c h (Some (type_name d)) q f e =
    let same : d ≡ c = cc in
    subst (λ (x : CType). IsKnownBase G.types x.base) same (known_base G.types d (f (type_name d) refl) h.table)
meant_known G c h None (Some i) f e =
    let same : int_type i ≡ c = cc in subst (λ (x : CType). IsKnownBase G.types x.base) same tt
meant_known G c h None None f e = absurd cc

abbrev tag_answer : ℕ → Bool → Result CType ℕ
tag_answer a b = if b then Ok (whole (bases.Aggregate a)) else Err 31

tag_known : (G : Env) (c : CType) (u : Bool) → IsDeclared G → (o : Option ℕ)
    → ((a : ℕ) → o ≡ Some a → a < length G.types.aggregates) → meant_tag G u o ≡ Ok c → IsKnownBase G.types c.base
tag_known G c u h None f e = absurd cc
tag_known G c u h (Some a) f e = by (is_same_sign (is_union G.types a) u) e
  where
    by : (b : Bool) → tag_answer a b ≡ Ok c → IsKnownBase G.types c.base
    by true q =
        let same : whole (bases.Aggregate a) ≡ c = cc in
        subst (λ (x : CType). IsKnownBase G.types x.base) same (f a refl)
    by false q = absurd cc

of_whole_known : (G : Env) (ws : List TypeWord) (o : Option TypeWord) (c : CType) → IsDeclared G → of_whole G ws o ≡ Ok c
    → IsKnownBase G.types c.base
of_whole_known G ws None c h e =
    let same : int_type (integer_of G.types.model ws) ≡ c = cc in
    subst (λ (x : CType). IsKnownBase G.types x.base) same tt
of_whole_known G ws (Some (source.word l w)) c h e =
    let same : void_type ≡ c = cc in subst (λ (x : CType). IsKnownBase G.types x.base) same tt
of_whole_known G ws (Some (source.typedef_name l t)) c h e =
    meant_known G c h (look_up t G.scopes) (entry t (built_in_types G.types.model))
    (λ m q. looked_up (IsTyped G.types) t G.scopes m h.names q) (at_ok l _ c e)
of_whole_known G ws (Some (source.tagged l w t)) c h e =
    tag_known G c (w == union_word) h (look_up_tag t G.scopes)
    (λ a q. tag_looked_up (λ k. k < length G.types.aggregates) t G.scopes a h.tags q) (at_ok l _ c e)

pub words_known : (G : Env) (ws : List TypeWord) (c : CType) → IsDeclared G → words_type G ws ≡ Ok c
    → IsKnownBase G.types c.base
unfolding words_type
words_known G ws c h e = of_whole_known G ws (find is_whole ws) c h e

-- ---- words mean the same later

pub below_aggregate : (xs : List AggregateRow) (n : ℕ) → n < length xs → (x : AggregateRow) × (slice_get xs n ≡ Some x)
below_aggregate [] n l = absurd (omega (arith, l))
below_aggregate (x ∷ xs) zero l = (x, refl)
below_aggregate (x ∷ xs) (suc n) l = below_aggregate xs n (omega (arith, l))

same_tag : (G H : Env) → IsDeclared G → Mentions G H → (u : Bool) (t : List ℕ) → HasTag G t
    → meant_tag H u (look_up_tag t H.scopes) ≡ meant_tag G u (look_up_tag t G.scopes)
same_tag G H h m u t (inl p) =
    let l = tag_looked_up (λ k. k < length G.types.aggregates) t G.scopes p.0 h.tags p.1 in
    ap (meant_tag H u) (m.tags t p.0 p.1)
    ∙ ap (λ (x : Bool). tag_answer p.0 (is_same_sign x u))
    (is_union-stays G.types H.types m.grows p.0 l)
    ∙ ap (meant_tag G u) (sym p.1)
same_tag G H h m u t (inr e) =
    ap (λ (ss : List Scope). meant_tag H u (look_up_tag t ss)) (no_scopes G.scopes H.scopes m.names e)
    ∙ ap (λ (ss : List Scope). meant_tag G u (look_up_tag t ss)) (sym e)

same_whole : (G H : Env) → IsDeclared G → Mentions G H → (ws : List TypeWord) (o : Option TypeWord)
    → ((w : TypeWord) → o ≡ Some w → IsTagged G w) → of_whole H ws o ≡ of_whole G ws o
same_whole G H h m ws None f = ap (λ (k : Model). Ok (int_type (integer_of k ws))) m.grows.model
same_whole G H h m ws (Some (source.word l c)) f = refl
same_whole G H h m ws (Some (source.typedef_name l t)) f =
    ap (λ (o : Option Meaning). at l (meant_type o (entry t (built_in_types H.types.model))))
    (sym (same_meaning G.scopes H.scopes m.names t))
    ∙ ap (λ (k : Model). at l (meant_type (look_up t G.scopes) (entry t (built_in_types k)))) m.grows.model
same_whole G H h m ws (Some (source.tagged l c t)) f =
    ap (at l) (same_tag G H h m (c == union_word) t (f (source.tagged l c t) refl))

found_tagged : (G : Env) (ws : List TypeWord) (w : TypeWord) → AreTagged G ws → find is_whole ws ≡ Some w → IsTagged G w
found_tagged G [] w h e = absurd cc
found_tagged G (x ∷ ws) w h e = by (is_whole x) e (found_tagged G ws w h.1)
  where
    by : (b : Bool) → cond b (Some x) (find is_whole ws) ≡ Some w → (find is_whole ws ≡ Some w → IsTagged G w) → IsTagged G w
    by true q f = let same : x ≡ w = cc in subst (IsTagged G) same h.0
    by false q f = f q

same_words : (G H : Env) → IsDeclared G → Mentions G H → (ws : List TypeWord) → AreTagged G ws
    → words_type H ws ≡ words_type G ws
unfolding words_type
same_words G H h m ws k = same_whole G H h m ws (find is_whole ws) (λ w e. found_tagged G ws w k e)

same_name : (G H : Env) → IsDeclared G → Mentions G H → (n : TypeName) → AreTagged G n.words
    → named_type H n ≡ named_type G n
unfolding named_type
same_name G H h m n k =
    ap (λ (r : Result CType Refusal). r >>= (λ c. Ok (with_stars c (length n.stars)))) (same_words G H h m n.words k)

-- ---- type names

-- in each later environment the type of a name is there
abbrev pub IsThere : Env → TypeName → Type 0
IsThere G n = (H : Env) → Mentions G H → (c : CType) → named_type H n ≡ Ok c → HasNumber H.types c

pub there_stays : (G H : Env) → Mentions G H → (n : TypeName) → IsThere G n → IsThere H n
there_stays G H m n h I k c e = h I (mentions_on G H I m k) c e

name_known : (G : Env) (n : TypeName) (c : CType) → IsDeclared G → named_type G n ≡ Ok c → IsKnownBase G.types c.base
unfolding named_type
name_known G n c h e =
    let w = after (words_type G n.words) (λ d. Ok (with_stars d (length n.stars))) c e in
    let same : with_stars w.0 (length n.stars) ≡ c = (let q = w.2 in cc) in
    subst (λ (x : CType). IsKnownBase G.types x.base) same (words_known G n.words w.0 h w.1)

-- a type that comes into the table of an environment
pub type_mentioned : (G : Env) (c : CType) → IsDeclared G → IsKnownBase G.types c.base
    → Mentions G (record G { types = with_c_type G.types c }) × HasNumber (with_c_type G.types c) c
type_mentioned G c h k =
    let r = type_comes G.types c h.table k in
    (table_mentioned G (with_c_type G.types c) h r.grows r.table (same_rows_open G.types (with_c_type G.types c) r.rows), (_, r.has))

pub name_mentioned : (G : Env) (n : TypeName) → IsDeclared G
    → Mentions G (mentioned_name G n) × IsThere (mentioned_name G n) n
unfolding mentioned_name
name_mentioned G n h =
    let K = mentioned_words G n.words in
    let w = words_mentioned G n.words h in
    by K w.0 w.1 (named_type K n) refl
  where
    by : (K : Env) → Mentions G K → AreTagged K n.words → (r : Result CType Refusal) → named_type K n ≡ r
        → Mentions G (with_type_of K r) × IsThere (with_type_of K r) n
    by K m k (Ok d) q =
        let t = type_mentioned K d m.declared (name_known K n d m.declared q) in
        let M : Env = record K { types = with_c_type K.types d } in (
          mentions_on G K M m t.0,
          λ H l c e.
              let same : d ≡ c = (let p = sym q ∙ (sym (same_name K H m.declared (mentions_on K M H t.0 l) n k) ∙ e) in cc) in
              subst (HasNumber H.types) same (has_number_stays M.types H.types l.grows l.declared.table.built d t.1),
        )
    by K m k (Err r) q =
        (m, λ H l c e. absurd (let p = sym q ∙ (sym (same_name K H m.declared l n k) ∙ e) in cc))

-- ---- expressions

-- the types of the casts in an expression are there
abbrev mutual
  pub AreThere : Env → source.Expr → Type 0
  AreThere G (source.assign l m a b) = AreThere G a × AreThere G b
  AreThere G (source.conditional l a b c) = AreThere G a × AreThere G b × AreThere G c
  AreThere G (source.binary l m a b) = AreThere G a × AreThere G b
  AreThere G (source.cast l n a) = IsThere G n × AreThere G a
  AreThere G (source.step l m a) = AreThere G a
  AreThere G (source.unary l m a) = AreThere G a
  AreThere G (source.sizeof_expr l a) = AreThere G a
  AreThere G (source.sizeof_type l n) = Unit {0}
  AreThere G (source.index l a b) = AreThere G a × AreThere G b
  AreThere G (source.call l f es) = AreThere G f × AllThere G es
  AreThere G (source.member l a n) = AreThere G a
  AreThere G (source.arrow l a n) = AreThere G a
  AreThere G (source.post_increment l a) = AreThere G a
  AreThere G (source.post_decrement l a) = AreThere G a
  AreThere G (source.id l t) = Unit {0}
  AreThere G (source.number l n) = Unit {0}

  pub AllThere : Env → source.Exprs → Type 0
  AllThere G source.no_exprs = Unit {0}
  AllThere G (source.more_exprs e es) = AreThere G e × AllThere G es

mutual
  pub are_there_stays : (G H : Env) → Mentions G H → (e : source.Expr) → AreThere G e → AreThere H e
  are_there_stays G H m (source.assign l k a b) h = (are_there_stays G H m a h.0, are_there_stays G H m b h.1)
  are_there_stays G H m (source.conditional l a b c) h =
      (are_there_stays G H m a h.0, are_there_stays G H m b h.1, are_there_stays G H m c h.2)
  are_there_stays G H m (source.binary l k a b) h = (are_there_stays G H m a h.0, are_there_stays G H m b h.1)
  are_there_stays G H m (source.cast l n a) h = (there_stays G H m n h.0, are_there_stays G H m a h.1)
  are_there_stays G H m (source.step l k a) h = are_there_stays G H m a h
  are_there_stays G H m (source.unary l k a) h = are_there_stays G H m a h
  are_there_stays G H m (source.sizeof_expr l a) h = are_there_stays G H m a h
  are_there_stays G H m (source.sizeof_type l n) h = tt
  are_there_stays G H m (source.index l a b) h = (are_there_stays G H m a h.0, are_there_stays G H m b h.1)
  are_there_stays G H m (source.call l f es) h = (are_there_stays G H m f h.0, all_there_stay G H m es h.1)
  are_there_stays G H m (source.member l a n) h = are_there_stays G H m a h
  are_there_stays G H m (source.arrow l a n) h = are_there_stays G H m a h
  are_there_stays G H m (source.post_increment l a) h = are_there_stays G H m a h
  are_there_stays G H m (source.post_decrement l a) h = are_there_stays G H m a h
  are_there_stays G H m (source.id l t) h = tt
  are_there_stays G H m (source.number l n) h = tt

  pub all_there_stay : (G H : Env) → Mentions G H → (es : source.Exprs) → AllThere G es → AllThere H es
  all_there_stay G H m source.no_exprs h = tt
  all_there_stay G H m (source.more_exprs e es) h = (are_there_stays G H m e h.0, all_there_stay G H m es h.1)

-- what one expression and then another mention
pub record MentionsAll (G H : Env) (e : source.Expr) : Type 0 where
  pub mentions : Mentions G H
  pub there : AreThere H e

pub record MentionsEach (G H : Env) (es : source.Exprs) : Type 0 where
  pub mentions : Mentions G H
  pub there : AllThere H es

mutual
  unfolding mentioned

  pub expression_mentioned : (G : Env) (e : source.Expr) → IsDeclared G → MentionsAll G (mentioned G e) e
  expression_mentioned G (source.assign l m a b) h =
      let p = expression_mentioned G a h in
      let H = mentioned G a in
      let q = expression_mentioned H b p.mentions.declared in
      record {
        mentions = mentions_on G H (mentioned H b) p.mentions q.mentions;
        there = (are_there_stays H (mentioned H b) q.mentions a p.there, q.there);
      }
  expression_mentioned G (source.conditional l a b c) h =
      let p = expression_mentioned G a h in
      let H = mentioned G a in
      let q = expression_mentioned H b p.mentions.declared in
      let I = mentioned H b in
      let r = expression_mentioned I c q.mentions.declared in
      let J = mentioned I c in
      record {
        mentions = mentions_on G H J p.mentions (mentions_on H I J q.mentions r.mentions);
        there = (
          are_there_stays H J (mentions_on H I J q.mentions r.mentions) a p.there,
          are_there_stays I J r.mentions b q.there,
          r.there,
        );
      }
  expression_mentioned G (source.binary l m a b) h =
      let p = expression_mentioned G a h in
      let H = mentioned G a in
      let q = expression_mentioned H b p.mentions.declared in
      record {
        mentions = mentions_on G H (mentioned H b) p.mentions q.mentions;
        there = (are_there_stays H (mentioned H b) q.mentions a p.there, q.there);
      }
  expression_mentioned G (source.cast l n a) h =
      let p = name_mentioned G n h in
      let H = mentioned_name G n in
      let q = expression_mentioned H a p.0.declared in
      record {
        mentions = mentions_on G H (mentioned H a) p.0 q.mentions;
        there = (there_stays H (mentioned H a) q.mentions n p.1, q.there);
      }
  expression_mentioned G (source.step l m a) h = let p = expression_mentioned G a h in record { mentions = p.mentions; there = p.there }
  expression_mentioned G (source.unary l m a) h = let p = expression_mentioned G a h in record { mentions = p.mentions; there = p.there }
  expression_mentioned G (source.sizeof_expr l a) h = let p = expression_mentioned G a h in record { mentions = p.mentions; there = p.there }
  expression_mentioned G (source.sizeof_type l n) h = record { mentions = (name_mentioned G n h).0; there = tt }
  expression_mentioned G (source.index l a b) h =
      let p = expression_mentioned G a h in
      let H = mentioned G a in
      let q = expression_mentioned H b p.mentions.declared in
      record {
        mentions = mentions_on G H (mentioned H b) p.mentions q.mentions;
        there = (are_there_stays H (mentioned H b) q.mentions a p.there, q.there);
      }
  expression_mentioned G (source.call l f es) h =
      let p = expression_mentioned G f h in
      let H = mentioned G f in
      let q = expressions_mentioned H es p.mentions.declared in
      record {
        mentions = mentions_on G H (mentioned_all H es) p.mentions q.mentions;
        there = (are_there_stays H (mentioned_all H es) q.mentions f p.there, q.there);
      }
  expression_mentioned G (source.member l a n) h = let p = expression_mentioned G a h in record { mentions = p.mentions; there = p.there }
  expression_mentioned G (source.arrow l a n) h = let p = expression_mentioned G a h in record { mentions = p.mentions; there = p.there }
  expression_mentioned G (source.post_increment l a) h = let p = expression_mentioned G a h in record { mentions = p.mentions; there = p.there }
  expression_mentioned G (source.post_decrement l a) h = let p = expression_mentioned G a h in record { mentions = p.mentions; there = p.there }
  expression_mentioned G (source.id l t) h = record { mentions = mentions_none G h; there = tt }
  expression_mentioned G (source.number l n) h = record { mentions = mentions_none G h; there = tt }

  pub expressions_mentioned : (G : Env) (es : source.Exprs) → IsDeclared G → MentionsEach G (mentioned_all G es) es
  expressions_mentioned G source.no_exprs h = record { mentions = mentions_none G h; there = tt }
  expressions_mentioned G (source.more_exprs e es) h =
      let p = expression_mentioned G e h in
      let H = mentioned G e in
      let q = expressions_mentioned H es p.mentions.declared in
      record {
        mentions = mentions_on G H (mentioned_all H es) p.mentions q.mentions;
        there = (are_there_stays H (mentioned_all H es) q.mentions e p.there, q.there);
      }

-- ---- objects

-- what comes by declarations of types; a tag may hide one of an outer scope
pub record Declares (G H : Env) : Type 0 where
  pub declared : IsDeclared H
  pub grows : Grows G.types H.types
  pub names : HaveNames G.scopes H.scopes
  pub blocks : H.blocks ≡ G.blocks
  pub functions : H.functions ≡ G.functions

pub declares_mentions : (G H : Env) → Mentions G H → Declares G H
declares_mentions G H m =
    record { declared = m.declared; grows = m.grows; names = m.names; blocks = m.blocks; functions = m.functions }

pub declares_on : (G H I : Env) → Declares G H → Declares H I → Declares G I
declares_on G H I g h = record {
  declared = h.declared;
  grows = grows-trans G.types H.types I.types g.grows h.grows;
  names = names_on G.scopes H.scopes I.scopes g.names h.names;
  blocks = h.blocks ∙ g.blocks;
  functions = h.functions ∙ g.functions;
}

pub env_declares : (G H : Env) → IsEnv G → Declares G H → IsEnv H
env_declares G H h m = record {
  declared = m.declared;
  places = each_same (IsPlaced H.types H.blocks H.functions) G.scopes H.scopes m.names
      (subst (λ (fs : List Signature). EachMeaning (IsPlaced H.types H.blocks fs) G.scopes) (sym m.functions)
      (subst (λ (bs : List Block). EachMeaning (IsPlaced H.types bs G.functions) G.scopes) (sym m.blocks)
      (meaning_more (IsPlaced G.types G.blocks G.functions) (IsPlaced H.types G.blocks G.functions)
      (placed_stays G.types H.types m.grows m.declared.table.built G.blocks G.functions) G.scopes h.places)));
  blocks = λ b x e. block_stays G.types H.types m.grows m.declared.table.built x
      (h.blocks b x (subst (λ (bs : List Block). slice_get bs b ≡ Some x) m.blocks e));
}

pub env_mentioned : (G H : Env) → IsEnv G → Mentions G H → IsEnv H
env_mentioned G H h m = env_declares G H h (declares_mentions G H m)

pub covers_mentioned : (seen : List ℕ) (G H : Env) → Mentions G H → Covers seen G → Covers seen H
covers_mentioned seen G H m h =
    each_same (CanName H.blocks seen) G.scopes H.scopes m.names
    (subst (λ (bs : List Block). EachMeaning (CanName bs seen) G.scopes) (sym m.blocks) h)
