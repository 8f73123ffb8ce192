-- Environments stay known as their tables grow.
use Rattle.std.proofs.Common.{◌≡◌, ℕ, zero, suc, ◌+◌, ◌<◌, ◌≤◌, nat_eq, Bool, true, false, cond, List, [], ◌∷◌, ◌++◌}
use Rattle.ep_typing.proofs.Order.{at_ok}
use Rattle.std.proofs.Common.{length, find, Option, Some, None, Result, Ok, Err, refl, sym, ap, ◌∙◌, subst, arith}
use Rattle.std.specs.Prelude.{OnOk}
use Rattle.std.specs.Str.{bytes_eq}
use Rattle.std.proofs.lemmas.List.{length_push}
use Rattle.ep_int.specs.declared.types.IntType.{IntType}
use Rattle.ep_ast.specs.declared.refusals.Refusal.{Refusal}
use Rattle.ep_ast.specs.Expression as source
use Rattle.ep_ast.specs.Expression.{TypeWord, TypeName}
use Rattle.ep_ast.specs.Mark.{union_word}
use Rattle.ep_layout.specs.declared.types.Ty.{Ty}
use Rattle.ep_layout.specs.declared.types.Ty.TheVariants as rows
use Rattle.ep_layout.specs.Table.{Table, number_of, type_added, with_type, declared, is_union}
use Rattle.ep_layout.specs.SameTypes.{is_same_sign}
use Rattle.ep_typing.specs.declared.types.Base.{Base}
use Rattle.ep_typing.specs.declared.types.Base.TheVariants as bases
use Rattle.ep_typing.specs.declared.types.CType.{CType}
use Rattle.ep_typing.specs.Env.{Env, Scope, Meaning, variable, function, type_name, entry, first_of, look_up}
use Rattle.ep_typing.specs.Env.{look_up_tag, tag_in, with_tag}
use Rattle.ep_typing.specs.Results.{◌>>=◌}
use Rattle.ep_typing.specs.Types.{known_number, with_base, with_pointers, with_c_type, base_number, pointer_number}
use Rattle.ep_typing.specs.Names.{built_in_types, integer_of, is_whole, meant_tag, meant_type, mentioned_name}
use Rattle.ep_typing.specs.Names.{mentioned_tag, mentioned_word, mentioned_words, named_type, of_whole, with_type_of}
use Rattle.ep_typing.specs.Names.{words_type}
use Rattle.ep_scopes.specs.Known.{IsKnownBase, IsKnown, IsKnownMeaning, AreKnownNames, AreKnownTags, AreKnownScopes}
use Rattle.ep_scopes.specs.Known.{IsKnownEnv}

-- a table that has at least as many types and aggregates
pub record IsGreater (t u : Table) : Type 0 where
  pub types : length t.types ≤ length u.types
  pub aggregates : length t.aggregates ≤ length u.aggregates

base_stays : (t u : Table) → IsGreater t u → (b : Base) → IsKnownBase t b → IsKnownBase u b
base_stays t u g bases.Void h = tt
base_stays t u g (bases.Int i) h = tt
base_stays t u g (bases.Array n) h = omega (arith, g.types)
base_stays t u g (bases.Aggregate a) h = omega (arith, g.aggregates)

meaning_stays : (t u : Table) → IsGreater t u → (m : Meaning) → IsKnownMeaning t m → IsKnownMeaning u m
meaning_stays t u g (variable b c) h = base_stays t u g c.base h
meaning_stays t u g (function n) h = tt
meaning_stays t u g (type_name c) h = base_stays t u g c.base h

names_stay : (t u : Table) → IsGreater t u → (es : List (List ℕ × Meaning)) → AreKnownNames t es → AreKnownNames u es
names_stay t u g [] h = tt
names_stay t u g (e ∷ es) h = (meaning_stays t u g e.1 h.0, names_stay t u g es h.1)

tags_stay : (t u : Table) → IsGreater t u → (es : List (List ℕ × ℕ)) → AreKnownTags t es → AreKnownTags u es
tags_stay t u g [] h = tt
tags_stay t u g (e ∷ es) h = let k : e.1 < length t.aggregates = h.0 in (omega (arith, g.aggregates, k), tags_stay t u g es h.1)

pub scopes_stay : (t u : Table) → IsGreater t u → (ss : List Scope) → AreKnownScopes t ss → AreKnownScopes u ss
scopes_stay t u g [] h = tt
scopes_stay t u g (s ∷ ss) h = (names_stay t u g s.names h.0, (tags_stay t u g s.tags h.1.0, scopes_stay t u g ss h.1.1))

-- ---- tables that grow

pub greater_itself : (t : Table) → IsGreater t t
greater_itself t = record { types = omega arith; aggregates = omega arith }

pub greater_on : (t u v : Table) → IsGreater t u → IsGreater u v → IsGreater t v
greater_on t u v g h = record { types = omega (arith, g.types, h.types); aggregates = omega (arith, g.aggregates, h.aggregates) }

added_by : (t u : Table) (ty : Ty) (o : Option ℕ) → number_of t ty ≡ o → type_added t ty ≡ u → IsGreater t u
added_by t u ty None e h =
    let same : with_type t ty ≡ u = rw e at h in
    subst (IsGreater t) same (record { types = omega (arith, length_push t.types ty); aggregates = omega arith })
added_by t u ty (Some n) e h =
    let same : t ≡ u = rw e at h in
    subst (IsGreater t) same (greater_itself t)

pub added_greater : (t : Table) (ty : Ty) → IsGreater t (type_added t ty)
added_greater t ty = added_by t (type_added t ty) ty (number_of t ty) refl refl

pub base_greater : (t : Table) (b : Base) → IsGreater t (with_base t b)
base_greater t bases.Void = added_greater t rows.Void
base_greater t (bases.Int i) = added_greater t (rows.Int i)
base_greater t (bases.Array n) = greater_itself t
base_greater t (bases.Aggregate a) = added_greater t (rows.Aggregate a)

pub pointers_greater : (t : Table) (n k : ℕ) → IsGreater t (with_pointers t n k)
unfolding with_pointers
pointers_greater t n zero = greater_itself t
pointers_greater t n (suc k) =
    let u : Table = type_added t (rows.Ptr n) in
    greater_on t u (with_pointers u (known_number u (rows.Ptr n)) k) (added_greater t (rows.Ptr n))
    (pointers_greater u (known_number u (rows.Ptr n)) k)

pub type_greater : (t : Table) (c : CType) → IsGreater t (with_c_type t c)
type_greater t c =
    let u : Table = with_base t c.base in
    greater_on t u (with_pointers u (base_number u c.base) c.stars) (base_greater t c.base) (pointers_greater u (base_number u c.base) c.stars)

pub declared_greater : (t : Table) (tag : List ℕ) (is_union : Bool) → IsGreater t (declared t tag is_union)
declared_greater t tag is_union =
    record { types = omega arith; aggregates = omega (arith, length_push t.aggregates (record { tag = tag; is_union = is_union; members = None })) }

-- ---- what is found is known

found_name : (t : Table) (b : Bool) (m x : Meaning) (o : Option Meaning) → cond b (Some m) o ≡ Some x → IsKnownMeaning t m
    → (o ≡ Some x → IsKnownMeaning t x) → IsKnownMeaning t x
found_name t true m x o e h f = let same : m ≡ x = cc in subst (IsKnownMeaning t) same h
found_name t false m x o e h f = f e

entry_known : (t : Table) (n : List ℕ) (es : List (List ℕ × Meaning)) (x : Meaning) → AreKnownNames t es → entry n es ≡ Some x → IsKnownMeaning t x
entry_known t n [] x h e = absurd cc
entry_known t n (p ∷ es) x h e = found_name t (bytes_eq n p.0) p.1 x (entry n es) e h.0 (entry_known t n es x h.1)

first_known : (t : Table) (a b : Option Meaning) (x : Meaning) → first_of a b ≡ Some x → ((y : Meaning) → a ≡ Some y → IsKnownMeaning t y)
    → (b ≡ Some x → IsKnownMeaning t x) → IsKnownMeaning t x
first_known t (Some m) b x e f g = f x e
first_known t None b x e f g = g e

pub name_known : (t : Table) (n : List ℕ) (ss : List Scope) (x : Meaning) → AreKnownScopes t ss → look_up n ss ≡ Some x → IsKnownMeaning t x
name_known t n [] x h e = absurd cc
name_known t n (s ∷ ss) x h e =
    first_known t (entry n s.names) (look_up n ss) x e (λ y. entry_known t n s.names y h.0) (name_known t n ss x h.1.1)

found_tag : (t : Table) (b : Bool) (m x : ℕ) (o : Option ℕ) → cond b (Some m) o ≡ Some x → m < length t.aggregates
    → (o ≡ Some x → x < length t.aggregates) → x < length t.aggregates
found_tag t true m x o e h f = let same : m ≡ x = cc in subst (λ (k : ℕ). k < length t.aggregates) same h
found_tag t false m x o e h f = f e

pub tag_entry_known : (t : Table) (n : List ℕ) (es : List (List ℕ × ℕ)) (x : ℕ) → AreKnownTags t es → entry n es ≡ Some x → x < length t.aggregates
tag_entry_known t n [] x h e = absurd cc
tag_entry_known t n (p ∷ es) x h e = found_tag t (bytes_eq n p.0) p.1 x (entry n es) e h.0 (tag_entry_known t n es x h.1)

first_tag_known : (t : Table) (a b : Option ℕ) (x : ℕ) → first_of a b ≡ Some x → ((y : ℕ) → a ≡ Some y → y < length t.aggregates)
    → (b ≡ Some x → x < length t.aggregates) → x < length t.aggregates
first_tag_known t (Some m) b x e f g = f x e
first_tag_known t None b x e f g = g e

pub tag_known : (t : Table) (n : List ℕ) (ss : List Scope) (x : ℕ) → AreKnownScopes t ss → look_up_tag n ss ≡ Some x → x < length t.aggregates
tag_known t n [] x h e = absurd cc
tag_known t n (s ∷ ss) x h e =
    first_tag_known t (entry n s.tags) (look_up_tag n ss) x e (λ y. tag_entry_known t n s.tags y h.1.0) (tag_known t n ss x h.1.1)

-- ---- types of words are known

meant_known : (t : Table) (m : Option Meaning) (o : Option IntType) (c : CType) → ((x : Meaning) → m ≡ Some x → IsKnownMeaning t x)
    → meant_type m o ≡ Ok c → IsKnown t c
meant_known t (Some (variable b d)) o c f h = absurd cc
meant_known t (Some (function n)) o c f h = absurd cc
meant_known t (Some (type_name d)) o c f h = let same : d ≡ c = cc in subst (IsKnown t) same (f (type_name d) refl)
meant_known t None (Some i) c f h =
    let same : ◌≡◌ {A = CType} (record { base = bases.Int i; stars = 0 }) c = cc in subst (IsKnown t) same tt
meant_known t None None c f h = absurd cc

tagged_by : (t : Table) (a : ℕ) (b : Bool) (c : CType) → a < length t.aggregates
    → ◌≡◌ {A = Result CType ℕ} (cond b (Ok (record { base = bases.Aggregate a; stars = 0 })) (Err 31)) (Ok c) → IsKnown t c
tagged_by t a true c h e =
    let same : ◌≡◌ {A = CType} (record { base = bases.Aggregate a; stars = 0 }) c = cc in subst (IsKnown t) same h
tagged_by t a false c h e = absurd cc

meant_tag_known : (G : Env) (u : Bool) (o : Option ℕ) (c : CType) → ((a : ℕ) → o ≡ Some a → a < length G.types.aggregates)
    → meant_tag G u o ≡ Ok c → IsKnown G.types c
meant_tag_known G u (Some a) c f h = tagged_by G.types a (is_same_sign (is_union G.types a) u) c (f a refl) h
meant_tag_known G u None c f h = absurd cc

whole_known : (G : Env) (ws : List TypeWord) (o : Option TypeWord) (c : CType) → IsKnownEnv G → of_whole G ws o ≡ Ok c → IsKnown G.types c
whole_known G ws None c k h = let same : ◌≡◌ {A = CType} (record { base = bases.Int (integer_of G.types.model ws); stars = 0 }) c = cc in subst (IsKnown G.types) same tt
whole_known G ws (Some (source.word l w)) c k h =
    let same : ◌≡◌ {A = CType} (record { base = bases.Void; stars = 0 }) c = cc in subst (IsKnown G.types) same tt
whole_known G ws (Some (source.typedef_name l t)) c k h =
    meant_known G.types (look_up t G.scopes) (entry t (built_in_types G.types.model)) c (λ x. name_known G.types t G.scopes x k)
    (at_ok l (meant_type (look_up t G.scopes) (entry t (built_in_types G.types.model))) c h)
whole_known G ws (Some (source.tagged l w t)) c k h =
    meant_tag_known G (nat_eq w union_word) (look_up_tag t G.scopes) c (λ a. tag_known G.types t G.scopes a k)
    (at_ok l (meant_tag G (nat_eq w union_word) (look_up_tag t G.scopes)) c h)

starred : (t : Table) (r : Result CType Refusal) (n : ℕ) (c : CType) → ((d : CType) → r ≡ Ok d → IsKnown t d)
    → (r >>= (λ d. Ok (record { base = d.base; stars = d.stars + n }))) ≡ Ok c → IsKnown t c
starred t (Ok d) n c f h =
    let same : ◌≡◌ {A = CType} (record { base = d.base; stars = d.stars + n }) c = cc in subst (IsKnown t) same (f d refl)
starred t (Err e) n c f h = absurd cc

pub named_known : (G : Env) (n : TypeName) (c : CType) → IsKnownEnv G → named_type G n ≡ Ok c → IsKnown G.types c
unfolding named_type words_type
named_known G n c k h =
    starred G.types (of_whole G n.words (find is_whole n.words)) (length n.stars) c (λ d. whole_known G n.words (find is_whole n.words) d k) h

-- ---- mentions

tag_in_known : (t : Table) (ss : List Scope) (n : List ℕ) (a : ℕ) → a < length t.aggregates → AreKnownScopes t ss → AreKnownScopes t (tag_in ss n a)
tag_in_known t [] n a lt h = tt
tag_in_known t (s ∷ ss) n a lt h = (h.0, (pushed s.tags h.1.0, h.1.1))
  where
    pushed : (es : List (List ℕ × ℕ)) → AreKnownTags t es → AreKnownTags t (es ++ (n, a) ∷ [])
    pushed [] g = (lt, tt)
    pushed (e ∷ es) g = (g.0, pushed es g.1)

pub tag_stays : (G : Env) (n : List ℕ) (u : Bool) → IsKnownEnv G → IsKnownEnv (with_tag G n u)
tag_stays G n u k =
    tag_in_known (declared G.types n u) G.scopes n (length G.types.aggregates) (omega (arith, length_push G.types.aggregates (record { tag = n; is_union = u; members = None })))
    (scopes_stay G.types (declared G.types n u) (declared_greater G.types n u) G.scopes k)

tag_mentioned : (G : Env) (n : List ℕ) (u : Bool) (o : Option ℕ) → IsKnownEnv G → IsKnownEnv (mentioned_tag G n u o)
tag_mentioned G n u None k = tag_stays G n u k
tag_mentioned G n u (Some a) k = k

word_known : (G : Env) (w : TypeWord) → IsKnownEnv G → IsKnownEnv (mentioned_word G w)
word_known G (source.word l c) k = k
word_known G (source.typedef_name l t) k = k
word_known G (source.tagged l c t) k = tag_mentioned G t (nat_eq c union_word) (look_up_tag t G.scopes) k

pub words_known : (G : Env) (ws : List TypeWord) → IsKnownEnv G → IsKnownEnv (mentioned_words G ws)
words_known G [] k = k
words_known G (w ∷ ws) k = words_known (mentioned_word G w) ws (word_known G w k)

with_known : (G : Env) (r : Result CType Refusal) → IsKnownEnv G → IsKnownEnv (with_type_of G r)
with_known G (Ok c) k = scopes_stay G.types (with_c_type G.types c) (type_greater G.types c) G.scopes k
with_known G (Err e) k = k

pub name_mentioned : (G : Env) (n : TypeName) → IsKnownEnv G → IsKnownEnv (mentioned_name G n)
unfolding mentioned_name
name_mentioned G n k = with_known (mentioned_words G n.words) (named_type (mentioned_words G n.words) n) (words_known G n.words k)

pub no_pointers : (t : Table) (n k : ℕ) (all : Table) → k ≡ 0 → with_pointers t n k ≡ all → t ≡ all
unfolding with_pointers
no_pointers t n k all e h = sym (ap (with_pointers t n) e) ∙ h

pub one_pointer : (t u : Table) (n m k j : ℕ) (all : Table) → k ≡ suc j → u ≡ type_added t (rows.Ptr n) → m ≡ known_number u (rows.Ptr n)
    → with_pointers t n k ≡ all → with_pointers u m j ≡ all
unfolding with_pointers
one_pointer t u n m k j all e g f h =
    ap (λ (x : ℕ). with_pointers u x j) f ∙ ap (λ (v : Table). with_pointers v (known_number v (rows.Ptr n)) j) g
    ∙ sym (ap (with_pointers t n) e) ∙ h

-- ---- the number of a type that is there

pub no_stars : (t : Table) (n k all : ℕ) → k ≡ 0 → pointer_number t n k ≡ all → n ≡ all
unfolding pointer_number
no_stars t n k all e h = sym (ap (pointer_number t n) e) ∙ h

pub one_star : (t : Table) (n m k j all : ℕ) → k ≡ suc j → m ≡ known_number t (rows.Ptr n) → pointer_number t n k ≡ all
    → pointer_number t m j ≡ all
unfolding pointer_number
one_star t n m k j all e f h = ap (λ (x : ℕ). pointer_number t x j) f ∙ sym (ap (pointer_number t n) e) ∙ h

pub on_known : {T E : Type 0} (r : Result T E) (t u v : Table) (ss : List Scope) → OnOk r (u ≡ v) → IsGreater t v → AreKnownScopes t ss
    → OnOk r (AreKnownScopes u ss)
on_known (Ok x) t u v ss e g k = subst (λ (w : Table). AreKnownScopes w ss) (sym e) (scopes_stay t v g ss k)
on_known (Err x) t u v ss e g k = tt
