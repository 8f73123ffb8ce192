-- Functions by their names: what is declared has its name's number, and keeps its type.
use Rattle.std.proofs.Common.{◌≡◌, ℕ, ◌<◌, ◌≤◌, Bool, true, false, true≢false, not, ◌&&◌, if◌then◌else◌}
use Rattle.ep_typing.specs.SameTypes.{same_types}
use Rattle.ep_well_formed_laws.proofs.Scopes.{entry_front}
use Rattle.ep_int.proofs.Basics.{bytes_eq-equal, and_false-right}
use Rattle.std.proofs.lemmas.Bool.{not-false}
use Rattle.std.proofs.lemmas.Bool.{or_parts}
use Rattle.std.proofs.Common.{List, [], ◌∷◌, ◌++◌, length, slice_get, Option, Some, None, is_some, unwrap_or}
use Rattle.std.proofs.Common.{bytes_eq, Ok, refl, sym, ap, ◌∙◌, subst, ◌⊎◌, inl, inr, arith}
use Rattle.std.proofs.lemmas.Bool.{and_parts}
use Rattle.ep_int.specs.Memory.{contains}
use Rattle.ep_layout.proofs.Options.{get_last, get_push}
use Rattle.ep_layout.proofs.Positions.{position_push}
use Rattle.ep_core.proofs.Sorts.{never}
use Rattle.ep_typing.specs.declared.types.Base.TheVariants as bases
use Rattle.ep_typing.specs.declared.types.CType.{CType}
use Rattle.ep_typing.specs.Calls.{signature}
use Rattle.ep_typing.specs.Parts.{built_in}
use Rattle.ep_typing.specs.Types.{is_same}
use Rattle.ep_typing.specs.Env as env
use Rattle.ep_typing.specs.Env.{Env, Meaning, Scope, Signature, entry}
use Rattle.ep_elaboration.specs.Declarators.{name_in, with_name}
use Rattle.ep_elaboration.specs.Functions.{are_same, file_names, fits_main, function_declared, is_same_signature}
use Rattle.ep_elaboration.specs.Functions.{is_unlike, named_function, number_of_function, numbered_function}
use Rattle.ep_elaboration.specs.Functions.{stands_against}
use Rattle.ep_elaboration.specs.Statements.{innermost}
use Rattle.ep_well_formed_laws.specs.Environments.{HasScope}
use Rattle.ep_well_formed_laws.proofs.Scopes.{HaveNames}
use Rattle.ep_well_formed_laws.proofs.Steps.{nothing_more}
use Rattle.ep_well_formed_laws.proofs.Tests.{given, unless}
use Rattle.ep_well_formed_laws.proofs.CallNames.{NameFits, NamesFit, ScopesFit, bytes_same, entry_name_fits}
use Rattle.ep_well_formed_laws.proofs.Places.{place_front, place_is}

-- ---- types that are the same

pub same_all : (cs ds : List CType) → are_same cs ds ≡ true → cs ≡ ds
same_all [] [] h = refl
same_all [] (d ∷ ds) h = never h
same_all (c ∷ cs) [] h = never h
same_all (c ∷ cs) (d ∷ ds) h =
    let p = and_parts (is_same c d) (are_same cs ds) h in
    ap (λ (x : CType). x ∷ cs) (same_types c d p.0) ∙ ap (λ (xs : List CType). d ∷ xs) (same_all cs ds p.1)

pub record SameTypes (s u : Signature) : Type 0 where
  pub params : s.params ≡ u.params
  pub result : s.result ≡ u.result

pub same_signature : (s u : Signature) → is_same_signature s u ≡ true → SameTypes s u
same_signature s u h =
    let p = and_parts (is_same s.result u.result) (are_same s.params u.params) h in
    record { params = same_all s.params u.params p.1; result = same_types s.result u.result p.0 }

-- ---- numbers of functions

-- each function has the number that its name has, and a main is as it has to be
pub record AreNumbered (fs : List Signature) : Type 0 where
  pub unique : (k : ℕ) (r : Signature) → slice_get fs k ≡ Some r → number_of_function fs r.name ≡ Some k
  pub mains : (k : ℕ) (r : Signature) → slice_get fs k ≡ Some r → fits_main r ≡ true

pub number_front : (fs more : List Signature) (t : List ℕ) (n : ℕ) → number_of_function fs t ≡ Some n
    → number_of_function (fs ++ more) t ≡ Some n
number_front fs more t n e = place_front (λ (s : Signature). bytes_eq t s.name) fs more n e

pub number_is : (fs : List Signature) (t : List ℕ) (n : ℕ) → number_of_function fs t ≡ Some n
    → (r : Signature) × (slice_get fs n ≡ Some r) × (t ≡ r.name)
number_is fs t n e =
    let p = place_is (λ (s : Signature). bytes_eq t s.name) fs n e in (p.0, p.1, bytes_eq-equal t p.0.name p.2)

name_front : (fs more : List Signature) (t : List ℕ) (m : Meaning) → NameFits fs t m → NameFits (fs ++ more) t m
name_front fs more t (env.variable b c) h = tt
name_front fs more t (env.function n) h = (number_front fs more t n h.0, h.1)
name_front fs more t (env.type_name c) h = tt

names_front : (fs more : List Signature) (xs : List (List ℕ × Meaning)) → NamesFit fs xs → NamesFit (fs ++ more) xs
names_front fs more [] h = tt
names_front fs more (x ∷ xs) h = (name_front fs more x.0 x.1 h.0, names_front fs more xs h.1)

pub scopes_front : (fs more : List Signature) (ss : List Scope) → ScopesFit fs ss → ScopesFit (fs ++ more) ss
scopes_front fs more [] h = tt
scopes_front fs more (s ∷ ss) h = (names_front fs more s.names h.0, scopes_front fs more ss h.1)

names_last : (fs : List Signature) (xs : List (List ℕ × Meaning)) (t : List ℕ) (m : Meaning) → NamesFit fs xs
    → NameFits fs t m
    → NamesFit fs (xs ++ (t, m) ∷ [])
names_last fs [] t m h k = (k, tt)
names_last fs (x ∷ xs) t m h k = (h.0, names_last fs xs t m h.1 k)

pub scopes_last : (fs : List Signature) (ss : List Scope) (t : List ℕ) (m : Meaning) → ScopesFit fs ss → NameFits fs t m
    → ScopesFit fs (name_in ss t m)
scopes_last fs [] t m h k = tt
scopes_last fs (s ∷ ss) t m h k = (names_last fs s.names t m h.0 k, h.1)

numbered_more : (fs : List Signature) (s : Signature) → AreNumbered fs → number_of_function fs s.name ≡ None
    → fits_main s ≡ true
    → AreNumbered (fs ++ s ∷ [])
numbered_more fs s h n m = record {
  unique = λ k r e. elim (get_push fs s r k e) [
    | inl old ↦ number_front fs (s ∷ []) r.name k (h.unique k r old)
    | inr p ↦ subst (λ (u : Signature). number_of_function (fs ++ s ∷ []) u.name ≡ Some k) p.1
        (position_push (λ (u : Signature). bytes_eq s.name u.name) fs s n (bytes_same s.name s.name refl)
        ∙ ap (λ (j : ℕ). Some j) (sym p.0))
  ];
  mains = λ k r e. elim (get_push fs s r k e) [
    | inl old ↦ h.mains k r old
    | inr p ↦ subst (λ (u : Signature). fits_main u ≡ true) p.1 m
  ];
}

-- ---- names of the file

pub entry_last : {A : Type 0} (t : List ℕ) (xs : List (List ℕ × A)) (m : A) → entry t xs ≡ None
    → entry t (xs ++ (t, m) ∷ []) ≡ Some m
entry_last t [] m e = ap (λ (b : Bool). if b then Some m else None) (bytes_same t t refl)
entry_last t (x ∷ xs) m e = by (bytes_eq t x.0) e (entry_last t xs m)
  where
    by : (b : Bool) → (if b then Some x.1 else entry t xs) ≡ None
        → (entry t xs ≡ None → entry t (xs ++ (t, m) ∷ []) ≡ Some m)
        → (if b then Some x.1 else entry t (xs ++ (t, m) ∷ [])) ≡ Some m
    by true q f = absurd cc
    by false q f = f q

-- names that stay what they are in the innermost scope
abbrev pub StayNamed : Env → Env → Type 0
StayNamed G H = (t : List ℕ) (m : Meaning) → entry t (file_names G) ≡ Some m → entry t (file_names H) ≡ Some m

pub same_file_names : (G H : Env) → HaveNames G.scopes H.scopes → StayNamed G H
same_file_names G H n t m e = by G.scopes H.scopes n e
  where
    first : List Scope → Scope
    first ss = innermost (record G { scopes = ss })

    by : (ss us : List Scope) → HaveNames ss us → entry t (first ss).names ≡ Some m
        → entry t (innermost (record H { scopes = us })).names ≡ Some m
    by [] [] k q = absurd cc
    by [] (u ∷ us) k q = absurd k
    by (s ∷ ss) [] k q = absurd k
    by (s ∷ ss) (u ∷ us) k q = subst (λ (xs : List (List ℕ × Meaning)). entry t xs ≡ Some m) k.0 q

-- ---- a function that is declared

-- with its number, behind which its name means it
pub record IsDeclaredAs (G : Env) (ds : List ℕ) (with_body : Bool) (s : Signature) (n : ℕ × Env) : Type 0 where
  pub more : List Signature
  pub functions : n.1.functions ≡ G.functions ++ more
  pub names : (k : ℕ) (r : Signature) → slice_get n.1.functions k ≡ Some r
      → (slice_get G.functions k ≡ Some r) ⊎ (r.name ≡ s.name)
  pub is : Signature
  pub here : slice_get n.1.functions n.0 ≡ Some is
  pub name : s.name ≡ is.name
  pub types : SameTypes is s
  pub numbered : AreNumbered n.1.functions
  pub fit : ScopesFit n.1.functions n.1.scopes
  pub stays : StayNamed G n.1
  pub named : entry s.name (file_names n.1) ≡ Some (env.function n.0)
  pub file : (u : Scope) → G.scopes ≡ u ∷ [] → (v : Scope) × (n.1.scopes ≡ v ∷ [])
  pub fresh : with_body ≡ true → (entry s.name (file_names G) ≡ None → number_of_function G.functions s.name ≡ None)
      → ((k : ℕ) → contains k ds ≡ true → k < length G.functions) → contains n.0 ds ≡ false

-- the signature of a number
signature_is : (G : Env) (k : ℕ) (r : Signature) → slice_get G.functions k ≡ Some r → signature G k ≡ r
signature_is G k r e = ap (λ (o : Option Signature). unwrap_or o (signature (record G { functions = [] }) 0)) e

named_file : (G : Env) (t : List ℕ) (m : Meaning) → HasScope G → entry t (file_names G) ≡ None
    → entry t (file_names (with_name G t m)) ≡ Some m
named_file G t m s e = by G.scopes s.0 s.1 s.2 e
  where
    by : (ss : List Scope) (u : Scope) (us : List Scope) → ss ≡ u ∷ us
        → entry t (innermost (record G { scopes = ss })).names ≡ None
        → entry t (innermost (record G { scopes = name_in ss t m })).names ≡ Some m
    by [] u us q k = absurd cc
    by (v ∷ vs) u us q k = entry_last t v.names m k

stays_file : (G : Env) (t : List ℕ) (m : Meaning) → StayNamed G (with_name G t m)
stays_file G t m u x e = by G.scopes e
  where
    by : (ss : List Scope) → entry u (innermost (record G { scopes = ss })).names ≡ Some x
        → entry u (innermost (record G { scopes = name_in ss t m })).names ≡ Some x
    by [] k = absurd cc
    by (v ∷ vs) k = entry_front u v.names ((t, m) ∷ []) x k

named_scope : (G : Env) (t : List ℕ) (m : Meaning) (u : Scope) → G.scopes ≡ u ∷ []
    → (v : Scope) × ((with_name G t m).scopes ≡ v ∷ [])
named_scope G t m u e = (_, ap (λ (ss : List Scope). name_in ss t m) e)

contains_not : (k : ℕ) (ds : List ℕ) (n : ℕ) → ((j : ℕ) → contains j ds ≡ true → j < n) → n ≤ k → contains k ds ≡ false
contains_not k ds n f l = by (contains k ds) refl
  where
    by : (b : Bool) → contains k ds ≡ b → b ≡ false
    by true q = absurd (let m : k < n = f k q in omega (arith, l, m))
    by false q = refl

module _ (G : Env) (ds : List ℕ) (wb : Bool) (s : Signature) (scope : HasScope G) (numbered : AreNumbered G.functions)
    (fit : ScopesFit G.functions G.scopes) (main : fits_main s ≡ true) where
  -- a name that means a function
  known_function : (k : ℕ) → entry s.name (file_names G) ≡ Some (env.function k)
      → stands_against G ds wb s (Some (env.function k)) ≡ false → (o : Option ℕ)
      → number_of_function G.functions s.name ≡ o
      → IsDeclaredAs G ds wb s (named_function s (Some (env.function k)) (numbered_function G s o))
  known_function k e a o q =
      let f = entry_name_fits G.functions s.name (file_names G) (env.function k) (file_fit G.scopes fit) e in
      let o_is : Some k ≡ o = sym f.0 ∙ q in
      let r = number_is G.functions s.name k f.0 in
      let p = or_parts (not (is_same_signature (signature G k) s)) (wb && contains k ds) a in
      let same : is_same_signature r.0 s ≡ true =
      subst (λ (u : Signature). is_same_signature u s ≡ true) (signature_is G k r.0 r.1) (not-false _ p.0) in
      subst (λ (x : Option ℕ). IsDeclaredAs G ds wb s
      (named_function s (Some (env.function k)) (numbered_function G s x))) o_is
      (record {
        more = [];
        functions = nothing_more G.functions;
        names = λ j u w. inl w;
        is = r.0;
        here = r.1;
        name = r.2;
        types = same_signature r.0 s same;
        numbered = numbered;
        fit = fit;
        stays = λ t m w. w;
        named = e;
        file = λ u w. (u, w);
        fresh = λ w n l. and_false-right wb (contains k ds) p.1 w;
      })
    where
      file_fit : (ss : List Scope) → ScopesFit G.functions ss
          → NamesFit G.functions (innermost (record G { scopes = ss })).names
      file_fit [] h = tt
      file_fit (u ∷ us) h = h.0

  -- a name that isn't seen, of a function that has a number
  known_number : (k : ℕ) → entry s.name (file_names G) ≡ None → stands_against G ds wb s None ≡ false
      → number_of_function G.functions s.name ≡ Some k
      → IsDeclaredAs G ds wb s (named_function s None (k, G))
  known_number k e a q =
      let r = number_is G.functions s.name k q in
      let p = or_parts (is_some (entry s.name built_in)) (is_unlike G s (number_of_function G.functions s.name)) a in
      let unlike : not (is_same_signature (signature G k) s) ≡ false =
      subst (λ (o : Option ℕ). is_unlike G s o ≡ false) q p.1 in
      let same : is_same_signature r.0 s ≡ true =
      subst (λ (u : Signature). is_same_signature u s ≡ true) (signature_is G k r.0 r.1) (not-false _ unlike) in
      record {
        more = [];
        functions = nothing_more G.functions;
        names = λ j u w. inl w;
        is = r.0;
        here = r.1;
        name = r.2;
        types = same_signature r.0 s same;
        numbered = numbered;
        fit = scopes_last G.functions G.scopes s.name (env.function k) fit (q, p.0);
        stays = stays_file G s.name (env.function k);
        named = named_file G s.name (env.function k) scope e;
        file = λ u w. named_scope G s.name (env.function k) u w;
        fresh = λ w n l. absurd (let z : None ≡ Some k = sym (n e) ∙ q in cc);
      }

  -- a new function
  new_function : entry s.name (file_names G) ≡ None → stands_against G ds wb s None ≡ false
      → number_of_function G.functions s.name ≡ None
      → IsDeclaredAs G ds wb s (named_function s None (numbered_function G s None))
  new_function e a q =
      let k = length G.functions in
      let I : Env = record G { functions = G.functions ++ s ∷ [] } in
      let p = or_parts (is_some (entry s.name built_in)) (is_unlike G s (number_of_function G.functions s.name)) a in
      let number : number_of_function (G.functions ++ s ∷ []) s.name ≡ Some k =
      position_push (λ (u : Signature). bytes_eq s.name u.name) G.functions s q (bytes_same s.name s.name refl) in
      record {
        more = s ∷ [];
        functions = refl;
        names = λ j u w. elim (get_push G.functions s u j w) [
          | inl old ↦ inl old
          | inr z ↦ inr (ap (λ (x : Signature). x.name) (sym z.1))
        ];
        is = s;
        here = get_last G.functions s;
        name = refl;
        types = record { params = refl; result = refl };
        numbered = numbered_more G.functions s numbered q main;
        fit = scopes_last (G.functions ++ s ∷ []) G.scopes s.name (env.function k)
            (scopes_front G.functions (s ∷ []) G.scopes fit) (number, p.0);
        stays = stays_file I s.name (env.function k);
        named = named_file I s.name (env.function k) scope e;
        file = λ u w. named_scope I s.name (env.function k) u w;
        fresh = λ w n l. contains_not k ds (length G.functions) l (omega arith);
      }

pub declared_as : (G : Env) (ds : List ℕ) (wb : Bool) (s : Signature) (n : ℕ × Env) → HasScope G
    → AreNumbered G.functions
    → ScopesFit G.functions G.scopes → function_declared G ds wb s ≡ Ok n → IsDeclaredAs G ds wb s n
unfolding function_declared
declared_as G ds wb s n scope numbered fit e =
    let x = unless (stands_against G ds wb s (entry s.name (file_names G))) 31 _ n e in
    let y = given (fits_main s) _ n 32 x.1 in
    subst (IsDeclaredAs G ds wb s) y.1
    (by (entry s.name (file_names G)) (number_of_function G.functions s.name) refl refl x.0 y.0)
  where
    by : (o : Option Meaning) (q : Option ℕ) → entry s.name (file_names G) ≡ o
        → number_of_function G.functions s.name ≡ q
        → stands_against G ds wb s o ≡ false → fits_main s ≡ true
        → IsDeclaredAs G ds wb s (named_function s o (numbered_function G s q))
    by (Some (env.function k)) q i j a m = known_function G ds wb s scope numbered fit m k i a q j
    by (Some (env.variable b c)) q i j a m = absurd (true≢false a)
    by (Some (env.type_name c)) q i j a m = absurd (true≢false a)
    by None (Some k) i j a m = known_number G ds wb s scope numbered fit m k i a j
    by None None i j a m = new_function G ds wb s scope numbered fit m i a j
