-- Functions: their heads, their blocks and their bodies.
use Rattle.std.proofs.Common.{◌≡◌, ℕ, suc, ◌+◌, ◌<◌, Bool, true, false, List, [], ◌∷◌, ◌++◌, length, map, slice_get}
use Rattle.ep_core.proofs.Tables.{more_types}
use Rattle.std.proofs.lemmas.Bool.{or_cases}
use Rattle.std.proofs.lemmas.Bool.{or_left, or_right}
use Rattle.std.proofs.Common.{option_to_list, Option, Ok, refl, sym, ap, ◌∙◌, subst, ◌⊎◌, inl, inr, arith}
use Rattle.ep_int.specs.Memory.{contains}
use Rattle.ep_ast.specs.Statement.{Function, Parts}
use Rattle.ep_layout.specs.Table.{Grows, Table}
use Rattle.ep_core.specs.Program.{Block}
use Rattle.ep_core.specs.Exec.{first_of}
use Rattle.ep_core.specs.Runs.{is_global}
use Rattle.ep_core.specs.WellFormed.{scoped}
use Rattle.ep_typing.specs.declared.types.CType.{CType}
use Rattle.ep_typing.specs.Types.{is_void, void_type}
use Rattle.ep_typing.specs.Env as env
use Rattle.ep_typing.specs.Env.{Env, Meaning, Scope, Signature}
use Rattle.ep_elaboration.specs.Calls.{Stand, stands_in_parts}
use Rattle.ep_elaboration.specs.Declarations.{Line}
use Rattle.ep_elaboration.specs.Functions.{Headed, behind_result, body_env, function_declared, numbered_from}
use Rattle.ep_elaboration.specs.Functions.{own_block, result_at, results, signature_of}
use Rattle.ep_elaboration.specs.Statements.{blocks_behind, blocks_of, innermost, left, outer, to_core}
use Rattle.ep_elaboration.specs.StatementRules.{MeansParts}
use Rattle.ep_well_formed_laws.specs.Environments.{ArePassed, CanName, Covers, EachMeaning, EachName, EachOf, EachTag}
use Rattle.ep_well_formed_laws.specs.Environments.{IsEnv, IsPassed, IsTyped}
use Rattle.ep_well_formed_laws.specs.Statements.{IsResultOf, StmtsFit}
use Rattle.ep_well_formed_laws.proofs.DefinedFunctions.{behind_head, frame_covers, function_comes, globals_later}
use Rattle.ep_well_formed_laws.proofs.DefinedFunctions.{locals_are}
use Rattle.ep_well_formed_laws.proofs.Heads.{HeadComes, IsParamName}
use Rattle.ep_well_formed_laws.proofs.Lines.{parts_fit}
use Rattle.ep_well_formed_laws.proofs.Scopes.{HaveNames, each_same, meaning_more}
use Rattle.ep_well_formed_laws.proofs.Steps.{env_left}
use Rattle.ep_well_formed_laws.proofs.Counts.{Lists, below, count, lists_one}
use Rattle.ep_well_formed_laws.proofs.CallNames.{CallsTo, EachCall, NameFits, NamesFit, ScopesFit}
use Rattle.ep_well_formed_laws.proofs.FunctionNames.{AreNumbered}
use Rattle.ep_well_formed_laws.proofs.Walks.{AreLocal, LocalCome, NamesCome}
use Rattle.ep_well_formed_laws.proofs.WalkedLines.{parts_walk}

-- ---- environments at file scope

pub record AtFile (G : Env) : Type 0 where
  pub env : IsEnv G
  pub covers : Covers [] G
  pub scope : Scope
  pub file : G.scopes ≡ scope ∷ []
  pub numbered : AreNumbered G.functions
  pub fit : ScopesFit G.functions G.scopes

pub one_scope : (ss us : List Scope) (s : Scope) → HaveNames ss us → ss ≡ s ∷ [] → (u : Scope) × (us ≡ u ∷ [])
one_scope [] us s n e = absurd cc
one_scope (t ∷ []) [] s n e = absurd n
one_scope (t ∷ []) (u ∷ []) s n e = (u, refl)
one_scope (t ∷ []) (u ∷ v ∷ us) s n e = absurd n.1
one_scope (t ∷ r ∷ ss) us s n e = absurd cc

-- ---- bodies

-- what a body is over: its parameters innermost
pub record BodyStands (G K : Env) (b : ℕ) (h : Headed) (inner : Scope) : Type 0 where
  pub env : IsEnv K
  pub grows : Grows G.types K.types
  pub blocks : K.blocks ≡ G.blocks
  pub typed : EachName (IsTyped K.types) inner.names
  pub tags : EachOf (λ a. a < length K.types.aggregates) inner.tags
  pub named : EachName (IsParamName (behind_result b h.result) h.params) inner.names
  pub passed : ArePassed K.types h.params
  pub result : (h.result ≡ void_type) ⊎ IsPassed K.types h.result
  pub some : 0 < length K.types.types
  pub covers : Covers [] K

pub body_stands : (G : Env) (b : ℕ) (ds : List ℕ) (f : Function) (x : Headed × Env) (n : ℕ × Env) → IsEnv G
    → Covers [] G
    → HeadComes G x.1 b x.0 → function_declared (left x.1) ds true (signature_of f.head x.0) ≡ Ok n
    → BodyStands G n.1 b x.0 (innermost x.1)
body_stands G b ds f x n h c k e =
    let R = x.1 in
    let L = left R in
    let l = behind_head G R b x.0 h k in
    let fc = function_comes L ds true (signature_of f.head x.0) n l
    (record { params = k.passed; result = k.result }) e in
    let i : k.inner ≡ innermost R = sym (rw k.is refl) in
    let o : outer R.scopes ≡ k.scopes = ap outer k.is in
    let typed = (subst (EachMeaning (IsTyped R.types)) k.is k.declared.names).0 in
    let tags = (subst (EachTag (λ a. a < length R.types.aggregates)) k.is k.declared.tags).0 in
    record {
      env = fc.env;
      grows = subst (Grows G.types) (sym fc.types) k.grows;
      blocks = fc.blocks ∙ k.blocks;
      typed = subst (λ (t : Table). EachName (IsTyped t) (innermost R).names) (sym fc.types)
          (subst (λ (s : Scope). EachName (IsTyped R.types) s.names) i typed);
      tags = subst (λ (t : Table). EachOf (λ a. a < length t.aggregates) (innermost R).tags) (sym fc.types)
          (subst (λ (s : Scope). EachOf (λ a. a < length R.types.aggregates) s.tags) i tags);
      named = subst (λ (s : Scope). EachName (IsParamName (behind_result b x.0.result) x.0.params) s.names) i k.named;
      passed = subst (λ (t : Table). ArePassed t x.0.params) (sym fc.types) k.passed;
      result = subst (λ (t : Table). (x.0.result ≡ void_type) ⊎ IsPassed t x.0.result) (sym fc.types) k.result;
      some = subst (λ (t : Table). 0 < length t.types) (sym fc.types) k.some;
      covers = fc.names (subst (EachMeaning (CanName R.blocks [])) (sym o)
          (each_same (CanName R.blocks []) G.scopes k.scopes k.outer
          (subst (λ (ys : List Block). EachMeaning (CanName ys []) G.scopes) (sym k.blocks) c)));
    }

-- ---- names of a body

come_scopes : (xs : List (List ℕ × Meaning)) (i : Scope) (ks us : List Scope) → NamesCome xs (i ∷ ks) us
    → (s : Scope) × (ss : List Scope) × (us ≡ s ∷ ss) × (i.names ++ xs ≡ s.names) × HaveNames ks ss
come_scopes xs i ks [] n = absurd n
come_scopes xs i ks (u ∷ us) n = (u, us, refl, n.0, n.1)

params_fit : (fs : List Signature) (b : ℕ) (cs : List CType) (xs : List (List ℕ × Meaning))
    → EachName (IsParamName b cs) xs
    → NamesFit fs xs
params_fit fs b cs [] h = tt
params_fit fs b cs (x ∷ xs) h = (here x.0 x.1 h.0, params_fit fs b cs xs h.1)
  where
    here : (t : List ℕ) (m : Meaning) → IsParamName b cs m → NameFits fs t m
    here t (env.variable k c) p = tt
    here t (env.function n) p = absurd p
    here t (env.type_name c) p = absurd p

-- what can be named by some blocks can be named by more
abbrev pub AllIn : List ℕ → List ℕ → Type 0
AllIn seen wider = (b : ℕ) → contains b seen ≡ true → contains b wider ≡ true

named_wider : (bs : List Block) (seen wider : List ℕ) → AllIn seen wider → (m : Meaning) → CanName bs seen m
    → CanName bs wider m
named_wider bs seen wider f (env.variable b c) h = elim (or_cases (is_global (slice_get bs b)) (contains b seen) h) [
  | inl g ↦ or_left _ _ g
  | inr g ↦ or_right (is_global (slice_get bs b)) _ (f b g)
]
named_wider bs seen wider f (env.function n) h = tt
named_wider bs seen wider f (env.type_name c) h = tt

pub covers_wider : (bs : List Block) (seen wider : List ℕ) (ss : List Scope) → AllIn seen wider
    → EachMeaning (CanName bs seen) ss
    → EachMeaning (CanName bs wider) ss
covers_wider bs seen wider ss f h =
    meaning_more (CanName bs seen) (CanName bs wider) (named_wider bs seen wider f) ss h

-- a body over its parameters, whose blocks have the numbers from this one on
pub record BodyWalks (fs : List Signature) (K A : Env) (b : ℕ) (cs : List CType) (names : ℕ) (r : Option ℕ)
    (ls : List Line)
    (st : List Stand) : Type 0 where
  pub env : IsEnv (left A)
  pub covers : Covers [] (left A)
  pub names_stay : HaveNames K.scopes (left A).scopes
  pub grows : Grows K.types A.types
  pub some : 0 < length A.types.types
  pub blocks : LocalCome K.blocks A.blocks
  pub functions : A.functions ≡ K.functions
  pub fits : (seen : List ℕ) → AllIn (first_of (numbered_from b cs) ++ blocks_behind names A) seen
      → StmtsFit A.types A.blocks A.functions r (to_core ls) seen false
  pub lists : (c : ℕ) → count c (blocks_behind names A) + count c (scoped (to_core ls)) + below (length K.blocks) c
      ≡ below (length A.blocks) c
  pub calls : EachCall (λ k. CallsTo fs k st) (to_core ls)

pub body_walks : (K : Env) (round : ℕ) (result : CType) (r : Option ℕ) (inner : Scope) (b : ℕ) (cs : List CType)
    (ps : Parts)
    (a : List Line × Env) → IsEnv (body_env K inner) → Covers [] K → EachName (IsParamName b cs) inner.names
    → 0 < length K.types.types → IsResultOf K.types result r → ScopesFit K.functions K.scopes
    → MeansParts (body_env K inner) result false ps a
    → BodyWalks K.functions K a.1 b cs (length inner.names) r a.0 (stands_in_parts round ps)
body_walks K round result r inner b cs ps a h c n some is fit p =
    let B = body_env K inner in
    let A = a.1 in
    let q = parts_fit B result r false ps a
    (record { env = h; scope = (inner, K.scopes, refl); some = some; result_is = is }) p in
    let w = parts_walk K.functions B round result false ps a (inner, K.scopes, refl) p in
    let g = come_scopes w.own inner K.scopes A.scopes w.names in
    let o : outer A.scopes ≡ g.1 = ap outer g.2 in
    let locals = locals_are A (length inner.names) g.0 g.1 w.own inner.names g.2 g.3 refl in
    let frame : List ℕ = first_of (numbered_from b cs) ++ blocks_of w.own in
    let frame_is : first_of (numbered_from b cs) ++ blocks_behind (length inner.names) A ≡ frame =
    ap (λ (l : List ℕ). first_of (numbered_from b cs) ++ l) locals in
    let covered = subst (EachMeaning (CanName A.blocks frame)) (sym g.2)
    (frame_covers A.blocks K.blocks q.follows.more b cs inner g.0 K.scopes g.1 w.own q.follows.blocks g.3 g.4 n c) in
    record {
      env = env_left A q.follows.env;
      covers = subst (EachMeaning (CanName A.blocks [])) (sym o)
          (each_same (CanName A.blocks []) K.scopes g.1 g.4
          (subst (λ (ys : List Block). EachMeaning (CanName ys []) K.scopes) (sym q.follows.blocks)
          (meaning_more (CanName K.blocks []) (CanName (K.blocks ++ q.follows.more) [])
          (globals_later K.blocks q.follows.more []) K.scopes c)));
      names_stay = subst (HaveNames K.scopes) (sym o) g.4;
      grows = q.follows.grows;
      some = omega (arith, some, more_types K.types A.types q.follows.grows);
      blocks = w.blocks;
      functions = w.functions;
      fits = λ seen all. q.fits seen (covers_wider A.blocks frame seen A.scopes
          (subst (λ (l : List ℕ). AllIn l seen) frame_is all) covered);
      lists = λ j.
          let e = w.lists j in
          let f : count j (blocks_behind (length inner.names) A) ≡ count j (blocks_of w.own) = ap (count j) locals in
          omega (arith, e, f);
      calls = w.calls (params_fit K.functions b cs inner.names n, fit);
    }

-- ---- the blocks of result and parameters

pub numbered_lists : (b : ℕ) (cs : List CType) → Lists b (b + length cs) (first_of (numbered_from b cs))
numbered_lists b [] j = let e : below (b + 0) j
    ≡ below b j = ap (λ (i : ℕ). below i j) (let z : b + 0 ≡ b = omega arith in z) in omega (arith, e)
numbered_lists b (c ∷ cs) j =
    let e = lists_one b j in
    let f = numbered_lists (b + 1) cs j in
    let s : b + 1 ≡ suc b = omega arith in
    let g : below (b + 1) j ≡ below (suc b) j = ap (λ (i : ℕ). below i j) s in
    let t : b + 1 + length cs ≡ b + length (c ∷ cs) = omega arith in
    let k : below (b + 1 + length cs) j ≡ below (b + length (c ∷ cs)) j = ap (λ (i : ℕ). below i j) t in
    omega (arith, e, f, g, k)

-- first the result's, if there is one, then those of the parameters
pub own_lists : (h : Headed) (b : ℕ) (j : ℕ) → count j (first_of (option_to_list (result_at b h.result)))
    + count j (first_of (numbered_from (behind_result b h.result) h.params)) + below b j
    ≡ below (b + length (results h ++ h.params)) j
own_lists h b j = by (is_void h.result) refl
  where
    by : (v : Bool) → is_void h.result ≡ v → count j (first_of (option_to_list (result_at b h.result)))
        + count j (first_of (numbered_from (behind_result b h.result) h.params)) + below b j
        ≡ below (b + length (results h ++ h.params)) j
    by true q = let f = numbered_lists b h.params j in rw q (omega (arith, f))
    by false q =
        let e = lists_one b j in
        let f = numbered_lists (b + 1) h.params j in
        let s : b + 1 ≡ suc b = omega arith in
        let g : below (b + 1) j ≡ below (suc b) j = ap (λ (i : ℕ). below i j) s in
        let t : b + 1 + length h.params ≡ b + length (h.result ∷ h.params) = omega arith in
        let k : below (b + 1 + length h.params) j
        ≡ below (b + length (h.result ∷ h.params)) j = ap (λ (i : ℕ). below i j) t in
        rw q (omega (arith, e, f, g, k))

pub own_local : (t : Table) (cs : List CType) → AreLocal (map (own_block t) cs)
own_local t [] = tt
own_local t (c ∷ cs) = (refl, own_local t cs)
