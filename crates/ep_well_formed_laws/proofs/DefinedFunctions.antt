-- Functions that are defined fit, and leave an environment in which all that is named is there.
use Rattle.std.proofs.Common.{◌≡◌, ℕ, zero, suc, ◌+◌, ◌<◌, nat_eq, Bool, true, false, true≢false, if◌then◌else◌, List}
use Rattle.ep_core.proofs.Tables.{more_types}
use Rattle.ep_int.proofs.Basics.{append-assoc, slice_get-append, append-nil}
use Rattle.std.proofs.lemmas.Bool.{or_cases}
use Rattle.std.proofs.lemmas.Bool.{and_from, or_left, or_right}
use Rattle.std.proofs.Common.{[], ◌∷◌, ◌++◌, length, map, drop, slice_get, option_to_list, Option, Some, None}
use Rattle.std.proofs.Common.{unwrap_or, bytes_eq, Ok, refl, sym, ap, ◌∙◌, subst, ◌⊎◌, inl, inr, arith}
use Rattle.std.specs.List.{list_all}
use Rattle.std.proofs.lemmas.Bool.Decides.{nat_tests}
use Rattle.ep_int.specs.Memory.{contains}
use Rattle.ep_int.specs.Types.{bytes_of, pointer_bytes}
use Rattle.ep_ast.specs.Statement.{Function, to_parts}
use Rattle.ep_layout.specs.Table.{Grows, Table}
use Rattle.ep_layout.proofs.Options.{get_last, get_push}
use Rattle.ep_layout.proofs.Positions.{position_some}
use Rattle.ep_core.specs.Program as core
use Rattle.ep_core.specs.Program.{Block}
use Rattle.ep_core.specs.Exec.{first_of}
use Rattle.ep_core.specs.Runs.{is_global}
use Rattle.ep_core.specs.WellFormed.{block_fits, block_type, holds_scalar, result_type}
use Rattle.ep_core.proofs.Sorts.{never}
use Rattle.ep_typing.specs.declared.types.Base.{Base}
use Rattle.ep_typing.specs.declared.types.Base.TheVariants as bases
use Rattle.ep_typing.specs.declared.types.CType.{CType}
use Rattle.ep_typing.specs.Types.{base_size, c_type_number, int_of, is_int_base, is_integer, is_pointer, is_scalar}
use Rattle.ep_typing.specs.Types.{is_void, scalar_of, size_of_type, void_type}
use Rattle.ep_typing.specs.Env.{Env, Meaning, Scope, Signature, entry, function, type_name, variable}
use Rattle.ep_elaboration.specs.Declarators.{with_name}
use Rattle.ep_elaboration.specs.Functions.{Defined, Headed, behind_result, body_env, file_names, fits_main}
use Rattle.ep_elaboration.specs.Functions.{function_declared, named_function, number_of_function, numbered_from}
use Rattle.ep_elaboration.specs.Functions.{numbered_function, own_block, result_at, results, signature_of}
use Rattle.ep_elaboration.specs.Functions.{stands_against, with_blocks}
use Rattle.ep_elaboration.specs.Statements.{blocks_behind, blocks_of, innermost, left, outer, to_core}
use Rattle.ep_elaboration.specs.FunctionRules.{MeansDefinition, is_definition, is_function}
use Rattle.ep_well_formed_laws.specs.Numbers.{IsTable, type_number}
use Rattle.ep_well_formed_laws.specs.Environments.{ArePassed, CanName, Covers, EachMeaning, EachName, EachOf, EachTag}
use Rattle.ep_well_formed_laws.specs.Environments.{IsEnv, IsPassed, IsPlaced, IsSignature, IsTyped}
use Rattle.ep_well_formed_laws.specs.Statements.{IsDefined, IsResultOf, StmtsFit, a_result, no_result}
use Rattle.ep_well_formed_laws.proofs.Additions.{c_number_is, type_number_stays}
use Rattle.ep_well_formed_laws.proofs.Heads.{HeadComes, IsParamName, head_comes}
use Rattle.ep_well_formed_laws.proofs.Lines.{parts_fit}
use Rattle.ep_well_formed_laws.proofs.Mentions.{env_declares}
use Rattle.ep_well_formed_laws.proofs.Objects.{block_of_type, env_named, name_comes, placed_front}
use Rattle.ep_well_formed_laws.proofs.Scopes.{HaveNames, each_same, meaning_more, name_more}
use Rattle.ep_well_formed_laws.proofs.Steps.{NamesGrow, env_left, own_names}
use Rattle.ep_well_formed_laws.proofs.Stores.{scalar_row}
use Rattle.ep_well_formed_laws.proofs.Tests.{given, if_not, if_so, unless}
use Rattle.ep_well_formed_laws.proofs.Values.{scalar_is}

-- ---- the name of a function

-- a function that was declared, with the environment behind it
pub record FunctionComes (G K : Env) : Type 0 where
  pub env : IsEnv K
  pub types : K.types ≡ G.types
  pub blocks : K.blocks ≡ G.blocks
  pub names : Covers [] G → Covers [] K

function_placed : (t : Table) (bs : List Block) (fs more : List Signature) (m : Meaning) → IsPlaced t bs fs m
    → IsPlaced t bs (fs ++ more) m
function_placed t bs fs more (variable b c) h = h
function_placed t bs fs more (function n) h = (h.0, slice_get-append fs more n h.0 h.1)
function_placed t bs fs more (type_name c) h = tt

env_with_function : (G : Env) (s : Signature) → IsEnv G → IsSignature G.types s
    → IsEnv (record G { functions = G.functions ++ s ∷ [] })
env_with_function G s h k = record {
  declared = record {
    table = h.declared.table;
    fields = h.declared.fields;
    names = h.declared.names;
    tags = h.declared.tags;
    functions = λ n r e. elim (get_push G.functions s r n e) [
      | inl old ↦ h.declared.functions n r old
      | inr p ↦ subst (IsSignature G.types) p.1 k
    ];
  };
  places = meaning_more (IsPlaced G.types G.blocks G.functions) (IsPlaced G.types G.blocks (G.functions ++ s ∷ []))
      (function_placed G.types G.blocks G.functions (s ∷ [])) G.scopes h.places;
  blocks = h.blocks;
}

function_named : (G : Env) (n : List ℕ) (k : ℕ) (s : Signature) → IsEnv G → slice_get G.functions k ≡ Some s
    → FunctionComes G (with_name G n (function k))
function_named G n k s h e = record {
  env = env_named G n (function k) h tt (s, e);
  types = refl;
  blocks = refl;
  names = λ c. name_comes (CanName G.blocks []) G.scopes n (function k) c tt;
}

function_same : (G : Env) → IsEnv G → FunctionComes G G
function_same G h = record { env = h; types = refl; blocks = refl; names = λ c. c }

named_is : (G I : Env) (s : Signature) (k : ℕ) (r : Signature) (o : Option Meaning) → FunctionComes G I
    → slice_get I.functions k ≡ Some r → FunctionComes G (named_function s o (k, I)).1
named_is G I s k r (Some m) f e = f
named_is G I s k r None f e =
    let g = function_named I s.name k r f.env e in
    record { env = g.env; types = f.types; blocks = f.blocks; names = λ c. g.names (f.names c) }

pub function_comes : (G : Env) (ds : List ℕ) (with_body : Bool) (s : Signature) (n : ℕ × Env) → IsEnv G → IsSignature G.types s
    → function_declared G ds with_body s ≡ Ok n → FunctionComes G n.1
unfolding function_declared
function_comes G ds wb s n h k e =
    let x = unless (stands_against G ds wb s (entry s.name (file_names G))) 31 _ n e in
    let y = given (fits_main s) _ n 32 x.1 in
    subst (λ (m : ℕ × Env). FunctionComes G m.1) y.1 (by (number_of_function G.functions s.name) refl)
  where
    by : (o : Option ℕ) → number_of_function G.functions s.name ≡ o
        → FunctionComes G (named_function s (entry s.name (file_names G)) (numbered_function G s o)).1
    by None q =
        let I : Env = record G { functions = G.functions ++ s ∷ [] } in
        named_is G I s (length G.functions) s (entry s.name (file_names G))
        (record { env = env_with_function G s h k; types = refl; blocks = refl; names = λ c. c }) (get_last G.functions s)
    by (Some j) q =
        let p = position_some (λ (r : Signature). bytes_eq s.name r.name) G.functions j s q in
        named_is G G s j p.0 (entry s.name (file_names G)) (function_same G h) p.1

-- ---- the blocks of result and parameters

get_behind : {X Y : Type 0} (f : X → Y) (ys : List Y) (xs : List X) (j : ℕ) (x : X) → slice_get xs j ≡ Some x
    → slice_get (ys ++ map f xs) (length ys + j) ≡ Some (f x)
get_behind f [] xs j x h =
    let e : 0 + j ≡ j = omega arith in subst (λ (k : ℕ). slice_get (map f xs) k ≡ Some (f x)) (sym e) (mapped f xs j x h)
  where
    mapped : {X Y : Type 0} (f : X → Y) (xs : List X) (j : ℕ) (x : X) → slice_get xs j ≡ Some x → slice_get (map f xs) j ≡ Some (f x)
    mapped f [] j x h = absurd cc
    mapped f (y ∷ xs) zero x h = ap (λ z. Some (f z)) (let e : y ≡ x = cc in e)
    mapped f (y ∷ xs) (suc j) x h = mapped f xs j x h
get_behind f (y ∷ ys) xs j x h =
    let e : length (y ∷ ys) + j ≡ suc (length ys + j) = omega arith in
    subst (λ (k : ℕ). slice_get (y ∷ (ys ++ map f xs)) k ≡ Some (f x)) (sym e) (get_behind f ys xs j x h)

-- the blocks that come are those of the result, if there is one, and of the parameters
pub param_get : (h : Headed) (ys : List Block) (f : CType → Block) (j : ℕ) (c : CType) → slice_get h.params j ≡ Some c
    → slice_get (ys ++ map f (results h ++ h.params)) (behind_result (length ys) h.result + j) ≡ Some (f c)
param_get h ys f j c e = by (is_void h.result) refl
  where
    by : (v : Bool) → is_void h.result ≡ v
        → slice_get (ys ++ map f (results h ++ h.params)) (behind_result (length ys) h.result + j) ≡ Some (f c)
    by true q = rw q (get_behind f ys h.params j c e)
    by false q =
        let same : length ys + 1 + j ≡ length ys + suc j = omega arith in
        rw q (subst (λ (k : ℕ). slice_get (ys ++ map f (h.result ∷ h.params)) k ≡ Some (f c)) (sym same)
        (get_behind f ys (h.result ∷ h.params) (suc j) c e))

pub result_get : (h : Headed) (ys : List Block) (f : CType → Block) → is_void h.result ≡ false
    → slice_get (ys ++ map f (results h ++ h.params)) (length ys) ≡ Some (f h.result)
result_get h ys f q =
    let same : length ys + 0 ≡ length ys = omega arith in
    rw q (subst (λ (k : ℕ). slice_get (ys ++ map f (h.result ∷ h.params)) k ≡ Some (f h.result)) same
    (get_behind f ys (h.result ∷ h.params) 0 h.result refl))

scalar_sized : (t : Table) (c : CType) → is_scalar c ≡ true → (z : ℕ) × (size_of_type t c ≡ Some z)
scalar_sized t c s = elim (scalar_is c s) [
  | inl p ↦ (pointer_bytes t.model, if_so (is_pointer c) _ _ p)
  | inr p ↦ by p.0 p.1
]
  where
    by : is_pointer c ≡ false → is_integer c ≡ true → (z : ℕ) × (size_of_type t c ≡ Some z)
    by q r = (bytes_of (int_of c), if_not (is_pointer c) _ _ q ∙ of_integer c.base (sym (if_not (is_pointer c) _ _ q) ∙ r))
      where
        of_integer : (b : Base) → is_int_base b ≡ true → base_size t b ≡ Some (bytes_of (int_of (record { base = b; stars = 0 })))
        of_integer bases.Void k = never k
        of_integer (bases.Int i) k = refl
        of_integer (bases.Array n) k = never k
        of_integer (bases.Aggregate a) k = never k

own_fits : (t : Table) (c : CType) → IsTable t → IsPassed t c → block_fits t (own_block t c) ≡ true
own_fits t c h p =
    let z = scalar_sized t c p.0 in
    subst (λ (o : Option ℕ). block_fits t (record { size = unwrap_or o 0; ty = c_type_number t c; global = false }) ≡ true)
    (sym z.1) (block_of_type t c z.0 false h p.1 z.1)

-- what stands in two lists, one behind the other
pub get_either : {X : Type 0} (xs ys : List X) (k : ℕ) (x : X) → slice_get (xs ++ ys) k ≡ Some x
    → (slice_get xs k ≡ Some x) ⊎ ((j : ℕ) × (slice_get ys j ≡ Some x))
get_either [] ys k x h = inr (k, h)
get_either (y ∷ xs) ys zero x h = inl h
get_either (y ∷ xs) ys (suc k) x h = get_either xs ys k x h

pub own_all_fit : (t : Table) (cs : List CType) (j : ℕ) (x : Block) → IsTable t → ArePassed t cs
    → slice_get (map (own_block t) cs) j ≡ Some x → block_fits t x ≡ true
own_all_fit t [] j x h p e = absurd cc
own_all_fit t (c ∷ cs) zero x h p e =
    let same : own_block t c ≡ x = cc in subst (λ (b : Block). block_fits t b ≡ true) same (own_fits t c h p.0)
own_all_fit t (c ∷ cs) (suc j) x h p e = own_all_fit t cs j x h p.1 e

pub passed_at : (t : Table) (cs : List CType) (j : ℕ) (c : CType) → ArePassed t cs → slice_get cs j ≡ Some c → IsPassed t c
passed_at t [] j c p e = absurd cc
passed_at t (d ∷ cs) zero c p e = let same : d ≡ c = cc in subst (IsPassed t) same p.0
passed_at t (d ∷ cs) (suc j) c p e = passed_at t cs j c p.1 e

pub own_passed : (t : Table) (h : Headed) → ArePassed t h.params → (h.result ≡ void_type) ⊎ IsPassed t h.result
    → ArePassed t (results h ++ h.params)
own_passed t h p r = by (is_void h.result) refl r
  where
    by : (v : Bool) → is_void h.result ≡ v → (h.result ≡ void_type) ⊎ IsPassed t h.result → ArePassed t (results h ++ h.params)
    by true q k = rw q p
    by false q (inl e) = absurd (true≢false (sym (subst (λ (c : CType). is_void c ≡ true) (sym e) refl) ∙ q))
    by false q (inr k) = rw q (k, p)

-- ---- the environment of a body

-- the environment behind a head, without the scope of its parameters
pub behind_head : (G H : Env) (b : ℕ) (r : Headed) → IsEnv G → HeadComes G H b r → IsEnv (left H)
behind_head G H b r h k =
    let o : outer H.scopes ≡ k.scopes = ap outer k.is in
    env_declares G (left H) h (record {
      declared = record {
        table = k.declared.table;
        fields = k.declared.fields;
        names = subst (EachMeaning (IsTyped H.types)) (sym o) (subst (EachMeaning (IsTyped H.types)) k.is k.declared.names).1;
        tags = subst (EachTag (λ a. a < length H.types.aggregates)) (sym o)
            (subst (EachTag (λ a. a < length H.types.aggregates)) k.is k.declared.tags).1;
        functions = k.declared.functions;
      };
      grows = k.grows;
      names = subst (HaveNames G.scopes) (sym o) k.outer;
      blocks = k.blocks;
      functions = k.functions;
    })

pub param_placed : (t : Table) (bs : List Block) (fs : List Signature) (b : ℕ) (cs : List CType)
    → ((j : ℕ) (c : CType) → slice_get cs j ≡ Some c → IsPlaced t bs fs (variable (b + j) c)) → (m : Meaning) → IsParamName b cs m
    → IsPlaced t bs fs m
param_placed t bs fs b cs f (variable k c) h =
    subst (λ (i : ℕ). IsPlaced t bs fs (variable i c)) (sym h.1) (f h.0 c h.2)
param_placed t bs fs b cs f (function n) h = absurd h
param_placed t bs fs b cs f (type_name c) h = absurd h

-- the environment of a body: parameters innermost, over their blocks
pub body_is : (K : Env) (h : Headed) (inner : Scope) → IsEnv K → EachName (IsTyped K.types) inner.names
    → EachOf (λ a. a < length K.types.aggregates) inner.tags
    → EachName (IsParamName (behind_result (length K.blocks) h.result) h.params) inner.names → ArePassed K.types h.params
    → (h.result ≡ void_type) ⊎ IsPassed K.types h.result → IsEnv (body_env (with_blocks K (results h ++ h.params)) inner)
body_is K h inner k typed tags named passed result =
    let own : List Block = map (own_block K.types) (results h ++ h.params) in
    let all = own_passed K.types h passed result in
    let b = behind_result (length K.blocks) h.result in
    record {
      declared = record {
        table = k.declared.table;
        fields = k.declared.fields;
        names = (typed, k.declared.names);
        tags = (tags, k.declared.tags);
        functions = k.declared.functions;
      };
      places = (
        name_more (IsParamName b h.params) (IsPlaced K.types (K.blocks ++ own) K.functions)
            (param_placed K.types (K.blocks ++ own) K.functions b h.params (λ j c e. param_there j c e)) inner.names named,
        meaning_more (IsPlaced K.types K.blocks K.functions) (IsPlaced K.types (K.blocks ++ own) K.functions)
            (placed_front K.types K.blocks own K.functions) K.scopes k.places,
      );
      blocks = λ n x e. elim (get_either K.blocks own n x e) [
        | inl old ↦ k.blocks n x old
        | inr p ↦ own_all_fit K.types (results h ++ h.params) p.0 x k.declared.table all p.1
      ];
    }
  where
    param_there : (j : ℕ) (c : CType) → slice_get h.params j ≡ Some c
        → IsPlaced K.types (K.blocks ++ map (own_block K.types) (results h ++ h.params)) K.functions
        (variable (behind_result (length K.blocks) h.result + j) c)
    param_there j c e =
        let p = passed_at K.types h.params j c passed e in (
          own_block K.types c,
          param_get h K.blocks (own_block K.types) j c e,
          p.1.1 ∙ ap (λ (n : ℕ). Some n) (sym (c_number_is K.types c p.1.0 p.1.1)),
        )

-- ---- what can be named in a body

global_later : (bs more : List Block) (b : ℕ) → is_global (slice_get bs b) ≡ true → is_global (slice_get (bs ++ more) b) ≡ true
global_later bs more b h = by (slice_get bs b) refl h
  where
    by : (o : Option Block) → slice_get bs b ≡ o → is_global o ≡ true → is_global (slice_get (bs ++ more) b) ≡ true
    by None q e = never e
    by (Some x) q e = rw (slice_get-append bs more b x q) e

pub globals_later : (bs more : List Block) (seen : List ℕ) (m : Meaning) → CanName bs [] m → CanName (bs ++ more) seen m
globals_later bs more seen (variable b c) h = elim (or_cases (is_global (slice_get bs b)) false h) [
  | inl g ↦ or_left (is_global (slice_get (bs ++ more) b)) (contains b seen) (global_later bs more b g)
  | inr g ↦ never g
]
globals_later bs more seen (function n) h = tt
globals_later bs more seen (type_name c) h = tt

numbered_has : (b : ℕ) (cs : List CType) (j : ℕ) (c : CType) → slice_get cs j ≡ Some c
    → contains (b + j) (first_of (numbered_from b cs)) ≡ true
numbered_has b [] j c e = absurd cc
numbered_has b (d ∷ cs) zero c e = or_left (nat_eq (b + 0) b) _ (grind (arith, nat_tests))
numbered_has b (d ∷ cs) (suc j) c e =
    let same : b + 1 + j ≡ b + suc j = omega arith in
    or_right (nat_eq (b + suc j) b) _
    (subst (λ (k : ℕ). contains k (first_of (numbered_from (b + 1) cs)) ≡ true) same (numbered_has (b + 1) cs j c e))

param_named : (bs : List Block) (b : ℕ) (cs : List CType) (more : List ℕ) (m : Meaning) → IsParamName b cs m
    → CanName bs (first_of (numbered_from b cs) ++ more) m
param_named bs b cs more (variable k c) h =
    or_right (is_global (slice_get bs k)) _ (contains_more k (first_of (numbered_from b cs)) more
    (subst (λ (i : ℕ). contains i (first_of (numbered_from b cs)) ≡ true) (sym h.1) (numbered_has b cs h.0 c h.2)))
  where
    contains_more : (k : ℕ) (xs ys : List ℕ) → contains k xs ≡ true → contains k (xs ++ ys) ≡ true
    contains_more k [] ys e = never e
    contains_more k (x ∷ xs) ys e = elim (or_cases (nat_eq k x) (contains k xs) e) [
      | inl p ↦ or_left (nat_eq k x) _ p
      | inr p ↦ or_right (nat_eq k x) _ (contains_more k xs ys p)
    ]
param_named bs b cs more (function n) h = absurd h
param_named bs b cs more (type_name c) h = absurd h

pub names_both : (P : Meaning → Type 0) (xs ys : List (List ℕ × Meaning)) → EachName P xs → EachName P ys → EachName P (xs ++ ys)
names_both P [] ys h k = k
names_both P (x ∷ xs) ys h k = (h.0, names_both P xs ys h.1 k)

drop_front : (xs ys : List (List ℕ × Meaning)) → drop (length xs) (xs ++ ys) ≡ ys
drop_front [] ys = refl
drop_front (x ∷ xs) ys = drop_front xs ys

-- behind the names of the parameters stand those of the body's outer block
pub locals_are : (H : Env) (n : ℕ) (s : Scope) (ss : List Scope) (xs : List (List ℕ × Meaning)) (names : List (List ℕ × Meaning))
    → H.scopes ≡ s ∷ ss → names ++ xs ≡ s.names → n ≡ length names → blocks_behind n H ≡ blocks_of xs
locals_are H n s ss xs names e p q =
    let i : innermost H ≡ s = rw e refl in
    ap (λ (x : Scope). blocks_of (drop n x.names)) i ∙ ap (λ (ys : List (List ℕ × Meaning)). blocks_of (drop n ys)) (sym p)
    ∙ ap (λ (k : ℕ). blocks_of (drop k (names ++ xs))) q ∙ ap blocks_of (drop_front names xs)

-- all that is in scope behind a body can be named by the frame of its function
pub frame_covers : (bs kept more : List Block) (b : ℕ) (cs : List CType) (inner s : Scope) (ks ss : List Scope)
    (xs : List (List ℕ × Meaning)) → bs ≡ kept ++ more → inner.names ++ xs ≡ s.names → HaveNames ks ss
    → EachName (IsParamName b cs) inner.names → EachMeaning (CanName kept []) ks
    → EachMeaning (CanName bs (first_of (numbered_from b cs) ++ blocks_of xs)) (s ∷ ss)
frame_covers bs kept more b cs inner s ks ss xs e p n named covers =
    let frame = first_of (numbered_from b cs) ++ blocks_of xs in (
      subst (EachName (CanName bs frame)) p (names_both (CanName bs frame) inner.names xs
          (name_more (IsParamName b cs) (CanName bs frame) (param_named bs b cs (blocks_of xs)) inner.names named)
          (subst (λ (own : List ℕ). EachName (CanName bs own) xs) (append-nil frame) (own_names bs xs (first_of (numbered_from b cs)) []))),
      each_same (CanName bs frame) ks ss n
          (subst (λ (cs : List Block). EachMeaning (CanName cs frame) ks) (sym e)
          (meaning_more (CanName kept []) (CanName (kept ++ more) frame) (globals_later kept more frame) ks covers)),
    )

-- ---- parameters and results hold their scalars

pub all_hold : (t : Table) (bs : List Block) (b : ℕ) (cs : List CType)
    → ((j : ℕ) (c : CType) → slice_get cs j ≡ Some c → holds_scalar t bs (b + j, scalar_of c) ≡ true)
    → list_all (holds_scalar t bs) (numbered_from b cs) ≡ true
all_hold t bs b [] f = refl
all_hold t bs b (c ∷ cs) f =
    let zero_more : b + 0 ≡ b = omega arith in
    and_from _ _ (subst (λ (k : ℕ). holds_scalar t bs (k, scalar_of c) ≡ true) zero_more (f 0 c refl))
    (all_hold t bs (b + 1) cs (λ j d e.
    let same : b + suc j ≡ b + 1 + j = omega arith in
    subst (λ (k : ℕ). holds_scalar t bs (k, scalar_of d) ≡ true) same (f (suc j) d e)))

pub holds_at : (t : Table) (bs : List Block) (table : IsTable t) (some : 0 < length t.types) (k : ℕ) (c : CType) (x : Block)
    → slice_get bs k ≡ Some x → is_scalar c ≡ true → type_number t c ≡ Some x.ty → holds_scalar t bs (k, scalar_of c) ≡ true
holds_at t bs table some k c x e s n = rw e (scalar_row t bs [] table some c x.ty s n)

-- ---- definitions

-- scopes of which names came to the innermost
pub grown_scopes : (i : Scope) (ks us : List Scope) → NamesGrow (i ∷ ks) us
    → (s : Scope) × (ss : List Scope) × (xs : List (List ℕ × Meaning)) × (us ≡ s ∷ ss) × (i.names ++ xs ≡ s.names) × HaveNames ks ss
grown_scopes i ks [] n = absurd n
grown_scopes i ks (u ∷ us) n = (u, us, n.0.0, refl, n.0.1, n.1)

-- the number of the type of a result
unfoldable pub result_number : Table → CType → Option ℕ
result_number t c = if is_void c then None else Some (c_type_number t c)

pub result_is : (t : Table) (c : CType) → (c ≡ void_type) ⊎ IsPassed t c → IsResultOf t c (result_number t c)
unfolding result_number
result_is t c r = by (is_void c) refl r
  where
    by : (v : Bool) → is_void c ≡ v → (c ≡ void_type) ⊎ IsPassed t c
        → IsResultOf t c (if is_void c then None else Some (c_type_number t c))
    by true q k = no_result q (rw q refl)
    by false q (inl e) = absurd (true≢false (sym (subst (λ (d : CType). is_void d ≡ true) (sym e) refl) ∙ q))
    by false q (inr p) = a_result p.1.0 p.0 p.1.1 (rw q (ap (λ (n : ℕ). Some n) (c_number_is t c p.1.0 p.1.1)))

-- the block of a result holds its scalar, and has the number of its type
pub result_part : (t u : Table) (bs : List Block) (h : Headed) (b : ℕ)
    → (is_void h.result ≡ false → slice_get bs b ≡ Some (own_block t h.result)) → (table : IsTable u) → 0 < length u.types
    → (h.result ≡ void_type) ⊎ IsPassed t h.result
    → ((c : CType) → IsPassed t c → type_number u c ≡ Some (c_type_number t c))
    → (list_all (holds_scalar u bs) (option_to_list (result_at b h.result)) ≡ true)
    × (result_type bs (result_at b h.result) ≡ result_number t h.result)
unfolding result_number
result_part t u bs h b get table some result number = by (is_void h.result) refl result
  where
    by : (v : Bool) → is_void h.result ≡ v → (h.result ≡ void_type) ⊎ IsPassed t h.result
        → (list_all (holds_scalar u bs) (option_to_list (result_at b h.result)) ≡ true)
        × (result_type bs (result_at b h.result) ≡ (if is_void h.result then None else Some (c_type_number t h.result)))
    by true q k = rw q (refl, refl)
    by false q (inl e) = absurd (true≢false (sym (subst (λ (d : CType). is_void d ≡ true) (sym e) refl) ∙ q))
    by false q (inr p) =
        let w = get q in
        let held = holds_at u bs table some b h.result (own_block t h.result) w p.0 (number h.result p) in
        rw q (and_from (holds_scalar u bs (b, scalar_of h.result)) true held refl, ap block_type w)

-- what stands before a body: the function's name is known, and its blocks are there
pub record BodyComes (G K : Env) (b : ℕ) (h : Headed) (inner : Scope) : Type 0 where
  pub env : IsEnv K
  pub grows : Grows G.types K.types
  pub blocks : K.blocks ≡ G.blocks
  pub typed : EachName (IsTyped K.types) inner.names
  pub tags : EachOf (λ a. a < length K.types.aggregates) inner.tags
  pub named : EachName (IsParamName (behind_result (length K.blocks) h.result) h.params) inner.names
  pub passed : ArePassed K.types h.params
  pub result : (h.result ≡ void_type) ⊎ IsPassed K.types h.result
  pub some : 0 < length K.types.types
  pub covers : Covers [] K

pub before_body : (G : Env) (ds : List ℕ) (f : Function) (x : Headed × Env) (n : ℕ × Env) → IsEnv G → Covers [] G
    → HeadComes G x.1 (length G.blocks) x.0 → function_declared (left x.1) ds true (signature_of f.head x.0) ≡ Ok n
    → BodyComes G n.1 (length G.blocks) x.0 (innermost x.1)
before_body G ds f x n h c k e =
    let R = x.1 in
    let L = left R in
    let l = behind_head G R (length G.blocks) x.0 h k in
    let fc = function_comes L ds true (signature_of f.head x.0) n l (record { params = k.passed; result = k.result }) e in
    let i : k.inner ≡ innermost R = sym (rw k.is refl) in
    let o : outer R.scopes ≡ k.scopes = ap outer k.is in
    let typed = (subst (EachMeaning (IsTyped R.types)) k.is k.declared.names).0 in
    let tags = (subst (EachTag (λ a. a < length R.types.aggregates)) k.is k.declared.tags).0 in
    let bs : n.1.blocks ≡ G.blocks = fc.blocks ∙ k.blocks in
    record {
      env = fc.env;
      grows = subst (Grows G.types) (sym fc.types) k.grows;
      blocks = bs;
      typed = subst (λ (t : Table). EachName (IsTyped t) (innermost R).names) (sym fc.types)
          (subst (λ (s : Scope). EachName (IsTyped R.types) s.names) i typed);
      tags = subst (λ (t : Table). EachOf (λ a. a < length t.aggregates) (innermost R).tags) (sym fc.types)
          (subst (λ (s : Scope). EachOf (λ a. a < length R.types.aggregates) s.tags) i tags);
      named = subst (λ (ys : List Block). EachName (IsParamName (behind_result (length ys) x.0.result) x.0.params) (innermost R).names)
          (sym bs) (subst (λ (s : Scope). EachName (IsParamName (behind_result (length G.blocks) x.0.result) x.0.params) s.names) i k.named);
      passed = subst (λ (t : Table). ArePassed t x.0.params) (sym fc.types) k.passed;
      result = subst (λ (t : Table). (x.0.result ≡ void_type) ⊎ IsPassed t x.0.result) (sym fc.types) k.result;
      some = subst (λ (t : Table). 0 < length t.types) (sym fc.types) k.some;
      covers = fc.names (subst (EachMeaning (CanName R.blocks [])) (sym o)
          (each_same (CanName R.blocks []) G.scopes k.scopes k.outer
          (subst (λ (ys : List Block). EachMeaning (CanName ys []) G.scopes) (sym k.blocks) c)));
    }

-- a definition leaves an environment in which all that is named is there, and variables of the file alone can be named
pub record DefinitionFits (H : Env) (f : core.Function) : Type 0 where
  pub env : IsEnv H
  pub covers : Covers [] H
  pub fits : IsDefined H.types H.blocks H.functions f

pub definition_fits : (G : Env) (ds : List ℕ) (f : Function) (d : Defined × Env) → IsEnv G → Covers [] G
    → MeansDefinition G ds f d → DefinitionFits d.1 d.0.function
definition_fits G ds f d h c (is_definition y (is_function x n a m e p)) =
    let k = before_body G ds f x n h c (head_comes G (length G.blocks) f.head x h.declared m) e in
    let K = n.1 in
    let inner : Scope = innermost x.1 in
    let own : List Block = map (own_block K.types) (results x.0 ++ x.0.params) in
    let B = body_env (with_blocks K (results x.0 ++ x.0.params)) inner in
    let env = body_is K x.0 inner k.env k.typed k.tags k.named k.passed k.result in
    let r : Option ℕ = result_number K.types x.0.result in
    let q = parts_fit B x.0.result r false (to_parts f.body.parts) a
    (record { env = env; scope = (inner, K.scopes, refl); some = k.some; result_is = result_is K.types x.0.result k.result }) p in
    let A = a.1 in
    let g = grown_scopes inner K.scopes A.scopes q.names in
    let more : List Block = own ++ q.follows.more in
    let blocks : A.blocks ≡ K.blocks ++ more = q.follows.blocks ∙ append-assoc K.blocks own q.follows.more in
    let size : length K.blocks ≡ length G.blocks = ap length k.blocks in
    let here : (j : ℕ) (z : Block) → slice_get B.blocks j ≡ Some z → slice_get A.blocks j ≡ Some z =
    λ j z w. subst (λ (ys : List Block). slice_get ys j ≡ Some z) (sym q.follows.blocks) (slice_get-append B.blocks q.follows.more j z w) in
    let first : ℕ = behind_result (length K.blocks) x.0.result in
    let some : 0 < length A.types.types = omega (arith, k.some, more_types K.types A.types q.follows.grows) in
    let table = q.follows.env.declared.table in
    let number : (t : CType) → IsPassed K.types t → type_number A.types t ≡ Some (c_type_number K.types t) =
    λ t w. type_number_stays K.types A.types q.follows.grows table.built t w.1.0 w.1.1
    ∙ ap (λ (j : ℕ). Some j) (sym (c_number_is K.types t w.1.0 w.1.1)) in
    let same : first ≡ behind_result (length G.blocks) x.0.result = ap (λ (j : ℕ). behind_result j x.0.result) size in
    let frame : List ℕ = first_of (numbered_from first x.0.params) ++ blocks_of g.2 in
    let locals = locals_are A (length inner.names) g.0 g.1 g.2 inner.names g.3 g.4 refl in
    let frame_is : frame ≡ first_of (numbered_from (behind_result (length G.blocks) x.0.result) x.0.params)
    ++ blocks_behind (length inner.names) A =
    ap (λ (j : ℕ). first_of (numbered_from j x.0.params) ++ blocks_of g.2) same
    ∙ ap (λ (l : List ℕ). first_of (numbered_from (behind_result (length G.blocks) x.0.result) x.0.params) ++ l) (sym locals) in
    let covers = subst (EachMeaning (CanName A.blocks frame)) (sym g.3)
    (frame_covers A.blocks K.blocks more first x.0.params inner g.0 K.scopes g.1 g.2 blocks g.4 g.5 k.named k.covers) in
    let body = q.fits frame covers in
    let result = result_part K.types A.types A.blocks x.0 (length G.blocks)
    (λ v. subst (λ (j : ℕ). slice_get A.blocks j ≡ Some (own_block K.types x.0.result)) size
    (here (length K.blocks) (own_block K.types x.0.result) (result_get x.0 K.blocks (own_block K.types) v)))
    table some k.result number in
    record {
      env = env_left A q.follows.env;
      covers = subst (EachMeaning (CanName A.blocks [])) (sym (ap outer g.3))
          (each_same (CanName A.blocks []) K.scopes g.1 g.5
          (subst (λ (ys : List Block). EachMeaning (CanName ys []) K.scopes) (sym blocks)
          (meaning_more (CanName K.blocks []) (CanName (K.blocks ++ more) []) (globals_later K.blocks more []) K.scopes k.covers)));
      fits = record {
        params = subst (λ (j : ℕ). list_all (holds_scalar A.types A.blocks) (numbered_from j x.0.params) ≡ true) same
            (all_hold A.types A.blocks first x.0.params (λ j t w.
            let v = passed_at K.types x.0.params j t k.passed w in
            holds_at A.types A.blocks table some (first + j) t (own_block K.types t)
            (here (first + j) (own_block K.types t) (param_get x.0 K.blocks (own_block K.types) j t w)) v.0 (number t v)));
        result = result.0;
        body = subst (λ (o : Option ℕ). StmtsFit A.types A.blocks A.functions o (to_core a.0)
            (first_of (numbered_from (behind_result (length G.blocks) x.0.result) x.0.params) ++ blocks_behind (length inner.names) A) false)
            (sym result.1) (subst (λ (l : List ℕ). StmtsFit A.types A.blocks A.functions r (to_core a.0) l false) frame_is body);
      };
    }
