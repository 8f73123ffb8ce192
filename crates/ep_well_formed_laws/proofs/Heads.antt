-- Heads of functions: their results and parameters, and the scope of the parameters.
use Rattle.std.proofs.Common.{◌≡◌, ℕ, ◌+◌, ◌<◌, Bool, true, false, true≢false, ◌||◌, if◌then◌else◌, List, [], ◌∷◌}
use Rattle.ep_layout.proofs.Basics.{grows-trans}
use Rattle.ep_int.proofs.Basics.{slice_get-append}
use Rattle.std.proofs.Common.{◌++◌, length, length-append, slice_get, Option, Some, None, Ok, refl, sym, ap, ◌∙◌}
use Rattle.std.proofs.Common.{subst, ◌⊎◌, inl, inr, arith}
use Rattle.ep_ast.specs.Expression as source
use Rattle.ep_ast.specs.Declaration.{Head, Param, to_specs}
use Rattle.ep_layout.specs.Table.{Grows, Table}
use Rattle.ep_layout.proofs.Recursion.{kept_by_itself}
use Rattle.ep_core.proofs.Sorts.{never}
use Rattle.ep_typing.specs.declared.types.Base.{Base}
use Rattle.ep_typing.specs.declared.types.Base.TheVariants as bases
use Rattle.ep_typing.specs.declared.types.CType.{CType}
use Rattle.ep_typing.specs.Types.{element_of, is_aggregate, is_array, is_array_base, is_int_base, is_void_base}
use Rattle.ep_typing.specs.Results.{needed}
use Rattle.ep_typing.specs.Types.{is_pointer, is_scalar, is_void, pointer_to, size_of_type, void_type, with_c_type}
use Rattle.ep_typing.specs.Types.{with_stars}
use Rattle.ep_typing.specs.Env.{Env, Meaning, Scope, function, no_names, type_name, variable}
use Rattle.ep_elaboration.specs.Declarators.{arrays_of, name_in, with_types}
use Rattle.ep_elaboration.specs.Functions.{Headed, behind_result, given_back, is_name_taken, named_param, param_type}
use Rattle.ep_elaboration.specs.Functions.{params_of, passable, with_param}
use Rattle.ep_elaboration.specs.Statements.{entered}
use Rattle.ep_elaboration.specs.FunctionRules.{MeansHead, MeansParam, MeansParamBounds, MeansParams, bound_array}
use Rattle.ep_elaboration.specs.FunctionRules.{is_head, is_param, more_params, no_array, no_params, open_array}
use Rattle.ep_well_formed_laws.specs.Numbers.{HasNumber, IsTable}
use Rattle.ep_well_formed_laws.specs.Environments.{ArePassed, EachName, IsDeclared, IsPassed, IsTyped}
use Rattle.ep_well_formed_laws.proofs.Additions.{IsKnownBase, has_number_stays, type_comes}
use Rattle.ep_well_formed_laws.proofs.Mentions.{Declares, Mentions, declares_mentions, declares_on, known_base}
use Rattle.ep_well_formed_laws.proofs.Mentions.{mentions_none, type_mentioned, mentions_on, passed_stays}
use Rattle.ep_well_formed_laws.proofs.Mentions.{same_rows_open, table_mentioned}
use Rattle.ep_well_formed_laws.proofs.Objects.{AreLengths, TypeComes, arrays_come, bound_is, bounds_are, name_comes}
use Rattle.ep_well_formed_laws.proofs.Objects.{names_same_or_more, tags_named}
use Rattle.ep_well_formed_laws.proofs.Parts.{array_is_of, integer_left, of_base}
use Rattle.ep_well_formed_laws.proofs.Scopes.{HaveNames, name_more, name_push, names_on, same_names}
use Rattle.ep_well_formed_laws.proofs.Specs.{fine_is, specified, words_specified}
use Rattle.ep_well_formed_laws.proofs.Steps.{NamesGrow, names_grow_on, names_stay}
use Rattle.ep_well_formed_laws.proofs.Tables.{base_again}
use Rattle.ep_well_formed_laws.proofs.Tests.{after, unless}
use Rattle.ep_well_formed_laws.proofs.Values.{more_stars, number_below}
use Rattle.ep_layout.proofs.Options.{get_last}

-- ---- bounds of parameters

pub record HasParamBounds (G H : Env) (o : Option (List ℕ)) : Type 0 where
  pub mentions : Mentions G H
  pub lengths : (ns : List ℕ) → o ≡ Some ns → AreLengths ns

some_list : (xs ys : List ℕ) → Some xs ≡ Some ys → xs ≡ ys
some_list xs ys e = cc

pub param_bounds_are : (G : Env) (l : ℕ) (bs : List (Option source.Expr)) (x : Option (List ℕ) × Env) → IsDeclared G
    → MeansParamBounds G l bs x → HasParamBounds G x.1 x.0
param_bounds_are G l bs x h no_array = record { mentions = mentions_none G h; lengths = λ ns e. absurd cc }
param_bounds_are G l bs x h (open_array {bs = cs} ns m) =
    let p = bounds_are G l cs ns h m in
    record { mentions = p.mentions; lengths = λ ms e. subst AreLengths (some_list ns.0 ms e) p.lengths }
param_bounds_are G l bs x h (bound_array {e = e} {bs = cs} n ns m k) =
    let p = bound_is G l (Some e) n h m in
    let q = bounds_are n.1 l cs ns p.0.declared k in
    record {
      mentions = mentions_on G n.1 ns.1 p.0 q.mentions;
      lengths = λ ms e. subst AreLengths (some_list ns.0 ms e) q.lengths;
    }

-- ---- the type of a parameter

-- a type with a number in the table that it comes into, and no array
record IsParamType (t u : Table) (c : CType) : Type 0 where
  comes : TypeComes t u c
  whole : is_array c ≡ false

no_array_pointer : (c : CType) → is_array (pointer_to c) ≡ false
no_array_pointer c = rw (more_stars c.stars) refl

known_array : (t : Table) (c : CType) → is_array c ≡ true → IsKnownBase t c.base → HasNumber t c
known_array t c a k =
    let p = of_base c (is_array_base c.base) a in
    subst (HasNumber t) (base_again c p.0) (by c.base p.1 k)
  where
    by : (b : Base) → is_array_base b ≡ true → IsKnownBase t b → HasNumber t (record { base = b; stars = 0 })
    by bases.Void q k = never q
    by (bases.Int i) q k = never q
    by (bases.Array n) q k = (n, k)
    by (bases.Aggregate a) q k = never q

param_type_is : (t : Table) (c : CType) (o : Option (List ℕ)) (r : CType × Table) → IsTable t → IsKnownBase t c.base
    → ((ns : List ℕ) → o ≡ Some ns → AreLengths ns) → param_type t c o ≡ Ok r → IsParamType t r.1 r.0
unfolding param_type
param_type_is t c (Some ns) r h k l e =
    let x = after (arrays_of t c ns) _ r e in
    let p = arrays_come t c ns x.0 h k (l ns refl) x.1 in
    let d : CType = pointer_to x.0.0 in
    let base = known_base x.0.1 x.0.0 p.number p.table in
    let q = type_comes x.0.1 d p.table base in
    let sized = after (needed 33 (size_of_type x.0.1 x.0.0)) _ r x.2 in
    let same = fine_is {A = CType × Table} (d, with_c_type x.0.1 d) r sized.2 in
    subst (λ (y : CType × Table). IsParamType t y.1 y.0) same (record {
      comes = record {
        table = q.table;
        grows = grows-trans t x.0.1 (with_c_type x.0.1 d) p.grows q.grows;
        number = (_, q.has);
        rows = q.rows ∙ p.rows;
      };
      whole = no_array_pointer x.0.0;
    })
param_type_is t c None r h k l e =
    let d : CType = if is_array c then pointer_to (element_of t c) else c in
    let base = by (is_array c) refl in
    let q = type_comes t d h base.0 in
    let same = fine_is {A = CType × Table} (d, with_c_type t d) r e in
    subst (λ (y : CType × Table). IsParamType t y.1 y.0) same (record {
      comes = record { table = q.table; grows = q.grows; number = (_, q.has); rows = q.rows };
      whole = base.1;
    })
  where
    by : (b : Bool) → is_array c ≡ b → IsKnownBase t (if b then pointer_to (element_of t c) else c).base
        × (is_array (if b then pointer_to (element_of t c) else c) ≡ false)
    by true q =
        let i = known_array t c q k in
        let r = array_is_of t h c i.0 q i.1 in
        let n : HasNumber t (element_of t c) = subst (HasNumber t) (sym r.2.element) (r.0, r.2.has) in
        (known_base t (element_of t c) n h, no_array_pointer (element_of t c))
    by false q = (k, q)

-- ---- names of parameters

-- a variable with the block of one of these parameters, whose blocks have the numbers from this one on
abbrev pub IsParamName : (first : ℕ) → List CType → Meaning → Type 0
IsParamName b cs (variable k c) = (j : ℕ) × (k ≡ b + j) × (slice_get cs j ≡ Some c)
IsParamName b cs (function n) = ⊥
IsParamName b cs (type_name c) = ⊥

later_get : (cs more : List CType) (j : ℕ) (c : CType) → slice_get cs j ≡ Some c → slice_get (cs ++ more) j ≡ Some c
later_get cs more j c h = slice_get-append cs more j c h

more_params_named : (b : ℕ) (cs more : List CType) (m : Meaning) → IsParamName b cs m → IsParamName b (cs ++ more) m
more_params_named b cs more (variable k c) h = (h.0, h.1, later_get cs more h.0 c h.2)
more_params_named b cs more (function n) h = h
more_params_named b cs more (type_name c) h = h

-- the names of the innermost scope
abbrev pub first_names : List Scope → List (List ℕ × Meaning)
first_names [] = []
first_names (s ∷ ss) = s.names

same_inner : (P : Meaning → Type 0) (ss us : List Scope) → HaveNames ss us → EachName P (first_names ss)
    → EachName P (first_names us)
same_inner P [] [] n h = h
same_inner P [] (u ∷ us) n h = absurd n
same_inner P (s ∷ ss) [] n h = absurd n
same_inner P (s ∷ ss) (u ∷ us) n h = subst (EachName P) n.0 h

inner_named : (P : Meaning → Type 0) (ss : List Scope) (n : List ℕ) (m : Meaning) → EachName P (first_names ss) → P m
    → EachName P (first_names (name_in ss n m))
inner_named P [] n m h k = h
inner_named P (s ∷ ss) n m h k = name_push P s.names n m h k

-- ---- one parameter

pub record ParamComes (G H : Env) (b : ℕ) (cs : List CType) : Type 0 where
  pub declared : IsDeclared H
  pub grows : Grows G.types H.types
  pub blocks : H.blocks ≡ G.blocks
  pub functions : H.functions ≡ G.functions
  pub names : NamesGrow G.scopes H.scopes
  pub passed : ArePassed H.types cs
  pub named : (first : ℕ) (done : List CType) → b ≡ first + length done → EachName (IsParamName first done) (first_names G.scopes)
      → EachName (IsParamName first (done ++ cs)) (first_names H.scopes)

scalar_left : (c : CType) → is_void c ≡ false → is_aggregate c ≡ false → is_array c ≡ false → is_scalar c ≡ true
scalar_left c v g a = by (is_pointer c) refl
  where
    by : (p : Bool) → is_pointer c ≡ p → is_scalar c ≡ true
    by true q = rw q refl
    by false q =
        let i = integer_left c q v a g in rw q (let k : is_int_base c.base ≡ true = (rw q at i) in k)

at_end : (done : List CType) (c : CType) → slice_get (done ++ c ∷ []) (length done) ≡ Some c
at_end done c = get_last done c

named_comes : (G : Env) (o : Option (List ℕ)) (b : ℕ) (c : CType) (d : CType × Env) → IsDeclared G → IsPassed G.types c
    → named_param o b (c, G) ≡ d → ParamComes G d.1 b (d.0 ∷ [])
named_comes G None b c d h p e = subst (λ (x : CType × Env). ParamComes G x.1 b (x.0 ∷ [])) e (record {
  declared = h;
  grows = kept_by_itself G.types;
  blocks = refl;
  functions = refl;
  names = names_stay G.scopes G.scopes (same_names G.scopes);
  passed = (p, tt);
  named = λ first done q k. name_more (IsParamName first done) (IsParamName first (done ++ c ∷ []))
      (more_params_named first done (c ∷ [])) (first_names G.scopes) k;
})
named_comes G (Some t) b c d h p e = subst (λ (x : CType × Env). ParamComes G x.1 b (x.0 ∷ [])) e (record {
  declared = record {
    table = h.table;
    fields = h.fields;
    names = name_comes (IsTyped G.types) G.scopes t (variable b c) h.names p.1;
    tags = tags_named (λ a. a < length G.types.aggregates) G.scopes t (variable b c) h.tags;
    functions = h.functions;
  };
  grows = kept_by_itself G.types;
  blocks = refl;
  functions = refl;
  names = names_same_or_more G.scopes t (variable b c);
  passed = (p, tt);
  named = λ first done q k. inner_named (IsParamName first (done ++ c ∷ [])) G.scopes t (variable b c)
      (name_more (IsParamName first done) (IsParamName first (done ++ c ∷ [])) (more_params_named first done (c ∷ []))
      (first_names G.scopes) k) (length done, q, at_end done c);
})

-- what comes before a parameter's name
after_declares : (G H I : Env) (b : ℕ) (cs : List CType) → Declares G H → ParamComes H I b cs → ParamComes G I b cs
after_declares G H I b cs d p = record {
  declared = p.declared;
  grows = grows-trans G.types H.types I.types d.grows p.grows;
  blocks = p.blocks ∙ d.blocks;
  functions = p.functions ∙ d.functions;
  names = names_grow_on G.scopes H.scopes I.scopes (names_stay G.scopes H.scopes d.names) p.names;
  passed = p.passed;
  named = λ first done q k. p.named first done q (same_inner (IsParamName first done) G.scopes H.scopes d.names k);
}

with_param_comes : (G : Env) (o : Option (List ℕ)) (b : ℕ) (c : CType) (ns : Option (List ℕ)) (d : CType × Env) → IsDeclared G
    → IsKnownBase G.types c.base → ((ms : List ℕ) → ns ≡ Some ms → AreLengths ms) → with_param G o b c ns ≡ Ok d
    → ParamComes G d.1 b (d.0 ∷ [])
unfolding with_param
with_param_comes G o b c ns d h k l e =
    let a = unless (is_name_taken G o) 31 _ d e in
    let r = after (param_type G.types c ns) _ d a.1 in
    let p = param_type_is G.types c ns r.0 h.table k l r.1 in
    let q = after (passable G r.0) _ d r.2 in
    let x = unless (is_void r.0.0) 33 _ q.0 q.1 in
    let y = unless (is_aggregate r.0.0) 43 _ q.0 x.1 in
    let H = with_types G r.0.1 in
    let same = fine_is {A = CType × Env} (r.0.0, H) q.0 y.1 in
    let named : named_param o b q.0 ≡ d = (let z = q.2 in cc) in
    let m = table_mentioned G r.0.1 h p.comes.grows p.comes.table (same_rows_open G.types r.0.1 p.comes.rows) in
    after_declares G H d.1 b (d.0 ∷ []) (declares_mentions G H m)
    (named_comes H o b r.0.0 d m.declared (scalar_left r.0.0 x.0 y.0 p.whole, p.comes.number)
    (ap (named_param o b) same ∙ named))

pub param_comes : (G : Env) (b : ℕ) (p : Param) (d : CType × Env) → IsDeclared G → MeansParam G b p d → ParamComes G d.1 b (d.0 ∷ [])
param_comes G b p d h (is_param c ns x m n e) =
    let s = words_specified G [] p.words c h m in
    let H = c.1 in
    let l = param_bounds_are H p.line p.bounds ns s.declares.declared n in
    let I = ns.1 in
    let i = l.mentions.declared in
    after_declares G H d.1 b (d.0 ∷ []) s.declares (after_declares H I d.1 b (d.0 ∷ []) (declares_mentions H I l.mentions)
    (with_param_comes I p.name b (with_stars c.0 (length p.stars)) ns.0 d i
    (known_base I.types c.0 (has_number_stays H.types I.types l.mentions.grows i.table.built c.0 s.number) i.table) l.lengths e))

-- ---- parameters and heads

-- types that follow one another are all passed
params_on : (G H I : Env) (b : ℕ) (c : CType) (cs : List CType) → ParamComes G H b (c ∷ []) → ParamComes H I (b + 1) cs
    → ParamComes G I b (c ∷ cs)
params_on G H I b c cs p q = record {
  declared = q.declared;
  grows = grows-trans G.types H.types I.types p.grows q.grows;
  blocks = q.blocks ∙ p.blocks;
  functions = q.functions ∙ p.functions;
  names = names_grow_on G.scopes H.scopes I.scopes p.names q.names;
  passed = (passed_stays H.types I.types q.grows q.declared.table.built c p.passed.0, q.passed);
  named = λ first done e k.
      let r = q.named first (done ++ c ∷ []) (omega (arith, e, length-append done (c ∷ []))) (p.named first done e k) in
      subst (λ (ds : List CType). EachName (IsParamName first ds) (first_names I.scopes)) (one_by_one done c cs) r;
}
  where
    one_by_one : (done : List CType) (c : CType) (cs : List CType) → (done ++ c ∷ []) ++ cs ≡ done ++ (c ∷ cs)
    one_by_one [] c cs = refl
    one_by_one (d ∷ ds) c cs = ap (λ xs. d ∷ xs) (one_by_one ds c cs)

params_come : (G : Env) (b : ℕ) (ps : List Param) (x : List CType × Env) → IsDeclared G → MeansParams G b ps x
    → ParamComes G x.1 b x.0
params_come G b ps x h no_params = record {
  declared = h;
  grows = kept_by_itself G.types;
  blocks = refl;
  functions = refl;
  names = names_stay G.scopes G.scopes (same_names G.scopes);
  passed = tt;
  named = λ first done e k. subst (λ (ds : List CType). EachName (IsParamName first ds) (first_names G.scopes)) (no_more done) k;
}
  where
    no_more : (done : List CType) → done ≡ done ++ []
    no_more [] = refl
    no_more (d ∷ ds) = ap (λ xs. d ∷ xs) (no_more ds)
params_come G b ps x h (more_params {p = p} {ps = qs} c cs m n) =
    let a = param_comes G b p c h m in
    params_on G c.1 cs.1 b c.0 cs.0 a (params_come c.1 (b + 1) qs cs a.declared n)

-- a head, in the environment behind which the scope of its parameters is innermost
pub record HeadComes (G H : Env) (b : ℕ) (r : Headed) : Type 0 where
  pub declared : IsDeclared H
  pub grows : Grows G.types H.types
  pub blocks : H.blocks ≡ G.blocks
  pub functions : H.functions ≡ G.functions
  pub inner : Scope
  pub scopes : List Scope
  pub is : H.scopes ≡ inner ∷ scopes
  pub outer : HaveNames G.scopes scopes
  pub named : EachName (IsParamName (behind_result b r.result) r.params) inner.names
  pub passed : ArePassed H.types r.params
  pub result : (r.result ≡ void_type) ⊎ IsPassed H.types r.result
  pub some : 0 < length H.types.types

pub void_is : (c : CType) → is_void c ≡ true → c ≡ void_type
void_is c h =
    let p = of_base c (is_void_base c.base) h in sym (base_again c p.0) ∙ ap (λ (b : Base). record { base = b; stars = 0 }) (by c.base p.1)
  where
    by : (b : Base) → is_void_base b ≡ true → b ≡ bases.Void
    by bases.Void q = refl
    by (bases.Int i) q = never q
    by (bases.Array n) q = never q
    by (bases.Aggregate a) q = never q

pub given_back_is : (c t : CType) → given_back c ≡ Ok t → (c ≡ t) × (is_aggregate t ≡ false) × (is_array t ≡ false)
given_back_is c t e =
    let x = unless (is_aggregate c || is_array c) 43 (Ok c) t e in
    let same : c ≡ t = (let q = x.1 in cc) in
    let n = not_either (is_aggregate c) (is_array c) x.0 in
    (same, subst (λ (d : CType). is_aggregate d ≡ false) same n.0, subst (λ (d : CType). is_array d ≡ false) same n.1)
  where
    not_either : (a b : Bool) → (a || b) ≡ false → (a ≡ false) × (b ≡ false)
    not_either true b h = absurd (true≢false h)
    not_either false b h = (refl, h)

head_scopes : (ss us : List Scope) → NamesGrow (no_names ∷ ss) us → (u : Scope) × (vs : List Scope) × (us ≡ u ∷ vs) × HaveNames ss vs
head_scopes ss [] n = absurd n
head_scopes ss (u ∷ us) n = (u, us, refl, n.1)

pub declared_entered : (G : Env) → IsDeclared G → IsDeclared (entered G)
declared_entered G h =
    record {
      table = h.table;
      fields = h.fields;
      names = (tt, h.names);
      tags = (tt, h.tags);
      functions = h.functions;
    }

pub head_comes : (G : Env) (b : ℕ) (h : Head) (x : Headed × Env) → IsDeclared G → MeansHead G b h x → HeadComes G x.1 b x.0
head_comes G b h x k (is_head c t ps m e n) =
    let s = specified G [] [] (to_specs h.specs) c k m in
    let H = c.1 in
    let g = given_back_is (with_stars c.0 (length h.stars)) t e in
    let base : IsKnownBase H.types t.base =
    subst (λ (d : CType). IsKnownBase H.types d.base) g.0 (known_base H.types c.0 s.number s.declares.declared.table) in
    let y = type_mentioned H t s.declares.declared base in
    let I : Env = with_types H (with_c_type H.types t) in
    let p = params_come (entered I) (behind_result b t) (params_of h.params) ps (declared_entered I y.0.declared) n in
    let J = ps.1 in
    let u = head_scopes I.scopes J.scopes p.names in
    let number = has_number_stays I.types J.types p.grows p.declared.table.built t y.1 in
    let d = declares_on G H I s.declares (declares_mentions H I y.0) in
    record {
      declared = p.declared;
      grows = grows-trans G.types I.types J.types d.grows p.grows;
      blocks = p.blocks ∙ d.blocks;
      functions = p.functions ∙ d.functions;
      inner = u.0;
      scopes = u.1;
      is = u.2;
      outer = names_on G.scopes I.scopes u.1 d.names u.3;
      named = subst (λ (ss : List Scope). EachName (IsParamName (behind_result b t) ps.0) (first_names ss)) u.2
          (p.named (behind_result b t) [] (omega arith) tt);
      passed = p.passed;
      result = result_is J t number g.1 g.2;
      some = omega (arith, number_below J.types t number.0 number.1);
    }
  where
    result_is : (J : Env) (t : CType) → HasNumber J.types t → is_aggregate t ≡ false → is_array t ≡ false
        → (t ≡ void_type) ⊎ IsPassed J.types t
    result_is J t number g a = by (is_void t) refl
      where
        by : (v : Bool) → is_void t ≡ v → (t ≡ void_type) ⊎ IsPassed J.types t
        by true q = inl (void_is t q)
        by false q = inr (scalar_left t q g a, number)
