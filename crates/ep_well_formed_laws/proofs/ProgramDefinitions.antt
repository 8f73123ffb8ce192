-- Definitions of functions: with blocks of their own, or over those of another.
use Rattle.std.proofs.Common.{◌≡◌, ℕ, zero, suc, ◌+◌, ◌<◌, Bool, true, false, true≢false, List, [], ◌∷◌, ◌++◌, length}
use Rattle.ep_layout.proofs.Basics.{grows-trans}
use Rattle.ep_int.proofs.Basics.{slice_get-append}
use Rattle.std.proofs.Common.{length-append, map, slice_get, option_to_list, Option, Some, None, Ok, refl, sym, ap}
use Rattle.std.proofs.Common.{◌∙◌, subst, ◌⊎◌, inl, inr, arith}
use Rattle.ep_int.specs.Memory.{contains}
use Rattle.ep_ast.specs.Statement.{Function, to_parts}
use Rattle.ep_layout.specs.Table.{Grows, Table}
use Rattle.ep_core.specs.Program.{Block}
use Rattle.ep_core.specs.Exec.{first_of}
use Rattle.ep_core.specs.WellFormed.{own_blocks, scoped}
use Rattle.ep_typing.specs.declared.types.CType.{CType}
use Rattle.ep_typing.specs.Types.{c_type_number, is_void, void_type}
use Rattle.ep_typing.specs.Env as env
use Rattle.ep_typing.specs.Env.{Env, Meaning, Scope, Signature, entry}
use Rattle.ep_elaboration.specs.Calls.{stands_in_parts}
use Rattle.ep_elaboration.specs.Functions.{Defined, Headed, behind_result, file_names, function_declared}
use Rattle.ep_elaboration.specs.Functions.{number_of_function, numbered_from, own_block, result_at, results}
use Rattle.ep_elaboration.specs.Functions.{signature_of, with_blocks}
use Rattle.ep_elaboration.specs.Statements.{blocks_behind, innermost, left, outer, to_core}
use Rattle.ep_elaboration.specs.FunctionRules.{MeansDefinition, MeansHead, is_definition, is_function}
use Rattle.ep_well_formed_laws.specs.Numbers.{type_number}
use Rattle.ep_well_formed_laws.specs.Environments.{CanName, Covers, EachName, IsPassed}
use Rattle.ep_well_formed_laws.specs.Statements.{StmtsFit}
use Rattle.ep_well_formed_laws.proofs.Additions.{c_number_is, type_number_stays}
use Rattle.ep_well_formed_laws.proofs.DefinedFunctions.{all_hold, body_is, globals_later, holds_at, param_get}
use Rattle.ep_well_formed_laws.proofs.DefinedFunctions.{passed_at, result_get, result_is, result_number, result_part}
use Rattle.ep_well_formed_laws.proofs.Heads.{IsParamName, head_comes}
use Rattle.ep_well_formed_laws.proofs.Scopes.{HaveNames, meaning_more}
use Rattle.ep_well_formed_laws.proofs.Counts.{below, count, count_both}
use Rattle.ep_well_formed_laws.proofs.CallNames.{CallsTo, EachCall, ScopesFit, scopes_fit_same}
use Rattle.ep_well_formed_laws.proofs.DefinedFits.{DefinedFits, IsTypedBlock, ParamsAre, ResultIs, a_block, no_block}
use Rattle.ep_well_formed_laws.proofs.FileScopes.{FileComes, file_comes_on, file_declared, file_of_names}
use Rattle.ep_well_formed_laws.proofs.FunctionNames.{AreNumbered, StayNamed, declared_as, same_file_names}
use Rattle.ep_well_formed_laws.proofs.FunctionParts.{AtFile, BodyStands, body_stands, body_walks, one_scope, own_lists}
use Rattle.ep_well_formed_laws.proofs.FunctionParts.{own_local}
use Rattle.ep_well_formed_laws.proofs.Walks.{LocalCome, blocks_on}

-- ---- a function whose name is known, before its body

pub record Started (G K : Env) (ds : List ℕ) (b : ℕ) (name : List ℕ) (h : Headed) (number : ℕ) (inner : Scope)
    : Type 0 where
  pub stands : BodyStands G K b h inner
  pub scope : Scope
  pub file : K.scopes ≡ scope ∷ []
  pub late : List Signature
  pub functions : K.functions ≡ G.functions ++ late
  pub names : (k : ℕ) (r : Signature) → slice_get K.functions k ≡ Some r
      → (slice_get G.functions k ≡ Some r) ⊎ (r.name ≡ name)
  pub is : Signature
  pub here : slice_get K.functions number ≡ Some is
  pub name_is : name ≡ is.name
  pub params : is.params ≡ h.params
  pub result : is.result ≡ h.result
  pub numbered : AreNumbered K.functions
  pub fit : ScopesFit K.functions K.scopes
  pub stays : StayNamed G K
  pub named : entry name (file_names K) ≡ Some (env.function number)
  pub fresh : (entry name (file_names G) ≡ None → number_of_function G.functions name ≡ None)
      → ((k : ℕ) → contains k ds ≡ true → k < length G.functions) → contains number ds ≡ false
  pub comes : FileComes G K

same_names_in : (G H : Env) → HaveNames G.scopes H.scopes → (innermost G).names ≡ (innermost H).names
same_names_in G H n = by G.scopes H.scopes n
  where
    by : (ss us : List Scope) → HaveNames ss us
        → (innermost (record G { scopes = ss })).names ≡ (innermost (record H { scopes = us })).names
    by [] [] k = refl
    by [] (u ∷ us) k = absurd k
    by (s ∷ ss) [] k = absurd k
    by (s ∷ ss) (u ∷ us) k = k.0

pub started : (G : Env) (b : ℕ) (ds : List ℕ) (f : Function) (x : Headed × Env) (n : ℕ × Env) → AtFile G
    → MeansHead G b f.head x → function_declared (left x.1) ds true (signature_of f.head x.0) ≡ Ok n
    → Started G n.1 ds b f.head.name x.0 n.0 (innermost x.1)
started G b ds f x n h m e =
    let R = x.1 in
    let L = left R in
    let k = head_comes G b f.head x h.env.declared m in
    let o : outer R.scopes ≡ k.scopes = ap outer k.is in
    let names : HaveNames G.scopes L.scopes = subst (HaveNames G.scopes) (sym o) k.outer in
    let one = one_scope G.scopes L.scopes h.scope names h.file in
    let numbered = subst AreNumbered (sym k.functions) h.numbered in
    let fit = subst (λ (fs : List Signature). ScopesFit fs L.scopes) (sym k.functions)
    (scopes_fit_same G.functions G.scopes L.scopes names h.fit) in
    let d = declared_as L ds true (signature_of f.head x.0) n (one.0, [], one.1) numbered fit e in
    let v = d.file one.0 one.1 in
    let same : (innermost G).names ≡ (innermost L).names = same_names_in G L names in
    record {
      stands = body_stands G b ds f x n h.env h.covers k e;
      scope = v.0;
      file = v.1;
      late = d.more;
      functions = d.functions ∙ ap (λ (fs : List Signature). fs ++ d.more) k.functions;
      names = λ j r w. elim (d.names j r w) [
        | inl old ↦ inl (subst (λ (fs : List Signature). slice_get fs j ≡ Some r) k.functions old)
        | inr q ↦ inr q
      ];
      is = d.is;
      here = d.here;
      name_is = d.name;
      params = d.types.params;
      result = d.types.result;
      numbered = d.numbered;
      fit = d.fit;
      stays = λ t y w. d.stays t y (same_file_names G L names t y w);
      named = d.named;
      fresh = λ none below_all. d.fresh refl
          (λ w. subst (λ (fs : List Signature). number_of_function fs f.head.name ≡ None) (sym k.functions)
          (none (ap (entry f.head.name) same ∙ w)))
          (λ j w. subst (λ (fs : List Signature). j < length fs) (sym k.functions) (below_all j w));
      comes = file_comes_on G L n.1 (file_of_names G L names)
          (file_declared L ds true (signature_of f.head x.0) n e);
    }

-- ---- places of parameters and results

params_from : (t : Table) (bs : List Block) (b : ℕ) (cs : List CType)
    → ((j : ℕ) (c : CType) → slice_get cs j ≡ Some c → IsTypedBlock t bs (b + j) c)
    → ParamsAre t bs (numbered_from b cs) cs
params_from t bs b [] f = tt
params_from t bs b (c ∷ cs) f = (
  (let z : b + 0 ≡ b = omega arith in subst (λ (k : ℕ). IsTypedBlock t bs k c) z (f 0 c refl)),
  params_from t bs (b + 1) cs (λ j d e.
      let z : b + suc j ≡ b + 1 + j = omega arith in subst (λ (k : ℕ). IsTypedBlock t bs k d) z (f (suc j) d e)),
)

pub param_at : (t : Table) (bs : List Block) (b : ℕ) (cs : List CType) → ParamsAre t bs (numbered_from b cs) cs
    → (j : ℕ) (c : CType) → slice_get cs j ≡ Some c → IsTypedBlock t bs (b + j) c
param_at t bs b [] h j c e = absurd cc
param_at t bs b (d ∷ cs) h zero c e =
    let same : d ≡ c = cc in
    let z : b ≡ b + 0 = omega arith in
    subst (λ (k : ℕ). IsTypedBlock t bs k c) z (subst (IsTypedBlock t bs b) same h.0)
param_at t bs b (d ∷ cs) h (suc j) c e =
    let z : b + 1 + j ≡ b + suc j = omega arith in
    subst (λ (k : ℕ). IsTypedBlock t bs k c) z (param_at t bs (b + 1) cs h.1 j c e)

result_of : (t u : Table) (bs : List Block) (b : ℕ) (c : CType) → (c ≡ void_type) ⊎ IsPassed t c
    → (is_void c ≡ false → slice_get bs b ≡ Some (own_block t c))
    → ((d : CType) → IsPassed t d → type_number u d ≡ Some (c_type_number t d))
    → ResultIs u bs (result_at b c) c
result_of t u bs b c r f g = by (is_void c) refl r
  where
    by : (v : Bool) → is_void c ≡ v → (c ≡ void_type) ⊎ IsPassed t c → ResultIs u bs (result_at b c) c
    by true q k = no_block q (rw q refl)
    by false q (inl e) = absurd (true≢false (sym (subst (λ (d : CType). is_void d ≡ true) (sym e) refl) ∙ q))
    by false q (inr k) = a_block b q (rw q refl) (own_block t c, f q, g c k)

-- ---- definitions

pub record DefinitionWalks (G H : Env) (ds : List ℕ) (round : ℕ) (f : Function) (d : Defined) : Type 0 where
  pub file : AtFile H
  pub grows : Grows G.types H.types
  pub blocks : LocalCome G.blocks H.blocks
  pub late : List Signature
  pub functions : H.functions ≡ G.functions ++ late
  pub names : (k : ℕ) (r : Signature) → slice_get H.functions k ≡ Some r
      → (slice_get G.functions k ≡ Some r) ⊎ (r.name ≡ f.head.name)
  pub stays : StayNamed G H
  pub named : entry f.head.name (file_names H) ≡ Some (env.function d.number)
  pub fresh : (entry f.head.name (file_names G) ≡ None → number_of_function G.functions f.head.name ≡ None)
      → ((k : ℕ) → contains k ds ≡ true → k < length G.functions) → contains d.number ds ≡ false
  pub comes : FileComes G H
  pub fits : DefinedFits H.types H.blocks H.functions d
  pub name : d.function.name ≡ f.head.name
  pub lists : (c : ℕ) → count c (own_blocks d.function) + below (length G.blocks) c ≡ below (length H.blocks) c
  pub calls : EachCall (λ k. CallsTo H.functions k (stands_in_parts round (to_parts f.body.parts))) d.function.body

pub definition_walks : (G : Env) (ds : List ℕ) (round : ℕ) (f : Function) (d : Defined × Env) → AtFile G
    → MeansDefinition G ds f d → DefinitionWalks G d.1 ds round f d.0
definition_walks G ds round f d h (is_definition y (is_function x n a m e p)) =
    let s = started G (length G.blocks) ds f x n h m e in
    let K = n.1 in
    let A = a.1 in
    let H = left A in
    let inner : Scope = innermost x.1 in
    let cs = x.0.params in
    let own : List Block = map (own_block K.types) (results x.0 ++ cs) in
    let B = with_blocks K (results x.0 ++ cs) in
    let b = length G.blocks in
    let first : ℕ = behind_result b x.0.result in
    let size : length K.blocks ≡ b = ap length s.stands.blocks in
    let first_is : behind_result (length K.blocks) x.0.result
    ≡ first = ap (λ (j : ℕ). behind_result j x.0.result) size in
    let named : EachName (IsParamName (behind_result (length K.blocks) x.0.result) cs) inner.names =
    subst (λ (j : ℕ). EachName (IsParamName j cs) inner.names) (sym first_is) s.stands.named in
    let inside = body_is K x.0 inner s.stands.env s.stands.typed s.stands.tags named s.stands.passed s.stands.result in
    let covers : Covers [] B = meaning_more (CanName K.blocks []) (CanName (K.blocks ++ own) [])
    (globals_later K.blocks own [])
    K.scopes s.stands.covers in
    let r : Option ℕ = result_number K.types x.0.result in
    let w = body_walks B round x.0.result r inner first cs (to_parts f.body.parts) a inside covers s.stands.named
    s.stands.some
    (result_is K.types x.0.result s.stands.result) s.fit p in
    let come : LocalCome G.blocks B.blocks =
    record {
      more = own;
      is = ap (λ (bs : List Block). bs ++ own) s.stands.blocks;
      local = own_local K.types
          (results x.0 ++ cs);
    } in
    let here : (j : ℕ) (z : Block) → slice_get B.blocks j ≡ Some z → slice_get A.blocks j ≡ Some z =
    λ j z q. subst (λ (ys : List Block). slice_get ys j ≡ Some z) (sym w.blocks.is)
    (slice_get-append B.blocks w.blocks.more j z q) in
    let table = w.env.declared.table in
    let number : (t : CType) → IsPassed K.types t → type_number A.types t ≡ Some (c_type_number K.types t) =
    λ t q. type_number_stays K.types A.types w.grows table.built t q.1.0 q.1.1
    ∙ ap (λ (j : ℕ). Some j) (sym (c_number_is K.types t q.1.0 q.1.1)) in
    let param_here : (j : ℕ) (c : CType) → slice_get cs j ≡ Some c
    → slice_get A.blocks (first + j) ≡ Some (own_block K.types c) =
    λ j c q. subst (λ (i : ℕ). slice_get A.blocks (i + j) ≡ Some (own_block K.types c)) first_is
    (here (behind_result (length K.blocks) x.0.result + j) (own_block K.types c)
    (param_get x.0 K.blocks (own_block K.types) j c q)) in
    let result_here : is_void x.0.result ≡ false → slice_get A.blocks b ≡ Some (own_block K.types x.0.result) =
    λ v. subst (λ (j : ℕ). slice_get A.blocks j ≡ Some (own_block K.types x.0.result)) size
    (here (length K.blocks) (own_block K.types x.0.result) (result_get x.0 K.blocks (own_block K.types) v)) in
    let result = result_part K.types A.types A.blocks x.0 b result_here table w.some s.stands.result number in
    record {
      file = record {
        env = w.env;
        covers = w.covers;
        scope = (one_scope K.scopes H.scopes s.scope w.names_stay s.file).0;
        file = (one_scope K.scopes H.scopes s.scope w.names_stay s.file).1;
        numbered = subst AreNumbered (sym w.functions) s.numbered;
        fit = subst (λ (fs : List Signature). ScopesFit fs H.scopes) (sym w.functions)
            (scopes_fit_same K.functions K.scopes H.scopes w.names_stay s.fit);
      };
      grows = grows-trans G.types K.types A.types s.stands.grows w.grows;
      blocks = blocks_on G.blocks B.blocks A.blocks come w.blocks;
      late = s.late;
      functions = w.functions ∙ s.functions;
      names = λ k u q. s.names k u (subst (λ (fs : List Signature). slice_get fs k ≡ Some u) w.functions q);
      stays = λ t z q. same_file_names K H w.names_stay t z (s.stays t z q);
      named = same_file_names K H w.names_stay f.head.name (env.function n.0) s.named;
      fresh = s.fresh;
      comes = file_comes_on G K H s.comes (file_of_names K H w.names_stay);
      fits = record {
        signature = s.is;
        is = subst (λ (fs : List Signature). slice_get fs n.0 ≡ Some s.is) (sym w.functions) s.here;
        name = s.name_is;
        params = subst (ParamsAre A.types A.blocks (numbered_from first cs)) (sym s.params)
            (params_from A.types A.blocks first cs (λ j c q.
            (own_block K.types c, param_here j c q, number c (passed_at K.types cs j c s.stands.passed q))));
        result = subst (ResultIs A.types A.blocks (result_at b x.0.result)) (sym s.result)
            (result_of K.types A.types A.blocks b x.0.result s.stands.result result_here number);
        params_at = ap (λ (c : CType). numbered_from (behind_result b c) cs) (sym s.result)
            ∙ ap (numbered_from (behind_result b s.is.result)) (sym s.params);
        result_at_first = ap (result_at b) (sym s.result);
        params_hold = all_hold A.types A.blocks first cs (λ j t q.
            let v = passed_at K.types cs j t s.stands.passed q in
            holds_at A.types A.blocks table w.some (first + j) t (own_block K.types t) (param_here j t q) v.0
            (number t v));
        result_holds = result.0;
        body = λ seen all. subst (λ (o : Option ℕ). StmtsFit A.types A.blocks A.functions o (to_core a.0) seen
            false) (sym result.1)
            (w.fits seen all);
      };
      name = refl;
      lists = λ c.
          let e1 = own_lists x.0 b c in
          let e2 = w.lists c in
          let own_size : length own ≡ length (results x.0 ++ cs) = map_length (own_block K.types) (results x.0 ++ cs) in
          let size_b : length B.blocks ≡ b + length (results x.0 ++ cs) =
          length-append K.blocks own ∙ ap (λ (i : ℕ). i + length own) size ∙ ap (λ (i : ℕ). b + i) own_size in
          let e3 : below (length B.blocks) c
          ≡ below (b + length (results x.0 ++ cs)) c = ap (λ (i : ℕ). below i c) size_b in
          let ps = first_of (numbered_from first cs) in
          let ls = blocks_behind (length inner.names) A in
          let rs = first_of (option_to_list (result_at b x.0.result)) in
          let ss = scoped (to_core a.0) in
          let e4 = count_both c (ps ++ ls) (rs ++ ss) in
          let e5 = count_both c ps ls in
          let e6 = count_both c rs ss in omega (arith, e1, e2, e3, e4, e5, e6);
      calls = subst (λ (fs : List Signature). EachCall
          (λ k. CallsTo fs k (stands_in_parts round (to_parts f.body.parts))) (to_core a.0))
          (sym w.functions) w.calls;
    }
  where
    map_length : {X Y : Type 0} (g : X → Y) (xs : List X) → length (map g xs) ≡ length xs
    map_length g [] = refl
    map_length g (z ∷ xs) = let i = map_length g xs in omega (arith, i)
