-- The functions of a second arm, each over the blocks of the one that it stands for.
use Rattle.std.proofs.Common.{◌≡◌, ℕ, ◌+◌, Bool, false, if◌then◌else◌, List, ◌++◌, length, slice_get, Option, Some}
use Rattle.ep_layout.proofs.Basics.{grows-trans}
use Rattle.ep_int.proofs.Basics.{slice_get-append}
use Rattle.std.proofs.Common.{None, sym, ap, ◌∙◌, subst, ◌⊎◌, arith}
use Rattle.ep_int.specs.declared.types.Scalar.{Scalar}
use Rattle.ep_ast.specs.Statement.{Function, to_parts}
use Rattle.ep_layout.specs.Table.{Grows, Table}
use Rattle.ep_layout.proofs.Options.{same_some}
use Rattle.ep_core.specs.Program.{Block}
use Rattle.ep_core.specs.Exec.{first_of}
use Rattle.ep_core.specs.WellFormed.{block_type, result_type, scoped}
use Rattle.ep_typing.specs.declared.types.CType.{CType}
use Rattle.ep_typing.specs.Types.{c_type_number}
use Rattle.ep_typing.specs.Env as env
use Rattle.ep_typing.specs.Env.{Env, Scope, Signature, entry}
use Rattle.ep_elaboration.specs.Calls.{stands_in_parts}
use Rattle.ep_elaboration.specs.Functions.{Body, Defined, Typed, behind_result, body_env, file_names}
use Rattle.ep_elaboration.specs.Functions.{number_of_function, numbered_from}
use Rattle.ep_elaboration.specs.Statements.{blocks_behind, innermost, left, to_core}
use Rattle.ep_elaboration.specs.FunctionRules.{MeansFunction, is_function}
use Rattle.ep_well_formed_laws.specs.Environments.{IsEnv, IsPlaced}
use Rattle.ep_well_formed_laws.specs.Statements.{StmtsFit}
use Rattle.ep_well_formed_laws.proofs.Additions.{c_number_is, type_number_stays}
use Rattle.ep_well_formed_laws.proofs.DefinedFunctions.{param_placed, result_is, result_number}
use Rattle.ep_well_formed_laws.proofs.Heads.{IsParamName}
use Rattle.ep_well_formed_laws.proofs.Scopes.{name_more}
use Rattle.ep_well_formed_laws.proofs.Counts.{below, count}
use Rattle.ep_well_formed_laws.proofs.CallNames.{CallsTo, EachCall, ScopesFit, scopes_fit_same}
use Rattle.ep_well_formed_laws.proofs.DefinedFits.{BodyFits, DefinedFits, IsTypedBlock, ParamsAre, ResultIs, a_block}
use Rattle.ep_well_formed_laws.proofs.DefinedFits.{no_block}
use Rattle.ep_well_formed_laws.proofs.ProgramDefinitions.{param_at, started}
use Rattle.ep_well_formed_laws.proofs.FunctionNames.{AreNumbered, StayNamed, same_file_names}
use Rattle.ep_well_formed_laws.proofs.FunctionParts.{AllIn, AtFile, body_walks, one_scope}
use Rattle.ep_well_formed_laws.proofs.Walks.{LocalCome, blocks_on, same_blocks}

pub record OtherWalks (G H : Env) (round : ℕ) (g : Function) (d : Defined) (x : Body) : Type 0 where
  pub file : AtFile H
  pub grows : Grows G.types H.types
  pub blocks : LocalCome G.blocks H.blocks
  pub late : List Signature
  pub functions : H.functions ≡ G.functions ++ late
  pub names : (k : ℕ) (r : Signature) → slice_get H.functions k ≡ Some r
      → (slice_get G.functions k ≡ Some r) ⊎ (r.name ≡ g.head.name)
  pub stays : StayNamed G H
  pub named : entry g.head.name (file_names H) ≡ Some (env.function d.number)
  pub fits : BodyFits H.types H.blocks H.functions d.function x.locals x.stmts
  pub lists : (c : ℕ) → count c x.locals + count c (scoped x.stmts) + below (length G.blocks) c
      ≡ below (length H.blocks) c
  pub calls : EachCall (λ k. CallsTo H.functions k (stands_in_parts round (to_parts g.body.parts))) x.stmts

-- the same function has the same number and signature
record SameFunction (d n : ℕ) (s u : Signature) : Type 0 where
  number : n ≡ d
  signature : u ≡ s

same_function : (fs : List Signature) (d n : ℕ) (s u : Signature) → AreNumbered fs → slice_get fs d ≡ Some s
    → slice_get fs n ≡ Some u
    → s.name ≡ u.name → SameFunction d n s u
same_function fs d n s u h p q e =
    let a = h.unique d s p in
    let b = h.unique n u q in
    let number : n ≡ d = same_some n d (number_of_function fs u.name) b (ap (number_of_function fs) (sym e) ∙ a) in
    record {
      number = number;
      signature = same_some u s (slice_get fs d) (subst (λ (k : ℕ). slice_get fs k ≡ Some u) number q) p;
    }

-- the number of a result's type is that of its block
number_of_result : (t : Table) (bs : List Block) (o : Option (ℕ × Scalar)) (c : CType) → ResultIs t bs o c
    → result_type bs o ≡ result_number t c
unfolding result_number
number_of_result t bs o c (no_block v e) = ap (result_type bs) e
    ∙ sym (ap (λ (b : Bool). if b then None else Some (c_type_number t c)) v)
number_of_result t bs o c (a_block b v e h) =
    ap (result_type bs) e ∙ ap block_type h.1 ∙ ap (λ (n : ℕ). Some n) (sym (c_number_is t c h.0.ty h.2))
    ∙ sym (ap (λ (b : Bool). if b then None else Some (c_type_number t c)) v)

pub other_walks : (G : Env) (ds : List ℕ) (round : ℕ) (g : Function) (d : Defined) (x : Typed × Env) → AtFile G
    → DefinedFits G.types G.blocks G.functions d → d.function.name ≡ g.head.name → MeansFunction G d.first false ds g x
    → OtherWalks G x.1 round g d x.0.body
other_walks G ds round g d x h k same (is_function y n a m e p) =
    let s = started G d.first ds g y n h m e in
    let K = n.1 in
    let A = a.1 in
    let H = left A in
    let inner : Scope = innermost y.1 in
    let cs = y.0.params in
    let b : ℕ = behind_result d.first y.0.result in
    let there : slice_get K.functions d.number ≡ Some k.signature =
    subst (λ (fs : List Signature). slice_get fs d.number ≡ Some k.signature) (sym s.functions)
    (slice_get-append G.functions s.late d.number k.signature k.is) in
    let one = same_function K.functions d.number n.0 k.signature s.is s.numbered there s.here
    (sym k.name ∙ same ∙ s.name_is) in
    let params : k.signature.params ≡ cs = ap (λ (u : Signature). u.params) (sym one.signature) ∙ s.params in
    let result : k.signature.result ≡ y.0.result = ap (λ (u : Signature). u.result) (sym one.signature) ∙ s.result in
    let frame : d.function.params ≡ numbered_from b cs =
    k.params_at ∙ ap (λ (c : CType). numbered_from (behind_result d.first c) k.signature.params) result
    ∙ ap (numbered_from b) params in
    let table = s.stands.env.declared.table in
    let are : ParamsAre G.types G.blocks (numbered_from b cs) cs =
    subst (ParamsAre G.types G.blocks (numbered_from b cs)) params
    (subst (λ (ps : List (ℕ × Scalar)). ParamsAre G.types G.blocks ps k.signature.params) frame k.params) in
    let later : (j : ℕ) (c : CType) → IsTypedBlock G.types G.blocks j c → IsTypedBlock K.types K.blocks j c =
    λ j c q. (
      q.0,
      subst (λ (bs : List Block). slice_get bs j ≡ Some q.0) (sym s.stands.blocks) q.1,
      type_number_stays G.types K.types s.stands.grows table.built c q.0.ty q.2,
    ) in
    let placed : (j : ℕ) (c : CType) → slice_get cs j ≡ Some c
    → IsPlaced K.types K.blocks K.functions (env.variable (b + j) c) =
    λ j c q. later (b + j) c (param_at G.types G.blocks b cs are j c q) in
    let inside : IsEnv (body_env K inner) = record {
      declared = record {
        table = table;
        fields = s.stands.env.declared.fields;
        names = (s.stands.typed, s.stands.env.declared.names);
        tags = (s.stands.tags, s.stands.env.declared.tags);
        functions = s.stands.env.declared.functions;
      };
      places = (
        name_more (IsParamName b cs) (IsPlaced K.types K.blocks K.functions)
            (param_placed K.types K.blocks K.functions b cs placed) inner.names s.stands.named,
        s.stands.env.places,
      );
      blocks = s.stands.env.blocks;
    } in
    let r : Option ℕ = result_number K.types y.0.result in
    let w = body_walks K round y.0.result r inner b cs (to_parts g.body.parts) a inside s.stands.covers s.stands.named
    s.stands.some (result_is K.types y.0.result s.stands.result) s.fit p in
    let result_here : ResultIs K.types K.blocks d.function.result y.0.result =
    result_later later d.function.result y.0.result
    (subst (ResultIs G.types G.blocks d.function.result) result k.result) in
    let result_kept : result_type A.blocks d.function.result ≡ r =
    result_type_kept K.types K.blocks A.blocks d.function.result y.0.result w.blocks result_here
    ∙ number_of_result K.types K.blocks d.function.result y.0.result result_here in
    record {
      file = record {
        env = w.env;
        covers = w.covers;
        scope = (one_scope K.scopes H.scopes s.scope w.names_stay s.file).0;
        file = (one_scope K.scopes H.scopes s.scope w.names_stay s.file).1;
        numbered = subst AreNumbered (sym w.functions) s.numbered;
        fit = subst (λ (fs : List Signature). ScopesFit fs H.scopes) (sym w.functions)
            (scopes_fit_same K.functions K.scopes H.scopes w.names_stay s.fit);
      };
      grows = grows-trans G.types K.types A.types s.stands.grows w.grows;
      blocks = blocks_on G.blocks K.blocks A.blocks (same_blocks G.blocks K.blocks s.stands.blocks) w.blocks;
      late = s.late;
      functions = w.functions ∙ s.functions;
      names = λ j u q. s.names j u (subst (λ (fs : List Signature). slice_get fs j ≡ Some u) w.functions q);
      stays = λ t z q. same_file_names K H w.names_stay t z (s.stays t z q);
      named = same_file_names K H w.names_stay g.head.name (env.function d.number)
          (subst (λ (i : ℕ). entry g.head.name (file_names K) ≡ Some (env.function i)) one.number s.named);
      fits = λ seen all. subst (λ (o : Option ℕ). StmtsFit A.types A.blocks A.functions o (to_core a.0) seen false)
          (sym result_kept)
          (w.fits seen (subst (λ (ps : List (ℕ × Scalar)). AllIn
          (first_of ps ++ blocks_behind (length inner.names) A) seen) frame all));
      lists = λ c.
          let f = w.lists c in
          let size : length K.blocks ≡ length G.blocks = ap length s.stands.blocks in
          let i : below (length K.blocks) c
          ≡ below (length G.blocks) c = ap (λ (j : ℕ). below j c) size in omega (arith, f, i);
      calls = subst (λ (fs : List Signature). EachCall
          (λ j. CallsTo fs j (stands_in_parts round (to_parts g.body.parts))) (to_core a.0))
          (sym w.functions) w.calls;
    }
  where
    result_later : ((j : ℕ) (c : CType) → IsTypedBlock G.types G.blocks j c → IsTypedBlock n.1.types n.1.blocks j c)
        → (o : Option (ℕ × Scalar)) (c : CType) → ResultIs G.types G.blocks o c → ResultIs n.1.types n.1.blocks o c
    result_later f o c (no_block v q) = no_block v q
    result_later f o c (a_block j v q z) = a_block j v q (f j c z)

    result_type_kept : (t : Table) (bs cs : List Block) (o : Option (ℕ × Scalar)) (c : CType) → LocalCome bs cs
        → ResultIs t bs o c
        → result_type cs o ≡ result_type bs o
    result_type_kept t bs cs o c l (no_block v q) = ap (result_type cs) q ∙ sym (ap (result_type bs) q)
    result_type_kept t bs cs o c l (a_block j v q z) =
        ap (result_type cs) q
        ∙ ap block_type (subst (λ (ys : List Block). slice_get ys j ≡ Some z.0) (sym l.is)
        (slice_get-append bs l.more j z.0 z.1) ∙ sym z.1)
        ∙ sym (ap (result_type bs) q)
