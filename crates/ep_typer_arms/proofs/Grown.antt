-- Names go on to have their types while a text's types grow.
use Rattle.std.proofs.Common.{◌≡◌, ℕ, true, List, [], ◌∷◌, ◌++◌, length, take, Result, Ok, Err, refl, sym, ap, ◌∙◌, subst}
use Rattle.std.specs.Prelude.{OnOk}
use Rattle.ep_layout.proofs.Basics.{grows-trans}
use Rattle.ep_ast.specs.declared.refusals.Refusal.{Refusal}
use Rattle.ep_ast.specs.Declaration.{Head}
use Rattle.ep_ast.specs.Statement.{Function}
use Rattle.ep_layout.specs.Table.{Grows, IsBuilt, Table}
use Rattle.ep_layout.proofs.Recursion.{kept_by_itself}
use Rattle.ep_typing.specs.Env.{Env, Meaning, Scope}
use Rattle.ep_typing.specs.Results.{◌>>=◌, at}
use Rattle.ep_typing.proofs.Order.{bind_ok, ok_is}
use Rattle.ep_elaboration.specs.Declarators.{with_types}
use Rattle.ep_elaboration.specs.Functions.{Defined, Headed, function_declared, headed, signature_of}
use Rattle.ep_elaboration.specs.FunctionSteps.{functions_defined}
use Rattle.ep_elaboration.specs.FunctionSteps.{stands_alone}
use Rattle.ep_elaboration.specs.Statements.{left}
use Rattle.ep_elaboration.specs.FunctionRules.{MeansDefinitions, more_definitions, no_definitions}
use Rattle.ep_elaboration.proofs.FunctionOrder.{means_functions_defined, means_headed}
use Rattle.ep_elaboration.proofs.ProgramOrder.{means_items}
use Rattle.ep_elaboration.specs.Programs.{begun}
use Rattle.ep_well_formed_laws.proofs.FieldsFit.{only_completed}
use Rattle.ep_well_formed_laws.proofs.Heads.{head_comes}
use Rattle.ep_core.proofs.Tables.{more_aggregates, more_types}
use Rattle.ep_well_formed_laws.proofs.ProgramDefinitions.{definition_walks}
use Rattle.ep_well_formed_laws.proofs.FileScopes.{FileComes, file_comes_on, file_itself}
use Rattle.ep_well_formed_laws.proofs.FunctionParts.{AtFile}
use Rattle.ep_well_formed_laws.proofs.Items.{text_holds}
use Rattle.ep_scopes.specs.declared.marks.EnvMark.{EnvMark}
use Rattle.ep_scopes.specs.Comes.{CameFrom, Comes, IsMarkOf}
use Rattle.ep_scopes.specs.Known.{IsKnownEnv}
use Rattle.ep_scopes.proofs.KnownLemmas.{scopes_stay}
use Rattle.ep_scopes.specs.View as view
use Rattle.ep_typer_arms.specs.FileEnvironments.{IsFileEnv, first_arm}

pub at_file : (G : Env) → IsFileEnv G → AtFile G
at_file G f =
    let b = f.1 in
    subst AtFile f.2 (text_holds b.0 b.1 f.0 (means_items (begun b.0) b.1 f.0 b.2)).file

known_on : (G : Env) (t : Table) → Grows G.types t → IsKnownEnv G → IsKnownEnv (with_types G t)
known_on G t g k =
    scopes_stay G.types t (record { types = more_types G.types t g; aggregates = more_aggregates G.types t g }) G.scopes k

-- ---- a head

pub alone_known : (G : Env) (ds : List ℕ) (h : Head) (r : Headed) (t : Table) → IsFileEnv G → IsKnownEnv G
    → stands_alone G ds h ≡ Ok (r, with_types G t) → IsKnownEnv (with_types G t)
alone_known G ds h r t f k e =
    let x = bind_ok (headed G (length G.blocks) h) _ (r, with_types G t) e in
    let y = bind_ok (at h.line (function_declared (left x.0.1) ds true (signature_of h x.0.0))) _ (r, with_types G t) x.2 in
    let same : ◌≡◌ {A = Headed × Env} (x.0.0, with_types G x.0.1.types) (r, with_types G t) = ok_is _ _ y.2 in
    let grows = (head_comes G (length G.blocks) h x.0 (at_file G f).env.declared (means_headed G (length G.blocks) h x.0 x.1)).grows in
    subst (λ (q : Headed × Env). IsKnownEnv q.1) same (known_on G x.0.1.types grows k)

-- an environment of which a mark was taken, and one that came from it
pub came : (m : EnvMark) (G H : Env) → IsFileEnv G → IsMarkOf m G → IsBuilt G.types → Comes G H → CameFrom m G H
came m G H f k b c =
    record { mark = k; built = b; fields = only_completed G (at_file G f).env.declared; comes = c }

pub where_ok : {X E : Type 0} (r : Result X E) (P Q : Type 0) → (P → Q) → OnOk r P → OnOk r Q
where_ok (Ok x) P Q f h = f h
where_ok (Err e) P Q f h = tt

-- ---- the first arm

definitions_grow : (G : Env) (ds : List ℕ) (fs : List Function) (x : List Defined × Env) → AtFile G
    → MeansDefinitions G ds fs x → Grows G.types x.1.types
definitions_grow G ds [] x h no_definitions = kept_by_itself G.types
definitions_grow G ds (f ∷ fs) x h (more_definitions d y m k) =
    let w = definition_walks G ds 0 f d h m in
    grows-trans G.types d.1.types y.1.types w.grows (definitions_grow d.1 (d.0.number ∷ ds) fs y w.file k)

pub arm_known : (G H : Env) (ds : List ℕ) (fs : List Function) (xs : List Defined) → IsFileEnv G → IsKnownEnv G
    → functions_defined G ds fs ≡ Ok (xs, H) → IsKnownEnv (record H { scopes = G.scopes })
arm_known G H ds fs xs f k e =
    known_on G H.types (definitions_grow G ds fs (xs, H) (at_file G f) (means_functions_defined G ds fs (xs, H) e)) k

-- ---- the scope of the file behind the first arm

definitions_come : (G : Env) (ds : List ℕ) (fs : List Function) (x : List Defined × Env) → AtFile G
    → MeansDefinitions G ds fs x → FileComes G x.1 × AtFile x.1
definitions_come G ds [] x h no_definitions = (file_itself G, h)
definitions_come G ds (f ∷ fs) x h (more_definitions d y m k) =
    let w = definition_walks G ds 0 f d h m in
    let r = definitions_come d.1 (d.0.number ∷ ds) fs y w.file k in
    (file_comes_on G d.1 y.1 w.comes r.0, r.1)

front : {X : Type 0} (xs ys zs : List X) → xs ++ ys ≡ zs → take (length xs) zs ≡ xs
front {X = X} xs ys zs e = sym (ap (take (length xs)) e) ∙ by xs
  where
    by : (us : List X) → take (length us) (us ++ ys) ≡ us
    by [] = refl
    by (u ∷ us) = ap (λ vs. u ∷ vs) (by us)

-- what has come behind its names and tags is cut off again
cut_back : (s u : Scope) (n k : ℕ) (xs : List (List ℕ × Meaning)) (ts : List (List ℕ × ℕ)) → s.names ++ xs ≡ u.names
    → s.tags ++ ts ≡ u.tags → n ≡ length s.names → k ≡ length s.tags → view.cut n k u ≡ s
cut_back s u n k xs ts e f i j =
    ap (λ (ns : List (List ℕ × Meaning)). record { names = ns; tags = take k u.tags })
    (ap (λ (a : ℕ). take a u.names) i ∙ front s.names xs u.names e)
    ∙ ap (λ (gs : List (List ℕ × ℕ)). record { names = s.names; tags = gs })
    (ap (λ (a : ℕ). take a u.tags) j ∙ front s.tags ts u.tags f)

scopes_back : (G H : Env) (s u : Scope) (n k : ℕ) (ss us : List Scope) → ss ≡ s ∷ [] → us ≡ u ∷ []
    → FileComes (record G { scopes = ss }) (record H { scopes = us }) → n ≡ length (view.innermost ss).names
    → k ≡ length (view.innermost ss).tags → view.rewound n k us ≡ ss
scopes_back G H s u n k [] us e f c i j = absurd cc
scopes_back G H s u n k (a ∷ b ∷ ss) us e f c i j = absurd cc
scopes_back G H s u n k (a ∷ []) [] e f c i j = absurd cc
scopes_back G H s u n k (a ∷ []) (b ∷ d ∷ us) e f c i j = absurd cc
scopes_back G H s u n k (a ∷ []) (b ∷ []) e f c i j =
    ap (λ (x : Scope). x ∷ []) (cut_back a b n k c.names.0 c.tags.0 c.names.1 c.tags.1 i j)

pub scopes_rewound : (G H : Env) (ds : List ℕ) (fs : List Function) (xs : List Defined) (n k : ℕ) → IsFileEnv G
    → functions_defined G ds fs ≡ Ok (xs, H) → n ≡ length (view.innermost G.scopes).names
    → k ≡ length (view.innermost G.scopes).tags → view.rewound n k H.scopes ≡ G.scopes
scopes_rewound G H ds fs xs n k f e i j =
    let h = at_file G f in
    let c = definitions_come G ds fs (xs, H) h (means_functions_defined G ds fs (xs, H) e) in
    scopes_back G H h.scope c.1.scope n k G.scopes H.scopes h.file c.1.file c.0 i j

pub first_is : (G H : Env) (ds : List ℕ) (fs : List Function) (xs : List Defined) (ss : List Scope)
    → functions_defined G ds fs ≡ Ok (xs, H) → ss ≡ G.scopes → first_arm G ds fs ≡ Ok (xs, record H { scopes = ss })
first_is G H ds fs xs ss e s =
    ap (λ (r : Result (List Defined × Env) Refusal). r
    >>= (λ (a : List Defined × Env). Ok (a.0, record a.1 { scopes = G.scopes }))) e
    ∙ ap (λ (us : List Scope). Ok (xs, record H { scopes = us })) (sym s)
