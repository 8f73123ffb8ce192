-- The data model of a program is the one in which its source is read.
use Rattle.std.proofs.Common.{◌≡◌, refl, ap, ◌∙◌, ℕ, List, [], ◌∷◌, ◌++◌, length, false}
use Rattle.ep_int.specs.declared.types.Model.{Model}
use Rattle.ep_ast.specs.Declaration.{Head, to_specs}
use Rattle.ep_ast.specs.Statement.{Item}
use Rattle.ep_core.specs.Program.{Program}
use Rattle.ep_typing.specs.Env.{Env}
use Rattle.ep_elaboration.specs.Calls.{Placed}
use Rattle.ep_elaboration.specs.Functions.{numbers_of, signature_of}
use Rattle.ep_elaboration.specs.Programs.{Sofar, begun, functions_in}
use Rattle.ep_elaboration.specs.Statements.{left}
use Rattle.ep_elaboration.specs.FunctionRules.{MeansPrototype, is_prototype}
use Rattle.ep_elaboration.specs.ProgramRules.{MeansItem, MeansItems, MeansProgram, is_program, item_arms, item_completes}
use Rattle.ep_elaboration.specs.ProgramRules.{item_declares, item_defines, item_prototype, item_typedefs, more_items}
use Rattle.ep_elaboration.specs.ProgramRules.{no_items}
use Rattle.ep_well_formed_laws.proofs.Arms.{arms_walk}
use Rattle.ep_well_formed_laws.proofs.DefinedFunctions.{behind_head, function_comes}
use Rattle.ep_well_formed_laws.proofs.FileSteps.{declares_step, global_item, typedef_item}
use Rattle.ep_well_formed_laws.proofs.FunctionParts.{AtFile}
use Rattle.ep_well_formed_laws.proofs.Heads.{head_comes}
use Rattle.ep_well_formed_laws.proofs.Items.{Holds, text_holds}
use Rattle.ep_well_formed_laws.proofs.ProgramDefinitions.{definition_walks}
use Rattle.ep_well_formed_laws.proofs.Specs.{body_specified, specified}

abbrev model_in : Env → Model
model_in G = G.types.model

prototype_model : (G : Env) (ds : List ℕ) (h : Head) (H : Env) → AtFile G → MeansPrototype G ds h H
    → model_in H ≡ model_in G
prototype_model G ds h H f (is_prototype x n m e) =
    let k = head_comes G (length G.blocks) h x f.env.declared m in
    let l = behind_head G x.1 (length G.blocks) x.0 f.env k in
    let c = function_comes (left x.1) ds false (signature_of h x.0) n l (record { params = k.passed; result = k.result }) e in
    ap (λ t. t.model) c.types ∙ k.grows.model

item_model : (s u : Sofar) (i : Item) (ps : List Placed) → Holds s ps → MeansItem s i u
    → model_in u.env ≡ model_in s.env
item_model s u i ps h (item_typedefs {t = t} c H m n) =
    let k = specified s.env [] [] (to_specs t.specs) c h.file.env.declared m in
    (typedef_item s.env t c H h.file k.declares k.number n).grows.model
item_model s u i ps h (item_defines {f = f} d m) =
    (definition_walks s.env (numbers_of s.defined) 0 f d h.file m).grows.model
item_model s u i ps h (item_prototype {h = d} H m) = prototype_model s.env (numbers_of s.defined) d H h.file m
item_model s u i ps h (item_declares {d = d} m k) = (global_item s.env d m h.file k).step.grows.model
item_model s u i ps h (item_completes {a = a} c m) =
    let k = body_specified s.env [] a c h.file.env.declared m in
    (declares_step s.env c.1 h.file k.declares).grows.model
item_model s u i ps h (item_arms {l = l} {o = o} {fs = fs} {gs = gs} d m) =
    let w = arms_walk s.env (numbers_of s.defined) l o fs (functions_in gs) d h.file h.all_named h.numbers m in
    w.advances.grows.model

-- one item more, behind a text
behind : (s u v : Sofar) (is : List Item) (i : Item) → MeansItems s is u → MeansItem u i v → MeansItems s (is ++ i ∷ []) v
behind s u v is i no_items q = more_items v v q no_items
behind s u v is i (more_items {i = j} {is = js} w x p n) q = more_items w v p (behind w u v js i n q)

goes_on : (m : Model) (done is : List Item) (u v : Sofar) → MeansItems (begun m) done u → model_in u.env ≡ m
    → MeansItems u is v → model_in v.env ≡ m
goes_on m done is u v h e no_items = e
goes_on m done is u v h e (more_items {i = i} {is = js} w x p n) =
    goes_on m (done ++ i ∷ []) js w v (behind (begun m) u w done i h p)
    (item_model u w i _ (text_holds m done u h) p ∙ e) n

pub models_are : (m : Model) (is : List Item) (p : Program) → MeansProgram m is p → p.types.model ≡ m
models_are m is p (is_program s d text sound) = goes_on m [] is (begun m) s no_items refl text
