-- Heads and functions, by rules without an order. C11 6.7.6.3 and 6.9.1.
use Rattle.std.specs.Prelude.{◌≡◌, [], ◌∷◌, ◌++◌, ◌+◌, ℕ, Bool, true, false, List, Option, Some, None, Ok, length}
use Rattle.ep_ast.specs.Declaration.{Head, Param, to_specs}
use Rattle.ep_ast.specs.Expression.{Expr}
use Rattle.ep_ast.specs.Statement.{Function, to_parts}
use Rattle.ep_ast.specs.declared.orders.NamedOrder.{NamedOrder}
use Rattle.ep_elaboration.specs.Declarations.{Line}
use Rattle.ep_elaboration.specs.Declarators.{with_types}
use Rattle.ep_elaboration.specs.Functions.{Body, Defined, Headed, Typed, all_joined, are_named_alike, behind_result}
use Rattle.ep_elaboration.specs.Functions.{blocks_if, body_env, defined_of, first_block, function_declared, given_back}
use Rattle.ep_elaboration.specs.Functions.{is_same_signature, params_of, rest_of, results, signature_of, with_param}
use Rattle.ep_elaboration.specs.Statements.{blocks_behind, entered, innermost, left, to_core}
use Rattle.ep_elaboration.specs.DeclaratorRules.{MeansBound, MeansBounds, MeansSpecs, MeansWords}
use Rattle.ep_elaboration.specs.StatementRules.{MeansParts}
use Rattle.ep_typing.specs.Env.{Env}
use Rattle.ep_typing.specs.Types.{with_c_type, with_stars}
use Rattle.ep_typing.specs.declared.types.CType.{CType}

-- the bounds of a parameter, of which the first may be missing (C11 6.7.6.3p7)
pub data MeansParamBounds : Env → ℕ → List (Option Expr) → (Option (List ℕ) × Env) → Type 0 where
  no_array : {G : Env} {l : ℕ} → MeansParamBounds G l [] (None, G)
  open_array : {G : Env} {l : ℕ} {bs : List (Option Expr)} (ns : List ℕ × Env) → MeansBounds G l bs ns
      → MeansParamBounds G l (None ∷ bs) (Some ns.0, ns.1)
  bound_array : {G : Env} {l : ℕ} {e : Expr} {bs : List (Option Expr)} (n : ℕ × Env) (ns : List ℕ × Env)
      → MeansBound G l (Some e) n → MeansBounds n.1 l bs ns → MeansParamBounds G l (Some e ∷ bs) (Some ns.0, ns.1)

-- a parameter, whose block has this number (C11 6.7.6.3)
pub data MeansParam : Env → ℕ → Param → (CType × Env) → Type 0 where
  is_param : {G : Env} {b : ℕ} {p : Param} (c : CType × Env) (ns : Option (List ℕ) × Env) (d : CType × Env)
      → MeansWords G p.words c → MeansParamBounds c.1 p.line p.bounds ns
      → with_param ns.1 p.name b (with_stars c.0 (length p.stars)) ns.0 ≡ Ok d → MeansParam G b p d

-- parameters, one after the other
pub data MeansParams : Env → ℕ → List Param → (List CType × Env) → Type 0 where
  no_params : {G : Env} {b : ℕ} → MeansParams G b [] ([], G)
  more_params : {G : Env} {b : ℕ} {p : Param} {ps : List Param} (c : CType × Env) (cs : List CType × Env)
      → MeansParam G b p c → MeansParams c.1 (b + 1) ps cs → MeansParams G b (p ∷ ps) (c.0 ∷ cs.0, cs.1)

-- a head: its result, then its parameters in their scope
pub data MeansHead : Env → ℕ → Head → (Headed × Env) → Type 0 where
  is_head : {G : Env} {b : ℕ} {h : Head} (c : CType × Env) (t : CType) (ps : List CType × Env)
      → MeansSpecs G [] [] (to_specs h.specs) c → given_back (with_stars c.0 (length h.stars)) ≡ Ok t
      → MeansParams (entered (with_types c.1 (with_c_type c.1.types t))) (behind_result b t) (params_of h.params) ps
      → MeansHead G b h (record { result = t; params = ps.0 }, ps.1)

-- a prototype (C11 6.7.6.3)
pub data MeansPrototype : Env → List ℕ → Head → Env → Type 0 where
  is_prototype : {G : Env} {ds : List ℕ} {h : Head} (x : Headed × Env) (n : ℕ × Env)
      → MeansHead G (length G.blocks) h x → function_declared (left x.1) ds false (signature_of h x.0) ≡ Ok n
      → MeansPrototype G ds h n.1

-- a definition of a function, over blocks of its own or not (C11 6.9.1)
pub data MeansFunction : Env → ℕ → Bool → List ℕ → Function → (Typed × Env) → Type 0 where
  is_function : {G : Env} {b : ℕ} {own : Bool} {ds : List ℕ} {f : Function} (x : Headed × Env) (n : ℕ × Env)
      (a : List Line × Env)
      → MeansHead G b f.head x → function_declared (left x.1) ds true (signature_of f.head x.0) ≡ Ok n
      → MeansParts (body_env (blocks_if own n.1 (results x.0 ++ x.0.params)) (innermost x.1)) x.0.result false
      (to_parts f.body.parts) a
      → MeansFunction G b own ds f (
        record {
          number = n.0;
          head = x.0;
          body = record {
            line = f.body.line;
            locals =
                blocks_behind (length (innermost x.1).names) a.1;
            stmts = to_core a.0;
          };
        },
        left a.1,
      )

-- a function of the program
pub data MeansDefinition : Env → List ℕ → Function → (Defined × Env) → Type 0 where
  is_definition : {G : Env} {ds : List ℕ} {f : Function} (x : Typed × Env)
      → MeansFunction G (length G.blocks) true ds f x
      → MeansDefinition G ds f (defined_of f (length G.blocks) x.0, x.1)

-- the functions of the first arm
pub data MeansDefinitions : Env → List ℕ → List Function → (List Defined × Env) → Type 0 where
  no_definitions : {G : Env} {ds : List ℕ} → MeansDefinitions G ds [] ([], G)
  more_definitions : {G : Env} {ds : List ℕ} {f : Function} {fs : List Function} (x : Defined × Env)
      (y : List Defined × Env)
      → MeansDefinition G ds f x → MeansDefinitions x.1 (x.0.number ∷ ds) fs y
      → MeansDefinitions G ds (f ∷ fs) (x.0 ∷ y.0, y.1)

-- the functions of the second arm
pub data MeansOthers : Env → List ℕ → List Defined → List Function → (List Body × Env) → Type 0 where
  no_others : {G : Env} {ds : List ℕ} {xs : List Defined} → MeansOthers G ds xs [] ([], G)
  more_others : {G : Env} {ds : List ℕ} {xs : List Defined} {f : Function} {fs : List Function} (x : Typed × Env)
      (y : List Body × Env)
      → MeansFunction G (first_block xs) false ds f x → MeansOthers x.1 (x.0.number ∷ ds) (rest_of xs) fs y
      → MeansOthers G ds xs (f ∷ fs) (x.0.body ∷ y.0, y.1)

-- a head as its function could stand here; behind it only its types count
pub data StandsAlone : Env → List ℕ → Head → (Headed × Env) → Type 0 where
  is_alone : {G : Env} {ds : List ℕ} {h : Head} (x : Headed × Env) (n : ℕ × Env)
      → MeansHead G (length G.blocks) h x → function_declared (left x.1) ds true (signature_of h x.0) ≡ Ok n
      → StandsAlone G ds h (x.0, with_types G x.1.types)

-- The heads of two arms agree: they have the same names, and are of the same type where both can stand here. A tag that
-- is declared nowhere before is another one in each of them. This project's rule.
pub record HeadsAgree (G : Env) (ds : List ℕ) (h k : Head) : Type 0 where
  pub names : are_named_alike h k ≡ true
  pub types : (r q : Headed × Env) → StandsAlone G ds h r → StandsAlone r.1 ds k q
      → is_same_signature (signature_of h r.0) (signature_of k q.0) ≡ true

-- the same functions in the same order
pub data ArmsAgree (G : Env) (ds : List ℕ) : List Function → List Function → Type 0 where
  no_arms : ArmsAgree G ds [] []
  more_arms : {f g : Function} {fs gs : List Function} → HeadsAgree G ds f.head g.head → ArmsAgree G ds fs gs
      → ArmsAgree G ds (f ∷ fs) (g ∷ gs)

-- functions by byte order; the second arm sees what stood before the first
pub data MeansArms : Env → List ℕ → ℕ → NamedOrder → List Function → List Function → (List Defined × Env)
    → Type 0 where
  is_arms : {G : Env} {ds : List ℕ} {l : ℕ} {o : NamedOrder} {fs gs : List Function} (a : List Defined × Env)
      (b : List Body × Env) → ArmsAgree G ds fs gs → MeansDefinitions G ds fs a
      → MeansOthers (record a.1 { scopes = G.scopes }) ds a.0 gs b
      → MeansArms G ds l o fs gs (all_joined l o fs a.0 b.0, b.1)
