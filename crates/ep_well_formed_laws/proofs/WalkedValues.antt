-- Objects and first values: the blocks and names that come, and what is called.
use Rattle.std.proofs.Common.{◌≡◌, ℕ, suc, ◌+◌, Bool, false, List, [], ◌∷◌, ◌++◌, length, length-append, map, Option}
use Rattle.std.proofs.Common.{Some, refl, ap, ◌∙◌, subst, inl, arith}
use Rattle.ep_ast.specs.Expression as source
use Rattle.ep_ast.specs.Mark as mark
use Rattle.ep_ast.specs.Declaration as tree
use Rattle.ep_ast.specs.Declaration.{Declarator, Init, Declaration, Values, single, listed, to_specs}
use Rattle.ep_layout.specs.Table.{Table}
use Rattle.ep_core.specs.Program as core
use Rattle.ep_core.specs.Program.{Block}
use Rattle.ep_core.specs.WellFormed.{scoped, scoped_in}
use Rattle.ep_typing.specs.declared.types.CType.{CType}
use Rattle.ep_typing.specs.Results.{needed}
use Rattle.ep_typing.specs.Types.{c_type_number, size_of_type, with_stars}
use Rattle.ep_typing.specs.Env as env
use Rattle.ep_typing.specs.Env.{Env, Meaning, Scope, Signature}
use Rattle.ep_typing.specs.Names.{mentioned}
use Rattle.ep_elaboration.specs.Calls.{call_in, initialisation, initialisations}
use Rattle.ep_elaboration.specs.Declarations.{Made}
use Rattle.ep_elaboration.specs.Declarators.{Object, arrays_of, declared_object, is_taken, name_in, object_of}
use Rattle.ep_elaboration.specs.Declarators.{sized_object, with_types}
use Rattle.ep_elaboration.specs.Given.{Given, cleared, count_listed, line_of_value, object_operand, part_at}
use Rattle.ep_elaboration.specs.Statements.{to_core}
use Rattle.ep_elaboration.specs.DeclaratorRules.{MeansObject, is_object}
use Rattle.ep_elaboration.specs.GivenRules.{MeansAllGiven, MeansDeclaration, MeansFirstValue, MeansGiven}
use Rattle.ep_elaboration.specs.GivenRules.{MeansGivenExpression, MeansVariable, MeansVariables, is_declaration}
use Rattle.ep_elaboration.specs.GivenRules.{is_first_bit_field, is_first_value, is_given_expression, is_listed, is_single}
use Rattle.ep_elaboration.specs.GivenRules.{is_variable, more_values_given, more_variables, no_first_value}
use Rattle.ep_elaboration.specs.GivenRules.{no_values_given, no_variables}
use Rattle.ep_well_formed_laws.specs.Environments.{HasScope}
use Rattle.ep_well_formed_laws.proofs.Scopes.{HaveNames, same_names}
use Rattle.ep_well_formed_laws.proofs.Specs.{fine_is}
use Rattle.ep_well_formed_laws.proofs.Tests.{after, unless}
use Rattle.ep_well_formed_laws.proofs.Counts.{below, count, lists_one}
use Rattle.ep_well_formed_laws.proofs.FieldAccesses.{access_flat, given_access}
use Rattle.ep_well_formed_laws.proofs.CallNames.{CallsTo, EachCall, EachCallIn, ScopesFit, access_calls, assigned_flat}
use Rattle.ep_well_formed_laws.proofs.CallNames.{assigned_named, callee_number, each_call_in, no_right, right_named, scopes_fit_same}
use Rattle.ep_well_formed_laws.proofs.Keeps.{Keeps, expression_keeps, keeps_itself, keeps_on, object_bounds_keep}
use Rattle.ep_well_formed_laws.proofs.Keeps.{specs_keep}
use Rattle.ep_well_formed_laws.proofs.Walks.{NamesCome, Walk, come_on, none_come, scopes_fit_more, still_keeps, walk_of}
use Rattle.ep_well_formed_laws.proofs.Walks.{walk_on}

-- ---- objects

pub scope_keeps : (G H : Env) → HasScope G → HaveNames G.scopes H.scopes → HasScope H
scope_keeps G H s n = by H.scopes refl (subst (λ (ss : List Scope). HaveNames ss H.scopes) s.2 n)
  where
    by : (us : List Scope) → H.scopes ≡ us → HaveNames (s.0 ∷ s.1) us → HasScope H
    by [] e k = absurd k
    by (u ∷ us) e k = (u, us, e)

pub scope_comes : (xs : List (List ℕ × Meaning)) (G H : Env) → HasScope G → NamesCome xs G.scopes H.scopes → HasScope H
scope_comes xs G H s n = by H.scopes refl (subst (λ (ss : List Scope). NamesCome xs ss H.scopes) s.2 n)
  where
    by : (us : List Scope) → H.scopes ≡ us → NamesCome xs (s.0 ∷ s.1) us → HasScope H
    by [] e k = absurd k
    by (u ∷ us) e k = (u, us, e)

-- an object that is declared, with its block and its name
pub record ObjectComes (G H : Env) (global : Bool) (x : Object) : Type 0 where
  pub name : List ℕ
  pub names : NamesCome ((name, env.variable (length G.blocks) x.ty) ∷ []) G.scopes H.scopes
  pub block : Block
  pub blocks : H.blocks ≡ G.blocks ++ block ∷ []
  pub is_global : block.global ≡ global
  pub typed : block.ty ≡ c_type_number H.types x.ty
  pub functions : H.functions ≡ G.functions
  pub number : x.block ≡ length G.blocks
  pub begins : x.offset ≡ 0

named_in : (ss : List Scope) (t : List ℕ) (m : Meaning) (s : Scope) (us : List Scope) → ss ≡ s ∷ us
    → NamesCome ((t, m) ∷ []) ss (name_in ss t m)
named_in [] t m s us e = absurd cc
named_in (u ∷ ss) t m s us e = (refl, same_names ss)

pub object_comes : (G : Env) (global : Bool) (n : Option ℕ) (c : CType) (d : Declarator) (o : Object × Env) → HasScope G
    → MeansObject G global n c d o → ObjectComes G o.1 global o.0
unfolding declared_object sized_object
object_comes G global n c d o s (is_object ns p m e) =
    let K = ns.1 in
    let k = object_bounds_keep G d.line n d.bounds ns m in
    let a = unless (is_taken d.name K.scopes) 31 _ o e in
    let r = after (arrays_of K.types (with_stars c (length d.stars)) ns.0) _ o a.1 in
    let z = after (needed 33 (size_of_type r.0.1 r.0.0)) _ o r.2 in
    let same = fine_is {A = Object × Env} (object_of (with_types K r.0.1) global d.name r.0.0 z.0) o z.2 in
    let l : length K.blocks ≡ length G.blocks = ap length k.blocks in
    let t = scope_keeps G K s k.names in
    subst (λ (y : Object × Env). ObjectComes G y.1 global y.0) same (record {
      name = d.name;
      names = come_on [] ((d.name, env.variable (length G.blocks) r.0.0) ∷ []) G.scopes K.scopes
          (name_in K.scopes d.name (env.variable (length K.blocks) r.0.0)) (none_come G.scopes K.scopes k.names)
          (subst (λ (i : ℕ). NamesCome ((d.name, env.variable i r.0.0) ∷ []) K.scopes
          (name_in K.scopes d.name (env.variable (length K.blocks) r.0.0))) l
          (named_in K.scopes d.name (env.variable (length K.blocks) r.0.0) t.0 t.1 t.2));
      block = record { size = z.0; ty = c_type_number r.0.1 r.0.0; global = global };
      blocks = ap (λ (bs : List Block). bs
          ++ (record { size = z.0; ty = c_type_number r.0.1 r.0.0; global = global }) ∷ []) k.blocks;
      is_global = refl;
      typed = refl;
      functions = k.functions;
      number = l;
      begins = refl;
    })

-- ---- first values

-- statements that call so, without scopes
abbrev pub EachFlat : (ℕ → Type 0) → List core.What → Type 0
EachFlat P [] = Unit {0}
EachFlat P (w ∷ ws) = (EachCallIn P w × (scoped_in w ≡ [])) × EachFlat P ws

pub each_flat : (P Q : ℕ → Type 0) → ((k : ℕ) → P k → Q k) → (ws : List core.What) → EachFlat P ws → EachFlat Q ws
each_flat P Q f [] h = tt
each_flat P Q f (w ∷ ws) h = ((each_call_in P Q f w h.0.0, h.0.1), each_flat P Q f ws h.1)

flat_both : (P : ℕ → Type 0) (ws us : List core.What) → EachFlat P ws → EachFlat P us → EachFlat P (ws ++ us)
flat_both P [] us h k = k
flat_both P (w ∷ ws) us h k = (h.0, flat_both P ws us h.1 k)

mutual
  pub given_keeps : (G : Env) (global c : Bool) (l : ℕ) (o : Option Object) (v : tree.Value) (g : Given × Env)
      → MeansGiven G global c l o v g → Keeps G g.1
  given_keeps G global c l o v g (is_single {e = e} d m) = expression_keeps e G
  given_keeps G global c l o v g (is_listed {vs = vs} x d p m) = all_given_keep G global x 0 vs g m

  all_given_keep : (G : Env) (global : Bool) (x : Object) (i : ℕ) (vs : Values) (g : Given × Env)
      → MeansAllGiven G global x i vs g → Keeps G g.1
  all_given_keep G global x i vs g no_values_given = keeps_itself G
  all_given_keep G global x i vs g (more_values_given {v = v} {vs = us} a b m n) =
      keeps_on G a.1 b.1 (given_keeps G global false (line_of_value v) (part_at G.types x i) v a m)
      (all_given_keep a.1 global x (suc i) us b n)

no_given : (G : Env) (global : Bool) (l : ℕ) (o : Option Object) (e : source.Expr) (g : Given)
    → MeansGivenExpression G global false l o e g → EachFlat (λ k. ⊥) g.statements
no_given G global l o e g (is_given_expression {x = x} y w vs r a f) = (
  (
    no_right G G.types mark.equal e (object_operand x) (object_operand x) y w r a,
    assigned_flat G.types mark.equal (object_operand x) (object_operand x) y w a,
  ),
  tt,
)

mutual
  given_none : (G : Env) (global : Bool) (l : ℕ) (o : Option Object) (v : tree.Value) (g : Given × Env)
      → MeansGiven G global false l o v g → EachFlat (λ k. ⊥) g.0.statements
  given_none G global l o v g (is_single {e = e} d m) = no_given (mentioned G e) global l o e d m
  given_none G global l o v g (is_listed {vs = vs} x d p m) = all_given_none G global x 0 vs g m

  all_given_none : (G : Env) (global : Bool) (x : Object) (i : ℕ) (vs : Values) (g : Given × Env)
      → MeansAllGiven G global x i vs g → EachFlat (λ k. ⊥) g.0.statements
  all_given_none G global x i vs g no_values_given = tt
  all_given_none G global x i vs g (more_values_given {v = v} {vs = us} a b m n) =
      flat_both (λ k. ⊥) a.0.statements b.0.statements
      (given_none G global (line_of_value v) (part_at G.types x i) v a m) (all_given_none a.1 global x (suc i) us b n)

abbrev AreFlat : List core.What → Type 0
AreFlat [] = Unit {0}
AreFlat (w ∷ ws) = (scoped_in w ≡ []) × AreFlat ws

are_flat : (P : ℕ → Type 0) (ws : List core.What) → EachFlat P ws → AreFlat ws
are_flat P [] h = tt
are_flat P (w ∷ ws) h = (h.0.1, are_flat P ws h.1)

expression_flat : (G : Env) (global c : Bool) (l : ℕ) (o : Option Object) (e : source.Expr) (g : Given)
    → MeansGivenExpression G global c l o e g → AreFlat g.statements
expression_flat G global c l o e g (is_given_expression {x = x} y w vs r a f) =
    (assigned_flat G.types mark.equal (object_operand x) (object_operand x) y w a, tt)

given_flat : (G : Env) (global c : Bool) (l : ℕ) (o : Option Object) (v : tree.Value) (g : Given × Env)
    → MeansGiven G global c l o v g → AreFlat g.0.statements
given_flat G global c l o v g (is_single {e = e} d m) = expression_flat (mentioned G e) global c l o e d m
given_flat G global c l o v g (is_listed {vs = vs} x d p m) =
    are_flat (λ k. ⊥) g.0.statements (all_given_none G global x 0 vs g m)

cleared_flat : (t : Table) (x : Object) (v : tree.Value) (g : Given) → AreFlat g.statements
    → AreFlat (cleared t x v g).statements
cleared_flat t x (single e) g h = h
cleared_flat t x (listed l vs) g h = (refl, h)

first_flat : (G : Env) (global c : Bool) (l : ℕ) (x : Object) (v : Option tree.Value) (g : Given × Env)
    → MeansFirstValue G global c l x v g → AreFlat g.0.statements
first_flat G global c l x v g no_first_value = tt
first_flat G global c l x v g (is_first_bit_field z w m q) =
    (access_flat w (given_access global l z (object_operand x) w q), tt)
first_flat G global c l x v g (is_first_value {v = w} d m) = cleared_flat d.1.types x w d.0
    (given_flat G global c l (Some x) w d m)

flat_count : (b l : ℕ) (ws : List core.What) → AreFlat ws → count b (scoped (to_core (map (λ w. (l, w)) ws))) ≡ 0
flat_count b l [] h = refl
flat_count b l (w ∷ ws) h =
    ap (λ (xs : List ℕ). count b (xs ++ scoped (to_core (map (λ w. (l, w)) ws)))) h.0 ∙ flat_count b l ws h.1

pub first_keeps : (G : Env) (global c : Bool) (l : ℕ) (x : Object) (v : Option tree.Value) (g : Given × Env)
    → MeansFirstValue G global c l x v g → Keeps G g.1
first_keeps G global c l x v g no_first_value = keeps_itself G
first_keeps G global c l x v g (is_first_bit_field {e = e} z w m q) = expression_keeps e G
first_keeps G global c l x v g (is_first_value {v = w} d m) = given_keeps G global c l (Some x) w d m

module _ (fs : List Signature) where
  expression_calls : (G : Env) (global c : Bool) (l d : ℕ) (o : Option Object) (e : source.Expr) (g : Given)
      → ScopesFit fs G.scopes → MeansGivenExpression G global c l o e g
      → EachFlat (λ k. CallsTo fs k (call_in d e ∷ [])) g.statements
  expression_calls G global c l d o e g h (is_given_expression {x = x} y w vs r a f) = (
    (
      each_call_in (λ k. callee_number fs (call_in d e).callee ≡ Some k) (λ k. CallsTo fs k (call_in d e ∷ []))
          (λ k p. inl p) w
          (assigned_named fs G.types mark.equal (call_in d e).callee (object_operand x) (object_operand x) y w
          (right_named fs G d c e y h r) a),
      assigned_flat G.types mark.equal (object_operand x) (object_operand x) y w a,
    ),
    tt,
  )

  given_calls : (G : Env) (global c : Bool) (l d : ℕ) (o : Option Object) (v : tree.Value) (g : Given × Env)
      → ScopesFit fs G.scopes → MeansGiven G global c l o v g
      → EachFlat (λ k. CallsTo fs k (initialisation d (Some v))) g.0.statements
  given_calls G global c l d o v g h (is_single {e = e} i m) =
      expression_calls (mentioned G e) global c l d o e i
      (scopes_fit_same fs G.scopes (mentioned G e).scopes (expression_keeps e G).names h) m
  given_calls G global c l d o v g h (is_listed {m = n} {vs = vs} x i p m) =
      each_flat (λ k. ⊥) (λ k. CallsTo fs k (initialisation d (Some v))) (λ k f. absurd f) g.0.statements
      (all_given_none G global x 0 vs g m)

  cleared_calls : (P : ℕ → Type 0) (t : Table) (x : Object) (v : tree.Value) (g : Given) → EachFlat P g.statements
      → EachFlat P (cleared t x v g).statements
  cleared_calls P t x (single e) g h = h
  cleared_calls P t x (listed l vs) g h = ((tt, refl), h)

  first_calls : (G : Env) (global c : Bool) (l d : ℕ) (x : Object) (v : Option tree.Value) (g : Given × Env)
      → ScopesFit fs G.scopes → MeansFirstValue G global c l x v g
      → EachFlat (λ k. CallsTo fs k (initialisation d v)) g.0.statements
  first_calls G global c l d x v g h no_first_value = tt
  first_calls G global c l d x v g h (is_first_bit_field z w m q) =
      let a = given_access global l z (object_operand x) w q in
      ((access_calls (λ k. CallsTo fs k (initialisation d v)) w a, access_flat w a), tt)
  first_calls G global c l d x v g h (is_first_value {v = w} i m) =
      cleared_calls (λ k. CallsTo fs k (initialisation d (Some w))) i.1.types x w i.0
      (given_calls G global c l d (Some x) w i h m)

  flat_calls : (P : ℕ → Type 0) (l : ℕ) (ws : List core.What) → EachFlat P ws
      → EachCall P (to_core (map (λ w. (l, w)) ws))
  flat_calls P l [] h = tt
  flat_calls P l (w ∷ ws) h = (h.0.0, flat_calls P l ws h.1)

  -- ---- declarations in functions

  variable_walks : (G : Env) (c : Bool) (d : ℕ) (t : CType) (i : Init) (m : Made × Env) → HasScope G
      → MeansVariable G false c t i m → Walk fs G m.1 m.0.lines (initialisation d i.value)
  variable_walks G c d t i m s (is_variable o g p q) =
      let x = object_comes G false (count_listed i.value) t i.declarator o s p in
      let H = o.1 in
      let k = first_keeps H false c i.declarator.line o.0 i.value g q in
      let own : List (List ℕ × Meaning) = (x.name, env.variable (length G.blocks) o.0.ty) ∷ [] in
      let names : NamesCome own G.scopes g.1.scopes =
      come_on own [] G.scopes H.scopes g.1.scopes x.names (none_come H.scopes g.1.scopes k.names) in
      let size : length g.1.blocks ≡ length G.blocks + 1 =
      ap length (k.blocks ∙ x.blocks) ∙ length-append G.blocks (x.block ∷ []) in
      record {
        own = own;
        names = names;
        variables = (tt, tt);
        blocks = record { more = x.block ∷ []; is = k.blocks ∙ x.blocks; local = (x.is_global, tt) };
        functions = k.functions ∙ x.functions;
        lists = λ b.
            let e = lists_one (length G.blocks) b in
            let f = flat_count b i.declarator.line g.0.statements
            (first_flat H false c i.declarator.line o.0 i.value g q) in
            let j : suc (length G.blocks) ≡ length g.1.blocks = omega (arith, size) in
            let n : below (suc (length G.blocks)) b ≡ below (length g.1.blocks) b = ap (λ (i : ℕ). below i b) j in
            omega (arith, e, f, n);
        calls = λ h. flat_calls (λ j. CallsTo fs j (initialisation d i.value)) i.declarator.line g.0.statements
            (first_calls H false c i.declarator.line d o.0 i.value g
            (scopes_fit_more fs own G.scopes H.scopes x.names (tt, tt) h) q);
      }

  pub variables_walk : (G : Env) (c : Bool) (d : ℕ) (t : CType) (is : List Init) (m : Made × Env) → HasScope G
      → MeansVariables G false c t is m → Walk fs G m.1 m.0.lines (initialisations d is)
  variables_walk G c d t is m s no_variables = walk_of fs G G [] [] (still_keeps fs G G [] (keeps_itself G))
  variables_walk G c d t is m s (more_variables {i = i} {vs = vs} a b p q) =
      let x = variable_walks G c d t i a s p in
      walk_on fs G a.1 b.1 a.0.lines b.0.lines (initialisation d i.value) (initialisations d vs) x
      (variables_walk a.1 c d t vs b (scope_comes x.own G a.1 s x.names) q)

  pub declaration_walks : (G : Env) (c : Bool) (d : ℕ) (x : Declaration) (m : Made × Env) → HasScope G
      → MeansDeclaration G false c x m → Walk fs G m.1 m.0.lines (initialisations d x.inits)
  declaration_walks G c d x m s (is_declaration t n p q) =
      let k = specs_keep G [] [] (to_specs x.specs) t p in
      walk_on fs G t.1 m.1 [] m.0.lines [] (initialisations d x.inits)
      (walk_of fs G t.1 [] [] (still_keeps fs G t.1 [] k))
      (variables_walk t.1 c d t.0 x.inits m (scope_keeps G t.1 s k.names) q)
