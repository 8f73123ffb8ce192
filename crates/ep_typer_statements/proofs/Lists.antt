-- Statements one after another.
use Rattle.std.proofs.Common.{◌≡◌, ℕ, ◌+◌, ◌<◌, ◌≤◌, length, List, [], ◌∷◌, ◌++◌, map, drop, get_or, Result, Ok}
use Rattle.ep_int.proofs.Basics.{drop-at}
use Rattle.std.proofs.Common.{Err, refl, sym, ap, ◌∙◌, append_assoc}
use Rattle.std.proofs.lemmas.List.{append-nil, drop_all}
use Rattle.ep_ast.specs.declared.refusals.Refusal.{Refusal}
use Rattle.ep_ast.specs.declared.refusals.Halt.{Halt}
use Rattle.ep_ast.specs.declared.refusals.Halt.TheVariants as halts
use Rattle.ep_ast.specs.declared.statements.StmtTree.{StmtTree}
use Rattle.ep_ast.specs.declared.statements.BlockItemTree.{BlockItemTree}
use Rattle.ep_ast.specs.Statement.{stmt_of, part_of, to_stmts, to_parts}
use Rattle.ep_typing.specs.declared.types.CType.{CType}
use Rattle.ep_typing.specs.Env.{Env}
use Rattle.ep_typing.specs.Results.{◌>>=◌}
use Rattle.ep_operands.specs.Refinement.{Stops}
use Rattle.ep_elaboration.specs.Declarations.{Line}
use Rattle.ep_elaboration.specs.Statements.{statement, statements, part, parts}
use Rattle.std.specs.Prelude.{Bool}

abbrev pub Lines : Type 0
Lines = List Line × Env

abbrev pub Out : Type 0
Out = Result Lines Refusal

-- what comes first is put before the rest
abbrev pub ahead : List Line → Out → Out
ahead done (Ok p) = Ok (done ++ p.0, p.1)
ahead done (Err r) = Err r

abbrev pub joined : Lines → Lines → Out
joined a b = Ok (a.0 ++ b.0, b.1)

pub nothing_ahead : (r : Out) → ahead [] r ≡ r
nothing_ahead (Ok p) = refl
nothing_ahead (Err r) = refl

pub nothing_more : (done : List Line) (G : Env) → ◌≡◌ {A = Out} (Ok (done ++ [], G)) (Ok (done, G))
nothing_more done G = ap (λ (ls : List Line). Ok (ls, G)) (append-nil done)

more_ahead : (done : List Line) (p : Lines) (r : Out) → ahead done (r >>= joined p) ≡ ahead (done ++ p.0) r
more_ahead done p (Ok b) = ap (λ (ls : List Line). Ok (ls, b.1)) (sym (append_assoc done p.0 b.0))
more_ahead done p (Err r) = refl

-- a list by a step for each of its items
module _ {X : Type 0} (one : Env → X → Out) (rest : Env → List X → Out) where
  module _ (nil : (G : Env) → rest G [] ≡ Ok ([], G)) where
    pub ended : (G : Env) (i : ℕ) (xs : List X) (done : List Line) (all : Out) → length xs ≤ i
        → ahead done (rest G (drop i xs)) ≡ all → all ≡ Ok (done, G)
    ended G i xs done all le h =
        sym h ∙ ap (λ (ys : List X). ahead done (rest G ys)) (drop_all i xs le) ∙ ap (ahead done) (nil G)
        ∙ nothing_more done G

  module _ (cons : (G : Env) (x : X) (xs : List X) → rest G (x ∷ xs) ≡ (one G x >>= (λ (a : Lines). rest a.1 xs >>= joined a)))
      (G : Env) (i : ℕ) (xs : List X) (x : X) (done : List Line) (all : Out) (lt : i < length xs) (is : x ≡ get_or xs i x)
      (h : ahead done (rest G (drop i xs)) ≡ all) where
    unrolled : ahead done (one G x >>= (λ (a : Lines). rest a.1 (drop (i + 1) xs) >>= joined a)) ≡ all
    unrolled = sym (ap (ahead done) (ap (rest G) (drop-at i xs x lt is) ∙ cons G x (drop (i + 1) xs))) ∙ h

    pub stopped : (e : Halt) → Stops (one G x) e → Stops all e
    stopped halts.Memory k = tt
    stopped (halts.Refused r) k =
        sym unrolled ∙ ap (λ (o : Out). ahead done (o >>= (λ (a : Lines). rest a.1 (drop (i + 1) xs) >>= joined a))) k

    pub went : (ls : List Line) (H : Env) → one G x ≡ Ok (ls, H) → ahead (done ++ ls) (rest H (drop (i + 1) xs)) ≡ all
    went ls H k =
        sym (more_ahead done (ls, H) (rest H (drop (i + 1) xs)))
        ∙ sym (ap (λ (o : Out). ahead done (o >>= (λ (a : Lines). rest a.1 (drop (i + 1) xs) >>= joined a))) k)
        ∙ unrolled

-- ---- the two lists

module _ (c : CType) (k : Bool) where
  abbrev pub one_statement : Env → StmtTree → Out
  one_statement G s = statement G c k (stmt_of s)

  abbrev pub all_statements : Env → List StmtTree → Out
  all_statements G ss = statements G c k (to_stmts (map stmt_of ss))

  abbrev pub one_part : Env → BlockItemTree → Out
  one_part G s = part G c k (part_of s)

  abbrev pub all_parts : Env → List BlockItemTree → Out
  all_parts G ss = parts G c k (to_parts (map part_of ss))

  pub no_statements : (G : Env) → all_statements G [] ≡ Ok ([], G)
  unfolding statements
  no_statements G = refl

  pub more_statements : (G : Env) (x : StmtTree) (xs : List StmtTree)
      → all_statements G (x ∷ xs) ≡ (one_statement G x >>= (λ (a : Lines). all_statements a.1 xs >>= joined a))
  unfolding statements
  more_statements G x xs = refl

  pub no_part : (G : Env) → all_parts G [] ≡ Ok ([], G)
  unfolding parts
  no_part G = refl

  pub more_parts : (G : Env) (x : BlockItemTree) (xs : List BlockItemTree)
      → all_parts G (x ∷ xs) ≡ (one_part G x >>= (λ (a : Lines). all_parts a.1 xs >>= joined a))
  unfolding parts
  more_parts G x xs = refl
