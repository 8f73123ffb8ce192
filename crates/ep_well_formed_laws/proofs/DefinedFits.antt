-- What is kept of functions that were defined, while a program goes on.
use Rattle.std.proofs.Common.{◌≡◌, ℕ, true, false, List, [], ◌∷◌, ◌++◌, slice_get, option_to_list, option_and_then}
use Rattle.ep_int.proofs.Basics.{slice_get-append}
use Rattle.std.proofs.lemmas.Bool.{and_from}
use Rattle.std.proofs.Common.{Option, Some, None, refl, sym, ap, ◌∙◌, subst}
use Rattle.std.specs.List.{list_all}
use Rattle.std.proofs.lemmas.Bool.{and_parts}
use Rattle.ep_int.specs.declared.types.Scalar.{Scalar}
use Rattle.ep_layout.specs.declared.types.Ty.{Ty}
use Rattle.ep_layout.specs.Table.{Grows, IsBuilt, Table}
use Rattle.ep_core.specs.Program as core
use Rattle.ep_core.specs.Program.{Block}
use Rattle.ep_core.specs.Exec.{first_of}
use Rattle.ep_core.specs.WellFormed.{block_type, has_scalar, holds_scalar, result_type}
use Rattle.ep_core.proofs.Sorts.{never}
use Rattle.ep_typing.specs.declared.types.CType.{CType}
use Rattle.ep_typing.specs.Types.{is_void, scalar_of}
use Rattle.ep_typing.specs.Env.{Signature}
use Rattle.ep_elaboration.specs.Functions.{Defined, behind_result, numbered_from, result_at}
use Rattle.ep_well_formed_laws.specs.Numbers.{type_number}
use Rattle.ep_well_formed_laws.specs.Statements.{StmtsFit}
use Rattle.ep_well_formed_laws.proofs.Additions.{type_number_stays}
use Rattle.ep_well_formed_laws.proofs.StatementGrowth.{stmts_stay}
use Rattle.ep_well_formed_laws.proofs.FunctionParts.{AllIn}

-- a block has the type of this number
abbrev pub IsTypedBlock : Table → List Block → ℕ → CType → Type 0
IsTypedBlock t bs b c = (x : Block) × (slice_get bs b ≡ Some x) × (type_number t c ≡ Some x.ty)

-- each parameter has a block of its type
abbrev pub ParamsAre : Table → List Block → List (ℕ × Scalar) → List CType → Type 0
ParamsAre t bs [] [] = Unit {0}
ParamsAre t bs [] (c ∷ cs) = ⊥
ParamsAre t bs (p ∷ ps) [] = ⊥
ParamsAre t bs (p ∷ ps) (c ∷ cs) = IsTypedBlock t bs p.0 c × ParamsAre t bs ps cs

-- and so has a result, if it isn't void
pub data ResultIs (t : Table) (bs : List Block) (o : Option (ℕ × Scalar)) (c : CType) : Type 0 where
  no_block : is_void c ≡ true → o ≡ None → ResultIs t bs o c
  a_block : (b : ℕ) → is_void c ≡ false → o ≡ Some (b, scalar_of c) → IsTypedBlock t bs b c → ResultIs t bs o c

-- statements fit in a function, where its parameters and these locals can be named
abbrev pub BodyFits : Table → List Block → List Signature → core.Function → (locals : List ℕ) → core.Stmts → Type 0
BodyFits t bs fs f locals ss =
    (seen : List ℕ) → AllIn (first_of f.params ++ locals) seen
    → StmtsFit t bs fs (result_type bs f.result) ss seen false

pub record DefinedFits (t : Table) (bs : List Block) (fs : List Signature) (d : Defined) : Type 0 where
  pub signature : Signature
  pub is : slice_get fs d.number ≡ Some signature
  pub name : d.function.name ≡ signature.name
  pub params : ParamsAre t bs d.function.params signature.params
  pub result : ResultIs t bs d.function.result signature.result
  pub params_at : d.function.params ≡ numbered_from (behind_result d.first signature.result) signature.params
  pub result_at_first : d.function.result ≡ result_at d.first signature.result
  pub params_hold : list_all (holds_scalar t bs) d.function.params ≡ true
  pub result_holds : list_all (holds_scalar t bs) (option_to_list d.function.result) ≡ true
  pub body : BodyFits t bs fs d.function d.function.locals d.function.body

-- ---- while a table grows, and blocks and functions come

module _ (t u : Table) (g : Grows t u) (built : IsBuilt u) (bs more : List Block) (fs late : List Signature) where
  pub typed_block_stays : (b : ℕ) (c : CType) → IsTypedBlock t bs b c → IsTypedBlock u (bs ++ more) b c
  typed_block_stays b c h = (h.0, slice_get-append bs more b h.0 h.1, type_number_stays t u g built c h.0.ty h.2)

  pub params_stay : (ps : List (ℕ × Scalar)) (cs : List CType) → ParamsAre t bs ps cs → ParamsAre u (bs ++ more) ps cs
  params_stay [] [] h = tt
  params_stay [] (c ∷ cs) h = absurd h
  params_stay (p ∷ ps) [] h = absurd h
  params_stay (p ∷ ps) (c ∷ cs) h = (typed_block_stays p.0 c h.0, params_stay ps cs h.1)

  pub result_stays : (o : Option (ℕ × Scalar)) (c : CType) → ResultIs t bs o c → ResultIs u (bs ++ more) o c
  result_stays o c (no_block v e) = no_block v e
  result_stays o c (a_block b v e h) = a_block b v e (typed_block_stays b c h)

  pub scalar_stays : (p : ℕ × Scalar) → holds_scalar t bs p ≡ true → holds_scalar u (bs ++ more) p ≡ true
  scalar_stays p h = by (slice_get bs p.0) refl h
    where
      row : (n : ℕ) (o : Option Ty) → slice_get t.types n ≡ o → has_scalar o p.1 ≡ true
          → has_scalar (slice_get u.types n) p.1 ≡ true
      row n None q e = never e
      row n (Some r) q e = rw (g.types n r q) e

      by : (o : Option Block) → slice_get bs p.0 ≡ o
          → has_scalar (option_and_then (slice_get t.types) (block_type o)) p.1 ≡ true
          → holds_scalar u (bs ++ more) p ≡ true
      by None q e = never e
      by (Some x) q e = rw (slice_get-append bs more p.0 x q) (row x.ty (slice_get t.types x.ty) refl e)

  pub scalars_stay : (ps : List (ℕ × Scalar)) → list_all (holds_scalar t bs) ps ≡ true
      → list_all (holds_scalar u (bs ++ more)) ps ≡ true
  scalars_stay [] h = refl
  scalars_stay (p ∷ ps) h =
      let q = and_parts (holds_scalar t bs p) (list_all (holds_scalar t bs) ps) h in
      and_from _ _ (scalar_stays p q.0) (scalars_stay ps q.1)

  pub result_type_stays : (o : Option (ℕ × Scalar)) → list_all (holds_scalar t bs) (option_to_list o) ≡ true
      → result_type (bs ++ more) o ≡ result_type bs o
  result_type_stays None h = refl
  result_type_stays (Some r) h = by (slice_get bs r.0) refl (and_parts _ true h).0
    where
      by : (o : Option Block) → slice_get bs r.0 ≡ o
          → has_scalar (option_and_then (slice_get t.types) (block_type o)) r.1 ≡ true
          → block_type (slice_get (bs ++ more) r.0) ≡ block_type (slice_get bs r.0)
      by None q e = never e
      by (Some x) q e = ap block_type (slice_get-append bs more r.0 x q) ∙ sym (ap block_type q)

  pub body_stays : (f : core.Function) (locals : List ℕ) (ss : core.Stmts)
      → list_all (holds_scalar t bs) (option_to_list f.result) ≡ true → BodyFits t bs fs f locals ss
      → BodyFits u (bs ++ more) (fs ++ late) f locals ss
  body_stays f locals ss r h seen all =
      subst (λ (o : Option ℕ). StmtsFit u (bs ++ more) (fs ++ late) o ss seen false)
      (sym (result_type_stays f.result r))
      (stmts_stay t u g built bs more fs (fs ++ late) (λ n s e. slice_get-append fs late n s e) (result_type bs f.result) ss
      seen false
      (h seen all))

  pub defined_stays : (d : Defined) → DefinedFits t bs fs d → DefinedFits u (bs ++ more) (fs ++ late) d
  defined_stays d h = record {
    signature = h.signature;
    is = slice_get-append fs late d.number h.signature h.is;
    name = h.name;
    params = params_stay d.function.params h.signature.params h.params;
    result = result_stays d.function.result h.signature.result h.result;
    params_at = h.params_at;
    result_at_first = h.result_at_first;
    params_hold = scalars_stay d.function.params h.params_hold;
    result_holds = scalars_stay (option_to_list d.function.result) h.result_holds;
    body = body_stays d.function d.function.locals d.function.body h.result_holds h.body;
  }
