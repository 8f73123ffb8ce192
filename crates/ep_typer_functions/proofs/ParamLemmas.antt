-- Types of parameters.
use Rattle.std.proofs.Common.{◌≡◌, ℕ, zero, suc, ◌+◌, ◌<◌, ◌≤◌, Bool, ◌&&◌, List, [], ◌∷◌, ◌++◌, map, length, drop}
use Rattle.std.proofs.Common.{get_or, Option, Some, None, Result, Ok, Err, slice_get, refl, sym, ap, ◌∙◌, arith}
use Rattle.std.proofs.Common.{subst, append_assoc, drop-cons}
use Rattle.std.specs.Prelude.{option_map, unwrap_or}
use lib.Pointwise.{pointwise}
use Rattle.std.proofs.lemmas.List.{append-nil, drop_all}
use Rattle.std.proofs.lemmas.Option.{slice_get_within}
use Rattle.std.proofs.lemmas.Bool.Decides.{nat_tests}
use Rattle.ep_ast.specs.declared.declarations.ParamTree.{ParamTree}
use Rattle.ep_ast.specs.declared.refusals.Refusal.{Refusal}
use Rattle.ep_ast.specs.declared.refusals.Halt.{Halt}
use Rattle.ep_ast.specs.declared.refusals.Halt.TheVariants as halts
use Rattle.ep_ast.specs.Declaration.{param_of}
use Rattle.ep_layout.specs.declared.types.Ty.{Ty}
use Rattle.ep_layout.specs.declared.types.Ty.TheVariants as rows
use Rattle.ep_layout.specs.Table.{Table, Grows, IsBuilt, elements_of}
use Rattle.ep_layout.proofs.Sizes.{known}
use Rattle.ep_typing.specs.declared.types.CType.{CType}
use Rattle.ep_typing.specs.Env.{Env}
use Rattle.ep_typing.specs.Results.{◌>>=◌}
use Rattle.ep_typing.specs.Types.{element_of, is_same, number_in, of_row, pointer_to, type_within, with_c_type}
use Rattle.ep_typing.specs.Types.{with_stars}
use Rattle.ep_operands.specs.Refinement.{Stops}
use Rattle.ep_elaboration.specs.Functions.{are_same, param_declared, params_declared}
use Rattle.ep_scopes.specs.Known.{IsKnown}
use Rattle.ep_declared.proofs.Growth.{type_known, type_more}

row_known : (t : Table) → IsBuilt t → (f : ℕ → CType) → ((m : ℕ) → IsKnown t (f m)) → (n : ℕ) (o : Option Ty) → slice_get t.types n ≡ o
    → IsKnown t (of_row f n o)
row_known t b f g n None e = tt
row_known t b f g n (Some rows.Void) e = tt
row_known t b f g n (Some (rows.Int i)) e = tt
row_known t b f g n (Some (rows.Ptr m)) e = g m
row_known t b f g n (Some (rows.Array m k)) e = slice_get_within t.types n (rows.Array m k) e
row_known t b f g n (Some (rows.Aggregate a)) e = let h = known t b n (rows.Aggregate a) e in grind (arith, nat_tests, h)

pub within_known : (t : Table) → IsBuilt t → (k n : ℕ) → IsKnown t (type_within t k n)
unfolding type_within
within_known t b zero n = tt
within_known t b (suc k) n = row_known t b (type_within t k) (within_known t b k) n (slice_get t.types n) refl

pub element_known : (t : Table) → IsBuilt t → (c d e : CType) → e ≡ element_of t c → d ≡ pointer_to e → IsKnown t d
element_known t b c d e p q =
    subst (IsKnown t) (sym q) (subst (λ (x : CType). IsKnown t (pointer_to x)) (sym p)
    (within_known t b (length t.types) (unwrap_or (option_map (λ (r : ℕ × ℕ). r.0) (elements_of t (number_in c.base))) 0)))

pub type_grows : (t u : Table) (c : CType) → u ≡ with_c_type t c → Grows t u
type_grows t u c e = subst (Grows t) (sym e) (type_more t c).grows

pub type_stays : (t u : Table) (c : CType) → u ≡ with_c_type t c → IsKnown t c → IsKnown u c
type_stays t u c e h = type_known t u (type_grows t u c e) c h

pub starred_known : (t u : Table) (c d : CType) (n : ℕ) → d ≡ with_stars c n → Grows t u → IsKnown t c → IsKnown u d
starred_known t u c d n e g h = subst (IsKnown u) (sym e) (type_known t u g c h)

pub same_lists : (cs ds : List CType) → pointwise is_same cs ds ≡ are_same cs ds
same_lists [] [] = refl
same_lists [] (d ∷ ds) = refl
same_lists (c ∷ cs) [] = refl
same_lists (c ∷ cs) (d ∷ ds) = ap (λ (b : Bool). is_same c d && b) (same_lists cs ds)

-- ---- parameters one after another

abbrev pub Out : Type 0
Out = Result (List CType × Env) Refusal

abbrev pub ahead : List CType → Out → Out
ahead done (Ok p) = Ok (done ++ p.0, p.1)
ahead done (Err r) = Err r

abbrev pub joined : CType × Env → List CType × Env → Out
joined r q = Ok (r.0 ∷ q.0, q.1)

abbrev pub declared : Env → ℕ → List ParamTree → Out
declared G b ps = params_declared G b (map param_of ps)

front : (i : ℕ) (xs : List ParamTree) (x : ParamTree) → i < length xs → x ≡ get_or xs i x → drop i xs ≡ x ∷ drop (i + 1) xs
front i xs x lt e =
    let more : suc i ≡ i + 1 = omega arith in
    drop-cons xs i x lt ∙ ap (λ (y : ParamTree). y ∷ drop (suc i) xs) (sym e) ∙ ap (λ (n : ℕ). x ∷ drop n xs) more

more_ahead : (done : List CType) (r : CType × Env) (o : Out) → ahead done (o >>= joined r) ≡ ahead (done ++ r.0 ∷ []) o
more_ahead done r (Ok q) = ap (λ (ls : List CType). Ok (ls, q.1)) (sym (append_assoc done (r.0 ∷ []) q.0))
more_ahead done r (Err e) = refl

one_more : (G : Env) (b : ℕ) (x : ParamTree) (xs : List ParamTree)
    → declared G b (x ∷ xs) ≡ (param_declared G b (param_of x) >>= (λ (r : CType × Env). declared r.1 (b + 1) xs >>= joined r))
unfolding params_declared
one_more G b x xs = refl

none_more : (G : Env) (b : ℕ) → declared G b [] ≡ Ok ([], G)
unfolding params_declared
none_more G b = refl

pub ended : (G : Env) (b i : ℕ) (xs : List ParamTree) (done : List CType) (all : Out) → length xs ≤ i
    → ahead done (declared G b (drop i xs)) ≡ all → all ≡ Ok (done, G)
ended G b i xs done all le h =
    sym h ∙ ap (λ (ys : List ParamTree). ahead done (declared G b ys)) (drop_all i xs le) ∙ ap (ahead done) (none_more G b)
    ∙ ap (λ (ls : List CType). Ok (ls, G)) (append-nil done)

module _ (G : Env) (b i : ℕ) (xs : List ParamTree) (x : ParamTree) (done : List CType) (all : Out) (lt : i < length xs)
    (is : x ≡ get_or xs i x) (h : ahead done (declared G b (drop i xs)) ≡ all) where
  unrolled : ahead done (param_declared G b (param_of x) >>= (λ (r : CType × Env). declared r.1 (b + 1) (drop (i + 1) xs) >>= joined r)) ≡ all
  unrolled = sym (ap (ahead done) (ap (declared G b) (front i xs x lt is) ∙ one_more G b x (drop (i + 1) xs))) ∙ h

  pub stopped : (e : Halt) → Stops (param_declared G b (param_of x)) e → Stops all e
  stopped halts.Memory k = tt
  stopped (halts.Refused r) k =
      sym unrolled
      ∙ ap (λ (o : Result (CType × Env) Refusal). ahead done (o >>= (λ (p : CType × Env). declared p.1 (b + 1) (drop (i + 1) xs) >>= joined p))) k

  pub went : (c : CType) (H : Env) → param_declared G b (param_of x) ≡ Ok (c, H)
      → ahead (done ++ c ∷ []) (declared H (b + 1) (drop (i + 1) xs)) ≡ all
  went c H k =
      sym (more_ahead done (c, H) (declared H (b + 1) (drop (i + 1) xs)))
      ∙ sym (ap (λ (o : Result (CType × Env) Refusal). ahead done (o >>= (λ (p : CType × Env). declared p.1 (b + 1) (drop (i + 1) xs) >>= joined p))) k)
      ∙ unrolled
