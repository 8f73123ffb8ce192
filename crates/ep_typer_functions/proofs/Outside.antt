-- A function's name comes into the scope round that of its parameters.
use Rattle.std.proofs.Common.{◌≡◌, ℕ, zero, suc, nat_eq, Bool, true, false, ◌||◌, cond, List, [], ◌∷◌, map, slice_get}
use Rattle.ep_typing.proofs.Order.{at_ok}
use Rattle.std.proofs.Common.{unwrap_or, Option, Some, None, Result, Ok, Err, refl, sym, ap, ◌∙◌, subst, arith}
use Rattle.std.proofs.Math.Dec.{eqb-suc-suc}
use Rattle.std.proofs.lemmas.Bool.{ne_eqb}
use Rattle.ep_int.specs.Memory.{contains}
use Rattle.ep_ast.specs.Declaration.{Head}
use Rattle.ep_ast.specs.declared.refusals.Refusal.{Refusal}
use Rattle.ep_ast.specs.declared.refusals.Halt.{Halt}
use Rattle.ep_ast.specs.declared.refusals.Halt.TheVariants as halts
use Rattle.ep_layout.specs.Table.{Table}
use Rattle.ep_typing.specs.declared.types.CType.{CType}
use Rattle.ep_typing.specs.Env.{Env, Meaning, Scope, Signature, entry}
use Rattle.ep_typing.specs.Results.{◌>>=◌, at}
use Rattle.ep_operands.specs.Refinement.{Stops}
use Rattle.ep_elaboration.specs.Functions.{Headed, blocks_if, body_env, file_names, fits_main, function_declared}
use Rattle.ep_elaboration.specs.Functions.{named_function, number_of_function, numbered_function, stands_against}
use Rattle.ep_elaboration.specs.Statements.{left, outer}
use Rattle.ep_scopes.specs.Known.{AreKnownNames, AreKnownScopes, AreKnownTags, IsKnownEnv}
use Rattle.ep_scopes.specs.View as view
use Rattle.ep_typer_functions.specs.declared.done.Done.{Done}
use Rattle.ep_typer_functions.specs.View.{AreDone}
use Rattle.ep_typer_functions.specs.BodyView.{named_outside}

-- ---- marks as numbers

abbrev first : Bool → List ℕ → List ℕ
first true ns = 0 ∷ ns
first false ns = ns

abbrev numbers : List Bool → List ℕ
numbers [] = []
numbers (b ∷ bs) = first b (map suc (numbers bs))

no_zero : (ns : List ℕ) → contains 0 (map suc ns) ≡ false
no_zero [] = refl
no_zero (n ∷ ns) =
    ap (λ (b : Bool). b || contains 0 (map suc ns)) (ne_eqb 0 (suc n) (omega arith)) ∙ no_zero ns

shifted : (n : ℕ) (ns : List ℕ) → contains (suc n) (map suc ns) ≡ contains n ns
shifted n [] = refl
shifted n (m ∷ ns) =
    ap (λ (b : Bool). b || contains (suc n) (map suc ns)) (eqb-suc-suc n m)
    ∙ ap (λ (b : Bool). nat_eq n m || b) (shifted n ns)

has_zero : (b : Bool) (ns : List ℕ) → contains 0 (first b (map suc ns)) ≡ b
has_zero true ns = refl
has_zero false ns = no_zero ns

has_more : (b : Bool) (n : ℕ) (ns : List ℕ) → contains (suc n) (first b (map suc ns)) ≡ contains n ns
has_more true n ns =
    ap (λ (b : Bool). b || contains (suc n) (map suc ns)) (ne_eqb (suc n) 0 (omega arith)) ∙ shifted n ns
has_more false n ns = shifted n ns

are_marked : (bs : List Bool) (n : ℕ) → contains n (numbers bs) ≡ unwrap_or (slice_get bs n) false
are_marked [] n = refl
are_marked (b ∷ bs) zero = has_zero b (numbers bs)
are_marked (b ∷ bs) (suc n) = has_more b n (numbers bs) ∙ are_marked bs n

pub all_done : (d : Done) → (ds : List ℕ) × AreDone d ds
all_done d = (numbers d.marks.items, are_marked d.marks.items)

-- ---- the table stays

pub numbered_types : (G : Env) (s : Signature) (o : Option ℕ) → (numbered_function G s o).1.types ≡ G.types
numbered_types G s (Some n) = refl
numbered_types G s None = refl

pub named_types : (s : Signature) (o : Option Meaning) (r : ℕ × Env) → (named_function s o r).1.types ≡ r.1.types
named_types s (Some m) r = refl
named_types s None r = refl

pub declared_by : (a b : Bool) (x p : ℕ × Env)
    → ◌≡◌ {A = Result (ℕ × Env) ℕ} (cond a (Err 31) (cond b (Ok x) (Err 32))) (Ok p) → x ≡ p
declared_by true b x p e = absurd cc
declared_by false true x p e = let same : x ≡ p = cc in same
declared_by false false x p e = absurd cc

pub declared_types : (G : Env) (ds : List ℕ) (b : Bool) (s : Signature) (p : ℕ × Env) → function_declared G ds b s ≡ Ok p
    → p.1.types ≡ G.types
unfolding function_declared
declared_types G ds b s p e =
    let m : Option Meaning = entry s.name (file_names G) in
    let r : ℕ × Env = numbered_function G s (number_of_function G.functions s.name) in
    let same : named_function s m r ≡ p =
    declared_by (stands_against G ds b s m) (fits_main s) (named_function s m r) p e in
    sym (ap (λ (q : ℕ × Env). q.1.types) same) ∙ named_types s m r
    ∙ numbered_types G s (number_of_function G.functions s.name)

blocks_types : (own : Bool) (G : Env) (cs : List CType) → (blocks_if own G cs).types ≡ G.types
blocks_types true G cs = refl
blocks_types false G cs = refl

inner_known : (t : Table) (ss : List Scope) → AreKnownScopes t ss
    → AreKnownNames t (view.innermost ss).names × AreKnownTags t (view.innermost ss).tags
inner_known t [] k = (tt, tt)
inner_known t (s ∷ ss) k = (k.0, k.1.0)

-- ---- the parameters' scope is put back

pub same_outer : (ss : List Scope) → view.outer ss ≡ outer ss
same_outer [] = refl
same_outer (s ∷ ss) = refl

pub outside_known : (G L D K P : Env) (own : Bool) (ds : List ℕ) (l n : ℕ) (s : Scope) (sg : Signature)
    (cs : List CType) → IsKnownEnv G → s ≡ view.innermost G.scopes → L ≡ left G → at l (function_declared L ds true sg) ≡ Ok (n, D)
    → K ≡ blocks_if own D cs → IsKnownEnv K → P ≡ body_env K s → IsKnownEnv P
outside_known G L D K P own ds l n s sg cs g e h d k known p =
    let same : K.types ≡ G.types =
    ap (λ (E : Env). E.types) k ∙ blocks_types own D cs
    ∙ declared_types L ds true sg (n, D) (at_ok l (function_declared L ds true sg) (n, D) d)
    ∙ ap (λ (E : Env). E.types) h in
    let inner = inner_known G.types G.scopes g in
    let names : AreKnownNames K.types s.names =
    subst (λ (t : Table). AreKnownNames t s.names) (sym same)
    (subst (λ (u : Scope). AreKnownNames G.types u.names) (sym e) inner.0) in
    let tags : AreKnownTags K.types s.tags =
    subst (λ (t : Table). AreKnownTags t s.tags) (sym same)
    (subst (λ (u : Scope). AreKnownTags G.types u.tags) (sym e) inner.1) in
    subst IsKnownEnv (sym p) (names, (tags, known))

-- ---- a function that is refused

then_stops : {A B : Type 0} (r : Result A Refusal) (f : A → Result B Refusal) (e : Halt) → Stops r e → Stops (r >>= f) e
then_stops r f halts.Memory h = tt
then_stops (Ok x) f (halts.Refused k) h = absurd cc
then_stops (Err j) f (halts.Refused k) h = let same : j ≡ k = cc in ap (λ (q : Refusal). Err q) same

pub outside_stops : (G L : Env) (own : Bool) (ds : List ℕ) (h : Head) (r : Headed) (name : List ℕ) (e : Halt) → name ≡ h.name
    → L ≡ left G
    → Stops (at h.line (function_declared L ds true (record { name = name; params = r.params; result = r.result }))) e
    → Stops (named_outside G own ds h r) e
outside_stops G L own ds h r name e n l s =
    then_stops (at h.line (function_declared (left G) ds true (record { name = h.name; params = r.params; result = r.result }))) _ e
    (subst (λ (m : List ℕ). Stops (at h.line (function_declared (left G) ds true (record { name = m; params = r.params; result = r.result }))) e) n
    (subst (λ (E : Env). Stops (at h.line (function_declared E ds true (record { name = name; params = r.params; result = r.result }))) e) l s))
