-- Variables, one after another.
use Rattle.std.proofs.Common.{◌≡◌, ℕ, suc, ◌+◌, ◌<◌, ◌≤◌, Bool, cond, length, List, [], ◌∷◌, ◌++◌, map, drop, get_or}
use Rattle.std.proofs.Common.{Result, Ok, Err, refl, sym, ap, ◌∙◌, append_assoc, drop-cons, subst, arith}
use Rattle.std.proofs.lemmas.List.{append-nil, drop_all, map-append}
use Rattle.std.specs.Prelude.{OnOk, is_ok}
use Rattle.ep_ast.specs.declared.declarations.InitTree.{InitTree}
use Rattle.ep_ast.specs.declared.refusals.Refusal.{Refusal}
use Rattle.ep_ast.specs.declared.refusals.Halt.{Halt}
use Rattle.ep_ast.specs.Declaration.{init_of}
use Rattle.ep_core.specs.declared.program.InitByte.{InitByte}
use Rattle.ep_core.specs.declared.tree.What.{What}
use Rattle.ep_core.specs.Program.{Init}
use Rattle.ep_core.specs.View.{init_view, what_view}
use Rattle.ep_elaboration.specs.Declarations.{Line, Made, both_made, lined, variable_declared, variables_declared}
use Rattle.ep_typing.specs.declared.types.CType.{CType}
use Rattle.ep_typing.specs.Env.{Env}
use Rattle.ep_typing.specs.Results.{◌>>=◌}
use Rattle.ep_operands.specs.Refinement.{Stops}
use Rattle.ep_given.specs.Appended.{all_behind}
use Rattle.ep_given.proofs.Gathering as gathering

abbrev none : Made
none = record { lines = []; values = [] }

both_assoc : (a b c : Made) → both_made (both_made a b) c ≡ both_made a (both_made b c)
both_assoc a b c = rw (append_assoc a.lines b.lines c.lines, append_assoc a.values b.values c.values) refl

nothing_more : (m : Made) → both_made m none ≡ m
nothing_more m = rw (append-nil m.lines, append-nil m.values) refl

pub none_before : {E : Type 0} (r : Result (Made × E) Refusal) → all_behind both_made none r ≡ r
none_before (Ok p) = refl
none_before (Err e) = refl

front : (i : ℕ) (xs : List InitTree) (x : InitTree) → i < length xs → x ≡ get_or xs i x → drop i xs ≡ x ∷ drop (i + 1) xs
front i xs x lt e =
    let more : suc i ≡ i + 1 = omega arith in
    drop-cons xs i x lt ∙ ap (λ (y : InitTree). y ∷ drop (suc i) xs) (sym e) ∙ ap (λ (n : ℕ). x ∷ drop n xs) more

abbrev pub left : Env → (global may_call : Bool) → CType → List InitTree → Result (Made × Env) Refusal
left G global may_call c xs = variables_declared G global may_call c (map init_of xs)

module _ (G : Env) (global may_call : Bool) (c : CType) (i : ℕ) (xs : List InitTree) (x : InitTree) (done : Made)
    (all : Result (Made × Env) Refusal) (lt : i < length xs) (is : x ≡ get_or xs i x)
    (h : all_behind both_made done (left G global may_call c (drop i xs)) ≡ all) where
  abbrev this : Result (Made × Env) Refusal
  this = variable_declared G global may_call c (init_of x)

  abbrev rest : Env → Result (Made × Env) Refusal
  rest H = left H global may_call c (drop (i + 1) xs)

  unrolled : all_behind both_made done (this >>= (λ p. rest p.1 >>= (λ q. Ok (both_made p.0 q.0, q.1)))) ≡ all
  unfolding variables_declared
  unrolled = sym (ap (λ (ys : List InitTree). all_behind both_made done (left G global may_call c ys)) (front i xs x lt is)) ∙ h

  -- a variable that is refused
  pub stopped : (e : Halt) → Stops this e → Stops all e
  stopped e k =
      subst (λ (r : Result (Made × Env) Refusal). Stops r e) unrolled
      (gathering.stopped_before both_made done this (λ p. rest p.1 >>= (λ q. Ok (both_made p.0 q.0, q.1))) e k)

  pub went : (m : Made) (H : Env) → this ≡ Ok (m, H) → all_behind both_made (both_made done m) (rest H) ≡ all
  went m H k =
      sym (gathering.went both_made both_assoc done (both_made done m) H this rest (ap (all_behind both_made done) k)) ∙ unrolled

pub none_left : (G : Env) (global may_call : Bool) (c : CType) (i : ℕ) (xs : List InitTree) (done : Made) (all : Result (Made × Env) Refusal)
    → length xs ≤ i → all_behind both_made done (left G global may_call c (drop i xs)) ≡ all → all ≡ Ok (done, G)
unfolding variables_declared
none_left G global may_call c i xs done all le h =
    let no_more : drop i xs ≡ [] = drop_all i xs le in
    sym h ∙ ap (λ (ys : List InitTree). all_behind both_made done (left G global may_call c ys)) no_more
    ∙ ap (λ (m : Made). Ok (m, G)) (nothing_more done)

-- ---- one variable more

mapped : (l : ℕ) (ws : List What) → map {B = Line} (λ w. (l, what_view w)) ws ≡ map {B = Line} (λ w. (l, w)) (map what_view ws)
mapped l [] = refl
mapped l (w ∷ ws) = ap (λ (xs : List Line). (l, what_view w) ∷ xs) (mapped l ws)

made_same : (a b : List Line) (c d : List Init) → a ≡ b → c ≡ d → ◌≡◌ {A = Made} (record { lines = a; values = c }) (record { lines = b; values = d })
made_same a b c d p q = rw (p, q) refl

pub one_added : {T E : Type 0} (r : Result T E) (old : Made) (l : ℕ) (ws : List What) (is js ks : List InitByte) (lines : List Line)
    → lines ≡ old.lines ++ map {B = Line} (λ w. (l, what_view w)) ws → old.values ≡ map init_view is → ks ≡ cond (is_ok r) (is ++ js) is
    → OnOk r (◌≡◌ {A = Made} (record { lines = lines; values = map init_view ks })
    (both_made old (lined l (record { statements = map what_view ws; values = map init_view js }))))
one_added (Ok x) old l ws is js ks lines e v k =
    made_same lines (old.lines ++ map {B = Line} (λ w. (l, w)) (map what_view ws)) (map init_view ks) (old.values ++ map init_view js)
    (e ∙ ap (λ (xs : List Line). old.lines ++ xs) (mapped l ws))
    (ap (map init_view) k ∙ map-append init_view is js ∙ ap (λ (xs : List Init). xs ++ map init_view js) (sym v))
one_added (Err x) old l ws is js ks lines e v k = tt
