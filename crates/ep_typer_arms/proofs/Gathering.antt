-- The functions of an arm one after another.
use Rattle.std.proofs.Common.{◌≡◌, ℕ, zero, suc, ◌+◌, ◌<◌, ◌≤◌, nat_eq, Bool, false, ◌||◌, List, [], ◌∷◌, ◌++◌, map}
use Rattle.ep_int.proofs.Basics.{drop-here}
use Rattle.std.proofs.Common.{length, drop, get_or, slice_get, Some, None, Result, Ok, Err, refl, sym, ap, ◌∙◌}
use Rattle.std.proofs.Common.{append_assoc, arith}
use Rattle.std.proofs.lemmas.List.{append-nil, drop_all, map-append}
use Rattle.ep_ast.specs.declared.refusals.Refusal.{Refusal}
use Rattle.ep_ast.specs.declared.refusals.Halt.{Halt}
use Rattle.ep_ast.specs.declared.refusals.Halt.TheVariants as halts
use Rattle.ep_ast.specs.declared.statements.FunctionTree.{FunctionTree}
use Rattle.ep_ast.specs.Statement.{function_of}
use Rattle.ep_typing.specs.Env.{Env}
use Rattle.ep_typing.specs.Results.{◌>>=◌}
use Rattle.ep_operands.specs.Refinement.{Stops}
use Rattle.ep_elaboration.specs.Functions as rule
use Rattle.ep_elaboration.specs.Functions.{first_block}
use Rattle.ep_elaboration.specs.FunctionSteps.{function_defined, function_typed, functions_defined}
use Rattle.ep_elaboration.specs.Functions.{rest_of}
use Rattle.ep_elaboration.specs.FunctionSteps.{others_typed}
use Rattle.ep_defined.specs.declared.sofar.Defined.{Defined}
use Rattle.ep_defined.specs.View.{defined}
use Rattle.ep_typer_functions.specs.declared.done.Done.{Done}
use Rattle.ep_typer_functions.specs.View.{AreDone, has_body}
use Rattle.ep_typer_functions.specs.declared.functions.Body.{Body}
use Rattle.ep_typer_functions.specs.BodyView.{body}

-- what comes first is put before the rest
abbrev pub ahead : {Y : Type 0} → List Y → Result (List Y × Env) Refusal → Result (List Y × Env) Refusal
ahead done (Ok p) = Ok (done ++ p.0, p.1)
ahead done (Err r) = Err r

nothing_ahead : {Y : Type 0} (r : Result (List Y × Env) Refusal) → ahead [] r ≡ r
nothing_ahead (Ok p) = refl
nothing_ahead (Err r) = refl

more_ahead : {Y : Type 0} (done : List Y) (y : Y) (o : Result (List Y × Env) Refusal)
    → ahead done (o >>= (λ (q : List Y × Env). Ok (y ∷ q.0, q.1))) ≡ ahead (done ++ y ∷ []) o
more_ahead {Y = Y} done y (Ok q) = ap (λ (ys : List Y). Ok (ys, q.1)) (sym (append_assoc done (y ∷ []) q.0))
more_ahead done y (Err r) = refl

-- one step, and what comes behind it
module _ {R Y : Type 0} (part : R → Y) (one : Result (R × Env) Refusal)
    (rest : R × Env → Result (List Y × Env) Refusal) (done : List Y) (all : Result (List Y × Env) Refusal)
    (h : ahead done (one >>= (λ (r : R × Env). rest r >>= (λ (q : List Y × Env). Ok (part r.0 ∷ q.0, q.1)))) ≡ all) where
  abbrev behind : Result (R × Env) Refusal → Result (List Y × Env) Refusal
  behind o = ahead done (o >>= (λ (r : R × Env). rest r >>= (λ (q : List Y × Env). Ok (part r.0 ∷ q.0, q.1))))

  step_stops : (e : Halt) → Stops one e → Stops all e
  step_stops halts.Memory k = tt
  step_stops (halts.Refused r) k = sym h ∙ ap behind k

  step_goes : (r : R) (H : Env) → one ≡ Ok (r, H) → ahead (done ++ part r ∷ []) (rest (r, H)) ≡ all
  step_goes r H k = sym (more_ahead done (part r) (rest (r, H))) ∙ sym (ap behind k) ∙ h

-- ---- functions that have a body

same_done : (d e : Done) (ds : List ℕ) → AreDone d ds → ((n : ℕ) → has_body e n ≡ has_body d n) → AreDone e ds
same_done d e ds h k n = h n ∙ sym (k n)

more_done : (d e : Done) (m : ℕ) (ds : List ℕ) → AreDone d ds
    → ((n : ℕ) → has_body e n ≡ (nat_eq n m || has_body d n)) → AreDone e (m ∷ ds)
more_done d e m ds h k n = ap (λ (b : Bool). nat_eq n m || b) (h n) ∙ sym (k n)

shown_more : {X Y : Type 0} (view : X → Y) (before now : List X) (x : X) → now ≡ before ++ x ∷ []
    → map view before ++ view x ∷ [] ≡ map view now
shown_more view before now x e = sym (map-append view before (x ∷ [])) ∙ sym (ap (map view) e)

-- ---- the first arm

abbrev pub firsts : Env → List ℕ → List FunctionTree → Result (List rule.Defined × Env) Refusal
firsts G ds ts = functions_defined G ds (map function_of ts)

-- those that are left, behind those that were defined, are all
abbrev pub FirstsLeft : Env → Done → List FunctionTree → List Defined → Result (List rule.Defined × Env) Refusal → Type 0
FirstsLeft G d ts done all = (es : List ℕ) × AreDone d es × (ahead (map defined done) (firsts G es ts) ≡ all)

more_firsts : (G : Env) (ds : List ℕ) (t : FunctionTree) (ts : List FunctionTree)
    → firsts G ds (t ∷ ts) ≡ (function_defined G ds (function_of t)
    >>= (λ (r : rule.Defined × Env). firsts r.1 (r.0.number ∷ ds) ts
    >>= (λ (q : List rule.Defined × Env). Ok (r.0 ∷ q.0, q.1))))
unfolding functions_defined
more_firsts G ds t ts = refl

no_firsts : (G : Env) (ds : List ℕ) → firsts G ds [] ≡ Ok ([], G)
unfolding functions_defined
no_firsts G ds = refl

pub firsts_begin : (G : Env) (d e : Done) (ts : List FunctionTree) (ds : List ℕ) → AreDone d ds
    → ((n : ℕ) → has_body e n ≡ has_body d n) → (done : List Defined) → done ≡ [] → FirstsLeft G e ts done (firsts G ds ts)
firsts_begin G d e ts ds h k done none = (
  ds,
  same_done d e ds h k,
  ap (λ (ys : List Defined). ahead (map defined ys) (firsts G ds ts)) none ∙ nothing_ahead (firsts G ds ts),
)

pub firsts_end : (G : Env) (d : Done) (i : ℕ) (ts : List FunctionTree) (done : List Defined)
    (all : Result (List rule.Defined × Env) Refusal) → FirstsLeft G d (drop i ts) done all → length ts ≤ i
    → all ≡ Ok (map defined done, G)
firsts_end G d i ts done all h l =
    sym h.2 ∙ ap (λ (us : List FunctionTree). ahead (map defined done) (firsts G h.0 us)) (drop_all i ts l)
    ∙ ap (ahead (map defined done)) (no_firsts G h.0)
    ∙ ap (λ (ds : List rule.Defined). Ok (ds, G)) (append-nil (map defined done))

module _ (G : Env) (d : Done) (i : ℕ) (ts : List FunctionTree) (t : FunctionTree) (done : List Defined)
    (all : Result (List rule.Defined × Env) Refusal) (h : FirstsLeft G d (drop i ts) done all) (lt : i < length ts)
    (is : t ≡ get_or ts i t) where
  abbrev more : rule.Defined × Env → Result (List rule.Defined × Env) Refusal
  more r = firsts r.1 (r.0.number ∷ h.0) (drop (i + 1) ts)

  unrolled : ahead (map defined done) (function_defined G h.0 (function_of t)
      >>= (λ (r : rule.Defined × Env). more r >>= (λ (q : List rule.Defined × Env). Ok (r.0 ∷ q.0, q.1)))) ≡ all
  unrolled =
      sym (ap (ahead (map defined done)) (ap (firsts G h.0) (drop-here i ts t t lt is) ∙ more_firsts G h.0 t (drop (i + 1) ts)))
      ∙ h.2

  pub firsts_stop : (e : Halt) → ((ds : List ℕ) → AreDone d ds → Stops (function_defined G ds (function_of t)) e)
      → Stops all e
  firsts_stop e k =
      step_stops (λ (r : rule.Defined). r) (function_defined G h.0 (function_of t)) more (map defined done) all unrolled e
      (k h.0 h.1)

  pub firsts_go : (x : Defined) (H : Env) (e : Done) (now : List Defined)
      → ((ds : List ℕ) → AreDone d ds → function_defined G ds (function_of t) ≡ Ok (defined x, H))
      → ((n : ℕ) → has_body e n ≡ (nat_eq n x.number || has_body d n)) → now ≡ done ++ x ∷ []
      → FirstsLeft H e (drop (i + 1) ts) now all
  firsts_go x H e now k m n = (
    x.number ∷ h.0,
    more_done d e x.number h.0 h.1 m,
    sym (ap (λ (ys : List rule.Defined). ahead ys (more (defined x, H))) (shown_more defined done now x n))
        ∙ step_goes (λ (r : rule.Defined). r) (function_defined G h.0 (function_of t)) more (map defined done) all unrolled
        (defined x) H (k h.0 h.1),
  )

-- ---- the second arm

abbrev pub others : Env → List ℕ → List Defined → List FunctionTree → Result (List rule.Body × Env) Refusal
others G ds xs ts = others_typed G ds (map defined xs) (map function_of ts)

-- those that are left, behind those that were typed, are all
abbrev pub OthersLeft : Env → Done → List Defined → List FunctionTree → List Body
    → Result (List rule.Body × Env) Refusal → Type 0
OthersLeft G d xs ts done all = (es : List ℕ) × AreDone d es × (ahead (map body done) (others G es xs ts) ≡ all)

more_others : (G : Env) (ds : List ℕ) (xs : List rule.Defined) (t : FunctionTree) (ts : List FunctionTree)
    → others_typed G ds xs (map function_of (t ∷ ts)) ≡ (function_typed G (first_block xs) false ds (function_of t)
    >>= (λ (r : rule.Typed × Env). others_typed r.1 (r.0.number ∷ ds) (rest_of xs) (map function_of ts)
    >>= (λ (q : List rule.Body × Env). Ok (r.0.body ∷ q.0, q.1))))
unfolding others_typed
more_others G ds xs t ts = refl

no_others : (G : Env) (ds : List ℕ) (xs : List rule.Defined) → others_typed G ds xs [] ≡ Ok ([], G)
unfolding others_typed
no_others G ds xs = refl

next_rest : (i : ℕ) (xs : List Defined) → rest_of (map defined (drop i xs)) ≡ map defined (drop (suc i) xs)
next_rest zero [] = refl
next_rest zero (x ∷ xs) = refl
next_rest (suc i) [] = refl
next_rest (suc i) (x ∷ xs) = next_rest i xs

rest_is : (i : ℕ) (xs : List Defined) → rest_of (map defined (drop i xs)) ≡ map defined (drop (i + 1) xs)
rest_is i xs =
    let more : suc i ≡ i + 1 = omega arith in next_rest i xs ∙ ap (λ (n : ℕ). map defined (drop n xs)) more

pub first_some : (i : ℕ) (xs : List Defined) (x : Defined) → Some x ≡ slice_get xs i
    → x.first ≡ first_block (map defined (drop i xs))
first_some zero [] x e = absurd cc
first_some (suc i) [] x e = absurd cc
first_some zero (y ∷ xs) x e = let same : x ≡ y = cc in ap (λ (z : Defined). z.first) same
first_some (suc i) (y ∷ xs) x e = first_some i xs x e

pub first_none : (i : ℕ) (xs : List Defined) → None ≡ slice_get xs i → 0 ≡ first_block (map defined (drop i xs))
first_none zero [] e = refl
first_none (suc i) [] e = refl
first_none zero (y ∷ xs) e = absurd cc
first_none (suc i) (y ∷ xs) e = first_none i xs e

pub others_begin : (G : Env) (d e : Done) (xs : List Defined) (ts : List FunctionTree) (ds : List ℕ) → AreDone d ds
    → ((n : ℕ) → has_body e n ≡ has_body d n) → (done : List Body) → done ≡ [] → OthersLeft G e xs ts done (others G ds xs ts)
others_begin G d e xs ts ds h k done none = (
  ds,
  same_done d e ds h k,
  ap (λ (ys : List Body). ahead (map body ys) (others G ds xs ts)) none ∙ nothing_ahead (others G ds xs ts),
)

pub others_end : (G : Env) (d : Done) (i : ℕ) (xs : List Defined) (ts : List FunctionTree) (done : List Body)
    (all : Result (List rule.Body × Env) Refusal) → OthersLeft G d xs (drop i ts) done all → length ts ≤ i
    → all ≡ Ok (map body done, G)
others_end G d i xs ts done all h l =
    sym h.2 ∙ ap (λ (us : List FunctionTree). ahead (map body done) (others G h.0 xs us)) (drop_all i ts l)
    ∙ ap (ahead (map body done)) (no_others G h.0 (map defined xs))
    ∙ ap (λ (bs : List rule.Body). Ok (bs, G)) (append-nil (map body done))

module _ (G : Env) (d : Done) (i : ℕ) (xs : List Defined) (ts : List FunctionTree) (t : FunctionTree) (done : List Body)
    (all : Result (List rule.Body × Env) Refusal) (h : OthersLeft G d (drop i xs) (drop i ts) done all)
    (lt : i < length ts) (is : t ≡ get_or ts i t) where
  abbrev more_bodies : rule.Typed × Env → Result (List rule.Body × Env) Refusal
  more_bodies r = others r.1 (r.0.number ∷ h.0) (drop (i + 1) xs) (drop (i + 1) ts)

  abbrev step : ℕ → (rule.Typed × Env → List rule.Defined) → Result (List rule.Body × Env) Refusal
  step b left = ahead (map body done) (function_typed G b false h.0 (function_of t)
      >>= (λ (r : rule.Typed × Env). others_typed r.1 (r.0.number ∷ h.0) (left r) (map function_of (drop (i + 1) ts))
      >>= (λ (q : List rule.Body × Env). Ok (r.0.body ∷ q.0, q.1))))

  module _ (b : ℕ) (first : b ≡ first_block (map defined (drop i xs))) where
    unrolled_step : step b (λ r. map defined (drop (i + 1) xs)) ≡ all
    unrolled_step =
        ap (λ (n : ℕ). step n (λ r. map defined (drop (i + 1) xs))) first
        ∙ sym (ap (λ (ys : List rule.Defined). step (first_block (map defined (drop i xs))) (λ r. ys)) (rest_is i xs))
        ∙ sym (ap (ahead (map body done)) (ap (others G h.0 (drop i xs)) (drop-here i ts t t lt is)
        ∙ more_others G h.0 (map defined (drop i xs)) t (drop (i + 1) ts)))
        ∙ h.2

    pub others_stop : (e : Halt)
        → ((ds : List ℕ) → AreDone d ds → Stops (function_typed G b false ds (function_of t)) e) → Stops all e
    others_stop e k =
        step_stops (λ (r : rule.Typed). r.body) (function_typed G b false h.0 (function_of t)) more_bodies (map body done) all
        unrolled_step e (k h.0 h.1)

    pub others_go : (x : rule.Typed) (y : Body) (H : Env) (e : Done) (now : List Body)
        → ((ds : List ℕ) → AreDone d ds → function_typed G b false ds (function_of t) ≡ Ok (x, H))
        → ((n : ℕ) → has_body e n ≡ (nat_eq n x.number || has_body d n)) → x.body ≡ body y → now ≡ done ++ y ∷ []
        → OthersLeft H e (drop (i + 1) xs) (drop (i + 1) ts) now all
    others_go x y H e now k m same n = (
      x.number ∷ h.0,
      more_done d e x.number h.0 h.1 m,
      sym (ap (λ (ys : List rule.Body). ahead ys (more_bodies (x, H))) (shown_more body done now y n))
          ∙ ap (λ (z : rule.Body). ahead (map body done ++ z ∷ []) (more_bodies (x, H))) (sym same)
          ∙ step_goes (λ (r : rule.Typed). r.body) (function_typed G b false h.0 (function_of t)) more_bodies (map body done) all
          unrolled_step x H (k h.0 h.1),
    )
