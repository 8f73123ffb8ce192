-- Bounds one after another.
use Rattle.std.proofs.Common.{◌≡◌, ℕ, suc, ◌+◌, ◌<◌, ◌≤◌, length, true, false, List, [], ◌∷◌, ◌++◌, append_assoc}
use Rattle.std.proofs.Common.{append-nil, map, drop, drop-cons, get_or, pos, Option, Some, None, Result, Ok, Err, refl}
use Rattle.std.proofs.Common.{sym, ap, ◌∙◌, subst, arith}
use Rattle.std.specs.Global.{Vec}
use Rattle.std.specs.Option.{option_map}
use Rattle.std.proofs.lemmas.List.{drop_all}
use Rattle.ep_ast.specs.declared.expressions.ExprTree.{ExprTree}
use Rattle.ep_ast.specs.declared.refusals.Refusal.{Refusal}
use Rattle.ep_ast.specs.declared.refusals.Halt.{Halt}
use Rattle.ep_ast.specs.declared.refusals.Halt.TheVariants as halts
use Rattle.ep_ast.specs.Expression.{Expr, expr}
use Rattle.ep_typing.specs.Constant.{count_in}
use Rattle.ep_typing.specs.Env.{Env}
use Rattle.ep_typing.specs.Results.{◌>>=◌, at, needed}
use Rattle.ep_elaboration.specs.Declarators.{bound, bounds, object_bounds}
use Rattle.ep_operands.specs.Refinement.{Stops}
use Rattle.ep_declared.specs.Counts.{behind, lacks_first}
use Rattle.ep_declared.specs.Refinement.{RefinesIn}

abbrev pub trees : List (Option ExprTree) → List (Option Expr)
trees bs = map (option_map expr) bs

abbrev with_first : ℕ → List ℕ × Env → Result (List ℕ × Env) Refusal
with_first n q = Ok (n ∷ q.0, q.1)

joined : (done : List ℕ) (n : ℕ) (r : Result (List ℕ × Env) Refusal) → behind done (r >>= with_first n)
    ≡ behind (done ++ n ∷ []) r
joined done n (Ok q) = ap (λ (ns : List ℕ). of (ns, q.1)) (sym (append_assoc done (n ∷ []) q.0))
  where
    of : List ℕ × Env → Result (List ℕ × Env) Refusal
    of p = Ok p
joined done n (Err r) = refl

front : (i : ℕ) (bs : List (Option ExprTree)) (b : Option ExprTree) → i < length bs → b ≡ get_or bs i b → drop i bs
    ≡ b ∷ drop (i + 1) bs
front i bs b lt e =
    let more : suc i ≡ i + 1 = omega arith in
    drop-cons bs i b lt ∙ ap (λ (y : Option ExprTree). y ∷ drop (suc i) bs) (sym e) ∙ ap (λ (n : ℕ). b ∷ drop n bs) more

module _ (i : ℕ) (bs : List (Option ExprTree)) (b : Option ExprTree) (lt : i < length bs) (is : b ≡ get_or bs i b)
    (G : Env) (l : ℕ) (done : List ℕ) (all : Result (List ℕ × Env) Refusal)
    (h : behind done (bounds G l (trees (drop i bs))) ≡ all) where
  unrolled : behind done (bounds G l (option_map expr b ∷ trees (drop (i + 1) bs))) ≡ all
  unrolled = sym (ap (λ (cs : List (Option ExprTree)). behind done (bounds G l (trees cs))) (front i bs b lt is)) ∙ h

  pub stopped : (e : Halt) → Stops (bound G l (option_map expr b)) e → Stops all e
  unfolding bounds
  stopped halts.Memory k = tt
  stopped (halts.Refused r) k = sym unrolled ∙ rw k refl

  pub went : (n : ℕ) (H : Env) → bound G l (option_map expr b) ≡ Ok (n, H)
      → behind (done ++ n ∷ []) (bounds H l (trees (drop (i + 1) bs))) ≡ all
  unfolding bounds
  went n H k =
      sym (joined done n (bounds H l (trees (drop (i + 1) bs))))
      ∙ sym (ap (λ (r : Result (ℕ × Env) Refusal). behind done (r >>= (λ p. bounds p.1 l (trees (drop (i + 1) bs)) >>=
      with_first p.0))) k)
      ∙ unrolled

abbrev pub answered : List ℕ → Env → Result (List ℕ × Env) Refusal
answered ns G = Ok (ns, G)

pub all_bounds : (i : ℕ) (bs : List (Option ExprTree)) (G : Env) (l : ℕ) (done : List ℕ) (all : Result (List ℕ × Env)
    Refusal) → length bs ≤ i
    → behind done (bounds G l (trees (drop i bs))) ≡ all → all ≡ answered done G
unfolding bounds
all_bounds i bs G l done all le h =
    sym h ∙ ap (λ (cs : List (Option ExprTree)). behind done (bounds G l (trees cs))) (drop_all i bs le)
    ∙ ap (λ (ns : List ℕ). answered ns G) (append-nil done)

pub behind_none : (r : Result (List ℕ × Env) Refusal) → behind [] r ≡ r
behind_none (Ok q) = refl
behind_none (Err r) = refl

-- ---- the first bound of an object

pub lacking : (bs : List (Option Expr)) → lacks_first bs ≡ true → bs ≡ None ∷ drop 1 bs
lacking [] h = absurd cc
lacking (None ∷ bs) h = refl
lacking (Some e ∷ bs) h = absurd cc

first_behind : (k : ℕ) (r : Result (List ℕ × Env) Refusal) → (r >>= with_first k) ≡ behind (k ∷ []) r
first_behind k (Ok q) = refl
first_behind k (Err r) = refl

pub listed_first : (G : Env) (l n k : ℕ) (bs : List (Option Expr)) → lacks_first bs ≡ true
    → at l (needed 17 (count_in (pos n))) ≡ Ok k
    → object_bounds G l (Some n) bs ≡ behind (k ∷ []) (bounds G l (drop 1 bs))
unfolding object_bounds
listed_first G l n k bs h e =
    ap (object_bounds G l (Some n)) (lacking bs h)
    ∙ ap (λ (r : Result ℕ Refusal). r >>= (λ j. bounds G l (drop 1 bs) >>= with_first j)) e
    ∙ first_behind k (bounds G l (drop 1 bs))

pub listed_stops : (G : Env) (l n : ℕ) (bs : List (Option Expr)) (e : Halt) → lacks_first bs ≡ true
    → Stops (at l (needed 17 (count_in (pos n)))) e → Stops (object_bounds G l (Some n) bs) e
unfolding object_bounds
listed_stops G l n bs halts.Memory h k = tt
listed_stops G l n bs (halts.Refused r) h k =
    ap (object_bounds G l (Some n)) (lacking bs h)
    ∙ ap (λ (q : Result ℕ Refusal). q >>= (λ j. bounds G l (drop 1 bs) >>= with_first j)) k

pub not_lacking : (G : Env) (l n : ℕ) (bs : List (Option Expr)) → lacks_first bs ≡ false
    → object_bounds G l (Some n) bs ≡ bounds G l bs
unfolding object_bounds
not_lacking G l n [] h = refl
not_lacking G l n (None ∷ bs) h = absurd cc
not_lacking G l n (Some e ∷ bs) h = refl

pub not_listed : (G : Env) (l : ℕ) (bs : List (Option Expr)) → object_bounds G l None bs ≡ bounds G l bs
unfolding object_bounds
not_listed G l bs = refl

pub trees_behind : (bs : List (Option ExprTree)) → trees (drop 1 bs) ≡ drop 1 (trees bs)
trees_behind [] = refl
trees_behind (b ∷ bs) = refl

-- ---- what calls give

abbrev GivesCounts : Env → Result (Vec ℕ) Halt → Result (List ℕ × Env) Refusal → Type 0
GivesCounts H r s = RefinesIn (λ (v : Vec ℕ). v.items) s H r

pub none_before : (done : List ℕ) (s : Result (List ℕ × Env) Refusal) (H : Env) (r : Result (Vec ℕ) Halt) → done ≡ []
    → RefinesIn (λ (v : Vec ℕ). v.items) (behind done s) H r → RefinesIn (λ (v : Vec ℕ). v.items) s H r
none_before done s H r e h = subst (GivesCounts H r) (ap (λ (ns : List ℕ). behind ns s) e ∙ behind_none s) h

pub unlisted : (G : Env) (l : ℕ) (o : Option ℕ) (bs : List (Option Expr)) (H : Env) (r : Result (Vec ℕ) Halt) → o ≡ None
    → RefinesIn (λ (v : Vec ℕ). v.items) (bounds G l bs) H r → RefinesIn (λ (v : Vec ℕ). v.items) (object_bounds G l o bs)
    H r
unlisted G l o bs H r e h =
    subst (GivesCounts H r) (sym (ap (λ (p : Option ℕ). object_bounds G l p bs) e ∙ not_listed G l bs)) h

pub listed_not_lacking : (G : Env) (l n : ℕ) (o : Option ℕ) (bs : List (Option Expr)) (H : Env) (r : Result (Vec ℕ)
    Halt) → o ≡ Some n
    → lacks_first bs ≡ false
    → RefinesIn (λ (v : Vec ℕ). v.items) (bounds G l bs) H r → RefinesIn (λ (v : Vec ℕ). v.items) (object_bounds G l o bs)
    H r
listed_not_lacking G l n o bs H r e f h =
    subst (GivesCounts H r) (sym (ap (λ (p : Option ℕ). object_bounds G l p bs) e ∙ not_lacking G l n bs f)) h

pub listed_gives : (G : Env) (l n k : ℕ) (bs cs : List (Option ExprTree)) (done : List ℕ) (H : Env) (r : Result (Vec
    ℕ) Halt)
    → lacks_first (trees bs) ≡ true → at l (needed 17 (count_in (pos n))) ≡ Ok k → done ≡ k ∷ [] → cs ≡ drop 1 bs
    → RefinesIn (λ (v : Vec ℕ). v.items) (behind done (bounds G l (trees cs))) H r
    → RefinesIn (λ (v : Vec ℕ). v.items) (object_bounds G l (Some n) (trees bs)) H r
listed_gives G l n k bs cs done H r f g e d h =
    subst (GivesCounts H r)
    (ap (λ (ns : List ℕ). behind ns (bounds G l (trees cs))) e
    ∙ ap (λ (ds : List (Option Expr)). behind (k ∷ []) (bounds G l ds)) (ap trees d ∙ trees_behind bs)
    ∙ sym (listed_first G l n k (trees bs) f g)) h

pub some_listed : (bs : List (Option ExprTree)) → lacks_first (trees bs) ≡ true → 0 < length bs
some_listed [] h = absurd cc
some_listed (b ∷ bs) h = omega arith
