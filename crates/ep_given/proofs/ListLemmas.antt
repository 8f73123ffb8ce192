-- The values of a list, one after another.
use Rattle.std.proofs.Common.{◌≡◌, ℕ, suc, ◌+◌, ◌<◌, ◌≤◌, Bool, false, length, List, [], ◌∷◌, map, drop, get_or}
use Rattle.std.proofs.Common.{Option, Some, Result, Ok, Err, refl, sym, ap, ◌∙◌, append_assoc, drop-cons, subst}
use Rattle.std.proofs.Common.{arith}
use Rattle.std.proofs.lemmas.List.{append-nil, drop_all, length-map}
use Rattle.std.specs.Prelude.{OnOk}
use Rattle.std.specs.Global.{Vec}
use Rattle.ep_ast.specs.declared.declarations.ValueTree.{ValueTree}
use Rattle.ep_ast.specs.declared.declarations.ValueTree.TheVariants.{List as List'}
use Rattle.ep_ast.proofs.Rows.{values-vec}
use Rattle.ep_ast.specs.declared.refusals.Refusal.{Refusal}
use Rattle.ep_ast.specs.declared.refusals.Halt.{Halt}
use Rattle.ep_ast.specs.declared.refusals.Halt.TheVariants as halts
use Rattle.ep_ast.specs.Mark.{equal}
use Rattle.ep_ast.specs.Declaration as source
use Rattle.ep_layout.specs.Table.{Grows, Table}
use Rattle.ep_elaboration.specs.Declarators.{Object}
use Rattle.ep_ast.specs.Expression.{Expr}
use Rattle.ep_declared.specs.Refinement.{RefinesIn}
use Rattle.ep_elaboration.specs.Given.{Given, all_given, both_given, expression_given, line_of_value, nothing_given}
use Rattle.ep_elaboration.specs.Given.{part_at, value_given, with_list, cleared, count_listed, count_values}
use Rattle.ep_elaboration.specs.Given.{object_operand}
use Rattle.ep_typing.specs.Env.{Env}
use Rattle.ep_typing.specs.Typing.{Right, assigned_from, right_side}
use Rattle.ep_declared.proofs.Growth.{mentioned_more}
use Rattle.ep_typing.specs.Names.{mentioned}
use Rattle.ep_typing.specs.Results.{◌>>=◌, at}
use Rattle.ep_operands.specs.Refinement.{Refines, Stops}
use Rattle.ep_given.specs.Appended.{all_behind, behind}
use Rattle.ep_given.proofs.Gathering as gathering

pub both_assoc : (a b c : Given) → both_given (both_given a b) c ≡ both_given a (both_given b c)
both_assoc a b c = rw (append_assoc a.statements b.statements c.statements, append_assoc a.values b.values c.values) refl

nothing_more : (g : Given) → both_given g nothing_given ≡ g
nothing_more g = rw (append-nil g.statements, append-nil g.values) refl

pub none_before : {E : Type 0} (r : Result (Given × E) Refusal) → all_behind both_given nothing_given r ≡ r
none_before (Ok p) = refl
none_before (Err e) = refl

front : (i : ℕ) (xs : List ValueTree) (x : ValueTree) → i < length xs → x ≡ get_or xs i x → drop i xs ≡ x ∷ drop (i + 1) xs
front i xs x lt e =
    let more : suc i ≡ i + 1 = omega arith in
    drop-cons xs i x lt ∙ ap (λ (y : ValueTree). y ∷ drop (suc i) xs) (sym e) ∙ ap (λ (n : ℕ). x ∷ drop n xs) more

abbrev pub left : Env → Bool → Object → (i : ℕ) → List ValueTree → Result (Given × Env) Refusal
left G global x i xs = all_given G global x i (source.to_values (map source.value_of xs))

module _ (G : Env) (global : Bool) (x : Object) (i : ℕ) (xs : List ValueTree) (v : ValueTree) (o : Option Object) (done : Given)
    (all : Result (Given × Env) Refusal) (lt : i < length xs) (is : v ≡ get_or xs i v) (part : o ≡ part_at G.types x i)
    (h : all_behind both_given done (left G global x i (drop i xs)) ≡ all) where
  abbrev this : Option Object → Result (Given × Env) Refusal
  this p = value_given G global false (line_of_value (source.value_of v)) p (source.value_of v)

  abbrev rest : Env → Result (Given × Env) Refusal
  rest H = left H global x (suc i) (drop (i + 1) xs)

  unrolled : all_behind both_given done (this o >>= (λ p. rest p.1 >>= (λ q. Ok (both_given p.0 q.0, q.1)))) ≡ all
  unfolding all_given
  unrolled =
      ap (λ (p : Option Object). all_behind both_given done (this p >>= (λ p. rest p.1 >>= (λ q. Ok (both_given p.0 q.0, q.1))))) part
      ∙ sym (ap (λ (ys : List ValueTree). all_behind both_given done (left G global x i ys)) (front i xs v lt is)) ∙ h

  -- a value that is refused
  pub stopped : (e : Halt) → Stops (all_behind both_given done (this o)) e → Stops all e
  stopped e k =
      subst (λ (r : Result (Given × Env) Refusal). Stops r e) unrolled
      (gathering.stopped both_given done (this o) (λ p. rest p.1 >>= (λ q. Ok (both_given p.0 q.0, q.1))) e k)

  pub stopped_on : (n : ℕ) (e : Halt) → n ≡ line_of_value (source.value_of v)
      → Stops (all_behind both_given done (value_given G global false n o (source.value_of v))) e → Stops all e
  stopped_on n e q k =
      stopped e (subst (λ (m : ℕ). Stops (all_behind both_given done (value_given G global false m o (source.value_of v))) e) q k)

  pub went : (now : Given) (H : Env) → all_behind both_given done (this o) ≡ Ok (now, H)
      → all_behind both_given now (left H global x (i + 1) (drop (i + 1) xs)) ≡ all
  went now H k =
      let more : i + 1 ≡ suc i = omega arith in
      ap (λ (n : ℕ). all_behind both_given now (left H global x n (drop (i + 1) xs))) more
      ∙ sym (gathering.went both_given both_assoc done now H (this o) rest k) ∙ unrolled

pub none_left : (G : Env) (global : Bool) (x : Object) (i : ℕ) (xs : List ValueTree) (done : Given) (all : Result (Given × Env) Refusal)
    → length xs ≤ i → all_behind both_given done (left G global x i (drop i xs)) ≡ all → all ≡ Ok (done, G)
unfolding all_given
none_left G global x i xs done all le h =
    let none : drop i xs ≡ [] = drop_all i xs le in
    sym h ∙ ap (λ (ys : List ValueTree). all_behind both_given done (left G global x i ys)) none ∙ ap (λ (g : Given). Ok (g, G)) (nothing_more done)

-- ---- one value

pub same_gives_in : {X Y E : Type 0} (v : X → Y) (r s : Result (Y × E) Refusal) (after : E) (o : Result X Halt) → r ≡ s
    → RefinesIn v s after o → RefinesIn v r after o
same_gives_in {Y = Y} {E = E} v r s after o e g = subst (λ (q : Result (Y × E) Refusal). RefinesIn v q after o) (sym e) g

-- the expression is one that can't be assigned
pub statement_stops : (G : Env) (global may_call : Bool) (l : ℕ) (x : Object) (e : Expr) (done : Given) (r : Right) (f : Halt)
    → right_side G may_call e ≡ Ok r
    → Stops (at l (assigned_from G.types equal (object_operand x) (object_operand x) r)) f
    → Stops (behind both_given done (expression_given G global may_call l (Some x) e)) f
unfolding expression_given
statement_stops G global may_call l x e done r halts.Memory m h = tt
statement_stops G global may_call l x e done r (halts.Refused k) m h = rw (m, h) refl

pub on_always : {T E P : Type 0} (r : Result T E) → P → OnOk r P
on_always (Ok x) h = h
on_always (Err e) h = tt

pub mentions_grow : (G H : Env) (e : Expr) → H ≡ mentioned G e → Grows G.types H.types
mentions_grow G H e m = subst (λ (K : Env). Grows G.types K.types) (sym m) (mentioned_more G e).grows

module _ (G : Env) (global may_call : Bool) (l : ℕ) (p : Option Object) (done : Given) where
  -- an expression, in the environment that has what it mentions
  pub single_means : (H : Env) (x : Option Object) (e : Expr) (now : Given) (o : Result Unit Halt) → H ≡ mentioned G e → p ≡ x
      → Refines (λ _. now) (behind both_given done (expression_given H global may_call l x e)) o
      → RefinesIn (λ _. now) (all_behind both_given done (value_given G global may_call l p (source.single e))) H o
  unfolding value_given
  single_means H x e now o m q h =
      subst (λ (K : Env). RefinesIn (λ _. now) (all_behind both_given done (expression_given K global may_call l p e >>= (λ g. Ok (g, K)))) H o) m
      (subst (λ (y : Option Object). RefinesIn (λ _. now) (all_behind both_given done (expression_given H global may_call l y e >>= (λ g. Ok (g, H)))) H o) (sym q)
      (gathering.in_env both_given done now H (expression_given H global may_call l x e) o h))

  pub single_stops : (H : Env) (x : Option Object) (e : Expr) (f : Halt) → H ≡ mentioned G e → p ≡ x
      → Stops (expression_given H global may_call l x e) f
      → Stops (all_behind both_given done (value_given G global may_call l p (source.single e))) f
  unfolding value_given
  single_stops H x e f m q h =
      subst (λ (K : Env). Stops (all_behind both_given done (expression_given K global may_call l p e >>= (λ g. Ok (g, K)))) f) m
      (subst (λ (y : Option Object). Stops (all_behind both_given done (expression_given H global may_call l y e >>= (λ g. Ok (g, H)))) f) (sym q)
      (gathering.stopped_before both_given done (expression_given H global may_call l x e) (λ g. Ok (g, H)) f h))

  -- a list
  pub list_is : (v : source.Value) (k : ℕ) (vs : source.Values) (y : Object) → v ≡ source.listed k vs → at l (with_list G p vs) ≡ Ok y
      → all_behind both_given done (value_given G global may_call l p v) ≡ all_behind both_given done (all_given G global y 0 vs)
  unfolding value_given
  list_is v k vs y i h = rw (i, h) refl

  pub list_stops : (v : source.Value) (k : ℕ) (vs : source.Values) (f : Halt) → v ≡ source.listed k vs → Stops (at l (with_list G p vs)) f
      → Stops (all_behind both_given done (value_given G global may_call l p v)) f
  unfolding value_given
  list_stops v k vs f i h =
      subst (λ (w : source.Value). Stops (all_behind both_given done (value_given G global may_call l p w)) f) (sym i)
      (gathering.stopped_before both_given done (at l (with_list G p vs)) (λ y. all_given G global y 0 vs) f h)

pub listed_tree : (k : ℕ) (t : ValueTree) (v : Vec ValueTree) (xs : List ValueTree) → t ≡ List' k v → xs ≡ v.items
    → source.value_of t ≡ source.listed k (source.to_values (map source.value_of xs))
listed_tree k t v xs i q = ap source.value_of i ∙ ap (source.listed k) (values-vec v) ∙ rw q refl

values_counted : (xs : List source.Value) → count_values (source.to_values xs) ≡ length xs
values_counted [] = refl
values_counted (x ∷ xs) = ap suc (values_counted xs)

pub list_counted : (k : ℕ) (t : ValueTree) (v : Vec ValueTree) → t ≡ List' k v → count_listed (Some (source.value_of t)) ≡ Some (length v.items)
list_counted k t v i =
    ap (λ (w : source.Value). count_listed (Some w)) (listed_tree k t v v.items i refl)
    ∙ ap Some (values_counted (map source.value_of v.items) ∙ length-map v.items source.value_of)

pub list_cleared : (u : Table) (x : Object) (g : Given) (k : ℕ) (t : ValueTree) (v : Vec ValueTree) → t ≡ List' k v
    → cleared u x (source.value_of t) g ≡ cleared u x (source.listed k (source.to_values (map source.value_of v.items))) g
list_cleared u x g k t v i = ap (λ (w : source.Value). cleared u x w g) (listed_tree k t v v.items i refl)
