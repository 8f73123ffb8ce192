-- The function of the definition against the rules and the order.
use Rattle.std.proofs.Common.{◌≡◌, ℕ, List, [], ◌∷◌, ◌++◌, Bool, true, Result, Ok, Err, refl, sym, ap, ◌∙◌, subst, ◌⊎◌, inl}
use Rattle.std.proofs.Common.{inr}
use Rattle.ep_ast.specs.declared.refusals.Refusal.{Refusal}
use Rattle.ep_ast.specs.Expression.{Expr, Exprs, TypeName, assign, conditional, binary, cast, step, unary}
use Rattle.ep_ast.specs.Expression.{sizeof_expr, sizeof_type, index, call, member, arrow, post_increment}
use Rattle.ep_ast.specs.Expression.{post_decrement, id, number, no_exprs, more_exprs}
use Rattle.ep_typing.specs.declared.types.CType.{CType}
use Rattle.ep_typing.specs.Results.{at, ◌>>=◌, at_statement, on_statement}
use Rattle.ep_typing.specs.Env.{Env}
use Rattle.ep_typing.specs.Names.{named_type}
use Rattle.ep_typing.specs.Operand.{Operand, Value, place, value, function, value_of}
use Rattle.ep_typing.specs.Parts.{an_operand, indexable, named, named_uncalled, sized, type_sized}
use Rattle.ep_typing.specs.Parts.{unary_typed, uncalled}
use Rattle.ep_typing.specs.Typing.{callee, typed, typed_all, read_first, joined, chosen_from, cast_to, indexed_by}
use Rattle.ep_typing.specs.Fields.{selected_behind, selected_in}
use Rattle.ep_typing.specs.Rules.{Means, MeansCallee, HaveValues}
use Rattle.ep_typing.specs.Offences.{Point, node, type_named, name_called}
use Rattle.ep_typing.specs.Rules.{is_called_name, is_called_value}
use Rattle.ep_typing.specs.Offences.{bad_callee, callee_order, value_asked, update_asked}
use Rattle.ep_typing.specs.Rules.{no_values}
use Rattle.ep_typing.specs.Offences.{index_asked, Breaks, First, here, order, order_all, refusal}
use Rattle.ep_typing.specs.Rules.{more_values, is_number, is_name, is_choice, is_binary, is_cast, is_unary}
use Rattle.ep_typing.specs.Rules.{is_size, is_type_size, is_element, is_member, is_member_behind}
use Rattle.ep_typing.specs.Offences.{bad_type_name}
use Rattle.ep_typing.specs.Offences.{bad_value, bad_update, bad_array, bad_name, bad_choice, bad_binary, bad_cast}
use Rattle.ep_typing.specs.Offences.{bad_unary, bad_size, bad_type_size, bad_element, bad_member, bad_member_behind}
use Rattle.ep_typing.specs.Offences.{assigns, steps, steps_up, steps_down, calls}
use Rattle.ep_typing.proofs.Firsts.{Clean, both, in_front, past, none_first, only_first}

-- ---- results

abbrev done : {A : Type 0} → A → Result A Refusal
done x = Ok x

pub ok_is : {A : Type 0} (x y : A) → done x ≡ done y → x ≡ y
ok_is x y e = cc

pub bind_ok : {A B : Type 0} (r : Result A Refusal) (f : A → Result B Refusal) (y : B)
    → (r >>= f) ≡ Ok y → (x : A) × (r ≡ Ok x) × (f x ≡ Ok y)
bind_ok (Ok x) f y e = (x, refl, e)
bind_ok (Err d) f y e = absurd cc

pub bind_err : {A B : Type 0} (r : Result A Refusal) (f : A → Result B Refusal) (d : Refusal)
    → (r >>= f) ≡ Err d → (r ≡ Err d) ⊎ ((x : A) × (r ≡ Ok x) × (f x ≡ Err d))
bind_err (Ok x) f d e = inr (x, refl, e)
bind_err (Err c) f d e = inl (ap (λ (r : Refusal). Err r) (let q : c ≡ d = cc in q))

pub at_ok : {A : Type 0} (l : ℕ) (r : Result A ℕ) (y : A) → at l r ≡ Ok y → r ≡ Ok y
at_ok l (Ok x) y e = cc
at_ok l (Err k) y e = absurd cc

pub at_err : {A : Type 0} (l : ℕ) (r : Result A ℕ) (d : Refusal) → at l r ≡ Err d
    → (k : ℕ) × (r ≡ Err k) × (refusal k l ≡ d)
at_err l (Ok x) d e = absurd cc
at_err l (Err k) d e = (k, refl, cc)

pub on_ok : {A : Type 0} (l : ℕ) (r : Result A Refusal) (y : A) → on_statement l r ≡ Ok y → r ≡ Ok y
on_ok l (Ok x) y e = e
on_ok l (Err c) y e = absurd cc

pub on_err : {A : Type 0} (l : ℕ) (r : Result A Refusal) (d : Refusal) → on_statement l r ≡ Err d
    → (c : Refusal) × (r ≡ Err c) × (at_statement l c ≡ d)
on_err l (Ok x) d e = absurd cc
on_err l (Err c) d e = (c, refl, cc)

-- ---- from the rules to the function

pub meant : (G : Env) (e : Expr) (z : Operand) → Means G e z → typed G e ≡ Ok z
unfolding typed
meant G e z is_number = refl
meant G e z (is_name h) = rw h refl
meant G e z (is_choice {e = e0} {a = a} {b = b} w x y r u p hw q hx s h) =
    rw (meant G e0 w p, hw, meant G a x q, hx, meant G b y s, h) refl
meant G e z (is_binary {a = a} {b = b} x y u p hx q h) = rw (meant G a x p, hx, meant G b y q, h) refl
meant G e z (is_cast {a = a} c x hn p h) = rw (hn, meant G a x p, h) refl
meant G e z (is_unary {a = a} x p h) = rw (meant G a x p, h) refl
meant G e z (is_size {a = a} x p h) = rw (meant G a x p, h) refl
meant G e z (is_type_size c hn h) = rw (hn, h) refl
meant G e z (is_element {a = a} {b = b} x u y p hx q h) = rw (meant G a x p, hx, meant G b y q, h) refl
meant G e z (is_member {a = a} x p h) = rw (meant G a x p, h) refl
meant G e z (is_member_behind {a = a} x p h) = rw (meant G a x p, h) refl

-- what is called is a name, or is typed and ordered as by itself
abbrev pub IsOther : Expr → Type 0
IsOther f = ((G : Env) (r : Result Operand Refusal) → callee G f r ≡ r) × ((ps : List Point) → callee_order f ps ≡ ps)

pub data CalleeView : Expr → Type 0 where
  a_name : {l : ℕ} {t : List ℕ} → CalleeView (id l t)
  another : {f : Expr} → IsOther f → CalleeView f

pub callee_view : (f : Expr) → CalleeView f
callee_view (assign l m a b) = another ((λ G r. refl), (λ ps. refl))
callee_view (conditional l e a b) = another ((λ G r. refl), (λ ps. refl))
callee_view (binary l m a b) = another ((λ G r. refl), (λ ps. refl))
callee_view (cast l n a) = another ((λ G r. refl), (λ ps. refl))
callee_view (step l m a) = another ((λ G r. refl), (λ ps. refl))
callee_view (unary l m a) = another ((λ G r. refl), (λ ps. refl))
callee_view (sizeof_expr l a) = another ((λ G r. refl), (λ ps. refl))
callee_view (sizeof_type l n) = another ((λ G r. refl), (λ ps. refl))
callee_view (index l a b) = another ((λ G r. refl), (λ ps. refl))
callee_view (call l f es) = another ((λ G r. refl), (λ ps. refl))
callee_view (member l a n) = another ((λ G r. refl), (λ ps. refl))
callee_view (arrow l a n) = another ((λ G r. refl), (λ ps. refl))
callee_view (post_increment l a) = another ((λ G r. refl), (λ ps. refl))
callee_view (post_decrement l a) = another ((λ G r. refl), (λ ps. refl))
callee_view (id l t) = a_name
callee_view (number l n) = another ((λ G r. refl), (λ ps. refl))

uncalled_is : (x z : Operand) → uncalled x ≡ Ok z → x ≡ z
uncalled_is (place p c) z e = cc
uncalled_is (value v) z e = cc
uncalled_is (function f) z e = absurd cc

-- a name that isn't called means what it means where it is
uncalled_named : (r : Result Operand ℕ) (z : Operand) → (r >>= uncalled) ≡ Ok z → r ≡ Ok z
uncalled_named (Ok x) z e = ap (λ (y : Operand). Ok y) (uncalled_is x z e)
uncalled_named (Err k) z e = absurd cc

pub named_alone : (G : Env) (t : List ℕ) (z : Operand) → named_uncalled G t ≡ Ok z → named G t ≡ Ok z
unfolding named_uncalled
named_alone G t z e = uncalled_named (named G t) z e

callee_of : (G : Env) (f : Expr) (z : Operand) → CalleeView f → typed G f ≡ Ok z → callee G f (typed G f) ≡ Ok z
unfolding typed
callee_of G (id l t) z a_name e = rw (named_alone G t z (at_ok l (named_uncalled G t) z e)) refl
callee_of G f z (another o) e = o.0 G (typed G f) ∙ e

pub meant_callee : (G : Env) (f : Expr) (z : Operand) → MeansCallee G f z → callee G f (typed G f) ≡ Ok z
meant_callee G f z (is_called_name h) = rw h refl
meant_callee G f z (is_called_value p) = callee_of G f z (callee_view f) (meant G f z p)

pub meant_all : (G : Env) (l : ℕ) (es : Exprs) (vs : List Value) → HaveValues G es vs → typed_all G l es ≡ Ok vs
unfolding typed
meant_all G l es vs no_values = refl
meant_all G l es vs (more_values {e = e} {es = more} {vs = ws} x p hx q) =
    rw (meant G e x p, hx, meant_all G l more ws q) refl

-- ---- what each point comes to

abbrev passes : {A : Type 0} → Result A Refusal → Result Bool Refusal
passes (Ok x) = Ok true
passes (Err r) = Err r

abbrev comes_to : Env → Point → Result Bool Refusal
comes_to G (node e) = passes (typed G e)
comes_to G (type_named n) = passes (named_type G n)
comes_to G (name_called l t) = passes (at l (named G t))
comes_to G (value_asked l a) = passes (typed G a >>= (λ x. at l (value_of G.types x)))
comes_to G (update_asked l m a) = passes (typed G a >>= (λ x. at l (read_first G.types m x)))
comes_to G (index_asked l a) = passes (typed G a >>= (λ x. at l (indexable G.types x)))

broken : (G : Env) (p : Point) (r : Refusal) → Breaks G p r → comes_to G p ≡ Err r
unfolding typed
broken G p r (bad_type_name h) = rw h refl
broken G p r (bad_value {a = a} x q h) = rw (meant G a x q, h) refl
broken G p r (bad_update {a = a} x q h) = rw (meant G a x q, h) refl
broken G p r (bad_array {a = a} x q h) = rw (meant G a x q, h) refl
broken G p r (bad_name h) = rw h refl
broken G p r (bad_callee h) = rw h refl
broken G p r (bad_choice {e = e0} {a = a} {b = b} w x y t u pw hw q hx s h) =
    rw (meant G e0 w pw, hw, meant G a x q, hx, meant G b y s, h) refl
broken G p r (bad_binary {a = a} {b = b} x y u q hx s h) = rw (meant G a x q, hx, meant G b y s, h) refl
broken G p r (bad_cast {a = a} c x hn q h) = rw (hn, meant G a x q, h) refl
broken G p r (bad_unary {a = a} x q h) = rw (meant G a x q, h) refl
broken G p r (bad_size {a = a} x q h) = rw (meant G a x q, h) refl
broken G p r (bad_type_size c hn h) = rw (hn, h) refl
broken G p r (bad_element {a = a} {b = b} x u y q hx s h) = rw (meant G a x q, hx, meant G b y s, h) refl
broken G p r (bad_member {a = a} x q h) = rw (meant G a x q, h) refl
broken G p r (bad_member_behind {a = a} x q h) = rw (meant G a x q, h) refl
broken G p r (assigns {a = a} {b = b} x old y q hx s) = rw (meant G a x q, hx, meant G b y s) refl
broken G p r (steps {a = a} x q) = rw (meant G a x q) refl
broken G p r (steps_up {a = a} x q) = rw (meant G a x q) refl
broken G p r (steps_down {a = a} x q) = rw (meant G a x q) refl
broken G p r (calls {l = l} {f = f} {es = es} x vs q s) = rw (meant_callee G f x q, meant_all G l es vs s) refl

-- ---- from the function to the rules

pub means : (G : Env) (e : Expr) (z : Operand) → typed G e ≡ Ok z → Means G e z
unfolding typed
means G (assign l m a b) z e =
    let p = bind_ok (typed G a) _ z e in
    let o = bind_ok (at l (read_first G.types m p.0)) _ z p.2 in
    let q = bind_ok (typed G b) _ z o.2 in absurd (let c = q.2 in cc)
means G (conditional l e0 a b) z e =
    let p = bind_ok (typed G e0) _ z e in
    let r = bind_ok (at l (value_of G.types p.0)) _ z p.2 in
    let q = bind_ok (typed G a) _ z r.2 in
    let u = bind_ok (at l (value_of G.types q.0)) _ z q.2 in
    let s = bind_ok (typed G b) _ z u.2 in
    is_choice p.0 q.0 s.0 r.0 u.0 (means G e0 p.0 p.1) (at_ok l (value_of G.types p.0) r.0 r.1) (means G a q.0 q.1)
    (at_ok l (value_of G.types q.0) u.0 u.1) (means G b s.0 s.1) (at_ok l (chosen_from G.types r.0 u.0 s.0) z s.2)
means G (binary l m a b) z e =
    let p = bind_ok (typed G a) _ z e in
    let u = bind_ok (at l (value_of G.types p.0)) _ z p.2 in
    let q = bind_ok (typed G b) _ z u.2 in
    is_binary p.0 q.0 u.0 (means G a p.0 p.1) (at_ok l (value_of G.types p.0) u.0 u.1) (means G b q.0 q.1)
    (at_ok l (joined G.types m u.0 q.0) z q.2)
means G (cast l n a) z e =
    let c = bind_ok (named_type G n) _ z e in
    let p = bind_ok (typed G a) _ z c.2 in
    is_cast c.0 p.0 c.1 (means G a p.0 p.1) (at_ok l (cast_to G.types c.0 p.0) z p.2)
means G (step l m a) z e = let p = bind_ok (typed G a) _ z e in absurd (let c = p.2 in cc)
means G (unary l m a) z e =
    let p = bind_ok (typed G a) _ z e in is_unary p.0 (means G a p.0 p.1) (at_ok l (unary_typed G.types m p.0) z p.2)
means G (sizeof_expr l a) z e =
    let p = bind_ok (typed G a) _ z e in
    is_size p.0 (means G a p.0 p.1) (at_ok l (an_operand (sized G.types p.0)) z p.2)
means G (sizeof_type l n) z e =
    let c = bind_ok (named_type G n) _ z e in is_type_size c.0 c.1 (at_ok l (an_operand (type_sized G.types c.0)) z c.2)
means G (index l a b) z e =
    let p = bind_ok (typed G a) _ z e in
    let u = bind_ok (at l (indexable G.types p.0)) _ z p.2 in
    let q = bind_ok (typed G b) _ z u.2 in
    is_element p.0 u.0 q.0 (means G a p.0 p.1) (at_ok l (indexable G.types p.0) u.0 u.1) (means G b q.0 q.1)
    (at_ok l (indexed_by G.types u.0 q.0) z q.2)
means G (call l f es) z e =
    let p = bind_ok (callee G f (typed G f)) _ z e in
    let q = bind_ok (typed_all G l es) _ z p.2 in absurd (let c = q.2 in cc)
means G (member l a n) z e =
    let p = bind_ok (typed G a) _ z e in is_member p.0 (means G a p.0 p.1) (at_ok l (selected_in G p.0 n) z p.2)
means G (arrow l a n) z e =
    let p = bind_ok (typed G a) _ z e in
    is_member_behind p.0 (means G a p.0 p.1) (at_ok l (selected_behind G p.0 n) z p.2)
means G (post_increment l a) z e = let p = bind_ok (typed G a) _ z e in absurd (let c = p.2 in cc)
means G (post_decrement l a) z e = let p = bind_ok (typed G a) _ z e in absurd (let c = p.2 in cc)
means G (id l t) z e = is_name (at_ok l (named_uncalled G t) z e)
means G (number l n) z e = subst (Means G (number l n)) (ok_is _ _ e) is_number

means_by_view : (G : Env) (f : Expr) (z : Operand) → CalleeView f → callee G f (typed G f) ≡ Ok z → MeansCallee G f z
means_by_view G (id l t) z a_name e = is_called_name (at_ok l (named G t) z e)
means_by_view G f z (another o) e = is_called_value (means G f z (sym (o.0 G (typed G f)) ∙ e))

pub means_callee : (G : Env) (f : Expr) (z : Operand) → callee G f (typed G f) ≡ Ok z → MeansCallee G f z
means_callee G f z e = means_by_view G f z (callee_view f) e

pub means_all : (G : Env) (l : ℕ) (es : Exprs) (vs : List Value) → typed_all G l es ≡ Ok vs → HaveValues G es vs
unfolding typed
means_all G l no_exprs vs e = subst (HaveValues G no_exprs) (ok_is [] vs e) no_values
means_all G l (more_exprs e0 es) vs e =
    let p = bind_ok (typed G e0) _ vs e in
    let u = bind_ok (at l (value_of G.types p.0)) _ vs p.2 in
    let q = bind_ok (typed_all G l es) _ vs u.2 in
    subst (HaveValues G (more_exprs e0 es)) (ok_is (u.0 ∷ q.0) vs q.2)
    (more_values p.0 (means G e0 p.0 p.1) (at_ok l (value_of G.types p.0) u.0 u.1) (means_all G l es q.0 q.1))

-- ---- points that break no rule

goes_twice : (t : Result Bool Refusal) (s : Refusal) → t ≡ Ok true → t ≡ Err s → ⊥
goes_twice t s e f = cc

one_clean : (G : Env) (p : Point) → comes_to G p ≡ Ok true → Clean (Breaks G) (p ∷ [])
one_clean G p h = ((λ s b. goes_twice (comes_to G p) s h (broken G p s b)), tt)

node_clean : (G : Env) (e : Expr) (z : Operand) → typed G e ≡ Ok z → Clean (Breaks G) (node e ∷ [])
node_clean G e z h = one_clean G (node e) (rw h refl)

name_clean : (G : Env) (n : TypeName) (c : CType) → named_type G n ≡ Ok c → Clean (Breaks G) (type_named n ∷ [])
name_clean G n c h = one_clean G (type_named n) (rw h refl)

value_clean : (G : Env) (l : ℕ) (a : Expr) (x : Operand) (u : Value) → typed G a ≡ Ok x
    → at l (value_of G.types x) ≡ Ok u → Clean (Breaks G) (value_asked l a ∷ [])
value_clean G l a x u h k = one_clean G (value_asked l a) (rw (h, k) refl)

update_clean : (G : Env) (l m : ℕ) (a : Expr) (x u : Operand) → typed G a ≡ Ok x
    → at l (read_first G.types m x) ≡ Ok u → Clean (Breaks G) (update_asked l m a ∷ [])
update_clean G l m a x u h k = one_clean G (update_asked l m a) (rw (h, k) refl)

index_clean : (G : Env) (l : ℕ) (a : Expr) (x u : Operand) → typed G a ≡ Ok x
    → at l (indexable G.types x) ≡ Ok u → Clean (Breaks G) (index_asked l a ∷ [])
index_clean G l a x u h k = one_clean G (index_asked l a) (rw (h, k) refl)

-- one part of a node, then the others
clean_then : {A : Type 0} (G : Env) (t : Result A Refusal) (f : A → Result Operand Refusal) (z : Operand)
    (xs ys : List Point) → (t >>= f) ≡ Ok z
    → ((x : A) → t ≡ Ok x → Clean (Breaks G) xs) → ((x : A) → t ≡ Ok x → f x ≡ Ok z → Clean (Breaks G) ys)
    → Clean (Breaks G) (xs ++ ys)
clean_then G t f z xs ys e part rest =
    let p = bind_ok t f z e in both (Breaks G) xs ys (part p.0 p.1) (rest p.0 p.1 p.2)

-- a node of one operand that means something
one_operand : (G : Env) (a e : Expr) (f : Operand → Result Operand Refusal) (z : Operand)
    → ((x : Operand) → typed G a ≡ Ok x → Clean (Breaks G) (order a)) → typed G e ≡ Ok z
    → (typed G a >>= f) ≡ Ok z → Clean (Breaks G) (order a ++ node e ∷ [])
one_operand G a e f z part h k =
    clean_then G (typed G a) f z (order a) (node e ∷ []) k part (λ x hx r. node_clean G e z h)

pub clean : (G : Env) (e : Expr) (z : Operand) → typed G e ≡ Ok z → Clean (Breaks G) (order e)
unfolding typed
clean G (assign l m a b) z e =
    let p = bind_ok (typed G a) _ z e in
    let o = bind_ok (at l (read_first G.types m p.0)) _ z p.2 in
    let q = bind_ok (typed G b) _ z o.2 in absurd (let c = q.2 in cc)
clean G (conditional l e0 a b) z e =
    let n = node (conditional l e0 a b) in
    clean_then G (typed G e0) _ z (order e0) (value_asked l e0 ∷ (order a ++ (value_asked l a ∷ (order b ++ n ∷ [])))) e
    (λ x h. clean G e0 x h)
    (λ w hw e1. clean_then G (at l (value_of G.types w)) _ z (value_asked l e0 ∷ [])
    (order a ++ (value_asked l a ∷ (order b ++ n ∷ []))) e1 (λ r hr. value_clean G l e0 w r hw hr)
    (λ r hr e2. clean_then G (typed G a) _ z (order a) (value_asked l a ∷ (order b ++ n ∷ [])) e2
    (λ x h. clean G a x h)
    (λ x hx e3. clean_then G (at l (value_of G.types x)) _ z (value_asked l a ∷ []) (order b ++ n ∷ []) e3
    (λ u hu. value_clean G l a x u hx hu)
    (λ u hu e4. one_operand G b (conditional l e0 a b) _ z (λ y h. clean G b y h) e e4))))
clean G (binary l m a b) z e =
    clean_then G (typed G a) _ z (order a) (value_asked l a ∷ (order b ++ node (binary l m a b) ∷ [])) e
    (λ x h. clean G a x h)
    (λ x hx e1. clean_then G (at l (value_of G.types x)) _ z (value_asked l a ∷ [])
    (order b ++ node (binary l m a b) ∷ []) e1
    (λ u hu. value_clean G l a x u hx hu)
    (λ u hu e2. one_operand G b (binary l m a b) _ z (λ y h. clean G b y h) e e2))
clean G (cast l n a) z e =
    clean_then G (named_type G n) _ z (type_named n ∷ []) (order a ++ node (cast l n a) ∷ []) e
    (λ c h. name_clean G n c h) (λ c hc e1. one_operand G a (cast l n a) _ z (λ x h. clean G a x h) e e1)
clean G (step l m a) z e = let p = bind_ok (typed G a) _ z e in absurd (let c = p.2 in cc)
clean G (unary l m a) z e = one_operand G a (unary l m a) _ z (λ x h. clean G a x h) e e
clean G (sizeof_expr l a) z e = one_operand G a (sizeof_expr l a) _ z (λ x h. clean G a x h) e e
clean G (sizeof_type l n) z e =
    clean_then G (named_type G n) _ z (type_named n ∷ []) (node (sizeof_type l n) ∷ []) e
    (λ c h. name_clean G n c h) (λ c hc e1. node_clean G (sizeof_type l n) z e)
clean G (index l a b) z e =
    clean_then G (typed G a) _ z (order a) (index_asked l a ∷ (order b ++ node (index l a b) ∷ [])) e
    (λ x h. clean G a x h)
    (λ x hx e1. clean_then G (at l (indexable G.types x)) _ z (index_asked l a ∷ [])
    (order b ++ node (index l a b) ∷ []) e1
    (λ u hu. index_clean G l a x u hx hu)
    (λ u hu e2. one_operand G b (index l a b) _ z (λ y h. clean G b y h) e e2))
clean G (call l f es) z e =
    let p = bind_ok (callee G f (typed G f)) _ z e in
    let q = bind_ok (typed_all G l es) _ z p.2 in absurd (let c = q.2 in cc)
clean G (member l a n) z e = one_operand G a (member l a n) _ z (λ x h. clean G a x h) e e
clean G (arrow l a n) z e = one_operand G a (arrow l a n) _ z (λ x h. clean G a x h) e e
clean G (post_increment l a) z e = let p = bind_ok (typed G a) _ z e in absurd (let c = p.2 in cc)
clean G (post_decrement l a) z e = let p = bind_ok (typed G a) _ z e in absurd (let c = p.2 in cc)
clean G (id l t) z e = node_clean G (id l t) z e
clean G (number l n) z e = node_clean G (number l n) z e

clean_by_view : (G : Env) (f : Expr) (z : Operand) → CalleeView f → callee G f (typed G f) ≡ Ok z
    → Clean (Breaks G) (callee_order f (order f))
clean_by_view G (id l t) z a_name e = one_clean G (name_called l t) (rw e refl)
clean_by_view G f z (another o) e =
    subst (Clean (Breaks G)) (sym (o.1 (order f))) (clean G f z (sym (o.0 G (typed G f)) ∙ e))

pub clean_callee : (G : Env) (f : Expr) (z : Operand) → callee G f (typed G f) ≡ Ok z
    → Clean (Breaks G) (callee_order f (order f))
clean_callee G f z e = clean_by_view G f z (callee_view f) e

clean_all : (G : Env) (l : ℕ) (es : Exprs) (vs : List Value) → typed_all G l es ≡ Ok vs
    → Clean (Breaks G) (order_all l es)
unfolding typed
clean_all G l no_exprs vs e = tt
clean_all G l (more_exprs e0 es) vs e =
    let p = bind_ok (typed G e0) _ vs e in
    let u = bind_ok (at l (value_of G.types p.0)) _ vs p.2 in
    let q = bind_ok (typed_all G l es) _ vs u.2 in
    both (Breaks G) (order e0) (value_asked l e0 ∷ order_all l es) (clean G e0 p.0 p.1)
    (both (Breaks G) (value_asked l e0 ∷ []) (order_all l es) (value_clean G l e0 p.0 u.0 p.1 u.1)
    (clean_all G l es q.0 q.1))

-- ---- the first point that breaks a rule

-- one part of a node is refused, or the others are
refused_then : {A B : Type 0} (G : Env) (t : Result A Refusal) (f : A → Result B Refusal) (r : Refusal)
    (xs ys : List Point) → (t >>= f) ≡ Err r
    → (t ≡ Err r → First (Breaks G) xs r) → ((x : A) → t ≡ Ok x → Clean (Breaks G) xs)
    → ((x : A) → t ≡ Ok x → f x ≡ Err r → First (Breaks G) ys r)
    → First (Breaks G) (xs ++ ys) r
refused_then G t f r xs ys e part fine rest = elim (bind_err t f r e) [
  | inl h ↦ in_front (Breaks G) xs ys r (part h)
  | inr p ↦ past (Breaks G) xs ys r (fine p.0 p.1) (rest p.0 p.1 p.2)
]

-- a point of one line offends by its kind
breaks_here : {A : Type 0} (G : Env) (l : ℕ) (p : Point) (t : Result A ℕ) (r : Refusal) → at l t ≡ Err r
    → ((k : ℕ) → t ≡ Err k → Breaks G p (refusal k l)) → First (Breaks G) (p ∷ []) r
breaks_here G l p t r e breaks = let k = at_err l t r e in here (subst (Breaks G p) k.2 (breaks k.0 k.1))

-- a node with a last operand is refused for the operand, or for itself
last_operand : (G : Env) (l : ℕ) (a e : Expr) (f : Operand → Result Operand ℕ) (r : Refusal)
    → (typed G a >>= (λ x. at l (f x))) ≡ Err r
    → (typed G a ≡ Err r → First (Breaks G) (order a) r)
    → ((x : Operand) (k : ℕ) → Means G a x → f x ≡ Err k → Breaks G (node e) (refusal k l))
    → First (Breaks G) (order a ++ node e ∷ []) r
last_operand G l a e f r h part breaks =
    refused_then G (typed G a) (λ x. at l (f x)) r (order a) (node e ∷ []) h part (λ x hx. clean G a x hx)
    (λ x hx k. breaks_here G l (node e) (f x) r k (λ j hj. breaks x j (means G a x hx) hj))

-- a kind that stands there
abbrev stopped : ℕ → Result Operand ℕ
stopped k = Err k

kind_is : (j k : ℕ) → stopped j ≡ stopped k → j ≡ k
kind_is j k e = cc

always : (G : Env) (l j : ℕ) (p : Point) → Breaks G p (refusal j l) → (k : ℕ) → stopped j ≡ stopped k
    → Breaks G p (refusal k l)
always G l j p b k h = subst (λ (i : ℕ). Breaks G p (refusal i l)) (kind_is j k h) b

rest_err : (t : Result (List Value) Refusal) (u : Value) (r : Refusal)
    → (t >>= (λ vs. done (u ∷ vs))) ≡ Err r → t ≡ Err r
rest_err (Ok vs) u r e = absurd cc
rest_err (Err s) u r e = cc

refused_by_view : (G : Env) (f : Expr) (r : Refusal) → CalleeView f
    → (typed G f ≡ Err r → First (Breaks G) (order f) r) → callee G f (typed G f) ≡ Err r
    → First (Breaks G) (callee_order f (order f)) r
refused_by_view G (id l t) r a_name alone e =
    breaks_here G l (name_called l t) (named G t) r e (λ k h. bad_callee h)
refused_by_view G f r (another o) alone e =
    subst (λ (ps : List Point). First (Breaks G) ps r) (sym (o.1 (order f))) (alone (sym (o.0 G (typed G f)) ∙ e))

mutual
  unfolding typed

  pub refused : (G : Env) (e : Expr) (r : Refusal) → typed G e ≡ Err r → First (Breaks G) (order e) r
  refused G (assign l m a b) r e =
      refused_then G (typed G a) _ r (order a) (update_asked l m a ∷ (order b ++ node (assign l m a b) ∷ [])) e
      (λ h. refused G a r h) (λ x h. clean G a x h)
      (λ x hx e1. refused_then G (at l (read_first G.types m x)) _ r (update_asked l m a ∷ [])
      (order b ++ node (assign l m a b) ∷ []) e1
      (λ h. breaks_here G l (update_asked l m a) (read_first G.types m x) r h
      (λ k hk. bad_update x (means G a x hx) hk))
      (λ u hu. update_clean G l m a x u hx hu)
      (λ u hu e2. last_operand G l b (assign l m a b) (λ y. stopped 19) r e2 (λ h. refused G b r h)
      (λ y k q h. always G l 19 (node (assign l m a b))
      (assigns x u y (means G a x hx) (at_ok l (read_first G.types m x) u hu) q) k h)))
  refused G (conditional l e0 a b) r e =
      let n = node (conditional l e0 a b) in
      refused_then G (typed G e0) _ r (order e0)
      (value_asked l e0 ∷ (order a ++ (value_asked l a ∷ (order b ++ n ∷ [])))) e
      (λ h. refused G e0 r h) (λ x h. clean G e0 x h)
      (λ w hw e1. refused_then G (at l (value_of G.types w)) _ r (value_asked l e0 ∷ [])
      (order a ++ (value_asked l a ∷ (order b ++ n ∷ []))) e1
      (λ h. breaks_here G l (value_asked l e0) (value_of G.types w) r h (λ k hk. bad_value w (means G e0 w hw) hk))
      (λ t ht. value_clean G l e0 w t hw ht)
      (λ t ht e2. refused_then G (typed G a) _ r (order a) (value_asked l a ∷ (order b ++ n ∷ [])) e2
      (λ h. refused G a r h) (λ x h. clean G a x h)
      (λ x hx e3. refused_then G (at l (value_of G.types x)) _ r (value_asked l a ∷ []) (order b ++ n ∷ []) e3
      (λ h. breaks_here G l (value_asked l a) (value_of G.types x) r h (λ k hk. bad_value x (means G a x hx) hk))
      (λ u hu. value_clean G l a x u hx hu)
      (λ u hu e4. last_operand G l b (conditional l e0 a b) (chosen_from G.types t u) r e4
      (λ h. refused G b r h)
      (λ y k q h. bad_choice w x y t u (means G e0 w hw) (at_ok l (value_of G.types w) t ht) (means G a x hx)
      (at_ok l (value_of G.types x) u hu) q h)))))
  refused G (binary l m a b) r e =
      refused_then G (typed G a) _ r (order a) (value_asked l a ∷ (order b ++ node (binary l m a b) ∷ [])) e
      (λ h. refused G a r h) (λ x h. clean G a x h)
      (λ x hx e1. refused_then G (at l (value_of G.types x)) _ r (value_asked l a ∷ [])
      (order b ++ node (binary l m a b) ∷ []) e1
      (λ h. breaks_here G l (value_asked l a) (value_of G.types x) r h (λ k hk. bad_value x (means G a x hx) hk))
      (λ u hu. value_clean G l a x u hx hu)
      (λ u hu e2. last_operand G l b (binary l m a b) (joined G.types m u) r e2 (λ h. refused G b r h)
      (λ y k q h. bad_binary x y u (means G a x hx) (at_ok l (value_of G.types x) u hu) q h)))
  refused G (cast l n a) r e =
      refused_then G (named_type G n) _ r (type_named n ∷ []) (order a ++ node (cast l n a) ∷ []) e
      (λ h. here (bad_type_name h)) (λ c h. name_clean G n c h)
      (λ c hc e1. last_operand G l a (cast l n a) (cast_to G.types c) r e1 (λ h. refused G a r h)
      (λ x k q h. bad_cast c x hc q h))
  refused G (step l m a) r e =
      last_operand G l a (step l m a) (λ x. stopped 19) r e (λ h. refused G a r h)
      (λ x k q h. always G l 19 (node (step l m a)) (steps x q) k h)
  refused G (unary l m a) r e =
      last_operand G l a (unary l m a) (unary_typed G.types m) r e (λ h. refused G a r h) (λ x k q h. bad_unary x q h)
  refused G (sizeof_expr l a) r e =
      last_operand G l a (sizeof_expr l a) (λ x. an_operand (sized G.types x)) r e (λ h. refused G a r h)
      (λ x k q h. bad_size x q h)
  refused G (sizeof_type l n) r e =
      refused_then G (named_type G n) _ r (type_named n ∷ []) (node (sizeof_type l n) ∷ []) e
      (λ h. here (bad_type_name h)) (λ c h. name_clean G n c h)
      (λ c hc e1. breaks_here G l (node (sizeof_type l n)) (an_operand (type_sized G.types c)) r e1
      (λ k h. bad_type_size c hc h))
  refused G (index l a b) r e =
      refused_then G (typed G a) _ r (order a) (index_asked l a ∷ (order b ++ node (index l a b) ∷ [])) e
      (λ h. refused G a r h) (λ x h. clean G a x h)
      (λ x hx e1. refused_then G (at l (indexable G.types x)) _ r (index_asked l a ∷ [])
      (order b ++ node (index l a b) ∷ []) e1
      (λ h. breaks_here G l (index_asked l a) (indexable G.types x) r h (λ k hk. bad_array x (means G a x hx) hk))
      (λ u hu. index_clean G l a x u hx hu)
      (λ u hu e2. last_operand G l b (index l a b) (indexed_by G.types u) r e2 (λ h. refused G b r h)
      (λ y k q h. bad_element x u y (means G a x hx) (at_ok l (indexable G.types x) u hu) q h)))
  refused G (call l f es) r e =
      refused_then G (callee G f (typed G f)) _ r (callee_order f (order f)) (order_all l es ++ node (call l f es) ∷ [])
      e (λ h. refused_by_view G f r (callee_view f) (λ k. refused G f r k) h) (λ x h. clean_callee G f x h)
      (λ x hx e1. refused_then G (typed_all G l es) (λ vs. at l (stopped 18)) r (order_all l es)
      (node (call l f es) ∷ []) e1
      (λ h. refused_all G l es r h) (λ vs h. clean_all G l es vs h)
      (λ vs hvs e2. breaks_here G l (node (call l f es)) (stopped 18) r e2
      (λ k h. always G l 18 (node (call l f es)) (calls x vs (means_callee G f x hx) (means_all G l es vs hvs)) k h)))
  refused G (member l a n) r e =
      last_operand G l a (member l a n) (λ x. selected_in G x n) r e (λ h. refused G a r h)
      (λ x k q h. bad_member x q h)
  refused G (arrow l a n) r e =
      last_operand G l a (arrow l a n) (λ x. selected_behind G x n) r e (λ h. refused G a r h)
      (λ x k q h. bad_member_behind x q h)
  refused G (post_increment l a) r e =
      last_operand G l a (post_increment l a) (λ x. stopped 19) r e (λ h. refused G a r h)
      (λ x k q h. always G l 19 (node (post_increment l a)) (steps_up x q) k h)
  refused G (post_decrement l a) r e =
      last_operand G l a (post_decrement l a) (λ x. stopped 19) r e (λ h. refused G a r h)
      (λ x k q h. always G l 19 (node (post_decrement l a)) (steps_down x q) k h)
  refused G (id l t) r e = breaks_here G l (node (id l t)) (named_uncalled G t) r e (λ k h. bad_name h)
  refused G (number l n) r e = absurd cc

  pub refused_all : (G : Env) (l : ℕ) (es : Exprs) (r : Refusal) → typed_all G l es ≡ Err r
      → First (Breaks G) (order_all l es) r
  refused_all G l no_exprs r e = absurd cc
  refused_all G l (more_exprs e0 es) r e =
      refused_then G (typed G e0) _ r (order e0) (value_asked l e0 ∷ order_all l es) e
      (λ h. refused G e0 r h) (λ x h. clean G e0 x h)
      (λ x hx e1. refused_then G (at l (value_of G.types x)) _ r (value_asked l e0 ∷ []) (order_all l es) e1
      (λ h. breaks_here G l (value_asked l e0) (value_of G.types x) r h (λ k hk. bad_value x (means G e0 x hx) hk))
      (λ u hu. value_clean G l e0 x u hx hu)
      (λ u hu e2. refused_all G l es r (rest_err (typed_all G l es) u r e2)))

refused_twice : (t : Result Bool Refusal) (r s : Refusal) → t ≡ Err r → t ≡ Err s → r ≡ s
refused_twice t r s e f = cc

one_refusal : (G : Env) (p : Point) (r s : Refusal) → Breaks G p r → Breaks G p s → r ≡ s
one_refusal G p r s b c = refused_twice (comes_to G p) r s (broken G p r b) (broken G p s c)

first_at : (G : Env) (e : Expr) (t : Result Operand Refusal) (r : Refusal) → typed G e ≡ t
    → First (Breaks G) (order e) r → t ≡ Err r
first_at G e (Ok z) r h f = absurd (none_first (Breaks G) (order e) r (clean G e z h) f)
first_at G e (Err s) r h f =
    ap (λ (d : Refusal). Err d) (only_first (Breaks G) (one_refusal G) (order e) s r (refused G e s h) f)

pub first : (G : Env) (e : Expr) (r : Refusal) → First (Breaks G) (order e) r → typed G e ≡ Err r
first G e r f = first_at G e (typed G e) r refl f

pub refused_callee : (G : Env) (f : Expr) (r : Refusal) → callee G f (typed G f) ≡ Err r
    → First (Breaks G) (callee_order f (order f)) r
refused_callee G f r e = refused_by_view G f r (callee_view f) (λ h. refused G f r h) e

first_callee_at : (G : Env) (f : Expr) (t : Result Operand Refusal) (r : Refusal) → callee G f (typed G f) ≡ t
    → First (Breaks G) (callee_order f (order f)) r → t ≡ Err r
first_callee_at G f (Ok z) r h g =
    absurd (none_first (Breaks G) (callee_order f (order f)) r (clean_callee G f z h) g)
first_callee_at G f (Err s) r h g =
    ap (λ (d : Refusal). Err d)
    (only_first (Breaks G) (one_refusal G) (callee_order f (order f)) s r (refused_callee G f s h) g)

pub first_callee : (G : Env) (f : Expr) (r : Refusal) → First (Breaks G) (callee_order f (order f)) r
    → callee G f (typed G f) ≡ Err r
first_callee G f r g = first_callee_at G f (callee G f (typed G f)) r refl g

first_all_at : (G : Env) (l : ℕ) (es : Exprs) (t : Result (List Value) Refusal) (r : Refusal) → typed_all G l es ≡ t
    → First (Breaks G) (order_all l es) r → t ≡ Err r
first_all_at G l es (Ok vs) r h f = absurd (none_first (Breaks G) (order_all l es) r (clean_all G l es vs h) f)
first_all_at G l es (Err s) r h f =
    ap (λ (d : Refusal). Err d)
    (only_first (Breaks G) (one_refusal G) (order_all l es) s r (refused_all G l es s h) f)

pub first_all : (G : Env) (l : ℕ) (es : Exprs) (r : Refusal) → First (Breaks G) (order_all l es) r
    → typed_all G l es ≡ Err r
first_all G l es r f = first_all_at G l es (typed_all G l es) r refl f
