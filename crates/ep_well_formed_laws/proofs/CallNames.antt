-- What is called, by the names of the text.
use Rattle.std.proofs.Common.{◌≡◌, ℕ, ◌==◌, Bool, true, false, cond, if◌then◌else◌, ◌&&◌, List, [], ◌∷◌, ◌++◌, map}
use Rattle.ep_int.proofs.Basics.{bytes_eq-equal}
use Rattle.std.proofs.Common.{Option, Some, None, is_some, bytes_eq, codes, Result, Ok, Err, refl, sym, ap, ◌∙◌}
use Rattle.std.proofs.Common.{subst, ◌⊎◌, inl, inr}
use Rattle.std.proofs.lemmas.Slice.Eq.{bytes_eq-Decides}
use Rattle.ep_int.specs.declared.types.IntType.{IntType}
use Rattle.ep_ast.specs.Expression as source
use Rattle.ep_ast.specs.Mark as mark
use Rattle.ep_layout.specs.Table.{Table, member_named}
use Rattle.ep_core.specs.Program as core
use Rattle.ep_core.specs.WellFormed.{scoped_in}
use Rattle.ep_typing.specs.Results.{◌>>=◌, needed}
use Rattle.ep_typing.specs.Types.{element_of, is_aggregate, is_integer, is_pointer, number_in, size_of_type, target}
use Rattle.ep_typing.specs.Env as env
use Rattle.ep_typing.specs.Env.{Env, Meaning, Scope, Signature, entry, first_of, look_up}
use Rattle.ep_typing.specs.Operand.{Callee, Operand, Value, declared, function, input, output, copy_bytes, fill_bytes}
use Rattle.ep_typing.specs.Operand.{read_bytes, write_bytes, place, value, value_of}
use Rattle.ep_typing.specs.Operators.{moved, unary_operated}
use Rattle.ep_typing.specs.Parts.{addressed, an_operand, built_in, element_behind, element_in, element_of_array, ends}
use Rattle.ep_typing.specs.Parts.{indexed, meant, member_at, member_of, named, named_callee, named_uncalled, pointed}
use Rattle.ep_typing.specs.Parts.{selected, unary_of_value, unary_typed, uncalled}
use Rattle.ep_typing.specs.declared.types.FieldRow.{FieldRow}
use Rattle.ep_typing.specs.Fields.{but_field, field_in, pointed_by, selected_behind, selected_in}
use Rattle.ep_typing.specs.Calls.{Called, a_call, an_action, an_input, all_passed, called, called_into, done_by}
use Rattle.ep_typing.specs.Calls.{parameters}
use Rattle.ep_typing.specs.Typing.{Right, a_result, an_object, assigned, assigned_from, cast_to, chosen_from}
use Rattle.ep_typing.specs.Typing.{indexed_by, joined, one, operator_of, taken, updated}
use Rattle.ep_typing.specs.Rules.{Means, MeansCallee, is_binary, is_called_name, is_called_value, is_cast}
use Rattle.ep_typing.specs.Rules.{is_choice, is_element, is_member, is_member_behind, is_name, is_number, is_size, is_type_size, is_unary}
use Rattle.ep_elaboration.specs.Calls.{Stand, call_in, evaluation, named_call}
use Rattle.ep_elaboration.specs.Functions.{number_of_function}
use Rattle.ep_elaboration.specs.WholeRules.{MeansCall, MeansRight, MeansStep, MeansWhole, is_assignment, is_call}
use Rattle.ep_elaboration.specs.WholeRules.{is_decrement, is_increment, is_operand, is_result, is_step, is_value}
use Rattle.ep_elaboration.specs.WholeRules.{is_whole_assignment, is_whole_call, is_whole_step}
use Rattle.ep_well_formed_laws.proofs.FieldAccesses.{IsAccess, a_reading, a_writing}
use Rattle.ep_well_formed_laws.proofs.Scopes.{HaveNames}
use Rattle.ep_well_formed_laws.proofs.Tests.{after, either_way, given, needed_is}

-- ---- names of functions

-- a function has the number that its name has, and its name isn't built in
abbrev pub NameFits : List Signature → List ℕ → Meaning → Type 0
NameFits fs t (env.variable b c) = Unit {0}
NameFits fs t (env.function n) = (number_of_function fs t ≡ Some n) × (is_some (entry t built_in) ≡ false)
NameFits fs t (env.type_name c) = Unit {0}

abbrev pub NamesFit : List Signature → List (List ℕ × Meaning) → Type 0
NamesFit fs [] = Unit {0}
NamesFit fs (x ∷ xs) = NameFits fs x.0 x.1 × NamesFit fs xs

abbrev pub ScopesFit : List Signature → List Scope → Type 0
ScopesFit fs [] = Unit {0}
ScopesFit fs (s ∷ ss) = NamesFit fs s.names × ScopesFit fs ss

pub bytes_same : (x y : List ℕ) → x ≡ y → bytes_eq x y ≡ true
bytes_same x y e = (bytes_eq-Decides x y).1 e

pub entry_name_fits : (fs : List Signature) (t : List ℕ) (xs : List (List ℕ × Meaning)) (m : Meaning) → NamesFit fs xs
    → entry t xs ≡ Some m → NameFits fs t m
entry_name_fits fs t [] m h e = absurd cc
entry_name_fits fs t (x ∷ xs) m h e = by (bytes_eq t x.0) refl e (entry_name_fits fs t xs m h.1)
  where
    by : (b : Bool) → bytes_eq t x.0 ≡ b → cond b (Some x.1) (entry t xs) ≡ Some m
        → (entry t xs ≡ Some m → NameFits fs t m)
        → NameFits fs t m
    by true q e f =
        let same : x.1 ≡ m = cc in
        subst (λ (n : List ℕ). NameFits fs n m) (sym (bytes_eq-equal t x.0 q)) (subst (NameFits fs x.0) same h.0)
    by false q e f = f e

pub look_up_fits : (fs : List Signature) (t : List ℕ) (ss : List Scope) (m : Meaning) → ScopesFit fs ss
    → look_up t ss ≡ Some m → NameFits fs t m
look_up_fits fs t [] m h e = absurd cc
look_up_fits fs t (s ∷ ss) m h e = by (entry t s.names) refl e (look_up_fits fs t ss m h.1)
  where
    by : (o : Option Meaning) → entry t s.names ≡ o → first_of o (look_up t ss) ≡ Some m
        → (look_up t ss ≡ Some m → NameFits fs t m) → NameFits fs t m
    by None q e f = f e
    by (Some x) q e f = let same : x ≡ m = cc in subst (NameFits fs t) same (entry_name_fits fs t s.names x h.0 q)

pub scopes_fit_same : (fs : List Signature) (ss us : List Scope) → HaveNames ss us → ScopesFit fs ss → ScopesFit fs us
scopes_fit_same fs [] [] n h = tt
scopes_fit_same fs [] (u ∷ us) n h = absurd n
scopes_fit_same fs (s ∷ ss) [] n h = absurd n
scopes_fit_same fs (s ∷ ss) (u ∷ us) n h = (subst (NamesFit fs) n.0 h.0, scopes_fit_same fs ss us n.1 h.1)

-- ---- what is built in is not declared

abbrev NotDeclared : Operand → Type 0
NotDeclared (place p c) = Unit {0}
NotDeclared (value v) = Unit {0}
NotDeclared (function (declared n)) = ⊥
NotDeclared (function (input t)) = Unit {0}
NotDeclared (function (output t)) = Unit {0}
NotDeclared (function copy_bytes) = Unit {0}
NotDeclared (function fill_bytes) = Unit {0}
NotDeclared (function read_bytes) = Unit {0}
NotDeclared (function write_bytes) = Unit {0}

abbrev NoneDeclared : List (List ℕ × Operand) → Type 0
NoneDeclared [] = Unit {0}
NoneDeclared (x ∷ xs) = NotDeclared x.1 × NoneDeclared xs

both_not_declared : (xs ys : List (List ℕ × Operand)) → NoneDeclared xs → NoneDeclared ys → NoneDeclared (xs ++ ys)
both_not_declared [] ys h k = k
both_not_declared (x ∷ xs) ys h k = (h.0, both_not_declared xs ys h.1 k)

callees_not : (begin : List ℕ) (f : IntType → Callee) → ((i : IntType) → NotDeclared (function (f i)))
    → (es : List (List ℕ × IntType)) → NoneDeclared (map (named_callee begin f) es)
callees_not begin f g [] = tt
callees_not begin f g (e ∷ es) = (g e.1, callees_not begin f g es)

none_declared : NoneDeclared built_in
none_declared = (
  tt,
  (
    tt,
    (
      tt,
      (
        tt,
        (
          tt,
          both_not_declared (map (named_callee (codes "ep_in_") input) ends)
              (map (named_callee (codes "ep_out_") output) ends)
              (callees_not (codes "ep_in_") input (λ i. tt) ends) (callees_not (codes "ep_out_") output (λ i. tt) ends),
        ),
      ),
    ),
  ),
)

entry_not : (t : List ℕ) (xs : List (List ℕ × Operand)) (x : Operand) → NoneDeclared xs → entry t xs ≡ Some x
    → NotDeclared x
entry_not t [] x h e = absurd cc
entry_not t (y ∷ ys) x h e = by (bytes_eq t y.0) e (entry_not t ys x h.1)
  where
    by : (b : Bool) → cond b (Some y.1) (entry t ys) ≡ Some x → (entry t ys ≡ Some x → NotDeclared x) → NotDeclared x
    by true q f = let same : y.1 ≡ x = cc in subst NotDeclared same h.0
    by false q f = f q

-- a name that is called means a function
declared_name : (G : Env) (t : List ℕ) (n : ℕ) → named G t ≡ Ok (function (declared n))
    → look_up t G.scopes ≡ Some (env.function n)
unfolding named
declared_name G t n e = by (look_up t G.scopes) refl e
  where
    number_in : Operand → ℕ
    number_in (place p c) = 0
    number_in (value v) = 0
    number_in (function (declared k)) = k
    number_in (function f) = 0

    by : (o : Option Meaning) → look_up t G.scopes ≡ o → meant o (entry t built_in) ≡ Ok (function (declared n))
        → look_up t G.scopes ≡ Some (env.function n)
    by (Some (env.variable b c)) q r = absurd cc
    by (Some (env.function k)) q r =
        let same : function (declared k) ≡ function (declared n) = cc in
        let number : k ≡ n = ap number_in same in q ∙ ap (λ (j : ℕ). Some (env.function j)) number
    by (Some (env.type_name c)) q r = absurd cc
    by None q r = absurd (entry_not t built_in (function (declared n)) none_declared
        (needed_is 30 _ (function (declared n)) r))

-- ---- only a name is a function

abbrev NoFunction : Operand → Type 0
NoFunction (place p c) = Unit {0}
NoFunction (value v) = Unit {0}
NoFunction (function f) = ⊥

no_value : (r : Result Value ℕ) (x : Operand) → an_operand r ≡ Ok x → NoFunction x
no_value (Ok v) x e = let same : value v ≡ x = cc in subst NoFunction same tt
no_value (Err k) x e = absurd cc

no_pointed : (v : Value) (y : Operand) → pointed v ≡ Ok y → NoFunction y
unfolding pointed
no_pointed v y e =
    let g = given (is_pointer v.ty) (place (core.deref v.expr) (target v.ty)) y 32 e in subst NoFunction g.1 tt

no_addressed : (x y : Operand) → addressed x ≡ Ok y → NoFunction y
unfolding addressed
no_addressed (place p c) (place q d) e = tt
no_addressed (place p c) (value v) e = tt
no_addressed (place p c) (function f) e = absurd cc
no_addressed (value v) y e = absurd cc
no_addressed (function f) y e = absurd cc

no_unary : (t : Table) (m : ℕ) (x y : Operand) → unary_typed t m x ≡ Ok y → NoFunction y
unfolding unary_typed
no_unary t m x y e = elim (either_way (m == mark.ampersand) _ _ (Ok y) e) [
  | inl p ↦ no_addressed x y p.1
  | inr p ↦
      let v = after (value_of t x) (unary_of_value m) y p.1 in
      elim (either_way (m == mark.star) _ _ (Ok y) v.2) [
        | inl q ↦ no_pointed v.0 y q.1
        | inr q ↦ no_value (unary_operated m v.0) y q.1
      ]
]

no_indexed : (t : Table) (u : Operand) (v : Value) (y : Operand) → indexed t u v ≡ Ok y → NoFunction y
unfolding indexed element_of_array element_behind
no_indexed t (place p c) v y e = elim (either_way (is_integer v.ty) _ _ (Ok y) e) [
  | inl q ↦
      let z = after (needed 33 (size_of_type t (element_of t c))) _ y q.1 in
      let same : element_in t p c v z.0 ≡ y = (let r = z.2 in cc) in subst NoFunction same tt
  | inr q ↦ absurd (let r = q.1 in cc)
]
no_indexed t (value u) v y e = elim (either_way (is_pointer u.ty && is_integer v.ty) _ _ (Ok y) e) [
  | inl q ↦ let w = after (moved t u v false) pointed y q.1 in no_pointed w.0 y w.2
  | inr q ↦ absurd (let r = q.1 in cc)
]
no_indexed t (function f) v y e = absurd cc

no_selected : (t : Table) (x : Operand) (n : List ℕ) (y : Operand) → selected t x n ≡ Ok y → NoFunction y
unfolding selected member_of
no_selected t (place p c) n y e = elim (either_way (is_aggregate c) _ _ (Ok y) e) [
  | inl q ↦
      let m = after (needed 40 (member_named t (number_in c.base) n)) _ y q.1 in
      let same : member_at t p m.0 ≡ y = (let r = m.2 in cc) in subst NoFunction same tt
  | inr q ↦ absurd (let r = q.1 in cc)
]
no_selected t (value v) n y e = absurd cc
no_selected t (function f) n y e = absurd cc

no_selected_in : (G : Env) (x : Operand) (n : List ℕ) (y : Operand) → selected_in G x n ≡ Ok y → NoFunction y
unfolding selected_in
no_selected_in G x n y e = by (field_in G x n) e
  where
    by : (o : Option (core.Place × FieldRow)) → but_field o (selected G.types x n) ≡ Ok y → NoFunction y
    by None q = no_selected G.types x n y q
    by (Some z) q = absurd cc

-- an expression that is a function, by its name
pub record IsNamed (G : Env) (e : source.Expr) (f : Callee) : Type 0 where
  pub line : ℕ
  pub name : List ℕ
  pub is : e ≡ source.id line name
  pub named : named G name ≡ Ok (function f)

no_uncalled : (r : Result Operand ℕ) (f : Callee) → (r >>= uncalled) ≡ Ok (function f) → ⊥
no_uncalled (Ok (place p c)) f e = cc
no_uncalled (Ok (value v)) f e = cc
no_uncalled (Ok (function g)) f e = cc
no_uncalled (Err k) f e = cc

-- what stands by itself is no function
never_function : (G : Env) (e : source.Expr) (f : Callee) (x : Operand) → Means G e x → x ≡ function f → ⊥
unfolding chosen_from joined cast_to indexed_by selected_behind named_uncalled
never_function G e f x is_number q = cc
never_function G e f x (is_name {t = t} p) q = no_uncalled (named G t) f (p ∙ ap (λ (y : Operand). Ok y) q)
never_function G e f x (is_choice w y z r u a b c d g k) q =
    let v = after (value_of G.types z) _ x k in subst NoFunction q (no_value _ x v.2)
never_function G e f x (is_binary {m = m} y z u a b c k) q =
    let v = after (value_of G.types z) _ x k in subst NoFunction q (no_value _ x v.2)
never_function G e f x (is_cast c y a b k) q =
    let v = after (value_of G.types y) _ x k in subst NoFunction q (no_value _ x v.2)
never_function G e f x (is_unary {m = m} y a k) q = subst NoFunction q (no_unary G.types m y x k)
never_function G e f x (is_size y a k) q = subst NoFunction q (no_value _ x k)
never_function G e f x (is_type_size c a k) q = subst NoFunction q (no_value _ x k)
never_function G e f x (is_element y u z a b c k) q =
    let v = after (value_of G.types z) _ x k in subst NoFunction q (no_indexed G.types u v.0 x v.2)
never_function G e f x (is_member {n = n} y a k) q = subst NoFunction q (no_selected_in G y n x k)
never_function G e f x (is_member_behind {n = n} y a k) q =
    let z = after (pointed_by G y) (λ z. selected_in G z n) x k in subst NoFunction q (no_selected_in G z.0 n x z.2)

only_named : (G : Env) (e : source.Expr) (f : Callee) (x : Operand) → MeansCallee G e x → x ≡ function f → IsNamed G e f
only_named G e f x (is_called_name {l = l} {t = t} p) q =
    record { line = l; name = t; is = refl; named = p ∙ ap (λ (y : Operand). Ok y) q }
only_named G e f x (is_called_value m) q = absurd (never_function G e f x m q)

-- ---- calls of statements

-- the number of the function that a statement of the text calls, if it calls one
abbrev pub callee_number : List Signature → Option (List ℕ) → Option ℕ
callee_number fs None = None
callee_number fs (Some t) = number_of_function fs t

-- one of these statements calls the function of this number
abbrev pub CallsTo : List Signature → ℕ → List Stand → Type 0
CallsTo fs k [] = ⊥
CallsTo fs k (s ∷ ss) = (callee_number fs s.callee ≡ Some k) ⊎ CallsTo fs k ss

-- each call in statements of the core is so
abbrev mutual
  pub EachCallIn : (ℕ → Type 0) → core.What → Type 0
  EachCallIn P (core.simple w) = Unit {0}
  EachCallIn P (core.call k es d) = P k
  EachCallIn P (core.if_else e a b) = EachCall P a × EachCall P b
  EachCallIn P (core.loop first e a b) = EachCall P a × EachCall P b
  EachCallIn P core.break_loop = Unit {0}
  EachCallIn P core.continue_loop = Unit {0}
  EachCallIn P (core.by_order o a b) = EachCall P a × EachCall P b
  EachCallIn P (core.scope bs a) = EachCall P a

  pub EachCall : (ℕ → Type 0) → core.Stmts → Type 0
  EachCall P core.stop = Unit {0}
  EachCall P (core.more l w rest) = EachCallIn P w × EachCall P rest

mutual
  pub each_call_in : (P Q : ℕ → Type 0) → ((k : ℕ) → P k → Q k) → (w : core.What) → EachCallIn P w → EachCallIn Q w
  each_call_in P Q f (core.simple w) h = tt
  each_call_in P Q f (core.call k es d) h = f k h
  each_call_in P Q f (core.if_else e a b) h = (each_call P Q f a h.0, each_call P Q f b h.1)
  each_call_in P Q f (core.loop first e a b) h = (each_call P Q f a h.0, each_call P Q f b h.1)
  each_call_in P Q f core.break_loop h = tt
  each_call_in P Q f core.continue_loop h = tt
  each_call_in P Q f (core.by_order o a b) h = (each_call P Q f a h.0, each_call P Q f b h.1)
  each_call_in P Q f (core.scope bs a) h = each_call P Q f a h

  pub each_call : (P Q : ℕ → Type 0) → ((k : ℕ) → P k → Q k) → (ss : core.Stmts) → EachCall P ss → EachCall Q ss
  each_call P Q f core.stop h = tt
  each_call P Q f (core.more l w rest) h = (each_call_in P Q f w h.0, each_call P Q f rest h.1)

-- what reads or writes a bit-field calls nothing
pub access_calls : (P : ℕ → Type 0) (w : core.What) → IsAccess w → EachCallIn P w
access_calls P w (a_reading l unit f d) = ((tt, tt), (tt, tt))
access_calls P w (a_writing l unit f e) = ((tt, tt), (tt, tt))

pub calls_front : (fs : List Signature) (k : ℕ) (xs ys : List Stand) → CallsTo fs k xs → CallsTo fs k (xs ++ ys)
calls_front fs k [] ys h = absurd h
calls_front fs k (x ∷ xs) ys (inl e) = inl e
calls_front fs k (x ∷ xs) ys (inr h) = inr (calls_front fs k xs ys h)

pub calls_back : (fs : List Signature) (k : ℕ) (xs ys : List Stand) → CallsTo fs k ys → CallsTo fs k (xs ++ ys)
calls_back fs k [] ys h = h
calls_back fs k (x ∷ xs) ys h = inr (calls_back fs k xs ys h)

-- a declared function is called where a name of it stands
abbrev CalledFits : List Signature → (callee : Option (List ℕ)) → Called → Type 0
CalledFits fs o (a_call n es c) = callee_number fs o ≡ Some n
CalledFits fs o (an_input t) = Unit {0}
CalledFits fs o (an_action w) = Unit {0}

call_named : (fs : List Signature) (G : Env) (d l : ℕ) (f : source.Expr) (es : source.Exprs) (c : Called)
    → ScopesFit fs G.scopes → MeansCall G l f es c → CalledFits fs (call_in d (source.call l f es)).callee c
unfolding called
call_named fs G d l f es c h (is_call (place p t) vs x m v e) = absurd cc
call_named fs G d l f es c h (is_call (value u) vs x m v e) = absurd cc
call_named fs G d l f es c h (is_call (function g) vs x m v e) =
    let r = after (all_passed (parameters G g) vs) _ c e in
    let same : done_by G g vs r.0 ≡ c = (let q = r.2 in cc) in
    subst (CalledFits fs (named_call d f).callee) same (by g r.0 (only_named G f g (function g) m refl))
  where
    by : (g : Callee) (xs : List core.Expr) → IsNamed G f g → CalledFits fs (named_call d f).callee (done_by G g vs xs)
    by (declared n) xs i =
        let k = look_up_fits fs i.name G.scopes (env.function n) h (declared_name G i.name n i.named) in
        subst (λ (e : source.Expr). callee_number fs (named_call d e).callee ≡ Some n) (sym i.is)
        (ap (λ (b : Bool). callee_number fs (cond b None (Some i.name))) k.1 ∙ k.0)
    by (input t) xs i = tt
    by (output t) xs i = tt
    by copy_bytes xs i = tt
    by fill_bytes xs i = tt
    by read_bytes xs i = tt
    by write_bytes xs i = tt

into_named : (fs : List Signature) (o : Option (List ℕ)) (c : Called) (d : Option core.Dest) → CalledFits fs o c
    → EachCallIn (λ k. callee_number fs o ≡ Some k) (called_into c d)
into_named fs o (a_call n es c) d h = h
into_named fs o (an_input t) d h = tt
into_named fs o (an_action w) d h = tt

-- what stands right of an assignment, and what is assigned
abbrev pub RightNamed : List Signature → (callee : Option (List ℕ)) → Right → Type 0
RightNamed fs o (a_result c) = CalledFits fs o c
RightNamed fs o (an_object y) = Unit {0}

pub right_named : (fs : List Signature) (G : Env) (d : ℕ) (c : Bool) (e : source.Expr) (y : Right)
    → ScopesFit fs G.scopes
    → MeansRight G c e y → RightNamed fs (call_in d e).callee y
right_named fs G d c e y h (is_result {l = l} {f = f} {es = es} k m) = call_named fs G d l f es k h m
right_named fs G d c e y h (is_operand z n m) = tt

pub assigned_named : (fs : List Signature) (t : Table) (m : ℕ) (o : Option (List ℕ)) (x old : Operand) (y : Right)
    (w : core.What)
    → RightNamed fs o y → assigned_from t m x old y ≡ Ok w → EachCallIn (λ k. callee_number fs o ≡ Some k) w
assigned_named fs t m o x old (a_result c) w h e =
    let d = after (taken x _) _ w e in
    let same : called_into c (Some d.0) ≡ w = (let q = d.2 in cc) in
    subst (EachCallIn (λ k. callee_number fs o ≡ Some k)) same (into_named fs o c (Some d.0) h)
assigned_named fs t m o x old (an_object y) w h e =
    let d = after (if m == mark.equal then assigned t x y else updated t (operator_of m) x old y)
    (λ (v : core.Simple). Ok (core.simple v)) w e in
    let same : core.simple d.0 ≡ w = (let q = d.2 in cc) in
    subst (EachCallIn (λ k. callee_number fs o ≡ Some k)) same tt

step_named : (fs : List Signature) (G : Env) (l m : ℕ) (a : source.Expr) (o : Option (List ℕ)) (w : core.What)
    → MeansStep G l m a w
    → EachCallIn (λ k. callee_number fs o ≡ Some k) w
step_named fs G l m a o w (is_step x old v p q r) = assigned_named fs G.types m o x old (an_object (value one)) w tt r

-- an expression as a whole statement calls what the text says
pub whole_named : (fs : List Signature) (G : Env) (d : ℕ) (c : Bool) (e : source.Expr) (w : core.What)
    → ScopesFit fs G.scopes
    → MeansWhole G c e w → EachCallIn (λ k. callee_number fs (evaluation d e).callee ≡ Some k) w
whole_named fs G d c e w h (is_whole_assignment {m = m} {b = b} v (is_assignment x old y u p q r s)) =
    assigned_named fs G.types m (call_in d b).callee x old y w (right_named fs G d _ b y h r) s
whole_named fs G d c e w h (is_whole_step {l = l} {m = m} {a = a} v p) = step_named fs G l _ a
    (evaluation d e).callee w p
whole_named fs G d c e w h (is_increment {l = l} {a = a} v p) = step_named fs G l _ a (evaluation d e).callee w p
whole_named fs G d c e w h (is_decrement {l = l} {a = a} v p) = step_named fs G l _ a (evaluation d e).callee w p
whole_named fs G d c e w h (is_whole_call {l = l} {f = f} {es = es} k m) =
    into_named fs (named_call d f).callee k None (call_named fs G d l f es k h m)
whole_named fs G d c e w h (is_value v p q) = tt

-- ---- calls that can't stand

no_object : (t : Table) (m : ℕ) (x old y : Operand) (w : core.What) → assigned_from t m x old (an_object y) ≡ Ok w
    → EachCallIn (λ k. ⊥) w
no_object t m x old y w e =
    let d = after (if m == mark.equal then assigned t x y else updated t (operator_of m) x old y)
    (λ (v : core.Simple). Ok (core.simple v)) w e in
    let same : core.simple d.0 ≡ w = (let q = d.2 in cc) in subst (EachCallIn (λ k. ⊥)) same tt

no_step : (G : Env) (l m : ℕ) (a : source.Expr) (w : core.What) → MeansStep G l m a w → EachCallIn (λ k. ⊥) w
no_step G l m a w (is_step x old v p q r) = no_object G.types m x old (value one) w r

pub no_right : (G : Env) (t : Table) (m : ℕ) (e : source.Expr) (x old : Operand) (y : Right) (w : core.What)
    → MeansRight G false e y → assigned_from t m x old y ≡ Ok w → EachCallIn (λ k. ⊥) w
no_right G t m e x old y w (is_operand z n k) q = no_object t m x old z w q

pub no_whole : (G : Env) (e : source.Expr) (w : core.What) → MeansWhole G false e w → EachCallIn (λ k. ⊥) w
no_whole G e w (is_whole_assignment {m = m} {b = b} v (is_assignment x old y u p q r s)) =
    no_right G G.types m b x old y w r s
no_whole G e w (is_whole_step {l = l} {m = m} {a = a} v p) = no_step G l _ a w p
no_whole G e w (is_increment {l = l} {a = a} v p) = no_step G l _ a w p
no_whole G e w (is_decrement {l = l} {a = a} v p) = no_step G l _ a w p
no_whole G e w (is_value v p q) = tt

-- ---- no scope comes by an expression

into_flat : (c : Called) (d : Option core.Dest) → scoped_in (called_into c d) ≡ []
into_flat (a_call n es c) d = refl
into_flat (an_input t) d = refl
into_flat (an_action w) d = refl

pub assigned_flat : (t : Table) (m : ℕ) (x old : Operand) (y : Right) (w : core.What) → assigned_from t m x old y ≡ Ok w
    → scoped_in w ≡ []
assigned_flat t m x old (a_result c) w e =
    let d = after (taken x _) _ w e in
    let same : called_into c (Some d.0) ≡ w = (let q = d.2 in cc) in
    subst (λ (v : core.What). scoped_in v ≡ []) same (into_flat c (Some d.0))
assigned_flat t m x old (an_object y) w e =
    let d = after (if m == mark.equal then assigned t x y else updated t (operator_of m) x old y)
    (λ (v : core.Simple). Ok (core.simple v)) w e in
    let same : core.simple d.0 ≡ w = (let q = d.2 in cc) in subst (λ (v : core.What). scoped_in v ≡ []) same refl

step_flat : (G : Env) (l m : ℕ) (a : source.Expr) (w : core.What) → MeansStep G l m a w → scoped_in w ≡ []
step_flat G l m a w (is_step x old v p q r) = assigned_flat G.types m x old (an_object (value one)) w r

pub whole_flat : (G : Env) (c : Bool) (e : source.Expr) (w : core.What) → MeansWhole G c e w → scoped_in w ≡ []
whole_flat G c e w (is_whole_assignment {m = m} v (is_assignment x old y u p q r s)) = assigned_flat G.types m x old
    y w s
whole_flat G c e w (is_whole_step {l = l} {m = m} {a = a} v p) = step_flat G l _ a w p
whole_flat G c e w (is_increment {l = l} {a = a} v p) = step_flat G l _ a w p
whole_flat G c e w (is_decrement {l = l} {a = a} v p) = step_flat G l _ a w p
whole_flat G c e w (is_whole_call {l = l} {f = f} {es = es} k m) = into_flat k None
whole_flat G c e w (is_value v p q) = refl
