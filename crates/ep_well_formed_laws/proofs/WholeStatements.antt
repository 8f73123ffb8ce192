-- What whole statements mean is as the types say.
use Rattle.std.proofs.Common.{◌≡◌, ℕ, ◌<◌, ◌==◌, Bool, true, false, true≢false, ◌&&◌, not, if◌then◌else◌, List, []}
use Rattle.std.proofs.lemmas.Bool.{and_from}
use Rattle.std.proofs.Common.{◌∷◌, length, map, slice_get, Option, Some, None, unwrap_or, Ok, refl, sym, ap, ◌∙◌}
use Rattle.std.proofs.Common.{subst, ◌⊎◌, inl, inr}
use Rattle.ep_int.specs.declared.types.IntType.{IntType}
use Rattle.ep_int.specs.declared.types.IntType.TheVariants.{I32, U8}
use Rattle.ep_ast.specs.Expression as source
use Rattle.ep_ast.specs.Mark as mark
use Rattle.ep_layout.specs.Table.{Table}
use Rattle.ep_core.specs.Program as core
use Rattle.ep_core.specs.Program.{Expr}
use Rattle.ep_core.specs.WellFormed.{is_plain}
use Rattle.ep_core.proofs.Sorts.{never}
use Rattle.ep_typing.specs.declared.types.CType.{CType}
use Rattle.ep_typing.specs.Types.{int_type, void_type}
use Rattle.ep_typing.specs.Env.{Env, Signature}
use Rattle.ep_typing.specs.Operand.{Callee, Operand, Value, copy_bytes, declared, fill_bytes, function, input, output}
use Rattle.ep_typing.specs.Operand.{place, read_bytes, value, write_bytes}
use Rattle.ep_typing.specs.Calls.{Called, Parameter, a_call, a_length, all_passed, an_action, an_input, any_pointer}
use Rattle.ep_typing.specs.Calls.{called, called_into, done_by, of_type, parameters, passed, result_of, signature}
use Rattle.ep_typing.specs.Typing.{Right, a_result, an_object, assigned, assigned_from, one, operator_of, taken}
use Rattle.ep_typing.specs.Typing.{updated}
use Rattle.ep_typing.specs.Rules.{HaveValues, no_values, more_values}
use Rattle.ep_typing.proofs.Order.{meant}
use Rattle.ep_elaboration.specs.WholeRules.{MeansAssignment, MeansCall, MeansRight, MeansStep, MeansWhole}
use Rattle.ep_elaboration.specs.WholeRules.{is_assignment, is_call, is_decrement, is_increment, is_operand}
use Rattle.ep_elaboration.specs.WholeRules.{is_result, is_step, is_test as is_tested_value, is_value}
use Rattle.ep_elaboration.specs.WholeRules.{is_whole_assignment, is_whole_call, is_whole_step}
use Rattle.ep_well_formed_laws.specs.Environments.{Covers, IsEnv, IsPassed}
use Rattle.ep_well_formed_laws.specs.Numbers.{IsTable}
use Rattle.ep_well_formed_laws.specs.Operands.{IsCallee, OperandFits, ValueFits, ValuesFit}
use Rattle.ep_well_formed_laws.specs.Statements.{ArgumentsFit, TakesResult, WhatFits}
use Rattle.ep_well_formed_laws.proofs.Mentions.{AllThere, AreThere}
use Rattle.ep_well_formed_laws.proofs.Parts.{value_fits}
use Rattle.ep_well_formed_laws.proofs.Stores.{IsDone, any_pointer_is, arguments_fit, assigned_fits, counted}
use Rattle.ep_well_formed_laws.proofs.Stores.{input_taken, lowest_is, no_surplus, no_void_taken, taken_fits}
use Rattle.ep_well_formed_laws.proofs.Stores.{updated_fits}
use Rattle.ep_well_formed_laws.proofs.Tests.{after, either_way}
use Rattle.ep_well_formed_laws.proofs.TypedExpressions.{callee_fits, read_first_fits, typed_fits}
use Rattle.ep_well_formed_laws.proofs.Values.{fitted_fits, int_fits, tested_is}

-- ---- lists of arguments

record FirstPassed (p : Parameter) (ps : List Parameter) (vs : List Value) (es : List Expr) : Type 0 where
  value : Value
  values : List Value
  expr : Expr
  exprs : List Expr
  all : vs ≡ value ∷ values
  each : es ≡ expr ∷ exprs
  is : passed p value ≡ Ok expr
  others : all_passed ps values ≡ Ok exprs

first_passed : (t : Table) (bs : List core.Block) (seen : List ℕ) (table : IsTable t) (some : 0 < length t.types)
    → (fs : List Signature) (result : Option ℕ) (p : Parameter) (ps : List Parameter) (vs : List Value) (es : List Expr)
    → all_passed (p ∷ ps) vs ≡ Ok es → FirstPassed p ps vs es
unfolding all_passed
first_passed t bs seen table some fs result p ps [] es e = absurd cc
first_passed t bs seen table some fs result p ps (v ∷ vs) es e =
    let x = lowest_is t bs seen table some fs result (passed p v) (all_passed ps vs) es e in
    record { value = v; values = vs; expr = x.0; exprs = x.1; all = refl; each = sym x.4; is = x.2; others = x.3 }

none_passed : (vs : List Value) (es : List Expr) → all_passed [] vs ≡ Ok es → (vs ≡ []) × (es ≡ [])
unfolding all_passed
none_passed [] es e = (refl, cc)
none_passed (v ∷ vs) es e = absurd (no_surplus v (all_passed [] vs) es e)

module _ (G : Env) (seen : List ℕ) (h : IsEnv G) (covers : Covers seen G) (some : 0 < length G.types.types)
    (result : Option ℕ) where
  abbrev O : Operand → Type 0
  O = OperandFits G.types G.blocks G.functions seen

  abbrev F : Value → Type 0
  F = ValueFits G.types G.blocks seen

  abbrev D : core.Simple → Type 0
  D = IsDone G.types G.blocks seen h.declared.table some G.functions result

  -- ---- calls

  abbrev CalledFits : Called → Type 0
  CalledFits (a_call n es c) =
      (s : Signature) × (slice_get G.functions n ≡ Some s) × (s.result ≡ c) × ArgumentsFit G.types G.blocks G.functions result s.params es seen
  CalledFits (an_input i) = Unit {0}
  CalledFits (an_action w) = D w

  first_of_passed : (p : Parameter) (ps : List Parameter) (vs : List Value) (es : List Expr)
      → all_passed (p ∷ ps) vs ≡ Ok es → FirstPassed p ps vs es
  first_of_passed = first_passed G.types G.blocks seen h.declared.table some G.functions result

  output_fits : (i : IntType) (vs : List Value) (es : List Expr) → ValuesFit G.types G.blocks seen vs
      → all_passed (of_type (int_type i) ∷ []) vs ≡ Ok es → CalledFits (done_by G (output i) vs es)
  unfolding passed
  output_fits i vs es f e =
      let a = first_of_passed (of_type (int_type i)) [] vs es e in
      let n = none_passed a.values a.exprs a.others in
      let es_is : es ≡ a.expr ∷ [] = a.each ∙ ap (λ (xs : List Expr). a.expr ∷ xs) n.1 in
      let g = fitted_fits G.types G.blocks seen some (int_type i) a.value a.expr
      (subst (ValuesFit G.types G.blocks seen) a.all f).0 (λ q. never q) a.is in
      subst (λ (xs : List Expr). CalledFits (done_by G (output i) vs xs)) (sym es_is) (g.1.number refl, refl)

  record ThreePassed (p q r : Parameter) (vs : List Value) (es : List Expr) : Type 0 where
    x : Value
    y : Value
    z : Value
    a : Expr
    b : Expr
    c : Expr
    values : vs ≡ x ∷ y ∷ z ∷ []
    exprs : es ≡ a ∷ b ∷ c ∷ []
    first : passed p x ≡ Ok a
    second : passed q y ≡ Ok b
    third : passed r z ≡ Ok c

  three_passed : (p q r : Parameter) (vs : List Value) (es : List Expr) → all_passed (p ∷ q ∷ r ∷ []) vs ≡ Ok es
      → ThreePassed p q r vs es
  three_passed p q r vs es e =
      let k = first_of_passed p (q ∷ r ∷ []) vs es e in
      let l = first_of_passed q (r ∷ []) k.values k.exprs k.others in
      let m = first_of_passed r [] l.values l.exprs l.others in
      let n = none_passed m.values m.exprs m.others in
      record {
        x = k.value;
        y = l.value;
        z = m.value;
        a = k.expr;
        b = l.expr;
        c = m.expr;
        values = k.all ∙ ap (λ (xs : List Value). k.value ∷ xs) (l.all ∙ ap (λ (xs : List Value). l.value ∷ xs)
            (m.all ∙ ap (λ (xs : List Value). m.value ∷ xs) n.0));
        exprs = k.each ∙ ap (λ (xs : List Expr). k.expr ∷ xs) (l.each ∙ ap (λ (xs : List Expr). l.expr ∷ xs)
            (m.each ∙ ap (λ (xs : List Expr). m.expr ∷ xs) n.1));
        first = k.is;
        second = l.is;
        third = m.is;
      }

  record TwoPassed (p q : Parameter) (vs : List Value) (es : List Expr) : Type 0 where
    x : Value
    y : Value
    a : Expr
    b : Expr
    values : vs ≡ x ∷ y ∷ []
    exprs : es ≡ a ∷ b ∷ []
    first : passed p x ≡ Ok a
    second : passed q y ≡ Ok b

  two_passed : (p q : Parameter) (vs : List Value) (es : List Expr) → all_passed (p ∷ q ∷ []) vs ≡ Ok es → TwoPassed p q vs es
  two_passed p q vs es e =
      let k = first_of_passed p (q ∷ []) vs es e in
      let l = first_of_passed q [] k.values k.exprs k.others in
      let n = none_passed l.values l.exprs l.others in
      record {
        x = k.value;
        y = l.value;
        a = k.expr;
        b = l.expr;
        values = k.all ∙ ap (λ (xs : List Value). k.value ∷ xs) (l.all ∙ ap (λ (xs : List Value). l.value ∷ xs) n.0);
        exprs = k.each ∙ ap (λ (xs : List Expr). k.expr ∷ xs) (l.each ∙ ap (λ (xs : List Expr). l.expr ∷ xs) n.1);
        first = k.is;
        second = l.is;
      }

  done_at : (f : Callee) (vs us : List Value) (es xs : List Expr) → vs ≡ us → es ≡ xs → CalledFits (done_by G f us xs)
      → CalledFits (done_by G f vs es)
  done_at f vs us es xs p q k =
      subst (λ (ws : List Value). CalledFits (done_by G f ws es)) (sym p)
      (subst (λ (ys : List Expr). CalledFits (done_by G f us ys)) (sym q) k)

  copied_bytes_fit : (vs : List Value) (es : List Expr) → ValuesFit G.types G.blocks seen vs
      → all_passed (any_pointer ∷ any_pointer ∷ a_length ∷ []) vs ≡ Ok es → CalledFits (done_by G copy_bytes vs es)
  unfolding passed
  copied_bytes_fit vs es f e =
      let k = three_passed any_pointer any_pointer a_length vs es e in
      let v = subst (ValuesFit G.types G.blocks seen) k.values f in
      done_at copy_bytes vs (k.x ∷ k.y ∷ k.z ∷ []) es (k.a ∷ k.b ∷ k.c ∷ []) k.values k.exprs (
        and_from _ _ (and_from _ _ (counted G.types G.blocks seen h.declared.table some G.functions result k.z k.c k.third)
            (any_pointer_is G.types G.blocks seen h.declared.table some G.functions result k.x k.a v.0 k.first))
            (any_pointer_is G.types G.blocks seen h.declared.table some G.functions result k.y k.b v.1.0 k.second),
        refl,
      )

  filled_fit : (vs : List Value) (es : List Expr) → ValuesFit G.types G.blocks seen vs
      → all_passed (any_pointer ∷ of_type (int_type U8) ∷ a_length ∷ []) vs ≡ Ok es → CalledFits (done_by G fill_bytes vs es)
  unfolding passed
  filled_fit vs es f e =
      let k = three_passed any_pointer (of_type (int_type U8)) a_length vs es e in
      let v = subst (ValuesFit G.types G.blocks seen) k.values f in
      let g = fitted_fits G.types G.blocks seen some (int_type U8) k.y k.b v.1.0 (λ q. never q) k.second in
      done_at fill_bytes vs (k.x ∷ k.y ∷ k.z ∷ []) es (k.a ∷ k.b ∷ k.c ∷ []) k.values k.exprs (
        and_from _ _ (and_from _ _ (counted G.types G.blocks seen h.declared.table some G.functions result k.z k.c k.third)
            (any_pointer_is G.types G.blocks seen h.declared.table some G.functions result k.x k.a v.0 k.first))
            (g.1.number refl),
        refl,
      )

  bytes_read_fit : (vs : List Value) (es : List Expr) → ValuesFit G.types G.blocks seen vs
      → all_passed (any_pointer ∷ a_length ∷ []) vs ≡ Ok es → CalledFits (done_by G read_bytes vs es)
  unfolding passed
  bytes_read_fit vs es f e =
      let k = two_passed any_pointer a_length vs es e in
      let v = subst (ValuesFit G.types G.blocks seen) k.values f in
      done_at read_bytes vs (k.x ∷ k.y ∷ []) es (k.a ∷ k.b ∷ []) k.values k.exprs (
        and_from _ _ (counted G.types G.blocks seen h.declared.table some G.functions result k.y k.b k.second)
            (any_pointer_is G.types G.blocks seen h.declared.table some G.functions result k.x k.a v.0 k.first),
        refl,
      )

  bytes_written_fit : (vs : List Value) (es : List Expr) → ValuesFit G.types G.blocks seen vs
      → all_passed (any_pointer ∷ a_length ∷ []) vs ≡ Ok es → CalledFits (done_by G write_bytes vs es)
  unfolding passed
  bytes_written_fit vs es f e =
      let k = two_passed any_pointer a_length vs es e in
      let v = subst (ValuesFit G.types G.blocks seen) k.values f in
      done_at write_bytes vs (k.x ∷ k.y ∷ []) es (k.a ∷ k.b ∷ []) k.values k.exprs (
        and_from _ _ (counted G.types G.blocks seen h.declared.table some G.functions result k.y k.b k.second)
            (any_pointer_is G.types G.blocks seen h.declared.table some G.functions result k.x k.a v.0 k.first),
        refl,
      )

  declared_fits : (n : ℕ) (s : Signature) (vs : List Value) (es : List Expr) → slice_get G.functions n ≡ Some s
      → ValuesFit G.types G.blocks seen vs → all_passed (map of_type (signature G n).params) vs ≡ Ok es
      → CalledFits (a_call n es (signature G n).result)
  declared_fits n s vs es q f e =
      let same : signature G n ≡ s =
      ap (λ (o : Option Signature). unwrap_or o (record { name = []; params = []; result = void_type })) q in (
        s,
        q,
        ap (λ (x : Signature). x.result) (sym same),
        arguments_fit G.types G.blocks seen h.declared.table some G.functions result s.params vs es
            (h.declared.functions n s q).params f
            (subst (λ (x : Signature). all_passed (map of_type x.params) vs ≡ Ok es) same e),
      )

  passed_fits : (f : Callee) (vs : List Value) (es : List Expr) → IsCallee G.functions f → ValuesFit G.types G.blocks seen vs
      → all_passed (parameters G f) vs ≡ Ok es → CalledFits (done_by G f vs es)
  passed_fits (declared n) vs es k f e = declared_fits n k.0 vs es k.1 f e
  passed_fits (input i) vs es k f e = tt
  passed_fits (output i) vs es k f e = output_fits i vs es f e
  passed_fits copy_bytes vs es k f e = copied_bytes_fit vs es f e
  passed_fits fill_bytes vs es k f e = filled_fit vs es f e
  passed_fits read_bytes vs es k f e = bytes_read_fit vs es f e
  passed_fits write_bytes vs es k f e = bytes_written_fit vs es f e

  called_fits : (x : Operand) (vs : List Value) (c : Called) → O x → ValuesFit G.types G.blocks seen vs → called G x vs ≡ Ok c
      → CalledFits c
  unfolding called
  called_fits (place p d) vs c k f e = absurd cc
  called_fits (value v) vs c k f e = absurd cc
  called_fits (function g) vs c k f e =
      let es = after (all_passed (parameters G g) vs) _ c e in
      let same : done_by G g vs es.0 ≡ c = (let q = es.2 in cc) in subst CalledFits same (passed_fits g vs es.0 k f es.1)

  values_fit : (es : source.Exprs) (vs : List Value) → AllThere G es → HaveValues G es vs → ValuesFit G.types G.blocks seen vs
  values_fit es vs t no_values = tt
  values_fit es vs t (more_values {e = e} {v = v} x m q k) = (
    value_fits G.types G.blocks G.functions seen h.declared.table some x v (typed_fits G seen h covers some e x t.0 (meant G e x m)) q,
    values_fit _ _ t.1 k,
  )

  call_fits : (l : ℕ) (f : source.Expr) (es : source.Exprs) (c : Called) → AreThere G f → AllThere G es
      → MeansCall G l f es c → CalledFits c
  call_fits l f es c t u (is_call x vs d m v q) =
      called_fits x vs d (callee_fits G seen h covers some f x t m) (values_fit es vs u v) q

  -- ---- what stands right of an assignment

  abbrev RightFits : Right → Type 0
  RightFits (an_object y) = O y
  RightFits (a_result c) = CalledFits c

  abbrev IsObject : Right → Type 0
  IsObject (an_object y) = Unit {0}
  IsObject (a_result c) = ⊥

  pub right_fits : (c : Bool) (e : source.Expr) (y : Right) → AreThere G e → MeansRight G c e y → RightFits y
  right_fits c e y t (is_result {l = l} {f = f} {es = es} k m) = call_fits l f es k t.0 t.1 m
  right_fits c e y t (is_operand x n m) = typed_fits G seen h covers some e x t (meant G e x m)

  right_object : (c : Bool) (e : source.Expr) (y : Right) → MeansRight G c e y → c ≡ false → IsObject y
  right_object c e y (is_result k m) q = absurd (true≢false q)
  right_object c e y (is_operand x n m) q = tt

  -- a statement of the core that fits, and is plain where it is no call
  pub record IsWhole (w : core.What) (no_call : Type 0) : Type 0 where
    pub fits : (i : Bool) → WhatFits G.types G.blocks G.functions result w seen i
    pub plain : no_call → is_plain w ≡ true

  simple_whole : (w : core.Simple) (N : Type 0) → D w → IsWhole (core.simple w) N
  simple_whole w N d = record { fits = λ i. d.0; plain = λ n. ap not d.1 }

  pub from_fits : (m : ℕ) (x old : Operand) (y : Right) (w : core.What) → O x → O old → RightFits y
      → assigned_from G.types m x old y ≡ Ok w → IsWhole w (IsObject y)
  from_fits m x old (a_result f) w g k r e =
      let d = after (taken x (result_of f)) _ w e in
      let same : called_into f (Some d.0) ≡ w = (let q = d.2 in cc) in
      subst (λ (v : core.What). IsWhole v ⊥) same (of_result f d.0 g r d.1)
    where
      of_result : (f : Called) (d : core.Dest) → O x → CalledFits f → taken x (result_of f) ≡ Ok d
          → IsWhole (called_into f (Some d)) ⊥
      of_result (a_call n es c) d g r q = record {
        fits = λ i. record {
          callee = r.0;
          is = r.1;
          arguments = r.3;
          takes = subst (λ (b : CType). TakesResult G.types G.blocks G.functions result b (Some d) seen) (sym r.2)
              (taken_fits G.types G.blocks seen h.declared.table some G.functions result x c d g
              (subst (λ (b : CType). (b ≡ void_type) ⊎ IsPassed G.types b) r.2 (h.declared.functions n r.0 r.1).result) q);
        };
        plain = λ n. absurd n;
      }
      of_result (an_input j) d g r q = record {
        fits = λ i. input_taken G.types G.blocks seen h.declared.table some G.functions result x j d g q;
        plain = λ n. absurd n;
      }
      of_result (an_action v) d g r q = absurd (no_void_taken G.types G.blocks seen h.declared.table some G.functions result x d q)
  from_fits m x old (an_object y) w g k r e =
      let v = after (if m == mark.equal then assigned G.types x y else updated G.types (operator_of m) x old y) _ w e in
      let same : core.simple v.0 ≡ w = (let q = v.2 in cc) in
      subst (λ (u : core.What). IsWhole u (Unit {0})) same (simple_whole v.0 (Unit {0})
      (elim (either_way (m == mark.equal) _ _ (Ok v.0) v.1) [
        | inl p ↦ assigned_fits G.types G.blocks seen h.declared.table some G.functions result x y v.0 g r p.1
        | inr p ↦ updated_fits G.types G.blocks seen h.declared.table some G.functions result (operator_of m) x old y v.0 g k r p.1
      ]))

  -- ---- whole statements

  one_fits : O (value one)
  one_fits = int_fits G.types G.blocks seen some _ I32 refl

  stepped_fits : (l m : ℕ) (a : source.Expr) (w : core.What) → AreThere G a → MeansStep G l m a w → IsWhole w (Unit {0})
  stepped_fits l m a w t (is_step x old v n q e) =
      let k = typed_fits G seen h covers some a x t (meant G a x n) in
      from_fits m x old (an_object (value one)) v k (read_first_fits G seen h covers some m x old k q) one_fits e

  assignment_fits : (c : Bool) (l m : ℕ) (a b : source.Expr) (w : core.What) → AreThere G a → AreThere G b
      → MeansAssignment G c l m a b w → IsWhole w (c ≡ false)
  assignment_fits c l m a b w t u (is_assignment x old y v n q r e) =
      let k = typed_fits G seen h covers some a x t (meant G a x n) in
      let z = from_fits m x old y v k (read_first_fits G seen h covers some m x old k q) (right_fits (c && m == mark.equal) b y u r) e in
      record {
        fits = z.fits;
        plain = λ p. z.plain (right_object (c && m == mark.equal) b y r (ap (λ (d : Bool). d && m == mark.equal) p));
      }

  always : (w : core.What) {c : Bool} → IsWhole w (Unit {0}) → IsWhole w (c ≡ false)
  always w k = record { fits = k.fits; plain = λ p. k.plain tt }

  whole_call : (k : Called) → CalledFits k → IsWhole (called_into k None) (true ≡ false)
  whole_call (a_call n es c) r = record {
    fits = λ i. record { callee = r.0; is = r.1; arguments = r.3; takes = tt };
    plain = λ p. absurd (true≢false p);
  }
  whole_call (an_input j) r = record { fits = λ i. refl; plain = λ p. absurd (true≢false p) }
  whole_call (an_action w) r = record { fits = λ i. r.0; plain = λ p. absurd (true≢false p) }

  pub whole_fits : (c : Bool) (e : source.Expr) (w : core.What) → AreThere G e → MeansWhole G c e w → IsWhole w (c ≡ false)
  whole_fits c e w t (is_whole_assignment {l = l} {m = m} {a = a} {b = b} v k) = assignment_fits c l m a b v t.0 t.1 k
  whole_fits c e w t (is_whole_step {l = l} {a = a} v k) = always v (stepped_fits l _ a v t k)
  whole_fits c e w t (is_increment {l = l} {a = a} v k) = always v (stepped_fits l _ a v t k)
  whole_fits c e w t (is_decrement {l = l} {a = a} v k) = always v (stepped_fits l _ a v t k)
  whole_fits c e w t (is_whole_call {l = l} {f = f} {es = es} k m) = whole_call k (call_fits l f es k t.0 t.1 m)
  whole_fits c e w t (is_value v n (is_tested_value x u y m q r)) = record {
    fits = λ i. tested_is G.types G.blocks seen some u v
        (value_fits G.types G.blocks G.functions seen h.declared.table some x u (typed_fits G seen h covers some e x t (meant G e x m)) q) r;
    plain = λ p. refl;
  }
