-- The functions of the definition against the rules: statements that read or write a bit-field.
use Rattle.std.proofs.Common.{◌≡◌, ℕ, Bool, true, false, Option, Some, None, Result, Ok, Err, refl, sym, ◌∙◌, subst}
use Rattle.std.proofs.Common.{inl, inr}
use Rattle.std.specs.Prelude.{◌==◌, if◌then◌else◌}
use Rattle.std.proofs.lemmas.Bool.{eqb-true}
use Rattle.ep_int.proofs.Basics.{some-injective}
use Rattle.ep_core.specs.Program as core
use Rattle.ep_ast.specs.Expression.{Expr, arrow, assign, binary, call, cast, conditional, id, index, member, number}
use Rattle.ep_ast.specs.Expression.{post_decrement, post_increment, sizeof_expr, sizeof_type, step, unary}
use Rattle.ep_ast.specs.Mark.{equal}
use Rattle.ep_ast.specs.declared.refusals.Refusal.{Refusal}
use Rattle.ep_elaboration.specs.FieldStatements.{field_read, field_statement, field_written, sides}
use Rattle.ep_elaboration.specs.FieldRules.{FieldStatementOffends, MeansFieldStatement, NamesField, bad_read}
use Rattle.ep_elaboration.specs.FieldRules.{bad_written, in_target, in_written, left_field, reads_field, right_field}
use Rattle.ep_elaboration.specs.FieldRules.{writes_field}
use Rattle.ep_elaboration.specs.WholeRules.{MeansRight, MeansWhole, is_assignment, is_decrement, is_increment}
use Rattle.ep_elaboration.specs.WholeRules.{is_only_value, is_operand, is_result, is_value, is_whole_assignment}
use Rattle.ep_elaboration.specs.WholeRules.{is_whole_call, is_whole_step}
use Rattle.ep_typing.specs.declared.types.FieldRow.{FieldRow}
use Rattle.ep_typing.specs.Env.{Env}
use Rattle.ep_typing.specs.Results.{at, ◌>>=◌}
use Rattle.ep_typing.specs.Rules.{MeansField}
use Rattle.ep_typing.specs.Typing.{Right, field_of, typed}
use Rattle.ep_typing.proofs.Order.{at_err, at_ok, bind_err, bind_ok, first, means, meant, refused}
use Rattle.ep_typing.proofs.FieldOrder.{field_alone, field_means, field_meant, no_field}

abbrev Found : Type 0
Found = core.Place × FieldRow

-- ---- what isn't a bit-field

pub right_alone : {G : Env} {c : Bool} {e : Expr} {y : Right} {z : Found} → MeansRight G c e y → MeansField G e z → ⊥
right_alone (is_result f0 p) f = elim f [ ]
right_alone {G = G} {e = e} {z = z} (is_operand y h p) f = field_alone G e z y f p

value_alone : {G : Env} (c : Bool) {e : Expr} → is_only_value c e ≡ true → NamesField G e → ⊥
value_alone true h (left_field z m f) = absurd cc
value_alone true h (right_field z m f) = absurd cc
value_alone false h (left_field z m f) = absurd cc
value_alone false h (right_field z m f) = absurd cc

-- what is a whole statement by the other rules
pub whole_alone : {G : Env} {c : Bool} {e : Expr} {w : core.What} → MeansWhole G c e w → NamesField G e → ⊥
whole_alone {G = G} (is_whole_assignment w (is_assignment {a = a} x old y w1 p q s t)) (left_field z m f) =
    field_alone G a z x f p
whole_alone (is_whole_assignment w (is_assignment x old y w1 p q s t)) (right_field z m f) = right_alone s f
whole_alone (is_whole_step w p) n = elim n [ ]
whole_alone (is_increment w p) n = elim n [ ]
whole_alone (is_decrement w p) n = elim n [ ]
whole_alone (is_whole_call f0 p) n = elim n [ ]
whole_alone {c = c} (is_value w h p) n = value_alone c h n

-- ---- which way a statement goes

pub data StatementView (G : Env) (k : ℕ) (e : Expr) : Type 0 where
  by_field : (r : Result core.What Refusal) → field_statement G k e ≡ Some r → NamesField G e → StatementView G k e
  otherwise : field_statement G k e ≡ None → (NamesField G e → ⊥) → StatementView G k e

sides_view : (G : Env) (k l m : ℕ) (a b : Expr) (u v : Option Found) → m ≡ equal → field_of G a ≡ u → field_of G b ≡ v
    → StatementView G k (assign l m a b)
unfolding field_statement
sides_view G k l m a b (Some z) v e p q =
    by_field (typed G b >>= (λ y. at l (field_written G.types k z y))) (rw (e, p) refl)
    (left_field z e (field_means G a z p))
sides_view G k l m a b None (Some z) e p q =
    by_field (typed G a >>= (λ x. at l (field_read k z x))) (rw (e, p, q) refl)
    (right_field z e (field_means G b z q))
sides_view G k l m a b None None e p q = otherwise (rw (e, p, q) refl) (λ n. unnamed n p q) where
  unnamed : {G : Env} {l m : ℕ} {a b : Expr} → NamesField G (assign l m a b) → field_of G a ≡ None
      → field_of G b ≡ None → ⊥
  unnamed {G = G} {a = a} (left_field z m f) p q = let h = sym (field_meant G a z f) ∙ p in cc
  unnamed {G = G} {b = b} (right_field z m f) p q = let h = sym (field_meant G b z f) ∙ q in cc

no_equal : {G : Env} {l m : ℕ} {a b : Expr} → (m == equal) ≡ false → NamesField G (assign l m a b) → ⊥
no_equal t (left_field z e f) = let h : (equal == equal) ≡ false = rw e at t in cc
no_equal t (right_field z e f) = let h : (equal == equal) ≡ false = rw e at t in cc

assign_view : (G : Env) (k l m : ℕ) (a b : Expr) (t : Bool) → (m == equal) ≡ t → StatementView G k (assign l m a b)
unfolding field_statement
assign_view G k l m a b true h = sides_view G k l m a b (field_of G a) (field_of G b) (eqb-true m equal h) refl refl
assign_view G k l m a b false h = otherwise (rw h refl) (λ n. no_equal h n)

pub statement_view : (G : Env) (k : ℕ) (e : Expr) → StatementView G k e
unfolding field_statement
statement_view G k (assign l m a b) = assign_view G k l m a b (m == equal) refl
statement_view G k (conditional l e a b) = otherwise refl (λ n. elim n [ ])
statement_view G k (binary l m a b) = otherwise refl (λ n. elim n [ ])
statement_view G k (cast l n a) = otherwise refl (λ n. elim n [ ])
statement_view G k (step l m a) = otherwise refl (λ n. elim n [ ])
statement_view G k (unary l m a) = otherwise refl (λ n. elim n [ ])
statement_view G k (sizeof_expr l a) = otherwise refl (λ n. elim n [ ])
statement_view G k (sizeof_type l n) = otherwise refl (λ n. elim n [ ])
statement_view G k (index l a b) = otherwise refl (λ n. elim n [ ])
statement_view G k (call l f es) = otherwise refl (λ n. elim n [ ])
statement_view G k (member l a n) = otherwise refl (λ n. elim n [ ])
statement_view G k (arrow l a n) = otherwise refl (λ n. elim n [ ])
statement_view G k (post_increment l a) = otherwise refl (λ n. elim n [ ])
statement_view G k (post_decrement l a) = otherwise refl (λ n. elim n [ ])
statement_view G k (id l t) = otherwise refl (λ n. elim n [ ])
statement_view G k (number l n) = otherwise refl (λ n. elim n [ ])

pub not_by_field : (G : Env) (k : ℕ) (e : Expr) → (NamesField G e → ⊥) → field_statement G k e ≡ None
not_by_field G k e f = elim (statement_view G k e) [ by_field r h n ↦ absurd (f n) | otherwise h n ↦ h ]

-- ---- the four laws

pub meant_field_statement : {G : Env} {k : ℕ} {e : Expr} {w : core.What} → MeansFieldStatement G k e w
    → field_statement G k e ≡ Some (Ok w)
unfolding field_statement
meant_field_statement (reads_field {G = G} {a = a} {b = b} x z w e p f h) =
    rw (e, no_field G a (λ y g. field_alone G a y x g p), field_meant G b z f, meant G a x p, h) refl
meant_field_statement (writes_field {G = G} {a = a} {b = b} z y w e f p h) =
    rw (e, field_meant G a z f, meant G b y p, h) refl

pub offended_field_statement : {G : Env} {k : ℕ} {e : Expr} {r : Refusal} → FieldStatementOffends G k e r
    → field_statement G k e ≡ Some (Err r)
unfolding field_statement
offended_field_statement (in_written {G = G} {a = a} {b = b} {r = r} z e f broken) =
    rw (e, field_meant G a z f, first G b r broken) refl
offended_field_statement (bad_written {G = G} {a = a} {b = b} z y e f p broken) =
    rw (e, field_meant G a z f, meant G b y p, broken) refl
offended_field_statement (in_target {G = G} {a = a} {b = b} {r = r} z e n f broken) =
    rw (e, no_field G a n, field_meant G b z f, first G a r broken) refl
offended_field_statement (bad_read {G = G} {a = a} {b = b} x z e p f broken) =
    rw (e, no_field G a (λ y g. field_alone G a y x g p), field_meant G b z f, meant G a x p, broken) refl

sides_mean : (G : Env) (k l m : ℕ) (a b : Expr) (u v : Option Found) (w : core.What) → m ≡ equal → field_of G a ≡ u
    → field_of G b ≡ v → sides G k l a b u v ≡ Some (Ok w) → MeansFieldStatement G k (assign l m a b) w
sides_mean G k l m a b (Some z) v w e p q h =
    let y = bind_ok (typed G b) (λ y. at l (field_written G.types k z y)) w (some-injective h) in
    writes_field z y.0 w e (field_means G a z p) (means G b y.0 y.1) (at_ok l (field_written G.types k z y.0) w y.2)
sides_mean G k l m a b None (Some z) w e p q h =
    let x = bind_ok (typed G a) (λ x. at l (field_read k z x)) w (some-injective h) in
    reads_field x.0 z w e (means G a x.0 x.1) (field_means G b z q) (at_ok l (field_read k z x.0) w x.2)
sides_mean G k l m a b None None w e p q h = absurd cc

sides_offend : (G : Env) (k l m : ℕ) (a b : Expr) (u v : Option Found) (r : Refusal) → m ≡ equal → field_of G a ≡ u
    → field_of G b ≡ v → sides G k l a b u v ≡ Some (Err r) → FieldStatementOffends G k (assign l m a b) r
sides_offend G k l m a b (Some z) v r e p q h =
    elim (bind_err (typed G b) (λ y. at l (field_written G.types k z y)) r (some-injective h)) [
      | inl h0 ↦ in_written z e (field_means G a z p) (refused G b r h0)
      | inr y ↦ let kind = at_err l (field_written G.types k z y.0) r y.2 in subst
          (FieldStatementOffends G k (assign l m a b)) kind.2 (bad_written z y.0 e (field_means G a z p)
          (means G b y.0 y.1) kind.1)
    ]
sides_offend G k l m a b None (Some z) r e p q h =
    elim (bind_err (typed G a) (λ x. at l (field_read k z x)) r (some-injective h)) [
      | inl h0 ↦ in_target z e (λ y f. let h1 = sym (field_meant G a y f) ∙ p in cc) (field_means G b z q)
          (refused G a r h0)
      | inr x ↦ let kind = at_err l (field_read k z x.0) r x.2 in subst (FieldStatementOffends G k (assign l m a b))
          kind.2 (bad_read x.0 z e (means G a x.0 x.1) (field_means G b z q) kind.1)
    ]
sides_offend G k l m a b None None r e p q h = absurd cc

-- a test that is there is a whole `=`
is_equal : {A : Type 0} (m : ℕ) (t : Bool) (o : Option A) (x : A) → (m == equal) ≡ t
    → (if t then o else None) ≡ Some x → (m ≡ equal) × (o ≡ Some x)
is_equal m true o x e h = (eqb-true m equal e, h)
is_equal m false o x e h = absurd cc

pub means_field_statement : (G : Env) (k : ℕ) (e : Expr) (w : core.What) → field_statement G k e ≡ Some (Ok w)
    → MeansFieldStatement G k e w
unfolding field_statement
means_field_statement G k (assign l m a b) w h =
    let o = sides G k l a b (field_of G a) (field_of G b) in
    let q = is_equal m (m == equal) o (Ok w) refl h in
    sides_mean G k l m a b (field_of G a) (field_of G b) w q.0 refl refl q.1
means_field_statement G k (conditional l e a b) w h = absurd cc
means_field_statement G k (binary l m a b) w h = absurd cc
means_field_statement G k (cast l n a) w h = absurd cc
means_field_statement G k (step l m a) w h = absurd cc
means_field_statement G k (unary l m a) w h = absurd cc
means_field_statement G k (sizeof_expr l a) w h = absurd cc
means_field_statement G k (sizeof_type l n) w h = absurd cc
means_field_statement G k (index l a b) w h = absurd cc
means_field_statement G k (call l f es) w h = absurd cc
means_field_statement G k (member l a n) w h = absurd cc
means_field_statement G k (arrow l a n) w h = absurd cc
means_field_statement G k (post_increment l a) w h = absurd cc
means_field_statement G k (post_decrement l a) w h = absurd cc
means_field_statement G k (id l t) w h = absurd cc
means_field_statement G k (number l n) w h = absurd cc

pub refused_field_statement : (G : Env) (k : ℕ) (e : Expr) (r : Refusal) → field_statement G k e ≡ Some (Err r)
    → FieldStatementOffends G k e r
unfolding field_statement
refused_field_statement G k (assign l m a b) r h =
    let o = sides G k l a b (field_of G a) (field_of G b) in
    let q = is_equal m (m == equal) o (Err r) refl h in
    sides_offend G k l m a b (field_of G a) (field_of G b) r q.0 refl refl q.1
refused_field_statement G k (conditional l e a b) r h = absurd cc
refused_field_statement G k (binary l m a b) r h = absurd cc
refused_field_statement G k (cast l n a) r h = absurd cc
refused_field_statement G k (step l m a) r h = absurd cc
refused_field_statement G k (unary l m a) r h = absurd cc
refused_field_statement G k (sizeof_expr l a) r h = absurd cc
refused_field_statement G k (sizeof_type l n) r h = absurd cc
refused_field_statement G k (index l a b) r h = absurd cc
refused_field_statement G k (call l f es) r h = absurd cc
refused_field_statement G k (member l a n) r h = absurd cc
refused_field_statement G k (arrow l a n) r h = absurd cc
refused_field_statement G k (post_increment l a) r h = absurd cc
refused_field_statement G k (post_decrement l a) r h = absurd cc
refused_field_statement G k (id l t) r h = absurd cc
refused_field_statement G k (number l n) r h = absurd cc
