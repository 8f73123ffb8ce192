-- Bit-fields: the functions of the definition against the rules, and that a bit-field means nothing else.
use Rattle.std.proofs.Common.{◌≡◌, ℕ, List, Option, Some, None, Result, Ok, Err, refl, sym, ◌∙◌}
use Rattle.ep_int.proofs.Basics.{some-injective}
use Rattle.ep_ast.specs.Kind as kinds
use Rattle.ep_ast.specs.Expression.{Expr, assign, conditional, binary, cast, step, unary, sizeof_expr, sizeof_type}
use Rattle.ep_ast.specs.Expression.{index, call, member, arrow, post_increment, post_decrement, id, number, line_of}
use Rattle.ep_core.specs.Program as core
use Rattle.ep_typing.specs.Results.{at, ◌>>=◌}
use Rattle.ep_typing.specs.declared.types.FieldRow.{FieldRow}
use Rattle.ep_typing.specs.Env.{Env}
use Rattle.ep_typing.specs.Operand.{Operand}
use Rattle.ep_typing.specs.Fields.{field_in, found_in, pointed_by, selected_behind, selected_in}
use Rattle.ep_typing.specs.Typing.{field_of, typed}
use Rattle.ep_typing.specs.Rules.{Means, MeansField, is_field, is_field_behind}
use Rattle.ep_typing.specs.Offences.{Offends, refusal}
use Rattle.ep_typing.proofs.Order.{at_ok, bind_ok, means, meant, refused}

abbrev Found : Type 0
Found = core.Place × FieldRow

found_ok : {E : Type 0} (r : Result Operand E) (f : Operand → Option Found) (z : Found) → found_in r f ≡ Some z
    → (x : Operand) × (r ≡ Ok x) × (f x ≡ Some z)
found_ok (Ok x) f z e = (x, refl, e)
found_ok (Err d) f z e = absurd cc

pub field_meant : (G : Env) (e : Expr) (z : Found) → MeansField G e z → field_of G e ≡ Some z
unfolding field_of
field_meant G e z (is_field {a = a} x p h) = rw (meant G a x p) h
field_meant G e z (is_field_behind {a = a} x y p q h) = rw (meant G a x p, q) h

pub field_means : (G : Env) (e : Expr) (z : Found) → field_of G e ≡ Some z → MeansField G e z
unfolding field_of
field_means G (assign l m a b) z e = absurd cc
field_means G (conditional l e0 a b) z e = absurd cc
field_means G (binary l m a b) z e = absurd cc
field_means G (cast l n a) z e = absurd cc
field_means G (step l m a) z e = absurd cc
field_means G (unary l m a) z e = absurd cc
field_means G (sizeof_expr l a) z e = absurd cc
field_means G (sizeof_type l n) z e = absurd cc
field_means G (index l a b) z e = absurd cc
field_means G (call l f es) z e = absurd cc
field_means G (member l a n) z e =
    let p = found_ok (typed G a) (λ x. field_in G x n) z e in is_field p.0 (means G a p.0 p.1) p.2
field_means G (arrow l a n) z e =
    let p = found_ok (typed G a >>= (λ x. at l (pointed_by G x))) (λ y. field_in G y n) z e in
    let q = bind_ok (typed G a) (λ x. at l (pointed_by G x)) p.0 p.1 in
    is_field_behind q.0 p.0 (means G a q.0 q.1) (at_ok l (pointed_by G q.0) p.0 q.2) p.2
field_means G (post_increment l a) z e = absurd cc
field_means G (post_decrement l a) z e = absurd cc
field_means G (id l t) z e = absurd cc
field_means G (number l n) z e = absurd cc

stops : (G : Env) (x : Operand) (n : List ℕ) (z : Found) → field_in G x n ≡ Some z
    → selected_in G x n ≡ Err kinds.bit_field_place
unfolding selected_in
stops G x n z h = rw h refl

stops_behind : (G : Env) (x y : Operand) (n : List ℕ) (z : Found) → pointed_by G x ≡ Ok y → field_in G y n ≡ Some z
    → selected_behind G x n ≡ Err kinds.bit_field_place
unfolding selected_behind
stops_behind G x y n z p h = rw (p, stops G y n z h) refl

-- a bit-field is refused where an expression stands
pub field_typed : (G : Env) (e : Expr) (z : Found) → MeansField G e z
    → typed G e ≡ Err (refusal kinds.bit_field_place (line_of e))
unfolding typed
field_typed G e z (is_field {a = a} {n = n} x p h) = rw (meant G a x p, stops G x n z h) refl
field_typed G e z (is_field_behind {a = a} {n = n} x y p q h) = rw (meant G a x p, stops_behind G x y n z q h) refl

pub field_offends : (G : Env) (e : Expr) (z : Found) → MeansField G e z
    → Offends G e (refusal kinds.bit_field_place (line_of e))
field_offends G e z f = refused G e (refusal kinds.bit_field_place (line_of e)) (field_typed G e z f)

pub field_alone : (G : Env) (e : Expr) (z : Found) (x : Operand) → MeansField G e z → Means G e x → ⊥
field_alone G e z x f p = let k = sym (meant G e x p) ∙ field_typed G e z f in cc

pub field_once : (G : Env) (e : Expr) (y z : Found) → MeansField G e y → MeansField G e z → y ≡ z
field_once G e y z f g = some-injective (sym (field_meant G e y f) ∙ field_meant G e z g)

pub data OptionView {A : Type 0} (o : Option A) : Type 0 where
  nothing : o ≡ None → OptionView o
  something : (x : A) → o ≡ Some x → OptionView o

pub option_view : {A : Type 0} (o : Option A) → OptionView o
option_view None = nothing refl
option_view (Some x) = something x refl

pub no_field : (G : Env) (e : Expr) → ((z : Found) → MeansField G e z → ⊥) → field_of G e ≡ None
no_field G e f = elim (option_view (field_of G e)) [
  | nothing h ↦ h
  | something z h ↦ absurd (f z (field_means G e z h))
]
