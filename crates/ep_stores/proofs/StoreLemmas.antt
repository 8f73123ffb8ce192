-- Stores of operands.
use Rattle.std.proofs.Common.{◌≡◌, ℕ, Bool, true, false, true≢false, cond, ◌||◌, Result, Ok, Err, refl, sym, ap, ◌∙◌}
use Rattle.ep_typing.proofs.Order.{at_ok}
use Rattle.std.proofs.lemmas.Bool.{and_parts}
use Rattle.std.proofs.Common.{subst}
use Rattle.ep_ast.specs.declared.refusals.Refusal.{Refusal}
use Rattle.ep_ast.specs.declared.refusals.Halt.{Halt}
use Rattle.ep_ast.specs.declared.refusals.Halt.TheVariants as halts
use Rattle.ep_core.specs.declared.tree.What.{What}
use Rattle.ep_core.specs.Program as core
use Rattle.ep_core.specs.View.{what_view}
use Rattle.ep_layout.specs.Table.{Table}
use Rattle.ep_typing.specs.declared.types.Base.{Base}
use Rattle.ep_typing.specs.declared.types.Base.TheVariants as bases
use Rattle.ep_typing.specs.declared.types.CType.{CType}
use Rattle.ep_typing.specs.Operand.{Operand, place, value, function, Value, Callee, loaded, value_of}
use Rattle.ep_typing.specs.Operators.{operated}
use Rattle.ep_typing.specs.Results.{◌>>=◌, at}
use Rattle.ep_typing.specs.SameTypes.{same_types}
use Rattle.ep_typing.specs.Types.{is_aggregate, is_aggregate_base, is_array, is_pointer, is_same, is_void, is_void_base}
use Rattle.ep_typing.specs.Typing.{assignable, assigned, copied, moves_aggregate, not_stored, put, stored}
use Rattle.ep_operands.specs.Refinement.{Refines, Stops}
use Rattle.ep_stores.specs.Stores.{put_to, simply, updated_with}

pub same_gives : {X Y : Type 0} (v : X → Y) (r s : Result Y Refusal) (o : Result X Halt) → r ≡ s → Refines v s o → Refines v r o
same_gives v r s (Ok x) e g = e ∙ g
same_gives v r s (Err halts.Memory) e g = tt
same_gives v r s (Err (halts.Refused k)) e g = e ∙ g

pub same_stops : {Y : Type 0} (r s : Result Y Refusal) (e : Halt) → r ≡ s → Stops s e → Stops r e
same_stops r s halts.Memory p g = tt
same_stops r s (halts.Refused k) p g = p ∙ g

not_void_by : (p : Bool) (b : Base) → cond p false (is_aggregate_base b) ≡ true → cond p false (is_void_base b) ≡ false
not_void_by true b h = absurd (true≢false (sym h))
not_void_by false bases.Void h = absurd (true≢false (sym h))
not_void_by false (bases.Int t) h = refl
not_void_by false (bases.Array n) h = refl
not_void_by false (bases.Aggregate a) h = refl

moved_not_void : (c d : CType) → moves_aggregate c d ≡ true → is_void d ≡ false
moved_not_void c d h =
    let p = and_parts (is_aggregate c) (is_same c d) h in
    not_void_by (is_pointer d) d.base (subst (λ (x : CType). is_aggregate x ≡ true) (same_types c d p.1) p.0)

moved_is : (t : Table) (p q : core.Place) (c d : CType) → moves_aggregate c d ≡ true → put_to t p c (place q d) ≡ copied t c p q
unfolding value_of put
moved_is t p q c d h =
    ap (λ (b : Bool). cond b (Err 33) (Ok (loaded t q d)) >>= (λ v. cond (moves_aggregate c d) (copied t c p q) (stored (place p c) v))) (moved_not_void c d h)
    ∙ ap (λ (b : Bool). cond b (copied t c p q) (stored (place p c) (loaded t q d))) h

pub moved_gives : (t : Table) (p q : core.Place) (c d : CType) (l : ℕ) (r : Result What Halt) → moves_aggregate c d ≡ true
    → Refines what_view (at l (simply (copied t c p q))) r → Refines what_view (at l (simply (put_to t p c (place q d)))) r
moved_gives t p q c d l r h g = same_gives what_view _ _ r (ap (λ (x : Result core.Simple ℕ). at l (simply x)) (moved_is t p q c d h)) g

stored_is : (t : Table) (p q : core.Place) (c d : CType) (v : Value) → moves_aggregate c d ≡ false → value_of t (place q d) ≡ Ok v
    → put_to t p c (place q d) ≡ stored (place p c) v
unfolding put
stored_is t p q c d v h k =
    ap (λ (r : Result Value ℕ). r >>= (λ w. cond (moves_aggregate c d) (copied t c p q) (stored (place p c) w))) k
    ∙ ap (λ (b : Bool). cond b (copied t c p q) (stored (place p c) v)) h

pub stored_gives : (t : Table) (p q : core.Place) (c d : CType) (v : Value) (l : ℕ) (r : Result What Halt) → moves_aggregate c d ≡ false
    → at l (value_of t (place q d)) ≡ Ok v
    → Refines what_view (at l (simply (stored (place p c) v))) r → Refines what_view (at l (simply (put_to t p c (place q d)))) r
stored_gives t p q c d v l r h k g =
    same_gives what_view _ _ r
    (ap (λ (x : Result core.Simple ℕ). at l (simply x)) (stored_is t p q c d v h (at_ok l (value_of t (place q d)) v k))) g

pub value_gives : (t : Table) (p : core.Place) (c : CType) (v : Value) (l : ℕ) (r : Result What Halt)
    → Refines what_view (at l (simply (stored (place p c) v))) r → Refines what_view (at l (simply (put_to t p c (value v)))) r
unfolding value_of put
value_gives t p c v l r g = g

pub function_stops : (t : Table) (p : core.Place) (c : CType) (f : Callee) (l : ℕ) (e : Halt) → e ≡ halts.Refused (record { kind = 32; line = l; word = 0 })
    → Stops (at l (simply (put_to t p c (function f)))) e
unfolding value_of
function_stops t p c f l e h = subst (λ (x : Halt). Stops (at l (simply (put_to t p c (function f)))) x) (sym h) refl

value_is : (t : Table) (x y : Operand) (u v : Value) → assignable x ≡ Ok (value u) → value_of t y ≡ Ok v → assigned t x y ≡ not_stored u v
unfolding assigned put stored
value_is t x y u v h k =
    ap (λ (r : Result Operand ℕ). r >>= (λ z. value_of t y >>= put t z y)) h ∙ ap (λ (r : Result Value ℕ). r >>= put t (value u) y) k

pub value_stops : (t : Table) (x y : Operand) (u v : Value) (l : ℕ) (e : Halt) → at l (assignable x) ≡ Ok (value u) → at l (value_of t y) ≡ Ok v
    → Stops (at l (simply (not_stored u v))) e → Stops (at l (simply (assigned t x y))) e
value_stops t x y u v l e h k g =
    same_stops _ _ e
    (ap (λ (r : Result core.Simple ℕ). at l (simply r)) (value_is t x y u v (at_ok l (assignable x) (value u) h) (at_ok l (value_of t y) v k))) g

no_function_by : (b : Bool) (p : core.Place) (c : CType) (f : Callee) → ◌≡◌ {A = Result Operand ℕ} (cond b (Err 32) (Ok (place p c))) (Ok (function f)) → ⊥
no_function_by true p c f h = cc
no_function_by false p c f h = cc

pub no_function : (x : Operand) (f : Callee) (l : ℕ) → at l (assignable x) ≡ Ok (function f) → ⊥
unfolding assignable
no_function (place p c) f l h = no_function_by (is_void c || is_array c) p c f (at_ok l _ (function f) h)
no_function (value v) f l h = cc
no_function (function g) f l h = cc

updated_is : (t : Table) (m : ℕ) (x y : Operand) (u v w : Value) → value_of t y ≡ Ok v → operated t m u v ≡ Ok w
    → updated_with t m x u y ≡ assigned t x (value w)
updated_is t m x y u v w h k =
    ap (λ (r : Result Value ℕ). r >>= (λ v. operated t m u v >>= (λ w. assigned t x (value w)))) h
    ∙ ap (λ (r : Result Value ℕ). r >>= (λ w. assigned t x (value w))) k

halted_by : (t : Table) (x : Operand) (l : ℕ) (r : Result Value ℕ) (e : Halt) → Stops (at l r) e
    → Stops (at l (simply (r >>= (λ w. assigned t x (value w))))) e
halted_by t x l r halts.Memory h = tt
halted_by t x l (Ok w) (halts.Refused k) h = absurd cc
halted_by t x l (Err j) (halts.Refused k) h = cc

pub updated_halts : (t : Table) (m : ℕ) (x y : Operand) (u v : Value) (l : ℕ) (e : Halt) → at l (value_of t y) ≡ Ok v
    → Stops (at l (operated t m u v)) e → Stops (at l (simply (updated_with t m x u y))) e
updated_halts t m x y u v l e h g =
    same_stops _ _ e
    (ap (λ (r : Result Value ℕ). at l (simply (r >>= (λ v. operated t m u v >>= (λ w. assigned t x (value w))))))
    (at_ok l (value_of t y) v h))
    (halted_by t x l (operated t m u v) e g)

pub updated_gives : (t : Table) (m : ℕ) (x y : Operand) (u v w : Value) (l : ℕ) (r : Result What Halt)
    → at l (value_of t y) ≡ Ok v → at l (operated t m u v) ≡ Ok w
    → Refines what_view (at l (simply (assigned t x (value w)))) r
    → Refines what_view (at l (simply (updated_with t m x u y))) r
updated_gives t m x y u v w l r h k g =
    same_gives what_view _ _ r
    (ap (λ (s : Result core.Simple ℕ). at l (simply s))
    (updated_is t m x y u v w (at_ok l (value_of t y) v h) (at_ok l (operated t m u v) w k))) g
