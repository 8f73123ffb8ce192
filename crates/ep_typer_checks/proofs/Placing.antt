-- Functions by their places in an order, and calls by them.
use Rattle.std.proofs.Common.{◌≡◌, ℕ, zero, suc, ◌+◌, ◌<◌, ◌≤◌, ◌≢◌, nat_eq, nat_lt, Bool, true, false, ◌||◌, not}
use Rattle.ep_call_graph.proofs.Lists.{front_at}
use Rattle.ep_core.proofs.Sorts.{never}
use Rattle.std.proofs.lemmas.Bool.{eqb-true}
use Rattle.std.proofs.Common.{cond, List, [], ◌∷◌, ◌++◌, length, get_or, set, map, take, drop, Option, Some, None}
use Rattle.std.proofs.Common.{refl, sym, ap, ◌∙◌, subst, eq-eqb, lt-ltb, ltb-true, get_or-set_same, get_or-set_other}
use Rattle.std.proofs.Common.{arith}
use Rattle.std.specs.Prelude.{slice_index, unwrap_or}
use Rattle.std.specs.List.{position_or_len}
use Rattle.std.specs.Option.{option_map}
use Rattle.std.proofs.lemmas.List.{append-nil, append_assoc, map-append, take_more}
use Rattle.std.proofs.lemmas.List.Folds.{list_any-append}
use Rattle.ep_core.specs.Program as core
use Rattle.ep_core.specs.declared.program.Function as code
use Rattle.ep_core.specs.View.{function_view}
use Rattle.ep_elaboration.specs.Functions.{Defined}
use Rattle.ep_elaboration.specs.Programs.{all_in_order, in_order, numbered, place_in, renumbered, renumbered_what}
use Rattle.ep_int.specs.Memory.{contains}
use Rattle.ep_typer_checks.specs.Placed as placed
use Rattle.ep_typer_checks.specs.Placed.{AreOnce, function_in, or_defined, renumbered_function, renumbered_if, slot}
use Rattle.ep_call_graph.specs.View.{AreBelow}

-- ---- places, where what is left of an order begins at one

abbrev pub place_from : (i : ℕ) → List ℕ → ℕ → ℕ
place_from i [] f = 0
place_from i (x ∷ xs) f = cond (nat_eq f x) i (place_from (suc i) xs f)

abbrev length_before : ℕ → List ℕ → ℕ
length_before f xs = position_or_len (λ (g : ℕ). nat_eq f g) xs

lt-suc : (a b : ℕ) → nat_lt (1 + a) (suc b) ≡ nat_lt a b
lt-suc a b = at_b (nat_lt a b) refl
  where
    at_b : (c : Bool) → nat_lt a b ≡ c → nat_lt (1 + a) (suc b) ≡ c
    at_b true e = let l : a < b = ltb-true a b e in lt-ltb (1 + a) (suc b) (omega arith)
    at_b false e = no (nat_lt (1 + a) (suc b)) refl
      where
        no : (c : Bool) → nat_lt (1 + a) (suc b) ≡ c → c ≡ false
        no false q = refl
        no true q =
            let l : 1 + a < suc b = ltb-true (1 + a) (suc b) q in
            never (sym e ∙ lt-ltb a b (omega arith))

from_is : (i : ℕ) (xs : List ℕ) (f : ℕ) → cond (nat_lt (length_before f xs) (length xs)) (i + length_before f xs) 0 ≡ place_from i xs f
from_is i [] f = refl
from_is i (x ∷ xs) f = at_x (nat_eq f x) (from_is (suc i) xs f)
  where
    at_x : (b : Bool)
        → cond (nat_lt (length_before f xs) (length xs)) (suc i + length_before f xs) 0 ≡ place_from (suc i) xs f
        → cond (nat_lt (cond (not b) (1 + length_before f xs) 0) (suc (length xs))) (i + cond (not b) (1 + length_before f xs) 0) 0
        ≡ cond b i (place_from (suc i) xs f)
    at_x true rest = rw (lt-ltb 0 (suc (length xs)) (omega arith)) (let q : i + 0 ≡ i = omega arith in q)
    at_x false rest =
        let more : i + (1 + length_before f xs) ≡ suc i + length_before f xs = omega arith in
        ap (λ (b : Bool). cond b (i + (1 + length_before f xs)) 0) (lt-suc (length_before f xs) (length xs))
        ∙ ap (λ (n : ℕ). cond (nat_lt (length_before f xs) (length xs)) n 0) more
        ∙ rest

at_test : (b : Bool) (n : ℕ) → cond b (0 + n) 0 ≡ unwrap_or (cond b (Some n) None) 0
at_test true n = omega arith
at_test false n = refl

pub place_is : (order : List ℕ) (f : ℕ) → place_from 0 order f ≡ place_in order f
place_is order f = sym (from_is 0 order f) ∙ at_test (nat_lt (length_before f order) (length order)) (length_before f order)

-- one place before what is left
pub place_before : (order places new : List ℕ) (i j v d : ℕ) → j ≡ suc i → v ≡ i → i < length order
    → get_or order i d < length places → new ≡ set places (get_or order i d) v
    → ((f : ℕ) → slice_index places f ≡ place_from j (drop j order) f)
    → (f : ℕ) → slice_index new f ≡ place_from i (drop i order) f
place_before order places new i j v d e is l inside set_is h f =
    at_f (nat_eq f (get_or order i d)) refl ∙ sym (ap (λ (xs : List ℕ). place_from i xs f) (front_at i order d l))
  where
    at_f : (b : Bool) → nat_eq f (get_or order i d) ≡ b
        → slice_index new f ≡ cond (nat_eq f (get_or order i d)) i (place_from (suc i) (drop (i + 1) order) f)
    at_f true q = rw q (ap (λ (xs : List ℕ). slice_index xs f) set_is
        ∙ subst (λ (y : ℕ). slice_index (set places (get_or order i d) v) y ≡ v) (sym (eqb-true f (get_or order i d) q))
        (get_or-set_same places (get_or order i d) v 0 inside) ∙ is)
    at_f false q =
        let apart : f ≢ get_or order i d = λ k. never (sym q ∙ eq-eqb f (get_or order i d) k) in
        let more : j ≡ i + 1 = omega arith in
        rw q (ap (λ (xs : List ℕ). slice_index xs f) set_is ∙ get_or-set_other places (get_or order i d) f v 0 apart ∙ h f
        ∙ ap (λ (n : ℕ). place_from n (drop j order) f) e ∙ ap (λ (n : ℕ). place_from (suc i) (drop n order) f) more)

pub first_place : (order places : List ℕ) (left : ℕ) → left ≤ 0 → ((f : ℕ) → slice_index places f ≡ place_from left (drop left order) f)
    → (f : ℕ) → slice_index places f ≡ place_in order f
first_place order places left le h f =
    let none : left ≡ 0 = omega arith in
    h f ∙ ap (λ (n : ℕ). place_from n (drop n order) f) none ∙ place_is order f

pub below_at : (n : ℕ) (fs : List ℕ) (i d : ℕ) → i < length fs → AreBelow n fs → get_or fs i d < n
below_at n [] i d l b = absurd (omega arith)
below_at n (f ∷ fs) zero d l b = b.0
below_at n (f ∷ fs) (suc i) d l b = below_at n fs i d (omega arith) b.1

-- ---- calls by places, wherever two ways to number functions agree

module _ (to at : ℕ → ℕ) (e : (f : ℕ) → to f ≡ at f) where
  mutual
    unfolding renumbered renumbered_what

    pub same_what : (w : core.What) → renumbered_what to w ≡ renumbered_what at w
    same_what (core.simple w) = refl
    same_what (core.call f es d) = ap (λ (n : ℕ). core.call n es d) (e f)
    same_what (core.if_else t a b) = rw (same_stmts a, same_stmts b) refl
    same_what (core.loop first t a b) = rw (same_stmts a, same_stmts b) refl
    same_what core.break_loop = refl
    same_what core.continue_loop = refl
    same_what (core.by_order o a b) = rw (same_stmts a, same_stmts b) refl
    same_what (core.scope bs a) = rw (same_stmts a) refl

    pub same_stmts : (ss : core.Stmts) → renumbered to ss ≡ renumbered at ss
    same_stmts core.stop = refl
    same_stmts (core.more l w rest) = rw (same_what w, same_stmts rest) refl

  pub same_function : (o : Option Defined) → renumbered_if to (function_in o) ≡ renumbered_if at (function_in o)
  same_function None = refl
  same_function (Some d) =
      ap (λ (ss : core.Stmts). (record d.function { body = ss }) ∷ []) (same_stmts d.function.body)

pub one_in_order : (order : List ℕ) (o : Option Defined) → renumbered_if (place_in order) (function_in o) ≡ in_order order o
one_in_order order None = refl
one_in_order order (Some d) = refl

-- ---- functions by their numbers

-- a function that was found, or one of those that are left
abbrev pub or_later : Option core.Function → Option core.Function → Option core.Function
or_later (Some f) o = Some f
or_later None o = o

pub nothing_later : (o : Option core.Function) → or_later o None ≡ o
nothing_later (Some f) = refl
nothing_later None = refl

-- the next one of those that are left
pub next_kept : (found : Option core.Function) (d : Defined) (ds : List Defined) (f : ℕ)
    → or_later (or_defined found f d) (function_in (numbered ds f)) ≡ or_later found (function_in (numbered (d ∷ ds) f))
next_kept (Some g) d ds f = refl
next_kept None d ds f = at_d (nat_eq d.number f)
  where
    at_d : (b : Bool) → or_later (cond b (Some d.function) None) (function_in (numbered ds f))
        ≡ function_in (cond b (Some d) (numbered ds f))
    at_d true = refl
    at_d false = refl

-- ---- tables of functions

abbrev pub Slots : Type 0
Slots = List (Option code.Function)

pub no_slot : (ss : Slots) (f : ℕ) → ((g : ℕ) → slot ss g ≡ None) → slot (ss ++ None ∷ []) f ≡ None
no_slot [] zero h = refl
no_slot [] (suc f) h = refl
no_slot (s ∷ ss) zero h = h 0
no_slot (s ∷ ss) (suc f) h = no_slot ss f (λ g. h (suc g))

pub slot_same : (ss : Slots) (f : ℕ) (o : Option code.Function) → f < length ss → slot (set ss f o) f ≡ option_map function_view o
slot_same [] f o l = absurd (omega arith)
slot_same (s ∷ ss) zero o l = refl
slot_same (s ∷ ss) (suc f) o l = slot_same ss f o (omega arith)

pub slot_other : (ss : Slots) (f g : ℕ) (o : Option code.Function) → (g ≡ f → ⊥) → slot (set ss f o) g ≡ slot ss g
slot_other [] f g o h = refl
slot_other (s ∷ ss) zero zero o h = absurd (h refl)
slot_other (s ∷ ss) zero (suc g) o h = refl
slot_other (s ∷ ss) (suc f) zero o h = refl
slot_other (s ∷ ss) (suc f) (suc g) o h = slot_other ss f g o (λ e. h (ap suc e))

pub slot_at : (ss : Slots) (f : ℕ) (o : Option code.Function) → f < length ss → o ≡ get_or ss f o → slot ss f ≡ option_map function_view o
slot_at [] f o l e = absurd (omega arith)
slot_at (s ∷ ss) zero o l e = ap (option_map function_view) (sym e)
slot_at (s ∷ ss) (suc f) o l e = slot_at ss f o (omega arith) e

-- what is left of an item that is taken
module _ (ss : Slots) (f : ℕ) (here taken : Option code.Function) (l : f < length ss) (is : here ≡ get_or ss f here) (same : taken ≡ here)
    (to : ℕ → ℕ) (old : List code.Function) where
  pub none_added : taken ≡ None → map function_view old ≡ map function_view old ++ renumbered_if to (slot ss f)
  none_added e = rw (slot_at ss f here l is, ← same, e) (sym (append-nil (map function_view old)))

  pub one_added : (new : List code.Function) (g h : code.Function) → taken ≡ Some g → function_view h ≡ renumbered_function to (function_view g)
      → new ≡ old ++ h ∷ [] → map function_view new ≡ map function_view old ++ renumbered_if to (slot ss f)
  one_added new g h e k p =
      rw (slot_at ss f here l is, ← same, e)
      (ap (map function_view) p ∙ map-append function_view old (h ∷ [])
      ∙ ap (λ (x : core.Function). map function_view old ++ x ∷ []) k)

-- ---- one function of the order after another

neither : (a b : Bool) → (a || (b || false)) ≡ false → (a ≡ false) × (b ≡ false)
neither true b h = absurd cc
neither false true h = absurd cc
neither false false h = (refl, refl)

module _ (order places given : List ℕ) (same : given ≡ places) (right : (f : ℕ) → slice_index places f ≡ place_in order f)
    (ds : List Defined) (i d : ℕ) (l : i < length order) where
  pub not_among : (g : ℕ) → contains g (take (i + 1) order) ≡ false
      → (contains g (take i order) ≡ false) × (g ≡ get_or order i d → ⊥)
  not_among g h =
      let p = neither (contains g (take i order)) (nat_eq g (get_or order i d))
      (sym (list_any-append (nat_eq g) (take i order) (get_or order i d ∷ [])) ∙ ap (contains g) (sym (take_more order i d l)) ∙ h) in
      (p.0, λ e. never (sym p.1 ∙ eq-eqb g (get_or order i d) e))

  its_places : (f : ℕ) → placed.place given f ≡ place_in order f
  its_places f = ap (λ (xs : List ℕ). slice_index xs f) same ∙ right f

  pub added_on : (old new all : List core.Function) (s : Option core.Function) → s ≡ function_in (numbered ds (get_or order i d))
      → new ≡ old ++ renumbered_if (placed.place given) s → old ++ all_in_order order ds (drop i order) ≡ all
      → new ++ all_in_order order ds (drop (i + 1) order) ≡ all
  added_on old new all s e n h =
      ap (λ (fs : List core.Function). fs ++ all_in_order order ds (drop (i + 1) order)) (n ∙ ap (λ (fs : List core.Function). old ++ fs)
      (ap (renumbered_if (placed.place given)) e
      ∙ same_function (placed.place given) (place_in order) its_places (numbered ds (get_or order i d))
      ∙ one_in_order order (numbered ds (get_or order i d))))
      ∙ append_assoc old (in_order order (numbered ds (get_or order i d))) (all_in_order order ds (drop (i + 1) order))
      ∙ sym (ap (λ (xs : List ℕ). old ++ all_in_order order ds xs) (front_at i order d l)) ∙ h
