-- Visits of functions, each behind those that it calls.
use Rattle.std.proofs.Common.{◌≡◌, ℕ, zero, suc, ◌<◌, ◌≤◌, ◌≢◌, nat_eq, Bool, true, false, ◌||◌, cond, inl, inr, List}
use Rattle.ep_int.proofs.Basics.{nat_eq-self}
use Rattle.ep_core.proofs.Sorts.{never}
use Rattle.std.proofs.lemmas.Bool.{cases_lt, eqb-true}
use Rattle.std.proofs.lemmas.Bool.{or_left, or_right}
use Rattle.std.proofs.Common.{[], ◌∷◌, ◌++◌, length, set, drop, Some, None, refl, sym, ap, ◌∙◌, subst, arith, eq-eqb}
use Rattle.std.proofs.Common.{get_or-set_same, get_or-set_other, length-set, Result, Ok, Err, OnOk}
use Rattle.std.specs.Prelude.{slice_get, slice_index_or, vec_len}
use Rattle.std.specs.Global.{Vec}
use Rattle.std.proofs.lemmas.List.{nil_from_length}
use Rattle.std.proofs.lemmas.List.Folds.{list_any-append}
use Rattle.ep_int.specs.Memory.{contains}
use Rattle.ep_elaboration.specs.Calls.{Call, callees, one_after_another, unless_come, with_function}
use Rattle.ep_elaboration.specs.Leads.{Descends}
use Rattle.ep_elaboration.proofs.Turns.{one_more}
use Rattle.ep_call_graph.specs.declared.order_of.Frame.{Frame}
use Rattle.ep_call_graph.specs.Visit.{IsVisit, IsOrder, finished, from_last, frames, AreFlags, AreInside, entered}
use Rattle.ep_call_graph.specs.Visit.{next_call}
use Rattle.ep_call_graph.specs.View.{AreBelow}
use Rattle.ep_call_graph.proofs.Lists.{placed_in}
use Rattle.ep_call_graph.specs.Search.{AreAll}
use Rattle.ep_call_graph.specs.declared.order_of.Order.{Order}

-- ---- flags

pub no_flag : (bs : List Bool) (f : ℕ) → ((g : ℕ) → slice_index_or bs g false ≡ false) → slice_index_or (bs ++ false ∷ []) f false ≡ false
no_flag [] zero h = refl
no_flag [] (suc f) h = refl
no_flag (b ∷ bs) zero h = h 0
no_flag (b ∷ bs) (suc f) h = no_flag bs f (λ g. h (suc g))

or_last : (a b : Bool) → (a || (b || false)) ≡ cond b true a
or_last true true = refl
or_last true false = refl
or_last false true = refl
or_last false false = refl

-- a flag more
pub flag_more : (bs : List Bool) (done : List ℕ) (f : ℕ) → f < length bs
    → ((g : ℕ) → slice_index_or bs g false ≡ contains g done)
    → (g : ℕ) → slice_index_or (set bs f true) g false ≡ contains g (done ++ f ∷ [])
flag_more bs done f l h g = at_g (nat_eq g f) refl ∙ sym (list_any-append (nat_eq g) done (f ∷ []) ∙ or_last (contains g done) (nat_eq g f))
  where
    at_g : (b : Bool) → nat_eq g f ≡ b → slice_index_or (set bs f true) g false ≡ cond (nat_eq g f) true (contains g done)
    at_g true e = rw e (subst (λ (x : ℕ). slice_index_or (set bs f true) x false ≡ true) (sym (eqb-true g f e)) (get_or-set_same bs f true false l))
    at_g false e =
        let apart : g ≢ f = λ q. never (sym e ∙ eq-eqb g f q) in
        rw e (get_or-set_other bs f g true false apart ∙ h g)

pub flags_more : (n : ℕ) (bs bs' : List Bool) (done done' : List ℕ) (f : ℕ) → f < n → AreFlags n bs done
    → bs' ≡ set bs f true → done' ≡ done ++ f ∷ [] → AreFlags n bs' done'
flags_more n bs bs' done done' f l a e d = record {
  count = ap (λ (xs : List Bool). length xs) e ∙ length-set bs f true ∙ a.count;
  is = λ g. ap (λ (xs : List Bool). slice_index_or xs g false) e
      ∙ flag_more bs done f (let q : length bs ≡ n = a.count in omega arith) a.is g
      ∙ sym (ap (contains g) d);
}

-- ---- frames

snoc : (all rest : List Frame) (a : Frame) → from_last all (rest ++ a ∷ []) ≡ a ∷ from_last all rest
snoc all [] a = refl
snoc all (b ∷ rest) a = snoc (b ∷ all) rest a

pub pushed : (old new : List Frame) (a : Frame) → new ≡ old ++ a ∷ [] → frames new ≡ a ∷ frames old
pushed old new a e = ap frames e ∙ snoc [] old a

-- ---- steps

pub none_at : (xs : List ℕ) (i : ℕ) → slice_get xs i ≡ None → drop i xs ≡ []
none_at [] zero h = refl
none_at [] (suc i) h = refl
none_at (x ∷ xs) zero h = absurd cc
none_at (x ∷ xs) (suc i) h = none_at xs i h

some_at : (xs : List ℕ) (i g : ℕ) → slice_get xs i ≡ Some g → drop i xs ≡ g ∷ drop (suc i) xs
some_at [] i g h = absurd cc
some_at (x ∷ xs) zero g h = let e : x ≡ g = cc in ap (λ (y : ℕ). y ∷ xs) e
some_at (x ∷ xs) (suc i) g h = some_at xs i g h

module _ (next : ℕ → List ℕ) (visit : List ℕ → ℕ → List ℕ) (is : IsVisit next visit) where
  -- a function that is entered is visited
  pub entered_is : (g : ℕ) (done : List ℕ) (rest : List Frame)
      → finished next visit (entered g done rest) done ≡ finished next visit rest (visit done g)
  entered_is g done rest = at_done (contains g done) refl
    where
      at_done : (b : Bool) → contains g done ≡ b
          → finished next visit (cond b rest ((record { function = g; call = 0 }) ∷ rest)) done ≡ finished next visit rest (visit done g)
      at_done true e = ap (finished next visit rest) (sym (is done g ∙ ap (λ (b : Bool). cond b done (one_after_another visit done (next g) ++ g ∷ [])) e))
      at_done false e = ap (finished next visit rest) (sym (is done g ∙ ap (λ (b : Bool). cond b done (one_after_another visit done (next g) ++ g ∷ [])) e))

  pub steps_on : (f i j g : ℕ) (done : List ℕ) (rest : List Frame) → j ≡ suc i → slice_get (next f) i ≡ Some g
      → finished next visit (entered g done ((record { function = f; call = j }) ∷ rest)) done
      ≡ finished next visit ((record { function = f; call = i }) ∷ rest) done
  steps_on f i j g done rest e h =
      entered_is g done ((record { function = f; call = j }) ∷ rest)
      ∙ ap (λ (k : ℕ). finished next visit rest (one_after_another visit (visit done g) (drop k (next f)) ++ f ∷ [])) e
      ∙ sym (ap (λ (xs : List ℕ). finished next visit rest (one_after_another visit done xs ++ f ∷ [])) (some_at (next f) i g h))

  pub steps_last : (f i : ℕ) (done : List ℕ) (rest : List Frame) → slice_get (next f) i ≡ None
      → finished next visit rest (done ++ f ∷ []) ≡ finished next visit ((record { function = f; call = i }) ∷ rest) done
  steps_last f i done rest h =
      sym (ap (λ (xs : List ℕ). finished next visit rest (one_after_another visit done xs ++ f ∷ [])) (none_at (next f) i h))

pub inside_entered : (n g : ℕ) (done : List ℕ) (rest : List Frame) → g < n → AreInside n rest → AreInside n (entered g done rest)
inside_entered n g done rest l a = at_done (contains g done)
  where
    at_done : (b : Bool) → AreInside n (cond b rest ((record { function = g; call = 0 }) ∷ rest))
    at_done true = a
    at_done false = (l, a)

-- ---- all functions

pub below_at : (n i f : ℕ) (fs : List ℕ) → AreBelow n (drop i fs) → slice_get fs i ≡ Some f → (f < n) × AreBelow n (drop (suc i) fs)
below_at n i f fs a h = let b = subst (AreBelow n) (some_at fs i f h) a in b

pub visit_is : (next : ℕ → List ℕ) (cs : List Call) (n : ℕ) (rank : ℕ → ℕ) → Descends cs n rank
    → ((f : ℕ) → next f ≡ callees cs f) → IsVisit next (with_function cs n)
visit_is next cs n rank d h done f =
    one_more cs n rank d done f
    ∙ sym (ap (λ (xs : List ℕ). unless_come done f (one_after_another (with_function cs n) done xs)) (h f))

pub one_on : (visit : List ℕ → ℕ → List ℕ) (done new all : List ℕ) (i j f : ℕ) (fs : List ℕ) → j ≡ suc i → slice_get fs i ≡ Some f
    → new ≡ visit done f → one_after_another visit done (drop i fs) ≡ all → one_after_another visit new (drop j fs) ≡ all
one_on visit done new all i j f fs q h e a =
    ap (λ (d : List ℕ). one_after_another visit d (drop j fs)) e
    ∙ ap (λ (k : ℕ). one_after_another visit (visit done f) (drop k fs)) q
    ∙ sym (ap (one_after_another visit done) (some_at fs i f h)) ∙ a

past_flags : (xs : List Bool) (g : ℕ) → length xs ≤ g → slice_index_or xs g false ≡ false
past_flags [] g l = refl
past_flags (x ∷ xs) zero l = absurd (omega arith)
past_flags (x ∷ xs) (suc g) l = past_flags xs g (omega arith)

all_below : (n : ℕ) (fs : List ℕ) → ((f : ℕ) → contains f fs ≡ true → f < n) → AreBelow n fs
all_below n [] h = tt
all_below n (f ∷ fs) h =
    (h f (or_left (nat_eq f f) (contains f fs) (nat_eq-self f)), all_below n fs (λ g k. h g (or_right (nat_eq g f) (contains g fs) k)))

pub flags_below : (n : ℕ) (bs : List Bool) (done : List ℕ) → AreFlags n bs done → AreBelow n done
flags_below n bs done a = all_below n done (λ f h. elim (cases_lt f (length bs)) [
  | inl l ↦ let q : length bs ≡ n = a.count in omega arith
  | inr l ↦ absurd (never {A = ⊥} (sym (past_flags bs f l) ∙ a.is f ∙ h))
])

-- ---- the order in memory

-- the function itself comes where no call is left
pub step_none : {E : Type 0} (r : Result (Unit {0}) E) (next : ℕ → List ℕ) (s t : Order) (a : Frame)
    → None ≡ slice_get (next a.function) a.call → OnOk r (t.done.items ≡ s.done.items ++ a.function ∷ []) → OnOk r (t.stack ≡ s.stack)
    → OnOk r ((visit : List ℕ → ℕ → List ℕ) → IsVisit next visit
    → finished next visit (frames t.stack.items) t.done.items ≡ finished next visit (a ∷ frames s.stack.items) s.done.items)
step_none (Err x) next s t a n d e = tt
step_none (Ok x) next s t a n d e = λ visit is.
    ap (λ (v : Vec Frame). finished next visit (frames v.items) t.done.items) e
    ∙ ap (finished next visit (frames s.stack.items)) d
    ∙ steps_last next visit is a.function a.call s.done.items (frames s.stack.items) (sym n)

-- a call is followed
pub step_some : {E : Type 0} (r : Result (Unit {0}) E) (next : ℕ → List ℕ) (s t : Order) (a : Frame) (g : ℕ)
    → Some g ≡ slice_get (next a.function) a.call → OnOk r (t.done ≡ s.done)
    → OnOk r (frames t.stack.items ≡ entered g s.done.items (next_call a ∷ frames s.stack.items))
    → OnOk r ((visit : List ℕ → ℕ → List ℕ) → IsVisit next visit
    → finished next visit (frames t.stack.items) t.done.items ≡ finished next visit (a ∷ frames s.stack.items) s.done.items)
step_some (Err x) next s t a g n d e = tt
step_some (Ok x) next s t a g n d e = λ visit is.
    ap (λ (v : Vec ℕ). finished next visit (frames t.stack.items) v.items) d
    ∙ ap (λ (rest : List Frame). finished next visit rest s.done.items) e
    ∙ steps_on next visit is a.function a.call (suc a.call) g s.done.items (frames s.stack.items) refl (sym n)

pub some_order : {E : Type 0} (r : Result (Unit {0}) E) (n : ℕ) (next : ℕ → List ℕ) (s t : Order) (a : Frame) (g : ℕ)
    → IsOrder n next s → a.function < n → AreAll n next → Some g ≡ slice_get (next a.function) a.call
    → OnOk r (t.done ≡ s.done) → OnOk r (t.has ≡ s.has)
    → OnOk r (frames t.stack.items ≡ entered g s.done.items (next_call a ∷ frames s.stack.items)) → OnOk r (IsOrder n next t)
some_order (Err x) n next s t a g o l all h d b e = tt
some_order (Ok x) n next s t a g o l all h d b e = record {
  flags = subst (λ (v : Vec Bool). AreFlags n v.items t.done.items) (sym b)
      (subst (λ (v : Vec ℕ). AreFlags n s.has.items v.items) (sym d) o.flags);
  inside = subst (AreInside n) (sym e)
      (inside_entered n g s.done.items (next_call a ∷ frames s.stack.items)
      (all a.function g (placed_in g (next a.function) a.call (sym h))).1 (l, o.inside));
}

-- the last frame is taken off
pub popped_is : (old new : Vec Frame) (a : Frame) → old.items ≡ new.items ++ a ∷ [] → frames old.items ≡ a ∷ frames new.items
popped_is old new a e = pushed new.items old.items a e

pub popped_order : (n m : ℕ) (next : ℕ → List ℕ) (s : Order) (new : Vec Frame) (a : Frame) → IsOrder n next s → n ≡ m
    → s.stack.items ≡ new.items ++ a ∷ [] → IsOrder m next (record { done = s.done; has = s.has; stack = new }) × (a.function < m)
popped_order n m next s new a o q e =
    let i = subst (AreInside n) (popped_is s.stack new a e) o.inside in (
      subst (λ (k : ℕ). IsOrder k next (record { done = s.done; has = s.has; stack = new })) q (record { flags = o.flags; inside = i.1 }),
      subst (λ (k : ℕ). a.function < k) q i.0,
    )

pub all_visited : (next : ℕ → List ℕ) (visit : List ℕ → ℕ → List ℕ) (stack : Vec Frame) (done all : List ℕ) → vec_len stack ≡ 0
    → finished next visit (frames stack.items) done ≡ all → done ≡ all
all_visited next visit stack done all n h =
    let l : length stack.items ≡ 0 = omega (arith, n) in
    let e : stack.items ≡ [] = nil_from_length stack.items l in
    sym (ap (λ (xs : List Frame). finished next visit (frames xs) done) e) ∙ h
