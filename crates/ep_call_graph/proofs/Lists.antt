-- Lists of marks, groups and numbers.
use Rattle.std.proofs.Common.{◌≡◌, ℕ, zero, suc, ◌+◌, ◌<◌, nat_eq, Bool, true, false, cond, inl, inr, List}
use Rattle.ep_core.proofs.Sorts.{never}
use Rattle.ep_int.proofs.Basics.{nat_eq-self, slice_get-here}
use Rattle.std.proofs.lemmas.Bool.{eqb-true}
use Rattle.std.proofs.lemmas.Bool.{or_cases, or_left, or_right}
use Rattle.std.proofs.Common.{[], ◌∷◌, ◌++◌, length, get_or, set, Option, Some, None, refl, sym, ap, ◌∙◌, subst}
use Rattle.std.proofs.Common.{arith, append-nil, eq-eqb, ne_eqb, nat_lt, ltb-true, ltb-false}
use Rattle.std.proofs.Common.{◌==◌, map, drop, take, drop-cons, append_assoc, Result, Ok, Err, OnOk}
use Rattle.std.specs.Prelude.{slice_get, vec_len}
use Rattle.std.specs.List.{filter}
use Rattle.std.proofs.lemmas.Option.{slice_get_past}
use Rattle.std.proofs.lemmas.List.{take_more, map-append}
use Rattle.ep_elaboration.specs.Calls as rule
use Rattle.ep_call_graph.specs.declared.places.CallSite.{CallSite}
use Rattle.std.specs.Global.{Vec}
use Rattle.ep_int.specs.Memory.{contains}
use Rattle.ep_call_graph.specs.View.{AreWithin, listed, call_site, call_sites}

-- ---- elements of lists

pub behind : {A : Type 0} (xs ys : List A) (j k : ℕ) (x : A) → k ≡ length xs + j → slice_get ys j ≡ Some x
    → slice_get (xs ++ ys) k ≡ Some x
behind [] ys j k x e h = let q : k ≡ j = omega arith in rw q h
behind (y ∷ xs) ys j zero x e h = absurd (omega arith)
behind (y ∷ xs) ys j (suc k) x e h = behind xs ys j k x (omega arith) h

-- an element of two lists together
pub data Part {A : Type 0} (xs ys : List A) (k : ℕ) (x : A) : Type 0 where
  first : k < length xs → slice_get xs k ≡ Some x → Part xs ys k x
  second : (j : ℕ) → k ≡ length xs + j → slice_get ys j ≡ Some x → Part xs ys k x

pub part_of : {A : Type 0} (xs ys : List A) (k : ℕ) (x : A) → slice_get (xs ++ ys) k ≡ Some x → Part xs ys k x
part_of [] ys k x h = second k (omega arith) h
part_of (y ∷ xs) ys zero x h = first (omega arith) h
part_of (y ∷ xs) ys (suc k) x h = elim (part_of xs ys k x h) [
  | first l g ↦ first (omega arith) g
  | second j e g ↦ second j (omega arith) g
]

-- a list of one
pub only : {A : Type 0} (y : A) (k : ℕ) (x : A) → slice_get (y ∷ []) k ≡ Some x → (k ≡ 0) × (x ≡ y)
only y zero x h = (refl, cc)
only y (suc k) x h = absurd cc

pub place_of : (g : ℕ) (xs : List ℕ) → contains g xs ≡ true → (k : ℕ) × (slice_get xs k ≡ Some g)
place_of g [] h = never h
place_of g (x ∷ xs) h = elim (or_cases (nat_eq g x) (contains g xs) h) [
  | inl e ↦ (0, ap (λ (y : ℕ). Some y) (sym (eqb-true g x e)))
  | inr e ↦ let r = place_of g xs e in (suc r.0, r.1)
]

pub placed_in : (g : ℕ) (xs : List ℕ) (k : ℕ) → slice_get xs k ≡ Some g → contains g xs ≡ true
placed_in g [] k h = absurd cc
placed_in g (x ∷ xs) zero h =
    let e : x ≡ g = cc in
    subst (λ (y : ℕ). contains g (y ∷ xs) ≡ true) (sym e) (or_left (nat_eq g g) (contains g xs) (nat_eq-self g))
placed_in g (x ∷ xs) (suc k) h = or_right (nat_eq g x) (contains g xs) (placed_in g xs k h)

-- ---- lists of lists

eqb-suc : (i f : ℕ) → nat_eq (suc i) (suc f) ≡ nat_eq i f
eqb-suc i f = at_b (nat_eq i f) refl
  where
    at_b : (b : Bool) → nat_eq i f ≡ b → nat_eq (suc i) (suc f) ≡ b
    at_b true e = eq-eqb (suc i) (suc f) (ap suc (eqb-true i f e))
    at_b false e = ne_eqb (suc i) (suc f) (λ q. never (sym e ∙ eq-eqb i f (let z : i ≡ f = omega arith in z)))

pub listed_set : {A : Type 0} (vs : List (Vec A)) (i f : ℕ) (v : Vec A) → i < length vs
    → listed (set vs i v) f ≡ cond (nat_eq i f) v.items (listed vs f)
listed_set [] i f v l = absurd (omega arith)
listed_set (w ∷ vs) zero zero v l = refl
listed_set (w ∷ vs) zero (suc f) v l = let e : nat_eq 0 (suc f) ≡ false = ne_eqb 0 (suc f) (omega arith) in rw e refl
listed_set (w ∷ vs) (suc i) zero v l = let e : nat_eq (suc i) 0 ≡ false = ne_eqb (suc i) 0 (omega arith) in rw e refl
listed_set (w ∷ vs) (suc i) (suc f) v l =
    listed_set vs i f v (omega arith) ∙ ap (λ (b : Bool). cond b v.items (listed vs f)) (sym (eqb-suc i f))

pub listed_at : {A : Type 0} (vs : List (Vec A)) (f : ℕ) (v : Vec A) → slice_get vs f ≡ Some v → listed vs f ≡ v.items
listed_at [] f v h = absurd cc
listed_at (w ∷ vs) zero v h = let e : w ≡ v = cc in ap (λ (u : Vec _). u.items) e
listed_at (w ∷ vs) (suc f) v h = listed_at vs f v h

pub listed_past : {A : Type 0} (vs : List (Vec A)) (f : ℕ) → slice_get vs f ≡ None → listed vs f ≡ []
listed_past [] f h = refl
listed_past (w ∷ vs) zero h = absurd cc
listed_past (w ∷ vs) (suc f) h = listed_past vs f h

pub listed_more : {A : Type 0} (vs : List (Vec A)) (v : Vec A) (f : ℕ) → v.items ≡ [] → ((g : ℕ) → listed vs g ≡ [])
    → listed (vs ++ v ∷ []) f ≡ []
listed_more [] v zero e h = e
listed_more [] v (suc f) e h = refl
listed_more (w ∷ vs) v zero e h = h 0
listed_more (w ∷ vs) v (suc f) e h = listed_more vs v f e (λ g. h (suc g))

-- what `get` found
pub found_at : {A : Type 0} (vs : List (Vec A)) (f : ℕ) (v : Vec A) → true ≡ nat_lt f (length vs) → v ≡ get_or vs f v
    → listed vs f ≡ v.items
found_at vs f v l e = listed_at vs f v (slice_get-here vs f v (ltb-true f (length vs) (sym l)) e)

pub none_found : {A : Type 0} (vs : List (Vec A)) (f : ℕ) → false ≡ nat_lt f (length vs) → listed vs f ≡ []
none_found vs f l = listed_past vs f (slice_get_past vs f (ltb-false f (length vs) (sym l)))

pub len_is : {A : Type 0} (v : Vec A) → length v.items ≡ vec_len v
len_is v = omega arith

pub added_to : {A : Type 0} (vs : List (Vec A)) (at f : ℕ) (item : A) (v w : Vec A) → at < length vs
    → v ≡ get_or vs at v → w.items ≡ v.items ++ item ∷ []
    → listed (set vs at w) f ≡ listed vs f ++ cond (nat_eq at f) (item ∷ []) []
added_to {A = A} vs at f item v w l h e = at_f (nat_eq at f) refl
  where
    at_f : (b : Bool) → nat_eq at f ≡ b → listed (set vs at w) f ≡ listed vs f ++ cond b (item ∷ []) []
    at_f true q =
        listed_set vs at f w l ∙ ap (λ (b : Bool). cond b w.items (listed vs f)) q ∙ e
        ∙ ap (λ (xs : List A). xs ++ item ∷ []) (sym (ap (listed vs) (sym (eqb-true at f q)) ∙ listed_at vs at v (slice_get-here vs at v l h)))
    at_f false q =
        listed_set vs at f w l ∙ ap (λ (b : Bool). cond b w.items (listed vs f)) q ∙ sym (append-nil (listed vs f))

-- ---- places one after another

pub front : {A : Type 0} (i j : ℕ) (xs : List A) (x : A) → j ≡ i + 1 → i < length xs → x ≡ get_or xs i x → drop i xs ≡ x ∷ drop j xs
front {A = A} i j xs x q lt e =
    let more : suc i ≡ j = omega arith in
    drop-cons xs i x lt ∙ ap (λ (y : A). y ∷ drop (suc i) xs) (sym e) ∙ ap (λ (n : ℕ). x ∷ drop n xs) more

-- one call and the others
callees_more : (p : rule.CallSite) (o : Option ℕ) (cs : List rule.Call) (f : ℕ)
    → rule.callees (rule.call_at p o ++ cs) f ≡ rule.callees (rule.call_at p o) f ++ rule.callees cs f
callees_more p None cs f = refl
callees_more p (Some g) cs f = at_f (nat_eq p.caller f)
  where
    at_f : (b : Bool) → map (λ (x : rule.Call). x.callee) (cond b ((record { caller = p.caller; line = p.line; callee = g }) ∷ filter (λ (x : rule.Call). x.caller == f) cs) (filter (λ (x : rule.Call). x.caller == f) cs))
        ≡ map (λ (x : rule.Call). x.callee) (cond b ((record { caller = p.caller; line = p.line; callee = g }) ∷ []) []) ++ rule.callees cs f
    at_f true = refl
    at_f false = refl

pub one_call : (caller line callee depth f : ℕ)
    → rule.callees (rule.call_at (record { caller = caller; depth = depth; line = line; callee = Some callee }) (Some callee)) f
    ≡ cond (nat_eq caller f) (callee ∷ []) []
one_call caller line callee depth f = at_f (nat_eq caller f)
  where
    at_f : (b : Bool) → map (λ (x : rule.Call). x.callee) (cond b ((record { caller = caller; line = line; callee = callee }) ∷ []) []) ≡ cond b (callee ∷ []) []
    at_f true = refl
    at_f false = refl

pub step_calls : (ps rest : List rule.CallSite) (p : rule.CallSite) (f : ℕ) (old new all : List ℕ) → ps ≡ p ∷ rest
    → new ≡ old ++ rule.callees (rule.call_at p p.callee) f → old ++ rule.callees (rule.calls_of ps) f ≡ all
    → new ++ rule.callees (rule.calls_of rest) f ≡ all
step_calls ps rest p f old new all e n h =
    ap (λ (xs : List ℕ). xs ++ rule.callees (rule.calls_of rest) f) n
    ∙ append_assoc old (rule.callees (rule.call_at p p.callee) f) (rule.callees (rule.calls_of rest) f)
    ∙ ap (λ (xs : List ℕ). old ++ xs) (sym (callees_more p p.callee (rule.calls_of rest) f))
    ∙ ap (λ (xs : List rule.CallSite). old ++ rule.callees (rule.calls_of xs) f) (sym e) ∙ h

pub front_at : {A : Type 0} (i : ℕ) (xs : List A) (d : A) → i < length xs → drop i xs ≡ get_or xs i d ∷ drop (i + 1) xs
front_at {A = A} i xs d l =
    let more : suc i ≡ i + 1 = omega arith in
    drop-cons xs i d l ∙ ap (λ (n : ℕ). get_or xs i d ∷ drop n xs) more

pub places_front : (i : ℕ) (ps : List CallSite) (d : CallSite) → i < length ps
    → call_sites (drop i ps) ≡ call_site (get_or ps i d) ∷ call_sites (drop (i + 1) ps)
places_front i ps d l = ap call_sites (front_at i ps d l)

pub no_call : (p : CallSite) (xs : List ℕ) (f : ℕ) → p.callee ≡ None → xs ≡ xs ++ rule.callees (rule.call_at (call_site p) p.callee) f
no_call p xs f e =
    sym (append-nil xs) ∙ sym (ap (λ (o : Option ℕ). xs ++ rule.callees (rule.call_at (call_site p) o) f) e)

pub a_call : {E : Type 0} (r : Result (Unit {0}) E) (p : CallSite) (g : ℕ) (old new : ℕ → List ℕ) → p.callee ≡ Some g
    → OnOk r ((f : ℕ) → new f ≡ old f ++ cond (nat_eq p.caller f) (g ∷ []) [])
    → OnOk r ((f : ℕ) → new f ≡ old f ++ rule.callees (rule.call_at (call_site p) p.callee) f)
a_call (Err x) p g old new e h = tt
a_call (Ok x) p g old new e h = λ f.
    h f ∙ ap (λ (xs : List ℕ). old f ++ xs) (sym (one_call p.caller p.line g p.depth f)
    ∙ sym (ap (λ (o : Option ℕ). rule.callees (rule.call_at (record { caller = p.caller; depth = p.depth; line = p.line; callee = Some g }) o) f) e
    ∙ refl))

-- a place more of its function
pub placed_more : (p : CallSite) (f : ℕ) (old new : List CallSite) → new ≡ old ++ cond (nat_eq p.caller f) (p ∷ []) []
    → call_sites new ≡ call_sites old ++ cond (nat_eq p.caller f) (call_site p ∷ []) []
placed_more p f old new e = at_f (nat_eq p.caller f) refl
  where
    at_f : (b : Bool) → nat_eq p.caller f ≡ b → call_sites new ≡ call_sites old ++ cond b (call_site p ∷ []) []
    at_f true q = ap call_sites (e ∙ ap (λ (b : Bool). old ++ cond b (p ∷ []) []) q) ∙ map-append call_site old (p ∷ [])
    at_f false q = ap call_sites (e ∙ ap (λ (b : Bool). old ++ cond b (p ∷ []) []) q ∙ append-nil old) ∙ sym (append-nil (call_sites old))

pub within_front : (n i : ℕ) (ps : List CallSite) (d : CallSite) → i < length ps → AreWithin n (call_sites (drop i ps))
    → ((get_or ps i d).caller < n) × AreWithin n (call_sites (drop (i + 1) ps))
within_front n i ps d l a =
    let b = subst (λ (xs : List CallSite). AreWithin n (call_sites xs)) (front_at i ps d l) a in (b.0, b.1.1)

pub map_step : {A B : Type 0} (f : A → B) (done new : List B) (i : ℕ) (xs : List A) (d : A) → i < length xs → done ≡ map f (take i xs)
    → new ≡ done ++ f (get_or xs i d) ∷ [] → new ≡ map f (take (i + 1) xs)
map_step f done new i xs d l h e =
    e ∙ ap (λ ys. ys ++ f (get_or xs i d) ∷ []) h
    ∙ sym (ap (map f) (take_more xs i d l) ∙ map-append f (take i xs) (get_or xs i d ∷ []))
