-- Steps of the search of cycles.
use Rattle.std.proofs.Common.{◌≡◌, ℕ, zero, suc, ◌+◌, ◌<◌, ◌≤◌, ◌≢◌, nat_eq, Bool, true, false, inl, inr, List, []}
use Rattle.ep_int.proofs.Basics.{slice_get-append}
use Rattle.ep_core.proofs.Sorts.{never}
use Rattle.std.proofs.lemmas.Bool.{cases_lt, eqb-true}
use Rattle.std.proofs.Common.{◌∷◌, ◌++◌, length, set, Some, None, refl, sym, ap, ◌∙◌, subst, arith, eq-eqb}
use Rattle.std.proofs.Common.{get_or-set_same, get_or-set_other, length-append, lt-ltb, le-ltb, map, take, drop}
use Rattle.ep_call_graph.specs.declared.cycles.Search.{Search}
use Rattle.ep_call_graph.proofs.Marks.{parts, short, pushed}
use Rattle.std.specs.Prelude.{slice_get, slice_index}
use Rattle.std.proofs.lemmas.Option.{slice_get_within}
use Rattle.ep_int.specs.Memory.{contains}
use Rattle.ep_elaboration.specs.Leads.{Leads, is_there, calls, IsLabelled}
use Rattle.ep_call_graph.specs.declared.cycles.Mark.{Mark}
use Rattle.ep_call_graph.specs.declared.cycles.Mark.TheVariants.{New, Open, Done}
use Rattle.ep_call_graph.specs.declared.cycles.Group.{Group}
use Rattle.ep_call_graph.specs.Search.{mark_of, Fit, IsOver, IsUnder, IsLast, Asks, Settled, waits, is_done, is_open}
use Rattle.ep_call_graph.specs.Search.{Closed, SearchInvariantBut, SearchInvariant, IsCalled, IsWaiting, closed_from, tops, AreAll}
use Rattle.ep_call_graph.specs.Search.{GoesOn, label_of}
use Rattle.ep_call_graph.proofs.Lists.{behind, first, second, part_of, only, place_of, placed_in}

-- ---- ways

pub one_on : (next : ℕ → List ℕ) (to u f : ℕ) → Leads next u f → contains to (next u) ≡ true → Leads next to f
one_on next to u f (is_there _ e) c =
    calls f to (subst (λ (x : ℕ). contains to (next x) ≡ true) (sym e) c) (is_there to refl)
one_on next to u f (calls _ g k l) c = calls f g k (one_on next to u g l c)

pub through : (next : ℕ → List ℕ) (to u f : ℕ) → Leads next u f → Leads next to u → Leads next to f
through next to u f (is_there _ e) m = subst (λ (x : ℕ). Leads next to x) (sym e) m
through next to u f (calls _ g k l) m = calls f g k (through next to u g l m)

-- ---- groups

-- a place behind all groups
over_all : (gs : List Group) (n k i j : ℕ) → Fit gs n k → n ≤ j → IsOver gs i j
over_all [] n k i j f l = tt
over_all (g ∷ gs) n k i j f l =
    let a : g.first ≤ n = f.0 in
    ((λ h. let b : g.first ≤ j = omega arith in b), over_all gs g.first g.pending i j f.1.1 (omega arith))

pub over_last : (gs : List Group) (n k i j : ℕ) → Fit gs n k → IsLast gs j → IsOver gs i j
over_last [] n k i j f l = tt
over_last (g ∷ gs) n k i j f l = ((λ h. l), over_all gs g.first g.pending i j f.1.1 l)

-- what is behind a place that is behind all groups, is behind any
over_any : (gs : List Group) (n k i p j : ℕ) → Fit gs n k → n ≤ i → IsOver gs i j → IsOver gs p j
over_any [] n k i p j f l o = tt
over_any (g ∷ gs) n k i p j f l o =
    let a : g.first ≤ n = f.0 in
    let b : g.first ≤ j = o.0 (omega arith) in
    ((λ q. b), over_any gs g.first g.pending i p j f.1.1 (omega arith) o.1)

under_all : (gs : List Group) (n k w i : ℕ) → Fit gs n k → n ≤ i → k ≤ w → IsUnder gs w i
under_all [] n k w i f l m = tt
under_all (g ∷ gs) n k w i f l m =
    let a : g.first ≤ n = f.0 in
    let b : g.pending ≤ k = f.1.0 in
    let c : g.first ≤ i = omega arith in
    let d : g.pending ≤ w = omega arith in
    (((λ h. c), (λ h. d)), under_all gs g.first g.pending w i f.1.1 c d)

fit_more : (gs : List Group) (g : Group) (n k m w : ℕ) → Fit (g ∷ gs) n k → n ≤ m → k ≤ w → Fit (g ∷ gs) m w
fit_more gs g n k m w f l o = let a : g.first ≤ n = f.0 in let b : g.pending ≤ k = f.1.0 in (omega arith, (omega arith, f.1.1))

last_is_all : (gs : List Group) (n k i : ℕ) → Fit gs n k → n ≤ i → IsLast gs i
last_is_all [] n k i f l = tt
last_is_all (g ∷ gs) n k i f l = let a : g.first ≤ n = f.0 in let b : g.first ≤ i = omega arith in b

-- ---- a function comes onto the path

module _ (next : ℕ → List ℕ) (marks : List Mark) (path : List ℕ) (groups : List Group) (pending : List ℕ) (done f : ℕ)
    (s : SearchInvariantBut (Some f) next marks path groups pending done) (is_new : mark_of marks f ≡ New) (inside : f < length marks)
    (led : (i g : ℕ) → slice_get path i ≡ Some g → Leads next f g)
    (marks' : List Mark) (path' : List ℕ) (groups' : List Group) (pending' : List ℕ)
    (m_is : marks' ≡ set marks f (Open (length path))) (p_is : path' ≡ path ++ f ∷ [])
    (g_is : groups' ≡ (record { first = length path; pending = length pending }) ∷ groups)
    (w_is : pending' ≡ pending ++ next f) where
  here : mark_of marks' f ≡ Open (length path)
  here = rw m_is (get_or-set_same marks f (Open (length path)) New inside)

  there : (x : ℕ) → x ≢ f → mark_of marks' x ≡ mark_of marks x
  there x h = rw m_is (get_or-set_other marks f x (Open (length path)) New h)

  -- what is not new is another
  other : (x : ℕ) (m : Mark) → mark_of marks x ≡ m → (m ≡ New → ⊥) → mark_of marks' x ≡ m
  other x m h o = there x (λ e. o (sym h ∙ ap (mark_of marks) e ∙ is_new)) ∙ h

  -- the mark of a function, by whether it is this one
  data IsMark (x : ℕ) (m : Mark) : Type 0 where
    its : x ≡ f → m ≡ Open (length path) → IsMark x m
    old : x ≢ f → mark_of marks x ≡ m → IsMark x m

  which : (x : ℕ) (m : Mark) → mark_of marks' x ≡ m → IsMark x m
  which x m h = at_x (nat_eq x f) refl
    where
      at_x : (b : Bool) → nat_eq x f ≡ b → IsMark x m
      at_x true e = let q : x ≡ f = eqb-true x f e in its q (sym h ∙ ap (mark_of marks') q ∙ here)
      at_x false e =
          let q : x ≢ f = λ c. never (sym e ∙ eq-eqb x f c) in old q (sym (there x q) ∙ h)

  at_path : (i g : ℕ) → slice_get path i ≡ Some g → slice_get path' i ≡ Some g
  at_path i g h = rw p_is (slice_get-append path (f ∷ []) i g h)

  at_end : slice_get path' (length path) ≡ Some f
  at_end = rw p_is (behind path (f ∷ []) 0 (length path) f (omega arith) refl)

  -- a place of the path, by whether it is the last
  data IsPlace (i g : ℕ) : Type 0 where
    before : i < length path → slice_get path i ≡ Some g → IsPlace i g
    last : i ≡ length path → g ≡ f → IsPlace i g

  where_is : (i g : ℕ) → slice_get path' i ≡ Some g → IsPlace i g
  where_is i g h = elim (part_of path (f ∷ []) i g (subst (λ (xs : List ℕ). slice_get xs i ≡ Some g) p_is h)) [
    | first l k ↦ before l k
    | second j e k ↦ let o = only f j g k in let z : j ≡ 0 = o.0 in last (omega arith) o.1
  ]

  settled_on : (i g : ℕ) → i < length path → Settled marks path groups pending i g
      → Settled marks' path' groups' pending' i g
  settled_on i g l (waits k h u) = waits k (rw w_is (slice_get-append pending (next f) k g h))
      (rw g_is (((λ q. absurd (let z : k < length pending = slice_get_within pending k g h in omega arith)), (λ q. absurd (omega arith))), u))
  settled_on i g l (is_done d h) = is_done d (other g (Done d) h (λ q. absurd cc))
  settled_on i g l (is_open j h o) = is_open j (at_path j g h) (rw g_is ((λ q. absurd (omega arith)), o))

  open_here : (i : ℕ) → Settled marks' path' groups' pending' i f
  open_here i = is_open (length path) at_end (rw g_is ((λ q. omega arith), over_all groups (length path) (length pending) i (length path) s.fit (omega arith)))

  its_calls : (g : ℕ) → contains g (next f) ≡ true → Settled marks' path' groups' pending' (length path) g
  its_calls g c =
      let r = place_of g (next f) c in
      waits (length pending + r.0) (rw w_is (behind pending (next f) r.0 (length pending + r.0) g refl r.1))
      (rw g_is (((λ q. omega arith), (λ q. omega arith)), under_all groups (length path) (length pending) (length pending + r.0) (length path) s.fit (omega arith) (omega arith)))

  followed_on : (i x g : ℕ) → slice_get path' i ≡ Some x → contains g (next x) ≡ true → (None ≡ Some g → ⊥)
      → Settled marks' path' groups' pending' i g
  followed_on i x g h c n = elim (where_is i x h) [
    | last e q ↦ subst (λ (k : ℕ). Settled marks' path' groups' pending' k g) (sym e)
        (its_calls g (subst (λ (y : ℕ). contains g (next y) ≡ true) q c))
    | before l k ↦ at_g (nat_eq f g) refl l k
  ]
    where
      at_g : (b : Bool) → nat_eq f g ≡ b → i < length path → slice_get path i ≡ Some x → Settled marks' path' groups' pending' i g
      at_g true e l k = subst (λ (y : ℕ). Settled marks' path' groups' pending' i y) (eqb-true f g e) (open_here i)
      at_g false e l k = settled_on i g l (s.followed i x g k c (λ q. let z : f ≡ g = cc in never (sym e ∙ eq-eqb f g z)))

  joined_on : (i j x g : ℕ) → slice_get path' i ≡ Some x → slice_get path' j ≡ Some g → IsOver groups' i j
      → Leads next g x
  joined_on i j x g h k o = elim (where_is i x h) [
    | before l a ↦ elim (where_is j g k) [
      | before m b ↦ s.joined i j x g a b (subst (λ (gs : List Group). IsOver gs i j) g_is o).1
      | last e q ↦ subst (λ (y : ℕ). Leads next y x) (sym q) (led i x a)
    ]
    | last e q ↦ elim (where_is j g k) [
      | before m b ↦ absurd (let r : length path ≤ i → length path ≤ j = (subst (λ (gs : List Group). IsOver gs i j) g_is o).0 in
          let t : length path ≤ j = r (omega arith) in omega arith)
      | last d r ↦ is_there x (q ∙ sym r)
    ]
  ]

  asked_on : (k g : ℕ) → slice_get pending' k ≡ Some g → Asks next path' groups' k g
  asked_on k g h = elim (part_of pending (next f) k g (subst (λ (xs : List ℕ). slice_get xs k ≡ Some g) w_is h)) [
    | first l a ↦ let r = s.asked k g a in record {
      caller = r.caller;
      place = r.place;
      at = at_path r.place r.caller r.at;
      calls = r.calls;
      under = rw g_is (((λ q. absurd (omega arith)), (λ q. absurd (let z : r.place < length path = slice_get_within path r.place r.caller r.at in omega arith))), r.under);
    }
    | second j e a ↦ record {
      caller = f;
      place = length path;
      at = at_end;
      calls = placed_in g (next f) j a;
      under = rw g_is (((λ q. omega arith), (λ q. omega arith)), under_all groups (length path) (length pending) k (length path) s.fit (omega arith) (omega arith));
    }
  ]

  pub comes : SearchInvariant next marks' path' groups' pending' done
  comes = record {
    opened = λ x i h. elim (which x (Open i) h) [
      | its e q ↦ let z : length path ≡ i = cc in subst (λ (k : ℕ). slice_get path' k ≡ Some x) z (at_end ∙ ap (λ (y : ℕ). Some y) (sym e))
      | old o q ↦ at_path i x (s.opened x i q)
    ];
    placed = λ i x h. elim (where_is i x h) [
      | before l k ↦ other x (Open i) (s.placed i x k) (λ q. absurd cc)
      | last e q ↦ ap (mark_of marks') q ∙ here ∙ ap (λ (k : ℕ). Open k) (sym e)
    ];
    fit = rw (g_is, p_is, w_is) (
        let a : length (path ++ f ∷ []) ≡ length path + 1 = length-append path (f ∷ []) in
        let b : length (pending ++ next f) ≡ length pending + length (next f) = length-append pending (next f) in
        (omega arith, (omega arith, s.fit)));
    joined = joined_on;
    asked = asked_on;
    followed = followed_on;
    closed = λ x g l h c. elim (which x (Done l) h) [
      | its e q ↦ absurd cc
      | old o q ↦ let r = s.closed x g l q c in record {
        of = r.of;
        is = other g (Done r.of) r.is (λ z. absurd cc);
        no_later = r.no_later;
        back = r.back;
      }
    ];
    counted = λ x l h. elim (which x (Done l) h) [ its e q ↦ absurd cc | old o q ↦ s.counted x l q ];
  }

  pub stays_new : (x : ℕ) → mark_of marks' x ≡ New → mark_of marks x ≡ New
  stays_new x h = elim (which x New h) [ its e q ↦ absurd cc | old o q ↦ q ]

  pub not_new : mark_of marks' f ≡ New → ⊥
  not_new h = let e : Open (length path) ≡ New = sym here ∙ h in cc

-- ---- groups become one

module _ (next : ℕ → List ℕ) (marks : List Mark) (path : List ℕ) (g : Group) (gs : List Group) (pending : List ℕ) (done v p : ℕ)
    (s : SearchInvariantBut (Some v) next marks path (g ∷ gs) pending done) (at : slice_get path p ≡ Some v)
    (called : IsCalled next path (g ∷ gs) v) (before : p < g.first) where
  joined_less : (i j x y : ℕ) → slice_get path i ≡ Some x → slice_get path j ≡ Some y → IsOver gs i j → Leads next y x
  joined_less i j x y h k o = elim (cases_lt i g.first) [
    | inl l ↦ s.joined i j x y h k ((λ q. absurd (omega arith)), o)
    | inr l ↦
        let c : g.first ≤ called.place = called.last in
        let to_caller : Leads next called.caller x =
        s.joined i called.place x called.caller h called.at (over_last (g ∷ gs) (length path) (length pending) i called.place s.fit c) in
        let to_callee : Leads next v x = one_on next v called.caller x to_caller called.calls in
        let from_callee : Leads next y v = s.joined p j v y at k ((λ q. absurd (omega arith)), over_any gs g.first g.pending i p j s.fit.1.1 l o) in
        through next y v x to_callee from_callee
  ]

  settled_less : (i x : ℕ) → Settled marks path (g ∷ gs) pending i x → Settled marks path gs pending i x
  settled_less i x (waits k h u) = waits k h u.1
  settled_less i x (is_done d h) = is_done d h
  settled_less i x (is_open j h o) = is_open j h o.1

  fit_less : Fit gs (length path) (length pending)
  fit_less = at_gs gs s.fit
    where
      at_gs : (hs : List Group) → Fit (g ∷ hs) (length path) (length pending) → Fit hs (length path) (length pending)
      at_gs [] f = absurd (let a : g.first ≡ 0 = f.1.1 in omega arith)
      at_gs (e ∷ hs) f =
          let a : g.first ≤ length path = f.0 in
          let b : g.pending ≤ length pending = f.1.0 in
          fit_more hs e g.first g.pending (length path) (length pending) f.1.1 a b

  last_less : IsLast gs called.place
  last_less = last_is_all gs g.first g.pending called.place s.fit.1.1 called.last

  pub one_group_less : SearchInvariantBut (Some v) next marks path gs pending done × IsCalled next path gs v
  one_group_less = (
    record {
      opened = s.opened;
      placed = s.placed;
      fit = fit_less;
      joined = joined_less;
      asked = λ k x h. let r = s.asked k x h in record {
        caller = r.caller;
        place = r.place;
        at = r.at;
        calls = r.calls;
        under = r.under.1;
      };
      followed = λ i x y h c n. settled_less i y (s.followed i x y h c n);
      closed = s.closed;
      counted = s.counted;
    },
    record { caller = called.caller; place = called.place; at = called.at; calls = called.calls; last = last_less },
  )

-- where the callee is behind the last group, its calls are settled
pub settled_open : (next : ℕ → List ℕ) (marks : List Mark) (path : List ℕ) (gs : List Group) (pending : List ℕ) (done v p : ℕ)
    → SearchInvariantBut (Some v) next marks path gs pending done → slice_get path p ≡ Some v → IsLast gs p
    → SearchInvariant next marks path gs pending done
settled_open next marks path gs pending done v p s at l = record {
  opened = s.opened;
  placed = s.placed;
  fit = s.fit;
  joined = s.joined;
  asked = s.asked;
  followed = λ i x y h c n. at_y i x y h c (nat_eq v y) refl;
  closed = s.closed;
  counted = s.counted;
}
  where
    at_y : (i x y : ℕ) → slice_get path i ≡ Some x → contains y (next x) ≡ true → (b : Bool) → nat_eq v y ≡ b
        → Settled marks path gs pending i y
    at_y i x y h c true e =
        subst (λ (z : ℕ). Settled marks path gs pending i z) (eqb-true v y e)
        (is_open p at (over_last gs (length path) (length pending) i p s.fit l))
    at_y i x y h c false e = s.followed i x y h c (λ q. let z : v ≡ y = cc in never (sym e ∙ eq-eqb v y z))

pub settled_done : (next : ℕ → List ℕ) (marks : List Mark) (path : List ℕ) (gs : List Group) (pending : List ℕ) (done v d : ℕ)
    → SearchInvariantBut (Some v) next marks path gs pending done → mark_of marks v ≡ Done d
    → SearchInvariant next marks path gs pending done
settled_done next marks path gs pending done v d s m = record {
  opened = s.opened;
  placed = s.placed;
  fit = s.fit;
  joined = s.joined;
  asked = s.asked;
  followed = λ i x y h c n. at_y i x y h c (nat_eq v y) refl;
  closed = s.closed;
  counted = s.counted;
}
  where
    at_y : (i x y : ℕ) → slice_get path i ≡ Some x → contains y (next x) ≡ true → (b : Bool) → nat_eq v y ≡ b
        → Settled marks path gs pending i y
    at_y i x y h c true e =
        subst (λ (z : ℕ). Settled marks path gs pending i z) (eqb-true v y e) (is_done d m)
    at_y i x y h c false e = s.followed i x y h c (λ q. let z : v ≡ y = cc in never (sym e ∙ eq-eqb v y z))

-- ---- a call is followed

-- the last call that waits is taken from the others
pub taken : (next : ℕ → List ℕ) (marks : List Mark) (path : List ℕ) (gs : List Group) (pending rest : List ℕ) (done v : ℕ)
    → pending ≡ rest ++ v ∷ [] → IsWaiting gs (length pending) → SearchInvariant next marks path gs pending done
    → SearchInvariantBut (Some v) next marks path gs rest done × IsCalled next path gs v
taken next marks path [] pending rest done v e w s = absurd w
taken next marks path (g ∷ gs) pending rest done v e w s = (
  record {
    opened = s.opened;
    placed = s.placed;
    fit = (s.fit.0, (shorter, s.fit.1.1));
    joined = s.joined;
    asked = λ k x h. s.asked k x (subst (λ (xs : List ℕ). slice_get xs k ≡ Some x) (sym e) (slice_get-append rest (v ∷ []) k x h));
    followed = λ i x y h c n. settled i y n (s.followed i x y h c (λ q. absurd cc));
    closed = s.closed;
    counted = s.counted;
  },
  record { caller = r.caller; place = r.place; at = r.at; calls = r.calls; last = r.under.0.0 shorter },
)
  where
    shorter : g.pending ≤ length rest
    shorter =
        let a : length pending ≡ length rest + 1 = ap (λ (xs : List ℕ). length xs) e ∙ length-append rest (v ∷ []) in
        let b : g.pending < length pending = w in omega arith

    r : Asks next path (g ∷ gs) (length rest) v
    r = s.asked (length rest) v
        (subst (λ (xs : List ℕ). slice_get xs (length rest) ≡ Some v) (sym e) (behind rest (v ∷ []) 0 (length rest) v (omega arith) refl))

    settled : (i y : ℕ) → (Some v ≡ Some y → ⊥) → Settled marks path (g ∷ gs) pending i y
        → Settled marks path (g ∷ gs) rest i y
    settled i y n (waits k h u) = elim (part_of rest (v ∷ []) k y (subst (λ (xs : List ℕ). slice_get xs k ≡ Some y) e h)) [
      | first l a ↦ waits k a u
      | second j q a ↦ absurd (n (ap (λ (z : ℕ). Some z) (sym (only v j y a).1)))
    ]
    settled i y n (is_done d h) = is_done d h
    settled i y n (is_open j h o) = is_open j h o

-- ---- the last group is done

module _ (next : ℕ → List ℕ) (marks marks' : List Mark) (path rest : List ℕ) (g : Group) (gs : List Group) (pending : List ℕ) (done : ℕ)
    (s : SearchInvariant next marks (path ++ rest) (g ∷ gs) pending done) (none : length pending ≤ g.pending) (cut : length path ≡ g.first)
    (m_is : (f : ℕ) → mark_of marks' f ≡ closed_from (length path) done (mark_of marks f)) where
  still : (i : ℕ) → i < length path → closed_from (length path) done (Open i) ≡ Open i
  still i l = rw (lt-ltb i (length path) l) refl

  gone : (i : ℕ) → length path ≤ i → closed_from (length path) done (Open i) ≡ Done done
  gone i l = rw (le-ltb i (length path) l) refl

  keeps_done : (f l : ℕ) → mark_of marks f ≡ Done l → mark_of marks' f ≡ Done l
  keeps_done f l h = m_is f ∙ ap (closed_from (length path) done) h

  on_path : (i f : ℕ) → slice_get path i ≡ Some f → slice_get (path ++ rest) i ≡ Some f
  on_path i f h = slice_get-append path rest i f h

  -- a mark, by what it was
  data Was (f : ℕ) (m : Mark) : Type 0 where
    was_new : mark_of marks f ≡ New → m ≡ New → Was f m
    was_open : (i : ℕ) → mark_of marks f ≡ Open i → i < length path → m ≡ Open i → Was f m
    was_behind : (i : ℕ) → mark_of marks f ≡ Open i → length path ≤ i → m ≡ Done done → Was f m
    was_done : (l : ℕ) → mark_of marks f ≡ Done l → m ≡ Done l → Was f m

  what_was : (f : ℕ) (m : Mark) → mark_of marks' f ≡ m → Was f m
  what_was f m h = at_old (mark_of marks f) refl
    where
      at_old : (o : Mark) → mark_of marks f ≡ o → Was f m
      at_old New e = was_new e (sym h ∙ m_is f ∙ ap (closed_from (length path) done) e)
      at_old (Done l) e = was_done l e (sym h ∙ m_is f ∙ ap (closed_from (length path) done) e)
      at_old (Open i) e = elim (cases_lt i (length path)) [
        | inl l ↦ was_open i e l (sym h ∙ m_is f ∙ ap (closed_from (length path) done) e ∙ still i l)
        | inr l ↦ was_behind i e l (sym h ∙ m_is f ∙ ap (closed_from (length path) done) e ∙ gone i l)
      ]

  -- no call of the group waits
  no_wait : (k i : ℕ) (x : ℕ) → slice_get pending k ≡ Some x → IsUnder (g ∷ gs) k i → length path ≤ i → ⊥
  no_wait k i x h u l =
      let a : k < length pending = slice_get_within pending k x h in
      let b : g.pending ≤ k = u.0.1 (omega arith) in omega arith

  open_at : (f i : ℕ) → mark_of marks f ≡ Open i → i < length path → slice_get path i ≡ Some f
  open_at f i h l = elim (part_of path rest i f (s.opened f i h)) [
    | first m a ↦ a
    | second j e a ↦ absurd (omega arith)
  ]

  settled_yet : (i x : ℕ) → i < length path → Settled marks (path ++ rest) (g ∷ gs) pending i x → Settled marks' path gs pending i x
  settled_yet i x l (waits k h u) = waits k h u.1
  settled_yet i x l (is_done d h) = is_done d (keeps_done x d h)
  settled_yet i x l (is_open j h o) = elim (part_of path rest j x h) [
    | first m a ↦ is_open j a o.1
    | second k e a ↦ is_done done (m_is x ∙ ap (closed_from (length path) done) (s.placed j x h) ∙ gone j (omega arith))
  ]

  closes : (f x i : ℕ) → mark_of marks f ≡ Open i → length path ≤ i → contains x (next f) ≡ true
      → Settled marks (path ++ rest) (g ∷ gs) pending i x → Closed next marks' f x done
  closes f x i h l c (waits k a u) = absurd (no_wait k i x a u l)
  closes f x i h l c (is_done d a) =
      let b : d < done = s.counted x d a in
      record { of = d; is = keeps_done x d a; no_later = omega arith; back = λ q. absurd (omega arith) }
  closes f x i h l c (is_open j a o) =
      let b : g.first ≤ j = o.0 (omega arith) in record {
        of = done;
        is = m_is x ∙ ap (closed_from (length path) done) (s.placed j x a) ∙ gone j (omega arith);
        no_later = omega arith;
        back = λ q. s.joined j i x f a (s.opened f i h)
            (over_last (g ∷ gs) (length (path ++ rest)) (length pending) j i s.fit (let z : g.first ≤ i = omega arith in z));
      }

  closed_yet : (f x l : ℕ) → mark_of marks' f ≡ Done l → contains x (next f) ≡ true → Closed next marks' f x l
  closed_yet f x l h c = elim (what_was f (Done l) h) [
    | was_new e q ↦ absurd cc
    | was_open i e m q ↦ absurd cc
    | was_behind i e m q ↦ let z : done ≡ l = cc in
        subst (λ (k : ℕ). Closed next marks' f x k) z
        (closes f x i e m c (s.followed i f x (s.opened f i e) c (λ w. absurd cc)))
    | was_done d e q ↦ let z : d ≡ l = cc in
        let r = s.closed f x d e c in subst (λ (k : ℕ). Closed next marks' f x k) z
        (record { of = r.of; is = keeps_done x r.of r.is; no_later = r.no_later; back = r.back })
  ]

  pub group_done : SearchInvariant next marks' path gs pending (done + 1)
  group_done = record {
    opened = λ f i h. elim (what_was f (Open i) h) [
      | was_new e q ↦ absurd cc
      | was_open j e l q ↦ let z : j ≡ i = cc in subst (λ (k : ℕ). slice_get path k ≡ Some f) z (open_at f j e l)
      | was_behind j e l q ↦ absurd cc
      | was_done l e q ↦ absurd cc
    ];
    placed = λ i f h. m_is f ∙ ap (closed_from (length path) done) (s.placed i f (on_path i f h))
        ∙ still i (slice_get_within path i f h);
    fit = rw cut (
        let a : g.pending ≤ length pending = s.fit.1.0 in
        let b : g.pending ≡ length pending = omega arith in
        subst (λ (k : ℕ). Fit gs g.first k) b s.fit.1.1);
    joined = λ i j x y h k o. s.joined i j x y (on_path i x h) (on_path j y k)
        ((λ q. absurd (let z : i < length path = slice_get_within path i x h in omega arith)), o);
    asked = λ k x h. let r = s.asked k x h in elim (cases_lt r.place (length path)) [
      | inl l ↦ record {
        caller = r.caller;
        place = r.place;
        at = open_at r.caller r.place (s.placed r.place r.caller r.at) l;
        calls = r.calls;
        under = r.under.1;
      }
      | inr l ↦ absurd (no_wait k r.place x h r.under l)
    ];
    followed = λ i x y h c n. settled_yet i y (slice_get_within path i x h) (s.followed i x y (on_path i x h) c n);
    closed = closed_yet;
    counted = λ f l h. elim (what_was f (Done l) h) [
      | was_new e q ↦ absurd cc
      | was_open i e m q ↦ absurd cc
      | was_behind i e m q ↦ let z : done ≡ l = cc in omega arith
      | was_done d e q ↦ let z : d ≡ l = cc in let w : d < done = s.counted f d e in omega arith
    ];
  }

  pub new_before : (f : ℕ) → mark_of marks' f ≡ New → mark_of marks f ≡ New
  new_before f h = elim (what_was f New h) [
    | was_new e q ↦ e
    | was_open i e m q ↦ absurd cc
    | was_behind i e m q ↦ absurd cc
    | was_done d e q ↦ absurd cc
  ]

-- the last group of the search in memory
pub close_is : (next : ℕ → List ℕ) (marks marks' : List Mark) (path path' : List ℕ) (groups left : List Group) (g : Group)
    (pending : List ℕ) (done : ℕ) → groups ≡ left ++ g ∷ [] → SearchInvariant next marks path (tops groups) pending done
    → (IsWaiting (tops groups) (length pending) → ⊥) → path' ≡ take g.first path
    → ((f : ℕ) → mark_of marks' f ≡ closed_from g.first done (mark_of marks f))
    → SearchInvariant next marks' path' (tops left) pending (done + 1)
close_is next marks marks' path path' groups left g pending done e s none p m =
    let q : tops groups ≡ g ∷ tops left = pushed left groups g e in
    let t : SearchInvariant next marks path (g ∷ tops left) pending done =
    subst (λ (gs : List Group). SearchInvariant next marks path gs pending done) q s in
    let l : g.first ≤ length path = t.fit.0 in
    let cut : length (take g.first path) ≡ g.first = short g.first path l in
    let whole : path ≡ take g.first path ++ drop g.first path = sym (parts g.first path) in
    let u : SearchInvariant next marks (take g.first path ++ drop g.first path) (g ∷ tops left) pending done =
    subst (λ (xs : List ℕ). SearchInvariant next marks xs (g ∷ tops left) pending done) whole t in
    let n : length pending ≤ g.pending = elim (cases_lt g.pending (length pending)) [
      | inl a ↦ absurd (none (subst (λ (gs : List Group). IsWaiting gs (length pending)) (sym q) a))
      | inr a ↦ a
    ] in
    subst (λ (xs : List ℕ). SearchInvariant next marks' xs (tops left) pending (done + 1)) (sym p)
    (group_done next marks marks' (take g.first path) (drop g.first path) g (tops left) pending done u n cut
    (λ f. m f ∙ ap (λ (k : ℕ). closed_from k done (mark_of marks f)) (sym cut)))

-- the way from the path to what is called
pub leads_to : (next : ℕ → List ℕ) (marks : List Mark) (path : List ℕ) (gs : List Group) (pending : List ℕ) (done v : ℕ)
    → SearchInvariantBut (Some v) next marks path gs pending done → IsCalled next path gs v
    → (i g : ℕ) → slice_get path i ≡ Some g → Leads next v g
leads_to next marks path gs pending done v s c i g h =
    one_on next v c.caller g (s.joined i c.place g c.caller h c.at
    (over_last gs (length path) (length pending) i c.place s.fit c.last)) c.calls

-- ---- the end

label_at : (ms : List Mark) (f : ℕ) → slice_index (map label_of ms) f ≡ label_of (mark_of ms f)
label_at [] f = refl
label_at (m ∷ ms) zero = refl
label_at (m ∷ ms) (suc f) = label_at ms f

module _ (next : ℕ → List ℕ) (marks : List Mark) (path pending : List ℕ) (done : ℕ) (s : SearchInvariant next marks path [] pending done)
    (all : AreAll (length marks) next) (come : (x : ℕ) → x < length marks → mark_of marks x ≡ New → ⊥) where
  is_closed : (f : ℕ) → f < length marks → (l : ℕ) × (mark_of marks f ≡ Done l)
  is_closed f l = at_mark (mark_of marks f) refl
    where
      at_mark : (m : Mark) → mark_of marks f ≡ m → (k : ℕ) × (mark_of marks f ≡ Done k)
      at_mark New e = absurd (come f l e)
      at_mark (Done k) e = (k, e)
      at_mark (Open i) e =
          let a : i < length path = slice_get_within path i f (s.opened f i e) in
          let b : length path ≡ 0 = s.fit in absurd (omega arith)

  pub labelled : IsLabelled next (λ f. slice_index (map label_of marks) f)
  labelled = record {
    not_up = λ f g c. let d = is_closed f (all f g c).0 in let r = s.closed f g d.0 d.1 c in
        rw (label_at marks f, label_at marks g, d.1, r.is) r.no_later;
    back = λ f g c e. let d = is_closed f (all f g c).0 in let r = s.closed f g d.0 d.1 c in
        r.back (sym (label_at marks g ∙ ap label_of r.is) ∙ e ∙ label_at marks f ∙ ap label_of d.1);
  }

pub goes_goes : (s t u : Search) → GoesOn s t → GoesOn t u → GoesOn s u
goes_goes s t u a b = (b.0 ∙ a.0, λ f h. a.1 f (b.1 f h))

pub all_come : (s t : Search) (f : ℕ) → ((x : ℕ) → x < f → mark_of s.marks.items x ≡ New → ⊥) → GoesOn s t
    → (mark_of t.marks.items f ≡ New → ⊥) → (x : ℕ) → x < f + 1 → mark_of t.marks.items x ≡ New → ⊥
all_come s t f a g n x l h = at_x (nat_eq x f) refl
  where
    at_x : (b : Bool) → nat_eq x f ≡ b → ⊥
    at_x true e = n (subst (λ (y : ℕ). mark_of t.marks.items y ≡ New) (eqb-true x f e) h)
    at_x false e =
        let apart : x ≢ f = λ q. never (sym e ∙ eq-eqb x f q) in a x (omega (arith, apart)) (g.1 x h)
