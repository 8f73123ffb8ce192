-- Where one side runs, it doesn't matter how many heads were taken before, and none is taken.
use Rattle.std.proofs.Common.{◌≡◌, ℕ, zero, suc, ◌+◌, List, [], ◌∷◌, ◌++◌, refl, ap, ◌∙◌, Option, Some, None, Bool}
use Rattle.std.proofs.Common.{true, false, not, nat_eq, slice_get}
use Rattle.std.proofs.Math.Path.{fun_ext}
use Rattle.ep_core.specs.Program.{Expr, What, simple, call, if_else, loop, break_loop, continue_loop, by_order, scope}
use Rattle.ep_core.specs.Program.{Stmts, stop, more, Function}
use Rattle.ep_core.specs.Exec.{broken, is_order, callee_of}
use Rattle.ep_core.specs.Runs.{Side, left, right}
use Rattle.ep_pass.specs.States.{Mode, Both, One, StateOps}
use Rattle.ep_pass.specs.Pass.{Ways, none, Log, Pass, ends, so_far, branch, jumps, apart, parted, tested, arm_of}
use Rattle.ep_pass.specs.Pass.{call_pass, then_pass, go_on, next_pass, scope_pass, turn_counted, unrolled, one_rounds}
use Rattle.ep_pass.specs.Pass.{comes_after, cut_turn, entered, lone, leave_loop, past, join_ways, pass, pass_all}
use Rattle.ep_pass.specs.Pass.{body_pass}
use Rattle.ep_certcheck_laws.proofs.Headless.{all_bare, bodies_bare}
use Rattle.ep_walk_parts.specs.Pieces.{Loop, Followed, arms, turns, cut}
use Rattle.ep_certcheck_walk.specs.Pieces.{heads, bodies, all, row, one, parted_arms, body_at, alone_of, entered_of}
use Rattle.ep_certcheck_walk.specs.Pieces.{followed}
use Rattle.ep_certcheck_walk.specs.Stops.{Course, checking}

module _ {S : Type 0} (k : Course S) where
  abbrev o : StateOps S
  o = checking k

  -- of a loop only what the side's body does matters
  rounds_by : (l : ℕ) (e : Expr) (a b : Mode → S → Pass S) (m : Side) → a (One m) ≡ b (One m) → (j : ℕ) (s : S)
      (w : Ways S)
      → one_rounds o k.plan.unroll l e a m j s w ≡ one_rounds o k.plan.unroll l e b m j s w
  rounds_by l e a b m d j s w =
      ap (λ (z : S → Pass S). unrolled o
      (λ w s. tested o (so_far w) (One m) e l (λ s. turn_counted (z s)) (λ s. ends []) (λ s. ends []) (jumps broken) s)
      (cut_turn o k.plan.unroll l e a m) j s w) d

  entered_by : (l : ℕ) (e : Expr) (a b : Mode → S → Pass S) (m : Side) → a (One m) ≡ b (One m) → (j : ℕ) (s : S)
      → entered o k.plan.unroll l e a m j s ≡ entered o k.plan.unroll l e b m j s
  entered_by l e a b m d zero s = refl
  entered_by l e a b m d (suc j) s =
      ap (λ (z : S → Pass S). then_pass o (turn_counted (z s)) none (one_rounds o k.plan.unroll l e a m j)) d
      ∙ ap (then_pass o (turn_counted (b (One m) s)) none)
      (fun_ext (λ s. fun_ext (λ w. rounds_by l e a b m d j s w)))

  arm_by : (t : Bool) (a b c d : Mode → S → Pass S) (m : Mode) → a m ≡ c m → b m ≡ d m
      → arm_of o t a b m ≡ arm_of o t c d m
  arm_by true a b c d m e f = e
  arm_by false a b c d m e f = f

  apart_by : (l : ℕ) (a b c d : Mode → S → Pass S) → a (One left) ≡ c (One left) → b (One right) ≡ d (One right)
      → (s : S) → apart o l a b s ≡ apart o l c d s
  apart_by l a b c d e f s =
      ap (λ (z : S → Pass S). parted o l (z s) (b (One right))) e ∙ ap (parted o l (c (One left) s)) f

  pub tested_by : (m : Mode) (e : Expr) (l : ℕ) (a b c d a' b' c' d' : S → Pass S) (p : Pass S) (s : S) → a ≡ a' → b
      ≡ b'
      → c ≡ c' → d ≡ d' → tested o p m e l a b c d s ≡ tested o p m e l a' b' c' d' s
  tested_by m e l a b c d a' b' c' d' p s ea eb ec ed =
      ap (λ z. tested o p m e l z b c d s) ea ∙ ap (λ z. tested o p m e l a' z c d s) eb
      ∙ ap (λ z. tested o p m e l a' b' z d s) ec ∙ ap (λ z. tested o p m e l a' b' c' z s) ed

  next_by : (p q : Pass S) (a b : S → Pass S) → p ≡ q → a ≡ b → next_pass o p a ≡ next_pass o q b
  next_by p q a b e d = ap (λ z. next_pass o z a) e ∙ ap (next_pass o q) d

  module _ (here : ℕ) (ps : ℕ → (n : ℕ) → Mode → S → Pass S)
      (known : (i n j : ℕ) (m : Side) → ps i n (One m) ≡ ps i j (One m)) where
    abbrev of_one : What → ℕ → Mode → ℕ → S → Pass S
    of_one w n = pass o k.plan.unroll (heads k) k.plan.order k.plan.program here ps w n

    abbrev of_all : Stmts → ℕ → Mode → S → Ways S → Pass S
    of_all ss n = pass_all o k.plan.unroll (heads k) k.plan.order k.plan.program here ps ss n

    abbrev of_row : Stmts → ℕ → Mode → S → Pass S
    of_row ss n m s = of_all ss n m s none

    row_by : (ss : Stmts) (n j : ℕ) (m : Side) → of_all ss n (One m) ≡ of_all ss j (One m)
        → of_row ss n (One m) ≡ of_row ss j (One m)
    row_by ss n j m e = ap (λ (z : S → Ways S → Pass S). λ s. z s none) e

    abbrev turn_body : Stmts → Stmts → ℕ → Mode → S → Pass S
    turn_body a b n m s = next_pass o (of_row a n m s) (λ t. of_row b (past (heads k) n (of_row a n m s)) m t)

    abbrev over : What → ℕ → ℕ → Side → ℕ → S → Type 0
    over w n j m l s = of_one w n (One m) l s ≡ of_one w j (One m) l s

    mutual
      one_by : (w : What) (n j : ℕ) (m : Side) (l : ℕ) (s : S) → over w n j m l s
      one_by (simple w) n j m l s = refl
      one_by (call i es d) n j m l s =
          ap (λ z. call_pass o (callee_of k.plan.program here i) (One m) es d l z s) (known i n j m)
      one_by (if_else e a b) n j m l s =
          tested_by (One m) e l (of_row a n (One m)) (λ s. apart o l (of_row a n) (of_row b n) s)
          (λ s. apart o l (of_row b n) (of_row a n) s) _
          (of_row a j (One m)) (λ s. apart o l (of_row a j) (of_row b j) s)
          (λ s. apart o l (of_row b j) (of_row a j) s) _ (ends []) s
          (row_by a n j m (all_by a n j m))
          (fun_ext (λ s. apart_by l (of_row a n) (of_row b n) (of_row a j) (of_row b j)
          (row_by a n j left (all_by a n j left)) (row_by b n j right (all_by b n j right)) s))
          (fun_ext (λ s. apart_by l (of_row b n) (of_row a n) (of_row b j) (of_row a j)
          (row_by b n j left (all_by b n j left)) (row_by a n j right (all_by a n j right)) s))
          (row_by b _ _ m (all_by b _ _ m))
      one_by (loop true e a b) n j m l s =
          ap leave_loop (rounds_by l e (turn_body a b n) (turn_body a b j) m
          (fun_ext (λ s. next_by (of_row a n (One m) s) (of_row a j (One m) s) _ _
          (ap (λ (z : S → Pass S). z s) (row_by a n j m (all_by a n j m))) (row_by b _ _ m (all_by b _ _ m))))
          k.plan.unroll s none)
      one_by (loop false e a b) n j m l s =
          ap leave_loop (entered_by l e (turn_body a b n) (turn_body a b j) m
          (fun_ext (λ s. next_by (of_row a n (One m) s) (of_row a j (One m) s) _ _
          (ap (λ (z : S → Pass S). z s) (row_by a n j m (all_by a n j m))) (row_by b _ _ m (all_by b _ _ m))))
          k.plan.unroll s)
      one_by break_loop n j m l s = refl
      one_by continue_loop n j m l s = refl
      one_by (by_order named a b) n j m l s =
          ap (λ (z : S → Pass S). z s)
          (arm_by (is_order (k.plan.order m) named) (of_row a n) (of_row b n) (of_row a j) (of_row b j) (One m)
          (row_by a n j m (all_by a n j m)) (row_by b n j m (all_by b n j m)))
      one_by (scope bs a) n j m l s =
          ap (λ (z : S → Pass S). scope_pass o (One m) bs (z (o.enter (One m) bs s))) (row_by a n j m (all_by a n j m))

      all_by : (ss : Stmts) (n j : ℕ) (m : Side) → of_all ss n (One m) ≡ of_all ss j (One m)
      all_by stop n j m = refl
      all_by (more l a rest) n j m = fun_ext (λ s. fun_ext (λ w.
          ap (λ z. then_pass o z w (of_all rest (past (heads k) n (of_one a n (One m) l s)) (One m)))
          (one_by a n j m l s)
          ∙ ap (then_pass o (of_one a j (One m) l s) w)
          (all_by rest (past (heads k) n (of_one a n (One m) l s)) (past (heads k) j (of_one a j (One m) l s)) m)))

  -- ---- the bodies of functions

  abbrev body_by_number : ℕ → ℕ → Mode → S → Pass S
  body_by_number f n =
      body_pass o k.plan.unroll (heads k) k.plan.order k.plan.program (slice_get k.plan.program.functions f) f
      (bodies k f) n

  body_at_number : (u : Option Function) (f : ℕ)
      (known : (i n j : ℕ) (m : Side) → bodies k f i n (One m) ≡ bodies k f i j (One m)) (n j : ℕ) (m : Side)
      → body_pass o k.plan.unroll (heads k) k.plan.order k.plan.program u f (bodies k f) n (One m)
      ≡ body_pass o k.plan.unroll (heads k) k.plan.order k.plan.program u f (bodies k f) j (One m)
  body_at_number None f known n j m = refl
  body_at_number (Some g) f known n j m =
      row_by f (bodies k f) known g.body n j m (all_by f (bodies k f) known g.body n j m)

  bodies_by : (f i n j : ℕ) (m : Side) → bodies k f i n (One m) ≡ bodies k f i j (One m)
  bodies_by zero i n j m = refl
  bodies_by (suc f) i n j m =
      arm_by (nat_eq i f) (body_by_number f n) (bodies k f i n) (body_by_number f j) (bodies k f i j) (One m)
      (body_at_number (slice_get k.plan.program.functions f) f (bodies_by f) n j m) (bodies_by f i n j m)

  -- ---- the pieces

  module _ (here : ℕ) where
    pub row_alone : (ss : Stmts) (n j : ℕ) (m : Side) → row k here ss n (One m) ≡ row k here ss j (One m)
    row_alone ss n j m = row_by here (bodies k here) (bodies_by here) ss n j m (all_by here (bodies k here)
        (bodies_by here) ss n j m)

    pub parted_alone : (l : ℕ) (a b : Stmts) (n : ℕ) (s : S)
        → apart o l (λ m s. row k here a n m s) (λ m s. row k here b n m s) s ≡ parted_arms k here l a b s
    parted_alone l a b n s =
        apart_by l (row k here a n) (row k here b n) (row k here a 0) (row k here b 0) (row_alone a n 0 left)
        (row_alone b n 0 right) s

    body_alone : (l : Loop) (n j : ℕ) (m : Side) → body_at k here l n (One m) ≡ body_at k here l j (One m)
    body_alone l n j m =
        fun_ext (λ s. next_by (row k here l.body n (One m) s) (row k here l.body j (One m) s) _ _
        (ap (λ (z : S → Pass S). z s) (row_alone l.body n j m)) (row_alone l.next _ _ m))

    pub rounds_alone : (l : Loop) (n i : ℕ) (m : Side) (j : ℕ)
        → one_rounds o k.plan.unroll l.line l.test (body_at k here l n) m j
        ≡ one_rounds o k.plan.unroll l.line l.test (body_at k here l i) m j
    rounds_alone l n i m j = fun_ext (λ s. fun_ext (λ w.
        rounds_by l.line l.test (body_at k here l n) (body_at k here l i) m (body_alone l n i m) j s w))

    pub entered_alone : (l : Loop) (n i : ℕ) (m : Side) (j : ℕ) (s : S)
        → entered_of k here l n m j s ≡ entered_of k here l i m j s
    entered_alone l n i m j s =
        entered_by l.line l.test (body_at k here l n) (body_at k here l i) m (body_alone l n i m) j s

    pub lone_alone : (l : Loop) (n : ℕ) (m : Side)
        → lone o k.plan.unroll l.line l.test (body_at k here l n) m
        ≡ lone o k.plan.unroll l.line l.test (body_at k here l 0) m
    lone_alone l n m = fun_ext (λ s. ap (comes_after l.line) (entered_alone l n 0 m k.plan.unroll s))

    -- ---- no head is taken

    row_bare : (ss : Stmts) (n : ℕ) (m : Side) (s : S) → (row k here ss n (One m) s).log.heads ≡ []
    row_bare ss n m s =
        all_bare o k.plan.unroll (heads k) k.plan.order k.plan.program here (bodies k here)
        (bodies_bare o k.plan.unroll (heads k) k.plan.order k.plan.program here) ss n (One m) tt s none

    none_both : (gs hs : List S) → gs ≡ [] → hs ≡ [] → gs ++ hs ≡ []
    none_both gs hs e d = ap (λ z. z ++ hs) e ∙ d

    none_first : (gs hs : List S) → gs ++ hs ≡ [] → gs ≡ []
    none_first [] hs e = refl
    none_first (g ∷ gs) hs e = absurd cc

    branch_bare : (u : Option S) (go : S → Pass S) → ((s : S) → (go s).log.heads ≡ []) → (branch u go).log.heads ≡ []
    branch_bare None go h = refl
    branch_bare (Some s) go h = h s

    parted_bare : (l : ℕ) (p : Pass S) (go : S → Pass S) → p.log.heads ≡ [] → ((s : S) → (go s).log.heads ≡ [])
        → (parted o l p go).log.heads ≡ []
    parted_bare l p go e h =
        let each = λ (u : Option S). none_both (branch u go).log.heads [] (branch_bare u go h) refl in
        let two = none_both ((branch p.on go).log.heads ++ []) ((branch p.ways.broken go).log.heads ++ []) (each p.on)
        (each p.ways.broken) in
        let three = none_both (((branch p.on go).log.heads ++ []) ++ ((branch p.ways.broken go).log.heads ++ []))
        ((branch p.ways.continued go).log.heads ++ []) two (each p.ways.continued) in
        none_both p.log.heads ((((branch p.on go).log.heads ++ []) ++ ((branch p.ways.broken go).log.heads ++ []))
        ++ ((branch p.ways.continued go).log.heads ++ []) ++ ((branch p.ways.returned go).log.heads ++ [])) e
        (none_both ((((branch p.on go).log.heads ++ []) ++ ((branch p.ways.broken go).log.heads ++ []))
        ++ ((branch p.ways.continued go).log.heads ++ [])) ((branch p.ways.returned go).log.heads ++ []) three
        (each p.ways.returned))

    -- the heads of what comes first are among those of the whole
    first_bare : (u : Option S) (w : Ways S) (g : Log S) (go : S → Ways S → Pass S)
        → (go_on o u w g go).log.heads ≡ [] → g.heads ≡ []
    first_bare None w g go e = e
    first_bare (Some s) w g go e = none_first g.heads (go s w).log.heads e

    entered_bare : (l : Loop) (n : ℕ) (m : Side) (s : S) → (entered_of k here l n m k.plan.unroll s).log.heads ≡ []
    entered_bare l n m s =
        let q = one k here (loop false l.test l.body l.next) n (One m) l.line s in
        first_bare q.on (join_ways o none q.ways) q.log (all k here stop (past (heads k) n q) (One m))
        (row_bare (more l.line (loop false l.test l.body l.next) stop) n m s)

    alone_bare : (l : Loop) (m : Mode) (i : Side) (s : S) → (alone_of k here l m i s).log.heads ≡ []
    alone_bare l Both i s = none_both (entered_of k here l 0 i k.plan.unroll s).log.heads [] (entered_bare l 0 i s) refl
    alone_bare l (One j) i s = refl

    parts_bare : (l : ℕ) (a b : Stmts) (s : S) → (parted_arms k here l a b s).log.heads ≡ []
    parts_bare l a b s = parted_bare l (row k here a 0 (One left) s) (row k here b 0 (One right)) (row_bare a 0 left s)
        (row_bare b 0 right)

    -- where the sides have different truths, no head is taken
    pub followed_bare : (fw : Followed) (n : ℕ) (m : Mode) (t : Bool) (u : Option S)
        → (branch u (followed k here fw n m t (not t))).log.heads ≡ []
    followed_bare fw n m t u = branch_bare u (followed k here fw n m t (not t)) (each fw t)
      where
        each : (fw : Followed) (t : Bool) (s : S) → (followed k here fw n m t (not t) s).log.heads ≡ []
        each (arms l a b) true s = parts_bare l a b s
        each (arms l a b) false s = parts_bare l b a s
        each (turns l) true s = alone_bare l m left s
        each (turns l) false s = alone_bare l m right s
        each (cut l) true s = refl
        each (cut l) false s = refl

    pub followed_alone : (fw : Followed) (n i : ℕ) (m : Mode) (t : Bool)
        → followed k here fw n m t (not t) ≡ followed k here fw i m t (not t)
    followed_alone (arms l a b) n i m true = fun_ext (λ s. refl)
    followed_alone (arms l a b) n i m false = fun_ext (λ s. refl)
    followed_alone (turns l) n i m true = fun_ext (λ s. refl)
    followed_alone (turns l) n i m false = fun_ext (λ s. refl)
    followed_alone (cut l) n i m true = fun_ext (λ s. refl)
    followed_alone (cut l) n i m false = fun_ext (λ s. refl)
