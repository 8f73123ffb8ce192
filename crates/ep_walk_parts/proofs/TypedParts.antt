-- The parts of typed statements are typed.
use Rattle.std.proofs.Common.{◌≡◌, ℕ, zero, suc, ◌<◌, Bool, true, false, ◌&&◌, List, [], ◌∷◌, ◌++◌, length, get_or}
use Rattle.std.proofs.Common.{map, slice_get, refl, sym, ap, ◌∙◌, subst, arith, Option, Some, None, nat_lt}
use Rattle.std.proofs.Common.{if◌then◌else◌}
use Rattle.std.specs.Option.{option_map}
use Rattle.std.specs.declared.alloc.Global.{Global}
use Rattle.std.specs.declared.vec.Vec.{Vec}
use Rattle.std.proofs.lemmas.Bool.{and_parts}
use Rattle.std.proofs.lemmas.Bool.Decides.{nat_tests}
use Rattle.ep_int.specs.declared.types.Order.{Order}
use Rattle.ep_core.specs.declared.program.CoreProgram.{CoreProgram}
use Rattle.ep_core.specs.declared.program.Function as function
use Rattle.ep_core.specs.declared.tree.Dest.{Dest as dest}
use Rattle.ep_core.specs.declared.tree.Expr.{Expr}
use Rattle.ep_core.specs.declared.tree.Stmt.{Stmt}
use Rattle.ep_core.specs.declared.tree.What as tree
use Rattle.ep_core.specs.declared.tree.What.TheVariants.{Call, If, Loop, ByOrder, Scope}
use Rattle.ep_core.specs.Exec.{callee_of, frame_of}
use Rattle.ep_core.specs.Program as plain
use Rattle.ep_core.specs.Program.{What, call, if_else, loop, by_order, scope, Stmts, Dest, Function, Program}
use Rattle.ep_core.specs.ProgramView.{program_view}
use Rattle.ep_core.specs.View.{dest_view, expr_view, what_view, stmts_view, function_view}
use Rattle.ep_core.specs.WellFormed.{result_type, is_tested, are_plain, arguments_fit, takes_result, call_fits}
use Rattle.ep_core.specs.WellFormed.{what_fits, stmts_fit}
use Rattle.ep_core.proofs.Operands.{fits_at}
use Rattle.ep_core.proofs.Views.{if_is, loop_is, by_order_is, scope_is}
use Rattle.ep_flows.specs.Typed.{IsTypedTest, IsFunction, AreArguments, TakesResult}
use Rattle.ep_walk_parts.specs.Typed.{IsTyped, AreTyped, LoopIsTyped}

module _ (p : Program) (here : ℕ) where
  as_typed : (v w : What) → v ≡ w → IsTyped p here v → IsTyped p here w
  as_typed v w e h = subst (IsTyped p here) e h

  as_list : (ss ts : List Stmt) → ss ≡ ts → AreTyped p here (stmts_view ts) → AreTyped p here (stmts_view ss)
  as_list ss ts e h = subst (λ l. AreTyped p here (stmts_view l)) (sym e) h

  abbrev fit : Function → What → List ℕ → Bool → Bool
  fit f w seen i = what_fits p here (result_type p.blocks f.result) w seen i

  abbrev fit_all : Function → Stmts → List ℕ → Bool → Bool
  fit_all f a seen i = stmts_fit p here (result_type p.blocks f.result) a seen i

  -- ---- an `if`

  pub record IfIsTyped (e : plain.Expr) (a b : Stmts) : Type 0 where
    pub test : IsTypedTest p e
    pub yes : AreTyped p here a
    pub other : AreTyped p here b

  if_parts : (e : plain.Expr) (a b : Stmts) → IsTyped p here (if_else e a b) → IfIsTyped e a b
  if_parts e a b t =
      let f = t.function in
      let k = and_parts (is_tested p.types p.blocks t.seen e && fit_all f a t.seen t.in_loop)
      (fit_all f b t.seen t.in_loop) t.fits in
      let m = and_parts (is_tested p.types p.blocks t.seen e) (fit_all f a t.seen t.in_loop) k.0 in
      record {
        test = record { seen = t.seen; fits = m.0 };
        yes = record { function = f; is_there = t.is_there; seen = t.seen; in_loop = t.in_loop; fits = m.1 };
        other = record { function = f; is_there = t.is_there; seen = t.seen; in_loop = t.in_loop; fits = k.1 };
      }

  pub if_typed : (w : tree.What) (e : Expr) (a b : Vec Stmt Global) (sa sb : List Stmt) → w ≡ If e a b → sa ≡ a.items
      → sb ≡ b.items → IsTyped p here (what_view w)
      → IfIsTyped (expr_view e) (stmts_view sa) (stmts_view sb)
  if_typed w e a b sa sb h d g t =
      let i = if_parts (expr_view e) (stmts_view a.items) (stmts_view b.items) (as_typed (what_view w) (if_else
      (expr_view e) (stmts_view a.items) (stmts_view b.items)) (ap what_view h ∙ if_is e a b) t) in
      record { test = i.test; yes = as_list sa a.items d i.yes; other = as_list sb b.items g i.other }

  -- ---- a loop

  loop_parts : (first : Bool) (l : ℕ) (e : plain.Expr) (a b : Stmts) → IsTyped p here (loop first e a b)
      → LoopIsTyped p here (record { line = l; test = e; body = a; next = b })
  loop_parts first l e a b t =
      let f = t.function in
      let k = and_parts (is_tested p.types p.blocks t.seen e && fit_all f a t.seen true)
      (are_plain b && fit_all f b t.seen t.in_loop) t.fits in
      let m = and_parts (is_tested p.types p.blocks t.seen e) (fit_all f a t.seen true) k.0 in
      record {
        test = record { seen = t.seen; fits = m.0 };
        body = record { function = f; is_there = t.is_there; seen = t.seen; in_loop = true; fits = m.1 };
        next = record {
          function = f;
          is_there = t.is_there;
          seen = t.seen;
          in_loop = t.in_loop;
          fits = (and_parts
              (are_plain b) (fit_all f b t.seen t.in_loop) k.1).1;
        };
      }

  pub loop_typed : (w : tree.What) (first : Bool) (l : ℕ) (e : Expr) (a b : Vec Stmt Global) (sa sb : List Stmt)
      → w ≡ Loop first e a b → sa ≡ a.items → sb ≡ b.items → IsTyped p here (what_view w)
      → LoopIsTyped p here (record { line = l; test = expr_view e; body = stmts_view sa; next = stmts_view sb })
  loop_typed w first l e a b sa sb h d g t =
      let i = loop_parts first l (expr_view e) (stmts_view a.items) (stmts_view b.items) (as_typed (what_view w)
      (loop first (expr_view e) (stmts_view a.items) (stmts_view b.items)) (ap what_view h
      ∙ loop_is first e a b) t) in
      record { test = i.test; body = as_list sa a.items d i.body; next = as_list sb b.items g i.next }

  -- ---- arms by byte order

  order_parts : (o : Order) (a b : Stmts) → IsTyped p here (by_order o a b) → AreTyped p here a × AreTyped p here b
  order_parts o a b t =
      let f = t.function in
      let k = and_parts (fit_all f a t.seen t.in_loop) (fit_all f b t.seen t.in_loop) t.fits in (
        record { function = f; is_there = t.is_there; seen = t.seen; in_loop = t.in_loop; fits = k.0 },
        record {
          function = f;
          is_there = t.is_there;
          seen = t.seen;
          in_loop = t.in_loop;
          fits = k.1;
        },
      )

  pub order_typed : (w : tree.What) (o : Order) (a b : Vec Stmt Global) (sa sb : List Stmt) → w ≡ ByOrder o a b
      → sa ≡ a.items → sb ≡ b.items → IsTyped p here (what_view w)
      → AreTyped p here (stmts_view sa) × AreTyped p here (stmts_view sb)
  order_typed w o a b sa sb h d g t =
      let i = order_parts o (stmts_view a.items) (stmts_view b.items) (as_typed (what_view w) (by_order o
      (stmts_view a.items) (stmts_view b.items)) (ap what_view h ∙ by_order_is o a b) t) in
      (as_list sa a.items d i.0, as_list sb b.items g i.1)

  pub arm_typed : (b : Bool) (sa sb x : List Stmt) → x ≡ (if b then sa else sb) → AreTyped p here (stmts_view sa)
      → AreTyped p here (stmts_view sb) → AreTyped p here (stmts_view x)
  arm_typed true sa sb x e a b = as_list x sa e a
  arm_typed false sa sb x e a b = as_list x sb e b

  -- ---- a scope

  pub scope_typed : (w : tree.What) (bs : Vec ℕ Global) (a : Vec Stmt Global) (ss : List Stmt) → w ≡ Scope bs a
      → ss ≡ a.items → IsTyped p here (what_view w) → AreTyped p here (stmts_view ss)
  scope_typed w bs a ss h d t =
      let i = as_typed (what_view w) (scope bs.items (stmts_view a.items)) (ap what_view h ∙ scope_is bs a) t in
      as_list ss a.items d (record {
        function = i.function;
        is_there = i.is_there;
        seen = bs.items ++ i.seen;
        in_loop = i.in_loop;
        fits = i.fits;
      })

  -- ---- one statement of a row

  fits_in : (r : Option ℕ) (ss : List Stmt) (seen : List ℕ) (inner : Bool)
      → stmts_fit p here r (stmts_view ss) seen inner ≡ true → (k : ℕ) (d : Stmt) → k < length ss
      → what_fits p here r (what_view (get_or ss k d).what) seen inner ≡ true
  fits_in r [] seen inner h k d lt = absurd (omega arith)
  fits_in r (s ∷ ss) seen inner h zero d lt = (and_parts _ _ h).0
  fits_in r (s ∷ ss) seen inner h (suc k) d lt = fits_in r ss seen inner (and_parts _ _ h).1 k d (omega arith)

  pub item_typed : (ss : List Stmt) (k : ℕ) (s : Stmt) → k < length ss → s ≡ get_or ss k s
      → AreTyped p here (stmts_view ss) → IsTyped p here (what_view s.what)
  item_typed ss k s lt e t =
      subst (λ (x : Stmt). IsTyped p here (what_view x.what)) (sym e)
      (record {
        function = t.function;
        is_there = t.is_there;
        seen = t.seen;
        in_loop = t.in_loop;
        fits = fits_in
            (result_type p.blocks t.function.result) ss t.seen t.in_loop t.fits k s lt;
      })

  -- ---- a call

  pub stmt_typed : (w : tree.What) (k : ℕ) (es : Vec Expr Global) (d : Option dest) (ee : List Expr) → w ≡ Call k es d
      → ee ≡ es.items → IsTyped p here (what_view w) → IsTyped p here (call k (map expr_view ee)
      (option_map dest_view d))
  stmt_typed w k es d ee h g t =
      subst (λ z. IsTyped p here (call k (map expr_view z) (option_map dest_view d))) (sym g) (as_typed
      (what_view w) (call k (map expr_view es.items) (option_map dest_view d)) (ap what_view h) t)

  callee_there : (b : Bool) (v : Option Function) (f : Function) → (if b then v else None) ≡ Some f → v ≡ Some f
  callee_there true v f e = e
  callee_there false v f e = absurd cc

  pub record CallIsTyped (f : Function) (es : List plain.Expr) (d : Option Dest) : Type 0 where
    pub arguments : AreArguments p f es
    pub result : TakesResult p f d

  pub call_typed : (k : ℕ) (es : List plain.Expr) (d : Option Dest) (f : Function) → callee_of p here k ≡ Some f
      → IsTyped p here (call k es d) → CallIsTyped f es d
  call_typed k es d f e t =
      let r = result_type p.blocks t.function.result in
      let h : call_fits p here r (Some f) es d t.seen ≡ true = subst (λ z. call_fits p here r z es d t.seen ≡ true) e
      t.fits in
      let i = and_parts (arguments_fit p.types p.blocks t.seen f.params es) (takes_result p.types p.blocks t.seen
      (result_type p.blocks f.result) d) h in
      let g : IsFunction p f = record {
        number = k;
        is_there = callee_there (nat_lt k here)
            (slice_get p.functions k) f e;
      } in
      record {
        arguments = record { function = g; seen = t.seen; fits = i.0 };
        result = record { function = g; seen = t.seen; fits = i.1 };
      }

-- ---- functions

shown_at : (fs : List function.Function) (k : ℕ) (f : function.Function) → slice_get fs k ≡ Some f
    → slice_get (map function_view fs) k ≡ Some (function_view f)
shown_at [] k f e = absurd cc
shown_at (g ∷ fs) zero f e = let d : g ≡ f = cc in ap (λ z. Some (function_view z)) d
shown_at (g ∷ fs) (suc k) f e = shown_at fs k f e

not_there : (fs : List function.Function) (k : ℕ) → slice_get fs k ≡ None → slice_get (map function_view fs) k ≡ None
not_there [] k e = refl
not_there (g ∷ fs) zero e = absurd cc
not_there (g ∷ fs) (suc k) e = not_there fs k e

module _ (c : CoreProgram) (k : ℕ) where
  pub is_at : (f : function.Function) → slice_get c.functions.items k ≡ Some f
      → slice_get (program_view c).functions k ≡ Some (function_view f)
  is_at f e = shown_at c.functions.items k f e

  pub is_none : slice_get c.functions.items k ≡ None → slice_get (program_view c).functions k ≡ None
  is_none e = not_there c.functions.items k e

  pub function_typed : (f : function.Function) (ss : List Stmt) → slice_get c.functions.items k ≡ Some f
      → ss ≡ f.body.items → AreTyped (program_view c) k (stmts_view ss)
  function_typed f ss e d =
      let at = is_at f e in
      subst (λ l. AreTyped (program_view c) k (stmts_view l)) (sym d)
      (record {
        function = function_view f;
        is_there = at;
        seen = frame_of (function_view f);
        in_loop = false;
        fits = (fits_at (program_view c) c.well_formed k (function_view f) at).2;
      })

  -- a function that is called
  pub callee_is : (here : ℕ) (f : function.Function)
      → (if nat_lt k here then slice_get c.functions.items k else None) ≡ Some f → callee_of (program_view c) here k ≡ Some
      (function_view f)
  callee_is here f e = by_test (nat_lt k here) e
    where
      by_test : (b : Bool) → (if b then slice_get c.functions.items k else None) ≡ Some f
          → (if b then slice_get (program_view c).functions k else None) ≡ Some (function_view f)
      by_test true e = shown_at c.functions.items k f e
      by_test false e = absurd cc

  pub callee_none : (here : ℕ) → (if nat_lt k here then slice_get c.functions.items k else None) ≡ None
      → callee_of (program_view c) here k ≡ None
  callee_none here e = by_test (nat_lt k here) e
    where
      by_test : (b : Bool) → (if b then slice_get c.functions.items k else None) ≡ None
          → (if b then slice_get (program_view c).functions k else None) ≡ None
      by_test true e = not_there c.functions.items k e
      by_test false e = refl

  pub callee_less : (here : ℕ) (f : function.Function)
      → (if nat_lt k here then slice_get c.functions.items k else None) ≡ Some f → k < here
  callee_less here f e = by_test (nat_lt k here) refl e
    where
      less : nat_lt k here ≡ true → k < here
      less e = grind (arith, nat_tests)

      by_test : (b : Bool) → nat_lt k here ≡ b → (if b then slice_get c.functions.items k else None) ≡ Some f → k < here
      by_test true d e = less d
      by_test false d e = absurd cc
