-- Assignments and inputs to variables.
use Rattle.std.proofs.Common.{◌≡◌, ℕ, ◌+◌, inl, inr, ℤ, pos, Bool, true, List, [], ◌∷◌, ◌++◌, map, refl, sym, ap, ◌∙◌}
use Rattle.std.proofs.Common.{Option, Some, None}
use Rattle.ep_int.specs.declared.types.IntType.{IntType}
use Rattle.ep_int.specs.declared.types.IntType.TheVariants.{I32}
use Rattle.ep_int.specs.declared.types.Order.{Order}
use Rattle.ep_int.specs.declared.types.Scalar.{Scalar}
use Rattle.ep_int.specs.declared.types.Scalar.TheVariants.{Int}
use Rattle.ep_int.specs.Types.{wrapped}
use Rattle.ep_int.specs.Memory.{int, stored}
use Rattle.ep_int.proofs.Wrapping.{wrapped_in_range}
use Rattle.ep_domain.specs.Domain.{Ops, Lawful}
use Rattle.ep_cells.specs.States.{Known}
use Rattle.ep_core.specs.Program.{Place, block, Expr, assign, input, Program}
use Rattle.ep_core.specs.Exec.{State, on, leaves, remembers, block_size, size_at, put_at, model, value}
use Rattle.ep_core.specs.Runs.{Side, left, right}
use Rattle.ep_core.specs.WellFormed.{holds_scalar, is_well_formed}
use Rattle.ep_equalities.specs.declared.pair.Mode.TheVariants as pair_mode
use Rattle.ep_evaluation.specs.Evaluation.{told}
use Rattle.ep_transfers.specs.Transfers.{input_pair, gives}
use Rattle.ep_straight_laws.specs.Laws.{MeetsKeepSingles}
use Rattle.ep_straight_laws.proofs.Runs.{AreOnes}
use Rattle.ep_straight_laws.proofs.Scalars.{integer_is}
use Rattle.ep_straight_laws.proofs.Loads.{Is, Comes, nothing as none_found, found, one_wrapped}
use Rattle.ep_straight_laws.proofs.Evaluates.{IsWhole, is_whole}
use Rattle.ep_straight_laws.proofs.Stores.{stores, then_known, next_is, quiet, variable_then, set_then}
use Rattle.ep_straight_laws.proofs.Judged.{V, passes, starves, parts}
use Rattle.ep_straight_laws.proofs.Statements.{Judges, by_plain, store_ok}

module _ {N : Type 0} (D : Ops N) (law : Lawful D) (meets : MeetsKeepSingles D) (p : Program)
    (formed : is_well_formed p ≡ true) (ord : Side → Order) (seen : List ℕ) (r : ℕ)
    (r_holds : holds_scalar p.types p.blocks (r, Int I32) ≡ true) (result : Option (ℕ × Scalar)) where
  put_is : (o : Order) (b : ℕ) (t : IntType) → holds_scalar p.types p.blocks (b, Int t) ≡ true → (z : ℤ) (l n : ℕ)
      (x : State)
      → put_at o p (Int t) b 0 (int z) l x (leaves on n)
      ≡ leaves on n (remembers (stored o (model o p) x.memory (Int t) b 0 (int z)) x)
  put_is o b t h z l n x =
      let i = integer_is p formed b t h in
      rw (store_ok (model o p) t (size_at o p b) (ap (block_size o p) i.here ∙ i.size_is)) refl

  pub judged_assign : (w : Scalar) (a : Place) (t : IntType) → IsWhole D law p formed seen ord w a t → (e : Expr)
      (l n m : ℕ) (k : Known N) (x y : State) → V D law p formed ord seen r k x y
      → Comes D t (gives D p e pair_mode.Both k) (value (ord left) p e x.memory) (value (ord right) p e y.memory)
      → Judges D law p formed ord seen r result (assign w a e) l n m k x y
  judged_assign _ _ _ (is_whole b t h named) e l n m k x y v (none_found i j ne f g) =
      by_plain D law p formed ord seen r result (assign (Int t)
      (block b) e) l n m k x y v.kept.stands.memories.state.model
      (parts (inl (rw f tt)))
  judged_assign _ _ _ (is_whole b t h named) e l n m k x y v (found a c z q same on_left on_right f g ranged i j) =
      let s = v.kept.stands.memories.state in
      let old = v.vars b t h named in
      let pr = (gives D p e pair_mode.Both k).pair in
      by_plain D law p formed ord seen r result (assign (Int t) (block b) e) l n m k x y s.model
      (passes
      (then_known D law meets p formed ord k s.cells s.model b t h x.memory y.memory old pr same a c z on_left on_right ranged i j)
      (remembers (stored (ord left) (model (ord left) p) x.memory (Int t) b 0 (int z)) x)
      (remembers (stored (ord right) (model (ord right) p) y.memory (Int t) b 0 (int z)) y)
      (ap (map (told D))
      (ap (λ fs. fs ++ (stores D law meets p formed ord k s.cells s.model b t h x.memory y.memory old pr same a c z on_left
      on_right ranged i j).faults) q
      ∙ quiet D law meets p formed ord k s.cells s.model b t h x.memory y.memory old pr same a c z on_left on_right ranged
      i j))
      (next_is D law meets p formed ord k s.cells s.model b t h x.memory y.memory old pr same a c z on_left on_right ranged
      i j)
      (rw f (put_is (ord left) b t h z l n x)) (rw g (put_is (ord right) b t h z l m y))
      (λ kept. record {
        kept = kept;
        ones = v.ones;
        vars = λ d u hd nd. variable_then D law meets p formed ord k s.cells s.model b t h x.memory y.memory old pr same a c z
            on_left on_right ranged i j d u hd (v.vars d u hd nd);
        result = set_then D law meets p formed ord k s.cells s.model b t h x.memory y.memory old pr same a c z on_left
            on_right ranged i j r I32 r_holds v.result;
      }))

  -- an input is 1
  input_is : (t u : IntType) (v : ℕ) → v ≡ 1 → Is D (D.convert (D.top t) u) (wrapped u (wrapped t (pos v)))
  input_is t u v e = record {
    held = law.convert_holds (D.top t) u (wrapped t (pos v))
        (law.top_holds t (wrapped t (pos v)) (wrapped_in_range t (pos v)));
    exact = inr (ap (λ i. wrapped u (wrapped t (pos i))) e ∙ ap (wrapped u) (one_wrapped D t) ∙ one_wrapped D u);
  }

  pub taken_none : (t : IntType) (l n m : ℕ) (k : Known N) (x y : State) → V D law p formed ord seen r k x y
      → (xs ys : List ℕ) → x.inputs ≡ xs → y.inputs ≡ ys → xs ≡ ys → AreOnes xs
      → Judges D law p formed ord seen r result (input t None) l n m k x y
  taken_none t l n m k x y v [] [] e f g one =
      by_plain D law p formed ord seen r result (input t None) l n m k x y v.kept.stands.memories.state.model
      (starves x y refl (rw e refl) (rw f refl) v.kept.stands.outputs)
  taken_none t l n m k x y v (i ∷ is) [] e f g one = absurd (cc)
  taken_none t l n m k x y v [] (j ∷ js) e f g one = absurd (cc)
  taken_none t l n m k x y v (i ∷ is) (j ∷ js) e f g one =
      by_plain D law p formed ord seen r result (input t None) l n m k x y v.kept.stands.memories.state.model
      (passes k (record x { inputs = is; used = x.used + 1 }) (record y { inputs = js; used = y.used + 1 }) refl refl
      (rw e refl) (rw f refl)
      (λ kept. record { kept = kept; ones = one.1; vars = v.vars; result = v.result }))

  pub taken_to : (w : Scalar) (cast : Bool) (a : Place) (u : IntType) → IsWhole D law p formed seen ord w a u →
      (t : IntType)
      (l n m : ℕ) (k : Known N) (x y : State) → V D law p formed ord seen r k x y
      → (xs ys : List ℕ) → x.inputs ≡ xs → y.inputs ≡ ys → xs ≡ ys → AreOnes xs
      → Judges D law p formed ord seen r result (input t (Some
      (record { what = w; cast = cast; place = a }))) l n m k x y
  taken_to w cast a u whole t l n m k x y v (i ∷ is) [] e f g one = absurd (cc)
  taken_to w cast a u whole t l n m k x y v [] (j ∷ js) e f g one = absurd (cc)
  taken_to _ cast _ _ (is_whole b u h named) t l n m k x y v [] [] e f g one =
      let s = v.kept.stands.memories.state in
      let old = v.vars b u h named in
      let z = wrapped u (wrapped t (pos 1)) in
      let ranged = wrapped_in_range u (wrapped t (pos 1)) in
      let i = input_is t u 1 refl in
      by_plain D law p formed ord seen r result (input t (Some
      (record { what = Int u; cast = cast; place = block b }))) l n m
      k x y s.model
      (starves x y
      (ap (map (told D))
      (quiet D law meets p formed ord k s.cells s.model b u h x.memory y.memory old (input_pair D pair_mode.Both t
      (Int u))
      refl (D.convert (D.top t) u) (D.convert (D.top t) u) z refl refl ranged i i))
      (rw e refl) (rw f refl) v.kept.stands.outputs)
  taken_to _ cast _ _ (is_whole b u h named) t l n m k x y v (c ∷ is) (d ∷ js) e f g one =
      let s = v.kept.stands.memories.state in
      let old = v.vars b u h named in
      let z = wrapped u (wrapped t (pos c)) in
      let ranged = wrapped_in_range u (wrapped t (pos c)) in
      let i = input_is t u c one.0 in
      let pr = input_pair D pair_mode.Both t (Int u) in
      let nu = D.convert (D.top t) u in
      let same : c ≡ d = cc in
      let x2 : State = record x { inputs = is; used = x.used + 1 } in
      let y2 : State = record y { inputs = js; used = y.used + 1 } in
      by_plain D law p formed ord seen r result (input t (Some
      (record { what = Int u; cast = cast; place = block b }))) l n m
      k x y s.model
      (passes
      (then_known D law meets p formed ord k s.cells s.model b u h x.memory y.memory old pr refl nu nu z refl refl ranged i i)
      (remembers (stored (ord left) (model (ord left) p) x.memory (Int u) b 0 (int z)) x2)
      (remembers (stored (ord right) (model (ord right) p) y.memory (Int u) b 0 (int z)) y2)
      (ap (map (told D))
      (quiet D law meets p formed ord k s.cells s.model b u h x.memory y.memory old pr refl nu nu z refl refl ranged i i))
      (next_is D law meets p formed ord k s.cells s.model b u h x.memory y.memory old pr refl nu nu z refl refl ranged i i)
      (rw e (put_is (ord left) b u h z l n x2))
      (rw f (put_is (ord right) b u h (wrapped u (wrapped t (pos d))) l m y2
      ∙ ap (λ q. leaves on m (remembers (stored (ord right) (model (ord right) p) y.memory (Int u) b 0
      (int (wrapped u (wrapped t (pos q))))) y2)) (sym same)))
      (λ kept. record {
        kept = kept;
        ones = one.1;
        vars = λ d u2 hd nd. variable_then D law meets p formed ord k s.cells s.model b u h x.memory y.memory old pr refl nu nu
            z refl refl ranged i i d u2 hd (v.vars d u2 hd nd);
        result = set_then D law meets p formed ord k s.cells s.model b u h x.memory y.memory old pr refl nu nu z refl refl
            ranged i i r I32 r_holds v.result;
      }))
