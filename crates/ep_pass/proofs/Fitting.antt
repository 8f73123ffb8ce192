-- Memories go on to be as the types of the program say.
use Rattle.std.proofs.Common.{◌≡◌, ℕ, List, [], ◌∷◌, refl, sym, subst, Option, Some, None, option_to_list, true}
use Rattle.std.proofs.Common.{false, slice_get}
use Rattle.std.specs.List.{list_all}
use Rattle.std.proofs.lemmas.Bool.{and_from}
use Rattle.ep_int.specs.declared.types.Order.{Order}
use Rattle.ep_int.specs.declared.types.Scalar.{Scalar}
use Rattle.ep_int.specs.Memory.{Memory, Value, int, null, pointer, Kind, Found, has, faults, loaded, stored}
use Rattle.ep_int.specs.Memory.{store_fault}
use Rattle.ep_core.specs.Program.{Expr, Dest, Simple, simple, Function, Program}
use Rattle.ep_core.specs.Exec.{State, on, Outcome, leaves, uncounted, given, unless, at_place, remembers, converted}
use Rattle.ep_core.specs.Exec.{without, Values, have, stops, first_and, given_all, first_of, frame_of, result_in}
use Rattle.ep_core.specs.Exec.{model, size_at, value, address, values, put_at, put_dest, does, bound, received}
use Rattle.ep_core.specs.WellFormed.{holds_scalar, result_type, arguments_fit, takes_result, simple_fits}
use Rattle.ep_core.specs.WellFormed.{is_well_formed}
use Rattle.ep_core.specs.Typed.{ValueFits, IfHas, StateFits, OutcomeFits, ArgumentsFit, ReceivedFits}
use Rattle.ep_core.proofs.Bytes.{stored_bytes, killed_bytes}
use Rattle.ep_core.proofs.Fitting.{leaves_keeps, exec_keeps}
use Rattle.ep_core.proofs.Operands.{Holds, call_operands, sizes, fits_at, holds_at}
use Rattle.ep_pass.specs.Laws.{passes}

module _ (p : Program) where
  pub without_fits : (bs : List ℕ) (s : State) → StateFits p s → StateFits p (without bs s)
  without_fits bs s h = record { memory = killed_bytes p bs s.memory h.memory; outputs = h.outputs }

  unless_fits : (k : Option Kind) (l : ℕ) (s : State) (x : Outcome) → StateFits p s → OutcomeFits p x
      → OutcomeFits p (unless k l s x)
  unless_fits None l s x h i = i
  unless_fits (Some k) l s x h i = h

  at_place_fits : (v : Value) (l : ℕ) (s : State) (go : ℕ → ℕ → Outcome) → StateFits p s
      → ((b q : ℕ) → OutcomeFits p (go b q)) → OutcomeFits p (at_place v l s go)
  at_place_fits (int v) l s go h i = h
  at_place_fits null l s go h i = h
  at_place_fits (pointer b q) l s go h i = i b q

  given_fits : (v : Found) (l : ℕ) (s : State) (go : Value → Outcome) (P : Value → Type 0) → StateFits p s → IfHas v P
      → ((v : Value) → P v → OutcomeFits p (go v)) → OutcomeFits p (given v l s go)
  given_fits (has v) l s go P h f i = i v f
  given_fits (faults k) l s go P h f i = h

  any_has : (v : Found) → IfHas v (λ w. Unit {0})
  any_has (has v) = tt
  any_has (faults k) = tt

  module _ (o : Order) where
    put_fits : (what : Scalar) (b q : ℕ) (v : Value) (l : ℕ) (s : State) (go : State → Outcome) → ValueFits p what v
        → StateFits p s → ((r : State) → StateFits p r → OutcomeFits p (go r))
        → OutcomeFits p (put_at o p what b q v l s go)
    put_fits what b q v l s go f h i =
        let m : Memory = stored o (model o p) s.memory what b q v in
        let r : StateFits p (remembers m s) = record {
          memory = stored_bytes p o (model o p) s.memory what b q v h.memory f;
          outputs = h.outputs;
        } in
        unless_fits (store_fault (model o p) (size_at o p b) what q) l s (go (remembers m s)) h (i (remembers m s) r)

    -- values, one for each parameter, that fit
    abbrev FitAll : List (ℕ × Scalar) → List Value → Type 0
    FitAll [] vs = Unit {0}
    FitAll (b ∷ params) [] = Unit {0}
    FitAll (b ∷ params) (v ∷ vs) = ValueFits p b.1 v × FitAll params vs

    abbrev IfHave : Values → (List Value → Type 0) → Type 0
    IfHave (have vs) P = P vs
    IfHave (stops k) P = Unit {0}

    first_have : (v : Found) (vs : Values) (b : ℕ × Scalar) (params : List (ℕ × Scalar)) → IfHas v (ValueFits p b.1)
        → IfHave vs (FitAll params) → IfHave (first_and v vs) (FitAll (b ∷ params))
    first_have (has v) (have vs) b params h i = (h, i)
    first_have (has v) (stops k) b params h i = tt
    first_have (faults k) vs b params h i = tt

    any_values : (vs : Values) → IfHave vs (FitAll [])
    any_values (have vs) = tt
    any_values (stops k) = tt

    values_have : (params : List (ℕ × Scalar)) (es : List Expr) (m : Memory) → ArgumentsFit o p m params es
        → IfHave (values o p es m) (FitAll params)
    values_have [] es m f = any_values (values o p es m)
    values_have (b ∷ params) [] m f = absurd f
    values_have (b ∷ params) (e ∷ es) m f =
        first_have (value o p e m) (values o p es m) b params f.0.1 (values_have params es m f.1)

    given_all_fits : (vs : Values) (l : ℕ) (s : State) (go : List Value → Outcome) (P : List Value → Type 0)
        → StateFits p s → IfHave vs P → ((vs : List Value) → P vs → OutcomeFits p (go vs))
        → OutcomeFits p (given_all vs l s go)
    given_all_fits (have vs) l s go P h i k = k vs i
    given_all_fits (stops x) l s go P h i k = h

    bound_fits : (params : List (ℕ × Scalar)) (vs : List Value) (l n : ℕ) (s : State) → FitAll params vs → StateFits p s
        → OutcomeFits p (bound o p params vs l s (leaves on n))
    bound_fits [] vs l n s f h = h
    bound_fits (b ∷ params) [] l n s f h = h
    bound_fits (b ∷ params) (v ∷ vs) l n s f h =
        put_fits b.1 b.0 0 v l s _ f.0 h (λ r k. bound_fits params vs l n r f.1 k)

    to_dest_fits : (d : Dest) (v : Value) (l n : ℕ) (s : State) → ValueFits p d.what (converted d.what v)
        → StateFits p s
        → OutcomeFits p (put_dest o p (Some d) v l n s)
    to_dest_fits d v l n s f h =
        given_fits (address o p d.place s.memory) l s _ (λ w. Unit {0}) h (any_has (address o p d.place s.memory))
        (λ w t. at_place_fits w l s _ h
        (λ b q. put_fits d.what b q (converted d.what v) l s (leaves on n) f h (leaves_keeps p on n)))

    received_fits : (r : Option (ℕ × Scalar)) (d : Option Dest) (l n : ℕ) (s : State)
        → ReceivedFits o p s.memory r d → StateFits p s → OutcomeFits p (received o p r d l n s)
    received_fits r None l n s f h = h
    received_fits None (Some d) l n s f h = absurd f
    received_fits (Some r) (Some d) l n s f h =
        given_fits (loaded o (model o p) (size_at o p r.0) s.memory r.1 r.0 0) l s _
        (λ v. ValueFits p r.1 v × ValueFits p d.what (converted d.what v)) h f.1
        (λ v k. to_dest_fits d v l n s k.1 h)

    module _ (formed : is_well_formed p ≡ true) where
      pub does_fits : (here : ℕ) (f : Function) → slice_get p.functions here ≡ Some f → (w : Simple) (seen : List ℕ)
          → simple_fits p here (result_type p.blocks f.result) w seen ≡ true → (l n : ℕ) (s : State) → StateFits p s
          → OutcomeFits p (does o p uncounted f.result w l n s)
      does_fits here f e w seen fits l n s h =
          subst
          (λ g. simple_fits p here (result_type p.blocks (result_in g)) w seen ≡ true
          → OutcomeFits p (does o p uncounted (result_in g) w l n s)) e
          (λ fits. exec_keeps p o formed uncounted here
          (subst (λ g. list_all (holds_scalar p.types p.blocks) (option_to_list (result_in g)) ≡ true) (sym e)
          (fits_at p formed here f e).1)
          (λ k. leaves on) (λ k. leaves_keeps p on) (simple w) l seen false fits n s h) fits

      same_holds : (k : ℕ) (f g : Function) → slice_get p.functions k ≡ Some f → Some f ≡ Some g → Holds p g
      same_holds k f g e d = let q : f ≡ g = cc in subst (Holds p) q (holds_at p formed k f e)

      pub passes_fit : (k : ℕ) (f : Function) → slice_get p.functions k ≡ Some f → (es : List Expr) (seen : List ℕ)
          → arguments_fit p.types p.blocks seen f.params es ≡ true → (l n : ℕ) (s : State) → StateFits p s
          → OutcomeFits p (passes o p f es l n s)
      passes_fit k f e es seen fits l n s h =
          let r : State = without (first_of (option_to_list f.result)) s in
          let i : StateFits p r = without_fits (first_of (option_to_list f.result)) s h in
          let t = call_operands o p (sizes p formed) r.memory i.memory seen 0 None (Some f) es None
          (λ g d. same_holds k f g e d)
          (and_from (arguments_fit p.types p.blocks seen f.params es) true fits refl) in
          given_all_fits (values o p es r.memory) l r _ (FitAll f.params) i (values_have f.params es r.memory t.0)
          (λ vs j. bound_fits f.params vs l n (without (frame_of f) r) j (without_fits (frame_of f) r i))

      bare_holds : (k : ℕ) (f g : Function) → slice_get p.functions k ≡ Some f → Some (record f { params = [] })
          ≡ Some g
          → Holds p g
      bare_holds k f g e d =
          let q : record f { params = [] } ≡ g = cc in
          subst (Holds p) q (record { params = refl; result = (holds_at p formed k f e).result })

      pub result_fits : (k : ℕ) (f : Function) → slice_get p.functions k ≡ Some f → (d : Option Dest) (seen : List ℕ)
          → takes_result p.types p.blocks seen (result_type p.blocks f.result) d ≡ true → (l n : ℕ) (s : State)
          → StateFits p s → OutcomeFits p (received o p f.result d l n s)
      result_fits k f e d seen fits l n s h =
          let t = call_operands o p (sizes p formed) s.memory h.memory seen 0 None (Some (record f { params = [] })) []
          d
          (λ g q. bare_holds k f g e q)
          (and_from true (takes_result p.types p.blocks seen (result_type p.blocks f.result) d) refl fits) in
          received_fits f.result d l n s t.1 h
