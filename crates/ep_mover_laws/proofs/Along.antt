-- What is known along a mover, and that each statement keeps it.
use Rattle.std.proofs.Common.{◌≡◌, ℕ, ◌+◌, ◌≤◌, true, List, [], length, replicate, slice_get, Option, Some, Result, Ok}
use Rattle.std.proofs.Common.{refl, sym, ◌∙◌, ap, subst, arith}
use Rattle.std.proofs.lemmas.List.{length-replicate}
use Rattle.ep_int.specs.declared.types.Order.{Order}
use Rattle.ep_int.specs.declared.types.Scalar.{Scalar}
use Rattle.ep_int.specs.Memory.{Memory}
use Rattle.ep_core.specs.Program.{Place, Expr, Simple, assign, simple, Function, Program}
use Rattle.ep_core.specs.Exec.{State, Way, on, Outcome, leaves, uncounted, frame_of, result_in, does as machine_does}
use Rattle.ep_core.specs.Runs.{Side, left, right, start}
use Rattle.ep_core.specs.WellFormed.{result_type, simple_fits, is_well_formed}
use Rattle.ep_pass.specs.States.{Both, One, Transfer, StateOps}
use Rattle.ep_pass.specs.Laws.{ConcretisesTyped, Lawful}
use Rattle.ep_pass.specs.Pass.{way_of}
use Rattle.ep_pass.proofs.Sure.{Reaches, Seen, Beside, Meets, meet_on, meet_none, MeetsAlone, meet_one}
use Rattle.ep_pass.proofs.Keeping.{sure, start_in}
use Rattle.ep_movers.specs.declared.Stop.{Stop}
use Rattle.ep_movers.specs.Movers.{Machine, first_machine, does}
use Rattle.ep_movers.specs.Forms.{is_moved_assignment, is_moving_simple}
use Rattle.ep_mover_runs.specs.Following.{Follows, LeftAs, Comes as ComesAs, taken_by_simple, put_out_by_simple}
use Rattle.ep_mover_runs.proofs.Mains.{IsMover}
use Rattle.ep_mover_runs.proofs.Steps.{what_does}
use Rattle.ep_mover_runs.proofs.Starts.{start_follows}
use Rattle.ep_mover_laws.specs.Moving.{GoesOnWith, beside, first_machines, StandsWith, KnownOf, KeepsMoved}
use Rattle.ep_mover_laws.proofs.Sides.{with_side, own_side, other_side, each_with, both_with, assigned_so}

-- ---- where machines go on, a state is reached that stands for them

module _ {S : Type 0} (K : S → State → State → Type 0) where
  met_at : (k : Way) (u : Option S) (t : S) → u ≡ Some t → (n m : ℕ) (c d : Outcome) (a b : State) → Meets K k u n m c d
      → c ≡ leaves on n a → d ≡ leaves on m b → K t a b
  met_at k u t e n m c d a b (meet_on {x} {y} i) q r =
      let one : x ≡ a = cc in
      let two : y ≡ b = cc in
      subst (λ z. K t z b) one (subst (λ z. K t x z) two (subst (λ v. Reaches K v x y) e i))
  met_at k u t e n m c d a b (meet_none i) q r = absurd cc

  beside_at : (i : Side) (u : Option S) (t : S) → u ≡ Some t → (a b : State) → Beside K i u a b → Seen K i t a b
  beside_at left u t e a b h = subst (λ v. Reaches K v a b) e h
  beside_at right u t e a b h = subst (λ v. Reaches K v b a) e h

  met_alone_at : (i : Side) (k : Way) (u : Option S) (t : S) → u ≡ Some t → (n : ℕ) (b : State) (c : Outcome) (a : State)
      → MeetsAlone K i k u n b c → c ≡ leaves on n a → Seen K i t a b
  met_alone_at i k u t e n b c a (meet_one {x} h) q =
      let one : x ≡ a = cc in
      subst (λ z. Seen K i t z b) one (beside_at i u t e x b h)

  seen_from : (i : Side) (s : S) (xs : Side → State) → K s (xs left) (xs right) → Seen K i s (xs i) (xs (beside i))
  seen_from left s xs h = h
  seen_from right s xs h = h

  seen_back : (i : Side) (s : S) (x : State) (xs : Side → State) → Seen K i s x (xs (beside i))
      → K s (with_side i x xs left) (with_side i x xs right)
  seen_back left s x xs h = h
  seen_back right s x xs h = h

module _ (p : Program) (formed : is_well_formed p ≡ true) (g : IsMover p) (ord : Side → Order) {S : Type 0}
    (o : StateOps S) (Concretises : S → Memory → Memory → Type 0) (law : Lawful p ord o Concretises)
    (Moved : (Side → Machine) → S → Type 0) (keeps : KeepsMoved p ord o Concretises Moved) where
  abbrev K : S → State → State → Type 0
  K = ConcretisesTyped p Concretises

  abbrev pub fits : Simple → Type 0
  fits w = simple_fits p p.main (result_type p.blocks g.main.result) w (frame_of g.main) ≡ true

  abbrev pub Along : (Side → Machine) → S → Type 0
  Along ms s = KnownOf p ord Concretises Moved ms s

  -- ---- what a statement does on a machine

  follows_on : (i : Side) (w : Simple) → is_moving_simple p w ≡ true → fits w → (inputs : List ℕ) (x : State)
      (m k : Machine) → Follows (ord i) p inputs x m → m.inputs + taken_by_simple w ≤ length inputs
      → does (ord i) w m ≡ Ok k
      → LeftAs (ord i) p inputs 0 (taken_by_simple w) (put_out_by_simple w) m k
      (machine_does (ord i) p uncounted g.main.result w 0 0 x)
  follows_on i w h fit inputs x m k f enough e =
      let step = what_does p formed g (ord i) inputs p.main (result_type p.blocks g.main.result) (λ j n s. leaves on n s)
      0 (simple w) 0 h fit x m f in
      subst (λ (r : Option (ℕ × Scalar)). LeftAs (ord i) p inputs 0 (taken_by_simple w) (put_out_by_simple w) m k
      (machine_does (ord i) p uncounted r w 0 0 x)) (ap result_in g.at)
      (subst (λ (r : Result Machine Stop). ComesAs (ord i) p inputs 0 (taken_by_simple w) (put_out_by_simple w) m r
      (machine_does (ord i) p uncounted (result_in (slice_get p.functions p.main)) w 0 0 x)) e (step.enough enough))

  -- both machines have taken as many inputs
  as_many : (i : Side) (ms : Side → Machine) → (ms left).inputs ≡ (ms right).inputs → (ms i).inputs ≡ (ms left).inputs
  as_many left ms e = refl
  as_many right ms e = sym e

  -- how many inputs it takes, and how many numbers it puts out
  pub counts : (i : Side) (w : Simple) → is_moving_simple p w ≡ true → fits w → (ms : Side → Machine) (s : S)
      (k : Machine) → Along ms s → does (ord i) w (ms i) ≡ Ok k
      → (k.inputs ≡ (ms i).inputs + taken_by_simple w)
      × (length k.outputs ≡ length (ms i).outputs + put_out_by_simple w)
  counts i w h fit ms s k a e =
      let zeros : List ℕ = replicate ((ms i).inputs + taken_by_simple w) 0 in
      let long = length-replicate {A = ℕ} ((ms i).inputs + taken_by_simple w) 0 in
      let so = as_many i ms a.counts in
      let st = a.stands zeros (omega (arith, long, so)) in
      let l = follows_on i w h fit zeros (st.machine i) (ms i) k (st.follows i) (omega (arith, long)) e in
      (l.taken, l.put)

  -- ---- both machines

  module _ (w : Simple) (h : is_moving_simple p w ≡ true) (fit : fits w) (ms ns : Side → Machine) (s : S)
      (a : Along ms s) (e : (i : Side) → does (ord i) w (ms i) ≡ Ok (ns i)) where
    both_stand : (t : S) → o.simple Both g.main.result w s ≡ record { faults = []; next = Some t }
        → (inputs : List ℕ) → (ns left).inputs ≤ length inputs → StandsWith p ord Concretises inputs ns t
    both_stand t is inputs enough =
        let c = (counts left w h fit ms s (ns left) a (e left)).0 in
        let st = a.stands inputs (omega (arith, enough, c)) in
        let left_as : (i : Side) → LeftAs (ord i) p inputs 0 (taken_by_simple w) (put_out_by_simple w) (ms i) (ns i)
        (machine_does (ord i) p uncounted g.main.result w 0 0 (st.machine i))
        = λ i. follows_on i w h fit inputs (st.machine i) (ms i) (ns i) (st.follows i)
        (let so = as_many i ms a.counts in omega (arith, enough, c, so)) (e i) in
        record {
          machine = λ i. (left_as i).state;
          follows = λ i. (left_as i).follows;
          stands = met_at K (way_of w) (o.simple Both g.main.result w s).next t (ap (λ (q : Transfer S). q.next) is) 0 0
              (machine_does (ord left) p uncounted g.main.result w 0 0 (st.machine left))
              (machine_does (ord right) p uncounted g.main.result w 0 0 (st.machine right))
              (left_as left).state (left_as right).state
              ((sure p formed ord o Concretises law).simple_sound p.main g.main g.at w (frame_of g.main) fit 0 0 0 s
              (st.machine left) (st.machine right) st.stands (ap (λ (q : Transfer S). q.faults) is))
              (left_as left).is (left_as right).is;
        }

    pub both_step : (ns left).outputs ≡ (ns right).outputs
        → GoesOnWith (Along ns) (o.simple Both g.main.result w s)
    both_step same =
        let go = keeps.both g.main g.at w h fit ms ns s a e same in
        record {
          state = go.state;
          is = go.is;
          holds = record {
            moved = go.holds;
            outputs = same;
            counts = (counts left w h fit ms s (ns left) a (e left)).0
                ∙ ap (λ n. n + taken_by_simple w) a.counts
                ∙ sym (counts right w h fit ms s (ns right) a (e right)).0;
            stands = both_stand go.state go.is;
          };
        }

  -- ---- one machine

  module _ (i : Side) (what : Scalar) (a : Place) (e : Expr) (h : is_moved_assignment what a e ≡ true)
      (fit : fits (assign what a e)) (ms : Side → Machine) (k : Machine) (s : S) (along : Along ms s)
      (r : does (ord i) (assign what a e) (ms i) ≡ Ok k) where
    abbrev ns : Side → Machine
    ns = with_side i k ms

    put_out_alike : (j : Side) → (ns j).outputs ≡ (ms j).outputs
    put_out_alike =
        each_with (λ j (m : Machine). m.outputs ≡ (ms j).outputs) i k ms (assigned_so (ord i) what a e (ms i) k r).1
        (λ j. refl)

    took_alike : (j : Side) → (ns j).inputs ≡ (ms j).inputs
    took_alike =
        each_with (λ j (m : Machine). m.inputs ≡ (ms j).inputs) i k ms (assigned_so (ord i) what a e (ms i) k r).0
        (λ j. refl)

    alone_stand : (t : S) → o.simple (One i) g.main.result (assign what a e) s ≡ record { faults = []; next = Some t }
        → (inputs : List ℕ) → (ns left).inputs ≤ length inputs → StandsWith p ord Concretises inputs ns t
    alone_stand t is inputs enough =
        let took = took_alike left in
        let so = as_many i ms along.counts in
        let st = along.stands inputs (omega (arith, enough, took)) in
        let l = follows_on i (assign what a e) h fit inputs (st.machine i) (ms i) k (st.follows i)
        (omega (arith, enough, took, so)) r in
        record {
          machine = with_side i l.state st.machine;
          follows = both_with (λ j x m. Follows (ord j) p inputs x m) i l.state k st.machine ms l.follows st.follows;
          stands = seen_back K i t l.state st.machine
              (met_alone_at K i (way_of (assign what a e)) (o.simple (One i) g.main.result (assign what a e) s).next t
              (ap (λ (q : Transfer S). q.next) is) 0 (st.machine (beside i))
              (machine_does (ord i) p uncounted g.main.result (assign what a e) 0 0 (st.machine i)) l.state
              ((sure p formed ord o Concretises law).simple_alone i p.main g.main g.at (assign what a e)
              (frame_of g.main) fit 0 0 s (st.machine i) (st.machine (beside i)) (seen_from K i s st.machine st.stands)
              (ap (λ (q : Transfer S). q.faults) is)) l.is);
        }

    pub alone_step : GoesOnWith (Along ns) (o.simple (One i) g.main.result (assign what a e) s)
    alone_step =
        let go = keeps.alone g.main g.at i what a e h fit ms ns s along
        (r ∙ ap Ok (sym (own_side i k ms))) (other_side i k ms) in
        record {
          state = go.state;
          is = go.is;
          holds = record {
            moved = go.holds;
            outputs = put_out_alike left ∙ along.outputs ∙ sym (put_out_alike right);
            counts = took_alike left ∙ along.counts ∙ sym (took_alike right);
            stands = alone_stand go.state go.is;
          };
        }

  -- ---- where main begins

  pub begun : Along (first_machines p ord g.main) o.entry
  begun = record {
    moved = keeps.entry g.main g.at;
    outputs = refl;
    counts = refl;
    stands = λ inputs enough. record {
      machine = λ i. start (ord i) p inputs;
      follows = λ i. subst (λ (f : Option Function). Follows (ord i) p inputs (start (ord i) p inputs)
          (first_machine (ord i) p (result_in f))) g.at (start_follows (ord i) p inputs formed);
      stands = start_in p formed ord o Concretises law inputs;
    };
  }
