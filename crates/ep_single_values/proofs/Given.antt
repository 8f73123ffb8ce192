-- What operators give of operands that have one value each.
use Rattle.std.proofs.Common.{◌≡◌, true, ◌&&◌, List, []}
use Rattle.ep_int.specs.declared.types.Order.{Order}
use Rattle.ep_int.specs.declared.types.Scalar.{Scalar}
use Rattle.ep_int.specs.Memory.{Memory, Value as Datum, Found, has}
use Rattle.ep_domain.specs.Domain.{Ops}
use Rattle.ep_cells.specs.States.{Known}
use Rattle.ep_cells.specs.Meaning.{Memories}
use Rattle.ep_core.specs.Program.{Program}
use Rattle.ep_core.specs.Runs.{Side}
use Rattle.ep_core.specs.Typed.{ValueFits}
use Rattle.ep_equalities.specs.declared.pair.Mode.{Mode}
use Rattle.ep_equalities.specs.declared.pair.Fault.{Fault}
use Rattle.ep_equalities.specs.declared.pair.SideValue.{SideValue}
use Rattle.ep_evaluation.specs.Given.{Given, runs, on}
use Rattle.ep_evaluation.specs.Evaluation.{same, by_one, by_two}
use Rattle.ep_evaluation.specs.Laws.{memory_of, Machine, IsKept, Holds}
use Rattle.ep_evaluation.proofs.General.{reliable_none}
use Rattle.ep_evaluation.proofs.Generic.{Typed, Parts, Part}
use Rattle.ep_singles.specs.Cells.{IsOneValue}
use Rattle.ep_single_narrowed.specs.Laws.{IsKeptOne}
use Rattle.ep_single_sides.specs.Laws.{IsOneAs}
use Rattle.ep_single_given.specs.Laws.{FindAll, IsOneGiven, GivesOne}
use Rattle.ep_single_given.proofs.Given.{given_one}

module _ {N : Type 0} (D : Ops N) (p : Program) (ord : Side → Order) where
  -- An operand of a type: what machines find is of the type, evaluation holds of it, and gives one value.
  pub record OneGives (w : Scalar) (f : Side → Machine) (x : Mode → Known N → Given N) : Type 0 where
    pub typed : Typed p w f
    pub holds : (k : Known N) (m : Memories) → IsKept D p ord k m → (mode : Mode)
        → Holds D p ord w (λ s. f s (memory_of s m)) k m mode (x mode k)
    pub one : GivesOne D p ord f x

  -- its value is the machine's
  pub one_at : (w : Scalar) (f : Side → Machine) (x : Mode → Known N → Given N) → OneGives w f x → (k : Known N)
      (m : Memories) → IsKeptOne D p ord k m → (mode : Mode) → IsOneGiven D mode (x mode k) → (c : Side)
      → runs mode c ≡ true → (v : Datum) → f c (memory_of c m) ≡ has v → IsOneAs D w (on (x mode k).pair c) v
  one_at w f x o k m s mode i c r v e = record {
    one = i.each c r;
    allowed = ((o.holds k m s.kept mode).held (reliable_none mode (x mode k).faults i.quiet) c r v e).value;
  }

  -- ---- two operands: nothing is wrong, and the result can be one alone

  module _ (a b : Scalar) (go : Datum → Datum → Found) (g : SideValue N → SideValue N → SideValue N)
      (Quiet : SideValue N → SideValue N → Type 0)
      (two : (x y : SideValue N) (u v z : Datum) → ValueFits p a u → IsOneAs D a x u → IsOneAs D b y v
      → go u v ≡ has z → Quiet x y × IsOneValue D (g x y).value)
      (f h both : Side → Machine)
      (parts : (s : Side) (m : Memory) (z : Datum) → both s m ≡ has z → Parts (f s m) (h s m) go z)
      (x y : Mode → Known N → Given N) (ox : OneGives a f x) (oy : OneGives b h y)
      (fault_list : Mode → Given N → Given N → List Fault)
      (none : (mode : Mode) (x y : Given N) → x.faults ≡ [] → y.faults ≡ []
      → ((s : Side) → runs mode s ≡ true → Quiet (on x.pair s) (on y.pair s)) → fault_list mode x y ≡ []) where
    module _ (k : Known N) (m : Memories) (s : IsKeptOne D p ord k m) (mode : Mode) (all : FindAll mode both m) where
      first_one : IsOneGiven D mode (x mode k)
      first_one =
          ox.one k m s mode
          (λ c r. let q = all c r in let z = parts c (memory_of c m) q.0 q.1 in (z.u, z.first))

      second_one : IsOneGiven D mode (y mode k)
      second_one =
          oy.one k m s mode
          (λ c r. let q = all c r in let z = parts c (memory_of c m) q.0 q.1 in (z.v, z.second))

      two_at : (c : Side) → runs mode c ≡ true
          → Quiet (on (x mode k).pair c) (on (y mode k).pair c)
          × IsOneValue D (g (on (x mode k).pair c) (on (y mode k).pair c)).value
      two_at c r =
          let q = all c r in
          let z = parts c (memory_of c m) q.0 q.1 in
          two (on (x mode k).pair c) (on (y mode k).pair c) z.u z.v q.0
          (ox.typed c (memory_of c m) (s.kept.fits c) z.u z.first)
          (one_at a f x ox k m s mode first_one c r z.u z.first)
          (one_at b h y oy k m s mode second_one c r z.v z.second) z.is

      two_given : IsOneGiven D mode (by_two D g mode (x mode k) (y mode k) (fault_list mode (x mode k) (y mode k)))
      two_given =
          given_one D mode (λ c. g (on (x mode k).pair c) (on (y mode k).pair c))
          (same D (x mode k) && same D (y mode k)) (fault_list mode (x mode k) (y mode k))
          (none mode (x mode k) (y mode k) first_one.quiet second_one.quiet (λ c r. (two_at c r).0))
          (λ c r. (two_at c r).1)

    pub two_one : GivesOne D p ord both
        (λ mode k. by_two D g mode (x mode k) (y mode k) (fault_list mode (x mode k) (y mode k)))
    two_one k m s mode all = two_given k m s mode all

  -- ---- one operand

  module _ (a : Scalar) (go : Datum → Found) (g : SideValue N → SideValue N) (Quiet : SideValue N → Type 0)
      (one : (x : SideValue N) (u z : Datum) → ValueFits p a u → IsOneAs D a x u → go u ≡ has z
      → Quiet x × IsOneValue D (g x).value)
      (f whole : Side → Machine)
      (part : (s : Side) (m : Memory) (z : Datum) → whole s m ≡ has z → Part (f s m) go z)
      (x : Mode → Known N → Given N) (ox : OneGives a f x) (fault_list : Mode → Given N → List Fault)
      (none : (mode : Mode) (x : Given N) → x.faults ≡ []
      → ((s : Side) → runs mode s ≡ true → Quiet (on x.pair s)) → fault_list mode x ≡ []) where
    module _ (k : Known N) (m : Memories) (s : IsKeptOne D p ord k m) (mode : Mode) (all : FindAll mode whole m) where
      operand_one : IsOneGiven D mode (x mode k)
      operand_one =
          ox.one k m s mode
          (λ c r. let q = all c r in let z = part c (memory_of c m) q.0 q.1 in (z.u, z.first))

      result_at : (c : Side) → runs mode c ≡ true
          → Quiet (on (x mode k).pair c) × IsOneValue D (g (on (x mode k).pair c)).value
      result_at c r =
          let q = all c r in
          let z = part c (memory_of c m) q.0 q.1 in
          one (on (x mode k).pair c) z.u q.0 (ox.typed c (memory_of c m) (s.kept.fits c) z.u z.first)
          (one_at a f x ox k m s mode operand_one c r z.u z.first) z.is

      result_given : IsOneGiven D mode (by_one D g mode (x mode k) (fault_list mode (x mode k)))
      result_given =
          given_one D mode (λ c. g (on (x mode k).pair c)) (same D (x mode k)) (fault_list mode (x mode k))
          (none mode (x mode k) operand_one.quiet (λ c r. (result_at c r).0)) (λ c r. (result_at c r).1)

    pub one_one : GivesOne D p ord whole (λ mode k. by_one D g mode (x mode k) (fault_list mode (x mode k)))
    one_one k m s mode all = result_given k m s mode all
