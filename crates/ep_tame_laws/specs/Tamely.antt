-- What the operations on states keep on tame programs, of both machines together.
use Rattle.std.specs.Prelude.{◌≡◌, ℕ, ◌-◌, ◌<◌, Bool, true, false, List, ◌++◌, Option, Some, None, slice_get}
use Rattle.std.specs.Prelude.{option_to_list, IsTrue}
use Rattle.std.specs.List.{list_all, AllByRecursion}
use Rattle.ep_int.specs.declared.types.Order.{Order}
use Rattle.ep_int.specs.Memory.{contains}
use Rattle.ep_alarms.specs.declared.types.Alarm.{Alarm}
use Rattle.ep_alarms.specs.declared.types.AlarmKind.{AlarmKind}
use Rattle.ep_alarms.specs.declared.types.AlarmKind.TheVariants.{U1, U2, U3, U4, U5, U6, U7, U8, U9, U10, E1, E2, E3}
use Rattle.ep_alarms.specs.declared.types.AlarmKind.TheVariants.{E4}
use Rattle.ep_layout.specs.Table.{IsBuilt}
use Rattle.ep_core.specs.Program.{Expr, Dest, Simple, Function, Program}
use Rattle.ep_core.specs.Exec.{first_of, frame_of, result_in}
use Rattle.ep_core.specs.Runs.{Side, is_result}
use Rattle.ep_core.specs.WellFormed.{result_type, is_tested, simple_fits, arguments_fit, takes_result, is_well_formed}
use Rattle.ep_pass.specs.States.{Both, Transfer, Verdict, stuck, same, differs, StateOps}
use Rattle.ep_pass.specs.Laws.{AreOther}
use Rattle.ep_pass.specs.Honest.{AreOf}
use Rattle.ep_pass.specs.Pass.{report_of}
use Rattle.ep_kinds.specs.Tame.{is_tame_expr, is_tame_dest, is_tame_simple, is_tame}

-- undefined behaviour, and no difference between the machines
abbrev pub is_undefined : AlarmKind → Bool
is_undefined U1 = true
is_undefined U2 = true
is_undefined U3 = true
is_undefined U4 = true
is_undefined U5 = true
is_undefined U6 = true
is_undefined U7 = true
is_undefined U8 = true
is_undefined U9 = true
is_undefined U10 = true
is_undefined E1 = false
is_undefined E2 = false
is_undefined E3 = false
is_undefined E4 = false

-- where a state is reached, this holds of it
abbrev pub IfReached : {S : Type 0} → (S → Type 0) → Option S → Type 0
IfReached P None = Unit {0}
IfReached P (Some s) = P s

-- all of these blocks are among those
abbrev pub AreAmong : List ℕ → List ℕ → Type 0
AreAmong bs cs = (b : ℕ) → contains b bs ≡ true → contains b cs ≡ true

-- the block of a function's result, if there is one
abbrev pub result_block : Function → List ℕ
result_block f = first_of (option_to_list f.result)

-- the block of main's result
abbrev pub is_result_of_main : Program → ℕ → Bool
is_result_of_main p b = is_result (result_in (slice_get p.functions p.main)) b

-- main's result is in none of these blocks
abbrev pub HaveNoResult : Program → List ℕ → Type 0
HaveNoResult p bs = (b : ℕ) → contains b bs ≡ true → is_result_of_main p b ≡ false

-- both truths of a test are equal, where it has any
abbrev pub IsAlike : Verdict → Type 0
IsAlike stuck = Unit {0}
IsAlike same = Unit {0}
IsAlike differs = ⊥

-- of what an operation gives: the faults are of undefined behaviour alone, and this holds of the state after it
pub record TransferIsGood {S : Type 0} (P : S → Type 0) (g : Transfer S) : Type 0 where
  pub faults : AreOf is_undefined g.faults
  pub next : IfReached P g.next

-- `Good h live res s`: s is a good state where, beside the globals, the blocks `live` are there, and the results `res`;
-- and it has whatever has a place in h.
pub record Tamely (p : Program) {S : Type 0} (o : StateOps S) (Good : S → (live res : List ℕ) → S → Type 0)
    (rank : S → ℕ) (limit : ℕ) : Type 0 where
  pub entry : (f : Function) → slice_get p.functions p.main ≡ Some f
      → Good o.entry (frame_of f) (result_block f) o.entry
  pub again : (h s : S) (live res : List ℕ) → Good h live res s → Good s live res s
  pub simple : (here : ℕ) (f : Function) → slice_get p.functions here ≡ Some f → (w : Simple) (seen : List ℕ)
      → simple_fits p here (result_type p.blocks f.result) w seen ≡ true
      → is_tame_simple p.types w ≡ true
      → (h s : S) (live res : List ℕ) → AreAmong seen live → AreAmong (result_block f) res → Good h live res s
      → TransferIsGood (Good h live res) (o.simple Both f.result w s)
  pub test : (e : Expr) (seen : List ℕ) → is_tested p.types p.blocks seen e ≡ true
      → is_tame_expr p.types e ≡ true
      → (h s : S) (live res : List ℕ) → AreAmong seen live → Good h live res s
      → AreOf is_undefined (o.test Both e s).faults × IsAlike (o.test Both e s).verdict
  pub assume : (e : Expr) (seen : List ℕ) → is_tested p.types p.blocks seen e ≡ true
      → is_tame_expr p.types e ≡ true
      → (t : Bool) (h s : S) (live res : List ℕ) → AreAmong seen live → Good h live res s
      → IfReached (Good h live res) (o.assume e t t s)
  -- the frame and result of a function before main come
  pub arguments : (k : ℕ) (f : Function) → slice_get p.functions k ≡ Some f → (es : List Expr) (seen : List ℕ)
      → arguments_fit p.types p.blocks seen f.params es ≡ true
      → list_all (is_tame_expr p.types) es ≡ true
      → HaveNoResult p (frame_of f) → HaveNoResult p (result_block f)
      → (h s : S) (live res : List ℕ) → AreAmong seen live → Good h live res s
      → TransferIsGood (Good h (frame_of f ++ live) (result_block f ++ res)) (o.arguments Both f es s)
  -- its result goes
  pub result : (k : ℕ) (f : Function) → slice_get p.functions k ≡ Some f → (d : Option Dest) (seen : List ℕ)
      → takes_result p.types p.blocks seen (result_type p.blocks f.result) d ≡ true
      → is_tame_dest p.types d ≡ true
      → (h s : S) (live res : List ℕ) → AreAmong seen live → Good h live (result_block f ++ res) s
      → TransferIsGood (Good h live res) (o.result Both f d s)
  pub enter : (bs : List ℕ) → HaveNoResult p bs → (h s : S) (live res : List ℕ) → Good h live res s
      → Good h (bs ++ live) res (o.enter Both bs s)
  pub leave : (bs : List ℕ) (h s : S) (live res : List ℕ) → Good h (bs ++ live) res s
      → Good h live res (o.leave Both bs s)
  pub joined : (h s t : S) (live res : List ℕ) → Good h live res s → Good h live res t
      → Good h live res (o.joined (o.unified s t).0 (o.unified s t).1)
  pub reshared : (h s : S) (live res : List ℕ) → Good h live res s → Good h live res (o.reshared s)
  -- a head comes to rest
  pub below : (h s : S) (live res : List ℕ) → Good h live res s → rank s < limit - 1
  pub next : (g h t : S) (live res : List ℕ) → Good g live res h → Good h live res t
      → o.leq (o.unified h t).1 h ≡ false
      → Good g live res (o.reshared (o.widened (o.unified h t).0 (o.unified h t).1))
      × (rank (o.reshared (o.widened (o.unified h t).0 (o.unified h t).1)) < rank h)
  pub ended : (f : Function) → slice_get p.functions p.main ≡ Some f → (h s : S) (live res : List ℕ)
      → AreAmong (result_block f) res → Good h live res s → AreOf is_undefined (o.ended f s)

-- each alarm of a report is of undefined behaviour
abbrev pub IsUndefinedOnly : List Alarm → Type 0
IsUndefinedOnly fs = AllByRecursion (λ (a : Alarm). is_undefined a.kind ≡ true) fs

-- with states of this type, for each program and each two byte orders
module _ (S : Type 0) where
  -- On tame programs, whose table of types was built by the rules, the operations keep what they are to keep.
  abbrev pub AreTamely : (ops : Program → (Side → Order) → StateOps S)
      → (Good : Program → (Side → Order) → S → (live res : List ℕ) → S → Type 0) → (rank : Program → S → ℕ)
      → (limit : Program → ℕ) → Type 0
  AreTamely ops Good rank limit =
      (p : Program) (ord : Side → Order) → IsTrue (is_well_formed p) → IsBuilt p.types → IsTrue (is_tame p)
      → AreOther ord → Tamely p (ops p ord) (Good p ord) (rank p) (limit p)

  -- The report on a tame program has no alarm of the kinds E1 to E4, however many turns are unrolled.
  abbrev pub TameReports : (ops : Program → (Side → Order) → StateOps S) → (limit : Program → ℕ) → Type 0
  TameReports ops limit =
      (p : Program) (ord : Side → Order) → IsTrue (is_well_formed p) → IsBuilt p.types → IsTrue (is_tame p)
      → AreOther ord → (u : ℕ) → IsUndefinedOnly (report_of (ops p ord) u (limit p) ord p)
