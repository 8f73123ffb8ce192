-- A call up to its body: the result's block comes, arguments are evaluated, the frame comes, and parameters are set.
use Rattle.std.proofs.Common.{◌≡◌, ℕ, true, List, [], Option, Some, option_to_list, slice_get, refl, sym, subst}
use Rattle.std.specs.List.{list_all}
use Rattle.ep_int.specs.declared.types.Order.{Order}
use Rattle.ep_int.specs.Memory.{killed}
use Rattle.ep_domain.specs.Domain.{Ops, Lawful}
use Rattle.ep_cells.specs.States.{Known}
use Rattle.ep_cells.specs.Meaning.{Memories}
use Rattle.ep_core.specs.Program.{Expr, Function, Program}
use Rattle.ep_core.specs.Exec.{State, on, first_of, frame_of, remembers}
use Rattle.ep_core.specs.Runs.{Side, left, right}
use Rattle.ep_core.specs.WellFormed.{holds_scalar, arguments_fit, is_well_formed}
use Rattle.ep_core.proofs.Operands.{fits_at}
use Rattle.ep_pass.specs.States.{Both as BothSides, One}
use Rattle.ep_pass.specs.Laws.{passes}
use Rattle.ep_equalities.specs.declared.pair.Mode.{Mode}
use Rattle.ep_equalities.specs.declared.pair.Mode.TheVariants.{Both, Left, Right}
use Rattle.ep_evaluation.specs.Given.{runs}
use Rattle.ep_evaluation.specs.Laws.{memory_of, IsState}
use Rattle.ep_transfers.specs.Cells.{cell_ops, told_of, when_known, is_told_so}
use Rattle.ep_transfers.specs.Transfers.{cells_of_mode, entered}
use Rattle.ep_transfers.specs.Calls.{given_all, faults_of_all, waiting, bound, arguments_step}
use Rattle.ep_transfers.specs.Laws.{memories}
use Rattle.ep_transfers.proofs.Bound.{changed}
use Rattle.ep_transfers.proofs.Gathered.{cell_laws}
use Rattle.ep_transfers.proofs.Passing.{kills_are, all_in}
use Rattle.ep_transfers.proofs.Waiting.{killed_others}
use Rattle.ep_closed_laws.specs.Exactly.{IsThere, IfLeft, IfBothLeft, TransferIsExact, SeenFrom}
use Rattle.ep_closed_laws.specs.Closely.{ConcretisesOneTyped, ConcretisesOneBeside}
use Rattle.ep_singles.specs.Numbers.{KeepsSingles}
use Rattle.ep_single_given.proofs.Given.{no_faults}
use Rattle.ep_single_narrowed.specs.Laws.{IsKeptOne}
use Rattle.ep_single_states.specs.Laws.{ConcretisesOne}
use Rattle.ep_single_values.specs.Laws.{ValuesAreOne}
use Rattle.ep_single_calls.proofs.Machines.{AllHave, AllStore, sets, own, HavePassed, passes_as}
use Rattle.ep_single_calls.proofs.Kept.{both_left, one_left, kept_both, kept_seen, told_exact, entered_one}
use Rattle.ep_single_calls.proofs.Bound.{fit, none_faults, puts_all, all_bound, all_ready}

module _ {N : Type 0} (D : Ops N) (law : Lawful D) (keeps : KeepsSingles D) (p : Program) (ord : Side → Order)
    (formed : is_well_formed p ≡ true) (vals : ValuesAreOne D p ord) where
  module _ (f : Function) (es : List Expr) (seen : List ℕ)
      (holds : list_all (holds_scalar p.types p.blocks) f.params ≡ true)
      (typed : arguments_fit p.types p.blocks seen f.params es ≡ true) where
    abbrev block : List ℕ
    block = first_of (option_to_list f.result)

    -- the state and the memories after it
    record Step (mode : Mode) (k : Known N) (m : Memories) : Type 0 where
      quiet : (arguments_step D p mode f es k).faults ≡ []
      known : Known N
      next : (arguments_step D p mode f es k).next ≡ Some known
      kept : IsKeptOne D p ord known (changed mode (λ s z. sets (ord s) p f.params es (own (ord s) p f z)
          (killed (frame_of f) (own (ord s) p f z))) m)

    module _ (mode : Mode) (k : Known N) (m : Memories) (kept : IsKeptOne D p ord k m) where
      abbrev j : Known N
      j = entered D p mode block k

      abbrev before : Memories
      before = changed mode (λ s. killed block) m

      abbrev i : Known N
      i = entered D p mode (frame_of f) j

      abbrev framed : Memories
      framed = changed mode (λ s. killed (frame_of f)) before

      arguments_done : ((s : Side) → runs mode s ≡ true → AllHave (ord s) p es (memory_of s before))
          → ((s : Side) → runs mode s ≡ true → AllStore (ord s) p f.params es)
          → (changed mode (puts_all D law keeps p ord formed mode (frame_of f) j before f.params es) framed
          ≡ changed mode (λ s z. sets (ord s) p f.params es (own (ord s) p f z)
          (killed (frame_of f) (own (ord s) p f z))) m)
          → Step mode k m
      arguments_done have store same =
          let at_j = entered_one D p ord law formed mode block k m kept in
          let at_i = entered_one D p ord law formed mode (frame_of f) j before at_j in
          let others = killed_others D p ord (fit D law keeps p ord formed) (cell_laws D law).kills
          (cells_of_mode mode) (frame_of f) j before framed at_j.kept.state at_j.kept.holds
          (kills_are mode (frame_of f) before) in
          let ready = all_ready D law keeps p ord formed mode (frame_of f) j before vals at_j seen f.params es holds typed
          (all_in f.params f.locals) have store in
          let b = all_bound D law keeps p ord formed mode (frame_of f) j before f.params es i framed at_i others ready in
          record {
            quiet = no_faults (faults_of_all D p (given_all D p es mode j))
                (bound D p mode f.params (waiting D p (frame_of f) (given_all D p es mode j)) i).faults
                (none_faults D law keeps p ord formed mode (frame_of f) j before f.params es ready) b.quiet;
            known = b.known;
            next = b.next;
            kept = subst (IsKeptOne D p ord b.known) same b.kept;
          }

    done_both : (k : Known N) (m : Memories) → IsKeptOne D p ord k m → AllHave (ord left) p es (own (ord left) p f m.left)
        → AllHave (ord right) p es (own (ord right) p f m.right) → AllStore (ord left) p f.params es
        → AllStore (ord right) p f.params es → Step Both k m
    done_both k m kept hl hr sl sr = arguments_done Both k m kept have store refl
      where
        have : (s : Side) → runs Both s ≡ true
            → AllHave (ord s) p es (memory_of s (changed Both (λ s. killed block) m))
        have left r = hl
        have right r = hr

        store : (s : Side) → runs Both s ≡ true → AllStore (ord s) p f.params es
        store left r = sl
        store right r = sr

    done_left : (k : Known N) (m : Memories) → IsKeptOne D p ord k m → AllHave (ord left) p es (own (ord left) p f m.left)
        → AllStore (ord left) p f.params es → Step Left k m
    done_left k m kept hl sl = arguments_done Left k m kept have store refl
      where
        have : (s : Side) → runs Left s ≡ true
            → AllHave (ord s) p es (memory_of s (changed Left (λ s. killed block) m))
        have left r = hl
        have right r = absurd (cc)

        store : (s : Side) → runs Left s ≡ true → AllStore (ord s) p f.params es
        store left r = sl
        store right r = absurd (cc)

    done_right : (k : Known N) (m : Memories) → IsKeptOne D p ord k m
        → AllHave (ord right) p es (own (ord right) p f m.right) → AllStore (ord right) p f.params es → Step Right k m
    done_right k m kept hr sr = arguments_done Right k m kept have store refl
      where
        have : (s : Side) → runs Right s ≡ true
            → AllHave (ord s) p es (memory_of s (changed Right (λ s. killed block) m))
        have left r = absurd (cc)
        have right r = hr

        store : (s : Side) → runs Right s ≡ true → AllStore (ord s) p f.params es
        store left r = absurd (cc)
        store right r = sr

  -- ---- as transfers

  exact : (P : Known N → Type 0) (k : Known N) → IsState D p ord k → (mode : Mode) (f : Function) (es : List Expr)
      → (arguments_step D p mode f es k).faults ≡ [] → (j : Known N)
      → (arguments_step D p mode f es k).next ≡ Some j → P j
      → TransferIsExact P
      (told_of D (when_known (is_told_so D p ord k) (arguments_step D p mode f es k)))
  exact P k s mode f es q j e h =
      told_exact D p ord P k s (arguments_step D p mode f es k) q
      (subst (λ (o : Option (Known N)). IsThere P o) (sym e) h)

  pub arguments_both : (k : ℕ) (f : Function) → slice_get p.functions k ≡ Some f → (es : List Expr) (seen : List ℕ)
      → arguments_fit p.types p.blocks seen f.params es ≡ true → (l n m : ℕ) (s : Known N) (x y : State)
      → ConcretisesOneTyped p (ConcretisesOne D p ord) s x y
      → IfBothLeft on
      (λ x' y'. x'.outputs ≡ y'.outputs → TransferIsExact (λ t. ConcretisesOne D p ord t x'.memory y'.memory)
      ((cell_ops D p ord).arguments BothSides f es s))
      (passes (ord left) p f es l n x) (passes (ord right) p f es l m y)
  arguments_both k f at es seen typed l n m s x y h =
      let kept = kept_both D p ord s x y h in
      both_left on (HavePassed (ord left) p f es x) (HavePassed (ord right) p f es y)
      (λ a. (n, after (ord left) x)) (λ b. (m, after (ord right) y))
      (λ x' y'. x'.outputs ≡ y'.outputs → TransferIsExact (λ t. ConcretisesOne D p ord t x'.memory y'.memory)
      ((cell_ops D p ord).arguments BothSides f es s))
      (λ a b e.
      let d = done_both f es seen (fits_at p formed k f at).0 typed s (memories x.memory y.memory) kept a.0 b.0 a.1 b.1
      in
      exact (λ t. ConcretisesOne D p ord t (after (ord left) x).memory (after (ord right) y).memory) s
      h.memories.state Both f es d.quiet d.known d.next
      (record { state = d.kept.kept.state; one = d.kept.one }))
      (passes (ord left) p f es l n x) (passes (ord right) p f es l m y) (passes_as (ord left) p f es l n x)
      (passes_as (ord right) p f es l m y)
    where
      after : Order → State → State
      after o z =
          remembers (sets o p f.params es (own o p f z.memory) (killed (frame_of f) (own o p f z.memory))) z

  pub arguments_alone : (i : Side) (k : ℕ) (f : Function) → slice_get p.functions k ≡ Some f → (es : List Expr)
      (seen : List ℕ) → arguments_fit p.types p.blocks seen f.params es ≡ true → (l n : ℕ) (s : Known N) (x y : State)
      → SeenFrom (ConcretisesOneTyped p (ConcretisesOne D p ord)) i s x y
      → IfLeft on
      (λ x'. TransferIsExact (λ t. ConcretisesOneBeside (ConcretisesOne D p ord) i t x'.memory y.memory)
      ((cell_ops D p ord).arguments (One i) f es s))
      (passes (ord i) p f es l n x)
  arguments_alone left k f at es seen typed l n s x y h =
      let kept = kept_seen D p ord left s x y h in
      one_left on (HavePassed (ord left) p f es x) (λ a. (n, after x))
      (λ x'. TransferIsExact (λ t. ConcretisesOne D p ord t x'.memory y.memory)
      ((cell_ops D p ord).arguments (One left) f es s))
      (λ a.
      let d = done_left f es seen (fits_at p formed k f at).0 typed s (memories x.memory y.memory) kept a.0 a.1 in
      exact (λ t. ConcretisesOne D p ord t (after x).memory y.memory) s h.memories.state Left f es d.quiet d.known
      d.next (record { state = d.kept.kept.state; one = d.kept.one }))
      (passes (ord left) p f es l n x) (passes_as (ord left) p f es l n x)
    where
      after : State → State
      after z =
          remembers (sets (ord left) p f.params es (own (ord left) p f z.memory)
          (killed (frame_of f) (own (ord left) p f z.memory))) z
  arguments_alone right k f at es seen typed l n s x y h =
      let kept = kept_seen D p ord right s x y h in
      one_left on (HavePassed (ord right) p f es x) (λ a. (n, after x))
      (λ x'. TransferIsExact (λ t. ConcretisesOne D p ord t y.memory x'.memory)
      ((cell_ops D p ord).arguments (One right) f es s))
      (λ a.
      let d = done_right f es seen (fits_at p formed k f at).0 typed s (memories y.memory x.memory) kept a.0 a.1 in
      exact (λ t. ConcretisesOne D p ord t y.memory (after x).memory) s h.memories.state Right f es d.quiet d.known
      d.next (record { state = d.kept.kept.state; one = d.kept.one }))
      (passes (ord right) p f es l n x) (passes_as (ord right) p f es l n x)
    where
      after : State → State
      after z =
          remembers (sets (ord right) p f.params es (own (ord right) p f z.memory)
          (killed (frame_of f) (own (ord right) p f z.memory))) z
