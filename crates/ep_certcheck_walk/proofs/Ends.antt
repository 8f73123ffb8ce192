-- Main with its end, and the answer.
use Rattle.std.proofs.Common.{◌≡◌, ◌≤◌, ℕ, ◌+◌, nat_eq, List, [], ◌∷◌, ◌++◌, length, refl, sym, ap, ◌∙◌, subst, arith}
use Rattle.std.proofs.Common.{Option, Some, None, Result, Ok, Err, IsErrAnd, slice_get, if◌then◌else◌}
use Rattle.ep_core.specs.Program.{Function}
use Rattle.ep_pass.specs.States.{Both}
use Rattle.ep_pass.specs.Pass.{Ways, Event, alarm, outside, missing, join_on, found_at}
use Rattle.ep_flows.specs.declared.flow.Flow.{Flow}
use Rattle.ep_certcheck_laws.specs.Checked.{Answer, yes, fault, is_outside, is_missing, spare, answer_of, least}
use Rattle.ep_certcheck_walk.specs.declared.found.Found.{Found}
use Rattle.ep_certcheck_walk.specs.declared.found.Found.TheVariants.{Yes, Fault, Outside, Missing, Spare}
use Rattle.ep_certcheck_walk.specs.declared.stop.Stop.{Stop}
use Rattle.ep_certcheck_walk.specs.Found.{AreFewer, IsOfHead, answer_view}
use Rattle.ep_certcheck_walk.specs.Pieces.{function, main_of, end_of, all_of, FindsAll, IsAtEnd}
use Rattle.ep_certcheck_walk.specs.Stops.{Course, checking, Begins, HasFound, Gives, IsStop, nothing_more, stop_of}
use Rattle.ep_certcheck_walk.proofs.Combined.{behind, front, join_same}
use Rattle.ep_certcheck_walk.specs.declared.stop.Stop.TheVariants as stops

module _ {S : Type 0} (k : Course S) where
  -- ---- main

  -- the exit of a stop
  pub err_all : (x : Result Unit Stop) (e : Stop) (n : ℕ) → IsErrAnd x (λ t. t ≡ e) → IsStop k (all_of k) e
      → FindsAll k x n
  err_all (Ok u) e n i h = absurd i
  err_all (Err t) e n i h = subst (IsStop k (all_of k)) (sym i) h

  abbrev left_at : Option S
  left_at = join_on (checking k) (main_of k).ways.returned (main_of k).on

  module _ (s : S) (es : s ≡ k.raw.entry) (old : ℕ) (eo : old ≡ 0) where
    pub main_stops : (t : Stop) → IsStop k (function k k.plan.program.main old Both s).log.faults t
        → IsStop k (all_of k) t
    main_stops t h =
        let h1 = subst (λ z. IsStop k (function k k.plan.program.main old Both z).log.faults t) es h in
        let h2 = subst (λ z. IsStop k (function k k.plan.program.main z Both k.raw.entry).log.faults t) eo h1 in
        front k (main_of k).log.faults (end_of k left_at) t h2

    module _ (f : Flow S) (mid : ℕ) (h : HasFound k (function k k.plan.program.main old Both s) f old mid) where
      h' : HasFound k (main_of k) f 0 mid
      h' = subst (λ z. HasFound k (function k k.plan.program.main z Both k.raw.entry) f z mid) eo
          (subst (λ z. HasFound k (function k k.plan.program.main old Both z) f old mid) es h)

      left_is : join_on k.raw f.ways.returned f.on ≡ left_at
      left_is = join_same k f.ways.returned f.on
          ∙ ap (λ (z : Ways S). join_on (checking k) z.returned f.on) h'.ways
          ∙ ap (join_on (checking k) (main_of k).ways.returned) h'.on

      pub main_goes : (x : Result Unit Stop)
          → Gives k (end_of k (join_on k.raw f.ways.returned f.on)) nothing_more x → FindsAll k x mid
      main_goes x g = each x (subst (λ z. Gives k (end_of k z) nothing_more x) left_is g)
        where
          each : (x : Result Unit Stop) → Gives k (end_of k left_at) nothing_more x → FindsAll k x mid
          each (Ok u) g = (
            ap (λ z. z ++ end_of k left_at) h'.log.quiet ∙ g.0,
            (h'.log.taken ∙ plus (length (main_of k).log.heads), h'.log.within (none_less (length k.list))),
          )
            where
              plus : (n : ℕ) → 0 + n ≡ n
              plus n = omega arith

              none_less : (n : ℕ) → 0 ≤ n
              none_less n = omega arith
          each (Err t) g = behind k (main_of k).log.faults (end_of k left_at) t h'.log.quiet g

  -- ---- the end of main

  module _ (v u : Option S) (e : u ≡ v) where
    pub no_main : slice_get k.plan.program.functions k.plan.program.main ≡ None → end_of k v ≡ []
    no_main d = rw d refl

    pub no_end : (g : Option Function) → slice_get k.plan.program.functions k.plan.program.main ≡ g → u ≡ None
        → end_of k v ≡ []
    no_end None d i = rw d refl
    no_end (Some f) d i = let j : v ≡ None = sym e ∙ i in rw (d, j) refl

    pub main_end : (f : Function) (s : S) (x : Result Unit Stop)
        → slice_get k.plan.program.functions k.plan.program.main ≡ Some f → u ≡ Some s
        → Gives k (found_at f.line (least (k.raw.ended f s))) nothing_more x → Gives k (end_of k v) nothing_more x
    main_end f s x d i h = let j : v ≡ Some s = sym e ∙ i in rw (d, j) h

  -- ---- the answer

  pub at_stop : (x : Result Unit Stop) (s : Stop) (n : ℕ) → x ≡ Err s → FindsAll k x n → IsStop k (all_of k) s
  at_stop x s n e h = subst (λ z. FindsAll k z n) e h

  pub at_ok : (x : Result Unit Stop) (u : Unit) (n : ℕ) → x ≡ Ok u → FindsAll k x n
      → (all_of k ≡ []) × ((n ≡ length (main_of k).log.heads) × (n ≤ length k.list))
  at_ok x u n e h = subst (λ z. FindsAll k z n) e h

-- the answer to a stop
abbrev answer_at : Stop → Answer → Answer
answer_at stops.OutOfMemory a = a
answer_at (stops.Fault l a) b = fault l a
answer_at (stops.Outside h n) b = is_outside h n
answer_at (stops.Missing l) b = is_missing l

first_answers : (e : Event) (es : List Event) (n m : ℕ)
    → answer_at (stop_of e) (answer_of (e ∷ es) n m) ≡ answer_of (e ∷ es) n m
first_answers (alarm a) es n m = refl
first_answers (outside l h c) es n m = refl
first_answers (missing l) es n m = refl

pub begins_answer : (es : List Event) (s : Stop) (n m : ℕ) → Begins es s
    → answer_at s (answer_of es n m) ≡ answer_of es n m
begins_answer es s n m b =
    subst (λ z. answer_at s (answer_of z n m) ≡ answer_of z n m) (sym b.is)
    (subst (λ z. answer_at z (answer_of (b.event ∷ b.rest) n m) ≡ answer_of (b.event ∷ b.rest) n m) b.shown
    (first_answers b.event b.rest n m))

pub quiet_answer : (es : List Event) (f : Found) (t n m : ℕ) → es ≡ [] → t ≡ n
    → answer_view f ≡ (if nat_eq t m then yes else spare t) → answer_view f ≡ answer_of es n m
quiet_answer es f t n m e d h = h ∙ ap (λ z. if nat_eq z m then yes else spare z) d ∙ ap (λ z. answer_of z n m) (sym e)

pub plain_heads : {S : Type 0} (k : Course S) (m : ℕ) (f : Found) → IsAtEnd m f → IsOfHead k.raw k.fails k.list f
plain_heads k m Yes e = tt
plain_heads k m (Fault l a) e = tt
plain_heads k m (Outside h n) e = absurd e
plain_heads k m (Missing l) e = tt
plain_heads k m (Spare n) e = tt

pub are_fewer : {S : Type 0} (hs : List S) (m : ℕ) (f : Found) → m ≡ length hs → IsAtEnd m f → AreFewer hs f
are_fewer hs m Yes d e = tt
are_fewer hs m (Fault l a) d e = tt
are_fewer hs m (Outside h n) d e = tt
are_fewer hs m (Missing l) d e = tt
are_fewer hs m (Spare n) d e = omega (arith, d, e)
