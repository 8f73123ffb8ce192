-- Operators in general: what they give holds where it does of each side, whatever the operator is.
use Rattle.std.proofs.Common.{◌≡◌, Bool, true, ◌&&◌, List, [], sym, ap, ◌∙◌, subst}
use Rattle.ep_cell_ranges.proofs.Shareds.{has_one}
use Rattle.std.proofs.lemmas.Bool.{and_parts}
use Rattle.ep_int.specs.declared.types.Order.{Order}
use Rattle.ep_int.specs.declared.types.Scalar.{Scalar}
use Rattle.ep_int.specs.Memory.{Memory, Value as Datum, Found, has}
use Rattle.ep_bitslice.specs.Bits.{Numbers}
use Rattle.ep_domain.specs.Domain.{Ops, Lawful}
use Rattle.ep_cells.specs.States.{Known}
use Rattle.ep_cells.specs.Meaning.{Memories, numbers_of}
use Rattle.ep_core.specs.Program.{Program}
use Rattle.ep_core.specs.Runs.{Side, left, right}
use Rattle.ep_core.specs.Typed.{MemoryFits, ValueFits}
use Rattle.ep_equalities.specs.declared.pair.Mode.{Mode}
use Rattle.ep_equalities.specs.declared.pair.Mode.TheVariants.{Both, Left, Right}
use Rattle.ep_equalities.specs.declared.pair.Fault.{Fault}
use Rattle.ep_equalities.specs.declared.pair.SideValue.{SideValue}
use Rattle.ep_equalities.specs.Pairs.{SideIn}
use Rattle.ep_equalities.proofs.Equal.{same_values}
use Rattle.ep_evaluation.specs.Given.{Given, runs, on, pair_on, nothing}
use Rattle.ep_evaluation.specs.Evaluation.{same, by_one, by_two}
use Rattle.ep_evaluation.specs.Laws.{memory_of, Machine, IsReliable, IsKept, SideFits, Holds}
use Rattle.ep_evaluation.proofs.General.{reliable_none, on_running, equal_is, runs_both}

-- values that machines find are of their types
abbrev pub Typed : Program → Scalar → (Side → Machine) → Type 0
Typed p w f = (s : Side) (m : Memory) → MemoryFits p m → (v : Datum) → f s m ≡ has v → ValueFits p w v

-- what a machine that found z found of the operands
pub record Parts (x y : Found) (go : Datum → Datum → Found) (z : Datum) : Type 0 where
  pub u : Datum
  pub v : Datum
  pub first : x ≡ has u
  pub second : y ≡ has v
  pub is : go u v ≡ has z

pub record Part (x : Found) (go : Datum → Found) (z : Datum) : Type 0 where
  pub u : Datum
  pub first : x ≡ has u
  pub is : go u ≡ has z

one_result : (go : Datum → Datum → Found) (u v x y a b : Datum) → u ≡ x → v ≡ y → go u v ≡ has a → go x y ≡ has b
    → a ≡ b
one_result go u v x y a b e f g h = has_one a b (sym g ∙ (ap (λ i. go i v) e ∙ (ap (go x) f ∙ h)))

one_result_of : (go : Datum → Found) (u x a b : Datum) → u ≡ x → go u ≡ has a → go x ≡ has b → a ≡ b
one_result_of go u x a b e g h = has_one a b (sym g ∙ (ap go e ∙ h))

module _ {N : Type 0} (D : Ops N) (law : Lawful D) (p : Program) (ord : Side → Order) where
  -- where both sides are known to have the same, they find the same
  pub same_found : (w : Scalar) (f : Side → Found) (k : Known N) (m : Memories) (mode : Mode) (x : Given N)
      → Holds D p ord w f k m mode x → mode ≡ Both → x.faults ≡ [] → same D x ≡ true → (u v : Datum)
      → f left ≡ has u → f right ≡ has v → u ≡ v
  same_found w f k m mode x h b none e u v i j =
      same_values D law x.pair e (numbers_of k.orders m) w u v (record {
        left = λ r. h.held (reliable_none mode x.faults none) left (runs_both mode left b) u i;
        right = λ r. h.held (reliable_none mode x.faults none) right (runs_both mode right b) v j;
        equal = λ r q. h.same b none q u v i j;
      })

  pub nothing_fits : (k : Known N) (w : Scalar) → SideFits D p ord k w nothing
  nothing_fits k w = record { sort = tt; rising = tt; form = tt }

  pub pair_fits : (k : Known N) (w : Scalar) (mode : Mode) (f : Side → SideValue N) (b : Bool)
      → ((s : Side) → SideFits D p ord k w (f s)) → (s : Side) → SideFits D p ord k w (on (pair_on mode f b) s)
  pair_fits k w Both f b h left = h left
  pair_fits k w Both f b h right = h right
  pair_fits k w Left f b h left = h left
  pair_fits k w Left f b h right = nothing_fits k w
  pair_fits k w Right f b h left = nothing_fits k w
  pair_fits k w Right f b h right = h right

  -- ---- two operands

  pub record Operator (w a b : Scalar) (go : Datum → Datum → Found) (g : SideValue N → SideValue N → SideValue N)
      (Quiet : SideValue N → SideValue N → Type 0) : Type 0 where
    pub held : (n : Numbers) (k : Known N) (x y : SideValue N) (u v z : Datum) → ValueFits p a u → ValueFits p b v
        → SideFits D p ord k a x → SideFits D p ord k b y → SideIn D n a x u → SideIn D n b y v → go u v ≡ has z
        → SideIn D n w (g x y) z
    pub found : (n : Numbers) (k : Known N) (x y : SideValue N) (u v : Datum) → ValueFits p a u → ValueFits p b v
        → SideFits D p ord k a x → SideFits D p ord k b y → SideIn D n a x u → SideIn D n b y v → Quiet x y
        → (z : Datum) × (go u v ≡ has z)
    pub fits : (k : Known N) (x y : SideValue N) → SideFits D p ord k a x → SideFits D p ord k b y
        → SideFits D p ord k w (g x y)

  -- what machines find of two operands is what the operator gives of them
  pub record IsOperator (a b : Scalar) (go : Datum → Datum → Found) (f h both : Side → Machine) : Type 0 where
    pub parts : (s : Side) (m : Memory) (z : Datum) → both s m ≡ has z → Parts (f s m) (h s m) go z
    pub whole : (s : Side) (m : Memory) (u v : Datum) → ValueFits p a u → ValueFits p b v → f s m ≡ has u
        → h s m ≡ has v → both s m ≡ go u v

  -- Faults of the whole have those of the operands among them, and without one the operator has none of its own.
  pub record HasFaults (mode : Mode) (x y : Given N) (Quiet : SideValue N → SideValue N → Type 0) (fs : List Fault) :
      Type 0 where
    pub none_first : fs ≡ [] → x.faults ≡ []
    pub none_second : fs ≡ [] → y.faults ≡ []
    pub quiet : fs ≡ [] → (s : Side) → runs mode s ≡ true → Quiet (on x.pair s) (on y.pair s)
    pub sure_first : IsReliable mode fs → IsReliable mode x.faults
    pub sure_second : IsReliable mode fs → IsReliable mode y.faults

  pub two_hold : (w a b : Scalar) (go : Datum → Datum → Found) (g : SideValue N → SideValue N → SideValue N)
      (Quiet : SideValue N → SideValue N → Type 0) (f h both : Side → Machine)
      → Operator w a b go g Quiet → IsOperator a b go f h both → Typed p a f → Typed p b h
      → (k : Known N) (m : Memories) → IsKept D p ord k m → (mode : Mode) (x y : Given N) (fs : List Fault)
      → HasFaults mode x y Quiet fs
      → Holds D p ord a (λ s. f s (memory_of s m)) k m mode x → Holds D p ord b (λ s. h s (memory_of s m)) k m mode y
      → ((s : Side) → SideFits D p ord k a (on x.pair s)) → ((s : Side) → SideFits D p ord k b (on y.pair s))
      → Holds D p ord w (λ s. both s (memory_of s m)) k m mode (by_two D g mode x y fs)
  two_hold w a b go g Quiet f h both op is tf th k m kept mode x y fs hf hx hy fx fy = record {
    held = λ sure s r z e.
        let t = is.parts s (memory_of s m) z e in
        subst (λ q. SideIn D (numbers_of k.orders m) w q z)
        (sym (on_running mode s (λ s. g (on x.pair s) (on y.pair s)) (same D x && same D y) r))
        (op.held (numbers_of k.orders m) k (on x.pair s) (on y.pair s) t.u t.v z
        (tf s (memory_of s m) (kept.fits s) t.u t.first) (th s (memory_of s m) (kept.fits s) t.v t.second) (fx s) (fy s)
        (hx.held (hf.sure_first sure) s r t.u t.first) (hy.held (hf.sure_second sure) s r t.v t.second) t.is);
    found = λ none s r.
        let u = hx.found (hf.none_first none) s r in
        let v = hy.found (hf.none_second none) s r in
        let fu = tf s (memory_of s m) (kept.fits s) u.0 u.1 in
        let fv = th s (memory_of s m) (kept.fits s) v.0 v.1 in
        let z = op.found (numbers_of k.orders m) k (on x.pair s) (on y.pair s) u.0 v.0 fu fv (fx s) (fy s)
        (hx.held (reliable_none mode x.faults (hf.none_first none)) s r u.0 u.1)
        (hy.held (reliable_none mode y.faults (hf.none_second none)) s r v.0 v.1) (hf.quiet none s r) in
        (z.0, is.whole s (memory_of s m) u.0 v.0 fu fv u.1 v.1 ∙ z.1);
    same = λ b' none e u v i j.
        let q = and_parts (same D x) (same D y)
        (sym (equal_is mode (λ s. g (on x.pair s) (on y.pair s)) (same D x && same D y)) ∙ e) in
        let l = is.parts left (memory_of left m) u i in
        let r = is.parts right (memory_of right m) v j in
        one_result go l.u l.v r.u r.v u v
        (same_found a (λ s. f s (memory_of s m)) k m mode x hx b' (hf.none_first none) q.0 l.u r.u l.first r.first)
        (same_found b (λ s. h s (memory_of s m)) k m mode y hy b' (hf.none_second none) q.1 l.v r.v l.second r.second)
        l.is r.is;
  }

  pub two_fit : (w a b : Scalar) (go : Datum → Datum → Found) (g : SideValue N → SideValue N → SideValue N)
      (Quiet : SideValue N → SideValue N → Type 0) → Operator w a b go g Quiet → (k : Known N) (mode : Mode)
      (x y : Given N) (fs : List Fault) → ((s : Side) → SideFits D p ord k a (on x.pair s))
      → ((s : Side) → SideFits D p ord k b (on y.pair s)) → (s : Side)
      → SideFits D p ord k w (on (by_two D g mode x y fs).pair s)
  two_fit w a b go g Quiet op k mode x y fs hx hy s =
      pair_fits k w mode (λ s. g (on x.pair s) (on y.pair s)) (same D x && same D y)
      (λ s. op.fits k (on x.pair s) (on y.pair s) (hx s) (hy s)) s

  -- ---- one operand

  pub record OperatorOf (w a : Scalar) (go : Datum → Found) (g : SideValue N → SideValue N)
      (Quiet : SideValue N → Type 0) : Type 0 where
    pub held : (n : Numbers) (k : Known N) (x : SideValue N) (u z : Datum) → ValueFits p a u → SideFits D p ord k a x
        → SideIn D n a x u → go u ≡ has z → SideIn D n w (g x) z
    pub found : (n : Numbers) (k : Known N) (x : SideValue N) (u : Datum) → ValueFits p a u → SideFits D p ord k a x
        → SideIn D n a x u → Quiet x → (z : Datum) × (go u ≡ has z)
    pub fits : (k : Known N) (x : SideValue N) → SideFits D p ord k a x → SideFits D p ord k w (g x)

  pub record IsOperatorOf (a : Scalar) (go : Datum → Found) (f whole : Side → Machine) : Type 0 where
    pub part : (s : Side) (m : Memory) (z : Datum) → whole s m ≡ has z → Part (f s m) go z
    pub whole_is : (s : Side) (m : Memory) (u : Datum) → ValueFits p a u → f s m ≡ has u → whole s m ≡ go u

  pub record HasFaultsOf (mode : Mode) (x : Given N) (Quiet : SideValue N → Type 0) (fs : List Fault) : Type 0 where
    pub none : fs ≡ [] → x.faults ≡ []
    pub quiet : fs ≡ [] → (s : Side) → runs mode s ≡ true → Quiet (on x.pair s)
    pub sure : IsReliable mode fs → IsReliable mode x.faults

  pub one_holds : (w a : Scalar) (go : Datum → Found) (g : SideValue N → SideValue N) (Quiet : SideValue N → Type 0)
      (f whole : Side → Machine) → OperatorOf w a go g Quiet → IsOperatorOf a go f whole → Typed p a f
      → (k : Known N) (m : Memories) → IsKept D p ord k m → (mode : Mode) (x : Given N) (fs : List Fault)
      → HasFaultsOf mode x Quiet fs → Holds D p ord a (λ s. f s (memory_of s m)) k m mode x
      → ((s : Side) → SideFits D p ord k a (on x.pair s))
      → Holds D p ord w (λ s. whole s (memory_of s m)) k m mode (by_one D g mode x fs)
  one_holds w a go g Quiet f whole op is tf k m kept mode x fs hf hx fx = record {
    held = λ sure s r z e.
        let t = is.part s (memory_of s m) z e in
        subst (λ q. SideIn D (numbers_of k.orders m) w q z)
        (sym (on_running mode s (λ s. g (on x.pair s)) (same D x) r))
        (op.held (numbers_of k.orders m) k (on x.pair s) t.u z (tf s (memory_of s m) (kept.fits s) t.u t.first) (fx s)
        (hx.held (hf.sure sure) s r t.u t.first) t.is);
    found = λ none s r.
        let u = hx.found (hf.none none) s r in
        let fu = tf s (memory_of s m) (kept.fits s) u.0 u.1 in
        let z = op.found (numbers_of k.orders m) k (on x.pair s) u.0 fu (fx s)
        (hx.held (reliable_none mode x.faults (hf.none none)) s r u.0 u.1) (hf.quiet none s r) in
        (z.0, is.whole_is s (memory_of s m) u.0 fu u.1 ∙ z.1);
    same = λ b' none e u v i j.
        let q = sym (equal_is mode (λ s. g (on x.pair s)) (same D x)) ∙ e in
        let l = is.part left (memory_of left m) u i in
        let r = is.part right (memory_of right m) v j in
        one_result_of go l.u r.u u v
        (same_found a (λ s. f s (memory_of s m)) k m mode x hx b' (hf.none none) q l.u r.u l.first r.first)
        l.is r.is;
  }

  pub one_fits : (w a : Scalar) (go : Datum → Found) (g : SideValue N → SideValue N) (Quiet : SideValue N → Type 0)
      → OperatorOf w a go g Quiet → (k : Known N) (mode : Mode) (x : Given N) (fs : List Fault)
      → ((s : Side) → SideFits D p ord k a (on x.pair s)) → (s : Side)
      → SideFits D p ord k w (on (by_one D g mode x fs).pair s)
  one_fits w a go g Quiet op k mode x fs hx s =
      pair_fits k w mode (λ s. g (on x.pair s)) (same D x) (λ s. op.fits k (on x.pair s) (hx s)) s
