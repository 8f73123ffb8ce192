-- What a machine does where arguments go to parameters, and where a result goes to its place: what each step found.
use Rattle.std.proofs.Common.{◌≡◌, ◌⊎◌, inl, inr, ℕ, List, [], ◌∷◌, map, Option, Some, None, refl, sym, ap, ◌∙◌}
use Rattle.std.proofs.Common.{option_to_list, subst}
use Rattle.ep_int.specs.declared.types.Order.{Order}
use Rattle.ep_int.specs.declared.types.Scalar.{Scalar}
use Rattle.ep_int.specs.declared.types.Scalar.TheVariants.{Int, Pointer}
use Rattle.ep_int.specs.Types.{wrapped}
use Rattle.ep_int.specs.Memory.{Memory, Value as Datum, int, null, pointer, Kind, Found, has, faults, loaded, stored}
use Rattle.ep_int.specs.Memory.{store_fault, killed}
use Rattle.ep_core.specs.Program.{Expr, Dest, Function, Program}
use Rattle.ep_core.specs.Exec.{State, Way, on, Outcome, leaves, running, no_input, undefined_at, given, unless, Values}
use Rattle.ep_core.specs.Exec.{have, stops, first_and, given_all, first_of, frame_of, remembers, without, with_number}
use Rattle.ep_core.specs.Exec.{converted, model, size_at, value, address, values, put_to, put_dest, bound, received}
use Rattle.ep_core.specs.Typed.{ValueFits, MemoryFits}
use Rattle.ep_core.proofs.Bytes.{loaded_fits}
use Rattle.ep_pass.specs.Laws.{passes}
use Rattle.ep_evaluation.proofs.Final.{if_has}
use Rattle.ep_transfers.specs.Taken.{AreTaken, numbers, pointers}
use Rattle.ep_transfers.proofs.Bound.{datum_of, found_is}
use Rattle.ep_closed_laws.specs.Exactly.{IfLeft}

-- ---- outcomes that aren't left

abbrev pub IsHalted : Outcome → Type 0
IsHalted (leaves w n s) = ⊥
IsHalted (running s) = Unit {0}
IsHalted (no_input s) = Unit {0}
IsHalted (undefined_at l k s) = Unit {0}

pub if_halted : (k : Way) (Q : State → Type 0) (c : Outcome) → IsHalted c → IfLeft k Q c
if_halted k Q (leaves w n s) h = absurd h
if_halted k Q (running s) h = tt
if_halted k Q (no_input s) h = tt
if_halted k Q (undefined_at l j s) h = tt

-- it is left so, where this was found, or it isn't
pub data LeftWith (A : Type 0) (go : A → Outcome) : Outcome → Type 0 where
  left_with : (a : A) → LeftWith A go (go a)
  not_left : (c : Outcome) → IsHalted c → LeftWith A go c

module _ (o : Order) (p : Program) where
  -- ---- arguments

  abbrev pub datum : Memory → Expr → Datum
  datum m e = datum_of (value o p e m)

  -- each has a value
  abbrev pub AllHave : List Expr → Memory → Type 0
  AllHave [] m = Unit {0}
  AllHave (e ∷ es) m = (value o p e m ≡ has (datum m e)) × AllHave es m

  -- each parameter has room for its argument
  abbrev pub AllStore : List (ℕ × Scalar) → List Expr → Type 0
  AllStore [] es = Unit {0}
  AllStore (b ∷ bs) [] = Unit {0}
  AllStore (b ∷ bs) (e ∷ es) = (store_fault p.types.model (size_at o p b.0) b.1 0 ≡ None) × AllStore bs es

  -- the memory in which the parameters have the values that arguments have in another one
  abbrev pub sets : List (ℕ × Scalar) → List Expr → Memory → Memory → Memory
  sets [] es m z = z
  sets (b ∷ bs) [] m z = z
  sets (b ∷ bs) (e ∷ es) m z = sets bs es m (stored o p.types.model z b.1 b.0 0 (datum m e))

  values_as : (es : List Expr) (m : Memory)
      → (AllHave es m × (values o p es m ≡ have (map (datum m) es))) ⊎ ((k : Kind) × (values o p es m ≡ stops k))
  values_as [] m = inl (tt, refl)
  values_as (e ∷ es) m = by_first (value o p e m) refl (values_as es m)
    where
      by_first : (f : Found) → value o p e m ≡ f
          → (AllHave es m × (values o p es m ≡ have (map (datum m) es))) ⊎ ((k : Kind) × (values o p es m ≡ stops k))
          → (AllHave (e ∷ es) m × (values o p (e ∷ es) m ≡ have (map (datum m) (e ∷ es))))
          ⊎ ((k : Kind) × (values o p (e ∷ es) m ≡ stops k))
      by_first (faults k) q r = inr (k, ap (λ f. first_and f (values o p es m)) q)
      by_first (has v) q (inl r) =
          let i = found_is (value o p e m) v q in
          inl (
            (i, r.0),
            ap (λ f. first_and f (values o p es m)) i ∙ ap (first_and (has (datum m e))) r.1,
          )
      by_first (has v) q (inr r) =
          inr (r.0, ap (λ f. first_and f (values o p es m)) q ∙ ap (first_and (has v)) r.1)

  module _ (m : Memory) (n : ℕ) where
    abbrev left_set : List (ℕ × Scalar) → List Expr → State → Outcome
    left_set bs es z = leaves on n (remembers (sets bs es m z.memory) z)

    bound_as : (bs : List (ℕ × Scalar)) (es : List Expr) (l : ℕ) (z : State)
        → LeftWith (AllStore bs es) (λ a. left_set bs es z) (bound o p bs (map (datum m) es) l z (leaves on n))
    bound_as [] es l z = left_with tt
    bound_as (b ∷ bs) [] l z = left_with tt
    bound_as (b ∷ bs) (e ∷ es) l z =
        by_fault (store_fault p.types.model (size_at o p b.0) b.1 0) refl
        (bound_as bs es l (remembers (stored o p.types.model z.memory b.1 b.0 0 (datum m e)) z))
      where
        next : State
        next = remembers (stored o p.types.model z.memory b.1 b.0 0 (datum m e)) z

        more : store_fault p.types.model (size_at o p b.0) b.1 0 ≡ None → (c : Outcome)
            → LeftWith (AllStore bs es) (λ a. left_set bs es next) c
            → LeftWith (AllStore (b ∷ bs) (e ∷ es)) (λ a. left_set (b ∷ bs) (e ∷ es) z) c
        more q _ (left_with a) = left_with (q, a)
        more q c (not_left _ h) = not_left c h

        by_fault : (f : Option Kind) → store_fault p.types.model (size_at o p b.0) b.1 0 ≡ f
            → LeftWith (AllStore bs es) (λ a. left_set bs es next)
            (bound o p bs (map (datum m) es) l next (leaves on n))
            → LeftWith (AllStore (b ∷ bs) (e ∷ es)) (λ a. left_set (b ∷ bs) (e ∷ es) z)
            (bound o p (b ∷ bs) (map (datum m) (e ∷ es)) l z (leaves on n))
        by_fault None q r =
            subst (LeftWith (AllStore (b ∷ bs) (e ∷ es)) (λ a. left_set (b ∷ bs) (e ∷ es) z))
            (sym (ap (λ f. unless f l z (bound o p bs (map (datum m) es) l next (leaves on n))) q))
            (more q (bound o p bs (map (datum m) es) l next (leaves on n)) r)
        by_fault (Some k) q r =
            subst (LeftWith (AllStore (b ∷ bs) (e ∷ es)) (λ a. left_set (b ∷ bs) (e ∷ es) z))
            (sym (ap (λ f. unless f l z (bound o p bs (map (datum m) es) l next (leaves on n))) q))
            (not_left (undefined_at l k z) tt)

  -- the memory in which arguments are evaluated
  abbrev pub own : Function → Memory → Memory
  own f m = killed (first_of (option_to_list f.result)) m

  -- the machine where the body begins
  abbrev pub passed : Function → List Expr → ℕ → State → Outcome
  passed f es n x =
      leaves on n (remembers (sets f.params es (own f x.memory) (killed (frame_of f) (own f x.memory))) x)

  abbrev pub HavePassed : Function → List Expr → State → Type 0
  HavePassed f es x = AllHave es (own f x.memory) × AllStore f.params es

  pub passes_as : (f : Function) (es : List Expr) (l n : ℕ) (x : State)
      → LeftWith (HavePassed f es x) (λ a. passed f es n x) (passes o p f es l n x)
  passes_as f es l n x = by_values (values_as es m)
    where
      m : Memory
      m = own f x.memory

      z : State
      z = without (first_of (option_to_list f.result)) x

      go : Values → Outcome
      go vs = given_all vs l z (λ us. bound o p f.params us l (without (frame_of f) z) (leaves on n))

      with_all : AllHave es m → (c : Outcome)
          → LeftWith (AllStore f.params es) (λ a. left_set m n f.params es (without (frame_of f) z)) c
          → LeftWith (HavePassed f es x) (λ a. passed f es n x) c
      with_all h _ (left_with a) = left_with (h, a)
      with_all h c (not_left _ i) = not_left c i

      by_values : (AllHave es m × (values o p es m ≡ have (map (datum m) es))) ⊎ ((k : Kind) × (values o p es m ≡ stops k))
          → LeftWith (HavePassed f es x) (λ a. passed f es n x) (passes o p f es l n x)
      by_values (inl r) =
          subst (LeftWith (HavePassed f es x) (λ a. passed f es n x)) (sym (ap go r.1))
          (with_all r.0 (bound o p f.params (map (datum m) es) l (without (frame_of f) z) (leaves on n))
          (bound_as m n f.params es l (without (frame_of f) z)))
      by_values (inr r) =
          subst (LeftWith (HavePassed f es x) (λ a. passed f es n x)) (sym (ap go r.1))
          (not_left (undefined_at l r.0 z) tt)

  -- ---- results

  abbrev pub read_of : ℕ × Scalar → Memory → Found
  read_of r m = loaded o (model o p) (size_at o p r.0) m r.1 r.0 0

  -- the result as its place takes it
  abbrev pub read_as : ℕ × Scalar → Scalar → Memory → Found
  read_as r (Int t) m = with_number (read_of r m) (λ z. has (int (wrapped t z)))
  read_as r Pointer m = read_of r m

  -- what was found of a result and its place
  pub record HasReceived (r : ℕ × Scalar) (d : Dest) (m : Memory) : Type 0 where
    pub block : ℕ
    pub offset : ℕ
    pub datum : Datum
    pub result : Datum
    pub at : address o p d.place m ≡ has (pointer block offset)
    pub read : read_of r m ≡ has result
    pub is : read_as r d.what m ≡ has datum
    pub stores : store_fault p.types.model (size_at o p block) d.what offset ≡ None

  abbrev pub with_result : (r : ℕ × Scalar) (d : Dest) (n : ℕ) (x : State) → HasReceived r d x.memory → Outcome
  with_result r d n x h =
      leaves on n (remembers (stored o p.types.model x.memory d.what h.block h.offset h.datum) x)

  taken_as : (b : ℕ) (v w : Scalar) → AreTaken v w → (m : Memory) → MemoryFits p m → (u : Datum)
      → read_of (b, v) m ≡ has u → read_as (b, v) w m ≡ has (converted w u)
  taken_as b _ _ (numbers u t) m fits d e =
      by_number d e
      (if_has (read_of (b, Int u) m) (ValueFits p (Int u)) d
      (loaded_fits p o (model o p) (size_at o p b) m (Int u) b 0 fits) e)
    where
      by_number : (d : Datum) → read_of (b, Int u) m ≡ has d → ValueFits p (Int u) d
          → read_as (b, Int u) (Int t) m ≡ has (converted (Int t) d)
      by_number (int z) e h = ap (λ f. with_number f (λ z. has (int (wrapped t z)))) e
      by_number null e h = absurd h
      by_number (pointer c q) e h = absurd h
  taken_as b _ _ pointers m fits d e = e

  pub received_as : (r : ℕ × Scalar) (d : Dest) → AreTaken r.1 d.what → (l n : ℕ) (x : State) → MemoryFits p x.memory
      → LeftWith (HasReceived r d x.memory) (with_result r d n x) (received o p (Some r) (Some d) l n x)
  received_as r d taken l n x fits = by_load (read_of r x.memory) refl
    where
      P : Outcome → Type 0
      P = LeftWith (HasReceived r d x.memory) (with_result r d n x)

      by_store : (u : Datum) (b q : ℕ) → read_of r x.memory ≡ has u → address o p d.place x.memory ≡ has (pointer b q)
          → (f : Option Kind) → store_fault p.types.model (size_at o p b) d.what q ≡ f
          → P (unless f l x (leaves on n (remembers (stored o p.types.model x.memory d.what b q
          (converted d.what u)) x)))
      by_store u b q e a None s =
          left_with (record {
            block = b;
            offset = q;
            datum = converted d.what u;
            result = u;
            at = a;
            read = e;
            is = taken_as r.0 r.1 d.what taken x.memory fits u e;
            stores = s;
          })
      by_store u b q e a (Some k) s = not_left (undefined_at l k x) tt

      by_place : (u : Datum) → read_of r x.memory ≡ has u → (a : Found) → address o p d.place x.memory ≡ a
          → P (given a l x (λ w. put_to o p d.what w (converted d.what u) l x (leaves on n)))
      by_place u e (faults k) a = not_left (undefined_at l k x) tt
      by_place u e (has (int z)) a = not_left _ tt
      by_place u e (has null) a = not_left _ tt
      by_place u e (has (pointer b q)) a =
          by_store u b q e a (store_fault p.types.model (size_at o p b) d.what q) refl

      by_load : (f : Found) → read_of r x.memory ≡ f → P (given f l x (λ v. put_dest o p (Some d) v l n x))
      by_load (faults k) e = not_left (undefined_at l k x) tt
      by_load (has u) e = by_place u e (address o p d.place x.memory) refl
