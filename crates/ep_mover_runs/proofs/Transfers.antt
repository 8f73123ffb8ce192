-- Bytes that are read and put out, one after another.
use Rattle.std.proofs.Common.{◌≡◌, ℕ, zero, suc, ◌+◌, ◌%◌, ◌<◌, ◌≤◌, pos, true, List, [], ◌∷◌, length}
use Rattle.std.proofs.Common.{Result, Ok, Err, ◌⊎◌, inl, inr, ⊎_elim, refl, sym, ◌∙◌, ap, subst, arith}
use Rattle.std.proofs.lemmas.List.{length-append}
use Rattle.ep_int.specs.declared.types.IntType.TheVariants.{U8}
use Rattle.ep_int.specs.declared.types.Order.{Order}
use Rattle.ep_int.specs.Memory.{Byte, undefined, number, filled}
use Rattle.ep_core.specs.Program.{Program}
use Rattle.ep_core.specs.Exec.{State, Outcome, no_input, uncounted, ByteStep, bytewise, bytewise_rest, byte_out}
use Rattle.ep_core.specs.Exec.{put_out, remembers as keeps, taken as takes_one, model, size_at, into, out_of}
use Rattle.ep_movers.specs.declared.Stop.{Stop}
use Rattle.ep_movers.specs.declared.Stop.TheVariants.{Foreign, Faulty}
use Rattle.ep_movers.specs.Symbols.{Symbol, input_byte, goes_on, is_set}
use Rattle.ep_movers.specs.Movers.{Held, Machine, bytes_in, byte_at, defined, byte_written, remembers, puts_out, taken}
use Rattle.ep_movers.specs.Movers.{bytes_taken, bytes_put_out}
use Rattle.ep_mover_runs.specs.Following.{stands_for, byte_in, symbol_at, number_in, IsByte, MayBeByte, IsNumber}
use Rattle.ep_mover_runs.specs.Following.{Follows, IsUndefined, Comes, Wants}
use Rattle.ep_mover_runs.proofs.Numbers.{ok_parts}
use Rattle.ep_mover_runs.proofs.Bytes.{symbol_of, set_byte, number_of_byte, byte_found, byte_missed, byte_defined}
use Rattle.ep_mover_runs.proofs.Bytes.{byte_undefined}
use Rattle.ep_mover_runs.proofs.Writes.{Changed, byte_is_past, changed_follows, input_changed}
use Rattle.ep_mover_runs.proofs.Statements.{took, none_there, was_put_out, rebased}

pub rest_same : (one : ByteStep) (n here left : ℕ) (s : State)
    → bytewise_rest uncounted one n here left s ≡ bytewise uncounted one n here left s
rest_same one zero here left s = refl
rest_same one (suc n) here left s = refl

pub wants_here : (s : State) (r : Result Machine Stop) → Wants s.outputs r (no_input s)
wants_here s (Ok r) = record { state = s; is = refl; outputs = refl }
wants_here s (Err Foreign) = tt
wants_here s (Err Faulty) = tt

module _ (o : Order) (p : Program) (inputs : List ℕ) (b left : ℕ) where
  -- ---- inputs

  abbrev reads : (n q : ℕ) → State → Outcome
  reads n q s = bytewise uncounted (into o p b) n q left s

  -- with enough inputs, and with too few
  abbrev Reads : (n q : ℕ) → State → Machine → Outcome → Type 0
  Reads n q s m x =
      (m.inputs + n ≤ length inputs → Comes o p inputs left n 0 m (bytes_taken b q n m) x)
      × (length inputs < m.inputs + n → Wants s.outputs (bytes_taken b q n m) x)

  abbrev ReadsAll : ℕ → Type 0
  ReadsAll n = (q : ℕ) (s : State) (m : Machine) → Follows o p inputs s m → q + n ≤ size_at o p b →
      Reads n q s m (reads n q s)

  abbrev fills : (n q v : ℕ) → State → Outcome
  fills n q v s = reads n (q + 1) (keeps (filled (model o p) s.memory b q 1 (v % 256)) s)

  read_more : (n q v : ℕ) (rest : List ℕ) (s : State) (m : Machine) → Follows o p inputs s m → q + suc n ≤ size_at o p b
      → ReadsAll n → s.inputs ≡ v ∷ rest → (r : Result (List Held) Stop)
      → byte_written (bytes_in m.memory b) q (input_byte m.inputs 0) ≡ r
      → (m.inputs + suc n ≤ length inputs
      → Comes o p inputs left (suc n) 0 m (goes_on r (λ hs. bytes_taken b (suc q) n (taken (remembers m b hs) 1)))
      (fills n q v (record s { inputs = rest; used = s.used + 1 })))
      × (length inputs < m.inputs + suc n
      → Wants s.outputs (goes_on r (λ hs. bytes_taken b (suc q) n (taken (remembers m b hs) 1)))
      (fills n q v (record s { inputs = rest; used = s.used + 1 })))
  read_more n q v rest s m f l later e (Ok ks) h =
      let k = took o p inputs s m v rest f e in
      let s1 = record s { inputs = rest; used = s.used + 1 } in
      let change : Changed inputs (bytes_in m.memory b) ks q 1 (λ j. number (v % 256))
      = subst (λ i. Changed inputs (bytes_in m.memory b) ks q 1 (λ j. number (i % 256))) (sym k.0)
      (input_changed inputs (bytes_in m.memory b) ks q m.inputs (f.bytes b) h) in
      let m2 = taken (remembers m b ks) 1 in
      let s2 = keeps (filled (model o p) s1.memory b q 1 (v % 256)) s1 in
      let f2 : Follows o p inputs s2 m2
      = changed_follows o p inputs (model o p) s1 (taken m 1) k.1 b q 1 (λ j. number (v % 256)) ks change in
      let more : suc q ≡ q + 1 = omega arith in
      let next : Reads n (suc q) s2 m2 (reads n (q + 1) s2)
      = subst (λ j. Reads n (suc q) s2 m2 (reads n j s2)) more (later (suc q) s2 m2 f2 (omega (arith, l))) in
      let one : 1 + n ≡ suc n = omega arith in (
        λ i. subst (λ j. Comes o p inputs left j 0 m (bytes_taken b (suc q) n m2) (reads n (q + 1) s2)) one
            (rebased o p inputs left 1 0 n 0 m m2 refl (omega arith) (bytes_taken b (suc q) n m2) (reads n (q + 1) s2)
            (next.0 (omega (arith, i)))),
        λ i. next.1 (omega (arith, i)),
      )
  read_more n q v rest s m f l later e (Err Foreign) h = (λ i. tt, λ i. tt)
  read_more n q v rest s m f l later e (Err Faulty) h =
      absurd (let far = byte_is_past (bytes_in m.memory b) q (input_byte m.inputs 0) h in
      omega (arith, far, l, f.sizes b))

  read_first : (n q : ℕ) (is : List ℕ) (s : State) (m : Machine) → Follows o p inputs s m → q + suc n ≤ size_at o p b
      → ReadsAll n → s.inputs ≡ is → Reads (suc n) q s m (takes_one is s (fills n q))
  read_first n q [] s m f l later e = (
    λ i. absurd (let few = none_there o p inputs s m f e in omega (arith, few, i)),
    λ i. wants_here s (bytes_taken b q (suc n) m),
  )
  read_first n q (v ∷ rest) s m f l later e =
      read_more n q v rest s m f l later e (byte_written (bytes_in m.memory b) q (input_byte m.inputs 0)) refl

  pub reads_come : (n : ℕ) → ReadsAll n
  reads_come zero q s m f l = (
    λ i. record { state = s; is = refl; follows = f; taken = omega arith; put = omega arith },
    λ i. absurd (omega (arith, i, f.enough)),
  )
  reads_come (suc n) q s m f l = read_first n q s.inputs s m f l (λ q s m f l. reads_come n q s m f l) refl

  -- ---- outputs

  one_byte : (x : Symbol) → IsByte x → IsNumber (x ∷ [])
  one_byte x h = record { width = refl; bytes = record { are = refl; each = each } }
    where
      each : (k : ℕ) → k < 1 → IsByte (symbol_at (x ∷ []) k)
      each zero l = h
      each (suc k) l = absurd (omega arith)

  one_number : (x : Symbol) → stands_for inputs x ≡ number_in inputs (x ∷ [])
  one_number x = omega arith

  module _ (l : ℕ) where
    abbrev puts : (n q : ℕ) → State → Outcome
    puts n q s = bytewise uncounted (out_of o p b l) n q left s

    abbrev Puts : ℕ → Type 0
    Puts n = (q : ℕ) (s : State) (m : Machine) → Follows o p inputs s m → q + n ≤ size_at o p b
        → Comes o p inputs left 0 n m (bytes_put_out (bytes_in m.memory b) q n m) (puts n q s)

    put_defined : (n q : ℕ) (s : State) (m : Machine) (x : Symbol) → Follows o p inputs s m → q + suc n ≤ size_at o p b
        → Puts n → symbol_of (bytes_in m.memory b) q ≡ x → (r : Result Symbol Stop) → defined x ≡ r
        → Comes o p inputs left 0 (suc n) m
        (goes_on r (λ x. bytes_put_out (bytes_in m.memory b) (suc q) n (puts_out m (x ∷ []))))
        (byte_out (s.memory b q) l s (puts n (q + 1)))
    put_defined n q s m x f i later e (Ok y) h =
        let set = byte_defined x y h in
        let byte : IsByte y
        = set_byte y (subst MayBeByte (e ∙ set.1) (f.bytes b q)) (subst (λ z. is_set z ≡ true) set.1 set.0) in
        let held : s.memory b q ≡ number (stands_for inputs y)
        = f.memory b q (omega (arith, i)) ∙ ap (byte_in inputs) (e ∙ set.1) ∙ number_of_byte inputs y byte in
        let s2 = put_out U8 (pos (stands_for inputs y)) s in
        let m2 = puts_out m (y ∷ []) in
        let f2 = was_put_out o p inputs s m U8 (pos (stands_for inputs y)) (y ∷ []) f (one_byte y byte) refl
        (ap pos (one_number y)) in
        let more : suc q ≡ q + 1 = omega arith in
        let one : 1 + n ≡ suc n = omega arith in
        let next : Comes o p inputs left 0 n m2 (bytes_put_out (bytes_in m.memory b) (suc q) n m2) (puts n (q + 1) s2)
        = subst (λ j. Comes o p inputs left 0 n m2 (bytes_put_out (bytes_in m.memory b) (suc q) n m2)
        (puts n j s2)) more
        (later (suc q) s2 m2 f2 (omega (arith, i))) in
        subst (λ (z : Byte). Comes o p inputs left 0 (suc n) m (bytes_put_out (bytes_in m.memory b) (suc q) n m2)
        (byte_out z l s (puts n (q + 1)))) (sym held)
        (subst (λ j. Comes o p inputs left 0 j m (bytes_put_out (bytes_in m.memory b) (suc q) n m2)
        (puts n (q + 1) s2)) one
        (rebased o p inputs left 0 1 0 n m m2 (omega arith) (length-append m.outputs ((y ∷ []) ∷ []))
        (bytes_put_out (bytes_in m.memory b) (suc q) n m2) (puts n (q + 1) s2) next))
    put_defined n q s m x f i later e (Err Foreign) h = tt
    put_defined n q s m x f i later e (Err Faulty) h =
        let none = byte_undefined x Faulty h in
        let held : s.memory b q ≡ undefined = f.memory b q (omega (arith, i)) ∙ ap (byte_in inputs) (e ∙ none.0) in
        subst (λ (z : Byte). IsUndefined (byte_out z l s (puts n (q + 1)))) (sym held) tt

    put_first : (n q : ℕ) (s : State) (m : Machine) → Follows o p inputs s m → q + suc n ≤ size_at o p b → Puts n
        → (r : Result Symbol Stop) → byte_at (bytes_in m.memory b) q ≡ r
        → Comes o p inputs left 0 (suc n) m
        (goes_on r (λ x. goes_on (defined x)
        (λ x. bytes_put_out (bytes_in m.memory b) (suc q) n (puts_out m (x ∷ [])))))
        (byte_out (s.memory b q) l s (puts n (q + 1)))
    put_first n q s m f i later (Ok x) h =
        put_defined n q s m x f i later (byte_found (bytes_in m.memory b) q x h).1 (defined x) refl
    put_first n q s m f i later (Err e) h =
        absurd (let far = (byte_missed (bytes_in m.memory b) q e h).0 in omega (arith, far, i, f.sizes b))

    pub puts_come : (n : ℕ) → Puts n
    puts_come zero q s m f i = record { state = s; is = refl; follows = f; taken = omega arith; put = omega arith }
    puts_come (suc n) q s m f i =
        put_first n q s m f i (λ q s m f i. puts_come n q s m f i) (byte_at (bytes_in m.memory b) q) refl

-- what is put out lies in the block
pub put_inside : (hs : List Held) (n q : ℕ) (m r : Machine) → bytes_put_out hs q n m ≡ Ok r → (n ≡ 0)
    ⊎ (q + n ≤ length hs)
put_inside hs zero q m r h = inl refl
put_inside hs (suc n) q m r h =
    let a = ok_parts (byte_at hs q)
    (λ x. goes_on (defined x) (λ x. bytes_put_out hs (suc q) n (puts_out m (x ∷ [])))) r h in
    let c = ok_parts (defined a.0) (λ x. bytes_put_out hs (suc q) n (puts_out m (x ∷ []))) r a.2 in
    let first = (byte_found hs q a.0 a.1).0 in
    ⊎_elim (λ e. inr (omega (arith, e, first))) (λ l. inr (omega (arith, l)))
    (put_inside hs n (suc q) (puts_out m (c.0 ∷ [])) r c.2)
