-- Bytes that both machines put out, each in turn.
use Rattle.std.proofs.Common.{◌≡◌, ℕ, zero, suc, ◌+◌, Bool, true, false, ◌&&◌, ◌||◌, not, if◌then◌else◌}
use Rattle.std.proofs.Common.{List, [], ◌∷◌, ◌++◌, Some, None, Result, Ok, is_some, refl, sym, ap, ◌∙◌}
use Rattle.std.proofs.Common.{subst, arith}
use Rattle.std.specs.Option.{option_map_or}
use Rattle.std.proofs.lemmas.Bool.{and_from, or_left, or_right}
use Rattle.ep_int.specs.declared.types.IntType.TheVariants.{U8}
use Rattle.ep_int.specs.declared.types.Order.{Order}
use Rattle.ep_int.specs.declared.types.Order.TheVariants.{Little, Big, SwappedWords}
use Rattle.ep_int.specs.declared.types.Scalar.TheVariants.{Int}
use Rattle.ep_int.specs.Encoding.{place}
use Rattle.ep_alarms.specs.declared.types.AlarmKind.TheVariants.{U4, U10}
use Rattle.ep_domain.specs.Domain.{Ops, Lawful}
use Rattle.ep_cells.specs.declared.cell.Value.TheVariants.{Num}
use Rattle.ep_cells.specs.Forms.{have_same_form}
use Rattle.ep_cells.specs.Reshare.{are_one_number}
use Rattle.ep_cells.specs.States.{Known}
use Rattle.ep_cells.specs.Meaning.{Memories}
use Rattle.ep_reads.specs.declared.read.ReadValue.{ReadValue}
use Rattle.ep_reads.specs.Read.{read}
use Rattle.ep_reads.proofs.Gathered.{of_reads}
use Rattle.ep_core.specs.Program.{Program}
use Rattle.ep_core.specs.Runs.{Side, left, right}
use Rattle.ep_equalities.specs.declared.pair.Mode.TheVariants.{Both}
use Rattle.ep_equalities.specs.declared.pair.PairValue.{PairValue}
use Rattle.ep_equalities.specs.Same.{is_same, are_one_pointer}
use Rattle.ep_evaluation.specs.Given.{cells_of, shown_if, faults_on}
use Rattle.ep_evaluation.specs.Accesses.{is_unset, is_mixed}
use Rattle.ep_evaluation.specs.Laws.{IsKept}
use Rattle.ep_evaluation.proofs.Basics.{faults_on-none}
use Rattle.ep_evaluation.proofs.General.{is_int}
use Rattle.ep_transfers.specs.Places.{Places, has_values}
use Rattle.ep_transfers.specs.Transfers.{stepped, after_faults, differ_faults, byte_reads, byte_pair}
use Rattle.ep_transfers.specs.Transfers.{byte_faults, bytes_out}
use Rattle.ep_movers.specs.declared.Stop.{Stop}
use Rattle.ep_movers.specs.Symbols.{Symbol, goes_on}
use Rattle.ep_movers.specs.Movers.{Held, Machine, bytes_in, byte_at, defined, puts_out, loaded_bytes, bytes_put_out}
use Rattle.ep_mover_bits.specs.Laws.{Inputs}
use Rattle.ep_mover_bits.proofs.Forms.{forms_follow}
use Rattle.ep_mover_cells.specs.Known.{Moved}
use Rattle.ep_mover_cells.specs.Laws.{IsReadAs}
use Rattle.ep_mover_cells.proofs.Bytewise.{reads_know}
use Rattle.ep_mover_cells.proofs.Loaded.{ok_same, went_on}
use Rattle.ep_mover_values.proofs.Places.{no_faults}

-- ---- what a machine puts out

-- the bytes of a block from here on, each by itself
abbrev pub Puts : List Held → (count here : ℕ) → Machine → Machine → Type 0
Puts hs zero q m r = r ≡ m
Puts hs (suc n) q m r =
    (y : Symbol) × ((o : Order) → loaded_bytes o hs q 1 0 1 ≡ Ok (y ∷ [])) × Puts hs n (suc q) (puts_out m (y ∷ [])) r

alone_at : (o : Order) (q : ℕ) → q + place o 1 0 ≡ q
alone_at Little q = let e : q + 0 ≡ q = omega arith in e
alone_at Big q = let e : q + 0 ≡ q = omega arith in e
alone_at SwappedWords q = let e : q + 0 ≡ q = omega arith in e

abbrev one_of : Result Symbol Stop → Result (List Symbol) Stop
one_of r = goes_on r (λ x. goes_on (defined x) (λ x. Ok (x ∷ [])))

pub puts_all : (hs : List Held) (n q : ℕ) (m r : Machine) → bytes_put_out hs q n m ≡ Ok r → Puts hs n q m r
puts_all hs zero q m r e = sym (ok_same m r e)
puts_all hs (suc n) q m r e =
    let x = went_on (byte_at hs q)
    (λ x. goes_on (defined x) (λ x. bytes_put_out hs (suc q) n (puts_out m (x ∷ [])))) r e in
    let y = went_on (defined x.0) (λ x. bytes_put_out hs (suc q) n (puts_out m (x ∷ []))) r x.2 in (
      y.0,
      λ o. ap (λ z. one_of (byte_at hs z)) (alone_at o q) ∙ ap one_of x.1
          ∙ ap (λ z. goes_on z (λ x. Ok (x ∷ []))) y.1,
      puts_all hs n (suc q) (puts_out m (y.0 ∷ [])) r y.2,
    )

pub puts_memory : (hs : List Held) (n q : ℕ) (m r : Machine) → Puts hs n q m r → r.memory ≡ m.memory
puts_memory hs zero q m r e = ap (λ (z : Machine). z.memory) e
puts_memory hs (suc n) q m r i = puts_memory hs n (suc q) (puts_out m (i.0 ∷ [])) r i.2

pub puts_inputs : (hs : List Held) (n q : ℕ) (m r : Machine) → Puts hs n q m r → r.inputs ≡ m.inputs
puts_inputs hs zero q m r e = ap (λ (z : Machine). z.inputs) e
puts_inputs hs (suc n) q m r i = puts_inputs hs n (suc q) (puts_out m (i.0 ∷ [])) r i.2

-- ---- lists with one more

abbrev Bytes : Type 0
Bytes = List Symbol

last_is : (xs ys : List Bytes) (x y : Bytes) → xs ++ x ∷ [] ≡ ys ++ y ∷ [] → (xs ≡ ys) × (x ≡ y)
last_is [] [] x y e = (refl, cc)
last_is [] (z ∷ []) x y e = absurd (cc)
last_is [] (z ∷ (u ∷ ys)) x y e = absurd (cc)
last_is (z ∷ []) [] x y e = absurd (cc)
last_is (z ∷ (u ∷ xs)) [] x y e = absurd (cc)
last_is (z ∷ xs) (u ∷ ys) x y e =
    let h : z ≡ u = cc in
    let t : xs ++ x ∷ [] ≡ ys ++ y ∷ [] = cc in
    let r = last_is xs ys x y t in (ap (λ a. a ∷ xs) h ∙ ap (λ l. u ∷ l) r.0, r.1)

one_symbol : (x y : Symbol) → ◌≡◌ {A = Bytes} (x ∷ []) (y ∷ []) → x ≡ y
one_symbol x y e = cc

-- what was put out before is the same where what is put out in the end is
puts_same : (hs gs : List Held) (n q g : ℕ) (m w r v : Machine) → Puts hs n q m r → Puts gs n g w v
    → r.outputs ≡ v.outputs → m.outputs ≡ w.outputs
puts_same hs gs zero q g m w r v e f o =
    ap (λ (z : Machine). z.outputs) (sym e) ∙ o ∙ ap (λ (z : Machine). z.outputs) f
puts_same hs gs (suc n) q g m w r v i j o =
    (last_is m.outputs w.outputs (i.0 ∷ []) (j.0 ∷ [])
    (puts_same hs gs n (suc q) (suc g) (puts_out m (i.0 ∷ [])) (puts_out w (j.0 ∷ [])) r v i.2 j.2 o)).0

-- ---- what is known

module _ {N : Type 0} (D : Ops N) (law : Lawful D) (p : Program) (ord : Side → Order) (base : Inputs)
    (ms : Side → Machine) (k : Known N) (moved : Moved D p ord base ms k) (m : Memories) (kept : IsKept D p ord k m)
  where
    abbrev held_in : Side → ℕ → List Held
    held_in s b = bytes_in (ms s).memory b

    abbrev reading : Side → (b q : ℕ) → ReadValue N
    reading s b q = read D k (cells_of s) b q (Int U8)

    -- a byte of a side
    module _ (s : Side) (b q : ℕ) (y : Symbol) (there : loaded_bytes (ord s) (held_in s b) q 1 0 1 ≡ Ok (y ∷ [])) where
      read_as : IsReadAs base (reading s b q) (y ∷ [])
      read_as = reads_know D p ord base ms k moved s b q U8 (y ∷ []) there

      number_of : (n : N) × ((reading s b q).value ≡ Some (Num n))
      number_of =
          let f = (of_reads D law).holds k (cells_of s) b q (Int U8) kept.state.cells m kept.holds read_as.sure
          read_as.unmixed in
          let i = is_int D U8 (reading s b q).value f.datum f.allowed in
          (i.num.number, i.num.is)

      set : is_unset (reading s b q ∷ []) ≡ false
      set =
          ap (λ z. (z || (option_map_or (λ v. false) (reading s b q).value true && not (reading s b q).mixed)) || false)
          read_as.sure
          ∙ ap (λ v. (option_map_or (λ v. false) v true && not (reading s b q).mixed) || false) number_of.1

      unmixed : is_mixed (reading s b q ∷ []) ≡ false
      unmixed = ap (λ z. z || false) read_as.unmixed

      is_there : is_some (reading s b q).value ≡ true
      is_there = ap is_some number_of.1

    -- from one place on each side
    module _ (equal : Bool) (b q c g : ℕ) where
      abbrev places : Places
      places = record { left = (b, q) ∷ []; right = (c, g) ∷ [] }

      -- both machines have this byte
      module _ (i : ℕ) (y : Symbol) (l : loaded_bytes (ord left) (held_in left b) (q + i) 1 0 1 ≡ Ok (y ∷ []))
          (r : loaded_bytes (ord right) (held_in right c) (g + i) 1 0 1 ≡ Ok (y ∷ [])) where
        abbrev pair : PairValue N
        pair = byte_pair D Both equal k places i

        all_set : (s : Side) → is_unset (byte_reads D k places i s) ≡ false
        all_set left = set left b (q + i) y l
        all_set right = set right c (g + i) y r

        all_unmixed : (s : Side) → is_mixed (byte_reads D k places i s) ≡ false
        all_unmixed left = unmixed left b (q + i) y l
        all_unmixed right = unmixed right c (g + i) y r

        byte_quiet : byte_faults D Both k places i ≡ []
        byte_quiet =
            no_faults (faults_on Both U4 (λ s. shown_if (is_unset (byte_reads D k places i s))))
            (faults_on Both U10 (λ s. shown_if (is_mixed (byte_reads D k places i s))))
            (faults_on-none Both U4 (λ s. shown_if (is_unset (byte_reads D k places i s)))
            (λ s z. ap shown_if (all_set s)))
            (faults_on-none Both U10 (λ s. shown_if (is_mixed (byte_reads D k places i s)))
            (λ s z. ap shown_if (all_unmixed s)))

        byte_there : has_values Both pair ≡ true
        byte_there =
            and_from (is_some (reading left b (q + i)).value) (is_some (reading right c (g + i)).value)
            (is_there left b (q + i) y l) (is_there right c (g + i) y r)

        same_form : have_same_form pair.left.form pair.right.form ≡ true
        same_form =
            (forms_follow base).same pair.left.form pair.right.form (y ∷ []) (read_as left b (q + i) y l).form
            (read_as right c (g + i) y r).form

        byte_same : is_same D pair ≡ true
        byte_same =
            or_right pair.equal
            (have_same_form pair.left.form pair.right.form
            || (are_one_number D pair.left.value pair.right.value || are_one_pointer D pair.left.value pair.right.value))
            (or_left (have_same_form pair.left.form pair.right.form)
            (are_one_number D pair.left.value pair.right.value || are_one_pointer D pair.left.value pair.right.value)
            same_form)

      pub bytes_agree : (n i h j : ℕ) (u w r v : Machine) → h ≡ q + i → j ≡ g + i → Puts (held_in left b) n h u r
          → Puts (held_in right c) n j w v → r.outputs ≡ v.outputs
          → bytes_out D Both equal k places i n ≡ stepped [] (Some k)
      bytes_agree zero i h j u w r v eh ej pu pw o = refl
      bytes_agree (suc n) i h j u w r v eh ej pu pw o =
          let u1 = puts_out u (pu.0 ∷ []) in
          let w1 = puts_out w (pw.0 ∷ []) in
          let all = puts_same (held_in left b) (held_in right c) n (suc h) (suc j) u1 w1 r v pu.2 pw.2 o in
          let same : pu.0 ≡ pw.0
          = one_symbol pu.0 pw.0 (last_is u.outputs w.outputs (pu.0 ∷ []) (pw.0 ∷ []) all).1 in
          let l : loaded_bytes (ord left) (held_in left b) (q + i) 1 0 1 ≡ Ok (pu.0 ∷ [])
          = subst (λ z. loaded_bytes (ord left) (held_in left b) z 1 0 1 ≡ Ok (pu.0 ∷ [])) eh (pu.1 (ord left)) in
          let a : loaded_bytes (ord right) (held_in right c) (g + i) 1 0 1 ≡ Ok (pu.0 ∷ [])
          = subst (λ z. loaded_bytes (ord right) (held_in right c) z 1 0 1 ≡ Ok (pu.0 ∷ [])) ej
          (pw.1 (ord right) ∙ ap (λ y. Ok (y ∷ [])) (sym same)) in
          let nh : suc h ≡ q + (i + 1) = omega (arith, eh) in
          let nj : suc j ≡ g + (i + 1) = omega (arith, ej) in
          let two = byte_pair D Both equal k places i in
          let more = bytes_out D Both equal k places (i + 1) n in
          ap (λ fs. after_faults fs (if has_values Both two
          then after_faults (differ_faults D (is_same D two) two) more else stepped [] None)) (byte_quiet i pu.0 l a)
          ∙ ap (λ t. after_faults [] (if t then after_faults (differ_faults D (is_same D two) two) more
          else stepped [] None)) (byte_there i pu.0 l a)
          ∙ ap (λ t. after_faults [] (after_faults (differ_faults D t two) more)) (byte_same i pu.0 l a)
          ∙ ap (λ z. after_faults [] (after_faults [] z))
          (bytes_agree n (i + 1) (suc h) (suc j) u1 w1 r v nh nj pu.2 pw.2 o)
