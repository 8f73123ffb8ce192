-- A run of inputs goes byte by byte to a whole block.
use Rattle.std.proofs.Common.{◌≡◌, ℕ, zero, suc, ◌+◌, ◌^◌, ◌<◌, ◌≤◌, true, List, [], ◌∷◌, length, Ok, sym, ap}
use Rattle.std.proofs.Common.{subst, arith}
use Rattle.ep_int.specs.declared.types.IntType.TheVariants.{U8}
use Rattle.ep_int.specs.declared.types.Order.{Order}
use Rattle.ep_int.specs.declared.types.Scalar.TheVariants.{Int}
use Rattle.ep_domain.specs.Domain.{Ops}
use Rattle.ep_cells.specs.States.{Known}
use Rattle.ep_core.specs.Program.{Program}
use Rattle.ep_core.specs.Runs.{Side}
use Rattle.ep_equalities.specs.declared.pair.Mode.TheVariants.{Both}
use Rattle.ep_transfers.specs.Writes.{Underway, underway, write_run}
use Rattle.ep_movers.specs.Movers.{Held, Machine, bytes_in, byte_written, remembers, taken, bytes_taken}
use Rattle.ep_movers.specs.Symbols.{is_set, input_byte}
use Rattle.ep_mover_bits.specs.Laws.{Inputs}
use Rattle.ep_mover_cells.specs.Known.{symbol_at, Moved}
use Rattle.ep_mover_cells.proofs.Loaded.{ok_same, went_on}
use Rattle.ep_mover_steps.proofs.Stepping.{moved_same}
use Rattle.ep_mover_input_bytes.specs.Laws.{at_begin, input_item, after_input, MovedBelow, InputBytesKeep}

set_inside : (hs : List Held) (r : ℕ) → is_set (symbol_at hs r) ≡ true → r < length hs
set_inside [] r e = absurd (cc)
set_inside (h ∷ hs) zero e = omega arith
set_inside (h ∷ hs) (suc r) e = let l = set_inside hs r e in omega (arith, l)

module _ {N : Type 0} (D : Ops N) where
  -- n inputs go to the first bytes of a block, one after another
  abbrev pub after_inputs : (b n : ℕ) → Known N → Known N
  after_inputs b n k = (write_run D Both true (Int U8) (at_begin b) 0 n (underway k (input_item D))).known

module _ {N : Type 0} (D : Ops N) (p : Program) (ord : Side → Order) where
  below_none : (base : Inputs) (ms : Side → Machine) (k : Known N) (b n : ℕ) → Moved D p ord base ms k
      → ((s : Side) → length (bytes_in (ms s).memory b) ≤ n) → MovedBelow D p ord base ms k b n 0
  below_none base ms k b n h ends = record {
    state = h.state;
    said = λ s a r e u. (
      h.said s a r e,
      λ f. absurd (let l = u f in let z : ⊥ = omega (arith, l) in z),
    );
    whole = h.whole;
    counts = h.counts;
    inputs = h.inputs;
    own = h.own;
    taken = h.taken;
    ends = ends;
  }

  below_all : (base : Inputs) (ms : Side → Machine) (k : Known N) (b n : ℕ) → MovedBelow D p ord base ms k b n n
      → Moved D p ord base ms k
  below_all base ms k b n h = record {
    state = h.state;
    said = λ s a r e. (h.said s a r e (λ f. inside s a r e f)).0;
    whole = h.whole;
    counts = h.counts;
    inputs = h.inputs;
    own = h.own;
    taken = h.taken;
  }
    where
      inside : (s : Side) (a r : ℕ) → is_set (symbol_at (bytes_in (ms s).memory a) r) ≡ true → a ≡ b → r < n
      inside s a r e f =
          let l = set_inside (bytes_in (ms s).memory b) r
          (subst (λ a. is_set (symbol_at (bytes_in (ms s).memory a) r) ≡ true) f e) in
          omega (arith, l, h.ends s)

  module _ (keep : InputBytesKeep D) (b n : ℕ) (few : n ≤ 2 ^ 32) where
    abbrev run : (q c : ℕ) → Underway N → Known N
    run q c u = (write_run D Both true (Int U8) (at_begin b) q c u).known

    runs_keep : (c q : ℕ) (base : Inputs) (ms ns : Side → Machine) (k : Known N) → q + c ≡ n
        → MovedBelow D p ord base ms k b n q → ((s : Side) → bytes_taken b q c (ms s) ≡ Ok (ns s))
        → (then_base : Inputs) × Moved D p ord then_base ns (run q c (underway k (input_item D)))
    runs_keep zero q base ms ns k e h steps =
        let z : q ≡ n = omega (arith, e) in (
          base,
          moved_same D p ord base ms ns k
              (below_all base ms k b n (subst (λ q. MovedBelow D p ord base ms k b n q) z h))
              (λ s. ap (λ (m : Machine). m.memory) (sym (ok_same (ms s) (ns s) (steps s))))
              (λ s. ap (λ (m : Machine). m.inputs) (sym (ok_same (ms s) (ns s) (steps s)))),
        )
    runs_keep (suc c) q base ms ns k e h steps =
        let x = keep p ord base ms k b n q (omega (arith, e)) few h (λ s. (first s).0) (λ s. (first s).1) in
        let next : q + 1 ≡ suc q = omega arith in
        let r = runs_keep c (suc q) x.0 (λ s. taken (remembers (ms s) b (first s).0) 1) ns (after_input D b q k).known
        (omega (arith, e)) x.2 (λ s. (first s).2) in (
          r.0,
          subst (λ i. Moved D p ord r.0 ns (run (q + 1) c (underway (after_input D b q k).known i))) (sym x.1)
              (subst (λ j. Moved D p ord r.0 ns (run j c (underway (after_input D b q k).known (input_item D))))
              (sym next) r.1),
        )
      where
        first : (s : Side) → (hs : List Held)
            × (byte_written (bytes_in (ms s).memory b) q (input_byte (ms s).inputs 0) ≡ Ok hs)
            × (bytes_taken b (suc q) c (taken (remembers (ms s) b hs) 1) ≡ Ok (ns s))
        first s =
            went_on (byte_written (bytes_in (ms s).memory b) q (input_byte (ms s).inputs 0))
            (λ hs. bytes_taken b (suc q) c (taken (remembers (ms s) b hs) 1)) (ns s) (steps s)

    pub all_keep : (base : Inputs) (ms ns : Side → Machine) (k : Known N) → Moved D p ord base ms k
        → ((s : Side) → length (bytes_in (ms s).memory b) ≤ n) → ((s : Side) → bytes_taken b 0 n (ms s) ≡ Ok (ns s))
        → (then_base : Inputs) × Moved D p ord then_base ns (after_inputs D b n k)
    all_keep base ms ns k h ends steps =
        runs_keep n 0 base ms ns k (omega arith) (below_none base ms k b n h ends) steps
