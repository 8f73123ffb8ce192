-- A byte of one block among others.
use Rattle.std.proofs.Common.{◌≡◌, ℕ, suc, ◌+◌, ◌<◌, ◌≤◌, Bool, true, false, ◌||◌, if◌then◌else◌, List}
use Rattle.std.proofs.Common.{[], ◌∷◌, ◌++◌, length, map, drop, get_or, slice_set, set, Option, Result, Ok, Err}
use Rattle.std.proofs.Common.{sym, ap, ◌∙◌, arith}
use Rattle.std.specs.declared.alloc.Global.{Global}
use Rattle.std.specs.declared.vec.Vec.{Vec}
use Rattle.std.proofs.lemmas.Bool.{lt-ltb}
use Rattle.std.proofs.lemmas.List.{drop_more, drop_all, get_or-map, get_or_default}
use Rattle.std.proofs.lemmas.List.{map-append, map-set}
use Rattle.ep_int.specs.declared.types.Scalar.{Scalar}
use Rattle.ep_core.specs.declared.program.BlockInfo.{BlockInfo}
use Rattle.ep_core.specs.Runs.{is_result}
use Rattle.ep_core.specs.View.{block_view}
use Rattle.ep_movers.specs.declared.Stop.{Stop}
use Rattle.ep_movers.specs.declared.Stop.TheVariants.{Foreign, Faulty}
use Rattle.ep_movers.specs.Symbols.{goes_on}
use Rattle.ep_double.specs.declared.mover.bytes.ByteState.{ByteState}
use Rattle.ep_double.specs.declared.mover.bytes.ByteState.TheVariants.{Unset}
use Rattle.ep_double.specs.declared.mover.memory.ByteHeld.{ByteHeld}
use Rattle.ep_double.specs.ByteStates.{States, states_in, state_held, states_of_block, put_in_block, put_state}
use Rattle.ep_double.specs.ByteStates.{set_state, blank_states, blank_blocks_states}
use Rattle.ep_double.proofs.ByteSteps.{one_more, no_more}

abbrev Block : Type 0
Block = Vec ByteHeld Global

pub block_found : (m : List Block) (b : ℕ) (v : Block) → b < length m → v ≡ get_or m b v
    → v.items ≡ states_of_block (states_in m) b
block_found m b v l e =
    sym (get_or-map (λ (v : Block). v.items) m b v [] l ∙ ap (λ (v : Block). v.items) (sym e))

module _ (hs : List ByteHeld) (q : ℕ) (x : ByteState) where
  in_there : (w : Bool) → q < length hs → (get_or hs q (state_held Unset false)).written ≡ w
      → put_in_block hs q x ≡ (if w then Err Foreign else Ok (slice_set hs q (state_held x true)))
  in_there w l e =
      ap (λ t. if t
      then (if (get_or hs q (state_held Unset false)).written then Err Foreign
      else Ok (slice_set hs q (state_held x true))) else Err Faulty) (lt-ltb q (length hs) l)
      ∙ ap (λ w. if w then Err Foreign else Ok (slice_set hs q (state_held x true))) e

module _ (m : List Block) (b q : ℕ) (x : ByteState) where
  abbrev then_set : List ByteHeld → Result States Stop
  then_set hs = Ok (slice_set (states_in m) b hs)

  module _ (v : Block) (here : b < length m) (is : v ≡ get_or m b v) where
    found : (r : Result (List ByteHeld) Stop) → put_in_block v.items q x ≡ r
        → goes_on r then_set ≡ put_state (states_in m) b q x
    found r h =
        ap (λ s. goes_on s then_set) (sym h)
        ∙ ap (λ hs. goes_on (put_in_block hs q x) then_set) (block_found m b v here is)

    module _ (d : ByteHeld) (inside : q < length v.items) where
      same_byte : get_or v.items q (state_held Unset false) ≡ get_or v.items q d
      same_byte = get_or_default v.items q (state_held Unset false) d inside

      pub put_there : (get_or v.items q d).written ≡ false → (u : Block)
          → u.items ≡ slice_set v.items q (state_held x true)
          → Ok (states_in (set m b u)) ≡ put_state (states_in m) b q x
      put_there h u e =
          ap Ok (map-set (λ (v : Block). v.items) m b u ∙ ap (slice_set (states_in m) b) e)
          ∙ found (Ok (slice_set v.items q (state_held x true)))
          (in_there v.items q x false inside (ap (λ (y : ByteHeld). y.written) same_byte ∙ h))

    pub set_there : (u : Block) → u.items ≡ slice_set v.items q (state_held x false)
        → states_in (set m b u) ≡ set_state (states_in m) b q x
    set_there u e =
        map-set (λ (v : Block). v.items) m b u
        ∙ ap (slice_set (states_in m) b)
        (e ∙ ap (λ hs. slice_set hs q (state_held x false)) (block_found m b v here is))

-- ---- blocks before the first statement

pub blocks_step : (r : Option (ℕ × Scalar)) (n : ℕ) (bs : List BlockInfo) (all new : List Block) (w : States)
    (d : BlockInfo) (v : Block) (z t : Bool) → n < length bs
    → states_in all ++ blank_blocks_states r n (map block_view (drop n bs)) ≡ w → new ≡ all ++ v ∷ []
    → v.items ≡ blank_states z (get_or bs n d).size → z ≡ ((get_or bs n d).global || t) → t ≡ is_result r n
    → states_in new ++ blank_blocks_states r (n + 1) (map block_view (drop (n + 1) bs)) ≡ w
blocks_step r n bs all new w d v z t l rest push made zero_is told =
    let b = get_or bs n d in
    let more = map block_view (drop (n + 1) bs) in
    one_more (states_in all) (blank_blocks_states r (n + 1) more) w (states_in new) v.items
    (ap states_in push ∙ map-append (λ (v : Block). v.items) all (v ∷ []))
    (ap (λ h. states_in all ++ (h ∷ blank_blocks_states r (n + 1) more))
    (made ∙ ap (λ t. blank_states t b.size) (zero_is ∙ ap (λ t. b.global || t) told))
    ∙ (ap (λ i. states_in all ++ (blank_states (b.global || is_result r n) b.size ∷ blank_blocks_states r i more)) (one_on n)
    ∙ (ap (λ cs. states_in all ++ blank_blocks_states r n (map block_view cs)) (sym (drop_more bs n d l)) ∙ rest)))
  where
    one_on : (k : ℕ) → k + 1 ≡ suc k
    one_on k = omega arith

pub blocks_end : (r : Option (ℕ × Scalar)) (n : ℕ) (bs : List BlockInfo) (all : List Block) (w : States)
    → length bs ≤ n → states_in all ++ blank_blocks_states r n (map block_view (drop n bs)) ≡ w → states_in all ≡ w
blocks_end r n bs all w past rest =
    no_more (states_in all) (blank_blocks_states r n (map block_view (drop n bs))) w
    (ap (λ cs. blank_blocks_states r n (map block_view cs)) (drop_all n bs past)) rest
