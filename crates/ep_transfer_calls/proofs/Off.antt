-- What is left of a form where blocks come: all of it, if it mentions none of them.
use Rattle.std.proofs.Common.{◌≡◌, ℕ, zero, suc, ◌+◌, ◌-◌, ◌/◌, Bool, true, false, if◌then◌else◌, List, [], ◌∷◌, ◌++◌}
use Rattle.std.proofs.Common.{Option, Some, None, refl, sym, ap, ◌∙◌}
use Rattle.std.specs.List.{list_all}
use Rattle.std.specs.Option.{option_map, option_map_or}
use Rattle.std.proofs.lemmas.Bool.{and_parts}
use Rattle.ep_int.specs.Memory.{contains}
use Rattle.ep_bitslice.specs.declared.cell.CellName.{CellName}
use Rattle.ep_bitslice.specs.declared.segment.Segment.{Segment}
use Rattle.ep_bitslice.specs.declared.segment.Segment.TheVariants.{Bits, Fixed}
use Rattle.ep_bitslice.specs.Bits.{Bit, cell_bit}
use Rattle.ep_bitslice.specs.Segments.{run_bits, fixed_bits, segment_bits, bits, normal, AreSegments}
use Rattle.ep_cells.specs.Forms.{Fate, bit_after, put_bit, bits_after, form_after}
use Rattle.ep_cell_rows.specs.Parts.{goes_on}
use Rattle.ep_cell_rows.proofs.Renaming.{one_stops}
use Rattle.ep_transfers.specs.Transfers.{fate_off_blocks}

off_is : (t : Bool) (c : CellName) → option_map_or (λ e. true) (if t then None else Some c) false ≡ true
    → (if t then None else Some c) ≡ Some c
off_is true c h = absurd (cc)
off_is false c h = refl

put_parts : (b : Option Bit) (o : Option (List Bit)) (x : Bit) (xs : List Bit) → put_bit b o ≡ Some (x ∷ xs)
    → (b ≡ Some x) × (o ≡ Some xs)
put_parts None o x xs h = absurd (cc)
put_parts (Some y) None x xs h = absurd (cc)
put_parts (Some y) (Some ys) x xs h =
    let same : y ≡ x = cc in
    let rest : ys ≡ xs = cc in
    (ap Some same, ap Some rest)

module _ (frame : List ℕ) where
  abbrev fate : Fate
  fate = fate_off_blocks frame

  run_stays : (c : CellName) → fate c ≡ Some c → (k n : ℕ) → bits_after fate (run_bits c k n) ≡ Some (run_bits c k n)
  run_stays c h k zero = refl
  run_stays c h k (suc n) =
      ap (λ o. put_bit (option_map (λ e. cell_bit e k) o) (bits_after fate (run_bits c (k + 1) n))) h
      ∙ ap (put_bit (Some (cell_bit c k))) (run_stays c h (k + 1) n)

  fixed_stays : (w v : ℕ) → bits_after fate (fixed_bits w v) ≡ Some (fixed_bits w v)
  fixed_stays zero v = refl
  fixed_stays (suc w) v = ap (put_bit (Some _)) (fixed_stays w (v / 2))

  segment_stays : (s : Segment) → goes_on fate s ≡ true → bits_after fate (segment_bits s) ≡ Some (segment_bits s)
  segment_stays (Bits c from to) h = run_stays c (off_is (contains c.block frame) c h) from (to - from)
  segment_stays (Fixed v w) h = fixed_stays w v

  append_stays : (xs ys : List Bit) → bits_after fate xs ≡ Some xs → bits_after fate ys ≡ Some ys
      → bits_after fate (xs ++ ys) ≡ Some (xs ++ ys)
  append_stays [] ys h k = k
  append_stays (x ∷ xs) ys h k =
      let t = put_parts (bit_after fate x) (bits_after fate xs) x xs h in
      ap (λ b. put_bit b (bits_after fate (xs ++ ys))) t.0 ∙ ap (put_bit (Some x)) (append_stays xs ys t.1 k)

  all_stay : (ss : List Segment) → list_all (goes_on fate) ss ≡ true → bits_after fate (bits ss) ≡ Some (bits ss)
  all_stay [] h = refl
  all_stay (s ∷ ss) h =
      let t = and_parts (goes_on fate s) (list_all (goes_on fate) ss) h in
      append_stays (segment_bits s) (bits ss) (segment_stays s t.0) (all_stay ss t.1)

  -- one that mentions no block of the frame stays
  pub form_stays : (ss : List Segment) → normal (bits ss) ≡ ss → list_all (goes_on fate) ss ≡ true
      → Some ss ≡ form_after fate (Some ss)
  form_stays ss e h = sym (ap (option_map normal) (all_stay ss h) ∙ ap Some e)

  -- one that mentions some goes
  pub form_goes : (ss : List Segment) → AreSegments ss → list_all (goes_on fate) ss ≡ false
      → None ≡ form_after fate (Some ss)
  form_goes ss a h = sym (ap (option_map normal) (one_stops fate ss a h))
