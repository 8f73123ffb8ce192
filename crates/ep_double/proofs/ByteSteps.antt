-- One byte after another.
use Rattle.std.proofs.Common.{◌≡◌, ℕ, zero, suc, ◌+◌, ◌-◌, ◌*◌, ◌/◌, ◌%◌, ◌^◌, ◌<◌, ◌≤◌, Bool, true, false, ◌&&◌}
use Rattle.std.proofs.Common.{◌||◌, nat_eq, nat_lt, if◌then◌else◌, List, [], ◌∷◌, ◌++◌, length, take, drop, get_or}
use Rattle.std.proofs.Common.{eq-zero-or-pos, inl, inr, min}
use Rattle.std.proofs.Common.{Result, Ok, Err, refl, sym, ap, ◌∙◌, arith}
use Rattle.std.proofs.lemmas.Bool.{ltb-true, ltb-false}
use Rattle.std.proofs.lemmas.List.{append_assoc, append-nil, length-append, drop_more, drop_all}
use Rattle.std.proofs.lemmas.List.{take_more, get_or_append_left, get_or-append_right, get_or-drop}
use Rattle.ep_int.specs.declared.types.Order.{Order}
use Rattle.ep_int.specs.Encoding.{byte_of, place}
use Rattle.ep_int.proofs.Encodings.{bytes_pow}
use Rattle.ep_movers.specs.declared.Stop.{Stop}
use Rattle.ep_movers.specs.Symbols.{goes_on}
use Rattle.ep_double.specs.declared.mover.bytes.ByteState.{ByteState}
use Rattle.ep_double.specs.declared.mover.bytes.ByteState.TheVariants.{Unset, Zero, Other}
use Rattle.ep_double.specs.declared.mover.memory.ByteHeld.{ByteHeld}
use Rattle.ep_double.specs.ByteStates.{are_whole_bytes, state_of_byte, fixed_states, merged_state, merged_states}
use Rattle.ep_double.specs.ByteStates.{masked_states, zero_states, state_at, loaded_states, States, put_state}
use Rattle.ep_double.specs.ByteStates.{put_states, set_state, set_states, take_states, show_states, state_held}
use Rattle.ep_double.specs.ByteStates.{blank_states}
use Rattle.ep_double.proofs.ByteLaws.{zero_length}

pub byte_by_shift : (k n : ℕ) → n / 2 ^ (8 * k) % 256 ≡ byte_of k n
byte_by_shift k n = ap (λ m. n / m % 256) (sym (bytes_pow k))

one_on : (k : ℕ) → k + 1 ≡ suc k
one_on k = omega arith

left_over : (k n : ℕ) → k < n → n - k ≡ suc (n - (k + 1))
left_over k n h = omega arith

none_left : (k n : ℕ) → n ≤ k → n - k ≡ 0
none_left k n h = omega arith

-- ---- tests one after another

pub stops_here : (p w t r : Bool) → p ≡ w → p ≡ (t && r) → t ≡ false → false ≡ w
stops_here p w t r h e f = sym (e ∙ ap (λ b. b && r) f) ∙ h

pub goes_further : (p w t r : Bool) → p ≡ w → p ≡ (t && r) → t ≡ true → r ≡ w
goes_further p w t r h e f = sym (e ∙ ap (λ b. b && r) f) ∙ h

pub next_whole : (n k : ℕ) → k < 8 → are_whole_bytes n k (8 - k)
    ≡ ((nat_eq (byte_of k n) 0 || nat_eq (byte_of k n) 255) && are_whole_bytes n (k + 1) (8 - (k + 1)))
next_whole n k h =
    ap (are_whole_bytes n k) (left_over k 8 h)
    ∙ ap (λ i. (nat_eq (byte_of k n) 0 || nat_eq (byte_of k n) 255) && are_whole_bytes n i (8 - (k + 1))) (sym (one_on k))

pub all_whole : (n k : ℕ) → 8 ≤ k → are_whole_bytes n k (8 - k) ≡ true
all_whole n k h = ap (are_whole_bytes n k) (none_left k 8 h)

-- ---- lists that grow

module _ {X : Type 0} where
  -- these items, and then what comes
  abbrev pub after : List X → Result (List X) Stop → Result (List X) Stop
  after xs r = goes_on r (λ ys. Ok (xs ++ ys))

  pub one_more : (xs ys zs new : List X) (x : X) → new ≡ xs ++ x ∷ [] → xs ++ (x ∷ ys) ≡ zs → new ++ ys ≡ zs
  one_more xs ys zs new x push e = ap (λ l. l ++ ys) push ∙ (append_assoc xs (x ∷ []) ys ∙ e)

  pub no_more : (xs ys zs : List X) → ys ≡ [] → xs ++ ys ≡ zs → xs ≡ zs
  no_more xs ys zs none e = sym (ap (λ l. xs ++ l) none ∙ append-nil xs) ∙ e

  pub after_more : (xs new : List X) (x : X) (r : Result (List X) Stop) → new ≡ xs ++ x ∷ []
      → after new r ≡ after xs (goes_on r (λ ys. Ok (x ∷ ys)))
  after_more xs new x (Ok ys) push = ap (λ l. Ok (l ++ ys)) push ∙ ap Ok (append_assoc xs (x ∷ []) ys)
  after_more xs new x (Err s) push = refl

  pub after_none : (xs : List X) → after xs (Ok []) ≡ Ok xs
  after_none xs = ap Ok (append-nil xs)

-- ---- numbers

pub fixed_step : (n c k : ℕ) (all new w : List ByteState) (x : ByteState) (b : ℕ) → k < c
    → all ++ fixed_states n k (c - k) ≡ w → new ≡ all ++ x ∷ [] → x ≡ state_of_byte b → b ≡ byte_of k n
    → new ++ fixed_states n (k + 1) (c - (k + 1)) ≡ w
fixed_step n c k all new w x b l rest push is at =
    one_more all (fixed_states n (k + 1) (c - (k + 1))) w new x push
    (ap (λ y. all ++ (y ∷ fixed_states n (k + 1) (c - (k + 1)))) (is ∙ ap state_of_byte at)
    ∙ (ap (λ i. all ++ (state_of_byte (byte_of k n) ∷ fixed_states n i (c - (k + 1)))) (one_on k)
    ∙ (ap (λ j. all ++ fixed_states n k j) (sym (left_over k c l)) ∙ rest)))

pub fixed_end : (n c k : ℕ) (all w : List ByteState) → c ≤ k → all ++ fixed_states n k (c - k) ≡ w → all ≡ w
fixed_end n c k all w past rest =
    no_more all (fixed_states n k (c - k)) w (ap (fixed_states n k) (none_left k c past)) rest

pub masked_step : (n k : ℕ) (xs all new w : List ByteState) (d y : ByteState) (b : ℕ) → k < length xs
    → all ++ masked_states n k (drop k xs) ≡ w → new ≡ all ++ y ∷ []
    → y ≡ (if nat_eq b 255 then get_or xs k d else Zero) → b ≡ byte_of k n
    → new ++ masked_states n (k + 1) (drop (k + 1) xs) ≡ w
masked_step n k xs all new w d y b l rest push is at =
    one_more all (masked_states n (k + 1) (drop (k + 1) xs)) w new y push
    (ap (λ z. all ++ (z ∷ masked_states n (k + 1) (drop (k + 1) xs)))
    (is ∙ ap (λ m. if nat_eq m 255 then get_or xs k d else Zero) at)
    ∙ (ap
    (λ i. all
    ++ ((if nat_eq (byte_of k n) 255 then get_or xs k d else Zero) ∷ masked_states n i (drop (k + 1) xs))) (one_on k)
    ∙ (ap (λ ys. all ++ masked_states n k ys) (sym (drop_more xs k d l)) ∙ rest)))

pub masked_end : (n k : ℕ) (xs all w : List ByteState) → length xs ≤ k
    → all ++ masked_states n k (drop k xs) ≡ w → all ≡ w
masked_end n k xs all w past rest =
    no_more all (masked_states n k (drop k xs)) w (ap (masked_states n k) (drop_all k xs past)) rest

zeros_at : (n k : ℕ) → get_or (zero_states n) k Zero ≡ Zero
zeros_at zero k = refl
zeros_at (suc n) zero = refl
zeros_at (suc n) (suc k) = zeros_at n k

filled_at : (xs : List ByteState) (w k : ℕ) → get_or (xs ++ zero_states w) k Zero ≡ get_or xs k Zero
filled_at [] w k = zeros_at w k
filled_at (x ∷ xs) w zero = refl
filled_at (x ∷ xs) w (suc k) = filled_at xs w k

turned : (a b : ℕ) → a + b ≡ b + a
turned a b = omega arith

-- a byte of what moved bytes are
moved_at : (u d w k : ℕ) (xs : List ByteState)
    → get_or (zero_states u ++ (drop d xs ++ zero_states w)) k Zero
    ≡ (if nat_lt k u then Zero else get_or xs (k - u + d) Zero)
moved_at u d w k xs = by_place (nat_lt k u) refl
  where
    by_place : (b : Bool) → nat_lt k u ≡ b
        → get_or (zero_states u ++ (drop d xs ++ zero_states w)) k Zero
        ≡ (if b then Zero else get_or xs (k - u + d) Zero)
    by_place true e =
        let l = ltb-true k u e in
        let n = zero_length u in
        get_or_append_left (zero_states u) (drop d xs ++ zero_states w) Zero k (omega (arith, l, n)) ∙ zeros_at u k
    by_place false e =
        get_or-append_right (zero_states u) (drop d xs ++ zero_states w) u k Zero (zero_length u) (ltb-false k u e)
        ∙ (filled_at (drop d xs) w (k - u)
        ∙ (get_or-drop d xs (k - u) Zero ∙ ap (λ i. get_or xs i Zero) (turned d (k - u))))

pub moved_step : (u d w k : ℕ) (xs all new : List ByteState) (y : ByteState) → k < w
    → all ≡ take k (zero_states u ++ (drop d xs ++ zero_states w)) → new ≡ all ++ y ∷ []
    → y ≡ (if nat_lt k u then Zero else get_or xs (k - u + d) Zero)
    → new ≡ take (k + 1) (zero_states u ++ (drop d xs ++ zero_states w))
moved_step u d w k xs all new y l done push is =
    let zs = zero_states u ++ (drop d xs ++ zero_states w) in
    push ∙ (ap (λ (l : List ByteState). l ++ y ∷ []) done
    ∙ (ap (λ x. take k zs ++ x ∷ []) (is ∙ sym (moved_at u d w k xs)) ∙ sym (take_more zs k Zero long)))
  where
    long : k < length (zero_states u ++ (drop d xs ++ zero_states w))
    long =
        let a = length-append (zero_states u) (drop d xs ++ zero_states w) in
        let b = length-append (drop d xs) (zero_states w) in
        let c = zero_length w in omega (arith, l, a, b, c)

pub to_end : (all zs : List ByteState) (k w : ℕ) → k ≡ w → all ≡ take k zs → all ≡ take w zs
to_end all zs k w e h = h ∙ ap (λ n. take n zs) e

-- ---- two lists merged

module _ (xs ys all : List ByteState) (w : Result (List ByteState) Stop) (k : ℕ)
    (rest : after all (merged_states (drop k xs) (drop k ys)) ≡ w) where
  pub merged_past_left : length xs ≤ k → Ok all ≡ w
  merged_past_left past =
      sym (ap (λ l. after all (merged_states l (drop k ys))) (drop_all k xs past) ∙ after_none all) ∙ rest

  module _ (d : ByteState) (here : k < length xs) where
    pub merged_past_right : length ys ≤ k → Ok all ≡ w
    merged_past_right past =
        sym (ap (λ l. after all (merged_states l (drop k ys))) (drop_more xs k d here)
        ∙ (ap (λ l. after all (merged_states (get_or xs k d ∷ drop (k + 1) xs) l)) (drop_all k ys past)
        ∙ after_none all)) ∙ rest

    module _ (e : ByteState) (there : k < length ys) where
      both : after all
          (goes_on (merged_state (get_or xs k d) (get_or ys k e))
          (λ z. goes_on (merged_states (drop (k + 1) xs) (drop (k + 1) ys)) (λ zs. Ok (z ∷ zs)))) ≡ w
      both =
          sym (ap (λ l. after all (merged_states l (drop k ys))) (drop_more xs k d here)
          ∙ ap (λ l. after all (merged_states (get_or xs k d ∷ drop (k + 1) xs) l)) (drop_more ys k e there)) ∙ rest

      pub merged_stops : (s : Stop) → Err s ≡ merged_state (get_or xs k d) (get_or ys k e) → Err s ≡ w
      merged_stops s h =
          ap (λ r. after all
          (goes_on r (λ z. goes_on (merged_states (drop (k + 1) xs) (drop (k + 1) ys)) (λ zs. Ok (z ∷ zs))))) h ∙ both

      pub merged_step : (z : ByteState) (new : List ByteState) → Ok z ≡ merged_state (get_or xs k d) (get_or ys k e)
          → new ≡ all ++ z ∷ [] → after new (merged_states (drop (k + 1) xs) (drop (k + 1) ys)) ≡ w
      merged_step z new h push =
          after_more all new z (merged_states (drop (k + 1) xs) (drop (k + 1) ys)) push
          ∙ (ap (λ r. after all
          (goes_on r (λ z. goes_on (merged_states (drop (k + 1) xs) (drop (k + 1) ys)) (λ zs. Ok (z ∷ zs))))) h ∙ both)

  pub merged_end : (d : ByteState) → min (length xs) (length ys) ≤ k → Ok all ≡ w
  merged_end d past = elim (eq-zero-or-pos (length xs - k)) [
    | inl none ↦ merged_past_left (omega (arith, none))
    | inr some ↦ merged_past_right d (omega (arith, some)) (omega (arith, some, past))
  ]

-- ---- loads

module _ (o : Order) (hs : List ByteHeld) (q n k : ℕ) (all : List ByteState) (w : Result (List ByteState) Stop)
    (rest : after all (loaded_states o hs q n k (n - k)) ≡ w) where
  pub loaded_end : n ≤ k → Ok all ≡ w
  loaded_end past = sym (ap (λ c. after all (loaded_states o hs q n k c)) (none_left k n past) ∙ after_none all) ∙ rest

  module _ (p : ℕ) (at : p ≡ place o n k) (here : k < n) where
    one : after all
        (goes_on (state_at hs (q + p)) (λ x. goes_on (loaded_states o hs q n (k + 1) (n - (k + 1))) (λ xs. Ok (x ∷ xs))))
        ≡ w
    one =
        ap (λ i. after all
        (goes_on (state_at hs (q + i)) (λ x. goes_on (loaded_states o hs q n (k + 1) (n - (k + 1))) (λ xs. Ok (x ∷ xs))))) at
        ∙ (ap (λ j. after all
        (goes_on (state_at hs (q + place o n k)) (λ x. goes_on (loaded_states o hs q n j (n - (k + 1))) (λ xs. Ok (x ∷ xs)))))
        (one_on k)
        ∙ (ap (λ c. after all (loaded_states o hs q n k c)) (sym (left_over k n here)) ∙ rest))

    pub loaded_stops : (s : Stop) → Err s ≡ state_at hs (q + p) → Err s ≡ w
    loaded_stops s h =
        ap (λ r. after all (goes_on r (λ x. goes_on (loaded_states o hs q n (k + 1) (n - (k + 1))) (λ xs. Ok (x ∷ xs))))) h
        ∙ one

    pub loaded_step : (x : ByteState) (new : List ByteState) → Ok x ≡ state_at hs (q + p) → new ≡ all ++ x ∷ []
        → after new (loaded_states o hs q n (k + 1) (n - (k + 1))) ≡ w
    loaded_step x new h push =
        after_more all new x (loaded_states o hs q n (k + 1) (n - (k + 1))) push
        ∙ (ap (λ r. after all (goes_on r (λ x. goes_on (loaded_states o hs q n (k + 1) (n - (k + 1))) (λ xs. Ok (x ∷ xs))))) h
        ∙ one)

-- ---- writes

module _ (o : Order) (b q n k : ℕ) (xs : List ByteState) (m : States) (w : Result States Stop)
    (rest : put_states o b q n k (drop k xs) m ≡ w) where
  pub put_end : length xs ≤ k → Ok m ≡ w
  put_end past = sym (ap (λ l. put_states o b q n k l m) (drop_all k xs past)) ∙ rest

  module _ (p : ℕ) (at : p ≡ place o n k) (d : ByteState) (here : k < length xs) where
    one_put : goes_on (put_state m b (q + p) (get_or xs k d)) (put_states o b q n (k + 1) (drop (k + 1) xs)) ≡ w
    one_put =
        ap (λ i. goes_on (put_state m b (q + i) (get_or xs k d)) (put_states o b q n (k + 1) (drop (k + 1) xs))) at
        ∙ (ap
        (λ j. goes_on (put_state m b (q + place o n k) (get_or xs k d)) (put_states o b q n j (drop (k + 1) xs))) (one_on k)
        ∙ (ap (λ l. put_states o b q n k l m) (sym (drop_more xs k d here)) ∙ rest))

    pub put_stops : (s : Stop) → Err s ≡ put_state m b (q + p) (get_or xs k d) → Err s ≡ w
    put_stops s h = ap (λ r. goes_on r (put_states o b q n (k + 1) (drop (k + 1) xs))) h ∙ one_put

    pub put_step : (new : States) → Ok new ≡ put_state m b (q + p) (get_or xs k d)
        → put_states o b q n (k + 1) (drop (k + 1) xs) new ≡ w
    put_step new h = ap (λ r. goes_on r (put_states o b q n (k + 1) (drop (k + 1) xs))) h ∙ one_put

module _ (b n k : ℕ) (m : States) (w : Result States Stop) (rest : take_states b k (n - k) m ≡ w) where
  pub take_end : n ≤ k → Ok m ≡ w
  take_end past = sym (ap (λ c. take_states b k c m) (none_left k n past)) ∙ rest

  module _ (here : k < n) where
    one_taken : goes_on (put_state m b k Other) (take_states b (k + 1) (n - (k + 1))) ≡ w
    one_taken =
        ap (λ j. goes_on (put_state m b k Other) (take_states b j (n - (k + 1)))) (one_on k)
        ∙ (ap (λ c. take_states b k c m) (sym (left_over k n here)) ∙ rest)

    pub take_stops : (s : Stop) → Err s ≡ put_state m b k Other → Err s ≡ w
    take_stops s h = ap (λ r. goes_on r (take_states b (k + 1) (n - (k + 1)))) h ∙ one_taken

    pub take_step : (new : States) → Ok new ≡ put_state m b k Other → take_states b (k + 1) (n - (k + 1)) new ≡ w
    take_step new h = ap (λ r. goes_on r (take_states b (k + 1) (n - (k + 1)))) h ∙ one_taken

module _ (hs : List ByteHeld) (q n k : ℕ) (m : States) (w : Result States Stop)
    (rest : show_states hs (q + k) (n - k) m ≡ w) where
  pub show_end : n ≤ k → Ok m ≡ w
  show_end past = sym (ap (λ c. show_states hs (q + k) c m) (none_left k n past)) ∙ rest

  module _ (here : k < n) where
    one_shown : goes_on (state_at hs (q + k)) (λ x. show_states hs (q + (k + 1)) (n - (k + 1)) m) ≡ w
    one_shown =
        ap (λ j. goes_on (state_at hs (q + k)) (λ x. show_states hs j (n - (k + 1)) m)) (further q k)
        ∙ (ap (λ c. show_states hs (q + k) c m) (sym (left_over k n here)) ∙ rest)
      where
        further : (a b : ℕ) → a + (b + 1) ≡ suc (a + b)
        further a b = omega arith

    pub show_stops : (s : Stop) → Err s ≡ state_at hs (q + k) → Err s ≡ w
    show_stops s h = ap (λ r. goes_on r (λ x. show_states hs (q + (k + 1)) (n - (k + 1)) m)) h ∙ one_shown

    pub show_step : (x : ByteState) → Ok x ≡ state_at hs (q + k) → show_states hs (q + (k + 1)) (n - (k + 1)) m ≡ w
    show_step x h = ap (λ r. goes_on r (λ x. show_states hs (q + (k + 1)) (n - (k + 1)) m)) h ∙ one_shown

-- ---- first values

module _ (o : Order) (b q n k : ℕ) (xs : List ByteState) (m w : States)
    (rest : set_states o b q n k (drop k xs) m ≡ w) where
  pub set_end : length xs ≤ k → m ≡ w
  set_end past = sym (ap (λ l. set_states o b q n k l m) (drop_all k xs past)) ∙ rest

  pub set_step : (p : ℕ) → p ≡ place o n k → (d : ByteState) → k < length xs → (new : States)
      → new ≡ set_state m b (q + p) (get_or xs k d) → set_states o b q n (k + 1) (drop (k + 1) xs) new ≡ w
  set_step p at d here new h =
      ap (set_states o b q n (k + 1) (drop (k + 1) xs))
      (h ∙ ap (λ i. set_state m b (q + i) (get_or xs k d)) at)
      ∙ (ap (λ j. set_states o b q n j (drop (k + 1) xs) (set_state m b (q + place o n k) (get_or xs k d))) (one_on k)
      ∙ (ap (λ l. set_states o b q n k l m) (sym (drop_more xs k d here)) ∙ rest))

pub fixed_length : (n k c : ℕ) → length (fixed_states n k c) ≡ c
fixed_length n k zero = refl
fixed_length n k (suc c) = ap suc (fixed_length n (suc k) c)

-- ---- blank blocks

pub blank_step : (z : Bool) (n k : ℕ) (all new w : List ByteHeld) (x : ByteHeld) → k < n
    → all ++ blank_states z (n - k) ≡ w → new ≡ all ++ x ∷ [] → x ≡ state_held (if z then Zero else Unset) false
    → new ++ blank_states z (n - (k + 1)) ≡ w
blank_step z n k all new w x l rest push is =
    one_more all (blank_states z (n - (k + 1))) w new x push
    (ap (λ y. all ++ (y ∷ blank_states z (n - (k + 1)))) is
    ∙ (ap (λ c. all ++ blank_states z c) (sym (left_over k n l)) ∙ rest))

pub blank_end : (z : Bool) (n k : ℕ) (all w : List ByteHeld) → n ≤ k → all ++ blank_states z (n - k) ≡ w → all ≡ w
blank_end z n k all w past rest = no_more all (blank_states z (n - k)) w (ap (blank_states z) (none_left k n past)) rest
