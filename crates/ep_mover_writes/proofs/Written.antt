-- Bytes that are written were not written before, and stand there then; all others are as they were.
use Rattle.std.proofs.Common.{◌≡◌, ◌≢◌, ℕ, zero, suc, ◌+◌, ◌<◌, ◌≤◌, Bool, true, false, not, cond, nat_lt, nat_le, List, []}
use Rattle.std.proofs.Common.{◌∷◌, ◌⊎◌, inl, inr, length, slice_get, slice_set, get_or, Some, Ok, Err, refl, sym, ap}
use Rattle.std.proofs.Common.{◌∙◌, subst, arith}
use Rattle.std.proofs.lemmas.Bool.{ltb-true, lt-ltb}
use Rattle.std.proofs.lemmas.List.{get_or-set_same, get_or-set_other, length-set}
use Rattle.ep_int.specs.declared.types.Order.{Order}
use Rattle.ep_int.specs.Encoding.{place, is_width}
use Rattle.ep_int.proofs.Basics.{some-injective}
use Rattle.ep_int.proofs.Places.{place_below, place_back}
use Rattle.ep_movers.specs.declared.Stop.TheVariants.{Faulty, Foreign}
use Rattle.ep_movers.specs.Symbols.{Symbol, unset, is_set, goes_on}
use Rattle.ep_movers.specs.Movers.{Held, held, byte_written, bytes_written, byte_at, defined, loaded_bytes}
use Rattle.ep_mover_cells.specs.Known.{held_at, symbol_at}
use Rattle.ep_mover_cells.proofs.Loaded.{ok_same, went_on, IsLoaded}

-- ---- one byte

pub record WroteOne (hs : List Held) (q : ℕ) (x : Symbol) (to : List Held) : Type 0 where
  pub inside : q < length hs
  pub fresh : (held_at hs q).written ≡ false
  pub is : slice_set hs q (held x true) ≡ to

pub wrote_one : (hs : List Held) (q : ℕ) (x : Symbol) (to : List Held) → byte_written hs q x ≡ Ok to → WroteOne hs q x to
wrote_one hs q x to e = by (nat_lt q (length hs)) (held_at hs q).written refl refl e
  where
    by : (t u : Bool) → nat_lt q (length hs) ≡ t → (held_at hs q).written ≡ u
        → cond (not t) (Err Faulty) (cond u (Err Foreign) (Ok (slice_set hs q (held x true)))) ≡ Ok to
        → WroteOne hs q x to
    by true false i j e =
        record { inside = ltb-true q (length hs) i; fresh = j; is = ok_same (slice_set hs q (held x true)) to e }
    by true true i j e = absurd (let d : Err Foreign ≡ Ok to = e in cc)
    by false u i j e = absurd (let d : Err Faulty ≡ Ok to = e in cc)

module _ (o : Order) (q w : ℕ) where
  abbrev at : ℕ → ℕ
  at k = q + place o w k

  -- so many bytes, from byte k on
  pub record Wrote (hs : List Held) (k : ℕ) (xs : List Symbol) (to : List Held) : Type 0 where
    pub size : length to ≡ length hs
    pub fresh : (j : ℕ) → j < length xs → (held_at hs (at (k + j))).written ≡ false
    pub inside : (j : ℕ) → j < length xs → at (k + j) < length hs
    pub there : (j : ℕ) (x : Symbol) → slice_get xs j ≡ Some x → held_at to (at (k + j)) ≡ held x true
    pub kept : (i : ℕ) → (held_at hs i).written ≡ true → held_at to i ≡ held_at hs i
    pub elsewhere : (i : ℕ) → ((j : ℕ) → j < length xs → i ≢ at (k + j)) → held_at to i ≡ held_at hs i

  module _ (hs : List Held) (k : ℕ) (x : Symbol) (one : List Held) (first : WroteOne hs (at k) x one) where
    one_there : held_at one (at k) ≡ held x true
    one_there =
        sym (ap (λ l. held_at l (at k)) first.is)
        ∙ get_or-set_same hs (at k) (held x true) (held unset false) first.inside

    one_other : (i : ℕ) → i ≢ at k → held_at one i ≡ held_at hs i
    one_other i n =
        sym (ap (λ l. held_at l i) first.is) ∙ get_or-set_other hs (at k) i (held x true) (held unset false) n

    one_kept : (i : ℕ) → (held_at hs i).written ≡ true → held_at one i ≡ held_at hs i
    one_kept i h =
        one_other i (λ e. let z : true ≡ false = sym h ∙ ap (λ i. (held_at hs i).written) e ∙ first.fresh in absurd cc)

    one_size : length one ≡ length hs
    one_size = sym (ap length first.is) ∙ length-set hs (at k) (held x true)

    -- what is fresh after it was fresh before it
    one_fresh : (i : ℕ) → (held_at one i).written ≡ false → (held_at hs i).written ≡ false
    one_fresh i h = by (held_at hs i).written refl
      where
        by : (b : Bool) → (held_at hs i).written ≡ b → b ≡ false
        by false e = refl
        by true e = absurd (let z : true ≡ false = sym e ∙ sym (ap (λ (y : Held). y.written) (one_kept i e)) ∙ h in cc)

  next_at : (k j : ℕ) → at (suc k + j) ≡ at (k + suc j)
  next_at k j = let z : suc k + j ≡ k + suc j = omega arith in ap at z

  pub wrote : (hs : List Held) (k : ℕ) (xs : List Symbol) (to : List Held) → bytes_written o q w k xs hs ≡ Ok to
      → Wrote hs k xs to
  wrote hs k [] to e =
      let i = ok_same hs to e in record {
        size = sym (ap length i);
        fresh = λ j l. absurd (let z : ⊥ = omega (arith, l) in z);
        inside = λ j l. absurd (let z : ⊥ = omega (arith, l) in z);
        there = λ j x h. absurd (cc);
        kept = λ n h. sym (ap (λ l. held_at l n) i);
        elsewhere = λ n h. sym (ap (λ l. held_at l n) i);
      }
  wrote hs k (x ∷ xs) to e =
      let a = went_on (byte_written hs (at k) x) (bytes_written o q w (suc k) xs) to e in
      let f = wrote_one hs (at k) x a.0 a.1 in
      let r = wrote a.0 (suc k) xs to a.2 in
      let z : k ≡ k + 0 = omega arith in
      record {
        size = r.size ∙ one_size hs k x a.0 f;
        fresh = λ j. fresh_by hs k x xs a.0 f r.fresh z j;
        inside = λ j. inside_by hs k x xs a.0 f r.inside z j;
        there = λ j. there_by hs k x xs a.0 to f r.kept r.there z j;
        kept = λ i h. r.kept i (ap (λ (y : Held). y.written) (one_kept hs k x a.0 f i h) ∙ h)
            ∙ one_kept hs k x a.0 f i h;
        elsewhere = λ i h. r.elsewhere i (λ j l e. h (suc j) (omega (arith, l)) (e ∙ next_at k j))
            ∙ one_other hs k x a.0 f i (λ e. h 0 (omega arith) (e ∙ ap at z));
      }
    where
      fresh_by : (hs : List Held) (k : ℕ) (x : Symbol) (xs : List Symbol) (one : List Held)
          → WroteOne hs (at k) x one → ((j : ℕ) → j < length xs → (held_at one (at (suc k + j))).written ≡ false)
          → k ≡ k + 0 → (j : ℕ) → j < length (x ∷ xs) → (held_at hs (at (k + j))).written ≡ false
      fresh_by hs k x xs one f r z zero l = sym (ap (λ n. (held_at hs (at n)).written) z) ∙ f.fresh
      fresh_by hs k x xs one f r z (suc j) l =
          one_fresh hs k x one f (at (k + suc j))
          (sym (ap (λ n. (held_at one n).written) (next_at k j)) ∙ r j (omega (arith, l)))

      inside_by : (hs : List Held) (k : ℕ) (x : Symbol) (xs : List Symbol) (one : List Held)
          → WroteOne hs (at k) x one → ((j : ℕ) → j < length xs → at (suc k + j) < length one)
          → k ≡ k + 0 → (j : ℕ) → j < length (x ∷ xs) → at (k + j) < length hs
      inside_by hs k x xs one f r z zero l = subst (λ n. at n < length hs) z f.inside
      inside_by hs k x xs one f r z (suc j) l =
          subst (λ n. n < length hs) (next_at k j)
          (subst (λ m. at (suc k + j) < m) (one_size hs k x one f) (r j (omega (arith, l))))

      there_by : (hs : List Held) (k : ℕ) (x : Symbol) (xs : List Symbol) (one to : List Held)
          → WroteOne hs (at k) x one → ((i : ℕ) → (held_at one i).written ≡ true → held_at to i ≡ held_at one i)
          → ((j : ℕ) (y : Symbol) → slice_get xs j ≡ Some y → held_at to (at (suc k + j)) ≡ held y true)
          → k ≡ k + 0 → (j : ℕ) (y : Symbol) → slice_get (x ∷ xs) j ≡ Some y
          → held_at to (at (k + j)) ≡ held y true
      there_by hs k x xs one to f kept r z zero y h =
          let e = one_there hs k x one f in
          sym (ap (λ n. held_at to (at n)) z) ∙ kept (at k) (ap (λ (v : Held). v.written) e) ∙ e
          ∙ ap (λ v. held v true) (some-injective h)
      there_by hs k x xs one to f kept r z (suc j) y h = sym (ap (held_at to) (next_at k j)) ∙ r j y h

-- ---- and are loaded

module _ (o : Order) (hs : List Held) (q w : ℕ) where
  abbrev IsThere : ℕ → Symbol → Type 0
  IsThere k x =
      (q + place o w k < length hs) × (symbol_at hs (q + place o w k) ≡ x) × (is_set x ≡ true)

  pub loaded_from : (k : ℕ) (xs : List Symbol)
      → ((j : ℕ) (x : Symbol) → slice_get xs j ≡ Some x → IsThere (k + j) x)
      → loaded_bytes o hs q w k (length xs) ≡ Ok xs
  loaded_from k [] h = refl
  loaded_from k (x ∷ xs) h =
      let z : k + 0 ≡ k = omega arith in
      let f = subst (λ n. IsThere n x) z (h 0 x refl) in
      let r = loaded_from (suc k) xs (λ j y e. let n : k + suc j ≡ suc k + j = omega arith in
      subst (λ n. IsThere n y) n (h (suc j) y e)) in
      ap (λ t. goes_on (cond t (Ok (symbol_at hs (q + place o w k))) (Err Faulty))
      (λ x. goes_on (defined x) (λ x. goes_on (loaded_bytes o hs q w (suc k) (length xs)) (λ xs. Ok (x ∷ xs)))))
      (lt-ltb (q + place o w k) (length hs) f.0)
      ∙ ap (λ y. goes_on (defined y) (λ x. goes_on (loaded_bytes o hs q w (suc k) (length xs)) (λ xs. Ok (x ∷ xs)))) f.1
      ∙ ap (λ t. goes_on (cond t (Ok x) (Err Faulty))
      (λ x. goes_on (loaded_bytes o hs q w (suc k) (length xs)) (λ xs. Ok (x ∷ xs)))) f.2
      ∙ ap (λ l. goes_on l (λ xs. Ok (x ∷ xs))) r

-- ---- bytes that are as they were

module _ (o : Order) (hs to : List Held) (q w : ℕ) (wide : is_width w ≡ true) (size : length to ≡ length hs)
    (same : (j : ℕ) → j < w → held_at to (q + j) ≡ held_at hs (q + j)) where
  pub loaded_same : (k n : ℕ) → k + n ≤ w → loaded_bytes o to q w k n ≡ loaded_bytes o hs q w k n
  loaded_same k zero h = refl
  loaded_same k (suc n) h =
      let e = same (place o w k) (place_below o w k wide (omega (arith, h))) in
      ap (λ l. goes_on (cond (nat_lt (q + place o w k) l) (Ok (symbol_at to (q + place o w k))) (Err Faulty))
      (λ x. goes_on (defined x) (λ x. goes_on (loaded_bytes o to q w (suc k) n) (λ xs. Ok (x ∷ xs))))) size
      ∙ ap (λ (y : Held). goes_on (cond (nat_lt (q + place o w k) (length hs)) (Ok y.symbol) (Err Faulty))
      (λ x. goes_on (defined x) (λ x. goes_on (loaded_bytes o to q w (suc k) n) (λ xs. Ok (x ∷ xs))))) e
      ∙ ap (λ l. goes_on (byte_at hs (q + place o w k))
      (λ x. goes_on (defined x) (λ x. goes_on l (λ xs. Ok (x ∷ xs)))))
      (loaded_same (suc k) n (omega (arith, h)))
