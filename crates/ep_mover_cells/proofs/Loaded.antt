-- Bytes that are loaded are set, each at its place.
use Rattle.std.proofs.Common.{◌≡◌, ℕ, zero, suc, ◌+◌, ◌<◌, Bool, true, false, cond, nat_lt, List, [], ◌∷◌, length}
use Rattle.std.proofs.Common.{slice_get, get_or, Some, Result, Ok, Err, refl, sym, ap, ◌∙◌, subst, arith}
use Rattle.ep_int.specs.declared.types.Order.{Order}
use Rattle.ep_int.specs.Encoding.{place}
use Rattle.ep_movers.specs.declared.Stop.{Stop}
use Rattle.ep_movers.specs.declared.Stop.TheVariants.{Faulty}
use Rattle.ep_movers.specs.Symbols.{Symbol, unset, goes_on, is_set}
use Rattle.ep_movers.specs.Movers.{Held, held, byte_at, defined, loaded_bytes}
use Rattle.ep_mover_cells.specs.Known.{symbol_at}

pub ok_same : {A : Type 0} (x y : A) → ◌≡◌ {A = Result A Stop} (Ok x) (Ok y) → x ≡ y
ok_same x y e = cc

-- what comes before what is Ok
pub went_on : {A B : Type 0} (r : Result A Stop) (f : A → Result B Stop) (z : B) → goes_on r f ≡ Ok z
    → (y : A) × (r ≡ Ok y) × (f y ≡ Ok z)
went_on (Ok y) f z e = (y, refl, e)
went_on (Err s) f z e = absurd (cc)

pub length_of : {A : Type 0} (x : A) (xs ys : List A) (n : ℕ) → x ∷ xs ≡ ys → length xs ≡ n → length ys ≡ suc n
length_of x xs ys n e h = sym (ap length e) ∙ ap suc h

record IsByteAt (hs : List Held) (q : ℕ) (x : Symbol) : Type 0 where
  inside : q < length hs
  is : x ≡ symbol_at hs q

at_byte : (hs : List Held) (q : ℕ) (x : Symbol) (t : Bool) → nat_lt q (length hs) ≡ t
    → cond t (Ok (symbol_at hs q)) (Err Faulty) ≡ Ok x → x ≡ symbol_at hs q
at_byte hs q x true h e = sym (ok_same (symbol_at hs q) x e)
at_byte hs q x false h e = absurd (let d : Err Faulty ≡ Ok x = e in cc)

set_byte : (x y : Symbol) (t : Bool) → is_set x ≡ t → cond t (Ok x) (Err Faulty) ≡ Ok y → (y ≡ x) × (is_set x ≡ true)
set_byte x y true h e = (sym (ok_same x y e), h)
set_byte x y false h e = absurd (let d : Err Faulty ≡ Ok y = e in cc)

-- the byte at a place
pub record IsLoaded (hs : List Held) (q : ℕ) (xs : List Symbol) (j : ℕ) : Type 0 where
  pub there : slice_get xs j ≡ Some (symbol_at hs q)
  pub set : is_set (symbol_at hs q) ≡ true

module _ (o : Order) (hs : List Held) (q w : ℕ) where
  -- one byte, and those behind it
  pub record IsFirst (k n : ℕ) (xs : List Symbol) : Type 0 where
    pub rest : List Symbol
    pub is : xs ≡ symbol_at hs (q + place o w k) ∷ rest
    pub set : is_set (symbol_at hs (q + place o w k)) ≡ true
    pub loaded : loaded_bytes o hs q w (suc k) n ≡ Ok rest

  pub first_one : (k n : ℕ) (xs : List Symbol) → loaded_bytes o hs q w k (suc n) ≡ Ok xs → IsFirst k n xs
  first_one k n xs e =
      let a = went_on (byte_at hs (q + place o w k)) _ xs e in
      let b = went_on (defined a.0) _ xs a.2 in
      let c = went_on (loaded_bytes o hs q w (suc k) n) _ xs b.2 in
      let x : a.0 ≡ symbol_at hs (q + place o w k)
      = at_byte hs (q + place o w k) a.0 (nat_lt (q + place o w k) (length hs)) refl a.1 in
      let y = set_byte a.0 b.0 (is_set a.0) refl b.1 in
      record {
        rest = c.0;
        is = sym (ok_same (b.0 ∷ c.0) xs c.2) ∙ ap (λ z. z ∷ c.0) (y.0 ∙ x);
        set = sym (ap is_set x) ∙ y.1;
        loaded = c.1;
      }

  pub loaded_length : (k n : ℕ) (xs : List Symbol) → loaded_bytes o hs q w k n ≡ Ok xs → length xs ≡ n
  loaded_length k zero xs e = sym (ap length (ok_same [] xs e))
  loaded_length k (suc n) xs e =
      let f = first_one k n xs e in
      ap length f.is ∙ ap suc (loaded_length (suc k) n f.rest f.loaded)

  pub loaded_at : (k n : ℕ) (xs : List Symbol) → loaded_bytes o hs q w k n ≡ Ok xs → (j : ℕ) → j < n
      → IsLoaded hs (q + place o w (k + j)) xs j
  loaded_at k zero xs e j h = absurd (omega (arith, h))
  loaded_at k (suc n) xs e zero h =
      let f = first_one k n xs e in
      let z : k ≡ k + 0 = omega arith in
      subst (λ i. IsLoaded hs (q + place o w i) xs 0) z
      (record { there = ap (λ ys. slice_get ys 0) f.is; set = f.set })
  loaded_at k (suc n) xs e (suc j) h =
      let f = first_one k n xs e in
      let z : suc k + j ≡ k + suc j = omega arith in
      let r = loaded_at (suc k) n f.rest f.loaded j (omega (arith, h)) in
      subst (λ i. IsLoaded hs (q + place o w i) xs (suc j)) z
      (record { there = ap (λ ys. slice_get ys (suc j)) f.is ∙ r.there; set = r.set })
