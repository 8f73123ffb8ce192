-- Reading undoes writing: a part is read exactly where the bytes begin with its own.
use Rattle.std.proofs.Common.{◌≡◌, ℕ, zero, suc, ◌+◌, ◌*◌, ◌/◌, ◌%◌, ◌^◌, ◌<◌, Bool, true, false, cond, arith, refl, ap}
use Rattle.std.proofs.Common.{sym, ◌∙◌, subst, List, [], ◌∷◌, ◌++◌, length, append_assoc}
use Rattle.std.specs.Prelude.{Option, Some, None, nat_lt, nat_eq}
use Rattle.std.specs.List.{flat_map}
use Rattle.std.proofs.Math.Nat.{pow-suc}
use Rattle.std.proofs.lemmas.Bool.{lt-ltb, ltb-true, eqb-true}
use Rattle.std.proofs.lemmas.Option.{same_Some, cond_some, some_pair_parts}
use Rattle.ep_cert_cells.specs.Bytes.{low, Every}
use Rattle.ep_cert_cells.specs.Reading.{then_at, before, both_at, made_at, list_at, counted_at, byte_at, low_at}

pub record Undoes {X : Type 0} (Is : X → Type 0) (code : X → List ℕ) (read : List ℕ → Option (X × List ℕ))
    : Type 0 where
  pub reads : (x : X) (ys : List ℕ) → Is x → read (code x ++ ys) ≡ Some (x, ys)
  pub only : (xs : List ℕ) (x : X) (ys : List ℕ) → read xs ≡ Some (x, ys) → Is x × (xs ≡ code x ++ ys)

-- ---- one after the other

pub record Parts {X Y : Type 0} (o : Option (X × List ℕ)) (f : X → List ℕ → Option (Y × List ℕ)) (y : Y)
    (zs : List ℕ) : Type 0 where
  pub x : X
  pub ys : List ℕ
  pub first : o ≡ Some (x, ys)
  pub rest : f x ys ≡ Some (y, zs)

pub then_parts : {X Y : Type 0} (o : Option (X × List ℕ)) (f : X → List ℕ → Option (Y × List ℕ)) (y : Y)
    (zs : List ℕ) → then_at o f ≡ Some (y, zs) → Parts o f y zs
then_parts None f y zs e = absurd (let w : ⊥ = cc in w)
then_parts (Some p) f y zs e = record { x = p.0; ys = p.1; first = refl; rest = e }

before_parts : {X : Type 0} (o : Option X) (ys : List ℕ) (x : X) (zs : List ℕ) → before o ys ≡ Some (x, zs)
    → (o ≡ Some x) × (ys ≡ zs)
before_parts None ys x zs e = absurd (let w : ⊥ = cc in w)
before_parts (Some y) ys x zs e = let p = some_pair_parts y x ys zs e in (ap Some p.0, p.1)

pub both : {X Y : Type 0} (I : X → Type 0) (J : Y → Type 0) (c : X → List ℕ) (d : Y → List ℕ)
    (r : List ℕ → Option (X × List ℕ)) (s : List ℕ → Option (Y × List ℕ)) → Undoes I c r → Undoes J d s
    → Undoes (λ (p : X × Y). I p.0 × J p.1) (λ (p : X × Y). c p.0 ++ d p.1) (both_at r s)
both {X = X} {Y = Y} I J c d r s u v = record {
  reads = λ p ys h.
      ap (λ (zs : List ℕ). both_at r s zs) (append_assoc (c p.0) (d p.1) ys)
      ∙ ap (λ (o : Option (X × List ℕ)). then_at o (λ x zs. then_at (s zs) (λ y us. Some ((x, y), us))))
      (u.reads p.0 (d p.1 ++ ys) h.0)
      ∙ ap (λ (o : Option (Y × List ℕ)). then_at o (λ y us. Some ((p.0, y), us))) (v.reads p.1 ys h.1);
  only = λ xs p ys e.
      let a = then_parts (r xs) (λ x zs. then_at (s zs) (λ y us. Some ((x, y), us))) p ys e in
      let b = then_parts (s a.ys) (λ y us. Some ((a.x, y), us)) p ys a.rest in
      let m = u.only xs a.x a.ys a.first in
      let n = v.only a.ys b.x b.ys b.first in
      let Goal : (X × Y) × List ℕ → Type 0 =
      λ z. (I z.0.0 × J z.0.1) × (xs ≡ (c z.0.0 ++ d z.0.1) ++ z.1) in
      subst Goal (same_Some _ _ b.rest)
      ((m.0, n.0), m.1 ∙ ap (λ (zs : List ℕ). c a.x ++ zs) n.1 ∙ sym (append_assoc (c a.x) (d b.x) b.ys));
}

pub made : {X Y : Type 0} (I : X → Type 0) (J : Y → Type 0) (c : X → List ℕ) (f : X → Option Y) (back : Y → X)
    (r : List ℕ → Option (X × List ℕ)) → Undoes I c r → ((y : Y) → J y → I (back y))
    → ((y : Y) → J y → f (back y) ≡ Some y) → ((x : X) (y : Y) → I x → f x ≡ Some y → J y × (x ≡ back y))
    → Undoes J (λ (y : Y). c (back y)) (made_at f r)
made {X = X} {Y = Y} I J c f back r u i g k = record {
  reads = λ y ys h.
      ap (λ (o : Option (X × List ℕ)). then_at o (λ x zs. before (f x) zs)) (u.reads (back y) ys (i y h))
      ∙ ap (λ (o : Option Y). before o ys) (g y h);
  only = λ xs y ys e.
      let a = then_parts (r xs) (λ x zs. before (f x) zs) y ys e in
      let b = before_parts (f a.x) a.ys y ys a.rest in
      let m = u.only xs a.x a.ys a.first in
      let n = k a.x y m.0 b.0 in
      (n.0, m.1 ∙ ap (λ (x : X). c x ++ a.ys) n.1 ∙ ap (λ (zs : List ℕ). c (back y) ++ zs) b.1);
}

-- ---- lists

module _ {X : Type 0} (I : X → Type 0) (c : X → List ℕ) (r : List ℕ → Option (X × List ℕ)) (u : Undoes I c r) where
  list_reads : (l : List X) (ys : List ℕ) → Every I l → list_at r (length l) (flat_map c l ++ ys) ≡ Some (l, ys)
  unfolding list_at
  list_reads [] ys h = refl
  list_reads (x ∷ l) ys h =
      ap (λ (zs : List ℕ). list_at r (suc (length l)) zs) (append_assoc (c x) (flat_map c l) ys)
      ∙ ap (λ (o : Option (X × List ℕ)). then_at o (λ x us. then_at (list_at r (length l) us)
      (λ more zs. Some (x ∷ more, zs)))) (u.reads x (flat_map c l ++ ys) h.0)
      ∙ ap (λ (o : Option (List X × List ℕ)). then_at o (λ more zs. Some (x ∷ more, zs))) (list_reads l ys h.1)

  list_only : (n : ℕ) (xs : List ℕ) (l : List X) (ys : List ℕ) → list_at r n xs ≡ Some (l, ys)
      → Every I l × (length l ≡ n) × (xs ≡ flat_map c l ++ ys)
  unfolding list_at
  list_only zero xs l ys e =
      let Goal : List X × List ℕ → Type 0 = λ z. Every I z.0 × (length z.0 ≡ 0) × (xs ≡ flat_map c z.0 ++ z.1) in
      subst Goal (same_Some _ _ e) (tt, refl, refl)
  list_only (suc n) xs l ys e =
      let a = then_parts (r xs) (λ x us. then_at (list_at r n us) (λ more zs. Some (x ∷ more, zs))) l ys e in
      let b = then_parts (list_at r n a.ys) (λ more zs. Some (a.x ∷ more, zs)) l ys a.rest in
      let m = u.only xs a.x a.ys a.first in
      let k = list_only n a.ys b.x b.ys b.first in
      let Goal : List X × List ℕ → Type 0 =
      λ z. Every I z.0 × (length z.0 ≡ suc n) × (xs ≡ flat_map c z.0 ++ z.1) in
      subst Goal (same_Some _ _ b.rest) (
        (m.0, k.0),
        ap suc k.1,
        m.1 ∙ ap (λ (zs : List ℕ). c a.x ++ zs) k.2
            ∙ sym (append_assoc (c a.x) (flat_map c b.x) b.ys),
      )

  -- so many
  pub listed : (n : ℕ) → Undoes (λ (l : List X). (length l ≡ n) × Every I l) (λ (l : List X). flat_map c l) (list_at r n)
  listed n = record {
    reads = λ l ys h.
        subst (λ (k : ℕ). list_at r k (flat_map c l ++ ys) ≡ Some (l, ys)) h.0 (list_reads l ys h.1);
    only = λ xs l ys e. let k = list_only n xs l ys e in ((k.1, k.0), k.2);
  }

  -- their count before them
  pub counted : (K : ℕ → Type 0) (d : ℕ → List ℕ) (s : List ℕ → Option (ℕ × List ℕ)) → Undoes K d s
      → Undoes (λ (l : List X). K (length l) × Every I l) (λ (l : List X). d (length l) ++ flat_map c l) (counted_at s r)
  counted K d s v = record {
    reads = λ l ys h.
        ap (λ (zs : List ℕ). counted_at s r zs) (append_assoc (d (length l)) (flat_map c l) ys)
        ∙ ap (λ (o : Option (ℕ × List ℕ)). then_at o (λ n zs. list_at r n zs))
        (v.reads (length l) (flat_map c l ++ ys) h.0)
        ∙ list_reads l ys h.1;
    only = λ xs l ys e.
        let a = then_parts (s xs) (λ n zs. list_at r n zs) l ys e in
        let m = v.only xs a.x a.ys a.first in
        let k = list_only a.x a.ys l ys a.rest in
        let Goal : ℕ → Type 0 = λ n. K n × (xs ≡ (d n ++ flat_map c l) ++ ys) in
        let g = subst Goal (sym k.1)
        (m.0, m.1 ∙ ap (λ (zs : List ℕ). d a.x ++ zs) k.2 ∙ sym (append_assoc (d a.x) (flat_map c l) ys)) in
        ((g.0, k.0), g.1);
  }

-- ---- bytes and numbers

abbrev pub IsByte : ℕ → Type 0
IsByte n = n < 256

abbrev pub one_byte : ℕ → List ℕ
one_byte n = n ∷ []

pub byte_only : (xs : List ℕ) (n : ℕ) (ys : List ℕ) → byte_at xs ≡ Some (n, ys) → IsByte n × (xs ≡ one_byte n ++ ys)
byte_only [] n ys e = absurd (let w : ⊥ = cc in w)
byte_only (b ∷ xs) n ys e =
    let p = cond_some (nat_lt b 256) (b, xs) (n, ys) e in
    let Goal : ℕ × List ℕ → Type 0 = λ z. IsByte z.0 × (b ∷ xs ≡ one_byte z.0 ++ z.1) in
    subst Goal p.1 (ltb-true b 256 p.0, refl)

pub byte : Undoes IsByte one_byte byte_at
byte = record {
  reads = λ n ys h. ap (λ b. cond b (Some (n, ys)) None) (lt-ltb n 256 h);
  only = byte_only;
}

abbrev pub IsOf : ℕ → ℕ → Type 0
IsOf w n = n < 256 ^ w

divided : (w n : ℕ) → n < 256 ^ suc w → n / 256 < 256 ^ w
divided w n h = let q = pow-suc 256 w in omega (arith, q)

low_reads : (w n : ℕ) (ys : List ℕ) → IsOf w n → low_at w (low w n ++ ys) ≡ Some (n, ys)
unfolding low low_at
low_reads zero n ys h = let z : 0 ≡ n = omega arith in ap (λ (k : ℕ). Some (k, ys)) z
low_reads (suc w) n ys h =
    let t : nat_lt (n % 256) 256 ≡ true = lt-ltb (n % 256) 256 (omega arith) in
    let e : n % 256 + 256 * (n / 256) ≡ n = omega arith in
    ap (λ b. then_at (cond b (Some (n % 256, low w (n / 256) ++ ys)) None)
    (λ b us. then_at (low_at w us) (λ m zs. Some (b + 256 * m, zs)))) t
    ∙ ap (λ (o : Option (ℕ × List ℕ)). then_at o (λ m zs. Some (n % 256 + 256 * m, zs)))
    (low_reads w (n / 256) ys (divided w n h))
    ∙ ap (λ (k : ℕ). Some (k, ys)) e

joined_low : (w b m : ℕ) (us zs : List ℕ) → b < 256 → m < 256 ^ w → us ≡ low w m ++ zs
    → (b + 256 * m < 256 ^ suc w) × (b ∷ us ≡ low (suc w) (b + 256 * m) ++ zs)
unfolding low
joined_low w b m us zs h k e =
    let q = pow-suc 256 w in
    let l : (b + 256 * m) % 256 ≡ b = omega arith in
    let d : (b + 256 * m) / 256 ≡ m = omega arith in (
      omega (arith, q),
      ap (λ (t : List ℕ). b ∷ t) e
          ∙ ap (λ (i : ℕ). b ∷ (low w i ++ zs)) (sym d)
          ∙ ap (λ (i : ℕ). i ∷ (low w ((b + 256 * m) / 256) ++ zs)) (sym l),
    )

low_only : (w : ℕ) (xs : List ℕ) (n : ℕ) (ys : List ℕ) → low_at w xs ≡ Some (n, ys) → IsOf w n × (xs ≡ low w n ++ ys)
unfolding low low_at
low_only zero xs n ys e =
    let Goal : ℕ × List ℕ → Type 0 = λ z. (z.0 < 1) × (xs ≡ z.1) in
    subst Goal (same_Some _ _ e) (omega arith, refl)
low_only (suc w) xs n ys e =
    let a = then_parts (byte_at xs) (λ b us. then_at (low_at w us) (λ m zs. Some (b + 256 * m, zs))) n ys e in
    let b = then_parts (low_at w a.ys) (λ m zs. Some (a.x + 256 * m, zs)) n ys a.rest in
    let m = byte_only xs a.x a.ys a.first in
    let k = low_only w a.ys b.x b.ys b.first in
    let j = joined_low w a.x b.x a.ys b.ys m.0 k.0 k.1 in
    let Goal : ℕ × List ℕ → Type 0 = λ z. (z.0 < 256 ^ suc w) × (xs ≡ low (suc w) z.0 ++ z.1) in
    subst Goal (same_Some _ _ b.rest) (j.0, m.1 ∙ j.1)

pub number : (w : ℕ) → Undoes (IsOf w) (low w) (low_at w)
number w = record { reads = low_reads w; only = low_only w }

-- ---- values for which one byte stands

-- a number stands for a value only where it is that value's number
abbrev pub Stands : {X : Type 0} → (X → ℕ) → ℕ → Option X → Type 0
Stands {X = X} number n o = (x : X) → o ≡ Some x → n ≡ number x

pub no_value : {X : Type 0} (number : X → ℕ) (n : ℕ) → Stands number n None
no_value number n x e = absurd (let w : ⊥ = cc in w)

pub or_else : {X : Type 0} (number : X → ℕ) (n k : ℕ) (x : X) (o : Option X) → k ≡ number x → Stands number n o
    → Stands number n (cond (nat_eq n k) (Some x) o)
or_else {X = X} number n k x o q h = by (nat_eq n k) refl
  where
    by : (b : Bool) → nat_eq n k ≡ b → Stands number n (cond b (Some x) o)
    by true e y f = eqb-true n k e ∙ q ∙ ap number (same_Some x y f)
    by false e y f = h y f

pub one_of : {X : Type 0} (number : X → ℕ) (of : ℕ → Option X) → ((x : X) → IsByte (number x))
    → ((x : X) → of (number x) ≡ Some x) → ((n : ℕ) → Stands number n (of n))
    → Undoes (λ (x : X). Unit {0}) (λ (x : X). one_byte (number x)) (made_at of byte_at)
one_of number of small back stands =
    made IsByte (λ x. Unit {0}) one_byte of number byte_at byte (λ x h. small x) (λ x h. back x)
    (λ n x h e. (tt, stands n x e))
