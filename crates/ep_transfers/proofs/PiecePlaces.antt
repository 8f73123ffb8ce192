-- The pieces of an aggregate lie apart and cover it.
use Rattle.std.proofs.Common.{◌≡◌, ℕ, ◌+◌, ◌<◌, ◌≤◌, Bool, true, false, ◌&&◌, nat_eq, nat_le, nat_lt, cond, List, []}
use Rattle.ep_int.proofs.Basics.{size_positive}
use Rattle.ep_cells.proofs.Entry.{leaf_begins, past_leaves}
use Rattle.std.proofs.Common.{◌∷◌, Option, Some, None, ⊎_elim, refl, sym, ap, ◌∙◌, subst, arith}
use Rattle.std.specs.Option.{option_map_or}
use Rattle.std.specs.List.{list_any}
use Rattle.std.proofs.lemmas.Bool.{and_from, and_parts, or_left, or_right, or_cases, le-leb, lt-ltb, leb-true}
use Rattle.std.proofs.lemmas.Bool.{ltb-true, eqb-true, eq-eqb, ne_eqb}
use Rattle.ep_int.specs.declared.types.IntType.TheVariants.{U8}
use Rattle.ep_int.specs.declared.types.Model.{Model}
use Rattle.ep_int.specs.declared.types.Scalar.{Scalar}
use Rattle.ep_int.specs.declared.types.Scalar.TheVariants.{Int}
use Rattle.ep_int.specs.Types.{size_of}
use Rattle.ep_layout.specs.declared.types.Leaf.{Leaf}
use Rattle.ep_domain.specs.Domain.{Ops}
use Rattle.ep_cells.specs.Kill.{leaf_at, AreLeavesIn}
use Rattle.ep_transfers.specs.Copies.{Piece, none, leaf, byte, piece_by, scalar_of_piece}

-- ---- leaves that go as a whole, by a test of their offset and type

module _ (d : Model) (f : ℕ → Scalar → Bool) where
  abbrev pub within : ℕ → Leaf → Bool
  within j l = f l.offset l.what && (nat_le l.offset j && nat_lt j (l.offset + size_of d l.what))

  abbrev pub in_whole : ℕ → List Leaf → Bool
  in_whole j ls = list_any (λ (l : Leaf). within j l) ls

  pub record Begins (ls : List Leaf) (e j : ℕ) : Type 0 where
    pub start : ℕ
    pub what : Scalar
    pub there : leaf_at ls start ≡ Some what
    pub whole : f start what ≡ true
    pub least : e ≤ start
    pub low : start ≤ j
    pub high : j < start + size_of d what

  begins_later : (e o s q : ℕ) → e ≤ o → o + s ≤ q → e ≤ q
  begins_later e o s q h i = omega (arith, h, i)

  begins_apart : (o s q : ℕ) → 0 < s → o + s ≤ q → o ≡ q → ⊥
  begins_apart o s q h i e = omega (arith, h, i, e)

  pub whole_begins : (e size j : ℕ) (ls : List Leaf) → AreLeavesIn d e size ls → in_whole j ls ≡ true → Begins ls e j
  whole_begins e size j [] a h = absurd (cc)
  whole_begins e size j (l ∷ ls) a h =
      ⊎_elim
      (λ first.
      let x = and_parts (f l.offset l.what) (nat_le l.offset j && nat_lt j (l.offset + size_of d l.what)) first in
      let y = and_parts (nat_le l.offset j) (nat_lt j (l.offset + size_of d l.what)) x.1 in
      record {
        start = l.offset;
        what = l.what;
        there = ap (λ t. cond t (Some l.what) (leaf_at ls l.offset)) (eq-eqb l.offset l.offset refl);
        whole = x.0;
        least = a.0;
        low = leb-true l.offset j y.0;
        high = ltb-true j (l.offset + size_of d l.what) y.1;
      })
      (λ later.
      let r = whole_begins (l.offset + size_of d l.what) size j ls a.1 later in
      let far : nat_eq l.offset r.start ≡ false = ne_eqb l.offset r.start
      (begins_apart l.offset (size_of d l.what) r.start (size_positive d l.what) r.least) in
      record {
        start = r.start;
        what = r.what;
        there = ap (λ t. cond t (Some l.what) (leaf_at ls r.start)) far ∙ r.there;
        whole = r.whole;
        least = begins_later e l.offset (size_of d l.what) r.start a.0 r.least;
        low = r.low;
        high = r.high;
      })
      (or_cases (within j l) (in_whole j ls) h)

  first_whole : (o j : ℕ) (l : Leaf) (w : Scalar) → l.offset ≡ o → l.what ≡ w → f o w ≡ true → o ≤ j
      → j < o + size_of d w → within j l ≡ true
  first_whole o j l w e g h lo hi =
      let at : f l.offset l.what ≡ true = ap (λ z. f z l.what) e ∙ (ap (f o) g ∙ h) in
      let low : l.offset ≤ j = omega (arith, e, lo) in
      let top : j < l.offset + size_of d l.what
      = subst (λ z. j < l.offset + size_of d z) (sym g) (subst (λ z. j < z + size_of d w) (sym e) hi) in
      and_from (f l.offset l.what) (nat_le l.offset j && nat_lt j (l.offset + size_of d l.what)) at
      (and_from (nat_le l.offset j) (nat_lt j (l.offset + size_of d l.what)) (le-leb l.offset j low)
      (lt-ltb j (l.offset + size_of d l.what) top))

  whole_by : (o j : ℕ) (l : Leaf) (ls : List Leaf) (w : Scalar) (t : Bool) → nat_eq l.offset o ≡ t → f o w ≡ true
      → o ≤ j → j < o + size_of d w → (leaf_at ls o ≡ Some w → in_whole j ls ≡ true)
      → cond t (Some l.what) (leaf_at ls o) ≡ Some w → in_whole j (l ∷ ls) ≡ true
  whole_by o j l ls w true e h lo hi rest g =
      let what : l.what ≡ w = cc in
      or_left (within j l) (in_whole j ls)
      (first_whole o j l w (eqb-true l.offset o e) what h lo hi)
  whole_by o j l ls w false e h lo hi rest g = or_right (within j l) (in_whole j ls) (rest g)

  pub whole_there : (o j : ℕ) (ls : List Leaf) (w : Scalar) → f o w ≡ true → o ≤ j → j < o + size_of d w
      → leaf_at ls o ≡ Some w → in_whole j ls ≡ true
  whole_there o j [] w h lo hi g = absurd (cc)
  whole_there o j (l ∷ ls) w h lo hi g =
      whole_by o j l ls w (nat_eq l.offset o) refl h lo hi (λ g. whole_there o j ls w h lo hi g) g

-- ---- no leaf begins inside of another

starts_by : (d : Model) (e size q : ℕ) (l : Leaf) (ls : List Leaf) (w : Scalar) (t : Bool) → nat_eq l.offset q ≡ t
    → e ≤ l.offset → (leaf_at ls q ≡ Some w → l.offset + size_of d l.what ≤ q)
    → cond t (Some l.what) (leaf_at ls q) ≡ Some w → e ≤ q
starts_by d e size q l ls w true f a rest h = let z = eqb-true l.offset q f in omega (arith, a, z)
starts_by d e size q l ls w false f a rest h = let z = rest h in omega (arith, a, z)

inside_by : (d : Model) (e size o j : ℕ) (l : Leaf) (ls : List Leaf) (w : Scalar) (t : Bool) → nat_eq l.offset o ≡ t
    → AreLeavesIn d e size (l ∷ ls) → o < j → j < o + size_of d w → (leaf_at ls o ≡ Some w → leaf_at ls j ≡ None)
    → cond t (Some l.what) (leaf_at ls o) ≡ Some w → cond (nat_eq l.offset j) (Some l.what) (leaf_at ls j) ≡ None
inside_by d e size o j l ls w true f a lo hi rest h =
    let same : l.offset ≡ o = eqb-true l.offset o f in
    let what : l.what ≡ w = cc in
    let top : j < l.offset + size_of d l.what
    = subst (λ z. j < l.offset + size_of d z) (sym what) (subst (λ z. j < z + size_of d w) (sym same) hi) in
    let far : nat_eq l.offset j ≡ false = ne_eqb l.offset j (λ g. omega (arith, same, lo, g)) in
    ap (λ t. cond t (Some l.what) (leaf_at ls j)) far ∙ past_leaves d (l.offset + size_of d l.what) size j ls a.1 top
inside_by d e size o j l ls w false f a lo hi rest h =
    let begins = leaf_begins d (l.offset + size_of d l.what) size o ls w a.1 h in
    let far : nat_eq l.offset j ≡ false = ne_eqb l.offset j (λ g. omega (arith, begins, lo, g)) in
    ap (λ t. cond t (Some l.what) (leaf_at ls j)) far ∙ rest h

pub none_inside : (d : Model) (e size o j : ℕ) (ls : List Leaf) (w : Scalar) → AreLeavesIn d e size ls → o < j
    → j < o + size_of d w → leaf_at ls o ≡ Some w → leaf_at ls j ≡ None
none_inside d e size o j [] w a lo hi h = refl
none_inside d e size o j (l ∷ ls) w a lo hi h =
    inside_by d e size o j l ls w (nat_eq l.offset o) refl a lo hi
    (none_inside d (l.offset + size_of d l.what) size o j ls w a.1 lo hi) h

-- ---- pieces

module _ {N : Type 0} (D : Ops N) (d : Model) (f : ℕ → Scalar → Bool) (ls : List Leaf) (n : ℕ)
    (apart : AreLeavesIn d 0 n ls) where
  abbrev goes_whole : ℕ → Bool
  goes_whole j = option_map_or (λ w. f j w) (leaf_at ls j) false

  abbrev pub piece : ℕ → Piece D
  piece j = piece_by D (goes_whole j) (in_whole d f j ls) (leaf_at ls j)

  -- a piece has this byte
  pub record Over (j : ℕ) : Type 0 where
    pub start : ℕ
    pub what : Piece D
    pub is : piece start ≡ what
    pub some : what ≡ none → ⊥
    pub low : start ≤ j
    pub high : j < start + size_of d (scalar_of_piece D what)

  whole_piece : (o : ℕ) (w : Scalar) → leaf_at ls o ≡ Some w → f o w ≡ true → piece o ≡ leaf w
  whole_piece o w e h =
      ap (λ (z : Option Scalar). piece_by D (option_map_or (λ w. f o w) z false) (in_whole d f o ls) z) e
      ∙ ap (λ t. piece_by D t (in_whole d f o ls) (Some w)) h

  own_byte : (j s : ℕ) → 0 < s → j < j + s
  own_byte j s h = omega (arith, h)

  self_le : (j : ℕ) → j ≤ j
  self_le j = omega arith

  pub over : (j : ℕ) → Over j
  over j = by_tests (goes_whole j) (in_whole d f j ls) (leaf_at ls j) refl refl refl
    where
      by_tests : (t u : Bool) (o : Option Scalar) → goes_whole j ≡ t → in_whole d f j ls ≡ u → leaf_at ls j ≡ o → Over j
      by_tests t u (Some w) e g h = at_leaf t u e g
        where
          at_leaf : (t u : Bool) → goes_whole j ≡ t → in_whole d f j ls ≡ u → Over j
          at_leaf true u e g = record {
            start = j;
            what = leaf w;
            is = rw (e, h) refl;
            some = λ z. cc;
            low = self_le j;
            high = own_byte j (size_of d w) (size_positive d w);
          }
          at_leaf false true e g =
              let b = whole_begins d f 0 n j ls apart g in
              record {
                start = b.start;
                what = leaf b.what;
                is = whole_piece b.start b.what b.there b.whole;
                some = λ z. cc;
                low = b.low;
                high = b.high;
              }
          at_leaf false false e g = record {
            start = j;
            what = byte;
            is = rw (e, g) refl;
            some = λ z. cc;
            low = self_le j;
            high = own_byte j (size_of d (Int U8)) (size_positive d (Int U8));
          }
      by_tests t true None e g h =
          let b = whole_begins d f 0 n j ls apart g in
          record {
            start = b.start;
            what = leaf b.what;
            is = whole_piece b.start b.what b.there b.whole;
            some = λ z. cc;
            low = b.low;
            high = b.high;
          }
      by_tests t false None e g h = record {
        start = j;
        what = byte;
        is = ap (λ (z : Option Scalar). piece_by D (option_map_or (λ w. f j w) z false) (in_whole d f j ls) z) h
            ∙ ap (λ t. piece_by D false t None) g;
        some = λ z. cc;
        low = self_le j;
        high = own_byte j (size_of d (Int U8)) (size_positive d (Int U8));
      }

  -- inside of a leaf that goes as a whole there is no piece
  pub none_within : (o j : ℕ) (w : Scalar) → leaf_at ls o ≡ Some w → f o w ≡ true → o < j → j < o + size_of d w
      → piece j ≡ none
  none_within o j w e h lo hi =
      let nothing = none_inside d 0 n o j ls w apart lo hi e in
      let whole = whole_there d f o j ls w h (omega (arith, lo)) hi e in
      ap (λ (z : Option Scalar). piece_by D (option_map_or (λ w. f j w) z false) (in_whole d f j ls) z) nothing
      ∙ ap (λ t. piece_by D false t None) whole
