-- The leaves of a number, and of an array of numbers, lie at multiples of its size.
use Rattle.std.proofs.Common.{◌≡◌, ◌⊎◌, inl, inr, ⊎_elim, ℕ, zero, suc, ◌+◌, ◌*◌, ◌<◌, ◌≤◌, Bool, true, false, cond, nat_eq}
use Rattle.std.proofs.Common.{List, [], ◌∷◌, length, slice_get, Option, Some, None, option_map, option_and_then}
use Rattle.std.proofs.Common.{unwrap_or, refl, sym, ap, ◌∙◌, subst, arith}
use Rattle.std.specs.Option.{option_map_or}
use Rattle.std.proofs.lemmas.Bool.{eqb-true, cases_lt}
use Rattle.ep_int.specs.declared.types.IntType.{IntType}
use Rattle.ep_int.specs.declared.types.Scalar.{Scalar}
use Rattle.ep_int.specs.declared.types.Scalar.TheVariants.{Int as Number}
use Rattle.ep_int.specs.Types.{bytes_of}
use Rattle.ep_layout.specs.declared.types.Leaf.{Leaf}
use Rattle.ep_layout.specs.declared.types.Ty.{Ty}
use Rattle.ep_layout.specs.declared.types.Ty.TheVariants.{Void, Int, Ptr, Array, Aggregate}
use Rattle.ep_layout.specs.Layout.{Layout, shifted, repeated, scalar_layout, array_layout}
use Rattle.ep_layout.specs.Table.{Table, at_type, at_depth, layout_rules, layout_of, leaves}
use Rattle.ep_cells.specs.Kill.{leaf_at}
use Rattle.ep_alarm_laws.proofs.OwnPlaces.{depth}
use Rattle.ep_movers.specs.Forms.{is_unsigned, is_moved_type}
use Rattle.ep_core.proofs.Sorts.{never}
use Rattle.ep_core.specs.Program.{Program}
use Rattle.ep_mover_cells.specs.Known.{number_bytes, unit_of}

-- ---- lists of leaves

pub record IsOnGrid (t : IntType) (q : ℕ) (w : Scalar) : Type 0 where
  pub index : ℕ
  pub at : q ≡ index * bytes_of t
  pub what : w ≡ Number t

abbrev pub AreOnGrid : IntType → List Leaf → Type 0
AreOnGrid t [] = Unit {0}
AreOnGrid t (l ∷ ls) = IsOnGrid t l.offset l.what × AreOnGrid t ls

pub on_grid : (t : IntType) (ls : List Leaf) (q : ℕ) (w : Scalar) → AreOnGrid t ls → leaf_at ls q ≡ Some w
    → IsOnGrid t q w
on_grid t [] q w h e = absurd (let c : None ≡ Some w = e in cc)
on_grid t (l ∷ ls) q w h e = by (nat_eq l.offset q) refl e (on_grid t ls q w h.1)
  where
    by : (b : Bool) → nat_eq l.offset q ≡ b → cond b (Some l.what) (leaf_at ls q) ≡ Some w
        → (leaf_at ls q ≡ Some w → IsOnGrid t q w) → IsOnGrid t q w
    by true f g rest =
        let same : l.what ≡ w = cc in
        subst (λ z. IsOnGrid t z w) (eqb-true l.offset q f) (subst (λ z. IsOnGrid t l.offset z) same h.0)
    by false f g rest = rest g

one_further : (t : IntType) (ls : List Leaf) → AreOnGrid t ls → AreOnGrid t (shifted (bytes_of t) ls)
one_further t [] h = tt
one_further t (l ∷ ls) h = (
  record {
    index = suc h.0.index;
    at = ap (λ z. bytes_of t + z) h.0.at ∙ more h.0.index (bytes_of t);
    what = h.0.what;
  },
  one_further t ls h.1,
)
  where
    more : (i u : ℕ) → u + i * u ≡ suc i * u
    more i u = omega arith

none_before : (u : ℕ) → 0 ≡ 0 * u
none_before u = omega arith

all_repeated : (t : IntType) (n : ℕ)
    → AreOnGrid t (repeated n (bytes_of t) (record { offset = 0; what = Number t } ∷ []))
all_repeated t zero = tt
all_repeated t (suc n) = (
  record { index = 0; at = none_before (bytes_of t); what = refl },
  one_further t (repeated n (bytes_of t) (record { offset = 0; what = Number t } ∷ [])) (all_repeated t n),
)

-- ---- types

module _ (t : Table) where
  -- what a type is, by its parts
  record IsBy (n : ℕ) (x : Ty) : Type 0 where
    deep : ℕ
    is : layout_of t n ≡ at_type (layout_rules t.model) t (at_depth (layout_rules t.model) t deep) x

  is_by : (n : ℕ) (x : Ty) → slice_get t.types n ≡ Some x → IsBy n x
  unfolding at_depth
  is_by n x h =
      let d = depth t.types n (length t.completed) x h in
      record {
        deep = d.0;
        is = ap (λ k. at_depth (layout_rules t.model) t k n) d.1
            ∙ ap (option_and_then (at_type (layout_rules t.model) t (at_depth (layout_rules t.model) t d.0))) h;
      }

  -- an element, where its layout is known
  element_is : (k e : ℕ) (i : IntType) → slice_get t.types e ≡ Some (Int i)
      → (at_depth (layout_rules t.model) t k e ≡ None)
      ⊎ (at_depth (layout_rules t.model) t k e ≡ Some (scalar_layout t.model (Number i)))
  unfolding at_depth
  element_is zero e i h = inl refl
  element_is (suc k) e i h =
      inr (ap (option_and_then (at_type (layout_rules t.model) t (at_depth (layout_rules t.model) t k))) h)

  abbrev leaves_by : Option Layout → List Leaf
  leaves_by o = unwrap_or (option_map (λ (l : Layout). l.leaves) o) []

  pub number_grid : (n : ℕ) (i : IntType) → slice_get t.types n ≡ Some (Int i) → AreOnGrid i (leaves t n)
  number_grid n i h =
      let d = is_by n (Int i) h in
      subst (λ o. AreOnGrid i (leaves_by o)) (sym d.is) (record { index = 0; at = none_before (bytes_of i); what = refl }, tt)

  pub array_grid : (n e c : ℕ) (i : IntType) → slice_get t.types n ≡ Some (Array e c)
      → slice_get t.types e ≡ Some (Int i) → AreOnGrid i (leaves t n)
  array_grid n e c i h g =
      let d = is_by n (Array e c) h in
      subst (λ o. AreOnGrid i (leaves_by o)) (sym d.is)
      (⊎_elim
      (λ f. subst (λ o. AreOnGrid i (leaves_by (option_map (array_layout c) o))) (sym f) tt)
      (λ f. subst (λ o. AreOnGrid i (leaves_by (option_map (array_layout c) o))) (sym f) (all_repeated i c))
      (element_is d.deep e i g))

  -- numbers of one type alone
  pub record HasNumbers (n : ℕ) : Type 0 where
    pub i : IntType
    pub grid : AreOnGrid i (leaves t n)

  pub moved_numbers : (n : ℕ) → option_map_or (is_moved_type t) (slice_get t.types n) false ≡ true → HasNumbers n
  moved_numbers n h = by (slice_get t.types n) refl h
    where
      elements : (e c : ℕ) (o : Option Ty) → slice_get t.types n ≡ Some (Array e c) → slice_get t.types e ≡ o
          → option_map_or is_unsigned o false ≡ true → HasNumbers n
      elements e c None at f g = never g
      elements e c (Some Void) at f g = never g
      elements e c (Some (Int i)) at f g = record { i = i; grid = array_grid n e c i at f }
      elements e c (Some (Ptr d)) at f g = never g
      elements e c (Some (Array d m)) at f g = never g
      elements e c (Some (Aggregate a)) at f g = never g

      by : (o : Option Ty) → slice_get t.types n ≡ o → option_map_or (is_moved_type t) o false ≡ true → HasNumbers n
      by None at g = never g
      by (Some Void) at g = never g
      by (Some (Int i)) at g = record { i = i; grid = number_grid n i at }
      by (Some (Ptr d)) at g = never g
      by (Some (Array e c)) at g = elements e c (slice_get t.types e) at refl g
      by (Some (Aggregate a)) at g = never g

-- ---- units

-- a multiple at a number or before it, less than the next
pub record IsBetween (u q : ℕ) : Type 0 where
  pub index : ℕ
  pub low : index * u ≤ q
  pub high : q < index * u + u

pub in_unit : (u q : ℕ) → 0 < u → IsBetween u q
in_unit u zero h = record { index = 0; low = omega arith; high = omega (arith, h) }
in_unit u (suc q) h =
    let r = in_unit u q h in
    let a = r.low in
    let b = r.high in
    let more : suc r.index * u ≡ u + r.index * u = omega arith in
    ⊎_elim
    (λ l. record { index = r.index; low = omega (arith, a); high = l })
    (λ l. record { index = suc r.index; low = omega (arith, l, more); high = omega (arith, b, more, h) })
    (cases_lt (suc q) (r.index * u + u))

module _ (p : Program) where
  pub record IsUnit (n u : ℕ) : Type 0 where
    pub i : IntType
    pub bytes : bytes_of i ≡ u
    pub grid : AreOnGrid i (leaves p.types n)

  some_same : (m u : ℕ) → ◌≡◌ {A = Option ℕ} (Some m) (Some u) → m ≡ u
  some_same m u e = cc

  pub unit_numbers : (n u : ℕ) (x : Ty) → slice_get p.types.types n ≡ Some x → unit_of p x ≡ Some u → IsUnit n u
  unit_numbers n u Void at e = absurd (let c : None ≡ Some u = e in cc)
  unit_numbers n u (Int i) at e = record { i = i; bytes = some_same (bytes_of i) u e; grid = number_grid p.types n i at }
  unit_numbers n u (Ptr d) at e = absurd (let c : None ≡ Some u = e in cc)
  unit_numbers n u (Array d c) at e = by (slice_get p.types.types d) refl e
    where
      by : (o : Option Ty) → slice_get p.types.types d ≡ o → number_bytes o ≡ Some u → IsUnit n u
      by None f g = absurd (let c : None ≡ Some u = g in cc)
      by (Some Void) f g = absurd (let c : None ≡ Some u = g in cc)
      by (Some (Int i)) f g =
          record { i = i; bytes = some_same (bytes_of i) u g; grid = array_grid p.types n d c i at f }
      by (Some (Ptr y)) f g = absurd (let c : None ≡ Some u = g in cc)
      by (Some (Array y m)) f g = absurd (let c : None ≡ Some u = g in cc)
      by (Some (Aggregate a)) f g = absurd (let c : None ≡ Some u = g in cc)
  unit_numbers n u (Aggregate a) at e = absurd (let c : None ≡ Some u = e in cc)
