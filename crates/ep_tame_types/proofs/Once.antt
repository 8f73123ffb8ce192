-- Of an object without unions in it at most one scalar stands at each offset.
use Rattle.std.proofs.Common.{◌≡◌, ℕ, suc, ◌+◌, ◌*◌, ◌≤◌, ◌<◌, Bool, true, false, ◌&&◌, ◌||◌, ◌==◌, List, [], ◌∷◌}
use Rattle.std.proofs.Common.{slice_get, Option, Some, None, refl, sym, ap, ◌∙◌, subst, arith, ◌⊎◌, inl, inr}
use Rattle.std.specs.Prelude.{unwrap_or, option_map, option_and_then}
use Rattle.std.specs.Int.{next_multiple_of}
use Rattle.std.specs.List.{list_any}
use Rattle.std.proofs.lemmas.Bool.{eqb-true, and_parts}
use Rattle.std.proofs.Math.Nat.{mul-suc, mul-le-mul_left}
use Rattle.ep_int.proofs.Basics.{some-injective}
use Rattle.ep_int.specs.declared.types.Scalar.{Scalar}
use Rattle.ep_int.specs.Types.{size_of}
use Rattle.ep_layout.specs.declared.types.Ty.TheVariants.{Array, Aggregate}
use Rattle.ep_layout.specs.Layout.{Layout}
use Rattle.ep_layout.specs.Table.{Table, MemberRow, AggregateRow, IsBuilt, size, elements_of, aggregate_of}
use Rattle.ep_layout.specs.Table.{members_of, scalar_of, layout_of, at_each}
use Rattle.ep_layout.proofs.Options.{at_each_some}
use Rattle.ep_layout.proofs.Recursion.{types_of}
use Rattle.ep_layout.proofs.Rows.{RowsAt}
use Rattle.ep_layout.proofs.Sizes.{size_of_scalar}
use Rattle.ep_kinds.specs.Tame.{are_tame_types}
use Rattle.ep_kinds.specs.Rows.{IsMember, HasScalar, here, in_member, in_element}
use Rattle.ep_tame_laws.proofs.Found.{array_at, aggregate_at, none_some}
use Rattle.ep_tame_laws.proofs.Parts.{of_members, part_fits, scalar_size, no_union}

abbrev IsAt : (offset ty : ℕ) → MemberRow → Bool
IsAt q ty m = m.offset == q && m.ty == ty

-- ---- from an object inwards

data Inwards (t : Table) : (whole offset ty : ℕ) → Type 0 where
  itself : (ty : ℕ) → Inwards t ty 0 ty
  by_member : (g q m o ty : ℕ) → IsMember t g q m → Inwards t m o ty → Inwards t g (q + o) ty
  by_element : (a e n i u o ty : ℕ) → elements_of t a ≡ Some (e, n) → i < n → size t e ≡ Some u → Inwards t e o ty
      → Inwards t a (u * i + o) ty

-- the first step of a way inwards
data First (t : Table) (whole offset ty : ℕ) : Type 0 where
  none : whole ≡ ty → First t whole offset ty
  member : (q m o : ℕ) → IsMember t whole q m → Inwards t m o ty → offset ≡ q + o → First t whole offset ty
  element : (e n i u o : ℕ) → elements_of t whole ≡ Some (e, n) → i < n → size t e ≡ Some u → Inwards t e o ty
      → offset ≡ u * i + o → First t whole offset ty

first_step : (t : Table) (whole o ty : ℕ) → Inwards t whole o ty → First t whole o ty
first_step t whole o ty (itself z) = none refl
first_step t whole o ty (by_member g q m k z mem w) = member q m k mem w refl
first_step t whole o ty (by_element a e n i u k z el l sz w) = element e n i u k el l sz w refl

inwards_from : (t : Table) (whole o g : ℕ) → HasScalar t whole o g → (q ty : ℕ) → Inwards t g q ty
    → Inwards t whole (o + q) ty
inwards_from t whole o g here q ty w =
    let e : q ≡ 0 + q = omega arith in subst (λ x. Inwards t whole x ty) e w
inwards_from t whole o g (in_member p h k m at mem) q ty w =
    let e : p + (k + q) ≡ p + k + q = omega arith in
    subst (λ x. Inwards t whole x ty) e (inwards_from t whole p h at (k + q) ty (by_member h k m q ty mem w))
inwards_from t whole o g (in_element p a c n i u at el l sz) q ty w =
    let e : p + (u * i + q) ≡ p + u * i + q = omega arith in
    subst (λ x. Inwards t whole x ty) e
    (inwards_from t whole p a at (u * i + q) ty (by_element a c n i u q ty el l sz w))

inwards : (t : Table) (whole o ty : ℕ) → HasScalar t whole o ty → Inwards t whole o ty
inwards t whole o ty h =
    let e : o + 0 ≡ o = omega arith in
    subst (λ x. Inwards t whole x ty) e (inwards_from t whole o ty h 0 ty (itself ty))

stands_in : (t : Table) (whole o g q ty : ℕ) → Inwards t g q ty → HasScalar t whole o g → HasScalar t whole (o + q) ty
stands_in t whole o g q ty (itself z) h =
    let e : o ≡ o + 0 = omega arith in subst (λ x. HasScalar t whole x ty) e h
stands_in t whole o g q ty (by_member h k m p z mem w) at =
    let e : o + k + p ≡ o + (k + p) = omega arith in
    subst (λ x. HasScalar t whole x ty) e (stands_in t whole (o + k) m p ty w (in_member o h k m at mem))
stands_in t whole o g q ty (by_element a c n i u p z el l sz w) at =
    let e : o + u * i + p ≡ o + (u * i + p) = omega arith in
    subst (λ x. HasScalar t whole x ty) e
    (stands_in t whole (o + u * i) c p ty w (in_element o a c n i u at el l sz))

-- ---- parts that have one byte

same_element : (u i j k l : ℕ) → k < u → l < u → u * i + k ≡ u * j + l → (i ≡ j) × (k ≡ l)
same_element u i j k l a b e =
    let f : i < j → ⊥ = before u i j k l a e in
    let g : j < i → ⊥ = before u j i l k b (sym e) in
    let same : i ≡ j = grind (arith, f, g) in
    let times : u * i ≡ u * j = ap (λ x. u * x) same in
    (same, omega (arith, times, e))
  where
    before : (u i j k l : ℕ) → k < u → u * i + k ≡ u * j + l → i < j → ⊥
    before u i j k l a e h =
        let f = mul-suc u i in
        let g = mul-le-mul_left u (let k : suc i ≤ j = omega (arith, h) in k) in
        omega (arith, e, f, g, a)

rows_behind : (e q m : ℕ) (ls : List Layout) (ms : List MemberRow) → RowsAt false e ls ms
    → list_any (IsAt q m) ms ≡ true → e ≤ q
rows_behind e q m ls [] r some = absurd cc
rows_behind e q m [] (x ∷ ms) r some = absurd r
rows_behind e q m (l ∷ ls) (x ∷ ms) r some =
    at (IsAt q m x) refl some (rows_behind (next_multiple_of e l.align + l.size) q m ls ms r.1)
  where
    at : (b : Bool) → IsAt q m x ≡ b → (b || list_any (IsAt q m) ms) ≡ true
        → (list_any (IsAt q m) ms ≡ true → next_multiple_of e l.align + l.size ≤ q) → e ≤ q
    at true is some later =
        let place = eqb-true x.offset q (and_parts (x.offset == q) (x.ty == m) is).0 in
        let own = r.0 in omega (arith, place, own)
    at false is some later = let k = later some in omega (arith, k)

module _ (t : Table) (built : IsBuilt t) where
  size_is : (n : ℕ) (l : Layout) → layout_of t n ≡ Some l → size t n ≡ Some l.size
  size_is n l h = ap (option_map (λ (l : Layout). l.size)) h

  -- a byte is in a member of this type here, however large
  abbrev HasByte : (x q m : ℕ) → Type 0
  HasByte x q m = (q ≤ x) × ((z : ℕ) → size t m ≡ Some z → x < q + z)

  rows_once : (e x q m r n : ℕ) (ls : List Layout) (ms : List MemberRow) → at_each (layout_of t) (types_of ms) ≡ Some ls
      → RowsAt false e ls ms → list_any (IsAt q m) ms ≡ true → list_any (IsAt r n) ms ≡ true → HasByte x q m
      → HasByte x r n → (q ≡ r) × (m ≡ n)
  rows_once e x q m r n ls [] h rows one two a b = absurd cc
  rows_once e x q m r n [] (y ∷ ms) h rows one two a b = absurd rows
  rows_once e x q m r n (l ∷ ls) (y ∷ ms) h rows one two a b =
      let s = at_each_some (layout_of t) y.ty (types_of ms) (l ∷ ls) h in
      let same : s.0 ≡ l = cc in
      let more : s.1 ≡ ls = cc in
      at (IsAt q m y) (IsAt r n y) refl refl one two (size_is y.ty l (s.2 ∙ ap Some same))
      (λ one two. rows_once (next_multiple_of e l.align + l.size) x q m r n ls ms (s.3 ∙ ap Some more) rows.1 one two
      a b)
    where
      is_at : (q m : ℕ) → IsAt q m y ≡ true → (y.offset ≡ q) × (y.ty ≡ m)
      is_at q m is =
          let p = and_parts (y.offset == q) (y.ty == m) is in (eqb-true y.offset q p.0, eqb-true y.ty m p.1)

      ends : (q m : ℕ) → size t y.ty ≡ Some l.size → IsAt q m y ≡ true → HasByte x q m
          → x < next_multiple_of e l.align + l.size
      ends q m sz is has =
          let p = is_at q m is in
          let end = has.1 l.size (sym (ap (size t) p.1) ∙ sz) in
          let place = p.0 in
          let own = rows.0 in
          omega (arith, end, place, own)

      at : (b c : Bool) → IsAt q m y ≡ b → IsAt r n y ≡ c → (b || list_any (IsAt q m) ms) ≡ true
          → (c || list_any (IsAt r n) ms) ≡ true → size t y.ty ≡ Some l.size
          → (list_any (IsAt q m) ms ≡ true → list_any (IsAt r n) ms ≡ true → (q ≡ r) × (m ≡ n))
          → (q ≡ r) × (m ≡ n)
      at true true p k one two sz later =
          let u = is_at q m p in let v = is_at r n k in (sym u.0 ∙ v.0, sym u.1 ∙ v.1)
      at true false p k one two sz later =
          let end = ends q m sz p a in
          let begin = rows_behind (next_multiple_of e l.align + l.size) r n ls ms rows.1 two in
          let low = b.0 in
          absurd (omega (arith, end, begin, low))
      at false true p k one two sz later =
          let end = ends r n sz k b in
          let begin = rows_behind (next_multiple_of e l.align + l.size) q m ls ms rows.1 one in
          let low = a.0 in
          absurd (omega (arith, end, begin, low))
      at false false p k one two sz later = later one two

  -- a scalar in an object has a byte of it
  scalar_inside : (m o ty : ℕ) (w : Scalar) → Inwards t m o ty → scalar_of t ty ≡ Some w → (z : ℕ) → size t m ≡ Some z
      → o < z
  scalar_inside m o ty w way is z sz =
      let fits = part_fits t built m (0 + o) ty z (size_of t.model w) (stands_in t m 0 m o ty way here) sz
      (scalar_size t built ty w is) in
      let some = (size_of_scalar t.model w).0 in
      omega (arith, fits, some)

  module _ (tame : are_tame_types t ≡ true) where
    members_once : (g x q m r n : ℕ) → IsMember t g q m → IsMember t g r n → HasByte x q m → HasByte x r n
        → (q ≡ r) × (m ≡ n)
    members_once g x q m r n one two a b =
        let p = of_members t built g one.0 q m (aggregate_at t g one.0 one.1) one.2 in
        let same : one.0 ≡ two.0 = some-injective (sym one.1 ∙ two.1) in
        let own : members_of t one.0 ≡ p.members =
        ap (λ o. unwrap_or (option_and_then (λ (g : AggregateRow). g.members) o) []) p.there
        ∙ ap (λ o. unwrap_or o []) p.own in
        rows_once 0 x q m r n p.placed.layouts p.members p.placed.each
        (subst (λ u. RowsAt u 0 p.placed.layouts p.members) (no_union t built tame one.0 p.row p.there) p.placed.rows)
        (sym (ap (list_any (IsAt q m)) own) ∙ one.2)
        (sym (ap (list_any (IsAt r n)) own) ∙ ap (λ a. list_any (IsAt r n) (members_of t a)) same ∙ two.2) a b

    -- ---- scalars have no parts

    no_member : (ty q m : ℕ) (w : Scalar) → IsMember t ty q m → scalar_of t ty ≡ Some w → ⊥
    no_member ty q m w mem h = none_some w (rw (aggregate_at t ty mem.0 mem.1) at h)

    no_element : (ty e n : ℕ) (w : Scalar) → elements_of t ty ≡ Some (e, n) → scalar_of t ty ≡ Some w → ⊥
    no_element ty e n w el h = none_some w (rw (array_at t ty e n el) at h)

    no_both : (ty e n q m : ℕ) → elements_of t ty ≡ Some (e, n) → IsMember t ty q m → ⊥
    no_both ty e n q m el mem =
        differ (sym (array_at t ty e n el) ∙ aggregate_at t ty mem.0 mem.1)
      where
        differ : Some (Array e n) ≡ Some (Aggregate mem.0) → ⊥
        differ h = absurd cc

    -- ---- one scalar

    once : (whole o a : ℕ) → Inwards t whole o a → (b p : ℕ) → First t whole p b → o ≡ p → (v w : Scalar)
        → scalar_of t a ≡ Some v → scalar_of t b ≡ Some w → a ≡ b
    once whole o a (itself z) b p (none e) s v w is there = e
    once whole o a (itself z) b p (member q m k mem way e) s v w is there = absurd (no_member whole q m v mem is)
    once whole o a (itself z) b p (element c n i u k el l sz way e) s v w is there =
        absurd (no_element whole c n v el is)
    once whole o a (by_member g q m k z mem way) b p other s v w is there =
        member_once g q m k z mem way b p other s v w is there (once m k z way b)
      where
        member_once : (g q m k ty : ℕ) → IsMember t g q m → Inwards t m k ty → (b p : ℕ) → First t g p b → q + k ≡ p
            → (v w : Scalar) → scalar_of t ty ≡ Some v → scalar_of t b ≡ Some w
            → ((p : ℕ) → First t m p b → k ≡ p → (v w : Scalar) → scalar_of t ty ≡ Some v → scalar_of t b ≡ Some w
            → ty ≡ b)
            → ty ≡ b
        member_once g q m k ty mem way b p (none e) s v w is there later =
            absurd (no_member g q m w mem (ap (scalar_of t) e ∙ there))
        member_once g q m k ty mem way b p (element c n i u j el l sz on e) s v w is there later =
            absurd (no_both g c n q m el mem)
        member_once g q m k ty mem way b p (member r n j two on e) s v w is there later =
            let same = members_once g (q + k) q m r n mem two
            (omega arith, λ z sz. (let h = scalar_inside m k ty v way is z sz in omega (arith, h)))
            (omega (arith, s, e), λ z sz. (let h = scalar_inside n j b w on there z sz in omega (arith, h, s, e))) in
            let at = same.0 in
            later j (first_step t m j b (subst (λ x. Inwards t x j b) (sym same.1) on)) (omega (arith, s, e, at)) v w is
            there
    once whole o a (by_element x c n i u k z el l sz way) b p other s v w is there =
        element_once x c n i u k z el l sz way b p other s v w is there (once c k z way b)
      where
        element_once : (a c n i u k ty : ℕ) → elements_of t a ≡ Some (c, n) → i < n → size t c ≡ Some u
            → Inwards t c k ty → (b p : ℕ) → First t a p b → u * i + k ≡ p
            → (v w : Scalar) → scalar_of t ty ≡ Some v → scalar_of t b ≡ Some w
            → ((p : ℕ) → First t c p b → k ≡ p → (v w : Scalar) → scalar_of t ty ≡ Some v → scalar_of t b ≡ Some w
            → ty ≡ b)
            → ty ≡ b
        element_once a c n i u k ty el l sz way b p (none e) s v w is there later =
            absurd (no_element a c n w el (ap (scalar_of t) e ∙ there))
        element_once a c n i u k ty el l sz way b p (member q m j mem on e) s v w is there later =
            absurd (no_both a c n q m el mem)
        element_once a c n i u k ty el l sz way b p (element d h f y j fl g tz on e) s v w is there later =
            let same : (c, n) ≡ (d, h) = some-injective (sym el ∙ fl) in
            let own : c ≡ d = ap (λ (x : ℕ × ℕ). x.0) same in
            let large : u ≡ y = some-injective (sym sz ∙ ap (size t) own ∙ tz) in
            let inner = subst (λ x. Inwards t x j b) (sym own) on in
            let one = scalar_inside c k ty v way is u sz in
            let two = scalar_inside c j b w inner there u sz in
            let at : p ≡ u * f + j = e ∙ ap (λ x. x * f + j) (sym large) in
            later j (first_step t c j b inner) (same_element u i f k j one two (s ∙ at)).1 v w is there

    pub scalars_once : (whole o a b : ℕ) (v w : Scalar) → HasScalar t whole o a → HasScalar t whole o b
        → scalar_of t a ≡ Some v → scalar_of t b ≡ Some w → a ≡ b
    scalars_once whole o a b v w one two is there =
        once whole o a (inwards t whole o a one) b o (first_step t whole o b (inwards t whole o b two)) refl v w is
        there
