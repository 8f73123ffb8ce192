-- Look-ups in a table of types.
use Rattle.std.proofs.Common.{◌≡◌, ℕ, zero, suc, ◌+◌, ◌-◌, ◌≤◌, ◌<◌, Bool, true, false, cond, List, [], ◌∷◌, length}
use Rattle.ep_layout.proofs.Basics.{at_depth-none}
use Rattle.std.proofs.Common.{drop, slice_get, Option, Some, None, option_map, refl, sym, ap, ◌∙◌}
use Rattle.std.proofs.Common.{arith, ℤ, pos, get_or, drop-cons}
use Rattle.std.proofs.lemmas.List.{drop_all}
use Rattle.std.proofs.lemmas.Option.{slice_get_past, slice_get_within}
use Rattle.ep_int.specs.declared.types.IntType.{IntType}
use Rattle.ep_int.specs.declared.types.IntType.TheVariants.{U64}
use Rattle.ep_int.specs.Arith.{is_in_range}
use Rattle.ep_layout.specs.declared.types.Ty.{Ty}
use Rattle.ep_layout.specs.declared.types.Ty.TheVariants.{Void, Int, Ptr, Array, Aggregate}
use Rattle.ep_layout.specs.Layout.{Layout}
use Rattle.ep_layout.specs.Pointers.{IsNoPointer, row_over}
use Rattle.ep_layout.specs.SameTypes.{is_same_type, same_types}
use Rattle.ep_layout.proofs.Options.{and_then_some}
use Rattle.ep_layout.proofs.Positions.{position_some}
use Rattle.ep_layout.specs.Table.{Table, number_of, size, layout_rules}
use Rattle.ep_typing.specs.declared.types.Base.{Base}
use Rattle.ep_typing.specs.declared.types.CType.{CType}
use Rattle.ep_typing.specs.Types.{first_holding, of_row, pointer_to, type_of, type_within, void_type, whole, with_stars}

pub absent_size : (t : Table) (n : ℕ) → length t.types ≤ n → size t n ≡ None
absent_size t n h =
    ap (option_map (λ (l : Layout). l.size))
    (at_depth-none (layout_rules t.model) t (length t.types + length t.completed) n (slice_get_past t.types n h))

-- ---- the first type that holds a number

module _ (v : ℤ) (i : ℕ) (ts : List IntType) (d : IntType) (lt : i < length ts) (e : first_holding v (drop i ts) ≡ first_holding v ts) where
  unrolled : first_holding v (get_or ts i d ∷ drop (i + 1) ts) ≡ first_holding v ts
  unrolled =
      let more : suc i ≡ i + 1 = omega arith in
      sym (ap (first_holding v) (drop-cons ts i d lt ∙ ap (λ (n : ℕ). get_or ts i d ∷ drop n ts) more)) ∙ e

  pub held : is_in_range (get_or ts i d) v ≡ true → get_or ts i d ≡ first_holding v ts
  held h = ap (λ (b : Bool). cond b (get_or ts i d) (first_holding v (drop (i + 1) ts))) (sym h) ∙ unrolled

  pub not_held : is_in_range (get_or ts i d) v ≡ false → first_holding v (drop (i + 1) ts) ≡ first_holding v ts
  not_held h = ap (λ (b : Bool). cond b (get_or ts i d) (first_holding v (drop (i + 1) ts))) (sym h) ∙ unrolled

pub none_held : (v : ℤ) (i : ℕ) (ts : List IntType) → length ts ≤ i → first_holding v (drop i ts) ≡ first_holding v ts → U64 ≡ first_holding v ts
none_held v i ts h e = let none : drop i ts ≡ [] = drop_all i ts h in sym (ap (first_holding v) none) ∙ e

-- ---- pointers of a table

-- a row's type where it is no pointer
pub base_at : (t : Table) (n : ℕ) (ty : Ty) (b : Base) → slice_get t.types n ≡ Some ty
    → ((at : ℕ → CType) → of_row at n (Some ty) ≡ whole b) → whole b ≡ type_of t n
unfolding type_within
base_at t n ty b h f =
    let inside = slice_get_within t.types n ty h in
    let deep : length t.types ≡ suc (length t.types - 1) = omega (arith, inside) in
    sym (ap (λ (i : ℕ). type_within t i n) deep ∙ ap (of_row (type_within t (length t.types - 1)) n) h
    ∙ f (type_within t (length t.types - 1)))

same_row : (f g : ℕ → CType) (n : ℕ) (o : Option Ty) → ((e : ℕ) → o ≡ Some (Ptr e) → ⊥) → of_row f n o ≡ of_row g n o
same_row f g n None h = refl
same_row f g n (Some Void) h = refl
same_row f g n (Some (Int i)) h = refl
same_row f g n (Some (Ptr e)) h = absurd (h e refl)
same_row f g n (Some (Array e k)) h = refl
same_row f g n (Some (Aggregate a)) h = refl

none_within : (t : Table) (i j n : ℕ) → IsNoPointer t.types n → type_within t (suc i) n ≡ type_within t (suc j) n
unfolding type_within
none_within t i j n h = same_row (type_within t i) (type_within t j) n (slice_get t.types n) h

pointer_there : (t : Table) (r m : ℕ) → number_of t (Ptr r) ≡ Some m → slice_get t.types m ≡ Some (Ptr r)
pointer_there t r m h =
    let p = position_some (is_same_type (Ptr r)) t.types m Void h in
    p.1 ∙ ap Some (sym (same_types (Ptr r) p.0 p.2))

-- so many pointers over a row stand so many steps behind its type
over_row : (t : Table) (k i r n : ℕ) (c : CType) → row_over t.types r k ≡ Some n → type_within t i r ≡ c
    → type_within t (k + i) n ≡ with_stars c k
unfolding row_over type_within
over_row t zero i r n c h e =
    let same : r ≡ n = cc in
    let less : 0 + i ≡ i = omega arith in
    let still : c.stars ≡ c.stars + 0 = omega arith in
    ap (λ (j : ℕ). type_within t j n) less ∙ ap (type_within t i) (sym same) ∙ e
    ∙ ap (λ (j : ℕ). record { base = c.base; stars = j }) still
over_row t (suc k) i r n c h e =
    let s = and_then_some (λ m. row_over t.types m k) (number_of t (Ptr r)) n h in
    let next : type_within t (suc i) s.0 ≡ pointer_to c =
    ap (of_row (type_within t i) s.0) (pointer_there t r s.0 s.1) ∙ ap pointer_to e in
    let further : suc k + i ≡ k + suc i = omega arith in
    let more : c.stars + 1 + k ≡ c.stars + suc k = omega arith in
    ap (λ (j : ℕ). type_within t j n) further ∙ over_row t k (suc i) s.0 n (pointer_to c) s.2 next
    ∙ ap (λ (j : ℕ). record { base = c.base; stars = j }) more

deeper : (t : Table) (n r k i : ℕ) (b : Base) → row_over t.types r k ≡ Some n → IsNoPointer t.types r → length t.types ≡ k + suc i
    → whole b ≡ type_of t r → with_stars (whole b) k ≡ type_of t n
deeper t n r k i b up none all h =
    let deep : length t.types ≡ suc (k + i) = omega (arith, all) in
    let root : type_within t (suc i) r ≡ whole b = none_within t i (k + i) r none ∙ ap (λ (j : ℕ). type_within t j r) (sym deep) ∙ sym h in
    sym (ap (λ (j : ℕ). type_within t j n) all ∙ over_row t k (suc i) r n (whole b) up root)

-- a row's type by the root of its pointers
pub by_root : (t : Table) (n r k : ℕ) (b : Base) → row_over t.types r k ≡ Some n → IsNoPointer t.types r → k < length t.types
    → whole b ≡ type_of t r → ◌≡◌ {A = CType} (record { base = b; stars = k }) (type_of t n)
by_root t n r k b up none few h =
    let stars : k ≡ 0 + k = omega arith in
    let all : length t.types ≡ k + suc (length t.types - (k + 1)) = omega (arith, few) in
    ap (λ (j : ℕ). record { base = b; stars = j }) stars ∙ deeper t n r k (length t.types - (k + 1)) b up none all h

none_there : (k : ℕ) (t : Table) (n : ℕ) → slice_get t.types n ≡ None → void_type ≡ type_within t k n
unfolding type_within
none_there zero t n h = refl
none_there (suc k) t n h = sym (ap (of_row (type_within t k) n) h)

pub no_row : (t : Table) (n : ℕ) → length t.types ≤ n → void_type ≡ type_of t n
no_row t n l = none_there (length t.types) t n (slice_get_past t.types n l)
