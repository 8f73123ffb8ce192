-- Members lie where the layouts of their types put them, also when the table has grown.
use Rattle.std.proofs.Common.{◌≡◌, ℕ, ◌+◌, ◌<◌, ◌≤◌, ◌-◌, Bool, true, false, List, [], ◌∷◌, ◌++◌, length, slice_get}
use Rattle.std.proofs.Common.{Option, Some, None, option_map, unwrap_or, refl, sym, ◌∙◌, ap, subst, inl, inr, arith}
use Rattle.std.proofs.Common.{eq-zero-or-pos, if◌then◌else◌}
use Rattle.std.specs.Int.{next_multiple_of}
use Rattle.std.specs.List.{All}
use Rattle.std.proofs.lemmas.List.Elements.{All-nil, All-cons}
use Rattle.ep_layout.specs.declared.types.Leaf.{Leaf}
use Rattle.ep_layout.specs.Layout.{Layout, shifted, end_of, greatest_size, leaves_after, first_leaves, most_bytes}
use Rattle.ep_layout.specs.Table.{Table, AggregateRow, MemberRow, IsBuilt, Grows, at_each, layout_rules, layout_of}
use Rattle.ep_layout.specs.Table.{known_layout, leaves, struct_members, union_members, laid_out, with_type, declared}
use Rattle.ep_layout.specs.Table.IsBuilt.{start, type_more, aggregate_more, members_more}
use Rattle.ep_layout.specs.Pending.{rows_leaves, RowFits}
use Rattle.ep_layout.proofs.Options.{at_each_some, at_each_more, get_push, get_set}
use Rattle.ep_layout.proofs.Recursion.{types_of, at_depth_past}
use Rattle.ep_layout.proofs.Laid.{grows_with_type, grows_declared, grows_with_members, with_members, completed_is}
use Rattle.ep_layout.proofs.Laid.{new_members}
use Rattle.ep_layout.proofs.Sizes.{layout_grows}
use Rattle.ep_layout.proofs.PlacingLemmas.{end_rises}

-- members of these layouts in an aggregate, when those before end at e
abbrev pub RowsAt : Bool → ℕ → List Layout → List MemberRow → Type 0
RowsAt u e [] [] = Unit {0}
RowsAt u e (l ∷ ls) (m ∷ ms) = (m.offset ≡ (if u then 0 else next_multiple_of e l.align)) × RowsAt u (next_multiple_of e l.align + l.size) ls ms
RowsAt u e ls ms = ⊥

pub record ArePlaced (t : Table) (u : Bool) (ms : List MemberRow) : Type 0 where
  pub layouts : List Layout
  pub each : at_each (layout_of t) (types_of ms) ≡ Some layouts
  pub rows : RowsAt u 0 layouts ms

pub known_of : (t : Table) (n : ℕ) (l : Layout) → layout_of t n ≡ Some l → known_layout t n ≡ l
known_of t n l h = ap (λ (o : Option Layout). unwrap_or o (record { size = 0; align = 1; leaves = [] })) h

struct_rows : (t : Table) (members : List (List ℕ × ℕ)) (e : ℕ) (ls : List Layout) → at_each (layout_of t) (types_of (struct_members t e members)) ≡ Some ls → RowsAt false e ls (struct_members t e members)
struct_rows t [] e ls h = let p : [] ≡ ls = cc in subst (λ (xs : List Layout). RowsAt false e xs []) p tt
struct_rows t (m ∷ more) e ls h =
    let k = known_layout t m.1 in
    let s = at_each_some (layout_of t) m.1 (types_of (struct_members t (next_multiple_of e k.align + k.size) more)) ls h in
    let same : k ≡ s.0 = known_of t m.1 s.0 s.2 in
    let rest = struct_rows t more (next_multiple_of e k.align + k.size) s.1 s.3 in
    subst (λ (xs : List Layout). RowsAt false e xs (struct_members t e (m ∷ more))) s.4
    (ap (λ (l : Layout). next_multiple_of e l.align) same, subst (λ (l : Layout). RowsAt false (next_multiple_of e l.align + l.size) s.1 (struct_members t (next_multiple_of e k.align + k.size) more)) same rest)

union_rows : (t : Table) (members : List (List ℕ × ℕ)) (e : ℕ) (ls : List Layout) → at_each (layout_of t) (types_of (union_members members)) ≡ Some ls → RowsAt true e ls (union_members members)
union_rows t [] e ls h = let p : [] ≡ ls = cc in subst (λ (xs : List Layout). RowsAt true e xs []) p tt
union_rows t (m ∷ more) e ls h =
    let s = at_each_some (layout_of t) m.1 (types_of (union_members more)) ls h in
    subst (λ (xs : List Layout). RowsAt true e xs (union_members (m ∷ more))) s.4 (refl, union_rows t more _ s.1 s.3)

laid_rows : (t : Table) (u : Bool) (members : List (List ℕ × ℕ)) (ls : List Layout) → at_each (layout_of t) (types_of (laid_out t u members)) ≡ Some ls → RowsAt u 0 ls (laid_out t u members)
laid_rows t true members ls h = union_rows t members 0 ls h
laid_rows t false members ls h = struct_rows t members 0 ls h

placed_later : (t u : Table) → Grows t u → (b : Bool) (ms : List MemberRow) → ArePlaced t b ms → ArePlaced u b ms
placed_later t u grows b ms p = record { layouts = p.layouts; each = at_each_more (layout_of t) (layout_of u) (layout_grows t u grows) (types_of ms) p.layouts p.each; rows = p.rows }

some_is : {x y : List MemberRow} → Some x ≡ Some y → x ≡ y
some_is e = cc

none_some : (q : List MemberRow) → None ≡ Some q → ⊥
none_some q h = cc

pub placed : (t : Table) → IsBuilt t → (a : ℕ) (g : AggregateRow) (ms : List MemberRow) → slice_get t.aggregates a ≡ Some g → g.members ≡ Some ms → ArePlaced t g.is_union ms
placed t (start m) a g ms h q = absurd cc
placed t (type_more s ty b there new fits) a g ms h q = placed_later s (with_type s ty) (grows_with_type s ty) g.is_union ms (placed s b a g ms h q)
placed t (aggregate_more s tag u b) a g ms h q = elim (get_push s.aggregates (record { tag = tag; is_union = u; members = None }) g a h) [
  | inl old ↦ placed_later s (declared s tag u) (grows_declared s tag u) g.is_union ms (placed s b a g ms old q)
  | inr new ↦ absurd (none_some ms (ap (λ (x : AggregateRow). x.members) new.1 ∙ q))
]
placed t (members_more s i f members b here none_yet there fits) a g ms h q =
    let l : List MemberRow = laid_out s f.is_union members in
    let v : Table = with_members s i f l in
    let e = completed_is s i f members here in
    let grows : Grows s v = grows_with_members s i f l here none_yet in
    let now : slice_get v.aggregates a ≡ Some g = subst (λ (w : Table). slice_get w.aggregates a ≡ Some g) e h in
    subst (λ (w : Table). ArePlaced w g.is_union ms) (sym e) (elim (get_set s.aggregates i a (record f { members = Some l }) g now) [
      | inl p ↦
          let new = new_members (layout_rules s.model) s f.is_union members fits in
          let first : ArePlaced s f.is_union l = record { layouts = new.0; each = new.1; rows = laid_rows s f.is_union members new.0 new.1 } in
          let same : l ≡ ms = some_is (ap (λ (x : AggregateRow). x.members) p.1 ∙ q) in
          subst (ArePlaced v g.is_union) same (subst (λ (u : Bool). ArePlaced v u l) (ap (λ (x : AggregateRow). x.is_union) p.1) (placed_later s v grows f.is_union l first))
      | inr old ↦ placed_later s v grows g.is_union ms (placed s b a g ms old q)
    ])

---- leaves of members

pub leaves_of : (t : Table) (n : ℕ) (l : Layout) → layout_of t n ≡ Some l → leaves t n ≡ l.leaves
leaves_of t n l h = ap (λ (o : Option Layout). unwrap_or (option_map (λ (k : Layout). k.leaves) o) []) h

pub shifted_none : (xs : List Leaf) → shifted 0 xs ≡ xs
shifted_none [] = refl
shifted_none (f ∷ xs) = let e : 0 + f.offset ≡ f.offset = omega arith in ap (λ (k : ℕ). (record f { offset = k }) ∷ shifted 0 xs) e ∙ ap (λ (l : List Leaf). f ∷ l) (shifted_none xs)

pub append_none : (xs : List Leaf) → xs ++ [] ≡ xs
append_none [] = refl
append_none (f ∷ xs) = ap (λ (l : List Leaf). f ∷ l) (append_none xs)

struct_leaves : (t : Table) (ms : List MemberRow) (e : ℕ) (ls : List Layout) → at_each (layout_of t) (types_of ms) ≡ Some ls → RowsAt false e ls ms → leaves_after e ls ≡ rows_leaves t false ms
struct_leaves t [] e [] h p = refl
struct_leaves t [] e (l ∷ ls) h p = absurd p
struct_leaves t (m ∷ ms) e [] h p = absurd p
struct_leaves t (m ∷ ms) e (l ∷ ls) h p =
    let s = at_each_some (layout_of t) m.ty (types_of ms) (l ∷ ls) h in
    let here : s.0 ≡ l = cc in
    let more : s.1 ≡ ls = cc in
    let first = leaves_of t m.ty l (s.2 ∙ ap Some here) in
    let rest = struct_leaves t ms (next_multiple_of e l.align + l.size) ls (s.3 ∙ ap Some more) p.1 in
    ap (λ (k : ℕ). shifted k l.leaves ++ leaves_after (next_multiple_of e l.align + l.size) ls) (sym p.0) ∙ ap (λ (xs : List Leaf). shifted m.offset xs ++ leaves_after (next_multiple_of e l.align + l.size) ls) (sym first) ∙ ap (λ (xs : List Leaf). shifted m.offset (leaves t m.ty) ++ xs) rest

union_leaves : (t : Table) (ms : List MemberRow) (e : ℕ) (ls : List Layout) → at_each (layout_of t) (types_of ms) ≡ Some ls → RowsAt true e ls ms → first_leaves ls ≡ rows_leaves t true ms
union_leaves t [] e [] h p = refl
union_leaves t [] e (l ∷ ls) h p = absurd p
union_leaves t (m ∷ ms) e [] h p = absurd p
union_leaves t (m ∷ ms) e (l ∷ ls) h p =
    let s = at_each_some (layout_of t) m.ty (types_of ms) (l ∷ ls) h in
    let here : s.0 ≡ l = cc in
    let first = leaves_of t m.ty l (s.2 ∙ ap Some here) in
    sym (append_none (shifted m.offset (leaves t m.ty)) ∙ ap (λ (k : ℕ). shifted k (leaves t m.ty)) p.0 ∙ shifted_none (leaves t m.ty) ∙ first)

-- the leaves of an aggregate of these members
abbrev pub whole_leaves : Bool → List Layout → List Leaf
whole_leaves u ls = if u then first_leaves ls else leaves_after 0 ls

pub rows_leaves_are : (t : Table) (u : Bool) (ms : List MemberRow) → (p : ArePlaced t u ms) → whole_leaves u p.layouts ≡ rows_leaves t u ms
rows_leaves_are t true ms p = union_leaves t ms 0 p.layouts p.each p.rows
rows_leaves_are t false ms p = struct_leaves t ms 0 p.layouts p.each p.rows

---- members end inside

pub type_there : (t : Table) (n : ℕ) (l : Layout) → layout_of t n ≡ Some l → n < length t.types
type_there t n l h = elim (eq-zero-or-pos (length t.types - n)) [
  | inl e ↦ absurd (no (sym (at_depth_past (layout_rules t.model) t (length t.types + length t.completed) n (omega arith)) ∙ h))
  | inr p ↦ omega arith
]
  where
    no : None ≡ Some l → ⊥
    no e = cc

struct_fits : (t : Table) (ms : List MemberRow) (offset e : ℕ) (ls : List Layout) → at_each (layout_of t) (types_of ms) ≡ Some ls → RowsAt false e ls ms → offset + end_of e ls ≤ most_bytes → All (RowFits t offset) ms
struct_fits t [] offset e ls h p q = All-nil (RowFits t offset)
struct_fits t (m ∷ ms) offset e [] h p q = absurd p
struct_fits t (m ∷ ms) offset e (l ∷ ls) h p q =
    let s = at_each_some (layout_of t) m.ty (types_of ms) (l ∷ ls) h in
    let here : s.0 ≡ l = cc in
    let more : s.1 ≡ ls = cc in
    let size : (known_layout t m.ty).size ≡ l.size = ap (λ (k : Layout). k.size) (known_of t m.ty l (s.2 ∙ ap Some here)) in
    let place : m.offset ≡ next_multiple_of e l.align = p.0 in
    let rises = end_rises ls (next_multiple_of e l.align + l.size) in
    All-cons (RowFits t offset) m ms (record { type = type_there t m.ty s.0 s.2; end = omega (arith, size, place, rises, q) }) (struct_fits t ms offset (next_multiple_of e l.align + l.size) ls (s.3 ∙ ap Some more) p.1 q)

union_fits : (t : Table) (ms : List MemberRow) (offset e : ℕ) (ls : List Layout) → at_each (layout_of t) (types_of ms) ≡ Some ls → RowsAt true e ls ms → offset + greatest_size ls ≤ most_bytes → All (RowFits t offset) ms
union_fits t [] offset e ls h p q = All-nil (RowFits t offset)
union_fits t (m ∷ ms) offset e [] h p q = absurd p
union_fits t (m ∷ ms) offset e (l ∷ ls) h p q =
    let s = at_each_some (layout_of t) m.ty (types_of ms) (l ∷ ls) h in
    let here : s.0 ≡ l = cc in
    let more : s.1 ≡ ls = cc in
    let size : (known_layout t m.ty).size ≡ l.size = ap (λ (k : Layout). k.size) (known_of t m.ty l (s.2 ∙ ap Some here)) in
    let place : m.offset ≡ 0 = p.0 in
    All-cons (RowFits t offset) m ms (record { type = type_there t m.ty s.0 s.2; end = omega (arith, size, place, q) }) (union_fits t ms offset (next_multiple_of e l.align + l.size) ls (s.3 ∙ ap Some more) p.1 (omega (arith, q)))

abbrev pub whole_end : Bool → List Layout → ℕ
whole_end u ls = if u then greatest_size ls else end_of 0 ls

pub rows_fit : (t : Table) (u : Bool) (ms : List MemberRow) (offset : ℕ) → (p : ArePlaced t u ms) → offset + whole_end u p.layouts ≤ most_bytes → All (RowFits t offset) ms
rows_fit t true ms offset p h = union_fits t ms offset 0 p.layouts p.each p.rows h
rows_fit t false ms offset p h = struct_fits t ms offset 0 p.layouts p.each p.rows h
