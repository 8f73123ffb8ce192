-- An object in another one has its own leaves there.
use Rattle.std.proofs.Common.{◌≡◌, ◌+◌, ◌*◌, ◌<◌, ◌≤◌, Bool, true, false, ◌&&◌, ◌||◌, ◌==◌, if◌then◌else◌, List, [], ℕ}
use Rattle.std.proofs.Common.{◌∷◌, Some, refl, sym, ap, ◌∙◌, subst, arith}
use Rattle.std.specs.Prelude.{option_map, option_and_then, unwrap_or}
use Rattle.std.specs.Int.{next_multiple_of}
use Rattle.std.specs.List.{list_any}
use Rattle.std.proofs.lemmas.Bool.{eqb-true, and_parts}
use Rattle.ep_int.proofs.Basics.{some-injective}
use Rattle.ep_layout.specs.Layout.{Layout, shifted, repeated, leaves_after, struct_layout, union_layout}
use Rattle.ep_layout.specs.Table.{Table, AggregateRow, MemberRow, IsBuilt, size, leaves, members_of, elements_of}
use Rattle.ep_layout.specs.Table.{layout_of, at_each, at_type, layout_rules}
use Rattle.ep_layout.proofs.Laid.{by_type_is}
use Rattle.ep_layout.proofs.Options.{at_each_some}
use Rattle.ep_layout.proofs.Ordered.{ordered}
use Rattle.ep_layout.proofs.Recursion.{types_of}
use Rattle.ep_layout.proofs.Rows.{RowsAt, leaves_of}
use Rattle.ep_layout.proofs.Sizes.{element_laid}
use Rattle.ep_kinds.specs.Tame.{are_tame_types}
use Rattle.ep_kinds.specs.Rows.{IsMember, HasScalar, here, in_member, in_element}
use Rattle.ep_tame_laws.proofs.Found.{aggregate_at, array_at, array_size}
use Rattle.ep_tame_laws.proofs.Parts.{of_members, part_fits, no_union}
use Rattle.ep_tame_parts.specs.Laws.{HasLeavesAt}
use Rattle.ep_tame_parts.proofs.LeafLists.{BeginFrom, begin_append, begin_shifted, begin_later, ordered_end}
use Rattle.ep_tame_parts.proofs.LeafLists.{end_shifted, Same, same_itself, same_inside, same_shifted, same_front}
use Rattle.ep_tame_parts.proofs.LeafLists.{same_back, same_element}

abbrev IsAt : (offset ty : ℕ) → MemberRow → Bool
IsAt q ty m = m.offset == q && m.ty == ty

begin_after : (e : ℕ) (ls : List Layout) → BeginFrom e (leaves_after e ls)
begin_after e [] = tt
begin_after e (l ∷ ls) =
    begin_append e (shifted (next_multiple_of e l.align) l.leaves)
    (leaves_after (next_multiple_of e l.align + l.size) ls)
    (begin_shifted e (next_multiple_of e l.align) l.leaves (omega arith))
    (begin_later e (next_multiple_of e l.align + l.size) (leaves_after (next_multiple_of e l.align + l.size) ls)
    (omega arith) (begin_after (next_multiple_of e l.align + l.size) ls))

rows_behind : (e q m : ℕ) (ls : List Layout) (ms : List MemberRow) → RowsAt false e ls ms
    → list_any (IsAt q m) ms ≡ true → e ≤ q
rows_behind e q m ls [] r some = absurd cc
rows_behind e q m [] (x ∷ ms) r some = absurd r
rows_behind e q m (l ∷ ls) (x ∷ ms) r some =
    at (IsAt q m x) refl some (rows_behind (next_multiple_of e l.align + l.size) q m ls ms r.1)
  where
    at : (b : Bool) → IsAt q m x ≡ b → (b || list_any (IsAt q m) ms) ≡ true
        → (list_any (IsAt q m) ms ≡ true → next_multiple_of e l.align + l.size ≤ q) → e ≤ q
    at true is some later =
        let place = eqb-true x.offset q (and_parts (x.offset == q) (x.ty == m) is).0 in
        let own = r.0 in omega (arith, place, own)
    at false is some later = let k = later some in omega (arith, k)

module _ (t : Table) (built : IsBuilt t) where
  size_is : (n : ℕ) (l : Layout) → layout_of t n ≡ Some l → size t n ≡ Some l.size
  size_is n l h = ap (option_map (λ (l : Layout). l.size)) h

  rows_same : (e : ℕ) (ls : List Layout) (ms : List MemberRow) → at_each (layout_of t) (types_of ms) ≡ Some ls
      → RowsAt false e ls ms → (q ty s : ℕ) → list_any (IsAt q ty) ms ≡ true → size t ty ≡ Some s
      → Same t.model (leaves_after e ls) (leaves t ty) q s
  rows_same e ls [] h r q ty s some sz = absurd cc
  rows_same e [] (m ∷ ms) h r q ty s some sz = absurd r
  rows_same e (l ∷ ls) (m ∷ ms) h r q ty s some sz =
      let x = at_each_some (layout_of t) m.ty (types_of ms) (l ∷ ls) h in
      let same : x.0 ≡ l = cc in
      let more : x.1 ≡ ls = cc in
      at (IsAt q ty m) refl some (x.2 ∙ ap Some same)
      (λ some. rows_same (next_multiple_of e l.align + l.size) ls ms (x.3 ∙ ap Some more) r.1 q ty s some sz)
    where
      k : ℕ
      k = next_multiple_of e l.align

      own : layout_of t m.ty ≡ Some l → m.offset ≡ q → m.ty ≡ ty
          → Same t.model (leaves_after e (l ∷ ls)) (leaves t ty) q s
      own one place type =
          let bytes : l.size ≡ s = some-injective (sym (size_is m.ty l one) ∙ ap (size t) type ∙ sz) in
          let begin : k + 0 ≡ q = (let a = r.0 in omega (arith, a, place)) in
          let part : l.leaves ≡ leaves t ty = sym (leaves_of t m.ty l one) ∙ ap (leaves t) type in
          subst (λ s. Same t.model (leaves_after e (l ∷ ls)) (leaves t ty) q s) bytes
          (subst (λ q. Same t.model (leaves_after e (l ∷ ls)) (leaves t ty) q l.size) begin
          (subst (λ ys. Same t.model (leaves_after e (l ∷ ls)) ys (k + 0) l.size) part
          (same_front t.model (shifted k l.leaves) (leaves_after (k + l.size) ls) l.leaves (k + 0) l.size
          (same_shifted t.model l.leaves l.leaves k 0 l.size (same_itself t.model l.leaves l.size))
          (begin_later (k + 0 + l.size) (k + l.size) (leaves_after (k + l.size) ls) (omega arith)
          (begin_after (k + l.size) ls)))))

      at : (b : Bool) → IsAt q ty m ≡ b → (b || list_any (IsAt q ty) ms) ≡ true → layout_of t m.ty ≡ Some l
          → (list_any (IsAt q ty) ms ≡ true → Same t.model (leaves_after (k + l.size) ls) (leaves t ty) q s)
          → Same t.model (leaves_after e (l ∷ ls)) (leaves t ty) q s
      at true is some one later =
          let p = and_parts (m.offset == q) (m.ty == ty) is in
          own one (eqb-true m.offset q p.0) (eqb-true m.ty ty p.1)
      at false is some one later =
          same_back t.model (shifted k l.leaves) (leaves_after (k + l.size) ls) (leaves t ty) (k + l.size) q s
          (later some)
          (end_shifted t.model k l.size l.leaves (ordered_end t.model 0 l.size l.leaves (ordered t m.ty l one)))
          (rows_behind (k + l.size) q ty ls ms r.1 some)

  module _ (tame : are_tame_types t ≡ true) where
    member_same : (g q ty s : ℕ) → IsMember t g q ty → size t ty ≡ Some s
        → Same t.model (leaves t g) (leaves t ty) q s
    member_same g q ty s m sz =
        let r = of_members t built g m.0 q ty (aggregate_at t g m.0 m.1) m.2 in
        let ms_are : members_of t m.0 ≡ r.members =
        ap (λ o. unwrap_or (option_and_then (λ (g : AggregateRow). g.members) o) []) r.there
        ∙ ap (λ o. unwrap_or o []) r.own in
        let some : list_any (IsAt q ty) r.members ≡ true = sym (ap (list_any (IsAt q ty)) ms_are) ∙ m.2 in
        let struct = no_union t built tame m.0 r.row r.there in
        let own : leaves t g ≡ leaves_after 0 r.placed.layouts =
        leaves_of t g _ r.layout
        ∙ ap (λ u. ((if u then union_layout else struct_layout) r.placed.layouts).leaves) struct in
        subst (λ xs. Same t.model xs (leaves t ty) q s) (sym own)
        (rows_same 0 r.placed.layouts r.members r.placed.each
        (subst (λ u. RowsAt u 0 r.placed.layouts r.members) struct r.placed.rows) q ty s some sz)

    element_of_same : (a e n i u : ℕ) → elements_of t a ≡ Some (e, n) → i < n → size t e ≡ Some u
        → Same t.model (leaves t a) (leaves t e) (u * i) u
    element_of_same a e n i u el l sz =
        let h = array_at t a e n el in
        let x = element_laid t built a e n h in
        let whole : layout_of t a ≡ Some ((layout_rules t.model).array n x.0) =
        by_type_is (layout_rules t.model) t built a
        ∙ ap (option_and_then (at_type (layout_rules t.model) t (layout_of t))) h
        ∙ ap (option_map ((layout_rules t.model).array n)) x.1 in
        let bytes : x.0.size ≡ u = some-injective (sym (size_is e x.0 x.1) ∙ sz) in
        let one = same_element t.model n x.0.size i x.0.leaves
        (ordered_end t.model 0 x.0.size x.0.leaves (ordered t e x.0 x.1)) l in
        subst (λ xs. Same t.model xs (leaves t e) (u * i) u) (sym (leaves_of t a _ whole))
        (subst (λ ys. Same t.model (repeated n x.0.size x.0.leaves) ys (u * i) u) (sym (leaves_of t e x.0 x.1))
        (subst (λ u. Same t.model (repeated n x.0.size x.0.leaves) x.0.leaves (u * i) u) bytes one))

    parts_same : (whole o ty s : ℕ) → HasScalar t whole o ty → size t ty ≡ Some s
        → Same t.model (leaves t whole) (leaves t ty) o s
    parts_same whole o ty s here sz = same_itself t.model (leaves t whole) s
    parts_same whole o ty s (in_member p g q k at m) sz =
        let a = aggregate_at t g m.0 m.1 in
        let r = of_members t built g m.0 q k a m.2 in
        let z = (if r.row.is_union then union_layout else struct_layout) r.placed.layouts in
        let inner = part_fits t built g (0 + q) k z.size s (in_member 0 g q k here m) (size_is g z r.layout) sz in
        same_inside t.model (leaves t whole) (leaves t g) (leaves t k) p q z.size s
        (parts_same whole p g z.size at (size_is g z r.layout)) (member_same g q k s m sz) (omega (arith, inner))
    parts_same whole o ty s (in_element p a e n i u at el l sz) own =
        let whole_size = array_size t built a e n u (array_at t a e n el) sz in
        let inner = part_fits t built a (0 + u * i) e (n * u) u (in_element 0 a e n i u here el l sz) whole_size sz in
        let bytes : u ≡ s = some-injective (sym sz ∙ own) in
        subst (λ s. Same t.model (leaves t whole) (leaves t e) (p + u * i) s) bytes
        (same_inside t.model (leaves t whole) (leaves t a) (leaves t e) p (u * i) (n * u) u
        (parts_same whole p a (n * u) at whole_size) (element_of_same a e n i u el l sz) (omega (arith, inner)))

pub parts_have_cells : (t : Table) → IsBuilt t → are_tame_types t ≡ true → (whole o ty s : ℕ) → HasScalar t whole o ty
    → size t ty ≡ Some s → HasLeavesAt t.model (leaves t whole) (leaves t ty) o s
parts_have_cells t built tame whole o ty s at sz = parts_same t built tame whole o ty s at sz
