-- Where places and pointers lie, step by step.
use Rattle.std.proofs.Common.{◌≡◌, ℕ, zero, suc, ◌+◌, ◌-◌, ◌*◌, ◌≤◌, ◌<◌, pos, Bool, true, false, ◌⊎◌, inl, inr}
use Rattle.ep_tame_types.proofs.Types.{no_bool}
use Rattle.ep_int.proofs.Basics.{if_some-map, some-injective}
use Rattle.std.proofs.lemmas.Bool.{false_from_ne_true}
use Rattle.std.proofs.Common.{Option, Some, None, IfSome, slice_get, List, refl, sym, ◌∙◌, subst, arith}
use Rattle.std.proofs.Math.Nat.{zero-mul}
use Rattle.std.proofs.lemmas.Bool.{eqb-true}
use Rattle.ep_layout.specs.Table.{Table, IsBuilt, size, elements_of}
use Rattle.ep_core.specs.Program.{Place, block, deref, member, element, Expr, Block, Program}
use Rattle.ep_core.specs.WellFormed.{is_named, block_has, blocks_fit}
use Rattle.ep_domain.specs.Domain.{Ops, Holds, Lawful}
use Rattle.ep_alarm_laws.specs.Laws.{ProductsKeepStrides}
use Rattle.ep_pointers.specs.declared.sum.Move.{Move}
use Rattle.ep_pointers.specs.Sum.{move, moved_offset}
use Rattle.ep_kinds.specs.Tame.{are_tame_types, is_size_of_holder, holds_array, through_member}
use Rattle.ep_kinds.specs.Rows.{IsMember, HasScalar, IsInChain, itself, of_elements, Row, row, of_block, of_target}
use Rattle.ep_kinds.specs.Rows.{of_member, of_element}
use Rattle.ep_tame_laws.proofs.Laid.{laid}
use Rattle.ep_tame_numbers.specs.Offsets.{KeepsOffsets}
use Rattle.ep_tame_values.specs.Offsets.{FitsIn, IsArrayOf, LieOn, PointAt}
use Rattle.ep_tame_values.specs.Laws.{IsIndex}
use Rattle.ep_tame_values.proofs.Alone.{each_if}
use Rattle.ep_tame_values.proofs.Lines as lines
use Rattle.ep_tame_values.proofs.Points as points
use Rattle.ep_tame_types.proofs.Types.{member_fits_in, element_plain, array_of, chain_fills, no_holder_of}
use Rattle.ep_tame_places.specs.Places.{IsEven, PointsTo, LiesAt}
use Rattle.ep_tame_places.specs.Laws.{PlaceLaws}
use Rattle.ep_tame_places.proofs.Blocks.{BlockHas, block_at, array_in}

up_to : (a b : ℕ) → a ≡ b → a ≤ 0 + b
up_to a b e = omega (arith, e)

-- ---- rows

elements_even : (t : Table) (a e n u : ℕ) (r : Row) → IsArrayOf t a e n u
    → IsEven t (row e r.first u (n * r.most + (n - 1)))
elements_even t a e n u r is = inr (record { plain = is.plain; dense = λ x y z. is.sized })

member_even : (t : Table) (r : Row) (q ty : ℕ) → FitsIn t r.ty q ty → IsEven t r
    → IsEven t (row ty (r.first + q) r.step r.most)
member_even t r q ty m (inl one) = inl one
member_even t r q ty m (inr s) =
    inr (record {
      plain = false_from_ne_true (holds_array t ty) (λ h. no_bool (m.holder h) s.plain);
      dense = λ e n h. no_bool (m.array e n h) s.plain;
    })

-- the elements of an array on the row are on one
element_step : (t : Table) (r : Row) (e n u : ℕ) → IsArrayOf t r.ty e n u → IsEven t r
    → (r.most ≡ 0) ⊎ (r.step ≡ u * n)
element_step t r e n u is (inl one) = inl one
element_step t r e n u is (inr s) = inr (some-injective (sym (s.dense e n is.elements) ∙ is.whole))

module _ (t : Table) (built : IsBuilt t) (tame : are_tame_types t ≡ true) where
  chain_even : (whole ty s m z : ℕ) → IsInChain t whole ty s m → size t ty ≡ Some z → IsEven t (row ty 0 z m)
  chain_even whole ty s m z (itself k) sz = inl refl
  chain_even whole ty s m z (of_elements a e n u k c el own some) sz =
      inr (record { plain = plain; dense = λ x y h. sz })
    where
      plain : holds_array t e ≡ false
      plain = element_plain t built tame a e n el

module _ {N : Type 0} (D : Ops N) (law : Lawful D) (keeps : KeepsOffsets D) (products : ProductsKeepStrides D)
    (p : Program) (built : IsBuilt p.types) (tame : are_tame_types p.types ≡ true)
    (fit : blocks_fit p.types p.blocks ≡ true) (live : List ℕ) where
  -- ---- places

  block_lies_at : (b ty : ℕ) → is_named p.types p.blocks live b ≡ true
      → block_has p.types p.blocks live (slice_get p.blocks b) ty ≡ true
      → LiesAt D p live (block b) ty b (D.single (pos 0))
  block_lies_at b ty named h = at (slice_get p.blocks b) refl h
    where
      of : (x : Block) → slice_get p.blocks b ≡ Some x → BlockHas p.types x → x.ty ≡ ty
          → LiesAt D p live (block b) ty b (D.single (pos 0))
      of x e has same =
          let some = has.some in
          record {
            of_block = x;
            there = e;
            named = named;
            row = row x.ty 0 x.size 0;
            is_row = of_block;
            type = same;
            even = inl refl;
            steps = λ s z m. omega (arith, some);
            lies = lines.block_lies D law keeps products p.types x.ty x.size has.small;
            along = λ n. subst (λ k. PointAt D p.types x.ty k (D.single (pos 0))) same
                (points.begin_points D law keeps products p.types x.ty x.size has.sized has.small);
          }

      at : (o : Option Block) → slice_get p.blocks b ≡ o → block_has p.types p.blocks live o ty ≡ true
          → LiesAt D p live (block b) ty b (D.single (pos 0))
      at None e k = absurd cc
      at (Some x) e k = of x e (block_at p fit b x e) (eqb-true x.ty ty k)

  target_lies_at : (e : Expr) (ty b : ℕ) (n : N) → PointsTo D p live ty b n → LiesAt D p live (deref e) ty b n
  target_lies_at e ty b n q =
      let v = q.point in
      let has = block_at p fit b q.of_block q.there in
      let fills : q.of_block.size ≡ v.step * (v.most + 1) = some-injective (sym has.sized
      ∙ chain_fills p.types built q.of_block.ty ty v.step v.most v.chain v.sized) in
      record {
        of_block = q.of_block;
        there = q.there;
        named = q.named;
        row = row ty 0 v.step v.most;
        is_row = of_target e ty v.step v.most v.chain;
        type = refl;
        even = chain_even p.types built tame q.of_block.ty ty v.step v.most v.step v.chain v.sized;
        steps = λ s z m. subst (λ k. 0 < k) (some-injective (sym z ∙ v.sized)) m;
        lies = lines.target_lies D law keeps products p.types q.of_block.ty ty v.most q.of_block.size n v
            (up_to q.of_block.size (v.step * (v.most + 1)) fills);
        along = λ h. v;
      }

  -- where the offset is moved
  any_limit : (P : N → Type 0) (m : Move N) (o : Option ℕ) (n : N)
      → ((k : ℕ) → IfSome (moved_offset D m (Some k) n) P) → IfSome (moved_offset D m o n) P
  any_limit P m None n go = tt
  any_limit P m (Some k) n go = go k

  member_lies_at : (a : Place) (v q ty b : ℕ) (n : N) (limit : Option ℕ) → q ≤ 4294967295 → IsMember p.types v q ty
      → LiesAt D p live a v b n
      → IfSome (moved_offset D (move (D.single (pos q)) 1 false) limit n) (LiesAt D p live (member a q) ty b)
  member_lies_at a v q ty b n limit l m h =
      any_limit (LiesAt D p live (member a q) ty b) (move (D.single (pos q)) 1 false) limit n (λ k.
      if_some-map (LieOn D p.types h.of_block.size (row ty (h.row.first + q) h.row.step h.row.most))
      (LiesAt D p live (member a q) ty b) (moved_offset D (move (D.single (pos q)) 1 false) (Some k) n)
      (λ c lies. record {
        of_block = h.of_block;
        there = h.there;
        named = h.named;
        row = row ty (h.row.first + q) h.row.step h.row.most;
        is_row = of_member a h.row q ty h.is_row is;
        type = refl;
        even = member_even p.types h.row q ty fits h.even;
        steps = λ s z some. let w = fits.room s z in h.steps w.0 w.1 (more q s w.0 w.2 some);
        lies = lies;
        along = λ none. never none;
      })
      (lines.member_lies D law keeps products p.types h.of_block.size k q ty h.row n l fits h.lies))
    where
      is : IsMember p.types h.row.ty q ty
      is = subst (λ x. IsMember p.types x q ty) (sym h.type) m

      fits : FitsIn p.types h.row.ty q ty
      fits = member_fits_in p.types built h.row.ty q ty is

      more : (q s z : ℕ) → q + s ≤ z → 0 < s → 0 < z
      more q s z k some = omega (arith, k, some)

      never : {A : Type 0} → true ≡ false → A
      never e = absurd cc

  element_lies_at : (a : Place) (v ty bound u b : ℕ) (index : Expr) (i n : N) (limit : Option ℕ)
      → elements_of p.types v ≡ Some (ty, bound) → size p.types ty ≡ Some u → 0 < bound → 0 < u → u ≤ 65536
      → IsIndex D bound i → LiesAt D p live a v b n
      → IfSome (moved_offset D (move i u false) limit n) (LiesAt D p live (element a bound u index) ty b)
  element_lies_at a v ty bound u b index i n limit el sz some more small inside h =
      any_limit (LiesAt D p live (element a bound u index) ty b) (move i u false) limit n (λ k.
      each_if (through_member a ≡ false) (LieOn D p.types h.of_block.size elements)
      (λ e c. PointAt D p.types h.of_block.ty ty c) (LiesAt D p live (element a bound u index) ty b)
      (moved_offset D (move i u false) (Some k) n)
      (λ c lies along. record {
        of_block = h.of_block;
        there = h.there;
        named = h.named;
        row = elements;
        is_row = of_element a h.row ty bound u index h.is_row row_is.elements sz some
            (element_step p.types h.row ty bound u row_is h.even);
        type = refl;
        even = elements_even p.types h.row.ty ty bound u h.row row_is;
        steps = λ s z m. more;
        lies = lies;
        along = along;
      })
      (lines.element_lies D law keeps products p.types h.of_block.size k h.row ty bound u n i row_is inside h.lies)
      (λ e. points.element_points D law keeps products p.types h.of_block.ty v ty bound u k i n is (h.along e)))
    where
      is : IsArrayOf p.types v ty bound u
      is = array_of p.types built tame v ty bound u el sz some more small

      row_is : IsArrayOf p.types h.row.ty ty bound u
      row_is = subst (λ x. IsArrayOf p.types x ty bound u) (sym h.type) is

      elements : Row
      elements = row ty h.row.first u (bound * h.row.most + (bound - 1))

  stands_at : (a : Place) (ty b s q : ℕ) (n : N) (l : LiesAt D p live a ty b n) → size p.types ty ≡ Some s → 0 < s
      → Holds D n (pos q) → q + s ≤ l.of_block.size → HasScalar p.types l.of_block.ty q ty
  stands_at a ty b s q n l sz some held inside =
      let own = subst (λ x. size p.types x ≡ Some s) (sym l.type) sz in
      let at = lines.on_row D law keeps products p.types l.of_block.size l.row n s q l.lies own some
      (l.steps s own some) held inside in
      subst (λ x. HasScalar p.types l.of_block.ty q x) l.type
      (subst (λ x. HasScalar p.types l.of_block.ty x l.row.ty) (sym at.2)
      (laid p.types b l.of_block.ty l.of_block.size a l.row l.is_row at.0 at.1))

  -- ---- pointers

  address_points : (a : Place) (ty b : ℕ) (n : N) → through_member a ≡ false → LiesAt D p live a ty b n
      → PointsTo D p live ty b n
  address_points a ty b n e l =
      record { of_block = l.of_block; there = l.there; named = l.named; point = l.along e }

  array_points : (v ty k b : ℕ) (n : N) → elements_of p.types v ≡ Some (ty, k) → PointsTo D p live v b n
      → PointsTo D p live ty b n
  array_points v ty k b n el q =
      record { of_block = q.of_block; there = q.there; named = q.named; point = point }
    where
      has : BlockHas p.types q.of_block
      has = block_at p fit b q.of_block q.there

      fills : q.of_block.size ≡ q.point.step * (q.point.most + 1)
      fills = some-injective (sym has.sized
          ∙ chain_fills p.types built q.of_block.ty v q.point.step q.point.most q.point.chain q.point.sized)

      first : (z s m : ℕ) → z ≡ s * m → 1 ≤ z → 1 ≤ s
      first z zero m e h = let k = zero-mul m in absurd (omega (arith, k, e, h))
      first z (suc s) m e h = omega arith

      point : PointAt D p.types q.of_block.ty ty n
      point =
          let is = array_in p.types built tame v ty k q.point.step el q.point.sized
          (first q.of_block.size q.point.step (q.point.most + 1) fills has.some) q.point.small in
          points.first_points D law keeps products p.types q.of_block.ty v ty k is.0 n is.1 q.point

  moved_points_to : (ty u b : ℕ) (delta n : N) (back : Bool) (limit : Option ℕ) → size p.types ty ≡ Some u → 0 < u
      → is_size_of_holder p.types u ≡ false → PointsTo D p live ty b n
      → IfSome (moved_offset D (move delta u back) limit n) (PointsTo D p live ty b)
  moved_points_to ty u b delta n back limit sz some none q =
      any_limit (PointsTo D p live ty b) (move delta u back) limit n (λ k.
      if_some-map (PointAt D p.types q.of_block.ty ty) (PointsTo D p live ty b)
      (moved_offset D (move delta u back) (Some k) n)
      (λ c h. record { of_block = q.of_block; there = q.there; named = q.named; point = h })
      (points.moved_points D law keeps products p.types q.of_block.ty delta n ty u k back sz some
      (no_holder_of p.types built ty u sz none) q.point))

  -- of two targets in one block
  both_points_to : (j : N → N → N) (ty b : ℕ) (n m : N)
      → ((whole : ℕ) → PointAt D p.types whole ty n → PointAt D p.types whole ty m → PointAt D p.types whole ty (j n m))
      → PointsTo D p live ty b n → PointsTo D p live ty b m → PointsTo D p live ty b (j n m)
  both_points_to j ty b n m go q r =
      let same : r.of_block ≡ q.of_block = some-injective (sym r.there ∙ q.there) in
      record {
        of_block = q.of_block;
        there = q.there;
        named = q.named;
        point = go q.of_block.ty q.point (subst (λ (x : Block). PointAt D p.types x.ty ty m) same r.point);
      }

pub place_laws_of : {N : Type 0} (D : Ops N) → Lawful D → KeepsOffsets D → ProductsKeepStrides D → (p : Program)
    → IsBuilt p.types → are_tame_types p.types ≡ true → blocks_fit p.types p.blocks ≡ true → PlaceLaws D p
place_laws_of D law keeps products p built tame fit = record {
  of_block = block_lies_at D law keeps products p built tame fit;
  of_target = target_lies_at D law keeps products p built tame fit;
  of_member = member_lies_at D law keeps products p built tame fit;
  of_element = element_lies_at D law keeps products p built tame fit;
  stands = stands_at D law keeps products p built tame fit;
  of_address = address_points D law keeps products p built tame fit;
  of_array = array_points D law keeps products p built tame fit;
  moved = moved_points_to D law keeps products p built tame fit;
  joined = λ live ty b n m. both_points_to D law keeps products p built tame fit live D.join ty b n m
      (λ whole. points.join_points D law keeps products p.types whole ty n m);
  widened = λ live ty b n m. both_points_to D law keeps products p built tame fit live D.widen ty b n m
      (λ whole. points.widen_points D law keeps products p.types whole ty n m);
}
