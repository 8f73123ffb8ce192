-- The derived test for equal segments.
use Rattle.std.proofs.Common.{◌≡◌, ℕ, Bool, true, ◌&&◌, eqb, eqb-true, Decides, refl, ap, ◌∙◌, subst, rules}
use Rattle.ep_int.proofs.Basics.{nat_eq-self}
use Rattle.std.proofs.lemmas.Bool.{and_parts}
use denote.Enum.Bare.{sameb, same_true}
use Rattle.ep_int.specs.declared.types.IntType.{IntType}
use Rattle.ep_int.specs.declared.types.IntType.TheVariants.{I8, U8, I16, U16, I32, U32, I64, U64}
use Rattle.ep_int.specs.contracts.types.IntType.{the_type as types}
use Rattle.ep_bitslice.specs.declared.cell.Side.{Side}
use Rattle.ep_bitslice.specs.declared.cell.Side.TheVariants.{Left, Right, Shared}
use Rattle.ep_bitslice.specs.contracts.cell.Side.{the_type as sides}
use Rattle.ep_bitslice.specs.declared.segment.Segment.{Segment}
use Rattle.ep_bitslice.specs.declared.segment.Segment.TheVariants.{Bits, Fixed}
use Rattle.ep_bitslice.specs.contracts.segment.SegmentPartialEq.TheImpl.{eq-value}
use Rattle.ep_bitslice.proofs.Joining.{cell_at}

abbrev pub same : Segment → Segment → Bool
same = eq-value.it

-- ---- a segment is equal to itself

side_itself : (a : Side) → sameb sides a a ≡ true
side_itself Left = refl
side_itself Right = refl
side_itself Shared = refl

type_itself : (a : IntType) → sameb types a a ≡ true
type_itself I8 = refl
type_itself U8 = refl
type_itself I16 = refl
type_itself U16 = refl
type_itself I32 = refl
type_itself U32 = refl
type_itself I64 = refl
type_itself U64 = refl

segment_itself : (a : Segment) → same a a ≡ true
segment_itself (Bits c f t) = rw (side_itself c.side, nat_eq-self c.block, nat_eq-self c.offset, type_itself c.t, nat_eq-self f, nat_eq-self t) refl
segment_itself (Fixed v w) = rw (nat_eq-self v, nat_eq-self w) refl

-- ---- and to no other

segment_back : (a b : Segment) → same a b ≡ true → a ≡ b
segment_back (Fixed v w) (Fixed x y) h =
    let p = and_parts (eqb v x) (eqb w y) h in
    let e : v ≡ x = eqb-true v x p.0 in
    let f : w ≡ y = eqb-true w y p.1 in
    cc
segment_back (Fixed v w) (Bits d g u) h = absurd (cc)
segment_back (Bits c f t) (Fixed x y) h = absurd (cc)
segment_back (Bits c f t) (Bits d g u) h =
    let p = and_parts (sameb sides c.side d.side && (eqb c.block d.block && (eqb c.offset d.offset && sameb types c.t d.t))) (eqb f g && eqb t u) h in
    let q = and_parts (sameb sides c.side d.side) (eqb c.block d.block && (eqb c.offset d.offset && sameb types c.t d.t)) p.0 in
    let r = and_parts (eqb c.block d.block) (eqb c.offset d.offset && sameb types c.t d.t) q.1 in
    let s = and_parts (eqb c.offset d.offset) (sameb types c.t d.t) r.1 in
    let k = and_parts (eqb f g) (eqb t u) p.1 in
    let cell : c ≡ d =
    ap (λ (x : Side). cell_at x c.block c.offset c.t) (same_true sides (search rules) c.side d.side q.0)
    ∙ ap (λ (n : ℕ). cell_at d.side n c.offset c.t) (eqb-true c.block d.block r.0)
    ∙ ap (λ (n : ℕ). cell_at d.side d.block n c.t) (eqb-true c.offset d.offset s.0)
    ∙ ap (λ (x : IntType). cell_at d.side d.block d.offset x) (same_true types (search rules) c.t d.t s.1) in
    let e : f ≡ g = eqb-true f g k.0 in
    let e' : t ≡ u = eqb-true t u k.1 in
    cc

pub same_segment : (a b : Segment) → Decides (same a b) (a ≡ b)
same_segment a b = (segment_back a b, λ e. subst (λ (x : Segment). same a x ≡ true) e (segment_itself a))
