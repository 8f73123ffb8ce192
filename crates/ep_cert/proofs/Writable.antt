-- What every state keeps of the bytes of its cells.
use Rattle.std.proofs.Common.{◌≡◌, ℕ, ◌-◌, ◌^◌, ◌<◌, Bool, true, false, ◌&&◌, ◌||◌, ◌↔◌, List, [], ◌∷◌, length}
use Rattle.std.proofs.Common.{map, IsTrue, ⊎_elim, refl, ap, sym, ◌∙◌, subst, arith}
use Rattle.std.specs.Prelude.{not, nat_eq, Option, Some, None, IfSome}
use Rattle.std.proofs.lemmas.Bool.{or_left, or_right, or_cases, and_from, and_parts, ne_eqb, eq-eqb}
use Rattle.std.proofs.lemmas.List.{length-map}
use Rattle.ep_int.specs.declared.types.Model.{Model}
use Rattle.ep_int.specs.declared.types.Scalar.{Scalar}
use Rattle.ep_int.specs.declared.types.Scalar.TheVariants.{Int, Pointer}
use Rattle.ep_int.proofs.Basics.{size_positive, true_and_false}
use Rattle.ep_range_laws.proofs.Undefined.{bits_positive}
use Rattle.ep_bitslice.specs.declared.cell.CellName.{CellName}
use Rattle.ep_bitslice.specs.declared.segment.Segment.{Segment}
use Rattle.ep_bitslice.specs.declared.segment.Segment.TheVariants.{Bits, Fixed}
use Rattle.ep_bitslice.specs.Bits.{mentions}
use Rattle.ep_bitslice.specs.Segments.{bits, width, run_bits, fixed_bits, AreSegments}
use Rattle.ep_bitslice.proofs.Joining.{cell_itself}
use Rattle.ep_bitslice.proofs.Pieces.{mentions-run, mentions-append}
use Rattle.ep_pointers.specs.Value.{Pointers, Target, IsRising}
use Rattle.ep_cells.specs.declared.cell.Cell.{Cell}
use Rattle.ep_cells.specs.Cells.{IsIn, first, later}
use Rattle.ep_cells.specs.States.{Known, AreCells, HasWidth, IsFormOf, IsThere}
use Rattle.ep_cert_cells.specs.Numbers.{Numbers}
use Rattle.ep_cert_cells.specs.Bytes.{Every, HasRoom, IsTarget, IsPointer, IsName, HasName, HasForm, HasBytes}
use Rattle.ep_cert.specs.Certificate.{Certificate, IsBounded, IsWritable, IsHead, IsWithin, IsCertificate}

-- ---- forms

names_from : (ss : List Segment) → AreSegments ss → ((n : CellName) → mentions n (bits ss) ≡ true → IsName n)
    → Every HasName ss
names_from [] a h = tt
names_from (Bits c from to ∷ ss) a h = (
  h c (mentions-append c (run_bits c from (to - from)) (bits ss) ∙ or_left (mentions c (run_bits c from (to - from)))
      (mentions c (bits ss)) (mentions-run c c from (to - from) (omega (arith, a.0.0)) ∙ cell_itself c)),
  names_from ss a.1 (λ n e. h n (mentions-append n (run_bits c from (to - from)) (bits ss)
      ∙ or_right (mentions n (run_bits c from (to - from))) (mentions n (bits ss)) e)),
)
names_from (Fixed v w ∷ ss) a h = (
  tt,
  names_from ss a.1 (λ n e. h n (mentions-append n (fixed_bits w v) (bits ss)
      ∙ or_right (mentions n (fixed_bits w v)) (mentions n (bits ss)) e)),
)

-- a form of an integer type has bits
some_bits : (w : Scalar) (ss : List Segment) → HasWidth w (width ss) → ss ≡ [] → ⊥
some_bits (Int t) ss h e =
    let z = bits_positive t in
    let n = h ∙ ap width e in
    let w : ⊥ = omega (arith, z, n) in w
some_bits Pointer ss h e = h

-- ---- cells

bounded_at : (c : Cell Numbers) (cs : List (Cell Numbers)) → Every IsBounded cs → IsIn c cs → IsBounded c
bounded_at c [] b i = elim i [ ]
bounded_at c (_ ∷ cs) b (first _) = b.0
bounded_at c (x ∷ cs) b (later _ _ i) = bounded_at c cs b.1 i

offset_small : (d : Model) (cs : List (Cell Numbers)) (c : Cell Numbers) → AreCells d cs → IsIn c cs → HasRoom c.offset
offset_small d cs c a i =
    let p = size_positive d c.what in
    let l = (a.each c i).fits.last in
    omega (arith, p, l)

name_of : (d : Model) (cs : List (Cell Numbers)) (n : CellName) → AreCells d cs → Every IsBounded cs → IsThere n cs
    → IsName n
name_of d cs n a b t = record {
  block = subst HasRoom t.named.block (bounded_at t.cell cs b t.is_in).0;
  offset = subst HasRoom t.named.offset (offset_small d cs t.cell a t.is_in);
}

form_of : (d : Model) (cs : List (Cell Numbers)) (c : Cell Numbers) (o : Option (List Segment)) → AreCells d cs
    → Every IsBounded cs → IfSome o (IsFormOf cs c) → IfSome o HasForm
form_of d cs c None a b f = tt
form_of d cs c (Some ss) a b f = record {
  form = f.form;
  names = names_from ss f.form.segments (λ n e. name_of d cs n a b (f.mentioned n e));
  some = some_bits c.what ss f.wide;
}

bytes_of : (d : Model) (cs : List (Cell Numbers)) (c : Cell Numbers) → AreCells d cs → Every IsBounded cs → IsIn c cs
    → HasBytes c
bytes_of d cs c a b i = record {
  block = (bounded_at c cs b i).0;
  offset = offset_small d cs c a i;
  value = (bounded_at c cs b i).1;
  form = form_of d cs c c.form a b (a.forms c i);
}

each_of : (cs : List (Cell Numbers)) → ((c : Cell Numbers) → IsIn c cs → HasBytes c) → Every HasBytes cs
each_of [] h = tt
each_of (c ∷ cs) h = (h c (first cs), each_of cs (λ x i. h x (later c cs i)))

bounded_from : (cs : List (Cell Numbers)) → Every HasBytes cs → Every IsBounded cs
bounded_from [] h = tt
bounded_from (c ∷ cs) h = ((h.0.block, h.0.value), bounded_from cs h.1)

-- ---- each in turn

pub refused : {P : Type 0} → (P → ⊥) → IsTrue false ↔ P
refused h = (λ e. absurd (true_and_false true refl (sym e)), λ p. absurd (h p))

module _ {X : Type 0} (P : X → Type 0) where
  pub goes_on : (all now rest : List X) (x : X) (b : Bool) → now ≡ x ∷ rest → (IsTrue b ↔ P x) → b ≡ true
      → (Every P now ↔ Every P all) → Every P rest ↔ Every P all
  goes_on all now rest x b q t e h = (
    λ k. h.0 (subst (Every P) (sym q) (t.0 e, k)),
    λ k. (subst (Every P) q (h.1 k)).1,
  )

  pub stops : (all now rest : List X) (x : X) (b : Bool) → now ≡ x ∷ rest → (IsTrue b ↔ P x) → b ≡ false
      → (Every P now ↔ Every P all) → IsTrue false ↔ Every P all
  stops all now rest x b q t e h =
      refused (λ k. true_and_false b (t.1 (subst (Every P) q (h.1 k)).0) e)

  pub ends : (all now : List X) → now ≡ [] → (Every P now ↔ Every P all) → IsTrue true ↔ Every P all
  ends all now q h = (λ e. h.0 (subst (Every P) (sym q) tt), λ k. refl)

-- ---- what the tests tell

some_target : (b n e : Bool) (ts : List (Target Numbers)) → n ≡ b → e ≡ nat_eq (length ts) 0
    → (b ≡ false → ts ≡ [] → ⊥) → (n || not e) ≡ true
some_target true n e ts q f h = or_left n (not e) q
some_target false n e [] q f h = absurd (h refl refl)
some_target false n e (t ∷ ts) q f h =
    or_right n (not e)
    (ap not (f ∙ ne_eqb (length (t ∷ ts)) 0 (λ z. let w : ⊥ = omega (arith, z) in w)))

is_some : (b n e : Bool) (ts : List (Target Numbers)) → n ≡ b → e ≡ nat_eq (length ts) 0 → (n || not e) ≡ true
    → b ≡ false → ts ≡ [] → ⊥
is_some b n e ts q f h z w =
    ⊎_elim
    (λ k. true_and_false n k (q ∙ z))
    (λ k. true_and_false (not e) k
    (ap not (f ∙ eq-eqb (length ts) 0 (ap (λ (l : List (Target Numbers)). length l) w))))
    (or_cases n (not e) h)

pub pointer_test : (p : Pointers Numbers) (ts : List (Target Numbers)) (r t n e : Bool) → ts ≡ p.targets
    → IsRising p.targets → (IsTrue r ↔ HasRoom (length ts)) → (IsTrue t ↔ Every IsTarget ts) → n ≡ p.null
    → e ≡ nat_eq (length ts) 0 → IsTrue ((r && t) && (n || not e)) ↔ IsPointer p
pointer_test p ts r t n e q rises room each null empty =
    let count : length ts ≡ length p.targets = ap (λ (l : List (Target Numbers)). length l) q in
    let none : e ≡ nat_eq (length p.targets) 0 = empty ∙ ap (λ (l : List (Target Numbers)). nat_eq (length l) 0) q in (
      λ h.
          let all = and_parts (r && t) (n || not e) h in
          let both = and_parts r t all.0 in
          record {
            count = subst HasRoom count (room.0 both.0);
            blocks = subst (Every IsTarget) q (each.0 both.1);
            rising = rises;
            some = is_some p.null n e p.targets null none all.1;
          },
      λ w.
          and_from (r && t) (n || not e)
          (and_from r t (room.1 (subst HasRoom (sym count) w.count))
          (each.1 (subst (Every IsTarget) (sym q) w.blocks)))
          (some_target p.null n e p.targets null none w.some),
    )

pub writable_test : {R : Type 0} (h : Known Numbers) (now : R → Cell Numbers) (cs : List R) (r b : Bool) (k : ℕ)
    → AreCells h.model h.cells → map now cs ≡ h.cells → k ≡ length cs → (IsTrue r ↔ HasRoom k)
    → (IsTrue b ↔ Every IsBounded (map now cs)) → IsTrue (r && b) ↔ IsWritable h
writable_test h now cs r b k a q m room each =
    let count : k ≡ length h.cells =
    m ∙ sym (length-map cs now) ∙ ap (λ (l : List (Cell Numbers)). length l) q in (
      λ t.
          let both = and_parts r b t in
          let bounded = subst (Every IsBounded) q (each.0 both.1) in
          record {
            count = subst HasRoom count (room.0 both.0);
            each = each_of h.cells (λ c i. bytes_of h.model h.cells c a bounded i);
          },
      λ w.
          and_from r b (room.1 (subst HasRoom (sym count) w.count))
          (each.1 (subst (Every IsBounded) (sym q) (bounded_from h.cells w.each))),
    )

pub head_test : (c : Certificate) (h : Known Numbers) (b : Bool) → h.orders ≡ c.orders → h.model ≡ c.model
    → AreCells h.model h.cells → (IsTrue b ↔ IsWritable h) → IsTrue b ↔ IsHead c h
head_test c h b o m a w = (
  λ e. record {
    orders = o;
    model = m;
    cells = subst (λ (d : Model). AreCells d h.cells) m a;
    writable = w.0 e;
  },
  λ k. w.1 k.writable,
)

pub within_of : (c : Certificate) → IsCertificate c → IsWithin c
within_of c h = record { orders = h.orders; unroll = h.unroll; source = h.source }

pub heads_test : (c : Certificate) (b : Bool) → IsWithin c → length c.heads < 2 ^ 64
    → (IsTrue b ↔ Every (IsHead c) c.heads) → IsTrue b ↔ IsCertificate c
heads_test c b w n h = (
  λ e. record { orders = w.orders; unroll = w.unroll; count = n; heads = h.0 e; source = w.source },
  λ k. h.1 k.heads,
)
