-- What is known changes, and what waits goes on.
use Rattle.std.proofs.Common.{◌≡◌, ℕ, ◌+◌, Bool, true, ◌&&◌, nat_le, List, [], ◌∷◌, map, refl, sym, ap, ◌∙◌, subst}
use Rattle.std.proofs.Common.{arith}
use Rattle.std.proofs.lemmas.Bool.Decides.{nat_tests}
use Rattle.ep_int.specs.declared.types.Model.{Model}
use Rattle.ep_int.specs.Types.{size_of}
use Rattle.ep_int.specs.declared.types.Scalar.{Scalar}
use Rattle.ep_bitslice.specs.declared.cell.Side.{Side as CellSide}
use Rattle.ep_domain.specs.Domain.{Ops}
use Rattle.ep_cells.specs.declared.cell.Cell.{Cell}
use Rattle.ep_cells.specs.declared.place.ByteRange.{ByteRange}
use Rattle.ep_cells.specs.Cells.{place_of, IsIn, first, later}
use Rattle.ep_cells.specs.Forms.{form_after}
use Rattle.ep_cells.specs.Weaken.{weakened, fate_by_weak_write}
use Rattle.ep_cells.specs.States.{Known, IsCell, HasForm, AreCells}
use Rattle.ep_cell_ranges.specs.Ranges.{Form, Reform, with_cells, replaced, form_by_replace, blurred_at}
use Rattle.ep_cell_ranges.specs.Moves.{place_at, weakened_each, form_by_weak_each, blurred_each}
use Rattle.ep_cell_ranges.specs.Spots.{Spot}
use Rattle.ep_cell_ranges.specs.Follow.{FormFits}
use Rattle.ep_cell_ranges.specs.Laws.{ReplaceLaws, WeakEachLaws, BlurLaws}
use Rattle.ep_cell_ranges.specs.Sound.{AreNew, IsInside, FitEach}
use Rattle.ep_state_ranges.specs.HeldForms.{form_by_blur_each}
use Rattle.ep_transfers.specs.Writes.{Item, Underway, underway, formed, strongly, weakly, weakly_each, blurred_side}
use Rattle.ep_transfer_writes.specs.Waiting.{ItemFits, Keeps, CanStand, with_forms}

all_of_it : (q n : ℕ) → (nat_le q q && nat_le (q + n) (q + n)) ≡ true
all_of_it q n = grind (arith, nat_tests)

module _ {N : Type 0} where
  -- ---- what waits goes on

  pub keeps_all : (u : Underway N) → Keeps u u
  keeps_all u = record { orders = refl; model = refl; fits = λ w h. h }

  pub then_keeps : (u v x : Underway N) → Keeps u v → Keeps v x → Keeps u x
  then_keeps u v x a b = record {
    orders = b.orders ∙ a.orders;
    model = b.model ∙ a.model;
    fits = λ w h. b.fits w (a.fits w h);
  }

  -- both forms become others that fit
  pub fits_on : (k j : Known N) (g : Reform) (w : Scalar) (i : Item N)
      → ((f : Form) → FormFits k.cells w f → FormFits j.cells w (g f)) → ItemFits k w i → ItemFits j w (formed g i)
  fits_on k j g w i go h = record {
    left = record { sort = h.left.sort; form = go i.pair.left.form h.left.form };
    right = record { sort = h.right.sort; form = go i.pair.right.form h.right.form };
  }

  pub formed_is : (i : Item N) (fs hs : List Form) (g : Reform) → hs ≡ i.pair.left.form ∷ i.pair.right.form ∷ []
      → fs ≡ map g hs → with_forms fs i ≡ formed g i
  formed_is i fs hs g e q = ap (λ xs. with_forms xs i) (q ∙ ap (map g) e)

  -- ---- one cell, at one place

  inside_itself : (d : Model) (c : Cell N) → IsInside d (place_of d c) c
  inside_itself d c = record {
    left = λ e. e;
    right = λ e. e;
    block = refl;
    bytes = all_of_it c.offset (size_of d c.what);
  }

  one_of : (c x : Cell N) (P : Cell N → Type 0) → P c → IsIn x (c ∷ []) → P x
  one_of c _ P h (first _) = h
  one_of c x P h (later _ _ i) = elim i [ ]

  -- the place's new cell
  pub stands_new : (k : Known N) (c : Cell N) (p : ByteRange) (new : List (Cell N)) (d : Model) → d ≡ k.model
      → p ≡ place_of d c → new ≡ c ∷ [] → CanStand k c → AreNew k.model p k.cells new
  stands_new k c p new d e f q h =
      subst (λ x. AreNew k.model x k.cells new) (sym (f ∙ ap (λ z. place_of z c) e))
      (subst (AreNew k.model (place_of k.model c) k.cells) (sym q) (record {
        each = λ x i. one_of c x (IsCell k.model) h.cell i;
        inside = λ x i. one_of c x (IsInside k.model (place_of k.model c)) (inside_itself k.model c) i;
        apart = (tt, tt);
        forms = λ x i. one_of c x (HasForm k.cells) h.form i;
      }))

  module _ (D : Ops N) where
    pub strong_is : (k j : Known N) (i l : Item N) (c : Cell N) (p : ByteRange) (new : List (Cell N)) (d : Model)
        (hs fs : List Form) → d ≡ k.model → p ≡ place_of d c → new ≡ c ∷ []
        → hs ≡ i.pair.left.form ∷ i.pair.right.form ∷ [] → j ≡ replaced D p new k
        → fs ≡ map (form_by_replace D p k) hs → l ≡ with_forms fs i → underway j l ≡ strongly D c (underway k i)
    strong_is k j i l c p new d hs fs e f q a b g h =
        let place : p ≡ place_of k.model c = f ∙ ap (λ z. place_of z c) e in
        ap (λ y. underway y l) (b ∙ ap (λ x. replaced D x new k) place ∙ ap (λ z. replaced D
        (place_of k.model c) z k) q)
        ∙ ap (underway (replaced D (place_of k.model c) (c ∷ []) k))
        (h ∙ formed_is i fs hs (form_by_replace D p k) a g ∙ ap (λ x. formed (form_by_replace D x k) i) place)

    pub strong_keeps : ReplaceLaws D → (c : Cell N) (u : Underway N) → AreCells u.known.model u.known.cells
        → Keeps u (strongly D c u)
    strong_keeps law c u a =
        let k = u.known in
        let p = place_of k.model c in
        record {
          orders = law.orders k p (c ∷ []);
          model = law.model k p (c ∷ []);
          fits = λ w h. fits_on k (replaced D p (c ∷ []) k) (form_by_replace D p k) w u.item
              (λ f i. law.fits k p (c ∷ []) a w f i) h;
        }

    -- ---- one that may be at several

    weak_is_each : (c : Spot → Cell N) (stays : Bool) (qs : List Spot) (u : Underway N)
        → weakly_each D c stays qs u ≡ underway (weakened_each D c stays qs u.known)
        (formed (form_by_weak_each u.known.model c qs) u.item)
    weak_is_each c stays [] u = refl
    weak_is_each c stays (q ∷ qs) u = weak_is_each c stays qs (weakly D (c q) stays u)

    pub weak_is : (k j : Known N) (i l : Item N) (c : Spot → Cell N) (stays : Bool) (qs : List Spot)
        (hs fs : List Form) → hs ≡ i.pair.left.form ∷ i.pair.right.form ∷ [] → j ≡ weakened_each D c stays qs k
        → fs ≡ map (form_by_weak_each k.model c qs) hs → l ≡ with_forms fs i
        → underway j l ≡ weakly_each D c stays qs (underway k i)
    weak_is k j i l c stays qs hs fs a b g h =
        ap (λ y. underway y l) b
        ∙ ap (underway (weakened_each D c stays qs k)) (h ∙ formed_is i fs hs (form_by_weak_each k.model c qs) a g)
        ∙ sym (weak_is_each c stays qs (underway k i))

    weak_machines : (c : Spot → Cell N) (stays : Bool) (qs : List Spot) (k : Known N)
        → ((weakened_each D c stays qs k).orders ≡ k.orders) × ((weakened_each D c stays qs k).model ≡ k.model)
    weak_machines c stays [] k = (refl, refl)
    weak_machines c stays (q ∷ qs) k = weak_machines c stays qs (with_cells k (weakened D k.model
        (c q) stays k.cells))

    pub weak_keeps : WeakEachLaws D → (c : Spot → Cell N) (stays : Bool) (qs : List Spot) (u : Underway N)
        → FitEach u.known.model c stays qs → Keeps u (weakly_each D c stays qs u)
    weak_keeps law c stays qs u h =
        let k = u.known in
        let m = weak_machines c stays qs k in
        subst (Keeps u) (sym (weak_is_each c stays qs u))
        (record {
          orders = m.0;
          model = m.1;
          fits = λ w i. fits_on k (weakened_each D c stays qs k) (form_by_weak_each k.model c qs) w u.item
              (λ f g. law.fits k c stays qs h w f g) i;
        })

    -- ---- bytes that may have been written in whatever way

    blur_is_each : (s : CellSide) (n : ℕ) (qs : List Spot) (u : Underway N)
        → blurred_side D s n qs u ≡ underway (blurred_each D s n qs u.known) (formed
        (form_by_blur_each s n qs) u.item)
    blur_is_each s n [] u = refl
    blur_is_each s n (q ∷ qs) u =
        blur_is_each s n qs (underway (blurred_at D (place_at s q n) u.known)
        (formed (form_after (fate_by_weak_write (place_at s q n))) u.item))

    pub blur_is : (k j : Known N) (i l : Item N) (s : CellSide) (n : ℕ) (qs : List Spot) (hs fs : List Form)
        → hs ≡ i.pair.left.form ∷ i.pair.right.form ∷ [] → j ≡ blurred_each D s n qs k
        → fs ≡ map (form_by_blur_each s n qs) hs → l ≡ with_forms fs i
        → underway j l ≡ blurred_side D s n qs (underway k i)
    blur_is k j i l s n qs hs fs a b g h =
        ap (λ y. underway y l) b
        ∙ ap (underway (blurred_each D s n qs k)) (h ∙ formed_is i fs hs (form_by_blur_each s n qs) a g)
        ∙ sym (blur_is_each s n qs (underway k i))

    pub blur_keeps : BlurLaws D → (s : CellSide) (n : ℕ) (qs : List Spot) (u : Underway N)
        → Keeps u (blurred_side D s n qs u)
    blur_keeps law s n [] u = keeps_all u
    blur_keeps law s n (q ∷ qs) u =
        let k = u.known in
        let p = place_at s q n in
        let v = underway (blurred_at D p k) (formed (form_after (fate_by_weak_write p)) u.item) in
        then_keeps u v (blurred_side D s n qs v)
        (record {
          orders = refl;
          model = refl;
          fits = λ w h. fits_on k (blurred_at D p k) (form_after (fate_by_weak_write p)) w u.item
              (λ f i. law.fits k p w f i) h;
        })
        (blur_keeps law s n qs v)
