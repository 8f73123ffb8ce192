-- Cells that lie one behind the other and mention no cell: to write one after the other is to write all at once.
use Rattle.std.proofs.Common.{◌≡◌, ℕ, ◌+◌, ◌-◌, ◌≤◌, Bool, true, false, ◌&&◌, nat_eq, nat_lt, nat_le, List, [], ◌∷◌}
use Rattle.ep_cell_ranges.proofs.Basics.{inside_by}
use Rattle.ep_transfers.proofs.Patches.{self_le}
use Rattle.std.proofs.Common.{◌++◌, map, Option, Some, None, IfSome, refl, sym, ap, ◌∙◌, subst, arith}
use Rattle.std.specs.Option.{option_map_or}
use Rattle.std.proofs.lemmas.Bool.Decides.{nat_tests}
use Rattle.ep_int.specs.declared.types.Model.{Model}
use Rattle.ep_int.specs.Types.{size_of}
use Rattle.ep_bitslice.specs.declared.cell.CellName.{CellName}
use Rattle.ep_bitslice.specs.declared.cell.Side.{Side}
use Rattle.ep_bitslice.specs.declared.cell.Side.TheVariants.{Left, Right, Shared}
use Rattle.ep_bitslice.specs.Bits.{mentions}
use Rattle.ep_bitslice.specs.Segments.{bits}
use Rattle.ep_domain.specs.Domain.{Ops}
use Rattle.ep_cells.specs.declared.cell.Cell.{Cell}
use Rattle.ep_cells.specs.declared.place.ByteRange.{ByteRange}
use Rattle.ep_cells.specs.Both.{cell_like}
use Rattle.ep_cells.specs.Cells.{place_of, share_memory, on_left, on_right, IsIn, first, later}
use Rattle.ep_cells.specs.Forms.{Fate, form_after}
use Rattle.ep_cells.specs.Look.{is_some_partly_in}
use Rattle.ep_cells.specs.States.{Known, IsCell, HasForm, IsFormOf, EachPair, AreCells}
use Rattle.ep_cells.specs.Write.{fate_by_write}
use Rattle.ep_cells.proofs.Lists.{each_from}
use Rattle.ep_cells.proofs.Places.{at}
use Rattle.ep_cell_steps.proofs.Local.{same_reformed}
use Rattle.ep_reads.specs.Split.{cut_cells, fate_by_split, split_like}
use Rattle.ep_cell_ranges.specs.Ranges.{Form, with_form, form_by_splits, form_by_split, split_at, form_by_cut}
use Rattle.ep_cell_ranges.specs.Ranges.{replaced, form_by_replace}
use Rattle.ep_cell_ranges.specs.Laws.{MoreSplitLaws, ReplaceLaws}
use Rattle.ep_cell_ranges.specs.Sound.{AreNew, IsInside, Misses}
use Rattle.ep_reads.specs.SplitLaws.{SplitLaws}
use Rattle.ep_transfer_writes.proofs.Neighbours.{Fills, place_is, next_none, two_writes}

-- ---- forms that mention no cell stay

abbrev pub Stays : Form → Type 0
Stays f = (g : Fate) → form_after g f ≡ f

fixed_names : {N : Type 0} (g : Fate) (x : Cell N) (o : Form) → IfSome o (IsFormOf [] x)
    → IfSome o (λ ss. (n : CellName) → mentions n (bits ss) ≡ true → g n ≡ Some n)
fixed_names g x None h = tt
fixed_names g x (Some ss) h = λ n k. absurd (elim (h.mentioned n k).is_in [ ])

pub form_stays : {N : Type 0} (x : Cell N) → HasForm [] x → Stays x.form
form_stays {N = N} x h g = ap (λ (y : Cell N). y.form) (same_reformed g [] x h (fixed_names g x x.form h))

module _ {N : Type 0} (D : Ops N) (f : Form) (stays : Stays f) where
  stays_like : (s : Side) (o : Option (Cell N)) → option_map_or (λ y. form_after (fate_by_split s y) f) o f ≡ f
  stays_like s None = refl
  stays_like s (Some y) = stays (fate_by_split s y)

  stays_splits : (k : Known N) (s : Side) (xs cs : List (Cell N)) → form_by_splits D k s xs cs f ≡ f
  stays_splits k s [] cs = refl
  stays_splits k s (x ∷ xs) cs =
      ap (form_by_splits D k s xs (split_like D k s x cs)) (stays_like s (cell_like x cs))
      ∙ stays_splits k s xs (split_like D k s x cs)

  stays_split : (p : ByteRange) (k : Known N) → form_by_split D p k f ≡ f
  stays_split p k = stays_splits k p.side (cut_cells k.model p k.cells) k.cells

  stays_cut : (s : Side) (b a n : ℕ) (k : Known N) → form_by_cut D (at s b a n) k f ≡ f
  stays_cut Left b a n k = stays_split (at Left b a n) k
  stays_cut Right b a n k = stays_split (at Right b a n) k
  stays_cut Shared b a n k =
      ap (form_by_split D (at Right b a n) (split_at D (at Left b a n) k)) (stays_split (at Left b a n) k)
      ∙ stays_split (at Right b a n) (split_at D (at Left b a n) k)

  pub stays_written : (s : Side) (b a n : ℕ) (k : Known N) → form_by_replace D (at s b a n) k f ≡ f
  stays_written s b a n k =
      ap (form_after (fate_by_write (at s b a n))) (stays_cut s b a n k) ∙ stays (fate_by_write (at s b a n))

-- ---- cells one behind the other

miss_by : (t : Bool) (b r k q l : ℕ) → r + k ≤ q
    → (t && (nat_eq b b && (nat_lt r (q + l) && nat_lt q (r + k)))) ≡ false
miss_by t b r k q l h = grind (arith, nat_tests)

no_more : (t m : ℕ) → m ≤ t → t - m ≡ 0 → t ≡ m
no_more t m h i = omega (arith, h, i)

itself : (m : ℕ) → m - m ≡ 0
itself m = omega arith

all_of : (t m : ℕ) → m ≤ t → t ≡ m + (t - m)
all_of t m h = omega (arith, h)

module _ {N : Type 0} (d : Model) (s : Side) (b : ℕ) where
  pub record IsTile (a : ℕ) (c : Cell N) : Type 0 where
    pub side : c.side ≡ s
    pub block : c.block ≡ b
    pub offset : c.offset ≡ a
    pub cell : IsCell d c
    pub form : HasForm [] c

  -- of t bytes from a on
  abbrev pub Tiles : (a t : ℕ) → List (Cell N) → Type 0
  Tiles a t [] = t ≡ 0
  Tiles a t (c ∷ cs) =
      IsTile a c × (size_of d c.what ≤ t) × Tiles (a + size_of d c.what) (t - size_of d c.what) cs

  pub record IsAmong (a t : ℕ) (c : Cell N) : Type 0 where
    pub place : ℕ
    pub tile : IsTile place c
    pub low : a ≤ place
    pub high : place + size_of d c.what ≤ a + t

  among : (a t : ℕ) (cs : List (Cell N)) (x : Cell N) → IsIn x cs → Tiles a t cs → IsAmong a t x
  among a t [] x i h = elim i [ ]
  among a t (c ∷ cs) _ (first _) h = record {
    place = a;
    tile = h.0;
    low = self_le a;
    high = (let l = h.1 in omega (arith, l));
  }
  among a t (c ∷ cs) x (later _ _ i) h =
      let r = among (a + size_of d c.what) (t - size_of d c.what) cs x i h.2 in
      record {
        place = r.place;
        tile = r.tile;
        low = (let l = r.low in omega (arith, l));
        high = (let l = h.1 in let m = r.high in omega (arith, l, m));
      }

  any_form : (cs : List (Cell N)) (x : Cell N) (o : Form) → IfSome o (IsFormOf [] x) → IfSome o (IsFormOf cs x)
  any_form cs x None h = tt
  any_form cs x (Some ss) h = record {
    sure = h.sure;
    wide = h.wide;
    form = h.form;
    mentioned = λ n k. absurd (elim (h.mentioned n k).is_in [ ]);
  }

  miss : (a q : ℕ) (c x : Cell N) → IsTile a c → IsTile q x → a + size_of d c.what ≤ q → Misses d c x
  miss a q c x h i l =
      ap (λ z. share_memory c.side x.side
      && (nat_eq z x.block && (nat_lt c.offset (x.offset + size_of d x.what)
      && nat_lt x.offset (c.offset + size_of d c.what)))) (h.block ∙ sym i.block)
      ∙ miss_by (share_memory c.side x.side) x.block c.offset (size_of d c.what) x.offset (size_of d x.what)
      (subst (λ z. z + size_of d c.what ≤ x.offset) (sym h.offset)
      (subst (λ z. a + size_of d c.what ≤ z) (sym i.offset) l))

  apart : (a t : ℕ) (cs : List (Cell N)) → Tiles a t cs → EachPair (Misses d) cs
  apart a t [] h = tt
  apart a t (c ∷ cs) h = (
    each_from (Misses d c) cs
        (λ x i.
        let r = among (a + size_of d c.what) (t - size_of d c.what) cs x i h.2 in
        miss a r.place c x h.0 r.tile r.low),
    apart (a + size_of d c.what) (t - size_of d c.what) cs h.2,
  )

  inside : (a t : ℕ) (x : Cell N) → IsAmong a t x → IsInside d (at s b a t) x
  inside a t x r = record {
    left = λ e. ap on_left (sym r.tile.side) ∙ e;
    right = λ e. ap on_right (sym r.tile.side) ∙ e;
    block = r.tile.block;
    bytes = ap (λ z. nat_le a z && nat_le (z + size_of d x.what) (a + t)) r.tile.offset
        ∙ inside_by a t r.place (size_of d x.what) r.low r.high;
  }

  pub tiles_new : (old cs : List (Cell N)) (a t : ℕ) → Tiles a t cs → AreNew d (at s b a t) old cs
  tiles_new old cs a t h = record {
    each = λ x i. (among a t cs x i h).tile.cell;
    inside = λ x i. inside a t x (among a t cs x i h);
    apart = apart a t cs h;
    forms = λ x i. any_form old x x.form (among a t cs x i h).tile.form;
  }

  module _ (D : Ops N) where
    stays_in : (a t : ℕ) (cs : List (Cell N)) → Tiles a t cs → (q n : ℕ) (k : Known N)
        → map (with_form (form_by_replace D (at s b q n) k)) cs ≡ cs
    stays_in a t [] h q n k = refl
    stays_in a t (c ∷ cs) h q n k =
        ap (λ o. record c { form = o } ∷ map (with_form (form_by_replace D (at s b q n) k)) cs)
        (stays_written D c.form (form_stays c h.0.form) s b q n k)
        ∙ ap (λ zs. c ∷ zs) (stays_in (a + size_of d c.what) (t - size_of d c.what) cs h.2 q n k)

    -- each is written at its place
    abbrev pub in_turn : List (Cell N) → Known N → Known N
    in_turn [] k = k
    in_turn (c ∷ cs) k = in_turn cs (replaced D (place_of k.model c) (c ∷ []) k)

    pub in_turn_append : (xs ys : List (Cell N)) (k : Known N) → in_turn (xs ++ ys) k ≡ in_turn ys (in_turn xs k)
    in_turn_append [] ys k = refl
    in_turn_append (x ∷ xs) ys k = in_turn_append xs ys (replaced D (place_of k.model x) (x ∷ []) k)

    module _ (split : SplitLaws D) (more : MoreSplitLaws D) (law : ReplaceLaws D) where
      pub in_turn_model : (cs : List (Cell N)) (k : Known N) → (in_turn cs k).model ≡ k.model
      in_turn_model [] k = refl
      in_turn_model (c ∷ cs) k =
          in_turn_model cs (replaced D (place_of k.model c) (c ∷ []) k) ∙ law.model k (place_of k.model c) (c ∷ [])

      fills : (a : ℕ) (c : Cell N) (k : Known N) → k.model ≡ d → IsTile a c
          → Fills k.model s b a (size_of d c.what) c
      fills a c k e h = record {
        side = h.side;
        block = h.block;
        offset = h.offset;
        bytes = ap (λ z. size_of z c.what) e;
      }

      one_is : (a : ℕ) (c : Cell N) (k : Known N) → k.model ≡ d → IsTile a c
          → replaced D (place_of k.model c) (c ∷ []) k ≡ replaced D (at s b a (size_of d c.what)) (c ∷ []) k
      one_is a c k e h =
          ap (λ p. replaced D p (c ∷ []) k) (place_is k.model s b a (size_of d c.what) c (fills a c k e h))

      abbrev none : (a n : ℕ) → Known N → Type 0
      none a n k = is_some_partly_in k.model (at s b a n) k.cells ≡ false

      new_in : (old cs : List (Cell N)) (a t : ℕ) (m : Model) → m ≡ d → Tiles a t cs → AreNew m (at s b a t) old cs
      new_in old cs a t m e h = subst (λ z. AreNew z (at s b a t) old cs) (sym e) (tiles_new old cs a t h)

      pub at_once : (cs : List (Cell N)) (c : Cell N) (a t : ℕ) (k : Known N) → k.model ≡ d → Tiles a t (c ∷ cs)
          → AreCells k.model k.cells → none a t k → in_turn (c ∷ cs) k ≡ replaced D (at s b a t) (c ∷ cs) k
      at_once [] c a t k e h cells uncut =
          one_is a c k e h.0
          ∙ ap (λ z. replaced D (at s b a z) (c ∷ []) k) (sym (no_more t (size_of d c.what) h.1 h.2))
      at_once (x ∷ cs) c a t k e h cells uncut =
          let w = size_of d c.what in
          let n = t - w in
          let total = all_of t w h.1 in
          let j = replaced D (at s b a w) (c ∷ []) k in
          let m : j.model ≡ k.model = law.model k (at s b a w) (c ∷ []) in
          let one = new_in k.cells (c ∷ []) a w k.model e (h.0, self_le w, itself w) in
          let there : AreCells j.model j.cells =
          subst (λ z. AreCells z j.cells) (sym m) (law.cells k (at s b a w) (c ∷ []) cells one) in
          let rest = next_none D split more law s b a w n t total k c cells uncut (fills a c k e h.0) in
          let same = stays_in (a + w) n (x ∷ cs) h.2 a w k in
          ap (in_turn (x ∷ cs)) (one_is a c k e h.0)
          ∙ at_once cs x (a + w) n j (m ∙ e) h.2 there rest
          ∙ ap (λ xs. replaced D (at s b (a + w) n) xs j) (sym same)
          ∙ two_writes D split more law s b a w n t total k c (x ∷ cs) cells uncut (fills a c k e h.0) one
          (new_in k.cells (c ∷ x ∷ cs) a t k.model e h)
          (subst (AreNew j.model (at s b (a + w) n) j.cells) (sym same)
          (new_in j.cells (x ∷ cs) (a + w) n j.model (m ∙ e) h.2))
