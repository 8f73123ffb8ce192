-- A number whose bytes the text tells is read without a doubt, whole or byte by byte.
use Rattle.std.proofs.Common.{◌≡◌, ℕ, zero, suc, ◌+◌, ◌-◌, ◌<◌, ◌≤◌, Bool, true, false, ◌&&◌, ◌||◌, cond, nat_eq}
use Rattle.std.proofs.Common.{nat_lt, List, [], ◌∷◌, length, slice_get, Option, Some, None, Ok, refl, sym, ap, ◌∙◌}
use Rattle.std.proofs.Common.{subst, arith}
use Rattle.std.specs.Option.{option_map}
use Rattle.std.specs.List.{list_any}
use Rattle.std.proofs.lemmas.Bool.{and_parts, eqb-true, lt-ltb, eq-eqb}
use Rattle.ep_int.specs.declared.types.IntType.{IntType}
use Rattle.ep_int.specs.declared.types.Order.{Order}
use Rattle.ep_int.specs.declared.types.Model.{Model}
use Rattle.ep_int.specs.declared.types.Scalar.TheVariants.{Int}
use Rattle.ep_int.specs.Types.{bytes_of, size_of}
use Rattle.ep_int.specs.Encoding.{place}
use Rattle.ep_int.proofs.Places.{width_of, place_below, place_back}
use Rattle.ep_int.proofs.Wrapping.{bytes_of_positive}
use Rattle.ep_bitslice.specs.declared.cell.Side.{Side as CellSide}
use Rattle.ep_bitslice.specs.declared.cell.Side.TheVariants.{Left, Right, Shared}
use Rattle.ep_bitslice.specs.Segments.{normal}
use Rattle.ep_domain.specs.Domain.{Ops}
use Rattle.ep_cells.specs.declared.cell.Cell.{Cell}
use Rattle.ep_cells.specs.declared.cell.Value.{Value}
use Rattle.ep_cells.specs.declared.cell.Value.TheVariants.{Num, Ptr}
use Rattle.ep_cells.specs.Cells.{IsIn, first, later, place_of, meets, share_memory, is_same_side}
use Rattle.ep_cells.specs.Look.{covers, cell_at}
use Rattle.ep_cells.specs.States.{Known, AreApart, EachPair, IsOfSort, Fits}
use Rattle.ep_cells.proofs.Lists.{each_at}
use Rattle.ep_reads.specs.declared.read.ReadValue.{ReadValue}
use Rattle.ep_reads.specs.Bytes.{form_of_cell, order_on, byte_form, byte_at, byte_of_value, byte_of_cell, number_byte}
use Rattle.ep_reads.specs.Read.{is_exact, is_same_sort, whole_read, byte_read, byte_there, bytes_from}
use Rattle.ep_reads.specs.Read.{may_be_undefined, may_be_mixed, integer_read, read_in_parts, read_with, read}
use Rattle.ep_reads.proofs.Found.{Covering, covering}
use Rattle.ep_core.specs.Program.{Program}
use Rattle.ep_core.specs.Runs.{Side, left, right}
use Rattle.ep_evaluation.specs.Given.{cells_of}
use Rattle.ep_evaluation.specs.Operators.{Form}
use Rattle.ep_movers.specs.Symbols.{Symbol, is_set}
use Rattle.ep_movers.specs.Movers.{Held, Machine, bytes_in, loaded_bytes}
use Rattle.ep_mover_bits.specs.Laws.{Inputs, bits_of_bytes, HasBytes, HaveBytes}
use Rattle.ep_mover_bits.proofs.Operators.{bytes_most}
use Rattle.ep_mover_bits.proofs.Forms.{forms_follow, reads_follow}
use Rattle.ep_mover_cells.specs.Known.{symbol_at, SaysBytes, IsSaid, Moved}
use Rattle.ep_mover_cells.specs.Laws.{IsReadAs, ReadsKnowBytes}
use Rattle.ep_mover_cells.proofs.Loaded.{ok_same, IsLoaded, first_one, loaded_length, loaded_at}

-- ---- the cell of a byte

-- cells that a machine has share its memory
share_of : (s : Side) (x y : CellSide) → (is_same_side x (cells_of s) || is_same_side x Shared) ≡ true
    → (is_same_side y (cells_of s) || is_same_side y Shared) ≡ true → share_memory x y ≡ true
share_of left Right y h k = absurd (let d : false ≡ true = h in cc)
share_of right Left y h k = absurd (let d : false ≡ true = h in cc)
share_of left Left Left h k = refl
share_of left Left Shared h k = refl
share_of left Shared Left h k = refl
share_of left Shared Shared h k = refl
share_of left Left Right h k = absurd (let d : false ≡ true = k in cc)
share_of left Shared Right h k = absurd (let d : false ≡ true = k in cc)
share_of right Right Right h k = refl
share_of right Right Shared h k = refl
share_of right Shared Right h k = refl
share_of right Shared Shared h k = refl
share_of right Right Left h k = absurd (let d : false ≡ true = k in cc)
share_of right Shared Left h k = absurd (let d : false ≡ true = k in cc)

module _ {N : Type 0} (d : Model) (s : Side) (b p : ℕ) where
  pub covering_of : (x : Cell N) → covers d (cells_of s) b p x ≡ true → Covering d (cells_of s) b p (x ∷ []) x
  covering_of x h = covering d (cells_of s) b p (x ∷ []) x (ap (λ t. cond t (Some x) None) h)

  both_meet : (x y : Cell N) → covers d (cells_of s) b p x ≡ true → covers d (cells_of s) b p y ≡ true
      → meets (place_of d x) (place_of d y) ≡ true
  both_meet x y h k =
      let u = covering_of x h in
      let v = covering_of y k in
      rw (
        share_of s x.side y.side u.sides v.sides,
        eq-eqb x.block y.block (u.in_block ∙ sym v.in_block),
        lt-ltb x.offset (y.offset + size_of d y.what) (omega (arith, u.low, v.high)),
        lt-ltb y.offset (x.offset + size_of d x.what) (omega (arith, v.low, u.high)),
      ) refl

  pub looked_up : (c : Cell N) (cs : List (Cell N)) → EachPair (AreApart d) cs → IsIn c cs
      → covers d (cells_of s) b p c ≡ true → cell_at d (cells_of s) b p cs ≡ Some c
  looked_up c [] pairs i h = elim i [ ]
  looked_up c (_ ∷ cs) pairs (first _) h = ap (λ t. cond t (Some c) (cell_at d (cells_of s) b p cs)) h
  looked_up c (x ∷ cs) pairs (later _ _ i) h =
      by (covers d (cells_of s) b p x) refl (each_at (AreApart d x) c cs pairs.0 i)
      (looked_up c cs pairs.1 i h)
    where
      by : (t : Bool) → covers d (cells_of s) b p x ≡ t → AreApart d x c → cell_at d (cells_of s) b p cs ≡ Some c
          → cond (covers d (cells_of s) b p x) (Some x) (cell_at d (cells_of s) b p cs) ≡ Some c
      by true e a r = absurd (let z : true ≡ false = sym (both_meet x c e h) ∙ a.apart in cc)
      by false e a r = ap (λ t. cond t (Some x) (cell_at d (cells_of s) b p cs)) e ∙ r

-- ---- one cell

module _ {N : Type 0} (D : Ops N) where
  -- a cell that is sure has a number
  number_by : (x : Cell N) (t : IntType) (o : Option (Value N)) → x.value ≡ o → IsOfSort (Int t) o
      → (o ≡ None → x.maybe ≡ true) → x.maybe ≡ false → (n : N) × (x.value ≡ Some (Num n))
  number_by x t None e i u m = absurd (let z : true ≡ false = sym (u refl) ∙ m in cc)
  number_by x t (Some (Num n)) e i u m = (n, e)
  number_by x t (Some (Ptr p)) e i u m = absurd i

  pub number_of : (d : Model) (x : Cell N) (t : IntType) → Fits d x → x.what ≡ Int t → x.maybe ≡ false
      → (n : N) × (x.value ≡ Some (Num n))
  number_of d x t f w m =
      number_by x t x.value refl (subst (λ v. IsOfSort v x.value) w f.sort) f.undefined m

  byte_is : (o : Order) (x : Cell N) (t : IntType) (n : N) (j : ℕ) → x.what ≡ Int t → x.value ≡ Some (Num n)
      → byte_of_cell D o x j ≡ number_byte D x t (byte_at o t j) n
  byte_is o x t n j w v =
      ap (λ u. byte_of_value D o x u x.value j) w ∙ ap (λ u. byte_of_value D o x (Int t) u j) v

module _ (base : Inputs) where
  byte_of_form : (f : Form) (xs : List Symbol) (j : ℕ) (y : Symbol) → HasBytes base f xs → slice_get xs j ≡ Some y
      → HasBytes base (option_map (byte_form j) f) (y ∷ [])
  byte_of_form f xs j y h at =
      let e : f ≡ Some (normal (bits_of_bytes base xs)) = h.form ∙ (forms_follow base).few xs h.few in
      subst (λ g. HasBytes base (option_map (byte_form j) g) (y ∷ [])) (sym e)
      ((forms_follow base).byte (normal (bits_of_bytes base xs)) j y xs (subst (λ g. HasBytes base g xs) e h) at)

-- ---- reads

exact_parts : (a b c : Bool) → (a && (b && c)) ≡ true → (a ≡ true) × (b ≡ true)
exact_parts a b c h =
    let q = and_parts a (b && c) h in (q.0, (and_parts b c q.1).0)

module _ {N : Type 0} (D : Ops N) (p : Program) (ord : Side → Order) (base : Inputs) (ms : Side → Machine)
    (k : Known N) (h : Moved D p ord base ms k) (s : Side) (b : ℕ) where
  abbrev cs : CellSide
  cs = cells_of s

  abbrev o : Order
  o = ord s

  abbrev hs : List Held
  hs = bytes_in (ms s).memory b

  order_is : order_on cs k.orders ≡ o
  order_is = by s
    where
      by : (s : Side) → order_on (cells_of s) k.orders ≡ ord s
      by left = ap (λ (os : Order × Order). os.0) h.state.orders
      by right = ap (λ (os : Order × Order). os.1) h.state.orders

  found : (q : ℕ) (c : IsSaid base o k.model k.cells cs hs b q) → cell_at k.model cs b q k.cells ≡ Some c.cell
  found q c = looked_up k.model s b q c.cell k.cells h.state.cells.pairs c.is_in c.has

  read_byte : (q : ℕ) (c : IsSaid base o k.model k.cells cs hs b q) → is_set (symbol_at hs q) ≡ true
      → IsReadAs base (byte_there D k cs b q) (symbol_at hs q ∷ [])
  read_byte q c set =
      let x = c.cell in
      let t = c.says.t in
      let w = bytes_of t in
      let v = covering_of k.model s b q x c.has in
      let n = number_of D k.model x t (h.state.cells.each x c.is_in).fits c.says.what c.says.sure in
      let size : size_of k.model x.what ≡ w = ap (size_of k.model) c.says.what in
      let inside : q - x.offset < w = omega (arith, v.low, v.high, size) in
      let j = place o w (q - x.offset) in
      let below : j < w = place_below o w (q - x.offset) (width_of t) inside in
      let back : x.offset + place o w (0 + j) ≡ q
      = ap (λ i. x.offset + place o w i) (zero_plus j)
      ∙ ap (λ i. x.offset + i) (place_back o w (q - x.offset) (width_of t) inside) ∙ omega (arith, v.low) in
      let l = loaded_at o hs x.offset w 0 w c.says.bytes c.says.lie j below in
      let there : slice_get c.says.bytes j ≡ Some (symbol_at hs q)
      = l.there ∙ ap (λ i. Some (symbol_at hs i)) back in
      let is : byte_there D k cs b q ≡ number_byte D x t j n.0
      = ap (λ e. byte_read D (order_on cs k.orders) q e) (found q c)
      ∙ ap (λ e. byte_of_cell D e x (q - x.offset)) order_is
      ∙ byte_is D o x t n.0 (q - x.offset) c.says.what n.1 in
      subst (λ r. IsReadAs base r (symbol_at hs q ∷ [])) (sym is) (record {
        sure = c.says.sure;
        unmixed = refl;
        form = byte_of_form base (form_of_cell x) c.says.bytes j (symbol_at hs q) c.says.form there;
      })
    where
      zero_plus : (j : ℕ) → 0 + j ≡ j
      zero_plus j = omega arith

  module _ (q : ℕ) (t : IntType) where
    abbrev w : ℕ
    w = bytes_of t

    abbrev byte : ℕ → ReadValue N
    byte i = byte_there D k cs b (q + place o w i)

    record AreRead (rs : List (ReadValue N)) (xs : List Symbol) : Type 0 where
      have : HaveBytes base rs xs
      sure : may_be_undefined rs ≡ false
      unmixed : may_be_mixed rs ≡ false

    one_more : (r : ReadValue N) (rs : List (ReadValue N)) (y : Symbol) (ys : List Symbol)
        → IsReadAs base r (y ∷ []) → AreRead rs ys → AreRead (r ∷ rs) (y ∷ ys)
    one_more r rs y ys a c = record {
      have = (a.form, c.have);
      sure = ap (λ z. z || may_be_undefined rs) a.sure ∙ c.sure;
      unmixed = ap (λ z. z || may_be_mixed rs) a.unmixed ∙ c.unmixed;
    }

    all_read : (i n : ℕ) (xs : List Symbol) → loaded_bytes o hs q w i n ≡ Ok xs → AreRead (bytes_from byte i n) xs
    all_read i zero xs e =
        subst (λ ys. AreRead [] ys) (ok_same [] xs e) (record { have = tt; sure = refl; unmixed = refl })
    all_read i (suc n) xs e =
        let f = first_one o hs q w i n xs e in
        let z : suc i ≡ i + 1 = omega arith in
        subst (λ ys. AreRead (bytes_from byte i (suc n)) ys) (sym f.is)
        (one_more (byte i) (bytes_from byte (i + 1) n) (symbol_at hs (q + place o w i)) f.rest
        (read_byte (q + place o w i) (h.said s b (q + place o w i) f.set) f.set)
        (subst (λ l. AreRead (bytes_from byte l n) f.rest) z (all_read (suc i) n f.rest f.loaded)))

    in_parts : (xs : List Symbol) → loaded_bytes o hs q w 0 w ≡ Ok xs
        → IsReadAs base (read_in_parts D k cs b q (Int t)) xs
    in_parts xs e =
        let a = all_read 0 w xs e in
        let few : length xs ≤ 8 = omega (arith, loaded_length o hs q w 0 w xs e, bytes_most t) in
        let is : integer_read D t (bytes_from byte 0 w) ≡ read_in_parts D k cs b q (Int t)
        = ap (λ e. integer_read D t (bytes_from (λ i. byte_there D k cs b (q + place e w i)) 0 w)) (sym order_is) in
        subst (λ r. IsReadAs base r xs) is (record {
          sure = a.sure;
          unmixed = a.unmixed;
          form = reads_follow base (bytes_from byte 0 w) xs a.have few;
        })

    whole : (c : IsSaid base o k.model k.cells cs hs b q) (xs : List Symbol) → loaded_bytes o hs q w 0 w ≡ Ok xs
        → is_exact k.model (Int t) q c.cell ≡ true → IsReadAs base (whole_read D (Int t) c.cell) xs
    whole c xs e x =
        let a = exact_parts (nat_eq c.cell.offset q) (nat_eq (size_of k.model c.cell.what) w)
        (is_same_sort c.cell.what (Int t)) x in
        let at : c.cell.offset ≡ q = eqb-true c.cell.offset q a.0 in
        let wide : bytes_of c.says.t ≡ w
        = sym (ap (size_of k.model) c.says.what) ∙ eqb-true (size_of k.model c.cell.what) w a.1 in
        let same : c.says.bytes ≡ xs
        = ok_same c.says.bytes xs (sym c.says.lie
        ∙ ap (λ i. loaded_bytes o hs i (bytes_of c.says.t) 0 (bytes_of c.says.t)) at
        ∙ ap (λ n. loaded_bytes o hs q n 0 n) wide ∙ e) in
        record {
          sure = c.says.sure;
          unmixed = refl;
          form = subst (λ ys. HasBytes base (form_of_cell c.cell) ys) same c.says.form;
        }

    read_by : (c : IsSaid base o k.model k.cells cs hs b q) (xs : List Symbol) → loaded_bytes o hs q w 0 w ≡ Ok xs
        → (v : Bool) → is_exact k.model (Int t) q c.cell ≡ v
        → IsReadAs base (cond v (whole_read D (Int t) c.cell) (read_in_parts D k cs b q (Int t))) xs
    read_by c xs e true x = whole c xs e x
    read_by c xs e false x = in_parts xs e

    first_set : (xs : List Symbol) → loaded_bytes o hs q w 0 w ≡ Ok xs → is_set (symbol_at hs q) ≡ true
    first_set xs e =
        let j = place o w 0 in
        let l = loaded_at o hs q w 0 w xs e j (place_below o w 0 (width_of t) (bytes_of_positive t)) in
        let z : 0 + j ≡ j = omega arith in
        let at : q + place o w (0 + j) ≡ q
        = ap (λ i. q + place o w i) z ∙ ap (λ i. q + i) (place_back o w 0 (width_of t) (bytes_of_positive t))
        ∙ omega arith in
        subst (λ i. is_set (symbol_at hs i) ≡ true) at l.set

    reads : (xs : List Symbol) → loaded_bytes o hs q w 0 w ≡ Ok xs
        → IsReadAs base (read D k cs b q (Int t)) xs
    reads xs e =
        let c = h.said s b q (first_set xs e) in
        subst (λ r. IsReadAs base (read_with D k cs b q (Int t) r) xs) (sym (found q c))
        (read_by c xs e (is_exact k.model (Int t) q c.cell) refl)

pub reads_know : {N : Type 0} (D : Ops N) → ReadsKnowBytes D
reads_know D p ord base ms k h s b q t xs e = reads D p ord base ms k h s b q t xs e
