-- Reading certificates undoes writing them.
use Rattle.std.proofs.Common.{◌≡◌, ℕ, suc, ◌^◌, ◌<◌, ◌≤◌, true, cond, arith, refl, ap, sym, ◌∙◌}
use Rattle.std.proofs.Common.{subst, List, [], ◌∷◌, ◌++◌, map, length, append_assoc}
use Rattle.std.specs.Prelude.{◌↔◌, ◌&&◌, not, nat_eq, nat_le, Some, None, Err, codes}
use Rattle.std.specs.Option.{option_and_then}
use Rattle.std.specs.List.{flat_map}
use Rattle.std.proofs.lemmas.Bool.{and_parts, and_from, eqb-true, ne_eqb, leb-true, le-leb}
use Rattle.std.proofs.lemmas.Option.{same_Some, none-some, option_and_then_some}
use Rattle.ep_int.specs.declared.types.Order.{Order}
use Rattle.ep_int.specs.declared.types.Order.TheVariants.{Little, Big, SwappedWords}
use Rattle.ep_int.specs.declared.types.Model.{Model}
use Rattle.ep_int.specs.declared.types.Model.TheVariants.{Ilp32, Lp64}
use Rattle.ep_int.proofs.Basics.{true_and_false, nat_eq-self}
use Rattle.ep_cells.specs.declared.cell.Cell.{Cell}
use Rattle.ep_cells.specs.States.{Known, AreCells}
use Rattle.ep_cert_cells.specs.declared.unread.Unread.{Unread}
use Rattle.ep_cert_cells.specs.declared.unread.Unread.TheVariants as unread
use Rattle.ep_cert_cells.specs.Numbers.{Numbers}
use Rattle.ep_cert_cells.specs.Bytes.{low, cell_bytes, Every, HasBytes}
use Rattle.ep_cert_cells.specs.Reading.{low_at, list_at, cell_at}
use Rattle.ep_cert.specs.declared.opening.Opening.{Opening}
use Rattle.ep_cert.specs.Certificate.{Certificate, order_number, model_number, head_bytes, heads_bytes}
use Rattle.ep_cert.specs.Certificate.{opening_bytes, cert_bytes, IsHead, IsCertificate, CertSpells, greatest_unroll, greatest_source}
use Rattle.ep_cert.specs.Reading.{mark, order_of, order_at, model_of, model_at, is_same_order, is_opening, opening_from}
use Rattle.ep_cert.specs.Reading.{opening_at, row_at, source_of, source_at, IsState, cells_of, NoHeads, NoSource}
use Rattle.ep_cert.specs.Reading.{IsCertAt}
use Rattle.ep_cert.proofs.Undoing.{Undoes, both, made, listed, counted, one_byte, IsOf, number}
use Rattle.ep_cert.proofs.Undoing.{Stands, no_value, or_else, one_of}
use Rattle.ep_cert.proofs.CellLaws.{cells, if_true}

-- ---- what stands before the heads

order_small : (o : Order) → order_number o < 256
order_small Little = omega arith
order_small Big = omega arith
order_small SwappedWords = omega arith

order_back : (o : Order) → order_of (order_number o) ≡ Some o
order_back Little = refl
order_back Big = refl
order_back SwappedWords = refl

order_stands : (n : ℕ) → Stands order_number n (order_of n)
order_stands n =
    or_else order_number n 0 Little _ refl (or_else order_number n 1 Big _ refl
    (or_else order_number n 2 SwappedWords _ refl (no_value order_number n)))

orders : Undoes (λ (o : Order). Unit {0}) (λ (o : Order). one_byte (order_number o)) order_at
orders = one_of order_number order_of order_small order_back order_stands

model_small : (m : Model) → model_number m < 256
model_small Ilp32 = omega arith
model_small Lp64 = omega arith

model_back : (m : Model) → model_of (model_number m) ≡ Some m
model_back Ilp32 = refl
model_back Lp64 = refl

model_stands : (n : ℕ) → Stands model_number n (model_of n)
model_stands n =
    or_else model_number n 0 Ilp32 _ refl (or_else model_number n 1 Lp64 _ refl (no_value model_number n))

models : Undoes (λ (m : Model). Unit {0}) (λ (m : Model). one_byte (model_number m)) model_at
models = one_of model_number model_of model_small model_back model_stands

same_order : (a b : Order) → order_number a ≡ order_number b → a ≡ b
same_order a b e = same_Some a b (sym (order_back a) ∙ ap order_of e ∙ order_back b)

record IsOpening (o : Opening) : Type 0 where
  apart : o.orders.0 ≡ o.orders.1 → ⊥
  unroll : o.unroll ≤ greatest_unroll
  count : o.count < 2 ^ 64

abbrev Pieces : Type 0
Pieces = ℕ × (Order × (Order × (Model × (ℕ × ℕ))))

abbrev pieces : Opening → Pieces
pieces o = (mark, (o.orders.0, (o.orders.1, (o.model, (o.unroll, o.count)))))

abbrev ArePieces : Pieces → Type 0
ArePieces p =
    IsOf 8 p.0 × (Unit {0} × (Unit {0} × (Unit {0} × (IsOf 4 p.1.1.1.1.0 × IsOf 8 p.1.1.1.1.1))))

piece_bytes : Pieces → List ℕ
piece_bytes p =
    low 8 p.0 ++ (one_byte (order_number p.1.0) ++ (one_byte (order_number p.1.1.0)
    ++ (one_byte (model_number p.1.1.1.0) ++ (low 4 p.1.1.1.1.0 ++ low 8 p.1.1.1.1.1))))

are_apart : (a b : Order) → (a ≡ b → ⊥) → not (is_same_order a b) ≡ true
are_apart a b h = ap not (ne_eqb (order_number a) (order_number b) (λ e. h (same_order a b e)))

apart_from : (a b : Order) → not (is_same_order a b) ≡ true → a ≡ b → ⊥
apart_from a b e q =
    let s : is_same_order a b ≡ true =
    ap (λ (o : Order). nat_eq (order_number a) (order_number o)) (sym q) ∙ nat_eq-self (order_number a) in
    true_and_false (not (is_same_order a b)) e (ap not s)

opening_itself : (o : Opening) → IsOpening o → opening_from (pieces o) ≡ Some o
opening_itself o h =
    ap (λ b. cond b (Some o) None)
    (and_from _ _ (nat_eq-self mark) (and_from _ _ (are_apart o.orders.0 o.orders.1 h.apart)
    (le-leb o.unroll greatest_unroll h.unroll)))

opening_only : (p : Pieces) (o : Opening) → ArePieces p → opening_from p ≡ Some o → IsOpening o × (p ≡ pieces o)
opening_only p o h e =
    let a = if_true (is_opening p.0 p.1.0 p.1.1.0 p.1.1.1.1.0) _ o e in
    let b = and_parts (nat_eq p.0 mark) _ a.0 in
    let c = and_parts (not (is_same_order p.1.0 p.1.1.0)) (nat_le p.1.1.1.1.0 greatest_unroll) b.1 in
    let m : p.0 ≡ mark = eqb-true p.0 mark b.0 in
    let Goal : Opening → Type 0 = λ o. IsOpening o × (p ≡ pieces o) in
    subst Goal (same_Some _ o a.1) (
      record {
        apart = apart_from p.1.0 p.1.1.0 c.0;
        unroll = leb-true p.1.1.1.1.0 greatest_unroll c.1;
        count = h.1.1.1.1.1;
      },
      ap (λ (n : ℕ). (n, p.1)) m,
    )

openings : Undoes IsOpening (λ (o : Opening). piece_bytes (pieces o)) opening_at
unfolding opening_at piece_bytes
openings =
    made ArePieces IsOpening _ opening_from pieces _
    (both (IsOf 8) _ (low 8) _ (low_at 8) _ (number 8) (both _ _ _ _ order_at _ orders (both _ _ _ _ order_at _ orders
    (both _ _ _ _ model_at _ models (both (IsOf 4) (IsOf 8) (low 4) (low 8) (low_at 4) (low_at 8) (number 4) (number 8))))))
    (λ o h. (omega arith, (tt, (tt, (tt, (omega (arith, h.unroll), h.count)))))) opening_itself opening_only

-- ---- heads

abbrev IsRow : List (Cell Numbers) → Type 0
IsRow cs = IsOf 4 (length cs) × Every HasBytes cs

rows_undone : Undoes IsRow head_bytes row_at
unfolding head_bytes row_at
rows_undone = counted HasBytes cell_bytes cell_at cells (IsOf 4) (low 4) (low_at 4) (number 4)

all_rows : (n : ℕ) → Undoes (λ (l : List (List (Cell Numbers))). (length l ≡ n) × Every IsRow l)
    (λ (l : List (List (Cell Numbers))). flat_map head_bytes l) (list_at row_at n)
all_rows n = listed IsRow head_bytes row_at rows_undone n

row_bytes : (hs : List (Known Numbers)) → flat_map head_bytes (map cells_of hs) ≡ heads_bytes hs
row_bytes [] = refl
row_bytes (h ∷ hs) = ap (λ (zs : List ℕ). head_bytes h.cells ++ zs) (row_bytes hs)

length_rows : (hs : List (Known Numbers)) → length (map cells_of hs) ≡ length hs
length_rows [] = refl
length_rows (h ∷ hs) = ap suc (length_rows hs)

-- ---- the source

source_reads : (s : List ℕ) → length s ≤ greatest_source → source_at (low 4 (length s) ++ s) ≡ Some s
unfolding source_at
source_reads s h =
    ap (option_and_then source_of) ((number 4).reads (length s) s (omega (arith, h)))
    ∙ ap (λ b. cond b (Some s) None)
    (and_from _ _ (le-leb (length s) greatest_source h) (nat_eq-self (length s)))

source_only : (xs s : List ℕ) → source_at xs ≡ Some s → (length s ≤ greatest_source) × (xs ≡ low 4 (length s) ++ s)
unfolding source_at
source_only xs s e =
    option_and_then_some source_of (low_at 4 xs) s e (λ p ep f.
    let a = if_true (nat_le p.0 greatest_source && nat_eq (length p.1) p.0) (Some p.1) s f in
    let b = and_parts (nat_le p.0 greatest_source) (nat_eq (length p.1) p.0) a.0 in
    let q : p.1 ≡ s = same_Some p.1 s a.1 in
    let n : length s ≡ p.0 = ap length (sym q) ∙ eqb-true (length p.1) p.0 b.1 in
    let m = (number 4).only xs p.0 p.1 ep in (
      omega (arith, n, leb-true p.0 greatest_source b.0),
      m.1 ∙ ap (λ (k : ℕ). low 4 k ++ p.1) (sym n) ∙ ap (λ (zs : List ℕ). low 4 (length s) ++ zs) q,
    ))

-- ---- certificates

abbrev opening_of : Certificate → Opening
opening_of c = record { orders = c.orders; model = c.model; unroll = c.unroll; count = length c.heads }

abbrev end_bytes : Certificate → List ℕ
end_bytes c = low 4 (length c.source) ++ c.source

text : low 8 mark ≡ codes "ENDCERT1"
unfolding low
text = refl

-- the bytes before the heads, part by part
opened_bytes : (c : Certificate) → opening_bytes c ≡ piece_bytes (pieces (opening_of c))
unfolding opening_bytes piece_bytes
opened_bytes c =
    ap (λ (zs : List ℕ). zs ++ (order_number c.orders.0 ∷ order_number c.orders.1 ∷ model_number c.model
    ∷ (low 4 c.unroll ++ low 8 (length c.heads)))) (sym text)

split : (c : Certificate) → cert_bytes c ≡ piece_bytes (pieces (opening_of c)) ++ (heads_bytes c.heads ++ end_bytes c)
unfolding cert_bytes
split c = ap (λ (zs : List ℕ). zs ++ (heads_bytes c.heads ++ end_bytes c)) (opened_bytes c)

every_row : (c : Certificate) (hs : List (Known Numbers)) → Every (IsHead c) hs → Every IsRow (map cells_of hs)
every_row c [] h = tt
every_row c (x ∷ hs) h = ((h.0.writable.count, h.0.writable.each), every_row c hs h.1)

every_cells : (c : Certificate) (hs : List (Known Numbers)) → Every (IsHead c) hs → Every (AreCells c.model) (map cells_of hs)
every_cells c [] h = tt
every_cells c (x ∷ hs) h = (h.0.cells, every_cells c hs h.1)

record AreRead (bytes : List ℕ) (c : Certificate) : Type 0 where
  opening : opening_at bytes ≡ Some (opening_of c, heads_bytes c.heads ++ end_bytes c)
  heads : list_at row_at (length c.heads) (heads_bytes c.heads ++ end_bytes c) ≡ Some (map cells_of c.heads, end_bytes c)
  cells : Every (AreCells c.model) (map cells_of c.heads)
  source : source_at (end_bytes c) ≡ Some c.source

read_of : (bytes : List ℕ) (c : Certificate) → CertSpells bytes c → AreRead bytes c
read_of bytes c s = record {
  opening =
      ap opening_at (s.bytes_are ∙ split c)
      ∙ openings.reads (opening_of c) (heads_bytes c.heads ++ end_bytes c)
      (record { apart = s.certificate.orders; unroll = s.certificate.unroll; count = s.certificate.count });
  heads =
      ap (λ (zs : List ℕ). list_at row_at (length c.heads) (zs ++ end_bytes c)) (sym (row_bytes c.heads))
      ∙ (all_rows (length c.heads)).reads (map cells_of c.heads) (end_bytes c)
      (length_rows c.heads, every_row c c.heads s.certificate.heads);
  cells = every_cells c c.heads s.certificate.heads;
  source = source_reads c.source s.certificate.source;
}

-- ---- what each exit says

pub none_opened : (bytes : List ℕ) → None ≡ opening_at bytes → (c : Certificate) → CertSpells bytes c → ⊥
none_opened bytes e c s =
    none-some (opening_of c, heads_bytes c.heads ++ end_bytes c) (e ∙ (read_of bytes c s).opening)

-- an opening that is read is that of each certificate that the bytes spell
opened : (bytes : List ℕ) (o : Opening) (xs : List ℕ) (c : Certificate) → Some (o, xs) ≡ opening_at bytes
    → CertSpells bytes c → (o ≡ opening_of c) × (xs ≡ heads_bytes c.heads ++ end_bytes c)
opened bytes o xs c e s =
    let q = same_Some _ _ (e ∙ (read_of bytes c s).opening) in
    (ap (λ (z : Opening × List ℕ). z.0) q, ap (λ (z : Opening × List ℕ). z.1) q)

pub heads_stop : (bytes : List ℕ) (o : Opening) (xs : List ℕ) (e : Unread) → Some (o, xs) ≡ opening_at bytes
    → NoHeads o o.count xs e
    → IsCertAt bytes (Err e)
heads_stop bytes o xs unread.Memory p h = tt
heads_stop bytes o xs unread.Misspelled p h = λ c s.
    let r = read_of bytes c s in
    let q = opened bytes o xs c p s in
    let n : o.count ≡ length c.heads = ap (λ (o : Opening). o.count) q.0 in
    h (map cells_of c.heads) (end_bytes c)
    (ap (λ (k : ℕ). list_at row_at k xs) n ∙ ap (list_at row_at (length c.heads)) q.1 ∙ r.heads)
    (subst (λ (o : Opening). Every (AreCells o.model) (map cells_of c.heads)) (sym q.0) r.cells)

-- what is read before the source is of each certificate that the bytes spell
headed : (bytes : List ℕ) (o : Opening) (xs : List ℕ) (hs : List (Known Numbers)) (ys : List ℕ) (c : Certificate)
    → Some (o, xs) ≡ opening_at bytes → list_at row_at o.count xs ≡ Some (map cells_of hs, ys) → CertSpells bytes c
    → (map cells_of hs ≡ map cells_of c.heads) × (ys ≡ end_bytes c)
headed bytes o xs hs ys c p h s =
    let r = read_of bytes c s in
    let q = opened bytes o xs c p s in
    let n : o.count ≡ length c.heads = ap (λ (o : Opening). o.count) q.0 in
    let t = same_Some _ _ (sym h ∙ ap (λ (k : ℕ). list_at row_at k xs) n ∙ ap (list_at row_at (length c.heads)) q.1
    ∙ r.heads) in
    (ap (λ (z : List (List (Cell Numbers)) × List ℕ). z.0) t, ap (λ (z : List (List (Cell Numbers)) × List ℕ). z.1) t)

pub source_stops : (bytes : List ℕ) (o : Opening) (xs : List ℕ) (hs : List (Known Numbers)) (ys : List ℕ)
    (e : Unread) → Some (o, xs) ≡ opening_at bytes
    → Every (IsState o) hs × (list_at row_at o.count xs ≡ Some (map cells_of hs, ys)) → NoSource ys e
    → IsCertAt bytes (Err e)
source_stops bytes o xs hs ys unread.Memory p h k = tt
source_stops bytes o xs hs ys unread.Misspelled p h k = λ c s.
    let t = headed bytes o xs hs ys c p h.1 s in
    let q : None ≡ Some c.source = sym k ∙ ap source_at t.1 ∙ (read_of bytes c s).source in
    let w : ⊥ = cc in w

-- heads of the same cells, machines and model are the same
same_heads : (o : Opening) (c : Certificate) (hs ks : List (Known Numbers)) → o ≡ opening_of c → Every (IsState o) hs
    → Every (IsHead c) ks → map cells_of hs ≡ map cells_of ks → hs ≡ ks
same_heads o c [] [] e h k q = refl
same_heads o c [] (y ∷ ks) e h k q = absurd (let w : ⊥ = cc in w)
same_heads o c (x ∷ hs) [] e h k q = absurd (let w : ⊥ = cc in w)
same_heads o c (x ∷ hs) (y ∷ ks) e h k q =
    let a : x.cells ≡ y.cells = cc in
    let b : map cells_of hs ≡ map cells_of ks = cc in
    let l : x.orders ≡ y.orders = h.0.orders ∙ ap (λ (o : Opening). o.orders) e ∙ sym k.0.orders in
    let m : x.model ≡ y.model = h.0.model ∙ ap (λ (o : Opening). o.model) e ∙ sym k.0.model in
    let z : x ≡ y =
    ap (λ (v : Order × Order). known v x.model x.cells) l ∙ ap (λ (v : Model). known y.orders v x.cells) m
    ∙ ap (known y.orders y.model) a in
    ap (λ (v : Known Numbers). v ∷ hs) z
    ∙ ap (λ (v : List (Known Numbers)). y ∷ v) (same_heads o c hs ks e h.1 k.1 b)
  where
    known : Order × Order → Model → List (Cell Numbers) → Known Numbers
    known v m cs = record { orders = v; model = m; cells = cs }

are_heads : (o : Opening) (c : Certificate) (hs : List (Known Numbers)) → o ≡ opening_of c → Every (IsState o) hs
    → Every IsRow (map cells_of hs) → Every (IsHead c) hs
are_heads o c [] e h r = tt
are_heads o c (x ∷ hs) e h r = (
  record {
    orders = h.0.orders ∙ ap (λ (o : Opening). o.orders) e;
    model = h.0.model ∙ ap (λ (o : Opening). o.model) e;
    cells = subst (λ (o : Opening). AreCells o.model x.cells) e h.0.cells;
    writable = record { count = r.0.0; each = r.0.1 };
  },
  are_heads o c hs e h.1 r.1,
)

-- the certificate of an opening, heads and a source
abbrev pub certificate : Opening → List (Known Numbers) → List ℕ → Certificate
certificate o hs s = record { orders = o.orders; model = o.model; unroll = o.unroll; heads = hs; source = s }

spells : (bytes : List ℕ) (o : Opening) (xs : List ℕ) (hs : List (Known Numbers)) (ys s : List ℕ)
    → opening_at bytes ≡ Some (o, xs) → Every (IsState o) hs → list_at row_at o.count xs ≡ Some (map cells_of hs, ys)
    → source_at ys ≡ Some s → CertSpells bytes (certificate o hs s)
spells bytes o xs hs ys s p h r q =
    let a = openings.only bytes o xs p in
    let b = (all_rows o.count).only xs (map cells_of hs) ys r in
    let d = source_only ys s q in
    let c : Certificate = certificate o hs s in
    let n : o.count ≡ length hs = sym b.0.0 ∙ length_rows hs in
    let e : o ≡ opening_of c =
    ap (λ (k : ℕ). let z : Opening = record { orders = o.orders; model = o.model; unroll = o.unroll; count = k } in z) n in
    record {
      certificate = record {
        orders = a.0.apart;
        unroll = a.0.unroll;
        count = subst (λ (k : ℕ). k < 2 ^ 64) n a.0.count;
        heads = are_heads o c hs e h b.0.1;
        source = d.0;
      };
      bytes_are =
          a.1 ∙ ap (λ (z : Opening). piece_bytes (pieces z) ++ xs) e
          ∙ ap (λ (zs : List ℕ). piece_bytes (pieces (opening_of c)) ++ zs)
          (b.1 ∙ ap (λ (zs : List ℕ). zs ++ ys) (row_bytes hs) ∙ ap (λ (zs : List ℕ). heads_bytes hs ++ zs) d.1)
          ∙ sym (split c);
    }

pub found : (bytes : List ℕ) (o : Opening) (xs : List ℕ) (hs : List (Known Numbers)) (ys s : List ℕ)
    → Some (o, xs) ≡ opening_at bytes
    → Every (IsState o) hs × (list_at row_at o.count xs ≡ Some (map cells_of hs, ys)) → source_at ys ≡ Some s
    → (c : Certificate) → CertSpells bytes c ↔ (certificate o hs s ≡ c)
found bytes o xs hs ys s p h q c = (
  λ k.
      let t = opened bytes o xs c p k in
      let u = headed bytes o xs hs ys c p h.1 k in
      let v : s ≡ c.source = same_Some s c.source (sym q ∙ ap source_at u.1 ∙ (read_of bytes c k).source) in
      let w : hs ≡ c.heads = same_heads o c hs c.heads t.0 h.0 k.certificate.heads u.0 in
      ap (λ (z : Opening). certificate z hs s) t.0 ∙ ap (λ (z : List (Known Numbers)). certificate (opening_of c) z s) w
      ∙ ap (certificate (opening_of c) c.heads) v,
  λ e. subst (CertSpells bytes) e (spells bytes o xs hs ys s (sym p) h.0 h.1 q),
)

pub decided : (bytes : List ℕ) (x : Certificate) → ((c : Certificate) → CertSpells bytes c ↔ (x ≡ c)) → (c : Certificate)
    → CertSpells bytes c ↔ (Some x ≡ Some c)
decided bytes x h c = (λ s. ap Some ((h c).0 s), λ e. (h c).1 (same_Some x c e))

pub undecided : (bytes : List ℕ) → ((c : Certificate) → CertSpells bytes c → ⊥) → (c : Certificate)
    → CertSpells bytes c ↔ (None ≡ Some c)
undecided bytes h c = (λ s. absurd (h c s), λ e. absurd (let w : ⊥ = cc in w))

-- ---- writing

pub encoded : (c : Certificate) (a b d e : List ℕ) → IsCertificate c → a ≡ [] ++ opening_bytes c
    → b ≡ a ++ heads_bytes c.heads → d ≡ b ++ low 4 (length c.source) → e ≡ d ++ c.source → CertSpells e c
unfolding cert_bytes
encoded c a b d e h p q r s = record {
  certificate = h;
  bytes_are =
      s ∙ ap (λ (z : List ℕ). z ++ c.source) (r ∙ ap (λ (z : List ℕ). z ++ low 4 (length c.source)) q)
      ∙ append_assoc (a ++ heads_bytes c.heads) (low 4 (length c.source)) c.source
      ∙ append_assoc a (heads_bytes c.heads) (end_bytes c)
      ∙ ap (λ (z : List ℕ). z ++ (heads_bytes c.heads ++ end_bytes c)) p;
}
