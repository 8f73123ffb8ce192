-- Two changes of cells, one after the other.
use Rattle.std.proofs.Common.{◌≡◌, true, List, [], ◌∷◌, ◌++◌, map, Option, Some, None, IfSome, refl, sym, ◌∙◌, ap}
use Rattle.ep_cells.proofs.Basics.{map-append}
use Rattle.std.proofs.Common.{append_assoc}
use Rattle.std.specs.Option.{option_map}
use Rattle.std.proofs.lemmas.Bool.{or_left, or_right}
use Rattle.ep_int.specs.declared.types.Model.{Model}
use Rattle.ep_bitslice.specs.declared.cell.CellName.{CellName}
use Rattle.ep_bitslice.specs.declared.segment.Segment.{Segment}
use Rattle.ep_bitslice.specs.Bits.{Bit, fixed, cell_bit, mentions, is_bit_of, is_same_cell}
use Rattle.ep_bitslice.specs.Segments.{bits, normal}
use Rattle.ep_bitslice.proofs.Joining.{cell_itself}
use Rattle.ep_bitslice.proofs.Appending.{bits-normal}
use Rattle.ep_cells.specs.declared.cell.Cell.{Cell}
use Rattle.ep_cells.specs.Cells.{IsIn, first, later, each_becomes}
use Rattle.ep_cells.specs.Forms.{Fate, bit_after, put_bit, bits_after, form_after, reformed}
use Rattle.ep_cells.specs.States.{IsThere, IsFormOf, HasForm, AreCells}
use Rattle.ep_cells.proofs.Lists.{in_each}
use Rattle.ep_reads.proofs.Steps.{step_cells}
use Rattle.ep_reads.proofs.Same.{IsSameStep}
use Rattle.ep_reads.specs.Single.{changed_cells}

-- ---- fates

abbrev pub gone_on : Fate → Option CellName → Option CellName
gone_on g None = None
gone_on g (Some n) = g n

abbrev pub then_fate : Fate → Fate → Fate
then_fate f g n = gone_on g (f n)

abbrev bit_then : Fate → Option Bit → Option Bit
bit_then g None = None
bit_then g (Some b) = bit_after g b

abbrev bits_then : Fate → Option (List Bit) → Option (List Bit)
bits_then g None = None
bits_then g (Some bs) = bits_after g bs

put_none : (o : Option Bit) → None ≡ put_bit o None
put_none None = refl
put_none (Some b) = refl

put_then : (g : Fate) (o : Option Bit) (p : Option (List Bit))
    → bits_then g (put_bit o p) ≡ put_bit (bit_then g o) (bits_then g p)
put_then g None p = refl
put_then g (Some b) None = put_none (bit_after g b)
put_then g (Some b) (Some bs) = refl

bit_twice : (f g : Fate) (b : Bit) → bit_then g (bit_after f b) ≡ bit_after (then_fate f g) b
bit_twice f g (fixed b) = refl
bit_twice f g (cell_bit c k) = by (f c)
  where
    by : (o : Option CellName)
        → bit_then g (option_map (λ e. cell_bit e k) o) ≡ option_map (λ e. cell_bit e k) (gone_on g o)
    by None = refl
    by (Some e) = refl

bits_twice : (f g : Fate) (bs : List Bit) → bits_then g (bits_after f bs) ≡ bits_after (then_fate f g) bs
bits_twice f g [] = refl
bits_twice f g (b ∷ bs) =
    put_then g (bit_after f b) (bits_after f bs)
    ∙ ap (λ o. put_bit o (bits_then g (bits_after f bs))) (bit_twice f g b)
    ∙ ap (put_bit (bit_after (then_fate f g) b)) (bits_twice f g bs)

normal_then : (g : Fate) (o : Option (List Bit))
    → form_after g (option_map normal o) ≡ option_map normal (bits_then g o)
normal_then g None = refl
normal_then g (Some bs) = ap (λ cs. option_map normal (bits_after g cs)) (bits-normal bs)

form_twice : (f g : Fate) (o : Option (List Segment)) → form_after g (form_after f o) ≡ form_after (then_fate f g) o
form_twice f g None = refl
form_twice f g (Some ss) =
    normal_then g (bits_after f (bits ss)) ∙ ap (option_map normal) (bits_twice f g (bits ss))

pub reformed_twice : {N : Type 0} (f g : Fate) (c : Cell N) → reformed g (reformed f c) ≡ reformed (then_fate f g) c
reformed_twice f g c = ap (λ o. record c { form = o }) (form_twice f g c.form)

-- ---- fates that are the same where names are mentioned

bits_same : (f g : Fate) (bs : List Bit) → ((n : CellName) → mentions n bs ≡ true → f n ≡ g n)
    → bits_after f bs ≡ bits_after g bs
bits_same f g [] h = refl
bits_same f g (fixed b ∷ bs) h = ap (put_bit (Some (fixed b))) (bits_same f g bs (λ n k. h n k))
bits_same f g (cell_bit c i ∷ bs) h =
    ap (λ o. put_bit (option_map (λ e. cell_bit e i) o) (bits_after f bs))
    (h c (or_left (is_same_cell c c) (mentions c bs) (cell_itself c)))
    ∙ ap (put_bit (option_map (λ e. cell_bit e i) (g c))) (bits_same f g bs (λ n k. h n (or_right (is_bit_of n
    (cell_bit c i)) (mentions n bs) k)))

form_same : {N : Type 0} (f g : Fate) (cs : List (Cell N)) (x : Cell N) (o : Option (List Segment))
    → IfSome o (IsFormOf cs x) → ((n : CellName) → IsThere n cs → f n ≡ g n) → form_after f o ≡ form_after g o
form_same f g cs x None h k = refl
form_same f g cs x (Some ss) h k =
    ap (option_map normal) (bits_same f g (bits ss) (λ n m. k n (h.mentioned n m)))

-- a cell with the form of one of these
pub reformed_same : {N : Type 0} (f g : Fate) (cs : List (Cell N)) (x y : Cell N) → HasForm cs x → y.form ≡ x.form
    → ((n : CellName) → IsThere n cs → f n ≡ g n) → reformed f y ≡ reformed g y
reformed_same f g cs x y h e k =
    ap (λ o. record y { form = o })
    (ap (form_after f) e ∙ form_same f g cs x x.form h k ∙ ap (form_after g) (sym e))

-- ---- lists

pub each_same : {N : Type 0} (g h : Cell N → List (Cell N)) (cs : List (Cell N))
    → ((x : Cell N) → IsIn x cs → g x ≡ h x) → each_becomes g cs ≡ each_becomes h cs
each_same g h [] p = refl
each_same g h (c ∷ cs) p =
    ap (λ zs. zs ++ each_becomes g cs) (p c (first cs))
    ∙ ap (λ zs. h c ++ zs) (each_same g h cs (λ x i. p x (later c cs i)))

pub map_same : {N : Type 0} (g h : Cell N → Cell N) (cs : List (Cell N)) → ((x : Cell N) → IsIn x cs → g x ≡ h x)
    → map g cs ≡ map h cs
map_same g h [] p = refl
map_same g h (c ∷ cs) p =
    ap (λ z. z ∷ map g cs) (p c (first cs)) ∙ ap (λ zs. h c ∷ zs) (map_same g h cs (λ x i. p x (later c cs i)))

pub same_changes : {N : Type 0} (g h : Cell N → List (Cell N)) (f e : Fate) (cs : List (Cell N))
    → ((x : Cell N) → IsIn x cs → g x ≡ h x)
    → ((x y : Cell N) → IsIn x cs → IsIn y (h x) → reformed f y ≡ reformed e y)
    → changed_cells g f cs ≡ changed_cells h e cs
same_changes g h f e cs p q =
    ap (map (reformed f)) (each_same g h cs p)
    ∙ map_same (reformed f) (reformed e) (each_becomes h cs)
    (λ y i. let r = in_each h y cs i in q r.origin y r.is_in r.becomes)

pub each_append : {N : Type 0} (g : Cell N → List (Cell N)) (xs ys : List (Cell N))
    → each_becomes g (xs ++ ys) ≡ each_becomes g xs ++ each_becomes g ys
each_append g [] ys = refl
each_append g (x ∷ xs) ys =
    ap (λ zs. g x ++ zs) (each_append g xs ys)
    ∙ sym (append_assoc (g x) (each_becomes g xs) (each_becomes g ys))

each_of_map : {N : Type 0} (m : Cell N → List (Cell N)) (r : Cell N → Cell N) (cs : List (Cell N))
    → ((c : Cell N) → m (r c) ≡ map r (m c)) → each_becomes m (map r cs) ≡ map r (each_becomes m cs)
each_of_map m r [] h = refl
each_of_map m r (c ∷ cs) h =
    ap (λ zs. zs ++ each_becomes m (map r cs)) (h c)
    ∙ ap (λ zs. map r (m c) ++ zs) (each_of_map m r cs h)
    ∙ sym (map-append r (m c) (each_becomes m cs))

each_of_each : {N : Type 0} (m l : Cell N → List (Cell N)) (cs : List (Cell N))
    → each_becomes m (each_becomes l cs) ≡ each_becomes (λ c. each_becomes m (l c)) cs
each_of_each m l [] = refl
each_of_each m l (c ∷ cs) =
    each_append m (l c) (each_becomes l cs) ∙ ap (λ zs. each_becomes m (l c) ++ zs) (each_of_each m l cs)

map_of_map : {N : Type 0} (f g : Fate) (cs : List (Cell N))
    → map (reformed g) (map (reformed f) cs) ≡ map (reformed (then_fate f g)) cs
map_of_map f g [] = refl
map_of_map f g (c ∷ cs) =
    ap (λ z. z ∷ map (reformed g) (map (reformed f) cs)) (reformed_twice f g c)
    ∙ ap (λ zs. reformed (then_fate f g) c ∷ zs) (map_of_map f g cs)

-- the second change doesn't look at forms
pub changed_twice : {N : Type 0} (l m : Cell N → List (Cell N)) (f g : Fate) (cs : List (Cell N))
    → ((c : Cell N) → m (reformed f c) ≡ map (reformed f) (m c))
    → changed_cells m g (changed_cells l f cs) ≡ changed_cells (λ c. each_becomes m (l c)) (then_fate f g) cs
changed_twice l m f g cs h =
    ap (map (reformed g)) (each_of_map m (reformed f) (each_becomes l cs) h)
    ∙ map_of_map f g (each_becomes m (each_becomes l cs))
    ∙ ap (map (reformed (then_fate f g))) (each_of_each m l cs)

-- a change that puts no cell in leaves a state
pub same_step_cells : {N : Type 0} (d : Model) (cs : List (Cell N)) (g : Cell N → List (Cell N)) (f : Fate)
    → AreCells d cs → IsSameStep d cs [] g f → AreCells d (changed_cells g f cs)
same_step_cells d cs g f a s =
    step_cells d [] cs [] g f a
    (record {
      each = s.each;
      pairs = s.pairs;
      forms = s.forms;
      sided = s.sided;
      own = s.own;
      away = s.away;
      fates = λ c e t h.
          let r = s.goes t.cell c e t.is_in t.named h in
          record { cell = record t.cell { side = r.side }; is_in = r.is_in; named = r.named; sure = t.sure };
    })
