-- Members that are placed one by one lie where the rule says.
use Rattle.std.proofs.Common.{◌≡◌, ℕ, ◌+◌, ◌<◌, ◌≤◌, max, Bool, true, false, List, [], ◌∷◌, ◌++◌, map, Option, Some}
use Rattle.std.proofs.lemmas.Bool.{and_parts}
use Rattle.std.proofs.Common.{None, option_map, option_and_then, unwrap_or, is_some, refl, sym, ◌∙◌, ap, inl, inr}
use Rattle.std.proofs.Common.{arith, ◌&&◌, true≢false, if◌then◌else◌, nat_lt}
use Rattle.std.specs.List.{list_all}
use Rattle.std.specs.Int.{next_multiple_of}
use Rattle.std.proofs.lemmas.Bool.Decides.{nat_tests}
use Rattle.std.proofs.lemmas.List.{map-append}
use Rattle.ep_layout.specs.declared.extent.Extent.{Extent}
use Rattle.ep_layout.specs.declared.table.bodies.Placing.{Placing}
use Rattle.ep_layout.specs.declared.types.LayoutStop.{LayoutStop}
use Rattle.ep_layout.specs.declared.types.LayoutStop.TheVariants.{Incomplete, TooLarge}
use Rattle.ep_layout.specs.Layout.{Layout, most_bytes, end_of, greatest_size, greatest_align, struct_layout}
use Rattle.ep_layout.specs.Layout.{union_layout}
use Rattle.ep_layout.specs.Table.{Table, MemberRow, at_each, layout_of, layout_with, known_layout, struct_members}
use Rattle.ep_layout.specs.Table.{laid_out, members_stop, stop_at_size}
use Rattle.ep_layout.specs.Extents.{IsExtent, extent_of}
use Rattle.ep_layout.specs.Placed.{IsPlaced, next_offset, next_end, row, end_of_all, layouts_of}
use Rattle.ep_layout.specs.Stops.{IsStop}
use Rattle.std.specs.Global.{Vec}
use Rattle.ep_layout.specs.Views.{members_view, named_view}
use Rattle.ep_layout.proofs.Options.{map_some, map_is}

abbrev pub Named : Type 0
Named = List ℕ × ℕ

struct_push : (t : Table) (ms : List Named) (m : Named) (e : ℕ) → struct_members t e (ms ++ m ∷ []) ≡ struct_members t e ms ++ row m.0 m.1 (next_multiple_of (end_of e (layouts_of t ms)) (known_layout t m.1).align) ∷ []
struct_push t [] m e = refl
struct_push t (x ∷ xs) m e = ap (λ (l : List MemberRow). row x.0 x.1 (next_multiple_of e (known_layout t x.1).align) ∷ l) (struct_push t xs m _)

end_push : (ls : List Layout) (l : Layout) (e : ℕ) → end_of e (ls ++ l ∷ []) ≡ next_multiple_of (end_of e ls) l.align + l.size
end_push [] l e = refl
end_push (x ∷ xs) l e = end_push xs l _

align_push : (ls : List Layout) (l : Layout) → greatest_align (ls ++ l ∷ []) ≡ max (greatest_align ls) l.align
align_push [] l = omega arith
align_push (x ∷ xs) l = omega (arith, align_push xs l)

size_push : (ls : List Layout) (l : Layout) → greatest_size (ls ++ l ∷ []) ≡ max (greatest_size ls) l.size
size_push [] l = omega arith
size_push (x ∷ xs) l = omega (arith, size_push xs l)

layouts_push : (t : Table) (ms : List Named) (m : Named) → layouts_of t (ms ++ m ∷ []) ≡ layouts_of t ms ++ known_layout t m.1 ∷ []
layouts_push t ms m = map-append (λ (n : Named). known_layout t n.1) ms (m ∷ [])

rows_push : (t : Table) (u : Bool) (ms : List Named) (m : Named) → laid_out t u (ms ++ m ∷ []) ≡ laid_out t u ms ++ row m.0 m.1 (next_offset u (end_of_all u (layouts_of t ms)) (extent_of (known_layout t m.1))) ∷ []
rows_push t true ms m = map-append (λ (n : Named). row n.0 n.1 0) ms (m ∷ [])
rows_push t false ms m = struct_push t ms m 0

all_push : (u : Bool) (ls : List Layout) (l : Layout) → end_of_all u (ls ++ l ∷ []) ≡ next_end u (end_of_all u ls) (extent_of l)
all_push true ls l = size_push ls l
all_push false ls l = end_push ls l 0

pub known_is : (t : Table) (n : ℕ) (x : Extent) → Some x ≡ option_map extent_of (layout_of t n) → x ≡ extent_of (known_layout t n)
known_is t n x h =
    let s = map_some extent_of (layout_of t n) x (sym h) in
    sym s.2 ∙ ap (λ (o : Option Layout). extent_of (unwrap_or o (record { size = 0; align = 1; leaves = [] }))) (sym s.1)

pub placed_none : (t : Table) (u : Bool) (p : Placing) → p.members.items ≡ [] → p.end ≡ 0 → p.align ≡ 1 → IsPlaced t u [] p
placed_none t true p m e a = record { rows = rw m refl; end = e; align = a; end_fits = omega arith; positive = omega arith; align_fits = omega arith }
placed_none t false p m e a = record { rows = rw m refl; end = e; align = a; end_fits = omega arith; positive = omega arith; align_fits = omega arith }

-- one member more
pub placed_step : (t : Table) (u : Bool) (ms : List Named) (p q : Placing) (m : Named) (x : Extent) → IsPlaced t u ms p → x ≡ extent_of (known_layout t m.1) → IsExtent x
    → members_view q.members.items ≡ members_view p.members.items ++ row m.0 m.1 (next_offset u p.end x) ∷ [] → q.end ≡ next_end u p.end x → q.align ≡ max p.align x.align → q.end ≤ most_bytes
    → IsPlaced t u (ms ++ m ∷ []) q
placed_step t u ms p q m x placed same fits rows end align small =
    let there = ap (λ (y : Extent). next_offset u p.end y) same ∙ ap (λ (k : ℕ). next_offset u k (extent_of (known_layout t m.1))) placed.end in
    record {
      rows = rows ∙ ap (λ (l : List MemberRow). l ++ row m.0 m.1 (next_offset u p.end x) ∷ []) placed.rows ∙ ap (λ (k : ℕ). laid_out t u ms ++ row m.0 m.1 k ∷ []) there ∙ sym (rows_push t u ms m);
      end = end ∙ ap (λ (y : Extent). next_end u p.end y) same ∙ ap (λ (k : ℕ). next_end u k (extent_of (known_layout t m.1))) placed.end ∙ sym (ap (end_of_all u) (layouts_push t ms m) ∙ all_push u (layouts_of t ms) (known_layout t m.1));
      align = align ∙ ap (λ (y : Extent). max p.align y.align) same ∙ ap (λ (k : ℕ). max k (known_layout t m.1).align) placed.align ∙ sym (ap greatest_align (layouts_push t ms m) ∙ align_push (layouts_of t ms) (known_layout t m.1));
      end_fits = small;
      positive = omega (arith, align, placed.positive);
      align_fits = omega (arith, align, placed.align_fits, fits.align);
    }

---- where every member has a size

one_known : (o : Option Layout) → is_some o ≡ true → o ≡ Some (unwrap_or o (record { size = 0; align = 1; leaves = [] }))
one_known None h = absurd (true≢false (sym h))
one_known (Some l) h = refl

each_known : (t : Table) (ms : List Named) → list_all (λ m. is_some (layout_of t m.1)) ms ≡ true → at_each (layout_of t) (map (λ m. m.1) ms) ≡ Some (layouts_of t ms)
each_known t [] h = refl
each_known t (m ∷ ms) h =
    let s = and_parts (is_some (layout_of t m.1)) (list_all (λ n. is_some (layout_of t n.1)) ms) h in
    rw (one_known (layout_of t m.1) s.0, each_known t ms s.1) refl

abbrev pub rule_of : Bool → List Layout → Layout
rule_of u ls = if u then union_layout ls else struct_layout ls

pub layout_with_is : (t : Table) (u : Bool) (ms : List Named) → list_all (λ m. is_some (layout_of t m.1)) ms ≡ true → layout_with t u ms ≡ Some (rule_of u (layouts_of t ms))
layout_with_is t true ms h = map_is union_layout _ (layouts_of t ms) (each_known t ms h)
layout_with_is t false ms h = map_is struct_layout _ (layouts_of t ms) (each_known t ms h)

pub rule_extent : (u : Bool) (ls : List Layout) → extent_of (rule_of u ls) ≡ record { size = next_multiple_of (end_of_all u ls) (greatest_align ls); align = greatest_align ls }
rule_extent true ls = refl
rule_extent false ls = refl

rule_size : (u : Bool) (ls : List Layout) → end_of_all u ls ≤ (rule_of u ls).size
rule_size true ls = omega arith
rule_size false ls = omega arith

pub end_rises : (ls : List Layout) (e : ℕ) → e ≤ end_of e ls
end_rises [] e = omega arith
end_rises (l ∷ ls) e = omega (arith, end_rises ls (next_multiple_of e l.align + l.size))

end_of_front : (ks ls : List Layout) (e : ℕ) → end_of e ks ≤ end_of e (ks ++ ls)
end_of_front [] ls e = end_rises ls e
end_of_front (k ∷ ks) ls e = end_of_front ks ls _

size_of_front : (ks ls : List Layout) → greatest_size ks ≤ greatest_size (ks ++ ls)
size_of_front [] ls = omega arith
size_of_front (k ∷ ks) ls = omega (arith, size_of_front ks ls)

all_of_front : (u : Bool) (ks ls : List Layout) → end_of_all u ks ≤ end_of_all u (ks ++ ls)
all_of_front true ks ls = size_of_front ks ls
all_of_front false ks ls = end_of_front ks ls 0

past_by : (n : ℕ) (b : Bool) (e : LayoutStop) → nat_lt most_bytes n ≡ b → (if b then Some TooLarge else None) ≡ Some e → (most_bytes < n) × (e ≡ TooLarge)
past_by n true e h q = let same : e ≡ TooLarge = cc in (grind (arith, nat_tests), same)
past_by n false e h q = absurd cc

past : (n : ℕ) (e : LayoutStop) → stop_at_size n ≡ Some e → (most_bytes < n) × (e ≡ TooLarge)
past n e h = past_by n (nat_lt most_bytes n) e refl h

pub past_limit : (n : ℕ) → most_bytes < n → stop_at_size n ≡ Some TooLarge
past_limit n l = let e : nat_lt most_bytes n ≡ true = grind (arith, nat_tests) in rw e refl

pub within_limit : (n : ℕ) → n ≤ most_bytes → stop_at_size n ≡ None
within_limit n l = let e : nat_lt most_bytes n ≡ false = grind (arith, nat_tests) in rw e refl

pub sized_stop : (t : Table) (u : Bool) (ms : List Named) → list_all (λ m. is_some (layout_of t m.1)) ms ≡ true → members_stop t u ms ≡ stop_at_size (rule_of u (layouts_of t ms)).size
sized_stop t u ms h = rw (layout_with_is t u ms h) refl

-- members that end too far already are too large together
pub stop_early : (t : Table) (u : Bool) (ms rest : List Named) (p : Placing) (m : Named) (x : Extent) (e : LayoutStop) → IsPlaced t u ms p → x ≡ extent_of (known_layout t m.1)
    → list_all (λ n. is_some (layout_of t n.1)) ((ms ++ m ∷ []) ++ rest) ≡ true → IsStop (stop_at_size (next_end u p.end x)) e → IsStop (members_stop t u ((ms ++ m ∷ []) ++ rest)) e
stop_early t u ms rest p m x e placed same sized (inl q) = inl q
stop_early t u ms rest p m x e placed same sized (inr q) =
    let s = past (next_end u p.end x) e q in
    let end : next_end u p.end x ≡ end_of_all u (layouts_of t (ms ++ m ∷ [])) = ap (λ (y : Extent). next_end u p.end y) same ∙ ap (λ (k : ℕ). next_end u k (extent_of (known_layout t m.1))) placed.end ∙ sym (ap (end_of_all u) (layouts_push t ms m) ∙ all_push u (layouts_of t ms) (known_layout t m.1)) in
    let whole : layouts_of t ((ms ++ m ∷ []) ++ rest) ≡ layouts_of t (ms ++ m ∷ []) ++ layouts_of t rest = map-append (λ (n : Named). known_layout t n.1) (ms ++ m ∷ []) rest in
    let front = all_of_front u (layouts_of t (ms ++ m ∷ [])) (layouts_of t rest) in
    let size = rule_size u (layouts_of t ((ms ++ m ∷ []) ++ rest)) in
    let wide : end_of_all u (layouts_of t ((ms ++ m ∷ []) ++ rest)) ≡ end_of_all u (layouts_of t (ms ++ m ∷ []) ++ layouts_of t rest) = ap (end_of_all u) whole in
    inr (sized_stop t u ((ms ++ m ∷ []) ++ rest) sized ∙ past_limit (rule_of u (layouts_of t ((ms ++ m ∷ []) ++ rest))).size (omega (arith, s.0, end, wide, front, size)) ∙ ap Some (sym s.1))

-- in a list of which each element passes, one in the middle does
pub in_all : {X : Type 0} (p : X → Bool) (front : List X) (x : X) (rest : List X) → list_all p (front ++ x ∷ rest) ≡ true → p x ≡ true
in_all p [] x rest h = (and_parts (p x) (list_all p rest) h).0
in_all p (y ∷ ys) x rest h = in_all p ys x rest (and_parts (p y) (list_all p (ys ++ x ∷ rest)) h).1

-- a test of each type is one of each named type
pub all_named : (p : ℕ → Bool) (ms : List (Vec ℕ × ℕ)) → list_all (λ m. p m.1) (named_view ms) ≡ list_all (λ m. p m.1) ms
all_named p [] = refl
all_named p (m ∷ ms) = ap (λ (b : Bool). p m.1 && b) (all_named p ms)

each_unknown : (t : Table) (ms : List Named) → list_all (λ m. is_some (layout_of t m.1)) ms ≡ false → at_each (layout_of t) (map (λ m. m.1) ms) ≡ None
each_unknown t [] h = absurd (true≢false h)
each_unknown t (m ∷ ms) h = unknown (layout_of t m.1) (at_each (layout_of t) (map (λ n. n.1) ms)) (list_all (λ n. is_some (layout_of t n.1)) ms) h (each_unknown t ms)
  where
    unknown : (o : Option Layout) (rest : Option (List Layout)) (b : Bool) → is_some o && b ≡ false → (b ≡ false → rest ≡ None) → option_and_then (λ x. option_map (λ xs. x ∷ xs) rest) o ≡ None
    unknown None rest b h f = refl
    unknown (Some x) rest b h f = rw (f h) refl

pub unsized_stop : (t : Table) (u : Bool) (ms : List Named) → list_all (λ m. is_some (layout_of t m.1)) ms ≡ false → members_stop t u ms ≡ Some Incomplete
unsized_stop t u ms h = rw (each_unknown t ms h) refl

-- the extent of members that are all placed
pub placed_extent : (t : Table) (u : Bool) (ms : List Named) (p : Placing) (size : ℕ) → IsPlaced t u ms p → list_all (λ m. is_some (layout_of t m.1)) ms ≡ true → size ≡ next_multiple_of p.end p.align
    → option_map extent_of (layout_with t u ms) ≡ Some (record { size = size; align = p.align })
placed_extent t u ms p size placed sized e =
    let q : record { size = next_multiple_of (end_of_all u (layouts_of t ms)) (greatest_align (layouts_of t ms)); align = greatest_align (layouts_of t ms) } ≡ (let x : Extent = record { size = size; align = p.align } in x) = rw (e, placed.end, placed.align) refl in
    ap (option_map extent_of) (layout_with_is t u ms sized) ∙ ap Some (rule_extent u (layouts_of t ms) ∙ q)

pub placed_stop : (t : Table) (u : Bool) (ms : List Named) (p : Placing) (size : ℕ) → IsPlaced t u ms p → list_all (λ m. is_some (layout_of t m.1)) ms ≡ true → size ≡ next_multiple_of p.end p.align → members_stop t u ms ≡ stop_at_size size
placed_stop t u ms p size placed sized e =
    let s = sized_stop t u ms sized in
    s ∙ ap stop_at_size (ap (λ (x : Extent). x.size) (rule_extent u (layouts_of t ms)) ∙ sym (e ∙ ap (λ (k : ℕ). next_multiple_of k p.align) placed.end ∙ ap (next_multiple_of (end_of_all u (layouts_of t ms))) placed.align))
