-- Tables that came from others: they grew, and they go back to what they were.
use Rattle.std.proofs.Common.{◌≡◌, ℕ, zero, suc, ◌+◌, ◌<◌, ◌≤◌, false, List, [], ◌∷◌, ◌++◌, length, map, take, drop}
use Rattle.std.proofs.Common.{slice_get, slice_set, Option, Some, None, IsSome, option_map, option_and_then, is_some}
use Rattle.std.proofs.Common.{option_to_list, refl, sym, ◌∙◌, ap, subst, ◌⊎◌, inl, inr, arith, length-append, true≢false}
use Rattle.std.proofs.Math.Seq.{take-length, drop-length}
use Rattle.std.proofs.lemmas.List.{take-append-le, drop-append-le, take-map, length-take-le, length-map}
use Rattle.std.proofs.lemmas.Option.{slice_get-map}
use Rattle.std.specs.Global.{Vec}
use Rattle.ep_int.specs.declared.types.Model.{Model}
use Rattle.ep_layout.specs.declared.extent.Extent.{Extent}
use Rattle.ep_layout.specs.declared.table.AggregateEntry.{AggregateEntry}
use Rattle.ep_layout.specs.declared.table.Types.TheInside.{Inside}
use Rattle.ep_layout.specs.declared.types.TableMark.{TableMark}
use Rattle.ep_layout.specs.declared.types.Ty.{Ty}
use Rattle.ep_layout.specs.Extents.{extent_of, kept_extent}
use Rattle.ep_layout.specs.Grown.{CameFrom, GrownFrom, changed_at, changed_at_each, reopened}
use Rattle.ep_layout.specs.Grown.GrownFrom.{itself, type_more, aggregate_more, members_more}
use Rattle.ep_layout.specs.Table.{AggregateRow, Grows, MemberRow, Table, at_aggregate, completed_with, declared}
use Rattle.ep_layout.specs.Table.{is_completed, laid_out, layout_of, layout_rules, with_type}
use Rattle.ep_layout.specs.TableInvariant.{IsKept, entry_extent, entry_view, table_of}
use Rattle.ep_layout.proofs.Basics.{grows-trans}
use Rattle.ep_layout.proofs.KeptGrowth.{kept_of_old, row_same}
use Rattle.ep_layout.proofs.Laid.{completed_is, grows_declared, grows_with_members, grows_with_type, with_members}
use Rattle.ep_layout.proofs.Options.{some_or_none}
use Rattle.ep_layout.proofs.Sizes.{length_set}

---- lists of which elements are changed

pub changed_set : {X : Type 0} (f : X → X) (xs : List X) (i : ℕ) (x : X) → slice_get xs i ≡ Some x
    → slice_set xs i (f x) ≡ changed_at f xs i
changed_set f [] i x h = refl
changed_set f (y ∷ ys) zero x h = let e : x ≡ y = cc in ap (λ (z : _). f z ∷ ys) e
changed_set f (y ∷ ys) (suc i) x h = ap (λ (l : List _). y ∷ l) (changed_set f ys i x h)

pub changed_past : {X : Type 0} (f : X → X) (xs : List X) (i : ℕ) → length xs ≤ i → changed_at f xs i ≡ xs
changed_past f [] i h = refl
changed_past f (y ∷ ys) zero h = absurd (omega (arith, h))
changed_past f (y ∷ ys) (suc i) h = ap (λ (l : List _). y ∷ l) (changed_past f ys i (omega (arith, h)))

pub changed_behind : {X : Type 0} (f : X → X) (xs : List X) (is : List ℕ) (i : ℕ)
    → changed_at_each f xs (is ++ i ∷ []) ≡ changed_at_each f (changed_at f xs i) is
changed_behind f xs [] i = refl
changed_behind f xs (j ∷ is) i = ap (λ (l : List _). changed_at f l j) (changed_behind f xs is i)

module _ {X Y : Type 0} (v : X → Y) (f : X → X) (g : Y → Y) (same : (x : X) → v (f x) ≡ g (v x)) where
  map_changed : (xs : List X) (i : ℕ) → map v (changed_at f xs i) ≡ changed_at g (map v xs) i
  map_changed [] i = refl
  map_changed (x ∷ xs) zero = ap (λ (y : Y). y ∷ map v xs) (same x)
  map_changed (x ∷ xs) (suc i) = ap (λ (l : List Y). v x ∷ l) (map_changed xs i)

  map_changed_each : (xs : List X) (is : List ℕ) → map v (changed_at_each f xs is) ≡ changed_at_each g (map v xs) is
  map_changed_each xs [] = refl
  map_changed_each xs (i ∷ is) =
      map_changed (changed_at_each f xs is) i ∙ ap (λ (l : List Y). changed_at g l i) (map_changed_each xs is)

take_changed : {X : Type 0} (f : X → X) (n : ℕ) (xs : List X) (i : ℕ)
    → take n (changed_at f xs i) ≡ changed_at f (take n xs) i
take_changed f zero xs i = refl
take_changed f (suc n) [] i = refl
take_changed f (suc n) (x ∷ xs) zero = refl
take_changed f (suc n) (x ∷ xs) (suc i) = ap (λ (l : List _). x ∷ l) (take_changed f n xs i)

take_changed_each : {X : Type 0} (f : X → X) (n : ℕ) (xs : List X) (is : List ℕ)
    → take n (changed_at_each f xs is) ≡ changed_at_each f (take n xs) is
take_changed_each f n xs [] = refl
take_changed_each f n xs (i ∷ is) =
    take_changed f n (changed_at_each f xs is) i ∙ ap (λ (l : List _). changed_at f l i) (take_changed_each f n xs is)

-- what stands there stood there before, or was changed
get_changed : {X : Type 0} (f : X → X) (xs : List X) (i n : ℕ) (y : X) → slice_get (changed_at f xs i) n ≡ Some y
    → (slice_get xs n ≡ Some y) ⊎ ((x : X) × (f x ≡ y))
get_changed f [] i n y h = inl h
get_changed f (x ∷ xs) zero zero y h = let e : f x ≡ y = cc in inr (x, e)
get_changed f (x ∷ xs) zero (suc n) y h = inl h
get_changed f (x ∷ xs) (suc i) zero y h = inl h
get_changed f (x ∷ xs) (suc i) (suc n) y h = get_changed f xs i n y h

get_changed_each : {X : Type 0} (f : X → X) (xs : List X) (is : List ℕ) (n : ℕ) (y : X)
    → slice_get (changed_at_each f xs is) n ≡ Some y → (slice_get xs n ≡ Some y) ⊎ ((x : X) × (f x ≡ y))
get_changed_each f xs [] n y h = inl h
get_changed_each f xs (i ∷ is) n y h = elim (get_changed f (changed_at_each f xs is) i n y h) [
  | inl old ↦ get_changed_each f xs is n y old
  | inr new ↦ inr new
]

get_taken : {X : Type 0} (n : ℕ) (xs : List X) (i : ℕ) (y : X) → slice_get (take n xs) i ≡ Some y
    → (i < n) × (slice_get xs i ≡ Some y)
get_taken zero xs i y h = absurd cc
get_taken (suc n) [] i y h = absurd cc
get_taken (suc n) (x ∷ xs) zero y h = (omega arith, h)
get_taken (suc n) (x ∷ xs) (suc i) y h = let r = get_taken n xs i y h in (omega (arith, r.0), r.1)

get_front_of : {X : Type 0} (n : ℕ) (xs : List X) (i : ℕ) (y : X) → i < n → slice_get xs i ≡ Some y
    → slice_get (take n xs) i ≡ Some y
get_front_of zero xs i y l h = absurd (omega (arith, l))
get_front_of (suc n) [] i y l h = absurd cc
get_front_of (suc n) (x ∷ xs) zero y l h = h
get_front_of (suc n) (x ∷ xs) (suc i) y l h = get_front_of n xs i y (omega (arith, l)) h

---- completions

no_members : (g : AggregateRow) → is_some g.members ≡ false → g.members ≡ None
no_members g h = none g.members h
  where
    none : (o : Option (List MemberRow)) → is_some o ≡ false → o ≡ None
    none None h = refl
    none (Some ms) h = absurd (true≢false h)

-- what holds of a table, and of it with members of an aggregate that had none, holds after a completion
by_completion : (P : Table → Type 0) (u : Table) (a : ℕ) (members : List (List ℕ × ℕ)) → is_completed u a ≡ false → P u
    → ((g : AggregateRow) → slice_get u.aggregates a ≡ Some g → g.members ≡ None
    → P (with_members u a g (laid_out u g.is_union members)))
    → P (completed_with u a members)
by_completion P u a members h same more = elim (some_or_none (slice_get u.aggregates a)) [
  | inl g ↦
      let open_row = ap (λ (o : Option AggregateRow). is_some (option_and_then (λ (r : AggregateRow). r.members) o)) (sym g.1) ∙ h in
      subst P (sym (completed_is u a g.0 members g.1)) (more g.0 g.1 (no_members g.0 open_row))
  | inr none ↦ let e : completed_with u a members ≡ u = rw none refl in subst P (sym e) same
]

---- growing

pub grown_grows : (t u : Table) → GrownFrom t u → Grows t u
grown_grows t u itself =
    record { model = refl; types = λ n ty h. h; aggregates = λ a g h. (g, h, refl, λ ms q. q); deeper = omega arith }
grown_grows t v (type_more u ty g) = grows-trans t u (with_type u ty) (grown_grows t u g) (grows_with_type u ty)
grown_grows t v (aggregate_more u tag is_union g) =
    grows-trans t u (declared u tag is_union) (grown_grows t u g) (grows_declared u tag is_union)
grown_grows t v (members_more u a members g open_one) =
    by_completion (Grows t) u a members open_one (grown_grows t u g) (λ r here none.
    grows-trans t u (with_members u a r (laid_out u r.is_union members)) (grown_grows t u g)
    (grows_with_members u a r (laid_out u r.is_union members) here none))

pub grown_on : (t u v : Table) → GrownFrom t u → GrownFrom u v → GrownFrom t v
grown_on t u v g itself = g
grown_on t u v g (type_more w ty h) = type_more w ty (grown_on t u w g h)
grown_on t u v g (aggregate_more w tag is_union h) = aggregate_more w tag is_union (grown_on t u w g h)
grown_on t u v g (members_more w a members h open_one) = members_more w a members (grown_on t u w g h) open_one

record IsLonger (t u : Table) : Type 0 where
  types : length t.types ≤ length u.types
  aggregates : length t.aggregates ≤ length u.aggregates
  completed : length t.completed ≤ length u.completed

longer : (t u : Table) → GrownFrom t u → IsLonger t u
longer t u itself = record { types = omega arith; aggregates = omega arith; completed = omega arith }
longer t v (type_more u ty g) =
    let l = longer t u g in
    record {
      types = omega (arith, l.types, length-append u.types (ty ∷ []));
      aggregates = l.aggregates;
      completed = l.completed;
    }
longer t v (aggregate_more u tag is_union g) =
    let l = longer t u g in
    record {
      types = l.types;
      aggregates = omega (arith, l.aggregates, length-append u.aggregates ((record { tag = tag; is_union = is_union; members = None }) ∷ []));
      completed = l.completed;
    }
longer t v (members_more u a members g open_one) =
    let l = longer t u g in
    by_completion (IsLonger t) u a members open_one l (λ r here none.
    record {
      types = l.types;
      aggregates = omega (arith, l.aggregates, length_set u.aggregates a (record r { members = Some (laid_out u r.is_union members) }));
      completed = omega (arith, l.completed, length-append u.completed (a ∷ []));
    })

---- going back

abbrev opened : AggregateRow → AggregateRow
opened g = record g { members = None }

opened_same : (g : AggregateRow) → g.members ≡ None → opened g ≡ g
opened_same g none = ap (λ (ms : Option (List MemberRow)). record g { members = ms }) (sym none)

undone : (gs : List AggregateRow) (a : ℕ) (g : AggregateRow) (ms : List MemberRow) → slice_get gs a ≡ Some g
    → g.members ≡ None → changed_at opened (slice_set gs a (record g { members = Some ms })) a ≡ gs
undone [] a g ms h none = absurd cc
undone (r ∷ gs) zero g ms h none =
    let e : g ≡ r = cc in ap (λ (x : AggregateRow). x ∷ gs) (opened_same g none ∙ e)
undone (r ∷ gs) (suc a) g ms h none = ap (λ (l : List AggregateRow). r ∷ l) (undone gs a g ms h none)

-- what is left of a table when what came to another one goes, is the other one
record IsBack (t u : Table) : Type 0 where
  model : u.model ≡ t.model
  types : take (length t.types) u.types ≡ t.types
  aggregates : take (length t.aggregates)
      (changed_at_each opened u.aggregates (drop (length t.completed) u.completed)) ≡ t.aggregates
  completed : take (length t.completed) u.completed ≡ t.completed

back_declared : (t u : Table) (r : AggregateRow) → IsLonger t u → IsBack t u
    → take (length t.aggregates) (changed_at_each opened (u.aggregates ++ r ∷ []) (drop (length t.completed) u.completed)) ≡ t.aggregates
back_declared t u r l b =
    let n = length t.aggregates in
    let cs = drop (length t.completed) u.completed in
    take_changed_each opened n (u.aggregates ++ r ∷ []) cs
    ∙ ap (λ (gs : List AggregateRow). changed_at_each opened gs cs) (take-append-le n u.aggregates (r ∷ []) l.aggregates)
    ∙ sym (take_changed_each opened n u.aggregates cs) ∙ b.aggregates

back_completed : (t u : Table) (a : ℕ) (g : AggregateRow) (ms : List MemberRow) → slice_get u.aggregates a ≡ Some g
    → g.members ≡ None → IsLonger t u → IsBack t u → IsBack t (with_members u a g ms)
back_completed t u a g ms here none l b =
    let n = length t.aggregates in
    let k = length t.completed in
    let gs = slice_set u.aggregates a (record g { members = Some ms }) in
    record {
      model = b.model;
      types = b.types;
      aggregates =
          ap (λ (cs : List ℕ). take n (changed_at_each opened gs cs)) (drop-append-le k u.completed (a ∷ []) l.completed)
          ∙ ap (take n) (changed_behind opened gs (drop k u.completed) a)
          ∙ ap (λ (rows : List AggregateRow). take n (changed_at_each opened rows (drop k u.completed))) (undone u.aggregates a g ms here none)
          ∙ b.aggregates;
      completed = take-append-le k u.completed (a ∷ []) l.completed ∙ b.completed;
    }

back : (t u : Table) → GrownFrom t u → IsBack t u
back t u itself = record {
  model = refl;
  types = take-length t.types;
  aggregates = ap (λ (cs : List ℕ). take (length t.aggregates) (changed_at_each opened t.aggregates cs)) (drop-length t.completed)
      ∙ take-length t.aggregates;
  completed = take-length t.completed;
}
back t v (type_more u ty g) =
    let b = back t u g in
    record {
      model = b.model;
      types = take-append-le (length t.types) u.types (ty ∷ []) (longer t u g).types ∙ b.types;
      aggregates = b.aggregates;
      completed = b.completed;
    }
back t v (aggregate_more u tag is_union g) =
    let b = back t u g in
    record {
      model = b.model;
      types = b.types;
      aggregates = back_declared t u (record { tag = tag; is_union = is_union; members = None }) (longer t u g) b;
      completed = b.completed;
    }
back t v (members_more u a members g open_one) =
    by_completion (IsBack t) u a members open_one (back t u g) (λ r here none.
    back_completed t u a r (laid_out u r.is_union members) here none (longer t u g) (back t u g))

-- the last of what is to be undone is undone
pub undone_last : {X : Type 0} (f : X → X) (n : ℕ) (gs hs : List X) (cs ds : List ℕ) (o : Option ℕ) (a : ℕ)
    → cs ≡ ds ++ option_to_list o → o ≡ Some a → n < length cs → hs ≡ changed_at f gs a
    → (changed_at_each f hs (drop n ds) ≡ changed_at_each f gs (drop n cs)) × (take n ds ≡ take n cs)
    × (length cs ≡ length ds + 1)
undone_last f n gs hs cs ds o a items is less now =
    let e : cs ≡ ds ++ a ∷ [] = items ∙ ap (λ (p : Option ℕ). ds ++ option_to_list p) is in
    let long : length cs ≡ length ds + 1 = omega (arith, ap length e, length-append ds (a ∷ [])) in
    let inside : n ≤ length ds = omega (arith, long, less) in (
      ap (λ (l : List _). changed_at_each f l (drop n ds)) now ∙ sym (changed_behind f gs (drop n ds) a)
          ∙ sym (ap (changed_at_each f gs) (ap (drop n) e ∙ drop-append-le n ds (a ∷ []) inside)),
      sym (ap (take n) e ∙ take-append-le n ds (a ∷ []) inside),
      long,
    )

pub never_none : {X : Type 0} (o : Option X) → IsSome o → o ≡ None → ⊥
never_none None some none = cc
never_none (Some x) some none = cc

---- what a table keeps beside it

rows_back : (gs : List AggregateEntry) (is : List ℕ) (n : ℕ)
    → map entry_view (take n (changed_at_each reopened gs is)) ≡ take n (changed_at_each opened (map entry_view gs) is)
rows_back gs is n = sym (take-map entry_view n (changed_at_each reopened gs is))
    ∙ ap (take n) (map_changed_each entry_view reopened opened (λ g. refl) gs is)

same_table : (t : Table) (m : Model) (ts : List Ty) (gs : List AggregateRow) (cs : List ℕ) → m ≡ t.model → ts ≡ t.types
    → gs ≡ t.aggregates → cs ≡ t.completed → record { model = m; types = ts; aggregates = gs; completed = cs } ≡ t
same_table t m ts gs cs p q r e = rw (p, q, r, e) refl

-- the parts of a table that has gone back to a mark
pub record AreBack (m : TableMark) (s : Inside) (ts : List Ty) (es : Vec (Option Extent)) (gs : Vec AggregateEntry)
    (cs : Vec ℕ) : Type 0 where
  pub types : ts ≡ take m.types s.types
  pub extents : es.items ≡ take m.types s.extents.items
  pub aggregates : gs.items ≡ take m.aggregates
      (changed_at_each reopened s.aggregates.items (drop m.completed s.completed.items))
  pub completed : cs.items ≡ take m.completed s.completed.items

module _ (m : TableMark) (s : Inside) (ts : List Ty) (es : Vec (Option Extent)) (gs : Vec AggregateEntry) (cs : Vec ℕ)
    (r : AreBack m s ts es gs cs) where
  pub table_back : (t : Table) → CameFrom m t (table_of s)
      → table_of (record s { types = ts; extents = es; aggregates = gs; completed = cs }) ≡ t
  table_back t from =
      let b = back t (table_of s) from.grown in
      let rows = map entry_view s.aggregates.items in
      same_table t s.model ts (map entry_view gs.items) cs.items b.model
      (r.types ∙ ap (λ (n : ℕ). take n s.types) from.mark.types ∙ b.types)
      (ap (map entry_view) r.aggregates ∙ rows_back s.aggregates.items (drop m.completed s.completed.items) m.aggregates
      ∙ ap (λ (n : ℕ). take n (changed_at_each opened rows (drop m.completed s.completed.items))) from.mark.aggregates
      ∙ ap (λ (n : ℕ). take (length t.aggregates) (changed_at_each opened rows (drop n s.completed.items))) from.mark.completed
      ∙ b.aggregates)
      (r.completed ∙ ap (λ (n : ℕ). take n s.completed.items) from.mark.completed ∙ b.completed)

  kept_here : IsKept s → CameFrom m (table_of (record s { types = ts; extents = es; aggregates = gs; completed = cs })) (table_of s)
      → IsKept (record s { types = ts; extents = es; aggregates = gs; completed = cs })
  kept_here k from =
      let t : Table = table_of (record s { types = ts; extents = es; aggregates = gs; completed = cs }) in
      let u : Table = table_of s in
      let grows : Grows t u = grown_grows t u from.grown in
      let l : IsLonger t u = longer t u from.grown in
      record {
        built = from.built;
        few_types = omega (arith, l.types, k.few_types);
        few_aggregates = omega (arith, l.aggregates, length-map gs.items entry_view, length-map s.aggregates.items entry_view, k.few_aggregates);
        count = ap length r.extents ∙ length-take-le m.types s.extents.items (omega (arith, k.count, from.mark.types, l.types)) ∙ from.mark.types;
        types = λ n ty h.
            let less = (get_taken m.types s.types n ty (ap (λ (l : List Ty). slice_get l n) (sym r.types) ∙ h)).0 in
            ap (λ (l : List (Option Extent)). slice_get l n) r.extents
            ∙ get_front_of m.types s.extents.items n (kept_extent u ty) less (k.types n ty (grows.types n ty h))
            ∙ ap Some (sym (kept_of_old t u grows from.built n ty h));
        aggregates = λ a g h.
            let changed = get_taken m.aggregates (changed_at_each reopened s.aggregates.items (drop m.completed s.completed.items)) a g (ap (λ (l : List AggregateEntry). slice_get l a) (sym r.aggregates) ∙ h) in
            elim (get_changed_each reopened s.aggregates.items (drop m.completed s.completed.items) a g changed.1) [
              | inl old ↦ k.aggregates a g old ∙ sym (ap (option_map extent_of) (row_same t u grows from.built a (entry_view g) (slice_get-map entry_view gs.items a ∙ ap (option_map entry_view) h)))
              | inr new ↦ subst (λ (d : AggregateEntry). entry_extent d ≡ option_map extent_of (at_aggregate (layout_rules s.model) (layout_of t) (entry_view d))) new.1 refl
            ];
      }

  pub kept_back : IsKept s → (t : Table) → CameFrom m t (table_of s)
      → IsKept (record s { types = ts; extents = es; aggregates = gs; completed = cs })
  kept_back k t from = kept_here k (subst (λ (w : Table). CameFrom m w (table_of s)) (sym (table_back t from)) from)
