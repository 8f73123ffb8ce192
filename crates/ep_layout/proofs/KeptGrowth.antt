-- What is kept beside the types stays right when the table grows.
use Rattle.std.proofs.Common.{◌≡◌, ℕ, zero, suc, ◌<◌, ◌^◌, Bool, false, List, [], ◌∷◌, ◌++◌, length, map, slice_get}
use Rattle.ep_layout.proofs.Sizes.{length_set}
use Rattle.std.proofs.Common.{slice_set, Option, Some, None, option_map, option_and_then, is_some, unwrap_or}
use Rattle.std.proofs.Common.{true≢false, refl, sym, ◌∙◌, ap, subst, inl, inr, arith, length-append, IsTrue}
use Rattle.std.specs.Global.{Vec}
use Rattle.std.specs.List.{list_all}
use Rattle.std.proofs.lemmas.Option.{slice_get-map}
use Rattle.std.proofs.lemmas.List.{map-append}
use Rattle.ep_int.specs.declared.types.Model.{Model}
use Rattle.ep_int.specs.declared.types.Scalar.TheVariants.{Int as Number, Pointer}
use Rattle.ep_layout.specs.declared.extent.Extent.{Extent}
use Rattle.ep_layout.specs.declared.table.Body.{Body}
use Rattle.ep_layout.specs.declared.table.AggregateEntry.{AggregateEntry}
use Rattle.ep_layout.specs.declared.table.Types.TheInside.{Inside}
use Rattle.ep_layout.specs.declared.types.Ty.{Ty}
use Rattle.ep_layout.specs.declared.types.Ty.TheVariants.{Void, Int, Ptr, Array, Aggregate}
use Rattle.ep_layout.specs.Layout.{Layout, scalar_layout, array_layout}
use Rattle.ep_layout.specs.Table.{Table, AggregateRow, MemberRow, IsBuilt, Grows, at_aggregate, at_whole}
use Rattle.ep_layout.specs.Table.{layout_rules, layout_of, layout_with, names_known, number_of, type_stop}
use Rattle.ep_layout.specs.Table.{members_stop, with_type, declared, completed_with, laid_out, is_type, is_completed}
use Rattle.ep_layout.specs.Table.{is_union}
use Rattle.ep_layout.specs.Table.IsBuilt.{type_more, aggregate_more, members_more}
use Rattle.ep_layout.specs.Extents.{extent_of, kept_extent}
use Rattle.ep_layout.specs.TableInvariant.{IsKept, table_of, entry_view, entry_extent}
use Rattle.ep_layout.proofs.Options.{some_or_none, get_push, get_front, get_last, get_set}
use Rattle.ep_layout.proofs.Recursion.{types_of, at_aggregate_at, at_aggregate_more, at_whole_more}
use Rattle.ep_layout.proofs.Laid.{laid, whole_at, new_elements, grows_with_type, grows_declared, grows_with_members}
use Rattle.ep_layout.proofs.Laid.{with_members, completed_is, types_of_laid_out}
use Rattle.ep_layout.proofs.Sizes.{layout_grows, element_laid, layout_there}

---- in a table that grows

-- what is kept of a type whose elements have a layout
kept_same : (t u : Table) → Grows t u → (ty : Ty) → ((e c : ℕ) → ty ≡ Array e c → (l : Layout) × (layout_of t e ≡ Some l)) → kept_extent t ty ≡ kept_extent u ty
kept_same t u grows Void f = refl
kept_same t u grows (Int i) f = ap (λ (m : Model). Some (extent_of (scalar_layout m (Number i)))) (sym grows.model)
kept_same t u grows (Ptr e) f = ap (λ (m : Model). Some (extent_of (scalar_layout m Pointer))) (sym grows.model)
kept_same t u grows (Array e c) f =
    let l = f e c refl in
    ap (λ (o : Option Layout). option_map extent_of (option_map (array_layout c) o)) (l.1 ∙ sym (layout_grows t u grows e l.0 l.1))
kept_same t u grows (Aggregate a) f = refl

pub kept_of_old : (t u : Table) → Grows t u → IsBuilt t → (n : ℕ) (ty : Ty) → slice_get t.types n ≡ Some ty → kept_extent t ty ≡ kept_extent u ty
kept_of_old t u grows b n ty h = kept_same t u grows ty (λ e c same. element_laid t b n e c (h ∙ ap Some same))

pub row_same : (t u : Table) → Grows t u → IsBuilt t → (a : ℕ) (row : AggregateRow) → slice_get t.aggregates a ≡ Some row → at_aggregate (layout_rules t.model) (layout_of t) row ≡ at_aggregate (layout_rules t.model) (layout_of u) row
row_same t u grows b a row h = elim (some_or_none row.members) [
  | inl m ↦
      let xs = (laid (layout_rules t.model) t b).members a row m.0 h m.1 in
      let y = whole_at (layout_rules t.model) (layout_of t) row.is_union (types_of m.0) xs.0 xs.1 in
      let here = at_aggregate_at (layout_rules t.model) (layout_of t) row m.0 _ m.1 y in
      here ∙ sym (at_aggregate_more (layout_rules t.model) (layout_of t) (layout_of u) (layout_grows t u grows) row _ here)
  | inr none ↦ rw none refl
]

---- one type more

type_kept : (s : Inside) (es : Vec (Option Extent)) (ty : Ty) → IsKept s → IsTrue (names_known (table_of s) ty) → number_of (table_of s) ty ≡ None → type_stop (table_of s) ty ≡ None → length s.types < 2 ^ 31
    → es.items ≡ s.extents.items ++ kept_extent (table_of s) ty ∷ [] → IsKept (record s { types = s.types ++ ty ∷ []; extents = es })
type_kept s es ty k here new fits few e =
    let t : Table = table_of s in
    let u : Table = with_type t ty in
    let grows : Grows t u = grows_with_type t ty in
    record {
      built = type_more t ty k.built here new fits;
      few_types = omega (arith, length-append s.types (ty ∷ []));
      few_aggregates = k.few_aggregates;
      count = counted (k.count);
      types = λ n v h. elim (get_push s.types ty v n h) [
        | inl old ↦ old_kept n v old
        | inr last ↦ new_kept n v last.0 last.1
      ];
      aggregates = λ a g h. k.aggregates a g h ∙ ap (option_map extent_of) (row_same t u grows k.built a (entry_view g) (slice_get-map entry_view s.aggregates.items a ∙ ap (option_map entry_view) h));
    }
  where
    counted : length s.extents.items ≡ length s.types → length es.items ≡ length (s.types ++ ty ∷ [])
    counted c = omega (arith, ap length e, length-append s.extents.items (kept_extent (table_of s) ty ∷ []), length-append s.types (ty ∷ []))

    old_kept : (n : ℕ) (v : Ty) → slice_get s.types n ≡ Some v → slice_get es.items n ≡ Some (kept_extent (with_type (table_of s) ty) v)
    old_kept n v h =
        let p = get_front s.extents.items (kept_extent (table_of s) ty) _ n (k.types n v h) in
        rw e (p ∙ ap Some (kept_of_old (table_of s) (with_type (table_of s) ty) (grows_with_type (table_of s) ty) k.built n v h))

    elements : (d c : ℕ) → ty ≡ Array d c → (l : Layout) × (layout_of (table_of s) d ≡ Some l)
    elements d c same = new_elements (layout_rules s.model) (table_of s) d c (subst (λ (v : Ty). type_stop (table_of s) v ≡ None) same fits)

    new_kept : (n : ℕ) (v : Ty) → n ≡ length s.types → ty ≡ v → slice_get es.items n ≡ Some (kept_extent (with_type (table_of s) ty) v)
    new_kept n v at same =
        let p = get_last s.extents.items (kept_extent (table_of s) ty) in
        let q : length s.extents.items ≡ n = k.count ∙ sym at in
        let r = subst (λ (j : ℕ). slice_get (s.extents.items ++ kept_extent (table_of s) ty ∷ []) j ≡ Some (kept_extent (table_of s) ty)) q p in
        let z = kept_same (table_of s) (with_type (table_of s) ty) (grows_with_type (table_of s) ty) ty elements in
        rw e (r ∙ ap Some (z ∙ ap (kept_extent (with_type (table_of s) ty)) same))

pub kept_with_type : (s : Inside) (ts : List Ty) (es : Vec (Option Extent)) (ty : Ty) → IsKept s → IsTrue (names_known (table_of s) ty) → number_of (table_of s) ty ≡ None → type_stop (table_of s) ty ≡ None → length s.types < 2 ^ 31
    → ts ≡ s.types ++ ty ∷ [] → es.items ≡ s.extents.items ++ kept_extent (table_of s) ty ∷ [] → IsKept (record s { types = ts; extents = es })
kept_with_type s ts es ty k here new fits few p e = subst (λ (l : List Ty). IsKept (record s { types = l; extents = es })) (sym p) (type_kept s es ty k here new fits few e)

---- one aggregate more

pub kept_declared : (s : Inside) (ag : Vec AggregateEntry) (tag : Vec ℕ) (u : Bool) → IsKept s → length s.aggregates.items < 2 ^ 31
    → ag.items ≡ s.aggregates.items ++ (record { tag = tag; is_union = u; body = None }) ∷ [] → IsKept (record s { aggregates = ag })
kept_declared s ag tag u k few e =
    let t : Table = table_of s in
    let v : Table = declared t tag.items u in
    let same : v ≡ table_of (record s { aggregates = ag }) = ap (λ (rows : List AggregateRow). record t { aggregates = rows }) (sym (map-append entry_view s.aggregates.items ((record { tag = tag; is_union = u; body = None }) ∷ [])) ∙ ap (map entry_view) (sym e)) in
    record {
      built = subst IsBuilt same (aggregate_more t tag.items u k.built);
      few_types = k.few_types;
      few_aggregates = omega (arith, ap length e, length-append s.aggregates.items ((record { tag = tag; is_union = u; body = None }) ∷ []));
      count = k.count;
      types = λ n ty h. k.types n ty h ∙ ap Some (kept_of_old t v (grows_declared t tag.items u) k.built n ty h ∙ ap (λ (w : Table). kept_extent w ty) same);
      aggregates = λ a g h. elim (get_push s.aggregates.items (record { tag = tag; is_union = u; body = None }) g a (subst (λ (l : List AggregateEntry). slice_get l a ≡ Some g) e h)) [
        | inl old ↦ k.aggregates a g old ∙ ap (option_map extent_of) (row_same t v (grows_declared t tag.items u) k.built a (entry_view g) (slice_get-map entry_view s.aggregates.items a ∙ ap (option_map entry_view) old) ∙ ap (λ (w : Table). at_aggregate (layout_rules s.model) (layout_of w) (entry_view g)) same)
        | inr last ↦ subst (λ (f : AggregateEntry). entry_extent f ≡ option_map extent_of (at_aggregate (layout_rules s.model) (layout_of (table_of (record s { aggregates = ag }))) (entry_view f))) last.1 refl
      ];
    }

---- one aggregate completed

map_set : {X Y : Type 0} (f : X → Y) (xs : List X) (i : ℕ) (x : X) → map f (slice_set xs i x) ≡ slice_set (map f xs) i (f x)
map_set f [] i x = refl
map_set f (y ∷ ys) zero x = refl
map_set f (y ∷ ys) (suc i) x = ap (λ (l : List _). f y ∷ l) (map_set f ys i x)

-- the extent that is kept with members is that of an aggregate of these types
body_extent : (t u : Table) → Grows t u → (is_union : Bool) (members : List (List ℕ × ℕ)) (x : Extent) (row : AggregateRow) → members_stop t is_union members ≡ None
    → option_map extent_of (layout_with t is_union members) ≡ Some x → row.is_union ≡ is_union → row.members ≡ Some (laid_out t is_union members)
    → Some x ≡ option_map extent_of (at_aggregate (layout_rules t.model) (layout_of u) row)
body_extent t u grows is_union members x row fits e same has =
    let l = layout_there t is_union members fits in
    let before : at_whole (layout_rules t.model) (layout_of t) is_union (types_of (laid_out t is_union members)) ≡ Some l.0 = rw (types_of_laid_out t is_union members) l.1 in
    let after = at_whole_more (layout_rules t.model) (layout_of t) (layout_of u) (layout_grows t u grows) is_union (types_of (laid_out t is_union members)) l.0 before in
    let whole = subst (λ (b : Bool). at_whole (layout_rules t.model) (layout_of u) b (types_of (laid_out t is_union members)) ≡ Some l.0) (sym same) after in
    sym e ∙ ap (option_map extent_of) (l.1 ∙ sym (at_aggregate_at (layout_rules t.model) (layout_of u) row (laid_out t is_union members) l.0 has whole))

pub kept_completed : (s : Inside) (ag : Vec AggregateEntry) (cs : Vec ℕ) (a : ℕ) (g : AggregateEntry) (b : Body) (members : List (List ℕ × ℕ)) → IsKept s
    → slice_get s.aggregates.items a ≡ Some g → g.body ≡ None → IsTrue (list_all (λ m. is_type (table_of s) m.1) members) → members_stop (table_of s) g.is_union members ≡ None
    → b.members ≡ laid_out (table_of s) g.is_union members → option_map extent_of (layout_with (table_of s) g.is_union members) ≡ Some b.extent
    → ag.items ≡ slice_set s.aggregates.items a (record g { body = Some b }) → cs.items ≡ s.completed.items ++ a ∷ []
    → (IsKept (record s { aggregates = ag; completed = cs })) × (table_of (record s { aggregates = ag; completed = cs }) ≡ completed_with (table_of s) a members)
kept_completed s ag cs a g b members k here none_yet there fits rows x e c =
    let t : Table = table_of s in
    let ms : List MemberRow = laid_out t g.is_union members in
    let row : slice_get t.aggregates a ≡ Some (entry_view g) = slice_get-map entry_view s.aggregates.items a ∙ ap (option_map entry_view) here in
    let no_members : (entry_view g).members ≡ None = ap (option_map (λ (d : Body). d.members)) none_yet in
    let v : Table = with_members t a (entry_view g) ms in
    let grows : Grows t v = grows_with_members t a (entry_view g) ms row no_members in
    let whole : completed_with t a members ≡ v = completed_is t a (entry_view g) members row in
    let new_rows : map entry_view ag.items ≡ v.aggregates = ap (map entry_view) e ∙ map_set entry_view s.aggregates.items a (record g { body = Some b }) ∙ ap (λ (l : List MemberRow). slice_set t.aggregates a (record { tag = g.tag.items; is_union = g.is_union; members = Some l })) rows in
    let same : v ≡ table_of (record s { aggregates = ag; completed = cs }) = sym (ap (λ (l : List AggregateRow). record t { aggregates = l; completed = cs.items }) new_rows ∙ ap (λ (l : List ℕ). record t { aggregates = v.aggregates; completed = l }) c) in (
      record {
        built = subst IsBuilt (whole ∙ same) (members_more t a (entry_view g) members k.built row no_members there fits);
        few_types = k.few_types;
        few_aggregates = omega (arith, k.few_aggregates, ap length e, length_set s.aggregates.items a (record g { body = Some b }));
        count = k.count;
        types = λ n ty h. k.types n ty h ∙ ap Some (kept_of_old t v grows k.built n ty h ∙ ap (λ (w : Table). kept_extent w ty) same);
        aggregates = λ i f h. elim (get_set s.aggregates.items a i (record g { body = Some b }) f (subst (λ (l : List AggregateEntry). slice_get l i ≡ Some f) e h)) [
          | inl p ↦ subst (λ (d : AggregateEntry). entry_extent d ≡ option_map extent_of (at_aggregate (layout_rules s.model) (layout_of (table_of (record s { aggregates = ag; completed = cs }))) (entry_view d))) p.1
              (body_extent t v grows g.is_union members b.extent (entry_view (record g { body = Some b })) fits x refl (ap Some rows) ∙ ap (λ (w : Table). option_map extent_of (at_aggregate (layout_rules s.model) (layout_of w) (entry_view (record g { body = Some b })))) same)
          | inr old ↦ k.aggregates i f old ∙ ap (option_map extent_of) (row_same t v grows k.built i (entry_view f) (slice_get-map entry_view s.aggregates.items i ∙ ap (option_map entry_view) old) ∙ ap (λ (w : Table). at_aggregate (layout_rules s.model) (layout_of w) (entry_view f)) same)
        ];
      },
      sym same ∙ sym whole,
    )

pub kept_same_completed : (s : Inside) (cs : Vec ℕ) → IsKept s → cs.items ≡ s.completed.items → IsKept (record s { completed = cs })
kept_same_completed s cs k e =
    let t : Table = table_of s in
    let same : t ≡ table_of (record s { completed = cs }) = ap (λ (l : List ℕ). record t { completed = l }) (sym e) in
    record {
      built = subst IsBuilt same k.built;
      few_types = k.few_types;
      few_aggregates = k.few_aggregates;
      count = k.count;
      types = λ n ty h. k.types n ty h ∙ ap (λ (w : Table). Some (kept_extent w ty)) same;
      aggregates = λ a g h. k.aggregates a g h ∙ ap (λ (w : Table). option_map extent_of (at_aggregate (layout_rules s.model) (layout_of w) (entry_view g))) same;
    }

no_body : (o : Option Body) → is_some (option_map (λ (b : Body). b.members) o) ≡ false → o ≡ None
no_body None h = refl
no_body (Some b) h = absurd (true≢false h)

-- the same, of the table that a caller sees
abbrev Completes : (s : Inside) (ag : Vec AggregateEntry) (cs : Vec ℕ) (a : ℕ) (g : AggregateEntry) (b : Body) (members : List (List ℕ × ℕ)) (u : Bool) → Table → Type 0
Completes s ag cs a g b members u now =
    is_completed now a ≡ false → IsTrue (list_all (λ m. is_type now m.1) members) → u ≡ is_union now a → members_stop now u members ≡ None
    → b.members ≡ laid_out now u members → option_map extent_of (layout_with now u members) ≡ Some b.extent
    → (IsKept (record s { aggregates = ag; completed = cs })) × (table_of (record s { aggregates = ag; completed = cs }) ≡ completed_with now a members)

completes : (s : Inside) (ag : Vec AggregateEntry) (cs : Vec ℕ) (a : ℕ) (g : AggregateEntry) (b : Body) (members : List (List ℕ × ℕ)) (u : Bool) → IsKept s → slice_get s.aggregates.items a ≡ Some g
    → ag.items ≡ slice_set s.aggregates.items a (record g { body = Some b }) → cs.items ≡ s.completed.items ++ a ∷ [] → Completes s ag cs a g b members u (table_of s)
completes s ag cs a g b members u k here e c none_yet there same fits rows x =
    let row : slice_get (map entry_view s.aggregates.items) a ≡ Some (entry_view g) = slice_get-map entry_view s.aggregates.items a ∙ ap (option_map entry_view) here in
    let is_g : u ≡ g.is_union = same ∙ ap (λ (o : Option AggregateRow). unwrap_or (option_map (λ (r : AggregateRow). r.is_union) o) false) row in
    let no : is_some ((entry_view g).members) ≡ false = ap (λ (o : Option AggregateRow). is_some (option_and_then (λ (r : AggregateRow). r.members) o)) (sym row) ∙ none_yet in
    kept_completed s ag cs a g b members k here (no_body g.body no) there
    (subst (λ (v : Bool). members_stop (table_of s) v members ≡ None) is_g fits)
    (subst (λ (v : Bool). b.members ≡ laid_out (table_of s) v members) is_g rows)
    (subst (λ (v : Bool). option_map extent_of (layout_with (table_of s) v members) ≡ Some b.extent) is_g x) e c

pub completes_now : (s : Inside) (ag : Vec AggregateEntry) (cs : Vec ℕ) (a : ℕ) (g : AggregateEntry) (b : Body) (members : List (List ℕ × ℕ)) (u : Bool) (now : Table) → table_of s ≡ now → IsKept s → slice_get s.aggregates.items a ≡ Some g
    → ag.items ≡ slice_set s.aggregates.items a (record g { body = Some b }) → cs.items ≡ s.completed.items ++ a ∷ [] → Completes s ag cs a g b members u now
completes_now s ag cs a g b members u now view k here e c = subst (Completes s ag cs a g b members u) view (completes s ag cs a g b members u k here e c)
