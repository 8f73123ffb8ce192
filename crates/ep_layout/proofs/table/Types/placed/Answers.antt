use Rattle.std.proofs.Common.{◌≡◌, ◌∙◌, ◌++◌, ◌∷◌, [], List, ℕ, true, is_some, ap, sym, subst, append_assoc}
use Rattle.std.proofs.lemmas.Bool.{ltb-true}
use Rattle.std.proofs.Common.{Some, None, Option, option_map, true≢false, Bool, rules}
use Rattle.std.specs.Global.{Vec}
use Rattle.std.specs.List.{list_all}
use Rattle.std.specs.Vec.Iter.{into_iter_items}
use Rattle.std.proofs.lemmas.List.{map-append}
use Rattle.ep_layout.specs.declared.extent.Extent.{Extent}
use Rattle.ep_layout.specs.declared.table.bodies.Placing.{Placing}
use Rattle.ep_layout.specs.declared.types.LayoutStop.{LayoutStop}
use Rattle.ep_layout.specs.Layout.{Layout}
use Rattle.ep_layout.specs.Extents.{extent_of}
use Rattle.ep_layout.specs.Table.{stop_at_size, Table, is_type, layout_of, members_stop}
use Rattle.ep_layout.specs.Placed.{IsPlaced, next_end}
use Rattle.ep_layout.specs.Stops.{IsStop}
use Rattle.ep_layout.specs.Views.{named_view}
use Rattle.ep_layout.proofs.PlacingLemmas.{in_all, known_is, placed_step, stop_early, all_named}
use Rattle.ep_layout.proofs.table.Types.placed.Goals as goal

abbrev Item : Type 0
Item = Vec ℕ × ℕ

pub extent-requires : goal.extent-requires
extent-requires c =
    let whole : c.args.members.items ≡ c.loop-name.yielded ++ (c.in-Some.name, c.in-Some.ty) ∷ into_iter_items c.next.new.self = c.loop-name.invariant.2 ∙ ap (λ (l : List Item). c.loop-name.yielded ++ l) c.in-Some.ensures.steps.0 in
    let p = λ (m : Item). is_type c.args.self.now m.1 in
    let there = in_all p c.loop-name.yielded (c.in-Some.name, c.in-Some.ty) _ (subst (λ (l : List Item). list_all p l ≡ true) whole c.requires.types) in
    ltb-true c.in-Some.ty _ there

absent : (o : Option Layout) → None ≡ option_map extent_of o → is_some o ≡ true → ⊥
absent None e h = absurd (true≢false (sym h))
absent (Some l) e h = cc

pub returns-in-None-extent-clause-stop : goal.returns-in-None-extent-clause-stop
returns-in-None-extent-clause-stop c =
    let whole : c.args.members.items ≡ c.loop-name.yielded ++ (c.in-Some.name, c.in-Some.ty) ∷ into_iter_items c.next.new.self = c.loop-name.invariant.2 ∙ ap (λ (l : List Item). c.loop-name.yielded ++ l) c.in-Some.ensures.steps.0 in
    let p = λ (m : Item). is_some (layout_of c.args.self.now m.1) in
    let there = in_all p c.loop-name.yielded (c.in-Some.name, c.in-Some.ty) _ (subst (λ (l : List Item). list_all p l ≡ true) whole c.requires.sizes) in
    absurd (absent (layout_of c.args.self.now c.in-Some.ty) c.in-None-extent.ensures.value there)

split : (front : List Item) (item : Item) (rest : List Item) → named_view (front ++ item ∷ rest) ≡ (named_view front ++ (item.0.items, item.1) ∷ []) ++ named_view rest
split front item rest = map-append (λ (m : Item). (m.0.items, m.1)) front (item ∷ rest) ∙ sym (append_assoc (named_view front) ((item.0.items, item.1) ∷ []) (named_view rest))

pub loop-name-preserved : goal.loop-name-preserved
loop-name-preserved c =
    let t = c.args.self.now in
    let u = c.args.is_union in
    let item : Item = (c.in-Some.name, c.in-Some.ty) in
    let yielded : List Item = c.loop-name.yielded in
    let rest : List Item = into_iter_items c.next.new.self in
    let whole : c.args.members.items ≡ yielded ++ item ∷ rest = c.loop-name.invariant.2 ∙ ap (λ (l : List Item). yielded ++ l) c.in-Some.ensures.steps.0 in
    let x = c.in-Some-extent.extent in
    let put = c.in_ok-put-in-Some-extent.ensures in
    let placed = placed_step t u (named_view yielded) c.loop-name.placing c.put.new.self (c.in-Some.name.items, c.in-Some.ty) x c.loop-name.invariant.3 (known_is t c.in-Some.ty x c.in-Some-extent.ensures.value) c.in-Some-extent.ensures.within put.members put.end put.align put.fits in
    (tt, tt, whole ∙ sym (append_assoc yielded (item ∷ []) rest), subst (λ (l : List (List ℕ × ℕ)). IsPlaced t u l c.put.new.self) (sym (map-append (λ (m : Item). (m.0.items, m.1)) yielded (item ∷ []))) placed)

stop_there : (t : Table) (u : Bool) (all front : List Item) (item : Item) (rest : List Item) (p : Placing) (x : Extent) (e : LayoutStop) → all ≡ front ++ item ∷ rest → IsPlaced t u (named_view front) p
    → Some x ≡ option_map extent_of (layout_of t item.1) → list_all (λ (m : Item). is_some (layout_of t m.1)) all ≡ true → IsStop (stop_at_size (next_end u p.end x)) e → IsStop (members_stop t u (named_view all)) e
stop_there t u all front item rest p x e whole placed has sized stop =
    let names : named_view all ≡ (named_view front ++ (item.0.items, item.1) ∷ []) ++ named_view rest = ap named_view whole ∙ split front item rest in
    let named : list_all (λ n. is_some (layout_of t n.1)) ((named_view front ++ (item.0.items, item.1) ∷ []) ++ named_view rest) ≡ true = ap (list_all (λ n. is_some (layout_of t n.1))) (sym names) ∙ all_named (λ n. is_some (layout_of t n)) all ∙ sized in
    subst (λ (l : List (List ℕ × ℕ)). IsStop (members_stop t u l) e) (sym names) (stop_early t u (named_view front) (named_view rest) p (item.0.items, item.1) x e placed (known_is t item.1 x has) named stop)

pub returns-in_err-put-in-Some-extent-clause-stop : goal.returns-in_err-put-in-Some-extent-clause-stop
returns-in_err-put-in-Some-extent-clause-stop c =
    let t = c.args.self.now in
    let item : Item = (c.in-Some.name, c.in-Some.ty) in
    let yielded : List Item = c.loop-name.yielded in
    let rest : List Item = into_iter_items c.next.new.self in
    let whole : c.args.members.items ≡ yielded ++ item ∷ rest = c.loop-name.invariant.2 ∙ ap (λ (l : List Item). yielded ++ l) c.in-Some.ensures.steps.0 in
    let stop = stop_there t c.args.is_union c.args.members.items yielded item rest c.loop-name.placing c.in-Some-extent.extent _ whole c.loop-name.invariant.3 c.in-Some-extent.ensures.value c.requires.sizes c.in_err-put-in-Some-extent.ensures.stop in
    search (rules, stop)
