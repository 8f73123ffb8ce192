-- The last row of a list goes: the chains that are left are those of the shorter list.
use Rattle.std.proofs.Common.{◌≡◌, ℕ, zero, suc, ◌+◌, ◌-◌, ◌<◌, ◌≤◌, Bool, true, false, List, [], ◌∷◌, ◌++◌, length}
use Rattle.std.proofs.Common.{slice_get, slice_set, get_or, take, position, Option, Some, None, refl, sym, ap, ◌∙◌, subst}
use Rattle.std.proofs.Common.{inl, inr, ◌⊎◌, arith, length-append}
use Rattle.std.specs.Global.{Vec}
use Rattle.std.proofs.lemmas.Option.{slice_get_within}
use Rattle.std.proofs.lemmas.List.{length-take-le, take-map}
use Rattle.ep_layout.specs.declared.list.ChainPlace.{ChainPlace}
use Rattle.ep_layout.specs.declared.list.TypeList.TheInside.{Inside}
use Rattle.ep_layout.specs.declared.types.Ty.{Ty}
use Rattle.ep_layout.specs.declared.types.Ty.TheVariants.{Void, Ptr}
use Rattle.ep_layout.specs.SameTypes.{is_same_type, same_types}
use Rattle.ep_layout.specs.Pointers.{next_pointer, ArePointersBack}
use Rattle.ep_layout.specs.Chains.{AreChains, HasChains, lists}
use Rattle.ep_layout.proofs.Options.{some_or_none, same_some, get_push, get_front, get_last, get_set, get_set_same, get_set_other}
use Rattle.ep_layout.proofs.Positions.{position_is, position_some, position_stays, position_fails, position_push}
use Rattle.ep_layout.proofs.Sizes.{length_set}
use Rattle.ep_layout.proofs.Chains.{get_none, get_some, row_below, same_or_other}
use Rattle.ep_layout.proofs.ChainLists.{moved, place_at, chain_below, chain_at, set_lists}

---- the front of a list

get_taken : {X : Type 0} (n : ℕ) (xs : List X) (i : ℕ) (x : X) → slice_get (take n xs) i ≡ Some x → (slice_get xs i ≡ Some x) × (i < n)
get_taken zero xs i x h = absurd cc
get_taken (suc n) [] i x h = absurd cc
get_taken (suc n) (y ∷ ys) zero x h = (h, omega arith)
get_taken (suc n) (y ∷ ys) (suc i) x h = let r = get_taken n ys i x h in (r.0, omega (arith, r.1))

get_take : {X : Type 0} (n : ℕ) (xs : List X) (i : ℕ) (x : X) → slice_get xs i ≡ Some x → i < n → slice_get (take n xs) i ≡ Some x
get_take zero xs i x h l = absurd (omega (arith, l))
get_take (suc n) [] i x h l = absurd cc
get_take (suc n) (y ∷ ys) zero x h l = h
get_take (suc n) (y ∷ ys) (suc i) x h l = get_take n ys i x h (omega (arith, l))

-- a list is all but its last element, and that
front_and_last : {X : Type 0} (n : ℕ) (xs : List X) (x : X) → length xs ≡ n + 1 → slice_get xs n ≡ Some x → take n xs ++ x ∷ [] ≡ xs
front_and_last n [] x l h = absurd (omega (arith, l))
front_and_last {X = X} zero (y ∷ []) x l h = let e : y ≡ x = cc in ap (λ (z : X). z ∷ []) (sym e)
front_and_last zero (y ∷ z ∷ zs) x l h = absurd (omega (arith, l))
front_and_last {X = X} (suc n) (y ∷ ys) x l h = ap (λ (zs : List X). y ∷ zs) (front_and_last n ys x (omega (arith, l)) h)

below_or_at : (m n : ℕ) → m < n + 1 → (m ≡ n) ⊎ (m < n)
below_or_at zero zero l = inl refl
below_or_at zero (suc n) l = inr (omega arith)
below_or_at (suc m) zero l = absurd (omega (arith, l))
below_or_at (suc m) (suc n) l = elim (below_or_at m n (omega (arith, l))) [ inl e ↦ inl (ap suc e) | inr g ↦ inr (omega (arith, g)) ]

-- where pointers point back none points to the last row or beyond
points_back : (ts : List Ty) → ArePointersBack ts → (k : ℕ) → length ts ≤ suc k → next_pointer ts k ≡ None
points_back ts back k l = elim (some_or_none (next_pointer ts k)) [
  | inl m ↦
      let s = position_some (is_same_type (Ptr k)) ts m.0 Void m.1 in
      let b = back m.0 k (s.1 ∙ ap Some (sym (same_types (Ptr k) s.0 s.2))) in
      absurd (omega (arith, b, l, slice_get_within ts m.0 s.0 s.1))
  | inr none ↦ none
]

---- what is read without the row that goes

record IsWithout (n : ℕ) (before after : Option ℕ) : Type 0 where
  kept : (m : ℕ) → before ≡ Some m → m < n → after ≡ Some m
  was : (m : ℕ) → after ≡ Some m → (before ≡ Some m) × (m < n)

same_without : (n : ℕ) (o p q : Option ℕ) → IsWithout n o p → IsWithout n o q → p ≡ q
same_without n o p q f g = elim (some_or_none p) [
  | inl a ↦ let w = f.was a.0 a.1 in a.1 ∙ sym (g.kept a.0 w.0 w.1)
  | inr none ↦ elim (some_or_none q) [
    | inl b ↦
        let w = g.was b.0 b.1 in
        let e : ◌≡◌ {A = Option ℕ} None (Some b.0) = sym none ∙ f.kept b.0 w.0 w.1 in
        absurd cc
    | inr other ↦ none ∙ sym other
  ]
]

new_last : (f : Ty → Bool) (us : List Ty) (ty : Ty) (m : ℕ) (b : Bool) → f ty ≡ b → position f us ≡ None → position f (us ++ ty ∷ []) ≡ Some m
    → m ≡ length us
new_last f us ty m true e none h = sym (same_some (length us) m (position f (us ++ ty ∷ [])) (position_push f us ty none e) h)
new_last f us ty m false e none h =
    let g : ◌≡◌ {A = Option ℕ} None (Some m) = sym (position_fails f us ty none e) ∙ h in
    absurd cc

next_without : (us : List Ty) (ty : Ty) (k : ℕ) → IsWithout (length us) (next_pointer (us ++ ty ∷ []) k) (next_pointer us k)
next_without us ty k = record {
  kept = λ m h l. elim (some_or_none (next_pointer us k)) [
    | inl a ↦
        let stays = position_stays (is_same_type (Ptr k)) us ty a.0 a.1 in
        a.1 ∙ ap Some (same_some a.0 m (next_pointer (us ++ ty ∷ []) k) stays h)
    | inr none ↦
        let e = new_last (is_same_type (Ptr k)) us ty m (is_same_type (Ptr k) ty) refl none h in
        absurd (omega (arith, e, l))
  ];
  was = λ m h. (position_stays (is_same_type (Ptr k)) us ty m h, (position_is (is_same_type (Ptr k)) us m h).1);
}

---- the chains that are left

-- a later chain begins with a later row
begins_from : (ts : List Ty) (ps : List ChainPlace) (cs : List (List ℕ)) → AreChains ts ps cs → (i n : ℕ) (c : List ℕ)
    → slice_get cs i ≡ Some c → slice_get c 0 ≡ Some n → i ≤ n
begins_from ts ps cs x zero n c h k = omega arith
begins_from ts ps cs x (suc i) n c h k =
    let b = get_some cs i (omega (arith, slice_get_within cs (suc i) c h)) in
    let f = get_some b.0 0 (x.begun i b.0 b.1) in
    let r = begins_from ts ps cs x i f.0 b.0 b.1 f.1 in
    let o = x.ordered i (suc i) f.0 n b.0 c b.1 h f.1 k (omega arith) in
    omega (arith, r, o)

-- chains of which only the row n went
record IsCut (n : ℕ) (cs ds : List (List ℕ)) : Type 0 where
  few : length ds ≤ n
  was : (i : ℕ) (d : List ℕ) → slice_get ds i ≡ Some d
      → (c : List ℕ) × (slice_get cs i ≡ Some c) × (0 < length d) × ((k : ℕ) → IsWithout n (slice_get c k) (slice_get d k))
  stays : (i j m : ℕ) (c : List ℕ) → slice_get cs i ≡ Some c → slice_get c j ≡ Some m → m < n
      → (d : List ℕ) × (slice_get ds i ≡ Some d) × ((k : ℕ) → IsWithout n (slice_get c k) (slice_get d k))

module _ (us : List Ty) (ty : Ty) (qs : List ChainPlace) (p : ChainPlace) (cs : List (List ℕ))
    (x : AreChains (us ++ ty ∷ []) (qs ++ p ∷ []) cs) (back : ArePointersBack (us ++ ty ∷ [])) where
  longer : length (us ++ ty ∷ []) ≡ length us + 1
  longer = length-append us (ty ∷ [])

  same_length : length qs ≡ length us
  same_length = omega (arith, x.count, longer, length-append qs (p ∷ []))

  cut_chains : (ds : List (List ℕ)) → IsCut (length us) cs ds → AreChains us qs ds
  cut_chains ds cut = record {
    count = same_length;
    few = cut.few;
    placed = λ k q h.
        let a = x.placed k q (get_front qs p q k h) in
        let less : k < length us = omega (arith, slice_get_within qs k q h, same_length) in
        let e = cut.stays q.chain q.depth k a.chain a.there a.here less in
        record {
          chain = e.0;
          low = a.low;
          there = e.1;
          here = (e.2 q.depth).kept k a.here less;
          next = same_without (length us) (next_pointer (us ++ ty ∷ []) k) (next_pointer us k) (slice_get e.0 (suc q.depth))
              (next_without us ty k) (subst (λ (o : Option ℕ). IsWithout (length us) o (slice_get e.0 (suc q.depth))) (sym a.next) (e.2 (suc q.depth)));
        };
    rows = λ i d k c h g.
        let w = cut.was i c h in
        let v = (w.3 d).was k g in
        elim (get_push qs p (record { chain = i; depth = d }) k (x.rows i d k w.0 w.1 v.0)) [
          | inl old ↦ old
          | inr e ↦ absurd (omega (arith, e.0, v.1, same_length))
        ];
    first = λ i k c h g e at.
        let w = cut.was i c h in
        x.first i k w.0 w.1 ((w.3 0).was k g).0 e (get_front us ty (Ptr e) k at);
    begun = λ i c h. (cut.was i c h).2;
    ordered = λ i j m n c d h g k l less.
        let v = cut.was i c h in
        let w = cut.was j d g in
        x.ordered i j m n v.0 w.0 v.1 w.1 ((v.3 0).was m k).0 ((w.3 0).was n l).0 less;
    beyond = λ k l. points_back us (λ n e h. back n e (get_front us ty (Ptr e) n h)) k (omega (arith, l));
  }

  at : slice_get (qs ++ p ∷ []) (length us) ≡ Some p
  at = subst (λ (k : ℕ). slice_get (qs ++ p ∷ []) k ≡ Some p) same_length (get_last qs p)

  abbrev last_chain : List ℕ
  last_chain = (x.placed (length us) p at).chain

  there : slice_get cs p.chain ≡ Some last_chain
  there = (x.placed (length us) p at).there

  here : slice_get last_chain p.depth ≡ Some (length us)
  here = (x.placed (length us) p at).here

  -- nothing stands behind the last row
  chain_length : length last_chain ≡ p.depth + 1
  chain_length =
      let none = points_back (us ++ ty ∷ []) back (length us) (omega (arith, longer)) in
      let low = slice_get_within last_chain p.depth (length us) here in
      let high = get_none last_chain (suc p.depth) (sym (x.placed (length us) p at).next ∙ none) in
      omega (arith, low, high)

  -- a row anywhere else in the chains is an earlier one
  row_less : (i d m : ℕ) (c : List ℕ) → slice_get cs i ≡ Some c → slice_get c d ≡ Some m → (i ≡ p.chain → d ≡ p.depth → ⊥) → m < length us
  row_less i d m c h k apart =
      elim (below_or_at m (length us) (omega (arith, longer, row_below (us ++ ty ∷ []) (qs ++ p ∷ []) cs x i d m c h k))) [
        | inl s ↦
            let q : p ≡ record { chain = i; depth = d } =
            same_some p (record { chain = i; depth = d }) (slice_get (qs ++ p ∷ []) (length us)) at
            (x.rows i d (length us) c h (k ∙ ap Some s)) in
            absurd (apart (sym (ap (λ (r : ChainPlace). r.chain) q)) (sym (ap (λ (r : ChainPlace). r.depth) q)))
        | inr l ↦ l
      ]

  untouched : (i : ℕ) (c : List ℕ) → slice_get cs i ≡ Some c → (i ≡ p.chain → ⊥) → (k : ℕ) → IsWithout (length us) (slice_get c k) (slice_get c k)
  untouched i c h other k = record {
    kept = λ m g l. g;
    was = λ m g. (g, row_less i k m c h g (λ s t. other s));
  }

  ---- the last row begins its chain, which is the last one

  is_last : p.depth ≡ 0 → length cs ≡ p.chain + 1
  is_last zeroth =
      let low = slice_get_within cs p.chain last_chain there in
      elim (below_or_at (p.chain + 1) (length cs) (omega (arith, low))) [
        | inl e ↦ sym e
        | inr more ↦
            let b = get_some cs (p.chain + 1) more in
            let f = get_some b.0 0 (x.begun (p.chain + 1) b.0 b.1) in
            let root : slice_get last_chain 0 ≡ Some (length us) = ap (slice_get last_chain) (sym zeroth) ∙ here in
            let o = x.ordered p.chain (p.chain + 1) (length us) f.0 last_chain b.0 there b.1 root f.1 (omega arith) in
            absurd (omega (arith, o, longer, row_below (us ++ ty ∷ []) (qs ++ p ∷ []) cs x (p.chain + 1) 0 f.0 b.0 b.1 f.1))
      ]

  chain_goes : p.depth ≡ 0 → IsCut (length us) cs (take p.chain cs)
  chain_goes zeroth =
      let last = is_last zeroth in
      record {
        few = omega (arith, last, x.few, longer, length-take-le p.chain cs (omega (arith, last)));
        was = λ i d h.
            let t = get_taken p.chain cs i d h in
            (d, t.0, x.begun i d t.0, untouched i d t.0 (λ s. absurd (omega (arith, s, t.1))));
        stays = λ i j m c h g l.
            elim (below_or_at i p.chain (omega (arith, last, slice_get_within cs i c h))) [
              | inl s ↦
                  let e : c ≡ last_chain = same_some c last_chain (slice_get cs i) h (ap (slice_get cs) s ∙ there) in
                  let w = slice_get_within c j m g in
                  let only : j ≡ p.depth = omega (arith, w, ap (λ (r : List ℕ). length r) e, chain_length, zeroth) in
                  let same : m ≡ length us = same_some m (length us) (slice_get c j) g
                  (ap (λ (r : List ℕ). slice_get r j) e ∙ ap (slice_get last_chain) only ∙ here) in
                  absurd (omega (arith, same, l))
              | inr less ↦ (c, get_take p.chain cs i c h less, untouched i c h (λ s. absurd (omega (arith, s, less))))
            ];
      }

  pub without_chain : p.depth ≡ 0 → AreChains us qs (take p.chain cs)
  without_chain zeroth = cut_chains (take p.chain cs) (chain_goes zeroth)

  ---- the last row is a pointer at the end of its chain

  abbrev shorter : List ℕ
  shorter = take p.depth last_chain

  abbrev cut_lists : List (List ℕ)
  cut_lists = slice_set cs p.chain shorter

  shorter_there : slice_get cut_lists p.chain ≡ Some shorter
  shorter_there = get_set_same cs p.chain shorter last_chain there

  cut_without : (k : ℕ) → IsWithout (length us) (slice_get last_chain k) (slice_get shorter k)
  cut_without k = record {
    kept = λ m h l.
        elim (below_or_at k p.depth (omega (arith, chain_length, slice_get_within last_chain k m h))) [
          | inl s ↦
              let same : m ≡ length us = same_some m (length us) (slice_get last_chain k) h (ap (slice_get last_chain) s ∙ here) in
              absurd (omega (arith, same, l))
          | inr less ↦ get_take p.depth last_chain k m h less
        ];
    was = λ m h.
        let t = get_taken p.depth last_chain k m h in
        (t.0, row_less p.chain k m last_chain there t.0 (λ s e. absurd (omega (arith, e, t.1))));
  }

  few_chains : 0 < p.depth → length cs ≤ length us
  few_chains deep =
      let low = slice_get_within cs p.chain last_chain there in
      let b = get_some cs (length cs - 1) (omega (arith, low)) in
      let f = get_some b.0 0 (x.begun (length cs - 1) b.0 b.1) in
      let from = begins_from (us ++ ty ∷ []) (qs ++ p ∷ []) cs x (length cs - 1) f.0 b.0 b.1 f.1 in
      let less = row_less (length cs - 1) 0 f.0 b.0 b.1 f.1 (λ s e. absurd (omega (arith, e, deep))) in
      omega (arith, from, less)

  end_goes : 0 < p.depth → IsCut (length us) cs cut_lists
  end_goes deep = record {
    few = omega (arith, few_chains deep, length_set cs p.chain shorter);
    was = λ i d h. elim (same_or_other i p.chain) [
      | inl s ↦
          let e : shorter ≡ d = same_some shorter d (slice_get cut_lists p.chain) shorter_there (ap (slice_get cut_lists) (sym s) ∙ h) in (
            last_chain,
            ap (slice_get cs) s ∙ there,
            subst (λ (l : List ℕ). 0 < length l) e (omega (arith, deep, chain_length, length-take-le p.depth last_chain (omega (arith, chain_length)))),
            λ k. subst (λ (l : List ℕ). IsWithout (length us) (slice_get last_chain k) (slice_get l k)) e (cut_without k),
          )
      | inr other ↦ elim (get_set cs p.chain i shorter d h) [
        | inl g ↦ absurd (other g.0)
        | inr old ↦ (d, old, x.begun i d old, untouched i d old other)
      ]
    ];
    stays = λ i j m c h g l. elim (same_or_other i p.chain) [
      | inl s ↦
          let e : c ≡ last_chain = same_some c last_chain (slice_get cs i) h (ap (slice_get cs) s ∙ there) in (
            shorter,
            ap (slice_get cut_lists) s ∙ shorter_there,
            λ k. subst (λ (r : List ℕ). IsWithout (length us) (slice_get r k) (slice_get shorter k)) (sym e) (cut_without k),
          )
      | inr other ↦ elim (get_set_other cs p.chain i shorter c h) [
        | inl s ↦ absurd (other s)
        | inr old ↦ (c, old, untouched i c h other)
      ]
    ];
  }

  pub without_end : (c : List ℕ) → slice_get cs p.chain ≡ Some c → 0 < p.depth → AreChains us qs (slice_set cs p.chain (take p.depth c))
  without_end c h deep =
      subst (λ (l : List ℕ). AreChains us qs (slice_set cs p.chain (take p.depth l))) (same_some last_chain c (slice_get cs p.chain) there h)
      (cut_chains cut_lists (end_goes deep))

---- what the code reads and writes

module _ (s : Inside) (now : List Ty) (view : s.types.keys ≡ now) (x : HasChains s) (back : ArePointersBack now) (n : ℕ) (last : length now ≡ n + 1)
    (p : ChainPlace) (place : p ≡ get_or s.places.items n p) where
  abbrev front : List Ty
  front = take n s.types.keys

  abbrev places : List ChainPlace
  places = take n s.places.items

  whole : length s.types.keys ≡ n + 1
  whole = ap length view ∙ last

  last_type : (ty : Ty) × (slice_get s.types.keys n ≡ Some ty)
  last_type = get_some s.types.keys n (omega (arith, whole))

  abbrev ty : Ty
  ty = last_type.0

  last_place : slice_get s.places.items n ≡ Some p
  last_place = place_at s now view x n p (omega (arith, last)) place

  types_are : front ++ ty ∷ [] ≡ s.types.keys
  types_are = front_and_last n s.types.keys ty whole last_type.1

  places_are : places ++ p ∷ [] ≡ s.places.items
  places_are = front_and_last n s.places.items p (omega (arith, x.count, whole)) last_place

  chains_are : AreChains (front ++ ty ∷ []) (places ++ p ∷ []) (lists s.chains.items)
  chains_are =
      moved s.types.keys (front ++ ty ∷ []) s.places.items (places ++ p ∷ []) (lists s.chains.items) (lists s.chains.items) types_are places_are refl x

  point_back : ArePointersBack (front ++ ty ∷ [])
  point_back = subst ArePointersBack (sym (types_are ∙ view)) back

  pub place_below : p.chain < length s.chains.items
  place_below = chain_below s x n p last_place

  pub chain_popped : (ts : List Ty) (ps : List ChainPlace) (ws : List (Vec ℕ)) → ts ≡ front → ps ≡ places → p.depth ≡ 0 → ws ≡ take p.chain s.chains.items
      → AreChains ts ps (lists ws)
  chain_popped ts ps ws a b zeroth c =
      moved front ts places ps (take p.chain (lists s.chains.items)) (lists ws) a b
      (ap lists c ∙ sym (take-map (λ (v : Vec ℕ). v.items) p.chain s.chains.items))
      (without_chain front ty places p (lists s.chains.items) chains_are point_back zeroth)

  pub end_popped : (ts : List Ty) (ps : List ChainPlace) (v w : Vec ℕ) → ts ≡ front → ps ≡ places → 0 < p.depth → v ≡ get_or s.chains.items p.chain v
      → w.items ≡ take p.depth v.items → AreChains ts ps (lists (slice_set s.chains.items p.chain w))
  end_popped ts ps v w a b deep g e =
      moved front ts places ps (slice_set (lists s.chains.items) p.chain (take p.depth v.items)) (lists (slice_set s.chains.items p.chain w)) a b
      (set_lists s.chains.items p.chain w ∙ ap (slice_set (lists s.chains.items) p.chain) e)
      (without_end front ty places p (lists s.chains.items) chains_are point_back v.items (chain_at s.chains.items p.chain v place_below g) deep)
