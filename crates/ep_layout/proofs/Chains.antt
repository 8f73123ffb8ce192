-- Chains of pointers: what they answer, and that they stay right as the list of types grows.
use Rattle.std.proofs.Common.{◌≡◌, ℕ, zero, suc, ◌+◌, ◌<◌, ◌≤◌, Bool, false, List, [], ◌∷◌, ◌++◌, length}
use Rattle.std.proofs.Common.{slice_get, slice_set, position, Some, None, option_and_then, refl, sym, ap, ◌∙◌, subst}
use Rattle.std.proofs.Common.{inl, inr, ◌⊎◌, arith, length-append, ne_eqb}
use Rattle.std.proofs.lemmas.Option.{slice_get_past, slice_get_within}
use Rattle.ep_layout.specs.declared.list.ChainPlace.{ChainPlace}
use Rattle.ep_layout.specs.declared.types.Ty.{Ty}
use Rattle.ep_layout.specs.declared.types.Ty.TheVariants.{Void, Int, Ptr, Array, Aggregate}
use Rattle.ep_layout.specs.SameTypes.{is_same_type, same_itself}
use Rattle.ep_layout.specs.Pointers.{next_pointer, row_over, IsNoPointer}
use Rattle.ep_layout.specs.Chains.{StandsInChain, AreChains}
use Rattle.ep_layout.proofs.Options.{some_or_none, same_some, get_push, get_front, get_last, get_set, get_set_same, get_set_other}
use Rattle.ep_layout.proofs.Positions.{position_stays, position_fails, position_push}
use Rattle.ep_layout.proofs.Sizes.{length_set}

---- lists

get_past : {X : Type 0} (xs : List X) (i j : ℕ) → slice_get xs i ≡ None → i ≤ j → slice_get xs j ≡ None
get_past [] i j h l = refl
get_past (x ∷ xs) zero j h l = absurd cc
get_past (x ∷ xs) (suc i) zero h l = absurd (omega (arith, l))
get_past (x ∷ xs) (suc i) (suc j) h l = get_past xs i j h (omega (arith, l))

pub get_none : {X : Type 0} (xs : List X) (i : ℕ) → slice_get xs i ≡ None → length xs ≤ i
get_none [] i h = omega arith
get_none (x ∷ xs) zero h = absurd cc
get_none (x ∷ xs) (suc i) h = let r = get_none xs i h in omega (arith, r)

pub get_some : {X : Type 0} (xs : List X) (i : ℕ) → i < length xs → (x : X) × (slice_get xs i ≡ Some x)
get_some [] i l = absurd (omega (arith, l))
get_some (x ∷ xs) zero l = (x, refl)
get_some (x ∷ xs) (suc i) l = get_some xs i (omega (arith, l))

pub same_or_other : (m n : ℕ) → (m ≡ n) ⊎ (m ≡ n → ⊥)
same_or_other zero zero = inl refl
same_or_other zero (suc n) = inr (λ e. absurd (omega (arith, e)))
same_or_other (suc m) zero = inr (λ e. absurd (omega (arith, e)))
same_or_other (suc m) (suc n) = elim (same_or_other m n) [ inl e ↦ inl (ap suc e) | inr f ↦ inr (λ e. f (omega (arith, e))) ]

---- what the chains answer

pub chain_row : (ts : List Ty) (ps : List ChainPlace) (cs : List (List ℕ)) → AreChains ts ps cs → (k n : ℕ) (p : ChainPlace) (c : List ℕ)
    → slice_get ps n ≡ Some p → slice_get cs p.chain ≡ Some c → row_over ts n k ≡ slice_get c (p.depth + k)
unfolding row_over
chain_row ts ps cs x zero n p c at here =
    let a = x.placed n p at in
    let same : a.chain ≡ c = same_some a.chain c (slice_get cs p.chain) a.there here in
    let still : p.depth + 0 ≡ p.depth = omega arith in
    sym (ap (λ (l : List ℕ). slice_get l (p.depth + 0)) (sym same) ∙ ap (slice_get a.chain) still ∙ a.here)
chain_row ts ps cs x (suc k) n p c at here =
    let a = x.placed n p at in
    let same : a.chain ≡ c = same_some a.chain c (slice_get cs p.chain) a.there here in
    let next : next_pointer ts n ≡ slice_get c (suc p.depth) = a.next ∙ ap (λ (l : List ℕ). slice_get l (suc p.depth)) same in
    let far : suc p.depth + k ≡ p.depth + suc k = omega arith in
    elim (some_or_none (slice_get c (suc p.depth))) [
      | inl m ↦
          let q = x.rows p.chain (suc p.depth) m.0 c here m.1 in
          let rest = chain_row ts ps cs x k m.0 (record { chain = p.chain; depth = suc p.depth }) c q here in
          ap (option_and_then (λ j. row_over ts j k)) (next ∙ m.1) ∙ rest ∙ ap (slice_get c) far
      | inr none ↦
          ap (option_and_then (λ j. row_over ts j k)) (next ∙ none)
          ∙ sym (get_past c (suc p.depth) (p.depth + suc k) none (omega arith))
    ]

---- a list grows

position_other : {X : Type 0} (f : X → Bool) (xs : List X) (x : X) → f x ≡ false → position f (xs ++ x ∷ []) ≡ position f xs
position_other f xs x e = elim (some_or_none (position f xs)) [
  | inl p ↦ position_stays f xs x p.0 p.1 ∙ sym p.1
  | inr none ↦ position_fails f xs x none e ∙ sym none
]

no_pointer : (n : ℕ) (ty : Ty) → ((e : ℕ) → ty ≡ Ptr e → ⊥) → is_same_type (Ptr n) ty ≡ false
no_pointer n Void f = refl
no_pointer n (Int i) f = refl
no_pointer n (Ptr e) f = absurd (f e refl)
no_pointer n (Array e k) f = refl
no_pointer n (Aggregate a) f = refl

-- a row that is no pointer stays so
still_none : (ts : List Ty) (ty : Ty) (n : ℕ) → n < length ts → IsNoPointer ts n → IsNoPointer (ts ++ ty ∷ []) n
still_none ts ty n l f e h = elim (get_push ts ty (Ptr e) n h) [ inl old ↦ f e old | inr g ↦ absurd (omega (arith, l, g.0)) ]

last_none : (ts : List Ty) (ty : Ty) (n : ℕ) → length ts ≡ n → ((e : ℕ) → ty ≡ Ptr e → ⊥) → IsNoPointer (ts ++ ty ∷ []) n
last_none ts ty n l f e h = elim (get_push ts ty (Ptr e) n h) [
  | inl old ↦ absurd (omega (arith, l, slice_get_within ts n (Ptr e) old))
  | inr g ↦ f e g.1
]

-- a row of a chain is one of the types
pub row_below : (ts : List Ty) (ps : List ChainPlace) (cs : List (List ℕ)) → AreChains ts ps cs → (i d n : ℕ) (c : List ℕ)
    → slice_get cs i ≡ Some c → slice_get c d ≡ Some n → n < length ts
row_below ts ps cs x i d n c h k =
    let w = slice_get_within ps n (record { chain = i; depth = d }) (x.rows i d n c h k) in
    omega (arith, w, x.count)

other_pointer : (n e : ℕ) → (n ≡ e → ⊥) → is_same_type (Ptr n) (Ptr e) ≡ false
other_pointer n e f = ne_eqb n e f

-- a type that is no pointer begins a chain
pub other_indexed : (ts : List Ty) (ps : List ChainPlace) (cs : List (List ℕ)) (ty : Ty) → AreChains ts ps cs → ((e : ℕ) → ty ≡ Ptr e → ⊥)
    → AreChains (ts ++ ty ∷ []) (ps ++ (record { chain = length cs; depth = 0 }) ∷ []) (cs ++ (length ts ∷ []) ∷ [])
other_indexed ts ps cs ty x f =
    let new : ChainPlace = record { chain = length cs; depth = 0 } in
    let us : List Ty = ts ++ ty ∷ [] in
    let ds : List (List ℕ) = cs ++ (length ts ∷ []) ∷ [] in
    let longer : length us ≡ length ts + 1 = length-append ts (ty ∷ []) in
    let same = λ (n : ℕ). position_other (is_same_type (Ptr n)) ts ty (no_pointer n ty f) in
    let last : StandsInChain us ds (length ps) new = record {
      chain = length ts ∷ [];
      low = omega arith;
      there = get_last cs (length ts ∷ []);
      here = ap Some (sym x.count);
      next = same (length ps) ∙ x.beyond (length ps) (omega (arith, x.count));
    } in
    record {
      count = omega (arith, x.count, longer, length-append ps (new ∷ []));
      few = omega (arith, x.few, longer, length-append cs ((length ts ∷ []) ∷ []));
      placed = λ n p h. elim (get_push ps new p n h) [
        | inl old ↦
            let a = x.placed n p old in
            record {
              chain = a.chain;
              low = a.low;
              there = get_front cs (length ts ∷ []) a.chain p.chain a.there;
              here = a.here;
              next = same n ∙ a.next;
            }
        | inr e ↦ subst (λ (j : ℕ). StandsInChain us ds j p) (sym e.0) (subst (StandsInChain us ds (length ps)) e.1 last)
      ];
      rows = λ i d n c h k. elim (get_push cs (length ts ∷ []) c i h) [
        | inl old ↦ get_front ps new (record { chain = i; depth = d }) n (x.rows i d n c old k)
        | inr e ↦ first_row ps new (length ts) i d n c x.count e.0 e.1 refl k
      ];
      first = λ i n c h k. elim (get_push cs (length ts ∷ []) c i h) [
        | inl old ↦ still_none ts ty n (row_below ts ps cs x i 0 n c old k) (x.first i n c old k)
        | inr g ↦ last_none ts ty n (only_row (length ts) n c g.1 k) f
      ];
      begun = λ i c h. elim (get_push cs (length ts ∷ []) c i h) [
        | inl old ↦ x.begun i c old
        | inr g ↦ subst (λ (l : List ℕ). 0 < length l) g.1 (omega arith)
      ];
      ordered = λ i j m n c d h g k l less. elim (get_push cs (length ts ∷ []) d j g) [
        | inl new ↦ elim (get_push cs (length ts ∷ []) c i h) [
          | inl old ↦ x.ordered i j m n c d old new k l less
          | inr e ↦ absurd (omega (arith, e.0, less, slice_get_within cs j d new))
        ]
        | inr e ↦ elim (get_push cs (length ts ∷ []) c i h) [
          | inl old ↦ omega (arith, row_below ts ps cs x i 0 m c old k, only_row (length ts) n d e.1 l)
          | inr b ↦ absurd (omega (arith, e.0, b.0, less))
        ]
      ];
      beyond = λ n l. same n ∙ x.beyond n (omega (arith, longer, l));
    }
  where
    only_row : (m n : ℕ) (c : List ℕ) → m ∷ [] ≡ c → slice_get c 0 ≡ Some n → m ≡ n
    only_row m n c g k = let h : slice_get (m ∷ []) 0 ≡ Some n = subst (λ (l : List ℕ). slice_get l 0 ≡ Some n) (sym g) k in cc

    first_row : (ps : List ChainPlace) (new : ChainPlace) (m i d n : ℕ) (c : List ℕ) → length ps ≡ m → i ≡ new.chain → m ∷ [] ≡ c → new.depth ≡ 0
        → slice_get c d ≡ Some n → slice_get (ps ++ new ∷ []) n ≡ Some (record { chain = i; depth = d })
    first_row ps new m i zero n c count e g low k =
        let h : slice_get (m ∷ []) zero ≡ Some n = subst (λ (l : List ℕ). slice_get l zero ≡ Some n) (sym g) k in
        let there : length ps ≡ n = count ∙ cc in
        subst (λ (j : ℕ). slice_get (ps ++ new ∷ []) j ≡ Some (record { chain = i; depth = zero })) there
        (get_last ps new ∙ ap Some (ap (λ (j : ℕ). record { chain = j; depth = new.depth }) (sym e) ∙ ap (λ (j : ℕ). record { chain = i; depth = j }) low))
    first_row ps new m i (suc d) n c count e g low k =
        let h : slice_get (m ∷ []) (suc d) ≡ Some n = subst (λ (l : List ℕ). slice_get l (suc d) ≡ Some n) (sym g) k in
        absurd cc

-- a pointer goes to the end of its target's chain
module _ (ts : List Ty) (ps : List ChainPlace) (cs : List (List ℕ)) (e : ℕ) (q : ChainPlace) (x : AreChains ts ps cs)
    (at : slice_get ps e ≡ Some q) (fresh : next_pointer ts e ≡ None) where
  abbrev old_chain : List ℕ
  old_chain = (x.placed e q at).chain

  abbrev new_chain : List ℕ
  new_chain = old_chain ++ length ts ∷ []

  abbrev new_place : ChainPlace
  new_place = record { chain = q.chain; depth = q.depth + 1 }

  abbrev new_types : List Ty
  new_types = ts ++ Ptr e ∷ []

  abbrev new_chains : List (List ℕ)
  new_chains = slice_set cs q.chain new_chain

  target_below : e < length ts
  target_below = omega (arith, slice_get_within ps e q at, x.count)

  old_length : length old_chain ≡ q.depth + 1
  old_length =
      let a = x.placed e q at in
      let low = slice_get_within a.chain q.depth e a.here in
      let high = get_none a.chain (suc q.depth) (sym a.next ∙ fresh) in
      omega (arith, low, high)

  set_there : slice_get new_chains q.chain ≡ Some new_chain
  set_there = get_set_same cs q.chain new_chain old_chain (x.placed e q at).there

  last_there : slice_get new_chain (q.depth + 1) ≡ Some (length ts)
  last_there = subst (λ (j : ℕ). slice_get new_chain j ≡ Some (length ts)) old_length (get_last old_chain (length ts))

  stays : (n : ℕ) → (n ≡ e → ⊥) → next_pointer new_types n ≡ next_pointer ts n
  stays n f = position_other (is_same_type (Ptr n)) ts (Ptr e) (other_pointer n e f)

  nothing_behind : slice_get new_chain (suc (q.depth + 1)) ≡ None
  nothing_behind = slice_get_past new_chain (suc (q.depth + 1)) (omega (arith, old_length, length-append old_chain (length ts ∷ [])))

  last_placed : StandsInChain new_types new_chains (length ps) new_place
  last_placed = record {
    chain = new_chain;
    low = omega (arith, (x.placed e q at).low, slice_get_within ps e q at);
    there = set_there;
    here = last_there ∙ ap Some (sym x.count);
    next = stays (length ps) (λ same. absurd (omega (arith, same, slice_get_within ps e q at)))
        ∙ x.beyond (length ps) (omega (arith, x.count)) ∙ sym nothing_behind;
  }

  -- the target itself, whose pointer is the new row
  target_placed : StandsInChain new_types new_chains e q
  target_placed = record {
    chain = new_chain;
    low = (x.placed e q at).low;
    there = set_there;
    here = get_front old_chain (length ts) e q.depth (x.placed e q at).here;
    next = position_push (is_same_type (Ptr e)) ts (Ptr e) fresh (same_itself (Ptr e))
        ∙ sym last_there ∙ ap (slice_get new_chain) (omega arith);
  }

  -- another row of that chain, whose pointer was there before
  row_placed : (n : ℕ) (p : ChainPlace) → slice_get ps n ≡ Some p → (n ≡ e → ⊥) → p.chain ≡ q.chain → StandsInChain new_types new_chains n p
  row_placed n p h other same =
      let a = x.placed n p h in
      let b = x.placed e q at in
      let one : a.chain ≡ old_chain = same_some a.chain old_chain (slice_get cs q.chain) (ap (slice_get cs) (sym same) ∙ a.there) b.there in
      let here : slice_get old_chain p.depth ≡ Some n = ap (λ (l : List ℕ). slice_get l p.depth) (sym one) ∙ a.here in
      let within = slice_get_within old_chain p.depth n here in
      let apart : p.depth ≡ q.depth → ⊥ = λ d. other (same_some n e (slice_get old_chain q.depth) (ap (slice_get old_chain) (sym d) ∙ here) b.here) in
      let lower : suc p.depth < length old_chain = below p.depth q.depth (length old_chain) old_length within apart in
      let m = get_some old_chain (suc p.depth) lower in
      record {
        chain = new_chain;
        low = a.low;
        there = ap (slice_get new_chains) same ∙ set_there;
        here = get_front old_chain (length ts) n p.depth here;
        next = stays n other ∙ a.next ∙ ap (λ (l : List ℕ). slice_get l (suc p.depth)) one ∙ m.1
            ∙ sym (get_front old_chain (length ts) m.0 (suc p.depth) m.1);
      }
    where
      below : (d k l : ℕ) → l ≡ k + 1 → d < l → (d ≡ k → ⊥) → suc d < l
      below d k l e lt f = elim (same_or_other d k) [ inl s ↦ absurd (f s) | inr g ↦ less d k l e lt g ]
        where
          less : (d k l : ℕ) → l ≡ k + 1 → d < l → (d ≡ k → ⊥) → suc d < l
          less d k l e lt f = grind arith

  other_placed : (n : ℕ) (p : ChainPlace) → slice_get ps n ≡ Some p → (n ≡ e → ⊥) → (p.chain ≡ q.chain → ⊥) → StandsInChain new_types new_chains n p
  other_placed n p h other apart =
      let a = x.placed n p h in
      record {
        chain = a.chain;
        low = a.low;
        there = elim (get_set_other cs q.chain p.chain new_chain a.chain a.there) [ inl s ↦ absurd (apart s) | inr g ↦ g ];
        here = a.here;
        next = stays n other ∙ a.next;
      }

  old_placed : (n : ℕ) (p : ChainPlace) → slice_get ps n ≡ Some p → StandsInChain new_types new_chains n p
  old_placed n p h = elim (same_or_other n e) [
    | inl s ↦
        let one : q ≡ p = same_some q p (slice_get ps e) at (ap (slice_get ps) (sym s) ∙ h) in
        subst (λ (j : ℕ). StandsInChain new_types new_chains j p) (sym s) (subst (StandsInChain new_types new_chains e) one target_placed)
    | inr other ↦ elim (same_or_other p.chain q.chain) [
      | inl s ↦ row_placed n p h other s
      | inr apart ↦ other_placed n p h other apart
    ]
  ]

  new_row : (i d n : ℕ) → i ≡ q.chain → slice_get new_chain d ≡ Some n → slice_get (ps ++ new_place ∷ []) n ≡ Some (record { chain = i; depth = d })
  new_row i d n s h = elim (get_push old_chain (length ts) n d h) [
    | inl old ↦ subst (λ (j : ℕ). slice_get (ps ++ new_place ∷ []) n ≡ Some (record { chain = j; depth = d })) (sym s)
        (get_front ps new_place (record { chain = q.chain; depth = d }) n (x.rows q.chain d n old_chain (x.placed e q at).there old))
    | inr g ↦
        let place : new_place ≡ record { chain = i; depth = d } =
        ap (λ (j : ℕ). record { chain = j; depth = q.depth + 1 }) (sym s) ∙ ap (λ (j : ℕ). record { chain = i; depth = j }) (sym (g.0 ∙ old_length)) in
        let number : length ps ≡ n = x.count ∙ g.1 in
        subst (λ (j : ℕ). slice_get (ps ++ new_place ∷ []) j ≡ Some (record { chain = i; depth = d })) number (get_last ps new_place ∙ ap Some place)
  ]

  new_first : (n : ℕ) → slice_get new_chain 0 ≡ Some n → IsNoPointer new_types n
  new_first n h = elim (get_push old_chain (length ts) n 0 h) [
    | inl old ↦
        let there = (x.placed e q at).there in
        still_none ts (Ptr e) n (row_below ts ps cs x q.chain 0 n old_chain there old) (x.first q.chain n old_chain there old)
    | inr g ↦ absurd (omega (arith, g.0, old_length))
  ]

  -- each chain begins as it did
  first_was : (i m : ℕ) (c : List ℕ) → slice_get new_chains i ≡ Some c → slice_get c 0 ≡ Some m
      → (d : List ℕ) × (slice_get cs i ≡ Some d) × (slice_get d 0 ≡ Some m)
  first_was i m c h k = elim (get_set cs q.chain i new_chain c h) [
    | inl g ↦
        let first : slice_get new_chain 0 ≡ Some m = subst (λ (l : List ℕ). slice_get l 0 ≡ Some m) (sym g.1) k in
        elim (get_push old_chain (length ts) m 0 first) [
          | inl old ↦ (old_chain, ap (slice_get cs) g.0 ∙ (x.placed e q at).there, old)
          | inr o ↦ absurd (omega (arith, o.0, old_length))
        ]
    | inr old ↦ (c, old, k)
  ]

  pub pointer_indexed : AreChains new_types (ps ++ new_place ∷ []) new_chains
  pointer_indexed =
      let longer : length new_types ≡ length ts + 1 = length-append ts (Ptr e ∷ []) in
      record {
        count = omega (arith, x.count, longer, length-append ps (new_place ∷ []));
        few = omega (arith, x.few, longer, length_set cs q.chain new_chain);
        placed = λ n p h. elim (get_push ps new_place p n h) [
          | inl old ↦ old_placed n p old
          | inr g ↦ subst (λ (j : ℕ). StandsInChain new_types new_chains j p) (sym g.0) (subst (StandsInChain new_types new_chains (length ps)) g.1 last_placed)
        ];
        rows = λ i d n c h k. elim (get_set cs q.chain i new_chain c h) [
          | inl g ↦ new_row i d n g.0 (subst (λ (l : List ℕ). slice_get l d ≡ Some n) (sym g.1) k)
          | inr old ↦ get_front ps new_place (record { chain = i; depth = d }) n (x.rows i d n c old k)
        ];
        first = λ i n c h k. elim (get_set cs q.chain i new_chain c h) [
          | inl g ↦ new_first n (subst (λ (l : List ℕ). slice_get l 0 ≡ Some n) (sym g.1) k)
          | inr old ↦ still_none ts (Ptr e) n (row_below ts ps cs x i 0 n c old k) (x.first i n c old k)
        ];
        begun = λ i c h. elim (get_set cs q.chain i new_chain c h) [
          | inl g ↦ subst (λ (l : List ℕ). 0 < length l) g.1 (omega (arith, length-append old_chain (length ts ∷ [])))
          | inr old ↦ x.begun i c old
        ];
        ordered = λ i j m n c d h g k l less.
            let b = first_was i m c h k in
            let a = first_was j n d g l in
            x.ordered i j m n b.0 a.0 b.1 a.1 b.2 a.2 less;
        beyond = λ n l. stays n (λ s. absurd (omega (arith, s, target_below, longer, l))) ∙ x.beyond n (omega (arith, longer, l));
      }
