-- What the code reads of its chains and writes to them.
use Rattle.std.proofs.Common.{◌≡◌, ℕ, suc, ◌+◌, ◌<◌, List, [], ◌∷◌, ◌++◌, length, slice_get, slice_set, get_or, take}
use Rattle.std.proofs.Common.{Option, Some, None, IsSome, option_map, refl, sym, ap, ◌∙◌, subst, arith, position, zero, Bool, false, if◌then◌else◌}
use Rattle.std.proofs.Math.Seq.{take-append_seam}
use Rattle.std.specs.Global.{Vec}
use Rattle.std.proofs.lemmas.Option.{slice_get_past, slice_get_read, slice_get-map, slice_get_within}
use Rattle.std.proofs.lemmas.List.{length-map, map-append}
use Rattle.std.specs.List.{list_any}
use Rattle.ep_layout.specs.declared.list.ChainPlace.{ChainPlace}
use Rattle.ep_layout.specs.declared.list.TypeList.TheInside.{Inside}
use Rattle.ep_layout.specs.declared.types.Ty.{Ty}
use Rattle.ep_layout.specs.declared.types.Ty.TheVariants.{Ptr}
use Rattle.ep_layout.specs.SameTypes.{is_same_type}
use Rattle.ep_layout.specs.Pointers.{next_pointer, row_over, IsNoPointer}
use Rattle.ep_layout.specs.Chains.{AreChains, HasChains, lists, put_behind}
use Rattle.ep_layout.proofs.Positions.{none_any}
use Rattle.ep_layout.proofs.Chains.{chain_row, row_below, get_some, other_indexed, pointer_indexed}

pub place_at : (s : Inside) (now : List Ty) → s.types.keys ≡ now → HasChains s → (n : ℕ) (p : ChainPlace) → n < length now
    → p ≡ get_or s.places.items n p → slice_get s.places.items n ≡ Some p
place_at s now e k n p l g = slice_get_read s.places.items _ n p refl (omega (arith, k.count, ap length e, l)) g

pub chain_below : (s : Inside) → HasChains s → (n : ℕ) (p : ChainPlace) → slice_get s.places.items n ≡ Some p → p.chain < length s.chains.items
chain_below s k n p h =
    let a = k.placed n p h in
    let w = slice_get_within (lists s.chains.items) p.chain a.chain a.there in
    omega (arith, w, length-map s.chains.items (λ (v : Vec ℕ). v.items))

pub chain_at : (vs : List (Vec ℕ)) (i : ℕ) (v : Vec ℕ) → i < length vs → v ≡ get_or vs i v → slice_get (lists vs) i ≡ Some v.items
chain_at vs i v l g =
    slice_get-map (λ (w : Vec ℕ). w.items) vs i ∙ ap (option_map (λ (w : Vec ℕ). w.items)) (slice_get_read vs _ i v refl l g)

-- what a row's chain answers
pub row_is : (s : Inside) (now : List Ty) → s.types.keys ≡ now → HasChains s → (n k : ℕ) (p : ChainPlace) (v : Vec ℕ) → n < length now
    → p ≡ get_or s.places.items n p → v ≡ get_or s.chains.items p.chain v → row_over now n k ≡ slice_get v.items (p.depth + k)
row_is s now e x n k p v l g h =
    let at = place_at s now e x n p l g in
    let here = chain_at s.chains.items p.chain v (chain_below s x n p at) h in
    sym (ap (λ (ts : List Ty). row_over ts n k) e) ∙ chain_row s.types.keys s.places.items (lists s.chains.items) x k n p v.items at here

-- a row of a chain is one of the types
pub row_within : (s : Inside) (now : List Ty) → s.types.keys ≡ now → HasChains s → (i d m : ℕ) (v : Vec ℕ) → i < length s.chains.items
    → v ≡ get_or s.chains.items i v → slice_get v.items d ≡ Some m → m < length now
row_within s now e x i d m v l h here =
    let w = row_below s.types.keys s.places.items (lists s.chains.items) x i d m v.items (chain_at s.chains.items i v l h) here in
    omega (arith, w, ap length e)

row_itself : (ts : List Ty) (n : ℕ) → row_over ts n 0 ≡ Some n
unfolding row_over
row_itself ts n = refl

-- a row stands within its chain
pub depth_within : (s : Inside) (now : List Ty) → s.types.keys ≡ now → HasChains s → (n : ℕ) (p : ChainPlace) (v : Vec ℕ) → n < length now
    → p ≡ get_or s.places.items n p → v ≡ get_or s.chains.items p.chain v → p.depth < length v.items
depth_within s now e x n p v l g h =
    let r : row_over now n 0 ≡ slice_get v.items (p.depth + 0) = row_is s now e x n 0 p v l g h in
    let w = slice_get_within v.items (p.depth + 0) n (sym r ∙ row_itself now n) in
    omega (arith, w)

-- the row at which a row's chain begins is at the root of its pointers
pub root_there : (s : Inside) (now : List Ty) → s.types.keys ≡ now → HasChains s → (n m : ℕ) (p : ChainPlace) (v : Vec ℕ) → n < length now
    → p ≡ get_or s.places.items n p → v ≡ get_or s.chains.items p.chain v → slice_get v.items 0 ≡ Some m
    → (row_over now m p.depth ≡ Some n) × ((IsNoPointer now m) × ((m < length now) × (p.depth < length now)))
root_there s now e x n m p v l g h root =
    let at = place_at s now e x n p l g in
    let below = chain_below s x n p at in
    let here = chain_at s.chains.items p.chain v below h in
    let first = x.rows p.chain 0 m v.items here root in
    let low = (x.placed n p at).low in
    let still : p.depth + 0 ≡ 0 + p.depth = omega arith in
    let up : row_over now m p.depth ≡ Some n =
    sym (ap (λ (ts : List Ty). row_over ts m p.depth) e)
    ∙ chain_row s.types.keys s.places.items (lists s.chains.items) x p.depth m (record { chain = p.chain; depth = 0 }) v.items first here
    ∙ sym (row_is s now e x n 0 p v l g h ∙ ap (slice_get v.items) still) ∙ row_itself now n in (
      up,
      (
        subst (λ (ts : List Ty). IsNoPointer ts m) e (x.first p.chain m v.items here root),
        (row_within s now e x p.chain 0 m v below h root, omega (arith, low, l)),
      ),
    )

some_there : {A : Type 0} (o : Option A) (x : A) → o ≡ Some x → IsSome o
some_there {A = A} o x e = subst (λ (p : Option A). IsSome p) (sym e) refl

-- a chain's length tells how many pointers over a row are there
pub stars_there : (s : Inside) (now : List Ty) → s.types.keys ≡ now → HasChains s → (n k : ℕ) (p : ChainPlace) (v : Vec ℕ) → n < length now
    → p ≡ get_or s.places.items n p → v ≡ get_or s.chains.items p.chain v → p.depth + k + 1 ≡ length v.items
    → (IsSome (row_over now n k)) × ((row_over now n (k + 1) ≡ None) × (k < length now))
stars_there s now e x n k p v l g h last =
    let m = get_some v.items (p.depth + k) (omega (arith, last)) in
    let below = chain_below s x n p (place_at s now e x n p l g) in
    let here = chain_at s.chains.items p.chain v below h in
    let q = x.rows p.chain (p.depth + k) m.0 v.items here m.1 in
    let low = (x.placed m.0 (record { chain = p.chain; depth = p.depth + k }) q).low in
    let within = row_within s now e x p.chain (p.depth + k) m.0 v below h m.1 in (
      some_there (row_over now n k) m.0 (row_is s now e x n k p v l g h ∙ m.1),
      (row_is s now e x n (k + 1) p v l g h ∙ slice_get_past v.items (p.depth + (k + 1)) (omega (arith, last)), omega (arith, low, within)),
    )

---- writing

pub set_lists : (vs : List (Vec ℕ)) (i : ℕ) (v : Vec ℕ) → lists (slice_set vs i v) ≡ slice_set (lists vs) i v.items
set_lists [] i v = refl
set_lists (w ∷ ws) zero v = refl
set_lists (w ∷ ws) (suc i) v = ap (λ (l : List (List ℕ)). w.items ∷ l) (set_lists ws i v)

set_back : {X : Type 0} (xs : List X) (i : ℕ) (x : X) → slice_get xs i ≡ Some x → slice_set xs i x ≡ xs
set_back [] i x h = refl
set_back {X = X} (y ∷ ys) zero x h = let e : y ≡ x = cc in ap (λ (z : X). z ∷ ys) (sym e)
set_back {X = X} (y ∷ ys) (suc i) x h = ap (λ (l : List X). y ∷ l) (set_back ys i x h)

-- a chain that is there takes a row more
pub put_is : (cs : List (List ℕ)) (i n : ℕ) (c : List ℕ) → slice_get cs i ≡ Some c → put_behind cs i n ≡ slice_set cs i (c ++ n ∷ [])
put_is cs i n c h = rw h refl

pub behind_is : (vs : List (Vec ℕ)) (i n : ℕ) (v w : Vec ℕ) → i < length vs → v ≡ get_or vs i v → w.items ≡ v.items ++ n ∷ []
    → lists (slice_set vs i w) ≡ put_behind (lists vs) i n
behind_is vs i n v w l g e =
    set_lists vs i w ∙ ap (slice_set (lists vs) i) e ∙ sym (put_is (lists vs) i n v.items (chain_at vs i v l g))

pub same_back : (vs : List (Vec ℕ)) (i : ℕ) (v w : Vec ℕ) → i < length vs → v ≡ get_or vs i v → w.items ≡ v.items
    → lists (slice_set vs i w) ≡ lists vs
same_back vs i v w l g e =
    set_lists vs i w ∙ ap (slice_set (lists vs) i) e ∙ set_back (lists vs) i v.items (chain_at vs i v l g)

-- chains are those of equal lists
pub moved : (ts us : List Ty) (ps qs : List ChainPlace) (cs ds : List (List ℕ)) → us ≡ ts → qs ≡ ps → ds ≡ cs → AreChains ts ps cs → AreChains us qs ds
moved ts us ps qs cs ds a b c x =
    subst (λ (l : List Ty). AreChains l qs ds) (sym a) (subst (λ (l : List ChainPlace). AreChains ts l ds) (sym b) (subst (AreChains ts ps) (sym c) x))

-- a pointer more
pub pointer_more : (s : Inside) (now ts : List Ty) (ps : List ChainPlace) (ds : List (List ℕ)) (e : ℕ) (q : ChainPlace) → s.types.keys ≡ now → HasChains s
    → e < length now → q ≡ get_or s.places.items e q → next_pointer now e ≡ None → ts ≡ now ++ Ptr e ∷ []
    → ps ≡ s.places.items ++ (record { chain = q.chain; depth = q.depth + 1 }) ∷ [] → ds ≡ put_behind (lists s.chains.items) q.chain (length now)
    → AreChains ts ps ds
pointer_more s now ts ps ds e q view x l g fresh types places chains =
    let at = place_at s now view x e q l g in
    let a = x.placed e q at in
    let free : next_pointer s.types.keys e ≡ None = ap (λ (us : List Ty). next_pointer us e) view ∙ fresh in
    let put : ds ≡ slice_set (lists s.chains.items) q.chain (a.chain ++ length s.types.keys ∷ []) =
    chains ∙ put_is (lists s.chains.items) q.chain (length now) a.chain a.there
    ∙ ap (λ (k : ℕ). slice_set (lists s.chains.items) q.chain (a.chain ++ k ∷ [])) (sym (ap length view)) in
    moved (s.types.keys ++ Ptr e ∷ []) ts _ ps _ ds (types ∙ ap (λ (us : List Ty). us ++ Ptr e ∷ []) (sym view)) places put
    (pointer_indexed s.types.keys s.places.items (lists s.chains.items) e q x at free)

-- a type that is no pointer more
pub other_more : (s : Inside) (now ts : List Ty) (ps : List ChainPlace) (ds : List (List ℕ)) (ty : Ty) → s.types.keys ≡ now → HasChains s
    → ((e : ℕ) → ty ≡ Ptr e → ⊥) → ts ≡ now ++ ty ∷ [] → ps ≡ s.places.items ++ (record { chain = length s.chains.items; depth = 0 }) ∷ []
    → ds ≡ lists s.chains.items ++ (length now ∷ []) ∷ [] → AreChains ts ps ds
other_more s now ts ps ds ty view x f types places chains =
    let one : ChainPlace → List ChainPlace = λ p. s.places.items ++ p ∷ [] in
    let put : ds ≡ lists s.chains.items ++ (length s.types.keys ∷ []) ∷ [] =
    chains ∙ ap (λ (k : ℕ). lists s.chains.items ++ (k ∷ []) ∷ []) (sym (ap length view)) in
    let place : ps ≡ one (record { chain = length (lists s.chains.items); depth = 0 }) =
    places ∙ ap (λ (k : ℕ). one (record { chain = k; depth = 0 })) (sym (length-map s.chains.items (λ (v : Vec ℕ). v.items))) in
    moved (s.types.keys ++ ty ∷ []) ts _ ps _ ds (types ∙ ap (λ (us : List Ty). us ++ ty ∷ []) (sym view)) place put
    (other_indexed s.types.keys s.places.items (lists s.chains.items) ty x f)

pub lists_push : (vs ws : List (Vec ℕ)) (v : Vec ℕ) (n : ℕ) → ws ≡ vs ++ v ∷ [] → v.items ≡ n ∷ [] → lists ws ≡ lists vs ++ (n ∷ []) ∷ []
lists_push vs ws v n e h =
    ap lists e ∙ map-append (λ (w : Vec ℕ). w.items) vs (v ∷ []) ∙ ap (λ (l : List ℕ). lists vs ++ l ∷ []) h

pub keys_pushed : (ks now new : List Ty) (ty : Ty) → ks ≡ now → position (is_same_type ty) now ≡ None
    → new ≡ (if list_any (is_same_type ty) ks then ks else ks ++ ty ∷ []) → new ≡ now ++ ty ∷ []
keys_pushed ks now new ty view none e =
    let before : list_any (is_same_type ty) ks ≡ false = ap (list_any (is_same_type ty)) view ∙ none_any (is_same_type ty) now none in
    e ∙ ap (λ (b : Bool). if b then ks else ks ++ ty ∷ []) before ∙ ap (λ (l : List Ty). l ++ ty ∷ []) view

-- what came last and is taken off leaves what was there
pub taken_off : {X : Type 0} (xs ys zs : List X) (x : X) (n : ℕ) → n ≡ length xs → ys ≡ xs ++ x ∷ [] → zs ≡ take n ys → zs ≡ xs
taken_off {X = X} xs ys zs x n l e h =
    h ∙ ap (take n) e ∙ ap (λ (k : ℕ). take k (xs ++ x ∷ [])) l ∙ take-append_seam xs (x ∷ [])
