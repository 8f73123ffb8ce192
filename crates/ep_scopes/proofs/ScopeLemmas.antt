-- Maps and the stack of them, as scopes.
use Rattle.std.proofs.Common.{◌≡◌, ℕ, suc, ◌+◌, ◌<◌, ◌≤◌, ◌-◌, Bor, vec_len, option_to_list, arith, length, drop, get_or}
use Rattle.std.proofs.Common.{drop-cons, take, Bool, true, false, cond, List, [], ◌∷◌, ◌++◌, map, Option, Some, None}
use Rattle.std.proofs.Common.{refl, sym, ap, ◌∙◌}
use Rattle.std.specs.Option.{option_map}
use Rattle.std.specs.Str.{bytes_eq}
use Rattle.std.specs.Global.{Vec}
use Rattle.std.proofs.lemmas.List.{drop_all, length-map, map_push, nil_from_length, take-map, take_more}
use Rattle.std.proofs.lemmas.Option.{get_or_from_slice_get, slice_get-map, slice_get_within}
use Rattle.std.specs.Prelude.{slice_get, slice_range, is_some, position, nat_lt, not, MatchOption}
use Rattle.std.specs.List.{position_or_len}
use Rattle.indexmap.proofs.MapLemmas.{Missing-position, insert_entry-absent, split_last}
use Rattle.std.specs.Map.{keys_of, lookup}
use Rattle.indexmap.specs.IndexMap.{insert_entry}
use Rattle.ep_typing.specs.Env as rule
use Rattle.std.specs.Map.Iter.{deref_pair}
use Rattle.ep_scopes.specs.declared.env.FunctionType.{FunctionType}
use Rattle.ep_scopes.specs.declared.scopes.Meaning.{Meaning}
use Rattle.ep_scopes.specs.declared.scopes.Scope.{Scope}
use Rattle.ep_scopes.specs.View as view

-- ---- one map

name_at_test : (b : Bool) (v : Meaning) (o : Option Meaning)
    → option_map view.meaning (cond b (Some v) o) ≡ cond b (Some (view.meaning v)) (option_map view.meaning o)
name_at_test true v o = refl
name_at_test false v o = refl

pub name_looks : (t : List ℕ) (es : List (Vec ℕ × Meaning))
    → option_map view.meaning (lookup (λ k. bytes_eq t k.items) es) ≡ rule.entry t (map view.entry es)
name_looks t [] = refl
name_looks t (e ∷ es) =
    name_at_test (bytes_eq t e.0.items) e.1 (lookup (λ k. bytes_eq t k.items) es)
    ∙ ap (λ (r : Option rule.Meaning). cond (bytes_eq t e.0.items) (Some (view.meaning e.1)) r) (name_looks t es)

-- a text, and what it names
abbrev row : {A : Type 0} → Vec ℕ × A → List ℕ × A
row e = (e.0.items, e.1)

pub row_looks : {A : Type 0} (t : List ℕ) (es : List (Vec ℕ × A)) → lookup (λ k. bytes_eq t k.items) es ≡ rule.entry t (map row es)
row_looks t [] = refl
row_looks {A = A} t (e ∷ es) = ap (λ (r : Option A). cond (bytes_eq t e.0.items) (Some e.1) r) (row_looks t es)

name_step : (b : Bool) (e : Vec ℕ × Meaning) (x : rule.Meaning) (o : Option rule.Meaning) (xs ys : List (Vec ℕ × Meaning)) (zs : List (List ℕ × rule.Meaning))
    → cond b (Some x) o ≡ None → (o ≡ None → map view.entry ys ≡ zs) → map view.entry (cond b xs (e ∷ ys)) ≡ view.entry e ∷ zs
name_step true e x o xs ys zs h f = absurd cc
name_step false e x o xs ys zs h f = ap (λ (ws : List (List ℕ × rule.Meaning)). view.entry e ∷ ws) (f h)

pub name_added : (k : Vec ℕ) (v : Meaning) (es : List (Vec ℕ × Meaning)) → rule.entry k.items (map view.entry es) ≡ None
    → map view.entry (insert_entry (λ p q. bytes_eq p.items q.items) es k v) ≡ map view.entry es ++ (k.items, view.meaning v) ∷ []
name_added k v [] h = refl
name_added k v (e ∷ es) h =
    name_step (bytes_eq k.items e.0.items) e (view.meaning e.1) (rule.entry k.items (map view.entry es)) ((e.0, v) ∷ es)
    (insert_entry (λ p q. bytes_eq p.items q.items) es k v) (map view.entry es ++ (k.items, view.meaning v) ∷ []) h (name_added k v es)

row_step : {A : Type 0} (b : Bool) (e : Vec ℕ × A) (x : A) (o : Option A) (xs ys : List (Vec ℕ × A)) (zs : List (List ℕ × A))
    → cond b (Some x) o ≡ None → (o ≡ None → map row ys ≡ zs) → map row (cond b xs (e ∷ ys)) ≡ row e ∷ zs
row_step true e x o xs ys zs h f = absurd cc
row_step {A = A} false e x o xs ys zs h f = ap (λ (ws : List (List ℕ × A)). row e ∷ ws) (f h)

pub row_added : {A : Type 0} (k : Vec ℕ) (v : A) (es : List (Vec ℕ × A)) → rule.entry k.items (map row es) ≡ None
    → map row (insert_entry (λ p q. bytes_eq p.items q.items) es k v) ≡ map row es ++ (k.items, v) ∷ []
row_added k v [] h = refl
row_added k v (e ∷ es) h =
    row_step (bytes_eq k.items e.0.items) e e.1 (rule.entry k.items (map row es)) ((e.0, v) ∷ es)
    (insert_entry (λ p q. bytes_eq p.items q.items) es k v) (map row es ++ (k.items, v) ∷ []) h (row_added k v es)

-- ---- the stack

pub snoc : (G : List rule.Scope) (ss : List Scope) (s : Scope) → view.stacked G (ss ++ s ∷ []) ≡ view.scope s ∷ view.stacked G ss
snoc G [] s = refl
snoc G (n ∷ ss) s = snoc (view.scope n ∷ G) ss s

module _ (t : List ℕ) (ss : List Scope) (n : ℕ) (s : Scope) (some : 0 < n) (le : n ≤ length ss)
    (is : s ≡ get_or ss (n - 1) s) where
  up_to : view.stacked [] (take n ss) ≡ view.scope s ∷ view.stacked [] (take (n - 1) ss)
  up_to =
      let next : n ≡ n - 1 + 1 = omega arith in
      ap (λ (k : ℕ). view.stacked [] (take k ss)) next ∙ ap (view.stacked []) (take_more ss (n - 1) s (omega arith))
      ∙ ap (λ (x : Scope). view.stacked [] (take (n - 1) ss ++ x ∷ [])) (sym is) ∙ snoc [] (take (n - 1) ss) s

  -- the innermost of the first n has the name
  pub has_it : (o : Option rule.Meaning) (m : rule.Meaning) → Some m ≡ rule.entry t (view.scope s).names
      → rule.look_up t (view.stacked [] (take n ss)) ≡ o → Some m ≡ o
  has_it o m e h =
      ap (λ (f : Option rule.Meaning). rule.first_of f (rule.look_up t (view.stacked [] (take (n - 1) ss)))) e
      ∙ sym (ap (rule.look_up t) up_to) ∙ h

  -- it has not
  pub lacks_it : (o : Option rule.Meaning) → None ≡ rule.entry t (view.scope s).names
      → rule.look_up t (view.stacked [] (take n ss)) ≡ o → rule.look_up t (view.stacked [] (take (n - 1) ss)) ≡ o
  lacks_it o e h =
      ap (λ (f : Option rule.Meaning). rule.first_of f (rule.look_up t (view.stacked [] (take (n - 1) ss)))) e
      ∙ sym (ap (rule.look_up t) up_to) ∙ h

  -- the same of tags
  pub has_tag : (o : Option ℕ) (a : ℕ) → Some a ≡ rule.entry t (view.scope s).tags
      → rule.look_up_tag t (view.stacked [] (take n ss)) ≡ o → Some a ≡ o
  has_tag o a e h =
      ap (λ (f : Option ℕ). rule.first_of f (rule.look_up_tag t (view.stacked [] (take (n - 1) ss)))) e
      ∙ sym (ap (rule.look_up_tag t) up_to) ∙ h

  pub lacks_tag : (o : Option ℕ) → None ≡ rule.entry t (view.scope s).tags
      → rule.look_up_tag t (view.stacked [] (take n ss)) ≡ o → rule.look_up_tag t (view.stacked [] (take (n - 1) ss)) ≡ o
  lacks_tag o e h =
      ap (λ (f : Option ℕ). rule.first_of f (rule.look_up_tag t (view.stacked [] (take (n - 1) ss)))) e
      ∙ sym (ap (rule.look_up_tag t) up_to) ∙ h

-- what was pushed last
pub pushed : (ss ns : List Scope) (s : Scope) → ns ≡ ss ++ s ∷ [] → view.stacked [] ns ≡ view.scope s ∷ view.stacked [] ss
pushed ss ns s e = ap (view.stacked []) e ∙ snoc [] ss s

module _ (ss ns : List Scope) (s : Scope) (e : ss ≡ ns ++ s ∷ []) where
  pub is_last : view.innermost (view.stacked [] ss) ≡ view.scope s
  is_last = ap view.innermost (pushed ns ss s e)

  pub without_last : view.stacked [] ns ≡ view.outer (view.stacked [] ss)
  without_last = sym (ap view.outer (pushed ns ss s e))

  -- the last one is put back with a name more
  pub with_last_name : (os : List Scope) (n : Scope) (t : List ℕ) (m : rule.Meaning) → os ≡ ns ++ n ∷ []
      → (view.scope n).names ≡ (view.scope s).names ++ (t, m) ∷ [] → (view.scope n).tags ≡ (view.scope s).tags
      → view.stacked [] os ≡ view.name_in (view.stacked [] ss) t m
  with_last_name os n t m f h k =
      pushed ns os n f
      ∙ ap (λ (x : List (List ℕ × rule.Meaning)). record { names = x; tags = (view.scope n).tags } ∷ view.stacked [] ns) h
      ∙ ap (λ (x : List (List ℕ × ℕ)). record { names = (view.scope s).names ++ (t, m) ∷ []; tags = x } ∷ view.stacked [] ns) k
      ∙ sym (ap (λ (G : List rule.Scope). view.name_in G t m) (pushed ns ss s e))

  pub with_last_tag : (os : List Scope) (n : Scope) (t : List ℕ) (a : ℕ) → os ≡ ns ++ n ∷ []
      → (view.scope n).tags ≡ (view.scope s).tags ++ (t, a) ∷ [] → (view.scope n).names ≡ (view.scope s).names
      → view.stacked [] os ≡ rule.tag_in (view.stacked [] ss) t a
  with_last_tag os n t a f h k =
      pushed ns os n f
      ∙ ap (λ (x : List (List ℕ × ℕ)). record { names = (view.scope n).names; tags = x } ∷ view.stacked [] ns) h
      ∙ ap (λ (x : List (List ℕ × rule.Meaning)). record { names = x; tags = (view.scope s).tags ++ (t, a) ∷ [] } ∷ view.stacked [] ns) k
      ∙ sym (ap (λ (G : List rule.Scope). rule.tag_in G t a) (pushed ns ss s e))

pub last_is : (ss : List Scope) (s : Scope) → slice_get ss (length ss - 1) ≡ Some s → view.innermost (view.stacked [] ss) ≡ view.scope s
last_is ss s e = is_last ss (slice_range ss 0 (length ss - 1)) s (split_last ss s e (omega (arith, slice_get_within ss (length ss - 1) s e)))

pub there : (o : Option Meaning) → is_some o ≡ is_some (option_map view.meaning o)
there (Some v) = refl
there None = refl

pub left_is : (o : Option Scope) (v w : Vec Scope) → v.items ≡ w.items ++ option_to_list o
    → MatchOption o ((vec_len v ≡ 0) × (vec_len w ≡ 0)) (λ _. vec_len w + 1 ≡ vec_len v)
    → view.stacked [] w.items ≡ view.outer (view.stacked [] v.items)
left_is (Some s) v w e h = without_last v.items w.items s e
left_is None v w e h =
    let p : length v.items ≡ 0 = first_of (grind (arith, v.ok, h.0), omega (arith, h.0)) in
    let q : length w.items ≡ 0 = first_of (grind (arith, w.ok, h.1), omega (arith, h.1)) in
    ap (view.stacked []) (nil_from_length w.items q) ∙ sym (ap (λ (ss : List Scope). view.outer (view.stacked [] ss)) (nil_from_length v.items p))

-- ---- first names and tags alone, and the blocks behind them

pub with_last_cut : (ss ns os : List Scope) (s n : Scope) (a b : ℕ) → ss ≡ ns ++ s ∷ [] → os ≡ ns ++ n ∷ []
    → view.scope n ≡ view.cut a b (view.scope s) → view.stacked [] os ≡ view.rewound a b (view.stacked [] ss)
with_last_cut ss ns os s n a b e f h =
    pushed ns os n f ∙ ap (λ (x : rule.Scope). x ∷ view.stacked [] ns) h
    ∙ sym (ap (view.rewound a b) (pushed ns ss s e))

pub cut_is : (s : Scope) (a b : ℕ) (es : List (Vec ℕ × Meaning)) (ts : List (Vec ℕ × ℕ)) → es ≡ take a s.names.entries
    → ts ≡ take b s.tags.entries
    → ◌≡◌ {A = rule.Scope} (record { names = map view.entry es; tags = map view.tag ts }) (view.cut a b (view.scope s))
cut_is s a b es ts h k =
    let names : map view.entry es ≡ take a (map view.entry s.names.entries) =
    ap (map view.entry) h ∙ sym (take-map view.entry a s.names.entries) in
    let tags : map view.tag ts ≡ take b (map view.tag s.tags.entries) =
    ap (map view.tag) k ∙ sym (take-map view.tag b s.tags.entries) in
    ap (λ (x : List (List ℕ × rule.Meaning)). record { names = x; tags = map view.tag ts }) names
    ∙ ap (λ (x : List (List ℕ × ℕ)). record { names = take a (map view.entry s.names.entries); tags = x }) tags

named_block : (xs : List (List ℕ × rule.Meaning)) (i : ℕ) (x : List ℕ × rule.Meaning) → slice_get xs i ≡ Some x
    → view.blocks_of (drop i xs) ≡ view.block_of x.1 ++ view.blocks_of (drop (i + 1) xs)
named_block xs i x e =
    let h : i < length xs = slice_get_within xs i x e in
    let more : suc i ≡ i + 1 = omega arith in
    ap view.blocks_of (drop-cons xs i x h)
    ∙ ap (λ (y : List ℕ × rule.Meaning). view.block_of y.1 ++ view.blocks_of (drop (suc i) xs)) (get_or_from_slice_get xs i x x e)
    ∙ ap (λ (n : ℕ). view.block_of x.1 ++ view.blocks_of (drop n xs)) more

pub block_here : (es : List (Vec ℕ × Meaning)) (i : ℕ) (k : Vec ℕ) (m : Meaning) (o : Option ℕ) → slice_get es i ≡ Some (k, m)
    → option_to_list o ≡ view.block_of (view.meaning m)
    → view.blocks_of (drop i (map view.entry es)) ≡ option_to_list o ++ view.blocks_of (drop (i + 1) (map view.entry es))
block_here es i k m o e h =
    named_block (map view.entry es) i (k.items, view.meaning m) (slice_get-map view.entry es i ∙ ap (option_map view.entry) e)
    ∙ sym (ap (λ (bs : List ℕ). bs ++ view.blocks_of (drop (i + 1) (map view.entry es))) h)

pub none_here : (es : List (Vec ℕ × Meaning)) (i : ℕ) → length es ≤ i
    → view.blocks_of (drop i (map view.entry es)) ≡ view.blocks_of (drop (i + 1) (map view.entry es))
none_here es i h =
    let n : length (map view.entry es) ≤ i = rw (length-map es view.entry) h in
    ap view.blocks_of (drop_all i (map view.entry es) n)
    ∙ sym (ap view.blocks_of (drop_all (i + 1) (map view.entry es) (omega (arith, n))))

-- ---- functions by their names

places_alike : (t : List ℕ) (es : List (Vec ℕ × FunctionType))
    → position_or_len (λ (k : Vec ℕ). bytes_eq t k.items) (keys_of es)
    ≡ position_or_len (λ (s : rule.Signature). bytes_eq t s.name) (map view.signature es)
places_alike t [] = refl
places_alike t (e ∷ es) = ap (λ (n : ℕ). cond (not (bytes_eq t e.0.items)) (1 + n) 0) (places_alike t es)

lengths_alike : (es : List (Vec ℕ × FunctionType)) → length (keys_of es) ≡ length (map view.signature es)
lengths_alike es = length-map es (λ (e : Vec ℕ × FunctionType). e.0) ∙ sym (length-map es view.signature)

pub function_at : (t : List ℕ) (es : List (Vec ℕ × FunctionType))
    → position (λ (k : Vec ℕ). bytes_eq t k.items) (keys_of es)
    ≡ position (λ (s : rule.Signature). bytes_eq t s.name) (map view.signature es)
function_at t es =
    ap (λ (n : ℕ). cond (nat_lt n (length (keys_of es))) (Some n) None) (places_alike t es)
    ∙ ap (λ (l : ℕ). let n = position_or_len (λ (s : rule.Signature). bytes_eq t s.name) (map view.signature es) in cond (nat_lt n l) (Some n) None) (lengths_alike es)

pub function_added : (k : Vec ℕ) (f : FunctionType) (es ns : List (Vec ℕ × FunctionType))
    → position (λ (s : rule.Signature). bytes_eq k.items s.name) (map view.signature es) ≡ None
    → ns ≡ insert_entry (λ p q. bytes_eq p.items q.items) es k f
    → map view.signature ns ≡ map view.signature es ++ view.signature (k, f) ∷ []
function_added k f es ns h e =
    let absent = Missing-position (λ (q : Vec ℕ). bytes_eq k.items q.items) es (function_at k.items es ∙ h) in
    ap (map view.signature) (e ∙ insert_entry-absent (λ (p : Vec ℕ) (q : Vec ℕ). bytes_eq p.items q.items) k f es absent.absent)
    ∙ map_push view.signature es (k, f)

pub function_typed : (r : Option (Bor (Vec ℕ) × Bor FunctionType)) (es : List (Vec ℕ × FunctionType)) (n : ℕ)
    → option_map deref_pair r ≡ slice_get es n
    → option_map (λ (p : Bor (Vec ℕ) × Bor FunctionType). view.function_type p.1.now) r
    ≡ option_map view.type_of (slice_get (map view.signature es) n)
function_typed r es n e =
    of r ∙ ap (λ (o : Option (Vec ℕ × FunctionType)). option_map view.type_of (option_map view.signature o)) e
    ∙ sym (ap (option_map view.type_of) (slice_get-map view.signature es n))
  where
    of : (r : Option (Bor (Vec ℕ) × Bor FunctionType))
        → option_map (λ (p : Bor (Vec ℕ) × Bor FunctionType). view.function_type p.1.now) r
        ≡ option_map view.type_of (option_map view.signature (option_map deref_pair r))
    of None = refl
    of (Some p) = refl
