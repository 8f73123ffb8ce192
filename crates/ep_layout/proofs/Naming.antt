-- The places of names, as members are noted one by one.
use Rattle.std.proofs.Common.{◌≡◌, ℕ, ◌<◌, Bool, true, false, cond, List, [], ◌∷◌, ◌++◌, length, map, slice_get, find}
use Rattle.ep_int.proofs.Basics.{is_some-some, bytes_eq-equal}
use Rattle.std.proofs.Common.{Option, Some, None, option_map, is_some, bytes_eq, refl, sym, ◌∙◌, ap, subst, inl, inr}
use Rattle.std.proofs.Common.{true≢false, arith}
use Rattle.std.specs.Global.{Vec}
use Rattle.std.specs.Map.{lookup}
use Rattle.std.specs.List.{position_or_len}
use Rattle.indexmap.specs.IndexMap.{insert_entry}
use Rattle.ep_layout.specs.declared.types.Member.{Member}
use Rattle.ep_layout.specs.Places.{place_of, ArePlaces}
use Rattle.ep_layout.specs.Table.{MemberRow}
use Rattle.ep_layout.specs.Views.{member_view, members_view}
use Rattle.ep_layout.proofs.Options.{some_or_none}
use Rattle.ep_layout.proofs.Positions.{position_stays, position_push, position_fails, position_none, position_is}
use Rattle.std.proofs.lemmas.Option.{slice_get_past}
use Rattle.std.proofs.lemmas.List.Folds.{find_at}

abbrev pub Entries : Type 0
Entries = List (Vec ℕ × ℕ)

abbrev pub is_key : List ℕ → Vec ℕ → Bool
is_key name k = bytes_eq name k.items

abbrev pub same_key : Vec ℕ → Vec ℕ → Bool
same_key k j = bytes_eq k.items j.items

step_last : (b : Bool) (x : ℕ) (o r z : Option ℕ) → cond b (Some x) o ≡ None → (o ≡ None → r ≡ z) → cond b (Some x) r ≡ z
step_last true x o r z h f = absurd cc
step_last false x o r z h f = f h

last_entry : (test : Vec ℕ → Bool) (es : Entries) (k : Vec ℕ) (v : ℕ) → lookup test es ≡ None → lookup test (es ++ (k, v) ∷ []) ≡ cond (test k) (Some v) None
last_entry test [] k v h = refl
last_entry test (e ∷ es) k v h = step_last (test e.0) e.1 (lookup test es) (lookup test (es ++ (k, v) ∷ [])) _ h (last_entry test es k v)

step_old : (b : Bool) (x i : ℕ) (o r : Option ℕ) → cond b (Some x) o ≡ Some i → (o ≡ Some i → r ≡ Some i) → cond b (Some x) r ≡ Some i
step_old true x i o r h f = h
step_old false x i o r h f = f h

old_entry : (test : Vec ℕ → Bool) (es : Entries) (k : Vec ℕ) (v i : ℕ) → lookup test es ≡ Some i → lookup test (es ++ (k, v) ∷ []) ≡ Some i
old_entry test [] k v i h = absurd cc
old_entry test (e ∷ es) k v i h = step_old (test e.0) e.1 i (lookup test es) (lookup test (es ++ (k, v) ∷ [])) h (old_entry test es k v i)

step_new : (b : Bool) (x : ℕ) (o : Option ℕ) (xs ys zs : Entries) (e : Vec ℕ × ℕ) → cond b (Some x) o ≡ None → (o ≡ None → ys ≡ zs) → cond b xs (e ∷ ys) ≡ e ∷ zs
step_new true x o xs ys zs e h f = absurd cc
step_new false x o xs ys zs e h f = ap (λ (l : Entries). e ∷ l) (f h)

new_entry : (k : Vec ℕ) (v : ℕ) (es : Entries) → lookup (is_key k.items) es ≡ None → insert_entry same_key es k v ≡ es ++ (k, v) ∷ []
new_entry k v [] h = refl
new_entry k v (e ∷ es) h = step_new (is_key k.items e.0) e.1 (lookup (is_key k.items) es) ((e.0, v) ∷ es) (insert_entry same_key es k v) (es ++ (k, v) ∷ []) e h (new_entry k v es)

pub places_none : (ms : List Member) (es : Entries) → ms ≡ [] → es ≡ [] → ArePlaces ms es
places_none ms es p q = λ name. rw (p, q) refl

-- a name that is noted already
pub places_there : (ms : List Member) (m : Member) (es : Entries) → ArePlaces ms es → is_some (lookup (is_key m.name.items) es) ≡ true → ArePlaces (ms ++ m ∷ []) es
places_there ms m es h there name = elim (some_or_none (place_of name ms)) [
  | inl p ↦ h name ∙ p.1 ∙ sym (position_stays _ ms m p.0 p.1)
  | inr none ↦ h name ∙ none ∙ sym (position_fails _ ms m none (differs (bytes_eq name m.name.items) refl none))
]
  where
    differs : (b : Bool) → bytes_eq name m.name.items ≡ b → place_of name ms ≡ None → bytes_eq name m.name.items ≡ false
    differs false e none = e
    differs true e none =
        let s = is_some-some (lookup (is_key m.name.items) es) there in
        let same = bytes_eq-equal name m.name.items e in
        let at : lookup (is_key name) es ≡ Some s.0 = subst (λ (n : List ℕ). lookup (is_key n) es ≡ Some s.0) (sym same) s.1 in
        absurd (clash (sym at ∙ h name ∙ none))
      where
        clash : {x : ℕ} → Some x ≡ None → ⊥
        clash e = cc

-- a new name
pub places_new : (ms : List Member) (m : Member) (es fs : Entries) (k : Vec ℕ) (v : ℕ) → ArePlaces ms es → is_some (lookup (is_key m.name.items) es) ≡ false
    → fs ≡ insert_entry same_key es k v → k.items ≡ m.name.items → v ≡ length ms → ArePlaces (ms ++ m ∷ []) fs
places_new ms m es fs k v h new e named at name =
    let absent : lookup (is_key k.items) es ≡ None = subst (λ (n : List ℕ). lookup (is_key n) es ≡ None) (sym named) (none_is (lookup (is_key m.name.items) es) new) in
    let grown : fs ≡ es ++ (k, v) ∷ [] = e ∙ new_entry k v es absent in
    ap (lookup (is_key name)) grown ∙ elim (some_or_none (place_of name ms)) [
      | inl p ↦ old_entry (is_key name) es k v p.0 (h name ∙ p.1) ∙ sym (position_stays _ ms m p.0 p.1)
      | inr none ↦ last_entry (is_key name) es k v (h name ∙ none) ∙ ap (λ (n : List ℕ). cond (bytes_eq name n) (Some v) None) named ∙ last (bytes_eq name m.name.items) refl none
    ]
  where
    none_is : (o : Option ℕ) → is_some o ≡ false → o ≡ None
    none_is None q = refl
    none_is (Some x) q = absurd (true≢false q)

    last : (b : Bool) → bytes_eq name m.name.items ≡ b → place_of name ms ≡ None → cond b (Some v) None ≡ place_of name (ms ++ m ∷ [])
    last true q none = ap Some at ∙ sym (position_push _ ms m none q)
    last false q none = sym (position_fails _ ms m none q)

find_step : {X Y : Type 0} (v : X → Y) (b : Bool) (x : X) (o : Option Y) (r : Option X) → o ≡ option_map v r → cond b (Some (v x)) o ≡ option_map v (cond b (Some x) r)
find_step v true x o r h = refl
find_step v false x o r h = h

find_map : {X Y : Type 0} (v : X → Y) (q : Y → Bool) (xs : List X) → find q (map v xs) ≡ option_map v (find (λ x. q (v x)) xs)
find_map v q [] = refl
find_map v q (x ∷ xs) = find_step v (q (v x)) x (find q (map v xs)) (find (λ y. q (v y)) xs) (find_map v q xs)

named_is : (name : List ℕ) (ms : List Member) → find (λ (m : MemberRow). bytes_eq name m.name) (members_view ms) ≡ option_map member_view (slice_get ms (position_or_len (λ (m : Member). bytes_eq name m.name.items) ms))
named_is name ms = find_map member_view (λ (m : MemberRow). bytes_eq name m.name) ms ∙ ap (option_map member_view) (find_at (λ (m : Member). bytes_eq name m.name.items) ms)

-- the first member of a name stands at its place
pub named_at : (name : List ℕ) (ms : List Member) (i : ℕ) → place_of name ms ≡ Some i → (i < length ms) × (find (λ (m : MemberRow). bytes_eq name m.name) (members_view ms) ≡ option_map member_view (slice_get ms i))
named_at name ms i h =
    let s = position_is _ ms i h in
    (s.1, named_is name ms ∙ ap (λ (j : ℕ). option_map member_view (slice_get ms j)) s.0)

pub named_nowhere : (name : List ℕ) (ms : List Member) → place_of name ms ≡ None → find (λ (m : MemberRow). bytes_eq name m.name) (members_view ms) ≡ None
named_nowhere name ms h =
    named_is name ms ∙ ap (λ (j : ℕ). option_map member_view (slice_get ms j)) (position_none _ ms h) ∙ ap (option_map member_view) (slice_get_past ms (length ms) (omega arith))
