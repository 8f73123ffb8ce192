-- Names and tags in scopes: what is found, and what stays when a tag comes.
use Rattle.std.proofs.Common.{◌≡◌, ℕ, Bool, true, false, cond, List, [], ◌∷◌, ◌++◌, Option, Some, None, bytes_eq}
use Rattle.ep_int.proofs.Basics.{append-assoc, bytes_eq-equal}
use Rattle.std.proofs.Common.{refl, sym, ap, ◌∙◌, subst, ◌⊎◌, inl, inr}
use Rattle.std.proofs.lemmas.Slice.Eq.{bytes_eq-Decides}
use Rattle.ep_typing.specs.Env.{Meaning, Scope, entry, first_of, look_up, look_up_tag, tag_in}
use Rattle.ep_well_formed_laws.specs.Environments.{EachMeaning, EachName, EachOf, EachTag}

-- ---- texts

pub text_itself : (x : List ℕ) → bytes_eq x x ≡ true
text_itself x = (bytes_eq-Decides x x).1 refl

-- ---- entries

pub entry_front : {A : Type 0} (t : List ℕ) (xs ys : List (List ℕ × A)) (x : A) → entry t xs ≡ Some x
    → entry t (xs ++ ys) ≡ Some x
entry_front t [] ys x h = absurd cc
entry_front t (y ∷ xs) ys x h = by (bytes_eq t y.0) h (entry_front t xs ys x)
  where
    by : (b : Bool) → cond b (Some y.1) (entry t xs) ≡ Some x → (entry t xs ≡ Some x → entry t (xs ++ ys) ≡ Some x)
        → cond b (Some y.1) (entry t (xs ++ ys)) ≡ Some x
    by true q f = q
    by false q f = f q

pub entry_behind : {A : Type 0} (t : List ℕ) (xs ys : List (List ℕ × A)) → entry t xs ≡ None
    → entry t (xs ++ ys) ≡ entry t ys
entry_behind t [] ys h = refl
entry_behind t (y ∷ xs) ys h = by (bytes_eq t y.0) h (entry_behind t xs ys)
  where
    by : (b : Bool) → cond b (Some y.1) (entry t xs) ≡ None → (entry t xs ≡ None → entry t (xs ++ ys) ≡ entry t ys)
        → cond b (Some y.1) (entry t (xs ++ ys)) ≡ entry t ys
    by true q f = absurd cc
    by false q f = f q

-- ---- tags that come

none_first : {A : Type 0} (a b : Option A) → first_of a b ≡ None → (a ≡ None) × (b ≡ None)
none_first None b h = (refl, h)
none_first (Some x) b h = absurd cc

-- a tag that no scope has is found once it has come, unless there is no scope
pub tag_found : (t : List ℕ) (a : ℕ) (ss : List Scope) → look_up_tag t ss ≡ None
    → (look_up_tag t (tag_in ss t a) ≡ Some a) ⊎ (ss ≡ [])
tag_found t a [] h = inr refl
tag_found t a (s ∷ ss) h =
    let n = none_first (entry t s.tags) (look_up_tag t ss) h in
    let e : entry t (s.tags ++ (t, a) ∷ []) ≡ Some a =
    entry_behind t s.tags ((t, a) ∷ []) n.0 ∙ ap (λ (b : Bool). cond b (Some a) None) (text_itself t) in
    inl (ap (λ (o : Option ℕ). first_of o (look_up_tag t ss)) e)

-- and every other tag means what it did
pub tag_stays : (t u : List ℕ) (a b : ℕ) (ss : List Scope) → look_up_tag t ss ≡ None → look_up_tag u ss ≡ Some b
    → look_up_tag u (tag_in ss t a) ≡ Some b
tag_stays t u a b [] h k = absurd cc
tag_stays t u a b (s ∷ ss) h k = by (entry u s.tags) refl k
  where
    other : (x : Bool) → bytes_eq u t ≡ x → look_up_tag u ss ≡ Some b → entry u s.tags ≡ None
        → entry u ((t, a) ∷ []) ≡ None
    other true q e n =
        let same : u ≡ t = bytes_eq-equal u t q in
        let bad : first_of (entry t s.tags) (look_up_tag t ss) ≡ Some b =
        subst (λ (v : List ℕ). first_of (entry v s.tags) (look_up_tag v ss) ≡ Some b) same
        (ap (λ (o : Option ℕ). first_of o (look_up_tag u ss)) n ∙ e) in
        absurd (let worse = sym h ∙ bad in cc)
    other false q e n = ap (λ (x : Bool). cond x (Some a) None) q

    by : (o : Option ℕ) → entry u s.tags ≡ o → first_of o (look_up_tag u ss) ≡ Some b
        → first_of (entry u (s.tags ++ (t, a) ∷ [])) (look_up_tag u ss) ≡ Some b
    by None q e =
        let n = entry_behind u s.tags ((t, a) ∷ []) q ∙ other (bytes_eq u t) refl e q in
        ap (λ (o : Option ℕ). first_of o (look_up_tag u ss)) n ∙ e
    by (Some x) q e =
        let n = entry_front u s.tags ((t, a) ∷ []) x q in
        ap (λ (o : Option ℕ). first_of o (look_up_tag u ss)) n ∙ e

-- ---- what holds of each

pub name_more : (P Q : Meaning → Type 0) → ((m : Meaning) → P m → Q m) → (xs : List (List ℕ × Meaning)) → EachName P xs
    → EachName Q xs
name_more P Q f [] h = tt
name_more P Q f (x ∷ xs) h = (f x.1 h.0, name_more P Q f xs h.1)

pub meaning_more : (P Q : Meaning → Type 0) → ((m : Meaning) → P m → Q m) → (ss : List Scope) → EachMeaning P ss
    → EachMeaning Q ss
meaning_more P Q f [] h = tt
meaning_more P Q f (s ∷ ss) h = (name_more P Q f s.names h.0, meaning_more P Q f ss h.1)

of_more : (P Q : ℕ → Type 0) → ((a : ℕ) → P a → Q a) → (xs : List (List ℕ × ℕ)) → EachOf P xs → EachOf Q xs
of_more P Q f [] h = tt
of_more P Q f (x ∷ xs) h = (f x.1 h.0, of_more P Q f xs h.1)

pub tag_more : (P Q : ℕ → Type 0) → ((a : ℕ) → P a → Q a) → (ss : List Scope) → EachTag P ss → EachTag Q ss
tag_more P Q f [] h = tt
tag_more P Q f (s ∷ ss) h = (of_more P Q f s.tags h.0, tag_more P Q f ss h.1)

of_push : (P : ℕ → Type 0) (xs : List (List ℕ × ℕ)) (t : List ℕ) (a : ℕ) → EachOf P xs → P a → EachOf P (xs ++ (t, a) ∷ [])
of_push P [] t a h k = (k, tt)
of_push P (x ∷ xs) t a h k = (h.0, of_push P xs t a h.1 k)

pub tag_push : (P : ℕ → Type 0) (ss : List Scope) (t : List ℕ) (a : ℕ) → EachTag P ss → P a → EachTag P (tag_in ss t a)
tag_push P [] t a h k = tt
tag_push P (s ∷ ss) t a h k = (of_push P s.tags t a h.0 k, h.1)

pub name_push : (P : Meaning → Type 0) (xs : List (List ℕ × Meaning)) (t : List ℕ) (m : Meaning) → EachName P xs → P m
    → EachName P (xs ++ (t, m) ∷ [])
name_push P [] t m h k = (k, tt)
name_push P (x ∷ xs) t m h k = (h.0, name_push P xs t m h.1 k)

entry_is : (P : Meaning → Type 0) (t : List ℕ) (xs : List (List ℕ × Meaning)) (m : Meaning) → EachName P xs
    → entry t xs ≡ Some m → P m
entry_is P t [] m h e = absurd cc
entry_is P t (x ∷ xs) m h e = by (bytes_eq t x.0) e (entry_is P t xs m h.1)
  where
    by : (b : Bool) → cond b (Some x.1) (entry t xs) ≡ Some m → (entry t xs ≡ Some m → P m) → P m
    by true q f = let same : x.1 ≡ m = cc in subst P same h.0
    by false q f = f q

-- what holds of each meaning holds of what a name means
pub looked_up : (P : Meaning → Type 0) (t : List ℕ) (ss : List Scope) (m : Meaning) → EachMeaning P ss
    → look_up t ss ≡ Some m → P m
looked_up P t [] m h e = absurd cc
looked_up P t (s ∷ ss) m h e = by (entry t s.names) refl e (looked_up P t ss m h.1)
  where
    by : (o : Option Meaning) → entry t s.names ≡ o → first_of o (look_up t ss) ≡ Some m → (look_up t ss ≡ Some m → P m)
        → P m
    by None q e f = f e
    by (Some x) q e f = let same : x ≡ m = cc in subst P same (entry_is P t s.names x h.0 q)

pub tag_entry_is : (P : ℕ → Type 0) (t : List ℕ) (xs : List (List ℕ × ℕ)) (a : ℕ) → EachOf P xs → entry t xs ≡ Some a → P a
tag_entry_is P t [] a h e = absurd cc
tag_entry_is P t (x ∷ xs) a h e = by (bytes_eq t x.0) e (tag_entry_is P t xs a h.1)
  where
    by : (b : Bool) → cond b (Some x.1) (entry t xs) ≡ Some a → (entry t xs ≡ Some a → P a) → P a
    by true q f = let same : x.1 ≡ a = cc in subst P same h.0
    by false q f = f q

pub tag_looked_up : (P : ℕ → Type 0) (t : List ℕ) (ss : List Scope) (a : ℕ) → EachTag P ss → look_up_tag t ss ≡ Some a → P a
tag_looked_up P t [] a h e = absurd cc
tag_looked_up P t (s ∷ ss) a h e = by (entry t s.tags) refl e (tag_looked_up P t ss a h.1)
  where
    by : (o : Option ℕ) → entry t s.tags ≡ o → first_of o (look_up_tag t ss) ≡ Some a → (look_up_tag t ss ≡ Some a → P a)
        → P a
    by None q e f = f e
    by (Some x) q e f = let same : x ≡ a = cc in subst P same (tag_entry_is P t s.tags x h.0 q)

-- ---- scopes with the same names, to which tags may have come

no_tag_more : (xs : List (List ℕ × ℕ)) → xs ++ [] ≡ xs
no_tag_more [] = refl
no_tag_more (x ∷ xs) = ap (λ (ys : List (List ℕ × ℕ)). x ∷ ys) (no_tag_more xs)

abbrev pub HaveNames : List Scope → List Scope → Type 0
HaveNames [] [] = Unit {0}
HaveNames [] (u ∷ us) = ⊥
HaveNames (s ∷ ss) [] = ⊥
HaveNames (s ∷ ss) (u ∷ us) =
    (s.names ≡ u.names) × HaveNames ss us × ((ts : List (List ℕ × ℕ)) × (s.tags ++ ts ≡ u.tags))

pub same_names : (ss : List Scope) → HaveNames ss ss
same_names [] = tt
same_names (s ∷ ss) = (refl, same_names ss, ([], no_tag_more s.tags))

pub names_on : (ss us vs : List Scope) → HaveNames ss us → HaveNames us vs → HaveNames ss vs
names_on [] [] vs h k = k
names_on [] (u ∷ us) vs h k = absurd h
names_on (s ∷ ss) [] vs h k = absurd h
names_on (s ∷ ss) (u ∷ us) [] h k = absurd k
names_on (s ∷ ss) (u ∷ us) (v ∷ vs) h k = (
  h.0 ∙ k.0,
  names_on ss us vs h.1 k.1,
  (
    h.2.0 ++ k.2.0,
    sym (append-assoc s.tags h.2.0 k.2.0) ∙ ap (λ (ts : List (List ℕ × ℕ)). ts ++ k.2.0) h.2.1 ∙ k.2.1,
  ),
)

pub names_tagged : (ss : List Scope) (t : List ℕ) (a : ℕ) → HaveNames ss (tag_in ss t a)
names_tagged [] t a = tt
names_tagged (s ∷ ss) t a = (refl, same_names ss, ((t, a) ∷ [], refl))

pub same_meaning : (ss us : List Scope) → HaveNames ss us → (t : List ℕ) → look_up t ss ≡ look_up t us
same_meaning [] [] h t = refl
same_meaning [] (u ∷ us) h t = absurd h
same_meaning (s ∷ ss) [] h t = absurd h
same_meaning (s ∷ ss) (u ∷ us) h t =
    ap (λ (xs : List (List ℕ × Meaning)). first_of (entry t xs) (look_up t ss)) h.0
    ∙ ap (first_of (entry t u.names)) (same_meaning ss us h.1 t)

pub each_same : (P : Meaning → Type 0) (ss us : List Scope) → HaveNames ss us → EachMeaning P ss → EachMeaning P us
each_same P [] [] h k = tt
each_same P [] (u ∷ us) h k = absurd h
each_same P (s ∷ ss) [] h k = absurd h
each_same P (s ∷ ss) (u ∷ us) h k = (subst (EachName P) h.0 k.0, each_same P ss us h.1 k.1)
