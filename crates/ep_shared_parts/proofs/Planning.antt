-- Parts that take the places of others: what all items come to.
use Rattle.std.proofs.Common.{◌≡◌, ℕ, zero, suc, ◌<◌, ◌≤◌, ◌-◌, Bool, true, false, ◌||◌, ◌⊎◌, inl, inr, nat_eq, List}
use Rattle.std.proofs.lemmas.List.{get_or_default}
use Rattle.std.proofs.Common.{[], ◌∷◌, ◌++◌, map, length, take, drop, set, get_or, ⊎_elim, refl, sym, ◌∙◌, ap, subst}
use Rattle.std.proofs.Common.{arith}
use Rattle.std.proofs.lemmas.Bool.Decides.{nat_tests}
use Rattle.std.proofs.lemmas.List.{length-set, get_or-set_same, get_or-set_other}
use Rattle.ep_shared_parts.specs.declared.parts.Part.{Part}
use Rattle.ep_shared_parts.specs.declared.parts.Edit.{Edit}
use Rattle.ep_shared_parts.specs.Spread.{outline, outlines, all_items, AreFrom, AreBelow, EndsBefore, AreSpread}
use Rattle.ep_shared_parts.specs.Spread.{installed, AreWithin}
use Rattle.ep_shared_parts.specs.Plans.{AreOutside, is_edited, IsEdit, AreEdits, KeepsEdits, Covers}

-- ---- edits

pub edits_within : {X : Type 0} (h : List X → List X) (ps : List (Part X)) (es : List (Edit X)) → AreEdits h ps es
    → AreWithin (length ps) es
edits_within h ps [] a = tt
edits_within h ps (e ∷ es) a = (a.0.within, edits_within h ps es a.1)

pub edits_append : {X : Type 0} (h : List X → List X) (ps : List (Part X)) (es fs : List (Edit X)) → AreEdits h ps es
    → AreEdits h ps fs → AreEdits h ps (es ++ fs)
edits_append h ps [] fs a b = b
edits_append h ps (e ∷ es) fs a b = (a.0, edits_append h ps es fs a.1 b)

pub record IsDone {X : Type 0} (h : List X → List X) (p q : Part X) : Type 0 where
  pub start : q.start ≡ p.start
  pub items : q.items.value.items ≡ h p.items.value.items

edit_done : {X : Type 0} (h : List X → List X) (ps qs : List (Part X)) (e : Edit X) (i : ℕ) (d : Part X)
    → IsEdit h ps e → length qs ≡ length ps → e.at ≡ i → IsDone h (get_or ps i d) (get_or (set qs e.at e.part) i d)
edit_done h ps qs e i d a l q =
    let here : get_or (set qs e.at e.part) e.at d ≡ e.part = get_or-set_same qs e.at e.part d (omega (
      arith,
      a.within,
      l,
    )) in
    let there : get_or ps e.at e.part ≡ get_or ps e.at d = get_or_default ps e.at e.part d a.within in
    let done : IsDone h (get_or ps e.at d) (get_or (set qs e.at e.part) e.at d) = record {
      start = ap (λ z. z.start) here ∙ a.start ∙ ap (λ z. z.start) there;
      items = ap (λ z. z.items.value.items) here ∙ a.items ∙ ap (λ z. h z.items.value.items) there;
    } in
    subst (λ n. IsDone h (get_or ps n d) (get_or (set qs e.at e.part) n d)) q done

pub installed_at : {X : Type 0} (h : List X → List X) (es : List (Edit X)) (ps qs : List (Part X))
    → AreEdits h ps es → length qs ≡ length ps
    → ((i : ℕ) (d : Part X) → i < length ps → is_edited i es ≡ false → IsDone h (get_or ps i d) (get_or qs i d))
    → (i : ℕ) (d : Part X) → i < length ps → IsDone h (get_or ps i d) (get_or (installed es qs) i d)
installed_at h [] ps qs a l f i d b = f i d b refl
installed_at {X = X} h (e ∷ es) ps qs a l f i d b =
    installed_at h es ps (set qs e.at e.part) a.1 (length-set qs e.at e.part ∙ l) step i d b
  where
    by : (j : ℕ) (c : Part X) → j < length ps → is_edited j es ≡ false → (t : Bool) → nat_eq e.at j ≡ t → IsDone h
        (get_or ps j c) (get_or (set qs e.at e.part) j c)
    by j c m n true q = edit_done h ps qs e j c a.0 l (grind (arith, nat_tests, q))
    by j c m n false q =
        let other : get_or (set qs e.at e.part) j c ≡ get_or qs j c = get_or-set_other qs e.at j e.part c (λ z. let w
        : nat_eq e.at j ≡ true = grind (arith, nat_tests, z) in absurd (let v : false ≡ true = sym q ∙ w in cc)) in
        subst (IsDone h (get_or ps j c)) (sym other) (f j c m (ap (λ x. x || is_edited j es) q ∙ n))

    step : (j : ℕ) (c : Part X) → j < length ps → is_edited j es ≡ false → IsDone h (get_or ps j c) (get_or (set qs
        e.at e.part) j c)
    step j c m n = by j c m n (nat_eq e.at j) refl

pub as_many_installed : {X : Type 0} (es : List (Edit X)) (qs : List (Part X)) → length (installed es qs) ≡ length qs
as_many_installed [] qs = refl
as_many_installed (e ∷ es) qs = as_many_installed es (set qs e.at e.part) ∙ length-set qs e.at e.part

-- ---- part by part

abbrev pub Becomes : {X : Type 0} → (List X → List X) → List (Part X) → List (Part X) → Type 0
Becomes h [] [] = Unit {0}
Becomes h [] (q ∷ qs) = ⊥
Becomes h (p ∷ ps) [] = ⊥
Becomes h (p ∷ ps) (q ∷ qs) = IsDone h p q × Becomes h ps qs

pub becomes_from : {X : Type 0} (h : List X → List X) (ps qs : List (Part X)) → length qs ≡ length ps
    → ((i : ℕ) (d : Part X) → i < length ps → IsDone h (get_or ps i d) (get_or qs i d)) → Becomes h ps qs
becomes_from h [] [] l f = tt
becomes_from h [] (q ∷ qs) l f = absurd (omega arith)
becomes_from h (p ∷ ps) [] l f = absurd (omega arith)
becomes_from h (p ∷ ps) (q ∷ qs) l f = (
  f 0 p (omega arith),
  becomes_from h ps qs (omega arith) (λ i d b. f (suc i) d
      (omega arith)),
)

-- h goes part by part
pub record GoesApart {X : Type 0} (h : List X → List X) : Type 0 where
  pub none : h [] ≡ []
  pub both : (xs ys : List X) → h (xs ++ ys) ≡ h xs ++ h ys

-- the numbers after h are among those before
pub record KeepsNumbers {X : Type 0} (number : X → ℕ) (h : List X → List X) : Type 0 where
  pub above : (a : ℕ) (xs : List X) → AreFrom a (map number xs) → AreFrom a (map number (h xs))
  pub below : (a : ℕ) (xs : List X) → AreBelow a (map number xs) → AreBelow a (map number (h xs))

pub becomes_items : {X : Type 0} (h : List X → List X) (ps qs : List (Part X)) → GoesApart h → Becomes h ps qs
    → all_items qs ≡ h (all_items ps)
becomes_items h [] [] g b = sym g.none
becomes_items h [] (q ∷ qs) g b = absurd b
becomes_items h (p ∷ ps) [] g b = absurd b
becomes_items h (p ∷ ps) (q ∷ qs) g b =
    ap (λ xs. xs ++ all_items qs) b.0.items ∙ ap (λ xs. h p.items.value.items ++ xs) (becomes_items h ps qs g b.1) ∙
    sym (g.both p.items.value.items (all_items ps))

pub becomes_spread : {X : Type 0} (number : X → ℕ) (h : List X → List X) (ps qs : List (Part X))
    → KeepsNumbers number h → Becomes h ps qs → AreSpread (outlines number ps) → AreSpread (outlines number qs)
becomes_spread number h [] [] k b s = tt
becomes_spread number h [] (q ∷ qs) k b s = absurd b
becomes_spread number h (p ∷ ps) [] k b s = absurd b
becomes_spread {X = X} number h (p ∷ ps) (q ∷ qs) k b s = (
  subst (λ n. AreFrom n (map number q.items.value.items)) (sym b.0.start) (subst (λ zs. AreFrom p.start (map number
      zs)) (sym b.0.items) (k.above p.start p.items.value.items s.0)),
  ends ps qs b.1 s.1,
  becomes_spread number h ps qs k b.1 s.2,
)
  where
    ends : (ts us : List (Part X)) → Becomes h ts us → EndsBefore (outline number p) (outlines number ts)
        → EndsBefore (outline number q) (outlines number us)
    ends [] [] c e = tt
    ends [] (u ∷ us) c e = absurd c
    ends (t ∷ ts) [] c e = absurd c
    ends (t ∷ ts) (u ∷ us) c e =
        let le : q.start ≤ u.start = omega (arith, b.0.start, c.0.start, e.0) in (
          le,
          subst (λ n. AreBelow n (map number q.items.value.items)) (sym c.0.start) (subst (λ zs. AreBelow t.start
              (map number zs)) (sym b.0.items) (k.below t.start p.items.value.items e.1)),
        )

-- parts that are not edited stay as they are
pub plan_becomes : {X : Type 0} (h : List X → List X) (ps : List (Part X)) (es : List (Edit X)) → AreEdits h ps es
    → ((i : ℕ) (d : Part X) → i < length ps → is_edited i es ≡ false
    → h (get_or ps i d).items.value.items ≡ (get_or ps i d).items.value.items)
    → Becomes h ps (installed es ps)
plan_becomes h ps es a f =
    becomes_from h ps (installed es ps) (as_many_installed es ps)
    (installed_at h es ps ps a refl (λ i d b n. record { start = refl; items = sym (f i d b n) }))

pub uncovered : {X : Type 0} (number : X → ℕ) (from last : ℕ) (ps : List (Part X)) (es : List (Edit X)) (i : ℕ) (d :
    Part X)
    → Covers number from last ps es → i < length ps → is_edited i es ≡ false
    → AreOutside from last (map number (get_or ps i d).items.value.items)
uncovered number from last ps es i d c b n = ⊎_elim (λ e. absurd (let v : false ≡ true = sym n ∙ e in cc)) (λ o. o)
    (c i d b)

-- ---- what a span leaves out

outside_below : (from last : ℕ) (ns : List ℕ) → AreBelow from ns → AreOutside from last ns
outside_below from last [] h = tt
outside_below from last (n ∷ ns) h = (
  λ a b. let lt : n < from = h.0 in omega (arith, lt, a),
  outside_below from last
      ns h.1,
)

outside_above : (from last : ℕ) (ns : List ℕ) → AreFrom (suc last) ns → AreOutside from last ns
outside_above from last [] h = tt
outside_above from last (n ∷ ns) h = (
  λ a b. let le : suc last ≤ n = h.0 in omega (arith, le, b),
  outside_above from
      last ns h.1,
)

first_below : {X : Type 0} (number : X → ℕ) (k : ℕ) (xs ys : List X) → AreBelow k (map number (xs ++ ys))
    → AreBelow k (map number xs) × AreBelow k (map number ys)
first_below number k [] ys h = (tt, h)
first_below number k (x ∷ xs) ys h = let r = first_below number k xs ys h.1 in ((h.0, r.0), r.1)

first_above : {X : Type 0} (number : X → ℕ) (k : ℕ) (xs ys : List X) → AreFrom k (map number (xs ++ ys))
    → AreFrom k (map number xs) × AreFrom k (map number ys)
first_above number k [] ys h = (tt, h)
first_above number k (x ∷ xs) ys h = let r = first_above number k xs ys h.1 in ((h.0, r.0), r.1)

part_below : {X : Type 0} (number : X → ℕ) (k : ℕ) (ps : List (Part X)) (f i : ℕ) (d : Part X) → i < f → i < length ps
    → AreBelow k (map number (all_items (take f ps))) → AreBelow k (map number (get_or ps i d).items.value.items)
part_below number k [] f i d lt b h = absurd (omega arith)
part_below number k (p ∷ ps) zero i d lt b h = absurd (omega arith)
part_below number k (p ∷ ps) (suc f) zero d lt b h = (first_below number k p.items.value.items (all_items (take f
    ps)) h).0
part_below number k (p ∷ ps) (suc f) (suc i) d lt b h = part_below number k ps f i d (omega arith) (omega arith)
    (first_below number k p.items.value.items (all_items (take f ps)) h).1

part_above : {X : Type 0} (number : X → ℕ) (k : ℕ) (ps : List (Part X)) (e i : ℕ) (d : Part X) → e ≤ i → i < length ps
    → AreFrom k (map number (all_items (drop e ps))) → AreFrom k (map number (get_or ps i d).items.value.items)
part_above number k [] e i d le b h = absurd (omega arith)
part_above number k (p ∷ ps) zero zero d le b h = (first_above number k p.items.value.items (all_items ps) h).0
part_above number k (p ∷ ps) zero (suc i) d le b h = part_above number k ps zero i d (omega arith) (omega arith)
    (first_above number k p.items.value.items (all_items ps) h).1
part_above number k (p ∷ ps) (suc e) zero d le b h = absurd (omega arith)
part_above number k (p ∷ ps) (suc e) (suc i) d le b h = part_above number k ps e i d (omega arith) (omega arith) h

pub span_covers : {X : Type 0} (number : X → ℕ) (from last : ℕ) (ps : List (Part X)) (es : List (Edit X)) (f e : ℕ)
    → AreBelow from (map number (all_items (take f ps)))
    → AreFrom (suc last) (map number (all_items (drop e ps)))
    → ((k : ℕ) → f ≤ k → k < e → is_edited k es ≡ true) → Covers number from last ps es
span_covers number from last ps es f e b a h i d l = by (nat_eq (suc i - f) 0) refl
  where
    rest : (t : Bool) → nat_eq (e - i) 0 ≡ t → f ≤ i → (is_edited i es ≡ true) ⊎ AreOutside from last (map number
        (get_or ps i d).items.value.items)
    rest true q g = inr (outside_above from last (map number (get_or ps i d).items.value.items) (part_above number
        (suc last) ps e i d (grind (arith, nat_tests, q)) l a))
    rest false q g = inl (h i g (grind (arith, nat_tests, q)))

    by : (t : Bool) → nat_eq (suc i - f) 0 ≡ t → (is_edited i es ≡ true) ⊎ AreOutside from last (map number (get_or
        ps i d).items.value.items)
    by true q = inr (outside_below from last (map number (get_or ps i d).items.value.items) (part_below number from
        ps f i d (grind (arith, nat_tests, q)) l b))
    by false q = rest (nat_eq (e - i) 0) refl (grind (arith, nat_tests, q))

pub still_covers : {X : Type 0} (number : X → ℕ) (from last : ℕ) (ps : List (Part X)) (es fs : List (Edit X))
    → KeepsEdits es fs → Covers number from last ps es → Covers number from last ps fs
still_covers number from last ps es fs k c i d l = ⊎_elim (λ e. inl (k i e)) (λ o. inr o) (c i d l)

pub edit_of : {X : Type 0} (h : List X → List X) (ps : List (Part X)) (i : ℕ) (p q : Part X) → i < length ps
    → p ≡ get_or ps i p → q.start ≡ p.start → q.items.value.items ≡ h p.items.value.items
    → IsEdit h ps (record { at = i; part = q })
edit_of h ps i p q b e s t =
    let same : p ≡ get_or ps i q = e ∙ get_or_default ps i p q b in
    record {
      within = b;
      start = s ∙ ap (λ z. z.start) same;
      items = t ∙ ap (λ z. h z.items.value.items) same;
    }
