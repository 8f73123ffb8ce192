-- Parts that change where they stand, and parts that take the places of others: what both come to.
use Rattle.std.proofs.Common.{◌≡◌, ℕ, zero, suc, ◌<◌, ◌≤◌, inl, inr, ⊎_elim, Bool, true, false, cond, not, ◌&&◌, ◌||◌}
use Rattle.ep_cell_steps.proofs.Writing.{becomes_at}
use Rattle.std.proofs.lemmas.List.{get_or_default}
use Rattle.std.proofs.lemmas.Bool.{or_parts}
use Rattle.std.proofs.Common.{nat_eq, nat_le, nat_lt, List, [], ◌∷◌, map, length, take, drop, set, get_or, refl, sym}
use Rattle.std.proofs.Common.{◌∙◌, ap, subst, arith}
use Rattle.std.proofs.lemmas.Bool.{or_left, or_right, false_from_ne_true}
use Rattle.std.proofs.lemmas.Bool.Decides.{nat_tests}
use Rattle.std.proofs.lemmas.List.{length-set, get_or-set_same, get_or-set_other}
use Rattle.ep_int.specs.declared.types.Model.{Model}
use Rattle.ep_domain.specs.Domain.{Ops}
use Rattle.ep_cells.specs.declared.cell.Cell.{Cell}
use Rattle.ep_shared_parts.specs.declared.parts.Part.{Part}
use Rattle.ep_shared_parts.specs.declared.parts.Edit.{Edit}
use Rattle.ep_shared_parts.specs.declared.uses.Use.{Use}
use Rattle.ep_shared_parts.specs.Spread.{all_items, AreBelow, AreFrom, installed, AreWithin}
use Rattle.ep_shared_parts.specs.Mentions.{number_of, IsNoted}
use Rattle.ep_shared_parts.specs.Plans.{is_edited, IsEdit, AreEdits, Covers}
use Rattle.ep_shared_parts.proofs.Planning.{IsDone, Becomes, as_many_installed, becomes_from}
use Rattle.ep_shared_parts.proofs.Planning.{becomes_items, becomes_spread, edits_within, span_covers}
use Rattle.ep_bicells.specs.declared.changes.Step.{Step}
use Rattle.ep_bicells.specs.declared.changes.Step.TheVariants.{Write, WeakWrite, Kill, Blur, Split, Cross, Unshare}
use Rattle.ep_bicells.specs.declared.changes.Step.TheVariants.{Lack, Reshare}
use Rattle.ep_bicells.specs.Steps.{left_by_step, fate_of_step, after_step, IsPlan}
use Rattle.ep_bicells.specs.Standing.{is_spanned, AreSpanned}
use Rattle.ep_cell_steps.specs.PartsInvariant.{AreKept}
use Rattle.ep_cell_steps.specs.Left.{IsLeft}
use Rattle.ep_cell_steps.specs.Planned.{AreReached, FindsTargets, AreElsewhere}
use Rattle.ep_cell_steps.proofs.Local.{changed, keeps_numbers, goes_apart}
use Rattle.ep_cell_steps.proofs.Writing.{short_changed}
use Rattle.ep_cell_steps.proofs.Changing.{step_local, step_becomes}

-- ---- tests

differ : (i j : ℕ) → nat_eq i j ≡ false → j ≡ i → ⊥
differ i j q z = let w : nat_eq i j ≡ true = grind (arith, nat_tests, z) in absurd (let v : false ≡ true = sym q ∙ w in
    cc)

-- ---- parts that take the places of others

installed_other : {X : Type 0} (es : List (Edit X)) (qs : List (Part X)) (i : ℕ) (d : Part X) → is_edited i es ≡ false
    → get_or (installed es qs) i d ≡ get_or qs i d
installed_other [] qs i d n = refl
installed_other (e ∷ es) qs i d n =
    let t = or_parts (nat_eq e.at i) (is_edited i es) n in
    installed_other es (set qs e.at e.part) i d t.1
    ∙ get_or-set_other qs e.at i e.part d (differ e.at i t.0)

edit_here : {X : Type 0} (h : List X → List X) (ps qs : List (Part X)) (e : Edit X) (d : Part X) → IsEdit h ps e
    → length qs ≡ length ps → IsDone h (get_or ps e.at d) (get_or (set qs e.at e.part) e.at d)
edit_here h ps qs e d a l =
    let here : get_or (set qs e.at e.part) e.at d ≡ e.part = get_or-set_same qs e.at e.part d (omega (
      arith,
      a.within,
      l,
    )) in
    let there : get_or ps e.at e.part ≡ get_or ps e.at d = get_or_default ps e.at e.part d a.within in
    record {
      start = ap (λ z. z.start) here ∙ a.start ∙ ap (λ z. z.start) there;
      items = ap (λ z. z.items.value.items) here ∙ a.items ∙ ap (λ z. h z.items.value.items) there;
    }

installed_edited : {X : Type 0} (h : List X → List X) (es : List (Edit X)) (ps qs : List (Part X)) (i : ℕ) (d : Part X)
    → AreEdits h ps es → length qs ≡ length ps → is_edited i es ≡ true
    → IsDone h (get_or ps i d) (get_or (installed es qs) i d)
installed_edited h [] ps qs i d a l e = absurd (cc)
installed_edited {X = X} h (e ∷ es) ps qs i d a l t =
    by (is_edited i es) refl (λ q. installed_edited h es ps (set qs e.at e.part) i d a.1 (length-set qs e.at e.part ∙ l)
    q)
  where
    here : is_edited i es ≡ false → (b : Bool) → nat_eq e.at i ≡ b → (b || is_edited i es) ≡ true
        → IsDone h (get_or ps i d) (get_or (installed es (set qs e.at e.part)) i d)
    here n true q w =
        let same : e.at ≡ i = grind (arith, nat_tests, q) in
        subst (IsDone h (get_or ps i d)) (sym (installed_other es (set qs e.at e.part) i d n))
        (subst (λ k. IsDone h (get_or ps k d) (get_or (set qs e.at e.part) k d)) same (edit_here h ps qs e d a.0 l))
    here n false q w = absurd (let v : false ≡ true = sym n ∙ w in cc)

    by : (b : Bool) → is_edited i es ≡ b → (is_edited i es ≡ true → IsDone h (get_or ps i d) (get_or (installed es (set
        qs e.at e.part)) i d)) → IsDone h (get_or ps i d) (get_or (installed es (set qs e.at e.part)) i d)
    by true q f = f q
    by false q f = here q (nat_eq e.at i) refl t

-- ---- the parts below a number that pass a test, as edits

abbrev picks : {X : Type 0} → (ℕ → Bool) → List (Part X) → ℕ → Part X → List (Edit X)
picks t zs zero d = []
picks t zs (suc n) d =
    cond (t n) (record { at = n; part = get_or zs n d } ∷ picks t zs n d) (picks t zs n d)

picks_edits : {X : Type 0} (h : List X → List X) (t : ℕ → Bool) (ps zs : List (Part X)) (n : ℕ) (d : Part X)
    → ((j : ℕ) → j < length ps → t j ≡ true → IsDone h (get_or ps j d) (get_or zs j d)) → n ≤ length ps
    → AreEdits h ps (picks t zs n d)
picks_edits h t ps zs zero d f l = tt
picks_edits {X = X} h t ps zs (suc n) d f l = by (t n) refl (picks_edits h t ps zs n d f (omega arith))
  where
    by : (b : Bool) → t n ≡ b → AreEdits h ps (picks t zs n d)
        → AreEdits h ps (cond b (record { at = n; part = get_or zs n d } ∷ picks t zs n d) (picks t zs n d))
    by true q rest =
        let within : n < length ps = omega arith in
        let done : IsDone h (get_or ps n d) (get_or zs n d) = f n within q in
        let same : get_or ps n d ≡ get_or ps n (get_or zs n d) = get_or_default ps n d (get_or zs n d) within in (
          record {
            within = within;
            start = done.start ∙ ap (λ z. z.start) same;
            items = done.items ∙ ap (λ z. h z.items.value.items) same;
          },
          rest,
        )
    by false q rest = rest

picks_edited : {X : Type 0} (t : ℕ → Bool) (zs : List (Part X)) (n j : ℕ) (d : Part X) → j < n → t j ≡ true
    → is_edited j (picks t zs n d) ≡ true
picks_edited t zs zero j d l e = absurd (omega arith)
picks_edited {X = X} t zs (suc n) j d l e = by (nat_eq n j) refl (λ k. picks_edited t zs n j d k e)
  where
    first : n ≡ j → is_edited j (cond (t n) (record { at = n; part = get_or zs n d } ∷ picks t zs n d) (picks t zs n d))
        ≡ true
    first s =
        let here : nat_eq n j ≡ true = grind (arith, nat_tests, s) in
        ap (λ b. is_edited j (cond b (record { at = n; part = get_or zs n d } ∷ picks t zs n d) (picks t zs n d)))
        (ap t s ∙ e) ∙ or_left (nat_eq n j) (is_edited j (picks t zs n d)) here

    later : is_edited j (picks t zs n d) ≡ true → (b : Bool)
        → is_edited j (cond b (record { at = n; part = get_or zs n d } ∷ picks t zs n d) (picks t zs n d)) ≡ true
    later k true = or_right (nat_eq n j) (is_edited j (picks t zs n d)) k
    later k false = k

    by : (b : Bool) → nat_eq n j ≡ b → (j < n → is_edited j (picks t zs n d) ≡ true)
        → is_edited j (cond (t n) (record { at = n; part = get_or zs n d } ∷ picks t zs n d) (picks t zs n d)) ≡ true
    by true q f = first (grind (arith, nat_tests, q))
    by false q f =
        let other : j ≡ n → ⊥ = differ n j q in
        later (f (omega (arith, l, other))) (t n)

picks_unedited : {X : Type 0} (t : ℕ → Bool) (zs : List (Part X)) (n j : ℕ) (d : Part X) → t j ≡ false
    → is_edited j (picks t zs n d) ≡ false
picks_unedited t zs zero j d e = refl
picks_unedited {X = X} t zs (suc n) j d e = by (t n) refl (picks_unedited t zs n j d e)
  where
    by : (b : Bool) → t n ≡ b → is_edited j (picks t zs n d) ≡ false
        → is_edited j (cond b (record { at = n; part = get_or zs n d } ∷ picks t zs n d) (picks t zs n d)) ≡ false
    by true q f =
        let other : nat_eq n j ≡ false = false_from_ne_true (nat_eq n j) (λ w. let s : n ≡ j = grind (
          arith,
          nat_tests,
          w,
        ) in absurd (let v : false ≡ true = sym e ∙ ap t (sym s) ∙ q in cc)) in
        ap (λ b. b || is_edited j (picks t zs n d)) other ∙ f
    by false q f = f

-- ---- a step

finds_more : {N : Type 0} (step : Step N) (ps : List (Part (Cell N))) (es fs : List (Edit (Cell N)))
    → ((i : ℕ) → is_edited i fs ≡ false → i < length ps → is_edited i es ≡ false) → FindsTargets step ps es
    → FindsTargets step ps fs
finds_more (Write p) ps es fs f t = tt
finds_more (WeakWrite c stays) ps es fs f t = tt
finds_more (Kill s b) ps es fs f t = λ i q l e. t i q l (f i e l)
finds_more (Blur p) ps es fs f t = tt
finds_more (Split s x) ps es fs f t = tt
finds_more (Cross x) ps es fs f t = tt
finds_more (Unshare x) ps es fs f t = tt
finds_more (Lack x) ps es fs f t = tt
finds_more (Reshare l r) ps es fs f t = tt

-- edited, or in the span
abbrev is_touched : {X : Type 0} → (first end : ℕ) → List (Edit X) → ℕ → Bool
is_touched first end es i = is_edited i es || is_spanned first end es i

touched_within : {X : Type 0} (first end : ℕ) (es : List (Edit X)) (i : ℕ) → first ≤ i → i < end
    → is_touched first end es i ≡ true
touched_within first end es i a b =
    let p : nat_le first i ≡ true = grind (arith, nat_tests, a) in
    let q : nat_lt i end ≡ true = grind (arith, nat_tests, b) in
    ap (λ x. is_edited i es || (x && nat_lt i end && not (is_edited i es))) p
    ∙ ap (λ x. is_edited i es || (true && x && not (is_edited i es))) q ∙ one_of (is_edited i es)
  where
    one_of : (x : Bool) → (x || (true && true && not x)) ≡ true
    one_of true = refl
    one_of false = refl

touched_done : {X : Type 0} (h : List X → List X) (first end : ℕ) (es : List (Edit X)) (ps qs : List (Part X)) (i : ℕ)
    (d : Part X) → AreEdits h ps es → AreSpanned h first end es ps qs → i < length ps
    → is_touched first end es i ≡ true → IsDone h (get_or ps i d) (get_or (installed es qs) i d)
touched_done {X = X} h first end es ps qs i d a s l t = by (is_edited i es) refl t
  where
    by : (b : Bool) → is_edited i es ≡ b → (b || is_spanned first end es i) ≡ true
        → IsDone h (get_or ps i d) (get_or (installed es qs) i d)
    by true q w = installed_edited h es ps qs i d a s.as_many q
    by false q w =
        let made = s.made i d l w in
        subst (IsDone h (get_or ps i d)) (sym (installed_other es qs i d q)) (record {
          start = made.start;
          items = made.items;
        })

untouched_same : {X : Type 0} (h : List X → List X) (first end : ℕ) (es : List (Edit X)) (ps qs : List (Part X)) (i : ℕ)
    (d : Part X) → AreSpanned h first end es ps qs → i < length ps → is_touched first end es i ≡ false
    → get_or (installed es qs) i d ≡ get_or ps i d
untouched_same h first end es ps qs i d s l t =
    let w = or_parts (is_edited i es) (is_spanned first end es i) t in
    installed_other es qs i d w.0 ∙ s.same i d l w.1

-- what is said of a list of parts, where there are some
at_some : {X : Type 0} (C : Type 0) (zs : List (Part X)) → (zs ≡ [] → C) → (Part X → C) → C
at_some C [] f g = f refl
at_some C (z ∷ zs) f g = g z

-- the parts that are touched, as they are in the end
abbrev all_touched : {X : Type 0} → (first end : ℕ) → List (Edit X) → (ps qs : List (Part X)) → Part X → List (Edit X)
all_touched first end es ps qs z = picks (is_touched first end es) (installed es qs) (length ps) z

done_at : {X : Type 0} (h : List X → List X) (first end : ℕ) (es : List (Edit X)) (ps qs : List (Part X)) (z : Part X)
    (i : ℕ) (c : Part X) (b : Bool) → AreEdits h ps es → AreSpanned h first end es ps qs → i < length ps
    → Becomes h ps (installed (all_touched first end es ps qs z) ps) → is_touched first end es i ≡ b
    → IsDone h (get_or ps i c) (get_or (installed es qs) i c)
done_at h first end es ps qs z i c true a s l p e = touched_done h first end es ps qs i c a s l e
done_at h first end es ps qs z i c false a s l p e =
    let fs = all_touched first end es ps qs z in
    subst (IsDone h (get_or ps i c)) (installed_other fs ps i c (picks_unedited (is_touched first end es) (installed es
    qs) (length ps) i z e) ∙ sym (untouched_same h first end es ps qs i c s l e)) (becomes_at h ps (installed fs ps) i c
    p l)

standing : {N : Type 0} (D : Ops N) (d : Model) (step : Step N) (from last first end : ℕ) (us : List (Part Use)) (ps qs :
    List (Part (Cell N))) (es : List (Edit (Cell N))) (z : Part (Cell N)) → AreKept d ps us
    → AreReached d step from last → AreElsewhere D d step from last (all_items us) ps es
    → end ≤ length ps → AreBelow from (map number_of (all_items (take first ps)))
    → AreFrom (suc last) (map number_of (all_items (drop end ps)))
    → AreSpanned (after_step D d step) first end es ps qs
    → Becomes (changed (left_by_step D d step) (fate_of_step d step)) ps (installed es qs)
standing {N = N} D d step from last first end us ps qs es z k r a w below above s =
    let h : List (Cell N) → List (Cell N) = changed (left_by_step D d step) (fate_of_step d step) in
    let zs = installed es qs in
    let t : ℕ → Bool = is_touched first end es in
    let fs = all_touched first end es ps qs z in
    let all : length ps ≤ length ps = omega arith in
    let edits : AreEdits h ps fs = picks_edits h t ps zs (length ps) z (λ j l e. touched_done h first end es ps qs j z
    a.edits s l e) all in
    let keeps : (i : ℕ) → i < length ps → is_edited i es ≡ true → is_edited i fs ≡ true = λ i l e. picks_edited t zs
    (length ps) i z l (or_left (is_edited i es) (is_spanned first end es i) e) in
    let fewer : (i : ℕ) → is_edited i fs ≡ false → i < length ps → is_edited i es ≡ false = λ i e l. false_from_ne_true
    (is_edited i es) (λ x. absurd (let v : false ≡ true = sym e ∙ keeps i l x in cc)) in
    let plan : IsPlan h from last (all_items us) ps fs = record {
      edits = edits;
      place = span_covers number_of from last ps fs first end below above (λ j x y. picks_edited t zs (length ps) j z
          (omega (arith, y, w)) (touched_within first end es j x y));
      users = λ u n x y i q l. ⊎_elim (λ e. inl (keeps i l e)) (λ o. inr o) (a.users u n x y i q l);
    } in
    let planned : Becomes h ps (installed fs ps) = step_becomes D d step from last us ps fs k r plan (finds_more step ps es
    fs fewer a.targets) in
    becomes_from h ps zs (as_many_installed es qs ∙ s.as_many) (λ i c l. done_at h first end es ps qs z i c
    (is_touched first end es i) a.edits s l planned refl)

pub left_standing : {N : Type 0} (D : Ops N) (d : Model) (step : Step N) (from last first end : ℕ) (us : List (Part Use))
    (ps rs vs qs zs : List (Part (Cell N))) (es : List (Edit (Cell N))) → AreKept d ps us → rs ≡ ps → vs ≡ ps
    → AreReached d step from last → AreElsewhere D d step from last (all_items us) rs es
    → end ≤ length vs → AreBelow from (map number_of (all_items (take first vs)))
    → AreFrom (suc last) (map number_of (all_items (drop end vs)))
    → AreSpanned (after_step D d step) first end es ps qs → zs ≡ installed es qs
    → IsLeft (left_by_step D d step) (fate_of_step d step) ps zs
left_standing {N = N} D d step from last first end us ps rs vs qs zs es k er ev r a w below above s ez =
    let g : Cell N → List (Cell N) = left_by_step D d step in
    let f = fate_of_step d step in
    let l = step_local D d step in
    let b : Becomes (changed g f) ps zs = subst (Becomes (changed g f) ps) (sym ez) becomes in
    let made : all_items zs ≡ changed g f (all_items ps) = becomes_items (changed g f) ps zs (goes_apart g f) b in
    record {
      spread = becomes_spread number_of (changed g f) ps zs (keeps_numbers g f l) b k.spread;
      items = made;
      short = short_changed d g f (all_items ps) (all_items zs) l k.cells made;
    }
  where
    elsewhere : AreElsewhere D d step from last (all_items us) ps es
    elsewhere = subst (λ x. AreElsewhere D d step from last (all_items us) x es) er a

    nothing : (xs ys : List (Part (Cell N))) → length ys ≡ length xs → xs ≡ [] → Becomes (changed (left_by_step D d step)
        (fate_of_step d step)) xs ys
    nothing [] [] m e = tt
    nothing [] (y ∷ ys) m e = absurd (omega arith)
    nothing (x ∷ xs) ys m e = absurd (cc)

    becomes : Becomes (changed (left_by_step D d step) (fate_of_step d step)) ps (installed es qs)
    becomes = at_some (Becomes (changed (left_by_step D d step) (fate_of_step d step)) ps (installed es qs)) ps
        (nothing ps (installed es qs) (as_many_installed es qs ∙ s.as_many))
        (λ z. standing D d step from last first end us ps qs es z k r elsewhere (subst (λ x. end ≤ length x) ev w)
        (subst (λ x. AreBelow from (map number_of (all_items (take first x)))) ev below)
        (subst (λ x. AreFrom (suc last) (map number_of (all_items (drop end x)))) ev above) s)

-- edits stay within
pub elsewhere_from : {N : Type 0} (D : Ops N) (d : Model) (step : Step N) (from last : ℕ) (us : List Use) (ps : List (Part
    (Cell N))) (es fs : List (Edit (Cell N)))
    → ((u : Use) → IsNoted us u → from ≤ u.of → u.of ≤ last → Covers number_of u.by u.by ps es)
    → AreEdits (after_step D d step) ps fs → ((i : ℕ) → is_edited i es ≡ true → is_edited i fs ≡ true)
    → FindsTargets step ps fs → AreElsewhere D d step from last us ps fs
elsewhere_from D d step from last us ps es fs users edits keeps targets = record {
  edits = edits;
  users = λ u n a b i q l. ⊎_elim (λ e. inl (keeps i e)) (λ o. inr o) (users u n a b i q l);
  targets = targets;
}

pub edits_fit : {N : Type 0} (D : Ops N) (d : Model) (step : Step N) (from last first end : ℕ) (us : List Use) (ps rs qs :
    List (Part (Cell N))) (es : List (Edit (Cell N))) → rs ≡ ps → AreElsewhere D d step from last us rs es
    → AreSpanned (after_step D d step) first end es ps qs → AreWithin (length qs) es
edits_fit D d step from last first end us ps rs qs es e a s =
    subst (λ n. AreWithin n es) (ap length e ∙ sym s.as_many) (edits_within (after_step D d step) rs es a.edits)
