-- What is noted of forms, and who uses what.
use Rattle.std.proofs.Common.{◌≡◌, ℕ, zero, suc, ◌+◌, ◌-◌, ◌*◌, ◌%◌, ◌<◌, ◌≤◌, Bool, true, false, cond, ◌&&◌, ◌||◌}
use Rattle.ep_int.proofs.Basics.{append-nil}
use Rattle.std.proofs.Common.{nat_eq, nat_le, List, [], ◌∷◌, ◌++◌, append_assoc, get_or, length, drop, map, ⊎_elim}
use Rattle.std.proofs.Common.{refl, sym, ◌∙◌, ap, subst, arith}
use Rattle.std.specs.List.{list_any, insert}
use Rattle.std.proofs.Math.ListN.{drop_of_length-le}
use Rattle.std.proofs.lemmas.Bool.{or_cases, or_right, and_parts}
use Rattle.std.proofs.lemmas.Bool.Decides.{nat_tests}
use Rattle.std.proofs.lemmas.Nat.{mod_below}
use Rattle.std.proofs.Math.Nat.{mod-eq_of_lt}
use Rattle.ep_bitslice.specs.declared.cell.CellName.{CellName}
use Rattle.ep_bitslice.specs.declared.segment.Segment.{Segment}
use Rattle.ep_bitslice.specs.declared.segment.Segment.TheVariants.{Bits, Fixed}
use Rattle.ep_bitslice.specs.Bits.{mentions, is_same_cell}
use Rattle.ep_bitslice.specs.Segments.{bits, run_bits, fixed_bits}
use Rattle.ep_bitslice.proofs.Pieces.{mentions-append, mentions-run, mentions-fixed}
use Rattle.ep_bitslice.proofs.Joining.{same_cell}
use Rattle.ep_shared_parts.specs.declared.parts.Part.{Part}
use Rattle.ep_shared_parts.specs.declared.uses.Use.{Use}
use Rattle.ep_shared_parts.specs.Spread.{all_items, AreFrom, AreBelow, IsWindow}
use Rattle.ep_shared_parts.specs.Mentions.{number_of_name, number_of_use, is_use, IsNoted, AllNoted, IsMore, users_in}
use Rattle.ep_shared_parts.proofs.Halving.{items_append}
use Rattle.ep_shared_parts.proofs.Steps.{items_at}

-- ---- numbers of uses

pub number_by : (u : Use) (k of by : ℕ) → k ≡ 18446744073709551616 * of + by → by < 18446744073709551616
    → of ≡ u.of → by ≡ u.by → k ≡ number_of_use u
number_by u k of by e l f g =
    let small : u.by < 18446744073709551616 = omega (arith, l, g) in
    let same : u.by % 18446744073709551616 ≡ u.by = mod-eq_of_lt small in
    omega (arith, e, f, g, same)

pub more_at : (u : Use) (p q : Part Use) (at : ℕ) → q.start ≡ p.start
    → q.items.value.items ≡ insert p.items.value.items at u → IsMore u p q
more_at u p q at s i = record { at = at; start = s; items = i }

-- ---- users

pub users_append : (from last : ℕ) (us vs : List Use) → users_in from last (us ++ vs) ≡ users_in from last us ++
    users_in from last vs
users_append from last [] vs = refl
users_append from last (u ∷ us) vs = by (nat_le from u.of && nat_le u.of last) (users_append from last us vs)
  where
    by : (b : Bool) → users_in from last (us ++ vs) ≡ users_in from last us ++ users_in from last vs → cond b (u.by ∷ users_in from last (us ++ vs)) (users_in from last (us ++ vs)) ≡ cond b (u.by ∷
        users_in from last us) (users_in from last us) ++ users_in from last vs
    by true e = ap (λ xs. u.by ∷ xs) e
    by false e = e

pub none_below : (from last k : ℕ) (us : List Use) → k ≡ 18446744073709551616 * from
    → AreBelow k (map number_of_use us) → users_in from last us ≡ []
none_below from last k [] e h = refl
none_below from last k (u ∷ us) e h =
    let l : u.of < from = omega (arith, e, h.0) in
    grind (arith, nat_tests, l, none_below from last k us e h.1)

pub none_above : (from last k : ℕ) (us : List Use) → k ≡ 18446744073709551616 * last + 18446744073709551615
    → AreFrom (suc k) (map number_of_use us) → users_in from last us ≡ []
none_above from last k [] e h = refl
none_above from last k (u ∷ us) e h =
    let b = mod_below u.by 18446744073709551616 (omega arith) in
    let l : last < u.of = omega (arith, e, h.0, b) in
    grind (arith, nat_tests, l, none_above from last k us e h.1)

pub users_window : (from last k m : ℕ) (ps w : List (Part Use)) → k ≡ 18446744073709551616 * from
    → m ≡ 18446744073709551616 * last + 18446744073709551615 → IsWindow number_of_use k m ps w
    → users_in from last (all_items w) ≡ users_in from last (all_items ps)
users_window from last k m ps w ek em i =
    let whole : all_items ps ≡ all_items i.before ++ (all_items w ++ all_items i.behind) = ap all_items i.whole ∙
    items_append i.before (w ++ i.behind) ∙ ap (λ xs. all_items i.before ++ xs) (items_append w i.behind) in
    let parts = users_append from last (all_items i.before) (all_items w ++ all_items i.behind)
    ∙ ap (λ xs. xs ++ users_in from last (all_items w ++ all_items i.behind)) (none_below from last k
    (all_items i.before) ek i.below)
    ∙ users_append from last (all_items w) (all_items i.behind)
    ∙ ap (λ xs. users_in from last (all_items w) ++ xs) (none_above from last m (all_items i.behind) em
    i.above)
    ∙ append-nil (users_in from last (all_items w)) in
    sym (ap (users_in from last) whole ∙ parts)

pub found_user : (from last : ℕ) (u : Use) (us : List Use) → IsNoted us u → from ≤ u.of → u.of ≤ last
    → list_any (nat_eq u.by) (users_in from last us) ≡ true
found_user from last u [] h l m = absurd (cc)
found_user from last u (v ∷ vs) h l m =
    ⊎_elim
    (λ k. here (and_parts (nat_eq v.of u.of) (nat_eq v.by u.by) k))
    (λ k. there (nat_le from v.of && nat_le v.of last) (found_user from last u vs k l m))
    (or_cases (is_use u v) (list_any (is_use u) vs) h)
  where
    there : (b : Bool) → list_any (nat_eq u.by) (users_in from last vs) ≡ true → list_any (nat_eq u.by) (cond b (v.by
        ∷ users_in from last vs) (users_in from last vs)) ≡ true
    there true k = or_right (nat_eq u.by v.by) (list_any (nat_eq u.by) (users_in from last vs)) k
    there false k = k

    here : (nat_eq v.of u.of ≡ true) × (nat_eq v.by u.by ≡ true) → list_any (nat_eq u.by) (users_in from last (v ∷
        vs)) ≡ true
    here k = grind (arith, nat_tests, k.0, k.1, l, m)

-- ---- notes

pub use_itself : (u : Use) → is_use u u ≡ true
use_itself u = grind (arith, nat_tests)

pub notes_kept : (us vs : List Use) (by : ℕ) (ss : List Segment) → ((u : Use) → IsNoted us u → IsNoted vs u)
    → AllNoted us by ss → AllNoted vs by ss
notes_kept us vs by [] f h = tt
notes_kept us vs by (Bits n from to ∷ ss) f h = (
  f (record { of = number_of_name n; by = by }) h.0,
  notes_kept us vs
      by ss f h.1,
)
notes_kept us vs by (Fixed v w ∷ ss) f h = notes_kept us vs by ss f h

pub notes_append : (us : List Use) (by : ℕ) (ss ts : List Segment) → AllNoted us by ss → AllNoted us by ts
    → AllNoted us by (ss ++ ts)
notes_append us by [] ts h k = k
notes_append us by (Bits n from to ∷ ss) ts h k = (h.0, notes_append us by ss ts h.1 k)
notes_append us by (Fixed v w ∷ ss) ts h k = notes_append us by ss ts h k

-- what the bits of segments mention is noted
pub note_of : (us : List Use) (by : ℕ) (n : CellName) (ss : List Segment) → AllNoted us by ss
    → mentions n (bits ss) ≡ true → IsNoted us (record { of = number_of_name n; by = by })
note_of us by n [] h k = absurd (cc)
note_of us by n (Fixed v w ∷ ss) h k =
    let j : (mentions n (fixed_bits w v) || mentions n (bits ss)) ≡ true = sym (mentions-append n (fixed_bits w v)
    (bits ss)) ∙ k in
    note_of us by n ss h (subst (λ b. (b || mentions n (bits ss)) ≡ true) (mentions-fixed n w v) j)
note_of us by n (Bits c from to ∷ ss) h k = by_run (to - from) (λ j. note_of us by n ss h.1 j) (sym (mentions-append n (run_bits c from (to - from))
    (bits ss)) ∙ k)
  where
    same : is_same_cell c n ≡ true → IsNoted us (record { of = number_of_name n; by = by })
    same e = subst (λ (z : CellName). IsNoted us (record { of = number_of_name z; by = by })) (same_cell c n e) h.0

    by_run : (w : ℕ) → (mentions n (bits ss) ≡ true → IsNoted us (record { of = number_of_name n; by = by })) → (mentions n (run_bits c from w) || mentions n (bits ss)) ≡ true → IsNoted us (record {
      of =
          number_of_name n;
      by = by;
    })
    by_run zero rest j = rest j
    by_run (suc w) rest j = ⊎_elim
        (λ e. same (sym (mentions-run n c from (suc w) (omega arith)) ∙ e))
        (λ e. rest e)
        (or_cases (mentions n (run_bits c from (suc w))) (mentions n (bits ss)) j)

-- ---- loops

pub users_step : (from last : ℕ) (ps : List (Part Use)) (i : ℕ) (p : Part Use) (out new : List ℕ) (us : List Use)
    (whole : List ℕ)
    → new ≡ out ++ users_in from last us → us ≡ p.items.value.items → i < length ps → p ≡ get_or ps i p
    → out ++ users_in from last (all_items (drop i ps)) ≡ whole
    → new ++ users_in from last (all_items (drop (i + 1) ps)) ≡ whole
users_step from last ps i p out new us whole n u b e h =
    ap (λ xs. xs ++ users_in from last (all_items (drop (i + 1) ps))) (n ∙ ap (λ z. out ++ users_in from last z) u)
    ∙ append_assoc out (users_in from last p.items.value.items) (users_in from last (all_items (drop (i + 1) ps)))
    ∙ sym (ap (λ xs. out ++ xs) (ap (users_in from last) (items_at ps i p b e) ∙ users_append from last
    p.items.value.items (all_items (drop (i + 1) ps)))) ∙ h

pub users_end : (from last : ℕ) (ps : List (Part Use)) (i : ℕ) (out whole : List ℕ) → length ps ≤ i
    → out ++ users_in from last (all_items (drop i ps)) ≡ whole → out ≡ whole
users_end from last ps i out whole le h =
    sym (append-nil out) ∙ sym (ap (λ zs. out ++ users_in from last (all_items zs)) (drop_of_length-le ps le)) ∙ h
