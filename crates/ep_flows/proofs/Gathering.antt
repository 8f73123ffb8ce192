-- Alarms that are gathered first and added then are those that are added one by one.
use Rattle.std.proofs.Common.{◌≡◌, ℕ, ltb, ℤ, Bool, true, false, nat_eq, List, [], ◌∷◌, fold, refl, sym, ap, ◌∙◌}
use Rattle.std.proofs.Common.{arith, if◌then◌else◌}
use Rattle.std.specs.Int.{int_min, int_max}
use Rattle.std.proofs.lemmas.Int.{ints, clamps}
use Rattle.ep_alarms.specs.declared.types.Alarm.{Alarm}
use Rattle.ep_alarms.specs.declared.types.AlarmKind.{AlarmKind}
use Rattle.ep_alarms.specs.declared.types.AlarmKind.TheVariants.{U1, U2, U3, U4, U5, U6, U7, U8, U9, U10, E1, E2, E3}
use Rattle.ep_alarms.specs.declared.types.AlarmKind.TheVariants.{E4}
use Rattle.ep_alarms.specs.Alarm.{place_of, before, least_range, joined}
use Rattle.ep_alarms.specs.Report.{added}
use Rattle.ep_alarms.proofs.Order.{rank, place_small, before_by_rank, lt_by_before, before_by_lt, le_by_not_before}

-- ---- alarms of one place

kind_at : ℕ → AlarmKind
kind_at n = if nat_eq n 0 then U1 else if nat_eq n 1 then U2 else if nat_eq n 2 then U3 else if nat_eq n 3 then U4
    else if nat_eq n 4 then U5 else if nat_eq n 5 then U6 else if nat_eq n 6 then U7 else if nat_eq n 7 then U8 else
    if nat_eq n 8 then U9 else if nat_eq n 9 then U10 else if nat_eq n 10 then E1 else if nat_eq n 11 then E2 else if
    nat_eq n 12 then E3 else E4

kind_back : (k : AlarmKind) → kind_at (place_of k) ≡ k
unfolding kind_at
kind_back U1 = refl
kind_back U2 = refl
kind_back U3 = refl
kind_back U4 = refl
kind_back U5 = refl
kind_back U6 = refl
kind_back U7 = refl
kind_back U8 = refl
kind_back U9 = refl
kind_back U10 = refl
kind_back E1 = refl
kind_back E2 = refl
kind_back E3 = refl
kind_back E4 = refl

one_line : (a b : Alarm) → rank a ≡ rank b → a.line ≡ b.line
one_line a b e = omega (arith, place_small a.kind, place_small b.kind)

one_kind : (a b : Alarm) → rank a ≡ rank b → a.kind ≡ b.kind
one_kind a b e =
    let p : place_of a.kind ≡ place_of b.kind = omega (arith, one_line a b e) in
    sym (kind_back a.kind) ∙ ap kind_at p ∙ kind_back b.kind

-- ---- ranges

least_swap : (a b : ℤ) → int_min a b ≡ int_min b a
least_swap a b = omega (arith, ints, clamps)

most_swap : (a b : ℤ) → int_max a b ≡ int_max b a
most_swap a b = omega (arith, ints, clamps)

least_again : (a b c : ℤ) → int_min a (int_min b c) ≡ int_min (int_min a b) c
least_again a b c = omega (arith, ints, clamps)

most_again : (a b c : ℤ) → int_max a (int_max b c) ≡ int_max (int_max a b) c
most_again a b c = omega (arith, ints, clamps)

abbrev range : ℤ → ℤ → ℤ × ℤ
range a b = (a, b)

same_range : (a b c d : ℤ) → a ≡ b → c ≡ d → range a c ≡ range b d
same_range a b c d e f = ap (λ x. range x c) e ∙ ap (range b) f

range_swap : (r s : ℤ × ℤ) → least_range r s ≡ least_range s r
range_swap r s = same_range _ _ _ _ (least_swap r.0 s.0) (most_swap r.1 s.1)

range_again : (r s t : ℤ × ℤ) → least_range r (least_range s t) ≡ least_range (least_range r s) t
range_again r s t = same_range _ _ _ _ (least_again r.0 s.0 t.0) (most_again r.1 s.1 t.1)

range_past : (r s t : ℤ × ℤ) → least_range (least_range r s) t ≡ least_range (least_range r t) s
range_past r s t = sym (range_again r s t) ∙ ap (least_range r) (range_swap s t) ∙ range_again r t s

abbrev alarm_at : ℕ → AlarmKind → ℤ × ℤ → ℤ × ℤ → Alarm
alarm_at l k r s = record { line = l; kind = k; left = r; right = s }

same_alarm : (l m : ℕ) (j k : AlarmKind) (r s t u : ℤ × ℤ) → l ≡ m → j ≡ k → r ≡ s → t ≡ u
    → alarm_at l j r t ≡ alarm_at m k s u
same_alarm l m j k r s t u e f g h =
    ap (λ x. alarm_at x j r t) e ∙ ap (λ x. alarm_at m x r t) f ∙ ap (λ x. alarm_at m k x t) g ∙ ap (alarm_at m k s) h

joined_swap : (a b : Alarm) → rank a ≡ rank b → joined a b ≡ joined b a
joined_swap a b e = same_alarm a.line b.line a.kind b.kind _ _ _ _ (one_line a b e) (one_kind a b e)
    (range_swap a.left b.left) (range_swap a.right b.right)

joined_past : (x a b : Alarm) → joined (joined x a) b ≡ joined (joined x b) a
joined_past x a b = same_alarm x.line x.line x.kind x.kind _ _ _ _ refl refl (range_past x.left a.left b.left)
    (range_past x.right a.right b.right)

joined_again : (x a b : Alarm) → joined x (joined a b) ≡ joined (joined x a) b
joined_again x a b = same_alarm x.line x.line x.kind x.kind _ _ _ _ refl refl (range_again x.left a.left b.left)
    (range_again x.right a.right b.right)

-- ---- the order of two alarms

data Stand (a b : Alarm) : Type 0 where
  first : before a b ≡ true → before b a ≡ false → Stand a b
  last : before a b ≡ false → before b a ≡ true → Stand a b
  together : before a b ≡ false → before b a ≡ false → Stand a b

stand : (a b : Alarm) → Stand a b
stand a b = ask (before a b) (before b a) refl refl
  where
    ask : (x y : Bool) → before a b ≡ x → before b a ≡ y → Stand a b
    ask true true e f = absurd (omega (arith, lt_by_before a b e, lt_by_before b a f))
    ask true false e f = first e f
    ask false true e f = last e f
    ask false false e f = together e f

one_rank : (a b : Alarm) → before a b ≡ false → before b a ≡ false → rank a ≡ rank b
one_rank a b e f = omega (arith, le_by_not_before a b e, le_by_not_before b a f)

chain : (a b c : Alarm) → before a b ≡ true → before b c ≡ true → before a c ≡ true
chain a b c e f = before_by_lt a c (omega (arith, lt_by_before a b e, lt_by_before b c f))

-- alarms of one place stand alike towards others
alike : (x a b : Alarm) → before x a ≡ false → before a x ≡ false → before a b ≡ before x b
alike x a b e f = before_by_rank a b ∙ ap (λ n. ltb n (rank b)) (sym (one_rank x a e f)) ∙ sym (before_by_rank x b)

alike_right : (x a b : Alarm) → before x a ≡ false → before a x ≡ false → before b a ≡ before b x
alike_right x a b e f = before_by_rank b a ∙ ap (λ n. ltb (rank b) n) (sym (one_rank x a e f))
    ∙ sym (before_by_rank b x)

-- ---- where an alarm comes

at_first : (x : Alarm) (xs : List Alarm) (a : Alarm) → before x a ≡ true → added (x ∷ xs) a ≡ x ∷ added xs a
at_first x xs a e = rw e refl

at_last : (x : Alarm) (xs : List Alarm) (a : Alarm) → before x a ≡ false → before a x ≡ true
    → added (x ∷ xs) a ≡ a ∷ x ∷ xs
at_last x xs a e f = rw (e, f) refl

at_same : (x : Alarm) (xs : List Alarm) (a : Alarm) → before x a ≡ false → before a x ≡ false
    → added (x ∷ xs) a ≡ joined x a ∷ xs
at_same x xs a e f = rw (e, f) refl

-- the first alarm of two that come stands last, or they stand together
swap_outside : (x : Alarm) (xs : List Alarm) (a b : Alarm) → before a x ≡ true → before b x ≡ true
    → before x a ≡ false → before x b ≡ false → Stand a b → added (a ∷ x ∷ xs) b ≡ added (b ∷ x ∷ xs) a
swap_outside x xs a b ax bx xa xb (first e f) = at_first a (x ∷ xs) b e ∙ ap (λ l. a ∷ l) (at_last x xs b xb bx)
    ∙ sym (at_last b (x ∷ xs) a f e)
swap_outside x xs a b ax bx xa xb (last e f) = at_last a (x ∷ xs) b e f ∙ ap (λ l. b ∷ l) (sym (at_last x xs a xa ax))
    ∙ sym (at_first b (x ∷ xs) a f)
swap_outside x xs a b ax bx xa xb (together e f) = at_same a (x ∷ xs) b e f ∙ ap (λ y. y ∷ x ∷ xs) (joined_swap a b
    (one_rank a b e f)) ∙ sym (at_same b (x ∷ xs) a f e)

swap_at : (x : Alarm) (xs : List Alarm) (a b : Alarm) → added (added xs a) b ≡ added (added xs b) a → Stand x a
    → Stand x b → added (added (x ∷ xs) a) b ≡ added (added (x ∷ xs) b) a
swap_at x xs a b h (first e e') (first f f') =
    ap (λ l. added l b) (at_first x xs a e) ∙ at_first x (added xs a) b f ∙ ap (λ l. x ∷ l) h
    ∙ sym (at_first x (added xs b) a e) ∙ ap (λ l. added l a) (sym (at_first x xs b f))
swap_at x xs a b h (first e e') (last f f') =
    ap (λ l. added l b) (at_first x xs a e) ∙ at_last x (added xs a) b f f'
    ∙ ap (λ l. b ∷ l) (sym (at_first x xs a e)) ∙ sym (at_first b (x ∷ xs) a (chain b x a f' e))
    ∙ ap (λ l. added l a) (sym (at_last x xs b f f'))
swap_at x xs a b h (first e e') (together f f') =
    ap (λ l. added l b) (at_first x xs a e) ∙ at_same x (added xs a) b f f' ∙ sym (at_first (joined x b) xs a e)
    ∙ ap (λ l. added l a) (sym (at_same x xs b f f'))
swap_at x xs a b h (last e e') (first f f') =
    ap (λ l. added l b) (at_last x xs a e e') ∙ at_first a (x ∷ xs) b (chain a x b e' f)
    ∙ ap (λ l. a ∷ l) (at_first x xs b f) ∙ sym (at_last x (added xs b) a e e')
    ∙ ap (λ l. added l a) (sym (at_first x xs b f))
swap_at x xs a b h (last e e') (last f f') =
    ap (λ l. added l b) (at_last x xs a e e') ∙ swap_outside x xs a b e' f' e f (stand a b)
    ∙ ap (λ l. added l a) (sym (at_last x xs b f f'))
swap_at x xs a b h (last e e') (together f f') =
    ap (λ l. added l b) (at_last x xs a e e') ∙ at_first a (x ∷ xs) b (alike_right x b a f f' ∙ e')
    ∙ ap (λ l. a ∷ l) (at_same x xs b f f') ∙ sym (at_last (joined x b) xs a e e')
    ∙ ap (λ l. added l a) (sym (at_same x xs b f f'))
swap_at x xs a b h (together e e') (first f f') =
    ap (λ l. added l b) (at_same x xs a e e') ∙ at_first (joined x a) xs b f ∙ sym (at_same x (added xs b) a e e')
    ∙ ap (λ l. added l a) (sym (at_first x xs b f))
swap_at x xs a b h (together e e') (last f f') =
    ap (λ l. added l b) (at_same x xs a e e') ∙ at_last (joined x a) xs b f f'
    ∙ ap (λ l. b ∷ l) (sym (at_same x xs a e e')) ∙ sym (at_first b (x ∷ xs) a (alike_right x a b e e' ∙ f'))
    ∙ ap (λ l. added l a) (sym (at_last x xs b f f'))
swap_at x xs a b h (together e e') (together f f') =
    ap (λ l. added l b) (at_same x xs a e e') ∙ at_same (joined x a) xs b f f' ∙ ap (λ y. y ∷ xs) (joined_past x a b)
    ∙ sym (at_same (joined x b) xs a e e') ∙ ap (λ l. added l a) (sym (at_same x xs b f f'))

-- two alarms may come in either order
swap : (xs : List Alarm) (a b : Alarm) → added (added xs a) b ≡ added (added xs b) a
swap [] a b = alone (stand a b)
  where
    alone : Stand a b → added (a ∷ []) b ≡ added (b ∷ []) a
    alone (first e f) = at_first a [] b e ∙ sym (at_last b [] a f e)
    alone (last e f) = at_last a [] b e f ∙ sym (at_first b [] a f)
    alone (together e f) = at_same a [] b e f ∙ ap (λ y. y ∷ []) (joined_swap a b (one_rank a b e f))
        ∙ sym (at_same b [] a f e)
swap (x ∷ xs) a b = swap_at x xs a b (swap xs a b) (stand x a) (stand x b)

-- alarms of one place may be joined before they come
together_at : (x : Alarm) (xs : List Alarm) (b a : Alarm) → before b a ≡ false → before a b ≡ false
    → added xs (joined b a) ≡ added (added xs b) a → Stand x b → added (x ∷ xs) (joined b a) ≡ added (added
    (x ∷ xs) b) a
together_at x xs b a e f h (first p q) =
    at_first x xs (joined b a) p ∙ ap (λ l. x ∷ l) h ∙ sym (at_first x (added xs b) a (alike_right b a x e f ∙ p))
    ∙ ap (λ l. added l a) (sym (at_first x xs b p))
together_at x xs b a e f h (last p q) =
    at_last x xs (joined b a) p q ∙ sym (at_same b (x ∷ xs) a e f) ∙ ap (λ l. added l a) (sym (at_last x xs b p q))
together_at x xs b a e f h (together p q) =
    at_same x xs (joined b a) p q ∙ ap (λ y. y ∷ xs) (joined_again x b a)
    ∙ sym (at_same (joined x b) xs a (alike_right b a x e f ∙ p) (alike b a x e f ∙ q))
    ∙ ap (λ l. added l a) (sym (at_same x xs b p q))

added_joined : (xs : List Alarm) (b a : Alarm) → before b a ≡ false → before a b ≡ false
    → added xs (joined b a) ≡ added (added xs b) a
added_joined [] b a e f = sym (at_same b [] a e f)
added_joined (x ∷ xs) b a e f = together_at x xs b a e f (added_joined xs b a e f) (stand x b)

-- ---- lists

one_early : (xs ys : List Alarm) (a : Alarm) → fold added (added xs a) ys ≡ added (fold added xs ys) a
one_early xs [] a = refl
one_early xs (y ∷ ys) a = ap (λ l. fold added l ys) (swap xs a y) ∙ one_early (added xs y) ys a

more_at : (xs : List Alarm) (y : Alarm) (ys : List Alarm) (a : Alarm) → fold added (added xs y) (added ys a) ≡ added
    (fold added (added xs y) ys) a → Stand y a → fold added xs (added (y ∷ ys) a) ≡ added (fold added
    (added xs y) ys) a
more_at xs y ys a h (first e f) = ap (fold added xs) (at_first y ys a e) ∙ h
more_at xs y ys a h (last e f) = ap (fold added xs) (at_last y ys a e f) ∙ ap (λ l. fold added l ys) (swap xs a y)
    ∙ one_early (added xs y) ys a
more_at xs y ys a h (together e f) = ap (fold added xs) (at_same y ys a e f)
    ∙ ap (λ l. fold added l ys) (added_joined xs y a e f) ∙ one_early (added xs y) ys a

one_more : (xs ys : List Alarm) (a : Alarm) → fold added xs (added ys a) ≡ added (fold added xs ys) a
one_more xs [] a = refl
one_more xs (y ∷ ys) a = more_at xs y ys a (one_more (added xs y) ys a) (stand y a)

all_more : (xs ys faults : List Alarm) → fold added xs (fold added ys faults) ≡ fold added (fold added xs ys) faults
all_more xs ys [] = refl
all_more xs ys (a ∷ faults) = all_more xs (added ys a) faults ∙ ap (λ l. fold added l faults) (one_more xs ys a)

-- faults that were gathered apart
pub gathered_apart : (xs faults : List Alarm) → fold added xs (fold added [] faults) ≡ fold added xs faults
gathered_apart xs faults = all_more xs [] faults
