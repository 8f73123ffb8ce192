-- The text of a report determines its alarms.
use Rattle.std.proofs.Common.{◌≡◌, ℕ, zero, suc, Bool, if◌then◌else◌, ◌==◌, List, [], ◌∷◌, ◌++◌, ℤ, codes, decimal}
use Rattle.std.proofs.Common.{get_or, length, flat_map, All, FitsSigned, refl, sym, ap, ◌∙◌, subst, arith}
use Rattle.std.proofs.Common.{append_assoc, ne_eqb}
use Rattle.std.specs.Fmt.{signed_decimal}
use Rattle.std.specs.Int.{w128}
use Rattle.std.proofs.lemmas.List.{append_cancel_left}
use Rattle.std.proofs.lemmas.List.Elements.{All-head, All-tail}
use Rattle.ep_alarms.specs.declared.types.Alarm.{Alarm}
use Rattle.ep_alarms.specs.declared.types.AlarmKind.{AlarmKind}
use Rattle.ep_alarms.specs.declared.types.AlarmKind.TheVariants.{U1, U2, U3, U4, U5, U6, U7, U8, U9, U10, E1, E2, E3}
use Rattle.ep_alarms.specs.declared.types.AlarmKind.TheVariants.{E4}
use Rattle.ep_alarms.specs.Alarm.{FitsTypes, name_of}
use Rattle.ep_alarms.specs.Text.{range_text, line_text, last_line, report_text_of}
use Rattle.ep_alarms.proofs.Decimals.{decimal_read, decimal_digits, split_at_mark, signed_read}

-- the kind that the first three bytes of its name tell
abbrev kind_by_code : ℕ → ℕ → ℕ → AlarmKind
kind_by_code u d t =
    if u == 69 then (if d == 49 then E1 else if d == 50 then E2 else if d == 51 then E3 else E4)
    else if t == 48 then U10
    else if d == 49 then U1 else if d == 50 then U2 else if d == 51 then U3 else if d == 52 then U4 else if d == 53 then U5
    else if d == 54 then U6 else if d == 55 then U7 else if d == 56 then U8 else U9

abbrev kind_in : List ℕ → AlarmKind
kind_in text = kind_by_code (get_or text 0 0) (get_or text 1 0) (get_or text 2 0)

kind_back : (k : AlarmKind) (rest : List ℕ) → kind_in (name_of k ++ rest) ≡ k
kind_back U1 rest = refl
kind_back U2 rest = refl
kind_back U3 rest = refl
kind_back U4 rest = refl
kind_back U5 rest = refl
kind_back U6 rest = refl
kind_back U7 rest = refl
kind_back U8 rest = refl
kind_back U9 rest = refl
kind_back U10 rest = refl
kind_back E1 rest = refl
kind_back E2 rest = refl
kind_back E3 rest = refl
kind_back E4 rest = refl

kind_read : (k l : AlarmKind) (r s : List ℕ) → name_of k ++ r ≡ name_of l ++ s → (k ≡ l) × (r ≡ s)
kind_read k l r s e =
    let same : k ≡ l = sym (kind_back k r) ∙ ap kind_in e ∙ kind_back l s in
    (same, append_cancel_left (name_of l) r s (subst (λ (j : AlarmKind). name_of j ++ r ≡ name_of l ++ s) same e))

range_spelled : (v : ℤ × ℤ) (r : List ℕ) → range_text v ++ r ≡ 91 ∷ (signed_decimal v.0 ++ (44 ∷ (signed_decimal v.1 ++ (93 ∷ r))))
range_spelled v r = simp append_assoc

range_read : (v w : ℤ × ℤ) (r s : List ℕ) → FitsSigned w128 v.0 → FitsSigned w128 v.1 → FitsSigned w128 w.0 → FitsSigned w128 w.1 → range_text v ++ r ≡ range_text w ++ s → (v ≡ w) × (r ≡ s)
range_read v w r s p q p' q' e =
    let spelled = sym (range_spelled v r) ∙ e ∙ range_spelled w s in
    let inside : signed_decimal v.0 ++ (44 ∷ (signed_decimal v.1 ++ (93 ∷ r))) ≡ signed_decimal w.0 ++ (44 ∷ (signed_decimal w.1 ++ (93 ∷ s))) = cc in
    let least = signed_read v.0 w.0 44 _ _ p p' (λ a b. omega arith) (λ a. omega arith) inside in
    let greatest = signed_read v.1 w.1 93 _ _ q q' (λ a b. omega arith) (λ a. omega arith) least.1 in
    ((λ i. (least.0 i, greatest.0 i)), greatest.1)

regroup : (a b c d e f g h r : List ℕ) → (((((((a ++ b) ++ c) ++ d) ++ e) ++ f) ++ g) ++ h) ++ r ≡ a ++ (b ++ (c ++ (d ++ (e ++ (f ++ (g ++ (h ++ r)))))))
regroup a b c d e f g h r = simp append_assoc

line_spelled : (a : Alarm) (r : List ℕ) → line_text a ++ r ≡ decimal a.line ++ (58 ∷ 32 ∷ (name_of a.kind ++ (codes " left " ++ (range_text a.left ++ (codes " right " ++ (range_text a.right ++ (10 ∷ r)))))))
line_spelled a r = regroup (decimal a.line) (codes ": ") (name_of a.kind) (codes " left ") (range_text a.left) (codes " right ") (range_text a.right) (codes "\n") r

line_read : (a b : Alarm) (r s : List ℕ) → FitsTypes a → FitsTypes b → line_text a ++ r ≡ line_text b ++ s → (a ≡ b) × (r ≡ s)
line_read a b r s p q e =
    let spelled = sym (line_spelled a r) ∙ e ∙ line_spelled b s in
    let line = decimal_read a.line b.line 58 58 _ _ (omega (arith, p.line)) (omega (arith, q.line)) (λ g h. omega arith) (λ g h. omega arith) spelled in
    let kind = kind_read a.kind b.kind _ _ (append_cancel_left (58 ∷ 32 ∷ []) _ _ line.1) in
    let left = range_read a.left b.left _ _ p.left_least p.left_greatest q.left_least q.left_greatest (append_cancel_left (codes " left ") _ _ kind.1) in
    let right = range_read a.right b.right _ _ p.right_least p.right_greatest q.right_least q.right_greatest (append_cancel_left (codes " right ") _ _ left.1) in
    ((λ i. record { line = line.0 i; kind = kind.0 i; left = left.0 i; right = right.0 i }), append_cancel_left (10 ∷ []) r s right.1)

first_apart : (c d : ℕ) (r s : List ℕ) → (c ≡ d → ⊥) → c ∷ r ≡ d ∷ s → ⊥
first_apart c d r s n e = let same : c ≡ d = cc in n same

last_line_some : (n : ℕ) → last_line (suc n) ≡ decimal (suc n) ++ codes " alarms\n"
last_line_some n = ap (λ (b : Bool). if b then codes "portable\n" else decimal (suc n) ++ codes " alarms\n") (ne_eqb (suc n) 0 (omega arith))

-- the last line does not begin as another line does
last_apart : (n : ℕ) (a : Alarm) (r : List ℕ) → last_line n ≡ line_text a ++ r → ⊥
last_apart zero a r e =
    let parts = split_at_mark [] (decimal a.line) 112 58 _ _ tt (decimal_digits a.line) (λ g h. omega arith) (λ g h. omega arith) (e ∙ line_spelled a r) in
    absurd (first_apart 112 58 _ _ (omega arith) parts.1)
last_apart (suc n) a r e =
    let parts = split_at_mark (decimal (suc n)) (decimal a.line) 32 58 _ _ (decimal_digits (suc n)) (decimal_digits a.line) (λ g h. omega arith) (λ g h. omega arith) (sym (last_line_some n) ∙ e ∙ line_spelled a r) in
    absurd (first_apart 32 58 _ _ (omega arith) parts.1)

lines_read : (alarms others : List Alarm) (m n : ℕ) → All FitsTypes alarms → All FitsTypes others → flat_map line_text alarms ++ last_line m ≡ flat_map line_text others ++ last_line n → alarms ≡ others
lines_read [] [] m n p q e = refl
lines_read [] (b ∷ bs) m n p q e = absurd (last_apart m b _ (e ∙ append_assoc (line_text b) (flat_map line_text bs) (last_line n)))
lines_read (a ∷ more) [] m n p q e = absurd (last_apart n a _ (sym e ∙ append_assoc (line_text a) (flat_map line_text more) (last_line m)))
lines_read (a ∷ more) (b ∷ bs) m n p q e =
    let first = line_read a b _ _ (All-head FitsTypes a more p) (All-head FitsTypes b bs q)
    (sym (append_assoc (line_text a) (flat_map line_text more) (last_line m)) ∙ e ∙ append_assoc (line_text b) (flat_map line_text bs) (last_line n)) in
    let rest = lines_read more bs m n (All-tail FitsTypes a more p) (All-tail FitsTypes b bs q) first.1 in
    λ i. first.0 i ∷ rest i

-- different lists have different texts
pub text_determines : (alarms others : List Alarm) → All FitsTypes alarms → All FitsTypes others → report_text_of alarms ≡ report_text_of others → alarms ≡ others
text_determines alarms others p q e = lines_read alarms others (length alarms) (length others) p q e
