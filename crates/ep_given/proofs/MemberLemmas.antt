-- Members that a list gives values.
use Rattle.std.proofs.Common.{◌≡◌, ℕ, zero, suc, ◌<◌, ◌≤◌, Bool, true, false, cond, get_or, length, List, [], ◌∷◌}
use Rattle.std.proofs.Common.{map, slice_get, Option, Some, None, refl, sym, ap, ◌∙◌, arith}
use Rattle.std.specs.Option.{option_map}
use Rattle.std.proofs.lemmas.Option.{slice_get-get_or, slice_get-map, slice_get_past}
use Rattle.ep_layout.specs.declared.types.Member.{Member}
use Rattle.ep_layout.specs.Table.{MemberRow, Table, is_union, members_of}
use Rattle.ep_layout.specs.Views.{member_view}
use Rattle.ep_elaboration.specs.Given.{first_member, given_members}

pub there : (ms : List Member) (n : ℕ) (m : Member) → n < length ms → m ≡ get_or ms n m → Some (member_view m) ≡ slice_get (map member_view ms) n
there ms n m lt is =
    sym (slice_get-map member_view ms n ∙ ap (option_map member_view) (slice_get-get_or ms n m lt ∙ ap (λ (x : Member). Some x) (sym is)))

pub past : (ms : List Member) (n : ℕ) → length ms ≤ n → None ≡ slice_get (map member_view ms) n
past ms n le = sym (slice_get-map member_view ms n ∙ ap (option_map member_view) (slice_get_past ms n le))

pub only_first : (ms : List MemberRow) (n : ℕ) → 0 < n → None ≡ slice_get (first_member ms) n
only_first [] n lt = refl
only_first (m ∷ ms) zero lt = absurd (omega arith)
only_first (m ∷ ms) (suc n) lt = refl

pub the_first : (ms : List MemberRow) (n : ℕ) → n ≤ 0 → slice_get ms 0 ≡ slice_get (first_member ms) n
the_first [] n le = refl
the_first (m ∷ ms) zero le = refl
the_first (m ∷ ms) (suc n) le = absurd (omega arith)

pub of_union : (t : Table) (a n : ℕ) (ms : List MemberRow) (o : Option MemberRow) → is_union t a ≡ true → ms ≡ members_of t a
    → o ≡ slice_get (first_member ms) n → o ≡ slice_get (given_members t a) n
of_union t a n ms o u e h =
    h ∙ ap (λ (xs : List MemberRow). slice_get (first_member xs) n) e
    ∙ sym (ap (λ (b : Bool). slice_get (cond b (first_member (members_of t a)) (members_of t a)) n) u)

pub of_struct : (t : Table) (a n : ℕ) (ms : List MemberRow) (o : Option MemberRow) → is_union t a ≡ false → ms ≡ members_of t a
    → o ≡ slice_get ms n → o ≡ slice_get (given_members t a) n
of_struct t a n ms o u e h =
    h ∙ ap (λ (xs : List MemberRow). slice_get xs n) e
    ∙ sym (ap (λ (b : Bool). slice_get (cond b (first_member (members_of t a)) (members_of t a)) n) u)
