-- The first that is too deep in a member, and a body alone.
use Rattle.std.proofs.Common.{◌≡◌, ℕ, true, false, List, [], ◌∷◌, ◌++◌, Option, Some, None, refl, ap}
use Rattle.std.specs.Prelude.{◌&&◌}
use Rattle.ep_ast.specs.Declaration.{Spec, plain, body, Aggregate, Member, member, to_specs, to_members, MemberField}
use Rattle.ep_ast.specs.Depth.{or_else, first_of, in_spec, in_specs, in_member, in_members, in_field}
use Rattle.ep_declarations.specs.Answer.{is_body, is_one_body}
use Rattle.ep_declarations.specs.SpecAhead.{are_none}

pub in_members_is : (ms : List Member) → in_members (to_members ms) ≡ first_of in_member ms
in_members_is [] = refl
in_members_is (m ∷ ms) = ap (λ (o : Option ℕ). or_else (in_member m) o) (in_members_is ms)

pub in_specs_is : (ss : List Spec) → in_specs (to_specs ss) ≡ first_of in_spec ss
in_specs_is [] = refl
in_specs_is (s ∷ ss) = ap (λ (o : Option ℕ). or_else (in_spec s) o) (in_specs_is ss)

-- ---- one member

pub member_fits : (us ss : List Spec) (vs fs : List MemberField) (l : ℕ) (line : List Spec → ℕ) → l ≡ line us
    → (us ≡ ss) × (first_of in_spec ss ≡ None) → (vs ≡ fs) × (first_of in_field fs ≡ None)
    → (member l (to_specs us) vs ≡ member (line ss) (to_specs ss) fs)
    × (or_else (in_specs (to_specs ss)) (first_of in_field fs) ≡ None)
member_fits us ss vs fs l line e h k = (rw (e, h.0, k.0) refl, rw (in_specs_is ss, h.1, k.1) refl)

pub fields_deep : (ss : List Spec) (fs : List MemberField) (l : ℕ) → first_of in_spec ss ≡ None
    → first_of in_field fs ≡ Some l → or_else (in_specs (to_specs ss)) (first_of in_field fs) ≡ Some l
fields_deep ss fs l h k = rw (in_specs_is ss, h, k) refl

pub words_deep : (ss : List Spec) (fs : List MemberField) (l : ℕ) → first_of in_spec ss ≡ Some l
    → or_else (in_specs (to_specs ss)) (first_of in_field fs) ≡ Some l
words_deep ss fs l h = rw (in_specs_is ss, h) refl

-- ---- a body alone

one_is : (s : Spec) → is_one_body (s ∷ []) ≡ is_body s
one_is (plain w) = refl
one_is (body a) = refl

two_not : (s : Spec) (ss : List Spec) (t : Spec) → is_one_body (s ∷ ss ++ t ∷ []) ≡ false
two_not (plain w) ss t = refl
two_not (body a) [] t = refl
two_not (body a) (s ∷ ss) t = refl

pub alone-last : (ss : List Spec) (s : Spec) → is_one_body (ss ++ s ∷ []) ≡ (are_none ss && is_body s)
alone-last [] s = one_is s
alone-last (t ∷ ss) s = two_not t ss s

-- one word that is no body isn't a body alone
pub only_one : (ss : List Spec) → is_one_body ss ≡ true → (a : Aggregate) × (ss ≡ body a ∷ [])
only_one [] h = absurd cc
only_one (plain w ∷ ss) h = absurd cc
only_one (body a ∷ []) h = (a, refl)
only_one (body a ∷ s ∷ ss) h = absurd cc
