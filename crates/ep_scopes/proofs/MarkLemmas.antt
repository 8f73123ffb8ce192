-- Scopes go back to what they were at a mark.
use Rattle.std.proofs.Common.{◌≡◌, ℕ, suc, ◌+◌, ◌<◌, ◌≤◌, List, [], ◌∷◌, length, take, refl, sym, ap, ◌∙◌, subst, arith}
use Rattle.std.proofs.Math.Seq.{take-append_seam}
use Rattle.std.proofs.lemmas.List.{append-nil}
use Rattle.ep_typing.specs.Env.{Meaning, Scope}
use Rattle.ep_scopes.specs.declared.scopes.Scope.{Scope as KeptScope}
use Rattle.ep_scopes.specs.Comes.{Begins, Gains, ScopesCome, gained, opened, same}
use Rattle.ep_scopes.specs.View.{cut, innermost, outer, rewound, scope, stacked}

-- what came behind a list is cut off again
cut_back : {A : Type 0} (xs ys : List A) (n : ℕ) → Begins xs ys → n ≡ length xs → take n ys ≡ xs
cut_back xs ys n b e = ap (λ (k : ℕ). take k ys) e ∙ sym (ap (take (length xs)) b.1) ∙ take-append_seam xs b.0

-- ---- scopes

stack_length : (G : List Scope) (ss : List KeptScope) → length (stacked G ss) ≡ length G + length ss
stack_length G [] = omega arith
stack_length G (s ∷ ss) =
    let e : length (stacked (scope s ∷ G) ss) ≡ suc (length G) + length ss = stack_length (scope s ∷ G) ss in
    omega (arith, e)

pub scopes_length : (ss : List KeptScope) → length (stacked [] ss) ≡ length ss
scopes_length ss = let e : length (stacked [] ss) ≡ 0 + length ss = stack_length [] ss in omega (arith, e)

no_fewer : (ss us : List Scope) → ScopesCome ss us → length ss ≤ length us
no_fewer ss us (same xs) = omega arith
no_fewer ss us (gained s u xs g) = omega arith
no_fewer ss us (opened xs ys u c) = let h : length xs ≤ length ys = no_fewer xs ys c in omega (arith, h)

-- where more are open, the innermost was opened inside the others
left_out : (ss us : List Scope) → ScopesCome ss us → length ss < length us → ScopesCome ss (outer us)
left_out ss us (same xs) h = absurd (omega (arith, h))
left_out ss us (gained s u xs g) h = absurd (omega (arith, h))
left_out ss us (opened xs ys u c) h = c

scope_back : (s u : Scope) (n k : ℕ) → Gains s u → n ≡ length s.names → k ≡ length s.tags → cut n k u ≡ s
scope_back s u n k g e f =
    ap (λ (ns : List (List ℕ × Meaning)). record { names = ns; tags = take k u.tags }) (cut_back s.names u.names n g.names e)
    ∙ ap (λ (ts : List (List ℕ × ℕ)). record { names = s.names; tags = ts }) (cut_back s.tags u.tags k g.tags f)

gains_nothing : (s : Scope) → Gains s s
gains_nothing s = record { names = ([], append-nil s.names); tags = ([], append-nil s.tags) }

-- where as many are open, the innermost is cut
rewound_back : (ss us : List Scope) (n k : ℕ) → ScopesCome ss us → length us ≡ length ss
    → n ≡ length (innermost ss).names → k ≡ length (innermost ss).tags → rewound n k us ≡ ss
rewound_back ss us n k (same []) h e f = refl
rewound_back ss us n k (same (s ∷ xs)) h e f = ap (λ (x : Scope). x ∷ xs) (scope_back s s n k (gains_nothing s) e f)
rewound_back ss us n k (gained s u xs g) h e f = ap (λ (x : Scope). x ∷ xs) (scope_back s u n k g e f)
rewound_back ss us n k (opened xs ys u c) h e f =
    let l : length xs ≤ length ys = no_fewer xs ys c in
    absurd (omega (arith, h, l))

-- scopes on the way back: how many turns are left
pub record OnTheWay (ss all us : List Scope) (from turn : ℕ) : Type 0 where
  pub comes : ScopesCome ss us
  pub left : length us + turn ≡ length all + from

shorter : (us : List Scope) (n turn all : ℕ) → length us + turn ≡ all → n < length us → length (outer us) + (turn + 1) ≡ all
shorter [] n turn all l h = absurd (omega (arith, h))
shorter (u ∷ us) n turn all l h = omega (arith, l)

pub goes_back : (ss all us vs : List Scope) (from turn end : ℕ) → end ≡ length all → turn < end → from ≡ length ss
    → vs ≡ outer us → OnTheWay ss all us from turn → OnTheWay ss all vs from (turn + 1)
goes_back ss all us vs from turn end e h f o w =
    let more : length ss < length us = omega (arith, e, h, f, w.left) in
    subst (λ (xs : List Scope). OnTheWay ss all xs from (turn + 1)) (sym o) (record {
      comes = left_out ss us w.comes more;
      left = shorter us (length ss) turn (length all + from) w.left more;
    })

pub is_back : (ss all us : List Scope) (from turn end n k : ℕ) → end ≡ length all → end ≤ turn → from ≡ length ss
    → n ≡ length (innermost ss).names → k ≡ length (innermost ss).tags → OnTheWay ss all us from turn
    → rewound n k us ≡ ss
is_back ss all us from turn end n k e h f i j w =
    let l : length ss ≤ length us = no_fewer ss us w.comes in
    rewound_back ss us n k w.comes (omega (arith, e, h, f, w.left, l)) i j
