-- Joint tests that are equal or unequal, and runs with more turns.
use Rattle.std.proofs.Common.{◌≡◌, ◌⊎◌, inl, inr, ℕ, zero, suc, ◌≤◌, List, [], ◌∷◌, ◌++◌, refl, sym, subst, ap, ◌∙◌}
use Rattle.std.proofs.Common.{Bool, true, false, ◌&&◌, nat_eq, arith}
use Rattle.std.proofs.lemmas.Bool.{eqb-true, and_parts}
use Rattle.ep_int.specs.Memory.{Memory, Found, has, faults}
use Rattle.ep_core.specs.Program.{Stmts}
use Rattle.ep_core.specs.Exec.{Output, State, Way, on, broken, continued, returned, Outcome, leaves, running}
use Rattle.ep_core.specs.Exec.{no_input, undefined_at, Going, given, and_then, is_true, code_of_way, code_of_test}
use Rattle.ep_core.specs.Exec.{listed, either}
use Rattle.ep_core.specs.Ways.{Ways as TextWays, has_way}
use Rattle.ep_core.specs.Laws.{IsAmong}
use Rattle.ep_core.proofs.Prefixes.{begins_trans}
use Rattle.ep_core.proofs.Grows.{Later}
use Rattle.ep_closed_laws.specs.Bounded.{turns_from, tests_from}
use Rattle.ep_pass.proofs.Differing.{Differ}
use Rattle.ep_core.specs.Exec.{running}
use Rattle.ep_closed_laws.proofs.Rules.{Rule, alike, quiet, Same, Ahead, codes_same, code_way}

abbrev pub IsQuietRule : Rule → Type 0
IsQuietRule (alike fs) = ⊥
IsQuietRule quiet = Unit {0}

pub same_kept : (rule : Rule) (x y r q : State) → r.joint_tests ≡ x.joint_tests → q.joint_tests ≡ y.joint_tests
    → Same rule x y → Same rule r q
same_kept (alike fs) x y r q e d h = e ∙ (h ∙ sym d)
same_kept quiet x y r q e d h = tt

pub same_quiet : (rule : Rule) (x y : State) → IsQuietRule rule → Same rule x y
same_quiet (alike fs) x y h = absurd h
same_quiet quiet x y h = tt

pub same_listed : (rule : Rule) (x y : State) (a : ℕ) → Same rule x y → Same rule (listed a x) (listed a y)
same_listed (alike fs) x y a h = ap (λ (xs : List ℕ). xs ++ a ∷ []) h
same_listed quiet x y a h = tt

-- different codes listed by equal machines: only by the quiet rule
pub tests_differ : (rule : Rule) (os : List Output) (x y r q : State) (a b : ℕ) → Same rule x y → Later (listed a x) r
    → Later (listed b y) q → Ahead rule os r q → (a ≡ b) ⊎ IsQuietRule rule
tests_differ (alike fs) os x y r q a b s h i z =
    inl (codes_same x.joint_tests y.joint_tests fs a b s (begins_trans _ _ _ h.2 z.0.1) (begins_trans _ _ _ i.2 z.1.1))
tests_differ quiet os x y r q a b s h i z = inr tt

abbrev pub pick : {A : Type 0} → Bool → Bool → (both_true left_alone right_alone neither : A) → A
pick true true a b c d = a
pick true false a b c d = b
pick false true a b c d = c
pick false false a b c d = d

-- a machine that leaves with so many turns does the same with more
abbrev pub SameIfLeft : Outcome → Outcome → Type 0
SameIfLeft (leaves k n x) d = d ≡ leaves k n x
SameIfLeft (running x) d = Unit {0}
SameIfLeft (no_input x) d = Unit {0}
SameIfLeft (undefined_at l k x) d = Unit {0}

pub same_self : (c : Outcome) → SameIfLeft c c
same_self (leaves k n x) = refl
same_self (running x) = tt
same_self (no_input x) = tt
same_self (undefined_at l k x) = tt

pub same_then : (c : Outcome) (f g : Going) → ((n : ℕ) (x : State) → SameIfLeft (f n x) (g n x))
    → SameIfLeft (and_then c f) (and_then c g)
same_then (leaves on n x) f g h = h n x
same_then (leaves broken n x) f g h = refl
same_then (leaves continued n x) f g h = refl
same_then (leaves returned n x) f g h = refl
same_then (running x) f g h = tt
same_then (no_input x) f g h = tt
same_then (undefined_at l k x) f g h = tt

pub same_given : (v : Found) (l : ℕ) (f g : Going) (n : ℕ) (x : State) → ((x : State) → SameIfLeft (f n x) (g n x))
    → SameIfLeft (given v l x (λ v. either (is_true v) f (leaves broken) n x))
    (given v l x (λ v. either (is_true v) g (leaves broken) n x))
same_given (faults k) l f g n x h = tt
same_given (has v) l f g n x h = by_truth (is_true v)
  where
    by_truth : (t : Bool) → SameIfLeft (either t f (leaves broken) n x) (either t g (leaves broken) n x)
    by_truth true = h (listed (code_of_test true) x)
    by_truth false = refl

pub turns_more : (test : Memory → Found) (l : ℕ) (f : Going) (k j : ℕ) → k ≤ j → (n : ℕ) (x : State)
    → SameIfLeft (turns_from test l f k n x) (turns_from test l f j n x)
turns_more test l f zero j le n x = tt
turns_more test l f (suc k) zero le n x = absurd (omega (arith, le))
turns_more test l f (suc k) (suc j) le n x =
    same_then (f n x) (tests_from test l f k) (tests_from test l f j)
    (λ n x. same_given (test x.memory) l (turns_from test l f k) (turns_from test l f j) n x
    (λ x. turns_more test l f k j (omega (arith, le)) n x))

-- a statement is left by this way
abbrev pub IsLeftBy : Way → Outcome → Type 0
IsLeftBy k (leaves j n x) = j ≡ k
IsLeftBy k (running x) = ⊥
IsLeftBy k (no_input x) = ⊥
IsLeftBy k (undefined_at l j x) = ⊥

abbrev pub TextIs : Rule → Bool → Type 0
TextIs (alike fs) t = Unit {0}
TextIs quiet t = t ≡ true

pub text_parts : (rule : Rule) (a b : Bool) → TextIs rule (a && b) → TextIs rule a × TextIs rule b
text_parts (alike fs) a b h = (tt, tt)
text_parts quiet a b h = and_parts a b h

pub text_true : (rule : Rule) (a : Bool) → TextIs rule a → IsQuietRule rule → a ≡ true
text_true (alike fs) a h z = absurd z
text_true quiet a h z = h

-- ways that can't differ are one
pub same_way : (a b : TextWays)
    → ((k j : Way) → Differ k j → has_way a k ≡ true → has_way b j ≡ true → ⊥)
    → (k j : Way) → has_way a k ≡ true → has_way b j ≡ true → k ≡ j
same_way a b f k j h i = by_codes (nat_eq (code_of_way k) (code_of_way j)) refl
  where
    by_codes : (t : Bool) → nat_eq (code_of_way k) (code_of_way j) ≡ t → k ≡ j
    by_codes true e = code_way k j (eqb-true (code_of_way k) (code_of_way j) e)
    by_codes false e = absurd (f k j e h i)

pub taken_way : (a : TextWays) (c : Outcome) (k : Way) → IsAmong a c → IsLeftBy k c → has_way a k ≡ true
taken_way a (leaves j n x) k h e = subst (λ i. has_way a i ≡ true) e h
taken_way a (running x) k h e = absurd e
taken_way a (no_input x) k h e = absurd e
taken_way a (undefined_at l j x) k h e = absurd e

pub differ_turned : (k j : Way) → Differ k j → Differ j k
differ_turned k j d = grind arith

-- the arm of an order, of the text
abbrev pub arm_text : Bool → Stmts → Stmts → Stmts
arm_text true a b = a
arm_text false a b = b
