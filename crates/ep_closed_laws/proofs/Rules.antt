-- What both machines come to in the end, and what is known before.
use Rattle.std.proofs.Common.{◌≡◌, ℕ, List, [], ◌∷◌, ◌++◌, length, refl, sym, subst, ◌∙◌, arith}
use Rattle.ep_core.specs.Exec.{Output, State, Way, on, broken, continued, returned, code_of_way}
use Rattle.ep_core.specs.Runs.{Begins}
use Rattle.ep_core.proofs.Prefixes.{begins_trans}
use Rattle.ep_core.proofs.Grows.{Later}

-- ---- what ends so

-- Where both runs come to their end, joint tests are equal; or the text is quiet.
pub data Rule : Type 0 where
  alike : (joint_tests : List ℕ) → Rule
  quiet : Rule

abbrev pub Same : Rule → State → State → Type 0
Same (alike fs) x y = x.joint_tests ≡ y.joint_tests
Same quiet x y = Unit {0}

-- a runs' tests at its end
abbrev pub Tests : Rule → State → Type 0
Tests (alike fs) x = Begins x.joint_tests fs
Tests quiet x = Unit {0}

-- both come to these outputs, and by the rule to these tests
abbrev pub Comes : Rule → List Output → State → Type 0
Comes rule os x = Begins x.outputs os × Tests rule x

abbrev pub Ahead : Rule → List Output → State → State → Type 0
Ahead rule os x y = Comes rule os x × Comes rule os y

tests_back : (rule : Rule) (x r : State) → Later x r → Tests rule r → Tests rule x
tests_back (alike fs) x r h i = begins_trans _ _ _ h.2 i
tests_back quiet x r h i = tt

pub comes_back : (rule : Rule) (os : List Output) (x r : State) → Later x r → Comes rule os r → Comes rule os x
comes_back rule os x r h i = (begins_trans _ _ _ h.0 i.0, tests_back rule x r h i.1)

pub ahead_back : (rule : Rule) (os : List Output) (x y r q : State) → Later x r → Later y q → Ahead rule os r q
    → Ahead rule os x y
ahead_back rule os x y r q h i a = (comes_back rule os x r h a.0, comes_back rule os y q i a.1)

-- ---- lists that begin one

tail_same : {A : Type 0} (a b : A) (xs ys : List A) → a ∷ xs ≡ b ∷ ys → xs ≡ ys
tail_same a b xs ys e = cc

head_same : {A : Type 0} (a b : A) (xs ys : List A) → a ∷ xs ≡ b ∷ ys → a ≡ b
head_same a b xs ys e = cc

front_same : {A : Type 0} (xs ys r q : List A) → length xs ≡ length ys → xs ++ r ≡ ys ++ q → xs ≡ ys
front_same [] [] r q d e = refl
front_same [] (b ∷ ys) r q d e = absurd (omega (arith, d))
front_same (a ∷ xs) [] r q d e = absurd (omega (arith, d))
front_same (a ∷ xs) (b ∷ ys) r q d e =
    let i = front_same xs ys r q (omega (arith, d)) (tail_same a b (xs ++ r) (ys ++ q) e) in
    let h = head_same a b (xs ++ r) (ys ++ q) e in
    cc

pub same_front : {A : Type 0} (xs ys os : List A) → length xs ≡ length ys → Begins xs os → Begins ys os → xs ≡ ys
same_front xs ys os d h i = front_same xs ys h.rest i.rest d (h.is ∙ sym i.is)

next_same : {A : Type 0} (xs r q : List A) (a b : A) → (xs ++ a ∷ []) ++ r ≡ (xs ++ b ∷ []) ++ q → a ≡ b
next_same [] r q a b e = head_same a b r q e
next_same (x ∷ xs) r q a b e = next_same xs r q a b (tail_same x x _ _ e)

pub codes_same : (xs ys fs : List ℕ) (a b : ℕ) → xs ≡ ys → Begins (xs ++ a ∷ []) fs → Begins (ys ++ b ∷ []) fs → a ≡ b
codes_same xs ys fs a b e h i =
    next_same xs h.rest i.rest a b (h.is ∙ sym (subst (λ zs. (zs ++ b ∷ []) ++ i.rest ≡ fs) (sym e) i.is))

pub code_way : (k j : Way) → code_of_way k ≡ code_of_way j → k ≡ j
code_way on on e = refl
code_way on broken e = absurd cc
code_way on continued e = absurd cc
code_way on returned e = absurd cc
code_way broken on e = absurd cc
code_way broken broken e = refl
code_way broken continued e = absurd cc
code_way broken returned e = absurd cc
code_way continued on e = absurd cc
code_way continued broken e = absurd cc
code_way continued continued e = refl
code_way continued returned e = absurd cc
code_way returned on e = absurd cc
code_way returned broken e = absurd cc
code_way returned continued e = absurd cc
code_way returned returned e = refl
