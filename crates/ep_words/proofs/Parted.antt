-- Words one by one.
use Rattle.std.proofs.Common.{◌≡◌, ◌≤◌, ◌-◌, List, [], ◌∷◌, String, Some, None, ◌<◌, true, length, take, drop, get_or}
use Rattle.std.proofs.Common.{string_bytes, refl, arith, take_all}
use Rattle.ep_words.specs.View as view
use Rattle.ep_words.specs.Words as rule

pub more_options : {A : Type 0} (o more : rule.Options) (ws : List (String A)) (n v : String A) → 2 ≤ length ws
    → n ≡ get_or ws 0 n → v ≡ get_or ws 1 v → rule.begins_as_option (string_bytes n) ≡ true
    → Some more ≡ rule.with_option o (string_bytes n) (string_bytes v)
    → rule.options more (view.words (take (length ws - 2) (drop 2 ws))) ≡ rule.options o (view.words ws)
unfolding rule.options
more_options o more [] n v h e f b w = absurd (omega arith)
more_options o more (x ∷ []) n v h e f b w = absurd (omega arith)
more_options {A} o more (x ∷ y ∷ ws) n v h e f b w =
    let all : take (length (x ∷ y ∷ ws) - 2) ws ≡ ws = take_all (length (x ∷ y ∷ ws) - 2) ws (omega arith) in rw (← e, ← f, b, ← w, all) refl

pub too_few : {A : Type 0} (ws : List (String A)) → length ws < 2 → None ≡ rule.plain (view.words ws)
too_few [] h = refl
too_few (x ∷ []) h = refl
too_few (x ∷ y ∷ ws) h = absurd (omega arith)
