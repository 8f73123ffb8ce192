-- Nothing stands too deep in a sample.
use Rattle.std.proofs.Common.{◌≡◌, ℕ, zero, suc, ◌+◌, Bool, true, false, List, ◌++◌, None, refl, ◌∙◌, ap}
use Rattle.std.specs.Prelude.{◌==◌, if◌then◌else◌, Option}
use Rattle.ep_ast.specs.Token.{Tok}
use Rattle.ep_ast.specs.Statement.{Part, to_parts}
use Rattle.ep_ast.specs.Depth.{brackets_past, too_deep, in_parts, or_else}
use Rattle.ep_sample.specs.Sample.{next_of, kind_of, shift_of}
use Rattle.ep_sample_trees.specs.Tokens as tokens
use Rattle.ep_sample_trees.specs.Tokens.{tokens_of}
use Rattle.ep_sample_trees.specs.Tree as trees
use Rattle.ep_sample_trees.specs.Tree.{tree_of}

-- ---- brackets: one is open where the fields stand

abbrev IsEven : List Tok → Type 0
IsEven ts = (us : List Tok) → brackets_past 1 (ts ++ us) ≡ brackets_past 1 us

even_of_kind : (a c : Bool) (t1 t2 t3 : List Tok) → IsEven t1 → IsEven t2 → IsEven t3
    → IsEven (if a then t1 else if c then t2 else t3)
even_of_kind true c t1 t2 t3 d e f = d
even_of_kind false true t1 t2 t3 d e f = e
even_of_kind false false t1 t2 t3 d e f = f

even_turned : (l : ℕ) → IsEven (tokens.turned_tokens l)
even_turned l us = refl

even_swapped : (l : ℕ) → IsEven (tokens.swapped_tokens l)
even_swapped l us = refl

even_byte : (l n : ℕ) → IsEven (tokens.byte_tokens l n)
even_byte l n us = refl

fields_closed : (s l n : ℕ) → brackets_past 1 (tokens.fields_tokens s l n) ≡ None
fields_closed s l zero = refl
fields_closed s l (suc n) =
    even_of_kind (kind_of (next_of s) == 0) (kind_of (next_of s) == 1) (tokens.turned_tokens l) (tokens.swapped_tokens l)
    (tokens.byte_tokens l (shift_of (next_of s))) (even_turned l) (even_swapped l) (even_byte l (shift_of (next_of s)))
    (tokens.fields_tokens (next_of s) (l + 1 + 1 + 1) n)
    ∙ fields_closed (next_of s) (l + 1 + 1 + 1) n

pub closed : (start n : ℕ) → brackets_past 0 (tokens_of start n) ≡ None
closed start n = fields_closed start 13 n

-- ---- operators and statements

abbrev IsFlat : List Part → Type 0
IsFlat ps = (qs : List Part) → in_parts (to_parts (ps ++ qs)) ≡ in_parts (to_parts qs)

flat_of_kind : (a c : Bool) (p1 p2 p3 : List Part) → IsFlat p1 → IsFlat p2 → IsFlat p3
    → IsFlat (if a then p1 else if c then p2 else p3)
flat_of_kind true c p1 p2 p3 d e f = d
flat_of_kind false true p1 p2 p3 d e f = e
flat_of_kind false false p1 p2 p3 d e f = f

flat_turned : (l : ℕ) → IsFlat (trees.turned_parts l)
flat_turned l qs = refl

flat_swapped : (l : ℕ) → IsFlat (trees.swapped_parts l)
flat_swapped l qs = refl

flat_byte : (l n : ℕ) → IsFlat (trees.byte_parts l n)
flat_byte l n qs = refl

fields_flat : (s l n : ℕ) → in_parts (to_parts (trees.fields_parts s l n)) ≡ None
fields_flat s l zero = refl
fields_flat s l (suc n) =
    flat_of_kind (kind_of (next_of s) == 0) (kind_of (next_of s) == 1) (trees.turned_parts l) (trees.swapped_parts l)
    (trees.byte_parts l (shift_of (next_of s))) (flat_turned l) (flat_swapped l) (flat_byte l (shift_of (next_of s)))
    (trees.fields_parts (next_of s) (l + 1 + 1 + 1) n)
    ∙ fields_flat (next_of s) (l + 1 + 1 + 1) n

pub flat : (start n : ℕ) → too_deep (tree_of start n) ≡ None
flat start n = ap (λ (o : Option ℕ). or_else o None) (fields_flat start 13 n)
