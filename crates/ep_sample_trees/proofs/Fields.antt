-- The statements of samples, derived.
use Rattle.std.proofs.Common.{◌≡◌, ℕ, zero, suc, ◌+◌, Bool, true, false, List, [], ◌∷◌, ◌++◌, refl}
use Rattle.std.specs.Prelude.{◌==◌, if◌then◌else◌}
use Rattle.ep_ast.specs.Token.{Tok, name, number, mark}
use Rattle.ep_ast.specs.Expression.{Expr}
use Rattle.ep_ast.specs.Statement.{Part}
use Rattle.ep_ast.specs.Mark.{left_bracket, right_bracket, right_brace, equal, comma, ampersand, semicolon}
use Rattle.ep_ast.specs.Mark.{right_shift}
use Rattle.ep_ast.specs.TypeWords.{is_built_in_type}
use Rattle.ep_ast.specs.StatementGrammar.{Parts, statement, evaluate, give_back, something, no_parts, more_parts}
use Rattle.ep_sample.specs.Sample.{next_of, kind_of, shift_of}
use Rattle.ep_sample_trees.specs.Names.{x, y, h, b, swap, uint8, ep_in_u32, ep_out_u32, ep_out_u16, ep_read, ep_write}
use Rattle.ep_sample_trees.specs.Names.{literal}
use Rattle.ep_sample_trees.specs.Tokens as tokens
use Rattle.ep_sample_trees.specs.Tree as trees
use Rattle.ep_sample_trees.proofs.Expressions.{Reads, whole, a_name, a_place, a_number, shift_in_parens, both_shifts}
use Rattle.ep_sample_trees.proofs.Expressions.{a_cast, call_of_none, call_of_one, call_with_number, an_address, an_element}
use Rattle.ep_sample_trees.proofs.Expressions.{assigned}

abbrev pub Body : List Tok → List Tok → List Part → Type 0
Body ts us ps = Parts is_built_in_type ts us ps

-- ---- one statement

does : (l : ℕ) (t : List ℕ) (xs : List Tok) {ys us : List Tok} {e : Expr} {ps : List Part}
    → Reads (name l t ∷ xs) (mark l semicolon ∷ ys) e → Body ys us ps → Body (name l t ∷ xs) us (trees.does l e ∷ ps)
does l t xs d more = more_parts (statement (evaluate (something refl d))) more

reads_number : (l : ℕ) {ts us : List Tok} {ps : List Part} → Body ts us ps
    → Body (tokens.reads_number l ++ ts) us
    (trees.does l (trees.assign l (trees.id l x) (trees.call l ep_in_u32 [])) ∷ ps)
reads_number l {ts = ts} d =
    does l x (mark l equal ∷ name l ep_in_u32 ∷ tokens.opens l ∷ tokens.closes l ∷ tokens.ends l ∷ ts)
    (assigned l refl (a_place l x (mark l equal ∷ name l ep_in_u32 ∷ tokens.opens l ∷ tokens.closes l ∷ tokens.ends l ∷ ts)
    refl) (whole (call_of_none l ep_in_u32 (tokens.ends l ∷ ts) refl))) d

puts : (l : ℕ) (f t : List ℕ) {ts us : List Tok} {ps : List Part} → is_built_in_type f ≡ false
    → is_built_in_type t ≡ false → Body ts us ps
    → Body (tokens.call_of_one l f t ++ ts) us (trees.does l (trees.call l f (trees.id l t ∷ [])) ∷ ps)
puts l f t {ts = ts} e g d =
    does l f (tokens.opens l ∷ name l t ∷ tokens.closes l ∷ tokens.ends l ∷ ts)
    (whole (call_of_one l f t (tokens.ends l ∷ ts) e g)) d

-- ---- fields

abbrev Adds : List Tok → List Part → Type 0
Adds ts ps = (xs us : List Tok) (qs : List Part) → Body xs us qs → Body (ts ++ xs) us (ps ++ qs)

turned : (l : ℕ) → Adds (tokens.turned_tokens l) (trees.turned_parts l)
turned l xs us qs d =
    let m = l + 1 in
    let ys = tokens.call_of_one (m + 1) ep_out_u32 y ++ xs in
    let zs = tokens.both_shifts m x 8 24 ++ tokens.ends m ∷ ys in
    reads_number l
    (does m y (mark m equal ∷ zs)
    (assigned m refl (a_place m y (mark m equal ∷ zs) refl) (both_shifts m x 8 24 (tokens.ends m ∷ ys) refl))
    (puts (m + 1) ep_out_u32 y refl refl d))

swapped : (l : ℕ) → Adds (tokens.swapped_tokens l) (trees.swapped_parts l)
swapped l xs us qs d =
    let m = l + 1 in
    let ys = tokens.call_of_one (m + 1) ep_out_u16 h ++ xs in
    let zs = tokens.call_of_one m swap h ++ ys in
    let vs = name m h ∷ mark m equal ∷ zs in
    let ws = mark l comma ∷ number l (literal 2) ∷ tokens.closes l ∷ tokens.ends l ∷ vs in
    does l ep_read (tokens.opens l ∷ mark l ampersand ∷ name l h ∷ ws)
    (whole (call_with_number l ep_read 2 (tokens.ends l ∷ vs) refl (an_address l h ws refl)))
    (does m h (mark m equal ∷ zs)
    (assigned m refl (a_place m h (mark m equal ∷ zs) refl) (whole (call_of_one m swap h (tokens.ends m ∷ ys) refl refl)))
    (puts (m + 1) ep_out_u16 h refl refl d))

by_bytes : (l n : ℕ) → Adds (tokens.byte_tokens l n) (trees.byte_parts l n)
by_bytes l n xs us qs d =
    let m = l + 1 in
    let k = m + 1 in
    let vs = mark k comma ∷ number k (literal 1) ∷ tokens.closes k ∷ tokens.ends k ∷ xs in
    let ys = name k ep_write ∷ tokens.opens k ∷ name k b ∷ vs in
    let zs = tokens.shift_in_parens m x right_shift n ++ tokens.ends m ∷ ys in
    let ws = mark m equal ∷ tokens.opens m ∷ name m uint8 ∷ tokens.closes m ∷ zs in
    reads_number l
    (does m b (mark m left_bracket ∷ number m (literal 0) ∷ mark m right_bracket ∷ ws)
    (assigned m refl (an_element m b 0 ws refl)
    (whole (a_cast m uint8 refl (shift_in_parens m x right_shift n (tokens.ends m ∷ ys) refl refl))))
    (does k ep_write (tokens.opens k ∷ name k b ∷ vs)
    (whole (call_with_number k ep_write 1 (tokens.ends k ∷ xs) refl (a_name k b vs refl))) d))

of_kind : (a c : Bool) (t1 t2 t3 : List Tok) (p1 p2 p3 : List Part) → Adds t1 p1 → Adds t2 p2 → Adds t3 p3
    → Adds (if a then t1 else if c then t2 else t3) (if a then p1 else if c then p2 else p3)
of_kind true c t1 t2 t3 p1 p2 p3 d e f = d
of_kind false true t1 t2 t3 p1 p2 p3 d e f = e
of_kind false false t1 t2 t3 p1 p2 p3 d e f = f

field : (s l : ℕ) → Adds (tokens.field_tokens s l) (trees.field_parts s l)
field s l =
    of_kind (kind_of s == 0) (kind_of s == 1) (tokens.turned_tokens l) (tokens.swapped_tokens l)
    (tokens.byte_tokens l (shift_of s)) (trees.turned_parts l) (trees.swapped_parts l) (trees.byte_parts l (shift_of s))
    (turned l) (swapped l) (by_bytes l (shift_of s))

pub fields : (s l n : ℕ) → Body (tokens.fields_tokens s l n) [] (trees.fields_parts s l n)
fields s l zero =
    more_parts (statement (give_back refl (something refl (whole (a_number l 0 (tokens.ends l ∷
    mark (l + 1) right_brace ∷ [])))))) (no_parts refl)
fields s l (suc n) =
    field (next_of s) l (tokens.fields_tokens (next_of s) (l + 1 + 1 + 1) n) []
    (trees.fields_parts (next_of s) (l + 1 + 1 + 1) n) (fields (next_of s) (l + 1 + 1 + 1) n)
