-- Cells of two states put together, run by run.
use Rattle.std.proofs.Common.{◌≡◌, ℕ, zero, suc, ◌+◌, ◌<◌, ◌≤◌, List, [], ◌∷◌, ◌++◌, map, length, drop, get_or, refl}
use Rattle.std.proofs.lemmas.List.{append-nil}
use Rattle.std.proofs.Common.{sym, ◌∙◌, ap, arith, append_assoc, length-append}
use Rattle.ep_cells.specs.declared.cell.Cell.{Cell}
use Rattle.ep_cells.specs.Both.{cell_of_both, cells_of_both}
use Rattle.ep_shared_parts.specs.declared.parts.Part.{Part}
use Rattle.ep_shared_parts.specs.Spread.{outline, outlines, all_items}
use Rattle.ep_shared_parts.specs.Mentions.{number_of}
use Rattle.ep_shared_parts.proofs.Halving.{outlines_append, items_append}
use Rattle.ep_shared_parts.proofs.Steps.{rest_at, items_at}

-- ---- lists

both_split : {N : Type 0} (f : N → N → N) (xs zs ys : List (Cell N)) → length xs ≤ length ys
    → cells_of_both f (xs ++ zs) ys ≡ cells_of_both f xs ys ++ cells_of_both f zs (drop (length xs) ys)
both_split f [] zs [] h = refl
both_split f [] zs (y ∷ ys) h = refl
both_split f (x ∷ xs) zs [] h = absurd (omega arith)
both_split f (x ∷ xs) zs (y ∷ ys) h = ap (λ cs. cell_of_both f x y ∷ cs) (both_split f xs zs ys (omega arith))

both_numbers : {N : Type 0} (f : N → N → N) (xs ys : List (Cell N)) → length xs ≤ length ys
    → map number_of (cells_of_both f xs ys) ≡ map number_of xs
both_numbers f [] ys h = refl
both_numbers f (x ∷ xs) [] h = absurd (omega arith)
both_numbers f (x ∷ xs) (y ∷ ys) h = ap (λ ns. number_of x ∷ ns) (both_numbers f xs ys (omega arith))

length_drop : {X : Type 0} (n : ℕ) (ys : List X) → n ≤ length ys → n + length (drop n ys) ≡ length ys
length_drop zero [] h = omega arith
length_drop zero (y ∷ ys) h = omega arith
length_drop (suc n) [] h = absurd (omega arith)
length_drop (suc n) (y ∷ ys) h = let e = length_drop n ys (omega arith) in omega (arith, e)

-- ---- cell by cell

-- what is left behind the next one
pub rest_next : {X : Type 0} (i : ℕ) (y : X) (ys zs rest : List X) → ys ≡ drop i rest → ys ≡ y ∷ zs
    → zs ≡ drop (i + 1) rest
rest_next zero y ys zs [] e h = absurd (let w : [] ≡ y ∷ zs = sym e ∙ h in cc)
rest_next zero y ys zs (x ∷ rest) e h = let w : x ∷ rest ≡ y ∷ zs = sym e ∙ h in let v : zs ≡ rest = cc in v
rest_next (suc i) y ys zs [] e h = absurd (let w : [] ≡ y ∷ zs = sym e ∙ h in cc)
rest_next (suc i) y ys zs (x ∷ rest) e h =
    let n : suc i + 1 ≡ suc (i + 1) = omega arith in
    rest_next i y ys zs rest e h ∙ ap (λ m. drop m (x ∷ rest)) (sym n)

-- there is a next one
pub none_left : {X : Type 0} (i : ℕ) (ys rest : List X) → i < length rest → ys ≡ drop i rest → ys ≡ [] → ⊥
none_left i ys [] l e h = absurd (omega arith)
none_left zero ys (x ∷ rest) l e h = let w : x ∷ rest ≡ [] = sym e ∙ h in cc
none_left (suc i) ys (x ∷ rest) l e h = none_left i ys rest (omega arith) e h

-- one cell more stays
pub stays_next : {N : Type 0} (f : N → N → N) (xs : List (Cell N)) (i : ℕ) (x y : Cell N) (ys zs : List (Cell N))
    → i < length xs → x ≡ get_or xs i x → ys ≡ y ∷ zs → cell_of_both f x y ≡ x
    → cells_of_both f (drop (i + 1) xs) zs ≡ drop (i + 1) xs → cells_of_both f (drop i xs) ys ≡ drop i xs
stays_next f xs i x y ys zs b e h s k =
    let here = rest_at xs i x b e in
    ap (λ cs. cells_of_both f cs ys) here ∙ ap (cells_of_both f (x ∷ drop (i + 1) xs)) h
    ∙ ap (λ c. c ∷ cells_of_both f (drop (i + 1) xs) zs) s ∙ ap (λ cs. x ∷ cs) k ∙ sym here

-- all of them were looked at
pub none_to_go : {N : Type 0} (f : N → N → N) (xs ys : List (Cell N)) (i : ℕ) → length xs ≤ i
    → cells_of_both f (drop i xs) ys ≡ drop i xs
none_to_go f [] ys zero h = refl
none_to_go f [] ys (suc i) h = refl
none_to_go f (x ∷ xs) ys zero h = absurd (omega arith)
none_to_go f (x ∷ xs) ys (suc i) h = none_to_go f xs ys i (omega arith)

pub rest_all : {X : Type 0} (xs : List X) (i n : ℕ) (ys : List X) → i ≤ n → n ≤ i → ys ≡ drop i xs → ys ≡ drop n xs
rest_all xs i n ys h k e = let same : i ≡ n = omega (arith, h, k) in e ∙ ap (λ m. drop m xs) same

-- one cell more is made
pub made_next : {N : Type 0} (f : N → N → N) (xs : List (Cell N)) (i : ℕ) (x y z : Cell N) (ys zs out new whole : List
    (Cell N)) → i < length xs → x ≡ get_or xs i x → ys ≡ y ∷ zs → z ≡ cell_of_both f x y → new ≡ out ++ z ∷ []
    → out ++ cells_of_both f (drop i xs) ys ≡ whole → new ++ cells_of_both f (drop (i + 1) xs) zs ≡ whole
made_next f xs i x y z ys zs out new whole b e h s w k =
    let here = rest_at xs i x b e in
    let tail = cells_of_both f (drop (i + 1) xs) zs in
    ap (λ cs. cs ++ tail) w ∙ append_assoc out (z ∷ []) tail ∙ ap (λ c. out ++ (c ∷ tail)) s
    ∙ sym (ap (λ cs. out ++ cells_of_both f cs ys) here ∙ ap (λ cs. out ++ cells_of_both f (x ∷ drop (i + 1) xs) cs) h)
    ∙ k

-- ---- part by part

pub enough : {N : Type 0} (ps : List (Part (Cell N))) (i : ℕ) (p : Part (Cell N)) (ys : List (Cell N))
    → i < length ps → p ≡ get_or ps i p → length (all_items (drop i ps)) ≡ length ys
    → length p.items.value.items ≤ length ys
enough ps i p ys b e h =
    let l = ap length (items_at ps i p b e) ∙ length-append p.items.value.items (all_items (drop (i + 1) ps)) in
    omega (arith, l, h)

pub left_next : {N : Type 0} (ps : List (Part (Cell N))) (i : ℕ) (p : Part (Cell N)) (ys zs : List (Cell N))
    → i < length ps → p ≡ get_or ps i p → zs ≡ drop (length p.items.value.items) ys
    → length (all_items (drop i ps)) ≡ length ys → length (all_items (drop (i + 1) ps)) ≡ length zs
left_next ps i p ys zs b e r h =
    let l = ap length (items_at ps i p b e) ∙ length-append p.items.value.items (all_items (drop (i + 1) ps)) in
    let d = length_drop (length p.items.value.items) ys (enough ps i p ys b e h) in
    let q = ap length r in
    omega (arith, l, h, d, q)

pub both_next : {N : Type 0} (f : N → N → N) (ps out new : List (Part (Cell N))) (i : ℕ) (p q : Part (Cell N)) (ys zs
    whole : List (Cell N)) → i < length ps → p ≡ get_or ps i p → length (all_items (drop i ps)) ≡ length ys
    → zs ≡ drop (length p.items.value.items) ys → q.items.value.items ≡ cells_of_both f p.items.value.items ys
    → new ≡ out ++ q ∷ [] → all_items out ++ cells_of_both f (all_items (drop i ps)) ys ≡ whole
    → all_items new ++ cells_of_both f (all_items (drop (i + 1) ps)) zs ≡ whole
both_next f ps out new i p q ys zs whole b e h r g w k =
    let xs = p.items.value.items in
    let more = all_items (drop (i + 1) ps) in
    let tail = cells_of_both f more zs in
    ap (λ ts. all_items ts ++ tail) w ∙ ap (λ ts. ts ++ tail) (items_append out (q ∷ []))
    ∙ append_assoc (all_items out) (q.items.value.items ++ []) tail
    ∙ ap (λ ts. all_items out ++ (ts ++ tail)) (append-nil q.items.value.items ∙ g)
    ∙ ap (λ ts. all_items out ++ (cells_of_both f xs ys ++ cells_of_both f more ts)) r
    ∙ ap (λ ts. all_items out ++ ts) (sym (both_split f xs more ys (enough ps i p ys b e h)))
    ∙ ap (λ ts. all_items out ++ cells_of_both f ts ys) (sym (items_at ps i p b e)) ∙ k

pub outlines_next : {N : Type 0} (f : N → N → N) (ps out new : List (Part (Cell N))) (i : ℕ) (p q : Part (Cell N)) (ys :
    List (Cell N)) → i < length ps → p ≡ get_or ps i p → length (all_items (drop i ps)) ≡ length ys
    → q.start ≡ p.start → q.items.value.items ≡ cells_of_both f p.items.value.items ys → new ≡ out ++ q ∷ []
    → outlines number_of out ++ outlines number_of (drop i ps) ≡ outlines number_of ps
    → outlines number_of new ++ outlines number_of (drop (i + 1) ps) ≡ outlines number_of ps
outlines_next f ps out new i p q ys b e h s g w k =
    let same : outline number_of q ≡ outline number_of p = ap (λ j. record {
      start = j;
      numbers = map number_of q.items.value.items;
    }) s ∙ ap (λ ns. record { start = p.start; numbers = ns }) (ap (map number_of) g ∙ both_numbers f
    p.items.value.items ys (enough ps i p ys b e h)) in
    ap (λ xs. outlines number_of xs ++ outlines number_of (drop (i + 1) ps)) w
    ∙ ap (λ xs. xs ++ outlines number_of (drop (i + 1) ps)) (outlines_append number_of out (q ∷ []))
    ∙ append_assoc (outlines number_of out) (outline number_of q ∷ []) (outlines number_of (drop (i + 1) ps))
    ∙ ap (λ o. outlines number_of out ++ (o ∷ outlines number_of (drop (i + 1) ps))) same
    ∙ sym (ap (λ xs. outlines number_of out ++ outlines number_of xs) (rest_at ps i p b e)) ∙ k
