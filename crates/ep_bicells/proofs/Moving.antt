-- Cells of which those at the front and those at the end stay.
use Rattle.std.proofs.Common.{◌≡◌, ℕ, suc, ◌+◌, ◌<◌, List, [], ◌∷◌, ◌++◌, map, length, take, drop, get_or, sym, ◌∙◌}
use Rattle.std.proofs.Common.{ap, subst, append_assoc}
use Rattle.std.proofs.Math.Seq.{drop-cons}
use Rattle.std.proofs.lemmas.List.{take_more, take-append-drop}
use Rattle.ep_int.specs.declared.types.Model.{Model}
use Rattle.ep_domain.specs.Domain.{Ops}
use Rattle.ep_cells.specs.declared.cell.Cell.{Cell}
use Rattle.ep_cells.specs.Cells.{each_becomes}
use Rattle.ep_cells.proofs.Basics.{map-append}
use Rattle.ep_reads.proofs.Composed.{each_append}
use Rattle.ep_cells.specs.Forms.{reformed}
use Rattle.ep_bicells.specs.declared.changes.Step.{Step}
use Rattle.ep_bicells.specs.Steps.{left_by_step, fate_of_step, after_step}

after_append : {N : Type 0} (D : Ops N) (d : Model) (s : Step N) (xs ys : List (Cell N))
    → after_step D d s (xs ++ ys) ≡ after_step D d s xs ++ after_step D d s ys
after_append D d s xs ys =
    ap (map (reformed (fate_of_step d s))) (each_append (left_by_step D d s) xs ys)
    ∙ map-append (reformed (fate_of_step d s)) (each_becomes (left_by_step D d s) xs)
    (each_becomes (left_by_step D d s) ys)

pub front_more : {N : Type 0} (D : Ops N) (d : Model) (s : Step N) (cs : List (Cell N)) (i : ℕ) (x : Cell N)
    → i < length cs → x ≡ get_or cs i x → after_step D d s (take i cs) ≡ take i cs
    → after_step D d s (x ∷ []) ≡ x ∷ [] → after_step D d s (take (i + 1) cs) ≡ take (i + 1) cs
front_more D d s cs i x l e h k =
    let t : take (i + 1) cs ≡ take i cs ++ x ∷ [] = take_more cs i x l ∙ ap (λ z. take i cs ++ z ∷ []) (sym e) in
    ap (after_step D d s) t ∙ after_append D d s (take i cs) (x ∷ [])
    ∙ ap (λ zs. zs ++ after_step D d s (x ∷ [])) h ∙ ap (λ zs. take i cs ++ zs) k ∙ sym t

pub back_more : {N : Type 0} (D : Ops N) (d : Model) (s : Step N) (cs : List (Cell N)) (i j : ℕ) (x : Cell N)
    → suc i ≡ j → i < length cs → x ≡ get_or cs i x → after_step D d s (drop j cs) ≡ drop j cs
    → after_step D d s (x ∷ []) ≡ x ∷ [] → after_step D d s (drop i cs) ≡ drop i cs
back_more D d s cs i j x q l e h k =
    let t : drop i cs ≡ (x ∷ []) ++ drop j cs = drop-cons cs i x l ∙ ap (λ z. z ∷ drop (suc i) cs) (sym e)
    ∙ ap (λ n. x ∷ drop n cs) q in
    ap (after_step D d s) t ∙ after_append D d s (x ∷ []) (drop j cs)
    ∙ ap (λ zs. zs ++ after_step D d s (drop j cs)) k ∙ ap (λ zs. x ∷ zs) h ∙ sym t

middle_changed : {N : Type 0} (D : Ops N) (d : Model) (s : Step N) (cs front rest middle behind : List (Cell N)) (i j : ℕ)
    → after_step D d s (take i cs) ≡ take i cs → front ≡ take i cs → rest ≡ drop i cs
    → after_step D d s (drop j rest) ≡ drop j rest → middle ≡ take j rest → behind ≡ drop j rest
    → (front ++ after_step D d s middle) ++ behind ≡ after_step D d s cs
middle_changed {N = N} D d s cs front rest middle behind i j hf ef er hb em eb =
    let F : List (Cell N) → List (Cell N) = after_step D d s in
    let first : F cs ≡ take i cs ++ F rest = sym (ap F (take-append-drop i cs)) ∙ after_append D d s (take i cs) (drop i cs)
    ∙ ap (λ zs. zs ++ F (drop i cs)) hf ∙ ap (λ zs. take i cs ++ F zs) (sym er) in
    let second : F rest ≡ F middle ++ behind = sym (ap F (take-append-drop j rest))
    ∙ after_append D d s (take j rest) (drop j rest) ∙ ap (λ zs. F (take j rest) ++ zs) (hb ∙ sym eb)
    ∙ ap (λ zs. F zs ++ behind) (sym em) in
    ap (λ zs. (zs ++ F middle) ++ behind) ef ∙ append_assoc (take i cs) (F middle) behind
    ∙ ap (λ zs. take i cs ++ zs) (sym second) ∙ sym first

-- a list is cut twice, and what stands between becomes what the step makes of it
pub middle_moved : {N : Type 0} (D : Ops N) (d : Model) (s : Step N)
    (cs front rest middle behind after out all as_it_was as_cut between : List (Cell N)) (i j : ℕ)
    → as_it_was ≡ cs → after_step D d s (take i as_it_was) ≡ take i as_it_was → front ≡ take i cs → rest ≡ drop i cs
    → as_cut ≡ rest → after_step D d s (drop j as_cut) ≡ drop j as_cut → middle ≡ take j rest → behind ≡ drop j rest
    → between ≡ middle → after ≡ after_step D d s between → out ≡ front ++ after → all ≡ out ++ behind
    → all ≡ after_step D d s cs
middle_moved D d s cs front rest middle behind after out all as_it_was as_cut between i j w hf ef er c hb em eb b ea eo e =
    e
    ∙ ap (λ zs. zs ++ behind) (eo ∙ ap (λ zs. front ++ zs) (ea ∙ ap (after_step D d s) b))
    ∙ middle_changed D d s cs front rest middle behind i j
    (subst (λ zs. after_step D d s (take i zs) ≡ take i zs) w hf) ef er
    (subst (λ zs. after_step D d s (drop j zs) ≡ drop j zs) c hb) em eb
