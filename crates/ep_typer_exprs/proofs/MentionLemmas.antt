-- What expressions one after another declare.
use Rattle.std.proofs.Common.{◌≡◌, ℕ, ◌+◌, ◌<◌, ◌≤◌, length, List, map, drop, get_or, Result, Ok, Err, OnOk}
use Rattle.std.proofs.Common.{sym, ap, ◌∙◌}
use Rattle.std.specs.Global.{Box, Vec}
use Rattle.std.proofs.lemmas.List.{drop_all}
use Rattle.ep_ast.specs.declared.expressions.ExprTree.{ExprTree, Call}
use Rattle.ep_ast.specs.Expression as source
use Rattle.ep_typing.specs.Env.{Env}
use Rattle.ep_typing.specs.Names.{mentioned, mentioned_all}
use Rattle.ep_typer_exprs.proofs.WalkLemmas.{call_tree, front}

module _ (i : ℕ) (xs : List ExprTree) where
  pub one_more : (x : ExprTree) (G H all : Env) → i < length xs → x ≡ get_or xs i x → H ≡ mentioned G (source.expr x)
      → mentioned_all G (source.to_exprs (map source.expr (drop i xs))) ≡ all
      → mentioned_all H (source.to_exprs (map source.expr (drop (i + 1) xs))) ≡ all
  unfolding mentioned_all
  one_more x G H all lt is e h =
      ap (λ (K : Env). mentioned_all K (source.to_exprs (map source.expr (drop (i + 1) xs)))) e
      ∙ sym (ap (λ (ys : List ExprTree). mentioned_all G (source.to_exprs (map source.expr ys))) (front i xs x lt is)) ∙ h

  pub none_left : (G all : Env) → length xs ≤ i → mentioned_all G (source.to_exprs (map source.expr (drop i xs))) ≡ all → G ≡ all
  unfolding mentioned_all
  none_left G all le h =
      sym (ap (λ (ys : List ExprTree). mentioned_all G (source.to_exprs (map source.expr ys))) (drop_all i xs le)) ∙ h

pub call_mentioned : {A E : Type 0} (r : Result A E) (G H K : Env) (l : ℕ) (t f : ExprTree) (p : Box ExprTree) (list : Vec ExprTree) (xs : List ExprTree)
    → t ≡ Call l p list → f ≡ p.value → xs ≡ list.items → H ≡ mentioned G (source.expr f)
    → OnOk r (K ≡ mentioned_all H (source.to_exprs (map source.expr xs))) → OnOk r (K ≡ mentioned G (source.expr t))
unfolding mentioned
call_mentioned (Err e) G H K l t f p list xs i d q m h = tt
call_mentioned (Ok x) G H K l t f p list xs i d q m h =
    h ∙ ap (λ (J : Env). mentioned_all J (source.to_exprs (map source.expr xs))) m
    ∙ ap (λ (u : ExprTree). mentioned_all (mentioned G (source.expr u)) (source.to_exprs (map source.expr xs))) d
    ∙ ap (λ (us : List ExprTree). mentioned_all (mentioned G (source.expr p.value)) (source.to_exprs (map source.expr us))) q
    ∙ sym (ap (mentioned G) (call_tree l p list)) ∙ sym (ap (λ (u : ExprTree). mentioned G (source.expr u)) i)
