-- Statements inside one another.
use Rattle.std.proofs.Common.{◌≡◌, ℕ, suc, List, [], ◌∷◌, ◌++◌, map, Option, Some, None, refl, sym, ap, ◌∙◌, subst}
use Rattle.std.specs.Global.{Box, Vec}
use Rattle.ep_ast.specs.declared.orders.NamedOrder.{NamedOrder}
use Rattle.ep_ast.specs.declared.expressions.ExprTree.{ExprTree}
use Rattle.ep_ast.specs.declared.statements.StmtTree.{StmtTree, Block, If, While, Do, For}
use Rattle.ep_ast.specs.declared.statements.BlockItemTree.{BlockItemTree, Arms}
use Rattle.ep_ast.specs.declared.statements.HeadingTree.{HeadingTree}
use Rattle.ep_ast.specs.Statement as tree
use Rattle.ep_ast.specs.Statement.{first_of, held_stmts, part_of, statements, stmt_of, to_parts, to_stmts}
use Rattle.ep_ast.specs.declared.statements.BlockItemTree.TheBlock.{back-BlockItemTree-Arms-3}
use Rattle.ep_ast.proofs.Rows.{parts-vec, stmts-option, stmts-vec}
use Rattle.ep_call_graph.specs.declared.places.CallSite.{CallSite}
use Rattle.ep_call_graph.specs.View.{call_site}
use Rattle.ep_elaboration.specs.Calls as rule
use Rattle.ep_elaboration.specs.Calls.{Stand, calls_none, first_stands, stands, stands_in_part, stands_in_parts}
use Rattle.ep_elaboration.specs.Calls.{stands_in_stmts}
use Rattle.ep_typer_checks.specs.View.{Adds, inner, itself}
use Rattle.ep_typer_checks.proofs.Adding.{both, one}

both_arms : (l : ℕ) (o : NamedOrder) (v w : Vec StmtTree)
    → part_of (Arms l o v (Some w)) ≡ tree.two_arms l o (statements v) (statements w)
both_arms l o v w =
    ap (λ (ss : tree.Stmts). tree.make_arms l o ss (held_stmts (back-BlockItemTree-Arms-3 (Some w)))) (stmts-vec v)
    ∙ ap (λ (ts : Option tree.Stmts). tree.make_arms l o (statements v) ts) (stmts-option (Some w))

-- a statement is itself and those in it
parted : (n : ℕ) (s : tree.Stmt) → stands n s ≡ itself (suc n) s ∷ inner (suc n) s
parted n (tree.block l ps) = refl
parted n (tree.evaluate l None) = refl
parted n (tree.evaluate l (Some e)) = refl
parted n (tree.if_then l e s) = refl
parted n (tree.if_else l e s u) = refl
parted n (tree.while_loop l e s) = refl
parted n (tree.do_loop l s e) = refl
parted n (tree.for_loop l f e g s) = refl
parted n (tree.break_loop l) = refl
parted n (tree.continue_loop l) = refl
parted n (tree.return_value l e) = refl

pub whole : (shown : Stand → rule.CallSite) (old mid new : List CallSite) (n d : ℕ) (p : CallSite) (s : tree.Stmt) → d ≡ suc n
    → mid ≡ old ++ p ∷ [] → call_site p ≡ shown (itself d s) → Adds shown mid new (inner d s) → Adds shown old new (stands n s)
whole shown old mid new n d p s deep is e h =
    subst (Adds shown old new) (ap (λ (k : ℕ). itself k s ∷ inner k s) deep ∙ sym (parted n s))
    (both shown old mid new (itself d s ∷ []) (inner d s) (one shown old mid p (itself d s) is e) h)

-- ---- what stands in each statement

module _ (d : ℕ) (t : StmtTree) where
  pub in_block : (l : ℕ) (v : Vec BlockItemTree) (xs : List BlockItemTree) → t ≡ Block l v → xs ≡ v.items
      → inner d (stmt_of t) ≡ stands_in_parts d (to_parts (map part_of xs))
  in_block l v xs is e =
      ap (λ (u : StmtTree). inner d (stmt_of u)) is
      ∙ ap (stands_in_parts d) (parts-vec v ∙ ap (λ (ys : List BlockItemTree). to_parts (map part_of ys)) (sym e))

  pub in_while : (s : StmtTree) (l : ℕ) (e : ExprTree) (b : Box StmtTree) → t ≡ While l e b → s ≡ b.value
      → inner d (stmt_of t) ≡ stands d (stmt_of s)
  in_while s l e b is q = ap (λ (u : StmtTree). inner d (stmt_of u)) is ∙ ap (λ (u : StmtTree). stands d (stmt_of u)) (sym q)

  pub in_do : (s : StmtTree) (l : ℕ) (e : ExprTree) (b : Box StmtTree) → t ≡ Do l b e → s ≡ b.value
      → inner d (stmt_of t) ≡ stands d (stmt_of s)
  in_do s l e b is q = ap (λ (u : StmtTree). inner d (stmt_of u)) is ∙ ap (λ (u : StmtTree). stands d (stmt_of u)) (sym q)

  pub in_then : (s : StmtTree) (l : ℕ) (e : ExprTree) (b : Box StmtTree) (o : Option (Box StmtTree)) → t ≡ If l e b o → o ≡ None
      → s ≡ b.value → inner d (stmt_of t) ≡ stands d (stmt_of s)
  in_then s l e b o is none q =
      ap (λ (u : StmtTree). inner d (stmt_of u)) is ∙ ap (λ (p : Option (Box StmtTree)). inner d (stmt_of (If l e b p))) none
      ∙ ap (λ (u : StmtTree). stands d (stmt_of u)) (sym q)

  pub in_else : (s u : StmtTree) (l : ℕ) (e : ExprTree) (b c : Box StmtTree) (o : Option (Box StmtTree))
      → t ≡ If l e b o → o ≡ Some c → s ≡ b.value → u ≡ c.value
      → inner d (stmt_of t) ≡ stands d (stmt_of s) ++ stands d (stmt_of u)
  in_else s u l e b c o is some q r =
      ap (λ (w : StmtTree). inner d (stmt_of w)) is ∙ ap (λ (p : Option (Box StmtTree)). inner d (stmt_of (If l e b p))) some
      ∙ ap (λ (w : StmtTree). stands d (stmt_of w) ++ stands d (stmt_of c.value)) (sym q)
      ∙ ap (λ (w : StmtTree). stands d (stmt_of s) ++ stands d (stmt_of w)) (sym r)

  pub in_for : (s : StmtTree) (l deeper : ℕ) (b : Box HeadingTree) (c : Box StmtTree) (heading : HeadingTree)
      → t ≡ For l b c → heading ≡ b.value → s ≡ c.value → deeper ≡ suc d
      → inner d (stmt_of t) ≡ first_stands deeper (first_of heading.first) ++ stands d (stmt_of s)
  in_for s l deeper b c heading is q r e =
      ap (λ (w : StmtTree). inner d (stmt_of w)) is
      ∙ ap (λ (a : HeadingTree). first_stands (suc d) (first_of a.first) ++ stands d (stmt_of c.value)) (sym q)
      ∙ ap (λ (w : StmtTree). first_stands (suc d) (first_of heading.first) ++ stands d (stmt_of w)) (sym r)
      ∙ ap (λ (m : ℕ). first_stands m (first_of heading.first) ++ stands d (stmt_of s)) (sym e)

-- ---- statements by byte order

module _ (shown : Stand → rule.CallSite) (old mid new : List CallSite) (n d : ℕ) (deep : d ≡ suc n)
    (entered : Adds shown old mid (calls_none (suc n) ∷ [])) where
  -- what is inside stands one deeper
  deeper : (f : ℕ → List Stand) (all : List Stand) → all ≡ calls_none (suc n) ∷ f (suc n) → Adds shown mid new (f d)
      → Adds shown old new all
  deeper f all is h =
      subst (Adds shown old new) (sym is)
      (both shown old mid new (calls_none (suc n) ∷ []) (f (suc n)) entered
      (subst (λ (k : ℕ). Adds shown mid new (f k)) deep h))

  pub in_arm : (t : BlockItemTree) (l : ℕ) (o : NamedOrder) (v : Vec StmtTree) (p : Option (Vec StmtTree)) (xs : List StmtTree)
      → t ≡ Arms l o v p → p ≡ None → xs ≡ v.items
      → Adds shown mid new (stands_in_stmts d (to_stmts (map stmt_of xs))) → Adds shown old new (stands_in_part n (part_of t))
  in_arm t l o v p xs is none q h =
      deeper (λ k. stands_in_stmts k (to_stmts (map stmt_of xs))) (stands_in_part n (part_of t))
      (ap (λ (u : BlockItemTree). stands_in_part n (part_of u)) is
      ∙ ap (λ (r : Option (Vec StmtTree)). stands_in_part n (part_of (Arms l o v r))) none
      ∙ ap (λ (ss : tree.Stmts). calls_none (suc n) ∷ stands_in_stmts (suc n) ss)
      (stmts-vec v ∙ ap (λ (ys : List StmtTree). to_stmts (map stmt_of ys)) (sym q))) h

  pub in_arms : (t : BlockItemTree) (l : ℕ) (o : NamedOrder) (v w : Vec StmtTree) (p : Option (Vec StmtTree)) (xs ys : List StmtTree)
      (between : List CallSite) → t ≡ Arms l o v p → p ≡ Some w → xs ≡ v.items → ys ≡ w.items
      → Adds shown mid between (stands_in_stmts d (to_stmts (map stmt_of xs)))
      → Adds shown between new (stands_in_stmts d (to_stmts (map stmt_of ys))) → Adds shown old new (stands_in_part n (part_of t))
  in_arms t l o v w p xs ys between is some q r h k =
      deeper (λ m. stands_in_stmts m (to_stmts (map stmt_of xs)) ++ stands_in_stmts m (to_stmts (map stmt_of ys)))
      (stands_in_part n (part_of t))
      (ap (λ (u : BlockItemTree). stands_in_part n (part_of u)) is
      ∙ ap (λ (r : Option (Vec StmtTree)). stands_in_part n (part_of (Arms l o v r))) some
      ∙ ap (stands_in_part n) (both_arms l o v w)
      ∙ ap (λ (ss : tree.Stmts). calls_none (suc n) ∷ (stands_in_stmts (suc n) ss ++ stands_in_stmts (suc n) (statements w)))
      (ap (λ (zs : List StmtTree). to_stmts (map stmt_of zs)) (sym q))
      ∙ ap (λ (ss : tree.Stmts). calls_none (suc n) ∷ (stands_in_stmts (suc n) (to_stmts (map stmt_of xs)) ++ stands_in_stmts (suc n) ss))
      (ap (λ (zs : List StmtTree). to_stmts (map stmt_of zs)) (sym r)))
      (both shown mid between new (stands_in_stmts d (to_stmts (map stmt_of xs))) (stands_in_stmts d (to_stmts (map stmt_of ys))) h k)
