-- What is pending, refused or completed.
use Rattle.std.proofs.Common.{◌≡◌, ℕ, Bool, true, false, List, [], ◌∷◌, Some, refl, sym, subst}
use Rattle.ep_ast.specs.Token.{Tok}
use Rattle.ep_ast.specs.Expression as tree
use Rattle.ep_ast.specs.Expression.{Expr, line_of}
use Rattle.ep_ast.specs.declared.marks.Mark.{Mark}
use Rattle.ep_ast.specs.Mark.{mark_number, question, colon}
use Rattle.ep_ast.specs.Grammar.{Rule, expr, cond, bin, cast}
use Rattle.ep_ast.specs.Reading.{Reads, Refuses, Lacks, AtMark}
use Rattle.ep_expression_trees.specs.declared.kept.BoundedTree.{BoundedTree}
use Rattle.ep_exprs.specs.declared.frames.Frame.{Frame}
use Rattle.ep_exprs.specs.declared.frames.Frame.TheVariants as frames
use Rattle.ep_expression_trees.specs.BoundedTrees.{Shows}
use Rattle.ep_exprs.specs.Look.{begins_cast, begins_assignment}
use Rattle.ep_exprs.specs.Pending.{wanted, Plain, Waits, begins, assigning, asking, choosing, Value, Asked}
use Rattle.ep_exprs.proofs.ConditionalLemmas as laws

-- the rule that is wanted, in the third part of a conditional or elsewhere
abbrev pub part_rule : Bool → Rule
part_rule true = cond
part_rule false = expr

module _ (N : List ℕ → Bool) where
  wanted_read : (fs : List Frame) (xs ys : List Tok) (a : Expr) → Plain N fs xs → Reads N cond xs a ys
      → Reads N (wanted fs) xs a ys
  wanted_read [] xs ys a p r = laws.plain_read N xs ys a (p refl) r
  wanted_read (frames.Assign k c ∷ fs) xs ys a p r = laws.plain_read N xs ys a (p refl) r
  wanted_read (frames.Question k ∷ fs) xs ys a p r = laws.plain_read N xs ys a (p refl) r
  wanted_read (frames.Colon k j ∷ fs) xs ys a p r = r

  wanted_refused : (fs : List Frame) (xs : List Tok) → Plain N fs xs → Refuses N cond xs → Refuses N (wanted fs) xs
  wanted_refused [] xs p r = laws.plain_refused N xs (p refl) r
  wanted_refused (frames.Assign k c ∷ fs) xs p r = laws.plain_refused N xs (p refl) r
  wanted_refused (frames.Question k ∷ fs) xs p r = laws.plain_refused N xs (p refl) r
  wanted_refused (frames.Colon k j ∷ fs) xs p r = r

  pub operand_unwanted : (fs : List Frame) (xs : List Tok) → Refuses N cast xs → Refuses N (wanted fs) xs
  operand_unwanted [] xs r = laws.operand_refused N xs r
  operand_unwanted (frames.Assign k c ∷ fs) xs r = laws.operand_refused N xs r
  operand_unwanted (frames.Question k ∷ fs) xs r = laws.operand_refused N xs r
  operand_unwanted (frames.Colon k j ∷ fs) xs r = laws.operand_refused_cond N xs r

  -- a refusal where something waits is one of the whole
  pub unwound : {xs ys : List Tok} {fs : List Frame} → Waits N xs fs ys → Refuses N (wanted fs) ys → Refuses N expr xs
  unwound begins r = r
  unwound (assigning {fs = fs} {ys = ys} {zs = zs} {ws = ws} {a = a} {l = l} {m = m} w u b s d k) r =
      unwound u (subst (λ (q : Rule). Refuses N q ys) (sym w) (laws.assign_refused N ys zs ws l (mark_number m) a b d k r))
  unwound (asking {fs = fs} {ys = ys} {zs = zs} {ws = ws} {a = a} {l = l} u p s d k) r =
      unwound u (wanted_refused fs ys p (laws.yes_refused N ys zs ws l a d k r))
  unwound (choosing {fs = fs} {ys = ys} {zs = zs} {ws = ws} {vs = vs} {us = us} {a = a} {b = b} {l = l} {m = m} u p s d
      k t e o) r =
      unwound u (wanted_refused fs ys p (laws.no_refused N ys zs ws vs us l m a b d k e o r))

  pub test_unwound : {xs ys : List Tok} {fs : List Frame} → Waits N xs fs ys → Plain N fs ys → Refuses N (bin 1) ys
      → Refuses N expr xs
  test_unwound {ys = ys} {fs = fs} u p r = unwound u (wanted_refused fs ys p (laws.test_refused N ys r))

  pub colon_unwound : (xs : List Tok) (fs : List Frame) (k j : BoundedTree) (zs : List Tok) → Asked N xs fs k j zs
      → Lacks colon zs → Refuses N expr xs
  colon_unwound xs fs k j zs a n = unwound a.waits (wanted_refused fs a.from a.plain
      (laws.colon_refused N a.from a.behind a.inner zs a.line a.test a.yes a.reads_test a.at_question a.reads_yes n))

  -- ---- completed

  pub test_value : (xs ys zs : List Tok) (fs : List Frame) (k : BoundedTree) (t : Expr) → Waits N xs fs ys → Plain N fs ys
      → Shows k t → Reads N (bin 1) ys t zs → Lacks question zs → Value N xs fs k zs
  test_value xs ys zs fs k t u p s r n = record {
    from = ys;
    tree = t;
    waits = u;
    shows = s;
    reads = wanted_read fs ys zs t p (laws.choice_none N ys zs t r n);
  }

  assign_at : (xs zs : List Tok) {ys : List Tok} (fs : List Frame) (k new : BoundedTree) (m : Mark) (t : Expr)
      → ((s : Expr) → Shows k s → Shows new (tree.assign (line_of s) (mark_number m) s t))
      → Waits N xs (frames.Assign k m ∷ fs) ys
      → Reads N expr ys t zs → Value N xs fs new zs
  assign_at xs zs fs k new m t f (assigning {ys = ys} {zs = vs} {ws = ws} {a = a} {l = l} w u b s d o) r = record {
    from = ys;
    tree = tree.assign (line_of a) (mark_number m) a t;
    waits = u;
    shows = f a s;
    reads = subst (λ (q : Rule). Reads N q ys (tree.assign (line_of a) (mark_number m) a t) zs) (sym w)
        (laws.assign_read N ys vs ws zs l (mark_number m) a t b d o r);
  }

  pub assign_value : (xs zs : List Tok) (fs : List Frame) (k old new : BoundedTree) (m : Mark)
      → ((s t : Expr) → Shows k s → Shows old t → Shows new (tree.assign (line_of s) (mark_number m) s t))
      → Value N xs (frames.Assign k m ∷ fs) old zs → Value N xs fs new zs
  assign_value xs zs fs k old new m f v = assign_at xs zs fs k new m v.tree (λ s h. f s v.tree h v.shows) v.waits
      v.reads

  choice_at : (xs zs : List Tok) {ys : List Tok} (fs : List Frame) (k j new : BoundedTree) (t : Expr)
      → ((s y : Expr) → Shows k s → Shows j y → Shows new (tree.conditional (line_of s) s y t))
      → Waits N xs (frames.Colon k j ∷ fs) ys → Reads N cond ys t zs → Value N xs fs new zs
  choice_at xs zs fs k j new t f (choosing {ys = ys} {zs = ws} {ws = qs} {vs = vs} {us = us} {a = a} {b = b} {l = l}
      {m = m} u p s d o g e h) r = record {
        from = ys;
        tree = tree.conditional (line_of a) a b t;
        waits = u;
        shows = f a b s g;
        reads = wanted_read fs ys zs (tree.conditional (line_of a) a b t) p
            (laws.choice_read N ys ws qs vs us zs l m a b t d o e h r);
      }

  pub choice_value : (xs zs : List Tok) (fs : List Frame) (k j old new : BoundedTree)
      → ((s y t : Expr) → Shows k s → Shows j y → Shows old t → Shows new (tree.conditional (line_of s) s y t))
      → Value N xs (frames.Colon k j ∷ fs) old zs → Value N xs fs new zs
  choice_value xs zs fs k j old new f v = choice_at xs zs fs k j new v.tree (λ s y h g. f s y v.tree h g v.shows)
      v.waits v.reads

  ask_at : (xs zs : List Tok) {ys : List Tok} (fs : List Frame) (k j : BoundedTree) (t : Expr) → Shows j t
      → Waits N xs (frames.Question k ∷ fs) ys → Reads N expr ys t zs → Asked N xs fs k j zs
  ask_at xs zs fs k j t g (asking {ys = ys} {zs = vs} {ws = ws} {a = a} {l = l} u p s d o) r = record {
    from = ys;
    behind = vs;
    inner = ws;
    line = l;
    test = a;
    yes = t;
    waits = u;
    plain = p;
    shows_test = s;
    reads_test = d;
    at_question = o;
    shows_yes = g;
    reads_yes = r;
  }

  pub ask_value : (xs zs : List Tok) (fs : List Frame) (k j : BoundedTree) → Value N xs (frames.Question k ∷ fs) j zs
      → Asked N xs fs k j zs
  ask_value xs zs fs k j v = ask_at xs zs fs k j v.tree v.shows v.waits v.reads

  pub colon_waits : (xs zs ws : List Tok) (fs : List Frame) (k j : BoundedTree) (m : ℕ) → Asked N xs fs k j zs
      → AtMark colon zs (Some (m, ws)) → Waits N xs (frames.Colon k j ∷ fs) ws
  colon_waits xs zs ws fs k j m a o = choosing a.waits a.plain a.shows_test a.reads_test a.at_question a.shows_yes
      a.reads_yes o

  -- ---- where an assignment may stand

  pub plain_third : (fs : List Frame) (xs : List Tok) → wanted fs ≡ cond → Plain N fs xs
  plain_third [] xs h = absurd (not_cond h)
    where
      not_cond : expr ≡ cond → ⊥
      not_cond e = cc
  plain_third (frames.Assign k c ∷ fs) xs h = absurd cc
  plain_third (frames.Question k ∷ fs) xs h = absurd cc
  plain_third (frames.Colon k j ∷ fs) xs h = λ e. absurd cc

  pub plain_cast : (fs : List Frame) (xs : List Tok) → begins_cast N xs ≡ true → Plain N fs xs
  plain_cast fs xs h = λ e. laws.no_assignment_cast N xs h

  pub plain_other : (fs : List Frame) (xs ys : List Tok) (a : Expr) → begins_cast N xs ≡ false → Reads N cast xs a ys
      → begins_assignment ys ≡ false → Plain N fs xs
  plain_other fs xs ys a b r n = λ e. laws.no_assignment_read N xs ys a b r n
