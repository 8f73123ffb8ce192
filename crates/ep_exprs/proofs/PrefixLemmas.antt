-- Prefixes in a row: what is read after them is read under them.
use Rattle.std.proofs.Common.{◌≡◌, ℕ, Bool, true, false, List, [], ◌∷◌, ◌++◌, Some, refl, ap}
use Rattle.std.proofs.Common.{Result, Ok, Err}
use Rattle.std.proofs.lemmas.Bool.{and_parts, false_from_ne_true}
use Rattle.std.specs.Prelude.{◌==◌, ◌&&◌}
use Rattle.std.proofs.lemmas.Bool.{eqb-true}
use Rattle.ep_ast.specs.Token.{Tok, word, mark}
use Rattle.std.specs.Global.{Box}
use Rattle.ep_ast.specs.declared.expressions.TypeNameTree.{TypeNameTree}
use Rattle.ep_ast.specs.Expression as tree
use Rattle.ep_ast.specs.Expression.{Expr, type_name}
use Rattle.ep_ast.specs.declared.marks.Mark.{Mark}
use Rattle.ep_ast.specs.declared.refusals.Halt.{Halt}
use Rattle.ep_ast.specs.Mark.{mark_number, left_paren, sizeof_word}
use Rattle.ep_ast.specs.TypeWords.{TypeNamed, begins_type}
use Rattle.ep_ast.specs.Grammar.{is_prefix, is_step, Rule, cast, unary, postfix}
use Rattle.ep_ast.specs.Reading.{Reads, Refuses, Takes, TakesNone}
use Rattle.ep_reading.specs.declared.reader.Part.{Part}
use Rattle.ep_reading.specs.Answer.{after}
use Rattle.ep_reading.proofs.PassLemmas.{passes}
use Rattle.ep_expression_trees.specs.declared.kept.BoundedTree.{BoundedTree}
use Rattle.ep_expression_trees.specs.declared.kept.Prefix.{Prefix}
use Rattle.ep_expression_trees.specs.declared.kept.Prefix.TheVariants as prefixes
use Rattle.ep_expression_trees.specs.BoundedTrees.{wrap, wrap_all}
use Rattle.ep_exprs.specs.Look.{begins_cast, AtCast}
use Rattle.ep_exprs.specs.Pending.{begins_unary}
use Rattle.ep_exprs.specs.Parsed.{Keeps}
use Rattle.ep_exprs.proofs.MarkLemmas.{prefix_not_paren, step_not_paren}
use Rattle.ep_exprs.proofs.OperandLemmas as operands

pub wrap-last : (ps : List Prefix) (p : Prefix) (a : Expr) → wrap_all (ps ++ p ∷ []) a ≡ wrap_all ps (wrap p a)
wrap-last [] p a = refl
wrap-last (q ∷ ps) p a = ap (wrap q) (wrap-last ps p a)

-- what may stand here: no type in parentheses behind `++`, `--` and `sizeof`
abbrev pub operand_rule : Bool → Rule
operand_rule true = unary
operand_rule false = cast

not_paren : (N : List ℕ → Bool) (c : ℕ) (ts : List Tok) → (c ≡ left_paren → ⊥)
    → (c == left_paren && begins_type N ts) ≡ false
not_paren N c ts n = false_from_ne_true (c == left_paren && begins_type N ts)
    (λ h. n (eqb-true c left_paren (and_parts (c == left_paren) (begins_type N ts) h).0))

module _ (N : List ℕ → Bool) where
  pub record Under (xs : List Tok) (front : List Prefix) (bare : Bool) (ys : List Tok) : Type 0 where
    pub reads : (a : Expr) (zs : List Tok) → Reads N (operand_rule bare) ys a zs → Reads N cast xs (wrap_all front a) zs
    pub refuses : Refuses N (operand_rule bare) ys → Refuses N cast xs

  pub under_begins : (xs : List Tok) → Under xs [] false xs
  under_begins xs = record { reads = λ a zs r. r; refuses = λ r. r }

  -- a unary is read, where no cast begins
  unary_reads : (xs : List Tok) (front : List Prefix) (bare : Bool) (ys zs : List Tok) (a : Expr)
      → Under xs front bare ys → begins_cast N ys ≡ false → Reads N unary ys a zs
      → Reads N cast xs (wrap_all front a) zs
  unary_reads xs front true ys zs a u b r = u.reads a zs r
  unary_reads xs front false ys zs a u b r = u.reads a zs (operands.uncast_read N ys zs a b r)

  unary_refuses : (xs : List Tok) (front : List Prefix) (bare : Bool) (ys : List Tok) → Under xs front bare ys
      → begins_cast N ys ≡ false → Refuses N unary ys → Refuses N cast xs
  unary_refuses xs front true ys u b r = u.refuses r
  unary_refuses xs front false ys u b r = u.refuses (operands.uncast_refused N ys b r)

  pub under_operator : (xs : List Tok) (front : List Prefix) (bare : Bool) (ys zs : List Tok) (l : ℕ) (m : Mark)
      → Under xs front bare ys → is_prefix (mark_number m) ≡ true → ys ≡ mark l (mark_number m) ∷ zs
      → Under xs (front ++ prefixes.Operator l m ∷ []) false zs
  under_operator xs front bare ys zs l m u h e =
      let b : begins_cast N ys ≡ false = rw e (not_paren N (mark_number m) zs (prefix_not_paren (mark_number m) h)) in
      record {
        reads = λ a ws r. rw wrap-last (unary_reads xs front bare ys ws (tree.unary l (mark_number m) a) u b
            (operands.prefix_read N l (mark_number m) ys zs ws a e h r));
        refuses = λ r. unary_refuses xs front bare ys u b (operands.prefix_refused N l (mark_number m) ys zs e h r);
      }

  pub under_step : (xs : List Tok) (front : List Prefix) (bare : Bool) (ys zs : List Tok) (l : ℕ) (m : Mark)
      → Under xs front bare ys → is_step (mark_number m) ≡ true → ys ≡ mark l (mark_number m) ∷ zs
      → Under xs (front ++ prefixes.Step l m ∷ []) true zs
  under_step xs front bare ys zs l m u h e =
      let b : begins_cast N ys ≡ false = rw e (not_paren N (mark_number m) zs (step_not_paren (mark_number m) h)) in
      record {
        reads = λ a ws r. rw wrap-last (unary_reads xs front bare ys ws (tree.step l (mark_number m) a) u b
            (operands.step_read N l (mark_number m) ys zs ws a e h r));
        refuses = λ r. unary_refuses xs front bare ys u b (operands.step_refused N l (mark_number m) ys zs e h r);
      }

  pub under_sizeof : (xs : List Tok) (front : List Prefix) (bare : Bool) (ys zs : List Tok) (l w : ℕ)
      → Under xs front bare ys → w ≡ sizeof_word → ys ≡ word l w ∷ zs → begins_cast N zs ≡ false
      → Under xs (front ++ prefixes.Sizeof l ∷ []) true zs
  under_sizeof xs front bare ys zs l w u h e o =
      let b : begins_cast N ys ≡ false = rw e refl in
      record {
        reads = λ a ws r. rw wrap-last (unary_reads xs front bare ys ws (tree.sizeof_expr l a) u b
            (operands.sized_read N l w ys zs ws a e h o r));
        refuses = λ r. unary_refuses xs front bare ys u b (operands.sized_refused N l w ys zs e o r);
      }

  pub under_typed : (xs : List Tok) (front : List Prefix) (bare : Bool) (ys inside zs : List Tok) (l : ℕ)
      (t : Box TypeNameTree) → Under xs front bare ys → bare ≡ false → AtCast N ys (Some (l, inside))
      → Takes (TypeNamed N) inside (type_name t.value) zs
      → Under xs (front ++ prefixes.Typed l t ∷ []) false zs
  under_typed xs front true ys inside zs l t u o k n = absurd cc
  under_typed xs front false ys inside zs l t u o k n = record {
    reads = λ a ws r. rw wrap-last (u.reads (tree.cast l (type_name t.value) a) ws
        (operands.cast_read N ys inside zs ws l (type_name t.value) a k n r));
    refuses = λ r. u.refuses (operands.cast_refused N ys inside zs l (type_name t.value) k n r);
  }

  pub typed_refused : (xs : List Tok) (front : List Prefix) (bare : Bool) (ys inside : List Tok) (l : ℕ)
      → Under xs front bare ys → bare ≡ false → AtCast N ys (Some (l, inside)) → TakesNone (TypeNamed N) inside
      → Refuses N cast xs
  typed_refused xs front true ys inside l u o k n = absurd cc
  typed_refused xs front false ys inside l u o k n = u.refuses (operands.type_refused N ys inside l k n)

  pub bare_refused : (xs : List Tok) (front : List Prefix) (bare : Bool) (ys inside : List Tok) (l : ℕ)
      → Under xs front bare ys → bare ≡ true → AtCast N ys (Some (l, inside)) → Refuses N cast xs
  bare_refused xs front true ys inside l u o k = u.refuses
      (operands.bare_refused N ys (operands.at_cast_begins N ys inside l k))
  bare_refused xs front false ys inside l u o k = absurd cc

  pub size_read : (xs : List Tok) (front : List Prefix) (bare : Bool) (ys us inside zs : List Tok) (l w m : ℕ)
      (t : Box TypeNameTree) → Under xs front bare ys → w ≡ sizeof_word → ys ≡ word l w ∷ us
      → AtCast N us (Some (m, inside))
      → Takes (TypeNamed N) inside (type_name t.value) zs → Reads N cast xs
      (wrap_all front (tree.sizeof_type l (type_name t.value))) zs
  size_read xs front bare ys us inside zs l w m t u h e k n =
      let b : begins_cast N ys ≡ false = rw e refl in
      unary_reads xs front bare ys zs (tree.sizeof_type l (type_name t.value)) u b
      (operands.size_type_read N l w m ys us inside zs (type_name t.value) e h k n)

  pub size_refused : (xs : List Tok) (front : List Prefix) (bare : Bool) (ys us inside : List Tok) (l w m : ℕ)
      → Under xs front bare ys → ys ≡ word l w ∷ us → AtCast N us (Some (m, inside)) → TakesNone (TypeNamed N) inside
      → Refuses N cast xs
  size_refused xs front bare ys us inside l w m u e k n =
      let b : begins_cast N ys ≡ false = rw e refl in
      unary_refuses xs front bare ys u b (operands.size_type_refused N l w m ys us inside e k n)

  pub under_read : (xs : List Tok) (front : List Prefix) (bare : Bool) (ys zs : List Tok) (a : Expr)
      → Under xs front bare ys → begins_cast N ys ≡ false → begins_unary ys ≡ false → Reads N postfix ys a zs
      → Reads N cast xs (wrap_all front a) zs
  under_read xs front bare ys zs a u b p r = unary_reads xs front bare ys zs a u b (operands.plain_read N ys zs a p r)

  pub under_refused : (xs : List Tok) (front : List Prefix) (bare : Bool) (ys : List Tok) → Under xs front bare ys
      → begins_cast N ys ≡ false → begins_unary ys ≡ false → Refuses N postfix ys → Refuses N cast xs
  under_refused xs front bare ys u b p r = unary_refuses xs front bare ys u b (operands.plain_refused N ys p r)

  -- an operand without prefixes
  pub plain_keeps : (xs : List Tok) (result : Result (Part BoundedTree) Halt) → begins_cast N xs ≡ false
      → begins_unary xs ≡ false → Keeps N postfix xs result → Keeps N cast xs result
  plain_keeps xs (Ok p) b u q = record {
    tree = q.tree;
    shows = q.shows;
    reads = under_read xs [] false xs (after p) q.tree (under_begins xs) b u q.reads;
  }
  plain_keeps xs (Err halt) b u q = passes N postfix cast xs xs halt
      (under_refused xs [] false xs (under_begins xs) b u) q
