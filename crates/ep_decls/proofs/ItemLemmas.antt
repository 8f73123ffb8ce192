-- Items: which of them begins with the words that were read.
use Rattle.std.proofs.Common.{◌≡◌, ℕ, Bool, true, false, List, [], ◌∷◌, Option, Some, refl, sym, ◌∙◌, arith}
use Rattle.std.proofs.lemmas.Bool.{both_ways}
use Rattle.std.proofs.lemmas.Bool.{ne_eqb}
use Rattle.ep_ast.specs.declared.orders.NamedOrder.{NamedOrder}
use Rattle.ep_ast.specs.declared.orders.NamedOrder.TheVariants.{Little, Big}
use Rattle.ep_ast.specs.Token.{Tok, word, name, number, mark, if_little, if_big, other, end_if}
use Rattle.ep_ast.specs.Expression as expressions
use Rattle.ep_ast.specs.Declaration.{Declarator, Spec, body, Aggregate, Init, Head}
use Rattle.ep_ast.specs.Statement as tree
use Rattle.ep_ast.specs.Statement.{Function, Block, Item}
use Rattle.ep_ast.specs.Mark.{typedef_word, left_paren, semicolon}
use Rattle.ep_ast.specs.Cut.{order_token}
use Rattle.ep_ast.specs.TypeWords.{Consts, no_consts, one_const, Stars, no_stars, one_star}
use Rattle.ep_ast.specs.DeclarationGrammar as grammar
use Rattle.ep_ast.specs.DeclarationGrammar.{at_file_scope, specs_line, Bounds, no_bounds, open_bound, bound, Declared}
use Rattle.ep_ast.specs.DeclarationGrammar.{Specified, specified, no_specs, more_specs, with_members, type_word}
use Rattle.ep_ast.specs.DeclarationGrammar.{storage, Aggregated, Initialised, without, with_value, Inits, last_init}
use Rattle.ep_ast.specs.DeclarationGrammar.{next_init, variables, Headed, head}
use Rattle.ep_ast.specs.StatementGrammar.{little, big, Blocks, braces}
use Rattle.ep_ast.specs.ProgramGrammar as programs
use Rattle.ep_ast.specs.ProgramGrammar.{Defines, function, OneItem}
use Rattle.ep_ast.specs.Reading.{Takes, TakesNone, Lacks, AtMark, LacksWord}
use Rattle.ep_reading.proofs.FirstLemmas.{lacks_is, tail_is}
use Rattle.ep_declarations.specs.DeclaratorAnswer.{NamesTypes}
use Rattle.ep_declarations.specs.Answer.{is_one_body}
use Rattle.ep_reading.specs.Look.{LacksIf}
use Rattle.ep_decls.specs.Look.{begins_call, begins_head}
use Rattle.ep_decls.specs.Answer.{Worded, defines, prototype, declares, completes, NewTypes, new_types, Itemed, Arms}
use Rattle.ep_decls.specs.Answer.{arms}
use Rattle.ep_decls.proofs.BeginLemmas.{worded_not}

-- ---- heads and variables

consts_skip : {xs ys : List Tok} {n : ℕ} → Consts xs ys n → begins_head xs ≡ begins_head ys
consts_skip no_consts = refl
consts_skip (one_const e d) = rw e (consts_skip d)

stars_skip : {xs ys : List Tok} {ns : List ℕ} → Stars xs ys ns → begins_head xs ≡ begins_head ys
stars_skip no_stars = refl
stars_skip (one_star e d s) = rw e (consts_skip d ∙ stars_skip s)

no_call : (l : ℕ) (text : List ℕ) (ys : List Tok) → Lacks left_paren ys → begins_call (name l text ∷ ys) ≡ false
no_call l text [] h = refl
no_call l text (word m c ∷ ts) h = refl
no_call l text (name m c ∷ ts) h = refl
no_call l text (number m c ∷ ts) h = refl
no_call l text (mark m c ∷ ts) h = ne_eqb c left_paren h
no_call l text (if_little m ∷ ts) h = refl
no_call l text (if_big m ∷ ts) h = refl
no_call l text (other m ∷ ts) h = refl
no_call l text (end_if m ∷ ts) h = refl

at_semicolon : (l c : ℕ) (ts : List Tok) → c ≡ semicolon → begins_head (mark l c ∷ ts) ≡ false
at_semicolon l c ts e = rw e refl

one_body : {ss : List Spec} {a b : Aggregate} → ss ≡ body a ∷ [] → ss ≡ body b ∷ [] → b ≡ a
one_body e f = cc

module _ (N : List ℕ → Bool) where
  bounds_lack : {ys zs : List Tok} {bs : List (Option expressions.Expr)} → Bounds N ys zs bs → Lacks left_paren zs
      → Lacks left_paren ys
  bounds_lack (no_bounds k) h = h
  bounds_lack (open_bound e f b) h = λ k. omega arith
  bounds_lack (bound e f d b) h = λ k. omega arith

  declared_not : {xs zs : List Tok} {d : Declarator} → Lacks left_paren zs → Declared N xs zs d → begins_head xs ≡ false
  declared_not h (grammar.declares {l = l} {text = text} {ys = ys} p s b) =
      stars_skip s.stars ∙ no_call l text ys (bounds_lack b h)

  initialised_not : {xs zs : List Tok} {i : Init} → Lacks left_paren zs → Initialised N xs zs i → begins_head xs ≡ false
  initialised_not h (without d k) = declared_not h d
  initialised_not h (with_value e d v) = declared_not (λ k. omega arith) d

  inits_not : {xs zs : List Tok} {is : List Init} → Inits N xs zs is → begins_head xs ≡ false
  inits_not (last_init e i) = initialised_not (λ k. omega arith) i
  inits_not (next_init e i r) = initialised_not (λ k. omega arith) i

  stars_no_semicolon : {l c m : ℕ} {ns text : List ℕ} {xs ys : List Tok} → c ≡ semicolon
      → Stars (mark l c ∷ xs) (name m text ∷ ys) ns → ⊥
  stars_no_semicolon e (one_star f d s) = omega arith

  declared_no_semicolon : {l c : ℕ} {xs zs : List Tok} {d : Declarator} → c ≡ semicolon
      → Declared N (mark l c ∷ xs) zs d → ⊥
  declared_no_semicolon e (grammar.declares p s b) = stars_no_semicolon e s.stars

  initialised_no_semicolon : {l c : ℕ} {xs zs : List Tok} {i : Init} → c ≡ semicolon
      → Initialised N (mark l c ∷ xs) zs i → ⊥
  initialised_no_semicolon e (without d k) = declared_no_semicolon e d
  initialised_no_semicolon e (with_value f d v) = declared_no_semicolon e d

  inits_no_semicolon : {l c : ℕ} {xs zs : List Tok} {is : List Init} → c ≡ semicolon → Inits N (mark l c ∷ xs) zs is → ⊥
  inits_no_semicolon e (last_init f i) = initialised_no_semicolon e i
  inits_no_semicolon e (next_init f i r) = initialised_no_semicolon e i

  blocks_no_semicolon : {l c : ℕ} {xs zs : List Tok} {b : Block} → c ≡ semicolon → Blocks N (mark l c ∷ xs) zs b → ⊥
  blocks_no_semicolon e (braces f p) = omega arith

  head_begins : {xs ys zs : List Tok} {ss : List Spec} {h : Head} → Takes (Specified N at_file_scope) xs ss ys
      → Headed N xs zs h → begins_head ys ≡ true
  head_begins t (head {ys = ys'} {ss = ss'} p c d s q) =
      let k = t.only ss' ys' d in
      let e : begins_head ys' ≡ true = rw (stars_skip s.stars, c) refl in
      rw k.1 at e

  body_specified : {l c : ℕ} {xs ys : List Tok} {a : Aggregate} → c ≡ semicolon → Aggregated N xs (mark l c ∷ ys) a
      → Specified N at_file_scope xs (mark l c ∷ ys) (body a ∷ [])
  body_specified e d = specified refl (more_specs (with_members refl d) (no_specs refl))

  specified_body : {xs ys : List Tok} {ss : List Spec} {a : Aggregate} → ss ≡ body a ∷ []
      → Specified N at_file_scope xs ys ss → Aggregated N xs ys a
  specified_body e (specified n (no_specs b)) = absurd cc
  specified_body e (specified n (more_specs (type_word d l) r)) = absurd cc
  specified_body e (specified n (more_specs (storage h w) r)) = absurd cc
  specified_body {a = a} e (specified n (more_specs (with_members {a = b} h d) (no_specs k))) = let q : b ≡ a = cc in
      rw q at d
  specified_body e (specified n (more_specs (with_members h d) (more_specs f r))) = absurd cc

  -- ---- what an item comes to behind its words

  data Heads : List Tok → List Tok → Item → Type 0 where
    defined : {xs ys : List Tok} {f : Function} → Defines N xs ys f → Heads xs ys (tree.defines f)
    declared : {l c : ℕ} {xs ys : List Tok} {h : Head} → c ≡ semicolon → Headed N xs (mark l c ∷ ys) h
        → Heads xs ys (tree.prototype h)

  data Ends (ss : List Spec) (ys : List Tok) : List Tok → Item → Type 0 where
    at_end : {l c : ℕ} {zs : List Tok} {a : Aggregate} → c ≡ semicolon → ss ≡ body a ∷ [] → ys ≡ mark l c ∷ zs
        → Ends ss ys zs (tree.completes a)
    at_inits : {zs : List Tok} {is : List Init} → Inits N ys zs is
        → Ends ss ys zs (tree.declares_all (record { line = specs_line ss; specs = ss; inits = is }))

  heads : {xs ys zs : List Tok} {ss : List Spec} {i : Item} → Takes (Specified N at_file_scope) xs ss ys
      → begins_head ys ≡ true → Worded N xs zs i → Heads xs zs i
  heads t b (defines d) = defined d
  heads t b (prototype e d) = declared e d
  heads {ys = ys} t b (declares (variables {ys = ys'} {ss = ss'} d i)) = let k = t.only ss' ys' d in
      absurd (both_ways (begins_head ys) (inits_not (rw k.1 at i)) b)
  heads {ys = ys} t b (completes {l = l} {c = c} {ys = zs} {a = a} e d) =
      let k = t.only (body a ∷ []) (mark l c ∷ zs) (body_specified e d) in
      let f : begins_head ys ≡ false = rw (← k.1) (at_semicolon l c zs e) in absurd (both_ways (begins_head ys) f b)

  ends : {xs ys zs : List Tok} {ss : List Spec} {i : Item} → Takes (Specified N at_file_scope) xs ss ys
      → begins_head ys ≡ false → Worded N xs zs i → Ends ss ys zs i
  ends {ys = ys} t b (defines (function n d e)) = absurd (both_ways (begins_head ys) b (head_begins t d))
  ends {ys = ys} t b (prototype e d) = absurd (both_ways (begins_head ys) b (head_begins t d))
  ends t b (declares (variables {ys = ys'} {ss = ss'} d i)) = let k = t.only ss' ys' d in
      rw k.0 (at_inits (rw k.1 at i))
  ends t b (completes {l = l} {c = c} {ys = zs} {a = a} e d) = let k =
      t.only (body a ∷ []) (mark l c ∷ zs) (body_specified e d) in at_end e (sym k.0) (sym k.1)

  -- ---- items that begin with words

  words_never : {xs ys : List Tok} {i : Item} → TakesNone (Specified N at_file_scope) xs → Worded N xs ys i → ⊥
  words_never n (defines (function q (head {ys = ys} {ss = ss} p c d s r) b)) = n.never ss ys d
  words_never n (prototype e (head {ys = ys} {ss = ss} p c d s r)) = n.never ss ys d
  words_never n (declares (variables {ys = ys} {ss = ss} d i)) = n.never ss ys d
  words_never n (completes {l = l} {c = c} {ys = ys} {a = a} e d) =
      n.never (body a ∷ []) (mark l c ∷ ys) (body_specified e d)

  pub words_refused : (xs : List Tok) → TakesNone (Specified N at_file_scope) xs → TakesNone (Worded N) xs
  words_refused xs n = record { never = λ i ys d. words_never n d }

  module _ (xs ys : List Tok) (ss : List Spec) (t : Takes (Specified N at_file_scope) xs ss ys) where
    -- where a head goes on

    head_never : {zs : List Tok} {i : Item} → TakesNone (Headed N) xs → Heads xs zs i → ⊥
    head_never n (defined (function {ys = us} {h = h} q d b)) = n.never h us d
    head_never n (declared {l = l} {c = c} {ys = zs} {h = h} e d) = n.never h (mark l c ∷ zs) d

    pub head_refused : begins_head ys ≡ true → TakesNone (Headed N) xs → TakesNone (Worded N) xs
    head_refused b n = record { never = λ i zs d. head_never n (heads t b d) }

    prototype_only : {vs zs : List Tok} {l c : ℕ} {h : Head} {i : Item} → c ≡ semicolon
        → Takes (Headed N) xs h (mark l c ∷ vs) → Heads xs zs i → (i ≡ tree.prototype h) × (zs ≡ vs)
    prototype_only e k (defined (function {ys = us} {zs = zs} {h = h'} {b = b} q d f)) = let p = k.only h' us d in
        absurd (blocks_no_semicolon e (rw p.1 at f))
    prototype_only e k (declared {l = m} {c = d'} {ys = zs} {h = h'} f d) = let p = k.only h' (mark m d' ∷ zs) d in
        (rw p.0 refl, tail_is p.1)

    pub prototype_taken : begins_head ys ≡ true → (us vs : List Tok) (l : ℕ) (h : Head) → Takes (Headed N) xs h us
        → AtMark semicolon us (Some (l, vs)) → Takes (Worded N) xs (tree.prototype h) vs
    prototype_taken b us vs l h k m =
        let k' : Takes (Headed N) xs h (mark l m.0 ∷ vs) = rw m.2 at k in
        record { holds = prototype m.1 k'.holds; only = λ i zs d. prototype_only m.1 k' (heads t b d) }

    define_never : {us zs : List Tok} {h : Head} {i : Item} → Takes (Headed N) xs h us → Lacks semicolon us
        → TakesNone (Defines N) xs → Heads xs zs i → ⊥
    define_never {zs = zs} k m n (defined {f = f} d) = n.never f zs d
    define_never {us = us} k m n (declared {l = l} {c = c} {ys = zs} {h = h'} e d) = let p =
        k.only h' (mark l c ∷ zs) d in lacks_is l c semicolon us zs m (sym p.1) e

    pub define_refused : begins_head ys ≡ true → (us : List Tok) (h : Head) → Takes (Headed N) xs h us
        → Lacks semicolon us → TakesNone (Defines N) xs → TakesNone (Worded N) xs
    define_refused b us h k m n = record { never = λ i zs d. define_never k m n (heads t b d) }

    define_only : {us vs zs : List Tok} {h : Head} {f : Function} {i : Item} → Takes (Headed N) xs h us
        → Lacks semicolon us → Takes (Defines N) xs f vs → Heads xs zs i → (i ≡ tree.defines f) × (zs ≡ vs)
    define_only k m n (defined {ys = zs} {f = f'} d) = let p = n.only f' zs d in (rw p.0 refl, p.1)
    define_only {us = us} k m n (declared {l = l} {c = c} {ys = zs} {h = h'} e d) = let p =
        k.only h' (mark l c ∷ zs) d in absurd (lacks_is l c semicolon us zs m (sym p.1) e)

    pub define_taken : begins_head ys ≡ true → (us vs : List Tok) (h : Head) (f : Function) → Takes (Headed N) xs h us
        → Lacks semicolon us → Takes (Defines N) xs f vs → Takes (Worded N) xs (tree.defines f) vs
    define_taken b us vs h f k m n = record {
      holds = defines n.holds;
      only = λ i zs d. define_only k m n (heads t b d);
    }

    -- where none goes on

    complete_only : {vs zs : List Tok} {l c : ℕ} {a : Aggregate} {i : Item} → c ≡ semicolon → ys ≡ mark l c ∷ vs
        → ss ≡ body a ∷ [] → Ends ss ys zs i → (i ≡ tree.completes a) × (zs ≡ vs)
    complete_only e f k (at_end g k' f') = (rw (one_body k k') refl, tail_is (sym f' ∙ f))
    complete_only e f k (at_inits d) = absurd (inits_no_semicolon e (rw f at d))

    pub complete_taken : begins_head ys ≡ false → (vs : List Tok) (l : ℕ) (a : Aggregate)
        → AtMark semicolon ys (Some (l, vs)) → ss ≡ body a ∷ [] → Takes (Worded N) xs (tree.completes a) vs
    complete_taken b vs l a m k = record {
      holds = completes m.1 (specified_body k (rw m.2 at t.holds));
      only = λ i zs d. complete_only m.1 m.2 k (ends t b d);
    }

    alone_never : {vs zs : List Tok} {l c : ℕ} {i : Item} → c ≡ semicolon → ys ≡ mark l c ∷ vs → is_one_body ss ≡ false
        → Ends ss ys zs i → ⊥
    alone_never e f k (at_end g k' f') = both_ways (is_one_body ss) k (rw k' refl)
    alone_never e f k (at_inits d) = inits_no_semicolon e (rw f at d)

    pub alone_refused : begins_head ys ≡ false → (vs : List Tok) (l : ℕ) → AtMark semicolon ys (Some (l, vs))
        → is_one_body ss ≡ false → TakesNone (Worded N) xs
    alone_refused b vs l m k = record { never = λ i zs d. alone_never m.1 m.2 k (ends t b d) }

    inits_never : {zs : List Tok} {i : Item} → Lacks semicolon ys → TakesNone (Inits N) ys → Ends ss ys zs i → ⊥
    inits_never m n (at_end {l = l} {c = c} {zs = zs} e k f) = lacks_is l c semicolon ys zs m f e
    inits_never m n (at_inits {zs = zs} {is = is} d) = n.never is zs d

    pub inits_refused : begins_head ys ≡ false → Lacks semicolon ys → TakesNone (Inits N) ys → TakesNone (Worded N) xs
    inits_refused b m n = record { never = λ i zs d. inits_never m n (ends t b d) }

    inits_only : {vs zs : List Tok} {is : List Init} {i : Item} → Lacks semicolon ys → Takes (Inits N) ys is vs
        → Ends ss ys zs i → (i ≡ tree.declares_all (record { line = specs_line ss; specs = ss; inits = is }))
        × (zs ≡ vs)
    inits_only m n (at_end {l = l} {c = c} {zs = zs} e k f) = absurd (lacks_is l c semicolon ys zs m f e)
    inits_only m n (at_inits {zs = zs} {is = is'} d) = let p = n.only is' zs d in (rw p.0 refl, p.1)

    pub inits_taken : begins_head ys ≡ false → (vs : List Tok) (is : List Init) → Lacks semicolon ys
        → Takes (Inits N) ys is vs → Takes (Worded N) xs
        (tree.declares_all (record { line = specs_line ss; specs = ss; inits = is })) vs
    inits_taken b vs is m n = record {
      holds = declares (variables t.holds n.holds);
      only = λ i zs d. inits_only m n (ends t b d);
    }

  -- ---- all items

  abbrev After : Type 0
  After = Item × (List ℕ → Bool)

  to_worded : {M : List ℕ → Bool} {xs zs : List Tok} {i : Item} → LacksWord typedef_word xs → LacksIf xs
      → OneItem N M xs zs i → (M ≡ N) × Worded N xs zs i
  to_worded h k (programs.typedefs e d f) = absurd (h e)
  to_worded h k (programs.defines d) = (refl, defines d)
  to_worded h k (programs.prototype e d) = (refl, prototype e d)
  to_worded h k (programs.declares d) = (refl, declares d)
  to_worded h k (programs.completes e d) = (refl, completes e d)
  to_worded h k (programs.arms little f g) = absurd k
  to_worded h k (programs.arms big f g) = absurd k

  of_worded : {xs zs : List Tok} {i : Item} → Worded N xs zs i → OneItem N N xs zs i
  of_worded (defines d) = programs.defines d
  of_worded (prototype e d) = programs.prototype e d
  of_worded (declares d) = programs.declares d
  of_worded (completes e d) = programs.completes e d

  pair_is : (u : Item × (List ℕ → Bool)) (i : Item) (M : List ℕ → Bool) → u.0 ≡ i → u.1 ≡ M → u ≡ (i, M)
  pair_is u i M e f = rw (← e, ← f) refl

  pub worded_taken : (xs zs : List Tok) (i : Item) → LacksWord typedef_word xs → LacksIf xs → Takes (Worded N) xs i zs
      → Takes (Itemed N) xs (i, N) zs
  worded_taken xs zs i h k t = record {
    holds = of_worded t.holds;
    only = λ u vs d. let p = to_worded h k d in let q = t.only u.0 vs p.1 in (pair_is u i N q.0 p.0, q.1);
  }

  pub worded_refused : (xs : List Tok) → LacksWord typedef_word xs → LacksIf xs → TakesNone (Worded N) xs
      → TakesNone (Itemed N) xs
  worded_refused xs h k n = record { never = λ u vs d. n.never u.0 vs (to_worded h k d).1 }

  -- behind the word `typedef`

  to_types : {M : List ℕ → Bool} {l c : ℕ} {us zs : List Tok} {i : Item} → c ≡ typedef_word
      → OneItem N M (word l c ∷ us) zs i → NewTypes N l us zs (i, M)
  to_types e (programs.typedefs f d k) = new_types d k
  to_types e (programs.defines d) = absurd (worded_not N (rw e refl) (defines d))
  to_types e (programs.prototype f d) = absurd (worded_not N (rw e refl) (prototype f d))
  to_types e (programs.declares d) = absurd (worded_not N (rw e refl) (declares d))
  to_types e (programs.completes f d) = absurd (worded_not N (rw e refl) (completes f d))
  to_types e (programs.arms i f g) = elim i [ ]

  of_types : {l c : ℕ} {us zs : List Tok} {v : Item × (List ℕ → Bool)} → c ≡ typedef_word → NewTypes N l us zs v
      → OneItem N v.1 (word l c ∷ us) zs v.0
  of_types e (new_types d k) = programs.typedefs e d k

  pub types_taken : (xs us zs : List Tok) (l c : ℕ) (v : Item × (List ℕ → Bool)) → c ≡ typedef_word → xs ≡ word l c ∷ us
      → Takes (NewTypes N l) us v zs → Takes (Itemed N) xs v zs
  types_taken xs us zs l c v e f t = rw f (record {
    holds = of_types e t.holds;
    only = λ u vs d. t.only u vs (to_types e d);
  })

  pub types_refused : (xs us : List Tok) (l c : ℕ) → c ≡ typedef_word → xs ≡ word l c ∷ us → TakesNone (NewTypes N l) us
      → TakesNone (Itemed N) xs
  types_refused xs us l c e f n = rw f (record { never = λ u vs d. n.never u vs (to_types e d) })

  new_only : {l : ℕ} {us ys zs ws : List Tok} {ss : List Spec} {v : List Declarator × (List ℕ → Bool)}
      {u : Item × (List ℕ → Bool)} → Takes (Specified N grammar.in_typedef) us ss ys
      → Takes (NamesTypes N) ys v zs → NewTypes N l us ws u
      → (u ≡ (tree.typedefs (record { line = l; specs = ss; declarators = v.0 }), v.1)) × (ws ≡ zs)
  new_only t k (new_types {after = after} {ys = ys'} {zs = ws} {ss = ss'} {ds = ds'} d e) =
      let p = t.only ss' ys' d in
      let q = k.only (ds', after) ws (rw p.1 at e) in
      (rw (p.0, ← q.0) refl, q.1)

  pub new_taken : (l : ℕ) (us ys zs : List Tok) (ss : List Spec) (v : List Declarator × (List ℕ → Bool))
      → Takes (Specified N grammar.in_typedef) us ss ys
      → Takes (NamesTypes N) ys v zs
      → Takes (NewTypes N l) us (tree.typedefs (record { line = l; specs = ss; declarators = v.0 }), v.1) zs
  new_taken l us ys zs ss v t k = record { holds = new_types t.holds k.holds; only = λ u ws d. new_only t k d }

  first_never : {l : ℕ} {us ws : List Tok} {u : Item × (List ℕ → Bool)} → TakesNone (Specified N grammar.in_typedef) us
      → NewTypes N l us ws u → ⊥
  first_never n (new_types {ys = ys} {ss = ss} d e) = n.never ss ys d

  pub first_refused : (l : ℕ) (us : List Tok) → TakesNone (Specified N grammar.in_typedef) us
      → TakesNone (NewTypes N l) us
  first_refused l us n = record { never = λ u ws d. first_never n d }

  second_never : {l : ℕ} {us ys ws : List Tok} {ss : List Spec} {u : Item × (List ℕ → Bool)}
      → Takes (Specified N grammar.in_typedef) us ss ys
      → TakesNone (NamesTypes N) ys → NewTypes N l us ws u → ⊥
  second_never t n (new_types {after = after} {ys = ys'} {zs = ws} {ss = ss'} {ds = ds'} d e) = let p =
      t.only ss' ys' d in n.never (ds', after) ws (rw p.1 at e)

  pub second_refused : (l : ℕ) (us ys : List Tok) (ss : List Spec) → Takes (Specified N grammar.in_typedef) us ss ys
      → TakesNone (NamesTypes N) ys → TakesNone (NewTypes N l) us
  second_refused l us ys ss t n = record { never = λ u ws d. second_never t n d }

  -- behind an `#if`

  to_arms : {M : List ℕ → Bool} {l : ℕ} {us zs : List Tok} {i : Item} (o : NamedOrder)
      → OneItem N M (order_token o l ∷ us) zs i → (M ≡ N) × Arms N l o us zs i
  to_arms Little (programs.defines d) = absurd (worded_not N refl (defines d))
  to_arms Little (programs.prototype f d) = absurd (worded_not N refl (prototype f d))
  to_arms Little (programs.declares d) = absurd (worded_not N refl (declares d))
  to_arms Little (programs.completes f d) = absurd (worded_not N refl (completes f d))
  to_arms Little (programs.arms little f g) = (refl, arms f g)
  to_arms Big (programs.defines d) = absurd (worded_not N refl (defines d))
  to_arms Big (programs.prototype f d) = absurd (worded_not N refl (prototype f d))
  to_arms Big (programs.declares d) = absurd (worded_not N refl (declares d))
  to_arms Big (programs.completes f d) = absurd (worded_not N refl (completes f d))
  to_arms Big (programs.arms big f g) = (refl, arms f g)

  of_arms : {l : ℕ} {us zs : List Tok} {i : Item} (o : NamedOrder) → Arms N l o us zs i
      → OneItem N N (order_token o l ∷ us) zs i
  of_arms Little (arms f g) = programs.arms little f g
  of_arms Big (arms f g) = programs.arms big f g

  pub arms_taken : (xs us zs : List Tok) (l : ℕ) (o : NamedOrder) (i : Item) → xs ≡ order_token o l ∷ us
      → Takes (Arms N l o) us i zs → Takes (Itemed N) xs (i, N) zs
  arms_taken xs us zs l o i e t = rw e (record {
    holds = of_arms o t.holds;
    only = λ u vs d. let p = to_arms o d in let q = t.only u.0 vs p.1 in (pair_is u i N q.0 p.0, q.1);
  })

  pub arms_refused : (xs us : List Tok) (l : ℕ) (o : NamedOrder) → xs ≡ order_token o l ∷ us → TakesNone (Arms N l o) us
      → TakesNone (Itemed N) xs
  arms_refused xs us l o e n = rw e (record { never = λ u vs d. n.never u.0 vs (to_arms o d).1 })
