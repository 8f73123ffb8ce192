-- Functions with their bodies, alone and in the arms of a conditional.
use Rattle.std.proofs.Common.{◌≡◌, ℕ, Bool, true, false, List, [], ◌∷◌, ◌++◌, Option, Some, None, refl, sym, ap, ◌∙◌}
use Rattle.std.proofs.lemmas.Bool.{both_ways}
use Rattle.std.proofs.Common.{append_assoc, subst}
use Rattle.std.proofs.lemmas.List.{append-nil}
use Rattle.ep_ast.specs.declared.orders.NamedOrder.{NamedOrder}
use Rattle.ep_ast.specs.Token.{Tok, word, name, number, mark, if_little, if_big, other, end_if}
use Rattle.ep_ast.specs.Declaration.{Head}
use Rattle.ep_ast.specs.Statement as tree
use Rattle.ep_ast.specs.Statement.{Function, Block, Item}
use Rattle.ep_ast.specs.DeclarationGrammar.{at_file_scope, begins_spec, are_named, Specified, Headed, head}
use Rattle.ep_ast.specs.StatementGrammar.{Blocks}
use Rattle.ep_ast.specs.ProgramGrammar.{Defines, function, Functions, before_else, before_end, more_functions}
use Rattle.ep_ast.specs.ProgramGrammar.{OtherFunctions, no_other, another}
use Rattle.ep_ast.specs.Reading.{Takes, TakesNone}
use Rattle.ep_reading.proofs.FirstLemmas.{tail_is}
use Rattle.ep_reading.specs.Look.{ends_arm, LacksElse, LacksEndIf}
use Rattle.ep_decls.specs.Answer.{Arms, arms}
use Rattle.ep_decls.proofs.BeginLemmas.{defines_not}

abbrev made : Head → Block → Function
made h b = record { line = h.line; head = h; body = b }

module _ (N : List ℕ → Bool) where
  -- ---- one function

  words_never : {xs ys : List Tok} {f : Function} → TakesNone (Specified N at_file_scope) xs → Defines N xs ys f → ⊥
  words_never n (function q (head {ys = ys} {ss = ss} p c d s r) b) = n.never ss ys d

  pub words_refused : (xs : List Tok) → TakesNone (Specified N at_file_scope) xs → TakesNone (Defines N) xs
  words_refused xs n = record { never = λ f ys d. words_never n d }

  head_never : {xs ys : List Tok} {f : Function} → TakesNone (Headed N) xs → Defines N xs ys f → ⊥
  head_never n (function {ys = ys} {h = h} q d b) = n.never h ys d

  pub head_refused : (xs : List Tok) → TakesNone (Headed N) xs → TakesNone (Defines N) xs
  head_refused xs n = record { never = λ f ys d. head_never n d }

  unnamed_never : {xs ys zs : List Tok} {h : Head} {f : Function} → Takes (Headed N) xs h ys
      → are_named h.params ≡ false → Defines N xs zs f → ⊥
  unnamed_never {h = h} t n (function {ys = ys'} {h = h'} q d b) = let k = t.only h' ys' d in
      both_ways (are_named h.params) n (rw k.0 at q)

  pub unnamed_refused : (xs ys : List Tok) (h : Head) → Takes (Headed N) xs h ys → are_named h.params ≡ false
      → TakesNone (Defines N) xs
  unnamed_refused xs ys h t n = record { never = λ f zs d. unnamed_never t n d }

  body_never : {xs ys zs : List Tok} {h : Head} {f : Function} → Takes (Headed N) xs h ys → TakesNone (Blocks N) ys
      → Defines N xs zs f → ⊥
  body_never t n (function {ys = ys'} {zs = zs} {h = h'} {b = b'} q d b) = let k = t.only h' ys' d in
      n.never b' zs (rw k.1 at b)

  pub body_refused : (xs ys : List Tok) (h : Head) → Takes (Headed N) xs h ys → TakesNone (Blocks N) ys
      → TakesNone (Defines N) xs
  body_refused xs ys h t n = record { never = λ f zs d. body_never t n d }

  defines_only : {xs ys zs ws : List Tok} {h : Head} {b : Block} {f : Function} → Takes (Headed N) xs h ys
      → Takes (Blocks N) ys b zs → Defines N xs ws f → (f ≡ made h b) × (ws ≡ zs)
  defines_only t k (function {ys = ys'} {zs = ws} {h = h'} {b = b'} n d e) =
      let p = t.only h' ys' d in
      let q = k.only b' ws (rw p.1 at e) in
      (rw (p.0, q.0) refl, q.1)

  pub defines_taken : (xs ys zs : List Tok) (h : Head) (b : Block) → are_named h.params ≡ true
      → Takes (Headed N) xs h ys → Takes (Blocks N) ys b zs
      → Takes (Defines N) xs (record { line = h.line; head = h; body = b }) zs
  defines_taken xs ys zs h b n t k = record { holds = function n t.holds k.holds; only = λ f ws d. defines_only t k d }

  -- ---- the functions of an arm

  -- these are read, and what comes are functions again
  pub record FunctionsSo (xs : List Tok) (front : List Function) (ys : List Tok) : Type 0 where
    pub forth : (zs : List Tok) (fs : List Function) → Functions N ys zs fs → Functions N xs zs (front ++ fs)
    pub back : (zs : List Tok) (fs : List Function) → Functions N xs zs fs
        → (more : List Function) × (fs ≡ front ++ more) × Functions N ys zs more

  one_more : (front : List Function) {ys zs us : List Tok} {f : Function} {fs rest : List Function}
      → Takes (Defines N) ys f zs → fs ≡ front ++ rest → Functions N ys us rest
      → (more : List Function) × (fs ≡ (front ++ f ∷ []) ++ more) × Functions N zs us more
  one_more front t e before_else = absurd (defines_not N refl t.holds)
  one_more front t e before_end = absurd (defines_not N refl t.holds)
  one_more front {f = f} t e (more_functions {ys = ys'} {zs = us} {f = f'} {fs = fs'} d r) =
      let q = t.only f' ys' d in
      (fs', e ∙ ap (λ (x : Function). front ++ x ∷ fs') q.0 ∙ sym (append_assoc front (f ∷ []) fs'), rw (← q.1) r)

  pub functions_step : (xs : List Tok) (front : List Function) (ys zs : List Tok) (f : Function)
      → FunctionsSo xs front ys → Takes (Defines N) ys f zs → FunctionsSo xs (front ++ f ∷ []) zs
  functions_step xs front ys zs f s t = record {
    forth = λ us fs d. rw append_assoc (s.forth us (f ∷ fs) (more_functions t.holds d));
    back = λ us fs d. let q = s.back us fs d in one_more front t q.1 q.2;
  }

  not_begun : (ys : List Tok) → ends_arm ys ≡ true → begins_spec N at_file_scope ys ≡ false
  not_begun [] h = absurd cc
  not_begun (word l c ∷ ts) h = absurd cc
  not_begun (name l c ∷ ts) h = absurd cc
  not_begun (number l c ∷ ts) h = absurd cc
  not_begun (mark l c ∷ ts) h = absurd cc
  not_begun (if_little l ∷ ts) h = absurd cc
  not_begun (if_big l ∷ ts) h = absurd cc
  not_begun (other l ∷ ts) h = refl
  not_begun (end_if l ∷ ts) h = refl

  none_here : (ys : List Tok) → ends_arm ys ≡ true → Functions N ys ys []
  none_here [] h = absurd cc
  none_here (word l c ∷ ts) h = absurd cc
  none_here (name l c ∷ ts) h = absurd cc
  none_here (number l c ∷ ts) h = absurd cc
  none_here (mark l c ∷ ts) h = absurd cc
  none_here (if_little l ∷ ts) h = absurd cc
  none_here (if_big l ∷ ts) h = absurd cc
  none_here (other l ∷ ts) h = before_else
  none_here (end_if l ∷ ts) h = before_end

  none_only : {ys zs : List Tok} {fs : List Function} → ends_arm ys ≡ true → Functions N ys zs fs
      → (fs ≡ []) × (zs ≡ ys)
  none_only h before_else = (refl, refl)
  none_only h before_end = (refl, refl)
  none_only h (more_functions {xs = ys} d r) = absurd (defines_not N (not_begun ys h) d)

  pub functions_done : (xs : List Tok) (front : List Function) (ys : List Tok) → FunctionsSo xs front ys
      → ends_arm ys ≡ true → Takes (Functions N) xs front ys
  functions_done xs front ys s h = record {
    holds = rw append-nil at (s.forth ys [] (none_here ys h));
    only = λ fs zs d. let q = s.back zs fs d in let r = none_only h q.2 in
        (q.1 ∙ ap (λ (us : List Function). front ++ us) r.0 ∙ append-nil front, r.1);
  }

  none_never : {ys zs : List Tok} {fs : List Function} → ends_arm ys ≡ false → TakesNone (Defines N) ys
      → Functions N ys zs fs → ⊥
  none_never h n before_else = absurd cc
  none_never h n before_end = absurd cc
  none_never h n (more_functions {ys = ys} {f = f} d r) = n.never f ys d

  pub functions_refused : (xs : List Tok) (front : List Function) (ys : List Tok) → FunctionsSo xs front ys
      → ends_arm ys ≡ false → TakesNone (Defines N) ys → TakesNone (Functions N) xs
  functions_refused xs front ys s h n = record { never = λ fs zs d. let q = s.back zs fs d in none_never h n q.2 }

  -- ---- behind the first arm

  no_other_only : {l : ℕ} {ys zs : List Tok} {gs : Option (List Function)} → OtherFunctions N (end_if l ∷ ys) zs gs
      → (gs ≡ None) × (zs ≡ ys)
  no_other_only no_other = (refl, refl)

  pub end_taken : (xs ys : List Tok) (l : ℕ) → xs ≡ end_if l ∷ ys → Takes (OtherFunctions N) xs None ys
  end_taken xs ys l e = rw e (record { holds = no_other; only = λ gs zs d. no_other_only d })

  neither_never : {xs ys : List Tok} {gs : Option (List Function)} → LacksEndIf xs → LacksElse xs
      → OtherFunctions N xs ys gs → ⊥
  neither_never h k no_other = h
  neither_never h k (another d) = k

  pub neither_refused : (xs : List Tok) → LacksEndIf xs → LacksElse xs → TakesNone (OtherFunctions N) xs
  neither_refused xs h k = record { never = λ gs ys d. neither_never h k d }

  inside_never : {l : ℕ} {us ys : List Tok} {gs : Option (List Function)} → TakesNone (Functions N) us
      → OtherFunctions N (other l ∷ us) ys gs → ⊥
  inside_never n (another {m = m} {ys = ys} {fs = fs} d) = n.never fs (end_if m ∷ ys) d

  pub inside_refused : (xs us : List Tok) (l : ℕ) → xs ≡ other l ∷ us → TakesNone (Functions N) us
      → TakesNone (OtherFunctions N) xs
  inside_refused xs us l e n = rw e (record { never = λ gs ys d. inside_never n d })

  end_is : (m : ℕ) (ys zs : List Tok) → LacksEndIf ys → ys ≡ end_if m ∷ zs → ⊥
  end_is m ys zs k e = let L : List Tok → Type 0 = λ ts. LacksEndIf ts in subst L e k

  open_never : {l : ℕ} {us vs ys : List Tok} {fs : List Function} {gs : Option (List Function)}
      → Takes (Functions N) us fs vs → LacksEndIf vs → OtherFunctions N (other l ∷ us) ys gs → ⊥
  open_never {vs = vs} t k (another {m = m} {ys = ys} {fs = fs'} d) = let q = t.only fs' (end_if m ∷ ys) d in
      end_is m vs ys k (sym q.1)

  pub open_refused : (xs us vs : List Tok) (l : ℕ) (fs : List Function) → xs ≡ other l ∷ us
      → Takes (Functions N) us fs vs → LacksEndIf vs → TakesNone (OtherFunctions N) xs
  open_refused xs us vs l fs e t k = rw e (record { never = λ gs ys d. open_never t k d })

  another_only : {l m : ℕ} {us ys zs : List Tok} {fs : List Function} {gs : Option (List Function)}
      → Takes (Functions N) us fs (end_if m ∷ ys) → OtherFunctions N (other l ∷ us) zs gs → (gs ≡ Some fs) × (zs ≡ ys)
  another_only t (another {m = m'} {ys = zs} {fs = fs'} d) = let q = t.only fs' (end_if m' ∷ zs) d in
      (ap (λ (x : List Function). Some x) q.0, tail_is q.1)

  pub another_taken : (xs us vs ys : List Tok) (l m : ℕ) (fs : List Function) → xs ≡ other l ∷ us
      → Takes (Functions N) us fs vs → vs ≡ end_if m ∷ ys → Takes (OtherFunctions N) xs (Some fs) ys
  another_taken xs us vs ys l m fs e t k =
      let t' : Takes (Functions N) us fs (end_if m ∷ ys) = rw k at t in
      rw e (record { holds = another t'.holds; only = λ gs zs d. another_only t' d })

  -- ---- both arms

  then_never : {l : ℕ} {o : NamedOrder} {xs ys : List Tok} {i : Item} → TakesNone (Functions N) xs → Arms N l o xs ys i
      → ⊥
  then_never n (arms {ys = ys} {fs = fs} d e) = n.never fs ys d

  pub then_refused : (l : ℕ) (o : NamedOrder) (xs : List Tok) → TakesNone (Functions N) xs → TakesNone (Arms N l o) xs
  then_refused l o xs n = record { never = λ i ys d. then_never n d }

  otherwise_never : {l : ℕ} {o : NamedOrder} {xs ys zs : List Tok} {fs : List Function} {i : Item}
      → Takes (Functions N) xs fs ys → TakesNone (OtherFunctions N) ys → Arms N l o xs zs i → ⊥
  otherwise_never t n (arms {ys = ys'} {zs = zs} {fs = fs'} {gs = gs} d e) = let q = t.only fs' ys' d in
      n.never gs zs (rw q.1 at e)

  pub otherwise_refused : (l : ℕ) (o : NamedOrder) (xs ys : List Tok) (fs : List Function)
      → Takes (Functions N) xs fs ys → TakesNone (OtherFunctions N) ys → TakesNone (Arms N l o) xs
  otherwise_refused l o xs ys fs t n = record { never = λ i zs d. otherwise_never t n d }

  arms_only : {l : ℕ} {o : NamedOrder} {xs ys zs ws : List Tok} {fs : List Function} {gs : Option (List Function)}
      {i : Item} → Takes (Functions N) xs fs ys → Takes (OtherFunctions N) ys gs zs → Arms N l o xs ws i
      → (i ≡ tree.functions_by_order l o fs gs) × (ws ≡ zs)
  arms_only t k (arms {ys = ys'} {zs = ws} {fs = fs'} {gs = gs'} d e) =
      let p = t.only fs' ys' d in
      let q = k.only gs' ws (rw p.1 at e) in
      (rw (p.0, q.0) refl, q.1)

  pub arms_taken : (l : ℕ) (o : NamedOrder) (xs ys zs : List Tok) (fs : List Function) (gs : Option (List Function))
      → Takes (Functions N) xs fs ys → Takes (OtherFunctions N) ys gs zs
      → Takes (Arms N l o) xs (tree.functions_by_order l o fs gs) zs
  arms_taken l o xs ys zs fs gs t k = record { holds = arms t.holds k.holds; only = λ i ws d. arms_only t k d }
