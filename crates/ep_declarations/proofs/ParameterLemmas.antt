-- Parameters, one after the other up to the closing parenthesis.
use Rattle.std.proofs.Common.{◌≡◌, ℕ, Bool, true, false, List, [], ◌∷◌, ◌++◌, Option, Some, None, refl, sym, ap, ◌∙◌}
use Rattle.ep_int.proofs.Basics.{and-true}
use Rattle.std.proofs.Common.{append_assoc}
use Rattle.std.specs.Prelude.{◌==◌, ◌&&◌, is_some}
use Rattle.ep_ast.specs.Token.{Tok, word, name, number, mark, if_little, if_big, other, end_if}
use Rattle.ep_ast.specs.Expression.{Expr, TypeWord}
use Rattle.ep_ast.specs.Declaration as tree
use Rattle.ep_ast.specs.Declaration.{Param, Params}
use Rattle.ep_ast.specs.TypeWords.{OneWord, plain_word, type_name, tag, Words, no_words, more_words, AreType, AreStars}
use Rattle.ep_ast.specs.TypeWords.{words_line, names_type}
use Rattle.ep_ast.specs.DeclarationGrammar.{Bounds, param, lacks_name, OneParam, named, unnamed, SomeParams, last_param}
use Rattle.ep_ast.specs.DeclarationGrammar.{next_param, params_line, is_void_alone, Parameters, nothing, void_alone}
use Rattle.ep_ast.specs.DeclarationGrammar.{some}
use Rattle.ep_ast.specs.Mark.{void_word, right_paren, comma}
use Rattle.ep_ast.specs.Reading.{Takes, TakesNone, Lacks, LacksName, AtMark}
use Rattle.ep_reading.proofs.FirstLemmas.{tail_is, code_is, lacks_is, apart}
use Rattle.ep_declarations.specs.Parts.{first_line, AtVoid, all_named}

-- ---- names

named_is : {l m : ℕ} {text us : List ℕ} {xs ys : List Tok} → name l text ∷ xs ≡ name m us ∷ ys → (l ≡ m) × (text ≡ us)
named_is e = (cc, cc)

pub lacks_a_name : (ts : List Tok) → LacksName ts → lacks_name ts ≡ true
lacks_a_name [] h = refl
lacks_a_name (word l c ∷ ts) h = refl
lacks_a_name (name l text ∷ ts) h = absurd h
lacks_a_name (number l c ∷ ts) h = refl
lacks_a_name (mark l c ∷ ts) h = refl
lacks_a_name (if_little l ∷ ts) h = refl
lacks_a_name (if_big l ∷ ts) h = refl
lacks_a_name (other l ∷ ts) h = refl
lacks_a_name (end_if l ∷ ts) h = refl

no_name : (l : ℕ) (text : List ℕ) (ts us : List Tok) → lacks_name ts ≡ true → ts ≡ name l text ∷ us → ⊥
no_name l text ts us h e = let f : lacks_name (name l text ∷ us) ≡ true = rw e at h in cc

and_joins : (a b c : Bool) → (a && (b && c)) ≡ ((a && b) && c)
and_joins true b c = refl
and_joins false b c = refl

pub named_last : (ps : List Param) (p : Param) → all_named (ps ++ p ∷ []) ≡ (all_named ps && is_some p.name)
named_last [] p = and-true (is_some p.name)
named_last (q ∷ ps) p = rw (named_last ps p) (and_joins (is_some q.name) (all_named ps) (is_some p.name))

module _ (N : List ℕ → Bool) where
  -- ---- one

  -- where the words and the stars end is determined
  parts_only : {xs ys zs : List Tok} {ws us : List TypeWord} {ns ms : List ℕ} {vs qs : List Tok}
      → Takes (AreType N) xs ws ys → Takes AreStars ys ns zs → AreType N xs vs us → AreStars vs qs ms
      → (us ≡ ws) × (ms ≡ ns) × (qs ≡ zs)
  parts_only {us = us} {ms = ms} {vs = vs} {qs = qs} t s d e =
      let p = t.only us vs d in
      let q = s.only ms qs (rw p.1 at e) in
      (p.0, q.0, q.1)

  named_only : {l : ℕ} {text ns : List ℕ} {xs ys zs vs us : List Tok} {ws : List TypeWord} {bs : List (Option Expr)}
      {p : Param} → Takes (AreType N) xs ws ys → Takes AreStars ys ns (name l text ∷ zs) → Takes (Bounds N) zs bs vs
      → OneParam N xs us p → (p ≡ param l ws ns (Some text) bs) × (us ≡ vs)
  named_only {us = us} t s b (named {bs = bs'} h d e f) =
      let q = parts_only t s d e in
      let n = named_is q.2 in
      let r = b.only bs' us (rw (tail_is q.2) at f) in
      (rw (q.0, q.1, n.0, n.1, r.0) refl, r.1)
  named_only {l = l} {text = text} {zs = zs} t s b (unnamed {zs = qs} d e h f) = let q = parts_only t s d e in
      absurd (no_name l text qs zs h q.2)

  pub named_read : (xs ys zs us vs : List Tok) (l : ℕ) (text ns : List ℕ) (ws : List TypeWord) (bs : List (Option Expr))
      → Takes (AreType N) xs ws ys → Takes AreStars ys ns zs → zs ≡ name l text ∷ us → N text ≡ false
      → Takes (Bounds N) us bs vs
      → Takes (OneParam N) xs (param l ws ns (Some text) bs) vs
  named_read xs ys zs us vs l text ns ws bs t s k h b =
      let s' : Takes AreStars ys ns (name l text ∷ us) = rw k at s in
      record { holds = named h t.holds s'.holds b.holds; only = λ p qs d. named_only t s' b d }

  unnamed_only : {ns : List ℕ} {xs ys zs vs us : List Tok} {ws : List TypeWord} {bs : List (Option Expr)} {p : Param}
      → Takes (AreType N) xs ws ys → Takes AreStars ys ns zs → lacks_name zs ≡ true → Takes (Bounds N) zs bs vs
      → OneParam N xs us p → (p ≡ param (words_line ws) ws ns None bs) × (us ≡ vs)
  unnamed_only {zs = zs} t s k b (named {l = l} {text = text} {zs = qs} h d e f) = let q = parts_only t s d e in
      absurd (no_name l text zs qs k (sym q.2))
  unnamed_only {us = us} t s k b (unnamed {bs = bs'} d e h f) =
      let q = parts_only t s d e in
      let r = b.only bs' us (rw q.2 at f) in
      (rw (q.0, q.1, r.0) refl, r.1)

  pub unnamed_read : (xs ys zs vs : List Tok) (ns : List ℕ) (ws : List TypeWord) (bs : List (Option Expr))
      → Takes (AreType N) xs ws ys → Takes AreStars ys ns zs → LacksName zs → Takes (Bounds N) zs bs vs
      → Takes (OneParam N) xs (param (words_line ws) ws ns None bs) vs
  unnamed_read xs ys zs vs ns ws bs t s k b =
      record {
        holds = unnamed t.holds s.holds (lacks_a_name zs k) b.holds;
        only = λ p qs d. unnamed_only t s (lacks_a_name zs k) b d;
      }

  typed_never : {l : ℕ} {text ns : List ℕ} {xs ys zs us : List Tok} {ws : List TypeWord} {p : Param}
      → Takes (AreType N) xs ws ys → Takes AreStars ys ns (name l text ∷ zs) → N text ≡ true → OneParam N xs us p → ⊥
  typed_never {text = text} t s k (named {text = text'} h d e f) = let q = parts_only t s d e in let n = named_is q.2 in
      let g : N text ≡ false = rw n.1 at h in cc
  typed_never {l = l} {text = text} {zs = zs} t s k (unnamed {zs = qs} d e h f) = let q = parts_only t s d e in
      no_name l text qs zs h q.2

  -- the name is a type's
  pub typed_refused : (xs ys zs us : List Tok) (l : ℕ) (text ns : List ℕ) (ws : List TypeWord)
      → Takes (AreType N) xs ws ys → Takes AreStars ys ns zs → zs ≡ name l text ∷ us → N text ≡ true
      → TakesNone (OneParam N) xs
  typed_refused xs ys zs us l text ns ws t s k h =
      let s' : Takes AreStars ys ns (name l text ∷ us) = rw k at s in
      record { never = λ p qs d. typed_never t s' h d }

  named_never : {l : ℕ} {text ns : List ℕ} {xs ys zs us : List Tok} {ws : List TypeWord} {p : Param}
      → Takes (AreType N) xs ws ys → Takes AreStars ys ns (name l text ∷ zs) → TakesNone (Bounds N) zs
      → OneParam N xs us p → ⊥
  named_never {us = us} t s n (named {bs = bs} h d e f) = let q = parts_only t s d e in
      n.never bs us (rw (tail_is q.2) at f)
  named_never {l = l} {text = text} {zs = zs} t s n (unnamed {zs = qs} d e h f) = let q = parts_only t s d e in
      no_name l text qs zs h q.2

  pub named_refused : (xs ys zs us : List Tok) (l : ℕ) (text ns : List ℕ) (ws : List TypeWord)
      → Takes (AreType N) xs ws ys → Takes AreStars ys ns zs → zs ≡ name l text ∷ us → TakesNone (Bounds N) us
      → TakesNone (OneParam N) xs
  named_refused xs ys zs us l text ns ws t s k n =
      let s' : Takes AreStars ys ns (name l text ∷ us) = rw k at s in
      record { never = λ p qs d. named_never t s' n d }

  unnamed_never : {ns : List ℕ} {xs ys zs us : List Tok} {ws : List TypeWord} {p : Param} → Takes (AreType N) xs ws ys
      → Takes AreStars ys ns zs → lacks_name zs ≡ true → TakesNone (Bounds N) zs → OneParam N xs us p → ⊥
  unnamed_never {zs = zs} t s k n (named {l = l} {text = text} {zs = qs} h d e f) = let q = parts_only t s d e in
      no_name l text zs qs k (sym q.2)
  unnamed_never {us = us} t s k n (unnamed {bs = bs} d e h f) = let q = parts_only t s d e in
      n.never bs us (rw q.2 at f)

  pub unnamed_refused : (xs ys zs : List Tok) (ns : List ℕ) (ws : List TypeWord) → Takes (AreType N) xs ws ys
      → Takes AreStars ys ns zs → LacksName zs → TakesNone (Bounds N) zs → TakesNone (OneParam N) xs
  unnamed_refused xs ys zs ns ws t s k n = record { never = λ p qs d. unnamed_never t s (lacks_a_name zs k) n d }

  -- ---- lines

  word_line : {xs ys : List Tok} {w : TypeWord} (ws : List TypeWord) → OneWord N xs ys w
      → words_line (w ∷ ws) ≡ first_line xs
  word_line ws (plain_word h) = refl
  word_line ws (type_name h) = refl
  word_line ws (tag h) = refl

  some_line : {xs ys : List Tok} {ws : List TypeWord} → Words N xs ys ws → names_type ws ≡ true
      → words_line ws ≡ first_line xs
  some_line no_words h = absurd cc
  some_line (more_words {w = w} {ws = ws} d e) h = word_line ws d

  pub type_line : {xs ys : List Tok} {ws : List TypeWord} → AreType N xs ys ws → words_line ws ≡ first_line xs
  type_line t = some_line t.words t.named_type

  param_line : {xs ys : List Tok} {p : Param} → OneParam N xs ys p → words_line p.words ≡ first_line xs
  param_line (named h d e f) = type_line d
  param_line (unnamed d e h f) = type_line d

  pub all_line : {xs ys : List Tok} {ps : List Param} → SomeParams N xs ys ps → params_line ps ≡ first_line xs
  all_line (last_param k d) = param_line d
  all_line (next_param k d e) = param_line d

  -- ---- all

  -- these are read, and what comes is a list again
  pub record ParamsSo (xs : List Tok) (front : List Param) (ys : List Tok) : Type 0 where
    pub forth : (zs : List Tok) (ps : List Param) → SomeParams N ys zs ps → SomeParams N xs zs (front ++ ps)
    pub back : (zs : List Tok) (ps : List Param) → SomeParams N xs zs ps
        → (more : List Param) × (ps ≡ front ++ more) × SomeParams N ys zs more

  one_more : (front : List Param) {ys ws zs : List Tok} {m d : ℕ} {a : Param} {ps rest : List Param} → d ≡ comma
      → Takes (OneParam N) ys a (mark m d ∷ ws) → ps ≡ front ++ rest → SomeParams N ys zs rest
      → (more : List Param) × (ps ≡ (front ++ a ∷ []) ++ more) × SomeParams N ws zs more
  one_more front k r e (last_param {l = m'} {c = d'} {ys = ys'} {p = a'} k' f) = let q =
      r.only a' (mark m' d' ∷ ys') f in absurd (apart right_paren comma refl k' (code_is q.1 ∙ k))
  one_more front {a = a} k r e (next_param {l = m'} {c = d'} {ys = ys'} {p = a'} {ps = ps'} k' f g) =
      let q = r.only a' (mark m' d' ∷ ys') f in
      (ps', e ∙ ap (λ (b : Param). front ++ b ∷ ps') q.0 ∙ sym (append_assoc front (a ∷ []) ps'), rw (tail_is q.1) at g)

  pub params_step : (xs : List Tok) (front : List Param) (ys ws zs : List Tok) (l : ℕ) (a : Param)
      → ParamsSo xs front ys → Takes (OneParam N) ys a ws → AtMark comma ws (Some (l, zs))
      → ParamsSo xs (front ++ a ∷ []) zs
  params_step xs front ys ws zs l a s r k =
      let r' : Takes (OneParam N) ys a (mark l k.0 ∷ zs) = rw k.2 at r in
      record {
        forth = λ us ps e. rw append_assoc (s.forth us (a ∷ ps) (next_param k.1 r'.holds e));
        back = λ us ps e. let q = s.back us ps e in one_more front k.1 r' q.1 q.2;
      }

  at_last : (front : List Param) {ys ws zs : List Tok} {m d : ℕ} {a : Param} {ps rest : List Param} → d ≡ right_paren
      → Takes (OneParam N) ys a (mark m d ∷ ws) → ps ≡ front ++ rest → SomeParams N ys zs rest
      → (ps ≡ front ++ a ∷ []) × (zs ≡ ws)
  at_last front k r e (last_param {l = m'} {c = d'} {ys = ys'} {p = a'} k' f) = let q =
      r.only a' (mark m' d' ∷ ys') f in (e ∙ ap (λ (b : Param). front ++ b ∷ []) q.0, tail_is q.1)
  at_last front k r e (next_param {l = m'} {c = d'} {ys = ys'} {p = a'} k' f g) = let q =
      r.only a' (mark m' d' ∷ ys') f in absurd (apart comma right_paren refl k' (code_is q.1 ∙ k))

  pub params_done : (xs : List Tok) (front : List Param) (ys ws zs : List Tok) (l : ℕ) (a : Param)
      → ParamsSo xs front ys → Takes (OneParam N) ys a ws → AtMark right_paren ws (Some (l, zs))
      → Takes (SomeParams N) xs (front ++ a ∷ []) zs
  params_done xs front ys ws zs l a s r k =
      let r' : Takes (OneParam N) ys a (mark l k.0 ∷ zs) = rw k.2 at r in
      record {
        holds = s.forth zs (a ∷ []) (last_param k.1 r'.holds);
        only = λ ps us e. let q = s.back us ps e in
            at_last front k.1 r' q.1 q.2;
      }

  gap_never : {ys ws zs : List Tok} {a : Param} {ps : List Param} → Takes (OneParam N) ys a ws → Lacks right_paren ws
      → Lacks comma ws → SomeParams N ys zs ps → ⊥
  gap_never {ws = ws} r n o (last_param {l = m} {c = d} {ys = ys} {p = a} k e) = let q = r.only a (mark m d ∷ ys) e in
      lacks_is m d right_paren ws ys n (sym q.1) k
  gap_never {ws = ws} r n o (next_param {l = m} {c = d} {ys = ys} {p = a} k e g) = let q = r.only a (mark m d ∷ ys) e in
      lacks_is m d comma ws ys o (sym q.1) k

  pub gap_refused : (xs : List Tok) (front : List Param) (ys ws : List Tok) (a : Param) → ParamsSo xs front ys
      → Takes (OneParam N) ys a ws → Lacks right_paren ws → Lacks comma ws → TakesNone (SomeParams N) xs
  gap_refused xs front ys ws a s r k o = record { never = λ ps zs e. let q = s.back zs ps e in gap_never r k o q.2 }

  -- ---- what stands between the brackets

  no_words_here : {m d : ℕ} {xs ys : List Tok} {ws : List TypeWord} → AreType N (mark m d ∷ xs) ys ws → ⊥
  no_words_here t = bare t.words t.named_type
    where
      bare : {m d : ℕ} {xs ys : List Tok} {ws : List TypeWord} → Words N (mark m d ∷ xs) ys ws → names_type ws ≡ true
          → ⊥
      bare no_words h = cc
      bare (more_words d e) h = elim d [ ]

  no_param : {m d : ℕ} {xs ys : List Tok} {p : Param} → OneParam N (mark m d ∷ xs) ys p → ⊥
  no_param (named h d e f) = no_words_here d
  no_param (unnamed d e h f) = no_words_here d

  no_params : {m d : ℕ} {xs ys : List Tok} {ps : List Param} → SomeParams N (mark m d ∷ xs) ys ps → ⊥
  no_params (last_param k d) = no_param d
  no_params (next_param k d e) = no_param d

  nothing_only : {m d : ℕ} {xs ys : List Tok} {ps : Option Params} → Parameters N (mark m d ∷ xs) ys ps
      → (ps ≡ None) × (ys ≡ xs)
  nothing_only (nothing h) = (refl, refl)
  nothing_only (some v d) = absurd (no_params d)

  pub nothing_read : (xs ys : List Tok) (l : ℕ) → AtMark right_paren xs (Some (l, ys)) → Takes (Parameters N) xs None ys
  nothing_read xs ys l k = rw k.2 (record { holds = nothing k.1; only = λ ps zs d. nothing_only d })

  void_is : (c d : ℕ) → c ≡ void_word → d ≡ right_paren → (c == void_word && d == right_paren) ≡ false → ⊥
  void_is c d h k e = let f : (void_word == void_word && right_paren == right_paren) ≡ false = rw (h, k) at e in cc

  void_only : {l c m d : ℕ} {xs ys : List Tok} {ps : Option Params} → c ≡ void_word → d ≡ right_paren
      → Parameters N (word l c ∷ mark m d ∷ xs) ys ps → (ps ≡ Some (tree.void l)) × (ys ≡ xs)
  void_only h k (void_alone h' k') = (refl, refl)
  void_only {c = c} {d = d} h k (some v e) = absurd (void_is c d h k v)

  pub void_read : (xs ys : List Tok) (l : ℕ) → AtVoid xs (Some (l, ys))
      → Takes (Parameters N) xs (Some (tree.void l)) ys
  void_read xs ys l k = rw k.5 (record { holds = void_alone k.3 k.4; only = λ ps zs d. void_only k.3 k.4 d })

  some_is : {xs ys : List Tok} {qs : Option Params} → Lacks right_paren xs → is_void_alone xs ≡ false
      → Parameters N xs ys qs
      → (ps : List Param) × (qs ≡ Some (tree.some_params (params_line ps) ps)) × SomeParams N xs ys ps
  some_is n v (nothing h) = absurd (n h)
  some_is n v (void_alone {c = c} {d = d} h k) = absurd (void_is c d h k v)
  some_is n v (some {ps = ps} w d) = (ps, refl, d)

  pub some_read : (xs ys : List Tok) (ps : List Param) → Lacks right_paren xs → is_void_alone xs ≡ false
      → Takes (SomeParams N) xs ps ys → Takes (Parameters N) xs (Some (tree.some_params (first_line xs) ps)) ys
  some_read xs ys ps n v t =
      let e : params_line ps ≡ first_line xs = all_line t.holds in
      rw (← e) (
      record {
        holds = some v t.holds;
        only = λ qs zs d. let q = some_is n v d in let r = t.only q.0 zs q.2 in
            (q.1 ∙ ap (λ (us : List Param). Some (tree.some_params (params_line us) us)) r.0, r.1);
      }
      )

  pub none_refused : (xs : List Tok) → Lacks right_paren xs → is_void_alone xs ≡ false → TakesNone (SomeParams N) xs
      → TakesNone (Parameters N) xs
  none_refused xs n v t = record { never = λ qs zs d. let q = some_is n v d in t.never q.0 zs q.2 }
